-- The laws of commuting and of solved conflicts.
use Rattle.std.proofs.Common.{◌≡◌, ◌∙◌, ℕ, true, ◌&&◌, inl, inr, List, [], Option, Some, None, refl, sym, ap, subst}
use Rattle.std.specs.FinMap.{get}
use Rattle.ice_ids.specs.declared.Id8.{Id8}
use Rattle.ice_ids.specs.Text.{same_id8}
use Rattle.zarr_path.proofs.OrderLaws.{same_path-true, same_path-refl}
use Rattle.manifest_file.specs.declared.manifest.Place.{Place}
use Rattle.zarr_tree.specs.declared.cases.Case.{Case}
use Rattle.zarr_tree.specs.declared.cases.Case.TheVariants as case
use Rattle.zarr_tree.specs.declared.cases.Conflict.{Conflict}
use Rattle.zarr_tree.specs.Nodes.{Node, same_numbers}
use Rattle.zarr_tree.proofs.Apply.{both, first, second, id-true, id-refl}
use Rattle.zarr_tree.specs.Trees.{Tree}
use Rattle.zarr_tree.specs.Changes.{apply, IsNormal}
use Rattle.zarr_tree.specs.declared.lists.Touched.{Touched}
use Rattle.zarr_tree.specs.Held.{Held, changes_of}
use Rattle.zarr_tree.specs.Conflicts.{IsConflict, is_hard}
use Rattle.zarr_tree.proofs.Commute.{commute-law}
use Rattle.zarr_tree.proofs.Rebase.{rebase-law}
use Rattle.zarr_changes.specs.Edits.{lists_key}
use Rattle.zarr_changes.proofs.ChunkLaws.{taken-law}
use Rattle.conflicts.specs.declared.solving.Pick.{Pick}
use Rattle.conflicts.specs.declared.solving.Pick.TheVariants.{Fail, Ours, Theirs}
use Rattle.conflicts.specs.declared.solving.Policy.{Policy}
use Rattle.conflicts.specs.Found.{found}
use Rattle.conflicts.specs.Laws.{sides, IsGivenUp, GivenLaw, CommutingLaw, SolvedLaw}
use Rattle.conflicts.specs.Solving.{case_stays, given_by, given_up, key_at, keys_in}
use Rattle.conflicts.proofs.Members.{In, in-contains, contains-in, any-in, in-any, filter-in, in-flat, flat-in}
use Rattle.conflicts.proofs.Exactness.{made, exact-law}

none-in : {A : Type 0} (xs : List A) (y : A) → xs ≡ [] → In xs y → ⊥
none-in xs y e k = subst (λ zs. In zs y) e k

pub commuting-law : CommutingLaw
commuting-law bytes_at h d t s b ours_apart others_apart none =
    commute-law (changes_of bytes_at h) d t s b.well_formed b.ours b.others ours_apart others_apart b.touched
    (λ k p i x. none-in _ (made k p i) none (contains-in _ (made k p i) ((exact-law bytes_at h s t (apply d t) (made k p i)).1 x)))

hard-stays : (policy : Policy) (k : Case) (i : Option (List ℕ)) → is_hard k ≡ true → case_stays policy k i ≡ true
hard-stays policy case.NewNodeConflictsWithExistingNode i h = refl
hard-stays policy case.NewNodeInInvalidGroup i h = refl
hard-stays policy case.ZarrMetadataDoubleUpdate i h = refl
hard-stays policy case.ZarrMetadataUpdateOfDeletedArray i h = refl
hard-stays policy case.ZarrMetadataUpdateOfDeletedGroup i h = refl
hard-stays policy case.ChunkDoubleUpdate i h = cc
hard-stays policy case.ChunksUpdatedInDeletedArray i h = refl
hard-stays policy case.ChunksUpdatedInUpdatedArray i h = refl
hard-stays policy case.DeleteOfUpdatedArray i h = cc
hard-stays policy case.DeleteOfUpdatedGroup i h = cc

pub solved-law : SolvedLaw
solved-law bytes_at h d t s policy out b none =
    subst (λ c. IsNormal c (apply d t)) (sym (taken-law bytes_at h out))
    (rebase-law (changes_of bytes_at h) d t s (lists_key out) b.well_formed b.ours b.others b.unlike b.touched
    (λ k p i hard x. none-in _ (made k p i) none
    (filter-in (λ (y : Conflict). case_stays policy y.case y.index) _ (made k p i) (contains-in _ (made k p i) ((exact-law bytes_at h s t (apply d t) (made k p i)).1 x)) (hard-stays policy k i hard))))

-- ---- what is given up
record IsPlace (pick : Pick) (k : Case) (p : List ℕ) (i : Option (List ℕ)) (place : List ℕ × List ℕ) : Type 0 where
  theirs : pick ≡ Theirs
  twice : k ≡ case.ChunkDoubleUpdate
  path : p ≡ place.0
  index : i ≡ Some place.1

place-of : (pick : Pick) (k : Case) (p : List ℕ) (i : Option (List ℕ)) (place : List ℕ × List ℕ) → In (given_by pick k p i) place → IsPlace pick k p i place
place-of Fail k p i place h = absurd h
place-of Ours k p i place h = absurd h
place-of Theirs case.NewNodeConflictsWithExistingNode p i place h = absurd h
place-of Theirs case.NewNodeInInvalidGroup p i place h = absurd h
place-of Theirs case.ZarrMetadataDoubleUpdate p i place h = absurd h
place-of Theirs case.ZarrMetadataUpdateOfDeletedArray p i place h = absurd h
place-of Theirs case.ZarrMetadataUpdateOfDeletedGroup p i place h = absurd h
place-of Theirs case.ChunkDoubleUpdate p None place h = absurd h
place-of Theirs case.ChunkDoubleUpdate p (Some i) place (inl e) = record { theirs = refl; twice = refl; path = ap (λ (q : List ℕ × List ℕ). q.0) e; index = ap (λ (q : List ℕ × List ℕ). Some q.1) e }
place-of Theirs case.ChunkDoubleUpdate p (Some i) place (inr h) = absurd h
place-of Theirs case.ChunksUpdatedInDeletedArray p i place h = absurd h
place-of Theirs case.ChunksUpdatedInUpdatedArray p i place h = absurd h
place-of Theirs case.DeleteOfUpdatedArray p i place h = absurd h
place-of Theirs case.DeleteOfUpdatedGroup p i place h = absurd h

key-of : (o : Option Node) (i : List ℕ) (key : Id8 × List ℕ) → In (key_at o i) key → (n : Node) × (o ≡ Some n) × (n.id ≡ key.0) × (i ≡ key.1)
key-of None i key h = absurd h
key-of (Some n) i key (inl e) = (n, refl, ap (λ (k : Id8 × List ℕ). k.0) e, ap (λ (k : Id8 × List ℕ). k.1) e)
key-of (Some n) i key (inr h) = absurd h

module _ (bytes_at : Place → Option (List ℕ)) (h : Held Place) (s : Touched) (t u : Tree) (policy : Policy) (id : Id8) (i : List ℕ) where
  abbrev conflicts : List Conflict
  conflicts = found (sides h s t u)

  abbrev keys : List (Id8 × List ℕ)
  keys = keys_in t.nodes (given_up policy conflicts)

  given-sound : lists_key keys id i ≡ true → IsGivenUp policy (changes_of bytes_at h) s t u id i
  given-sound listed =
      let key = any-in (λ (key : Id8 × List ℕ). same_id8 key.0 id && same_numbers key.1 i) keys listed in
      let place = in-flat (λ (place : List ℕ × List ℕ). key_at (get t.nodes place.0) place.1) (given_up policy conflicts) key.0 key.1 in
      let node = key-of (get t.nodes place.0.0) place.0.1 key.0 place.2 in
      let x = in-flat (λ (x : Conflict). given_by policy.chunks x.case x.path x.index) conflicts place.0 place.1 in
      let is : IsPlace policy.chunks x.0.case x.0.path x.0.index place.0 = place-of policy.chunks x.0.case x.0.path x.0.index place.0 x.2 in
      let conflict : IsConflict (changes_of bytes_at h) s t u x.0.case x.0.path x.0.index = (exact-law bytes_at h s t u x.0).0 (in-contains conflicts x.0 x.1) in
      let index : place.0.1 ≡ i = node.3 ∙ same_path-true key.0.1 i (second (same_id8 key.0.0 id) _ key.2) in
      record {
        theirs = is.theirs;
        path = place.0.0;
        node = node.0;
        found = node.1;
        same = node.2 ∙ id-true key.0.0 id (first (same_id8 key.0.0 id) _ key.2);
        both = subst (λ (j : Option (List ℕ)). IsConflict (changes_of bytes_at h) s t u case.ChunkDoubleUpdate place.0.0 j) (ap Some index)
            (subst (λ (j : Option (List ℕ)). IsConflict (changes_of bytes_at h) s t u case.ChunkDoubleUpdate place.0.0 j) is.index
            (subst (λ (q : List ℕ). IsConflict (changes_of bytes_at h) s t u case.ChunkDoubleUpdate q x.0.index) is.path
            (subst (λ (k : Case). IsConflict (changes_of bytes_at h) s t u k x.0.path x.0.index) is.twice conflict)));
      }

  given-complete : IsGivenUp policy (changes_of bytes_at h) s t u id i → lists_key keys id i ≡ true
  given-complete g =
      let x : Conflict = made case.ChunkDoubleUpdate g.path (Some i) in
      let among : In conflicts x = contains-in conflicts x ((exact-law bytes_at h s t u x).1 g.both) in
      let place : In (given_up policy conflicts) (g.path, i) =
      flat-in (λ (y : Conflict). given_by policy.chunks y.case y.path y.index) conflicts x (g.path, i) among
      (subst (λ (pick : Pick). In (given_by pick case.ChunkDoubleUpdate g.path (Some i)) (g.path, i)) (sym g.theirs) (inl refl)) in
      let key : In keys (g.node.id, i) =
      flat-in (λ (place : List ℕ × List ℕ). key_at (get t.nodes place.0) place.1) (given_up policy conflicts) (g.path, i) (g.node.id, i) place
      (subst (λ (o : Option Node). In (key_at o i) (g.node.id, i)) (sym g.found) (inl refl)) in
      in-any (λ (key : Id8 × List ℕ). same_id8 key.0 id && same_numbers key.1 i) keys (g.node.id, i) key
      (both _ _ (ap (λ (n : Id8). same_id8 n id) g.same ∙ id-refl id) (same_path-refl i))

pub given-law : GivenLaw
given-law bytes_at h s t u policy id i = (given-sound bytes_at h s t u policy id i, given-complete bytes_at h s t u policy id i)

-- What becomes of changes along commits, in the words of conflicts.
use Rattle.std.proofs.Common.{◌≡◌, ◌∙◌, ℕ, Bool, true, false, cond, List, [], ◌∷◌, Option, Some, None, inl, inr, refl, sym, ap, subst}
use Rattle.std.specs.List.{filter}
use Rattle.std.specs.FinMap.{FinMap}
use Rattle.std.proofs.lemmas.List.Elements.{All-head, All-tail, All-contains}
use Rattle.ice_ids.specs.declared.Id8.{Id8}
use Rattle.ice_ids.specs.declared.Id12.{Id12}
use Rattle.zarr_path.specs.Paths.{path_cmp}
use Rattle.manifest_file.specs.declared.manifest.Place.{Place}
use Rattle.repo_objects.specs.Trees.{nodes_in}
use Rattle.zarr_tree.specs.declared.cases.Conflict.{Conflict}
use Rattle.zarr_tree.specs.Nodes.{Node}
use Rattle.zarr_tree.specs.Trees.{Tree}
use Rattle.zarr_tree.specs.Changes.{Changes}
use Rattle.zarr_tree.specs.Touched.{IsOrdered}
use Rattle.zarr_tree.specs.Held.{Held, meta_in, changes_of}
use Rattle.zarr_changes.specs.Edits.{lists_key, without_chunks}
use Rattle.zarr_changes.proofs.ChunkLaws.{taken-law}
use Rattle.conflicts.specs.declared.solving.Policy.{Policy}
use Rattle.conflicts.specs.Found.{found}
use Rattle.conflicts.specs.Order.{Ascend}
use Rattle.conflicts.specs.Solving.{case_stays, left_of, given_up, keys_in}
use Rattle.conflicts.proofs.Members.{In, in-contains, contains-in, in-filter, filter-in}
use Rattle.conflicts.proofs.Exactness.{made, exact-law}
use Rattle.conflicts.proofs.Rising.{ascend-law}
use Rattle.conflicts.proofs.LawProofs.{given-law}
use Rattle.commit_path.specs.Spelled.{IsOtherText}
use Rattle.rebase.specs.Along.{Link, Solves, Stays, Hides, sides_at, left_at, solved_at, first_hidden, along}
use Rattle.rebase.specs.AlongLaws.{HasOneTextEach, NoneStays, TheseStay, IsHidden, Passes, HasNodes, PassesAll, StaysAt, HidesAt, AllOrdered, MeansLaw}
use Rattle.rebase.proofs.Unhidden.{kept-is, is-kept, all-kept, hidden-lost, meta-row}
use Rattle.rebase.proofs.Following.{past-solves, past-stays, past-hides}

not-true : (b : Bool) → (b ≡ true → ⊥) → b ≡ false
not-true true f = absurd (f refl)
not-true false f = refl

ascend-filter : (f : Conflict → Bool) (xs : List Conflict) → Ascend xs → Ascend (filter f xs)
ascend-filter f [] a = tt
ascend-filter f (x ∷ xs) a = elim (f x) as (λ b. Ascend (cond b (x ∷ filter f xs) (filter f xs))) [
  | true ↦ (λ y k. a.0 y (in-contains xs y (in-filter f xs y (contains-in (filter f xs) y k)).0), ascend-filter f xs a.1)
  | false ↦ ascend-filter f xs a.1
]

-- ---- one commit
module _ (bytes_at : Place → Option (List ℕ)) (policy : Policy) (h : Held Place) (t : Tree) (l : Link) where
  abbrev c : Changes
  c = changes_of bytes_at h

  abbrev stays : Conflict → Bool
  stays x = case_stays policy x.case x.index

  -- over the nodes of a later tree
  abbrev over : FinMap path_cmp Node → List Conflict
  over m = found (record { held = h; theirs = l.lists; before = t.nodes; after = m })

  abbrev out : FinMap path_cmp Node → List (Id8 × List ℕ)
  out m = keys_in t.nodes (given_up policy (over m))

  module _ (u : Tree) where
    none-stays : left_of policy (over u.nodes) ≡ [] → NoneStays policy c l t u
    none-stays none k p i x =
        not-true (case_stays policy k i)
        (λ is. subst (λ (ys : List Conflict). In ys (made k p i)) none (filter-in stays (over u.nodes) (made k p i) (contains-in (over u.nodes) (made k p i) ((exact-law bytes_at h l.lists t u (made k p i)).1 x)) is))

    these-stay : IsOrdered l.lists → ¬ (left_of policy (over u.nodes) ≡ []) → TheseStay policy c l t u (left_of policy (over u.nodes))
    these-stay o some = record {
      some = some;
      order = ascend-filter stays (over u.nodes) (ascend-law (record { held = h; theirs = l.lists; before = t.nodes; after = u.nodes }) o);
      exactly = λ x. (
        λ k. let r = in-filter stays (over u.nodes) x (contains-in (left_of policy (over u.nodes)) x k) in ((exact-law bytes_at h l.lists t u x).0 (in-contains (over u.nodes) x r.0), r.1),
        λ k. in-contains (left_of policy (over u.nodes)) x (filter-in stays (over u.nodes) x (contains-in (over u.nodes) x ((exact-law bytes_at h l.lists t u x).1 k.0)) k.1),
      );
    }

    all-are-kept : first_hidden u.nodes h.metas ≡ None → (id : Id8) (text : List ℕ) → c.metas id ≡ Some text → IsOtherText u.nodes id text
    all-are-kept none id text e =
        let m = meta-row h.metas id text e in
        subst (IsOtherText u.nodes id) m.text_is (subst (λ (i : Id8). IsOtherText u.nodes i m.row.1) m.same (kept-is u m.row.0 m.row.1 (all-kept u.nodes h.metas none m.row m.among)))

    is-hidden : (node : Id8) → HasOneTextEach h → first_hidden u.nodes h.metas ≡ Some node → IsHidden c u node
    is-hidden node one e =
        let r = hidden-lost u.nodes h.metas node e in
        subst (IsHidden c u) r.same
        (record { text = r.row.1; held = All-contains (λ (k : Id8 × List ℕ). meta_in h.metas k.0 ≡ Some k.1) h.metas r.row one (in-contains h.metas r.row r.among); lost = λ k. differ (sym (is-kept u r.row.0 r.row.1 k) ∙ r.lost) })
      where
        differ : true ≡ false → ⊥
        differ e = cc

    passes-over : left_of policy (over u.nodes) ≡ [] → first_hidden u.nodes h.metas ≡ None → Passes policy c l t u (changes_of bytes_at (without_chunks h (out u.nodes)))
    passes-over none kept = record {
      none_stays = none-stays none;
      kept = all-are-kept kept;
      out = lists_key (out u.nodes);
      given_up = λ id i. given-law bytes_at h l.lists t u policy id i;
      rest = taken-law bytes_at h (out u.nodes);
    }

    -- over those of the commit's snapshot
    module _ (e : HasNodes l u) where
      passes : left_at policy h t.nodes l ≡ [] → first_hidden (nodes_in l.file.nodes) h.metas ≡ None → Passes policy c l t u (changes_of bytes_at (without_chunks h (out (nodes_in l.file.nodes))))
      passes =
          subst (λ (m : FinMap path_cmp Node). left_of policy (over m) ≡ [] → first_hidden m h.metas ≡ None → Passes policy c l t u (changes_of bytes_at (without_chunks h (out m)))) e passes-over

      stay : IsOrdered l.lists → ¬ (left_at policy h t.nodes l ≡ []) → TheseStay policy c l t u (left_at policy h t.nodes l)
      stay o = subst (λ (m : FinMap path_cmp Node). ¬ (left_of policy (over m) ≡ []) → TheseStay policy c l t u (left_of policy (over m))) e (these-stay o)

      none-stay : left_at policy h t.nodes l ≡ [] → NoneStays policy c l t u
      none-stay = subst (λ (m : FinMap path_cmp Node). left_of policy (over m) ≡ [] → NoneStays policy c l t u) e none-stays

      hides : (node : Id8) → HasOneTextEach h → first_hidden (nodes_in l.file.nodes) h.metas ≡ Some node → IsHidden c u node
      hides node one = subst (λ (m : FinMap path_cmp Node). first_hidden m h.metas ≡ Some node → IsHidden c u node) e (is-hidden node one)

-- ---- commit after commit
module _ (bytes_at : Place → Option (List ℕ)) where
  abbrev changed : Held Place → Changes
  changed h = changes_of bytes_at h

  abbrev next : Policy → Held Place → Tree → Link → Held Place
  next policy h t l = without_chunks h (keys_in t.nodes (given_up policy (found (sides_at h t.nodes l))))

  solves-along : (policy : Policy) (held left : Held Place) (t : Tree) (links : List Link) → along policy held t.nodes links ≡ Solves left → PassesAll policy (changed held) t links (changed left)
  unfolding along PassesAll
  solves-along policy held left t [] e = let same : held ≡ left = cc e in ap changed same
  solves-along policy held left t (l ∷ ls) e = λ u is.
      let g = past-solves l.file.id (left_at policy held t.nodes l) (first_hidden (nodes_in l.file.nodes) held.metas) (along policy (solved_at policy held t.nodes l) (nodes_in l.file.nodes) ls) left e in (
        changed (next policy held t l),
        passes bytes_at policy held t l u is g.none_left g.none_hidden,
        solves-along policy (next policy held t l) left u ls (ap (λ (m : FinMap path_cmp Node). along policy (next policy held t l) m ls) is ∙ g.goes_on),
      )

  stays-along : (policy : Policy) (held : Held Place) (t : Tree) (links : List Link) (at : Id12) (xs : List Conflict) → AllOrdered links → along policy held t.nodes links ≡ Stays at xs → StaysAt policy (changed held) t links at xs
  unfolding along StaysAt
  stays-along policy held t [] at xs o e = cc
  stays-along policy held t (l ∷ ls) at xs o e = λ u is.
      elim (past-stays l.file.id (left_at policy held t.nodes l) (first_hidden (nodes_in l.file.nodes) held.metas) (along policy (solved_at policy held t.nodes l) (nodes_in l.file.nodes) ls) at xs e) [
        | inl h ↦ inl (h.0, subst (TheseStay policy (changed held) l t u) h.1 (stay bytes_at policy held t l u is (All-head (λ (k : Link). IsOrdered k.lists) l ls o) h.2))
        | inr g ↦ inr (
          changed (next policy held t l),
          passes bytes_at policy held t l u is g.none_left g.none_hidden,
          stays-along policy (next policy held t l) u ls at xs (All-tail (λ (k : Link). IsOrdered k.lists) l ls o) (ap (λ (m : FinMap path_cmp Node). along policy (next policy held t l) m ls) is ∙ g.goes_on),
        )
      ]

  hides-along : (policy : Policy) (held : Held Place) (t : Tree) (links : List Link) (at : Id12) (node : Id8) → HasOneTextEach held → along policy held t.nodes links ≡ Hides at node → HidesAt policy (changed held) t links at node
  unfolding along HidesAt
  hides-along policy held t [] at node one e = cc
  hides-along policy held t (l ∷ ls) at node one e = λ u is.
      elim (past-hides l.file.id (left_at policy held t.nodes l) (first_hidden (nodes_in l.file.nodes) held.metas) (along policy (solved_at policy held t.nodes l) (nodes_in l.file.nodes) ls) at node e) [
        | inl h ↦ inl (h.0, none-stay bytes_at policy held t l u is h.1, hides bytes_at policy held t l u is node one h.2)
        | inr g ↦ inr (
          changed (next policy held t l),
          passes bytes_at policy held t l u is g.none_left g.none_hidden,
          hides-along policy (next policy held t l) u ls at node one (ap (λ (m : FinMap path_cmp Node). along policy (next policy held t l) m ls) is ∙ g.goes_on),
        )
      ]

  pub means-law : MeansLaw bytes_at
  means-law = record { solves = solves-along; stays = stays-along; hides = hides-along }

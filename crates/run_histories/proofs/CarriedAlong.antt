-- A session is carried over commit after commit.
use Rattle.std.proofs.Common.{◌≡◌, inl, inr, ℕ, List, [], ◌∷◌, ◌++◌, refl, subst}
use Rattle.ice_ids.specs.declared.Id12.{Id12}
use Rattle.ice_ids.specs.declared.Id8.{Id8}
use Rattle.ice_ids.specs.declared.drawing.AnyIds.{AnyIds}
use Rattle.zarr_tree.specs.Held.{Held}
use Rattle.manifest_file.specs.declared.manifest.Place.{Place}
use Rattle.repo_objects.specs.Laws.{InitialLaw}
use Rattle.repo_objects.specs.Trees.{nodes_in}
use Rattle.conflicts.specs.declared.solving.Policy.{Policy}
use Rattle.object_store.specs.declared.events.Event.{Event}
use Rattle.session.specs.declared.origin.Origin.{Origin}
use Rattle.session.specs.declared.origin.Origin.TheVariants.{Writes, ReadsBranch, ReadsTag, ReadsId}
use Rattle.session.specs.Sessions.{SessionState, base_nodes, rebased_to, origin_at, version_of}
use Rattle.commit_path.specs.Single.{HasPutAlike}
use Rattle.rebase.specs.Along.{Hides, Link, Solves, along, first_hidden, left_at, solved_at}
use Rattle.rebase.proofs.Following.{past-hides, past-solves}
use Rattle.run_histories.proofs.Carrying.{alike-back}
use Rattle.run_histories.proofs.Grounds.{Grounds, IsCarried, IsLink}
use Rattle.run_histories.proofs.Linked.{step-carried, step-honest}

solves-same : (g h : Held Place) → Solves g ≡ Solves h → g ≡ h
solves-same g h e = cc

-- a session that moves twice has the last version
origin-again : (version k : ℕ) (origin : Origin) → origin_at version (origin_at k origin) ≡ origin_at version origin
origin-again version k (Writes tip) = refl
origin-again version k (ReadsBranch tip) = refl
origin-again version k (ReadsTag name) = refl
origin-again version k ReadsId = refl

module _ (initial : InitialLaw) (ids : AnyIds) (client : ℕ) (start journal : List Event) (g : Grounds ids client start journal) where
  -- ---- commit after commit
  -- each of the commits is linked to the one before it
  unfoldable pub AllLinked : Id12 → List Link → Type 0
  AllLinked base [] = Unit {0}
  AllLinked base (l ∷ ls) = IsLink journal base l × AllLinked l.file.id ls

  module _ (policy : Policy) where
    -- the session behind the first commit, of which nothing was left
    abbrev behind : SessionState → Link → SessionState
    behind s l = rebased_to s l.file.id (version_of s) l.file (solved_at policy s.held (base_nodes s) l)

    behind-alike : (s : SessionState) (l : Link) → HasPutAlike client s start journal → HasPutAlike client (behind s l) start journal
    behind-alike s l alike = alike-back client (behind s l) s start journal (record { added = refl; dropped = refl; metas = refl }) alike

    pub walk-carried : (before : List Link) (last : Link) (s : SessionState) (left : Held Place) (version : ℕ) → IsCarried ids journal s → HasPutAlike client s start journal → AllLinked s.base (before ++ last ∷ [])
        → along policy s.held (base_nodes s) (before ++ last ∷ []) ≡ Solves left → IsCarried ids journal (rebased_to s last.file.id version last.file left)
    unfolding along AllLinked
    walk-carried [] last s left version k alike linked e =
        let p = past-solves last.file.id (left_at policy s.held (base_nodes s) last) (first_hidden (nodes_in last.file.nodes) s.held.metas) (along policy (solved_at policy s.held (base_nodes s) last) (nodes_in last.file.nodes) []) left e in
        let same : solved_at policy s.held (base_nodes s) last ≡ left = solves-same _ _ p.goes_on in
        subst (λ (h : Held Place). IsCarried ids journal (rebased_to s last.file.id version last.file h)) same (step-carried initial ids client start journal g s k alike policy last linked.0 p.none_left version p.none_hidden)
    walk-carried (l ∷ ls) last s left version k alike linked e =
        let p = past-solves l.file.id (left_at policy s.held (base_nodes s) l) (first_hidden (nodes_in l.file.nodes) s.held.metas) (along policy (solved_at policy s.held (base_nodes s) l) (nodes_in l.file.nodes) (ls ++ last ∷ [])) left e in
        subst (λ (o : Origin). IsCarried ids journal (record s { origin = o; base = last.file.id; rows = last.file.nodes; files = last.file.manifest_files; held = left })) (origin-again version (version_of s) s.origin)
        (walk-carried ls last (behind s l) left version (step-carried initial ids client start journal g s k alike policy l linked.0 p.none_left (version_of s) p.none_hidden) (behind-alike s l alike) linked.1 p.goes_on)

    pub walk-honest : (links : List Link) (s : SessionState) (at : Id12) (node : Id8) → IsCarried ids journal s → HasPutAlike client s start journal → AllLinked s.base links → ¬ (along policy s.held (base_nodes s) links ≡ Hides at node)
    unfolding along AllLinked
    walk-honest [] s at node k alike linked e = cc
    walk-honest (l ∷ ls) s at node k alike linked e =
        elim (past-hides l.file.id (left_at policy s.held (base_nodes s) l) (first_hidden (nodes_in l.file.nodes) s.held.metas) (along policy (solved_at policy s.held (base_nodes s) l) (nodes_in l.file.nodes) ls) at node e) [
          | inl h ↦ step-honest initial ids client start journal g s k alike policy l linked.0 h.1 node h.2
          | inr p ↦ walk-honest ls (behind s l) at node (step-carried initial ids client start journal g s k alike policy l linked.0 p.none_left (version_of s) p.none_hidden) (behind-alike s l alike) linked.1 p.goes_on
        ]

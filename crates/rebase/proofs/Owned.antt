-- Along commits up to one of the session itself, or from a base without nodes on.
use Rattle.std.proofs.Common.{◌≡◌, ◌∙◌, ℕ, List, [], Option, ◌⊎◌, inl, inr, sym, ap, subst}
use Rattle.std.specs.FinMap.{FinMap}
use Rattle.ice_ids.specs.declared.Id8.{Id8}
use Rattle.ice_ids.specs.declared.Id12.{Id12}
use Rattle.zarr_path.specs.Paths.{path_cmp, root}
use Rattle.manifest_file.specs.declared.manifest.Place.{Place}
use Rattle.repo_objects.specs.Trees.{nodes_in}
use Rattle.zarr_tree.specs.Nodes.{Node}
use Rattle.zarr_tree.specs.Trees.{Tree, IsWellFormed}
use Rattle.zarr_tree.specs.Changes.{Changes, IsNormal}
use Rattle.zarr_tree.specs.Held.{Held, changes_of}
use Rattle.zarr_tree.specs.Conflicts.{IsTaken}
use Rattle.conflicts.specs.declared.solving.Policy.{Policy}
use Rattle.rebase.specs.Along.{Link, Solves, Hides, left_at, solved_at, first_hidden, along}
use Rattle.rebase.specs.AlongLaws.{HasOneTextEach, FollowsToOwn, FollowsNothing, OwnLaw}
use Rattle.rebase.proofs.Following.{past-solves, past-hides, normal-law}
use Rattle.rebase.proofs.OwnCommits.{over, taken-left, own-stops, none-own, chunks-alone, hides-before, plain-all, to-own}
use Rattle.rebase.proofs.OverNothing.{taken-or-free, goes-on}

module _ (bytes_at : Place → Option (List ℕ)) (policy : Policy) where
  abbrev changed : Held Place → Changes
  changed h = changes_of bytes_at h

  -- ---- all solved
  normal-to_own : (held left : Held Place) (t u : Tree) (links : List Link) → IsWellFormed t → IsNormal (changed held) t → FollowsToOwn (changed held) t links u → along policy held t.nodes links ≡ Solves left
      → IsNormal (changed left) u × IsWellFormed u
  normal-to_own held left t u links w n f e = (normal-law bytes_at).normal policy held left t u links w n (plain-all (changed held) t u links f (none-own bytes_at policy held left t.nodes links n.not_dropped e)) e

  -- ---- a log that hides a node
  honest-to_own : (held : Held Place) (t u : Tree) (links : List Link) (at : Id12) (node : Id8) → HasOneTextEach held → IsWellFormed t → IsNormal (changed held) t → FollowsToOwn (changed held) t links u
      → ¬ (along policy held t.nodes links ≡ Hides at node)
  honest-to_own held t u links at node one w n f e =
      let r = to-own (changed held) t u links f in
      let never = (normal-law bytes_at).honest policy held t r.end r.first at node one w n r.follows in
      elim r.then [
        | inl all ↦ never (ap (along policy held t.nodes) (sym all) ∙ e)
        | inr o ↦ never (hides-before bytes_at policy held t.nodes r.first o.0 o.1 at node n.not_dropped o.3 (ap (along policy held t.nodes) (sym o.2) ∙ e))
      ]

  -- ---- from nothing on
  module _ (held : Held Place) (t u : Tree) (links : List Link) (w : IsWellFormed t) (n : IsNormal (changed held) t) (f : FollowsNothing (changed held) t links u) where
    abbrev on_first : Link → FinMap path_cmp Node → Type 0
    on_first l nodes = IsTaken (changed held) (over nodes) root

    -- the first commit's conflicts stay, or the way goes on from its tree
    record GoesOn : Type 0 where
      normal : IsNormal (changed held) f.tree
      same : along policy held t.nodes links ≡ along policy held f.tree.nodes f.later

    by_first : (¬ (left_at policy held t.nodes f.first ≡ [])) ⊎ GoesOn
    by_first = elim (taken-or-free (changed held) t f.tree w f.well_formed n f.nothing f.none_dropped) [
      | inl x ↦ inl (taken-left bytes_at policy held t.nodes f.first root (subst (on_first f.first) f.nodes x))
      | inr x ↦ inr (record { normal = x.normal; same = ap (along policy held t.nodes) f.is ∙ goes-on bytes_at policy held t f.tree f.first w f.well_formed n f.nothing f.nodes x.free f.later })
    ]

    normal-nothing : (left : Held Place) → along policy held t.nodes links ≡ Solves left → IsNormal (changed left) u × IsWellFormed u
    unfolding along
    normal-nothing left e = elim by_first [
      | inl stays ↦ absurd (stays (past-solves f.first.file.id (left_at policy held t.nodes f.first) (first_hidden (nodes_in f.first.file.nodes) held.metas) (along policy (solved_at policy held t.nodes f.first) (nodes_in f.first.file.nodes) f.later) left (ap (along policy held t.nodes) (sym f.is) ∙ e)).none_left)
      | inr g ↦ normal-to_own held left f.tree u f.later f.well_formed g.normal f.follows (sym g.same ∙ e)
    ]

    honest-nothing : (at : Id12) (node : Id8) → HasOneTextEach held → ¬ (along policy held t.nodes links ≡ Hides at node)
    unfolding along
    honest-nothing at node one e = elim by_first [
      | inl stays ↦ elim (past-hides f.first.file.id (left_at policy held t.nodes f.first) (first_hidden (nodes_in f.first.file.nodes) held.metas) (along policy (solved_at policy held t.nodes f.first) (nodes_in f.first.file.nodes) f.later) at node (ap (along policy held t.nodes) (sym f.is) ∙ e)) [
        | inl h ↦ stays h.1
        | inr g ↦ stays g.none_left
      ]
      | inr g ↦ honest-to_own held f.tree u f.later at node one f.well_formed g.normal f.follows (sym g.same ∙ e)
    ]

pub own-law : (bytes_at : Place → Option (List ℕ)) → OwnLaw bytes_at
own-law bytes_at = record {
  stops = λ policy held t l ls n o. (left_at policy held t.nodes l, own-stops bytes_at policy held t.nodes l ls n.not_dropped o);
  none_own = λ policy held left t links n e. none-own bytes_at policy held left t.nodes links n.not_dropped e;
  chunks_alone = λ policy held left t links e. chunks-alone bytes_at policy held left t.nodes links e;
  normal = λ policy held left t u links w n f e. elim f [
    | inl g ↦ normal-to_own bytes_at policy held left t u links w n g e
    | inr g ↦ normal-nothing bytes_at policy held t u links w n g left e
  ];
  honest = λ policy held t u links at node one w n f e. elim f [
    | inl g ↦ honest-to_own bytes_at policy held t u links at node one w n g e
    | inr g ↦ honest-nothing bytes_at policy held t u links w n g at node one e
  ];
}

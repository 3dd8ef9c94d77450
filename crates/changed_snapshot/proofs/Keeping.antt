-- Normal changes keep the parts of metadata that stay, and their entries have the ranks of their arrays.
use Rattle.std.proofs.Common.{◌≡◌, ◌∙◌, ℕ, true, List, length, Option, Some, None, is_some, option_map, refl, sym, ap, subst, ◌⊎◌, inl, inr}
use Rattle.std.specs.Option.{option_and_then, unwrap_or}
use Rattle.std.specs.FinMap.{get}
use Rattle.zarr_meta.specs.declared.views.ArrayView.{ArrayView}
use Rattle.zarr_tree.specs.Nodes.{Node, SameFrozen, array_in}
use Rattle.zarr_tree.specs.Trees.{Tree, node_at}
use Rattle.zarr_tree.specs.Changes.{Changes, patched, apply, IsNormal, EntryFits}
use Rattle.zarr_tree.specs.Held.{Held, entry_in, changes_of}
use Rattle.zarr_tree.proofs.NodeLaws.{frozen-refl}
use Rattle.zarr_tree.proofs.Apply.{Own, node_cases}
use Rattle.manifest_file.specs.declared.manifest.Place.{Place}
use Rattle.snapshot_file.specs.declared.nodes.NodeRow.{NodeRow}
use Rattle.repo_objects.specs.Trees.{Puts, bytes_at, tree_under}
use Rattle.changed_snapshot.specs.Laws.{KeepsFrozen, FrozenLaw, RankedLaw}

-- a node with the text that these entries tell, or its own
patched_keeps : (m : Node) (o : Option (List ℕ)) → ((text : List ℕ) → o ≡ Some text → SameFrozen m.text text) → SameFrozen m.text (unwrap_or o m.text)
patched_keeps m None frozen = frozen-refl m.text
patched_keeps m (Some text) frozen = frozen text refl

normal_keeps : (puts : Puts) (h : Held Place) (rows : List NodeRow) → IsNormal (changes_of (bytes_at puts) h) (tree_under puts rows) → KeepsFrozen h rows
normal_keeps puts h rows normal p m n was is same = cases (node_cases c t p n is)
  where
    c : Changes
    c = changes_of (bytes_at puts) h

    t : Tree
    t = tree_under puts rows

    cases : (get c.added p ≡ Some n) ⊎ Own c t p n → SameFrozen m.text n.text
    cases (inl added) = absurd (normal.fresh p p n m added was (sym same))
    cases (inr own) =
        let before : own.before ≡ m = cc (sym own.found ∙ was) in
        let text : n.text ≡ unwrap_or (c.metas m.id) m.text = ap (λ (x : Node). x.text) (own.same ∙ ap (patched c.metas) before) in
        subst (SameFrozen m.text) (sym text) (patched_keeps m (c.metas m.id) (λ other e. normal.frozen m.id other p m e was refl))

-- an entry fits the array of its id, and there is no other
pub ranked-law : RankedLaw
ranked-law puts h rows normal p n array i is found has = by_entry (entry_in h.chunks n.id i) refl has
  where
    c : Changes
    c = changes_of (bytes_at puts) h

    t : Tree
    t = tree_under puts rows

    of_fit : (entry : Option (List ℕ)) → EntryFits t (apply c t) n.id i entry → length i ≡ length array.shape
    of_fit entry fit =
        let path : fit.path ≡ p = normal.well_formed.distinct fit.path p fit.node n fit.found is fit.same in
        let node : fit.node ≡ n = cc (sym fit.found ∙ ap (λ q. node_at (apply c t) q) path ∙ is) in
        let view : fit.fits.array ≡ array = cc (sym fit.fits.found ∙ ap (λ (m : Node). array_in m.text) node ∙ found) in
        fit.fits.rank ∙ ap (λ (a : ArrayView). length a.shape) view

    by_entry : (o : Option (Option Place)) → entry_in h.chunks n.id i ≡ o → is_some o ≡ true → length i ≡ length array.shape
    by_entry None e there = cc
    by_entry (Some place) e there =
        let bytes : Option (List ℕ) = option_and_then (bytes_at puts) place in
        of_fit bytes (normal.chunks n.id i bytes (ap (option_map (λ (q : Option Place). option_and_then (bytes_at puts) q)) e))

pub frozen-law : FrozenLaw
frozen-law = record { normal = normal_keeps }

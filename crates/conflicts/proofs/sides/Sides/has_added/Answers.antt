use Rattle.std.proofs.Common.{◌∙◌, is_some, sym, ap, subst}
use Rattle.std.specs.List.{list_any}
use Rattle.std.specs.List.Sorted.{IsStrictlySortedBy}
use Rattle.std.specs.FinMap.{get, contains_key-keys}
use Rattle.zarr_path.specs.Paths.{path_cmp, same_path}
use Rattle.conflicts.specs.Found.{Sides}
use Rattle.conflicts.proofs.Facts.{keys-sorted}
use Rattle.conflicts.proofs.sides.Sides.has_added.Goals as goal

pub has_path-requires : goal.has_path-requires
has_path-requires g c = subst (IsStrictlySortedBy path_cmp) (sym (c.as_slice.ensures ∙ c.self.invariant.added)) (keys-sorted c.self.inside.mine.now.added)

pub returns : goal.returns
returns g c =
    c.has_path.ensures ∙ ap (list_any (same_path c.args.path.now)) (c.as_slice.ensures ∙ c.self.invariant.added)
    ∙ sym (contains_key-keys c.self.inside.mine.now.added c.args.path.now) ∙ ap (λ (s : Sides). is_some (get s.held.added c.args.path.now)) c.self.view_is

use Rattle.std.proofs.Common.{◌≡◌, ◌∙◌, List, Contains, sym, ap, subst}
use Rattle.std.specs.Prelude.{◌↔◌}
use Rattle.zarr_tree.specs.declared.cases.Conflict.{Conflict}
use Rattle.zarr_tree.specs.Held.{changes_of}
use Rattle.zarr_tree.specs.Conflicts.{IsConflict}
use Rattle.conflicts.specs.Order.{Ascend}
use Rattle.conflicts.specs.Found.{Sides, found}
use Rattle.conflicts.proofs.Exactness.{exact-law}
use Rattle.conflicts.proofs.Rising.{ascend-law}
use Rattle.conflicts.proofs.Steps.{if-ok}
use Rattle.conflicts.proofs.detecting.detect.Goals as goal

pub returns-clause-order : goal.returns-clause-order
returns-clause-order g c =
    let s : Sides = record { held = c.args.mine.now; theirs = c.args.theirs.now; before = g.B.TreeLike.nodes c.args.before.now; after = g.U.TreeLike.nodes c.args.after.now } in
    if-ok c.found-2.result (λ (v : List Conflict). v ≡ found c.in_ok-new.field-0) Ascend (λ v e. subst Ascend (sym (e ∙ ap found c.in_ok-new.ensures)) (ascend-law s c.requires)) c.found-2.ensures

pub returns-clause-exactly : goal.returns-clause-exactly
returns-clause-exactly g c =
    if-ok c.found-2.result (λ (v : List Conflict). v ≡ found c.in_ok-new.field-0) _
    (λ v e bytes_at t u x before after.
    subst (λ (xs : List Conflict). Contains xs x ↔ IsConflict (changes_of bytes_at c.args.mine.now) c.args.theirs.now t u x.case x.path x.index)
    (sym (e ∙ ap found c.in_ok-new.ensures ∙ (λ i. found (record { held = c.args.mine.now; theirs = c.args.theirs.now; before = sym before i; after = sym after i }))))
    (exact-law bytes_at c.args.mine.now c.args.theirs.now t u x)) c.found-2.ensures

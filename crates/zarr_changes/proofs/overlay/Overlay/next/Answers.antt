use Rattle.std.proofs.Common.{◌∙◌, sym}
use Rattle.zarr_changes.proofs.Merging.{step_none, step_first, step_second, step_less, step_equal, step_greater}
use Rattle.zarr_changes.proofs.overlay.Overlay.next.Goals as goal

pub returns-in_err-own-clause-row : goal.returns-in_err-own-clause-row
returns-in_err-own-clause-row g c =
    rw c.from_residual.ensures (step_none c.self.inside.next_added c.self.inside.next_own c.self.inside.added c.self.inside.own _ c.self.view_is c.in_default.is c.in_err-own.was)

pub returns-in_default-clause-row : goal.returns-in_default-clause-row
returns-in_default-clause-row g c =
    step_second c.self.inside.next_added c.self.inside.next_own c.self.inside.added c.self.inside.own _ c.self.view_is c.in_ok-own.own c.in_ok-own.was c.self.invariant.1
    c.next-self-inside.result c.next-self-inside.new.self c.next-self-inside.ensures.row c.in_default.is

pub returns-in_default-next_own-clause-row : goal.returns-in_default-next_own-clause-row
returns-in_default-next_own-clause-row g c =
    step_first c.self.inside.next_added c.self.inside.next_own c.self.inside.added c.self.inside.own _ c.self.view_is c.in-Some.row c.in-Some.is c.self.invariant.0
    c.next-self-inside-in_default-next_own.result c.next-self-inside-in_default-next_own.new.self c.next-self-inside-in_default-next_own.ensures.row c.in_default-next_own.is

pub returns-in-Less-clause-row : goal.returns-in-Less-clause-row
returns-in-Less-clause-row g c =
    step_less c.self.inside.next_added c.self.inside.next_own c.self.inside.added c.self.inside.own _ c.self.view_is c.in-Some.row c.in-Some.is c.self.invariant.0
    c.next-self-inside-in-Less.result c.next-self-inside-in-Less.new.self c.next-self-inside-in-Less.ensures.row
    c.in-Some-next_own.own c.in-Some-next_own.is c.self.invariant.1 (sym c.cmp.ensures ∙ c.in-Less.is)

pub returns-in-Equal-clause-row : goal.returns-in-Equal-clause-row
returns-in-Equal-clause-row g c =
    step_equal c.self.inside.next_added c.self.inside.next_own c.self.inside.added c.self.inside.own _ c.self.view_is c.in-Some.row c.in-Some.is c.self.invariant.0
    c.next-self-inside-in-Equal.result c.next-self-inside-in-Equal.new.self c.next-self-inside-in-Equal.ensures.row
    c.in-Some-next_own.own c.in-Some-next_own.is c.self.invariant.1
    c.next-self-inside-in-Equal-2.result c.next-self-inside-in-Equal-2.new.self c.next-self-inside-in-Equal-2.ensures.row (sym c.cmp.ensures ∙ c.in-Equal.is)

pub returns-in-Greater-clause-row : goal.returns-in-Greater-clause-row
returns-in-Greater-clause-row g c =
    step_greater c.self.inside.next_added c.self.inside.next_own c.self.inside.added c.self.inside.own _ c.self.view_is c.in-Some-next_own.own c.in-Some-next_own.is c.self.invariant.1
    c.next-self-inside-in-Greater.result c.next-self-inside-in-Greater.new.self c.next-self-inside-in-Greater.ensures.row
    c.in-Some.row c.in-Some.is c.self.invariant.0 (sym c.cmp.ensures ∙ c.in-Greater.is)

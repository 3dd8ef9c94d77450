use Rattle.std.proofs.Common.{◌<◌, ◌≤◌, ◌∙◌, sym, ap, arith, List, length}
use Rattle.play_outcome.specs.declared.outcome.Shown.{Shown}
use Rattle.play_outcome.specs.Playing.{ended}
use Rattle.play_tasks.specs.inside.Releasing.{lease_in}
use Rattle.play_tasks.proofs.Releases.{pass-on, stop-at, at-end}
use Rattle.play_tasks.proofs.releasing.release_on.Goals as goal

pub returns-in-Some-clause-rest : goal.returns-in-Some-clause-rest
returns-in-Some-clause-rest c =
    let shown = c.index.result.now in
    let test = c.loop-at-test.true in
    let len = c.len-at-end.ensures in
    let within : c.loop-at.at < length c.args.shown.items = omega (arith, c.args.shown.ok.0, test, len) in
    sym (stop-at c.args.shown.items c.loop-at.at shown c.args.end c.in-Some.line c.in-Some.id within (ap lease_in (sym c.index.ensures) ∙ (sym c.lease_in.ensures ∙ c.in-Some.is))) ∙ c.loop-at.invariant.1

pub loop-at-preserved : goal.loop-at-preserved
loop-at-preserved c =
    let shown = c.index.result.now in
    let test = c.loop-at-test.true in
    let len = c.len-at-end.ensures in
    let before = c.loop-at.invariant.0 in
    let within : c.loop-at.at < length c.args.shown.items = omega (arith, c.args.shown.ok.0, test, len) in (
      omega (arith, before),
      sym (pass-on c.args.shown.items c.loop-at.at shown c.args.end within (ap lease_in (sym c.index.ensures) ∙ (sym c.lease_in.ensures ∙ c.in_default.is))) ∙ c.loop-at.invariant.1,
    )

pub returns-clause-rest : goal.returns-clause-rest
returns-clause-rest c =
    let test = c.loop-at-test.false in
    let len = c.len-at-end.ensures in
    let past : length c.args.shown.items ≤ c.loop-at.at = omega (arith, c.args.shown.ok.0, test, len) in
    ap (λ (l : List Shown). ended l c.args.end) c.from_vec.ensures ∙ (sym (at-end c.args.shown.items c.loop-at.at c.args.end past) ∙ c.loop-at.invariant.1)

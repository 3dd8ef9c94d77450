use Rattle.std.proofs.Common.{◌<◌, ◌∙◌, length, refl, sym, ap, arith, drop, Ok}
use Rattle.store_api.specs.Program.{Done}
use Rattle.array_region.specs.Reading.{with_value}
use Rattle.array_region.specs.Getting.{reads_of, kept_of, chunks_of}
use Rattle.array_region.proofs.Going.{begun, over, no_more_left, err_took, gets_program, gets_asks, gets_left, told_program, ready_program, came_back}
use Rattle.array_region.proofs.getting.RegionGet.go_on.Goals as goal
use Rattle.array_region.proofs.getting.RegionGet.go_on.Goals.{In-loop-at}

within : (c : In-loop-at) → c.loop-at.at < length (chunks_of (reads_of c.loop-at.self.plan))
within c =
    let same = ap (λ p. length (chunks_of (reads_of p))) c.loop-at.invariant.plan in
    omega (arith, same, c.loop-at-test.true, c.met-at-end.ensures.value)

pub loop-at-init : goal.loop-at-init
loop-at-init c = begun c.args.self.now c.requires

pub look-requires : goal.look-requires
look-requires c = within c

pub returns-in-Err-clause-took : goal.returns-in-Err-clause-took
returns-in-Err-clause-took c = err_took c.args.self.now c.loop-at.self c.loop-at.at c.loop-at.invariant (within (goal.at.returns-in-Err-clause-took c).In-loop-at) c.in-Err.why c.in-Err.ensures.0

pub returns-in-Err-clause-falls : goal.returns-in-Err-clause-falls
returns-in-Err-clause-falls c = no_more_left c.args.self.now c.loop-at.self c.loop-at.at c.loop-at.invariant

pub returns-in-Err-clause-kept : goal.returns-in-Err-clause-kept
returns-in-Err-clause-kept c = c.loop-at.invariant.session

pub follow-requires : goal.follow-requires
follow-requires c = c.loop-at.invariant.stage

pub returns-in-Gets-clause-took : goal.returns-in-Gets-clause-took
returns-in-Gets-clause-took c =
    let m = c.loop-at.self in
    let w = within (goal.at.returns-in-Gets-clause-took c).In-loop-at in
    rw c.follow.ensures ((gets_program c.args.self.now m c.loop-at.at c.loop-at.invariant w c.in-Ok.found c.in-Ok.ensures c.in-Gets.stage c.in-Gets.is, gets_asks c.args.self.now m c.loop-at.at c.loop-at.invariant w c.in-Ok.found c.in-Ok.ensures c.in-Gets.stage c.in-Gets.is), tt)

pub returns-in-Gets-clause-falls : goal.returns-in-Gets-clause-falls
returns-in-Gets-clause-falls c =
    let m = c.loop-at.self in
    let w = within (goal.at.returns-in-Gets-clause-falls c).In-loop-at in
    rw c.follow.ensures (gets_left c.args.self.now m c.loop-at.at c.loop-at.invariant w c.in-Ok.found c.in-Ok.ensures c.in-Gets.stage c.in-Gets.is)

pub returns-in-Gets-clause-kept : goal.returns-in-Gets-clause-kept
returns-in-Gets-clause-kept c = c.loop-at.invariant.session

pub loop-at-preserved : goal.loop-at-preserved
loop-at-preserved c = record {
  session = c.loop-at.invariant.session;
  plan = c.loop-at.invariant.plan;
  kept = c.loop-at.invariant.kept;
  stage = c.loop-at.invariant.stage;
  at_is = refl;
  later = omega (arith, c.loop-at.invariant.later);
  program =
      let m = c.loop-at.self in
      let w = within (goal.at.loop-at-preserved c).In-loop-at in
      told_program c.args.self.now m c.loop-at.at c.loop-at.invariant w c.in-Ok.found c.in-Ok.ensures c.in-Told.index c.in-Told.value c.in-Told.is _
      (came_back m.numbers.len m.numbers.items c.enter.new.numbers m.numbers.ok.0 (c.enter.auto.numbers ∙ ap length c.as_mut_slice.ensures.value) ∙ c.enter.ensures ∙ ap (with_value (reads_of m.plan) c.in-Told.index c.in-Told.value) c.as_mut_slice.ensures.value);
}

pub returns-clause-took : goal.returns-clause-took
returns-clause-took c =
    let m = c.loop-at.self in
    let same = ap (λ p. length (chunks_of (reads_of p))) c.loop-at.invariant.plan in
    ((ready_program c.args.self.now m c.loop-at.at c.loop-at.invariant (omega (arith, same, c.loop-at-test.false, c.met-at-end.ensures.value)) ∙ ap (λ l. Done (Ok l)) (sym (c.from_vec.ensures ∙ ap (λ (v : _). v.items) c.replace-numbers.ensures.value)), over m.session (reads_of m.plan) (kept_of m.kept) c.replace-numbers.new.dest.items m.stage (drop m.at (chunks_of (reads_of m.plan))) c.loop-at.invariant.stage), tt)

pub returns-clause-falls : goal.returns-clause-falls
returns-clause-falls c = no_more_left c.args.self.now c.loop-at.self c.loop-at.at c.loop-at.invariant

pub returns-clause-kept : goal.returns-clause-kept
returns-clause-kept c = c.loop-at.invariant.session

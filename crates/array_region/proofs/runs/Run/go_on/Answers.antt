use Rattle.std.proofs.Common.{◌≡◌, ◌<◌, ◌+◌, ◌-◌, ◌^◌, Bool, true, false, Ok, length, get_or, [], ap, subst, arith}
use Rattle.std.specs.Prelude.{Result}
use Rattle.store_api.specs.declared.machines.Refusal.{Refusal}
use Rattle.store_api.specs.Running.{Program}
use Rattle.session.specs.Sessions.{SessionState}
use Rattle.array_region.specs.Getting.{reads_of, kept_of, chunks_of}
use Rattle.array_region.specs.Writing.{old_chunk}
use Rattle.array_region.specs.Setting.{run_reads, Rests, RunLands, Takes}
use Rattle.array_region.proofs.Writes.{begun, ended, look_refused, asked, beginning, again_lands, again_left, refused_lands, rest_left, goes_on}
use Rattle.array_region.proofs.runs.Run.go_on.Goals as goal
use Rattle.array_region.proofs.runs.Run.go_on.Goals.{In-loop-at}

within : (c : In-loop-at) → c.loop-at.at < length (chunks_of (run_reads c.loop-at.self))
within c =
    let same = ap (λ given. length (chunks_of (reads_of given.plan))) c.loop-at.invariant.given in
    omega (arith, same, c.loop-at-test.true, c.met-at-end.ensures.value)

pub loop-at-init : goal.loop-at-init
loop-at-init c = begun c.args.self.now c.requires

pub look-requires : goal.look-requires
look-requires c = within c

pub returns-in-Err-clause-lands : goal.returns-in-Err-clause-lands
returns-in-Err-clause-lands c = look_refused c.args.self.now c.loop-at.self c.loop-at.at c.loop-at.invariant (within (goal.at.returns-in-Err-clause-lands c).In-loop-at) c.in-Err.why c.in-Err.ensures.0

pub returns-in-Ok-true-clause-lands : goal.returns-in-Ok-true-clause-lands
returns-in-Ok-true-clause-lands c =
    let now = c.loop-at.self in
    let i = get_or (chunks_of (run_reads now)) c.loop-at.at [] in
    let next = old_chunk now.session (run_reads now) i (kept_of now.kept) in
    let ok : c.take.result ≡ Ok true = cc (c.in-Ok-true.is, c.in-Ok-true.field-0-test) in
    let t = subst (λ (r : Result Bool Refusal). Takes (asked (beginning c.args.self.now now c.loop-at.at c.loop-at.invariant) i (2 ^ 64 - 1) next) (2 ^ 64 - 1 + 1) c.take.new.self r) ok (c.take.ensures.takes i (2 ^ 64 - 1) next c.in-Ok.ensures) in
    again_lands c.args.self.now now c.loop-at.at c.loop-at.invariant (within (goal.at.returns-in-Ok-true-clause-lands c).In-loop-at) c.take.new.self c.take.ensures.stays c.take.ensures.tree t

pub returns-in-Ok-true-clause-falls : goal.returns-in-Ok-true-clause-falls
returns-in-Ok-true-clause-falls c =
    let now = c.loop-at.self in
    let i = get_or (chunks_of (run_reads now)) c.loop-at.at [] in
    let next = old_chunk now.session (run_reads now) i (kept_of now.kept) in
    let ok : c.take.result ≡ Ok true = cc (c.in-Ok-true.is, c.in-Ok-true.field-0-test) in
    let t = subst (λ (r : Result Bool Refusal). Takes (asked (beginning c.args.self.now now c.loop-at.at c.loop-at.invariant) i (2 ^ 64 - 1) next) (2 ^ 64 - 1 + 1) c.take.new.self r) ok (c.take.ensures.takes i (2 ^ 64 - 1) next c.in-Ok.ensures) in
    again_left c.args.self.now now c.loop-at.at c.loop-at.invariant (within (goal.at.returns-in-Ok-true-clause-falls c).In-loop-at) c.take.new.self c.take.ensures.stays c.take.ensures.tree t

pub returns-in-Err-take-clause-lands : goal.returns-in-Err-take-clause-lands
returns-in-Err-take-clause-lands c =
    let now = c.loop-at.self in
    let i = get_or (chunks_of (run_reads now)) c.loop-at.at [] in
    let next = old_chunk now.session (run_reads now) i (kept_of now.kept) in
    let t = subst (λ (r : Result Bool Refusal). Takes (asked (beginning c.args.self.now now c.loop-at.at c.loop-at.invariant) i (2 ^ 64 - 1) next) (2 ^ 64 - 1 + 1) c.take.new.self r) c.in-Err-take.is (c.take.ensures.takes i (2 ^ 64 - 1) next c.in-Ok.ensures) in
    refused_lands c.args.self.now now c.loop-at.at c.loop-at.invariant (within (goal.at.returns-in-Err-take-clause-lands c).In-loop-at) c.take.new.self c.take.ensures.stays c.take.ensures.tree c.in-Err-take.why t

pub returns-in-Err-take-clause-falls : goal.returns-in-Err-take-clause-falls
returns-in-Err-take-clause-falls c =
    rest_left c.args.self.now c.loop-at.self c.loop-at.at c.loop-at.invariant (within (goal.at.returns-in-Err-take-clause-falls c).In-loop-at) c.take.new.self c.take.ensures.stays c.take.ensures.tree
    (subst (λ (r : Result Bool Refusal). Rests r c.take.new.self.stage) c.in-Err-take.is c.take.ensures.rests)

pub loop-at-preserved : goal.loop-at-preserved
loop-at-preserved c =
    let now = c.loop-at.self in
    let i = get_or (chunks_of (run_reads now)) c.loop-at.at [] in
    let next = old_chunk now.session (run_reads now) i (kept_of now.kept) in
    let ok : c.take.result ≡ Ok false = cc (c.in-Ok-false.is, c.in-Ok-false.field-0-test) in
    let t = subst (λ (r : Result Bool Refusal). Takes (asked (beginning c.args.self.now now c.loop-at.at c.loop-at.invariant) i (2 ^ 64 - 1) next) (2 ^ 64 - 1 + 1) c.take.new.self r) ok (c.take.ensures.takes i (2 ^ 64 - 1) next c.in-Ok.ensures) in
    goes_on c.args.self.now now c.loop-at.at c.loop-at.invariant (within (goal.at.loop-at-preserved c).In-loop-at) c.take.new.self c.take.ensures.stays c.take.ensures.tree t
    (subst (λ (r : Result Bool Refusal). Rests r c.take.new.self.stage) ok c.take.ensures.rests)

pub returns-clause-lands : goal.returns-clause-lands
returns-clause-lands c =
    let same = ap (λ given. length (chunks_of (reads_of given.plan))) c.loop-at.invariant.given in
    subst (λ (p : Program SessionState). RunLands p c.finish.new.self c.finish.result)
    (ended c.args.self.now c.loop-at.self c.loop-at.at c.loop-at.invariant (omega (arith, same, c.loop-at-test.false, c.met-at-end.ensures.value))) c.finish.ensures.lands

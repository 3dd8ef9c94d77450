use Rattle.std.proofs.Common.{◌≡◌, ◌+◌, Bool, true, false, Ok, sym, ap, subst, arith}
use Rattle.std.specs.Prelude.{Result}
use Rattle.store_api.specs.declared.machines.Refusal.{Refusal}
use Rattle.store_api.specs.Running.{Program}
use Rattle.session.specs.Sessions.{SessionState}
use Rattle.array_region.specs.Setting.{write_stage_left, Rests, RunLands, Takes}
use Rattle.array_region.proofs.Writes.{asked, stays_left}
use Rattle.array_region.proofs.runs.Run.on_found.Goals as goal

pub go_on-requires : goal.go_on-requires
go_on-requires c =
    let ok : c.take.result ≡ Ok false = cc (c.in-Ok-false.is, c.in-Ok-false.field-0-test) in
    subst (λ (r : Result Bool Refusal). Rests r c.take.new.self.stage) ok c.take.ensures.rests

pub returns-in-Ok-true-clause-lands : goal.returns-in-Ok-true-clause-lands
returns-in-Ok-true-clause-lands c = λ index most p f.
    let ok : c.take.result ≡ Ok true = cc (c.in-Ok-true.is, c.in-Ok-true.field-0-test) in
    let t = subst (λ (r : Result Bool Refusal). Takes (asked c.args.self.now index most p) (most + 1) c.take.new.self r) ok (c.take.ensures.takes index most p f) in
    (t.0, t.1)

pub returns-in-Ok-true-clause-falls : goal.returns-in-Ok-true-clause-falls
returns-in-Ok-true-clause-falls c = λ index most p f.
    let ok : c.take.result ≡ Ok true = cc (c.in-Ok-true.is, c.in-Ok-true.field-0-test) in
    let t = subst (λ (r : Result Bool Refusal). Takes (asked c.args.self.now index most p) (most + 1) c.take.new.self r) ok (c.take.ensures.takes index most p f) in
    let same = stays_left c.args.self.now c.take.new.self c.take.ensures.stays in
    omega (arith, same, t.2)

pub returns-in-Ok-false-clause-lands : goal.returns-in-Ok-false-clause-lands
returns-in-Ok-false-clause-lands c = λ index most p f.
    let ok : c.take.result ≡ Ok false = cc (c.in-Ok-false.is, c.in-Ok-false.field-0-test) in
    let t = subst (λ (r : Result Bool Refusal). Takes (asked c.args.self.now index most p) (most + 1) c.take.new.self r) ok (c.take.ensures.takes index most p f) in
    subst (λ (q : Program SessionState). RunLands q c.go_on.new.self c.go_on.result) (sym t) c.go_on.ensures.lands

pub returns-in-Ok-false-clause-falls : goal.returns-in-Ok-false-clause-falls
returns-in-Ok-false-clause-falls c = λ index most p f.
    let same = stays_left c.args.self.now c.take.new.self c.take.ensures.stays in
    omega (arith, same, c.go_on.ensures.falls)

pub returns-in-Err-clause-falls : goal.returns-in-Err-clause-falls
returns-in-Err-clause-falls c = λ index most p f.
    let same = stays_left c.args.self.now c.take.new.self c.take.ensures.stays in
    let none = ap write_stage_left (subst (λ (r : Result Bool Refusal). Rests r c.take.new.self.stage) c.in-Err.is c.take.ensures.rests) in
    omega (arith, same, none)

use Rattle.std.proofs.Common.{◌∙◌, Ok, refl, sym, ap, subst}
use Rattle.store_api.specs.Program.{Done, IsAsk}
use Rattle.session.specs.Sessions.{SessionState}
use Rattle.array_region.specs.Writing.{region_set_program}
use Rattle.array_region.specs.Setting.{SameTree}
use Rattle.array_region.proofs.Planned.{read_only}
use Rattle.array_region.proofs.Started.{not_given, given_goes, refused_calm, begun_again, begun_ready, unless_again}
use Rattle.array_region.proofs.setting.RegionSet.start.Goals as goal

pub returns-then-not-writes-clause-begins : goal.returns-then-not-writes-clause-begins
returns-then-not-writes-clause-begins c =
    let r = c.args.region in
    (λ m. read_only c.args.session r.path r.from.items r.to.items c.args.numbers.items (sym c.writes.ensures ∙ c.if-not-writes.true), refl)

pub returns-in-Err-clause-begins : goal.returns-in-Err-clause-begins
returns-in-Err-clause-begins c = ((c.in-Err.ensures.writes c.args.numbers.items (sym c.writes.ensures ∙ c.if-not-writes.false)).is, refl)

pub returns-in-Err-given-clause-begins : goal.returns-in-Err-given-clause-begins
returns-in-Err-given-clause-begins c =
    let r = c.args.region in
    let is = c.in-Ok.ensures.writes c.args.numbers.items (sym c.writes.ensures ∙ c.if-not-writes.false) in
    (λ m. not_given c.args.session (region_set_program c.args.session r.path r.from.items r.to.items c.args.numbers.items) c.in-Ok.plan c.args.numbers.items is c.in-Err-given.why c.in-Err-given.ensures, refl)

pub returns-in-Ok-Again-clause-begins : goal.returns-in-Ok-Again-clause-begins
returns-in-Ok-Again-clause-begins c =
    let r = c.args.region in
    let is = c.in-Ok.ensures.writes c.args.numbers.items (sym c.writes.ensures ∙ c.if-not-writes.false) in
    let given = c.in-Ok-given.ensures in
    let goes = given_goes c.args.session (region_set_program c.args.session r.path r.from.items r.to.items c.args.numbers.items) c.in-Ok.plan c.args.numbers.items is c.in-Ok-given.given given.0 given.1 given.2 c.new.result.items c.new.ensures.items in
    let lands = begun_again _ c.go_on.new.self c.in-Ok-Again.field-0 c.in-Ok-Again.field-0-is c.in-Ok-Again.ensures.lands in
    (sym (goes ∙ lands.0), subst IsAsk (sym (goes ∙ lands.0)) lands.1, unless_again c.in-Ok-Again.field-0 (SameTree c.args.session c.go_on.new.self.session) c.in-Ok-Again.field-0-is c.in-Ok-Again.ensures.tree)

pub returns-in-Ok-Ready-clause-begins : goal.returns-in-Ok-Ready-clause-begins
returns-in-Ok-Ready-clause-begins c =
    let r = c.args.region in
    let is = c.in-Ok.ensures.writes c.args.numbers.items (sym c.writes.ensures ∙ c.if-not-writes.false) in
    let given = c.in-Ok-given.ensures in
    let goes = given_goes c.args.session (region_set_program c.args.session r.path r.from.items r.to.items c.args.numbers.items) c.in-Ok.plan c.args.numbers.items is c.in-Ok-given.given given.0 given.1 given.2 c.new.result.items c.new.ensures.items in
    goes ∙ begun_ready _ c.go_on.new.self c.in-Ok-Ready.field-0 _ c.in-Ok-Ready.field-0-is c.in-Ok-Ready.ensures.lands ∙ ap (λ (t : SessionState). Done (Ok t)) (sym c.into_session.ensures)

pub returns-in-Err-go_on-clause-begins : goal.returns-in-Err-go_on-clause-begins
returns-in-Err-go_on-clause-begins c =
    let r = c.args.region in
    let is = c.in-Ok.ensures.writes c.args.numbers.items (sym c.writes.ensures ∙ c.if-not-writes.false) in
    let given = c.in-Ok-given.ensures in
    let goes = given_goes c.args.session (region_set_program c.args.session r.path r.from.items r.to.items c.args.numbers.items) c.in-Ok.plan c.args.numbers.items is c.in-Ok-given.given given.0 given.1 given.2 c.new.result.items c.new.ensures.items in
    (λ m. goes ∙ c.in-Err-go_on.ensures.lands.is m, subst (λ (t : SessionState). SameTree c.args.session t) (sym c.into_session-in-Err-go_on.ensures) c.in-Err-go_on.ensures.tree)

pub returns-in-Err-given-clause-calm : goal.returns-in-Err-given-clause-calm
returns-in-Err-given-clause-calm c = refused_calm c.in-Ok.plan.array.kind c.in-Ok.plan.count c.args.numbers.items c.in-Err-given.why c.in-Err-given.ensures

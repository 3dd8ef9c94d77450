use Rattle.std.proofs.Common.{rules, ◌≡◌, ◌+◌, arith, ap, map, sym, ◌∙◌, subst, vec_len}
use Rattle.turn_cell.specs.declared.known.Known.{Known}
use Rattle.turn_cell.specs.Passes.{known}
use Rattle.object_store.specs.declared.events.Event.{Event}
use Rattle.play_tasks.specs.Workers.{worker_rest}
use Rattle.play_at_once.specs.inside.Forking.{HasPlaces}
use Rattle.play_at_once.proofs.Joining.{RanAll-none, RanAll-crew, CanGo-crew, CanGoAt-crew, HasPlaces-lower, IsOwner-upper, no_workers}
use Rattle.play_at_once.proofs.crew.+fn-run_crew-join+arg2+run_crew.Goals as goal

pub returns-in_default-clause-ran : goal.returns-in_default-clause-ran
returns-in_default-clause-ran g t c = RanAll-none g.S.WholeStore.tells (known c.args.pass) c.requires.idle (map worker_rest c.args.workers.items) c.args.outcomes.items (no_workers c.args.workers.items (sym c.args.workers.ok.0 ∙ c.in_default.ensures.cases.0)) c.requires.none

pub join-pass-requires-after_bounds : goal.join-pass-requires-after_bounds
join-pass-requires-after_bounds g t c κs within =
    let lower = c.split-own.ensures.lower in
    let upper = c.split-own.ensures.upper in
    let items = c.in-Some.ensures.items in
    let place = c.len-place.result in
    let size : vec_len c.args.workers ≡ place + 1 = let n = c.len-place.ensures in let l = c.in-Some.ensures.len in omega arith in (
      (
        search rules,
        (
          search rules,
          (
            search rules,
            (
              search rules,
              (
                (
                  search rules,
                  search rules,
                  search rules,
                  ap (λ (k : Known Event). k.has_turn) lower ∙ c.requires.idle,
                  HasPlaces-lower (known c.args.pass).owners (known c.split-own.new.pass).owners (vec_len c.args.workers) place (vec_len c.pop.new.self) (ap (λ (k : Known Event). k.owners) lower) c.requires.places (sym c.len-place.ensures),
                  search rules,
                  search rules,
                  search rules,
                  CanGo-crew c.args.workers.items c.pop.new.self.items c.in-Some.last items g.S.WholeStore.tells (known c.args.pass).journal (known c.split-own.new.pass).journal (ap (λ (k : Known Event). k.journal) lower) c.requires.stand,
                ),
                (search rules, search rules, search rules),
              ),
            ),
          ),
        ),
      ),
      (
        search rules,
        search rules,
        search rules,
        ap (λ (k : Known Event). k.has_turn) upper ∙ c.requires.idle,
        IsOwner-upper (known c.args.pass).owners (known c.split-own.result).owners (vec_len c.args.workers) place (ap (λ (k : Known Event). k.owners) upper) c.requires.places size,
        search rules,
        CanGoAt-crew c.args.workers.items c.pop.new.self.items c.in-Some.last items g.S.WholeStore.tells place (known c.args.pass).journal (known c.split-own.result).journal (c.len-place.ensures ∙ c.pop.new.self.ok.0) (ap (λ (k : Known Event). k.journal) upper) c.requires.stand,
      ),
    )

pub returns-clause-ran : goal.returns-clause-ran
returns-clause-ran g t c =
    let one = c.join-pass.ensures.first in
    let two = c.join-pass.ensures.second in
    RanAll-crew c.args.workers.items c.pop.new.self.items c.in-Some.last c.in-Some.ensures.items c.outcome_law.ensures g.S.WholeStore.tells c.len-place.result (known c.args.pass) (known c.split-own.new.pass) (known c.split-own.result) (known c.join-pass.result.0.0) (known c.join-pass.result.1.0) (known c.join.new.pass)
    c.join-pass.result.0.1.items c.push_reserved.new.self.items c.join-pass.result.1.1 (c.len-place.ensures ∙ c.pop.new.self.ok.0) c.split-own.ensures.lower c.split-own.ensures.upper (subst (HasPlaces (known c.args.pass).owners) c.args.workers.ok.0 c.requires.places) one.2 two.1 c.join.ensures.both c.join.ensures.first c.join.ensures.second c.push_reserved.ensures.items

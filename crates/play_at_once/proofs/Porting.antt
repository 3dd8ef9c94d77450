-- A worker over a port, as its pass tells it.
use Rattle.std.proofs.Common.{◌≡◌, ℕ, ◌+◌, ◌<◌, ◌≤◌, Bool, true, false, List, [], refl, sym, ◌∙◌, ap, subst, append-nil, arith, Option, None, Some}
use Rattle.std.specs.Prelude.{IfSome, nat_le, ◌&&◌}
use Rattle.std.proofs.lemmas.Bool.Decides.{nat_tests}
use Rattle.turn_cell.specs.declared.known.Owners.{Owners}
use Rattle.turn_cell.specs.declared.pass.Token.{Token}
use Rattle.turn_cell.specs.Owners.{IsOwner}
use Rattle.turn_cell.specs.Passes.{CellId, cell_of, known}
use Rattle.shared_store.specs.Ports.{caller_of, port_view}
use Rattle.object_store.specs.declared.events.Event.{Event}
use Rattle.store_api.specs.Callers.{Caller, is_before, owns}
use Rattle.store_api.specs.Plays.{Play, Ended}
use Rattle.object_store.proofs.Journals.{Each-weaker}
use Rattle.play_script.specs.declared.scripts.Task.{Task}
use Rattle.play_outcome.specs.declared.outcome.Outcome.{Outcome}
use Rattle.play_tasks.specs.Tasks.{TellsAt}
use Rattle.play_tasks.specs.Played.{PlaysTo}
use Rattle.play_tasks.proofs.Paths.{PlaysTo-ended}
use Rattle.play_run.proofs.Rounds.{ended_told}
use Rattle.play_at_once.specs.inside.Stepping.{IsClientAt, IsKnown, CanStep, Went}
use Rattle.play_at_once.specs.inside.Forking.{CanGoAt, RanOne}

-- ---- owner numbers
le-test : (a b : ℕ) → a ≤ b → nat_le a b ≡ true
le-test a b less = grind (arith, nat_tests)

before-test : (n : ℕ) (end : Option ℕ) → IfSome end (λ e. n < e) → is_before n end ≡ true
before-test n None h = refl
before-test n (Some e) h = grind (arith, nat_tests)

both : (a b : Bool) → a ≡ true → b ≡ true → (a && b) ≡ true
both true b e f = f
both false b e f = absurd (cc)

owner-owns : (tells : Bool) (k : ℕ) (cell : CellId) (owners : Owners) (n : ℕ) → IsOwner owners n → owns (caller_of tells k cell owners) n ≡ true
owner-owns tells k cell owners n own = both (nat_le owners.low n) (is_before n owners.end) (le-test owners.low n own.0) (before-test n owners.end own.1)

same-owners : (a b : Owners) → a.low ≡ b.low → a.end ≡ b.end → a ≡ b
same-owners a b e f = ap (λ (low : ℕ). record { low = low; end = a.end }) e ∙ ap (λ (end : Option ℕ). record { low = b.low; end = end }) f

some_same : (x y : Task) → Some x ≡ Some y → x ≡ y
some_same x y e = cc

module _ {T : Type 0} (tells : Bool) (place : ℕ) (before : Token T Event) where
  -- a port's client has a number that its pass has
  pub IsClientAt-port : (n : ℕ) → n ≡ place + 1 → IsOwner (known before).owners (place + 1) → IsClientAt place (port_view tells n before).caller
  IsClientAt-port n number own = record { number = number; own = owner-owns tells n (cell_of before) (known before).owners (place + 1) own }

  pub CanStep-port : (n : ℕ) (p : Play Outcome) → CanGoAt tells place p (known before).journal → CanStep place (port_view tells n before) p
  CanStep-port n p can told = let r = can told in record { draw = r.draw; tasks = r.tasks; start = r.start; stand = r.stand }

  -- what it came to
  pub RanOne-went : (after : Token T Event) (n m : ℕ) (p : Play Outcome) (outcome : Outcome) → (known after).has_turn ≡ false → Went place (port_view tells n before) (port_view tells m after) p (Ended outcome) → RanOne tells place (known before) (known after) p outcome
  RanOne-went after n m p outcome idle w = record {
    back = record {
      owners = same-owners (known after).owners (known before).owners (ap (λ (c : Caller). c.low) w.same) (ap (λ (c : Caller). c.end) w.same);
      idle = idle;
      counted = w.counted;
    };
    blames = λ m below all failed. w.blames m below all failed;
    events = w.events;
    mine = w.mine;
    plays = subst (λ (xs : List Event). PlaysTo p xs outcome) (append-nil w.events) (w.plays [] outcome (PlaysTo-ended outcome));
    kept = λ draw tasks start told stand.
        let k = w.kept draw tasks start told stand in (
          λ task at_task.
              subst (λ (x : Task). TellsAt draw place x start outcome (known after).journal) (some_same k.0.task task (sym k.0.at ∙ at_task))
              (ended_told (TellsAt draw place k.0.task start) tells (place + 1) outcome (known after).journal k.0.leads),
          record {
            more = k.1.more;
            is = k.1.is;
            known = Each-weaker (IsKnown draw tasks start (λ x. owns (caller_of tells n (cell_of before) (known before).owners) x ≡ true)) (IsKnown draw tasks start (IsOwner (known before).owners))
                (λ h e c. record { good = c.good; mine = λ own. c.mine (owner-owns tells n (cell_of before) (known before).owners e.client own) }) (known before).journal k.1.more k.1.known;
            alike = k.1.alike;
          },
        );
  }

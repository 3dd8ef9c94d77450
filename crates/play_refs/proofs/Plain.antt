-- What tasks on refs show has no lease in it, so that their ends alone tell a fault of the store.
use Rattle.std.proofs.Common.{◌≡◌, ◌++◌, ◌∙◌, ℕ, Bool, true, false, List, [], ◌∷◌, map, inl, inr, refl, sym, ap, subst}
use Rattle.std.specs.Prelude.{◌||◌, ◌⊎◌}
use Rattle.store_api.specs.Callers.{View}
use Rattle.store_api.specs.Plays.{Play, Ended, Ask, Or, Acts, dooms}
use Rattle.store_api.proofs.PlayLaws.{dooms-call}
use Rattle.refs_admin.specs.declared.log.LogLine.{LogLine}
use Rattle.play_script.specs.declared.scripts.Line.{Line}
use Rattle.play_outcome.specs.declared.outcome.Shown.{Shown}
use Rattle.play_outcome.specs.declared.outcome.Outcome.{Outcome}
use Rattle.play_outcome.specs.Ending.{ends_failed, is_failed, left_failed, shows_failed}
use Rattle.refs_admin.specs.inside.Working.{log_rest}
use Rattle.play_refs.specs.declared.working.RefMachine.TheVariants.{Making, Reading}
use Rattle.play_refs.specs.declared.working.Working.{Working}
use Rattle.play_refs.specs.declared.working.Working.TheVariants as w
use Rattle.play_refs.specs.Playing.{log_shown}
use Rattle.play_refs.specs.inside.Working.{maker_rest, after_making, after_reading, lines_from, is_working, shown_in, working_rest}

no-more : (b l r : Bool) → (b || l) ≡ false → (l ≡ false → r ≡ false) → (b || r) ≡ false
no-more false l r plain go = go plain
no-more true l r plain go = plain

-- snapshots of a log are no leases
pub logs_plain : (line : ℕ) (shown : List Shown) (logs : List LogLine) → shows_failed shown ≡ false → shows_failed (shown ++ map (log_shown line) logs) ≡ false
logs_plain line [] [] plain = refl
logs_plain line [] (l ∷ ls) plain = logs_plain line [] ls refl
logs_plain line (s ∷ ss) logs plain = no-more (left_failed s) (shows_failed ss) (shows_failed (ss ++ map (log_shown line) logs)) plain (λ p. logs_plain line ss logs p)

-- an end that tells a fault is told by the whole outcome, too
fails-too : (b e : Bool) → e ≡ true → (b || e) ≡ true
fails-too true e t = refl
fails-too false e t = t

pub dooms-more : (p : Play Outcome) → dooms ends_failed p ≡ true → dooms is_failed p ≡ true
dooms-more (Ended o) d = fails-too (shows_failed o.shown) (ends_failed o) d
dooms-more (Ask op starved next) d = dooms-more starved d
dooms-more (Or p q) d = dooms-more q d

plain-end : (shown : List Shown) (e : Bool) → shows_failed shown ≡ false → (shows_failed shown || e) ≡ e
plain-end shown e plain = ap (λ (b : Bool). b || e) plain

-- where no lease was left, the worker is bound to tell a fault by its end alone
dooms-plain : (body : List Line) (state : Working) → is_working state ≡ true → shows_failed (shown_in state) ≡ false → dooms is_failed (working_rest body state) ≡ dooms ends_failed (working_rest body state)
dooms-plain body (w.Ended o) works plain = plain-end o.shown (ends_failed o) plain
dooms-plain body (w.Calling line at shown (Making maker)) works plain =
    let f = after_making line shown.items (lines_from body at) in
    dooms-call is_failed (maker_rest maker) f works ∙ plain-end shown.items false plain ∙ sym (dooms-call ends_failed (maker_rest maker) f works)
dooms-plain body (w.Calling line at shown (Reading log)) works plain =
    let f = after_reading line shown.items (lines_from body at) in
    dooms-call is_failed (log_rest log) f works ∙ plain-end shown.items false plain ∙ sym (dooms-call ends_failed (log_rest log) f works)

pub acts-plain : (body : List Line) (old new : View) (p : Play Outcome) (state : Working) → is_working state ≡ true → shows_failed (shown_in state) ≡ false → Acts ends_failed old new p (working_rest body state) → Acts is_failed old new p (working_rest body state)
acts-plain body old new p state works plain acts = record {
  same = acts.same;
  blames = (acts.blames.0, λ doomed. by_before (acts.blames.1 (sym (dooms-plain body state works plain) ∙ doomed)));
  went = acts.went;
}
  where
    by_before : {R : Type 0} → (dooms ends_failed p ≡ true) ⊎ R → (dooms is_failed p ≡ true) ⊎ R
    by_before (inl d) = inl (dooms-more p d)
    by_before (inr rose) = inr rose

-- What a task that checks answers.
use Rattle.std.proofs.Common.{◌≡◌, ℕ, Bool, false, List, ◌++◌, ◌∷◌, [], refl, sym, subst}
use Rattle.std.specs.Prelude.{Result, Ok, Err}
use Rattle.object_store.specs.declared.events.Event.{Event}
use Rattle.store_api.specs.declared.machines.Refusal.{Refusal}
use Rattle.store_api.specs.declared.machines.Refusal.TheVariants as R
use Rattle.store_api.specs.Plays.{Play, Ended, Ask as Ask_play, Or}
use Rattle.check_reports.specs.declared.faults.CheckFault.{CheckFault}
use Rattle.check_reports.specs.declared.faults.Checked.{Checked}
use Rattle.repo_check.specs.Findings.{Finding, Deed}
use Rattle.repo_check.specs.Exact.{EndsSo}
use Rattle.play_outcome.specs.declared.outcome.End.TheVariants as E
use Rattle.play_outcome.specs.declared.outcome.Outcome.{Outcome}
use Rattle.play_check.specs.Telling.{CheckedTells}
use Rattle.play_course.specs.Refusing.{is_strange, strange_end}
use Rattle.play_course.proofs.Meeting.{Watch, PlayMeets}

-- what holds of all that a play may end with
pub meets-any : {A : Type 0} (Q : A → Type 0) → ((a : A) → Q a) → (watch : Watch) (p : Play A) (journal : List Event) → PlayMeets Q watch p journal
unfolding PlayMeets
meets-any Q all watch (Ended a) journal = all a
meets-any Q all watch (Ask_play op starved next) journal = (meets-any Q all watch starved journal, λ more event others own is. meets-any Q all watch (next event.reply) ((journal ++ more) ++ event ∷ []))
meets-any Q all watch (Or p q) journal = (meets-any Q all watch p journal, meets-any Q all watch q journal)

-- a check reports what it finds, and is refused by none of these
plain-why : (collects : Bool) (findings : List Finding) (rest : List Deed) (why : Refusal) → EndsSo findings rest (Err why) → is_strange collects why ≡ false
plain-why collects findings rest (R.Missing key) e = absurd e
plain-why collects findings rest (R.BadFile key bad) e = absurd e
plain-why collects findings rest (R.IdTaken key) e = absurd e
plain-why collects findings rest _ e = refl

plain-result : (collects : Bool) (line : ℕ) (faults : List CheckFault) (findings : List Finding) (rest : List Deed) (result : Result Checked Refusal) → EndsSo findings rest result → strange_end collects (E.Checked line faults result) ≡ false
plain-result collects line faults findings rest (Ok counts) e = refl
plain-result collects line faults findings rest (Err why) e = plain-why collects findings rest why e

pub check-plain : (collects : Bool) (line client : ℕ) (start : List Event) (outcome : Outcome) (journal : List Event) → CheckedTells line client start outcome journal → strange_end collects outcome.end ≡ false
check-plain collects line client start outcome journal t =
    let reports = t.tells.reports in
    subst (λ (o : Outcome). strange_end collects o.end ≡ false) (sym t.is) (plain-result collects line t.report.faults reports.findings reports.rest t.report.result reports.ends)

-- What checks say of the store.
use Rattle.std.proofs.Common.{◌≡◌, inl, inr, ℕ, false, List, [], ◌∷◌, ◌++◌, sym, ◌∙◌, ap, subst, append_assoc, append-nil}
use Rattle.std.specs.Prelude.{Contains, Result, Ok, Err}
use Rattle.repo_objects.specs.Laws.{SnapshotLaw}
use Rattle.object_store.specs.declared.keys.Key.{Key}
use Rattle.object_store.specs.declared.events.Reply.{Reply}
use Rattle.object_store.specs.declared.events.Event.{Event}
use Rattle.object_store.specs.Machine.{Slot, found}
use Rattle.object_store.proofs.Journals.{Each-back, Each-weaker}
use Rattle.store_api.specs.declared.machines.Refusal.{Refusal}
use Rattle.store_api.specs.declared.machines.Refusal.TheVariants.{Unsound}
use Rattle.store_api.specs.Callers.{has_failed}
use Rattle.store_api.specs.Journal.{Each}
use Rattle.check_reports.specs.declared.faults.Checked.{Checked}
use Rattle.intact.specs.Visits.{Visit}
use Rattle.intact.specs.Intact.{Made, WasAnswered}
use Rattle.repo_check.specs.declared.standing.CheckReport.{CheckReport}
use Rattle.repo_check.specs.Findings.{Finding, Deed, made_of, deed_of, deeds_of}
use Rattle.repo_check.specs.Exact.{EndsSo, CheckTells}
use Rattle.ice_ids.proofs.Elements.{first-is, later-is, first-or-later, none-in}
use Rattle.check_calls.specs.Beside.{TakesNothing, IsOf, IsStill}
use Rattle.check_calls.specs.Whole.{AllWhole}
use Rattle.check_calls.specs.Told.{NoneFailed}
use Rattle.check_calls.specs.Laws.{SoundLaw, StillLaw}
use Rattle.check_calls.proofs.Steady.{Reads, same, reads-calm}
use Rattle.check_calls.proofs.Own.{all-reads}
use Rattle.check_calls.proofs.Course.{Course, course-of, carried}
use Rattle.check_calls.proofs.Sound.{whole-at, as-read}
use Rattle.check_calls.proofs.Still.{all-intact, all-whole}

ends-as : (findings : List Finding) (rest : List Deed) (result other : Result Checked Refusal) → result ≡ other → EndsSo findings rest result → EndsSo findings rest other
ends-as findings rest result other e h = subst (EndsSo findings rest) e h

-- ---- sound means whole
pub sound-law : SnapshotLaw → SoundLaw
sound-law snaps client start first last journal report checked c ok calm =
    let r = c.reports in
    let ends = ends-as r.findings r.rest report.result (Ok checked) ok r.ends in
    let s = ends.1 in
    let course = course-of TakesNothing client start first last journal calm report c ends.0 in
    as-read snaps client start first last (made_of r.findings) course (carried client start first last (made_of r.findings) course calm.each) s.intact s.snapshots.ids (λ id n. (s.snapshots.are id).1 n)
    s.chunks.ids (λ id o. (s.chunks.are id).1 o) (λ id k. (s.chunks.are id).0 k) (λ id k. (s.snapshots.are id).0 k) r.sound.named

-- ---- exact when still
module _ (client : ℕ) (start first last journal : List Event) (report : CheckReport) (c : CheckTells client start report journal) (still : IsStill client start first last journal) (none : c.reports.rest ≡ []) where
  abbrev made : List Made
  made = made_of c.reports.findings

  abbrev course : Course client start first last made
  course = course-of (IsOf client) client start first last journal still report c none

  reads : Each Reads first course.between
  reads = all-reads client first course.between made course.deeds still.each

  calm : Each TakesNothing first course.between
  calm = Each-weaker Reads TakesNothing reads-calm first course.between reads

  unchanged : (key : Key) (before after : List Event) → course.between ≡ before ++ after → found (first ++ before) key ≡ found last key
  unchanged key before after is =
      let parts = Each-back Reads first before after (subst (λ (l : List Event). Each Reads first l) is reads) in
      sym (ap (λ (h : List Event). found h key) (course.last_is ∙ (ap (λ (l : List Event). first ++ l) is ∙ sym (append_assoc first before after)))
      ∙ ap (λ (s : Slot). s.stands) (same key (first ++ before) after parts.1))

  has-deed : (m : List Made) (one : Made) → Contains m one → Contains (deeds_of m) (deed_of one)
  has-deed [] one k = absurd (none-in one k)
  has-deed (x ∷ m) one k = elim (first-or-later x one m k) [
    | inl e ↦ subst (λ (y : Made). Contains (deeds_of (x ∷ m)) (deed_of y)) e (first-is (deed_of x) (deeds_of m))
    | inr l ↦ later-is (deed_of x) (deed_of one) (deeds_of m) (has-deed m one l)
  ]

  deeds-are : deeds_of made ≡ deeds_of made ++ c.reports.rest
  deeds-are = sym (ap (λ (l : List Deed). deeds_of made ++ l) none ∙ append-nil (deeds_of made))

  unfailed : NoneFailed client start journal → (v : Visit) (reply : Reply) → WasAnswered made v reply → has_failed reply ≡ false
  unfailed fine v reply t =
      ap has_failed (sym t.reply_is)
      ∙ fine (deed_of t.one) (subst (λ (l : List Deed). Contains l (deed_of t.one)) (deeds-are ∙ sym c.reports.are) (has-deed made t.one t.among))

pub still-law : SnapshotLaw → StillLaw
still-law snaps client start first last journal report c tells still = record { sound = sound; whole = whole }
  where
    sound : (checked : Checked) → report.result ≡ Ok checked → AllWhole last
    sound checked ok =
        let r = c.reports in
        let ends = ends-as r.findings r.rest report.result (Ok checked) ok r.ends in
        let s = ends.1 in
        let k = course client start first last journal report c still ends.0 in
        let m = made_of r.findings in
        all-whole snaps client start first last m k (unchanged client start first last journal report c still ends.0) s.intact
        (whole-at snaps client start first last m k (carried client start first last m k (calm client start first last journal report c still ends.0)) s.intact s.snapshots.ids (λ id n. (s.snapshots.are id).1 n))

    whole : (faults : ℕ) → report.result ≡ Err (Unsound faults) → AllWhole last → ⊥
    whole faults bad all =
        let r = c.reports in
        let ends = ends-as r.findings r.rest report.result (Err (Unsound faults)) bad r.ends in
        let s = ends.1 in
        s.broken
        (all-intact snaps client start first last (made_of r.findings) (course client start first last journal report c still ends.0) (unchanged client start first last journal report c still ends.0)
        (unfailed client start first last journal report c still ends.0 (tells faults bad)) s.all.whole all)

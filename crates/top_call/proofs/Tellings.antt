-- The causes of a run, one after the other and together.
use Rattle.std.proofs.Common.{◌-◌, ◌^◌, ltb, ◌≡◌, ℕ, zero, suc, ◌≤◌, ◌<◌, ◌⊎◌, inl, inr, Bool, true, false, List, [], ◌∷◌, ◌++◌, refl, sym, ◌∙◌, ap, subst, arith, length, map, ◌+◌, length-append}
use Rattle.std.specs.Prelude.{IsTrue, ◌||◌, Result, Ok, Err, Option, Some, None, slice_get}
use Rattle.std.specs.List.{list_any, flat_map}
use Rattle.std.proofs.lemmas.Bool.{ltb-true, ltb-false}
use Rattle.std.proofs.lemmas.List.Folds.{list_any-append}
use Rattle.ice_base.specs.Ends.{OutputAt, Rose}
use Rattle.drafts.specs.Drafts.{Wrote}
use Rattle.ice_ids.specs.declared.drawing.Draw.{Draw}
use Rattle.object_store.specs.declared.events.Event.{Event}
use Rattle.store_api.specs.declared.machines.Refusal.{Refusal}
use Rattle.store_api.specs.Callers.{Caller, View, HasAll, as_client}
use Rattle.store_api.specs.Running.{Program, Runs}
use Rattle.command_words.specs.declared.reading.Command.{Command}
use Rattle.command_words.specs.declared.reading.Command.TheVariants as C
use Rattle.store_api.specs.Program.{is_no_memory, is_fault}
use Rattle.play_script.specs.declared.scripts.Script.{Script}
use Rattle.play_script.specs.declared.scripts.Task.{Task}
use Rattle.play_script.specs.declared.scripts.Turn.{Turn}
use Rattle.play_outcome.specs.declared.outcome.End.{End}
use Rattle.play_outcome.specs.declared.outcome.End.TheVariants as E
use Rattle.play_outcome.specs.declared.outcome.Outcome.{Outcome}
use Rattle.play_outcome.specs.declared.outcome.RefLine.{RefLine}
use Rattle.play_outcome.specs.declared.outcome.Shown.{Shown}
use Rattle.play_outcome.specs.declared.outcome.Shown.TheVariants as Line
use Rattle.play_outcome.specs.Ending.{end_failed, is_failed, left_failed, shows_failed}
use Rattle.play_script.specs.Well.{IsWell}
use Rattle.play_course.specs.Law.{PromiseLaw}
use Rattle.play_report.specs.Report.{report_of}
use Rattle.play_course.specs.Course.{Course, OnlyBegan, Plays, RanBy}
use Rattle.top_call.specs.declared.statuses.Causes.{Causes}
use Rattle.top_call.specs.declared.statuses.Status.{Status}
use Rattle.top_call.specs.declared.statuses.Status.TheVariants as S
use Rattle.top_call.specs.Statuses.{status_of}
use Rattle.play_outcome.specs.Ending.{end_why, why_ended, why_left}
use Rattle.top_call.specs.Telling.{why_of, refusals, is_other, causes, line_text, IsText, Told, KeepsAll, IsRegular}
use Rattle.top_call.specs.inside.Adding.{added, all_added}
use Rattle.top_call.proofs.Rows.{rows-all}
use Rattle.top_call.specs.inside.Playing.{KeepsHistories, KeepsBranches, WasUntold, WasPlayed, IsReported}

-- ---- causes
pub all_added-append : (xs ys : List Refusal) (c : Causes) → all_added c (xs ++ ys) ≡ all_added (all_added c xs) ys
all_added-append [] ys c = refl
all_added-append (x ∷ xs) ys c = all_added-append xs ys (added c x)

or-assoc : (a b c : Bool) → ((a || b) || c) ≡ (a || (b || c))
or-assoc true b c = refl
or-assoc false b c = refl

-- with these refusals more, in words of their tests
together : Causes → List Refusal → Causes
together c whys = record { no_memory = c.no_memory || list_any is_no_memory whys; store_fault = c.store_fault || list_any is_fault whys; unwritten = c.unwritten; refused = c.refused || list_any is_other whys }

or-false : (a : Bool) → (a || false) ≡ a
or-false true = refl
or-false false = refl

added-together : (whys : List Refusal) (c : Causes) → all_added c whys ≡ together c whys
unfolding together
added-together [] c = sym (rw (or-false c.no_memory, or-false c.store_fault, or-false c.refused) refl)
added-together (w ∷ ws) c =
    added-together ws (added c w) ∙ rw (or-assoc c.no_memory (is_no_memory w) (list_any is_no_memory ws), or-assoc c.store_fault (is_fault w) (list_any is_fault ws), or-assoc c.refused (is_other w) (list_any is_other ws)) refl

-- of one end, where nothing is amiss before but perhaps the report
pub end-causes : (unwritten : Bool) (whys : List Refusal) → all_added (record { no_memory = false; store_fault = false; unwritten = unwritten; refused = false }) whys ≡ causes unwritten whys
unfolding together
end-causes unwritten whys = added-together whys (record { no_memory = false; store_fault = false; unwritten = unwritten; refused = false })

pub all-causes : (unwritten : Bool) (opening : Result (Unit {0}) Refusal) (outcomes : List Outcome) (refs : Result (List RefLine) Refusal)
    → all_added (all_added (all_added (record { no_memory = false; store_fault = false; unwritten = unwritten; refused = false }) (why_of opening)) (flat_map why_ended outcomes)) (why_of refs) ≡ causes unwritten (refusals opening outcomes refs)
unfolding together
all-causes unwritten opening outcomes refs =
    let c : Causes = record { no_memory = false; store_fault = false; unwritten = unwritten; refused = false } in
    sym (all_added-append (why_of opening) (flat_map why_ended outcomes ++ why_of refs) c ∙ all_added-append (flat_map why_ended outcomes) (why_of refs) (all_added c (why_of opening))) ∙ added-together (refusals opening outcomes refs) c

-- ---- a fault of the store is told only where it rose
Rose-later : (a b c : ℕ) → a ≤ b → Rose b c → Rose a c
Rose-later a b c l r = (omega (arith, l, r.0), elim r.1 [ inl s ↦ inl (omega (arith, l, s)) | inr e ↦ inr e ])

Rose-on : (a b c : ℕ) → Rose a b → b ≤ c → Rose a c
Rose-on a b c r l = (omega (arith, r.0, l), elim r.1 [ inl s ↦ inl (omega (arith, s, l)) | inr e ↦ decide (ltb b c) refl e ])
  where
    decide : (less : Bool) → ltb b c ≡ less → b ≡ 2 ^ 64 - 1 → (a < c) ⊎ (c ≡ 2 ^ 64 - 1)
    decide true h e = let s = ltb-true b c h in inl (omega (arith, r.0, s))
    decide false h e = let s = ltb-false b c h in inr (omega (arith, l, s, e))

-- what was refused for a fault rose the count
result-rose : {A : Type 0} (m n : ℕ) (result : Result A Refusal) → ((why : Refusal) → result ≡ Err why → is_fault why ≡ true → Rose m n) → list_any is_fault (why_of result) ≡ true → Rose m n
result-rose m n (Ok a) blames e = absurd cc
result-rose m n (Err why) blames e = blames why refl (sym (or-false (is_fault why)) ∙ e)

-- one of a list of outcomes tells a fault
record HasFailed (outcomes : List Outcome) : Type 0 where
  pub place : ℕ
  pub outcome : Outcome
  pub at : slice_get outcomes place ≡ Some outcome
  pub failed : is_failed outcome ≡ true

end-failed : (end : End) → list_any is_fault (end_why end) ≡ end_failed end
end-failed (E.Committed id) = refl
end-failed (E.Collected removed) = refl
end-failed E.Done = refl
end-failed (E.Refused line why) = or-false (is_fault why)
end-failed (E.Stopped line why removed) = or-false (is_fault why)
end-failed (E.InDoubt id how) = refl
end-failed (E.Expired line cases (Ok done)) = refl
end-failed (E.Expired line cases (Err why)) = or-false (is_fault why)
end-failed (E.Checked line faults (Ok counts)) = refl
end-failed (E.Checked line faults (Err why)) = or-false (is_fault why)

-- a lease that was left tells a fault where its refusal is one
left-failed : (s : Shown) → list_any is_fault (why_left s) ≡ left_failed s
left-failed (Line.Node line array path) = refl
left-failed (Line.Meta line text) = refl
left-failed (Line.Chunk line bytes) = refl
left-failed (Line.Fill line) = refl
left-failed (Line.Cells line numbers) = refl
left-failed (Line.Key line bytes) = refl
left-failed (Line.Log line id flushed_at message props) = refl
left-failed (Line.Lease line id None) = refl
left-failed (Line.Lease line id (Some why)) = or-false (is_fault why)

all-left-failed : (shown : List Shown) → list_any is_fault (flat_map why_left shown) ≡ shows_failed shown
all-left-failed [] = refl
all-left-failed (s ∷ ss) =
    list_any-append is_fault (why_left s) (flat_map why_left ss)
    ∙ (ap (λ (b : Bool). b || list_any is_fault (flat_map why_left ss)) (left-failed s) ∙ ap (λ (b : Bool). left_failed s || b) (all-left-failed ss))

pub outcome-failed : (o : Outcome) → list_any is_fault (why_ended o) ≡ is_failed o
outcome-failed o =
    list_any-append is_fault (flat_map why_left o.shown) (end_why o.end)
    ∙ (ap (λ (b : Bool). b || list_any is_fault (end_why o.end)) (all-left-failed o.shown) ∙ ap (λ (b : Bool). shows_failed o.shown || b) (end-failed o.end))

or-cases : (a b : Bool) → (a || b) ≡ true → (a ≡ true) ⊎ (b ≡ true)
or-cases true b e = inl refl
or-cases false b e = inr e

has-failed : (outcomes : List Outcome) → list_any is_fault (flat_map why_ended outcomes) ≡ true → HasFailed outcomes
has-failed [] e = absurd cc
has-failed (o ∷ os) e = elim (or-cases (list_any is_fault (why_ended o)) (list_any is_fault (flat_map why_ended os)) (sym (list_any-append is_fault (why_ended o) (flat_map why_ended os)) ∙ e)) [
  | inl here ↦ record { place = zero; outcome = o; at = refl; failed = sym (outcome-failed o) ∙ here }
  | inr later ↦ let found = has-failed os later in record { place = suc found.place; outcome = found.outcome; at = found.at; failed = found.failed }
]

-- the faults of a course never fall, and where a part of it tells one, they rose
module _ (draw : Draw) (script : Script) where
  plays-counted : (old new : View) (opening : Result (Unit {0}) Refusal) (outcomes : List Outcome) → Plays draw script old new opening outcomes → old.faults ≤ new.faults
  plays-counted old new (Ok done) outcomes p = p.counted
  plays-counted old new (Err why) outcomes p = let same : new.faults ≡ old.faults = ap (λ (v : View). v.faults) p.0 in omega (arith, same)

  plays-blame : (old new : View) (opening : Result (Unit {0}) Refusal) (outcomes : List Outcome) → Plays draw script old new opening outcomes → HasFailed outcomes → Rose old.faults new.faults
  plays-blame old new (Ok done) outcomes p f = p.blames f.place f.outcome f.at f.failed
  plays-blame old new (Err why) [] p f = let no = f.at in absurd cc
  plays-blame old new (Err why) (o ∷ os) p f = let no = p.1 in absurd cc

  faults-rose : (old new : View) (opening : Result (Unit {0}) Refusal) (outcomes : List Outcome) (refs : Result (List RefLine) Refusal) → Course draw script old new opening outcomes refs → list_any is_fault (refusals opening outcomes refs) ≡ true → Rose old.faults new.faults
  faults-rose old new opening outcomes refs c e =
      let mid : c.begun.faults ≤ c.played.faults = plays-counted c.begun c.played opening outcomes c.plays in
      let first = c.begins.faults in
      let last = c.reads.faults in
      let parts = or-cases (list_any is_fault (why_of opening)) (list_any is_fault (flat_map why_ended outcomes ++ why_of refs)) (sym (list_any-append is_fault (why_of opening) (flat_map why_ended outcomes ++ why_of refs)) ∙ e) in
      elim parts [
        | inl here ↦ Rose-on old.faults c.begun.faults new.faults (result-rose old.faults c.begun.faults opening c.begins.blames here) (omega (arith, mid, last))
        | inr later ↦ elim (or-cases (list_any is_fault (flat_map why_ended outcomes)) (list_any is_fault (why_of refs)) (sym (list_any-append is_fault (flat_map why_ended outcomes) (why_of refs)) ∙ later)) [
          | inl here ↦ Rose-later old.faults c.begun.faults new.faults first (Rose-on c.begun.faults c.played.faults new.faults (plays-blame c.begun c.played opening outcomes c.plays (has-failed outcomes here)) last)
          | inr here ↦ Rose-later old.faults c.played.faults new.faults (omega (arith, first, mid)) (result-rose c.played.faults new.faults refs c.reads.blames here)
        ]
      ]

-- a write that failed told so
pub wrote-rose : (old new : OutputAt) (text : List ℕ) (unwritten : Bool) → Wrote old new text unwritten → unwritten ≡ true → Rose old.faults new.faults
wrote-rose old new text true w e = w.faults
wrote-rose old new text false w e = cc

module _ (command : Command) (draw : Draw) (script : Script) (s t : View) (x y : OutputAt) (status : Status) (p : WasPlayed command draw script s t x y status) where
  given : Causes
  given = causes p.told.unwritten (refusals p.opening p.outcomes p.refs)

  pub store-rose : status ≡ S.StoreFault → Rose s.faults t.faults
  unfolding given
  store-rose e =
      let is : status_of given ≡ S.StoreFault = sym p.told.status_is ∙ e in
      faults-rose draw script s t p.opening p.outcomes p.refs p.course (((rows-all given).store_fault.0 is).1)

  pub sink-rose : status ≡ S.WriteFault → Rose x.faults y.faults
  unfolding given
  sink-rose e =
      let is : status_of given ≡ S.WriteFault = sym p.told.status_is ∙ e in
      wrote-rose x y _ p.told.unwritten p.told.wrote (((rows-all given).write_fault.0 is).2)

-- ---- what is promised
pub kept-all : PromiseLaw → (draw : Draw) (script : Script) (s t : View) (opening : Result (Unit {0}) Refusal) (outcomes : List Outcome) (refs : Result (List RefLine) Refusal) → IsWell script → (c : Course draw script s t opening outcomes refs) → KeepsAll draw script s c.begun t outcomes refs
kept-all law draw script s t opening outcomes refs well c tells before sound new = law draw script before s t opening outcomes refs well.tasks c tells sound new

-- ---- what was played and told
pub finished : (command : Command) (draw : Draw) (script : Script) (s t : View) (x y : OutputAt) (opening : Result (Unit {0}) Refusal) (outcomes : List Outcome) (refs : Result (List RefLine) Refusal) (status : Status)
    → (c : Course draw script s t opening outcomes refs) → KeepsAll draw script s c.begun t outcomes refs → KeepsHistories draw script s t refs → IsRegular draw script s opening outcomes refs
    → Told (IsText command script s t opening outcomes refs) (refusals opening outcomes refs) x y status
    → WasPlayed command draw script s t x y status
finished command draw script s t x y opening outcomes refs status c all kept regular told = record { opening = opening; outcomes = outcomes; refs = refs; course = c; promise = all; histories = kept; regular = regular; told = told }

-- ---- the report
pub is-report : (command : Command) (script : Script) (s t : View) (opening : Result (Unit {0}) Refusal) (outcomes : List Outcome) (refs : Result (List RefLine) Refusal) (text : List ℕ)
    → IsReported command → text ≡ report_of (map (λ (t : Task). t.name) script.tasks) opening outcomes refs → IsText command script s t opening outcomes refs text
is-report C.Play script s t opening outcomes refs text reported is = is
is-report (C.Cells box) script s t opening outcomes refs text reported is = is
is-report (C.Grow tasks) script s t opening outcomes refs text reported is = absurd reported
is-report C.Check script s t opening outcomes refs text reported is = is
is-report (C.Help topic) script s t opening outcomes refs text reported is = is
is-report C.Version script s t opening outcomes refs text reported is = is

-- by the names of the script's tasks
pub told-report : (command : Command) → IsReported command → (names : List (List ℕ)) (script : Script) (s t : View) (opening : Result (Unit {0}) Refusal) (outcomes : List Outcome) (refs : Result (List RefLine) Refusal) (x y : OutputAt) (status : Status)
    → names ≡ map (λ (t : Task). t.name) script.tasks
    → Told (λ text. text ≡ report_of names opening outcomes refs) (refusals opening outcomes refs) x y status
    → Told (IsText command script s t opening outcomes refs) (refusals opening outcomes refs) x y status
told-report command reported names script s t opening outcomes refs x y status same told =
    let is = is-report command script s t opening outcomes refs told.text reported (told.is ∙ ap (λ (n : List (List ℕ)). report_of n opening outcomes refs) same) in
    record { text = told.text; is = is; unwritten = told.unwritten; wrote = told.wrote; status_is = told.status_is }

-- ---- the line of a grown script
-- a run adds to a journal that is told
ran-grew : (turns : Option (List Turn)) (draw : Draw) (tasks : List Task) (tells : Bool) (outcomes : List Outcome) (old new : List Event) → RanBy turns draw tasks tells outcomes old new → IsTrue tells → length old ≤ length new
ran-grew (Some turns) draw tasks tells outcomes old new r told = let one = ap length (r.ran.is told) ∙ length-append old r.ran.own in omega (arith, one)
ran-grew None draw tasks tells outcomes old new r told = let one = ap length (r.is told) ∙ length-append old r.own in omega (arith, one)

plays-grew : (draw : Draw) (script : Script) (old new : View) (opening : Result (Unit {0}) Refusal) (outcomes : List Outcome) → Plays draw script old new opening outcomes → IsTrue old.caller.tells
    → length old.seen ≤ length new.seen × IsTrue new.caller.tells
plays-grew draw script old new (Ok done) outcomes p told = (ran-grew script.turns draw script.tasks old.caller.tells outcomes old.seen new.seen p.ran told, subst IsTrue (sym p.tells) told)
plays-grew draw script old new (Err why) outcomes p told = (subst (λ (v : View). length old.seen ≤ length v.seen) (sym p.0) (omega arith), subst (λ (v : View). IsTrue v.caller.tells) (sym p.0) told)

run-grew : {A : Type 0} (old new : View) (p : Program A) (result : Result A Refusal) → Runs (as_client 0 old) new p result → HasAll old.caller → IsTrue old.caller.tells
    → length old.seen ≤ length new.seen × IsTrue new.caller.tells
run-grew old new p result r all told =
    let adds = r.alone told (record { low = all.low; end = all.end }) in
    let one = ap length adds.is ∙ length-append old.seen r.own in
    (omega (arith, one), subst (λ (by : Caller). IsTrue by.tells) (sym r.same) told)

pub course-grew : (draw : Draw) (script : Script) (s t : View) (opening : Result (Unit {0}) Refusal) (outcomes : List Outcome) (refs : Result (List RefLine) Refusal) → Course draw script s t opening outcomes refs → IsTrue s.caller.tells
    → length s.seen ≤ length t.seen × IsTrue t.caller.tells
course-grew draw script s t opening outcomes refs c told =
    let first = run-grew s c.begun _ opening c.begins c.alone told in
    let mid = plays-grew draw script c.begun c.played opening outcomes c.plays first.1 in
    let last = run-grew c.played t _ refs c.reads c.still_alone mid.1 in
    (omega (arith, first.0, mid.0, last.0), last.1)

-- what a count says before and after a course is by how much the journal grew
pub counted : (draw : Draw) (script : Script) (s t : View) (opening : Result (Unit {0}) Refusal) (outcomes : List Outcome) (refs : Result (List RefLine) Refusal) (before after : ℕ)
    → Course draw script s t opening outcomes refs → (IsTrue s.caller.tells → before ≡ length s.seen) → (IsTrue t.caller.tells → after ≡ length t.seen)
    → IsTrue s.caller.tells → length t.seen ≡ length s.seen + (after - before)
counted draw script s t opening outcomes refs before after c first last told =
    let grew = course-grew draw script s t opening outcomes refs c told in
    let one = first told in
    let two = last grew.1 in
    omega (arith, grew.0, one, two)

-- the line was told
pub told-line : (tasks events : ℕ) (script : Script) (s t : View) (opening : Result (Unit {0}) Refusal) (outcomes : List Outcome) (refs : Result (List RefLine) Refusal) (x y : OutputAt) (status : Status)
    → (IsTrue s.caller.tells → length t.seen ≡ length s.seen + events)
    → Told (λ text. text ≡ line_text tasks outcomes events) (refusals opening outcomes refs) x y status
    → Told (IsText (C.Grow tasks) script s t opening outcomes refs) (refusals opening outcomes refs) x y status
told-line tasks events script s t opening outcomes refs x y status grew told = record { text = told.text; is = record { events = events; counted = grew; is = told.is }; unwritten = told.unwritten; wrote = told.wrote; status_is = told.status_is }

-- ---- where memory ran out
pub unplayed : (draw : Draw) (script : Script) (s t : View) (x : OutputAt) → OnlyBegan s t → KeepsBranches draw script s t → WasUntold draw script s t x x
unplayed draw script s t x b kept = record { out = refl; began = b; histories = kept }

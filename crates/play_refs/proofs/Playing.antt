-- Whatever others do, each operation of a task that calls on refs is minded, and its outcome tells the journal.
use Rattle.std.proofs.Common.{◌≡◌, ◌∙◌, inl, inr, ℕ, List, [], ◌∷◌, ◌++◌, refl, sym, ap, subst, append_assoc, append-nil}
use Rattle.std.specs.Prelude.{◌==◌}
use Rattle.std.proofs.lemmas.List.Elements.{filter-append}
use Rattle.object_store.specs.declared.events.Event.{Event}
use Rattle.store_api.specs.declared.machines.Refusal.{Refusal}
use Rattle.store_api.specs.declared.machines.Refusal.TheVariants.{NoMemory}
use Rattle.store_api.specs.Journal.{Each}
use Rattle.store_api.specs.Callers.{Caller, IsOther}
use Rattle.store_api.specs.Plays.{Play, PlayKeeps, PlayLeads}
use Rattle.store_api.proofs.Programs.{events_of-others}
use Rattle.repo_read.proofs.Own.{MadeGets-none}
use Rattle.refs_admin.specs.Laws.{RefsLaw}
use Rattle.script_calls.specs.declared.calls.RefCall.TheVariants as ref
use Rattle.script_calls.specs.declared.calls.Call.{Call}
use Rattle.script_calls.specs.declared.calls.Call.TheVariants as call
use Rattle.play_script.specs.declared.scripts.Line.{Line}
use Rattle.play_outcome.specs.declared.outcome.Shown.{Shown}
use Rattle.play_outcome.specs.declared.outcome.End.{End}
use Rattle.play_outcome.specs.declared.outcome.End.TheVariants.{Done, Refused}
use Rattle.play_outcome.specs.declared.outcome.Outcome.{Outcome}
use Rattle.play_outcome.specs.Playing.{ended, refused}
use Rattle.play_outcome.proofs.Plays.{PlayLeads-weaker}
use Rattle.play_refs.specs.Playing.{Rest, after_ref, play_ref_line, refs_play}
use Rattle.play_refs.specs.Telling.{DidLine, RefusedLine, StarvedLine, CallsTold, MadeNone, EndsAt, RefsTells}
use Rattle.play_refs.proofs.Calls.{Minds, GoesWell, ref-well}

-- ---- no event more
pub MadeNone-none : (client : ℕ) (journal : List Event) → MadeNone client journal journal
MadeNone-none client journal = record { more = []; is = sym (append-nil journal); none = refl }

pub MadeNone-others : (by : Caller) (there journal more : List Event) → Each (IsOther by) journal more → MadeNone by.number there journal → MadeNone by.number there (journal ++ more)
MadeNone-others by there journal more others m = record {
  more = m.more ++ more;
  is = ap (λ (h : List Event). h ++ more) m.is ∙ append_assoc there m.more more;
  none = filter-append (λ (e : Event). e.client == by.number) m.more more ∙ rw (m.none, events_of-others by journal more others) refl;
}

-- ---- the lines that are left
-- what these lines come to that are called at `start`, where this was shown before them
record Ending (client : ℕ) (ls : List Line) (start : List Event) (before : List Shown) (outcome : Outcome) (journal : List Event) : Type 0 where
  played : List Line
  left : List Line
  body_is : ls ≡ played ++ left
  more : List Shown
  shown_is : outcome.shown ≡ before ++ more
  there : List Event
  calls : CallsTold client played start more there
  ends : EndsAt client left there outcome.end journal

calls-none : (client : ℕ) (start : List Event) → CallsTold client [] start [] start
unfolding CallsTold
calls-none client start = (refl, refl)

calls-more : (client : ℕ) (l : Line) (ls : List Line) (start mid journal : List Event) (first more : List Shown) → DidLine client l.number l.call start first mid → CallsTold client ls mid more journal → CallsTold client (l ∷ ls) start (first ++ more) journal
unfolding CallsTold
calls-more client l ls start mid journal first more d c = (first, more, mid, refl, d, c)

-- after one more line
one-more : (client : ℕ) (l : Line) (ls : List Line) (start mid : List Event) (before first : List Shown) (outcome : Outcome) (journal : List Event) → DidLine client l.number l.call start first mid → Ending client ls mid (before ++ first) outcome journal → Ending client (l ∷ ls) start before outcome journal
one-more client l ls start mid before first outcome journal d e = record {
  played = l ∷ e.played;
  left = e.left;
  body_is = ap (λ (x : List Line). l ∷ x) e.body_is;
  more = first ++ e.more;
  shown_is = e.shown_is ∙ append_assoc before first e.more;
  there = e.there;
  calls = calls-more client l e.played start mid e.there first e.more d e.calls;
  ends = e.ends;
}

module _ (by : Caller) (law : RefsLaw by) where
  -- these lines go well that are called at `start`
  abbrev Well : List Line → List Event → List Shown → Play Outcome → List Event → Type 0
  Well ls start shown p journal = GoesWell by (Ending by.number ls start shown) p journal

  ends-well : (ls : List Line) (start : List Event) (shown : List Shown) (end : End) (journal : List Event) → EndsAt by.number ls start end journal → Well ls start shown (ended shown end) journal
  unfolding PlayKeeps PlayLeads
  ends-well ls start shown end journal e = (tt, record { played = []; left = ls; body_is = refl; more = []; shown_is = sym (append-nil shown); there = start; calls = calls-none by.number start; ends = e })

  refused-well : (l : Line) (ls : List Line) (start : List Event) (shown : List Shown) (why : Refusal) (h : List Event) → RefusedLine by.number l.call start why h → Well (l ∷ ls) start shown (refused l.number shown why) h
  refused-well l ls start shown why h r = ends-well (l ∷ ls) start shown (Refused l.number why) h (inl (record { why = why; there = h; tells = r; end_is = refl; behind = MadeNone-none by.number h }))

  starved-well : (l : Line) (ls : List Line) (start : List Event) (shown : List Shown) (h : List Event) → StarvedLine by.number l.call start h → Well (l ∷ ls) start shown (refused l.number shown NoMemory) h
  starved-well l ls start shown h r = ends-well (l ∷ ls) start shown (Refused l.number NoMemory) h (inr (record { there = h; tells = r; end_is = refl; behind = MadeNone-none by.number h }))

  -- ---- a line, and what follows
  module _ (R : Outcome → List Event → Type 0) (number : ℕ) (shown : List Shown) (rest : Rest) (journal : List Event) where
    by-call : (c : Call) → ((first : List Shown) (h : List Event) → DidLine by.number number c journal first h → GoesWell by R (rest (shown ++ first)) h) → ((why : Refusal) (h : List Event) → RefusedLine by.number c journal why h → GoesWell by R (refused number shown why) h)
        → ((h : List Event) → StarvedLine by.number c journal h → GoesWell by R (refused number shown NoMemory) h) → GoesWell by R (play_ref_line number c shown rest) journal
    by-call (call.Ref c) made refusal starved = ref-well by R law number c (after_ref number shown rest) journal made refusal starved
    by-call (call.Edit edit) made refusal starved = subst (λ (x : List Shown). GoesWell by R (rest x) journal) (append-nil shown) (made [] journal (refl, refl))
    by-call (call.Read read) made refusal starved = subst (λ (x : List Shown). GoesWell by R (rest x) journal) (append-nil shown) (made [] journal (refl, refl))
    by-call (call.Commit message) made refusal starved = subst (λ (x : List Shown). GoesWell by R (rest x) journal) (append-nil shown) (made [] journal (refl, refl))
    by-call (call.Prop name value) made refusal starved = subst (λ (x : List Shown). GoesWell by R (rest x) journal) (append-nil shown) (made [] journal (refl, refl))
    by-call call.Lease made refusal starved = subst (λ (x : List Shown). GoesWell by R (rest x) journal) (append-nil shown) (made [] journal (refl, refl))

  -- where no operation was made in the line
  nothing-starved : (c : Call) (journal : List Event) → StarvedLine by.number c journal journal
  nothing-starved (call.Ref (ref.Branch name at)) journal = inl (MadeGets-none by.number journal)
  nothing-starved (call.Ref (ref.Reset name at)) journal = MadeGets-none by.number journal
  nothing-starved (call.Ref (ref.Unbranch name)) journal = inl (MadeGets-none by.number journal)
  nothing-starved (call.Ref (ref.Tag name at)) journal = inl (MadeGets-none by.number journal)
  nothing-starved (call.Ref (ref.Untag name)) journal = inl (MadeGets-none by.number journal)
  nothing-starved (call.Ref (ref.Log at)) journal = MadeGets-none by.number journal
  nothing-starved (call.Edit edit) journal = refl
  nothing-starved (call.Read read) journal = refl
  nothing-starved (call.Commit message) journal = refl
  nothing-starved (call.Prop name value) journal = refl
  nothing-starved call.Lease journal = refl

  -- ---- the lines
  lines-well : (ls : List Line) (shown : List Shown) (journal : List Event) → Well ls journal shown (refs_play ls shown) journal
  unfolding PlayKeeps PlayLeads refs_play
  lines-well [] shown journal = ends-well [] journal shown Done journal (refl, MadeNone-none by.number journal)
  lines-well (l ∷ ls) shown journal =
      let first = by-call (Ending by.number (l ∷ ls) journal shown) l.number shown (refs_play ls) journal l.call
      (λ first h d. let w = lines-well ls (shown ++ first) h in (w.0, PlayLeads-weaker (Ending by.number ls h (shown ++ first)) (Ending by.number (l ∷ ls) journal shown) (λ outcome j e. one-more by.number l ls journal h shown first outcome j d e) by (refs_play ls (shown ++ first)) h w.1))
      (λ why h r. refused-well l ls journal shown why h r) (λ h r. starved-well l ls journal shown h r) in
      let starved = starved-well l ls journal shown journal (nothing-starved l.call journal) in
      ((first.0, starved.0), (first.1, starved.1))

  -- ---- the task
  tells : (body : List Line) (start : List Event) (outcome : Outcome) (journal : List Event) → Ending by.number body start [] outcome journal → RefsTells body by.number start outcome journal
  tells body start outcome journal e = record { played = e.played; left = e.left; body_is = e.body_is; there = e.there; calls = subst (λ (x : List Shown). CallsTold by.number e.played start x e.there) (sym e.shown_is) e.calls; ends = e.ends }

  pub task-well : (body : List Line) (start : List Event) → PlayKeeps Minds by (refs_play body []) start × PlayLeads (RefsTells body by.number start) by (refs_play body []) start
  task-well body start =
      let w = lines-well body [] start in
      (w.0, PlayLeads-weaker (Ending by.number body start []) (RefsTells body by.number start) (tells body start) by (refs_play body []) start w.1)

-- ---- what an outcome tells stays so
module _ (by : Caller) (journal more : List Event) (others : Each (IsOther by) journal more) where
  ends-others : (ls : List Line) (start : List Event) (end : End) → EndsAt by.number ls start end journal → EndsAt by.number ls start end (journal ++ more)
  ends-others [] start end e = (e.0, MadeNone-others by start journal more others e.1)
  ends-others (l ∷ ls) start end (inl r) = inl (record { why = r.why; there = r.there; tells = r.tells; end_is = r.end_is; behind = MadeNone-others by r.there journal more others r.behind })
  ends-others (l ∷ ls) start end (inr r) = inr (record { there = r.there; tells = r.tells; end_is = r.end_is; behind = MadeNone-others by r.there journal more others r.behind })

  pub RefsTells-others : (body : List Line) (start : List Event) (outcome : Outcome) → RefsTells body by.number start outcome journal → RefsTells body by.number start outcome (journal ++ more)
  RefsTells-others body start outcome t = record { played = t.played; left = t.left; body_is = t.body_is; there = t.there; calls = t.calls; ends = ends-others t.left t.there outcome.end t.ends }

-- What is promised of a script that was played.
use Rattle.std.proofs.Common.{◌≡◌, ◌⊎◌, ℕ, ◌+◌, ◌<◌, ◌^◌, Bool, true, false, cond, List, [], length, take, refl, sym, subst, arith, leb-true, Ok, Err, inl, inr}
use Rattle.std.specs.Prelude.{IsTrue, nat_le, Result}
use Rattle.ice_ids.specs.declared.drawing.Draw.{Draw}
use Rattle.ice_ids.specs.Drawing.{DrawsOnce}
use Rattle.ice_ids.proofs.Drawn.{count-once}
use Rattle.zarr_tree.specs.Changes.{none}
use Rattle.object_store.specs.declared.events.Event.{Event}
use Rattle.store_api.specs.declared.machines.Refusal.{Refusal}
use Rattle.store_api.specs.Callers.{View}
use Rattle.script_values.specs.declared.kinds.ScriptKind.TheVariants.{Long}
use Rattle.play_script.specs.declared.scripts.Script.{Script}
use Rattle.play_script.specs.Reading.{empty, feeds, script_of, most_bytes, lines_from}
use Rattle.script_values.specs.Words.{lines_of}
use Rattle.play_script.specs.Well.{IsWell}
use Rattle.play_script.proofs.WellRead.{read_well}
use Rattle.play_outcome.specs.declared.outcome.Outcome.{Outcome}
use Rattle.play_course.specs.Course.{Plays}
use Rattle.play_tasks.specs.Tasks.{ids_at}
use Rattle.run_histories.specs.Sources.{IsNewRun}
use Rattle.run_histories.specs.Runs.{IsSound}
use Rattle.run_histories.specs.Told.{NothingLaw}
use Rattle.command_words.specs.declared.reading.Command.{Command}
use Rattle.command_words.specs.declared.reading.Command.TheVariants as C
use Rattle.top_call.specs.declared.statuses.Status.{Status}
use Rattle.top_call.specs.declared.statuses.Status.TheVariants as S
use Rattle.top_call.specs.Run.{HasScript}
use Rattle.top_call.specs.Promise.{World, AreComplete, Spares, WasUnplayed, WherePlayed, Played, Promised, OverSound, KeepsSound, KeepsOwn, SparesOver, SparesSound, SparesOwn}
use Rattle.top_call.specs.inside.Playing.{WasPlayed, WasRun, IsShort, PlayEnds, Ends}

-- a script that was read is well
well-script : (text : List ℕ) (script : Script) → script_of text ≡ Ok script → IsWell script
unfolding script_of
well-script text script e = by_length (nat_le (length text) most_bytes) refl e
  where
    by_length : (b : Bool) → nat_le (length text) most_bytes ≡ b → cond b (lines_from empty 1 (lines_of text)) (Err (feeds (take most_bytes text) + 1, Long)) ≡ Ok script → IsWell script
    by_length true l h = read_well text (Ok script) (leb-true (length text) most_bytes l) h
    by_length false l h = absurd cc

module _ (draw : Draw) (a b : World) where
  -- ---- a script was read and played, and so this holds
  module _ (P : Status → Type 0) (command : Command) (of_played : (status : Status) (script : Script) → HasScript command a.input b.input script → WasPlayed command draw script a.store b.store a.out b.out status → P status) where
    of_run : (status : Status) → WasRun command draw a.input b.input a.store b.store a.out b.out status → P status
    of_run status r = of_played status r.script r.reads r.played

    -- where memory ran out, or no task was played
    of_short : IsShort command draw a.input b.input a.store b.store a.out b.out → WasUnplayed a b ⊎ P S.NoMemory
    of_short i = elim i.went [ inl p ↦ inr (of_played S.NoMemory i.script i.reads p) | inr u ↦ inl (record { out = u.out; store = inr u.began }) ]

    of_starved : PlayEnds command draw a.input b.input a.store b.store a.out b.out S.NoMemory → WasUnplayed a b ⊎ P S.NoMemory
    of_starved e = elim e [ inl same ↦ inl (record { out = same.out; store = inl same.store }) | inr short ↦ of_short short ]

  pub where-played : (P : Status → Type 0) (command : Command) (status : Status) → ((status : Status) (script : Script) → HasScript command a.input b.input script → WasPlayed command draw script a.store b.store a.out b.out status → P status)
      → Ends command draw a.input b.input a.store b.store a.out b.out status → WherePlayed command a b status (P status)
  where-played P C.Play S.Ok of e = λ played. of_run P C.Play of S.Ok e
  where-played P C.Play S.Refused of e = λ played. of_run P C.Play of S.Refused e
  where-played P C.Play S.StoreFault of e = λ played. of_run P C.Play of S.StoreFault e
  where-played P C.Play S.WriteFault of e = λ played. of_run P C.Play of S.WriteFault e
  where-played P C.Play S.NoMemory of e = of_starved P C.Play of e
  where-played P C.Play S.ReadFault of e = λ played. absurd played
  where-played P C.Play (S.Script line kind) of e = λ played. absurd played
  where-played P C.Play (S.Usage fault) of e = λ played. absurd played
  where-played P (C.Cells box) S.Ok of e = λ played. of_run P (C.Cells box) of S.Ok e.1
  where-played P (C.Cells box) S.Refused of e = λ played. of_run P (C.Cells box) of S.Refused e.1
  where-played P (C.Cells box) S.StoreFault of e = λ played. of_run P (C.Cells box) of S.StoreFault e.1
  where-played P (C.Cells box) S.WriteFault of e = λ played. of_run P (C.Cells box) of S.WriteFault e.1
  where-played P (C.Cells box) S.NoMemory of e = of_starved P (C.Cells box) of e.1
  where-played P (C.Cells box) S.ReadFault of e = λ played. absurd played
  where-played P (C.Cells box) (S.Script line kind) of e = λ played. absurd played
  where-played P (C.Cells box) (S.Usage fault) of e = λ played. absurd played
  where-played P (C.Grow tasks) S.Ok of e = λ played. of_run P (C.Grow tasks) of S.Ok e.1
  where-played P (C.Grow tasks) S.Refused of e = λ played. of_run P (C.Grow tasks) of S.Refused e.1
  where-played P (C.Grow tasks) S.StoreFault of e = λ played. of_run P (C.Grow tasks) of S.StoreFault e.1
  where-played P (C.Grow tasks) S.WriteFault of e = λ played. of_run P (C.Grow tasks) of S.WriteFault e.1
  where-played P (C.Grow tasks) S.NoMemory of e = of_starved P (C.Grow tasks) of e.1
  where-played P (C.Grow tasks) S.ReadFault of e = λ played. absurd played
  where-played P (C.Grow tasks) (S.Script line kind) of e = λ played. absurd played
  where-played P (C.Grow tasks) (S.Usage fault) of e = λ played. absurd played
  where-played P C.Check status of e = tt
  where-played P (C.Help topic) S.NoMemory of e = inl (record { out = e.2; store = inl e.1 })
  where-played P (C.Help topic) S.Ok of e = λ played. absurd played
  where-played P (C.Help topic) S.Refused of e = λ played. absurd played
  where-played P (C.Help topic) S.StoreFault of e = λ played. absurd played
  where-played P (C.Help topic) S.WriteFault of e = λ played. absurd played
  where-played P (C.Help topic) S.ReadFault of e = λ played. absurd played
  where-played P (C.Help topic) (S.Script line kind) of e = λ played. absurd played
  where-played P (C.Help topic) (S.Usage fault) of e = λ played. absurd played
  where-played P C.Version S.NoMemory of e = inl (record { out = e.2; store = inl e.1 })
  where-played P C.Version S.Ok of e = λ played. absurd played
  where-played P C.Version S.Refused of e = λ played. absurd played
  where-played P C.Version S.StoreFault of e = λ played. absurd played
  where-played P C.Version S.WriteFault of e = λ played. absurd played
  where-played P C.Version S.ReadFault of e = λ played. absurd played
  where-played P C.Version (S.Script line kind) of e = λ played. absurd played
  where-played P C.Version (S.Usage fault) of e = λ played. absurd played

  -- where there was no memory for the words
  pub unplayed : (command : Command) (P : Type 0) → WasUnplayed a b → WherePlayed command a b S.NoMemory P
  unplayed C.Play P u = inl u
  unplayed (C.Cells box) P u = inl u
  unplayed (C.Grow tasks) P u = inl u
  unplayed C.Check P u = tt
  unplayed (C.Help topic) P u = inl u
  unplayed C.Version P u = inl u

  -- ---- what is promised of it
  complete : (script : Script) (begun played : View) (opening : Result (Unit {0}) Refusal) (outcomes : List Outcome) → Plays draw script begun played opening outcomes → AreComplete opening script.tasks outcomes
  complete script begun played (Ok done) outcomes p = p.size
  complete script begun played (Err why) outcomes p = p.1

  promised : (command : Command) (status : Status) (script : Script) → WasPlayed command draw script a.store b.store a.out b.out status → IsTrue a.store.caller.tells → OverSound draw command a b status script
  promised command status script p tells before sound new =
      let k = p.promise tells before sound new in
      record { opening = p.opening; outcomes = p.outcomes; refs = p.refs; complete = complete script p.course.begun p.course.played p.opening p.outcomes p.course.plays; changes = k.histories.changes; start = p.course.begun.seen; keeps = k.keeps; told = p.told }

  spared : (command : Command) (status : Status) (script : Script) → WasPlayed command draw script a.store b.store a.out b.out status → IsTrue a.store.caller.tells → SparesOver draw command a b status script
  spared command status script p tells before sound new =
      let k = p.promise tells before sound new in
      record { opening = p.opening; outcomes = p.outcomes; refs = p.refs; complete = complete script p.course.begun p.course.played p.opening p.outcomes p.course.plays; start = p.course.begun.seen; needed = k.needed; told = p.told }

  pub keeps-sound : (command : Command) (status : Status) → Ends command draw a.input b.input a.store b.store a.out b.out status → KeepsSound draw command a b status
  keeps-sound command status e =
      where-played (λ at. IsTrue a.store.caller.tells → Played (OverSound draw command a b at) command a b) command status (λ at script reads p tells. record { script = script; reads = reads; promise = promised command at script p tells }) e

  pub spares-sound : (command : Command) (status : Status) → Ends command draw a.input b.input a.store b.store a.out b.out status → SparesSound draw command a b status
  spares-sound command status e =
      where-played (λ at. IsTrue a.store.caller.tells → Played (SparesOver draw command a b at) command a b) command status (λ at script reads p tells. record { script = script; reads = reads; promise = spared command at script p tells }) e

  -- the journal of an empty store is sound, and by counting the clients' ids are new to it
  begun-new : NothingLaw → (script : Script) → IsWell script → draw ≡ Draw.Count → (journal : List Event) → journal ≡ [] → IsSound journal (λ n. none) × IsNewRun draw script.tasks journal
  begun-new law script well counts journal is =
      let few : length script.tasks < 2 ^ 32 = omega (arith, well.few) in
      subst (λ (j : List Event). IsSound j (λ n. none) × IsNewRun draw script.tasks j) (sym is) (
        law.0 (λ n. none),
        record {
          once = subst (λ (d : Draw). DrawsOnce d (length script.tasks)) (sym counts) (count-once (length script.tasks) few);
          sources = λ place within. law.1 (ids_at draw place);
          unput = λ collects place within. law.2 (ids_at draw place);
        },
      )

  pub keeps-own : NothingLaw → (command : Command) (status : Status) → Ends command draw a.input b.input a.store b.store a.out b.out status → KeepsOwn draw command a b status
  keeps-own law command status e =
      where-played (λ at. draw ≡ Draw.Count → IsTrue a.store.caller.tells → a.store.seen ≡ [] → Played (Promised command a b at) command a b) command status
      (λ at script reads p counts tells is. let n = begun-new law script (well-script reads.text script reads.reads) counts a.store.seen is in record { script = script; reads = reads; promise = promised command at script p tells (λ i. none) n.0 n.1 })
      e

  pub spares-own : NothingLaw → (command : Command) (status : Status) → Ends command draw a.input b.input a.store b.store a.out b.out status → SparesOwn draw command a b status
  spares-own law command status e =
      where-played (λ at. draw ≡ Draw.Count → IsTrue a.store.caller.tells → a.store.seen ≡ [] → Played (λ (script : Script). Spares draw command script a b at) command a b) command status
      (λ at script reads p counts tells is. let n = begun-new law script (well-script reads.text script reads.reads) counts a.store.seen is in record { script = script; reads = reads; promise = spared command at script p tells (λ i. none) n.0 n.1 })
      e

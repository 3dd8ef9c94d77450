-- What was done exactly, and what the next run may build on, taken apart.
use Rattle.std.proofs.Common.{◌⊎◌, refl, inl, inr}
use Rattle.std.specs.Prelude.{IsTrue}
use Rattle.ice_ids.specs.declared.drawing.Draw.{Draw}
use Rattle.play_script.specs.declared.scripts.Script.{Script}
use Rattle.command_words.specs.declared.reading.Command.{Command}
use Rattle.command_words.specs.declared.reading.Command.TheVariants as C
use Rattle.top_call.specs.declared.statuses.Status.{Status}
use Rattle.top_call.specs.declared.statuses.Status.TheVariants as S
use Rattle.top_call.specs.Run.{HasScript}
use Rattle.top_call.specs.Promise.{World}
use Rattle.top_call.specs.Exact.{WasDone, WasCutShort, Plays, Exact}
use Rattle.top_call.specs.GoesOn.{GoesOn, LeavesSound}
use Rattle.run_histories.specs.Told.{RunLaw}
use Rattle.top_call.proofs.Checking.{stays-same}
use Rattle.top_call.specs.inside.Playing.{WasUntold, WasPlayed, WasRun, IsShort, PlayEnds, Ends}

module _ (draw : Draw) (a b : World) where
  -- ---- what was done
  done : (command : Command) (status : Status) (script : Script) → HasScript command a.input b.input script → WasPlayed command draw script a.store b.store a.out b.out status → WasDone draw command a b status
  done command status script reads p = record { script = script; reads = reads; opening = p.opening; outcomes = p.outcomes; refs = p.refs; course = p.course; told = p.told; regular = p.regular }

  run-done : (command : Command) (status : Status) → WasRun command draw a.input b.input a.store b.store a.out b.out status → WasDone draw command a b status
  run-done command status r = done command status r.script r.reads r.played

  short-done : (command : Command) → IsShort command draw a.input b.input a.store b.store a.out b.out → WasDone draw command a b S.NoMemory ⊎ WasCutShort command a b
  short-done command i = elim i.went [ inl p ↦ inl (done command S.NoMemory i.script i.reads p) | inr u ↦ inr (record { script = i.script; reads = i.reads; out = u.out; began = u.began }) ]

  plays-exactly : (command : Command) (status : Status) → PlayEnds command draw a.input b.input a.store b.store a.out b.out status → Plays draw command a b status
  plays-exactly command S.Ok e = run-done command S.Ok e
  plays-exactly command S.Refused e = run-done command S.Refused e
  plays-exactly command S.StoreFault e = run-done command S.StoreFault e
  plays-exactly command S.WriteFault e = run-done command S.WriteFault e
  plays-exactly command S.ReadFault e = e
  plays-exactly command (S.Script line kind) e = e
  plays-exactly command (S.Usage fault) e = e
  plays-exactly command S.NoMemory e = elim e [ inl same ↦ inl same | inr short ↦ inr (short-done command short) ]

  pub exactly : (command : Command) (status : Status) → Ends command draw a.input b.input a.store b.store a.out b.out status → Exact draw command a b status
  exactly C.Play status e = plays-exactly C.Play status e
  exactly (C.Cells box) status e = (e.0, plays-exactly (C.Cells box) status e.1)
  exactly (C.Grow tasks) status e = (e.0, plays-exactly (C.Grow tasks) status e.1)
  exactly C.Check status e = (e.0, e.1.0)
  exactly (C.Help topic) status e = e
  exactly C.Version status e = e

  -- ---- what the next run may build on
  played-on : (command : Command) (status : Status) (script : Script) → HasScript command a.input b.input script → WasPlayed command draw script a.store b.store a.out b.out status → IsTrue a.store.caller.tells → LeavesSound draw command a b
  played-on command status script reads p tells = inr (record { script = script; reads = reads; keeps = λ before sound new. let l = p.histories tells before sound new in (l.start, l.histories) })

  run-on : (command : Command) (status : Status) → WasRun command draw a.input b.input a.store b.store a.out b.out status → IsTrue a.store.caller.tells → LeavesSound draw command a b
  run-on command status r = played-on command status r.script r.reads r.played

  untold-on : (command : Command) (script : Script) → HasScript command a.input b.input script → WasUntold draw script a.store b.store a.out b.out → IsTrue a.store.caller.tells → LeavesSound draw command a b
  untold-on command script reads u tells = inr (record { script = script; reads = reads; keeps = u.histories tells })

  short-on : (command : Command) → IsShort command draw a.input b.input a.store b.store a.out b.out → IsTrue a.store.caller.tells → LeavesSound draw command a b
  short-on command i = elim i.went [ inl p ↦ played-on command S.NoMemory i.script i.reads p | inr u ↦ untold-on command i.script i.reads u ]

  plays-on : (command : Command) (status : Status) → PlayEnds command draw a.input b.input a.store b.store a.out b.out status → IsTrue a.store.caller.tells → LeavesSound draw command a b
  plays-on command S.Ok e = run-on command S.Ok e
  plays-on command S.Refused e = run-on command S.Refused e
  plays-on command S.StoreFault e = run-on command S.StoreFault e
  plays-on command S.WriteFault e = run-on command S.WriteFault e
  plays-on command S.ReadFault e = λ tells. inl e.1.store
  plays-on command (S.Script line kind) e = λ tells. inl e.1.store
  plays-on command (S.Usage fault) e = absurd e
  plays-on command S.NoMemory e = elim e [ inl same ↦ (λ tells. inl same.store) | inr short ↦ short-on command short ]

  pub goes-on : (command : Command) (status : Status) → Ends command draw a.input b.input a.store b.store a.out b.out status → GoesOn draw command a b
  goes-on C.Play status e = plays-on C.Play status e
  goes-on (C.Cells box) status e = plays-on (C.Cells box) status e.1
  goes-on (C.Grow tasks) status e = plays-on (C.Grow tasks) status e.1
  goes-on C.Check status e = e.1.1
  goes-on (C.Help topic) status e = λ tells. inl e.1
  goes-on C.Version status e = λ tells. inl e.1

-- where there was no memory for the words, nothing was done
pub untouched-on : RunLaw → (draw : Draw) (command : Command) (a : World) → GoesOn draw command a a
untouched-on law draw C.Play a = λ tells. inl refl
untouched-on law draw (C.Cells box) a = λ tells. inl refl
untouched-on law draw (C.Grow tasks) a = λ tells. inl refl
untouched-on law draw C.Check a = λ tells. stays-same law draw a.store.seen
untouched-on law draw (C.Help topic) a = λ tells. inl refl
untouched-on law draw C.Version a = λ tells. inl refl

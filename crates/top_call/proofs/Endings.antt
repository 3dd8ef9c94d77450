-- What the statuses of a run say.
use Rattle.std.proofs.Common.{◌≡◌, ℕ, List, inl, inr, refl}
use Rattle.ice_base.specs.Ends.{InputAt, OutputAt, Rose}
use Rattle.ice_ids.specs.declared.drawing.Draw.{Draw}
use Rattle.store_api.specs.Callers.{View}
use Rattle.play_script.specs.declared.scripts.Script.{Script}
use Rattle.top_call.specs.declared.statuses.Status.{Status}
use Rattle.top_call.specs.declared.statuses.Status.TheVariants as S
use Rattle.top_call.specs.Telling.{causes, refusals}
use Rattle.top_call.proofs.Tellings.{store-rose, sink-rose}
use Rattle.top_call.proofs.Lasts.{IsLast, status-last}
use Rattle.top_call.proofs.Checking.{check-sink, check-store, stays-same}
use Rattle.run_histories.specs.Told.{RunLaw}
use Rattle.command_words.specs.declared.reading.Command.{Command}
use Rattle.command_words.specs.declared.reading.Command.TheVariants as C
use Rattle.command_words.specs.Help.{help_of, version_line}
use Rattle.top_call.specs.Run.{HasScript, HasNone, SayEnds}
use Rattle.top_call.specs.inside.Playing.{WasUntold, WasPlayed, PlayEnds, Ends}

module _ (command : Command) (draw : Draw) (a b : InputAt) (s t : View) (x y : OutputAt) where
  by_status : (script : Script) (status : Status) → HasScript command a b script → WasPlayed command draw script s t x y status → IsLast status → PlayEnds command draw a b s t x y status
  unfolding IsLast
  by_status script S.Ok h p l = record { script = script; reads = h; played = p }
  by_status script S.Refused h p l = record { script = script; reads = h; played = p }
  by_status script S.WriteFault h p l = record { script = script; reads = h; played = p }
  by_status script S.StoreFault h p l = record { script = script; reads = h; played = p }
  by_status script S.NoMemory h p l = inr (record { script = script; reads = h; went = inl p })
  by_status script S.ReadFault h p l = absurd l
  by_status script (S.Usage fault) h p l = absurd l
  by_status script (S.Script line kind) h p l = absurd l

  pub ends_played : (script : Script) (status : Status) → HasScript command a b script → WasPlayed command draw script s t x y status → PlayEnds command draw a b s t x y status
  ends_played script status h p = by_status script status h p (status-last (causes p.told.unwritten (refusals p.opening p.outcomes p.refs)) status p.told.status_is)

  pub ends_untold : (script : Script) → HasScript command a b script → WasUntold draw script s t x y → PlayEnds command draw a b s t x y S.NoMemory
  ends_untold script h u = inr (record { script = script; reads = h; went = inr u })

  -- a fault is told only where it rose
  pub store_played : (status : Status) → PlayEnds command draw a b s t x y status → status ≡ S.StoreFault → Rose s.faults t.faults
  store_played S.StoreFault e k = store-rose command draw e.script s t x y S.StoreFault e.played refl
  store_played S.Ok e k = cc
  store_played S.Refused e k = cc
  store_played S.WriteFault e k = cc
  store_played S.ReadFault e k = cc
  store_played S.NoMemory e k = cc
  store_played (S.Usage fault) e k = cc
  store_played (S.Script line kind) e k = cc

  pub sink_played : (status : Status) → PlayEnds command draw a b s t x y status → status ≡ S.WriteFault → Rose x.faults y.faults
  sink_played S.WriteFault e k = sink-rose command draw e.script s t x y S.WriteFault e.played refl
  sink_played S.Ok e k = cc
  sink_played S.Refused e k = cc
  sink_played S.StoreFault e k = cc
  sink_played S.ReadFault e k = cc
  sink_played S.NoMemory e k = cc
  sink_played (S.Usage fault) e k = cc
  sink_played (S.Script line kind) e k = cc

pub ends_unread : (command : Command) (draw : Draw) (a b : InputAt) (s : View) (x : OutputAt) (status : Status) → HasNone command a b status → PlayEnds command draw a b s s x x status
ends_unread command draw a b s x S.ReadFault h = (h, record { store = refl; out = refl })
ends_unread command draw a b s x (S.Script line kind) h = (h, record { store = refl; out = refl })
ends_unread command draw a b s x S.NoMemory h = inl (record { store = refl; out = refl })
ends_unread command draw a b s x S.Ok h = absurd h
ends_unread command draw a b s x S.Refused h = absurd h
ends_unread command draw a b s x S.WriteFault h = absurd h
ends_unread command draw a b s x S.StoreFault h = absurd h
ends_unread command draw a b s x (S.Usage fault) h = absurd h

-- a text that was said tells no fault of the store, and one of the sink only where it rose
said_store : {P : Type 0} (text : List ℕ) (x y : OutputAt) (status : Status) → SayEnds text x y status → status ≡ S.StoreFault → P
said_store text x y S.StoreFault e k = absurd e
said_store text x y S.Ok e k = absurd cc
said_store text x y S.WriteFault e k = absurd cc
said_store text x y S.NoMemory e k = absurd cc
said_store text x y S.Refused e k = absurd e
said_store text x y S.ReadFault e k = absurd e
said_store text x y (S.Usage fault) e k = absurd e
said_store text x y (S.Script line kind) e k = absurd e

said_sink : (text : List ℕ) (x y : OutputAt) (status : Status) → SayEnds text x y status → status ≡ S.WriteFault → Rose x.faults y.faults
said_sink text x y S.WriteFault e k = e.faults
said_sink text x y S.Ok e k = absurd cc
said_sink text x y S.NoMemory e k = absurd cc
said_sink text x y S.StoreFault e k = absurd e
said_sink text x y S.Refused e k = absurd e
said_sink text x y S.ReadFault e k = absurd e
said_sink text x y (S.Usage fault) e k = absurd e
said_sink text x y (S.Script line kind) e k = absurd e

module _ (draw : Draw) (a b : InputAt) (s t : View) (x y : OutputAt) (status : Status) where
  pub store_faulted : (command : Command) → Ends command draw a b s t x y status → status ≡ S.StoreFault → Rose s.faults t.faults
  store_faulted C.Play e k = store_played C.Play draw a b s t x y status e k
  store_faulted (C.Cells box) e k = store_played (C.Cells box) draw a b s t x y status e.1 k
  store_faulted (C.Grow tasks) e k = store_played (C.Grow tasks) draw a b s t x y status e.1 k
  store_faulted C.Check e k = check-store s t x y status e.1.0 k
  store_faulted (C.Help topic) e k = said_store (help_of topic) x y status e.2 k
  store_faulted C.Version e k = said_store version_line x y status e.2 k

  pub sink_faulted : (command : Command) → Ends command draw a b s t x y status → status ≡ S.WriteFault → Rose x.faults y.faults
  sink_faulted C.Play e k = sink_played C.Play draw a b s t x y status e k
  sink_faulted (C.Cells box) e k = sink_played (C.Cells box) draw a b s t x y status e.1 k
  sink_faulted (C.Grow tasks) e k = sink_played (C.Grow tasks) draw a b s t x y status e.1 k
  sink_faulted C.Check e k = check-sink s t x y status e.1.0 k
  sink_faulted (C.Help topic) e k = said_sink (help_of topic) x y status e.2 k
  sink_faulted C.Version e k = said_sink version_line x y status e.2 k

-- without memory nothing was read, done or written
pub ends_starved : RunLaw → (command : Command) (draw : Draw) (a : InputAt) (s : View) (x : OutputAt) → Ends command draw a a s s x x S.NoMemory
ends_starved law C.Play draw a s x = inl (record { store = refl; out = refl })
ends_starved law (C.Cells box) draw a s x = (refl, inl (record { store = refl; out = refl }))
ends_starved law (C.Grow tasks) draw a s x = (refl, inl (record { store = refl; out = refl }))
ends_starved law C.Check draw a s x = (refl, (inl (record { store = refl; out = refl }), λ tells. stays-same law draw s.seen))
ends_starved law (C.Help topic) draw a s x = (refl, refl, refl)
ends_starved law C.Version draw a s x = (refl, refl, refl)

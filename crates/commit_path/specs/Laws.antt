-- Laws of openings, of the sessions that they open, and of commits.
use Rattle.session.specs.Chunks.{set_program, chunk_unset}
use Rattle.session.specs.Sources.{IsLater, MayDrawObject}
use Rattle.std.specs.Prelude.{◌≡◌, ℕ, ◌++◌, true, List, Option, Some, Result, Ok, Err, IfOk}
use Rattle.std.specs.Str.{is_utf8, IsUtf8}
use Rattle.ice_base.specs.Lists.{IsBytes}
use Rattle.ice_ids.specs.declared.Id8.{Id8}
use Rattle.ice_ids.specs.declared.drawing.AnyIds.{AnyIds}
use Rattle.zarr_path.specs.Paths.{is_path}
use Rattle.zarr_meta.specs.declared.faults.MetaFault.{MetaFault}
use Rattle.zarr_meta.specs.declared.views.MetaView.{MetaView}
use Rattle.object_store.specs.declared.events.Event.{Event}
use Rattle.store_api.specs.declared.machines.Refusal.{Refusal}
use Rattle.store_api.specs.Journal.{Each, IsGood}
use Rattle.store_api.specs.Callers.{Caller, IsOther}
use Rattle.store_api.specs.Program.{Done, Keeps, Leads}
use Rattle.store_api.specs.Plays.{Stays}
use Rattle.session.specs.Sessions.{SessionState}
use Rattle.session.specs.Opening.{Asked, open_program}
use Rattle.session.specs.Editing.{added, meta_set, node_dropped, prop_added}
use Rattle.commit_path.specs.declared.commit.Tried.{Tried}
use Rattle.commit_path.specs.Committing.{commit_program}
use Rattle.commit_path.specs.Owed.{IsCareful}
use Rattle.commit_path.specs.Answered.{CommitTells}
use Rattle.store_api.specs.Telling.{ChangedNothing}
use Rattle.commit_path.specs.Opened.{IsOpened, OpeningTells}
use Rattle.commit_path.specs.Spelled.{IsSpelled}

-- Whatever others do, each operation of an opening is polite; wherever it may find no
-- memory, its client has changed no branch; and its answer tells the journal. A session
-- that it opened can be written.
abbrev pub OpeningLaw : Type 0
OpeningLaw =
    (by : Caller) (ids : AnyIds) (a : Asked) (start journal : List Event)
    → ChangedNothing by.number start journal
    → Keeps (IsCareful ids (λ h t id. ⊥)) by (open_program a) journal
    × Stays (ChangedNothing by.number start) by (open_program a) journal
    × Leads (λ answer h. OpeningTells by.number a start answer h × IfOk answer IsSpelled)
    by (open_program a) journal

-- each text that isn't read as metadata has a fault
abbrev pub TellsFaults : (Result MetaView MetaFault → Option MetaFault) → Type 0
TellsFaults fault = (bad : MetaFault) → fault (Err bad) ≡ Some bad

-- What a session knows, and that it can be written, stays so when a node is added, whatever
-- its kind, when a node has another text, when nodes are dropped, when a chunk is set that
-- stands in the session, when one is unset, and when a property is added; and what it
-- knows, whatever good events come.
pub record SessionLaw : Type 0 where
  pub adds : (fault : Result MetaView MetaFault → Option MetaFault)
      (s t : SessionState) (path text : List ℕ) (id : Id8) (journal : List Event)
      → TellsFaults fault → is_path path ≡ true → is_utf8 path ≡ true
      → added fault s path text ≡ Ok (id, t)
      → IsSpelled s → IsOpened s journal → IsSpelled t × IsOpened t journal
  pub texts : (s t : SessionState) (path text : List ℕ) (journal : List Event)
      → meta_set s path text ≡ Ok t → IsSpelled s → IsOpened s journal
      → IsSpelled t × IsOpened t journal
  pub drops : (s t : SessionState) (path : List ℕ) (journal : List Event)
      → node_dropped s path ≡ Ok t → IsSpelled s → IsOpened s journal
      → IsSpelled t × IsOpened t journal
  pub sets : (s t : SessionState) (path index bytes : List ℕ) (journal : List Event) → IsBytes bytes
      → set_program s path index bytes ≡ Done (Ok t) → IsSpelled s → IsOpened s journal
      → IsSpelled t × IsOpened t journal
  pub unsets : (s t : SessionState) (path index : List ℕ) (journal : List Event)
      → chunk_unset s path index ≡ Ok t → IsSpelled s → IsOpened s journal
      → IsSpelled t × IsOpened t journal
  pub props : (s t : SessionState) (name value : List ℕ) (journal : List Event) → IsUtf8 name
      → IsUtf8 value → prop_added s name value ≡ Ok t → IsSpelled s → IsOpened s journal
      → IsSpelled t × IsOpened t journal
  pub kept : (s : SessionState) (journal more : List Event) → Each IsGood journal more
      → IsOpened s journal → IsOpened s (journal ++ more)

-- Whatever others do, each operation of a commit of such a session is polite, and owed for this
-- session and ids that it draws alone; wherever it may find no memory, its client has changed no
-- branch; and its answer tells the journal.
abbrev pub CommitLaw : Type 0
CommitLaw =
    (by : Caller) (ids : AnyIds) (s : SessionState) (message : List ℕ) (start journal : List Event)
    → IsLater ids s.ids → IsUtf8 message → IsSpelled s → IsOpened s journal
    → ChangedNothing by.number start journal
    → Keeps (IsCareful ids (λ h t id. (t ≡ s) × MayDrawObject s.ids id))
    by (commit_program s message) journal
    × Stays (ChangedNothing by.number start) by (commit_program s message) journal
    × Leads (CommitTells by.number s message start) by (commit_program s message) journal

-- what answers tell stays so, whatever good events others make
pub record AnswersLaw : Type 0 where
  pub opening : (by : Caller) (a : Asked)
      (answer : Result SessionState Refusal) (start journal more : List Event)
      → Each (IsOther by) journal more → OpeningTells by.number a start answer journal
      → OpeningTells by.number a start answer (journal ++ more)
  pub commit : (by : Caller) (s : SessionState) (message : List ℕ)
      (answer : Result Tried Refusal) (start journal more : List Event)
      → Each (IsOther by) journal more → CommitTells by.number s message start answer journal
      → CommitTells by.number s message start answer (journal ++ more)

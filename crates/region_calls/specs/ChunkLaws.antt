-- Laws of a session's calls on chunks.
use Rattle.std.specs.Prelude.{◌≡◌, ℕ, ◌++◌, nat_lt, true, List, Result, IfOk}
use Rattle.std.specs.List.{list_all}
use Rattle.ice_ids.specs.declared.drawing.AnyIds.{AnyIds}
use Rattle.object_store.specs.declared.events.Event.{Event}
use Rattle.store_api.specs.declared.machines.Refusal.{Refusal}
use Rattle.store_api.specs.Journal.{Each}
use Rattle.store_api.specs.Callers.{Caller, IsOther}
use Rattle.store_api.specs.Program.{Keeps, Leads}
use Rattle.store_api.specs.Plays.{Stays}
use Rattle.session.specs.declared.chunks.Value.{Value}
use Rattle.session.specs.Sessions.{SessionState}
use Rattle.session.specs.Sources.{IsLater}
use Rattle.session.specs.Chunks.{set_program, get_program}
use Rattle.commit_path.specs.Owed.{IsCareful}
use Rattle.store_api.specs.Telling.{ChangedNothing}
use Rattle.commit_path.specs.Own.{OwesOwn, Owns}
use Rattle.commit_path.specs.Opened.{IsOpened}
use Rattle.commit_path.specs.Spelled.{IsSpelled}
use Rattle.commit_path.specs.Single.{PutsSnapshot}
use Rattle.region_calls.specs.ChunkTold.{SetTells, GetTells}

-- Whatever others do, the operation of a set is polite, and owed under an id that the session
-- draws; it puts no snapshot; wherever it may find no memory, its client has changed no branch; its
-- answer tells the journal; and the session that it leads to can be written, and knows what it knew
-- and that the chunk's bytes are there.
abbrev pub SetLaw : Type 0
SetLaw =
    (by : Caller) (ids : AnyIds) (s : SessionState)
    (path index bytes : List ℕ) (start journal : List Event)
    → IsLater ids s.ids → list_all (λ n. nat_lt n 256) bytes ≡ true → IsSpelled s
    → IsOpened s journal → ChangedNothing by.number start journal
    → Keeps (IsCareful ids (λ h t id. ⊥)) by (set_program s path index bytes) journal
    × Keeps (λ h client op. ¬ PutsSnapshot op) by (set_program s path index bytes) journal
    × Stays (ChangedNothing by.number start) by (set_program s path index bytes) journal
    × Leads (λ answer h. SetTells by.number s path index bytes start answer h
    × IfOk answer (λ t. IsSpelled t × IsOpened t h × IsLater ids t.ids))
    by (set_program s path index bytes) journal

-- Whatever others do, a read only reads; wherever it may find no memory, its client has changed no
-- branch; and its answer tells the journal: the chunk of the session's base under its own changes.
abbrev pub GetLaw : Type 0
GetLaw =
    (by : Caller) (ids : AnyIds) (s : SessionState)
    (path index : List ℕ) (start journal : List Event)
    → IsSpelled s → IsOpened s journal → ChangedNothing by.number start journal
    → Keeps (IsCareful ids (λ h t id. ⊥)) by (get_program s path index) journal
    × Keeps (λ h client op. ¬ PutsSnapshot op) by (get_program s path index) journal
    × Stays (ChangedNothing by.number start) by (get_program s path index) journal
    × Leads (λ answer h. GetTells by.number s path index start answer h × IsOpened s h)
    by (get_program s path index) journal

-- Whatever others do, the object of a set is put where its client put none since `start`, if its
-- source draws no id twice; and what the client owns with a session it owns behind a set, with the
-- session that this leads to, and behind a read.
pub record OwningCallsLaw : Type 0 where
  pub sets : (by : Caller) (ids : AnyIds) (s : SessionState)
      (path index bytes : List ℕ) (start journal : List Event)
      → IsLater ids s.ids → Owns ids by.number s start journal
      → Keeps (λ h client op. OwesOwn ids client start op h)
      by (set_program s path index bytes) journal
      × Leads (λ answer h. IfOk answer (λ t. Owns ids by.number t start h))
      by (set_program s path index bytes) journal
  pub gets : (by : Caller) (ids : AnyIds) (s : SessionState)
      (path index : List ℕ) (start journal : List Event)
      → Owns ids by.number s start journal
      → Keeps (λ h client op. OwesOwn ids client start op h) by (get_program s path index) journal
      × Leads (λ answer h. Owns ids by.number s start h) by (get_program s path index) journal

-- what answers tell stays so, whatever good events others make
pub record TellsLaw : Type 0 where
  pub sets : (by : Caller) (s : SessionState) (path index bytes : List ℕ)
      (answer : Result SessionState Refusal) (start journal more : List Event)
      → Each (IsOther by) journal more → SetTells by.number s path index bytes start answer journal
      → SetTells by.number s path index bytes start answer (journal ++ more)
  pub gets : (by : Caller) (s : SessionState) (path index : List ℕ)
      (answer : Result Value Refusal) (start journal more : List Event)
      → Each (IsOther by) journal more → GetTells by.number s path index start answer journal
      → GetTells by.number s path index start answer (journal ++ more)

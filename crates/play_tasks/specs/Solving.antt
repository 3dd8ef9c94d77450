-- The sessions of a task at their commits.
use Rattle.std.specs.Prelude.{◌≡◌, ◌⊎◌, ℕ, zero, suc, ◌≤◌, ℤ, List, [], ◌∷◌, ◌++◌, Option, Some, Ok}
use Rattle.ice_ids.specs.declared.Id12.{Id12}
use Rattle.ice_ids.specs.declared.drawing.AnyIds.{AnyIds}
use Rattle.ice_ids.specs.Drawing.{drawn12}
use Rattle.conflicts.specs.declared.solving.Policy.{Policy}
use Rattle.session.specs.declared.chunks.Value.{Value}
use Rattle.session.specs.Sessions.{SessionState}
use Rattle.session.specs.Sources.{MayDrawObject}
use Rattle.session.specs.Chunks.{after_draw}
use Rattle.object_store.specs.declared.events.Version.{Version}
use Rattle.object_store.specs.declared.events.Event.{Event}
use Rattle.region_calls.specs.ChunkTold.{WasSet, IsChunk}
use Rattle.region_calls.specs.Told.{AreCells}
use Rattle.region_calls.specs.Written.{WasWritten}
use Rattle.leases.specs.declared.witness.Witness.{Witness}
use Rattle.leases.specs.Plays.{witness_of}
use Rattle.leases.specs.Telling.{WasLeased}
use Rattle.commit_path.specs.Answered.{WasMoved}
use Rattle.commit_path.specs.Opened.{IsOpened, WasBegun}
use Rattle.commit_path.specs.Single.{HasPutNone, HasPutAlike}
use Rattle.rebase.specs.Telling.{CameToHead, WasUpToDate}
use Rattle.script_calls.specs.declared.calls.Access.{Access}
use Rattle.script_calls.specs.declared.calls.Head.TheVariants.{Session}
use Rattle.play_script.specs.declared.scripts.Line.{Line}
use Rattle.play_script.specs.declared.scripts.Task.{Task}
use Rattle.play_outcome.specs.declared.outcome.Shown.{Shown}
use Rattle.play_tasks.specs.Lines.{LineDeed, Goes, Sets, Reads, Puts}
use Rattle.play_tasks.specs.Lines.{Gathers, Leases, Commits, deed}
use Rattle.play_tasks.specs.Playing.{asked_by, tries_of, policy_of}

-- ---- leases
-- The session's base was leased: under the next id that the session drew the client's own put made
-- the lease, and behind that the ref that had named the base confirmed it. That is shown so.
pub record DidLease (client : ℕ) (show : Id12 → Shown) (s : SessionState) (start : List Event)
    (shown : List Shown) (t : SessionState) (journal : List Event) : Type 0 where
  pub id : Id12
  pub drawn : drawn12 s.ids ≡ Some id
  pub witness : Witness
  pub witness_is : witness_of s.origin ≡ Some witness
  pub since : List Event
  pub until : List Event
  pub more : List Event
  pub is : journal ≡ (start ++ since ++ until) ++ more
  pub leased : WasLeased client id s.base witness (start ++ since) (start ++ since ++ until)
  pub shown_is : shown ≡ show id ∷ []
  pub becomes : t ≡ after_draw s

-- ---- as the lines lead to it
-- a line that does this was played on a session: what it showed, and the session that it led to
abbrev pub DidPlay : ℕ → LineDeed → SessionState → List Event → List Shown
    → SessionState → List Event → Type 0
DidPlay client (Goes went) s start shown t journal = went ≡ Ok (shown, t)
DidPlay client (Sets path index bytes) s start shown t journal =
    (shown ≡ []) × WasSet client s path index bytes t start journal
DidPlay client (Reads path index show) s start shown t journal =
    (t ≡ s) × (value : Value) × (shown ≡ show value ∷ []) × IsChunk s path index value journal
DidPlay client (Puts path from to numbers) s start shown t journal =
    (shown ≡ []) × WasWritten client s path from to numbers t start journal
DidPlay client (Gathers path from to show) s start shown t journal =
    (t ≡ s) × (numbers : List ℤ) × (shown ≡ show numbers ∷ [])
    × AreCells s path from to numbers journal
DidPlay client (Leases show) s start shown t journal = DidLease client show s start shown t journal
DidPlay client (Commits message) s start shown t journal = ⊥

-- lines that were played one after another, none of them refused and none of them a commit: what
-- they showed, and the session that they led to
unfoldable pub PlaysAll : ℕ → List Line → SessionState → List Event → List Shown
    → SessionState → List Event → Type 0
PlaysAll client [] s start shown t journal = (shown ≡ []) × (t ≡ s)
PlaysAll client (l ∷ ls) s start shown t journal =
    (first more : List Shown) × (mid : SessionState) × (shown ≡ first ++ more)
    × DidPlay client (deed l.number l.call s) s start first mid journal
    × PlaysAll client ls mid start more t journal

-- The first lines of a body were played on a session, led to this one and showed
-- this; the next line commits it.
pub record CameToCommit (client : ℕ) (body : List Line) (opened : SessionState)
    (start journal : List Event) (s : SessionState) : Type 0 where
  pub played : List Line
  pub line : Line
  pub left : List Line
  pub body_is : body ≡ played ++ line ∷ left
  pub shown : List Shown
  pub plays : PlaysAll client played opened start shown s journal
  pub message : List ℕ
  pub commits : deed line.number line.call s ≡ Commits message

-- ---- carried over the commits of others
-- A commit of the session was lost, and the session draws other ids from then on.
pub record WasLost (client : ℕ) (s t : SessionState) (start journal : List Event) : Type 0 where
  pub old : Version
  pub found : Option Version
  pub next : AnyIds
  pub moved : WasMoved client s old found next start journal
  pub becomes : t ≡ record s { ids = next }

-- the session was rebased: it moved to the branch's snapshot over the commits that its
-- client read, or was up to date
abbrev pub WasRebased : ℕ → Policy → SessionState → SessionState → List Event → List Event → Type 0
WasRebased client policy s t start journal =
    ((count : ℕ) × CameToHead client policy s t count start journal)
    ⊎ WasUpToDate client s t start journal

-- The session was rebased so often: each time behind a commit that was lost.
unfoldable pub WasCarried : ℕ → Policy → (count : ℕ) → SessionState → SessionState
    → List Event → List Event → Type 0
WasCarried client policy zero s t start journal = t ≡ s
WasCarried client policy (suc count) s t start journal =
    (mid lost : SessionState) × (since : List Event)
    × WasCarried client policy count s mid start (start ++ since)
    × WasLost client mid lost start (start ++ since)
    × WasRebased client policy lost t (start ++ since) journal

-- ---- of a task
-- A session of a task at its commit, with an object id that it draws. The task opens one, and it
-- was opened at what the client got, before the client put a snapshot; the task's lines before a
-- commit led to it, and it was carried over the commits of others as often as the task may try, as
-- its client's own gets read them. All snapshots that the client has put are of sessions that
-- added and dropped the same nodes.
pub record IsOfTask (ids : AnyIds) (task : Task) (client : ℕ) (start journal : List Event)
    (t : SessionState) (id : Id12) : Type 0 where
  pub access : Access
  pub head_is : task.head ≡ Session access
  pub opened : SessionState
  pub begun : WasBegun client (asked_by access ids) opened start journal
  pub early : HasPutNone client start begun.got.own.before
  pub read : IsOpened opened journal
  pub session : SessionState
  pub came : CameToCommit client task.body opened start journal session
  pub count : ℕ
  pub few : count ≤ tries_of access
  pub carried : WasCarried client (policy_of access) count session t start journal
  pub alike : HasPutAlike client t start journal
  pub drawn : MayDrawObject t.ids id

-- What the outcome of a task says of the journal, in words that name no
-- machine and no program. (Own.)
use Rattle.std.specs.Prelude.{◌≡◌, ◌≢◌, ◌⊎◌, ℕ, ◌<◌, ◌≤◌}
use Rattle.std.specs.Prelude.{List, [], ◌∷◌, ◌++◌, Option, Some, Result, Err}
use Rattle.ice_ids.specs.declared.Id12.{Id12}
use Rattle.ice_ids.specs.declared.drawing.AnyIds.{AnyIds}
use Rattle.ice_ids.specs.Drawing.{drawn12}
use Rattle.object_store.specs.declared.keys.Key.{Key}
use Rattle.object_store.specs.declared.keys.Key.TheVariants.{Manifest, Chunk}
use Rattle.object_store.specs.declared.events.Event.{Event}
use Rattle.store_api.specs.declared.machines.Refusal.{Refusal}
use Rattle.store_api.specs.declared.machines.Refusal.TheVariants.{NoMemory, LostRace}
use Rattle.store_api.specs.declared.machines.Refusal.TheVariants as R
use Rattle.object_store.specs.declared.events.Version.{Version}
use Rattle.session.specs.Sessions.{SessionState, branch_of}
use Rattle.leases.specs.declared.witness.Witness.{Witness}
use Rattle.leases.specs.Plays.{witness_of}
use Rattle.leases.specs.Starting.{lease_of}
use Rattle.leases.specs.Telling.{LeaseTells, ReleaseTells}
use Rattle.settle.specs.declared.settle.Settled.{Settled}
use Rattle.settle.specs.Telling.{SettleTells}
use Rattle.commit_path.specs.declared.commit.Committed.{Committed as Made}
use Rattle.commit_path.specs.Answered.{TookEffect, WasDoubted, WasMoved, CommitTells}
use Rattle.store_api.specs.Telling.{ChangedNothing, MadeGets}
use Rattle.commit_path.specs.Opened.{IsOpened, WasBegun, RefusalTells}
use Rattle.commit_path.specs.Single.{HasPutNone, HasPutAlike}
use Rattle.play_script.specs.declared.scripts.Line.{Line}
use Rattle.play_script.specs.declared.scripts.Task.{Task}
use Rattle.play_outcome.specs.declared.outcome.Shown.{Shown}
use Rattle.play_outcome.specs.declared.outcome.Shown.TheVariants.{Lease}
use Rattle.play_outcome.specs.declared.outcome.End.{End}
use Rattle.play_outcome.specs.declared.outcome.End.TheVariants.{Committed, Done, Refused, InDoubt}
use Rattle.play_outcome.specs.declared.outcome.Outcome.{Outcome}
use Rattle.region_calls.specs.ChunkTold.{SetTells, GetTells}
use Rattle.region_calls.specs.Told.{RegionTells}
use Rattle.region_calls.specs.Written.{RegionSetTells}
use Rattle.play_tasks.specs.Lines.{LineDeed, Goes, Sets, Reads, Puts}
use Rattle.play_tasks.specs.Lines.{Gathers, Leases, Commits, deed}
use Rattle.rebase.specs.Telling.{RebaseTells}
use Rattle.script_calls.specs.declared.calls.Access.{Access}
use Rattle.script_calls.specs.declared.calls.Head.{Head}
use Rattle.script_calls.specs.declared.calls.Head.TheVariants.{Session, Refs}
use Rattle.script_calls.specs.declared.calls.Head.TheVariants.{Collect, Expire, Check}
use Rattle.play_collect.specs.Telling.{CollectedTells}
use Rattle.play_expire.specs.Playing.{terms_of}
use Rattle.play_expire.specs.Telling.{ExpiredTells}
use Rattle.play_check.specs.Telling.{CheckedTells}
use Rattle.play_refs.specs.Telling.{RefsTells}
use Rattle.play_tasks.specs.Playing.{asked_by, tries_of, policy_of}
use Rattle.play_tasks.specs.Playing.{doubt_of, how_of, placed_shown, left_by}
use Rattle.play_tasks.specs.Solving.{PlaysAll, WasLost, WasCarried}

-- ---- boxes
-- a manifest, or an object with chunks
abbrev pub IsOfChunks : Key → Type 0
IsOfChunks (Manifest id) = Unit {0}
IsOfChunks (Chunk id) = Unit {0}
IsOfChunks _ = ⊥

-- what was missing, or stood for nothing, is such a one
abbrev pub TellsOfChunks : Refusal → Type 0
TellsOfChunks (R.Missing key) = IsOfChunks key
TellsOfChunks (R.BadFile key bad) = IsOfChunks key
TellsOfChunks why = Unit {0}

-- ---- leases
-- The lease began, under the next id that the session drew, and came to this refusal;
-- where it may stand, that is shown.
pub record WasLeaseRefused (client : ℕ) (show : Id12 → Shown) (s : SessionState)
    (start : List Event) (last : List Shown) (why : Refusal) (journal : List Event) : Type 0 where
  pub id : Id12
  pub drawn : drawn12 s.ids ≡ Some id
  pub witness : Witness
  pub witness_is : witness_of s.origin ≡ Some witness
  pub since : List Event
  pub placed : Option Id12
  pub tells : LeaseTells client id s.base witness (start ++ since)
      (record { placed = placed; result = Err why }) journal
  pub last_is : last ≡ placed_shown show placed

-- the lease couldn't begin, and nothing is shown; or it came to this
abbrev pub RefusesLease : ℕ → (Id12 → Shown) → SessionState → List Event → List Shown
    → Refusal → List Event → Type 0
RefusesLease client show s start last why journal =
    ((lease_of s ≡ Err why) × (last ≡ [])) ⊎ WasLeaseRefused client show s start last why journal

-- ---- the end
-- a line that does this was refused, for this reason; `last` is what it showed
abbrev pub Refuses : ℕ → LineDeed → SessionState → List Event → (last : List Shown)
    → Refusal → List Event → Type 0
Refuses client (Goes went) s start last why journal =
    (went ≡ Err why) × ChangedNothing client start journal
Refuses client (Sets path index bytes) s start last why journal =
    SetTells client s path index bytes start (Err why) journal
Refuses client (Reads path index show) s start last why journal =
    GetTells client s path index start (Err why) journal
Refuses client (Puts path from to numbers) s start last why journal =
    RegionSetTells client s path from to numbers start (Err why) journal × TellsOfChunks why
    × ChangedNothing client start journal
Refuses client (Gathers path from to show) s start last why journal =
    RegionTells s path from to (Err why) journal × TellsOfChunks why
    × ChangedNothing client start journal
Refuses client (Leases show) s start last why journal =
    RefusesLease client show s start last why journal × ChangedNothing client start journal
Refuses client (Commits message) s start last why journal = ⊥

-- a line that was refused shows nothing, but for a lease that may stand
abbrev pub IsSilent : LineDeed → List Shown → Type 0
IsSilent (Goes went) last = last ≡ []
IsSilent (Sets path index bytes) last = last ≡ []
IsSilent (Reads path index show) last = last ≡ []
IsSilent (Puts path from to numbers) last = last ≡ []
IsSilent (Gathers path from to show) last = last ≡ []
IsSilent (Leases show) last = Unit {0}
IsSilent (Commits message) last = last ≡ []

-- the line's call was refused
pub record WasRefusedAt (client : ℕ) (l : Line) (s : SessionState) (start : List Event)
    (last : List Shown) (end : End) (journal : List Event) : Type 0 where
  pub why : Refusal
  pub refuses : Refuses client (deed l.number l.call s) s start last why journal
  pub quiet : IsSilent (deed l.number l.call s) last
  pub end_is : end ≡ Refused l.number why

-- memory was wanting in this line, which showed nothing, and the client changed no branch
pub record WasStarvedAt (client : ℕ) (l : Line) (start : List Event) (last : List Shown) (end : End)
    (journal : List Event) : Type 0 where
  pub quiet : last ≡ []
  pub end_is : end ≡ Refused l.number NoMemory
  pub nothing : ChangedNothing client start journal

-- ---- a commit
-- the commit of the session took effect
pub record EndsCommitted (client : ℕ) (s : SessionState) (message : List ℕ) (start : List Event)
    (end : End) (journal : List Event) : Type 0 where
  pub made : Made
  pub took : TookEffect client s message made start journal
  pub end_is : end ≡ Committed made.id

-- The commit is in doubt. Behind the put over of its branch, which failed, that was settled once,
-- by the client's own gets, and this is told.
pub record WasInDoubt (client : ℕ) (s : SessionState) (message : List ℕ) (start : List Event)
    (end : End) (journal : List Event) : Type 0 where
  pub id : Id12
  pub since : List Event
  pub doubted : WasDoubted client s message id start (start ++ since)
  pub answer : Result Settled Refusal
  pub settled : SettleTells client (branch_of s) (doubt_of s id) (start ++ since) answer journal
  pub end_is : end ≡ InDoubt id (how_of answer)

-- it was refused before its branch was asked for, or the store failed an operation before that
pub record WasCommitRefused (client : ℕ) (line : ℕ) (s : SessionState) (message : List ℕ)
    (start : List Event) (end : End) (journal : List Event) : Type 0 where
  pub why : Refusal
  pub no_doubt : (id : Id12) → why ≢ R.InDoubt id
  pub tells : CommitTells client s message start (Err why) journal
  pub end_is : end ≡ Refused line why

-- it was lost, and the task may not try again
pub record WasLostAtLast (client : ℕ) (access : Access) (line : ℕ) (count : ℕ) (s : SessionState)
    (start : List Event) (end : End) (journal : List Event) : Type 0 where
  pub spent : count ≡ tries_of access
  pub old : Version
  pub found : Option Version
  pub next : AnyIds
  pub moved : WasMoved client s old found next start journal
  pub end_is : end ≡ Refused line (LostRace old found)

-- It was lost, and the session wasn't rebased, for this reason; the client changed no branch. All
-- snapshots that it has put are of sessions that added and dropped the same nodes.
pub record WasNotRebased (client : ℕ) (access : Access) (line : ℕ) (count : ℕ) (s : SessionState)
    (start : List Event) (end : End) (journal : List Event) : Type 0 where
  pub left : count < tries_of access
  pub lost : SessionState
  pub since : List Event
  pub was_lost : WasLost client s lost start (start ++ since)
  pub alike : HasPutAlike client lost start journal
  pub why : Refusal
  pub tells : RebaseTells client (policy_of access) lost (start ++ since) (Err why) journal
  pub nothing : ChangedNothing client start journal
  pub end_is : end ≡ Refused line why

-- The line is a commit, and shows nothing. Its session was carried over the commits of others, no
-- more often than the task may try, and then committed, or was refused.
pub record WasTriedAt (client : ℕ) (access : Access) (l : Line) (s : SessionState)
    (start : List Event) (last : List Shown) (end : End) (journal : List Event) : Type 0 where
  pub quiet : last ≡ []
  pub message : List ℕ
  pub commits : deed l.number l.call s ≡ Commits message
  pub count : ℕ
  pub few : count ≤ tries_of access
  pub at_last : SessionState
  pub carried : WasCarried client (policy_of access) count s at_last start journal
  pub ends : EndsCommitted client at_last message start end journal
      ⊎ (WasInDoubt client at_last message start end journal
      ⊎ (WasCommitRefused client l.number at_last message start end journal
      ⊎ (WasLostAtLast client access l.number count at_last start end journal
      ⊎ WasNotRebased client access l.number count at_last start end journal)))

-- how a task ends, where these lines are left: at their end, or at the
-- first of them, which showed this
abbrev pub EndsAt : ℕ → Access → List Line → SessionState → List Event → (last : List Shown)
    → End → List Event → Type 0
EndsAt client access [] s start last end journal =
    (end ≡ Done) × ChangedNothing client start journal × (last ≡ [])
EndsAt client access (l ∷ ls) s start last end journal =
    WasRefusedAt client l s start last end journal
    ⊎ (WasStarvedAt client l start last end journal
    ⊎ WasTriedAt client access l s start last end journal)

-- ---- the outcome of a session
-- The opening was refused: nothing was shown, and the refusal is told at the task's line.
pub record WasNotOpened (ids : AnyIds) (access : Access) (task : Task) (client : ℕ)
    (start : List Event) (outcome : Outcome) (journal : List Event) : Type 0 where
  pub why : Refusal
  pub shown_is : outcome.shown ≡ []
  pub end_is : outcome.end ≡ Refused task.line why
  pub tells : RefusalTells client (asked_by access ids) start why journal

-- A session was opened at what the client got, before it put a snapshot. The first lines of the
-- body were played on it one after another, and showed what the task showed, but for what the line
-- showed at which it ended. With the lines that are left it ended.
pub record WasOpened (ids : AnyIds) (access : Access) (task : Task) (client : ℕ)
    (start : List Event) (outcome : Outcome) (journal : List Event) : Type 0 where
  pub opened : SessionState
  pub begun : WasBegun client (asked_by access ids) opened start journal
  pub early : HasPutNone client start begun.got.own.before
  pub read : IsOpened opened journal
  pub played : List Line
  pub left : List Line
  pub body : task.body ≡ played ++ left
  pub session : SessionState
  pub shown : List Shown
  pub last : List Shown
  pub shown_is : outcome.shown ≡ shown ++ last
  pub plays : PlaysAll client played opened start shown session journal
  pub ends : EndsAt client access left session start last outcome.end journal

-- what the outcome of a session says of the journal
abbrev pub SessionTells : AnyIds → Access → Task → ℕ → List Event → Outcome → List Event → Type 0
SessionTells ids access task client start outcome journal =
    WasNotOpened ids access task client start outcome journal
    ⊎ WasOpened ids access task client start outcome journal

-- ---- releases
-- From the first journal to the second, the client released the leases that are shown,
-- in their order, and made gets at most besides; what each release was answered stands
-- where the lease is shown then.
unfoldable pub WereReleased : ℕ → (before : List Shown) → List Event
    → (after : List Shown) → List Event → Type 0
WereReleased client [] first after journal = (after ≡ []) × MadeGets client first journal
WereReleased client (Lease line id left ∷ before) first after journal =
    (result : Result (Unit {0}) Refusal) × (mid : List Event) × (more : List Shown)
    × (after ≡ Lease line id (left_by result) ∷ more)
    × ReleaseTells client id first result mid × WereReleased client before mid more journal
WereReleased client (shown ∷ before) first after journal =
    (more : List Shown) × (after ≡ shown ∷ more) × WereReleased client before first more journal

-- The session's outcome told the journal when it had ended. From there on its leases were released;
-- the task ended as the session had.
pub record ToldAndReleased (ids : AnyIds) (access : Access) (task : Task) (client : ℕ)
    (start : List Event) (outcome : Outcome) (journal : List Event) : Type 0 where
  pub session : Outcome
  pub ended : List Event
  pub tells : SessionTells ids access task client start session ended
  pub since : List Event
  pub is : journal ≡ ended ++ since
  pub released : WereReleased client session.shown ended outcome.shown journal
  pub end_is : outcome.end ≡ session.end

-- ---- the outcome
abbrev pub TellsBy : Head → AnyIds → Task → ℕ → List Event → Outcome → List Event → Type 0
TellsBy (Session access) ids task client start outcome journal =
    ToldAndReleased ids access task client start outcome journal
TellsBy Refs ids task client start outcome journal =
    RefsTells task.body client start outcome journal
TellsBy (Collect cutoff) ids task client start outcome journal =
    CollectedTells task.line cutoff client start outcome journal
TellsBy (Expire cutoff drop_branches drop_tags) ids task client start outcome journal =
    ExpiredTells task.line (terms_of cutoff drop_branches drop_tags) client start outcome journal
TellsBy Check ids task client start outcome journal =
    CheckedTells task.line client start outcome journal

-- What the outcome of a task, whose session draws these ids if it opens one, says of the journal,
-- where the task began at `start` and its client made no other events from there on.
abbrev pub TellsOutcome : AnyIds → Task → ℕ → List Event → Outcome → List Event → Type 0
TellsOutcome ids task client start outcome journal =
    TellsBy task.head ids task client start outcome journal

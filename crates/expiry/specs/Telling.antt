-- What the outcome of an expiry says of the journal, in words that name no
-- machine and no program. (Own.)
use Rattle.std.specs.Prelude.{◌≡◌, ◌≢◌, ◌⊎◌, ℕ, ◌<◌, List, [], ◌∷◌, ◌++◌, length}
use Rattle.std.specs.Prelude.{map, Option, Some, None, Bool, Result, Ok, Err}
use Rattle.std.specs.List.{All}
use Rattle.flat_tables.specs.declared.header.Kind.TheVariants as kinds
use Rattle.flat_tables.specs.File.{file_limit}
use Rattle.ice_ids.specs.Text.{initial_id}
use Rattle.ice_ids.specs.declared.Id12.{Id12}
use Rattle.snapshot_file.specs.declared.snapshot.SnapshotFile.{SnapshotFile}
use Rattle.repo_objects.specs.Readings.{snapshot_by}
use Rattle.object_store.specs.declared.keys.Key.{Key}
use Rattle.object_store.specs.declared.keys.Key.TheVariants.{Snapshot}
use Rattle.object_store.specs.declared.keys.Part.{Part}
use Rattle.object_store.specs.declared.keys.Part.TheVariants.{Branches, Tags}
use Rattle.object_store.specs.declared.keys.Why.TheVariants.{Expire}
use Rattle.object_store.specs.declared.events.Version.{Version}
use Rattle.object_store.specs.declared.events.Op.{Op}
use Rattle.object_store.specs.declared.events.Op.TheVariants.{PutOver, List as ListPart}
use Rattle.object_store.specs.declared.events.Listed.{Listed}
use Rattle.object_store.specs.declared.events.Reply.{Reply}
use Rattle.object_store.specs.declared.events.Reply.TheVariants.{Listed as Is_listed, Failed}
use Rattle.object_store.specs.declared.events.Event.{Event}
use Rattle.store_api.specs.declared.machines.Refusal.{Refusal}
use Rattle.store_api.specs.declared.machines.Refusal.TheVariants as R
use Rattle.store_api.specs.Telling.{HasOwn, WasAbsent, WasRef, WasReadAs, RefWasBad, SnapshotWasBad}
use Rattle.repo_read.specs.Chains.{most_snapshots, Leading}
use Rattle.cleanup_reports.specs.declared.cases.What.{What}
use Rattle.cleanup_reports.specs.declared.cases.What.TheVariants.{Kept, Cut, Dropped, Moved, Absent}
use Rattle.cleanup_reports.specs.declared.cases.RefCase.{RefCase}
use Rattle.live_refs.specs.Live.{live}
use Rattle.expiry.specs.declared.terms.Terms.{Terms}
use Rattle.expiry.specs.declared.standing.Expired.{Expired}
use Rattle.expiry.specs.Verdicts.{Verdict, ToKeep, ToCut, ToDrop, expiry_of, may_drop, cut_file}
use Rattle.expiry.specs.Looks.{cut_bytes}
use Rattle.expiry.specs.Plays.{drop_op, drop_told, cut_told}

-- ---- what was read of a ref
-- The client's own gets read the ref, and from the snapshot that it names down these, each the
-- parent of the one before. The initial snapshot may be the first one, and then it is the only
-- one; below another it isn't read.
pub record WasRead (client : ℕ) (ref : Key) (version : Version) (head : SnapshotFile)
    (below : List SnapshotFile) (to : Option Id12) (start journal : List Event) : Type 0 where
  pub id : Id12
  pub read : WasRef client ref version id start journal
  pub chain : Leading client (Some id) (head ∷ below) to start journal
  pub alone : id ≡ initial_id → below ≡ []
  pub apart : All (λ s. s.id ≢ initial_id) below

-- the history ends there: the last one has no parent, or the initial snapshot is its
-- parent, or the ref names that one
abbrev pub HistoryEndsAt : (head : SnapshotFile) → (to : Option Id12) → Type 0
HistoryEndsAt head to = (head.id ≡ initial_id) ⊎ ((to ≡ None) ⊎ (to ≡ Some initial_id))

-- By what was read, this is to become of the ref; where it is to stay, its whole history was read.
pub record WasJudged (t : Terms) (client : ℕ) (ref : Key) (version : Version) (verdict : Verdict)
    (start journal : List Event) : Type 0 where
  pub head : SnapshotFile
  pub below : List SnapshotFile
  pub to : Option Id12
  pub read : WasRead client ref version head below to start journal
  pub verdict_is : expiry_of t.cutoff (may_drop t ref) head below ≡ verdict
  pub whole : verdict ≡ ToKeep → HistoryEndsAt head to

-- ---- cuts and drops
-- The history of a ref is to end at this snapshot; these bytes are the snapshot with the initial
-- one as its parent, and otherwise as the client's own get read it, at this version.
pub record IsCutOf (t : Terms) (client : ℕ) (ref : Key) (id : Id12) (bytes : List ℕ) (old : Version)
    (start journal : List Event) : Type 0 where
  pub version : Version
  pub file : SnapshotFile
  pub judged : WasJudged t client ref version (ToCut file) start journal
  pub id_is : file.id ≡ id
  pub read : WasReadAs client id file start journal
  pub old_is : old.0 ≡ read.version
  pub written : snapshot_by id bytes ≡ Some (cut_file file)

-- the client's own cut was answered so
pub record WasCut (t : Terms) (client : ℕ) (ref : Key) (what : What)
    (start journal : List Event) : Type 0 where
  pub id : Id12
  pub bytes : List ℕ
  pub old : Version
  pub cut : IsCutOf t client ref id bytes old start journal
  pub reply : Reply
  pub own : HasOwn client (PutOver (Snapshot id) bytes old Expire) reply start journal
  pub tells : cut_told id reply ≡ Ok what

-- the ref is to be dropped, and the client's own removal, or tombstone, was answered so
pub record WasDropped (t : Terms) (client : ℕ) (ref : Key) (what : What)
    (start journal : List Event) : Type 0 where
  pub version : Version
  pub judged : WasJudged t client ref version ToDrop start journal
  pub reply : Reply
  pub own : HasOwn client (drop_op ref version) reply start journal
  pub tells : drop_told reply ≡ Ok what

-- ---- the case of a ref
-- It was absent; or all was to stay; or it was cut or dropped, and that was done, or what was to be
-- put over or removed had moved on.
abbrev pub CaseTells : Terms → ℕ → (ref : Key) → What → (start journal : List Event) → Type 0
CaseTells t client ref Absent start journal = WasAbsent client ref start journal
CaseTells t client ref Kept start journal =
    (version : Version) × WasJudged t client ref version ToKeep start journal
CaseTells t client ref (Cut id) start journal = WasCut t client ref (Cut id) start journal
CaseTells t client ref Dropped start journal = WasDropped t client ref Dropped start journal
CaseTells t client ref Moved start journal =
    WasCut t client ref Moved start journal ⊎ WasDropped t client ref Moved start journal

-- ---- why it is refused
-- as many snapshots of a ref's history were read as may be, and there is a further one
pub record WasTooDeep (client : ℕ) (start journal : List Event) : Type 0 where
  pub ref : Key
  pub version : Version
  pub head : SnapshotFile
  pub below : List SnapshotFile
  pub next : Id12
  pub read : WasRead client ref version head below (Some next) start journal
  pub many : length (head ∷ below) ≡ most_snapshots
  pub further : next ≢ initial_id

-- the file of a cut would be longer than a file may be
pub record WasTooLarge (t : Terms) (client : ℕ) (start journal : List Event) : Type 0 where
  pub ref : Key
  pub version : Version
  pub file : SnapshotFile
  pub judged : WasJudged t client ref version (ToCut file) start journal
  pub long : file_limit < length (cut_bytes file)

-- the snapshot is absent that a ref names, or another one as its parent
pub record WasMissing (client : ℕ) (key : Key) (start journal : List Event) : Type 0 where
  pub id : Id12
  pub key_is : key ≡ Snapshot id
  pub absent : WasAbsent client (Snapshot id) start journal

-- an operation of the client failed, and may have been done
pub record HasFailed (client : ℕ) (start journal : List Event) : Type 0 where
  pub op : Op
  pub done : Bool
  pub own : HasOwn client op (Failed done) start journal

-- its cause, for each refusal; want of memory needs none
abbrev pub Cause : Terms → ℕ → Refusal → (start journal : List Event) → Type 0
Cause t client (R.Missing key) start journal = WasMissing client key start journal
Cause t client (R.BadFile key bad) start journal =
    RefWasBad client key key bad start journal
    ⊎ ((id : Id12) × SnapshotWasBad client id key bad start journal)
Cause t client R.TooDeep start journal = WasTooDeep client start journal
Cause t client (R.TooLarge kind) start journal =
    (kind ≡ kinds.Snapshot) × WasTooLarge t client start journal
Cause t client R.StoreFault start journal = HasFailed client start journal
Cause t client R.NoMemory start journal = Unit {0}
Cause t client _ start journal = ⊥

-- ---- which refs it came to
-- the refs that the client's own listing of the part has
pub record WasListed (client : ℕ) (part : Part) (refs : List Key)
    (start journal : List Event) : Type 0 where
  pub reply : Listed
  pub own : HasOwn client (ListPart part) (Is_listed reply) start journal
  pub refs_are : refs ≡ live reply.entries

-- all: the branches, and then the tags without a tombstone, as they were listed
pub record CameToAll (client : ℕ) (refs : List Key) (start journal : List Event) : Type 0 where
  pub branches : List Key
  pub tags : List Key
  pub branches_listed : WasListed client Branches branches start journal
  pub tags_listed : WasListed client Tags tags start journal
  pub refs_are : refs ≡ branches ++ tags

-- the first ones of these
pub record CameTo (client : ℕ) (refs : List Key) (start journal : List Event) : Type 0 where
  pub left : List Key
  pub came : (refs ++ left ≡ [])
      ⊎ (WasListed client Branches (refs ++ left) start journal
      ⊎ CameToAll client (refs ++ left) start journal)

abbrev pub refs_of : List RefCase → List Key
refs_of cases = map (λ (c : RefCase). c.key) cases

abbrev pub EndsSo : Terms → ℕ → List RefCase → Result (Unit {0}) Refusal
    → (start journal : List Event) → Type 0
EndsSo t client cases (Ok done) start journal = CameToAll client (refs_of cases) start journal
EndsSo t client cases (Err why) start journal =
    CameTo client (refs_of cases) start journal × Cause t client why start journal

-- What an outcome of an expiry says of the journal: of each ref that it came to, what became of it;
-- where it ended well, it came to all that its own listings had, in their order; where it was
-- refused, to the first of them, and the cause.
pub record ExpireTells (t : Terms) (client : ℕ) (start : List Event) (outcome : Expired)
    (journal : List Event) : Type 0 where
  pub each : All (λ (c : RefCase). CaseTells t client c.key c.what start journal) outcome.cases
  pub ends : EndsSo t client outcome.cases outcome.result start journal

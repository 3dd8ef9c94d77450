-- The directory as a store: what is seen of it, and what its answers say of the
-- bytes that they give or were given.
use Rattle.std.specs.Prelude.{◌≡◌, ◌≢◌, ℕ, List, [], Bool, true, false}
use Rattle.std.specs.Prelude.{Option, Some, None, Result, Ok, Err}
use Rattle.ice_base.specs.Ends.{raised}
use Rattle.object_store.specs.declared.events.StoreFault.{StoreFault}
use Rattle.object_store.specs.declared.events.StoreFault.TheVariants.{Failed, NoMemory}
use Rattle.object_store.specs.declared.events.Version.{Version}
use Rattle.object_store.specs.declared.events.Got.{Got}
use Rattle.object_store.specs.declared.events.Got.TheVariants as G
use Rattle.object_store.specs.declared.events.New.{New}
use Rattle.object_store.specs.declared.events.New.TheVariants as N
use Rattle.object_store.specs.declared.events.Over.{Over}
use Rattle.object_store.specs.declared.events.Over.TheVariants as O
use Rattle.object_store.specs.declared.events.Gone.{Gone}
use Rattle.object_store.specs.declared.events.Gone.TheVariants as R
use Rattle.object_store.specs.declared.events.GoneAt.{GoneAt}
use Rattle.object_store.specs.declared.events.GoneAt.TheVariants as A
use Rattle.object_store.specs.Callers.{Caller, View}
use Rattle.dir_store.specs.declared.directory.FirstFault.{FirstFault}
use Rattle.dir_store.specs.declared.store.FolderStore.{FolderStore}
use Rattle.whole_files.specs.Places.{root_of as root_in, asides_of as asides_in}
use Rattle.object_store.specs.declared.keys.Key.{Key}
use Rattle.object_files.specs.Versions.{version_for}

-- ---- what is seen
abbrev pub client_of : {F C : Type 0} → FolderStore F C → ℕ
client_of s = s.client

abbrev pub faults_of : {F C : Type 0} → FolderStore F C → ℕ
faults_of s = s.faults

abbrev pub operations_of : {F C : Type 0} → FolderStore F C → ℕ
operations_of s = s.operations

abbrev pub root_of : {F C : Type 0} → FolderStore F C → List ℕ
root_of s = root_in s.directory.places

-- the folder in which it writes files aside
abbrev pub asides_of : {F C : Type 0} → FolderStore F C → List ℕ
asides_of s = asides_in s.directory.places

-- the folders and files that it stands on
abbrev pub disk_of : {F C : Type 0} → FolderStore F C → F
disk_of s = s.directory.tree

abbrev pub clock_of : {F C : Type 0} → FolderStore F C → C
clock_of s = s.clock

-- the first call on files that failed, if one has
abbrev pub first_fault_of : {F C : Type 0} → FolderStore F C → Option FirstFault
first_fault_of s = s.directory.first_fault

-- whether no folder is to be flushed before the next change
abbrev pub is_settled : {F C : Type 0} → FolderStore F C → Bool
is_settled s = s.directory.settled

-- a client that isn't told the journal and has every number
abbrev pub untold : ℕ → Caller
untold client = record { tells = false; number = client; low = 0; end = None; home = [] }

-- a store that tells no journal
abbrev pub untold_view : ℕ → ℕ → View
untold_view client faults = record { caller = untold client; seen = []; faults = faults }

abbrev pub view_of : {F C : Type 0} → FolderStore F C → View
view_of s = untold_view (client_of s) (faults_of s)

-- in this directory, for the client 0, with no fault and no operation so
-- far; no folder is to be flushed
pub record IsNewIn {F C : Type 0} (path : List ℕ) (clock : C) (s : FolderStore F C) : Type 0 where
  pub root : root_of s ≡ path
  pub client : client_of s ≡ 0
  pub faults : faults_of s ≡ 0
  pub made : operations_of s ≡ 0
  pub keeps : clock_of s ≡ clock
  pub first : first_fault_of s ≡ None
  pub settled : is_settled s ≡ true

-- an answer and a failure are one operation more, where a count can hold
-- it, and want of memory is none
abbrev pub Raises : {A : Type 0} → Result A StoreFault → ℕ → ℕ → Type 0
Raises (Ok a) old new = new ≡ raised old
Raises (Err Failed) old new = new ≡ raised old
Raises (Err NoMemory) old new = new ≡ old

-- ---- what answers say
-- the version that is told is that of the bytes at this key
abbrev pub IsRightGot : Key → Got → Type 0
IsRightGot key (G.Found bytes version now) = version.0 ≡ version_for key bytes
IsRightGot key (G.Absent now) = Unit {0}

abbrev pub IsRightNew : Key → List ℕ → New → Type 0
IsRightNew key bytes (N.Done version now) = version.0 ≡ version_for key bytes
IsRightNew key bytes (N.Present version now) = Unit {0}

-- ... and what moved isn't the old version
abbrev pub IsRightOver : Key → List ℕ → Version → Over → Type 0
IsRightOver key bytes old (O.Done version now) = version.0 ≡ version_for key bytes
IsRightOver key bytes old (O.Moved found now) = found ≢ Some old

abbrev pub IsRightGoneAt : Version → GoneAt → Type 0
IsRightGoneAt old (A.Done now) = Unit {0}
IsRightGoneAt old (A.Moved found now) = found ≢ Some old

-- ---- the moment that an answer tells
abbrev pub time_of_got : Got → ℕ
time_of_got (G.Found bytes version now) = now
time_of_got (G.Absent now) = now

abbrev pub time_of_new : New → ℕ
time_of_new (N.Done version now) = now
time_of_new (N.Present version now) = now

abbrev pub time_of_over : Over → ℕ
time_of_over (O.Done version now) = now
time_of_over (O.Moved found now) = now

abbrev pub time_of_gone : Gone → ℕ
time_of_gone (R.Done now) = now
time_of_gone (R.Absent now) = now

abbrev pub time_of_gone_at : GoneAt → ℕ
time_of_gone_at (A.Done now) = now
time_of_gone_at (A.Moved found now) = now

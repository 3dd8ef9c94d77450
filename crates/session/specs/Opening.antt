-- The program of an opening: it gets what names a snapshot, if that
-- is a ref, and then the snapshot.
use Rattle.std.specs.Prelude.{ℕ, ◌+◌, if◌then◌else◌, Bool, [], Option, Some, None, Ok, Err}
use Rattle.ice_ids.specs.declared.drawing.AnyIds.{AnyIds}
use Rattle.snapshot_file.specs.declared.snapshot.SnapshotFile.{SnapshotFile}
use Rattle.zarr_changes.specs.Edits.{nothing}
use Rattle.store_api.specs.declared.machines.Refusal.TheVariants.{NoMemory}
use Rattle.store_api.specs.Program.{Done}
use Rattle.store_api.specs.Running.{Program, ◌>>=◌}
use Rattle.object_store.specs.declared.events.Version.{Version}
use Rattle.repo_read.specs.declared.resolving.At.{At}
use Rattle.repo_read.specs.declared.resolving.Named.{Named}
use Rattle.repo_read.specs.Resolving.{resolve_at_program, base_at_program}
use Rattle.repo_read.specs.Seeking.{resolving_rest, resolving_left}
use Rattle.session.specs.declared.open.Open.{Open}
use Rattle.session.specs.declared.opening.Opening.{Opening}
use Rattle.session.specs.declared.opening.Opening.TheVariants.{Naming, Base, Ended}
use Rattle.session.specs.declared.origin.Tip.{Tip}
use Rattle.session.specs.declared.origin.Origin.{Origin}
use Rattle.session.specs.declared.origin.Origin.TheVariants.{Writes, ReadsBranch, ReadsTag, ReadsId}
use Rattle.session.specs.Sessions.{SessionState}

-- what is asked: what names the snapshot, whether to write, and the ids to draw
pub record Asked : Type 0 where
  pub at : At
  pub writes : Bool
  pub ids : AnyIds

-- a branch that stood at this version, to write to it or to read
abbrev pub of_branch : (writes : Bool) → Tip → Origin
of_branch writes tip = if writes then Writes tip else ReadsBranch tip

-- what named the base: a branch at the version at which it was read,
-- a tag, or the snapshot's own id
abbrev pub origin_named : (writes : Bool) → At → Option Version → Origin
origin_named writes (At.Branch branch) (Some version) =
    of_branch writes (record { branch = branch; version = version })
origin_named writes (At.Branch branch) None = ReadsId
origin_named writes (At.Tag tag) version = ReadsTag tag
origin_named writes (At.Snapshot id) version = ReadsId

abbrev pub origin_for : Asked → Named → Origin
origin_for a named = origin_named a.writes a.at named.version

-- the session that begins at the snapshot that was named
abbrev pub begun : Asked → Named → SnapshotFile → SessionState
begun a named snap = record {
  origin = origin_for a named;
  base = named.id;
  rows = snap.nodes;
  files = snap.manifest_files;
  held = nothing;
  props = [];
  ids = a.ids;
}

-- gets the snapshot that was named
abbrev pub base_program : Asked → Named → Program SessionState
base_program a named = do
  snap ← base_at_program a.at named.id
  Done (Ok (begun a named snap))

abbrev pub open_program : Asked → Program SessionState
open_program a = do
  named ← resolve_at_program a.at
  base_program a named

-- what is still to be done
abbrev pub opening_rest : Asked → Opening → Program SessionState
opening_rest a (Naming resolving) = resolving_rest resolving >>= base_program a
opening_rest a (Base named) = base_program a named
opening_rest a Ended = Done (Err NoMemory)

abbrev pub asked : Open → Asked
asked o = record { at = o.at; writes = o.writes; ids = o.ids }

abbrev pub open_rest : Open → Program SessionState
open_rest o = opening_rest (asked o) o.state

abbrev pub opening_left : Opening → ℕ
opening_left (Naming resolving) = resolving_left resolving + 1
opening_left (Base named) = 1
opening_left Ended = 0

-- how many steps are left
abbrev pub open_left : Open → ℕ
open_left o = opening_left o.state

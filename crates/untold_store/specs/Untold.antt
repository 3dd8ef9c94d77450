-- A store in memory that tells no journal.
use Rattle.std.specs.Prelude.{ℕ, true, false, [], Option}
use Rattle.ice_base.specs.Names.{main_name}
use Rattle.ice_ids.specs.declared.drawing.AnyIds.{AnyIds}
use Rattle.store_api.specs.Callers.{View}
use Rattle.store_api.specs.Running.{Program}
use Rattle.repo_read.specs.declared.resolving.At.TheVariants.{Branch}
use Rattle.session.specs.Sessions.{SessionState}
use Rattle.session.specs.Opening.{open_program}
use Rattle.object_store.specs.declared.keys.Key.{Key}
use Rattle.mem_store.specs.declared.memory_store.MemStore.{MemStore}
use Rattle.mem_store.specs.Memory.{sole, client_of}
use Rattle.untold_store.specs.declared.untold.Untold.{Untold}

-- the store beneath, which tells its journal
abbrev pub memory_of : Untold → MemStore ℕ
memory_of s = s.memory

-- the key at which what stands is dropped behind each listing
abbrev pub late_of : Untold → Option Key
late_of s = s.late

-- The caller is the store's beneath, and is told nothing.
abbrev pub view_of : Untold → View
view_of s = record {
  caller = record (sole (client_of (memory_of s))) { tells = false };
  seen = [];
  faults = 0;
}

-- opens a session to write on `main`, which draws these ids
abbrev pub opens_main : AnyIds → Program SessionState
opens_main ids = open_program (record { at = Branch main_name; writes = true; ids = ids })

-- The programs that make and drop tags. (Icechunk specification version 1, "Tags": a tag never
-- moves, it is dropped by a tombstone, and its name isn't used again.)
use Rattle.std.specs.Prelude.{ℕ, List, [], Result, Ok, Err}
use Rattle.ice_ids.specs.declared.Id12.{Id12}
use Rattle.ref_file.specs.Refs.{ref_bytes}
use Rattle.object_store.specs.declared.keys.Key.TheVariants.{Tag, Tombstone}
use Rattle.object_store.specs.declared.keys.Why.TheVariants.{Drop, Tag as For_tag}
use Rattle.object_store.specs.declared.events.Version.{Version}
use Rattle.object_store.specs.declared.events.Op.TheVariants.{Get, PutNew}
use Rattle.object_store.specs.declared.events.Got.TheVariants.{Found, Absent}
use Rattle.object_store.specs.declared.events.New.TheVariants.{Done as New_done, Present}
use Rattle.object_store.specs.declared.events.Reply.{Reply}
use Rattle.object_store.specs.declared.events.Reply.TheVariants.{Got, New}
use Rattle.store_api.specs.declared.machines.Refusal.{Refusal}
use Rattle.store_api.specs.declared.machines.Refusal.TheVariants.{NoRef, BadFile, NoSnapshot}
use Rattle.store_api.specs.declared.machines.Refusal.TheVariants.{RefExists, TagDropped}
use Rattle.store_api.specs.declared.machines.Refusal.TheVariants.{StoreFault, NoMemory}
use Rattle.store_api.specs.Program.{Done, Ask}
use Rattle.store_api.specs.Running.{Program, ◌>>=◌}
use Rattle.repo_read.specs.declared.resolving.At.{At}
use Rattle.repo_read.specs.Resolving.{resolve_at_program, tag_program}
use Rattle.refs_admin.specs.Targets.{target_program}

-- ---- a new tag
-- why a tag that is there at this version isn't made: by what the get of its tombstone tells
abbrev pub taken : Version → Reply → Refusal
taken version (Got (Found bytes at now)) = TagDropped
taken version (Got (Absent now)) = RefExists version
taken version _ = StoreFault

-- gets the tombstone of a tag that is there
abbrev pub taken_program : (name : List ℕ) → Version → Program (Unit {0})
taken_program name version = Ask (Get (Tombstone name)) (λ reply. Done (Err (taken version reply)))

abbrev pub after_tag : (name : List ℕ) → Reply → Program (Unit {0})
after_tag name (New (New_done version now)) = Done (Ok tt)
after_tag name (New (Present version now)) = taken_program name version
after_tag name _ = Done (Err StoreFault)

-- puts the tag where there never was one
abbrev pub put_tag : (name : List ℕ) → Id12 → Program (Unit {0})
put_tag name id = Ask (PutNew (Tag name) (ref_bytes id) For_tag) (after_tag name)

-- gets the snapshot first
abbrev pub tag_target_program : (name : List ℕ) → Id12 → Program (Unit {0})
tag_target_program name id = do
  target ← target_program id
  put_tag name id

abbrev pub tag_new_program : (name : List ℕ) → At → Program (Unit {0})
tag_new_program name at = do
  named ← resolve_at_program at
  tag_target_program name named.id

-- ---- a tag that is dropped
abbrev pub buried : Reply → Result (Unit {0}) Refusal
buried (New (New_done version now)) = Ok tt
buried (New (Present version now)) = Err NoRef
buried _ = Err StoreFault

-- puts the tombstone, which has no bytes
abbrev pub put_tombstone : (name : List ℕ) → Program (Unit {0})
put_tombstone name = Ask (PutNew (Tombstone name) [] Drop) (λ reply. Done (buried reply))

abbrev pub tag_drop_program : (name : List ℕ) → Program (Unit {0})
tag_drop_program name = do
  tagged ← tag_program name
  put_tombstone name

-- ---- the refusals
abbrev pub MayRefuseTag : Refusal → Type 0
MayRefuseTag NoRef = Unit {0}
MayRefuseTag NoSnapshot = Unit {0}
MayRefuseTag TagDropped = Unit {0}
MayRefuseTag (RefExists version) = Unit {0}
MayRefuseTag (BadFile key bad) = Unit {0}
MayRefuseTag StoreFault = Unit {0}
MayRefuseTag NoMemory = Unit {0}
MayRefuseTag _ = ⊥

-- a tag is dropped with the refusals of a reading: MayRefuseRef of repo_read

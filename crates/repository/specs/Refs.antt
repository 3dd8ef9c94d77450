-- The program that reads all refs (Icechunk specification version 1, "Reference Files"; tombstones
-- of tags are objects of their own).
use Rattle.std.specs.Prelude.{true, false, if◌then◌else◌, List, [], ◌∷◌, ◌++◌}
use Rattle.std.specs.Prelude.{Option, Some, None, Result, Ok, Err}
use Rattle.ice_ids.specs.declared.Id12.{Id12}
use Rattle.repo_objects.specs.declared.bad_objects.Bad.{Bad}
use Rattle.repo_objects.specs.Readings.{read_ref as read_bytes}
use Rattle.object_store.specs.declared.keys.Key.{Key}
use Rattle.object_store.specs.declared.keys.Key.TheVariants.{Snapshot, Manifest, Txn, Chunk}
use Rattle.object_store.specs.declared.keys.Key.TheVariants.{Branch, Tag, Tombstone, Lease}
use Rattle.object_store.specs.declared.keys.Part.{Part}
use Rattle.object_store.specs.declared.keys.Part.TheVariants.{Branches, Tags}
use Rattle.object_store.specs.declared.events.Op.TheVariants.{Get, List as ListPart}
use Rattle.object_store.specs.declared.events.Got.TheVariants.{Found, Absent}
use Rattle.object_store.specs.declared.events.Entry.{Entry}
use Rattle.object_store.specs.declared.events.Reply.{Reply}
use Rattle.object_store.specs.declared.events.Reply.TheVariants.{Got as Is_got, Listed as Is_listed}
use Rattle.store_api.specs.declared.machines.Refusal.{Refusal}
use Rattle.store_api.specs.declared.machines.Refusal.TheVariants.{BadFile, StoreFault, NoMemory}
pub use Rattle.live_refs.specs.Live.{live, is_gone}
use Rattle.store_api.specs.Program.{Done, Ask}
use Rattle.play_outcome.specs.declared.outcome.RefLine.{RefLine}
use Rattle.store_api.specs.Running.{Program, ◌>>=◌}

-- ---- a listing
abbrev pub on_listed : Reply → Program (List Entry)
on_listed (Is_listed listed) = Done (Ok listed.entries)
on_listed _ = Done (Err StoreFault)

abbrev pub list_part : Part → Program (List Entry)
list_part part = Ask (ListPart part) on_listed

-- ---- a ref
-- the line of a branch or a tag
abbrev pub line_of : Key → Id12 → Option RefLine
line_of (Branch name) id = Some (record { tag = false; name = name; id = id })
line_of (Tag name) id = Some (record { tag = true; name = name; id = id })
line_of (Snapshot other) id = None
line_of (Manifest other) id = None
line_of (Txn other) id = None
line_of (Chunk other) id = None
line_of (Tombstone name) id = None
line_of (Lease other) id = None

-- bytes that are no reference are a bad file
abbrev pub on_id : Key → Result Id12 Bad → Result (Option RefLine) Refusal
on_id key (Err bad) = Err (BadFile key bad)
on_id key (Ok id) = Ok (line_of key id)

-- a ref that is gone by now is passed over
abbrev pub on_got : Key → Reply → Program (Option RefLine)
on_got key (Is_got (Found bytes version now)) = Done (on_id key (read_bytes bytes))
on_got key (Is_got (Absent now)) = Done (Ok None)
on_got key _ = Done (Err StoreFault)

abbrev pub read_ref : Key → Program (Option RefLine)
read_ref key = Ask (Get key) (on_got key)

-- ---- all refs
abbrev pub with_line : List RefLine → Option RefLine → List RefLine
with_line lines None = lines
with_line lines (Some line) = lines ++ line ∷ []

-- gets each, behind the lines so far
abbrev pub read_each : List RefLine → List Key → Program (List RefLine)
read_each lines [] = Done (Ok lines)
read_each lines (key ∷ keys) = do
  line ← read_ref key
  read_each (with_line lines line) keys

-- the tags that have no tombstone, behind the lines so far
abbrev pub read_tags : List RefLine → Program (List RefLine)
read_tags lines = do
  tags ← list_part Tags
  read_each lines (live tags)

-- of these branches those that stand, and then the tags
abbrev pub read_branches : List RefLine → List Entry → Program (List RefLine)
read_branches lines entries = do
  more ← read_each lines (live entries)
  read_tags more

-- all refs, behind the lines so far
abbrev pub read_all : List RefLine → Program (List RefLine)
read_all lines = do
  branches ← list_part Branches
  read_branches lines branches

abbrev pub refs_program : Program (List RefLine)
refs_program = read_all []

-- the refusals of a reading
abbrev pub MayRefuseRefs : Refusal → Type 0
MayRefuseRefs (BadFile key bad) = Unit {0}
MayRefuseRefs StoreFault = Unit {0}
MayRefuseRefs NoMemory = Unit {0}
MayRefuseRefs _ = ⊥

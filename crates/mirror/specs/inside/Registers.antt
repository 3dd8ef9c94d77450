-- The refs that a mirror has come to and what became of them, and those that are left.
use Rattle.std.specs.Prelude.{ℕ, ◌^◌, List, []}
use Rattle.object_store.specs.declared.keys.Part.{Part}
use Rattle.object_store.specs.declared.keys.Part.TheVariants as part
use Rattle.mirror_reports.specs.declared.outcome.RefId.{RefId}
use Rattle.mirror_reports.specs.declared.outcome.MirrorRef.{MirrorRef}
use Rattle.mirror.specs.declared.register.Phase.{Phase}
use Rattle.mirror.specs.declared.register.Phase.TheVariants.{Branches, Tags}

-- what became of refs, and those that are left of a listing, the first of which is in work
pub record Refs : Type 0 where
  pub phase : Phase
  pub refs : List MirrorRef
  pub names : List RefId

abbrev pub at_first : Refs
at_first = record { phase = Branches; refs = []; names = [] }

abbrev pub part_of : Phase → Part
part_of Branches = part.Branches
part_of Tags = part.Tags

-- no list is as long
abbrev pub many : ℕ
many = 2 ^ 64

-- The refs that an expiry came to and what became of them, and those that it still comes to.
use Rattle.std.specs.Prelude.{ℕ, ◌^◌, List, []}
use Rattle.object_store.specs.declared.keys.Key.{Key}
use Rattle.object_store.specs.declared.keys.Part.{Part}
use Rattle.object_store.specs.declared.keys.Part.TheVariants as part
use Rattle.cleanup_reports.specs.declared.cases.RefCase.{RefCase}
use Rattle.expiry.specs.declared.register.Phase.{Phase}
use Rattle.expiry.specs.declared.register.Phase.TheVariants.{Branches, Tags}

-- what became of refs, and those that are left of a listing
pub record Refs : Type 0 where
  pub phase : Phase
  pub cases : List RefCase
  pub keys : List Key

abbrev pub at_first : Refs
at_first = record { phase = Branches; cases = []; keys = [] }

abbrev pub part_of : Phase → Part
part_of Branches = part.Branches
part_of Tags = part.Tags

-- no list is as long
abbrev pub many : ℕ
many = 2 ^ 64

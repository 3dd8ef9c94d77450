-- How a session refuses a property; no public contract cites this.
use Rattle.snapshot_file.specs.declared.properties.PropFault.{PropFault}
use Rattle.snapshot_file.specs.declared.properties.PropFault.TheVariants as P
use Rattle.store_api.specs.declared.machines.Refusal.{Refusal}
use Rattle.store_api.specs.declared.machines.Refusal.TheVariants as R

abbrev pub refusal_of_prop : PropFault → Refusal
refusal_of_prop P.Name = R.BadProp P.Name
refusal_of_prop P.Value = R.BadProp P.Value
refusal_of_prop P.Twice = R.BadProp P.Twice
refusal_of_prop P.Many = R.BadProp P.Many
refusal_of_prop P.NoMemory = R.NoMemory

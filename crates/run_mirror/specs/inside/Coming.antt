-- How far a mirror has come, as the contracts of the code's own functions say it;
-- no public contract cites this.
use Rattle.std.specs.Prelude.{◌≡◌, ◌≤◌, true, IsTrue, List}
use Rattle.ice_base.specs.Ends.{Rose}
use Rattle.store_api.specs.Callers.{Caller, View}
use Rattle.two_stores.specs.declared.side.Side.{Side}
use Rattle.two_stores.specs.Sides.{Both, at_side, callers_of, seen_of}
use Rattle.two_stores.specs.Pairs.{KeepsPair, LeadsPair, IsFair, dooms}
use Rattle.mirror.specs.declared.mirror.Mirror.{Mirror}
use Rattle.mirror.specs.Laws.{tells_fault}
use Rattle.mirror.specs.Programs.{Answer}
use Rattle.mirror.specs.inside.Working.{mirror_rest}
use Rattle.mirror_calls.specs.Laws.{PoliteOn, MirrorTells, BothTell, RefsSame}
use Rattle.run_mirror.specs.Running.{GoesAlone}

-- From the views at the beginning to these, with this program left.
pub record Came (old now : Both View) (rest : Answer) : Type 0 where
  pub callers : callers_of now ≡ callers_of old
  pub keeps : KeepsPair (PoliteOn (callers_of old)) (callers_of old) rest (seen_of now)
  pub leads : LeadsPair (MirrorTells (callers_of old) (seen_of old))
      (callers_of old) rest (seen_of now)
  pub trees : BothTell (callers_of old)
      → LeadsPair (RefsSame (callers_of old) (seen_of old)) (callers_of old) rest (seen_of now)
  pub alone : (side : Side) → IsTrue (at_side side old).caller.tells
      → GoesAlone (at_side side old).caller.number (at_side side old).seen (at_side side now).seen
  pub fair : IsFair tells_fault rest
  pub blames : (side : Side) → dooms tells_fault side rest ≡ true
      → Rose (at_side side old).faults (at_side side now).faults
  pub counted : (side : Side) → (at_side side old).faults ≤ (at_side side now).faults

abbrev pub HasCome : (old now : Both View) → Mirror → Type 0
HasCome old now mirror = Came old now (mirror_rest mirror)

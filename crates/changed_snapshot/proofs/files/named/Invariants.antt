use Rattle.std.proofs.Common.{◌≡◌, ◌||◌, drop}
use Rattle.ice_ids.specs.declared.Id12.{Id12}
use Rattle.changed_snapshot.specs.Rows.{names_in}
use Rattle.changed_snapshot.specs.inside.Named.{has_id}
use Rattle.changed_snapshot.proofs.files.named.Given as goal

-- the ids entered so far, and those that are left
abbrev pub invariant-loop-at : goal.invariant-loop-at
invariant-loop-at l = (id : Id12) → (has_id l.ids.keys id || names_in (drop l.at l.rows) id) ≡ names_in l.rows id

use Rattle.std.proofs.Common.{◌≡◌, ◌||◌, drop}
use Rattle.ice_ids.specs.declared.Id12.{Id12}
use Rattle.changed_snapshot.specs.inside.Named.{has_id, have_id}
use Rattle.changed_snapshot.proofs.files.enter.Given as goal

-- the ids entered so far, and those that are left
abbrev pub invariant-loop-manifest : goal.invariant-loop-manifest
invariant-loop-manifest l =
    (id : Id12) → (has_id l.ids.keys id || have_id (drop l.manifest-index l.manifests) id) ≡ (has_id l.fn.ids.keys id || have_id l.manifests id)

-- What is still to be done with an object doesn't depend on the stage that is kept.
use Rattle.std.proofs.Common.{◌≡◌, false, refl}
use Rattle.mirror.specs.declared.mirror.Mirror.{Mirror}
use Rattle.mirror.specs.declared.mirror.Object.{Object}
use Rattle.mirror.specs.declared.mirror.Object.TheVariants as object
use Rattle.mirror.specs.declared.mirror.Stage.TheVariants as stage
use Rattle.mirror.specs.Programs.{put_behind}
use Rattle.mirror.specs.inside.Working.{work_of, object_key, object_bytes, behind_object, stage_rest, mirror_rest}

-- one is there already
pub same-next : (o : Object) (m : Mirror) → mirror_rest (record m { stage = stage.Same o }) ≡ put_behind (object_key o m) (object_bytes o m) (work_of m) (behind_object o m) false
same-next (object.Chunk id) m = refl
same-next (object.Manifest id) m = refl
same-next object.Log m = refl
same-next object.Snapshot m = refl

pub take-stage : (o : Object) (m : Mirror) → stage_rest (stage.Take o) (record m { stage = stage.Starved }) (work_of m) ≡ stage_rest (stage.Take o) m (work_of m)
take-stage (object.Chunk id) m = refl
take-stage (object.Manifest id) m = refl
take-stage object.Log m = refl
take-stage object.Snapshot m = refl

pub put-stage : (o : Object) (m : Mirror) → stage_rest (stage.Put o) (record m { stage = stage.Starved }) (work_of m) ≡ stage_rest (stage.Put o) m (work_of m)
put-stage (object.Chunk id) m = refl
put-stage (object.Manifest id) m = refl
put-stage object.Log m = refl
put-stage object.Snapshot m = refl

pub same-stage : (o : Object) (m : Mirror) → stage_rest (stage.Same o) (record m { stage = stage.Starved }) (work_of m) ≡ stage_rest (stage.Same o) m (work_of m)
same-stage (object.Chunk id) m = refl
same-stage (object.Manifest id) m = refl
same-stage object.Log m = refl
same-stage object.Snapshot m = refl

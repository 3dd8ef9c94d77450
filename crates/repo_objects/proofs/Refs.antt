-- What the bytes of a reference stand for.
use Rattle.std.proofs.Common.{◌≡◌, ℕ, List, Ok, Err, refl}
use Rattle.ice_ids.specs.declared.Id12.{Id12}
use Rattle.zarr_meta.proofs.TextLaws.{json_of_read, json_of_refused}
use Rattle.ref_file.specs.Refs.{RefersTo, Refuses}
use Rattle.ref_file.specs.declared.RefFault.{RefFault}
use Rattle.ref_file.specs.declared.RefFault.TheVariants.{Json, Member, Id, NoMemory}
use Rattle.repo_objects.specs.declared.bad_objects.Unread.{Unread}
use Rattle.repo_objects.specs.Readings.{id_in, read_ref}
use Rattle.repo_objects.specs.Loading.{Loads}
use Rattle.repo_objects.specs.inside.Metas.{unread_ref_of}

pub refers_read : (file : List ℕ) (id : Id12) → RefersTo file id → read_ref file ≡ Ok id
unfolding read_ref
refers_read file id to = rw (json_of_read file to.0 to.2, to.3, id_in, to.4) refl

pub refuses_read : (file : List ℕ) (fault : RefFault) (u : Unread) → Refuses file fault → u ≡ unread_ref_of fault → Loads (read_ref file) (Err u)
unfolding read_ref
refuses_read file fault u why is = rw is (by_fault fault why)
  where
    by_fault : (fault : RefFault) → Refuses file fault → Loads (read_ref file) (Err (unread_ref_of fault))
    by_fault Json why = rw (json_of_refused file why) refl
    by_fault Member why = rw (json_of_read file why.0 why.1, why.2) refl
    by_fault (Id fault) why = rw (json_of_read file why.0 why.2, why.3, id_in, why.4) refl
    by_fault NoMemory why = tt

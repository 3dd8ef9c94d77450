-- The ids of a vector.
use Rattle.std.proofs.Common.{◌≡◌, ℕ, Ok, refl}
use Rattle.ice_ids.specs.declared.Id8.{Id8}
use Rattle.flat_tables.specs.Places.{VectorIn, item_of}
use Rattle.txn_file.specs.Logs.{id_at}

pub id_is : (v : VectorIn) (i : ℕ) (id : Id8) → id.0 ≡ item_of v i → id_at v i ≡ Ok id
id_is v i id e = rw (← e) refl

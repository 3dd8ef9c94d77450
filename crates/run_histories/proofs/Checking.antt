-- The operations of a check: gets and listings.
use Rattle.object_store.specs.declared.events.Op.{Op}
use Rattle.object_store.specs.declared.events.Op.TheVariants.{Get, PutNew, PutOver, Remove, RemoveAt, List as ListPart}
use Rattle.repo_check.specs.Exact.{IsRead}
use Rattle.run_histories.proofs.Programs.{IsPlain}

pub read-plain : (op : Op) → IsRead op → IsPlain op
read-plain (Get key) read = tt
read-plain (ListPart part) read = tt
read-plain (PutNew key bytes why) read = absurd read
read-plain (PutOver key bytes old why) read = absurd read
read-plain (Remove key why) read = absurd read
read-plain (RemoveAt key old why) read = absurd read

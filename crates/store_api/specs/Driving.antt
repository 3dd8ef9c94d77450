-- Machines that know no store: which operation they ask, and where the answer to it takes them.
use Rattle.std.specs.Prelude.{◌≡◌, ℕ, List, Bool, true, false, Result, Ok, Err}
use Rattle.object_store.specs.declared.events.Op.{Op}
use Rattle.object_store.specs.declared.events.Op.TheVariants.{Get, PutNew, PutOver, Remove}
use Rattle.object_store.specs.declared.events.Op.TheVariants.{RemoveAt, List as ListPart}
use Rattle.object_store.specs.declared.events.Reply.{Reply}
use Rattle.object_store.specs.declared.events.Reply.TheVariants.{Failed}
use Rattle.store_api.specs.declared.driving.Payload.{Payload}
use Rattle.store_api.specs.declared.driving.Payload.TheVariants.{Made, Lent}
use Rattle.store_api.specs.declared.driving.Request.{Request}
use Rattle.store_api.specs.declared.driving.Request.TheVariants.{Get as Ask_get}
use Rattle.store_api.specs.declared.driving.Request.TheVariants.{PutNew as Ask_put_new}
use Rattle.store_api.specs.declared.driving.Request.TheVariants.{PutOver as Ask_put_over}
use Rattle.store_api.specs.declared.driving.Request.TheVariants.{Remove as Ask_remove}
use Rattle.store_api.specs.declared.driving.Request.TheVariants.{RemoveAt as Ask_remove_at}
use Rattle.store_api.specs.declared.driving.Request.TheVariants.{List as Ask_list}
use Rattle.store_api.specs.declared.machines.Next.{Next}
use Rattle.store_api.specs.declared.machines.Refusal.{Refusal}
use Rattle.object_store.specs.declared.events.StoreFault.{StoreFault}
pub use Rattle.object_store.specs.Callers.{has_failed}
use Rattle.store_api.specs.Callers.{View, Called, Fits}
use Rattle.store_api.specs.Program.{Prog, Done, Ask, Lands, IsSure, is_told_surely, is_fault}

-- the bytes of a put
abbrev pub payload_bytes : Payload → List ℕ
payload_bytes (Made bytes) = bytes
payload_bytes (Lent bytes) = bytes.now

-- the operation that is asked for
abbrev pub op_of : Request → Op
op_of (Ask_get key) = Get key
op_of (Ask_put_new key bytes why) = PutNew key (payload_bytes bytes) why
op_of (Ask_put_over key bytes old why) = PutOver key (payload_bytes bytes) old why
op_of (Ask_remove key why) = Remove key why
op_of (Ask_remove_at key old why) = RemoveAt key old why
op_of (Ask_list part) = ListPart part

-- this operation comes next
abbrev pub Asks : {A : Type 0} → Prog A → Op → Type 0
Asks (Done a) op = ⊥
Asks (Ask next k) op = op ≡ next

-- the operation that comes next may have this reply
abbrev pub Awaits : {A : Type 0} → Prog A → Reply → Type 0
Awaits (Done a) reply = ⊥
Awaits (Ask op k) reply = Fits op reply

-- the operation that comes next was called
abbrev pub AskedBy : {A : Type 0} → Prog A → Result Reply StoreFault → View → View → Type 0
AskedBy (Done a) result old new = ⊥
AskedBy (Ask op k) result old new = Called (λ reply. reply) op result old new

-- P holds of the reply, and where the operation failed, whether it was done or not
abbrev pub Heard : (Reply → Type 0) → Reply → Type 0
Heard P (Failed done) = (d : Bool) → P (Failed d)
Heard P reply = P reply

-- a fault of the store is told only where the operation failed
abbrev pub Excuses : {T : Type 0} → Reply → Result T Refusal → Type 0
Excuses reply (Ok t) = Unit {0}
Excuses reply (Err refusal) = has_failed reply ≡ false → is_fault refusal ≡ false

-- What a machine that had p to do, and has q now, answered to a reply.
abbrev pub Took : {T : Type 0} → Prog (Result T Refusal) → Reply → Prog (Result T Refusal)
    → Result (Next T) Refusal → Type 0
Took (Done a) reply q result = ⊥
Took (Ask op k) reply q result =
    Heard (λ r. Lands (k r) q result × (is_told_surely op r ≡ true → IsSure (k r) result)) reply
    × Excuses reply result

use Rattle.std.proofs.Common.{arith, ◌<◌, ◌^◌, All, take}
use Rattle.std.proofs.lemmas.List.Elements.{All-from_get_or}
use Rattle.std.specs.Int.Digits.{number_from_digits}
use Rattle.ice_ids.proofs.DigitLaws.{number-take-below}
use Rattle.ice_ids.proofs.base32.number_of_bytes.Goals as goal

pub overflow_mul-number : goal.overflow_mul-number
overflow_mul-number c =
    let below : All (λ b. b < 256) c.args.bytes.now = All-from_get_or (λ b. b < 256) c.args.bytes.now 0 (λ i inside. omega (arith, c.type_inv.bytes i)) in
    let small : number_from_digits 256 (take c.loop-byte.byte-index c.args.bytes.now) < 256 ^ 11 = number-take-below 256 c.args.bytes.now c.loop-byte.byte-index 11 (omega arith) below (omega arith) (omega arith) in
    omega (arith, c.loop-byte.invariant)

pub overflow_add-number : goal.overflow_add-number
overflow_add-number c =
    let below : All (λ b. b < 256) c.args.bytes.now = All-from_get_or (λ b. b < 256) c.args.bytes.now 0 (λ i inside. omega (arith, c.type_inv.bytes i)) in
    let small : number_from_digits 256 (take c.loop-byte.byte-index c.args.bytes.now) < 256 ^ 11 = number-take-below 256 c.args.bytes.now c.loop-byte.byte-index 11 (omega arith) below (omega arith) (omega arith) in
    omega (arith, c.loop-byte.invariant, c.type_inv.bytes c.loop-byte.byte-index)

pub returns-clause-bound : goal.returns-clause-bound
returns-clause-bound c =
    let below : All (λ b. b < 256) c.args.bytes.now = All-from_get_or (λ b. b < 256) c.args.bytes.now 0 (λ i inside. omega (arith, c.type_inv.bytes i)) in
    let small : number_from_digits 256 (take c.loop-byte.byte-index c.args.bytes.now) < 256 ^ 12 = number-take-below 256 c.args.bytes.now c.loop-byte.byte-index 12 (omega arith) below (omega arith) (omega arith) in
    omega (arith, c.loop-byte.invariant)

pub returns-clause-bytes : goal.returns-clause-bytes
returns-clause-bytes c = All-from_get_or (λ b. b < 256) c.args.bytes.now 0 (λ i inside. omega (arith, c.type_inv.bytes i))

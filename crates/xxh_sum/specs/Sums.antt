-- XXH64 with the seed 0 (the specification of xxHash, version 0.1.1): sums of 64 bits.
use Rattle.std.specs.Prelude.{ℕ, zero, suc, ◌+◌, ◌-◌, ◌*◌, ◌/◌, ◌%◌, ◌^◌, nat_lt, bit_xor}
use Rattle.std.specs.Prelude.{List, [], ◌∷◌, length, drop, if◌then◌else◌}
use Rattle.std.specs.Int.{w64, rotate_left}
use Rattle.byteorder.specs.Endian.{little_number}
use Rattle.xxh_sum.specs.declared.Lanes.{Lanes}

abbrev pub p1 : ℕ
p1 = 0x9E3779B185EBCA87

abbrev pub p2 : ℕ
p2 = 0xC2B2AE3D27D4EB4F

abbrev pub p3 : ℕ
p3 = 0x165667B19E3779F9

abbrev pub p4 : ℕ
p4 = 0x85EBCA77C2B2AE63

abbrev pub p5 : ℕ
p5 = 0x27D4EB2F165667C5

-- sums and products in 64 bits
infixl 6 ◌⊞◌
abbrev pub ◌⊞◌ : ℕ → ℕ → ℕ
a ⊞ b = (a + b) % 2 ^ 64

infixl 7 ◌⊠◌
abbrev pub ◌⊠◌ : ℕ → ℕ → ℕ
a ⊠ b = a * b % 2 ^ 64

-- step 2: a sum behind a lane more
unfoldable pub round : (sum lane : ℕ) → ℕ
round sum lane = rotate_left w64 (sum ⊞ lane ⊠ p2) 31 ⊠ p1

-- the number of 8 bytes at a place
abbrev pub lane_at : (place : ℕ) → List ℕ → ℕ
lane_at place bytes = little_number 8 (drop place bytes)

-- a stripe of 32 bytes
unfoldable pub mixed : List ℕ → Lanes → Lanes
mixed bytes lanes = record {
  first = round lanes.first (lane_at 0 bytes);
  second = round lanes.second (lane_at 8 bytes);
  third = round lanes.third (lane_at 16 bytes);
  fourth = round lanes.fourth (lane_at 24 bytes);
}

-- so many stripes
unfoldable pub striped : ℕ → List ℕ → Lanes → Lanes
striped zero bytes lanes = lanes
striped (suc n) bytes lanes = striped n (drop 32 bytes) (mixed bytes lanes)

-- step 1
abbrev pub start : Lanes
start = record { first = p1 ⊞ p2; second = p2; third = 0; fourth = 2 ^ 64 - p1 }

-- step 3: the four lanes become one sum
unfoldable pub merged : (sum lane : ℕ) → ℕ
merged sum lane = bit_xor sum (round 0 lane) ⊠ p1 ⊞ p4

unfoldable pub joined : Lanes → ℕ
joined lanes =
    let sum = rotate_left w64 lanes.first 1 ⊞ rotate_left w64 lanes.second 7
    ⊞ rotate_left w64 lanes.third 12 ⊞ rotate_left w64 lanes.fourth 18 in
    merged (merged (merged (merged sum lanes.first) lanes.second) lanes.third) lanes.fourth

-- of less than a stripe nothing goes into lanes
unfoldable pub begun : List ℕ → ℕ
begun bytes =
    if nat_lt (length bytes) 32 then p5 else joined (striped (length bytes / 32) bytes start)

-- step 5: what is left, by eight bytes, by four, by one
unfoldable pub by_eight : (lane sum : ℕ) → ℕ
by_eight lane sum = rotate_left w64 (bit_xor sum (round 0 lane)) 27 ⊠ p1 ⊞ p4

unfoldable pub by_four : (lane sum : ℕ) → ℕ
by_four lane sum = rotate_left w64 (bit_xor sum (lane ⊠ p1)) 23 ⊠ p2 ⊞ p3

unfoldable pub by_one : (byte sum : ℕ) → ℕ
by_one byte sum = rotate_left w64 (bit_xor sum (byte ⊠ p5)) 11 ⊠ p1

unfoldable pub eights : ℕ → List ℕ → ℕ → ℕ
eights zero bytes sum = sum
eights (suc n) bytes sum = eights n (drop 8 bytes) (by_eight (lane_at 0 bytes) sum)

unfoldable pub ones : List ℕ → ℕ → ℕ
ones [] sum = sum
ones (byte ∷ bytes) sum = ones bytes (by_one byte sum)

unfoldable pub ended : List ℕ → ℕ → ℕ
ended bytes sum =
    if nat_lt (length bytes) 4 then ones bytes sum else
    ones (drop 4 bytes) (by_four (little_number 4 bytes) sum)

-- step 6
unfoldable pub shaken : ℕ → ℕ
shaken n =
    let a = bit_xor n (n / 2 ^ 33) ⊠ p2 in
    let b = bit_xor a (a / 2 ^ 29) ⊠ p3 in bit_xor b (b / 2 ^ 32)

-- how many bytes are in whole stripes, and in whole lanes
abbrev pub stripes_end : List ℕ → ℕ
stripes_end bytes = length bytes / 32 * 32

abbrev pub lanes_end : List ℕ → ℕ
lanes_end bytes = length bytes / 8 * 8

unfoldable pub rest_summed : List ℕ → ℕ → ℕ
rest_summed rest sum = ended (drop (lanes_end rest) rest) (eights (length rest / 8) rest sum)

unfoldable pub sum_of : List ℕ → ℕ
sum_of bytes =
    shaken (rest_summed (drop (stripes_end bytes) bytes) (begun bytes ⊞ length bytes))

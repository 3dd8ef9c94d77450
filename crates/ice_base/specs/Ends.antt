-- What a source gives and a sink takes, and how faults are counted (own).
use Rattle.std.specs.Prelude.{ℕ, ◌≡◌, ◌+◌, ◌<◌, ◌≤◌, ◌-◌, ◌^◌, ◌⊎◌, ◌++◌, min, List, []}
use Rattle.std.specs.Prelude.{length, take, Option, Some, None, IfSome, Result, Ok, Err}
use Rattle.ice_base.specs.declared.ends.Failed.{Failed}
use Rattle.ice_base.specs.declared.ends.InputFault.{InputFault}
use Rattle.ice_base.specs.declared.ends.InputFault.TheVariants as F

-- what is seen of a source: the bytes that are left, where it tells them, and its faults so far
pub record InputAt : Type 0 where
  pub left : Option (List ℕ)
  pub faults : ℕ

-- what is seen of a sink: the bytes that were written, where it tells them, and its faults so far
pub record OutputAt : Type 0 where
  pub written : Option (List ℕ)
  pub faults : ℕ

-- a u64 count goes up by one, or stands still at its end
abbrev pub raised : ℕ → ℕ
raised count = min (count + 1) (2 ^ 64 - 1)

-- a count of faults has gone up, or stands at its end
abbrev pub Rose : ℕ → ℕ → Type 0
Rose old new = (old ≤ new) × ((old < new) ⊎ (new ≡ 2 ^ 64 - 1))

-- what was left began with what was got, where it is told
abbrev pub Taken : Option (List ℕ) → Option (List ℕ) → List ℕ → Type 0
Taken None new got = new ≡ None
Taken (Some xs) new got = (rest : List ℕ) × (new ≡ Some rest) × (xs ≡ got ++ rest)

-- nothing is left, where it is told
abbrev pub IsAtEnd : Option (List ℕ) → Type 0
IsAtEnd left = IfSome left (λ xs. xs ≡ [])

-- One read into a buffer: it gives the next bytes, as many as it says, none only at the end of the
-- input; or it fails, takes nothing, and the count of faults rose.
abbrev pub ReadsOnce : InputAt → InputAt → List ℕ → Result ℕ Failed → Type 0
ReadsOnce old new into (Ok count) =
    (count ≤ length into) × (old.faults ≤ new.faults) × Taken old.left new.left (take count into)
    × (count ≡ 0 → IsAtEnd old.left)
ReadsOnce old new into (Err failed) = Rose old.faults new.faults × (new.left ≡ old.left)

-- what was written has grown by this, where it is told
abbrev pub Appended : Option (List ℕ) → Option (List ℕ) → List ℕ → Type 0
Appended None new more = new ≡ None
Appended (Some xs) new more = new ≡ Some (xs ++ more)

-- One write: it appends the first bytes, as many as it says, and at least one; or it fails, appends
-- nothing, and the count of faults rose.
abbrev pub WritesOnce : OutputAt → OutputAt → List ℕ → Result ℕ Failed → Type 0
WritesOnce old new from (Ok count) =
    (0 < count) × (count ≤ length from) × (old.faults ≤ new.faults)
    × Appended old.written new.written (take count from)
WritesOnce old new from (Err failed) = Rose old.faults new.faults × (new.written ≡ old.written)

-- these bytes are the whole input, or its first ones where it has more than can be taken
pub record IsInput (most : ℕ) (old new : InputAt) (bytes : List ℕ) : Type 0 where
  pub within : length bytes ≤ most
  pub taken : Taken old.left new.left bytes
  pub whole : length bytes < most → IsAtEnd new.left
  pub faults : old.faults ≤ new.faults

-- no more than this was taken of the input
pub record TakesAtMost (most : ℕ) (old new : InputAt) : Type 0 where
  pub got : List ℕ
  pub within : length got ≤ most
  pub taken : Taken old.left new.left got

-- the input wasn't read: a read failed, or there was no memory for it
abbrev pub IsInputFault : ℕ → InputAt → InputAt → InputFault → Type 0
IsInputFault most old new F.Fault = Rose old.faults new.faults × TakesAtMost most old new
IsInputFault most old new F.NoMemory = (old.faults ≤ new.faults) × TakesAtMost most old new

-- all these bytes were written, one after the other
pub record WroteWhole (old new : OutputAt) (bytes : List ℕ) : Type 0 where
  pub whole : Appended old.written new.written bytes
  pub faults : old.faults ≤ new.faults

-- a write failed: the first bytes were written, but not all
pub record WroteLess (old new : OutputAt) (bytes : List ℕ) : Type 0 where
  pub count : ℕ
  pub less : count < length bytes
  pub prefix : Appended old.written new.written (take count bytes)
  pub faults : Rose old.faults new.faults

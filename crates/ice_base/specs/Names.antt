-- Names of branches and tags (Icechunk specification version 1, refs; which bytes a name has: own).
use Rattle.std.specs.Prelude.{ℕ, ◌≡◌, ◌==◌, ◌||◌, ◌<◌, ◌≤◌, nat_lt, List, length}
use Rattle.std.specs.Prelude.{All, Bool, false, if◌then◌else◌, Option, Some, None}
use Rattle.std.specs.Prelude.{option_map, position, codes, bytes_eq}
use Rattle.std.specs.Ordering.{nat_cmp}
use Rattle.std.specs.Cmp.Lexicographic.{slice_cmp}
use Rattle.std.specs.declared.cmp.Ordering.{Ordering}
use Rattle.ice_base.specs.declared.names.NameFault.{NameFault}
use Rattle.ice_base.specs.declared.names.NameFault.TheVariants as F

-- no name has a slash or a control: the bytes below a space, and delete
abbrev pub is_barred : ℕ → Bool
is_barred byte = byte == 47 || nat_lt byte 32 || byte == 127

-- what is wrong with a name of these bytes, the first in the order of the faults
unfoldable pub name_fault : List ℕ → Option NameFault
name_fault bytes =
    if length bytes == 0 then Some F.Empty
    else (if nat_lt 200 (length bytes) then Some (F.Long (length bytes))
    else option_map (λ at. F.Byte at) (position is_barred bytes))

abbrev pub IsRefName : List ℕ → Type 0
IsRefName bytes = name_fault bytes ≡ None

-- the same in plain words: 1 to 200 bytes, none of them barred
pub record IsPlainName (bytes : List ℕ) : Type 0 where
  pub filled : 0 < length bytes
  pub short : length bytes ≤ 200
  pub plain : All (λ byte. is_barred byte ≡ false) bytes

-- a text is refused with the first fault; want of memory may come at any name
abbrev pub RefusesName : List ℕ → NameFault → Type 0
RefusesName bytes F.Empty = name_fault bytes ≡ Some F.Empty
RefusesName bytes (F.Long count) = name_fault bytes ≡ Some (F.Long count)
RefusesName bytes (F.Byte at) = name_fault bytes ≡ Some (F.Byte at)
RefusesName bytes F.NoMemory = IsRefName bytes

-- the branch that each repository has
abbrev pub main_name : List ℕ
main_name = codes "main"

-- names are compared by their bytes
abbrev pub same_name : List ℕ → List ℕ → Bool
same_name a b = bytes_eq a b

abbrev pub name_cmp : List ℕ → List ℕ → Ordering
name_cmp a b = slice_cmp nat_cmp a b

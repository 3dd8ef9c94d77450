-- Paths of nodes, as the bytes of their texts: tests and functions that compute.
-- `Grammar` says the same in words.
use Rattle.std.specs.Prelude.{◌≡◌, ℕ, ◌+◌, Bool, not, ◌&&◌, ◌||◌, ◌==◌, nat_eq}
use Rattle.std.specs.Prelude.{nat_lt, if◌then◌else◌, List, [], ◌∷◌, ◌++◌, length, drop}
use Rattle.std.specs.Prelude.{Option, Some, None, is_none, option_map, Result, Ok, Err, ◌⊎◌, codes}
use Rattle.std.specs.declared.cmp.Ordering.{Ordering}
use Rattle.std.specs.Ordering.{nat_cmp, eq_by_cmp}
use Rattle.std.specs.Cmp.Lexicographic.{slice_cmp}
use Rattle.std.specs.List.{starts_with, list_all, slice_split, flat_map}
use Rattle.zarr_path.specs.declared.paths.PathFault.{PathFault}
use Rattle.zarr_path.specs.declared.paths.PathFault.TheVariants as f

-- own: how many bytes a path may have
abbrev pub most_bytes : ℕ
most_bytes = 1024

-- `/`
abbrev pub root : List ℕ
root = 47 ∷ []

-- whether what stands between two slashes is a name (Zarr v3 core specification, "Node names")
unfoldable pub is_name : List ℕ → Bool
is_name name =
    not (length name == 0) && not (list_all (λ b. b == 46) name)
    && not (starts_with nat_eq name (codes "__"))

-- what stands between the slashes of a text
abbrev pub parts_of : List ℕ → List (List ℕ)
parts_of text = slice_split (λ b. b == 47) text

-- these parts, each behind a slash
abbrev pub joined : List (List ℕ) → List ℕ
joined parts = flat_map (λ part. 47 ∷ part) parts

-- the order of paths by their bytes, and whether it ties two
abbrev pub path_cmp : List ℕ → List ℕ → Ordering
path_cmp = slice_cmp nat_cmp

abbrev pub same_path : List ℕ → List ℕ → Bool
same_path p q = eq_by_cmp path_cmp p q

-- the names of a path stand behind its slashes, and `/` has none (Zarr v3 core
-- specification, "Concepts and terminology")
unfoldable pub names_of : List ℕ → List (List ℕ)
names_of path = if same_path path root then [] else parts_of (drop 1 path)

-- where the first of these names that is none begins, if they stand one behind another from `at` on
abbrev pub first_bad : ℕ → List (List ℕ) → Option ℕ
first_bad at [] = None
first_bad at (name ∷ names) =
    if is_name name then first_bad (at + length name + 1) names else Some at

-- why a text is no path: the first fault in the order `Long`, `Relative`, `Name`
unfoldable pub path_fault : List ℕ → Option PathFault
path_fault text =
    if nat_lt most_bytes (length text) then Some (f.Long (length text)) else
    (if not (starts_with nat_eq text root) then Some f.Relative else
    option_map f.Name (first_bad 1 (names_of text)))

-- whether a text is a path
abbrev pub is_path : List ℕ → Bool
is_path text = is_none (path_fault text)

-- what reading a text as a path answers: itself, or its first fault;
-- want of memory may come instead
abbrev pub ReadsPath : List ℕ → Result (List ℕ) PathFault → Type 0
ReadsPath text (Ok path) = (path ≡ text) × (path_fault text ≡ None)
ReadsPath text (Err fault) = (fault ≡ f.NoMemory) ⊎ (path_fault text ≡ Some fault)

-- what the paths beneath a path begin with
abbrev pub folder : List ℕ → List ℕ
folder path = if same_path path root then root else path ++ 47 ∷ []

-- whether `path` is `of` or beneath it
unfoldable pub is_within : List ℕ → List ℕ → Bool
is_within of path = same_path path of || starts_with nat_eq path (folder of)

-- whether `path` is beneath `of`
abbrev pub is_beneath : List ℕ → List ℕ → Bool
is_beneath of path = is_within of path && not (same_path path of)

-- what stands before the last slash
abbrev pub before_slash_after : ℕ → Option (List ℕ) → Option (List ℕ)
before_slash_after b None = if b == 47 then Some [] else None
before_slash_after b (Some before) = Some (b ∷ before)

abbrev pub before_slash : List ℕ → Option (List ℕ)
before_slash [] = None
before_slash (b ∷ bs) = before_slash_after b (before_slash bs)

-- `/` where nothing stands
abbrev pub or_root : Option (List ℕ) → List ℕ
or_root None = root
or_root (Some []) = root
or_root (Some (b ∷ bs)) = b ∷ bs

-- what stands before a path's last slash, or `/`; so `/` is its own parent here
unfoldable pub parent_of : List ℕ → List ℕ
parent_of path = or_root (before_slash path)

-- the parent of a path: `/` has none
abbrev pub parent : List ℕ → Option (List ℕ)
parent path = if same_path path root then None else Some (parent_of path)

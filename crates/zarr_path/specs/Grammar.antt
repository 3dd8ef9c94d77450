-- The grammar of paths in its own words.
use Rattle.std.specs.Prelude.{◌≡◌, ◌≢◌, ℕ, ◌+◌, ◌<◌, ◌≤◌, true, List, [], ◌∷◌, ◌++◌}
use Rattle.std.specs.Prelude.{length, Some, Result, Ok, Err, ◌↔◌, ◌⊎◌, codes}
use Rattle.std.specs.List.{All, AllByRecursion}
use Rattle.zarr_path.specs.declared.paths.PathFault.{PathFault}
use Rattle.zarr_path.specs.declared.paths.PathFault.TheVariants as f
use Rattle.zarr_path.specs.Paths.{root, joined, is_name, is_path, path_fault, folder, parent_of}

-- what stands between two slashes
abbrev pub IsPart : List ℕ → Type 0
IsPart part = All (λ b. b ≢ 47) part

-- Zarr v3 core specification, "Node names": a name isn't empty, has no slash, isn't made of periods
-- alone, and doesn't begin with `__`
pub record IsName (name : List ℕ) : Type 0 where
  pub not_empty : name ≢ []
  pub no_slash : IsPart name
  pub not_periods : ¬ All (λ b. b ≡ 46) name
  pub not_reserved : (rest : List ℕ) → name ≢ codes "__" ++ rest

-- these are names
abbrev pub AllNames : List (List ℕ) → Type 0
AllNames names = AllByRecursion IsName names

-- the text of these names: `/` of none, else each behind a slash
abbrev pub text_of : List (List ℕ) → List ℕ
text_of [] = root
text_of (name ∷ names) = joined (name ∷ names)

-- the text of a path: that of some names, of at most 1,024 bytes
pub record IsSpelled (text : List ℕ) : Type 0 where
  pub short : length text ≤ 1024
  pub names : List (List ℕ)
  pub named : AllNames names
  pub whole : text ≡ text_of names

-- at this byte of the text, behind names alone, begins a part that is no name
pub record IsFirstBad (text : List ℕ) (at : ℕ) : Type 0 where
  pub names : List (List ℕ)
  pub part : List ℕ
  pub parts : List (List ℕ)
  pub whole : text ≡ joined (names ++ part ∷ parts)
  pub before : AllNames names
  pub bad : IsPart part × (¬ IsName part)
  pub place : at ≡ length (joined names) + 1
  pub not_root : text ≢ root

-- when each fault comes
abbrev pub IsFault : List ℕ → PathFault → Type 0
IsFault text (f.Long bytes) = (1024 < length text) × (bytes ≡ length text)
IsFault text f.Relative = (length text ≤ 1024) × ((rest : List ℕ) → text ≢ 47 ∷ rest)
IsFault text (f.Name at) = (length text ≤ 1024) × IsFirstBad text at
IsFault text f.NoMemory = ⊥

-- `is_path` and `path_fault` say exactly this
abbrev pub GrammarLaw : Type 0
GrammarLaw = (text : List ℕ)
    → ((is_path text ≡ true) ↔ IsSpelled text)
    × ((fault : PathFault) → (path_fault text ≡ Some fault) ↔ IsFault text fault)

-- what reading a text answers, in these words: itself, or its fault;
-- want of memory may come instead
abbrev pub ReadsSpelled : List ℕ → Result (List ℕ) PathFault → Type 0
ReadsSpelled text (Ok path) = (path ≡ text) × IsSpelled text
ReadsSpelled text (Err fault) = (fault ≡ f.NoMemory) ⊎ IsFault text fault

-- Zarr v3 core specification, "Concepts and terminology": a path other than `/` is its parent's, a
-- slash unless that is `/`, and the node's name
pub record IsNamed (path : List ℕ) : Type 0 where
  pub name : List ℕ
  pub valid : is_name name ≡ true
  pub whole : path ≡ folder (parent_of path) ++ name

-- so `parent_of` is the parent of the standard
abbrev pub ParentNameLaw : Type 0
ParentNameLaw = (path : List ℕ) → is_path path ≡ true → path ≢ root → IsNamed path

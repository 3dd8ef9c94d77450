-- What flushes of folders make firm; no public contract cites this.
use Rattle.std.specs.Prelude.{◌++◌, ℕ, List, codes}
use Rattle.folder.specs.Files.{IsFileName, IsIn, HasName}
use Rattle.object_store.specs.declared.keys.Part.{Part}
use Rattle.object_files.specs.Paths.{folder_name}

-- of the folders of these names in a folder, no name is loose any more
pub record FirmsNamed (folder : List ℕ) (names : List (List ℕ))
    (old new : List ℕ → Type 0) : Type 0 where
  pub before : (p : List ℕ) → new p → old p
  pub named : (name last : List ℕ) → HasName names name → IsFileName last
      → new (folder ++ codes "/" ++ name ++ codes "/" ++ last) → ⊥

-- ... of all folders in it
pub record FirmsBeneath (folder : List ℕ) (old new : List ℕ → Type 0) : Type 0 where
  pub before : (p : List ℕ) → new p → old p
  pub beneath : (name last : List ℕ) → IsFileName name → IsFileName last
      → new (folder ++ codes "/" ++ name ++ codes "/" ++ last) → ⊥

-- no name in a part's folder is loose
abbrev pub AreFirmParts : (loose : List ℕ → Type 0) → (root : List ℕ) → Type 0
AreFirmParts loose root =
    (part : Part) (p : List ℕ) → IsIn (root ++ codes "/" ++ folder_name part) p → loose p → ⊥

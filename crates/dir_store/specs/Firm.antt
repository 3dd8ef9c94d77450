-- Names of objects that a loss of power may still take.
use Rattle.std.specs.Prelude.{◌≡◌, ℕ, Bool, true, List}
use Rattle.object_store.specs.declared.keys.Key.{Key}
use Rattle.object_files.specs.Paths.{IsKey, path_in}

-- no object's name is loose
abbrev pub AreFirm : (loose : List ℕ → Type 0) → (root : List ℕ) → Type 0
AreFirm loose root = (key : Key) → IsKey key → loose (path_in root key) → ⊥

-- ... where no folder is to be flushed
abbrev pub AreFirmIf : (settled : Bool) → (loose : List ℕ → Type 0) → (root : List ℕ) → Type 0
AreFirmIf settled loose root = settled ≡ true → AreFirm loose root

-- What holds along a journal, and what was put.
use Rattle.std.specs.Prelude.{◌≡◌, ℕ, ◌+◌, List, [], ◌∷◌, ◌++◌, take, Some}
use Rattle.object_store.specs.declared.keys.Key.{Key}
use Rattle.object_store.specs.declared.events.Event.{Event}
use Rattle.object_store.specs.Machine.{found, first_put}

-- P holds of each event and the journal before it
unfoldable pub Each : (List Event → Event → Type 0) → List Event → List Event → Type 0
Each P old [] = Unit {0}
Each P old (event ∷ events) = P old event × Each P (old ++ event ∷ []) events

-- something was put at the key, removed since or not
abbrev pub WasPut : List Event → Key → Type 0
WasPut journal key = (bytes : List ℕ) × (first_put journal key ≡ Some bytes)

-- the put at this position left these bytes at the key
pub record StoodAt (journal : List Event) (key : Key) (version : ℕ) (bytes : List ℕ) : Type 0 where
  pub created : ℕ
  pub stood : found (take (version + 1) journal) key
      ≡ Some (record { bytes = bytes; version = version; created = created })

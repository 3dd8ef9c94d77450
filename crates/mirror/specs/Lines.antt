-- Snapshots of a chain, of which one after another is taken (own).
use Rattle.std.specs.Prelude.{◌≡◌, List, [], ◌∷◌, Option, Some, None}

-- the first of a list is taken
abbrev pub Takes : {A : Type 0} → List A → Option A → List A → Type 0
Takes old None new = (old ≡ []) × (new ≡ [])
Takes old (Some x) new = old ≡ x ∷ new

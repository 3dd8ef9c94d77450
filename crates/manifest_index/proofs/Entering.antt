-- Entries of a change that are entered one after another, the last one first.
use Rattle.std.proofs.Common.{◌≡◌, ◌++◌, ◌∷◌, [], ℕ, Bool, true, false, List, length, Option, None, Some, option_map, refl, ap, ◌∙◌, arith}
use Rattle.std.specs.Prelude.{◌==◌, ◌&&◌, if◌then◌else◌, find, bytes_eq}
use Rattle.std.specs.Option.{unwrap_or}
use Rattle.manifest_file.specs.declared.manifest.Place.{Place}
use Rattle.manifest_index.specs.Merging.{ChunkChange, changed_at}

-- where the chunk at an index is after these entries
abbrev pub after : (rank : ℕ) (q : List ℕ) → List ChunkChange → (before : Option Place) → Option Place
after rank q change before = if length q == rank then unwrap_or (changed_at q change) before else before

module _ (q : List ℕ) where
  last_said : (xs : List ChunkChange) (last : ChunkChange) (before : Option Place) → unwrap_or (changed_at q xs) (if bytes_eq last.0 q then last.1 else before) ≡ unwrap_or (changed_at q (xs ++ last ∷ [])) before
  last_said [] last before = by_test (bytes_eq last.0 q)
    where
      by_test : (test : Bool) → (if test then last.1 else before) ≡ unwrap_or (option_map (λ (c : ChunkChange). c.1) (if test then Some last else None)) before
      by_test true = refl
      by_test false = refl
  last_said (x ∷ xs) last before = by_test (bytes_eq x.0 q) (last_said xs last before)
    where
      by_test : (test : Bool) → unwrap_or (changed_at q xs) (if bytes_eq last.0 q then last.1 else before) ≡ unwrap_or (changed_at q (xs ++ last ∷ [])) before
          → unwrap_or (option_map (λ (c : ChunkChange). c.1) (if test then Some x else find (λ (c : ChunkChange). bytes_eq c.0 q) xs)) (if bytes_eq last.0 q then last.1 else before)
          ≡ unwrap_or (option_map (λ (c : ChunkChange). c.1) (if test then Some x else find (λ (c : ChunkChange). bytes_eq c.0 q) (xs ++ last ∷ []))) before
      by_test true again = refl
      by_test false again = again

module _ (rank : ℕ) (q : List ℕ) where
  pub last_entered : (xs : List ChunkChange) (last : ChunkChange) (before now : Option Place) → now ≡ (if (length q == rank) && bytes_eq last.0 q then last.1 else before) → after rank q xs now ≡ after rank q (xs ++ last ∷ []) before
  last_entered xs last before now e = by_rank (length q == rank) e
    where
      by_rank : (same : Bool) → now ≡ (if same && bytes_eq last.0 q then last.1 else before)
          → (if same then unwrap_or (changed_at q xs) now else now) ≡ (if same then unwrap_or (changed_at q (xs ++ last ∷ [])) before else before)
      by_rank true e = ap (unwrap_or (changed_at q xs)) e ∙ last_said q xs last before
      by_rank false e = e

  pub none_left : (xs : List ChunkChange) (before : Option Place) → length xs ≡ 0 → after rank q xs before ≡ before
  none_left [] before e = by_rank (length q == rank)
    where
      by_rank : (same : Bool) → (if same then before else before) ≡ before
      by_rank true = refl
      by_rank false = refl
  none_left (x ∷ xs) before e = absurd (omega (arith, e))

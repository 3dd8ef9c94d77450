use Rattle.std.proofs.Common.{◌≡◌, ◌∙◌, ◌⊎◌, ℕ, inl, inr, List, [], ◌∷◌, ◌++◌, append-nil, refl, sym, ap}
use Rattle.std.specs.List.{zip}
use Rattle.std.specs.Slice.Iter.{iter_rest}
use Rattle.std.specs.Iterator.Adapters.{zip_first, zip_second}
use Rattle.std.proofs.lemmas.Slice.Zip.{either_empty_from_Zip}
use Rattle.changed_snapshot.proofs.rows.shape_of.Goals as goal

no_pairs : (xs ys : List ℕ) → (xs ≡ []) ⊎ (ys ≡ []) → zip xs ys ≡ []
no_pairs [] ys none_left = refl
no_pairs (x ∷ xs) [] none_left = refl
no_pairs (x ∷ xs) (y ∷ ys) (inl e) = cc
no_pairs (x ∷ xs) (y ∷ ys) (inr e) = cc

pub returns : goal.returns
returns c =
    let lengths = iter_rest (zip_first c.loop-length.length-iterator) in
    let chunks = iter_rest (zip_second c.loop-length.length-iterator) in
    let none_left : (lengths ≡ []) ⊎ (chunks ≡ []) = either_empty_from_Zip c.loop-length.length-iterator c.next.new.self _ c.in-None.is c.next.ensures.steps in
    c.from_vec.ensures ∙ sym (ap (λ rest. c.loop-length.shape.items ++ rest) (no_pairs lengths chunks none_left) ∙ append-nil c.loop-length.shape.items) ∙ c.loop-length.invariant

-- Rows that are walked one after another.
use Rattle.std.proofs.Common.{◌≡◌, ◌∙◌, ℕ, ◌+◌, ◌<◌, List, [], ◌∷◌, length, zero, suc, drop, Option, Some, None, ap, arith, add-one}
use Rattle.std.specs.Prelude.{slice_get, MatchOption}
use Rattle.std.specs.Borrow.{Bor}
use Rattle.zarr_tree.specs.declared.nodes.Found.{Found}
use Rattle.zarr_tree.specs.Held.{Rows}
use Rattle.zarr_tree.specs.Rows.{row_found}

step : {A : Type 0} (es : List A) (k : ℕ) (x : A) (rest : List A) → drop k es ≡ x ∷ rest → (slice_get es k ≡ Some x) × (drop (suc k) es ≡ rest)
step [] zero x rest h = cc
step [] (suc k) x rest h = cc
step (e ∷ es) zero x rest h = let a : e ≡ x = cc in let b : es ≡ rest = cc in (ap (λ y. Some y) a, b)
step (e ∷ es) (suc k) x rest h = step es k x rest h

more : {A : Type 0} (es : List A) (k : ℕ) → k < length es → drop k es ≡ [] → ⊥
more [] k l h = omega arith
more (e ∷ es) zero l h = cc
more (e ∷ es) (suc k) l h = more es k (omega arith) h

-- what a call of `next` returned, and the rows that it left
abbrev Next : (rows new : Rows) → Option (Bor (List ℕ) × Found) → Type 0
Next rows new result = MatchOption result (rows ≡ []) (λ row. rows ≡ row_found row ∷ new)

pub walked : (es rows new : Rows) (k : ℕ) (result : Option (Bor (List ℕ) × Found)) → k < length es → Next rows new result → drop k es ≡ rows → drop (k + 1) es ≡ new
walked es rows new k None l is h = absurd (more es k l (h ∙ is))
walked es rows new k (Some row) l is h = rw add-one ((step es k (row_found row) new (h ∙ is)).1)

pub before_end : (es rows new : Rows) (k : ℕ) (result : Option (Bor (List ℕ) × Found)) → k < length es → Next rows new result → drop k es ≡ rows → result ≡ None → ⊥
before_end es rows new k None l is h e = more es k l (h ∙ is)
before_end es rows new k (Some row) l is h e = cc

pub its_first : (es rows new : Rows) (k : ℕ) (row : Bor (List ℕ) × Found) (result : Option (Bor (List ℕ) × Found)) → Next rows new result → drop k es ≡ rows → result ≡ Some row → slice_get es k ≡ Some (row_found row)
its_first es rows new k row None is h e = cc
its_first es rows new k row (Some other) is h e = let same : other ≡ row = cc in (step es k (row_found other) new (h ∙ is)).0 ∙ ap (λ (r : Bor (List ℕ) × Found). Some (row_found r)) same

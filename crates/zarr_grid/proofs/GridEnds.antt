-- Lists of dimensions: their ends, and one dimension more.
use Rattle.std.proofs.Common.{◌≡◌, ◌≢◌, ◌∙◌, ◌≤◌, ◌<◌, ◌+◌, ◌*◌, ◌⊎◌, ◌&&◌, ℕ, suc, List, [], ◌∷◌, ◌++◌, true, false, length, drop, get_or, refl, ap, sym, arith, inl, inr, ne_eqb, eq-eqb, add-one, append-nil}
use Rattle.std.specs.Prelude.{All}
use Rattle.std.proofs.Math.Nat.{mul-le-mul_left, mul_assoc}
use Rattle.std.proofs.Math.Seq.{drop-cons}
use Rattle.std.proofs.lemmas.List.Elements.{All-drop}
use Rattle.zarr_meta.specs.Grids.{product, grid_of, are_each_below, is_in_grid}
use Rattle.zarr_meta.proofs.GridLaws.{product_positive}
use Rattle.zarr_grid.specs.Cells.{chunk_of}

pub grid_at_end : (shape chunks : List ℕ) → (length shape ≡ 0) ⊎ (length chunks ≡ 0) → grid_of shape chunks ≡ []
grid_at_end [] chunks h = refl
grid_at_end (n ∷ shape) [] h = refl
grid_at_end (n ∷ shape) (c ∷ chunks) (inl h) = absurd (omega arith)
grid_at_end (n ∷ shape) (c ∷ chunks) (inr h) = absurd (omega arith)

pub below_at_end : (index shape chunks : List ℕ) → ((length index ≡ 0) ⊎ (length shape ≡ 0)) ⊎ (length chunks ≡ 0) → are_each_below index (grid_of shape chunks) ≡ true
below_at_end [] shape chunks h = refl
below_at_end (i ∷ index) [] chunks h = refl
below_at_end (i ∷ index) (n ∷ shape) [] h = refl
below_at_end (i ∷ index) (n ∷ shape) (c ∷ chunks) (inl (inl h)) = absurd (omega arith)
below_at_end (i ∷ index) (n ∷ shape) (c ∷ chunks) (inl (inr h)) = absurd (omega arith)
below_at_end (i ∷ index) (n ∷ shape) (c ∷ chunks) (inr h) = absurd (omega arith)

pub length-grid_of : (shape chunks : List ℕ) → length shape ≡ length chunks → length (grid_of shape chunks) ≡ length shape
length-grid_of [] [] h = refl
length-grid_of [] (c ∷ chunks) h = refl
length-grid_of (n ∷ shape) [] h = absurd (omega arith)
length-grid_of (n ∷ shape) (c ∷ chunks) h = ap suc (length-grid_of shape chunks (omega arith))

-- an index of the right rank is in the grid where each number is below
pub in_grid_of_rank : (index shape chunks : List ℕ) → length shape ≡ length chunks → length index ≡ length shape → is_in_grid shape chunks index ≡ are_each_below index (grid_of shape chunks)
in_grid_of_rank index shape chunks h k =
    ap (λ b. b && are_each_below index (grid_of shape chunks)) (eq-eqb (length index) (length (grid_of shape chunks)) (k ∙ sym (length-grid_of shape chunks h)))

-- and one of another rank isn't
pub in_grid_of_no_rank : (index shape chunks : List ℕ) → length shape ≡ length chunks → length index ≢ length shape → is_in_grid shape chunks index ≡ false
in_grid_of_no_rank index shape chunks h k =
    ap (λ b. b && are_each_below index (grid_of shape chunks)) (ne_eqb (length index) (length (grid_of shape chunks)) (λ e. k (e ∙ length-grid_of shape chunks h)))

pub ruleset in_grid_by_rank = (in_grid_of_rank, in_grid_of_no_rank)

-- ---- products

-- a factor goes over to the product so far
pub product_further : (b c : ℕ) (cs : List ℕ) → b * product (c ∷ cs) ≡ b * c * product cs
product_further b c cs = sym (mul_assoc b c (product cs))

pub product_further_at : (b i : ℕ) (cs : List ℕ) → i < length cs → b * get_or cs i 0 * product (drop (i + 1) cs) ≡ b * product (drop i cs)
product_further_at b i cs h = rw (drop-cons cs i 0, add-one) (sym (product_further b (get_or cs i 0) (drop (suc i) cs)))

-- what is multiplied so far isn't greater than the whole
pub product_so_far : (b c : ℕ) (cs : List ℕ) → All (λ n. 1 ≤ n) cs → b * c ≤ b * product (c ∷ cs)
product_so_far b c cs h =
    let grows : b * c * 1 ≤ b * c * product cs = mul-le-mul_left (b * c) (product_positive cs h) in
    rw (product_further b c cs) (omega arith)

pub product_so_far_at : (b i : ℕ) (cs : List ℕ) → i < length cs → All (λ n. 1 ≤ n) cs → b * get_or cs i 0 ≤ b * product (drop i cs)
product_so_far_at b i cs h all =
    let at_place : drop i cs ≡ get_or cs i 0 ∷ drop (suc i) cs = drop-cons cs i 0 h in
    rw at_place (product_so_far b (get_or cs i 0) (drop (suc i) cs) (All-drop (λ n. 1 ≤ n) (suc i) cs all))

-- ---- what was gathered is whole at the end

pub grid_whole : (counts shape chunks whole : List ℕ) → counts ++ grid_of shape chunks ≡ whole → (length shape ≡ 0) ⊎ (length chunks ≡ 0) → counts ≡ whole
grid_whole counts shape chunks whole e h = sym (append-nil counts) ∙ ap (λ t. counts ++ t) (sym (grid_at_end shape chunks h)) ∙ e

chunk_at_end : (chunks cell : List ℕ) → (length cell ≡ 0) ⊎ (length chunks ≡ 0) → chunk_of chunks cell ≡ []
chunk_at_end chunks [] h = refl
chunk_at_end [] (p ∷ cell) h = refl
chunk_at_end (n ∷ chunks) (p ∷ cell) (inl h) = absurd (omega arith)
chunk_at_end (n ∷ chunks) (p ∷ cell) (inr h) = absurd (omega arith)

pub chunk_whole : (index chunks cell whole : List ℕ) → index ++ chunk_of chunks cell ≡ whole → (length cell ≡ 0) ⊎ (length chunks ≡ 0) → index ≡ whole
chunk_whole index chunks cell whole e h = sym (append-nil index) ∙ ap (λ t. index ++ t) (sym (chunk_at_end chunks cell h)) ∙ e

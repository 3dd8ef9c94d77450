-- A loop that reads rows by their number and keeps none, and what its rows are.
use Rattle.std.proofs.Common.{◌≡◌, ℕ, zero, suc, ◌+◌, ◌<◌, ◌≤◌, List, [], ◌∷◌, ◌++◌, length, Some, Result, Ok, Err, refl, sym, subst, ap, ◌∙◌, arith}
use Rattle.std.specs.Prelude.{IsOk, IsOkAnd, slice_get}
use Rattle.flat_tables.specs.declared.fault.FileFault.{FileFault}
use Rattle.flat_tables.specs.Rows.{rows, each, in_order}
use Rattle.flat_tables.proofs.Loop.{SoFar, ReadsFrom, begins, each_goes_on, each_is, faults, all_read, rows_read, each_were}
use Rattle.file_fields.proofs.WasRead.{rows_count}
use Rattle.held_manifest.specs.Views.{rows_or_none}
use Rattle.held_manifest.proofs.Checked.{row_at, read_ok, count_ok, ok_by}

-- i of the rows were read
pub record Walked {A : Type 0} (f : ℕ → Result A FileFault) (count i : ℕ) : Type 0 where
  pub front : List A
  pub so_far : SoFar (each f) count front i

pub walk_begin : {A : Type 0} (f : ℕ → Result A FileFault) (count : ℕ) → Walked f count 0
walk_begin f count = record { front = []; so_far = begins (each f) count }

pub walk_more : {A : Type 0} (f : ℕ → Result A FileFault) (count i : ℕ) (x : A) → Walked f count i → i < count → f i ≡ Ok x → Walked f count (i + 1)
walk_more f count i x w lt is = record { front = w.front ++ x ∷ []; so_far = each_goes_on f count w.front i x w.so_far lt is }

pub walk_fault : {A : Type 0} (f : ℕ → Result A FileFault) (count i : ℕ) (fault : FileFault) → Walked f count i → i < count → f i ≡ Err fault → rows (each f) [] count ≡ Err fault
walk_fault f count i fault w lt is = faults (each f) count w.front i fault w.so_far lt (each_is f w.front i (Err fault) w.so_far.len is)

pub walk_end : {A : Type 0} (f : ℕ → Result A FileFault) (count i : ℕ) → Walked f count i → count ≤ i → IsOk (rows (each f) [] count)
walk_end f count i w le = ok_by (rows (each f) [] count) w.front (all_read (each f) count w.front i w.so_far le)

-- ---- what a test of a row found

pub found_row : {A : Type 0} (r : Result A FileFault) (P : A → Type 0) → IsOkAnd r P → (row : A) × (r ≡ Ok row) × P row
found_row (Ok row) P is = (row, refl, is)
found_row (Err fault) P is = absurd is

-- ---- row number i

pub record RowHere {A : Type 0} (f : ℕ → Result A FileFault) (count : ℕ) (xs : List A) (i : ℕ) : Type 0 where
  pub below : i < count
  pub row : A
  pub is : f i ≡ Ok row
  pub at : slice_get xs i ≡ Some row

pub walked_count : {A : Type 0} (f : ℕ → Result A FileFault) (count : ℕ) → IsOk (rows (each f) [] count) → length (rows_or_none (rows (each f) [] count)) ≡ count
walked_count f count ok = rows_count (each f) count (rows_or_none (rows (each f) [] count)) (read_ok (rows (each f) [] count) ok)

from : {A : Type 0} (f : ℕ → Result A FileFault) (n : ℕ) (xs : List A) (k i : ℕ) → ReadsFrom f n xs → k < length xs → n + k ≡ i → (row : A) × (f i ≡ Ok row) × (slice_get xs k ≡ Some row)
from f n [] k i reads lt is = absurd (omega arith)
from f n (x ∷ xs) zero i reads lt is = let e : i ≡ n = omega (arith, is) in (x, ap f e ∙ reads.0, refl)
from f n (x ∷ xs) (suc k) i reads lt is = from f (n + 1) xs k i reads.1 (omega arith) (omega (arith, is))

pub walked_here : {A : Type 0} (f : ℕ → Result A FileFault) (count i : ℕ) → IsOk (rows (each f) [] count) → i < length (rows_or_none (rows (each f) [] count)) → RowHere f count (rows_or_none (rows (each f) [] count)) i
walked_here {A = A} f count i ok lt =
    let xs = rows_or_none (rows (each f) [] count) in
    let r = rows_read (each f) [] count xs (read_ok (rows (each f) [] count) ok) in
    let len = walked_count f count ok in
    let within : i < length r.more = subst (λ (ys : List A). i < length ys) r.all_is lt in
    let found = from f 0 r.more i i (each_were f [] r.more 0 refl r.reads) within (omega arith) in
    record { below = omega (arith, len, lt); row = found.0; is = found.1; at = ap (λ (ys : List A). slice_get ys i) r.all_is ∙ found.2 }

-- row number i of those that stand in order
pub ordered_here : {A : Type 0} (key : A → List ℕ) (slot : ℕ) (f : ℕ → Result A FileFault) (count i : ℕ) → IsOk (rows (in_order key slot (each f)) [] count) → i < length (rows_or_none (rows (in_order key slot (each f)) [] count)) → RowHere f count (rows_or_none (rows (in_order key slot (each f)) [] count)) i
ordered_here key slot f count i ok lt =
    let xs = rows_or_none (rows (in_order key slot (each f)) [] count) in
    let r = row_at key slot (each f) count xs i (read_ok (rows (in_order key slot (each f)) [] count) ok) lt in
    let len = count_ok key slot (each f) count ok in
    record { below = omega (arith, len, lt); row = r.row; is = ap f (sym r.len) ∙ r.is; at = r.at }

-- A loop that reads rows in order and keeps the last key alone, and what its rows are.
use Rattle.std.proofs.Common.{◌≡◌, ℕ, zero, suc, ◌+◌, ◌<◌, ◌≤◌, Bool, true, false, List, [], ◌∷◌, ◌++◌, length, Option, None, Some, Result, Ok, Err, refl, sym, subst, ap, ◌∙◌, arith}
use Rattle.std.specs.Prelude.{IsOk, IsSome, slice_get, option_map}
use Rattle.std.proofs.lemmas.List.{length_push}
use Rattle.flat_tables.specs.declared.fault.FileFault.{FileFault}
use Rattle.flat_tables.specs.declared.fault.FileFault.TheVariants.{Order}
use Rattle.flat_tables.specs.Step.{Gives}
use Rattle.flat_tables.specs.Rows.{follows, last_key, in_order, rows, Ascends}
use Rattle.flat_tables.proofs.Loop.{SoFar, ReadsAll, begins, goes_on, faults, in_order_ok, in_order_err, not_in_order, all_read, pushed, rows_read, were_read}
use Rattle.file_fields.proofs.WasRead.{rows_ascend, rows_count}
use Rattle.held_manifest.specs.Views.{rows_or_none}

-- front was read of count rows, which are i, and last is the key of its last one
pub record Checked {A : Type 0} (key : A → List ℕ) (slot : ℕ) (read : List A → Result A FileFault) (count : ℕ) (last : Option (List ℕ)) (i : ℕ) : Type 0 where
  pub front : List A
  pub so_far : SoFar (in_order key slot read) count front i
  pub last_is : last_key key front ≡ last

pub checks_begin : {A : Type 0} (key : A → List ℕ) (slot : ℕ) (read : List A → Result A FileFault) (count : ℕ) → Checked key slot read count None 0
checks_begin key slot read count = record { front = []; so_far = begins (in_order key slot read) count; last_is = refl }

pub checks_more : {A : Type 0} (key : A → List ℕ) (slot : ℕ) (read : List A → Result A FileFault) (count : ℕ) (last : Option (List ℕ)) (i : ℕ) (x : A) (c : Checked key slot read count last i) → i < count → read c.front ≡ Ok x → follows last (key x) ≡ true → Checked key slot read count (Some (key x)) (i + 1)
checks_more key slot read count last i x c lt is after = record {
  front = c.front ++ x ∷ [];
  so_far = goes_on (in_order key slot read) count c.front i x c.so_far lt (in_order_ok key slot read c.front x is (ap (λ b. follows b (key x)) c.last_is ∙ after));
  last_is = pushed key c.front x;
}

pub checks_fault : {A : Type 0} (key : A → List ℕ) (slot : ℕ) (read : List A → Result A FileFault) (count : ℕ) (last : Option (List ℕ)) (i : ℕ) (fault : FileFault) (c : Checked key slot read count last i) → i < count → read c.front ≡ Err fault → rows (in_order key slot read) [] count ≡ Err fault
checks_fault key slot read count last i fault c lt is = faults (in_order key slot read) count c.front i fault c.so_far lt (in_order_err key slot read c.front fault is)

pub checks_disorder : {A : Type 0} (key : A → List ℕ) (slot : ℕ) (read : List A → Result A FileFault) (count : ℕ) (last : Option (List ℕ)) (i : ℕ) (x : A) (c : Checked key slot read count last i) → i < count → read c.front ≡ Ok x → follows last (key x) ≡ false → rows (in_order key slot read) [] count ≡ Err (Order slot i)
checks_disorder key slot read count last i x c lt is after =
    let e : in_order key slot read c.front ≡ Err (Order slot i) = not_in_order key slot read c.front x is (ap (λ b. follows b (key x)) c.last_is ∙ after) ∙ ap (λ n. Err (Order slot n)) c.so_far.len in
    faults (in_order key slot read) count c.front i (Order slot i) c.so_far lt e

ok_of : {A : Type 0} (r : Result A FileFault) (x : A) → r ≡ Ok x → IsOk r
ok_of r x e = rw e refl

pub checks_end : {A : Type 0} (key : A → List ℕ) (slot : ℕ) (read : List A → Result A FileFault) (count : ℕ) (last : Option (List ℕ)) (i : ℕ) (c : Checked key slot read count last i) → count ≤ i → IsOk (rows (in_order key slot read) [] count)
checks_end key slot read count last i c le = ok_of _ c.front (all_read (in_order key slot read) count c.front i c.so_far le)

-- ---- rows that were read

pub read_ok : {A : Type 0} (r : Result (List A) FileFault) → IsOk r → r ≡ Ok (rows_or_none r)
read_ok (Ok xs) ok = refl
read_ok (Err fault) ok = absurd cc

pub count_ok : {A : Type 0} (key : A → List ℕ) (slot : ℕ) (read : List A → Result A FileFault) (count : ℕ) → IsOk (rows (in_order key slot read) [] count) → length (rows_or_none (rows (in_order key slot read) [] count)) ≡ count
count_ok key slot read count ok = rows_count (in_order key slot read) count _ (read_ok _ ok)

pub ascends_ok : {A : Type 0} (key : A → List ℕ) (slot : ℕ) (read : List A → Result A FileFault) (count : ℕ) → IsOk (rows (in_order key slot read) [] count) → Ascends key None (rows_or_none (rows (in_order key slot read) [] count))
ascends_ok key slot read count ok = rows_ascend key slot read count _ (read_ok _ ok)

-- row number i, which was read behind those before it
pub record RowAt {A : Type 0} (read : List A → Result A FileFault) (rows : List A) (i : ℕ) : Type 0 where
  pub before : List A
  pub len : length before ≡ i
  pub row : A
  pub is : read before ≡ Ok row
  pub at : slice_get rows i ≡ Some row

row_from : {A : Type 0} (read : List A → Result A FileFault) (front xs : List A) (k n : ℕ) → k < length xs → length front + k ≡ n → ReadsAll read front xs → (before : List A) × (length before ≡ n) × (row : A) × (read before ≡ Ok row) × (slice_get xs k ≡ Some row)
row_from read front [] k n lt len reads = absurd (omega arith)
row_from read front (x ∷ xs) zero n lt len reads = (front, omega arith, x, reads.0, refl)
row_from read front (x ∷ xs) (suc k) n lt len reads = row_from read (front ++ x ∷ []) xs k n (omega arith) (omega (arith, length_push front x)) reads.1

pub row_at : {A : Type 0} (key : A → List ℕ) (slot : ℕ) (read : List A → Result A FileFault) (count : ℕ) (xs : List A) (i : ℕ) → rows (in_order key slot read) [] count ≡ Ok xs → i < length xs → RowAt read xs i
row_at {A = A} key slot read count xs i e lt =
    let r = rows_read (in_order key slot read) [] count xs e in
    let within : i < length r.more = subst (λ (ys : List A). i < length ys) r.all_is lt in
    let found = row_from read [] r.more i i within (omega arith) (were_read key slot read [] r.more r.reads) in
    record { before = found.0; len = found.1; row = found.2; is = found.3; at = ap (λ (ys : List A). slice_get ys i) r.all_is ∙ found.4 }

-- ---- what results that are Ok say

pub ok_by : {A E : Type 0} (r : Result A E) (x : A) → r ≡ Ok x → IsOk r
ok_by r x e = rw e refl

pub some_by : {A : Type 0} (r : Option A) (x : A) → r ≡ Some x → IsSome r
some_by r x e = rw e refl

pub ok_same : {A E : Type 0} (x y : A) → (let r : Result A E = Ok x in r) ≡ Ok y → x ≡ y
ok_same x y e = cc

pub gives_ok : {X Y E : Type 0} (view : X → Y) (r : Result X E) (read : Result Y E) (y : Y) → Gives view r read → read ≡ Ok y → IsOk r
gives_ok view (Ok x) read y gives is = refl
gives_ok view (Err e) read y gives is = absurd cc

-- a test against the last key
pub tested : {A : Type 0} (key : A → List ℕ) (last o : Option A) (b : Bool) (y : List ℕ) → o ≡ last → b ≡ follows (option_map key o) y → follows (option_map key last) y ≡ b
tested key last o b y is test = rw (← is) (sym test)

pub gives_same : {X Y E : Type 0} (view : X → Y) (r : Result X E) (read : Result Y E) (x : X) (y : Y) → Gives view r read → r ≡ Ok x → read ≡ Ok y → view x ≡ y
gives_same view r read x y gives is found = ok_same (view x) y (sym (subst (λ q. Gives view q read) is gives) ∙ found)

pub some_same : {A : Type 0} (x y : A) → (let o : Option A = Some x in o) ≡ Some y → x ≡ y
some_same x y e = cc

-- the part of the loop's fact that one more row leaves
pub more_read : {A : Type 0} (key : A → List ℕ) (slot : ℕ) (read : List A → Result A FileFault) (count : ℕ) (last : Option (List ℕ)) (i : ℕ) (x : A) (c : Checked key slot read count last i) → i < count → read c.front ≡ Ok x → follows last (key x) ≡ true → SoFar (in_order key slot read) count (c.front ++ x ∷ []) (i + 1)
more_read key slot read count last i x c lt is after = goes_on (in_order key slot read) count c.front i x c.so_far lt (in_order_ok key slot read c.front x is (ap (λ b. follows b (key x)) c.last_is ∙ after))

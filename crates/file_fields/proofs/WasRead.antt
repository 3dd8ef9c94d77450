-- What was read: rows in order ascend, and each has what its reading gives; a file's payload was read.
use Rattle.std.proofs.Common.{◌≡◌, ℕ, zero, suc, ◌+◌, ◌<◌, ◌≤◌, Bool, true, false, cond, List, [], ◌∷◌, length, map, drop, None, Some, Option, Result, Ok, Err, refl, sym, subst, ap, ◌∙◌, arith}
use Rattle.std.specs.List.{AllByRecursion}
use borrow.Author.Tests.{ltb-false}
use Rattle.flat_tables.specs.declared.header.Kind.{Kind}
use Rattle.flat_tables.specs.declared.header.HeaderFault.{HeaderFault}
use Rattle.flat_tables.specs.declared.fault.FlatFault.{FlatFault}
use Rattle.flat_tables.specs.declared.fault.FileFault.{FileFault}
use Rattle.flat_tables.specs.declared.fault.FileFault.TheVariants as faults
use Rattle.flat_tables.specs.Header.{kind_of}
use Rattle.flat_tables.specs.Places.{VectorIn, items_from}
use Rattle.flat_tables.specs.Rows.{optional_rows, at_most, rows, each, in_order, Ascends}
use Rattle.flat_tables.specs.File.{of_kind, file_of}
use Rattle.flat_tables.proofs.Loop.{ReadsFrom, rows_read, were_read, were_ordered, each_were}
use Rattle.file_fields.proofs.Bytes.{AreBytes}
use Rattle.file_fields.proofs.Places.{item_bytes}

-- what a result that is Ok was made of
pub value_is : {A : Type 0} (x y : A) → (let r : Result A FileFault = Ok x in r) ≡ Ok y → x ≡ y
value_is x y e = cc

-- ---- rows

pub rows_ascend : {A : Type 0} (key : A → List ℕ) (slot : ℕ) (read : List A → Result A FileFault) (n : ℕ) (xs : List A) → rows (in_order key slot read) [] n ≡ Ok xs → Ascends key None xs
rows_ascend {A = A} key slot read n xs e =
    let r = rows_read (in_order key slot read) [] n xs e in
    subst (λ (ys : List A). Ascends key None ys) (sym r.all_is) (were_ordered key slot read [] r.more None refl r.reads)

pub rows_count : {A : Type 0} (read : List A → Result A FileFault) (n : ℕ) (xs : List A) → rows read [] n ≡ Ok xs → length xs ≡ n
rows_count read n xs e =
    let r = rows_read read [] n xs e in
    ap length r.all_is ∙ r.len

each_below : {A : Type 0} (P : A → Type 0) (f : ℕ → Result A FileFault) (n : ℕ) → ((i : ℕ) (x : A) → i < n → f i ≡ Ok x → P x) → (xs : List A) (i : ℕ) → i + length xs ≤ n → ReadsFrom f i xs → AllByRecursion P xs
each_below P f n has [] i le reads = tt
each_below P f n has (x ∷ xs) i le reads = (has i x (omega arith) reads.0, each_below P f n has xs (i + 1) (omega arith) reads.1)

-- rows have what the reading of each gives at its number
pub rows_below : {A : Type 0} (P : A → Type 0) (f : ℕ → Result A FileFault) (n : ℕ) (xs : List A) → ((i : ℕ) (x : A) → i < n → f i ≡ Ok x → P x) → rows (each f) [] n ≡ Ok xs → AllByRecursion P xs
rows_below {A = A} P f n xs has e =
    let r = rows_read (each f) [] n xs e in
    subst (λ (ys : List A). AllByRecursion P ys) (sym r.all_is) (each_below P f n has r.more 0 (omega (arith, r.len)) (each_were f [] r.more 0 refl r.reads))

pub ordered_below : {A : Type 0} (P : A → Type 0) (key : A → List ℕ) (slot : ℕ) (f : ℕ → Result A FileFault) (n : ℕ) (xs : List A) → ((i : ℕ) (x : A) → i < n → f i ≡ Ok x → P x) → rows (in_order key slot (each f)) [] n ≡ Ok xs → AllByRecursion P xs
ordered_below {A = A} P key slot f n xs has e =
    let r = rows_read (in_order key slot (each f)) [] n xs e in
    subst (λ (ys : List A). AllByRecursion P ys) (sym r.all_is) (each_below P f n has r.more 0 (omega (arith, r.len)) (each_were f [] r.more 0 refl (were_read key slot (each f) [] r.more r.reads)))

-- what holds of each, whatever its number
pub rows_have : {A : Type 0} (P : A → Type 0) (key : A → List ℕ) (slot : ℕ) (f : ℕ → Result A FileFault) (n : ℕ) (xs : List A) → ((i : ℕ) (x : A) → f i ≡ Ok x → P x) → rows (in_order key slot (each f)) [] n ≡ Ok xs → AllByRecursion P xs
rows_have P key slot f n xs has e = ordered_below P key slot f n xs (λ i x lt. has i x) e

-- rows of a vector that may be absent, and that was found
pub optional_found : {A : Type 0} (P : List A → Type 0) (v : Result (Option VectorIn) FlatFault) (read : VectorIn → Result (List A) FileFault) (xs : List A) → P [] → ((w : VectorIn) → v ≡ Ok (Some w) → read w ≡ Ok xs → P xs) → optional_rows v read ≡ Ok xs → P xs
optional_found P (Ok None) read xs none has e = subst P (value_is [] xs e) none
optional_found P (Ok (Some w)) read xs none has e = has w refl e
optional_found P (Err fault) read xs none has e = absurd cc

-- and one that may have been any
pub optional_has : {A : Type 0} (P : List A → Type 0) (v : Result (Option VectorIn) FlatFault) (read : VectorIn → Result (List A) FileFault) (xs : List A) → P [] → ((w : VectorIn) → read w ≡ Ok xs → P xs) → optional_rows v read ≡ Ok xs → P xs
optional_has P v read xs none has e = optional_found P v read xs none (λ w found. has w) e

-- what is made of the elements of a vector
pub items_give : {A : Type 0} (P : A → Type 0) (make : List ℕ → A) (v : VectorIn) → AreBytes v.bytes → ((bytes : List ℕ) → AreBytes bytes → P (make bytes)) → (i n : ℕ) → AllByRecursion P (map make (items_from v i n))
items_give P make v are has i zero = tt
items_give P make v are has i (suc n) = (has _ (item_bytes v i are), items_give P make v are has (i + 1) n)

-- a count that was read is within its limit
limit_cases : (b : Bool) (limit n m : ℕ) → (b ≡ false → n ≤ limit) → cond b (Err faults.Limit) (Ok n) ≡ Ok m → n ≤ limit
limit_cases true limit n m within e = absurd cc
limit_cases false limit n m within e = within refl

pub within_limit : (limit n m : ℕ) → at_most limit n ≡ Ok m → n ≤ limit
within_limit limit n m e = limit_cases _ limit n m (ltb-false limit n) e

-- ---- a file

else_ok : {A : Type 0} (b : Bool) (r : Result A FileFault) (d : FileFault) (x : A) → cond b (Err d) r ≡ Ok x → r ≡ Ok x
else_ok true r d x e = absurd cc
else_ok false r d x e = e

then_ok : {A : Type 0} (b : Bool) (r : Result A FileFault) (d : FileFault) (x : A) → cond b r (Err d) ≡ Ok x → r ≡ Ok x
then_ok true r d x e = e
then_ok false r d x e = absurd cc

kind_ok : {A : Type 0} (wanted : Kind) (found : Result Kind HeaderFault) (r : Result A FileFault) (x : A) → of_kind wanted found r ≡ Ok x → r ≡ Ok x
kind_ok wanted (Err fault) r x e = absurd cc
kind_ok wanted (Ok found) r x e = then_ok _ r (faults.Kind found) x e

-- a file that stands for a value has a payload that says it
pub payload_was : {A : Type 0} (kind : Kind) (read : List ℕ → Result A FileFault) (file : List ℕ) (x : A) → file_of kind read file ≡ Ok x → read (drop 39 file) ≡ Ok x
unfolding file_of
payload_was kind read file x e = kind_ok kind (kind_of file) (read (drop 39 file)) x (else_ok _ (of_kind kind (kind_of file) (read (drop 39 file))) faults.Limit x e)

-- What is read of a file never tells want of memory.
use Rattle.std.proofs.Common.{◌≡◌, ◌≢◌, ℕ, zero, suc, Bool, true, false, cond, List, [], ◌∷◌, ◌++◌, length, Option, None, Some, Result, Ok, Err}
use Rattle.std.specs.Prelude.{nat_lt}
use Rattle.flat_tables.specs.declared.header.Kind.{Kind}
use Rattle.flat_tables.specs.declared.header.HeaderFault.{HeaderFault}
use Rattle.flat_tables.specs.declared.fault.FlatFault.{FlatFault}
use Rattle.flat_tables.specs.declared.fault.FileFault.{FileFault}
use Rattle.flat_tables.specs.declared.fault.FileFault.TheVariants.{NoMemory, Limit, Order}
use Rattle.flat_tables.specs.declared.fault.FileFault.TheVariants as faults
use Rattle.flat_tables.specs.Header.{kind_of}
use Rattle.flat_tables.specs.Step.{◌>>=◌, on_some}
use Rattle.flat_tables.specs.Places.{TableIn, VectorIn, struct_of, vector_of}
use Rattle.flat_tables.specs.Rows.{flat, required, optional, optional_rows, at_most, rows, in_order, follows, last_key}
use Rattle.flat_tables.specs.File.{of_kind, file_of}
use Rattle.file_fields.specs.Fields.{id8_of, id12_of, index_of}

-- a fault, if there is one, that isn't want of memory
abbrev pub Told : {A : Type 0} → Result A FileFault → Type 0
Told (Ok x) = Unit {0}
Told (Err fault) = fault ≢ NoMemory

pub bind_told : {A B : Type 0} (r : Result A FileFault) (f : A → Result B FileFault) → Told r → ((x : A) → Told (f x)) → Told (r >>= f)
bind_told (Ok x) f told more = more x
bind_told (Err fault) f told more = told

pub cond_told : {A : Type 0} (b : Bool) (r s : Result A FileFault) → Told r → Told s → Told (cond b r s)
cond_told true r s one other = one
cond_told false r s one other = other

pub flat_told : {A : Type 0} (r : Result A FlatFault) → Told (flat r)
flat_told (Ok x) = tt
flat_told (Err fault) = λ e. cc

pub required_told : {A : Type 0} (slot : ℕ) (r : Result (Option A) FlatFault) → Told (required slot r)
required_told slot (Ok None) = λ e. cc
required_told slot (Ok (Some x)) = tt
required_told slot (Err fault) = λ e. cc

pub optional_told : {A : Type 0} (x : A) (r : Result (Option A) FlatFault) → Told (optional x r)
optional_told x (Ok None) = tt
optional_told x (Ok (Some y)) = tt
optional_told x (Err fault) = λ e. cc

pub optional_rows_told : {A : Type 0} (r : Result (Option VectorIn) FlatFault) (read : VectorIn → Result (List A) FileFault) → ((v : VectorIn) → Told (read v)) → Told (optional_rows r read)
optional_rows_told (Ok None) read told = tt
optional_rows_told (Ok (Some v)) read told = told v
optional_rows_told (Err fault) read told = λ e. cc

pub on_some_told : {A B : Type 0} (o : Option A) (f : A → Result B FileFault) → ((x : A) → Told (f x)) → Told (on_some o f)
on_some_told None f told = tt
on_some_told (Some x) f told = bind_told (f x) _ (told x) (λ y. tt)

pub at_most_told : (limit n : ℕ) → Told (at_most limit n)
at_most_told limit n = cond_told (nat_lt limit n) (Err Limit) (Ok n) (λ e. cc) tt

pub in_order_told : {A : Type 0} (key : A → List ℕ) (slot : ℕ) (read : List A → Result A FileFault) (before : List A) → Told (read before) → Told (in_order key slot read before)
in_order_told key slot read before told =
    bind_told (read before) _ told (λ x. cond_told (follows (last_key key before) (key x)) (Ok x) (Err (Order slot (length before))) tt (λ e. cc))

pub rows_told : {A : Type 0} (read : List A → Result A FileFault) (before : List A) (n : ℕ) → ((xs : List A) → Told (read xs)) → Told (rows read before n)
unfolding rows
rows_told read before zero told = tt
rows_told read before (suc n) told = bind_told (read before) (λ x. rows read (before ++ x ∷ []) n) (told before) (λ x. rows_told read (before ++ x ∷ []) n told)

-- ---- fields

pub id8_told : (t : TableIn) (slot : ℕ) → Told (id8_of t slot)
unfolding id8_of
id8_told t slot = bind_told (required slot (struct_of t slot 8)) _ (required_told slot (struct_of t slot 8)) (λ x. tt)

pub id12_told : (t : TableIn) (slot : ℕ) → Told (id12_of t slot)
unfolding id12_of
id12_told t slot = bind_told (required slot (struct_of t slot 12)) _ (required_told slot (struct_of t slot 12)) (λ x. tt)

pub index_told : (t : TableIn) (slot : ℕ) → Told (index_of t slot)
unfolding index_of
index_told t slot = bind_told (required slot (vector_of t slot 4)) _ (required_told slot (vector_of t slot 4)) (λ x. tt)

-- ---- files

pub of_kind_told : {A : Type 0} (wanted : Kind) (found : Result Kind HeaderFault) (r : Result A FileFault) → Told r → Told (of_kind wanted found r)
of_kind_told wanted (Err fault) r told = λ e. cc
of_kind_told wanted (Ok found) r told = cond_told _ r (Err (faults.Kind found)) told (λ e. cc)

pub file_told : {A : Type 0} (kind : Kind) (read : List ℕ → Result A FileFault) (file : List ℕ) → ((payload : List ℕ) → Told (read payload)) → Told (file_of kind read file)
unfolding file_of
file_told kind read file told = cond_told _ (Err Limit) _ (λ e. cc) (of_kind_told kind (kind_of file) _ (told _))

pub told_fault : {A : Type 0} (r : Result A FileFault) (fault : FileFault) → Told r → r ≡ Err fault → fault ≢ NoMemory
told_fault (Ok x) fault told is = absurd cc
told_fault (Err other) fault told is = λ e. told cc

-- Where the parts of a tree end.
use Rattle.std.proofs.Common.{◌≡◌, ℕ, ◌+◌, ◌-◌, ◌*◌, ◌&&◌, ◌≤◌, ◌<◌, ◌^◌, max, inl, inr, Bool, true, false, cond, leb, List, [], ◌∷◌, ◌++◌, length, get_or, drop, take, map, refl, sym, ap, subst, ◌∙◌, arith, All, append_assoc}
use Rattle.std.specs.Prelude.{IsTrue, Vec, String}
use Rattle.std.specs.Global.{Global}
use Rattle.std.specs.List.{AllByRecursion}
use Rattle.std.specs.Int.{w16, w32, w64, to_le_bytes}
use Rattle.std.specs.String.{string_bytes}
use Rattle.std.proofs.lemmas.Bool.{leb-true, cases_lt}
use Rattle.std.proofs.lemmas.List.{length-append, length-replicate, length-map, drop_more}
use Rattle.std.proofs.lemmas.List.Elements.{All-from_recursion}
use Rattle.flat_tables.specs.declared.flat.Slot.{Slot, Scalar, Text, Structs, Table, Tables}
use Rattle.flat_tables.specs.declared.flat.Slot.TheOpen as open_slot
use Rattle.flat_tables.specs.declared.flat.Slot.TheOpen.{Slot-F}
use Rattle.flat_tables.specs.declared.flat.Slot.TheFolds.{fold_out-Slot}
use Rattle.flat_tables.specs.declared.flat.Flat.{Flat}
use Rattle.flat_tables.specs.Layout.{Part, Block, gap_to, zeros, fields, fields_end, entries, all_beneath, blocks, offsets, table_place, table_block, tables_block, text_block, vector_block, table_head, tables_head, payload}
use Rattle.flat_tables.specs.Trees.{part_step, table_step, layout, part_of, all_true, is_writable, is_writable_slot, capped}
use Rattle.flat_tables.proofs.Tables.{IsSized, length_fields, length_entries, fields_end_ge, table_bytes}
use Rattle.flat_tables.proofs.Vectors.{length_offsets, tables_bytes}
use Rattle.flat_tables.proofs.Folds.{layout_is, part_scalar, part_text, part_structs, part_table, part_tables, is_writable_is, writable_tables_is}

first_true : (a b : Bool) → (a && b) ≡ true → a ≡ true
first_true true b h = refl
first_true false b h = h

second_true : (a b : Bool) → (a && b) ≡ true → b ≡ true
second_true true b h = h
second_true false b h = absurd cc

each_true : {X : Type 0} (test : X → Bool) (xs : List X) → all_true (map test xs) ≡ true → AllByRecursion (λ x. IsTrue (test x)) xs
each_true test [] h = tt
each_true test (x ∷ xs) h = (first_true (test x) _ h, each_true test xs (second_true (test x) _ h))

pub slots_writable : (f : Flat) → IsTrue (is_writable f) → All (λ s. IsTrue (is_writable_slot s)) f.slots.items
slots_writable f h = All-from_recursion (λ s. IsTrue (is_writable_slot s)) f.slots.items (each_true is_writable_slot f.slots.items (second_true (leb (length (map is_writable_slot f.slots.items)) 64) _ (sym (is_writable_is f) ∙ h)))

pub slots_few : (f : Flat) → IsTrue (is_writable f) → length f.slots.items ≤ 64
slots_few f h = let e : leb (length (map is_writable_slot f.slots.items)) 64 ≡ true = first_true _ _ (sym (is_writable_is f) ∙ h) in omega (arith, leb-true _ _ e, length-map f.slots.items is_writable_slot)

pub each_table_writable : (fs : Vec Flat Global) → IsTrue (is_writable_slot (Tables fs)) → All (λ f. IsTrue (is_writable f)) fs.items
each_table_writable fs h = All-from_recursion (λ f. IsTrue (is_writable f)) fs.items (each_true is_writable fs.items (sym (writable_tables_is fs) ∙ h))

-- each field has its size
step_sized : (x : Slot-F Part Block) → IsSized (part_step x)
step_sized open_slot.Absent = record { size = λ a e. refl }
step_sized (open_slot.Scalar size value) = record { size = λ a e. refl }
step_sized (open_slot.Text text) = record { size = λ a e. refl }
step_sized (open_slot.Struct align bytes) = record { size = λ a e. refl }
step_sized (open_slot.Structs align size bytes) = record { size = λ a e. refl }
step_sized (open_slot.Table block) = record { size = λ a e. refl }
step_sized (open_slot.Tables blocks) = record { size = λ a e. refl }

pub part_sized : (s : Slot) → IsSized (part_of s)
part_sized s = subst (λ (p : Part). IsSized p) (sym (fold_out-Slot Part Block part_step table_step s)) (step_sized _)

pub parts_sized : (ss : List Slot) → AllByRecursion IsSized (map part_of ss)
parts_sized [] = tt
parts_sized (s ∷ ss) = (part_sized s, parts_sized ss)

-- ---- tables

pub table_length : (ps : List Part) (e : ℕ) → AllByRecursion IsSized ps → e + length ((table_block ps).bytes e) ≡ table_place (length ps) e + fields_end ps 4 + length (all_beneath ps (table_place (length ps) e + fields_end ps 4))
unfolding table_block
table_length ps e sized =
    let n = length ps in
    let m = fields_end ps 4 in
    let g = gap_to 8 (e + (4 + 2 * n)) in
    let t = table_place n e in
    let es = entries ps 4 in
    let fs = fields ps 4 t (t + m) in
    let bs = all_beneath ps (t + m) in
    let tail = to_le_bytes w32 (4 + 2 * n) ++ (fs ++ bs) in
    rw (table_bytes ps e) (omega (arith, length-append (zeros g) (to_le_bytes w16 (4 + 2 * n) ++ (to_le_bytes w16 m ++ (es ++ tail))), length-replicate {A = ℕ} g 0, length-append es tail, length_entries ps 4, length-append fs bs, length_fields ps t sized 4 (t + m)))

-- the table of a tree ends where its fields and all beneath them end
pub flat_length : (f : Flat) (e : ℕ) → e + length ((layout f).bytes e) ≡ table_place (length f.slots.items) e + fields_end (map part_of f.slots.items) 4 + length (all_beneath (map part_of f.slots.items) (table_place (length f.slots.items) e + fields_end (map part_of f.slots.items) 4))
flat_length f e = rw (layout_is f, ← length-map f.slots.items part_of) (table_length (map part_of f.slots.items) e (parts_sized f.slots.items))

pub tables_length : (bs : List Block) (e : ℕ) → e + length ((tables_block bs).bytes e) ≡ e + gap_to 4 (e + 4) + 4 + 4 * length bs + length (blocks bs (e + gap_to 4 (e + 4) + 4 + 4 * length bs))
unfolding tables_block
tables_length bs e =
    let g = gap_to 4 (e + 4) in
    let q = e + g in
    let os = offsets bs (q + 4) (q + 4 + 4 * length bs) in
    let xs = blocks bs (q + 4 + 4 * length bs) in
    rw (tables_bytes bs e) (omega (arith, length-append (zeros g) (to_le_bytes w32 (length bs) ++ (os ++ xs)), length-replicate {A = ℕ} g 0, length-append os xs, length_offsets bs (q + 4) (q + 4 + 4 * length bs)))

pub vector_length : (align n : ℕ) (items : List ℕ) (e : ℕ) → e + length ((vector_block align n items).bytes e) ≡ e + gap_to (max 4 align) (e + 4) + 4 + length items
unfolding vector_block
vector_length align n items e =
    let g = gap_to (max 4 align) (e + 4) in
    omega (arith, length-append (zeros g) (to_le_bytes w32 n ++ items), length-replicate {A = ℕ} g 0, length-append (to_le_bytes w32 n) items)

-- what is beneath a field that is a vector, and that is a vector of tables
pub structs_beneath : (s : Slot) (align size : ℕ) (bytes : Vec ℕ Global) (e : ℕ) → s ≡ Structs align size bytes → e + length ((part_of s).beneath e) ≡ e + gap_to (max 4 align) (e + 4) + 4 + length bytes.items
structs_beneath s align size bytes e is = ap (λ s. e + length ((part_of s).beneath e)) is ∙ ap (λ (p : Part). e + length (p.beneath e)) (part_structs align size bytes) ∙ vector_length align _ bytes.items e

pub tables_beneath : (s : Slot) (fs : Vec Flat Global) (e n : ℕ) → s ≡ Tables fs → n ≡ length fs.items → e + length ((part_of s).beneath e) ≡ e + gap_to 4 (e + 4) + 4 + 4 * n + length (blocks (map layout fs.items) (e + gap_to 4 (e + 4) + 4 + 4 * n))
tables_beneath s fs e n is count =
    let k : length (map layout fs.items) ≡ n = length-map fs.items layout ∙ sym count in
    ap (λ s. e + length ((part_of s).beneath e)) is ∙ ap (λ (p : Part). e + length (p.beneath e)) (part_tables fs) ∙ tables_length (map layout fs.items) e ∙ ap (λ k. e + gap_to 4 (e + 4) + 4 + 4 * k + length (blocks (map layout fs.items) (e + gap_to 4 (e + 4) + 4 + 4 * k))) k

-- ---- the bytes of a field

pub structs_field : (s : Slot) (align size : ℕ) (bytes : Vec ℕ Global) (a e : ℕ) → s ≡ Structs align size bytes → (part_of s).field a e ≡ to_le_bytes w32 (e + gap_to (max 4 align) (e + 4) - a)
unfolding vector_block
structs_field s align size bytes a e is = ap (λ s. (part_of s).field a e) is ∙ ap (λ (p : Part). p.field a e) (part_structs align size bytes)

pub table_field : (s : Slot) (f : Flat) (a e : ℕ) → s ≡ Table f → (part_of s).field a e ≡ to_le_bytes w32 (table_place (length f.slots.items) e - a)
unfolding table_block
table_field s f a e is = ap (λ s. (part_of s).field a e) is ∙ ap (λ (p : Part). p.field a e) (part_table f) ∙ ap (λ (b : Block). to_le_bytes w32 (b.place e - a)) (layout_is f) ∙ ap (λ n. to_le_bytes w32 (table_place n e - a)) (length-map f.slots.items part_of)

pub tables_field : (s : Slot) (fs : Vec Flat Global) (a e : ℕ) → s ≡ Tables fs → (part_of s).field a e ≡ to_le_bytes w32 (e + gap_to 4 (e + 4) - a)
unfolding tables_block
tables_field s fs a e is = ap (λ s. (part_of s).field a e) is ∙ ap (λ (p : Part). p.field a e) (part_tables fs)

-- ---- the slot that a loop has come to

pub at_slot : (slots : List Slot) (i : ℕ) (s : Slot) → i < length slots → s ≡ get_or slots i s → drop i slots ≡ s ∷ drop (i + 1) slots
at_slot slots i s lt is = drop_more slots i s lt ∙ ap (λ x. x ∷ drop (i + 1) slots) (sym is)

one_end_cases : (b : Bool) (ps : List Part) (x y : ℕ) → cond b x y ≤ cond b (fields_end ps x) (fields_end ps y)
one_end_cases true ps x y = fields_end_ge ps x
one_end_cases false ps x y = fields_end_ge ps y

pub one_end : (slots : List Slot) (i : ℕ) (s : Slot) (o : ℕ) → i < length slots → s ≡ get_or slots i s → fields_end (part_of s ∷ []) o ≤ fields_end (map part_of (drop i slots)) o
one_end slots i s o lt is = rw (at_slot slots i s lt is) (one_end_cases (part_of s).present (map part_of (drop (i + 1) slots)) (o + gap_to (part_of s).align o + (part_of s).size) o)

pub one_beneath : (slots : List Slot) (i : ℕ) (s : Slot) (e : ℕ) → i < length slots → s ≡ get_or slots i s → length ((part_of s).beneath e) ≤ length (all_beneath (map part_of (drop i slots)) e)
one_beneath slots i s e lt is = rw (at_slot slots i s lt is) (omega (arith, length-append ((part_of s).beneath e) (all_beneath (map part_of (drop (i + 1) slots)) (e + length ((part_of s).beneath e)))))

-- ---- ends as the machine holds them

-- the greatest number stays the greatest
pub capped_on : (f : ℕ → ℕ) (b : ℕ) → capped (capped b + f (capped b)) ≡ capped (b + f b)
capped_on f b = elim (cases_lt (2 ^ 64 - 1) b) [
  | inl over ↦ let e : capped b ≡ 2 ^ 64 - 1 = omega arith in rw e (omega arith)
  | inr within ↦ let e : capped b ≡ b = omega arith in rw e refl
]

-- what is beneath the slots from number i on, behind what is beneath slot i
pub beneath_on : (slots : List Slot) (i : ℕ) (s : Slot) (e total : ℕ) → i < length slots → s ≡ get_or slots i s → capped (e + length (all_beneath (map part_of (drop i slots)) e)) ≡ total
    → (next : ℕ) → next ≡ capped (e + length ((part_of s).beneath e)) → capped (next + length (all_beneath (map part_of (drop (i + 1) slots)) next)) ≡ total
beneath_on slots i s e total lt is so_far next next-is =
    let rest = map part_of (drop (i + 1) slots) in
    let b = e + length ((part_of s).beneath e) in
    let all : e + length (all_beneath (map part_of (drop i slots)) e) ≡ b + length (all_beneath rest b) = rw (at_slot slots i s lt is) (omega (arith, length-append ((part_of s).beneath e) (all_beneath rest b))) in
    rw next-is (capped_on (λ n. length (all_beneath rest n)) b ∙ ap capped (sym all)) ∙ so_far

-- the tables from number i on, behind table i
pub blocks_on : (flats : List Flat) (i : ℕ) (f : Flat) (e total : ℕ) → i < length flats → f ≡ get_or flats i f → capped (e + length (blocks (map layout (drop i flats)) e)) ≡ total
    → (next : ℕ) → next ≡ capped (e + length ((layout f).bytes e)) → capped (next + length (blocks (map layout (drop (i + 1) flats)) next)) ≡ total
blocks_on flats i f e total lt is so_far next next-is =
    let rest = map layout (drop (i + 1) flats) in
    let b = e + length ((layout f).bytes e) in
    let at : drop i flats ≡ f ∷ drop (i + 1) flats = drop_more flats i f lt ∙ ap (λ x. x ∷ drop (i + 1) flats) (sym is) in
    let all : e + length (blocks (map layout (drop i flats)) e) ≡ b + length (blocks rest b) = rw at (omega (arith, length-append ((layout f).bytes e) (blocks rest b))) in
    rw next-is (capped_on (λ n. length (blocks rest n)) b ∙ ap capped (sym all)) ∙ so_far

-- a payload ends where its root table with all beneath it ends
pub payload_length : (b : Block) → length (payload b) ≡ 4 + length (b.bytes 4)
unfolding payload
payload_length b = length-append (to_le_bytes w32 (b.place 4)) (b.bytes 4)

-- an end within the limit is told as it is
pub exact : (told e len : ℕ) → told ≡ capped (e + len) → e + len ≤ 268435417 → told ≡ e + len
exact told e len is fits = omega arith

pub exactly : (told end : ℕ) → told ≡ capped end → end ≤ 268435417 → told ≡ end
exactly told end is fits = omega arith

-- ---- a table is its head and what is beneath it

pub parts_head_length : (ps : List Part) (e : ℕ) → AllByRecursion IsSized ps → e + length (table_head ps e) ≡ table_place (length ps) e + fields_end ps 4
parts_head_length ps e sized =
    let n = length ps in
    let m = fields_end ps 4 in
    let g = gap_to 8 (e + (4 + 2 * n)) in
    let t = table_place n e in
    let es = entries ps 4 in
    let fs = fields ps 4 t (t + m) in
    let a = zeros g ++ to_le_bytes w16 (4 + 2 * n) in
    let b = a ++ to_le_bytes w16 m in
    let c = b ++ es in
    let d = c ++ to_le_bytes w32 (4 + 2 * n) in
    omega (arith, length-append d fs, length-append c (to_le_bytes w32 (4 + 2 * n)), length-append b es, length-append a (to_le_bytes w16 m), length-append (zeros g) (to_le_bytes w16 (4 + 2 * n)), length-replicate {A = ℕ} g 0, length_entries ps 4, length_fields ps t sized 4 (t + m))

pub head_length : (f : Flat) (e : ℕ) → e + length (table_head (map part_of f.slots.items) e) ≡ table_place (length f.slots.items) e + fields_end (map part_of f.slots.items) 4
head_length f e = rw (← length-map f.slots.items part_of) (parts_head_length (map part_of f.slots.items) e (parts_sized f.slots.items))

pub table_split : (f : Flat) (e : ℕ) → (layout f).bytes e ≡ table_head (map part_of f.slots.items) e ++ all_beneath (map part_of f.slots.items) (e + length (table_head (map part_of f.slots.items) e))
unfolding table_block
table_split f e =
    let ps = map part_of f.slots.items in
    let len : e + length (table_head ps e) ≡ table_place (length ps) e + fields_end ps 4 = head_length f e ∙ ap (λ n. table_place n e + fields_end ps 4) (sym (length-map f.slots.items part_of)) in
    ap (λ (b : Block). b.bytes e) (layout_is f) ∙ rw len refl

pub tables_split : (bs : List Block) (e : ℕ) → (tables_block bs).bytes e ≡ tables_head bs e ++ blocks bs (e + length (tables_head bs e))
unfolding tables_block
tables_split bs e =
    let g = gap_to 4 (e + 4) in
    let q = e + g in
    let os = offsets bs (q + 4) (q + 4 + 4 * length bs) in
    let a = zeros g ++ to_le_bytes w32 (length bs) in
    let len : e + length (tables_head bs e) ≡ q + 4 + 4 * length bs = omega (arith, length-append a os, length-append (zeros g) (to_le_bytes w32 (length bs)), length-replicate {A = ℕ} g 0, length_offsets bs (q + 4) (q + 4 + 4 * length bs)) in
    rw len refl

pub place_is : (f : Flat) (e : ℕ) → (layout f).place e ≡ table_place (length f.slots.items) e
unfolding table_block
place_is f e = ap (λ (b : Block). b.place e) (layout_is f) ∙ ap (λ n. table_place n e) (length-map f.slots.items part_of)

pub tables_beneath_is : (s : Slot) (fs : Vec Flat Global) (e : ℕ) → s ≡ Tables fs → (part_of s).beneath e ≡ tables_head (map layout fs.items) e ++ blocks (map layout fs.items) (e + length (tables_head (map layout fs.items) e))
tables_beneath_is s fs e is = ap (λ s. (part_of s).beneath e) is ∙ ap (λ (p : Part). p.beneath e) (part_tables fs) ∙ tables_split (map layout fs.items) e

-- the front of what is to be appended was appended
pub record Begun (old new : List ℕ) (rest : ℕ → List ℕ) (whole : List ℕ) : Type 0 where
  pub bytes : new ++ rest (length new) ≡ old ++ whole
  pub len : length new + length (rest (length new)) ≡ length old + length whole

pub begun : (old new front : List ℕ) (rest : ℕ → List ℕ) (whole : List ℕ) → new ≡ old ++ front → whole ≡ front ++ rest (length old + length front) → Begun old new rest whole
begun old new front rest whole is parts =
    let n : length new ≡ length old + length front = ap length is ∙ length-append old front in
    let e : new ++ rest (length new) ≡ old ++ whole = rw (parts, n, is) (append_assoc old front (rest (length old + length front))) in
    record { bytes = e; len = omega (arith, ap length e, length-append new (rest (length new)), length-append old whole) }

-- the table that a loop has come to
at_flat : (flats : List Flat) (i : ℕ) (f : Flat) → i < length flats → f ≡ get_or flats i f → drop i flats ≡ f ∷ drop (i + 1) flats
at_flat flats i f lt is = drop_more flats i f lt ∙ ap (λ x. x ∷ drop (i + 1) flats) (sym is)

pub flats_left : (flats : List Flat) (i : ℕ) (f : Flat) → i < length flats → f ≡ get_or flats i f → length (drop i flats) ≡ length (drop (i + 1) flats) + 1
flats_left flats i f lt is = ap length (at_flat flats i f lt is) ∙ omega arith

pub blocks_long : (flats : List Flat) (i : ℕ) (f : Flat) (e : ℕ) → i < length flats → f ≡ get_or flats i f
    → length (blocks (map layout (drop i flats)) e) ≡ length ((layout f).bytes e) + length (blocks (map layout (drop (i + 1) flats)) (e + length ((layout f).bytes e)))
blocks_long flats i f e lt is =
    ap (λ fs. length (blocks (map layout fs) e)) (at_flat flats i f lt is) ∙ length-append ((layout f).bytes e) (blocks (map layout (drop (i + 1) flats)) (e + length ((layout f).bytes e)))

-- one more offset was appended
pub offset_more : (flats : List Flat) (i : ℕ) (f : Flat) (out new : List ℕ) (a e place next : ℕ) → i < length flats → f ≡ get_or flats i f
    → place ≡ (layout f).place e → next ≡ e + length ((layout f).bytes e) → new ≡ out ++ to_le_bytes w32 (place - a)
    → new ++ offsets (map layout (drop (i + 1) flats)) (a + 4) next ≡ out ++ offsets (map layout (drop i flats)) a e
offset_more flats i f out new a e place next lt is placed ends grown =
    rw (grown, placed, ends) (append_assoc out (to_le_bytes w32 ((layout f).place e - a)) (offsets (map layout (drop (i + 1) flats)) (a + 4) (e + length ((layout f).bytes e))))
    ∙ ap (λ fs. out ++ offsets (map layout fs) a e) (sym (at_flat flats i f lt is))

-- one more slot's bytes were appended, and one more table
pub beneath_begun : (slots : List Slot) (i : ℕ) (s : Slot) (out new : List ℕ) → i < length slots → s ≡ get_or slots i s → new ≡ out ++ (part_of s).beneath (length out)
    → Begun out new (λ e. all_beneath (map part_of (drop (i + 1) slots)) e) (all_beneath (map part_of (drop i slots)) (length out))
beneath_begun slots i s out new lt is grown =
    begun out new ((part_of s).beneath (length out)) (λ e. all_beneath (map part_of (drop (i + 1) slots)) e) (all_beneath (map part_of (drop i slots)) (length out)) grown
    (ap (λ ss. all_beneath (map part_of ss) (length out)) (at_slot slots i s lt is))

pub blocks_begun : (flats : List Flat) (i : ℕ) (f : Flat) (out new : List ℕ) → i < length flats → f ≡ get_or flats i f → new ≡ out ++ (layout f).bytes (length out)
    → Begun out new (λ e. blocks (map layout (drop (i + 1) flats)) e) (blocks (map layout (drop i flats)) (length out))
blocks_begun flats i f out new lt is grown =
    begun out new ((layout f).bytes (length out)) (λ e. blocks (map layout (drop (i + 1) flats)) e) (blocks (map layout (drop i flats)) (length out)) grown
    (ap (λ fs. blocks (map layout fs) (length out)) (at_flat flats i f lt is))

-- ---- strings

pub text_length : (text : List ℕ) (e : ℕ) → e + length ((text_block text).bytes e) ≡ e + gap_to 4 e + 4 + length text + 1
unfolding text_block
text_length text e =
    let g = gap_to 4 e in
    omega (arith, length-append (zeros g) (to_le_bytes w32 (length text) ++ (text ++ 0 ∷ [])), length-replicate {A = ℕ} g 0, length-append text (0 ∷ []))

pub text_beneath : (s : Slot) (text : String Global) (e : ℕ) → s ≡ Text text → e + length ((part_of s).beneath e) ≡ e + gap_to 4 e + 4 + length (string_bytes text) + 1
text_beneath s text e is = ap (λ s. e + length ((part_of s).beneath e)) is ∙ ap (λ (p : Part). e + length (p.beneath e)) (part_text text) ∙ text_length (string_bytes text) e

pub text_field : (s : Slot) (text : String Global) (a e : ℕ) → s ≡ Text text → (part_of s).field a e ≡ to_le_bytes w32 (e + gap_to 4 e - a)
unfolding text_block
text_field s text a e is = ap (λ s. (part_of s).field a e) is ∙ ap (λ (p : Part). p.field a e) (part_text text)

pub text_bytes : (s : Slot) (text : String Global) (e : ℕ) → s ≡ Text text → (part_of s).beneath e ≡ (text_block (string_bytes text)).bytes e
text_bytes s text e is = ap (λ s. (part_of s).beneath e) is ∙ ap (λ (p : Part). p.beneath e) (part_text text)

pub scalar_field : (s : Slot) (size value a e : ℕ) → s ≡ Scalar size value → (part_of s).field a e ≡ take size (to_le_bytes w64 value)
scalar_field s size value a e is = ap (λ s. (part_of s).field a e) is ∙ ap (λ (p : Part). p.field a e) (part_scalar size value)

-- The parts of a table that has a vector of tables, one after another.
use Rattle.std.proofs.Common.{◌≡◌, ℕ, suc, ◌+◌, ◌-◌, ◌*◌, ◌≤◌, true, false, cond, List, [], ◌∷◌, ◌++◌, length, refl, subst, sym, ap, ◌∙◌, arith, append_assoc}
use Rattle.std.specs.List.{AllByRecursion}
use Rattle.std.specs.Int.{w16, w32, to_le_bytes}
use Rattle.std.proofs.lemmas.List.{length-append}
use Rattle.flat_tables.specs.Layout.{Part, Block, gap_to, zeros, offset_to, tables_block, fields_end, entries, fields, all_beneath, offsets, blocks, table_head, table_place, table_block, payload}
use Rattle.flat_tables.specs.Frames.{framed, places, offsets_to, frame_end, vector_begin, first_table}
use Rattle.flat_tables.specs.Trees.{capped}
use Rattle.flat_tables.proofs.Tables.{IsSized, fields_end_ge}
use Rattle.flat_tables.proofs.Vectors.{offset_sized}
use Rattle.flat_tables.proofs.Lengths.{parts_head_length, tables_length, capped_on}

-- ---- parts behind parts

pub end_append : (ps qs : List Part) (o : ℕ) → fields_end (ps ++ qs) o ≡ fields_end qs (fields_end ps o)
end_append [] qs o = refl
end_append (p ∷ ps) qs o = elim p.present as (λ b. cond b (fields_end (ps ++ qs) (o + gap_to p.align o + p.size)) (fields_end (ps ++ qs) o) ≡ fields_end qs (cond b (fields_end ps (o + gap_to p.align o + p.size)) (fields_end ps o))) [
  | true ↦ end_append ps qs (o + gap_to p.align o + p.size)
  | false ↦ end_append ps qs o
]

pub entries_append : (ps qs : List Part) (o : ℕ) → entries (ps ++ qs) o ≡ entries ps o ++ entries qs (fields_end ps o)
entries_append [] qs o = refl
entries_append (p ∷ ps) qs o =
    let a = o + gap_to p.align o in
    elim p.present as (λ b. cond b (to_le_bytes w16 a ++ entries (ps ++ qs) (a + p.size)) (to_le_bytes w16 0 ++ entries (ps ++ qs) o) ≡ cond b (to_le_bytes w16 a ++ entries ps (a + p.size)) (to_le_bytes w16 0 ++ entries ps o) ++ entries qs (cond b (fields_end ps (a + p.size)) (fields_end ps o))) [
      | true ↦ ap (λ xs. to_le_bytes w16 a ++ xs) (entries_append ps qs (a + p.size)) ∙ sym (append_assoc (to_le_bytes w16 a) (entries ps (a + p.size)) (entries qs (fields_end ps (a + p.size))))
      | false ↦ ap (λ xs. to_le_bytes w16 0 ++ xs) (entries_append ps qs o) ∙ sym (append_assoc (to_le_bytes w16 0) (entries ps o) (entries qs (fields_end ps o)))
    ]

pub beneath_append : (ps qs : List Part) (e : ℕ) → all_beneath (ps ++ qs) e ≡ all_beneath ps e ++ all_beneath qs (e + length (all_beneath ps e))
beneath_append [] qs e = let z : e + 0 ≡ e = omega arith in ap (all_beneath qs) (sym z)
beneath_append (p ∷ ps) qs e =
    let here = p.beneath e in
    let next = e + length here in
    let rest = all_beneath ps next in
    let end : next + length rest ≡ e + length (here ++ rest) = omega (arith, length-append here rest) in
    ap (λ xs. here ++ xs) (beneath_append ps qs next) ∙ sym (append_assoc here rest (all_beneath qs (next + length rest))) ∙ ap (λ n. (here ++ rest) ++ all_beneath qs n) end

pub fields_append : (ps qs : List Part) (o t e : ℕ) → fields (ps ++ qs) o t e ≡ fields ps o t e ++ fields qs (fields_end ps o) t (e + length (all_beneath ps e))
fields_append [] qs o t e = let z : e + 0 ≡ e = omega arith in ap (fields qs o t) (sym z)
fields_append (p ∷ ps) qs o t e =
    let a = o + gap_to p.align o in
    let gap = zeros (gap_to p.align o) in
    let field = p.field (t + a) e in
    let next = e + length (p.beneath e) in
    let rest = all_beneath ps next in
    let end : next + length rest ≡ e + length (p.beneath e ++ rest) = omega (arith, length-append (p.beneath e) rest) in
    elim p.present as (λ b. cond b (gap ++ (field ++ fields (ps ++ qs) (a + p.size) t next)) (fields (ps ++ qs) o t next) ≡ cond b (gap ++ (field ++ fields ps (a + p.size) t next)) (fields ps o t next) ++ fields qs (cond b (fields_end ps (a + p.size)) (fields_end ps o)) t (e + length (p.beneath e ++ rest))) [
      | true ↦
          let xs = fields ps (a + p.size) t next in
          let ys = fields qs (fields_end ps (a + p.size)) t (next + length rest) in
          ap (λ zs. gap ++ (field ++ zs)) (fields_append ps qs (a + p.size) t next)
          ∙ sym (append_assoc gap (field ++ xs) ys ∙ ap (λ zs. gap ++ zs) (append_assoc field xs ys))
          ∙ ap (λ n. (gap ++ (field ++ xs)) ++ fields qs (fields_end ps (a + p.size)) t n) end
      | false ↦ fields_append ps qs o t next ∙ ap (λ n. fields ps o t next ++ fields qs (fields_end ps o) t n) end
    ]

-- ---- a vector among them

pub frame_length : (ps : List Part) (bs : List Block) (qs : List Part) → length (framed ps bs qs) ≡ length ps + 1 + length qs
frame_length ps bs qs = omega (arith, length-append ps (offset_to (tables_block bs) ∷ qs))

pub frame_ends : (ps : List Part) (bs : List Block) (qs : List Part) (o : ℕ) → fields_end (framed ps bs qs) o ≡ fields_end qs (fields_end ps o + gap_to 4 (fields_end ps o) + 4)
frame_ends ps bs qs o = end_append ps (offset_to (tables_block bs) ∷ qs) o

pub frame_entries : (ps : List Part) (bs : List Block) (qs : List Part) (o : ℕ) → let m = fields_end ps o in
    entries (framed ps bs qs) o ≡ entries ps o ++ (to_le_bytes w16 (m + gap_to 4 m) ++ entries qs (m + gap_to 4 m + 4))
frame_entries ps bs qs o = entries_append ps (offset_to (tables_block bs) ∷ qs) o

-- three parts that were appended one after another
pub three_parts : (old one two three xs ys zs : List ℕ) → one ≡ old ++ xs → two ≡ one ++ ys → three ≡ two ++ zs → three ≡ old ++ (xs ++ (ys ++ zs))
three_parts old one two three xs ys zs a b c = c ∙ ap (λ l. l ++ zs) (b ∙ ap (λ l. l ++ ys) a) ∙ append_assoc (old ++ xs) ys zs ∙ append_assoc old xs (ys ++ zs)

pub four_parts : (old one two three four xs ys zs ws : List ℕ) → one ≡ old ++ xs → two ≡ one ++ ys → three ≡ two ++ zs → four ≡ three ++ ws → four ≡ old ++ (xs ++ (ys ++ (zs ++ ws)))
four_parts old one two three four xs ys zs ws a b c d = three_parts one two three four ys zs ws b c d ∙ ap (λ l. l ++ (ys ++ (zs ++ ws))) a ∙ append_assoc old xs (ys ++ (zs ++ ws))

pub frame_fields : (ps : List Part) (bs : List Block) (qs : List Part) (o t e : ℕ) → let m = fields_end ps o in let a = m + gap_to 4 m in let v = e + length (all_beneath ps e) in
    fields (framed ps bs qs) o t e ≡ fields ps o t e ++ (zeros (gap_to 4 m) ++ (to_le_bytes w32 (v + gap_to 4 (v + 4) - (t + a)) ++ fields qs (a + 4) t (v + length ((tables_block bs).bytes v))))
unfolding tables_block
frame_fields ps bs qs o t e = fields_append ps (offset_to (tables_block bs) ∷ qs) o t e

-- the field of the vector lies in the table
pub vector_field : (ps : List Part) (bs : List Block) (qs : List Part) (o : ℕ) → let m = fields_end ps o in (m ≤ m + gap_to 4 m + 4) × (m + gap_to 4 m + 4 ≤ fields_end (framed ps bs qs) o)
vector_field ps bs qs o = let m = fields_end ps o in (omega arith, subst (λ n. m + gap_to 4 m + 4 ≤ n) (sym (frame_ends ps bs qs o)) (fields_end_ge qs (m + gap_to 4 m + 4)))

-- one part more
pub grown : (old x y A B : List ℕ) → x ≡ old ++ A → y ≡ x ++ B → y ≡ old ++ (A ++ B)
grown old x y A B a b = b ∙ ap (λ l. l ++ B) a ∙ append_assoc old A B

-- whichever tables the vector has
pub same_ends : (ps : List Part) (bs cs : List Block) (qs : List Part) (o : ℕ) → fields_end (framed ps bs qs) o ≡ fields_end (framed ps cs qs) o
same_ends ps bs cs qs o = frame_ends ps bs qs o ∙ sym (frame_ends ps cs qs o)

pub same_entries : (ps : List Part) (bs cs : List Block) (qs : List Part) (o : ℕ) → entries (framed ps bs qs) o ≡ entries (framed ps cs qs) o
same_entries ps bs cs qs o = frame_entries ps bs qs o ∙ sym (frame_entries ps cs qs o)

-- ---- the offsets of a vector

pub places_length : (bs : List Block) (e : ℕ) → length (places bs e) ≡ length bs
places_length [] e = refl
places_length (b ∷ bs) e = ap suc (places_length bs (e + length (b.bytes e)))

pub offsets_are : (bs : List Block) (a e : ℕ) → offsets_to (places bs e) a ≡ offsets bs a e
offsets_are [] a e = refl
offsets_are (b ∷ bs) a e = ap (λ xs. to_le_bytes w32 (b.place e - a) ++ xs) (offsets_are bs (a + 4) (e + length (b.bytes e)))

-- ---- the whole table

sized_append : (ps qs : List Part) → AllByRecursion IsSized ps → AllByRecursion IsSized qs → AllByRecursion IsSized (ps ++ qs)
sized_append [] qs left right = right
sized_append (p ∷ ps) qs left right = (left.0, sized_append ps qs left.1 right)

frame_sized : (ps : List Part) (bs : List Block) (qs : List Part) → AllByRecursion IsSized ps → AllByRecursion IsSized qs → AllByRecursion IsSized (framed ps bs qs)
frame_sized ps bs qs left right = sized_append ps (offset_to (tables_block bs) ∷ qs) left (offset_sized (tables_block bs), right)

-- all beneath it is appended where its fields end
end_is : (ps : List Part) (bs : List Block) (qs : List Part) (e : ℕ) → table_place (length (framed ps bs qs)) e + fields_end (framed ps bs qs) 4 ≡ frame_end ps qs e
end_is ps bs qs e i = table_place (frame_length ps bs qs i) e + same_ends ps bs [] qs 4 i

pub frame_head : (ps : List Part) (bs : List Block) (qs : List Part) (e : ℕ) → AllByRecursion IsSized ps → AllByRecursion IsSized qs → e + length (table_head (framed ps bs qs) e) ≡ frame_end ps qs e
frame_head ps bs qs e left right = parts_head_length (framed ps bs qs) e (frame_sized ps bs qs left right) ∙ end_is ps bs qs e

-- its bytes one part after another
pub frame_bytes : (ps : List Part) (bs : List Block) (qs : List Part) (e : ℕ) → let b = frame_end ps qs e in let v = vector_begin ps qs e in let x = v + length ((tables_block bs).bytes v) in
    (table_block (framed ps bs qs)).bytes e ≡ table_head (framed ps bs qs) e ++ (all_beneath ps b ++ ((tables_block bs).bytes v ++ all_beneath qs x))
unfolding table_block
frame_bytes ps bs qs e =
    ap (λ b. table_head (framed ps bs qs) e ++ all_beneath (framed ps bs qs) b) (end_is ps bs qs e)
    ∙ ap (λ xs. table_head (framed ps bs qs) e ++ xs) (beneath_append ps (offset_to (tables_block bs) ∷ qs) (frame_end ps qs e))

pub frame_total : (ps : List Part) (bs : List Block) (qs : List Part) (e : ℕ) → AllByRecursion IsSized ps → AllByRecursion IsSized qs → let v = vector_begin ps qs e in let x = v + length ((tables_block bs).bytes v) in
    e + length ((table_block (framed ps bs qs)).bytes e) ≡ x + length (all_beneath qs x)
frame_total ps bs qs e left right =
    let b = frame_end ps qs e in
    let v = vector_begin ps qs e in
    let t = (tables_block bs).bytes v in
    let x = v + length t in
    let h = table_head (framed ps bs qs) e in
    rw (frame_bytes ps bs qs e) (omega (arith, frame_head ps bs qs e left right, length-append h (all_beneath ps b ++ (t ++ all_beneath qs x)), length-append (all_beneath ps b) (t ++ all_beneath qs x), length-append t (all_beneath qs x)))

-- how much stands once its head was appended, once all beneath the fields before the vector was, and once the vector was
pub with_head : (ps : List Part) (bs : List Block) (qs : List Part) (old one : List ℕ) → AllByRecursion IsSized ps → AllByRecursion IsSized qs → one ≡ old ++ table_head (framed ps bs qs) (length old) → length one ≡ frame_end ps qs (length old)
with_head ps bs qs old one left right a = ap length a ∙ length-append old (table_head (framed ps bs qs) (length old)) ∙ frame_head ps bs qs (length old) left right

pub with_before : (ps qs : List Part) (old one two : List ℕ) → length one ≡ frame_end ps qs (length old) → two ≡ one ++ all_beneath ps (length one) → length two ≡ vector_begin ps qs (length old)
with_before ps qs old one two is b = ap length b ∙ length-append one (all_beneath ps (length one)) ∙ (λ i. is i + length (all_beneath ps (is i)))

pub with_vector : (ps : List Part) (bs : List Block) (qs : List Part) (old two three : List ℕ) → length two ≡ vector_begin ps qs (length old) → three ≡ two ++ (tables_block bs).bytes (length two)
    → length three ≡ vector_begin ps qs (length old) + length ((tables_block bs).bytes (vector_begin ps qs (length old)))
with_vector ps bs qs old two three is d = ap length d ∙ length-append two ((tables_block bs).bytes (length two)) ∙ (λ i. is i + length ((tables_block bs).bytes (is i)))

-- ---- where it ends, as the machine holds it

-- the end of the offsets, of the tables, and of all beneath the last fields
pub record Ends (ps : List Part) (bs : List Block) (qs : List Part) (e offsets end whole : ℕ) : Type 0 where
  pub whole_is : whole ≡ capped (e + length ((table_block (framed ps bs qs)).bytes e))
  pub exact : whole ≤ 268435417 → (offsets ≡ first_table (length bs) (vector_begin ps qs e)) × (end ≡ vector_begin ps qs e + length ((tables_block bs).bytes (vector_begin ps qs e)))

pub ends_are : (ps : List Part) (bs : List Block) (qs : List Part) (e vector offsets end whole : ℕ) → AllByRecursion IsSized ps → AllByRecursion IsSized qs → vector ≡ capped (vector_begin ps qs e)
    → offsets ≡ capped (vector + gap_to 4 (vector + 4) + 4 + 4 * length bs) → end ≡ capped (offsets + length (blocks bs offsets)) → whole ≡ capped (end + length (all_beneath qs end)) → Ends ps bs qs e offsets end whole
ends_are ps bs qs e vector offsets end whole left right a b c d =
    let v = vector_begin ps qs e in
    let k = length bs in
    let f = first_table k v in
    let x = v + length ((tables_block bs).bytes v) in
    let long : x ≡ f + length (blocks bs f) = tables_length bs v in
    let told : offsets ≡ capped f = b ∙ rw a (ap capped (omega arith) ∙ capped_on (λ n. gap_to 4 (n + 4) + 4 + 4 * k) v ∙ ap capped (omega arith)) in
    let ended : end ≡ capped x = c ∙ rw told (capped_on (λ n. length (blocks bs n)) f) ∙ ap capped (sym long) in
    let all : whole ≡ capped (x + length (all_beneath qs x)) = d ∙ rw ended (capped_on (λ n. length (all_beneath qs n)) x) in
    record {
      whole_is = all ∙ ap capped (sym (frame_total ps bs qs e left right));
      exact = λ fits. (omega (arith, told, long, all, fits), omega (arith, ended, all, fits));
    }

-- a payload with it as its root
pub frame_root : (ps : List Part) (bs : List Block) (qs : List Part) → payload (table_block (framed ps bs qs)) ≡ to_le_bytes w32 (table_place (length ps + 1 + length qs) 4) ++ (table_block (framed ps bs qs)).bytes 4
unfolding payload table_block
frame_root ps bs qs = ap (λ n. to_le_bytes w32 (table_place n 4) ++ (table_block (framed ps bs qs)).bytes 4) (frame_length ps bs qs)

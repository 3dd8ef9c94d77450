-- What is laid out of bytes is bytes.
use Rattle.std.proofs.Common.{ℕ, ◌+◌, ◌-◌, ◌*◌, Bool, true, false, cond, List, [], ◌∷◌, ◌++◌, length, map, take, Option, None, Some}
use Rattle.std.specs.Prelude.{IfSome}
use Rattle.std.specs.Int.{w16, w32, w64, to_le_bytes}
use Rattle.std.specs.List.{flat_map, AllByRecursion}
use Rattle.flat_tables.specs.Layout.{Block, Part, gap_to, zeros, absent, inline, scalar, offset_to, part_if, vector_block, text_block, offsets, blocks, tables_head, tables_block, fields_end, entries, fields, all_beneath, table_place, table_head, table_block, payload}
use Rattle.file_fields.proofs.Bytes.{AreBytes, no_bytes, bytes_both, bytes_take, zeros_are, number_bytes}

-- ---- blocks and parts

pub record OfBytes (b : Block) : Type 0 where
  pub bytes : (e : ℕ) → AreBytes (b.bytes e)

pub record HasBytes (p : Part) : Type 0 where
  pub field : (a e : ℕ) → AreBytes (p.field a e)
  pub beneath : (e : ℕ) → AreBytes (p.beneath e)

pub absent_has : HasBytes absent
absent_has = record { field = λ a e. no_bytes; beneath = λ e. no_bytes }

pub inline_has : (align : ℕ) (bytes : List ℕ) → AreBytes bytes → HasBytes (inline align bytes)
inline_has align bytes are = record { field = λ a e. are; beneath = λ e. no_bytes }

pub scalar_has : (size value : ℕ) → HasBytes (scalar size value)
scalar_has size value = inline_has size (take size (to_le_bytes w64 value)) (bytes_take size (to_le_bytes w64 value) (number_bytes w64 value))

pub offset_has : (b : Block) → OfBytes b → HasBytes (offset_to b)
offset_has b of = record { field = λ a e. number_bytes w32 (b.place e - a); beneath = of.bytes }

pub part_if_has : {A : Type 0} (part : A → Part) (o : Option A) → IfSome o (λ x. HasBytes (part x)) → HasBytes (part_if part o)
part_if_has part None has = absent_has
part_if_has part (Some x) has = has

pub vector_of_bytes : (align count : ℕ) (items : List ℕ) → AreBytes items → OfBytes (vector_block align count items)
unfolding vector_block
vector_of_bytes align count items are = record {
  bytes = λ e. bytes_both (zeros _) (to_le_bytes w32 count ++ items) (zeros_are _) (bytes_both (to_le_bytes w32 count) items (number_bytes w32 count) are);
}

pub text_of_bytes : (text : List ℕ) → AreBytes text → OfBytes (text_block text)
unfolding text_block
text_of_bytes text are = record {
  bytes = λ e. bytes_both (zeros _) (to_le_bytes w32 (length text) ++ (text ++ 0 ∷ [])) (zeros_are _)
      (bytes_both (to_le_bytes w32 (length text)) (text ++ 0 ∷ []) (number_bytes w32 _) (bytes_both text (0 ∷ []) are (zeros_are 1)));
}

-- ---- elements

-- what is made of each element has what the element gives
pub each_made : {A B : Type 0} (P : A → Type 0) (Q : B → Type 0) (make : A → B) → ((x : A) → P x → Q (make x)) → (xs : List A) → AllByRecursion P xs → AllByRecursion Q (map make xs)
each_made P Q make gives [] are = tt
each_made P Q make gives (x ∷ xs) are = (gives x are.0, each_made P Q make gives xs are.1)

pub each_bytes : {A : Type 0} (P : A → Type 0) (bytes : A → List ℕ) → ((x : A) → P x → AreBytes (bytes x)) → (xs : List A) → AllByRecursion P xs → AreBytes (flat_map bytes xs)
each_bytes P bytes gives [] are = no_bytes
each_bytes P bytes gives (x ∷ xs) are = bytes_both (bytes x) (flat_map bytes xs) (gives x are.0) (each_bytes P bytes gives xs are.1)

-- ---- a vector of tables

offsets_are : (bs : List Block) (a e : ℕ) → AreBytes (offsets bs a e)
offsets_are [] a e = no_bytes
offsets_are (b ∷ bs) a e = bytes_both (to_le_bytes w32 (b.place e - a)) (offsets bs (a + 4) (e + length (b.bytes e))) (number_bytes w32 _) (offsets_are bs (a + 4) _)

blocks_are : (bs : List Block) (e : ℕ) → AllByRecursion OfBytes bs → AreBytes (blocks bs e)
blocks_are [] e of = no_bytes
blocks_are (b ∷ bs) e of = bytes_both (b.bytes e) (blocks bs (e + length (b.bytes e))) (of.0.bytes e) (blocks_are bs _ of.1)

tables_head_is : (bs : List Block) (e : ℕ) → AreBytes (tables_head bs e)
tables_head_is bs e =
    let q = e + gap_to 4 (e + 4) in
    let count = to_le_bytes w32 (length bs) in
    let all = offsets bs (q + 4) (q + 4 + 4 * length bs) in
    let gap = zeros (gap_to 4 (e + 4)) in
    bytes_both (gap ++ count) all (bytes_both gap count (zeros_are _) (number_bytes w32 _)) (offsets_are bs _ _)

tables_are : (bs : List Block) → AllByRecursion OfBytes bs → OfBytes (tables_block bs)
unfolding tables_block
tables_are bs of = record { bytes = λ e. bytes_both (tables_head bs e) (blocks bs _) (tables_head_is bs e) (blocks_are bs _ of) }

pub tables_of_bytes : {A : Type 0} (P : A → Type 0) (block : A → Block) → ((x : A) → P x → OfBytes (block x)) → (xs : List A) → AllByRecursion P xs → OfBytes (tables_block (map block xs))
tables_of_bytes P block gives xs are = tables_are (map block xs) (each_made P OfBytes block gives xs are)

-- ---- a table

by_case : (b : Bool) (xs ys : List ℕ) → AreBytes xs → AreBytes ys → AreBytes (cond b xs ys)
by_case true xs ys are other = are
by_case false xs ys other are = are

entries_are : (ps : List Part) (o : ℕ) → AreBytes (entries ps o)
entries_are [] o = no_bytes
entries_are (p ∷ ps) o =
    let here = o + gap_to p.align o in
    by_case p.present _ _
    (bytes_both (to_le_bytes w16 here) (entries ps (here + p.size)) (number_bytes w16 here) (entries_are ps (here + p.size)))
    (bytes_both (to_le_bytes w16 0) (entries ps o) (number_bytes w16 0) (entries_are ps o))

fields_are : (ps : List Part) (o t e : ℕ) → AllByRecursion HasBytes ps → AreBytes (fields ps o t e)
fields_are [] o t e of = no_bytes
fields_are (p ∷ ps) o t e of =
    let here = o + gap_to p.align o in
    let more = fields ps (here + p.size) t (e + length (p.beneath e)) in
    by_case p.present _ _
    (bytes_both (zeros (gap_to p.align o)) (p.field (t + here) e ++ more) (zeros_are _)
    (bytes_both (p.field (t + here) e) more (of.0.field (t + here) e) (fields_are ps (here + p.size) t (e + length (p.beneath e)) of.1)))
    (fields_are ps o t (e + length (p.beneath e)) of.1)

beneath_are : (ps : List Part) (e : ℕ) → AllByRecursion HasBytes ps → AreBytes (all_beneath ps e)
beneath_are [] e of = no_bytes
beneath_are (p ∷ ps) e of = bytes_both (p.beneath e) (all_beneath ps (e + length (p.beneath e))) (of.0.beneath e) (beneath_are ps _ of.1)

table_head_is : (ps : List Part) (e : ℕ) → AllByRecursion HasBytes ps → AreBytes (table_head ps e)
table_head_is ps e of =
    let n = 4 + 2 * length ps in
    let t = table_place (length ps) e in
    let gap = zeros (gap_to 8 (e + n)) in
    let size = to_le_bytes w16 n in
    let ends = to_le_bytes w16 (fields_end ps 4) in
    let places = entries ps 4 in
    let back = to_le_bytes w32 n in
    let values = fields ps 4 t (t + fields_end ps 4) in
    bytes_both (gap ++ size ++ ends ++ places ++ back) values
    (bytes_both (gap ++ size ++ ends ++ places) back
    (bytes_both (gap ++ size ++ ends) places (bytes_both (gap ++ size) ends (bytes_both gap size (zeros_are _) (number_bytes w16 n)) (number_bytes w16 _)) (entries_are ps 4))
    (number_bytes w32 n))
    (fields_are ps 4 t _ of)

pub table_of_bytes : (ps : List Part) → AllByRecursion HasBytes ps → OfBytes (table_block ps)
unfolding table_block
table_of_bytes ps of = record { bytes = λ e. bytes_both (table_head ps e) (all_beneath ps _) (table_head_is ps e of) (beneath_are ps _ of) }

pub payload_of_bytes : (b : Block) → OfBytes b → AreBytes (payload b)
unfolding payload
payload_of_bytes b of = bytes_both (to_le_bytes w32 (b.place 4)) (b.bytes 4) (number_bytes w32 _) (of.bytes 4)

-- Own: a table that has a vector of tables, for a writer that holds one of these at a time.
use Rattle.std.specs.Prelude.{ℕ, ◌+◌, ◌-◌, ◌*◌, ◌≡◌, ◌≤◌, List, [], ◌∷◌, ◌++◌, length, All}
use Rattle.std.specs.Int.{w32, to_le_bytes}
use Rattle.flat_tables.specs.Layout.{Part, Block, gap_to, offset_to, tables_block}
use Rattle.flat_tables.specs.Layout.{fields_end, all_beneath, table_place}

-- fields, then a vector of tables, and then fields
abbrev pub framed : List Part → List Block → List Part → List Part
framed ps bs qs = ps ++ offset_to (tables_block bs) ∷ qs

-- the places of blocks one after the other
abbrev pub places : List Block → ℕ → List ℕ
places [] e = []
places (b ∷ bs) e = b.place e ∷ places bs (e + length (b.bytes e))

-- the offsets from a on to what stands at these places
abbrev pub offsets_to : List ℕ → ℕ → List ℕ
offsets_to [] a = []
offsets_to (p ∷ ps) a = to_le_bytes w32 (p - a) ++ offsets_to ps (a + 4)

-- where the fields end of a table that is appended at e: any vector's field is as long
abbrev pub frame_end : List Part → List Part → ℕ → ℕ
frame_end ps qs e = table_place (length ps + 1 + length qs) e + fields_end (framed ps [] qs) 4

-- where its vector is appended, and where the first of n tables of a vector that is appended at v
abbrev pub vector_begin : List Part → List Part → ℕ → ℕ
vector_begin ps qs e = frame_end ps qs e + length (all_beneath ps (frame_end ps qs e))

abbrev pub first_table : ℕ → ℕ → ℕ
first_table n v = v + gap_to 4 (v + 4) + 4 + 4 * n

-- what its writer has to know, where it is appended at e: where each table stands, and
-- where the vector with these ends
pub record AreEnds (ps : List Part) (bs : List Block) (qs : List Part) (e : ℕ) (each : List ℕ)
    (end : ℕ) : Type 0 where
  pub places_are : each ≡ places bs (first_table (length bs) (vector_begin ps qs e))
  pub within : All
      (λ place. (first_table (length bs) (vector_begin ps qs e) ≤ place) × (place ≤ end)) each
  pub end_is : end ≡ vector_begin ps qs e + length ((tables_block bs).bytes (vector_begin ps qs e))

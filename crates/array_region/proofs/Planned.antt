-- Boxes that lie in an array.
use Rattle.std.proofs.Common.{◌≡◌, ◌≤◌, ◌*◌, ◌∙◌, ℕ, ℤ, ◌^◌, Bool, true, false, cond, List, [], ◌∷◌, length, replicate, refl, sym, ap, subst, arith, eq-eqb}
use Rattle.std.specs.Prelude.{◌&&◌, ◌-◌, nat_le, nat_eq, Option, Some, None, option_map, ok_or, Result, Ok, Err}
use Rattle.std.specs.Int.{div_ceil}
use Rattle.std.specs.FinMap.{get}
use Rattle.ice_ids.specs.declared.Id8.{Id8}
use Rattle.std.proofs.lemmas.Bool.{eqb-true, leb-true, le-leb}
use Rattle.std.proofs.lemmas.Grind.{div_ceil_times}
use Rattle.std.proofs.Math.Nat.{mul-le-mul_right}
use Rattle.zarr_meta.specs.declared.views.ArrayView.{ArrayView}
use Rattle.zarr_meta.specs.Grids.{are_lengths, has_few_chunks, has_small_chunks, has_grid, most_chunk_length, most_chunks}
use Rattle.zarr_meta.specs.Kinds.{size_of}
use Rattle.zarr_tree.specs.declared.edit.EditFault.{EditFault}
use Rattle.zarr_tree.specs.declared.edit.EditFault.TheVariants as E
use Rattle.zarr_tree.specs.Nodes.{Node, array_in}
use Rattle.zarr_tree.proofs.Apply.{first, second}
use Rattle.zarr_tree.proofs.GridParts.{grid_parts}
use Rattle.store_api.specs.declared.machines.Refusal.{Refusal}
use Rattle.store_api.specs.declared.machines.Refusal.TheVariants as R
use Rattle.store_api.specs.declared.machines.RegionFault.{RegionFault}
use Rattle.store_api.specs.declared.machines.RegionFault.TheVariants as F
use Rattle.store_api.specs.Program.{Done, is_fault}
use Rattle.session.specs.Sessions.{SessionState, nodes_seen, writes}
use Rattle.session.specs.Arrays.{array_of, array_at}
use Rattle.region_cells.specs.Boxes.{count_of, IsBoxOver}
use Rattle.region_cells.specs.Walks.{chunks_met, are_at_most, is_in_shape, count_within, most_cells, AreGridded}
use Rattle.array_region.specs.Planning.{cells_counted, box_count, is_box_of, IsBoxOf}
use Rattle.array_region.specs.Getting.{Refuses}
use Rattle.array_region.specs.Reading.{Reads, read_chunks, read_box, read_array, region_program, why_of, no_box, box_refused, ToldOutright, ToldBeside}
use Rattle.array_region.specs.Writing.{old_chunk, cells_refused, unless_why, write_chunks, write_box, write_array, region_set_program}

-- along a dimension a box ends before 2^32 chunks
few_before : (s n b : ℕ) → 1 ≤ n → b ≤ s → div_ceil s n ≤ 2 ^ 32 - 1 → b ≤ n * (2 ^ 32 - 1)
few_before s n b h m f =
    let up = div_ceil_times s n h in
    let most : div_ceil s n * n ≤ (2 ^ 32 - 1) * n = mul-le-mul_right n f in
    omega (arith, up.0, most)

gridded : (shape chunks from to : List ℕ) → length from ≡ length shape → length to ≡ length shape → length shape ≡ length chunks → are_lengths chunks ≡ true → has_few_chunks shape chunks ≡ true → are_at_most to shape ≡ true
    → AreGridded chunks from to
gridded [] [] [] [] e f g l h m = tt
gridded [] [] [] (b ∷ to) e f g l h m = absurd (omega (arith, f))
gridded [] [] (a ∷ from) to e f g l h m = absurd (omega (arith, e))
gridded [] (n ∷ chunks) from to e f g l h m = absurd (omega (arith, g))
gridded (s ∷ shape) [] from to e f g l h m = absurd (omega (arith, g))
gridded (s ∷ shape) (n ∷ chunks) [] to e f g l h m = absurd (omega (arith, e))
gridded (s ∷ shape) (n ∷ chunks) (a ∷ from) [] e f g l h m = absurd (omega (arith, f))
gridded (s ∷ shape) (n ∷ chunks) (a ∷ from) (b ∷ to) e f g l h m =
    let own = first (nat_le 1 n && nat_le n most_chunk_length) (are_lengths chunks) l in
    let some = leb-true 1 n (first (nat_le 1 n) (nat_le n most_chunk_length) own) in
    let few = leb-true (div_ceil s n) most_chunks (first (nat_le (div_ceil s n) most_chunks) (has_few_chunks shape chunks) h) in
    let most = leb-true b s (first (nat_le b s) (are_at_most to shape) m) in
    (some, few_before s n b some most few, gridded shape chunks from to (omega (arith, e)) (omega (arith, f)) (omega (arith, g)) (second _ _ l) (second _ _ h) (second _ _ m))

over : (chunks from to index : List ℕ) → length from ≡ length chunks → length to ≡ length chunks → are_lengths chunks ≡ true → length index ≡ length chunks → IsBoxOver from to chunks index
over [] [] [] [] e f l g = tt
over [] [] [] (i ∷ index) e f l g = absurd (omega (arith, g))
over [] [] (b ∷ to) index e f l g = absurd (omega (arith, f))
over [] (a ∷ from) to index e f l g = absurd (omega (arith, e))
over (n ∷ chunks) [] to index e f l g = absurd (omega (arith, e))
over (n ∷ chunks) (a ∷ from) [] index e f l g = absurd (omega (arith, f))
over (n ∷ chunks) (a ∷ from) (b ∷ to) [] e f l g = absurd (omega (arith, g))
over (n ∷ chunks) (a ∷ from) (b ∷ to) (i ∷ index) e f l g =
    let own = first (nat_le 1 n && nat_le n most_chunk_length) (are_lengths chunks) l in
    let long = leb-true n most_chunk_length (second (nat_le 1 n) (nat_le n most_chunk_length) own) in
    (leb-true 1 n (first (nat_le 1 n) (nat_le n most_chunk_length) own), omega (arith, long), over chunks from to index (omega (arith, e)) (omega (arith, f)) (second _ _ l) (omega (arith, g)))

-- ---- a box of an array
record IsIn (shape from to : List ℕ) : Type 0 where
  from_rank : length from ≡ length shape
  to_rank : length to ≡ length shape
  within : are_at_most to shape ≡ true

in_shape : (shape from to : List ℕ) → is_in_shape shape from to ≡ true → IsIn shape from to
in_shape shape from to h =
    let three = first (nat_eq (length from) (length shape) && nat_eq (length to) (length shape) && are_at_most from to) (are_at_most to shape) h in
    let two = first (nat_eq (length from) (length shape) && nat_eq (length to) (length shape)) (are_at_most from to) three in
    record {
      from_rank = eqb-true _ _ (first (nat_eq (length from) (length shape)) (nat_eq (length to) (length shape)) two);
      to_rank = eqb-true _ _ (second (nat_eq (length from) (length shape)) (nat_eq (length to) (length shape)) two);
      within = second _ (are_at_most to shape) h;
    }

record IsCounted (from to : List ℕ) (count : ℕ) : Type 0 where
  is : count ≡ count_of from to
  few : count ≤ most_cells

within_most : (from to : List ℕ) (count : ℕ) → cells_counted (count_within from to) ≡ Ok count → IsCounted from to count
within_most from to count e = by_test (nat_le (count_of from to) most_cells) refl e
  where
    by_test : (b : Bool) → nat_le (count_of from to) most_cells ≡ b → cells_counted (cond b (Some (count_of from to)) None) ≡ Ok count → IsCounted from to count
    by_test true t d = let same : count_of from to ≡ count = cc in record { is = sym same; few = let f = leb-true _ _ t in omega (arith, f, same) }
    by_test false t d = cc

-- the test of a box
record IsTested (array : ArrayView) (from to : List ℕ) (count : ℕ) : Type 0 where
  grid : has_grid (size_of array.kind) array.shape array.chunks ≡ true
  shape : is_in_shape array.shape from to ≡ true
  few : count ≤ most_cells
  counted : count ≡ count_of from to

tested : (array : ArrayView) (from to : List ℕ) (count : ℕ) → is_box_of array from to count ≡ true → IsTested array from to count
tested array from to count h =
    let three = first (has_grid (size_of array.kind) array.shape array.chunks && is_in_shape array.shape from to && nat_le count most_cells) (nat_eq count (count_of from to)) h in
    let two = first (has_grid (size_of array.kind) array.shape array.chunks && is_in_shape array.shape from to) (nat_le count most_cells) three in
    record {
      grid = first (has_grid (size_of array.kind) array.shape array.chunks) (is_in_shape array.shape from to) two;
      shape = second (has_grid (size_of array.kind) array.shape array.chunks) (is_in_shape array.shape from to) two;
      few = leb-true count most_cells (second _ (nat_le count most_cells) three);
      counted = eqb-true count (count_of from to) (second _ (nat_eq count (count_of from to)) h);
    }

record IsBox (array : ArrayView) (from to : List ℕ) (count : ℕ) : Type 0 where
  shape : is_in_shape array.shape from to ≡ true
  count_is : IsCounted from to count

box_in : (array : ArrayView) (from to : List ℕ) (count : ℕ) → box_count array from to ≡ Ok count → IsBox array from to count
box_in array from to count e = by_test (is_in_shape array.shape from to) refl e
  where
    by_test : (b : Bool) → is_in_shape array.shape from to ≡ b → cond b (cells_counted (count_within from to)) (Err (R.Region F.OutOfShape)) ≡ Ok count → IsBox array from to count
    by_test true t d = record { shape = t; count_is = within_most from to count d }
    by_test false t d = cc

-- a box that was counted passes the test
pub box_passes : (array : ArrayView) (from to : List ℕ) (count : ℕ) → has_grid (size_of array.kind) array.shape array.chunks ≡ true → box_count array from to ≡ Ok count → is_box_of array from to count ≡ true
box_passes array from to count h e =
    let b = box_in array from to count e in
    ap (λ t. t && is_in_shape array.shape from to && nat_le count most_cells && nat_eq count (count_of from to)) h
    ∙ ap (λ t. t && nat_le count most_cells && nat_eq count (count_of from to)) b.shape
    ∙ ap (λ t. t && nat_eq count (count_of from to)) (le-leb count most_cells b.count_is.few)
    ∙ eq-eqb count (count_of from to) b.count_is.is

pub box_of : (array : ArrayView) (from to : List ℕ) (count : ℕ) → is_box_of array from to count ≡ true → IsBoxOf array from to count
unfolding has_grid
box_of array from to count h =
    let t = tested array from to count h in
    let b = in_shape array.shape from to t.shape in
    let grid = grid_parts (size_of array.kind) array.shape array.chunks t.grid in
    let three = first _ (has_small_chunks (size_of array.kind) array.chunks) t.grid in
    let two = first _ (has_few_chunks array.shape array.chunks) three in
    let lengths = second (nat_eq (length array.shape) (length array.chunks)) (are_lengths array.chunks) two in
    record {
      counted = t.counted;
      few = t.few;
      gridded = gridded array.shape array.chunks from to b.from_rank b.to_rank grid.ranks lengths (second _ (has_few_chunks array.shape array.chunks) three) b.within;
      over = λ index g. over array.chunks from to index (b.from_rank ∙ grid.ranks) (b.to_rank ∙ grid.ranks) lengths g;
      positive = grid.positive;
      small = grid.small;
    }

-- ---- the array that is read
pub record IsAt (s : SessionState) (path : List ℕ) (id : Id8) (array : ArrayView) : Type 0 where
  pub node : Node
  pub found : get (nodes_seen s) path ≡ Some node
  pub id_is : node.id ≡ id
  pub is : array_in node.text ≡ Some array

abbrev the_ok : {A : Type 0} → A → Result A Refusal
the_ok x = Ok x

ok_same : {A : Type 0} (x y : A) → the_ok x ≡ the_ok y → x ≡ y
ok_same x y e = cc

pub at_array : (s : SessionState) (path : List ℕ) (id : Id8) (array : ArrayView) → array_at s path ≡ Ok (id, array) → IsAt s path id array
at_array s path id array e = by_node (get (nodes_seen s) path) refl e
  where
    by_view : (n : Node) → get (nodes_seen s) path ≡ Some n → (o : Option ArrayView) → array_in n.text ≡ o → ok_or {T = Id8 × ArrayView} (option_map (λ (a : ArrayView). (n.id, a)) o) (R.Edit E.NotArray) ≡ Ok (id, array) → IsAt s path id array
    by_view n f None v d = cc
    by_view n f (Some a) v d = let same = ok_same {A = Id8 × ArrayView} (n.id, a) (id, array) d in record { node = n; found = f; id_is = ap (λ (p : Id8 × ArrayView). p.0) same; is = v ∙ ap (λ (p : Id8 × ArrayView). Some p.1) same }

    by_node : (o : Option Node) → get (nodes_seen s) path ≡ o → array_of o ≡ Ok (id, array) → IsAt s path id array
    by_node None f d = cc
    by_node (Some n) f d = by_view n f (array_in n.text) refl d

-- why there is no array, or no box of it
pub record IsEdit (why : Refusal) : Type 0 where
  pub fault : EditFault
  pub is : why ≡ R.Edit fault

pub no_array : (o : Option Node) (why : Refusal) → array_of o ≡ Err why → IsEdit why
no_array None why e = record { fault = E.NoNode; is = cc }
no_array (Some n) why e = by_view (array_in n.text) e
  where
    by_view : (a : Option ArrayView) → ok_or {T = Id8 × ArrayView} (option_map (λ (x : ArrayView). (n.id, x)) a) (R.Edit E.NotArray) ≡ Err why → IsEdit why
    by_view None d = record { fault = E.NotArray; is = cc }
    by_view (Some a) d = cc

pub record IsRegion (why : Refusal) : Type 0 where
  pub fault : RegionFault
  pub is : why ≡ R.Region fault

pub refused_box : (array : ArrayView) (from to : List ℕ) (why : Refusal) → box_count array from to ≡ Err why → IsRegion why
refused_box array from to why e = by_shape (is_in_shape array.shape from to) e
  where
    by_count : (o : Option ℕ) → cells_counted o ≡ Err why → IsRegion why
    by_count None d = record { fault = F.Large; is = cc }
    by_count (Some n) d = cc

    by_shape : (b : Bool) → cond b (cells_counted (count_within from to)) (Err (R.Region F.OutOfShape)) ≡ Err why → IsRegion why
    by_shape true d = by_count (count_within from to) d
    by_shape false d = record { fault = F.OutOfShape; is = cc }

-- ---- what is to be read
module _ (s : SessionState) (path from to : List ℕ) where
  pub no_array_program : (why : Refusal) → array_at s path ≡ Err why → region_program s path from to ≡ Done (Err why)
  unfolding region_program
  no_array_program why e = ap (read_array s path from to) e

  module _ (id : Id8) (array : ArrayView) (e : array_at s path ≡ Ok (id, array)) where
    abbrev reads : Reads
    reads = record { node = id; array = array; path = path; from = from; to = to }

    pub no_box_program : (why : Refusal) → box_count array from to ≡ Err why → region_program s path from to ≡ Done (Err why)
    unfolding region_program
    no_box_program why c = ap (read_array s path from to) e ∙ ap (read_box s reads) c

    pub box_program : (count : ℕ) → box_count array from to ≡ Ok count → region_program s path from to ≡ read_chunks s reads None (replicate count array.fill) (chunks_met array.chunks from to)
    unfolding region_program
    box_program count c = ap (read_array s path from to) e ∙ ap (read_box s reads) c

-- ---- what is to be written
module _ (s : SessionState) (path from to : List ℕ) (numbers : List ℤ) where
  pub read_only : writes s ≡ false → region_set_program s path from to numbers ≡ Done (Err R.ReadOnly)
  unfolding region_set_program
  read_only e = ap (λ b. cond b (write_array s path from to numbers (array_at s path)) (Done (Err R.ReadOnly))) e

  module _ (w : writes s ≡ true) where
    writable : region_set_program s path from to numbers ≡ write_array s path from to numbers (array_at s path)
    unfolding region_set_program
    writable = ap (λ b. cond b (write_array s path from to numbers (array_at s path)) (Done (Err R.ReadOnly))) w

    pub no_array_write : (why : Refusal) → array_at s path ≡ Err why → region_set_program s path from to numbers ≡ Done (Err why)
    no_array_write why e = writable ∙ ap (write_array s path from to numbers) e

    module _ (id : Id8) (array : ArrayView) (e : array_at s path ≡ Ok (id, array)) where
      abbrev written : Reads
      written = record { node = id; array = array; path = path; from = from; to = to }

      pub no_box_write : (why : Refusal) → box_count array from to ≡ Err why → region_set_program s path from to numbers ≡ Done (Err why)
      no_box_write why c = writable ∙ ap (write_array s path from to numbers) e ∙ ap (write_box s written numbers) c

      pub box_write : (count : ℕ) → box_count array from to ≡ Ok count
          → region_set_program s path from to numbers ≡ unless_why (cells_refused array.kind count numbers) (write_chunks (old_chunk s written) s written numbers None (chunks_met array.chunks from to))
      box_write count c = writable ∙ ap (write_array s path from to numbers) e ∙ ap (write_box s written numbers) c

-- neither is a fault of the store
pub calm_edit : (why : Refusal) → IsEdit why → is_fault why ≡ false
calm_edit why i = ap is_fault i.is

pub calm_region : (why : Refusal) → IsRegion why → is_fault why ≡ false
calm_region why i = ap is_fault i.is

-- a box over slices of the plan's lists
pub gridded_at : (array : ArrayView) (from to chunks f t : List ℕ) (count : ℕ) → is_box_of array from to count ≡ true → chunks ≡ array.chunks → f ≡ from → t ≡ to → AreGridded chunks f t
gridded_at array from to chunks f t count h x y z = rw (x, y, z) ((box_of array from to count h).gridded)

pub over_at : (array : ArrayView) (from to chunks f t index : List ℕ) (count : ℕ) → is_box_of array from to count ≡ true → chunks ≡ array.chunks → f ≡ from → t ≡ to → length index ≡ length array.chunks → IsBoxOver f t chunks index
over_at array from to chunks f t index count h x y z rank = rw (x, y, z) ((box_of array from to count h).over index rank)

-- what a plan of this box says
module _ (s : SessionState) (path from to : List ℕ) (told : Result (Id8 × ArrayView) Refusal) (asked : told ≡ array_at s path) where
  pub told_refused : (why : Refusal) → told ≡ Err why → Refuses (region_program s path from to) why
  told_refused why e =
      let none = sym asked ∙ e in
      record { is = λ m. no_array_program s path from to why none; calm = calm_edit why (no_array (get (nodes_seen s) path) why none) }

  module _ (id : Id8) (array : ArrayView) (e : told ≡ Ok (id, array)) (count : Result ℕ Refusal) (counted_is : count ≡ box_count array from to) where
    pub count_refused : (why : Refusal) → count ≡ Err why → Refuses (region_program s path from to) why
    count_refused why c =
        let none = sym counted_is ∙ c in
        record { is = λ m. no_box_program s path from to id array (sym asked ∙ e) why none; calm = calm_region why (refused_box array from to why none) }

    module _ (n : ℕ) (c : count ≡ Ok n) (copy : ArrayView) (same : copy ≡ array) (grid : (text : List ℕ) (a : ArrayView) → array_in text ≡ Some a → has_grid (size_of a.kind) a.shape a.chunks ≡ true) where
      pub passes : is_box_of copy from to n ≡ true
      passes =
          let at = at_array s path id array (sym asked ∙ e) in
          ap (λ (a : ArrayView). is_box_of a from to n) same ∙ box_passes array from to n (grid at.node.text array at.is) (sym counted_is ∙ c)

      pub planned_program : region_program s path from to ≡ read_chunks s (record { node = id; array = copy; path = path; from = from; to = to }) None (replicate n copy.fill) (chunks_met copy.chunks from to)
      planned_program =
          box_program s path from to id array (sym asked ∙ e) n (sym counted_is ∙ c)
          ∙ sym (ap (λ (a : ArrayView). read_chunks s (record { node = id; array = a; path = path; from = from; to = to }) None (replicate n a.fill) (chunks_met a.chunks from to)) same)

-- what a plan of this box says of its writing
module _ (s : SessionState) (path from to : List ℕ) (told : Result (Id8 × ArrayView) Refusal) (asked : told ≡ array_at s path) (numbers : List ℤ) (w : writes s ≡ true) where
  pub told_unwritten : (why : Refusal) → told ≡ Err why → Refuses (region_set_program s path from to numbers) why
  told_unwritten why e =
      let none = sym asked ∙ e in
      record { is = λ m. no_array_write s path from to numbers w why none; calm = calm_edit why (no_array (get (nodes_seen s) path) why none) }

  module _ (id : Id8) (array : ArrayView) (e : told ≡ Ok (id, array)) (count : Result ℕ Refusal) (counted_is : count ≡ box_count array from to) where
    pub count_unwritten : (why : Refusal) → count ≡ Err why → Refuses (region_set_program s path from to numbers) why
    count_unwritten why c =
        let none = sym counted_is ∙ c in
        record { is = λ m. no_box_write s path from to numbers w id array (sym asked ∙ e) why none; calm = calm_region why (refused_box array from to why none) }

    pub planned_write : (n : ℕ) → count ≡ Ok n → (copy : ArrayView) → copy ≡ array
        → region_set_program s path from to numbers
        ≡ unless_why (cells_refused copy.kind n numbers) (write_chunks (old_chunk s (record { node = id; array = copy; path = path; from = from; to = to })) s (record { node = id; array = copy; path = path; from = from; to = to }) numbers None (chunks_met copy.chunks from to))
    planned_write n c copy same =
        box_write s path from to numbers w id array (sym asked ∙ e) n (sym counted_is ∙ c)
        ∙ sym (ap (λ (a : ArrayView). unless_why (cells_refused a.kind n numbers) (write_chunks (old_chunk s (record { node = id; array = a; path = path; from = from; to = to })) s (record { node = id; array = a; path = path; from = from; to = to }) numbers None (chunks_met a.chunks from to))) same)

-- ---- what is told outright
pub array_outright : (A : Type 0) (s : SessionState) (path from to : List ℕ) (r : Result (Id8 × ArrayView) Refusal) → r ≡ array_at s path → (why : Refusal) → r ≡ Err why → ToldOutright {A = A} (box_refused s path from to) (Err why)
array_outright A s path from to r e why f = subst (λ (x : Result (Id8 × ArrayView) Refusal). ToldOutright {A = A} (no_box from to x) (Err why)) (sym f ∙ e) refl

pub count_outright : (A : Type 0) (s : SessionState) (path from to : List ℕ) (r : Result (Id8 × ArrayView) Refusal) → r ≡ array_at s path → (id : Id8) (a : ArrayView) → r ≡ Ok (id, a) → (n : Result ℕ Refusal) → n ≡ box_count a from to → (why : Refusal) → n ≡ Err why → ToldOutright {A = A} (box_refused s path from to) (Err why)
count_outright A s path from to r e id a f n g why h =
    subst (λ (x : Result (Id8 × ArrayView) Refusal). ToldOutright {A = A} (no_box from to x) (Err why)) (sym f ∙ e) (subst (λ (y : Result ℕ Refusal). ToldOutright {A = A} (why_of y) (Err why)) (sym h ∙ g) refl)

pub fine_outright : {A : Type 0} (result : Result A Refusal) (s : SessionState) (path from to : List ℕ) (r : Result (Id8 × ArrayView) Refusal) → r ≡ array_at s path → (id : Id8) (a : ArrayView) → r ≡ Ok (id, a) → (n : Result ℕ Refusal) → n ≡ box_count a from to → (count : ℕ) → n ≡ Ok count → ToldOutright (box_refused s path from to) result
fine_outright result s path from to r e id a f n g count h =
    subst (λ (x : Result (Id8 × ArrayView) Refusal). ToldOutright (no_box from to x) result) (sym f ∙ e) (subst (λ (y : Result ℕ Refusal). ToldOutright (why_of y) result) (sym h ∙ g) tt)

-- beside the session
pub told_beside : (A B : Type 0) (o : Option Refusal) (s : SessionState) (why : Refusal) → ToldOutright {A = A} o (Err why) → ToldBeside {A = B} o s (Err (s, why))
told_beside A B None s why t = tt
told_beside A B (Some other) s why t = let same : why ≡ other = cc in ap (λ (w : Refusal). Err (s, w)) same

pub fine_beside : {A B : Type 0} (o : Option Refusal) (s : SessionState) (x : A) (result : Result B (SessionState × Refusal)) → ToldOutright {A = A} o (Ok x) → ToldBeside o s result
fine_beside None s x result t = tt
fine_beside (Some other) s x result t = absurd (cc)

gridded_ranks : (chunks from to : List ℕ) → AreGridded chunks from to → length from ≡ length to
gridded_ranks [] [] [] g = refl
gridded_ranks [] [] (b ∷ to) g = absurd g
gridded_ranks [] (a ∷ from) to g = absurd g
gridded_ranks (n ∷ chunks) [] to g = absurd g
gridded_ranks (n ∷ chunks) (a ∷ from) [] g = absurd g
gridded_ranks (n ∷ chunks) (a ∷ from) (b ∷ to) g = let rest = gridded_ranks chunks from to g.2 in omega (arith, rest)

pub same_rank : (array : ArrayView) (from to : List ℕ) (count : ℕ) → is_box_of array from to count ≡ true → length from ≡ length to
same_rank array from to count h = gridded_ranks array.chunks from to (box_of array from to count h).gridded

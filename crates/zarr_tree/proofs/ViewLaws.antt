-- The arrays that texts describe have a grid, and a fill value of their type.
use Rattle.std.proofs.Common.{◌≡◌, ◌∙◌, ◌<◌, ◌≤◌, ℕ, ℤ, Bool, true, false, cond, ◌&&◌, List, [], ◌∷◌, length, Option, Some, None, Result, Ok, Err, ok_or, refl, sym, ap, arith}
use Rattle.std.specs.Prelude.{codes, nat_eq, nat_le, IsTrue, option_and_then}
use Rattle.std.specs.List.{list_all}
use Rattle.std.specs.Result.{result_ok}
use Rattle.std.proofs.lemmas.Bool.{eqb-true, leb-true, lt-ltb, ltb-true}
use Rattle.json_words.specs.Reading.{integer_number, whole_numbers}
use Rattle.serde_json.specs.Data.{Data}
use Rattle.serde_json.specs.Find.{get, as_object}
use Rattle.zarr_meta.specs.declared.faults.MetaFault.{MetaFault}
use Rattle.zarr_meta.specs.declared.faults.MetaFault.TheVariants as f
use Rattle.zarr_meta.specs.declared.kinds.IntKind.{IntKind}
use Rattle.zarr_meta.specs.declared.views.ArrayView.{ArrayView}
use Rattle.zarr_meta.specs.declared.views.NodeType.{NodeType}
use Rattle.zarr_meta.specs.declared.views.NodeType.TheVariants as node_type
use Rattle.zarr_meta.specs.declared.views.MetaView.{MetaView}
use Rattle.zarr_meta.specs.declared.views.MetaView.TheVariants as view
use Rattle.zarr_meta.specs.Grids.{grid_of, are_each_below, are_lengths, has_few_chunks, has_small_chunks, has_grid, most_chunks}
use Rattle.zarr_meta.specs.Kinds.{size_of, is_in_range}
use Rattle.zarr_meta.specs.Meta.{◌>>=◌, passes, known_members, array_of, group_of, of_type, view_of, json_of, meta_of, view_in}
use Rattle.zarr_meta.specs.Parts.{has_format, node_type_of, shape_of, kind_of, chunk_items, chunks_of, has_encoding, fill_of, big_of, has_no_transformers, has_attributes, names_of}
use Rattle.zarr_grid.proofs.GridEnds.{length-grid_of}
use Rattle.zarr_tree.specs.Nodes.{array_of_view, array_in, in_grid, are_low}

-- ---- steps that gave a value
step : {A B : Type 0} (r : Result A MetaFault) (next : A → Result B MetaFault) (y : B) → (r >>= next) ≡ Ok y → (x : A) × (r ≡ Ok x) × (next x ≡ Ok y)
step (Ok x) next y h = (x, refl, h)
step (Err fault) next y h = cc

there : {A : Type 0} (o : Option A) (fault : MetaFault) (x : A) → ok_or o fault ≡ Ok x → o ≡ Some x
there (Some y) fault x h = cc
there None fault x h = cc

taken : {A B : Type 0} (o : Option A) (next : A → Option B) (y : B) → option_and_then next o ≡ Some y → (x : A) × (o ≡ Some x) × (next x ≡ Some y)
taken (Some x) next y h = (x, refl, h)
taken None next y h = cc

some_ok : {A : Type 0} (r : Result A MetaFault) (x : A) → result_ok r ≡ Some x → r ≡ Ok x
some_ok (Ok y) x h = cc
some_ok (Err fault) x h = cc

-- the value of a step
abbrev given_of : {A : Type 0} → A → Result A MetaFault → A
given_of other (Ok x) = x
given_of other (Err fault) = other

-- ---- an array's chunks are those of a grid
tested : (b : Bool) (x y : List ℕ) → cond b (Some x) None ≡ Some y → (b ≡ true) × (x ≡ y)
tested true x y h = (refl, cc)
tested false x y h = cc

chunks_grid : (kind : IntKind) (shape chunks : List ℕ) (value : Data) → chunks_of kind shape value ≡ Some chunks → has_grid (size_of kind) shape chunks ≡ true
unfolding chunks_of
chunks_grid kind shape chunks value h =
    let items = taken (chunk_items value) _ chunks h in
    let numbers = taken (whole_numbers items.0) _ chunks items.2 in
    let t = tested (has_grid (size_of kind) shape numbers.0) numbers.0 chunks numbers.2 in
    ap (has_grid (size_of kind) shape) (sym t.1) ∙ t.0

-- ---- its fill value is one of its type
tested_number : (b : Bool) (x y : ℤ) → cond b (Some x) None ≡ Some y → (b ≡ true) × (x ≡ y)
tested_number true x y h = (refl, cc)
tested_number false x y h = cc

fill_in : (kind : IntKind) (fill : ℤ) (value : Data) → fill_of kind value ≡ Some fill → is_in_range kind fill ≡ true
unfolding fill_of
fill_in kind fill value h =
    let read = taken (option_and_then integer_number (get (codes "fill_value") value)) (λ number. cond (is_in_range kind number) (Some number) None) fill h in
    let t = tested_number (is_in_range kind read.0) read.0 fill read.2 in
    ap (is_in_range kind) (sym t.1) ∙ t.0

-- ---- an array that is described
abbrev IsFit : ArrayView → Type 0
IsFit a = (has_grid (size_of a.kind) a.shape a.chunks ≡ true) × (is_in_range a.kind a.fill ≡ true)

array_fit : (value : Data) (a : ArrayView) → array_of value ≡ Ok a → IsFit a
unfolding array_of
array_fit value a h =
    let shape = step (ok_or (shape_of value) f.Shape) _ a h in
    let kind = step (ok_or (kind_of value) f.DataType) _ a shape.2 in
    let chunks = step (ok_or (chunks_of kind.0 shape.0 value) f.Grid) _ a kind.2 in
    let encoding = step (passes (has_encoding value) f.KeyEncoding) _ a chunks.2 in
    let fill = step (ok_or (fill_of kind.0 value) f.Fill) _ a encoding.2 in
    let big = step (ok_or (big_of kind.0 value) f.Codec) _ a fill.2 in
    let transformers = step (passes (has_no_transformers value) f.Transformers) _ a big.2 in
    let attributes = step (passes (has_attributes value) f.Attributes) _ a transformers.2 in
    let names = step (ok_or (names_of (length shape.0) value) f.Names) _ a attributes.2 in
    let members = step (known_members node_type.Array value) _ a names.2 in
    let made = ap (given_of a) members.2 in (
      ap (λ (x : ArrayView). has_grid (size_of x.kind) x.shape x.chunks) (sym made) ∙ chunks_grid kind.0 shape.0 chunks.0 value (there _ f.Grid chunks.0 chunks.1),
      ap (λ (x : ArrayView). is_in_range x.kind x.fill) (sym made) ∙ fill_in kind.0 fill.0 value (there _ f.Fill fill.0 fill.1),
    )

group_never : (value : Data) (a : ArrayView) → group_of value ≡ Ok (view.Array a) → ⊥
unfolding group_of
group_never value a h =
    let attributes = step (passes (has_attributes value) f.Attributes) _ (view.Array a) h in
    let members = step (known_members node_type.Group value) _ (view.Array a) attributes.2 in
    let is : view.Group ≡ view.Array a = ap (given_of (view.Array a)) members.2 in
    cc

node_fit : (kind : NodeType) (value : Data) (a : ArrayView) → of_type kind (group_of value) (array_of value >>= λ array. Ok (view.Array array)) ≡ Ok (view.Array a) → IsFit a
node_fit node_type.Group value a h = absurd (group_never value a h)
node_fit node_type.Array value a h =
    let array = step (array_of value) _ (view.Array a) h in
    let is : view.Array array.0 ≡ view.Array a = ap (given_of (view.Array a)) array.2 in
    array_fit value a (array.1 ∙ ap Ok (array_same array.0 a is))
  where
    array_same : (x y : ArrayView) → view.Array x ≡ view.Array y → x ≡ y
    array_same x y e = cc

view_fit : (value : Data) (a : ArrayView) → view_of value ≡ Ok (view.Array a) → IsFit a
unfolding view_of
view_fit value a h =
    let object = step (ok_or (as_object value) f.Json) _ (view.Array a) h in
    let format = step (passes (has_format value) f.Format) _ (view.Array a) object.2 in
    let kind = step (ok_or (node_type_of value) f.NodeType) _ (view.Array a) format.2 in
    node_fit kind.0 value a kind.2

text_fit : (text : List ℕ) (a : ArrayView) → meta_of text ≡ Ok (view.Array a) → IsFit a
unfolding meta_of
text_fit text a h = let value = step (ok_or (json_of text) f.Json) view_of (view.Array a) h in view_fit value.0 a value.2

array_viewed : (o : Option MetaView) (a : ArrayView) → array_of_view o ≡ Some a → o ≡ Some (view.Array a)
array_viewed (Some (view.Array x)) a h = ap (λ y. Some (view.Array y)) (some_same x a h)
  where
    some_same : (x y : ArrayView) → Some x ≡ Some y → x ≡ y
    some_same x y e = cc
array_viewed (Some view.Group) a h = cc
array_viewed None a h = cc

array_is_fit : (text : List ℕ) (a : ArrayView) → array_in text ≡ Some a → IsFit a
array_is_fit text a h = text_fit text a (some_ok (meta_of text) (view.Array a) (array_viewed (view_in text) a h))

pub array_has_grid : (text : List ℕ) (a : ArrayView) → array_in text ≡ Some a → has_grid (size_of a.kind) a.shape a.chunks ≡ true
array_has_grid text a h = (array_is_fit text a h).0

pub array_fill : (text : List ℕ) (a : ArrayView) → array_in text ≡ Some a → is_in_range a.kind a.fill ≡ true
array_fill text a h = (array_is_fit text a h).1

-- ---- an index in the grid
first : (a b : Bool) → (a && b) ≡ true → a ≡ true
first true b h = refl
first false b h = cc

second : (a b : Bool) → (a && b) ≡ true → b ≡ true
second true b h = h
second false b h = cc

both : (a b : Bool) → a ≡ true → b ≡ true → (a && b) ≡ true
both true b g h = h
both false b g h = cc

record GridParts (size : ℕ) (shape chunks : List ℕ) : Type 0 where
  ranks : length shape ≡ length chunks
  few : has_few_chunks shape chunks ≡ true

grid_parts : (size : ℕ) (shape chunks : List ℕ) → has_grid size shape chunks ≡ true → GridParts size shape chunks
unfolding has_grid
grid_parts size shape chunks h =
    let three = first _ (has_small_chunks size chunks) h in
    let two = first _ (has_few_chunks shape chunks) three in
    record {
      ranks = eqb-true _ _ (first (nat_eq (length shape) (length chunks)) (are_lengths chunks) two);
      few = second _ (has_few_chunks shape chunks) three;
    }

all_low : (index grid : List ℕ) → length index ≡ length grid → are_each_below index grid ≡ true → list_all (λ count. nat_le count most_chunks) grid ≡ true → are_low index ≡ true
all_low [] grid h b g = refl
all_low (n ∷ index) [] h b g = absurd (omega (arith, h))
all_low (n ∷ index) (m ∷ grid) h b g =
    let below : n < m = ltb-true n m (first _ _ b) in
    let least : m ≤ most_chunks = leb-true m most_chunks (first _ _ g) in
    both _ _ (lt-ltb n most_chunks (omega (arith, below, least))) (all_low index grid (omega (arith, h)) (second _ _ b) (second _ _ g))

pub record InGrid (a : ArrayView) (index : List ℕ) : Type 0 where
  pub rank : length index ≡ length a.shape
  pub low : IsTrue (are_low index)

pub in_grid_is : (text : List ℕ) (a : ArrayView) (index : List ℕ) → array_in text ≡ Some a → in_grid a index ≡ true → InGrid a index
in_grid_is text a index h g =
    let parts : GridParts (size_of a.kind) a.shape a.chunks = grid_parts (size_of a.kind) a.shape a.chunks (array_has_grid text a h) in
    let counts : length index ≡ length (grid_of a.shape a.chunks) = eqb-true _ _ (first _ _ g) in
    record {
      rank = counts ∙ length-grid_of a.shape a.chunks parts.ranks;
      low = all_low index (grid_of a.shape a.chunks) counts (second _ _ g) parts.few;
    }

-- What metadata says of an array can be written in a row.
use Rattle.std.proofs.Common.{◌≡◌, ◌*◌, ◌≤◌, ◌<◌, ◌^◌, ℕ, Bool, true, false, cond, ◌&&◌, List, [], ◌∷◌, Option, Some, None, is_some, option_map, refl, arith}
use Rattle.std.specs.Prelude.{nat_le, nat_eq, option_and_then, IfSome, length, zip, ok_or}
use Rattle.std.specs.Int.{div_ceil}
use Rattle.std.specs.List.{AllByRecursion}
use Rattle.std.specs.Result.{result_ok}
use Rattle.std.specs.Str.{is_utf8, IsUtf8}
use Rattle.std.proofs.lemmas.Bool.{leb-true}
use Rattle.std.proofs.lemmas.Grind.{div_ceil_times}
use Rattle.std.proofs.lemmas.Nat.{mul-le}
use Rattle.std.proofs.lemmas.Str.{IsUtf8-from_is_utf8}
use Rattle.serde_json.specs.Read.{read}
use Rattle.file_fields.proofs.Bytes.{utf8_bytes}
use Rattle.ice_base.specs.Lists.{IsBytes}
use Rattle.zarr_meta.specs.declared.faults.MetaFault.TheVariants as fault
use Rattle.zarr_meta.specs.declared.views.ArrayView.{ArrayView}
use Rattle.zarr_meta.specs.Grids.{are_lengths, has_few_chunks, has_small_chunks, has_grid, most_chunk_length, most_chunks}
use Rattle.zarr_meta.specs.Kinds.{size_of}
use Rattle.zarr_meta.specs.Meta.{◌>>=◌, json_of, view_of, meta_of}
use Rattle.zarr_tree.specs.Nodes.{is_metadata, array_in}
use Rattle.zarr_tree.proofs.Apply.{first, second}
use Rattle.zarr_tree.proofs.ViewLaws.{array_has_grid}
use Rattle.snapshot_file.specs.declared.nodes.ManifestRef.{ManifestRef}
use Rattle.snapshot_file.specs.Layout.{IsDimension, IsName, IsManifest, IsKind}
use Rattle.changed_snapshot.specs.Rows.{name_of, names_of, kind_of}

-- metadata is text, and so bytes
pub metadata_bytes : (text : List ℕ) → is_metadata text ≡ true → IsBytes text
unfolding meta_of json_of
metadata_bytes text h = utf8_bytes text (IsUtf8-from_is_utf8 text (by_test (is_utf8 text) refl h))
  where
    by_test : (b : Bool) → is_utf8 text ≡ b → is_some (result_ok (ok_or (cond b (read text) None) fault.Json >>= view_of)) ≡ true → is_utf8 text ≡ true
    by_test true e h = e
    by_test false e h = cc

-- ---- dimensions
dimension : (n c : ℕ) → 1 ≤ c → c ≤ most_chunk_length → div_ceil n c ≤ most_chunks → (n < 2 ^ 64) × (c < 2 ^ 64)
dimension n c least most few =
    let whole = div_ceil_times n c least in
    let all : div_ceil n c * c ≤ most_chunks * most_chunk_length = mul-le (div_ceil n c) c most_chunks most_chunk_length few most in
    (omega (arith, whole.0, all), omega (arith, most))

dimensions : (shape chunks : List ℕ) → are_lengths chunks ≡ true → has_few_chunks shape chunks ≡ true → AllByRecursion IsDimension (zip shape chunks)
dimensions [] chunks lengths few = tt
dimensions (n ∷ shape) [] lengths few = tt
dimensions (n ∷ shape) (c ∷ chunks) lengths few =
    let own = first (nat_le 1 c && nat_le c most_chunk_length) (are_lengths chunks) lengths in
    let least : 1 ≤ c = leb-true 1 c (first (nat_le 1 c) (nat_le c most_chunk_length) own) in
    let most : c ≤ most_chunk_length = leb-true c most_chunk_length (second (nat_le 1 c) (nat_le c most_chunk_length) own) in
    let count : div_ceil n c ≤ most_chunks = leb-true (div_ceil n c) most_chunks (first (nat_le (div_ceil n c) most_chunks) (has_few_chunks shape chunks) few) in
    (dimension n c least most count, dimensions shape chunks (second (nat_le 1 c && nat_le c most_chunk_length) (are_lengths chunks) lengths) (second (nat_le (div_ceil n c) most_chunks) (has_few_chunks shape chunks) few))

grid_dimensions : (size : ℕ) (shape chunks : List ℕ) → has_grid size shape chunks ≡ true → AllByRecursion IsDimension (zip shape chunks)
unfolding has_grid
grid_dimensions size shape chunks h =
    let three = first _ (has_small_chunks size chunks) h in
    let two = first _ (has_few_chunks shape chunks) three in
    dimensions shape chunks (second (nat_eq (length shape) (length chunks)) (are_lengths chunks) two) (second _ (has_few_chunks shape chunks) three)

-- ---- names
name_is : (name : Option (List ℕ)) → IsName (option_and_then name_of name)
name_is None = tt
name_is (Some text) = elim (is_utf8 text) as (λ b. is_utf8 text ≡ b → IfSome (cond b (Some text) None) IsUtf8) [
  | true ↦ λ e. IsUtf8-from_is_utf8 text e
  | false ↦ λ e. tt
] refl

names_are : (names : List (Option (List ℕ))) → AllByRecursion IsName (names_of names)
names_are [] = tt
names_are (name ∷ names) = (name_is name, names_are names)

listed_names : (names : Option (List (Option (List ℕ)))) → IfSome (option_map names_of names) (AllByRecursion IsName)
listed_names None = tt
listed_names (Some names) = names_are names

-- ---- the part of a row
pub kind_is : (text : List ℕ) (manifests : List ManifestRef) → AllByRecursion IsManifest manifests → IsKind (kind_of (array_in text) manifests)
kind_is text manifests named = by_array (array_in text) refl
  where
    by_array : (o : Option ArrayView) → array_in text ≡ o → IsKind (kind_of o manifests)
    by_array None e = tt
    by_array (Some array) e = record {
      shape_is = grid_dimensions (size_of array.kind) array.shape array.chunks (array_has_grid text array e);
      names_are = listed_names array.names;
      manifests_are = named;
    }

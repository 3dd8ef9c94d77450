-- The metadata of rows, read one after another.
use Rattle.std.proofs.Common.{◌≡◌, ℕ, ◌+◌, ◌<◌, ◌≤◌, List, [], ◌∷◌, ◌++◌, map, length, drop, get_or, None, Some, option_map, Ok, Err, refl, sym, ap, ◌∙◌, arith, append_assoc}
use Rattle.std.proofs.lemmas.List.{map-append, length-map, drop_all, append-nil}
use Rattle.std.specs.Prelude.{slice_get}
use Rattle.std.proofs.lemmas.Option.{slice_get-get_or, slice_get-map, slice_get_within}
use Rattle.zarr_meta.specs.declared.metas.Meta.{Meta}
use Rattle.snapshot_file.specs.declared.nodes.NodeRow.{NodeRow}
use Rattle.held_snapshot.proofs.Made.{from_here}
use Rattle.repo_objects.specs.declared.bad_objects.Unread.{Unread}
use Rattle.repo_objects.specs.declared.bad_objects.Unread.TheVariants as unread
use Rattle.repo_objects.specs.declared.bad_objects.Bad.TheVariants.{Node}
use Rattle.repo_objects.specs.Readings.{row_fault, first_bad}
use Rattle.repo_objects.specs.inside.Metas.{AreMetas, LoadsMeta, LoadsMetas}

abbrev texts : List NodeRow → List (List ℕ)
texts rows = map (λ row. row.user_data) rows

-- those of the first rows were read, and none of these rows has a fault
pub record SoFar (rows : List NodeRow) (at : ℕ) (metas : List Meta) : Type 0 where
  pub passed : first_bad at (drop at rows) ≡ first_bad 0 rows
  pub texts : map (λ meta. meta.text) metas ++ map (λ row. row.user_data) (drop at rows) ≡ map (λ row. row.user_data) rows

pub none_read : (rows : List NodeRow) (metas : List Meta) → metas ≡ [] → SoFar rows 0 metas
none_read rows metas none = record { passed = refl; texts = rw none refl }

pub one_more : (rows : List NodeRow) (at : ℕ) (metas after : List Meta) (row : NodeRow) (meta : Meta) → slice_get rows at ≡ Some row → SoFar rows at metas → (row_fault row ≡ None) × (meta.text ≡ row.user_data) → after ≡ metas ++ meta ∷ [] → SoFar rows (at + 1) after
unfolding first_bad
one_more rows at metas after row meta is so_far read grown = record {
  passed =
      let here : first_bad at (row ∷ drop (at + 1) rows) ≡ first_bad (at + 1) (drop (at + 1) rows) = rw (read.0, first_bad) refl in
      sym here ∙ ap (first_bad at) (sym (from_here rows at row is)) ∙ so_far.passed;
  texts =
      rw (grown, map-append (λ (m : Meta). m.text) metas (meta ∷ []), append_assoc, read.1)
      (ap (λ (rest : List NodeRow). map (λ (m : Meta). m.text) metas ++ texts rest) (sym (from_here rows at row is)) ∙ so_far.texts);
}

pub stopped : (rows : List NodeRow) (at : ℕ) (metas : List Meta) (row : NodeRow) (u : Unread) → slice_get rows at ≡ Some row → SoFar rows at metas → LoadsMeta at row (Err u) → LoadsMetas rows (Err u)
unfolding first_bad
stopped rows at metas row unread.NoMemory is so_far why = tt
stopped rows at metas row (unread.Bad bad) is so_far why =
    let here : first_bad at (row ∷ drop (at + 1) rows) ≡ Some (Node at why.0) = rw (why.1, first_bad) refl in
    sym so_far.passed ∙ ap (first_bad at) (from_here rows at row is) ∙ here ∙ ap Some (sym why.2)

pub all_read : (rows : List NodeRow) (at : ℕ) (metas : List Meta) → length rows ≤ at → SoFar rows at metas → LoadsMetas rows (Ok metas)
unfolding first_bad
all_read rows at metas le so_far =
    let end = drop_all at rows le in
    (sym so_far.passed ∙ ap (first_bad at) end, sym (append-nil (map (λ meta. meta.text) metas)) ∙ ap (λ (rest : List NodeRow). map (λ meta. meta.text) metas ++ texts rest) (sym end) ∙ so_far.texts)

-- ---- the metadata of one row

pub same_length : (rows : List NodeRow) (metas : List Meta) → AreMetas rows metas → length metas ≡ length rows
same_length rows metas are = sym (length-map metas (λ meta. meta.text)) ∙ ap length are ∙ length-map rows (λ row. row.user_data)

pub node_read : (rows : List NodeRow) (metas : List Meta) (at : ℕ) (row : NodeRow) (meta : Meta) → AreMetas rows metas → slice_get rows at ≡ Some row → meta ≡ get_or metas at meta → meta.text ≡ row.user_data
node_read rows metas at row meta are is has =
    let lt : at < length metas = omega (arith, same_length rows metas are, slice_get_within rows at row is) in
    let there : slice_get metas at ≡ Some meta = slice_get-get_or metas at meta lt ∙ ap Some (sym has) in
    let left : slice_get (map (λ (m : Meta). m.text) metas) at ≡ Some meta.text = slice_get-map (λ (m : Meta). m.text) metas at ∙ ap (option_map (λ (m : Meta). m.text)) there in
    let right : slice_get (map (λ (r : NodeRow). r.user_data) rows) at ≡ Some row.user_data = slice_get-map (λ (r : NodeRow). r.user_data) rows at ∙ ap (option_map (λ (r : NodeRow). r.user_data)) is in
    let both : Some meta.text ≡ Some row.user_data = sym left ∙ ap (λ (xs : List (List ℕ)). slice_get xs at) are ∙ right in
    cc

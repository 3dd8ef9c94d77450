-- The array after a change is the merged one, its chunks come from the change or from old manifests, and a list of one
-- manifest that has it finds each chunk.
use Rattle.std.proofs.Common.{◌≡◌, ℕ, ◌<◌, Bool, true, false, cond, nat_eq, List, [], ◌∷◌, length, map, slice_index_or, Option, Some, None, option_map, refl, sym, ap, subst, ◌∙◌, arith, All}
use Rattle.std.specs.Prelude.{IfSome}
use Rattle.std.specs.Option.{option_or, option_and_then, unwrap_or}
use Rattle.std.specs.List.Sorted.{IsStrictlySortedBy}
use Rattle.std.specs.Map.{keys_of}
use Rattle.std.specs.BTreeMap.{BTreeMap}
use Rattle.std.specs.FinMap.{entries, entries_sorted, slice_cmp-IsAntisymmetric, nat_cmp-IsAntisymmetric}
use Rattle.std.specs.FinMap.Entries.{same_entries}
use Rattle.std.proofs.lemmas.Cmp.{nat_list_cmp_total}
use Rattle.std.proofs.lemmas.List.{get_or-map, length-map}
use Rattle.std.proofs.lemmas.List.Elements.{All-contains}
use Rattle.zarr_path.specs.Indices.{index_cmp}
use Rattle.zarr_path.proofs.PathLaws.{by_numbers}
use Rattle.ice_ids.specs.declared.Id8.{Id8}
use Rattle.ice_ids.specs.declared.Id12.{Id12}
use Rattle.ice_ids.specs.Text.{same_id8}
use Rattle.ice_ids.proofs.TextLaws.{same_id8-self}
use Rattle.flat_tables.specs.Rows.{Ascends}
use Rattle.manifest_file.specs.declared.manifest.Place.{Place}
use Rattle.manifest_file.specs.declared.manifest.ChunkRef.{ChunkRef}
use Rattle.manifest_file.specs.declared.manifest.ArrayRefs.{ArrayRefs}
use Rattle.manifest_file.specs.Manifests.{ref_key}
use Rattle.held_manifest.specs.LookUp.{Listed, within, place_of, entry_of, entry_seen, look_up}
use Rattle.manifest_index.specs.Merging.{ChunkChange, changed_at, merged, places_after, entry_chunk, array_with, merged_array, IsMerged, IsFrom}
use Rattle.manifest_index.specs.Extents.{extents_for}
use Rattle.manifest_index.specs.Laws.{MergedLaw, list_of, IsNewList, NewListLaw}
use Rattle.manifest_index.specs.inside.Chunks.{chunk_at, AreRows}
use Rattle.manifest_index.proofs.Collected.{Entries, rows_ascend, rows_found}
use Rattle.manifest_index.proofs.Named.{after_found}
use Rattle.manifest_index.proofs.Sorted.{keys_sorted, sorted_tested, found_same, own_found}
use Rattle.manifest_index.proofs.Ranks.{each_ranked}
use Rattle.manifest_index.proofs.From.{chunk_found, merged_from}
use Rattle.manifest_index.proofs.Least.{extents_are_least}

-- ---- the chunks after a change

abbrev pub after : ℕ → Id8 → List Listed → List ChunkChange → Entries
after rank node old change = entries (places_after rank node old change)

after_sorted : (rank : ℕ) (node : Id8) (old : List Listed) (change : List ChunkChange) → IsStrictlySortedBy index_cmp (keys_of (after rank node old change))
after_sorted rank node old change = keys_sorted (after rank node old change) (entries_sorted (places_after rank node old change))

after_placed : (rank : ℕ) (node : Id8) (old : List Listed) (change : List ChunkChange) (q : List ℕ) → place_of q (map entry_chunk (after rank node old change)) ≡ merged rank node old change q
after_placed rank node old change q =
    rows_found (after rank node old change) q ∙ found_same (after rank node old change) q ∙ after_found rank node old change q

with_refs : (rank : ℕ) (node : Id8) (old : List Listed) (change : List ChunkChange) (refs : List ChunkRef) → Ascends ref_key None refs
    → ((q : List ℕ) → place_of q refs ≡ merged rank node old change q) → IsMerged rank node old change (array_with node refs)
with_refs rank node old change [] ascend are = λ q. sym (are q)
with_refs rank node old change (r ∷ rs) ascend are = (refl, omega arith, ascend, are)

if_refs : (Q : ChunkRef → Type 0) (node : Id8) (refs : List ChunkRef) → All Q refs → IfSome (array_with node refs) (λ array. All Q array.refs)
if_refs Q node [] all = tt
if_refs Q node (r ∷ rs) all = all

each_is_from : (rank : ℕ) (node : Id8) (old : List Listed) (change : List ChunkChange) → All (IsFrom node old change) (map entry_chunk (after rank node old change))
each_is_from rank node old change = λ j d below.
    let es : Entries = after rank node old change in
    let e : List ℕ × Place = (d.index, d.place) in
    let under : j < length es = omega (arith, below, length-map es entry_chunk) in
    let entry : List ℕ × Place = slice_index_or es j e in
    let at : slice_index_or (map entry_chunk es) j d ≡ entry_chunk entry = get_or-map entry_chunk es j e d under in
    let found : merged rank node old change entry.0 ≡ Some entry.1 = sym (after_found rank node old change entry.0) ∙ own_found es j e under (after_sorted rank node old change) in
    subst (IsFrom node old change) (sym at) (merged_from rank node old change entry.0 entry.1 found)

pub merged_is_law : MergedLaw
unfolding merged_array
merged_is_law = record {
  merged = λ rank node old change. with_refs rank node old change (map entry_chunk (after rank node old change))
      (rows_ascend (after rank node old change) (after_sorted rank node old change)) (after_placed rank node old change);
  ranks = λ rank node old change. if_refs (λ r. length r.index ≡ rank) node (map entry_chunk (after rank node old change))
      (each_ranked rank node old change (map entry_chunk (after rank node old change)) (after_placed rank node old change));
  each_from = λ rank node old change. if_refs (IsFrom node old change) node (map entry_chunk (after rank node old change)) (each_is_from rank node old change);
}

-- ---- the call's chunks are those

pub refs_are : (rank : ℕ) (node : Id8) (old : List Listed) (change : List ChunkChange) (chunks : BTreeMap (List ℕ) Place) (refs : List ChunkRef) → AreRows chunks refs
    → ((q : List ℕ) → chunk_at q chunks ≡ merged rank node old change q) → array_with node refs ≡ merged_array rank node old change
unfolding merged_array
refs_are rank node old change chunks refs rows are =
    let same : chunks.entries ≡ after rank node old change =
    same_entries index_cmp nat_list_cmp_total (slice_cmp-IsAntisymmetric nat_cmp-IsAntisymmetric) chunks.entries (after rank node old change)
    (sorted_tested chunks.entries rows.1) (entries_sorted (places_after rank node old change))
    (λ q. sym (found_same chunks.entries q) ∙ are q ∙ sym (after_found rank node old change q)) in
    ap (array_with node) (rows.0 ∙ ap (map entry_chunk) same)

pub none_with : (node : Id8) (refs : List ChunkRef) → nat_eq (length refs) 0 ≡ true → None ≡ array_with node refs
none_with node [] h = refl
none_with node (r ∷ rs) h = let none : length (r ∷ rs) ≡ 0 = (by_numbers (length (r ∷ rs)) 0).0 h in absurd (omega (arith, none))

pub some_with : (node : Id8) (refs : List ChunkRef) → nat_eq (length refs) 0 ≡ false → Some (record { node = node; refs = refs }) ≡ array_with node refs
some_with node [] h = absurd cc
some_with node (r ∷ rs) h = refl

-- ---- a list of one manifest

or_none : (o : Option Place) → option_or o None ≡ o
or_none None = refl
or_none (Some place) = refl

seen_in : (rank : ℕ) (id : Id12) (array : ArrayRefs) (q : List ℕ) (w : Bool) → within (extents_for rank array.refs) q ≡ w → All (λ r. within (extents_for rank array.refs) r.index ≡ true) array.refs
    → cond w (place_of q array.refs) None ≡ place_of q array.refs
seen_in rank id array q true e inside = refl
seen_in rank id array q false e inside = by_place (place_of q array.refs) refl
  where
    by_place : (o : Option Place) → place_of q array.refs ≡ o → None ≡ o
    by_place None p = refl
    by_place (Some place) p =
        let here : within (extents_for rank array.refs) q ≡ true =
        All-contains (λ (r : ChunkRef). within (extents_for rank array.refs) r.index ≡ true) array.refs (record { index = q; place = place }) inside (chunk_found q place array.refs p) in
        let no : false ≡ true = sym e ∙ here in
        absurd cc

list_finds : (rank : ℕ) (node : Id8) (old : List Listed) (change : List ChunkChange) (array : ArrayRefs) → IsMerged rank node old change (Some array) → All (λ r. length r.index ≡ rank) array.refs → IsNewList rank node old change (Some array)
list_finds rank node old change array is ranks = λ id q.
    let refs : List ChunkRef = array.refs in
    let own : same_id8 array.node node ≡ true = ap (λ (n : Id8). same_id8 n node) is.0 ∙ same_id8-self node in
    let inside = (extents_are_least rank refs is.1 ranks).2 in
    let entry : entry_of node q (record { id = id; arrays = array ∷ [] }) ≡ place_of q refs = ap (λ b. option_and_then (place_of q) (option_map (λ (a : ArrayRefs). a.refs) (cond b (Some array) None))) own in
    let seen : look_up node q (list_of rank id array) ≡ place_of q refs =
    or_none (entry_seen node q (extents_for rank refs, record { id = id; arrays = array ∷ [] }))
    ∙ ap (λ (p : Option Place). cond (within (extents_for rank refs) q) p None) entry
    ∙ seen_in rank id array q (within (extents_for rank refs) q) refl inside in
    ap (λ (p : Option Place). cond (nat_eq (length q) rank) p None) (seen ∙ is.3 q) ∙ same_rank (nat_eq (length q) rank) (unwrap_or (changed_at q change) (look_up node q old))
  where
    same_rank : (b : Bool) (p : Option Place) → cond b (cond b p None) None ≡ cond b p None
    same_rank true p = refl
    same_rank false p = refl

by_array : (rank : ℕ) (node : Id8) (old : List Listed) (change : List ChunkChange) (m : Option ArrayRefs) → IsMerged rank node old change m → IfSome m (λ array. All (λ r. length r.index ≡ rank) array.refs) → IsNewList rank node old change m
by_array rank node old change None is ranks = is
by_array rank node old change (Some array) is ranks = list_finds rank node old change array is ranks

pub new_list_is_law : NewListLaw
new_list_is_law = λ rank node old change. by_array rank node old change (merged_array rank node old change) (merged_is_law.merged rank node old change) (merged_is_law.ranks rank node old change)

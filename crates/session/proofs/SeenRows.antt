-- What a session reads, and that it begins with no more nodes than a tree may have.
use Rattle.std.proofs.Common.{◌≡◌, ℕ, ◌≤◌, List, map, sym, ap, subst, ◌∙◌, arith}
use Rattle.std.specs.Prelude.{Bool, true, Option, None, Some, is_some, option_map, Ok, is_ok, IsOk}
use Rattle.std.specs.List.{filter}
use Rattle.std.specs.FinMap.{FinMap, get, entries, len, len-empty}
use Rattle.std.proofs.lemmas.Simd.{map-map}
use Rattle.zarr_path.specs.Paths.{path_cmp, is_beneath}
use Rattle.zarr_tree.specs.Nodes.{Node, is_array}
use Rattle.zarr_tree.specs.Edits.{most_nodes}
use Rattle.zarr_tree.specs.Held.{Held, nodes_over}
use Rattle.zarr_changes.specs.Edits.{nothing}
use Rattle.zarr_changes.specs.Sets.{rows_beneath}
use Rattle.zarr_changes.proofs.OwnLaws.{len-over}
use Rattle.manifest_file.specs.declared.manifest.Place.{Place}
use Rattle.snapshot_file.specs.declared.snapshot.SnapshotFile.{SnapshotFile}
use Rattle.snapshot_file.specs.Layout.{IsWritable}
use Rattle.repo_objects.specs.Trees.{nodes_in}
use Rattle.repo_objects.proofs.Rows.{len-nodes}
use Rattle.session.specs.declared.session.Listing.{Listing}
use Rattle.session.specs.Sessions.{SessionState, nodes_seen}
use Rattle.session.specs.Editing.{listing, beneath, if_there, listed}

-- the rows beneath a path as a listing
abbrev row_listing : List ℕ × Bool → Listing
row_listing row = record { path = row.0; array = row.1 }

listed-rows : (nodes : FinMap path_cmp Node) (p : List ℕ) → map row_listing (rows_beneath nodes p) ≡ map listing (filter (λ row. is_beneath p row.0) (entries nodes))
listed-rows nodes p = map-map row_listing (λ (row : List ℕ × Node). (row.0, is_array row.1.text)) (filter (λ row. is_beneath p row.0) (entries nodes))

-- where a node stands at the path, these are listed
pub listed-there : {F : Type 0} (found_of : F → Node) (found : Option F) (s : SessionState) (p : List ℕ) (rows : List (List ℕ × Bool)) (list : List Listing) → is_some found ≡ true → option_map found_of found ≡ get (nodes_seen s) p → rows ≡ rows_beneath (nodes_seen s) p
    → list ≡ map row_listing rows → listed s p ≡ Ok list
listed-there found_of None s p rows list n f r l = absurd (cc)
listed-there found_of (Some x) s p rows list n f r l = sym (ap (λ (o : Option Node). if_there o (beneath s p)) f) ∙ ap (λ (x : List Listing). Ok x) (sym (listed-rows (nodes_seen s) p) ∙ sym (ap (map row_listing) r) ∙ sym l)

pub list-there : {F : Type 0} (found_of : F → Node) (found : Option F) (s : SessionState) (p : List ℕ) → is_some found ≡ true → option_map found_of found ≡ get (nodes_seen s) p → IsOk (listed s p)
list-there found_of None s p n f = absurd (cc)
list-there found_of (Some x) s p n f = ap (λ (o : Option Node). is_ok (if_there o (beneath s p))) (sym f)

-- what was loaded has no more nodes than a tree may have
pub few-loaded : (s : SnapshotFile) (held : Held Place) → IsWritable s → held ≡ nothing → len (nodes_over held (nodes_in s.nodes)) ≤ most_nodes
few-loaded s held w e =
    let most = len-over {P = Place} nothing (nodes_in s.nodes) in
    let bare : len (nothing {P = Place}).added ≡ 0 = len-empty path_cmp Node in
    let rows = len-nodes s.nodes w.nodes in
    let few = w.few in
    subst (λ (h : Held Place). len (nodes_over h (nodes_in s.nodes)) ≤ most_nodes) (sym e) (omega arith)

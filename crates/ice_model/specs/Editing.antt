-- What an edit on a side does (own).
use Rattle.std.specs.Prelude.{◌≡◌, ℕ, Bool, true, false, List, Option, Some, None, Result, Ok, Err}
use Rattle.std.specs.FinMap.{FinMap}
use Rattle.zarr_path.specs.Paths.{path_cmp}
use Rattle.zarr_tree.specs.declared.edit.EditFault.{EditFault}
use Rattle.zarr_tree.specs.Nodes.{Node}
use Rattle.zarr_tree.specs.Trees.{Tree}
use Rattle.zarr_tree.specs.Edits.{Edit as Edits}
use Rattle.zarr_tree.specs.Held.{Held, nodes_over}
use Rattle.zarr_tree.specs.Changes.{Changes, extend}
use Rattle.manifest_file.specs.declared.manifest.Place.{Place}
use Rattle.manifest_file.specs.declared.manifest.Place.TheVariants.{Inline}
use Rattle.zarr_changes.specs.Edits.{with_added, with_text_at, without_node}
use Rattle.zarr_changes.specs.Edits.{with_chunk_at, without_chunk_at}
use Rattle.zarr_changes.specs.Sets.{Enters, add_refusal, text_refusal, drop_refusal}
use Rattle.zarr_changes.specs.Sets.{set_refusal, unset_refusal, length_of}
use Rattle.tree_model.specs.declared.edits.Edit.{Edit}
use Rattle.tree_model.specs.declared.edits.Edit.TheVariants as edit

-- the answer that says why an edit was refused, if it was
abbrev pub answered : Option EditFault → Result (Unit {0}) EditFault
answered None = Ok tt
answered (Some fault) = Err fault

-- the edit is entered over a base with these nodes, or refused, and then what is held stays;
-- the bytes of a chunk stand inline
abbrev pub EntersEdit : Edit → FinMap path_cmp Node → (before : Held Place)
    → Result (Unit {0}) EditFault → (after : Held Place) → Type 0
EntersEdit (edit.Add p id meta) nodes h r k =
    Enters (add_refusal (nodes_over h nodes) p)
    (with_added h p (record { id = id; text = meta.text })) h r k
EntersEdit (edit.SetMeta p meta) nodes h r k =
    Enters (text_refusal (nodes_over h nodes) p meta.text) (with_text_at h nodes p meta.text) h r k
EntersEdit (edit.Drop p) nodes h r k =
    Enters (drop_refusal (nodes_over h nodes) p) (without_node h nodes p) h r k
EntersEdit (edit.Set p i bytes) nodes h r k =
    Enters (set_refusal (nodes_over h nodes) p i (length_of (Inline bytes)))
    (with_chunk_at h nodes p i (Inline bytes)) h r k
EntersEdit (edit.Unset p i) nodes h r k =
    Enters (unset_refusal (nodes_over h nodes) p i) (without_chunk_at h nodes p i) h r k

-- a change set takes the edit, or stays
abbrev pub Entered : Edit → FinMap path_cmp Node → (before : Held Place) → (done : Bool)
    → (after : Held Place) → Type 0
Entered e nodes h true k = EntersEdit e nodes h (Ok tt) k
Entered e nodes h false k = k ≡ h

-- the model's changes of a tree take the edit, or stay
abbrev pub Extended : Edits → Tree → (before : Changes) → (done : Bool) → (after : Changes) → Type 0
Extended e t c true d = extend c t e ≡ Ok d
Extended e t c false d = d ≡ c

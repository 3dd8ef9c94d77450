-- What the lines of a script do to the tree that a session sees, and what they show: in words of
-- trees alone. (Zarr v3 core specification, "Hierarchy", "Chunks", "Stores".)
use Rattle.std.specs.Prelude.{◌≡◌, ℕ, ℤ, List, [], ◌∷◌, ◌++◌, map, filter}
use Rattle.std.specs.Prelude.{replicate, Option, Some, None, option_map, Ok}
use Rattle.std.specs.FinMap.{entries}
use Rattle.ice_ids.specs.declared.Id8.{Id8}
use Rattle.ice_ids.specs.declared.Id12.{Id12}
use Rattle.store_api.specs.declared.machines.Refusal.{Refusal}
use Rattle.zarr_path.specs.Paths.{is_beneath}
use Rattle.zarr_path.specs.Keys.{key_of}
use Rattle.zarr_path.specs.declared.keys.ZarrKey.{ZarrKey}
use Rattle.zarr_path.specs.declared.keys.ZarrKey.TheVariants as K
use Rattle.zarr_meta.specs.Plain.{group_text}
use Rattle.zarr_tree.specs.Nodes.{Node, is_array}
use Rattle.zarr_tree.specs.Trees.{Tree, node_at}
use Rattle.zarr_tree.specs.Edits.{Edit, Add, SetMeta, Drop, Set, Unset, change}
use Rattle.zarr_meta.specs.declared.views.ArrayView.{ArrayView}
use Rattle.array_region.specs.Cells.{array_of_tree, cells_of}
use Rattle.array_region.specs.Planning.{box_count}
use Rattle.array_region.specs.Writing.{cells_refused}
use Rattle.region_calls.specs.Written.{IsTreeWith}
use Rattle.script_calls.specs.declared.calls.CellBox.{CellBox}
use Rattle.script_calls.specs.declared.calls.EditCall.{EditCall}
use Rattle.script_calls.specs.declared.calls.EditCall.TheVariants as E
use Rattle.script_calls.specs.declared.calls.ReadCall.{ReadCall}
use Rattle.script_calls.specs.declared.calls.ReadCall.TheVariants as R
use Rattle.script_calls.specs.declared.calls.Call.{Call}
use Rattle.script_calls.specs.declared.calls.Call.TheVariants as C
use Rattle.play_script.specs.declared.scripts.Line.{Line}
use Rattle.play_outcome.specs.declared.outcome.Shown.{Shown}
use Rattle.play_outcome.specs.declared.outcome.Shown.TheVariants as S
use Rattle.session.specs.Chunks.{length_at}

-- ---- edits
-- another text for the node that is there, else a new node
abbrev pub text_put : Option Node → Id8 → (path text : List ℕ) → Edit
text_put None id path text = Add path id text
text_put (Some node) id path text = SetMeta path text

-- the value of a key is a node's text or a chunk's bytes; a word that is no key sets nothing
abbrev pub key_put : Option ZarrKey → Id8 → (bytes : List ℕ) → Tree → Option Edit
key_put None id bytes t = None
key_put (Some (K.Meta path)) id bytes t = Some (text_put (node_at t path) id path bytes)
key_put (Some (K.Chunk path index)) id bytes t = Some (Set path index bytes)

abbrev pub key_erase : Option ZarrKey → Option Edit
key_erase None = None
key_erase (Some (K.Meta path)) = Some (Drop path)
key_erase (Some (K.Chunk path index)) = Some (Unset path index)

-- the edit of the tree that a line asks for; a node that it adds gets this id. What puts
-- numbers into a box asks for none.
abbrev pub edit_of : EditCall → Id8 → Tree → Option Edit
edit_of (E.Group path) id t = Some (Add path id group_text)
edit_of (E.Array path text) id t = Some (Add path id text)
edit_of (E.Make path text) id t = Some (Add path id text)
edit_of (E.Meta path text) id t = Some (SetMeta path text)
edit_of (E.Drop path) id t = Some (Drop path)
edit_of (E.Set path index bytes) id t = Some (Set path index bytes)
edit_of (E.Fill path index byte) id t =
    Some (Set path index (replicate (length_at (node_at t path)) byte))
edit_of (E.Unset path index) id t = Some (Unset path index)
edit_of (E.Put place numbers) id t = None
edit_of (E.KeySet key bytes) id t = key_put (key_of key) id bytes t
edit_of (E.KeyErase key) id t = key_erase (key_of key)

-- ---- reads
-- what stands strictly beneath a path, in the order of the paths' bytes
abbrev pub beneath_shown : ℕ → Tree → List ℕ → List Shown
beneath_shown line t path =
    map (λ row. S.Node line (is_array row.1.text) row.0)
    (filter (λ row. is_beneath path row.0) (entries t.nodes))

-- a chunk's bytes, where none is held the fill value; what a key has, or nothing
abbrev pub chunk_shown : ℕ → Option (List ℕ) → Shown
chunk_shown line (Some bytes) = S.Chunk line bytes
chunk_shown line None = S.Fill line

abbrev pub key_shown : ℕ → Option ZarrKey → Tree → Option (List Shown)
key_shown line None t = None
key_shown line (Some (K.Meta path)) t =
    Some (S.Key line (option_map (λ (node : Node). node.text) (node_at t path)) ∷ [])
key_shown line (Some (K.Chunk path index)) t = Some (S.Key line (t.chunk path index) ∷ [])

-- the numbers of a box's cells
abbrev pub cells_shown : ℕ → Option (List ℤ) → Option (List Shown)
cells_shown line numbers = option_map (λ (held : List ℤ). S.Cells line held ∷ []) numbers

-- what a read in this line of the script shows of the tree, unless it is refused
abbrev pub shown_of : ℕ → ReadCall → Tree → Option (List Shown)
shown_of line (R.List path) t =
    option_map (λ (node : Node). beneath_shown line t path) (node_at t path)
shown_of line (R.Get path) t =
    option_map (λ (node : Node). S.Meta line node.text ∷ []) (node_at t path)
shown_of line (R.Chunk path index) t = Some (chunk_shown line (t.chunk path index) ∷ [])
shown_of line (R.Cells place) t = cells_shown line (cells_of t place.path place.from place.to)
shown_of line (R.KeyGet key) t = key_shown line (key_of key) t

-- ---- lines
-- An edit that was played: the tree took it, and nothing is shown.
pub record Edits (edit : EditCall) (t : Tree) (shown : List Shown) (u : Tree) : Type 0 where
  pub id : Id8
  pub made : Edit
  pub asked : edit_of edit id t ≡ Some made
  pub changed : change t made ≡ Ok u
  pub silent : shown ≡ []

-- Numbers that were put into a box: the tree has the array, the box lies in it, and it has as many
-- cells as there are numbers, each of the array's type. Behind it the box has these numbers, each
-- other cell the one that it had, and all else is as it was; and nothing is shown.
pub record PutsBox (place : CellBox) (numbers : List ℤ) (t : Tree) (shown : List Shown)
    (u : Tree) : Type 0 where
  pub array : ArrayView
  pub there : array_of_tree t place.path ≡ Some array
  pub count : ℕ
  pub counted : box_count array place.from place.to ≡ Ok count
  pub fit : cells_refused array.kind count numbers ≡ None
  pub box : IsTreeWith place.path array place.from place.to numbers t u
  pub silent : shown ≡ []

abbrev pub Changed : EditCall → Tree → List Shown → Tree → Type 0
Changed (E.Put place numbers) t shown u = PutsBox place numbers t shown u
Changed edit t shown u = Edits edit t shown u

-- A call that was played on a session that sees the tree t, what it showed, and the tree
-- behind it. A commit is none of these; calls on refs stand in no session's body; a property
-- is the commit's, and leaves the tree as it is, and so does a lease, of which its id is
-- shown, and why it was left, if it was.
abbrev pub Does : ℕ → Call → Tree → List Shown → Tree → Type 0
Does line (C.Edit edit) t shown u = Changed edit t shown u
Does line (C.Read read) t shown u = (shown_of line read t ≡ Some shown) × (u ≡ t)
Does line (C.Commit message) t shown u = ⊥
Does line (C.Ref call) t shown u = (shown ≡ []) × (u ≡ t)
Does line (C.Prop name value) t shown u = (shown ≡ []) × (u ≡ t)
Does line C.Lease t shown u =
    (id : Id12) × (left : Option Refusal) × (shown ≡ S.Lease line id left ∷ []) × (u ≡ t)

-- lines one after another
unfoldable pub DoesAll : List Line → Tree → List Shown → Tree → Type 0
DoesAll [] t shown u = (shown ≡ []) × (u ≡ t)
DoesAll (l ∷ ls) t shown u =
    (first more : List Shown) × (mid : Tree) × (shown ≡ first ++ more)
    × Does l.number l.call t first mid × DoesAll ls mid more u

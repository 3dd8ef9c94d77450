-- What the values of the code stand for. (Own; the definitions are those of `zarr_tree`.)
use Rattle.std.specs.Prelude.{◌≡◌, ℕ, List, [], ◌∷◌, map, if◌then◌else◌}
use Rattle.std.specs.Prelude.{Option, Some, None, Result, Ok, Err}
use Rattle.std.specs.FinMap.{FinMap, get}
use Rattle.zarr_path.specs.Paths.{path_cmp, is_within}
use Rattle.zarr_tree.specs.declared.edit.EditFault.{EditFault}
use Rattle.zarr_tree.specs.declared.edit.EditFault.TheVariants.{NoMemory}
use Rattle.zarr_tree.specs.Nodes.{Node}
use Rattle.zarr_tree.specs.Trees.{Tree}
use Rattle.zarr_tree.specs.Edits.{Edit, Add, SetMeta, Drop, Set, Unset, is_place, change}
use Rattle.zarr_tree.specs.Changes.{Changes, extend, chunk_of}
use Rattle.zarr_tree.specs.Held.{Held, changes_of as changes_held}
use Rattle.tree_model.specs.declared.edits.Edit.{Edit as Code}
use Rattle.tree_model.specs.declared.edits.Edit.TheVariants as code
use Rattle.tree_model.specs.declared.trees.Tree.{Tree as Lists}
use Rattle.tree_model.specs.declared.trees.Write.{Write}
use Rattle.tree_model.specs.declared.trees.Write.TheVariants.{Chunk, Gone}
use Rattle.tree_model.specs.declared.changes.Changes.{Changes as ChangeLists}
use Rattle.tree_model.specs.declared.trees_under.Under.{Under}

abbrev pub edit_of : Code → Edit
edit_of (code.Add p id meta) = Add p id meta.text
edit_of (code.SetMeta p meta) = SetMeta p meta.text
edit_of (code.Drop p) = Drop p
edit_of (code.Set p i bytes) = Set p i bytes
edit_of (code.Unset p i) = Unset p i

-- a chunk after a write
abbrev pub written : (path index : List ℕ) → Option (List ℕ) → Write → Option (List ℕ)
written q j held (Chunk p i bytes) = if is_place p i q j then bytes else held
written q j held (Gone p) = if is_within p q then None else held

-- and after one write after another
abbrev pub held_after : (path index : List ℕ) → Option (List ℕ) → List Write → Option (List ℕ)
held_after q j held [] = held
held_after q j held (write ∷ writes) = held_after q j (written q j held write) writes

-- a tree: at first no chunk is held
abbrev pub tree_of : Lists → Tree
tree_of t = record { nodes = t.nodes; chunk = λ q j. held_after q j None t.writes }

-- a tree of these nodes, where it makes no difference which chunks are held
abbrev pub tree_with : FinMap path_cmp Node → Tree
tree_with nodes = record { nodes = nodes; chunk = λ q j. None }

-- changes, whose lists have the bytes of chunks themselves
abbrev pub held_of : ChangeLists → Held (List ℕ)
held_of c = record {
  dropped = c.dropped;
  added = c.added;
  metas = map (λ row. (row.0, row.1.text)) c.metas.items;
  chunks = c.chunks.items;
}

abbrev pub changes_of : ChangeLists → Changes
changes_of c = changes_held Some (held_of c)

-- a tree under changes: its nodes are listed, and a chunk is looked for in
-- the changes, and then in the tree
abbrev pub under_of : Under → Tree
under_of u = record {
  nodes = u.nodes;
  chunk = λ p i. chunk_of (changes_of u.changes.now).chunks
      (tree_of u.tree.now) p i (get u.nodes p);
}

-- the edit is done as its definition says, or refused for its reason, and then the tree stays; it
-- also stays where memory runs out, which may come instead
abbrev pub Takes : (before : Tree) → Edit → Result (Unit {0}) EditFault → (after : Tree) → Type 0
Takes t e (Ok done) u = change t e ≡ Ok u
Takes t e (Err NoMemory) u = u ≡ t
Takes t e (Err fault) u = (change t e ≡ Err fault) × (u ≡ t)

-- and so with one more edit in changes of a tree
abbrev pub Extends : (before : Changes) → Tree → Edit → Result (Unit {0}) EditFault
    → (after : Changes) → Type 0
Extends c t e (Ok done) d = extend c t e ≡ Ok d
Extends c t e (Err NoMemory) d = d ≡ c
Extends c t e (Err fault) d = (extend c t e ≡ Err fault) × (d ≡ c)

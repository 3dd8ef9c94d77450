-- Changes: what edits have done to a tree. (Own.)
use Rattle.std.specs.Prelude.{◌≡◌, ◌≢◌, ℕ, Bool, true, false, not, ◌&&◌, ◌||◌, if◌then◌else◌, List}
use Rattle.std.specs.Prelude.{◌++◌, map, Option, Some, None, is_some, unwrap_or, Result, Ok, Err}
use Rattle.std.specs.List.{list_any}
use Rattle.std.specs.FinMap.{FinMap, empty, get, insert, retain_keys, entries, from_entries, keys}
use Rattle.ice_ids.specs.declared.Id8.{Id8}
use Rattle.ice_ids.specs.Text.{same_id8}
use Rattle.zarr_path.specs.Paths.{path_cmp, is_path, is_within}
use Rattle.zarr_tree.specs.declared.edit.EditFault.{EditFault}
use Rattle.zarr_tree.specs.Nodes.{Node, is_metadata, is_array, SameFrozen, Fits, same_numbers}
use Rattle.zarr_tree.specs.Trees.{Tree, node_at, IsWellFormed}
use Rattle.zarr_tree.specs.Edits.{Edit, Add, SetMeta, Drop, Set, Unset, with_text, refusal, unless}

-- the ids of nodes that were dropped, the added nodes by their paths, other texts by the ids of
-- their nodes, and by the id of an array and an index the bytes of a chunk, or that none is held
pub record Changes : Type 0 where
  pub dropped : Id8 → Bool
  pub added : FinMap path_cmp Node
  pub metas : Id8 → Option (List ℕ)
  pub chunks : Id8 → (index : List ℕ) → Option (Option (List ℕ))

-- no changes
abbrev pub none : Changes
none = record { dropped = λ id. false; added = empty; metas = λ id. None; chunks = λ id i. None }

-- ---- the tree under changes

-- whether there is a node, and it was dropped
abbrev pub is_dropped : (dropped : Id8 → Bool) → Option Node → Bool
is_dropped dropped None = false
is_dropped dropped (Some n) = dropped n.id

-- whether the node at a path is gone: it or one above it was dropped
unfoldable pub is_gone : (dropped : Id8 → Bool) → FinMap path_cmp Node → List ℕ → Bool
is_gone dropped nodes p =
    list_any (λ q. is_within q p && is_dropped dropped (get nodes q)) (keys nodes)

-- the node with its other text, if it has one
abbrev pub patched : (metas : Id8 → Option (List ℕ)) → Node → Node
patched metas n = record n { text = unwrap_or (metas n.id) n.text }

-- the added nodes, and at the other paths the tree's own that aren't gone, with their other texts
unfoldable pub nodes_after : (added : FinMap path_cmp Node)
    (dropped : Id8 → Bool) (metas : Id8 → Option (List ℕ))
    → FinMap path_cmp Node → FinMap path_cmp Node
nodes_after added dropped metas nodes =
    from_entries (entries added ++ map (λ row. (row.0, patched metas row.1))
    (entries (retain_keys nodes (λ p. not (is_gone dropped nodes p)))))

abbrev pub nodes_under : Changes → FinMap path_cmp Node → FinMap path_cmp Node
nodes_under c nodes = nodes_after c.added c.dropped c.metas nodes

-- whether there is a node, and it has this id
abbrev pub has_id : Id8 → Option Node → Bool
has_id id None = false
has_id id (Some n) = same_id8 n.id id

-- the tree's chunk, where the node there has this id
abbrev pub own_chunk : Option Node → Id8 → Option (List ℕ) → Option (List ℕ)
own_chunk n id bytes = if has_id id n then bytes else None

-- the chunk at an array of the new tree: the entry, else the tree's own
abbrev pub chunk_of : (chunks : Id8 → List ℕ → Option (Option (List ℕ))) → Tree
    → (path index : List ℕ) → Option Node → Option (List ℕ)
chunk_of chunks t p i None = None
chunk_of chunks t p i (Some n) =
    if is_array n.text then unwrap_or (chunks n.id i) (own_chunk (node_at t p) n.id (t.chunk p i))
    else None

-- the tree under the changes
abbrev pub apply : Changes → Tree → Tree
apply c t = record {
  nodes = nodes_under c t.nodes;
  chunk = λ p i. chunk_of c.chunks t p i (get (nodes_under c t.nodes) p);
}

-- ---- one more edit

-- whether a node at or beneath the path has this id
unfoldable pub has_id_within : FinMap path_cmp Node → List ℕ → Id8 → Bool
has_id_within nodes p id = list_any (λ q. is_within p q && has_id id (get nodes q)) (keys nodes)

-- another text for an added node, else for the tree's own
abbrev pub with_meta : Changes → (path text : List ℕ) → (added there : Option Node) → Changes
with_meta c p text (Some n) there = record c { added = insert c.added p (with_text text n) }
with_meta c p text None (Some n) =
    record c { metas = λ id. if same_id8 id n.id then Some text else c.metas id }
with_meta c p text None None = c

-- this entry, or none, for a chunk of a node
abbrev pub with_entry : Changes → (index : List ℕ) → Option (Option (List ℕ))
    → Option Node → Changes
with_entry c i entry None = c
with_entry c i entry (Some n) = record c {
  chunks = λ id j. if same_id8 id n.id && same_numbers j i then entry else c.chunks id j;
}

-- the changes after one more edit, which isn't refused on `apply c t`
abbrev pub extended : Changes → Tree → Edit → Changes
extended c t (Add p id text) =
    record c { added = insert c.added p (record { id = id; text = text }) }
extended c t (SetMeta p text) = with_meta c p text (get c.added p) (node_at (apply c t) p)
extended c t (Drop p) = record {
  dropped = λ id. c.dropped id || (has_id id (node_at (apply c t) p) && has_id id (node_at t p));
  added = retain_keys c.added (λ q. not (is_within p q));
  metas = λ id. if has_id_within (nodes_under c t.nodes) p id then None else c.metas id;
  chunks = λ id j. if has_id_within (nodes_under c t.nodes) p id then None else c.chunks id j;
}
extended c t (Set p i bytes) = with_entry c i (Some (Some bytes)) (node_at (apply c t) p)
extended c t (Unset p i) =
    with_entry c i (if is_some (get c.added p) then None else Some None) (node_at (apply c t) p)

-- one more edit, refused as the edit on the tree under the changes is
abbrev pub extend : Changes → Tree → Edit → Result Changes EditFault
extend c t e = unless (refusal (apply c t) e) (extended c t e)

-- ---- normal changes

-- a node of this id stands in both trees, at one path
pub record StillHas (t u : Tree) (id : Id8) : Type 0 where
  pub path : List ℕ
  pub before : Node
  pub after : Node
  pub was : node_at t path ≡ Some before
  pub is : node_at u path ≡ Some after
  pub before_id : before.id ≡ id
  pub after_id : after.id ≡ id

-- an entry fits an array of this id of the later tree, and is none only where the
-- earlier tree has the array as well
pub record EntryFits (t u : Tree) (id : Id8) (i : List ℕ) (entry : Option (List ℕ)) : Type 0 where
  pub path : List ℕ
  pub node : Node
  pub found : node_at u path ≡ Some node
  pub same : node.id ≡ id
  pub fits : Fits node.text i entry
  pub unset : entry ≡ None → StillHas t u id

-- changes lie over a tree where what is added has metadata, and no added node takes
-- the place of one that isn't gone
pub record IsOver (c : Changes) (t : Tree) : Type 0 where
  pub readable : (p : List ℕ) (n : Node) → get c.added p ≡ Some n → is_metadata n.text ≡ true
  pub free : (p : List ℕ) (m n : Node) → get c.added p ≡ Some m → node_at t p ≡ Some n
      → is_gone c.dropped t.nodes p ≡ true

-- what changes are that edits have made from none
pub record IsNormal (c : Changes) (t : Tree) : Type 0 where
  -- the added ids are distinct, and are neither the tree's nor dropped
  pub distinct : (p q : List ℕ) (m n : Node) → get c.added p ≡ Some m
      → get c.added q ≡ Some n → m.id ≡ n.id → p ≡ q
  pub fresh : (p q : List ℕ) (m n : Node) → get c.added p ≡ Some m
      → node_at t q ≡ Some n → m.id ≢ n.id
  pub not_dropped : (p : List ℕ) (n : Node) → get c.added p ≡ Some n → c.dropped n.id ≡ false
  -- at an added path the tree's node, if there is one, is gone
  pub free : (p : List ℕ) (m n : Node) → get c.added p ≡ Some m → node_at t p ≡ Some n
      → is_gone c.dropped t.nodes p ≡ true
  -- each other text is of a node that is still there, and leaves the parts that stay
  pub metas : (id : Id8) (text : List ℕ) → c.metas id ≡ Some text → StillHas t (apply c t) id
  pub frozen : (id : Id8) (text p : List ℕ) (n : Node) → c.metas id ≡ Some text
      → node_at t p ≡ Some n → n.id ≡ id → SameFrozen n.text text
  -- each entry fits
  pub chunks : (id : Id8) (i : List ℕ) (entry : Option (List ℕ)) → c.chunks id i ≡ Some entry
      → EntryFits t (apply c t) id i entry
  -- and so the tree under the changes is well formed
  pub well_formed : IsWellFormed (apply c t)

-- neither the tree nor the changes have the id
pub record IsFresh (c : Changes) (t : Tree) (id : Id8) : Type 0 where
  pub not_own : (p : List ℕ) (n : Node) → node_at t p ≡ Some n → n.id ≢ id
  pub not_added : (p : List ℕ) (n : Node) → get c.added p ≡ Some n → n.id ≢ id
  pub not_dropped : c.dropped id ≡ false

-- what an edit owes that no tree can refuse: the id of an added node is fresh
abbrev pub CanExtend : Changes → Tree → Edit → Type 0
CanExtend c t (Add p id text) = IsFresh c t id
CanExtend c t (SetMeta p text) = Unit {0}
CanExtend c t (Drop p) = Unit {0}
CanExtend c t (Set p i bytes) = Unit {0}
CanExtend c t (Unset p i) = Unit {0}

-- and the node is added at a path and has metadata
abbrev pub NamesPath : Edit → Type 0
NamesPath (Add p id text) = is_path p ≡ true
NamesPath (SetMeta p text) = Unit {0}
NamesPath (Drop p) = Unit {0}
NamesPath (Set p i bytes) = Unit {0}
NamesPath (Unset p i) = Unit {0}

abbrev pub HasMetadata : Edit → Type 0
HasMetadata (Add p id text) = is_metadata text ≡ true
HasMetadata (SetMeta p text) = Unit {0}
HasMetadata (Drop p) = Unit {0}
HasMetadata (Set p i bytes) = Unit {0}
HasMetadata (Unset p i) = Unit {0}

abbrev pub result_map : {A B : Type 0} → (A → B) → Result A EditFault → Result B EditFault
result_map f (Ok x) = Ok (f x)
result_map f (Err fault) = Err fault

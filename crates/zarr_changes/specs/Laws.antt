-- The laws of change sets.
use Rattle.std.specs.Prelude.{◌≡◌, ℕ, List, length, Option, Some}
use Rattle.ice_ids.specs.declared.Id8.{Id8}
use Rattle.zarr_tree.specs.Nodes.{Node}
use Rattle.zarr_tree.specs.Trees.{Tree}
use Rattle.zarr_tree.specs.Edits.{Add, SetMeta, Drop, Set, Unset, refusal}
use Rattle.zarr_tree.specs.Changes.{extended}
use Rattle.zarr_tree.specs.Conflicts.{without}
use Rattle.zarr_tree.specs.Held.{Held, changes_of}
use Rattle.zarr_changes.specs.Edits.{with_added, with_text_at, without_node, with_chunk_at}
use Rattle.zarr_changes.specs.Edits.{without_chunk_at, lists_key, without_chunks}
use Rattle.zarr_changes.specs.Sets.{add_refusal, set_refusal, unset_refusal}

-- a tree refuses a node by its nodes alone
abbrev pub RefusalLaw : Type 0
RefusalLaw =
    (t : Tree) (p : List ℕ) (id : Id8) (text : List ℕ)
    → refusal t (Add p id text) ≡ add_refusal t.nodes p

-- a chunk's bytes by its nodes and their number, and that there be no chunk by its nodes
abbrev pub SetRefusalLaw : Type 0
SetRefusalLaw =
    (t : Tree) (p i bytes : List ℕ)
    → refusal t (Set p i bytes) ≡ set_refusal t.nodes p i (length bytes)

abbrev pub UnsetRefusalLaw : Type 0
UnsetRefusalLaw = (t : Tree) (p i : List ℕ) → refusal t (Unset p i) ≡ unset_refusal t.nodes p i

-- a node more is one more edit in the changes
abbrev pub AddedLaw : Type 0 → Type 0
AddedLaw P = (bytes_at : P → Option (List ℕ)) (h : Held P) (t : Tree) (p : List ℕ) (n : Node)
    → changes_of bytes_at (with_added h p n)
    ≡ extended (changes_of bytes_at h) t (Add p n.id n.text)

-- another text is one more edit in them
abbrev pub TextLaw : Type 0 → Type 0
TextLaw P = (bytes_at : P → Option (List ℕ)) (h : Held P) (t : Tree) (p text : List ℕ)
    → changes_of bytes_at (with_text_at h t.nodes p text)
    ≡ extended (changes_of bytes_at h) t (SetMeta p text)

-- and so is a node, and all beneath it, taken away
abbrev pub DropLaw : Type 0 → Type 0
DropLaw P = (bytes_at : P → Option (List ℕ)) (h : Held P) (t : Tree) (p : List ℕ)
    → changes_of bytes_at (without_node h t.nodes p) ≡ extended (changes_of bytes_at h) t (Drop p)

-- a chunk whose bytes are at a place is one more edit in them
abbrev pub SetLaw : Type 0 → Type 0
SetLaw P =
    (bytes_at : P → Option (List ℕ)) (h : Held P) (t : Tree) (p i bytes : List ℕ) (place : P)
    → bytes_at place ≡ Some bytes
    → changes_of bytes_at (with_chunk_at h t.nodes p i place)
    ≡ extended (changes_of bytes_at h) t (Set p i bytes)

-- and so is that there be no chunk
abbrev pub UnsetLaw : Type 0 → Type 0
UnsetLaw P = (bytes_at : P → Option (List ℕ)) (h : Held P) (t : Tree) (p i : List ℕ)
    → changes_of bytes_at (without_chunk_at h t.nodes p i)
    ≡ extended (changes_of bytes_at h) t (Unset p i)

-- entries that are taken out are given up
abbrev pub TakenLaw : Type 0 → Type 0
TakenLaw P =
    (bytes_at : P → Option (List ℕ)) (h : Held P) (out : List (Id8 × List ℕ))
    → changes_of bytes_at (without_chunks h out) ≡ without (changes_of bytes_at h) (lists_key out)

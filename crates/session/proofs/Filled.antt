-- Chunks all of whose bytes are the same: what is found at a path tells how many there are.
use Rattle.std.proofs.Common.{◌≡◌, ℕ, Bool, true, false, List, length, refl, sym, ap, ◌∙◌}
use Rattle.std.specs.Prelude.{◌==◌, not, if◌then◌else◌, replicate, Option, None, Some, option_map, Result, Ok, Err}
use Rattle.std.specs.FinMap.{get}
use Rattle.std.proofs.lemmas.Bool.{eq-eqb}
use Rattle.std.proofs.lemmas.List.{length-replicate}
use Rattle.ice_ids.specs.declared.Id8.{Id8}
use Rattle.zarr_meta.specs.declared.views.ArrayView.{ArrayView}
use Rattle.zarr_tree.specs.declared.edit.EditFault.{EditFault}
use Rattle.zarr_tree.specs.declared.edit.EditFault.TheVariants.{NotArray, NoNode, OutOfGrid, ChunkLength}
use Rattle.zarr_tree.specs.Nodes.{Node, array_in, in_grid, chunk_length}
use Rattle.zarr_tree.specs.Edits.{at_node, at_array}
use Rattle.zarr_changes.specs.declared.chunks.ChunkAt.{ChunkAt}
use Rattle.zarr_changes.specs.Sets.{set_refusal, chunk_in, chunk_of_node, chunk_found}
use Rattle.session.specs.Sessions.{SessionState, nodes_seen, writes}
use Rattle.session.specs.Editing.{refusal_of_edit}
use Rattle.session.specs.Chunks.{set_program, filled, length_in, length_at}
use Rattle.session.specs.Setting.{SetRefused}
use Rattle.session.specs.inside.Working.{put_chunk_of}
use Rattle.session.proofs.Chunking.{set_refused, set_there}

-- ---- by what stands at the path
module _ (i : List ℕ) where
  abbrev refusal_by : (inside fits : Bool) → (want got : ℕ) → Option EditFault
  refusal_by inside fits want got = if not inside then Some OutOfGrid else (if not fits then Some (ChunkLength want got) else None)

  abbrev refusal_in : (len : ℕ) → Option ArrayView → Option EditFault
  refusal_in len a = at_array a (λ (array : ArrayView). refusal_by (in_grid array i) (len == chunk_length array) (chunk_length array) len)

  abbrev refusal_of : (len : ℕ) → Option Node → Option EditFault
  refusal_of len there = at_node there (λ (n : Node). refusal_in len (array_in n.text))

  -- what is found of an array, by whether the index lies in its grid
  abbrev found_by : Id8 → ArrayView → Bool → Result ChunkAt EditFault
  found_by id array inside = if inside then Ok (record { node = id; bytes = chunk_length array }) else Err OutOfGrid

  -- a chunk was found
  record IsThere (id : Option Id8) (refusal : Option EditFault) (len : ℕ) (at : ChunkAt) : Type 0 where
    taken : refusal ≡ None
    node : id ≡ Some at.node
    bytes : len ≡ at.bytes

  there_in : (id : Id8) (a : Option ArrayView) (at : ChunkAt) → chunk_in id i a ≡ Ok at → IsThere (Some id) (refusal_in (length_in a) a) (length_in a) at
  there_in id None at e = cc
  there_in id (Some array) at e = by_grid (in_grid array i) refl e
    where
      by_grid : (inside : Bool) → in_grid array i ≡ inside → found_by id array inside ≡ Ok at → IsThere (Some id) (refusal_in (chunk_length array) (Some array)) (chunk_length array) at
      by_grid false is e = cc
      by_grid true is e =
          let same : record { node = id; bytes = chunk_length array } ≡ at = cc in
          record {
            taken = ap (λ (b : Bool). refusal_by b (chunk_length array == chunk_length array) (chunk_length array) (chunk_length array)) is
                ∙ ap (λ (b : Bool). refusal_by true b (chunk_length array) (chunk_length array)) (eq-eqb (chunk_length array) (chunk_length array) refl);
            node = ap (λ (c : ChunkAt). Some c.node) same;
            bytes = ap (λ (c : ChunkAt). c.bytes) same;
          }

  there_of : (there : Option Node) (at : ChunkAt) → chunk_of_node i there ≡ Ok at → IsThere (option_map (λ (n : Node). n.id) there) (refusal_of (length_at there) there) (length_at there) at
  there_of None at e = cc
  there_of (Some n) at e = there_in n.id (array_in n.text) at e

  -- or none was
  none_in : (id : Id8) (a : Option ArrayView) (fault : EditFault) (len : ℕ) → chunk_in id i a ≡ Err fault → refusal_in len a ≡ Some fault
  none_in id None fault len e = let same : NotArray ≡ fault = cc in ap Some same
  none_in id (Some array) fault len e = by_grid (in_grid array i) refl e
    where
      by_grid : (inside : Bool) → in_grid array i ≡ inside → found_by id array inside ≡ Err fault → refusal_in len (Some array) ≡ Some fault
      by_grid true is e = cc
      by_grid false is e =
          let same : OutOfGrid ≡ fault = cc in
          ap (λ (b : Bool). refusal_by b (len == chunk_length array) (chunk_length array) len) is ∙ ap Some same

  none_of : (there : Option Node) (fault : EditFault) (len : ℕ) → chunk_of_node i there ≡ Err fault → refusal_of len there ≡ Some fault
  none_of None fault len e = let same : NoNode ≡ fault = cc in ap Some same
  none_of (Some n) fault len e = none_in n.id (array_in n.text) fault len e

-- ---- in a session
module _ (s : SessionState) (p i : List ℕ) (byte : ℕ) where
  pub fill_refused : (fault : EditFault) → writes s ≡ true → chunk_found (nodes_seen s) p i ≡ Err fault → SetRefused (set_program s p i (filled s p byte)) s s (refusal_of_edit fault)
  fill_refused fault w e = set_refused s p i (filled s p byte) fault w (none_of i (get (nodes_seen s) p) fault (length (filled s p byte)) e)

  pub fill_none : (fault : EditFault) → chunk_found (nodes_seen s) p i ≡ Err fault → set_refusal (nodes_seen s) p i (length (filled s p byte)) ≡ Some fault
  fill_none fault e = none_of i (get (nodes_seen s) p) fault (length (filled s p byte)) e

  pub fill_taken : (at : ChunkAt) → chunk_found (nodes_seen s) p i ≡ Ok at → set_refusal (nodes_seen s) p i (length (filled s p byte)) ≡ None
  fill_taken at e =
      let there : Option Node = get (nodes_seen s) p in
      ap (set_refusal (nodes_seen s) p i) (length-replicate (length_at there) byte) ∙ (there_of i there at e).taken

  pub fill_there : (at : ChunkAt) → writes s ≡ true → chunk_found (nodes_seen s) p i ≡ Ok at → put_chunk_of s at.node i (replicate at.bytes byte) ≡ set_program s p i (filled s p byte)
  fill_there at w e =
      let there : Option Node = get (nodes_seen s) p in
      let found = there_of i there at e in
      let long : length (filled s p byte) ≡ length_at there = length-replicate (length_at there) byte in
      let taken : set_refusal (nodes_seen s) p i (length (filled s p byte)) ≡ None = ap (set_refusal (nodes_seen s) p i) long ∙ found.taken in
      ap (λ (n : ℕ). put_chunk_of s at.node i (replicate n byte)) (sym found.bytes) ∙ set_there s p i (filled s p byte) at.node w (taken, found.node)

-- What the setting of a chunk answers and leaves.
use Rattle.std.proofs.Common.{◌≡◌, inl, ℕ, ◌≤◌, Bool, true, false, List, length, refl, sym, ap, ap₂, subst, ◌∙◌, arith}
use Rattle.std.specs.Prelude.{nat_le, Option, None, Some, option_map, Result, Ok, Err, if◌then◌else◌}
use Rattle.std.specs.FinMap.{FinMap, get}
use Rattle.ice_ids.specs.declared.Id8.{Id8}
use Rattle.ice_ids.specs.declared.Id12.{Id12}
use Rattle.ice_ids.specs.Drawing.{drawn12}
use Rattle.zarr_path.specs.Paths.{path_cmp}
use Rattle.zarr_tree.specs.declared.edit.EditFault.{EditFault}
use Rattle.zarr_tree.specs.declared.edit.EditFault.TheVariants as E
use Rattle.zarr_tree.specs.Nodes.{Node}
use Rattle.zarr_tree.specs.Held.{Held, nodes_over}
use Rattle.zarr_changes.specs.Edits.{without_chunk_at, placed_chunk, unplaced_chunk}
use Rattle.zarr_changes.specs.Sets.{Enters, FindsArray, set_refusal, unset_refusal}
use Rattle.manifest_file.specs.declared.manifest.Place.{Place}
use Rattle.manifest_file.specs.declared.manifest.Place.TheVariants.{Inline, Object}
use Rattle.object_store.specs.declared.keys.Key.TheVariants.{Chunk}
use Rattle.object_store.specs.declared.keys.Why.TheVariants.{Set}
use Rattle.object_store.specs.declared.events.Op.TheVariants.{PutNew}
use Rattle.store_api.specs.declared.machines.Refusal.{Refusal}
use Rattle.store_api.specs.declared.machines.Refusal.TheVariants as R
use Rattle.store_api.specs.Program.{Done, Ask, IsAsk}
use Rattle.store_api.specs.Running.{Program}
use Rattle.session.specs.Sessions.{SessionState, base_nodes, nodes_seen, writes}
use Rattle.session.specs.Editing.{Leaves, refusal_of_edit, unless_refused}
use Rattle.session.specs.Chunks.{set_program, put_chunk, put_object, unless_fault, chunk_unset, with_chunk, with_chunk_of, without_chunk, after_draw, after_object, most_inline}
use Rattle.session.specs.declared.putting.Putting.{Putting}
use Rattle.session.specs.declared.putting.Putting.TheVariants as P
use Rattle.session.specs.Setting.{SetRefused, putting_left}
use Rattle.session.specs.inside.Working.{put_chunk_of, put_object_of}
use Rattle.session.proofs.Refusing.{unwritten, written, refused_by, taken}
use Rattle.session.proofs.Changing.{told, IsFew, few-entered, at-most}

-- ---- before the chunk is set
set_told : (p : Program SessionState) (s : SessionState) (fault : EditFault) → p ≡ Done (Err (refusal_of_edit fault)) → SetRefused p s s (refusal_of_edit fault)
set_told p s E.NodeExists e = (e, refl)
set_told p s E.NoParent e = (e, refl)
set_told p s E.Full e = (e, refl)
set_told p s E.NoNode e = (e, refl)
set_told p s (E.FrozenField part) e = (e, refl)
set_told p s E.NotArray e = (e, refl)
set_told p s E.OutOfGrid e = (e, refl)
set_told p s (E.ChunkLength want got) e = (e, refl)
set_told p s E.NoMemory e = inl refl

abbrev if_writes : Bool → Program SessionState → Program SessionState
if_writes w p = if w then p else Done (Err R.ReadOnly)

module _ (s : SessionState) (p i b : List ℕ) where
  abbrev refusal : Option EditFault
  refusal = set_refusal (nodes_seen s) p i (length b)

  pub set_read_only : writes s ≡ false → set_program s p i b ≡ Done (Err R.ReadOnly)
  unfolding set_program
  set_read_only e = ap (λ (w : Bool). if_writes w (unless_fault refusal (put_chunk s p i b))) e

  by_refusal : (o : Option EditFault) → writes s ≡ true → refusal ≡ o → set_program s p i b ≡ unless_fault o (put_chunk s p i b)
  unfolding set_program
  by_refusal o w e = ap (λ (w : Bool). if_writes w (unless_fault refusal (put_chunk s p i b))) w ∙ ap (λ (o : Option EditFault). unless_fault o (put_chunk s p i b)) e

  -- the tree refuses the chunk
  pub set_refused : (fault : EditFault) → writes s ≡ true → refusal ≡ Some fault → SetRefused (set_program s p i b) s s (refusal_of_edit fault)
  set_refused fault w e = set_told (set_program s p i b) s fault (by_refusal (Some fault) w e)

  -- or takes it: the entry of the array's id is that of its path
  chunk_there : (t : SessionState) (id : Id8) (place : Place) (there : Option Node) → option_map (λ (n : Node). n.id) there ≡ Some id → with_chunk_of t id i place ≡ record t { held = placed_chunk t.held i place there }
  chunk_there t id place None e = cc
  chunk_there t id place (Some n) e =
      let same : n.id ≡ id = cc in
      ap (λ (node : Id8). with_chunk_of t node i place) (sym same)

  pub set_short : writes s ≡ true → refusal ≡ None → put_chunk s p i b ≡ set_program s p i b
  set_short w e = sym (by_refusal None w e)

  object_there : (id : Id8) → option_map (λ (n : Node). n.id) (get (nodes_seen s) p) ≡ Some id → (drawn : Option Id12) → put_object_of s id i b drawn ≡ put_object s p i b drawn
  object_there id e None = refl
  object_there id e (Some k) = λ t. Ask (PutNew (Chunk k) b Set) (after_object (chunk_there (after_draw s) id (Object k 0 (length b)) (get (nodes_seen s) p) e t) k)

  -- so what is set is the path's chunk
  pub set_there : (id : Id8) → writes s ≡ true → FindsArray (nodes_seen s) p i (length b) (Ok id) → put_chunk_of s id i b ≡ set_program s p i b
  set_there id w found =
      ap₂ (λ (short long : Program SessionState). if nat_le (length b) most_inline then short else long) (λ t. Done (Ok (chunk_there s id (Inline b) (get (nodes_seen s) p) found.1 t))) (object_there id found.1 (drawn12 s.ids))
      ∙ set_short w found.0

-- the object of a chunk comes next, under the id that was drawn
abbrev pub IsPut : (after : SessionState) → Id8 → (i b : List ℕ) → Id12 → SessionState → Type 0
IsPut after node i b id s =
    (Ask (PutNew (Chunk id) b Set) (after_object (with_chunk_of after node i (Object id 0 (length b))) id) ≡ put_object_of s node i b (drawn12 s.ids)) × IsAsk (put_object_of s node i b (drawn12 s.ids)) × (Some after ≡ Some (after_draw s))

pub put_drawn : (s after : SessionState) (node : Id8) (i b : List ℕ) (id : Id12) → drawn12 s.ids ≡ Some id → after ≡ after_draw s → IsPut after node i b id s
put_drawn s after node i b id drawn is =
    let next : Ask (PutNew (Chunk id) b Set) (after_object (with_chunk_of after node i (Object id 0 (length b))) id) ≡ put_object_of s node i b (drawn12 s.ids) =
    ap (λ (t : SessionState). Ask (PutNew (Chunk id) b Set) (after_object (with_chunk_of t node i (Object id 0 (length b))) id)) is ∙ ap (put_object_of s node i b) (sym drawn) in
    (next, subst (λ (p : Program SessionState). IsAsk p) next tt, ap Some is)

-- a short one stands in the session, a long one is put
pub held_by : (s : SessionState) (id : Id8) (i b : List ℕ) (short : Bool) → nat_le (length b) most_inline ≡ short → (if short then Done (Ok (with_chunk_of s id i (Inline b))) else put_object_of s id i b (drawn12 s.ids)) ≡ put_chunk_of s id i b
held_by s id i b short e = sym (ap (λ (short : Bool). if short then Done (Ok (with_chunk_of s id i (Inline b))) else put_object_of s id i b (drawn12 s.ids)) e)

-- ---- chunks that are taken away
module _ (s : SessionState) (p i : List ℕ) where
  abbrev unset : Result SessionState Refusal
  unset = Ok (without_chunk s p i)

  pub unset_read_only : writes s ≡ false → chunk_unset s p i ≡ Err R.ReadOnly
  unfolding chunk_unset
  unset_read_only e = unwritten (writes s) (unless_refused (unset_refusal (nodes_seen s) p i) unset) e

  pub unset_refused : (after : Held Place) (fault : EditFault) → writes s ≡ true → Enters (unset_refusal (nodes_seen s) p i) (without_chunk_at s.held (base_nodes s) p i) s.held (Err fault) after
      → Leaves (chunk_unset s p i) s (Err (refusal_of_edit fault)) (record s { held = after })
  unfolding chunk_unset
  unset_refused after fault w e =
      told (chunk_unset s p i) s (unset_refusal (nodes_seen s) p i) (without_chunk_at s.held (base_nodes s) p i) after fault (λ r. written (writes s) _ w ∙ refused_by (unset_refusal (nodes_seen s) p i) unset fault r) e

  pub unset_done : (after : Held Place) (done : Unit {0}) → writes s ≡ true → Enters (unset_refusal (nodes_seen s) p i) (without_chunk_at s.held (base_nodes s) p i) s.held (Ok done) after → chunk_unset s p i ≡ Ok (record s { held = after })
  unfolding chunk_unset
  unset_done after done w e = written (writes s) _ w ∙ taken (unset_refusal (nodes_seen s) p i) unset e.0 ∙ sym (ap (λ (h : Held Place). Ok (record s { held = h })) e.1)

-- ---- no chunk adds a node
module _ (h : Held Place) (nodes : FinMap path_cmp Node) (p i : List ℕ) where
  unset_by : (own there : Option Node) → nodes_over (unplaced_chunk h i own there) nodes ≡ nodes_over h nodes
  unset_by own None = refl
  unset_by (Some m) (Some n) = refl
  unset_by None (Some n) = refl

  pub few-chunk-unset : (o : Option EditFault) (after : Held Place) (result : Result (Unit {0}) EditFault) → IsFew h nodes h → Enters o (without_chunk_at h nodes p i) h result after → IsFew h nodes after
  few-chunk-unset o after result few e = few-entered h nodes o (without_chunk_at h nodes p i) after result few (at-most (unset_by (get h.added p) (get (nodes_over h nodes) p))) e

-- ---- the machine has one step at most
pub few-puts : (state : Putting) → putting_left state ≤ 1
few-puts (P.Object s) = omega arith
few-puts (P.Refused s) = omega arith
few-puts P.Ended = omega arith

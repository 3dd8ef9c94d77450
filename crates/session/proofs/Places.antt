-- Chunks that are entered at once.
use Rattle.std.proofs.Common.{◌≡◌, ◌++◌, ℕ, Bool, true, false, List, [], ◌∷◌, refl, sym, ap, subst, ◌∙◌}
use Rattle.std.specs.Prelude.{Option, Some, None, Result, Ok, Err, OnOk, OnErr}
use Rattle.std.specs.FinMap.{FinMap, get}
use Rattle.ice_ids.specs.declared.Id8.{Id8}
use Rattle.zarr_path.specs.Paths.{path_cmp}
use Rattle.zarr_tree.specs.declared.edit.EditFault.{EditFault}
use Rattle.zarr_tree.specs.Nodes.{Node}
use Rattle.zarr_tree.specs.Held.{Held, nodes_over}
use Rattle.zarr_changes.specs.declared.placing.Placed.{Placed}
use Rattle.zarr_changes.specs.Edits.{with_entry, placed_chunk}
use Rattle.zarr_changes.specs.Placing.{with_placed}
use Rattle.zarr_changes.specs.Sets.{set_refusal}
use Rattle.manifest_file.specs.declared.manifest.Place.{Place}
use Rattle.session.specs.Sessions.{SessionState, base_nodes, nodes_seen, writes}
use Rattle.session.specs.Editing.{if_writes, unless_refused}
use Rattle.session.specs.Chunks.{with_chunk, after_draw}
use Rattle.session.specs.Placing.{set_allowed, with_places}
use Rattle.session.proofs.Changing.{IsFew}

-- ---- the nodes, and what else stays
seen_by : (h : Held Place) (nodes : FinMap path_cmp Node) (index : List ℕ) (place : Place) (there : Option Node) → nodes_over (placed_chunk h index place there) nodes ≡ nodes_over h nodes
seen_by h nodes index place None = refl
seen_by h nodes index place (Some n) = refl

module _ (path : List ℕ) where
  pub chunk-seen : (s : SessionState) (index : List ℕ) (place : Place) → nodes_seen (with_chunk s path index place) ≡ nodes_seen s
  chunk-seen s index place = seen_by s.held (base_nodes s) index place (get (nodes_seen s) path)

  pub places-seen : (placed : List Placed) (s : SessionState) → nodes_seen (with_places s path placed) ≡ nodes_seen s
  places-seen [] s = refl
  places-seen (p ∷ placed) s = places-seen placed (with_chunk s path p.index p.place) ∙ chunk-seen s p.index p.place

  pub places-writes : (placed : List Placed) (s : SessionState) → writes (with_places s path placed) ≡ writes s
  places-writes [] s = refl
  places-writes (p ∷ placed) s = places-writes placed (with_chunk s path p.index p.place)

  pub places-ids : (placed : List Placed) (s : SessionState) → (with_places s path placed).ids ≡ s.ids
  places-ids [] s = refl
  places-ids (p ∷ placed) s = places-ids placed (with_chunk s path p.index p.place)

  -- one more, and an id that is drawn
  pub places-more : (placed : List Placed) (s : SessionState) (p : Placed) → with_places s path (placed ++ p ∷ []) ≡ with_chunk (with_places s path placed) path p.index p.place
  places-more [] s p = refl
  places-more (x ∷ placed) s p = places-more placed (with_chunk s path x.index x.place) p

  pub places-drawn : (placed : List Placed) (s : SessionState) → with_places (after_draw s) path placed ≡ after_draw (with_places s path placed)
  places-drawn [] s = refl
  places-drawn (p ∷ placed) s = places-drawn placed (with_chunk s path p.index p.place)

  -- ---- the entries of the node that is there
  pub places-none : (placed : List Placed) (s : SessionState) → get (nodes_seen s) path ≡ None → with_places s path placed ≡ s
  places-none [] s none = refl
  places-none (p ∷ placed) s none =
      ap (λ (there : Option Node). with_places (record s { held = placed_chunk s.held p.index p.place there }) path placed) none ∙ places-none placed s none

  places-there : (placed : List Placed) (s : SessionState) (n : Node) → get (nodes_seen s) path ≡ Some n → with_places s path placed ≡ record s { held = record (s.held) { chunks = with_placed s.held.chunks n.id placed } }
  places-there [] s n found = refl
  places-there (p ∷ placed) s n found =
      ap (λ (there : Option Node). with_places (record s { held = placed_chunk s.held p.index p.place there }) path placed) found ∙ places-there placed (record s { held = placed_chunk s.held p.index p.place (Some n) }) n found

  pub places-entered : {A : Type 0} (r : Result (Unit {0}) A) (placed : List Placed) (s : SessionState) (n : Node) (after : Held Place) → get (nodes_seen s) path ≡ Some n
      → OnOk r (after ≡ record (s.held) { chunks = with_placed s.held.chunks n.id placed }) → OnOk r (record s { held = after } ≡ with_places s path placed)
  places-entered (Ok done) placed s n after found is = ap (λ (h : Held Place). record s { held = h }) is ∙ sym (places-there placed s n found)
  places-entered (Err e) placed s n after found is = tt

-- no entry adds a node
pub few-placed : {A : Type 0} (r : Result (Unit {0}) A) (h after : Held Place) (nodes : FinMap path_cmp Node) (id : Id8) (placed : List Placed) → IsFew h nodes h → OnOk r (after ≡ record h { chunks = with_placed h.chunks id placed })
    → OnErr r (after ≡ h) → IsFew h nodes after
few-placed (Ok done) h after nodes id placed few ok err = subst (λ (x : Held Place). IsFew h nodes x) (sym ok) few
few-placed (Err e) h after nodes id placed few ok err = subst (λ (x : Held Place). IsFew h nodes x) (sym err) few

pub few-entry : {A : Type 0} (r : Result (Unit {0}) A) (h after : Held Place) (nodes : FinMap path_cmp Node) (id : Id8) (index : List ℕ) (place : Place) → IsFew h nodes h → OnOk r (after ≡ record h { chunks = with_entry h.chunks id index (Some place) })
    → OnErr r (after ≡ h) → IsFew h nodes after
few-entry (Ok done) h after nodes id index place few ok err = subst (λ (x : Held Place). IsFew h nodes x) (sym ok) few
few-entry (Err e) h after nodes id index place few ok err = subst (λ (x : Held Place). IsFew h nodes x) (sym err) few

-- ---- what is asked before
pub record IsAllowed (s : SessionState) (path index : List ℕ) (len : ℕ) : Type 0 where
  pub writes : writes s ≡ true
  pub taken : set_refusal (nodes_seen s) path index len ≡ None

pub allowed : (s : SessionState) (path index : List ℕ) (len : ℕ) → Ok (tt {0}) ≡ set_allowed s path index len → IsAllowed s path index len
allowed s path index len e = by_writes (writes s) refl e
  where
    by_refusal : writes s ≡ true → (o : Option EditFault) → set_refusal (nodes_seen s) path index len ≡ o → Ok (tt {0}) ≡ unless_refused o (Ok (tt {0})) → IsAllowed s path index len
    by_refusal w None r d = record { writes = w; taken = r }
    by_refusal w (Some fault) r d = cc

    by_writes : (b : Bool) → writes s ≡ b → Ok (tt {0}) ≡ if_writes b (unless_refused (set_refusal (nodes_seen s) path index len) (Ok (tt {0}))) → IsAllowed s path index len
    by_writes true w d = by_refusal w (set_refusal (nodes_seen s) path index len) refl d
    by_writes false w d = cc

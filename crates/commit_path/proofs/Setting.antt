-- What a session knows, and that it can be written, stays so where a chunk is set that stands in it, and where one is unset.
use Rattle.std.proofs.Common.{◌≡◌, inl, inr, ℕ, Bool, true, false, cond, not, List, refl, sym, ◌∙◌, subst}
use Rattle.std.specs.Prelude.{nat_le, length, IsTrue, Option, Some, None, Ok, Err}
use Rattle.std.specs.FinMap.{get}
use Rattle.ice_ids.specs.declared.Id8.{Id8}
use Rattle.ice_ids.specs.declared.Id12.{Id12}
use Rattle.ice_ids.specs.Drawing.{drawn12}
use Rattle.zarr_tree.specs.declared.edit.EditFault.{EditFault}
use Rattle.zarr_tree.specs.declared.edit.EditFault.TheVariants.{OutOfGrid}
use Rattle.zarr_meta.specs.declared.views.ArrayView.{ArrayView}
use Rattle.zarr_tree.proofs.ViewLaws.{in_grid_is}
use Rattle.zarr_tree.specs.Nodes.{Node, array_in, in_grid, are_low}
use Rattle.zarr_tree.specs.Edits.{at_node, at_array}
use Rattle.zarr_tree.specs.Held.{HeldEntry}
use Rattle.zarr_changes.specs.Edits.{with_entry, without_entry}
use Rattle.zarr_changes.specs.Edits as held
use Rattle.zarr_changes.specs.Sets.{set_refusal, unset_refusal, length_of}
use Rattle.manifest_file.specs.declared.manifest.Place.{Place}
use Rattle.manifest_file.specs.declared.manifest.Place.TheVariants.{Inline, Object}
use Rattle.manifest_file.specs.Layout.{IsPlace}
use Rattle.repo_objects.specs.Trees.{Puts, bytes_at}
use Rattle.ice_base.specs.Lists.{IsBytes}
use Rattle.object_store.specs.declared.events.Event.{Event}
use Rattle.store_api.specs.declared.machines.Refusal.TheVariants as R
use Rattle.store_api.specs.Journal.{puts_of}
use Rattle.store_api.specs.Program.{Done}
use Rattle.session.specs.Sessions.{SessionState, writes, nodes_seen}
use Rattle.session.specs.Chunks.{most_inline, with_chunk, put_object, put_chunk, unless_fault, set_program, without_chunk, chunk_unset}
use Rattle.commit_path.specs.Owed.{HasChunks}
use Rattle.commit_path.specs.Opened.{ObjectsPut, IsOpened}
use Rattle.commit_path.specs.Spelled.{AreSized, IsSpelled}
use Rattle.commit_path.proofs.Entries.{without-fewer, entered}
use Rattle.commit_path.proofs.Editing.{written, taken, result_same, opened-by, sized-fewer, fewer-opened}

-- ---- chunks
-- the session with other entries
abbrev with_entries : SessionState → List (HeldEntry Place) → SessionState
with_entries s es = record s { held = record s.held { chunks = es } }

entries-spelled : (s : SessionState) (es : List (HeldEntry Place)) → IsSpelled s → AreSized es → IsSpelled (with_entries s es)
entries-spelled s es w sized = record {
  base = w.base;
  of_snapshot = record { file = w.of_snapshot.file; proper = w.of_snapshot.proper; rows = w.of_snapshot.rows; files = w.of_snapshot.files };
  added = w.added;
  texts = w.texts;
  frozen = w.frozen;
  free = w.free;
  chunks = sized;
  props = w.props;
  few = w.few;
}

-- an edit of a chunk that isn't refused has an index of low numbers
passed : (b : Bool) (f : EditFault) (r : Option EditFault) → cond (not b) (Some f) r ≡ None → b ≡ true
passed true f r e = refl
passed false f r e = cc

array-low : (text i : List ℕ) (o : Option ArrayView) (rest : ArrayView → Option EditFault) → array_in text ≡ o → at_array o (λ array. cond (not (in_grid array i)) (Some OutOfGrid) (rest array)) ≡ None → IsTrue (are_low i)
array-low text i None rest a e = cc
array-low text i (Some array) rest a e = (in_grid_is text array i a (passed (in_grid array i) OutOfGrid (rest array) e)).low

node-low : (i : List ℕ) (o : Option Node) (rest : ArrayView → Option EditFault) → at_node o (λ n. at_array (array_in n.text) (λ array. cond (not (in_grid array i)) (Some OutOfGrid) (rest array))) ≡ None → IsTrue (are_low i)
node-low i None rest e = cc
node-low i (Some n) rest e = array-low n.text i (array_in n.text) rest refl e

pub record ChunkSet (s t : SessionState) (path index bytes : List ℕ) : Type 0 where
  pub allowed : set_refusal (nodes_seen s) path index (length bytes) ≡ None
  pub is : t ≡ with_chunk s path index (Inline bytes)

pub chunk-set : (s t : SessionState) (path index bytes : List ℕ) → set_program s path index bytes ≡ Done (Ok t) → ChunkSet s t path index bytes
unfolding set_program
chunk-set s t path index bytes e = by_refusal (set_refusal (nodes_seen s) path index (length bytes)) refl (by_writes (writes s) e)
  where
    by_writes : (b : Bool) → cond b (unless_fault (set_refusal (nodes_seen s) path index (length bytes)) (put_chunk s path index bytes)) (Done (Err R.ReadOnly)) ≡ Done (Ok t) → unless_fault (set_refusal (nodes_seen s) path index (length bytes)) (put_chunk s path index bytes) ≡ Done (Ok t)
    by_writes true k = k
    by_writes false k = cc

    by_draw : (o : Option Id12) → put_object s path index bytes o ≡ Done (Ok t) → t ≡ with_chunk s path index (Inline bytes)
    by_draw None k = cc
    by_draw (Some id) k = cc

    by_length : (b : Bool) → cond b (Done (Ok (with_chunk s path index (Inline bytes)))) (put_object s path index bytes (drawn12 s.ids)) ≡ Done (Ok t) → t ≡ with_chunk s path index (Inline bytes)
    by_length true k = cc
    by_length false k = by_draw (drawn12 s.ids) k

    by_refusal : (o : Option EditFault) → set_refusal (nodes_seen s) path index (length bytes) ≡ o → unless_fault o (put_chunk s path index bytes) ≡ Done (Ok t) → ChunkSet s t path index bytes
    by_refusal None r k = record { allowed = r; is = by_length (nat_le (length bytes) most_inline) k }
    by_refusal (Some fault) r k = cc

entered-sized : (es : List (HeldEntry Place)) (id : Id8) (i : List ℕ) (entry : Option Place) → AreSized es → IsTrue (are_low i) → ((place : Place) → entry ≡ Some place → IsPlace place) → AreSized (with_entry es id i entry)
entered-sized es id i entry z low place node j x e = elim (entered es id i entry node j x e) [
  | inl this ↦ (subst (λ (k : List ℕ). IsTrue (are_low k)) this.1 low, λ p k. place p (this.2 ∙ k))
  | inr old ↦ z node j x old
]

entered-objects : (journal : List Event) (es : List (HeldEntry Place)) (id : Id8) (i : List ℕ) (entry : Option Place) → ObjectsPut journal es → ((object : Id12) (offset size : ℕ) → entry ≡ Some (Object object offset size) → ⊥) → ObjectsPut journal (with_entry es id i entry)
entered-objects journal es id i entry z never node j object offset size e = elim (entered es id i entry node j (Some (Object object offset size)) e) [
  | inl this ↦ absurd (never object offset size this.2)
  | inr old ↦ z node j object offset size old
]

entered-chunks : (puts : Puts) (es : List (HeldEntry Place)) (id : Id8) (i : List ℕ) (entry : Option Place) → HasChunks puts es → ((place : Place) → entry ≡ Some place → (bytes : List ℕ) × (bytes_at puts place ≡ Some bytes) × (length bytes ≡ length_of place)) → HasChunks puts (with_entry es id i entry)
entered-chunks puts es id i entry z own node j place e = elim (entered es id i entry node j (Some place) e) [
  | inl this ↦ own place this.2
  | inr old ↦ z node j place old
]

module _ (s : SessionState) (path index bytes : List ℕ) where
  inline-place : IsBytes bytes → (place : Place) → ◌≡◌ {A = Option Place} (Some (Inline bytes)) (Some place) → IsPlace place
  inline-place b place e = let same : Inline bytes ≡ place = cc in subst IsPlace same b

  inline-bytes : (puts : Puts) (place : Place) → ◌≡◌ {A = Option Place} (Some (Inline bytes)) (Some place) → (own : List ℕ) × (bytes_at puts place ≡ Some own) × (length own ≡ length_of place)
  inline-bytes puts place e = let same : Inline bytes ≡ place = cc in subst (λ (p : Place). (own : List ℕ) × (bytes_at puts p ≡ Some own) × (length own ≡ length_of p)) same (bytes, refl, refl)

  inline-spelled : IsBytes bytes → IsTrue (are_low index) → (o : Option Node) → IsSpelled s → IsSpelled (record s { held = held.placed_chunk s.held index (Inline bytes) o })
  inline-spelled b low None w = entries-spelled s s.held.chunks w w.chunks
  inline-spelled b low (Some n) w = entries-spelled s (with_entry s.held.chunks n.id index (Some (Inline bytes))) w (entered-sized s.held.chunks n.id index (Some (Inline bytes)) w.chunks low (inline-place b))

  inline-opened : (o : Option Node) (journal : List Event) → IsOpened s journal → IsOpened (record s { held = held.placed_chunk s.held index (Inline bytes) o }) journal
  inline-opened None journal o = opened-by s s.held s.ids journal o o.objects o.chunks
  inline-opened (Some n) journal o =
      opened-by s (record s.held { chunks = with_entry s.held.chunks n.id index (Some (Inline bytes)) }) s.ids journal o
      (entered-objects journal s.held.chunks n.id index (Some (Inline bytes)) o.objects (λ object offset size e. cc))
      (λ once. entered-chunks (puts_of journal) s.held.chunks n.id index (Some (Inline bytes)) (o.chunks once) (inline-bytes (puts_of journal)))

pub chunk-spelled : (s t : SessionState) (path index bytes : List ℕ) → ChunkSet s t path index bytes → IsBytes bytes → IsSpelled s → IsSpelled t
chunk-spelled s t path index bytes a b w = subst IsSpelled (sym a.is) (inline-spelled s path index bytes b (node-low index (get (nodes_seen s) path) _ a.allowed) (get (nodes_seen s) path) w)

pub chunk-opened : (s t : SessionState) (path index bytes : List ℕ) (journal : List Event) → ChunkSet s t path index bytes → IsOpened s journal → IsOpened t journal
chunk-opened s t path index bytes journal a o = subst (λ (x : SessionState). IsOpened x journal) (sym a.is) (inline-opened s path index bytes (get (nodes_seen s) path) journal o)

pub record ChunkUnset (s t : SessionState) (path index : List ℕ) : Type 0 where
  pub allowed : unset_refusal (nodes_seen s) path index ≡ None
  pub is : t ≡ without_chunk s path index

pub chunk-unset : (s t : SessionState) (path index : List ℕ) → chunk_unset s path index ≡ Ok t → ChunkUnset s t path index
unfolding chunk_unset
chunk-unset s t path index e =
    let by_tree = taken (unset_refusal (nodes_seen s) path index) _ t (written (writes s) _ t e) in
    record { allowed = by_tree.0; is = sym (result_same _ t by_tree.1) }

module _ (s : SessionState) (index : List ℕ) where
  unset-spelled : IsTrue (are_low index) → (a o : Option Node) → IsSpelled s → IsSpelled (record s { held = held.unplaced_chunk s.held index a o })
  unset-spelled low a None w = entries-spelled s s.held.chunks w w.chunks
  unset-spelled low (Some m) (Some n) w = entries-spelled s (without_entry s.held.chunks n.id index) w (sized-fewer s.held.chunks (without_entry s.held.chunks n.id index) (without-fewer s.held.chunks n.id index) w.chunks)
  unset-spelled low None (Some n) w = entries-spelled s (with_entry s.held.chunks n.id index None) w (entered-sized s.held.chunks n.id index None w.chunks low (λ place e. cc))

  unset-opened : (a o : Option Node) (journal : List Event) → IsOpened s journal → IsOpened (record s { held = held.unplaced_chunk s.held index a o }) journal
  unset-opened a None journal o = opened-by s s.held s.ids journal o o.objects o.chunks
  unset-opened (Some m) (Some n) journal o = fewer-opened s (record s.held { chunks = without_entry s.held.chunks n.id index }) s.ids journal (without-fewer s.held.chunks n.id index) o
  unset-opened None (Some n) journal o =
      opened-by s (record s.held { chunks = with_entry s.held.chunks n.id index None }) s.ids journal o
      (entered-objects journal s.held.chunks n.id index None o.objects (λ object offset size e. cc))
      (λ once. entered-chunks (puts_of journal) s.held.chunks n.id index None (o.chunks once) (λ place e. cc))

pub without-spelled : (s t : SessionState) (path index : List ℕ) → ChunkUnset s t path index → IsSpelled s → IsSpelled t
without-spelled s t path index a w = subst IsSpelled (sym a.is) (unset-spelled s index (node-low index (get (nodes_seen s) path) _ a.allowed) (get s.held.added path) (get (nodes_seen s) path) w)

pub without-opened : (s t : SessionState) (path index : List ℕ) (journal : List Event) → ChunkUnset s t path index → IsOpened s journal → IsOpened t journal
without-opened s t path index journal a o = subst (λ (x : SessionState). IsOpened x journal) (sym a.is) (unset-opened s index (get s.held.added path) (get (nodes_seen s) path) journal o)

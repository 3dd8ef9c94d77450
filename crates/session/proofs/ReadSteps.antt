-- Steps of a reading.
use Rattle.std.proofs.Common.{◌≡◌, ℕ, suc, zero, ◌+◌, ◌<◌, ◌^◌, List, [], ◌∷◌, length, drop, refl, sym, ap, subst, ◌∙◌, arith}
use Rattle.std.specs.Prelude.{Option, None, Some, Result, Ok, Err, slice_get}
use Rattle.ice_ids.specs.declared.Id8.{Id8}
use Rattle.ice_ids.specs.declared.Id12.{Id12}
use Rattle.zarr_tree.specs.declared.edit.EditFault.{EditFault}
use Rattle.zarr_tree.specs.declared.edit.EditFault.TheVariants as E
use Rattle.zarr_tree.specs.Held.{entry_in}
use Rattle.zarr_changes.specs.declared.chunks.ChunkAt.{ChunkAt}
use Rattle.zarr_changes.specs.Sets.{chunk_found}
use Rattle.manifest_file.specs.declared.manifest.Place.{Place}
use Rattle.snapshot_file.specs.declared.nodes.ManifestRef.{ManifestRef}
use Rattle.manifest_index.specs.Merging.{ids_within}
use Rattle.manifest_index.proofs.Steps.{drop_next}
use Rattle.changed_snapshot.specs.Rows.{own_manifests}
use Rattle.object_store.specs.declared.events.Event.{Event}
use Rattle.store_api.specs.declared.machines.Refusal.{Refusal}
use Rattle.store_api.specs.Program.{Done, IsAsk, IsDone, NextIsPolite}
use Rattle.store_api.specs.Running.{Program}
use Rattle.session.specs.declared.chunks.Value.{Value}
use Rattle.session.specs.declared.chunks.Value.TheVariants.{Fill}
use Rattle.session.specs.declared.reading.Reading.{Reading}
use Rattle.session.specs.declared.reading.Reading.TheVariants.{Manifest, Object, Ended}
use Rattle.session.specs.declared.reading.First.{First}
use Rattle.session.specs.declared.reading.First.TheVariants.{Reads}
use Rattle.session.specs.declared.getting.Getting.{Getting}
use Rattle.session.specs.Sessions.{SessionState, nodes_seen}
use Rattle.session.specs.Editing.{refusal_of_edit}
use Rattle.session.specs.Chunks.{read_listed, read_found, read_at, get_program}
use Rattle.session.specs.Getting.{reading_rest, GetBegun, GetRefused}
use Rattle.session.specs.inside.Working.{Begins}

-- what is left from behind the last element on
drop_past : {A : Type 0} (xs : List A) (k : ℕ) → slice_get xs k ≡ None → drop k xs ≡ []
drop_past [] zero e = refl
drop_past [] (suc k) e = refl
drop_past (y ∷ ys) zero e = absurd (cc)
drop_past (y ∷ ys) (suc k) e = drop_past ys k e

module _ (want : ℕ) (node : Id8) (index : List ℕ) where
  -- a manifest is got next
  pub listed_next : (ids : List Id12) (at : ℕ) (id : Id12) → slice_get ids at ≡ Some id → read_listed want node index (drop at ids) ≡ read_listed want node index (id ∷ drop (at + 1) ids)
  listed_next ids at id e = ap (read_listed want node index) (drop_next ids at (at + 1) id (omega arith) e)

  pub listed_ask : (id : Id12) (ids : List Id12) → IsAsk (read_listed want node index (id ∷ ids))
  unfolding read_listed
  listed_ask id ids = tt

  -- none is left
  pub listed_none : (ids : List Id12) (at : ℕ) → slice_get ids at ≡ None → read_listed want node index (drop at ids) ≡ Done (Ok Fill)
  unfolding read_listed
  listed_none ids at e = ap (read_listed want node index) (drop_past ids at e)

  -- so a reading begins
  pub first_some : (ids : List Id12) (id : Id12) → slice_get ids 0 ≡ Some id → length ids < 2 ^ 64 → Begins (read_listed want node index ids) want node index (Reads (Manifest id ids 1))
  first_some [] id e few = absurd (cc)
  first_some (x ∷ xs) id e few = let same : id ≡ x = cc in (ap (λ (y : Id12). read_listed want node index (y ∷ xs)) same, listed_ask x xs, omega (arith, few))

  pub first_none : (ids : List Id12) → slice_get ids 0 ≡ None → read_listed want node index ids ≡ Done (Ok Fill)
  first_none ids e = listed_none ids 0 e

  -- a machine that ended has nothing to do
  pub reading_over : (reading : Reading) → reading ≡ Ended → IsDone (reading_rest want node index reading)
  reading_over (Manifest id ids at) e = absurd (cc)
  reading_over (Object id offset size) e = absurd (cc)
  reading_over Ended e = tt

  -- the operation that comes next is polite
  pub reading_polite : (reading : Reading) (journal : List Event) → NextIsPolite (reading_rest want node index reading) journal
  unfolding read_listed
  reading_polite (Manifest id ids at) journal = tt
  reading_polite (Object id offset size) journal = tt
  reading_polite Ended journal = tt

-- ---- the beginning
get_told : (p : Program Value) (s : SessionState) (fault : EditFault) → p ≡ Done (Err (refusal_of_edit fault)) → GetRefused p s s (refusal_of_edit fault)
get_told p s E.NodeExists e = (e, refl)
get_told p s E.NoParent e = (e, refl)
get_told p s E.Full e = (e, refl)
get_told p s E.NoNode e = (e, refl)
get_told p s (E.FrozenField part) e = (e, refl)
get_told p s E.NotArray e = (e, refl)
get_told p s E.OutOfGrid e = (e, refl)
get_told p s (E.ChunkLength want got) e = (e, refl)
get_told p s E.NoMemory e = refl

module _ (s : SessionState) (p i : List ℕ) where
  by_found : (r : Result ChunkAt EditFault) → chunk_found (nodes_seen s) p i ≡ r → get_program s p i ≡ read_found s p i r
  unfolding get_program
  by_found r e = ap (read_found s p i) e

  -- the tree has no such chunk
  pub get_refused : (fault : EditFault) → chunk_found (nodes_seen s) p i ≡ Err fault → GetRefused (get_program s p i) s s (refusal_of_edit fault)
  get_refused fault e = get_told (get_program s p i) s fault (by_found (Err fault) e)

  -- or it has it
  pub get_found : (at : ChunkAt) (result : Result Getting (SessionState × Refusal)) → chunk_found (nodes_seen s) p i ≡ Ok at → GetBegun (read_at s p i at (entry_in s.held.chunks at.node i)) s result → GetBegun (get_program s p i) s result
  get_found at result e g = subst (λ (q : Program Value). GetBegun q s result) (sym (by_found (Ok at) e)) g

  -- the session has no entry of its own
  pub first_begins : (at : ChunkAt) (own : List ManifestRef) (ids : List Id12) (first : First) → entry_in s.held.chunks at.node i ≡ None → own ≡ own_manifests s.rows p at.node → ids ≡ ids_within i own
      → Begins (read_listed at.bytes at.node i ids) at.bytes at.node i first → Begins (read_at s p i at (entry_in s.held.chunks at.node i)) at.bytes at.node i first
  first_begins at own ids first e o w b =
      let ids_are = w ∙ ap (ids_within i) o in
      let listed = subst (λ (list : List Id12). Begins (read_listed at.bytes at.node i list) at.bytes at.node i first) ids_are b in
      subst (λ (entry : Option (Option Place)). Begins (read_at s p i at entry) at.bytes at.node i first) (sym e) listed

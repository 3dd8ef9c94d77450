-- The parent of a snapshot stays as it stands, or is cut.
use Rattle.std.proofs.Common.{◌≡◌, ◌≢◌, inl, inr, ℕ, Bool, true, false, List, [], ◌∷◌, ◌++◌, length, refl, sym, ◌∙◌, ap, subst, append_assoc, append-nil}
use Rattle.std.specs.Prelude.{Option, Some, bytes_eq}
use Rattle.std.specs.Option.{option_and_then}
use Rattle.ice_ids.specs.Text.{initial_id}
use Rattle.ice_ids.specs.declared.Id12.{Id12}
use Rattle.snapshot_file.specs.declared.snapshot.SnapshotFile.{SnapshotFile}
use Rattle.repo_objects.specs.Laws.{initial_bytes}
use Rattle.object_store.specs.declared.events.Event.{Event}
use Rattle.object_store.specs.declared.events.Op.{Op}
use Rattle.object_store.specs.declared.events.Op.TheVariants.{Get, PutNew, PutOver, Remove, RemoveAt, List as ListPart}
use Rattle.object_store.specs.declared.keys.Key.{Key}
use Rattle.object_store.specs.declared.keys.Key.TheVariants.{Snapshot}
use Rattle.object_store.specs.Machine.{Slot, slot_of, leaves, put_at, is_on, found, last_put}
use Rattle.store_api.specs.Journal.{Each, IsCut, IsFirst, IsFirstOp, IsGood, IsPolite, MayPutOver, PutsFirst, PutsSnap, WasPut, snap_in}
use Rattle.object_store.proofs.Journals.{Each-append}
use Rattle.object_store.proofs.Slots.{WasPut-append, bytes-same, effect-cases, free-cases, id-true, old-cases, same_key-true, slot-append_one}
use Rattle.store_api.proofs.Once.{initial-last}
use Rattle.reach.specs.Chains.{ParentsLaw, StaysOrCut, parent_at}

-- the parent that these bytes name
abbrev pub parent_in : Id12 → Option (List ℕ) → Option Id12
parent_in id bytes = option_and_then (λ (s : SnapshotFile). s.parent) (snap_in id bytes)

-- ---- along events
module _ (id : Id12) (other : id ≢ initial_id) where
  abbrev Stays : List Event → Slot → Type 0
  Stays journal slot = StaysOrCut (parent_at journal id) (parent_in id slot.last)

  leaves-parent : (journal : List Event) (time : ℕ) (op : Op) → is_on (Snapshot id) op ≡ true → WasPut journal (Snapshot id) → IsPolite journal op → IsFirstOp journal op → Stays journal (leaves (length journal) time op (slot_of journal (Snapshot id)))
  leaves-parent journal time (Get k) e w p f = inl refl
  leaves-parent journal time (PutNew k bytes why) e w p f =
      free-cases (Stays journal) (found journal (Snapshot id)) (put_at (length journal) time bytes (slot_of journal (Snapshot id))) (slot_of journal (Snapshot id)) (inl refl)
      (λ free. let puts : PutsSnap journal id bytes = subst (λ (x : Key). PutsFirst journal bytes x) (same_key-true k (Snapshot id) e) f in let never = puts.other other free in let once = w.1 in cc)
  leaves-parent journal time (PutOver k bytes old why) e w p f =
      let cut : IsCut journal id old.0 bytes = subst (λ (x : Key). MayPutOver journal bytes old.0 why x) (same_key-true k (Snapshot id) e) p in
      old-cases (Stays journal) old.0 (found journal (Snapshot id)) (put_at (length journal) time bytes (slot_of journal (Snapshot id))) (slot_of journal (Snapshot id)) (inl refl)
      (λ s d v. inr (ap (option_and_then (λ (s : SnapshotFile). s.parent)) cut.is))
  leaves-parent journal time (Remove k why) e w p f = inl refl
  leaves-parent journal time (RemoveAt k old why) e w p f = old-cases (Stays journal) old.0 (found journal (Snapshot id)) _ (slot_of journal (Snapshot id)) (inl refl) (λ s d v. inl refl)
  leaves-parent journal time (ListPart part) e w p f = inl refl

  parent-one : (journal : List Event) (event : Event) → WasPut journal (Snapshot id) → IsGood journal event → IsFirst journal event → StaysOrCut (parent_at journal id) (parent_at (journal ++ event ∷ []) id)
  parent-one journal event w g f =
      subst (Stays journal) (sym (slot-append_one journal event (Snapshot id)))
      (effect-cases (Stays journal) (Snapshot id) (length journal) (slot_of journal (Snapshot id)) event (inl refl) (λ e d. leaves-parent journal event.time event.op e w g.polite (f d)))

  parent-along : (journal more : List Event) → WasPut journal (Snapshot id) → Each IsGood journal more → Each IsFirst journal more → StaysOrCut (parent_at journal id) (parent_at (journal ++ more) id)
  unfolding Each
  parent-along journal [] w g f = inl (ap (λ (h : List Event). parent_at h id) (append-nil journal))
  parent-along journal (x ∷ xs) w g f =
      subst (λ (h : List Event). StaysOrCut (parent_at journal id) (parent_at h id)) (append_assoc journal (x ∷ []) xs)
      (elim (parent-along (journal ++ x ∷ []) xs (WasPut-append journal (x ∷ []) (Snapshot id) w) g.1 f.1) [
        | inl same ↦ elim (parent-one journal x w g.0 f.0) [
          | inl was ↦ inl (same ∙ was)
          | inr cut ↦ inr (same ∙ cut)
        ]
        | inr cut ↦ inr cut
      ])

-- the parent of a snapshot that was put stays, or is cut
pub parent-stays : ParentsLaw
parent-stays id journal more once w g f = by_case (bytes_eq id.0 initial_id.0) refl
  where
    by_case : (b : Bool) → bytes_eq id.0 initial_id.0 ≡ b → StaysOrCut (parent_at journal id) (parent_at (journal ++ more) id)
    by_case true e =
        let same : id ≡ initial_id = id-true id initial_id e in
        let put : WasPut journal (Snapshot initial_id) = subst (λ (i : Id12). WasPut journal (Snapshot i)) same w in
        let old : last_put journal (Snapshot initial_id) ≡ Some initial_bytes = initial-last journal once put in
        let new : last_put (journal ++ more) (Snapshot initial_id) ≡ Some initial_bytes = initial-last (journal ++ more) (Each-append IsFirst [] journal more once f) (WasPut-append journal more (Snapshot initial_id) put) in
        subst (λ (i : Id12). StaysOrCut (parent_at journal i) (parent_at (journal ++ more) i)) (sym same) (inl (ap (parent_in initial_id) (new ∙ sym old)))
    by_case false e =
        let other : id ≢ initial_id = λ s. let y : bytes_eq id.0 initial_id.0 ≡ true = subst (λ (i : Id12). bytes_eq id.0 i.0 ≡ true) s (bytes-same id.0) in cc in
        parent-along id other journal more w g f

-- What is owed of own puts stays owed, whatever others do.
use Rattle.std.proofs.Common.{◌≡◌, inl, inr, ℕ, List, [], ◌++◌, refl, ◌∙◌, ap}
use Rattle.std.specs.Prelude.{Option, Some, None}
use Rattle.std.specs.Option.{option_and_then}
use Rattle.ice_ids.specs.declared.Id12.{Id12}
use Rattle.ice_ids.specs.declared.drawing.AnyIds.{AnyIds}
use Rattle.snapshot_file.specs.declared.snapshot.SnapshotFile.{SnapshotFile}
use Rattle.object_store.specs.declared.keys.Key.TheVariants.{Snapshot}
use Rattle.object_store.specs.declared.events.Op.{Op}
use Rattle.object_store.specs.declared.events.Op.TheVariants.{Get, PutNew, PutOver, Remove, RemoveAt, List as ListPart}
use Rattle.object_store.specs.declared.events.Event.{Event}
use Rattle.object_store.proofs.Journals.{Each-back}
use Rattle.object_store.proofs.Slots.{WasPut-append}
use Rattle.store_api.specs.Journal.{Each, snap_made, IsFirst, IsGood}
use Rattle.store_api.specs.Callers.{Caller, IsOther}
use Rattle.store_api.proofs.Programs.{good-waits}
use Rattle.store_api.proofs.Standing.{snap_made-append, snap_made-put}
use Rattle.reach.proofs.Holding.{holds-fore, holds-back}
use Rattle.commit_path.specs.Own.{parent_made, IsOwnCommit, OwesOwn}
use Rattle.commit_path.proofs.Listing.{PutItself-append}
use Rattle.commit_path.proofs.OwnPuts.{HasNotPut-others}

-- ---- an own commit stays one
-- the snapshot whose parent that is
record IsMadeOf (journal : List Event) (id base : Id12) : Type 0 where
  snap : SnapshotFile
  made : snap_made journal id ≡ Some snap
  parent : snap.parent ≡ Some base

made-of : (journal : List Event) (id base : Id12) → parent_made journal id ≡ Some base → IsMadeOf journal id base
made-of journal id base e = at (snap_made journal id) refl e
  where
    at : (o : Option SnapshotFile) → snap_made journal id ≡ o → option_and_then (λ (s : SnapshotFile). s.parent) o ≡ Some base → IsMadeOf journal id base
    at None is k = cc
    at (Some s) is k = record { snap = s; made = is; parent = k }

pub IsOwnCommit-append : (client : ℕ) (bytes : List ℕ) (start journal more : List Event) → Each IsGood journal more → IsOwnCommit client bytes start journal → IsOwnCommit client bytes start (journal ++ more)
IsOwnCommit-append client bytes start journal more good c = record {
  id = c.id;
  names = c.names;
  put = PutItself-append client (Snapshot c.id) start journal more c.put;
  base = c.base;
  base_put = WasPut-append journal more (Snapshot c.base) c.base_put;
  parent = λ once.
      let m = made-of journal c.id c.base (c.parent ((Each-back IsFirst [] journal more once).0)) in
      ap (option_and_then (λ (s : SnapshotFile). s.parent)) (snap_made-append journal more c.id m.snap m.made) ∙ m.parent;
  own = λ once key h.
      let m = made-of journal c.id c.base (c.parent ((Each-back IsFirst [] journal more once).0)) in
      elim (c.own ((Each-back IsFirst [] journal more once).0) key (holds-back journal more good once c.id (snap_made-put journal c.id m.snap m.made) key h)) [
        | inl base ↦ inl (holds-fore journal more good once c.base c.base_put key base)
        | inr own ↦ inr (PutItself-append client key start journal more own)
      ];
}

-- what is owed of own puts stays owed
pub OwesOwn-others : (by : Caller) (ids : AnyIds) (start journal more : List Event) (op : Op) → Each (IsOther by) journal more → OwesOwn ids by.number start op journal → OwesOwn ids by.number start op (journal ++ more)
OwesOwn-others by ids start journal more (Get key) others o = tt
OwesOwn-others by ids start journal more (ListPart part) others o = tt
OwesOwn-others by ids start journal more (PutNew key bytes why) others o = λ once. HasNotPut-others by key start journal more others (o once)
OwesOwn-others by ids start journal more (PutOver key bytes old why) others o = IsOwnCommit-append by.number bytes start journal more (good-waits by journal more others) o
OwesOwn-others by ids start journal more (Remove key why) others o = tt
OwesOwn-others by ids start journal more (RemoveAt key old why) others o = tt

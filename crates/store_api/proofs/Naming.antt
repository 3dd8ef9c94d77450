-- In a legal polite journal all that is named was put.
use Rattle.std.proofs.Common.{◌≡◌, ◌⊎◌, inl, inr, ℕ, ◌+◌, ◌≤◌, true, List, [], ◌∷◌, ◌++◌, length, take, refl, sym, ap, subst, append_assoc, append-nil, arith}
use Rattle.std.specs.Prelude.{Option, Some, None, option_and_then}
use Rattle.std.specs.Option.{option_or}
use Rattle.std.proofs.lemmas.Bool.{cases_order}
use Rattle.std.proofs.lemmas.List.{take-append-le, take_all, length-append}
use Rattle.ice_ids.specs.declared.Id12.{Id12}
use Rattle.ice_ids.specs.Text.{initial_id}
use Rattle.repo_objects.specs.Readings.{snapshot_by, manifest_by}
use Rattle.object_store.specs.declared.keys.Key.{Key}
use Rattle.object_store.specs.declared.keys.Key.TheVariants.{Snapshot, Manifest, Txn, Branch, Tag, Lease}
use Rattle.object_store.specs.declared.keys.Why.{Why}
use Rattle.object_store.specs.declared.events.Op.{Op}
use Rattle.object_store.specs.declared.events.Op.TheVariants.{Get, PutNew, PutOver, Remove, RemoveAt, List as ListPart}
use Rattle.object_store.specs.declared.events.Event.{Event}
use Rattle.object_store.specs.Machine.{Stored, Slot, fresh_slot, leaves, put_at, slot_of, found, first_put, is_on}
use Rattle.store_api.specs.Journal.{Each, IsGood, IsPolite, MayPutNew, MayPutOver, WasPut, NamesPut, ParentPut, ManifestsPut, ChunksPut, StoodAt, snap_in, snap_made}
use Rattle.store_api.specs.Laws.{AllNamed, NamesLaw}
use Rattle.object_store.proofs.Slots.{same_key-true, effect-cases, free-cases, old-cases, slot-append_one, slot-none, sound, found-stood, WasPut-append}
use Rattle.store_api.proofs.Once.{ManifestsPut-append, ChunksPut-append, cut-named, known-put, known-chunks}
use Rattle.store_api.proofs.Standing.{NamesPut-append, ParentPut-append}

polite-new : (journal : List Event) (key other : Key) (bytes : List ℕ) (why : Why) → key ≡ other → MayPutNew journal bytes why key → MayPutNew journal bytes why other
polite-new journal key other bytes why k p = subst (λ (x : Key). MayPutNew journal bytes why x) k p

polite-over : (journal : List Event) (key other : Key) (bytes : List ℕ) (old : ℕ) (why : Why) → key ≡ other → MayPutOver journal bytes old why key → MayPutOver journal bytes old why other
polite-over journal key other bytes old why k p = subst (λ (x : Key). MayPutOver journal bytes old why x) k p

-- ---- what stands names a snapshot that was put
abbrev RefFine : List Event → Slot → Type 0
RefFine journal slot = (s : Stored) → slot.stands ≡ Some s → NamesPut journal s.bytes

names-bytes : (journal : List Event) (n time : ℕ) (bytes : List ℕ) (slot : Slot) → NamesPut journal bytes → RefFine journal (put_at n time bytes slot)
names-bytes journal n time bytes slot p s e = let b : bytes ≡ s.bytes = cc in subst (λ (x : List ℕ). NamesPut journal x) b p

-- what stands at a key names a snapshot that was put, where each put there does
leaves-ref : (journal : List Event) (key : Key) → ((bytes : List ℕ) (why : Why) → MayPutNew journal bytes why key → NamesPut journal bytes) → ((bytes : List ℕ) (old : ℕ) (why : Why) → MayPutOver journal bytes old why key → NamesPut journal bytes)
    → (time : ℕ) (op : Op) → is_on key op ≡ true → IsPolite journal op → RefFine journal (slot_of journal key) → RefFine journal (leaves (length journal) time op (slot_of journal key))
leaves-ref journal key new over time (Get k) on p h = h
leaves-ref journal key new over time (PutNew k bytes why) on p h =
    free-cases (RefFine journal) (found journal key) (put_at (length journal) time bytes (slot_of journal key)) (slot_of journal key) h
    (λ e. names-bytes journal (length journal) time bytes (slot_of journal key) (new bytes why (polite-new journal k key bytes why (same_key-true k key on) p)))
leaves-ref journal key new over time (PutOver k bytes old why) on p h =
    old-cases (RefFine journal) old.0 (found journal key) (put_at (length journal) time bytes (slot_of journal key)) (slot_of journal key) h
    (λ s e v. names-bytes journal (length journal) time bytes (slot_of journal key) (over bytes old.0 why (polite-over journal k key bytes old.0 why (same_key-true k key on) p)))
leaves-ref journal key new over time (Remove k why) on p h = λ s e. cc
leaves-ref journal key new over time (RemoveAt k old why) on p h = old-cases (RefFine journal) old.0 (found journal key) _ (slot_of journal key) h (λ s e v t g. cc)
leaves-ref journal key new over time (ListPart part) on p h = h

-- ---- where a snapshot was first put, so was its log
abbrev LogFine : List Event → Id12 → Slot → Type 0
LogFine journal id slot = (b : List ℕ) → slot.first ≡ Some b → (id ≡ initial_id) ⊎ WasPut journal (Txn id)

leaves-log : (journal : List Event) (id : Id12) (time : ℕ) (op : Op) → is_on (Snapshot id) op ≡ true → IsPolite journal op → LogFine journal id (slot_of journal (Snapshot id)) → LogFine journal id (leaves (length journal) time op (slot_of journal (Snapshot id)))
leaves-log journal id time (Get key) k p h = h
leaves-log journal id time (PutNew key bytes why) k p h =
    let p' = polite-new journal key (Snapshot id) bytes why (same_key-true key (Snapshot id) k) p in
    free-cases (LogFine journal id) (found journal (Snapshot id)) (put_at (length journal) time bytes (slot_of journal (Snapshot id))) (slot_of journal (Snapshot id)) h (λ e b f. p'.0)
leaves-log journal id time (PutOver key bytes old why) k p h =
    old-cases (LogFine journal id) old.0 (found journal (Snapshot id)) (put_at (length journal) time bytes (slot_of journal (Snapshot id))) (slot_of journal (Snapshot id)) h (λ s e v b f. let g = (sound journal (Snapshot id)).first s e in h g.0 g.1)
leaves-log journal id time (Remove key why) k p h = h
leaves-log journal id time (RemoveAt key old why) k p h =
    old-cases (LogFine journal id) old.0 (found journal (Snapshot id)) _ (slot_of journal (Snapshot id)) h (λ s e v. h)
leaves-log journal id time (ListPart part) k p h = h

-- ---- what was first put names what was put
abbrev SnapFine : List Event → Id12 → Slot → Type 0
SnapFine journal id slot = ParentPut journal (snap_in id slot.first) × ManifestsPut journal (snap_in id slot.first)

abbrev ManifestFine : List Event → Id12 → Slot → Type 0
ManifestFine journal id slot = ChunksPut journal (option_and_then (manifest_by id) slot.first)

-- a fact on the first put, where it holds of this one too
or-fine : (Q : Option (List ℕ) → Type 0) (o : Option (List ℕ)) (bytes : List ℕ) → Q o → Q (Some bytes) → Q (option_or o (Some bytes))
or-fine Q None bytes a b = b
or-fine Q (Some x) bytes a b = a

-- nothing is first put where something was put
or-stands : (o : Option (List ℕ)) (b bytes : List ℕ) → o ≡ Some b → option_or o (Some bytes) ≡ o
or-stands None b bytes e = cc
or-stands (Some x) b bytes e = refl

-- a fact on the first put stays where it holds of each one
module _ (journal : List Event) (key : Key) (Q : Option (List ℕ) → Type 0) (new : (bytes : List ℕ) (why : Why) → MayPutNew journal bytes why key → Q (Some bytes)) where
  abbrev Fine : Slot → Type 0
  Fine slot = Q slot.first

  leaves-fine : (time : ℕ) (op : Op) → is_on key op ≡ true → IsPolite journal op → Fine (slot_of journal key) → Fine (leaves (length journal) time op (slot_of journal key))
  leaves-fine time (Get k) e p h = h
  leaves-fine time (PutNew k bytes why) e p h =
      free-cases Fine (found journal key) (put_at (length journal) time bytes (slot_of journal key)) (slot_of journal key) h
      (λ free. or-fine Q (first_put journal key) bytes h (new bytes why (polite-new journal k key bytes why (same_key-true k key e) p)))
  leaves-fine time (PutOver k bytes old why) e p h =
      old-cases Fine old.0 (found journal key) (put_at (length journal) time bytes (slot_of journal key)) (slot_of journal key) h
      (λ s d v. let f = (sound journal key).first s d in subst Q (sym (or-stands (first_put journal key) f.0 bytes f.1)) h)
  leaves-fine time (Remove k why) e p h = h
  leaves-fine time (RemoveAt k old why) e p h = old-cases Fine old.0 (found journal key) _ (slot_of journal key) h (λ s d v. h)
  leaves-fine time (ListPart part) e p h = h

-- ---- along a journal
after : (Q : Slot → Type 0) (journal : List Event) (event : Event) (key : Key) → Q (slot_of journal key) → (is_on key event.op ≡ true → Q (leaves (length journal) event.time event.op (slot_of journal key))) → Q (slot_of (journal ++ event ∷ []) key)
after Q journal event key keep act = subst Q (sym (slot-append_one journal event key)) (effect-cases Q key (length journal) (slot_of journal key) event keep (λ k d. act k))

abbrev FoundAs : Key → (version : ℕ) → (bytes : List ℕ) → (created : ℕ) → List Event → Type 0
FoundAs key version bytes created journal = found journal key ≡ Some (record { bytes = bytes; version = version; created = created })

-- ---- a fact on what stands or stood, where it holds of each put
module _ (journal : List Event) (key : Key) (Q : List ℕ → Type 0) (stood : (version : ℕ) (bytes : List ℕ) → StoodAt journal key version bytes → Q bytes) (new : (bytes : List ℕ) (why : Why) → MayPutNew journal bytes why key → Q bytes) (over : (bytes : List ℕ) (old : ℕ) (why : Why) → MayPutOver journal bytes old why key → Q bytes) where
  abbrev Stands : Slot → Type 0
  Stands slot = (s : Stored) → slot.stands ≡ Some s → Q s.bytes

  stands-now : Stands (slot_of journal key)
  stands-now s e = stood s.version s.bytes (found-stood journal key s e)

  stands-bytes : (n time : ℕ) (bytes : List ℕ) (slot : Slot) → Q bytes → Stands (put_at n time bytes slot)
  stands-bytes n time bytes slot q s e = let b : bytes ≡ s.bytes = cc in subst Q b q

  leaves-stands : (time : ℕ) (op : Op) → is_on key op ≡ true → IsPolite journal op → Stands (leaves (length journal) time op (slot_of journal key))
  leaves-stands time (Get k) e p = stands-now
  leaves-stands time (PutNew k bytes why) e p =
      free-cases Stands (found journal key) (put_at (length journal) time bytes (slot_of journal key)) (slot_of journal key) stands-now
      (λ free. stands-bytes (length journal) time bytes (slot_of journal key) (new bytes why (polite-new journal k key bytes why (same_key-true k key e) p)))
  leaves-stands time (PutOver k bytes old why) e p =
      old-cases Stands old.0 (found journal key) (put_at (length journal) time bytes (slot_of journal key)) (slot_of journal key) stands-now
      (λ s d v. stands-bytes (length journal) time bytes (slot_of journal key) (over bytes old.0 why (polite-over journal k key bytes old.0 why (same_key-true k key e) p)))
  leaves-stands time (Remove k why) e p = λ s d. cc
  leaves-stands time (RemoveAt k old why) e p = old-cases Stands old.0 (found journal key) _ (slot_of journal key) stands-now (λ s d v t g. cc)
  leaves-stands time (ListPart part) e p = stands-now

  -- it stood before the event, or the event left it
  stood-one : (event : Event) → IsGood journal event → (version : ℕ) (bytes : List ℕ) → StoodAt (journal ++ event ∷ []) key version bytes → Q bytes
  stood-one event g version bytes h = elim (cases_order version (length journal)) [
    | inl same ↦ left (omega (arith, length-append {A = Event}))
    | inr o ↦ elim o [
      | inl less ↦ stood version bytes (record { created = h.created; stood = subst (FoundAs key version bytes h.created) (take-append-le (version + 1) journal (event ∷ []) (omega arith)) h.stood })
      | inr more ↦ left (omega (arith, length-append {A = Event}))
    ]
  ]
    where
      left : length (journal ++ event ∷ []) ≤ version + 1 → Q bytes
      left past =
          let now : FoundAs key version bytes h.created (journal ++ event ∷ []) = subst (FoundAs key version bytes h.created) (take_all (version + 1) (journal ++ event ∷ []) past) h.stood in
          after Stands journal event key stands-now (λ k. leaves-stands event.time event.op k g.polite) (record { bytes = bytes; version = version; created = h.created }) now

named-one : (journal : List Event) (event : Event) → IsGood journal event → AllNamed journal → AllNamed (journal ++ event ∷ [])
named-one journal event g a = record {
  branches = λ name. named-ref (Branch name) (λ bytes why p. p.0) (λ bytes old why p. p.names) (a.branches name);
  tags = λ name. named-ref (Tag name) (λ bytes why p. p.0) (λ bytes old why p. absurd p) (a.tags name);
  leases = λ id. named-ref (Lease id) (λ bytes why p. p.0) (λ bytes old why p. absurd p) (a.leases id);
  logs = λ id w.
      let h : LogFine journal id (slot_of (journal ++ event ∷ []) (Snapshot id)) = after (LogFine journal id) journal event (Snapshot id) (λ b f. a.logs id (b, f)) (λ k. leaves-log journal id event.time event.op k g.polite (λ b f. a.logs id (b, f))) in
      elim (h w.0 w.1) [ inl e ↦ inl e | inr l ↦ inr (WasPut-append journal (event ∷ []) (Txn id) l) ];
  parents = λ id. ParentPut-append journal (event ∷ []) (snap_made (journal ++ event ∷ []) id) (snap-one id).0;
  manifests = λ id. ManifestsPut-append journal (event ∷ []) (snap_made (journal ++ event ∷ []) id) (snap-one id).1;
  standing = λ id version bytes h. ManifestsPut-append journal (event ∷ []) (snapshot_by id bytes) (stood-snap id version bytes h);
  chunks = λ id. ChunksPut-append journal (event ∷ []) (option_and_then (manifest_by id) (first_put (journal ++ event ∷ []) (Manifest id))) (manifest-one id);
  standing_manifests = λ id version bytes h. ChunksPut-append journal (event ∷ []) (manifest_by id bytes) (stood-manifest id version bytes h);
}
  where
    named-ref : (key : Key) → ((bytes : List ℕ) (why : Why) → MayPutNew journal bytes why key → NamesPut journal bytes) → ((bytes : List ℕ) (old : ℕ) (why : Why) → MayPutOver journal bytes old why key → NamesPut journal bytes)
        → RefFine journal (slot_of journal key) → (s : Stored) → found (journal ++ event ∷ []) key ≡ Some s → NamesPut (journal ++ event ∷ []) s.bytes
    named-ref key new over h s e =
        NamesPut-append journal (event ∷ []) s.bytes (after (RefFine journal) journal event key h (λ k. leaves-ref journal key new over event.time event.op k g.polite h) s e)

    snap-one : (id : Id12) → SnapFine journal id (slot_of (journal ++ event ∷ []) (Snapshot id))
    snap-one id =
        after (SnapFine journal id) journal event (Snapshot id) (a.parents id, a.manifests id)
        (λ k. leaves-fine journal (Snapshot id) (λ o. ParentPut journal (snap_in id o) × ManifestsPut journal (snap_in id o)) (λ bytes why p. (p.1, known-put journal (snapshot_by id bytes) a.standing p.2)) event.time event.op k g.polite (a.parents id, a.manifests id))

    stood-snap : (id : Id12) (version : ℕ) (bytes : List ℕ) → StoodAt (journal ++ event ∷ []) (Snapshot id) version bytes → ManifestsPut journal (snapshot_by id bytes)
    stood-snap id =
        stood-one journal (Snapshot id) (λ bytes. ManifestsPut journal (snapshot_by id bytes)) (a.standing id) (λ bytes why p. known-put journal (snapshot_by id bytes) a.standing p.2)
        (λ bytes old why p. cut-named journal id old bytes (a.standing id) p) event g

    stood-manifest : (id : Id12) (version : ℕ) (bytes : List ℕ) → StoodAt (journal ++ event ∷ []) (Manifest id) version bytes → ChunksPut journal (manifest_by id bytes)
    stood-manifest id =
        stood-one journal (Manifest id) (λ bytes. ChunksPut journal (manifest_by id bytes)) (a.standing_manifests id) (λ bytes why p. known-chunks journal (manifest_by id bytes) a.standing_manifests p)
        (λ bytes old why p. absurd p) event g

    manifest-one : (id : Id12) → ManifestFine journal id (slot_of (journal ++ event ∷ []) (Manifest id))
    manifest-one id =
        after (ManifestFine journal id) journal event (Manifest id) (a.chunks id)
        (λ k. leaves-fine journal (Manifest id) (λ o. ChunksPut journal (option_and_then (manifest_by id) o)) (λ bytes why p. known-chunks journal (manifest_by id bytes) a.standing_manifests p) event.time event.op k g.polite (a.chunks id))

named-along : (journal more : List Event) → AllNamed journal → Each IsGood journal more → AllNamed (journal ++ more)
unfolding Each
named-along journal [] a g = subst (λ (h : List Event). AllNamed h) (sym (append-nil journal)) a
named-along journal (x ∷ xs) a g = subst (λ (h : List Event). AllNamed h) (append_assoc journal (x ∷ []) xs) (named-along (journal ++ x ∷ []) xs (named-one journal x g.0 a) g.1)

-- nothing is put as yet
at-start : (Q : Slot → Type 0) (key : Key) → Q fresh_slot → Q (slot_of [] key)
at-start Q key q = subst Q (sym (slot-none key)) q

never-stood : {A : Type 0} (key : Key) (version : ℕ) (bytes : List ℕ) → StoodAt [] key version bytes → A
never-stood key version bytes h =
    let below = (sound (take (version + 1) []) key).below _ h.stood in
    let nothing : length (take {A = Event} (version + 1) []) ≡ 0 = ap length (take_all (version + 1) [] (omega arith)) in
    absurd (omega (arith, below, nothing))

pub names-law : NamesLaw
names-law journal g = named-along [] journal (record {
  branches = λ name. at-start (RefFine []) (Branch name) (λ s e. cc);
  tags = λ name. at-start (RefFine []) (Tag name) (λ s e. cc);
  leases = λ id. at-start (RefFine []) (Lease id) (λ s e. cc);
  logs = λ id w. at-start (LogFine [] id) (Snapshot id) (λ b f. cc) w.0 w.1;
  parents = λ id. (at-start (SnapFine [] id) (Snapshot id) (tt, tt)).0;
  manifests = λ id. (at-start (SnapFine [] id) (Snapshot id) (tt, tt)).1;
  standing = λ id version bytes h. never-stood (Snapshot id) version bytes h;
  chunks = λ id. at-start (ManifestFine [] id) (Manifest id) tt;
  standing_manifests = λ id version bytes h. never-stood (Manifest id) version bytes h;
}) g

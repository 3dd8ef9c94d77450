-- What a mirror may do next is polite.
use Rattle.std.proofs.Common.{◌≡◌, ◌⊎◌, ℕ, inl, inr, true, List, [], ◌∷◌, ◌++◌, refl, sym, ◌∙◌, ap, subst}
use Rattle.std.specs.Prelude.{IfSome, Option, Some, None}
use Rattle.ice_ids.specs.declared.Id12.{Id12}
use Rattle.ice_ids.specs.Text.{IsId12, initial_id}
use Rattle.repo_objects.specs.Readings.{snapshot_by, manifest_by, ref_of}
use Rattle.repo_objects.specs.Laws.{RefLaw}
use Rattle.object_store.specs.declared.keys.Key.{Key}
use Rattle.object_store.specs.declared.keys.Key.TheVariants.{Snapshot, Manifest, Txn, Chunk, Branch, Tag, Tombstone, Lease}
use Rattle.object_store.specs.declared.keys.Why.{Why}
use Rattle.object_store.specs.declared.keys.Why.TheVariants.{Reset}
use Rattle.object_store.specs.declared.events.Version.{Version}
use Rattle.object_store.specs.declared.events.Op.{Op}
use Rattle.object_store.specs.declared.events.Op.TheVariants.{Get, PutNew, PutOver, Remove, RemoveAt, List as ListPart}
use Rattle.object_store.specs.declared.events.Got.TheVariants.{Found}
use Rattle.object_store.specs.declared.events.New.TheVariants.{Done as New_done}
use Rattle.object_store.specs.declared.events.Reply.{Reply}
use Rattle.object_store.specs.declared.events.Reply.TheVariants as R
use Rattle.object_store.specs.declared.events.Event.{Event}
use Rattle.object_store.specs.Machine.{Stored, found, got_of, IsAnswered}
use Rattle.object_store.proofs.Slots.{WasPut-append, sound}
use Rattle.store_api.specs.Journal.{IsPolite, WasPut, NamesPut, ParentPut, ManifestsKnown, ChunksKnown}
use Rattle.store_api.specs.Callers.{only, own_event}
use Rattle.store_api.proofs.Programs.{Makes-alone}
use Rattle.store_api.proofs.Puts.{put-told}
use Rattle.two_stores.specs.declared.side.Side.{Side}
use Rattle.two_stores.specs.declared.side.Side.TheVariants.{From, To}
use Rattle.mirror.specs.Programs.{cause_of}
use Rattle.mirror_calls.specs.Deeds.{Deed}
use Rattle.mirror_calls.specs.Copies.{IsThere, IsCopied, IsChainCopied, first, further}
use Rattle.mirror_calls.specs.Owed.{MayPutManifest, MayPutSnapshot, MayPoint, MayPut, MayCopyOver, MayDo}
use Rattle.mirror_calls.specs.Journals.{GrewBy}
use Rattle.mirror_calls.proofs.Beside.{Happened, happened}

-- what a get found stands
pub got-stored : (at : Option Stored) (bytes : List ℕ) (version : Version) (now time : ℕ) → R.Got (Found bytes version now) ≡ R.Got (got_of time at) → (s : Stored) × (at ≡ Some s) × (s.bytes ≡ bytes)
got-stored None bytes version now time e = absurd (cc)
got-stored (Some s) bytes version now time e = (s, refl, cc)

-- the event as the client's own
pub answered-so : (client : ℕ) (start journal : List Event) (op : Op) (reply : Reply) → (h : Happened client start journal op reply) → IsAnswered (start ++ h.since) (own_event (only true client) op reply h.event.time)
answered-so client start journal op reply h = subst (λ (e : Event). IsAnswered (start ++ h.since) e) h.event_is h.good.legal

module _ (client : ℕ) (start journal : List Event) where
  -- a put that was done, and all that was before, stays put
  put-happened : (key : Key) (bytes : List ℕ) (why : Why) (version : Version) (now : ℕ) → Happened client start journal (PutNew key bytes why) (R.New (New_done version now)) → WasPut journal key
  put-happened key bytes why version now h =
      let op : Op = PutNew key bytes why in
      let reply : Reply = R.New (New_done version now) in
      let before : List Event = start ++ h.since in
      let own : Event = own_event (only true client) op reply h.event.time in
      let at : WasPut (before ++ own ∷ []) key = put-told (only true client) key bytes why (New_done version now) before (before ++ own ∷ []) (Makes-alone (only true client) op reply h.event.time before (before ++ own ∷ []) (answered-so client start journal op reply h) refl) in
      let here : WasPut (before ++ h.event ∷ []) key = subst (λ (e : Event). WasPut (before ++ e ∷ []) key) (sym h.event_is) at in
      let whole : WasPut ((before ++ h.event ∷ []) ++ h.after) key = WasPut-append (before ++ h.event ∷ []) h.after key here in
      subst (λ (j : List Event). WasPut j key) (whole-is before h.event h.after ∙ sym h.is) whole
    where
      whole-is : (before : List Event) (event : Event) (after : List Event) → (before ++ event ∷ []) ++ after ≡ before ++ event ∷ after
      whole-is [] event after = refl
      whole-is (x ∷ xs) event after = ap (λ (l : List Event). x ∷ l) (whole-is xs event after)

  got-happened : (key : Key) (bytes : List ℕ) (version : Version) (now : ℕ) → Happened client start journal (Get key) (R.Got (Found bytes version now)) → WasPut journal key
  got-happened key bytes version now h =
      let before : List Event = start ++ h.since in
      let s = got-stored (found before key) bytes version now h.event.time (answered-so client start journal (Get key) (R.Got (Found bytes version now)) h).answered in
      subst (λ (j : List Event). WasPut j key) (sym h.is) (WasPut-append before (h.event ∷ h.after) key ((sound before key).first s.0 s.1))

  module _ (deeds : List Deed) (g : GrewBy client start journal To deeds) where
    -- what the target has was put there
    pub there-put : (key : Key) (bytes : List ℕ) → IsThere deeds key bytes → WasPut journal key
    there-put key bytes (inl p) = put-happened key bytes p.why p.version p.now (happened client start journal To deeds (PutNew key bytes p.why) (R.New (New_done p.version p.now)) g p.did)
    there-put key bytes (inr q) = got-happened key bytes q.version q.now (happened client start journal To deeds (Get key) (R.Got (Found bytes q.version q.now)) g q.did)

    chain-put : (id : Id12) → IsChainCopied deeds id → WasPut journal (Snapshot id)
    chain-put id (first p s) = there-put (Snapshot id) s.file s.there
    chain-put id (further p s c) = there-put (Snapshot id) s.file s.there

    parent-put : (parent : Option Id12) → IfSome parent (IsChainCopied deeds) → (p : Id12) → parent ≡ Some p → WasPut journal (Snapshot p)
    parent-put None c p e = absurd (cc)
    parent-put (Some q) c p e = subst (λ (x : Id12). WasPut journal (Snapshot x)) (some-is q p e) (chain-put q c)
      where
        some-is : (x y : Id12) → Some x ≡ Some y → x ≡ y
        some-is x y e = cc

    log-put : (id : Id12) → (id ≡ initial_id) ⊎ IsCopied deeds (Txn id) → (id ≡ initial_id) ⊎ WasPut journal (Txn id)
    log-put id (inl same) = inl same
    log-put id (inr c) = inr (there-put (Txn id) c.bytes c.there)

    snapshot-polite : (id : Id12) (bytes : List ℕ) → MayPutSnapshot deeds id bytes → ((id ≡ initial_id) ⊎ WasPut journal (Txn id)) × ParentPut journal (snapshot_by id bytes) × ManifestsKnown journal (snapshot_by id bytes)
    snapshot-polite id bytes m = (
      log-put id m.named.log,
      rw m.says.read (λ p e. parent-put m.says.parent m.before p e),
      rw m.says.read (λ q n. let c = m.named.manifests q n in inl (there-put (Manifest q) c.bytes c.there)),
    )

    manifest-polite : (id : Id12) (bytes : List ℕ) → MayPutManifest deeds id bytes → ChunksKnown journal (manifest_by id bytes)
    manifest-polite id bytes m = rw m.read (λ q n. let c = m.chunks q n in inl (there-put (Chunk q) c.bytes c.there))

    names-put : RefLaw → (key : Key) (bytes : List ℕ) → MayPoint deeds key bytes → NamesPut journal bytes
    names-put law key bytes m =
        let i : IsId12 m.id = law.read m.named.bytes m.id m.named.names in
        record { id = m.id; reference = subst (λ (b : List ℕ). ref_of b ≡ Some m.id) (sym m.is) (law.written m.id i); put = chain-put m.id m.copied }

    new-polite : RefLaw → (key : Key) (bytes : List ℕ) (why : Why) → MayPut deeds bytes key → why ≡ cause_of key → IsPolite journal (PutNew key bytes why)
    new-polite law (Snapshot id) bytes why m w = snapshot-polite id bytes m
    new-polite law (Manifest id) bytes why m w = manifest-polite id bytes m
    new-polite law (Txn id) bytes why m w = tt
    new-polite law (Chunk id) bytes why m w = tt
    new-polite law (Branch name) bytes why m w = (names-put law (Branch name) bytes m.point, inl w)
    new-polite law (Tag name) bytes why m w = (names-put law (Tag name) bytes m.point, w)
    new-polite law (Tombstone name) bytes why m w = absurd m
    new-polite law (Lease id) bytes why m w = absurd m

    over-polite : RefLaw → (key : Key) (bytes : List ℕ) (old : Version) (why : Why) → MayCopyOver deeds bytes old key → why ≡ Reset → IsPolite journal (PutOver key bytes old why)
    over-polite law (Branch name) bytes old why m w = record { names = names-put law (Branch name) bytes m.point; cause = inl w }
    over-polite law (Snapshot id) bytes old why m w = absurd m
    over-polite law (Manifest id) bytes old why m w = absurd m
    over-polite law (Txn id) bytes old why m w = absurd m
    over-polite law (Chunk id) bytes old why m w = absurd m
    over-polite law (Tag name) bytes old why m w = absurd m
    over-polite law (Tombstone name) bytes old why m w = absurd m
    over-polite law (Lease id) bytes old why m w = absurd m

    pub target-polite : RefLaw → (op : Op) → MayDo deeds To op → IsPolite journal op
    target-polite law (Get key) m = tt
    target-polite law (ListPart part) m = absurd m
    target-polite law (PutNew key bytes why) m = new-polite law key bytes why m.0 m.1
    target-polite law (PutOver key bytes old why) m = over-polite law key bytes old why m.0 m.1
    target-polite law (Remove key why) m = absurd m
    target-polite law (RemoveAt key old why) m = absurd m

-- in the source only reads are made
pub source-polite : (journal : List Event) (deeds : List Deed) (op : Op) → MayDo deeds From op → IsPolite journal op
source-polite journal deeds (Get key) m = tt
source-polite journal deeds (ListPart part) m = tt
source-polite journal deeds (PutNew key bytes why) m = absurd m
source-polite journal deeds (PutOver key bytes old why) m = absurd m
source-polite journal deeds (Remove key why) m = absurd m
source-polite journal deeds (RemoveAt key old why) m = absurd m

-- on either side
pub side-polite : RefLaw → (client : ℕ) (start journal : List Event) (side : Side) (deeds : List Deed) (op : Op) → MayDo deeds side op → GrewBy client start journal side deeds → IsPolite journal op
side-polite law client start journal From deeds op m g = source-polite journal deeds op m
side-polite law client start journal To deeds op m g = target-polite client start journal deeds g law op m

-- A copied snapshot has the same tree in both stores, where nothing is put again in the source, nor by others in the target.
use Rattle.std.proofs.Common.{◌≡◌, ◌≢◌, ℕ, inl, inr, Bool, true, false, cond, List, [], ◌∷◌, ◌++◌, length, drop, refl, sym, ◌∙◌, ap, subst, append_assoc, append-nil, eqb-true, eq-eqb}
use Rattle.std.proofs.Math.Seq.{drop-append_seam}
use Rattle.std.specs.Prelude.{◌==◌, Option, Some, None, option_map, option_and_then, bytes_eq, Contains}
use Rattle.ice_ids.specs.declared.Id12.{Id12}
use Rattle.ice_ids.specs.Text.{initial_id}
use Rattle.held_manifest.specs.Laws.{ObjectsLaw}
use Rattle.snapshot_file.specs.declared.nodes.NodeRow.{NodeRow}
use Rattle.snapshot_file.specs.declared.snapshot.SnapshotFile.{SnapshotFile}
use Rattle.manifest_file.specs.declared.manifest.ManifestFile.{ManifestFile}
use Rattle.zarr_tree.specs.Trees.{Tree}
use Rattle.repo_objects.specs.Readings.{snapshot_by, manifest_by, ref_of}
use Rattle.repo_objects.specs.Trees.{NamesManifest, NamesChunk, manifest_put, or_empty, tree_under}
use Rattle.repo_objects.specs.Laws.{SnapshotLaw, RefLaw, initial_bytes}
use Rattle.object_store.specs.declared.keys.Key.{Key}
use Rattle.object_store.specs.declared.keys.Key.TheVariants.{Snapshot, Manifest, Txn, Chunk, Branch, Tag, Tombstone, Lease}
use Rattle.object_store.specs.declared.keys.Why.{Why}
use Rattle.object_store.specs.declared.events.Version.{Version}
use Rattle.object_store.specs.declared.events.Op.{Op}
use Rattle.object_store.specs.declared.events.Op.TheVariants.{Get, PutNew, PutOver, Remove, RemoveAt, List as ListPart}
use Rattle.object_store.specs.declared.events.Got.TheVariants.{Found}
use Rattle.object_store.specs.declared.events.New.TheVariants.{Done as New_done}
use Rattle.object_store.specs.declared.events.Reply.TheVariants as R
use Rattle.object_store.specs.declared.events.Event.{Event}
use Rattle.object_store.specs.Machine.{Stored, Slot, slot_of, effect, found, last_put, new_of, leaves, put_at, where_free, is_on, was_done}
use Rattle.object_store.proofs.Slots.{same_key-refl, same_key-true, bytes-same, id-true, effect-cases, free-cases, old-cases, slot-append_one, sound, found-stood, stood-is, StoodAt-append, WasPut-append}
use Rattle.object_store.proofs.Journals.{Each-back, Each-both}
use Rattle.store_api.specs.Journal.{Each, IsGood, IsPolite, IsFirst, IsFirstOp, IsOnce, WasPut, StoodAt, puts_of, snap_in, rows_of, PutsFirst, MayPutOver, IsCut}
use Rattle.store_api.specs.Callers.{Caller, only, own_event}
use Rattle.store_api.specs.Program.{events_of}
use Rattle.store_api.proofs.SameTree.{tree-same}
use Rattle.store_api.proofs.Once.{initial-last}
use Rattle.store_api.proofs.Standing.{manifest-stays, chunk-stays, rows-stay, by-rows}
use Rattle.two_stores.specs.declared.side.Side.{Side}
use Rattle.two_stores.specs.declared.side.Side.TheVariants.{From, To}
use Rattle.two_stores.specs.Sides.{Both}
use Rattle.two_stores.proofs.PairLaws.{KeepsPair-weaker, LeadsPair-weaker}
use Rattle.mirror_reports.specs.declared.outcome.MirrorEnd.{MirrorEnd}
use Rattle.mirror_reports.specs.Told.{key_of}
use Rattle.mirror.specs.Programs.{mirror_program}
use Rattle.ice_ids.proofs.Elements.{first-is, later-is, first-or-later, none-in}
use Rattle.mirror_calls.specs.Deeds.{Deed, Did, HasGot, HasRef}
use Rattle.mirror_calls.specs.Copies.{IsThere, IsSnapshotCopied, SaysBut, IsChainCopied, first, further}
use Rattle.mirror_calls.specs.Owed.{MayPoint, MayDo}
use Rattle.mirror_calls.specs.Reports.{ref_id}
use Rattle.mirror_calls.specs.Journals.{deeds_in, on_this, deeds_on, GrewBy, AreOwed, AreDeeds}
use Rattle.mirror_calls.specs.Laws.{BothTell, IsFirstOrOf, IsOnceBeside, WasNamedIn, IsSameIn, NamesSame, IsOwed, PointsWell, MirrorTells, RefsSame, MirroredTreesLaw}
use Rattle.mirror_calls.proofs.Later.{Later, later-same, got-later, ref-later, chain-later}
use Rattle.mirror_calls.proofs.Beside.{happened}
use Rattle.mirror_calls.proofs.Polite.{got-stored, answered-so}
use Rattle.mirror_calls.proofs.Leading.{mirrors-exactly}

some-is : {A : Type 0} (x y : A) → Some x ≡ Some y → x ≡ y
some-is x y e = cc

-- ---- what was there at a moment
-- at some moment since `start` these were the last bytes that were put at the key
pub record WasThere (start journal : List Event) (key : Key) (bytes : List ℕ) : Type 0 where
  pub since : List Event
  pub rest : List Event
  pub is : journal ≡ (start ++ since) ++ rest
  pub last : last_put (start ++ since) key ≡ Some bytes
  pub good : Each IsGood (start ++ since) rest

-- a put leaves its bytes
put-slot : (key : Key) (bytes : List ℕ) (why : Why) (client n time : ℕ) (version : Version) (now : ℕ) (slot : Slot) → effect key n slot (own_event (only true client) (PutNew key bytes why) (R.New (New_done version now)) time) ≡ where_free slot.stands (put_at n time bytes slot) slot
unfolding effect
put-slot key bytes why client n time version now slot = rw (same_key-refl key) refl

new-free : (at : Option Stored) (version : Version) (now n time : ℕ) → R.New (New_done version now) ≡ R.New (new_of n time at) → at ≡ None
new-free None version now n time e = refl
new-free (Some s) version now n time e = absurd (cc)

pair-up : (P : List Event → Event → Type 0) (old : List Event) (event : Event) (after : List Event) → P old event → Each P (old ++ event ∷ []) after → Each P old (event ∷ after)
unfolding Each
pair-up P old event after p e = (p, e)

whole-is : (before : List Event) (event : Event) (after : List Event) → (before ++ event ∷ []) ++ after ≡ before ++ event ∷ after
whole-is [] event after = refl
whole-is (x ∷ xs) event after = ap (λ (l : List Event). x ∷ l) (whole-is xs event after)

module _ (client : ℕ) (start journal : List Event) (side : Side) (deeds : List Deed) (g : GrewBy client start journal side deeds) where
  pub got-there : (key : Key) (bytes : List ℕ) → HasGot deeds side key bytes → WasThere start journal key bytes
  got-there key bytes q =
      let h = happened client start journal side deeds (Get key) (R.Got (Found bytes q.version q.now)) g q.did in
      let s = got-stored (found (start ++ h.since) key) bytes q.version q.now h.event.time (answered-so client start journal (Get key) (R.Got (Found bytes q.version q.now)) h).answered in
      record {
        since = h.since;
        rest = h.event ∷ h.after;
        is = h.is;
        last = (sound (start ++ h.since) key).last s.0 s.1 ∙ ap (λ (b : List ℕ). Some b) s.2;
        good = pair-up IsGood (start ++ h.since) h.event h.after h.good h.rest;
      }

  pub put-there : (key : Key) (bytes : List ℕ) (why : Why) (version : Version) (now : ℕ) → Did deeds side (PutNew key bytes why) (R.New (New_done version now)) → WasThere start journal key bytes
  put-there key bytes why version now d =
      let h = happened client start journal side deeds (PutNew key bytes why) (R.New (New_done version now)) g d in
      let before : List Event = start ++ h.since in
      let own : Event = own_event (only true client) (PutNew key bytes why) (R.New (New_done version now)) h.event.time in
      let free : found before key ≡ None = new-free (found before key) version now (length before) h.event.time (answered-so client start journal (PutNew key bytes why) (R.New (New_done version now)) h).answered in
      let slot : slot_of (before ++ own ∷ []) key ≡ where_free None (put_at (length before) h.event.time bytes (slot_of before key)) (slot_of before key) =
      slot-append_one before own key ∙ (put-slot key bytes why client (length before) h.event.time version now (slot_of before key) ∙ ap (λ (o : Option Stored). where_free o (put_at (length before) h.event.time bytes (slot_of before key)) (slot_of before key)) free) in
      let last : last_put (before ++ own ∷ []) key ≡ Some bytes = ap (λ (s : Slot). s.last) slot in
      let here : last_put (before ++ h.event ∷ []) key ≡ Some bytes = subst (λ (e : Event). last_put (before ++ e ∷ []) key ≡ Some bytes) (sym h.event_is) last in
      let at : before ++ h.event ∷ [] ≡ start ++ (h.since ++ h.event ∷ []) = append_assoc start h.since (h.event ∷ []) in
      record {
        since = h.since ++ h.event ∷ [];
        rest = h.after;
        is = h.is ∙ (sym (whole-is before h.event h.after) ∙ ap (λ (l : List Event). l ++ h.after) at);
        last = subst (λ (l : List Event). last_put l key ≡ Some bytes) at here;
        good = subst (λ (l : List Event). Each IsGood l h.after) at h.rest;
      }

-- ---- the source
module _ (client : ℕ) (start journal : List Event) (deeds : List Deed) (g : GrewBy client start journal From deeds) (once : IsOnce journal) where
  -- nothing is put again behind it
  first-behind : (before rest : List Event) → journal ≡ before ++ rest → IsOnce before × Each IsFirst before rest
  first-behind before rest is = Each-back IsFirst [] before rest (subst IsOnce is once)

  pub manifest-last : (m : Id12) (bytes : List ℕ) → HasGot deeds From (Manifest m) bytes → last_put journal (Manifest m) ≡ Some bytes
  manifest-last m bytes q =
      let t = got-there client start journal From deeds g (Manifest m) bytes q in
      ap (λ (j : List Event). last_put j (Manifest m)) t.is ∙ (manifest-stays (start ++ t.since) t.rest m ((sound (start ++ t.since) (Manifest m)).begun bytes t.last) t.good (first-behind (start ++ t.since) t.rest t.is).1 ∙ t.last)

  pub chunk-last : (c : Id12) (bytes : List ℕ) → HasGot deeds From (Chunk c) bytes → last_put journal (Chunk c) ≡ Some bytes
  chunk-last c bytes q =
      let t = got-there client start journal From deeds g (Chunk c) bytes q in
      ap (λ (j : List Event). last_put j (Chunk c)) t.is ∙ (chunk-stays (start ++ t.since) t.rest c ((sound (start ++ t.since) (Chunk c)).begun bytes t.last) t.good (first-behind (start ++ t.since) t.rest t.is).1 ∙ t.last)

  pub rows-last : (id : Id12) (bytes : List ℕ) (s : SnapshotFile) → HasGot deeds From (Snapshot id) bytes → snapshot_by id bytes ≡ Some s → rows_of journal id ≡ Some s.nodes
  rows-last id bytes s q read =
      let t = got-there client start journal From deeds g (Snapshot id) bytes q in
      let f = first-behind (start ++ t.since) t.rest t.is in
      let here : rows_of (start ++ t.since) id ≡ Some s.nodes = ap (λ (o : Option (List ℕ)). option_map (λ (x : SnapshotFile). x.nodes) (snap_in id o)) t.last ∙ ap (λ (o : Option SnapshotFile). option_map (λ (x : SnapshotFile). x.nodes) o) read in
      ap (λ (j : List Event). rows_of j id) t.is ∙ (rows-stay id (start ++ t.since) t.rest f.0 ((sound (start ++ t.since) (Snapshot id)).begun bytes t.last) t.good f.1 ∙ here)

  -- the initial snapshot has its own bytes there
  pub initial-rows : (rows : List NodeRow) → rows_of journal initial_id ≡ Some rows → option_map (λ (x : SnapshotFile). x.nodes) (snapshot_by initial_id initial_bytes) ≡ Some rows
  initial-rows rows e = go (last_put journal (Snapshot initial_id)) refl e
    where
      go : (o : Option (List ℕ)) → last_put journal (Snapshot initial_id) ≡ o → option_map (λ (x : SnapshotFile). x.nodes) (snap_in initial_id o) ≡ Some rows → option_map (λ (x : SnapshotFile). x.nodes) (snapshot_by initial_id initial_bytes) ≡ Some rows
      go None l x = absurd (cc)
      go (Some b) l x =
          let put : WasPut journal (Snapshot initial_id) = (sound journal (Snapshot initial_id)).begun b l in
          let same : b ≡ initial_bytes = some-is b initial_bytes (sym l ∙ initial-last journal once put) in
          subst (λ (c : List ℕ). option_map (λ (y : SnapshotFile). y.nodes) (snapshot_by initial_id c) ≡ Some rows) same x

  pub named-there : (ref : Key) (version : Version) (id : Id12) → HasRef deeds From ref version id → WasNamedIn journal ref id
  named-there ref version id q =
      let h = happened client start journal From deeds (Get ref) (R.Got (Found q.bytes version q.now)) g q.did in
      let before : List Event = start ++ h.since in
      let s = got-stored (found before ref) q.bytes version q.now h.event.time (answered-so client start journal (Get ref) (R.Got (Found q.bytes version q.now)) h).answered in
      record {
        version = s.0.version;
        bytes = s.0.bytes;
        stood = subst (λ (j : List Event). StoodAt j ref s.0.version s.0.bytes) (sym h.is) (StoodAt-append before (h.event ∷ h.after) ref s.0.version s.0.bytes (found-stood before ref s.0 s.1));
        names = subst (λ (b : List ℕ). ref_of b ≡ Some id) (sym s.2) q.names;
      }

-- ---- the target
-- a mirror could make this operation at some time
record MayEver (deeds : List Deed) (op : Op) : Type 0 where
  by_then : List Deed
  later : Later by_then deeds
  may : MayDo by_then To op

-- where an element is
record IsAt (deeds : List Deed) (d : Deed) : Type 0 where
  before : List Deed
  after : List Deed
  is : deeds ≡ before ++ d ∷ after

is-at : (deeds : List Deed) (d : Deed) → Contains deeds d → IsAt deeds d
is-at [] d c = absurd (none-in d c)
is-at (x ∷ xs) d c = elim (first-or-later x d xs c) [
  | inl same ↦ record { before = []; after = xs; is = ap (λ (y : Deed). y ∷ xs) same }
  | inr later ↦ let p = is-at xs d later in record { before = x ∷ p.before; after = p.after; is = ap (λ (l : List Deed). x ∷ l) p.is }
]

-- one of the target's is one of all
on-back : (deeds : List Deed) (d : Deed) → Contains (deeds_on To deeds) d → Contains deeds d × (d.side ≡ To)
on-back [] d c = absurd (none-in d c)
on-back (x ∷ xs) d c = go x.side refl c (λ h. on-back xs d h)
  where
    go : (at : Side) → x.side ≡ at → Contains (on_this To at x (deeds_on To xs)) d → (Contains (deeds_on To xs) d → Contains xs d × (d.side ≡ To)) → Contains (x ∷ xs) d × (d.side ≡ To)
    go From e h back = let r = back h in (later-is x d xs r.0, r.1)
    go To e h back = elim (first-or-later x d (deeds_on To xs) h) [
      | inl same ↦ (subst (λ (y : Deed). Contains (x ∷ xs) y) same (first-is x xs), ap (λ (y : Deed). y.side) (sym same) ∙ e)
      | inr later ↦ let r = back later in (later-is x d xs r.0, r.1)
    ]

may-ever : (deeds : List Deed) (d : Deed) → AreOwed deeds → Contains (deeds_on To deeds) d → MayEver deeds d.op
may-ever deeds d owed c =
    let r = on-back deeds d c in
    let p = is-at deeds d r.0 in
    record { by_then = p.before; later = record { more = d ∷ p.after; is = p.is }; may = subst (λ (s : Side). MayDo p.before s d.op) r.1 (owed p.before p.after d p.is) }

-- the event is the mirror's, or puts nothing again
record Beside (deeds : List Deed) (client : ℕ) (before : List Event) (event : Event) : Type 0 where
  good : IsGood before event
  own : event.client ≡ client → MayEver deeds event.op
  others : (event.client ≡ client → ⊥) → IsFirst before event

abbrev Own : List Deed → ℕ → List Event → Event → Type 0
Own deeds client before event = event.client ≡ client → MayEver deeds event.op

own-each : (deeds : List Deed) (client : ℕ) (xs old : List Event) → ((d : Deed) → Contains (deeds_in To (events_of client xs)) d → MayEver deeds d.op) → Each (Own deeds client) old xs
unfolding Each
own-each deeds client [] old f = tt
own-each deeds client (x ∷ xs) old f = go (own-each deeds client xs (old ++ x ∷ [])) (x.client == client) refl f
  where
    go : (((d : Deed) → Contains (deeds_in To (events_of client xs)) d → MayEver deeds d.op) → Each (Own deeds client) (old ++ x ∷ []) xs) → (b : Bool) → (x.client == client) ≡ b → ((d : Deed) → Contains (deeds_in To (cond b (x ∷ events_of client xs) (events_of client xs))) d → MayEver deeds d.op) → Own deeds client old x × Each (Own deeds client) (old ++ x ∷ []) xs
    go again true y h = (λ own. h (record { side = To; op = x.op; reply = x.reply }) (first-is (record { side = To; op = x.op; reply = x.reply }) (deeds_in To (events_of client xs))), again (λ d c. h d (later-is (record { side = To; op = x.op; reply = x.reply }) d (deeds_in To (events_of client xs)) c)))
    go again false n h = (λ own. let yes = eq-eqb x.client client own in absurd (cc), again h)

-- ---- what is read of a key's last put stays
module _ {A : Type 0} (deeds : List Deed) (client : ℕ) (key : Key) (read : Option (List ℕ) → A) (a : A) (own : (bytes : List ℕ) (why : Why) → MayEver deeds (PutNew key bytes why) → read (Some bytes) ≡ a) (never : (bytes : List ℕ) (old : Version) (why : Why) → MayEver deeds (PutOver key bytes old why) → ⊥) (again : (journal : List Event) (bytes : List ℕ) → PutsFirst journal bytes key → found journal key ≡ None → WasPut journal key → read (Some bytes) ≡ a) (over : (journal : List Event) (bytes : List ℕ) (s : Stored) (why : Why) → found journal key ≡ Some s → MayPutOver journal bytes s.version why key → read (Some bytes) ≡ read (last_put journal key)) where
  abbrev Reads : Slot → Type 0
  Reads slot = read slot.last ≡ a

  reads-own : (journal : List Event) (time : ℕ) (op : Op) → is_on key op ≡ true → MayEver deeds op → Reads (slot_of journal key) → Reads (leaves (length journal) time op (slot_of journal key))
  reads-own journal time (Get k) e m r = r
  reads-own journal time (PutNew k bytes why) e m r =
      free-cases Reads (found journal key) (put_at (length journal) time bytes (slot_of journal key)) (slot_of journal key) r
      (λ free. own bytes why (subst (λ (x : Key). MayEver deeds (PutNew x bytes why)) (same_key-true k key e) m))
  reads-own journal time (PutOver k bytes old why) e m r = absurd (never bytes old why (subst (λ (x : Key). MayEver deeds (PutOver x bytes old why)) (same_key-true k key e) m))
  reads-own journal time (Remove k why) e m r = r
  reads-own journal time (RemoveAt k old why) e m r = old-cases Reads old.0 (found journal key) _ (slot_of journal key) r (λ s d v. r)
  reads-own journal time (ListPart part) e m r = r

  reads-first : (journal : List Event) (time : ℕ) (op : Op) → is_on key op ≡ true → WasPut journal key → IsPolite journal op → IsFirstOp journal op → Reads (slot_of journal key) → Reads (leaves (length journal) time op (slot_of journal key))
  reads-first journal time (Get k) e w p f r = r
  reads-first journal time (PutNew k bytes why) e w p f r =
      free-cases Reads (found journal key) (put_at (length journal) time bytes (slot_of journal key)) (slot_of journal key) r
      (λ free. again journal bytes (subst (λ (x : Key). PutsFirst journal bytes x) (same_key-true k key e) f) free w)
  reads-first journal time (PutOver k bytes old why) e w p f r =
      let polite : MayPutOver journal bytes old.0 why key = subst (λ (x : Key). MayPutOver journal bytes old.0 why x) (same_key-true k key e) p in
      old-cases Reads old.0 (found journal key) (put_at (length journal) time bytes (slot_of journal key)) (slot_of journal key) r
      (λ s d v. over journal bytes s why d (subst (λ (n : ℕ). MayPutOver journal bytes n why key) (sym v) polite) ∙ r)
  reads-first journal time (Remove k why) e w p f r = r
  reads-first journal time (RemoveAt k old why) e w p f r = old-cases Reads old.0 (found journal key) _ (slot_of journal key) r (λ s d v. r)
  reads-first journal time (ListPart part) e w p f r = r

  reads-one : (journal : List Event) (event : Event) → WasPut journal key → Beside deeds client journal event → Reads (slot_of journal key) → Reads (slot_of (journal ++ event ∷ []) key)
  reads-one journal event w b r = subst Reads (sym (slot-append_one journal event key)) (effect-cases Reads key (length journal) (slot_of journal key) event r (λ e d. go (event.client == client) refl e d))
    where
      go : (t : Bool) → (event.client == client) ≡ t → is_on key event.op ≡ true → was_done event.reply ≡ true → Reads (leaves (length journal) event.time event.op (slot_of journal key))
      go true y e d = reads-own journal event.time event.op e (b.own (eqb-true event.client client y)) r
      go false n e d = reads-first journal event.time event.op e w b.good.polite (b.others (λ same. let yes = eq-eqb event.client client same in absurd (cc)) d) r

  reads-stay : (journal more : List Event) → WasPut journal key → Each (Beside deeds client) journal more → Reads (slot_of journal key) → read (last_put (journal ++ more) key) ≡ a
  unfolding Each
  reads-stay journal [] w b r = ap (λ (h : List Event). read (last_put h key)) (append-nil journal) ∙ r
  reads-stay journal (x ∷ xs) w b r =
      ap (λ (h : List Event). read (last_put h key)) (sym (append_assoc journal (x ∷ []) xs))
      ∙ reads-stay (journal ++ x ∷ []) xs (WasPut-append journal (x ∷ []) key w) b.1 (reads-one journal x w b.0 r)

same-end : (start more rest : List Event) → start ++ more ≡ start ++ rest → more ≡ rest
same-end start more rest e = sym (drop-append_seam start more) ∙ (ap (drop (length start)) e ∙ drop-append_seam start rest)

-- ---- both
module _ (by : Both Caller) (start seen : Both (List Event)) (tell : BothTell by) (deeds : List Deed) (d : AreDeeds by start seen deeds) (o : IsOnceBeside by start seen) where
  abbrev source : GrewBy by.from.number start.from seen.from From deeds
  source = d.on From tell.from

  abbrev target : GrewBy by.to.number start.to seen.to To deeds
  target = d.on To tell.to

  beside : Each (Beside deeds by.to.number) start.to target.more
  beside = Each-both (λ before event. IsGood before event × Own deeds by.to.number before event) (IsFirstOrOf by.to.number) (Beside deeds by.to.number) (λ before event p q. record { good = p.0; own = p.1; others = q }) start.to target.more
      (Each-both IsGood (Own deeds by.to.number) (λ before event. IsGood before event × Own deeds by.to.number before event) (λ before event p q. (p, q)) start.to target.more target.good (own-each deeds by.to.number target.more start.to (λ x c. may-ever deeds x d.owed (subst (λ (l : List Deed). Contains l x) target.own c))))
      (o.target target.more target.is)

  -- what was there at some moment, and what came since
  record Since (key : Key) (bytes : List ℕ) : Type 0 where
    before : List Event
    rest : List Event
    is : seen.to ≡ before ++ rest
    last : last_put before key ≡ Some bytes
    by_all : Each (Beside deeds by.to.number) before rest

  since-of : (key : Key) (bytes : List ℕ) → WasThere start.to seen.to key bytes → Since key bytes
  since-of key bytes w =
      let more : target.more ≡ w.since ++ w.rest = same-end start.to target.more (w.since ++ w.rest) (sym target.is ∙ (w.is ∙ append_assoc start.to w.since w.rest)) in
      record { before = start.to ++ w.since; rest = w.rest; is = w.is; last = w.last; by_all = (Each-back (Beside deeds by.to.number) start.to w.since w.rest (subst (λ (l : List Event). Each (Beside deeds by.to.number) start.to l) more beside)).1 }

  there-since : (key : Key) (bytes : List ℕ) → IsThere deeds key bytes → Since key bytes
  there-since key bytes (inl p) = since-of key bytes (put-there by.to.number start.to seen.to To deeds target key bytes p.why p.version p.now p.did)
  there-since key bytes (inr q) = since-of key bytes (got-there by.to.number start.to seen.to To deeds target key bytes q)

  -- a manifest that is copied
  manifest-same : (m : Id12) (bytes : List ℕ) → HasGot deeds From (Manifest m) bytes → IsThere deeds (Manifest m) bytes → last_put seen.to (Manifest m) ≡ Some bytes
  manifest-same m bytes got there =
      let t = there-since (Manifest m) bytes there in
      let src : last_put seen.from (Manifest m) ≡ Some bytes = manifest-last by.from.number start.from seen.from deeds source o.source m bytes got in
      ap (λ (j : List Event). last_put j (Manifest m)) t.is ∙ reads-stay deeds by.to.number (Manifest m) (λ (x : Option (List ℕ)). x) (Some bytes)
      (λ b why e. sym (manifest-last by.from.number start.from seen.from deeds source o.source m b (got-later e.later e.may.0.got)) ∙ src)
      (λ b old why e. e.may.0)
      (λ j b f free w. let none = f.0 free in let once = w.1 in absurd (cc))
      (λ j b s why e p. absurd p) t.before t.rest ((sound t.before (Manifest m)).begun bytes t.last) t.by_all t.last

  chunk-same : (c : Id12) (bytes : List ℕ) → HasGot deeds From (Chunk c) bytes → IsThere deeds (Chunk c) bytes → last_put seen.to (Chunk c) ≡ Some bytes
  chunk-same c bytes got there =
      let t = there-since (Chunk c) bytes there in
      let src : last_put seen.from (Chunk c) ≡ Some bytes = chunk-last by.from.number start.from seen.from deeds source o.source c bytes got in
      ap (λ (j : List Event). last_put j (Chunk c)) t.is ∙ reads-stay deeds by.to.number (Chunk c) (λ (x : Option (List ℕ)). x) (Some bytes)
      (λ b why e. sym (chunk-last by.from.number start.from seen.from deeds source o.source c b (got-later e.later e.may.0)) ∙ src)
      (λ b old why e. e.may.0)
      (λ j b f free w. let none = f free in let once = w.1 in absurd (cc))
      (λ j b s why e p. absurd p) t.before t.rest ((sound t.before (Chunk c)).begun bytes t.last) t.by_all t.last

  -- the rows of a snapshot
  abbrev rows_in : Id12 → Option (List ℕ) → Option (List NodeRow)
  rows_in id x = option_map (λ (s : SnapshotFile). s.nodes) (snap_in id x)

  -- a cut leaves them
  cut-rows : (journal : List Event) (id : Id12) (bytes : List ℕ) (s : Stored) → found journal (Snapshot id) ≡ Some s → IsCut journal id s.version bytes → rows_in id (Some bytes) ≡ rows_in id (last_put journal (Snapshot id))
  cut-rows journal id bytes s e c =
      let same : s.bytes ≡ c.before = stood-is journal (Snapshot id) s c.before e c.stood in
      let last : last_put journal (Snapshot id) ≡ Some c.before = (sound journal (Snapshot id)).last s e ∙ ap (λ (b : List ℕ). Some b) same in
      ap (λ (x : Option SnapshotFile). option_map (λ (y : SnapshotFile). y.nodes) x) c.is ∙ (sym (ap (λ (x : Option SnapshotFile). option_map (λ (y : SnapshotFile). y.nodes) x) c.was) ∙ ap (rows_in id) (sym last))

  says-rows : (id : Id12) (snap : SnapshotFile) (bytes : List ℕ) → SaysBut id snap bytes → rows_in id (Some bytes) ≡ Some snap.nodes
  says-rows id snap bytes s = ap (λ (x : Option SnapshotFile). option_map (λ (y : SnapshotFile). y.nodes) x) s.read

  -- where others may put a snapshot again, it is the initial one, with its own bytes
  again-rows : (id : Id12) (rows : List NodeRow) → rows_of seen.from id ≡ Some rows → (journal : List Event) (bytes : List ℕ) → PutsFirst journal bytes (Snapshot id) → found journal (Snapshot id) ≡ None → WasPut journal (Snapshot id) → rows_in id (Some bytes) ≡ Some rows
  again-rows id rows src journal bytes f free w = go (bytes_eq id.0 initial_id.0) refl
    where
      go : (b : Bool) → bytes_eq id.0 initial_id.0 ≡ b → rows_in id (Some bytes) ≡ Some rows
      go true e =
          let same : id ≡ initial_id = id-true id initial_id e in
          let own : bytes ≡ initial_bytes = f.initial same in
          let at : rows_in initial_id (Some initial_bytes) ≡ Some rows = initial-rows by.from.number start.from seen.from deeds source o.source rows (subst (λ (i : Id12). rows_of seen.from i ≡ Some rows) same src) in
          subst (λ (i : Id12). rows_in i (Some bytes) ≡ Some rows) (sym same) (subst (λ (b : List ℕ). rows_in initial_id (Some b) ≡ Some rows) (sym own) at)
      go false e =
          let other : id ≢ initial_id = λ s. let y : bytes_eq id.0 initial_id.0 ≡ true = subst (λ (i : Id12). bytes_eq id.0 i.0 ≡ true) s (bytes-same id.0) in absurd (cc) in
          let none = f.other other free in
          let once = w.1 in
          absurd (cc)

  rows-same : (id : Id12) → (c : IsSnapshotCopied deeds id) → rows_of seen.to id ≡ Some c.snap.nodes
  rows-same id c =
      let t = there-since (Snapshot id) c.file c.there in
      let src : rows_of seen.from id ≡ Some c.snap.nodes = rows-last by.from.number start.from seen.from deeds source o.source id c.bytes c.snap c.got c.read in
      ap (λ (j : List Event). rows_of j id) t.is ∙ reads-stay deeds by.to.number (Snapshot id) (rows_in id) (Some c.snap.nodes)
      (λ b why e. says-rows id e.may.0.snap b e.may.0.says ∙ (sym (rows-last by.from.number start.from seen.from deeds source o.source id e.may.0.source e.may.0.snap (got-later e.later e.may.0.got) e.may.0.read) ∙ src))
      (λ b old why e. e.may.0)
      (again-rows id c.snap.nodes src)
      (λ j b s why e p. cut-rows j id b s e p) t.before t.rest ((sound t.before (Snapshot id)).begun c.file t.last) t.by_all (ap (rows_in id) t.last ∙ says-rows id c.snap c.file c.says)

  -- ---- trees
  manifests-agree : (id : Id12) → (c : IsSnapshotCopied deeds id) → (m : Id12) → NamesManifest c.snap.nodes m → (puts_of seen.to).manifest m ≡ (puts_of seen.from).manifest m
  manifests-agree id c m n =
      let q = c.named.manifests m n in
      manifest-same m q.bytes q.got q.there ∙ sym (manifest-last by.from.number start.from seen.from deeds source o.source m q.bytes q.got)

  chunks-agree : (id : Id12) → (c : IsSnapshotCopied deeds id) → (m x : Id12) → NamesManifest c.snap.nodes m → NamesChunk (or_empty m (manifest_put (puts_of seen.from) m)) x → (puts_of seen.to).chunk x ≡ (puts_of seen.from).chunk x
  chunks-agree id c m x n h =
      let q = c.named.manifests m n in
      let at : manifest_put (puts_of seen.from) m ≡ Some q.manifest = ap (option_and_then (manifest_by m)) (manifest-last by.from.number start.from seen.from deeds source o.source m q.bytes q.got) ∙ q.read in
      let k = q.chunks x (subst (λ (y : Option ManifestFile). NamesChunk (or_empty m y) x) at h) in
      chunk-same x k.bytes k.got k.there ∙ sym (chunk-last by.from.number start.from seen.from deeds source o.source x k.bytes k.got)

  snapshot-in : {id : Id12} → IsChainCopied deeds id → IsSnapshotCopied deeds id
  snapshot-in (first p s) = s
  snapshot-in (further p s c) = s

  same-in : (ref : Key) (version : Version) (id : Id12) → HasRef deeds From ref version id → IsChainCopied deeds id → IsSameIn seen ref id
  same-in ref version id q chain =
      let c = snapshot-in chain in
      let to : rows_of seen.to id ≡ Some c.snap.nodes = rows-same id c in
      let from : rows_of seen.from id ≡ Some c.snap.nodes = rows-last by.from.number start.from seen.from deeds source o.source id c.bytes c.snap c.got c.read in
      let trees : tree_under (puts_of seen.to) c.snap.nodes ≡ tree_under (puts_of seen.from) c.snap.nodes = tree-same (puts_of seen.from) (puts_of seen.to) c.snap.nodes (manifests-agree id c) (chunks-agree id c) in
      record {
        entry = named-there by.from.number start.from seen.from deeds source o.source ref version id q;
        rows = to ∙ sym from;
        tree = by-rows (puts_of seen.to) (snap_in id (last_put seen.to (Snapshot id)))
            ∙ (ap (option_map (tree_under (puts_of seen.to))) to
            ∙ (ap (λ (t : Tree). Some t) trees
            ∙ (sym (ap (option_map (tree_under (puts_of seen.from))) from)
            ∙ sym (by-rows (puts_of seen.from) (snap_in id (last_put seen.from (Snapshot id)))))));
      }

  names-same : (key : Key) (bytes : List ℕ) (before : List Deed) → Later before deeds → MayPoint before key bytes → NamesSame seen key bytes
  names-same key bytes before l m = record { id = m.id; is = m.is; same = same-in key m.version m.id (ref-later l m.named) (chain-later l m.copied) }

-- ---- the law
points-well : (by : Both Caller) (start : Both (List Event)) → BothTell by → (side : Side) (seen : Both (List Event)) (op : Op) → IsOwed by start side seen op → PointsWell by start side seen op
points-well by start tell From seen op w = tt
points-well by start tell To seen (PutNew (Branch name) bytes why) (deeds, d, may) = λ is o. names-same by start seen tell deeds d o (Branch name) bytes deeds (later-same deeds) may.0.point
points-well by start tell To seen (PutNew (Tag name) bytes why) (deeds, d, may) = λ is o. names-same by start seen tell deeds d o (Tag name) bytes deeds (later-same deeds) may.0.point
points-well by start tell To seen (PutNew (Snapshot id) bytes why) w = λ is o. cc
points-well by start tell To seen (PutNew (Manifest id) bytes why) w = λ is o. cc
points-well by start tell To seen (PutNew (Txn id) bytes why) w = λ is o. cc
points-well by start tell To seen (PutNew (Chunk id) bytes why) w = λ is o. cc
points-well by start tell To seen (PutNew (Tombstone name) bytes why) w = λ is o. cc
points-well by start tell To seen (PutNew (Lease id) bytes why) w = λ is o. cc
points-well by start tell To seen (PutOver (Branch name) bytes old why) (deeds, d, may) = λ is o. names-same by start seen tell deeds d o (Branch name) bytes deeds (later-same deeds) may.0.point
points-well by start tell To seen (PutOver (Tag name) bytes old why) (deeds, d, may) = λ is o. absurd may.0
points-well by start tell To seen (PutOver (Snapshot id) bytes old why) w = λ is o. cc
points-well by start tell To seen (PutOver (Manifest id) bytes old why) w = λ is o. cc
points-well by start tell To seen (PutOver (Txn id) bytes old why) w = λ is o. cc
points-well by start tell To seen (PutOver (Chunk id) bytes old why) w = λ is o. cc
points-well by start tell To seen (PutOver (Tombstone name) bytes old why) w = λ is o. cc
points-well by start tell To seen (PutOver (Lease id) bytes old why) w = λ is o. cc
points-well by start tell To seen (Get key) w = tt
points-well by start tell To seen (Remove key why) w = tt
points-well by start tell To seen (RemoveAt key old why) w = tt
points-well by start tell To seen (ListPart part) w = tt

refs-same : (by : Both Caller) (start : Both (List Event)) → BothTell by → (end : MirrorEnd) (seen : Both (List Event)) → MirrorTells by start end seen → RefsSame by start end seen
refs-same by start tell end seen (deeds, d, reports) o r c =
    let m = reports.refs r c in
    same-in by start seen tell deeds d o (key_of (ref_id r)) m.version r.id m.source m.copied

-- mirrored trees
pub mirrors-trees : SnapshotLaw → ObjectsLaw → RefLaw → MirroredTreesLaw
mirrors-trees snapshots objects names by start tell =
    let exact = mirrors-exactly snapshots objects names by start in
    record {
      points = KeepsPair-weaker (IsOwed by start) (PointsWell by start) (points-well by start tell) by mirror_program start exact.owed;
      refs = LeadsPair-weaker (MirrorTells by start) (RefsSame by start) (refs-same by start tell) by mirror_program start exact.leads;
    }

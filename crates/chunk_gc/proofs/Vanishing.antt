-- What a collection listed stood, and what it removed is gone.
use Rattle.std.proofs.Common.{◌≡◌, inl, inr, ℕ, zero, suc, ◌+◌, ◌<◌, Bool, true, false, cond, List, [], ◌∷◌, ◌++◌, length, eqb, refl, sym, ◌∙◌, ap, subst, append_assoc, append-nil, ne_eqb, eq-eqb, arith, length-append}
use Rattle.std.specs.Prelude.{◌==◌, ◌≢◌, Option, Some, None, Contains, slice_get, slice_index_or, nat_lt}
use Rattle.std.proofs.Math.Seq.{drop-append_seam}
use Rattle.std.proofs.lemmas.Bool.{eqb-true}
use Rattle.std.proofs.lemmas.List.Elements.{filter-append, Contains-append_cases, Contains-push_cases}
use Rattle.ice_ids.specs.declared.Id12.{Id12}
use Rattle.snapshot_file.specs.declared.snapshot.SnapshotFile.{SnapshotFile}
use Rattle.manifest_file.specs.declared.manifest.ManifestFile.{ManifestFile}
use Rattle.repo_objects.specs.Readings.{snapshot_by, manifest_by, ref_of}
use Rattle.object_store.specs.declared.keys.Key.{Key}
use Rattle.object_store.specs.declared.keys.Key.TheVariants.{Snapshot, Manifest, Txn, Chunk, Branch, Tag, Tombstone, Lease}
use Rattle.object_store.specs.declared.keys.Why.{Why}
use Rattle.object_store.specs.declared.keys.Part.{Part}
use Rattle.object_store.specs.declared.keys.Part.TheVariants.{Snapshots, Manifests, Txns, Chunks, Branches, Tags, Leases}
use Rattle.object_store.specs.declared.events.Entry.{Entry}
use Rattle.object_store.specs.declared.events.Listed.{Listed}
use Rattle.object_store.specs.declared.events.Gone.{Gone}
use Rattle.object_store.specs.declared.events.Gone.TheVariants.{Done as Gone_done, Absent as Gone_absent}
use Rattle.object_store.specs.declared.events.Got.{Got}
use Rattle.object_store.specs.declared.events.Got.TheVariants.{Found, Absent}
use Rattle.object_store.specs.declared.events.Op.{Op}
use Rattle.object_store.specs.declared.events.Op.TheVariants.{Get, PutNew, PutOver, Remove, RemoveAt, List as ListPart}
use Rattle.object_store.specs.declared.events.Reply.{Reply}
use Rattle.object_store.specs.declared.events.Reply.TheVariants.{Got as Is_got, New as Is_new, Over as Is_over, Gone as Is_gone, GoneAt as Is_gone_at, Listed as Is_listed, Failed}
use Rattle.object_store.specs.declared.events.Event.{Event}
use Rattle.object_store.specs.Machine.{Stored, Slot, found, slot_of, effect, gone_of, IsListing, IsEntry, IsAnswered, IsHonest, UnlessFailed}
use Rattle.object_store.proofs.Slots.{same_key-refl, slot-append_one}
use Rattle.store_api.specs.Journal.{Each, IsGood}
use Rattle.store_api.specs.Program.{events_of}
use Rattle.store_api.specs.Telling.{HasOwn}
use Rattle.store_api.proofs.Programs.{own-one}
use Rattle.live_refs.specs.Live.{live}
use Rattle.collecting.specs.Walks.{Walk, fresh, IsObject, Marked, Doomed, May, told, ended, with_root, with_leased, with_read, with_file, told_ref, told_lease, told_file, told_object, told_got, told_get}
use Rattle.collecting.specs.Runs.{told_all, walk_of, OwesCollecting}
use Rattle.chunk_gc.specs.Exact.{IsChosen}
use Rattle.chunk_gc.specs.Gone.{WasListed, WasRemoved, GoneLaw}
use Rattle.ice_ids.proofs.Elements.{none-in}
use Rattle.chunk_gc.proofs.Sweeping.{picks-all}

-- ---- what a get changes of a walk
record SameLists (w v : Walk) : Type 0 where
  listed : v.listed ≡ w.listed
  answered : v.answered ≡ w.answered

same-lists : (w : Walk) → SameLists w w
same-lists w = record { listed = refl; answered = refl }

root-lists : (w v : Walk) (o : Option Id12) → SameLists w v → SameLists w (with_root v o)
root-lists w v None s = record { listed = s.listed; answered = s.answered }
root-lists w v (Some id) s = record { listed = s.listed; answered = s.answered }

ref-lists : (w v : Walk) (got : Got) → SameLists w v → SameLists w (told_ref v got)
ref-lists w v (Found bytes version now) s = root-lists w v (ref_of bytes) s
ref-lists w v (Absent now) s = s

leased-lists : (w v : Walk) (o : Option Id12) → SameLists w v → SameLists w (with_leased v o)
leased-lists w v None s = record { listed = s.listed; answered = s.answered }
leased-lists w v (Some id) s = record { listed = s.listed; answered = s.answered }

lease-lists : (w v : Walk) (got : Got) → SameLists w v → SameLists w (told_lease v got)
lease-lists w v (Found bytes version now) s = leased-lists w v (ref_of bytes) s
lease-lists w v (Absent now) s = s

read-lists : (w : Walk) (o : Option SnapshotFile) → SameLists w (with_read w o)
read-lists w None = record { listed = refl; answered = refl }
read-lists w (Some s) = record { listed = refl; answered = refl }

file-lists : (w : Walk) (o : Option ManifestFile) → SameLists w (with_file w o)
file-lists w None = record { listed = refl; answered = refl }
file-lists w (Some m) = record { listed = refl; answered = refl }

over-lists : (w : Walk) → SameLists w (ended w)
over-lists w = record { listed = refl; answered = refl }

bytes-lists : (w : Walk) (key : Key) (bytes : List ℕ) → SameLists w (told_file w key bytes)
bytes-lists w (Snapshot id) bytes = read-lists w (snapshot_by id bytes)
bytes-lists w (Manifest id) bytes = file-lists w (manifest_by id bytes)
bytes-lists w (Txn id) bytes = over-lists w
bytes-lists w (Chunk id) bytes = over-lists w
bytes-lists w (Branch name) bytes = over-lists w
bytes-lists w (Tag name) bytes = over-lists w
bytes-lists w (Tombstone name) bytes = over-lists w
bytes-lists w (Lease id) bytes = over-lists w

object-lists : (w : Walk) (key : Key) (got : Got) → SameLists w (told_object w key got)
object-lists w key (Found bytes version now) = bytes-lists w key bytes
object-lists w key (Absent now) = record { listed = refl; answered = refl }

got-lists : (bs ts ls : Option (List Key)) (w : Walk) (key : Key) (got : Got) → SameLists w (told_got bs ts ls w key got)
got-lists (Some (next ∷ behind)) ts ls w key got = ref-lists w (record w { branches = Some behind }) got (record { listed = refl; answered = refl })
got-lists (Some []) (Some (next ∷ behind)) ls w key got = ref-lists w (record w { tags = Some behind }) got (record { listed = refl; answered = refl })
got-lists (Some []) (Some []) (Some (next ∷ behind)) w key got = lease-lists w (record w { leases = Some behind }) got (record { listed = refl; answered = refl })
got-lists (Some []) (Some []) (Some []) w key got = object-lists w key got
got-lists (Some []) (Some []) None w key got = over-lists w
got-lists (Some []) None ls w key got = over-lists w
got-lists None ts ls w key got = over-lists w

get-lists : (w : Walk) (key : Key) (reply : Reply) → SameLists w (told_get w key reply)
get-lists w key (Is_got got) = got-lists w.branches w.tags w.leases w key got
get-lists w key (Is_new x) = over-lists w
get-lists w key (Is_over x) = over-lists w
get-lists w key (Is_gone x) = over-lists w
get-lists w key (Is_gone_at x) = over-lists w
get-lists w key (Is_listed x) = over-lists w
get-lists w key (Failed d) = over-lists w

-- ---- what goes
-- where something stood, and nothing stands any more, an event between took it
record Took (key : Key) (old xs : List Event) : Type 0 where
  before : List Event
  event : Event
  after : List Event
  is : xs ≡ before ++ event ∷ after
  there : Stored
  stood : found (old ++ before) key ≡ Some there
  gone : found ((old ++ before) ++ event ∷ []) key ≡ None

took-one : (key : Key) (old xs : List Event) (s : Stored) → found old key ≡ Some s → found (old ++ xs) key ≡ None → Took key old xs
took-one key old [] s e n = let same = ap (λ (h : List Event). found h key) (append-nil old) in absurd cc
took-one key old (x ∷ xs) s e n = by_next (found (old ++ x ∷ []) key) refl (λ t f. took-one key (old ++ x ∷ []) xs t f (ap (λ (h : List Event). found h key) (append_assoc old (x ∷ []) xs) ∙ n))
  where
    by_next : (o : Option Stored) → found (old ++ x ∷ []) key ≡ o → ((t : Stored) → found (old ++ x ∷ []) key ≡ Some t → Took key (old ++ x ∷ []) xs) → Took key old (x ∷ xs)
    by_next None f again = record { before = []; event = x; after = xs; is = refl; there = s; stood = ap (λ (h : List Event). found h key) (append-nil old) ∙ e; gone = ap (λ (h : List Event). found (h ++ x ∷ []) key) (append-nil old) ∙ f }
    by_next (Some t) f again =
        let r = again t f in
        record {
          before = x ∷ r.before;
          event = r.event;
          after = r.after;
          is = ap (λ (l : List Event). x ∷ l) r.is;
          there = r.there;
          stood = ap (λ (h : List Event). found h key) (sym (append_assoc old (x ∷ []) r.before)) ∙ r.stood;
          gone = ap (λ (h : List Event). found (h ++ r.event ∷ []) key) (sym (append_assoc old (x ∷ []) r.before)) ∙ r.gone;
        }

-- a listing changes nothing
listing-keeps : (journal : List Event) (event : Event) (part : Part) (key : Key) → event.op ≡ ListPart part → found (journal ++ event ∷ []) key ≡ found journal key
unfolding effect
listing-keeps journal event part key e =
    let kept : effect key (length journal) (slot_of journal key) event ≡ slot_of journal key = rw e refl in
    ap (λ (s : Slot). s.stands) (slot-append_one journal event key ∙ kept)

-- a removal leaves nothing
removal-takes : (journal : List Event) (event : Event) (key : Key) (why : Why) (now : ℕ) → event.op ≡ Remove key why → event.reply ≡ Is_gone (Gone_done now) → found (journal ++ event ∷ []) key ≡ None
unfolding effect
removal-takes journal event key why now e r =
    let taken : effect key (length journal) (slot_of journal key) event ≡ record (slot_of journal key) { stands = None } = rw (e, r) (rw (same_key-refl key) refl) in
    ap (λ (s : Slot). s.stands) (slot-append_one journal event key ∙ taken)

-- what an honest answer to a removal says
was-there : (o : Option Stored) (now time : ℕ) → Is_gone (Gone_done now) ≡ Is_gone (gone_of time o) → (s : Stored) × (o ≡ Some s)
was-there None now time e = absurd cc
was-there (Some s) now time e = (s, refl)

was-absent : (o : Option Stored) (now time : ℕ) → Is_gone (Gone_absent now) ≡ Is_gone (gone_of time o) → o ≡ None
was-absent None now time e = refl
was-absent (Some s) now time e = absurd cc

get-at : (xs : List Entry) (k : ℕ) (x : Entry) → k < length xs → slice_index_or xs k x ≡ x → slice_get xs k ≡ Some x
get-at [] k x l e = absurd (omega (arith, l))
get-at (y ∷ ys) zero x l e = ap (λ (z : Entry). Some z) e
get-at (y ∷ ys) (suc k) x l e = get-at ys k x (omega (arith, l)) e

-- ---- honest answers
answered-as : (journal : List Event) (event : Event) (op : Op) (reply : Reply) → IsAnswered journal event → event.op ≡ op → event.reply ≡ reply → UnlessFailed (IsHonest (found journal) (length journal) event.time op) reply
answered-as journal event op reply a o r =
    subst (λ (x : Reply). UnlessFailed (IsHonest (found journal) (length journal) event.time op) x) r
    (subst (λ (x : Op). UnlessFailed (IsHonest (found journal) (length journal) event.time x) event.reply) o a.answered)

abbrev entries_of : Reply → List Entry
entries_of (Is_listed x) = x.entries
entries_of (Is_got x) = []
entries_of (Is_new x) = []
entries_of (Is_over x) = []
entries_of (Is_gone x) = []
entries_of (Is_gone_at x) = []
entries_of (Failed d) = []

honest-list : (at : Key → Option Stored) (n now : ℕ) (part : Part) (l : Listed) → UnlessFailed (IsHonest at n now (ListPart part)) (Is_listed l) → IsListing at part l.entries
honest-list at n now part l h = subst (λ (xs : List Entry). IsListing at part xs) (sym (ap entries_of h.1)) h.2

honest-gone : (at : Key → Option Stored) (n now : ℕ) (key : Key) (why : Why) (gone : Gone) → UnlessFailed (IsHonest at n now (Remove key why)) (Is_gone gone) → Is_gone gone ≡ Is_gone (gone_of now (at key))
honest-gone at n now key why gone h = h

-- ---- one more event
module _ (client : ℕ) (start : List Event) where
  abbrev own-more : (op : Op) (reply : Reply) (journal : List Event) (event : Event) → HasOwn client op reply start journal → HasOwn client op reply start (journal ++ event ∷ [])
  own-more op reply journal event o = record {
    before = o.before;
    since = o.since;
    before_is = o.before_is;
    event = o.event;
    after = o.after ++ event ∷ [];
    is = ap (λ (h : List Event). h ++ event ∷ []) o.is ∙ append_assoc o.before (o.event ∷ o.after) (event ∷ []);
    client_is = o.client_is;
    op_is = o.op_is;
    reply_is = o.reply_is;
  }

  abbrev listed-more : (key : Key) (journal : List Event) (event : Event) → WasListed client key start journal → WasListed client key start (journal ++ event ∷ [])
  listed-more key journal event w = record { part = w.part; reply = w.reply; own = own-more (ListPart w.part) (Is_listed w.reply) journal event w.own; entry = w.entry; has = w.has; key_is = w.key_is; there = w.there; stood = w.stood }

  removed-more : (key : Key) (journal : List Event) (event : Event) → WasRemoved client key start journal → WasRemoved client key start (journal ++ event ∷ [])
  removed-more key journal event w = record {
    listed = listed-more key journal event w.listed;
    before = w.before;
    event = w.event;
    after = w.after ++ event ∷ [];
    is = ap (λ (h : List Event). h ++ event ∷ []) w.is ∙ append_assoc w.before (w.event ∷ w.after) (event ∷ []);
    later = w.later;
    there = w.there;
    stood = w.stood;
    gone = w.gone;
  }

  -- the key's entry under another name of the key
  listed-as : (a b : Key) (journal : List Event) → a ≡ b → WasListed client a start journal → WasListed client b start journal
  listed-as a b journal e w = subst (λ (k : Key). WasListed client k start journal) e w

  own-shorter : (op : Op) (reply : Reply) (journal : List Event) → (o : HasOwn client op reply start journal) → length o.before < length journal
  own-shorter op reply journal o = let n = ap length o.is in let m = length-append o.before (o.event ∷ o.after) in omega (arith, n, m)

  -- removed by its own removal
  removed-now : (key : Key) (why : Why) (now : ℕ) (journal : List Event) (event : Event) → event.op ≡ Remove key why → event.reply ≡ Is_gone (Gone_done now) → (s : Stored) → found journal key ≡ Some s → WasListed client key start journal → WasRemoved client key start (journal ++ event ∷ [])
  removed-now key why now journal event o r s f w = record {
    listed = listed-more key journal event w;
    before = journal;
    event = event;
    after = [];
    is = refl;
    later = own-shorter (ListPart w.part) (Is_listed w.reply) journal w.own;
    there = s;
    stood = f;
    gone = removal-takes journal event key why now o r;
  }

  -- removed by somebody since the listing
  removed-before : (key : Key) (journal : List Event) → found journal key ≡ None → WasListed client key start journal → WasRemoved client key start journal
  removed-before key journal n w =
      let first = w.own.before ++ w.own.event ∷ [] in
      let whole : journal ≡ first ++ w.own.after = w.own.is ∙ sym (append_assoc w.own.before (w.own.event ∷ []) w.own.after) in
      let t = took-one key first w.own.after w.there (listing-keeps w.own.before w.own.event w.part key w.own.op_is ∙ w.stood) (ap (λ (h : List Event). found h key) (sym whole) ∙ n) in
      let long = length-append first t.before in
      let one = length-append w.own.before (w.own.event ∷ []) in
      record {
        listed = w;
        before = first ++ t.before;
        event = t.event;
        after = t.after;
        is = whole ∙ (ap (λ (l : List Event). first ++ l) t.is ∙ sym (append_assoc first t.before (t.event ∷ t.after)));
        later = omega (arith, long, one);
        there = t.there;
        stood = t.stood;
        gone = t.gone;
      }

-- ---- along a journal
told-one : (cutoff : ℕ) (w : Walk) (own : List Event) (event : Event) → told_all cutoff w (own ++ event ∷ []) ≡ told cutoff (told_all cutoff w own) event.op event.reply
told-one cutoff w [] event = refl
told-one cutoff w (x ∷ own) event = told-one cutoff (told cutoff w x.op x.reply) own event

module _ (cutoff client : ℕ) (start : List Event) where
  abbrev at : List Event → Walk
  at journal = walk_of cutoff client start journal

  behind : (more : List Event) → at (start ++ more) ≡ told_all cutoff fresh (events_of client more)
  behind more = ap (λ (l : List Event). told_all cutoff fresh (events_of client l)) (drop-append_seam start more)

  walk-own : (more : List Event) (event : Event) → event.client ≡ client → at (start ++ (more ++ event ∷ [])) ≡ told cutoff (at (start ++ more)) event.op event.reply
  walk-own more event e =
      behind (more ++ event ∷ [])
      ∙ (ap (told_all cutoff fresh) (filter-append (λ (x : Event). x.client == client) more (event ∷ []) ∙ ap (λ (l : List Event). events_of client more ++ l) (own-one client event e))
      ∙ (told-one cutoff fresh (events_of client more) event ∙ ap (λ (w : Walk). told cutoff w event.op event.reply) (sym (behind more))))

  walk-other : (more : List Event) (event : Event) → event.client ≢ client → at (start ++ (more ++ event ∷ [])) ≡ at (start ++ more)
  walk-other more event e =
      behind (more ++ event ∷ [])
      ∙ (ap (told_all cutoff fresh) (filter-append (λ (x : Event). x.client == client) more (event ∷ []) ∙ (ap (λ (l : List Event). events_of client more ++ l) (none e) ∙ append-nil (events_of client more)))
      ∙ sym (behind more))
    where
      none : event.client ≢ client → events_of client (event ∷ []) ≡ []
      none n = rw (ne_eqb event.client client n) refl

  -- of a walk and a journal
  record Facts (w : Walk) (journal : List Event) : Type 0 where
    listed : (entry : Entry) → Contains w.listed entry → WasListed client entry.key start journal
    answered : (key : Key) → Contains w.answered key → WasRemoved client key start journal

  facts-same : (w v : Walk) (journal : List Event) (event : Event) → SameLists w v → Facts w journal → Facts v (journal ++ event ∷ [])
  facts-same w v journal event s f = record {
    listed = λ entry c. listed-more client start entry.key journal event (f.listed entry (subst (λ (l : List Entry). Contains l entry) s.listed c));
    answered = λ key c. removed-more client start key journal event (f.answered key (subst (λ (l : List Key). Contains l key) s.answered c));
  }

  module _ (more : List Event) (event : Event) (mine : event.client ≡ client) (good : IsGood (start ++ more) event) (w : Walk) (f : Facts w (start ++ more)) where
    abbrev journal : List Event
    journal = start ++ more

    -- a listing of objects
    entries-more : (part : Part) (l : Listed) → event.op ≡ ListPart part → event.reply ≡ Is_listed l → Facts (record w { lists = w.lists + 1; listed = w.listed ++ l.entries }) (journal ++ event ∷ [])
    entries-more part l o r =
        let honest : IsListing (found journal) part l.entries = honest-list (found journal) (length journal) event.time part l (answered-as journal event (ListPart part) (Is_listed l) good.legal o r) in
        record {
          listed = λ entry c. elim (Contains-append_cases w.listed l.entries entry c) [
            | inl old ↦ listed-more client start entry.key journal event (f.listed entry old)
            | inr new ↦ (
                let right : IsEntry (found journal) part entry = honest.right new.0 entry (get-at l.entries new.0 entry new.1 new.2) in
                record {
                  part = part;
                  reply = l;
                  own = record { before = journal; since = more; before_is = refl; event = event; after = []; is = refl; client_is = mine; op_is = o; reply_is = r };
                  entry = entry;
                  has = new;
                  key_is = refl;
                  there = right.stored;
                  stood = right.stands;
                })
          ];
          answered = λ key c. removed-more client start key journal event (f.answered key c);
        }

    by-list : (part : Part) (reply : Reply) → event.op ≡ ListPart part → event.reply ≡ reply → Facts (told cutoff w (ListPart part) reply) (journal ++ event ∷ [])
    by-list Snapshots (Is_listed l) o r = entries-more Snapshots l o r
    by-list Txns (Is_listed l) o r = entries-more Txns l o r
    by-list Manifests (Is_listed l) o r = entries-more Manifests l o r
    by-list Chunks (Is_listed l) o r = entries-more Chunks l o r
    by-list Tags (Is_listed l) o r = facts-same w (told cutoff w (ListPart Tags) (Is_listed l)) journal event (record { listed = refl; answered = refl }) f
    by-list Leases (Is_listed l) o r = facts-same w (told cutoff w (ListPart Leases) (Is_listed l)) journal event (record { listed = refl; answered = refl }) f
    by-list Branches (Is_listed l) o r = by_time (nat_lt l.now cutoff)
      where
        by_time : (b : Bool) → Facts (cond b (ended w) (record w { branches = Some (live l.entries) })) (journal ++ event ∷ [])
        by_time true = facts-same w (ended w) journal event (over-lists w) f
        by_time false = facts-same w (record w { branches = Some (live l.entries) }) journal event (record { listed = refl; answered = refl }) f
    by-list part (Is_got x) o r = facts-same w (ended w) journal event (over-lists w) f
    by-list part (Is_new x) o r = facts-same w (ended w) journal event (over-lists w) f
    by-list part (Is_over x) o r = facts-same w (ended w) journal event (over-lists w) f
    by-list part (Is_gone x) o r = facts-same w (ended w) journal event (over-lists w) f
    by-list part (Is_gone_at x) o r = facts-same w (ended w) journal event (over-lists w) f
    by-list part (Failed d) o r = facts-same w (ended w) journal event (over-lists w) f

    -- a removal
    by-removal : (key : Key) (why : Why) (reply : Reply) → event.op ≡ Remove key why → event.reply ≡ reply → Doomed cutoff w key → Facts (told cutoff w (Remove key why) reply) (journal ++ event ∷ [])
    by-removal key why (Is_gone (Gone_done now)) o r d =
        let here = listed-as client start d.entry.key key journal d.key_is (f.listed d.entry d.listed) in
        let there = was-there (found journal key) now event.time (honest-gone (found journal) (length journal) event.time key why (Gone_done now) (answered-as journal event (Remove key why) (Is_gone (Gone_done now)) good.legal o r)) in
        record {
          listed = λ entry c. listed-more client start entry.key journal event (f.listed entry c);
          answered = λ k c. elim (Contains-push_cases w.answered key k c) [
            | inl old ↦ removed-more client start k journal event (f.answered k old)
            | inr same ↦ subst (λ (x : Key). WasRemoved client x start (journal ++ event ∷ [])) same (removed-now client start key why now journal event o r there.0 there.1 here)
          ];
        }
    by-removal key why (Is_gone (Gone_absent now)) o r d =
        let here = listed-as client start d.entry.key key journal d.key_is (f.listed d.entry d.listed) in
        let nothing = was-absent (found journal key) now event.time (honest-gone (found journal) (length journal) event.time key why (Gone_absent now) (answered-as journal event (Remove key why) (Is_gone (Gone_absent now)) good.legal o r)) in
        record {
          listed = λ entry c. listed-more client start entry.key journal event (f.listed entry c);
          answered = λ k c. elim (Contains-push_cases w.answered key k c) [
            | inl old ↦ removed-more client start k journal event (f.answered k old)
            | inr same ↦ subst (λ (x : Key). WasRemoved client x start (journal ++ event ∷ [])) same (removed-more client start key journal event (removed-before client start key journal nothing here))
          ];
        }
    by-removal key why (Is_got x) o r d = facts-same w (ended w) journal event (over-lists w) f
    by-removal key why (Is_new x) o r d = facts-same w (ended w) journal event (over-lists w) f
    by-removal key why (Is_over x) o r d = facts-same w (ended w) journal event (over-lists w) f
    by-removal key why (Is_gone_at x) o r d = facts-same w (ended w) journal event (over-lists w) f
    by-removal key why (Is_listed x) o r d = facts-same w (ended w) journal event (over-lists w) f
    by-removal key why (Failed x) o r d = facts-same w (ended w) journal event (over-lists w) f

    by-op : (op : Op) → event.op ≡ op → May cutoff w op → Facts (told cutoff w op event.reply) (journal ++ event ∷ [])
    by-op (Get key) o m = facts-same w (told_get w key event.reply) journal event (get-lists w key event.reply) f
    by-op (ListPart part) o m = by-list part event.reply o refl
    by-op (Remove key why) o m = by-removal key why event.reply o refl m.1.2
    by-op (PutNew key bytes why) o m = absurd m.1
    by-op (PutOver key bytes old why) o m = absurd m.1
    by-op (RemoveAt key old why) o m = absurd m.1

  step-own : (more : List Event) (event : Event) → event.client ≡ client → IsGood (start ++ more) event → OwesCollecting cutoff client start (start ++ more) event → Facts (at (start ++ more)) (start ++ more) → Facts (at (start ++ (more ++ event ∷ []))) (start ++ (more ++ event ∷ []))
  step-own more event mine good owes f =
      subst (λ (w : Walk). Facts w (start ++ (more ++ event ∷ []))) (sym (walk-own more event mine))
      (subst (λ (h : List Event). Facts (told cutoff (at (start ++ more)) event.op event.reply) h) (append_assoc start more (event ∷ [])) (by-op more event mine good (at (start ++ more)) f event.op refl (owes mine)))

  step-other : (more : List Event) (event : Event) → event.client ≢ client → Facts (at (start ++ more)) (start ++ more) → Facts (at (start ++ (more ++ event ∷ []))) (start ++ (more ++ event ∷ []))
  step-other more event other f =
      subst (λ (w : Walk). Facts w (start ++ (more ++ event ∷ []))) (sym (walk-other more event other))
      (subst (λ (h : List Event). Facts (at (start ++ more)) h) (append_assoc start more (event ∷ [])) (facts-same (at (start ++ more)) (at (start ++ more)) (start ++ more) event (same-lists (at (start ++ more))) f))

  along : (more xs : List Event) → Each IsGood (start ++ more) xs → Each (OwesCollecting cutoff client start) (start ++ more) xs → Facts (at (start ++ more)) (start ++ more) → Facts (at (start ++ (more ++ xs))) (start ++ (more ++ xs))
  unfolding Each
  along more [] good owes f = subst (λ (h : List Event). Facts (at (start ++ h)) (start ++ h)) (sym (append-nil more)) f
  along more (x ∷ xs) good owes f = by_client (eqb x.client client) refl (along (more ++ x ∷ []) xs (subst (λ (h : List Event). Each IsGood h xs) (append_assoc start more (x ∷ [])) good.1) (subst (λ (h : List Event). Each (OwesCollecting cutoff client start) h xs) (append_assoc start more (x ∷ [])) owes.1))
    where
      by_client : (b : Bool) → eqb x.client client ≡ b → (Facts (at (start ++ (more ++ x ∷ []))) (start ++ (more ++ x ∷ [])) → Facts (at (start ++ ((more ++ x ∷ []) ++ xs))) (start ++ ((more ++ x ∷ []) ++ xs))) → Facts (at (start ++ (more ++ x ∷ xs))) (start ++ (more ++ x ∷ xs))
      by_client true e again = subst (λ (h : List Event). Facts (at (start ++ h)) (start ++ h)) (append_assoc more (x ∷ []) xs) (again (step-own more x (eqb-true x.client client e) good.0 owes.0 f))
      by_client false e again = subst (λ (h : List Event). Facts (at (start ++ h)) (start ++ h)) (append_assoc more (x ∷ []) xs) (again (step-other more x (λ same. let yes = eq-eqb x.client client same in absurd cc) f))

  first-facts : Facts (at (start ++ [])) (start ++ [])
  first-facts = subst (λ (w : Walk). Facts w (start ++ [])) (sym (behind [])) (record { listed = λ entry c. absurd (none-in entry c); answered = λ key c. absurd (none-in key c) })

pub all-gone : GoneLaw
all-gone cutoff client start more good owes swept key doomed =
    let facts = along cutoff client start [] more (subst (λ (h : List Event). Each IsGood h more) (sym (append-nil start)) good) (subst (λ (h : List Event). Each (OwesCollecting cutoff client start) h more) (sym (append-nil start)) owes) (first-facts cutoff client start) in
    let chosen : IsChosen cutoff (Marked (walk_of cutoff client start (start ++ more))) doomed.entry = record { object = subst IsObject (sym doomed.key_is) doomed.object; old = doomed.old; unmarked = λ m. doomed.unmarked (subst (Marked (walk_of cutoff client start (start ++ more))) doomed.key_is m) } in
    let among = picks-all cutoff (Marked (walk_of cutoff client start (start ++ more))) (walk_of cutoff client start (start ++ more)).listed (walk_of cutoff client start (start ++ more)).answered swept.picks doomed.entry doomed.listed chosen in
    facts.answered key (subst (λ (x : Key). Contains (walk_of cutoff client start (start ++ more)).answered x) doomed.key_is among)

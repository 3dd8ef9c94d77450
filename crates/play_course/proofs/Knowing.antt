-- What a client knows of the journal of a run over an empty store, while others act.
use Rattle.std.proofs.Common.{◌≡◌, ◌≢◌, ℕ, Bool, true, false, List, [], ◌∷◌, ◌++◌, refl, sym, ◌∙◌, ap, subst}
use Rattle.std.specs.Prelude.{Option, Some, None}
use Rattle.ice_ids.specs.declared.Id12.{Id12}
use Rattle.ice_ids.specs.declared.drawing.AnyIds.{AnyIds}
use Rattle.ice_ids.specs.Drawing.{drawn12, after12}
use Rattle.object_store.specs.declared.keys.Key.{Key}
use Rattle.object_store.specs.declared.keys.Key.TheVariants.{Snapshot, Manifest, Txn, Chunk, Branch, Tag, Tombstone, Lease}
use Rattle.object_store.specs.declared.keys.Why.{Why}
use Rattle.object_store.specs.declared.events.Version.{Version}
use Rattle.object_store.specs.declared.events.Op.TheVariants.{Get, PutNew, PutOver}
use Rattle.object_store.specs.declared.events.Event.{Event}
use Rattle.object_store.specs.Machine.{found, is_on, same_key}
use Rattle.store_api.specs.declared.machines.Refusal.{Refusal}
use Rattle.store_api.specs.declared.machines.Refusal.TheVariants as R
use Rattle.store_api.specs.Journal.{Each, IsGood, IsOnce}
use Rattle.object_store.proofs.Journals.{Each-append, Each-weaker, Each-one}
use Rattle.object_store.proofs.Slots.{same_key-true}
use Rattle.session.specs.Sources.{IsLater, MayDrawObject}
use Rattle.commit_path.specs.Single.{PutsSnapshot}
use Rattle.commit_path.proofs.Sources.{later-same, later-drawn12, object-drawn, object-later}
use Rattle.run_histories.specs.Sources.{NodesAreNew}
use Rattle.run_histories.specs.Runs.{AllTrees, AllCaused}
use Rattle.run_histories.proofs.Sources.{object-spent}
use Rattle.run_histories.proofs.Drawing.{are-among, object-draws}
use Rattle.play_course.specs.Refusing.{is_strange}
use Rattle.play_course.proofs.Tidy.{Client, Draws, AreIts, IsTidy, IsAny, AllStand, Puts, any-of, along, spared-snapshot, spared-log, spared-manifest, spared-chunk, spared-lease, free-others, free-apart}
use Rattle.play_course.proofs.Meeting.{Watch}

-- ---- the journal
-- so far nothing was put again, each snapshot has its tree, and comes from its parent by what its log tells; and where no task collects, what was put
-- stands
pub record IsSoFar (collects : Bool) (journal : List Event) : Type 0 where
  pub once : IsOnce journal
  pub trees : AllTrees journal
  pub causes : AllCaused journal
  pub stand : collects ≡ false → AllStand journal

-- ---- what is missing
-- an object may be missing where a task collects; else where it can't be absent
pub missing-plain : (collects : Bool) (key : Key) → (collects ≡ false → ⊥) → is_strange collects (R.Missing key) ≡ false
missing-plain true key never = refl
missing-plain false key never = absurd (never refl)

-- what isn't strange where no task collects isn't where one does
pub plain-beside : (collects : Bool) (why : Refusal) → is_strange false why ≡ false → is_strange collects why ≡ false
plain-beside false why plain = plain
plain-beside true (R.Missing key) plain = refl
plain-beside true why plain = plain

-- nothing stands under an id
pub record IsFreeId (journal : List Event) (id : Id12) : Type 0 where
  pub snapshot : found journal (Snapshot id) ≡ None
  pub log : found journal (Txn id) ≡ None
  pub manifest : found journal (Manifest id) ≡ None
  pub chunk : found journal (Chunk id) ≡ None
  pub lease : found journal (Lease id) ≡ None

-- ---- the events of others, and the client's own
-- an event of others than this client: it puts nothing under the client's ids, and nodes stay new to this source
pub record OfOthers (client : Client) (ids : AnyIds) (journal : List Event) (event : Event) : Type 0 where
  pub tidy : IsTidy (λ id. ¬ Draws client id) journal event
  pub after : IsSoFar client.collects (journal ++ event ∷ [])
  pub nodes : NodesAreNew ids journal → NodesAreNew ids (journal ++ event ∷ [])

-- one of the client's own: nodes stay new where it puts no snapshot
pub record OfOwn (client : Client) (ids : AnyIds) (journal : List Event) (event : Event) : Type 0 where
  pub tidy : IsAny journal event
  pub after : IsSoFar client.collects (journal ++ event ∷ [])
  pub nodes : ¬ PutsSnapshot event.op → NodesAreNew ids journal → NodesAreNew ids (journal ++ event ∷ [])

abbrev pub beside : Client → AnyIds → Watch
beside client ids = record { others = OfOthers client ids; own = OfOwn client ids }

-- ---- what a client knows
-- the journal so far is one of a run over an empty store
pub record IsKept (client : Client) (journal : List Event) : Type 0 where
  pub tidy : Each IsAny [] journal
  pub so_far : IsSoFar client.collects journal

-- and nothing stands under an id that this source may draw
pub record Before (client : Client) (source : AnyIds) (journal : List Event) : Type 0 where
  pub tidy : Each IsAny [] journal
  pub so_far : IsSoFar client.collects journal
  pub free : (id : Id12) → MayDrawObject source id → IsFreeId journal id

-- a later source draws fewer ids
pub before-later : (client : Client) (source later : AnyIds) (journal : List Event) → IsLater source later → Before client source journal → Before client later journal
before-later client source later journal l b = record { tidy = b.tidy; so_far = b.so_far; free = λ id m. b.free id (object-later source later id l m) }

module _ (client : Client) where
  abbrev Who : Id12 → Type 0
  Who id = ¬ Draws client id

  not-who : (id : Id12) → Draws client id → ¬ Who id
  not-who id d n = n d

  -- through an event that puts nothing under the client's ids
  pub id-free : (id : Id12) → Draws client id → (old more : List Event) → Each (IsTidy (λ i. ¬ Draws client i)) old more → IsFreeId old id → IsFreeId (old ++ more) id
  id-free id d old more others f = record {
    snapshot = free-others Who (Snapshot id) old more (spared-snapshot client id d Who (not-who id d)) others f.snapshot;
    log = free-others Who (Txn id) old more (spared-log id Who (not-who id d)) others f.log;
    manifest = free-others Who (Manifest id) old more (spared-manifest id Who (not-who id d)) others f.manifest;
    chunk = free-others Who (Chunk id) old more (spared-chunk id Who (not-who id d)) others f.chunk;
    lease = free-others Who (Lease id) old more (spared-lease id Who (not-who id d)) others f.lease;
  }

  -- any event goes on so
  pub kept-next : (journal : List Event) (event : Event) → IsAny journal event → IsSoFar client.collects (journal ++ event ∷ []) → IsKept client journal → IsKept client (journal ++ event ∷ [])
  kept-next journal event any after k = record { tidy = Each-append IsAny [] journal (event ∷ []) k.tidy (Each-one IsAny journal event any); so_far = after }

  pub kept-others : (ids : AnyIds) (journal more : List Event) → Each (OfOthers client ids) journal more → IsKept client journal → IsKept client (journal ++ more)
  kept-others ids journal more others k = along (OfOthers client ids) (IsKept client) (λ h event o k. kept-next h event (any-of Who h event o.tidy) o.after k) journal more others k

  before-tidy : (source : AnyIds) → AreIts client source → (journal : List Event) (event : Event) → IsTidy (λ i. ¬ Draws client i) journal event → IsSoFar client.collects (journal ++ event ∷ []) → Before client source journal → Before client source (journal ++ event ∷ [])
  before-tidy source known journal event t after b = record {
    tidy = Each-append IsAny [] journal (event ∷ []) b.tidy (Each-one IsAny journal event (any-of Who journal event t));
    so_far = after;
    free = λ id m. id-free id (object-draws client.draw client.number source id known m) journal (event ∷ []) (Each-one (IsTidy Who) journal event t) (b.free id m);
  }

  pub before-others : (ids source : AnyIds) → AreIts client source → (journal more : List Event) → Each (OfOthers client ids) journal more → Before client source journal → Before client source (journal ++ more)
  before-others ids source known journal more others b = along (OfOthers client ids) (Before client source) (λ h event o k. before-tidy source known h event o.tidy o.after k) journal more others b

  -- through an own get
  pub before-got : (ids source : AnyIds) → AreIts client source → (journal : List Event) (event : Event) (key : Key) → OfOwn client ids journal event → event.op ≡ Get key → Before client source journal → Before client source (journal ++ event ∷ [])
  before-got ids source known journal event key own is b = before-tidy source known journal event (record { good = own.tidy.good; puts = subst (Puts Who) (sym is) tt }) own.after b

  -- and nodes stay new
  pub nodes-others : (ids : AnyIds) (journal more : List Event) → Each (OfOthers client ids) journal more → NodesAreNew ids journal → NodesAreNew ids (journal ++ more)
  nodes-others ids journal more others new = along (OfOthers client ids) (NodesAreNew ids) (λ h event o k. o.nodes k) journal more others new

  pub good-others : (ids : AnyIds) (journal more : List Event) → Each (OfOthers client ids) journal more → Each IsGood journal more
  good-others ids journal more others = Each-weaker (OfOthers client ids) IsGood (λ h event o. o.tidy.good) journal more others

-- ---- an own put under the next id drawn
-- the id of a key
abbrev pub id_of : Key → Option Id12
id_of (Snapshot id) = Some id
id_of (Manifest id) = Some id
id_of (Txn id) = Some id
id_of (Chunk id) = Some id
id_of (Branch name) = None
id_of (Tag name) = None
id_of (Tombstone name) = None
id_of (Lease id) = Some id

some-same : {A : Type 0} (a b : A) → Some a ≡ Some b → a ≡ b
some-same a b e = cc

pub apart-keys : (key other : Key) (id given : Id12) → id_of key ≡ Some id → id_of other ≡ Some given → id ≢ given → same_key key other ≡ false
apart-keys key other id given a b differs = by_test (same_key key other) refl
  where
    by_test : (t : Bool) → same_key key other ≡ t → t ≡ false
    by_test true e = absurd (differs (some-same id given (sym a ∙ ap id_of (same_key-true key other e) ∙ b)))
    by_test false e = refl

-- at another id nothing stands still
pub free-beside : (journal : List Event) (event : Event) (key : Key) (bytes : List ℕ) (why : Why) (id other : Id12) → event.op ≡ PutNew key bytes why → id_of key ≡ Some id → id ≢ other → IsFreeId journal other → IsFreeId (journal ++ event ∷ []) other
free-beside journal event key bytes why id other is under differs f =
    let off : (k : Key) → id_of k ≡ Some other → is_on k event.op ≡ false = λ k e. ap (is_on k) is ∙ apart-keys key k id other under e differs in
    record {
      snapshot = free-apart (Snapshot other) journal event (off (Snapshot other) refl) f.snapshot;
      log = free-apart (Txn other) journal event (off (Txn other) refl) f.log;
      manifest = free-apart (Manifest other) journal event (off (Manifest other) refl) f.manifest;
      chunk = free-apart (Chunk other) journal event (off (Chunk other) refl) f.chunk;
      lease = free-apart (Lease other) journal event (off (Lease other) refl) f.lease;
    }

-- through an own event that puts nothing under what the source may draw
pub before-own : (client : Client) (ids source : AnyIds) (journal : List Event) (event : Event) → OfOwn client ids journal event → ((id : Id12) → MayDrawObject source id → IsFreeId journal id → IsFreeId (journal ++ event ∷ []) id) → Before client source journal → Before client source (journal ++ event ∷ [])
before-own client ids source journal event own free b = record {
  tidy = Each-append IsAny [] journal (event ∷ []) b.tidy (Each-one IsAny journal event own.tidy);
  so_far = own.after;
  free = λ id m. free id m (b.free id m);
}

-- a put under an id that the source doesn't draw
pub before-under : (client : Client) (ids source : AnyIds) (journal : List Event) (event : Event) (key : Key) (bytes : List ℕ) (why : Why) (id : Id12) → OfOwn client ids journal event → event.op ≡ PutNew key bytes why → id_of key ≡ Some id → ((other : Id12) → MayDrawObject source other → id ≢ other) → Before client source journal
    → Before client source (journal ++ event ∷ [])
before-under client ids source journal event key bytes why id own is under differs b =
    before-own client ids source journal event own (λ other m f. free-beside journal event key bytes why id other is under (differs other m) f) b

-- what was drawn isn't drawn again
pub spent-differs : (client : Client) (source : AnyIds) (id : Id12) → AreIts client source → drawn12 source ≡ Some id → (other : Id12) → MayDrawObject (after12 source) other → id ≢ other
spent-differs client source id known drawn other m e =
    object-spent client.draw client.most client.once source id (are-among client.draw client.number client.most source client.small known) drawn (subst (MayDrawObject (after12 source)) (sym e) m)

-- a put under the next id
pub before-put : (client : Client) (ids source : AnyIds) → AreIts client source → (journal : List Event) (event : Event) (key : Key) (bytes : List ℕ) (why : Why) (id : Id12) → OfOwn client ids journal event → event.op ≡ PutNew key bytes why → id_of key ≡ Some id → drawn12 source ≡ Some id → Before client source journal → Before client (after12 source) (journal ++ event ∷ [])
before-put client ids source known journal event key bytes why id own is under drawn b =
    before-under client ids (after12 source) journal event key bytes why id own is under (spent-differs client source id known drawn) (before-later client source (after12 source) journal (later-drawn12 source) b)

-- a branch that is put over
pub before-over : (client : Client) (ids source : AnyIds) (journal : List Event) (event : Event) (branch bytes : List ℕ) (old : Version) (why : Why) → OfOwn client ids journal event → event.op ≡ PutOver (Branch branch) bytes old why → Before client source journal → Before client source (journal ++ event ∷ [])
before-over client ids source journal event branch bytes old why own is b =
    before-own client ids source journal event own (λ id m f. record {
      snapshot = free-apart (Snapshot id) journal event (ap (is_on (Snapshot id)) is) f.snapshot;
      log = free-apart (Txn id) journal event (ap (is_on (Txn id)) is) f.log;
      manifest = free-apart (Manifest id) journal event (ap (is_on (Manifest id)) is) f.manifest;
      chunk = free-apart (Chunk id) journal event (ap (is_on (Chunk id)) is) f.chunk;
      lease = free-apart (Lease id) journal event (ap (is_on (Lease id)) is) f.lease;
    }) b

pub drawn-now : (source : AnyIds) (id : Id12) → drawn12 source ≡ Some id → MayDrawObject source id
drawn-now source id d = object-drawn source source id (later-same source) d

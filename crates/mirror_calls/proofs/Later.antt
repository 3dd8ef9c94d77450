-- What a mirror did stays done: what is known by it stays known.
use Rattle.std.proofs.Common.{◌≡◌, ◌⊎◌, ℕ, inl, inr, Bool, true, false, List, [], ◌∷◌, ◌++◌, refl, sym, ◌∙◌, ap, subst, append_assoc, append-nil, arith}
use Rattle.std.specs.Prelude.{◌+◌, ◌≤◌, IfSome, Option, Some, None, Contains}
use Rattle.std.proofs.lemmas.List.Elements.{Contains-append_left, Contains-push, Contains-push_cases}
use Rattle.ice_ids.specs.declared.Id12.{Id12}
use Rattle.snapshot_file.specs.declared.snapshot.SnapshotFile.{SnapshotFile}
use Rattle.manifest_file.specs.declared.manifest.ManifestFile.{ManifestFile}
use Rattle.object_store.specs.declared.keys.Key.{Key}
use Rattle.object_store.specs.declared.keys.Why.{Why}
use Rattle.object_store.specs.declared.events.Version.{Version}
use Rattle.object_store.specs.declared.events.Op.{Op}
use Rattle.object_store.specs.declared.events.Op.TheVariants.{Get, PutNew, PutOver, Remove, RemoveAt, List as ListPart}
use Rattle.object_store.specs.declared.events.New.TheVariants.{Done as New_done, Present}
use Rattle.object_store.specs.declared.events.Over.TheVariants.{Done as Over_done, Moved as Over_moved}
use Rattle.object_store.specs.declared.events.Reply.{Reply}
use Rattle.object_store.specs.declared.events.Reply.TheVariants as R
use Rattle.two_stores.specs.Pairs.{moves_ref}
use Rattle.two_stores.specs.declared.side.Side.{Side}
use Rattle.two_stores.specs.declared.side.Side.TheVariants.{To}
use Rattle.mirror_reports.specs.declared.outcome.RefId.{RefId}
use Rattle.mirror_reports.specs.declared.outcome.MirrorRef.{MirrorRef}
use Rattle.mirror_reports.specs.declared.outcome.Mirrored.{Mirrored}
use Rattle.mirror.specs.Programs.{no_puts}
use Rattle.mirror_calls.specs.Deeds.{Deed, Did, HasGot, HasMissed, HasRef, HasPut}
use Rattle.mirror_calls.specs.Copies.{IsThere, IsCopied, AreChunksCopied, IsManifestCopied, IsNamedCopied, IsSnapshotCopied, HasParent, IsChainCopied, first, further}
use Rattle.mirror_calls.specs.Reports.{WasPointed, NotBuried, IsPointed, IsMirrored, PutRef, put_if, put_by, refs_put, told_put, refs_told, count_deed, counts_from, counts_of, snapshot_gets, IsObject, IsCompared, AreCompared}

pub record Later (old new : List Deed) : Type 0 where
  pub more : List Deed
  pub is : new ≡ old ++ more

pub later-same : (deeds : List Deed) → Later deeds deeds
later-same deeds = record { more = []; is = sym (append-nil deeds) }

pub later-both : {a b c : List Deed} → Later a b → Later b c → Later a c
later-both {a} g h = record { more = g.more ++ h.more; is = h.is ∙ (ap (λ (l : List Deed). l ++ h.more) g.is ∙ append_assoc a g.more h.more) }

-- behind one more operation
abbrev pub with-deed : List Deed → Side → Op → Reply → List Deed
with-deed deeds side op reply = deeds ++ record { side = side; op = op; reply = reply } ∷ []

pub later-step : (deeds : List Deed) (side : Side) (op : Op) (reply : Reply) → Later deeds (with-deed deeds side op reply)
later-step deeds side op reply = record { more = record { side = side; op = op; reply = reply } ∷ []; is = refl }

pub did-now : (deeds : List Deed) (side : Side) (op : Op) (reply : Reply) → Did (with-deed deeds side op reply) side op reply
did-now deeds side op reply = Contains-push deeds (record { side = side; op = op; reply = reply })

pub did-later : {old new : List Deed} (d : Deed) → Later old new → Contains old d → Contains new d
did-later {old} d l c = subst (λ (ds : List Deed). Contains ds d) (sym l.is) (Contains-append_left old l.more d c)

-- ---- what was answered
pub got-later : {old new : List Deed} {side : Side} {key : Key} {bytes : List ℕ} → Later old new → HasGot old side key bytes → HasGot new side key bytes
got-later l g = record { version = g.version; now = g.now; did = did-later _ l g.did }

pub missed-later : {old new : List Deed} {side : Side} {key : Key} → Later old new → HasMissed old side key → HasMissed new side key
missed-later l g = record { now = g.now; did = did-later _ l g.did }

pub ref-later : {old new : List Deed} {side : Side} {key : Key} {version : Version} {id : Id12} → Later old new → HasRef old side key version id → HasRef new side key version id
ref-later l g = record { bytes = g.bytes; now = g.now; did = did-later _ l g.did; names = g.names }

pub put-later : {old new : List Deed} {key : Key} {bytes : List ℕ} → Later old new → HasPut old key bytes → HasPut new key bytes
put-later l g = record { why = g.why; version = g.version; now = g.now; did = did-later _ l g.did }

-- ---- what is copied
pub there-later : {old new : List Deed} (key : Key) (bytes : List ℕ) → Later old new → IsThere old key bytes → IsThere new key bytes
there-later key bytes l (inl p) = inl (put-later l p)
there-later key bytes l (inr g) = inr (got-later l g)

pub copied-later : {old new : List Deed} {key : Key} → Later old new → IsCopied old key → IsCopied new key
copied-later {old} {new} {key} l c = record { bytes = c.bytes; got = got-later l c.got; there = there-later key c.bytes l c.there }

pub chunks-later : {old new : List Deed} (m : ManifestFile) → Later old new → AreChunksCopied old m → AreChunksCopied new m
chunks-later m l c object names = copied-later l (c object names)

pub manifest-later : {old new : List Deed} {id : Id12} → Later old new → IsManifestCopied old id → IsManifestCopied new id
manifest-later l c = record { bytes = c.bytes; got = got-later l c.got; manifest = c.manifest; read = c.read; chunks = chunks-later c.manifest l c.chunks; there = there-later _ c.bytes l c.there }

log-later : {old new : List Deed} {A : Type 0} {key : Key} → Later old new → A ⊎ IsCopied old key → A ⊎ IsCopied new key
log-later l (inl a) = inl a
log-later l (inr c) = inr (copied-later l c)

pub named-later : {old new : List Deed} {id : Id12} {snap : SnapshotFile} → Later old new → IsNamedCopied old id snap → IsNamedCopied new id snap
named-later l c = record { log = log-later l c.log; manifests = λ m names. manifest-later l (c.manifests m names) }

pub snapshot-later : {old new : List Deed} {id : Id12} → Later old new → IsSnapshotCopied old id → IsSnapshotCopied new id
snapshot-later l c = record { bytes = c.bytes; got = got-later l c.got; snap = c.snap; read = c.read; named = named-later l c.named; file = c.file; says = c.says; there = there-later _ c.file l c.there }

pub parent-later : {old new : List Deed} {id : Id12} {parent : Option Id12} → Later old new → HasParent old id parent → HasParent new id parent
parent-later l p = record { bytes = p.bytes; got = got-later l p.got; snap = p.snap; read = p.read; is = p.is }

pub chain-later : {old new : List Deed} {id : Id12} → Later old new → IsChainCopied old id → IsChainCopied new id
chain-later l (first p s) = first (parent-later l p) (snapshot-later l s)
chain-later l (further p s c) = further (parent-later l p) (snapshot-later l s) (chain-later l c)

pub before-later : {old new : List Deed} (parent : Option Id12) → Later old new → IfSome parent (IsChainCopied old) → IfSome parent (IsChainCopied new)
before-later None l c = tt
before-later (Some p) l c = chain-later l c

-- ---- what became of refs
pointed-later : {old new : List Deed} (key : Key) (id : Id12) → Later old new → WasPointed old key id → WasPointed new key id
pointed-later key id l (inl p) = inl (put-later l p)
pointed-later key id l (inr (at, version, now, did)) = inr (at, version, now, did-later _ l did)

buried-later : {old new : List Deed} (r : RefId) (tag : Bool) → Later old new → NotBuried old r tag → NotBuried new r tag
buried-later r false l b = tt
buried-later r true l b = missed-later l b

is-pointed-later : {old new : List Deed} (r : RefId) (id : Id12) (put : Bool) → Later old new → IsPointed old r id put → IsPointed new r id put
is-pointed-later r id true l p = pointed-later _ id l p
is-pointed-later r id false l p = ((p.0.0, ref-later l p.0.1), buried-later r r.tag l p.1)

pub mirrored-later : {old new : List Deed} {r : MirrorRef} → Later old new → IsMirrored old r → IsMirrored new r
mirrored-later {old} {new} {r} l m = record { version = m.version; source = ref-later l m.source; copied = chain-later l m.copied; target = is-pointed-later _ r.id r.put l m.target }

-- ---- counts
pub counts-more : (counts : Mirrored) (deeds : List Deed) (d : Deed) → counts_from counts (deeds ++ d ∷ []) ≡ count_deed d.op d.reply (counts_from counts deeds)
counts-more counts [] d = refl
counts-more counts (x ∷ deeds) d = counts-more (count_deed x.op x.reply counts) deeds d

-- what isn't counted
pub tally-same : (deeds : List Deed) (side : Side) (op : Op) (reply : Reply) (counts : Mirrored) → ((m : Mirrored) → count_deed op reply m ≡ m) → counts ≡ counts_of deeds → counts ≡ counts_of (with-deed deeds side op reply)
tally-same deeds side op reply counts none e = e ∙ (sym (none (counts_of deeds)) ∙ sym (counts-more no_puts deeds (record { side = side; op = op; reply = reply })))

-- what is counted
pub tally-more : (deeds : List Deed) (side : Side) (op : Op) (reply : Reply) (counts : Mirrored) → counts ≡ counts_of deeds → count_deed op reply counts ≡ counts_of (with-deed deeds side op reply)
tally-more deeds side op reply counts e = ap (count_deed op reply) e ∙ sym (counts-more no_puts deeds (record { side = side; op = op; reply = reply }))

-- ---- which refs were put
-- those that are told as put are those that were
abbrev pub Puts : List Deed → List MirrorRef → Type 0
Puts deeds refs = refs_told refs ≡ refs_put deeds

puts-more : (deeds : List Deed) (d : Deed) → refs_put (deeds ++ d ∷ []) ≡ refs_put deeds ++ put_by d.op d.reply
puts-more [] d = append-nil (put_by d.op d.reply)
puts-more (x ∷ deeds) d = ap (λ (l : List PutRef). put_by x.op x.reply ++ l) (puts-more deeds d) ∙ sym (append_assoc (put_by x.op x.reply) (refs_put deeds) (put_by d.op d.reply))

told-more : (refs : List MirrorRef) (r : MirrorRef) → refs_told (refs ++ r ∷ []) ≡ refs_told refs ++ told_put r
told-more [] r = append-nil (told_put r)
told-more (x ∷ refs) r = ap (λ (l : List PutRef). told_put x ++ l) (told-more refs r) ∙ sym (append_assoc (told_put x) (refs_told refs) (told_put r))

-- behind what puts no ref
pub puts-same : (deeds : List Deed) (side : Side) (op : Op) (reply : Reply) (refs : List MirrorRef) → put_by op reply ≡ [] → Puts deeds refs → Puts (with-deed deeds side op reply) refs
puts-same deeds side op reply refs none z =
    z ∙ (sym (append-nil (refs_put deeds)) ∙ (ap (λ (l : List PutRef). refs_put deeds ++ l) (sym none) ∙ sym (puts-more deeds (record { side = side; op = op; reply = reply }))))

-- behind the put of a ref, of which it is told
pub puts-with : (deeds : List Deed) (side : Side) (op : Op) (reply : Reply) (refs : List MirrorRef) (r : MirrorRef) → put_by op reply ≡ told_put r → Puts deeds refs → Puts (with-deed deeds side op reply) (refs ++ r ∷ [])
puts-with deeds side op reply refs r same z =
    told-more refs r ∙ (ap (λ (l : List PutRef). l ++ told_put r) z ∙ (ap (λ (l : List PutRef). refs_put deeds ++ l) (sym same) ∙ sym (puts-more deeds (record { side = side; op = op; reply = reply }))))

-- where it is told of one that was left
pub puts-left : (deeds : List Deed) (refs : List MirrorRef) (r : MirrorRef) → told_put r ≡ [] → Puts deeds refs → Puts deeds (refs ++ r ∷ [])
puts-left deeds refs r none z = told-more refs r ∙ (ap (λ (l : List PutRef). refs_told refs ++ l) none ∙ (append-nil (refs_told refs) ∙ z))

-- what changes no ref puts none
new-none : (key : Key) (bytes : List ℕ) (why : Why) (reply : Reply) → moves_ref (PutNew key bytes why) ≡ false → put_by (PutNew key bytes why) reply ≡ []
new-none key bytes why (R.New (New_done version now)) e = ap (λ (b : Bool). put_if b (record { key = key; bytes = bytes })) e
new-none key bytes why (R.New (Present version now)) e = refl
new-none key bytes why (R.Failed x) e = refl
new-none key bytes why (R.Got x) e = refl
new-none key bytes why (R.Over x) e = refl
new-none key bytes why (R.Gone x) e = refl
new-none key bytes why (R.GoneAt x) e = refl
new-none key bytes why (R.Listed x) e = refl

over-none : (key : Key) (bytes : List ℕ) (old : Version) (why : Why) (reply : Reply) → moves_ref (PutOver key bytes old why) ≡ false → put_by (PutOver key bytes old why) reply ≡ []
over-none key bytes old why (R.Over (Over_done version now)) e = ap (λ (b : Bool). put_if b (record { key = key; bytes = bytes })) e
over-none key bytes old why (R.Over (Over_moved there now)) e = refl
over-none key bytes old why (R.Failed x) e = refl
over-none key bytes old why (R.Got x) e = refl
over-none key bytes old why (R.New x) e = refl
over-none key bytes old why (R.Gone x) e = refl
over-none key bytes old why (R.GoneAt x) e = refl
over-none key bytes old why (R.Listed x) e = refl

pub still-none : (op : Op) (reply : Reply) → moves_ref op ≡ false → put_by op reply ≡ []
still-none (PutNew key bytes why) reply e = new-none key bytes why reply e
still-none (PutOver key bytes old why) reply e = over-none key bytes old why reply e
still-none (Get key) reply e = refl
still-none (ListPart part) reply e = refl
still-none (Remove key why) reply e = refl
still-none (RemoveAt key old why) reply e = refl

-- ---- what stood there already
pub compared-later : {old new : List Deed} {key : Key} {bytes : List ℕ} → Later old new → IsCompared old key bytes → IsCompared new key bytes
compared-later l c = record { there = c.there; got = got-later l c.got; fine = c.fine }

-- an operation is no put of an object that was told that one stands there
abbrev pub Unmet : Op → Reply → Type 0
Unmet op reply = (key : Key) (bytes : List ℕ) (why : Why) (version : Version) (now : ℕ) → IsObject key → op ≡ PutNew key bytes why → reply ≡ R.New (Present version now) → ⊥

abbrev deed-of : Side → Op → Reply → Deed
deed-of side op reply = record { side = side; op = op; reply = reply }

pub compared-none : (deeds : List Deed) (side : Side) (op : Op) (reply : Reply) → Unmet op reply → AreCompared deeds → AreCompared (with-deed deeds side op reply)
compared-none deeds side op reply unmet c key bytes why version now is did = go (Contains-push_cases deeds (deed-of side op reply) (deed-of To (PutNew key bytes why) (R.New (Present version now))) did)
  where
    go : Did deeds To (PutNew key bytes why) (R.New (Present version now)) ⊎ (deed-of side op reply ≡ deed-of To (PutNew key bytes why) (R.New (Present version now))) → IsCompared (with-deed deeds side op reply) key bytes
    go (inl d) = compared-later (later-step deeds side op reply) (c key bytes why version now is d)
    go (inr e) = absurd (unmet key bytes why version now is (ap (λ (d : Deed). d.op) e) (ap (λ (d : Deed). d.reply) e))

-- all are compared but this one, which is to be
abbrev pub ButOne : List Deed → Key → List ℕ → Type 0
ButOne deeds key bytes = (k : Key) (b : List ℕ) (why : Why) (version : Version) (now : ℕ) → IsObject k → Did deeds To (PutNew k b why) (R.New (Present version now)) → IsCompared deeds k b ⊎ ((key ≡ k) × (bytes ≡ b))

pub same-put : (key k : Key) (bytes b : List ℕ) (why w : Why) → PutNew key bytes why ≡ PutNew k b w → (key ≡ k) × (bytes ≡ b)
same-put key k bytes b why w e =
    let keys : key ≡ k = cc in
    let equal : bytes ≡ b = cc in
    (keys, equal)

pub but-one : (deeds : List Deed) (key : Key) (bytes : List ℕ) (why : Why) (reply : Reply) → AreCompared deeds → ButOne (with-deed deeds To (PutNew key bytes why) reply) key bytes
but-one deeds key bytes why reply c k b w version now is did = go (Contains-push_cases deeds (deed-of To (PutNew key bytes why) reply) (deed-of To (PutNew k b w) (R.New (Present version now))) did)
  where
    go : Did deeds To (PutNew k b w) (R.New (Present version now)) ⊎ (deed-of To (PutNew key bytes why) reply ≡ deed-of To (PutNew k b w) (R.New (Present version now))) → IsCompared (with-deed deeds To (PutNew key bytes why) reply) k b ⊎ ((key ≡ k) × (bytes ≡ b))
    go (inl d) = inl (compared-later (later-step deeds To (PutNew key bytes why) reply) (c k b w version now is d))
    go (inr e) = inr (same-put key k bytes b why w (ap (λ (d : Deed). d.op) e))

get-no-put : (key k : Key) (b : List ℕ) (why : Why) → Get key ≡ PutNew k b why → ⊥
get-no-put key k b why e = cc

-- the get of what stands there tells that it is fine
pub one-compared : (deeds : List Deed) (key : Key) (bytes : List ℕ) (reply : Reply) → ButOne deeds key bytes → IsCompared (with-deed deeds To (Get key) reply) key bytes → AreCompared (with-deed deeds To (Get key) reply)
one-compared deeds key bytes reply but one k b why version now is did = go (Contains-push_cases deeds (deed-of To (Get key) reply) (deed-of To (PutNew k b why) (R.New (Present version now))) did)
  where
    either : IsCompared deeds k b ⊎ ((key ≡ k) × (bytes ≡ b)) → IsCompared (with-deed deeds To (Get key) reply) k b
    either (inl c) = compared-later (later-step deeds To (Get key) reply) c
    either (inr same) = subst (λ (x : Key). IsCompared (with-deed deeds To (Get key) reply) x b) same.0 (subst (λ (y : List ℕ). IsCompared (with-deed deeds To (Get key) reply) key y) same.1 one)

    go : Did deeds To (PutNew k b why) (R.New (Present version now)) ⊎ (deed-of To (Get key) reply ≡ deed-of To (PutNew k b why) (R.New (Present version now))) → IsCompared (with-deed deeds To (Get key) reply) k b
    go (inl d) = either (but k b why version now is d)
    go (inr e) = absurd (get-no-put key k b why (ap (λ (d : Deed). d.op) e))

pub gets-append : (a b : List Deed) → snapshot_gets (a ++ b) ≡ snapshot_gets a + snapshot_gets b
gets-append [] b = omega arith
gets-append (x ∷ a) b = let h = gets-append a b in omega (arith, h)

pub gets-later : {old new : List Deed} → Later old new → snapshot_gets old ≤ snapshot_gets new
gets-later {old} {new} l =
    let same : snapshot_gets new ≡ snapshot_gets old + snapshot_gets l.more = ap snapshot_gets l.is ∙ gets-append old l.more in
    omega (arith, same)

-- Why a reply refuses a mirror.
use Rattle.std.proofs.Common.{◌≡◌, ℕ, inl, inr, Bool, true, false, List, [], ◌∷◌, refl, ap, subst}
use Rattle.std.specs.Prelude.{Option, Some, None, Result, Ok, Err}
use Rattle.ice_ids.specs.declared.Id12.{Id12}
use Rattle.snapshot_file.specs.declared.snapshot.SnapshotFile.{SnapshotFile}
use Rattle.repo_objects.specs.declared.bad_objects.Bad.{Bad}
use Rattle.repo_objects.specs.Readings.{read_snapshot, read_ref}
use Rattle.object_store.specs.declared.keys.Key.{Key}
use Rattle.object_store.specs.declared.keys.Key.TheVariants.{Snapshot, Manifest, Txn, Chunk, Branch, Tag, Tombstone, Lease}
use Rattle.object_store.specs.declared.keys.Part.{Part}
use Rattle.object_store.specs.declared.keys.Why.{Why}
use Rattle.object_store.specs.declared.keys.Why.TheVariants.{Reset}
use Rattle.object_store.specs.declared.events.Version.{Version}
use Rattle.object_store.specs.declared.events.Op.{Op}
use Rattle.object_store.specs.declared.events.Op.TheVariants.{Get, PutNew, PutOver, List as ListPart}
use Rattle.object_store.specs.declared.events.Got.TheVariants.{Found, Absent}
use Rattle.object_store.specs.declared.events.New.TheVariants.{Done as New_done, Present}
use Rattle.object_store.specs.declared.events.Over.TheVariants.{Done as Over_done, Moved as Over_moved}
use Rattle.object_store.specs.declared.events.Listed.{Listed}
use Rattle.object_store.specs.declared.events.Reply.{Reply}
use Rattle.object_store.specs.declared.events.Reply.TheVariants as R
use Rattle.store_api.specs.declared.machines.Refusal.{Refusal}
use Rattle.store_api.specs.declared.machines.Refusal.TheVariants.{Missing, BadFile, StoreFault, TargetFault, RefExists, Moved as Has_moved}
use Rattle.store_api.specs.Callers.{Fits}
use Rattle.repo_read.specs.declared.answers.Resolved.{Resolved}
use Rattle.repo_read.specs.Answers.{at_key, snapshot_told, resolved_at}
use Rattle.two_stores.specs.declared.side.Side.{Side}
use Rattle.two_stores.specs.declared.side.Side.TheVariants.{From, To}
use Rattle.two_stores.specs.Pairs.{is_ref}
use Rattle.mirror_reports.specs.Told.{fault_of, listed_told, bytes_told, if_there, ref_told, buried_told, put_told, made_told, moved_told}
use Rattle.mirror_calls.specs.Deeds.{Deed, Did, HasGot, HasMissed, HasRef, HasPut}
use Rattle.mirror_calls.specs.Copies.{HasParent}
use Rattle.mirror_calls.specs.Reports.{IsRef, IsObject, ReadsBad, Cause, PutRef, put_if, put_by}
use Rattle.mirror_calls.proofs.Later.{with-deed, did-now}

pub err-is : {A : Type 0} (a b : Refusal) → ◌≡◌ {A = Result A Refusal} (Err a) (Err b) → a ≡ b
err-is a b e = cc

pub ok-is : {A : Type 0} (x y : A) → ◌≡◌ {A = Result A Refusal} (Ok x) (Ok y) → x ≡ y
ok-is x y e = cc

pub ok-err : {A : Type 0} (x : A) (why : Refusal) → ◌≡◌ {A = Result A Refusal} (Ok x) (Err why) → ⊥
ok-err x why e = cc

pub err-ok : {A : Type 0} (x : A) (why : Refusal) → ◌≡◌ {A = Result A Refusal} (Err why) (Ok x) → ⊥
err-ok x why e = cc

-- it is refused so, for this cause
by-cause : {A : Type 0} (deeds : List Deed) (a why : Refusal) → ◌≡◌ {A = Result A Refusal} (Err a) (Err why) → Cause deeds a → Cause deeds why
by-cause deeds a why e c = subst (Cause deeds) (err-is a why e) c

-- ---- failures
failed : {A : Type 0} (deeds : List Deed) (side : Side) (op : Op) (done : Bool) (why : Refusal) → ◌≡◌ {A = Result A Refusal} (Err (fault_of side)) (Err why) → Cause (with-deed deeds side op (R.Failed done)) why
failed deeds From op done why e = by-cause (with-deed deeds From op (R.Failed done)) StoreFault why e (record { op = op; done = done; did = did-now deeds From op (R.Failed done) })
failed deeds To op done why e = by-cause (with-deed deeds To op (R.Failed done)) TargetFault why e (record { op = op; done = done; did = did-now deeds To op (R.Failed done) })

-- ---- gets
missed : (deeds : List Deed) (side : Side) (key : Key) (now : ℕ) → IsObject key → Cause (with-deed deeds side (Get key) (R.Got (Absent now))) (Missing key)
missed deeds From key now is = (is, inl (record { now = now; did = did-now deeds From (Get key) (R.Got (Absent now)) }))
missed deeds To key now is = (is, inr (record { now = now; did = did-now deeds To (Get key) (R.Got (Absent now)) }))

pub cause-bytes : (deeds : List Deed) (side : Side) (key : Key) (reply : Reply) (why : Refusal) → IsObject key → Fits (Get key) reply → bytes_told side key reply ≡ Err why → Cause (with-deed deeds side (Get key) reply) why
cause-bytes deeds side key (R.Got (Found bytes version now)) why is f e = absurd (ok-err bytes why e)
cause-bytes deeds side key (R.Got (Absent now)) why is f e = by-cause (with-deed deeds side (Get key) (R.Got (Absent now))) (Missing key) why e (missed deeds side key now is)
cause-bytes deeds side key (R.Failed x) why is f e = failed deeds side (Get key) x why e
cause-bytes deeds side key (R.New x) why is f e = absurd f
cause-bytes deeds side key (R.Over x) why is f e = absurd f
cause-bytes deeds side key (R.Gone x) why is f e = absurd f
cause-bytes deeds side key (R.GoneAt x) why is f e = absurd f
cause-bytes deeds side key (R.Listed x) why is f e = absurd f

-- a get was answered with these bytes
got-now : (deeds : List Deed) (side : Side) (key : Key) (bytes : List ℕ) (version : Version) (now : ℕ) → HasGot (with-deed deeds side (Get key) (R.Got (Found bytes version now))) side key bytes
got-now deeds side key bytes version now = record { version = version; now = now; did = did-now deeds side (Get key) (R.Got (Found bytes version now)) }

pub bytes-got : (deeds : List Deed) (side : Side) (key : Key) (reply : Reply) (bytes : List ℕ) → Fits (Get key) reply → bytes_told side key reply ≡ Ok bytes → HasGot (with-deed deeds side (Get key) reply) side key bytes
bytes-got deeds side key (R.Got (Found b version now)) bytes f e = subst (HasGot (with-deed deeds side (Get key) (R.Got (Found b version now))) side key) (ok-is b bytes e) (got-now deeds side key b version now)
bytes-got deeds side key (R.Got (Absent now)) bytes f e = absurd (err-ok bytes (Missing key) e)
bytes-got deeds side key (R.Failed x) bytes f e = absurd (err-ok bytes (fault_of side) e)
bytes-got deeds side key (R.New x) bytes f e = absurd f
bytes-got deeds side key (R.Over x) bytes f e = absurd f
bytes-got deeds side key (R.Gone x) bytes f e = absurd f
bytes-got deeds side key (R.GoneAt x) bytes f e = absurd f
bytes-got deeds side key (R.Listed x) bytes f e = absurd f

-- ---- what bytes stand for
pub key-ok : {A : Type 0} (key : Key) (r : Result A Bad) (x : A) → at_key key r ≡ Ok x → r ≡ Ok x
key-ok key (Ok y) x e = cc
key-ok key (Err bad) x e = cc

-- bytes of the source aren't what their key asks for
pub cause-bad : {A : Type 0} (deeds : List Deed) (key : Key) (bytes : List ℕ) (r : Result A Bad) (why : Refusal) → ((bad : Bad) → r ≡ Err bad → ReadsBad key bytes bad) → HasGot deeds From key bytes → at_key key r ≡ Err why → Cause deeds why
cause-bad deeds key bytes (Ok x) why reads g e = absurd (ok-err x why e)
cause-bad deeds key bytes (Err bad) why reads g e = by-cause deeds (BadFile key bad) why e (inl (record { bytes = bytes; got = g; unread = reads bad refl }))

pub cause-snapshot : (deeds : List Deed) (id : Id12) (reply : Reply) (why : Refusal) → Fits (Get (Snapshot id)) reply → snapshot_told id reply ≡ Err why → Cause (with-deed deeds From (Get (Snapshot id)) reply) why
cause-snapshot deeds id (R.Got (Found bytes version now)) why f e = cause-bad (with-deed deeds From (Get (Snapshot id)) (R.Got (Found bytes version now))) (Snapshot id) bytes (read_snapshot id bytes) why (λ bad x. x) (got-now deeds From (Snapshot id) bytes version now) e
cause-snapshot deeds id (R.Got (Absent now)) why f e = by-cause (with-deed deeds From (Get (Snapshot id)) (R.Got (Absent now))) (Missing (Snapshot id)) why e (missed deeds From (Snapshot id) now tt)
cause-snapshot deeds id (R.Failed x) why f e = failed deeds From (Get (Snapshot id)) x why e
cause-snapshot deeds id (R.New x) why f e = absurd f
cause-snapshot deeds id (R.Over x) why f e = absurd f
cause-snapshot deeds id (R.Gone x) why f e = absurd f
cause-snapshot deeds id (R.GoneAt x) why f e = absurd f
cause-snapshot deeds id (R.Listed x) why f e = absurd f

-- a snapshot that was told was read
pub parent-told : (deeds : List Deed) (id : Id12) (reply : Reply) (s : SnapshotFile) → Fits (Get (Snapshot id)) reply → snapshot_told id reply ≡ Ok s → HasParent (with-deed deeds From (Get (Snapshot id)) reply) id s.parent
parent-told deeds id (R.Got (Found bytes version now)) s f e = record { bytes = bytes; got = got-now deeds From (Snapshot id) bytes version now; snap = s; read = rw (key-ok (Snapshot id) (read_snapshot id bytes) s e) refl; is = refl }
parent-told deeds id (R.Got (Absent now)) s f e = absurd (err-ok s (Missing (Snapshot id)) e)
parent-told deeds id (R.Failed x) s f e = absurd (err-ok s StoreFault e)
parent-told deeds id (R.New x) s f e = absurd f
parent-told deeds id (R.Over x) s f e = absurd f
parent-told deeds id (R.Gone x) s f e = absurd f
parent-told deeds id (R.GoneAt x) s f e = absurd f
parent-told deeds id (R.Listed x) s f e = absurd f

-- ---- refs
there-bad : (deeds : List Deed) (side : Side) (key : Key) (bytes : List ℕ) (version : Version) (r : Result Id12 Bad) (why : Refusal) → IsRef key → ((bad : Bad) → r ≡ Err bad → ReadsBad key bytes bad) → HasGot deeds side key bytes → if_there (resolved_at version (at_key key r)) ≡ Err why → Cause deeds why
there-bad deeds side key bytes version (Ok id) why is reads g e = absurd (ok-err {A = Option Resolved} (Some (record { id = id; version = version })) why e)
there-bad deeds From key bytes version (Err bad) why is reads g e = by-cause deeds (BadFile key bad) why e (inl (record { bytes = bytes; got = g; unread = reads bad refl }))
there-bad deeds To key bytes version (Err bad) why is reads g e = by-cause deeds (BadFile key bad) why e (inr (is, record { bytes = bytes; got = g; unread = reads bad refl }))

reads-ref : (key : Key) (bytes : List ℕ) → IsRef key → (bad : Bad) → read_ref bytes ≡ Err bad → ReadsBad key bytes bad
reads-ref (Branch name) bytes is bad e = e
reads-ref (Tag name) bytes is bad e = e
reads-ref _ bytes is bad e = cc

pub cause-ref : (deeds : List Deed) (side : Side) (key : Key) (reply : Reply) (why : Refusal) → IsRef key → Fits (Get key) reply → ref_told side key reply ≡ Err why → Cause (with-deed deeds side (Get key) reply) why
cause-ref deeds side key (R.Got (Found bytes version now)) why is f e = there-bad (with-deed deeds side (Get key) (R.Got (Found bytes version now))) side key bytes version (read_ref bytes) why is (reads-ref key bytes is) (got-now deeds side key bytes version now) e
cause-ref deeds side key (R.Got (Absent now)) why is f e = absurd (ok-err None why e)
cause-ref deeds side key (R.Failed x) why is f e = failed deeds side (Get key) x why e
cause-ref deeds side key (R.New x) why is f e = absurd f
cause-ref deeds side key (R.Over x) why is f e = absurd f
cause-ref deeds side key (R.Gone x) why is f e = absurd f
cause-ref deeds side key (R.GoneAt x) why is f e = absurd f
cause-ref deeds side key (R.Listed x) why is f e = absurd f

abbrev named-ok : Resolved → Result Id12 Bad
named-ok x = Ok x.id

there-some : (key : Key) (version : Version) (r : Result Id12 Bad) (named : Resolved) → if_there (resolved_at version (at_key key r)) ≡ Ok (Some named) → (r ≡ Ok named.id) × (version ≡ named.version)
there-some key version (Ok id) named e =
    let same : ◌≡◌ {A = Resolved} (record { id = id; version = version }) named = cc in
    (ap named-ok same, ap (λ (x : Resolved). x.version) same)
there-some key version (Err bad) named e = absurd (err-ok (Some named) (BadFile key bad) e)

there-none : (key : Key) (version : Version) (r : Result Id12 Bad) → if_there (resolved_at version (at_key key r)) ≡ Ok None → ⊥
there-none key version (Ok id) e = cc
there-none key version (Err bad) e = err-ok None (BadFile key bad) e

-- the ref named this snapshot
pub ref-got : (deeds : List Deed) (side : Side) (key : Key) (reply : Reply) (named : Resolved) → Fits (Get key) reply → ref_told side key reply ≡ Ok (Some named) → HasRef (with-deed deeds side (Get key) reply) side key named.version named.id
ref-got deeds side key (R.Got (Found bytes version now)) named f e =
    let p = there-some key version (read_ref bytes) named e in
    subst (λ (v : Version). HasRef (with-deed deeds side (Get key) (R.Got (Found bytes version now))) side key v named.id) p.1 (record { bytes = bytes; now = now; did = did-now deeds side (Get key) (R.Got (Found bytes version now)); names = rw p.0 refl })
ref-got deeds side key (R.Got (Absent now)) named f e = absurd (cc)
ref-got deeds side key (R.Failed x) named f e = absurd (err-ok (Some named) (fault_of side) e)
ref-got deeds side key (R.New x) named f e = absurd f
ref-got deeds side key (R.Over x) named f e = absurd f
ref-got deeds side key (R.Gone x) named f e = absurd f
ref-got deeds side key (R.GoneAt x) named f e = absurd f
ref-got deeds side key (R.Listed x) named f e = absurd f

-- the ref was absent
pub ref-missed : (deeds : List Deed) (side : Side) (key : Key) (reply : Reply) → Fits (Get key) reply → ref_told side key reply ≡ Ok None → HasMissed (with-deed deeds side (Get key) reply) side key
ref-missed deeds side key (R.Got (Found bytes version now)) f e = absurd (there-none key version (read_ref bytes) e)
ref-missed deeds side key (R.Got (Absent now)) f e = record { now = now; did = did-now deeds side (Get key) (R.Got (Absent now)) }
ref-missed deeds side key (R.Failed x) f e = absurd (err-ok None (fault_of side) e)
ref-missed deeds side key (R.New x) f e = absurd f
ref-missed deeds side key (R.Over x) f e = absurd f
ref-missed deeds side key (R.Gone x) f e = absurd f
ref-missed deeds side key (R.GoneAt x) f e = absurd f
ref-missed deeds side key (R.Listed x) f e = absurd f

-- ---- tombstones
pub cause-buried : (deeds : List Deed) (key : Key) (reply : Reply) (why : Refusal) → Fits (Get key) reply → buried_told reply ≡ Err why → Cause (with-deed deeds To (Get key) reply) why
cause-buried deeds key (R.Got (Found bytes version now)) why f e = absurd (ok-err true why e)
cause-buried deeds key (R.Got (Absent now)) why f e = absurd (ok-err false why e)
cause-buried deeds key (R.Failed x) why f e = failed deeds To (Get key) x why e
cause-buried deeds key (R.New x) why f e = absurd f
cause-buried deeds key (R.Over x) why f e = absurd f
cause-buried deeds key (R.Gone x) why f e = absurd f
cause-buried deeds key (R.GoneAt x) why f e = absurd f
cause-buried deeds key (R.Listed x) why f e = absurd f

pub buried-got : (deeds : List Deed) (key : Key) (reply : Reply) → Fits (Get key) reply → buried_told reply ≡ Ok true → (bytes : List ℕ) × HasGot (with-deed deeds To (Get key) reply) To key bytes
buried-got deeds key (R.Got (Found bytes version now)) f e = (bytes, got-now deeds To key bytes version now)
buried-got deeds key (R.Got (Absent now)) f e = absurd (cc)
buried-got deeds key (R.Failed x) f e = absurd (err-ok true TargetFault e)
buried-got deeds key (R.New x) f e = absurd f
buried-got deeds key (R.Over x) f e = absurd f
buried-got deeds key (R.Gone x) f e = absurd f
buried-got deeds key (R.GoneAt x) f e = absurd f
buried-got deeds key (R.Listed x) f e = absurd f

pub buried-missed : (deeds : List Deed) (key : Key) (reply : Reply) → Fits (Get key) reply → buried_told reply ≡ Ok false → HasMissed (with-deed deeds To (Get key) reply) To key
buried-missed deeds key (R.Got (Found bytes version now)) f e = absurd (cc)
buried-missed deeds key (R.Got (Absent now)) f e = record { now = now; did = did-now deeds To (Get key) (R.Got (Absent now)) }
buried-missed deeds key (R.Failed x) f e = absurd (err-ok false TargetFault e)
buried-missed deeds key (R.New x) f e = absurd f
buried-missed deeds key (R.Over x) f e = absurd f
buried-missed deeds key (R.Gone x) f e = absurd f
buried-missed deeds key (R.GoneAt x) f e = absurd f
buried-missed deeds key (R.Listed x) f e = absurd f

-- ---- listings
pub cause-listed : (deeds : List Deed) (part : Part) (reply : Reply) (why : Refusal) → Fits (ListPart part) reply → listed_told reply ≡ Err why → Cause (with-deed deeds From (ListPart part) reply) why
cause-listed deeds part (R.Listed x) why f e = absurd (ok-err x why e)
cause-listed deeds part (R.Failed x) why f e = failed deeds From (ListPart part) x why e
cause-listed deeds part (R.Got x) why f e = absurd f
cause-listed deeds part (R.New x) why f e = absurd f
cause-listed deeds part (R.Over x) why f e = absurd f
cause-listed deeds part (R.Gone x) why f e = absurd f
cause-listed deeds part (R.GoneAt x) why f e = absurd f

pub listed-now : (deeds : List Deed) (part : Part) (reply : Reply) (l : Listed) → Fits (ListPart part) reply → listed_told reply ≡ Ok l → Did (with-deed deeds From (ListPart part) reply) From (ListPart part) (R.Listed l)
listed-now deeds part (R.Listed x) l f e = subst (λ (y : Listed). Did (with-deed deeds From (ListPart part) (R.Listed x)) From (ListPart part) (R.Listed y)) (ok-is x l e) (did-now deeds From (ListPart part) (R.Listed x))
listed-now deeds part (R.Failed x) l f e = absurd (err-ok l StoreFault e)
listed-now deeds part (R.Got x) l f e = absurd f
listed-now deeds part (R.New x) l f e = absurd f
listed-now deeds part (R.Over x) l f e = absurd f
listed-now deeds part (R.Gone x) l f e = absurd f
listed-now deeds part (R.GoneAt x) l f e = absurd f

-- ---- puts
pub cause-put : (deeds : List Deed) (key : Key) (bytes : List ℕ) (w : Why) (reply : Reply) (why : Refusal) → Fits (PutNew key bytes w) reply → put_told reply ≡ Err why → Cause (with-deed deeds To (PutNew key bytes w) reply) why
cause-put deeds key bytes w (R.New (New_done version now)) why f e = absurd (ok-err true why e)
cause-put deeds key bytes w (R.New (Present version now)) why f e = absurd (ok-err false why e)
cause-put deeds key bytes w (R.Failed x) why f e = failed deeds To (PutNew key bytes w) x why e
cause-put deeds key bytes w (R.Got x) why f e = absurd f
cause-put deeds key bytes w (R.Over x) why f e = absurd f
cause-put deeds key bytes w (R.Gone x) why f e = absurd f
cause-put deeds key bytes w (R.GoneAt x) why f e = absurd f
cause-put deeds key bytes w (R.Listed x) why f e = absurd f

pub cause-made : (deeds : List Deed) (key : Key) (bytes : List ℕ) (w : Why) (reply : Reply) (why : Refusal) → IsRef key → Fits (PutNew key bytes w) reply → made_told reply ≡ Err why → Cause (with-deed deeds To (PutNew key bytes w) reply) why
cause-made deeds key bytes w (R.New (New_done version now)) why is f e = absurd (ok-err tt why e)
cause-made deeds key bytes w (R.New (Present version now)) why is f e = by-cause (with-deed deeds To (PutNew key bytes w) (R.New (Present version now))) (RefExists version) why e (key, is, bytes, w, now, did-now deeds To (PutNew key bytes w) (R.New (Present version now)))
cause-made deeds key bytes w (R.Failed x) why is f e = failed deeds To (PutNew key bytes w) x why e
cause-made deeds key bytes w (R.Got x) why is f e = absurd f
cause-made deeds key bytes w (R.Over x) why is f e = absurd f
cause-made deeds key bytes w (R.Gone x) why is f e = absurd f
cause-made deeds key bytes w (R.GoneAt x) why is f e = absurd f
cause-made deeds key bytes w (R.Listed x) why is f e = absurd f

pub made-now : (deeds : List Deed) (key : Key) (bytes : List ℕ) (w : Why) (reply : Reply) (x : Unit {0}) → Fits (PutNew key bytes w) reply → made_told reply ≡ Ok x → HasPut (with-deed deeds To (PutNew key bytes w) reply) key bytes
made-now deeds key bytes w (R.New (New_done version now)) x f e = record { why = w; version = version; now = now; did = did-now deeds To (PutNew key bytes w) (R.New (New_done version now)) }
made-now deeds key bytes w (R.New (Present version now)) x f e = absurd (err-ok x (RefExists version) e)
made-now deeds key bytes w (R.Failed y) x f e = absurd (err-ok x TargetFault e)
made-now deeds key bytes w (R.Got y) x f e = absurd f
made-now deeds key bytes w (R.Over y) x f e = absurd f
made-now deeds key bytes w (R.Gone y) x f e = absurd f
made-now deeds key bytes w (R.GoneAt y) x f e = absurd f
made-now deeds key bytes w (R.Listed y) x f e = absurd f

pub cause-moved : (deeds : List Deed) (key : Key) (bytes : List ℕ) (old : Version) (reply : Reply) (why : Refusal) → IsRef key → Fits (PutOver key bytes old Reset) reply → moved_told reply ≡ Err why → Cause (with-deed deeds To (PutOver key bytes old Reset) reply) why
cause-moved deeds key bytes old (R.Over (Over_done version now)) why is f e = absurd (ok-err tt why e)
cause-moved deeds key bytes old (R.Over (Over_moved there now)) why is f e = by-cause (with-deed deeds To (PutOver key bytes old Reset) (R.Over (Over_moved there now))) (Has_moved there) why e (key, is, bytes, old, now, did-now deeds To (PutOver key bytes old Reset) (R.Over (Over_moved there now)))
cause-moved deeds key bytes old (R.Failed x) why is f e = failed deeds To (PutOver key bytes old Reset) x why e
cause-moved deeds key bytes old (R.Got x) why is f e = absurd f
cause-moved deeds key bytes old (R.New x) why is f e = absurd f
cause-moved deeds key bytes old (R.Gone x) why is f e = absurd f
cause-moved deeds key bytes old (R.GoneAt x) why is f e = absurd f
cause-moved deeds key bytes old (R.Listed x) why is f e = absurd f

pub moved-now : (deeds : List Deed) (key : Key) (id : Id12) (bytes : List ℕ) (old : Version) (reply : Reply) (x : Unit {0}) → Fits (PutOver key bytes old Reset) reply → moved_told reply ≡ Ok x → (version : Version) × (now : ℕ) × Did (with-deed deeds To (PutOver key bytes old Reset) reply) To (PutOver key bytes old Reset) (R.Over (Over_done version now))
moved-now deeds key id bytes old (R.Over (Over_done version now)) x f e = (version, now, did-now deeds To (PutOver key bytes old Reset) (R.Over (Over_done version now)))
moved-now deeds key id bytes old (R.Over (Over_moved there now)) x f e = absurd (err-ok x (Has_moved there) e)
moved-now deeds key id bytes old (R.Failed y) x f e = absurd (err-ok x TargetFault e)
moved-now deeds key id bytes old (R.Got y) x f e = absurd f
moved-now deeds key id bytes old (R.New y) x f e = absurd f
moved-now deeds key id bytes old (R.Gone y) x f e = absurd f
moved-now deeds key id bytes old (R.GoneAt y) x f e = absurd f
moved-now deeds key id bytes old (R.Listed y) x f e = absurd f

-- ---- which refs were put
pub object-no-ref : (key : Key) → IsObject key → is_ref key ≡ false
object-no-ref (Snapshot id) o = refl
object-no-ref (Manifest id) o = refl
object-no-ref (Txn id) o = refl
object-no-ref (Chunk id) o = refl
object-no-ref (Branch name) o = absurd o
object-no-ref (Tag name) o = absurd o
object-no-ref (Tombstone name) o = absurd o
object-no-ref (Lease id) o = absurd o

-- this ref was put
abbrev pub a-put : Key → List ℕ → List PutRef
a-put key bytes = record { key = key; bytes = bytes } ∷ []

pub made-none : (key : Key) (bytes : List ℕ) (w : Why) (reply : Reply) (why : Refusal) → made_told reply ≡ Err why → put_by (PutNew key bytes w) reply ≡ []
made-none key bytes w (R.New (New_done version now)) why e = absurd (ok-err tt why e)
made-none key bytes w (R.New (Present version now)) why e = refl
made-none key bytes w (R.Failed x) why e = refl
made-none key bytes w (R.Got x) why e = refl
made-none key bytes w (R.Over x) why e = refl
made-none key bytes w (R.Gone x) why e = refl
made-none key bytes w (R.GoneAt x) why e = refl
made-none key bytes w (R.Listed x) why e = refl

pub made-put : (key : Key) (bytes : List ℕ) (w : Why) (reply : Reply) (x : Unit {0}) → is_ref key ≡ true → Fits (PutNew key bytes w) reply → made_told reply ≡ Ok x → put_by (PutNew key bytes w) reply ≡ a-put key bytes
made-put key bytes w (R.New (New_done version now)) x is f e = ap (λ (b : Bool). put_if b (record { key = key; bytes = bytes })) is
made-put key bytes w (R.New (Present version now)) x is f e = absurd (err-ok x (RefExists version) e)
made-put key bytes w (R.Failed y) x is f e = absurd (err-ok x TargetFault e)
made-put key bytes w (R.Got y) x is f e = absurd f
made-put key bytes w (R.Over y) x is f e = absurd f
made-put key bytes w (R.Gone y) x is f e = absurd f
made-put key bytes w (R.GoneAt y) x is f e = absurd f
made-put key bytes w (R.Listed y) x is f e = absurd f

pub moved-none : (key : Key) (bytes : List ℕ) (old : Version) (reply : Reply) (why : Refusal) → moved_told reply ≡ Err why → put_by (PutOver key bytes old Reset) reply ≡ []
moved-none key bytes old (R.Over (Over_done version now)) why e = absurd (ok-err tt why e)
moved-none key bytes old (R.Over (Over_moved there now)) why e = refl
moved-none key bytes old (R.Failed x) why e = refl
moved-none key bytes old (R.Got x) why e = refl
moved-none key bytes old (R.New x) why e = refl
moved-none key bytes old (R.Gone x) why e = refl
moved-none key bytes old (R.GoneAt x) why e = refl
moved-none key bytes old (R.Listed x) why e = refl

pub moved-put : (key : Key) (bytes : List ℕ) (old : Version) (reply : Reply) (x : Unit {0}) → is_ref key ≡ true → Fits (PutOver key bytes old Reset) reply → moved_told reply ≡ Ok x → put_by (PutOver key bytes old Reset) reply ≡ a-put key bytes
moved-put key bytes old (R.Over (Over_done version now)) x is f e = ap (λ (b : Bool). put_if b (record { key = key; bytes = bytes })) is
moved-put key bytes old (R.Over (Over_moved there now)) x is f e = absurd (err-ok x (Has_moved there) e)
moved-put key bytes old (R.Failed y) x is f e = absurd (err-ok x TargetFault e)
moved-put key bytes old (R.Got y) x is f e = absurd f
moved-put key bytes old (R.New y) x is f e = absurd f
moved-put key bytes old (R.Gone y) x is f e = absurd f
moved-put key bytes old (R.GoneAt y) x is f e = absurd f
moved-put key bytes old (R.Listed y) x is f e = absurd f

-- Where visits lead.
use Rattle.std.proofs.Common.{◌≡◌, inl, inr, ℕ, zero, suc, Bool, true, false, cond, List, [], ◌∷◌, ◌++◌, refl, sym, ap, subst}
use Rattle.std.specs.Prelude.{Option, Some, None, Result, Ok, Err, Contains, slice_get}
use Rattle.std.proofs.lemmas.List.Elements.{Contains-append_left, Contains-append_right, Contains-append_cases}
use Rattle.ice_ids.specs.declared.Id12.{Id12}
use Rattle.ice_ids.specs.Text.{same_id12, initial_id}
use Rattle.snapshot_file.specs.declared.snapshot.SnapshotFile.{SnapshotFile}
use Rattle.manifest_file.specs.declared.manifest.ManifestFile.{ManifestFile}
use Rattle.object_store.specs.declared.keys.Key.{Key}
use Rattle.object_store.specs.declared.keys.Part.{Part as Part_of_store}
use Rattle.object_store.specs.declared.events.Got.{Got}
use Rattle.object_store.specs.declared.events.Listed.{Listed}
use Rattle.object_store.specs.declared.events.Reply.{Reply}
use Rattle.object_store.specs.declared.events.Reply.TheVariants.{Got as Is_got, New as Is_new, Over as Is_over, Gone as Is_gone, GoneAt as Is_gone_at, Listed as Is_listed, Failed}
use Rattle.check_reports.specs.declared.faults.FaultKind.{FaultKind}
use Rattle.live_refs.specs.Live.{live}
use Rattle.intact.specs.declared.visits.FileVisit.{FileVisit}
use Rattle.intact.specs.declared.visits.PartVisit.{PartVisit}
use Rattle.intact.specs.Rows.{files_of}
use Rattle.intact.specs.Parts.{parts_of}
use Rattle.intact.specs.Told.{found_ref, found_snapshot, found_log, found_manifest, found_part}
use Rattle.intact.specs.Visits.{Visit, Refs, Ref, Snap, Log, File, Part, leads, leading, nowhere, or_nowhere, behind_ref, its_log, its_files, its_parent, behind_snapshot, behind_manifest}
use Rattle.ice_ids.proofs.Elements.{first-is, later-is, first-or-later, none-in}
use Rattle.check_calls.proofs.Lists.{from-map, has-map}

-- ---- from listings to refs
pub record LeadsToRef (part : Part_of_store) (reply : Reply) (w : Visit) : Type 0 where
  pub listed : Listed
  pub reply_is : reply ≡ Is_listed listed
  pub key : Key
  pub among : Contains (live listed.entries) key
  pub is : w ≡ Ref key

pub from-refs : (part : Part_of_store) (reply : Reply) (w : Visit) → Contains (leads (Refs part) reply) w → LeadsToRef part reply w
from-refs part (Is_listed l) w c = let m = from-map (λ (key : Key). Ref key) (live l.entries) w c in record { listed = l; reply_is = refl; key = m.one; among = m.among; is = sym m.is }
from-refs part (Is_got g) w c = absurd (none-in w c)
from-refs part (Is_new g) w c = absurd (none-in w c)
from-refs part (Is_over g) w c = absurd (none-in w c)
from-refs part (Is_gone g) w c = absurd (none-in w c)
from-refs part (Is_gone_at g) w c = absurd (none-in w c)
from-refs part (Failed d) w c = absurd (none-in w c)

-- ---- from refs to snapshots
pub record LeadsToSnap (reply : Reply) (w : Visit) : Type 0 where
  pub got : Got
  pub reply_is : reply ≡ Is_got got
  pub id : Id12
  pub found : found_ref got ≡ Ok (Some id)
  pub is : w ≡ Snap id

pub from-ref : (key : Key) (reply : Reply) (w : Visit) → Contains (leads (Ref key) reply) w → LeadsToSnap reply w
from-ref key (Is_got g) w c = by (found_ref g) refl c
  where
    by : (r : Result (Option Id12) FaultKind) → found_ref g ≡ r → Contains (or_nowhere (leading behind_ref r)) w → LeadsToSnap (Is_got g) w
    by (Ok None) e k = absurd (none-in w k)
    by (Ok (Some id)) e k = elim (first-or-later (Snap id) w [] k) [ inl s ↦ record { got = g; reply_is = refl; id = id; found = e; is = sym s } | inr n ↦ absurd (none-in w n) ]
    by (Err kind) e k = absurd (none-in w k)
from-ref key (Is_listed l) w c = absurd (none-in w c)
from-ref key (Is_new g) w c = absurd (none-in w c)
from-ref key (Is_over g) w c = absurd (none-in w c)
from-ref key (Is_gone g) w c = absurd (none-in w c)
from-ref key (Is_gone_at g) w c = absurd (none-in w c)
from-ref key (Failed d) w c = absurd (none-in w c)

-- ---- from snapshots
pub record LeadsBehind (id : Id12) (reply : Reply) (w : Visit) : Type 0 where
  pub got : Got
  pub reply_is : reply ≡ Is_got got
  pub snap : SnapshotFile
  pub found : found_snapshot id got ≡ Ok snap
  pub among : Contains (behind_snapshot id snap) w

pub from-snap : (id : Id12) (reply : Reply) (w : Visit) → Contains (leads (Snap id) reply) w → LeadsBehind id reply w
from-snap id (Is_got g) w c = by (found_snapshot id g) refl c
  where
    by : (r : Result SnapshotFile FaultKind) → found_snapshot id g ≡ r → Contains (or_nowhere (leading (behind_snapshot id) r)) w → LeadsBehind id (Is_got g) w
    by (Ok snap) e k = record { got = g; reply_is = refl; snap = snap; found = e; among = k }
    by (Err kind) e k = absurd (none-in w k)
from-snap id (Is_listed l) w c = absurd (none-in w c)
from-snap id (Is_new g) w c = absurd (none-in w c)
from-snap id (Is_over g) w c = absurd (none-in w c)
from-snap id (Is_gone g) w c = absurd (none-in w c)
from-snap id (Is_gone_at g) w c = absurd (none-in w c)
from-snap id (Failed d) w c = absurd (none-in w c)

-- to its log, to manifests, or to its parent
pub data Behind (id : Id12) (snap : SnapshotFile) (w : Visit) : Type 0 where
  to_log : same_id12 id initial_id ≡ false → w ≡ Log id → Behind id snap w
  to_file : (f : FileVisit) → Contains (files_of snap.nodes) f → w ≡ File f → Behind id snap w
  to_parent : (parent : Id12) → snap.parent ≡ Some parent → w ≡ Snap parent → Behind id snap w

pub behind-cases : (id : Id12) (snap : SnapshotFile) (w : Visit) → Contains (behind_snapshot id snap) w → Behind id snap w
behind-cases id snap w c = elim (Contains-append_cases (its_log id) (its_files snap ++ its_parent snap.parent) w c) [
  | inl a ↦ by_log (same_id12 id initial_id) refl a
  | inr b ↦ elim (Contains-append_cases (its_files snap) (its_parent snap.parent) w b) [
    | inl f ↦ (let m = from-map (λ (x : FileVisit). File x) (files_of snap.nodes) w f in to_file m.one m.among (sym m.is))
    | inr p ↦ by_parent snap.parent refl p
  ]
]
  where
    by_log : (b : Bool) → same_id12 id initial_id ≡ b → Contains (cond b [] (Log id ∷ [])) w → Behind id snap w
    by_log true e k = absurd (none-in w k)
    by_log false e k = elim (first-or-later (Log id) w [] k) [ inl s ↦ to_log e (sym s) | inr n ↦ absurd (none-in w n) ]

    by_parent : (o : Option Id12) → snap.parent ≡ o → Contains (its_parent o) w → Behind id snap w
    by_parent None e k = absurd (none-in w k)
    by_parent (Some parent) e k = elim (first-or-later (Snap parent) w [] k) [ inl s ↦ to_parent parent e (sym s) | inr n ↦ absurd (none-in w n) ]

pub has-log : (id : Id12) (snap : SnapshotFile) → same_id12 id initial_id ≡ false → Contains (behind_snapshot id snap) (Log id)
has-log id snap e = Contains-append_left (its_log id) (its_files snap ++ its_parent snap.parent) (Log id) (by (same_id12 id initial_id) e)
  where
    by : (b : Bool) → b ≡ false → Contains (cond b [] (Log id ∷ [])) (Log id)
    by true e = absurd cc
    by false e = first-is (Log id) []

pub has-file : (id : Id12) (snap : SnapshotFile) (f : FileVisit) → Contains (files_of snap.nodes) f → Contains (behind_snapshot id snap) (File f)
has-file id snap f c = Contains-append_right (its_log id) (its_files snap ++ its_parent snap.parent) (File f) (Contains-append_left (its_files snap) (its_parent snap.parent) (File f) (has-map (λ (x : FileVisit). File x) (files_of snap.nodes) f c))

pub has-parent : (id : Id12) (snap : SnapshotFile) (parent : Id12) → snap.parent ≡ Some parent → Contains (behind_snapshot id snap) (Snap parent)
has-parent id snap parent e =
    Contains-append_right (its_log id) (its_files snap ++ its_parent snap.parent) (Snap parent)
    (Contains-append_right (its_files snap) (its_parent snap.parent) (Snap parent) (subst (λ (o : Option Id12). Contains (its_parent o) (Snap parent)) (sym e) (first-is (Snap parent) [])))

-- ---- from manifests to parts
pub record LeadsToPart (f : FileVisit) (reply : Reply) (w : Visit) : Type 0 where
  pub got : Got
  pub reply_is : reply ≡ Is_got got
  pub file : ManifestFile
  pub found : found_manifest f got ≡ Ok file
  pub part : PartVisit
  pub among : Contains (parts_of f file) part
  pub is : w ≡ Part part

pub from-file : (f : FileVisit) (reply : Reply) (w : Visit) → Contains (leads (File f) reply) w → LeadsToPart f reply w
from-file f (Is_got g) w c = by (found_manifest f g) refl c
  where
    by : (r : Result ManifestFile FaultKind) → found_manifest f g ≡ r → Contains (or_nowhere (leading (behind_manifest f) r)) w → LeadsToPart f (Is_got g) w
    by (Ok file) e k = let m = from-map (λ (x : PartVisit). Part x) (parts_of f file) w k in record { got = g; reply_is = refl; file = file; found = e; part = m.one; among = m.among; is = sym m.is }
    by (Err kind) e k = absurd (none-in w k)
from-file f (Is_listed l) w c = absurd (none-in w c)
from-file f (Is_new g) w c = absurd (none-in w c)
from-file f (Is_over g) w c = absurd (none-in w c)
from-file f (Is_gone g) w c = absurd (none-in w c)
from-file f (Is_gone_at g) w c = absurd (none-in w c)
from-file f (Failed d) w c = absurd (none-in w c)

pub has-part : (f : FileVisit) (file : ManifestFile) (p : PartVisit) → Contains (parts_of f file) p → Contains (behind_manifest f file) (Part p)
has-part f file p c = has-map (λ (x : PartVisit). Part x) (parts_of f file) p c

-- ---- logs and parts lead nowhere
nowhere-leads : (r : Result (Unit {0}) FaultKind) (w : Visit) → Contains (or_nowhere (leading nowhere r)) w → ⊥
nowhere-leads (Ok x) w c = none-in w c
nowhere-leads (Err kind) w c = none-in w c

pub from-log : (id : Id12) (reply : Reply) (w : Visit) → Contains (leads (Log id) reply) w → ⊥
from-log id (Is_got g) w c = nowhere-leads (found_log id g) w c
from-log id (Is_listed l) w c = none-in w c
from-log id (Is_new g) w c = none-in w c
from-log id (Is_over g) w c = none-in w c
from-log id (Is_gone g) w c = none-in w c
from-log id (Is_gone_at g) w c = none-in w c
from-log id (Failed d) w c = none-in w c

pub from-part : (p : PartVisit) (reply : Reply) (w : Visit) → Contains (leads (Part p) reply) w → ⊥
from-part p (Is_got g) w c = nowhere-leads (found_part p g) w c
from-part p (Is_listed l) w c = none-in w c
from-part p (Is_new g) w c = none-in w c
from-part p (Is_over g) w c = none-in w c
from-part p (Is_gone g) w c = none-in w c
from-part p (Is_gone_at g) w c = none-in w c
from-part p (Failed d) w c = none-in w c

-- ---- places in lists
pub at-place : {A : Type 0} (xs : List A) (k : ℕ) (x : A) → slice_get xs k ≡ Some x → Contains xs x
at-place [] k x e = absurd cc
at-place (y ∷ ys) zero x e = let same : y ≡ x = cc in subst (λ z. Contains (y ∷ ys) z) same (first-is y ys)
at-place (y ∷ ys) (suc k) x e = later-is y x ys (at-place ys k x e)

pub record PlaceOf {A : Type 0} (xs : List A) (x : A) : Type 0 where
  pub place : ℕ
  pub here : slice_get xs place ≡ Some x

pub place-of : {A : Type 0} (xs : List A) (x : A) → Contains xs x → PlaceOf xs x
place-of [] x c = absurd (none-in x c)
place-of (y ∷ ys) x c = elim (first-or-later y x ys c) [
  | inl e ↦ record { place = 0; here = ap (λ z. Some z) e }
  | inr l ↦ let p = place-of ys x l in record { place = suc p.place; here = p.here }
]

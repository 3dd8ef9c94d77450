-- What the lists of a commit say of the journal stays so, and what one more list comes to.
use Rattle.std.proofs.Common.{◌≡◌, ℕ, List, [], ◌∷◌, ◌++◌, refl, sym, ◌∙◌, ap, subst, append_assoc}
use Rattle.std.specs.Prelude.{Option, Some, None}
use Rattle.ice_ids.specs.declared.Id12.{Id12}
use Rattle.ice_ids.specs.declared.drawing.AnyIds.{AnyIds}
use Rattle.manifest_file.specs.declared.manifest.ArrayRefs.{ArrayRefs}
use Rattle.manifest_file.specs.Layout.{file_bytes}
use Rattle.held_manifest.specs.LookUp.{Listed}
use Rattle.snapshot_file.specs.declared.nodes.ManifestRef.{ManifestRef}
use Rattle.zarr_changes.specs.declared.chunks.ChangedArray.{ChangedArray}
use Rattle.changed_snapshot.specs.declared.new_snapshot.NewManifest.{NewManifest}
use Rattle.changed_snapshot.specs.declared.new_snapshot.NewList.{NewList}
use Rattle.changed_snapshot.specs.Rows.{own_manifests}
use Rattle.object_store.specs.declared.keys.Key.{Key}
use Rattle.object_store.specs.declared.keys.Key.TheVariants.{Manifest}
use Rattle.object_store.specs.declared.keys.Why.TheVariants.{Set}
use Rattle.object_store.specs.declared.events.Op.{Op}
use Rattle.object_store.specs.declared.events.Op.TheVariants.{PutNew}
use Rattle.object_store.specs.declared.events.New.TheVariants.{Done as New_done}
use Rattle.object_store.specs.declared.events.Reply.{Reply}
use Rattle.object_store.specs.declared.events.Reply.TheVariants.{New as Is_new}
use Rattle.object_store.specs.declared.events.Event.{Event}
use Rattle.store_api.specs.Callers.{Caller, Makes, own_event}
use Rattle.store_api.proofs.Happening.{HasOwn-append, WasGot-append}
use Rattle.session.specs.Sessions.{SessionState}
use Rattle.commit_path.specs.Committing.{manifest_for}
use Rattle.reach.specs.Own.{PutsItself, PutItself}
use Rattle.commit_path.specs.Answered.{WasRead, WereRead, IsManifestOf, IsListed, ids_past, ids_behind, IsNext, AreInTurn, WereListed, WereWritten}
use Rattle.commit_path.proofs.Rewriting.{zip-weaker}

-- ---- what stays so, whatever comes
pub more-makes : (P : List Event → Type 0) → ((journal more : List Event) → P journal → P (journal ++ more)) → (by : Caller) (op : Op) (reply : Reply) (old new : List Event) → Makes by op reply old new → P old → P new
more-makes P stays by op reply old new m p =
    let event : Event = own_event by op reply m.time in
    let is : new ≡ old ++ (m.waits.between ++ event ∷ []) = m.is ∙ (ap (λ (j : List Event). j ++ event ∷ []) m.waits.is ∙ append_assoc old m.waits.between (event ∷ [])) in
    subst P (sym is) (stays old (m.waits.between ++ event ∷ []) p)

pub PutsItself-append : (client : ℕ) (key : Key) (bytes : List ℕ) (start journal more : List Event) → PutsItself client key bytes start journal → PutsItself client key bytes start (journal ++ more)
PutsItself-append client key bytes start journal more p = record { version = p.version; now = p.now; own = HasOwn-append client (PutNew key bytes Set) (Is_new (New_done p.version p.now)) start journal more p.own }

pub PutItself-append : (client : ℕ) (key : Key) (start journal more : List Event) → PutItself client key start journal → PutItself client key start (journal ++ more)
PutItself-append client key start journal more p = record { bytes = p.bytes; put = PutsItself-append client key p.bytes start journal more p.put }

abbrev pub WasRead-append : (client : ℕ) (start journal more : List Event) (m : ManifestRef) (l : Listed) → WasRead client start journal m l → WasRead client start (journal ++ more) m l
WasRead-append client start journal more m l r = record { bytes = r.bytes; version = r.version; got = WasGot-append client (Manifest m.id) r.bytes r.version start journal more r.got; read = r.read; extents = r.extents }

pub WereRead-append : (client : ℕ) (manifests : List ManifestRef) (old : List Listed) (start journal more : List Event) → WereRead client manifests old start journal → WereRead client manifests old start (journal ++ more)
WereRead-append client manifests old start journal more = zip-weaker (WasRead client start journal) (WasRead client start (journal ++ more)) (WasRead-append client start journal more) manifests old

IsManifestOf-append : (client rank : ℕ) (o : Option ArrayRefs) (m : Option NewManifest) (start journal more : List Event) → IsManifestOf client rank o m start journal → IsManifestOf client rank o m start (journal ++ more)
IsManifestOf-append client rank None None start journal more p = p
IsManifestOf-append client rank None (Some m) start journal more p = absurd p
IsManifestOf-append client rank (Some array) None start journal more p = absurd p
IsManifestOf-append client rank (Some array) (Some m) start journal more p = (p.0, PutsItself-append client (Manifest m.id) (file_bytes (manifest_for m.id array)) start journal more p.1)

IsListed-append : (client : ℕ) (s : SessionState) (start journal more : List Event) (a : ChangedArray) (n : NewList) → IsListed client s start journal a n → IsListed client s start (journal ++ more) a n
IsListed-append client s start journal more a n l = record {
  path = l.path;
  old = l.old;
  read = WereRead-append client (own_manifests s.rows a.path a.node) l.old start journal more l.read;
  manifest = IsManifestOf-append client a.rank _ n.manifest start journal more l.manifest;
}

pub WereListed-append : (client : ℕ) (s : SessionState) (arrays : List ChangedArray) (news : List NewList) (start journal more : List Event) → WereListed client s arrays news start journal → WereListed client s arrays news start (journal ++ more)
WereListed-append client s arrays news start journal more w = record { lists = zip-weaker (IsListed client s start journal) (IsListed client s start (journal ++ more)) (IsListed-append client s start journal more) arrays news w.lists; turn = w.turn }

pub WereWritten-append : (client : ℕ) (s : SessionState) (news : List NewList) (id : Id12) (start journal more : List Event) → WereWritten client s news id start journal → WereWritten client s news id start (journal ++ more)
WereWritten-append client s news id start journal more w = record { listed = WereListed-append client s _ news start journal more w.listed; drawn = w.drawn }

-- ---- one more list
pub ids-push : (ids : AnyIds) (news : List NewList) (n : NewList) → ids_behind ids (news ++ n ∷ []) ≡ ids_past (ids_behind ids news) n.manifest
unfolding ids_behind
ids-push ids [] n = refl
ids-push ids (m ∷ ms) n = ids-push (ids_past ids m.manifest) ms n

pub turn-push : (ids : AnyIds) (news : List NewList) (n : NewList) → AreInTurn ids news → IsNext (ids_behind ids news) n.manifest → AreInTurn ids (news ++ n ∷ [])
unfolding ids_behind AreInTurn
turn-push ids [] n t next = (next, tt)
turn-push ids (m ∷ ms) n t next = (t.0, turn-push (ids_past ids m.manifest) ms n t.1 next)

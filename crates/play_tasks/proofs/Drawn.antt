-- The leases that lines show are under ids that their session drew.
use Rattle.std.proofs.Common.{◌≡◌, ◌∙◌, ℕ, ℤ, List, [], ◌∷◌, map, refl, sym, ap, subst}
use Rattle.std.specs.Prelude.{All, Option, Some, None, Result, Ok, Err}
use Rattle.std.proofs.lemmas.List.Elements.{All-nil, All-cons, All-head, All-tail}
use Rattle.ice_ids.specs.declared.Id12.{Id12}
use Rattle.ice_ids.specs.declared.drawing.AnyIds.{AnyIds}
use Rattle.ice_ids.specs.Drawing.{drawn12}
use Rattle.zarr_path.specs.declared.keys.ZarrKey.{ZarrKey}
use Rattle.zarr_path.specs.declared.keys.ZarrKey.TheVariants as zarr
use Rattle.zarr_path.specs.Keys.{key_of}
use Rattle.zarr_keys.specs.declared.values.KeyValue.{KeyValue}
use Rattle.zarr_keys.specs.declared.values.KeyValue.TheVariants.{Bytes, Absent}
use Rattle.zarr_keys.specs.Keys.{chunk_value, meta_put, meta_value}
use Rattle.object_store.specs.declared.events.Event.{Event}
use Rattle.store_api.specs.declared.machines.Refusal.{Refusal}
use Rattle.session.specs.declared.session.Listing.{Listing}
use Rattle.session.specs.declared.chunks.Value.{Value}
use Rattle.session.specs.declared.chunks.Value.TheVariants.{Bytes as Is_bytes, Fill}
use Rattle.session.specs.Sessions.{SessionState}
use Rattle.session.specs.Sources.{IsLater}
use Rattle.session.specs.Editing.{listed, prop_added, text_at}
use Rattle.script_calls.specs.declared.calls.Call.{Call}
use Rattle.script_calls.specs.declared.calls.Call.TheVariants as call
use Rattle.script_calls.specs.declared.calls.EditCall.{EditCall}
use Rattle.script_calls.specs.declared.calls.EditCall.TheVariants as edit
use Rattle.script_calls.specs.declared.calls.ReadCall.{ReadCall}
use Rattle.script_calls.specs.declared.calls.ReadCall.TheVariants as read
use Rattle.play_outcome.specs.declared.outcome.Shown.{Shown}
use Rattle.play_tasks.specs.Lines.{LineDeed, Goes, Sets, Reads, Puts, Gathers, Leases, Commits, deed, edit_deed, edits_to, key_get_deed, key_set_deed, key_shown, lease_shown, meta_shown, node_shown, nodes_shown, read_deed, silent, still, value_shown}
use Rattle.play_tasks.specs.Solving.{DidPlay}
use Rattle.play_tasks.specs.inside.Releasing.{lease_in}
use Rattle.play_tasks.proofs.Released.{IsDrawnLease}

-- ---- lines that show no lease
abbrev IsOther : Shown → Type 0
IsOther s = lease_in s ≡ None

abbrev AreOther : Result (List Shown × SessionState) Refusal → Type 0
AreOther (Ok went) = All IsOther went.0
AreOther (Err why) = Unit {0}

-- what a line shows that does this is no lease; or it is the lease of that line
abbrev ShowsWell : ℕ → LineDeed → Type 0
ShowsWell line (Goes went) = AreOther went
ShowsWell line (Sets path index bytes) = Unit {0}
ShowsWell line (Reads path index show) = (value : Value) → IsOther (show value)
ShowsWell line (Puts path from to numbers) = Unit {0}
ShowsWell line (Gathers path from to show) = (numbers : List ℤ) → IsOther (show numbers)
ShowsWell line (Leases show) = show ≡ lease_shown line
ShowsWell line (Commits message) = Unit {0}

one-other : (s : Shown) → IsOther s → All IsOther (s ∷ [])
one-other s o = All-cons IsOther s [] o (All-nil IsOther)

nodes-other : (line : ℕ) (nodes : List Listing) → All IsOther (map (node_shown line) nodes)
nodes-other line [] = All-nil IsOther
nodes-other line (n ∷ ns) = All-cons IsOther (node_shown line n) (map (node_shown line) ns) refl (nodes-other line ns)

value-other : (line : ℕ) (value : Value) → IsOther (value_shown line value)
value-other line (Is_bytes bytes) = refl
value-other line Fill = refl

key-other : (line : ℕ) (value : KeyValue) → IsOther (key_shown line value)
key-other line (Bytes bytes) = refl
key-other line Absent = refl

silent-other : (r : Result SessionState Refusal) → AreOther (silent r)
silent-other (Ok s) = All-nil IsOther
silent-other (Err why) = tt

still-other : (s : SessionState) (r : Result (List Shown) Refusal) → ((shown : List Shown) → r ≡ Ok shown → All IsOther shown) → AreOther (still s r)
still-other s (Ok shown) o = o shown refl
still-other s (Err why) o = tt

nodes-told : (line : ℕ) (r : Result (List Listing) Refusal) (shown : List Shown) → nodes_shown line r ≡ Ok shown → All IsOther shown
nodes-told line (Ok nodes) shown e = let is : map (node_shown line) nodes ≡ shown = cc in subst (All IsOther) is (nodes-other line nodes)
nodes-told line (Err why) shown e = absurd (cc)

meta-told : (line : ℕ) (r : Result (List ℕ) Refusal) (shown : List Shown) → meta_shown line r ≡ Ok shown → All IsOther shown
meta-told line (Ok text) [] e = absurd (cc)
meta-told line (Ok text) (s ∷ ss) e = subst (All IsOther) (told e) (one-other _ refl)
  where
    told : {a b : List Shown} → ◌≡◌ {A = Result (List Shown) Refusal} (Ok a) (Ok b) → a ≡ b
    told f = cc
meta-told line (Err why) shown e = absurd (cc)

key-set-well : (line : ℕ) (bytes : List ℕ) (o : Option ZarrKey) (s : SessionState) → ShowsWell line (key_set_deed bytes o s)
key-set-well line bytes None s = tt
key-set-well line bytes (Some (zarr.Meta path)) s = silent-other (meta_put s path bytes)
key-set-well line bytes (Some (zarr.Chunk path index)) s = tt

key-get-well : (line : ℕ) (o : Option ZarrKey) (s : SessionState) → ShowsWell line (key_get_deed line o s)
key-get-well line None s = tt
key-get-well line (Some (zarr.Meta path)) s = one-other (key_shown line (meta_value s path)) (key-other line (meta_value s path))
key-get-well line (Some (zarr.Chunk path index)) s = λ value. key-other line (chunk_value value)

edit-well : (line : ℕ) (x : EditCall) (s : SessionState) → ShowsWell line (edit_deed x s)
edit-well line (edit.Set path index bytes) s = tt
edit-well line (edit.Fill path index byte) s = tt
edit-well line (edit.Put place numbers) s = tt
edit-well line (edit.KeySet key bytes) s = key-set-well line bytes (key_of key) s
edit-well line x s = silent-other (edits_to x s)

read-well : (line : ℕ) (x : ReadCall) (s : SessionState) → ShowsWell line (read_deed line x s)
read-well line (read.List path) s = still-other s (nodes_shown line (listed s path)) (nodes-told line (listed s path))
read-well line (read.Get path) s = still-other s (meta_shown line (text_at s path)) (meta-told line (text_at s path))
read-well line (read.Chunk path index) s = value-other line
read-well line (read.Cells place) s = λ numbers. refl
read-well line (read.KeyGet key) s = key-get-well line (key_of key) s

shows-well : (line : ℕ) (x : Call) (s : SessionState) → ShowsWell line (deed line x s)
shows-well line (call.Edit change) s = edit-well line change s
shows-well line (call.Read look) s = read-well line look s
shows-well line (call.Commit message) s = tt
shows-well line (call.Ref own) s = All-nil IsOther
shows-well line (call.Prop name value) s = silent-other (prop_added s name value)
shows-well line call.Lease s = refl

-- a lease is shown by its line
pub lease-shows : (line : ℕ) (x : Call) (s : SessionState) (show : Id12 → Shown) → deed line x s ≡ Leases show → show ≡ lease_shown line
lease-shows line x s show e = subst (ShowsWell line) e (shows-well line x s)

-- ---- what was shown
module _ (ids : AnyIds) where
  other-drawn : (s : Shown) → IsOther s → IsDrawnLease ids s
  other-drawn s o line id e = let no = sym o ∙ e in absurd cc

  others-drawn : (shown : List Shown) → All IsOther shown → All (IsDrawnLease ids) shown
  others-drawn [] o = All-nil (IsDrawnLease ids)
  others-drawn (s ∷ ss) o = All-cons (IsDrawnLease ids) s ss (other-drawn s (All-head IsOther s ss o)) (others-drawn ss (All-tail IsOther s ss o))

  pub lease-drawn : (line : ℕ) (id : Id12) (s : SessionState) → IsLater ids s.ids → drawn12 s.ids ≡ Some id → IsDrawnLease ids (lease_shown line id)
  lease-drawn line id s later d number own e =
      let both : ◌≡◌ {A = ℕ × Id12} (line, id) (number, own) = cc in
      record { later = s.ids; is_later = later; drawn = d ∙ ap (λ (x : ℕ × Id12). Some x.1) both }

  pub deed-drawn : (client : ℕ) (line : ℕ) (x : Call) (s : SessionState) (start : List Event) (shown : List Shown) (t : SessionState) (journal : List Event) → IsLater ids s.ids → DidPlay client (deed line x s) s start shown t journal → All (IsDrawnLease ids) shown
  deed-drawn client line x s start shown t journal later did = by_deed (deed line x s) (shows-well line x s) did
    where
      by_deed : (d : LineDeed) → ShowsWell line d → DidPlay client d s start shown t journal → All (IsDrawnLease ids) shown
      by_deed (Goes went) well p = others-drawn shown (subst AreOther p well)
      by_deed (Sets path index bytes) well p = subst (All (IsDrawnLease ids)) (sym p.0) (All-nil (IsDrawnLease ids))
      by_deed (Reads path index show) well p = subst (All (IsDrawnLease ids)) (sym p.2) (others-drawn (show p.1 ∷ []) (one-other (show p.1) (well p.1)))
      by_deed (Puts path from to numbers) well p = subst (All (IsDrawnLease ids)) (sym p.0) (All-nil (IsDrawnLease ids))
      by_deed (Gathers path from to show) well p = subst (All (IsDrawnLease ids)) (sym p.2) (others-drawn (show p.1 ∷ []) (one-other (show p.1) (well p.1)))
      by_deed (Leases show) well p =
          let one : show p.id ≡ lease_shown line p.id = ap (λ (f : Id12 → Shown). f p.id) well in
          subst (All (IsDrawnLease ids)) (sym (p.shown_is ∙ ap (λ (x : Shown). x ∷ []) one))
          (All-cons (IsDrawnLease ids) (lease_shown line p.id) [] (lease-drawn line p.id s later p.drawn) (All-nil (IsDrawnLease ids)))
      by_deed (Commits message) well p = absurd p

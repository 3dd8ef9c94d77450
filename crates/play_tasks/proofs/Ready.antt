-- What edits and reads lead to, from a session that is ready.
use Rattle.std.proofs.Common.{◌≡◌, ℕ, Bool, true, false, List, [], Option, None, Some, Result, Ok, Err, refl, subst, arith}
use Rattle.std.specs.Prelude.{◌∷◌, IfOk}
use Rattle.std.specs.FinMap.{get}
use Rattle.std.specs.Str.{is_utf8}
use Rattle.ice_ids.specs.declared.Id8.{Id8}
use Rattle.ice_ids.specs.declared.drawing.AnyIds.{AnyIds}
use Rattle.ice_ids.specs.Drawing.{drawn8, after8}
use Rattle.ice_ids.specs.Sources.{any_source8}
use Rattle.ice_ids.proofs.Drawn.{after8-draw}
use Rattle.zarr_path.specs.declared.keys.ZarrKey.{ZarrKey}
use Rattle.zarr_path.specs.declared.keys.ZarrKey.TheVariants as zarr
use Rattle.zarr_path.specs.Keys.{key_of}
use Rattle.zarr_meta.specs.declared.faults.MetaFault.{MetaFault}
use Rattle.zarr_meta.specs.declared.views.MetaView.{MetaView}
use Rattle.zarr_meta.specs.Meta.{meta_of}
use Rattle.zarr_tree.specs.declared.edit.EditFault.{EditFault}
use Rattle.zarr_changes.specs.Sets.{add_refusal, text_refusal, drop_refusal, unset_refusal}
use Rattle.object_store.specs.declared.events.Event.{Event}
use Rattle.store_api.specs.declared.machines.Refusal.{Refusal}
use Rattle.std.proofs.lemmas.Str.{IsUtf8-from_is_utf8}
use Rattle.snapshot_file.specs.declared.properties.PropFault.{PropFault}
use Rattle.snapshot_file.specs.Props.{prop_fault}
use Rattle.session.specs.Sessions.{SessionState, writes, nodes_seen}
use Rattle.session.specs.Sources.{IsLater}
use Rattle.commit_path.proofs.Adding.{prop-added, prop-owned}
use Rattle.session.specs.Chunks.{chunk_unset}
use Rattle.session.specs.Editing.{node_fault, added, meta_set, node_dropped, if_writes, unless_bad, unless_refused, unless_unfit, drawn_node, with_prop, prop_added}
use Rattle.commit_path.specs.Own.{Owns, OwningLaw}
use Rattle.commit_path.specs.Opened.{IsOpened}
use Rattle.commit_path.specs.Spelled.{IsSpelled}
use Rattle.commit_path.specs.Laws.{TellsFaults, SessionLaw}
use Rattle.commit_path.proofs.Sources.{later-same, later-later}
use Rattle.zarr_keys.specs.Keys.{session_of, meta_value}
use Rattle.script_calls.specs.declared.calls.Call.{Call}
use Rattle.script_calls.specs.declared.calls.Call.TheVariants as call
use Rattle.script_calls.specs.declared.calls.EditCall.{EditCall}
use Rattle.script_calls.specs.declared.calls.EditCall.TheVariants as edit
use Rattle.script_calls.specs.declared.calls.ReadCall.{ReadCall}
use Rattle.script_calls.specs.declared.calls.ReadCall.TheVariants as read
use Rattle.play_script.specs.Well.{IsWellPath, IsWellEdit, IsWellCall}
use Rattle.play_outcome.specs.declared.outcome.Shown.{Shown}
use Rattle.play_tasks.specs.Lines.{Goes, deed, edit_deed, read_deed, read_by, key_shown, key_set_deed, key_get_deed, silent, still}
use Rattle.play_tasks.proofs.Ways.{Way, adds, texts, drops, unsets, no_key, stays, put-way, edited-way}
use Rattle.play_tasks.proofs.Keys.{key-path}

-- ---- the ids behind an edit
-- what it leads to draws on the session's ids
abbrev DrawsOn : AnyIds → Result SessionState Refusal → Type 0
DrawsOn ids r = IfOk r (λ t. IsLater ids t.ids)

later-drawn8 : (ids : AnyIds) → IsLater ids (after8 ids)
later-drawn8 ids = let moves = any_source8.moves ids in record { way = after8-draw ids; client = any_source8.keeps ids; left = omega (arith, moves) }

module _ {A : Type 0} (P : A → Type 0) where
  pub by_writes : (writes : Bool) (r : Result A Refusal) → IfOk r P → IfOk (if_writes writes r) P
  by_writes true r p = p
  by_writes false r p = tt

  pub by_text : (fault : Option MetaFault) (r : Result A Refusal) → IfOk r P → IfOk (unless_bad fault r) P
  by_text None r p = p
  by_text (Some fault) r p = tt

  pub by_edit : (fault : Option EditFault) (r : Result A Refusal) → IfOk r P → IfOk (unless_refused fault r) P
  by_edit None r p = p
  by_edit (Some fault) r p = tt

by_id : (s : SessionState) (path text : List ℕ) (id : Option Id8) → IfOk (drawn_node s path text id) (λ a. IsLater s.ids a.1.ids)
by_id s path text None = tt
by_id s path text (Some id) = later-drawn8 s.ids

added-later : (fault : Result MetaView MetaFault → Option MetaFault) (s : SessionState) (path text : List ℕ) → IfOk (added fault s path text) (λ a. IsLater s.ids a.1.ids)
unfolding added
added-later fault s path text = by_writes _ (writes s) _ (by_text _ (fault (meta_of text)) _ (by_edit _ (add_refusal (nodes_seen s) path) _ (by_id s path text (drawn8 s.ids))))

text-later : (s : SessionState) (path text : List ℕ) → DrawsOn s.ids (meta_set s path text)
unfolding meta_set
text-later s path text = by_writes _ (writes s) _ (by_text _ (node_fault (meta_of text)) _ (by_edit _ (text_refusal (nodes_seen s) path text) _ (later-same s.ids)))

drop-later : (s : SessionState) (path : List ℕ) → DrawsOn s.ids (node_dropped s path)
unfolding node_dropped
drop-later s path = by_writes _ (writes s) _ (by_edit _ (drop_refusal (nodes_seen s) path) _ (later-same s.ids))

unset-later : (s : SessionState) (path index : List ℕ) → DrawsOn s.ids (chunk_unset s path index)
unfolding chunk_unset
unset-later s path index = by_writes _ (writes s) _ (by_edit _ (unset_refusal (nodes_seen s) path index) _ (later-same s.ids))

by_prop : (s : SessionState) (o : Option PropFault) (r : Result SessionState Refusal) → DrawsOn s.ids r → DrawsOn s.ids (unless_unfit o r)
by_prop s None r l = l
by_prop s (Some fault) r l = tt

prop-later : (s : SessionState) (name value : List ℕ) → DrawsOn s.ids (prop_added s name value)
unfolding prop_added
prop-later s name value = by_writes _ (writes s) _ (by_prop s (prop_fault s.props name value) (Ok (with_prop s name value)) (later-same s.ids))

-- ---- sessions that are ready
-- what a session knows of the journal, and that it can be written; it draws on these ids; and what its client owns with it
pub record IsReady (ids : AnyIds) (client : ℕ) (start : List Event) (s : SessionState) (journal : List Event) : Type 0 where
  pub opened : IsOpened s journal
  pub spelled : IsSpelled s
  pub later : IsLater ids s.ids
  pub owned : Owns ids client s start journal

module _ (L : SessionLaw) (O : OwningLaw) (ids : AnyIds) (client : ℕ) (start : List Event) where
  -- a session that an edit leads to
  edit-ready : (s t : SessionState) (went : List Shown × SessionState) (journal : List Event) → IsReady ids client start s journal → IsLater s.ids t.ids → (IsSpelled t × IsOpened t journal) × Owns ids client t start journal → ([], t) ≡ went → IsReady ids client start went.1 journal
  edit-ready s t went journal ready later kept is = subst (λ (x : List Shown × SessionState). IsReady ids client start x.1 journal) is (record { opened = kept.0.1; spelled = kept.0.0; later = later-later ids s.ids t.ids ready.later later; owned = kept.1 })

  add-ready : (fault : Result MetaView MetaFault → Option MetaFault) → TellsFaults fault → (s : SessionState) (path text : List ℕ) (went : List Shown × SessionState) (journal : List Event) → IsWellPath path → IsReady ids client start s journal
      → (r : Result (Id8 × SessionState) Refusal) → added fault s path text ≡ r → silent (session_of r) ≡ Ok went → IsReady ids client start went.1 journal
  add-ready fault tells s path text went journal well ready (Err why) e d = absurd cc
  add-ready fault tells s path text went journal well ready (Ok a) e d =
      edit-ready s a.1 went journal ready (subst (λ (r : Result (Id8 × SessionState) Refusal). IfOk r (λ x. IsLater s.ids x.1.ids)) e (added-later fault s path text))
      (L.adds fault s a.1 path text a.0 journal tells well.0 well.1 e ready.spelled ready.opened, O.adds ids client fault s a.1 path text a.0 start journal e ready.owned) (cc)

  -- one that draws no node's id
  change-ready : (s : SessionState) (went : List Shown × SessionState) (journal : List Event) → IsReady ids client start s journal → (expected r : Result SessionState Refusal) → DrawsOn s.ids expected → ((t : SessionState) → expected ≡ Ok t → (IsSpelled t × IsOpened t journal) × Owns ids client t start journal) → expected ≡ r → silent r ≡ Ok went
      → IsReady ids client start went.1 journal
  change-ready s went journal ready expected (Err why) later keeps e d = absurd cc
  change-ready s went journal ready expected (Ok t) later keeps e d = edit-ready s t went journal ready (subst (DrawsOn s.ids) e later) (keeps t e) (cc)

  -- one that an edit leads to, by whichever way
  way-ready : (Well : Type 0) (s : SessionState) (went : List Shown × SessionState) (journal : List Event) → Well → IsReady ids client start s journal → {r : Result SessionState Refusal} → Way Well s r → silent r ≡ Ok went → IsReady ids client start went.1 journal
  way-ready Well s went journal well ready (adds fault tells path text at) d = add-ready fault tells s path text went journal (at well) ready (added fault s path text) refl d
  way-ready Well s went journal well ready (texts path text) d = change-ready s went journal ready (meta_set s path text) (meta_set s path text) (text-later s path text) (λ t e. (L.texts s t path text journal e ready.spelled ready.opened, O.texts ids client s t path text start journal e ready.owned)) refl d
  way-ready Well s went journal well ready (drops path) d = change-ready s went journal ready (node_dropped s path) (node_dropped s path) (drop-later s path) (λ t e. (L.drops s t path journal e ready.spelled ready.opened, O.drops ids client s t path start journal e ready.owned)) refl d
  way-ready Well s went journal well ready (unsets path index) d = change-ready s went journal ready (chunk_unset s path index) (chunk_unset s path index) (unset-later s path index) (λ t e. (L.unsets s t path index journal e ready.spelled ready.opened, O.unsets ids client s t path index start journal e ready.owned)) refl d
  way-ready Well s went journal well ready no_key d = absurd cc
  way-ready Well s went journal well ready stays d = let is : ([], s) ≡ went = cc in subst (λ (x : List Shown × SessionState). IsReady ids client start x.1 journal) is ready

  key-set-ready : (key bytes : List ℕ) (o : Option ZarrKey) (s : SessionState) (went : List Shown × SessionState) (journal : List Event) → is_utf8 key ≡ true → key_of key ≡ o → IsReady ids client start s journal → key_set_deed bytes o s ≡ Goes (Ok went) → IsReady ids client start went.1 journal
  key-set-ready key bytes None s went journal utf8 is ready d = absurd cc
  key-set-ready key bytes (Some (zarr.Meta path)) s went journal utf8 is ready d = way-ready (IsWellPath path) s went journal (key-path key path utf8 is) ready (put-way s (get (nodes_seen s) path) path bytes) (cc)
  key-set-ready key bytes (Some (zarr.Chunk path index)) s went journal utf8 is ready d = absurd cc

  edits-ready : (x : EditCall) (s : SessionState) (went : List Shown × SessionState) (journal : List Event) → IsWellEdit x → IsReady ids client start s journal → edit_deed x s ≡ Goes (Ok went) → IsReady ids client start went.1 journal
  edits-ready (edit.Set path index bytes) s went journal well ready d = absurd cc
  edits-ready (edit.Fill path index byte) s went journal well ready d = absurd cc
  edits-ready (edit.Put place numbers) s went journal well ready d = absurd cc
  edits-ready (edit.KeySet key bytes) s went journal well ready d = key-set-ready key bytes (key_of key) s went journal well.0 refl ready d
  edits-ready x s went journal well ready d = way-ready (IsWellEdit x) s went journal well ready (edited-way x s) (cc)

  look-ready : (s : SessionState) (went : List Shown × SessionState) (journal : List Event) → IsReady ids client start s journal → (r : Result (List Shown) Refusal) → still s r ≡ Ok went → IsReady ids client start went.1 journal
  look-ready s went journal ready (Err why) d = absurd cc
  look-ready s went journal ready (Ok shown) d = let is : (shown, s) ≡ went = cc in subst (λ (x : List Shown × SessionState). IsReady ids client start x.1 journal) is ready

  key-get-ready : (line : ℕ) (o : Option ZarrKey) (s : SessionState) (went : List Shown × SessionState) (journal : List Event) → IsReady ids client start s journal → key_get_deed line o s ≡ Goes (Ok went) → IsReady ids client start went.1 journal
  key-get-ready line None s went journal ready d = absurd cc
  key-get-ready line (Some (zarr.Meta path)) s went journal ready d = look-ready s went journal ready (Ok (key_shown line (meta_value s path) ∷ [])) (cc)
  key-get-ready line (Some (zarr.Chunk path index)) s went journal ready d = absurd cc

  reads-ready : (line : ℕ) (x : ReadCall) (s : SessionState) (went : List Shown × SessionState) (journal : List Event) → IsReady ids client start s journal → read_deed line x s ≡ Goes (Ok went) → IsReady ids client start went.1 journal
  reads-ready line (read.List path) s went journal ready d = look-ready s went journal ready (read_by line (read.List path) s) (cc)
  reads-ready line (read.Get path) s went journal ready d = look-ready s went journal ready (read_by line (read.Get path) s) (cc)
  reads-ready line (read.Chunk path index) s went journal ready d = absurd cc
  reads-ready line (read.Cells place) s went journal ready d = absurd cc
  reads-ready line (read.KeyGet key) s went journal ready d = key-get-ready line (key_of key) s went journal ready d

  pub deed-ready : (line : ℕ) (x : Call) (s : SessionState) (went : List Shown × SessionState) (journal : List Event) → IsWellCall x → IsReady ids client start s journal → deed line x s ≡ Goes (Ok went) → IsReady ids client start went.1 journal
  deed-ready line (call.Edit change) s went journal well ready d = edits-ready change s went journal well ready d
  deed-ready line (call.Read look) s went journal well ready d = reads-ready line look s went journal ready d
  deed-ready line (call.Commit message) s went journal well ready d = absurd cc
  deed-ready line call.Lease s went journal well ready d = absurd cc
  deed-ready line (call.Prop name value) s went journal well ready d = change-ready s went journal ready (prop_added s name value) (prop_added s name value) (prop-later s name value) (λ t e. (
    L.props s t name value journal (IsUtf8-from_is_utf8 name well.0) (IsUtf8-from_is_utf8 value well.1) e ready.spelled ready.opened,
    prop-owned ids client s t name value start journal (prop-added s t name value e) ready.owned,
  )) refl (cc)
  deed-ready line (call.Ref own) s went journal well ready d = let is : ([], s) ≡ went = cc in subst (λ (x : List Shown × SessionState). IsReady ids client start x.1 journal) is ready

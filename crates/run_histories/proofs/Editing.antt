-- Where the lines of a task lead: along them the session's changes stay normal for its base, where its source draws no id of the base's nodes.
use Rattle.std.proofs.Common.{◌≡◌, ◌⊎◌, inl, inr, ℕ, true, false, List, [], ◌∷◌, ◌++◌, refl, sym, ◌∙◌, ap, subst}
use Rattle.std.specs.Prelude.{Option, Some, None, Result, Ok, Err, All}
use Rattle.std.specs.FinMap.{get, get-empty}
use Rattle.std.proofs.lemmas.List.Elements.{All-cons, All-nil, All-head, All-tail}
use Rattle.ice_ids.specs.declared.Id8.{Id8}
use Rattle.ice_ids.specs.declared.drawing.AnyIds.{AnyIds}
use Rattle.zarr_path.specs.Paths.{path_cmp, is_path}
use Rattle.zarr_path.specs.declared.keys.ZarrKey.{ZarrKey}
use Rattle.zarr_path.specs.declared.keys.ZarrKey.TheVariants as zarr
use Rattle.zarr_path.specs.Keys.{key_of}
use Rattle.zarr_path.proofs.KeyLaws.{key_law}
use Rattle.zarr_meta.specs.declared.faults.MetaFault.{MetaFault}
use Rattle.zarr_meta.specs.declared.views.MetaView.{MetaView}
use Rattle.zarr_tree.specs.Nodes.{Node}
use Rattle.zarr_tree.specs.Changes.{IsNormal}
use Rattle.zarr_tree.specs.Touched.{lists}
use Rattle.zarr_tree.specs.Held.{Held, changes_of}
use Rattle.zarr_tree.proofs.Normal.{none-law}
use Rattle.zarr_changes.specs.Edits.{nothing}
use Rattle.manifest_file.specs.declared.manifest.Place.{Place}
use Rattle.object_store.specs.declared.events.Event.{Event}
use Rattle.store_api.specs.declared.machines.Refusal.{Refusal}
use Rattle.session.specs.Sessions.{SessionState, base_tree, nodes_seen}
use Rattle.session.specs.Sources.{IsLater}
use Rattle.session.specs.Editing.{node_fault, added, node_added, meta_set, node_dropped, prop_added}
use Rattle.commit_path.proofs.Adding.{prop-added}
use Rattle.std.specs.BTreeMap.{insert_entry}
use Rattle.snapshot_file.specs.Props.{name_cmp}
use Rattle.session.specs.Chunks.{chunk_unset}
use Rattle.commit_path.specs.Laws.{TellsFaults}
use Rattle.commit_path.proofs.Editing.{Added, node-added, text-set, node-dropped}
use Rattle.commit_path.proofs.Sources.{later-same}
use Rattle.zarr_keys.specs.Keys.{session_of, meta_value, put_over}
use Rattle.script_calls.specs.declared.calls.Call.{Call}
use Rattle.script_calls.specs.declared.calls.Call.TheVariants.{Edit, Read as Read_call, Commit, Ref, Prop, Lease}
use Rattle.script_calls.specs.declared.calls.EditCall.{EditCall}
use Rattle.script_calls.specs.declared.calls.EditCall.TheVariants.{Set, Fill, Put, KeySet}
use Rattle.script_calls.specs.declared.calls.ReadCall.{ReadCall}
use Rattle.script_calls.specs.declared.calls.ReadCall.TheVariants.{List as List_call, Get, Chunk, Cells, KeyGet}
use Rattle.play_script.specs.declared.scripts.Line.{Line}
use Rattle.play_script.specs.Well.{IsWellEdit, IsWellCall, IsWellLine}
use Rattle.play_outcome.specs.declared.outcome.Shown.{Shown}
use Rattle.play_tasks.specs.Lines.{LineDeed, Goes, Sets, Reads, Puts, Gathers, Leases, Commits, deed, edit_deed, read_deed, read_by, key_shown, key_set_deed, key_get_deed, silent, still}
use Rattle.play_tasks.specs.Solving.{DidPlay, PlaysAll}
use Rattle.region_calls.specs.Written.{AreSet}
use Rattle.play_tasks.proofs.Ways.{Way, adds, texts, drops, unsets, no_key, stays, edited-way}
use Rattle.run_histories.proofs.Sized.{sized}
use Rattle.run_histories.proofs.Texts.{same-texts}
use Rattle.run_histories.proofs.Setting.{set-told, unset-edits}
use Rattle.run_histories.proofs.Edits.{SetsChunk, Edits, GoesOn, drew-goes, edit-at, edit-base, edit-goes}

-- ---- the edits of a script
added-edits : (fault : Result MetaView MetaFault → Option MetaFault) → TellsFaults fault → (path text : List ℕ) (s t : SessionState) → is_path path ≡ true → (r : Result (Id8 × SessionState) Refusal) → added fault s path text ≡ r → session_of r ≡ Ok t → Edits s t
added-edits fault tells path text s t is_a (Err why) e d = absurd cc
added-edits fault tells path text s t is_a (Ok new) e d =
    let same : new.1 ≡ t = cc in
    let a : Added s new.1 path text new.0 = node-added fault s new.1 path text new.0 tells e in
    subst (Edits s) same (inl (record { path = path; text = text; id = new.0; is_a = is_a; metadata = a.metadata; allowed = a.allowed; drawn = a.drawn; is = a.is }))

text-edits : (path text : List ℕ) (s t : SessionState) → meta_set s path text ≡ Ok t → Edits s t
text-edits path text s t e = let a = text-set s t path text e in inr (inl (record { path = path; text = text; allowed = a.allowed; is = a.is }))

drop-edits : (path : List ℕ) (s t : SessionState) → node_dropped s path ≡ Ok t → Edits s t
drop-edits path s t e = let a = node-dropped s t path e in inr (inr (inl (record { path = path; allowed = a.allowed; is = a.is })))

-- a line leaves its session as it is, or edits it
abbrev pub Leads : LineDeed → SessionState → Type 0
Leads (Goes r) s = (shown : List Shown) (t : SessionState) → r ≡ Ok (shown, t) → (t ≡ s) ⊎ Edits s t
Leads _ s = Unit {0}

result-same : {A : Type 0} (x y : A) → ◌≡◌ {A = Result A Refusal} (Ok x) (Ok y) → x ≡ y
result-same x y e = cc

silent-leads : (s : SessionState) (r : Result SessionState Refusal) → ((t : SessionState) → r ≡ Ok t → Edits s t) → Leads (Goes (silent r)) s
silent-leads s (Ok u) edits shown t e = let same : u ≡ t = ap (λ (q : List Shown × SessionState). q.1) (result-same ([], u) (shown, t) e) in inr (edits t (ap (λ (x : SessionState). Ok x) same))
silent-leads s (Err why) edits shown t e = cc

still-leads : (s : SessionState) (r : Result (List Shown) Refusal) → Leads (Goes (still s r)) s
still-leads s (Ok old) shown t e = inl (sym (ap (λ (q : List Shown × SessionState). q.1) (result-same (old, s) (shown, t) e)))
still-leads s (Err why) shown t e = cc

unset-leads : (path index : List ℕ) (s t : SessionState) → chunk_unset s path index ≡ Ok t → Edits s t
unset-leads path index s t e = inr (inr (inr (inr (inl (unset-edits s t path index e)))))

prop-leads : (name value : List ℕ) (s t : SessionState) → prop_added s name value ≡ Ok t → Edits s t
prop-leads name value s t e = let a = prop-added s t name value e in inr (inr (inr (inr (inr (record { props = insert_entry name_cmp s.props name value; is = a.is })))))

-- a key's metadata is put
put-edits : (o : Option Node) (path text : List ℕ) (s t : SessionState) → is_path path ≡ true → put_over o s path text ≡ Ok t → Edits s t
put-edits (Some node) path text s t is_a e = text-edits path text s t e
put-edits None path text s t is_a e = added-edits node_fault (λ bad. refl) path text s t is_a (node_added s path text) refl e

key-set-leads : (key bytes : List ℕ) (o : Option ZarrKey) (s : SessionState) → key_of key ≡ o → Leads (key_set_deed bytes o s) s
key-set-leads key bytes None s is = λ shown t e. cc
key-set-leads key bytes (Some (zarr.Meta path)) s is = silent-leads s (put_over (get (nodes_seen s) path) s path bytes) (λ t e. put-edits (get (nodes_seen s) path) path bytes s t ((key_law key (zarr.Meta path)).0 is).0 e)
key-set-leads key bytes (Some (zarr.Chunk path index)) s is = tt

-- an edit, by whichever way
way-leads : (Well : Type 0) (s : SessionState) {r : Result SessionState Refusal} → Way Well s r → Well → Leads (Goes (silent r)) s
way-leads Well s (adds fault tells path text at) well = silent-leads s (session_of (added fault s path text)) (λ t e. added-edits fault tells path text s t (at well).0 (added fault s path text) refl e)
way-leads Well s (texts path text) well = silent-leads s (meta_set s path text) (λ t e. text-edits path text s t e)
way-leads Well s (drops path) well = silent-leads s (node_dropped s path) (λ t e. drop-edits path s t e)
way-leads Well s (unsets path index) well = silent-leads s (chunk_unset s path index) (λ t e. unset-leads path index s t e)
way-leads Well s no_key well = λ shown t e. cc
way-leads Well s stays well = still-leads s (Ok [])

key-get-leads : (line : ℕ) (o : Option ZarrKey) (s : SessionState) → Leads (key_get_deed line o s) s
key-get-leads line None s = λ shown t e. cc
key-get-leads line (Some (zarr.Meta path)) s = still-leads s (Ok (key_shown line (meta_value s path) ∷ []))
key-get-leads line (Some (zarr.Chunk path index)) s = tt

edit-leads : (edit : EditCall) (s : SessionState) → IsWellEdit edit → Leads (edit_deed edit s) s
edit-leads (Set path index bytes) s well = tt
edit-leads (Fill path index byte) s well = tt
edit-leads (Put place numbers) s well = tt
edit-leads (KeySet key bytes) s well = key-set-leads key bytes (key_of key) s refl
edit-leads edit s well = way-leads (IsWellEdit edit) s (edited-way edit s) well

read-leads : (line : ℕ) (look : ReadCall) (s : SessionState) → Leads (read_deed line look s) s
read-leads line (List_call path) s = still-leads s (read_by line (List_call path) s)
read-leads line (Get path) s = still-leads s (read_by line (Get path) s)
read-leads line (Chunk path index) s = tt
read-leads line (Cells place) s = tt
read-leads line (KeyGet key) s = key-get-leads line (key_of key) s

pub call-leads : (line : ℕ) (call : Call) (s : SessionState) → IsWellCall call → Leads (deed line call s) s
call-leads line (Edit edit) s well = edit-leads edit s well
call-leads line (Read_call look) s well = read-leads line look s
call-leads line (Commit message) s well = tt
call-leads line (Ref call) s well = still-leads s (Ok [])
call-leads line Lease s well = tt
call-leads line (Prop name value) s well = silent-leads s (prop_added s name value) (λ t e. prop-leads name value s t e)

-- ---- the lines of a task
-- what holds behind a line that leads on
led-goes : (ids : AnyIds) (s t : SessionState) → (t ≡ s) ⊎ Edits s t → GoesOn ids s → GoesOn ids t
led-goes ids s t (inl same) g = subst (GoesOn ids) (sym same) g
led-goes ids s t (inr e) g = edit-goes ids s t e g

led-at : (s t : SessionState) → (t ≡ s) ⊎ Edits s t → t.base ≡ s.base
led-at s t (inl same) = ap (λ (x : SessionState). x.base) same
led-at s t (inr e) = edit-at s t e

led-base : (s t : SessionState) → (t ≡ s) ⊎ Edits s t → t.rows ≡ s.rows
led-base s t (inl same) = ap (λ (x : SessionState). x.rows) same
led-base s t (inr e) = edit-base s t e

abbrev sets : (s t : SessionState) → SetsChunk s t → (t ≡ s) ⊎ Edits s t
sets s t a = inr (inr (inr (inr (inl a))))

-- the session behind lines
pub record WentOn (ids : AnyIds) (s t : SessionState) : Type 0 where
  pub goes : GoesOn ids t
  pub base : t.base ≡ s.base
  pub rows : t.rows ≡ s.rows

module _ (ids : AnyIds) where
  went-behind : (s mid t : SessionState) → (mid ≡ s) ⊎ Edits s mid → WentOn ids mid t → WentOn ids s t
  went-behind s mid t led w = record { goes = w.goes; base = w.base ∙ led-at s mid led; rows = w.rows ∙ led-base s mid led }

  went-nowhere : (s t : SessionState) → t ≡ s → GoesOn ids s → WentOn ids s t
  went-nowhere s t same g = record { goes = subst (GoesOn ids) (sym same) g; base = ap (λ (x : SessionState). x.base) same; rows = ap (λ (x : SessionState). x.rows) same }

-- ---- lines that were played
pub all-front : {A : Type 0} (P : A → Type 0) (xs ys : List A) → All P (xs ++ ys) → All P xs
all-front P [] ys all = All-nil P
all-front P (x ∷ xs) ys all = All-cons P x xs (All-head P x (xs ++ ys) all) (all-front P xs ys (All-tail P x (xs ++ ys) all))

module _ (ids : AnyIds) (client : ℕ) (start journal : List Event) where
  led-went : (s t : SessionState) → (t ≡ s) ⊎ Edits s t → GoesOn ids s → WentOn ids s t
  led-went s t led g = went-behind ids s t t led (went-nowhere ids t t refl (led-goes ids s t led g))

  -- chunks that were set one after another
  sets-went : (path : List ℕ) (chunks : List (List ℕ × List ℕ)) (s t : SessionState) → GoesOn ids s → AreSet client s path chunks t start journal → WentOn ids s t
  sets-went path [] s t g a = went-nowhere ids s t a g
  sets-went path (c ∷ cs) s t g a =
      let led = sets s a.0 (set-told s a.0 path c.0 c.1 client start journal a.1) in
      went-behind ids s a.0 t led (sets-went path cs a.0 t (led-goes ids s a.0 led g) a.2)

  deed-went : (s t : SessionState) (shown : List Shown) (d : LineDeed) → Leads d s → GoesOn ids s → DidPlay client d s start shown t journal → WentOn ids s t
  deed-went s t shown (Goes r) leads g p = led-went s t (leads shown t p) g
  deed-went s t shown (Sets path index bytes) leads g p = led-went s t (sets s t (set-told s t path index bytes client start journal p.1)) g
  deed-went s t shown (Reads path index show) leads g p = went-nowhere ids s t p.0 g
  deed-went s t shown (Puts path from to numbers) leads g p = sets-went path p.1.chunks s t g p.1.set
  deed-went s t shown (Gathers path from to show) leads g p = went-nowhere ids s t p.0 g
  deed-went s t shown (Leases show) leads g p = record { goes = subst (GoesOn ids) (sym p.becomes) (drew-goes ids s g); base = ap (λ (x : SessionState). x.base) p.becomes; rows = ap (λ (x : SessionState). x.rows) p.becomes }
  deed-went s t shown (Commits message) leads g p = absurd p

  pub lines-went : (lines : List Line) (s t : SessionState) (shown : List Shown) → All IsWellLine lines → GoesOn ids s → PlaysAll client lines s start shown t journal → WentOn ids s t
  unfolding PlaysAll
  lines-went [] s t shown well g p = went-nowhere ids s t p.1 g
  lines-went (l ∷ ls) s t shown well g p =
      let mid : SessionState = p.2 in
      let one = deed-went s mid p.0 (deed l.number l.call s) (call-leads l.number l.call s (All-head IsWellLine l ls well).call) g p.4 in
      let rest = lines-went ls mid t p.1 (All-tail IsWellLine l ls well) one.goes p.5 in
      record { goes = rest.goes; base = rest.base ∙ one.base; rows = rest.rows ∙ one.rows }

-- ---- its beginning
-- a session as it began
pub begun-goes : (ids : AnyIds) (s : SessionState) → s.ids ≡ ids → s.held ≡ nothing → GoesOn ids s
begun-goes ids s same none = record {
  later = subst (IsLater ids) (sym same) (later-same ids);
  texts = same-texts s.held nothing (ap (λ (h : Held Place). h.metas) none) (All-nil _);
  kept = λ spends own. record {
    added = λ p n f. let no : None ≡ Some n = sym (get-empty path_cmp p) ∙ (ap (λ (h : Held Place). get h.added p) (sym none) ∙ f) in absurd cc;
    dropped = λ id l. let no : false ≡ true = ap (λ (h : Held Place). lists h.dropped id) (sym none) ∙ l in absurd cc;
    normal = λ puts well. subst (λ (h : Held Place). IsNormal (changes_of sized h) (base_tree puts s)) (sym none) ((none-law (base_tree puts s) well).1);
  };
}

-- What a line of a script does to a session, in words of trees.
use Rattle.std.proofs.Common.{◌≡◌, ◌⊎◌, ◌≤◌, inl, inr, ℕ, Bool, true, false, cond, List, [], ◌∷◌, length, refl, sym, ◌∙◌, ap, subst, ℤ, Result, Ok, Err}
use Rattle.std.specs.Prelude.{Option, Some, None, is_some, map, filter, option_map, option_and_then, ok_or}
use Rattle.std.specs.FinMap.{get, entries}
use Rattle.ice_ids.specs.declared.Id8.{Id8}
use Rattle.ice_ids.specs.declared.Id12.{Id12}
use Rattle.ice_ids.specs.declared.drawing.AnyIds.{AnyIds}
use Rattle.zarr_path.specs.Paths.{same_path, is_beneath}
use Rattle.zarr_path.specs.declared.keys.ZarrKey.{ZarrKey}
use Rattle.zarr_path.specs.declared.keys.ZarrKey.TheVariants as K
use Rattle.zarr_path.specs.Keys.{key_of}
use Rattle.zarr_path.proofs.OrderLaws.{same_path-true, same_path-refl}
use Rattle.zarr_meta.specs.declared.faults.MetaFault.{MetaFault}
use Rattle.zarr_meta.specs.declared.views.MetaView.{MetaView}
use Rattle.zarr_meta.specs.Plain.{group_text}
use Rattle.zarr_tree.specs.declared.edit.EditFault.{EditFault}
use Rattle.zarr_tree.specs.declared.edit.EditFault.TheVariants as Fault
use Rattle.zarr_tree.specs.Nodes.{Node, is_array, array_in}
use Rattle.zarr_tree.specs.Trees.{Tree, node_at, IsWellFormed}
use Rattle.zarr_tree.specs.Edits.{Edit, Add, SetMeta, Drop, Set, Unset, change, refusal, unless}
use Rattle.zarr_tree.specs.Changes.{Changes, apply, extended, IsNormal, IsFresh, CanExtend, result_map}
use Rattle.zarr_tree.proofs.Maps.{get-put}
use Rattle.zarr_tree.proofs.Apply.{added_node}
use Rattle.zarr_tree.proofs.Extend.{change-law}
use Rattle.zarr_changes.specs.Edits.{with_added}
use Rattle.zarr_changes.specs.Sets.{add_refusal, text_refusal, drop_refusal, set_refusal, unset_refusal}
use Rattle.zarr_changes.proofs.EditLaws.{text-law}
use Rattle.zarr_changes.proofs.DropLaws.{drop-law}
use Rattle.zarr_changes.proofs.ChunkLaws.{set-law, unset-law}
use Rattle.manifest_file.specs.declared.manifest.Place.{Place}
use Rattle.manifest_file.specs.declared.manifest.Place.TheVariants.{Inline, Object}
use Rattle.repo_objects.specs.Trees.{Puts, bytes_at}
use Rattle.object_store.specs.declared.keys.Key.TheVariants.{Chunk as Chunk_key}
use Rattle.object_store.specs.declared.events.Event.{Event}
use Rattle.store_api.specs.declared.machines.Refusal.{Refusal}
use Rattle.store_api.specs.declared.machines.Refusal.TheVariants as Refused
use Rattle.store_api.specs.Journal.{WasPut, IsGoodJournal, IsOnce, puts_of}
use Rattle.session.specs.declared.chunks.Value.{Value}
use Rattle.session.specs.declared.chunks.Value.TheVariants.{Bytes, Fill}
use Rattle.session.specs.Sessions.{SessionState, nodes_seen, base_tree, changes_in, overlay}
use Rattle.session.specs.Editing.{group_fault, array_fault, node_fault, added, group_added, array_added, node_added, meta_set, node_dropped, prop_added, with_node, listing, beneath, if_there}
use Rattle.session.specs.Editing as session
use Rattle.session.specs.Chunks.{most_inline, with_chunk, without_chunk, after_draw, chunk_unset, filled}
use Rattle.commit_path.proofs.Adding.{PropAdded, prop-added, prop-opened}
use Rattle.commit_path.specs.Laws.{TellsFaults}
use Rattle.commit_path.specs.Opened.{IsOpened}
use Rattle.commit_path.proofs.Editing.{node-added, text-set, node-dropped, added-opened, set-opened, dropped-opened}
use Rattle.commit_path.proofs.Setting.{chunk-unset, without-opened}
use Rattle.changed_snapshot.specs.Laws.{KeepsFrozen}
use Rattle.region_calls.specs.ChunkTold.{WasObjectPut, WasPutOut, WasSet, IsChunk, value_of}
use Rattle.region_calls.proofs.Setting.{taken, entries-opened, chunk-opened}
use Rattle.commit_path.proofs.Putting.{extends-same}
use Rattle.array_region.proofs.Planned.{at_array}
use Rattle.region_calls.specs.Told.{AreCells}
use Rattle.region_calls.specs.Written.{AreSet, WasWritten}
use Rattle.zarr_keys.specs.Keys.{session_of, node_value, meta_value, meta_put, put_over, erased_at, key_erased}
use Rattle.array_region.specs.Cells.{cells_of}
use Rattle.script_calls.specs.declared.calls.EditCall.{EditCall}
use Rattle.script_calls.specs.declared.calls.EditCall.TheVariants as E
use Rattle.script_calls.specs.declared.calls.ReadCall.{ReadCall}
use Rattle.script_calls.specs.declared.calls.ReadCall.TheVariants as R
use Rattle.script_calls.specs.declared.calls.Call.{Call}
use Rattle.script_calls.specs.declared.calls.Call.TheVariants as C
use Rattle.play_outcome.specs.declared.outcome.Shown.{Shown}
use Rattle.play_outcome.specs.declared.outcome.Shown.TheVariants as S
use Rattle.play_tasks.specs.Lines as line
use Rattle.play_tasks.specs.Solving.{DidPlay}
use Rattle.play_course.proofs.Objects.{object-bytes, object-put}
use Rattle.play_course.specs.Lines.{edit_of, text_put, key_put, key_erase, shown_of, key_shown, chunk_shown, cells_shown, beneath_shown, Edits, Changed, Does}

-- both sessions' changes are normal for the tree of their base, which is well formed
pub record AreNormal (puts : Puts) (s t : SessionState) : Type 0 where
  pub well : IsWellFormed (base_tree puts s)
  pub before : IsNormal (changes_in puts s) (base_tree puts s)
  pub behind : IsNormal (changes_in puts t) (base_tree puts s)

pair-same : (x y : List Shown × SessionState) → ◌≡◌ {A = Result (List Shown × SessionState) Refusal} (Ok x) (Ok y) → x ≡ y
pair-same x y e = cc

module _ (puts : Puts) (journal : List Event) where
  -- the tree of the one takes the edit, and then is that of the other
  abbrev pub Takes : SessionState → SessionState → Edit → Type 0
  Takes s t e = AreNormal puts s t → change (overlay puts s) e ≡ Ok (overlay puts t)

  passed : (b : Bool) (fault : EditFault) (rest : Option EditFault) → cond b (Some fault) rest ≡ None → b ≡ false
  passed true fault rest e = absurd cc
  passed false fault rest e = refl

  module _ (s : SessionState) where
    abbrev base : Tree
    base = base_tree puts s

    abbrev c : Changes
    c = changes_in puts s

    abbrev done : Changes → Result Tree EditFault
    done d = Ok (apply d base)

    took : (e : Edit) (d : Changes) → IsWellFormed base → IsNormal c base → CanExtend c base e → refusal (apply c base) e ≡ None → d ≡ extended c base e → change (apply c base) e ≡ Ok (apply d base)
    took e d well normal can allowed is =
        change-law c base e well normal can
        ∙ ap (λ (o : Option EditFault). result_map (λ (x : Changes). apply x base) (unless o (extended c base e))) allowed
        ∙ ap done (sym is)

    -- ---- a node more
    module _ (path text : List ℕ) (id : Id8) where
      abbrev new : Node
      new = record { id = id; text = text }

      abbrev more : SessionState
      more = with_node s path text id

      here : get (with_added s.held path new).added path ≡ Some new
      here = get-put s.held.added path new path ∙ ap (λ (b : Bool). cond b (Some new) (get s.held.added path)) (same_path-refl path)

      there : (p : List ℕ) (n : Node) → same_path p path ≡ false → get s.held.added p ≡ Some n → get (with_added s.held path new).added p ≡ Some n
      there p n apart found = get-put s.held.added path new p ∙ ap (λ (b : Bool). cond b (Some new) (get s.held.added p)) apart ∙ found

      -- a tree that takes it has no node at its path
      free : add_refusal (nodes_seen s) path ≡ None → (n : Node) → node_at (apply c base) path ≡ Some n → ⊥
      free allowed n found = let no : true ≡ false = sym (ap is_some found) ∙ passed (is_some (node_at (apply c base) path)) _ _ allowed in cc

      -- so its id is fresh, where the changes behind it are normal
      fresh : add_refusal (nodes_seen s) path ≡ None → IsNormal (changes_in puts more) base → IsFresh c base id
      fresh allowed behind = record {
        not_own = λ p n found same. behind.fresh path p new n here found (sym same);
        not_added = λ p n found same. apart p n found same (same_path p path) refl;
        not_dropped = behind.not_dropped path new here;
      }
        where
          apart : (p : List ℕ) (n : Node) → get s.held.added p ≡ Some n → n.id ≡ id → (b : Bool) → same_path p path ≡ b → ⊥
          apart p n found same true k = free allowed n (ap (node_at (apply c base)) (sym (same_path-true p path k)) ∙ added_node c base p n found)
          apart p n found same false k =
              let no : p ≡ path = behind.distinct p path n new (there p n k found) here same in
              let yes : true ≡ false = sym (same_path-refl path) ∙ ap (λ (q : List ℕ). same_path q path) (sym no) ∙ k in
              cc

    -- ---- each edit
    adds : (path text : List ℕ) (id : Id8) (t : SessionState) → add_refusal (nodes_seen s) path ≡ None → t ≡ with_node s path text id → Takes s t (Add path id text)
    adds path text id t allowed is n =
        let behind : IsNormal (changes_in puts (with_node s path text id)) base = subst (λ (x : SessionState). IsNormal (changes_in puts x) base) is n.behind in
        subst (λ (x : SessionState). change (overlay puts s) (Add path id text) ≡ Ok (overlay puts x)) (sym is)
        (took (Add path id text) (changes_in puts (with_node s path text id)) n.well n.before (fresh path text id allowed behind) allowed refl)

    texts : (path text : List ℕ) (t : SessionState) → text_refusal (nodes_seen s) path text ≡ None → t ≡ session.text_changed s path text → Takes s t (SetMeta path text)
    texts path text t allowed is n =
        subst (λ (x : SessionState). change (overlay puts s) (SetMeta path text) ≡ Ok (overlay puts x)) (sym is)
        (took (SetMeta path text) (changes_in puts (session.text_changed s path text)) n.well n.before tt allowed (text-law (bytes_at puts) s.held base path text))

    drops : (path : List ℕ) (t : SessionState) → drop_refusal (nodes_seen s) path ≡ None → t ≡ session.node_gone s path → Takes s t (Drop path)
    drops path t allowed is n =
        subst (λ (x : SessionState). change (overlay puts s) (Drop path) ≡ Ok (overlay puts x)) (sym is)
        (took (Drop path) (changes_in puts (session.node_gone s path)) n.well n.before tt allowed (drop-law (bytes_at puts) s.held base path))

    sets : (path index bytes : List ℕ) (place : Place) (ids : AnyIds) (t : SessionState) → set_refusal (nodes_seen s) path index (length bytes) ≡ None → bytes_at puts place ≡ Some bytes → t ≡ record (with_chunk s path index place) { ids = ids } → Takes s t (Set path index bytes)
    sets path index bytes place ids t allowed held is n =
        subst (λ (x : SessionState). change (overlay puts s) (Set path index bytes) ≡ Ok (overlay puts x)) (sym is)
        (took (Set path index bytes) (changes_in puts (with_chunk s path index place)) n.well n.before tt allowed (set-law (bytes_at puts) s.held base path index bytes place held))

    unsets : (path index : List ℕ) (t : SessionState) → unset_refusal (nodes_seen s) path index ≡ None → t ≡ without_chunk s path index → Takes s t (Unset path index)
    unsets path index t allowed is n =
        subst (λ (x : SessionState). change (overlay puts s) (Unset path index) ≡ Ok (overlay puts x)) (sym is)
        (took (Unset path index) (changes_in puts (without_chunk s path index)) n.well n.before tt allowed (unset-law (bytes_at puts) s.held base path index))

    -- ---- edits of a script
    -- a script's edit that led so asked for an edit of the tree, which took it
    pub record Took (edit : EditCall) (t : SessionState) : Type 0 where
      pub id : Id8
      pub made : Edit
      pub asked : edit_of edit id (overlay puts s) ≡ Some made
      pub takes : Takes s t made
      pub opened : IsOpened s journal → IsOpened t journal
      pub rows : t.rows ≡ s.rows
      pub at : t.base ≡ s.base

    -- any id
    some_id : Id8
    some_id = record { 0 = [] }

    added-took : (edit : EditCall) (fault : Result MetaView MetaFault → Option MetaFault) → TellsFaults fault → (path text : List ℕ) (t : SessionState) → ((id : Id8) → edit_of edit id (overlay puts s) ≡ Some (Add path id text))
        → (r : Result (Id8 × SessionState) Refusal) → added fault s path text ≡ r → session_of r ≡ Ok t → Took edit t
    added-took edit fault tells path text t asks (Err why) e d = absurd cc
    added-took edit fault tells path text t asks (Ok new) e d =
        let same : new.1 ≡ t = cc in
        let a = node-added fault s new.1 path text new.0 tells e in
        record { id = new.0; made = Add path new.0 text; asked = asks new.0; takes = adds path text new.0 t a.allowed (sym same ∙ a.is); opened = λ o. subst (λ (x : SessionState). IsOpened x journal) same (added-opened s new.1 path text new.0 journal a o); rows = ap (λ (x : SessionState). x.rows) (sym same ∙ a.is); at = ap (λ (x : SessionState). x.base) (sym same ∙ a.is) }

    text-took : (edit : EditCall) (path text : List ℕ) (t : SessionState) → edit_of edit some_id (overlay puts s) ≡ Some (SetMeta path text) → meta_set s path text ≡ Ok t → Took edit t
    text-took edit path text t asked e = let a = text-set s t path text e in record { id = some_id; made = SetMeta path text; asked = asked; takes = texts path text t a.allowed a.is; opened = set-opened s t path text journal a; rows = ap (λ (x : SessionState). x.rows) a.is; at = ap (λ (x : SessionState). x.base) a.is }

    drop-took : (edit : EditCall) (path : List ℕ) (t : SessionState) → edit_of edit some_id (overlay puts s) ≡ Some (Drop path) → node_dropped s path ≡ Ok t → Took edit t
    drop-took edit path t asked e = let a = node-dropped s t path e in record { id = some_id; made = Drop path; asked = asked; takes = drops path t a.allowed a.is; opened = dropped-opened s t path journal a; rows = ap (λ (x : SessionState). x.rows) a.is; at = ap (λ (x : SessionState). x.base) a.is }

    unset-took : (edit : EditCall) (path index : List ℕ) (t : SessionState) → edit_of edit some_id (overlay puts s) ≡ Some (Unset path index) → chunk_unset s path index ≡ Ok t → Took edit t
    unset-took edit path index t asked e = let a = chunk-unset s t path index e in record { id = some_id; made = Unset path index; asked = asked; takes = unsets path index t a.allowed a.is; opened = without-opened s t path index journal a; rows = ap (λ (x : SessionState). x.rows) a.is; at = ap (λ (x : SessionState). x.base) a.is }

    -- a key's metadata is put
    put-took : (edit : EditCall) (path text : List ℕ) (t : SessionState) (o : Option Node) → ((id : Id8) → edit_of edit id (overlay puts s) ≡ Some (text_put o id path text)) → put_over o s path text ≡ Ok t → Took edit t
    put-took edit path text t (Some node) asks e = text-took edit path text t (asks some_id) e
    put-took edit path text t None asks e = added-took edit node_fault (λ bad. refl) path text t asks (node_added s path text) refl e

    -- a key is erased
    erased-took : (edit : EditCall) (t : SessionState) (o : Option ZarrKey) → edit_of edit some_id (overlay puts s) ≡ key_erase o → erased_at s o ≡ Ok t → Took edit t
    erased-took edit t None asked e = absurd cc
    erased-took edit t (Some (K.Meta path)) asked e = drop-took edit path t asked e
    erased-took edit t (Some (K.Chunk path index)) asked e = unset-took edit path index t asked e

    -- ---- what an edit does
    -- such an edit, and nothing was shown
    pub record Did (edit : EditCall) (t : SessionState) (shown : List Shown) : Type 0 where
      pub took : Took edit t
      pub silent : shown ≡ []

    silent-did : (edit : EditCall) (t : SessionState) (shown : List Shown) (r : Result SessionState Refusal) → (r ≡ Ok t → Took edit t) → line.silent r ≡ Ok (shown, t) → Did edit t shown
    silent-did edit t shown (Ok u) f e =
        let same : ([], u) ≡ (shown, t) = pair-same ([], u) (shown, t) e in
        record { took = f (ap (λ (q : List Shown × SessionState). Ok q.1) same); silent = sym (ap (λ (q : List Shown × SessionState). q.0) same) }
    silent-did edit t shown (Err why) f e = absurd cc

module _ (client : ℕ) (start journal : List Event) (good : IsGoodJournal journal) (once : IsOnce journal) where
  abbrev put : Puts
  put = puts_of journal

  -- a chunk was set
  short-opened : (s : SessionState) (path index bytes : List ℕ) → set_refusal (nodes_seen s) path index (length bytes) ≡ None → IsOpened s journal → IsOpened (with_chunk s path index (Inline bytes)) journal
  short-opened s path index bytes allowed o = chunk-opened s path index (Inline bytes) (length bytes) (taken (nodes_seen s) path index (length bytes) allowed) journal (λ id offset size e. absurd cc) (bytes, refl, refl) o

  out-opened : (s : SessionState) (path index bytes : List ℕ) (id : Id12) → set_refusal (nodes_seen s) path index (length bytes) ≡ None → WasObjectPut client id bytes start journal → IsOpened s journal → IsOpened (with_chunk (after_draw s) path index (Object id 0 (length bytes))) journal
  out-opened s path index bytes id allowed w o =
      let drawn : IsOpened (after_draw s) journal = entries-opened s (after_draw s).ids s.held.chunks journal o o.objects o.chunks in
      let object_is : (x : Id12) (offset size : ℕ) → Object id 0 (length bytes) ≡ Object x offset size → id ≡ x = λ x offset size e. cc in
      chunk-opened (after_draw s) path index (Object id 0 (length bytes)) (length bytes) (taken (nodes_seen s) path index (length bytes) allowed) journal
      (λ x offset size e. subst (λ (y : Id12). WasPut journal (Chunk_key y)) (object_is x offset size e) (object-put client id bytes start journal good once w))
      (bytes, object-bytes client id bytes start journal good once w, refl) drawn

  set-did : (edit : EditCall) (s t : SessionState) (shown : List Shown) (path index bytes : List ℕ) → ((id : Id8) → edit_of edit id (overlay put s) ≡ Some (Set path index bytes)) → (shown ≡ []) × WasSet client s path index bytes t start journal → Did put journal s edit t shown
  set-did edit s t shown path index bytes asks d = record { took = by_length d.1.is; silent = d.0 }
    where
      w : WasSet client s path index bytes t start journal
      w = d.1

      by_length : ((length bytes ≤ most_inline) × (t ≡ with_chunk s path index (Inline bytes))) ⊎ WasPutOut client s path index bytes t start journal → Took put journal s edit t
      by_length (inl short) = record {
        id = some_id put journal s;
        made = Set path index bytes;
        asked = asks (some_id put journal s);
        takes = sets put journal s path index bytes (Inline bytes) s.ids t w.taken refl short.1;
        opened = λ o. subst (λ (x : SessionState). IsOpened x journal) (sym short.1) (short-opened s path index bytes w.taken o);
        rows = ap (λ (x : SessionState). x.rows) short.1;
        at = ap (λ (x : SessionState). x.base) short.1;
      }
      by_length (inr out) = record {
        id = some_id put journal s;
        made = Set path index bytes;
        asked = asks (some_id put journal s);
        takes = sets put journal s path index bytes (Object out.id 0 (length bytes)) (after_draw s).ids t w.taken (object-bytes client out.id bytes start journal good once out.put) out.is;
        opened = λ o. subst (λ (x : SessionState). IsOpened x journal) (sym out.is) (out-opened s path index bytes out.id w.taken out.put o);
        rows = ap (λ (x : SessionState). x.rows) out.is;
        at = ap (λ (x : SessionState). x.base) out.is;
      }

  key_set-did : (key bytes : List ℕ) (s t : SessionState) (shown : List Shown) (o : Option ZarrKey) → key_of key ≡ o → DidPlay client (line.key_set_deed bytes o s) s start shown t journal → Did put journal s (E.KeySet key bytes) t shown
  key_set-did key bytes s t shown None is d = absurd cc
  key_set-did key bytes s t shown (Some (K.Meta path)) is d =
      silent-did put journal s (E.KeySet key bytes) t shown (meta_put s path bytes)
      (λ e. put-took put journal s (E.KeySet key bytes) path bytes t (get (nodes_seen s) path) (λ id. ap (λ (k : Option ZarrKey). key_put k id bytes (overlay put s)) is) e) d
  key_set-did key bytes s t shown (Some (K.Chunk path index)) is d = set-did (E.KeySet key bytes) s t shown path index bytes (λ id. ap (λ (k : Option ZarrKey). key_put k id bytes (overlay put s)) is) d

  -- such an edit, or numbers were put into a box
  abbrev pub DidOne : EditCall → SessionState → SessionState → List Shown → Type 0
  DidOne (E.Put place numbers) s t shown = (shown ≡ []) × WasWritten client s place.path place.from place.to numbers t start journal
  DidOne edit s t shown = Did put journal s edit t shown

  pub edit-did : (edit : EditCall) (s t : SessionState) (shown : List Shown) → DidPlay client (line.edit_deed edit s) s start shown t journal → DidOne edit s t shown
  unfolding key_erased
  edit-did (E.Group path) s t shown d =
      silent-did put journal s (E.Group path) t shown (session_of (group_added s path group_text)) (λ e. added-took put journal s (E.Group path) group_fault (λ bad. refl) path group_text t (λ id. refl) (group_added s path group_text) refl e) d
  edit-did (E.Array path text) s t shown d =
      silent-did put journal s (E.Array path text) t shown (session_of (array_added s path text)) (λ e. added-took put journal s (E.Array path text) array_fault (λ bad. refl) path text t (λ id. refl) (array_added s path text) refl e) d
  edit-did (E.Make path text) s t shown d =
      silent-did put journal s (E.Make path text) t shown (session_of (node_added s path text)) (λ e. added-took put journal s (E.Make path text) node_fault (λ bad. refl) path text t (λ id. refl) (node_added s path text) refl e) d
  edit-did (E.Meta path text) s t shown d = silent-did put journal s (E.Meta path text) t shown (meta_set s path text) (λ e. text-took put journal s (E.Meta path text) path text t refl e) d
  edit-did (E.Drop path) s t shown d = silent-did put journal s (E.Drop path) t shown (node_dropped s path) (λ e. drop-took put journal s (E.Drop path) path t refl e) d
  edit-did (E.Unset path index) s t shown d = silent-did put journal s (E.Unset path index) t shown (chunk_unset s path index) (λ e. unset-took put journal s (E.Unset path index) path index t refl e) d
  edit-did (E.KeyErase key) s t shown d = silent-did put journal s (E.KeyErase key) t shown (key_erased s key) (λ e. erased-took put journal s (E.KeyErase key) t (key_of key) refl e) d
  edit-did (E.Set path index bytes) s t shown d = set-did (E.Set path index bytes) s t shown path index bytes (λ id. refl) d
  edit-did (E.Fill path index byte) s t shown d = set-did (E.Fill path index byte) s t shown path index (filled s path byte) (λ id. refl) d
  edit-did (E.Put place numbers) s t shown d = d
  edit-did (E.KeySet key bytes) s t shown d = key_set-did key bytes s t shown (key_of key) refl d

  made-edits : (edit : EditCall) (s t : SessionState) (shown : List Shown) → Did put journal s edit t shown → AreNormal put s t → Edits edit (overlay put s) shown (overlay put t)
  made-edits edit s t shown d n = record { id = d.took.id; made = d.took.made; asked = d.took.asked; changed = d.took.takes n; silent = d.silent }

  pub did-edits : (edit : EditCall) (s t : SessionState) (shown : List Shown) → DidOne edit s t shown → KeepsFrozen s.held s.rows → AreNormal put s t → Changed edit (overlay put s) shown (overlay put t)
  did-edits (E.Put place numbers) s t shown d frozen n =
      let w = d.1 in
      let at = at_array s place.path w.node w.array w.found in
      record {
        array = w.array;
        there = ap (option_and_then (λ (node : Node). array_in node.text)) at.found ∙ at.is;
        count = w.count;
        counted = w.counted;
        fit = w.fit;
        box = w.tree once put (extends-same put) frozen n.before.well_formed;
        silent = d.0;
      }
  did-edits edit s t shown d frozen n = made-edits edit s t shown d n

  -- ---- what a read shows
  nodes-shown : (number : ℕ) (rows : List (List ℕ × Node)) → map (line.node_shown number) (map listing rows) ≡ map (λ row. S.Node number (is_array row.1.text) row.0) rows
  nodes-shown number [] = refl
  nodes-shown number (row ∷ rows) = ap (λ (xs : List Shown). S.Node number (is_array row.1.text) row.0 ∷ xs) (nodes-shown number rows)

  list-shown : (number : ℕ) (path : List ℕ) (s t : SessionState) (shown : List Shown) (o : Option Node) → line.still s (line.nodes_shown number (if_there o (beneath s path))) ≡ Ok (shown, t)
      → (option_map (λ (node : Node). beneath_shown number (overlay put s) path) o ≡ Some shown) × (t ≡ s)
  list-shown number path s t shown None e = absurd cc
  list-shown number path s t shown (Some node) e =
      let same = pair-same (map (line.node_shown number) (beneath s path), s) (shown, t) e in
      (ap (λ (xs : List Shown). Some xs) (sym (nodes-shown number (filter (λ row. is_beneath path row.0) (entries (nodes_seen s)))) ∙ ap (λ (q : List Shown × SessionState). q.0) same), sym (ap (λ (q : List Shown × SessionState). q.1) same))

  get-shown : (number : ℕ) (s t : SessionState) (shown : List Shown) (o : Option Node) → line.still s (line.meta_shown number (ok_or (option_map (λ (n : Node). n.text) o) (Refused.Edit Fault.NoNode))) ≡ Ok (shown, t)
      → (option_map (λ (node : Node). S.Meta number node.text ∷ []) o ≡ Some shown) × (t ≡ s)
  get-shown number s t shown None e = absurd cc
  get-shown number s t shown (Some node) e =
      let same = pair-same (S.Meta number node.text ∷ [], s) (shown, t) e in
      (ap (λ (q : List Shown × SessionState). Some q.0) same, sym (ap (λ (q : List Shown × SessionState). q.1) same))

  chunk-shown : (number : ℕ) (value : Value) (o : Option (List ℕ)) → o ≡ value_of value → chunk_shown number o ≡ line.value_shown number value
  chunk-shown number (Bytes bytes) o e = ap (chunk_shown number) e
  chunk-shown number Fill o e = ap (chunk_shown number) e

  chunk_key-shown : (number : ℕ) (value : Value) (o : Option (List ℕ)) → o ≡ value_of value → S.Key number o ≡ line.chunk_key_shown number value
  chunk_key-shown number (Bytes bytes) o e = ap (S.Key number) e
  chunk_key-shown number Fill o e = ap (S.Key number) e

  -- the bytes that a read told are those of the tree
  held-is : (s : SessionState) (path index : List ℕ) (value : Value) → KeepsFrozen s.held s.rows → IsChunk s path index value journal → (overlay put s).chunk path index ≡ value_of value
  held-is s path index value frozen is = is once put (extends-same put) frozen

  key_get-shown : (number : ℕ) (s t : SessionState) (shown : List Shown) (o : Option ZarrKey) → KeepsFrozen s.held s.rows → DidPlay client (line.key_get_deed number o s) s start shown t journal → (key_shown number o (overlay put s) ≡ Some shown) × (t ≡ s)
  key_get-shown number s t shown None frozen d = absurd cc
  key_get-shown number s t shown (Some (K.Meta path)) frozen d = meta (get (nodes_seen s) path) d
    where
      meta : (o : Option Node) → ◌≡◌ {A = Result (List Shown × SessionState) Refusal} (Ok (line.key_shown number (node_value o) ∷ [], s)) (Ok (shown, t)) → (Some (S.Key number (option_map (λ (node : Node). node.text) o) ∷ []) ≡ Some shown) × (t ≡ s)
      meta None e =
          let same = pair-same (S.Key number None ∷ [], s) (shown, t) e in
          (ap (λ (q : List Shown × SessionState). Some q.0) same, sym (ap (λ (q : List Shown × SessionState). q.1) same))
      meta (Some node) e =
          let same = pair-same (S.Key number (Some node.text) ∷ [], s) (shown, t) e in
          (ap (λ (q : List Shown × SessionState). Some q.0) same, sym (ap (λ (q : List Shown × SessionState). q.1) same))
  key_get-shown number s t shown (Some (K.Chunk path index)) frozen d =
      (ap (λ (x : Shown). Some (x ∷ [])) (chunk_key-shown number d.1 ((overlay put s).chunk path index) (held-is s path index d.1 frozen d.3)) ∙ ap (λ (xs : List Shown). Some xs) (sym d.2), d.0)

  -- a read leaves the session
  still-stays : (s t : SessionState) (shown : List Shown) (r : Result (List Shown) Refusal) → line.still s r ≡ Ok (shown, t) → t ≡ s
  still-stays s t shown (Ok xs) e = sym (ap (λ (q : List Shown × SessionState). q.1) (pair-same (xs, s) (shown, t) e))
  still-stays s t shown (Err why) e = absurd cc

  key-stays : (number : ℕ) (s t : SessionState) (shown : List Shown) (o : Option ZarrKey) → DidPlay client (line.key_get_deed number o s) s start shown t journal → t ≡ s
  key-stays number s t shown None d = absurd cc
  key-stays number s t shown (Some (K.Meta path)) d = sym (ap (λ (q : List Shown × SessionState). q.1) (pair-same (line.key_shown number (meta_value s path) ∷ [], s) (shown, t) d))
  key-stays number s t shown (Some (K.Chunk path index)) d = d.0

  look-stays : (number : ℕ) (look : ReadCall) (s t : SessionState) (shown : List Shown) → DidPlay client (line.read_deed number look s) s start shown t journal → t ≡ s
  look-stays number (R.List path) s t shown d = still-stays s t shown (line.read_by number (R.List path) s) d
  look-stays number (R.Get path) s t shown d = still-stays s t shown (line.read_by number (R.Get path) s) d
  look-stays number (R.Chunk path index) s t shown d = d.0
  look-stays number (R.Cells place) s t shown d = d.0
  look-stays number (R.KeyGet key) s t shown d = key-stays number s t shown (key_of key) d

  -- so are the numbers of a box
  cells-are : (s : SessionState) (path from to : List ℕ) (numbers : List ℤ) → KeepsFrozen s.held s.rows → IsWellFormed (overlay put s) → AreCells s path from to numbers journal → cells_of (overlay put s) path from to ≡ Some numbers
  cells-are s path from to numbers frozen well are = are once put (extends-same put) frozen well

  pub read-shown : (number : ℕ) (look : ReadCall) (s t : SessionState) (shown : List Shown) → KeepsFrozen s.held s.rows → IsWellFormed (overlay put s) → DidPlay client (line.read_deed number look s) s start shown t journal → (shown_of number look (overlay put s) ≡ Some shown) × (t ≡ s)
  read-shown number (R.List path) s t shown frozen well d = list-shown number path s t shown (get (nodes_seen s) path) d
  read-shown number (R.Get path) s t shown frozen well d = get-shown number s t shown (get (nodes_seen s) path) d
  read-shown number (R.Chunk path index) s t shown frozen well d =
      (ap (λ (x : Shown). Some (x ∷ [])) (chunk-shown number d.1 ((overlay put s).chunk path index) (held-is s path index d.1 frozen d.3)) ∙ ap (λ (xs : List Shown). Some xs) (sym d.2), d.0)
  read-shown number (R.Cells place) s t shown frozen well d = (ap (cells_shown number) (cells-are s place.path place.from place.to d.1 frozen well d.3) ∙ ap (λ (xs : List Shown). Some xs) (sym d.2), d.0)
  read-shown number (R.KeyGet key) s t shown frozen well d = key_get-shown number s t shown (key_of key) frozen d

  -- a property shows nothing, and leaves the tree
  prop-did : (s t : SessionState) (name value : List ℕ) (shown : List Shown) → line.silent (prop_added s name value) ≡ Ok (shown, t) → (shown ≡ []) × PropAdded s t name value
  prop-did s t name value shown d = by_answer (prop_added s name value) refl d
    where
      by_answer : (r : Result SessionState Refusal) → prop_added s name value ≡ r → line.silent r ≡ Ok (shown, t) → (shown ≡ []) × PropAdded s t name value
      by_answer (Ok u) is e =
          let same = pair-same ([], u) (shown, t) e in
          (sym (ap (λ (q : List Shown × SessionState). q.0) same), prop-added s t name value (is ∙ ap (λ (q : List Shown × SessionState). Ok q.1) same))
      by_answer (Err why) is e = absurd cc

  -- ---- a lease
  drawn-overlay : (s : SessionState) → overlay put (after_draw s) ≡ overlay put s
  drawn-overlay s = refl

  drawn-opened : (s : SessionState) → IsOpened s journal → IsOpened (after_draw s) journal
  drawn-opened s o = entries-opened s (after_draw s).ids s.held.chunks journal o o.objects o.chunks

  -- ---- a line
  pub line-does : (number : ℕ) (call : Call) (s t : SessionState) (shown : List Shown) → KeepsFrozen s.held s.rows → AreNormal put s t → DidPlay client (line.deed number call s) s start shown t journal → Does number call (overlay put s) shown (overlay put t)
  line-does number (C.Edit edit) s t shown frozen n d = did-edits edit s t shown (edit-did edit s t shown d) frozen n
  line-does number (C.Read look) s t shown frozen n d = let r = read-shown number look s t shown frozen n.before.well_formed d in (r.0, ap (overlay put) r.1)
  line-does number (C.Commit message) s t shown frozen n d = absurd d
  line-does number (C.Ref call) s t shown frozen n d =
      let same = pair-same ([], s) (shown, t) d in
      (sym (ap (λ (q : List Shown × SessionState). q.0) same), sym (ap (λ (q : List Shown × SessionState). overlay put q.1) same))
  line-does number C.Lease s t shown frozen n d = (d.id, None, d.shown_is, ap (overlay put) d.becomes ∙ drawn-overlay s)
  line-does number (C.Prop name value) s t shown frozen n d =
      let p = prop-did s t name value shown d in
      (p.0, subst (λ (x : SessionState). overlay put x ≡ overlay put s) (sym p.1.is) refl)

  -- it knows as much of the journal, and has the same base
  pub record GoesOn (s t : SessionState) : Type 0 where
    pub opened : IsOpened t journal
    pub rows : t.rows ≡ s.rows
    pub at : t.base ≡ s.base

  same-goes : (s t : SessionState) → t ≡ s → IsOpened s journal → GoesOn s t
  same-goes s t is o = record { opened = subst (λ (x : SessionState). IsOpened x journal) (sym is) o; rows = ap (λ (x : SessionState). x.rows) is; at = ap (λ (x : SessionState). x.base) is }

  did-goes : (edit : EditCall) (s t : SessionState) (shown : List Shown) → Did put journal s edit t shown → IsOpened s journal → GoesOn s t
  did-goes edit s t shown d o = record { opened = d.took.opened o; rows = d.took.rows; at = d.took.at }

  -- chunks that were set one after another
  sets-go : (path : List ℕ) (chunks : List (List ℕ × List ℕ)) (s t : SessionState) → AreSet client s path chunks t start journal → IsOpened s journal → GoesOn s t
  sets-go path [] s t a o = same-goes s t a o
  sets-go path (c ∷ cs) s t a o =
      let one = did-goes (E.Set path c.0 c.1) s a.0 [] (set-did (E.Set path c.0 c.1) s a.0 [] path c.0 c.1 (λ id. refl) (refl, a.1)) o in
      let rest = sets-go path cs a.0 t a.2 one.opened in
      record { opened = rest.opened; rows = rest.rows ∙ one.rows; at = rest.at ∙ one.at }

  edit-goes : (edit : EditCall) (s t : SessionState) (shown : List Shown) → DidOne edit s t shown → IsOpened s journal → GoesOn s t
  edit-goes (E.Put place numbers) s t shown d o = sets-go place.path d.1.chunks s t d.1.set o
  edit-goes edit s t shown d o = did-goes edit s t shown d o

  pub line-goes : (number : ℕ) (call : Call) (s t : SessionState) (shown : List Shown) → DidPlay client (line.deed number call s) s start shown t journal → IsOpened s journal → GoesOn s t
  line-goes number (C.Edit edit) s t shown d o = edit-goes edit s t shown (edit-did edit s t shown d) o
  line-goes number (C.Read look) s t shown d o = same-goes s t (look-stays number look s t shown d) o
  line-goes number (C.Commit message) s t shown d o = absurd d
  line-goes number C.Lease s t shown d o = record { opened = subst (λ (x : SessionState). IsOpened x journal) (sym d.becomes) (drawn-opened s o); rows = ap (λ (x : SessionState). x.rows) d.becomes; at = ap (λ (x : SessionState). x.base) d.becomes }
  line-goes number (C.Prop name value) s t shown d o =
      let a = (prop-did s t name value shown d).1 in
      record { opened = prop-opened s t name value journal a o; rows = ap (λ (x : SessionState). x.rows) a.is; at = ap (λ (x : SessionState). x.base) a.is }
  line-goes number (C.Ref call) s t shown d o = same-goes s t (sym (ap (λ (q : List Shown × SessionState). q.1) (pair-same ([], s) (shown, t) d))) o

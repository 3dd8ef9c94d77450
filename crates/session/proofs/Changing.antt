-- What other metadata and a dropped node answer and leave.
use Rattle.std.proofs.Common.{◌≡◌, ℕ, ◌≤◌, ◌+◌, cond, not, ◌||◌, Bool, true, false, T, List, [], ◌∷◌, map, length, refl, sym, ap, subst, ◌∙◌, arith}
use Rattle.std.specs.Prelude.{Option, None, Some, is_some, option_map, Result, Ok, Err}
use Rattle.std.specs.declared.cmp.Ordering.{Ordering}
use Rattle.std.specs.declared.cmp.Ordering.TheVariants.{Less, Equal, Greater}
use Rattle.std.specs.Ordering.{eq_by_cmp, is_eq, is_lt}
use Rattle.std.specs.Option.{option_or}
use Rattle.std.specs.List.{IsDistinct, AllByRecursion}
use Rattle.std.specs.FinMap.{FinMap, get, insert, keys, entries, entries_sorted, is_sorted, len, len-entries, len-insert, contains_key, contains_key-keys}
use Rattle.std.proofs.lemmas.Cmp.{eq_by_cmp_equiv}
use Rattle.std.proofs.lemmas.List.{length-map}
use Rattle.std.proofs.lemmas.Map.Made.{length-le_from_is_member}
use Rattle.ice_ids.specs.declared.Id8.{Id8}
use Rattle.ice_ids.specs.Text.{same_id8}
use Rattle.zarr_path.specs.Paths.{path_cmp, is_within}
use Rattle.zarr_path.proofs.OrderLaws.{total}
use Rattle.zarr_meta.specs.declared.metas.Meta.{Meta}
use Rattle.zarr_meta.specs.Meta.{meta_of}
use Rattle.zarr_tree.specs.declared.edit.EditFault.{EditFault}
use Rattle.zarr_tree.specs.declared.edit.EditFault.TheVariants as E
use Rattle.zarr_tree.specs.Nodes.{Node}
use Rattle.zarr_tree.specs.Edits.{most_nodes, with_text}
use Rattle.zarr_tree.specs.Changes.{is_gone, patched, has_id}
use Rattle.zarr_tree.specs.Touched.{lists}
use Rattle.zarr_tree.specs.Held.{Held, Rows, meta_in, nodes_over}
use Rattle.zarr_tree.proofs.Maps.{get-where}
use Rattle.zarr_tree.proofs.Apply.{Gone, gone-intro, gone-elim}
use Rattle.zarr_changes.specs.Edits.{with_id, with_row, with_meta, with_text_at, with_dropped, without_node}
use Rattle.zarr_changes.specs.Sets.{Enters, text_refusal, drop_refusal}
use Rattle.zarr_changes.specs.inside.Own.{own_node}
use Rattle.zarr_tree.proofs.RowLaws.{is_below, first, second}
use Rattle.zarr_changes.proofs.Over.{tree, node-over, over-added}
use Rattle.zarr_changes.proofs.DropLaws.{lists-with}
use Rattle.manifest_file.specs.declared.manifest.Place.{Place}
use Rattle.store_api.specs.declared.machines.Refusal.{Refusal}
use Rattle.store_api.specs.declared.machines.Refusal.TheVariants as R
use Rattle.session.specs.Sessions.{SessionState, base_nodes, nodes_seen, writes}
use Rattle.session.specs.Editing.{meta_set, node_dropped, node_fault, Leaves, refusal_of_edit, unless_bad, unless_refused}
use Rattle.session.specs.inside.Reads.{Reads}
use Rattle.session.proofs.Refusing.{unwritten, written, faulty, allowed, refused_by, taken}
use Rattle.session.proofs.Adding.{seen-added}

abbrev Nodes : Type 0
Nodes = FinMap path_cmp Node

-- ---- the edit is refused
pub told : (expected : Result SessionState Refusal) (s : SessionState) (o : Option EditFault) (entered after : Held Place) (fault : EditFault) → (o ≡ Some fault → expected ≡ Err (refusal_of_edit fault)) → Enters o entered s.held (Err fault) after
    → Leaves expected s (Err (refusal_of_edit fault)) (record s { held = after })
told expected s o entered after E.NodeExists k e = (k e.0, ap (λ (h : Held Place). record s { held = h }) e.1)
told expected s o entered after E.NoParent k e = (k e.0, ap (λ (h : Held Place). record s { held = h }) e.1)
told expected s o entered after E.Full k e = (k e.0, ap (λ (h : Held Place). record s { held = h }) e.1)
told expected s o entered after E.NoNode k e = (k e.0, ap (λ (h : Held Place). record s { held = h }) e.1)
told expected s o entered after (E.FrozenField part) k e = (k e.0, ap (λ (h : Held Place). record s { held = h }) e.1)
told expected s o entered after E.NotArray k e = (k e.0, ap (λ (h : Held Place). record s { held = h }) e.1)
told expected s o entered after E.OutOfGrid k e = (k e.0, ap (λ (h : Held Place). record s { held = h }) e.1)
told expected s o entered after (E.ChunkLength want got) k e = (k e.0, ap (λ (h : Held Place). record s { held = h }) e.1)
told expected s o entered after E.NoMemory k e = ap (λ (h : Held Place). record s { held = h }) e

same_held : (o : Option EditFault) (entered before after : Held Place) (fault : EditFault) → Enters o entered before (Err fault) after → after ≡ before
same_held o entered before after E.NodeExists e = e.1
same_held o entered before after E.NoParent e = e.1
same_held o entered before after E.Full e = e.1
same_held o entered before after E.NoNode e = e.1
same_held o entered before after (E.FrozenField part) e = e.1
same_held o entered before after E.NotArray e = e.1
same_held o entered before after E.OutOfGrid e = e.1
same_held o entered before after (E.ChunkLength want got) e = e.1
same_held o entered before after E.NoMemory e = e

-- ---- other metadata
module _ (s : SessionState) (p text : List ℕ) where
  abbrev set_to : List ℕ → Result SessionState Refusal
  set_to x = Ok (record s { held = with_text_at s.held (base_nodes s) p x })

  pub set-read_only : writes s ≡ false → meta_set s p text ≡ Err R.ReadOnly
  unfolding meta_set
  set-read_only e = unwritten (writes s) (unless_bad (node_fault (meta_of text)) (unless_refused (text_refusal (nodes_seen s) p text) (set_to text))) e

  pub set-bad_text : (refusal : Refusal) → writes s ≡ true → Reads node_fault text (Err refusal) → Leaves (meta_set s p text) s (Err refusal) s
  unfolding meta_set
  set-bad_text (R.BadMeta bad) w r = (faulty (writes s) (node_fault (meta_of text)) (unless_refused (text_refusal (nodes_seen s) p text) (set_to text)) bad w r, refl)
  set-bad_text R.NoMemory w r = refl
  set-bad_text _ w r = absurd r

  pub set-refused : (meta : Meta) (after : Held Place) (fault : EditFault) → writes s ≡ true → Reads node_fault text (Ok meta)
      → Enters (text_refusal (nodes_seen s) p meta.text) (with_text_at s.held (base_nodes s) p meta.text) s.held (Err fault) after → Leaves (meta_set s p text) s (Err (refusal_of_edit fault)) (record s { held = after })
  unfolding meta_set
  set-refused meta after fault w g e =
      told (meta_set s p text) s (text_refusal (nodes_seen s) p meta.text) (with_text_at s.held (base_nodes s) p meta.text) after fault
      (λ r. allowed (writes s) (node_fault (meta_of text)) _ w g.0 ∙ refused_by (text_refusal (nodes_seen s) p text) (set_to text) fault (sym (ap (text_refusal (nodes_seen s) p) g.1.0) ∙ r)) e

  pub set-done : (meta : Meta) (after : Held Place) (done : Unit {0}) → writes s ≡ true → Reads node_fault text (Ok meta)
      → Enters (text_refusal (nodes_seen s) p meta.text) (with_text_at s.held (base_nodes s) p meta.text) s.held (Ok done) after → meta_set s p text ≡ Ok (record s { held = after })
  unfolding meta_set
  set-done meta after done w g e =
      allowed (writes s) (node_fault (meta_of text)) _ w g.0 ∙ taken (text_refusal (nodes_seen s) p text) (set_to text) (sym (ap (text_refusal (nodes_seen s) p) g.1.0) ∙ e.0)
      ∙ sym (ap set_to g.1.0) ∙ sym (ap (λ (h : Held Place). Ok (record s { held = h })) e.1)

-- ---- dropped nodes
module _ (s : SessionState) (p : List ℕ) where
  abbrev dropped : Result SessionState Refusal
  dropped = Ok (record s { held = without_node s.held (base_nodes s) p })

  pub drop-read_only : writes s ≡ false → node_dropped s p ≡ Err R.ReadOnly
  unfolding node_dropped
  drop-read_only e = unwritten (writes s) (unless_refused (drop_refusal (nodes_seen s) p) dropped) e

  pub drop-refused : (after : Held Place) (fault : EditFault) → writes s ≡ true → Enters (drop_refusal (nodes_seen s) p) (without_node s.held (base_nodes s) p) s.held (Err fault) after
      → Leaves (node_dropped s p) s (Err (refusal_of_edit fault)) (record s { held = after })
  unfolding node_dropped
  drop-refused after fault w e =
      told (node_dropped s p) s (drop_refusal (nodes_seen s) p) (without_node s.held (base_nodes s) p) after fault (λ r. written (writes s) _ w ∙ refused_by (drop_refusal (nodes_seen s) p) dropped fault r) e

  pub drop-done : (after : Held Place) (done : Unit {0}) → writes s ≡ true → Enters (drop_refusal (nodes_seen s) p) (without_node s.held (base_nodes s) p) s.held (Ok done) after → node_dropped s p ≡ Ok (record s { held = after })
  unfolding node_dropped
  drop-done after done w e = written (writes s) _ w ∙ taken (drop_refusal (nodes_seen s) p) dropped e.0 ∙ sym (ap (λ (h : Held Place). Ok (record s { held = h })) e.1)

-- ---- a map of paths that another map has is no larger
differs : (o : Ordering) → T (is_lt o) → is_eq o ≡ false
differs Less h = refl
differs Equal h = absurd h
differs Greater h = absurd h

apart : (x : List ℕ) (es : Rows) → T (is_below path_cmp x es) → AllByRecursion (λ (y : List ℕ). eq_by_cmp path_cmp x y ≡ false) (map (λ (e : List ℕ × Node). e.0) es)
apart x [] h = tt
apart x (e ∷ es) h = (differs (path_cmp x e.0) (first (is_lt (path_cmp x e.0)) (is_below path_cmp x es) h), apart x es (second (is_lt (path_cmp x e.0)) (is_below path_cmp x es) h))

distinct : (es : Rows) → T (is_sorted path_cmp es) → IsDistinct (eq_by_cmp path_cmp) (map (λ (e : List ℕ × Node). e.0) es)
unfolding IsDistinct
distinct [] h = tt
distinct (e ∷ es) h = (apart e.0 es (first (is_below path_cmp e.0 es) (is_sorted path_cmp es) h), distinct es (second (is_below path_cmp e.0 es) (is_sorted path_cmp es) h))

no_more : (m n : Nodes) → ((q : List ℕ) → contains_key m q ≡ true → contains_key n q ≡ true) → len m ≤ len n
no_more m n within =
    let by_keys : length (keys m) ≤ length (keys n) =
    length-le_from_is_member (eq_by_cmp_equiv total) (keys m) (keys n) (distinct (entries m) (entries_sorted m)) (λ q h. sym (contains_key-keys n q) ∙ within q (contains_key-keys m q ∙ h))
    in
    omega (arith, by_keys, len-entries m, len-entries n, length-map (entries m) (λ (e : List ℕ × Node). e.0), length-map (entries n) (λ (e : List ℕ × Node). e.0))

pub at-most : {m n : Nodes} → m ≡ n → len m ≤ len n
at-most {m} {n} e = let same : len m ≡ len n = ap (λ (x : Nodes). len x) e in omega (arith, same)

-- ---- other metadata keeps the paths
same_there : (a : Option Node) (b : Bool) (f g : Node → Node) (o : Option Node) → is_some (option_or a (cond b None (option_map f o))) ≡ is_some (option_or a (cond b None (option_map g o)))
same_there (Some n) b f g o = refl
same_there None true f g o = refl
same_there None false f g None = refl
same_there None false f g (Some n) = refl

module _ (h : Held Place) (nodes : Nodes) where
  patched-few : (metas : List (Id8 × List ℕ)) → len (nodes_over (record h { metas = metas }) nodes) ≤ len (nodes_over h nodes)
  patched-few metas = no_more _ _ (λ q e.
      ap is_some (node-over h nodes q) ∙ same_there (get h.added q) (is_gone (lists h.dropped) nodes q) (patched (meta_in h.metas)) (patched (meta_in metas)) (get nodes q)
      ∙ sym (ap is_some (node-over (record h { metas = metas }) nodes q)) ∙ e)

  insert-few : (seen : Nodes) (p : List ℕ) (n : Node) → contains_key seen p ≡ true → len (insert seen p n) ≤ len seen
  insert-few seen p n e = let equal : len (insert seen p n) ≡ len seen = len-insert total seen p n ∙ ap (λ (b : Bool). cond b (len seen) (len seen + 1)) e in omega (arith, equal)

  meta-few : (p text : List ℕ) (a o : Option Node) → get h.added p ≡ a → len (nodes_over (with_meta h p text a o) nodes) ≤ len (nodes_over h nodes)
  meta-few p text (Some n) o e =
      subst (λ (m : Nodes). len m ≤ len (nodes_over h nodes)) (sym (seen-added h nodes p (with_text text n))) (insert-few (nodes_over h nodes) p (with_text text n) (ap is_some (over-added h nodes p (Some n) e)))
  meta-few p text None (Some n) e = patched-few (with_row h.metas n.id text)
  meta-few p text None None e = omega arith

  -- ---- and a drop takes some away
  or-left : (a b : Bool) → a ≡ true → (a || b) ≡ true
  or-left true b e = refl
  or-left false b e = cc

  dropped-more : (ids : List Id8) (o own : Option Node) (id : Id8) → lists ids id ≡ true → lists (with_dropped ids o own) id ≡ true
  dropped-more ids None own id e = e
  dropped-more ids (Some n) own id e = elim (has_id n.id own) as (λ (b : Bool). lists (cond b (with_id ids n.id) ids) id ≡ true) [
    | true ↦ lists-with ids n.id id ∙ or-left (lists ids id) (same_id8 n.id id) e
    | false ↦ e
  ]

  gone-more : (d e : Id8 → Bool) → ((id : Id8) → d id ≡ true → e id ≡ true) → (q : List ℕ) → is_gone d nodes q ≡ true → is_gone e nodes q ≡ true
  gone-more d e more q g =
      let x : Gone d (tree h nodes) q = gone-elim d (tree h nodes) q g in
      gone-intro e (tree h nodes) q (record { path = x.path; node = x.node; found = x.found; dropped_id = more x.node.id x.dropped_id; within = x.within })

  own_there : (before after : Bool) (f g : Node → Node) (o : Option Node) → (before ≡ true → after ≡ true) → is_some (cond after None (option_map g o)) ≡ true → is_some (cond before None (option_map f o)) ≡ true
  own_there before true f g o more e = cc
  own_there true false f g o more e = let bad : false ≡ true = more refl in cc
  own_there false false f g None more e = e
  own_there false false f g (Some n) more e = refl

  was_there : (a o : Option Node) (kept before after : Bool) (f g : Node → Node) → (before ≡ true → after ≡ true) → is_some (option_or (cond kept a None) (cond after None (option_map g o))) ≡ true
      → is_some (option_or a (cond before None (option_map f o))) ≡ true
  was_there (Some n) o kept before after f g more e = refl
  was_there None o true before after f g more e = own_there before after f g o more e
  was_there None o false before after f g more e = own_there before after f g o more e

  without-few : (p : List ℕ) → len (nodes_over (without_node h nodes p) nodes) ≤ len (nodes_over h nodes)
  without-few p =
      let after = without_node h nodes p in
      no_more _ _ (λ q e.
      ap is_some (node-over h nodes q)
      ∙ was_there (get h.added q) (get nodes q) (not (is_within p q)) (is_gone (lists h.dropped) nodes q) (is_gone (lists after.dropped) nodes q) (patched (meta_in h.metas)) (patched (meta_in after.metas))
      (gone-more (lists h.dropped) (lists after.dropped) (dropped-more h.dropped (get (nodes_over h nodes) p) (get nodes p)) q)
      (sym (ap (λ (o : Option Node). is_some (option_or o (own_node after nodes q))) (get-where h.added (λ r. not (is_within p r)) q)) ∙ sym (ap is_some (node-over after nodes q)) ∙ e))

  -- ---- so there are no more nodes than a tree may have
  within_most : (a b : ℕ) → a ≤ b → b ≤ most_nodes → a ≤ most_nodes
  within_most a b e f = omega arith

  abbrev pub IsFew : Held Place → Type 0
  IsFew held = len (nodes_over held nodes) ≤ most_nodes

  pub few-entered : (o : Option EditFault) (entered after : Held Place) (result : Result (Unit {0}) EditFault) → IsFew h → len (nodes_over entered nodes) ≤ len (nodes_over h nodes) → Enters o entered h result after → IsFew after
  few-entered o entered after (Ok done) few less e = subst (λ (x : Held Place). len (nodes_over x nodes) ≤ most_nodes) (sym e.1) (within_most _ _ less few)
  few-entered o entered after (Err fault) few less e = subst (λ (x : Held Place). len (nodes_over x nodes) ≤ most_nodes) (sym (same_held o entered h after fault e)) few

  pub few-set : (p text : List ℕ) (after : Held Place) (result : Result (Unit {0}) EditFault) → IsFew h → Enters (text_refusal (nodes_over h nodes) p text) (with_text_at h nodes p text) h result after → IsFew after
  few-set p text after result few e = few-entered (text_refusal (nodes_over h nodes) p text) (with_text_at h nodes p text) after result few (meta-few p text (get h.added p) (get (nodes_over h nodes) p) refl) e

  pub few-dropped : (p : List ℕ) (after : Held Place) (result : Result (Unit {0}) EditFault) → IsFew h → Enters (drop_refusal (nodes_over h nodes) p) (without_node h nodes p) h result after → IsFew after
  few-dropped p after result few e = few-entered (drop_refusal (nodes_over h nodes) p) (without_node h nodes p) after result few (without-few p) e

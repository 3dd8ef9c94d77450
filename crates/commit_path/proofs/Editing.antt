-- What a session knows, and that it can be written, stays so through edits of nodes.
use Rattle.std.proofs.Common.{◌≡◌, ◌⊎◌, inl, inr, ℕ, ◌≤◌, Bool, true, false, cond, not, List, refl, sym, ◌∙◌, ap, subst}
use Rattle.std.specs.Prelude.{Option, Some, None, is_some, unwrap_or, Result, Ok, Err}
use Rattle.std.specs.Result.{result_ok}
use Rattle.std.specs.Str.{is_utf8}
use Rattle.std.specs.FinMap.{FinMap, get, insert, len}
use Rattle.std.proofs.lemmas.Str.{IsUtf8-from_is_utf8}
use Rattle.ice_ids.specs.declared.Id8.{Id8}
use Rattle.ice_ids.specs.declared.drawing.AnyIds.{AnyIds}
use Rattle.ice_ids.specs.Text.{same_id8}
use Rattle.ice_ids.specs.Drawing.{drawn8, after8}
use Rattle.ice_ids.proofs.Drawn.{drawn8-IsId8}
use Rattle.zarr_path.specs.Paths.{path_cmp, same_path, is_path, is_within}
use Rattle.zarr_path.proofs.OrderLaws.{same_path-true}
use Rattle.zarr_meta.specs.declared.faults.MetaFault.{MetaFault}
use Rattle.zarr_meta.specs.declared.views.MetaView.{MetaView}
use Rattle.zarr_meta.specs.Meta.{meta_of}
use Rattle.zarr_tree.specs.declared.edit.EditFault.{EditFault}
use Rattle.zarr_tree.specs.Nodes.{Node, is_metadata, SameFrozen}
use Rattle.zarr_tree.specs.Trees.{Tree, node_at}
use Rattle.zarr_tree.specs.Edits.{most_nodes, Add, SetMeta, Drop, refusal, with_text}
use Rattle.zarr_tree.specs.Changes.{Changes, has_id_within, nodes_under, apply, with_meta, extended, IsOver}
use Rattle.zarr_tree.specs.Held.{Held, HeldEntry, entry_in, changes_of, nodes_over}
use Rattle.zarr_tree.proofs.Maps.{get-put, get-where}
use Rattle.zarr_tree.proofs.NodeLaws.{frozen-trans}
use Rattle.zarr_tree.proofs.Apply.{id-true, Own, node_cases}
use Rattle.zarr_tree.proofs.Extend.{own-id, Kept, kept_of}
use Rattle.zarr_tree.proofs.Over.{over-law}
use Rattle.zarr_changes.specs.Edits.{with_added, with_text_at, without_node}
use Rattle.zarr_changes.specs.Edits as held
use Rattle.zarr_changes.specs.Sets.{add_refusal, text_refusal, drop_refusal}
use Rattle.zarr_changes.proofs.EditLaws.{text-law}
use Rattle.zarr_changes.proofs.DropLaws.{drop-law}
use Rattle.manifest_file.specs.declared.manifest.Place.{Place}
use Rattle.manifest_file.specs.declared.manifest.Place.TheVariants.{Object}
use Rattle.changed_snapshot.specs.Laws.{IsFineNode}
use Rattle.object_store.specs.declared.events.Event.{Event}
use Rattle.store_api.specs.declared.machines.Refusal.{Refusal}
use Rattle.store_api.specs.Journal.{puts_of, IsOnce}
use Rattle.session.specs.Sessions.{SessionState, writes, base_nodes, nodes_seen}
use Rattle.session.specs.Editing.{if_writes, unless_bad, unless_refused, drawn_node, with_node, added, node_fault, meta_set, node_dropped}
use Rattle.session.specs.Editing as session
use Rattle.session.proofs.Adding.{few-after}
use Rattle.session.proofs.Changing.{few-set, few-dropped}
use Rattle.commit_path.specs.Owed.{HasChunks}
use Rattle.commit_path.specs.Opened.{ObjectsPut, IsOpened}
use Rattle.commit_path.specs.Spelled.{IsOtherText, AreSized, IsSpelled}
use Rattle.commit_path.proofs.Entries.{AreFewer, filter-fewer}
use Rattle.commit_path.specs.Laws.{TellsFaults}

abbrev Nodes : Type 0
Nodes = FinMap path_cmp Node

-- ---- what an edit that was done says
pub written : {A : Type 0} (w : Bool) (r : Result A Refusal) (x : A) → if_writes w r ≡ Ok x → r ≡ Ok x
written true r x e = e
written false r x e = cc

good : {A : Type 0} (o : Option MetaFault) (r : Result A Refusal) (x : A) → unless_bad o r ≡ Ok x → (o ≡ None) × (r ≡ Ok x)
good None r x e = (refl, e)
good (Some fault) r x e = cc

pub taken : {A : Type 0} (o : Option EditFault) (r : Result A Refusal) (x : A) → unless_refused o r ≡ Ok x → (o ≡ None) × (r ≡ Ok x)
taken None r x e = (refl, e)
taken (Some fault) r x e = cc

pub result_same : {A : Type 0} (x y : A) → ◌≡◌ {A = Result A Refusal} (Ok x) (Ok y) → x ≡ y
result_same x y e = cc

-- a text without fault is metadata
no_fault : (fault : Result MetaView MetaFault → Option MetaFault) (text : List ℕ) → TellsFaults fault → fault (meta_of text) ≡ None → is_metadata text ≡ true
no_fault fault text tells e = by_reading (meta_of text) e
  where
    by_reading : (r : Result MetaView MetaFault) → fault r ≡ None → is_some (result_ok r) ≡ true
    by_reading (Ok v) e = refl
    by_reading (Err bad) e = let told : fault (Err bad) ≡ Some bad = tells bad in cc

pub record Added (s t : SessionState) (path text : List ℕ) (id : Id8) : Type 0 where
  pub metadata : is_metadata text ≡ true
  pub allowed : add_refusal (nodes_seen s) path ≡ None
  pub drawn : drawn8 s.ids ≡ Some id
  pub is : t ≡ with_node s path text id

record Drew (s t : SessionState) (path text : List ℕ) (id : Id8) : Type 0 where
  drawn : drawn8 s.ids ≡ Some id
  is : t ≡ with_node s path text id

drew : (s t : SessionState) (path text : List ℕ) (id : Id8) (o : Option Id8) → drawn8 s.ids ≡ o → drawn_node s path text o ≡ Ok (id, t) → Drew s t path text id
drew s t path text id None d e = cc
drew s t path text id (Some i) d e =
    let p = result_same (i, with_node s path text i) (id, t) e in
    let same : i ≡ id = ap (λ (q : Id8 × SessionState). q.0) p in
    record {
      drawn = d ∙ ap (λ (x : Id8). Some x) same;
      is = sym (ap (λ (q : Id8 × SessionState). q.1) p) ∙ ap (with_node s path text) same;
    }

pub node-added : (fault : Result MetaView MetaFault → Option MetaFault) (s t : SessionState) (path text : List ℕ) (id : Id8) → TellsFaults fault → added fault s path text ≡ Ok (id, t) → Added s t path text id
unfolding added
node-added fault s t path text id tells e =
    let by_text = good (fault (meta_of text)) _ (id, t) (written (writes s) _ (id, t) e) in
    let by_tree = taken (add_refusal (nodes_seen s) path) _ (id, t) by_text.1 in
    let by_draw : Drew s t path text id = drew s t path text id (drawn8 s.ids) refl by_tree.1 in
    record { metadata = no_fault fault text tells by_text.0; allowed = by_tree.0; drawn = by_draw.drawn; is = by_draw.is }

-- what an added node leaves, whatever its text
pub node-is : (fault : Result MetaView MetaFault → Option MetaFault) (s t : SessionState) (path text : List ℕ) (id : Id8) → added fault s path text ≡ Ok (id, t) → t ≡ with_node s path text id
unfolding added
node-is fault s t path text id e =
    let by_text = good (fault (meta_of text)) _ (id, t) (written (writes s) _ (id, t) e) in
    let by_tree = taken (add_refusal (nodes_seen s) path) _ (id, t) by_text.1 in
    let by_draw : Drew s t path text id = drew s t path text id (drawn8 s.ids) refl by_tree.1 in
    by_draw.is

pub record TextSet (s t : SessionState) (path text : List ℕ) : Type 0 where
  pub metadata : is_metadata text ≡ true
  pub allowed : text_refusal (nodes_seen s) path text ≡ None
  pub is : t ≡ session.text_changed s path text

pub text-set : (s t : SessionState) (path text : List ℕ) → meta_set s path text ≡ Ok t → TextSet s t path text
unfolding meta_set
text-set s t path text e =
    let by_text = good (node_fault (meta_of text)) _ t (written (writes s) _ t e) in
    let by_tree = taken (text_refusal (nodes_seen s) path text) _ t by_text.1 in
    record { metadata = no_fault node_fault text (λ bad. refl) by_text.0; allowed = by_tree.0; is = sym (result_same _ t by_tree.1) }

pub record Dropped (s t : SessionState) (path : List ℕ) : Type 0 where
  pub allowed : drop_refusal (nodes_seen s) path ≡ None
  pub is : t ≡ session.node_gone s path

pub node-dropped : (s t : SessionState) (path : List ℕ) → node_dropped s path ≡ Ok t → Dropped s t path
unfolding node_dropped
node-dropped s t path e =
    let by_tree = taken (drop_refusal (nodes_seen s) path) _ t (written (writes s) _ t e) in
    record { allowed = by_tree.0; is = sym (result_same _ t by_tree.1) }

-- ---- changes that can be written
-- the tree of a base's nodes alone
abbrev bare : Nodes → Tree
bare nodes = record { nodes = nodes; chunk = λ p i. None }

record Fine (nodes : Nodes) (c : Changes) : Type 0 where
  adds : (p : List ℕ) (n : Node) → get c.added p ≡ Some n → IsFineNode p n
  texts : (id : Id8) (text : List ℕ) → c.metas id ≡ Some text → is_metadata text ≡ true
  frozen : (id : Id8) (text : List ℕ) → c.metas id ≡ Some text → IsOtherText nodes id text
  over : IsOver c (bare nodes)

-- what holds of the new node and of each old one holds of each
each_put : (P : List ℕ → Node → Type 0) (m : Nodes) (path : List ℕ) (new : Node) → P path new → ((p : List ℕ) (n : Node) → get m p ≡ Some n → P p n) → (p : List ℕ) (n : Node) → get (insert m path new) p ≡ Some n → P p n
each_put P m path new here there p n e = by_path (same_path p path) refl (sym (get-put m path new p) ∙ e)
  where
    by_path : (b : Bool) → same_path p path ≡ b → cond b (Some new) (get m p) ≡ Some n → P p n
    by_path true t k = let node : new ≡ n = cc in subst (λ (x : Node). P p x) node (subst (λ (q : List ℕ). P q new) (sym (same_path-true p path t)) here)
    by_path false t k = there p n k

module _ (nodes : Nodes) (c : Changes) (f : Fine nodes c) where
  fine-add : (p : List ℕ) (n : Node) → IsFineNode p n → refusal (apply c (bare nodes)) (Add p n.id n.text) ≡ None → Fine nodes (extended c (bare nodes) (Add p n.id n.text))
  fine-add p n fine ok = record {
    adds = each_put IsFineNode c.added p n fine f.adds;
    texts = f.texts;
    frozen = f.frozen;
    over = over-law.kept c (bare nodes) (Add p n.id n.text) f.over fine.metadata ok;
  }

  -- ---- another text
  module _ (p text : List ℕ) (metadata : is_metadata text ≡ true) where
    set-adds : (a u : Option Node) → get c.added p ≡ a → (q : List ℕ) (n : Node) → get (with_meta c p text a u).added q ≡ Some n → IsFineNode q n
    set-adds (Some m) u e =
        let fine = f.adds p m e in
        each_put IsFineNode c.added p (with_text text m) (record { id = fine.id; path = fine.path; text = fine.text; metadata = metadata }) f.adds
    set-adds None None e = f.adds
    set-adds None (Some m) e = f.adds

    set-texts : (a u : Option Node) (id : Id8) (x : List ℕ) → (with_meta c p text a u).metas id ≡ Some x → is_metadata x ≡ true
    set-texts (Some m) u id x = f.texts id x
    set-texts None None id x = f.texts id x
    set-texts None (Some m) id x = elim (same_id8 id m.id) as (λ b. cond b (Some text) (c.metas id) ≡ Some x → is_metadata x ≡ true) [
      | true ↦ λ e. let same : text ≡ x = cc in subst (λ y. is_metadata y ≡ true) same metadata
      | false ↦ f.texts id x
    ]

    -- the node that has it is the base's, and the text before left what stays
    set-own : (m : Node) → Own c (bare nodes) p m → SameFrozen m.text text → IsOtherText nodes m.id text
    set-own m own kept = by_text (c.metas own.before.id) refl
      where
        by_text : (o : Option (List ℕ)) → c.metas own.before.id ≡ o → IsOtherText nodes m.id text
        by_text None e =
            let before : m.text ≡ own.before.text = ap (λ (x : Node). x.text) own.same ∙ ap (λ o. unwrap_or o own.before.text) e in
            record { path = p; node = own.before; found = own.found; same = sym (own-id c (bare nodes) p m own); frozen = subst (λ x. SameFrozen x text) before kept }
        by_text (Some x) e =
            let before : m.text ≡ x = ap (λ (y : Node). y.text) own.same ∙ ap (λ o. unwrap_or o own.before.text) e in
            let was : IsOtherText nodes own.before.id x = f.frozen own.before.id x e in
            record { path = was.path; node = was.node; found = was.found; same = was.same ∙ sym (own-id c (bare nodes) p m own); frozen = frozen-trans was.node.text x text was.frozen (subst (λ y. SameFrozen y text) before kept) }

    set-here : (m : Node) → get c.added p ≡ None → node_at (apply c (bare nodes)) p ≡ Some m → SameFrozen m.text text → IsOtherText nodes m.id text
    set-here m none found kept = by_case (node_cases c (bare nodes) p m found)
      where
        by_case : (get c.added p ≡ Some m) ⊎ Own c (bare nodes) p m → IsOtherText nodes m.id text
        by_case (inl e) = let bad : None ≡ Some m = sym none ∙ e in cc
        by_case (inr own) = set-own m own kept

    set-frozen : Kept (apply c (bare nodes)) p text → (a u : Option Node) → get c.added p ≡ a → node_at (apply c (bare nodes)) p ≡ u → (id : Id8) (x : List ℕ) → (with_meta c p text a u).metas id ≡ Some x → IsOtherText nodes id x
    set-frozen kept (Some m) u e g id x = f.frozen id x
    set-frozen kept None None e g id x = f.frozen id x
    set-frozen kept None (Some m) e g id x = elim (same_id8 id m.id) as (λ b. same_id8 id m.id ≡ b → cond b (Some text) (c.metas id) ≡ Some x → IsOtherText nodes id x) [
      | true ↦ λ s k.
          let node : kept.node ≡ m = cc (sym kept.found ∙ g) in
          let same : text ≡ x = cc k in
          subst (IsOtherText nodes id) same (subst (λ i. IsOtherText nodes i text) (sym (id-true id m.id s)) (set-here m e g (subst (λ (y : Node). SameFrozen y.text text) node kept.same)))
      | false ↦ λ s k. f.frozen id x k
    ] refl

    fine-set : refusal (apply c (bare nodes)) (SetMeta p text) ≡ None → Fine nodes (extended c (bare nodes) (SetMeta p text))
    fine-set ok = record {
      adds = set-adds (get c.added p) (node_at (apply c (bare nodes)) p) refl;
      texts = set-texts (get c.added p) (node_at (apply c (bare nodes)) p);
      frozen = set-frozen (kept_of (apply c (bare nodes)) p text ok) (get c.added p) (node_at (apply c (bare nodes)) p) refl refl;
      over = over-law.kept c (bare nodes) (SetMeta p text) f.over tt ok;
    }

  -- ---- nodes taken away
  if_left : (b : Bool) (o : Option (List ℕ)) (x : List ℕ) → cond b None o ≡ Some x → o ≡ Some x
  if_left true o x e = cc
  if_left false o x e = e

  if_kept : (b : Bool) (o : Option Node) (n : Node) → cond b o None ≡ Some n → o ≡ Some n
  if_kept true o n e = e
  if_kept false o n e = cc

  fine-drop : (p : List ℕ) → refusal (apply c (bare nodes)) (Drop p) ≡ None → Fine nodes (extended c (bare nodes) (Drop p))
  fine-drop p ok = record {
    adds = λ q n e. f.adds q n (if_kept (not (is_within p q)) (get c.added q) n (sym (get-where c.added (λ r. not (is_within p r)) q) ∙ e));
    texts = λ id x e. f.texts id x (if_left (has_id_within (nodes_under c nodes) p id) (c.metas id) x e);
    frozen = λ id x e. f.frozen id x (if_left (has_id_within (nodes_under c nodes) p id) (c.metas id) x e);
    over = over-law.kept c (bare nodes) (Drop p) f.over tt ok;
  }

-- ---- sessions
abbrev changes : Held Place → Changes
changes h = changes_of (λ place. None) h

fine-of : (s : SessionState) → IsSpelled s → Fine (base_nodes s) (changes s.held)
fine-of s w = record { adds = w.added; texts = w.texts; frozen = w.frozen; over = record { readable = λ p n e. (w.added p n e).metadata; free = w.free } }

spelled-by : (s : SessionState) (h : Held Place) (ids : AnyIds) → IsSpelled s → Fine (base_nodes s) (changes h) → AreSized h.chunks → len (nodes_over h (base_nodes s)) ≤ most_nodes → IsSpelled (record s { held = h; ids = ids })
spelled-by s h ids w f sized few = record {
  base = w.base;
  of_snapshot = record { file = w.of_snapshot.file; proper = w.of_snapshot.proper; rows = w.of_snapshot.rows; files = w.of_snapshot.files };
  added = f.adds;
  texts = f.texts;
  frozen = f.frozen;
  free = f.over.free;
  chunks = sized;
  props = w.props;
  few = few;
}

pub opened-by : (s : SessionState) (h : Held Place) (ids : AnyIds) (journal : List Event) → IsOpened s journal → ObjectsPut journal h.chunks → (IsOnce journal → HasChunks (puts_of journal) h.chunks) → IsOpened (record s { held = h; ids = ids }) journal
opened-by s h ids journal o objects chunks = record { named = o.named; put = o.put; had = o.had; rows = o.rows; objects = objects; chunks = chunks }

-- ---- fewer entries
pub sized-fewer : (old new : List (HeldEntry Place)) → AreFewer old new → AreSized old → AreSized new
sized-fewer old new f z node i entry e = z node i entry (f node i entry e)

pub fewer-opened : (s : SessionState) (h : Held Place) (ids : AnyIds) (journal : List Event) → AreFewer s.held.chunks h.chunks → IsOpened s journal → IsOpened (record s { held = h; ids = ids }) journal
fewer-opened s h ids journal f o = opened-by s h ids journal o (λ node i id offset size e. o.objects node i id offset size (f node i (Some (Object id offset size)) e)) (λ once node i place e. o.chunks once node i place (f node i (Some place) e))

pub same-fewer : (old new : List (HeldEntry Place)) → new ≡ old → AreFewer old new
same-fewer old new same node i x e = ap (λ (rows : List (HeldEntry Place)). entry_in rows node i) (sym same) ∙ e

pub added-spelled : (s t : SessionState) (path text : List ℕ) (id : Id8) → Added s t path text id → is_path path ≡ true → is_utf8 path ≡ true → IsSpelled s → IsSpelled t
added-spelled s t path text id a is_a utf8 w =
    let new : Node = record { id = id; text = text } in
    let fine : IsFineNode path new = record { id = drawn8-IsId8 s.ids id a.drawn; path = is_a; text = IsUtf8-from_is_utf8 path utf8; metadata = a.metadata } in
    subst IsSpelled (sym a.is)
    (spelled-by s (with_added s.held path new) (after8 s.ids) w (fine-add (base_nodes s) (changes s.held) (fine-of s w) path new fine a.allowed) w.chunks
    (few-after s.held (with_added s.held path new) (base_nodes s) path new a.allowed refl))

pub added-opened : (s t : SessionState) (path text : List ℕ) (id : Id8) (journal : List Event) → Added s t path text id → IsOpened s journal → IsOpened t journal
added-opened s t path text id journal a o = subst (λ (x : SessionState). IsOpened x journal) (sym a.is) (opened-by s (with_added s.held path (record { id = id; text = text })) (after8 s.ids) journal o o.objects o.chunks)

same_chunks : (h : Held Place) (p text : List ℕ) (a u : Option Node) → (held.with_meta h p text a u).chunks ≡ h.chunks
same_chunks h p text (Some m) u = refl
same_chunks h p text None (Some m) = refl
same_chunks h p text None None = refl

pub text-fewer : (s : SessionState) (path text : List ℕ) → AreFewer s.held.chunks (with_text_at s.held (base_nodes s) path text).chunks
text-fewer s path text = same-fewer s.held.chunks (with_text_at s.held (base_nodes s) path text).chunks (same_chunks s.held path text (get s.held.added path) (get (nodes_over s.held (base_nodes s)) path))

pub set-spelled : (s t : SessionState) (path text : List ℕ) → TextSet s t path text → IsSpelled s → IsSpelled t
set-spelled s t path text a w =
    let nodes = base_nodes s in
    let h = with_text_at s.held nodes path text in
    let fine = fine-set nodes (changes s.held) (fine-of s w) path text a.metadata a.allowed in
    subst IsSpelled (sym a.is)
    (spelled-by s h s.ids w (subst (Fine nodes) (sym (text-law {P = Place} (λ place. None) s.held (bare nodes) path text)) fine) (sized-fewer s.held.chunks h.chunks (text-fewer s path text) w.chunks)
    (few-set s.held nodes path text h (Ok tt) w.few (a.allowed, refl)))

pub set-opened : (s t : SessionState) (path text : List ℕ) (journal : List Event) → TextSet s t path text → IsOpened s journal → IsOpened t journal
set-opened s t path text journal a o = subst (λ (x : SessionState). IsOpened x journal) (sym a.is) (fewer-opened s (with_text_at s.held (base_nodes s) path text) s.ids journal (text-fewer s path text) o)

pub drop-fewer : (s : SessionState) (path : List ℕ) → AreFewer s.held.chunks (without_node s.held (base_nodes s) path).chunks
drop-fewer s path = filter-fewer (λ node j. not (has_id_within (nodes_over s.held (base_nodes s)) path node)) s.held.chunks

pub dropped-spelled : (s t : SessionState) (path : List ℕ) → Dropped s t path → IsSpelled s → IsSpelled t
dropped-spelled s t path a w =
    let nodes = base_nodes s in
    let h = without_node s.held nodes path in
    let fine = fine-drop nodes (changes s.held) (fine-of s w) path a.allowed in
    subst IsSpelled (sym a.is)
    (spelled-by s h s.ids w (subst (Fine nodes) (sym (drop-law {P = Place} (λ place. None) s.held (bare nodes) path)) fine) (sized-fewer s.held.chunks h.chunks (drop-fewer s path) w.chunks) (few-dropped s.held nodes path h (Ok tt) w.few (a.allowed, refl)))

pub dropped-opened : (s t : SessionState) (path : List ℕ) (journal : List Event) → Dropped s t path → IsOpened s journal → IsOpened t journal
dropped-opened s t path journal a o = subst (λ (x : SessionState). IsOpened x journal) (sym a.is) (fewer-opened s (without_node s.held (base_nodes s) path) s.ids journal (drop-fewer s path) o)

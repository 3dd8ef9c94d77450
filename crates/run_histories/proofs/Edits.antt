-- What edits are, and what they keep: the session's changes stay normal for its base, by the lengths of chunks, where its source draws no node id
-- twice and none of the base's nodes.
use Rattle.std.proofs.Common.{◌≡◌, inl, inr, ◌⊎◌, ℕ, Bool, true, false, cond, not, ◌&&◌, ◌||◌, List, length, refl, sym, ◌∙◌, ap, subst}
use Rattle.std.specs.Prelude.{Option, Some, None}
use Rattle.std.specs.FinMap.{FinMap, get, insert, retain_keys}
use Rattle.std.proofs.lemmas.Bool.{false_from_ne_true}
use Rattle.ice_ids.specs.declared.Id8.{Id8}
use Rattle.ice_ids.specs.declared.drawing.AnyIds.{AnyIds}
use Rattle.ice_ids.specs.Drawing.{drawn8, after8, after12}
use Rattle.zarr_path.specs.Paths.{path_cmp, same_path, is_path, is_within}
use Rattle.zarr_tree.specs.Nodes.{Node, is_metadata}
use Rattle.zarr_tree.specs.Trees.{Tree, IsWellFormed}
use Rattle.zarr_tree.specs.Edits.{Add, SetMeta, with_text}
use Rattle.zarr_tree.specs.Edits as tree
use Rattle.zarr_tree.specs.Changes.{Changes, has_id, IsNormal, IsFresh}
use Rattle.zarr_tree.specs.Touched.{lists}
use Rattle.zarr_tree.specs.Held.{Held, changes_of, nodes_over}
use Rattle.zarr_tree.proofs.Maps.{get-put, get-where}
use Rattle.zarr_tree.proofs.Apply.{some_id}
use Rattle.zarr_tree.proofs.Normal.{normal-law}
use Rattle.zarr_changes.specs.Edits.{with_added, with_text_at, with_meta, without_node, with_chunk_at, without_chunk_at}
use Rattle.zarr_changes.specs.Edits as held
use Rattle.zarr_changes.specs.Sets.{add_refusal, text_refusal, drop_refusal, length_of, set_refusal, unset_refusal}
use Rattle.zarr_changes.proofs.EditLaws.{text-law}
use Rattle.zarr_changes.proofs.DropLaws.{drop-law}
use Rattle.zarr_changes.proofs.ChunkLaws.{set-law, unset-law}
use Rattle.manifest_file.specs.declared.manifest.Place.{Place}
use Rattle.snapshot_file.specs.declared.nodes.NodeRow.{NodeRow}
use Rattle.repo_objects.specs.Trees.{Puts, nodes_in}
use Rattle.session.specs.Sessions.{SessionState, base_nodes, nodes_seen, base_tree}
use Rattle.session.specs.Sources.{IsLater, MayDrawNode}
use Rattle.session.specs.Chunks.{after_draw, with_chunk, without_chunk}
use Rattle.commit_path.proofs.Sources.{later-same, later-later, later-drawn12}
use Rattle.rebase.specs.AlongLaws.{HasOneTextEach}
use Rattle.run_histories.proofs.Texts.{same-texts, set-texts, drop-texts}
use Rattle.run_histories.proofs.Sources.{SpendsNodes, later-drawn8, node-now, node-later}
use Rattle.run_histories.proofs.Sized.{sized, sized-bytes, changes_sized}

-- ---- what an edit is
-- it adds a node under an id that it draws, gives a node another text, takes a node and all beneath it away, sets a chunk, for which an
-- object's id may have been drawn, or unsets one
pub record AddsNode (s t : SessionState) : Type 0 where
  pub path : List ℕ
  pub text : List ℕ
  pub id : Id8
  pub is_a : is_path path ≡ true
  pub metadata : is_metadata text ≡ true
  pub allowed : add_refusal (nodes_seen s) path ≡ None
  pub drawn : drawn8 s.ids ≡ Some id
  pub is : t ≡ record s { held = with_added s.held path (record { id = id; text = text }); ids = after8 s.ids }

pub record SetsText (s t : SessionState) : Type 0 where
  pub path : List ℕ
  pub text : List ℕ
  pub allowed : text_refusal (nodes_seen s) path text ≡ None
  pub is : t ≡ record s { held = with_text_at s.held (base_nodes s) path text }

pub record DropsNode (s t : SessionState) : Type 0 where
  pub path : List ℕ
  pub allowed : drop_refusal (nodes_seen s) path ≡ None
  pub is : t ≡ record s { held = without_node s.held (base_nodes s) path }

pub record SetsChunk (s t : SessionState) : Type 0 where
  pub path : List ℕ
  pub index : List ℕ
  pub place : Place
  pub allowed : set_refusal (nodes_seen s) path index (length_of place) ≡ None
  pub ids : AnyIds
  pub ids_are : (ids ≡ s.ids) ⊎ (ids ≡ after12 s.ids)
  pub is : t ≡ record (with_chunk s path index place) { ids = ids }

pub record UnsetsChunk (s t : SessionState) : Type 0 where
  pub path : List ℕ
  pub index : List ℕ
  pub allowed : unset_refusal (nodes_seen s) path index ≡ None
  pub is : t ≡ without_chunk s path index

-- a property of the commit to come, which leaves the changes
pub record AddsProp (s t : SessionState) : Type 0 where
  pub props : List (List ℕ × List ℕ)
  pub is : t ≡ record s { props = props }

abbrev pub Edits : SessionState → SessionState → Type 0
Edits s t = AddsNode s t ⊎ (SetsText s t ⊎ (DropsNode s t ⊎ (SetsChunk s t ⊎ (UnsetsChunk s t ⊎ AddsProp s t))))

-- the source after a chunk was set
set-later : (s t : SessionState) (a : SetsChunk s t) → IsLater s.ids a.ids
set-later s t a = elim a.ids_are [
  | inl same ↦ subst (IsLater s.ids) (sym same) (later-same s.ids)
  | inr drawn ↦ subst (IsLater s.ids) (sym drawn) (later-drawn12 s.ids)
]

-- ---- what edits keep
-- the nodes of the base have no id that the source may draw
abbrev pub OwnAreNew : AnyIds → SessionState → Type 0
OwnAreNew ids s = (p : List ℕ) (n : Node) → get (base_nodes s) p ≡ Some n → ¬ MayDrawNode ids n.id

-- a node of this id
pub record HasId (nodes : FinMap path_cmp Node) (id : Id8) : Type 0 where
  pub path : List ℕ
  pub node : Node
  pub found : get nodes path ≡ Some node
  pub same : node.id ≡ id

-- an id that was drawn: the first source may draw it, and the later one may not
pub record WasDrawn (ids later : AnyIds) (id : Id8) : Type 0 where
  pub before : MayDrawNode ids id
  pub spent : ¬ MayDrawNode later id

-- The ids of added nodes were drawn, those of dropped ones are the base's, and the changes are normal for the base by the lengths of chunks,
-- whatever was put.
pub record IsKept (ids : AnyIds) (s : SessionState) : Type 0 where
  pub added : (p : List ℕ) (n : Node) → get s.held.added p ≡ Some n → WasDrawn ids s.ids n.id
  pub dropped : (id : Id8) → lists s.held.dropped id ≡ true → HasId (base_nodes s) id
  pub normal : (puts : Puts) → IsWellFormed (base_tree puts s) → IsNormal (changes_sized s) (base_tree puts s)

-- what holds of a new node and of each old one holds of each
each-put : (Q : Node → Type 0) (m : FinMap path_cmp Node) (path : List ℕ) (new : Node) → Q new → ((p : List ℕ) (n : Node) → get m p ≡ Some n → Q n) → (p : List ℕ) (n : Node) → get (insert m path new) p ≡ Some n → Q n
each-put Q m path new here there p n e = by_path (same_path p path) (sym (get-put m path new p) ∙ e)
  where
    by_path : (b : Bool) → cond b (Some new) (get m p) ≡ Some n → Q n
    by_path true k = let node : new ≡ n = cc in subst Q node here
    by_path false k = there p n k

each-left : (Q : Node → Type 0) (m : FinMap path_cmp Node) (f : List ℕ → Bool) → ((p : List ℕ) (n : Node) → get m p ≡ Some n → Q n) → (p : List ℕ) (n : Node) → get (retain_keys m f) p ≡ Some n → Q n
each-left Q m f there p n e = by_test (f p) (sym (get-where m f p) ∙ e)
  where
    by_test : (b : Bool) → cond b (get m p) None ≡ Some n → Q n
    by_test true k = there p n k
    by_test false k = absurd cc

-- the tree of the base's nodes alone
abbrev bare : SessionState → Tree
bare s = record { nodes = base_nodes s; chunk = λ p i. None }

module _ (ids : AnyIds) (spends : SpendsNodes ids) (s : SessionState) (later : IsLater ids s.ids) (own : OwnAreNew ids s) (k : IsKept ids s) where
  -- an id that is drawn now is fresh
  now-fresh : (id : Id8) → drawn8 s.ids ≡ Some id → (puts : Puts) → IsFresh (changes_sized s) (base_tree puts s) id
  now-fresh id d puts =
      let now : MayDrawNode s.ids id = node-now s.ids id d in
      let may : MayDrawNode ids id = node-later ids s.ids id later now in
      record {
        not_own = λ p n f e. own p n f (subst (λ (i : Id8). MayDrawNode ids i) (sym e) may);
        not_added = λ p n f e. (k.added p n f).spent (subst (λ (i : Id8). MayDrawNode s.ids i) (sym e) now);
        not_dropped = false_from_ne_true (lists s.held.dropped id) (λ l. let h = k.dropped id l in own h.path h.node h.found (subst (λ (i : Id8). MayDrawNode ids i) (sym h.same) may));
      }

  still-spent : (drawn : AnyIds) → IsLater s.ids drawn → (id : Id8) → WasDrawn ids s.ids id → WasDrawn ids drawn id
  still-spent drawn l id w = record { before = w.before; spent = λ m. w.spent (node-later s.ids drawn id l m) }

  add-keeps : (t : SessionState) → AddsNode s t → IsKept ids t
  add-keeps t a =
      let new : Node = record { id = a.id; text = a.text } in
      subst (IsKept ids) (sym a.is) (record {
        added = each-put (λ n. WasDrawn ids (after8 s.ids) n.id) s.held.added a.path new
            (record { before = node-later ids s.ids a.id later (node-now s.ids a.id a.drawn); spent = spends s.ids a.id later a.drawn })
            (λ p n f. still-spent (after8 s.ids) (later-drawn8 s.ids) n.id (k.added p n f));
        dropped = k.dropped;
        normal = λ puts well. normal-law (changes_sized s) (base_tree puts s) (Add a.path a.id a.text) well (k.normal puts well) (now-fresh a.id a.drawn puts) a.is_a a.metadata a.allowed;
      })

  text-ids : (path text : List ℕ) (o there : Option Node) → get s.held.added path ≡ o → (p : List ℕ) (n : Node) → get (with_meta s.held path text o there).added p ≡ Some n → WasDrawn ids s.ids n.id
  text-ids path text (Some m) there f = each-put (λ n. WasDrawn ids s.ids n.id) s.held.added path (with_text text m) (k.added path m f) k.added
  text-ids path text None (Some m) f = k.added
  text-ids path text None None f = k.added

  text-dropped : (path text : List ℕ) (o there : Option Node) → (with_meta s.held path text o there).dropped ≡ s.held.dropped
  text-dropped path text (Some m) there = refl
  text-dropped path text None (Some m) = refl
  text-dropped path text None None = refl

  text-keeps : (t : SessionState) → SetsText s t → IsKept ids t
  text-keeps t a =
      let there : Option Node = get (nodes_over s.held (base_nodes s)) a.path in
      subst (IsKept ids) (sym a.is) (record {
        added = text-ids a.path a.text (get s.held.added a.path) there refl;
        dropped = λ id l. k.dropped id (sym (ap (λ (xs : List Id8). lists xs id) (text-dropped a.path a.text (get s.held.added a.path) there)) ∙ l);
        normal = λ puts well. subst (λ (c : Changes). IsNormal c (base_tree puts s)) (sym (text-law sized s.held (base_tree puts s) a.path a.text))
            (normal-law (changes_sized s) (base_tree puts s) (SetMeta a.path a.text) well (k.normal puts well) tt tt tt a.allowed);
      })

  now-dropped : (path : List ℕ) (id : Id8) (b d : Bool) → lists s.held.dropped id ≡ b → has_id id (get (base_nodes s) path) ≡ d → (seen : Bool) → (b || (seen && d)) ≡ true → HasId (base_nodes s) id
  now-dropped path id true d f g seen e = k.dropped id f
  now-dropped path id false true f g seen e = let n = some_id id (get (base_nodes s) path) g in record { path = path; node = n.0; found = n.1; same = n.2 }
  now-dropped path id false false f g true e = absurd cc
  now-dropped path id false false f g false e = absurd cc

  drop-keeps : (t : SessionState) → DropsNode s t → IsKept ids t
  drop-keeps t a = subst (IsKept ids) (sym a.is) (record {
    added = each-left (λ n. WasDrawn ids s.ids n.id) s.held.added (λ q. not (is_within a.path q)) k.added;
    dropped = λ id l. now-dropped a.path id (lists s.held.dropped id) (has_id id (get (base_nodes s) a.path)) refl refl (has_id id (get (nodes_over s.held (base_nodes s)) a.path))
        (sym (ap (λ (c : Changes). c.dropped id) (drop-law (λ (place : Place). None) s.held (bare s) a.path)) ∙ l);
    normal = λ puts well. subst (λ (c : Changes). IsNormal c (base_tree puts s)) (sym (drop-law sized s.held (base_tree puts s) a.path))
        (normal-law (changes_sized s) (base_tree puts s) (tree.Drop a.path) well (k.normal puts well) tt tt tt a.allowed);
  })

  -- ---- chunks
  -- other entries, and a later source
  entries-keep : (h : Held Place) (drawn : AnyIds) → IsLater s.ids drawn → h.added ≡ s.held.added → h.dropped ≡ s.held.dropped → ((puts : Puts) → IsWellFormed (base_tree puts s) → IsNormal (changes_of sized h) (base_tree puts s)) → IsKept ids (record s { held = h; ids = drawn })
  entries-keep h drawn l added dropped normal = record {
    added = λ p n f. still-spent drawn l n.id (k.added p n (ap (λ (m : FinMap path_cmp Node). get m p) (sym added) ∙ f));
    dropped = λ id e. k.dropped id (ap (λ (xs : List Id8). lists xs id) (sym dropped) ∙ e);
    normal = normal;
  }

  set-added : (index : List ℕ) (place : Place) (there : Option Node) → (held.placed_chunk s.held index place there).added ≡ s.held.added
  set-added index place None = refl
  set-added index place (Some n) = refl

  set-dropped : (index : List ℕ) (place : Place) (there : Option Node) → (held.placed_chunk s.held index place there).dropped ≡ s.held.dropped
  set-dropped index place None = refl
  set-dropped index place (Some n) = refl

  set-keeps : (t : SessionState) → SetsChunk s t → IsKept ids t
  set-keeps t a =
      let there : Option Node = get (nodes_over s.held (base_nodes s)) a.path in
      let bytes = sized-bytes a.place in
      let allowed : set_refusal (nodes_seen s) a.path a.index (length bytes.0) ≡ None = subst (λ (n : ℕ). set_refusal (nodes_seen s) a.path a.index n ≡ None) (sym bytes.2) a.allowed in
      subst (IsKept ids) (sym a.is)
      (entries-keep (with_chunk_at s.held (base_nodes s) a.path a.index a.place) a.ids (set-later s t a) (set-added a.index a.place there) (set-dropped a.index a.place there)
      (λ puts well. subst (λ (c : Changes). IsNormal c (base_tree puts s)) (sym (set-law sized s.held (base_tree puts s) a.path a.index bytes.0 a.place bytes.1))
      (normal-law (changes_sized s) (base_tree puts s) (tree.Set a.path a.index bytes.0) well (k.normal puts well) tt tt tt allowed)))

  unset-added : (index : List ℕ) (added there : Option Node) → (held.unplaced_chunk s.held index added there).added ≡ s.held.added
  unset-added index added None = refl
  unset-added index None (Some n) = refl
  unset-added index (Some m) (Some n) = refl

  unset-dropped : (index : List ℕ) (added there : Option Node) → (held.unplaced_chunk s.held index added there).dropped ≡ s.held.dropped
  unset-dropped index added None = refl
  unset-dropped index None (Some n) = refl
  unset-dropped index (Some m) (Some n) = refl

  unset-keeps : (t : SessionState) → UnsetsChunk s t → IsKept ids t
  unset-keeps t a =
      let added : Option Node = get s.held.added a.path in
      let there : Option Node = get (nodes_over s.held (base_nodes s)) a.path in
      subst (IsKept ids) (sym a.is)
      (entries-keep (without_chunk_at s.held (base_nodes s) a.path a.index) s.ids (later-same s.ids) (unset-added a.index added there) (unset-dropped a.index added there)
      (λ puts well. subst (λ (c : Changes). IsNormal c (base_tree puts s)) (sym (unset-law sized s.held (base_tree puts s) a.path a.index))
      (normal-law (changes_sized s) (base_tree puts s) (tree.Unset a.path a.index) well (k.normal puts well) tt tt tt a.allowed)))

  pub edit-keeps : (t : SessionState) → Edits s t → IsKept ids t
  edit-keeps t (inl a) = add-keeps t a
  edit-keeps t (inr (inl a)) = text-keeps t a
  edit-keeps t (inr (inr (inl a))) = drop-keeps t a
  edit-keeps t (inr (inr (inr (inl a)))) = set-keeps t a
  edit-keeps t (inr (inr (inr (inr (inl a))))) = unset-keeps t a
  edit-keeps t (inr (inr (inr (inr (inr a))))) = subst (IsKept ids) (sym a.is) (record { added = k.added; dropped = k.dropped; normal = k.normal })

-- an edit leaves the base
pub edit-at : (s t : SessionState) → Edits s t → t.base ≡ s.base
edit-at s t (inl a) = ap (λ (x : SessionState). x.base) a.is
edit-at s t (inr (inl a)) = ap (λ (x : SessionState). x.base) a.is
edit-at s t (inr (inr (inl a))) = ap (λ (x : SessionState). x.base) a.is
edit-at s t (inr (inr (inr (inl a)))) = ap (λ (x : SessionState). x.base) a.is
edit-at s t (inr (inr (inr (inr (inl a))))) = ap (λ (x : SessionState). x.base) a.is
edit-at s t (inr (inr (inr (inr (inr a))))) = ap (λ (x : SessionState). x.base) a.is

pub edit-base : (s t : SessionState) → Edits s t → t.rows ≡ s.rows
edit-base s t (inl a) = ap (λ (x : SessionState). x.rows) a.is
edit-base s t (inr (inl a)) = ap (λ (x : SessionState). x.rows) a.is
edit-base s t (inr (inr (inl a))) = ap (λ (x : SessionState). x.rows) a.is
edit-base s t (inr (inr (inr (inl a)))) = ap (λ (x : SessionState). x.rows) a.is
edit-base s t (inr (inr (inr (inr (inl a))))) = ap (λ (x : SessionState). x.rows) a.is
edit-base s t (inr (inr (inr (inr (inr a))))) = ap (λ (x : SessionState). x.rows) a.is

-- an edit leaves one text for each node
set-metas : (h : Held Place) (index : List ℕ) (place : Place) (there : Option Node) → (held.placed_chunk h index place there).metas ≡ h.metas
set-metas h index place None = refl
set-metas h index place (Some n) = refl

unset-metas : (h : Held Place) (index : List ℕ) (added there : Option Node) → (held.unplaced_chunk h index added there).metas ≡ h.metas
unset-metas h index added None = refl
unset-metas h index None (Some n) = refl
unset-metas h index (Some m) (Some n) = refl

edit-texts : (s t : SessionState) → Edits s t → HasOneTextEach s.held → HasOneTextEach t.held
edit-texts s t (inl a) one = same-texts t.held s.held (ap (λ (x : SessionState). x.held.metas) a.is) one
edit-texts s t (inr (inl a)) one =
    subst (λ (x : SessionState). HasOneTextEach x.held) (sym a.is) (set-texts s.held a.path a.text (get s.held.added a.path) (get (nodes_over s.held (base_nodes s)) a.path) one)
edit-texts s t (inr (inr (inl a))) one = subst (λ (x : SessionState). HasOneTextEach x.held) (sym a.is) (drop-texts s.held (base_nodes s) a.path one)
edit-texts s t (inr (inr (inr (inl a)))) one =
    same-texts t.held s.held (ap (λ (x : SessionState). x.held.metas) a.is ∙ set-metas s.held a.index a.place (get (nodes_over s.held (base_nodes s)) a.path)) one
edit-texts s t (inr (inr (inr (inr (inl a))))) one =
    same-texts t.held s.held (ap (λ (x : SessionState). x.held.metas) a.is ∙ unset-metas s.held a.index (get s.held.added a.path) (get (nodes_over s.held (base_nodes s)) a.path)) one
edit-texts s t (inr (inr (inr (inr (inr a))))) one = subst (λ (x : SessionState). HasOneTextEach x.held) (sym a.is) one

-- ---- along edits
-- What holds along the lines of a task: the session's source is a later one, it holds one text for each node, and it is kept, where the first source
-- draws no node id twice and no node of the base has an id that it may draw.
pub record GoesOn (ids : AnyIds) (s : SessionState) : Type 0 where
  pub later : IsLater ids s.ids
  pub texts : HasOneTextEach s.held
  pub kept : SpendsNodes ids → OwnAreNew ids s → IsKept ids s

pub edit-later : (s t : SessionState) → Edits s t → IsLater s.ids t.ids
edit-later s t (inl a) = subst (λ (x : SessionState). IsLater s.ids x.ids) (sym a.is) (later-drawn8 s.ids)
edit-later s t (inr (inl a)) = subst (λ (x : SessionState). IsLater s.ids x.ids) (sym a.is) (later-same s.ids)
edit-later s t (inr (inr (inl a))) = subst (λ (x : SessionState). IsLater s.ids x.ids) (sym a.is) (later-same s.ids)
edit-later s t (inr (inr (inr (inl a)))) = subst (λ (x : SessionState). IsLater s.ids x.ids) (sym a.is) (set-later s t a)
edit-later s t (inr (inr (inr (inr (inl a))))) = subst (λ (x : SessionState). IsLater s.ids x.ids) (sym a.is) (later-same s.ids)
edit-later s t (inr (inr (inr (inr (inr a))))) = subst (λ (x : SessionState). IsLater s.ids x.ids) (sym a.is) (later-same s.ids)

-- nodes of the base are new where the base stays
pub own-stay : (ids : AnyIds) (s t : SessionState) → t.rows ≡ s.rows → OwnAreNew ids t → OwnAreNew ids s
own-stay ids s t same own p n f = own p n (ap (λ (rows : List NodeRow). get (nodes_in rows) p) same ∙ f)

pub edit-goes : (ids : AnyIds) (s t : SessionState) → Edits s t → GoesOn ids s → GoesOn ids t
edit-goes ids s t e g = record {
  later = later-later ids s.ids t.ids g.later (edit-later s t e);
  texts = edit-texts s t e g.texts;
  kept = λ spends own. let before : OwnAreNew ids s = own-stay ids s t (edit-base s t e) own in edit-keeps ids spends s g.later before (g.kept spends before) t e;
}

-- a session that drew the id of a lease
pub drew-goes : (ids : AnyIds) (s : SessionState) → GoesOn ids s → GoesOn ids (after_draw s)
drew-goes ids s g = record {
  later = later-later ids s.ids (after12 s.ids) g.later (later-drawn12 s.ids);
  texts = g.texts;
  kept = λ spends own. let before : OwnAreNew ids s = own-stay ids s (after_draw s) refl own in entries-keep ids spends s g.later before (g.kept spends before) s.held (after12 s.ids) (later-drawn12 s.ids) refl refl (g.kept spends before).normal;
}

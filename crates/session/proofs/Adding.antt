-- What adding a node answers and leaves.
use Rattle.std.proofs.Common.{◌≡◌, inl, ℕ, ◌+◌, ◌<◌, ◌≤◌, cond, Bool, true, false, List, refl, sym, ap, subst, ◌∙◌, arith}
use Rattle.std.specs.Prelude.{nat_le, not, ◌&&◌, if◌then◌else◌, Option, None, Some, is_some, Result, Ok, Err}
use Rattle.std.specs.FinMap.{FinMap, get, insert, len, contains_key, len-insert}
use Rattle.std.proofs.lemmas.Bool.Decides.{nat_tests}
use Rattle.ice_ids.specs.declared.Id8.{Id8}
use Rattle.ice_ids.specs.declared.drawing.AnyIds.{AnyIds}
use Rattle.ice_ids.specs.declared.drawing.AnyIds.TheVariants.{Count, Stream}
use Rattle.ice_ids.specs.Drawing.{drawn8, after8, is_spent, counted8, is_dry, streamed8}
use Rattle.zarr_path.specs.Paths.{path_cmp, same_path, root, parent_of}
use Rattle.zarr_path.proofs.OrderLaws.{total}
use Rattle.zarr_meta.specs.declared.faults.MetaFault.{MetaFault}
use Rattle.zarr_meta.specs.declared.metas.Meta.{Meta}
use Rattle.zarr_meta.specs.declared.views.MetaView.{MetaView}
use Rattle.zarr_meta.specs.Meta.{meta_of}
use Rattle.zarr_tree.specs.declared.edit.EditFault.{EditFault}
use Rattle.zarr_tree.specs.declared.edit.EditFault.TheVariants as E
use Rattle.zarr_tree.specs.Nodes.{Node}
use Rattle.zarr_tree.specs.Edits.{most_nodes, is_group_at, unless}
use Rattle.zarr_tree.specs.Held.{Held, changes_of, nodes_over}
use Rattle.zarr_tree.proofs.Maps.{get-put, same}
use Rattle.zarr_tree.proofs.Extend.{put_added}
use Rattle.zarr_changes.specs.Edits.{with_added}
use Rattle.zarr_changes.specs.Sets.{add_refusal, Enters}
use Rattle.manifest_file.specs.declared.manifest.Place.{Place}
use Rattle.store_api.specs.declared.machines.Refusal.{Refusal}
use Rattle.store_api.specs.declared.machines.Refusal.TheVariants as R
use Rattle.session.specs.Sessions.{SessionState, nodes_seen, writes}
use Rattle.session.specs.Editing.{added, entered, Adds, refusal_of_edit, drawn_node, unless_bad}
use Rattle.session.specs.inside.Reads.{Reads}
use Rattle.session.proofs.Refusing.{unwritten, faulty, allowed, refused_by, taken}

-- ---- before the edit
module _ (fault : Result MetaView MetaFault → Option MetaFault) (s : SessionState) (p text : List ℕ) where
  pub read_only : writes s ≡ false → added fault s p text ≡ Err R.ReadOnly
  unfolding added
  read_only e = unwritten (writes s) (unless_bad (fault (meta_of text)) (entered s p text)) e

  -- the text doesn't serve
  pub bad_text : (refusal : Refusal) → writes s ≡ true → Reads fault text (Err refusal) → Adds (added fault s p text) s (Err refusal) s
  unfolding added
  bad_text (R.BadMeta bad) w r = (faulty (writes s) (fault (meta_of text)) (entered s p text) bad w r, refl)
  bad_text R.NoMemory w r = inl refl
  bad_text _ w r = absurd r

  -- what adding the metadata that was read answers, adding its text does
  by_edit : (meta : Meta) → writes s ≡ true → Reads fault text (Ok meta) → entered s p meta.text ≡ added fault s p text
  unfolding added
  by_edit meta w g = ap (entered s p) g.1.0 ∙ sym (allowed (writes s) (fault (meta_of text)) (entered s p text) w g.0)

  pub added_text : (meta : Meta) (new : SessionState) (result : Result Id8 Refusal) → writes s ≡ true → Reads fault text (Ok meta) → Adds (entered s p meta.text) s result new → Adds (added fault s p text) s result new
  added_text meta new result w g a = subst (λ (e : Result (Id8 × SessionState) Refusal). Adds e s result new) (by_edit meta w g) a

-- ---- the tree refuses the node
unless_err : (r : Option EditFault) (fault : EditFault) → Err fault ≡ unless r (tt {0}) → r ≡ Some fault
unless_err None fault e = absurd (cc)
unless_err (Some f) fault e = cc

unless_ok : (r : Option EditFault) (done : Unit {0}) → Ok done ≡ unless r (tt {0}) → r ≡ None
unless_ok None done e = refl
unless_ok (Some f) done e = absurd (cc)

told : (expected : Result (Id8 × SessionState) Refusal) (s : SessionState) (fault : EditFault) → expected ≡ Err (refusal_of_edit fault) → Adds expected s (Err (refusal_of_edit fault)) s
told expected s E.NodeExists e = (e, refl)
told expected s E.NoParent e = (e, refl)
told expected s E.Full e = (e, refl)
told expected s E.NoNode e = (e, refl)
told expected s (E.FrozenField part) e = (e, refl)
told expected s E.NotArray e = (e, refl)
told expected s E.OutOfGrid e = (e, refl)
told expected s (E.ChunkLength want got) e = (e, refl)
told expected s E.NoMemory e = inl refl

-- a refused edit leaves what is held
pub edit_kept : (refusal : Option EditFault) (made before after : Held Place) (fault : EditFault) → Enters refusal made before (Err fault) after → after ≡ before
edit_kept refusal made before after E.NodeExists e = e.1
edit_kept refusal made before after E.NoParent e = e.1
edit_kept refusal made before after E.Full e = e.1
edit_kept refusal made before after E.NoNode e = e.1
edit_kept refusal made before after (E.FrozenField part) e = e.1
edit_kept refusal made before after E.NotArray e = e.1
edit_kept refusal made before after E.OutOfGrid e = e.1
edit_kept refusal made before after (E.ChunkLength want got) e = e.1
edit_kept refusal made before after E.NoMemory e = e

module _ (s : SessionState) (p text : List ℕ) where
  by_refusal : (fault : EditFault) → add_refusal (nodes_seen s) p ≡ Some fault → entered s p text ≡ Err (refusal_of_edit fault)
  by_refusal fault e = refused_by (add_refusal (nodes_seen s) p) (drawn_node s p text (drawn8 s.ids)) fault e

  same_held : (after : Held Place) → after ≡ s.held → record s { held = after } ≡ s
  same_held after e = ap (λ (h : Held Place). record s { held = h }) e

  pub refused : (fault : EditFault) → Err fault ≡ unless (add_refusal (nodes_seen s) p) (tt {0}) → Adds (entered s p text) s (Err (refusal_of_edit fault)) s
  refused fault e = told (entered s p text) s fault (by_refusal fault (unless_err (add_refusal (nodes_seen s) p) fault e))

  -- the set of changes refuses it
  pub edit_refused : (made after : Held Place) (fault : EditFault) → Enters (add_refusal (nodes_seen s) p) made s.held (Err fault) after → Adds (entered s p text) s (Err (refusal_of_edit fault)) (record s { held = after })
  edit_refused made after E.NodeExists e = (by_refusal E.NodeExists e.0, same_held after e.1)
  edit_refused made after E.NoParent e = (by_refusal E.NoParent e.0, same_held after e.1)
  edit_refused made after E.Full e = (by_refusal E.Full e.0, same_held after e.1)
  edit_refused made after E.NoNode e = (by_refusal E.NoNode e.0, same_held after e.1)
  edit_refused made after (E.FrozenField part) e = (by_refusal (E.FrozenField part) e.0, same_held after e.1)
  edit_refused made after E.NotArray e = (by_refusal E.NotArray e.0, same_held after e.1)
  edit_refused made after E.OutOfGrid e = (by_refusal E.OutOfGrid e.0, same_held after e.1)
  edit_refused made after (E.ChunkLength want got) e = (by_refusal (E.ChunkLength want got) e.0, same_held after e.1)
  edit_refused made after E.NoMemory e = inl (same_held after e)

  by_draw : (id : Option Id8) → add_refusal (nodes_seen s) p ≡ None → drawn8 s.ids ≡ id → entered s p text ≡ drawn_node s p text id
  by_draw id r n = taken (add_refusal (nodes_seen s) p) (drawn_node s p text (drawn8 s.ids)) r ∙ ap (drawn_node s p text) n

  -- no id is left
  pub spent : (done : Unit {0}) → Ok done ≡ unless (add_refusal (nodes_seen s) p) (tt {0}) → drawn8 s.ids ≡ None → entered s p text ≡ Err R.IdsSpent
  spent done e n = by_draw None (unless_ok (add_refusal (nodes_seen s) p) done e) n

  -- the node is there
  pub there : (id : Id8) (held : Held Place) (ids : AnyIds) → drawn8 s.ids ≡ Some id → ids ≡ after8 s.ids → add_refusal (nodes_seen s) p ≡ None → held ≡ with_added s.held p (record { id = id; text = text })
      → entered s p text ≡ Ok (id, record s { held = held; ids = ids })
  there id held ids n i r h = by_draw (Some id) r n ∙ sym (ap (λ (x : Held Place). Ok (id, record s { held = x; ids = after8 s.ids })) h) ∙ sym (ap (λ (x : AnyIds). Ok (id, record s { held = held; ids = x })) i)

by_counter : {A : Type 0} (b : Bool) (x : Id8) (old new : A) → ◌≡◌ {A = Option Id8} (if b then None else Some x) None → (if b then old else new) ≡ old
by_counter true x old new e = refl
by_counter false x old new e = absurd (cc)

pub same_after : (ids : AnyIds) → drawn8 ids ≡ None → after8 ids ≡ ids
same_after (Count ids) n = ap Count (by_counter (is_spent ids) (counted8 ids.client ids.counter) ids (record ids { counter = ids.counter + 1 }) n)
same_after (Stream ids) n = ap Stream (by_counter (is_dry ids) (streamed8 ids) ids (record ids { counter = ids.counter + 1 }) n)

-- ---- and the tree has no more nodes than it may
lower : (a b : ℕ) → nat_le a b ≡ false → b < a
lower a b e = grind (arith, nat_tests)

room-by : (n : ℕ) (there parent full : Bool) → nat_le most_nodes n ≡ full → cond there (Some E.NodeExists) (cond parent (Some E.NoParent) (cond full (Some E.Full) None)) ≡ None → n < most_nodes
room-by n true parent full f e = absurd (cc)
room-by n false true full f e = absurd (cc)
room-by n false false true f e = absurd (cc)
room-by n false false false f e = lower most_nodes n f

room : (nodes : FinMap path_cmp Node) (p : List ℕ) → add_refusal nodes p ≡ None → len nodes < most_nodes
room nodes p e = room-by (len nodes) (is_some (get nodes p)) (not (same_path p root) && not (is_group_at (get nodes (parent_of p)))) (nat_le most_nodes (len nodes)) refl e

pub seen-added : (h : Held Place) (nodes : FinMap path_cmp Node) (p : List ℕ) (n : Node) → nodes_over (with_added h p n) nodes ≡ insert (nodes_over h nodes) p n
seen-added h nodes p n = same _ _ (λ q. put_added (changes_of (λ place. None) h) (record { nodes = nodes; chunk = λ r i. None }) p n q ∙ sym (get-put (nodes_over h nodes) p n q))

one-more : (b : Bool) (n m : ℕ) → n < m → cond b n (n + 1) ≤ m
one-more true n m l = omega arith
one-more false n m l = omega arith

pub few-after : (h held : Held Place) (nodes : FinMap path_cmp Node) (p : List ℕ) (n : Node) → add_refusal (nodes_over h nodes) p ≡ None → held ≡ with_added h p n → len (nodes_over held nodes) ≤ most_nodes
few-after h held nodes p n r e =
    let seen = nodes_over h nodes in
    let inserted = subst (λ (k : ℕ). k ≤ most_nodes) (sym (len-insert total seen p n)) (one-more (contains_key seen p) (len seen) most_nodes (room seen p r)) in
    subst (λ (x : Held Place). len (nodes_over x nodes) ≤ most_nodes) (sym e) (subst (λ (m : FinMap path_cmp Node). len m ≤ most_nodes) (sym (seen-added h nodes p n)) inserted)

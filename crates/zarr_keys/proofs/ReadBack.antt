-- What was set at a key is read there.
use Rattle.std.proofs.Common.{◌≡◌, ◌⊎◌, inl, inr, ℕ, Bool, true, false, cond, List, length, refl, sym, ap, ◌∙◌}
use Rattle.std.specs.Prelude.{◌&&◌, not, nat_le, if◌then◌else◌, Option, None, Some, unwrap_or, Result, Ok, Err}
use Rattle.std.specs.FinMap.{FinMap, get}
use Rattle.std.specs.Cmp.{tied_itself}
use Rattle.std.specs.Ordering.{is_eq}
use Rattle.ice_ids.specs.declared.Id8.{Id8}
use Rattle.ice_ids.specs.declared.Id12.{Id12}
use Rattle.ice_ids.specs.Drawing.{drawn8, drawn12}
use Rattle.ice_ids.specs.Text.{same_id8}
use Rattle.zarr_path.specs.declared.keys.ZarrKey.{ZarrKey}
use Rattle.zarr_path.specs.declared.keys.ZarrKey.TheVariants.{Meta, Chunk}
use Rattle.zarr_path.specs.Paths.{path_cmp}
use Rattle.zarr_path.specs.Keys.{key_of}
use Rattle.zarr_path.proofs.OrderLaws.{same_path-refl}
use Rattle.zarr_meta.specs.declared.faults.MetaFault.{MetaFault}
use Rattle.zarr_meta.specs.declared.views.ArrayView.{ArrayView}
use Rattle.zarr_meta.specs.Meta.{meta_of}
use Rattle.zarr_tree.specs.declared.edit.EditFault.{EditFault}
use Rattle.zarr_tree.specs.declared.edit.EditFault.TheVariants.{OutOfGrid}
use Rattle.zarr_tree.specs.Nodes.{Node, array_in, in_grid, chunk_length, same_numbers}
use Rattle.zarr_tree.specs.Trees.{Tree, node_at}
use Rattle.zarr_tree.specs.Edits.{SetMeta, with_text}
use Rattle.zarr_tree.specs.Changes.{Changes, apply, extended, nodes_under, with_meta}
use Rattle.zarr_tree.specs.Held.{changes_of, entry_in}
use Rattle.zarr_tree.proofs.Maps.{get-put}
use Rattle.zarr_tree.proofs.Extend.{put_added, own-id, passed, some_node, some_array, not_not}
use Rattle.zarr_tree.proofs.Apply.{Own, node_cases, own_node, id-refl}
use Rattle.zarr_changes.specs.Edits.{placed_chunk}
use Rattle.zarr_changes.specs.Sets.{add_refusal, text_refusal, set_refusal, chunk_of_node, chunk_in}
use Rattle.zarr_changes.proofs.EditLaws.{text-law}
use Rattle.zarr_changes.proofs.EntryLaws.{index_total}
use Rattle.zarr_changes.proofs.ChunkLaws.{entry-with}
use Rattle.manifest_file.specs.declared.manifest.Place.{Place}
use Rattle.manifest_file.specs.declared.manifest.Place.TheVariants.{Inline}
use Rattle.store_api.specs.declared.machines.Refusal.{Refusal}
use Rattle.store_api.specs.declared.machines.Refusal.TheVariants as R
use Rattle.store_api.specs.Program.{Done}
use Rattle.store_api.specs.Running.{Program, ◌>>=◌}
use Rattle.session.specs.declared.chunks.Value.{Value}
use Rattle.session.specs.declared.chunks.Value.TheVariants.{Bytes as Is_bytes}
use Rattle.session.specs.Sessions.{SessionState, writes, base_nodes, nodes_seen}
use Rattle.session.specs.Editing.{if_writes, unless_bad, unless_refused, node_fault, added, node_added, drawn_node, with_node, meta_set, text_changed}
use Rattle.session.specs.Chunks.{set_program, put_chunk, put_object, unless_fault, with_chunk, most_inline, get_program, read_at, read_found}
use Rattle.session.proofs.Adding.{seen-added}
use Rattle.zarr_keys.specs.declared.values.KeyValue.{KeyValue}
use Rattle.zarr_keys.specs.declared.values.KeyValue.TheVariants.{Bytes}
use Rattle.zarr_keys.specs.Keys.{node_value, meta_value, answered, chunk_program, session_of, put_over, get_at, set_at}
use Rattle.zarr_keys.specs.Laws.{ReadBackLaw}
use Rattle.zarr_keys.proofs.Keying.{get_named, set_named}

-- ---- what an edit that was done says
written : {A : Type 0} (w : Bool) (r : Result A Refusal) (x : A) → if_writes w r ≡ Ok x → r ≡ Ok x
written true r x e = e
written false r x e = absurd cc

good : {A : Type 0} (o : Option MetaFault) (r : Result A Refusal) (x : A) → unless_bad o r ≡ Ok x → r ≡ Ok x
good None r x e = e
good (Some fault) r x e = absurd cc

taken : {A : Type 0} (o : Option EditFault) (r : Result A Refusal) (x : A) → unless_refused o r ≡ Ok x → r ≡ Ok x
taken None r x e = e
taken (Some fault) r x e = absurd cc

result_same : {A : Type 0} (x y : A) → ◌≡◌ {A = Result A Refusal} (Ok x) (Ok y) → x ≡ y
result_same x y e = cc

-- ---- a node more
module _ (s t : SessionState) (p text : List ℕ) where
  added_text : (id : Id8) → with_node s p text id ≡ t → meta_value t p ≡ Bytes text
  added_text id e =
      let n : Node = record { id = id; text = text } in
      ap (λ (x : SessionState). meta_value x p) (sym e) ∙ ap (λ (nodes : FinMap path_cmp Node). node_value (get nodes p)) (seen-added s.held (base_nodes s) p n)
      ∙ ap node_value (get-put (nodes_seen s) p n p ∙ ap (λ (b : Bool). cond b (Some n) (get (nodes_seen s) p)) (same_path-refl p))

  by_draw : (o : Option Id8) → session_of (drawn_node s p text o) ≡ Ok t → meta_value t p ≡ Bytes text
  by_draw None e = absurd cc
  by_draw (Some id) e = added_text id (result_same _ _ e)

  by_refusal : (o : Option EditFault) → session_of (unless_refused o (drawn_node s p text (drawn8 s.ids))) ≡ Ok t → meta_value t p ≡ Bytes text
  by_refusal None e = by_draw (drawn8 s.ids) e
  by_refusal (Some fault) e = absurd cc

  by_text : (o : Option MetaFault) → session_of (unless_bad o (unless_refused (add_refusal (nodes_seen s) p) (drawn_node s p text (drawn8 s.ids)))) ≡ Ok t → meta_value t p ≡ Bytes text
  by_text None e = by_refusal (add_refusal (nodes_seen s) p) e
  by_text (Some fault) e = absurd cc

  by_writes : (w : Bool) → session_of (if_writes w (unless_bad (node_fault (meta_of text)) (unless_refused (add_refusal (nodes_seen s) p) (drawn_node s p text (drawn8 s.ids))))) ≡ Ok t → meta_value t p ≡ Bytes text
  by_writes true e = by_text (node_fault (meta_of text)) e
  by_writes false e = absurd cc

  new_text : session_of (node_added s p text) ≡ Ok t → meta_value t p ≡ Bytes text
  unfolding added
  new_text e = by_writes (writes s) e

-- ---- another text
module _ (c : Changes) (tree : Tree) (p text : List ℕ) where
  text_by : (o : Option Node) (n : Node) → get c.added p ≡ o → node_at (apply c tree) p ≡ Some n → node_value (node_at (apply (with_meta c p text o (Some n)) tree) p) ≡ Bytes text
  text_by (Some m) n a f = ap node_value (put_added c tree p (with_text text m) p ∙ ap (λ (b : Bool). cond b (Some (with_text text m)) (node_at (apply c tree) p)) (same_path-refl p))
  text_by None n a f = by_case (node_cases c tree p n f)
    where
      d : Changes
      d = record c { metas = λ id. if same_id8 id n.id then Some text else c.metas id }

      by_case : (get c.added p ≡ Some n) ⊎ Own c tree p n → node_value (node_at (apply d tree) p) ≡ Bytes text
      by_case (inl x) = absurd cc
      by_case (inr o) =
          let same : same_id8 o.before.id n.id ≡ true = ap (λ (id : Id8). same_id8 o.before.id id) (own-id c tree p n o) ∙ id-refl o.before.id in
          ap node_value (own_node d tree p o.before a o.stays o.found) ∙ ap (λ (b : Bool). Bytes (unwrap_or (if b then Some text else c.metas o.before.id) o.before.text)) same

  other_text : (n : Node) → node_at (apply c tree) p ≡ Some n → node_value (node_at (apply (extended c tree (SetMeta p text)) tree) p) ≡ Bytes text
  other_text n f = ap (λ (o : Option Node). node_value (node_at (apply (with_meta c p text (get c.added p) o) tree) p)) f ∙ text_by (get c.added p) n refl f

no_bytes : Place → Option (List ℕ)
no_bytes place = None

set_text : (s t : SessionState) (p text : List ℕ) (n : Node) → get (nodes_seen s) p ≡ Some n → meta_set s p text ≡ Ok t → meta_value t p ≡ Bytes text
unfolding meta_set
set_text s t p text n f e =
    let done : text_changed s p text ≡ t = result_same _ _ (taken (text_refusal (nodes_seen s) p text) _ t (good (node_fault (meta_of text)) _ t (written (writes s) _ t e))) in
    let tree : Tree = record { nodes = base_nodes s; chunk = λ q i. None } in
    ap (λ (x : SessionState). meta_value x p) (sym done)
    ∙ ap (λ (c : Changes). node_value (get (nodes_under c (base_nodes s)) p)) (text-law no_bytes s.held tree p text)
    ∙ other_text (changes_of no_bytes s.held) tree p text n f

put_text : (s t : SessionState) (p text : List ℕ) (o : Option Node) → get (nodes_seen s) p ≡ o → put_over o s p text ≡ Ok t → meta_value t p ≡ Bytes text
put_text s t p text None f e = new_text s t p text e
put_text s t p text (Some n) f e = set_text s t p text n f e

-- ---- a chunk that stands in the session
numbers-refl : (x : List ℕ) → same_numbers x x ≡ true
numbers-refl x = ap is_eq (tied_itself index_total x)

module _ (s t : SessionState) (p i bytes : List ℕ) where
  abbrev seen : Option Node
  seen = get (nodes_seen s) p

  -- the read of a chunk that has its own entry
  by_grid : (n : Node) (array : ArrayView) → seen ≡ Some n → array_in n.text ≡ Some array → in_grid array i ≡ true → get_program (record s { held = placed_chunk s.held i (Inline bytes) (Some n) }) p i ≡ Done (Ok (Is_bytes bytes))
  unfolding get_program
  by_grid n array f a g =
      let u = record s { held = placed_chunk s.held i (Inline bytes) (Some n) } in
      let own : entry_in u.held.chunks n.id i ≡ Some (Some (Inline bytes)) =
      entry-with n.id i n.id i s.held.chunks (Some (Inline bytes))
      ∙ (λ k. cond (id-refl n.id k && numbers-refl i k) (Some (Some (Inline bytes))) (entry_in s.held.chunks n.id i)) in
      ap (λ (o : Option Node). read_found u p i (chunk_of_node i o)) f
      ∙ ap (λ (o : Option ArrayView). read_found u p i (chunk_in n.id i o)) a
      ∙ ap (λ (b : Bool). read_found u p i (if b then Ok (record { node = n.id; bytes = chunk_length array }) else Err OutOfGrid)) g
      ∙ ap (read_at u p i (record { node = n.id; bytes = chunk_length array })) own

  short_read : set_refusal (nodes_seen s) p i (length bytes) ≡ None → get_program (with_chunk s p i (Inline bytes)) p i ≡ Done (Ok (Is_bytes bytes))
  short_read r =
      let there = some_node seen _ r in
      let array = some_array (array_in there.0.text) _ there.2 in
      let within = not_not (in_grid array.0 i) (passed (not (in_grid array.0 i)) OutOfGrid _ array.2).0 in
      ap (λ (o : Option Node). get_program (record s { held = placed_chunk s.held i (Inline bytes) o }) p i) there.1
      ∙ by_grid there.0 array.0 there.1 array.1 within

  by_object : (o : Option Id12) → put_object s p i bytes o ≡ Done (Ok t) → chunk_program t p i ≡ Done (Ok (Bytes bytes))
  by_object None e = absurd cc
  by_object (Some id) e = absurd cc

  by_length : (short : Bool) → set_refusal (nodes_seen s) p i (length bytes) ≡ None → (if short then Done (Ok (with_chunk s p i (Inline bytes))) else put_object s p i bytes (drawn12 s.ids)) ≡ Done (Ok t)
      → chunk_program t p i ≡ Done (Ok (Bytes bytes))
  by_length true r e =
      let done : with_chunk s p i (Inline bytes) ≡ t = cc in
      ap (λ (x : SessionState). chunk_program x p i) (sym done) ∙ ap (λ (q : Program Value). q >>= answered) (short_read r)
  by_length false r e = by_object (drawn12 s.ids) e

  by_fault : (o : Option EditFault) → set_refusal (nodes_seen s) p i (length bytes) ≡ o → unless_fault o (put_chunk s p i bytes) ≡ Done (Ok t) → chunk_program t p i ≡ Done (Ok (Bytes bytes))
  by_fault None r e = by_length (nat_le (length bytes) most_inline) r e
  by_fault (Some fault) r e = absurd cc

  by_leave : (w : Bool) → (if w then unless_fault (set_refusal (nodes_seen s) p i (length bytes)) (put_chunk s p i bytes) else Done (Err R.ReadOnly)) ≡ Done (Ok t) → chunk_program t p i ≡ Done (Ok (Bytes bytes))
  by_leave true e = by_fault (set_refusal (nodes_seen s) p i (length bytes)) refl e
  by_leave false e = absurd cc

  set_chunk : set_program s p i bytes ≡ Done (Ok t) → chunk_program t p i ≡ Done (Ok (Bytes bytes))
  unfolding set_program
  set_chunk e = by_leave (writes s) e

-- ---- by what the key names
program_same : (r : Result SessionState Refusal) (t : SessionState) → Done r ≡ Done (Ok t) → r ≡ Ok t
program_same r t e = cc

set_read : (s t : SessionState) (bytes : List ℕ) (o : Option ZarrKey) → set_at s bytes o ≡ Done (Ok t) → get_at t o ≡ Done (Ok (Bytes bytes))
set_read s t bytes None e = absurd cc
set_read s t bytes (Some (Meta p)) e = ap (λ (v : KeyValue). Done (Ok v)) (put_text s t p bytes (get (nodes_seen s) p) refl (program_same _ t e))
set_read s t bytes (Some (Chunk p i)) e = set_chunk s t p i bytes e

pub read-back : ReadBackLaw
read-back s t key bytes e = get_named t key (key_of key) refl ∙ set_read s t bytes (key_of key) (sym (set_named s key bytes (key_of key) refl) ∙ e)

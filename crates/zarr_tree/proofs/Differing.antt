-- What changes touch tells all in which the tree under them differs.
use Rattle.std.proofs.Common.{◌≡◌, ◌⊎◌, inl, inr, ℕ, Bool, true, false, cond, ◌||◌, List, Option, Some, None, is_some, unwrap_or, refl, sym, ap, ◌∙◌}
use Rattle.std.specs.FinMap.{get}
use Rattle.ice_ids.specs.Text.{same_id8}
use Rattle.zarr_tree.specs.Nodes.{Node, is_group, is_array}
use Rattle.zarr_tree.specs.Trees.{Tree, node_at, IsWellFormed}
use Rattle.zarr_tree.specs.Changes.{Changes, is_gone, patched, has_id, own_chunk, chunk_of, apply, IsOver}
use Rattle.zarr_tree.specs.Touched.{Touched, Touches, lists, lists_chunk, lists_new, lists_deleted, lists_updated}
use Rattle.zarr_tree.specs.Laws.{DiffersLaw}
use Rattle.zarr_tree.proofs.Maps.{Path, Index}
use Rattle.zarr_tree.proofs.NodeLaws.{Text, group_or_array}
use Rattle.zarr_tree.proofs.Apply.{id-refl, Own, node_cases, own_node}
use Rattle.zarr_tree.proofs.Extend.{own-id}

or-left : (a b : Bool) → a ≡ true → (a || b) ≡ true
or-left true b h = refl
or-left false b h = cc

or-right : (a b : Bool) → b ≡ true → (a || b) ≡ true
or-right true b h = refl
or-right false b h = h

module _ (c : Changes) (t : Tree) (s : Touched) (wt : IsWellFormed t) (o : IsOver c t) (ts : Touches c t s) where
  added_listed : (p : Path) (n : Node) → get c.added p ≡ Some n → lists_new s n.id ≡ true
  added_listed p n a = by_kind (group_or_array n.text (o.readable p n a))
    where
      by_kind : (is_array n.text ≡ true) ⊎ (is_group n.text ≡ true) → lists_new s n.id ≡ true
      by_kind (inl k) = or-right (lists s.new_groups n.id) _ ((ts.new_arrays n.id).1 (record { path = p; node = n; added = a; same = refl; kind_of = k }))
      by_kind (inr k) = or-left _ (lists s.new_arrays n.id) ((ts.new_groups n.id).1 (record { path = p; node = n; added = a; same = refl; kind_of = k }))

  gone_listed : (p : Path) (n : Node) → node_at t p ≡ Some n → is_gone c.dropped t.nodes p ≡ true → lists_deleted s n.id ≡ true
  gone_listed p n f g = by_kind (group_or_array n.text (wt.readable p n f))
    where
      by_kind : (is_array n.text ≡ true) ⊎ (is_group n.text ≡ true) → lists_deleted s n.id ≡ true
      by_kind (inl k) = or-right (lists s.deleted_groups n.id) _ ((ts.deleted_arrays n.id).1 (record { path = p; node = n; found = f; same = refl; kind_of = k; gone = g }))
      by_kind (inr k) = or-left _ (lists s.deleted_arrays n.id) ((ts.deleted_groups n.id).1 (record { path = p; node = n; found = f; same = refl; kind_of = k; gone = g }))

  updated_listed : (p : Path) (n : Node) → node_at t p ≡ Some n → has_id n.id (node_at (apply c t) p) ≡ true → is_some (c.metas n.id) ≡ true → lists_updated s n.id ≡ true
  updated_listed p n f h m = by_kind (group_or_array n.text (wt.readable p n f))
    where
      by_kind : (is_array n.text ≡ true) ⊎ (is_group n.text ≡ true) → lists_updated s n.id ≡ true
      by_kind (inl k) = or-left _ (lists s.updated_groups n.id) ((ts.updated_arrays n.id).1 (record { path = p; node = n; found = f; same = refl; kind_of = k; stays = h; updated = m }))
      by_kind (inr k) = or-right (lists s.updated_arrays n.id) _ ((ts.updated_groups n.id).1 (record { path = p; node = n; found = f; same = refl; kind_of = k; stays = h; updated = m }))

  has : (m n : Node) (x : Option Node) → x ≡ Some m → m.id ≡ n.id → has_id n.id x ≡ true
  has m n x e is = ap (has_id n.id) e ∙ ap (λ k. same_id8 k n.id) is ∙ id-refl n.id

  new : (p : Path) (n : Node) → node_at (apply c t) p ≡ Some n → has_id n.id (node_at t p) ≡ false → lists_new s n.id ≡ true
  new p n f h = by_case (node_cases c t p n f)
    where
      by_case : (get c.added p ≡ Some n) ⊎ Own c t p n → lists_new s n.id ≡ true
      by_case (inl a) = added_listed p n a
      by_case (inr r) = let k : has_id n.id (node_at t p) ≡ true = has r.before n (node_at t p) r.found (sym (own-id c t p n r)) in cc

  deleted : (p : Path) (n : Node) → node_at t p ≡ Some n → has_id n.id (node_at (apply c t) p) ≡ false → lists_deleted s n.id ≡ true
  deleted p n f h = by_case (get c.added p) refl (is_gone c.dropped t.nodes p) refl
    where
      by_case : (a : Option Node) → get c.added p ≡ a → (g : Bool) → is_gone c.dropped t.nodes p ≡ g → lists_deleted s n.id ≡ true
      by_case a e true g = gone_listed p n f g
      by_case None e false g = let k : has_id n.id (node_at (apply c t) p) ≡ true = has (patched c.metas n) n (node_at (apply c t) p) (own_node c t p n e g f) refl in cc
      by_case (Some x) e false g = let k : is_gone c.dropped t.nodes p ≡ true = o.free p x n e f in cc

  updated : (p : Path) (m n : Node) → node_at t p ≡ Some m → node_at (apply c t) p ≡ Some n → m.id ≡ n.id → (n.text ≡ m.text) ⊎ ((lists_updated s n.id || lists_new s n.id) ≡ true)
  updated p m n f g same = by_case (node_cases c t p n g)
    where
      stays : has_id m.id (node_at (apply c t) p) ≡ true
      stays = has n m (node_at (apply c t) p) g (sym same)

      text_of : (r : Own c t p n) → (x : Option Text) → c.metas m.id ≡ x → (n.text ≡ m.text) ⊎ ((lists_updated s n.id || lists_new s n.id) ≡ true)
      text_of r None e =
          let here : r.before ≡ m = cc (sym r.found ∙ f) in
          inl (ap (λ (y : Node). y.text) (r.same ∙ ap (patched c.metas) here) ∙ ap (λ x. unwrap_or x m.text) e)
      text_of r (Some x) e = inr (or-left _ (lists_new s n.id) (ap (lists_updated s) (sym same) ∙ updated_listed p m f stays (ap is_some e)))

      by_case : (get c.added p ≡ Some n) ⊎ Own c t p n → (n.text ≡ m.text) ⊎ ((lists_updated s n.id || lists_new s n.id) ≡ true)
      by_case (inl a) = inr (or-right (lists_updated s n.id) _ (added_listed p n a))
      by_case (inr r) = text_of r (c.metas m.id) refl

  -- an array that stays has the tree's chunk where no entry is
  own_is : (p : Path) (i : Index) (m n : Node) → node_at t p ≡ Some m → m.id ≡ n.id → own_chunk (node_at t p) n.id (t.chunk p i) ≡ t.chunk p i
  own_is p i m n f same = ap (λ b. cond b (t.chunk p i) None) (has m n (node_at t p) f same)

  chunks : (p : Path) (i : Index) (m n : Node) → node_at t p ≡ Some m → node_at (apply c t) p ≡ Some n → m.id ≡ n.id → is_array n.text ≡ true
      → ((apply c t).chunk p i ≡ t.chunk p i) ⊎ ((lists_chunk s.updated_chunks n.id i || lists_new s n.id) ≡ true)
  chunks p i m n f g same k = by_entry (c.chunks n.id i) refl
    where
      by_entry : (x : Option (Option (List ℕ))) → c.chunks n.id i ≡ x → ((apply c t).chunk p i ≡ t.chunk p i) ⊎ ((lists_chunk s.updated_chunks n.id i || lists_new s n.id) ≡ true)
      by_entry None e = inl (ap (chunk_of c.chunks t p i) g ∙ (λ j. cond (k j) (unwrap_or (e j) (own_chunk (node_at t p) n.id (t.chunk p i))) None) ∙ own_is p i m n f same)
      by_entry (Some x) e = inr (or-left _ (lists_new s n.id) ((ts.updated_chunks n.id i).1 (record { path = p; node = n; found = g; same = refl; kind_of = k; entry = ap is_some e })))

pub differs-law : DiffersLaw
differs-law c t s wt o ts = record { new = new c t s wt o ts; deleted = deleted c t s wt o ts; updated = updated c t s wt o ts; chunks = chunks c t s wt o ts }

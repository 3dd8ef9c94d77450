-- The log of a commit tells all in which the tree of its snapshot differs from its base's, where that is well formed.
use Rattle.std.proofs.Common.{◌≡◌, ◌⊎◌, inl, inr, ℕ, Bool, true, false, ◌||◌, List, Option, Some, None, refl, sym, ap, subst, ◌∙◌}
use Rattle.std.specs.Prelude.{is_some, option_map, option_and_then}
use Rattle.std.specs.Option.{unwrap_or}
use Rattle.std.specs.FinMap.{FinMap, get}
use Rattle.zarr_path.specs.Paths.{path_cmp}
use Rattle.zarr_tree.specs.declared.lists.Touched.{Touched}
use Rattle.zarr_tree.specs.Nodes.{Node, is_array, SameFrozen}
use Rattle.zarr_tree.specs.Trees.{Tree, node_at, IsWellFormed}
use Rattle.zarr_tree.specs.Changes.{Changes, patched, has_id}
use Rattle.zarr_tree.specs.Touched.{Touches, DiffersIn, lists, lists_chunk, lists_new}
use Rattle.zarr_tree.specs.Held.{meta_in, entry_in, touched}
use Rattle.zarr_tree.proofs.NodeLaws.{frozen-refl}
use Rattle.zarr_tree.proofs.Apply.{Own, node_cases}
use Rattle.zarr_tree.proofs.Listing.{touched-law}
use Rattle.zarr_tree.proofs.Differing.{differs-law}
use Rattle.manifest_file.specs.declared.manifest.Place.{Place}
use Rattle.repo_objects.specs.Trees.{Puts, bytes_at, tree_under}
use Rattle.changed_snapshot.specs.declared.new_snapshot.NewList.{NewList}
use Rattle.changed_snapshot.specs.Rows.{rows_over}
use Rattle.changed_snapshot.specs.Laws.{AreMerged}
use Rattle.changed_snapshot.proofs.NodesHold.{nodes_hold}
use Rattle.changed_snapshot.proofs.TreeHolds.{chunk-at}
use Rattle.session.specs.Sessions.{SessionState, base_nodes, base_tree, changes_in, overlay}
use Rattle.commit_path.specs.Spelled.{IsOtherText, IsSpelled}
use Rattle.commit_path.proofs.Spelling.{lies-over}

-- the tree of a session's snapshot
abbrev pub snap_tree : Puts → SessionState → List NewList → Tree
snap_tree puts s news = tree_under puts (rows_over s.held news s.rows)

or-right : (a b : Bool) → b ≡ true → (a || b) ≡ true
or-right true b h = refl
or-right false b h = h

module _ (puts : Puts) (s : SessionState) (news : List NewList) (w : IsSpelled s) (merged : AreMerged puts s.held s.rows news) (wf : IsWellFormed (base_tree puts s)) where
  abbrev c : Changes
  c = changes_in puts s

  abbrev t : Tree
  t = base_tree puts s

  abbrev log : Touched
  log = touched s.held (base_nodes s)

  touches : Touches (changes_in puts s) (base_tree puts s) (touched s.held (base_nodes s))
  touches = touched-law {P = Place} (bytes_at puts) s.held t

  by_changes : DiffersIn (touched s.held (base_nodes s)) (base_tree puts s) (overlay puts s)
  by_changes = differs-law c t log wf (lies-over puts s w) touches

  -- where ids are distinct, another text leaves the parts that stay
  own_frozen : (p : List ℕ) (m n : Node) → node_at t p ≡ Some m → Own c t p n → SameFrozen m.text n.text
  own_frozen p m n was own = subst (SameFrozen m.text) (sym text) (by_text (meta_in s.held.metas m.id) refl)
    where
      before : own.before ≡ m
      before = cc (sym own.found ∙ was)

      text : n.text ≡ unwrap_or (meta_in s.held.metas m.id) m.text
      text = ap (λ (x : Node). x.text) (own.same ∙ ap (patched c.metas) before)

      by_text : (o : Option (List ℕ)) → meta_in s.held.metas m.id ≡ o → SameFrozen m.text (unwrap_or o m.text)
      by_text None e = frozen-refl m.text
      by_text (Some other) e =
          let is : IsOtherText (base_nodes s) m.id other = w.frozen m.id other e in
          let here : is.path ≡ p = wf.distinct is.path p is.node m is.found was is.same in
          let node : is.node ≡ m = cc (sym is.found ∙ ap (node_at t) here ∙ was) in
          subst (λ (x : Node). SameFrozen x.text other) node is.frozen

  abbrev SameChunk : List ℕ → List ℕ → Node → Type 0
  SameChunk p i n = ((snap_tree puts s news).chunk p i ≡ t.chunk p i) ⊎ ((lists_chunk log.updated_chunks n.id i || lists_new log n.id) ≡ true)

  chunks : (p i : List ℕ) (m n : Node) → node_at t p ≡ Some m → node_at (overlay puts s) p ≡ Some n → m.id ≡ n.id → is_array n.text ≡ true → SameChunk p i n
  chunks p i m n was is same array = by_case (node_cases c t p n is)
    where
      keeps : Own c t p n → (x y : Node) → node_at t p ≡ Some x → node_at (overlay puts s) p ≡ Some y → x.id ≡ y.id → SameFrozen x.text y.text
      keeps own x y f g k =
          let node : n ≡ y = cc (sym is ∙ g) in
          subst (λ (z : Node). SameFrozen x.text z.text) node (own_frozen p x n f own)

      by_case : (get c.added p ≡ Some n) ⊎ Own c t p n → SameChunk p i n
      by_case (inl added) =
          inr (or-right (lists_chunk log.updated_chunks n.id i) (lists_new log n.id)
          (or-right (lists log.new_groups n.id) (lists log.new_arrays n.id) ((touches.new_arrays n.id).1 (record { path = p; node = n; added = added; same = λ j. n.id; kind_of = array }))))
      by_case (inr own) = by_entry (entry_in s.held.chunks n.id i) refl
        where
          by_changed : (snap_tree puts s news).chunk p i ≡ (overlay puts s).chunk p i → ((overlay puts s).chunk p i ≡ t.chunk p i) ⊎ ((lists_chunk log.updated_chunks n.id i || lists_new log n.id) ≡ true) → SameChunk p i n
          by_changed chunk (inl e) = inl (chunk ∙ e)
          by_changed chunk (inr e) = inr e

          -- an index with an entry is listed; at another one the new list has what the old one had
          by_entry : (o : Option (Option Place)) → entry_in s.held.chunks n.id i ≡ o → SameChunk p i n
          by_entry (Some entry) e =
              let listed = (touches.updated_chunks n.id i).1 (record { path = p; node = n; found = is; same = refl; kind_of = array; entry = ap (λ (o : Option (Option Place)). is_some (option_map (λ place. option_and_then (bytes_at puts) place) o)) e }) in
              inr (ap (λ b. b || lists_new log n.id) listed)
          by_entry None e =
              by_changed
              (chunk-at puts s.held news s.rows p i (keeps own) (λ m view f a some. let none_there : is_some (entry_in s.held.chunks m.id i) ≡ false = not-some m f in cc) (record { written = merged.written p; others = merged.others p }))
              (by_changes.chunks p i m n was is same array)
            where
              not-some : (m : Node) → node_at (overlay puts s) p ≡ Some m → is_some (entry_in s.held.chunks m.id i) ≡ false
              not-some m f = let node : n ≡ m = cc (sym is ∙ f) in subst (λ (x : Node). is_some (entry_in s.held.chunks x.id i) ≡ false) node (ap is_some e)

  same_node : (p : List ℕ) → node_at (snap_tree puts s news) p ≡ node_at (overlay puts s) p
  same_node p = ap (λ (nodes : FinMap path_cmp Node). get nodes p) (nodes_hold s.held news s.rows)

  pub differs-over : DiffersIn (touched s.held (base_nodes s)) (base_tree puts s) (snap_tree puts s news)
  differs-over =
      let d = by_changes in
      record {
        new = λ p n f h. d.new p n (sym (same_node p) ∙ f) h;
        deleted = λ p n f h. d.deleted p n f (ap (λ o. has_id n.id o) (sym (same_node p)) ∙ h);
        updated = λ p m n f g same. d.updated p m n f (sym (same_node p) ∙ g) same;
        chunks = λ p i m n f g same array. chunks p i m n f (sym (same_node p) ∙ g) same array;
      }

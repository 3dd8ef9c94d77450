-- Over a base without nodes a commit leaves nothing to solve, or a path is taken.
use Rattle.std.proofs.Common.{◌≡◌, ◌∙◌, ℕ, true, false, cond, List, [], ◌∷◌, Option, Some, None, is_some, option_map, ◌⊎◌, inl, inr, refl, sym, ap, subst}
use Rattle.std.specs.Prelude.{find, ◌≢◌}
use Rattle.std.specs.FinMap.{FinMap, get, empty, get-empty}
use Rattle.ice_ids.specs.declared.Id8.{Id8}
use Rattle.ice_ids.specs.Text.{same_id8}
use Rattle.zarr_path.specs.Paths.{path_cmp, root, is_path, is_within, parent_of}
use Rattle.zarr_path.proofs.PathLaws.{within_under}
use Rattle.zarr_path.proofs.SpellLaws.{root-path, path_parts}
use Rattle.manifest_file.specs.declared.manifest.Place.{Place}
use Rattle.repo_objects.specs.Trees.{nodes_in}
use Rattle.zarr_tree.specs.declared.cases.Case.TheVariants as case
use Rattle.zarr_tree.specs.declared.lists.Touched.{Touched}
use Rattle.zarr_tree.specs.Nodes.{Node}
use Rattle.zarr_tree.specs.Trees.{Tree, node_at, IsWellFormed}
use Rattle.zarr_tree.specs.Changes.{Changes, none, apply, IsNormal}
use Rattle.zarr_tree.specs.Held.{Held, meta_in, changes_of}
use Rattle.zarr_tree.specs.Conflicts.{IsTaken, NoConflict}
use Rattle.zarr_tree.proofs.Maps.{same}
use Rattle.zarr_tree.proofs.Above.{Has, above}
use Rattle.zarr_tree.proofs.Apply.{gone-false, node_cases, added_node, id-refl}
use Rattle.zarr_tree.proofs.Normal.{none-law}
use Rattle.zarr_changes.specs.Edits.{without_chunks}
use Rattle.conflicts.specs.declared.solving.Policy.{Policy}
use Rattle.conflicts.specs.Found.{found}
use Rattle.conflicts.specs.Laws.{sides}
use Rattle.conflicts.specs.Solving.{left_of, given_up, keys_in}
use Rattle.conflicts.proofs.Members.{In, in-contains}
use Rattle.conflicts.proofs.Exactness.{exact-law}
use Rattle.rebase.specs.Along.{Link, first_hidden, sides_at, solved_at, past, along}
use Rattle.rebase.specs.AlongLaws.{HasNodes}
use Rattle.rebase.proofs.Unhidden.{none-out}
use Rattle.rebase.proofs.OwnCommits.{differ}

nothing_some : {A : Type 0} (o : Option A) (x : A) → o ≡ None → o ≡ Some x → ⊥
nothing_some o x e f = let bad = sym e ∙ f in cc bad

some_of : {A : Type 0} (o : Option A) → is_some o ≡ true → (x : A) × (o ≡ Some x)
some_of None e = cc
some_of (Some x) e = (x, refl)

-- ---- `/` is above all
in_root : (p : List ℕ) → is_path p ≡ true → is_within root p ≡ true
in_root p v = let s = path_parts p v in within_under root p (record { rest = s.rest; same = s.slash })

-- a well-formed tree with a node has `/`
pub root-of : (t : Tree) → IsWellFormed t → (p : List ℕ) (n : Node) → node_at t p ≡ Some n → Has t root
root-of t w p n f = above t w root root-path p n f (in_root p (w.named p n f))

none_where : (t : Tree) → IsWellFormed t → node_at t root ≡ None → (p : List ℕ) → node_at t p ≡ None
none_where t w e p = by_case (node_at t p) refl
  where
    by_case : (o : Option Node) → node_at t p ≡ o → node_at t p ≡ None
    by_case None f = f
    by_case (Some n) f = let h = root-of t w p n f in absurd (nothing_some (node_at t root) h.node e h.found)

-- trees without nodes are one
no_chunk : (t : Tree) → IsWellFormed t → ((p : List ℕ) → node_at t p ≡ None) → (p i : List ℕ) → t.chunk p i ≡ None
no_chunk t w e p i = by_case (t.chunk p i) refl
  where
    by_case : (o : Option (List ℕ)) → t.chunk p i ≡ o → t.chunk p i ≡ None
    by_case None f = f
    by_case (Some b) f = let a = w.chunks p i b f in absurd (nothing_some (node_at t p) a.node (e p) a.found)

one_nothing : (t u : Tree) → IsWellFormed t → IsWellFormed u → ((p : List ℕ) → node_at t p ≡ None) → ((p : List ℕ) → node_at u p ≡ None) → t ≡ u
one_nothing t u wt wu et eu =
    let nodes : t.nodes ≡ u.nodes = same t.nodes u.nodes (λ p. et p ∙ sym (eu p)) in
    λ z. record { nodes = nodes z; chunk = λ p i. (no_chunk t wt et p i ∙ sym (no_chunk u wu eu p i)) z }

-- ---- lists without members
no-member : {A : Type 0} (xs : List A) → ((y : A) → In xs y → ⊥) → xs ≡ []
no-member [] f = refl
no-member (x ∷ xs) f = absurd (f x (inl refl))

no-texts : (rows : List (Id8 × List ℕ)) → ((id : Id8) (text : List ℕ) → meta_in rows id ≡ Some text → ⊥) → rows ≡ []
no-texts [] f = refl
no-texts (row ∷ rows) f = absurd (f row.0 row.1 (ap (λ b. option_map (λ (r : Id8 × List ℕ). r.1) (cond b (Some row) (find (λ (r : Id8 × List ℕ). same_id8 r.0 row.0) rows))) (id-refl row.0)))

-- ---- one commit over nothing
module _ (c : Changes) (t v : Tree) (wt : IsWellFormed t) (wv : IsWellFormed v) (n : IsNormal c t) (nothing : (p : List ℕ) → node_at t p ≡ None) where
  -- all that the changes leave is added
  added_of : (p : List ℕ) (m : Node) → node_at (apply c t) p ≡ Some m → get c.added p ≡ Some m
  added_of p m f = elim (node_cases c t p m f) [
    | inl a ↦ a
    | inr o ↦ absurd (nothing_some (node_at t p) o.before (nothing p) o.found)
  ]

  -- no added path has another node of the later tree
  abbrev pub Free : Type 0
  Free = (p : List ℕ) (m : Node) → get c.added p ≡ Some m → node_at v p ≡ None

  no_taken : Free → (p : List ℕ) → IsTaken c v p → ⊥
  no_taken free p x = let a = some_of (get c.added p) x.0 in let b = some_of (node_at v p) x.1 in nothing_some (node_at v p) b.0 (free p a.0 a.1) b.1

  parent_added : (p : List ℕ) → is_some (get c.added p) ≡ true → p ≢ root → get c.added (parent_of p) ≡ None → ⊥
  parent_added p x other none =
      let a = some_of (get c.added p) x in
      let g = n.well_formed.parents p a.0 (added_node c t p a.0 a.1) other in
      nothing_some (get c.added (parent_of p)) g.node none (added_of (parent_of p) g.node g.found)

  none_at : (p : List ℕ) (m : Node) → node_at t p ≡ Some m → ⊥
  none_at p m f = nothing_some (node_at t p) m (nothing p) f

  module _ (s : Touched) where
    no_conflict : Free → NoConflict c s t v
    no_conflict free case.NewNodeConflictsWithExistingNode p None x = no_taken free p x
    no_conflict free case.NewNodeConflictsWithExistingNode p (Some i) x = x
    no_conflict free case.NewNodeInInvalidGroup p None x = parent_added p x.0 x.1 x.2
    no_conflict free case.NewNodeInInvalidGroup p (Some i) x = x
    no_conflict free case.ZarrMetadataDoubleUpdate p i x = none_at p x.0 x.1
    no_conflict free case.ZarrMetadataUpdateOfDeletedArray p i x = none_at p x.0 x.1
    no_conflict free case.ZarrMetadataUpdateOfDeletedGroup p i x = none_at p x.0 x.1
    no_conflict free case.ChunkDoubleUpdate p i x = none_at p x.0 x.1
    no_conflict free case.ChunksUpdatedInDeletedArray p i x = none_at p x.0 x.1
    no_conflict free case.ChunksUpdatedInUpdatedArray p i x = none_at p x.0 x.1
    no_conflict free case.DeleteOfUpdatedArray p i x = none_at p x.0 x.1
    no_conflict free case.DeleteOfUpdatedGroup p i x = none_at p x.0 x.1

  -- no other text is held
  no_text : (id : Id8) (text : List ℕ) → c.metas id ≡ Some text → ⊥
  no_text id text e = let k = n.metas id text e in none_at k.path k.before k.was

  none_of : {A : Type 0} (o : Option A) → ((x : A) → o ≡ Some x → ⊥) → o ≡ None
  none_of None f = refl
  none_of (Some x) f = absurd (f x refl)

  -- where nothing is added, nothing is held
  holds_none : ((p : List ℕ) → get c.added p ≡ None) → ((id : Id8) → c.dropped id ≡ false) → c ≡ none
  holds_none adds drops =
      let added : c.added ≡ empty = same c.added empty (λ p. adds p ∙ sym (get-empty path_cmp p)) in
      let metas : (id : Id8) → c.metas id ≡ None = λ id. none_of (c.metas id) (no_text id) in
      let chunks : (id : Id8) (i : List ℕ) → c.chunks id i ≡ None = λ id i. none_of (c.chunks id i) (λ e h. let k = n.chunks id i e h in nothing_some (get c.added k.path) k.node (adds k.path) (added_of k.path k.node k.found)) in
      λ z. record { dropped = λ id. drops id z; added = added z; metas = λ id. metas id z; chunks = λ id i. chunks id i z }

  -- a path is taken, or nothing is in the way and the changes stay normal
  pub record IsFree : Type 0 where
    pub free : Free
    pub normal : IsNormal c v

  pub taken-or-free : ((id : Id8) → c.dropped id ≡ false) → IsTaken c v root ⊎ IsFree
  taken-or-free drops = by_root (get c.added root) refl (node_at v root) refl
    where
      no_root : get c.added root ≡ None → (p : List ℕ) → get c.added p ≡ None
      no_root e p = none_of (get c.added p) (λ m f. let h = root-of (apply c t) n.well_formed p m (added_node c t p m f) in nothing_some (get c.added root) h.node e (added_of root h.node h.found))

      by_root : (a : Option Node) → get c.added root ≡ a → (b : Option Node) → node_at v root ≡ b → IsTaken c v root ⊎ IsFree
      by_root None e b f = inr (record {
        free = λ p m g. absurd (nothing_some (get c.added p) m (no_root e p) g);
        normal = subst (λ (d : Changes). IsNormal d v) (sym (holds_none (no_root e) drops)) (none-law v wv).1;
      })
      by_root (Some a) e None f = inr (record {
        free = λ p m g. none_where v wv f p;
        normal = subst (IsNormal c) (one_nothing t v wt wv nothing (none_where v wv f)) n;
      })
      by_root (Some a) e (Some b) f = inl (ap is_some e, ap is_some f, gone-false c.dropped v root (λ g. differ (sym (drops g.node.id) ∙ g.dropped_id)))

  -- where something is added and no path is taken, the later tree has no node either
  pub nothing-left : Free → (p : List ℕ) (m : Node) → get c.added p ≡ Some m → (q : List ℕ) → node_at v q ≡ None
  nothing-left free p m a =
      let h = root-of (apply c t) n.well_formed p m (added_node c t p m a) in
      none_where v wv (free root h.node (added_of root h.node h.found))

-- ---- the way from there
module _ (bytes_at : Place → Option (List ℕ)) (policy : Policy) (held : Held Place) (t v : Tree) (l : Link) (wt : IsWellFormed t) (wv : IsWellFormed v) (n : IsNormal (changes_of bytes_at held) t) (nothing : (p : List ℕ) → node_at t p ≡ None) (is : HasNodes l v) where
  abbrev c : Changes
  c = changes_of bytes_at held

  found-none : Free c t v wt wv n nothing → found (sides_at held t.nodes l) ≡ []
  found-none free =
      ap (λ (m : FinMap path_cmp Node). found (record { held = held; theirs = l.lists; before = t.nodes; after = m })) (sym is)
      ∙ no-member (found (sides held l.lists t v)) (λ y k. no_conflict c t v wt wv n nothing l.lists free y.case y.path y.index ((exact-law bytes_at held l.lists t v y).0 (in-contains (found (sides held l.lists t v)) y k)))

  -- nothing is given up
  pub solved-none : Free c t v wt wv n nothing → solved_at policy held t.nodes l ≡ held
  solved-none free = ap (λ xs. without_chunks held (keys_in t.nodes (given_up policy xs))) (found-none free) ∙ none-out held

  pub goes-on : Free c t v wt wv n nothing → (ls : List Link) → along policy held t.nodes (l ∷ ls) ≡ along policy held v.nodes ls
  unfolding along
  goes-on free ls =
      let none_found = found-none free in
      let texts : held.metas ≡ [] = no-texts held.metas (no_text c t v wt wv n nothing) in
      (λ z. past l.file.id (left_of policy (none_found z)) (first_hidden (nodes_in l.file.nodes) (texts z)) (along policy (without_chunks held (keys_in t.nodes (given_up policy (none_found z)))) (nodes_in l.file.nodes) ls))
      ∙ ap (λ (h : Held Place). along policy h (nodes_in l.file.nodes) ls) (none-out held)
      ∙ ap (λ (m : FinMap path_cmp Node). along policy held m ls) (sym is)

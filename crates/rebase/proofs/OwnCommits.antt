-- A commit of the session itself stops it.
use Rattle.std.proofs.Common.{◌≡◌, ◌∙◌, ℕ, Bool, true, false, List, [], ◌∷◌, ◌++◌, Option, Some, None, ◌⊎◌, inl, inr, refl, sym, ap, subst}
use Rattle.std.specs.Prelude.{is_some}
use Rattle.std.specs.List.{All}
use Rattle.std.proofs.lemmas.List.Elements.{All-nil, All-cons, All-head, All-tail, All-weaker}
use Rattle.std.specs.FinMap.{FinMap, find, get, entries, get-entries}
use Rattle.ice_ids.specs.declared.Id8.{Id8}
use Rattle.ice_ids.specs.declared.Id12.{Id12}
use Rattle.zarr_path.specs.Paths.{path_cmp}
use Rattle.zarr_path.proofs.PathLaws.{within-refl}
use Rattle.manifest_file.specs.declared.manifest.Place.{Place}
use Rattle.repo_objects.specs.Trees.{nodes_in}
use Rattle.zarr_tree.specs.declared.cases.Case.TheVariants as case
use Rattle.zarr_tree.specs.declared.cases.Conflict.{Conflict}
use Rattle.zarr_tree.specs.Nodes.{Node}
use Rattle.zarr_tree.specs.Trees.{Tree}
use Rattle.zarr_tree.specs.Changes.{Changes, apply, is_gone}
use Rattle.zarr_tree.specs.Touched.{lists}
use Rattle.zarr_tree.specs.Held.{Held, changes_of, nodes_over}
use Rattle.zarr_tree.specs.Conflicts.{IsTaken}
use Rattle.zarr_tree.proofs.Apply.{Gone, Own, gone-false, gone-intro, node_cases, added_node}
use Rattle.zarr_changes.specs.Edits.{without_chunks}
use Rattle.conflicts.specs.declared.solving.Policy.{Policy}
use Rattle.conflicts.specs.Found.{found}
use Rattle.conflicts.specs.Laws.{sides}
use Rattle.conflicts.specs.Solving.{case_stays, given_up, keys_in}
use Rattle.conflicts.proofs.Facts.{in-row}
use Rattle.conflicts.proofs.Members.{In, contains-in, filter-in}
use Rattle.conflicts.proofs.Exactness.{made, exact-law}
use Rattle.rebase.specs.Along.{Link, Way, Solves, Stays, Hides, sides_at, left_at, solved_at, first_hidden, past, along}
use Rattle.rebase.specs.AlongLaws.{Follows, IsOwnLink, FollowsToOwn}
use Rattle.rebase.proofs.Following.{past-solves, past-hides}

pub differ : false ≡ true → ⊥
differ e = cc

-- a tree with these nodes
abbrev pub over : FinMap path_cmp Node → Tree
over nodes = record { nodes = nodes; chunk = λ p i. None }

-- added ids that weren't dropped
abbrev pub DropsNoneAdded : Changes → Type 0
DropsNoneAdded c = (p : List ℕ) (n : Node) → get c.added p ≡ Some n → c.dropped n.id ≡ false

-- ---- an added node of an own commit is taken
module _ (c : Changes) (l : Link) (kept : DropsNoneAdded c) (o : IsOwnLink c l) where
  abbrev before : Tree
  before = over o.nodes

  abbrev there : Tree
  there = apply o.other before

  own-never : (own_path : List ℕ) (n : Node) → c.dropped n.id ≡ true → Own o.other before own_path n → ⊥
  own-never p n d own =
      let dropped : o.other.dropped own.before.id ≡ true = ap (λ (f : Id8 → Bool). f own.before.id) o.dropped ∙ ap (λ (m : Node). c.dropped m.id) (sym own.same) ∙ d in
      let gone : is_gone o.other.dropped o.nodes p ≡ true = gone-intro o.other.dropped before p (record { path = p; node = own.before; found = own.found; dropped_id = dropped; within = within-refl p }) in
      differ (sym own.stays ∙ gone)

  never : (p : List ℕ) → Gone c.dropped there p → ⊥
  never p g = elim (node_cases o.other before g.path g.node g.found) [
    | inl a ↦ differ (sym (kept g.path g.node (ap (λ (m : FinMap path_cmp Node). get m g.path) (sym o.added) ∙ a)) ∙ g.dropped_id)
    | inr own ↦ own-never g.path g.node g.dropped_id own
  ]

  pub own-taken : IsTaken c (over (nodes_in l.file.nodes)) o.path
  own-taken = (
    ap is_some o.adds,
    ap (λ (m : FinMap path_cmp Node). is_some (get m o.path)) o.is ∙ ap is_some (added_node o.other before o.path o.node (ap (λ (m : FinMap path_cmp Node). get m o.path) o.added ∙ o.adds)),
    ap (λ (m : FinMap path_cmp Node). is_gone c.dropped m o.path) o.is ∙ gone-false c.dropped there o.path (never o.path),
  )

stays-first : (at : Id12) (left : List Conflict) (hidden : Option Id8) (further : Way) → ¬ (left ≡ []) → past at left hidden further ≡ Stays at left
stays-first at [] hidden further n = absurd (n refl)
stays-first at (x ∷ xs) hidden further n = refl

-- ---- the way
module _ (bytes_at : Place → Option (List ℕ)) where
  abbrev changed : Held Place → Changes
  changed h = changes_of bytes_at h

  abbrev out_at : Policy → Held Place → FinMap path_cmp Node → Link → List (Id8 × List ℕ)
  out_at policy held nodes l = keys_in nodes (given_up policy (found (sides_at held nodes l)))

  -- no policy solves that an added path is taken
  pub taken-left : (policy : Policy) (held : Held Place) (nodes : FinMap path_cmp Node) (l : Link) (p : List ℕ) → IsTaken (changed held) (over (nodes_in l.file.nodes)) p → ¬ (left_at policy held nodes l ≡ [])
  taken-left policy held nodes l p x none =
      let after : Tree = over (nodes_in l.file.nodes) in
      let k : Conflict = made case.NewNodeConflictsWithExistingNode p None in
      let among : In (found (sides held l.lists (over nodes) after)) k = contains-in (found (sides held l.lists (over nodes) after)) k ((exact-law bytes_at held l.lists (over nodes) after k).1 x) in
      let stays : In (left_at policy held nodes l) k = filter-in (λ (y : Conflict). case_stays policy y.case y.index) (found (sides held l.lists (over nodes) after)) k among refl in
      subst (λ (ys : List Conflict). In ys k) none stays

  own-left : (policy : Policy) (held : Held Place) (nodes : FinMap path_cmp Node) (l : Link) → DropsNoneAdded (changed held) → IsOwnLink (changed held) l → ¬ (left_at policy held nodes l ≡ [])
  own-left policy held nodes l kept o = taken-left policy held nodes l o.path (own-taken (changed held) l kept o)

  pub own-stops : (policy : Policy) (held : Held Place) (nodes : FinMap path_cmp Node) (l : Link) (ls : List Link) → DropsNoneAdded (changed held) → IsOwnLink (changed held) l → along policy held nodes (l ∷ ls) ≡ Stays l.file.id (left_at policy held nodes l)
  unfolding along
  own-stops policy held nodes l ls kept o =
      stays-first l.file.id (left_at policy held nodes l) (first_hidden (nodes_in l.file.nodes) held.metas) (along policy (solved_at policy held nodes l) (nodes_in l.file.nodes) ls) (own-left policy held nodes l kept o)

  -- what is own doesn't look at entries
  own-out : (held : Held Place) (out : List (Id8 × List ℕ)) (l : Link) → IsOwnLink (changed held) l → IsOwnLink (changed (without_chunks held out)) l
  own-out held out l o = record { path = o.path; node = o.node; adds = o.adds; other = o.other; added = o.added; dropped = o.dropped; nodes = o.nodes; is = o.is }

  abbrev NotOwn : Held Place → Link → Type 0
  NotOwn held l = ¬ IsOwnLink (changed held) l

  pub none-own : (policy : Policy) (held left : Held Place) (nodes : FinMap path_cmp Node) (links : List Link) → DropsNoneAdded (changed held) → along policy held nodes links ≡ Solves left → All (λ (l : Link). ¬ IsOwnLink (changed held) l) links
  unfolding along
  none-own policy held left nodes [] kept e = All-nil (NotOwn held)
  none-own policy held left nodes (l ∷ ls) kept e =
      let g = past-solves l.file.id (left_at policy held nodes l) (first_hidden (nodes_in l.file.nodes) held.metas) (along policy (solved_at policy held nodes l) (nodes_in l.file.nodes) ls) left e in
      let out : List (Id8 × List ℕ) = out_at policy held nodes l in
      All-cons (NotOwn held) l ls (λ o. own-left policy held nodes l kept o g.none_left)
      (All-weaker (NotOwn (without_chunks held out)) (NotOwn held) (λ k not_own o. not_own (own-out held out k o)) ls (none-own policy (without_chunks held out) left (nodes_in l.file.nodes) ls kept g.goes_on))

  -- what is still held has lost entries of chunks alone
  pub chunks-alone : (policy : Policy) (held left : Held Place) (nodes : FinMap path_cmp Node) (links : List Link) → along policy held nodes links ≡ Solves left → left ≡ record held { chunks = left.chunks }
  unfolding along
  chunks-alone policy held left nodes [] e = let same : held ≡ left = cc e in ap (λ (h : Held Place). record h { chunks = left.chunks }) (sym same)
  chunks-alone policy held left nodes (l ∷ ls) e =
      let g = past-solves l.file.id (left_at policy held nodes l) (first_hidden (nodes_in l.file.nodes) held.metas) (along policy (solved_at policy held nodes l) (nodes_in l.file.nodes) ls) left e in
      chunks-alone policy (without_chunks held (out_at policy held nodes l)) left (nodes_in l.file.nodes) ls g.goes_on

  -- where a log hides a node, it is one before an own commit
  pub hides-before : (policy : Policy) (held : Held Place) (nodes : FinMap path_cmp Node) (first : List Link) (l : Link) (ls : List Link) (at : Id12) (node : Id8) → DropsNoneAdded (changed held) → IsOwnLink (changed held) l
      → along policy held nodes (first ++ l ∷ ls) ≡ Hides at node → along policy held nodes first ≡ Hides at node
  unfolding along
  hides-before policy held nodes [] l ls at node kept o e = let stays = sym (own-stops policy held nodes l ls kept o) ∙ e in absurd (cc stays)
  hides-before policy held nodes (b ∷ bs) l ls at node kept o e =
      let rest : List Link = bs ++ l ∷ ls in
      let further : Way = along policy (solved_at policy held nodes b) (nodes_in b.file.nodes) bs in
      elim (past-hides b.file.id (left_at policy held nodes b) (first_hidden (nodes_in b.file.nodes) held.metas) (along policy (solved_at policy held nodes b) (nodes_in b.file.nodes) rest) at node e) [
        | inl h ↦ (λ z. past b.file.id (h.1 z) (h.2 z) further) ∙ ap (λ (i : Id12). Hides i node) (sym h.0)
        | inr g ↦ (λ z. past b.file.id (g.none_left z) (g.none_hidden z) further)
            ∙ hides-before policy (without_chunks held (out_at policy held nodes b)) (nodes_in b.file.nodes) bs l ls at node kept (own-out held (out_at policy held nodes b) l o) g.goes_on
      ]

  -- a snapshot of the same session
  pub held-own : (held other : Held Place) (nodes : FinMap path_cmp Node) (l : Link) (p : List ℕ) (n : Node) → get held.added p ≡ Some n → other.added ≡ held.added → other.dropped ≡ held.dropped
      → nodes_in l.file.nodes ≡ nodes_over other nodes → IsOwnLink (changed held) l
  held-own held other nodes l p n adds added dropped is = record { path = p; node = n; adds = adds; other = changed other; added = added; dropped = ap (λ (ids : List Id8). lists ids) dropped; nodes = nodes; is = is }

-- ---- up to an own commit
-- where none is own, all follow
pub plain-all : (c : Changes) (t u : Tree) (links : List Link) → FollowsToOwn c t links u → All (λ (l : Link). ¬ IsOwnLink c l) links → Follows c t links u
unfolding Follows FollowsToOwn
plain-all c t u [] f a = f
plain-all c t u (l ∷ ls) (inl o) a = absurd (All-head (λ (k : Link). ¬ IsOwnLink c k) l ls a o)
plain-all c t u (l ∷ ls) (inr f) a = (f.0, f.1, f.2, f.3, f.4, plain-all c (apply f.0 t) u ls f.5 (All-tail (λ (k : Link). ¬ IsOwnLink c k) l ls a))

-- the first ones follow, and then comes an own one, or none
pub record ToOwn (c : Changes) (t : Tree) (links : List Link) : Type 0 where
  pub first : List Link
  pub end : Tree
  pub follows : Follows c t first end
  pub then : (links ≡ first) ⊎ ((l : Link) × (ls : List Link) × (links ≡ first ++ l ∷ ls) × IsOwnLink c l)

pub to-own : (c : Changes) (t u : Tree) (links : List Link) → FollowsToOwn c t links u → ToOwn c t links
unfolding Follows FollowsToOwn
to-own c t u [] f = record { first = []; end = u; follows = f; then = inl refl }
to-own c t u (l ∷ ls) (inl o) = record { first = []; end = t; follows = refl; then = inr (l, ls, refl, o) }
to-own c t u (l ∷ ls) (inr f) =
    let r = to-own c (apply f.0 t) u ls f.5 in
    record {
      first = l ∷ r.first;
      end = r.end;
      follows = (f.0, f.1, f.2, f.3, f.4, r.follows);
      then = elim r.then [
        | inl e ↦ inl (ap (λ (ks : List Link). l ∷ ks) e)
        | inr o ↦ inr (o.0, o.1, ap (λ (ks : List Link). l ∷ ks) o.2, o.3)
      ];
    }

-- ---- whether anything is added
pub adds-or-none : (m : FinMap path_cmp Node) → ((p : List ℕ) × (n : Node) × (get m p ≡ Some n)) ⊎ ((p : List ℕ) → get m p ≡ None)
adds-or-none m = by_rows (entries m) refl
  where
    by_rows : (rows : List (List ℕ × Node)) → entries m ≡ rows → ((p : List ℕ) × (n : Node) × (get m p ≡ Some n)) ⊎ ((p : List ℕ) → get m p ≡ None)
    by_rows [] e = inr (λ p. get-entries m p ∙ ap (λ (rows : List (List ℕ × Node)). find path_cmp p rows) e)
    by_rows (row ∷ rows) e = inl (row.0, row.1, in-row m row (subst (λ (rs : List (List ℕ × Node)). In rs row) (sym e) (inl refl)))

-- What a session that moved on knows, and that it can be written.
use Rattle.std.proofs.Common.{◌≡◌, ℕ, ◌≤◌, Bool, true, false, cond, not, ◌&&◌, List, [], ◌∷◌, ◌++◌, Contains, refl, sym, ◌∙◌, ap, subst}
use Rattle.std.specs.Prelude.{Option, Some, None, is_some, option_map, find}
use Rattle.std.specs.FinMap.{FinMap, get, len, entries}
use Rattle.ice_ids.specs.declared.Id8.{Id8}
use Rattle.ice_ids.specs.declared.Id12.{Id12}
use Rattle.ice_ids.specs.Text.{same_id8, IsId12}
use Rattle.zarr_path.specs.Paths.{path_cmp}
use Rattle.manifest_file.specs.declared.manifest.Place.{Place}
use Rattle.manifest_file.specs.declared.manifest.Place.TheVariants.{Object}
use Rattle.snapshot_file.specs.declared.snapshot.SnapshotFile.{SnapshotFile}
use Rattle.repo_objects.specs.Laws.{IsProper}
use Rattle.repo_objects.specs.Trees.{nodes_in}
use Rattle.zarr_tree.specs.declared.cases.Case.TheVariants as case
use Rattle.zarr_tree.specs.declared.cases.Conflict.{Conflict}
use Rattle.zarr_tree.specs.Nodes.{Node, frozen_change}
use Rattle.zarr_tree.specs.Trees.{Tree}
use Rattle.zarr_tree.specs.Touched.{lists}
use Rattle.zarr_tree.specs.Edits.{most_nodes}
use Rattle.zarr_tree.specs.Changes.{is_gone}
use Rattle.zarr_tree.specs.Held.{Held, HeldEntry, entry_in, meta_in, nodes_over}
use Rattle.zarr_tree.proofs.Apply.{first, second, id-true}
use Rattle.zarr_changes.specs.Edits.{lists_key}
use Rattle.conflicts.specs.declared.solving.Policy.{Policy}
use Rattle.conflicts.specs.Found.{found}
use Rattle.conflicts.specs.Solving.{case_stays}
use Rattle.conflicts.proofs.Members.{In, any-in, contains-in, filter-in}
use Rattle.conflicts.proofs.Facts.{in-row, none-of, turned}
use Rattle.conflicts.proofs.Exactness.{exact-law, made}
use Rattle.object_store.specs.declared.events.Event.{Event}
use Rattle.store_api.specs.Journal.{Each, IsGood}
use Rattle.session.specs.Sessions.{SessionState, branch_of, origin_at, rebased_to}
use Rattle.commit_path.specs.Opened.{BranchNamed, IsOpened}
use Rattle.commit_path.specs.Spelled.{IsOtherText, IsSpelled}
use Rattle.commit_path.proofs.Knowing.{BranchNamed-append, tip-moved}
use Rattle.commit_path.proofs.Entries.{AreFewer, filter-fewer}
use Rattle.commit_path.proofs.Editing.{sized-fewer}
use Rattle.rebase.specs.Along.{Link, Way, Solves, sides_at, left_at, solved_at, is_kept, first_hidden, past, along}
use Rattle.rebase.proofs.Walking.{IsHead}

abbrev pub Nodes : Type 0
Nodes = FinMap path_cmp Node

-- ---- what is still held
-- the same, but for entries that were given up
pub record IsLess (held left : Held Place) : Type 0 where
  pub rows : List (HeldEntry Place)
  pub is : left ≡ record held { chunks = rows }
  pub fewer : AreFewer held.chunks rows

less-same : (held : Held Place) → IsLess held held
less-same held = record { rows = held.chunks; is = refl; fewer = λ node i x e. e }

less-solved : (policy : Policy) (held : Held Place) (before : Nodes) (l : Link) → IsLess held (solved_at policy held before l)
less-solved policy held before l = record { rows = (solved_at policy held before l).chunks; is = refl; fewer = filter-fewer (λ node i. not (lists_key _ node i)) held.chunks }

less-less : (held mid left : Held Place) → IsLess held mid → IsLess mid left → IsLess held left
less-less held mid left a b = record {
  rows = b.rows;
  is = b.is ∙ ap (λ (h : Held Place). record h { chunks = b.rows }) a.is;
  fewer = λ node i x e. a.fewer node i x (ap (λ (h : Held Place). entry_in h.chunks node i) (sym a.is) ∙ b.fewer node i x e);
}

-- ---- the last commit of a way on which all is solved
-- by then this was held, of which no conflict with it stays, and of which it hides no text
pub record EndsAt (policy : Policy) (held left : Held Place) (l : Link) : Type 0 where
  pub mid : Held Place
  pub before : Nodes
  pub none : left_at policy mid before l ≡ []
  pub kept : first_hidden (nodes_in l.file.nodes) mid.metas ≡ None
  pub mid_less : IsLess held mid
  pub less : IsLess held left

past-solves : (at : Id12) (xs : List Conflict) (hidden : Option Id8) (further : Way) (left : Held Place) → past at xs hidden further ≡ Solves left → (xs ≡ []) × (hidden ≡ None) × (further ≡ Solves left)
past-solves at (x ∷ xs) hidden further left e = cc
past-solves at [] (Some node) further left e = cc
past-solves at [] None further left e = (refl, refl, e)

same-solved : (a b : Held Place) → Solves a ≡ Solves b → a ≡ b
same-solved a b e = cc

pub way-ends : (policy : Policy) (held left : Held Place) (nodes : Nodes) (before : List Link) (l : Link) → along policy held nodes (before ++ l ∷ []) ≡ Solves left → EndsAt policy held left l
unfolding along
way-ends policy held left nodes [] l e =
    let p = past-solves l.file.id (left_at policy held nodes l) (first_hidden (nodes_in l.file.nodes) held.metas) (Solves (solved_at policy held nodes l)) left e in
    record {
      mid = held;
      before = nodes;
      none = p.0;
      kept = p.1;
      mid_less = less-same held;
      less = subst (IsLess held) (same-solved (solved_at policy held nodes l) left p.2) (less-solved policy held nodes l);
    }
way-ends policy held left nodes (b ∷ bs) l e =
    let p = past-solves b.file.id (left_at policy held nodes b) (first_hidden (nodes_in b.file.nodes) held.metas) (along policy (solved_at policy held nodes b) (nodes_in b.file.nodes) (bs ++ l ∷ [])) left e in
    let mid = solved_at policy held nodes b in
    let r = way-ends policy mid left (nodes_in b.file.nodes) bs l p.2 in
    record {
      mid = r.mid;
      before = r.before;
      none = r.none;
      kept = r.kept;
      mid_less = less-less held mid r.mid (less-solved policy held nodes b) r.mid_less;
      less = less-less held mid left (less-solved policy held nodes b) r.less;
    }

-- ---- added nodes
-- where no conflict stays, a node at an added path is gone
pub none-taken : (policy : Policy) (mid : Held Place) (before : Nodes) (l : Link) → left_at policy mid before l ≡ [] → (p : List ℕ) (m n : Node) → get mid.added p ≡ Some m → get (nodes_in l.file.nodes) p ≡ Some n → is_gone (lists mid.dropped) (nodes_in l.file.nodes) p ≡ true
none-taken policy mid before l none p m n e f = by_gone (is_gone (lists mid.dropped) (nodes_in l.file.nodes) p) refl
  where
    t : Tree
    t = record { nodes = before; chunk = λ q i. None }

    u : Tree
    u = record { nodes = nodes_in l.file.nodes; chunk = λ q i. None }

    x : Conflict
    x = made case.NewNodeConflictsWithExistingNode p None

    taken : is_gone (lists mid.dropped) (nodes_in l.file.nodes) p ≡ false → Contains (found (sides_at mid before l)) x
    taken g = (exact-law (λ place. None) mid l.lists t u x).1 (ap is_some e, ap is_some f, g)

    by_gone : (b : Bool) → is_gone (lists mid.dropped) (nodes_in l.file.nodes) p ≡ b → b ≡ true
    by_gone true g = refl
    by_gone false g = absurd (subst (λ (xs : List Conflict). In xs x) none (filter-in (λ (y : Conflict). case_stays policy y.case y.index) (found (sides_at mid before l)) x (contains-in (found (sides_at mid before l)) x (taken g)) refl))

-- ---- other texts
kept-text : (nodes : Nodes) (id : Id8) (text : List ℕ) → is_kept nodes id text ≡ true → IsOtherText nodes id text
kept-text nodes id text k =
    let r = any-in (λ (row : List ℕ × Node). same_id8 row.1.id id && not (is_some (frozen_change row.1.text text))) (entries nodes) k in
    let own = first (same_id8 r.0.1.id id) (not (is_some (frozen_change r.0.1.text text))) r.2 in
    let frozen = second (same_id8 r.0.1.id id) (not (is_some (frozen_change r.0.1.text text))) r.2 in
    record { path = r.0.0; node = r.0.1; found = in-row nodes r.0 r.1; same = id-true r.0.1.id id own; frozen = none-of (frozen_change r.0.1.text text) (turned (is_some (frozen_change r.0.1.text text)) frozen) }

pub none-hidden : (nodes : Nodes) (metas : List (Id8 × List ℕ)) → first_hidden nodes metas ≡ None → (id : Id8) (text : List ℕ) → meta_in metas id ≡ Some text → IsOtherText nodes id text
none-hidden nodes [] h id text e = cc
none-hidden nodes (row ∷ rows) h id text e = by_kept (is_kept nodes row.0 row.1) refl h (λ f k. none-hidden nodes rows f id text k)
  where
    by_row : IsOtherText nodes row.0 row.1 → (meta_in rows id ≡ Some text → IsOtherText nodes id text) → (b : Bool) → same_id8 row.0 id ≡ b → option_map (λ (r : Id8 × List ℕ). r.1) (cond b (Some row) (find (λ (r : Id8 × List ℕ). same_id8 r.0 id) rows)) ≡ Some text → IsOtherText nodes id text
    by_row here later true s k = let same : row.1 ≡ text = cc in subst (IsOtherText nodes id) same (subst (λ (i : Id8). IsOtherText nodes i row.1) (id-true row.0 id s) here)
    by_row here later false s k = later k

    by_kept : (b : Bool) → is_kept nodes row.0 row.1 ≡ b → cond b (first_hidden nodes rows) (Some row.0) ≡ None → (first_hidden nodes rows ≡ None → meta_in rows id ≡ Some text → IsOtherText nodes id text) → IsOtherText nodes id text
    by_kept true k f later = by_row (kept-text nodes row.0 row.1 k) (later f) (same_id8 row.0 id) refl e
    by_kept false k f later = cc

-- ---- the branch
-- it stood at this version, with a reference to this snapshot
abbrev pub HasNamed : (branch : List ℕ) → (version : ℕ) → Id12 → List Event → Type 0
HasNamed branch version id h = BranchNamed h branch version id

pub HasNamed-append : (branch : List ℕ) (version : ℕ) (id : Id12) (journal more : List Event) → Each IsGood journal more → HasNamed branch version id journal → HasNamed branch version id (journal ++ more)
HasNamed-append branch version id journal more g n = BranchNamed-append journal more branch version id n

-- ---- a session whose branch still names its base
pub same-spelled : (s : SessionState) (version : ℕ) → IsSpelled s → IsSpelled (record s { origin = origin_at version s.origin })
same-spelled s version w = record {
  base = w.base;
  of_snapshot = record { file = w.of_snapshot.file; proper = w.of_snapshot.proper; rows = w.of_snapshot.rows; files = w.of_snapshot.files };
  added = w.added;
  texts = w.texts;
  frozen = w.frozen;
  free = w.free;
  chunks = w.chunks;
  props = w.props;
  few = w.few;
}

pub same-opened : (s : SessionState) (version : ℕ) (h : List Event) → HasNamed (branch_of s) version s.base h → IsOpened s h → IsOpened (record s { origin = origin_at version s.origin }) h
same-opened s version h n o = record { named = tip-moved h s.base version s.origin n; put = o.put; had = o.had; rows = o.rows; objects = o.objects; chunks = o.chunks }

-- ---- a session that moved on
module _ (s : SessionState) (id : Id12) (version : ℕ) where
  pub moved-opened : (f : SnapshotFile) (left : Held Place) (h : List Event) → HasNamed (branch_of s) version id h → IsHead id f h → IsLess s.held left → IsOpened s h → IsOpened (rebased_to s id version f left) h
  moved-opened f left h n k less o = subst (λ (held : Held Place). IsOpened (rebased_to s id version f held) h) (sym less.is) (record {
    named = tip-moved h id version s.origin n;
    put = k.put;
    had = k.had;
    rows = k.rows;
    objects = λ node i object offset size e. o.objects node i object offset size (less.fewer node i (Some (Object object offset size)) e);
    chunks = λ once node i place e. o.chunks once node i place (less.fewer node i (Some place) e);
  })

  moved-frozen : (policy : Policy) (l : Link) (left : Held Place) → EndsAt policy s.held left l → (node : Id8) (text : List ℕ) → meta_in s.held.metas node ≡ Some text → IsOtherText (nodes_in l.file.nodes) node text
  moved-frozen policy l left r node text e =
      none-hidden (nodes_in l.file.nodes) s.held.metas (subst (λ (h : Held Place). first_hidden (nodes_in l.file.nodes) h.metas ≡ None) r.mid_less.is r.kept) node text e

  moved-free : (policy : Policy) (l : Link) (left : Held Place) → EndsAt policy s.held left l → (p : List ℕ) (m n : Node) → get s.held.added p ≡ Some m → get (nodes_in l.file.nodes) p ≡ Some n → is_gone (lists s.held.dropped) (nodes_in l.file.nodes) p ≡ true
  moved-free policy l left r =
      subst (λ (h : Held Place). (p : List ℕ) (m n : Node) → get h.added p ≡ Some m → get (nodes_in l.file.nodes) p ≡ Some n → is_gone (lists h.dropped) (nodes_in l.file.nodes) p ≡ true) r.mid_less.is
      (none-taken policy r.mid r.before l r.none)

  pub moved-spelled : (policy : Policy) (l : Link) (left : Held Place) → EndsAt policy s.held left l → IsId12 id → IsProper l.file → len (nodes_over left (nodes_in l.file.nodes)) ≤ most_nodes → IsSpelled s → IsSpelled (rebased_to s id version l.file left)
  moved-spelled policy l left r i proper few w = subst (λ (held : Held Place). IsSpelled (rebased_to s id version l.file held)) (sym r.less.is) (record {
    base = i;
    of_snapshot = record { file = l.file; proper = proper; rows = refl; files = refl };
    added = w.added;
    texts = w.texts;
    frozen = moved-frozen policy l left r;
    free = moved-free policy l left r;
    chunks = sized-fewer s.held.chunks r.less.rows r.less.fewer w.chunks;
    props = w.props;
    few = subst (λ (held : Held Place). len (nodes_over held (nodes_in l.file.nodes)) ≤ most_nodes) r.less.is few;
  })

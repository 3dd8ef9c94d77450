-- Along commits whose logs are right.
use Rattle.std.proofs.Common.{◌≡◌, ◌∙◌, ℕ, List, [], ◌∷◌, Option, Some, None, ◌⊎◌, inl, inr, refl, sym, ap, subst}
use Rattle.std.specs.FinMap.{FinMap}
use Rattle.std.proofs.lemmas.List.Elements.{All-contains}
use Rattle.ice_ids.specs.declared.Id8.{Id8}
use Rattle.ice_ids.specs.declared.Id12.{Id12}
use Rattle.zarr_path.specs.Paths.{path_cmp}
use Rattle.manifest_file.specs.declared.manifest.Place.{Place}
use Rattle.repo_objects.specs.Trees.{nodes_in}
use Rattle.zarr_tree.specs.declared.cases.Conflict.{Conflict}
use Rattle.zarr_tree.specs.Nodes.{Node}
use Rattle.zarr_tree.specs.Trees.{Tree, IsWellFormed}
use Rattle.zarr_tree.specs.Changes.{Changes, apply, IsNormal}
use Rattle.zarr_tree.specs.Held.{Held, meta_in, changes_of}
use Rattle.zarr_changes.specs.Edits.{without_chunks}
use Rattle.conflicts.specs.declared.solving.Policy.{Policy}
use Rattle.conflicts.specs.Found.{Sides, found}
use Rattle.conflicts.specs.Laws.{IsBeside}
use Rattle.conflicts.specs.Solving.{left_of, given_up, keys_in}
use Rattle.conflicts.proofs.Members.{in-contains}
use Rattle.conflicts.proofs.LawProofs.{commuting-law, solved-law}
use Rattle.rebase.specs.Along.{Link, Way, Solves, Stays, Hides, sides_at, left_at, solved_at, first_hidden, past, along}
use Rattle.rebase.specs.AlongLaws.{Follows, FollowsApart, HasOneTextEach, NormalLaw, NoneConflicts, LeadBoth, QuietLaw}
use Rattle.rebase.proofs.Unhidden.{is-kept, normal-keeps, none-hidden, none-out}

-- ---- what ends a way
pub record Goes (left : List Conflict) (hidden : Option Id8) (further way : Way) : Type 0 where
  pub none_left : left ≡ []
  pub none_hidden : hidden ≡ None
  pub goes_on : further ≡ way

pub past-solves : (at : Id12) (left : List Conflict) (hidden : Option Id8) (further : Way) (held : Held Place) → past at left hidden further ≡ Solves held → Goes left hidden further (Solves held)
past-solves at [] None further held e = record { none_left = refl; none_hidden = refl; goes_on = e }
past-solves at [] (Some node) further held e = cc
past-solves at (x ∷ xs) hidden further held e = cc

pub past-stays : (at : Id12) (left : List Conflict) (hidden : Option Id8) (further : Way) (id : Id12) (xs : List Conflict) → past at left hidden further ≡ Stays id xs
    → ((id ≡ at) × (left ≡ xs) × ¬ (left ≡ [])) ⊎ Goes left hidden further (Stays id xs)
past-stays at [] None further id xs e = inr (record { none_left = refl; none_hidden = refl; goes_on = e })
past-stays at [] (Some node) further id xs e = cc
past-stays at (y ∷ ys) hidden further id xs e = let same : (id ≡ at) × (y ∷ ys ≡ xs) = (cc e, cc e) in inl (same.0, same.1, λ none. cc none)

pub past-hides : (at : Id12) (left : List Conflict) (hidden : Option Id8) (further : Way) (id : Id12) (node : Id8) → past at left hidden further ≡ Hides id node
    → ((id ≡ at) × (left ≡ []) × (hidden ≡ Some node)) ⊎ Goes left hidden further (Hides id node)
past-hides at [] None further id node e = inr (record { none_left = refl; none_hidden = refl; goes_on = e })
past-hides at [] (Some n) further id node e = let same : (id ≡ at) × (n ≡ node) = (cc e, cc e) in inl (same.0, refl, ap Some same.1)
past-hides at (y ∷ ys) hidden further id node e = cc

never : {A : Type 0} (x : A) → None ≡ Some x → ⊥
never x e = cc

-- ---- what follows doesn't look at entries
follows-kept : (c : Changes) (chunks : Id8 → List ℕ → Option (Option (List ℕ))) (t u : Tree) (ls : List Link) → Follows c t ls u → Follows (record c { chunks = chunks }) t ls u
unfolding Follows
follows-kept c chunks t u [] f = f
follows-kept c chunks t u (l ∷ ls) f = (f.0, f.1, f.2, f.3, f.4, follows-kept c chunks (apply f.0 t) u ls f.5)

module _ (bytes_at : Place → Option (List ℕ)) where
  abbrev changed : Held Place → Changes
  changed h = changes_of bytes_at h

  follows-out : (h : Held Place) (out : List (Id8 × List ℕ)) (t u : Tree) (ls : List Link) → Follows (changed h) t ls u → Follows (changed (without_chunks h out)) t ls u
  follows-out h out t u ls f = follows-kept (changed h) (changed (without_chunks h out)).chunks t u ls f

  -- ---- one commit
  module _ (policy : Policy) (h : Held Place) (t : Tree) (l : Link) (d : Changes) (b : IsBeside (changed h) d t l.lists) (e : (apply d t).nodes ≡ nodes_in l.file.nodes) where
    abbrev over : FinMap path_cmp Node → Sides
    over m = record { held = h; theirs = l.lists; before = t.nodes; after = m }

    still-normal : left_at policy h t.nodes l ≡ [] → (out : List (Id8 × List ℕ)) → IsNormal (changed (without_chunks h out)) (apply d t)
    still-normal none out = solved-law bytes_at h d t l.lists policy out b (ap (λ (m : FinMap path_cmp Node). left_of policy (found (over m))) e ∙ none)

    honest-log : HasOneTextEach h → left_at policy h t.nodes l ≡ [] → first_hidden (nodes_in l.file.nodes) h.metas ≡ None
    honest-log one none =
        subst (λ (m : FinMap path_cmp Node). first_hidden m h.metas ≡ None) e
        (none-hidden (apply d t).nodes h.metas
        (λ row k. is-kept (apply d t) row.0 row.1 (normal-keeps (changed (without_chunks h [])) (apply d t) row.0 row.1 (still-normal none []) (All-contains (λ (r : Id8 × List ℕ). meta_in h.metas r.0 ≡ Some r.1) h.metas row one (in-contains h.metas row k)))))

  beside : (h : Held Place) (t u : Tree) (l : Link) (ls : List Link) → IsWellFormed t → IsNormal (changed h) t → (f : Follows (changed h) t (l ∷ ls) u) → (d : Changes) × IsBeside (changed h) d t l.lists × ((apply d t).nodes ≡ nodes_in l.file.nodes) × Follows (changed h) (apply d t) ls u
  unfolding Follows
  beside h t u l ls w n f = (f.0, record { well_formed = w; ours = n; others = f.1; unlike = f.4; touched = f.2 }, f.3, f.5)

  -- ---- commit after commit
  normal-along : (policy : Policy) (held left : Held Place) (t u : Tree) (links : List Link) → IsWellFormed t → IsNormal (changed held) t → Follows (changed held) t links u
      → along policy held t.nodes links ≡ Solves left → IsNormal (changed left) u × IsWellFormed u
  unfolding along Follows
  normal-along policy held left t u [] w n f e =
      let same : held ≡ left = cc e in (subst (λ (h : Held Place). IsNormal (changed h) u) same (subst (IsNormal (changed held)) f n), subst IsWellFormed f w)
  normal-along policy held left t u (l ∷ ls) w n f e =
      let d = beside held t u l ls w n f in
      let g = past-solves l.file.id (left_at policy held t.nodes l) (first_hidden (nodes_in l.file.nodes) held.metas) (along policy (solved_at policy held t.nodes l) (nodes_in l.file.nodes) ls) left e in
      let out : List (Id8 × List ℕ) = keys_in t.nodes (given_up policy (found (sides_at held t.nodes l))) in
      normal-along policy (without_chunks held out) left (apply d.0 t) u ls d.1.others.well_formed (still-normal policy held t l d.0 d.1 d.2 g.none_left out) (follows-out held out (apply d.0 t) u ls d.3)
      (ap (λ (m : FinMap path_cmp Node). along policy (without_chunks held out) m ls) d.2 ∙ g.goes_on)

  honest-along : (policy : Policy) (held : Held Place) (t u : Tree) (links : List Link) (at : Id12) (node : Id8) → HasOneTextEach held → IsWellFormed t → IsNormal (changed held) t
      → Follows (changed held) t links u → ¬ (along policy held t.nodes links ≡ Hides at node)
  unfolding along Follows
  honest-along policy held t u [] at node one w n f e = cc
  honest-along policy held t u (l ∷ ls) at node one w n f e =
      let d = beside held t u l ls w n f in
      let out : List (Id8 × List ℕ) = keys_in t.nodes (given_up policy (found (sides_at held t.nodes l))) in
      elim (past-hides l.file.id (left_at policy held t.nodes l) (first_hidden (nodes_in l.file.nodes) held.metas) (along policy (solved_at policy held t.nodes l) (nodes_in l.file.nodes) ls) at node e) [
        | inl h ↦ never node (sym (honest-log policy held t l d.0 d.1 d.2 one h.1) ∙ h.2)
        | inr g ↦ honest-along policy (without_chunks held out) (apply d.0 t) u ls at node one d.1.others.well_formed (still-normal policy held t l d.0 d.1 d.2 g.none_left out) (follows-out held out (apply d.0 t) u ls d.3)
            (ap (λ (m : FinMap path_cmp Node). along policy (without_chunks held out) m ls) d.2 ∙ g.goes_on)
      ]

  pub normal-law : NormalLaw bytes_at
  normal-law = record { normal = normal-along; honest = honest-along }

-- ---- where nothing conflicts
quiet-along : QuietLaw
unfolding along FollowsApart NoneConflicts LeadBoth
quiet-along bytes_at policy held t u [] one w n f q = (refl, (f, ap (apply (changes_of bytes_at held)) f))
quiet-along bytes_at policy held t u (l ∷ ls) one w n f q =
    let b : IsBeside (changes_of bytes_at held) f.0 t l.lists = record { well_formed = w; ours = n; others = f.1; unlike = λ p m a. (f.4 p m a).1; touched = f.2 } in
    let nothing : left_at policy held t.nodes l ≡ [] = ap (left_of policy) q.0 in
    let hidden : first_hidden (nodes_in l.file.nodes) held.metas ≡ None = honest-log bytes_at policy held t l f.0 b f.3 one nothing in
    let normal : IsNormal (changes_of bytes_at held) (apply f.0 t) = subst (λ (h : Held Place). IsNormal (changes_of bytes_at h) (apply f.0 t)) (none-out held) (still-normal bytes_at policy held t l f.0 b f.3 nothing []) in
    let commute = commuting-law bytes_at held f.0 t l.lists b f.4 f.5 (ap (λ (m : FinMap path_cmp Node). found (record { held = held; theirs = l.lists; before = t.nodes; after = m })) f.3 ∙ q.0) in
    let further = quiet-along bytes_at policy held (apply f.0 t) u ls one b.others.well_formed normal f.6 (subst (λ (m : FinMap path_cmp Node). NoneConflicts held m ls) (sym f.3) q.1) in (
      (λ z. past l.file.id (nothing z) (hidden z) (along policy (without_chunks held (keys_in t.nodes (given_up policy (q.0 z)))) (nodes_in l.file.nodes) ls))
          ∙ ap (λ (h : Held Place). along policy h (nodes_in l.file.nodes) ls) (none-out held)
          ∙ ap (λ (m : FinMap path_cmp Node). along policy held m ls) (sym f.3)
          ∙ further.0,
      (f.0, b.others, b.touched, f.3, subst (λ (v : Tree). LeadBoth ls (apply f.0 t) u v (apply (changes_of bytes_at held) u)) commute.0 further.1),
    )

pub quiet-law : QuietLaw
quiet-law = quiet-along

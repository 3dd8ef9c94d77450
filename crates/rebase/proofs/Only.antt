-- That of a way one thing alone can be said.
use Rattle.std.proofs.Common.{◌≡◌, ◌∙◌, ℕ, ◌<◌, true, false, List, [], ◌∷◌, Option, Some, None, ◌⊎◌, inl, inr, Contains, refl, sym, subst, arith}
use Rattle.std.specs.Prelude.{◌≢◌}
use Rattle.std.specs.declared.cmp.Ordering.{Ordering}
use Rattle.std.specs.declared.cmp.Ordering.TheVariants.{Less}
use Rattle.std.specs.Cmp.{IsTotalOrder, both_ways}
use Rattle.ice_ids.specs.declared.Id8.{Id8}
use Rattle.ice_ids.specs.declared.Id12.{Id12}
use Rattle.zarr_path.specs.Paths.{path_cmp}
use Rattle.zarr_path.specs.Indices.{index_cmp}
use Rattle.zarr_path.proofs.OrderLaws.{total}
use Rattle.repo_objects.specs.Trees.{nodes_in}
use Rattle.zarr_tree.specs.declared.cases.Conflict.{Conflict}
use Rattle.zarr_tree.specs.Trees.{Tree}
use Rattle.zarr_tree.specs.Changes.{Changes}
use Rattle.zarr_tree.specs.Conflicts.{without}
use Rattle.zarr_changes.proofs.EntryLaws.{index_total}
use Rattle.conflicts.specs.declared.solving.Policy.{Policy}
use Rattle.zarr_tree.specs.Cases.{number}
use Rattle.conflicts.specs.Order.{IndexPrecedes, ConflictPrecedes, Ascend}
use Rattle.conflicts.proofs.Members.{In, in-contains, contains-in}
use Rattle.rebase.specs.Along.{Link}
use Rattle.rebase.specs.AlongLaws.{NoneStays, TheseStay, IsHidden, Passes, PassesAll, StaysAt, HidesAt, OnlyLaw}

-- ---- lists in order with the same members
less-back : {K : Type 0} (R : K → K → Ordering) → IsTotalOrder R → (x y : K) → R x y ≡ Less → R y x ≡ Less → ⊥
less-back R o x y p q = let back = o.antisymm x y in cc (back, p, q)

nat-back : (m n : ℕ) → m < n → n < m → ⊥
nat-back m n p q = omega arith

index-back : (i j : Option (List ℕ)) → IndexPrecedes i j → IndexPrecedes j i → ⊥
index-back None None p q = p
index-back None (Some j) p q = q
index-back (Some i) None p q = p
index-back (Some i) (Some j) p q = less-back index_cmp index_total i j p q

precedes-back : (x y : Conflict) → ConflictPrecedes x y → ConflictPrecedes y x → ⊥
precedes-back x y (inl p) (inl q) = less-back path_cmp total x.path y.path p q
precedes-back x y (inl p) (inr q) = let r = subst (λ (z : List ℕ). path_cmp z y.path ≡ Less) (sym q.0) p in less-back path_cmp total y.path y.path r r
precedes-back x y (inr p) (inl q) = let r = subst (λ (z : List ℕ). path_cmp z x.path ≡ Less) (sym p.0) q in less-back path_cmp total x.path x.path r r
precedes-back x y (inr p) (inr q) = by_cases p.1 q.1
  where
    by_cases : (number x.case < number y.case) ⊎ ((x.case ≡ y.case) × IndexPrecedes x.index y.index) → (number y.case < number x.case) ⊎ ((y.case ≡ x.case) × IndexPrecedes y.index x.index) → ⊥
    by_cases (inl m) (inl n) = nat-back (number x.case) (number y.case) m n
    by_cases (inl m) (inr n) = let r = subst (λ k. number k < number y.case) (sym n.0) m in nat-back (number y.case) (number y.case) r r
    by_cases (inr m) (inl n) = let r = subst (λ k. number k < number x.case) (sym m.0) n in nat-back (number x.case) (number x.case) r r
    by_cases (inr m) (inr n) = index-back x.index y.index m.1 n.1

ascend-same : (xs ys : List Conflict) → Ascend xs → Ascend ys → ((z : Conflict) → In xs z → In ys z) → ((z : Conflict) → In ys z → In xs z) → xs ≡ ys
ascend-same [] [] a b f g = refl
ascend-same [] (y ∷ ys) a b f g = absurd (g y (inl refl))
ascend-same (x ∷ xs) [] a b f g = absurd (f x (inl refl))
ascend-same (x ∷ xs) (y ∷ ys) a b f g =
    let rest : xs ≡ ys = ascend-same xs ys a.1 b.1 (λ z h. others z h (f z (inr h))) (λ z h. others-back z h (g z (inr h))) in λ i. same i ∷ rest i
  where
    by_first : In (y ∷ ys) x → In (x ∷ xs) y → x ≡ y
    by_first (inl e) k = sym e
    by_first (inr h) (inl e) = e
    by_first (inr h) (inr k) = absurd (precedes-back x y (a.0 y (in-contains xs y k)) (b.0 x (in-contains ys x h)))

    same : x ≡ y
    same = by_first (f x (inl refl)) (g y (inl refl))

    others : (z : Conflict) → In xs z → In (y ∷ ys) z → In ys z
    others z h (inl e) = let p = subst (ConflictPrecedes x) (sym (same ∙ e)) (a.0 z (in-contains xs z h)) in absurd (precedes-back x x p p)
    others z h (inr k) = k

    others-back : (z : Conflict) → In ys z → In (x ∷ xs) z → In xs z
    others-back z h (inl e) = let p = subst (ConflictPrecedes y) (sym (sym same ∙ e)) (b.0 z (in-contains ys z h)) in absurd (precedes-back y y p p)
    others-back z h (inr k) = k

first-in : {A : Type 0} (xs : List A) → xs ≢ [] → (x : A) × Contains xs x
first-in [] some = absurd (some refl)
first-in (x ∷ xs) some = (x, in-contains (x ∷ xs) x (inl refl))

-- ---- one commit
module _ (policy : Policy) (c : Changes) (l : Link) (t u : Tree) where
  one-pass : (d e : Changes) → Passes policy c l t u d → Passes policy c l t u e → d ≡ e
  one-pass d e a b =
      a.rest
      ∙ (λ z. without c (λ id i. both_ways (a.out id i) (b.out id i) (λ k. (b.given_up id i).1 ((a.given_up id i).0 k)) (λ k. (a.given_up id i).1 ((b.given_up id i).0 k)) z))
      ∙ sym b.rest

  stay-or-none : (xs : List Conflict) → TheseStay policy c l t u xs → NoneStays policy c l t u → ⊥
  stay-or-none xs s n =
      let x = first-in xs s.some in
      let k = (s.exactly x.0).0 x.1 in
      differ (sym k.1 ∙ n x.0.case x.0.path x.0.index k.0)
    where
      differ : true ≡ false → ⊥
      differ e = cc

  hidden-or-kept : (node : Id8) (e : Changes) → IsHidden c u node → Passes policy c l t u e → ⊥
  hidden-or-kept node e h p = h.lost (p.kept node h.text h.held)

  one-stay : (xs ys : List Conflict) → TheseStay policy c l t u xs → TheseStay policy c l t u ys → xs ≡ ys
  one-stay xs ys a b =
      ascend-same xs ys a.order b.order (λ z h. contains-in ys z ((b.exactly z).1 ((a.exactly z).0 (in-contains xs z h)))) (λ z h. contains-in xs z ((a.exactly z).1 ((b.exactly z).0 (in-contains ys z h))))

-- ---- commit after commit
-- a tree with the nodes of a commit's snapshot
tree-of : Link → Tree
tree-of l = record { nodes = nodes_in l.file.nodes; chunk = λ p i. None }

nodes-of : (l : Link) → (tree-of l).nodes ≡ nodes_in l.file.nodes
unfolding tree-of
nodes-of l = refl

module _ (policy : Policy) where
  -- what is said of a commit and those behind it
  abbrev Stays : Changes → Tree → Link → List Link → Id12 → List Conflict → Type 0
  Stays c t l ls at xs = ((at ≡ l.file.id) × TheseStay policy c l t (tree-of l) xs) ⊎ ((d : Changes) × Passes policy c l t (tree-of l) d × StaysAt policy d (tree-of l) ls at xs)

  abbrev Hides : Changes → Tree → Link → List Link → Id12 → Id8 → Type 0
  Hides c t l ls at node = ((at ≡ l.file.id) × NoneStays policy c l t (tree-of l) × IsHidden c (tree-of l) node) ⊎ ((d : Changes) × Passes policy c l t (tree-of l) d × HidesAt policy d (tree-of l) ls at node)

  one-rest : (c : Changes) (t : Tree) (links : List Link) (d e : Changes) → PassesAll policy c t links d → PassesAll policy c t links e → d ≡ e
  unfolding PassesAll
  one-rest c t [] d e p q = sym p ∙ q
  one-rest c t (l ∷ ls) d e p q =
      let a = p (tree-of l) (nodes-of l) in
      let b = q (tree-of l) (nodes-of l) in
      one-rest a.0 (tree-of l) ls d e a.2 (subst (λ x. PassesAll policy x (tree-of l) ls e) (one-pass policy c l t (tree-of l) b.0 a.0 b.1 a.1) b.2)

  one-stop : (c : Changes) (t : Tree) (links : List Link) (at other : Id12) (xs ys : List Conflict) → StaysAt policy c t links at xs → StaysAt policy c t links other ys → (at ≡ other) × (xs ≡ ys)
  unfolding StaysAt
  one-stop c t [] at other xs ys p q = absurd p
  one-stop c t (l ∷ ls) at other xs ys p q =
      by_cases (λ d. one-stop d (tree-of l) ls at other xs ys) (p (tree-of l) (nodes-of l)) (q (tree-of l) (nodes-of l))
    where
      by_cases : ((d : Changes) → StaysAt policy d (tree-of l) ls at xs → StaysAt policy d (tree-of l) ls other ys → (at ≡ other) × (xs ≡ ys)) → Stays c t l ls at xs → Stays c t l ls other ys → (at ≡ other) × (xs ≡ ys)
      by_cases further (inl a) (inl b) = (a.0 ∙ sym b.0, one-stay policy c l t (tree-of l) xs ys a.1 b.1)
      by_cases further (inl a) (inr b) = absurd (stay-or-none policy c l t (tree-of l) xs a.1 b.1.none_stays)
      by_cases further (inr a) (inl b) = absurd (stay-or-none policy c l t (tree-of l) ys b.1 a.1.none_stays)
      by_cases further (inr a) (inr b) = further a.0 a.2 (subst (λ x. StaysAt policy x (tree-of l) ls other ys) (one-pass policy c l t (tree-of l) b.0 a.0 b.1 a.1) b.2)

  one-hiding : (c : Changes) (t : Tree) (links : List Link) (at other : Id12) (node next : Id8) → HidesAt policy c t links at node → HidesAt policy c t links other next → at ≡ other
  unfolding HidesAt
  one-hiding c t [] at other node next p q = absurd p
  one-hiding c t (l ∷ ls) at other node next p q =
      by_cases (λ d. one-hiding d (tree-of l) ls at other node next) (p (tree-of l) (nodes-of l)) (q (tree-of l) (nodes-of l))
    where
      by_cases : ((d : Changes) → HidesAt policy d (tree-of l) ls at node → HidesAt policy d (tree-of l) ls other next → at ≡ other) → Hides c t l ls at node → Hides c t l ls other next → at ≡ other
      by_cases further (inl a) (inl b) = a.0 ∙ sym b.0
      by_cases further (inl a) (inr b) = absurd (hidden-or-kept policy c l t (tree-of l) node b.0 a.2 b.1)
      by_cases further (inr a) (inl b) = absurd (hidden-or-kept policy c l t (tree-of l) next a.0 b.2 a.1)
      by_cases further (inr a) (inr b) = further a.0 a.2 (subst (λ x. HidesAt policy x (tree-of l) ls other next) (one-pass policy c l t (tree-of l) b.0 a.0 b.1 a.1) b.2)

  passed-or-stays : (c : Changes) (t : Tree) (links : List Link) (e : Changes) (at : Id12) (xs : List Conflict) → PassesAll policy c t links e → ¬ StaysAt policy c t links at xs
  unfolding PassesAll StaysAt
  passed-or-stays c t [] e at xs p q = q
  passed-or-stays c t (l ∷ ls) e at xs p q =
      let a = p (tree-of l) (nodes-of l) in
      elim (q (tree-of l) (nodes-of l)) [
        | inl b ↦ stay-or-none policy c l t (tree-of l) xs b.1 a.1.none_stays
        | inr b ↦ passed-or-stays a.0 (tree-of l) ls e at xs a.2 (subst (λ x. StaysAt policy x (tree-of l) ls at xs) (one-pass policy c l t (tree-of l) b.0 a.0 b.1 a.1) b.2)
      ]

  passed-or-hides : (c : Changes) (t : Tree) (links : List Link) (e : Changes) (at : Id12) (node : Id8) → PassesAll policy c t links e → ¬ HidesAt policy c t links at node
  unfolding PassesAll HidesAt
  passed-or-hides c t [] e at node p q = q
  passed-or-hides c t (l ∷ ls) e at node p q =
      let a = p (tree-of l) (nodes-of l) in
      elim (q (tree-of l) (nodes-of l)) [
        | inl b ↦ hidden-or-kept policy c l t (tree-of l) node a.0 b.2 a.1
        | inr b ↦ passed-or-hides a.0 (tree-of l) ls e at node a.2 (subst (λ x. HidesAt policy x (tree-of l) ls at node) (one-pass policy c l t (tree-of l) b.0 a.0 b.1 a.1) b.2)
      ]

  stays-or-hides : (c : Changes) (t : Tree) (links : List Link) (at other : Id12) (xs : List Conflict) (node : Id8) → StaysAt policy c t links at xs → ¬ HidesAt policy c t links other node
  unfolding StaysAt HidesAt
  stays-or-hides c t [] at other xs node p q = q
  stays-or-hides c t (l ∷ ls) at other xs node p q =
      by_cases (λ d. stays-or-hides d (tree-of l) ls at other xs node) (p (tree-of l) (nodes-of l)) (q (tree-of l) (nodes-of l))
    where
      by_cases : ((d : Changes) → StaysAt policy d (tree-of l) ls at xs → ¬ HidesAt policy d (tree-of l) ls other node)
          → Stays c t l ls at xs → Hides c t l ls other node → ⊥
      by_cases further (inl a) (inl b) = stay-or-none policy c l t (tree-of l) xs a.1 b.1
      by_cases further (inl a) (inr b) = stay-or-none policy c l t (tree-of l) xs a.1 b.1.none_stays
      by_cases further (inr a) (inl b) = hidden-or-kept policy c l t (tree-of l) node a.0 b.2 a.1
      by_cases further (inr a) (inr b) = further a.0 a.2 (subst (λ x. HidesAt policy x (tree-of l) ls other node) (one-pass policy c l t (tree-of l) b.0 a.0 b.1 a.1) b.2)

pub only-law : (policy : Policy) (c : Changes) (t : Tree) (links : List Link) → OnlyLaw policy c t links
only-law policy c t links = record {
  one_rest = one-rest policy c t links;
  one_stop = one-stop policy c t links;
  one_hiding = one-hiding policy c t links;
  passed_or_stays = passed-or-stays policy c t links;
  passed_or_hides = passed-or-hides policy c t links;
  stays_or_hides = stays-or-hides policy c t links;
}

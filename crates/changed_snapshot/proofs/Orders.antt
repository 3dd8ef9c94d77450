-- The rows under changes stand in order, and so do the manifests that are still named.
use Rattle.std.proofs.Common.{◌≡◌, ◌∙◌, ℕ, Bool, true, false, cond, ◌&&◌, T, List, [], ◌∷◌, map, length, Option, Some, None, refl, sym, ap, subst}
use Rattle.std.specs.declared.cmp.Ordering.{Ordering}
use Rattle.std.specs.declared.cmp.Ordering.TheVariants.{Less, Equal, Greater}
use Rattle.std.specs.Ordering.{is_lt, nat_cmp}
use Rattle.std.specs.Cmp.Lexicographic.{slice_cmp, nat_list_cmp_total}
use Rattle.std.specs.List.{list_all, filter}
use Rattle.std.specs.FinMap.{is_sorted, entries, entries_sorted, len, len-entries}
use Rattle.std.proofs.lemmas.List.{length-map}
use Rattle.flat_tables.specs.Rows.{follows, Ascends}
use Rattle.zarr_path.specs.Paths.{path_cmp}
use Rattle.zarr_tree.specs.Nodes.{Node}
use Rattle.zarr_tree.specs.Held.{Held, nodes_over}
use Rattle.zarr_tree.proofs.Maps.{Path}
use Rattle.snapshot_file.specs.declared.nodes.NodeRow.{NodeRow}
use Rattle.snapshot_file.specs.Snapshots.{node_key}
use Rattle.repo_objects.specs.Trees.{nodes_in}
use Rattle.changed_snapshot.specs.declared.new_snapshot.NewList.{NewList}
use Rattle.changed_snapshot.specs.Rows.{rows_over}
use Rattle.changed_snapshot.proofs.Found.{Entries, made, made-path, head_below, tail_sorted}

-- ---- a filter

less : (o : Ordering) → is_lt o ≡ true → o ≡ Less
less Less h = refl
less Equal h = cc
less Greater h = cc

follows_on : (before : Option (List ℕ)) (k y : List ℕ) → follows before k ≡ true → follows (Some k) y ≡ true → follows before y ≡ true
follows_on None k y f g = refl
follows_on (Some x) k y f g = ap is_lt (nat_list_cmp_total.trans x k y (less (slice_cmp nat_cmp x k) f) (less (slice_cmp nat_cmp k y) g))

module _ {A : Type 0} (key : A → List ℕ) where
  ascends_on : (before : Option (List ℕ)) (k : List ℕ) (xs : List A) → follows before k ≡ true → Ascends key (Some k) xs → Ascends key before xs
  ascends_on before k [] f a = tt
  ascends_on before k (x ∷ xs) f a = (follows_on before k (key x) f a.0, a.1)

  -- what is left of rows in order is in order
  pub filter_ascends : (test : A → Bool) (before : Option (List ℕ)) (xs : List A) → Ascends key before xs → Ascends key before (filter test xs)
  filter_ascends test before [] a = tt
  filter_ascends test before (x ∷ xs) a = elim (test x) as (λ b. Ascends key before (cond b (x ∷ filter test xs) (filter test xs))) [
    | true ↦ (a.0, filter_ascends test (Some (key x)) xs a.1)
    | false ↦ ascends_on before (key x) (filter test xs) a.0 (filter_ascends test (Some (key x)) xs a.1)
  ]

-- ---- the rows under what is held

true_of : (b : Bool) → T b → b ≡ true
true_of true h = refl
true_of false h = absurd h

abbrev all_follow : Option Path → Entries → Bool
all_follow before es = list_all (λ (e : Path × Node). follows before e.0) es

first_follows : (b : Bool) (rest : Bool) → T (b && rest) → b ≡ true
first_follows true rest h = refl
first_follows false rest h = absurd h

made_ascend : (news : List NewList) (rows : List NodeRow) (before : Option Path) (es : Entries) → T (all_follow before es) → T (is_sorted path_cmp es) → Ascends node_key before (map (made news rows) es)
made_ascend news rows before [] follow sorted = tt
made_ascend news rows before (e ∷ es) follow sorted =
    let rest : Ascends node_key (Some e.0) (map (made news rows) es) = made_ascend news rows (Some e.0) es (head_below e es sorted) (tail_sorted e es sorted) in
    (ap (follows before) (made-path news rows e) ∙ first_follows (follows before e.0) (all_follow before es) follow, subst (λ q. Ascends node_key (Some q) (map (made news rows) es)) (sym (made-path news rows e)) rest)

all_first : (es : Entries) → T (all_follow None es)
all_first [] = tt
all_first (e ∷ es) = all_first es

module _ {P : Type 0} where
  pub rows_ascend : (h : Held P) (news : List NewList) (rows : List NodeRow) → Ascends node_key None (rows_over h news rows)
  unfolding rows_over
  rows_ascend h news rows = let es = entries (nodes_over h (nodes_in rows)) in made_ascend news rows None es (all_first es) (entries_sorted (nodes_over h (nodes_in rows)))

  -- there are as many as nodes
  pub rows_many : (h : Held P) (news : List NewList) (rows : List NodeRow) → length (rows_over h news rows) ≡ len (nodes_over h (nodes_in rows))
  unfolding rows_over
  rows_many h news rows = length-map (entries (nodes_over h (nodes_in rows))) (made news rows) ∙ sym (len-entries (nodes_over h (nodes_in rows)))

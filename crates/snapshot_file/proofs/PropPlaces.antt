-- Where a property stands among those in order, and that one more keeps their rule.
use Rattle.std.proofs.Common.{◌≡◌, ℕ, zero, suc, ◌+◌, ◌≤◌, ◌<◌, Bool, true, false, List, [], ◌∷◌, length, get_or, Option, Some, None, Result, Ok, Err, refl, ap, ◌∙◌, subst, arith, Ordering}
use Rattle.std.specs.Prelude.{IfSome, insert, is_none}
use Rattle.std.specs.BTreeMap.{insert_entry}
use Rattle.std.specs.Result.{result_err}
use Rattle.std.specs.List.{AllByRecursion}
use Rattle.std.specs.List.Sorted.{IsBinarySearchResult, IsSearchInRange}
use Rattle.std.specs.Ordering.{match_ordering, is_lt, ordering_reverse}
use Rattle.std.specs.declared.cmp.Ordering.TheVariants.{Less, Equal, Greater}
use Rattle.std.proofs.lemmas.Cmp.{nat_list_cmp_total}
use Rattle.flat_tables.specs.Rows.{follows, Ascends}
use Rattle.snapshot_file.specs.Props.{is_prop_name, is_prop_value, is_prop, prop_limit, prop_key, name_cmp, IsProperty, AreProps, has_name}
use Rattle.snapshot_file.proofs.Listed.{searched, rises_by, equal_is}

abbrev Pair : Type 0
Pair = List ℕ × List ℕ

turned : (a b : List ℕ) (o : Ordering) → name_cmp a b ≡ o → name_cmp b a ≡ ordering_reverse o
turned a b o is = nat_list_cmp_total.antisymm b a ∙ ap ordering_reverse is

-- ---- a place

-- those before it are less, and it and those behind are greater
record Splits (props : List Pair) (name : List ℕ) (at : ℕ) : Type 0 where
  before : (k : ℕ) (d : Pair) → k < at → name_cmp (get_or props k d).0 name ≡ Less
  behind : (k : ℕ) (d : Pair) → at ≤ k → k < length props → name_cmp (get_or props k d).0 name ≡ Greater

inserted : (props : List Pair) (name value : List ℕ) (at : ℕ) → at ≤ length props → Splits props name at → insert props at (name, value) ≡ insert_entry name_cmp props name value
inserted [] name value at le splits = let none : at ≡ 0 = omega arith in rw none refl
inserted (prop ∷ props) name value zero le splits =
    let less : name_cmp name prop.0 ≡ Less = turned prop.0 name Greater (splits.behind 0 prop (omega arith) (omega arith)) in
    rw less refl
inserted (prop ∷ props) name value (suc at) le splits =
    let greater : name_cmp name prop.0 ≡ Greater = turned prop.0 name Less (splits.before 0 prop (omega arith)) in
    rw greater (ap (λ (ps : List Pair). prop ∷ ps) (inserted props name value at (omega arith) (record {
      before = λ k d lt. splits.before (suc k) d (omega arith);
      behind = λ k d le lt. splits.behind (suc k) d (omega arith) (omega arith);
    })))

-- what a search for a name by halves answers where it has not found it
pub record IsPlace (props : List Pair) (name : List ℕ) (o : Option ℕ) : Type 0 where
  pub there : is_none o ≡ has_name props name
  pub within : IfSome o (λ at. at ≤ length props)
  pub order : IfSome o (λ at. (value : List ℕ) → insert props at (name, value) ≡ insert_entry name_cmp props name value)

pub placed : (props : List Pair) (name : List ℕ) (r : Result ℕ ℕ) → Ascends prop_key None props → IsSearchInRange r (length props) → IsBinarySearchResult (λ prop. name_cmp prop.0 name) props r → IsPlace props name (result_err r)
placed props name (Ok at) ascends bound found = record { there = searched prop_key props name (Ok at) ascends bound found; within = tt; order = tt }
placed props name (Err at) ascends bound found =
    let split = found (rises_by prop_key props name ascends) in
    record {
      there = not_there (searched prop_key props name (Err at) ascends bound found);
      within = bound;
      order = λ value. inserted props name value at bound (record { before = λ k d lt. split.0 k d (omega arith) lt; behind = λ k d le lt. split.1 k d le lt });
    }
  where
    not_there : false ≡ has_name props name → false ≡ has_name props name
    not_there e = e

-- ---- one more

longer : (prop : Pair) (props more : List Pair) (name value : List ℕ) (o : Ordering) → length more ≤ length props + 1 → length (match_ordering o ((name, value) ∷ prop ∷ props) ((prop.0, value) ∷ props) (prop ∷ more)) ≤ length props + 2
longer prop props more name value Less le = omega arith
longer prop props more name value Equal le = omega arith
longer prop props more name value Greater le = omega arith

length_more : (props : List Pair) (name value : List ℕ) → length (insert_entry name_cmp props name value) ≤ length props + 1
length_more [] name value = omega arith
length_more (prop ∷ props) name value = omega (arith, longer prop props (insert_entry name_cmp props name value) name value (name_cmp name prop.0) (length_more props name value))

ascends_by : (before : Option (List ℕ)) (prop : Pair) (props more : List Pair) (name value : List ℕ) (o : Ordering) → name_cmp name prop.0 ≡ o → Ascends prop_key before (prop ∷ props) → follows before name ≡ true
    → (follows (Some prop.0) name ≡ true → Ascends prop_key (Some prop.0) more) → Ascends prop_key before (match_ordering o ((name, value) ∷ prop ∷ props) ((prop.0, value) ∷ props) (prop ∷ more))
ascends_by before prop props more name value Less is ascends after rest = (after, (ap is_lt is, ascends.1))
ascends_by before prop props more name value Equal is ascends after rest = ascends
ascends_by before prop props more name value Greater is ascends after rest = (ascends.0, rest (ap is_lt (turned name prop.0 Greater is)))

ascends_more : (before : Option (List ℕ)) (props : List Pair) (name value : List ℕ) → Ascends prop_key before props → follows before name ≡ true → Ascends prop_key before (insert_entry name_cmp props name value)
ascends_more before [] name value ascends after = (after, tt)
ascends_more before (prop ∷ props) name value ascends after =
    ascends_by before prop props (insert_entry name_cmp props name value) name value (name_cmp name prop.0) refl ascends after (ascends_more (Some prop.0) props name value ascends.1)

all_by : (prop : Pair) (props more : List Pair) (name value : List ℕ) (o : Ordering) → name_cmp name prop.0 ≡ o → AllByRecursion IsProperty (prop ∷ props) → IsProperty (name, value) → AllByRecursion IsProperty more
    → AllByRecursion IsProperty (match_ordering o ((name, value) ∷ prop ∷ props) ((prop.0, value) ∷ props) (prop ∷ more))
all_by prop props more name value Less same all is rest = (is, all)
all_by prop props more name value Equal same all is rest = (subst (λ (n : List ℕ). IsProperty (n, value)) (equal_is name prop.0 same) is, all.1)
all_by prop props more name value Greater same all is rest = (all.0, rest)

all_more : (props : List Pair) (name value : List ℕ) → AllByRecursion IsProperty props → IsProperty (name, value) → AllByRecursion IsProperty (insert_entry name_cmp props name value)
all_more [] name value all is = (is, tt)
all_more (prop ∷ props) name value all is = all_by prop props (insert_entry name_cmp props name value) name value (name_cmp name prop.0) refl all is (all_more props name value all.1 is)

-- what was asked of both texts
pub proper : (name value : List ℕ) (a b : Bool) → a ≡ is_prop_name name → b ≡ is_prop_value value → a ≡ true → b ≡ true → is_prop (name, value) ≡ true
proper name value a b e f g h = rw (← e, ← f, g, h) refl

-- a property more keeps the rule, where there is room for it
pub kept : (props : List Pair) (name value : List ℕ) → AreProps props → (length props ≡ prop_limit → ⊥) → IsProperty (name, value) → AreProps (insert_entry name_cmp props name value)
kept props name value are room is = record {
  few = omega (arith, length_more props name value, are.few, room);
  ascend = ascends_more None props name value are.ascend refl;
  each = all_more props name value are.each is;
}

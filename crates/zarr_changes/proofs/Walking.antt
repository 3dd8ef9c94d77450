-- The walk up the texts before a path's slashes.
use Rattle.std.proofs.Common.{◌≡◌, ◌≢◌, ℕ, Bool, true, false, cond, ◌&&◌, ◌||◌, List, [], ◌∷◌, ◌++◌, append_assoc, drop, length, Option, Some, None, refl, sym, ap, ◌∙◌, ◌⊎◌, inl, inr, arith}
use Rattle.std.specs.Prelude.{nat_eq, ◌==◌}
use Rattle.std.specs.List.{starts_with}
use Rattle.std.specs.Cmp.{both_ways}
use Rattle.std.proofs.lemmas.Slice.Eq.{starts_is}
use Rattle.std.specs.FinMap.{FinMap, get}
use Rattle.ice_ids.specs.declared.Id8.{Id8}
use Rattle.zarr_path.specs.Paths.{path_cmp, root, folder, is_within, before_slash, before_slash_after}
use Rattle.zarr_path.proofs.PathLaws.{Under, within_cases, within-refl, within_under, folder_cases, by_numbers}
use Rattle.zarr_tree.specs.Nodes.{Node}
use Rattle.zarr_tree.specs.Trees.{Tree}
use Rattle.zarr_tree.specs.Changes.{is_dropped, is_gone}
use Rattle.zarr_tree.specs.Touched.{lists}
use Rattle.zarr_tree.proofs.Apply.{Gone, gone-intro, gone-elim, gone-false, both, first, second}

-- whether one of the texts before a path's slashes passes
abbrev pub some_before : (List ℕ → Bool) → List ℕ → Bool
some_before f [] = false
some_before f (b ∷ bs) = (b == 47 && f []) || some_before (λ q. f (b ∷ q)) bs

-- whether a text, if there is one, or one of those before its slashes passes
abbrev pub some_up : (List ℕ → Bool) → Option (List ℕ) → Bool
some_up f None = false
some_up f (Some text) = f text || some_before f text

later : (a c d : Bool) → (a || (c || d)) ≡ (c || (a || d))
later true true d = refl
later true false d = refl
later false c d = refl

-- they are the last of these texts and those before its slashes
pub some-before : (f : List ℕ → Bool) (p : List ℕ) → some_before f p ≡ some_up f (before_slash p)
some-before f [] = refl
some-before f (b ∷ bs) = ap (λ x. (b == 47 && f []) || x) (some-before (λ q. f (b ∷ q)) bs) ∙ turn (before_slash bs)
  where
    bare : (slash : Bool) → ((slash && f []) || false) ≡ some_up f (cond slash (Some []) None)
    bare true = refl
    bare false = refl

    turn : (o : Option (List ℕ)) → ((b == 47 && f []) || some_up (λ q. f (b ∷ q)) o) ≡ some_up f (before_slash_after b o)
    turn None = bare (b == 47)
    turn (Some s) = later (b == 47 && f []) (f (b ∷ s)) (some_before (λ q. f (b ∷ q)) s)

or-true : (a b : Bool) → b ≡ true → (a || b) ≡ true
or-true true b h = refl
or-true false b h = h

some-intro : (f : List ℕ → Bool) (q rest : List ℕ) → f q ≡ true → some_before f (q ++ 47 ∷ rest) ≡ true
some-intro f [] rest h = ap (λ b. b || some_before (λ q. f (47 ∷ q)) rest) h
some-intro f (b ∷ bs) rest h = or-true (b == 47 && f []) _ (some-intro (λ q. f (b ∷ q)) bs rest h)

record Before (f : List ℕ → Bool) (p : List ℕ) : Type 0 where
  text : List ℕ
  rest : List ℕ
  whole : p ≡ text ++ 47 ∷ rest
  passes : f text ≡ true

some-elim : (f : List ℕ → Bool) (p : List ℕ) → some_before f p ≡ true → Before f p
some-elim f [] h = cc
some-elim f (b ∷ bs) h = by_case (b == 47) refl (f []) refl h (some-elim (λ q. f (b ∷ q)) bs)
  where
    by_case : (slash : Bool) → b == 47 ≡ slash → (here : Bool) → f [] ≡ here → ((slash && here) || some_before (λ q. f (b ∷ q)) bs) ≡ true
        → (some_before (λ q. f (b ∷ q)) bs ≡ true → Before (λ q. f (b ∷ q)) bs) → Before f (b ∷ bs)
    by_case true e true g h rest = record { text = []; rest = bs; whole = ap (λ (x : ℕ). x ∷ bs) ((by_numbers b 47).0 e); passes = g }
    by_case true e false g h rest = let r = rest h in record { text = b ∷ r.text; rest = r.rest; whole = ap (λ (x : List ℕ). b ∷ x) r.whole; passes = r.passes }
    by_case false e here g h rest = let r = rest h in record { text = b ∷ r.text; rest = r.rest; whole = ap (λ (x : List ℕ). b ∷ x) r.whole; passes = r.passes }

module _ (d : Id8 → Bool) (nodes : FinMap path_cmp Node) where
  abbrev pub dropped_at : List ℕ → Bool
  dropped_at q = is_dropped d (get nodes q)

  abbrev tree : Tree
  tree = record { nodes = nodes; chunk = λ p i. None }

  -- what is met on the way up from a path
  abbrev pub met_up : Option (List ℕ) → List ℕ → Bool
  met_up next p = some_up dropped_at next || (starts_with nat_eq p root && dropped_at root)

  found_node : (o : Option Node) → is_dropped d o ≡ true → (n : Node) × (o ≡ Some n) × (d n.id ≡ true)
  found_node None h = cc
  found_node (Some n) h = (n, refl, h)

  gone_by : (p q : List ℕ) → is_within q p ≡ true → dropped_at q ≡ true → is_gone d nodes p ≡ true
  gone_by p q w h = let n = found_node (get nodes q) h in gone-intro d tree p (record { path = q; node = n.0; found = n.1; dropped_id = n.2; within = w })

  begins : (p : List ℕ) → starts_with nat_eq p root ≡ true → is_within root p ≡ true
  begins p h = within_under root p (record { rest = drop 1 p; same = (starts_is by_numbers p root _ refl).0 h })

  within_before : (q rest : List ℕ) → is_within q (q ++ 47 ∷ rest) ≡ true
  within_before q rest = by_case (folder_cases q)
    where
      by_case : ((q ≡ root) × (folder q ≡ root)) ⊎ ((q ≢ root) × (folder q ≡ q ++ 47 ∷ [])) → is_within q (q ++ 47 ∷ rest) ≡ true
      by_case (inl e) = within_under q (q ++ 47 ∷ rest) (record { rest = 47 ∷ rest; same = ap (λ x. x ++ 47 ∷ rest) (e.0 ∙ sym e.1) })
      by_case (inr e) = within_under q (q ++ 47 ∷ rest) (record { rest = rest; same = sym (ap (λ x. x ++ rest) e.1 ∙ append_assoc q (47 ∷ []) rest) })

  to_met : (p : List ℕ) → Gone d tree p → met_up (Some p) p ≡ true
  to_met p g = by_case (within_cases g.path p g.within)
    where
      here : dropped_at g.path ≡ true
      here = ap (is_dropped d) g.found ∙ g.dropped_id

      under : ((g.path ≡ root) × (folder g.path ≡ root)) ⊎ ((g.path ≢ root) × (folder g.path ≡ g.path ++ 47 ∷ [])) → Under g.path p → met_up (Some p) p ≡ true
      under (inl e) u =
          or-true (some_up dropped_at (Some p)) _ (both (starts_with nat_eq p root) (dropped_at root) ((starts_is by_numbers p root _ refl).1 u.rest (u.same ∙ ap (λ x. x ++ u.rest) e.1)) (ap dropped_at (sym e.0) ∙ here))
      under (inr e) u =
          ap (λ b. b || (starts_with nat_eq p root && dropped_at root))
          (or-true (dropped_at p) _ (ap (some_before dropped_at) (u.same ∙ ap (λ x. x ++ u.rest) e.1 ∙ append_assoc g.path (47 ∷ []) u.rest) ∙ some-intro dropped_at g.path u.rest here))

      by_case : (p ≡ g.path) ⊎ Under g.path p → met_up (Some p) p ≡ true
      by_case (inl e) = ap (λ b. (b || some_before dropped_at p) || (starts_with nat_eq p root && dropped_at root)) (ap dropped_at e ∙ here)
      by_case (inr u) = under (folder_cases g.path) u

  from_met : (p : List ℕ) → met_up (Some p) p ≡ true → is_gone d nodes p ≡ true
  from_met p h = by_case (dropped_at p) refl (some_before dropped_at p) refl h
    where
      by_case : (a : Bool) → dropped_at p ≡ a → (b : Bool) → some_before dropped_at p ≡ b → ((a || b) || (starts_with nat_eq p root && dropped_at root)) ≡ true → is_gone d nodes p ≡ true
      by_case true e b f h = gone_by p p (within-refl p) e
      by_case false e true f h = let r = some-elim dropped_at p f in gone_by p r.text (ap (is_within r.text) r.whole ∙ within_before r.text r.rest) r.passes
      by_case false e false f h = gone_by p root (begins p (first _ _ h)) (second _ _ h)

  -- a node is gone exactly where a dropped one is met
  pub gone_met : (p : List ℕ) → is_gone d nodes p ≡ met_up (Some p) p
  gone_met p = both_ways _ _ (λ h. to_met p (gone-elim d tree p h)) (from_met p)

  -- one step up
  pub met_next : (next : Option (List ℕ)) (text p : List ℕ) (b : Bool) → is_gone d nodes p ≡ met_up (Some text) p → b ≡ dropped_at text → b ≡ false → before_slash text ≡ next → is_gone d nodes p ≡ met_up next p
  met_next next text p b h e f g =
      h ∙ ap (λ x. (x || some_before dropped_at text) || (starts_with nat_eq p root && dropped_at root)) (sym e ∙ f)
      ∙ ap (λ x. x || (starts_with nat_eq p root && dropped_at root)) (some-before dropped_at text ∙ ap (some_up dropped_at) g)

  pub met_here : (text p : List ℕ) (b : Bool) → is_gone d nodes p ≡ met_up (Some text) p → b ≡ dropped_at text → b ≡ true → true ≡ is_gone d nodes p
  met_here text p b h e f = sym (h ∙ ap (λ x. (x || some_before dropped_at text) || (starts_with nat_eq p root && dropped_at root)) (sym e ∙ f))

-- where nothing is dropped, nothing is gone
pub nothing_gone : (ids : List Id8) (nodes : FinMap path_cmp Node) (p : List ℕ) → length ids ≡ 0 → false ≡ is_gone (lists ids) nodes p
nothing_gone [] nodes p h = sym (gone-false (lists []) (record { nodes = nodes; chunk = λ p i. None }) p (λ g. let k = g.dropped_id in cc))
nothing_gone (x ∷ xs) nodes p h = absurd (omega arith)

-- The laws of paths on which all else stands.
use Rattle.std.proofs.Common.{◌≡◌, ◌≢◌, ℕ, ◌<◌, ◌≤◌, Bool, true, false, cond, not, ◌||◌, eqb, List, [], ◌∷◌, ◌++◌, length, drop, Option, Some, None, refl, sym, ap, subst, ◌∙◌, arith, ◌⊎◌, inl, inr, append_assoc, length-append}
use Rattle.std.specs.Bool.{Decides}
use Rattle.std.specs.Prelude.{nat_eq}
use Rattle.std.specs.List.{starts_with, list_all}
use Rattle.std.proofs.lemmas.Slice.Eq.{starts_is}
use Rattle.std.proofs.lemmas.Bool.{eqb-true, eq-eqb, and_parts, and_from, not-true, false≢true}
use Rattle.zarr_path.specs.Paths.{is_name, parts_of, names_of, is_path, same_path, root, folder, is_within, is_beneath, before_slash, before_slash_after, or_root, parent_of}
use Rattle.zarr_path.proofs.OrderLaws.{same_path-true, same_path-refl, same_path-false}
use Rattle.zarr_path.proofs.PartLaws.{parts-append}
use Rattle.zarr_path.proofs.SpellLaws.{Spelling, path_parts, path_made, root-path, names_of-root, names_of-cons, list_all-append}
use Rattle.zarr_path.specs.Laws.{IsBeneath, BeneathLaw, ParentLaw}

pub by_numbers : (a b : ℕ) → Decides (eqb a b) (a ≡ b)
by_numbers a b = (eqb-true a b, eq-eqb a b)

-- a path that begins with p's folder
pub record Under (p q : List ℕ) : Type 0 where
  pub rest : List ℕ
  pub same : q ≡ folder p ++ rest

pub within_cases : (p q : List ℕ) → is_within p q ≡ true → (q ≡ p) ⊎ Under p q
unfolding is_within
within_cases p q h = by_case (same_path q p) refl (starts_with nat_eq q (folder p)) refl h
  where
    by_case : (a : Bool) → same_path q p ≡ a → (b : Bool) → starts_with nat_eq q (folder p) ≡ b → (a || b) ≡ true → (q ≡ p) ⊎ Under p q
    by_case true e b f h = inl (same_path-true q p e)
    by_case false e true f h = inr (record { rest = drop (length (folder p)) q; same = (starts_is by_numbers q (folder p) _ refl).0 f })
    by_case false e false f h = cc

or-true : (a b : Bool) → b ≡ true → (a || b) ≡ true
or-true true b h = refl
or-true false b h = h

pub within-refl : (p : List ℕ) → is_within p p ≡ true
unfolding is_within
within-refl p = rw same_path-refl

pub within_under : (p q : List ℕ) → Under p q → is_within p q ≡ true
unfolding is_within
within_under p q u = or-true (same_path q p) _ ((starts_is by_numbers q (folder p) _ refl).1 u.rest u.same)

-- a folder is its path and a slash, or `/`
pub folder_cases : (p : List ℕ) → ((p ≡ root) × (folder p ≡ root)) ⊎ ((p ≢ root) × (folder p ≡ p ++ 47 ∷ []))
folder_cases p = by_case (same_path p root) refl
  where
    by_case : (b : Bool) → same_path p root ≡ b → ((p ≡ root) × (folder p ≡ root)) ⊎ ((p ≢ root) × (folder p ≡ p ++ 47 ∷ []))
    by_case true e = inl (same_path-true p root e, ap (λ b. cond b root (p ++ 47 ∷ [])) e)
    by_case false e = inr ((λ is. let t : same_path p root ≡ true = subst (λ x. same_path p x ≡ true) is (same_path-refl p) in cc), ap (λ b. cond b root (p ++ 47 ∷ [])) e)

-- a folder begins with its path
folder_rest : (p : List ℕ) → (z : List ℕ) × (folder p ≡ p ++ z)
folder_rest p = by_case (folder_cases p)
  where
    by_case : ((p ≡ root) × (folder p ≡ root)) ⊎ ((p ≢ root) × (folder p ≡ p ++ 47 ∷ [])) → (z : List ℕ) × (folder p ≡ p ++ z)
    by_case (inl e) = ([], e.1 ∙ ap (λ x. x ++ []) (sym e.0))
    by_case (inr e) = (47 ∷ [], e.1)

pub within-trans : (p q r : List ℕ) → is_within p q ≡ true → is_within q r ≡ true → is_within p r ≡ true
within-trans p q r h g = by_case (within_cases p q h) (within_cases q r g)
  where
    by_case : (q ≡ p) ⊎ Under p q → (r ≡ q) ⊎ Under q r → is_within p r ≡ true
    by_case (inl e) _ = ap (λ x. is_within x r) (sym e) ∙ g
    by_case (inr u) (inl e) = ap (is_within p) e ∙ h
    by_case (inr u) (inr w) =
        let z = folder_rest q in
        within_under p r (record {
          rest = (u.rest ++ z.0) ++ w.rest;
          same = w.same ∙ ap (λ x. x ++ w.rest) (z.1 ∙ ap (λ x. x ++ z.0) u.same ∙ append_assoc (folder p) u.rest z.0) ∙ append_assoc (folder p) (u.rest ++ z.0) w.rest;
        })

-- ---- parents
unfoldable pub tail : Option (List ℕ) → List ℕ
tail None = []
tail (Some s) = 47 ∷ s

before_slash-head : (r : List ℕ) → before_slash (47 ∷ r) ≡ Some (tail (before_slash r))
unfolding tail
before_slash-head r = by_case (before_slash r) refl
  where
    by_case : (o : Option (List ℕ)) → before_slash r ≡ o → before_slash (47 ∷ r) ≡ Some (tail o)
    by_case None e = rw e refl
    by_case (Some s) e = rw e refl

pub before_slash-append : (g r : List ℕ) → before_slash (g ++ 47 ∷ r) ≡ Some (g ++ tail (before_slash r))
before_slash-append [] r = before_slash-head r
before_slash-append (b ∷ bs) r = rw (before_slash-append bs r) refl

some_before : (b : ℕ) (bs s : List ℕ) (o : Option (List ℕ)) → ((x : List ℕ) → o ≡ Some x → (r : List ℕ) × (bs ≡ x ++ 47 ∷ r)) → before_slash_after b o ≡ Some s → (r : List ℕ) × (b ∷ bs ≡ s ++ 47 ∷ r)
some_before b bs s None k h = by_test (eqb b 47) refl h
  where
    by_test : (t : Bool) → eqb b 47 ≡ t → cond t (Some []) None ≡ Some s → (r : List ℕ) × (b ∷ bs ≡ s ++ 47 ∷ r)
    by_test true e h = let empty : [] ≡ s = cc (h) in (bs, (λ i. eqb-true b 47 e i ∷ bs) ∙ ap (λ x. x ++ 47 ∷ bs) empty)
    by_test false e h = cc
some_before b bs s (Some x) k h =
    let whole : b ∷ x ≡ s = cc (h) in
    let rest = k x refl in
    (rest.0, ap (λ y. b ∷ y) rest.1 ∙ ap (λ y. y ++ 47 ∷ rest.0) whole)

pub before_slash-some : (p s : List ℕ) → before_slash p ≡ Some s → (r : List ℕ) × (p ≡ s ++ 47 ∷ r)
before_slash-some [] s h = cc
before_slash-some (b ∷ bs) s h = some_before b bs s (before_slash bs) (before_slash-some bs) h

under_of : (p q r : List ℕ) → q ≡ p ++ 47 ∷ r → Under p q ⊎ (p ≡ root)
under_of p q r e = by_case (folder_cases p)
  where
    by_case : ((p ≡ root) × (folder p ≡ root)) ⊎ ((p ≢ root) × (folder p ≡ p ++ 47 ∷ [])) → Under p q ⊎ (p ≡ root)
    by_case (inl f) = inr f.0
    by_case (inr f) = inl (record { rest = r; same = e ∙ sym (append_assoc p (47 ∷ []) r) ∙ ap (λ x. x ++ r) (sym f.1) })

-- all that begins with a slash is in `/`
in_root : (q r : List ℕ) → q ≡ 47 ∷ r → is_within root q ≡ true
in_root q r e = within_under root q (record { rest = r; same = e })

-- a path with p and a slash in front, within p
within_of : (p q r : List ℕ) → q ≡ p ++ 47 ∷ r → is_within p q ≡ true
within_of p q r e = by_case (under_of p q r e)
  where
    by_case : Under p q ⊎ (p ≡ root) → is_within p q ≡ true
    by_case (inl u) = within_under p q u
    by_case (inr f) = ap (λ x. is_within x q) f ∙ in_root q (47 ∷ r) (e ∙ ap (λ x. x ++ 47 ∷ r) f)

-- the parent of a path below `/`
pub parent_of-head : (r : List ℕ) → parent_of (47 ∷ r) ≡ 47 ∷ drop 1 (tail (before_slash r))
unfolding parent_of tail
parent_of-head r = ap or_root (before_slash-head r) ∙ by_case (before_slash r)
  where
    by_case : (o : Option (List ℕ)) → or_root (Some (tail o)) ≡ 47 ∷ drop 1 (tail o)
    by_case None = refl
    by_case (Some s) = refl

below_root : (p r : List ℕ) → p ≡ 47 ∷ r → is_within (parent_of p) p ≡ true
unfolding tail
below_root p r e = by_case (before_slash r) refl
  where
    by_case : (o : Option (List ℕ)) → before_slash r ≡ o → is_within (parent_of p) p ≡ true
    by_case None f = ap (λ x. is_within x p) (ap parent_of e ∙ parent_of-head r ∙ ap (λ o. 47 ∷ drop 1 (tail o)) f) ∙ in_root p r e
    by_case (Some s) f =
        let rest = before_slash-some r s f in
        ap (λ x. is_within x p) (ap parent_of e ∙ parent_of-head r ∙ ap (λ o. 47 ∷ drop 1 (tail o)) f)
        ∙ within_of (47 ∷ s) p rest.0 (e ∙ ap (λ x. 47 ∷ x) rest.1)

pub parent-within : (p : List ℕ) → is_path p ≡ true → is_within (parent_of p) p ≡ true
parent-within p h = let spelled = path_parts p h in below_root p spelled.rest spelled.slash

-- the names before a slash are names
names_before : (rest s r : List ℕ) → rest ≡ s ++ 47 ∷ r → list_all is_name (names_of (47 ∷ rest)) ≡ true → list_all is_name (names_of (47 ∷ s)) ≡ true
names_before rest [] r e h = ap (list_all is_name) names_of-root
names_before [] (b ∷ bs) r e h = cc
names_before (x ∷ xs) (b ∷ bs) r e h =
    let parts : parts_of (x ∷ xs) ≡ parts_of (b ∷ bs) ++ parts_of r = ap parts_of e ∙ parts-append (b ∷ bs) r in
    ap (list_all is_name) (names_of-cons b bs)
    ∙ (list_all-append (parts_of (b ∷ bs)) (parts_of r) (ap (list_all is_name) (sym parts ∙ sym (names_of-cons x xs)) ∙ h)).0

pub parent-path : (p : List ℕ) → is_path p ≡ true → is_path (parent_of p) ≡ true
unfolding tail
parent-path p h = let spelled = path_parts p h in
    by_case spelled (before_slash spelled.rest) refl (ap parent_of spelled.slash ∙ parent_of-head spelled.rest)
  where
    by_case : (spelled : Spelling p) (o : Option (List ℕ)) → before_slash spelled.rest ≡ o
        → parent_of p ≡ 47 ∷ drop 1 (tail (before_slash spelled.rest)) → is_path (parent_of p) ≡ true
    by_case spelled None f up = ap is_path (up ∙ ap (λ o. 47 ∷ drop 1 (tail o)) f) ∙ root-path
    by_case spelled (Some s) f up =
        let cut = before_slash-some spelled.rest s f in
        ap is_path (up ∙ ap (λ o. 47 ∷ drop 1 (tail o)) f) ∙ path_made (47 ∷ s) (record {
          short = omega (arith, spelled.short, ap length spelled.slash, ap length cut.1, length-append s (47 ∷ cut.0));
          rest = s;
          slash = refl;
          named = names_before spelled.rest s cut.0 cut.1 (ap (λ x. list_all is_name (names_of x)) (sym spelled.slash) ∙ spelled.named);
        })

-- what is behind the slash of a parent is shorter than what was there
tail_shorter : (r : List ℕ) (o : Option (List ℕ)) → before_slash r ≡ o → length (tail o) ≤ length r
unfolding tail
tail_shorter r None e = omega arith
tail_shorter r (Some s) e = let rest = before_slash-some r s e in omega (arith, ap length rest.1, length-append s (47 ∷ rest.0))

in_root_case : (q r : List ℕ) → q ≡ 47 ∷ r → q ≢ root → IsBeneath root q
unfolding tail
in_root_case q [] e ne = absurd (ne e)
in_root_case q (x ∷ xs) e ne =
    let up : parent_of q ≡ 47 ∷ drop 1 (tail (before_slash (x ∷ xs))) = ap parent_of e ∙ parent_of-head (x ∷ xs) in
    record { not_root = ne; parent = in_root (parent_of q) _ up; shorter = less (before_slash (x ∷ xs)) refl up }
  where
    less : (o : Option (List ℕ)) → before_slash (x ∷ xs) ≡ o → parent_of q ≡ 47 ∷ drop 1 (tail o) → length (parent_of q) < length q
    less None f up = omega (arith, ap length up, ap length e)
    less (Some s) f up = omega (arith, ap length up, ap length e, tail_shorter (x ∷ xs) (Some s) f)

parent_of-append : (b : ℕ) (bs r : List ℕ) → parent_of ((b ∷ bs) ++ 47 ∷ r) ≡ (b ∷ bs) ++ tail (before_slash r)
unfolding parent_of
parent_of-append b bs r = ap or_root (before_slash-append (b ∷ bs) r)

append_none : (p : List ℕ) → p ++ [] ≡ p
append_none [] = refl
append_none (x ∷ xs) = ap (λ y. x ∷ y) (append_none xs)

in_path_case : (b : ℕ) (bs q r : List ℕ) → b ∷ bs ≢ root → q ≡ (b ∷ bs) ++ 47 ∷ r → folder (b ∷ bs) ≡ (b ∷ bs) ++ 47 ∷ [] → IsBeneath (b ∷ bs) q
unfolding tail
in_path_case b bs q r ne e f =
    let up : parent_of q ≡ (b ∷ bs) ++ tail (before_slash r) = ap parent_of e ∙ parent_of-append b bs r in
    record { not_root = λ is. longer is; parent = inside (before_slash r) up; shorter = less (tail_shorter r (before_slash r) refl) up }
  where
    longer : q ≡ root → ⊥
    longer is = let h : length q ≡ 1 = ap length is in omega (arith, h, ap length e, length-append bs (47 ∷ r))

    inside : (o : Option (List ℕ)) → parent_of q ≡ (b ∷ bs) ++ tail o → is_within (b ∷ bs) (parent_of q) ≡ true
    inside None up = ap (is_within (b ∷ bs)) (up ∙ append_none (b ∷ bs)) ∙ within-refl (b ∷ bs)
    inside (Some s) up = within_under (b ∷ bs) (parent_of q) (record { rest = s; same = up ∙ sym (append_assoc (b ∷ bs) (47 ∷ []) s) ∙ ap (λ x. x ++ s) (sym f) })

    less : length (tail (before_slash r)) ≤ length r → parent_of q ≡ (b ∷ bs) ++ tail (before_slash r) → length (parent_of q) < length q
    less h up = omega (arith, ap length up, ap length e, length-append (b ∷ bs) (tail (before_slash r)), length-append (b ∷ bs) (47 ∷ r), h)

beneath_rooted : (p q rest : List ℕ) → p ≡ 47 ∷ rest → is_within p q ≡ true → p ≢ q → IsBeneath p q
beneath_rooted p q rest v h ne = by_case (within_cases p q h) (folder_cases p)
  where
    some_path : (x : List ℕ) → x ≡ 47 ∷ rest → x ≢ root → (r : List ℕ) → q ≡ x ++ 47 ∷ r → folder x ≡ x ++ 47 ∷ [] → IsBeneath x q
    some_path [] w m r e f = cc
    some_path (b ∷ bs) w m r e f = in_path_case b bs q r m e f

    by_case : (q ≡ p) ⊎ Under p q → ((p ≡ root) × (folder p ≡ root)) ⊎ ((p ≢ root) × (folder p ≡ p ++ 47 ∷ [])) → IsBeneath p q
    by_case (inl e) _ = absurd (ne (sym e))
    by_case (inr u) (inl f) =
        let b : IsBeneath root q = in_root_case q u.rest (u.same ∙ ap (λ x. x ++ u.rest) f.1) (λ is. ne (f.0 ∙ sym is)) in
        subst (λ x. IsBeneath x q) (sym f.0) b
    by_case (inr u) (inr f) = some_path p v f.0 u.rest (u.same ∙ ap (λ x. x ++ u.rest) f.1 ∙ append_assoc p (47 ∷ []) u.rest) f.1

pub beneath : (p q : List ℕ) → is_path p ≡ true → is_within p q ≡ true → p ≢ q → IsBeneath p q
beneath p q v h ne = let spelled = path_parts p v in beneath_rooted p q spelled.rest spelled.slash h ne

-- the test of strictly beneath
pub strictly : (p q : List ℕ) → is_beneath p q ≡ true → (is_within p q ≡ true) × (p ≢ q)
strictly p q h =
    let both = and_parts (is_within p q) (not (same_path q p)) h in
    (both.0, λ is. let t : same_path q p ≡ true = ap (λ x. same_path x p) (sym is) ∙ same_path-refl p in false≢true (sym (not-true (same_path q p) both.1) ∙ t))

pub strictly_from : (p q : List ℕ) → is_within p q ≡ true → p ≢ q → is_beneath p q ≡ true
strictly_from p q h ne = and_from (is_within p q) (not (same_path q p)) h (ap not (same_path-false q p (λ is. ne (sym is))))

-- a parent is shorter
pub parent-shorter : (q : List ℕ) → is_path q ≡ true → q ≢ root → length (parent_of q) < length q
parent-shorter q v ne = let spelled = path_parts q v in (in_root_case q spelled.rest spelled.slash ne).shorter

within-length : (p q : List ℕ) → is_within p q ≡ true → length p ≤ length q
within-length p q h = by_case (within_cases p q h)
  where
    by_case : (q ≡ p) ⊎ Under p q → length p ≤ length q
    by_case (inl e) = omega (arith, ap length e)
    by_case (inr u) = let z = folder_rest p in omega (arith, ap length u.same, length-append (folder p) u.rest, ap length z.1, length-append p z.0)

-- what is within the parent is beneath
pub beneath_from_parent : (p q : List ℕ) → is_path q ≡ true → q ≢ root → is_within p (parent_of q) ≡ true → is_beneath p q ≡ true
beneath_from_parent p q v ne h =
    let shorter = parent-shorter q v ne in
    strictly_from p q (within-trans p (parent_of q) q h (parent-within q v)) (λ is. absurd (omega (arith, within-length p (parent_of q) h, shorter, ap length is)))

pub beneath_law : BeneathLaw
beneath_law p q v w = (
  (λ h. let strict = strictly p q h in beneath p q v strict.0 strict.1, λ b. beneath_from_parent p q w b.not_root b.parent),
  λ ne h. record { not_root = ne; parent = h; shorter = parent-shorter q w ne },
)

pub parent_law : ParentLaw
parent_law p h = (parent-within p h, parent-path p h)

-- Texts of lists, one behind the other.
use Rattle.std.proofs.Common.{◌≡◌, ◌⊎◌, inl, inr, ℕ, zero, suc, ◌+◌, ◌<◌, ◌≤◌, List, [], ◌∷◌, ◌++◌, length, take, map, get_or, min, refl, sym, ap, ◌∙◌, arith, append_assoc}
use Rattle.std.specs.Prelude.{Some, codes, decimal, slice_get}
use Rattle.std.specs.List.{flat_map}
use Rattle.std.proofs.lemmas.List.{append-nil, take_more, map-append, length-take-le}
use Rattle.std.proofs.lemmas.Grind.{flat_map-append}
use Rattle.std.proofs.lemmas.Option.{slice_get_within, get_or_from_slice_get}
use Rattle.ice_base.specs.Ends.{OutputAt}
use Rattle.zarr_tree.specs.declared.cases.Conflict.{Conflict}
use Rattle.play_outcome.specs.declared.outcome.Outcome.{Outcome}
use Rattle.drafts.specs.Drafts.{DraftAt, Took}
use Rattle.drafts.proofs.Taking.{took_on, took_as}
use Rattle.play_report.specs.Refusals.{more_numbers, conflict_text, conflicts_text}
use Rattle.play_report.specs.Report.{outcome_text, tasks_text}

-- ---- behind the head of a line
pub headed : {d e f : DraftAt} {x y z : OutputAt} (first word rest : List ℕ) → Took d x (first ++ word) e y → Took e y rest f z → Took d x (first ++ (word ++ rest)) f z
headed first word rest h k = took_as (append_assoc first word rest) (took_on h k)

-- ---- a list's texts up to a place, and the next one
pub each-next : {A : Type 0} (f : A → List ℕ) (xs : List A) (i : ℕ) (d : A) → i < length xs → flat_map f (take i xs) ++ f (get_or xs i d) ≡ flat_map f (take (i + 1) xs)
each-next f xs i d within =
    let x = get_or xs i d in
    ap (λ (l : List ℕ). flat_map f (take i xs) ++ l) (sym (append-nil (f x)))
    ∙ (sym (flat_map-append f (take i xs) (x ∷ [])) ∙ ap (flat_map f) (sym (take_more xs i d within)))

pub each-item : {A : Type 0} (f : A → List ℕ) (xs : List A) (i : ℕ) (x : A) → i < length xs → x ≡ get_or xs i x → flat_map f (take i xs) ++ f x ≡ flat_map f (take (i + 1) xs)
each-item f xs i x within is = ap (λ at. flat_map f (take i xs) ++ f at) is ∙ each-next f xs i x within

pub each-got : {A : Type 0} (f : A → List ℕ) (xs : List A) (i : ℕ) (x : A) → slice_get xs i ≡ Some x → flat_map f (take i xs) ++ f x ≡ flat_map f (take (i + 1) xs)
each-got f xs i x got = each-item f xs i x (slice_get_within xs i x got) (sym (get_or_from_slice_get xs i x x got))

pub map-next : (f : ℕ → ℕ) (xs : List ℕ) (i : ℕ) → i < length xs → map f (take i xs) ++ f (get_or xs i 0) ∷ [] ≡ map f (take (i + 1) xs)
map-next f xs i within = sym (map-append f (take i xs) (get_or xs i 0 ∷ [])) ∙ ap (map f) (sym (take_more xs i 0 within))

-- ---- numbers behind commas, and conflicts behind spaces
abbrev pub next_number : ℕ → List ℕ
next_number n = codes "," ++ decimal n

pub numbers-each : (ns : List ℕ) → flat_map next_number ns ≡ more_numbers ns
numbers-each [] = refl
numbers-each (n ∷ ns) = ap (λ (l : List ℕ). next_number n ++ l) (numbers-each ns)

abbrev pub next_conflict : Conflict → List ℕ
next_conflict c = codes " " ++ conflict_text c

pub conflicts-each : (cs : List Conflict) → flat_map next_conflict cs ≡ conflicts_text cs
conflicts-each [] = refl
conflicts-each (c ∷ cs) = ap (λ (l : List ℕ). next_conflict c ++ l) (conflicts-each cs)

-- ---- the tasks up to a place, and the next one
tasks-append : {A : Type 0} (f : A → List ℕ) (xs ys : List A) (os ps : List Outcome) → length xs ≡ length os → tasks_text (map f (xs ++ ys)) (os ++ ps) ≡ tasks_text (map f xs) os ++ tasks_text (map f ys) ps
tasks-append f [] ys [] ps same = refl
tasks-append f [] ys (o ∷ os) ps same = absurd (omega (arith, same))
tasks-append f (x ∷ xs) ys [] ps same = absurd (omega (arith, same))
tasks-append f (x ∷ xs) ys (o ∷ os) ps same =
    let rest : length xs ≡ length os = omega (arith, same) in
    ap (λ (l : List ℕ). outcome_text (f x) o ++ l) (tasks-append f xs ys os ps rest) ∙ sym (append_assoc (outcome_text (f x) o) (tasks_text (map f xs) os) (tasks_text (map f ys) ps))

pub tasks-next : {A : Type 0} (f : A → List ℕ) (xs : List A) (os : List Outcome) (i : ℕ) (d : A) (o : Outcome) → i < length xs → i < length os → o ≡ get_or os i o
    → tasks_text (map f (take i xs)) (take i os) ++ outcome_text (f (get_or xs i d)) o ≡ tasks_text (map f (take (i + 1) xs)) (take (i + 1) os)
tasks-next f xs os i d o within inside at =
    let x = get_or xs i d in
    let same : length (take i xs) ≡ length (take i os) = length-take-le i xs (omega arith) ∙ sym (length-take-le i os (omega arith)) in
    let names : take i xs ++ x ∷ [] ≡ take (i + 1) xs = sym (take_more xs i d within) in
    let ends : take i os ++ o ∷ [] ≡ take (i + 1) os = ap (λ p. take i os ++ p ∷ []) at ∙ sym (take_more os i o inside) in
    ap (λ (l : List ℕ). tasks_text (map f (take i xs)) (take i os) ++ l) (sym (append-nil (outcome_text (f x) o)))
    ∙ (sym (tasks-append f (take i xs) (x ∷ []) (take i os) (o ∷ []) same) ∙ (ap (λ n. tasks_text (map f n) (take i os ++ o ∷ [])) names ∙ ap (λ p. tasks_text (map f (take (i + 1) xs)) p) ends))

-- at the end of either list there are no more tasks
tasks-cut : {A : Type 0} (f : A → List ℕ) (xs : List A) (os : List Outcome) (i : ℕ) → (length xs ≤ i) ⊎ (length os ≤ i) → tasks_text (map f (take i xs)) (take i os) ≡ tasks_text (map f xs) os
tasks-cut f [] os zero h = refl
tasks-cut f [] os (suc i) h = refl
tasks-cut f (x ∷ xs) [] zero h = refl
tasks-cut f (x ∷ xs) [] (suc i) h = refl
tasks-cut f (x ∷ xs) (o ∷ os) zero h = absurd (elim h [ inl l ↦ omega (arith, l) | inr l ↦ omega (arith, l) ])
tasks-cut f (x ∷ xs) (o ∷ os) (suc i) h = ap (λ (l : List ℕ). outcome_text (f x) o ++ l) (tasks-cut f xs os i (elim h [ inl l ↦ inl (omega (arith, l)) | inr l ↦ inr (omega (arith, l)) ]))

either : (a b i : ℕ) → min a b ≤ i → (a ≤ i) ⊎ (b ≤ i)
either a b i l = grind arith

pub tasks-all : {A : Type 0} (f : A → List ℕ) (xs : List A) (os : List Outcome) (i : ℕ) → min (length xs) (length os) ≤ i → tasks_text (map f (take i xs)) (take i os) ≡ tasks_text (map f xs) os
tasks-all f xs os i l = tasks-cut f xs os i (either (length xs) (length os) i l)

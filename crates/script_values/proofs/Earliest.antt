-- The earliest of many faults.
use Rattle.std.proofs.Common.{◌≡◌, ℕ, Bool, true, false, cond, List, [], ◌∷◌, ◌++◌, Result, Ok, Err, length, Option, None, Some, ◌+◌, refl, ap, ◌∙◌, append_assoc, arith}
use Rattle.std.specs.Prelude.{ℤ, Vec, nat_le}
use Rattle.std.proofs.lemmas.Bool.Decides.{nat_tests}
use Rattle.script_values.specs.declared.kinds.ScriptKind.{ScriptKind}
use Rattle.script_values.specs.Parts.{rank, earlier, ◌&◌, made, each}
use Rattle.script_values.specs.SoFar.{parts_seen}

by_ranks : (a b d : Bool) (x y z : ScriptKind) → nat_le (rank x) (rank y) ≡ a → nat_le (rank y) (rank z) ≡ b → nat_le (rank x) (rank z) ≡ d → earlier (cond a x y) z ≡ earlier x (cond b y z)
by_ranks true true true x y z p q r = rw (p, r) refl
by_ranks true true false x y z p q r = absurd (grind (arith, nat_tests, p, q, r))
by_ranks true false d x y z p q r = refl
by_ranks false true d x y z p q r = rw (p, q) refl
by_ranks false false true x y z p q r = absurd (grind (arith, nat_tests, p, q, r))
by_ranks false false false x y z p q r = rw (q, r) refl

pub earlier_assoc : (x y z : ScriptKind) → earlier (earlier x y) z ≡ earlier x (earlier y z)
earlier_assoc x y z = by_ranks (nat_le (rank x) (rank y)) (nat_le (rank y) (rank z)) (nat_le (rank x) (rank z)) x y z refl refl refl

abbrev pub joined : {A : Type 0} → Result (List A) ScriptKind → Result (List A) ScriptKind → Result (List A) ScriptKind
joined a b = made (λ p. p.0 ++ p.1) (a & b)

abbrev pub snoc : {A : Type 0} → List A × A → List A
snoc v = v.0 ++ v.1 ∷ []

abbrev cons : {A : Type 0} → A × List A → List A
cons v = v.0 ∷ v.1

pub joined_more : {A : Type 0} (a : Result (List A) ScriptKind) (t : Result A ScriptKind) (b : Result (List A) ScriptKind) → joined (made snoc (a & t)) b ≡ joined a (made cons (t & b))
joined_more (Ok xs) (Ok x) (Ok ys) = ap (λ zs. Ok zs) (append_assoc xs (x ∷ []) ys)
joined_more (Ok xs) (Ok x) (Err k) = refl
joined_more (Ok xs) (Err j) (Ok ys) = refl
joined_more (Ok xs) (Err j) (Err k) = refl
joined_more (Err i) (Ok x) (Ok ys) = refl
joined_more (Err i) (Ok x) (Err k) = refl
joined_more (Err i) (Err j) (Ok ys) = refl
joined_more (Err i) (Err j) (Err k) = ap (λ e. Err e) (earlier_assoc i j k)

-- one more part was read
pub one_more_part : {A : Type 0} (f : List ℕ → Result A ScriptKind) (so_far more : Result (List A) ScriptKind) (t : Result A ScriptKind) (word : List ℕ) (rest all : List (List ℕ)) (whole : Result (List A) ScriptKind) → joined so_far (each f all) ≡ whole → all ≡ word ∷ rest → t ≡ f word → more ≡ made snoc (so_far & t) → joined more (each f rest) ≡ whole
one_more_part f so_far more t word rest all whole h split part is_more =
    rw (is_more, part) (joined_more so_far (f word) (each f rest) ∙ (rw split at h))

-- how much is left of a line
abbrev pub left_size : Option (List ℕ) → ℕ
left_size None = 0
left_size (Some t) = length t + 1

-- a fault of two lists and a value is that of the text that is made of them
pub made_fault : {B Z : Type 0} (text : List ℕ) (shape chunks : Result (Vec ℕ Z) ScriptKind) (fill : Result ℤ ScriptKind) (f : ((List ℕ × List ℕ) × List ℕ) × ℤ → B) (kind : ScriptKind) → ((shape & chunks) & fill) ≡ Err kind → Err kind ≡ made f (((Ok text & parts_seen shape) & parts_seen chunks) & fill)
made_fault text (Ok shape) (Ok chunks) (Ok fill) f kind h = absurd (cc)
made_fault text (Ok shape) (Ok chunks) (Err c) f kind h = let e : kind ≡ c = cc in ap (λ x. Err x) e
made_fault text (Ok shape) (Err b) (Ok fill) f kind h = let e : kind ≡ b = cc in ap (λ x. Err x) e
made_fault text (Ok shape) (Err b) (Err c) f kind h = let e : kind ≡ earlier b c = cc in ap (λ x. Err x) e
made_fault text (Err a) (Ok chunks) (Ok fill) f kind h = let e : kind ≡ a = cc in ap (λ x. Err x) e
made_fault text (Err a) (Ok chunks) (Err c) f kind h = let e : kind ≡ earlier a c = cc in ap (λ x. Err x) e
made_fault text (Err a) (Err b) (Ok fill) f kind h = let e : kind ≡ earlier a b = cc in ap (λ x. Err x) e
made_fault text (Err a) (Err b) (Err c) f kind h = let e : kind ≡ earlier (earlier a b) c = cc in ap (λ x. Err x) e

-- Digits in a base and the number that they write.
use Rattle.std.proofs.Common.{◌≡◌, ℕ, zero, suc, ◌+◌, ◌*◌, ◌/◌, ◌%◌, ◌^◌, ◌<◌, ◌≤◌, List, [], ◌∷◌, ◌++◌, length, get_or, take, drop, refl, sym, ap, ◌∙◌, set, arith, append_assoc, subst, add-one}
use Rattle.std.specs.List.{All}
use Rattle.std.specs.Int.Digits.{number_from_digits}
use Rattle.std.proofs.lemmas.Int.Digits.{number_push, number_lt}
use Rattle.std.proofs.lemmas.List.{take_more, take_all, length_push, length-take-le, drop-set}
use Rattle.std.proofs.lemmas.List.Elements.{All-push, All-take, All-get_or, All-nil, recursion_from_All}
use Rattle.std.proofs.lemmas.Nat.{div-mul-add, mod-mul-add, div-add-mod', mod_below, div_below}
use Rattle.std.proofs.Math.Nat.{pow-zero, pow-suc, pow-le-pow_right}
use Rattle.ice_ids.specs.Digits.{digits_in}

pub length-digits_in : (base count number : ℕ) → length (digits_in base count number) ≡ count
unfolding digits_in
length-digits_in base zero number = refl
length-digits_in base (suc count) number =
    length_push (digits_in base count (number / base)) (number % base) ∙ ap (λ n. n + 1) (length-digits_in base count (number / base)) ∙ add-one count

pub digits_in-All : (base count number : ℕ) → 0 < base → All (λ d. d < base) (digits_in base count number)
unfolding digits_in
digits_in-All base zero number pos = All-nil _
digits_in-All base (suc count) number pos =
    All-push (λ d. d < base) _ _ (digits_in-All base count (number / base) pos) (mod_below number base pos)

-- the digits of a number write it, where they are enough
pub number-digits_in : (base count number : ℕ) → 0 < base → number < base ^ count → number_from_digits base (digits_in base count number) ≡ number
unfolding digits_in
number-digits_in base zero number pos small =
    let one_at_zero : base ^ zero ≡ 1 = pow-zero base in omega arith
number-digits_in base (suc count) number pos small =
    let high : number / base < base ^ count = div_below number base (base ^ count) pos (rw (← pow-suc base count) small) in
    number_push base (digits_in base count (number / base)) (number % base)
    ∙ ap (λ n. n * base + number % base) (number-digits_in base count (number / base) pos high)
    ∙ div-add-mod' number base

-- a list's digits are those of the number that it writes
digits_in-take : (base : ℕ) (ds : List ℕ) (count : ℕ) → count ≤ length ds → All (λ d. d < base) ds → digits_in base count (number_from_digits base (take count ds)) ≡ take count ds
unfolding digits_in
digits_in-take base ds zero within below = refl
digits_in-take base ds (suc count) within below =
    let last : ℕ = get_or ds count 0 in
    let front : ℕ = number_from_digits base (take count ds) in
    let last_below : last < base = All-get_or (λ d. d < base) ds count 0 (omega arith) below in
    let longer : take (suc count) ds ≡ take count ds ++ last ∷ [] =
    ap (λ n. take n ds) (sym (add-one count)) ∙ take_more ds count 0 (omega arith) in
    let number : number_from_digits base (take (suc count) ds) ≡ front * base + last =
    ap (number_from_digits base) longer ∙ number_push base (take count ds) last in
    ap (λ n. digits_in base count (n / base) ++ n % base ∷ []) number
    ∙ ap (λ n. digits_in base count n ++ (front * base + last) % base ∷ []) (div-mul-add front base last last_below)
    ∙ ap (λ n. digits_in base count front ++ n ∷ []) (mod-mul-add front base last last_below)
    ∙ ap (λ xs. xs ++ last ∷ []) (digits_in-take base ds count (omega arith) below)
    ∙ sym longer

pub digits_in-number : (base : ℕ) (ds : List ℕ) → All (λ d. d < base) ds → digits_in base (length ds) (number_from_digits base ds) ≡ ds
digits_in-number base ds below =
    let whole : take (length ds) ds ≡ ds = take_all (length ds) ds (omega arith) in
    subst (λ (xs : List ℕ). digits_in base (length ds) (number_from_digits base xs) ≡ xs) whole (digits_in-take base ds (length ds) (omega arith) below)

pub number-below : (base : ℕ) (ds : List ℕ) → All (λ d. d < base) ds → number_from_digits base ds < base ^ length ds
number-below base ds below = number_lt base ds (recursion_from_All _ ds below)

-- a front of a list writes a number below the power of any length that it keeps to
pub number-take-below : (base : ℕ) (ds : List ℕ) (i n : ℕ) → 0 < base → All (λ d. d < base) ds → i ≤ n → i ≤ length ds → number_from_digits base (take i ds) < base ^ n
number-take-below base ds i n pos below within inside =
    let front : number_from_digits base (take i ds) < base ^ length (take i ds) = number-below base (take i ds) (All-take (λ d. d < base) i ds below) in
    let long : length (take i ds) ≡ i = length-take-le i ds inside in
    let here : number_from_digits base (take i ds) < base ^ i = subst (λ (m : ℕ). number_from_digits base (take i ds) < base ^ m) long front in
    let more : base ^ i ≤ base ^ n = pow-le-pow_right pos within in
    omega arith

pub digits_in-step : (base at i number : ℕ) → at ≡ i + 1 → digits_in base at number ≡ digits_in base i (number / base) ++ number % base ∷ []
unfolding digits_in
digits_in-step base at i number next = ap (λ n. digits_in base n number) (next ∙ add-one i)

-- a list is written from its end: what stood last in front of what is written is written now
pub placed : (i at v : ℕ) (front more xs whole : List ℕ) → i < length xs → at ≡ i + 1 → more ≡ front ++ v ∷ [] → more ++ drop at xs ≡ whole → front ++ drop i (set xs i v) ≡ whole
placed i at v front more xs whole inside next longer is =
    ap (λ ys. front ++ ys) (drop-set xs i v inside)
    ∙ sym (append_assoc front (v ∷ []) (drop (i + 1) xs))
    ∙ ap (λ ys. ys ++ drop (i + 1) xs) (sym longer)
    ∙ ap (λ n. more ++ drop n xs) (sym next)
    ∙ is

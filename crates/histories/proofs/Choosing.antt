-- Changes that are known at each event, as a function of positions.
use Rattle.std.proofs.Common.{◌≡◌, ℕ, ◌<◌, ◌≤◌, cond, List, [], ◌∷◌, ◌++◌, length, refl, sym, ◌∙◌, ap, subst, arith, length-append, eq-eqb, ne_eqb}
use Rattle.std.specs.Prelude.{◌==◌}
use Rattle.zarr_tree.specs.Changes.{Changes, none}
use Rattle.object_store.specs.declared.events.Event.{Event}
use Rattle.store_api.specs.Journal.{Each}

-- at each event there are changes for which Q holds
abbrev pub Knows : (List Event → Event → Changes → Type 0) → List Event → Event → Type 0
Knows Q journal event = (c : Changes) × Q journal event c

-- the changes at a position
unfoldable pub chosen : (Q : List Event → Event → Changes → Type 0) (old more : List Event) → Each (Knows Q) old more → ℕ → Changes
unfolding Each
chosen Q old [] a n = none
chosen Q old (x ∷ xs) a n = cond (n == length old) a.0.0 (chosen Q (old ++ x ∷ []) xs a.1 n)

agreeing : (Q : List Event → Event → Changes → Type 0) (f : ℕ → Changes) (old more : List Event) (a : Each (Knows Q) old more) → ((n : ℕ) → length old ≤ n → f n ≡ chosen Q old more a n) → Each (λ journal event. Q journal event (f (length journal))) old more
unfolding Each chosen
agreeing Q f old [] a h = tt
agreeing Q f old (x ∷ xs) a h =
    let here : f (length old) ≡ a.0.0 = h (length old) (omega arith) ∙ ap (λ b. cond b a.0.0 (chosen Q (old ++ x ∷ []) xs a.1 (length old))) (eq-eqb (length old) (length old) refl) in
    let later : (n : ℕ) → length (old ++ x ∷ []) ≤ n → f n ≡ chosen Q (old ++ x ∷ []) xs a.1 n = λ n l.
    let less : length old < n = omega (arith, l, length-append old (x ∷ [])) in
    h n (omega (arith, less)) ∙ ap (λ b. cond b a.0.0 (chosen Q (old ++ x ∷ []) xs a.1 n)) (ne_eqb n (length old) (λ e. absurd (omega (arith, e, less))))
    in
    (subst (λ (c : Changes). Q old x c) (sym here) a.0.1, agreeing Q f (old ++ x ∷ []) xs a.1 later)

-- so there is one function of positions that is right at each event
pub choice : (Q : List Event → Event → Changes → Type 0) (old more : List Event) → (a : Each (Knows Q) old more) → Each (λ journal event. Q journal event (chosen Q old more a (length journal))) old more
choice Q old more a = agreeing Q (chosen Q old more a) old more a (λ n l. refl)

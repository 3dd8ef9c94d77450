-- What one operation changes of the index.
use Rattle.std.proofs.Common.{◌≡◌, ℕ, Bool, true, false, cond, eqb, eqb-true, refl, sym, ◌∙◌, ap}
use Rattle.std.specs.Prelude.{Option, Some, None, Result, Ok, Err, OnOk}
use Rattle.std.specs.Option.{option_eq}
use Rattle.object_store.specs.declared.keys.Key.{Key}
use Rattle.object_store.specs.declared.events.Op.{Op}
use Rattle.object_store.specs.declared.events.Op.TheVariants.{Get, PutNew, PutOver, Remove, RemoveAt, List as ListPart}
use Rattle.object_store.specs.Machine.{same_key, is_on}
use Rattle.object_store.proofs.Slots.{same_key-true}
use Rattle.mem_store.specs.KeptEvents.{key_changed}
use Rattle.mem_store.specs.Places.{place_left, place_after}

same-cond : (a b : Bool) (at : Option ℕ) → at ≡ cond a (cond b at at) at
same-cond true true at = refl
same-cond true false at = refl
same-cond false b at = refl

on-some : (key k : Key) (op : Op) → key_changed op ≡ Some k → is_on key op ≡ same_key k key
on-some key k (Get x) e = cc
on-some key k (PutNew x bytes why) e = let same : x ≡ k = cc in ap (λ (y : Key). same_key y key) same
on-some key k (PutOver x bytes old why) e = let same : x ≡ k = cc in ap (λ (y : Key). same_key y key) same
on-some key k (Remove x why) e = let same : x ≡ k = cc in ap (λ (y : Key). same_key y key) same
on-some key k (RemoveAt x old why) e = let same : x ≡ k = cc in ap (λ (y : Key). same_key y key) same
on-some key k (ListPart part) e = cc

-- where no key has another put
pub after-none : (place : ℕ) (op : Op) (done : Bool) (q : Key) (at : Option ℕ) → key_changed op ≡ None → at ≡ place_after place op done q at
after-none place (Get key) done q at e = same-cond (is_on q (Get key)) done at
after-none place (ListPart part) done q at e = refl
after-none place _ done q at e = cc

pub same-option : (a b : Option ℕ) → option_eq eqb a b ≡ true → a ≡ b
same-option None None e = refl
same-option (Some x) (Some y) e = ap (λ (n : ℕ). Some n) (eqb-true x y e)
same-option _ _ e = cc

pub OnOk-then : {A E P Q : Type 0} (r : Result A E) → OnOk r P → (P → Q) → OnOk r Q
OnOk-then (Ok a) p f = f p
OnOk-then (Err e) p f = tt

-- the key of the operation alone has another put, the one that it leaves
pub after-some : (f : Key → Option ℕ) (place : ℕ) (op : Op) (done : Bool) (k q : Key) (left : Option ℕ) → key_changed op ≡ Some k → left ≡ cond done (place_left place op (f k)) (f k) → cond (same_key k q) left (f q) ≡ place_after place op done q (f q)
after-some f place op done k q left on is = decide (same_key k q) refl ∙ ap (λ (b : Bool). cond b (cond done (place_left place op (f q)) (f q)) (f q)) (sym (on-some q k op on))
  where
    decide : (b : Bool) → same_key k q ≡ b → cond (same_key k q) left (f q) ≡ cond (same_key k q) (cond done (place_left place op (f q)) (f q)) (f q)
    decide true e =
        let same : k ≡ q = same_key-true k q e in
        ap (λ (x : Option ℕ). cond (same_key k q) x (f q)) (is ∙ ap (λ (x : Key). cond done (place_left place op (f x)) (f x)) same)
    decide false e = rw e refl

-- it has the put that it had
pub after-same : (f : Key → Option ℕ) (place : ℕ) (op : Op) (done : Bool) (k q : Key) (left : Option ℕ) → key_changed op ≡ Some k → left ≡ cond done (place_left place op (f k)) (f k) → left ≡ f k → f q ≡ place_after place op done q (f q)
after-same f place op done k q left on is same = decide (same_key k q) refl ∙ after-some f place op done k q left on is
  where
    decide : (b : Bool) → same_key k q ≡ b → f q ≡ cond (same_key k q) left (f q)
    decide true e = let key : k ≡ q = same_key-true k q e in rw e (sym (same ∙ ap f key))
    decide false e = rw e refl

-- Logs that begin with one another, and ranges of owner numbers.
use Rattle.std.proofs.Common.{◌≡◌, ℕ, ◌<◌, ◌≤◌, ◌⊎◌, Bool, true, false, List, [], ◌∷◌, ◌++◌, length, get_or, refl, sym, ap, ◌∙◌, inl, inr, ⊎_elim, subst, arith, append_assoc}
use Rattle.std.specs.Prelude.{Option, Some, None, IfSome, if◌then◌else◌, nat_lt}
use Rattle.std.specs.List.{All}
use Rattle.std.proofs.lemmas.Bool.Decides.{nat_tests}
use Rattle.std.proofs.lemmas.List.{append-nil}
use Rattle.std.proofs.lemmas.List.Elements.{All-append, All-nil, All-cons, All-head, All-tail, All-weaker}
use native.Mathlib.Decide.{dec_lt}
use mathlib.Core.Logic.{dite}
use Rattle.turn_cell.specs.declared.known.Known.{Known}
use Rattle.turn_cell.specs.declared.known.Owners.{Owners}
use Rattle.turn_cell.specs.Owners.{IsOwner, AreApart, Adjoins, all_owners, no_owners, lower_part, upper_part, united}
use Rattle.turn_cell.specs.SeenJournals.{Follows, Grows, longer, nothing}
use Rattle.turn_cell.specs.Turns.{AreJoined}

module _ {E : Type 0} where
  -- of two beginnings of one list the shorter begins the longer
  shorter : (xs ys a b : List E) → xs ++ a ≡ ys ++ b → length xs ≤ length ys → (m : List E) × (ys ≡ xs ++ m) × (a ≡ m ++ b)
  shorter [] ys a b e h = (ys, refl, e)
  shorter (x ∷ xs) [] a b e h = absurd (omega arith)
  shorter (x ∷ xs) (y ∷ ys) a b e h =
      let r = shorter xs ys a b (let t : xs ++ a ≡ ys ++ b = cc in t) (omega arith) in
      (r.0, (let q = r.1 in let t : y ∷ ys ≡ x ∷ (xs ++ r.0) = cc in t), r.2)

  all_right : (P : E → Type 0) (xs ys : List E) → All P (xs ++ ys) → All P ys
  all_right P [] ys h = h
  all_right P (x ∷ xs) ys h = all_right P xs ys (All-tail P x (xs ++ ys) h)

  all_left : (P : E → Type 0) (xs ys : List E) → All P (xs ++ ys) → All P xs
  all_left P [] ys h = All-nil P
  all_left P (x ∷ xs) ys h = All-cons P x xs (All-head P x (xs ++ ys) h) (all_left P xs ys (All-tail P x (xs ++ ys) h))

  none_of : (P : E → Type 0) (xs : List E) → ((e : E) → P e) → All (λ e. ¬ P e) xs → xs ≡ []
  none_of P [] f h = refl
  none_of P (x ∷ xs) f h = absurd (All-head (λ e. ¬ P e) x xs h (f x))

below_less : (end : Option ℕ) (at n : ℕ) → n ≤ at → IfSome end (λ e. at < e) → IfSome end (λ e. n < e)
below_less None at n less below = tt
below_less (Some e) at n less below = omega arith

-- the parts of a range lie within it, and are apart
pub in_lower : (owners : Owners) (at n : ℕ) → IsOwner owners at → IsOwner (lower_part at owners) n → IsOwner owners n
in_lower owners at n own part = (part.0, below_less owners.end at n (omega arith) own.1)

pub in_upper : (owners : Owners) (at n : ℕ) → owners.low < at → IsOwner (upper_part at owners) n → IsOwner owners n
in_upper owners at n above part = (omega arith, part.1)

-- a number of the united range is in one of the two
pub one_of : (a b : Owners) (n : ℕ) → Adjoins a b → IsOwner (united a b) n → IsOwner a n ⊎ IsOwner b n
one_of a b n meets own = dite (dec_lt n b.low)
    (λ lt. inl (own.0, subst (λ (end : Option ℕ). IfSome end (λ e. n < e)) (sym meets) lt))
    (λ ge. inr (omega arith, own.1))

module _ {E : Type 0} (owner : E → ℕ) where
  abbrev Foreign : Owners → E → Type 0
  Foreign owners e = ¬ IsOwner owners (owner e)

  -- the same of fewer owners
  pub narrower : (seen journal : List E) (owners within : Owners) → ((n : ℕ) → IsOwner within n → IsOwner owners n) → Follows owner owners seen journal → Follows owner within seen journal
  narrower seen journal owners within less f = record {
    rest = f.rest;
    is = f.is;
    foreign = All-weaker (Foreign owners) (Foreign within) (λ e h own. h (less (owner e) own)) f.rest f.foreign;
  }

  pub nothing_more : (journal : List E) (owners : Owners) → Follows owner owners journal journal
  nothing_more journal owners = record { rest = []; is = sym (append-nil journal); foreign = All-nil (Foreign owners) }

  -- what another one adds is foreign
  pub grown : (seen journal new : List E) (owners others : Owners) → AreApart owners others → Follows owner owners seen journal → Grows owner others journal new → Follows owner owners seen new
  grown seen journal new owners others apart f g = record {
    rest = f.rest ++ g.rest;
    is = g.is ∙ ap (λ z. z ++ g.rest) f.is ∙ append_assoc seen f.rest g.rest;
    foreign = All-append (Foreign owners) f.rest g.rest f.foreign
        (All-weaker (λ e. IsOwner others (owner e)) (Foreign owners) (λ e theirs mine. apart (owner e) mine theirs) g.rest g.own);
  }

  -- where all owners are the pass's own, nothing was added
  pub whole : (owners : Owners) (seen journal : List E) → owners ≡ all_owners → Follows owner owners seen journal → journal ≡ seen
  whole owners seen journal all f =
      let own : (e : E) → IsOwner owners (owner e) = λ e. subst (λ (o : Owners). IsOwner o (owner e)) (sym all) (omega arith, tt) in
      f.is ∙ ap (λ r. seen ++ r) (none_of (λ e. IsOwner owners (owner e)) f.rest own f.foreign) ∙ append-nil seen

  -- two passes of one journal, of which the first had seen no more than the second
  module _ (xs ys journal : List E) (a b : Owners) (f : Follows owner a xs journal) (g : Follows owner b ys journal) (less : length xs ≤ length ys) where
    between : Follows owner a xs ys
    between = let s = shorter xs ys f.rest g.rest (sym f.is ∙ g.is) less in record {
      rest = s.0;
      is = s.1;
      foreign = all_left (Foreign a) s.0 g.rest (subst (All (Foreign a)) s.2 f.foreign);
    }

    -- past the second one's no entry is the first one's
    past : All (Foreign a) g.rest
    past = let s = shorter xs ys f.rest g.rest (sym f.is ∙ g.is) less in all_right (Foreign a) s.0 g.rest (subst (All (Foreign a)) s.2 f.foreign)

  module _ (v w : Known E) (journal : List E) (f : Follows owner v.owners v.journal journal) (g : Follows owner w.owners w.journal journal) where
    abbrev One : Bool → List E
    One b = if b then w.journal else v.journal

    first_of : (b : Bool) → nat_lt (length v.journal) (length w.journal) ≡ b → Follows owner v.owners v.journal (One b)
    first_of true is = between v.journal w.journal journal v.owners w.owners f g (grind (arith, nat_tests))
    first_of false is = nothing_more v.journal v.owners

    second_of : (b : Bool) → nat_lt (length v.journal) (length w.journal) ≡ b → Follows owner w.owners w.journal (One b)
    second_of true is = nothing_more w.journal w.owners
    second_of false is = between w.journal v.journal journal w.owners v.owners g f (grind (arith, nat_tests))

    pub compared : AreJoined owner v w
    compared = record { first = first_of (nat_lt (length v.journal) (length w.journal)) refl; second = second_of (nat_lt (length v.journal) (length w.journal)) refl }

    both_of : (meets : Adjoins v.owners w.owners) (b : Bool) → nat_lt (length v.journal) (length w.journal) ≡ b → Follows owner (united v.owners w.owners) (One b) journal
    both_of meets true is =
        let free = past v.journal w.journal journal v.owners w.owners f g (grind (arith, nat_tests)) in
        record { rest = g.rest; is = g.is; foreign = λ i d near own. ⊎_elim (free i d near) (g.foreign i d near) (one_of v.owners w.owners (owner (get_or g.rest i d)) meets own) }
    both_of meets false is =
        let free = past w.journal v.journal journal w.owners v.owners g f (grind (arith, nat_tests)) in
        record { rest = f.rest; is = f.is; foreign = λ i d near own. ⊎_elim (f.foreign i d near) (free i d near) (one_of v.owners w.owners (owner (get_or f.rest i d)) meets own) }

    -- the journal begins with the longer one, and past it no entry is either's
    pub both_follow : Adjoins v.owners w.owners → Follows owner (united v.owners w.owners) (longer v.journal w.journal) journal
    both_follow meets = both_of meets (nat_lt (length v.journal) (length w.journal)) refl

  pub nothing_joined : AreJoined owner nothing nothing
  nothing_joined = record { first = nothing_more [] no_owners; second = nothing_more [] no_owners }

-- Names in folders, and lists of them.
use Rattle.std.proofs.Common.{◌≡◌, ◌≢◌, ◌∙◌, ℕ, zero, suc, ◌+◌, List, [], ◌∷◌, ◌++◌, take, length, refl, ap, sym, subst, arith, Some, None, append_assoc, cond, not, eq-eqb, ne_eqb}
use Rattle.std.specs.Prelude.{◌==◌, slice_get, codes}
use Rattle.std.specs.List.{before_first, position_or_len}
use Rattle.std.proofs.lemmas.Option.{same_Some}
use Rattle.std.proofs.lemmas.List.{append_cancel_left}
use Rattle.folder.specs.Files.{IsFileName, IsBehind, HasName}
use Rattle.folder.specs.Memory.{AddsName}

slash_at : (name rest : List ℕ) → IsFileName name → IsBehind rest → position_or_len (λ byte. byte == 47) (name ++ rest) ≡ length name
slash_at [] [] plain behind = refl
slash_at [] (byte ∷ rest) plain behind = ap (λ t. cond (not t) (1 + position_or_len (λ byte. byte == 47) rest) 0) (eq-eqb byte 47 behind)
slash_at (byte ∷ name) rest plain behind =
    ap (λ t. cond (not t) (1 + position_or_len (λ byte. byte == 47) (name ++ rest)) 0) (ne_eqb byte 47 plain.0)
    ∙ omega (arith, slash_at name rest plain.1 behind)

taken : (xs ys : List ℕ) → take (length xs) (xs ++ ys) ≡ xs
taken [] ys = refl
taken (x ∷ xs) ys = ap (λ zs. x ∷ zs) (taken xs ys)

pub first-name : (name rest : List ℕ) → IsFileName name → IsBehind rest → before_first (λ byte. byte == 47) (name ++ rest) ≡ name
first-name name rest plain behind = ap (λ n. take n (name ++ rest)) (slash_at name rest plain behind) ∙ taken name rest

-- ---- a path that leads to or beneath a name in a folder
inside-is : (path folder inside name rest : List ℕ) → path ≡ folder ++ inside → path ≡ folder ++ codes "/" ++ name ++ rest → inside ≡ codes "/" ++ (name ++ rest)
inside-is path folder inside name rest is leads =
    append_cancel_left folder inside (codes "/" ++ (name ++ rest)) (sym is ∙ leads ∙ append_assoc (folder ++ codes "/") name rest ∙ append_assoc folder (codes "/") (name ++ rest))

pub leads-nowhere : (path folder inside name rest : List ℕ) → path ≡ folder ++ inside → ((more : List ℕ) → inside ≢ codes "/" ++ more) → path ≡ folder ++ codes "/" ++ name ++ rest → ⊥
leads-nowhere path folder inside name rest is none leads = none (name ++ rest) (inside-is path folder inside name rest is leads)

pub leads-to : (path folder inside left name rest first : List ℕ) → path ≡ folder ++ inside → inside ≡ codes "/" ++ left → first ≡ before_first (λ byte. byte == 47) left → IsFileName name → IsBehind rest → path ≡ folder ++ codes "/" ++ name ++ rest → first ≡ name
leads-to path folder inside left name rest first is behind begins plain ends leads =
    let same : left ≡ name ++ rest = append_cancel_left (codes "/") left (name ++ rest) (sym behind ∙ inside-is path folder inside name rest is leads) in
    begins ∙ ap (λ (bytes : List ℕ). before_first (λ byte. byte == 47) bytes) same ∙ first-name name rest plain ends

-- ---- lists of names
get-append : (xs ys : List (List ℕ)) (k : ℕ) (name : List ℕ) → slice_get xs k ≡ Some name → slice_get (xs ++ ys) k ≡ Some name
get-append [] ys k name at = let none : None ≡ Some name = sym (get-none k) ∙ at in cc
  where
    get-none : (k : ℕ) → slice_get {X = List ℕ} [] k ≡ None
    get-none zero = refl
    get-none (suc k) = refl
get-append (x ∷ xs) ys zero name at = at
get-append (x ∷ xs) ys (suc k) name at = get-append xs ys k name at

get-last : (xs : List (List ℕ)) (name : List ℕ) → slice_get (xs ++ name ∷ []) (length xs) ≡ Some name
get-last [] name = refl
get-last (x ∷ xs) name = get-last xs name

pub stays : (xs ys : List (List ℕ)) (name : List ℕ) → HasName xs name → HasName (xs ++ ys) name
stays xs ys name has = record { place = has.place; here = get-append xs ys has.place name has.here }

pub has-last : (xs : List (List ℕ)) (name : List ℕ) → HasName (xs ++ name ∷ []) name
has-last xs name = record { place = length xs; here = get-last xs name }

pub adds-name : (path folder name : List ℕ) (old new : List (List ℕ)) → new ≡ old ++ name ∷ [] → ((n rest : List ℕ) → IsFileName n → IsBehind rest → path ≡ folder ++ codes "/" ++ n ++ rest → Some name ≡ Some n) → AddsName path folder old new
adds-name path folder name old new is leads = record {
  stay = λ n has. subst (λ names. HasName names n) (sym is) (stays old (name ∷ []) n has);
  added = λ n rest plain ends same.
      let this : name ≡ n = same_Some name n (leads n rest plain ends same) in
      subst (λ names. HasName names n) (sym is) (subst (λ m. HasName (old ++ name ∷ []) m) this (has-last old name));
}

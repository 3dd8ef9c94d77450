-- The folder of a path is what stands before its last slash.
use Rattle.std.proofs.Common.{◌≡◌, ◌≢◌, ◌∙◌, ℕ, suc, ◌<◌, List, [], ◌∷◌, ◌++◌, take, drop, length, get_or, ap, sym, arith, append_assoc, take-append-drop}
use Rattle.std.specs.Prelude.{codes}
use Rattle.std.specs.Str.Pattern.{RFindsChar, SplitsAroundMatch}
use Rattle.std.proofs.lemmas.Str.Pattern.{NoCharPasses-char, drop_at_char}
use Rattle.folder.specs.Files.{IsFileName, IsIn}

plain-from : (name : List ℕ) → ((i : ℕ) → i < length name → get_or name i 0 ≢ 47) → IsFileName name
plain-from [] plain = tt
plain-from (byte ∷ name) plain = (plain 0 (omega arith), plain-from name (λ i l. plain (suc i) (omega arith)))

pub splits : (path front back : List ℕ) → SplitsAroundMatch (RFindsChar 47) path front back → IsIn front path
splits path front back split =
    let i : ℕ = split.0 in
    let j : ℕ = split.1 in
    let finds = split.2 in
    let before : front ≡ take i path = split.3 in
    let behind : back ≡ drop j path = split.4 in
    let cut : drop i path ≡ 47 ∷ drop j path = drop_at_char 47 path i j finds.1 (omega arith) in
    record {
      name = back;
      plain = plain-from back (λ k l same. NoCharPasses-char 47 (drop j path) k finds.0 (omega arith) (omega (arith, ap length behind)) (ap (λ (xs : List ℕ). get_or xs k 0) (sym behind) ∙ same));
      is = sym (take-append-drop i path) ∙ ap (λ (xs : List ℕ). take i path ++ xs) (cut ∙ ap (λ (xs : List ℕ). 47 ∷ xs) (sym behind)) ∙ ap (λ (xs : List ℕ). xs ++ 47 ∷ back) (sym before) ∙ sym (append_assoc front (codes "/") back);
    }

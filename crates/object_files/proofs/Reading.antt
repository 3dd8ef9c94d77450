-- Names that are read by their starts and ends.
use Rattle.std.proofs.Common.{◌≡◌, ◌≢◌, ◌++◌, ℕ, List, Option, None, Some, Result, Ok, Err, Bor, sym, ap, subst, ◌∙◌}
use Rattle.std.specs.Prelude.{MatchOption, IfOk}
use Rattle.std.proofs.lemmas.List.{append_cancel_left, append_cancel_right, append_assoc}
use Rattle.ice_base.specs.Names.{IsRefName}
use Rattle.ice_ids.specs.declared.Id12.{Id12}
use Rattle.ice_ids.specs.declared.IdFault.{IdFault}
use Rattle.ice_ids.specs.Text.{IsId12, id12_text, id12_of_text}
use Rattle.ice_ids.proofs.TextLaws.{id12_of_text-id12_text, id12_of_text-Ok}

not_both : {A E : Type 0} (r : Result A E) (x : A) (e : E) → r ≡ Ok x → r ≡ Err e → ⊥
not_both r x e ok err = cc

pub between_found : (text start rest end : List ℕ) (r : Option (Bor (List ℕ))) → text ≡ start ++ rest → MatchOption r ((front : List ℕ) → rest ≢ front ++ end) (λ front. rest ≡ front.now ++ end) → MatchOption r ((middle : List ℕ) → text ≢ start ++ middle ++ end) (λ middle. text ≡ start ++ middle.now ++ end)
between_found text start rest end None is none = λ middle same. none middle (append_cancel_left start rest (middle ++ end) (sym is ∙ same ∙ append_assoc start middle end))
between_found text start rest end (Some front) is found = is ∙ ap (λ (xs : List ℕ). start ++ xs) found ∙ sym (append_assoc start front.now end)

pub id_found : (text start rest : List ℕ) (id : Id12) → text ≡ start ++ rest → id12_of_text rest ≡ Ok id → IsId12 id × (text ≡ start ++ id12_text id)
id_found text start rest id is read =
    let known : (rest ≡ id12_text id) × IsId12 id = id12_of_text-Ok rest id read in
    (known.1, is ∙ ap (λ (xs : List ℕ). start ++ xs) known.0)

pub id_missing : (text start rest : List ℕ) (fault : IdFault) → text ≡ start ++ rest → id12_of_text rest ≡ Err fault → (id : Id12) → IsId12 id → text ≢ start ++ id12_text id
id_missing text start rest fault is read id known same =
    let spelled : rest ≡ id12_text id = append_cancel_left start rest (id12_text id) (sym is ∙ same) in
    not_both (id12_of_text rest) id fault (ap id12_of_text spelled ∙ id12_of_text-id12_text id known) read

pub name_found : {E : Type 0} (text start middle end : List ℕ) (r : Result (Option (List ℕ)) E) → text ≡ start ++ middle ++ end → IfOk r (λ found. MatchOption found (¬ IsRefName middle) (λ name. (name ≡ middle) × IsRefName middle)) → IfOk r (λ found. MatchOption found ((name : List ℕ) → IsRefName name → text ≢ start ++ name ++ end) (λ name. IsRefName name × (text ≡ start ++ name ++ end)))
name_found text start middle end (Ok None) is none = λ name known same.
    let starts : start ++ middle ≡ start ++ name = append_cancel_right (start ++ middle) (start ++ name) end (sym is ∙ same) in
    none (subst IsRefName (sym (append_cancel_left start middle name starts)) known)
name_found text start middle end (Ok (Some name)) is found =
    (subst IsRefName (sym found.0) found.1, is ∙ ap (λ (xs : List ℕ). start ++ xs ++ end) (sym found.0))
name_found text start middle end (Err fault) is found = tt

-- What holds of each event of a journal, where its place in the journal is known.
use Rattle.std.proofs.Common.{◌≡◌, List, [], ◌∷◌, ◌++◌, refl, sym, ◌∙◌, subst, append_assoc, append-nil}
use Rattle.object_store.specs.declared.events.Event.{Event}
use Rattle.store_api.specs.Journal.{Each}

module _ (P Q : List Event → Event → Type 0) (old whole : List Event) (follows : (since : List Event) (event : Event) (rest : List Event) → whole ≡ since ++ event ∷ rest → P (old ++ since) event → Q (old ++ since) event) where
  from : (seen xs : List Event) → whole ≡ seen ++ xs → Each P (old ++ seen) xs → Each Q (old ++ seen) xs
  unfolding Each
  from seen [] is p = tt
  from seen (x ∷ xs) is p = (
    follows seen x xs is p.0,
    subst (λ (j : List Event). Each Q j xs) (sym (append_assoc old seen (x ∷ [])))
        (from (seen ++ x ∷ []) xs (is ∙ sym (append_assoc seen (x ∷ []) xs)) (subst (λ (j : List Event). Each P j xs) (append_assoc old seen (x ∷ [])) p.1)),
  )

  -- what follows from it at each place
  pub Each-where : Each P old whole → Each Q old whole
  Each-where p = subst (λ (j : List Event). Each Q j whole) (append-nil old) (from [] whole refl (subst (λ (j : List Event). Each P j whole) (sym (append-nil old)) p))

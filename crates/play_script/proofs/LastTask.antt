-- The last task of a list.
use Rattle.std.proofs.Common.{◌≡◌, List, [], ◌∷◌, ◌++◌, refl, ap}
use Rattle.play_script.specs.declared.scripts.Line.{Line}
use Rattle.play_script.specs.declared.scripts.Task.{Task}
use Rattle.play_script.specs.Places.{onto_last}

pub onto_last_append : (l : Line) (ts : List Task) (t : Task) → onto_last l (ts ++ t ∷ []) ≡ ts ++ record t { body = t.body ++ l ∷ [] } ∷ []
onto_last_append l [] t = refl
onto_last_append l (u ∷ []) t = refl
onto_last_append l (u ∷ v ∷ ts) t = ap (λ us. u ∷ us) (onto_last_append l (v ∷ ts) t)

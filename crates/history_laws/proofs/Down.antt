-- Chains of parents that are good down to a stop, or to their end.
use Rattle.std.proofs.Common.{◌≡◌, inl, inr, ◌∙◌}
use Rattle.std.specs.Prelude.{Option, Some, None}
use Rattle.ice_ids.specs.declared.Id12.{Id12}
use Rattle.reach.specs.Chains.{StaysOrCut}
use Rattle.ice_ids.specs.Text.{initial_id}

pub data Down (parent : Id12 → Option Id12) (Good Stop : Id12 → Type 0) : Id12 → Type 0 where
  stop : {id : Id12} → Stop id → Down parent Good Stop id
  bottom : {id : Id12} → Good id → parent id ≡ None → Down parent Good Stop id
  next : {id below : Id12} → Good id → parent id ≡ Some below → Down parent Good Stop below → Down parent Good Stop id

-- where parents stay, or are cut, and the initial snapshot is a stop
pub down-map : (f g : Id12 → Option Id12) (Good Stop Fine Halt : Id12 → Type 0) → ((id : Id12) → Good id → Fine id) → ((id : Id12) → Stop id → Halt id) → ((id : Id12) → Good id → StaysOrCut (f id) (g id)) → Halt initial_id
    → {id : Id12} → Down f Good Stop id → Down g Fine Halt id
down-map f g Good Stop Fine Halt fine halt same at (stop {id = id} h) = stop (halt id h)
down-map f g Good Stop Fine Halt fine halt same at (bottom {id = id} h e) = elim (same id h) [
  | inl s ↦ bottom (fine id h) (s ∙ e)
  | inr s ↦ next (fine id h) s (stop at)
]
down-map f g Good Stop Fine Halt fine halt same at (next {id = id} h e d) =
    let rest = down-map f g Good Stop Fine Halt fine halt same at d in
    elim (same id h) [
      | inl s ↦ next (fine id h) (s ∙ e) rest
      | inr s ↦ next (fine id h) s (stop at)
    ]

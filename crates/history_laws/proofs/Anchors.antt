-- A ref reaches the base of an anchored session.
use Rattle.std.proofs.Common.{List, [], ◌∷◌, ◌++◌, sym, subst, append_assoc, append-nil}
use Rattle.ice_ids.specs.declared.Id12.{Id12}
use Rattle.object_store.specs.declared.keys.Key.{Key}
use Rattle.object_store.specs.declared.keys.Key.TheVariants.{Snapshot}
use Rattle.object_store.specs.declared.events.Event.{Event}
use Rattle.store_api.specs.Journal.{Each}
use Rattle.history_laws.specs.Refs.{RefReaches, StillReaches}
use Rattle.history_laws.specs.Laws.{AnchoredReached}

reaches-along : (ref : Key) (base : Id12) (journal more : List Event) → RefReaches journal ref (Snapshot base) → Each (StillReaches ref base) journal more → RefReaches (journal ++ more) ref (Snapshot base)
unfolding Each
reaches-along ref base journal [] r always = subst (λ (j : List Event). RefReaches j ref (Snapshot base)) (sym (append-nil journal)) r
reaches-along ref base journal (x ∷ xs) r always = subst (λ (j : List Event). RefReaches j ref (Snapshot base)) (append_assoc journal (x ∷ []) xs) (reaches-along ref base (journal ++ x ∷ []) xs always.0 always.1)

pub anchored-reached : AnchoredReached
anchored-reached ref base since journal a = subst (λ (j : List Event). RefReaches j ref (Snapshot base)) (sym a.is) (reaches-along ref base since a.more a.at_first a.always)

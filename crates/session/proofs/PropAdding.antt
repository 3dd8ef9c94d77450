-- What a property that is added answers and leaves.
use Rattle.std.proofs.Common.{◌≡◌, inl, inr, ℕ, true, false, List, refl, sym, ap, subst, ◌∙◌}
use Rattle.std.specs.Prelude.{Option, None, Some, Result, Ok, Err}
use Rattle.std.specs.BTreeMap.{insert_entry}
use Rattle.snapshot_file.specs.declared.properties.PropFault.{PropFault}
use Rattle.snapshot_file.specs.declared.properties.PropFault.TheVariants as P
use Rattle.snapshot_file.specs.Props.{name_cmp, prop_fault, RefusesProp}
use Rattle.store_api.specs.declared.machines.Refusal.{Refusal}
use Rattle.store_api.specs.declared.machines.Refusal.TheVariants as R
use Rattle.session.specs.Sessions.{SessionState, writes}
use Rattle.session.specs.Editing.{Leaves, unless_unfit, with_prop, prop_added}
use Rattle.session.specs.inside.Props.{refusal_of_prop}
use Rattle.session.proofs.Refusing.{unwritten, written}

abbrev Pairs : Type 0
Pairs = List (List ℕ × List ℕ)

abbrev with_props : SessionState → Pairs → SessionState
with_props s props = record s { props = props }

-- the first refusal is told, unless memory ran out
told : (expected : Result SessionState Refusal) (s : SessionState) (props : Pairs) (name value : List ℕ) (fault : PropFault) → RefusesProp props name value fault → (prop_fault props name value ≡ Some fault → expected ≡ Err (R.BadProp fault)) → Leaves expected s (Err (refusal_of_prop fault)) s
told expected s props name value P.NoMemory r k = refl
told expected s props name value P.Name (inl e) k = (k e, refl)
told expected s props name value P.Name (inr none) k = absurd cc
told expected s props name value P.Value (inl e) k = (k e, refl)
told expected s props name value P.Value (inr none) k = absurd cc
told expected s props name value P.Twice (inl e) k = (k e, refl)
told expected s props name value P.Twice (inr none) k = absurd cc
told expected s props name value P.Many (inl e) k = (k e, refl)
told expected s props name value P.Many (inr none) k = absurd cc

module _ (s : SessionState) (name value : List ℕ) where
  abbrev with_it : Result SessionState Refusal
  with_it = Ok (with_prop s name value)

  pub prop-read_only : writes s ≡ false → prop_added s name value ≡ Err R.ReadOnly
  unfolding prop_added
  prop-read_only e = unwritten (writes s) (unless_unfit (prop_fault s.props name value) with_it) e

  pub prop-refused : (after : Pairs) (fault : PropFault) → writes s ≡ true → RefusesProp s.props name value fault → after ≡ s.props → Leaves (prop_added s name value) s (Err (refusal_of_prop fault)) (with_props s after)
  unfolding prop_added
  prop-refused after fault w r same =
      subst (λ (props : Pairs). Leaves (prop_added s name value) s (Err (refusal_of_prop fault)) (with_props s props)) (sym same)
      (told (prop_added s name value) s s.props name value fault r (λ e. written (writes s) _ w ∙ ap (λ (o : Option PropFault). unless_unfit o with_it) e))

  pub prop-done : (after : Pairs) → writes s ≡ true → prop_fault s.props name value ≡ None → after ≡ insert_entry name_cmp s.props name value → prop_added s name value ≡ Ok (with_props s after)
  unfolding prop_added
  prop-done after w fit is = written (writes s) _ w ∙ ap (λ (o : Option PropFault). unless_unfit o with_it) fit ∙ sym (ap (λ (props : Pairs). Ok (with_props s props)) is)

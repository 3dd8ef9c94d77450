-- What refuses a set before it takes memory.
use Rattle.std.proofs.Common.{◌≡◌, ℕ, Bool, true, false, List, sym, subst}
use Rattle.std.specs.Prelude.{Option, Some, None, Result, Ok, Err}
use Rattle.zarr_tree.specs.declared.edit.EditFault.{EditFault}
use Rattle.zarr_changes.specs.Sets.{set_refusal}
use Rattle.store_api.specs.declared.machines.Refusal.{Refusal}
use Rattle.store_api.specs.declared.machines.Refusal.TheVariants.{ReadOnly}
use Rattle.session.specs.declared.setting.Setting.{Setting}
use Rattle.session.specs.Sessions.{SessionState, nodes_seen, writes}
use Rattle.session.specs.Editing.{if_writes, refusal_of_edit, unless_refused}
use Rattle.session.specs.Placing.{set_allowed}
use Rattle.session.specs.Setting.{SetsOutright}

module _ (s : SessionState) (p i : List ℕ) (len : ℕ) (result : Result Setting (SessionState × Refusal)) where
  abbrev refusal : Option EditFault
  refusal = set_refusal (nodes_seen s) p i len

  abbrev AsAllowed : (w : Bool) → Option EditFault → Type 0
  AsAllowed w o = SetsOutright (if_writes w (unless_refused o (Ok (tt {0})))) s result

  pub outright_reading : writes s ≡ false → result ≡ Err (s, ReadOnly) → SetsOutright (set_allowed s p i len) s result
  outright_reading w is = subst (λ (b : Bool). AsAllowed b refusal) (sym w) is

  pub outright_refused : (fault : EditFault) → writes s ≡ true → refusal ≡ Some fault → result ≡ Err (s, refusal_of_edit fault) → SetsOutright (set_allowed s p i len) s result
  outright_refused fault w e is = subst (λ (b : Bool). AsAllowed b refusal) (sym w) (subst (λ (o : Option EditFault). AsAllowed true o) (sym e) is)

  pub outright_taken : writes s ≡ true → refusal ≡ None → SetsOutright (set_allowed s p i len) s result
  outright_taken w e = subst (λ (b : Bool). AsAllowed b refusal) (sym w) (subst (λ (o : Option EditFault). AsAllowed true o) (sym e) tt)

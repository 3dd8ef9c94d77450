-- What comes before an edit.
use Rattle.std.proofs.Common.{◌≡◌, Bool, true, false, ap, ◌∙◌}
use Rattle.std.specs.Prelude.{Option, None, Some, Result, Err}
use Rattle.zarr_meta.specs.declared.faults.MetaFault.{MetaFault}
use Rattle.zarr_tree.specs.declared.edit.EditFault.{EditFault}
use Rattle.store_api.specs.declared.machines.Refusal.{Refusal}
use Rattle.store_api.specs.declared.machines.Refusal.TheVariants as R
use Rattle.session.specs.Editing.{if_writes, unless_bad, unless_refused, refusal_of_edit}

pub unwritten : {A : Type 0} (w : Bool) (r : Result A Refusal) → w ≡ false → if_writes w r ≡ Err R.ReadOnly
unwritten w r e = ap (λ (b : Bool). if_writes b r) e

pub written : {A : Type 0} (w : Bool) (r : Result A Refusal) → w ≡ true → if_writes w r ≡ r
written w r e = ap (λ (b : Bool). if_writes b r) e

pub faulty : {A : Type 0} (w : Bool) (o : Option MetaFault) (r : Result A Refusal) (bad : MetaFault) → w ≡ true → o ≡ Some bad → if_writes w (unless_bad o r) ≡ Err (R.BadMeta bad)
faulty w o r bad e f = written w (unless_bad o r) e ∙ ap (λ (x : Option MetaFault). unless_bad x r) f

pub allowed : {A : Type 0} (w : Bool) (o : Option MetaFault) (r : Result A Refusal) → w ≡ true → o ≡ None → if_writes w (unless_bad o r) ≡ r
allowed w o r e f = written w (unless_bad o r) e ∙ ap (λ (x : Option MetaFault). unless_bad x r) f

pub refused_by : {A : Type 0} (o : Option EditFault) (r : Result A Refusal) (fault : EditFault) → o ≡ Some fault → unless_refused o r ≡ Err (refusal_of_edit fault)
refused_by o r fault e = ap (λ (x : Option EditFault). unless_refused x r) e

pub taken : {A : Type 0} (o : Option EditFault) (r : Result A Refusal) → o ≡ None → unless_refused o r ≡ r
taken o r e = ap (λ (x : Option EditFault). unless_refused x r) e

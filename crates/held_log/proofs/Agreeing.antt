-- Holding a file and reading it agree.
use Rattle.std.proofs.Common.{◌≡◌, ℕ, List, Result, Ok, Err, sym, ap, ◌∙◌, inl, inr}
use Rattle.flat_tables.specs.declared.fault.FileFault.{FileFault}
use Rattle.txn_file.specs.declared.log.TxnFile.{TxnFile}
use Rattle.txn_file.specs.Logs.{txn_of}
use Rattle.held_manifest.proofs.Checked.{ok_same}
use Rattle.held_log.specs.Laws.{HeldLaw}

not_both : {A : Type 0} (r : Result A FileFault) (x : A) (fault : FileFault) → r ≡ Ok x → r ≡ Err fault → ⊥
not_both r x fault is other = let e : Ok x ≡ Err fault = sym is ∙ other in cc

err_same : {A : Type 0} (x y : FileFault) → (let r : Result A FileFault = Err x in r) ≡ Err y → x ≡ y
err_same x y e = cc

came_back : (file other : List ℕ) (fault told : FileFault) → other ≡ file → told ≡ fault → (let r : Result TxnFile (List ℕ × FileFault) = Err (other, told) in r) ≡ Err (file, fault)
came_back file other fault told same is = ap (λ (f : List ℕ). Err (f, told)) same ∙ ap (λ (e : FileFault). Err (file, e)) is

pub agreeing : HeldLaw
agreeing file (Ok log) (Ok held) reads holds = ap (λ (m : TxnFile). Ok m) (ok_same held log (sym holds ∙ reads))
agreeing file (Ok log) (Err back) reads holds = absurd (not_both (txn_of file) log back.1 reads holds.1)
agreeing file (Err fault) held (inl memory) holds = inl memory
agreeing file (Err fault) (Ok held) (inr is) holds = absurd (not_both (txn_of file) held fault holds is)
agreeing file (Err fault) (Err back) (inr is) holds = inr (came_back file back.0 fault back.1 holds.0 (err_same back.1 fault (sym holds.1 ∙ is)))

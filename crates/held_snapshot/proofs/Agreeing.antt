-- Holding a file and reading it agree.
use Rattle.std.proofs.Common.{◌≡◌, ℕ, List, Result, Ok, Err, sym, ap, ◌∙◌, inl, inr}
use Rattle.flat_tables.specs.declared.fault.FileFault.{FileFault}
use Rattle.snapshot_file.specs.declared.snapshot.SnapshotFile.{SnapshotFile}
use Rattle.snapshot_file.specs.Snapshots.{snapshot_of}
use Rattle.held_manifest.proofs.Checked.{ok_same}
use Rattle.held_snapshot.specs.Laws.{HeldLaw}

not_both : {A : Type 0} (r : Result A FileFault) (x : A) (fault : FileFault) → r ≡ Ok x → r ≡ Err fault → ⊥
not_both r x fault is other = let e : Ok x ≡ Err fault = sym is ∙ other in cc

err_same : {A : Type 0} (x y : FileFault) → (let r : Result A FileFault = Err x in r) ≡ Err y → x ≡ y
err_same x y e = cc

came_back : (file other : List ℕ) (fault told : FileFault) → other ≡ file → told ≡ fault → (let r : Result SnapshotFile (List ℕ × FileFault) = Err (other, told) in r) ≡ Err (file, fault)
came_back file other fault told same is = ap (λ (f : List ℕ). Err (f, told)) same ∙ ap (λ (e : FileFault). Err (file, e)) is

pub agreeing : HeldLaw
agreeing file (Ok snapshot) (Ok held) reads holds = ap (λ (s : SnapshotFile). Ok s) (ok_same held snapshot (sym holds ∙ reads))
agreeing file (Ok snapshot) (Err back) reads holds = absurd (not_both (snapshot_of file) snapshot back.1 reads holds.1)
agreeing file (Err fault) held (inl memory) holds = inl memory
agreeing file (Err fault) (Ok held) (inr is) holds = absurd (not_both (snapshot_of file) held fault holds is)
agreeing file (Err fault) (Err back) (inr is) holds = inr (came_back file back.0 fault back.1 holds.0 (err_same back.1 fault (sym holds.1 ∙ is)))

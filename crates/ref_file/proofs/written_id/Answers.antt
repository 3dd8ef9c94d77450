use Rattle.std.proofs.Common.{◌≡◌, ◌∙◌, sym}
use Rattle.std.proofs.lemmas.Slice.Eq.{bytes_eq-Decides}
use Rattle.ref_file.proofs.Back.{written_RefersTo}
use Rattle.ref_file.proofs.written_id.Goals as goal

-- src/lib.rt:41:1
pub returns-then-eq : goal.returns-then-eq
returns-then-eq c =
    let same : c.args.file.now ≡ c.as_slice.result.now = (bytes_eq-Decides c.args.file.now c.as_slice.result.now).0 (sym c.if-eq.ensures) in
    written_RefersTo c.args.file.now _ c.in-Ok.id c.in-Ok.ensures (same ∙ c.as_slice.ensures ∙ c.ref_write.ensures)

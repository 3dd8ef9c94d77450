use Rattle.std.proofs.Common.{◌≡◌, Err}
use Rattle.script_values.specs.Parts.{◌&◌}
use Rattle.script_calls.specs.Forms.{array_of}
use Rattle.script_values.proofs.Earliest.{made_fault}
use Rattle.script_calls.proofs.forms.array_in.Goals as goal

pub returns-in-Err : goal.returns-in-Err
unfolding array_of
returns-in-Err c =
    let fault : ((c.in_ok-shape.shape & c.in_ok-chunks.chunks) & c.fill_in.result) ≡ Err c.in-Err.kind = cc in
    rw (c.in_ok-data_type.ensures, ← c.in_ok-shape.ensures, ← c.in_ok-chunks.ensures, ← c.fill_in.ensures) (made_fault _ _ _ _ _ _ fault)

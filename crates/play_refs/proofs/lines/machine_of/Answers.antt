use Rattle.play_refs.proofs.NewMachines.{new-made, reset-made, tag-made, log-made}
use Rattle.play_refs.proofs.lines.machine_of.Goals as goal

pub returns-in_ok-copy-in-Branch-2 : goal.returns-in_ok-copy-in-Branch-2
returns-in_ok-copy-in-Branch-2 c =
    let e = c.new-machine.ensures in
    new-made c.new-machine.result c.args.call.now c.in-Branch.name c.in_ok-copy-in-Branch.field-0 c.in-Branch.at c.in_ok-copy-in-Branch-2.field-0 c.in-Branch.is c.in_ok-copy-in-Branch.ensures c.in_ok-copy-in-Branch-2.ensures e.program e.few

pub returns-in_ok-copy-in-Reset-2 : goal.returns-in_ok-copy-in-Reset-2
returns-in_ok-copy-in-Reset-2 c =
    let e = c.new-machine-in-Reset.ensures in
    reset-made c.new-machine-in-Reset.result c.args.call.now c.in-Reset.name c.in_ok-copy-in-Reset.field-0 c.in-Reset.at c.in_ok-copy-in-Reset-2.field-0 c.in-Reset.is c.in_ok-copy-in-Reset.ensures c.in_ok-copy-in-Reset-2.ensures e.program e.few

pub returns-in_ok-copy-in-Tag-2 : goal.returns-in_ok-copy-in-Tag-2
returns-in_ok-copy-in-Tag-2 c =
    let e = c.new-machine-in-Tag.ensures in
    tag-made c.new-machine-in-Tag.result c.args.call.now c.in-Tag.name c.in_ok-copy-in-Tag.field-0 c.in-Tag.at c.in_ok-copy-in-Tag-2.field-0 c.in-Tag.is c.in_ok-copy-in-Tag.ensures c.in_ok-copy-in-Tag-2.ensures e.program e.few

pub returns-in_ok-copy-in-Log : goal.returns-in_ok-copy-in-Log
returns-in_ok-copy-in-Log c =
    let e = c.new.ensures in
    log-made c.new.result c.args.call.now c.in-Log.at c.in_ok-copy-in-Log.field-0 c.in-Log.is c.in_ok-copy-in-Log.ensures e.program e.few

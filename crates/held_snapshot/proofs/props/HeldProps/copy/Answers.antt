use Rattle.std.proofs.Common.{ℕ, List, None, ap, ◌∙◌, arith}
use Rattle.std.specs.BTreeMap.{insert_entry}
use Rattle.snapshot_file.specs.Props.{name_cmp}
use Rattle.held_snapshot.proofs.Made.{take_whole}
use Rattle.held_snapshot.proofs.Added.{added}
use Rattle.held_snapshot.proofs.props.HeldProps.copy.Goals as goal

pub loop-i-preserved : goal.loop-i-preserved
loop-i-preserved c =
    let xs = c.args.self.now in
    let name = c.at.result.0.now in
    let value = c.at.result.1.now in
    c.in-Ok.ensures.added ∙ ap (λ (ps : List (List ℕ × List ℕ)). insert_entry name_cmp ps name value) c.loop-i.invariant ∙ added None xs c.loop-i.i name value c.len-i-end.ensures.rule.ascend c.at.ensures

pub returns : goal.returns
returns c = c.loop-i.invariant ∙ take_whole c.args.self.now c.loop-i.i (omega arith)

use Rattle.std.proofs.Common.{◌∙◌, ◌++◌, List, append-nil, append_assoc, sym, ap, arith}
use Rattle.snapshot_file.specs.declared.snapshot.ManifestInfo.{ManifestInfo}
use Rattle.held_snapshot.proofs.Made.{take_more, take_whole}
use Rattle.changed_snapshot.proofs.files.push_files.Goals as goal

pub loop-at-init : goal.loop-at-init
loop-at-init c = sym (append-nil c.args.all.now.items)

pub loop-at-preserved : goal.loop-at-preserved
loop-at-preserved c =
    rw (c.in_ok-push.ensures.items, c.loop-at.invariant, append_assoc)
    (ap (λ (xs : List ManifestInfo). c.args.all.now.items ++ xs) (take_more c.args.files.now c.loop-at.at c.at.result c.at.ensures))

pub returns : goal.returns
returns c = c.loop-at.invariant ∙ ap (λ (xs : List ManifestInfo). c.args.all.now.items ++ xs) (take_whole c.args.files.now c.loop-at.at (omega (arith, c.len-at-end.ensures.count)))

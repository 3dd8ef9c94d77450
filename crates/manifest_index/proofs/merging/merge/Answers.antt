use Rattle.std.proofs.Common.{sym, Some, None, ◌∙◌}
use Rattle.manifest_index.proofs.Steps.{merged_is}
use Rattle.manifest_index.proofs.MergedLaws.{refs_are, none_with, some_with}
use Rattle.manifest_index.proofs.Calls.{is_after}
use Rattle.manifest_index.proofs.merging.merge.Goals as goal

pub returns-then-is_empty : goal.returns-then-is_empty
returns-then-is_empty c =
    let after = is_after c.args.rank c.args.node c.args.old.now c.args.change.items None c.in_ok-chunks.ensures.sized c.requires
    (none_with c.args.node c.in_ok-refs.refs (sym c.is_empty.ensures ∙ c.if-is_empty.true)
    ∙ refs_are c.args.rank c.args.node c.args.old.now c.args.change.items c.enter_changes.new.chunks c.in_ok-refs.refs c.in_ok-refs.ensures
    (λ q. merged_is c.args.rank c.args.node c.args.old.now c.args.change.items q _ _ (c.in_ok-enter_changes.ensures q) (c.in_ok-chunks.ensures.found q))) in
    record { is = after.is; merged = after.merged; ranks = after.ranks; low = after.low }

pub returns : goal.returns
returns c =
    let after = is_after c.args.rank c.args.node c.args.old.now c.args.change.items (Some (record { node = c.args.node; refs = c.in_ok-refs.refs })) c.in_ok-chunks.ensures.sized c.requires
    (some_with c.args.node c.in_ok-refs.refs (sym c.is_empty.ensures ∙ c.if-is_empty.false)
    ∙ refs_are c.args.rank c.args.node c.args.old.now c.args.change.items c.enter_changes.new.chunks c.in_ok-refs.refs c.in_ok-refs.ensures
    (λ q. merged_is c.args.rank c.args.node c.args.old.now c.args.change.items q _ _ (c.in_ok-enter_changes.ensures q) (c.in_ok-chunks.ensures.found q))) in
    record { is = after.is; merged = after.merged; ranks = after.ranks; low = after.low }

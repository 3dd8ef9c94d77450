use Rattle.std.proofs.Common.{◌∙◌, ap, option_map}
use Rattle.zarr_tree.specs.Touched.{lists}
use Rattle.zarr_changes.proofs.Walking.{met_up, gone_met, met_next}
use Rattle.conflicts.proofs.sides.Sides.is_gone.Goals as goal

pub loop-next-init : goal.loop-next-init
loop-next-init g c = gone_met (lists c.args.self.now.held.dropped) c.args.self.now.after c.args.path.now

pub loop-next-preserved : goal.loop-next-preserved
loop-next-preserved g c =
    met_next (lists c.args.self.now.held.dropped) c.args.self.now.after _ c.in-Some.text.now c.args.path.now c.is_dropped.result
    (c.loop-next.invariant ∙ ap (λ next. met_up (lists c.args.self.now.held.dropped) c.args.self.now.after (option_map (λ text. text.now) next) c.args.path.now) c.in-Some.is)
    c.is_dropped.ensures c.if-is_dropped.false c.before_slash-next.ensures.value

use Rattle.std.proofs.Common.{sym, subst}
use Rattle.two_stores.specs.Pairs.{Took}
use Rattle.mirror.specs.declared.mirror.Stage.{Stage}
use Rattle.mirror.specs.Programs.{Answer}
use Rattle.mirror.specs.inside.Working.{work_of, stage_rest, mirror_rest}
use Rattle.mirror.proofs.Staging.{take-stage, put-stage, same-stage}
use Rattle.mirror.proofs.mirror.MirrorPairMachine.answer.Goals as goal

pub returns-in-Take-clause-took : goal.returns-in-Take-clause-took
returns-in-Take-clause-took c =
    let m = c.args.self.now in
    subst (λ (s : Stage). Took (stage_rest s m (work_of m)) c.args.reply (mirror_rest c.on_take.new.self)) (sym c.in-Take.is) (subst (λ (p : Answer). Took p c.args.reply (mirror_rest c.on_take.new.self)) (take-stage c.in-Take.object m) c.on_take.ensures.took)

pub returns-in-Put-clause-took : goal.returns-in-Put-clause-took
returns-in-Put-clause-took c =
    let m = c.args.self.now in
    subst (λ (s : Stage). Took (stage_rest s m (work_of m)) c.args.reply (mirror_rest c.on_put.new.self)) (sym c.in-Put.is) (subst (λ (p : Answer). Took p c.args.reply (mirror_rest c.on_put.new.self)) (put-stage c.in-Put.object m) c.on_put.ensures.took)

pub returns-in-Same-clause-took : goal.returns-in-Same-clause-took
returns-in-Same-clause-took c =
    let m = c.args.self.now in
    subst (λ (s : Stage). Took (stage_rest s m (work_of m)) c.args.reply (mirror_rest c.on_same.new.self)) (sym c.in-Same.is) (subst (λ (p : Answer). Took p c.args.reply (mirror_rest c.on_same.new.self)) (same-stage c.in-Same.object m) c.on_same.ensures.took)

pub returns-in-OverRef-clause-took : goal.returns-in-OverRef-clause-took
returns-in-OverRef-clause-took c =
    let m = c.args.self.now in
    subst (λ (s : Stage). Took (stage_rest s m (work_of m)) c.args.reply (mirror_rest c.on_over_ref.new.self)) (sym c.in-OverRef.is) (c.on_over_ref.ensures.took _)

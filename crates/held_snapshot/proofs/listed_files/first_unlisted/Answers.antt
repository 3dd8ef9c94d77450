use Rattle.std.proofs.Common.{Bool, false, ap, sym, ◌∙◌, arith}
use Rattle.std.specs.Prelude.{not}
use Rattle.snapshot_file.specs.Snapshots.{all_listed, first_unlisted}
use Rattle.held_snapshot.proofs.Found.{before_none, before_more, position_at, position_none}
use Rattle.held_snapshot.proofs.listed_files.first_unlisted.Goals as goal

pub loop-at-init : goal.loop-at-init
loop-at-init c = before_none (λ node. not (all_listed c.args.files.now node)) false c.args.nodes.now

pub returns-then-not-all_listed : goal.returns-then-not-all_listed
unfolding first_unlisted
returns-then-not-all_listed c =
    let test = ap (λ (b : Bool). not b) (sym c.all_listed.ensures ∙ c.if-not-all_listed.true) in
    sym (position_at (λ node. not (all_listed c.args.files.now node)) c.args.nodes.now c.loop-at.at c.at.result c.loop-at.invariant c.at.ensures test)

pub loop-at-preserved : goal.loop-at-preserved
loop-at-preserved c =
    let test = ap (λ (b : Bool). not b) (sym c.all_listed.ensures ∙ c.if-not-all_listed.false) in
    before_more (λ node. not (all_listed c.args.files.now node)) false c.args.nodes.now c.loop-at.at c.at.result c.loop-at.invariant c.at.ensures test

pub returns : goal.returns
unfolding first_unlisted
returns c = sym (position_none (λ node. not (all_listed c.args.files.now node)) c.args.nodes.now c.loop-at.at (omega (arith, c.len-at-end.ensures.count)) c.loop-at.invariant)

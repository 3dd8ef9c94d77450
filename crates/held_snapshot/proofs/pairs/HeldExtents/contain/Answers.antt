use Rattle.std.proofs.Common.{◌+◌, ◌≢◌, length, drop, get_or, sym, ◌∙◌, arith}
use Rattle.held_manifest.specs.LookUp.{within}
use Rattle.held_manifest.proofs.Within.{within_unequal}
use Rattle.held_snapshot.proofs.Contained.{next, inside, outside}
use Rattle.held_snapshot.proofs.pairs.HeldExtents.contain.Goals as goal

pub returns-then-len-index : goal.returns-then-len-index
returns-then-len-index c =
    let es = c.args.self.now in
    let ks = c.args.index.now in
    let other : length es ≢ length ks = omega (arith, c.len.ensures, c.if-len-index.true) in
    sym (within_unequal es ks other)

pub returns-then-not-is_in : goal.returns-then-not-is_in
returns-then-not-is_in c =
    let es = c.args.self.now in
    let ks = c.args.index.now in
    let k = c.loop-k.k in
    let rest = within (drop (k + 1) es) (drop (k + 1) ks) in
    sym (sym c.loop-k.invariant ∙ next es ks k c.at.result 0 c.at.ensures (omega arith) ∙ outside c.at.result (get_or ks k 0) rest (sym c.is_in.ensures ∙ c.if-not-is_in.true))

pub loop-k-preserved : goal.loop-k-preserved
loop-k-preserved c =
    let es = c.args.self.now in
    let ks = c.args.index.now in
    let k = c.loop-k.k in
    let rest = within (drop (k + 1) es) (drop (k + 1) ks) in
    sym (sym c.loop-k.invariant ∙ next es ks k c.at.result 0 c.at.ensures (omega arith) ∙ inside c.at.result (get_or ks k 0) rest (sym c.is_in.ensures ∙ c.if-not-is_in.false))

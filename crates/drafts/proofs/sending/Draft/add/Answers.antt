use Rattle.std.proofs.Common.{◌≡◌, true, false, arith, rules}
use Rattle.std.proofs.lemmas.List.{take_all}
use Rattle.drafts.proofs.Taking.{took_none, took_on, took_as, took_failed, took_kept, next-piece, last-piece}
use Rattle.drafts.proofs.sending.Draft.add.Goals as goal

pub loop-at-init : goal.loop-at-init
loop-at-init g c = record { within = omega arith; took = took_none _ _ }

pub returns-then-self : goal.returns-then-self
returns-then-self g c =
    let failed : c.make_room.new.self.unwritten ≡ true = search rules in
    took_as (last-piece c.args.bytes.now c.loop-at.at) (took_on (took_on c.loop-at.invariant.took c.make_room.ensures.took) (took_failed _ _ _ failed))

pub loop-at-preserved : goal.loop-at-preserved
loop-at-preserved g c =
    let fine : c.make_room.new.self.unwritten ≡ false = search rules in
    record {
      within = omega (arith, c.loop-at.invariant.within, c.keep-at.ensures.count);
      took = took_as (next-piece c.args.bytes.now c.loop-at.at c.keep-at.result) (took_on (took_on c.loop-at.invariant.took c.make_room.ensures.took) (took_kept _ _ _ _ c.keep-at.ensures.kept fine));
    }

pub returns : goal.returns
returns g c = took_as (take_all c.loop-at.at c.args.bytes.now (omega arith)) c.loop-at.invariant.took

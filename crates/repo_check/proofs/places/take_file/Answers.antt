use Rattle.std.proofs.Common.{◌∙◌, sym, arith}
use Rattle.repo_check.proofs.Stepping.{file-passed, file-stops, files-over}
use Rattle.repo_check.proofs.places.take_file.Goals as goal

pub returns-then-not-has_file : goal.returns-then-not-has_file
returns-then-not-has_file c =
    let taken = c.in-Some.ensures in (
      c.loop-visit.invariant.left ∙ file-stops c.args.work.now.files c.loop-visit.place.files c.next.new.self.files c.in-Some.visit taken.0 (sym c.has_file.ensures ∙ c.if-not-has_file.true),
      taken.1 ∙ c.loop-visit.invariant.parent,
      omega (arith, taken.2, c.loop-visit.invariant.steps),
    )

pub loop-visit-preserved : goal.loop-visit-preserved
loop-visit-preserved c =
    let taken = c.in-Some.ensures in
    record {
      left = c.loop-visit.invariant.left ∙ file-passed c.args.work.now.files c.loop-visit.place.files c.next.new.self.files c.in-Some.visit taken.0 (sym c.has_file.ensures ∙ c.if-not-has_file.false);
      parent = taken.1 ∙ c.loop-visit.invariant.parent;
      steps = omega (arith, taken.2, c.loop-visit.invariant.steps);
    }

pub returns : goal.returns
returns c =
    let taken = c.in_default.ensures in
    rw taken.1 (c.loop-visit.invariant.left ∙ files-over c.args.work.now.files c.loop-visit.place.files taken.0, c.loop-visit.invariant.parent)

use Rattle.std.proofs.Common.{◌≡◌, Bool, subst, rules}
use Rattle.drafts.specs.Drafts.{Wrote}
use Rattle.drafts.proofs.Taking.{took_on, whole-by}
use Rattle.drafts.proofs.sending.Draft.finish.Goals as goal

pub returns : goal.returns
returns g c = λ begun at text blank took.
    let is : c.send.new.self.unwritten ≡ c.draft.inside.unwritten = search rules in
    subst (λ (failed : Bool). Wrote at (g.K.Sink.at c.send.new.to) text failed) is (whole-by begun _ at _ text blank (took_on took c.send.ensures.took) c.send.ensures.none)

use Rattle.std.proofs.Common.{ap}
use Rattle.object_store.specs.declared.keys.Part.{Part}
use Rattle.object_store.specs.declared.events.Op.TheVariants.{List as ListPart}
use Rattle.expiry.specs.inside.Registers.{part_of}
use Rattle.expiry.specs.inside.Expiring.{listed_told, listed_rest, expiring_rest}
use Rattle.expiry.proofs.StepsHeard.{listing-tells}
use Rattle.expiry.proofs.StepsPlay.{listing-goes, heard-acts}
use Rattle.expiry.proofs.going.step_listing.Goals as goal

pub returns-clause-acts : goal.returns-clause-acts
returns-clause-acts g c =
    heard-acts listed_told (listed_rest c.args.terms c.args.refs) _ (listing-goes c.args.terms c.args.refs) (g.S.Viewed.view c.args.store.now) (g.S.Viewed.view c.perform-answer.new.store) (expiring_rest c.args.terms c.after_listing.result)
    _ _ (ap (λ (part : Part). ListPart part) c.part.ensures) (listing-tells (part_of c.args.refs.phase)) c.perform-answer.result c.perform-answer.ensures.called c.perform-answer.ensures.fits c.perform-answer.ensures.answered
    c.listed_heard.result c.listed_heard.ensures c.after_listing.ensures.comes c.after_listing.ensures.blames

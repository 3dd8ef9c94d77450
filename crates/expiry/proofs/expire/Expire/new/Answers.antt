use Rattle.std.proofs.Common.{ap}
use Rattle.expiry.specs.inside.Registers.{Refs}
use Rattle.expiry.specs.inside.Expiring.{listing_rest}
use Rattle.expiry.proofs.expire.Expire.new.Goals as goal

pub returns : goal.returns
returns c = ap (λ (refs : Refs). listing_rest c.args.terms refs) c.new.ensures

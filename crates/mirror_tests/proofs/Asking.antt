-- Over stores that tell no journal anything may be asked.
use Rattle.std.proofs.Common.{◌≡◌, Bool, true, false, sym, ◌∙◌}
use Rattle.two_stores.specs.declared.side.Side.TheVariants.{From, To}
use Rattle.store_api.specs.Callers.{View}
use Rattle.two_stores.specs.Sides.{Both}
use Rattle.two_stores.specs.Pairs.{PairProg, Done, Ask, MayAsk}

pub may-untold : {A : Type 0} (p : PairProg A) (views : Both View) → views.from.caller.tells ≡ false → views.to.caller.tells ≡ false → MayAsk p views
may-untold (Done a) views from to = tt
may-untold (Ask From op starved next) views from to = λ tells. let both : true ≡ false = sym tells ∙ from in absurd cc
may-untold (Ask To op starved next) views from to = λ tells. let both : true ≡ false = sym tells ∙ to in absurd cc

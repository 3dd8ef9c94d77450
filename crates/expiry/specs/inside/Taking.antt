-- What comes next of a register.
use Rattle.std.specs.Prelude.{◌≡◌, [], ◌∷◌}
use Rattle.expiry.specs.declared.register.Turns.{Turns}
use Rattle.expiry.specs.declared.register.Turns.TheVariants.{Over, Next}
use Rattle.expiry.specs.inside.Registers.{Refs}

-- the first ref that is left is taken, if there is one
abbrev pub Takes : Refs → Turns → Type 0
Takes old (Over rest) = (old.keys ≡ []) × (rest ≡ old)
Takes old (Next key turn) = old ≡ record turn { keys = key ∷ turn.keys }

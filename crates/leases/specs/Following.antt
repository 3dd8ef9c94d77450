-- A play, and another one that its outcome gives. (Own.)
use Rattle.store_api.specs.Plays.{Play, Ended, Ask, Or}

-- the first, and then what follows its outcome
abbrev pub followed : {A B : Type 0} → Play A → (A → Play B) → Play B
followed (Ended a) f = f a
followed (Ask op starved next) f = Ask op (followed starved f) (λ reply. followed (next reply) f)
followed (Or p q) f = Or (followed p f) (followed q f)

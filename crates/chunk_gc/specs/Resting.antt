-- What a collection has still to do.
use Rattle.std.specs.Prelude.{ℕ}
use Rattle.store_api.specs.Plays.{Play}
use Rattle.chunk_gc.specs.declared.standing.Collected.{Collected}
use Rattle.chunk_gc.specs.declared.collect.Collect.{Collect}
use Rattle.chunk_gc.specs.inside.Collecting.{collecting_rest, collecting_left}

abbrev pub collect_rest : Collect → Play Collected
collect_rest c = collecting_rest c.state

-- how many steps are left at most
abbrev pub collect_left : Collect → ℕ
collect_left c = collecting_left c.state

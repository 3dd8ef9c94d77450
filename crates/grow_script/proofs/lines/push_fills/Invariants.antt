use Rattle.std.proofs.Common.{◌≡◌, ◌*◌, ◌++◌, string_bytes}
use Rattle.grow_script.specs.Draws.{after}
use Rattle.grow_script.specs.Script.{fill_lines}
use Rattle.grow_script.proofs.lines.push_fills.Given as goal

abbrev pub invariant-loop : goal.invariant-loop
invariant-loop l = record {
  text : string_bytes l.text ≡ string_bytes l.fn.text ++ fill_lines l.counter l.fn.draws.state;
  state : l.draws.state ≡ after (3 * l.counter) l.fn.draws.state;
}

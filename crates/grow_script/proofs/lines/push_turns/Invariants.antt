use Rattle.std.proofs.Common.{◌≡◌, ◌++◌, string_bytes}
use Rattle.grow_script.specs.Draws.{after}
use Rattle.grow_script.specs.Script.{drawn_turns}
use Rattle.grow_script.proofs.lines.push_turns.Given as goal

abbrev pub invariant-loop : goal.invariant-loop
invariant-loop l = record {
  text : string_bytes l.text ≡ string_bytes l.fn.text ++ drawn_turns l.tasks l.counter l.fn.draws.state;
  state : l.draws.state ≡ after l.counter l.fn.draws.state;
}

use Rattle.std.proofs.Common.{◌≡◌, ◌*◌, ◌++◌, string_bytes}
use Rattle.grow_script.specs.Draws.{after}
use Rattle.grow_script.specs.Script.{grow_tasks}
use Rattle.grow_script.proofs.lines.push_tasks.Given as goal

abbrev pub invariant-loop-before : goal.invariant-loop-before
invariant-loop-before l = record {
  text : string_bytes l.text ≡ string_bytes l.fn.text ++ grow_tasks l.before l.fn.draws.state;
  state : l.draws.state ≡ after (150 * l.before) l.fn.draws.state;
}

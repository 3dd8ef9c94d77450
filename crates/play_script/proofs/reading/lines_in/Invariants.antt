use Rattle.std.proofs.Common.{◌≡◌, ◌≤◌, ◌+◌, length}
use Rattle.script_values.specs.Words.{lines_of}
use Rattle.play_script.specs.Places.{most_tasks}
use Rattle.play_script.specs.Reading.{lines_from, empty}
use Rattle.play_script.specs.SoFar.{task_names}
use Rattle.play_script.proofs.reading.lines_in.Given as goal

abbrev pub invariant-loop-left : goal.invariant-loop-left
invariant-loop-left l = record {
  left : lines_from l.script l.number (lines_of l.left) ≡ lines_from empty 1 (lines_of l.fn.text);
  names : l.names ≡ task_names l.script.tasks;
  few : length l.script.tasks ≤ most_tasks;
  counted : l.number + length l.left ≤ 1048577;
}

abbrev pub decreases-loop-left : goal.decreases-loop-left
decreases-loop-left l = length l.left

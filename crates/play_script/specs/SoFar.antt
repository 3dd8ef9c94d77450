-- What the code has read so far, as the contracts of its own functions say it;
-- no public contract cites this.
use Rattle.std.specs.Prelude.{Bool, List, map}
use Rattle.std.specs.List.{list_any}
use Rattle.play_script.specs.declared.scripts.Task.{Task}
use Rattle.script_values.specs.Words.{Text}
use Rattle.script_values.specs.Values.{◌reads◌}

-- the names of the tasks read so far, and whether this is one of them
abbrev pub task_names : List Task → List Text
task_names tasks = map (λ t. t.name) tasks

abbrev pub is_among : List Text → Text → Bool
is_among names name = list_any (λ other. name reads other) names

-- Which tasks collect.
use Rattle.std.specs.Prelude.{Bool, true, false, List}
use Rattle.std.specs.List.{list_any}
use Rattle.script_calls.specs.declared.calls.Head.{Head}
use Rattle.script_calls.specs.declared.calls.Head.TheVariants.{Session, Refs}
use Rattle.script_calls.specs.declared.calls.Head.TheVariants.{Collect, Expire, Check}
use Rattle.play_script.specs.declared.scripts.Task.{Task}

abbrev pub is_collection : Head → Bool
is_collection (Session access) = false
is_collection Refs = false
is_collection (Collect cutoff) = true
is_collection (Expire cutoff drop_branches drop_tags) = false
is_collection Check = false

-- whether one of them does
abbrev pub has_collection : List Task → Bool
has_collection tasks = list_any (λ t. is_collection t.head) tasks

-- The line that `grow` prints (own).
use Rattle.std.specs.Prelude.{ℕ, List, ◌++◌, codes, decimal}
use Rattle.grow_script.specs.declared.summary.Summary.{Summary}

abbrev pub summary_text : Summary → List ℕ
summary_text s =
    codes "tasks " ++ decimal s.tasks ++ codes " committed " ++ decimal s.committed
    ++ codes " refused " ++ decimal s.refused ++ codes " events " ++ decimal s.events

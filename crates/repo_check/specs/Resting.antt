-- What a check has still to do.
use Rattle.std.specs.Prelude.{ℕ}
use Rattle.repo_check.specs.declared.check.Check.{Check}
use Rattle.repo_check.specs.Plays.{Answer}
use Rattle.repo_check.specs.inside.Working.{checking_rest, checking_left}

abbrev pub check_rest : Check → Answer
check_rest c = checking_rest c.state c.course

-- how many steps are left at most
abbrev pub check_left : Check → ℕ
check_left c = checking_left c.state c.course

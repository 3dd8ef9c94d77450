-- What the readers answer.
use Rattle.std.specs.Prelude.{◌≡◌, ⊤, Result, Ok, Err}
use Rattle.repo_objects.specs.declared.bad_objects.Bad.{Bad}
use Rattle.repo_objects.specs.declared.bad_objects.Unread.{Unread}
use Rattle.repo_objects.specs.declared.bad_objects.Unread.TheVariants as unread

-- the value, or why there is none; want of memory may come instead
abbrev pub Loads : {A : Type 0} → Result A Bad → Result A Unread → Type 0
Loads expected (Ok x) = expected ≡ Ok x
Loads expected (Err (unread.Bad bad)) = expected ≡ Err bad
Loads expected (Err unread.NoMemory) = ⊤

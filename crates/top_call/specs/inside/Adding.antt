-- Causes one after the other, as the contracts of the code's own functions say it;
-- no public contract cites this.
use Rattle.std.specs.Prelude.{◌||◌, List, [], ◌∷◌}
use Rattle.store_api.specs.declared.machines.Refusal.{Refusal}
use Rattle.store_api.specs.Program.{is_no_memory, is_fault}
use Rattle.top_call.specs.declared.statuses.Causes.{Causes}
use Rattle.top_call.specs.Telling.{is_other}

-- with one refusal more
abbrev pub added : Causes → Refusal → Causes
added c why = record c {
  no_memory = c.no_memory || is_no_memory why;
  store_fault = c.store_fault || is_fault why;
  refused = c.refused || is_other why;
}

-- with these refusals more
abbrev pub all_added : Causes → List Refusal → Causes
all_added c [] = c
all_added c (why ∷ whys) = all_added (added c why) whys

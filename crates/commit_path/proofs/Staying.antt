-- Wherever an opening may find no memory, its client has changed no branch.
use Rattle.std.proofs.Common.{List}
use Rattle.object_store.specs.declared.events.Event.{Event}
use Rattle.store_api.specs.Callers.{Caller}
use Rattle.store_api.specs.Plays.{Stays}
use Rattle.session.specs.Opening.{Asked, open_program}
use Rattle.store_api.specs.Telling.{ChangedNothing}
use Rattle.store_api.proofs.Happening.{got-nothing}
use Rattle.commit_path.proofs.Gets.{gets-stay}
use Rattle.commit_path.proofs.Opened.{open-gets}

pub open-stays : (by : Caller) (start : List Event) (a : Asked) (journal : List Event) → ChangedNothing by.number start journal → Stays (ChangedNothing by.number start) by (open_program a) journal
open-stays by start a journal c = gets-stay (ChangedNothing by.number start) by (got-nothing by start) (open_program a) journal (open-gets a) c

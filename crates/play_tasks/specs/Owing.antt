-- What a task owes of each operation of its client. (Own.)
use Rattle.std.specs.Prelude.{ℕ, List}
use Rattle.ice_ids.specs.declared.drawing.AnyIds.{AnyIds}
use Rattle.object_store.specs.declared.events.Op.{Op}
use Rattle.object_store.specs.declared.events.Op.TheVariants.{Get, PutNew, PutOver, Remove}
use Rattle.object_store.specs.declared.events.Op.TheVariants.{RemoveAt, List as ListPart}
use Rattle.object_store.specs.declared.events.Event.{Event}
use Rattle.store_api.specs.Journal.{IsPolite, IsGood}
use Rattle.store_api.specs.Telling.{ChangedNothing}
use Rattle.commit_path.specs.Owed.{Owes}
use Rattle.commit_path.specs.Own.{OwesOwn}
use Rattle.script_calls.specs.declared.calls.Head.{Head}
use Rattle.script_calls.specs.declared.calls.Head.TheVariants.{Session, Refs}
use Rattle.script_calls.specs.declared.calls.Head.TheVariants.{Collect, Expire, Check}
use Rattle.play_script.specs.declared.scripts.Task.{Task}
use Rattle.play_refs.specs.Telling.{OwesRefs}
use Rattle.chunk_gc.specs.Exact.{IsOwed}
use Rattle.expiry.specs.Owing.{IsOwed as OwesExpiry}
use Rattle.play_expire.specs.Playing.{terms_of}
use Rattle.repo_check.specs.Exact.{IsRead}
use Rattle.play_tasks.specs.Solving.{IsOfTask}
use Rattle.play_tasks.specs.Bases.{IsOpenAt}

-- a task that opens a session owes what clients owe who open and commit sessions, its own
-- being those of the task; one that calls on refs, what clients owe who call on refs; one that
-- collects, what its collection may make next by what its client's own events told it; one
-- that expires, what its expiry changes by what its client's own gets read; and one that
-- checks, gets and listings alone
abbrev pub OwesBy : Head → AnyIds → Task → (client : ℕ) → (start journal : List Event) → Op → Type 0
OwesBy (Session access) ids task client start journal op =
    Owes ids (IsOfTask ids task client start) journal op
OwesBy Refs ids task client start journal op = OwesRefs op
OwesBy (Collect cutoff) ids task client start journal op = IsOwed cutoff start journal client op
OwesBy (Expire cutoff drop_branches drop_tags) ids task client start journal op =
    OwesExpiry (terms_of cutoff drop_branches drop_tags) start journal client op
OwesBy Check ids task client start journal op = IsRead op

-- what this task owes, whose client has this number and whose session draws these ids if it opens
-- one, where it began at `start`
abbrev pub OwesOfTask : AnyIds → Task → (client : ℕ) → (start journal : List Event) → Op → Type 0
OwesOfTask ids task client start journal op = OwesBy task.head ids task client start journal op

-- a task that opens a session owes that its commits are its client's own, and puts no
-- object where its client put one
abbrev pub OwesOwnBy : Head → AnyIds → (client : ℕ) → (start journal : List Event) → Op → Type 0
OwesOwnBy (Session access) ids client start journal op = OwesOwn ids client start op journal
OwesOwnBy Refs ids client start journal op = Unit {0}
OwesOwnBy (Collect cutoff) ids client start journal op = Unit {0}
OwesOwnBy (Expire cutoff drop_branches drop_tags) ids client start journal op = Unit {0}
OwesOwnBy Check ids client start journal op = Unit {0}

-- the operation is polite, and owed; in a task that opens a session it is the first one, or
-- comes where the session has a base
pub record IsDue (ids : AnyIds) (task : Task) (number : ℕ) (start journal : List Event) (client : ℕ)
    (op : Op) : Type 0 where
  pub polite : IsPolite journal op
  pub owes : OwesOfTask ids task number start journal op
  pub own : OwesOwnBy task.head ids number start journal op
  pub open_at : IsOpenAt ids task number start journal op

-- the event is good, and owed, and comes so
pub record IsDueEvent (ids : AnyIds) (task : Task) (number : ℕ) (start journal : List Event)
    (event : Event) : Type 0 where
  pub good : IsGood journal event
  pub owes : OwesOfTask ids task number start journal event.op
  pub own : OwesOwnBy task.head ids number start journal event.op
  pub open_at : IsOpenAt ids task number start journal event.op

-- it puts something, under a new key or over what stands
abbrev pub IsPut : Op → Type 0
IsPut (Get key) = ⊥
IsPut (PutNew key bytes why) = Unit {0}
IsPut (PutOver key bytes old why) = Unit {0}
IsPut (Remove key why) = ⊥
IsPut (RemoveAt key old why) = ⊥
IsPut (ListPart part) = ⊥

-- a task that opens a session puts nothing behind its client's change of a branch;
-- one that calls on refs or expires changes as many as it likes, and one that
-- collects or checks puts nothing at all
abbrev pub ComesBefore : Head → (client : ℕ) → (start journal : List Event) → Op → Type 0
ComesBefore (Session access) client start journal op =
    IsPut op → ChangedNothing client start journal
ComesBefore Refs client start journal op = Unit {0}
ComesBefore (Collect cutoff) client start journal op = Unit {0}
ComesBefore (Expire cutoff drop_branches drop_tags) client start journal op = Unit {0}
ComesBefore Check client start journal op = Unit {0}

abbrev pub BeforeChange : Task → (client : ℕ) → (start journal : List Event) → Op → Type 0
BeforeChange task client start journal op = ComesBefore task.head client start journal op

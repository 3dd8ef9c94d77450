-- What is left of a reading of refs.
use Rattle.std.proofs.Common.{◌≡◌, ℕ, ◌+◌, ◌-◌, ◌<◌, ◌≤◌, List, [], ◌∷◌, ◌∙◌}
use Rattle.std.specs.Prelude.{Result, Ok, Err}
use Rattle.object_store.specs.declared.keys.Key.{Key}
use Rattle.object_store.specs.declared.keys.Part.{Part}
use Rattle.object_store.specs.declared.keys.Part.TheVariants.{Branches, Tags}
use Rattle.object_store.specs.declared.events.Op.{Op}
use Rattle.object_store.specs.declared.events.Op.TheVariants.{Get, PutNew, PutOver, Remove, RemoveAt, List as ListPart}
use Rattle.object_store.specs.declared.events.Got.TheVariants.{Found, Absent}
use Rattle.object_store.specs.declared.events.Entry.{Entry}
use Rattle.object_store.specs.declared.events.Event.{Event}
use Rattle.object_store.specs.declared.events.Reply.{Reply}
use Rattle.object_store.specs.declared.events.Reply.TheVariants.{Got as Is_got, New as Is_new, Over as Is_over, Gone as Is_gone, GoneAt as Is_gone_at, Listed as Is_listed, Failed}
use Rattle.store_api.specs.declared.machines.Refusal.{Refusal}
use Rattle.store_api.specs.Journal.{IsPolite}
use Rattle.store_api.specs.Callers.{Caller}
use Rattle.store_api.specs.Program.{Prog, Done, Ask, bind, Keeps}
use Rattle.play_outcome.specs.declared.outcome.RefLine.{RefLine}
use Rattle.store_api.specs.Running.{Program, StaysPolite, ◌>>=◌, on_answer}
use Rattle.repository.specs.Refs.{refs_program, list_part, on_listed, on_got, read_each, read_ref, with_line, live}

-- ---- the parts of a reading
abbrev pub after_tags : List RefLine → List Entry → Program (List RefLine)
after_tags lines tags = read_each lines (live tags)

abbrev pub after_lines : List RefLine → Program (List RefLine)
after_lines lines = list_part Tags >>= after_tags lines

abbrev pub after_branches : List Entry → Program (List RefLine)
after_branches branches = read_each [] (live branches) >>= after_lines

-- ---- a reading only gets and lists
abbrev pub IsRead : Op → Type 0
IsRead (Get key) = Unit {0}
IsRead (ListPart part) = Unit {0}
IsRead _ = ⊥

unfoldable pub OnlyReads : {A : Type 0} → Prog A → Type 0
OnlyReads (Done a) = Unit {0}
OnlyReads (Ask op k) = IsRead op × ((reply : Reply) → OnlyReads (k reply))

OnlyReads-bind : {A B : Type 0} (p : Prog A) (f : A → Prog B) → OnlyReads p → ((a : A) → OnlyReads (f a)) → OnlyReads (bind p f)
unfolding OnlyReads
OnlyReads-bind (Done a) f r g = g a
OnlyReads-bind (Ask op k) f r g = (r.0, λ reply. OnlyReads-bind (k reply) f (r.1 reply) g)

OnlyReads-then : {A B : Type 0} (p : Program A) (f : A → Program B) → OnlyReads p → ((a : A) → OnlyReads (f a)) → OnlyReads (p >>= f)
unfolding OnlyReads
OnlyReads-then {A} p f r g = OnlyReads-bind p (on_answer f) r answered
  where
    answered : (result : Result A Refusal) → OnlyReads (on_answer f result)
    answered (Ok a) = g a
    answered (Err refusal) = tt

listed-reads : (reply : Reply) → OnlyReads (on_listed reply)
unfolding OnlyReads
listed-reads (Is_listed x) = tt
listed-reads (Is_new x) = tt
listed-reads (Is_over x) = tt
listed-reads (Is_got x) = tt
listed-reads (Is_gone x) = tt
listed-reads (Is_gone_at x) = tt
listed-reads (Failed d) = tt

list-reads : (part : Part) → OnlyReads (list_part part)
unfolding OnlyReads
list-reads part = (tt, listed-reads)

got-reads : (key : Key) (reply : Reply) → OnlyReads (on_got key reply)
unfolding OnlyReads
got-reads key (Is_got (Found bytes version now)) = tt
got-reads key (Is_got (Absent now)) = tt
got-reads key (Is_listed x) = tt
got-reads key (Is_new x) = tt
got-reads key (Is_over x) = tt
got-reads key (Is_gone x) = tt
got-reads key (Is_gone_at x) = tt
got-reads key (Failed d) = tt

ref-reads : (key : Key) → OnlyReads (read_ref key)
unfolding OnlyReads
ref-reads key = (tt, got-reads key)

each-reads : (lines : List RefLine) (keys : List Key) → OnlyReads (read_each lines keys)
unfolding OnlyReads
each-reads lines [] = tt
each-reads lines (key ∷ keys) = OnlyReads-then (read_ref key) (λ line. read_each (with_line lines line) keys) (ref-reads key) (λ line. each-reads (with_line lines line) keys)

pub refs-reads : OnlyReads refs_program
refs-reads =
    OnlyReads-then (list_part Branches) after_branches (list-reads Branches) (λ branches.
    OnlyReads-then (read_each [] (live branches)) after_lines (each-reads [] (live branches)) (λ lines.
    OnlyReads-then (list_part Tags) (after_tags lines) (list-reads Tags) (λ tags. each-reads lines (live tags))))

-- what holds of each get and each listing holds of each operation of what only reads
pub Keeps-reads : {A : Type 0} (P : List Event → ℕ → Op → Type 0) (by : Caller) → ((journal : List Event) (op : Op) → IsRead op → P journal by.number op) → (p : Prog A) (journal : List Event) → OnlyReads p → Keeps P by p journal
unfolding Keeps OnlyReads
Keeps-reads P by f (Done a) journal r = tt
Keeps-reads P by f (Ask op k) journal r = (f journal op r.0, λ reply new m. Keeps-reads P by f (k reply) new (r.1 reply))

read-polite : (journal : List Event) (op : Op) → IsRead op → IsPolite journal op
read-polite journal (Get key) r = tt
read-polite journal (ListPart part) r = tt
read-polite journal (PutNew key bytes why) r = absurd r
read-polite journal (PutOver key bytes old why) r = absurd r
read-polite journal (Remove key why) r = absurd r
read-polite journal (RemoveAt key old why) r = absurd r

-- Whatever others do, each operation of a reading is polite.
pub refs-polite : (by : Caller) (journal : List Event) → StaysPolite by refs_program journal
refs-polite by journal = Keeps-reads (λ h client op. IsPolite h op) by read-polite refs_program journal refs-reads

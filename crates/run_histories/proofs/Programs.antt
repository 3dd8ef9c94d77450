-- The operations of the opening, of the closing reading and of tasks on refs.
use Rattle.std.proofs.Common.{◌≡◌, ◌⊎◌, ℕ, List, [], ◌∷◌, ◌++◌, refl, sym, subst}
use Rattle.std.specs.Prelude.{Result, Ok, Err}
use Rattle.ice_ids.specs.Text.{initial_id}
use Rattle.repo_objects.specs.Laws.{initial_bytes}
use Rattle.object_store.specs.declared.keys.Key.{Key}
use Rattle.object_store.specs.declared.keys.Key.TheVariants.{Snapshot, Branch, Tag, Tombstone}
use Rattle.object_store.specs.declared.keys.Why.TheVariants.{Reset}
use Rattle.object_store.specs.declared.keys.Part.{Part}
use Rattle.object_store.specs.declared.keys.Part.TheVariants.{Branches, Tags}
use Rattle.object_store.specs.declared.events.Op.{Op}
use Rattle.object_store.specs.declared.events.Op.TheVariants.{Get, PutNew, PutOver, Remove, RemoveAt, List as ListPart}
use Rattle.object_store.specs.declared.events.Got.TheVariants.{Found, Absent}
use Rattle.object_store.specs.declared.events.Entry.{Entry}
use Rattle.object_store.specs.declared.events.Reply.{Reply}
use Rattle.object_store.specs.declared.events.Reply.TheVariants.{Got as Is_got, New as Is_new, Over as Is_over, Gone as Is_gone, GoneAt as Is_gone_at, Listed as Is_listed, Failed}
use Rattle.object_store.specs.declared.events.Event.{Event}
use Rattle.store_api.specs.declared.machines.Refusal.{Refusal}
use Rattle.store_api.specs.Journal.{Each}
use Rattle.store_api.specs.Program.{Prog, Done, Ask, bind, Path}
use Rattle.play_outcome.specs.declared.outcome.RefLine.{RefLine}
use Rattle.store_api.specs.Running.{Program, ◌>>=◌, on_answer}
use Rattle.commit_path.specs.Single.{IsOfSnapshot}
use Rattle.refs_admin.specs.NewRepository.{init_program, put_main, placed}
use Rattle.repository.specs.Beginning.{begin_program, begun}
use Rattle.repository.specs.Refs.{list_part, on_listed, read_ref, on_got, read_each, read_tags, read_branches, refs_program, with_line, live}

abbrev pub IsBranch : Key → Type 0
IsBranch (Branch name) = Unit {0}
IsBranch _ = ⊥

-- a new key: the initial snapshot, or a ref
abbrev pub IsPlainNew : List ℕ → Key → Type 0
IsPlainNew bytes (Snapshot id) = (id ≡ initial_id) × (bytes ≡ initial_bytes)
IsPlainNew bytes (Branch name) = Unit {0}
IsPlainNew bytes (Tag name) = Unit {0}
IsPlainNew bytes (Tombstone name) = Unit {0}
IsPlainNew bytes _ = ⊥

-- It puts no object but the initial snapshot, and commits nothing: a get, a listing, a put of a new key, or a branch that is reset or removed.
abbrev pub IsPlain : Op → Type 0
IsPlain (Get key) = Unit {0}
IsPlain (ListPart part) = Unit {0}
IsPlain (PutNew key bytes why) = IsPlainNew bytes key
IsPlain (PutOver key bytes old why) = IsBranch key × (why ≡ Reset)
IsPlain (RemoveAt key old why) = IsBranch key
IsPlain _ = ⊥

-- What cleans up: it puts a snapshot over, as an expiry does, which is a cut of its parent, where it is polite; or it removes a key, as a collection does.
abbrev pub IsCleanup : Op → Type 0
IsCleanup (PutOver key bytes old why) = IsOfSnapshot key
IsCleanup (Remove key why) = Unit {0}
IsCleanup _ = ⊥

abbrev pub IsPlainOrCleanup : Op → Type 0
IsPlainOrCleanup op = IsPlain op ⊎ IsCleanup op

-- ---- all operations that a program may come to
unfoldable pub AllPlain : {A : Type 0} → Prog A → Type 0
AllPlain (Done a) = Unit {0}
AllPlain (Ask op next) = IsPlain op × ((reply : Reply) → AllPlain (next reply))

bind-plain : {A B : Type 0} (p : Prog A) (f : A → Prog B) → AllPlain p → ((a : A) → AllPlain (f a)) → AllPlain (bind p f)
unfolding AllPlain
bind-plain (Done a) f p g = g a
bind-plain (Ask op next) f p g = (p.0, λ reply. bind-plain (next reply) f (p.1 reply) g)

answer-plain : {A B : Type 0} (f : A → Program B) → ((a : A) → AllPlain (f a)) → (r : Result A Refusal) → AllPlain (on_answer f r)
unfolding AllPlain
answer-plain f g (Ok a) = g a
answer-plain f g (Err why) = tt

then-plain : {A B : Type 0} (p : Program A) (f : A → Program B) → AllPlain p → ((a : A) → AllPlain (f a)) → AllPlain (p >>= f)
then-plain p f k g = bind-plain p (on_answer f) k (answer-plain f g)

-- the events of such a program
pub path-plain : {A : Type 0} (p : Prog A) (old events : List Event) (q : Prog A) → AllPlain p → Path p events q → Each (λ journal event. IsPlain event.op) old events
unfolding AllPlain Path Each
path-plain p old [] q k path = tt
path-plain (Done a) old (x ∷ xs) q k path = absurd path
path-plain (Ask op next) old (x ∷ xs) q k path = (subst IsPlain (sym path.0) k.0, path-plain (next x.reply) (old ++ x ∷ []) xs q (k.1 x.reply) path.1)

-- ---- the opening
main-plain : AllPlain put_main
unfolding AllPlain
main-plain = (tt, λ reply. tt)

init-plain : AllPlain init_program
unfolding AllPlain
init-plain = ((refl, refl), λ reply. then-plain (Done (placed reply)) (λ done. put_main) tt (λ done. main-plain))

pub begin-plain : AllPlain begin_program
unfolding AllPlain
begin-plain = bind-plain init_program (λ made. Done (begun made)) init-plain (λ made. tt)

-- ---- the closing reading
on_listed-plain : (reply : Reply) → AllPlain (on_listed reply)
unfolding AllPlain
on_listed-plain (Is_got x) = tt
on_listed-plain (Is_new x) = tt
on_listed-plain (Is_over x) = tt
on_listed-plain (Is_gone x) = tt
on_listed-plain (Is_gone_at x) = tt
on_listed-plain (Is_listed x) = tt
on_listed-plain (Failed d) = tt

list-plain : (part : Part) → AllPlain (list_part part)
unfolding AllPlain
list-plain part = (tt, on_listed-plain)

on_got-plain : (key : Key) (reply : Reply) → AllPlain (on_got key reply)
unfolding AllPlain
on_got-plain key (Is_got (Found bytes version now)) = tt
on_got-plain key (Is_got (Absent now)) = tt
on_got-plain key (Is_new x) = tt
on_got-plain key (Is_over x) = tt
on_got-plain key (Is_gone x) = tt
on_got-plain key (Is_gone_at x) = tt
on_got-plain key (Is_listed x) = tt
on_got-plain key (Failed d) = tt

ref-plain : (key : Key) → AllPlain (read_ref key)
unfolding AllPlain
ref-plain key = (tt, on_got-plain key)

each-plain : (lines : List RefLine) (keys : List Key) → AllPlain (read_each lines keys)
unfolding AllPlain
each-plain lines [] = tt
each-plain lines (key ∷ keys) = then-plain (read_ref key) (λ line. read_each (with_line lines line) keys) (ref-plain key) (λ line. each-plain (with_line lines line) keys)

tags-plain : (lines : List RefLine) → AllPlain (read_tags lines)
tags-plain lines = then-plain (list_part Tags) (λ tags. read_each lines (live tags)) (list-plain Tags) (λ tags. each-plain lines (live tags))

branches-plain : (lines : List RefLine) (entries : List Entry) → AllPlain (read_branches lines entries)
branches-plain lines entries = then-plain (read_each lines (live entries)) read_tags (each-plain lines (live entries)) tags-plain

pub refs-plain : AllPlain refs_program
refs-plain = then-plain (list_part Branches) (λ entries. read_branches [] entries) (list-plain Branches) (λ entries. branches-plain [] entries)

-- A script stays well with one more line.
use Rattle.std.proofs.Common.{◌≡◌, ◌≢◌, ℕ, suc, ◌-◌, Bool, true, false, nat_eq, List, [], ◌∷◌, ◌++◌, length, Option, None, Some, refl, ap, subst, arith}
use Rattle.std.specs.Prelude.{IfSome, ◌&&◌, not, is_some, AllPairs}
use Rattle.std.specs.List.{All}
use Rattle.std.proofs.lemmas.Bool.{and_parts, and_from, or_parts, not-true, eq-eqb, both_ways}
use Rattle.std.proofs.lemmas.List.Elements.{All-nil, All-cons, All-head, All-tail, All-push, All-map}
use Rattle.std.proofs.lemmas.List.Quantifiers.{all_pairs_push}
use Rattle.script_calls.specs.declared.calls.Head.{Head}
use Rattle.script_calls.specs.declared.calls.Head.TheVariants as head
use Rattle.play_script.specs.declared.scripts.Line.{Line}
use Rattle.play_script.specs.declared.scripts.Task.{Task}
use Rattle.play_script.specs.declared.scripts.Turn.{Turn}
use Rattle.script_calls.specs.declared.calls.Class.{Class}
use Rattle.script_values.specs.Words.{Text}
use Rattle.script_values.specs.Values.{◌reads◌, is_task_name}
use Rattle.play_script.specs.Places.{last, class_of, head_takes, is_commit, is_commit_call, takes, onto_last, is_used}
use Rattle.play_script.specs.SoFar.{task_names}
use Rattle.play_script.specs.Well.{IsLineNumber, IsWellLine, EndsAtCommit, IsWellHead, AreTaken, HasItsLine, IsWellTask, IsWellTurn}

last_of_more : {A : Type 0} (x y : A) (xs : List A) → last (x ∷ y ∷ xs) ≡ last (y ∷ xs)
last_of_more x y xs =
    let e : suc (suc (length xs)) - 1 ≡ suc (suc (length xs) - 1) = omega arith in
    rw e refl

taken_more : (h : Head) (body : List Line) (l : Line) → head_takes h (class_of l.call) ≡ true → AreTaken h body → AreTaken h (body ++ l ∷ [])
taken_more h body l placed taken = All-push (λ (l : Line). head_takes h (class_of l.call) ≡ true) body l taken placed

ends_more : (body : List Line) (l : Line) → is_commit (last body) ≡ false → EndsAtCommit body → EndsAtCommit (body ++ l ∷ [])
ends_more [] l before ends = (λ _. refl, tt)
ends_more (a ∷ []) l before ends = (λ is. absurd (both_ways (is_commit_call a.call) before is), (λ _. refl, tt))
ends_more (a ∷ b ∷ ls) l before ends =
    (λ is. let e : b ∷ ls ≡ [] = ends.0 is in absurd (cc), ends_more (b ∷ ls) l (rw (last_of_more a b ls) at before) ends.1)

-- a task is well, its first line apart, which may come yet
pub record IsBegun (t : Task) : Type 0 where
  pub name : is_task_name t.name ≡ true
  pub line : IsLineNumber t.line
  pub head : IsWellHead t.head
  pub body : All IsWellLine t.body
  pub taken : AreTaken t.head t.body
  pub commit : EndsAtCommit t.body

task_more : (t : Task) (l : Line) (class : Class) → (head_takes t.head class && not (is_commit (last t.body))) ≡ true → class_of l.call ≡ class → IsWellLine l → IsBegun t → IsBegun (record t { body = t.body ++ l ∷ [] })
task_more t l class placed of_class is_well w =
    let parts = and_parts (head_takes t.head class) (not (is_commit (last t.body))) placed in
    record {
      name = w.name;
      line = w.line;
      head = w.head;
      body = All-push IsWellLine t.body l w.body is_well;
      taken = taken_more t.head t.body l (rw of_class parts.0) w.taken;
      commit = ends_more t.body l (not-true _ parts.1) w.commit;
    }

-- the last task takes one more line
pub tasks_more : (l : Line) (class : Class) (ts : List Task) → takes (last ts) class ≡ true → class_of l.call ≡ class → IsWellLine l → All IsBegun ts → All IsBegun (onto_last l ts)
tasks_more l class [] placed of_class is_well w = All-nil IsBegun
tasks_more l class (t ∷ []) placed of_class is_well w =
    All-cons IsBegun (record t { body = t.body ++ l ∷ [] }) [] (task_more t l class placed of_class is_well (All-head IsBegun t [] w)) (All-nil IsBegun)
tasks_more l class (t ∷ u ∷ ts) placed of_class is_well w =
    All-cons IsBegun t (onto_last l (u ∷ ts)) (All-head IsBegun t (u ∷ ts) w)
    (tasks_more l class (u ∷ ts) (rw (last_of_more t u ts) at placed) of_class is_well (All-tail IsBegun t (u ∷ ts) w))

-- each task has a line that needs one
abbrev pub HasLine : Task → Type 0
HasLine t = HasItsLine t.head t.body

-- the same, but for the last task where its first line comes yet
abbrev pub HaveLines : Bool → List Task → Type 0
HaveLines comes [] = Unit {0}
HaveLines comes (t ∷ []) = comes ≡ false → HasLine t
HaveLines comes (t ∷ u ∷ ts) = HasLine t × HaveLines comes (u ∷ ts)

pub all_lines : (ts : List Task) → HaveLines false ts → All HasLine ts
all_lines [] h = All-nil HasLine
all_lines (t ∷ []) h = All-cons HasLine t [] (h refl) (All-nil HasLine)
all_lines (t ∷ u ∷ ts) h = All-cons HasLine t (u ∷ ts) h.0 (all_lines (u ∷ ts) h.1)

pub lines_kept : (comes : Bool) (ts : List Task) → All HasLine ts → HaveLines comes ts
lines_kept comes [] h = tt
lines_kept comes (t ∷ []) h = λ _. All-head HasLine t [] h
lines_kept comes (t ∷ u ∷ ts) h = (All-head HasLine t (u ∷ ts) h, lines_kept comes (u ∷ ts) (All-tail HasLine t (u ∷ ts) h))

-- one more task
pub lines_behind : (comes : Bool) (ts : List Task) (t : Task) → All HasLine ts → (comes ≡ false → HasLine t) → HaveLines comes (ts ++ t ∷ [])
lines_behind comes [] t h begun = begun
lines_behind comes (u ∷ []) t h begun = (All-head HasLine u [] h, begun)
lines_behind comes (u ∷ v ∷ ts) t h begun = (All-head HasLine u (v ∷ ts) h, lines_behind comes (v ∷ ts) t (All-tail HasLine u (v ∷ ts) h) begun)

-- a line is one
some_line : (opened : Head) (body : List Line) (l : Line) → HasItsLine opened (body ++ l ∷ [])
some_line (head.Session access) body l = tt
some_line (head.Collect cutoff) body l = tt
some_line (head.Expire cutoff drop_branches drop_tags) body l = tt
some_line head.Check body l = tt
some_line head.Refs [] l = λ e. cc
some_line head.Refs (b ∷ body) l = λ e. cc

pub lines_more : (before comes : Bool) (l : Line) (ts : List Task) → HaveLines before ts → HaveLines comes (onto_last l ts)
lines_more before comes l [] h = tt
lines_more before comes l (t ∷ []) h = λ _. some_line t.head t.body l
lines_more before comes l (t ∷ u ∷ []) h = (h.0, λ _. some_line u.head u.body l)
lines_more before comes l (t ∷ u ∷ v ∷ ts) h = (h.0, lines_more before comes l (u ∷ v ∷ ts) h.1)

-- a task that has begun is well with its line
well_task : (t : Task) → IsBegun t → HasLine t → IsWellTask t
well_task t b some = record { name = b.name; line = b.line; head = b.head; body = b.body; taken = b.taken; commit = b.commit; some = some }

pub well_tasks : (ts : List Task) → All IsBegun ts → All HasLine ts → All IsWellTask ts
well_tasks [] begun some = All-nil IsWellTask
well_tasks (t ∷ ts) begun some =
    All-cons IsWellTask t ts (well_task t (All-head IsBegun t ts begun) (All-head HasLine t ts some))
    (well_tasks ts (All-tail IsBegun t ts begun) (All-tail HasLine t ts some))

pub length-onto_last : (l : Line) (ts : List Task) → length (onto_last l ts) ≡ length ts
length-onto_last l [] = refl
length-onto_last l (t ∷ []) = refl
length-onto_last l (t ∷ u ∷ ts) = omega (arith, length-onto_last l (u ∷ ts))

pub names-onto_last : (l : Line) (ts : List Task) → task_names (onto_last l ts) ≡ task_names ts
names-onto_last l [] = refl
names-onto_last l (t ∷ []) = refl
names-onto_last l (t ∷ u ∷ ts) = ap (λ (ns : List Text). t.name ∷ ns) (names-onto_last l (u ∷ ts))

reads_itself : (w : Text) → (w reads w) ≡ true
reads_itself [] = refl
reads_itself (b ∷ bs) = and_from (nat_eq b b) (bs reads bs) (eq-eqb b b refl) (reads_itself bs)

differs : (a b : Text) → (a reads b) ≡ false → a ≢ b
differs a b h e = both_ways (a reads b) h (subst (λ (x : Text). (a reads x) ≡ true) e (reads_itself a))

unused : (ts : List Task) (name : Text) → is_used ts name ≡ false → All (λ (t : Task). t.name ≢ name) ts
unused [] name h = All-nil (λ (t : Task). t.name ≢ name)
unused (t ∷ ts) name h =
    let parts = or_parts (t.name reads name) (is_used ts name) h in
    All-cons (λ (t : Task). t.name ≢ name) t ts (differs t.name name parts.0) (unused ts name parts.1)

pub names-append : (ts : List Task) (t : Task) → task_names (ts ++ t ∷ []) ≡ task_names ts ++ t.name ∷ []
names-append [] t = refl
names-append (u ∷ ts) t = ap (λ (ns : List Text). u.name ∷ ns) (names-append ts t)

-- one more task whose name isn't used
pub names_more : (ts : List Task) (t : Task) → is_used ts t.name ≡ false → AllPairs (λ a b. a ≢ b) (task_names ts) → AllPairs (λ a b. a ≢ b) (task_names (ts ++ t ∷ []))
names_more ts t free distinct =
    let all = All-map (λ (a : Text). a ≢ t.name) (λ (u : Task). u.name) ts (unused ts t.name free) in
    rw (names-append ts t) (all_pairs_push (λ (a b : Text). a ≢ b) (task_names ts) t.name distinct (λ k d lt. all k d lt))

-- no turns stand yet
pub no_turns : (turns : Option (List Turn)) (clients : ℕ) → not (is_some turns) ≡ true → IfSome turns (All (IsWellTurn clients))
no_turns None clients h = tt
no_turns (Some ts) clients h = absurd (cc)

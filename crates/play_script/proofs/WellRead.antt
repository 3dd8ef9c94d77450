-- A script that was read is well.
use Rattle.std.proofs.Common.{◌≡◌, ◌≢◌, ℕ, ◌+◌, ◌≤◌, Bool, true, false, List, [], ◌∷◌, length, Option, Some, Result, Ok, Err, refl, subst, arith, length-append}
use Rattle.std.specs.Prelude.{IfOk, IfSome, ◌&&◌, ◌||◌, ◌==◌, AllPairs, not, nat_lt, codes}
use Rattle.std.specs.List.{All, onto_first}
use Rattle.std.specs.Str.{is_utf8}
use Rattle.std.proofs.lemmas.Bool.{and_parts, both_ways, not-true, ltb-true, cond_both}
use Rattle.std.proofs.lemmas.List.Elements.{All-nil, All-push}
use Rattle.script_values.specs.declared.kinds.ScriptKind.{ScriptKind}
use Rattle.script_values.specs.declared.kinds.ScriptKind.TheVariants as k
use Rattle.script_calls.specs.declared.calls.Call.{Call}
use Rattle.script_calls.specs.declared.calls.Head.{Head}
use Rattle.script_calls.specs.declared.calls.Head.TheVariants as head
use Rattle.play_script.specs.declared.scripts.Line.{Line}
use Rattle.play_script.specs.declared.scripts.Task.{Task}
use Rattle.play_script.specs.declared.scripts.Turn.{Turn}
use Rattle.play_script.specs.declared.scripts.Script.{Script}
use Rattle.script_values.specs.Words.{Text, cut_of, pieces, next, lines_of}
use Rattle.script_values.specs.Parts.{◌&◌, each, only_if}
use Rattle.script_values.specs.Values.{◌reads◌, task_name_of}
use Rattle.script_calls.specs.Forms.{taken, form_of, head_of}
use Rattle.play_script.specs.Places.{most_tasks, last, is_open, class_of, head_takes, takes, onto_last, with_line, body_line, is_passed, has_line, is_used, with_task, is_head_placed, may_begin, task_line, head_line, turn_of, turns_line, words_line, line_at}
use Rattle.play_script.specs.declared.faults.ScriptFault.{ScriptFault}
use Rattle.play_script.specs.Reading.{most_bytes, at_line, lines_from, empty, IsReading}
use Rattle.play_script.specs.SoFar.{task_names}
use Rattle.play_script.specs.Well.{IsLineNumber, HasItsLine, IsWellTurn, IsWell}
use Rattle.script_values.proofs.Inversions.{made_ok, both_ok, only_if_ok, each_ok, task_name_ok}
use Rattle.play_script.proofs.Inversions.{taken_ok}
use Rattle.play_script.proofs.WellLines.{form_ok, head_ok, refs_word, turn_ok}
use Rattle.play_script.proofs.WellTasks.{IsBegun, HaveLines, tasks_more, all_lines, lines_kept, lines_behind, lines_more, well_tasks, length-onto_last, names-onto_last, names_more, no_turns}

-- a script so far is well, but perhaps for the first line of its last task, where it comes yet
record IsSoFar (comes : Bool) (s : Script) : Type 0 where
  few : length s.tasks ≤ most_tasks
  tasks : All IsBegun s.tasks
  lines : HaveLines comes s.tasks
  names : AllPairs (λ a b. a ≢ b) (task_names s.tasks)
  turns : IfSome s.turns (All (IsWellTurn (length s.tasks)))

-- a script that is read, if one is
abbrev IsSoFarIfRead : Bool → Result Script ScriptKind → Type 0
IsSoFarIfRead comes r = (t : Script) → r ≡ Ok t → IsSoFar comes t

body_well : (s : Script) (n : ℕ) (first : Text) (rest : Option Text) (before comes : Bool) → IsSoFar before s → IsLineNumber n → IsSoFarIfRead comes (body_line s n first rest)
unfolding body_line
body_well s n first rest before comes w number t h =
    let f = form_of first rest in
    let m = made_ok (λ (v : Unit {0} × Call). with_line s n v.1) (only_if (is_open s && takes (last s.tasks) f.class) k.Misplaced & f.call) t h in
    let b = both_ok (only_if (is_open s && takes (last s.tasks) f.class) k.Misplaced) f.call m.0 m.1 in
    let placed = and_parts (is_open s) (takes (last s.tasks) f.class) (only_if_ok _ _ _ b.0) in
    let call = form_ok first rest m.0.1 b.1 in
    let line : Line = record { number = n; call = m.0.1 } in
    subst (IsSoFar comes) m.2 (record {
      few = rw (length-onto_last line s.tasks) w.few;
      tasks = tasks_more line f.class s.tasks placed.1 call.1 (record { number = number; call = call.0 }) w.tasks;
      lines = lines_more before comes line s.tasks w.lines;
      names = rw (names-onto_last line s.tasks) w.names;
      turns = no_turns s.turns (length (onto_last line s.tasks)) placed.0;
    })

-- a head stands before the turns
head_open : (s : Script) (after : List Text) (word : Text) → is_head_placed s after word ≡ true → is_open s ≡ true
unfolding is_head_placed
head_open s after word h = (and_parts (is_open s) (not (word reads codes "refs") || has_line after) h).0

-- a head of refs has a line behind it
line_comes : (s : Script) (after : List Text) (word : Text) → is_head_placed s after word ≡ true → (word reads codes "refs") ≡ true → has_line after ≡ true
unfolding is_head_placed
line_comes s after word placed refs =
    let either : (not (word reads codes "refs") || has_line after) ≡ true = (and_parts (is_open s) (not (word reads codes "refs") || has_line after) placed).1 in
    rw refs at either

first_line : (s : Script) (after : List Text) (word : Text) (rest : Option Text) (begun : Head) → is_head_placed s after word ≡ true → head_of word rest ≡ Ok begun → has_line after ≡ false → HasItsLine begun []
first_line s after word rest (head.Session opened) placed is none = tt
first_line s after word rest (head.Collect cutoff) placed is none = tt
first_line s after word rest (head.Expire cutoff drop_branches drop_tags) placed is none = tt
first_line s after word rest head.Check placed is none = tt
first_line s after word rest head.Refs placed is none = absurd (both_ways (has_line after) none (line_comes s after word placed (refs_word word rest is)))

task_well : (s : Script) (n : ℕ) (after : List Text) (name word : Text) (rest : Option Text) → IsSoFar false s → IsLineNumber n → IsSoFarIfRead (has_line after) (task_line s n after name word rest)
unfolding task_line may_begin
task_well s n after name word rest w number t h =
    let place = only_if (is_head_placed s after word) k.Misplaced in
    let few = only_if (nat_lt (length s.tasks) most_tasks) k.Many in
    let unused = only_if (not (is_used s.tasks name)) k.Name in
    let m = made_ok (λ (v : ((Unit {0} × Text) × Head)). with_task s n v.0.1 v.1) (may_begin s after name word & task_name_of name & head_of word rest) t h in
    let all = both_ok (may_begin s after name word & task_name_of name) (head_of word rest) m.0 m.1 in
    let named = both_ok (may_begin s after name word) (task_name_of name) m.0.0 all.0 in
    let begin = made_ok (λ (v : (Unit {0} × Unit {0}) × Unit {0}). v.1) (place & few & unused) m.0.0.0 named.0 in
    let before = both_ok (place & few) unused begin.0 begin.1 in
    let placed = both_ok place few begin.0.0 before.0 in
    let at_place = only_if_ok (is_head_placed s after word) _ _ placed.0 in
    let room = ltb-true (length s.tasks) most_tasks (only_if_ok _ _ _ placed.1) in
    let free : is_used s.tasks name ≡ false = not-true _ (only_if_ok _ _ _ before.1) in
    let is_name = task_name_ok name m.0.0.1 named.1 in
    let task : Task = record { name = m.0.0.1; line = n; head = m.0.1; body = [] } in
    subst (IsSoFar (has_line after)) m.2 (record {
      few = omega (arith, length-append s.tasks (task ∷ []), room);
      tasks = All-push IsBegun s.tasks task w.tasks (record { name = is_name.0; line = number; head = head_ok word rest m.0.1 all.1; body = All-nil _; taken = All-nil (λ (l : Line). head_takes m.0.1 (class_of l.call) ≡ true); commit = tt });
      lines = lines_behind (has_line after) s.tasks task (all_lines s.tasks w.lines) (first_line s after word rest m.0.1 at_place all.1);
      names = names_more s.tasks task (subst (λ (x : Text). is_used s.tasks x ≡ false) is_name.1 free) w.names;
      turns = no_turns s.turns _ (head_open s after word at_place);
    })

head_well : (s : Script) (n : ℕ) (after : List Text) (rest : Option Text) → IsSoFar false s → IsLineNumber n → IsSoFarIfRead (has_line after) (head_line s n after rest)
unfolding head_line
head_well s n after rest w number t h =
    let p = taken_ok (next rest) (λ p. taken (next p.1) (λ q. task_line s n after p.0 q.0 q.1)) t h in
    let q = taken_ok (next p.0.1) (λ q. task_line s n after p.0.0 q.0 q.1) t p.2 in
    task_well s n after p.0.0 q.0.0 q.0.1 w number t q.2

turns_well : (s : Script) (rest : Option Text) (comes : Bool) → IsSoFar false s → IsSoFarIfRead comes (turns_line s rest)
unfolding turns_line
turns_well s rest comes w t h =
    let m = made_ok (λ (v : Unit {0} × List Turn). record s { turns = Some v.1 }) (only_if (is_open s) k.Misplaced & each (turn_of s.tasks) (pieces 32 rest)) t h in
    let b = both_ok (only_if (is_open s) k.Misplaced) (each (turn_of s.tasks) (pieces 32 rest)) m.0 m.1 in
    let turns = each_ok (IsWellTurn (length s.tasks)) (turn_of s.tasks) (pieces 32 rest) m.0.1 (turn_ok s.tasks) b.1 in
    subst (IsSoFar comes) m.2 (record { few = w.few; tasks = w.tasks; lines = lines_kept comes s.tasks (all_lines s.tasks w.lines); names = w.names; turns = turns })

-- a head or the turns ends the task before
ends_first : (head turns : Bool) (s : Script) → head ≡ true → IsSoFar (not (head || turns)) s → IsSoFar false s
ends_first head turns s h w = rw h at w

ends_second : (head turns : Bool) (s : Script) → turns ≡ true → IsSoFar (not (head || turns)) s → IsSoFar false s
ends_second true turns s h w = w
ends_second false turns s h w = rw h at w

words_well : (s : Script) (n : ℕ) (after : List Text) (first : Text) (rest : Option Text) → IsSoFar (not ((first reads codes "task") || (first reads codes "turns"))) s → IsLineNumber n → IsSoFarIfRead (has_line after) (words_line s n after first rest)
unfolding words_line
words_well s n after first rest w number =
    let head = first reads codes "task" in
    let turns = first reads codes "turns" in
    cond_both head _ _ (IsSoFarIfRead (has_line after)) (λ e. head_well s n after rest (ends_first head turns s e w) number) (λ _.
    cond_both turns _ _ (IsSoFarIfRead (has_line after)) (λ e. turns_well s rest (has_line after) (ends_second head turns s e w)) (λ _.
    body_well s n first rest _ (has_line after) w number))

-- a line that is passed over adds nothing
passed_well : (s : Script) (comes : Bool) → IsSoFar comes s → IsSoFarIfRead comes (Ok s)
passed_well s comes w t h = let e : s ≡ t = cc in subst (IsSoFar comes) e w

line_well : (s : Script) (n : ℕ) (after : List Text) (line : Text) → IsSoFar (has_line (line ∷ after)) s → IsLineNumber n → IsSoFarIfRead (has_line after) (line_at s n after line)
unfolding line_at has_line
line_well s n after line w number =
    cond_both (not (is_utf8 line)) _ _ (IsSoFarIfRead (has_line after)) (λ _ t h. absurd (cc)) (λ _.
    cond_both (is_passed line) _ _ (IsSoFarIfRead (has_line after)) (λ e. passed_well s (has_line after) (rw e at w)) (λ e.
    words_well s n after (cut_of 32 line).0 (cut_of 32 line).1 (rw e at w) number))

-- what more lines make of it
more_lines : (n : ℕ) (comes : Bool) (r : Result Script ScriptKind) (more : Script → Result Script (ℕ × ScriptKind)) (t : Script) → IsSoFarIfRead comes r → ((s : Script) → IsSoFar comes s → more s ≡ Ok t → IsWell t) → at_line n r more ≡ Ok t → IsWell t
more_lines n comes (Ok s) more t w rest h = rest s (w s refl) h
more_lines n comes (Err kind) more t w rest h = absurd (cc)

-- at the end no line comes
whole_well : (s : Script) → IsSoFar false s → IsWell s
whole_well s w = record { few = w.few; tasks = well_tasks s.tasks w.tasks (all_lines s.tasks w.lines); names = w.names; turns = w.turns }

lines_well : (s : Script) (n : ℕ) (lines : List Text) (t : Script) → IsSoFar (has_line lines) s → 1 ≤ n → n + length lines ≤ most_bytes + 1 → lines_from s n lines ≡ Ok t → IsWell t
unfolding lines_from has_line
lines_well s n [] t w some few h = let e : s ≡ t = cc in subst IsWell e (whole_well s w)
lines_well s n (l ∷ ls) t w some few h =
    more_lines n (has_line ls) (line_at s n ls l) (λ s. lines_from s (n + 1) ls) t (line_well s n ls l w (some, omega arith)) (λ s w h. lines_well s (n + 1) ls t w (omega arith) (omega arith) h) h

length-onto_first : (b : ℕ) (lines : List Text) → length (onto_first b lines) ≤ length lines + 1
length-onto_first b [] = omega arith
length-onto_first b (l ∷ ls) = omega arith

-- each line has a byte at least
length-lines : (text : Text) → length (lines_of text) ≤ length text
unfolding lines_of
length-lines [] = omega arith
length-lines (b ∷ bs) =
    cond_both (b == 10) ([] ∷ lines_of bs) (onto_first b (lines_of bs)) (λ (ls : List Text). length ls ≤ length (b ∷ bs))
    (λ _. omega (arith, length-lines bs)) (λ _. omega (arith, length-lines bs, length-onto_first b (lines_of bs)))

empty_well : (comes : Bool) → IsSoFar comes empty
empty_well comes = record { few = omega arith; tasks = All-nil _; lines = tt; names = λ i j d lt within. absurd (omega (arith, within)); turns = tt }

-- the script of a call that read these lines
pub read_well : (text : List ℕ) (r : Result Script ScriptFault) → length text ≤ most_bytes → IsReading (lines_from empty 1 (lines_of text)) r → IfOk r IsWell
read_well text (Ok s) few h = lines_well empty 1 (lines_of text) s (empty_well _) (omega arith) (omega (arith, few, length-lines text)) h
read_well text (Err fault) few h = tt

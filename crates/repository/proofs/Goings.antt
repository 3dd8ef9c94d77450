-- How the machine that reads all refs goes on.
use Rattle.std.proofs.Common.{◌≡◌, ℕ, ◌+◌, ◌<◌, ◌≤◌, List, [], ◌∷◌, length, drop, get_or, sym, ◌∙◌, ap, subst, arith}
use Rattle.std.specs.Prelude.{Option, Ok}
use Rattle.std.proofs.Math.ListN.{drop_of_length-le}
use Rattle.std.proofs.lemmas.List.{drop_more, length-drop}
use Rattle.object_store.specs.declared.keys.Key.{Key}
use Rattle.object_store.specs.declared.events.Entry.{Entry}
use Rattle.object_store.specs.declared.events.Got.{Got}
use Rattle.object_store.specs.declared.events.Reply.{Reply}
use Rattle.object_store.specs.declared.events.Reply.TheVariants.{Got as Is_got}
use Rattle.store_api.specs.declared.machines.Next.{Next}
use Rattle.store_api.specs.Program.{Done, bind, IsAsk, IsDone, Lands}
use Rattle.store_api.specs.Driving.{Awaits, Took}
use Rattle.store_api.specs.Running.{Program, on_answer}
use Rattle.play_outcome.specs.declared.outcome.RefLine.{RefLine}
use Rattle.repository.specs.declared.refs.Reading.{Reading}
use Rattle.repository.specs.declared.refs.Reading.TheVariants.{Branch, Tags, Ended}
use Rattle.repository.specs.Refs.{on_got, read_each, read_tags, read_branches, with_line}
use Rattle.repository.specs.Reading.{reading_rest, read_on, AddsLine}
use Rattle.live_refs.specs.Live.{live, first_and_live}

abbrev Goes : Program (List RefLine) → Program (List RefLine) → Type 0
Goes p q = (p ≡ q) × IsAsk q

-- ---- a ref is left
tags-go : (lines : List RefLine) (left : List Entry) (keys : List Key) → keys ≡ first_and_live left → 0 < length left → Goes (read_each lines keys) (read_on lines left)
tags-go lines [] keys e l = absurd (omega (arith, l))
tags-go lines (entry ∷ behind) keys e l = (ap (read_each lines) e, tt)

branches-go : (lines : List RefLine) (left : List Entry) (keys : List Key) → keys ≡ first_and_live left → 0 < length left → Goes (bind (read_each lines keys) (on_answer read_tags)) (bind (read_on lines left) (on_answer read_tags))
branches-go lines [] keys e l = absurd (omega (arith, l))
branches-go lines (entry ∷ behind) keys e l = (ap (λ (k : List Key). bind (read_each lines k) (on_answer read_tags)) e, tt)

some-left : (entries : List Entry) (place : ℕ) → place < length entries → 0 < length (drop place entries)
some-left entries place l = let n = length-drop place entries in omega (arith, l, n)

-- ---- none is left
no-keys : (entries : List Entry) (place : ℕ) (keys : List Key) → keys ≡ first_and_live (drop place entries) → length entries ≤ place → keys ≡ []
no-keys entries place keys e l = e ∙ ap first_and_live (drop_of_length-le entries l)

module _ (lines : List RefLine) (entries slice : List Entry) (from place : ℕ) (same : slice ≡ entries) (found : live (drop from slice) ≡ first_and_live (drop place slice)) where
  e : live (drop from entries) ≡ first_and_live (drop place entries)
  e = subst (λ (x : List Entry). live (drop from x) ≡ first_and_live (drop place x)) same found

  pub next-branch : place < length entries → (state : Reading) → state ≡ Branch entries place → Goes (read_branches lines (drop from entries)) (reading_rest lines state)
  next-branch l state s =
      subst (λ (x : Reading). Goes (read_branches lines (drop from entries)) (reading_rest lines x)) (sym s) (branches-go lines (drop place entries) (live (drop from entries)) e (some-left entries place l))

  pub branches-end : length entries ≤ place → (state : Reading) → state ≡ Tags → Goes (read_branches lines (drop from entries)) (reading_rest lines state)
  branches-end l state s =
      subst (λ (x : Reading). Goes (read_branches lines (drop from entries)) (reading_rest lines x)) (sym s)
      (ap (λ (k : List Key). bind (read_each lines k) (on_answer read_tags)) (no-keys entries place (live (drop from entries)) e l), tt)

  pub next-tag : place < length entries → Goes (read_each lines (live (drop from entries))) (read_on lines (drop place entries))
  next-tag l = tags-go lines (drop place entries) (live (drop from entries)) e (some-left entries place l)

  pub tags-end : length entries ≤ place → (read : List RefLine) → read ≡ lines → (more : List RefLine) (state : Reading) → state ≡ Ended → (read_each lines (live (drop from entries)) ≡ Done (Ok read)) × IsDone (reading_rest more state)
  tags-end l read r more state s = (
    ap (read_each lines) (no-keys entries place (live (drop from entries)) e l) ∙ ap (λ (x : List RefLine). Done (Ok x)) (sym r),
    subst (λ (x : Reading). IsDone (reading_rest more x)) (sym s) tt,
  )

-- ---- a ref was got
abbrev branches_on : List RefLine → List Entry → Program (List RefLine)
branches_on lines left = bind (read_on lines left) (on_answer read_tags)

took-got : (lines after : List RefLine) (entry : Entry) (behind : List Entry) (got : Got) (q : Program (List RefLine)) (next : Next (List RefLine)) → AddsLine (on_got entry.key (Is_got got)) lines after (Ok tt) → Lands (read_branches after behind) q (Ok next) → Took (branches_on lines (entry ∷ behind)) (Is_got got) q (Ok next)
took-got lines after entry behind got q next a l =
    let line = a.0 in
    let read : Lands (read_branches (with_line lines line) behind) q (Ok next) = subst (λ (x : List RefLine). Lands (read_branches x behind) q (Ok next)) a.2 l in
    ((subst (λ (x : Program (Option RefLine)). Lands (bind (bind x (on_answer (λ m. read_each (with_line lines m) (live behind)))) (on_answer read_tags)) q (Ok next)) (sym a.1) read, λ over. tt), tt)

-- a branch is left where the machine waits for a reply
some-awaited : (lines : List RefLine) (left : List Entry) (reply : Reply) → Awaits (branches_on lines left) reply → 0 < length left
some-awaited lines [] reply a = absurd a
some-awaited lines (entry ∷ behind) reply a = omega arith

within : (lines : List RefLine) (entries : List Entry) (place : ℕ) (state : Reading) (reply : Reply) → state ≡ Branch entries place → Awaits (reading_rest lines state) reply → place < length entries
within lines entries place state reply s a =
    let waits : Awaits (branches_on lines (drop place entries)) reply = subst (λ (x : Reading). Awaits (reading_rest lines x) reply) s a in
    let left = some-awaited lines (drop place entries) reply waits in
    let n = length-drop place entries in
    omega (arith, left, n)

-- the branch at this place
pub took-branch : (lines after : List RefLine) (entries slice : List Entry) (place : ℕ) (state : Reading) (none : Entry) (got : Got) (reply : Reply) (q : Program (List RefLine)) (next : Next (List RefLine)) → state ≡ Branch entries place → reply ≡ Is_got got → Awaits (reading_rest lines state) reply → slice ≡ entries → AddsLine (on_got (get_or slice place none).key (Is_got got)) lines after (Ok tt) → Lands (read_branches after (drop (place + 1) entries)) q (Ok next) → Took (reading_rest lines state) reply q (Ok next)
took-branch lines after entries slice place state none got reply q next s r w same a lands =
    let left : drop place entries ≡ get_or entries place none ∷ drop (place + 1) entries = drop_more entries place none (within lines entries place state reply s w) in
    let adds : AddsLine (on_got (get_or entries place none).key (Is_got got)) lines after (Ok tt) = subst (λ (x : List Entry). AddsLine (on_got (get_or x place none).key (Is_got got)) lines after (Ok tt)) same a in
    let took : Took (branches_on lines (drop place entries)) (Is_got got) q (Ok next) = subst (λ (x : List Entry). Took (branches_on lines x) (Is_got got) q (Ok next)) (sym left) (took-got lines after (get_or entries place none) (drop (place + 1) entries) got q next adds lands) in
    subst (λ (x : Reading). Took (reading_rest lines x) reply q (Ok next)) (sym s) (subst (λ (x : Reply). Took (branches_on lines (drop place entries)) x q (Ok next)) (sym r) took)

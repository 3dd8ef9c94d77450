-- The machine that reads all refs: what it has still to do.
use Rattle.std.specs.Prelude.{◌≡◌, ℕ, ◌+◌, ◌-◌, ◌^◌, List, [], ◌∷◌, drop}
use Rattle.std.specs.Prelude.{length, Option, Result, Ok, Err, false}
use Rattle.object_store.specs.declared.events.Entry.{Entry}
use Rattle.store_api.specs.declared.machines.Refusal.{Refusal}
use Rattle.store_api.specs.declared.machines.Refusal.TheVariants.{NoMemory}
use Rattle.store_api.specs.Program.{Done, is_no_memory}
use Rattle.store_api.specs.Running.{Program, ◌>>=◌}
use Rattle.play_outcome.specs.declared.outcome.RefLine.{RefLine}
use Rattle.repository.specs.declared.refs.Reading.{Reading}
use Rattle.repository.specs.declared.refs.Reading.TheVariants.{Branches, Branch, Tags, Tag, Ended}
use Rattle.repository.specs.declared.refs.ReadRefs.{ReadRefs}
use Rattle.live_refs.specs.Live.{live}
use Rattle.repository.specs.Refs.{read_each, read_tags, read_all, with_line}

-- ---- the rest of a listing
-- gets the first ref, and then those behind it that stand
abbrev pub read_on : List RefLine → List Entry → Program (List RefLine)
read_on lines [] = Done (Err NoMemory)
read_on lines (entry ∷ behind) = read_each lines (entry.key ∷ live behind)

-- ---- the machine
abbrev pub reading_rest : List RefLine → Reading → Program (List RefLine)
reading_rest lines Branches = read_all lines
reading_rest lines (Branch entries place) = read_on lines (drop place entries) >>= read_tags
reading_rest lines Tags = read_tags lines
reading_rest lines (Tag entries place) = read_on lines (drop place entries)
reading_rest lines Ended = Done (Err NoMemory)

-- what is still to be done
abbrev pub refs_rest : ReadRefs → Program (List RefLine)
refs_rest machine = reading_rest machine.lines machine.state

-- no listing is as long
abbrev pub no_length : ℕ
no_length = 2 ^ 64

abbrev pub reading_left : Reading → ℕ
reading_left Branches = no_length + no_length + 3
reading_left (Branch entries place) = (length entries - place) + no_length + 2
reading_left Tags = no_length + 1
reading_left (Tag entries place) = length entries - place
reading_left Ended = 0

-- how many steps are left at most
abbrev pub refs_left : ReadRefs → ℕ
refs_left machine = reading_left machine.state

-- ---- a ref that was got
-- the program has ended with this result; want of memory may come instead
abbrev pub Answers : {A : Type 0} → Program A → Result A Refusal → Type 0
Answers p (Ok a) = p ≡ Done (Ok a)
Answers p (Err refusal) = is_no_memory refusal ≡ false → p ≡ Done (Err refusal)

-- the line that the program ends with, if any, was put behind the lines
abbrev pub AddsLine : Program (Option RefLine) → List RefLine → List RefLine
    → Result (Unit {0}) Refusal → Type 0
AddsLine p old new (Ok done) =
    (line : Option RefLine) × (p ≡ Done (Ok line)) × (new ≡ with_line old line)
AddsLine p old new (Err refusal) = is_no_memory refusal ≡ false → p ≡ Done (Err refusal)

-- The report of a run (own): lines of words.
use Rattle.std.specs.Prelude.{ℕ, ℤ, ◌/◌, ◌%◌, ◌==◌, nat_lt, List, [], ◌∷◌, ◌++◌}
use Rattle.std.specs.Prelude.{map, Bool, true, false, ◌&&◌, ◌||◌, if◌then◌else◌}
use Rattle.std.specs.Prelude.{Option, Some, None, Result, Ok, Err, codes, decimal}
use Rattle.std.specs.List.{flat_map}
use Rattle.std.specs.Fmt.{signed_decimal}
use Rattle.std.specs.Char.{digit_char}
use Rattle.ice_ids.specs.Text.{id12_text}
use Rattle.object_store.specs.declared.keys.Key.{Key as ObjectKey}
use Rattle.object_store.specs.declared.keys.Key.TheVariants as key
use Rattle.cleanup_reports.specs.declared.removed.Removed.{Removed}
use Rattle.cleanup_reports.specs.declared.cases.What.{What}
use Rattle.cleanup_reports.specs.declared.cases.What.TheVariants.{Kept, Cut, Dropped, Moved, Absent}
use Rattle.cleanup_reports.specs.declared.cases.RefCase.{RefCase}
use Rattle.object_store.specs.Names.{key_name}
use Rattle.check_reports.specs.declared.faults.FaultKind.{FaultKind}
use Rattle.check_reports.specs.declared.faults.FaultKind.TheVariants as fault
use Rattle.check_reports.specs.declared.faults.CheckFault.{CheckFault}
use Rattle.check_reports.specs.declared.faults.Checked.{Checked as Counts}
use Rattle.store_api.specs.declared.machines.Refusal.{Refusal}
use Rattle.play_outcome.specs.declared.outcome.Shown.{Shown}
use Rattle.play_outcome.specs.declared.outcome.Shown.TheVariants.{Node, Meta, Chunk, Fill}
use Rattle.play_outcome.specs.declared.outcome.Shown.TheVariants.{Cells, Key, Log, Lease}
use Rattle.play_outcome.specs.declared.outcome.How.{How}
use Rattle.play_outcome.specs.declared.outcome.How.TheVariants as how
use Rattle.play_outcome.specs.declared.outcome.End.{End}
use Rattle.play_outcome.specs.declared.outcome.End.TheVariants.{Committed, Collected, Done, Refused}
use Rattle.play_outcome.specs.declared.outcome.End.TheVariants.{Stopped, InDoubt, Expired, Checked}
use Rattle.play_outcome.specs.declared.outcome.Outcome.{Outcome}
use Rattle.play_outcome.specs.declared.outcome.RefLine.{RefLine}
use Rattle.play_report.specs.Words.{◌space◌}
use Rattle.play_report.specs.Refusals.{refusal_text}

-- a line: its first word, and what stands behind it
abbrev pub line_of : List ℕ → List ℕ → List ℕ
line_of first rest = (first space rest) ++ codes "\n"

abbrev pub node_kind : Bool → List ℕ
node_kind array = if array then codes "array" else codes "group"

abbrev pub ref_kind : Bool → List ℕ
ref_kind tag = if tag then codes "tag" else codes "branch"

-- a byte of metadata or of a message: a control byte is printed as a space
abbrev pub printed : ℕ → ℕ
printed b = if nat_lt b 32 || (b == 127) then 32 else b

-- a byte in two digits of base 16, with lower-case letters
abbrev pub byte_text : ℕ → List ℕ
byte_text b = digit_char (b / 16) ∷ digit_char (b % 16) ∷ []

-- bytes one behind the other, and `-` where there are none
abbrev pub bytes_text : List ℕ → List ℕ
bytes_text [] = codes "-"
bytes_text (b ∷ bs) = flat_map byte_text (b ∷ bs)

-- the number of a cell behind a comma
abbrev pub next_cell : ℤ → List ℕ
next_cell number = codes "," ++ signed_decimal number

-- the numbers of cells, joined by commas, and `-` where there are none
abbrev pub cells_text : List ℤ → List ℕ
cells_text [] = codes "-"
cells_text (number ∷ numbers) = signed_decimal number ++ flat_map next_cell numbers

-- the value of a key, if it has one
abbrev pub value_text : Option (List ℕ) → List ℕ
value_text None = codes "absent"
value_text (Some bytes) = bytes_text bytes

-- why a lease was left, if it was
abbrev pub why_text : Option Refusal → List ℕ
why_text None = []
why_text (Some why) = refusal_text why

-- what a task showed, behind its name
abbrev pub shown_text : Shown → List ℕ
shown_text (Node line array path) = decimal line space codes "list" space node_kind array space path
shown_text (Meta line text) = decimal line space codes "meta" space map printed text
shown_text (Chunk line bytes) = decimal line space codes "chunk" space bytes_text bytes
shown_text (Fill line) = decimal line space codes "fill"
shown_text (Cells line numbers) = decimal line space codes "cells" space cells_text numbers
shown_text (Key line bytes) = decimal line space codes "zget" space value_text bytes
shown_text (Log line snapshot flushed_at message props) =
    decimal line space codes "log" space id12_text snapshot space decimal flushed_at
    space map printed message
shown_text (Lease line id left) =
    decimal line space codes "unreleased" space id12_text id space why_text left

abbrev pub shown_line : List ℕ → Shown → List ℕ
shown_line name shown = line_of name (shown_text shown)

-- a property of a snapshot of a log, its name and its value
abbrev pub property_text : ℕ → List ℕ × List ℕ → List ℕ
property_text line prop = decimal line space codes "prop" space prop.0 space map printed prop.1

abbrev pub property_line : List ℕ → ℕ → List ℕ × List ℕ → List ℕ
property_line name line prop = line_of name (property_text line prop)

-- what is shown of it in lines of their own: the properties of a snapshot of a log
abbrev pub property_lines : List ℕ → Shown → List ℕ
property_lines name (Node line array path) = []
property_lines name (Meta line text) = []
property_lines name (Chunk line bytes) = []
property_lines name (Fill line) = []
property_lines name (Cells line numbers) = []
property_lines name (Key line bytes) = []
property_lines name (Log line snapshot flushed_at message props) =
    flat_map (property_line name line) props
property_lines name (Lease line id left) = []

abbrev pub is_lease : Shown → Bool
is_lease (Lease line id left) = true
is_lease _ = false

-- a lease shows nothing where it was put
abbrev pub shown_lines : List ℕ → Shown → List ℕ
shown_lines name shown =
    if is_lease shown then [] else shown_line name shown ++ property_lines name shown

-- a lease whose release was refused
abbrev pub is_left : Shown → Bool
is_left (Lease line id (Some why)) = true
is_left _ = false

-- such a one is a line behind all that was shown
abbrev pub left_lines : List ℕ → Shown → List ℕ
left_lines name shown = if is_left shown then shown_line name shown else []

-- how many snapshots, logs, manifests and objects with chunks a collection removed
abbrev pub removed_text : Removed → List ℕ
removed_text r =
    codes "collected" space decimal r.snapshots space decimal r.logs
    space decimal r.manifests space decimal r.chunks

abbrev pub is_nothing : Removed → Bool
is_nothing r = (r.snapshots == 0) && (r.logs == 0) && (r.manifests == 0) && (r.chunks == 0)

-- that as a line, if it removed anything
abbrev pub removed_lines : List ℕ → Removed → List ℕ
removed_lines name removed = if is_nothing removed then [] else line_of name (removed_text removed)

-- what an expiry made of a ref
abbrev pub what_text : What → List ℕ
what_text Kept = codes "kept"
what_text (Cut id) = codes "cut" space id12_text id
what_text Dropped = codes "dropped"
what_text Moved = codes "moved"
what_text Absent = codes "absent"

-- the script's line, the ref, and what became of it
abbrev pub case_text : ℕ → Bool → List ℕ → What → List ℕ
case_text line tag ref what = decimal line space ref_kind tag space ref space what_text what

-- a line for a branch and for a tag; other objects are no refs
abbrev pub key_lines : List ℕ → ℕ → ObjectKey → What → List ℕ
key_lines name line (key.Branch ref) what = line_of name (case_text line false ref what)
key_lines name line (key.Tag ref) what = line_of name (case_text line true ref what)
key_lines name line (key.Snapshot id) what = []
key_lines name line (key.Manifest id) what = []
key_lines name line (key.Txn id) what = []
key_lines name line (key.Chunk id) what = []
key_lines name line (key.Tombstone ref) what = []
key_lines name line (key.Lease id) what = []

abbrev pub case_lines : List ℕ → ℕ → RefCase → List ℕ
case_lines name line c = key_lines name line c.key c.what

-- what is wrong with an object, and its name
abbrev pub fault_word : FaultKind → List ℕ
fault_word fault.Absent = codes "absent"
fault_word (fault.Bad bad) = codes "bad"
fault_word fault.Ring = codes "ring"
fault_word (fault.NotWell at) = codes "notwell"

abbrev pub fault_text : CheckFault → List ℕ
fault_text f = fault_word f.kind space key_name f.key

abbrev pub fault_line : List ℕ → CheckFault → List ℕ
fault_line name f = line_of name (fault_text f)

-- what was done, before the ending tells whether it is all: what a collection removed that was
-- refused, what an expiry made of each ref, and the faults that a check found
abbrev pub done_lines : List ℕ → End → List ℕ
done_lines name (Committed id) = []
done_lines name (Collected removed) = []
done_lines name Done = []
done_lines name (Refused line why) = []
done_lines name (Stopped line why removed) = removed_lines name removed
done_lines name (InDoubt id how) = []
done_lines name (Expired line cases result) = flat_map (case_lines name line) cases
done_lines name (Checked line faults result) = flat_map (fault_line name) faults

-- the line that was refused, and why
abbrev pub refused_text : ℕ → Refusal → List ℕ
refused_text line why = codes "refused" space decimal line space refusal_text why

-- how what began on this line ended
abbrev pub result_text : ℕ → Result (Unit {0}) Refusal → List ℕ
result_text line (Ok done) = codes "done"
result_text line (Err why) = refused_text line why

-- how many snapshots and objects with chunks a check found
abbrev pub counts_text : Counts → List ℕ
counts_text c = codes "checked" space decimal c.snapshots space decimal c.chunks

-- how a check ended that began on this line
abbrev pub checked_text : ℕ → Result Counts Refusal → List ℕ
checked_text line (Ok counts) = counts_text counts
checked_text line (Err why) = refused_text line why

-- what its branch told of a commit in doubt
abbrev pub how_text : How → List ℕ
how_text how.Committed = codes "committed"
how_text how.NotCommitted = codes "notcommitted"
how_text how.NotAncestor = codes "notancestor"
how_text how.NoRef = codes "noref"
how_text (how.Unsettled why) = codes "unsettled" space refusal_text why

-- how a task ended, behind its name
abbrev pub end_text : End → List ℕ
end_text (Committed id) = codes "committed" space id12_text id
end_text (Collected removed) = removed_text removed
end_text Done = codes "done"
end_text (Refused line why) = refused_text line why
end_text (Stopped line why removed) = refused_text line why
end_text (InDoubt id how) = codes "indoubt" space id12_text id space how_text how
end_text (Expired line cases result) = result_text line result
end_text (Checked line faults result) = checked_text line result

-- what a task showed in order, the leases that it left, what it had done, and then how it ended
abbrev pub outcome_text : List ℕ → Outcome → List ℕ
outcome_text name outcome =
    flat_map (shown_lines name) outcome.shown ++ (flat_map (left_lines name) outcome.shown
    ++ (done_lines name outcome.end ++ line_of name (end_text outcome.end)))

-- each task in order, under its name; what one list has beyond the other is left out
abbrev pub tasks_text : List (List ℕ) → List Outcome → List ℕ
tasks_text (name ∷ names) (outcome ∷ outcomes) =
    outcome_text name outcome ++ tasks_text names outcomes
tasks_text (name ∷ names) [] = []
tasks_text [] outcomes = []

-- what stands in the place of what was refused
abbrev pub refused_line : List ℕ → Refusal → List ℕ
refused_line what why = line_of what (codes "refused" space refusal_text why)

-- an opening that was refused
abbrev pub opening_text : Refusal → List ℕ
opening_text why = refused_line (codes "init") why

-- a branch or a tag, and the snapshot that it names
abbrev pub ref_text : RefLine → List ℕ
ref_text ref = ref.name space id12_text ref.id

abbrev pub ref_line : RefLine → List ℕ
ref_line ref = line_of (ref_kind ref.tag) (ref_text ref)

-- the refs at the end, or why they weren't read
abbrev pub refs_text : Result (List RefLine) Refusal → List ℕ
refs_text (Ok refs) = flat_map ref_line refs
refs_text (Err why) = refused_line (codes "refs") why

-- the tasks, in whose place a refused opening stands
abbrev pub played_text : List (List ℕ) → Result (Unit {0}) Refusal → List Outcome → List ℕ
played_text names (Ok opened) outcomes = tasks_text names outcomes
played_text names (Err why) outcomes = opening_text why

-- the report of a run of tasks of these names
unfoldable pub report_of : List (List ℕ) → Result (Unit {0}) Refusal → List Outcome
    → Result (List RefLine) Refusal → List ℕ
report_of names opening outcomes refs = played_text names opening outcomes ++ refs_text refs

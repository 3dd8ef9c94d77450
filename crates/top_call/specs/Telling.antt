-- What is told of a run: the report, or the line of a grown script, and the status (own).
use Rattle.std.specs.Prelude.{◌≡◌, ℕ, Bool, true, false, not, ◌&&◌, List, [], ◌∷◌, ◌++◌}
use Rattle.std.specs.Prelude.{◌+◌, length, map, codes, Result, Ok, Err, IsTrue}
use Rattle.std.specs.List.{list_any, flat_map, count_by}
use Rattle.ice_base.specs.Ends.{OutputAt}
use Rattle.drafts.specs.Drafts.{Wrote}
use Rattle.ice_ids.specs.declared.drawing.Draw.{Draw}
use Rattle.ice_ids.specs.Drawing.{DrawsOnce}
use Rattle.store_api.specs.declared.machines.Refusal.{Refusal}
use Rattle.store_api.specs.Callers.{View}
use Rattle.store_api.specs.Program.{is_no_memory, is_fault}
use Rattle.play_script.specs.declared.scripts.Script.{Script}
use Rattle.play_script.specs.Collections.{has_collection}
use Rattle.play_outcome.specs.declared.outcome.End.{End}
use Rattle.play_outcome.specs.declared.outcome.End.TheVariants as E
use Rattle.play_outcome.specs.declared.outcome.Outcome.{Outcome}
use Rattle.play_outcome.specs.declared.outcome.RefLine.{RefLine}
use Rattle.play_outcome.specs.Ending.{why_ended}
use Rattle.play_report.specs.Report.{report_of}
use Rattle.command_words.specs.declared.reading.Command.{Command}
use Rattle.command_words.specs.declared.reading.Command.TheVariants as C
use Rattle.grow_script.specs.Summary.{summary_text}
use Rattle.zarr_tree.specs.Changes.{Changes}
use Rattle.run_histories.specs.Sources.{IsNewRun}
use Rattle.run_histories.specs.Runs.{IsSound}
use Rattle.play_course.specs.Refusing.{NothingStrange}
use Rattle.play_course.specs.Law.{KeepsPromise}
use Rattle.top_call.specs.declared.statuses.Causes.{Causes}
use Rattle.top_call.specs.declared.statuses.Status.{Status}
use Rattle.top_call.specs.Statuses.{status_of}

-- ---- the causes of a status
abbrev pub why_of : {A : Type 0} → Result A Refusal → List Refusal
why_of (Ok a) = []
why_of (Err why) = why ∷ []

-- the refusals of a run, in their order
abbrev pub refusals : Result (Unit {0}) Refusal → List Outcome
    → Result (List RefLine) Refusal → List Refusal
refusals opening outcomes refs = why_of opening ++ (flat_map why_ended outcomes ++ why_of refs)

-- a refusal that is neither want of memory nor a fault of the store
abbrev pub is_other : Refusal → Bool
is_other why = not (is_no_memory why) && not (is_fault why)

-- what these refusals cause, where not all of the report was written or all of it
abbrev pub causes : Bool → List Refusal → Causes
causes unwritten whys = record {
  no_memory = list_any is_no_memory whys;
  store_fault = list_any is_fault whys;
  unwritten = unwritten;
  refused = list_any is_other whys;
}

-- ---- what is told
abbrev pub end_committed : End → Bool
end_committed (E.Committed id) = true
end_committed (E.Collected removed) = false
end_committed E.Done = false
end_committed (E.Refused line why) = false
end_committed (E.Stopped line why removed) = false
end_committed (E.InDoubt id how) = false
end_committed (E.Expired line cases result) = false
end_committed (E.Checked line faults result) = false

abbrev pub end_refused : End → Bool
end_refused (E.Refused line why) = true
end_refused (E.Stopped line why removed) = true
end_refused (E.InDoubt id how) = false
end_refused (E.Expired line cases (Err why)) = true
end_refused (E.Expired line cases (Ok done)) = false
end_refused (E.Checked line faults (Err why)) = true
end_refused (E.Checked line faults (Ok counts)) = false
end_refused (E.Committed id) = false
end_refused (E.Collected removed) = false
end_refused E.Done = false

abbrev pub is_committed : Outcome → Bool
is_committed outcome = end_committed outcome.end

abbrev pub is_refused : Outcome → Bool
is_refused outcome = end_refused outcome.end

-- the line of a grown script of one base task and so many others, with
-- so many operations of the store
abbrev pub line_text : ℕ → List Outcome → ℕ → List ℕ
line_text tasks outcomes events =
    summary_text (record {
      tasks = tasks + 1;
      committed = count_by is_committed outcomes;
      refused = count_by is_refused outcomes;
      events = events;
    }) ++ codes "\n"

-- The text is the line of this run. Where the store tells its journal, that grew by
-- as many events as the line says.
pub record IsLine (tasks : ℕ) (old new : View) (outcomes : List Outcome)
    (text : List ℕ) : Type 0 where
  pub events : ℕ
  pub counted : IsTrue old.caller.tells → length new.seen ≡ length old.seen + events
  pub is : text ≡ line_text tasks outcomes events

-- the text that a command prints of what was played: by `grow` the line, else the report
abbrev pub IsText : Command → Script → View → View → Result (Unit {0}) Refusal → List Outcome
    → Result (List RefLine) Refusal → List ℕ → Type 0
IsText (C.Grow tasks) script old new opening outcomes refs text = IsLine tasks old new outcomes text
IsText command script old new opening outcomes refs text =
    text ≡ report_of (map (λ t. t.name) script.tasks) opening outcomes refs

-- Such a text was written, and the status is that of what was played: of the first of want of
-- memory, a fault of the store, a text that wasn't written whole, another refusal.
pub record Told (Is : List ℕ → Type 0) (whys : List Refusal) (old new : OutputAt)
    (status : Status) : Type 0 where
  pub text : List ℕ
  pub is : Is text
  pub unwritten : Bool
  pub wrote : Wrote old new text unwritten
  pub status_is : status ≡ status_of (causes unwritten whys)

-- and what is promised of the tasks is kept: each branch's updates form one list, each commit that
-- took effect is its session's solved changes on the entry before it, each read sees its session's
-- base under the session's own changes, and each task ends as it tells
abbrev pub KeepsAll : Draw → Script → (old begun new : View) → List Outcome
    → Result (List RefLine) Refusal → Type 0
KeepsAll draw script old begun new outcomes refs =
    IsTrue old.caller.tells → (before : ℕ → Changes)
    → IsSound old.seen before → IsNewRun draw script.tasks old.seen
    → KeepsPromise draw script before old outcomes refs begun new

-- over a store that tells its journal and on which nothing was done before, where the clients draw
-- no id twice, nothing is refused because an id was taken or a file can't be read, nor, where no
-- task collects, because an object is missing
abbrev pub IsRegular : Draw → Script → View → Result (Unit {0}) Refusal → List Outcome
    → Result (List RefLine) Refusal → Type 0
IsRegular draw script old opening outcomes refs =
    IsTrue old.caller.tells → old.seen ≡ [] → DrawsOnce draw (length script.tasks)
    → NothingStrange (has_collection script.tasks) opening outcomes refs

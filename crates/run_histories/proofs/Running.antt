-- What holds along a run.
use Rattle.std.proofs.Common.{ℕ, List, length, sym, subst}
use Rattle.ice_ids.specs.declared.drawing.Draw.{Draw}
use Rattle.ice_ids.specs.Drawing.{DrawsOnce}
use Rattle.zarr_tree.specs.Changes.{Changes}
use Rattle.repo_objects.specs.Laws.{InitialLaw}
use Rattle.store_api.specs.Journal.{Each}
use Rattle.object_store.specs.declared.events.Event.{Event}
use Rattle.object_store.proofs.Journals.{Each-append}
use Rattle.play_script.specs.declared.scripts.Task.{Task}
use Rattle.repository.specs.Beginning.{begin_program}
use Rattle.run_histories.specs.Runs.{IsRun, IsSound, RanAlone}
use Rattle.run_histories.specs.Sources.{IsNewRun}
use Rattle.run_histories.proofs.Firsts.{all, all-is, rest, rest-once}
use Rattle.run_histories.proofs.Growing.{AllNodesAreNew, Holds}
use Rattle.run_histories.proofs.Passing.{IsKnown, holds-along, plain-known, plain-nodes-along, run-knows}
use Rattle.run_histories.proofs.Programs.{IsPlain, begin-plain, path-plain}

module _ (initial : InitialLaw) (draw : Draw) (tasks : List Task) (before : ℕ → Changes) (old new : List Event) (s : IsSound old before) (new_run : IsNewRun draw tasks old) (r : IsRun draw tasks old new) where
  abbrev draws : DrawsOnce draw (length tasks)
  draws = new_run.once

  abbrev pub HoldsOf : List Event → Type 0
  HoldsOf journal = Holds draw tasks draws r.well initial old journal

  abbrev NodesOf : List Event → Type 0
  NodesOf journal = AllNodesAreNew draw tasks draws r.well initial old journal

  -- all that came is known: of the opening, of the tasks, and of the closing reading
  abbrev pub Known : List Event → Event → Type 0
  Known = IsKnown draw tasks draws r.well initial old r.begun

  -- ---- at first
  holds-first : HoldsOf old
  holds-first = record { good = s.good; once = s.once; trees = s.trees; causes = s.causes; nodes = λ ids another is_new. is_new }

  nodes-first : NodesOf old
  nodes-first place within = (new_run.sources place within).nodes

  -- ---- the opening
  opening-plain : (start : List Event) (q : RanAlone begin_program old start) → Each (λ h e. IsPlain e.op) old q.own
  opening-plain start q = path-plain begin_program old q.own q.left begin-plain q.path

  -- behind any opening the nodes are new still
  pub opening-nodes : (start : List Event) → RanAlone begin_program old start → NodesOf start
  opening-nodes start q = subst NodesOf (sym q.is) (plain-nodes-along draw tasks draws r.well initial old r.begun old q.own q.good (opening-plain start q) holds-first nodes-first)

  opening-known : Each Known old r.opening.own
  opening-known = plain-known draw tasks draws r.well initial old r.begun old r.opening.own r.opening.good (opening-plain r.begun r.opening) holds-first

  begun-holds : HoldsOf r.begun
  begun-holds = subst HoldsOf (sym r.opening.is) (holds-along draw tasks draws r.well initial old r.begun old r.opening.own opening-known holds-first)

  -- ---- the run
  abbrev behind : List Event
  behind = rest draw tasks old new r

  abbrev whole : List Event
  whole = all draw tasks old new r

  pub run-known : Each Known old whole
  run-known =
      Each-append Known old r.opening.own behind opening-known
      (subst (λ (j : List Event). Each Known j behind) r.opening.is (run-knows draw tasks draws r.well initial old r.begun behind (rest-once draw tasks old new r new_run) begun-holds (opening-nodes r.begun r.opening)))

  pub run-holds : HoldsOf new
  run-holds = subst HoldsOf (sym (all-is draw tasks old new r)) (holds-along draw tasks draws r.well initial old r.begun old whole run-known holds-first)

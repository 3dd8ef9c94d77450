-- What a check does, writes and leaves.
use Rattle.std.proofs.Common.{◌≡◌, inr, List, [], ◌∷◌, ◌++◌, refl, sym, ◌∙◌, arith}
use Rattle.std.specs.Prelude.{IsTrue}
use Rattle.std.proofs.lemmas.List.{append-nil}
use Rattle.std.proofs.lemmas.List.Elements.{All-nil, All-cons}
use Rattle.ice_base.specs.Ends.{OutputAt, Rose}
use Rattle.ice_ids.specs.declared.drawing.Draw.{Draw}
use Rattle.object_store.specs.declared.events.Event.{Event}
use Rattle.object_store.proofs.Journals.{Each-none, Each-weaker}
use Rattle.store_api.specs.Journal.{Each, IsGood}
use Rattle.store_api.specs.Callers.{View}
use Rattle.store_api.specs.Program.{Prog}
use Rattle.store_api.proofs.Programs.{Path-none}
use Rattle.play_script.specs.declared.scripts.Line.{Line}
use Rattle.play_script.specs.Places.{class_of, head_takes}
use Rattle.play_script.specs.Well.{IsWellLine, IsWellTask}
use Rattle.play_outcome.specs.Ending.{why_ended}
use Rattle.play_tasks.specs.Tasks.{IsOfClient}
use Rattle.run_histories.specs.Runs.{IsBy, IsRun, RanAlone}
use Rattle.run_histories.specs.Told.{RunLaw}
use Rattle.lone_check.specs.Checking.{IsOfCheck}
use Rattle.top_call.specs.declared.statuses.Status.{Status}
use Rattle.top_call.specs.declared.statuses.Status.TheVariants as S
use Rattle.top_call.specs.Telling.{causes}
use Rattle.top_call.specs.Check.{DidCheck, Checks, check_alone, StaysSound}
use Rattle.top_call.proofs.Rows.{rows-all}
use Rattle.top_call.proofs.Tellings.{outcome-failed, wrote-rose}
use Rattle.top_call.proofs.Lasts.{IsLast, status-last}

-- ---- the journal
-- a check is a run of such a task, without an opening and a closing reading
well-alone : IsWellTask check_alone
well-alone = record {
  name = refl;
  line = (omega arith, omega arith);
  head = tt;
  body = All-nil IsWellLine;
  taken = All-nil (λ (l : Line). IsTrue (head_takes check_alone.head (class_of l.call)));
  commit = tt;
  some = tt;
}

of-client : (draw : Draw) (start journal : List Event) (event : Event) → IsOfCheck journal event → IsOfClient draw (check_alone ∷ []) start journal event
of-client draw start journal event c = record {
  place = 0;
  task = check_alone;
  client = c.client;
  at = refl;
  careful = record { good = c.good; owes = c.reads; own = tt; open_at = tt };
  before = tt;
}

nothing-ran : {A : Type 0} (p : Prog A) (journal : List Event) → RanAlone p journal journal
nothing-ran p journal = record { own = []; is = sym (append-nil journal); good = Each-none IsGood journal; left = p; path = Path-none p }

run-alone : (draw : Draw) (old new own : List Event) → new ≡ old ++ own → Each IsOfCheck old own → IsRun draw (check_alone ∷ []) old new
unfolding nothing-ran
run-alone draw old new own is each = record {
  well = All-cons IsWellTask check_alone [] well-alone (All-nil IsWellTask);
  begun = old;
  played = new;
  opening = nothing-ran _ old;
  playing = record { own = own; is = is; owed = Each-weaker IsOfCheck (IsOfClient draw (check_alone ∷ []) old) (λ h e c. of-client draw old h e c) old own each };
  closing = nothing-ran _ new;
  reader = Each-none (IsBy 0) new;
}

pub stays-sound : RunLaw → (draw : Draw) (old new own : List Event) → new ≡ old ++ own → Each IsOfCheck old own → StaysSound draw old new
unfolding run-alone
stays-sound law draw old new own is each before sound fresh = (old, law draw (check_alone ∷ []) before old new sound fresh (run-alone draw old new own is each))

pub stays-same : RunLaw → (draw : Draw) (journal : List Event) → StaysSound draw journal journal
stays-same law draw journal = stays-sound law draw journal journal [] (sym (append-nil journal)) (Each-none IsOfCheck journal)

-- ---- the status
module _ (s t : View) (x y : OutputAt) where
  by-status : (status : Status) → DidCheck s t x y status → IsLast status → Checks s t x y status
  unfolding IsLast
  by-status S.Ok d l = d
  by-status S.Refused d l = d
  by-status S.WriteFault d l = d
  by-status S.StoreFault d l = d
  by-status S.NoMemory d l = inr d
  by-status S.ReadFault d l = absurd l
  by-status (S.Usage fault) d l = absurd l
  by-status (S.Script line kind) d l = absurd l

  pub did-check : (status : Status) → DidCheck s t x y status → Checks s t x y status
  did-check status d = by-status status d (status-last (causes d.told.unwritten (why_ended d.outcome)) status d.told.status_is)

  store-rose : DidCheck s t x y S.StoreFault → Rose s.faults t.faults
  store-rose d =
      let given = causes d.told.unwritten (why_ended d.outcome) in
      d.checked.blames (sym (outcome-failed d.outcome) ∙ ((rows-all given).store_fault.0 (sym d.told.status_is)).1)

  sink-rose : DidCheck s t x y S.WriteFault → Rose x.faults y.faults
  sink-rose d =
      let given = causes d.told.unwritten (why_ended d.outcome) in
      wrote-rose x y _ d.told.unwritten d.told.wrote (((rows-all given).write_fault.0 (sym d.told.status_is)).2)

  pub check-store : (status : Status) → Checks s t x y status → status ≡ S.StoreFault → Rose s.faults t.faults
  check-store S.StoreFault c k = store-rose c
  check-store S.Ok c k = cc
  check-store S.Refused c k = cc
  check-store S.WriteFault c k = cc
  check-store S.NoMemory c k = cc
  check-store S.ReadFault c k = cc
  check-store (S.Usage fault) c k = cc
  check-store (S.Script line kind) c k = cc

  pub check-sink : (status : Status) → Checks s t x y status → status ≡ S.WriteFault → Rose x.faults y.faults
  check-sink S.WriteFault c k = sink-rose c
  check-sink S.Ok c k = cc
  check-sink S.Refused c k = cc
  check-sink S.StoreFault c k = cc
  check-sink S.NoMemory c k = cc
  check-sink S.ReadFault c k = cc
  check-sink (S.Usage fault) c k = cc
  check-sink (S.Script line kind) c k = cc

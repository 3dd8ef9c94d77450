-- The sessions that a run's reads look at: their nodes keep the parts of their metadata that stay. And no log hides a node from one that is rebased.
use Rattle.std.proofs.Common.{◌≡◌, ℕ, ◌+◌, ◌<◌, List, [], ◌∷◌, ◌++◌, length, sym, ◌∙◌, ap, subst, append_assoc, append-nil}
use Rattle.std.specs.Prelude.{All, Some, slice_get}
use Rattle.std.proofs.lemmas.List.{append_cancel_left}
use Rattle.std.proofs.lemmas.Option.{slice_get_within}
use Rattle.ice_ids.specs.declared.drawing.AnyIds.{AnyIds}
use Rattle.ice_ids.specs.declared.drawing.Draw.{Draw}
use Rattle.zarr_tree.specs.Changes.{Changes}
use Rattle.repo_objects.specs.Laws.{InitialLaw}
use Rattle.conflicts.specs.declared.solving.Policy.{Policy}
use Rattle.store_api.specs.Journal.{Each, puts_of}
use Rattle.object_store.specs.declared.events.Event.{Event}
use Rattle.object_store.proofs.Journals.{Each-back}
use Rattle.session.specs.Sessions.{SessionState}
use Rattle.play_script.specs.Well.{IsWellLine}
use Rattle.play_script.specs.declared.scripts.Task.{Task}
use Rattle.repository.specs.Beginning.{begin_program}
use Rattle.play_tasks.specs.Playing.{asked_by, policy_of}
use Rattle.play_tasks.specs.Tasks.{ids_at}
use Rattle.run_histories.specs.Runs.{IsRun, IsSound, RanAlone}
use Rattle.run_histories.specs.Sources.{IsNewRun}
use Rattle.run_histories.specs.Told.{AllKeepFrozen, AllNormal, NoneHidden, WasPlayedOn}
use Rattle.run_histories.proofs.Along.{well-at}
use Rattle.run_histories.proofs.Began.{lines-carried, lost-carried}
use Rattle.run_histories.proofs.Carrying.{IsFront, alike-back, lost-same, opened-goes}
use Rattle.run_histories.proofs.Editing.{all-front, lines-went}
use Rattle.run_histories.proofs.Firsts.{all, all-is}
use Rattle.run_histories.proofs.Grounds.{Grounds, IsCarried}
use Rattle.run_histories.proofs.Passing.{grounds}
use Rattle.run_histories.proofs.Running.{HoldsOf, Known, opening-nodes, run-holds, run-known}
use Rattle.run_histories.proofs.Sized.{normal-in, sized-keeps}
use Rattle.run_histories.proofs.Walked.{carried, rebase-honest}

module _ (initial : InitialLaw) (draw : Draw) (tasks : List Task) (before : ℕ → Changes) (old new : List Event) (sound_old : IsSound old before) (new_run : IsNewRun draw tasks old) (r : IsRun draw tasks old new) where
  abbrev Hold : List Event → Type 0
  Hold = HoldsOf initial draw tasks before old new sound_old new_run r

  at_last : Hold new
  at_last = run-holds initial draw tasks before old new sound_old new_run r

  module _ (start : List Event) (opening : RanAlone begin_program old start) (place : ℕ) (task : Task) (t : SessionState) (at : slice_get tasks place ≡ Some task) (w : WasPlayedOn (ids_at draw place) task (place + 1) start t new) where
    abbrev ids : AnyIds
    ids = ids_at draw place

    -- what came since the tasks began
    abbrev since : List Event
    since = w.begun.got.own.since ++ w.begun.got.own.event ∷ w.begun.got.own.after

    abbrev Here : List Event → Event → Type 0
    Here = Known initial draw tasks before old new sound_old new_run r

    goes-on : new ≡ start ++ since
    goes-on =
        let own = w.begun.got.own in
        own.is ∙ ap (λ (j : List Event). j ++ own.event ∷ own.after) own.before_is ∙ append_assoc start own.since (own.event ∷ own.after)

    known-since : Each Here start since
    known-since =
        let come = all draw tasks old new r in
        let whole : old ++ come ≡ old ++ (opening.own ++ since) = sym (all-is draw tasks old new r) ∙ goes-on ∙ ap (λ (j : List Event). j ++ since) opening.is ∙ append_assoc old opening.own since in
        let each = subst (Each Here old) (append_cancel_left old come (opening.own ++ since) whole) (run-known initial draw tasks before old new sound_old new_run r) in
        subst (λ (j : List Event). Each Here j since) (sym opening.is) (Each-back Here old opening.own since each).1

    -- its client had put no snapshot when it began
    grounds-new : Grounds ids (place + 1) start new
    grounds-new =
        let within : place < length tasks = slice_get_within tasks place task at in
        subst (Grounds ids (place + 1) start) (sym goes-on)
        (grounds draw tasks new_run.once r.well initial old r.begun place within start since known-since (subst Hold goes-on at_last) (opening-nodes initial draw tasks before old new sound_old new_run r start opening place within))

    played-carried : IsCarried ids new t
    played-carried =
        let well : All IsWellLine w.played = all-front IsWellLine w.played w.left (subst (All IsWellLine) w.body (well-at draw tasks r.well place task at).body) in
        let went = lines-went ids (place + 1) start new w.played w.opened t w.shown well (opened-goes ids w.access (place + 1) start new w.opened w.begun) w.plays in
        lines-carried initial ids (place + 1) start new grounds-new (asked_by w.access ids) w.opened w.begun w.early t went

  pub all-frozen : AllKeepFrozen draw tasks old new
  all-frozen start place task t opening at w = sized-keeps (puts_of new) t (played-carried start opening place task t at w).normal

  pub all-normal : AllNormal draw tasks old new
  all-normal = record {
    played = λ start place task s opening at w has. normal-in (puts_of new) s has (played-carried start opening place task s at w).normal;
    carried = λ start place task s t count opening at w moved alike has.
        normal-in (puts_of new) t has
        (carried initial (ids_at draw place) (place + 1) start new (grounds-new start opening place task s at w) (policy_of w.access) count s t new (record { more = []; is = sym (append-nil new) }) (played-carried start opening place task s at w) alike moved).normal;
  }

  pub none-hidden : NoneHidden draw tasks old new
  none-hidden start since place task lost key bad opening at l hidden =
      let ids : AnyIds = ids_at draw place in
      let client : ℕ = place + 1 in
      let policy : Policy = policy_of l.was_played.access in
      let g = grounds-new start opening place task l.session at l.was_played in
      let same = lost-same client policy l.at_last lost start since l.was_lost in
      let here : IsFront new new = record { more = []; is = sym (append-nil new) } in
      let k = carried initial ids client start new g policy l.count l.session l.at_last new here (played-carried start opening place task l.session at l.was_played) (alike-back client l.at_last lost start new same.holds l.alike) l.carried in
      rebase-honest initial ids client start new g policy lost key bad since new here (lost-carried initial ids client start new g l.at_last lost since l.was_lost k) l.alike hidden

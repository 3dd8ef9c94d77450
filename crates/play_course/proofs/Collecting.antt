-- What a task that collects answers in a run over an empty store.
use Rattle.std.proofs.Common.{◌≡◌, ℕ, true, false, List, [], ◌∷◌, ◌++◌, refl}
use Rattle.std.specs.Prelude.{Result, Ok, Err}
use Rattle.ice_ids.specs.declared.drawing.AnyIds.{AnyIds}
use Rattle.repo_objects.specs.Laws.{SnapshotLaw}
use Rattle.object_store.specs.declared.keys.Key.{Key}
use Rattle.object_store.specs.declared.events.Gone.TheVariants.{Done as Gone_done, Absent as Gone_absent}
use Rattle.object_store.specs.declared.events.Reply.{Reply}
use Rattle.object_store.specs.declared.events.Reply.TheVariants.{Got as Is_got, New as Is_new, Over as Is_over, Gone as Is_gone, GoneAt as Is_gone_at, Listed as Is_listed, Failed}
use Rattle.object_store.specs.declared.events.Event.{Event}
use Rattle.store_api.specs.declared.machines.Refusal.{Refusal}
use Rattle.store_api.specs.declared.machines.Refusal.TheVariants as R
use Rattle.store_api.specs.Plays.{Play}
use Rattle.repo_read.specs.Chains.{most_snapshots}
use Rattle.cleanup_reports.specs.declared.removed.Removed.{Removed}
use Rattle.chunk_gc.specs.declared.standing.Collected.{Collected}
use Rattle.chunk_gc.specs.Programs.{mark_program}
use Rattle.chunk_gc.specs.Plays.{nothing, counted, ends_with, after_removal, sweep, after_marking, collect_play}
use Rattle.play_outcome.specs.declared.outcome.Outcome.{Outcome}
use Rattle.play_collect.specs.Playing.{end_by, outcome_of, collect_task}
use Rattle.play_course.specs.Refusing.{is_strange, strange_end}
use Rattle.play_course.proofs.Tidy.{Client}
use Rattle.play_course.proofs.Meeting.{PlayMeets, ended-as_meets, ended-meets, call-meets}
use Rattle.play_course.proofs.Knowing.{IsKept, beside}
use Rattle.play_course.proofs.Marking.{MarksWell, marks-meet}

module _ (client : Client) (ids : AnyIds) (law : SnapshotLaw) (collects : client.collects ≡ true) (line : ℕ) where
  -- it ends by no strange refusal
  abbrev Ends : Collected → Type 0
  Ends c = strange_end client.collects (end_by line c.removed c.result) ≡ false

  abbrev Well : Play Collected → List Event → Type 0
  Well p h = PlayMeets Ends (beside client ids) p h

  ends : (removed : Removed) (why : Refusal) (h : List Event) → is_strange client.collects why ≡ false → Well (ends_with removed (Err why)) h
  ends removed why h plain = ended-meets Ends (beside client ids) (record { removed = removed; result = Err why }) h plain

  -- behind the reply to a removal
  removed-meets : (key : Key) (next : Removed → Play Collected) → ((r : Removed) (h : List Event) → Well (next r) h) → (removed : Removed) (reply : Reply) (h : List Event) → Well (after_removal key next removed reply) h
  removed-meets key next go removed (Is_gone (Gone_done now)) h = go (counted key removed) h
  removed-meets key next go removed (Is_gone (Gone_absent now)) h = go removed h
  removed-meets key next go removed (Is_got x) h = ends removed R.StoreFault h refl
  removed-meets key next go removed (Is_new x) h = ends removed R.StoreFault h refl
  removed-meets key next go removed (Is_over x) h = ends removed R.StoreFault h refl
  removed-meets key next go removed (Is_gone_at x) h = ends removed R.StoreFault h refl
  removed-meets key next go removed (Is_listed x) h = ends removed R.StoreFault h refl
  removed-meets key next go removed (Failed done) h = ends removed R.StoreFault h refl

  sweep-meets : (keys : List Key) (removed : Removed) (journal : List Event) → Well (sweep keys removed) journal
  unfolding sweep PlayMeets
  sweep-meets [] removed journal = refl
  sweep-meets (key ∷ keys) removed journal = (
    refl,
    λ more event others own is. removed-meets key (sweep keys) (sweep-meets keys) removed event.reply ((journal ++ more) ++ event ∷ []),
  )

  marked-meets : (answer : Result (List Key) Refusal) (h : List Event) → MarksWell client ids law collects answer h → Well (after_marking nothing answer) h
  marked-meets (Ok keys) h m = sweep-meets keys nothing h
  marked-meets (Err why) h plain = ends nothing why h plain

  -- a collection of this client is refused as it may be
  pub collection-meets : (cutoff : ℕ) (journal : List Event) → IsKept client journal → PlayMeets (λ o. strange_end client.collects o.end ≡ false) (beside client ids) (collect_task line cutoff) journal
  collection-meets cutoff journal k =
      ended-as_meets (outcome_of line) (λ (o : Outcome). strange_end client.collects o.end ≡ false) (beside client ids) (collect_play cutoff) journal
      (call-meets Ends (beside client ids) (MarksWell client ids law collects) (mark_program most_snapshots cutoff) (after_marking nothing) journal (marks-meet client ids law collects most_snapshots cutoff journal k)
      marked-meets (λ h. ends nothing R.NoMemory h refl))

-- A run keeps what is promised.
use Rattle.std.proofs.Common.{◌≡◌, inl, inr, ℕ, ◌+◌, List, ◌∷◌, ◌++◌, refl, sym, ◌∙◌, ap, subst, append_assoc}
use Rattle.std.proofs.lemmas.List.{append_cancel_left}
use Rattle.std.specs.Prelude.{Option, Some, Result, Ok, slice_get}
use Rattle.ice_ids.specs.declared.Id12.{Id12}
use Rattle.ice_ids.specs.declared.drawing.Draw.{Draw}
use Rattle.zarr_tree.specs.Trees.{Tree}
use Rattle.zarr_tree.specs.Changes.{Changes}
use Rattle.manifest_file.specs.declared.manifest.Place.{Place}
use Rattle.repo_objects.specs.Laws.{InitialLaw}
use Rattle.histories.specs.Formats.{files_by}
use Rattle.object_store.specs.declared.events.Event.{Event}
use Rattle.object_store.specs.Machine.{version_at}
use Rattle.object_store.proofs.Journals.{Each-at}
use Rattle.store_api.specs.declared.machines.Refusal.{Refusal}
use Rattle.store_api.specs.Journal.{Each, tree_of}
use Rattle.rebase.specs.AlongLaws.{MeansLaw}
use Rattle.script_calls.specs.declared.calls.Access.{Access}
use Rattle.script_calls.specs.declared.calls.Head.{Head}
use Rattle.script_calls.specs.declared.calls.Head.TheVariants.{Session}
use Rattle.play_script.specs.declared.scripts.Task.{Task}
use Rattle.play_outcome.specs.declared.outcome.Shown.{Shown}
use Rattle.play_outcome.specs.declared.outcome.End.{End}
use Rattle.play_outcome.specs.declared.outcome.Outcome.{Outcome}
use Rattle.play_outcome.specs.declared.outcome.RefLine.{RefLine}
use Rattle.play_tasks.specs.Playing.{asked_by}
use Rattle.play_tasks.specs.Tasks.{ids_at, TellsAt}
use Rattle.play_tasks.specs.Telling.{SessionTells, TellsBy}
use Rattle.run_histories.specs.Told.{HasHistories, RunLaw}
use Rattle.run_histories.specs.Told as Histories
use Rattle.run_histories.proofs.Programs.{IsPlain, path-plain, begin-plain}
use Rattle.run_histories.proofs.Along.{plain-no-commit}
use Rattle.repository.specs.Beginning.{begin_program}
use Rattle.repository.specs.Closing.{RefsLaw}
use Rattle.play_course.specs.Leaving.{TellsEnds}
use Rattle.play_course.proofs.Leaving.{course-run, course-begun, course-told}
use Rattle.run_histories.specs.Laws.{NeededLaw}
use Rattle.play_course.specs.Promise.{HasCommitOf, ShowsRight, EndsRight, Fulfils}
use Rattle.play_course.specs.Law.{PromiseLaw}
use Rattle.play_course.proofs.Commits.{committed, showed}
use Rattle.play_course.proofs.Ends.{later-ends, lines-end, released-nothing, unopened-end}
use Rattle.play_course.proofs.Releasing.{AreAfter, released-after}

-- a commit that took effect, in words of the histories
abbrev committed-so : (trees : Id12 → Option Tree) (client : ℕ) (id : Id12) (old new : List Event) → HasCommitOf (files_by trees) client id old new → Histories.HasCommitted client old new
committed-so trees client id old new c = record {
  branch = c.branch;
  bytes = c.takes_effect.bytes;
  old = version_at c.old;
  reply = c.event.reply;
  own = record { before = c.before; since = c.since; before_is = c.before_is; event = c.event; after = c.after; is = c.is; client_is = c.own; op_is = c.takes_effect.op_is; reply_is = refl };
  done = c.takes_effect.done;
  stored = c.takes_effect.stored;
  stood = c.takes_effect.stands;
  version_is = c.takes_effect.version;
}

module _ (initial : InitialLaw) (means : (bytes_at : Place → Option (List ℕ)) → MeansLaw bytes_at) (draw : Draw) (tasks : List Task) (before : ℕ → Changes) (old start new : List Event) (h : HasHistories draw tasks before old start new) where
  -- the opening commits nothing
  opening-plain : Each (λ (j : List Event) (e : Event). IsPlain e.op) old h.began.own
  opening-plain = path-plain begin_program old h.began.own h.began.left begin-plain h.began.path

  uncommitted : (client : ℕ) (id : Id12) → HasCommitOf (files_by (tree_of new)) client id old start → ⊥
  uncommitted client id c =
      let Plain : List Event → Event → Type 0 = λ j e. IsPlain e.op in
      let whole : old ++ h.began.own ≡ old ++ (c.since ++ c.event ∷ c.after) =
      sym h.began.is ∙ c.is ∙ ap (λ (x : List Event). x ++ c.event ∷ c.after) c.before_is ∙ append_assoc old c.since (c.event ∷ c.after) in
      let own : h.began.own ≡ c.since ++ c.event ∷ c.after = append_cancel_left old h.began.own (c.since ++ c.event ∷ c.after) whole in
      let plain = Each-at Plain old c.since c.event c.after (subst (Each Plain old) own opening-plain) in
      plain-no-commit c.event.op c.branch c.takes_effect.bytes (version_at c.old) (inl plain) c.takes_effect.op_is

  -- ---- a task that opens a session
  module _ (place : ℕ) (task : Task) (outcome : Outcome) (access : Access) (at : slice_get tasks place ≡ Some task) (head_is : task.head ≡ Session access) where
    abbrev Opens : Type 0
    Opens = TellsBy (Session access) (ids_at draw place) task (place + 1) start outcome new

    opens : TellsAt draw place task start outcome new → Opens
    opens t = subst (λ (x : Head). TellsBy x (ids_at draw place) task (place + 1) start outcome new) head_is t

    after : (t : Opens) → AreAfter t.session.shown outcome.shown
    after t = released-after (place + 1) t.session.shown t.ended outcome.shown new t.released

    shows : Opens → ShowsRight (files_by (tree_of new)) h.changes task access (place + 1) start new outcome
    shows t = elim t.tells [
      | inl none ↦ inl (record { shown_is = subst (λ (x : List Shown). AreAfter x outcome.shown) none.shown_is (after t); why = none.why; end_is = t.end_is ∙ none.end_is })
      | inr w ↦ showed initial means draw tasks before old start new t.ended t.since h t.is place task access t.session outcome at head_is w (after t) t.end_is
    ]

    -- as the session had ended
    session-ends : (session : Outcome) (ended : List Event) → SessionTells (ids_at draw place) access task (place + 1) start session ended → EndsRight (files_by (tree_of new)) (place + 1) session.end start ended
    session-ends session ended (inl none) = unopened-end (tree_of new) (place + 1) start ended (asked_by access (ids_at draw place)) task.line none.why session.end none.end_is none.tells
    session-ends session ended (inr w) = lines-end (tree_of new) (place + 1) start ended access w.left w.session w.last session.end w.ends

    ends : Opens → EndsRight (files_by (tree_of new)) (place + 1) outcome.end start new
    ends t =
        let nothing = released-nothing (place + 1) t.session.shown t.ended outcome.shown new t.released in
        subst (λ (end : End). EndsRight (files_by (tree_of new)) (place + 1) end start new) (sym t.end_is)
        (later-ends (files_by (tree_of new)) (place + 1) start t.ended new nothing t.session.end (session-ends t.session t.ended t.tells))

  keeps : (outcomes : List Outcome) (refs : Result (List RefLine) Refusal) → ((place : ℕ) (task : Task) (outcome : Outcome) → slice_get tasks place ≡ Some task → slice_get outcomes place ≡ Some outcome → TellsAt draw place task start outcome new) → ((lines : List RefLine) → refs ≡ Ok lines → TellsEnds (files_by (tree_of new)) h.changes new lines)
      → Fulfils (files_by (tree_of new)) tasks outcomes refs h.changes old start new
  keeps outcomes refs told ends_told = record {
    opening = h.began.own;
    start_is = h.began.is;
    uncommitted = uncommitted;
    lists = h.history;
    stand = h.stand;
    commits = λ since rest event branch version id is e. committed initial means draw tasks before old start new since rest event h is branch version id e;
    reads = λ place task outcome access at out head_is. shows place task outcome access at head_is (opens place task outcome access at head_is (told place task outcome at out));
    once = λ client id other a b. h.once client (committed-so (tree_of new) client id old new a) (committed-so (tree_of new) client other old new b);
    ends = λ place task outcome access at out head_is. ends place task outcome access at head_is (opens place task outcome access at head_is (told place task outcome at out));
    tags = h.tags_stand;
    tag_calls = h.tags;
    told = ends_told;
  }

pub promise-law : InitialLaw → ((bytes_at : Place → Option (List ℕ)) → MeansLaw bytes_at) → RunLaw → NeededLaw → RefsLaw → PromiseLaw
promise-law initial means run needed closing draw script before old new opening outcomes refs wells c tells sound new_run =
    let h = subst (λ (start : List Event). HasHistories draw script.tasks before old.seen start new.seen) (course-begun draw script old new opening outcomes refs wells c tells)
    (run draw script.tasks before old.seen new.seen sound new_run (course-run draw script old new opening outcomes refs wells c tells)) in
    record {
      histories = h;
      needed = needed draw script.tasks before outcomes old.seen c.begun.seen new.seen h (c.told tells);
      keeps = keeps initial means draw script.tasks before old.seen c.begun.seen new.seen h outcomes refs (c.told tells) (course-told closing draw script old new opening outcomes refs c tells h.changes h.stand h.tags_stand);
    }

-- The commits of a run that took effect are its sessions' own.
use Rattle.std.proofs.Common.{◌≡◌, ℕ, ◌+◌, List, [], ◌∷◌, ◌++◌, sym, ◌∙◌, ap, subst, append_assoc}
use Rattle.std.proofs.lemmas.List.{append_cancel_left}
use Rattle.std.specs.Prelude.{Option, Some}
use Rattle.ice_ids.specs.declared.Id12.{Id12}
use Rattle.ice_ids.specs.declared.drawing.Draw.{Draw}
use Rattle.zarr_tree.specs.Changes.{Changes}
use Rattle.snapshot_file.specs.declared.snapshot.SnapshotFile.{SnapshotFile}
use Rattle.object_store.specs.declared.keys.Key.{Key}
use Rattle.object_store.specs.declared.events.Event.{Event}
use Rattle.object_store.proofs.Journals.{Each-at, Each-back, Each-two}
use Rattle.store_api.specs.Journal.{Each, IsFirst, IsGood, IsGoodJournal, IsMadeOver, IsOnce, puts_of, snap_made, tree_of}
use Rattle.reach.specs.Own.{HasPut, HoldsBesides, IsOwn, OwnLaw}
use Rattle.history_laws.specs.Refs.{Commits}
use Rattle.history_laws.specs.Laws.{CommitsChild}
use Rattle.script_calls.specs.declared.calls.Access.{Access}
use Rattle.play_script.specs.declared.scripts.Task.{Task}
use Rattle.run_histories.specs.Told.{HasHistories, CommitsEnter}
use Rattle.run_histories.specs.Beside.{OpensAt}

-- a commit of the session of a task: whatever its snapshot holds, the base holds, or the session put it since the tasks began
pub record IsSessions (tasks : List Task) (start before : List Event) (event : Event) (base id : Id12) : Type 0 where
  pub other : ℕ
  pub access : Access
  pub opens : OpensAt tasks other access
  pub client_is : event.client ≡ other + 1
  pub own : HoldsBesides (λ (key : Key). HasPut event.client key start before) base id before

some-same : {A : Type 0} (a b : A) → Some a ≡ Some b → a ≡ b
some-same a b e = cc

-- two parents of what was made are one
one-parent : (o : Option SnapshotFile) (r s : SnapshotFile) (a b : Id12) → o ≡ Some r → o ≡ Some s → r.parent ≡ Some a → s.parent ≡ Some b → a ≡ b
one-parent o r s a b is also e f = some-same a b (sym e ∙ ap (λ (x : SnapshotFile). x.parent) (some-same r s (sym is ∙ also)) ∙ f)

module _ (owns : OwnLaw) (child : CommitsChild) (draw : Draw) (tasks : List Task) (changes : ℕ → Changes) (old start new : List Event) (h : HasHistories draw tasks changes old start new) where
  commit-at : (seen after : List Event) (event : Event) → new ≡ (old ++ seen) ++ event ∷ after → (base id : Id12) → Commits (old ++ seen) event base id → IsSessions tasks start (old ++ seen) event base id
  commit-at seen after event is base id k =
      let parts : h.added ≡ seen ++ event ∷ after = append_cancel_left old h.added (seen ++ event ∷ after) (sym h.is ∙ is ∙ append_assoc old seen (event ∷ after)) in
      let Enters : List Event → Event → Type 0 = CommitsEnter draw tasks start (puts_of new) (tree_of new) h.changes in
      let entered = Each-at Enters old seen event after (subst (Each Enters old) parts h.commits) k.name k.bytes k.old id k.stored k.op_is k.names k.done k.stands k.version_is in
      let goods = Each-back IsGood [] (old ++ seen) (event ∷ after) (subst IsGoodJournal is h.sound.good) in
      let once : IsOnce (old ++ seen) = (Each-back IsFirst [] (old ++ seen) (event ∷ after) (subst IsOnce is h.sound.once)).0 in
      let over : IsMadeOver (old ++ seen) base id = child (old ++ seen) event base id once (Each-two IsGood (old ++ seen) event after goods.1).0 k in
      let s = entered.of_session in
      let same : s.session.base ≡ base = one-parent (snap_made (old ++ seen) id) s.made.snap over.snap s.session.base base s.made.made over.made s.made.parent over.parent in
      record {
        other = s.place;
        access = s.of_task.access;
        opens = record { task = s.task; at = s.at; head_is = s.of_task.head_is };
        client_is = s.client_is;
        own = owns.snapshots event.client base id start (old ++ seen) goods.0 (subst (λ (b : Id12). IsOwn event.client b id start (old ++ seen)) same entered.own);
      }

  pub commit-own : (seen after before : List Event) (event : Event) → before ≡ old ++ seen → new ≡ before ++ event ∷ after → (base id : Id12) → Commits before event base id → IsSessions tasks start before event base id
  commit-own seen after before event is =
      subst (λ (j : List Event). new ≡ j ++ event ∷ after → (base id : Id12) → Commits j event base id → IsSessions tasks start j event base id) (sym is) (commit-at seen after event)

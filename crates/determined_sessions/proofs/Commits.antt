-- The changes of a commit that took effect are determined.
use Rattle.std.proofs.Common.{◌≡◌, ℕ, List, [], ◌∷◌, ◌++◌, length, Option, Some, sym, ◌∙◌, ap, subst, append_assoc}
use Rattle.std.specs.Prelude.{option_and_then}
use Rattle.std.proofs.lemmas.List.{append_cancel_left}
use Rattle.ice_ids.specs.declared.Id12.{Id12}
use Rattle.ice_ids.specs.declared.drawing.Draw.{Draw}
use Rattle.zarr_tree.specs.declared.lists.Touched.{Touched}
use Rattle.zarr_tree.specs.Trees.{Tree}
use Rattle.zarr_tree.specs.Changes.{Changes, apply, IsNormal}
use Rattle.zarr_tree.specs.Touched.{Touches}
use Rattle.zarr_tree.specs.Held.{touched}
use Rattle.zarr_tree.proofs.Listing.{touched-law}
use Rattle.determined_changes.specs.Same.{AreSame}
use Rattle.determined_changes.proofs.Same.{same-law}
use Rattle.snapshot_file.specs.declared.snapshot.SnapshotFile.{SnapshotFile}
use Rattle.repo_objects.specs.Trees.{Puts, bytes_at}
use Rattle.object_store.specs.declared.events.Event.{Event}
use Rattle.object_store.specs.Machine.{version_at}
use Rattle.object_store.proofs.Journals.{Each-at, Each-back}
use Rattle.store_api.specs.Journal.{Each, IsGood, puts_of, tree_of}
use Rattle.histories.specs.Formats.{files_by}
use Rattle.session.specs.Sessions.{SessionState, base_nodes, base_tree, changes_in, overlay}
use Rattle.commit_path.specs.Owed.{HasChunks}
use Rattle.commit_path.proofs.Putting.{puts-kept}
use Rattle.play_script.specs.declared.scripts.Task.{Task}
use Rattle.run_histories.specs.Told.{HasHistories, IsEntered, CommitsEnter}
use Rattle.run_histories.proofs.Sized.{changes-stay}
use Rattle.play_course.specs.Promise.{TakesEffect}
use Rattle.determined_sessions.specs.Commits.{Account, AreSameOver, CommitsLaw}

some-same : {A : Type 0} (a b : A) → Some a ≡ Some b → a ≡ b
some-same a b e = cc

-- ---- two sessions of one commit
module _ (journal : List Event) (puts : Puts) (trees : Id12 → Option Tree) (stay : (s : SessionState) → HasChunks (puts_of journal) s.held.chunks → changes_in puts s ≡ changes_in (puts_of journal) s)
    (client : ℕ) (branch : List ℕ) (old : ℕ) (id : Id12) (draw other : Draw) (tasks more : List Task) (start begun : List Event) (changes given : ℕ → Changes)
    (a : IsEntered draw tasks start puts trees changes journal client branch old id) (b : IsEntered other more begun puts trees given journal client branch old id) where
  abbrev s : SessionState
  s = a.of_session.session

  abbrev r : SessionState
  r = b.of_session.session

  -- one parent was named
  base-same : s.base ≡ r.base
  base-same =
      let m = a.of_session.made in
      let n = b.of_session.made in
      let snap : m.snap ≡ n.snap = some-same m.snap n.snap (sym m.made ∙ n.made) in
      some-same s.base r.base (sym m.parent ∙ ap (λ (f : SnapshotFile). f.parent) snap ∙ n.parent)

  tree-same : base_tree puts s ≡ base_tree puts r
  tree-same = some-same (base_tree puts s) (base_tree puts r) (sym a.base_is ∙ ap trees (a.base ∙ base-same ∙ sym b.base) ∙ b.base_is)

  -- one tree was made of its own
  after-same : apply (changes_in puts s) (base_tree puts s) ≡ apply (changes_in puts r) (base_tree puts s)
  after-same = some-same (overlay puts s) (overlay puts r) (sym a.tree ∙ b.tree) ∙ ap (apply (changes_in puts r)) (sym tree-same)

  -- and one log lists it
  lists-same : touched s.held (base_nodes s) ≡ touched r.held (base_nodes r)
  lists-same = some-same (touched s.held (base_nodes s)) (touched r.held (base_nodes r)) (sym a.of_session.made.logged ∙ b.of_session.made.logged)

  touches-first : Touches (changes_in puts s) (base_tree puts s) (touched s.held (base_nodes s))
  touches-first = touched-law (bytes_at puts) s.held (base_tree puts s)

  touches-second : Touches (changes_in puts r) (base_tree puts s) (touched s.held (base_nodes s))
  touches-second =
      subst (λ (l : Touched). Touches (changes_in puts r) (base_tree puts s) l) (sym lists-same)
      (subst (λ (t : Tree). Touches (changes_in puts r) t (touched r.held (base_nodes r))) (sym tree-same) (touched-law (bytes_at puts) r.held (base_tree puts r)))

  sessions-same : AreSame (base_tree puts s) (changes_in puts s) (changes_in puts r)
  sessions-same =
      same-law (base_tree puts s) (changes_in puts s) (changes_in puts r) (touched s.held (base_nodes s)) a.normal (subst (IsNormal (changes_in puts r)) (sym tree-same) b.normal) after-same touches-first touches-second

  first-is : changes_in puts s ≡ changes (length journal)
  first-is = stay s a.of_session.made.chunks ∙ sym a.of_session.changes_are

  second-is : changes_in puts r ≡ given (length journal)
  second-is = stay r b.of_session.made.chunks ∙ sym b.of_session.changes_are

  pub entered-same : AreSameOver trees journal id (changes (length journal)) (given (length journal))
  entered-same = record {
    base = s.base;
    parent = ap (λ (o : Option SnapshotFile). option_and_then (λ (f : SnapshotFile). f.parent) o) a.of_session.made.made ∙ a.of_session.made.parent;
    tree = base_tree puts s;
    has = ap trees (sym a.base) ∙ a.base_is;
    same = subst (λ (c : Changes). AreSame (base_tree puts s) c (given (length journal))) first-is (subst (AreSame (base_tree puts s) (changes_in puts s)) second-is sessions-same);
  }

-- ---- two accounts
module _ (old since rest : List Event) (event : Event) where
  abbrev journal : List Event
  journal = old ++ since

  abbrev whole : List Event
  whole = journal ++ event ∷ rest

  enters : (draw : Draw) (tasks : List Task) (before : ℕ → Changes) (start : List Event) (g : HasHistories draw tasks before old start whole) → CommitsEnter draw tasks start (puts_of whole) (tree_of whole) g.changes journal event
  enters draw tasks before start g =
      let added : g.added ≡ since ++ event ∷ rest = append_cancel_left old g.added (since ++ event ∷ rest) (sym g.is ∙ append_assoc old since (event ∷ rest)) in
      let Enters : List Event → Event → Type 0 = CommitsEnter draw tasks start (puts_of whole) (tree_of whole) g.changes in
      Each-at Enters old since event rest (subst (Each Enters old) added g.commits)

  committed-at : (a b : Account old whole) (branch : List ℕ) (version : ℕ) (id : Id12) → TakesEffect (files_by (tree_of whole)) journal event branch version id → AreSameOver (tree_of whole) journal id (a.told.changes (length journal)) (b.told.changes (length journal))
  committed-at a b branch version id e =
      let good = (Each-back IsGood [] journal (event ∷ rest) a.told.sound.good).1 in
      let first = enters a.draw a.tasks a.before a.start a.told branch e.bytes (version_at version) id e.stored e.op_is e.names e.done e.stands e.version in
      let second = enters b.draw b.tasks b.before b.start b.told branch e.bytes (version_at version) id e.stored e.op_is e.names e.done e.stands e.version in
      entered-same journal (puts_of whole) (tree_of whole) (λ s has. changes-stay (puts_of journal) (puts_of whole) s (puts-kept journal (event ∷ rest) good a.told.sound.once) has)
      event.client branch version id a.draw b.draw a.tasks b.tasks a.start b.start a.told.changes b.told.changes first second

pub commits-law : CommitsLaw
commits-law old new a b since rest event branch version id is e =
    subst (λ (n : List Event). (x y : Account old n) → TakesEffect (files_by (tree_of n)) (old ++ since) event branch version id → AreSameOver (tree_of n) (old ++ since) id (x.told.changes (length (old ++ since))) (y.told.changes (length (old ++ since)))) (sym is)
    (λ x y f. committed-at old since rest event x y branch version id f) a b e

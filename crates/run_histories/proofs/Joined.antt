-- The law of runs.
use Rattle.std.proofs.Common.{◌≡◌, ℕ, ◌+◌, false, List, [], ◌++◌, length, ◌<◌, refl, sym, ◌∙◌, ap, subst, arith}
use Rattle.ice_ids.specs.declared.drawing.AnyIds.{AnyIds}
use Rattle.ice_ids.specs.declared.drawing.Draw.{Draw}
use Rattle.ice_ids.specs.Drawing.{IsAmong}
use Rattle.ice_ids.specs.Text.{initial_id}
use Rattle.ice_ids.proofs.Drawn.{count-once}
use Rattle.zarr_tree.specs.Changes.{Changes, none}
use Rattle.repo_objects.specs.Laws.{InitialLaw}
use Rattle.store_api.specs.Journal.{Each, IsFirst, IsGood, IsGoodJournal, IsOnce, IsUnused, WasPut, tree_of}
use Rattle.object_store.specs.Machine.{Slot}
use Rattle.object_store.specs.declared.events.Event.{Event}
use Rattle.object_store.specs.declared.keys.Key.{Key}
use Rattle.object_store.specs.declared.keys.Key.TheVariants.{Chunk, Manifest, Snapshot, Txn}
use Rattle.object_store.proofs.Journals.{Each-append, Each-back, Each-none, Each-weaker}
use Rattle.object_store.proofs.Slots.{slot-none}
use Rattle.store_api.proofs.Standing.{snap_made-put}
use Rattle.histories.specs.Calls.{CommitsApply, IsGiven}
use Rattle.histories.specs.Formats.{files_by, applied}
use Rattle.histories.proofs.Choosing.{chosen}
use Rattle.histories.proofs.Linked.{history-law}
use Rattle.histories.proofs.TagTrees.{keeps-its-tree}
use Rattle.histories.proofs.Tagging.{tags-law}
use Rattle.play_script.specs.Collections.{has_collection}
use Rattle.play_script.specs.declared.scripts.Task.{Task}
use Rattle.repository.specs.Beginning.{begin_program}
use Rattle.repository.specs.Refs.{refs_program}
use Rattle.play_tasks.specs.Bases.{IsOpenAt}
use Rattle.play_tasks.specs.Tasks.{ids_at, IsOfClient}
use Rattle.run_histories.specs.Runs.{AllCaused, AllTrees, IsRun, IsSound, RanAlone}
use Rattle.run_histories.specs.Sources.{DrawsOthers, IsLeftUnput, IsNewRun, IsNewSource, IsOfAnother, IsUnputRun, ObjectsAreUnput, PutsUnput}
use Rattle.run_histories.specs.Told.{AllKeepFrozen, AllNormal, BegunLaw, ComesWhereOpen, CommitsSession, HasCollections, HasExpiries, HasHistories, IsSolved, NoneHidden, NothingLaw, OthersLaw, RunLaw}
use Rattle.run_histories.proofs.Along.{CommitsOwn, Fits, goes}
use Rattle.run_histories.proofs.Beginnings.{began-at-last}
use Rattle.run_histories.proofs.Cutting.{run-expiries}
use Rattle.run_histories.proofs.Drawing.{AreOf, are-among, ids_at-of}
use Rattle.run_histories.proofs.Firsts.{all, all-is, all-keep, all-of_run, client-task, objects-along, run-collections, unput-run}
use Rattle.run_histories.proofs.Given.{CommitsNormal, before-given, joined, joined-before, joined-right, solved-enter, solved-given}
use Rattle.run_histories.proofs.Played.{all-frozen, all-normal, none-hidden}
use Rattle.run_histories.proofs.Putting.{tree-put}
use Rattle.run_histories.proofs.Removals.{unput-new}
use Rattle.run_histories.proofs.Running.{HoldsOf, Known, run-holds, run-known}
use Rattle.run_histories.proofs.Single.{CommitsFirst, commits-once}
use Rattle.run_histories.proofs.Sources.{node-apart, object-apart, object-not_initial}
use Rattle.run_histories.proofs.Unput.{others-unput, unput-id}

-- What a run leaves that goes on a journal.
record Leaves (draw : Draw) (tasks : List Task) (old start added : List Event) : Type 0 where
  began : RanAlone begin_program old start
  played : List Event
  closed : RanAlone refs_program (start ++ played) (old ++ added)
  bases : Each (ComesWhereOpen draw tasks start) start played
  fits : Each (Fits draw tasks start) old added
  normal : Each (CommitsNormal draw tasks start) old added
  trees : AllTrees (old ++ added)
  causes : AllCaused (old ++ added)
  collections : HasCollections tasks old start (old ++ added)
  expiries : HasExpiries tasks old start (old ++ added)
  others : has_collection tasks ≡ false → (ids : AnyIds) → IsOfAnother draw tasks ids → IsNewSource ids old → IsNewSource ids (old ++ added)
  others_beside : (ids : AnyIds) → IsOfAnother draw tasks ids → DrawsOthers draw tasks ids → ObjectsAreUnput ids old → IsNewSource ids old → IsNewSource ids (old ++ added)
  unput : IsUnputRun draw tasks old → Each PutsUnput old added × IsLeftUnput draw tasks start (old ++ added)
  unput_others : (ids : AnyIds) → DrawsOthers draw tasks ids → ObjectsAreUnput ids old → ObjectsAreUnput ids (old ++ added)
  frozen : AllKeepFrozen draw tasks old (old ++ added)
  sessions : AllNormal draw tasks old (old ++ added)
  unhidden : NoneHidden draw tasks old (old ++ added)

module _ (draw : Draw) (tasks : List Task) where
  -- ---- the law, where the whole journal is what was added to the old one
  whole-law : (before : ℕ → Changes) (old start added : List Event) → IsSound old before → Leaves draw tasks old start added → HasHistories draw tasks before old start (old ++ added)
  whole-law before old start added s l =
      let whole : List Event = old ++ added in
      let Q : List Event → Event → Changes → Type 0 = λ h e c. CommitsSession draw tasks start c h e.client e.op in
      let g = goes draw tasks start old added s.once l.fits in
      let good : Each IsGood old added = Each-weaker (Fits draw tasks start) IsGood (λ h e f. f.good) old added l.fits in
      let all : IsGoodJournal whole = Each-append IsGood [] old added s.good good in
      let once : IsOnce whole = Each-append IsFirst [] old added s.once g.first in
      let after : ℕ → Changes = chosen Q old added g.knows in
      let changes : ℕ → Changes = joined before old after in
      let solved : Each (IsSolved draw tasks start changes) old added = joined-right Q before old added g.knows in
      let given : Each (IsGiven (files_by (tree_of whole)) (applied changes)) [] whole =
      Each-append (IsGiven (files_by (tree_of whole)) (applied changes)) [] old added
      (before-given before changes old added s.good s.once good g.first (joined-before before after old) s.given)
      (solved-given draw tasks start changes whole all once old added refl solved l.normal)
      in
      let law = history-law whole (applied changes) all once given in
      let tags = tags-law (tree_of whole) whole all in
      record {
        added = added;
        is = refl;
        began = l.began;
        changes = changes;
        same = joined-before before after old;
        solved = solved;
        commits = solved-enter draw tasks start changes whole all once old added refl solved l.normal (Each-back (CommitsApply (files_by (tree_of whole)) (applied changes)) [] old added law.0.commits).1 (Each-weaker (Fits draw tasks start) (CommitsOwn start) (λ h e f. f.own) old added l.fits);
        once = commits-once start old added (Each-weaker (Fits draw tasks start) (CommitsFirst start) (λ h e f. f.early) old added l.fits);
        played = l.played;
        closed = l.closed;
        bases = l.bases;
        opened = began-at-last whole changes all once law.0;
        frozen = l.frozen;
        normal = l.sessions;
        unhidden = l.unhidden;
        sound = record { good = all; once = once; given = given; trees = l.trees; causes = l.causes };
        collections = l.collections;
        expiries = l.expiries;
        others = l.others;
        others_beside = l.others_beside;
        unput = λ u. (l.unput u).0;
        unput_left = λ u. (l.unput u).1;
        unput_others = l.unput_others;
        history = law.0;
        stand = law.1;
        tags = tags.0;
        tags_stand = tags.1;
        tags_last = λ tag. keeps-its-tree old added tag s.good s.once good g.first;
      }

-- where an event of a client comes
comes-open : (draw : Draw) (tasks : List Task) (start journal : List Event) (event : Event) → IsOfClient draw tasks start journal event → ComesWhereOpen draw tasks start journal event
comes-open draw tasks start journal event c place task at client =
    let same = client-task draw tasks start journal event c place task at client in
    subst (λ (k : ℕ). IsOpenAt (ids_at draw k) task (k + 1) start journal event.op) same.0
    (subst (λ (t : Task). IsOpenAt (ids_at draw c.place) t (c.place + 1) start journal event.op) same.1 c.careful.open_at)

module _ (initial : InitialLaw) (draw : Draw) (tasks : List Task) (before : ℕ → Changes) (old new : List Event) (s : IsSound old before) (new_run : IsNewRun draw tasks old) (r : IsRun draw tasks old new) where
  abbrev added : List Event
  added = all draw tasks old new r

  is : new ≡ old ++ added
  is = all-is draw tasks old new r

  abbrev Knows : List Event → Event → Type 0
  Knows = Known initial draw tasks before old new s new_run r

  known : Each Knows old added
  known = run-known initial draw tasks before old new s new_run r

  last : HoldsOf initial draw tasks before old new s new_run r (old ++ added)
  last = subst (HoldsOf initial draw tasks before old new s new_run r) is (run-holds initial draw tasks before old new s new_run r)

  others-never : (ids : AnyIds) → DrawsOthers draw tasks ids → ObjectsAreUnput ids old → ObjectsAreUnput ids (old ++ added)
  others-never ids other u = others-unput draw tasks new_run.once r.well r.begun ids other old added (all-of_run draw tasks old new r) u

  run-leaves : Leaves draw tasks old r.begun added
  run-leaves = record {
    began = r.opening;
    played = r.playing.own;
    closed = subst (λ (h : List Event). RanAlone refs_program h (old ++ added)) r.playing.is (subst (λ (h : List Event). RanAlone refs_program r.played h) is r.closing);
    bases = Each-weaker (IsOfClient draw tasks r.begun) (ComesWhereOpen draw tasks r.begun) (λ h e c. comes-open draw tasks r.begun h e c) r.begun r.playing.own r.playing.owed;
    fits = Each-weaker Knows (Fits draw tasks r.begun) (λ h e k. k.fits) old added known;
    normal = Each-weaker Knows (CommitsNormal draw tasks r.begun) (λ h e k. k.commits) old added known;
    trees = last.trees;
    causes = last.causes;
    collections = subst (HasCollections tasks old r.begun) is (run-collections draw tasks old new r);
    expiries = subst (HasExpiries tasks old r.begun) is (run-expiries draw tasks old new r);
    others = λ nobody ids another source. record { objects = objects-along ids old added (all-keep draw tasks old new r nobody) source.objects; nodes = last.nodes ids another source.nodes };
    others_beside = λ ids another other u source. record { objects = λ id may. unput-new (old ++ added) id (others-never ids other u id may); nodes = last.nodes ids another source.nodes };
    unput = λ u. unput-run draw tasks old new r new_run.once u;
    unput_others = others-never;
    frozen = subst (AllKeepFrozen draw tasks old) is (all-frozen initial draw tasks before old new s new_run r);
    sessions = subst (AllNormal draw tasks old) is (all-normal initial draw tasks before old new s new_run r);
    unhidden = subst (NoneHidden draw tasks old) is (none-hidden initial draw tasks before old new s new_run r);
  }

pub run-law : InitialLaw → RunLaw
run-law initial draw tasks before old new s new_run r =
    subst (λ (h : List Event). HasHistories draw tasks before old r.begun h) (sym (all-is draw tasks old new r))
    (whole-law draw tasks before old r.begun (all draw tasks old new r) s (run-leaves initial draw tasks before old new s new_run r))

-- ---- an empty store
nothing-unused : (key : Key) → IsUnused [] key
nothing-unused key e = ap (λ (s : Slot). s.first) (slot-none key)

nothing-put : (key : Key) → ¬ WasPut [] key
nothing-put key w = let none = ap (λ (s : Slot). s.first) (slot-none key) in let bad = sym none ∙ w.1 in cc

nothing-sound : (before : ℕ → Changes) → IsSound [] before
nothing-sound before = record {
  good = Each-none IsGood [];
  once = Each-none IsFirst [];
  given = Each-none (IsGiven (files_by (tree_of [])) (applied before)) [];
  trees = λ id w. absurd (nothing-put (Snapshot id) w);
  causes = λ base id child. absurd (nothing-put (Snapshot id) (snap_made-put [] id child.snap child.made));
}

nothing-new : (ids : AnyIds) → IsNewSource ids []
nothing-new ids = record {
  objects = λ id d. record { snapshot = nothing-unused (Snapshot id); log = nothing-unused (Txn id); manifest = nothing-unused (Manifest id); chunk = nothing-unused (Chunk id) };
  nodes = λ id t p n tree node may. nothing-put (Snapshot id) (tree-put [] id t tree);
}

nothing-unput : (ids : AnyIds) → ObjectsAreUnput ids []
nothing-unput ids id may = unput-id [] id (λ key is. ap (λ (s : Slot). s.first) (slot-none key))

pub nothing-law : NothingLaw
nothing-law = (nothing-sound, nothing-new, nothing-unput)

pub begun-law : InitialLaw → BegunLaw
begun-law initial draw tasks new once r =
    run-law initial draw tasks (λ n. none) [] new (nothing-sound (λ n. none)) (record { once = once; sources = λ place within. nothing-new (ids_at draw place); unput = λ collects place within. nothing-unput (ids_at draw place) }) r

-- ---- sources that count for others
pub others-law : OthersLaw
others-law tasks ids most small fits among differs = (
  λ place within id own may. differs place within (node-apart Draw.Count most (count-once most small) ids (ids_at Draw.Count place) id among (among_too place within) may own ∙ (source place).1),
  record {
    others = λ place within id own may. differs place within (object-apart Draw.Count most (count-once most small) ids (ids_at Draw.Count place) id among (among_too place within) may own ∙ (source place).1);
    initial = λ may. object-not_initial Draw.Count most (count-once most small) ids initial_id among may refl;
  },
)
  where
    source : (place : ℕ) → AreOf Draw.Count (place + 1) (ids_at Draw.Count place)
    source place = ids_at-of Draw.Count place

    among_too : (place : ℕ) → place < length tasks → IsAmong Draw.Count most (ids_at Draw.Count place)
    among_too place within = are-among Draw.Count (place + 1) most (ids_at Draw.Count place) (omega (arith, within, fits)) (source place)

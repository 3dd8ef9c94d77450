-- The histories of a course.
use Rattle.std.proofs.Common.{◌≡◌, ◌⊎◌, ℕ, inl, inr, List, [], refl, sym, ◌∙◌, ap, subst, append-nil}
use Rattle.std.specs.Prelude.{◌↔◌, Option, Some, None, Result, Ok, Err, IsTrue, IfOk, IfErr, All}
use Rattle.std.specs.declared.alloc.AllocError.{AllocError}
use Rattle.ice_ids.specs.declared.Id12.{Id12}
use Rattle.ice_ids.specs.declared.drawing.Draw.{Draw}
use Rattle.zarr_tree.specs.Changes.{Changes}
use Rattle.object_store.specs.declared.events.Event.{Event}
use Rattle.object_store.specs.declared.keys.Key.TheVariants.{Branch, Tag, Tombstone}
use Rattle.store_api.specs.declared.machines.Refusal.{Refusal}
use Rattle.object_store.specs.Machine.{Stored, found}
use Rattle.store_api.specs.Journal.{Each, IsGood, tree_of}
use Rattle.store_api.specs.Callers.{Caller, View, HasAll, as_client}
use Rattle.store_api.specs.Program.{Done, Path}
use Rattle.object_store.proofs.Journals.{Each-none}
use Rattle.store_api.proofs.Programs.{Path-none}
use Rattle.histories.specs.Repository.{Entry, last}
use Rattle.histories.specs.Calls.{history_of, StandsAs}
use Rattle.histories.specs.Tags.{TagState, Absent, Stands, Gone, made_as}
use Rattle.histories.specs.TagCalls.{tag_of, IsBuriedAs, StandsByState}
use Rattle.histories.specs.Files.{Files}
use Rattle.histories.specs.Formats.{files_by, applied}
use Rattle.store_api.specs.Running.{Program, IsCutOff, Runs}
use Rattle.repository.specs.Beginning.{begin_program}
use Rattle.repository.specs.Refs.{refs_program}
use Rattle.repository.specs.Closing.{HasLine, tag_line, NamesAt, TellsRefs, RefsLaw}
use Rattle.play_script.specs.declared.scripts.Script.{Script}
use Rattle.play_script.specs.Well.{IsWell, IsWellTask}
use Rattle.play_outcome.specs.declared.outcome.Outcome.{Outcome}
use Rattle.play_outcome.specs.declared.outcome.RefLine.{RefLine}
use Rattle.play_tasks.specs.Tasks.{IsOfClient}
use Rattle.run_histories.specs.Sources.{IsNewRun}
use Rattle.run_histories.specs.Runs.{RanAlone, PlayedAlone, IsBy, IsSound, IsRun}
use Rattle.run_histories.specs.Told.{HasHistories, RunLaw}
use Rattle.play_course.specs.declared.course.Played.{Played}
use Rattle.play_course.specs.Course.{Course, OnlyBegan, Plays}
use Rattle.play_course.specs.Leaving.{TagEndsAt, TellsEnds, KeepsRefs}
use Rattle.play_course.proofs.Playing.{at-once, own-zero, tells-on}

-- ---- the parts of a run
-- what is left of a program that came to its end, or to where memory ran out
left-of : {A : Type 0} (p : Program A) (own : List Event) (result : Result A Refusal) → Path p own (Done result) ⊎ IsCutOff p own result → (q : Program A) × Path p own q
left-of p own result (inl path) = (Done result, path)
left-of p own result (inr cut) = (cut.left, cut.path)

pub ran-alone : {A : Type 0} (p : Program A) (result : Result A Refusal) (old new : View) → IsTrue old.caller.tells → HasAll old.caller → Runs old new p result → RanAlone p old.seen new.seen
ran-alone p result old new told all r =
    let left = left-of p r.own result r.ends in
    record { own = r.own; is = (r.alone told all).is; good = (r.alone told all).good; left = left.0; path = left.1 }

-- where client 0 ran it, the events are its
ran-zero : {A : Type 0} (p : Program A) (result : Result A Refusal) (old new : View) (told : IsTrue old.caller.tells) (all : HasAll (as_client 0 old).caller) (r : Runs (as_client 0 old) new p result) → Each (IsBy 0) old.seen (ran-alone p result (as_client 0 old) new told all r).own
unfolding ran-alone
ran-zero p result old new told all r = own-zero old new p result r told

plays-alone : (draw : Draw) (script : Script) (old new : View) (opening : Result (Unit {0}) Refusal) (outcomes : List Outcome) → IsTrue old.caller.tells → Plays draw script old new opening outcomes → PlayedAlone draw script.tasks old.seen new.seen
plays-alone draw script old new (Ok done) outcomes t p = let r = at-once script.turns draw script.tasks old.caller.tells outcomes old.seen new.seen p.ran in record { own = r.own; is = r.is t; owed = r.careful t }
plays-alone draw script old new (Err why) outcomes t p = record { own = []; is = ap (λ (v : View). v.seen) p.0 ∙ sym (append-nil old.seen); owed = Each-none (IsOfClient draw script.tasks old.seen) old.seen }

-- ---- the refs that are told
-- what stands at a branch is its history's last entry
names-ends : (files : Files) (id : Id12) (stands : Option Stored) (end : Option Entry) → StandsAs files stands end → (s : Stored) → stands ≡ Some s → files.ref s.bytes ≡ Some id → (e : Entry) × (end ≡ Some e) × (e.id ≡ id)
names-ends files id None None k s at names = cc
names-ends files id None (Some e) k s at names = cc
names-ends files id (Some x) None k s at names = absurd k
names-ends files id (Some x) (Some e) k s at names = (e, refl, same (sym k.1 ∙ ap (λ (b : List ℕ). files.ref b) (bytes at) ∙ names))
  where
    bytes : Some x ≡ Some s → x.bytes ≡ s.bytes
    bytes h = cc

    same : Some e.id ≡ Some id → e.id ≡ id
    same h = cc

ends-names : (files : Files) (id : Id12) (stands : Option Stored) (end : Option Entry) → StandsAs files stands end → (e : Entry) → end ≡ Some e → e.id ≡ id → (s : Stored) × (stands ≡ Some s) × (files.ref s.bytes ≡ Some id)
ends-names files id None None k e at names = cc
ends-names files id None (Some x) k e at names = absurd k
ends-names files id (Some s) None k e at names = absurd k
ends-names files id (Some s) (Some x) k e at names = (s, refl, k.1 ∙ ap (λ (i : Id12). Some i) (same at ∙ names))
  where
    same : Some x ≡ Some e → x.id ≡ e.id
    same h = cc

-- a tag that has no tombstone stands as its state says
tag-stands : (files : Files) (id : Id12) (state : TagState) (at tombstone : Option Stored) → StandsAs files at (made_as state) → IsBuriedAs state tombstone → tombstone ≡ None → (s : Stored) → at ≡ Some s → files.ref s.bytes ≡ Some id → (e : Entry) × (state ≡ Stands e) × (e.id ≡ id)
tag-stands files id Absent None tombstone k b none s e names = cc
tag-stands files id Absent (Some x) tombstone k b none s e names = absurd k
tag-stands files id (Stands x) at tombstone k b none s e names = let end = names-ends files id at (Some x) k s e names in (x, refl, ap (λ (y : Entry). y.id) (entry_same x end.0 end.1) ∙ end.2)
  where
    entry_same : (a c : Entry) → Some a ≡ Some c → a ≡ c
    entry_same a c h = cc
tag-stands files id (Gone x) at tombstone k b none s e names = let there = sym b.1 ∙ none in absurd cc

-- and one that stands has none
tag-unburied : (state : TagState) (tombstone : Option Stored) (e : Entry) → state ≡ Stands e → IsBuriedAs state tombstone → tombstone ≡ None
tag-unburied state tombstone e is b = subst (λ (s : TagState). IsBuriedAs s tombstone) is b

module _ (changes : ℕ → Changes) (journal : List Event) where
  -- the state of a tag
  abbrev state : List ℕ → TagState
  state name = tag_of (files_by (tree_of journal)) journal name

  told-tags : (lines : List RefLine) → ((tag : List ℕ) → StandsByState (files_by (tree_of journal)) journal tag) → TellsRefs journal lines → (name : List ℕ) (id : Id12) → (HasLine lines (tag_line name id) ↔ TagEndsAt (files_by (tree_of journal)) journal name id)
  told-tags lines stand t name id = (
    λ line.
        let n = (t.tags name id).0 line in
        let e = tag-stands (files_by (tree_of journal)) id (state name) (found journal (Tag name)) (found journal (Tombstone name)) (stand name).tag (stand name).tombstone n.1 n.0.stored n.0.stands n.0.names in
        record { entry = e.0; stands = e.1; names = e.2 },
    λ end.
        let s = ends-names (files_by (tree_of journal)) id (found journal (Tag name)) (made_as (state name)) (stand name).tag end.entry (ap made_as end.stands) end.names in
        (t.tags name id).1 (record { stored = s.0; stands = s.1; names = s.2 }, tag-unburied (state name) (found journal (Tombstone name)) end.entry end.stands (stand name).tombstone),
  )

  told-ends : (lines : List RefLine) → ((branch : List ℕ) → StandsAs (files_by (tree_of journal)) (found journal (Branch branch)) (last (history_of (files_by (tree_of journal)) (applied changes) journal branch))) → ((tag : List ℕ) → StandsByState (files_by (tree_of journal)) journal tag) → TellsRefs journal lines → TellsEnds (files_by (tree_of journal)) changes journal lines
  told-ends lines stand tags t = record {
    stand = t;
    tags = told-tags lines tags t;
    ends = λ name id. (
      λ line.
          let n : NamesAt journal (Branch name) id = (t.branches name id).0 line in
          let e = names-ends (files_by (tree_of journal)) id (found journal (Branch name)) (last (history_of (files_by (tree_of journal)) (applied changes) journal name)) (stand name) n.stored n.stands n.names in
          record { entry = e.0; is_last = e.1; names = e.2 },
      λ end.
          let s = ends-names (files_by (tree_of journal)) id (found journal (Branch name)) (last (history_of (files_by (tree_of journal)) (applied changes) journal name)) (stand name) end.entry end.is_last end.names in
          (t.branches name id).1 (record { stored = s.0; stands = s.1; names = s.2 }),
    );
  }

-- what the closing reading told, where nobody else acts
ran-told : (result : Result (List RefLine) Refusal) (old new : View) → RefsLaw → IsTrue old.caller.tells → HasAll old.caller → Runs old new refs_program result → (lines : List RefLine) → result ≡ Ok lines → TellsRefs new.seen lines
ran-told result old new law told all r lines e = elim r.ends [
  | inl path ↦
      let path' : Path refs_program r.own (Done (Ok lines)) = subst (λ (x : Result (List RefLine) Refusal). Path refs_program r.own (Done x)) e path in
      subst (λ (h : List Event). TellsRefs h lines) (sym (r.alone told all).is) (law old.seen r.own lines (r.alone told all).good path')
  | inr cut ↦ let no = sym e ∙ cut.result_is in absurd cc
]

-- ---- the run
-- the opening, the tasks and the closing reading are a run
pub course-run : (draw : Draw) (script : Script) (old new : View) (opening : Result (Unit {0}) Refusal) (outcomes : List Outcome) (refs : Result (List RefLine) Refusal) → All IsWellTask script.tasks
    → Course draw script old new opening outcomes refs → IsTrue old.caller.tells → IsRun draw script.tasks old.seen new.seen
course-run draw script old new opening outcomes refs wells c t =
    let all : HasAll (as_client 0 old).caller = record { low = c.alone.low; end = c.alone.end } in
    let begun_tells : IsTrue c.begun.caller.tells = subst (λ (b : Caller). IsTrue b.tells) (sym c.begins.same) t in
    let played_tells : IsTrue c.played.caller.tells = tells-on draw script c.begun c.played opening outcomes c.plays begun_tells in
    let last_all : HasAll (as_client 0 c.played).caller = record { low = c.still_alone.low; end = c.still_alone.end } in
    record {
      well = wells;
      begun = c.begun.seen;
      played = c.played.seen;
      opening = ran-alone begin_program opening (as_client 0 old) c.begun t all c.begins;
      playing = plays-alone draw script c.begun c.played opening outcomes begun_tells c.plays;
      closing = ran-alone refs_program refs (as_client 0 c.played) new played_tells last_all c.reads;
      reader = ran-zero refs_program refs c.played new played_tells last_all c.reads;
    }

-- its tasks began behind the opening
pub course-begun : (draw : Draw) (script : Script) (old new : View) (opening : Result (Unit {0}) Refusal) (outcomes : List Outcome) (refs : Result (List RefLine) Refusal) (wells : All IsWellTask script.tasks)
    (c : Course draw script old new opening outcomes refs) (t : IsTrue old.caller.tells) → (course-run draw script old new opening outcomes refs wells c t).begun ≡ c.begun.seen
unfolding course-run
course-begun draw script old new opening outcomes refs wells c t = refl

-- the refs that are told are those that stand, where the branches and the tags stand so
pub course-told : RefsLaw → (draw : Draw) (script : Script) (old new : View) (opening : Result (Unit {0}) Refusal) (outcomes : List Outcome) (refs : Result (List RefLine) Refusal) → Course draw script old new opening outcomes refs → IsTrue old.caller.tells → (changes : ℕ → Changes)
    → ((branch : List ℕ) → StandsAs (files_by (tree_of new.seen)) (found new.seen (Branch branch)) (last (history_of (files_by (tree_of new.seen)) (applied changes) new.seen branch))) → ((tag : List ℕ) → StandsByState (files_by (tree_of new.seen)) new.seen tag)
    → (lines : List RefLine) → refs ≡ Ok lines → TellsEnds (files_by (tree_of new.seen)) changes new.seen lines
course-told closing draw script old new opening outcomes refs c t changes stand tags lines e =
    let begun_tells : IsTrue c.begun.caller.tells = subst (λ (b : Caller). IsTrue b.tells) (sym c.begins.same) t in
    let played_tells : IsTrue c.played.caller.tells = tells-on draw script c.begun c.played opening outcomes c.plays begun_tells in
    let last_all : HasAll (as_client 0 c.played).caller = record { low = c.still_alone.low; end = c.still_alone.end } in
    told-ends changes new.seen lines stand tags (ran-told refs (as_client 0 c.played) new closing played_tells last_all c.reads lines e)

pub course-leaves : RunLaw → RefsLaw → (draw : Draw) (script : Script) (old new : View) (opening : Result (Unit {0}) Refusal) (outcomes : List Outcome) (refs : Result (List RefLine) Refusal) → All IsWellTask script.tasks
    → Course draw script old new opening outcomes refs → IsTrue old.caller.tells → (before : ℕ → Changes) → IsSound old.seen before → IsNewRun draw script.tasks old.seen → KeepsRefs draw script.tasks before old.seen new.seen refs
unfolding course-run
course-leaves run closing draw script old new opening outcomes refs wells c t before sound new_run =
    let h = run draw script.tasks before old.seen new.seen sound new_run (course-run draw script old new opening outcomes refs wells c t) in
    record { start = c.begun.seen; histories = h; told = course-told closing draw script old new opening outcomes refs c t h.changes h.stand h.tags_stand }

pub played-leaves : RunLaw → RefsLaw → (draw : Draw) (script : Script) (old new : View) (result : Result Played AllocError) → IsWell script → IfOk result (λ played. Course draw script old new played.opening played.outcomes.items played.refs) → IsTrue old.caller.tells → (before : ℕ → Changes) → IsSound old.seen before → IsNewRun draw script.tasks old.seen
    → IfOk result (λ played. KeepsRefs draw script.tasks before old.seen new.seen played.refs)
played-leaves run closing draw script old new (Ok played) well c t before sound new_run = course-leaves run closing draw script old new played.opening played.outcomes.items played.refs well.tasks c t before sound new_run
played-leaves run closing draw script old new (Err error) well c t before sound new_run = tt

-- where the repository was begun at most
began-kept : RunLaw → (draw : Draw) (script : Script) (old new : View) → All IsWellTask script.tasks → OnlyBegan old new → IsTrue old.caller.tells → (before : ℕ → Changes) → IsSound old.seen before → IsNewRun draw script.tasks old.seen → HasHistories draw script.tasks before old.seen new.seen new.seen
began-kept run draw script old new wells b t before sound new_run =
    let all : HasAll (as_client 0 old).caller = record { low = b.alone.low; end = b.alone.end } in
    run draw script.tasks before old.seen new.seen sound new_run (record {
      well = wells;
      begun = new.seen;
      played = new.seen;
      opening = ran-alone begin_program b.opening (as_client 0 old) new t all b.begins;
      playing = record { own = []; is = sym (append-nil new.seen); owed = Each-none (IsOfClient draw script.tasks new.seen) new.seen };
      closing = record { own = []; is = sym (append-nil new.seen); good = Each-none IsGood new.seen; left = refs_program; path = Path-none refs_program };
      reader = Each-none (IsBy 0) new.seen;
    })

pub unplayed-kept : RunLaw → (draw : Draw) (script : Script) (old new : View) (result : Result Played AllocError) → IsWell script → IfErr result (λ error. OnlyBegan old new) → IsTrue old.caller.tells → (before : ℕ → Changes) → IsSound old.seen before → IsNewRun draw script.tasks old.seen
    → IfErr result (λ error. HasHistories draw script.tasks before old.seen new.seen new.seen)
unplayed-kept run draw script old new (Ok played) well b t before sound new_run = tt
unplayed-kept run draw script old new (Err error) well b t before sound new_run = began-kept run draw script old new well.tasks b t before sound new_run

-- The commits of a run, and what its tasks showed, in words of trees.
use Rattle.std.proofs.Common.{◌≡◌, ◌⊎◌, inl, inr, ℕ, ◌+◌, List, [], ◌∷◌, ◌++◌, refl, sym, ◌∙◌, ap, subst, append_assoc}
use Rattle.std.proofs.lemmas.List.{append_cancel_left}
use Rattle.std.specs.Prelude.{Option, Some, None, slice_get}
use Rattle.ice_ids.specs.declared.Id12.{Id12}
use Rattle.ice_ids.specs.declared.drawing.AnyIds.{AnyIds}
use Rattle.ice_ids.specs.declared.drawing.Draw.{Draw}
use Rattle.zarr_path.specs.declared.keys.ZarrKey.{ZarrKey}
use Rattle.zarr_path.specs.declared.keys.ZarrKey.TheVariants as K
use Rattle.zarr_path.specs.Keys.{key_of}
use Rattle.zarr_tree.specs.Trees.{Tree, IsWellFormed}
use Rattle.zarr_tree.specs.Changes.{Changes, apply}
use Rattle.zarr_tree.specs.Held.{Held, changes_of}
use Rattle.zarr_tree.proofs.Normal.{none-law}
use Rattle.zarr_changes.specs.Edits.{nothing}
use Rattle.manifest_file.specs.declared.manifest.Place.{Place}
use Rattle.snapshot_file.specs.declared.nodes.NodeRow.{NodeRow}
use Rattle.repo_objects.specs.Laws.{InitialLaw}
use Rattle.histories.specs.Formats.{files_by}
use Rattle.repo_objects.specs.Trees.{Puts, bytes_at, tree_under}
use Rattle.object_store.specs.declared.events.Event.{Event}
use Rattle.object_store.specs.Machine.{version_at}
use Rattle.object_store.proofs.Journals.{Each-at, Each-back}
use Rattle.store_api.specs.declared.machines.Refusal.{Refusal}
use Rattle.store_api.specs.declared.machines.Refusal.TheVariants.{LostRace, NoMemory}
use Rattle.store_api.specs.Journal.{Each, IsGood, puts_of, tree_of}
use Rattle.repo_read.specs.declared.resolving.At.{At}
use Rattle.session.specs.Sessions.{SessionState, base_tree, changes_in, overlay}
use Rattle.commit_path.specs.Opened.{IsOpened, WasBegun}
use Rattle.commit_path.specs.Single.{HasPutNone}
use Rattle.commit_path.proofs.Knowing.{IsOpened-append}
use Rattle.commit_path.proofs.Putting.{puts-kept}
use Rattle.rebase.specs.AlongLaws.{MeansLaw}
use Rattle.script_calls.specs.declared.calls.Access.{Access}
use Rattle.script_calls.specs.declared.calls.Access.TheVariants.{Write, Read}
use Rattle.script_calls.specs.declared.calls.Call.{Call}
use Rattle.script_calls.specs.declared.calls.Call.TheVariants as C
use Rattle.script_calls.specs.declared.calls.EditCall.{EditCall}
use Rattle.script_calls.specs.declared.calls.EditCall.TheVariants as E
use Rattle.script_calls.specs.declared.calls.ReadCall.{ReadCall}
use Rattle.script_calls.specs.declared.calls.ReadCall.TheVariants as L
use Rattle.script_calls.specs.declared.calls.Head.TheVariants.{Session}
use Rattle.play_script.specs.declared.scripts.Line.{Line}
use Rattle.play_script.specs.declared.scripts.Task.{Task}
use Rattle.play_outcome.specs.declared.outcome.End.{End}
use Rattle.play_outcome.specs.declared.outcome.End.TheVariants.{Refused}
use Rattle.play_outcome.specs.declared.outcome.Outcome.{Outcome}
use Rattle.play_outcome.specs.declared.outcome.Shown.{Shown}
use Rattle.play_tasks.specs.Lines as line
use Rattle.play_tasks.specs.Playing.{asked_by, policy_of, placed_shown}
use Rattle.play_tasks.specs.Solving.{PlaysAll}
use Rattle.play_tasks.specs.Tasks.{ids_at}
use Rattle.play_tasks.specs.Telling.{Refuses, IsSilent, EndsCommitted, WasInDoubt, WasCommitRefused, WasLostAtLast, WasNotRebased, EndsAt, WasOpened}
use Rattle.play_tasks.proofs.Early.{WasBegun-more}
use Rattle.play_tasks.proofs.Going.{PlaysAll-append, plays-none}
use Rattle.run_histories.specs.Told as told
use Rattle.run_histories.specs.Told.{HasHistories, CommitsEnter}
use Rattle.run_histories.proofs.Sized.{changes-stay}
use Rattle.play_course.specs.Lines.{DoesAll}
use Rattle.play_course.specs.Ways.{Carried}
use Rattle.play_course.specs.Promise.{at_of, Began, FoundBranch, FoundTag, IsSession, EndsShowing, EndsBy, EndsWith, ShowsRight, TakesEffect, IsCommit}
use Rattle.play_course.proofs.Bodies.{PlayedOn, plays-on}
use Rattle.play_course.proofs.Releasing.{AreAfter, after-parts, plays-after, end-after}
use Rattle.play_course.proofs.Ways.{carried-way}

-- ---- a line that commits
key-set-commits : (bytes : List ℕ) (o : Option ZarrKey) (s : SessionState) (message : List ℕ) → line.key_set_deed bytes o s ≡ line.Commits message → ⊥
key-set-commits bytes None s message e = cc
key-set-commits bytes (Some (K.Meta path)) s message e = cc
key-set-commits bytes (Some (K.Chunk path index)) s message e = cc

edit-commits : (edit : EditCall) (s : SessionState) (message : List ℕ) → line.edit_deed edit s ≡ line.Commits message → ⊥
edit-commits (E.KeySet key bytes) s message e = key-set-commits bytes (key_of key) s message e
edit-commits edit s message e = cc

key-get-commits : (number : ℕ) (o : Option ZarrKey) (s : SessionState) (message : List ℕ) → line.key_get_deed number o s ≡ line.Commits message → ⊥
key-get-commits number None s message e = cc
key-get-commits number (Some (K.Meta path)) s message e = cc
key-get-commits number (Some (K.Chunk path index)) s message e = cc

read-commits : (number : ℕ) (look : ReadCall) (s : SessionState) (message : List ℕ) → line.read_deed number look s ≡ line.Commits message → ⊥
read-commits number (L.List path) s message e = cc
read-commits number (L.Get path) s message e = cc
read-commits number (L.Chunk path index) s message e = cc
read-commits number (L.Cells place) s message e = cc
read-commits number (L.KeyGet key) s message e = key-get-commits number (key_of key) s message e

call-commits : (number : ℕ) (call : Call) (s : SessionState) (message : List ℕ) → line.deed number call s ≡ line.Commits message → call ≡ C.Commit message
call-commits number (C.Edit edit) s message e = absurd (edit-commits edit s message e)
call-commits number (C.Read look) s message e = absurd (read-commits number look s message e)
call-commits number (C.Commit own) s message e = let is : own ≡ message = cc in ap (λ (m : List ℕ). C.Commit m) is
call-commits number (C.Ref call) s message e = absurd cc
call-commits number (C.Prop name value) s message e = absurd cc
call-commits number C.Lease s message e = absurd cc

-- ---- where a session began
began-branch : (trees : Id12 → Option Tree) (changes : ℕ → Changes) (client : ℕ) (branch : List ℕ) (writes : _) (s : SessionState) (start journal : List Event) → told.BeganAtBranch trees changes client branch writes s start journal → FoundBranch (files_by trees) changes client branch s.base start journal
began-branch trees changes client branch writes s start journal b =
    let own = b.read.got.own in
    record { before = own.before; event = own.event; after = own.after; is = own.is; since = own.since; before_is = own.before_is; own = own.client_is; get = own.op_is; entry = b.entry; is_last = b.is_last; names = b.base }

began-tag : (trees : Id12 → Option Tree) (client : ℕ) (tag : List ℕ) (s : SessionState) (start journal : List Event) → told.BeganAtTag trees client tag s start journal → FoundTag (files_by trees) client tag s.base start journal
began-tag trees client tag s start journal b =
    let own = b.read.stands.own in
    record { before = own.before; event = own.event; after = own.after; is = own.is; since = own.since; before_is = own.before_is; own = own.client_is; get = own.op_is; entry = b.entry; stood = b.stood; names = b.base }

began-at : (trees : Id12 → Option Tree) (changes : ℕ → Changes) (client : ℕ) (at : At) (writes : _) (s : SessionState) (start journal : List Event) → told.BeganAt trees changes client at writes s start journal → Began (files_by trees) changes client at s.base start journal
began-at trees changes client (At.Branch branch) writes s start journal b = began-branch trees changes client branch writes s start journal b
began-at trees changes client (At.Tag tag) writes s start journal b = began-tag trees client tag s start journal b
began-at trees changes client (At.Snapshot id) writes s start journal b = b.0

asked-at : (access : Access) (ids : AnyIds) → (asked_by access ids).at ≡ at_of access
asked-at (Write branch tries policy) ids = refl
asked-at (Read at) ids = refl

module _ (initial : InitialLaw) (means : (bytes_at : Place → Option (List ℕ)) → MeansLaw bytes_at) (draw : Draw) (tasks : List Task) (before : ℕ → Changes) (old start new : List Event) (h : HasHistories draw tasks before old start new) where
  abbrev put : Puts
  put = puts_of new

  abbrev trees : Id12 → Option Tree
  trees = tree_of new

  module _ (place : ℕ) (task : Task) (at : slice_get tasks place ≡ Some task) (access : Access) (head_is : task.head ≡ Session access) (opened : SessionState) (begun : WasBegun (place + 1) (asked_by access (ids_at draw place)) opened start new) (early : HasPutNone (place + 1) start begun.got.own.before) (read : IsOpened opened new) where
    -- what the first lines of the body lead to
    played-on : (played left : List Line) (shown : List Shown) (s : SessionState) → task.body ≡ played ++ left → PlaysAll (place + 1) played opened start shown s new → PlayedOn draw tasks before old start new h place task at access head_is opened begun early read played opened s shown
    played-on played left shown s body plays =
        plays-on draw tasks before old start new h place task at access head_is opened begun early read played left [] opened s [] shown body (plays-none (place + 1) opened start new) read plays

    -- a session that began has no changes
    opened-tree : overlay put opened ≡ base_tree put opened
    opened-tree =
        let held : opened.held ≡ nothing = ap (λ (x : SessionState). x.held) begun.begins in
        let well = (h.sound.trees opened.base read.put) in
        ap (λ (x : Held Place). apply (changes_of (bytes_at put) x) (base_tree put opened)) held
        ∙ (none-law (base_tree put opened) (subst (λ (rows : List NodeRow). IsWellFormed (tree_under put rows)) (rows-same well.rows opened.rows (sym well.is ∙ read.rows h.sound.once)) well.has.well_formed)).0
      where
        rows-same : (a b : List NodeRow) → Some a ≡ Some b → a ≡ b
        rows-same a b e = cc

    pub played-session : (played left : List Line) (shown : List Shown) (s : SessionState) → task.body ≡ played ++ left → PlaysAll (place + 1) played opened start shown s new → IsSession (files_by trees) h.changes task access (place + 1) start new played shown s.base (changes_in put s)
    played-session played left shown s body plays =
        let on = played-on played left shown s body plays in
        let began = h.opened (place + 1) (asked_by access (ids_at draw place)) opened start begun read in
        let tree : base_tree put s ≡ base_tree put opened = ap (tree_under put) on.rows in
        record {
          head_is = head_is;
          began = subst (λ (i : Id12). Began (files_by trees) h.changes (place + 1) (at_of access) i start new) (sym on.based)
              (subst (λ (a : At). Began (files_by trees) h.changes (place + 1) a opened.base start new) (asked-at access (ids_at draw place)) (began-at trees h.changes (place + 1) (asked_by access (ids_at draw place)).at (asked_by access (ids_at draw place)).writes opened start new began.began));
          tree = base_tree put s;
          has = ap trees on.based ∙ began.tree ∙ ap (λ (t : Tree). Some t) (sym tree);
          plays = subst (λ (t : Tree). DoesAll played t shown (overlay put s)) (opened-tree ∙ sym tree) on.plays;
        }

    pub session-opened : (played left : List Line) (shown : List Shown) (s : SessionState) → task.body ≡ played ++ left → PlaysAll (place + 1) played opened start shown s new → IsOpened s new
    session-opened played left shown s body plays = (played-on played left shown s body plays).knows

-- ---- commits that took effect
module _ (initial : InitialLaw) (means : (bytes_at : Place → Option (List ℕ)) → MeansLaw bytes_at) (draw : Draw) (tasks : List Task) (before : ℕ → Changes) (old start since rest : List Event) (event : Event) where
  abbrev journal : List Event
  journal = old ++ since

  abbrev whole : List Event
  whole = journal ++ event ∷ rest

  enters : (g : HasHistories draw tasks before old start whole) → CommitsEnter draw tasks start (puts_of whole) (tree_of whole) g.changes journal event
  enters g =
      let added : g.added ≡ since ++ event ∷ rest = append_cancel_left old g.added (since ++ event ∷ rest) (sym g.is ∙ append_assoc old since (event ∷ rest)) in
      let Enters : List Event → Event → Type 0 = CommitsEnter draw tasks start (puts_of whole) (tree_of whole) g.changes in
      Each-at Enters old since event rest (subst (Each Enters old) added g.commits)

  committed-at : (g : HasHistories draw tasks before old start whole) (branch : List ℕ) (version : ℕ) (id : Id12) → TakesEffect (files_by (tree_of whole)) journal event branch version id → IsCommit (files_by (tree_of whole)) g.changes tasks start whole journal event branch version id
  committed-at g branch version id e =
      let c = enters g branch e.bytes (version_at version) id e.stored e.op_is e.names e.done e.stands e.version in
      let s = c.of_session in
      let o = s.of_task in
      let good = (Each-back IsGood [] journal (event ∷ rest) g.sound.good).1 in
      let client : ℕ = s.place + 1 in
      let begun = WasBegun-more client (asked_by o.access (ids_at draw s.place)) o.opened start journal (event ∷ rest) o.begun in
      let read = IsOpened-append o.opened journal (event ∷ rest) good o.read in
      let plays = PlaysAll-append client o.came.played o.opened start o.came.shown o.session journal (event ∷ rest) good o.came.plays in
      let session = played-session initial means draw tasks before old start whole g s.place s.task s.at o.access o.head_is o.opened begun o.early read o.came.played (o.came.line ∷ o.came.left) o.came.shown o.session o.came.body_is plays in
      let known = session-opened initial means draw tasks before old start whole g s.place s.task s.at o.access o.head_is o.opened begun o.early read o.came.played (o.came.line ∷ o.came.left) o.came.shown o.session o.came.body_is plays in
      let way = carried-way initial means whole g.changes g.sound client (policy_of o.access) o.count o.session s.session start journal (record { more = event ∷ rest; is = refl }) (known.rows g.sound.once, known.put) o.carried in
      let stay : changes_in (puts_of whole) s.session ≡ changes_in (puts_of journal) s.session = changes-stay (puts_of journal) (puts_of whole) s.session (puts-kept journal (event ∷ rest) good g.sound.once) s.made.chunks in
      record {
        place = s.place;
        client_is = s.client_is;
        task = s.task;
        at = s.at;
        access = o.access;
        played = o.came.played;
        line = o.came.line;
        left = o.came.left;
        body_is = o.came.body_is;
        message = o.came.message;
        commits = call-commits o.came.line.number o.came.line.call o.session o.came.message o.came.commits;
        shown = o.came.shown;
        base = o.session.base;
        own = changes_in (puts_of whole) o.session;
        session = subst (λ (n : ℕ). IsSession (files_by (tree_of whole)) g.changes s.task o.access n start whole o.came.played o.came.shown o.session.base (changes_in (puts_of whole) o.session)) (sym s.client_is) session;
        before = c.before;
        is_last = c.is_last;
        version_is = c.version;
        solved = changes_in (puts_of whole) s.session;
        carried = subst (λ (i : Id12). Carried (tree_of whole) (policy_of o.access) o.session.base (changes_in (puts_of whole) o.session) i (changes_in (puts_of whole) s.session)) (sym c.base) way.0;
        under = base_tree (puts_of whole) s.session;
        has = c.base_is;
        tree = c.tree;
        given = s.changes_are ∙ sym stay;
      }

pub committed : InitialLaw → ((bytes_at : Place → Option (List ℕ)) → MeansLaw bytes_at) → (draw : Draw) (tasks : List Task) (before : ℕ → Changes) (old start new since rest : List Event) (event : Event) (h : HasHistories draw tasks before old start new) → new ≡ (old ++ since) ++ event ∷ rest
    → (branch : List ℕ) (version : ℕ) (id : Id12) → TakesEffect (files_by (tree_of new)) (old ++ since) event branch version id → IsCommit (files_by (tree_of new)) h.changes tasks start new (old ++ since) event branch version id
committed initial means draw tasks before old start new since rest event h is branch version id e =
    subst (λ (n : List Event). (g : HasHistories draw tasks before old start n) → TakesEffect (files_by (tree_of n)) (old ++ since) event branch version id → IsCommit (files_by (tree_of n)) g.changes tasks start n (old ++ since) event branch version id) (sym is)
    (λ g f. committed-at initial means draw tasks before old start since rest event g branch version id f) h e

-- ---- what tasks showed
-- what is shown by the line at which a session ended
key-set-quiet : (bytes : List ℕ) (o : Option ZarrKey) (s : SessionState) (last : List Shown) → IsSilent (line.key_set_deed bytes o s) last → last ≡ []
key-set-quiet bytes None s last q = q
key-set-quiet bytes (Some (K.Meta path)) s last q = q
key-set-quiet bytes (Some (K.Chunk path index)) s last q = q

edit-quiet : (edit : EditCall) (s : SessionState) (last : List Shown) → IsSilent (line.edit_deed edit s) last → last ≡ []
edit-quiet (E.KeySet key bytes) s last q = key-set-quiet bytes (key_of key) s last q
edit-quiet edit s last q = q

key-get-quiet : (number : ℕ) (o : Option ZarrKey) (s : SessionState) (last : List Shown) → IsSilent (line.key_get_deed number o s) last → last ≡ []
key-get-quiet number None s last q = q
key-get-quiet number (Some (K.Meta path)) s last q = q
key-get-quiet number (Some (K.Chunk path index)) s last q = q

read-quiet : (number : ℕ) (look : ReadCall) (s : SessionState) (last : List Shown) → IsSilent (line.read_deed number look s) last → last ≡ []
read-quiet number (L.List path) s last q = q
read-quiet number (L.Get path) s last q = q
read-quiet number (L.Chunk path index) s last q = q
read-quiet number (L.Cells place) s last q = q
read-quiet number (L.KeyGet key) s last q = key-get-quiet number (key_of key) s last q

placed-showing : (l : Line) (ls : List Line) → l.call ≡ C.Lease → (placed : Option Id12) (last : List Shown) → last ≡ placed_shown (line.lease_shown l.number) placed → EndsShowing (l ∷ ls) last
placed-showing l ls leases None last is = inl is
placed-showing l ls leases (Some id) last is = inr (record { line = l; behind = ls; left_is = refl; leases = leases; id = id; why = None; shows = is })

refused-showing : (client : ℕ) (l : Line) (ls : List Line) (call : Call) (s : SessionState) (start : List Event) (last : List Shown) (why : Refusal) (ended : List Event) → l.call ≡ call → Refuses client (line.deed l.number call s) s start last why ended → IsSilent (line.deed l.number call s) last → EndsShowing (l ∷ ls) last
refused-showing client l ls (C.Edit edit) s start last why ended is t q = inl (edit-quiet edit s last q)
refused-showing client l ls (C.Read look) s start last why ended is t q = inl (read-quiet l.number look s last q)
refused-showing client l ls (C.Commit message) s start last why ended is t q = inl q
refused-showing client l ls (C.Ref call) s start last why ended is t q = inl q
refused-showing client l ls (C.Prop name value) s start last why ended is t q = inl q
refused-showing client l ls C.Lease s start last why ended is t q = elim t.0 [
  | inl none ↦ inl none.1
  | inr w ↦ placed-showing l ls is w.placed last w.last_is
]

ends-showing : (client : ℕ) (access : Access) (left : List Line) (s : SessionState) (start : List Event) (last : List Shown) (end : End) (ended : List Event) → EndsAt client access left s start last end ended → EndsShowing left last
ends-showing client access [] s start last end ended t = inl t.2
ends-showing client access (l ∷ ls) s start last end ended (inl r) = refused-showing client l ls l.call s start last r.why ended refl r.refuses r.quiet
ends-showing client access (l ∷ ls) s start last end ended (inr (inl r)) = inl r.quiet
ends-showing client access (l ∷ ls) s start last end ended (inr (inr r)) = inl r.quiet

-- where it ends
at-line : (l : Line) (why : Refusal) (end : End) → end ≡ Refused l.number why → EndsBy l end
at-line l why end is = subst (λ (e : End). EndsBy l e) (sym is) refl

by-commit : (l : Line) (s : SessionState) (message : List ℕ) → line.deed l.number l.call s ≡ line.Commits message → (own : List ℕ) × (l.call ≡ C.Commit own)
by-commit l s message e = (message, call-commits l.number l.call s message e)

tried-ends : (client : ℕ) (access : Access) (l : Line) (s at_last : SessionState) (message : List ℕ) (count : ℕ) (start : List Event) (end : End) (ended : List Event) → line.deed l.number l.call s ≡ line.Commits message
    → EndsCommitted client at_last message start end ended
    ⊎ (WasInDoubt client at_last message start end ended
    ⊎ (WasCommitRefused client l.number at_last message start end ended
    ⊎ (WasLostAtLast client access l.number count at_last start end ended ⊎ WasNotRebased client access l.number count at_last start end ended)))
    → EndsBy l end
tried-ends client access l s at_last message count start end ended e (inl made) = subst (λ (x : End). EndsBy l x) (sym made.end_is) (by-commit l s message e)
tried-ends client access l s at_last message count start end ended e (inr (inl doubt)) = subst (λ (x : End). EndsBy l x) (sym doubt.end_is) (by-commit l s message e)
tried-ends client access l s at_last message count start end ended e (inr (inr (inl refused))) = at-line l refused.why end refused.end_is
tried-ends client access l s at_last message count start end ended e (inr (inr (inr (inl lost)))) = at-line l (LostRace lost.old lost.found) end lost.end_is
tried-ends client access l s at_last message count start end ended e (inr (inr (inr (inr stayed)))) = at-line l stayed.why end stayed.end_is

ends-with : (client : ℕ) (access : Access) (left : List Line) (s : SessionState) (start : List Event) (last : List Shown) (end : End) (ended : List Event) → EndsAt client access left s start last end ended → EndsWith left end
ends-with client access [] s start last end ended t = t.0
ends-with client access (l ∷ ls) s start last end ended (inl r) = at-line l r.why end r.end_is
ends-with client access (l ∷ ls) s start last end ended (inr (inl r)) = at-line l NoMemory end r.end_is
ends-with client access (l ∷ ls) s start last end ended (inr (inr r)) = tried-ends client access l s r.at_last r.message r.count start end ended r.commits r.ends

module _ (initial : InitialLaw) (means : (bytes_at : Place → Option (List ℕ)) → MeansLaw bytes_at) (draw : Draw) (tasks : List Task) (before : ℕ → Changes) (old start ended since : List Event) where
  abbrev entire : List Event
  entire = ended ++ since

  -- as the session had ended, and then the leases were released
  showed-at : (h : HasHistories draw tasks before old start entire) (place : ℕ) (task : Task) (access : Access) (went outcome : Outcome) → slice_get tasks place ≡ Some task → task.head ≡ Session access → (w : WasOpened (ids_at draw place) access task (place + 1) start went ended) → AreAfter went.shown outcome.shown → outcome.end ≡ went.end
      → ShowsRight (files_by (tree_of entire)) h.changes task access (place + 1) start entire outcome
  showed-at h place task access went outcome at head_is w released same =
      let client : ℕ = place + 1 in
      let good = (Each-back IsGood [] ended since h.sound.good).1 in
      let begun = WasBegun-more client (asked_by access (ids_at draw place)) w.opened start ended since w.begun in
      let read = IsOpened-append w.opened ended since good w.read in
      let plays = PlaysAll-append client w.played w.opened start w.shown w.session ended since good w.plays in
      let session = played-session initial means draw tasks before old start entire h place task at access head_is w.opened begun w.early read w.played w.left w.shown w.session w.body plays in
      let parts = after-parts w.shown w.last outcome.shown (subst (λ (x : List Shown). AreAfter x outcome.shown) w.shown_is released) in
      inr (record {
        played = w.played;
        left = w.left;
        body_is = w.body;
        first = parts.0;
        last = parts.1;
        shown_is = parts.2;
        base = w.session.base;
        own = changes_in (puts_of entire) w.session;
        session = record { head_is = session.head_is; began = session.began; tree = session.tree; has = session.has; plays = plays-after w.played session.tree w.shown parts.0 (apply (changes_in (puts_of entire) w.session) session.tree) parts.3 session.plays };
        at_last = end-after w.left w.last parts.1 parts.4 (ends-showing client access w.left w.session start w.last went.end ended w.ends);
        ends = subst (λ (e : End). EndsWith w.left e) (sym same) (ends-with client access w.left w.session start w.last went.end ended w.ends);
      })

pub showed : InitialLaw → ((bytes_at : Place → Option (List ℕ)) → MeansLaw bytes_at) → (draw : Draw) (tasks : List Task) (before : ℕ → Changes) (old start new ended since : List Event) (h : HasHistories draw tasks before old start new) → new ≡ ended ++ since → (place : ℕ) (task : Task) (access : Access) (went outcome : Outcome)
    → slice_get tasks place ≡ Some task → task.head ≡ Session access → WasOpened (ids_at draw place) access task (place + 1) start went ended → AreAfter went.shown outcome.shown → outcome.end ≡ went.end → ShowsRight (files_by (tree_of new)) h.changes task access (place + 1) start new outcome
showed initial means draw tasks before old start new ended since h is place task access went outcome at head_is w released same =
    subst (λ (n : List Event). (g : HasHistories draw tasks before old start n) → ShowsRight (files_by (tree_of n)) g.changes task access (place + 1) start n outcome) (sym is)
    (λ g. showed-at initial means draw tasks before old start ended since g place task access went outcome at head_is w released same) h

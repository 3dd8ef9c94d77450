-- Each operation of a task that opens a session is the first one, or comes where the session has a base.
use Rattle.std.proofs.Common.{◌≡◌, inl, inr, refl, sym, ◌∙◌, ap, subst, cond, Bool, true, false, eqb-true, ℕ, zero, suc, List, [], ◌∷◌, ◌++◌, append-nil, Option, None, Some, Result, Ok, Err}
use Rattle.std.specs.Prelude.{IfOk, ◌==◌}
use Rattle.std.specs.Result.{result_ok}
use Rattle.std.specs.FinMap.{get}
use Rattle.ice_ids.specs.declared.Id8.{Id8}
use Rattle.ice_ids.specs.declared.Id12.{Id12}
use Rattle.ice_ids.specs.declared.drawing.AnyIds.{AnyIds}
use Rattle.ice_ids.specs.Drawing.{drawn8}
use Rattle.zarr_path.specs.declared.keys.ZarrKey.{ZarrKey}
use Rattle.zarr_path.specs.declared.keys.ZarrKey.TheVariants as zarr
use Rattle.zarr_path.specs.Keys.{key_of}
use Rattle.zarr_meta.specs.declared.faults.MetaFault.{MetaFault}
use Rattle.zarr_meta.specs.declared.views.MetaView.{MetaView}
use Rattle.zarr_meta.specs.Meta.{meta_of}
use Rattle.zarr_changes.specs.Sets.{add_refusal, text_refusal, drop_refusal, unset_refusal}
use Rattle.snapshot_file.specs.declared.properties.PropFault.{PropFault}
use Rattle.snapshot_file.specs.Props.{prop_fault}
use Rattle.snapshot_file.specs.declared.snapshot.SnapshotFile.{SnapshotFile}
use Rattle.repo_objects.specs.declared.bad_objects.Bad.{Bad}
use Rattle.repo_objects.specs.Readings.{read_ref, read_snapshot, ref_of}
use Rattle.conflicts.specs.declared.solving.Policy.{Policy}
use Rattle.ref_file.specs.Refs.{ref_bytes}
use Rattle.object_store.specs.declared.keys.Key.TheVariants.{Snapshot, Branch, Tag, Tombstone, Lease as Lease_key}
use Rattle.object_store.specs.declared.keys.Why.TheVariants.{Lease as For_lease}
use Rattle.object_store.specs.declared.events.Op.{Op}
use Rattle.object_store.specs.declared.events.Op.TheVariants.{Get, PutNew}
use Rattle.object_store.specs.Machine.{version_at}
use Rattle.object_store.specs.declared.events.Got.TheVariants.{Found, Absent}
use Rattle.object_store.specs.declared.events.Reply.{Reply}
use Rattle.object_store.specs.declared.events.Reply.TheVariants.{Got as Is_got, New as Is_new, Over as Is_over, Gone as Is_gone, GoneAt as Is_gone_at, Listed as Is_listed, Failed}
use Rattle.object_store.specs.declared.events.Event.{Event}
use Rattle.object_store.specs.declared.events.Version.{Version}
use Rattle.object_store.proofs.Journals.{Each-weaker}
use Rattle.store_api.specs.declared.machines.Refusal.{Refusal}
use Rattle.store_api.specs.declared.machines.Refusal.TheVariants.{NoMemory, LostRace, Moved, ReadOnly}
use Rattle.store_api.specs.Callers.{Caller, IsOther, Makes}
use Rattle.store_api.specs.Program.{Done, bind, Keeps, Leads}
use Rattle.store_api.specs.Running.{Program, ◌>>=◌, on_answer}
use Rattle.store_api.specs.Plays.{Play, PlayKeeps, PlayLeads, call}
use Rattle.store_api.proofs.Programs.{Leads-weaker}
use Rattle.repo_read.specs.declared.answers.Resolved.{Resolved}
use Rattle.repo_read.specs.declared.resolving.At.{At}
use Rattle.repo_read.specs.declared.resolving.Named.{Named}
use Rattle.repo_read.specs.Answers.{at_key, ref_told, resolved_at}
use Rattle.repo_read.specs.Naming.{key_of as naming_of}
use Rattle.repo_read.specs.Programs.{resolve_program}
use Rattle.repo_read.specs.Resolving.{alone, tag_told, tombstone_told, tombstone_program, base_told, but_refused, no_ref}
use Rattle.repo_read.proofs.Replies.{got-cases}
use Rattle.session.specs.declared.origin.Tip.{Tip}
use Rattle.session.specs.declared.origin.Origin.{Origin}
use Rattle.session.specs.declared.origin.Origin.TheVariants.{Writes, ReadsBranch, ReadsTag, ReadsId}
use Rattle.session.specs.Sessions.{SessionState, branch_of, nodes_seen, origin_at, tip_at, tip_branch, tip_in, writes, writes_in}
use Rattle.session.specs.Opening.{Asked, of_branch, origin_for, begun, base_program, open_program}
use Rattle.array_region.specs.Reading.{region_program}
use Rattle.array_region.specs.Writing.{region_set_program}
use Rattle.session.specs.Chunks.{after_draw, set_program, get_program, chunk_unset}
use Rattle.session.specs.Editing.{node_fault, added, meta_set, node_dropped, drawn_node, unless_unfit, with_prop, prop_added}
use Rattle.zarr_keys.specs.Keys.{meta_put, session_of}
use Rattle.commit_path.specs.declared.commit.Tried.{Tried}
use Rattle.commit_path.specs.declared.commit.Tried.TheVariants.{Done as Was_done, Lost}
use Rattle.commit_path.specs.Committing.{commit_program}
use Rattle.rebase.specs.declared.machine.Rebased.{Rebased}
use Rattle.rebase.specs.declared.machine.Rebased.TheVariants.{OnHead as On_head, UpToDate}
use Rattle.rebase.specs.Rebasing.{after_ref, rebase_program}
use Rattle.script_calls.specs.declared.calls.Access.{Access}
use Rattle.script_calls.specs.declared.calls.Call.{Call}
use Rattle.script_calls.specs.declared.calls.Call.TheVariants as call
use Rattle.script_calls.specs.declared.calls.EditCall.{EditCall}
use Rattle.script_calls.specs.declared.calls.EditCall.TheVariants as edit
use Rattle.play_script.specs.declared.scripts.Line.{Line}
use Rattle.play_script.specs.Well.{IsWellPath, IsWellEdit}
use Rattle.script_calls.specs.declared.calls.ReadCall.{ReadCall}
use Rattle.script_calls.specs.declared.calls.ReadCall.TheVariants as read
use Rattle.play_outcome.specs.declared.outcome.Outcome.{Outcome}
use Rattle.play_outcome.specs.declared.outcome.Shown.{Shown}
use Rattle.play_outcome.specs.Playing.{refused}
use Rattle.play_tasks.specs.Lines.{LineDeed, Goes, Sets, Reads, Puts, Gathers, Leases, Commits, deed, edits_to, edit_deed, read_deed, key_set_deed, key_get_deed, read_by, silent, still}
use Rattle.settle.specs.declared.settle.Settled.{Settled as TheSettled}
use Rattle.settle.specs.Settling.{settle_program}
use Rattle.leases.specs.declared.lease.Leased.{Leased}
use Rattle.leases.specs.declared.witness.Witness.{Witness}
use Rattle.leases.specs.declared.witness.Witness.TheVariants as W
use Rattle.leases.specs.Plays.{confirmed, has_none, lease_play, stands_at, witness_key, witness_of}
use Rattle.leases.specs.Starting.{lease_of}
use Rattle.leases.proofs.Following.{PlayKeeps-followed}
use Rattle.play_tasks.specs.Playing.{after_confirm, after_lease, lease_by, placed_shown, after_settling, doubt_of, doubt_play, after_commit, after_line, after_open, after_rebase, asked_by, commit_play, play_deed, play_lines, policy_of, session_play, shown_by, tries_of}
use Rattle.play_tasks.specs.Bases.{HasAsked, IsAskedFor, NamesBase, naming_key}
use Rattle.play_tasks.proofs.LeaseWays.{lease-cases, put-cases}
use Rattle.play_tasks.proofs.Ways.{Way, adds, texts, drops, unsets, no_key, stays, put-way, edited-way}
use Rattle.play_tasks.proofs.Ready.{by_writes, by_text, by_edit}
use Rattle.play_tasks.proofs.Doubting.{which, no-doubt, settle-within}
use Rattle.play_tasks.proofs.Boxing.{AnyNumbers, gather-within, put-box-within}
use Rattle.play_tasks.proofs.Within.{Within, WithinOk, Still, IsSame, IsOnHead, still-gets, still-puts, set-within, get-within, commit-within, ref-within}
use Rattle.play_tasks.proofs.Based.{GoesOn, Opens, Settled, Rebasing, alone-none, climb-keeps, climb-leads, opens-call, own-now, rebase-begins, rebasing-makes, settled-finds, settled-has, settled-makes, settled-now, still-call, still-goes, still-keeps, still-leads, walk-call}

-- ---- lines leave a session's base
abbrev Leaves : SessionState → Result SessionState Refusal → Type 0
Leaves s r = IfOk r (IsSame s)

same : (s : SessionState) → IsSame s s
same s = record { base = refl; origin = refl }

drawn-leaves : (s : SessionState) (path text : List ℕ) (id : Option Id8) → IfOk (drawn_node s path text id) (λ a. IsSame s a.1)
drawn-leaves s path text None = tt
drawn-leaves s path text (Some id) = record { base = refl; origin = refl }

added-leaves : (fault : Result MetaView MetaFault → Option MetaFault) (s : SessionState) (path text : List ℕ) → IfOk (added fault s path text) (λ a. IsSame s a.1)
unfolding added
added-leaves fault s path text = by_writes _ (writes s) _ (by_text _ (fault (meta_of text)) _ (by_edit _ (add_refusal (nodes_seen s) path) _ (drawn-leaves s path text (drawn8 s.ids))))

text-leaves : (s : SessionState) (path text : List ℕ) → Leaves s (meta_set s path text)
unfolding meta_set
text-leaves s path text = by_writes _ (writes s) _ (by_text _ (node_fault (meta_of text)) _ (by_edit _ (text_refusal (nodes_seen s) path text) _ (record { base = refl; origin = refl })))

drop-leaves : (s : SessionState) (path : List ℕ) → Leaves s (node_dropped s path)
unfolding node_dropped
drop-leaves s path = by_writes _ (writes s) _ (by_edit _ (drop_refusal (nodes_seen s) path) _ (record { base = refl; origin = refl }))

unset-leaves : (s : SessionState) (path index : List ℕ) → Leaves s (chunk_unset s path index)
unfolding chunk_unset
unset-leaves s path index = by_writes _ (writes s) _ (by_edit _ (unset_refusal (nodes_seen s) path index) _ (record { base = refl; origin = refl }))

by_prop : (s : SessionState) (o : Option PropFault) (r : Result SessionState Refusal) → Leaves s r → Leaves s (unless_unfit o r)
by_prop s None r l = l
by_prop s (Some fault) r l = tt

prop-leaves : (s : SessionState) (name value : List ℕ) → Leaves s (prop_added s name value)
unfolding prop_added
prop-leaves s name value = by_writes _ (writes s) _ (by_prop s (prop_fault s.props name value) (Ok (with_prop s name value)) (record { base = refl; origin = refl }))

node-leaves : (s : SessionState) (r : Result (Id8 × SessionState) Refusal) → IfOk r (λ a. IsSame s a.1) → Leaves s (session_of r)
node-leaves s (Ok a) l = l
node-leaves s (Err why) l = tt

-- so does an edit, by whichever way
way-leaves : (Well : Type 0) (s : SessionState) {r : Result SessionState Refusal} → Way Well s r → Leaves s r
way-leaves Well s (adds fault tells path text at) = node-leaves s (added fault s path text) (added-leaves fault s path text)
way-leaves Well s (texts path text) = text-leaves s path text
way-leaves Well s (drops path) = drop-leaves s path
way-leaves Well s (unsets path index) = unset-leaves s path index
way-leaves Well s no_key = tt
way-leaves Well s stays = same s

-- what a deed goes to
abbrev GoesSame : SessionState → LineDeed → Type 0
GoesSame s (Goes r) = IfOk r (λ went. IsSame s went.1)
GoesSame s (Sets path index bytes) = Unit {0}
GoesSame s (Reads path index show) = Unit {0}
GoesSame s (Puts path from to numbers) = Unit {0}
GoesSame s (Gathers path from to show) = Unit {0}
GoesSame s (Leases show) = Unit {0}
GoesSame s (Commits message) = Unit {0}

silent-same : (s : SessionState) (r : Result SessionState Refusal) → Leaves s r → IfOk (silent r) (λ went. IsSame s went.1)
silent-same s (Ok t) l = l
silent-same s (Err why) l = tt

still-same : (s : SessionState) (r : Result (List Shown) Refusal) → IfOk (still s r) (λ went. IsSame s went.1)
still-same s (Ok shown) = same s
still-same s (Err why) = tt

key-set-same : (s : SessionState) (bytes : List ℕ) (o : Option ZarrKey) → GoesSame s (key_set_deed bytes o s)
key-set-same s bytes None = tt
key-set-same s bytes (Some (zarr.Meta path)) = silent-same s (meta_put s path bytes) (way-leaves (IsWellPath path) s (put-way s (get (nodes_seen s) path) path bytes))
key-set-same s bytes (Some (zarr.Chunk path index)) = tt

key-get-same : (line : ℕ) (s : SessionState) (o : Option ZarrKey) → GoesSame s (key_get_deed line o s)
key-get-same line s None = tt
key-get-same line s (Some (zarr.Meta path)) = same s
key-get-same line s (Some (zarr.Chunk path index)) = tt

edit-same : (s : SessionState) (x : EditCall) → GoesSame s (edit_deed x s)
edit-same s (edit.Set path index bytes) = tt
edit-same s (edit.Fill path index byte) = tt
edit-same s (edit.Put place numbers) = tt
edit-same s (edit.KeySet key bytes) = key-set-same s bytes (key_of key)
edit-same s x = silent-same s (edits_to x s) (way-leaves (IsWellEdit x) s (edited-way x s))

read-same : (line : ℕ) (s : SessionState) (x : ReadCall) → GoesSame s (read_deed line x s)
read-same line s (read.List path) = still-same s (read_by line (read.List path) s)
read-same line s (read.Get path) = still-same s (read_by line (read.Get path) s)
read-same line s (read.Chunk path index) = tt
read-same line s (read.Cells place) = tt
read-same line s (read.KeyGet key) = key-get-same line s (key_of key)

deed-same : (line : ℕ) (s : SessionState) (x : Call) → GoesSame s (deed line x s)
deed-same line s (call.Edit change) = edit-same s change
deed-same line s (call.Read look) = read-same line s look
deed-same line s (call.Commit message) = tt
deed-same line s (call.Ref own) = same s
deed-same line s call.Lease = tt
deed-same line s (call.Prop name value) = silent-same s (prop_added s name value) (prop-leaves s name value)

-- ---- what was asked for
-- the same branch at another version
asked-again : (at : At) (w : Bool) (tip next : Tip) (base other : Id12) → next.branch ≡ tip.branch → IsAskedFor at w (Writes tip) base → IsAskedFor at w (Writes next) other
asked-again (At.Branch branch) true tip next base other same_branch x = let is : tip ≡ x.0 = cc in (next, same_branch ∙ ap (λ (t : Tip). t.branch) is ∙ x.1, refl)
asked-again (At.Branch branch) false tip next base other same_branch x = let no = x.2 in absurd (cc)
asked-again (At.Tag tag) w tip next base other same_branch x = absurd (cc)
asked-again (At.Snapshot id) w tip next base other same_branch x = let no = x.0 in absurd (cc)

writes-tip : (o : Origin) → writes_in o ≡ true → (tip : Tip) × (o ≡ Writes tip)
writes-tip (Writes tip) e = (tip, refl)
writes-tip (ReadsBranch tip) e = absurd (cc)
writes-tip (ReadsTag tag) e = absurd (cc)
writes-tip ReadsId e = absurd (cc)

-- a branch names its session's base under its own key
branch-key : (w : Bool) (tip : Tip) (base : Id12) → Branch tip.branch ≡ naming_key (of_branch w tip) base
branch-key true tip base = refl
branch-key false tip base = refl

branch-names : (w : Bool) (branch bytes : List ℕ) (version : Version) (base : Id12) → ref_of bytes ≡ Some base → NamesBase (of_branch w (record { branch = branch; version = version })) base bytes version.0
branch-names true branch bytes version base e = (e, refl)
branch-names false branch bytes version base e = (e, refl)

-- the version at which a branch that is to confirm a lease named the base
witness-version : (o : Origin) (tip : Tip) → witness_of o ≡ Some (W.Branch tip) → (base : Id12) (bytes : List ℕ) (version : ℕ) → NamesBase o base bytes version → tip.version ≡ version_at version
witness-version (Writes own) tip e base bytes version names = let is : own ≡ tip = cc in subst (λ (t : Tip). t.version ≡ version_at version) is names.1
witness-version (ReadsBranch own) tip e base bytes version names = let is : own ≡ tip = cc in subst (λ (t : Tip). t.version ≡ version_at version) is names.1
witness-version (ReadsTag tag) tip e base bytes version names = absurd (cc)
witness-version ReadsId tip e base bytes version names = absurd (cc)

module _ (by : Caller) (a : Asked) (start : List Event) where
  abbrev Base : SessionState → List Event → Type 0
  Base s h = Settled by a start s.base s.origin h

  abbrev OpensAll : Play Outcome → List Event → Type 0
  OpensAll p h = PlayKeeps (Opens by a start) by p h

  settled-as : (s : SessionState) (base : Id12) (origin : Origin) (h : List Event) → s.base ≡ base → s.origin ≡ origin → Settled by a start base origin h → Base s h
  settled-as s base origin h e f x = subst (λ (b : Id12). Settled by a start b s.origin h) (sym e) (subst (λ (o : Origin). Settled by a start base o h) (sym f) x)

  settled-same : (s t : SessionState) (h : List Event) → IsSame s t → Base s h → Base t h
  settled-same s t h i x = settled-as t s.base s.origin h i.base i.origin x

  refused-opens : (line : ℕ) (shown : List Shown) (why : Refusal) (h : List Event) → OpensAll (refused line shown why) h
  unfolding PlayKeeps
  refused-opens line shown why h = tt

  -- ---- a rebase
  abbrev OnHead : Rebased → List Event → Type 0
  OnHead (On_head t count) h = Base t h
  OnHead (UpToDate t) h = Base t h

  module _ (policy : Policy) (s : SessionState) (tip : Tip) (is : s.origin ≡ Writes tip) where
    abbrev rest : Reply → Program Rebased
    rest reply = on_answer (after_ref policy s) (ref_told tip.branch reply)

    abbrev Goes_on : Program Rebased → List Event → Type 0
    Goes_on p h = Keeps (Opens by a start) by p h × Leads (λ r j. IfOk r (λ x. OnHead x j)) by p h

    ends-there : (why : Refusal) (h : List Event) → Goes_on (Done (Err why)) h
    unfolding Keeps Leads
    ends-there why h = (tt, tt)

    on-head : (named : Resolved) (r : Result Rebased Refusal) (h : List Event) → IfOk r (IsOnHead s named) × Settled by a start named.id (Writes (tip_at named.version.0 tip)) h → IfOk r (λ x. OnHead x h)
    on-head named (Ok (On_head t count)) h q = settled-as t named.id (Writes (tip_at named.version.0 tip)) h q.0.0 (q.0.1 ∙ ap (origin_at named.version.0) is) q.1
    on-head named (Ok (UpToDate t)) h q = settled-as t named.id (Writes (tip_at named.version.0 tip)) h q.0.0 (q.0.1 ∙ ap (origin_at named.version.0) is) q.1
    on-head named (Err why) h q = tt

    named-goes : (bytes : List ℕ) (version : Version) (now : ℕ) (h new : List Event) → Base s h → Makes by (Get (Branch tip.branch)) (Is_got (Found bytes version now)) h new → (r : Result Id12 Bad) → read_ref bytes ≡ r
        → Goes_on (on_answer (after_ref policy s) (resolved_at version (at_key (Branch tip.branch) r))) new
    named-goes bytes version now h new x m (Err bad) e = ends-there _ new
    named-goes bytes version now h new x m (Ok id) e =
        let named : Resolved = record { id = id; version = version } in
        let next : Tip = tip_at version.0 tip in
        let within = ref-within policy s named in
        let old : IsAskedFor a.at a.writes (Writes tip) s.base = subst (λ (o : Origin). IsAskedFor a.at a.writes o s.base) is x.of_asked in
        let rebasing : Rebasing by a start s.base s.origin new = rebasing-makes by a start s.base s.origin (Get (Branch tip.branch)) (Is_got (Found bytes version now)) h new m tt (rebase-begins by a start s.base s.origin h x) in
        let settled : Settled by a start id (Writes next) new = settled-now by a start id (Writes next) (Branch tip.branch) bytes version now h new m refl (ap result_ok e, refl) (asked-again a.at a.writes tip next s.base id refl old) x.goes rebasing.asked in (
          climb-keeps by a start (λ r. IfOk r (IsOnHead s named)) s.base s.origin (after_ref policy s named) new within rebasing,
          Leads-weaker (λ r j. IfOk r (IsOnHead s named) × Settled by a start id (Writes next) j) (λ r j. IfOk r (λ y. OnHead y j)) (λ r j q. on-head named r j q) by (after_ref policy s named) new
              (climb-leads by a start (λ r. IfOk r (IsOnHead s named)) id (Writes next) (after_ref policy s named) new within settled),
        )

    ref-goes : (h : List Event) → Base s h → (reply : Reply) (new : List Event) → Makes by (Get (Branch tip.branch)) reply h new → Goes_on (rest reply) new
    ref-goes h x reply new m =
        got-cases by h new (λ r. Goes_on (rest r) new) (Branch tip.branch)
        (λ bytes version now n. named-goes bytes version now h new x n (read_ref bytes) refl) (λ now n. ends-there _ new) (λ done n. ends-there _ new) reply m

    program-goes : (h : List Event) → Base s h → Goes_on (resolve_program tip.branch >>= after_ref policy s) h
    unfolding Keeps Leads
    program-goes h x = ((inr (settled-has by a start s.base s.origin h x, tt), λ reply new m. (ref-goes h x reply new m).0), λ reply new m. (ref-goes h x reply new m).1)

  rebased-opens : (line : ℕ) (shown : List Shown) (again : SessionState → Play Outcome) → ((u : SessionState) (h : List Event) → Base u h → OpensAll (again u) h) → (x : Rebased) (h : List Event) → OnHead x h → OpensAll (after_rebase line shown again (Ok x)) h
  unfolding PlayKeeps
  rebased-opens line shown again go (On_head t count) h q = (go t h q, tt)
  rebased-opens line shown again go (UpToDate t) h q = (go t h q, tt)

  rebase-opens : (policy : Policy) (line : ℕ) (shown : List Shown) (again : SessionState → Play Outcome) → ((u : SessionState) (h : List Event) → Base u h → OpensAll (again u) h) → (s : SessionState) (h : List Event) → Base s h → OpensAll (call (rebase_program policy s) (after_rebase line shown again)) h
  unfolding rebase_program
  rebase-opens policy line shown again go s h x = by_writing (writes s) refl
    where
      by_writing : (b : Bool) → writes s ≡ b → OpensAll (call (cond b (resolve_program (branch_of s) >>= after_ref policy s) (Done (Err ReadOnly))) (after_rebase line shown again)) h
      by_writing false e = refused-opens line shown ReadOnly h
      by_writing true e =
          let tip = writes-tip s.origin e in
          let branch : tip.0.branch ≡ branch_of s = ap (λ (o : Origin). tip_branch (tip_in o)) (sym tip.1) in
          subst (λ (b : List ℕ). OpensAll (call (resolve_program b >>= after_ref policy s) (after_rebase line shown again)) h) branch
          (let goes = program-goes policy s tip.0 tip.1 h x in
          opens-call by a start (resolve_program tip.0.branch >>= after_ref policy s) (after_rebase line shown again) OnHead h goes.0 goes.1 (λ y j q. rebased-opens line shown again go y j q) (λ why j. refused-opens line shown why j))

  -- ---- a commit in doubt
  settling-opens : (shown : List Shown) (id : Id12) (answer : Result TheSettled Refusal) (h : List Event) → OpensAll (after_settling shown id answer) h
  unfolding PlayKeeps
  settling-opens shown id answer h = tt

  -- it is settled as a session is rebased
  doubt-opens : (shown : List Shown) (s : SessionState) (id : Id12) (h : List Event) → Base s h → OpensAll (doubt_play shown s id) h
  doubt-opens shown s id h x =
      walk-call by a start (settle_program (branch_of s) (doubt_of s id)) (after_settling shown id) (λ told. Unit {0}) s.base s.origin h (settle-within (branch_of s) (doubt_of s id)) (rebase-begins by a start s.base s.origin h x)
      (λ answer j. settling-opens shown id answer j)

  -- ---- a commit
  module _ (line : ℕ) (shown : List Shown) (s : SessionState) (lost : Version → Option Version → AnyIds → Play Outcome) where
    abbrev answered : Result Tried Refusal → Play Outcome
    answered = after_commit line shown (doubt_play shown s) lost

    refused-commit : (why : Refusal) (h : List Event) → Base s h → OpensAll (answered (Err why)) h
    refused-commit why h x = elim (which why) [
      | inl d ↦ subst (λ (w : Refusal). OpensAll (answered (Err w)) h) (sym d.1) (doubt-opens shown s d.0 h x)
      | inr never ↦ subst (λ (p : Play Outcome). OpensAll p h) (sym (no-doubt line shown (doubt_play shown s) lost why never)) (refused-opens line shown why h)
    ]

    tried-opens : (h : List Event) → Base s h → ((old : Version) (there : Option Version) (next : AnyIds) → OpensAll (lost old there next) h) → (r : Result Tried Refusal) → OpensAll (answered r) h
    unfolding PlayKeeps
    tried-opens h x go (Ok (Was_done made)) = tt
    tried-opens h x go (Ok (Lost old there next)) = go old there next
    tried-opens h x go (Err why) = refused-commit why h x

    -- one commit of the session, and what follows where it was lost
    once-opens : (message : List ℕ) (h : List Event) → Base s h → ((old : Version) (there : Option Version) (next : AnyIds) (j : List Event) → Base s j → OpensAll (lost old there next) j) → OpensAll (call (commit_program s message) answered) h
    once-opens message h x go =
        still-goes by a start (commit_program s message) answered (λ t. Unit {0}) s.base s.origin h (commit-within s message) x
        (λ r j y. tried-opens j y (λ old there next. go old there next j y) r) (λ j. refused-opens line shown NoMemory j)

  commit-opens : (tries : ℕ) (policy : Policy) (line : ℕ) (shown : List Shown) (message : List ℕ) (s : SessionState) (h : List Event) → Base s h → OpensAll (commit_play tries policy line shown message s) h
  unfolding commit_play
  commit-opens zero policy line shown message s h x =
      once-opens line shown s (λ old there next. refused line shown (LostRace old there)) message h x (λ old there next j y. refused-opens line shown (LostRace old there) j)
  commit-opens (suc tries) policy line shown message s h x =
      once-opens line shown s (λ old there next. call (rebase_program policy (record s { ids = next })) (after_rebase line shown (commit_play tries policy line shown message))) message h x
      (λ old there next j y. rebase-opens policy line shown (commit_play tries policy line shown message) (λ u k z. commit-opens tries policy line shown message u k z) (record s { ids = next }) j (settled-same s (record s { ids = next }) j (record { base = refl; origin = refl }) y))

  -- ---- a lease
  -- what it came to, and the session has its base still, where it was confirmed
  abbrev Confirms : SessionState → Result (Unit {0}) Refusal → List Event → Type 0
  Confirms s r h = IfOk r (λ done. Base s h)

  abbrev Behind : SessionState → Leased → List Event → Type 0
  Behind s l h = Confirms s l.result h

  module _ (s : SessionState) (old : List Event) (x : Base s old) where
    at-version : (tip : Tip) → witness_of s.origin ≡ Some (W.Branch tip) → (bytes : List ℕ) (version : Version) (now : ℕ) (new : List Event) → Makes by (Get (Branch tip.branch)) (Is_got (Found bytes version now)) old new
        → (same : Bool) → (version.0 == tip.version.0) ≡ same → Confirms s (cond same (Ok tt) (Err (Moved (Some version)))) new
    at-version tip is bytes version now new m false e = tt
    at-version tip is bytes version now new m true e =
        settled-finds by a start s.base s.origin (Get (Branch tip.branch)) (Is_got (Found bytes version now)) old new m x
        (λ gets. eqb-true version.0 tip.version.0 e ∙ ap (λ (v : Version). v.0) (witness-version s.origin tip is s.base x.named.bytes x.named.version x.named.names))

    by-witness : (w : Witness) → witness_of s.origin ≡ Some w → (reply : Reply) (new : List Event) → Makes by (Get (witness_key w)) reply old new → Confirms s (confirmed w reply) new
    by-witness (W.Branch tip) is reply new m =
        got-cases by old new (λ r. Confirms s (stands_at tip.version r) new) (Branch tip.branch) (λ bytes version now n. at-version tip is bytes version now new n (version.0 == tip.version.0) refl) (λ now n. tt) (λ done n. tt) reply m
    by-witness (W.Tag tag) is reply new m =
        got-cases by old new (λ r. Confirms s (has_none r) new) (Tombstone tag) (λ bytes version now n. tt) (λ now n. settled-makes by a start s.base s.origin (Get (Tombstone tag)) (Is_got (Absent now)) old new n (λ g. cc) x) (λ done n. tt) reply m

  module _ (s : SessionState) (id : Id12) (w : Witness) (is : witness_of s.origin ≡ Some w) where
    abbrev Put : Op
    Put = PutNew (Lease_key id) (ref_bytes s.base) For_lease

    put-settled : (h : List Event) → Base s h → (reply : Reply) (new : List Event) → Makes by Put reply h new → Base s new
    put-settled h x reply new m = settled-makes by a start s.base s.origin Put reply h new m (λ g. g) x

    lease-keeps : (h : List Event) → Base s h → PlayKeeps (Opens by a start) by (lease_play id s.base w) h
    unfolding PlayKeeps
    lease-keeps h x = (
      inr (settled-has by a start s.base s.origin h x, refl),
      tt,
      λ reply new m. put-cases (λ p. PlayKeeps (Opens by a start) by p new) id w (inr (settled-has by a start s.base s.origin new (put-settled h x reply new m), tt), tt, λ r n k. tt) tt tt reply,
    )

    lease-leads : (h : List Event) → Base s h → PlayLeads (Behind s) by (lease_play id s.base w) h
    unfolding PlayLeads
    lease-leads h x = (
      tt,
      λ reply new m. put-cases (λ p. PlayLeads (Behind s) by p new) id w (tt, λ r n k. by-witness s new (put-settled h x reply new m) w is r n k) tt tt reply,
    )

  -- ---- lines
  module _ (access : Access) where
    -- whatever follows a line
    abbrev GoOn : (SessionState → List Shown → Play Outcome) → Type 0
    GoOn rest = (t : SessionState) (shown : List Shown) (h : List Event) → Base t h → OpensAll (rest t shown) h

    confirmed-opens : (line : ℕ) (shown : List Shown) (s t : SessionState) (rest : SessionState → List Shown → Play Outcome) (h : List Event) → IsSame s t → GoOn rest → (r : Result (Unit {0}) Refusal) → Confirms s r h → OpensAll (after_confirm line shown t rest r) h
    confirmed-opens line shown s t rest h i go (Ok done) x = go t shown h (settled-same s t h i x)
    confirmed-opens line shown s t rest h i go (Err why) x = refused-opens line shown why h

    lease-opens : (line : ℕ) (shown : List Shown) (s : SessionState) (show : Id12 → Shown) (rest : SessionState → List Shown → Play Outcome) (h : List Event) → Base s h → GoOn rest → OpensAll (lease_by show line shown s rest (lease_of s)) h
    lease-opens line shown s show rest h x go =
        lease-cases (λ r. OpensAll (lease_by show line shown s rest r) h) s
        (λ id w drawn is.
        PlayKeeps-followed (Opens by a start) (Behind s) by (lease_play id s.base w) (after_lease show line shown (after_draw s) rest) h (lease-keeps s id w is h x) (lease-leads s id w is h x)
        (λ l j c. confirmed-opens line (shown ++ placed_shown show l.placed) s (after_draw s) rest j (record { base = refl; origin = refl }) go l.result c))
        (λ why e. refused-opens line shown why h)

    deed-opens : (line : ℕ) (shown : List Shown) (s : SessionState) (rest : SessionState → List Shown → Play Outcome) (h : List Event) → Base s h → GoOn rest → (d : LineDeed) → GoesSame s d → OpensAll (play_deed access line shown s d rest) h
    deed-opens line shown s rest h x go (Goes (Ok went)) leaves = go went.1 (shown ++ went.0) h (settled-same s went.1 h leaves x)
    deed-opens line shown s rest h x go (Goes (Err why)) leaves = refused-opens line shown why h
    deed-opens line shown s rest h x go (Sets path index bytes) leaves =
        still-call by a start (set_program s path index bytes) (λ answer. after_line line shown (silent answer) rest) (IsSame s) s.base s.origin h (set-within Still still-gets still-puts s path index bytes) x
        (λ t j i y. go t (shown ++ []) j (settled-same s t j i y)) (λ why j. refused-opens line shown why j)
    deed-opens line shown s rest h x go (Reads path index show) leaves =
        still-call by a start (get_program s path index) (λ answer. after_line line shown (shown_by s show answer) rest) (λ v. Unit {0}) s.base s.origin h (get-within Still still-gets still-puts s path index) x
        (λ v j q y. go s (shown ++ show v ∷ []) j y) (λ why j. refused-opens line shown why j)
    deed-opens line shown s rest h x go (Puts path from to numbers) leaves =
        still-call by a start (region_set_program s path from to numbers) (λ answer. after_line line shown (silent answer) rest) (IsSame s) s.base s.origin h (put-box-within Still still-gets still-puts s path from to numbers) x
        (λ t j i y. go t (shown ++ []) j (settled-same s t j i y)) (λ why j. refused-opens line shown why j)
    deed-opens line shown s rest h x go (Gathers path from to show) leaves =
        still-call by a start (region_program s path from to) (λ answer. after_line line shown (shown_by s show answer) rest) AnyNumbers s.base s.origin h (gather-within Still still-gets still-puts s path from to) x
        (λ numbers j q y. go s (shown ++ show numbers ∷ []) j y) (λ why j. refused-opens line shown why j)
    deed-opens line shown s rest h x go (Leases show) leaves = lease-opens line shown s show rest h x go
    deed-opens line shown s rest h x go (Commits message) leaves = commit-opens (tries_of access) (policy_of access) line shown message s h x

    lines-open : (ls : List Line) (s : SessionState) (shown : List Shown) (h : List Event) → Base s h → OpensAll (play_lines access ls s shown) h
    unfolding PlayKeeps play_lines
    lines-open [] s shown h x = tt
    lines-open (l ∷ ls) s shown h x =
        (deed-opens l.number shown s (play_lines access ls) h x (λ t more j y. lines-open ls t more j y) (deed l.number l.call s) (deed-same l.number s l.call), tt)

-- ---- the opening
module _ (by : Caller) (start : List Event) (at : At) (w : Bool) (ids : AnyIds) where
  abbrev asks : Asked
  asks = record { at = at; writes = w; ids = ids }

  -- what is asked for is got first
  asked-now : (reply : Reply) (new : List Event) → Makes by (Get (naming_of at)) reply start new → HasAsked by.number at start new
  asked-now reply new m = record {
    reply = reply;
    own = own-now by start (Get (naming_of at)) reply start new m (record { more = []; is = sym (append-nil start) });
    first = record {
      more = m.waits.between;
      is = m.waits.is;
      each = Each-weaker (IsOther by) (λ before event. event.client ≡ by.number → ⊥) (λ h e o k. absurd (o.other k)) start m.waits.between m.waits.others;
    };
  }

  -- what follows the first operation, or what the opening answers
  abbrev Follows : Program SessionState → List Event → Type 0
  Follows p h = Keeps (Opens by asks start) by p h × Leads (λ r j. IfOk r (λ s. Base by asks start s j)) by p h

  abbrev Begins : (base : Id12) → Origin → SessionState → Type 0
  Begins base origin s = (s.base ≡ base) × (s.origin ≡ origin)

  refused-follows : (why : Refusal) (h : List Event) → Follows (Done (Err why)) h
  unfolding Keeps Leads
  refused-follows why h = (tt, tt)

  settled-follows : (base : Id12) (origin : Origin) (p : Program SessionState) (h : List Event) → WithinOk Still (Begins base origin) p → Settled by asks start base origin h → Follows p h
  settled-follows base origin p h within x = (
    still-keeps by asks start (λ r. IfOk r (Begins base origin)) base origin p h within x,
    Leads-weaker (λ r j. IfOk r (Begins base origin) × Settled by asks start base origin j) (λ r j. IfOk r (λ s. Base by asks start s j)) begins by p h (still-leads by asks start (λ r. IfOk r (Begins base origin)) base origin p h within x),
  )
    where
      begins : (r : Result SessionState Refusal) (j : List Event) → IfOk r (Begins base origin) × Settled by asks start base origin j → IfOk r (λ s. Base by asks start s j)
      begins (Ok s) j q = settled-as by asks start s base origin j q.0.0 q.0.1 q.1
      begins (Err why) j q = tt

  -- the get of the snapshot that was named
  base-told : (named : Named) (r : Result SnapshotFile Refusal) → WithinOk Still (Begins named.id (origin_for asks named)) (on_answer (λ (snap : SnapshotFile). Done (Ok (begun asks named snap))) r)
  unfolding Within
  base-told named (Ok snap) = (refl, refl)
  base-told named (Err why) = tt

  base-within : (named : Named) → WithinOk Still (Begins named.id (origin_for asks named)) (base_program asks named)
  unfolding Within
  base-within named = ((λ g. cc, λ base. tt), λ reply. base-told named (base_told at named.id reply))

  goes-first : GoesOn start start
  goes-first = record { more = []; is = sym (append-nil start) }

-- a branch
module _ (by : Caller) (start : List Event) (branch : List ℕ) (w : Bool) (ids : AnyIds) where
  branch-named : (bytes : List ℕ) (version : Version) (now : ℕ) (new : List Event) → Makes by (Get (Branch branch)) (Is_got (Found bytes version now)) start new → (r : Result Id12 Bad) → read_ref bytes ≡ r
      → Follows by start (At.Branch branch) w ids (bind (on_answer (λ (read : Resolved). Done (Ok (record { id = read.id; version = Some read.version }))) (resolved_at version (at_key (Branch branch) r))) (on_answer (base_program (asks by start (At.Branch branch) w ids)))) new
  branch-named bytes version now new m (Err bad) e = refused-follows by start (At.Branch branch) w ids _ new
  branch-named bytes version now new m (Ok id) e =
      let at : At = At.Branch branch in
      let tip : Tip = record { branch = branch; version = version } in
      let named : Named = record { id = id; version = Some version } in
      settled-follows by start at w ids id (of_branch w tip) (base_program (asks by start at w ids) named) new (base-within by start at w ids named)
      (settled-now by (asks by start at w ids) start id (of_branch w tip) (Branch branch) bytes version now start new m (branch-key w tip id) (branch-names w branch bytes version id (ap result_ok e)) (tip, refl, refl) (goes-first by start at w ids)
      (asked-now by start at w ids (Is_got (Found bytes version now)) new m))

  branch-follows : (reply : Reply) (new : List Event) → Makes by (Get (Branch branch)) reply start new
      → Follows by start (At.Branch branch) w ids (bind (on_answer (λ (read : Resolved). Done (Ok (record { id = read.id; version = Some read.version }))) (ref_told branch reply)) (on_answer (base_program (asks by start (At.Branch branch) w ids)))) new
  branch-follows reply new m =
      got-cases by start new (λ r. Follows by start (At.Branch branch) w ids (bind (on_answer (λ (read : Resolved). Done (Ok (record { id = read.id; version = Some read.version }))) (ref_told branch r)) (on_answer (base_program (asks by start (At.Branch branch) w ids)))) new) (Branch branch)
      (λ bytes version now n. branch-named bytes version now new n (read_ref bytes) refl) (λ now n. refused-follows by start (At.Branch branch) w ids _ new) (λ done n. refused-follows by start (At.Branch branch) w ids _ new) reply m

-- a tag
module _ (by : Caller) (start : List Event) (tag : List ℕ) (w : Bool) (ids : AnyIds) where
  abbrev of_tag : Asked
  of_tag = asks by start (At.Tag tag) w ids

  alone-within : (id : Id12) (r : Result Id12 Refusal) → IfOk r (λ x. x ≡ id) → WithinOk Still (Begins by start (At.Tag tag) w ids id (ReadsTag tag)) (bind (on_answer (λ (x : Id12). Done (Ok (alone x))) r) (on_answer (base_program of_tag)))
  unfolding Within
  alone-within id (Ok x) e = subst (λ (y : Id12). WithinOk Still (Begins by start (At.Tag tag) w ids y (ReadsTag tag)) (base_program of_tag (alone x))) e (base-within by start (At.Tag tag) w ids (alone x))
  alone-within id (Err why) e = tt

  tombstone-id : (id : Id12) (reply : Reply) → IfOk (tombstone_told id reply) (λ x. x ≡ id)
  tombstone-id id (Is_got (Found bytes version now)) = tt
  tombstone-id id (Is_got (Absent now)) = refl
  tombstone-id id (Is_new x) = tt
  tombstone-id id (Is_over x) = tt
  tombstone-id id (Is_gone x) = tt
  tombstone-id id (Is_gone_at x) = tt
  tombstone-id id (Is_listed x) = tt
  tombstone-id id (Failed done) = tt

  tombstone-within : (id : Id12) → WithinOk Still (Begins by start (At.Tag tag) w ids id (ReadsTag tag)) (bind (tombstone_program tag id >>= (λ (x : Id12). Done (Ok (alone x)))) (on_answer (base_program of_tag)))
  unfolding Within
  tombstone-within id = ((λ g. cc, λ base. tt), λ reply. alone-within id (tombstone_told id reply) (tombstone-id id reply))

  tag-named : (bytes : List ℕ) (version : Version) (now : ℕ) (new : List Event) → Makes by (Get (Tag tag)) (Is_got (Found bytes version now)) start new → (r : Result Id12 Bad) → read_ref bytes ≡ r
      → Follows by start (At.Tag tag) w ids (bind (on_answer (λ (x : Id12). tombstone_program tag x >>= (λ (y : Id12). Done (Ok (alone y)))) (at_key (Tag tag) r)) (on_answer (base_program of_tag))) new
  tag-named bytes version now new m (Err bad) e = refused-follows by start (At.Tag tag) w ids _ new
  tag-named bytes version now new m (Ok id) e =
      settled-follows by start (At.Tag tag) w ids id (ReadsTag tag) _ new (tombstone-within id)
      (settled-now by of_tag start id (ReadsTag tag) (Tag tag) bytes version now start new m refl (ap result_ok e) refl (goes-first by start (At.Tag tag) w ids) (asked-now by start (At.Tag tag) w ids (Is_got (Found bytes version now)) new m))

  tag-follows : (reply : Reply) (new : List Event) → Makes by (Get (Tag tag)) reply start new
      → Follows by start (At.Tag tag) w ids (bind (on_answer (λ (x : Id12). tombstone_program tag x >>= (λ (y : Id12). Done (Ok (alone y)))) (tag_told tag reply)) (on_answer (base_program of_tag))) new
  tag-follows reply new m =
      got-cases by start new (λ r. Follows by start (At.Tag tag) w ids (bind (on_answer (λ (x : Id12). tombstone_program tag x >>= (λ (y : Id12). Done (Ok (alone y)))) (tag_told tag r)) (on_answer (base_program of_tag))) new) (Tag tag)
      (λ bytes version now n. tag-named bytes version now new n (read_ref bytes) refl) (λ now n. refused-follows by start (At.Tag tag) w ids _ new) (λ done n. refused-follows by start (At.Tag tag) w ids _ new) reply m

-- a snapshot's own id
module _ (by : Caller) (start : List Event) (id : Id12) (w : Bool) (ids : AnyIds) where
  abbrev of_id : Asked
  of_id = asks by start (At.Snapshot id) w ids

  id-read : (bytes : List ℕ) (version : Version) (now : ℕ) (new : List Event) → Makes by (Get (Snapshot id)) (Is_got (Found bytes version now)) start new → (r : Result SnapshotFile Bad) → read_snapshot id bytes ≡ r
      → Follows by start (At.Snapshot id) w ids (on_answer (λ (snap : SnapshotFile). Done (Ok (begun of_id (alone id) snap))) (but_refused no_ref (at_key (Snapshot id) r))) new
  id-read bytes version now new m (Err bad) e = refused-follows by start (At.Snapshot id) w ids _ new
  id-read bytes version now new m (Ok snap) e =
      settled-follows by start (At.Snapshot id) w ids id ReadsId (Done (Ok (begun of_id (alone id) snap))) new (base-told by start (At.Snapshot id) w ids (alone id) (Ok snap))
      (settled-now by of_id start id ReadsId (Snapshot id) bytes version now start new m refl (snap, ap result_ok e) (refl, refl) (goes-first by start (At.Snapshot id) w ids) (asked-now by start (At.Snapshot id) w ids (Is_got (Found bytes version now)) new m))

  id-follows : (reply : Reply) (new : List Event) → Makes by (Get (Snapshot id)) reply start new
      → Follows by start (At.Snapshot id) w ids (on_answer (λ (snap : SnapshotFile). Done (Ok (begun of_id (alone id) snap))) (base_told (At.Snapshot id) id reply)) new
  id-follows reply new m =
      got-cases by start new (λ r. Follows by start (At.Snapshot id) w ids (on_answer (λ (snap : SnapshotFile). Done (Ok (begun of_id (alone id) snap))) (base_told (At.Snapshot id) id r)) new) (Snapshot id)
      (λ bytes version now n. id-read bytes version now new n (read_snapshot id bytes) refl) (λ now n. refused-follows by start (At.Snapshot id) w ids _ new) (λ done n. refused-follows by start (At.Snapshot id) w ids _ new) reply m

-- what was asked for
opening-follows : (by : Caller) (start : List Event) (at : At) (w : Bool) (ids : AnyIds) → Follows by start at w ids (open_program (asks by start at w ids)) start
unfolding Keeps Leads
opening-follows by start (At.Branch branch) w ids =
    let first = alone-none (λ op. ⊥) by.number start in
    ((inl (first, refl), λ reply new m. (branch-follows by start branch w ids reply new m).0), λ reply new m. (branch-follows by start branch w ids reply new m).1)
opening-follows by start (At.Tag tag) w ids =
    let first = alone-none (λ op. ⊥) by.number start in
    ((inl (first, refl), λ reply new m. (tag-follows by start tag w ids reply new m).0), λ reply new m. (tag-follows by start tag w ids reply new m).1)
opening-follows by start (At.Snapshot id) w ids =
    let first = alone-none (λ op. ⊥) by.number start in
    ((inl (first, refl), λ reply new m. (id-follows by start id w ids reply new m).0), λ reply new m. (id-follows by start id w ids reply new m).1)

-- ---- a task that opens a session
asked-follows : (by : Caller) (start : List Event) (a : Asked) → Keeps (Opens by a start) by (open_program a) start × Leads (λ r h. IfOk r (λ s. Base by a start s h)) by (open_program a) start
asked-follows by start a = opening-follows by start a.at a.writes a.ids

pub session-opens : (by : Caller) (ids : AnyIds) (access : Access) (line : ℕ) (body : List Line) (start : List Event) → PlayKeeps (Opens by (asked_by access ids) start) by (session_play ids access line body) start
session-opens by ids access line body start =
    let a : Asked = asked_by access ids in
    let opening = asked-follows by start a in
    opens-call by a start (open_program a) (after_open access line body) (λ s h. Base by a start s h) start opening.0 opening.1
    (λ s h x. lines-open by a start access body s [] h x) (λ why h. refused-opens by a start line [] why h)

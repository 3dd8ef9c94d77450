-- Calls on refs, collections and expiries commit nothing.
use Rattle.std.proofs.Common.{inl, inr, refl, sym, ap, ◌∙◌, ◌&&◌, cond, Bool, true, false, ℕ, zero, suc, List, [], ◌∷◌, ◌++◌, Option, None, Some, Result, Ok, Err}
use Rattle.std.specs.Prelude.{IfOk}
use Rattle.std.proofs.lemmas.Bool.{false≢true}
use Rattle.ice_ids.specs.declared.Id12.{Id12}
use Rattle.snapshot_file.specs.declared.snapshot.SnapshotFile.{SnapshotFile}
use Rattle.object_store.specs.declared.keys.Key.{Key}
use Rattle.object_store.specs.declared.keys.Key.TheVariants.{Snapshot, Manifest, Txn, Chunk, Branch, Tag, Tombstone, Lease}
use Rattle.object_store.specs.declared.keys.Part.{Part}
use Rattle.object_store.specs.declared.keys.Part.TheVariants.{Snapshots, Manifests, Txns, Chunks, Branches, Tags, Leases}
use Rattle.object_store.specs.declared.events.Version.{Version}
use Rattle.object_store.specs.declared.events.Op.{Op}
use Rattle.object_store.specs.declared.events.Op.TheVariants.{Get, List as ListPart}
use Rattle.object_store.specs.declared.events.New.TheVariants.{Done as New_done, Present}
use Rattle.object_store.specs.declared.events.Gone.{Gone}
use Rattle.object_store.specs.declared.events.Gone.TheVariants.{Done as Gone_done, Absent as Gone_absent}
use Rattle.object_store.specs.declared.events.Reply.{Reply}
use Rattle.object_store.specs.declared.events.Reply.TheVariants.{Got as Is_got, New as Is_new, Over as Is_over, Gone as Is_gone, GoneAt as Is_gone_at, Listed as Is_listed, Failed}
use Rattle.store_api.specs.declared.machines.Refusal.{Refusal}
use Rattle.store_api.specs.declared.machines.Refusal.TheVariants.{NoMemory}
use Rattle.store_api.specs.Program.{Done, Ask as Ask_next, IsDone}
use Rattle.store_api.specs.Running.{Program, on_answer}
use Rattle.store_api.specs.Plays.{Play, call}
use Rattle.repo_read.specs.declared.answers.Resolved.{Resolved}
use Rattle.repo_read.specs.declared.resolving.At.{At}
use Rattle.repo_read.specs.declared.resolving.Named.{Named}
use Rattle.repo_read.specs.Chains.{most_snapshots}
use Rattle.repo_read.specs.Resolving.{resolve_at_program}
use Rattle.live_refs.specs.Live.{live}
use Rattle.cleanup_reports.specs.declared.removed.Removed.{Removed}
use Rattle.cleanup_reports.specs.declared.cases.What.{What}
use Rattle.cleanup_reports.specs.declared.cases.What.TheVariants.{Absent, Kept}
use Rattle.cleanup_reports.specs.declared.cases.RefCase.{RefCase}
use Rattle.refs_admin.specs.Targets.{target_program}
use Rattle.refs_admin.specs.Branches.{branch_new_program, branch_reset_program, branch_drop_program}
use Rattle.refs_admin.specs.Tags.{after_tag, put_tag, tag_target_program, tag_new_program, tag_drop_program}
use Rattle.refs_admin.specs.LogReading.{chain_log_program}
use Rattle.chunk_gc.specs.declared.standing.Collected.{Collected}
use Rattle.chunk_gc.specs.Told.{first_told, listed_told, ref_got, snapshot_got, manifest_got}
use Rattle.chunk_gc.specs.Programs.{Work, Answer, no_work, get_refs, with_ref, with_lease, get_files, with_file, leaving_files, with_snapshot, leaving_snapshots, mark_got, mark_last, mark_next, mark, mark_leased, begin_leased, sweeping, told_doomed, list_chunks, list_manifests, list_logs, list_snapshots, marking, list_leases, list_tags, mark_program}
use Rattle.chunk_gc.specs.Plays.{nothing, counted, after_gone, after_removal, sweep, after_marking, collect_play}
use Rattle.expiry.specs.declared.terms.Terms.{Terms}
use Rattle.expiry.specs.declared.look.Decision.{Decision}
use Rattle.expiry.specs.declared.look.Decision.TheVariants.{Gone as Is_absent, Keeps, Drops, Cuts}
use Rattle.expiry.specs.declared.standing.Expired.{Expired}
use Rattle.expiry.specs.Verdicts.{is_older, may_drop}
use Rattle.expiry.specs.declared.look.Seen.{Seen}
use Rattle.expiry.specs.Looks.{ref_seen, snapshot_seen, next_of, cuts, look_below, most_below, look_head, look_named, look_program}
use Rattle.expiry.specs.Plays.{drop_op, drop_told, cut_told, decide, after_look, after_case, expire_each, after_listing, listing, all_done, expire_tags, expire_play}
use Rattle.script_calls.specs.declared.calls.Call.{Call}
use Rattle.script_calls.specs.declared.calls.Call.TheVariants as calls_of
use Rattle.play_script.specs.declared.scripts.Line.{Line}
use Rattle.script_calls.specs.declared.calls.RefCall.{RefCall}
use Rattle.script_calls.specs.declared.calls.RefCall.TheVariants as ref
use Rattle.play_outcome.specs.declared.outcome.Outcome.{Outcome}
use Rattle.play_outcome.specs.declared.outcome.Shown.{Shown}
use Rattle.play_refs.specs.Playing.{Rest, unseen, logged, ref_play, after_ref, play_ref_line, refs_play}
use Rattle.play_refs.proofs.Shapes.{Gets, Ends}
use Rattle.play_refs.proofs.Shaped.{IsNew, IsReset, IsRemoval, IsBurying, resolve-gets, target-gets, new-ends, reset-ends, drop-ends, bury-ends, log-gets}
use Rattle.play_collect.specs.Playing.{collect_task}
use Rattle.play_collect.specs.Playing as collecting
use Rattle.play_expire.specs.Playing.{expire_task}
use Rattle.play_expire.specs.Playing as expiring
use Rattle.play_tasks.specs.Played.{is_commit}
use Rattle.play_tasks.proofs.Within.{Within, WithinOk, then-within}
use Rattle.play_tasks.proofs.Singly.{Once, NoCommit, get-none, call-once, as-once}

-- ---- programs
-- none of its operations is a commit
abbrev Quiet : {A : Type 0} → Program A → Type 0
Quiet {A} p = WithinOk NoCommit (λ (a : A). Unit {0}) p

any-ok : {A : Type 0} (r : Result A Refusal) → IfOk r (λ (a : A). Unit {0})
any-ok (Ok a) = tt
any-ok (Err why) = tt

done-quiet : {A : Type 0} (r : Result A Refusal) → Quiet (Done r)
unfolding Within
done-quiet r = any-ok r

gets-quiet : {A : Type 0} (p : Program A) → Gets p → Quiet p
unfolding Gets Within
gets-quiet (Done r) g = any-ok r
gets-quiet (Ask_next op k) g = (get-none op g.0, λ reply. gets-quiet (k reply) (g.1 reply))

ended-quiet : {A : Type 0} (p : Program A) → IsDone p → Quiet p
ended-quiet (Done r) d = done-quiet r
ended-quiet (Ask_next op k) d = absurd d

ends-quiet : {A : Type 0} (last : Op → Type 0) → ((op : Op) → last op → NoCommit op) → (p : Program A) → Ends last p → Quiet p
unfolding Ends Within
ends-quiet last none (Done r) e = any-ok r
ends-quiet last none (Ask_next op k) (inl e) = (get-none op e.0, λ reply. ends-quiet last none (k reply) (e.1 reply))
ends-quiet last none (Ask_next op k) (inr e) = (none op e.0, λ reply. ended-quiet (k reply) (e.1 reply))

-- one operation, and what follows what it tells
answer-quiet : {A B : Type 0} (f : A → Program B) (r : Result A Refusal) → ((a : A) → Quiet (f a)) → Quiet (on_answer f r)
answer-quiet f (Ok a) g = g a
answer-quiet f (Err why) g = done-quiet (Err why)

asks-quiet : {A B : Type 0} (op : Op) (told : Reply → Result A Refusal) (f : A → Program B) → NoCommit op → ((a : A) → Quiet (f a)) → Quiet (Ask_next op (λ reply. on_answer f (told reply)))
unfolding Within
asks-quiet op told f none g = (none, λ reply. answer-quiet f (told reply) g)

either-quiet : {A : Type 0} (b : Bool) (p q : Program A) → Quiet p → Quiet q → Quiet (cond b p q)
either-quiet true p q g h = g
either-quiet false p q g h = h

-- ---- calls on refs
new-none : (name : List ℕ) (op : Op) → IsNew name op → NoCommit op
new-none name op is = ap is_commit is.1

reset-none : (name : List ℕ) (op : Op) → IsReset name op → NoCommit op
reset-none name op is = ap is_commit is.2

removal-none : (name : List ℕ) (op : Op) → IsRemoval name op → NoCommit op
removal-none name op is = ap is_commit is.1

bury-none : (name : List ℕ) (op : Op) → IsBurying name op → NoCommit op
bury-none name op is = ap is_commit is

after_tag-quiet : (name : List ℕ) (reply : Reply) → Quiet (after_tag name reply)
unfolding Within
after_tag-quiet name (Is_new (New_done version now)) = tt
after_tag-quiet name (Is_new (Present version now)) = (refl, λ reply. tt)
after_tag-quiet name (Is_got x) = tt
after_tag-quiet name (Is_over x) = tt
after_tag-quiet name (Is_gone x) = tt
after_tag-quiet name (Is_gone_at x) = tt
after_tag-quiet name (Is_listed x) = tt
after_tag-quiet name (Failed done) = tt

put_tag-quiet : (name : List ℕ) (id : Id12) → Quiet (put_tag name id)
unfolding Within
put_tag-quiet name id = (refl, λ reply. after_tag-quiet name reply)

tag-quiet : (name : List ℕ) (at : At) → Quiet (tag_new_program name at)
tag-quiet name at =
    then-within NoCommit (λ (named : Named). Unit {0}) (λ (a : Unit {0}). Unit {0}) (resolve_at_program at) (λ named. tag_target_program name named.id) (gets-quiet (resolve_at_program at) (resolve-gets at)) (λ named q.
    then-within NoCommit (λ (target : SnapshotFile). Unit {0}) (λ (a : Unit {0}). Unit {0}) (target_program named.id) (λ target. put_tag name named.id) (gets-quiet (target_program named.id) (target-gets named.id)) (λ target r. put_tag-quiet name named.id))

-- a call of such a program
quiet-once : {A B : Type 0} (p : Program A) (f : Result A Refusal → Play B) → Quiet p → ((r : Result A Refusal) → Once (f r)) → Once (call p f)
quiet-once {A} p f w g = call-once (λ (r : Result A Refusal). IfOk r (λ (a : A). Unit {0})) p f w (λ r q. g r) (g (Err NoMemory))

ref-once : (line : ℕ) (c : RefCall) (next : Result (List Shown) Refusal → Play Outcome) → ((r : Result (List Shown) Refusal) → Once (next r)) → Once (ref_play line c next)
ref-once line (ref.Branch name at) next g = quiet-once (branch_new_program name at) (λ answer. next (unseen answer)) (ends-quiet (IsNew name) (new-none name) (branch_new_program name at) (new-ends name at)) (λ r. g (unseen r))
ref-once line (ref.Reset name at) next g = quiet-once (branch_reset_program name at) (λ answer. next (unseen answer)) (ends-quiet (IsReset name) (reset-none name) (branch_reset_program name at) (reset-ends name at)) (λ r. g (unseen r))
ref-once line (ref.Unbranch name) next g = quiet-once (branch_drop_program name) (λ answer. next (unseen answer)) (ends-quiet (IsRemoval name) (removal-none name) (branch_drop_program name) (drop-ends name)) (λ r. g (unseen r))
ref-once line (ref.Tag name at) next g = quiet-once (tag_new_program name at) (λ answer. next (unseen answer)) (tag-quiet name at) (λ r. g (unseen r))
ref-once line (ref.Untag name) next g = quiet-once (tag_drop_program name) (λ answer. next (unseen answer)) (ends-quiet (IsBurying name) (bury-none name) (tag_drop_program name) (bury-ends name)) (λ r. g (unseen r))
ref-once line (ref.Log at) next g = quiet-once (chain_log_program at) (λ answer. next (logged line answer)) (gets-quiet (chain_log_program at) (log-gets at)) (λ r. g (logged line r))

after_ref-once : (line : ℕ) (shown : List Shown) (rest : Rest) → ((more : List Shown) → Once (rest more)) → (r : Result (List Shown) Refusal) → Once (after_ref line shown rest r)
unfolding Once
after_ref-once line shown rest g (Ok more) = g (shown ++ more)
after_ref-once line shown rest g (Err why) = tt

line-once : (line : ℕ) (x : Call) (shown : List Shown) (rest : Rest) → ((more : List Shown) → Once (rest more)) → Once (play_ref_line line x shown rest)
line-once line (calls_of.Ref c) shown rest g = ref-once line c (after_ref line shown rest) (after_ref-once line shown rest g)
line-once line (calls_of.Edit edit) shown rest g = g shown
line-once line (calls_of.Read read) shown rest g = g shown
line-once line (calls_of.Commit message) shown rest g = g shown
line-once line (calls_of.Prop name value) shown rest g = g shown
line-once line calls_of.Lease shown rest g = g shown

pub refs-once : (ls : List Line) (shown : List Shown) → Once (refs_play ls shown)
unfolding refs_play Once
refs-once [] shown = tt
refs-once (l ∷ ls) shown = (line-once l.number l.call shown (refs_play ls) (λ more. refs-once ls more), tt)

-- ---- a collection
abbrev Goes : (Work → Answer) → Type 0
Goes next = (w : Work) → Quiet (next w)

refs-quiet : (add : Option Id12 → Work → Work) (keys : List Key) (w : Work) (next : Work → Answer) → Goes next → Quiet (get_refs add keys w next)
unfolding get_refs
refs-quiet add [] w next g = g w
refs-quiet add (key ∷ keys) w next g = asks-quiet (Get key) (ref_got key) (λ id. get_refs add keys (add id w) next) refl (λ id. refs-quiet add keys (add id w) next g)

files-quiet : (ids : List Id12) (w : Work) (next : Work → Answer) → Goes next → Quiet (get_files ids w next)
unfolding get_files
files-quiet [] w next g = g w
files-quiet (id ∷ ids) w next g =
    asks-quiet (Get (Manifest id)) (manifest_got w.passes id) (λ m. get_files ids (with_file m (leaving_files ids w)) next) refl (λ m. files-quiet ids (with_file m (leaving_files ids w)) next g)

got-quiet : (id : Id12) (again : Work → Answer) (past : Answer) (w : Work) → Goes again → Quiet past → (o : Option SnapshotFile) → Quiet (mark_got id again past w o)
got-quiet id again past w h p None = p
got-quiet id again past w h p (Some s) = files-quiet (with_snapshot id s w).files.todo (with_snapshot id s w) again h

next-quiet : (end again : Work → Answer) → Goes end → Goes again → (todo : List Id12) (w : Work) → Quiet (mark_next end again todo w)
unfolding mark_next
next-quiet end again g h [] w = g w
next-quiet end again g h (id ∷ ids) w =
    let v : Work = leaving_snapshots ids w in
    asks-quiet (Get (Snapshot id)) (snapshot_got w.passes id) (mark_got id again (mark_next end again ids v) v) refl (got-quiet id again (mark_next end again ids v) v h (next-quiet end again g h ids v))

last-quiet : (end : Work → Answer) → Goes end → (todo : List Id12) (w : Work) → Quiet (mark_last end todo w)
last-quiet end g [] w = g w
last-quiet end g (id ∷ ids) w = done-quiet _

mark-quiet : (left : ℕ) (end : ℕ → Work → Answer) → ((n : ℕ) → Goes (end n)) → (w : Work) → Quiet (mark left end w)
unfolding mark
mark-quiet zero end g w = last-quiet (end zero) (g zero) w.snapshots.todo w
mark-quiet (suc left) end g w = next-quiet (end (suc left)) (λ v. mark left end v) (g (suc left)) (λ v. mark-quiet left end g v) w.snapshots.todo w

objects-quiet : (part : Part) (next : Work → Answer) (w : Work) → Goes next → Quiet (Ask_next (ListPart part) (λ reply. on_answer (λ l. next (sweeping l.entries w)) (listed_told reply)))
objects-quiet part next w g = asks-quiet (ListPart part) listed_told (λ l. next (sweeping l.entries w)) refl (λ l. g (sweeping l.entries w))

snapshots-quiet : Goes list_snapshots
snapshots-quiet w = objects-quiet Snapshots list_logs w (λ u. objects-quiet Txns list_manifests u (λ v. objects-quiet Manifests list_chunks v (λ x. objects-quiet Chunks told_doomed x (λ y. done-quiet (Ok y.doomed)))))

leased-quiet : (left : ℕ) → Goes (mark_leased left)
leased-quiet left w = mark-quiet left (λ n v. list_snapshots v) (λ n. snapshots-quiet) w

marked-quiet : (passes : Bool) (left : ℕ) → Goes (marking passes left)
marked-quiet false left w = mark-quiet left (λ n v. mark_leased n (begin_leased v)) (λ n v. leased-quiet n (begin_leased v)) w
marked-quiet true left w = leased-quiet left w

leases-quiet : (left : ℕ) → Goes (list_leases left)
leases-quiet left w =
    asks-quiet (ListPart Leases) listed_told (λ l. get_refs with_lease (live l.entries) w (marking w.passes left)) refl (λ l. refs-quiet with_lease (live l.entries) w (marking w.passes left) (marked-quiet w.passes left))

tags-quiet : (left : ℕ) → Goes (list_tags left)
tags-quiet left w = asks-quiet (ListPart Tags) listed_told (λ l. get_refs with_ref (live l.entries) w (list_leases left)) refl (λ l. refs-quiet with_ref (live l.entries) w (list_leases left) (leases-quiet left))

marking-quiet : (most cutoff : ℕ) → Quiet (mark_program most cutoff)
marking-quiet most cutoff =
    asks-quiet (ListPart Branches) (first_told cutoff) (λ l. get_refs with_ref (live l.entries) (no_work cutoff) (list_tags most)) refl (λ l. refs-quiet with_ref (live l.entries) (no_work cutoff) (list_tags most) (tags-quiet most))

gone-once : (key : Key) (next : Removed → Play Collected) → ((r : Removed) → Once (next r)) → (r : Removed) (gone : Gone) → Once (after_gone key next r gone)
gone-once key next g r (Gone_done now) = g (counted key r)
gone-once key next g r (Gone_absent now) = g r

removal-once : (key : Key) (next : Removed → Play Collected) → ((r : Removed) → Once (next r)) → (r : Removed) (reply : Reply) → Once (after_removal key next r reply)
unfolding Once
removal-once key next g r (Is_gone gone) = gone-once key next g r gone
removal-once key next g r (Is_got x) = tt
removal-once key next g r (Is_new x) = tt
removal-once key next g r (Is_over x) = tt
removal-once key next g r (Is_gone_at x) = tt
removal-once key next g r (Is_listed x) = tt
removal-once key next g r (Failed done) = tt

sweep-once : (keys : List Key) (r : Removed) → Once (sweep keys r)
unfolding sweep Once
sweep-once [] r = tt
sweep-once (key ∷ keys) r = (λ commits. absurd (cc), tt, λ reply. removal-once key (sweep keys) (λ more. sweep-once keys more) r reply)

marked-once : (r : Removed) (answer : Result (List Key) Refusal) → Once (after_marking r answer)
unfolding Once
marked-once r (Ok keys) = sweep-once keys r
marked-once r (Err why) = tt

pub collect-once : (line cutoff : ℕ) → Once (collect_task line cutoff)
collect-once line cutoff =
    as-once (collecting.outcome_of line) (collect_play cutoff)
    (quiet-once (mark_program most_snapshots cutoff) (after_marking nothing) (marking-quiet most_snapshots cutoff) (marked-once nothing))

-- ---- an expiry
below-quiet : (left cutoff : ℕ) (last : Seen) (next : Option Id12) → Quiet (look_below left cutoff last next)
unfolding look_below
below-quiet zero cutoff last None = done-quiet _
below-quiet (suc left) cutoff last None = done-quiet _
below-quiet zero cutoff last (Some id) = done-quiet _
below-quiet (suc left) cutoff last (Some id) =
    asks-quiet (Get (Snapshot id)) (snapshot_seen id) (λ seen. cond (is_older cutoff seen.file) (Done (cuts last)) (look_below left cutoff seen (next_of seen.file))) refl
    (λ seen. either-quiet (is_older cutoff seen.file) (Done (cuts last)) (look_below left cutoff seen (next_of seen.file)) (done-quiet (cuts last)) (below-quiet left cutoff seen (next_of seen.file)))

head-quiet : (t : Terms) (key : Key) (version : Version) (head : Seen) → Quiet (look_head t key version head)
head-quiet t key version head =
    either-quiet (may_drop t key && is_older t.cutoff head.file) (Done (Ok (Drops version))) (look_below most_below t.cutoff head (next_of head.file)) (done-quiet _) (below-quiet most_below t.cutoff head (next_of head.file))

named-quiet : (t : Terms) (key : Key) (o : Option Resolved) → Quiet (look_named t key o)
named-quiet t key None = done-quiet _
named-quiet t key (Some named) = asks-quiet (Get (Snapshot named.id)) (snapshot_seen named.id) (look_head t key named.version) refl (head-quiet t key named.version)

look-quiet : (t : Terms) (key : Key) → Quiet (look_program t key)
look-quiet t key = asks-quiet (Get key) (ref_seen key) (look_named t key) refl (named-quiet t key)

drop-none : (key : Key) (version : Version) → NoCommit (drop_op key version)
drop-none (Branch name) version = refl
drop-none (Tag name) version = refl
drop-none (Snapshot id) version = refl
drop-none (Manifest id) version = refl
drop-none (Txn id) version = refl
drop-none (Chunk id) version = refl
drop-none (Tombstone name) version = refl
drop-none (Lease id) version = refl

decide-once : (key : Key) (next : Result What Refusal → Play Expired) → ((r : Result What Refusal) → Once (next r)) → (d : Decision) → Once (decide key next d)
unfolding Once
decide-once key next g Is_absent = g (Ok Absent)
decide-once key next g Keeps = g (Ok Kept)
decide-once key next g (Drops version) = (λ commits. absurd (false≢true (sym (drop-none key version) ∙ commits)), g (Err NoMemory), λ reply. g (drop_told reply))
decide-once key next g (Cuts id version bytes) = (λ commits. absurd (cc), g (Err NoMemory), λ reply. g (cut_told id reply))

looked-once : (key : Key) (next : Result What Refusal → Play Expired) → ((r : Result What Refusal) → Once (next r)) → (r : Result Decision Refusal) → Once (after_look key next r)
looked-once key next g (Ok decision) = decide-once key next g decision
looked-once key next g (Err why) = g (Err why)

case-once : (key : Key) (cases : List RefCase) (next : List RefCase → Play Expired) → ((more : List RefCase) → Once (next more)) → (r : Result What Refusal) → Once (after_case key cases next r)
unfolding Once
case-once key cases next g (Ok what) = g (cases ++ record { key = key; what = what } ∷ [])
case-once key cases next g (Err why) = tt

each-once : (t : Terms) (keys : List Key) (cases : List RefCase) (next : List RefCase → Play Expired) → ((more : List RefCase) → Once (next more)) → Once (expire_each t keys cases next)
unfolding expire_each
each-once t [] cases next g = g cases
each-once t (key ∷ keys) cases next g =
    let more : List RefCase → Play Expired = λ c. expire_each t keys c next in
    let one = after_case key cases more in
    quiet-once (look_program t key) (after_look key one) (look-quiet t key) (looked-once key one (case-once key cases more (λ c. each-once t keys c next g)))

listed-once : (cases : List RefCase) (next : List Key → Play Expired) → ((keys : List Key) → Once (next keys)) → (reply : Reply) → Once (after_listing cases next reply)
unfolding Once
listed-once cases next g (Is_listed listed) = (g (live listed.entries), tt)
listed-once cases next g (Is_got x) = tt
listed-once cases next g (Is_new x) = tt
listed-once cases next g (Is_over x) = tt
listed-once cases next g (Is_gone x) = tt
listed-once cases next g (Is_gone_at x) = tt
listed-once cases next g (Failed done) = tt

listing-once : (part : Part) (cases : List RefCase) (next : List Key → Play Expired) → ((keys : List Key) → Once (next keys)) → Once (listing part cases next)
unfolding Once
listing-once part cases next g = (λ commits. absurd (cc), tt, λ reply. listed-once cases next g reply)

done-once : (cases : List RefCase) → Once (all_done cases)
unfolding Once
done-once cases = tt

tags-once : (t : Terms) (cases : List RefCase) → Once (expire_tags t cases)
tags-once t cases = listing-once Tags cases (λ keys. expire_each t keys cases all_done) (λ keys. each-once t keys cases all_done done-once)

pub expire-once : (line : ℕ) (t : Terms) → Once (expire_task line t)
expire-once line t = as-once (expiring.outcome_of line) (expire_play t) (listing-once Branches [] (λ keys. expire_each t keys [] (expire_tags t)) (λ keys. each-once t keys [] (expire_tags t) (tags-once t)))

-- Steps of a rebase.
use Rattle.std.proofs.Common.{◌≡◌, ◌∙◌, ℕ, zero, suc, ◌+◌, ◌-◌, ◌<◌, Bool, true, false, cond, List, [], ◌∷◌, ◌++◌, length, reverse, Some, None, Result, Ok, Err, Option, refl, sym, ap, subst, arith}
use Rattle.std.specs.Prelude.{IfErr, IsSome, not, unwrap_or}
use Rattle.std.specs.FinMap.{FinMap}
use Rattle.std.proofs.Math.Path.{fun_ext}
use Rattle.std.proofs.lemmas.List.{reverse-append, length-reverse, length-append}
use Rattle.ice_ids.specs.declared.Id8.{Id8}
use Rattle.ice_ids.specs.declared.Id12.{Id12}
use Rattle.ice_ids.specs.Text.{same_id12}
use Rattle.manifest_file.specs.declared.manifest.Place.{Place}
use Rattle.snapshot_file.specs.declared.snapshot.SnapshotFile.{SnapshotFile}
use Rattle.txn_file.specs.declared.log.TxnFile.{TxnFile}
use Rattle.repo_objects.specs.Trees.{nodes_in}
use Rattle.zarr_path.specs.Paths.{path_cmp}
use Rattle.zarr_tree.specs.declared.cases.Conflict.{Conflict}
use Rattle.zarr_tree.specs.declared.lists.Touched.{Touched}
use Rattle.zarr_tree.specs.Nodes.{Node}
use Rattle.zarr_tree.specs.Held.{Held}
use Rattle.zarr_changes.specs.Edits.{without_chunks}
use Rattle.conflicts.specs.declared.solving.Policy.{Policy}
use Rattle.object_store.specs.declared.keys.Key.TheVariants.{Snapshot, Txn}
use Rattle.object_store.specs.declared.events.Event.{Event}
use Rattle.object_store.specs.declared.events.Op.{Op}
use Rattle.object_store.specs.declared.events.Op.TheVariants.{Get}
use Rattle.object_store.specs.declared.events.Reply.{Reply}
use Rattle.store_api.specs.declared.machines.Next.{Next}
use Rattle.store_api.specs.declared.machines.Refusal.{Refusal}
use Rattle.store_api.specs.declared.machines.Refusal.TheVariants as R
use Rattle.store_api.specs.Program.{Prog, Done, Ask, bind, IsAsk, IsDone, NextIsPolite, Lands, is_fault}
use Rattle.store_api.specs.Running.{Program, on_answer, ◌>>=◌}
use Rattle.store_api.specs.Driving.{Asks, Awaits, Took}
use Rattle.repo_read.specs.declared.answers.Resolved.{Resolved}
use Rattle.repo_read.specs.Answers.{ref_told, snapshot_told, log_told, Answers, AnswersOutright}
use Rattle.repo_read.specs.Chains.{most_snapshots}
use Rattle.repo_read.specs.Programs.{resolve_program}
use Rattle.repo_read.proofs.Told.{ref-refused, ref-went, snapshot-refused, snapshot-went, log-refused, log-went}
use Rattle.session.specs.Sessions.{SessionState, branch_of, writes, origin_at, base_nodes}
use Rattle.rebase.specs.declared.rebasing.Walk.{Walk}
use Rattle.rebase.specs.declared.rebasing.Solving.{Solving}
use Rattle.rebase.specs.declared.rebasing.Rebasing.{Rebasing}
use Rattle.rebase.specs.declared.rebasing.Rebasing.TheVariants as state
use Rattle.rebase.specs.declared.machine.Rebased.{Rebased}
use Rattle.rebase.specs.declared.machine.Rebased.TheVariants.{UpToDate}
use Rattle.rebase.specs.Along.{Link, solved_at, first_hidden}
use Rattle.rebase.specs.Rebasing.{CommitsSince, head_of, walk_down, if_solved, solve_link, solve_program, on_head, over_commits, after_ref, rebase_program, walk_rest, solving_rest, nodes_before, rebasing_rest, with_session}
use Rattle.rebase.specs.inside.Working.{parent_behind, walk_behind, commits_behind, lists_behind, Clears}

-- ---- programs
on-both : {A B C : Type 0} (f : A → Program B) (g : B → Program C) (r : Result A Refusal) → bind (on_answer f r) (on_answer g) ≡ on_answer (λ a. f a >>= g) r
on-both f g (Ok a) = refl
on-both f g (Err why) = refl

-- what follows a get, and then what follows that
past : {A B C : Type 0} (op : Op) (told : Reply → Result A Refusal) (f : A → Program B) (g : B → Program C)
    → bind (Ask op (λ reply. on_answer f (told reply))) (on_answer g) ≡ Ask op (λ reply. on_answer (λ a. f a >>= g) (told reply))
past op told f g = ap (λ (k : Reply → Program _). Ask op k) (fun_ext (λ reply. on-both f g (told reply)))

pub not-true : (b : Bool) → not b ≡ true → b ≡ false
not-true true e = absurd (cc)
not-true false e = refl

asked : {A : Type 0} (p : Prog A) (reply : Reply) → Awaits p reply → IsAsk p
asked (Done a) reply w = w
asked (Ask op k) reply w = tt

-- ---- the session
pub with-it : (session : Option SessionState) (s : SessionState) (f : SessionState → Program Rebased) → session ≡ Some s → with_session session f ≡ f s
with-it session s f e = ap (λ (o : Option SessionState). with_session o f) e

-- a machine that has ended has nothing to do
pub state-over : (policy : Policy) (session : Option SessionState) (st : Rebasing) → st ≡ state.Ended → IsDone (with_session session (λ s. rebasing_rest policy s st))
state-over policy None st e = tt
state-over policy (Some s) state.Ended e = tt
state-over policy (Some s) state.Ref e = absurd (cc)
state-over policy (Some s) (state.Snapshot w) e = absurd (cc)
state-over policy (Some s) (state.Log l) e = absurd (cc)

-- ---- the walk
module _ (base head : Id12) (k : CommitsSince → Program Rebased) where
  pub walk-asks : (left : ℕ) (above : List SnapshotFile) (id : Id12) → IsAsk (walk_down base head left above id >>= k) → Asks (walk_down base head left above id >>= k) (Get (Snapshot id))
  unfolding walk_down
  walk-asks zero above id i = absurd i
  walk-asks (suc left) above id i = refl

  pub walk-is-ask : (left : ℕ) (above : List SnapshotFile) (id : Id12) → 0 < left → IsAsk (walk_down base head left above id >>= k)
  unfolding walk_down
  walk-is-ask zero above id l = absurd (omega arith)
  walk-is-ask (suc left) above id l = tt

  pub walk-polite : (left : ℕ) (above : List SnapshotFile) (id : Id12) (journal : List Event) → NextIsPolite (walk_down base head left above id >>= k) journal
  unfolding walk_down
  walk-polite zero above id journal = tt
  walk-polite (suc left) above id journal = tt

  pub walk-more : (left : ℕ) (above : List SnapshotFile) (id : Id12) → IsAsk (walk_down base head left above id >>= k) → 0 < left
  unfolding walk_down
  walk-more zero above id i = absurd i
  walk-more (suc left) above id i = omega arith

  -- a refused reading refuses the walk
  pub walk-refused : (left : ℕ) (above : List SnapshotFile) (id : Id12) (reply : Reply) (why : Refusal) → Awaits (walk_down base head left above id >>= k) reply → Answers {A = SnapshotFile} (snapshot_told id reply) (Err why)
      → AnswersOutright {A = SnapshotFile} reply (snapshot_told id reply) (Err why) → (q : Program Rebased) → IsDone q → Took (walk_down base head left above id >>= k) reply q (Err why)
  unfolding walk_down
  walk-refused zero above id reply why w t o q d = absurd w
  walk-refused (suc left) above id reply why w t o q d =
      subst (λ (p : Program Rebased). Took p reply q (Err why)) (sym (past (Get (Snapshot id)) (snapshot_told id) (λ f. parent_behind base head left above f f.parent) k))
      (snapshot-refused id reply (λ f. parent_behind base head left above f f.parent >>= k) w why t o q d)

  -- the walk goes on with what follows the snapshot that was read
  pub walk-went : (left : ℕ) (above : List SnapshotFile) (id : Id12) (reply : Reply) (f : SnapshotFile) → Awaits (walk_down base head left above id >>= k) reply → Answers (snapshot_told id reply) (Ok f)
      → (q : Program Rebased) (result : Result (Next Rebased) Refusal) → Lands (parent_behind base head (left - 1) above f f.parent >>= k) q result → IfErr result (λ refusal. is_fault refusal ≡ false)
      → Took (walk_down base head left above id >>= k) reply q result
  unfolding walk_down
  walk-went zero above id reply f w t q result l n = absurd w
  walk-went (suc left) above id reply f w t q result l n =
      let here = subst (λ (m : ℕ). Lands (parent_behind base head m above f f.parent >>= k) q result) (omega arith) l in
      subst (λ (p : Program Rebased). Took p reply q result) (sym (past (Get (Snapshot id)) (snapshot_told id) (λ f. parent_behind base head left above f f.parent) k))
      (snapshot-went id reply (λ f. parent_behind base head left above f f.parent >>= k) w f t q result here n)

-- ---- the logs
module _ (policy : Policy) (held : Held Place) (before : FinMap path_cmp Node) (f : SnapshotFile) (fs : List SnapshotFile) (k : Held Place → Program Rebased) where
  pub log-asks : Asks (solve_program policy held before (f ∷ fs) >>= k) (Get (Txn f.id))
  unfolding solve_program
  log-asks = refl

  pub log-is-ask : IsAsk (solve_program policy held before (f ∷ fs) >>= k)
  unfolding solve_program
  log-is-ask = tt

  pub log-polite : (journal : List Event) → NextIsPolite (solve_program policy held before (f ∷ fs) >>= k) journal
  unfolding solve_program
  log-polite journal = tt

  abbrev link-behind : TxnFile → Program (Held Place)
  link-behind log = solve_link policy held before (record { file = f; lists = log.lists }) (λ left. solve_program policy left (nodes_in f.nodes) fs)

  -- a refused reading refuses the rebase
  pub link-refused : (reply : Reply) (why : Refusal) → Awaits (solve_program policy held before (f ∷ fs) >>= k) reply → Answers {A = TxnFile} (log_told f.id reply) (Err why)
      → AnswersOutright {A = TxnFile} reply (log_told f.id reply) (Err why) → (q : Program Rebased) → IsDone q → Took (solve_program policy held before (f ∷ fs) >>= k) reply q (Err why)
  unfolding solve_program
  link-refused reply why w t o q d =
      subst (λ (p : Program Rebased). Took p reply q (Err why)) (sym (past (Get (Txn f.id)) (log_told f.id) link-behind k))
      (log-refused f.id reply (λ log. link-behind log >>= k) w why t o q d)

  -- it goes on with what follows the lists that were read
  pub link-went : (reply : Reply) (log : TxnFile) → Awaits (solve_program policy held before (f ∷ fs) >>= k) reply → Answers (log_told f.id reply) (Ok log)
      → (q : Program Rebased) (result : Result (Next Rebased) Refusal) → Lands (link-behind log >>= k) q result → IfErr result (λ refusal. is_fault refusal ≡ false)
      → Took (solve_program policy held before (f ∷ fs) >>= k) reply q result
  unfolding solve_program
  link-went reply log w t q result l n =
      subst (λ (p : Program Rebased). Took p reply q result) (sym (past (Get (Txn f.id)) (log_told f.id) link-behind k))
      (log-went f.id reply (λ log. link-behind log >>= k) w log t q result l n)

-- ---- states of the machine
module _ (policy : Policy) (session : Option SessionState) where
  abbrev state-rest : Rebasing → Program Rebased
  state-rest st = with_session session (λ s. rebasing_rest policy s st)

-- the operation that comes next
pub state-snapshot : (policy : Policy) (session : Option SessionState) (st : Rebasing) (walk : Walk) → st ≡ state.Snapshot walk → IsAsk (state-rest policy session st) → Asks (state-rest policy session st) (Get (Snapshot walk.next))
state-snapshot policy None st walk e i = absurd i
state-snapshot policy (Some s) state.Ref walk e i = absurd (cc)
state-snapshot policy (Some s) (state.Snapshot w) walk e i =
    let same : w ≡ walk = cc in
    subst (λ (x : Walk). Asks (walk_rest policy s w) (Get (Snapshot x.next))) same (walk-asks s.base w.named.id (over_commits policy s w.named) (most_snapshots - length w.above) (reverse w.above) w.next i)
state-snapshot policy (Some s) (state.Log l) walk e i = absurd (cc)
state-snapshot policy (Some s) state.Ended walk e i = absurd (cc)

pub state-log : (policy : Policy) (session : Option SessionState) (st : Rebasing) (l : Solving) (f : SnapshotFile) → st ≡ state.Log l → f ≡ l.oldest → IsAsk (state-rest policy session st) → Asks (state-rest policy session st) (Get (Txn f.id))
state-log policy None st l f e o i = absurd i
state-log policy (Some s) state.Ref l f e o i = absurd (cc)
state-log policy (Some s) (state.Snapshot w) l f e o i = absurd (cc)
state-log policy (Some s) (state.Log own) l f e o i =
    let same : own ≡ l = cc in
    let file : own.oldest ≡ f = ap (λ (x : Solving). x.oldest) same ∙ sym o in
    subst (λ (x : SnapshotFile). Asks (solving_rest policy s own) (Get (Txn x.id))) file (log-asks policy (unwrap_or own.held s.held) (nodes_before s own.before) own.oldest (reverse own.later) (on_head s own.named own.count (head_of own.oldest (reverse own.later))))
state-log policy (Some s) state.Ended l f e o i = absurd (cc)

pub state-polite : (policy : Policy) (session : Option SessionState) (st : Rebasing) (journal : List Event) → NextIsPolite (state-rest policy session st) journal
state-polite policy None st journal = tt
state-polite policy (Some s) state.Ref journal = tt
state-polite policy (Some s) (state.Snapshot w) journal = walk-polite s.base w.named.id (over_commits policy s w.named) (most_snapshots - length w.above) (reverse w.above) w.next journal
state-polite policy (Some s) (state.Log l) journal = log-polite policy (unwrap_or l.held s.held) (nodes_before s l.before) l.oldest (reverse l.later) (on_head s l.named l.count (head_of l.oldest (reverse l.later))) journal
state-polite policy (Some s) state.Ended journal = tt

-- ---- the beginning
pub read-only : (policy : Policy) (s : SessionState) → writes s ≡ false → rebase_program policy s ≡ Done (Err R.ReadOnly)
unfolding rebase_program
read-only policy s e = ap (λ b. cond b (resolve_program (branch_of s) >>= after_ref policy s) (Done (Err R.ReadOnly))) e

pub begins : (policy : Policy) (s : SessionState) → writes s ≡ true → (resolve_program (branch_of s) >>= after_ref policy s) ≡ rebase_program policy s
unfolding rebase_program
begins policy s e = ap (λ b. cond b (resolve_program (branch_of s) >>= after_ref policy s) (Done (Err R.ReadOnly))) (sym e)

-- ---- the branch
module _ (policy : Policy) where
  pub state-ref-refused : (session : Option SessionState) (s : SessionState) (branch : List ℕ) (reply : Reply) (why : Refusal) → session ≡ Some s → branch ≡ branch_of s → Awaits (state-rest policy session state.Ref) reply
      → Answers {A = Resolved} (ref_told branch reply) (Err why) → AnswersOutright {A = Resolved} reply (ref_told branch reply) (Err why) → (q : Program Rebased) → IsDone q → Took (state-rest policy session state.Ref) reply q (Err why)
  state-ref-refused None s branch reply why e b w t o q d = absurd w
  state-ref-refused (Some own) s branch reply why e b w t o q d =
      let same : own ≡ s = cc in
      let branch_is : branch ≡ branch_of own = b ∙ ap branch_of (sym same) in
      ref-refused (branch_of own) reply (after_ref policy own) w why (subst (λ (x : List ℕ). Answers {A = Resolved} (ref_told x reply) (Err why)) branch_is t)
      (subst (λ (x : List ℕ). AnswersOutright {A = Resolved} reply (ref_told x reply) (Err why)) branch_is o) q d

  pub state-ref-went : (session : Option SessionState) (s : SessionState) (branch : List ℕ) (reply : Reply) (named : Resolved) → session ≡ Some s → branch ≡ branch_of s → Awaits (state-rest policy session state.Ref) reply
      → Answers (ref_told branch reply) (Ok named) → (q : Program Rebased) (result : Result (Next Rebased) Refusal) → Lands (with_session session (λ s. after_ref policy s named)) q result → IfErr result (λ refusal. is_fault refusal ≡ false)
      → Took (state-rest policy session state.Ref) reply q result
  state-ref-went None s branch reply named e b w t q result l n = absurd w
  state-ref-went (Some own) s branch reply named e b w t q result l n =
      let same : own ≡ s = cc in
      let branch_is : branch ≡ branch_of own = b ∙ ap branch_of (sym same) in
      ref-went (branch_of own) reply (after_ref policy own) w named (subst (λ (x : List ℕ). Answers (ref_told x reply) (Ok named)) branch_is t) q result l n

  -- the branch names another snapshot than the base
  pub named-walks : (session : Option SessionState) (s : SessionState) (named : Resolved) (above : List SnapshotFile) → session ≡ Some s → same_id12 named.id s.base ≡ false → above ≡ []
      → (with_session session (λ s. after_ref policy s named) ≡ with_session session (λ s. walk_rest policy s (record { named = named; above = above; next = named.id })))
      × IsAsk (with_session session (λ s. walk_rest policy s (record { named = named; above = above; next = named.id })))
  named-walks None s named above e b a = absurd (cc)
  named-walks (Some own) s named above e b a =
      let same : own ≡ s = cc in
      let other : same_id12 named.id own.base ≡ false = ap (λ (x : SessionState). same_id12 named.id x.base) same ∙ b in
      let empty : (walk_down own.base named.id most_snapshots [] named.id >>= over_commits policy own named) ≡ walk_rest policy own (record { named = named; above = above; next = named.id }) =
      ap (λ (xs : List SnapshotFile). walk_rest policy own (record { named = named; above = xs; next = named.id })) (sym a) in (
        ap (λ t. cond t (Done (Ok (UpToDate (record own { origin = origin_at named.version.0 own.origin })))) (walk_down own.base named.id most_snapshots [] named.id >>= over_commits policy own named)) other ∙ empty,
        subst (λ (p : Program Rebased). IsAsk p) empty (walk-is-ask own.base named.id (over_commits policy own named) most_snapshots [] named.id (omega arith)),
      )

  -- ---- snapshots
  pub state-walk-left : (session : Option SessionState) (walk : Walk) (reply : Reply) → Awaits (state-rest policy session (state.Snapshot walk)) reply → length walk.above < most_snapshots
  state-walk-left None walk reply w = absurd w
  state-walk-left (Some s) walk reply w =
      let more = walk-more s.base walk.named.id (over_commits policy s walk.named) (most_snapshots - length walk.above) (reverse walk.above) walk.next (asked _ reply w) in
      omega arith

  pub state-walk-refused : (session : Option SessionState) (walk : Walk) (reply : Reply) (why : Refusal) → Awaits (state-rest policy session (state.Snapshot walk)) reply → Answers {A = SnapshotFile} (snapshot_told walk.next reply) (Err why)
      → AnswersOutright {A = SnapshotFile} reply (snapshot_told walk.next reply) (Err why) → (q : Program Rebased) → IsDone q → Took (state-rest policy session (state.Snapshot walk)) reply q (Err why)
  state-walk-refused None walk reply why w t o q d = absurd w
  state-walk-refused (Some s) walk reply why w t o q d = walk-refused s.base walk.named.id (over_commits policy s walk.named) (most_snapshots - length walk.above) (reverse walk.above) walk.next reply why w t o q d

  pub state-walk-went : (session : Option SessionState) (walk : Walk) (reply : Reply) (f : SnapshotFile) → Awaits (state-rest policy session (state.Snapshot walk)) reply → Answers (snapshot_told walk.next reply) (Ok f)
      → (q : Program Rebased) (result : Result (Next Rebased) Refusal) → Lands (with_session session (λ s. walk_behind policy s walk f)) q result → IfErr result (λ refusal. is_fault refusal ≡ false)
      → Took (state-rest policy session (state.Snapshot walk)) reply q result
  state-walk-went None walk reply f w t q result l n = absurd w
  state-walk-went (Some s) walk reply f w t q result l n = walk-went s.base walk.named.id (over_commits policy s walk.named) (most_snapshots - length walk.above) (reverse walk.above) walk.next reply f w t q result l n

  -- what follows a snapshot with this parent
  by-parent : (s : SessionState) (walk : Walk) (f : SnapshotFile) (parent : Id12) (b : Bool) → f.parent ≡ Some parent → same_id12 parent s.base ≡ b
      → walk_behind policy s walk f ≡ (cond b (Done (Ok (record { oldest = f; later = reverse walk.above }))) (walk_down s.base walk.named.id (most_snapshots - length walk.above - 1) (f ∷ reverse walk.above) parent) >>= over_commits policy s walk.named)
  by-parent s walk f parent b e t =
      ap (λ (o : Option Id12). parent_behind s.base walk.named.id (most_snapshots - length walk.above - 1) (reverse walk.above) f o >>= over_commits policy s walk.named) e
      ∙ ap (λ x. cond x (Done (Ok (record { oldest = f; later = reverse walk.above }))) (walk_down s.base walk.named.id (most_snapshots - length walk.above - 1) (f ∷ reverse walk.above) parent) >>= over_commits policy s walk.named) t

  base-is : (own s : SessionState) (parent : Id12) (b : Bool) → (let o : Option SessionState = Some own in o) ≡ Some s → same_id12 parent s.base ≡ b → same_id12 parent own.base ≡ b
  base-is own s parent b e t = let same : own ≡ s = cc in ap (λ (x : SessionState). same_id12 parent x.base) same ∙ t

  -- it is the oldest commit
  pub oldest-lands : (session : Option SessionState) (s : SessionState) (walk : Walk) (f : SnapshotFile) (parent : Id12) (l : Solving) → session ≡ Some s → f.parent ≡ Some parent → same_id12 parent s.base ≡ true
      → l ≡ record { named = walk.named; oldest = f; later = walk.above; before = None; held = None; count = length walk.above + 1 }
      → (with_session session (λ s. walk_behind policy s walk f) ≡ with_session session (λ s. solving_rest policy s l)) × IsAsk (with_session session (λ s. solving_rest policy s l))
  oldest-lands None s walk f parent l e p b is = absurd (cc)
  oldest-lands (Some own) s walk f parent l e p b is =
      let counted = length-reverse walk.above in (
        by-parent own walk f parent true p (base-is own s parent true e b)
            ∙ ap (λ n. solve_program policy own.held (base_nodes own) (f ∷ reverse walk.above) >>= on_head own walk.named (n + 1) (head_of f (reverse walk.above))) counted
            ∙ ap (λ (x : Solving). solving_rest policy own x) (sym is),
        log-is-ask policy (unwrap_or l.held own.held) (nodes_before own l.before) l.oldest (reverse l.later) (on_head own l.named l.count (head_of l.oldest (reverse l.later))),
      )

  -- as many were read as may be
  pub deep-lands : (session : Option SessionState) (s : SessionState) (walk : Walk) (f : SnapshotFile) (parent : Id12) (above : List SnapshotFile) → session ≡ Some s → f.parent ≡ Some parent → same_id12 parent s.base ≡ false
      → above ≡ walk.above ++ f ∷ [] → length above ≡ most_snapshots → with_session session (λ s. walk_behind policy s walk f) ≡ Done (Err R.TooDeep)
  unfolding walk_down
  deep-lands None s walk f parent above e p b a n = absurd (cc)
  deep-lands (Some own) s walk f parent above e p b a n =
      let longer : length above ≡ length walk.above + 1 = ap length a ∙ length-append walk.above (f ∷ []) in
      let none : most_snapshots - length walk.above - 1 ≡ 0 = omega arith in
      by-parent own walk f parent false p (base-is own s parent false e b)
      ∙ ap (λ m. walk_down own.base walk.named.id m (f ∷ reverse walk.above) parent >>= over_commits policy own walk.named) none ∙ none-left own.base walk.named.id (f ∷ reverse walk.above) parent
    where
      none-left : (base head : Id12) (seen : List SnapshotFile) (id : Id12) → (walk_down base head 0 seen id >>= over_commits policy own walk.named) ≡ Done (Err R.TooDeep)
      none-left base head seen id = refl

  -- the walk goes on with the parent
  pub parent-lands : (session : Option SessionState) (s : SessionState) (walk : Walk) (f : SnapshotFile) (parent : Id12) (above : List SnapshotFile) → session ≡ Some s → f.parent ≡ Some parent → same_id12 parent s.base ≡ false
      → above ≡ walk.above ++ f ∷ [] → length walk.above < most_snapshots → (length above ≡ most_snapshots → ⊥)
      → (with_session session (λ s. walk_behind policy s walk f) ≡ with_session session (λ s. walk_rest policy s (record { named = walk.named; above = above; next = parent })))
      × IsAsk (with_session session (λ s. walk_rest policy s (record { named = walk.named; above = above; next = parent })))
  parent-lands None s walk f parent above e p b a few n = absurd (cc)
  parent-lands (Some own) s walk f parent above e p b a few n =
      let longer : length above ≡ length walk.above + 1 = ap length a ∙ length-append walk.above (f ∷ []) in
      let turned : f ∷ reverse walk.above ≡ reverse above = sym (ap reverse a ∙ reverse-append walk.above (f ∷ [])) in
      let rest : most_snapshots - length walk.above - 1 ≡ most_snapshots - length above = omega arith in
      let more : 0 < most_snapshots - length above = omega arith in (
        by-parent own walk f parent false p (base-is own s parent false e b)
            ∙ ap (λ m. walk_down own.base walk.named.id m (f ∷ reverse walk.above) parent >>= over_commits policy own walk.named) rest
            ∙ ap (λ (xs : List SnapshotFile). walk_down own.base walk.named.id (most_snapshots - length above) xs parent >>= over_commits policy own walk.named) turned,
        walk-is-ask own.base walk.named.id (over_commits policy own walk.named) (most_snapshots - length above) (reverse above) parent more,
      )

  -- ---- logs
  pub state-log-refused : (session : Option SessionState) (l : Solving) (f : SnapshotFile) (reply : Reply) (why : Refusal) → f ≡ l.oldest → Awaits (state-rest policy session (state.Log l)) reply
      → Answers {A = TxnFile} (log_told f.id reply) (Err why) → AnswersOutright {A = TxnFile} reply (log_told f.id reply) (Err why) → (q : Program Rebased) → IsDone q → Took (state-rest policy session (state.Log l)) reply q (Err why)
  state-log-refused None l f reply why is w t o q d = absurd w
  state-log-refused (Some s) l f reply why is w t o q d =
      link-refused policy (unwrap_or l.held s.held) (nodes_before s l.before) l.oldest (reverse l.later) (on_head s l.named l.count (head_of l.oldest (reverse l.later))) reply why w
      (subst (λ (x : SnapshotFile). Answers {A = TxnFile} (log_told x.id reply) (Err why)) is t)
      (subst (λ (x : SnapshotFile). AnswersOutright {A = TxnFile} reply (log_told x.id reply) (Err why)) is o) q d

  pub state-log-went : (session : Option SessionState) (l : Solving) (f : SnapshotFile) (reply : Reply) (log : TxnFile) → f ≡ l.oldest → Awaits (state-rest policy session (state.Log l)) reply
      → Answers (log_told f.id reply) (Ok log) → (q : Program Rebased) (result : Result (Next Rebased) Refusal) → Lands (with_session session (λ s. lists_behind policy s l log.lists)) q result → IfErr result (λ refusal. is_fault refusal ≡ false)
      → Took (state-rest policy session (state.Log l)) reply q result
  state-log-went None l f reply log o w t q result g n = absurd w
  state-log-went (Some s) l f reply log o w t q result g n =
      link-went policy (unwrap_or l.held s.held) (nodes_before s l.before) l.oldest (reverse l.later) (on_head s l.named l.count (head_of l.oldest (reverse l.later))) reply log w
      (subst (λ (x : SnapshotFile). Answers (log_told x.id reply) (Ok log)) o t) q result g n

  -- what follows a commit
  abbrev link-of : Solving → Touched → Link
  link-of l lists = record { file = l.oldest; lists = lists }

  abbrev next-behind : Solving → Held Place → Program (Held Place)
  next-behind l left = solve_program policy left (nodes_in l.oldest.nodes) (reverse l.later)

  abbrev head-behind : SessionState → Solving → Held Place → Program Rebased
  head-behind s l = on_head s l.named l.count (head_of l.oldest (reverse l.later))

  -- a commit with which all is solved
  pub commit-solved : (session : Option SessionState) (s : SessionState) (l : Solving) (lists : Touched) (held left : Held Place) (before : FinMap path_cmp Node) (out : List (Id8 × List ℕ)) → session ≡ Some s
      → held ≡ unwrap_or l.held s.held → before ≡ nodes_before s l.before → Clears policy held before (record { file = l.oldest; lists = lists }) (Ok out) → left ≡ without_chunks held out
      → with_session session (λ s. lists_behind policy s l lists) ≡ commits_behind policy s l.named l.count l.oldest l.later left
  commit-solved session s l lists held left before out e h b clears w =
      with-it session s (λ s. lists_behind policy s l lists) e
      ∙ ap (λ (x : Held Place). solve_link policy x (nodes_before s l.before) (link-of l lists) (next-behind l) >>= head-behind s l) (sym h)
      ∙ ap (λ (x : FinMap path_cmp Node). solve_link policy held x (link-of l lists) (next-behind l) >>= head-behind s l) (sym b)
      ∙ ap (λ (xs : List Conflict). if_solved l.oldest.id xs (first_hidden (nodes_in l.oldest.nodes) held.metas) (next-behind l (solved_at policy held before (link-of l lists))) >>= head-behind s l) clears.0
      ∙ ap (λ (o : Option Id8). if_solved l.oldest.id [] o (next-behind l (solved_at policy held before (link-of l lists))) >>= head-behind s l) clears.1
      ∙ ap (λ (xs : List (Id8 × List ℕ)). next-behind l (without_chunks held xs) >>= head-behind s l) (sym clears.2)
      ∙ ap (λ (x : Held Place). next-behind l x >>= head-behind s l) (sym w)

  -- the next commit's log is got
  pub later-lands : (session : Option SessionState) (named : Resolved) (count : ℕ) (f next : SnapshotFile) (later rest : List SnapshotFile) (held : Option (Held Place)) → IsSome session → later ≡ rest ++ next ∷ []
      → (with_session session (λ s. commits_behind policy s named count f later (unwrap_or held s.held))
      ≡ with_session session (λ s. solving_rest policy s (record { named = named; oldest = next; later = rest; before = Some f; held = held; count = count })))
      × IsAsk (with_session session (λ s. solving_rest policy s (record { named = named; oldest = next; later = rest; before = Some f; held = held; count = count })))
  later-lands None named count f next later rest held i e = absurd (cc)
  later-lands (Some s) named count f next later rest held i e = (
    ap (λ (xs : List SnapshotFile). solve_program policy (unwrap_or held s.held) (nodes_in f.nodes) xs >>= on_head s named count (head_of f xs)) (ap reverse e ∙ reverse-append rest (next ∷ [])),
    log-is-ask policy (unwrap_or held s.held) (nodes_in f.nodes) next (reverse rest) (on_head s named count (head_of next (reverse rest))),
  )

  -- no commit is left
  pub none-later : (session : Option SessionState) (named : Resolved) (count : ℕ) (f : SnapshotFile) (later : List SnapshotFile) (held : Option (Held Place)) → later ≡ []
      → with_session session (λ s. commits_behind policy s named count f later (unwrap_or held s.held)) ≡ with_session session (λ s. on_head s named count f (unwrap_or held s.held))
  unfolding solve_program
  none-later session named count f later held e =
      ap (λ (xs : List SnapshotFile). with_session session (λ s. commits_behind policy s named count f xs (unwrap_or held s.held))) e ∙ ap (λ (g : SessionState → Program Rebased). with_session session g) (fun_ext (λ s. ends s))
    where
      ends : (s : SessionState) → commits_behind policy s named count f [] (unwrap_or held s.held) ≡ on_head s named count f (unwrap_or held s.held)
      ends s = refl

-- What the answer of a rebase says, and that its session goes on, whatever others do.
use Rattle.std.proofs.Common.{◌≡◌, inl, inr, ℕ, suc, ◌+◌, ◌<◌, ◌≤◌, Bool, true, false, cond, List, [], ◌∷◌, ◌++◌, length, refl, sym, ◌∙◌, ap, subst, arith}
use Rattle.std.specs.Prelude.{nat_lt, Some, Result, Ok, Err}
use Rattle.std.specs.Result.{result_ok}
use Rattle.std.specs.FinMap.{len}
use Rattle.std.proofs.lemmas.Bool.Decides.{nat_tests}
use Rattle.std.proofs.lemmas.List.{length-map}
use Rattle.ice_ids.specs.declared.Id12.{Id12}
use Rattle.ice_ids.specs.Text.{same_id12}
use Rattle.ice_ids.proofs.TextLaws.{same_id12-true}
use Rattle.manifest_file.specs.declared.manifest.Place.{Place}
use Rattle.snapshot_file.specs.declared.snapshot.SnapshotFile.{SnapshotFile}
use Rattle.repo_objects.specs.declared.bad_objects.Bad.{Bad}
use Rattle.repo_objects.specs.Laws.{RefLaw, SnapshotLaw}
use Rattle.repo_objects.specs.Readings.{read_ref, ref_of}
use Rattle.repo_objects.specs.Trees.{nodes_in}
use Rattle.zarr_tree.specs.declared.lists.Touched.{Touched}
use Rattle.zarr_tree.specs.Edits.{most_nodes}
use Rattle.zarr_tree.specs.Held.{Held, nodes_over}
use Rattle.conflicts.specs.declared.solving.Policy.{Policy}
use Rattle.object_store.specs.declared.keys.Key.TheVariants.{Branch}
use Rattle.object_store.specs.declared.events.Version.{Version}
use Rattle.object_store.specs.declared.events.Op.TheVariants.{Get}
use Rattle.object_store.specs.declared.events.Got.TheVariants.{Found}
use Rattle.object_store.specs.declared.events.Reply.{Reply}
use Rattle.object_store.specs.declared.events.Reply.TheVariants.{Got}
use Rattle.object_store.specs.declared.events.Event.{Event}
use Rattle.store_api.specs.declared.machines.Refusal.{Refusal}
use Rattle.zarr_tree.specs.declared.edit.EditFault.TheVariants as E
use Rattle.store_api.specs.declared.machines.Refusal.TheVariants as R
use Rattle.store_api.specs.Journal.{Each, IsGood, StoodAt}
use Rattle.store_api.specs.Callers.{Caller, Makes}
use Rattle.store_api.specs.Program.{Done, Ask, Leads}
use Rattle.store_api.specs.Running.{on_answer, ◌>>=◌}
use Rattle.store_api.specs.Telling.{GetsOf, MadeGets, WasGot, WasRef}
use Rattle.store_api.proofs.Programs.{Leads-bind, Leads-weaker}
use Rattle.store_api.proofs.Telling.{get-had}
use Rattle.repo_read.specs.declared.answers.Resolved.{Resolved}
use Rattle.repo_read.specs.Answers.{at_key, ref_told, resolved_at}
use Rattle.repo_read.specs.Chains.{most_snapshots}
use Rattle.session.specs.Sessions.{SessionState, branch_of, writes, origin_at, base_nodes, rebased_to}
use Rattle.commit_path.specs.Opened.{IsOpened}
use Rattle.commit_path.specs.Spelled.{IsSpelled}
use Rattle.commit_path.proofs.Knowing.{IsOpened-append}
use Rattle.rebase.specs.declared.machine.Rebased.{Rebased}
use Rattle.rebase.specs.declared.machine.Rebased.TheVariants.{OnHead, UpToDate}
use Rattle.rebase.specs.Along.{Link}
use Rattle.rebase.specs.Laws.{CanGoOn}
use Rattle.rebase.specs.Rebasing.{CommitsSince, head_of, walk_down, solve_program, on_head, over_commits, after_ref, rebase_program}
use Rattle.rebase.specs.Telling.{IsOfRebase, RebaseSays, RebaseTells, WereSolved, way_of}
use Rattle.repo_read.proofs.Own.{MadeGets-none, MadeGets-get}
use Rattle.repo_read.proofs.Replies.{got-cases}
use Rattle.repo_read.proofs.Namings.{got-made, absent-made, failed-made}
use Rattle.commit_path.proofs.Gets.{Gets, done-gets, ask-gets, bind-gets, gets-leave, gets-hold}
use Rattle.commit_path.proofs.Reading.{Leads-both}
use Rattle.rebase.proofs.Walking.{IsHead, IsHead-append, WalkTells, same_id12-false, walk-gets, walk-leads}
use Rattle.rebase.proofs.Logs.{AreSolved, SolveTells, files_of, solve-gets, solve-leads}
use Rattle.rebase.proofs.Moving.{HasNamed, HasNamed-append, way-ends, same-spelled, same-opened, moved-spelled, moved-opened}

-- ---- gets alone
head-gets : (s : SessionState) (named : Resolved) (count : ℕ) (f : SnapshotFile) (r : Result (Held Place) Refusal) → Gets (on_answer (on_head s named count f) r)
head-gets s named count f (Ok held) = by_test (nat_lt most_nodes (len (nodes_over held (nodes_in f.nodes))))
  where
    by_test : (b : Bool) → Gets (cond b (Done (Err (R.Edit E.Full))) (Done (Ok (OnHead (rebased_to s named.id named.version.0 f held) count))))
    by_test true = done-gets (Err (R.Edit E.Full))
    by_test false = done-gets (Ok (OnHead (rebased_to s named.id named.version.0 f held) count))
head-gets s named count f (Err why) = done-gets (Err why)

commits-gets : (policy : Policy) (s : SessionState) (named : Resolved) (r : Result CommitsSince Refusal) → Gets (on_answer (over_commits policy s named) r)
commits-gets policy s named (Ok c) =
    bind-gets (solve_program policy s.held (base_nodes s) (c.oldest ∷ c.later)) (on_answer (on_head s named (length c.later + 1) (head_of c.oldest c.later))) (solve-gets policy s.held (base_nodes s) (c.oldest ∷ c.later))
    (head-gets s named (length c.later + 1) (head_of c.oldest c.later))
commits-gets policy s named (Err why) = done-gets (Err why)

ref-gets : (policy : Policy) (s : SessionState) (r : Result Resolved Refusal) → Gets (on_answer (after_ref policy s) r)
ref-gets policy s (Ok named) = by_base (same_id12 named.id s.base)
  where
    walked : Gets (walk_down s.base named.id most_snapshots [] named.id >>= over_commits policy s named)
    walked = bind-gets (walk_down s.base named.id most_snapshots [] named.id) (on_answer (over_commits policy s named)) (walk-gets s.base named.id most_snapshots [] named.id) (commits-gets policy s named)

    by_base : (b : Bool) → Gets (cond b (Done (Ok (UpToDate (record s { origin = origin_at named.version.0 s.origin })))) (walk_down s.base named.id most_snapshots [] named.id >>= over_commits policy s named))
    by_base true = done-gets (Ok (UpToDate (record s { origin = origin_at named.version.0 s.origin })))
    by_base false = walked
ref-gets policy s (Err why) = done-gets (Err why)

pub rebase-gets : (policy : Policy) (s : SessionState) → Gets (rebase_program policy s)
unfolding rebase_program
rebase-gets policy s = by_writes (writes s)
  where
    by_writes : (b : Bool) → Gets (cond b (Ask (Get (Branch (branch_of s))) (λ reply. on_answer (after_ref policy s) (ref_told (branch_of s) reply))) (Done (Err R.ReadOnly)))
    by_writes true = ask-gets (Branch (branch_of s)) (λ reply. on_answer (after_ref policy s) (ref_told (branch_of s) reply)) (λ reply. ref-gets policy s (ref_told (branch_of s) reply))
    by_writes false = done-gets (Err R.ReadOnly)

-- ---- the last commit
record EndsIn (links : List Link) (f : SnapshotFile) : Type 0 where
  before : List Link
  lists : Touched
  last : links ≡ before ++ record { file = f; lists = lists } ∷ []

ends-next : (l : Link) (links : List Link) (f : SnapshotFile) → EndsIn links f → EndsIn (l ∷ links) f
ends-next l links f r = record { before = l ∷ r.before; lists = r.lists; last = ap (λ (ls : List Link). l ∷ ls) r.last }

last-link : (links : List Link) (f : SnapshotFile) (fs : List SnapshotFile) → files_of links ≡ f ∷ fs → EndsIn links (head_of f fs)
last-link [] f fs e = cc
last-link (l ∷ []) f [] e = let same : l.file ≡ f = cc in record { before = []; lists = l.lists; last = ap (λ (g : SnapshotFile). record { file = g; lists = l.lists } ∷ []) same }
last-link (l ∷ []) f (g ∷ gs) e = cc
last-link (l ∷ k ∷ links) f [] e = cc
last-link (l ∷ k ∷ links) f (g ∷ gs) e = let rest : files_of (k ∷ links) ≡ g ∷ gs = cc in ends-next l (k ∷ links) (head_of g gs) (last-link (k ∷ links) g gs rest)

count-links : (links : List Link) (f : SnapshotFile) (fs : List SnapshotFile) → files_of links ≡ f ∷ fs → length fs + 1 ≡ length links
count-links links f fs e = let n : length (files_of links) ≡ suc (length fs) = ap length e in let m = length-map links (λ (l : Link). l.file) in omega (arith, n, m)

-- ---- the answer
module _ (reference : RefLaw) (law : SnapshotLaw) (by : Caller) (policy : Policy) (s : SessionState) (start : List Event) where
  -- what it says, and that its session goes on
  abbrev Ends : Result Rebased Refusal → List Event → Type 0
  Ends r h = RebaseSays by.number policy s start r h × (IsSpelled s → IsOpened s h → CanGoOn r h)

  module _ (named : Resolved) where
    -- where the branch's snapshot was read
    abbrev Knows : SnapshotFile → List Event → Type 0
    Knows f h = HasNamed (branch_of s) named.version.0 named.id h × IsHead named.id f h

    Knows-append : (f : SnapshotFile) (journal more : List Event) → Each IsGood journal more → Knows f journal → Knows f (journal ++ more)
    Knows-append f journal more g k = (HasNamed-append (branch_of s) named.version.0 named.id journal more g k.0, IsHead-append named.id f journal more g k.1)

    were-solved : (f : SnapshotFile) (fs : List SnapshotFile) (held : Held Place) (h : List Event) → AreSolved by policy s named.id named.version start (f ∷ fs) held h → WereSolved by.number policy s named.id named.version (length fs + 1) (head_of f fs) held start h
    were-solved f fs held h a =
        let r = last-link a.links f fs a.files in
        record { links = a.links; met = a.met; solved = a.solved; before = r.before; lists = r.lists; last = r.last; count_is = count-links a.links f fs a.files }

    head-ends : (f : SnapshotFile) (fs : List SnapshotFile) (held : Held Place) (h : List Event) → AreSolved by policy s named.id named.version start (f ∷ fs) held h → Knows (head_of f fs) h → Leads Ends by (on_head s named (length fs + 1) (head_of f fs) held) h
    unfolding Leads
    head-ends f fs held h a k = by_test (nat_lt most_nodes (len (nodes_over held (nodes_in (head_of f fs).nodes)))) refl
      where
        w : WereSolved by.number policy s named.id named.version (length fs + 1) (head_of f fs) held start h
        w = were-solved f fs held h a

        fits : (n : ℕ) → nat_lt most_nodes n ≡ false → n ≤ most_nodes
        fits n e = grind (arith, nat_tests)

        over : (n : ℕ) → nat_lt most_nodes n ≡ true → most_nodes < n
        over n e = grind (arith, nat_tests)

        by_test : (b : Bool) → nat_lt most_nodes (len (nodes_over held (nodes_in (head_of f fs).nodes))) ≡ b → Leads Ends by (cond b (Done (Err (R.Edit E.Full))) (Done (Ok (OnHead (rebased_to s named.id named.version.0 (head_of f fs) held) (length fs + 1))))) h
        by_test true e = (record { head = named.id; version = named.version; count = length fs + 1; snap = head_of f fs; held = held; solved = w; many = over (len (nodes_over held (nodes_in (head_of f fs).nodes))) e }, λ spelled opened. tt)
        by_test false e = (
          record { head = named.id; version = named.version; snap = head_of f fs; held = held; solved = w; few = fits (len (nodes_over held (nodes_in (head_of f fs).nodes))) e; becomes = refl },
          λ spelled opened.
              let l : Link = record { file = head_of f fs; lists = w.lists } in
              let way = way-ends policy s.held held (base_nodes s) w.before l (ap (way_of policy s) (sym w.last) ∙ w.solved) in (
                moved-spelled s named.id named.version.0 policy l held way (reference.read k.0.bytes named.id k.0.names) k.1.proper (fits (len (nodes_over held (nodes_in (head_of f fs).nodes))) e) spelled,
                moved-opened s named.id named.version.0 (head_of f fs) held h k.0 k.1 way.less opened,
              ),
        )

    solved-ends : (f : SnapshotFile) (fs : List SnapshotFile) (r : Result (Held Place) Refusal) (h : List Event) → SolveTells by policy s named.id named.version start (f ∷ fs) r h → Knows (head_of f fs) h → Leads Ends by (on_answer (on_head s named (length fs + 1) (head_of f fs)) r) h
    unfolding Leads
    solved-ends f fs (Ok held) h t k = head-ends f fs held h t k
    solved-ends f fs (Err why) h t k = refused why t
      where
        refused : (why : Refusal) → SolveTells by policy s named.id named.version start (f ∷ fs) (Err why) h → Leads Ends by (Done (Err why)) h
        refused (R.Missing key) t = (inr t, λ spelled opened. tt)
        refused (R.BadFile key bad) (inl t) = (inr (inr (inl t)), λ spelled opened. tt)
        refused (R.BadFile key bad) (inr t) = (inr (inr (inr t)), λ spelled opened. tt)
        refused (R.Left at conflicts) t = (t, λ spelled opened. tt)
        refused R.StoreFault t = (t, λ spelled opened. tt)
        refused _ t = absurd t

    commits-end : (r : Result CommitsSince Refusal) (h : List Event) → WalkTells by s named.id named.version start r h → HasNamed (branch_of s) named.version.0 named.id h → Leads Ends by (on_answer (over_commits policy s named) r) h
    unfolding Leads
    commits-end (Ok c) h t n =
        Leads-bind (λ r j. SolveTells by policy s named.id named.version start (c.oldest ∷ c.later) r j × Knows (head_of c.oldest c.later) j) Ends by (solve_program policy s.held (base_nodes s) (c.oldest ∷ c.later)) (on_answer (on_head s named (length c.later + 1) (head_of c.oldest c.later))) h
        (gets-leave (Knows (head_of c.oldest c.later)) (Knows-append (head_of c.oldest c.later)) (SolveTells by policy s named.id named.version start (c.oldest ∷ c.later)) by (solve_program policy s.held (base_nodes s) (c.oldest ∷ c.later)) h (solve-gets policy s.held (base_nodes s) (c.oldest ∷ c.later)) (n, t.top)
        (solve-leads by policy s named.id named.version start (c.oldest ∷ c.later) h t.ref t.walked t.gets))
        (λ r j q. solved-ends c.oldest c.later r j q.0 q.1)
    commits-end (Err why) h t n = refused why t
      where
        refused : (why : Refusal) → WalkTells by s named.id named.version start (Err why) h → Leads Ends by (Done (Err why)) h
        refused (R.Missing key) t = (inl t, λ spelled opened. tt)
        refused (R.BadFile key bad) t = (inr (inl t), λ spelled opened. tt)
        refused R.TooDeep t = (t, λ spelled opened. tt)
        refused (R.NotAncestor to) t = (t, λ spelled opened. tt)
        refused R.StoreFault t = (t, λ spelled opened. tt)
        refused _ t = absurd t

    named-ends : (h : List Event) → WasRef by.number (Branch (branch_of s)) named.version named.id start h → HasNamed (branch_of s) named.version.0 named.id h → MadeGets by.number start h → Leads Ends by (after_ref policy s named) h
    unfolding Leads
    named-ends h ref n gets = by_base (same_id12 named.id s.base) refl
      where
        by_base : (b : Bool) → same_id12 named.id s.base ≡ b → Leads Ends by (cond b (Done (Ok (UpToDate (record s { origin = origin_at named.version.0 s.origin })))) (walk_down s.base named.id most_snapshots [] named.id >>= over_commits policy s named)) h
        by_base true t =
            let same : named.id ≡ s.base = same_id12-true named.id s.base t in (
              record { version = named.version; ref = subst (λ (id : Id12). WasRef by.number (Branch (branch_of s)) named.version id start h) same ref; becomes = refl },
              λ spelled opened. (same-spelled s named.version.0 spelled, same-opened s named.version.0 h (subst (λ (id : Id12). HasNamed (branch_of s) named.version.0 id h) same n) opened),
            )
        by_base false t =
            Leads-bind (λ r j. WalkTells by s named.id named.version start r j × HasNamed (branch_of s) named.version.0 named.id j) Ends by (walk_down s.base named.id most_snapshots [] named.id) (on_answer (over_commits policy s named)) h
            (gets-leave (HasNamed (branch_of s) named.version.0 named.id) (HasNamed-append (branch_of s) named.version.0 named.id) (WalkTells by s named.id named.version start) by (walk_down s.base named.id most_snapshots [] named.id) h (walk-gets s.base named.id most_snapshots [] named.id) n
            (walk-leads law by s named.id named.version start h ref gets (same_id12-false named.id s.base t)))
            (λ r j q. commits-end r j q.0 q.1)

  -- ---- from the branch on
  bytes-end : (bytes : List ℕ) (version : Version) (h : List Event) → WasGot by.number (Branch (branch_of s)) bytes version.0 start h → StoodAt h (Branch (branch_of s)) version.0 bytes → MadeGets by.number start h
      → (r : Result Id12 Bad) → read_ref bytes ≡ r → Leads Ends by (on_answer (after_ref policy s) (resolved_at version (at_key (Branch (branch_of s)) r))) h
  unfolding Leads
  bytes-end bytes version h got stood gets (Ok id) e =
      let names : ref_of bytes ≡ Some id = ap result_ok e in
      named-ends (record { id = id; version = version }) h (record { bytes = bytes; got = got; names = names }) (record { bytes = bytes; stood = stood; names = names }) gets
  bytes-end bytes version h got stood gets (Err bad) e = (inl (record { key_is = refl; bytes = bytes; version = version.0; got = got; unread = e }), λ spelled opened. tt)

  ref-ends : (reply : Reply) (old new : List Event) → MadeGets by.number start old → Makes by (Get (Branch (branch_of s))) reply old new → Leads Ends by (on_answer (after_ref policy s) (ref_told (branch_of s) reply)) new
  unfolding Leads
  ref-ends reply old new c m =
      got-cases by old new (λ r. Leads Ends by (on_answer (after_ref policy s) (ref_told (branch_of s) r)) new) (Branch (branch_of s))
      (λ bytes version now n.
      bytes-end bytes version new (got-made by start (Branch (branch_of s)) bytes version now old new n c) (get-had by (Branch (branch_of s)) bytes version now old new n).stood (MadeGets-get by start (Branch (branch_of s)) (Got (Found bytes version now)) old new n c) (read_ref bytes) refl)
      (λ now n. (absent-made by start (Branch (branch_of s)) now old new n c, λ spelled opened. tt))
      (λ done n. (failed-made by start (GetsOf (IsOfRebase s)) (Get (Branch (branch_of s))) done old new (Branch (branch_of s), inl refl, refl) n c, λ spelled opened. tt))
      reply m

  rebase-ends : Leads Ends by (rebase_program policy s) start
  unfolding Leads rebase_program
  rebase-ends = by_writes (writes s) refl
    where
      by_writes : (b : Bool) → writes s ≡ b → Leads Ends by (cond b (Ask (Get (Branch (branch_of s))) (λ reply. on_answer (after_ref policy s) (ref_told (branch_of s) reply))) (Done (Err R.ReadOnly))) start
      by_writes true e = λ reply new m. ref-ends reply start new (MadeGets-none by.number start) m
      by_writes false e = (e, λ spelled opened. tt)

  pub rebase-leads : Leads (RebaseTells by.number policy s start) by (rebase_program policy s) start
  rebase-leads =
      Leads-both (RebaseSays by.number policy s start) (λ r h. MadeGets by.number start h) by (rebase_program policy s) start
      (Leads-weaker Ends (RebaseSays by.number policy s start) (λ r h q. q.0) by (rebase_program policy s) start rebase-ends)
      (gets-hold (MadeGets by.number start) by (MadeGets-get by start) (rebase_program policy s) start (rebase-gets policy s) (MadeGets-none by.number start))

  pub rebase-goes_on : IsSpelled s → IsOpened s start → Leads CanGoOn by (rebase_program policy s) start
  rebase-goes_on spelled opened =
      Leads-weaker (λ r h. Ends r h × IsOpened s h) CanGoOn (λ r h q. q.0.1 spelled q.1) by (rebase_program policy s) start
      (gets-leave (IsOpened s) (IsOpened-append s) Ends by (rebase_program policy s) start (rebase-gets policy s) opened rebase-ends)

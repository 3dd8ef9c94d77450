-- What the solving of conflicts with one commit after another tells, whatever others do.
use Rattle.std.proofs.Common.{◌≡◌, ◌⊎◌, inl, inr, ℕ, List, [], ◌∷◌, ◌++◌, map, refl, sym, ◌∙◌, ap, subst, append_assoc, append-nil}
use Rattle.std.specs.Prelude.{Option, Some, None, Result, Ok, Err}
use Rattle.std.specs.Result.{result_ok}
use Rattle.std.specs.FinMap.{FinMap}
use Rattle.std.proofs.lemmas.List.{map-append}
use Rattle.std.proofs.lemmas.List.Elements.{All-nil, All-push}
use Rattle.ice_ids.specs.declared.Id8.{Id8}
use Rattle.ice_ids.specs.declared.Id12.{Id12}
use Rattle.zarr_path.specs.Paths.{path_cmp}
use Rattle.manifest_file.specs.declared.manifest.Place.{Place}
use Rattle.snapshot_file.specs.declared.snapshot.SnapshotFile.{SnapshotFile}
use Rattle.txn_file.specs.declared.log.TxnFile.{TxnFile}
use Rattle.repo_objects.specs.declared.bad_objects.Bad.{Bad}
use Rattle.repo_objects.specs.Readings.{read_log}
use Rattle.repo_objects.specs.Trees.{nodes_in}
use Rattle.zarr_tree.specs.declared.cases.Conflict.{Conflict}
use Rattle.zarr_tree.specs.Nodes.{Node}
use Rattle.zarr_tree.specs.Held.{Held}
use Rattle.conflicts.specs.declared.solving.Policy.{Policy}
use Rattle.object_store.specs.declared.keys.Key.TheVariants.{Txn, Branch}
use Rattle.object_store.specs.declared.events.Version.{Version}
use Rattle.object_store.specs.declared.events.Op.TheVariants.{Get}
use Rattle.object_store.specs.declared.events.Got.TheVariants.{Found, Absent}
use Rattle.object_store.specs.declared.events.Reply.{Reply}
use Rattle.object_store.specs.declared.events.Reply.TheVariants.{Got}
use Rattle.object_store.specs.declared.events.Event.{Event}
use Rattle.store_api.specs.declared.machines.Refusal.{Refusal}
use Rattle.store_api.specs.declared.machines.Refusal.TheVariants as R
use Rattle.store_api.specs.Callers.{Caller, Makes}
use Rattle.store_api.specs.Program.{Leads}
use Rattle.store_api.specs.Running.{Program, on_answer}
use Rattle.store_api.specs.Telling.{GetsOf, MadeGets, WasFailure, WasGot, WasRef}
use Rattle.repo_read.specs.Answers.{at_key, log_told}
use Rattle.session.specs.Sessions.{SessionState, branch_of, base_nodes}
use Rattle.rebase.specs.Along.{Link, Solves, left_at, solved_at, first_hidden, past, along}
use Rattle.rebase.specs.Rebasing.{if_solved, solve_link, solve_program}
use Rattle.rebase.specs.Telling.{IsOfRebase, LogIsBad, LogIsMissing, LogWasReadAs, WasHidden, WasLeft, WasWalked, WereMet, way_of}
use Rattle.repo_read.proofs.Own.{MadeGets-get}
use Rattle.repo_read.proofs.Replies.{got-cases}
use Rattle.repo_read.proofs.Namings.{got-made, absent-made, failed-made}
use Rattle.commit_path.proofs.Gets.{Gets, done-gets}
use Rattle.rebase.proofs.Kept.{stays-makes, met-append}

abbrev Nodes : Type 0
Nodes = FinMap path_cmp Node

abbrev pub file_of : Link → SnapshotFile
file_of l = l.file

abbrev pub files_of : List Link → List SnapshotFile
files_of links = map file_of links

-- the commit whose log was read
abbrev link_of : SnapshotFile → TxnFile → Link
link_of f log = record { file = f; lists = log.lists }

-- ---- gets alone
if-gets : {A : Type 0} (at : Id12) (left : List Conflict) (hidden : Option Id8) (p : Program A) → Gets p → Gets (if_solved at left hidden p)
if-gets at (x ∷ xs) hidden p g = done-gets _
if-gets at [] (Some node) p g = done-gets _
if-gets at [] None p g = g

abbrev behind : Policy → Held Place → Nodes → SnapshotFile → List SnapshotFile → TxnFile → Program (Held Place)
behind policy held before f fs log = solve_link policy held before (link_of f log) (λ left. solve_program policy left (nodes_in f.nodes) fs)

told-gets : (policy : Policy) (held : Held Place) (before : Nodes) (f : SnapshotFile) (fs : List SnapshotFile) → ((left : Held Place) → Gets (solve_program policy left (nodes_in f.nodes) fs)) → (r : Result TxnFile Refusal) → Gets (on_answer (behind policy held before f fs) r)
told-gets policy held before f fs g (Ok log) =
    if-gets f.id (left_at policy held before (link_of f log)) (first_hidden (nodes_in f.nodes) held.metas) (solve_program policy (solved_at policy held before (link_of f log)) (nodes_in f.nodes) fs) (g (solved_at policy held before (link_of f log)))
told-gets policy held before f fs g (Err why) = done-gets (Err why)

pub solve-gets : (policy : Policy) (held : Held Place) (before : Nodes) (fs : List SnapshotFile) → Gets (solve_program policy held before fs)
unfolding Gets solve_program
solve-gets policy held before [] = tt
solve-gets policy held before (f ∷ fs) = (tt, λ reply. told-gets policy held before f fs (λ left. solve-gets policy left (nodes_in f.nodes) fs) (log_told f.id reply))

-- ---- what is told
-- the logs of these commits were read, and all conflicts with them were solved
pub record AreSolved (by : Caller) (policy : Policy) (s : SessionState) (head : Id12) (version : Version) (start : List Event) (fs : List SnapshotFile) (held : Held Place) (h : List Event) : Type 0 where
  pub links : List Link
  pub met : WereMet by.number s head version links [] start h
  pub files : files_of links ≡ fs
  pub solved : way_of policy s links ≡ Solves held

abbrev pub SolveTells : (by : Caller) → Policy → SessionState → (head : Id12) → Version → (start : List Event) → (fs : List SnapshotFile) → Result (Held Place) Refusal → List Event → Type 0
SolveTells by policy s head version start fs (Ok held) h = AreSolved by policy s head version start fs held h
SolveTells by policy s head version start fs (Err (R.Missing key)) h = LogIsMissing by.number policy s key start h
SolveTells by policy s head version start fs (Err (R.BadFile key bad)) h = LogIsBad by.number policy s key bad start h ⊎ WasHidden by.number policy s key bad start h
SolveTells by policy s head version start fs (Err (R.Left at conflicts)) h = WasLeft by.number policy s at conflicts start h
SolveTells by policy s head version start fs (Err R.StoreFault) h = WasFailure by.number (GetsOf (IsOfRebase s)) start h
SolveTells by policy s head version start fs (Err _) h = ⊥

module _ (by : Caller) (policy : Policy) (s : SessionState) (head : Id12) (version : Version) (start : List Event) (all : List SnapshotFile) where
  abbrev Told : Result (Held Place) Refusal → List Event → Type 0
  Told = SolveTells by policy s head version start all

  -- Conflicts with the first commits were solved. What is still held goes on along the others.
  record Stands (links : List Link) (rest : List SnapshotFile) (held : Held Place) (before : Nodes) (h : List Event) : Type 0 where
    pub met : WereMet by.number s head version links rest start h
    pub gets : MadeGets by.number start h
    pub files : files_of links ++ rest ≡ all
    pub way : (more : List Link) → way_of policy s (links ++ more) ≡ along policy held before more

  -- so far
  so-far : (links : List Link) (rest : List SnapshotFile) (held : Held Place) (before : Nodes) (h : List Event) → Stands links rest held before h → way_of policy s links ≡ Solves held
  unfolding along
  so-far links rest held before h g = ap (way_of policy s) (sym (append-nil links)) ∙ g.way []

  stands-get : (links : List Link) (rest : List SnapshotFile) (held : Held Place) (before : Nodes) (id : Id12) (reply : Reply) (old new : List Event) → Makes by (Get (Txn id)) reply old new → Stands links rest held before old → Stands links rest held before new
  stands-get links rest held before id reply old new m g = record {
    met = stays-makes (λ (h : List Event). WereMet by.number s head version links rest start h) (λ journal more. met-append by.number start journal more s head version links rest) by (Get (Txn id)) reply old new m g.met;
    gets = MadeGets-get by start (Txn id) reply old new m g.gets;
    files = g.files;
    way = g.way;
  }

  -- ---- one more log
  files-next : (links : List Link) (l : Link) (rest : List SnapshotFile) → files_of links ++ (l.file ∷ rest) ≡ files_of (links ++ l ∷ []) ++ rest
  files-next links l rest = sym (ap (λ (fs : List SnapshotFile). fs ++ rest) (map-append file_of links (l ∷ [])) ∙ append_assoc (files_of links) (l.file ∷ []) rest)

  met-next : (links : List Link) (l : Link) (rest : List SnapshotFile) (h : List Event) → WereMet by.number s head version links (l.file ∷ rest) start h → LogWasReadAs by.number l start h → WereMet by.number s head version (links ++ l ∷ []) rest start h
  met-next links l rest h m r = record {
    ref = m.ref;
    walked = subst (λ (fs : List SnapshotFile). WasWalked by.number s.base s.base head fs start h) (files-next links l rest) m.walked;
    logs = All-push (λ (k : Link). LogWasReadAs by.number k start h) links l m.logs r;
  }

  -- the way behind it
  way-next : (links : List Link) (l : Link) (held : Held Place) (before : Nodes) (left : List Conflict) (hidden : Option Id8) → ((more : List Link) → way_of policy s (links ++ more) ≡ along policy held before more) → left_at policy held before l ≡ left → first_hidden (nodes_in l.file.nodes) held.metas ≡ hidden
      → (more : List Link) → way_of policy s ((links ++ l ∷ []) ++ more) ≡ past l.file.id left hidden (along policy (solved_at policy held before l) (nodes_in l.file.nodes) more)
  unfolding along
  way-next links l held before left hidden way e f more =
      ap (way_of policy s) (append_assoc links (l ∷ []) more) ∙ way (l ∷ more)
      ∙ ap (λ (xs : List Conflict). past l.file.id xs (first_hidden (nodes_in l.file.nodes) held.metas) (along policy (solved_at policy held before l) (nodes_in l.file.nodes) more)) e
      ∙ ap (λ (o : Option Id8). past l.file.id left o (along policy (solved_at policy held before l) (nodes_in l.file.nodes) more)) f

  -- ... and up to it
  way-here : (links : List Link) (l : Link) (held : Held Place) (before : Nodes) (left : List Conflict) (hidden : Option Id8) → ((more : List Link) → way_of policy s (links ++ more) ≡ along policy held before more) → left_at policy held before l ≡ left → first_hidden (nodes_in l.file.nodes) held.metas ≡ hidden
      → way_of policy s (links ++ l ∷ []) ≡ past l.file.id left hidden (along policy (solved_at policy held before l) (nodes_in l.file.nodes) [])
  way-here links l held before left hidden way e f = ap (way_of policy s) (sym (append-nil (links ++ l ∷ []))) ∙ way-next links l held before left hidden way e f []

  abbrev Goes_on : (rest : List SnapshotFile) → Type 0
  Goes_on rest = (links : List Link) (held : Held Place) (before : Nodes) (h : List Event) → Stands links rest held before h → Leads Told by (solve_program policy held before rest) h

  link-leads : (links : List Link) (l : Link) (rest : List SnapshotFile) (held : Held Place) (before : Nodes) (h : List Event) → Stands links (l.file ∷ rest) held before h → LogWasReadAs by.number l start h → Goes_on rest
      → (left : List Conflict) (hidden : Option Id8) → left_at policy held before l ≡ left → first_hidden (nodes_in l.file.nodes) held.metas ≡ hidden
      → Leads Told by (if_solved l.file.id left hidden (solve_program policy (solved_at policy held before l) (nodes_in l.file.nodes) rest)) h
  unfolding Leads
  link-leads links l rest held before h g r here (x ∷ xs) hidden e f = record {
    head = head;
    version = version;
    links = links ++ l ∷ [];
    later = rest;
    met = met-next links l rest h g.met r;
    before = links;
    one = l;
    last = refl;
    at_is = refl;
    stays = way-here links l held before (x ∷ xs) hidden g.way e f;
  }
  link-leads links l rest held before h g r here [] (Some node) e f = inr (record {
    head = head;
    version = version;
    links = links ++ l ∷ [];
    later = rest;
    met = met-next links l rest h g.met r;
    at = l.file.id;
    before = links;
    one = l;
    last = refl;
    at_is = refl;
    node = node;
    hides = way-here links l held before [] (Some node) g.way e f;
    key_is = refl;
    bad_is = refl;
  })
  link-leads links l rest held before h g r here [] None e f = here (links ++ l ∷ []) (solved_at policy held before l) (nodes_in l.file.nodes) h (record {
    met = met-next links l rest h g.met r;
    gets = g.gets;
    files = sym (files-next links l rest) ∙ g.files;
    way = way-next links l held before [] None g.way e f;
  })

  bytes-lead : (links : List Link) (f : SnapshotFile) (rest : List SnapshotFile) (held : Held Place) (before : Nodes) (bytes : List ℕ) (put : ℕ) (h : List Event) → Stands links (f ∷ rest) held before h → WasGot by.number (Txn f.id) bytes put start h → Goes_on rest
      → (r : Result TxnFile Bad) → read_log f.id bytes ≡ r → Leads Told by (on_answer (behind policy held before f rest) (at_key (Txn f.id) r)) h
  unfolding Leads
  bytes-lead links f rest held before bytes put h g got here (Ok log) e =
      link-leads links (link_of f log) rest held before h g (record { bytes = bytes; version = put; got = got; log = log; read = ap result_ok e; lists_are = refl }) here (left_at policy held before (link_of f log)) (first_hidden (nodes_in f.nodes) held.metas) refl refl
  bytes-lead links f rest held before bytes put h g got here (Err bad) e = inl (record {
    head = head;
    version = version;
    links = links;
    next = f;
    later = rest;
    met = g.met;
    held = held;
    solved = so-far links (f ∷ rest) held before h g;
    key_is = refl;
    bytes = bytes;
    put = put;
    got = got;
    unread = e;
  })

  get-leads : (links : List Link) (f : SnapshotFile) (rest : List SnapshotFile) (held : Held Place) (before : Nodes) (reply : Reply) (old new : List Event) → Stands links (f ∷ rest) held before old → Goes_on rest → Makes by (Get (Txn f.id)) reply old new
      → Leads Told by (on_answer (behind policy held before f rest) (log_told f.id reply)) new
  unfolding Leads
  get-leads links f rest held before reply old new g here m =
      got-cases by old new (λ r. Leads Told by (on_answer (behind policy held before f rest) (log_told f.id r)) new) (Txn f.id)
      (λ bytes put now n. bytes-lead links f rest held before bytes put.0 new (stands-get links (f ∷ rest) held before f.id (Got (Found bytes put now)) old new n g) (got-made by start (Txn f.id) bytes put now old new n g.gets) here (read_log f.id bytes) refl)
      (λ now n.
      let next = stands-get links (f ∷ rest) held before f.id (Got (Absent now)) old new n g in
      record {
        head = head;
        version = version;
        links = links;
        next = f;
        later = rest;
        met = next.met;
        held = held;
        solved = so-far links (f ∷ rest) held before new next;
        key_is = refl;
        absent = absent-made by start (Txn f.id) now old new n g.gets;
      })
      (λ done n. failed-made by start (GetsOf (IsOfRebase s)) (Get (Txn f.id)) done old new (Txn f.id, inr (inr (f.id, refl)), refl) n g.gets)
      reply m

  go-leads : (rest : List SnapshotFile) (links : List Link) (held : Held Place) (before : Nodes) (h : List Event) → Stands links rest held before h → Leads Told by (solve_program policy held before rest) h
  unfolding Leads solve_program
  go-leads [] links held before h g = record { links = links; met = g.met; files = sym (append-nil (files_of links)) ∙ g.files; solved = so-far links [] held before h g }
  go-leads (f ∷ fs) links held before h g = λ reply new m. get-leads links f fs held before reply h new g (λ more left nodes j k. go-leads fs more left nodes j k) m

  pub solve-leads : (h : List Event) → WasRef by.number (Branch (branch_of s)) version head start h → WasWalked by.number s.base s.base head all start h → MadeGets by.number start h → Leads Told by (solve_program policy s.held (base_nodes s) all) h
  solve-leads h ref walked gets = go-leads all [] s.held (base_nodes s) h (record { met = record { ref = ref; walked = walked; logs = All-nil (λ (k : Link). LogWasReadAs by.number k start h) }; gets = gets; files = refl; way = λ more. refl })

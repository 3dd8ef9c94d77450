-- What an opening keeps, and what a session knows that was opened.
use Rattle.std.proofs.Common.{◌≡◌, ℕ, ◌+◌, ◌≤◌, Bool, true, false, cond, List, [], ◌∷◌, map, length, refl, sym, ◌∙◌, ap, subst, arith}
use Rattle.std.specs.Prelude.{Option, Some, None, option_map, Result, Ok, Err}
use Rattle.std.specs.Option.{option_or}
use Rattle.std.specs.Result.{result_ok}
use Rattle.std.specs.FinMap.{FinMap, get, len, contains_key, from_entries, get-empty, len-empty, len-insert}
use Rattle.ice_ids.specs.declared.Id12.{Id12}
use Rattle.ice_ids.specs.Text.{IsId12}
use Rattle.ice_ids.specs.declared.drawing.AnyIds.{AnyIds}
use Rattle.zarr_path.specs.Paths.{path_cmp}
use Rattle.zarr_path.proofs.OrderLaws.{total}
use Rattle.zarr_tree.specs.Nodes.{Node}
use Rattle.zarr_tree.specs.Trees.{Tree}
use Rattle.zarr_tree.specs.Edits.{most_nodes}
use Rattle.zarr_tree.specs.Changes.{Changes, is_gone, patched}
use Rattle.zarr_tree.specs.Held.{changes_of, nodes_over}
use Rattle.zarr_tree.proofs.Maps.{same}
use Rattle.zarr_tree.proofs.Apply.{node-apply, gone-false}
use Rattle.zarr_changes.specs.Edits.{nothing}
use Rattle.manifest_file.specs.declared.manifest.Place.{Place}
use Rattle.snapshot_file.specs.declared.nodes.NodeRow.{NodeRow}
use Rattle.snapshot_file.specs.declared.snapshot.SnapshotFile.{SnapshotFile}
use Rattle.snapshot_file.specs.Snapshots.{node_limit}
use Rattle.snapshot_file.proofs.PropsRead.{none_are}
use Rattle.repo_objects.specs.declared.bad_objects.Bad.{Bad}
use Rattle.repo_objects.specs.Readings.{read_snapshot, read_ref, ref_of}
use Rattle.repo_objects.specs.Trees.{node_of, nodes_in}
use Rattle.object_store.specs.declared.keys.Key.TheVariants.{Snapshot, Branch, Tag, Tombstone}
use Rattle.object_store.specs.declared.events.Version.{Version}
use Rattle.object_store.specs.declared.events.Op.TheVariants.{Get}
use Rattle.object_store.specs.declared.events.Got.TheVariants.{Found, Absent}
use Rattle.object_store.specs.declared.events.Reply.{Reply}
use Rattle.object_store.specs.declared.events.Reply.TheVariants.{Got as Is_got, Failed}
use Rattle.object_store.specs.declared.events.Event.{Event}
use Rattle.store_api.specs.declared.machines.Refusal.{Refusal}
use Rattle.store_api.specs.declared.machines.Refusal.TheVariants.{NoRef, Missing, StoreFault}
use Rattle.store_api.specs.Journal.{StoodAt, snap_in}
use Rattle.store_api.specs.Callers.{Caller, Makes}
use Rattle.store_api.specs.Program.{Prog, Done, Ask, Keeps, Leads}
use Rattle.store_api.specs.Running.{Program, on_answer, ◌>>=◌}
use Rattle.store_api.proofs.Programs.{Leads-bind}
use Rattle.store_api.proofs.Telling.{Had, get-had, makes-keeps}
use Rattle.repo_read.specs.declared.answers.Resolved.{Resolved}
use Rattle.repo_read.specs.declared.resolving.At.{At}
use Rattle.repo_read.specs.declared.resolving.Named.{Named}
use Rattle.repo_read.specs.Answers.{at_key, resolved_at, ref_told}
use Rattle.repo_read.specs.Resolving.{alone, tag_told, tombstone_told, tombstone_program, resolve_at_program, no_ref, but_refused, base_told}
use Rattle.repo_read.proofs.Replies.{got-cases}
use Rattle.session.specs.Sessions.{SessionState, tip_in}
use Rattle.session.specs.Opening.{Asked, open_program, base_program, begun, origin_named, origin_for}
use Rattle.commit_path.specs.Owed.{Sessions, IsCareful}
use Rattle.commit_path.specs.Spelled.{IsSpelled}
use Rattle.commit_path.specs.Opened.{IsTip, IsOpened}
use Rattle.commit_path.proofs.Gets.{Gets, done-gets, ask-gets, bind-gets, gets-keep_each}
use Rattle.commit_path.proofs.Knowing.{IsTip-append}
use Rattle.commit_path.proofs.Spelling.{Spellings}

-- ---- the program behind its replies
-- what follows where a branch's bytes read so, and a tag's, and where its tombstone's get told so
abbrev branch_named : Resolved → Program Named
branch_named read = Done (Ok (record { id = read.id; version = Some read.version }))

abbrev tag_named : (name : List ℕ) → Id12 → Program Named
tag_named name tagged = tombstone_program name tagged >>= λ id. Done (Ok (alone id))

abbrev id_named : Id12 → Program Named
id_named id = Done (Ok (alone id))

-- and where the snapshot's bytes do
abbrev pub after_base : Asked → Named → Result SnapshotFile Refusal → Program SessionState
after_base a named snap = on_answer (λ (s : SnapshotFile). Done (Ok (begun a named s))) snap

-- ---- an opening asks for nothing that is owed
branch-gets : (r : Result Resolved Refusal) → Gets (on_answer branch_named r)
branch-gets (Ok read) = done-gets (Ok (record { id = read.id; version = Some read.version }))
branch-gets (Err why) = done-gets (Err why)

id-gets : (r : Result Id12 Refusal) → Gets (on_answer id_named r)
id-gets (Ok id) = done-gets (Ok (alone id))
id-gets (Err why) = done-gets (Err why)

tag-gets : (name : List ℕ) (r : Result Id12 Refusal) → Gets (on_answer (tag_named name) r)
tag-gets name (Ok id) = ask-gets (Tombstone name) (λ reply. on_answer id_named (tombstone_told id reply)) (λ reply. id-gets (tombstone_told id reply))
tag-gets name (Err why) = done-gets (Err why)

naming-gets : (at : At) → Gets (resolve_at_program at)
naming-gets (At.Branch name) = ask-gets (Branch name) (λ reply. on_answer branch_named (ref_told name reply)) (λ reply. branch-gets (ref_told name reply))
naming-gets (At.Tag name) = ask-gets (Tag name) (λ reply. on_answer (tag_named name) (tag_told name reply)) (λ reply. tag-gets name (tag_told name reply))
naming-gets (At.Snapshot id) = done-gets (Ok (alone id))

base-gets : (a : Asked) (named : Named) (snap : Result SnapshotFile Refusal) → Gets (after_base a named snap)
base-gets a named (Ok s) = done-gets (Ok (begun a named s))
base-gets a named (Err why) = done-gets (Err why)

named-gets : (a : Asked) (r : Result Named Refusal) → Gets (on_answer (base_program a) r)
named-gets a (Ok named) = ask-gets (Snapshot named.id) (λ reply. after_base a named (base_told a.at named.id reply)) (λ reply. base-gets a named (base_told a.at named.id reply))
named-gets a (Err why) = done-gets (Err why)

-- it makes gets alone
pub open-gets : (a : Asked) → Gets (open_program a)
open-gets a = bind-gets (resolve_at_program a.at) (on_answer (base_program a)) (naming-gets a.at) (named-gets a)

-- whatever others do, each operation of an opening is polite, and owes nothing
pub open-careful : (by : Caller) (ids : AnyIds) (mine : Sessions) (a : Asked) (journal : List Event) → Keeps (IsCareful ids mine) by (open_program a) journal
open-careful by ids mine a journal = gets-keep_each (IsCareful ids mine) by (λ h key. record { polite = tt; owes = tt }) (open_program a) journal (open-gets a)

-- ---- a session without changes
abbrev no_changes : Changes
no_changes = changes_of (λ (place : Place). None) nothing

abbrev bare : FinMap path_cmp Node → Tree
bare nodes = record { nodes = nodes; chunk = λ p i. None }

same-node : (o : Option Node) → option_map (patched no_changes.metas) o ≡ o
same-node None = refl
same-node (Some n) = refl

none-over : (nodes : FinMap path_cmp Node) → nodes_over (nothing {P = Place}) nodes ≡ nodes
none-over nodes = same _ _ (λ p.
    node-apply no_changes (bare nodes) p
    ∙ ap (λ (o : Option Node). option_or o (cond (is_gone no_changes.dropped nodes p) None (option_map (patched no_changes.metas) (get nodes p)))) (get-empty path_cmp p)
    ∙ ap (λ (b : Bool). cond b None (option_map (patched no_changes.metas) (get nodes p))) (gone-false no_changes.dropped (bare nodes) p (λ g. let d = g.dropped_id in cc))
    ∙ same-node (get nodes p))

one-more : (b : Bool) (n m : ℕ) → n ≤ m → cond b n (n + 1) ≤ m + 1
one-more true n m l = omega arith
one-more false n m l = omega arith

entries-few : (es : List (List ℕ × Node)) → len (from_entries {R = path_cmp} es) ≤ length es
entries-few [] = let e = len-empty path_cmp Node in omega (arith, e)
entries-few (x ∷ xs) =
    let e = len-insert total (from_entries {R = path_cmp} xs) x.0 x.1 in
    let l = one-more (contains_key (from_entries {R = path_cmp} xs) x.0) (len (from_entries {R = path_cmp} xs)) (length xs) (entries-few xs) in
    omega (arith, e, l)

length-rows : (rows : List NodeRow) → length {A = List ℕ × Node} (map (λ (row : NodeRow). (row.path, node_of row)) rows) ≡ length rows
length-rows [] = refl
length-rows (row ∷ rows) = let e = length-rows rows in omega (arith, e)

begun-few : (rows : List NodeRow) → length rows ≤ node_limit → len (nodes_over (nothing {P = Place}) (nodes_in rows)) ≤ most_nodes
begun-few rows l =
    let e = entries-few (map (λ (row : NodeRow). (row.path, node_of row)) rows) in
    let n = length-rows rows in
    subst (λ (m : FinMap path_cmp Node). len m ≤ most_nodes) (sym (none-over (nodes_in rows))) (omega (arith, e, n, l))

-- ---- the get of the snapshot that was named
pub base-found : (at : At) (id : Id12) (bytes : List ℕ) (version : Version) (now : ℕ) (r : Result SnapshotFile Bad) → read_snapshot id bytes ≡ r → base_told at id (Is_got (Found bytes version now)) ≡ at_key (Snapshot id) r
base-found (At.Branch name) id bytes version now r e = ap (at_key (Snapshot id)) e
base-found (At.Tag name) id bytes version now r e = ap (at_key (Snapshot id)) e
base-found (At.Snapshot own) id bytes version now (Ok s) e = ap (λ (x : Result SnapshotFile Bad). but_refused no_ref (at_key (Snapshot id) x)) e
base-found (At.Snapshot own) id bytes version now (Err bad) e = ap (λ (x : Result SnapshotFile Bad). but_refused no_ref (at_key (Snapshot id) x)) e

pub base-failed : (at : At) (id : Id12) (done : Bool) → base_told at id (Failed done) ≡ Err StoreFault
base-failed (At.Branch name) id done = refl
base-failed (At.Tag name) id done = refl
base-failed (At.Snapshot own) id done = refl

-- ---- what an opened session knows
pub record IsReady (s : SessionState) (journal : List Event) : Type 0 where
  pub opened : IsOpened s journal
  pub spelled : IsSpelled s

-- an opening ends so, or is refused
abbrev pub Opens : Result SessionState Refusal → List Event → Type 0
Opens (Ok s) journal = IsReady s journal
Opens (Err why) journal = Unit {0}

-- what is known of a name: of a branch, that it stood so
abbrev Tipped : (may_write : Bool) → At → Result Named Refusal → List Event → Type 0
Tipped may_write at (Ok named) journal = IsTip journal named.id (tip_in (origin_named may_write at named.version))
Tipped may_write at (Err why) journal = Unit {0}

-- what is so of each answer
pub leads-any : {A : Type 0} (Q : A → List Event → Type 0) → ((a : A) (h : List Event) → Q a h) → (by : Caller) (p : Prog A) (journal : List Event) → Leads Q by p journal
unfolding Leads
leads-any Q all by (Done a) journal = all a journal
leads-any Q all by (Ask op k) journal = λ reply new m. leads-any Q all by (k reply) new

tag-tipped : (may_write : Bool) (name : List ℕ) (r : Result Named Refusal) (h : List Event) → Tipped may_write (At.Tag name) r h
tag-tipped may_write name (Ok named) h = tt
tag-tipped may_write name (Err why) h = tt

id-tipped : (may_write : Bool) (id : Id12) (r : Result Named Refusal) (h : List Event) → Tipped may_write (At.Snapshot id) r h
id-tipped may_write id (Ok named) h = tt
id-tipped may_write id (Err why) h = tt

module _ (by : Caller) (may_write : Bool) where
  branch-tipped : (name bytes : List ℕ) (version : Version) (id : Id12) (h : List Event) (b : Bool) → StoodAt h (Branch name) version.0 bytes → ref_of bytes ≡ Some id → Tipped b (At.Branch name) (Ok (record { id = id; version = Some version })) h
  branch-tipped name bytes version id h true s e = record { bytes = bytes; stood = s; names = e }
  branch-tipped name bytes version id h false s e = record { bytes = bytes; stood = s; names = e }

  branch-read : (name bytes : List ℕ) (version : Version) (h : List Event) → StoodAt h (Branch name) version.0 bytes → (r : Result Id12 Bad) → read_ref bytes ≡ r → Leads (Tipped may_write (At.Branch name)) by (on_answer branch_named (resolved_at version (at_key (Branch name) r))) h
  unfolding Leads
  branch-read name bytes version h s (Ok id) e = branch-tipped name bytes version id h may_write s (ap result_ok e)
  branch-read name bytes version h s (Err bad) e = tt

  branch-told : (name : List ℕ) (reply : Reply) (old new : List Event) → Makes by (Get (Branch name)) reply old new → Leads (Tipped may_write (At.Branch name)) by (on_answer branch_named (ref_told name reply)) new
  unfolding Leads
  branch-told name reply old new m = got-cases by old new (λ r. Leads (Tipped may_write (At.Branch name)) by (on_answer branch_named (ref_told name r)) new) (Branch name)
      (λ bytes version now n. branch-read name bytes version new (get-had by (Branch name) bytes version now old new n).stood (read_ref bytes) refl)
      (λ now n. tt)
      (λ done n. tt)
      reply m

  naming-tips : (at : At) (journal : List Event) → Leads (Tipped may_write at) by (resolve_at_program at) journal
  unfolding Leads
  naming-tips (At.Branch name) journal = λ reply new m. branch-told name reply journal new m
  naming-tips (At.Tag name) journal = leads-any (Tipped may_write (At.Tag name)) (tag-tipped may_write name) by (resolve_at_program (At.Tag name)) journal
  naming-tips (At.Snapshot id) journal = id-tipped may_write id (Ok (alone id)) journal

module _ (L : Spellings) (by : Caller) (a : Asked) where
  at-base : (named : Named) (bytes : List ℕ) (version : ℕ) (journal : List Event) → IsTip journal named.id (tip_in (origin_for a named)) → Had journal (Snapshot named.id) bytes version
      → (r : Result SnapshotFile Bad) → read_snapshot named.id bytes ≡ r → Leads Opens by (after_base a named (at_key (Snapshot named.id) r)) journal
  unfolding Leads
  at-base named bytes version journal t h (Err bad) e = tt
  at-base named bytes version journal t h (Ok snap) e =
      let proper = L.snap.read named.id bytes snap (ap result_ok e) in
      record {
        opened = record {
          named = t;
          put = h.put;
          had = record { version = version; bytes = bytes; stood = h.stood; snap = snap; read = ap result_ok e; rows_are = refl };
          rows = λ once. ap (λ (o : Option (List ℕ)). option_map (λ (s : SnapshotFile). s.nodes) (snap_in named.id o)) h.last ∙ ap (λ (r : Result SnapshotFile Bad). option_map (λ (s : SnapshotFile). s.nodes) (result_ok r)) e;
          objects = λ node i id offset size k. cc;
          chunks = λ once node i place k. cc;
        };
        spelled = record {
          base = subst IsId12 (L.snap.own named.id bytes snap (ap result_ok e)) proper.sized.id;
          of_snapshot = record { file = snap; proper = proper; rows = refl; files = refl };
          added = λ p m f. let none = get-empty {X = Node} path_cmp p in absurd cc;
          texts = λ id text e. cc;
          frozen = λ id text e. cc;
          free = λ p m n f. let none = get-empty {X = Node} path_cmp p in absurd cc;
          chunks = λ node i entry k. cc;
          props = none_are;
          few = begun-few snap.nodes proper.writable.few;
        };
      }

  refused-opens : (named : Named) (why : Refusal) (journal : List Event) → Leads Opens by (after_base a named (Err why)) journal
  unfolding Leads
  refused-opens named why journal = tt

  absent-opens : (named : Named) (at : At) (now : ℕ) (journal : List Event) → Leads Opens by (after_base a named (base_told at named.id (Is_got (Absent now)))) journal
  absent-opens named (At.Branch name) now journal = refused-opens named (Missing (Snapshot named.id)) journal
  absent-opens named (At.Tag name) now journal = refused-opens named (Missing (Snapshot named.id)) journal
  absent-opens named (At.Snapshot own) now journal = refused-opens named NoRef journal

  told-opens : (named : Named) (told r : Result SnapshotFile Refusal) (journal : List Event) → told ≡ r → Leads Opens by (after_base a named r) journal → Leads Opens by (after_base a named told) journal
  told-opens named told r journal e l = subst (λ (x : Result SnapshotFile Refusal). Leads Opens by (after_base a named x) journal) (sym e) l

  base-opens : (named : Named) (reply : Reply) (old new : List Event) → IsTip old named.id (tip_in (origin_for a named)) → Makes by (Get (Snapshot named.id)) reply old new → Leads Opens by (after_base a named (base_told a.at named.id reply)) new
  base-opens named reply old new t m = got-cases by old new (λ r. Leads Opens by (after_base a named (base_told a.at named.id r)) new) (Snapshot named.id)
      (λ bytes version now n.
      let t' = makes-keeps (λ h. IsTip h named.id (tip_in (origin_for a named))) (λ h more g. IsTip-append h more named.id (tip_in (origin_for a named))) by (Get (Snapshot named.id)) (Is_got (Found bytes version now)) old new tt n t in
      told-opens named (base_told a.at named.id (Is_got (Found bytes version now))) (at_key (Snapshot named.id) (read_snapshot named.id bytes)) new (base-found a.at named.id bytes version now (read_snapshot named.id bytes) refl)
      (at-base named bytes version.0 new t' (get-had by (Snapshot named.id) bytes version now old new n) (read_snapshot named.id bytes) refl))
      (λ now n. absent-opens named a.at now new)
      (λ done n. told-opens named (base_told a.at named.id (Failed done)) (Err StoreFault) new (base-failed a.at named.id done) (refused-opens named StoreFault new))
      reply m

  named-opens : (r : Result Named Refusal) (journal : List Event) → Tipped a.writes a.at r journal → Leads Opens by (on_answer (base_program a) r) journal
  unfolding Leads
  named-opens (Ok named) journal t = λ reply new m. base-opens named reply journal new t m
  named-opens (Err why) journal t = tt

  -- an opening ends with a session that is ready, or is refused
  pub open-leads : (journal : List Event) → Leads Opens by (open_program a) journal
  open-leads journal = Leads-bind (Tipped a.writes a.at) Opens by (resolve_at_program a.at) (on_answer (base_program a)) journal (naming-tips by a.writes a.at journal) named-opens

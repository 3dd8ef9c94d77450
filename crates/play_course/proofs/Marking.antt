-- What the marking of a collection answers in a run over an empty store: no file that it gets can't be read.
use Rattle.std.proofs.Common.{◌≡◌, inl, inr, ℕ, zero, suc, Bool, true, false, cond, List, [], ◌∷◌, ◌++◌, refl, sym, ◌∙◌, ap, subst, arith}
use Rattle.std.specs.Prelude.{Contains, Option, Some, None, option_map, nat_lt, Result, Ok, Err}
use Rattle.std.specs.Ordering.{is_eq, is_lt}
use Rattle.std.specs.declared.cmp.Ordering.{Ordering}
use Rattle.std.specs.declared.cmp.Ordering.TheVariants.{Less, Equal, Greater}
use Rattle.ice_ids.specs.declared.Id12.{Id12}
use Rattle.ice_ids.specs.declared.drawing.AnyIds.{AnyIds}
use Rattle.flat_tables.specs.Rows.{Ascends}
use Rattle.zarr_path.specs.Paths.{path_cmp, same_path}
use Rattle.zarr_path.proofs.OrderLaws.{total, same_path-refl}
use Rattle.manifest_file.specs.declared.manifest.ManifestFile.{ManifestFile}
use Rattle.snapshot_file.specs.declared.nodes.NodeRow.{NodeRow}
use Rattle.snapshot_file.specs.declared.snapshot.SnapshotFile.{SnapshotFile}
use Rattle.snapshot_file.specs.Snapshots.{node_key}
use Rattle.repo_objects.specs.declared.bad_objects.Bad.{Bad}
use Rattle.repo_objects.specs.Laws.{SnapshotLaw}
use Rattle.repo_objects.specs.Readings.{read_snapshot, snapshot_by, read_manifest, read_ref}
use Rattle.repo_objects.specs.Trees.{NamesManifest, manifest_put, row_at}
use Rattle.object_store.specs.declared.keys.Key.{Key}
use Rattle.object_store.specs.declared.keys.Key.TheVariants.{Snapshot, Manifest}
use Rattle.object_store.specs.declared.keys.Part.{Part}
use Rattle.object_store.specs.declared.keys.Part.TheVariants.{Snapshots, Manifests, Txns, Chunks, Branches, Tags, Leases}
use Rattle.object_store.specs.declared.events.Op.TheVariants.{Get, List as ListPart}
use Rattle.object_store.specs.declared.events.Listed.{Listed}
use Rattle.object_store.specs.declared.events.Reply.{Reply}
use Rattle.object_store.specs.declared.events.Reply.TheVariants.{Got as Is_got, New as Is_new, Over as Is_over, Gone as Is_gone, GoneAt as Is_gone_at, Listed as Is_listed, Failed}
use Rattle.object_store.specs.declared.events.Event.{Event}
use Rattle.object_store.specs.Machine.{Stored, found}
use Rattle.object_store.proofs.Slots.{sound}
use Rattle.object_store.proofs.Journals.{Each-one}
use Rattle.store_api.specs.declared.machines.Refusal.{Refusal}
use Rattle.store_api.specs.declared.machines.Refusal.TheVariants as R
use Rattle.store_api.specs.Journal.{Each, IsGood, IsOnce, WasPut, puts_of, rows_of, snap_in}
use Rattle.store_api.specs.Program.{Done}
use Rattle.store_api.specs.Running.{on_answer}
use Rattle.commit_path.proofs.Putting.{puts-kept}
use Rattle.commit_path.proofs.Readable.{some_of}
use Rattle.repo_read.specs.Answers.{at_key}
use Rattle.repository.specs.Refs.{live}
use Rattle.repo_objects.specs.Lines.{enter_rows}
use Rattle.chunk_gc.specs.Told.{first_told, listed_told, ref_got, unless_passed, snapshot_got, manifest_got}
use Rattle.chunk_gc.specs.Told as tells
use Rattle.chunk_gc.specs.Programs.{Work, Answer, no_work, asks, with_ref, with_lease, get_refs, with_file, leaving_files, get_files, with_snapshot, leaving_snapshots, mark_got, mark_last, mark_next, mark, mark_leased, begin_leased, sweeping, list_objects, told_doomed, list_chunks, list_manifests, list_logs, list_snapshots, marking, list_leases, list_tags, mark_program}
use Rattle.repo_objects.proofs.Entering.{enters-rows}
use Rattle.ice_ids.proofs.Elements.{none-in, first-is, later-is}
use Rattle.play_course.specs.Refusing.{is_strange}
use Rattle.play_course.proofs.Tidy.{Client, stands-readable}
use Rattle.play_course.proofs.Meeting.{was-read, Meets, done-meets, ask-meets, got-meets, replied}
use Rattle.play_course.proofs.Knowing.{IsKept, OfOthers, OfOwn, beside, good-others, kept-next, kept-others, missing-plain}
use Rattle.play_course.proofs.Holding.{put-reads}
use Rattle.play_course.proofs.Edges.{AllNamedKeys, AllRefs, IsRefs, all-entries, live-refs, named-at, named-in}

-- ---- rows of snapshots
less : (o : Ordering) → is_lt o ≡ true → o ≡ Less
less Less h = refl
less Equal h = cc
less Greater h = cc

is-below : (path : List ℕ) (rows : List NodeRow) → Ascends node_key (Some path) rows → (row : NodeRow) → Contains rows row → path_cmp path row.path ≡ Less
is-below path [] ascend row c = absurd (none-in row c)
is-below path (x ∷ xs) ascend row (zero, l, e) = subst (λ (r : NodeRow). path_cmp path r.path ≡ Less) e (less (path_cmp path x.path) ascend.0)
is-below path (x ∷ xs) ascend row (suc k, l, e) = total.trans path x.path row.path (less (path_cmp path x.path) ascend.0) (is-below x.path xs ascend.1 row (k, omega (arith, l), e))

-- rows in order stand at their paths
row-here : (before : Option (List ℕ)) (rows : List NodeRow) → Ascends node_key before rows → (row : NodeRow) → Contains rows row → row_at rows row.path ≡ Some row
row-here before [] ascend row c = absurd (none-in row c)
row-here before (x ∷ xs) ascend row (zero, l, e) =
    subst (λ (r : NodeRow). row_at (x ∷ xs) r.path ≡ Some r) e (ap (λ (b : Bool). cond b (Some x) (row_at xs x.path)) (same_path-refl x.path))
row-here before (x ∷ xs) ascend row (suc k, l, e) =
    let later : Contains xs row = (k, omega (arith, l), e) in
    let apart : same_path x.path row.path ≡ false = ap is_eq (is-below x.path xs ascend.1 row later) in
    ap (λ (b : Bool). cond b (Some x) (row_at xs row.path)) apart ∙ row-here (Some x.path) xs ascend.1 row later

-- ---- manifests
-- a readable manifest was put under this id
abbrev IsPut : List Event → Id12 → Type 0
IsPut journal id = (m : ManifestFile) × (manifest_put (puts_of journal) id ≡ Some m)

abbrev ArePut : List Id12 → List Event → Type 0
ArePut all journal = (id : Id12) → Contains all id → IsPut journal id

put-on : (journal more : List Event) (all : List Id12) → Each IsGood journal more → IsOnce (journal ++ more) → ArePut all journal → ArePut all (journal ++ more)
put-on journal more all good once put id c = let m = put id c in (m.0, (puts-kept journal more good once).manifests id m.0 m.1)

-- the manifests of a snapshot that stands were put
named-put : (client : Client) → SnapshotLaw → (id : Id12) (journal : List Event) (st : Stored) (snap : SnapshotFile) → IsKept client journal → found journal (Snapshot id) ≡ Some st → snapshot_by id st.bytes ≡ Some snap → (manifest : Id12) → NamesManifest snap.nodes manifest → IsPut journal manifest
named-put client law id journal st snap k at read manifest n =
    let slot = sound journal (Snapshot id) in
    let put : WasPut journal (Snapshot id) = slot.first st at in
    let rows : rows_of journal id ≡ Some snap.nodes = ap (λ (o : Option (List ℕ)). option_map (λ (x : SnapshotFile). x.nodes) (snap_in id o)) (slot.last st at) ∙ ap (option_map (λ (x : SnapshotFile). x.nodes)) read in
    let tree = k.so_far.trees id put in
    let same : tree.rows ≡ snap.nodes = some-same tree.rows snap.nodes (sym tree.is ∙ rows) in
    let here : row_at snap.nodes n.row.path ≡ Some n.row = row-here None snap.nodes (law.read id st.bytes snap read).writable.nodes n.row n.among in
    let there : row_at tree.rows n.row.path ≡ Some n.row = ap (λ (rs : List NodeRow). row_at rs n.row.path) same ∙ here in
    subst (IsPut journal) n.is (some_of (manifest_put (puts_of journal) n.manifest.id) (tree.has.readable.manifests n.row.path n.row n.manifest there n.named))
  where
    some-same : (a b : List NodeRow) → Some a ≡ Some b → a ≡ b
    some-same a b e = cc

module _ (client : Client) (ids : AnyIds) (law : SnapshotLaw) (collects : client.collects ≡ true) where
  -- it is refused as it may be
  abbrev pub MarksWell : Result (List Key) Refusal → List Event → Type 0
  MarksWell (Ok keys) h = Unit {0}
  MarksWell (Err why) h = is_strange client.collects why ≡ false

  abbrev Well : Answer → List Event → Type 0
  Well p h = Meets MarksWell (beside client ids) p h

  refused : (why : Refusal) (h : List Event) → is_strange client.collects why ≡ false → Well (Done (Err why)) h
  refused why h plain = done-meets MarksWell (beside client ids) (Err why) h plain

  -- what isn't there may be missing
  missing : (key : Key) (h : List Event) → Well (Done (Err (R.Missing key))) h
  missing key h = refused (R.Missing key) h (missing-plain client.collects key (λ none. let both = sym collects ∙ none in absurd cc))

  -- or is passed over
  absent-meets : {A : Type 0} (passes : Bool) (rest : Option A → Answer) (key : Key) (h : List Event) → Well (rest None) h → Well (on_answer rest (unless_passed passes (Err (R.Missing key)))) h
  absent-meets true rest key h go = go
  absent-meets false rest key h go = missing key h

  kept-behind : (journal more : List Event) (event : Event) → Each (OfOthers client ids) journal more → OfOwn client ids (journal ++ more) event → IsKept client journal → IsKept client ((journal ++ more) ++ event ∷ [])
  kept-behind journal more event others own k = kept-next client (journal ++ more) event own.tidy own.after (kept-others client ids journal more others k)

  put-others : (journal more : List Event) (all : List Id12) → Each (OfOthers client ids) journal more → IsKept client journal → ArePut all journal → ArePut all (journal ++ more)
  put-others journal more all others k put = put-on journal more all (good-others client ids journal more others) (kept-others client ids journal more others k).so_far.once put

  put-own : (journal : List Event) (event : Event) (all : List Id12) → OfOwn client ids journal event → ArePut all journal → ArePut all (journal ++ event ∷ [])
  put-own journal event all own put = put-on journal (event ∷ []) all (Each-one IsGood journal event own.tidy.good) own.after.once put

  -- ---- listings of objects
  -- it goes on well, wherever it comes
  abbrev AlwaysWell : (Work → Answer) → Type 0
  AlwaysWell next = (w : Work) (h : List Event) → Well (next w) h

  told-listed : (next : Listed → Answer) → ((l : Listed) (h : List Event) → Well (next l) h) → (reply : Reply) (h : List Event) → Well (on_answer next (listed_told reply)) h
  told-listed next go (Is_listed l) h = go l h
  told-listed next go (Is_got x) h = refused R.StoreFault h refl
  told-listed next go (Is_new x) h = refused R.StoreFault h refl
  told-listed next go (Is_over x) h = refused R.StoreFault h refl
  told-listed next go (Is_gone x) h = refused R.StoreFault h refl
  told-listed next go (Is_gone_at x) h = refused R.StoreFault h refl
  told-listed next go (Failed done) h = refused R.StoreFault h refl

  objects-meet : (part : Part) (next : Work → Answer) → AlwaysWell next → AlwaysWell (list_objects part next)
  objects-meet part next go w journal =
      ask-meets MarksWell (beside client ids) (ListPart part) (λ reply. on_answer (λ (l : Listed). next (sweeping l.entries w)) (listed_told reply)) journal
      (λ more event others own is. told-listed (λ (l : Listed). next (sweeping l.entries w)) (λ l h. go (sweeping l.entries w) h) event.reply ((journal ++ more) ++ event ∷ []))

  doomed-meets : AlwaysWell told_doomed
  doomed-meets w journal = done-meets MarksWell (beside client ids) (Ok w.doomed) journal tt

  lists-meet : AlwaysWell list_snapshots
  lists-meet = objects-meet Snapshots list_logs (objects-meet Txns list_manifests (objects-meet Manifests list_chunks (objects-meet Chunks told_doomed doomed-meets)))

  -- ---- manifests
  -- it goes on well where no manifest is left to get
  abbrev GoesOn : (Work → Answer) → Type 0
  GoesOn next = (w : Work) (h : List Event) → w.files.todo ≡ [] → IsKept client h → Well (next w) h

  files-meet : (todo : List Id12) (w : Work) (next : Work → Answer) (journal : List Event) → w.files.todo ≡ todo → ArePut todo journal → IsKept client journal → GoesOn next → Well (get_files todo w next) journal
  unfolding get_files
  files-meet [] w next journal none put k go = go w journal none k
  files-meet (id ∷ todo) w next journal is put k go =
      let rest = λ (m : Option ManifestFile). get_files todo (with_file m (leaving_files todo w)) next in
      ask-meets MarksWell (beside client ids) (Get (Manifest id)) (λ reply. on_answer rest (manifest_got w.passes id reply)) journal (λ more event others own op_is.
      let after : List Event = (journal ++ more) ++ event ∷ [] in
      let mid : ArePut (id ∷ todo) (journal ++ more) = put-others journal more (id ∷ todo) others k put in
      let file = mid id (first-is id todo) in
      let behind : (m : Option ManifestFile) → Well (rest m) after = λ m. files-meet todo (with_file m (leaving_files todo w)) next after refl (put-own (journal ++ more) event todo own (λ q c. mid q (later-is id q todo c))) (kept-behind journal more event others own k) go in
      let stands = put-reads client.collects (journal ++ more) id file.0 (kept-others client ids journal more others k).so_far file.1 in
      got-meets MarksWell (beside client ids) (λ reply. on_answer rest (manifest_got w.passes id reply)) (journal ++ more) event own.tidy.good after (Manifest id) op_is
      (λ st at.
      subst (λ (r : Result ManifestFile Bad). Well (on_answer rest (tells.some_of (at_key (Manifest id) r))) after) (sym (was-read (read_manifest id st.bytes) stands.file (stands.read st at)))
      (behind (Some stands.file)))
      (λ gone. absent-meets w.passes rest (Manifest id) after (behind None))
      (λ done. refused R.StoreFault after refl))

  -- ---- snapshots
  -- the manifests that a snapshot names, where none was left to get
  entered-put : (w : Work) (snap : SnapshotFile) (journal : List Event) → w.files.todo ≡ [] → ((manifest : Id12) → NamesManifest snap.nodes manifest → IsPut journal manifest) → ArePut (enter_rows snap.nodes w.files).todo journal
  entered-put w snap journal none named id c = elim ((enters-rows snap.nodes w.files).inside id c) [
    | inl before ↦ absurd (none-in id (subst (λ (all : List Id12). Contains all id) none before))
    | inr n ↦ named id n
  ]

  -- a snapshot that is found, and the marking behind it
  next-meets : (end again : Work → Answer) → GoesOn end → GoesOn again → (todo : List Id12) (w : Work) (journal : List Event) → w.files.todo ≡ [] → IsKept client journal → Well (mark_next end again todo w) journal
  unfolding mark_next
  next-meets end again ends go [] w journal none k = ends w journal none k
  next-meets end again ends go (id ∷ todo) w journal none k =
      let v : Work = leaving_snapshots todo w in
      let rest = mark_got id again (mark_next end again todo v) v in
      ask-meets MarksWell (beside client ids) (Get (Snapshot id)) (λ reply. on_answer rest (snapshot_got w.passes id reply)) journal (λ more event others own op_is.
      let mid = kept-others client ids journal more others k in
      let after : List Event = (journal ++ more) ++ event ∷ [] in
      got-meets MarksWell (beside client ids) (λ reply. on_answer rest (snapshot_got w.passes id reply)) (journal ++ more) event own.tidy.good after (Snapshot id) op_is
      (λ st at.
      let can = stands-readable id (journal ++ more) st mid.tidy at in
      let x : Work = with_snapshot id can.0 v in
      let put : ArePut x.files.todo (journal ++ more) = entered-put v can.0 (journal ++ more) none (named-put client law id (journal ++ more) st can.0 mid at can.1) in
      subst (λ (r : Result SnapshotFile Bad). Well (on_answer rest (tells.some_of (at_key (Snapshot id) r))) after) (sym (was-read (read_snapshot id st.bytes) can.0 can.1))
      (files-meet x.files.todo x again after refl (put-own (journal ++ more) event x.files.todo own put) (kept-behind journal more event others own k) go))
      (λ gone. absent-meets w.passes rest (Snapshot id) after (next-meets end again ends go todo v after none (kept-behind journal more event others own k)))
      (λ done. refused R.StoreFault after refl))

  last-meets : (end : Work → Answer) → GoesOn end → (todo : List Id12) (w : Work) (journal : List Event) → w.files.todo ≡ [] → IsKept client journal → Well (mark_last end todo w) journal
  last-meets end ends [] w journal none k = ends w journal none k
  last-meets end ends (id ∷ todo) w journal none k = refused R.TooDeep journal refl

  mark-meets : (left : ℕ) (end : ℕ → Work → Answer) → ((n : ℕ) → GoesOn (end n)) → (w : Work) (journal : List Event) → w.files.todo ≡ [] → IsKept client journal → Well (mark left end w) journal
  unfolding mark
  mark-meets zero end ends w journal none k = last-meets (end zero) (ends zero) w.snapshots.todo w journal none k
  mark-meets (suc left) end ends w journal none k = next-meets (end (suc left)) (λ v. mark left end v) (ends (suc left)) (λ v h empty kept. mark-meets left end ends v h empty kept) w.snapshots.todo w journal none k

  leased-meets : (left : ℕ) → GoesOn (mark_leased left)
  leased-meets left w journal none k = mark-meets left (λ n v. list_snapshots v) (λ n v h empty kept. lists-meet v h) w journal none k

  marking-meets : (passes : Bool) (left : ℕ) → GoesOn (marking passes left)
  marking-meets true left w journal none k = leased-meets left w journal none k
  marking-meets false left w journal none k = mark-meets left (λ n v. mark_leased n (begin_leased v)) (λ n v h empty kept. leased-meets n (begin_leased v) h empty kept) w journal none k

  -- ---- refs and leases
  refs-meet : (add : Option Id12 → Work → Work) → ((id : Option Id12) (w : Work) → (add id w).files.todo ≡ w.files.todo) → (keys : List Key) (w : Work) (next : Work → Answer) (journal : List Event) → AllRefs keys → w.files.todo ≡ [] → IsKept client journal → GoesOn next → Well (get_refs add keys w next) journal
  unfolding get_refs
  refs-meet add same [] w next journal refs none k go = go w journal none k
  refs-meet add same (key ∷ keys) w next journal refs none k go =
      let rest = λ (id : Option Id12). get_refs add keys (add id w) next in
      ask-meets MarksWell (beside client ids) (Get key) (λ reply. on_answer rest (ref_got key reply)) journal (λ more event others own op_is.
      let mid = kept-others client ids journal more others k in
      let after : List Event = (journal ++ more) ++ event ∷ [] in
      let behind : (id : Option Id12) → Well (rest id) after = λ id. refs-meet add same keys (add id w) next after refs.1 (same id w ∙ none) (kept-behind journal more event others own k) go in
      got-meets MarksWell (beside client ids) (λ reply. on_answer rest (ref_got key reply)) (journal ++ more) event own.tidy.good after key op_is
      (λ st at.
      let n = named-at key (journal ++ more) st refs.0 mid.tidy at in
      subst (λ (r : Result Id12 Bad). Well (on_answer rest (tells.some_of (at_key key r))) after) (sym (was-read (read_ref st.bytes) n.id n.reference)) (behind (Some n.id)))
      (λ gone. behind None)
      (λ done. refused R.StoreFault after refl))

  -- ---- listings of refs
  part-meets : (part : Part) (told : Reply → Result Listed Refusal) (next : Listed → Answer) (journal : List Event) → IsRefs part → IsKept client journal → ((l : Listed) (h : List Event) → AllNamedKeys l.entries → IsKept client h → Well (on_answer next (told (Is_listed l))) h)
      → ((done : Bool) (h : List Event) → Well (on_answer next (told (Failed done))) h) → Well (asks (ListPart part) told next) journal
  part-meets part told next journal refs k go failed =
      ask-meets MarksWell (beside client ids) (ListPart part) (λ reply. on_answer next (told reply)) journal (λ more event others own is.
      let after : List Event = (journal ++ more) ++ event ∷ [] in
      elim (replied (journal ++ more) event (ListPart part) own.tidy.good is) [
        | inl h ↦ subst (λ (x : Reply). Well (on_answer next (told x)) after) (sym h.1)
            (go (record { entries = h.0; now = event.time }) after (all-entries h.0 (λ place e at. named-in part e.key refs (h.2.right place e at).part_is)) (kept-behind journal more event others own k))
        | inr f ↦ subst (λ (x : Reply). Well (on_answer next (told x)) after) (sym f.is) (failed f.done after)
      ])

  -- ---- all of it
  leases-meet : (left : ℕ) (w : Work) (journal : List Event) → w.files.todo ≡ [] → IsKept client journal → Well (list_leases left w) journal
  leases-meet left w journal none k =
      part-meets Leases listed_told (λ (l : Listed). get_refs with_lease (live l.entries) w (marking w.passes left)) journal tt k
      (λ l h named kept. refs-meet with_lease (λ id v. refl) (live l.entries) w (marking w.passes left) h (live-refs l.entries named) none kept (marking-meets w.passes left))
      (λ done h. refused R.StoreFault h refl)

  tags-meet : (left : ℕ) (w : Work) (journal : List Event) → w.files.todo ≡ [] → IsKept client journal → Well (list_tags left w) journal
  tags-meet left w journal none k =
      part-meets Tags listed_told (λ (l : Listed). get_refs with_ref (live l.entries) w (list_leases left)) journal tt k
      (λ l h named kept. refs-meet with_ref (λ id v. refl) (live l.entries) w (list_leases left) h (live-refs l.entries named) none kept (λ v j empty at. leases-meet left v j empty at))
      (λ done h. refused R.StoreFault h refl)

  -- behind the listing of branches
  abbrev listed_branches : (most cutoff : ℕ) → Listed → Answer
  listed_branches most cutoff l = get_refs with_ref (live l.entries) (no_work cutoff) (list_tags most)

  timed-meets : (most cutoff : ℕ) (l : Listed) (h : List Event) → AllNamedKeys l.entries → IsKept client h → (ahead : Bool) → Well (on_answer (listed_branches most cutoff) (cond ahead (Err (R.CutoffAhead l.now)) (Ok l))) h
  timed-meets most cutoff l h named kept true = refused (R.CutoffAhead l.now) h refl
  timed-meets most cutoff l h named kept false = refs-meet with_ref (λ id v. refl) (live l.entries) (no_work cutoff) (list_tags most) h (live-refs l.entries named) refl kept (λ v j empty at. tags-meet most v j empty at)

  pub marks-meet : (most cutoff : ℕ) (journal : List Event) → IsKept client journal → Meets MarksWell (beside client ids) (mark_program most cutoff) journal
  marks-meet most cutoff journal k =
      part-meets Branches (first_told cutoff) (listed_branches most cutoff) journal tt k (λ l h named kept. timed-meets most cutoff l h named kept (nat_lt l.now cutoff)) (λ done h. refused R.StoreFault h refl)

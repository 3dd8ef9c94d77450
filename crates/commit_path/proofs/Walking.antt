-- Where the arrays that are left take a commit.
use Rattle.std.proofs.Common.{◌≡◌, ℕ, ◌+◌, ◌<◌, ◌≤◌, Bool, true, false, List, [], ◌∷◌, ◌++◌, length, drop, refl, sym, ◌∙◌, ap, subst, arith}
use Rattle.std.specs.Prelude.{nat_lt, if◌then◌else◌, Option, Some, None, Result, Ok, Err}
use Rattle.std.specs.List.{slice_index_or}
use Rattle.std.proofs.lemmas.List.{drop_more, drop_all, length-append}
use Rattle.std.proofs.lemmas.Bool.Decides.{nat_tests}
use Rattle.ice_ids.specs.declared.Id12.{Id12}
use Rattle.ice_ids.specs.declared.drawing.AnyIds.{AnyIds}
use Rattle.ice_ids.specs.Drawing.{drawn12, after12}
use Rattle.flat_tables.specs.declared.header.Kind.TheVariants as kinds
use Rattle.manifest_file.specs.declared.manifest.ArrayRefs.{ArrayRefs}
use Rattle.manifest_file.specs.declared.manifest.ManifestFile.{ManifestFile}
use Rattle.manifest_file.specs.Manifests.{refs_limit}
use Rattle.manifest_file.specs.Layout.{file_bytes}
use Rattle.held_manifest.specs.LookUp.{Listed}
use Rattle.manifest_index.specs.Merging.{merged_array}
use Rattle.snapshot_file.specs.declared.nodes.ManifestRef.{ManifestRef}
use Rattle.txn_file.specs.Layout.{log_file}
use Rattle.zarr_tree.specs.Held.{touched}
use Rattle.zarr_tree.specs.Touched.{is_untouched}
use Rattle.zarr_changes.specs.declared.chunks.ChangedArray.{ChangedArray}
use Rattle.zarr_changes.specs.Sets.{chunks_of, changed_arrays}
use Rattle.changed_snapshot.specs.declared.new_snapshot.NewManifest.{NewManifest}
use Rattle.changed_snapshot.specs.declared.new_snapshot.NewList.{NewList}
use Rattle.changed_snapshot.specs.Rows.{own_manifests}
use Rattle.object_store.specs.declared.keys.Key.TheVariants.{Manifest as Manifest_key, Txn}
use Rattle.object_store.specs.declared.keys.Why.TheVariants.{Set}
use Rattle.object_store.specs.declared.events.Op.TheVariants.{Get, PutNew}
use Rattle.object_store.specs.declared.events.Version.{Version}
use Rattle.object_store.specs.declared.events.New.{New as TheNew}
use Rattle.object_store.specs.declared.events.New.TheVariants.{Done as New_done}
use Rattle.object_store.specs.declared.events.Reply.TheVariants.{New as Is_new}
use Rattle.store_api.specs.declared.machines.Refusal.{Refusal}
use Rattle.store_api.specs.declared.machines.Refusal.TheVariants.{ReadOnly, NothingToCommit, IdsSpent, TooLarge, NoMemory}
use Rattle.store_api.specs.Program.{Done, Ask, bind}
use Rattle.store_api.specs.Running.{Program, on_answer, ◌>>=◌}
use Rattle.repo_read.specs.Answers.{manifest_told}
use Rattle.repo_read.specs.Programs.{manifest_program}
use Rattle.session.specs.Sessions.{SessionState, writes, base_nodes}
use Rattle.commit_path.specs.declared.commit.Commit.{Commit}
use Rattle.commit_path.specs.declared.committing.Committing.TheVariants.{Ended}
use Rattle.commit_path.specs.Arrays.{ArraysState}
use Rattle.commit_path.specs.Committing.{Answer, Written, is_long, manifest_for, new_manifest, with_manifest, after_manifest, put_manifest, write_array, old_program, arrays_program, log_for, after_log, put_log, after_arrays, unwritten, write_all, commit_program, array_behind, manifests_behind, arrays_behind, old_rest, new_behind, written_in, IsDrawn, MayRefuseStart, MayRefuseCommit}
use Rattle.commit_path.specs.inside.Lists.{IsFirst, IsRank, closed_at}
use Rattle.commit_path.specs.inside.Working.{merged_behind, got_behind, MayRefuseOwn}

-- ---- the log
pub log-reaches : (s t : SessionState) (message : List ℕ) (news : List NewList) (id : Id12) (file : List ℕ) → t ≡ record s { ids = after12 s.ids } → drawn12 s.ids ≡ Some id → file ≡ log_file (log_for t id) → is_long (log_file (log_for t id)) ≡ false
    → put_log s message news (drawn12 s.ids) (after12 s.ids) ≡ Ask (PutNew (Txn id) file Set) (after_log t message news id t.ids)
log-reaches s t message news id file same drawn =
    subst (λ (x : SessionState). file ≡ log_file (log_for x id) → is_long (log_file (log_for x id)) ≡ false → put_log s message news (drawn12 s.ids) (after12 s.ids) ≡ Ask (PutNew (Txn id) file Set) (after_log x message news id x.ids)) (sym same) goes
  where
    goes : file ≡ log_file (log_for s id) → is_long (log_file (log_for s id)) ≡ false → put_log s message news (drawn12 s.ids) (after12 s.ids) ≡ Ask (PutNew (Txn id) file Set) (after_log s message news id (after12 s.ids))
    goes made short =
        ap (λ (o : Option Id12). put_log s message news o (after12 s.ids)) drawn
        ∙ (ap (λ (long : Bool). if long then Done (Err (TooLarge kinds.Log)) else Ask (PutNew (Txn id) (log_file (log_for s id)) Set) (after_log s message news id (after12 s.ids))) short
        ∙ ap (λ (f : List ℕ). Ask (PutNew (Txn id) f Set) (after_log s message news id (after12 s.ids))) (sym made))

-- ---- a new manifest
is-few : (n : ℕ) → n ≤ refs_limit → nat_lt refs_limit n ≡ false
is-few n h = grind (arith, nat_tests)

pub manifest-reaches : (s t : SessionState) (message : List ℕ) (news : List NewList) (arrays : List ChangedArray) (rank : ℕ) (refs : ArrayRefs) (id : Id12) (manifest : NewManifest) (file : List ℕ) → IsRank arrays rank → t ≡ record s { ids = after12 s.ids }
    → length refs.refs ≤ refs_limit → drawn12 s.ids ≡ Some id → manifest ≡ new_manifest id rank refs → file ≡ file_bytes (manifest_for id refs) → is_long (file_bytes (manifest_for id refs)) ≡ false
    → merged_behind s message (record { news = news; ids = s.ids }) arrays (Some refs) ≡ Ask (PutNew (Manifest_key manifest.id) file Set) (new_behind t message (record { news = news; ids = t.ids }) arrays manifest)
manifest-reaches s t message news [] rank refs id manifest file r same few drawn info made short = absurd r
manifest-reaches s t message news (a ∷ more) rank refs id manifest file r same few drawn info made short =
    ap (λ (b : Bool). goes (if b then Done (Err (TooLarge kinds.Manifest)) else put_manifest before a refs (drawn12 s.ids))) (is-few (length refs.refs) few)
    ∙ (ap (λ (o : Option Id12). goes (put_manifest before a refs o)) drawn
    ∙ (ap (λ (b : Bool). goes (if b then Done (Err (TooLarge kinds.Manifest)) else Ask (PutNew (Manifest_key id) (file_bytes (manifest_for id refs)) Set) (after_manifest (with_manifest before a refs id) id))) short
    ∙ (ap (λ (m : NewManifest). puts (record s { ids = after12 s.ids }) m (file_bytes (manifest_for id refs))) (ap (λ (k : ℕ). new_manifest id k refs) (sym r) ∙ sym info)
    ∙ (ap (puts (record s { ids = after12 s.ids }) manifest) (sym made)
    ∙ ap (λ (x : SessionState). puts x manifest file) (sym same)))))
  where
    before : Written
    before = record { news = news; ids = s.ids }

    goes : Program Written → Answer
    goes p = (p >>= arrays_program s.rows s.held.chunks more) >>= after_arrays s message

    puts : SessionState → NewManifest → List ℕ → Answer
    puts x m f = Ask (PutNew (Manifest_key m.id) f Set) (new_behind x message (record { news = news; ids = x.ids }) (a ∷ more) m)

-- ---- arrays
-- all arrays are left
pub arrays-begin : (s : SessionState) (message : List ℕ) (w : Written) (arrays : List ChangedArray) → (arrays_program s.rows s.held.chunks arrays w >>= after_arrays s message) ≡ arrays_behind s message w arrays []
unfolding arrays_program
arrays-begin s message w [] = refl
arrays-begin s message w (a ∷ more) = refl

-- the first array has these chunks
pub got-merged : (s : SessionState) (message : List ℕ) (w : Written) (arrays : List ChangedArray) (a : ChangedArray) (got : List Listed) (refs : Option ArrayRefs) → IsFirst arrays a → refs ≡ merged_array a.rank a.node got (chunks_of s.held.chunks a.node)
    → got_behind s message w arrays got ≡ merged_behind s message w arrays refs
got-merged s message w [] a got refs f e = absurd f
got-merged s message w (first ∷ more) a got refs f e =
    ap (merged_behind s message w (first ∷ more)) (sym (subst (λ (x : ChangedArray). refs ≡ merged_array x.rank x.node got (chunks_of s.held.chunks x.node)) f e))

-- the first array has no chunks
pub none-behind : (s : SessionState) (message : List ℕ) (ids : AnyIds) (news : List NewList) (arrays : List ChangedArray) (a : ChangedArray) (after : ArraysState) → IsFirst arrays a → after ≡ closed_at news arrays None
    → merged_behind s message (record { news = news; ids = ids }) arrays None ≡ arrays_behind s message (record { news = after.news; ids = ids }) after.left []
none-behind s message ids news [] a after f e = absurd f
none-behind s message ids news (first ∷ more) a after f e =
    arrays-begin s message (record { news = news ++ record { path = first.path; manifest = None } ∷ []; ids = ids }) more
    ∙ ap (λ (x : ArraysState). arrays_behind s message (record { news = x.news; ids = ids }) x.left []) (sym e)

-- the first array's manifest was put
pub put-behind : (s : SessionState) (message : List ℕ) (ids : AnyIds) (news : List NewList) (arrays : List ChangedArray) (manifest : NewManifest) (version : Version) (now : ℕ) (new : TheNew) (after : ArraysState) → new ≡ New_done version now → after ≡ closed_at news arrays (Some manifest)
    → new_behind s message (record { news = news; ids = ids }) arrays manifest (Is_new new) ≡ arrays_behind s message (record { news = after.news; ids = ids }) after.left []
put-behind s message ids news arrays manifest version now new after done e =
    ap (λ (x : TheNew). new_behind s message (record { news = news; ids = ids }) arrays manifest (Is_new x)) done
    ∙ (by_first arrays
    ∙ ap (λ (x : ArraysState). arrays_behind s message (record { news = x.news; ids = ids }) x.left []) (sym e))
  where
    by_first : (xs : List ChangedArray) → new_behind s message (record { news = news; ids = ids }) xs manifest (Is_new (New_done version now))
        ≡ arrays_behind s message (record { news = (closed_at news xs (Some manifest)).news; ids = ids }) (closed_at news xs (Some manifest)).left []
    by_first [] = arrays-begin s message (record { news = news; ids = ids }) []
    by_first (a ∷ more) = arrays-begin s message (record { news = news ++ record { path = a.path; manifest = Some manifest } ∷ []; ids = ids }) more

-- ---- manifests that are got
-- the next manifest of an array
old-next : (s : SessionState) (message : List ℕ) (w : Written) (a : ChangedArray) (more : List ChangedArray) (got : List Listed) (m : ManifestRef) (left : List ManifestRef)
    → array_behind s message w a more got (m ∷ left) ≡ (manifest_program m.id >>= λ file. array_behind s message w a more (got ++ (m.extents, file) ∷ []) left)
unfolding old_program
old-next s message w a more got m left = λ i. Ask (Get (Manifest_key m.id)) (λ reply. by_told (manifest_told m.id reply) i)
  where
    writes : List Listed → Program Written
    writes old = write_array w a (merged_array a.rank a.node old (chunks_of s.held.chunks a.node))

    by_told : (r : Result ManifestFile Refusal) → bind (bind (bind (on_answer (λ file. old_program left (got ++ (m.extents, file) ∷ [])) r) (on_answer writes)) (on_answer (arrays_program s.rows s.held.chunks more))) (on_answer (after_arrays s message))
        ≡ on_answer (λ file. array_behind s message w a more (got ++ (m.extents, file) ∷ []) left) r
    by_told (Ok file) = refl
    by_told (Err why) = refl

-- the first array has a further manifest
pub turn-more : (s : SessionState) (message : List ℕ) (w : Written) (arrays : List ChangedArray) (a : ChangedArray) (got : List Listed) (ms : List ManifestRef) (k : ℕ) (m : ManifestRef) → IsFirst arrays a → ms ≡ own_manifests s.rows a.path a.node → k ≡ length got → k < length ms → m ≡ slice_index_or ms k m
    → arrays_behind s message w arrays got ≡ old_rest s message w arrays m got
turn-more s message w [] a got ms k m f e n lt is = absurd f
turn-more s message w (first ∷ more) a got ms k m f e n lt is =
    ap (array_behind s message w first more got) next
    ∙ (old-next s message w first more got m (manifests_behind s.rows first (length got + 1))
    ∙ (λ i. manifest_program m.id >>= λ file. array_behind s message w first more (got ++ (m.extents, file) ∷ []) (ap (manifests_behind s.rows first) (sym (length-append got ((m.extents, file) ∷ []))) i)))
  where
    own : ms ≡ own_manifests s.rows first.path first.node
    own = subst (λ (x : ChangedArray). ms ≡ own_manifests s.rows x.path x.node) f e

    next : manifests_behind s.rows first (length got) ≡ m ∷ manifests_behind s.rows first (length got + 1)
    next = subst (λ (j : ℕ). manifests_behind s.rows first j ≡ m ∷ manifests_behind s.rows first (j + 1)) n
        (subst (λ (xs : List ManifestRef). drop k xs ≡ m ∷ drop (k + 1) xs) own (drop_more ms k m lt ∙ ap (λ (x : ManifestRef). x ∷ drop (k + 1) ms) (sym is)))

-- all manifests of the first array were got
pub turn-got : (s : SessionState) (message : List ℕ) (w : Written) (arrays : List ChangedArray) (a : ChangedArray) (got : List Listed) (ms : List ManifestRef) → IsFirst arrays a → ms ≡ own_manifests s.rows a.path a.node → length ms ≤ length got
    → arrays_behind s message w arrays got ≡ got_behind s message w arrays got
unfolding old_program
turn-got s message w [] a got ms f e le = absurd f
turn-got s message w (first ∷ more) a got ms f e le =
    ap (array_behind s message w first more got) (subst (λ (xs : List ManifestRef). drop (length got) xs ≡ []) (subst (λ (x : ChangedArray). ms ≡ own_manifests s.rows x.path x.node) f e) (drop_all (length got) ms le))

-- ---- refusals
pub own_commit : (why : Refusal) → MayRefuseOwn why → MayRefuseCommit why
own_commit IdsSpent m = tt
own_commit (TooLarge kind) m = tt
own_commit NoMemory m = tt
own_commit _ m = absurd m

pub own_start : (why : Refusal) → MayRefuseOwn why → MayRefuseStart why
own_start IdsSpent m = tt
own_start (TooLarge kind) m = tt
own_start NoMemory m = tt
own_start _ m = absurd m

-- ---- the start
pub never-both : {A : Type 0} {b : Bool} → b ≡ true → b ≡ false → A
never-both t f = let no : true ≡ false = sym t ∙ f in absurd (cc)

pub undrawn : (s : SessionState) → IsDrawn s s
undrawn s = record { same = refl; later = record { way = refl; client = refl; left = omega arith } }

pub read-only : (s : SessionState) (message : List ℕ) → writes s ≡ false → commit_program s message ≡ Done (Err ReadOnly)
unfolding commit_program
read-only s message e = ap (λ (b : Bool). if b then (if is_untouched (touched s.held (base_nodes s)) then Done (Err NothingToCommit) else write_all s message) else Done (Err ReadOnly)) e

pub nothing-changed : (s : SessionState) (message : List ℕ) → writes s ≡ true → is_untouched (touched s.held (base_nodes s)) ≡ true → commit_program s message ≡ Done (Err NothingToCommit)
unfolding commit_program
nothing-changed s message e u =
    ap (λ (b : Bool). if b then (if is_untouched (touched s.held (base_nodes s)) then Done (Err NothingToCommit) else write_all s message) else Done (Err ReadOnly)) e
    ∙ ap (λ (b : Bool). if b then Done (Err NothingToCommit) else write_all s message) u

pub begins : (s own : SessionState) (message : List ℕ) (arrays : ArraysState) (xs : List ChangedArray) → own ≡ s → writes s ≡ true → is_untouched (touched s.held (base_nodes s)) ≡ false → arrays.news ≡ [] → arrays.left ≡ xs → xs ≡ changed_arrays s.held (base_nodes s)
    → commit_program s message ≡ arrays_behind own message (record { news = arrays.news; ids = own.ids }) arrays.left []
unfolding commit_program
begins s own message arrays xs same e u n l is =
    ap (λ (b : Bool). if b then (if is_untouched (touched s.held (base_nodes s)) then Done (Err NothingToCommit) else write_all s message) else Done (Err ReadOnly)) e
    ∙ (ap (λ (b : Bool). if b then Done (Err NothingToCommit) else write_all s message) u
    ∙ (arrays-begin s message (unwritten s) (changed_arrays s.held (base_nodes s))
    ∙ (ap (λ (ys : List ChangedArray). arrays_behind s message (unwritten s) ys []) (sym (l ∙ is))
    ∙ (ap (λ (ns : List NewList). arrays_behind s message (record { news = ns; ids = s.ids }) arrays.left []) (sym n)
    ∙ ap (λ (x : SessionState). arrays_behind x message (record { news = arrays.news; ids = x.ids }) arrays.left []) (sym same)))))

-- the arrays so far were written without an operation
pub record GoesOn (old now : Commit) : Type 0 where
  pub ended : now.state ≡ Ended
  pub same : arrays_behind old.session old.message (written_in old) old.arrays.left [] ≡ arrays_behind now.session now.message (written_in now) now.arrays.left []
  pub drawn : IsDrawn old.session now.session
  pub kept_ids : now.session.ids ≡ old.session.ids
  pub message : now.message ≡ old.message
  pub fewer : length now.arrays.left ≤ length old.arrays.left

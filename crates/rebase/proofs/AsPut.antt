-- What a client's own gets of snapshots and logs read is as it was put.
use Rattle.std.proofs.Common.{◌≡◌, ◌≢◌, ◌⊎◌, inl, inr, ℕ, List, [], ◌∷◌, ◌++◌, length, refl, sym, ◌∙◌, ap, subst}
use Rattle.std.specs.Prelude.{Option, Some, None, option_map}
use Rattle.std.specs.Option.{option_and_then}
use Rattle.ice_ids.specs.declared.Id12.{Id12}
use Rattle.ice_ids.specs.Text.{initial_id}
use Rattle.snapshot_file.specs.declared.snapshot.SnapshotFile.{SnapshotFile}
use Rattle.snapshot_file.specs.Initial.{initial_snapshot}
use Rattle.repo_objects.specs.Readings.{snapshot_by, log_by}
use Rattle.repo_objects.specs.Trees.{tree_under}
use Rattle.repo_objects.specs.Laws.{InitialLaw, initial_bytes}
use Rattle.object_store.specs.declared.keys.Key.{Key}
use Rattle.object_store.specs.declared.keys.Key.TheVariants.{Snapshot, Txn}
use Rattle.object_store.specs.declared.events.Version.{Version}
use Rattle.object_store.specs.declared.events.Op.{Op}
use Rattle.object_store.specs.declared.events.Op.TheVariants.{Get}
use Rattle.object_store.specs.declared.events.Got.TheVariants.{Found}
use Rattle.object_store.specs.declared.events.Reply.{Reply}
use Rattle.object_store.specs.declared.events.Reply.TheVariants.{Got as Is_got}
use Rattle.object_store.specs.declared.events.Event.{Event}
use Rattle.object_store.specs.Machine.{Stored, found, last_put, got_of, version_at, IsHonest, UnlessFailed}
use Rattle.store_api.specs.Journal.{Each, WasPut, IsFirst, IsGood, IsGoodJournal, IsOnce, lists_of, log_made, puts_of, rows_of, snap_in, snap_made, tree_of}
use Rattle.store_api.specs.Telling.{WasGot, WasReadAs}
use Rattle.object_store.proofs.Journals.{Each-at, Each-back}
use Rattle.store_api.proofs.Once.{initial-last}
use Rattle.object_store.proofs.Slots.{sound, WasPut-append}
use Rattle.store_api.proofs.Standing.{rows-stay, snap_made-append, log_made-append}
use Rattle.commit_path.proofs.Knowing.{tree-by_rows}
use Rattle.rebase.specs.Along.{Link}
use Rattle.rebase.specs.Telling.{LogWasReadAs}
use Rattle.rebase.proofs.Made.{WasCut, WasCut-append, cut_of, first-put-as, log-first}

-- ---- what a get found
-- these bytes had been put last
record HadLast (journal : List Event) (key : Key) (bytes : List ℕ) : Type 0 where
  put : WasPut journal key
  last : last_put journal key ≡ Some bytes

bytes-got : (b bytes : List ℕ) (v version : Version) (n now : ℕ) → Is_got (Found bytes version now) ≡ Is_got (Found b v n) → b ≡ bytes
bytes-got b bytes v version n now e = cc

got-had : (journal : List Event) (event : Event) (key : Key) (bytes : List ℕ) (version : Version) (now : ℕ) → IsGood journal event → event.op ≡ Get key → event.reply ≡ Is_got (Found bytes version now) → HadLast journal key bytes
got-had journal event key bytes version now good op_is reply_is = by_found (found journal key) refl
  where
    told : Is_got (Found bytes version now) ≡ Is_got (got_of event.time (found journal key))
    told =
        subst (λ (r : Reply). UnlessFailed (IsHonest (found journal) (length journal) event.time (Get key)) r) reply_is
        (subst (λ (op : Op). UnlessFailed (IsHonest (found journal) (length journal) event.time op) event.reply) op_is good.legal.answered)

    by_found : (o : Option Stored) → found journal key ≡ o → HadLast journal key bytes
    by_found (Some s) e =
        let same : Is_got (Found bytes version now) ≡ Is_got (got_of event.time (Some s)) = told ∙ ap (λ (o : Option Stored). Is_got (got_of event.time o)) e in
        let b : s.bytes ≡ bytes = bytes-got s.bytes bytes (version_at s.version) version event.time now same in
        record { put = (sound journal key).first s e; last = (sound journal key).last s e ∙ ap (λ (x : List ℕ). Some x) b }
    by_found None e = let no : Is_got (Found bytes version now) ≡ Is_got (got_of event.time None) = told ∙ ap (λ (o : Option Stored). Is_got (got_of event.time o)) e in absurd cc

-- ---- what was read
-- The snapshot was put and has these rows; it was first put so, or with another parent, and put over since with the initial one as its parent. The
-- initial snapshot is as ever.
pub record WasMade (journal : List Event) (id : Id12) (f : SnapshotFile) : Type 0 where
  pub put : WasPut journal (Snapshot id)
  pub rows : rows_of journal id ≡ Some f.nodes
  pub tree : tree_of journal id ≡ Some (tree_under (puts_of journal) f.nodes)
  pub snap : SnapshotFile
  pub made : snap_made journal id ≡ Some snap
  pub same : (f ≡ snap) ⊎ ((f ≡ cut_of snap) × (id ≢ initial_id) × WasCut journal id)
  pub initial : id ≡ initial_id → f ≡ initial_snapshot

-- the rows are those of the first put
pub made-rows : (journal : List Event) (id : Id12) (f snap : SnapshotFile) → WasMade journal id f → snap_made journal id ≡ Some snap → f.nodes ≡ snap.nodes
made-rows journal id f snap m e =
    let same : m.snap ≡ snap = cc (sym m.made ∙ e) in
    elim m.same [
      | inl h ↦ ap (λ (s : SnapshotFile). s.nodes) (h ∙ same)
      | inr h ↦ ap (λ (s : SnapshotFile). s.nodes) h.0 ∙ ap (λ (s : SnapshotFile). s.nodes) same
    ]

module _ (client : ℕ) (start journal : List Event) (good : IsGoodJournal journal) (once : IsOnce journal) where
  -- the journal before the get and what came since
  record Before (key : Key) (bytes : List ℕ) : Type 0 where
    before : List Event
    more : List Event
    is : journal ≡ before ++ more
    good_then : IsGoodJournal before
    once_then : IsOnce before
    good_since : Each IsGood before more
    once_since : Each IsFirst before more
    had : HadLast before key bytes

  before-got : (key : Key) (bytes : List ℕ) (version : ℕ) → WasGot client key bytes version start journal → Before key bytes
  before-got key bytes version w =
      let g = subst (λ (j : List Event). IsGoodJournal j) w.own.is good in
      let o = subst (λ (j : List Event). IsOnce j) w.own.is once in
      let goods = Each-back IsGood [] w.own.before (w.own.event ∷ w.own.after) g in
      let firsts = Each-back IsFirst [] w.own.before (w.own.event ∷ w.own.after) o in
      record {
        before = w.own.before;
        more = w.own.event ∷ w.own.after;
        is = w.own.is;
        good_then = goods.0;
        once_then = firsts.0;
        good_since = goods.1;
        once_since = firsts.1;
        had = got-had w.own.before w.own.event key bytes (version_at version) w.now (Each-at IsGood [] w.own.before w.own.event w.own.after g) w.own.op_is w.own.reply_is;
      }

  pub snapshot-made : InitialLaw → (id : Id12) (f : SnapshotFile) → WasReadAs client id f start journal → WasMade journal id f
  snapshot-made initial id f r =
      let b = before-got (Snapshot id) r.bytes r.version r.got in
      let first = first-put-as b.before id r.bytes f b.good_then b.once_then b.had.last r.read in
      let whole : b.before ++ b.more ≡ journal = sym b.is in
      let rows : rows_of journal id ≡ Some f.nodes =
      subst (λ (j : List Event). rows_of j id ≡ Some f.nodes) whole
      (rows-stay id b.before b.more b.once_then b.had.put b.good_since b.once_since ∙ ap (λ (o : Option (List ℕ)). option_map (λ (s : SnapshotFile). s.nodes) (snap_in id o)) b.had.last ∙ ap (option_map (λ (s : SnapshotFile). s.nodes)) r.read) in
      record {
        put = subst (λ (j : List Event). WasPut j (Snapshot id)) whole (WasPut-append b.before b.more (Snapshot id) b.had.put);
        rows = rows;
        tree = tree-by_rows journal id f.nodes rows;
        snap = first.snap;
        made = subst (λ (j : List Event). snap_made j id ≡ Some first.snap) whole (snap_made-append b.before b.more id first.snap first.made);
        same = elim first.same [ inl e ↦ inl e | inr c ↦ inr (c.0, c.1, subst (λ (j : List Event). WasCut j id) whole (WasCut-append b.before b.more id c.2)) ];
        initial = λ is. initial-is b is;
      }
    where
      some-same : Some f ≡ Some initial_snapshot → f ≡ initial_snapshot
      some-same e = cc

      bytes-same : (x y : List ℕ) → Some x ≡ Some y → x ≡ y
      bytes-same x y e = cc

      initial-is : Before (Snapshot id) r.bytes → id ≡ initial_id → f ≡ initial_snapshot
      initial-is b is =
          let put : WasPut b.before (Snapshot initial_id) = subst (λ (i : Id12). WasPut b.before (Snapshot i)) is b.had.put in
          let last : last_put b.before (Snapshot initial_id) ≡ Some r.bytes = subst (λ (i : Id12). last_put b.before (Snapshot i) ≡ Some r.bytes) is b.had.last in
          let bytes : r.bytes ≡ initial_bytes = bytes-same r.bytes initial_bytes (sym last ∙ initial-last b.before b.once_then put) in
          some-same (sym r.read ∙ ap (snapshot_by id) bytes ∙ ap (λ (i : Id12). snapshot_by i initial_bytes) is ∙ initial)

  pub log-logged : (l : Link) → LogWasReadAs client l start journal → log_made journal l.file.id ≡ Some l.lists
  log-logged l r =
      let b = before-got (Txn l.file.id) r.bytes r.version r.got in
      let first = (sound b.before (Txn l.file.id)).begun r.bytes b.had.last in
      let is : first.0 ≡ r.bytes = log-first b.before l.file.id b.good_then b.once_then first.0 r.bytes first.1 b.had.last in
      let then : log_made b.before l.file.id ≡ Some r.log.lists =
      ap (λ (o : Option (List ℕ)). option_map lists_of (option_and_then (log_by l.file.id) o)) (first.1 ∙ ap (λ (x : List ℕ). Some x) is) ∙ ap (option_map lists_of) r.read in
      subst (λ (j : List Event). log_made j l.file.id ≡ Some l.lists) (sym b.is) (log_made-append b.before b.more l.file.id l.lists (then ∙ ap (λ x. Some x) (sym r.lists_are)))

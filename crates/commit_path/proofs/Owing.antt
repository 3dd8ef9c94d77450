-- What a commit does is polite and owed, whatever others do.
use Rattle.std.proofs.Common.{◌≡◌, ◌≢◌, inl, inr, ℕ, ◌<◌, ◌^◌, true, false, List, [], ◌∷◌, ◌++◌, refl, sym, ◌∙◌, ap, subst}
use Rattle.std.specs.Prelude.{Option, Some, None, option_map, IfSome}
use Rattle.std.specs.List.{AllZip, AllByRecursion, Contains}
use Rattle.std.proofs.lemmas.List.Elements.{All-contains, All-from_recursion}
use Rattle.std.specs.Option.{option_and_then}
use Rattle.std.specs.Str.{IsUtf8}
use Rattle.ice_ids.specs.declared.Id12.{Id12}
use Rattle.ice_ids.specs.declared.drawing.AnyIds.{AnyIds}
use Rattle.ice_ids.specs.Text.{IsId12, initial_id}
use Rattle.zarr_tree.specs.Trees.{Tree, IsWellFormed}
use Rattle.zarr_tree.specs.Touched.{DiffersIn}
use Rattle.zarr_tree.specs.Held.{touched}
use Rattle.zarr_changes.specs.declared.chunks.ChangedArray.{ChangedArray}
use Rattle.zarr_changes.specs.Sets.{changed_arrays}
use Rattle.snapshot_file.specs.declared.nodes.NodeRow.{NodeRow}
use Rattle.snapshot_file.specs.declared.snapshot.SnapshotFile.{SnapshotFile}
use Rattle.snapshot_file.specs.Initial.{initial_snapshot}
use Rattle.snapshot_file.specs.Layout.{snapshot_bytes}
use Rattle.txn_file.specs.Layout.{log_file}
use Rattle.ref_file.specs.Refs.{ref_bytes}
use Rattle.repo_objects.specs.Readings.{snapshot_by, log_by}
use Rattle.repo_objects.specs.Trees.{Puts, Extends}
use Rattle.repo_objects.specs.Laws.{initial_bytes}
use Rattle.changed_snapshot.specs.declared.new_snapshot.NewManifest.{NewManifest}
use Rattle.changed_snapshot.specs.declared.new_snapshot.NewList.{NewList}
use Rattle.changed_snapshot.specs.Rows.{rows_over}
use Rattle.changed_snapshot.specs.Laws.{AreMerged, IsSized, AreSized}
use Rattle.object_store.specs.declared.keys.Key.TheVariants.{Snapshot, Manifest, Txn, Branch}
use Rattle.object_store.specs.declared.keys.Why.TheVariants.{Set, Commit}
use Rattle.object_store.specs.declared.events.Version.{Version}
use Rattle.object_store.specs.declared.events.Op.{Op}
use Rattle.object_store.specs.declared.events.Op.TheVariants.{Get, PutNew, PutOver, List as ListPart}
use Rattle.object_store.specs.declared.events.New.TheVariants.{Done as New_done}
use Rattle.object_store.specs.declared.events.Reply.TheVariants.{New as Is_new}
use Rattle.object_store.specs.declared.events.Event.{Event}
use Rattle.object_store.specs.Machine.{version_at}
use Rattle.store_api.specs.Journal.{Each, WasPut, puts_of, rows_of, tree_of, snap_in, snap_made, lists_of, log_made, IsOnce, HadParent, ParentPut, ManifestsKnown, IsPolite, IsGood}
use Rattle.store_api.specs.Callers.{Caller, Makes}
use Rattle.object_store.proofs.Slots.{WasPut-append}
use Rattle.store_api.proofs.Standing.{snap_made-append, log_made-append, snap_made-put, IsPolite-append}
use Rattle.session.specs.Sessions.{SessionState, branch_of, version_of, writes, base_nodes, base_tree}
use Rattle.session.specs.Sources.{MayDrawObject}
use Rattle.commit_path.specs.Committing.{Written, log_for, snap_for, is_long}
use Rattle.commit_path.specs.Opened.{IsOpened}
use Rattle.commit_path.specs.Owed.{Sessions, HasOverlay, KeepsReadable, NamesOwn, IsMade, OwesSnap, Owes, IsCareful}
use Rattle.commit_path.specs.Spelled.{IsSpelled}
use Rattle.commit_path.proofs.Putting.{extends-same, extends-more, puts-kept, chunks-extend}
use Rattle.commit_path.proofs.Rewriting.{IsListOf, AreListsOf, rewritten-extends, are-merged, zip-weaker}
use Rattle.commit_path.proofs.Readable.{over-readable}
use Rattle.commit_path.proofs.Spelling.{Spellings, tree-over, log-read, snap-read}
use Rattle.commit_path.proofs.Differing.{snap_tree, differs-over}
use Rattle.store_api.proofs.Telling.{DidPut, put-did}
use Rattle.commit_path.proofs.Knowing.{once-front, tree-by_rows, rows-kept, tip-named}
use Rattle.commit_path.proofs.Having.{IsOwnNew, IsNewFor, AreNewFor, Wrote}

-- ---- what a session knows
-- it has put its log
pub record Logged (s : SessionState) (id : Id12) (journal : List Event) : Type 0 where
  pub put : WasPut journal (Txn id)
  pub made : IsOnce journal → log_made journal id ≡ Some (touched s.held (base_nodes s))

-- it has put its snapshot
pub record Snapped (s : SessionState) (message : List ℕ) (news : List NewList) (flushed : ℕ) (id : Id12) (journal : List Event) : Type 0 where
  pub put : WasPut journal (Snapshot id)
  pub child : HadParent journal id s.base
  pub made : IsOnce journal → snap_made journal id ≡ Some (snap_for s message news id flushed)
  pub rows : IsOnce journal → rows_of journal id ≡ Some (snap_for s message news id flushed).nodes

pub Logged-append : (s : SessionState) (id : Id12) (journal more : List Event) → Each IsGood journal more → Logged s id journal → Logged s id (journal ++ more)
Logged-append s id journal more g l = record { put = WasPut-append journal more (Txn id) l.put; made = λ once. log_made-append journal more id (touched s.held (base_nodes s)) (l.made (once-front journal more once)) }

-- ---- what is made
-- the base has its tree
pub made-base : (s : SessionState) (id : Id12) (journal : List Event) → IsMade s id journal → tree_of journal s.base ≡ Some (base_tree (puts_of journal) s)
made-base s id journal m = tree-by_rows journal s.base s.rows m.base_rows

-- its new lists are what its changes ask for, whatever more is put
pub are-lists : (s : SessionState) (client : ℕ) (start : List Event) (x : Written) (journal : List Event) → Wrote s client start (changed_arrays s.held (base_nodes s)) x journal → IsOnce journal → (puts : Puts) → Extends (puts_of journal) puts
    → AreListsOf puts s.rows s.held.chunks (changed_arrays s.held (base_nodes s)) x.news
are-lists s client start x journal k once puts more =
    zip-weaker (IsNewFor s client start journal) (IsListOf puts s.rows s.held.chunks) (λ a n new. record { path = new.path; list = rewritten-extends (puts_of journal) puts more s.rows s.held.chunks a n.manifest (new.list once) }) (changed_arrays s.held (base_nodes s)) x.news k.lists

pub lists-merged : (s : SessionState) (client : ℕ) (start : List Event) (x : Written) (journal : List Event) → Wrote s client start (changed_arrays s.held (base_nodes s)) x journal → IsOnce journal → (puts : Puts) → Extends (puts_of journal) puts → AreMerged puts s.held s.rows x.news
lists-merged s client start x journal k once puts more = are-merged puts s.held s.rows x.news (are-lists s client start x journal k once puts more)

-- each new manifest is its own
zip-right : {A B : Type 0} (R : A → B → Type 0) (xs : List A) (ys : List B) → AllZip R xs ys → AllByRecursion (λ (y : B). (a : A) × R a y) ys
zip-right R [] [] z = tt
zip-right R [] (y ∷ ys) z = absurd z
zip-right R (a ∷ az) [] z = absurd z
zip-right R (a ∷ az) (y ∷ ys) z = ((a, z.0), zip-right R az ys z.1)

pub new-own : (s : SessionState) (client : ℕ) (start journal : List Event) (arrays : List ChangedArray) (news : List NewList) → AreNewFor s client start arrays news journal → (n : NewList) (m : NewManifest) → Contains news n → n.manifest ≡ Some m → IsOwnNew s client start journal m
new-own s client start journal arrays news z n m c e = (All-contains (λ (y : NewList). (a : ChangedArray) × IsNewFor s client start journal a y) news n (All-from_recursion _ news (zip-right (IsNewFor s client start journal) arrays news z)) c).1.known m e

pub new-sized : (s : SessionState) (client : ℕ) (start journal : List Event) (arrays : List ChangedArray) (news : List NewList) → AreNewFor s client start arrays news journal → AreSized news
new-sized s client start journal [] [] z = tt
new-sized s client start journal [] (y ∷ ys) z = absurd z
new-sized s client start journal (a ∷ az) [] z = absurd z
new-sized s client start journal (a ∷ az) (y ∷ ys) z = (one y.manifest z.0.known, new-sized s client start journal az ys z.1)
  where
    one : (o : Option NewManifest) → ((m : NewManifest) → o ≡ Some m → IsOwnNew s client start journal m) → IfSome o IsSized
    one None k = tt
    one (Some m) k = (k m refl).sized

module _ (L : Spellings) (s : SessionState) (client : ℕ) (start : List Event) (x : Written) where
  abbrev Ready : List Event → Type 0
  Ready journal = Wrote s client start (changed_arrays s.held (base_nodes s)) x journal

  pub has-overlay : (journal : List Event) → Wrote s client start (changed_arrays s.held (base_nodes s)) x journal → IsOnce journal → HasOverlay journal s (rows_over s.held x.news s.rows)
  has-overlay journal k once puts more normal = tree-over L puts s x.news (lists-merged s client start x journal k once puts more) normal

  pub keeps-readable : (journal : List Event) → Wrote s client start (changed_arrays s.held (base_nodes s)) x journal → IsOnce journal → KeepsReadable journal s (rows_over s.held x.news s.rows)
  keeps-readable journal k once puts more normal base =
      over-readable puts s.held x.news s.rows base (chunks-extend (puts_of journal) puts more s.held.chunks (k.opened.chunks once)) (L.frozen.normal puts s.held s.rows normal) (are-lists s client start x journal k once puts more)

  pub names-own : (journal : List Event) → Wrote s client start (changed_arrays s.held (base_nodes s)) x journal → NamesOwn s (rows_over s.held x.news s.rows)
  names-own journal k manifest n = elim (L.own s.held x.news s.rows manifest n) [
    | inl base ↦ inl base
    | inr new ↦ inr (subst (MayDrawObject s.ids) new.is (new-own s client start journal (changed_arrays s.held (base_nodes s)) x.news k.lists new.list new.manifest new.among new.has).drawn)
  ]

  pub made-now : (message : List ℕ) (flushed : ℕ) (id : Id12) (journal : List Event) → Wrote s client start (changed_arrays s.held (base_nodes s)) x journal → Logged s id journal → Snapped s message x.news flushed id journal → IsOnce journal → IsMade s id journal
  made-now message flushed id journal k l p once = record {
    base_put = k.opened.put;
    base_rows = k.opened.rows once;
    snap = snap_for s message x.news id flushed;
    made = p.made once;
    rows = p.rows once;
    parent = refl;
    logged = l.made once;
    tree = has-overlay journal k once;
    own = names-own journal k;
    chunks = k.opened.chunks once;
  }

overlay-kept : (s : SessionState) (rows : List NodeRow) (journal more : List Event) → Each IsGood journal more → IsOnce (journal ++ more) → HasOverlay journal s rows → HasOverlay (journal ++ more) s rows
overlay-kept s rows journal more g once t puts further normal = t puts (extends-more (puts_of journal) (puts_of (journal ++ more)) puts (puts-kept journal more g once) further) normal

readable-kept : (s : SessionState) (rows : List NodeRow) (journal more : List Event) → Each IsGood journal more → IsOnce (journal ++ more) → KeepsReadable journal s rows → KeepsReadable (journal ++ more) s rows
readable-kept s rows journal more g once t puts further normal base = t puts (extends-more (puts_of journal) (puts_of (journal ++ more)) puts (puts-kept journal more g once) further) normal base

pub made-stable : (s : SessionState) (id : Id12) (journal more : List Event) → Each IsGood journal more → (IsOnce journal → IsMade s id journal) → IsOnce (journal ++ more) → IsMade s id (journal ++ more)
made-stable s id journal more g f once =
    let m = f (once-front journal more once) in
    record {
      base_put = WasPut-append journal more (Snapshot s.base) m.base_put;
      base_rows = rows-kept journal more s.base s.rows m.base_put g (λ before. m.base_rows) once;
      snap = m.snap;
      made = snap_made-append journal more id m.snap m.made;
      rows = rows-kept journal more id m.snap.nodes (snap_made-put journal id m.snap m.made) g (λ before. m.rows) once;
      parent = m.parent;
      logged = log_made-append journal more id _ m.logged;
      tree = overlay-kept s m.snap.nodes journal more g once m.tree;
      own = m.own;
      chunks = chunks-extend (puts_of journal) (puts_of (journal ++ more)) (puts-kept journal more g once) s.held.chunks m.chunks;
    }

module _ (L : Spellings) where
  pub log-logged : (s : SessionState) (id : Id12) (journal : List Event) → IsSpelled s → IsId12 id → is_long (log_file (log_for s id)) ≡ false → DidPut journal (Txn id) (log_file (log_for s id)) → Logged s id journal
  log-logged s id journal w i short d = record { put = d.put; made = λ once. ap (λ (o : Option (List ℕ)). option_map lists_of (option_and_then (log_by id) o)) (d.first once) ∙ ap (option_map lists_of) (log-read L s id w i short) }

  module _ (s : SessionState) (message : List ℕ) (news : List NewList) (flushed : ℕ) (id : Id12) (w : IsSpelled s) (sized : AreSized news) (i : IsId12 id) (f : flushed < 2 ^ 64) (m : IsUtf8 message) (short : is_long (snapshot_bytes (snap_for s message news id flushed)) ≡ false) where
    abbrev snap : SnapshotFile
    snap = snap_for s message news id flushed

    pub read : snapshot_by id (snapshot_bytes (snap_for s message news id flushed)) ≡ Some (snap_for s message news id flushed)
    read = snap-read L s message news id flushed w sized i f m short

    pub snap-snapped : (journal : List Event) → DidPut journal (Snapshot id) (snapshot_bytes (snap_for s message news id flushed)) → Snapped s message news flushed id journal
    snap-snapped journal d = record {
      put = d.put;
      child = record { version = d.version; bytes = snapshot_bytes snap; stood = d.stood; snap = snap; read = read; parent_is = refl };
      made = λ once. ap (snap_in id) (d.first once) ∙ read;
      rows = λ once. ap (λ (o : Option SnapshotFile). option_map (λ (x : SnapshotFile). x.nodes) o) (ap (snap_in id) d.last ∙ read);
    }

    -- a snapshot with a parent isn't the initial one
    pub not-initial : (id ≡ initial_id → snapshot_bytes (snap_for s message news id flushed) ≡ initial_bytes) → id ≢ initial_id
    not-initial same e =
        let bytes : snapshot_by initial_id (snapshot_bytes snap) ≡ snapshot_by initial_id initial_bytes = ap (snapshot_by initial_id) (same e) in
        let snaps : ◌≡◌ {A = Option SnapshotFile} (Some snap) (Some initial_snapshot) = sym read ∙ ap (λ (x : Id12). snapshot_by x (snapshot_bytes snap)) e ∙ bytes ∙ L.initial in
        let parents : ◌≡◌ {A = Option (Option Id12)} (Some (Some s.base)) (Some None) = ap (λ (o : Option SnapshotFile). option_map (λ (x : SnapshotFile). x.parent) o) snaps in
        cc

    -- the parent of what is put was put
    parent-put : (journal : List Event) (o : Option SnapshotFile) → IsOpened s journal → o ≡ Some snap → ParentPut journal o
    parent-put journal o opened e = subst (ParentPut journal) (sym e) (λ base k. let same : s.base ≡ base = cc in subst (λ (b : Id12). WasPut journal (Snapshot b)) same opened.put)

    pub snap-did : (by : Caller) (version : Version) (now : ℕ) (old new : List Event) → Makes by (PutNew (Snapshot id) (snapshot_bytes (snap_for s message news id flushed)) Set) (Is_new (New_done version now)) old new → Snapped s message news flushed id new
    snap-did by version now old new n = snap-snapped new (put-did by (Snapshot id) (snapshot_bytes snap) Set version now old new (λ j first free. first.other (not-initial first.initial) free) n)

  module _ (by : Caller) (s : SessionState) (message : List ℕ) (start : List Event) (x : Written) (flushed : ℕ) (id : Id12) (w : IsSpelled s) (i : IsId12 id) (f : flushed < 2 ^ 64) (m : IsUtf8 message) (short : is_long (snapshot_bytes (snap_for s message x.news id flushed)) ≡ false) where
    abbrev Known : List Event → Type 0
    Known journal = Wrote s by.number start (changed_arrays s.held (base_nodes s)) x journal

    known-sized : (journal : List Event) → Known journal → AreSized x.news
    known-sized journal k = new-sized s by.number start journal (changed_arrays s.held (base_nodes s)) x.news k.lists

    -- it names manifests that its base named, and new ones, which were put
    manifests-known : (journal : List Event) (o : Option SnapshotFile) → Known journal → o ≡ Some (snap_for s message x.news id flushed) → ManifestsKnown journal o
    manifests-known journal o k e = subst (ManifestsKnown journal) (sym e) (λ manifest n. elim (L.own s.held x.news s.rows manifest n) [
      | inl base ↦ inr (record { id = s.base; is = refl; rows = s.rows; had = k.opened.had; names = base })
      | inr new ↦ inl (subst (λ (y : Id12). WasPut journal (Manifest y)) new.is (new-own s by.number start journal (changed_arrays s.held (base_nodes s)) x.news k.lists new.list new.manifest new.among new.has).put)
    ])

    pub snap-polite : (journal : List Event) → Wrote s by.number start (changed_arrays s.held (base_nodes s)) x journal → Logged s id journal → IsPolite journal (PutNew (Snapshot id) (snapshot_bytes (snap_for s message x.news id flushed)) Set)
    snap-polite journal k l =
        let bytes = snapshot_bytes (snap_for s message x.news id flushed) in
        let sized = known-sized journal k in
        let e = read s message x.news flushed id w sized i f m short in
        (inr l.put, parent-put s message x.news flushed id w sized i f m short journal (snapshot_by id bytes) k.opened e, manifests-known journal (snapshot_by id bytes) k e)

  module _ (by : Caller) (ids : AnyIds) (mine : Sessions) (s : SessionState) (message : List ℕ) (start : List Event) (x : Written) (id : Id12) (own : (journal : List Event) → mine journal s id) (is_id : IsId12 id) (may : MayDrawObject ids id) (w : IsSpelled s) (m : IsUtf8 message) (logs : is_long (log_file (log_for s id)) ≡ false) where
    abbrev Kept : List Event → Type 0
    Kept journal = Wrote s by.number start (changed_arrays s.held (base_nodes s)) x journal

    pub over-careful : writes s ≡ true → (flushed : ℕ) (journal : List Event) → Wrote s by.number start (changed_arrays s.held (base_nodes s)) x journal → Logged s id journal → Snapped s message x.news flushed id journal → IsCareful ids mine journal by.number (PutOver (Branch (branch_of s)) (ref_bytes id) (version_at (version_of s)) Commit)
    over-careful may_write flushed journal k l p =
        let o = k.opened in
        let tip = tip-named journal s.base s.origin may_write o.named in
        record {
          polite = record {
            names = record { id = id; reference = L.reference.written id is_id; put = p.put };
            cause = inr (
              refl,
              record {
                base = s.base;
                named_by = tip.bytes;
                named = tip.stood;
                names = tip.names;
                base_put = o.put;
                child = p.child;
                log_put = l.put;
                once = λ once. record {
                  snap = snap_for s message x.news id flushed;
                  made = p.made once;
                  parent = refl;
                  log = touched s.held (base_nodes s);
                  logged = l.made once;
                  differs = λ t u et wf eu.
                      let merged = lists-merged s by.number start x journal k once (puts_of journal) (extends-same (puts_of journal)) in
                      let st : Some (base_tree (puts_of journal) s) ≡ Some t = sym (tree-by_rows journal s.base s.rows (o.rows once)) ∙ et in
                      let su : Some (snap_tree (puts_of journal) s x.news) ≡ Some u = sym (tree-by_rows journal id (rows_over s.held x.news s.rows) (p.rows once)) ∙ eu in
                      let t_is : base_tree (puts_of journal) s ≡ t = cc in
                      let u_is : snap_tree (puts_of journal) s x.news ≡ u = cc in
                      subst (λ (y : Tree). DiffersIn (touched s.held (base_nodes s)) y u) t_is
                      (subst (λ (y : Tree). DiffersIn (touched s.held (base_nodes s)) (base_tree (puts_of journal) s) y) u_is
                      (differs-over (puts_of journal) s x.news w merged (subst IsWellFormed (sym t_is) wf)));
                };
              },
            );
          };
          owes = record {
            session = s;
            id = id;
            is_mine = own journal;
            branch_is = refl;
            version_is = refl;
            names = L.reference.written id is_id;
            why_is = refl;
            made = made-now L s by.number start x message flushed id journal k l p;
          };
        }

    pub snap-careful : (flushed : ℕ) (journal : List Event) → flushed < 2 ^ 64 → is_long (snapshot_bytes (snap_for s message x.news id flushed)) ≡ false → Wrote s by.number start (changed_arrays s.held (base_nodes s)) x journal → Logged s id journal
        → IsCareful ids mine journal by.number (PutNew (Snapshot id) (snapshot_bytes (snap_for s message x.news id flushed)) Set)
    snap-careful flushed journal f short k l = record {
      polite = snap-polite by s message start x flushed id w is_id f m short journal k l;
      owes = record {
        session = s;
        is_mine = own journal;
        snap = snap_for s message x.news id flushed;
        read = read s message x.news flushed id w (new-sized s by.number start journal (changed_arrays s.held (base_nodes s)) x.news k.lists) is_id f m short;
        parent = refl;
        tree = has-overlay L s by.number start x journal k;
        readable = keeps-readable L s by.number start x journal k;
        own = names-own L s by.number start x journal k;
        base_put = k.opened.put;
        base_rows = k.opened.rows;
        logged = l.made;
        chunks = k.opened.chunks;
      };
    }

    pub log-careful : (journal : List Event) → IsCareful ids mine journal by.number (PutNew (Txn id) (log_file (log_for s id)) Set)
    log-careful journal = record { polite = tt; owes = may }

-- ---- what is owed stays owed
-- the client's sessions stay its sessions
abbrev pub KeepsMine : Sessions → (journal more : List Event) → Type 0
KeepsMine mine journal more = (s : SessionState) (id : Id12) → mine journal s id → mine (journal ++ more) s id

snap-stable : (mine : Sessions) (journal more : List Event) (id : Id12) (bytes : List ℕ) → KeepsMine mine journal more → Each IsGood journal more → OwesSnap mine journal id bytes → OwesSnap mine (journal ++ more) id bytes
snap-stable mine journal more id bytes keep g o = record {
  session = o.session;
  is_mine = keep o.session id o.is_mine;
  snap = o.snap;
  read = o.read;
  parent = o.parent;
  tree = λ once. overlay-kept o.session o.snap.nodes journal more g once (o.tree (once-front journal more once));
  readable = λ once. readable-kept o.session o.snap.nodes journal more g once (o.readable (once-front journal more once));
  own = o.own;
  base_put = WasPut-append journal more (Snapshot o.session.base) o.base_put;
  base_rows = rows-kept journal more o.session.base o.session.rows o.base_put g o.base_rows;
  logged = λ once. log_made-append journal more id _ (o.logged (once-front journal more once));
  chunks = λ once. chunks-extend (puts_of journal) (puts_of (journal ++ more)) (puts-kept journal more g once) o.session.held.chunks (o.chunks (once-front journal more once));
}

owes-stable : (ids : AnyIds) (mine : Sessions) (journal more : List Event) (op : Op) → KeepsMine mine journal more → Each IsGood journal more → Owes ids mine journal op → Owes ids mine (journal ++ more) op
owes-stable ids mine journal more (Get key) keep g o = tt
owes-stable ids mine journal more (ListPart part) keep g o = tt
owes-stable ids mine journal more (PutNew (Snapshot id) bytes why) keep g o = snap-stable mine journal more id bytes keep g o
owes-stable ids mine journal more (PutNew _ bytes why) keep g o = o
owes-stable ids mine journal more (PutOver (Branch name) bytes old why) keep g o = record {
  session = o.session;
  id = o.id;
  is_mine = keep o.session o.id o.is_mine;
  branch_is = o.branch_is;
  version_is = o.version_is;
  names = o.names;
  why_is = o.why_is;
  made = made-stable o.session o.id journal more g o.made;
}
owes-stable ids mine journal more (PutOver _ bytes old why) keep g o = o
owes-stable ids mine journal more _ keep g o = o

-- what is careful stays careful, whatever good events others make
pub IsCareful-append : (ids : AnyIds) (mine : Sessions) (journal more : List Event) (client : ℕ) (op : Op) → KeepsMine mine journal more → Each IsGood journal more → IsCareful ids mine journal client op → IsCareful ids mine (journal ++ more) client op
IsCareful-append ids mine journal more client op keep g c = record { polite = IsPolite-append journal more op g c.polite; owes = owes-stable ids mine journal more op keep g c.owes }

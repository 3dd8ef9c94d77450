-- What a client owns stays so, and its commits put each object where it put none.
use Rattle.std.proofs.Common.{◌≡◌, ◌≢◌, inl, inr, ℕ, ◌<◌, Bool, true, false, cond, List, [], ◌∷◌, ◌++◌, refl, sym, ◌∙◌, ap, subst, append_assoc, append-nil, arith}
use Rattle.std.specs.Prelude.{◌-◌, nat_lt, nat_eq, length, Option, Some, None, is_none, Result, Ok, Err, IfOk}
use Rattle.std.specs.FinMap.{get}
use Rattle.std.proofs.lemmas.Bool.Decides.{nat_tests}
use Rattle.ice_ids.specs.declared.Id8.{Id8}
use Rattle.ice_ids.specs.declared.Id12.{Id12}
use Rattle.ice_ids.specs.declared.drawing.AnyIds.{AnyIds}
use Rattle.ice_ids.specs.Drawing.{drawn12, after12, after8, left_of}
use Rattle.ice_ids.specs.Sources.{any_source12}
use Rattle.zarr_meta.specs.declared.faults.MetaFault.{MetaFault}
use Rattle.zarr_meta.specs.declared.views.MetaView.{MetaView}
use Rattle.zarr_tree.specs.Nodes.{Node}
use Rattle.zarr_tree.specs.Touched.{is_untouched}
use Rattle.zarr_tree.specs.Held.{Held, HeldEntry, touched}
use Rattle.zarr_changes.specs.declared.chunks.ChangedArray.{ChangedArray}
use Rattle.zarr_changes.specs.Edits.{with_entry, without_entry}
use Rattle.zarr_changes.specs.Edits as held
use Rattle.zarr_changes.specs.Sets.{chunks_of, changed_arrays}
use Rattle.flat_tables.specs.declared.header.Kind.TheVariants as kinds
use Rattle.manifest_file.specs.declared.manifest.Place.{Place}
use Rattle.manifest_file.specs.declared.manifest.Place.TheVariants.{Inline, Object}
use Rattle.manifest_file.specs.declared.manifest.ArrayRefs.{ArrayRefs}
use Rattle.manifest_file.specs.declared.manifest.ManifestFile.{ManifestFile}
use Rattle.manifest_file.specs.Manifests.{refs_limit}
use Rattle.manifest_file.specs.Layout.{file_bytes}
use Rattle.held_manifest.specs.LookUp.{Listed}
use Rattle.manifest_index.specs.Merging.{merged_array}
use Rattle.snapshot_file.specs.declared.nodes.ManifestRef.{ManifestRef}
use Rattle.snapshot_file.specs.declared.nodes.NodeRow.{NodeRow}
use Rattle.snapshot_file.specs.declared.snapshot.SnapshotFile.{SnapshotFile}
use Rattle.snapshot_file.specs.Layout.{snapshot_bytes}
use Rattle.txn_file.specs.Layout.{log_file}
use Rattle.ref_file.specs.Refs.{ref_bytes}
use Rattle.changed_snapshot.specs.declared.new_snapshot.NewList.{NewList}
use Rattle.changed_snapshot.specs.Rows.{own_manifests}
use Rattle.object_store.specs.declared.keys.Key.{Key}
use Rattle.object_store.specs.declared.keys.Key.TheVariants.{Snapshot, Manifest, Txn, Chunk, Branch}
use Rattle.object_store.specs.declared.keys.Why.{Why}
use Rattle.object_store.specs.declared.keys.Why.TheVariants.{Set, Commit}
use Rattle.object_store.specs.declared.events.Version.{Version}
use Rattle.object_store.specs.declared.events.Op.{Op}
use Rattle.object_store.specs.declared.events.Op.TheVariants.{Get, PutNew, PutOver, Remove, RemoveAt, List as ListPart}
use Rattle.object_store.specs.declared.events.New.TheVariants.{Done as New_done, Present}
use Rattle.object_store.specs.declared.events.Over.TheVariants.{Done as Over_done, Moved}
use Rattle.object_store.specs.declared.events.Reply.{Reply}
use Rattle.object_store.specs.declared.events.Reply.TheVariants.{New as Is_new, Over as Is_over, Failed}
use Rattle.object_store.specs.declared.events.Event.{Event}
use Rattle.object_store.specs.Machine.{version_at}
use Rattle.object_store.proofs.Journals.{Each-append, Each-weaker, Each-one, Each-none}
use Rattle.store_api.specs.declared.machines.Refusal.{Refusal}
use Rattle.store_api.specs.declared.machines.Refusal.TheVariants.{ReadOnly, NothingToCommit, IdsSpent, IdTaken, TooLarge, StoreFault, InDoubt}
use Rattle.store_api.specs.Journal.{Each}
use Rattle.store_api.specs.Callers.{Caller, IsOther, Makes, own_event}
use Rattle.store_api.specs.Program.{Prog, Done, Ask, Keeps, Leads}
use Rattle.store_api.specs.Running.{on_answer}
use Rattle.store_api.specs.Telling.{GetsAlone, IsGet, MadeGets}
use Rattle.store_api.proofs.Programs.{Leads-weaker, Leads-bind}
use Rattle.repo_read.specs.declared.resolving.Named.{Named}
use Rattle.repo_read.specs.Answers.{manifest_told}
use Rattle.repo_read.specs.Programs.{manifest_program}
use Rattle.session.specs.Sessions.{SessionState, branch_of, version_of, writes, base_nodes, nodes_seen}
use Rattle.session.specs.Sources.{IsLater}
use Rattle.session.specs.Chunks.{set_program, chunk_unset}
use Rattle.session.specs.Editing.{added, meta_set, node_dropped}
use Rattle.repo_read.specs.Resolving.{resolve_at_program, base_at_program}
use Rattle.session.specs.Opening.{Asked, begun, base_program, open_program}
use Rattle.commit_path.specs.declared.commit.Tried.{Tried}
use Rattle.commit_path.specs.declared.commit.Tried.TheVariants.{Done as Was_done, Lost}
use Rattle.commit_path.specs.Committing.{Written, manifest_for, with_list, with_manifest, after_manifest, put_manifest, write_array, old_program, array_program, arrays_program, unwritten, write_all, commit_program, after_arrays, put_log, after_log, after_snapshot, after_branch, log_for, snap_for, is_long}
use Rattle.commit_path.specs.Owed.{Sessions}
use Rattle.reach.specs.Own.{PutsItself, PutItself}
use Rattle.commit_path.specs.Own.{OwnsChunks, DrawsOnceOf, id_of, WasDrawn, PutsDrawn, HasPutDrawn, PutsElsewhere, HasNotPut, OwesOwn, Owns, OwnsNext, OwningLaw}
use Rattle.commit_path.proofs.Answering.{commit-walks}
use Rattle.commit_path.proofs.Adding.{prop-added, prop-owned}
use Rattle.commit_path.proofs.Editing.{node-is, text-set, node-dropped, text-fewer, drop-fewer}
use Rattle.commit_path.proofs.Entries.{AreFewer, without-fewer, entered}
use Rattle.commit_path.proofs.Gets.{gets-keep_each, gets-hold}
use Rattle.commit_path.proofs.Listing.{more-makes, PutItself-append}
use Rattle.commit_path.proofs.Minding.{OwesCommit, IsMinded}
use Rattle.commit_path.proofs.Opened.{open-gets, leads-any}
use Rattle.commit_path.proofs.Reading.{Leads-both}
use Rattle.commit_path.proofs.Setting.{chunk-set, chunk-unset}
use Rattle.commit_path.proofs.Sources.{later-later, later-drawn12, later-drawn8}
use Rattle.commit_path.proofs.Spelling.{Spellings}
use Rattle.commit_path.proofs.Walks.{Walks, Ends, walks-done, walks-ask, walks-then}

-- ---- ids that were drawn
pub HasPutDrawn-none : (ids now : AnyIds) (client : ℕ) (start : List Event) → HasPutDrawn ids now client start start
HasPutDrawn-none ids now client start = record { more = []; is = sym (append-nil start); each = Each-none (PutsDrawn ids now client) start }

drawn-later : (ids now later : AnyIds) (id : Id12) → IsLater now later → WasDrawn ids now id → WasDrawn ids later id
drawn-later ids now later id l w = let left = l.left in let spent = w.spent in record { at = w.at; later = w.later; earlier = later-later w.at now later w.earlier l; spent = omega (arith, left, spent); drawn = w.drawn }

-- a source that drew more
pub HasPutDrawn-later : (ids now later : AnyIds) (client : ℕ) (start journal : List Event) → IsLater now later → HasPutDrawn ids now client start journal → HasPutDrawn ids later client start journal
HasPutDrawn-later ids now later client start journal l c = record {
  more = c.more;
  is = c.is;
  each = Each-weaker (PutsDrawn ids now client) (PutsDrawn ids later client) (λ h event p k key bytes why id e i. drawn-later ids now later id l (p k key bytes why id e i)) start c.more c.each;
}

HasPutDrawn-more : (ids now : AnyIds) (client : ℕ) (start journal more : List Event) → Each (PutsDrawn ids now client) journal more → HasPutDrawn ids now client start journal → HasPutDrawn ids now client start (journal ++ more)
HasPutDrawn-more ids now client start journal more each c = record {
  more = c.more ++ more;
  is = ap (λ (h : List Event). h ++ more) c.is ∙ append_assoc start c.more more;
  each = Each-append (PutsDrawn ids now client) start c.more more c.each (subst (λ (h : List Event). Each (PutsDrawn ids now client) h more) c.is each);
}

pub HasPutDrawn-others : (by : Caller) (ids now : AnyIds) (start journal more : List Event) → Each (IsOther by) journal more → HasPutDrawn ids now by.number start journal → HasPutDrawn ids now by.number start (journal ++ more)
HasPutDrawn-others by ids now start journal more others =
    HasPutDrawn-more ids now by.number start journal more (Each-weaker (IsOther by) (PutsDrawn ids now by.number) (λ h e o k. absurd (o.other k)) journal more others)

no-put : (op : Op) → IsGet op → (key : Key) (bytes : List ℕ) (why : Why) → op ≢ PutNew key bytes why
no-put op g key bytes why e = subst IsGet e g

pub HasPutDrawn-gets : (ids now : AnyIds) (client : ℕ) (start middle journal : List Event) → MadeGets client middle journal → HasPutDrawn ids now client start middle → HasPutDrawn ids now client start journal
HasPutDrawn-gets ids now client start middle journal m c =
    subst (λ (h : List Event). HasPutDrawn ids now client start h) (sym m.is)
    (HasPutDrawn-more ids now client start middle m.more (Each-weaker (GetsAlone client) (PutsDrawn ids now client) (λ h event g k key bytes why id e i. absurd (no-put event.op (g k) key bytes why e)) middle m.more m.each) c)

-- an own operation under an id that was drawn, or that puts no object
pub HasPutDrawn-makes : (by : Caller) (ids now : AnyIds) (start : List Event) (op : Op) (reply : Reply) (old new : List Event) → Makes by op reply old new → ((key : Key) (bytes : List ℕ) (why : Why) (id : Id12) → op ≡ PutNew key bytes why → id_of key ≡ Some id → WasDrawn ids now id)
    → HasPutDrawn ids now by.number start old → HasPutDrawn ids now by.number start new
HasPutDrawn-makes by ids now start op reply old new m drawn c =
    let event : Event = own_event by op reply m.time in
    let waited = subst (λ (h : List Event). HasPutDrawn ids now by.number start h) (sym m.waits.is) (HasPutDrawn-others by ids now start old m.waits.between m.waits.others c) in
    subst (λ (h : List Event). HasPutDrawn ids now by.number start h) (sym m.is)
    (HasPutDrawn-more ids now by.number start m.middle (event ∷ []) (Each-one (PutsDrawn ids now by.number) m.middle event (λ k. drawn)) waited)

-- ---- keys at which nothing was put
HasNotPut-more : (key : Key) (client : ℕ) (start journal more : List Event) → Each (PutsElsewhere key client) journal more → HasNotPut key client start journal → HasNotPut key client start (journal ++ more)
HasNotPut-more key client start journal more each c = record {
  more = c.more ++ more;
  is = ap (λ (h : List Event). h ++ more) c.is ∙ append_assoc start c.more more;
  each = Each-append (PutsElsewhere key client) start c.more more c.each (subst (λ (h : List Event). Each (PutsElsewhere key client) h more) c.is each);
}

pub HasNotPut-others : (by : Caller) (key : Key) (start journal more : List Event) → Each (IsOther by) journal more → HasNotPut key by.number start journal → HasNotPut key by.number start (journal ++ more)
HasNotPut-others by key start journal more others =
    HasNotPut-more key by.number start journal more (Each-weaker (IsOther by) (PutsElsewhere key by.number) (λ h e o k. absurd (o.other k)) journal more others)

HasNotPut-makes : (by : Caller) (key : Key) (start : List Event) (op : Op) (reply : Reply) (old new : List Event) → Makes by op reply old new → ((bytes : List ℕ) (why : Why) → op ≢ PutNew key bytes why) → HasNotPut key by.number start old → HasNotPut key by.number start new
HasNotPut-makes by key start op reply old new m elsewhere c =
    let event : Event = own_event by op reply m.time in
    let waited = subst (λ (h : List Event). HasNotPut key by.number start h) (sym m.waits.is) (HasNotPut-others by key start old m.waits.between m.waits.others c) in
    subst (λ (h : List Event). HasNotPut key by.number start h) (sym m.is)
    (HasNotPut-more key by.number start m.middle (event ∷ []) (Each-one (PutsElsewhere key by.number) m.middle event (λ k. elsewhere)) waited)

-- an id that is drawn now wasn't drawn before
again : (ids now : AnyIds) (id : Id12) → DrawsOnceOf ids → IsLater ids now → drawn12 now ≡ Some id → WasDrawn ids now id → ⊥
again ids now id once l drawn w = let same = once w.at now id w.later l w.drawn drawn in let spent = w.spent in omega (arith, same, spent)

pub not-put : (ids now : AnyIds) (client : ℕ) (start journal : List Event) (key : Key) (id : Id12) → IsLater ids now → drawn12 now ≡ Some id → id_of key ≡ Some id → HasPutDrawn ids now client start journal → DrawsOnceOf ids → HasNotPut key client start journal
not-put ids now client start journal key id l drawn is c once = record {
  more = c.more;
  is = c.is;
  each = Each-weaker (PutsDrawn ids now client) (PutsElsewhere key client) (λ h event p k bytes why e. again ids now id once l drawn (p k key bytes why id e is)) start c.more c.each;
}

-- what is drawn is spent
below : (n m : ℕ) (o : Option Id12) (id : Id12) → o ≡ Some id → is_none o ≡ nat_eq n 0 → m ≡ n - 1 → m < n
below n m None id e ends moves = cc
below n m (Some other) id e ends moves = let none : nat_eq n 0 ≡ false = sym ends in grind (arith, nat_tests)

pub drawn-now : (ids now : AnyIds) (id : Id12) → IsLater ids now → drawn12 now ≡ Some id → WasDrawn ids (after12 now) id
drawn-now ids now id l drawn = record { at = now; later = l; earlier = later-drawn12 now; spent = below (left_of now) (left_of (after12 now)) (drawn12 now) id drawn (any_source12.ends now) (any_source12.moves now); drawn = drawn }

-- the one object of an operation
pub one-object : (ids now : AnyIds) (key : Key) (bytes : List ℕ) (why : Why) (id : Id12) → id_of key ≡ Some id → WasDrawn ids now id → (other : Key) (file : List ℕ) (cause : Why) (mine : Id12) → PutNew key bytes why ≡ PutNew other file cause → id_of other ≡ Some mine → WasDrawn ids now mine
one-object ids now key bytes why id is w other file cause mine e i =
    let same : key ≡ other = cc in
    let ids_same : ◌≡◌ {A = Option Id12} (Some id) (Some mine) = sym is ∙ ap id_of same ∙ i in
    let one : id ≡ mine = cc in
    subst (WasDrawn ids now) one w

-- an own put that was done is the client's own
pub puts-made : (by : Caller) (ids now : AnyIds) (start : List Event) (key : Key) (bytes : List ℕ) (version : Version) (time : ℕ) (old new : List Event) → Makes by (PutNew key bytes Set) (Is_new (New_done version time)) old new → HasPutDrawn ids now by.number start old → PutsItself by.number key bytes start new
puts-made by ids now start key bytes version time old new m c =
    let waited = subst (λ (h : List Event). HasPutDrawn ids now by.number start h) (sym m.waits.is) (HasPutDrawn-others by ids now start old m.waits.between m.waits.others c) in
    record {
      version = version;
      now = time;
      own = record {
        before = m.middle;
        since = waited.more;
        before_is = waited.is;
        event = own_event by (PutNew key bytes Set) (Is_new (New_done version time)) m.time;
        after = [];
        is = m.is;
        client_is = refl;
        op_is = refl;
        reply_is = refl;
      };
    }

-- ---- chunks that were set
module _ (client : ℕ) (start : List Event) where
  pub OwnsChunks-append : (entries : List (HeldEntry Place)) (journal more : List Event) → OwnsChunks client entries start journal → OwnsChunks client entries start (journal ++ more)
  OwnsChunks-append entries journal more owns node i id offset size e = PutItself-append client (Chunk id) start journal more (owns node i id offset size e)

  pub owns-fewer : (old new : List (HeldEntry Place)) (journal : List Event) → AreFewer old new → OwnsChunks client old start journal → OwnsChunks client new start journal
  owns-fewer old new journal f owns node i id offset size e = owns node i id offset size (f node i (Some (Object id offset size)) e)

  owns-entered : (es : List (HeldEntry Place)) (id : Id8) (i : List ℕ) (entry : Option Place) (journal : List Event) → ((object : Id12) (offset size : ℕ) → entry ≡ Some (Object object offset size) → PutItself client (Chunk object) start journal) → OwnsChunks client es start journal
      → OwnsChunks client (with_entry es id i entry) start journal
  owns-entered es id i entry journal new owns node j object offset size e = elim (entered es id i entry node j (Some (Object object offset size)) e) [
    | inl this ↦ new object offset size this.2
    | inr old ↦ owns node j object offset size old
  ]

  pub owns-set : (h : Held Place) (i : List ℕ) (place : Place) (o : Option Node) (journal : List Event) → ((object : Id12) (offset size : ℕ) → place ≡ Object object offset size → PutItself client (Chunk object) start journal) → OwnsChunks client h.chunks start journal
      → OwnsChunks client (held.placed_chunk h i place o).chunks start journal
  owns-set h i place None journal new owns = owns
  owns-set h i place (Some n) journal new owns = owns-entered h.chunks n.id i (Some place) journal (λ object offset size e. new object offset size (cc)) owns

  owns-unset : (h : Held Place) (i : List ℕ) (a o : Option Node) (journal : List Event) → OwnsChunks client h.chunks start journal → OwnsChunks client (held.unplaced_chunk h i a o).chunks start journal
  owns-unset h i a None journal owns = owns
  owns-unset h i (Some m) (Some n) journal owns = owns-fewer h.chunks (without_entry h.chunks n.id i) journal (without-fewer h.chunks n.id i) owns
  owns-unset h i None (Some n) journal owns = owns-entered h.chunks n.id i None journal (λ object offset size e. cc) owns

-- ---- what is owned
pub owns-by : (ids : AnyIds) (client : ℕ) (s t : SessionState) (start journal : List Event) → IsLater s.ids t.ids → OwnsChunks client t.held.chunks start journal → Owns ids client s start journal → Owns ids client t start journal
owns-by ids client s t start journal later chunks o = record { chunks = chunks; drawn = HasPutDrawn-later ids s.ids t.ids client start journal later o.drawn }

pub Owns-others : (by : Caller) (ids : AnyIds) (s : SessionState) (start journal more : List Event) → Each (IsOther by) journal more → Owns ids by.number s start journal → Owns ids by.number s start (journal ++ more)
Owns-others by ids s start journal more others o = record { chunks = OwnsChunks-append by.number start s.held.chunks journal more o.chunks; drawn = HasPutDrawn-others by ids s.ids start journal more others o.drawn }

pub Owns-gets : (ids : AnyIds) (client : ℕ) (s : SessionState) (start middle journal : List Event) → MadeGets client middle journal → Owns ids client s start middle → Owns ids client s start journal
Owns-gets ids client s start middle journal m o = record {
  chunks = subst (λ (h : List Event). OwnsChunks client s.held.chunks start h) (sym m.is) (OwnsChunks-append client start s.held.chunks middle m.more o.chunks);
  drawn = HasPutDrawn-gets ids s.ids client start middle journal m o.drawn;
}

-- ... by edits
module _ (ids : AnyIds) (client : ℕ) (start journal : List Event) where
  owns-added : (fault : Result MetaView MetaFault → Option MetaFault) (s t : SessionState) (path text : List ℕ) (id : Id8) → added fault s path text ≡ Ok (id, t) → Owns ids client s start journal → Owns ids client t start journal
  owns-added fault s t path text id e o =
      subst (λ (x : SessionState). Owns ids client x start journal) (sym (node-is fault s t path text id e)) (record { chunks = o.chunks; drawn = HasPutDrawn-later ids s.ids (after8 s.ids) client start journal (later-drawn8 s.ids) o.drawn })

  owns-text : (s t : SessionState) (path text : List ℕ) → meta_set s path text ≡ Ok t → Owns ids client s start journal → Owns ids client t start journal
  owns-text s t path text e o =
      let a = text-set s t path text e in
      subst (λ (x : SessionState). Owns ids client x start journal) (sym a.is) (record { chunks = owns-fewer client start s.held.chunks _ journal (text-fewer s path text) o.chunks; drawn = o.drawn })

  owns-dropped : (s t : SessionState) (path : List ℕ) → node_dropped s path ≡ Ok t → Owns ids client s start journal → Owns ids client t start journal
  owns-dropped s t path e o =
      let a = node-dropped s t path e in
      subst (λ (x : SessionState). Owns ids client x start journal) (sym a.is) (record { chunks = owns-fewer client start s.held.chunks _ journal (drop-fewer s path) o.chunks; drawn = o.drawn })

  owns-inline : (s t : SessionState) (path index bytes : List ℕ) → set_program s path index bytes ≡ Done (Ok t) → Owns ids client s start journal → Owns ids client t start journal
  owns-inline s t path index bytes e o =
      let a = chunk-set s t path index bytes e in
      subst (λ (x : SessionState). Owns ids client x start journal) (sym a.is) (record { chunks = owns-set client start s.held index (Inline bytes) (get (nodes_seen s) path) journal (λ object offset size k. cc) o.chunks; drawn = o.drawn })

  owns-without : (s t : SessionState) (path index : List ℕ) → chunk_unset s path index ≡ Ok t → Owns ids client s start journal → Owns ids client t start journal
  owns-without s t path index e o =
      let a = chunk-unset s t path index e in
      subst (λ (x : SessionState). Owns ids client x start journal) (sym a.is) (record { chunks = owns-unset client start s.held index (get s.held.added path) (get (nodes_seen s) path) journal o.chunks; drawn = o.drawn })

-- ---- an opening
abbrev IsFresh : Asked → Result SessionState Refusal → List Event → Type 0
IsFresh a answer h = IfOk answer (λ s. (s.held.chunks ≡ []) × (s.ids ≡ a.ids))

snap-fresh : (by : Caller) (a : Asked) (named : Named) (r : Result SnapshotFile Refusal) (h : List Event) → Leads (IsFresh a) by (on_answer (λ snap. Done (Ok (begun a named snap))) r) h
unfolding Leads
snap-fresh by a named (Ok snap) h = (refl, refl)
snap-fresh by a named (Err why) h = tt

named-fresh : (by : Caller) (a : Asked) (r : Result Named Refusal) (h : List Event) → Leads (IsFresh a) by (on_answer (base_program a) r) h
unfolding Leads
named-fresh by a (Ok named) h = Leads-bind (λ r j. Unit {0}) (IsFresh a) by (base_at_program a.at named.id) _ h (leads-any (λ r j. Unit {0}) (λ r j. tt) by (base_at_program a.at named.id) h) (λ r j q. snap-fresh by a named r j)
named-fresh by a (Err why) h = tt

open-fresh : (by : Caller) (a : Asked) (journal : List Event) → Leads (IsFresh a) by (open_program a) journal
open-fresh by a journal = Leads-bind (λ r j. Unit {0}) (IsFresh a) by (resolve_at_program a.at) (on_answer (base_program a)) journal (leads-any (λ r j. Unit {0}) (λ r j. tt) by (resolve_at_program a.at) journal) (λ r j q. named-fresh by a r j)

owns-none : (ids : AnyIds) (client : ℕ) (s : SessionState) (now : AnyIds) (start journal : List Event) → s.held.chunks ≡ [] → s.ids ≡ now → HasPutDrawn ids now client start journal → Owns ids client s start journal
owns-none ids client s now start journal none same c = record {
  chunks = subst (λ (es : List (HeldEntry Place)). OwnsChunks client es start journal) (sym none) (λ node i id offset size e. cc);
  drawn = subst (λ (x : AnyIds). HasPutDrawn ids x client start journal) (sym same) c;
}

opens-owns : (by : Caller) (ids : AnyIds) (a : Asked) (start : List Event) (answer : Result SessionState Refusal) (h : List Event) → IsFresh a answer h × HasPutDrawn ids a.ids by.number start h → IfOk answer (λ s. Owns ids by.number s start h)
opens-owns by ids a start (Ok s) h q = owns-none ids by.number s a.ids start h q.0.0 q.0.1 q.1
opens-owns by ids a start (Err why) h q = tt

open-owned : (by : Caller) (ids : AnyIds) (a : Asked) (start journal : List Event) → HasPutDrawn ids a.ids by.number start journal
    → Keeps (λ h client op. OwesOwn ids client start op h) by (open_program a) journal × Leads (λ answer h. IfOk answer (λ s. Owns ids by.number s start h)) by (open_program a) journal
open-owned by ids a start journal c = (
  gets-keep_each (λ h client op. OwesOwn ids client start op h) by (λ h key. tt) (open_program a) journal (open-gets a),
  Leads-weaker (λ answer h. IsFresh a answer h × HasPutDrawn ids a.ids by.number start h) (λ answer h. IfOk answer (λ s. Owns ids by.number s start h)) (opens-owns by ids a start) by (open_program a) journal
      (Leads-both (IsFresh a) (λ answer h. HasPutDrawn ids a.ids by.number start h) by (open_program a) journal (open-fresh by a journal)
      (gets-hold (HasPutDrawn ids a.ids by.number start) by (λ key reply old new m. HasPutDrawn-makes by ids a.ids start (Get key) reply old new m (λ other bytes why id e i. absurd (no-put (Get key) tt other bytes why e))) (open_program a) journal (open-gets a) c)),
)

-- ---- a commit
-- what is put new is put where the client put nothing
abbrev OwesNewPut : AnyIds → ℕ → List Event → Op → List Event → Type 0
OwesNewPut ids client start (PutNew key bytes why) journal = DrawsOnceOf ids → HasNotPut key client start journal
OwesNewPut ids client start _ journal = Unit {0}

module _ (by : Caller) (ids : AnyIds) (start : List Event) where
  abbrev New : List Event → ℕ → Op → Type 0
  New h client op = OwesNewPut ids client start op h

  abbrev Anywhere : List Event → Type 0
  Anywhere journal = Unit {0}

  -- the source came to stand here, and the client put objects under ids alone that it drew before
  abbrev Draws : AnyIds → List Event → Type 0
  Draws now h = IsLater ids now × HasPutDrawn ids now by.number start h

  abbrev DrawsBehind : Result Written Refusal → List Event → Type 0
  DrawsBehind = Ends (λ (x : Written) h. Draws x.ids h) (λ why h. Unit {0})

  -- an own operation that puts no object
  draws-makes : (now : AnyIds) (op : Op) (reply : Reply) (old new : List Event) → Makes by op reply old new → ((key : Key) (bytes : List ℕ) (why : Why) → op ≢ PutNew key bytes why) → Draws now old → Draws now new
  draws-makes now op reply old new m none c = (c.0, HasPutDrawn-makes by ids now start op reply old new m (λ key bytes why id e i. absurd (none key bytes why e)) c.1)

  -- one that puts an object under the next id
  draws-next : (now : AnyIds) (key : Key) (bytes : List ℕ) (id : Id12) (reply : Reply) (old new : List Event) → Makes by (PutNew key bytes Set) reply old new → drawn12 now ≡ Some id → id_of key ≡ Some id → Draws now old → Draws (after12 now) new
  draws-next now key bytes id reply old new m drawn is c =
      let w = drawn-now ids now id c.0 drawn in (
        later-later ids now (after12 now) c.0 (later-drawn12 now),
        HasPutDrawn-makes by ids (after12 now) start (PutNew key bytes Set) reply old new m (one-object ids (after12 now) key bytes Set id is w)
            (HasPutDrawn-later ids now (after12 now) by.number start old (later-drawn12 now) c.1),
      )

  new-put : (now : AnyIds) (key : Key) (bytes : List ℕ) (id : Id12) (journal : List Event) → drawn12 now ≡ Some id → id_of key ≡ Some id → Draws now journal → New journal by.number (PutNew key bytes Set)
  new-put now key bytes id journal drawn is c = not-put ids now by.number start journal key id c.0 drawn is c.1

  -- the manifests that are got, and the one that is put
  module _ (now : AnyIds) where
    abbrev DrawsStill : {A : Type 0} → Result A Refusal → List Event → Type 0
    DrawsStill {A} = Ends {A = A} (λ a h. Draws now h) (λ why h. Unit {0})

    old-new : (refs : List ManifestRef) (seen : List Listed) (journal : List Event) → Draws now journal → Walks New Anywhere DrawsStill by (old_program refs seen) journal
    unfolding old_program
    old-new [] seen journal c = walks-done New Anywhere DrawsStill by (Ok seen) journal c
    old-new (m ∷ more) seen journal c =
        walks-then New Anywhere (λ (file : ManifestFile) h. Draws now h) (λ why h. Unit {0}) DrawsStill by (manifest_program m.id) (λ file. old_program more (seen ++ (m.extents, file) ∷ [])) journal
        (walks-ask New Anywhere DrawsStill by (Get (Manifest m.id)) (λ reply. Done (manifest_told m.id reply)) journal tt tt
        (λ reply new n. (λ off. tt, told (manifest_told m.id reply) new (draws-makes now (Get (Manifest m.id)) reply journal new n (λ key bytes why e. cc) c))))
        (λ file h q. old-new more (seen ++ (m.extents, file) ∷ []) h q)
        (λ why h q. q)
      where
        told : (r : Result ManifestFile Refusal) (h : List Event) → Draws now h → Walks New Anywhere (DrawsStill {A = ManifestFile}) by (Done r) h
        told (Ok file) h c = walks-done New Anywhere DrawsStill by (Ok file) h c
        told (Err why) h c = walks-done New Anywhere DrawsStill by (Err why) h tt

  after-new : (x : Written) (id : Id12) (reply : Reply) (journal : List Event) → Draws x.ids journal → Walks New Anywhere DrawsBehind by (after_manifest x id reply) journal
  after-new x id (Is_new (New_done version now)) journal c = walks-done New Anywhere DrawsBehind by (Ok x) journal c
  after-new x id (Is_new (Present version now)) journal c = walks-done New Anywhere DrawsBehind by (Err (IdTaken (Manifest id))) journal tt
  after-new x id _ journal c = walks-done New Anywhere DrawsBehind by (Err StoreFault) journal tt

  put-new : (x : Written) (a : ChangedArray) (array : ArrayRefs) (id : Id12) → drawn12 x.ids ≡ Some id → (journal : List Event) → Draws x.ids journal → (long : Bool)
      → Walks New Anywhere DrawsBehind by (cond long (Done (Err (TooLarge kinds.Manifest))) (Ask (PutNew (Manifest id) (file_bytes (manifest_for id array)) Set) (after_manifest (with_manifest x a array id) id))) journal
  put-new x a array id drawn journal c true = walks-done New Anywhere DrawsBehind by (Err (TooLarge kinds.Manifest)) journal tt
  put-new x a array id drawn journal c false =
      let bytes = file_bytes (manifest_for id array) in
      walks-ask New Anywhere DrawsBehind by (PutNew (Manifest id) bytes Set) (after_manifest (with_manifest x a array id) id) journal (new-put x.ids (Manifest id) bytes id journal drawn refl c) tt
      (λ reply new n. (λ off. tt, after-new (with_manifest x a array id) id reply new (draws-next x.ids (Manifest id) bytes id reply journal new n drawn refl c)))

  draw-new : (x : Written) (a : ChangedArray) (array : ArrayRefs) (o : Option Id12) → drawn12 x.ids ≡ o → (journal : List Event) → Draws x.ids journal → Walks New Anywhere DrawsBehind by (put_manifest x a array o) journal
  draw-new x a array None e journal c = walks-done New Anywhere DrawsBehind by (Err IdsSpent) journal tt
  draw-new x a array (Some id) e journal c = put-new x a array id e journal c (is_long (file_bytes (manifest_for id array)))

  count-new : (x : Written) (a : ChangedArray) (array : ArrayRefs) (journal : List Event) → Draws x.ids journal → (many : Bool) → Walks New Anywhere DrawsBehind by (cond many (Done (Err (TooLarge kinds.Manifest))) (put_manifest x a array (drawn12 x.ids))) journal
  count-new x a array journal c true = walks-done New Anywhere DrawsBehind by (Err (TooLarge kinds.Manifest)) journal tt
  count-new x a array journal c false = draw-new x a array (drawn12 x.ids) refl journal c

  write-new : (x : Written) (a : ChangedArray) (o : Option ArrayRefs) (journal : List Event) → Draws x.ids journal → Walks New Anywhere DrawsBehind by (write_array x a o) journal
  write-new x a None journal c = walks-done New Anywhere DrawsBehind by (Ok (with_list x a None)) journal c
  write-new x a (Some array) journal c = count-new x a array journal c (nat_lt refs_limit (length array.refs))

  arrays-new : (rows : List NodeRow) (es : List (HeldEntry Place)) (arrays : List ChangedArray) (x : Written) (journal : List Event) → Draws x.ids journal → Walks New Anywhere DrawsBehind by (arrays_program rows es arrays x) journal
  unfolding arrays_program
  arrays-new rows es [] x journal c = walks-done New Anywhere DrawsBehind by (Ok x) journal c
  arrays-new rows es (a ∷ more) x journal c =
      walks-then New Anywhere (λ (y : Written) h. Draws y.ids h) (λ why h. Unit {0}) DrawsBehind by (array_program rows es x a) (arrays_program rows es more) journal
      (walks-then New Anywhere (λ (old : List Listed) h. Draws x.ids h) (λ why h. Unit {0}) DrawsBehind by (old_program (own_manifests rows a.path a.node) []) (λ old. write_array x a (merged_array a.rank a.node old (chunks_of es a.node))) journal
      (old-new x.ids (own_manifests rows a.path a.node) [] journal c) (λ old h q. write-new x a (merged_array a.rank a.node old (chunks_of es a.node)) h q) (λ why h q. q))
      (λ y h q. arrays-new rows es more y h q)
      (λ why h q. q)

  -- the branch
  abbrev LeftNext : Result Tried Refusal → List Event → Type 0
  LeftNext (Ok (Lost old there next)) h = HasPutDrawn ids next by.number start h
  LeftNext (Ok (Was_done made)) h = Unit {0}
  LeftNext (Err why) h = Unit {0}

  module _ (s : SessionState) (message : List ℕ) where
    over-new : (id : Id12) (next : AnyIds) (reply : Reply) (journal : List Event) → HasPutDrawn ids next by.number start journal → Walks New Anywhere LeftNext by (after_branch s id next reply) journal
    over-new id next (Is_over (Over_done version now)) journal c = walks-done New Anywhere LeftNext by (Ok (Was_done (record { id = id; version = version }))) journal tt
    over-new id next (Is_over (Moved there now)) journal c = walks-done New Anywhere LeftNext by (Ok (Lost (version_at (version_of s)) there next)) journal c
    over-new id next (Failed done) journal c = walks-done New Anywhere LeftNext by (Err (InDoubt id)) journal tt
    over-new id next _ journal c = walks-done New Anywhere LeftNext by (Err StoreFault) journal tt

    snapshot-new : (id : Id12) (next : AnyIds) (reply : Reply) (journal : List Event) → HasPutDrawn ids next by.number start journal → Walks New Anywhere LeftNext by (after_snapshot s id next reply) journal
    snapshot-new id next (Is_new (New_done version now)) journal c =
        let op : Op = PutOver (Branch (branch_of s)) (ref_bytes id) (version_at (version_of s)) Commit in
        walks-ask New Anywhere LeftNext by op (after_branch s id next) journal tt tt
        (λ reply new n. (λ off. tt, over-new id next reply new (HasPutDrawn-makes by ids next start op reply journal new n (λ key bytes why i e is. cc) c)))
    snapshot-new id next (Is_new (Present version now)) journal c = walks-done New Anywhere LeftNext by (Err (IdTaken (Snapshot id))) journal tt
    snapshot-new id next _ journal c = walks-done New Anywhere LeftNext by (Err StoreFault) journal tt

    -- the log and the snapshot, under one id
    module _ (news : List NewList) (id : Id12) (now : AnyIds) (l : IsLater ids now) (drawn : drawn12 now ≡ Some id) where
      abbrev file : ℕ → List ℕ
      file flushed = snapshot_bytes (snap_for s message news id flushed)

      abbrev log : List ℕ
      log = log_file (log_for s id)

      -- no snapshot was put under it before
      abbrev Free : List Event → Type 0
      Free h = DrawsOnceOf ids → HasNotPut (Snapshot id) by.number start h

      put_snapshot-new : (flushed : ℕ) (journal : List Event) → Free journal → HasPutDrawn ids (after12 now) by.number start journal → (long : Bool)
          → Walks New Anywhere LeftNext by (cond long (Done (Err (TooLarge kinds.Snapshot))) (Ask (PutNew (Snapshot id) (file flushed) Set) (after_snapshot s id (after12 now)))) journal
      put_snapshot-new flushed journal f c true = walks-done New Anywhere LeftNext by (Err (TooLarge kinds.Snapshot)) journal tt
      put_snapshot-new flushed journal f c false =
          let op : Op = PutNew (Snapshot id) (file flushed) Set in
          walks-ask New Anywhere LeftNext by op (after_snapshot s id (after12 now)) journal f tt
          (λ reply new n. (λ off. tt, snapshot-new id (after12 now) reply new (HasPutDrawn-makes by ids (after12 now) start op reply journal new n (one-object ids (after12 now) (Snapshot id) (file flushed) Set id refl (drawn-now ids now id l drawn)) c)))

      log-new : (reply : Reply) (journal : List Event) → Free journal → HasPutDrawn ids (after12 now) by.number start journal → Walks New Anywhere LeftNext by (after_log s message news id (after12 now) reply) journal
      log-new (Is_new (New_done version time)) journal f c = put_snapshot-new time journal f c (is_long (file time))
      log-new (Is_new (Present version time)) journal f c = walks-done New Anywhere LeftNext by (Err (IdTaken (Txn id))) journal tt
      log-new _ journal f c = walks-done New Anywhere LeftNext by (Err StoreFault) journal tt

      put_log-new : (journal : List Event) → Draws now journal → (long : Bool) → Walks New Anywhere LeftNext by (cond long (Done (Err (TooLarge kinds.Log))) (Ask (PutNew (Txn id) log Set) (after_log s message news id (after12 now)))) journal
      put_log-new journal c true = walks-done New Anywhere LeftNext by (Err (TooLarge kinds.Log)) journal tt
      put_log-new journal c false =
          let op : Op = PutNew (Txn id) log Set in
          walks-ask New Anywhere LeftNext by op (after_log s message news id (after12 now)) journal (new-put now (Txn id) log id journal drawn refl c) tt
          (λ reply new n. (
            λ off. tt,
            log-new reply new (λ once. HasNotPut-makes by (Snapshot id) start op reply journal new n (λ bytes why e. cc) (not-put ids now by.number start journal (Snapshot id) id l drawn refl c.1 once)) (draws-next now (Txn id) log id reply journal new n drawn refl c).1,
          ))

    draw_log-new : (x : Written) (o : Option Id12) → drawn12 x.ids ≡ o → (journal : List Event) → Draws x.ids journal → Walks New Anywhere LeftNext by (put_log s message x.news o (after12 x.ids)) journal
    draw_log-new x None e journal c = walks-done New Anywhere LeftNext by (Err IdsSpent) journal tt
    draw_log-new x (Some id) e journal c = put_log-new x.news id x.ids c.0 e journal c (is_long (log_file (log_for s id)))

    all-new : (journal : List Event) → Draws s.ids journal → Walks New Anywhere LeftNext by (write_all s message) journal
    all-new journal c =
        walks-then New Anywhere (λ (x : Written) h. Draws x.ids h) (λ why h. Unit {0}) LeftNext by (arrays_program s.rows s.held.chunks (changed_arrays s.held (base_nodes s)) (unwritten s)) (after_arrays s message) journal
        (arrays-new s.rows s.held.chunks (changed_arrays s.held (base_nodes s)) (unwritten s) journal c)
        (λ x h q. draw_log-new x (drawn12 x.ids) refl h q)
        (λ why h q. q)

    by_tests : (journal : List Event) → Draws s.ids journal → (may_write untouched : Bool) → Walks New Anywhere LeftNext by (cond may_write (cond untouched (Done (Err NothingToCommit)) (write_all s message)) (Done (Err ReadOnly))) journal
    by_tests journal c true true = walks-done New Anywhere LeftNext by (Err NothingToCommit) journal tt
    by_tests journal c true false = all-new journal c
    by_tests journal c false u = walks-done New Anywhere LeftNext by (Err ReadOnly) journal tt

    pub commit-new : (journal : List Event) → Draws s.ids journal → Walks New Anywhere LeftNext by (commit_program s message) journal
    unfolding commit_program
    commit-new journal c = by_tests journal c (writes s) (is_untouched (touched s.held (base_nodes s)))

-- both, where the client put the objects of the session's chunks itself
module _ (by : Caller) (ids : AnyIds) (mine : Sessions) (s : SessionState) (start : List Event) where
  abbrev Chunks : List Event → Type 0
  Chunks = OwnsChunks by.number s.held.chunks start

  abbrev Owed : List Event → ℕ → Op → Type 0
  Owed h client op = OwesOwn ids client start op h

  owes-both : (op : Op) (h : List Event) → OwesCommit s by.number start op h → OwesNewPut ids by.number start op h → Chunks h → OwesOwn ids by.number start op h
  owes-both (Get key) h c n own = tt
  owes-both (ListPart part) h c n own = tt
  owes-both (PutNew key bytes why) h c n own = n
  owes-both (PutOver key bytes old why) h c n own = c own
  owes-both (Remove key why) h c n own = tt
  owes-both (RemoveAt key old why) h c n own = tt

  owned-both : {A : Type 0} (p : Prog A) (journal : List Event) → Keeps (IsMinded ids mine s start) by p journal → Keeps (λ h client op. OwesNewPut ids client start op h) by p journal → Chunks journal → Keeps Owed by p journal
  unfolding Keeps
  owned-both (Done a) journal k n own = tt
  owned-both (Ask op next) journal k n own =
      (owes-both op journal k.0.1 n.0 own, λ reply new m. owned-both (next reply) new (k.1 reply new m) (n.1 reply new m) (more-makes Chunks (OwnsChunks-append by.number start s.held.chunks) by op reply journal new m own))

  chunks-lead : {A : Type 0} (p : Prog A) (journal : List Event) → Chunks journal → Leads (λ a h. Chunks h) by p journal
  unfolding Leads
  chunks-lead (Done a) journal own = own
  chunks-lead (Ask op next) journal own = λ reply new m. chunks-lead (next reply) new (more-makes Chunks (OwnsChunks-append by.number start s.held.chunks) by op reply journal new m own)

  owns-next : (answer : Result Tried Refusal) (h : List Event) → LeftNext by ids start answer h × Chunks h → OwnsNext ids by.number s start answer h
  owns-next (Ok (Lost old there next)) h q = record { chunks = q.1; drawn = q.0 }
  owns-next (Ok (Was_done made)) h q = tt
  owns-next (Err why) h q = tt

pub owning-law : Spellings → OwningLaw
owning-law L = record {
  opens = λ by ids a start journal c. open-owned by ids a start journal c;
  adds = λ ids client fault s t path text id start journal e o. owns-added ids client start journal fault s t path text id e o;
  texts = λ ids client s t path text start journal e o. owns-text ids client start journal s t path text e o;
  drops = λ ids client s t path start journal e o. owns-dropped ids client start journal s t path e o;
  sets = λ ids client s t path index bytes start journal e o. owns-inline ids client start journal s t path index bytes e o;
  unsets = λ ids client s t path index start journal e o. owns-without ids client start journal s t path index e o;
  props = λ ids client s t name value start journal e o. prop-owned ids client s t name value start journal (prop-added s t name value e) o;
  kept = Owns-others;
  commits = λ by ids s message start journal later m w o c owns.
      let mine : Sessions = λ h t id. Unit {0} in
      let p = commit_program s message in
      let all = commit-walks L by ids mine s message later w m start (λ h id drawn. tt) journal o c in
      let new = commit-new by ids start s message journal (later, owns.drawn) in (
        owned-both by ids mine s start p journal all.keeps new.keeps owns.chunks,
        Leads-weaker (λ answer h. LeftNext by ids start answer h × OwnsChunks by.number s.held.chunks start h) (OwnsNext ids by.number s start) (owns-next by ids mine s start) by p journal
            (Leads-both (LeftNext by ids start) (λ answer h. OwnsChunks by.number s.held.chunks start h) by p journal new.leads (chunks-lead by ids mine s start p journal owns.chunks)),
      );
}

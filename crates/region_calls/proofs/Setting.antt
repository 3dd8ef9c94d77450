-- What a set of a chunk does, and what its answer says of the journal, whatever others do.
use Rattle.std.proofs.Common.{◌≡◌, ◌⊎◌, inl, inr, ℕ, ◌+◌, ◌≤◌, Bool, true, false, cond, List, [], ◌∷◌, ◌++◌, length, take, drop, refl, sym, ◌∙◌, ap, subst, arith, eqb-true}
use Rattle.std.proofs.lemmas.Bool.{leb-true, leb-false}
use Rattle.std.specs.Prelude.{◌==◌, ◌&&◌, not, nat_le, nat_lt, Option, Some, None, option_and_then, Result, Ok, Err, IfOk, IsTrue}
use Rattle.std.specs.List.{list_all}
use Rattle.std.specs.FinMap.{FinMap, get}
use Rattle.ice_ids.specs.declared.Id12.{Id12}
use Rattle.ice_ids.specs.declared.drawing.AnyIds.{AnyIds}
use Rattle.ice_ids.specs.Drawing.{drawn12, after12}
use Rattle.ice_ids.proofs.Drawn.{drawn12-IsId12}
use Rattle.file_fields.proofs.Bytes.{bytes_tested}
use Rattle.zarr_path.specs.Paths.{path_cmp}
use Rattle.zarr_meta.specs.declared.views.ArrayView.{ArrayView}
use Rattle.zarr_meta.specs.Grids.{has_grid, are_lengths, has_few_chunks, has_small_chunks, most_chunk_bytes}
use Rattle.zarr_meta.specs.Kinds.{size_of}
use Rattle.zarr_tree.specs.declared.edit.EditFault.{EditFault}
use Rattle.zarr_tree.specs.declared.edit.EditFault.TheVariants as E
use Rattle.zarr_tree.specs.Nodes.{Node, array_in, in_grid, chunk_length, are_low}
use Rattle.zarr_tree.specs.Edits.{at_node, at_array}
use Rattle.zarr_tree.specs.Held.{HeldEntry}
use Rattle.zarr_tree.proofs.ViewLaws.{array_has_grid, in_grid_is}
use Rattle.zarr_changes.specs.Edits.{with_entry}
use Rattle.zarr_changes.specs.Sets.{length_of, set_refusal}
use Rattle.manifest_file.specs.declared.manifest.Place.{Place}
use Rattle.manifest_file.specs.declared.manifest.Place.TheVariants.{Inline, Object}
use Rattle.manifest_file.specs.Layout.{IsPlace}
use Rattle.repo_objects.specs.Trees.{part_of, bytes_at}
use Rattle.object_store.specs.declared.keys.Key.{Key}
use Rattle.object_store.specs.declared.keys.Key.TheVariants.{Chunk, Branch}
use Rattle.object_store.specs.declared.keys.Why.TheVariants.{Set}
use Rattle.object_store.specs.declared.events.Version.{Version}
use Rattle.object_store.specs.declared.events.Op.{Op}
use Rattle.object_store.specs.declared.events.Op.TheVariants.{PutNew}
use Rattle.object_store.specs.declared.events.New.TheVariants.{Done as New_done, Present}
use Rattle.object_store.specs.declared.events.Reply.{Reply}
use Rattle.object_store.specs.declared.events.Reply.TheVariants.{New as Is_new, Failed}
use Rattle.object_store.specs.declared.events.Event.{Event}
use Rattle.store_api.specs.declared.machines.Refusal.{Refusal}
use Rattle.store_api.specs.declared.machines.Refusal.TheVariants as R
use Rattle.object_store.specs.Machine.{Stored, Slot, slot_of, found, version_at, new_of}
use Rattle.store_api.specs.Journal.{WasPut, puts_of, IsOnce}
use Rattle.store_api.specs.Callers.{Caller, Makes, own_event}
use Rattle.store_api.specs.Program.{Done, Ask, Keeps, Leads}
use Rattle.store_api.specs.Plays.{Stays}
use Rattle.store_api.specs.Running.{Program}
use Rattle.object_store.proofs.Slots.{effect-cases, slot-append_one, found-stood}
use Rattle.session.specs.Sessions.{SessionState, writes, nodes_seen}
use Rattle.session.specs.Sources.{IsLater}
use Rattle.session.specs.Editing.{refusal_of_edit}
use Rattle.session.specs.Chunks.{most_inline, with_chunk, after_draw, after_object, put_object, put_chunk, unless_fault, set_program}
use Rattle.commit_path.specs.Owed.{HasChunks, IsCareful}
use Rattle.store_api.specs.Telling.{ChangedNothing, StandsAt}
use Rattle.commit_path.specs.Opened.{ObjectsPut, IsOpened}
use Rattle.commit_path.specs.Spelled.{AreSized, IsSpelled}
use Rattle.commit_path.specs.Single.{PutsSnapshot}
use Rattle.commit_path.specs.Laws.{SessionLaw}
use Rattle.store_api.proofs.Telling.{put-did, makes-keeps}
use Rattle.commit_path.proofs.Sources.{later-later, later-drawn12}
use Rattle.store_api.proofs.Happening.{own-made, ChangedNothing-makes, failed-made}
use Rattle.region_calls.specs.ChunkTold.{NeedsObject, IsOfSet, SetTells}
use Rattle.region_calls.specs.ChunkLaws.{SetLaw}
use Rattle.region_calls.proofs.Entries.{both-true, entered}

-- ---- a session with other entries, and another source of ids
abbrev with_entries : SessionState → AnyIds → List (HeldEntry Place) → SessionState
with_entries s ids entries = record s { held = record (s.held) { chunks = entries }; ids = ids }

entries-spelled : (s : SessionState) (ids : AnyIds) (entries : List (HeldEntry Place)) → IsSpelled s → AreSized entries → IsSpelled (with_entries s ids entries)
entries-spelled s ids entries w sized = record {
  base = w.base;
  of_snapshot = record { file = w.of_snapshot.file; proper = w.of_snapshot.proper; rows = w.of_snapshot.rows; files = w.of_snapshot.files };
  added = w.added;
  texts = w.texts;
  frozen = w.frozen;
  free = w.free;
  chunks = sized;
  props = w.props;
  few = w.few;
}

pub entries-opened : (s : SessionState) (ids : AnyIds) (entries : List (HeldEntry Place)) (journal : List Event) → IsOpened s journal → ObjectsPut journal entries → (IsOnce journal → HasChunks (puts_of journal) entries) → IsOpened (with_entries s ids entries) journal
entries-opened s ids entries journal o objects chunks = record {
  named = o.named;
  put = o.put;
  had = o.had;
  rows = o.rows;
  objects = objects;
  chunks = chunks;
}

-- ---- a tree that takes a chunk
pub record IsTaken (nodes : FinMap path_cmp Node) (path index : List ℕ) (len : ℕ) : Type 0 where
  pub node : Node
  pub found : get nodes path ≡ Some node
  pub low : IsTrue (are_low index)
  pub small : len ≤ most_chunk_bytes

small-chunk : (text : List ℕ) (a : ArrayView) → array_in text ≡ Some a → chunk_length a ≤ most_chunk_bytes
unfolding has_grid
small-chunk text a h = leb-true _ _ (both-true (length a.shape == length a.chunks && are_lengths a.chunks && has_few_chunks a.shape a.chunks) (has_small_chunks (size_of a.kind) a.chunks) (array_has_grid text a h)).1

-- why an array doesn't take a chunk
abbrev array_fault : (index : List ℕ) → ℕ → ArrayView → Option EditFault
array_fault index len array = cond (not (in_grid array index)) (Some E.OutOfGrid) (cond (not (len == chunk_length array)) (Some (E.ChunkLength (chunk_length array) len)) None)

module _ (nodes : FinMap path_cmp Node) (path index : List ℕ) (len : ℕ) where
  by_tests : (n : Node) (a : ArrayView) → get nodes path ≡ Some n → array_in n.text ≡ Some a → (g l : Bool) → in_grid a index ≡ g → (len == chunk_length a) ≡ l
      → cond (not g) (Some E.OutOfGrid) (cond (not l) (Some (E.ChunkLength (chunk_length a) len)) None) ≡ None → IsTaken nodes path index len
  by_tests n a f h true true g l e =
      let same : len ≡ chunk_length a = eqb-true len (chunk_length a) l in
      record { node = n; found = f; low = (in_grid_is n.text a index h g).low; small = subst (λ (k : ℕ). k ≤ most_chunk_bytes) (sym same) (small-chunk n.text a h) }
  by_tests n a f h true false g l e = cc
  by_tests n a f h false l g d e = cc

  by_array : (n : Node) → get nodes path ≡ Some n → (o : Option ArrayView) → array_in n.text ≡ o → at_array o (array_fault index len) ≡ None → IsTaken nodes path index len
  by_array n f None h e = cc
  by_array n f (Some a) h e = by_tests n a f h (in_grid a index) (len == chunk_length a) refl refl e

  by_node : (o : Option Node) → get nodes path ≡ o → at_node o (λ n. at_array (array_in n.text) (array_fault index len)) ≡ None → IsTaken nodes path index len
  by_node None f e = cc
  by_node (Some n) f e = by_array n f (array_in n.text) refl e

  pub taken : set_refusal nodes path index len ≡ None → IsTaken nodes path index len
  taken e = by_node (get nodes path) refl e

-- ---- a session in which a chunk was entered
chunk-entered : (s : SessionState) (path index : List ℕ) (place : Place) (n : Node) → get (nodes_seen s) path ≡ Some n → with_entries s s.ids (with_entry s.held.chunks n.id index (Some place)) ≡ with_chunk s path index place
chunk-entered s path index place n e = rw e refl

-- the bytes of a place are there
abbrev pub HasBytes : List Event → Place → Type 0
HasBytes journal place = (bytes : List ℕ) × (bytes_at (puts_of journal) place ≡ Some bytes) × (length bytes ≡ length_of place)

module _ (s : SessionState) (path index : List ℕ) (place : Place) (len : ℕ) (t : IsTaken (nodes_seen s) path index len) where
  abbrev new_entries : List (HeldEntry Place)
  new_entries = with_entry s.held.chunks t.node.id index (Some place)

  some-same : {A : Type 0} (x y : A) → Some x ≡ Some y → x ≡ y
  some-same x y e = cc

  chunk-spelled : IsPlace place → IsSpelled s → IsSpelled (with_chunk s path index place)
  chunk-spelled is w = subst IsSpelled (chunk-entered s path index place t.node t.found) (entries-spelled s s.ids new_entries w (λ node i entry e. by_entry i entry (entered node i s.held.chunks t.node.id index (Some place) entry e) (w.chunks node i entry)))
    where
      by_entry : {B : Type 0} (i : List ℕ) (entry : Option Place) → ((index ≡ i) × (Some place ≡ entry)) ⊎ B → (B → IsTrue (are_low i) × ((p : Place) → entry ≡ Some p → IsPlace p)) → IsTrue (are_low i) × ((p : Place) → entry ≡ Some p → IsPlace p)
      by_entry i entry (inl h) old = (subst (λ (j : List ℕ). IsTrue (are_low j)) h.0 t.low, λ p d. subst IsPlace (some-same place p (h.1 ∙ d)) is)
      by_entry i entry (inr h) old = old h

  pub chunk-opened : (journal : List Event) → ((id : Id12) (offset size : ℕ) → place ≡ Object id offset size → WasPut journal (Chunk id)) → HasBytes journal place → IsOpened s journal → IsOpened (with_chunk s path index place) journal
  chunk-opened journal put has o = subst (λ (x : SessionState). IsOpened x journal) (chunk-entered s path index place t.node t.found)
      (entries-opened s s.ids new_entries journal o
      (λ node i id offset size e. elim (entered node i s.held.chunks t.node.id index (Some place) (Some (Object id offset size)) e) [
        | inl h ↦ put id offset size (some-same place (Object id offset size) h.1)
        | inr h ↦ o.objects node i id offset size h
      ])
      (λ once node i p e. elim (entered node i s.held.chunks t.node.id index (Some place) (Some p) e) [
        | inl h ↦ subst (HasBytes journal) (some-same place p h.1) has
        | inr h ↦ o.chunks once node i p h
      ]))

-- ---- the program
module _ (s : SessionState) (path index bytes : List ℕ) where
  abbrev refused : Option EditFault
  refused = set_refusal (nodes_seen s) path index (length bytes)

  -- the object is put under this id
  pub record IsOut (id : Id12) : Type 0 where
    pub writes : writes s ≡ true
    pub fine : refused ≡ None
    pub long : nat_le (length bytes) most_inline ≡ false
    pub drawn : drawn12 s.ids ≡ Some id

  abbrev object_put : Id12 → Op
  object_put id = PutNew (Chunk id) bytes Set

  abbrev pub session_out : Id12 → SessionState
  session_out id = with_chunk (after_draw s) path index (Object id 0 (length bytes))

  module _ (Q : Program SessionState → Type 0) (unwritten : writes s ≡ false → Q (Done (Err R.ReadOnly))) (faulty : (fault : EditFault) → refused ≡ Some fault → Q (Done (Err (refusal_of_edit fault)))) (short : writes s ≡ true → refused ≡ None → nat_le (length bytes) most_inline ≡ true → Q (Done (Ok (with_chunk s path index (Inline bytes))))) (spent : NeedsObject s path index bytes → Q (Done (Err R.IdsSpent))) (out : (id : Id12) → IsOut id → Q (Ask (object_put id) (after_object (session_out id) id))) where
    by_draw : writes s ≡ true → refused ≡ None → nat_le (length bytes) most_inline ≡ false → (o : Option Id12) → drawn12 s.ids ≡ o → Q (put_object s path index bytes o)
    by_draw w f l None d = spent (record { writes = w; taken = f; long = leb-false (length bytes) most_inline l; spent = d })
    by_draw w f l (Some id) d = out id (record { writes = w; fine = f; long = l; drawn = d })

    by_length : writes s ≡ true → refused ≡ None → (b : Bool) → nat_le (length bytes) most_inline ≡ b → Q (cond b (Done (Ok (with_chunk s path index (Inline bytes)))) (put_object s path index bytes (drawn12 s.ids)))
    by_length w f true l = short w f l
    by_length w f false l = by_draw w f l (drawn12 s.ids) refl

    by_fault : writes s ≡ true → (o : Option EditFault) → refused ≡ o → Q (unless_fault o (put_chunk s path index bytes))
    by_fault w None f = by_length w f (nat_le (length bytes) most_inline) refl
    by_fault w (Some fault) f = faulty fault f

    by_writes : (b : Bool) → writes s ≡ b → Q (cond b (unless_fault refused (put_chunk s path index bytes)) (Done (Err R.ReadOnly)))
    by_writes true w = by_fault w refused refl
    by_writes false w = unwritten w

    pub set-cases : Q (set_program s path index bytes)
    unfolding set_program
    set-cases = by_writes (writes s) refl

-- ---- what it does
pub object-keeps : (P : List Event → ℕ → Op → Type 0) (by : Caller) (t : SessionState) (id : Id12) (reply : Reply) (journal : List Event) → Keeps P by (after_object t id reply) journal
unfolding Keeps
object-keeps P by t id (Is_new (New_done version now)) journal = tt
object-keeps P by t id (Is_new (Present version now)) journal = tt
object-keeps P by t id _ journal = tt

-- each operation is a put of an object under the next id drawn
pub set-keeps : (P : List Event → ℕ → Op → Type 0) (by : Caller) (s : SessionState) (path index bytes : List ℕ) (journal : List Event) → ((id : Id12) → drawn12 s.ids ≡ Some id → P journal by.number (PutNew (Chunk id) bytes Set)) → Keeps P by (set_program s path index bytes) journal
unfolding Keeps
set-keeps P by s path index bytes journal p =
    set-cases s path index bytes (λ x. Keeps P by x journal) (λ w. tt) (λ fault f. tt) (λ w f l. tt) (λ d. tt)
    (λ id h. (p id h.drawn, λ reply new m. object-keeps P by (session_out s path index bytes id) id reply new))

-- a put of an object leaves the branches
chunk-leaves : (by : Caller) (id : Id12) (bytes : List ℕ) (reply : Reply) (time : ℕ) (journal : List Event) (branch : List ℕ) → found (journal ++ own_event by (PutNew (Chunk id) bytes Set) reply time ∷ []) (Branch branch) ≡ found journal (Branch branch)
chunk-leaves by id bytes reply time journal branch =
    let event : Event = own_event by (PutNew (Chunk id) bytes Set) reply time in
    ap (λ (x : Slot). x.stands) (slot-append_one journal event (Branch branch))
    ∙ effect-cases (λ (x : Slot). x.stands ≡ found journal (Branch branch)) (Branch branch) (length journal) (slot_of journal (Branch branch)) event refl (λ k d. absurd (cc))

put-nothing : (by : Caller) (start : List Event) (id : Id12) (bytes : List ℕ) (reply : Reply) (old new : List Event) → Makes by (PutNew (Chunk id) bytes Set) reply old new → ChangedNothing by.number start old → ChangedNothing by.number start new
put-nothing by start id bytes reply old new m c = ChangedNothing-makes by start (PutNew (Chunk id) bytes Set) reply old new m (chunk-leaves by id bytes reply m.time m.middle) c

object-stays : (N : List Event → Type 0) (by : Caller) (t : SessionState) (id : Id12) (reply : Reply) (journal : List Event) → Stays N by (after_object t id reply) journal
unfolding Stays
object-stays N by t id (Is_new (New_done version now)) journal = tt
object-stays N by t id (Is_new (Present version now)) journal = tt
object-stays N by t id _ journal = tt

set-stays : (by : Caller) (s : SessionState) (path index bytes : List ℕ) (start journal : List Event) → ChangedNothing by.number start journal → Stays (ChangedNothing by.number start) by (set_program s path index bytes) journal
unfolding Stays
set-stays by s path index bytes start journal c =
    set-cases s path index bytes (λ x. Stays (ChangedNothing by.number start) by x journal) (λ w. tt) (λ fault f. tt) (λ w f l. tt) (λ d. tt)
    (λ id h. (
      c,
      λ reply new m. (λ e. put-nothing by start id bytes reply journal new m c, object-stays (ChangedNothing by.number start) by (session_out s path index bytes id) id reply new),
    ))

-- ---- what its answer says
take-all : (bytes : List ℕ) → take (length bytes) bytes ≡ bytes
take-all [] = refl
take-all (b ∷ bytes) = ap (λ (x : List ℕ). b ∷ x) (take-all bytes)

-- an object is a part of itself
pub part-whole : (bytes : List ℕ) → part_of 0 (length bytes) bytes ≡ Some bytes
part-whole bytes = by_fits (nat_le (0 + length bytes) (length bytes)) refl
  where
    by_fits : (b : Bool) → nat_le (0 + length bytes) (length bytes) ≡ b → cond b (Some (take (length bytes) (drop 0 bytes))) None ≡ Some bytes
    by_fits true e = ap (λ (x : List ℕ). Some x) (take-all bytes)
    by_fits false e = let less = leb-false _ _ e in absurd (omega (arith, less))

-- a put that found an object
record WasThere (at : Option Stored) (version : Version) : Type 0 where
  pub stored : Stored
  pub stands : at ≡ Some stored
  pub version_is : stored.version ≡ version.0

present-there : (n time : ℕ) (at : Option Stored) (version : Version) (now : ℕ) → Is_new (Present version now) ≡ Is_new (new_of n time at) → WasThere at version
present-there n time None version now e = absurd (cc)
present-there n time (Some x) version now e = let v : version_at x.version ≡ version = cc in record { stored = x; stands = refl; version_is = ap (λ (y : Version). y.0) v }

stands-there : (journal : List Event) (key : Key) (x : Stored) (version : ℕ) → found journal key ≡ Some x → x.version ≡ version → StandsAt journal key version
stands-there journal key x version e v = subst (λ (n : ℕ). StandsAt journal key n) v (record { stored = x; stands = e; version_is = refl; put = found-stood journal key x e })

module _ (L : SessionLaw) (by : Caller) (ids : AnyIds) (s : SessionState) (path index bytes : List ℕ) (later : IsLater ids s.ids) (small : list_all (λ n. nat_lt n 256) bytes ≡ true) (w : IsSpelled s) (start journal : List Event) (o : IsOpened s journal) (c : ChangedNothing by.number start journal) where
  abbrev Told : Result SessionState Refusal → List Event → Type 0
  Told answer h = SetTells by.number s path index bytes start answer h × IfOk answer (λ t. IsSpelled t × IsOpened t h × IsLater ids t.ids)

  fault-told : (fault : EditFault) → set_refusal (nodes_seen s) path index (length bytes) ≡ Some fault → Told (Err (refusal_of_edit fault)) journal
  fault-told E.NodeExists e = (((E.NodeExists, e, refl), c), tt)
  fault-told E.NoParent e = (((E.NoParent, e, refl), c), tt)
  fault-told E.Full e = (((E.Full, e, refl), c), tt)
  fault-told E.NoNode e = (((E.NoNode, e, refl), c), tt)
  fault-told (E.FrozenField part) e = (((E.FrozenField part, e, refl), c), tt)
  fault-told E.NotArray e = (((E.NotArray, e, refl), c), tt)
  fault-told E.OutOfGrid e = (((E.OutOfGrid, e, refl), c), tt)
  fault-told (E.ChunkLength want got) e = (((E.ChunkLength want got, e, refl), c), tt)
  fault-told E.NoMemory e = ((tt, c), tt)

  inline-sized : IsPlace (Inline bytes)
  inline-sized = bytes_tested bytes small

  short-told : writes s ≡ true → set_refusal (nodes_seen s) path index (length bytes) ≡ None → nat_le (length bytes) most_inline ≡ true → Told (Ok (with_chunk s path index (Inline bytes))) journal
  short-told writes fine short =
      let t = taken (nodes_seen s) path index (length bytes) fine in (
        (record { writes = writes; taken = fine; is = inl (leb-true (length bytes) most_inline short, refl) }, c),
        (chunk-spelled s path index (Inline bytes) (length bytes) t inline-sized w, chunk-opened s path index (Inline bytes) (length bytes) t journal (λ id offset size e. cc) (bytes, refl, refl) o, later),
      )

  module _ (id : Id12) (h : IsOut s path index bytes id) where
    abbrev op : Op
    op = PutNew (Chunk id) bytes Set

    abbrev place : Place
    place = Object id 0 (length bytes)

    -- the session after the draw knows what it knew
    drawn-spelled : IsSpelled (after_draw s)
    drawn-spelled = entries-spelled s (after12 s.ids) s.held.chunks w w.chunks

    drawn-opened : (new : List Event) → IsOpened s new → IsOpened (after_draw s) new
    drawn-opened new x = entries-opened s (after12 s.ids) s.held.chunks new x x.objects x.chunks

    place-sized : length bytes ≤ most_chunk_bytes → IsPlace place
    place-sized l = (drawn12-IsId12 s.ids id h.drawn, omega arith, omega (arith, l))

    done-told : (version : Version) (now : ℕ) (new : List Event) → Makes by op (Is_new (New_done version now)) journal new → Told (Ok (session_out s path index bytes id)) new
    done-told version now new m =
        let t : IsTaken (nodes_seen (after_draw s)) path index (length bytes) = taken (nodes_seen s) path index (length bytes) h.fine in
        let did = put-did by (Chunk id) bytes Set version now journal new (λ j first free. first free) m in
        let o' = makes-keeps (IsOpened s) (L.kept s) by op (Is_new (New_done version now)) journal new tt m o in
        let object_is : (x : Id12) (offset size : ℕ) → place ≡ Object x offset size → id ≡ x = λ x offset size e. cc in (
          (
            record {
              writes = h.writes;
              taken = h.fine;
              is = inr (record {
                long = leb-false (length bytes) most_inline h.long;
                id = id;
                drawn = h.drawn;
                put = record { version = version; now = now; own = own-made by start op (Is_new (New_done version now)) journal new m c };
                is = refl;
              });
            },
            put-nothing by start id bytes (Is_new (New_done version now)) journal new m c,
          ),
          (
            chunk-spelled (after_draw s) path index place (length bytes) t (place-sized t.small) drawn-spelled,
            chunk-opened (after_draw s) path index place (length bytes) t new
                (λ x offset size e. subst (λ (y : Id12). WasPut new (Chunk y)) (object_is x offset size e) did.put)
                (bytes, ap (λ (p : Option (List ℕ)). option_and_then (part_of 0 (length bytes)) p) did.last ∙ part-whole bytes, refl)
                (drawn-opened new o'),
            later-later ids s.ids (after12 s.ids) later (later-drawn12 s.ids),
          ),
        )

    taken-told : (version : Version) (now : ℕ) (new : List Event) → Makes by op (Is_new (Present version now)) journal new → Told (Err (R.IdTaken (Chunk id))) new
    taken-told version now new m =
        let there = present-there (length m.middle) m.time (found m.middle (Chunk id)) version now m.answered.answered in (
          (
            record {
              id = id;
              drawn = h.drawn;
              key_is = refl;
              version = version;
              now = now;
              own = own-made by start op (Is_new (Present version now)) journal new m c;
              there = stands-there m.middle (Chunk id) there.stored version.0 there.stands there.version_is;
            },
            put-nothing by start id bytes (Is_new (Present version now)) journal new m c,
          ),
          tt,
        )

    object-told : (reply : Reply) (new : List Event) → Makes by op reply journal new → Leads Told by (after_object (session_out s path index bytes id) id reply) new
    unfolding Leads
    object-told (Is_new (New_done version now)) new m = done-told version now new m
    object-told (Is_new (Present version now)) new m = taken-told version now new m
    object-told (Failed d) new m = (failed-made by (IsOfSet s bytes) start op d journal new (id, h.drawn, refl) m c, tt)
    object-told _ new m = let e = m.answered.answered in absurd (cc)

  set-told : Leads Told by (set_program s path index bytes) journal
  unfolding Leads
  set-told =
      set-cases s path index bytes (λ x. Leads Told by x journal) (λ writes. ((writes, c), tt)) fault-told short-told (λ spent. ((spent, c), tt))
      (λ id h reply new m. object-told id h reply new m)

pub set-law : SessionLaw → SetLaw
set-law L by ids s path index bytes start journal later small w o c = (
  set-keeps (IsCareful ids (λ h t id. ⊥)) by s path index bytes journal (λ id d. record { polite = tt; owes = record { later = s.ids; is_later = later; drawn = d } }),
  set-keeps (λ h client op. ¬ PutsSnapshot op) by s path index bytes journal (λ id d p. p),
  set-stays by s path index bytes start journal c,
  set-told L by ids s path index bytes later small w start journal o c,
)

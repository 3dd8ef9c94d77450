-- What one event of a journal does to the snapshots that were put, and to their trees.
use Rattle.std.proofs.Common.{◌≡◌, inl, inr, ◌⊎◌, ℕ, ◌+◌, true, List, [], ◌∷◌, ◌++◌, length, refl, sym, ◌∙◌, ap, subst}
use Rattle.std.specs.Prelude.{Option, Some, None, option_map}
use Rattle.std.specs.Option.{option_or}
use Rattle.ice_ids.specs.declared.Id12.{Id12}
use Rattle.ice_ids.specs.declared.drawing.AnyIds.{AnyIds}
use Rattle.zarr_tree.specs.Nodes.{Node}
use Rattle.zarr_tree.specs.Trees.{Tree, node_at, IsWellFormed}
use Rattle.snapshot_file.specs.declared.snapshot.SnapshotFile.{SnapshotFile}
use Rattle.repo_objects.specs.Readings.{snapshot_by}
use Rattle.repo_objects.specs.Trees.{Extends, tree_under}
use Rattle.object_store.specs.declared.keys.Key.{Key}
use Rattle.object_store.specs.declared.keys.Key.TheVariants.{Snapshot}
use Rattle.object_store.specs.declared.keys.Why.{Why}
use Rattle.object_store.specs.declared.events.Op.{Op}
use Rattle.object_store.specs.declared.events.Op.TheVariants.{Get, PutNew, PutOver, Remove, RemoveAt, List as ListPart}
use Rattle.object_store.specs.declared.events.Event.{Event}
use Rattle.object_store.specs.Machine.{Slot, slot_of, fresh_slot, through, effect, leaves, put_at, is_on, first_put, last_put, was_done}
use Rattle.store_api.specs.Journal.{IsGood, IsGoodJournal, IsFirst, IsOnce, IsPolite, MayPutNew, WasPut, ParentPut, puts_of, rows_of, tree_of, snap_in, snap_made}
use Rattle.object_store.proofs.Journals.{Each-one}
use Rattle.object_store.proofs.Slots.{same_key-true, effect-cases, free-cases, old-cases, slot-append_one, sound}
use Rattle.store_api.proofs.Standing.{standing, rows-stay, puts-stay}
use Rattle.store_api.proofs.Naming.{names-law}
use Rattle.session.specs.Sources.{MayDrawNode}
use Rattle.commit_path.proofs.Knowing.{tree-by_rows}
use Rattle.commit_path.proofs.Readable.{readable-extend}
use Rattle.run_histories.specs.Sources.{NodesAreNew}
use Rattle.run_histories.specs.Runs.{HasWellFormedTree, AllTrees}

-- ---- what was put last was put first
abbrev WasFirst : Slot → Type 0
WasFirst slot = (b : List ℕ) → slot.last ≡ Some b → (c : List ℕ) × (slot.first ≡ Some c)

or_some : (o : Option (List ℕ)) (b : List ℕ) → (c : List ℕ) × (option_or o (Some b) ≡ Some c)
or_some None b = (b, refl)
or_some (Some c) b = (c, refl)

leaves-first : (op : Op) (n time : ℕ) (slot : Slot) → WasFirst slot → WasFirst (leaves n time op slot)
leaves-first (Get key) n time slot w = w
leaves-first (PutNew key bytes why) n time slot w = free-cases WasFirst slot.stands (put_at n time bytes slot) slot w (λ e b k. or_some slot.first bytes)
leaves-first (PutOver key bytes old why) n time slot w = old-cases WasFirst old.0 slot.stands (put_at n time bytes slot) slot w (λ s e v b k. or_some slot.first bytes)
leaves-first (Remove key why) n time slot w = w
leaves-first (RemoveAt key old why) n time slot w = old-cases WasFirst old.0 slot.stands (record slot { stands = None }) slot w (λ s e v. w)
leaves-first (ListPart part) n time slot w = w

through-first : (key : Key) (n : ℕ) (slot : Slot) (events : List Event) → WasFirst slot → WasFirst (through key n slot events)
unfolding through
through-first key n slot [] w = w
through-first key n slot (x ∷ xs) w = through-first key (n + 1) (effect key n slot x) xs (effect-cases WasFirst key n slot x w (λ on d. leaves-first x.op n x.time slot w))

last-put : (journal : List Event) (key : Key) (b : List ℕ) → last_put journal key ≡ Some b → WasPut journal key
unfolding slot_of
last-put journal key b e = through-first key 0 fresh_slot journal (λ c k. absurd cc) b e

-- a snapshot that has a tree was put
pub tree-put : (journal : List Event) (id : Id12) (t : Tree) → tree_of journal id ≡ Some t → WasPut journal (Snapshot id)
tree-put journal id t e = by_case (last_put journal (Snapshot id)) refl
  where
    by_case : (o : Option (List ℕ)) → last_put journal (Snapshot id) ≡ o → WasPut journal (Snapshot id)
    by_case None h = let no : tree_of journal id ≡ None = ap (λ (o : Option (List ℕ)). option_map (λ (s : SnapshotFile). tree_under (puts_of journal) s.nodes) (snap_in id o)) h in absurd cc
    by_case (Some b) h = last-put journal (Snapshot id) b h

-- ---- one more event
-- it puts the key as a new one, which these bytes are the first to stand at
pub record PutsFresh (journal : List Event) (event : Event) (key : Key) : Type 0 where
  pub bytes : List ℕ
  pub why : Why
  pub op_is : event.op ≡ PutNew key bytes why
  pub done : was_done event.reply ≡ true
  pub last : last_put (journal ++ event ∷ []) key ≡ Some bytes
  pub first : first_put (journal ++ event ∷ []) key ≡ Some bytes

record IsFresh (event : Event) (key : Key) (first : Option (List ℕ)) (slot : Slot) : Type 0 where
  bytes : List ℕ
  why : Why
  op_is : event.op ≡ PutNew key bytes why
  done : was_done event.reply ≡ true
  last : slot.last ≡ Some bytes
  first_is : slot.first ≡ option_or first (Some bytes)

-- the first put is as it was, or the event puts the key
abbrev Follows : Event → Key → Slot → Slot → Type 0
Follows event key old slot = (slot.first ≡ old.first) ⊎ IsFresh event key old.first slot

module _ (journal : List Event) (event : Event) (key : Key) where
  abbrev old : Slot
  old = slot_of journal key

  leaves-follow : (op : Op) → event.op ≡ op → is_on key op ≡ true → was_done event.reply ≡ true → ¬ WasPut journal key → Follows event key old (leaves (length journal) event.time op old)
  leaves-follow (Get k) e on d never = inl refl
  leaves-follow (PutNew k bytes why) e on d never = free-cases (Follows event key old) old.stands (put_at (length journal) event.time bytes old) old (inl refl)
      (λ free. inr (record { bytes = bytes; why = why; op_is = e ∙ ap (λ (x : Key). PutNew x bytes why) (same_key-true k key on); done = d; last = refl; first_is = refl }))
  leaves-follow (PutOver k bytes version why) e on d never = old-cases (Follows event key old) version.0 old.stands (put_at (length journal) event.time bytes old) old (inl refl) (λ s stands v. absurd (never ((sound journal key).first s stands)))
  leaves-follow (Remove k why) e on d never = inl refl
  leaves-follow (RemoveAt k version why) e on d never = old-cases (Follows event key old) version.0 old.stands (record old { stands = None }) old (inl refl) (λ s stands v. inl refl)
  leaves-follow (ListPart part) e on d never = inl refl

  by_follow : first_put journal key ≡ None → WasPut (journal ++ event ∷ []) key → Follows event key old (slot_of (journal ++ event ∷ []) key) → PutsFresh journal event key
  by_follow none put (inl same) = let is = sym put.1 ∙ (same ∙ none) in absurd cc
  by_follow none put (inr f) = record { bytes = f.bytes; why = f.why; op_is = f.op_is; done = f.done; last = f.last; first = f.first_is ∙ ap (λ (o : Option (List ℕ)). option_or o (Some f.bytes)) none }

  -- what was put was put before, or is put now
  pub put-now : WasPut (journal ++ event ∷ []) key → WasPut journal key ⊎ PutsFresh journal event key
  put-now put = by_case (first_put journal key) refl
    where
      by_case : (o : Option (List ℕ)) → first_put journal key ≡ o → WasPut journal key ⊎ PutsFresh journal event key
      by_case (Some b) e = inl (b, e)
      by_case None e =
          let never : ¬ WasPut journal key = λ w. let no = sym e ∙ w.1 in cc in
          inr (by_follow e put (subst (Follows event key old) (sym (slot-append_one journal event key)) (effect-cases (Follows event key old) key (length journal) old event (inl refl) (λ on d. leaves-follow event.op refl on d never))))

-- ---- trees after it
-- the parent of a snapshot was put
pub parent-put : (journal : List Event) (id base : Id12) (snap : SnapshotFile) → IsGoodJournal journal → snap_made journal id ≡ Some snap → snap.parent ≡ Some base → WasPut journal (Snapshot base)
parent-put journal id base snap g made parent =
    let p : ParentPut journal (Some snap) = subst (λ (o : Option SnapshotFile). ParentPut journal o) made ((names-law journal g).parents id) in
    p base parent

-- the parent of one that is put fresh was put before it
pub fresh-parent : (journal : List Event) (event : Event) (id base : Id12) (snap : SnapshotFile) → IsGood journal event → PutsFresh journal event (Snapshot id) → snap_made (journal ++ event ∷ []) id ≡ Some snap → snap.parent ≡ Some base → WasPut journal (Snapshot base)
fresh-parent journal event id base snap good n made parent =
    let polite : MayPutNew journal n.bytes n.why (Snapshot id) = subst (IsPolite journal) n.op_is good.polite in
    let read : snapshot_by id n.bytes ≡ Some snap = sym (ap (snap_in id) n.first) ∙ made in
    let p : ParentPut journal (Some snap) = subst (λ (o : Option SnapshotFile). ParentPut journal o) read polite.1 in
    p base parent

some-same : {A : Type 0} (a b : A) → Some a ≡ Some b → a ≡ b
some-same a b e = cc

module _ (journal : List Event) (event : Event) (once : IsOnce journal) (good : IsGood journal event) (first : IsFirst journal event) where
  abbrev after : List Event
  after = journal ++ event ∷ []

  pub tree-stays : (id : Id12) → WasPut journal (Snapshot id) → tree_of (journal ++ event ∷ []) id ≡ tree_of journal id
  tree-stays id w = standing id journal (event ∷ []) once w (Each-one IsGood journal event good) (Each-one IsFirst journal event first)

  pub rows-kept : (id : Id12) → WasPut journal (Snapshot id) → rows_of (journal ++ event ∷ []) id ≡ rows_of journal id
  rows-kept id w = rows-stay id journal (event ∷ []) once w (Each-one IsGood journal event good) (Each-one IsFirst journal event first)

  -- what was put stays put and readable
  pub grown : Extends (puts_of journal) (puts_of (journal ++ event ∷ []))
  grown = puts-stay journal (event ∷ []) once (Each-one IsGood journal event good) (Each-one IsFirst journal event first)

  pub trees-one : ((id : Id12) → PutsFresh journal event (Snapshot id) → HasWellFormedTree (journal ++ event ∷ []) id) → AllTrees journal → AllTrees (journal ++ event ∷ [])
  trees-one fresh trees id w = elim (put-now journal event (Snapshot id) w) [
    | inl before ↦
        let h = trees id before in
        let rows : rows_of (journal ++ event ∷ []) id ≡ Some h.rows = rows-kept id before ∙ h.is in
        let same : tree_under (puts_of journal) h.rows ≡ tree_under (puts_of (journal ++ event ∷ [])) h.rows =
        some-same (tree_under (puts_of journal) h.rows) (tree_under (puts_of (journal ++ event ∷ [])) h.rows) (sym (tree-by_rows journal id h.rows h.is) ∙ sym (tree-stays id before) ∙ tree-by_rows (journal ++ event ∷ []) id h.rows rows) in
        record {
          rows = h.rows;
          is = rows;
          has = record { readable = readable-extend (puts_of journal) (puts_of (journal ++ event ∷ [])) grown h.rows h.has.readable; well_formed = subst IsWellFormed same h.has.well_formed };
        }
    | inr now ↦ fresh id now
  ]

  pub nodes-one : (ids : AnyIds) → ((id : Id12) (t : Tree) (p : List ℕ) (n : Node) → PutsFresh journal event (Snapshot id) → tree_of (journal ++ event ∷ []) id ≡ Some t → node_at t p ≡ Some n → ¬ MayDrawNode ids n.id) → NodesAreNew ids journal → NodesAreNew ids (journal ++ event ∷ [])
  nodes-one ids fresh new id t p n tree node = elim (put-now journal event (Snapshot id) (tree-put after id t tree)) [
    | inl before ↦ new id t p n (sym (tree-stays id before) ∙ tree) node
    | inr now ↦ fresh id t p n now tree node
  ]

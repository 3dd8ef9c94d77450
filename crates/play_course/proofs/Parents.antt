-- Where the snapshots of a run over an empty store come from, whatever is cut.
use Rattle.std.proofs.Common.{◌≡◌, ℕ, ◌⊎◌, inl, inr, List, [], ◌∷◌, ◌++◌, sym, ◌∙◌, ap, subst}
use Rattle.std.specs.Prelude.{Some, None}
use Rattle.ice_ids.specs.declared.Id12.{Id12}
use Rattle.ice_ids.specs.Text.{initial_id}
use Rattle.snapshot_file.specs.declared.snapshot.SnapshotFile.{SnapshotFile}
use Rattle.repo_objects.specs.Readings.{snapshot_by}
use Rattle.object_store.specs.declared.keys.Key.TheVariants.{Snapshot, Txn}
use Rattle.object_store.specs.declared.events.Event.{Event}
use Rattle.object_store.specs.Machine.{Slot, Stored, found, first_put}
use Rattle.object_store.proofs.Slots.{WasPut-append, slot-none, sound}
use Rattle.store_api.specs.Journal.{Each, IsOnce, ParentPut, WasPut, snap_in}
use Rattle.store_api.proofs.Standing.{snap_made-append}
use Rattle.rebase.proofs.Made.{FirstPutAs, first-put-as, log-first}
use Rattle.run_histories.specs.Runs.{IsChildOf}
use Rattle.run_histories.proofs.Putting.{PutsFresh, fresh-parent, put-now}
use Rattle.play_course.proofs.Tidy.{IsAny, NamesParent, Puts, PutsNew, all-named, along, good-of}

some-same : {A : Type 0} (a b : A) → Some a ≡ Some b → a ≡ b
some-same a b e = cc

-- ---- logs
-- a log that stands is the one that was put first
pub log-stands_first : (id : Id12) (journal : List Event) (s : Stored) → Each IsAny [] journal → IsOnce journal → found journal (Txn id) ≡ Some s → first_put journal (Txn id) ≡ Some s.bytes
log-stands_first id journal s tidy once e =
    let slot = sound journal (Txn id) in
    let first = slot.first s e in
    first.1 ∙ ap (λ (b : List ℕ). Some b) (log-first journal id (good-of journal tidy) once first.0 s.bytes first.1 (slot.last s e))

-- ---- what was put
-- the snapshot named a parent when it was first put
pub record HasParent (journal : List Event) (id : Id12) : Type 0 where
  pub parent : Id12
  pub child : IsChildOf journal parent id

pub parent-more : (journal more : List Event) (id : Id12) → HasParent journal id → HasParent (journal ++ more) id
parent-more journal more id p = record { parent = p.parent; child = record { snap = p.child.snap; made = snap_made-append journal more id p.child.snap p.child.made; parent = p.child.parent } }

-- it is the initial snapshot, or named a parent; and the initial one was put
record IsRooted (journal : List Event) (id : Id12) : Type 0 where
  named : (id ≡ initial_id) ⊎ HasParent journal id
  initial : WasPut journal (Snapshot initial_id)

abbrev AllRooted : List Event → Type 0
AllRooted journal = (id : Id12) → WasPut journal (Snapshot id) → IsRooted journal id

rooted-more : (journal more : List Event) (id : Id12) → IsRooted journal id → IsRooted (journal ++ more) id
rooted-more journal more id r = record {
  named = elim r.named [ inl is ↦ inl is | inr p ↦ inr (parent-more journal more id p) ];
  initial = WasPut-append journal more (Snapshot initial_id) r.initial;
}

rooted-fresh : (journal : List Event) (event : Event) (id : Id12) → IsAny journal event → AllRooted journal → WasPut (journal ++ event ∷ []) (Snapshot id) → PutsFresh journal event (Snapshot id) → IsRooted (journal ++ event ∷ []) id
rooted-fresh journal event id t all put now = elim puts.1 [ inl is ↦ at-initial is | inr new ↦ with-parent new.1 ]
  where
    puts : PutsNew (λ i. Unit {0}) now.bytes (Snapshot id)
    puts = subst (Puts (λ i. Unit {0})) now.op_is t.puts

    at-initial : id ≡ initial_id → IsRooted (journal ++ event ∷ []) id
    at-initial is = record { named = inl is; initial = subst (λ (i : Id12). WasPut (journal ++ event ∷ []) (Snapshot i)) is put }

    with-parent : NamesParent id now.bytes → IsRooted (journal ++ event ∷ []) id
    with-parent n =
        let made = ap (snap_in id) now.first ∙ n.read in
        let before : WasPut journal (Snapshot n.parent) = fresh-parent journal event id n.parent n.snap t.good now made n.parent_is in
        record {
          named = inr (record { parent = n.parent; child = record { snap = n.snap; made = made; parent = n.parent_is } });
          initial = WasPut-append journal (event ∷ []) (Snapshot initial_id) (all n.parent before).initial;
        }

rooted-one : (journal : List Event) (event : Event) → IsAny journal event → AllRooted journal → AllRooted (journal ++ event ∷ [])
rooted-one journal event t all id put = elim (put-now journal event (Snapshot id) put) [
  | inl before ↦ rooted-more journal (event ∷ []) id (all id before)
  | inr now ↦ rooted-fresh journal event id t all put now
]

rooted-none : AllRooted []
rooted-none id put = let none : first_put [] (Snapshot id) ≡ None = ap (λ (s : Slot). s.first) (slot-none (Snapshot id)) in let some = put.1 in absurd cc

rooted : (journal : List Event) → Each IsAny [] journal → AllRooted journal
rooted journal tidy = along IsAny AllRooted rooted-one [] journal tidy rooted-none

-- ---- what stands
-- The parent that a snapshot names was put; and the snapshot named one when it was first put, it or another one.
abbrev pub ComesFrom : List Event → Id12 → SnapshotFile → Type 0
ComesFrom journal id f = (parent : Id12) → f.parent ≡ Some parent → WasPut journal (Snapshot parent) × HasParent journal id

pub comes-more : (journal more : List Event) (id : Id12) (f : SnapshotFile) → ComesFrom journal id f → ComesFrom (journal ++ more) id f
comes-more journal more id f c parent e = let h = c parent e in (WasPut-append journal more (Snapshot parent) h.0, parent-more journal more id h.1)

-- so it is of each that stands, as it was first put or cut
pub comes-from : (journal : List Event) → Each IsAny [] journal → IsOnce journal → (id : Id12) (s : Stored) (f : SnapshotFile) → found journal (Snapshot id) ≡ Some s → snapshot_by id s.bytes ≡ Some f → ComesFrom journal id f
comes-from journal tidy once id s f at read parent e = elim first.same [ inl same ↦ as-put same | inr cut ↦ as-cut cut.0 cut.1 ]
  where
    first : FirstPutAs journal id f
    first = first-put-as journal id s.bytes f (good-of journal tidy) once ((sound journal (Snapshot id)).last s at) read

    as-put : f ≡ first.snap → WasPut journal (Snapshot parent) × HasParent journal id
    as-put same =
        let own : first.snap.parent ≡ Some parent = ap (λ (x : SnapshotFile). x.parent) (sym same) ∙ e in (
          subst (ParentPut journal) first.made ((all-named journal tidy).parents id) parent own,
          record { parent = parent; child = record { snap = first.snap; made = first.made; parent = own } },
        )

    as-cut : f ≡ record first.snap { parent = Some initial_id } → ¬ (id ≡ initial_id) → WasPut journal (Snapshot parent) × HasParent journal id
    as-cut cut other =
        let is : parent ≡ initial_id = some-same parent initial_id (sym e ∙ ap (λ (x : SnapshotFile). x.parent) cut) in
        let root = rooted journal tidy id ((sound journal (Snapshot id)).first s at) in (
          subst (λ (i : Id12). WasPut journal (Snapshot i)) (sym is) root.initial,
          elim root.named [ inl same ↦ absurd (other same) | inr named ↦ named ],
        )

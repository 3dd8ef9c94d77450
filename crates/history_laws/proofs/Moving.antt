-- Where what refs name is safe, it is so behind one more event.
use Rattle.std.proofs.Common.{◌≡◌, ◌⊎◌, inl, inr, ℕ, List, [], ◌∷◌, ◌++◌, length, sym, ◌∙◌, ap, subst}
use Rattle.std.specs.Prelude.{Some, None}
use Rattle.std.specs.Option.{option_and_then}
use Rattle.ice_ids.specs.declared.Id12.{Id12}
use Rattle.ice_ids.specs.Text.{initial_id}
use Rattle.snapshot_file.specs.declared.snapshot.SnapshotFile.{SnapshotFile}
use Rattle.repo_objects.specs.Laws.{InitialLaw}
use Rattle.repo_objects.specs.Readings.{ref_of}
use Rattle.object_store.specs.declared.keys.Key.{Key}
use Rattle.object_store.specs.declared.keys.Key.TheVariants.{Snapshot, Manifest, Txn, Chunk, Branch, Tag, Tombstone, Lease}
use Rattle.object_store.specs.declared.keys.Why.{Why}
use Rattle.object_store.specs.declared.keys.Why.TheVariants.{Commit}
use Rattle.object_store.specs.declared.events.Op.TheVariants.{PutNew, PutOver}
use Rattle.object_store.specs.declared.events.Event.{Event}
use Rattle.object_store.specs.Machine.{Stored, Slot, slot_of, found}
use Rattle.object_store.proofs.Slots.{stood-is}
use Rattle.store_api.specs.Journal.{IsCommitOver, IsFirst, IsGood, IsMoved, IsOnce, IsPolite, MayPutNew, NamesPut, StoodAt, WasPut}
use Rattle.live_refs.specs.Laws.{IsNotGone}
use Rattle.reach.specs.Holding.{Reaches}
use Rattle.reach.specs.Own.{HoldsBesides}
use Rattle.history_laws.specs.Refs.{Names, Points, makes_branch, makes_tag, resets, Commits}
use Rattle.history_laws.proofs.Down.{stop}
use Rattle.history_laws.proofs.Steps.{IsNewPut, IsOverPut, step-one, new-polite, over-polite}
use Rattle.history_laws.proofs.Past.{Past}
use Rattle.history_laws.proofs.Safe.{Safe, safe-on, safe-quiet, safe-commit}

-- a tombstone stays
tombstone-stays : (journal : List Event) (event : Event) (name : List ℕ) → IsGood journal event → found (journal ++ event ∷ []) (Tombstone name) ≡ None → found journal (Tombstone name) ≡ None
tombstone-stays journal event name good none = elim (step-one journal event (Tombstone name)) [
  | inl same ↦ sym (ap (λ (s : Slot). s.stands) same) ∙ none
  | inr put ↦ elim put [
    | inl new ↦ new.free
    | inr over ↦ elim over [
      | inl moved ↦ absurd (over-polite journal event (Tombstone name) (slot_of (journal ++ event ∷ []) (Tombstone name)) good moved)
      | inr gone ↦ elim gone.removes [
        | inl h ↦ absurd (subst (IsPolite journal) h.1 good.polite)
        | inr h ↦ absurd (subst (IsPolite journal) h.2 good.polite)
      ]
    ]
  ]
]

not-gone-before : (journal : List Event) (event : Event) (ref : Key) → IsGood journal event → IsNotGone (found (journal ++ event ∷ [])) ref → IsNotGone (found journal) ref
not-gone-before journal event (Branch name) good h = h
not-gone-before journal event (Tag name) good h = tombstone-stays journal event name good h
not-gone-before journal event (Tombstone name) good h = h
not-gone-before journal event (Snapshot id) good h = h
not-gone-before journal event (Manifest id) good h = h
not-gone-before journal event (Txn id) good h = h
not-gone-before journal event (Chunk id) good h = h
not-gone-before journal event (Lease id) good h = h

module _ (initial : InitialLaw) (doomed : Key → Type 0) (young : List Event → Key → Type 0) (Found : Id12 → Type 0) (at : Found initial_id) (Later : Key → Type 0) (Begun : Type 0) (journal : List Event) (event : Event) (once : IsOnce journal) (good : IsGood journal event) (first : IsFirst journal event) (past : Past journal)
    (older : (key : Key) → young journal key → young (journal ++ event ∷ []) key) (log_young : (id : Id12) → WasPut journal (Snapshot id) → young journal (Txn id) → (id ≡ initial_id) ⊎ young journal (Snapshot id))
    (refs : (ref : Key) (id : Id12) → Names journal ref id → Later ref ⊎ Safe doomed young Found journal id) (free : (ref : Key) (id : Id12) → Names (journal ++ event ∷ []) ref id → Later ref ⊎ Begun)
    (quiet : Begun → (id : Id12) → Points journal event id → (key : Key) → Reaches journal id key → doomed key → ⊥) (own : Begun → (base id : Id12) → Commits journal event base id → (key : Key) → doomed key → HoldsBesides (young journal) base id journal) where
  abbrev Fine : Key → Id12 → Type 0
  Fine ref id = Later ref ⊎ Safe doomed young Found journal id

  -- a ref that is as it was
  same-ref : (ref : Key) (id : Id12) (h : Names (journal ++ event ∷ []) ref id) → found journal ref ≡ Some h.stored → Fine ref id
  same-ref ref id h was = refs ref id (record { is_ref = h.is_ref; not_gone = not-gone-before journal event ref good h.not_gone; stored = h.stored; stands = was; names = h.names })

  -- a ref that was put with these bytes
  put-bytes : (ref : Key) (id : Id12) (h : Names (journal ++ event ∷ []) ref id) (bytes : List ℕ) (version created : ℕ) → found (journal ++ event ∷ []) ref ≡ Some (record { bytes = bytes; version = version; created = created }) → ref_of bytes ≡ Some id
  put-bytes ref id h bytes version created is =
      let same : h.stored ≡ record { bytes = bytes; version = version; created = created } = let e = h.stands in cc in
      subst (λ (s : Stored). ref_of s.bytes ≡ Some id) same h.names

  named-put : (bytes : List ℕ) (id : Id12) → ref_of bytes ≡ Some id → NamesPut journal bytes → WasPut journal (Snapshot id)
  named-put bytes id e n = let same : n.id ≡ id = let f = n.reference in cc in subst (λ (x : Id12). WasPut journal (Snapshot x)) same n.put

  quiet-ref : (ref : Key) (id : Id12) → Names (journal ++ event ∷ []) ref id → WasPut journal (Snapshot id) → Points journal event id → Fine ref id
  quiet-ref ref id h put points = elim (free ref id h) [
    | inl later ↦ inl later
    | inr begun ↦ inr (safe-quiet doomed young Found journal id at (quiet begun id points) (past.ends id (inr put)))
  ]

  new-ref : (ref : Key) (id : Id12) → Names (journal ++ event ∷ []) ref id → (new : IsNewPut journal event ref (slot_of (journal ++ event ∷ []) ref)) → ref_of new.bytes ≡ Some id → Fine ref id
  new-ref (Branch name) id h new e =
      let polite : MayPutNew journal new.bytes new.why (Branch name) = new-polite journal event (Branch name) (slot_of (journal ++ event ∷ []) (Branch name)) good new in
      elim polite.1 [
        | inl for ↦ quiet-ref (Branch name) id h (named-put new.bytes id e polite.0) (makes_branch name new.bytes (new.op_is ∙ ap (λ (w : Why). PutNew (Branch name) new.bytes w) for) new.done new.free e)
        | inr begins ↦ (let same : id ≡ initial_id = let f = begins.2 in cc in inr (stop (subst Found (sym same) at)))
      ]
  new-ref (Tag name) id h new e =
      let polite : MayPutNew journal new.bytes new.why (Tag name) = new-polite journal event (Tag name) (slot_of (journal ++ event ∷ []) (Tag name)) good new in
      quiet-ref (Tag name) id h (named-put new.bytes id e polite.0) (makes_tag name new.bytes (new.op_is ∙ ap (λ (w : Why). PutNew (Tag name) new.bytes w) polite.1) new.done new.free e)
  new-ref (Tombstone name) id h new e = absurd h.is_ref
  new-ref (Snapshot x) id h new e = absurd h.is_ref
  new-ref (Manifest x) id h new e = absurd h.is_ref
  new-ref (Txn x) id h new e = absurd h.is_ref
  new-ref (Chunk x) id h new e = absurd h.is_ref
  new-ref (Lease x) id h new e = absurd h.is_ref

  -- a commit
  commit-ref : (name : List ℕ) (id : Id12) → Names (journal ++ event ∷ []) (Branch name) id → (moved : IsOverPut journal event (Branch name) (slot_of (journal ++ event ∷ []) (Branch name))) → event.op ≡ PutOver (Branch name) moved.bytes moved.old Commit → ref_of moved.bytes ≡ Some id → IsCommitOver journal name moved.old.0 id → WasPut journal (Snapshot id) → Fine (Branch name) id
  commit-ref name id h moved op e c put =
      let named : StoodAt journal (Branch name) moved.before.version c.named_by = subst (λ (n : ℕ). StoodAt journal (Branch name) n c.named_by) (sym moved.version_is) c.named in
      let same : moved.before.bytes ≡ c.named_by = stood-is journal (Branch name) moved.before c.named_by moved.there named in
      let base : ref_of moved.before.bytes ≡ Some c.base = ap ref_of same ∙ c.names in
      let over = c.once once in
      elim (refs (Branch name) c.base (record { is_ref = tt; not_gone = tt; stored = moved.before; stands = moved.there; names = base })) [
        | inl later ↦ inl later
        | inr safe ↦ elim (free (Branch name) id h) [
          | inl later ↦ inl later
          | inr begun ↦ inr (safe-commit doomed young Found at journal past c.base id
              (own begun c.base id (record { name = name; bytes = moved.bytes; old = moved.old; stored = moved.before; op_is = op; done = moved.done; stands = moved.there; version_is = moved.version_is; named = base; names = e }))
              (log_young id) safe put (ap (option_and_then (λ (s : SnapshotFile). s.parent)) over.made ∙ over.parent))
        ]
      ]

  over-ref : (ref : Key) (id : Id12) → Names (journal ++ event ∷ []) ref id → (moved : IsOverPut journal event ref (slot_of (journal ++ event ∷ []) ref)) → ref_of moved.bytes ≡ Some id → Fine ref id
  over-ref (Branch name) id h moved e =
      let polite : IsMoved journal name moved.old.0 moved.bytes moved.why = over-polite journal event (Branch name) (slot_of (journal ++ event ∷ []) (Branch name)) good moved in
      let put = named-put moved.bytes id e polite.names in
      elim polite.cause [
        | inl for ↦ quiet-ref (Branch name) id h put (resets name moved.bytes moved.old moved.before (moved.op_is ∙ ap (λ (w : Why). PutOver (Branch name) moved.bytes moved.old w) for) moved.done moved.there moved.version_is e)
        | inr for ↦
            let same : polite.names.id ≡ id = let f = polite.names.reference in cc in
            commit-ref name id h moved (moved.op_is ∙ ap (λ (w : Why). PutOver (Branch name) moved.bytes moved.old w) for.0) e (subst (IsCommitOver journal name moved.old.0) same for.1) put
      ]
  over-ref (Tag name) id h moved e = absurd (over-polite journal event (Tag name) (slot_of (journal ++ event ∷ []) (Tag name)) good moved)
  over-ref (Tombstone name) id h moved e = absurd h.is_ref
  over-ref (Snapshot x) id h moved e = absurd h.is_ref
  over-ref (Manifest x) id h moved e = absurd h.is_ref
  over-ref (Txn x) id h moved e = absurd h.is_ref
  over-ref (Chunk x) id h moved e = absurd h.is_ref
  over-ref (Lease x) id h moved e = absurd h.is_ref

  by-step : (ref : Key) (id : Id12) → Names (journal ++ event ∷ []) ref id → Fine ref id
  by-step ref id h = elim (step-one journal event ref) [
    | inl same ↦ same-ref ref id h (sym (ap (λ (s : Slot). s.stands) same) ∙ h.stands)
    | inr put ↦ elim put [
      | inl new ↦ new-ref ref id h new (put-bytes ref id h new.bytes (length journal) event.time (ap (λ (s : Slot). s.stands) new.slot_is))
      | inr over ↦ elim over [
        | inl moved ↦ over-ref ref id h moved (put-bytes ref id h moved.bytes (length journal) event.time (ap (λ (s : Slot). s.stands) moved.slot_is))
        | inr gone ↦ (let e = h.stands in let f : found (journal ++ event ∷ []) ref ≡ None = ap (λ (s : Slot). s.stands) gone.slot_is in cc)
      ]
    ]
  ]

  -- what refs name behind the event
  pub refs-one : (ref : Key) (id : Id12) → Names (journal ++ event ∷ []) ref id → Later ref ⊎ Safe doomed young Found (journal ++ event ∷ []) id
  refs-one ref id h = elim (by-step ref id h) [
    | inl later ↦ inl later
    | inr safe ↦ inr (safe-on doomed young initial Found Found at journal event once good first older id safe)
  ]

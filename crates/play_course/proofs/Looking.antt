-- What an expiry reads of a ref in a run over an empty store: no file that it gets can't be read.
use Rattle.std.proofs.Common.{◌≡◌, ℕ, zero, suc, Bool, true, false, cond, ◌&&◌, List, [], ◌∷◌, ◌++◌, length, refl, sym, subst}
use Rattle.std.specs.Prelude.{Option, Some, None, nat_lt, Result, Ok, Err}
use Rattle.flat_tables.specs.declared.header.Kind.TheVariants as kinds
use Rattle.flat_tables.specs.File.{file_limit}
use Rattle.ice_ids.specs.Text.{initial_id, same_id12}
use Rattle.ice_ids.specs.declared.Id12.{Id12}
use Rattle.ice_ids.specs.declared.drawing.AnyIds.{AnyIds}
use Rattle.snapshot_file.specs.declared.snapshot.SnapshotFile.{SnapshotFile}
use Rattle.repo_objects.specs.declared.bad_objects.Bad.{Bad}
use Rattle.repo_objects.specs.Readings.{read_ref, read_snapshot}
use Rattle.object_store.specs.declared.keys.Key.{Key}
use Rattle.object_store.specs.declared.keys.Key.TheVariants.{Snapshot}
use Rattle.object_store.specs.declared.events.Event.{Event}
use Rattle.object_store.specs.declared.events.Op.TheVariants.{Get}
use Rattle.object_store.specs.declared.events.Reply.TheVariants.{Failed}
use Rattle.object_store.specs.declared.events.Version.{Version}
use Rattle.object_store.specs.Machine.{version_at}
use Rattle.object_store.proofs.Slots.{WasPut-append}
use Rattle.store_api.specs.declared.machines.Refusal.{Refusal}
use Rattle.store_api.specs.declared.machines.Refusal.TheVariants as R
use Rattle.store_api.specs.Journal.{WasPut}
use Rattle.store_api.specs.Program.{Done}
use Rattle.store_api.specs.Running.{Program, on_answer}
use Rattle.repo_read.specs.Answers.{at_key, resolved_at}
use Rattle.expiry.specs.declared.look.Decision.{Decision}
use Rattle.expiry.specs.declared.look.Decision.TheVariants.{Gone, Keeps, Drops, Cuts}
use Rattle.expiry.specs.declared.terms.Terms.{Terms}
use Rattle.expiry.specs.Looks.{asks, but_initial, cut_bytes, cuts, if_there, look_below, look_head, look_named, look_program, most_below, next_of, ref_seen, seen_at, snapshot_seen}
use Rattle.expiry.specs.Verdicts.{is_older, may_drop}
use Rattle.play_course.specs.Refusing.{is_strange}
use Rattle.play_course.proofs.Tidy.{Client, put-stands, stands-readable}
use Rattle.play_course.proofs.Parents.{comes-from}
use Rattle.play_course.proofs.Meeting.{was-read, Meets, done-meets, ask-meets, got-meets}
use Rattle.play_course.proofs.Knowing.{IsKept, beside, kept-next, kept-others, missing-plain}
use Rattle.play_course.proofs.Edges.{IsRef, named-at}

-- what a reading of a snapshot tells: the snapshot, and the version at which it was read
abbrev told_type : {A : Type 0} → Result A Refusal → Type 0
told_type {A = A} told = A

abbrev Seen : Type 0
Seen = told_type (snapshot_seen initial_id (Failed false))

-- ---- what is read next
-- it was put
abbrev NextPut : Option Id12 → List Event → Type 0
NextPut None h = Unit {0}
NextPut (Some id) h = WasPut h (Snapshot id)

next-put : (f : SnapshotFile) (h : List Event) → ((parent : Id12) → f.parent ≡ Some parent → WasPut h (Snapshot parent)) → NextPut (next_of f) h
next-put f h put = by_id (same_id12 f.id initial_id)
  where
    by_test : (p : Id12) → WasPut h (Snapshot p) → (b : Bool) → NextPut (cond b None (Some p)) h
    by_test p w true = tt
    by_test p w false = w

    by_parent : (o : Option Id12) → f.parent ≡ o → NextPut (but_initial o) h
    by_parent None e = tt
    by_parent (Some p) e = by_test p (put p e) (same_id12 p initial_id)

    by_id : (b : Bool) → NextPut (cond b None (but_initial f.parent)) h
    by_id true = tt
    by_id false = by_parent f.parent refl

module _ (client : Client) (ids : AnyIds) (t : Terms) where
  -- the journal is known still, or the ref is refused as it may be
  abbrev pub LooksWell : Result Decision Refusal → List Event → Type 0
  LooksWell (Ok decision) h = IsKept client h
  LooksWell (Err why) h = is_strange client.collects why ≡ false

  abbrev Well : Program Decision → List Event → Type 0
  Well p h = Meets LooksWell (beside client ids) p h

  decided : (decision : Decision) (h : List Event) → IsKept client h → Well (Done (Ok decision)) h
  decided decision h k = done-meets LooksWell (beside client ids) (Ok decision) h k

  refused : (why : Refusal) (h : List Event) → is_strange client.collects why ≡ false → Well (Done (Err why)) h
  refused why h plain = done-meets LooksWell (beside client ids) (Err why) h plain

  -- ---- a snapshot
  -- it goes on well behind a snapshot whose parent was put
  abbrev GoesOn : (Seen → Program Decision) → Type 0
  GoesOn next = (seen : Seen) (h : List Event) → NextPut (next_of seen.file) h → IsKept client h → Well (next seen) h

  snapshot-meets : (id : Id12) (next : Seen → Program Decision) (journal : List Event) → WasPut journal (Snapshot id) → IsKept client journal → GoesOn next → Well (asks (Get (Snapshot id)) (snapshot_seen id) next) journal
  snapshot-meets id next journal put k go =
      ask-meets LooksWell (beside client ids) (Get (Snapshot id)) (λ reply. on_answer next (snapshot_seen id reply)) journal (λ more event others own is.
      let mid = kept-others client ids journal more others k in
      let after : List Event = (journal ++ more) ++ event ∷ [] in
      got-meets LooksWell (beside client ids) (λ reply. on_answer next (snapshot_seen id reply)) (journal ++ more) event own.tidy.good after (Snapshot id) is
      (λ st at.
      let can = stands-readable id (journal ++ more) st mid.tidy at in
      let from = comes-from (journal ++ more) mid.tidy mid.so_far.once id st can.0 at can.1 in
      let seen : Seen = record { file = can.0; version = version_at st.version } in
      subst (λ (r : Result SnapshotFile Bad). Well (on_answer next (seen_at (version_at st.version) (at_key (Snapshot id) r))) after) (sym (was-read (read_snapshot id st.bytes) can.0 can.1))
      (go seen after (next-put can.0 after (λ parent e. WasPut-append (journal ++ more) (event ∷ []) (Snapshot parent) (from parent e).0)) (kept-next client (journal ++ more) event own.tidy own.after mid)))
      (λ gone. refused (R.Missing (Snapshot id)) after (missing-plain client.collects (Snapshot id) (λ none. put-stands (Snapshot id) tt (journal ++ more) (mid.so_far.stand none) (WasPut-append journal more (Snapshot id) put) gone)))
      (λ done. refused R.StoreFault after refl))

  -- ---- down the parents
  cuts-meet : (last : Seen) (h : List Event) → IsKept client h → Well (Done (cuts last)) h
  cuts-meet last h k = by_size (nat_lt file_limit (length (cut_bytes last.file)))
    where
      by_size : (long : Bool) → Well (Done (cond long (Err (R.TooLarge kinds.Snapshot)) (Ok (Cuts last.file.id last.version (cut_bytes last.file))))) h
      by_size true = refused (R.TooLarge kinds.Snapshot) h refl
      by_size false = decided (Cuts last.file.id last.version (cut_bytes last.file)) h k

  older-meets : (last : Seen) (below : Program Decision) (h : List Event) → IsKept client h → Well below h → (older : Bool) → Well (cond older (Done (cuts last)) below) h
  older-meets last below h k go true = cuts-meet last h k
  older-meets last below h k go false = go

  below-meets : (left : ℕ) (last : Seen) (next : Option Id12) (journal : List Event) → NextPut next journal → IsKept client journal → Well (look_below left t.cutoff last next) journal
  unfolding look_below
  below-meets left last None journal put k = decided Keeps journal k
  below-meets zero last (Some id) journal put k = refused R.TooDeep journal refl
  below-meets (suc left) last (Some id) journal put k =
      snapshot-meets id (λ (seen : Seen). cond (is_older t.cutoff seen.file) (Done (cuts last)) (look_below left t.cutoff seen (next_of seen.file))) journal put k
      (λ seen h next known. older-meets last (look_below left t.cutoff seen (next_of seen.file)) h known (below-meets left seen (next_of seen.file) h next known) (is_older t.cutoff seen.file))

  -- ---- from the ref on
  head-meets : (ref : Key) (version : Version) → GoesOn (look_head t ref version)
  head-meets ref version head h next k = by_test (may_drop t ref && is_older t.cutoff head.file)
    where
      by_test : (drops : Bool) → Well (cond drops (Done (Ok (Drops version))) (look_below most_below t.cutoff head (next_of head.file))) h
      by_test true = decided (Drops version) h k
      by_test false = below-meets most_below head (next_of head.file) h next k

  -- a ref is never refused so
  pub look-meets : (ref : Key) (journal : List Event) → IsRef ref → IsKept client journal → Meets LooksWell (beside client ids) (look_program t ref) journal
  look-meets ref journal is_ref k =
      ask-meets LooksWell (beside client ids) (Get ref) (λ reply. on_answer (look_named t ref) (ref_seen ref reply)) journal (λ more event others own is.
      let mid = kept-others client ids journal more others k in
      let after : List Event = (journal ++ more) ++ event ∷ [] in
      let known = kept-next client (journal ++ more) event own.tidy own.after mid in
      got-meets LooksWell (beside client ids) (λ reply. on_answer (look_named t ref) (ref_seen ref reply)) (journal ++ more) event own.tidy.good after ref is
      (λ st at.
      let n = named-at ref (journal ++ more) st is_ref mid.tidy at in
      subst (λ (r : Result Id12 Bad). Well (on_answer (look_named t ref) (if_there (resolved_at (version_at st.version) (at_key ref r)))) after) (sym (was-read (read_ref st.bytes) n.id n.reference))
      (snapshot-meets n.id (look_head t ref (version_at st.version)) after (WasPut-append (journal ++ more) (event ∷ []) (Snapshot n.id) n.put) known (head-meets ref (version_at st.version))))
      (λ gone. decided Gone after known)
      (λ done. refused R.StoreFault after refl))

-- What a set of a chunk answers in a run over an empty store.
use Rattle.std.proofs.Common.{◌≡◌, inl, inr, ℕ, Bool, true, false, cond, List, [], ◌∷◌, ◌++◌, length, refl, sym, ◌∙◌, ap, subst}
use Rattle.std.specs.Prelude.{Option, Some, None, Result, Ok, Err, option_and_then}
use Rattle.ice_ids.specs.declared.Id12.{Id12}
use Rattle.ice_ids.specs.declared.drawing.AnyIds.{AnyIds}
use Rattle.ice_ids.specs.Drawing.{after12}
use Rattle.zarr_changes.specs.Sets.{set_refusal}
use Rattle.manifest_file.specs.declared.manifest.Place.TheVariants.{Inline, Object}
use Rattle.repo_objects.specs.Trees.{part_of}
use Rattle.object_store.specs.declared.keys.Key.{Key}
use Rattle.object_store.specs.declared.keys.Key.TheVariants.{Chunk}
use Rattle.object_store.specs.declared.keys.Why.{Why}
use Rattle.object_store.specs.declared.keys.Why.TheVariants.{Set}
use Rattle.object_store.specs.declared.events.Op.{Op}
use Rattle.object_store.specs.declared.events.Op.TheVariants.{PutNew}
use Rattle.object_store.specs.declared.events.Event.{Event}
use Rattle.store_api.specs.declared.machines.Refusal.{Refusal}
use Rattle.store_api.specs.declared.machines.Refusal.TheVariants as R
use Rattle.object_store.specs.Machine.{Stored, Slot, slot_of, effect, found, last_put, is_on, was_done, leaves, put_at, where_free}
use Rattle.store_api.specs.Journal.{WasPut, IsGood}
use Rattle.store_api.specs.Program.{Done}
use Rattle.store_api.specs.Running.{Program}
use Rattle.object_store.proofs.Journals.{Each-one}
use Rattle.object_store.proofs.Slots.{same_key-refl, slot-append_one, sound}
use Rattle.session.specs.Sessions.{SessionState, nodes_seen}
use Rattle.session.specs.Editing.{refusal_of_edit}
use Rattle.session.specs.Chunks.{with_chunk, after_draw, after_object, put_object, set_program}
use Rattle.commit_path.specs.Opened.{IsOpened}
use Rattle.commit_path.proofs.Knowing.{IsOpened-append}
use Rattle.region_calls.proofs.Setting.{taken, entries-opened, chunk-opened, IsOut, session_out, set-cases, part-whole}
use Rattle.run_histories.proofs.Edits.{SetsChunk, Edits, edit-goes, edit-base, own-stay}
use Rattle.run_histories.proofs.Drawing.{set-draws}
use Rattle.play_course.specs.Refusing.{is_strange}
use Rattle.play_course.proofs.Tidy.{Client}
use Rattle.play_course.proofs.Meeting.{Meets, done-meets, ask-meets, put-meets}
use Rattle.play_course.proofs.Knowing.{Before, beside, before-put, drawn-now, plain-beside}
use Rattle.play_course.proofs.Holding.{KnowsSession, knows-others}
use Rattle.play_course.proofs.Reading.{edit-plain}

-- ---- what a put leaves
pub put-slot : (journal : List Event) (event : Event) (key : Key) (bytes : List ℕ) (why : Why) → event.op ≡ PutNew key bytes why → was_done event.reply ≡ true → found journal key ≡ None
    → slot_of (journal ++ event ∷ []) key ≡ put_at (length journal) event.time bytes (slot_of journal key)
unfolding effect
put-slot journal event key bytes why is done free =
    let slot : Slot = slot_of journal key in
    slot-append_one journal event key
    ∙ ap (λ (op : Op). cond (is_on key op) (cond (was_done event.reply) (leaves (length journal) event.time op slot) slot) slot) is
    ∙ ap (λ (b : Bool). cond b (cond (was_done event.reply) (leaves (length journal) event.time (PutNew key bytes why) slot) slot) slot) (same_key-refl key)
    ∙ ap (λ (b : Bool). cond b (leaves (length journal) event.time (PutNew key bytes why) slot) slot) done
    ∙ ap (λ (o : Option Stored). where_free o (put_at (length journal) event.time bytes slot) slot) free

pub put-last : (journal : List Event) (event : Event) (key : Key) (bytes : List ℕ) (why : Why) → event.op ≡ PutNew key bytes why → was_done event.reply ≡ true → found journal key ≡ None → last_put (journal ++ event ∷ []) key ≡ Some bytes
put-last journal event key bytes why is done free = ap (λ (s : Slot). s.last) (put-slot journal event key bytes why is done free)

pub last-was : (journal : List Event) (key : Key) (bytes : List ℕ) → last_put journal key ≡ Some bytes → WasPut journal key
last-was journal key bytes e = (sound journal key).begun bytes e

module _ (client : Client) (ids : AnyIds) (s : SessionState) (path index bytes : List ℕ) where
  -- a session is held in which the chunk was set, or the set is refused as it may be
  abbrev pub SetWell : Result SessionState Refusal → List Event → Type 0
  SetWell (Ok t) h = KnowsSession client ids t h × SetsChunk s t
  SetWell (Err why) h = is_strange client.collects why ≡ false

  -- what is held behind a set that the tree allows
  held-set : (t : SessionState) (journal : List Event) (a : SetsChunk s t) (h : KnowsSession client ids s journal) (new : List Event) → Before client t.ids new → IsOpened t new → KnowsSession client ids t new
  held-set t journal a h new before opened =
      let edits : Edits s t = inr (inr (inr (inl a))) in
      record {
        before = before;
        known = set-draws client.draw client.number s t h.known a;
        goes = edit-goes ids s t edits h.goes;
        own = own-stay ids t s (sym (edit-base s t edits)) h.own;
        opened = opened;
      }

  short-meets : (journal : List Event) → KnowsSession client ids s journal → set_refusal (nodes_seen s) path index (length bytes) ≡ None → Meets SetWell (beside client ids) (Done (Ok (with_chunk s path index (Inline bytes)))) journal
  short-meets journal h fine =
      let a : SetsChunk s (with_chunk s path index (Inline bytes)) = record { path = path; index = index; place = Inline bytes; allowed = fine; ids = s.ids; ids_are = inl refl; is = refl } in
      done-meets SetWell (beside client ids) (Ok (with_chunk s path index (Inline bytes))) journal (
        held-set (with_chunk s path index (Inline bytes)) journal a h journal h.before
            (chunk-opened s path index (Inline bytes) (length bytes) (taken (nodes_seen s) path index (length bytes) fine) journal (λ id offset size e. absurd cc) (bytes, refl, refl) h.opened),
        a,
      )

  out-meets : (id : Id12) → IsOut s path index bytes id → (journal : List Event) → KnowsSession client ids s journal → Meets SetWell (beside client ids) (put_object s path index bytes (Some id)) journal
  out-meets id out journal h =
      let t : SessionState = session_out s path index bytes id in
      ask-meets SetWell (beside client ids) (PutNew (Chunk id) bytes Set) (after_object t id) journal (λ more event others own is.
      let mid = knows-others client ids s journal more others h in
      let free = (mid.before.free id (drawn-now s.ids id out.drawn)).chunk in
      put-meets SetWell (beside client ids) (after_object t id) (journal ++ more) event own.tidy.good ((journal ++ more) ++ event ∷ []) (Chunk id) bytes Set is free
      (λ told.
      let done : was_done event.reply ≡ true = ap was_done told in
      let last = put-last (journal ++ more) event (Chunk id) bytes Set is done free in
      let after : List Event = (journal ++ more) ++ event ∷ [] in
      let a : SetsChunk s t = record { path = path; index = index; place = Object id 0 (length bytes); allowed = out.fine; ids = after12 s.ids; ids_are = inr refl; is = refl } in
      let opened : IsOpened s after = IsOpened-append s (journal ++ more) (event ∷ []) (Each-one IsGood (journal ++ more) event own.tidy.good) mid.opened in
      let drawn : IsOpened (after_draw s) after = entries-opened s (after12 s.ids) s.held.chunks after opened opened.objects opened.chunks in
      let object_is : (x : Id12) (offset size : ℕ) → Object id 0 (length bytes) ≡ Object x offset size → id ≡ x = λ x offset size e. cc in
      done-meets SetWell (beside client ids) (Ok t) after (
        held-set t (journal ++ more) a mid after (before-put client ids s.ids mid.known (journal ++ more) event (Chunk id) bytes Set id own is refl out.drawn mid.before)
            (chunk-opened (after_draw s) path index (Object id 0 (length bytes)) (length bytes) (taken (nodes_seen s) path index (length bytes) out.fine) after
            (λ x offset size e. subst (λ (y : Id12). WasPut after (Chunk y)) (object_is x offset size e) (last-was after (Chunk id) bytes last))
            (bytes, ap (option_and_then (part_of 0 (length bytes))) last ∙ part-whole bytes, refl)
            drawn),
        a,
      ))
      (λ failed. done-meets SetWell (beside client ids) (Err R.StoreFault) ((journal ++ more) ++ event ∷ []) refl))

  -- a set is never refused so
  pub set-meets : (journal : List Event) → KnowsSession client ids s journal → Meets SetWell (beside client ids) (set_program s path index bytes) journal
  set-meets journal h =
      set-cases s path index bytes (λ (p : Program SessionState). Meets SetWell (beside client ids) p journal)
      (λ w. done-meets SetWell (beside client ids) (Err R.ReadOnly) journal refl)
      (λ fault f. done-meets SetWell (beside client ids) (Err (refusal_of_edit fault)) journal (plain-beside client.collects (refusal_of_edit fault) (edit-plain fault)))
      (λ w f l. short-meets journal h f)
      (λ spent. done-meets SetWell (beside client ids) (Err R.IdsSpent) journal refl)
      (λ id out. out-meets id out journal h)

-- The bytes of chunks that a client put itself.
use Rattle.std.proofs.Common.{◌≡◌, ℕ, List, [], ◌∷◌, ◌++◌, length, refl, sym, ◌∙◌, ap, subst, append_assoc}
use Rattle.std.specs.Prelude.{Option, Some, None, option_and_then}
use Rattle.ice_ids.specs.declared.Id12.{Id12}
use Rattle.manifest_file.specs.declared.manifest.Place.TheVariants.{Object}
use Rattle.repo_objects.specs.Trees.{bytes_at, part_of}
use Rattle.object_store.specs.declared.keys.Key.TheVariants.{Chunk}
use Rattle.object_store.specs.declared.keys.Why.TheVariants.{Set}
use Rattle.object_store.specs.declared.events.New.TheVariants.{Done as New_done}
use Rattle.object_store.specs.declared.events.Version.{Version}
use Rattle.object_store.specs.declared.events.Op.{Op}
use Rattle.object_store.specs.declared.events.Op.TheVariants.{PutNew}
use Rattle.object_store.specs.declared.events.Reply.TheVariants.{New as Is_new}
use Rattle.object_store.specs.declared.events.Event.{Event}
use Rattle.object_store.specs.Machine.{Stored, found, last_put, new_of, was_done, UnlessFailed, IsHonest}
use Rattle.object_store.proofs.Journals.{Each-back}
use Rattle.store_api.specs.Journal.{Each, WasPut, IsGood, IsGoodJournal, IsOnce, puts_of}
use Rattle.commit_path.proofs.Putting.{puts-kept}
use Rattle.region_calls.specs.ChunkTold.{WasObjectPut}
use Rattle.region_calls.proofs.Setting.{part-whole}
use Rattle.play_course.proofs.Placing.{put-last, last-was}

free-of : (n time : ℕ) (version : Version) (now : ℕ) (at : Option Stored) → Is_new (New_done version now) ≡ Is_new (new_of n time at) → at ≡ None
free-of n time version now None e = refl
free-of n time version now (Some s) e = absurd cc

-- a put that was done found nothing at its key
put-free : (journal : List Event) (event : Event) (id : Id12) (bytes : List ℕ) (version : Version) (now : ℕ) → IsGood journal event → event.op ≡ PutNew (Chunk id) bytes Set → event.reply ≡ Is_new (New_done version now) → found journal (Chunk id) ≡ None
put-free journal event id bytes version now good op reply =
    let honest : UnlessFailed (IsHonest (found journal) (length journal) event.time event.op) event.reply = good.legal.answered in
    let by_reply : UnlessFailed (IsHonest (found journal) (length journal) event.time event.op) (Is_new (New_done version now)) = subst (UnlessFailed (IsHonest (found journal) (length journal) event.time event.op)) reply honest in
    free-of (length journal) event.time version now (found journal (Chunk id)) (subst (λ (op : Op). IsHonest (found journal) (length journal) event.time op (Is_new (New_done version now))) op by_reply)

module _ (client : ℕ) (id : Id12) (bytes : List ℕ) (start journal : List Event) (good : IsGoodJournal journal) (once : IsOnce journal) (put : WasObjectPut client id bytes start journal) where
  last : last_put journal (Chunk id) ≡ Some bytes
  unfolding Each
  last =
      let own = put.own in
      let parts = Each-back IsGood [] own.before (own.event ∷ own.after) (subst IsGoodJournal own.is good) in
      let free = put-free own.before own.event id bytes put.version put.now parts.1.0 own.op_is own.reply_is in
      let then : last_put (own.before ++ own.event ∷ []) (Chunk id) ≡ Some bytes = put-last own.before own.event (Chunk id) bytes Set own.op_is (ap was_done own.reply_is) free in
      let whole : (own.before ++ own.event ∷ []) ++ own.after ≡ journal = append_assoc own.before (own.event ∷ []) own.after ∙ sym own.is in
      let kept = puts-kept (own.before ++ own.event ∷ []) own.after parts.1.1 (subst IsOnce (sym whole) once) in
      subst (λ (h : List Event). last_put h (Chunk id) ≡ Some bytes) whole (kept.chunks id bytes then)

  -- the bytes that it put are the object's for good
  pub object-bytes : bytes_at (puts_of journal) (Object id 0 (length bytes)) ≡ Some bytes
  object-bytes = ap (option_and_then (part_of 0 (length bytes))) last ∙ part-whole bytes

  pub object-put : WasPut journal (Chunk id)
  object-put = last-was journal (Chunk id) bytes last

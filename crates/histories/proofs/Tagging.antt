-- The states of tags run beside the journal.
use Rattle.std.proofs.Common.{◌≡◌, inl, inr, ℕ, ◌+◌, Bool, true, false, cond, List, [], ◌∷◌, ◌++◌, length, refl, sym, ◌∙◌, ap, subst, arith, add-zero, append_assoc, append-nil}
use Rattle.std.specs.Prelude.{Option, Some, None, option_map, bytes_eq}
use Rattle.ice_ids.specs.declared.Id12.{Id12}
use Rattle.zarr_tree.specs.Trees.{Tree}
use Rattle.repo_objects.specs.Readings.{ref_of}
use Rattle.object_store.specs.declared.keys.Key.{Key}
use Rattle.object_store.specs.declared.keys.Key.TheVariants.{Tag, Tombstone}
use Rattle.object_store.specs.declared.keys.Why.{Why}
use Rattle.object_store.specs.declared.events.Op.{Op}
use Rattle.object_store.specs.declared.events.Op.TheVariants.{Get, PutNew, PutOver, Remove, RemoveAt, List as ListPart}
use Rattle.object_store.specs.declared.events.Reply.TheVariants.{Got as Is_got, New as Is_new}
use Rattle.object_store.specs.declared.events.Event.{Event}
use Rattle.object_store.specs.Machine.{Stored, Slot, fresh_slot, slot_of, effect, leaves, put_at, where_free, found, first_put, new_of, got_of, IsHonest, UnlessFailed, is_on, was_done}
use Rattle.store_api.specs.Journal.{Each, IsGood, IsPolite, WasPut, MayPutNew}
use Rattle.object_store.proofs.Slots.{bytes-true, same_key-true, slot-append_one, slot-none, effect-cases, free-cases}
use Rattle.histories.specs.Repository.{Entry}
use Rattle.histories.specs.Calls.{HasItsTree, StandsAs}
use Rattle.histories.specs.Tags.{TagState, Absent, Stands, Gone, made_as, TagCall, Open, Make, Drop, tag_called, GoesOnAs}
use Rattle.histories.specs.TagCalls.{tag_call, tag_called_if, tag_after, tag_along, tag_of, IsBuriedAs, GotTag, PutTag, GotTombstone, PutTombstone, TagAgrees}
use Rattle.histories.specs.Files.{Files}
use Rattle.histories.specs.Formats.{files_by}
use Rattle.histories.specs.Laws.{TagsLaw, NeverMoves}
use Rattle.histories.proofs.Linked.{told, unless-failed}

-- ---- states along journals
module _ (files : Files) (name : List ℕ) where
  along-append : (n : ℕ) (s : TagState) (xs ys : List Event) → tag_along files name n s (xs ++ ys) ≡ tag_along files name (n + length xs) (tag_along files name n s xs) ys
  unfolding tag_along
  along-append n s [] ys = rw add-zero
  along-append n s (x ∷ xs) ys =
      let e : (n + 1) + length xs ≡ n + length (x ∷ xs) = omega arith in
      along-append (n + 1) (tag_after files name n s x) xs ys ∙ ap (λ (k : ℕ). tag_along files name k (tag_along files name (n + 1) (tag_after files name n s x) xs) ys) e

  pub tag-append : (journal more : List Event) → tag_of files (journal ++ more) name ≡ tag_along files name (length journal) (tag_of files journal name) more
  unfolding tag_of
  tag-append journal more = along-append 0 Absent journal more ∙ ap (λ (k : ℕ). tag_along files name k (tag_along files name 0 Absent journal) more) (omega arith)

  tag-append_one : (journal : List Event) (event : Event) → tag_of files (journal ++ event ∷ []) name ≡ tag_after files name (length journal) (tag_of files journal name) event
  unfolding tag_along
  tag-append_one journal event = tag-append journal (event ∷ [])

  -- ---- a tag never moves
  goes-on : (s : TagState) → GoesOnAs s s
  goes-on Absent = tt
  goes-on (Stands e) = inl refl
  goes-on (Gone e) = refl

  goes-further : (a b c : TagState) → GoesOnAs a b → GoesOnAs b c → GoesOnAs a c
  goes-further Absent b c h k = tt
  goes-further (Stands e) b c (inl h) k = subst (λ (s : TagState). GoesOnAs s c) h k
  goes-further (Stands e) b c (inr h) k = inr (subst (λ (s : TagState). GoesOnAs s c) h k)
  goes-further (Gone e) b c h k = subst (λ (s : TagState). GoesOnAs s c) h k

  called-goes : (n : ℕ) (call : TagCall) (s : TagState) → GoesOnAs s (tag_called files.tree n call s)
  called-goes n call Absent = tt
  called-goes n Open (Stands e) = inl refl
  called-goes n (Make id) (Stands e) = inl refl
  called-goes n Drop (Stands e) = inr refl
  called-goes n Open (Gone e) = refl
  called-goes n (Make id) (Gone e) = refl
  called-goes n Drop (Gone e) = refl

  after-goes : (n : ℕ) (s : TagState) (event : Event) → GoesOnAs s (tag_after files name n s event)
  unfolding tag_after
  after-goes n s event = by_done (was_done event.reply) (tag_call files name event.op)
    where
      by_done : (b : Bool) (call : Option TagCall) → GoesOnAs s (cond b (tag_called_if files.tree n call s) s)
      by_done true None = goes-on s
      by_done true (Some call) = called-goes n call s
      by_done false call = goes-on s

  along-goes : (n : ℕ) (s : TagState) (events : List Event) → GoesOnAs s (tag_along files name n s events)
  unfolding tag_along
  along-goes n s [] = goes-on s
  along-goes n s (x ∷ xs) = goes-further s (tag_after files name n s x) _ (after-goes n s x) (along-goes (n + 1) (tag_after files name n s x) xs)

pub never-moves : NeverMoves
never-moves files journal more name = subst (λ (s : TagState). GoesOnAs (tag_of files journal name) s) (sym (tag-append files name journal more)) (along-goes files name (length journal) (tag_of files journal name) more)

-- ---- a tag that was put is there
module _ (name : List ℕ) where
  abbrev Unused : Slot → Type 0
  Unused slot = slot.stands ≡ None → slot.first ≡ None

  leaves-unused : (journal : List Event) (time : ℕ) (op : Op) → is_on (Tag name) op ≡ true → IsPolite journal op → Unused (slot_of journal (Tag name)) → Unused (leaves (length journal) time op (slot_of journal (Tag name)))
  leaves-unused journal time (Get key) k p h = h
  leaves-unused journal time (PutNew key bytes why) k p h = free-cases Unused (found journal (Tag name)) (put_at (length journal) time bytes (slot_of journal (Tag name))) (slot_of journal (Tag name)) h (λ free e. cc)
  leaves-unused journal time (PutOver key bytes old why) k p h = absurd (subst (λ (x : Key). IsPolite journal (PutOver x bytes old why)) (same_key-true key (Tag name) k) p)
  leaves-unused journal time (Remove key why) k p h = absurd (subst (λ (x : Key). IsPolite journal (Remove x why)) (same_key-true key (Tag name) k) p)
  leaves-unused journal time (RemoveAt key old why) k p h = absurd (subst (λ (x : Key). IsPolite journal (RemoveAt x old why)) (same_key-true key (Tag name) k) p)
  leaves-unused journal time (ListPart part) k p h = h

  effect-unused : (journal : List Event) (event : Event) → IsPolite journal event.op → Unused (slot_of journal (Tag name)) → Unused (effect (Tag name) (length journal) (slot_of journal (Tag name)) event)
  effect-unused journal event p h = effect-cases Unused (Tag name) (length journal) (slot_of journal (Tag name)) event h (λ k d. leaves-unused journal event.time event.op k p h)

-- ---- what stands beside a state
pub record Beside (trees : Id12 → Option Tree) (s : TagState) (tag tombstone : Option Stored) : Type 0 where
  pub stands : StandsAs (files_by trees) tag (made_as s)
  pub buried : IsBuriedAs s tombstone
  pub tree : HasItsTree trees (made_as s)

-- the same of what is equal
Beside-same : (trees : Id12 → Option Tree) (s t : TagState) (a b c d : Slot) → s ≡ t → a ≡ b → c ≡ d → Beside trees t b.stands d.stands → Beside trees s a.stands c.stands
Beside-same trees s t a b c d st ab cd h =
    subst (λ (x : TagState). Beside trees x a.stands c.stands) (sym st) (subst (λ (x : Slot). Beside trees t x.stands c.stands) (sym ab) (subst (λ (x : Slot). Beside trees t b.stands x.stands) (sym cd) h))

cond-same : {A : Type 0} (b : Bool) (x : A) → cond b x x ≡ x
cond-same true x = refl
cond-same false x = refl

-- a state at which something is there was made
was-made : (files : Files) (s : TagState) (x : Stored) → StandsAs files (Some x) (made_as s) → (e : Entry) × (made_as s ≡ Some e)
was-made files Absent x h = absurd h
was-made files (Stands e) x h = (e, refl)
was-made files (Gone e) x h = (e, refl)

module _ (trees : Id12 → Option Tree) where
  -- a put of the tag
  make-cases : (n : ℕ) (id : Id12) (s : TagState) (at tombstone : Option Stored) (new slot : Slot) → StandsAs (files_by trees) at (made_as s) → Beside trees s slot.stands tombstone → StandsAs (files_by trees) new.stands (Some (record { version = n; id = id; tree = trees id })) → Beside trees (tag_called trees n (Make id) s) (where_free at new slot).stands tombstone
  make-cases n id Absent None tombstone new slot h b put = record { stands = put; buried = b.buried; tree = refl }
  make-cases n id Absent (Some x) tombstone new slot h b put = absurd h
  make-cases n id (Stands e) None tombstone new slot h b put = absurd h
  make-cases n id (Stands e) (Some x) tombstone new slot h b put = b
  make-cases n id (Gone e) None tombstone new slot h b put = absurd h
  make-cases n id (Gone e) (Some x) tombstone new slot h b put = b

  -- a put of the tombstone
  drop-cases : (n : ℕ) (s : TagState) (at tag : Option Stored) (new slot : Slot) (x : Stored) → IsBuriedAs s at → (e : Entry) × (made_as s ≡ Some e) → Beside trees s tag slot.stands → new.stands ≡ Some x → Beside trees (tag_called trees n Drop s) tag (where_free at new slot).stands
  drop-cases n Absent at tag new slot x h m b put = cc
  drop-cases n (Stands e) None tag new slot x h m b put = record { stands = b.stands; buried = (x, put); tree = b.tree }
  drop-cases n (Stands e) (Some y) tag new slot x h m b put = cc
  drop-cases n (Gone e) None tag new slot x h m b put = let none = h.1 in cc
  drop-cases n (Gone e) (Some y) tag new slot x h m b put = b

  module _ (journal : List Event) (name : List ℕ) (s : TagState) (beside : Beside trees s (found journal (Tag name)) (found journal (Tombstone name))) (made : WasPut journal (Tag name) → (e : Entry) × (made_as s ≡ Some e)) where
    -- what an operation that was done leaves at a key
    abbrev left : Key → ℕ → Op → Slot
    left key time op = cond (is_on key op) (leaves (length journal) time op (slot_of journal key)) (slot_of journal key)

    abbrev After : TagState → ℕ → Op → Type 0
    After t time op = Beside trees t (left (Tag name) time op).stands (left (Tombstone name) time op).stands

    tag-put : (time : ℕ) (tag bytes : List ℕ) (why : Why) → MayPutNew journal bytes why (Tag tag) → (b : Bool) → bytes_eq tag name ≡ b
        → Beside trees (tag_called_if trees (length journal) (cond b (option_map (λ id. Make id) (ref_of bytes)) None) s) (cond b (where_free (found journal (Tag name)) (put_at (length journal) time bytes (slot_of journal (Tag name))) (slot_of journal (Tag name))) (slot_of journal (Tag name))).stands (found journal (Tombstone name))
    tag-put time tag bytes why p true e = rw p.0.reference (make-cases (length journal) p.0.id s (found journal (Tag name)) (found journal (Tombstone name)) (put_at (length journal) time bytes (slot_of journal (Tag name))) (slot_of journal (Tag name)) beside.stands beside (refl, p.0.reference))
    tag-put time tag bytes why p false e = beside

    tombstone-put : (time : ℕ) (tag bytes : List ℕ) (why : Why) → MayPutNew journal bytes why (Tombstone tag) → (b : Bool) → bytes_eq tag name ≡ b
        → Beside trees (tag_called_if trees (length journal) (cond b (Some Drop) None) s) (found journal (Tag name)) (cond b (where_free (found journal (Tombstone name)) (put_at (length journal) time bytes (slot_of journal (Tombstone name))) (slot_of journal (Tombstone name))) (slot_of journal (Tombstone name))).stands
    tombstone-put time tag bytes why p true e = drop-cases (length journal) s (found journal (Tombstone name)) (found journal (Tag name)) (put_at (length journal) time bytes (slot_of journal (Tombstone name))) (slot_of journal (Tombstone name)) _ beside.buried (made (subst (λ (t : List ℕ). WasPut journal (Tag t)) (bytes-true tag name e) p)) beside refl
    tombstone-put time tag bytes why p false e = beside

    op-beside : (time : ℕ) (op : Op) → IsPolite journal op → After (tag_called_if trees (length journal) (tag_call (files_by trees) name op) s) time op
    op-beside time (Get key) p = rw (cond-same (is_on (Tag name) (Get key)) (slot_of journal (Tag name)), cond-same (is_on (Tombstone name) (Get key)) (slot_of journal (Tombstone name))) beside
    op-beside time (PutNew (Tag tag) bytes why) p = tag-put time tag bytes why p (bytes_eq tag name) refl
    op-beside time (PutNew (Tombstone tag) bytes why) p = tombstone-put time tag bytes why p (bytes_eq tag name) refl
    op-beside time (PutNew _ bytes why) p = beside
    op-beside time (PutOver (Tag tag) bytes old why) p = absurd p
    op-beside time (PutOver (Tombstone tag) bytes old why) p = absurd p
    op-beside time (PutOver _ bytes old why) p = beside
    op-beside time (Remove (Tag tag) why) p = absurd p
    op-beside time (Remove (Tombstone tag) why) p = absurd p
    op-beside time (Remove _ why) p = beside
    op-beside time (RemoveAt (Tag tag) old why) p = absurd p
    op-beside time (RemoveAt (Tombstone tag) old why) p = absurd p
    op-beside time (RemoveAt _ old why) p = beside
    op-beside time (ListPart part) p = beside

    event-beside : (event : Event) → IsPolite journal event.op → Beside trees (tag_after (files_by trees) name (length journal) s event) (effect (Tag name) (length journal) (slot_of journal (Tag name)) event).stands (effect (Tombstone name) (length journal) (slot_of journal (Tombstone name)) event).stands
    unfolding tag_after effect
    event-beside event p = by_done (was_done event.reply)
      where
        by_done : (b : Bool) → Beside trees (cond b (tag_called_if trees (length journal) (tag_call (files_by trees) name event.op) s) s) (cond (is_on (Tag name) event.op) (cond b (leaves (length journal) event.time event.op (slot_of journal (Tag name))) (slot_of journal (Tag name))) (slot_of journal (Tag name))).stands (cond (is_on (Tombstone name) event.op) (cond b (leaves (length journal) event.time event.op (slot_of journal (Tombstone name))) (slot_of journal (Tombstone name))) (slot_of journal (Tombstone name))).stands
        by_done true = op-beside event.time event.op p
        by_done false = rw (cond-same (is_on (Tag name) event.op) (slot_of journal (Tag name)), cond-same (is_on (Tombstone name) event.op) (slot_of journal (Tombstone name))) beside

-- ---- answers
got-tag : (files : Files) (now : ℕ) (at : Option Stored) (l : Option Entry) → StandsAs files at l → GotTag files l (Is_got (got_of now at))
got-tag files now None None h = (now, refl)
got-tag files now None (Some e) h = absurd h
got-tag files now (Some x) None h = absurd h
got-tag files now (Some x) (Some e) h = record { bytes = x.bytes; now = now; is = ap (λ (v : ℕ). Is_got (got_of now (Some (record x { version = v })))) h.0; names = h.1 }

put-tag : (files : Files) (n now : ℕ) (at : Option Stored) (l : Option Entry) → StandsAs files at l → PutTag n l (Is_new (new_of n now at))
put-tag files n now None None h = (now, refl)
put-tag files n now None (Some e) h = absurd h
put-tag files n now (Some x) None h = absurd h
put-tag files n now (Some x) (Some e) h = (now, ap (λ (v : ℕ). Is_new (new_of n now (Some (record x { version = v })))) h.0)

got-tombstone : (now : ℕ) (at : Option Stored) (s : TagState) → IsBuriedAs s at → GotTombstone s (Is_got (got_of now at))
got-tombstone now at Absent h = (now, ap (λ o. Is_got (got_of now o)) h)
got-tombstone now at (Stands e) h = (now, ap (λ o. Is_got (got_of now o)) h)
got-tombstone now at (Gone e) h = (h.0.bytes, h.0.version, now, ap (λ o. Is_got (got_of now o)) h.1)

put-tombstone : (n now : ℕ) (at : Option Stored) (s : TagState) → IsBuriedAs s at → (e : Entry) × (made_as s ≡ Some e) → PutTombstone n s (Is_new (new_of n now at))
put-tombstone n now at Absent h m = cc
put-tombstone n now at (Stands e) h m = (now, ap (λ o. Is_new (new_of n now o)) h)
put-tombstone n now at (Gone e) h m = (h.0.version, now, ap (λ o. Is_new (new_of n now o)) h.1)

module _ (trees : Id12 → Option Tree) where
  -- what stands at a tag is as its state says, and one that was put is there
  pub record IsRun (journal : List Event) (name : List ℕ) : Type 0 where
    pub beside : Beside trees (tag_of (files_by trees) journal name) (found journal (Tag name)) (found journal (Tombstone name))
    pub unused : Unused name (slot_of journal (Tag name))

  abbrev AllRun : List Event → Type 0
  AllRun journal = (name : List ℕ) → IsRun journal name

  -- a tag that was put was made
  put-made : (journal : List Event) (name : List ℕ) → IsRun journal name → WasPut journal (Tag name) → (e : Entry) × (made_as (tag_of (files_by trees) journal name) ≡ Some e)
  put-made journal name r w = there (found journal (Tag name)) refl
    where
      there : (o : Option Stored) → found journal (Tag name) ≡ o → (e : Entry) × (made_as (tag_of (files_by trees) journal name) ≡ Some e)
      there None f = let never : first_put journal (Tag name) ≡ None = r.unused f in let first = w.1 in cc
      there (Some x) f = was-made (files_by trees) (tag_of (files_by trees) journal name) x (subst (λ (o : Option Stored). StandsAs (files_by trees) o (made_as (tag_of (files_by trees) journal name))) f r.beside.stands)

  agrees-one : (journal : List Event) (event : Event) → AllRun journal → IsGood journal event → TagAgrees (files_by trees) journal event
  agrees-one journal event run good = record {
    got = λ name e. unless-failed _ _ (λ r h. told (GotTag (files_by trees) (made_as (tag_of (files_by trees) journal name))) _ r (got-tag (files_by trees) event.time (found journal (Tag name)) (made_as (tag_of (files_by trees) journal name)) (run name).beside.stands) h) event.reply (answered (Get (Tag name)) e);
    put = λ name bytes why e. unless-failed _ _ (λ r h. told (PutTag (length journal) (made_as (tag_of (files_by trees) journal name))) _ r (put-tag (files_by trees) (length journal) event.time (found journal (Tag name)) (made_as (tag_of (files_by trees) journal name)) (run name).beside.stands) h) event.reply (answered (PutNew (Tag name) bytes why) e);
    got_tombstone = λ name e. unless-failed _ _ (λ r h. told (GotTombstone (tag_of (files_by trees) journal name)) _ r (got-tombstone event.time (found journal (Tombstone name)) (tag_of (files_by trees) journal name) (run name).beside.buried) h) event.reply (answered (Get (Tombstone name)) e);
    put_tombstone = λ name bytes why e. unless-failed _ _ (λ r h. told (PutTombstone (length journal) (tag_of (files_by trees) journal name)) _ r (put-tombstone (length journal) event.time (found journal (Tombstone name)) (tag_of (files_by trees) journal name) (run name).beside.buried (after name bytes why e)) h) event.reply (answered (PutNew (Tombstone name) bytes why) e);
    after_tag = after;
  }
    where
      answered : (op : Op) → event.op ≡ op → UnlessFailed (IsHonest (found journal) (length journal) event.time op) event.reply
      answered op e = subst (λ (o : Op). UnlessFailed (IsHonest (found journal) (length journal) event.time o) event.reply) e good.legal.answered

      after : (name bytes : List ℕ) (why : Why) → event.op ≡ PutNew (Tombstone name) bytes why → (e : Entry) × (made_as (tag_of (files_by trees) journal name) ≡ Some e)
      after name bytes why e = put-made journal name (run name) (subst (λ (o : Op). IsPolite journal o) e good.polite)

  run-one : (journal : List Event) (event : Event) → AllRun journal → IsGood journal event → AllRun (journal ++ event ∷ [])
  run-one journal event run good name =
      let b = event-beside trees journal name (tag_of (files_by trees) journal name) (run name).beside (put-made journal name (run name)) event good.polite in
      record {
        beside = Beside-same trees _ _ (slot_of (journal ++ event ∷ []) (Tag name)) _ (slot_of (journal ++ event ∷ []) (Tombstone name)) _ (tag-append_one (files_by trees) name journal event) (slot-append_one journal event (Tag name)) (slot-append_one journal event (Tombstone name)) b;
        unused = subst (Unused name) (sym (slot-append_one journal event (Tag name))) (effect-unused name journal event good.polite (run name).unused);
      }

  pub record Along (old more : List Event) : Type 0 where
    pub answers : Each (TagAgrees (files_by trees)) old more
    pub run : AllRun (old ++ more)

  along : (old more : List Event) → AllRun old → Each IsGood old more → Along old more
  unfolding Each
  along old [] run good = record { answers = tt; run = subst (λ (h : List Event). AllRun h) (sym (append-nil old)) run }
  along old (x ∷ xs) run good =
      let next = along (old ++ x ∷ []) xs (run-one old x run good.0) good.1 in
      record { answers = (agrees-one old x run good.0, next.answers); run = subst (λ (h : List Event). AllRun h) (append_assoc old (x ∷ []) xs) next.run }

  nothing-run : AllRun []
  unfolding tag_of tag_along
  nothing-run name = record {
    beside = Beside-same trees _ Absent (slot_of [] (Tag name)) fresh_slot (slot_of [] (Tombstone name)) fresh_slot refl (slot-none (Tag name)) (slot-none (Tombstone name)) (record { stands = tt; buried = refl; tree = tt });
    unused = subst (Unused name) (sym (slot-none (Tag name))) (λ e. refl);
  }

pub tags-law : TagsLaw
unfolding Each
tags-law trees journal good =
    let a = along trees [] journal (nothing-run trees) good in
    (a.answers, λ name. let b = (a.run name).beside in record { tag = b.stands; tombstone = b.buried; tree = b.tree })

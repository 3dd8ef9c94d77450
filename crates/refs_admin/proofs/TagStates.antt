-- What is told of tags is what their states give.
use Rattle.std.proofs.Common.{◌≡◌, inl, inr, ℕ, List, [], ◌∷◌, refl, sym, ◌∙◌, ap, subst}
use Rattle.std.specs.Prelude.{Option, Some, None}
use Rattle.std.specs.Result.{result_ok}
use Rattle.ice_ids.specs.declared.Id12.{Id12}
use Rattle.zarr_tree.specs.Trees.{Tree}
use Rattle.repo_objects.specs.Readings.{ref_of}
use Rattle.object_store.specs.declared.keys.Key.TheVariants.{Tag, Tombstone}
use Rattle.object_store.specs.declared.events.Version.{Version}
use Rattle.object_store.specs.declared.events.Op.{Op}
use Rattle.object_store.specs.declared.events.Op.TheVariants.{Get}
use Rattle.object_store.specs.declared.events.Got.{Got}
use Rattle.object_store.specs.declared.events.Got.TheVariants.{Found}
use Rattle.object_store.specs.declared.events.Reply.{Reply}
use Rattle.object_store.specs.declared.events.Reply.TheVariants.{Got as Is_got}
use Rattle.object_store.specs.declared.events.Event.{Event}
use Rattle.object_store.specs.Machine.{Stored, found, version_at, UnlessFailed}
use Rattle.store_api.specs.Journal.{Each, IsGood, IsGoodJournal}
use Rattle.store_api.specs.Telling.{HasOwn, WasGot, WasPresent}
use Rattle.object_store.proofs.Journals.{Each-back, Each-at}
use Rattle.histories.specs.Repository.{Entry}
use Rattle.histories.specs.Calls.{HasItsTree, StandsAs}
use Rattle.histories.specs.Tags.{TagState, Absent, Stands, Gone, made_as, Open, Make, Drop, Opened, RefExists, tag_answer, GoesOnAs}
use Rattle.histories.specs.TagCalls.{tag_of, IsBuriedAs, StandsByState, TagAgrees, GotTag, GotTombstone}
use Rattle.histories.specs.Files.{Files}
use Rattle.histories.specs.Formats.{files_by}
use Rattle.histories.proofs.Tagging.{never-moves, tags-law}
use Rattle.histories.proofs.TagTrees.{entry-same}
use Rattle.repo_read.specs.Naming.{WasTagged}
use Rattle.refs_admin.specs.TagStates.{Gives, TagStatesTell, TagStatesLaw}

-- ---- states by what stands
is-absent : (files : Files) (s : TagState) (o : Option Stored) → StandsAs files o (made_as s) → o ≡ None → s ≡ Absent
is-absent files Absent o h e = refl
is-absent files (Stands x) None h e = absurd h
is-absent files (Stands x) (Some y) h e = cc
is-absent files (Gone x) None h e = absurd h
is-absent files (Gone x) (Some y) h e = cc

-- a tag that is there without a tombstone
does-stand : (files : Files) (s : TagState) (o tombstone : Option Stored) (y : Stored) → StandsAs files o (made_as s) → IsBuriedAs s tombstone → o ≡ Some y → tombstone ≡ None → (x : Entry) × (s ≡ Stands x) × (x.version ≡ y.version) × (files.ref y.bytes ≡ Some x.id)
does-stand files Absent None k y h b e n = cc
does-stand files Absent (Some z) k y h b e n = absurd h
does-stand files (Stands x) None k y h b e n = cc
does-stand files (Stands x) (Some z) k y h b e n = let same : z ≡ y = cc in (x, refl, sym h.0 ∙ ap (λ (w : Stored). w.version) same, subst (λ (w : Stored). files.ref w.bytes ≡ Some x.id) same h.1)
does-stand files (Gone x) o k y h b e n = let there = b.1 in cc

does-rest : (s : TagState) (tombstone : Option Stored) (y : Stored) → IsBuriedAs s tombstone → tombstone ≡ Some y → (x : Entry) × (s ≡ Gone x)
does-rest Absent k y b e = cc
does-rest (Stands x) k y b e = cc
does-rest (Gone x) k y b e = (x, refl)

-- ---- states by what was answered
found-gone : (s : TagState) (bytes : List ℕ) (version : Version) (now : ℕ) → GotTombstone s (Is_got (Found bytes version now)) → (x : Entry) × (s ≡ Gone x)
found-gone Absent bytes version now h = let is = h.1 in cc
found-gone (Stands x) bytes version now h = let is = h.1 in cc
found-gone (Gone x) bytes version now h = (x, refl)

abbrev version_in : Reply → ℕ
version_in (Is_got (Found bytes version now)) = version.0
version_in _ = 0

abbrev bytes_in : Reply → List ℕ
bytes_in (Is_got (Found bytes version now)) = bytes
bytes_in _ = []

found-made : (files : Files) (l : Option Entry) (bytes : List ℕ) (version now : ℕ) → GotTag files l (Is_got (Found bytes (version_at version) now)) → (x : Entry) × (l ≡ Some x) × (x.version ≡ version) × (files.ref bytes ≡ Some x.id)
found-made files None bytes version now h = let is = h.1 in cc
found-made files (Some x) bytes version now h = (x, refl, sym (ap version_in h.is), ap (λ (b : List ℕ). files.ref b) (ap bytes_in h.is) ∙ h.names)

-- a tag that was made stays so
stays-made : (s t : TagState) (x : Entry) → GoesOnAs s t → made_as s ≡ Some x → made_as t ≡ Some x
stays-made Absent t x h e = cc
stays-made (Stands y) t x (inl h) e = ap made_as h ∙ e
stays-made (Stands y) t x (inr h) e = ap made_as h ∙ e
stays-made (Gone y) t x h e = ap made_as h ∙ e

some-same : (x y : Entry) (l : Option Entry) → l ≡ Some x → l ≡ Some y → x ≡ y
some-same x y l e f = cc

id-same : (o : Option Id12) (x y : Id12) → o ≡ Some x → o ≡ Some y → x ≡ y
id-same o x y e f = cc

module _ (trees : Id12 → Option Tree) (client : ℕ) (tag : List ℕ) (start journal : List Event) (good : IsGoodJournal journal) where
  -- what stood at the tag before an own event
  before-stands : (op : Op) (reply : Reply) (own : HasOwn client op reply start journal) → StandsByState (files_by trees) own.before tag
  before-stands op reply own = (tags-law trees own.before (Each-back IsGood [] own.before (own.event ∷ own.after) (subst IsGoodJournal own.is good)).0).1 tag

  abbrev state : (op : Op) (reply : Reply) → HasOwn client op reply start journal → TagState
  state op reply own = tag_of (files_by trees) own.before tag

  -- ... and what the own event was answered
  own-agrees : (op : Op) (reply : Reply) (own : HasOwn client op reply start journal) → TagAgrees (files_by trees) own.before own.event
  own-agrees op reply own = Each-at (TagAgrees (files_by trees)) [] own.before own.event own.after (subst (λ (h : List Event). Each (TagAgrees (files_by trees)) [] h) own.is (tags-law trees journal good).0)

  own-got : (op : Op) (g : Got) (P : Reply → Type 0) (own : HasOwn client op (Is_got g) start journal) → UnlessFailed P own.event.reply → P (Is_got g)
  own-got op g P own u = subst (λ (r : Reply). UnlessFailed P r) own.reply_is u

  -- the tag was absent at an own event
  free : (op : Op) (reply : Reply) (own : HasOwn client op reply start journal) → found own.before (Tag tag) ≡ None → state op reply own ≡ Absent
  free op reply own e = is-absent (files_by trees) (state op reply own) (found own.before (Tag tag)) (before-stands op reply own).tag e

  -- ... or stood
  standing : (op : Op) (reply : Reply) (own : HasOwn client op reply start journal) (y : Stored) → found own.before (Tag tag) ≡ Some y → found own.before (Tombstone tag) ≡ None → (x : Entry) × (state op reply own ≡ Stands x) × (x.version ≡ y.version) × (ref_of y.bytes ≡ Some x.id)
  standing op reply own y e n = let b = before-stands op reply own in does-stand (files_by trees) (state op reply own) (found own.before (Tag tag)) (found own.before (Tombstone tag)) y b.tag b.tombstone e n

  -- ... or was gone, since its tombstone was got
  got-gone : (told : WasPresent client (Tombstone tag) start journal) → (x : Entry) × (tag_of (files_by trees) told.got.own.before tag ≡ Gone x)
  got-gone told =
      let own = told.got.own in
      let got = (own-agrees (Get (Tombstone tag)) _ own).got_tombstone tag own.op_is in
      found-gone (tag_of (files_by trees) own.before tag) told.bytes (version_at told.version) told.got.now (own-got (Get (Tombstone tag)) (Found told.bytes (version_at told.version) told.got.now) (GotTombstone (tag_of (files_by trees) own.before tag)) own got)

  -- a tag that was made before an own event is made in the journal
  made-then : (op : Op) (reply : Reply) (own : HasOwn client op reply start journal) (x : Entry) → made_as (state op reply own) ≡ Some x → made_as (tag_of (files_by trees) journal tag) ≡ Some x
  made-then op reply own x e =
      stays-made (state op reply own) (tag_of (files_by trees) journal tag) x (subst (λ (h : List Event). GoesOnAs (state op reply own) (tag_of (files_by trees) h tag)) (sym own.is) (never-moves (files_by trees) own.before (own.event ∷ own.after) tag)) e

  -- the entry of one that was got
  got-made : (bytes : List ℕ) (version : ℕ) (told : WasGot client (Tag tag) bytes version start journal) → (x : Entry) × (made_as (tag_of (files_by trees) journal tag) ≡ Some x) × (x.version ≡ version) × (ref_of bytes ≡ Some x.id)
  got-made bytes version told =
      let own = told.own in
      let got = (own-agrees (Get (Tag tag)) _ own).got tag own.op_is in
      let made = found-made (files_by trees) (made_as (tag_of (files_by trees) own.before tag)) bytes version told.now (own-got (Get (Tag tag)) (Found bytes (version_at version) told.now) (GotTag (files_by trees) (made_as (tag_of (files_by trees) own.before tag))) own got) in
      (made.0, made-then (Get (Tag tag)) _ own made.0 made.1, made.2, made.3)

  opened : (id : Id12) (told : WasTagged client tag id start journal) → Gives trees told.stands.own.before tag Open (Opened (record { version = told.version.0; id = id; tree = trees id }))
  opened id told =
      let own = told.stands.own in
      let stands = standing (Get (Tombstone tag)) _ own told.still.stored told.still.stands told.stands.nothing in
      let x = stands.0 in
      let tree : x.tree ≡ trees x.id = subst (λ (s : TagState). HasItsTree trees (made_as s)) stands.1 (before-stands (Get (Tombstone tag)) _ own).tree in
      let read = got-made told.read.bytes told.version.0 told.read.got in
      let here = made-then (Get (Tombstone tag)) _ own x (ap made_as stands.1) in
      let same : x ≡ read.0 = some-same x read.0 (made_as (tag_of (files_by trees) journal tag)) here read.1 in
      let ids : x.id ≡ id = id-same (ref_of told.still.stored.bytes) x.id id stands.3 told.still.names in
      ap (tag_answer Open) stands.1 ∙ ap Opened (entry-same x (record { version = told.version.0; id = id; tree = trees id }) (ap (λ (y : Entry). y.version) same ∙ read.2) ids (tree ∙ ap trees ids))

  pub states-tell : TagStatesTell trees client tag start journal
  states-tell = record {
    opened = opened;
    absent = λ told. let e = free _ _ told.own told.nothing in (ap (tag_answer Open) e, ap (tag_answer Drop) e);
    gone = λ told. ap (tag_answer Open) (got-gone told).1;
    made = λ at told. ap (tag_answer (Make told.aim.named.id)) (free _ _ told.made.own told.free);
    stands = λ at version told.
        let e = standing _ _ told.stands.own told.still.stored told.still.stands told.stands.nothing in
        ap (tag_answer (Make told.there.aim.named.id)) e.1 ∙ ap RefExists (e.2 ∙ told.still.version_is);
    was_gone = λ at told. ap (tag_answer (Make told.there.aim.named.id)) (got-gone told.gone).1;
    dropped = λ told. ap (tag_answer Drop) (standing _ _ told.made.own told.still.stored told.still.stands told.free).1;
    buried = λ told. let b = before-stands _ _ told.made.own in ap (tag_answer Drop) (does-rest (tag_of (files_by trees) told.made.own.before tag) (found told.made.own.before (Tombstone tag)) told.there.stored b.tombstone told.there.stands).1;
    readable = λ key bad told. let names = (got-made told.bytes told.version told.got).3 in let none : ref_of told.bytes ≡ None = ap result_ok told.unread in cc;
  }

pub tag-states : TagStatesLaw
tag-states = states-tell

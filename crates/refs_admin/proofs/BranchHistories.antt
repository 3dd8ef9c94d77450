-- What is told of branches is what their histories give.
use Rattle.std.proofs.Common.{◌≡◌, inl, inr, ℕ, ◌+◌, true, List, [], ◌∷◌, ◌++◌, length, refl, sym, ◌∙◌, ap, subst}
use Rattle.std.specs.Prelude.{Option, Some, None, option_map}
use Rattle.std.specs.Result.{result_ok}
use Rattle.std.proofs.lemmas.Bool.{cond_both}
use Rattle.ice_base.specs.Names.{main_name}
use Rattle.ice_ids.specs.declared.Id12.{Id12}
use Rattle.ice_ids.specs.Text.{IsId12, initial_id}
use Rattle.zarr_tree.specs.Trees.{Tree}
use Rattle.ref_file.specs.Refs.{ref_bytes}
use Rattle.snapshot_file.specs.Initial.{initial_snapshot}
use Rattle.repo_objects.specs.Readings.{ref_of}
use Rattle.repo_objects.specs.Laws.{initial_bytes}
use Rattle.object_store.specs.declared.keys.Key.TheVariants.{Branch}
use Rattle.object_store.specs.declared.keys.Why.{Why}
use Rattle.object_store.specs.declared.keys.Why.TheVariants as why
use Rattle.object_store.specs.declared.events.Version.{Version}
use Rattle.object_store.specs.declared.events.Op.{Op}
use Rattle.object_store.specs.declared.events.Op.TheVariants.{PutNew}
use Rattle.object_store.specs.declared.events.Got.TheVariants.{Found, Absent}
use Rattle.object_store.specs.declared.events.New.TheVariants.{Done as New_done, Present}
use Rattle.object_store.specs.declared.events.Over.TheVariants.{Done as Over_done, Moved as Over_moved}
use Rattle.object_store.specs.declared.events.GoneAt.TheVariants.{Done as Gone_done, Moved as Gone_moved}
use Rattle.object_store.specs.declared.events.Reply.{Reply}
use Rattle.object_store.specs.declared.events.Reply.TheVariants.{Got as Is_got, New as Is_new, Over as Is_over, GoneAt as Is_gone_at}
use Rattle.object_store.specs.declared.events.Event.{Event}
use Rattle.object_store.specs.Machine.{is_on, was_done, version_at}
use Rattle.object_store.proofs.Journals.{Each-at}
use Rattle.object_store.proofs.Slots.{same_key-refl}
use Rattle.store_api.specs.Journal.{Each}
use Rattle.store_api.specs.Telling.{HasOwn, WasGot}
use Rattle.histories.specs.Repository.{Change, Entry, RefHistory, last, Call, Create, Reset, Drop, Answer, Opened, NoRef, RefExists, Appended, Moved, answer_of, opened, created, at_version, appended, after_answer}
use Rattle.histories.specs.Calls.{call_of, called_if, entered, going, history_of, Spells, TellsCall, Agrees, HasItsTree, AllHaveTheirTrees, IsHistory}
use Rattle.histories.specs.Files.{Files}
use Rattle.histories.specs.Formats.{files_by}
use Rattle.histories.proofs.TagTrees.{entry-same}
use Rattle.repo_read.specs.declared.resolving.At.{At}
use Rattle.refs_admin.specs.Telling.{WasAimed}
use Rattle.refs_admin.specs.BranchTelling.{resets, removes}
use Rattle.refs_admin.specs.BranchHistories.{found_at, BranchHistoriesTell, BranchHistoriesLaw}
use Rattle.refs_admin.proofs.Targets.{Spelled, read-own}

-- ---- what an answer is by how it is spelled
abbrev version_in : Reply → ℕ
version_in (Is_got (Found bytes version now)) = version.0
version_in (Is_new (Present version now)) = version.0
version_in _ = 0

abbrev bytes_in : Reply → List ℕ
bytes_in (Is_got (Found bytes version now)) = bytes
bytes_in _ = []

abbrev moved_in : Reply → Option Version
moved_in (Is_over (Over_moved there now)) = there
moved_in (Is_gone_at (Gone_moved there now)) = there
moved_in _ = None

is-found : (files : Files) (n : ℕ) (a : Answer) (bytes : List ℕ) (version now : ℕ) → Spells files n a (Is_got (Found bytes (version_at version) now)) → (e : Entry) × (a ≡ Opened e) × (e.version ≡ version) × (files.ref bytes ≡ Some e.id)
is-found files n (Opened e) bytes version now h = (e, refl, sym (ap version_in h.is), ap (λ (b : List ℕ). files.ref b) (ap bytes_in h.is) ∙ h.names)
is-found files n NoRef bytes version now h = let is = h.1 in cc
is-found files n (RefExists v) bytes version now h = let is = h.1 in cc
is-found files n Appended bytes version now (x, inl is) = cc
is-found files n Appended bytes version now (x, inr (inl is)) = cc
is-found files n Appended bytes version now (x, inr (inr is)) = cc
is-found files n (Moved v) bytes version now (x, inl is) = cc
is-found files n (Moved v) bytes version now (x, inr is) = cc

is-absent : (files : Files) (n : ℕ) (a : Answer) (now : ℕ) → Spells files n a (Is_got (Absent now)) → a ≡ NoRef
is-absent files n (Opened e) now h = let is = h.is in cc
is-absent files n NoRef now h = refl
is-absent files n (RefExists v) now h = let is = h.1 in cc
is-absent files n Appended now (x, inl is) = cc
is-absent files n Appended now (x, inr (inl is)) = cc
is-absent files n Appended now (x, inr (inr is)) = cc
is-absent files n (Moved v) now (x, inl is) = cc
is-absent files n (Moved v) now (x, inr is) = cc

is-made : (files : Files) (n : ℕ) (a : Answer) (version : Version) (now : ℕ) → Spells files n a (Is_new (New_done version now)) → a ≡ Appended
is-made files n (Opened e) version now h = let is = h.is in cc
is-made files n NoRef version now h = let is = h.1 in cc
is-made files n (RefExists v) version now h = let is = h.1 in cc
is-made files n Appended version now h = refl
is-made files n (Moved v) version now (x, inl is) = cc
is-made files n (Moved v) version now (x, inr is) = cc

is-present : (files : Files) (n : ℕ) (a : Answer) (version : Version) (now : ℕ) → Spells files n a (Is_new (Present version now)) → a ≡ RefExists version.0
is-present files n (Opened e) version now h = let is = h.is in cc
is-present files n NoRef version now h = let is = h.1 in cc
is-present files n (RefExists v) version now h = ap RefExists (sym (ap version_in h.1))
is-present files n Appended version now (x, inl is) = cc
is-present files n Appended version now (x, inr (inl is)) = cc
is-present files n Appended version now (x, inr (inr is)) = cc
is-present files n (Moved v) version now (x, inl is) = cc
is-present files n (Moved v) version now (x, inr is) = cc

is-over : (files : Files) (n : ℕ) (a : Answer) (version : Version) (now : ℕ) → Spells files n a (Is_over (Over_done version now)) → a ≡ Appended
is-over files n (Opened e) version now h = let is = h.is in cc
is-over files n NoRef version now h = let is = h.1 in cc
is-over files n (RefExists v) version now h = let is = h.1 in cc
is-over files n Appended version now h = refl
is-over files n (Moved v) version now (x, inl is) = cc
is-over files n (Moved v) version now (x, inr is) = cc

is-gone : (files : Files) (n : ℕ) (a : Answer) (now : ℕ) → Spells files n a (Is_gone_at (Gone_done now)) → a ≡ Appended
is-gone files n (Opened e) now h = let is = h.is in cc
is-gone files n NoRef now h = let is = h.1 in cc
is-gone files n (RefExists v) now h = let is = h.1 in cc
is-gone files n Appended now h = refl
is-gone files n (Moved v) now (x, inl is) = cc
is-gone files n (Moved v) now (x, inr is) = cc

-- the version of a branch that had moved on
numbered : (v : Option ℕ) → found_at (option_map version_at v) ≡ Moved v
numbered None = refl
numbered (Some n) = refl

moved-at : (there : Option Version) (v : Option ℕ) → there ≡ option_map version_at v → Moved v ≡ found_at there
moved-at there v e = sym (ap found_at e ∙ numbered v)

is-over-moved : (files : Files) (n : ℕ) (a : Answer) (there : Option Version) (now : ℕ) → Spells files n a (Is_over (Over_moved there now)) → a ≡ found_at there
is-over-moved files n (Opened e) there now h = let is = h.is in cc
is-over-moved files n NoRef there now h = let is = h.1 in cc
is-over-moved files n (RefExists v) there now h = let is = h.1 in cc
is-over-moved files n Appended there now (x, inl is) = cc
is-over-moved files n Appended there now (x, inr (inl is)) = cc
is-over-moved files n Appended there now (x, inr (inr is)) = cc
is-over-moved files n (Moved v) there now (x, inl is) = moved-at there v (ap moved_in is)
is-over-moved files n (Moved v) there now (x, inr is) = cc

is-gone-moved : (files : Files) (n : ℕ) (a : Answer) (there : Option Version) (now : ℕ) → Spells files n a (Is_gone_at (Gone_moved there now)) → a ≡ found_at there
is-gone-moved files n (Opened e) there now h = let is = h.is in cc
is-gone-moved files n NoRef there now h = let is = h.1 in cc
is-gone-moved files n (RefExists v) there now h = let is = h.1 in cc
is-gone-moved files n Appended there now (x, inl is) = cc
is-gone-moved files n Appended there now (x, inr (inl is)) = cc
is-gone-moved files n Appended there now (x, inr (inr is)) = cc
is-gone-moved files n (Moved v) there now (x, inl is) = cc
is-gone-moved files n (Moved v) there now (x, inr is) = moved-at there v (ap moved_in is)

-- ---- trees of entries
id-same : (o : Option Id12) (x y : Id12) → o ≡ Some x → o ≡ Some y → x ≡ y
id-same o x y e f = cc

module _ (files : Files) (given : ℕ → Change) where
  -- what was there before a call was there with its files
  answered-before : (a : Answer) (e : Option Entry) (h : RefHistory) → AllHaveTheirTrees files.tree (after_answer a e h) → AllHaveTheirTrees files.tree h
  answered-before (Opened x) e h k = k
  answered-before NoRef e h k = k
  answered-before (RefExists v) e h k = k
  answered-before Appended e h k = k.1
  answered-before (Moved v) e h k = k

  called-before : (n : ℕ) (call : Option Call) (h : RefHistory) → AllHaveTheirTrees files.tree (called_if files.tree n call h) → AllHaveTheirTrees files.tree h
  called-before n None h k = k
  called-before n (Some call) h k = answered-before (answer_of call (last h)) (appended files.tree n call (last h)) h k

  entered-before : (c : Change) (branch : List ℕ) (n : ℕ) (h : RefHistory) (event : Event) → AllHaveTheirTrees files.tree (entered files c branch n h event) → AllHaveTheirTrees files.tree h
  unfolding entered
  entered-before c branch n h event =
      cond_both (is_on (Branch branch) event.op) _ h (λ (r : RefHistory). AllHaveTheirTrees files.tree r → AllHaveTheirTrees files.tree h)
      (λ on. cond_both (was_done event.reply) (called_if files.tree n (call_of files c event.op) h) h (λ (r : RefHistory). AllHaveTheirTrees files.tree r → AllHaveTheirTrees files.tree h) (λ done. called-before n (call_of files c event.op) h) (λ lost k. k))
      (λ off k. k)

  going-before : (branch : List ℕ) (n : ℕ) (h : RefHistory) (events : List Event) → AllHaveTheirTrees files.tree (going files given branch n h events) → AllHaveTheirTrees files.tree h
  unfolding going
  going-before branch n h [] k = k
  going-before branch n h (event ∷ events) k = entered-before (given n) branch n h event (going-before branch (n + 1) (entered files (given n) branch n h event) events k)

  front : (branch : List ℕ) (n : ℕ) (h : RefHistory) (xs ys : List Event) → AllHaveTheirTrees files.tree (going files given branch n h (xs ++ ys)) → AllHaveTheirTrees files.tree (going files given branch n h xs)
  unfolding going
  front branch n h [] ys k = going-before branch n h ys k
  front branch n h (x ∷ xs) ys k = front branch (n + 1) (entered files (given n) branch n h x) xs ys k

module _ (trees : Id12 → Option Tree) where
  last-has : (h : RefHistory) → AllHaveTheirTrees trees h → HasItsTree trees (last h)
  last-has [] k = tt
  last-has (e ∷ es) k = k.0

  tree-of-opened : (l : Option Entry) (e : Entry) → HasItsTree trees l → opened l ≡ Opened e → e.tree ≡ trees e.id
  tree-of-opened None e k o = cc
  tree-of-opened (Some x) e k o = let same : x ≡ e = cc in subst (λ (y : Entry). y.tree ≡ trees y.id) same k

module _ (trees : Id12 → Option Tree) (given : ℕ → Change) (client : ℕ) (start journal : List Event) (history : IsHistory (files_by trees) given journal) (laws : Spelled) where
  -- the last entry of the branch before an own event
  abbrev before : (branch : List ℕ) (op : Op) (reply : Reply) → HasOwn client op reply start journal → Option Entry
  before branch op reply own = last (history_of (files_by trees) given own.before branch)

  -- the answer to an own event is that of the history
  told : (branch : List ℕ) (op : Op) (reply : Reply) (own : HasOwn client op reply start journal) → is_on (Branch branch) op ≡ true
      → TellsCall (files_by trees) (length own.before) (call_of (files_by trees) (given (length own.before)) op) (before branch op reply own) reply
  told branch op reply own on =
      let agrees = Each-at (Agrees (files_by trees) given) [] own.before own.event own.after (subst (λ (h : List Event). Each (Agrees (files_by trees) given) [] h) own.is history.answers) in
      let its : (o : Op) → own.event.op ≡ o → is_on (Branch branch) o ≡ true → TellsCall (files_by trees) (length own.before) (call_of (files_by trees) (given (length own.before)) o) (before branch op reply own) own.event.reply
      = λ o e. subst (λ (p : Op). is_on (Branch branch) p ≡ true → TellsCall (files_by trees) (length own.before) (call_of (files_by trees) (given (length own.before)) p) (before branch op reply own) own.event.reply) e (agrees branch) in
      subst (λ (r : Reply). TellsCall (files_by trees) (length own.before) (call_of (files_by trees) (given (length own.before)) op) (before branch op reply own) r) own.reply_is (its op own.op_is on)

  tree-before : (branch : List ℕ) (op : Op) (reply : Reply) (own : HasOwn client op reply start journal) → HasItsTree trees (before branch op reply own)
  unfolding history_of
  tree-before branch op reply own =
      let all : AllHaveTheirTrees trees (history_of (files_by trees) given (own.before ++ own.event ∷ own.after) branch) = subst (λ (h : List Event). AllHaveTheirTrees trees (history_of (files_by trees) given h branch)) own.is (history.entries branch) in
      last-has trees (history_of (files_by trees) given own.before branch) (front (files_by trees) given branch 0 [] own.before (own.event ∷ own.after) all)

  -- a branch that was got
  got : (branch bytes : List ℕ) (version : ℕ) (w : WasGot client (Branch branch) bytes version start journal) → (e : Entry) × (opened (before branch _ _ w.own) ≡ Opened e) × (e.version ≡ version) × (ref_of bytes ≡ Some e.id)
  got branch bytes version w = is-found (files_by trees) (length w.own.before) (opened (before branch _ _ w.own)) bytes version w.now (told branch _ _ w.own (same_key-refl (Branch branch)))

  -- a put of a reference to this id
  named : (id : Id12) → IsId12 id → ref_of (ref_bytes id) ≡ Some id
  named id is = laws.reference.written id is

  new : (branch : List ℕ) (id : Id12) (w : Why) (reply : Reply) (own : HasOwn client (PutNew (Branch branch) (ref_bytes id) w) reply start journal) → IsId12 id → TellsCall (files_by trees) (length own.before) (Some (Create id)) (before branch _ _ own) reply
  new branch id w reply own is =
      subst (λ (o : Option Id12). TellsCall (files_by trees) (length own.before) (option_map (λ i. Create i) o) (before branch _ _ own) reply) (named id is) (told branch _ _ own (same_key-refl (Branch branch)))

  over : (branch : List ℕ) (old : Version) (id : Id12) (reply : Reply) (own : HasOwn client (resets branch old id) reply start journal) → IsId12 id → TellsCall (files_by trees) (length own.before) (Some (Reset old.0 id)) (before branch _ _ own) reply
  over branch old id reply own is =
      subst (λ (o : Option Id12). TellsCall (files_by trees) (length own.before) (option_map (λ i. Reset old.0 i) o) (before branch _ _ own) reply) (named id is) (told branch _ _ own (same_key-refl (Branch branch)))

  gone : (branch : List ℕ) (old : Version) (reply : Reply) (own : HasOwn client (removes branch old) reply start journal) → TellsCall (files_by trees) (length own.before) (Some (Drop old.0)) (before branch _ _ own) reply
  gone branch old reply own = told branch _ _ own (same_key-refl (Branch branch))

  -- the snapshot that was named was read under its id
  aimed : (at : At) (aim : WasAimed client at start journal) → IsId12 aim.named.id
  aimed at aim = let read = aim.target.read in read-own laws aim.named.id read.bytes aim.target.snap read.read

  initial : IsId12 initial_id
  initial = read-own laws initial_id initial_bytes initial_snapshot laws.initial

  pub histories-tell : BranchHistoriesTell trees given client start journal
  histories-tell = record {
    opened = λ branch version id w.
        let g = got branch w.bytes version.0 w.got in
        let ids : g.0.id ≡ id = id-same (ref_of w.bytes) g.0.id id g.3 w.names in
        let tree = tree-of-opened trees (before branch _ _ w.got.own) g.0 (tree-before branch _ _ w.got.own) g.1 in
        g.1 ∙ ap Opened (entry-same g.0 (record { version = version.0; id = id; tree = trees id }) g.2 ids (tree ∙ ap trees ids));
    absent = λ branch w. is-absent (files_by trees) (length w.own.before) (opened (before branch _ _ w.own)) w.now (told branch _ _ w.own (same_key-refl (Branch branch)));
    made = λ branch at w. is-made (files_by trees) (length w.made.own.before) (created (before branch _ _ w.made.own)) w.version w.now (new branch w.aim.named.id why.Create _ w.made.own (aimed at w.aim));
    was_there = λ branch at version w. is-present (files_by trees) (length w.made.own.before) (created (before branch _ _ w.made.own)) version w.now (new branch w.aim.named.id why.Create _ w.made.own (aimed at w.aim));
    reset = λ branch at w. is-over (files_by trees) (length w.made.own.before) (at_version w.old.0 (before branch _ _ w.made.own)) w.version w.now (over branch w.old w.aim.named.id _ w.made.own (aimed at w.aim));
    reset_moved = λ branch at there w. is-over-moved (files_by trees) (length w.made.own.before) (at_version w.old.0 (before branch _ _ w.made.own)) there w.now (over branch w.old w.aim.named.id _ w.made.own (aimed at w.aim));
    dropped = λ branch w. is-gone (files_by trees) (length w.made.own.before) (at_version w.old.0 (before branch _ _ w.made.own)) w.now (gone branch w.old _ w.made.own);
    drop_moved = λ branch there w. is-gone-moved (files_by trees) (length w.made.own.before) (at_version w.old.0 (before branch _ _ w.made.own)) there w.now (gone branch w.old _ w.made.own);
    began = λ w. is-made (files_by trees) (length w.own.before) (created (before main_name _ _ w.own)) w.version w.now (new main_name initial_id why.Init _ w.own initial);
    had_main = λ version w. is-present (files_by trees) (length w.own.before) (created (before main_name _ _ w.own)) version w.now (new main_name initial_id why.Init _ w.own initial);
    readable = λ branch key bad w. let names = (got branch w.bytes w.version w.got).3 in let none : ref_of w.bytes ≡ None = ap result_ok w.unread in cc;
  }

pub branch-histories : Spelled → BranchHistoriesLaw
branch-histories laws trees given client start journal history = histories-tell trees given client start journal history laws

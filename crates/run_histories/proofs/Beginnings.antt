-- Where sessions begin: at the last entry of a branch's history, at a tag as it stood, or at a snapshot.
use Rattle.std.proofs.Common.{◌≡◌, ℕ, Bool, true, List, [], ◌∷◌, ◌++◌, length, refl, sym, ◌∙◌, ap, subst}
use Rattle.std.specs.Prelude.{Option, Some, None}
use Rattle.ice_ids.specs.declared.Id12.{Id12}
use Rattle.zarr_tree.specs.Changes.{Changes}
use Rattle.object_store.specs.declared.keys.Key.TheVariants.{Branch}
use Rattle.object_store.specs.declared.events.Version.{Version}
use Rattle.object_store.specs.declared.events.Op.{Op}
use Rattle.object_store.specs.declared.events.Got.TheVariants.{Found}
use Rattle.object_store.specs.declared.events.Reply.{Reply}
use Rattle.object_store.specs.declared.events.Reply.TheVariants.{Got as Is_got}
use Rattle.object_store.specs.declared.events.Event.{Event}
use Rattle.object_store.specs.Machine.{is_on, version_at}
use Rattle.store_api.specs.Journal.{Each, puts_of, IsGoodJournal, IsOnce, tree_of}
use Rattle.store_api.specs.Telling.{WasRef}
use Rattle.object_store.proofs.Journals.{Each-at}
use Rattle.object_store.proofs.Slots.{same_key-refl}
use Rattle.histories.specs.Repository.{Entry, last, Open}
use Rattle.histories.specs.Calls.{history_of, call_of, TellsCall, Agrees, IsHistory}
use Rattle.histories.specs.Tags.{TagState, Absent, Stands, Gone, tag_answer}
use Rattle.histories.specs.Tags as tags
use Rattle.histories.specs.TagCalls.{tag_of}
use Rattle.histories.specs.Files.{Files}
use Rattle.histories.specs.Formats.{files_by, applied}
use Rattle.repo_read.specs.declared.resolving.At.{At}
use Rattle.repo_read.specs.declared.resolving.Named.{Named}
use Rattle.repo_read.specs.Naming.{WasTagged, WasResolved}
use Rattle.refs_admin.proofs.TagStates.{states-tell}
use Rattle.session.specs.Sessions.{SessionState}
use Rattle.session.specs.Opening.{Asked, origin_named}
use Rattle.session.specs.declared.origin.Origin.TheVariants.{ReadsTag}
use Rattle.commit_path.specs.Opened.{IsOpened, WasBegun}
use Rattle.commit_path.proofs.Knowing.{tree-by_rows}
use Rattle.run_histories.specs.Told.{BeganAt, BeganAtLast, BeganAtBranch, BeganAtTag}

-- a get of a branch that was answered with a reference was answered with the last entry
record WasLast (l : Option Entry) (version : ℕ) (base : Id12) : Type 0 where
  entry : Entry
  is : l ≡ Some entry
  version_is : entry.version ≡ version
  base_is : entry.id ≡ base

was_last : (files : Files) (n : ℕ) (l : Option Entry) (bytes : List ℕ) (version now : ℕ) (base : Id12) → files.ref bytes ≡ Some base → TellsCall files n (Some Open) l (Is_got (Found bytes (version_at version) now)) → WasLast l version base
was_last files n None bytes version now base names t = absurd (let e = t.1 in cc)
was_last files n (Some e) bytes version now base names t =
    let is = t.is in
    let same_bytes : bytes ≡ t.bytes = cc in
    let versions : version_at e.version ≡ version_at version = cc in
    let same_version : e.version ≡ version = ap (λ (v : Version). v.0) versions in
    record { entry = e; is = refl; version_is = same_version; base_is = same_id (sym t.names ∙ ap (λ (b : List ℕ). files.ref b) (sym same_bytes) ∙ names) }
  where
    same_id : Some e.id ≡ Some base → e.id ≡ base
    same_id h = cc

-- a tag that answers its opening with an entry stands so
opened-stands : (s : TagState) (e : Entry) → tag_answer tags.Open s ≡ tags.Opened e → s ≡ Stands e
opened-stands Absent e told = cc
opened-stands (Stands x) e told = let same : x ≡ e = cc in ap Stands same
opened-stands (Gone x) e told = cc

module _ (whole : List Event) (changes : ℕ → Changes) (good : IsGoodJournal whole) (history : IsHistory (files_by (tree_of whole)) (applied changes) whole) (client : ℕ) (start : List Event) where
  at-branch : (branch : List ℕ) (version : Version) (base : Id12) (read : WasRef client (Branch branch) version base start whole) → WasLast (last (history_of (files_by (tree_of whole)) (applied changes) read.got.own.before branch)) version.0 base
  at-branch branch version base read =
      let own = read.got.own in
      let answers : Each (Agrees (files_by (tree_of whole)) (applied changes)) [] (own.before ++ own.event ∷ own.after) = subst (λ (h : List Event). Each (Agrees (files_by (tree_of whole)) (applied changes)) [] h) own.is history.answers in
      let on : is_on (Branch branch) own.event.op ≡ true = ap (is_on (Branch branch)) own.op_is ∙ same_key-refl (Branch branch) in
      let agrees = Each-at (Agrees (files_by (tree_of whole)) (applied changes)) [] own.before own.event own.after answers branch on in
      let l : Option Entry = last (history_of (files_by (tree_of whole)) (applied changes) own.before branch) in
      let told : TellsCall (files_by (tree_of whole)) (length own.before) (Some Open) l (Is_got (Found read.bytes version read.got.now)) =
      subst (λ (r : Reply). TellsCall (files_by (tree_of whole)) (length own.before) (Some Open) l r) own.reply_is (subst (λ (op : Op). TellsCall (files_by (tree_of whole)) (length own.before) (call_of (files_by (tree_of whole)) (applied changes (length own.before)) op) l own.event.reply) own.op_is agrees) in
      was_last (files_by (tree_of whole)) (length own.before) l read.bytes version.0 read.got.now base read.names told

  module _ (s : SessionState) (writes : Bool) (named : Named) (base : s.base ≡ named.id) where
    began-at_branch : (branch : List ℕ) → s.origin ≡ origin_named writes (At.Branch branch) named.version → WasResolved client (At.Branch branch) named start whole → BeganAtBranch (tree_of whole) changes client branch writes s start whole
    began-at_branch branch origin w =
        let read : WasRef client (Branch branch) w.version s.base start whole = subst (λ (id : Id12). WasRef client (Branch branch) w.version id start whole) (sym base) w.read in
        let was = at-branch branch w.version s.base read in
        record {
          version = w.version;
          read = read;
          entry = was.entry;
          is_last = was.is;
          version_is = was.version_is;
          base = was.base_is;
          origin = origin ∙ ap (λ (o : Option Version). origin_named writes (At.Branch branch) o) w.version_is;
        }

    began-at_tag : (tag : List ℕ) → s.origin ≡ ReadsTag tag → WasResolved client (At.Tag tag) named start whole → BeganAtTag (tree_of whole) client tag s start whole
    began-at_tag tag origin w =
        let read : WasTagged client tag s.base start whole = subst (λ (id : Id12). WasTagged client tag id start whole) (sym base) w.1 in
        let told = (states-tell (tree_of whole) client tag start whole good).opened s.base read in
        record {
          read = read;
          entry = record { version = read.version.0; id = s.base; tree = tree_of whole s.base };
          stood = opened-stands (tag_of (files_by (tree_of whole)) read.stands.own.before tag) _ told;
          version_is = refl;
          base = refl;
          origin = origin;
        }

    began-at : (at : At) → s.origin ≡ origin_named writes at named.version → WasResolved client at named start whole → BeganAt (tree_of whole) changes client at writes s start whole
    began-at (At.Branch branch) origin w = began-at_branch branch origin w
    began-at (At.Tag tag) origin w = began-at_tag tag origin w
    began-at (At.Snapshot id) origin w = (base ∙ ap (λ (n : Named). n.id) w, origin)

pub began-at-last : (whole : List Event) (changes : ℕ → Changes) → IsGoodJournal whole → IsOnce whole → IsHistory (files_by (tree_of whole)) (applied changes) whole → (client : ℕ) (a : Asked) (s : SessionState) (start : List Event) → WasBegun client a s start whole → IsOpened s whole → BeganAtLast (puts_of whole) (tree_of whole) changes client a s start whole
began-at-last whole changes good once history client a s start begun opened = record {
  began = began-at whole changes good history client start s a.writes begun.named begun.base a.at (ap (λ (x : SessionState). x.origin) begun.begins) begun.resolved;
  tree = tree-by_rows whole s.base s.rows (opened.rows once);
}

-- What a client's own gets tell of the journal.
use Rattle.std.proofs.Common.{◌≡◌, ℕ, List, [], ◌∷◌, ◌++◌, length, refl, sym, ◌∙◌, ap, subst}
use Rattle.std.specs.Prelude.{Option, Some, None, option_map}
use Rattle.std.specs.Option.{option_and_then}
use Rattle.ice_ids.specs.declared.Id12.{Id12}
use Rattle.snapshot_file.specs.declared.snapshot.SnapshotFile.{SnapshotFile}
use Rattle.object_store.specs.declared.keys.Key.{Key}
use Rattle.object_store.specs.declared.keys.Key.TheVariants.{Snapshot}
use Rattle.object_store.specs.declared.events.Version.{Version}
use Rattle.object_store.specs.declared.events.Op.{Op}
use Rattle.object_store.specs.declared.events.Op.TheVariants.{Get}
use Rattle.object_store.specs.declared.events.Got.{Got}
use Rattle.object_store.specs.declared.events.Got.TheVariants.{Found}
use Rattle.object_store.specs.declared.events.Reply.{Reply}
use Rattle.object_store.specs.declared.events.Reply.TheVariants.{Got as Is_got}
use Rattle.object_store.specs.declared.events.Event.{Event}
use Rattle.object_store.specs.Machine.{Stored, found, last_put, got_of, version_at, IsHonest, UnlessFailed}
use Rattle.store_api.specs.Journal.{IsGood, IsGoodJournal, IsOnce, WasPut, rows_of, snap_in}
use Rattle.store_api.specs.Telling.{WasGot, WasReadAs}
use Rattle.object_store.proofs.Journals.{Each-back, Each-at}
use Rattle.object_store.proofs.Slots.{sound}
use Rattle.store_api.proofs.Standing.{rows-stay}
use Rattle.commit_path.proofs.Knowing.{once-front, once-back}
use Rattle.reach.specs.Chains.{parent_at, StaysOrCut}
use Rattle.reach.proofs.Parents.{parent-stays}
use Rattle.run_histories.proofs.Ancestors.{Continues}
use Rattle.object_store.proofs.Slots.{WasPut-append}

-- what stands there has these bytes
pub record StandsSo (journal : List Event) (key : Key) (bytes : List ℕ) : Type 0 where
  pub stored : Stored
  pub stands : found journal key ≡ Some stored
  pub bytes_are : stored.bytes ≡ bytes

got-same : (g h : Got) → Is_got g ≡ Is_got h → g ≡ h
got-same g h e = cc

-- what a get found stood there
pub got-stands : (journal : List Event) (event : Event) (key : Key) (bytes : List ℕ) (version : Version) (now : ℕ) → IsGood journal event → event.op ≡ Get key → event.reply ≡ Is_got (Found bytes version now) → StandsSo journal key bytes
got-stands journal event key bytes version now good op_is reply_is = by_found (found journal key) refl
  where
    told : Is_got (Found bytes version now) ≡ Is_got (got_of event.time (found journal key))
    told =
        subst (λ (r : Reply). UnlessFailed (IsHonest (found journal) (length journal) event.time (Get key)) r) reply_is
        (subst (λ (op : Op). UnlessFailed (IsHonest (found journal) (length journal) event.time op) event.reply) op_is good.legal.answered)

    by_found : (o : Option Stored) → found journal key ≡ o → StandsSo journal key bytes
    by_found (Some s) e =
        let same : Found bytes version now ≡ got_of event.time (Some s) = got-same _ _ (told ∙ ap (λ (o : Option Stored). Is_got (got_of event.time o)) e) in
        let bytes_same : bytes ≡ s.bytes = cc in
        record { stored = s; stands = e; bytes_are = sym bytes_same }
    by_found None e = let no : Is_got (Found bytes version now) ≡ Is_got (got_of event.time None) = told ∙ ap (λ (o : Option Stored). Is_got (got_of event.time o)) e in absurd cc

pub stands-put : (journal : List Event) (key : Key) (bytes : List ℕ) → StandsSo journal key bytes → WasPut journal key
stands-put journal key bytes s = (sound journal key).first s.stored s.stands

pub stands-last : (journal : List Event) (key : Key) (bytes : List ℕ) → StandsSo journal key bytes → last_put journal key ≡ Some bytes
stands-last journal key bytes s = (sound journal key).last s.stored s.stands ∙ ap (λ (b : List ℕ). Some b) s.bytes_are

-- a sound journal goes on soundly from each of its beginnings
pub front-continues : (whole journal more : List Event) → whole ≡ journal ++ more → IsGoodJournal whole → IsOnce whole → Continues journal more
front-continues whole journal more is good once =
    let good' : IsGoodJournal (journal ++ more) = subst (λ (j : List Event). IsGoodJournal j) is good in
    let once' : IsOnce (journal ++ more) = subst (λ (j : List Event). IsOnce j) is once in
    let parts = Each-back IsGood [] journal more good' in
    record { good = parts.0; once = once-front journal more once'; goes_on = parts.1; first = once-back journal more once' }

module _ (client : ℕ) (start journal : List Event) (good : IsGoodJournal journal) (once : IsOnce journal) where
  -- ---- a key that was got
  module _ (key : Key) (bytes : List ℕ) (version : ℕ) (got : WasGot client key bytes version start journal) where
    pub then-stood : StandsSo got.own.before key bytes
    then-stood =
        let all : IsGoodJournal (got.own.before ++ got.own.event ∷ got.own.after) = subst (λ (j : List Event). IsGoodJournal j) got.own.is good in
        got-stands got.own.before got.own.event key bytes (version_at version) got.now (Each-at IsGood [] got.own.before got.own.event got.own.after all) got.own.op_is got.own.reply_is

    pub then-goes : Continues got.own.before (got.own.event ∷ got.own.after)
    then-goes = front-continues journal got.own.before (got.own.event ∷ got.own.after) got.own.is good once

    pub got-put : WasPut journal key
    got-put = subst (λ (j : List Event). WasPut j key) (sym got.own.is) (WasPut-append got.own.before (got.own.event ∷ got.own.after) key (stands-put got.own.before key bytes then-stood))

  -- ---- a snapshot that was read
  module _ (id : Id12) (f : SnapshotFile) (r : WasReadAs client id f start journal) where
    -- its rows are those of the snapshot still
    pub read-rows : rows_of journal id ≡ Some f.nodes
    read-rows =
        let own = r.got.own in
        let stood = then-stood (Snapshot id) r.bytes r.version r.got in
        let goes = then-goes (Snapshot id) r.bytes r.version r.got in
        let read_then : rows_of own.before id ≡ Some f.nodes =
        ap (λ (o : Option (List ℕ)). option_map (λ (s : SnapshotFile). s.nodes) (snap_in id o)) (stands-last own.before (Snapshot id) r.bytes stood) ∙ ap (option_map (λ (s : SnapshotFile). s.nodes)) r.read in
        ap (λ (j : List Event). rows_of j id) own.is
        ∙ rows-stay id own.before (own.event ∷ own.after) goes.once (stands-put own.before (Snapshot id) r.bytes stood) goes.goes_on goes.first
        ∙ read_then

    -- its parent is the one that was read still, or it was cut
    pub read-parent : StaysOrCut f.parent (parent_at journal id)
    read-parent =
        let own = r.got.own in
        let stood = then-stood (Snapshot id) r.bytes r.version r.got in
        let goes = then-goes (Snapshot id) r.bytes r.version r.got in
        let read_then : parent_at own.before id ≡ f.parent =
        ap (λ (o : Option (List ℕ)). option_and_then (λ (s : SnapshotFile). s.parent) (snap_in id o)) (stands-last own.before (Snapshot id) r.bytes stood) ∙ ap (option_and_then (λ (s : SnapshotFile). s.parent)) r.read in
        subst (λ (j : List Event). StaysOrCut f.parent (parent_at j id)) (sym own.is)
        (subst (λ (o : Option Id12). StaysOrCut o (parent_at (own.before ++ own.event ∷ own.after) id)) read_then
        (parent-stays id own.before (own.event ∷ own.after) goes.once (stands-put own.before (Snapshot id) r.bytes stood) goes.goes_on goes.first))

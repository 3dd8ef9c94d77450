-- Which snapshots a client has put itself since a start; of its nodes the others have those of their parents alone.
use Rattle.std.proofs.Common.{◌≡◌, inl, inr, ◌⊎◌, ℕ, List, [], ◌∷◌, ◌++◌, refl, sym, ◌∙◌, ap, subst, append_assoc}
use Rattle.std.specs.Prelude.{Option, option_map}
use Rattle.std.proofs.lemmas.List.{append_cancel_left}
use Rattle.ice_ids.specs.declared.Id12.{Id12}
use Rattle.ice_ids.specs.declared.drawing.AnyIds.{AnyIds}
use Rattle.snapshot_file.specs.declared.snapshot.SnapshotFile.{SnapshotFile}
use Rattle.repo_objects.specs.Readings.{snapshot_by}
use Rattle.object_store.specs.declared.keys.Key.TheVariants.{Snapshot}
use Rattle.object_store.specs.declared.keys.Why.{Why}
use Rattle.object_store.specs.declared.events.Op.TheVariants.{PutNew}
use Rattle.object_store.specs.declared.events.Reply.{Reply}
use Rattle.object_store.specs.declared.events.Event.{Event}
use Rattle.store_api.specs.Journal.{Each, IsGood, IsGoodJournal, IsFirst, IsOnce, WasPut, rows_of, snap_in}
use Rattle.store_api.specs.Telling.{HasOwn}
use Rattle.object_store.proofs.Journals.{Each-one, Each-at}
use Rattle.store_api.proofs.Happening.{HasOwn-append}
use Rattle.session.specs.Sessions.{SessionState}
use Rattle.commit_path.specs.Single.{IsAlike, PutsAlike, HasPutAlike}
use Rattle.run_histories.specs.Sources.{NodesAreNew}
use Rattle.run_histories.proofs.Putting.{PutsFresh, put-now, rows-kept}
use Rattle.run_histories.proofs.Ancestors.{Inherits, Continues, new-node, inherits-on}

-- ---- own snapshots
-- The client itself put the snapshot since the start, with these bytes, whose rows it has.
pub record WasPutBy (client : ℕ) (start journal : List Event) (id : Id12) : Type 0 where
  pub bytes : List ℕ
  pub why : Why
  pub reply : Reply
  pub own : HasOwn client (PutNew (Snapshot id) bytes why) reply start journal
  pub rows_are : rows_of journal id ≡ option_map (λ (s : SnapshotFile). s.nodes) (snapshot_by id bytes)

-- the client's snapshots are like those of a session: so is each of them
pub own-alike : (client : ℕ) (s : SessionState) (start journal : List Event) (id : Id12) → HasPutAlike client s start journal → (w : WasPutBy client start journal id) → IsAlike s id w.bytes
own-alike client s start journal id p w =
    let own = w.own in
    let whole : start ++ p.more ≡ start ++ (own.since ++ own.event ∷ own.after) =
    sym p.is ∙ own.is ∙ ap (λ (j : List Event). j ++ own.event ∷ own.after) own.before_is ∙ append_assoc start own.since (own.event ∷ own.after) in
    let each : Each (PutsAlike client s) start (own.since ++ own.event ∷ own.after) = subst (Each (PutsAlike client s) start) (append_cancel_left start p.more (own.since ++ own.event ∷ own.after) whole) p.each in
    Each-at (PutsAlike client s) start own.since own.event own.after each own.client_is id w.bytes w.why own.op_is

-- ---- all snapshots
-- each is the client's own since the start, or inherits what nodes it has of the client's source
abbrev pub AllCome : AnyIds → ℕ → List Event → List Event → Type 0
AllCome ids client start journal = (id : Id12) → WasPut journal (Snapshot id) → WasPutBy client start journal id ⊎ Inherits ids journal id

pub come-start : (ids : AnyIds) (client : ℕ) (start : List Event) → NodesAreNew ids start → AllCome ids client start start
come-start ids client start new id w = inr (λ node h may. absurd (new-node ids start new id node h may))

-- ---- one more event
module _ (journal : List Event) (event : Event) (good : IsGoodJournal journal) (once : IsOnce journal) (goes_on : IsGood journal event) (first : IsFirst journal event) where
  abbrev after : List Event
  after = journal ++ event ∷ []

  pub continues : Continues journal (event ∷ [])
  continues = record { good = good; once = once; goes_on = Each-one IsGood journal event goes_on; first = Each-one IsFirst journal event first }

  -- what it puts is of the client, or inherits
  abbrev pub PutsSo : AnyIds → ℕ → Type 0
  PutsSo ids client = (id : Id12) → PutsFresh journal event (Snapshot id) → (event.client ≡ client) ⊎ Inherits ids (journal ++ event ∷ []) id

  pub come-one : (ids : AnyIds) (client : ℕ) (start since : List Event) → journal ≡ start ++ since → PutsSo ids client → AllCome ids client start journal → AllCome ids client start (journal ++ event ∷ [])
  come-one ids client start since is so come id w = elim (put-now journal event (Snapshot id) w) [
    | inl before ↦ elim (come id before) [
      | inl by ↦ inl (record {
        bytes = by.bytes;
        why = by.why;
        reply = by.reply;
        own = HasOwn-append client (PutNew (Snapshot id) by.bytes by.why) by.reply start journal (event ∷ []) by.own;
        rows_are = rows-kept journal event once goes_on first id before ∙ by.rows_are;
      })
      | inr inherits ↦ inr (inherits-on journal (event ∷ []) continues ids id before inherits)
    ]
    | inr now ↦ elim (so id now) [
      | inl same ↦ inl (record {
        bytes = now.bytes;
        why = now.why;
        reply = event.reply;
        own = record { before = journal; since = since; before_is = is; event = event; after = []; is = refl; client_is = same; op_is = now.op_is; reply_is = refl };
        rows_are = ap (λ (o : Option (List ℕ)). option_map (λ (s : SnapshotFile). s.nodes) (snap_in id o)) now.last;
      })
      | inr inherits ↦ inr inherits
    ]
  ]

-- What a settling answers in a run over an empty store: no file that it gets can't be read.
use Rattle.std.proofs.Common.{◌≡◌, ℕ, zero, suc, Bool, false, ◌||◌, List, [], ◌∷◌, ◌++◌, refl, sym, subst}
use Rattle.std.specs.Prelude.{Option, Some, None, Result, Ok, Err}
use Rattle.std.specs.List.{list_any}
use Rattle.ice_ids.specs.declared.Id12.{Id12}
use Rattle.ice_ids.specs.declared.drawing.AnyIds.{AnyIds}
use Rattle.snapshot_file.specs.declared.snapshot.SnapshotFile.{SnapshotFile}
use Rattle.repo_objects.specs.declared.bad_objects.Bad.{Bad}
use Rattle.repo_objects.specs.Readings.{read_snapshot, snapshot_by}
use Rattle.object_store.specs.declared.keys.Key.{Key}
use Rattle.object_store.specs.declared.keys.Key.TheVariants.{Snapshot}
use Rattle.object_store.specs.declared.events.Op.TheVariants.{Get}
use Rattle.object_store.specs.declared.events.Event.{Event}
use Rattle.object_store.specs.Machine.{Stored, found}
use Rattle.object_store.proofs.Slots.{WasPut-append}
use Rattle.store_api.specs.declared.machines.Refusal.{Refusal}
use Rattle.store_api.specs.declared.machines.Refusal.TheVariants as R
use Rattle.store_api.specs.Journal.{Each, WasPut}
use Rattle.store_api.specs.Program.{Prog, Done, Ask}
use Rattle.store_api.specs.Running.{Program, on_answer}
use Rattle.repo_read.specs.Answers.{at_key, snapshot_told}
use Rattle.repo_read.specs.Chains.{most_snapshots}
use Rattle.repo_read.specs.Programs.{resolve_program}
use Rattle.settle.specs.declared.settle.Settled.{Settled}
use Rattle.settle.specs.declared.settle.Settled.TheVariants as settled
use Rattle.settle.specs.declared.settle.Doubt.{Doubt}
use Rattle.settle.specs.Settling.{met, unless_met, settle_walk, settle_program}
use Rattle.play_outcome.specs.Ending.{why_unsettled}
use Rattle.play_tasks.specs.Playing.{how_of}
use Rattle.play_course.specs.Refusing.{is_strange}
use Rattle.play_course.proofs.Tidy.{Client, stands-readable, put-stands}
use Rattle.play_course.proofs.Parents.{comes-from}
use Rattle.play_course.proofs.Meeting.{was-read, Meets, done-meets, ask-meets, then-meets, got-meets}
use Rattle.play_course.proofs.Knowing.{IsKept, OfOthers, OfOwn, beside, kept-next, kept-others, missing-plain}
use Rattle.play_course.proofs.Naming.{Reads, branch-read}

module _ (client : Client) (ids : AnyIds) where
  -- what is known of the journal is known behind each program
  pub kept-meets : {A : Type 0} (Q : A → List Event → Type 0) (p : Prog A) (journal : List Event) → IsKept client journal → Meets Q (beside client ids) p journal → Meets (λ a h. Q a h × IsKept client h) (beside client ids) p journal
  unfolding Meets
  kept-meets Q (Done a) journal k m = (m, k)
  kept-meets Q (Ask op next) journal k m = λ more event others own is.
      kept-meets Q (next event.reply) ((journal ++ more) ++ event ∷ []) (kept-next client (journal ++ more) event own.tidy own.after (kept-others client ids journal more others k)) (m more event others own is)

  -- it answers, or is refused as it may be
  abbrev pub SettlesWell : Result Settled Refusal → List Event → Type 0
  SettlesWell (Ok answer) h = Unit {0}
  SettlesWell (Err why) h = is_strange client.collects why ≡ false

  abbrev Kept : List Event → Type 0
  Kept h = IsKept client h

  along : (journal more : List Event) → Each (OfOthers client ids) journal more → Kept journal → Kept (journal ++ more)
  along journal more others k = kept-others client ids journal more others k

  own-kept : (journal : List Event) (event : Event) → OfOwn client ids journal event → Kept journal → Kept (journal ++ event ∷ [])
  own-kept journal event own k = kept-next client journal event own.tidy own.after k

  got-kept : (journal : List Event) (event : Event) (key : Key) → OfOwn client ids journal event → event.op ≡ Get key → Kept journal → Kept (journal ++ event ∷ [])
  got-kept journal event key own is k = own-kept journal event own k

  module _ (d : Doubt) (head : Id12) where
    -- what follows a snapshot
    abbrev behind : (left : ℕ) → Option Id12 → Program Settled
    behind left parent = elim parent [
      | Some parent ↦ unless_met (met d parent) (settle_walk d head left parent)
      | None ↦ Done (Ok (settled.NotAncestor head))
    ]

    abbrev rest : (left : ℕ) → Result SnapshotFile Refusal → Program Settled
    rest left r = on_answer (λ (f : SnapshotFile). behind left f.parent) r

    abbrev WalksOn : ℕ → Type 0
    WalksOn left = (id : Id12) (journal : List Event) → Kept journal → WasPut journal (Snapshot id) → Meets SettlesWell (beside client ids) (settle_walk d head left id) journal

    -- an id that is looked at
    looked-meets : (left : ℕ) (id : Id12) (journal : List Event) → Kept journal → WasPut journal (Snapshot id) → WalksOn left → (o : Option Settled) → Meets SettlesWell (beside client ids) (unless_met o (settle_walk d head left id)) journal
    looked-meets left id journal k put go None = go id journal k put
    looked-meets left id journal k put go (Some answer) = done-meets SettlesWell (beside client ids) (Ok answer) journal tt

    parent-meets : (left : ℕ) (f : SnapshotFile) (journal : List Event) → Kept journal → ((parent : Id12) → f.parent ≡ Some parent → WasPut journal (Snapshot parent)) → WalksOn left → (o : Option Id12) → f.parent ≡ o → Meets SettlesWell (beside client ids) (behind left o) journal
    parent-meets left f journal k put go None e = done-meets SettlesWell (beside client ids) (Ok (settled.NotAncestor head)) journal tt
    parent-meets left f journal k put go (Some parent) e = looked-meets left parent journal k (put parent e) go (met d parent)

    -- what follows a snapshot that stands
    read-meets : (left : ℕ) (id : Id12) (journal : List Event) (event : Event) (s : Stored) → Kept journal → OfOwn client ids journal event → found journal (Snapshot id) ≡ Some s → WalksOn left → (f : SnapshotFile) → snapshot_by id s.bytes ≡ Some f
        → Meets SettlesWell (beside client ids) (rest left (at_key (Snapshot id) (read_snapshot id s.bytes))) (journal ++ event ∷ [])
    read-meets left id journal event s k own at go f read =
        let from = comes-from journal k.tidy k.so_far.once id s f at read in
        subst (λ (r : Result SnapshotFile Bad). Meets SettlesWell (beside client ids) (rest left (at_key (Snapshot id) r)) (journal ++ event ∷ [])) (sym (was-read (read_snapshot id s.bytes) f read))
        (parent-meets left f (journal ++ event ∷ []) (own-kept journal event own k) (λ parent e. WasPut-append journal (event ∷ []) (Snapshot parent) (from parent e).0) go f.parent refl)

    walk-meets : (left : ℕ) → WalksOn left
    unfolding settle_walk
    walk-meets zero id journal k put = done-meets SettlesWell (beside client ids) (Err R.TooDeep) journal refl
    walk-meets (suc left) id journal k put =
        ask-meets SettlesWell (beside client ids) (Get (Snapshot id)) (λ reply. rest left (snapshot_told id reply)) journal (λ more event others own is.
        let mid = along journal more others k in
        got-meets SettlesWell (beside client ids) (λ reply. rest left (snapshot_told id reply)) (journal ++ more) event own.tidy.good ((journal ++ more) ++ event ∷ []) (Snapshot id) is
        (λ s at. let can = stands-readable id (journal ++ more) s mid.tidy at in read-meets left id (journal ++ more) event s mid own at (walk-meets left) can.0 can.1)
        (λ gone. done-meets SettlesWell (beside client ids) (Err (R.Missing (Snapshot id))) ((journal ++ more) ++ event ∷ []) (missing-plain client.collects (Snapshot id) (λ none. put-stands (Snapshot id) tt (journal ++ more) (mid.so_far.stand none) (WasPut-append journal more (Snapshot id) put) gone)))
        (λ done. done-meets SettlesWell (beside client ids) (Err R.StoreFault) ((journal ++ more) ++ event ∷ []) refl))

    pub head-meets : (journal : List Event) → Kept journal → WasPut journal (Snapshot head) → Meets SettlesWell (beside client ids) (unless_met (met d head) (settle_walk d head most_snapshots head)) journal
    head-meets journal k put = looked-meets most_snapshots head journal k put (walk-meets most_snapshots) (met d head)

  pub settle-meets : (branch : List ℕ) (d : Doubt) (journal : List Event) → Kept journal → Meets SettlesWell (beside client ids) (settle_program branch d) journal
  settle-meets branch d journal k =
      then-meets (Reads client ids Kept along got-kept (λ h x. x.tidy) branch) SettlesWell (beside client ids) (resolve_program branch) _ journal (branch-read client ids Kept along got-kept (λ h x. x.tidy) branch journal k)
      (λ read h q. head-meets d read.id h q.0 q.2) (λ why h p. p)

  -- and what is told of it isn't strange
  or-plain : (a : Bool) → a ≡ false → (a || false) ≡ false
  or-plain a e = rw e refl

  pub how-plain : (answer : Result Settled Refusal) (h : List Event) → SettlesWell answer h → list_any (is_strange client.collects) (why_unsettled (how_of answer)) ≡ false
  how-plain (Ok settled.Committed) h q = refl
  how-plain (Ok settled.NotCommitted) h q = refl
  how-plain (Ok (settled.NotAncestor head)) h q = refl
  how-plain (Err R.NoRef) h q = refl
  how-plain (Err why) h q = or-plain (is_strange client.collects why) q

-- What is known of each call on refs, whatever others do.
use Rattle.std.proofs.Common.{ℕ, List, [], map, refl}
use Rattle.std.specs.Prelude.{Result, Ok, Err}
use Rattle.object_store.specs.declared.events.Op.{Op}
use Rattle.object_store.specs.declared.events.Event.{Event}
use Rattle.store_api.specs.declared.machines.Refusal.{Refusal}
use Rattle.store_api.specs.declared.machines.Refusal.TheVariants.{NoMemory}
use Rattle.store_api.specs.Journal.{IsPolite}
use Rattle.store_api.specs.Callers.{Caller}
use Rattle.store_api.specs.Program.{Keeps}
use Rattle.store_api.specs.Running.{Program}
use Rattle.store_api.specs.Plays.{Play, call, Stays, PlayKeeps, PlayLeads}
use Rattle.store_api.specs.Telling.{IsTold}
use Rattle.store_api.proofs.PlayLaws.{PlayKeeps-call, PlayLeads-call}
use Rattle.repo_read.specs.declared.resolving.At.{At}
use Rattle.repo_read.proofs.Own.{MadeGets-none}
use Rattle.refs_admin.specs.Branches.{branch_new_program, branch_reset_program, branch_drop_program}
use Rattle.refs_admin.specs.Tags.{tag_new_program, tag_drop_program}
use Rattle.refs_admin.specs.LogReading.{chain_log_program}
use Rattle.refs_admin.specs.declared.log.LogLine.{LogLine}
use Rattle.refs_admin.specs.BranchTelling.{BranchNewTells, BranchResetTells, BranchDropTells}
use Rattle.refs_admin.specs.TagTelling.{TagNewTells, TagDropTells}
use Rattle.refs_admin.specs.LogTelling.{LogTells}
use Rattle.refs_admin.specs.Laws.{RefsLaw}
use Rattle.script_calls.specs.declared.calls.RefCall.{RefCall}
use Rattle.script_calls.specs.declared.calls.RefCall.TheVariants as ref
use Rattle.play_outcome.specs.declared.outcome.Shown.{Shown}
use Rattle.play_outcome.specs.declared.outcome.Outcome.{Outcome}
use Rattle.play_outcome.proofs.Plays.{Keeps-both}
use Rattle.play_refs.specs.Playing.{log_shown, logged, unseen, ref_play}
use Rattle.play_refs.specs.Telling.{OwesRefs, DidCall, RefusedCall, StarvedCall}
use Rattle.play_refs.proofs.Shapes.{Owes, ends-owes, gets-owes, ends-stay, over-stay, gets-stay}
use Rattle.play_refs.proofs.Shaped.{IsNew, IsReset, IsRemoval, IsBurying, new-ends, reset-ends, drop-ends, bury-ends, log-gets, new-owes, reset-owes, reset-over, removal-owes, bury-owes}
use Rattle.play_refs.proofs.Tagging.{tag-owes, tag-stays}

-- what a call of this program tells, what it owes, and what is there where memory is wanting
record Known (by : Caller) {A : Type 0} (p : Program A) (tells : List Event → Result A Refusal → List Event → Type 0) (starved : List Event → List Event → Type 0) : Type 0 where
  told : IsTold by p tells
  owes : (journal : List Event) → Keeps Owes by p journal
  stays : (journal : List Event) → Stays (starved journal) by p journal

-- an operation is polite, and one that a task on refs may make
abbrev pub Minds : List Event → ℕ → Op → Type 0
Minds journal client op = IsPolite journal op × OwesRefs op

module _ (by : Caller) (R : Outcome → List Event → Type 0) where
  -- each operation of the play is minded, and it leads to R
  abbrev pub GoesWell : Play Outcome → List Event → Type 0
  GoesWell p journal = PlayKeeps Minds by p journal × PlayLeads R by p journal

  called-well : {A : Type 0} (p : Program A) (tells : List Event → Result A Refusal → List Event → Type 0) (starved : List Event → List Event → Type 0) → Known by p tells starved → (f : Result A Refusal → Play Outcome) (journal : List Event)
      → ((answer : Result A Refusal) (h : List Event) → tells journal answer h → GoesWell (f answer) h) → ((h : List Event) → starved journal h → GoesWell (f (Err NoMemory)) h) → GoesWell (call p f) journal
  called-well p tells starved k f journal answered lost = (
    PlayKeeps-call Minds (tells journal) (starved journal) by p f journal (Keeps-both (λ h client op. IsPolite h op) Owes by p journal (k.told.polite journal) (k.owes journal)) (k.told.leads journal) (k.stays journal) (λ answer h t. (answered answer h t).0) (λ h n. (lost h n).0),
    PlayLeads-call R (tells journal) (starved journal) by p f journal (k.told.leads journal) (k.stays journal) (λ answer h t. (answered answer h t).1) (λ h n. (lost h n).1),
  )

  module _ (law : RefsLaw by) where
    new-known : (name : List ℕ) (at : At) → Known by (branch_new_program name at) (BranchNewTells by.number name at) (StarvedCall by.number (ref.Branch name at))
    new-known name at =
        let t = law.branch_new name at in
        let e = new-ends name at in
        record {
          told = t;
          owes = λ journal. ends-owes (IsNew name) (new-owes name) by (branch_new_program name at) journal e;
          stays = λ journal. ends-stay (IsNew name) (BranchNewTells by.number name at journal) by journal (branch_new_program name at) journal e (MadeGets-none by.number journal) (t.leads journal);
        }

    reset-known : (name : List ℕ) (at : At) → Known by (branch_reset_program name at) (BranchResetTells by.number name at) (StarvedCall by.number (ref.Reset name at))
    reset-known name at =
        let e = reset-ends name at in
        record {
          told = law.branch_reset name at;
          owes = λ journal. ends-owes (IsReset name) (reset-owes name) by (branch_reset_program name at) journal e;
          stays = λ journal. over-stay (IsReset name) (reset-over name) by journal (branch_reset_program name at) journal e (MadeGets-none by.number journal);
        }

    drop-known : (name : List ℕ) → Known by (branch_drop_program name) (BranchDropTells by.number name) (StarvedCall by.number (ref.Unbranch name))
    drop-known name =
        let t = law.branch_drop name in
        let e = drop-ends name in
        record {
          told = t;
          owes = λ journal. ends-owes (IsRemoval name) (removal-owes name) by (branch_drop_program name) journal e;
          stays = λ journal. ends-stay (IsRemoval name) (BranchDropTells by.number name journal) by journal (branch_drop_program name) journal e (MadeGets-none by.number journal) (t.leads journal);
        }

    tag-known : (name : List ℕ) (at : At) → Known by (tag_new_program name at) (TagNewTells by.number name at) (StarvedCall by.number (ref.Tag name at))
    tag-known name at = record { told = law.tag_new name at; owes = λ journal. tag-owes by name at journal; stays = λ journal. tag-stays by name at journal }

    bury-known : (name : List ℕ) → Known by (tag_drop_program name) (TagDropTells by.number name) (StarvedCall by.number (ref.Untag name))
    bury-known name =
        let t = law.tag_drop name in
        let e = bury-ends name in
        record {
          told = t;
          owes = λ journal. ends-owes (IsBurying name) (bury-owes name) by (tag_drop_program name) journal e;
          stays = λ journal. ends-stay (IsBurying name) (TagDropTells by.number name journal) by journal (tag_drop_program name) journal e (MadeGets-none by.number journal) (t.leads journal);
        }

    log-known : (at : At) → Known by (chain_log_program at) (LogTells by.number at) (StarvedCall by.number (ref.Log at))
    log-known at = record {
      told = law.log at;
      owes = λ journal. gets-owes by (chain_log_program at) journal (log-gets at);
      stays = λ journal. gets-stay by journal (chain_log_program at) journal (log-gets at) (MadeGets-none by.number journal);
    }

    -- ---- a call, and what follows
    module _ (line : ℕ) (c : RefCall) (next : Result (List Shown) Refusal → Play Outcome) (journal : List Event) where
      abbrev Made : Type 0
      Made = (shown : List Shown) (h : List Event) → DidCall by.number line c journal shown h → GoesWell (next (Ok shown)) h

      abbrev Refused : Type 0
      Refused = (why : Refusal) (h : List Event) → RefusedCall by.number c journal why h → GoesWell (next (Err why)) h

      abbrev Starved : Type 0
      Starved = (h : List Event) → StarvedCall by.number c journal h → GoesWell (next (Err NoMemory)) h

    pub ref-well : (line : ℕ) (c : RefCall) (next : Result (List Shown) Refusal → Play Outcome) (journal : List Event) → Made line c next journal → Refused line c next journal → Starved line c next journal → GoesWell (ref_play line c next) journal
    ref-well line (ref.Branch name at) next journal made refused starved =
        called-well (branch_new_program name at) (BranchNewTells by.number name at) (StarvedCall by.number (ref.Branch name at)) (new-known name at) (λ answer. next (unseen answer)) journal answered starved
      where
        answered : (answer : Result (Unit {0}) Refusal) (h : List Event) → BranchNewTells by.number name at journal answer h → GoesWell (next (unseen answer)) h
        answered (Ok done) h t = made [] h (refl, t)
        answered (Err why) h t = refused why h t
    ref-well line (ref.Reset name at) next journal made refused starved =
        called-well (branch_reset_program name at) (BranchResetTells by.number name at) (StarvedCall by.number (ref.Reset name at)) (reset-known name at) (λ answer. next (unseen answer)) journal answered starved
      where
        answered : (answer : Result (Unit {0}) Refusal) (h : List Event) → BranchResetTells by.number name at journal answer h → GoesWell (next (unseen answer)) h
        answered (Ok done) h t = made [] h (refl, t)
        answered (Err why) h t = refused why h t
    ref-well line (ref.Unbranch name) next journal made refused starved =
        called-well (branch_drop_program name) (BranchDropTells by.number name) (StarvedCall by.number (ref.Unbranch name)) (drop-known name) (λ answer. next (unseen answer)) journal answered starved
      where
        answered : (answer : Result (Unit {0}) Refusal) (h : List Event) → BranchDropTells by.number name journal answer h → GoesWell (next (unseen answer)) h
        answered (Ok done) h t = made [] h (refl, t)
        answered (Err why) h t = refused why h t
    ref-well line (ref.Tag name at) next journal made refused starved =
        called-well (tag_new_program name at) (TagNewTells by.number name at) (StarvedCall by.number (ref.Tag name at)) (tag-known name at) (λ answer. next (unseen answer)) journal answered starved
      where
        answered : (answer : Result (Unit {0}) Refusal) (h : List Event) → TagNewTells by.number name at journal answer h → GoesWell (next (unseen answer)) h
        answered (Ok done) h t = made [] h (refl, t)
        answered (Err why) h t = refused why h t
    ref-well line (ref.Untag name) next journal made refused starved =
        called-well (tag_drop_program name) (TagDropTells by.number name) (StarvedCall by.number (ref.Untag name)) (bury-known name) (λ answer. next (unseen answer)) journal answered starved
      where
        answered : (answer : Result (Unit {0}) Refusal) (h : List Event) → TagDropTells by.number name journal answer h → GoesWell (next (unseen answer)) h
        answered (Ok done) h t = made [] h (refl, t)
        answered (Err why) h t = refused why h t
    ref-well line (ref.Log at) next journal made refused starved =
        called-well (chain_log_program at) (LogTells by.number at) (StarvedCall by.number (ref.Log at)) (log-known at) (λ answer. next (logged line answer)) journal answered starved
      where
        answered : (answer : Result (List LogLine) Refusal) (h : List Event) → LogTells by.number at journal answer h → GoesWell (next (logged line answer)) h
        answered (Ok lines) h t = made (map (log_shown line) lines) h (lines, refl, t)
        answered (Err why) h t = refused why h t

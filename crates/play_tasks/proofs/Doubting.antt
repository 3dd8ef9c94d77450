-- A commit in doubt: which refusal tells it, and the gets of its settling.
use Rattle.std.proofs.Common.{◌≡◌, ◌≢◌, ◌⊎◌, inl, inr, refl, ap, ◌∙◌, true, ℕ, zero, suc, List, Option, Some, None, Ok, Err}
use Rattle.ice_ids.specs.declared.Id12.{Id12}
use Rattle.ice_ids.specs.declared.drawing.AnyIds.{AnyIds}
use Rattle.snapshot_file.specs.declared.snapshot.SnapshotFile.{SnapshotFile}
use Rattle.object_store.specs.declared.keys.Key.TheVariants.{Snapshot, Branch}
use Rattle.object_store.specs.declared.events.Version.{Version}
use Rattle.object_store.specs.declared.events.Op.{Op}
use Rattle.object_store.specs.declared.events.Op.TheVariants.{Get}
use Rattle.object_store.specs.declared.events.Event.{Event}
use Rattle.store_api.specs.declared.machines.Refusal.{Refusal}
use Rattle.store_api.specs.declared.machines.Refusal.TheVariants as R
use Rattle.store_api.specs.Callers.{Caller}
use Rattle.store_api.specs.Program.{Prog, Done, Ask as Ask_next, is_ask, Keeps}
use Rattle.store_api.specs.Running.{Program}
use Rattle.store_api.specs.Plays.{Play, call, dooms}
use Rattle.store_api.specs.Telling.{IsGet}
use Rattle.store_api.proofs.PlayLaws.{dooms-call}
use Rattle.repo_read.specs.declared.answers.Resolved.{Resolved}
use Rattle.repo_read.specs.Answers.{ref_told, snapshot_told}
use Rattle.repo_read.specs.Chains.{most_snapshots}
use Rattle.repo_read.specs.Programs.{resolve_program, snapshot_program}
use Rattle.settle.specs.declared.settle.Doubt.{Doubt}
use Rattle.settle.specs.declared.settle.Settled.{Settled}
use Rattle.settle.specs.declared.settle.Settled.TheVariants.{NotAncestor}
use Rattle.settle.specs.Settling.{met, unless_met, settle_walk, settle_program}
use Rattle.play_outcome.specs.declared.outcome.Outcome.{Outcome}
use Rattle.play_outcome.specs.declared.outcome.Shown.{Shown}
use Rattle.play_outcome.specs.Ending.{ends_failed}
use Rattle.play_outcome.specs.Playing.{refused}
use Rattle.session.specs.Sessions.{SessionState, branch_of}
use Rattle.play_outcome.specs.declared.outcome.How.TheVariants as how
use Rattle.play_tasks.specs.Playing.{how_of, after_settling, doubt_play, after_commit}
use Rattle.play_tasks.specs.Bases.{GetsWalked}
use Rattle.play_tasks.proofs.Within.{Within, WithinOk, then-within, done-within, refused-within, asks-within}

-- ---- which refusal tells it
-- a refusal tells a doubt, or it doesn't
pub which : (why : Refusal) → ((id : Id12) × (why ≡ R.InDoubt id)) ⊎ ((id : Id12) → why ≢ R.InDoubt id)
which (R.InDoubt id) = inl (id, refl)
which _ = inr (λ id e. absurd (cc))

-- where it doesn't, it ends the task
pub no-doubt : (line : ℕ) (shown : List Shown) (doubted : Id12 → Play Outcome) (lost : Version → Option Version → AnyIds → Play Outcome) (why : Refusal) → ((id : Id12) → why ≢ R.InDoubt id) → after_commit line shown doubted lost (Err why) ≡ refused line shown why
no-doubt line shown doubted lost (R.InDoubt id) never = absurd (never id refl)
no-doubt line shown doubted lost why never = refl

-- ---- its settling gets the branch and snapshots alone
abbrev Any : Settled → Type 0
Any settled = Unit {0}

unless-within : (o : Option Settled) (p : Program Settled) → WithinOk GetsWalked Any p → WithinOk GetsWalked Any (unless_met o p)
unless-within (Some settled) p w = done-within GetsWalked Any settled tt
unless-within None p w = w

abbrev behind : Doubt → (head : Id12) → (left : ℕ) → Option Id12 → Program Settled
behind d head left parent = elim parent [
  | Some id ↦ unless_met (met d id) (settle_walk d head left id)
  | None ↦ Done (Ok (NotAncestor head))
]

behind-within : (d : Doubt) (head : Id12) (left : ℕ) → ((id : Id12) → WithinOk GetsWalked Any (settle_walk d head left id)) → (parent : Option Id12) → WithinOk GetsWalked Any (behind d head left parent)
behind-within d head left w (Some id) = unless-within (met d id) (settle_walk d head left id) (w id)
behind-within d head left w None = done-within GetsWalked Any (NotAncestor head) tt

walk-within : (d : Doubt) (head : Id12) (left : ℕ) (id : Id12) → WithinOk GetsWalked Any (settle_walk d head left id)
unfolding settle_walk
walk-within d head zero id = refused-within GetsWalked Any _
walk-within d head (suc left) id =
    then-within GetsWalked (λ (s : SnapshotFile). Unit {0}) Any (snapshot_program id) (λ s. behind d head left s.parent) (asks-within GetsWalked (Get (Snapshot id)) (snapshot_told id) tt)
    (λ s q. behind-within d head left (λ next. walk-within d head left next) s.parent)

pub settle-within : (branch : List ℕ) (d : Doubt) → WithinOk GetsWalked Any (settle_program branch d)
settle-within branch d =
    then-within GetsWalked (λ (read : Resolved). Unit {0}) Any (resolve_program branch) (λ read. unless_met (met d read.id) (settle_walk d read.id most_snapshots read.id)) (asks-within GetsWalked (Get (Branch branch)) (ref_told branch) tt)
    (λ read q. unless-within (met d read.id) (settle_walk d read.id most_snapshots read.id) (walk-within d read.id most_snapshots read.id))

-- ---- gets
pub walked-get : (op : Op) → GetsWalked op → IsGet op
walked-get (Get key) g = tt
walked-get _ g = absurd g

pub walked-gets : {A : Type 0} (Q : A → Type 0) (by : Caller) (p : Prog A) (journal : List Event) → Within GetsWalked Q p → Keeps (λ h client op. IsGet op) by p journal
unfolding Within Keeps
walked-gets Q by (Done a) journal w = tt
walked-gets Q by (Ask_next op next) journal w = (walked-get op w.0, λ reply new m. walked-gets Q by (next reply) new (w.1 reply))

-- ---- a fault is bound to be told of it
pub doubt-doomed : (shown : List Shown) (id : Id12) (p : Program Settled) → is_ask p ≡ true → dooms ends_failed (call p (after_settling shown id)) ≡ true
doubt-doomed shown id p live = dooms-call ends_failed p (after_settling shown id) live

-- ---- it begins
pub settling-begun : (shown : List Shown) (s : SessionState) (id base : Id12) (branch : List ℕ) (p : Program Settled) → p ≡ settle_program branch (record { snapshot = id; base = base }) → branch ≡ branch_of s → base ≡ s.base → call p (after_settling shown id) ≡ doubt_play shown s id
settling-begun shown s id base branch p is b e = ap (λ (q : Program Settled). call q (after_settling shown id)) (is ∙ (λ i. settle_program (b i) (record { snapshot = id; base = e i })))

pub settling-works : (branch : List ℕ) (d : Doubt) (p : Program Settled) → p ≡ settle_program branch d → is_ask p ≡ true
settling-works branch d p is = ap is_ask is

-- ---- it couldn't be settled
pub unsettled : (why : Refusal) → (why ≢ R.NoRef) → how_of (Err why) ≡ how.Unsettled why
unsettled R.NoRef never = absurd (never refl)
unsettled why never = refl

-- The programs of calls on refs make gets, and one operation behind them.
use Rattle.std.proofs.Common.{◌≡◌, ℕ, zero, suc, Bool, true, false, cond, List, [], ◌∷◌, ◌++◌, Option, Some, None, refl, sym, ap, subst}
use Rattle.std.specs.Prelude.{Ok, Err}
use Rattle.ice_base.specs.Names.{main_name, same_name}
use Rattle.ice_ids.specs.declared.Id12.{Id12}
use Rattle.snapshot_file.specs.declared.snapshot.SnapshotFile.{SnapshotFile}
use Rattle.object_store.specs.declared.keys.Key.TheVariants.{Snapshot, Branch, Tag, Tombstone}
use Rattle.object_store.specs.declared.events.Version.{Version}
use Rattle.object_store.specs.declared.events.Op.{Op}
use Rattle.store_api.specs.declared.machines.Refusal.{Refusal}
use Rattle.store_api.specs.declared.machines.Refusal.TheVariants.{MainKept}
use Rattle.store_api.specs.Program.{Done, Ask, moves_branch}
use Rattle.store_api.specs.Running.{Program}
use Rattle.repo_read.specs.Chains.{walk, most_snapshots, chain_program}
use Rattle.repo_read.specs.Programs.{resolve_program, snapshot_program}
use Rattle.repo_read.specs.declared.resolving.At.{At}
use Rattle.repo_read.specs.Resolving.{resolve_at_program, tag_program, tombstone_program}
use Rattle.refs_admin.specs.Targets.{target_program}
use Rattle.refs_admin.specs.Branches.{branch_new_program, branch_reset_program, branch_drop_program, removal}
use Rattle.refs_admin.specs.Tags.{tag_drop_program}
use Rattle.refs_admin.specs.LogReading.{refused_now, refused_first, chain_at, chain_log_program}
use Rattle.refs_admin.specs.BranchTelling.{creates, resets, removes}
use Rattle.refs_admin.specs.TagTelling.{buries}
use Rattle.play_refs.specs.Telling.{OwesRefs}
use Rattle.play_refs.proofs.Shapes.{Gets, ask-gets, done-gets, then-gets, Ends, done-ends, last-ends, then-ends}

-- ---- what names a snapshot, and the snapshot
pub resolve-gets : (at : At) → Gets (resolve_at_program at)
resolve-gets (At.Branch name) = then-gets (resolve_program name) _ (ask-gets (Branch name) _ (λ reply. done-gets _)) (λ read. done-gets _)
resolve-gets (At.Tag name) = then-gets (tag_program name) _ (ask-gets (Tag name) _ (λ reply. done-gets _)) (λ id. then-gets (tombstone_program name id) _ (ask-gets (Tombstone name) _ (λ reply. done-gets _)) (λ own. done-gets _))
resolve-gets (At.Snapshot id) = done-gets _

pub target-gets : (id : Id12) → Gets (target_program id)
target-gets id = ask-gets (Snapshot id) _ (λ reply. done-gets _)

-- ---- branches
abbrev pub IsNew : List ℕ → Op → Type 0
IsNew name op = (id : Id12) × (op ≡ creates name id)

pub new-ends : (name : List ℕ) (at : At) → Ends (IsNew name) (branch_new_program name at)
new-ends name at = then-ends (IsNew name) (resolve_at_program at) _ (resolve-gets at) (λ named. then-ends (IsNew name) (target_program named.id) _ (target-gets named.id) (λ target. last-ends (IsNew name) _ _ (named.id, refl) (λ reply. tt)))

abbrev pub IsReset : List ℕ → Op → Type 0
IsReset name op = (version : Version) × (id : Id12) × (op ≡ resets name version id)

pub reset-ends : (name : List ℕ) (at : At) → Ends (IsReset name) (branch_reset_program name at)
reset-ends name at = then-ends (IsReset name) (resolve_at_program at) _ (resolve-gets at) (λ named.
    then-ends (IsReset name) (resolve_program name) _ (ask-gets (Branch name) _ (λ reply. done-gets _)) (λ read.
    then-ends (IsReset name) (target_program named.id) _ (target-gets named.id) (λ target. last-ends (IsReset name) _ _ (read.version, named.id, refl) (λ reply. tt))))

abbrev pub IsRemoval : List ℕ → Op → Type 0
IsRemoval name op = (version : Version) × (op ≡ removes name version)

kept-ends : (name : List ℕ) (version : Version) (main : Bool) → Ends (IsRemoval name) (cond main (Done (Err MainKept)) (removal name version))
kept-ends name version true = done-ends (IsRemoval name) _
kept-ends name version false = last-ends (IsRemoval name) _ _ (version, refl) (λ reply. tt)

pub drop-ends : (name : List ℕ) → Ends (IsRemoval name) (branch_drop_program name)
drop-ends name = then-ends (IsRemoval name) (resolve_program name) _ (ask-gets (Branch name) _ (λ reply. done-gets _)) (λ read. kept-ends name read.version (same_name name main_name))

-- ---- a tag that is dropped
abbrev pub IsBurying : List ℕ → Op → Type 0
IsBurying name op = op ≡ buries name

pub bury-ends : (name : List ℕ) → Ends (IsBurying name) (tag_drop_program name)
bury-ends name = then-ends (IsBurying name) (tag_program name) _ (ask-gets (Tag name) _ (λ reply. done-gets _)) (λ id. last-ends (IsBurying name) _ _ refl (λ reply. tt))

-- ---- a log
walk-on : (left : ℕ) (seen : List SnapshotFile) (parent : Option Id12) → ((more : List SnapshotFile) (id : Id12) → Gets (walk left more id)) → Gets (elim parent as (λ x. Program (List SnapshotFile)) [ Some id ↦ walk left seen id | None ↦ Done (Ok seen) ])
walk-on left seen (Some id) g = g seen id
walk-on left seen None g = done-gets _

walk-gets : (left : ℕ) (seen : List SnapshotFile) (id : Id12) → Gets (walk left seen id)
unfolding walk
walk-gets zero seen id = done-gets _
walk-gets (suc left) seen id = then-gets (snapshot_program id) _ (ask-gets (Snapshot id) _ (λ reply. done-gets _)) (λ s. walk-on left (seen ++ s ∷ []) s.parent (walk-gets left))

now-gets : {A : Type 0} (f : Refusal → Refusal) (p : Program A) → Gets p → Gets (refused_now f p)
now-gets f (Done (Ok x)) g = done-gets _
now-gets f (Done (Err why)) g = done-gets _
now-gets f (Ask op next) g = g

pub first-gets : {A : Type 0} (f : Refusal → Refusal) (p : Program A) → Gets p → Gets (refused_first f p)
unfolding Gets
first-gets f (Done result) g = tt
first-gets f (Ask op next) g = (g.0, λ reply. now-gets f (next reply) (g.1 reply))

chain-gets : (at : At) (id : Id12) → Gets (chain_at at id)
chain-gets (At.Branch name) id = walk-gets most_snapshots [] id
chain-gets (At.Tag name) id = walk-gets most_snapshots [] id
chain-gets (At.Snapshot own) id = first-gets _ (chain_program id) (walk-gets most_snapshots [] id)

pub log-gets : (at : At) → Gets (chain_log_program at)
log-gets at = then-gets (resolve_at_program at) _ (resolve-gets at) (λ named. then-gets (chain_at at named.id) _ (chain-gets at named.id) (λ seen. done-gets _))

-- ---- what they owe
pub new-owes : (name : List ℕ) (op : Op) → IsNew name op → OwesRefs op
new-owes name op is = subst (λ (o : Op). OwesRefs o) (sym is.1) refl

pub reset-owes : (name : List ℕ) (op : Op) → IsReset name op → OwesRefs op
reset-owes name op is = subst (λ (o : Op). OwesRefs o) (sym is.2) refl

pub reset-over : (name : List ℕ) (op : Op) → IsReset name op → moves_branch op ≡ true
reset-over name op is = ap moves_branch is.2

pub removal-owes : (name : List ℕ) (op : Op) → IsRemoval name op → OwesRefs op
removal-owes name op is = subst (λ (o : Op). OwesRefs o) (sym is.1) refl

pub bury-owes : (name : List ℕ) (op : Op) → IsBurying name op → OwesRefs op
bury-owes name op is = subst (λ (o : Op). OwesRefs o) (sym is) refl

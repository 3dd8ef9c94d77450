-- The machine of a call, before its first operation.
use Rattle.std.proofs.Common.{◌≡◌, ℕ, ◌≤◌, true, List, refl, sym, ap, subst, ◌∙◌, arith}
use Rattle.std.specs.Prelude.{Result}
use Rattle.store_api.specs.declared.machines.Refusal.{Refusal}
use Rattle.store_api.specs.Program.{is_ask}
use Rattle.store_api.specs.Running.{Program}
use Rattle.store_api.specs.Plays.{Play, call}
use Rattle.repo_read.specs.Chains.{walk}
use Rattle.repo_read.specs.declared.resolving.At.{At}
use Rattle.refs_admin.specs.declared.branch_new.BranchNew.{BranchNew}
use Rattle.refs_admin.specs.declared.branch_reset.BranchReset.{BranchReset}
use Rattle.refs_admin.specs.declared.tag_new.TagNew.{TagNew}
use Rattle.refs_admin.specs.declared.log.Log.{Log}
use Rattle.refs_admin.specs.Branches.{branch_new_program, branch_reset_program}
use Rattle.refs_admin.specs.Tags.{tag_new_program}
use Rattle.refs_admin.specs.LogReading.{chain_log_program}
use Rattle.refs_admin.specs.inside.Working.{branch_new_rest, branch_new_left, branch_reset_rest, branch_reset_left, tag_new_rest, tag_new_left, log_rest, log_left}
use Rattle.script_calls.specs.declared.calls.RefCall.{RefCall}
use Rattle.script_calls.specs.declared.calls.RefCall.TheVariants as ref
use Rattle.play_outcome.specs.declared.outcome.Outcome.{Outcome}
use Rattle.play_refs.specs.declared.working.RefMaker.TheVariants as m
use Rattle.play_refs.specs.declared.working.RefMachine.TheVariants.{Making, Reading}
use Rattle.play_refs.specs.Playing.{unseen, logged}
use Rattle.play_refs.specs.inside.Working.{Begins}

-- ---- each call makes an operation
pub new-asks : (name : List ℕ) (at : At) → is_ask (branch_new_program name at) ≡ true
new-asks name (At.Branch own) = refl
new-asks name (At.Tag own) = refl
new-asks name (At.Snapshot id) = refl

pub reset-asks : (name : List ℕ) (at : At) → is_ask (branch_reset_program name at) ≡ true
reset-asks name (At.Branch own) = refl
reset-asks name (At.Tag own) = refl
reset-asks name (At.Snapshot id) = refl

pub tag-asks : (name : List ℕ) (at : At) → is_ask (tag_new_program name at) ≡ true
tag-asks name (At.Branch own) = refl
tag-asks name (At.Tag own) = refl
tag-asks name (At.Snapshot id) = refl

pub log-asks : (at : At) → is_ask (chain_log_program at) ≡ true
unfolding walk
log-asks (At.Branch own) = refl
log-asks (At.Tag own) = refl
log-asks (At.Snapshot id) = refl

-- ---- by call
same-play : {A : Type 0} (p q : Program A) (f : Result A Refusal → Play Outcome) → q ≡ p → call p f ≡ call q f
same-play p q f e = ap (λ (x : Program _). call x f) (sym e)

same-asks : {A : Type 0} (p q : Program A) → q ≡ p → is_ask p ≡ true → is_ask q ≡ true
same-asks p q e a = ap is_ask e ∙ a

new-begins : (x : BranchNew) (name : List ℕ) (at : At) → branch_new_rest x ≡ branch_new_program name at → branch_new_left x ≤ 4 → Begins (ref.Branch name at) (Making (m.Branch x))
new-begins x name at e few = record {
  plays = λ line next. same-play (branch_new_program name at) (branch_new_rest x) (λ answer. next (unseen answer)) e;
  works = same-asks (branch_new_program name at) (branch_new_rest x) e (new-asks name at);
  few = omega (arith, few);
}

reset-begins : (x : BranchReset) (name : List ℕ) (at : At) → branch_reset_rest x ≡ branch_reset_program name at → branch_reset_left x ≤ 5 → Begins (ref.Reset name at) (Making (m.Reset x))
reset-begins x name at e few = record {
  plays = λ line next. same-play (branch_reset_program name at) (branch_reset_rest x) (λ answer. next (unseen answer)) e;
  works = same-asks (branch_reset_program name at) (branch_reset_rest x) e (reset-asks name at);
  few = omega (arith, few);
}

tag-begins : (x : TagNew) (name : List ℕ) (at : At) → tag_new_rest x ≡ tag_new_program name at → tag_new_left x ≤ 5 → Begins (ref.Tag name at) (Making (m.Tag x))
tag-begins x name at e few = record {
  plays = λ line next. same-play (tag_new_program name at) (tag_new_rest x) (λ answer. next (unseen answer)) e;
  works = same-asks (tag_new_program name at) (tag_new_rest x) e (tag-asks name at);
  few = omega (arith, few);
}

log-begins : (x : Log) (at : At) → log_rest x ≡ chain_log_program at → log_left x ≤ 65538 → Begins (ref.Log at) (Reading x)
log-begins x at e few = record {
  plays = λ line next. same-play (chain_log_program at) (log_rest x) (λ answer. next (logged line answer)) e;
  works = same-asks (chain_log_program at) (log_rest x) e (log-asks at);
  few = few;
}

-- ---- of names that were copied
pub new-made : (x : BranchNew) (c : RefCall) (name kept : List ℕ) (at own : At) → c ≡ ref.Branch name at → kept ≡ name → own ≡ at → branch_new_rest x ≡ branch_new_program kept own → branch_new_left x ≤ 4 → Begins c (Making (m.Branch x))
new-made x c name kept at own is k o e few = subst (λ (y : RefCall). Begins y (Making (m.Branch x))) (sym is) (new-begins x name at (e ∙ (λ i. branch_new_program (k i) (o i))) few)

pub reset-made : (x : BranchReset) (c : RefCall) (name kept : List ℕ) (at own : At) → c ≡ ref.Reset name at → kept ≡ name → own ≡ at → branch_reset_rest x ≡ branch_reset_program kept own → branch_reset_left x ≤ 5 → Begins c (Making (m.Reset x))
reset-made x c name kept at own is k o e few = subst (λ (y : RefCall). Begins y (Making (m.Reset x))) (sym is) (reset-begins x name at (e ∙ (λ i. branch_reset_program (k i) (o i))) few)

pub tag-made : (x : TagNew) (c : RefCall) (name kept : List ℕ) (at own : At) → c ≡ ref.Tag name at → kept ≡ name → own ≡ at → tag_new_rest x ≡ tag_new_program kept own → tag_new_left x ≤ 5 → Begins c (Making (m.Tag x))
tag-made x c name kept at own is k o e few = subst (λ (y : RefCall). Begins y (Making (m.Tag x))) (sym is) (tag-begins x name at (e ∙ (λ i. tag_new_program (k i) (o i))) few)

pub log-made : (x : Log) (c : RefCall) (at own : At) → c ≡ ref.Log at → own ≡ at → log_rest x ≡ chain_log_program own → log_left x ≤ 65538 → Begins c (Reading x)
log-made x c at own is o e few = subst (λ (y : RefCall). Begins y (Reading x)) (sym is) (log-begins x at (e ∙ ap chain_log_program o) few)

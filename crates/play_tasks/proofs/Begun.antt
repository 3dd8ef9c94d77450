-- Where memory is wanting before a task has begun, it tells that, and no fault of the store.
use Rattle.std.proofs.Common.{◌≡◌, ◌∙◌, refl, ap, true, false, ℕ, List, [], Result}
use Rattle.ice_ids.specs.declared.drawing.AnyIds.{AnyIds}
use Rattle.store_api.specs.declared.machines.Refusal.{Refusal}
use Rattle.store_api.specs.Program.{Done, Ask as Ask_next, is_ask}
use Rattle.store_api.specs.Running.{Program}
use Rattle.store_api.specs.Plays.{Play, Ended, Ask, Or, IsLive, Comes, call, dooms}
use Rattle.store_api.proofs.PlayLaws.{dooms-call}
use Rattle.leases.specs.Following.{followed}
use Rattle.leases.proofs.Following.{followed-dooms, followed-live}
use Rattle.repo_read.specs.declared.resolving.At.{At}
use Rattle.session.specs.Opening.{open_program}
use Rattle.script_calls.specs.declared.calls.Access.{Access}
use Rattle.script_calls.specs.declared.calls.Access.TheVariants as access
use Rattle.script_calls.specs.declared.calls.Head.{Head}
use Rattle.script_calls.specs.declared.calls.Head.TheVariants.{Session, Refs, Collect, Expire, Check}
use Rattle.play_script.specs.declared.scripts.Line.{Line}
use Rattle.play_script.specs.declared.scripts.Task.{Task}
use Rattle.play_outcome.specs.declared.outcome.Outcome.{Outcome}
use Rattle.play_outcome.specs.Ending.{ends_failed, is_failed}
use Rattle.play_refs.proofs.Calm.{refs-calm}
use Rattle.play_collect.proofs.Stepping.{task-calm}
use Rattle.play_expire.specs.Playing.{terms_of}
use Rattle.play_expire.proofs.Stepping.{expiry-calm}
use Rattle.play_check.proofs.Stepping.{check-calm}
use Rattle.play_tasks.specs.Playing.{asked_by, after_open, session_play, release_all, released_play, headed_play, task_play}
use Rattle.play_tasks.proofs.Releases.{all-doom}

-- an opening has something to do
pub open-asks : (ids : AnyIds) (a : Access) → is_ask (open_program (asked_by a ids)) ≡ true
open-asks ids (access.Write branch tries policy) = refl
open-asks ids (access.Read (At.Branch name)) = refl
open-asks ids (access.Read (At.Tag name)) = refl
open-asks ids (access.Read (At.Snapshot id)) = refl

-- a live play has come to itself alone
came-live : {A : Type 0} (p q : Play A) → IsLive p → Comes p q → q ≡ p
came-live (Ended a) q live c = absurd live
came-live (Ask op s g) q live c = c
came-live (Or p r) q live c = absurd live

live-call : {A B : Type 0} (p : Program A) (f : Result A Refusal → Play B) → is_ask p ≡ true → IsLive (call p f)
live-call (Done r) f asks = absurd (cc)
live-call (Ask_next op k) f asks = tt

pub begun-undoomed : (ids : AnyIds) (task : Task) (q : Play Outcome) → Comes (task_play ids task) q → dooms is_failed q ≡ false
begun-undoomed ids task q c = by_head task.head c
  where
    by_head : (head : Head) → Comes (headed_play head ids task) q → dooms is_failed q ≡ false
    by_head (Session access) d =
        let p = session_play ids access task.line task.body in
        ap (dooms is_failed) (came-live (followed p release_all) q (followed-live release_all p (live-call (open_program (asked_by access ids)) (after_open access task.line task.body) (open-asks ids access))) d)
        ∙ (followed-dooms release_all ends_failed is_failed all-doom p ∙ dooms-call ends_failed (open_program (asked_by access ids)) (after_open access task.line task.body) (open-asks ids access))
    by_head Refs d = refs-calm task.body [] q refl d
    by_head (Collect cutoff) d = task-calm task.line cutoff q d
    by_head (Expire cutoff drop_branches drop_tags) d = expiry-calm task.line (terms_of cutoff drop_branches drop_tags) q d
    by_head Check d = check-calm task.line q d

-- a session's play has come to itself
pub session-begun : (ids : AnyIds) (a : Access) (line : ℕ) (body : List Line) (q : Play Outcome) → q ≡ released_play ids a line body → Comes (released_play ids a line body) q
session-begun ids (access.Write branch tries policy) line body q e = e
session-begun ids (access.Read (At.Branch name)) line body q e = e
session-begun ids (access.Read (At.Tag name)) line body q e = e
session-begun ids (access.Read (At.Snapshot id)) line body q e = e

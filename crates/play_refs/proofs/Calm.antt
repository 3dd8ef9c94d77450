-- Where memory is wanting before a task has begun that calls on refs, it tells that, and no fault of the store.
use Rattle.std.proofs.Common.{◌≡◌, ◌∙◌, inl, inr, Bool, false, ℕ, List, [], ◌∷◌, refl, ap}
use Rattle.std.specs.Prelude.{◌||◌}
use Rattle.store_api.specs.Plays.{Play, Comes, dooms}
use Rattle.store_api.proofs.PlayLaws.{dooms-came}
use Rattle.refs_admin.specs.Branches.{branch_new_program, branch_reset_program, branch_drop_program}
use Rattle.refs_admin.specs.Tags.{tag_new_program, tag_drop_program}
use Rattle.refs_admin.specs.LogReading.{chain_log_program}
use Rattle.script_calls.specs.declared.calls.RefCall.{RefCall}
use Rattle.script_calls.specs.declared.calls.RefCall.TheVariants as ref
use Rattle.script_calls.specs.declared.calls.Call.{Call}
use Rattle.script_calls.specs.declared.calls.Call.TheVariants as calls_of
use Rattle.play_script.specs.declared.scripts.Line.{Line}
use Rattle.play_outcome.specs.declared.outcome.Shown.{Shown}
use Rattle.play_outcome.specs.declared.outcome.Outcome.{Outcome}
use Rattle.play_outcome.specs.Ending.{is_failed, shows_failed}
use Rattle.play_refs.specs.Playing.{Rest, unseen, logged, ref_play, after_ref, play_ref_line, refs_play}
use Rattle.play_refs.proofs.NewMachines.{new-asks, reset-asks, tag-asks, log-asks}

-- no lease was left, and the end tells no fault
plain-calm : (shown : List Shown) → shows_failed shown ≡ false → (shows_failed shown || false) ≡ false
plain-calm shown plain = ap (λ (b : Bool). b || false) plain

call-calm : (line : ℕ) (r : RefCall) (shown : List Shown) (rest : Rest) (q : Play Outcome) → shows_failed shown ≡ false → Comes (ref_play line r (after_ref line shown rest)) q → dooms is_failed q ≡ false
call-calm line (ref.Branch name at) shown rest q plain c = dooms-came is_failed (branch_new_program name at) (λ answer. after_ref line shown rest (unseen answer)) q (new-asks name at) c ∙ plain-calm shown plain
call-calm line (ref.Reset name at) shown rest q plain c = dooms-came is_failed (branch_reset_program name at) (λ answer. after_ref line shown rest (unseen answer)) q (reset-asks name at) c ∙ plain-calm shown plain
call-calm line (ref.Unbranch name) shown rest q plain c = dooms-came is_failed (branch_drop_program name) (λ answer. after_ref line shown rest (unseen answer)) q refl c ∙ plain-calm shown plain
call-calm line (ref.Tag name at) shown rest q plain c = dooms-came is_failed (tag_new_program name at) (λ answer. after_ref line shown rest (unseen answer)) q (tag-asks name at) c ∙ plain-calm shown plain
call-calm line (ref.Untag name) shown rest q plain c = dooms-came is_failed (tag_drop_program name) (λ answer. after_ref line shown rest (unseen answer)) q refl c ∙ plain-calm shown plain
call-calm line (ref.Log at) shown rest q plain c = dooms-came is_failed (chain_log_program at) (λ answer. after_ref line shown rest (logged line answer)) q (log-asks at) c ∙ plain-calm shown plain

line-calm : (line : ℕ) (x : Call) (shown : List Shown) (rest : Rest) (q : Play Outcome) → shows_failed shown ≡ false → (Comes (rest shown) q → dooms is_failed q ≡ false) → Comes (play_ref_line line x shown rest) q → dooms is_failed q ≡ false
line-calm line (calls_of.Ref r) shown rest q plain calm c = call-calm line r shown rest q plain c
line-calm line (calls_of.Edit edit) shown rest q plain calm c = calm c
line-calm line (calls_of.Read read) shown rest q plain calm c = calm c
line-calm line (calls_of.Commit message) shown rest q plain calm c = calm c
line-calm line (calls_of.Prop name value) shown rest q plain calm c = calm c
line-calm line calls_of.Lease shown rest q plain calm c = calm c

pub refs-calm : (lines : List Line) (shown : List Shown) (q : Play Outcome) → shows_failed shown ≡ false → Comes (refs_play lines shown) q → dooms is_failed q ≡ false
unfolding refs_play
refs-calm [] shown q plain c = ap (dooms is_failed) c ∙ plain-calm shown plain
refs-calm (l ∷ ls) shown q plain (inl c) = line-calm l.number l.call shown (refs_play ls) q plain (λ d. refs-calm ls shown q plain d) c
refs-calm (l ∷ ls) shown q plain (inr c) = ap (dooms is_failed) c ∙ plain-calm shown plain

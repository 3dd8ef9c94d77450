-- The lines of a body, from one that calls on refs to the next.
use Rattle.std.proofs.Common.{◌≡◌, inl, ℕ, suc, ◌+◌, ◌<◌, ◌≤◌, List, ◌∷◌, length, drop, slice_index_or, refl, sym, ap, ◌∙◌, subst, arith}
use Rattle.std.proofs.Math.Seq.{drop-cons}
use Rattle.std.proofs.Math.ListN.{drop_of_length-le}
use Rattle.store_api.specs.declared.machines.Refusal.TheVariants.{NoMemory}
use Rattle.store_api.specs.Plays.{Play, Or, Comes}
use Rattle.script_calls.specs.declared.calls.RefCall.{RefCall}
use Rattle.script_calls.specs.declared.calls.Call.{Call}
use Rattle.script_calls.specs.declared.calls.Call.TheVariants as call
use Rattle.play_script.specs.declared.scripts.Line.{Line}
use Rattle.play_outcome.specs.declared.outcome.Shown.{Shown}
use Rattle.play_outcome.specs.declared.outcome.End.TheVariants.{Done}
use Rattle.play_outcome.specs.declared.outcome.Outcome.{Outcome}
use Rattle.play_outcome.specs.Playing.{ended, refused}
use Rattle.play_refs.specs.Playing.{Rest, ref_play, after_ref, play_ref_line, refs_play}
use Rattle.play_refs.specs.inside.Working.{lines_from}

-- the first of the lines of a body that are left
left : (body : List Line) (i : ℕ) (l : Line) (shown : List Shown) → i < length body → l ≡ slice_index_or body i l → lines_from body i shown ≡ Or (play_ref_line l.number l.call shown (lines_from body (i + 1))) (refused l.number shown NoMemory)
unfolding refs_play
left body i l shown within is =
    let next : suc i ≡ i + 1 = omega arith in
    let cut : drop i body ≡ l ∷ drop (i + 1) body = drop-cons body i l within ∙ (ap (λ (n : ℕ). slice_index_or body i l ∷ drop n body) next ∙ ap (λ (x : Line). x ∷ drop (i + 1) body) (sym is)) in
    ap (λ (ls : List Line). refs_play ls shown) cut

-- it calls on refs
pub one_ref : (body : List Line) (i : ℕ) (l : Line) (c : RefCall) (shown : List Shown) (q : Play Outcome) → i < length body → l ≡ slice_index_or body i l → l.call ≡ call.Ref c
    → Comes (Or (ref_play l.number c (after_ref l.number shown (lines_from body (i + 1)))) (refused l.number shown NoMemory)) q → Comes (lines_from body i shown) q
one_ref body i l c shown q within is e k =
    let to = left body i l shown within is ∙ ap (λ (x : Call). Or (play_ref_line l.number x shown (lines_from body (i + 1))) (refused l.number shown NoMemory)) e in
    subst (λ (p : Play Outcome). Comes p q) (sym to) k

-- it is passed over
passed : (c : Call) (line : ℕ) (shown : List Shown) (rest : Rest) → ((own : RefCall) → c ≡ call.Ref own → ⊥) → play_ref_line line c shown rest ≡ rest shown
passed (call.Ref own) line shown rest other = absurd (other own refl)
passed (call.Edit edit) line shown rest other = refl
passed (call.Read read) line shown rest other = refl
passed (call.Commit message) line shown rest other = refl
passed (call.Prop name value) line shown rest other = refl
passed call.Lease line shown rest other = refl

pub one_on : (body : List Line) (i : ℕ) (l : Line) (shown : List Shown) (q : Play Outcome) → i < length body → l ≡ slice_index_or body i l → ((own : RefCall) → l.call ≡ call.Ref own → ⊥) → Comes (lines_from body (i + 1) shown) q → Comes (lines_from body i shown) q
one_on body i l shown q within is other k =
    let to = left body i l shown within is in
    subst (λ (p : Play Outcome). Comes p q) (sym to) (inl (subst (λ (p : Play Outcome). Comes p q) (sym (passed l.call l.number shown (lines_from body (i + 1)) other)) k))

pub at_end : (body : List Line) (i : ℕ) (shown kept : List Shown) → length body ≤ i → kept ≡ shown → Comes (lines_from body i shown) (ended kept Done)
unfolding refs_play
at_end body i shown kept past k = subst (λ (ls : List Line). Comes (refs_play ls shown) (ended kept Done)) (sym (drop_of_length-le body past)) (ap (λ (x : List Shown). ended x Done) k)

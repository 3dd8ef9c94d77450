use Rattle.std.proofs.Common.{◌≡◌, ◌∙◌, ℕ, List, true, false, ap, sym, subst}
use Rattle.std.specs.Prelude.{IfOk}
use Rattle.store_api.specs.Running.{Program}
use Rattle.repo_read.specs.declared.resolving.At.{At}
use Rattle.session.specs.declared.open.Open.{Open}
use Rattle.session.specs.Sessions.{SessionState}
use Rattle.session.specs.Opening.{open_program, open_rest}
use Rattle.script_calls.specs.declared.calls.Access.{Access}
use Rattle.play_tasks.specs.Playing.{asked_by}
use Rattle.play_tasks.proofs.session_worker.begin.Goals as goal

pub returns-in_ok-copy-in-Write : goal.returns-in_ok-copy-in-Write
returns-in_ok-copy-in-Write c =
    let ids = c.args.ids in
    let to = ap (λ (branch : List ℕ). open_program (record { at = At.Branch branch; writes = true; ids = ids })) c.in_ok-copy-in-Write.ensures ∙ ap (λ (a : Access). open_program (asked_by a ids)) (sym c.in-Write.is) in
    subst (λ (p : Program SessionState). IfOk c.write.result (λ (opener : Open). open_rest opener ≡ p)) to c.write.ensures.program

pub returns-in_ok-copy-in-Read : goal.returns-in_ok-copy-in-Read
returns-in_ok-copy-in-Read c =
    let ids = c.args.ids in
    let to = ap (λ (at : At). open_program (record { at = at; writes = false; ids = ids })) c.in_ok-copy-in-Read.ensures ∙ ap (λ (a : Access). open_program (asked_by a ids)) (sym c.in-Read.is) in
    subst (λ (p : Program SessionState). IfOk c.read.result (λ (opener : Open). open_rest opener ≡ p)) to c.read.ensures.program

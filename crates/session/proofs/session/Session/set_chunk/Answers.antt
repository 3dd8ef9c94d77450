use Rattle.std.proofs.Common.{◌≡◌, refl, sym, ap, subst, ◌∙◌, ℕ, List, length}
use Rattle.std.specs.Prelude.{Err, Some, None}
use Rattle.zarr_changes.specs.Sets.{set_refusal}
use Rattle.store_api.specs.declared.machines.Refusal.{Refusal}
use Rattle.store_api.specs.Running.{Program}
use Rattle.session.specs.Sessions.{SessionState, nodes_seen, writes}
use Rattle.session.specs.Viewed.{viewed}
use Rattle.session.specs.Editing.{refusal_of_edit}
use Rattle.session.specs.Chunks.{set_program}
use Rattle.session.specs.Setting.{SetBegun, SetRefused}
use Rattle.session.specs.inside.Working.{put_chunk_of}
use Rattle.session.proofs.Chunking.{set_read_only, set_refused, set_there}
use Rattle.session.proofs.Outright.{outright_reading, outright_refused, outright_taken}
use Rattle.session.proofs.session.Session.set_chunk.Goals as goal

pub returns-then-not-writes-clause-sets : goal.returns-then-not-writes-clause-sets
returns-then-not-writes-clause-sets c = (set_read_only c.args.self c.args.path.now c.args.index.now c.args.bytes.now (sym c.writes.ensures ∙ c.if-not-writes.true), refl)

pub returns-in-Err-clause-sets : goal.returns-in-Err-clause-sets
returns-in-Err-clause-sets c =
    let at_view = set_refused (viewed c.self.inside) c.args.path.now c.args.index.now c.args.bytes.now c.in-Err.fault (ap writes c.self.view_is ∙ (sym c.writes.ensures ∙ c.if-not-writes.false)) c.in-Err.ensures in
    let at_now = subst (λ (s : SessionState). SetRefused (set_program s c.args.path.now c.args.index.now c.args.bytes.now) s s (refusal_of_edit c.in-Err.fault)) c.self.view_is at_view in
    subst (λ (r : Refusal). SetRefused (set_program c.args.self c.args.path.now c.args.index.now c.args.bytes.now) c.args.self c.args.self r) (sym c.refusal_of_edit.ensures) at_now

pub returns-in-Ok-copies-clause-sets : goal.returns-in-Ok-copies-clause-sets
returns-in-Ok-copies-clause-sets c =
    let v = viewed c.self.inside in
    let i = c.args.index.now in
    let b = c.args.bytes.now in
    let writing = ap writes c.self.view_is ∙ (sym c.writes.ensures ∙ c.if-not-writes.false) in
    let there = subst (λ (s : SessionState). put_chunk_of s c.in-Ok.node i b ≡ set_program s c.args.path.now i b) c.self.view_is (set_there v c.args.path.now i b c.in-Ok.node writing c.in-Ok.ensures) in
    let given : put_chunk_of c.args.self c.in-Ok.node c.in-Ok-copies.index c.in-Ok-copies.bytes ≡ put_chunk_of c.args.self c.in-Ok.node i b = ap (λ (held : List ℕ × List ℕ). put_chunk_of c.args.self c.in-Ok.node held.0 held.1) c.in-Ok-copies.ensures in
    subst (λ (p : Program SessionState). SetBegun p c.args.self c.set_held.result) (given ∙ there) c.set_held.ensures

pub returns-then-not-writes-clause-outright : goal.returns-then-not-writes-clause-outright
returns-then-not-writes-clause-outright c = outright_reading c.args.self c.args.path.now c.args.index.now (length c.args.bytes.now) _ (sym c.writes.ensures ∙ c.if-not-writes.true) refl

pub returns-in-Err-clause-outright : goal.returns-in-Err-clause-outright
returns-in-Err-clause-outright c =
    let found = subst (λ (s : SessionState). set_refusal (nodes_seen s) c.args.path.now c.args.index.now (length c.args.bytes.now) ≡ Some c.in-Err.fault) c.self.view_is c.in-Err.ensures in
    outright_refused c.args.self c.args.path.now c.args.index.now (length c.args.bytes.now) _ c.in-Err.fault (sym c.writes.ensures ∙ c.if-not-writes.false) found (ap (λ (why : Refusal). Err (c.args.self, why)) c.refusal_of_edit.ensures)

pub returns-in-Ok-copies-clause-outright : goal.returns-in-Ok-copies-clause-outright
returns-in-Ok-copies-clause-outright c =
    let taken = subst (λ (s : SessionState). set_refusal (nodes_seen s) c.args.path.now c.args.index.now (length c.args.bytes.now) ≡ None) c.self.view_is c.in-Ok.ensures.0 in
    outright_taken c.args.self c.args.path.now c.args.index.now (length c.args.bytes.now) _ (sym c.writes.ensures ∙ c.if-not-writes.false) taken

pub returns-in-Err-copies-clause-outright : goal.returns-in-Err-copies-clause-outright
returns-in-Err-copies-clause-outright c =
    let taken = subst (λ (s : SessionState). set_refusal (nodes_seen s) c.args.path.now c.args.index.now (length c.args.bytes.now) ≡ None) c.self.view_is c.in-Ok.ensures.0 in
    outright_taken c.args.self c.args.path.now c.args.index.now (length c.args.bytes.now) _ (sym c.writes.ensures ∙ c.if-not-writes.false) taken

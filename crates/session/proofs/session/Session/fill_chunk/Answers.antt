use Rattle.std.proofs.Common.{◌≡◌, refl, sym, ap, subst, ◌∙◌, ℕ, List, length}
use Rattle.std.specs.Prelude.{replicate, Err, Some, None}
use Rattle.zarr_changes.specs.Sets.{set_refusal}
use Rattle.store_api.specs.declared.machines.Refusal.{Refusal}
use Rattle.store_api.specs.Running.{Program}
use Rattle.session.specs.Sessions.{SessionState, nodes_seen, writes}
use Rattle.session.specs.Viewed.{viewed}
use Rattle.session.specs.Editing.{refusal_of_edit}
use Rattle.session.specs.Chunks.{set_program, filled}
use Rattle.session.specs.Setting.{SetBegun, SetRefused}
use Rattle.session.specs.inside.Working.{put_chunk_of}
use Rattle.session.proofs.Chunking.{set_read_only}
use Rattle.session.proofs.Filled.{fill_none, fill_refused, fill_taken, fill_there}
use Rattle.session.proofs.Outright.{outright_reading, outright_refused, outright_taken}
use Rattle.session.proofs.session.Session.fill_chunk.Goals as goal

pub returns-then-not-writes-clause-sets : goal.returns-then-not-writes-clause-sets
returns-then-not-writes-clause-sets c = (set_read_only c.args.self c.args.path.now c.args.index.now (filled c.args.self c.args.path.now c.args.byte) (sym c.writes.ensures ∙ c.if-not-writes.true), refl)

pub returns-in-Err-clause-sets : goal.returns-in-Err-clause-sets
returns-in-Err-clause-sets c =
    let p = c.args.path.now in
    let i = c.args.index.now in
    let at_view = fill_refused (viewed c.self.inside) p i c.args.byte c.in-Err.fault (ap writes c.self.view_is ∙ (sym c.writes.ensures ∙ c.if-not-writes.false)) (sym c.find_chunk.ensures ∙ c.in-Err.is) in
    let at_now = subst (λ (s : SessionState). SetRefused (set_program s p i (filled s p c.args.byte)) s s (refusal_of_edit c.in-Err.fault)) c.self.view_is at_view in
    subst (λ (r : Refusal). SetRefused (set_program c.args.self p i (filled c.args.self p c.args.byte)) c.args.self c.args.self r) (sym c.refusal_of_edit.ensures) at_now

pub returns-in-Ok-made-clause-sets : goal.returns-in-Ok-made-clause-sets
returns-in-Ok-made-clause-sets c =
    let p = c.args.path.now in
    let i = c.args.index.now in
    let at = c.in-Ok.chunk in
    let writing = ap writes c.self.view_is ∙ (sym c.writes.ensures ∙ c.if-not-writes.false) in
    let there = subst (λ (s : SessionState). put_chunk_of s at.node i (replicate at.bytes c.args.byte) ≡ set_program s p i (filled s p c.args.byte)) c.self.view_is (fill_there (viewed c.self.inside) p i c.args.byte at writing (sym c.find_chunk.ensures ∙ c.in-Ok.is)) in
    let given : put_chunk_of c.args.self at.node c.in-Ok-made.index c.in-Ok-made.bytes ≡ put_chunk_of c.args.self at.node i (replicate at.bytes c.args.byte) = ap (λ (held : List ℕ × List ℕ). put_chunk_of c.args.self at.node held.0 held.1) c.in-Ok-made.ensures in
    subst (λ (q : Program SessionState). SetBegun q c.args.self c.set_held.result) (given ∙ there) c.set_held.ensures

pub returns-then-not-writes-clause-outright : goal.returns-then-not-writes-clause-outright
returns-then-not-writes-clause-outright c = outright_reading c.args.self c.args.path.now c.args.index.now (length (filled c.args.self c.args.path.now c.args.byte)) _ (sym c.writes.ensures ∙ c.if-not-writes.true) refl

pub returns-in-Err-clause-outright : goal.returns-in-Err-clause-outright
returns-in-Err-clause-outright c =
    let p = c.args.path.now in
    let i = c.args.index.now in
    let b = c.args.byte in
    let none = subst (λ (s : SessionState). set_refusal (nodes_seen s) p i (length (filled s p b)) ≡ Some c.in-Err.fault) c.self.view_is (fill_none (viewed c.self.inside) p i b c.in-Err.fault (sym c.find_chunk.ensures ∙ c.in-Err.is)) in
    outright_refused c.args.self p i (length (filled c.args.self p b)) _ c.in-Err.fault (sym c.writes.ensures ∙ c.if-not-writes.false) none (ap (λ (why : Refusal). Err (c.args.self, why)) c.refusal_of_edit.ensures)

pub returns-in-Ok-made-clause-outright : goal.returns-in-Ok-made-clause-outright
returns-in-Ok-made-clause-outright c =
    let p = c.args.path.now in
    let i = c.args.index.now in
    let b = c.args.byte in
    let taken = subst (λ (s : SessionState). set_refusal (nodes_seen s) p i (length (filled s p b)) ≡ None) c.self.view_is (fill_taken (viewed c.self.inside) p i b c.in-Ok.chunk (sym c.find_chunk.ensures ∙ c.in-Ok.is)) in
    outright_taken c.args.self p i (length (filled c.args.self p b)) _ (sym c.writes.ensures ∙ c.if-not-writes.false) taken

pub returns-in-Err-made-clause-outright : goal.returns-in-Err-made-clause-outright
returns-in-Err-made-clause-outright c =
    let p = c.args.path.now in
    let i = c.args.index.now in
    let b = c.args.byte in
    let taken = subst (λ (s : SessionState). set_refusal (nodes_seen s) p i (length (filled s p b)) ≡ None) c.self.view_is (fill_taken (viewed c.self.inside) p i b c.in-Ok.chunk (sym c.find_chunk.ensures ∙ c.in-Ok.is)) in
    outright_taken c.args.self p i (length (filled c.args.self p b)) _ (sym c.writes.ensures ∙ c.if-not-writes.false) taken

use Rattle.std.proofs.Common.{◌≡◌, Result, sym, ap, subst, ◌∙◌, Ok, Err}
use Rattle.zarr_tree.specs.declared.edit.EditFault.{EditFault}
use Rattle.zarr_changes.specs.declared.chunks.ChunkAt.{ChunkAt}
use Rattle.zarr_changes.specs.Sets.{chunk_found}
use Rattle.store_api.specs.declared.machines.Refusal.{Refusal}
use Rattle.session.specs.Sessions.{SessionState, nodes_seen}
use Rattle.session.specs.Chunks.{get_program}
use Rattle.session.specs.Getting.{GetRefused, GetsOutright}
use Rattle.session.proofs.ReadSteps.{get_refused, get_found}
use Rattle.session.proofs.session.Session.get_chunk.Goals as goal

pub returns-in-Ok-clause-read : goal.returns-in-Ok-clause-read
returns-in-Ok-clause-read c =
    let found = subst (λ (s : SessionState). chunk_found (nodes_seen s) c.args.path.now c.args.index.now ≡ Ok c.in-Ok.at) c.self.view_is (sym c.find_chunk.ensures ∙ c.in-Ok.is) in
    get_found c.args.self c.args.path.now c.args.index.now c.in-Ok.at c.get_found.result found c.get_found.ensures.read

pub returns-in-Err-clause-read : goal.returns-in-Err-clause-read
returns-in-Err-clause-read c =
    let found = subst (λ (s : SessionState). chunk_found (nodes_seen s) c.args.path.now c.args.index.now ≡ Err c.in-Err.fault) c.self.view_is (sym c.find_chunk.ensures ∙ c.in-Err.is) in
    subst (λ (r : Refusal). GetRefused (get_program c.args.self c.args.path.now c.args.index.now) c.args.self c.args.self r) (sym c.refusal_of_edit.ensures)
    (get_refused c.args.self c.args.path.now c.args.index.now c.in-Err.fault found)

pub returns-in-Ok-clause-outright : goal.returns-in-Ok-clause-outright
returns-in-Ok-clause-outright c =
    let found = subst (λ (s : SessionState). chunk_found (nodes_seen s) c.args.path.now c.args.index.now ≡ Ok c.in-Ok.at) c.self.view_is (sym c.find_chunk.ensures ∙ c.in-Ok.is) in
    subst (λ (r : Result ChunkAt EditFault). GetsOutright r c.args.self c.get_found.result) (sym found) tt

pub returns-in-Err-clause-outright : goal.returns-in-Err-clause-outright
returns-in-Err-clause-outright c =
    let found = subst (λ (s : SessionState). chunk_found (nodes_seen s) c.args.path.now c.args.index.now ≡ Err c.in-Err.fault) c.self.view_is (sym c.find_chunk.ensures ∙ c.in-Err.is) in
    subst (λ (r : Result ChunkAt EditFault). GetsOutright r c.args.self (Err (c.args.self, c.refusal_of_edit.result))) (sym found) (ap (λ (w : Refusal). Err (c.args.self, w)) c.refusal_of_edit.ensures)

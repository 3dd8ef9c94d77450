use Rattle.std.proofs.Common.{refl, sym, ap, subst, ◌∙◌, Result, Err}
use Rattle.store_api.specs.declared.machines.Refusal.{Refusal}
use Rattle.zarr_changes.specs.Sets.{unset_refusal}
use Rattle.session.specs.Sessions.{SessionState, base_nodes, nodes_seen, writes}
use Rattle.session.specs.Viewed.{viewed}
use Rattle.session.specs.Editing.{Leaves}
use Rattle.session.specs.Chunks.{chunk_unset}
use Rattle.session.proofs.Chunking.{unset_read_only, unset_refused, unset_done, few-chunk-unset}
use Rattle.session.proofs.session.Session.unset_chunk.Goals as goal
use Rattle.session.proofs.session.Session.unset_chunk.Goals.{in-Ok, in-Err}

pub returns-then-not-writes : goal.returns-then-not-writes
returns-then-not-writes c = (unset_read_only c.args.self.now c.args.path.now c.args.index.now (sym c.writes.ensures ∙ c.if-not-writes.true), refl)

pub invariant_of-self : goal.invariant_of-self
invariant_of-self c =
    let v = viewed c.self.inside in
    few-chunk-unset c.self.inside.changes (base_nodes v) c.args.path.now c.args.index.now (unset_refusal (nodes_seen v) c.args.path.now c.args.index.now) c.unset_chunk.new.self c.unset_chunk.result c.self.invariant c.unset_chunk.ensures

pub returns : goal.returns
returns c =
    let v = viewed c.self.inside in
    let new = viewed (record c.self.inside { changes = c.unset_chunk.new.self }) in
    let at_view : Leaves (chunk_unset v c.args.path.now c.args.index.now) v c.match-unset_chunk.result new = elim c.match-unset_chunk.branch [
      | in-Ok w ↦
          subst (λ (r : Result (Unit {0}) Refusal). Leaves (chunk_unset v c.args.path.now c.args.index.now) v r new) (sym w.result-is)
          (unset_done v c.args.path.now c.args.index.now c.unset_chunk.new.self tt (ap writes c.self.view_is ∙ (sym c.writes.ensures ∙ c.if-not-writes.false)) w.in-Ok.ensures)
      | in-Err w ↦
          subst (λ (r : Result (Unit {0}) Refusal). Leaves (chunk_unset v c.args.path.now c.args.index.now) v r new) (sym (w.result-is ∙ ap (λ (r : Refusal). Err r) w.refusal_of_edit.ensures))
          (unset_refused v c.args.path.now c.args.index.now c.unset_chunk.new.self w.in-Err.fault (ap writes c.self.view_is ∙ (sym c.writes.ensures ∙ c.if-not-writes.false)) w.in-Err.ensures)
    ] in
    subst (λ (s : SessionState). Leaves (chunk_unset s c.args.path.now c.args.index.now) s c.match-unset_chunk.result new) c.self.view_is at_view

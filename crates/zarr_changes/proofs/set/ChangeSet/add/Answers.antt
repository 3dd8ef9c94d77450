use Rattle.std.proofs.Common.{◌≡◌, Bool, true, false, cond, not, is_some, None, Some, sym, ap, ◌∙◌}
use Rattle.std.specs.FinMap.{FinMap, get, insert}
use Rattle.manifest_file.specs.declared.manifest.Place.{Place}
use Rattle.zarr_path.specs.Paths.{path_cmp}
use Rattle.zarr_tree.specs.declared.edit.EditFault.TheVariants.{NodeExists}
use Rattle.zarr_tree.specs.Nodes.{Node}
use Rattle.zarr_tree.specs.Held.{Held, nodes_over}
use Rattle.zarr_changes.specs.Edits.{with_added}
use Rattle.zarr_changes.specs.Sets.{add_refusal}
use Rattle.zarr_changes.proofs.AddLaws.{answered, closed, by_added}
use Rattle.zarr_changes.proofs.set.ChangeSet.add.Goals as goal

pub returns-then-is_closed : goal.returns-then-is_closed
returns-then-is_closed g c =
    let nodes : FinMap path_cmp Node = g.B.TreeLike.nodes c.args.base.now in
    answered {P = Place} c.args.self.now (with_added c.args.self.now c.args.path.now (record { id = c.args.id; text = c.args.meta.text }))
    (add_refusal (nodes_over c.args.self.now nodes) c.args.path.now)
    c.may_add.result (closed c.args.self.now nodes c.args.path.now (sym c.is_closed.ensures ∙ c.if-is_closed.true)) c.may_add.ensures

pub returns-then-not-free : goal.returns-then-not-free
returns-then-not-free g c =
    let nodes : FinMap path_cmp Node = g.B.TreeLike.nodes c.args.base.now in
    let free : c.in_ok-free.free ≡ not (is_some (get c.args.self.now.added c.args.path.now)) =
    c.in_ok-free.ensures.free ∙ ap (λ (h : Held Place). not (is_some (get h.added c.args.path.now))) c.self.view_is in
    let same : c.insert_new.new.self ≡ c.self.inside.added =
    c.in_ok-free.ensures.entered ∙ ap (λ (b : Bool). cond b (insert c.self.inside.added c.args.path.now (record { id = c.args.id; text = c.args.meta.text })) c.self.inside.added) c.if-not-free.true in (
      by_added c.args.self.now nodes c.args.path.now c.in_ok-free.free (sym c.is_closed.ensures ∙ c.if-is_closed.false) free ∙ ap (λ (b : Bool). cond b None (Some NodeExists)) c.if-not-free.true,
      ap (λ (a : FinMap path_cmp Node). record { dropped = c.self.inside.dropped; added = a; metas = c.self.inside.metas; chunks = c.self.inside.entries }) same ∙ c.self.view_is,
    )

pub returns : goal.returns
returns g c =
    let nodes : FinMap path_cmp Node = g.B.TreeLike.nodes c.args.base.now in
    let node : Node = record { id = c.args.id; text = c.args.meta.text } in
    let free : c.in_ok-free.free ≡ not (is_some (get c.args.self.now.added c.args.path.now)) =
    c.in_ok-free.ensures.free ∙ ap (λ (h : Held Place). not (is_some (get h.added c.args.path.now))) c.self.view_is in
    let more : c.insert_new.new.self ≡ insert c.args.self.now.added c.args.path.now node =
    c.in_ok-free.ensures.entered ∙ ap (λ (b : Bool). cond b (insert c.self.inside.added c.args.path.now node) c.self.inside.added) c.if-not-free.false
    ∙ ap (λ (h : Held Place). insert h.added c.args.path.now node) c.self.view_is in (
      by_added c.args.self.now nodes c.args.path.now c.in_ok-free.free (sym c.is_closed.ensures ∙ c.if-is_closed.false) free ∙ ap (λ (b : Bool). cond b None (Some NodeExists)) c.if-not-free.false,
      ap (λ (h : Held Place). record h { added = c.insert_new.new.self }) c.self.view_is ∙ ap (λ (a : FinMap path_cmp Node). record c.args.self.now { added = a }) more,
    )

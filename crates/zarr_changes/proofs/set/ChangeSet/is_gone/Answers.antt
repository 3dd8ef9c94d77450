use Rattle.std.proofs.Common.{◌≡◌, ◌∙◌, ap, sym, option_map, length, true, nat_eq}
use Rattle.manifest_file.specs.declared.manifest.Place.{Place}
use Rattle.zarr_tree.specs.Held.{Held}
use Rattle.zarr_path.proofs.PathLaws.{by_numbers}
use Rattle.zarr_tree.specs.Touched.{lists}
use Rattle.zarr_changes.proofs.Walking.{met_up, gone_met, met_next, nothing_gone}
use Rattle.zarr_changes.proofs.set.ChangeSet.is_gone.Goals as goal

pub returns-then-is_empty : goal.returns-then-is_empty
returns-then-is_empty g c =
    let held : Held Place = c.args.self.now in
    let bare : nat_eq (length held.dropped) 0 ≡ true = ap (λ (h : Held Place). nat_eq (length h.dropped) 0) (sym c.self.view_is) ∙ sym c.is_empty.ensures ∙ c.if-is_empty.true in
    nothing_gone held.dropped (g.B.TreeLike.nodes c.args.base.now) c.args.path.now ((by_numbers (length held.dropped) 0).0 bare)

pub loop-next-init : goal.loop-next-init
loop-next-init g c = gone_met (lists c.args.self.now.dropped) (g.B.TreeLike.nodes c.args.base.now) c.args.path.now

pub loop-next-preserved : goal.loop-next-preserved
loop-next-preserved g c =
    met_next (lists c.args.self.now.dropped) (g.B.TreeLike.nodes c.args.base.now) _ c.in-Some.text.now c.args.path.now c.is_dropped.result
    (c.loop-next.invariant ∙ ap (λ next. met_up (lists c.args.self.now.dropped) (g.B.TreeLike.nodes c.args.base.now) (option_map (λ text. text.now) next) c.args.path.now) c.in-Some.is)
    c.is_dropped.ensures c.if-is_dropped.false c.before_slash-next.ensures.value

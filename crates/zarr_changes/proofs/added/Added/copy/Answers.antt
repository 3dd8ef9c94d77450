use Rattle.std.proofs.Common.{◌≡◌, ◌++◌, ◌∷◌, ap, sym, subst, ◌∙◌}
use Rattle.std.specs.String.{string_bytes}
use Rattle.std.specs.FinMap.{entries, insert}
use Rattle.std.specs.Map.Iter.{deref_pair}
use Rattle.std.proofs.lemmas.Map.Iter.{rest_more, rest_all}
use Rattle.zarr_path.specs.Paths.{is_path}
use Rattle.zarr_tree.specs.Rows.{ArePaths, node_rows}
use Rattle.zarr_tree.proofs.KeptLaws.{kept_entries, copy_start, node_next, row_path, copy_end}
use Rattle.zarr_changes.proofs.added.Added.copy.Goals as goal
use Rattle.zarr_changes.proofs.added.Added.copy.Goals.{In-Some}

pub loop-text-init : goal.loop-text-init
loop-text-init c =
    copy_start c.new-copy.result (node_rows c.into_iter-text-iterator.result) c.new-copy.ensures
    ∙ ap node_rows (c.into_iter-text-iterator.ensures.into_iter_gives ∙ c.iter-text-items.ensures.rest)
    ∙ sym (kept_entries c.self.inside.nodes.entries c.args.self.now c.self.invariant.0 c.self.view_is)

-- the row that is taken stands behind the copied ones
turn : (c : In-Some) → entries c.loop-text.copy ++ (string_bytes c.in-Some.text.now, c.in-Some.node.now) ∷ node_rows c.next.new.self ≡ entries c.args.self.now
turn c =
    let left : c.loop-text.text-iterator ≡ (c.in-Some.text.now, c.in-Some.node.now) ∷ c.next.new.self =
    rest_more deref_pair c.loop-text.text-iterator c.next.new.self c.next.result (c.in-Some.text, c.in-Some.node) c.in-Some.is c.next.ensures.steps in
    ap (λ es. entries c.loop-text.copy ++ node_rows es) (sym left) ∙ c.loop-text.invariant

pub enter-requires : goal.enter-requires
enter-requires c =
    let named : ArePaths (entries c.args.self.now) = subst ArePaths (sym (kept_entries c.self.inside.nodes.entries c.args.self.now c.self.invariant.0 c.self.view_is)) c.self.invariant.1 in
    ap is_path c.in_ok-clone.ensures.cases
    ∙ row_path (entries c.loop-text.copy) (node_rows c.next.new.self) (entries c.args.self.now) (string_bytes c.in-Some.text.now) c.in-Some.node.now named (turn (goal.at.enter-requires c).In-Some)

pub loop-text-preserved : goal.loop-text-preserved
loop-text-preserved c =
    node_next c.loop-text.copy c.enter.new.self c.args.self.now (node_rows c.next.new.self) (string_bytes c.in-Some.text.now) c.in-Some.node.now
    (c.in_ok-enter.ensures.ok ∙ (λ i. insert c.loop-text.copy (c.in_ok-clone.ensures.cases i) (c.in_ok-copy.ensures i)))
    (turn (goal.at.loop-text-preserved c).In-Some)

pub returns : goal.returns
returns c = copy_end c.loop-text.copy c.args.self.now (node_rows c.loop-text.text-iterator) c.loop-text.invariant
    (ap node_rows (rest_all deref_pair c.loop-text.text-iterator c.next.new.self c.next.result c.in-None.is c.next.ensures.steps))

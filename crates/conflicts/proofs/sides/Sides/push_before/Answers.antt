use Rattle.std.proofs.Common.{◌≡◌, ◌∙◌, ℕ, List, true, false, length, Some, sym, ap, arith}
use Rattle.std.specs.Prelude.{slice_get}
use Rattle.std.specs.Ordering.{is_lt}
use Rattle.std.specs.FinMap.{entries, len, len-entries}
use Rattle.zarr_path.specs.Paths.{path_cmp}
use Rattle.zarr_tree.specs.Nodes.{Node}
use Rattle.zarr_tree.specs.Rows.{node_found}
use Rattle.conflicts.specs.Found.{Sides, of_row}
use Rattle.conflicts.proofs.Steps.{before-pushed, none-before, all-before, from-later, from-here, from-none}
use Rattle.conflicts.proofs.sides.Sides.push_before.Goals as goal

pub returns-then-not-is_before-clause-found : goal.returns-then-not-is_before-clause-found
returns-then-not-is_before-clause-found g c =
    let row : List ℕ × Node = (c.row.result.0.now, node_found c.row.result.1) in
    let stands : slice_get (entries c.args.self.now.before) c.loop-at.at ≡ Some row = ap (λ (s : Sides). slice_get (entries s.before) c.loop-at.at) (sym c.self.view_is) ∙ c.row.ensures.row in
    let behind : is_lt (path_cmp row.0 c.args.path.now) ≡ false = ap (λ q. is_lt (path_cmp row.0 q)) (sym c.as_str.ensures.value) ∙ sym c.is_before.ensures ∙ c.if-not-is_before.true in
    none-before (of_row c.args.self.now) (entries c.args.self.now.before) c.loop-at.at c.args.path.now c.loop-at.found _ row stands behind c.loop-at.invariant.0

pub returns-then-not-is_before-clause-next : goal.returns-then-not-is_before-clause-next
returns-then-not-is_before-clause-next g c =
    let row : List ℕ × Node = (c.row.result.0.now, node_found c.row.result.1) in
    let stands : slice_get (entries c.args.self.now.before) c.loop-at.at ≡ Some row = ap (λ (s : Sides). slice_get (entries s.before) c.loop-at.at) (sym c.self.view_is) ∙ c.row.ensures.row in
    let behind : is_lt (path_cmp row.0 c.args.path.now) ≡ false = ap (λ q. is_lt (path_cmp row.0 q)) (sym c.as_str.ensures.value) ∙ sym c.is_before.ensures ∙ c.if-not-is_before.true in
    from-here (entries c.args.self.now.before) c.loop-at.at c.args.path.now row _ stands behind c.loop-at.invariant.1

pub loop-at-preserved : goal.loop-at-preserved
loop-at-preserved g c =
    let row : List ℕ × Node = (c.row.result.0.now, node_found c.row.result.1) in
    let stands : slice_get (entries c.args.self.now.before) c.loop-at.at ≡ Some row = ap (λ (s : Sides). slice_get (entries s.before) c.loop-at.at) (sym c.self.view_is) ∙ c.row.ensures.row in
    let before : is_lt (path_cmp row.0 c.args.path.now) ≡ true = ap (λ q. is_lt (path_cmp row.0 q)) (sym c.as_str.ensures.value) ∙ sym c.is_before.ensures ∙ c.if-not-is_before.false in (
      before-pushed (of_row c.args.self.now) (entries c.args.self.now.before) c.loop-at.at c.args.path.now c.loop-at.found c.push_row.new.found _ row stands before c.in_ok-push_row.ensures c.loop-at.invariant.0,
      from-later (entries c.args.self.now.before) c.loop-at.at c.args.path.now row _ stands before c.loop-at.invariant.1,
    )

pub returns-clause-found : goal.returns-clause-found
returns-clause-found g c =
    let many : c.len-at-end.result ≡ length (entries c.args.self.now.before) = c.len-at-end.ensures ∙ ap (λ (s : Sides). len s.before) c.self.view_is ∙ len-entries c.args.self.now.before in
    all-before (of_row c.args.self.now) (entries c.args.self.now.before) c.loop-at.at c.args.path.now c.loop-at.found _ (omega (arith, c.loop-at-test.false, many)) c.loop-at.invariant.0

pub returns-clause-next : goal.returns-clause-next
returns-clause-next g c =
    let many : c.len-at-end.result ≡ length (entries c.args.self.now.before) = c.len-at-end.ensures ∙ ap (λ (s : Sides). len s.before) c.self.view_is ∙ len-entries c.args.self.now.before in
    let last : c.len.result ≡ length (entries c.args.self.now.before) = c.len.ensures ∙ ap (λ (s : Sides). len s.before) c.self.view_is ∙ len-entries c.args.self.now.before in
    from-none (entries c.args.self.now.before) c.loop-at.at c.args.path.now c.len.result _ (omega (arith, c.loop-at-test.false, many)) (omega (arith, last)) c.loop-at.invariant.1

use Rattle.std.proofs.Common.{◌≡◌, ◌∙◌, List, ℕ, None, not, sym, ap}
use Rattle.std.specs.Option.{option_copied}
use Rattle.std.specs.FinMap as map
use Rattle.tree_model.specs.Models.{held_of}
use Rattle.tree_model.specs.inside.Conflicting.{is_orphan, is_conflict, at_path}
use Rattle.tree_model.proofs.Conflicting.{as_tested, is_left, left_out, at_path_only}
use Rattle.tree_model.proofs.sides.Sides.conflicts.Goals as goal

pub returns-then-is_none-2 : goal.returns-then-is_none-2
returns-then-is_none-2 c =
    let none : option_copied c.args.index ≡ None = left_out c.args.index (c.is_none-in-NewNodeInInvalidGroup.ensures ∙ ap not c.if-is_none-2.true) in
    as_tested (held_of c.args.self.now.mine.now) c.args.self.now.theirs.now c.args.self.now.before.now c.args.self.now.after.now c.args.case c.args.path.now (option_copied c.args.index) c.is_orphan.result
    (c.is_orphan.ensures
    ∙ ap (is_orphan (held_of c.args.self.now.mine.now) c.args.self.now.before.now c.args.self.now.after.now) c.as_str-then-is_none-2.ensures.value
    ∙ (λ n. is_conflict (sym c.in-NewNodeInInvalidGroup.is n) (held_of c.args.self.now.mine.now) c.args.self.now.theirs.now c.args.self.now.before.now c.args.self.now.after.now c.args.path.now (sym none n)))

pub returns-in_default : goal.returns-in_default
returns-in_default c = is_left c.at_path.result _ _ c.at_path.ensures (λ b e.
    as_tested (held_of c.args.self.now.mine.now) c.args.self.now.theirs.now c.args.self.now.before.now c.args.self.now.after.now c.args.case c.args.path.now (option_copied c.args.index) b
    (e ∙ ap (λ (p : List ℕ). at_path c.args.case (held_of c.args.self.now.mine.now) c.args.self.now.theirs.now c.args.self.now.before.now c.args.self.now.after.now p (option_copied c.args.index) (map.get c.args.self.now.before.now p)) c.as_str-in_default.ensures.value
    ∙ at_path_only (held_of c.args.self.now.mine.now) c.args.self.now.theirs.now c.args.self.now.before.now c.args.self.now.after.now c.args.case c.args.path.now (option_copied c.args.index) c.in_default.not-NewNodeConflictsWithExistingNode c.in_default.not-NewNodeInInvalidGroup))

use Rattle.std.proofs.Common.{sym, ◌∙◌}
use Rattle.std.specs.Prelude.{Some, None}
use Rattle.commit_path.specs.Committing.{written_in}
use Rattle.commit_path.proofs.Walking.{got-merged, none-behind}
use Rattle.commit_path.proofs.commit.Commit.write_array.Goals as goal

pub returns-in-Some-merged-clause-turns : goal.returns-in-Some-merged-clause-turns
returns-in-Some-merged-clause-turns c =
    let s = c.args.self.now in
    let r = c.in_ok-begin_manifest.ensures.reaches in
    (got-merged s.session s.message (written_in s) s.arrays.left c.in-Some.array.now c.args.got.now.items (Some c.in-Some-merged.refs) c.in-Some.ensures (sym c.in-Some-merged.is ∙ c.in-Ok.ensures.is) ∙ r.0, r.1)

pub returns-in-Ok-close-clause-turns : goal.returns-in-Ok-close-clause-turns
returns-in-Ok-close-clause-turns c =
    let s = c.args.self.now in
    got-merged s.session s.message (written_in s) s.arrays.left c.in-Some.array.now c.args.got.now.items None c.in-Some.ensures (sym c.in_default-merged-2.is ∙ c.in-Ok.ensures.is)
    ∙ none-behind s.session s.message s.session.ids s.arrays.news s.arrays.left c.in-Some.array.now c.close.new.self c.in-Some.ensures c.in-Ok-close.ensures.ok

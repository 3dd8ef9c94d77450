use Rattle.std.proofs.Common.{rules, ◌≡◌, None}
use Rattle.std.proofs.lemmas.Option.{MatchOption-at_some}
use Rattle.object_store.specs.Machine.{part_of}
use Rattle.object_files.specs.Paths.{path_in}
use Rattle.object_files.specs.inside.Finding.{IsMeasuredBy}
use Rattle.object_files.proofs.Listed.{inserted, kept}
use Rattle.object_files.proofs.Found.{adds-one, right-one, right-kept}
use Rattle.object_files.proofs.listing.add_key.Goals.{in-Ok, in-Err}
use Rattle.object_files.proofs.listing.add_key.Goals as goal

pub returns-clause-of : goal.returns-clause-of
returns-clause-of g c =
    let of : part_of c.args.key ≡ c.args.part = search rules in
    elim c.match-insert.branch [
      | in-Ok w ↦ inserted c.args.part c.args.found.now c.insert.new.self c.args.key c.in-Some.measures c.requires.of c.insert.ensures.ordered of w.in-Ok.ensures.updates
      | in-Err w ↦ kept c.args.part c.args.found.now c.insert.new.self c.requires.of c.insert.ensures.ordered w.in-Err.ensures.err
    ]

pub returns-clause-right : goal.returns-clause-right
returns-clause-right g c = λ tells.
    let here : IsMeasuredBy c.in-Some.measures (g.F.Folder.files c.args.tree.now (path_in c.args.root.now c.args.key)) =
    MatchOption-at_some (part_of c.args.key ≡ c.args.part → g.F.Folder.files c.args.tree.now (path_in c.args.root.now c.args.key) ≡ None) (λ measures. IsMeasuredBy measures (g.F.Folder.files c.args.tree.now (path_in c.args.root.now c.args.key))) c.in-Some.measures c.in-Some.is (c.in_ok-measures.ensures.right tells) in
    elim c.match-insert.branch [
      | in-Ok w ↦ right-one c.args.found.now c.insert.new.self c.args.key c.in-Some.measures w.in-Ok.ensures.updates (g.F.Folder.files c.args.tree.now) c.args.root.now (c.requires.right tells) here
      | in-Err w ↦ right-kept (g.F.Folder.files c.args.tree.now) c.args.root.now c.args.found.now c.insert.new.self (c.requires.right tells) w.in-Err.ensures.err
    ]

pub returns-clause-adds : goal.returns-clause-adds
returns-clause-adds g c = λ tells.
    elim c.match-insert.branch [
      | in-Ok w ↦ rw w.result-is (adds-one c.args.found.now c.insert.new.self c.args.key c.in-Some.measures w.in-Ok.ensures.updates (g.F.Folder.files c.args.tree.now) c.args.root.now c.args.part)
      | in-Err w ↦ rw w.result-is tt
    ]

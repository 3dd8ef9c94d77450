use Rattle.std.proofs.Common.{rules, of_calls, ◌∙◌, Some, Ok, Err, sym, ap}
use Rattle.std.proofs.lemmas.Fn.{always_returns_same}
use Rattle.zarr_path.specs.Paths.{path_cmp}
use Rattle.changed_snapshot.specs.declared.new_snapshot.NewList.{NewList}
use Rattle.changed_snapshot.specs.Rows.{list_key}
use Rattle.changed_snapshot.proofs.Halves.{searched}
use Rattle.changed_snapshot.proofs.rows.list_at.Goals as goal

-- the closure compares a list's path
pub returns-in-Ok : goal.returns-in-Ok
returns-in-Ok c =
    let facts = c.in-Ok.ensures in
    let found = searched list_key c.args.news.now c.args.path.now (Ok c.in-Ok.at) c.requires facts.bound (facts.position (λ list. path_cmp list.path c.args.path.now) (always_returns_same _ _ _ (λ a r f called. search (rules, of_calls)))) in
    ap (λ (list : NewList). Some list) c.index-news-at.is ∙ sym (found c.index-news-at.result)

pub returns-in-Err : goal.returns-in-Err
returns-in-Err c =
    let facts = c.in-Err.ensures in
    sym (searched list_key c.args.news.now c.args.path.now (Err c.in-Err.field-0) c.requires facts.bound (facts.position (λ list. path_cmp list.path c.args.path.now) (always_returns_same _ _ _ (λ a r f called. search (rules, of_calls)))))

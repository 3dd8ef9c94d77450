use Rattle.std.proofs.Common.{◌∙◌, rules, of_calls}
use Rattle.std.proofs.lemmas.Fn.{always_returns_same}
use Rattle.zarr_path.specs.Paths.{path_cmp}
use Rattle.conflicts.proofs.Halving.{searched-paths}
use Rattle.conflicts.proofs.lists.has_path.Goals as goal

pub returns : goal.returns
returns c =
    let facts = c.binary_search_by.ensures in
    c.is_ok.ensures.value
    ∙ searched-paths c.args.paths.now c.args.text.now c.binary_search_by.result c.requires facts.bound
    (facts.position (λ path. path_cmp path c.args.text.now) (always_returns_same _ _ _ (λ a r f called. search (rules, of_calls))))

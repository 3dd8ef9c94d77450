use Rattle.std.proofs.Common.{◌≡◌, ◌++◌, ◌∙◌, ℕ, List, ap}
use Rattle.std.specs.Prelude.{codes}
use Rattle.dir_store.proofs.Flushing.{all-firm}
use Rattle.dir_store.proofs.clearing.flush_all.Goals as goal

pub returns-clause-firm : goal.returns-clause-firm
returns-clause-firm g c = λ tells.
    let root : List ℕ = c.args.root.now in
    let refs : List ℕ = c.as_str.result.now in
    let there : refs ≡ root ++ codes "/" ++ codes "refs" =
    c.as_str.ensures.value ∙ c.in_ok-refs.ensures ∙ ap (λ (name : List ℕ). root ++ codes "/" ++ name) c.folder_of.ensures in
    all-firm root refs (g.F.Folder.loose c.args.tree.now) (g.F.Folder.loose c.flush_folders.new.tree) (g.F.Folder.loose c.flush_parts.new.tree) (g.F.Folder.loose c.flush_root.new.self)
    there (c.in_ok-flush_folders.ensures.firm tells) (c.flush_parts.ensures.loose tells) (c.in_ok-flush_parts.ensures.firm tells) (c.flush_root.ensures.loose tells)

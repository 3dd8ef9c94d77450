use Rattle.std.proofs.Common.{◌≡◌, ◌∙◌, ℕ, List, Bool, String, Global, not, refl, ap, rules}
use Rattle.std.specs.List.{filter}
use Rattle.std.specs.String.{string_bytes}
use Rattle.std.specs.FinMap.{FinMap, retain_keys}
use Rattle.std.proofs.lemmas.Map.Entries.{filter_from_retain_pairs}
use Rattle.zarr_path.specs.Paths.{path_cmp, is_within}
use Rattle.zarr_tree.specs.Nodes.{Node}
use Rattle.zarr_tree.proofs.KeptLaws.{kept_in_order, kept_paths, kept_map}
use Rattle.zarr_changes.proofs.added.Added.remove_within.Goals as goal
use Rattle.zarr_changes.proofs.added.Added.remove_within.Goals.{After-retain}

-- what stays
stayed : (c : After-retain) → c.retain.new.self.entries ≡ filter (λ (e : String Global × Node). not (is_within c.args.of.now (string_bytes e.0))) c.self.inside.nodes.entries
stayed c =
    filter_from_retain_pairs _ (λ f. f.0.now ≡ c.args.of.now) (λ (e : String Global × Node). not (is_within c.args.of.now (string_bytes e.0)))
    (λ g k v b w g' i t. (search rules, search rules, search rules)) _ c.self.inside.nodes.entries c.retain.new.self.entries refl c.retain.ensures.filtered

pub invariant_of-self : goal.invariant_of-self
invariant_of-self c =
    let test : List ℕ → Bool = λ path. not (is_within c.args.of.now path) in (
      kept_in_order test c.self.inside.nodes.entries c.retain.new.self.entries (stayed c) c.self.invariant.0,
      kept_paths test c.self.inside.nodes.entries c.retain.new.self.entries (stayed c) c.self.invariant.1,
    )

pub returns : goal.returns
returns c =
    let test : List ℕ → Bool = λ path. not (is_within c.args.of.now path) in
    kept_map test c.self.inside.nodes.entries c.retain.new.self.entries (stayed c) ∙ ap (λ (nodes : FinMap path_cmp Node). retain_keys nodes test) c.self.view_is

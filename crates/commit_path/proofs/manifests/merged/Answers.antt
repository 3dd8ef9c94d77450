use Rattle.std.proofs.Common.{◌≡◌, ℕ, true, List, sym, subst, ◌∙◌}
use Rattle.std.specs.Prelude.{Option}
use Rattle.std.specs.List.{list_all}
use Rattle.std.proofs.lemmas.List.Sums.{AllPass-from_list_all}
use Rattle.manifest_file.specs.declared.manifest.Place.{Place}
use Rattle.manifest_index.specs.Extents.{are_low}
use Rattle.commit_path.proofs.manifests.merged.Goals as goal

pub merge-requires : goal.merge-requires
merge-requires c =
    AllPass-from_list_all (λ (x : List ℕ × Option Place). are_low x.0) _
    (subst (λ (xs : List (List ℕ × Option Place)). list_all (λ (x : List ℕ × Option Place). are_low x.0) xs ≡ true) c.deref.ensures.value (sym c.all_low.ensures ∙ c.if-not-all_low.false))

use Rattle.std.proofs.Common.{◌≡◌, ◌∙◌, ℕ, List, ◌++◌, ◌∷◌, [], false, map, Bor, nat_eq, sym, ap, subst}
use Rattle.std.specs.List.{list_any, starts_with}
use Rattle.std.specs.List.Sorted.{IsStrictlySortedBy}
use Rattle.zarr_path.specs.Paths.{path_cmp, same_path, root, is_beneath}
use Rattle.conflicts.specs.Found.{Sides, new_rows, has_new_beneath}
use Rattle.conflicts.proofs.Facts.{news-sorted}
use Rattle.conflicts.proofs.Halving.{beneath-begins}
use Rattle.conflicts.proofs.Steps.{any-news, any-same}
use Rattle.conflicts.proofs.sides.Sides.has_new_beneath.Goals as goal

pub returns-then-same_path : goal.returns-then-same_path
returns-then-same_path g c =
    c.any_beneath.ensures ∙ ap (list_any (λ (text : Bor (List ℕ)). is_beneath c.args.path.now text.now)) c.as_slice.ensures.value
    ∙ any-news (is_beneath c.args.path.now) c.self.inside.news.items (new_rows c.self.inside.theirs.now (g.U.TreeLike.nodes c.self.inside.after.now)) c.self.invariant.news
    ∙ ap (λ (s : Sides). has_new_beneath s c.args.path.now) c.self.view_is

pub any_begins-requires : goal.any_begins-requires
any_begins-requires g c =
    subst (IsStrictlySortedBy path_cmp) (sym (ap (map (λ (text : Bor (List ℕ)). text.now)) c.as_slice-2.ensures.value ∙ c.self.invariant.news))
    (news-sorted c.self.inside.theirs.now (g.U.TreeLike.nodes c.self.inside.after.now))

pub returns : goal.returns
returns g c =
    let path : List ℕ = c.args.path.now in
    let other : same_path path root ≡ false = sym c.same_path.ensures ∙ c.if-same_path.false in
    c.any_begins.ensures
    ∙ ap (λ (folder : List ℕ). list_any (λ (text : Bor (List ℕ)). starts_with nat_eq text.now folder) c.as_slice-2.result.now) (c.as_str.ensures.value ∙ c.in_ok-folder.ensures)
    ∙ ap (list_any (λ (text : Bor (List ℕ)). starts_with nat_eq text.now (path ++ 47 ∷ []))) c.as_slice-2.ensures.value
    ∙ any-same (λ (text : Bor (List ℕ)). starts_with nat_eq text.now (path ++ 47 ∷ [])) (λ text. is_beneath path text.now) c.self.inside.news.items (λ text. sym (beneath-begins path text.now other))
    ∙ any-news (is_beneath path) c.self.inside.news.items (new_rows c.self.inside.theirs.now (g.U.TreeLike.nodes c.self.inside.after.now)) c.self.invariant.news
    ∙ ap (λ (s : Sides). has_new_beneath s path) c.self.view_is

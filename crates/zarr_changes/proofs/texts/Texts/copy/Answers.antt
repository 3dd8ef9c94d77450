use Rattle.std.proofs.Common.{◌≡◌, ℕ, List, T, ◌++◌, ◌∷◌, ap, sym, subst, ◌∙◌}
use Rattle.std.specs.FinMap.{is_sorted}
use Rattle.std.specs.Map.Iter.{deref_pair}
use Rattle.std.proofs.lemmas.Map.Iter.{rest_more}
use Rattle.ice_ids.specs.declared.Id8.{Id8}
use Rattle.ice_ids.specs.Text.{id8_cmp}
use Rattle.zarr_meta.specs.declared.metas.Meta.{Meta}
use Rattle.zarr_changes.specs.Edits.{with_row}
use Rattle.zarr_changes.specs.inside.Kept.{text_rows}
use Rattle.zarr_changes.proofs.IdLaws.{texts-sorted, text_next}
use Rattle.zarr_changes.proofs.texts.Texts.copy.Goals as goal

pub loop-id-preserved : goal.loop-id-preserved
loop-id-preserved c =
    let k : Id8 = c.in-Some.id.now in
    let text : List ℕ = c.in-Some.meta.now.text in
    let all : List (Id8 × List ℕ) = c.args.self.now in
    let copy : List (Id8 × List ℕ) = c.loop-id.copy in
    let left : c.loop-id.id-iterator ≡ (c.in-Some.id.now, c.in-Some.meta.now) ∷ c.next.new.self =
    rest_more deref_pair c.loop-id.id-iterator c.next.new.self c.next.result (c.in-Some.id, c.in-Some.meta) c.in-Some.is c.next.ensures.steps in
    let rows : copy ++ (k, text) ∷ text_rows c.next.new.self ≡ all = ap (λ es. copy ++ text_rows es) (sym left) ∙ c.loop-id.invariant in
    let sorted : T (is_sorted id8_cmp all) = subst (λ (x : List (Id8 × List ℕ)). T (is_sorted id8_cmp x)) c.self.view_is (texts-sorted c.self.inside.metas.entries c.self.invariant) in
    ap (λ (x : List (Id8 × List ℕ)). x ++ text_rows c.next.new.self) (c.in_ok-insert.ensures.ok ∙ ap (λ (m : Meta). with_row copy k m.text) c.in_ok-share.ensures)
    ∙ text_next copy (text_rows c.next.new.self) all k text sorted rows

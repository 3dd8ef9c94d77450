use Rattle.std.proofs.Common.{Option, Some, None, cond, sym, ap, ◌∙◌}
use Rattle.std.specs.Prelude.{bytes_eq}
use Rattle.std.proofs.lemmas.Map.Text.{is_eq-slice_cmp}
use Rattle.manifest_file.specs.declared.manifest.Place.{Place}
use Rattle.manifest_index.specs.inside.Chunks.{chunk_at}
use Rattle.manifest_index.proofs.chunks.set.Goals as goal

pub returns-in_ok-insert-in-Some : goal.returns-in_ok-insert-in-Some
returns-in_ok-insert-in-Some c = λ q.
    c.in_ok-insert-in-Some.ensures.updates.0 q
    ∙ (ap (λ b. cond b (Some c.in-Some.place) (chunk_at q c.args.chunks.now)) (is_eq-slice_cmp c.args.index q)
    ∙ ap (λ (p : Option Place). cond (bytes_eq c.args.index q) p (chunk_at q c.args.chunks.now)) (sym c.in-Some.is))

pub returns-in-None : goal.returns-in-None
returns-in-None c = λ q.
    c.remove.ensures.updates.0 q
    ∙ (ap (λ b. cond b None (chunk_at q c.args.chunks.now)) (is_eq-slice_cmp c.args.index q)
    ∙ ap (λ (p : Option Place). cond (bytes_eq c.args.index q) p (chunk_at q c.args.chunks.now)) (sym c.in-None.is))

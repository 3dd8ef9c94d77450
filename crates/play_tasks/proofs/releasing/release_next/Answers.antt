use Rattle.std.proofs.Common.{◌∙◌, ap, set}
use Rattle.std.specs.Prelude.{Option}
use Rattle.store_api.specs.declared.machines.Refusal.{Refusal}
use Rattle.play_outcome.specs.declared.outcome.Shown.TheVariants.{Lease}
use Rattle.play_tasks.proofs.Phases.{release-acts, left-is}
use Rattle.play_tasks.proofs.releasing.release_next.Goals as goal

pub returns-clause-acts : goal.returns-clause-acts
returns-clause-acts g c =
    let shown = c.args.shown.items in
    let told = c.release.result in
    let kept = c.show_at-shown.ensures ∙ ap (λ (left : Option Refusal). set shown c.args.at (Lease c.args.line c.args.id left)) (c.err-left.ensures.value ∙ left-is told) in
    release-acts (g.S.Viewed.view c.args.store.now) (g.S.Viewed.view c.release.new.store) shown c.show_at-shown.result.items c.args.end c.args.at c.args.line c.args.id told c.release_on.result c.release.ensures.acts c.requires kept c.release_on.ensures.rest

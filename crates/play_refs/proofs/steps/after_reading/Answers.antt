use Rattle.std.proofs.Common.{◌≡◌, false, List, sym, subst}
use Rattle.play_outcome.specs.declared.outcome.Shown.{Shown}
use Rattle.play_outcome.specs.Ending.{shows_failed}
use Rattle.play_refs.proofs.Plain.{logs_plain}
use Rattle.play_refs.proofs.steps.after_reading.Goals as goal

pub play_lines-requires : goal.play_lines-requires
play_lines-requires c = record {
  plain = subst (λ (items : List Shown). shows_failed items ≡ false) (sym (c.in-Ok.ensures.ok)) (logs_plain c.args.line c.args.shown.items c.into_vec.result.items c.requires.plain);
}

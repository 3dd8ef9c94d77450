use Rattle.std.proofs.Common.{subst, sym}
use Rattle.clap.specs.Words.{Kinds}
use Rattle.command_words.specs.Complaints.{Complains}
use Rattle.command_words.specs.declared.reading.BoxWords.{BoxWords}
use Rattle.command_words.specs.declared.reading.Topic.TheVariants as T
use Rattle.command_words.specs.Words.{answer_of, box_in, box_said}
use Rattle.command_words.proofs.complaints.cells_complaint.Goals as goal

pub returns-in-Ok : goal.returns-in-Ok
returns-in-Ok c =
    let words = c.args.words.now in
    let seen = subst (λ (box : BoxWords). Complains words (box_said box) c.complaint.result) c.in-Ok.ensures.1 (c.complaint.ensures words c.in-Ok.ensures.1) in
    subst (λ (kinds : Kinds). Complains words (answer_of kinds (box_said (box_in words)) T.Cells) c.complaint.result) (sym c.in-Ok.ensures.0.0) seen

use Rattle.std.proofs.Common.{◌∙◌, ap, subst, sym}
use Rattle.clap.specs.Words.{is_simple_and_free, fault_of, app_of, HasMatchesOf}
use Rattle.clap.specs.Kinds.{HasKind}
use Rattle.command_words.specs.Parsers.{mirror}
use Rattle.command_words.proofs.Read.{paired, refused, mirror_is_free, mirror_one, lent}
use Rattle.command_words.proofs.parsers.mirror_given.Goals as goal

pub returns-in-Ok : goal.returns-in-Ok
returns-in-Ok c =
    let words = c.args.words.now in
    let matches = subst (λ ws. HasMatchesOf (app_of c.args.command) ws c.in-Ok.matches) (lent words) c.in-Ok.ensures.matches in
    let found = subst (λ a. HasMatchesOf a words c.in-Ok.matches) c.requires matches in
    let takes = ap (fault_of (app_of c.args.command)) (sym (lent words)) ∙ c.in-Ok.ensures.kinds (ap is_simple_and_free c.requires ∙ mirror_is_free) in
    paired words c.in-Ok.matches _ _ found (ap (λ a. fault_of a words) (sym c.requires) ∙ takes) c.text_given-from.ensures c.text_given-to.ensures

pub returns-in-Err : goal.returns-in-Err
returns-in-Err c =
    let words = c.args.words.now in
    let kinds = subst (λ ws. HasKind (fault_of (app_of c.args.command) ws) c.in-Err.error) (lent words) (c.in-Err.ensures.kinds (ap is_simple_and_free c.requires ∙ mirror_is_free)) in
    refused mirror words c.in-Err.error _ (mirror_one words) (subst (λ a. HasKind (fault_of a words) c.in-Err.error) c.requires kinds) c.refusal_of.ensures

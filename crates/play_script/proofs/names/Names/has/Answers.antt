use Rattle.std.proofs.Common.{List, ℕ, ap, ◌∙◌}
use Rattle.std.specs.String.{string_bytes}
use Rattle.script_values.specs.Values.{◌reads◌}
use Rattle.play_script.specs.SoFar.{is_among}
use Rattle.play_script.proofs.Naming.{any_mapped}
use Rattle.play_script.proofs.names.Names.has.Goals as goal

pub returns : goal.returns
returns c =
    c.contains.ensures ∙ any_mapped (λ (other : List ℕ). c.args.name.now reads other) string_bytes c.self.inside.texts.keys
    ∙ ap (λ (names : List (List ℕ)). is_among names c.args.name.now) c.self.view_is

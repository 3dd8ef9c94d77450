use Rattle.std.proofs.Common.{◌≡◌, false, List, [], ◌∷◌, ◌++◌, ℕ, map, sym, ap, subst, ◌∙◌}
use Rattle.std.specs.String.{string_bytes}
use Rattle.play_script.specs.SoFar.{is_among}
use Rattle.play_script.proofs.Naming.{one_more_text}
use Rattle.play_script.proofs.names.Names.add.Goals as goal

pub returns : goal.returns
returns c =
    let free : is_among (map string_bytes c.self.inside.texts.keys) c.args.name.now ≡ false = subst (λ (names : List (List ℕ)). is_among names c.args.name.now ≡ false) (sym c.self.view_is) c.requires in
    ap (map string_bytes) c.in_ok-insert.ensures.keys
    ∙ one_more_text string_bytes c.self.inside.texts.keys c.in_ok-text.text c.args.name.now c.in_ok-text.ensures.ok free
    ∙ ap (λ (names : List (List ℕ)). names ++ c.args.name.now ∷ []) c.self.view_is

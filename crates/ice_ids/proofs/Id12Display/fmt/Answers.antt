use Rattle.std.proofs.Common.{List, ℕ, sym, subst}
use Rattle.std.specs.Str.{IsUtf8}
use Rattle.ice_ids.proofs.TextLaws.{id12_text-IsUtf8, ok_from_cases}
use Rattle.ice_ids.proofs.Id12Display.fmt.Goals as goal

pub unwrap-requires : goal.unwrap-requires
unwrap-requires g c =
    let text : IsUtf8 c.text.result = subst (λ (xs : List ℕ). IsUtf8 xs) (sym c.text.ensures.text) (id12_text-IsUtf8 c.args.self.now) in
    ok_from_cases c.from_utf8.result _ _ c.from_utf8.ensures.cases (λ e refused. refused.0 text)

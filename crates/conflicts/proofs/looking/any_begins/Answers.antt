use Rattle.std.proofs.Common.{◌∙◌, ℕ, List, Bor, nat_eq, arith}
use Rattle.std.specs.List.{starts_with}
use Rattle.conflicts.proofs.Halving.{place_tells, none_begins}
use Rattle.conflicts.proofs.looking.any_begins.Goals as goal

pub returns-then-at-texts : goal.returns-then-at-texts
returns-then-at-texts c =
    none_begins (λ (text : Bor (List ℕ)). text.now) c.args.texts.now c.args.folder.now c.place-at.result c.requires c.place-at.ensures.before c.place-at.ensures.behind (omega (arith, c.if-at-texts.true))

pub returns : goal.returns
returns c =
    c.starts_with.ensures.value ∙ (λ i. starts_with nat_eq (c.as_bytes.ensures.value i) (c.as_bytes-2.ensures.value i))
    ∙ place_tells (λ (text : Bor (List ℕ)). text.now) c.args.texts.now c.args.folder.now c.place-at.result c.requires c.place-at.ensures.before c.place-at.ensures.behind _ (omega (arith, c.if-at-texts.false))

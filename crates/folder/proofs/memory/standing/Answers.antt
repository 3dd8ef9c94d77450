use Rattle.std.proofs.Common.{◌≡◌, ◌∙◌, sym, ap, arith, Bool, false, true}
use Rattle.std.specs.Prelude.{string_bytes, bytes_eq, option_copied}
use Rattle.std.proofs.lemmas.Slice.Eq.{bytes_eq-Decides}
use Rattle.folder.specs.Memory.{content_of}
use Rattle.folder.proofs.Changes.{at-none, found-here, found-before}
use Rattle.folder.proofs.memory.standing.Goals.{then-eq, else-eq}
use Rattle.folder.proofs.memory.standing.Goals as goal

pub loop-change-init : goal.loop-change-init
loop-change-init c = at-none c.args.path.now

apart : (b : Bool) → b ≡ true → b ≡ false → ⊥
apart b so not = cc

pub loop-change-preserved : goal.loop-change-preserved
loop-change-preserved c =
    let test : c.eq.result ≡ bytes_eq (string_bytes c.change-item.result.path) c.args.path.now = c.eq.ensures ∙ ap (λ text. bytes_eq text c.args.path.now) c.as_str.ensures.value in
    elim c.if-eq.branch [
      | then-eq w ↦
          ap (λ found. content_of (option_copied found)) w.found-is
          ∙ found-here c.args.path.now c.args.changes.now c.loop-change.change-index c.change-item.result (omega arith) (sym c.change-item.is) ((bytes_eq-Decides (string_bytes c.change-item.result.path) c.args.path.now).0 (sym test ∙ w.if-eq.true))
      | else-eq w ↦
          ap (λ found. content_of (option_copied found)) w.found-is ∙ c.loop-change.invariant
          ∙ found-before c.args.path.now c.args.changes.now c.loop-change.change-index c.change-item.result (omega arith) (sym c.change-item.is) (λ same. apart c.eq.result (test ∙ (bytes_eq-Decides (string_bytes c.change-item.result.path) c.args.path.now).1 same) w.if-eq.false)
    ]

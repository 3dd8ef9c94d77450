use Rattle.std.proofs.Common.{sym, ap, ◌∙◌}
use Rattle.crc_sum.specs.Crc.{remainder_behind, ones}
use Rattle.crc_sum.proofs.Tables.{remainder_behind-append}
use Rattle.crc_sum.proofs.Table.feed.Goals as goal

pub returns-clause-appended : goal.returns-clause-appended
returns-clause-appended c = λ bytes e.
    let p = c.args.self.now in
    let piece = c.args.piece.now in
    c.remainder_behind.ensures c.self.inside.polynomial (rw c.deref.ensures.value c.self.invariant) ∙ ap (λ n. remainder_behind n c.args.remainder piece) c.self.view_is
    ∙ ap (λ n. remainder_behind p n piece) e ∙ sym (remainder_behind-append p ones bytes piece)

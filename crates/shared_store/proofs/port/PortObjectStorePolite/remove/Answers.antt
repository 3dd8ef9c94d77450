use Rattle.std.proofs.Common.{sym, ◌∙◌}
use Rattle.turn_cell.specs.Passes.{known, cell_of}
use Rattle.shared_store.proofs.Calls.{grows-at, called-at}
use Rattle.shared_store.proofs.port.PortObjectStorePolite.remove.Goals as goal

pub give-requires-clause-journal : goal.give-requires-clause-journal
give-requires-clause-journal g c = rw c.take-held.ensures.turn (grows-at g.S.WholeStore.tells c.args.self.now.client (cell_of c.args.self.now.pass) (known c.args.self.now.pass).owners c.args.self.now.inside (known c.args.self.now.pass).journal (g.S.Viewed.view c.take-held.result) (g.met.S.WholeStore.told c.take-held.result) c.tell.ensures.good c.take-held.ensures.journal _ _ c.remove-result.result (g.S.Viewed.view c.remove-result.new.self) (g.met.S.WholeStore.alone c.take-held.result) c.remove-result.ensures)

pub returns : goal.returns
returns g c = rw (c.give.ensures.cell ∙ sym c.args.self.now.of_cell, c.give.ensures.seen, c.take-held.ensures.turn) (called-at g.S.WholeStore.tells c.args.self.now.client (cell_of c.args.self.now.pass) (known c.args.self.now.pass).owners c.args.self.now.inside (known c.args.self.now.pass).journal (g.S.Viewed.view c.take-held.result) (g.met.S.WholeStore.told c.take-held.result) c.tell.ensures.good c.take-held.ensures.journal _ _ c.remove-result.result (g.S.Viewed.view c.remove-result.new.self) (g.met.S.WholeStore.alone c.take-held.result) c.remove-result.ensures (known c.args.self.now.pass).count c.take-held.ensures.count)

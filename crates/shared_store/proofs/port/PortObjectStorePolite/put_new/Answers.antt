use Rattle.std.proofs.Common.{sym, ◌∙◌}
use Rattle.turn_cell.specs.Passes.{known, cell_of}
use Rattle.object_store.specs.declared.events.Op.TheVariants.{PutNew}
use Rattle.shared_store.proofs.Calls.{polite-at, grows-at, called-at}
use Rattle.shared_store.proofs.port.PortObjectStorePolite.put_new.Goals as goal

pub put_new-result-requires : goal.put_new-result-requires
put_new-result-requires g c = record { polite = polite-at g.S.WholeStore.tells c.args.self.now.client (cell_of c.args.self.now.pass) (known c.args.self.now.pass).owners c.args.self.now.inside (known c.args.self.now.pass).journal (g.S.Viewed.view c.take-held.result) (g.met.S.WholeStore.told c.take-held.result) c.tell.ensures.good c.take-held.ensures.journal (PutNew c.args.key.now c.args.bytes.now c.args.why) c.requires }

pub give-requires-clause-journal : goal.give-requires-clause-journal
give-requires-clause-journal g c = rw c.take-held.ensures.turn (grows-at g.S.WholeStore.tells c.args.self.now.client (cell_of c.args.self.now.pass) (known c.args.self.now.pass).owners c.args.self.now.inside (known c.args.self.now.pass).journal (g.S.Viewed.view c.take-held.result) (g.met.S.WholeStore.told c.take-held.result) c.tell.ensures.good c.take-held.ensures.journal _ _ c.put_new-result.result (g.S.Viewed.view c.put_new-result.new.self) (g.met.S.WholeStore.alone c.take-held.result) c.put_new-result.ensures)

pub returns : goal.returns
returns g c = rw (c.give.ensures.cell ∙ sym c.args.self.now.of_cell, c.give.ensures.seen, c.take-held.ensures.turn) (called-at g.S.WholeStore.tells c.args.self.now.client (cell_of c.args.self.now.pass) (known c.args.self.now.pass).owners c.args.self.now.inside (known c.args.self.now.pass).journal (g.S.Viewed.view c.take-held.result) (g.met.S.WholeStore.told c.take-held.result) c.tell.ensures.good c.take-held.ensures.journal _ _ c.put_new-result.result (g.S.Viewed.view c.put_new-result.new.self) (g.met.S.WholeStore.alone c.take-held.result) c.put_new-result.ensures (known c.args.self.now.pass).count c.take-held.ensures.count)

use Rattle.object_store.specs.declared.events.Op.TheVariants.{PutNew}
use Rattle.shared_store.proofs.Calls.{stays-good, polite-as}
use Rattle.shared_store.proofs.legal_store.LegalStore.put_new.Goals as goal

pub invariant_of-self : goal.invariant_of-self
invariant_of-self g c = stays-good _ _ _ g.S.WholeStore.tells c.args.client _ _ _ c.set_client.ensures (g.met.S.WholeStore.told c.self.inside.store) (g.met.S.WholeStore.alone c.self.inside.store) c.self.invariant (rw c.self.view_is c.requires.polite) c.put_new.ensures

pub put_new-requires : goal.put_new-requires
put_new-requires g c = polite-as (PutNew c.args.key.now c.args.bytes.now c.args.why) c.args.client (g.S.Viewed.view c.self.inside.store) _ c.set_client.ensures (rw c.self.view_is c.requires.polite)

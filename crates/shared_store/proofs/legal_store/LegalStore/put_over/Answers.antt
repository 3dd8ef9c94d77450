use Rattle.shared_store.proofs.Calls.{stays-good}
use Rattle.shared_store.proofs.legal_store.LegalStore.put_over.Goals as goal

pub invariant_of-self : goal.invariant_of-self
invariant_of-self g c = stays-good _ _ _ g.S.WholeStore.tells c.args.client _ _ _ c.set_client.ensures (g.met.S.WholeStore.told c.self.inside.store) (g.met.S.WholeStore.alone c.self.inside.store) c.self.invariant (rw c.self.view_is c.requires.polite) c.put_over.ensures

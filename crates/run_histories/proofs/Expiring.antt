-- The operations that an expiry owes: gets and listings, tombstones, removals of branches, and cuts.
use Rattle.std.proofs.Common.{inl, inr, ℕ, List}
use Rattle.object_store.specs.declared.keys.Key.{Key}
use Rattle.object_store.specs.declared.keys.Key.TheVariants.{Snapshot, Manifest, Txn, Chunk, Branch, Tag, Tombstone, Lease}
use Rattle.object_store.specs.declared.events.Version.{Version}
use Rattle.object_store.specs.declared.events.Op.{Op}
use Rattle.object_store.specs.declared.events.Op.TheVariants.{Get, PutNew, PutOver, Remove, RemoveAt, List as ListPart}
use Rattle.object_store.specs.declared.events.Event.{Event}
use Rattle.commit_path.specs.Single.{IsOfSnapshot}
use Rattle.expiry.specs.declared.terms.Terms.{Terms}
use Rattle.expiry.specs.Owing.{IsOwed, OwesGone, OwesNew, OwesOver}
use Rattle.run_histories.proofs.Programs.{IsBranch, IsPlainNew, IsPlainOrCleanup}
use Rattle.run_histories.proofs.Removals.{IsRemoval, no-object}

module _ (terms : Terms) (client : ℕ) (start journal : List Event) where
  -- a new key is a tombstone
  new-plain : (bytes : List ℕ) (key : Key) → OwesNew terms client start journal bytes key → IsPlainNew bytes key
  new-plain bytes (Tombstone name) o = tt
  new-plain bytes (Snapshot id) o = absurd o
  new-plain bytes (Manifest id) o = absurd o
  new-plain bytes (Txn id) o = absurd o
  new-plain bytes (Chunk id) o = absurd o
  new-plain bytes (Branch name) o = absurd o
  new-plain bytes (Tag name) o = absurd o
  new-plain bytes (Lease id) o = absurd o

  -- what is put over is a snapshot
  over-snapshot : (bytes : List ℕ) (old : Version) (key : Key) → OwesOver terms client start journal bytes old key → IsOfSnapshot key
  over-snapshot bytes old (Snapshot id) o = tt
  over-snapshot bytes old (Manifest id) o = absurd o
  over-snapshot bytes old (Txn id) o = absurd o
  over-snapshot bytes old (Chunk id) o = absurd o
  over-snapshot bytes old (Branch name) o = absurd o
  over-snapshot bytes old (Tag name) o = absurd o
  over-snapshot bytes old (Tombstone name) o = absurd o
  over-snapshot bytes old (Lease id) o = absurd o

  -- what is removed is a branch
  gone-branch : (old : Version) (key : Key) → OwesGone terms client start journal old key → IsBranch key
  gone-branch old (Branch name) o = tt
  gone-branch old (Snapshot id) o = absurd o
  gone-branch old (Manifest id) o = absurd o
  gone-branch old (Txn id) o = absurd o
  gone-branch old (Chunk id) o = absurd o
  gone-branch old (Tag name) o = absurd o
  gone-branch old (Tombstone name) o = absurd o
  gone-branch old (Lease id) o = absurd o

  -- so it is plain, or a cut
  pub expiry-plain : (op : Op) → IsOwed terms start journal client op → IsPlainOrCleanup op
  expiry-plain (Get key) o = inl tt
  expiry-plain (ListPart part) o = inl tt
  expiry-plain (PutNew key bytes why) o = inl (new-plain bytes key o.1)
  expiry-plain (PutOver key bytes old why) o = inr (over-snapshot bytes old key o.1)
  expiry-plain (RemoveAt key old why) o = inl (gone-branch old key o.1)
  expiry-plain (Remove key why) o = absurd o

  -- and removes no object
  pub expiry-keeps : (op : Op) → IsOwed terms start journal client op → ¬ IsRemoval op
  expiry-keeps (Get key) o r = r
  expiry-keeps (ListPart part) o r = r
  expiry-keeps (PutNew key bytes why) o r = r
  expiry-keeps (PutOver key bytes old why) o r = r
  expiry-keeps (RemoveAt key old why) o r = no-object key (gone-branch old key o.1) r
  expiry-keeps (Remove key why) o r = o

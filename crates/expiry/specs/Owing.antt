-- What an expiry owes of each of its operations. (Own.)
use Rattle.std.specs.Prelude.{◌≡◌, ℕ, List, []}
use Rattle.object_store.specs.declared.keys.Key.{Key}
use Rattle.object_store.specs.declared.keys.Key.TheVariants.{Snapshot, Manifest, Txn, Chunk}
use Rattle.object_store.specs.declared.keys.Key.TheVariants.{Branch, Tag, Tombstone, Lease}
use Rattle.object_store.specs.declared.keys.Why.TheVariants.{Expire}
use Rattle.object_store.specs.declared.events.Version.{Version}
use Rattle.object_store.specs.declared.events.Op.{Op}
use Rattle.object_store.specs.declared.events.Op.TheVariants.{Get, PutNew, PutOver, Remove}
use Rattle.object_store.specs.declared.events.Op.TheVariants.{RemoveAt, List as ListPart}
use Rattle.object_store.specs.declared.events.Event.{Event}
use Rattle.expiry.specs.declared.terms.Terms.{Terms}
use Rattle.expiry.specs.Verdicts.{ToDrop}
use Rattle.expiry.specs.Telling.{WasJudged, IsCutOf}

-- the ref was to be dropped, by what was read of it at this version
abbrev pub IsToDrop : Terms → (client : ℕ) → (ref : Key) → Version
    → (start journal : List Event) → Type 0
IsToDrop t client ref version start journal = WasJudged t client ref version ToDrop start journal

-- a new key is the tombstone of a tag that is to be dropped
abbrev pub OwesNew : Terms → (client : ℕ) → (start journal : List Event)
    → (bytes : List ℕ) → Key → Type 0
OwesNew t client start journal bytes (Tombstone name) =
    (bytes ≡ []) × ((version : Version) × IsToDrop t client (Tag name) version start journal)
OwesNew t client start journal bytes (Snapshot id) = ⊥
OwesNew t client start journal bytes (Manifest id) = ⊥
OwesNew t client start journal bytes (Txn id) = ⊥
OwesNew t client start journal bytes (Chunk id) = ⊥
OwesNew t client start journal bytes (Branch name) = ⊥
OwesNew t client start journal bytes (Tag name) = ⊥
OwesNew t client start journal bytes (Lease id) = ⊥

-- what is put over is a snapshot at which the history of a ref is to end, with its
-- parent changed and nothing else
abbrev pub OwesOver : Terms → (client : ℕ) → (start journal : List Event) → (bytes : List ℕ)
    → Version → Key → Type 0
OwesOver t client start journal bytes old (Snapshot id) =
    (ref : Key) × IsCutOf t client ref id bytes old start journal
OwesOver t client start journal bytes old (Manifest id) = ⊥
OwesOver t client start journal bytes old (Txn id) = ⊥
OwesOver t client start journal bytes old (Chunk id) = ⊥
OwesOver t client start journal bytes old (Branch name) = ⊥
OwesOver t client start journal bytes old (Tag name) = ⊥
OwesOver t client start journal bytes old (Tombstone name) = ⊥
OwesOver t client start journal bytes old (Lease id) = ⊥

-- what is removed is a branch that is to be dropped, at the version at which it was read
abbrev pub OwesGone : Terms → (client : ℕ) → (start journal : List Event) → Version → Key → Type 0
OwesGone t client start journal old (Branch name) =
    IsToDrop t client (Branch name) old start journal
OwesGone t client start journal old (Snapshot id) = ⊥
OwesGone t client start journal old (Manifest id) = ⊥
OwesGone t client start journal old (Txn id) = ⊥
OwesGone t client start journal old (Chunk id) = ⊥
OwesGone t client start journal old (Tag name) = ⊥
OwesGone t client start journal old (Tombstone name) = ⊥
OwesGone t client start journal old (Lease id) = ⊥

-- An operation of an expiry: a get, a listing, or one that changes what is to be changed,
-- by what the client's own gets read since `start`. So it is whatever its end, and
-- whether or not its answer is heard.
abbrev pub IsOwed : Terms → (start journal : List Event) → (client : ℕ) → Op → Type 0
IsOwed t start journal client (Get key) = Unit {0}
IsOwed t start journal client (ListPart part) = Unit {0}
IsOwed t start journal client (PutNew key bytes why) =
    (why ≡ Expire) × OwesNew t client start journal bytes key
IsOwed t start journal client (PutOver key bytes old why) =
    (why ≡ Expire) × OwesOver t client start journal bytes old key
IsOwed t start journal client (RemoveAt key old why) =
    (why ≡ Expire) × OwesGone t client start journal old key
IsOwed t start journal client (Remove key why) = ⊥

-- What a look at a ref has still to do.
use Rattle.std.specs.Prelude.{◌≡◌, ℕ, ◌+◌, Bool, true, false, Some, Result, Ok, Err}
use Rattle.object_store.specs.declared.keys.Key.{Key}
use Rattle.object_store.specs.declared.keys.Key.TheVariants.{Snapshot, Manifest, Txn, Chunk}
use Rattle.object_store.specs.declared.keys.Key.TheVariants.{Branch, Tag, Tombstone, Lease}
use Rattle.object_store.specs.declared.events.Version.{Version}
use Rattle.object_store.specs.declared.events.Op.TheVariants.{Get}
use Rattle.object_store.specs.declared.events.Got.TheVariants.{Found}
use Rattle.object_store.specs.declared.events.Reply.{Reply}
use Rattle.object_store.specs.declared.events.Reply.TheVariants.{Got}
use Rattle.store_api.specs.declared.machines.Next.{Next}
use Rattle.store_api.specs.declared.machines.Next.TheVariants.{Again, Ready}
use Rattle.store_api.specs.declared.machines.Refusal.{Refusal}
use Rattle.store_api.specs.declared.machines.Refusal.TheVariants.{NoMemory}
use Rattle.store_api.specs.Program.{Done}
use Rattle.store_api.specs.Running.{Program}
use Rattle.repo_read.specs.declared.answers.Resolved.{Resolved}
use Rattle.expiry.specs.declared.terms.Terms.{Terms}
use Rattle.expiry.specs.declared.look.Decision.{Decision}
use Rattle.expiry.specs.declared.look.Decision.TheVariants.{Gone, Keeps, Drops, Cuts}
use Rattle.expiry.specs.declared.look.Walk.{Walk}
use Rattle.expiry.specs.declared.look.Looking.{Looking}
use Rattle.expiry.specs.declared.look.Looking.TheVariants as state
use Rattle.expiry.specs.declared.look.Look.{Look}
use Rattle.expiry.specs.Looks.{asks, snapshot_seen, look_below, most_below, look_head, look_program}

-- the version of what was found
abbrev pub version_in : Reply → Version
version_in (Got (Found bytes version now)) = version
version_in _ = record { 0 = 0 }

-- ---- what is left to do
abbrev pub head_rest : Terms → Key → Resolved → Program Decision
head_rest t key named =
    asks (Get (Snapshot named.id)) (snapshot_seen named.id) (look_head t key named.version)

abbrev pub below_rest : Terms → Walk → Program Decision
below_rest t walk = look_below walk.left t.cutoff walk.last (Some walk.next)

abbrev pub looking_rest : Terms → Key → Looking → Program Decision
looking_rest t key state.Ref = look_program t key
looking_rest t key (state.Head named) = head_rest t key named
looking_rest t key (state.Below walk) = below_rest t walk
looking_rest t key state.Ended = Done (Err NoMemory)

abbrev pub look_rest : Look → Program Decision
look_rest l = looking_rest l.terms l.key l.state

-- how many steps are left at most
abbrev pub look_most : ℕ
look_most = most_below + 2

abbrev pub looking_left : Looking → ℕ
looking_left state.Ref = look_most
looking_left (state.Head named) = most_below + 1
looking_left (state.Below walk) = walk.left
looking_left state.Ended = 0

abbrev pub look_left : Look → ℕ
look_left l = looking_left l.state

-- ---- what a step keeps
-- a branch or a tag
abbrev pub is_ref : Key → Bool
is_ref (Branch name) = true
is_ref (Tag name) = true
is_ref (Snapshot id) = false
is_ref (Manifest id) = false
is_ref (Txn id) = false
is_ref (Chunk id) = false
is_ref (Tombstone name) = false
is_ref (Lease id) = false

-- nothing but a branch or a tag is dropped
abbrev pub may_decide : Key → Decision → Bool
may_decide key Gone = true
may_decide key Keeps = true
may_decide key (Drops version) = is_ref key
may_decide key (Cuts id version bytes) = true

abbrev pub DropsRef : Key → Result (Next Decision) Refusal → Type 0
DropsRef key (Ok Again) = Unit {0}
DropsRef key (Ok (Ready decision)) = may_decide key decision ≡ true
DropsRef key (Err why) = Unit {0}

abbrev pub LookKeeps : Result (Next Decision) Refusal → Look → Look → Type 0
LookKeeps result old new = (new.key ≡ old.key) × DropsRef old.key result

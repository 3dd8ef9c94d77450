-- Where a name is resolved, and what is still to be done.
use Rattle.std.specs.Prelude.{ℕ, Option, Some, None, Result, Ok, Err}
use Rattle.ice_ids.specs.declared.Id12.{Id12}
use Rattle.object_store.specs.declared.keys.Key.{Key}
use Rattle.object_store.specs.declared.keys.Key.TheVariants.{Branch, Tag, Tombstone}
use Rattle.object_store.specs.declared.events.Reply.{Reply}
use Rattle.store_api.specs.declared.machines.Refusal.{Refusal}
use Rattle.store_api.specs.declared.machines.Refusal.TheVariants.{NoMemory}
use Rattle.store_api.specs.Program.{Done, Ask}
use Rattle.store_api.specs.Running.{Program, ◌>>=◌}
use Rattle.repo_read.specs.declared.answers.Resolved.{Resolved}
use Rattle.repo_read.specs.Answers.{ref_told}
use Rattle.repo_read.specs.Programs.{resolve_program}
use Rattle.repo_read.specs.declared.resolving.At.{At}
use Rattle.repo_read.specs.declared.resolving.Named.{Named}
use Rattle.repo_read.specs.declared.resolving.Resolving.{Resolving}
use Rattle.repo_read.specs.declared.resolving.Resolving.TheVariants as Get_of
use Rattle.repo_read.specs.declared.resolving.Resolution.{Resolution}
use Rattle.repo_read.specs.declared.resolving.Resolution.TheVariants.{Known, Asks}
use Rattle.repo_read.specs.declared.resolving.Resolve.{Resolve}
use Rattle.repo_read.specs.Resolving.{alone, tag_told, tombstone_told}
use Rattle.repo_read.specs.Resolving.{tombstone_program, tag_program}

-- how the resolution begins
abbrev pub resolution_at : At → Resolution
resolution_at (At.Branch name) = Asks (Get_of.Branch name)
resolution_at (At.Tag name) = Asks (Get_of.Tag name)
resolution_at (At.Snapshot id) = Known (alone id)

-- the key that is got next
abbrev pub key_got : Resolving → Key
key_got (Get_of.Branch name) = Branch name
key_got (Get_of.Tag name) = Tag name
key_got (Get_of.Tombstone name id) = Tombstone name

-- with a value of this form
abbrev pub mapped : {A B : Type 0} → (A → B) → Result A Refusal → Result B Refusal
mapped f (Ok x) = Ok (f x)
mapped f (Err why) = Err why

-- what the reply to it tells
abbrev pub told_next : Resolving → Reply → Result Resolution Refusal
told_next (Get_of.Branch name) reply =
    mapped (λ (read : Resolved). Known (record { id = read.id; version = Some read.version }))
    (ref_told name reply)
told_next (Get_of.Tag name) reply =
    mapped (λ id. Asks (Get_of.Tombstone name id)) (tag_told name reply)
told_next (Get_of.Tombstone name id) reply =
    mapped (λ found. Known (alone found)) (tombstone_told id reply)

-- what is still to be done from a get on
abbrev pub resolving_rest : Resolving → Program Named
resolving_rest (Get_of.Branch name) =
    resolve_program name
    >>= λ read. Done (Ok (record { id = read.id; version = Some read.version }))
resolving_rest (Get_of.Tag name) =
    tag_program name >>= λ tagged. tombstone_program name tagged >>= λ id. Done (Ok (alone id))
resolving_rest (Get_of.Tombstone name id) =
    tombstone_program name id >>= λ found. Done (Ok (alone found))

abbrev pub resolving_left : Resolving → ℕ
resolving_left (Get_of.Branch name) = 1
resolving_left (Get_of.Tag name) = 2
resolving_left (Get_of.Tombstone name id) = 1

abbrev pub resolution_rest : Resolution → Program Named
resolution_rest (Known named) = Done (Ok named)
resolution_rest (Asks resolving) = resolving_rest resolving

abbrev pub resolution_left : Resolution → ℕ
resolution_left (Known named) = 0
resolution_left (Asks resolving) = resolving_left resolving

-- ---- the machine
abbrev pub state_rest : Option Resolution → Program Named
state_rest None = Done (Err NoMemory)
state_rest (Some resolution) = resolution_rest resolution

abbrev pub resolve_rest : Resolve → Program Named
resolve_rest m = state_rest m.state

abbrev pub state_left : Option Resolution → ℕ
state_left None = 0
state_left (Some resolution) = resolution_left resolution

abbrev pub resolve_left : Resolve → ℕ
resolve_left m = state_left m.state

-- the snapshot, where the program has come to its end with it
abbrev pub known_in : Program Named → Option Id12
known_in (Done (Ok named)) = Some named.id
known_in (Done (Err why)) = None
known_in (Ask op next) = None

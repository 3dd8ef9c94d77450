-- The machine that reads a box of numbers.
use Rattle.std.specs.Prelude.{◌≡◌, ℕ, ◌+◌, ◌-◌, ◌*◌, ◌≤◌, ◌^◌, false, ℤ, List, [], length}
use Rattle.std.specs.Prelude.{drop, replicate, Option, Some, None, Result, Ok, Err}
use Rattle.store_api.specs.declared.machines.Refusal.{Refusal}
use Rattle.store_api.specs.declared.machines.Refusal.TheVariants.{NoMemory}
use Rattle.store_api.specs.Program.{Done, IsAsk, is_no_memory, is_fault}
use Rattle.store_api.specs.Running.{Program, ◌>>=◌}
use Rattle.repo_read.specs.Programs.{MayRefuseObject}
use Rattle.session.specs.Sessions.{SessionState}
use Rattle.zarr_tree.specs.Nodes.{chunk_length}
use Rattle.region_cells.specs.Walks.{chunks_met}
use Rattle.array_region.specs.declared.getting.Getting.{Getting}
use Rattle.array_region.specs.declared.getting.Getting.TheVariants.{Ready, Again}
use Rattle.array_region.specs.declared.getting.RegionGet.{RegionGet}
use Rattle.array_region.specs.declared.kept_manifest.KeptManifest.{KeptManifest}
use Rattle.array_region.specs.declared.plans.Plan.{Plan}
use Rattle.array_region.specs.declared.plans.Region.{Region}
use Rattle.array_region.specs.declared.stages.Stage.{Stage}
use Rattle.array_region.specs.declared.stages.Stage.TheVariants.{Manifest, Object, Ended}
use Rattle.array_region.specs.declared.stages.Found.{Found}
use Rattle.array_region.specs.declared.stages.Found.TheVariants.{Told, Gets}
use Rattle.array_region.specs.Reading.{Kept, Chunk, Reads, keeping, object_kept, got_kept}
use Rattle.array_region.specs.Reading.{listed_kept, read_chunks, with_value, region_program}

-- what is read
abbrev pub reads_of : Plan → Reads
reads_of p = record {
  node = p.node;
  array = p.array;
  path = p.region.path;
  from = p.region.from.items;
  to = p.region.to.items;
}

-- the chunks that the box meets
abbrev pub chunks_of : Reads → List (List ℕ)
chunks_of r = chunks_met r.array.chunks r.from r.to

-- the manifest that is kept
abbrev pub kept_of : Option KeptManifest → Kept
kept_of None = None
kept_of (Some kept) = Some (kept.id, kept.held)

-- ---- what is still to be done
-- for the chunk that comes next, and its index
abbrev pub stage_chunk : Reads → Kept → Stage → Program Chunk
stage_chunk r kept (Manifest index id ids next) =
    got_kept (chunk_length r.array) r.node index id
    (listed_kept (chunk_length r.array) r.node index (drop next ids))
stage_chunk r kept (Object index id offset size) =
    object_kept (chunk_length r.array) kept id offset size
stage_chunk r kept Ended = Done (Err NoMemory)

abbrev pub stage_index : Stage → List ℕ
stage_index (Manifest index id ids next) = index
stage_index (Object index id offset size) = index
stage_index Ended = []

-- and then for those behind it
abbrev pub behind : SessionState → Reads → List ℤ → (index : List ℕ) → (met : List (List ℕ)) → Chunk
    → Program (List ℤ)
behind s r numbers index met chunk =
    read_chunks s r chunk.1 (with_value r index chunk.0 numbers) met

abbrev pub box_after : Program Chunk → SessionState → Reads → List ℤ → (index : List ℕ)
    → (met : List (List ℕ)) → Program (List ℤ)
box_after p s r numbers index met = p >>= behind s r numbers index met

abbrev pub region_rest : RegionGet → Program (List ℤ)
region_rest m =
    box_after (stage_chunk (reads_of m.plan) (kept_of m.kept) m.stage) m.session (reads_of m.plan)
    m.numbers.items (stage_index m.stage) (drop m.at (chunks_of (reads_of m.plan)))

-- the session in the machine
abbrev pub region_session : RegionGet → SessionState
region_session m = m.session

-- how many steps are left at most: those for a chunk, and fewer than 2^64 for each behind it
abbrev pub stage_left : Stage → ℕ
stage_left (Manifest index id ids next) = length ids - next + 2
stage_left (Object index id offset size) = 1
stage_left Ended = 0

abbrev pub left_behind : Reads → (at : ℕ) → ℕ
left_behind r at = (length (chunks_of r) - at) * 2 ^ 64

abbrev pub region_left : RegionGet → ℕ
region_left m = left_behind (reads_of m.plan) m.at + stage_left m.stage

-- ---- what is read, if it isn't refused
-- a refusal is the program's, memory apart, and tells no fault of the store
pub record Refuses {A : Type 0} (p : Program A) (why : Refusal) : Type 0 where
  pub is : is_no_memory why ≡ false → p ≡ Done (Err why)
  pub calm : is_fault why ≡ false

abbrev pub Plans : SessionState → Region → Result Plan Refusal → Type 0
Plans s region (Ok plan) =
    region_program s region.path region.from.items region.to.items
    ≡ read_chunks s (reads_of plan) None (replicate plan.count plan.array.fill)
    (chunks_of (reads_of plan))
Plans s region (Err why) =
    Refuses (region_program s region.path region.from.items region.to.items) why

-- ---- looks for a chunk
-- The program of the chunk of this index came to what was found: the chunk is told, or a
-- stage has the rest and few steps.
abbrev pub Finds : Reads → Kept → (index : List ℕ) → (most : ℕ) → Program Chunk → Found → Type 0
Finds r kept index most p (Told found value) = (found ≡ index) × (p ≡ keeping kept value)
Finds r kept index most p (Gets stage) =
    (stage_index stage ≡ index) × (stage_chunk r kept stage ≡ p) × IsAsk p
    × (stage_left stage ≤ most)

abbrev pub Looks : Reads → Kept → (index : List ℕ) → (most : ℕ) → Program Chunk
    → Result Found Refusal → Type 0
Looks r kept index most p (Ok found) = Finds r kept index most p found
Looks r kept index most p (Err why) = Refuses p why × MayRefuseObject why

-- ---- calls
-- The box was read without any operation; or a machine has the program to run, and the session; or
-- this was refused, memory apart.
abbrev pub Begins : Program (List ℤ) → SessionState
    → Result Getting (SessionState × Refusal) → Type 0
Begins p s (Ok (Ready t numbers)) = (p ≡ Done (Ok numbers)) × (t ≡ s)
Begins p s (Ok (Again m)) = (region_rest m ≡ p) × IsAsk p × (region_session m ≡ s)
Begins p s (Err refused) =
    (is_no_memory refused.1 ≡ false → p ≡ Done (Err refused.1)) × (refused.0 ≡ s)

-- a machine has so few steps left
abbrev pub IsFew : Getting → Type 0
IsFew (Ready t numbers) = Unit {0}
IsFew (Again m) = region_left m ≤ 2 ^ 128

-- The machine that writes a box of numbers.
use Rattle.std.specs.Prelude.{◌≡◌, ℕ, ◌+◌, ◌-◌, ◌*◌, ◌^◌, ◌≤◌, Bool, true, false}
use Rattle.std.specs.Prelude.{ℤ, List, length, drop, Some, None, Result, Ok, Err}
use Rattle.ice_ids.specs.declared.Id12.{Id12}
use Rattle.object_store.specs.declared.keys.Key.TheVariants.{Chunk as Chunk_key}
use Rattle.object_store.specs.declared.keys.Why.TheVariants.{Set}
use Rattle.object_store.specs.declared.events.Op.TheVariants.{PutNew}
use Rattle.object_store.specs.declared.events.Reply.{Reply}
use Rattle.store_api.specs.declared.machines.Next.{Next}
use Rattle.store_api.specs.declared.machines.Next.TheVariants as next
use Rattle.store_api.specs.declared.machines.Refusal.{Refusal}
use Rattle.store_api.specs.declared.machines.Refusal.TheVariants.{Missing, BadFile, IdTaken}
use Rattle.store_api.specs.declared.machines.Refusal.TheVariants.{IdsSpent, StoreFault, NoMemory}
use Rattle.store_api.specs.Program.{Done, Ask, IsAsk, is_no_memory, moves_branch}
use Rattle.store_api.specs.Running.{Program, ◌>>=◌}
use Rattle.store_api.specs.Driving.{Heard, Excuses, has_failed}
use Rattle.manifest_file.specs.declared.manifest.Place.TheVariants.{Object}
use Rattle.session.specs.Sessions.{SessionState, writes}
use Rattle.session.specs.Chunks.{set_program, with_chunk, after_object}
use Rattle.session.specs.Placing.{with_places}
use Rattle.array_region.specs.declared.given.Given.{Given}
use Rattle.array_region.specs.declared.plans.Plan.{Plan}
use Rattle.array_region.specs.declared.plans.Region.{Region}
use Rattle.array_region.specs.declared.runs.Run.{Run}
use Rattle.array_region.specs.declared.runs.WriteStage.{WriteStage}
use Rattle.array_region.specs.declared.runs.WriteStage.TheVariants.{Reads as Is_reads, Puts, Ended}
use Rattle.array_region.specs.Reading.{Kept, Chunk, Reads}
use Rattle.array_region.specs.Getting.{reads_of, chunks_of, kept_of, stage_chunk}
use Rattle.array_region.specs.Getting.{stage_index, stage_left, Refuses}
use Rattle.array_region.specs.Writing.{old_chunk, bytes_put, cells_refused}
use Rattle.array_region.specs.Writing.{write_chunks, unless_why, region_set_program}

-- ---- the numbers
-- so a box is written, in a session that writes
abbrev pub PlansWrite : SessionState → Region → Result Plan Refusal → Type 0
PlansWrite s region (Ok plan) =
    (numbers : List ℤ) → writes s ≡ true
    → region_set_program s region.path region.from.items region.to.items numbers
    ≡ unless_why (cells_refused plan.array.kind plan.count numbers)
    (write_chunks (old_chunk s (reads_of plan)) s (reads_of plan)
    numbers None (chunks_of (reads_of plan)))
PlansWrite s region (Err why) =
    (numbers : List ℤ) → writes s ≡ true
    → Refuses (region_set_program s region.path region.from.items region.to.items numbers) why

-- the box has these numbers, or they can't be its
abbrev pub Gives : Plan → List ℤ → Result Given Refusal → Type 0
Gives plan numbers (Ok given) =
    (given.plan ≡ plan) × (given.numbers.items ≡ numbers)
    × (cells_refused plan.array.kind plan.count numbers ≡ None)
Gives plan numbers (Err why) = cells_refused plan.array.kind plan.count numbers ≡ Some why

-- ---- what is still to be done
-- behind a chunk that was set
abbrev pub set_after : Program SessionState → (old : List ℕ → Kept → Program Chunk) → Reads → List ℤ
    → Kept → (met : List (List ℕ)) → Program SessionState
set_after p old r numbers kept met = p >>= λ t. write_chunks old t r numbers kept met

-- one was read: it is set
abbrev pub after_chunk : (old : List ℕ → Kept → Program Chunk) → SessionState → Reads → List ℤ
    → (index : List ℕ) → (met : List (List ℕ)) → Chunk → Program SessionState
after_chunk old s r numbers index met chunk =
    set_after (set_program s r.path index (bytes_put r index numbers chunk.0))
    old r numbers chunk.1 met

abbrev pub box_written : Program Chunk → (old : List ℕ → Kept → Program Chunk) → SessionState
    → Reads → List ℤ → (index : List ℕ) → (met : List (List ℕ)) → Program SessionState
box_written p old s r numbers index met = p >>= after_chunk old s r numbers index met

-- the object of a chunk is put
abbrev pub object_put : SessionState → (path index bytes : List ℕ) → Id12 → Program SessionState
object_put s path index bytes id =
    Ask (PutNew (Chunk_key id) bytes Set)
    (after_object (with_chunk s path index (Object id 0 (length bytes))) id)

abbrev pub write_rest : (old : List ℕ → Kept → Program Chunk) → SessionState → Reads → List ℤ → Kept
    → (met : List (List ℕ)) → WriteStage → Program SessionState
write_rest old s r numbers kept met (Is_reads stage) =
    box_written (stage_chunk r kept stage) old s r numbers (stage_index stage) met
write_rest old s r numbers kept met (Puts index id bytes) =
    set_after (object_put s r.path index bytes id) old r numbers kept met
write_rest old s r numbers kept met Ended = Done (Err NoMemory)

-- what a run writes; the chunks as they were; the session in which those so far are
-- entered; and those that are left
abbrev pub run_reads : Run → Reads
run_reads m = reads_of m.given.plan

abbrev pub run_old : Run → List ℕ → Kept → Program Chunk
run_old m = old_chunk m.session (run_reads m)

abbrev pub run_entered : Run → SessionState
run_entered m = with_places m.session (run_reads m).path m.placed.items

abbrev pub run_met : Run → List (List ℕ)
run_met m = drop m.at (chunks_of (run_reads m))

abbrev pub run_rest : Run → Program SessionState
run_rest m =
    write_rest (run_old m) (run_entered m) (run_reads m)
    m.given.numbers.items (kept_of m.kept) (run_met m) m.stage

-- what is still to be done from the next chunk on
abbrev pub run_going : Run → Program SessionState
run_going m =
    write_chunks (run_old m) (run_entered m) (run_reads m)
    m.given.numbers.items (kept_of m.kept) (run_met m)

-- how many steps are left at most
abbrev pub write_stage_left : WriteStage → ℕ
write_stage_left (Is_reads stage) = stage_left stage + 1
write_stage_left (Puts index id bytes) = 1
write_stage_left Ended = 0

abbrev pub chunks_left : Reads → (at : ℕ) → ℕ
chunks_left r at = (length (chunks_of r) - at) * (2 ^ 64 + 1)

abbrev pub run_left : Run → ℕ
run_left m = chunks_left (run_reads m) m.at + write_stage_left m.stage

-- ---- what a call leaves
-- the box and its numbers, and how far it came
pub record KeepsBox (old new : Run) : Type 0 where
  pub given : new.given ≡ old.given
  pub at : new.at ≡ old.at
  pub kept : new.kept ≡ old.kept

-- the same session, but for the ids that it draws next
abbrev pub SameTree : (old new : SessionState) → Type 0
SameTree old new = new ≡ record old { ids = new.ids }

-- this, unless the answer was given
abbrev pub UnlessReady : {A : Type 0} → Result (Next A) Refusal → Type 0 → Type 0
UnlessReady (Ok next.Again) P = P
UnlessReady (Ok (next.Ready a)) P = Unit {0}
UnlessReady (Err why) P = P

-- an object is to be put, and this is the program
pub record PutsNext (p : Program SessionState) (new : Run) : Type 0 where
  pub index : List ℕ
  pub id : Id12
  pub bytes : List ℕ
  pub stage : new.stage ≡ Puts index id bytes
  pub program : object_put (run_entered new) (run_reads new).path index bytes id ≡ p

-- A chunk is set by this program: it is one of those so far, or its object is to be put; or
-- this was refused, memory apart.
abbrev pub PlacesOk : Program SessionState → (old new : Run) → (puts : Bool) → Type 0
PlacesOk p old new false =
    (p ≡ Done (Ok (run_entered new))) × (new.session ≡ old.session) × (new.stage ≡ Ended)
PlacesOk p old new true = PutsNext p new

abbrev pub Places : Program SessionState → (old new : Run) → Result Bool Refusal → Type 0
Places p old new (Ok puts) = PlacesOk p old new puts
Places p old new (Err why) = Refuses p why × (new.stage ≡ Ended)

-- no operation comes next, unless one was found
abbrev pub Rests : Result Bool Refusal → WriteStage → Type 0
Rests (Ok true) stage = Unit {0}
Rests (Ok false) stage = stage ≡ Ended
Rests (Err why) stage = stage ≡ Ended

-- The program came to an operation, and few steps are left for the chunk; or to the next chunk; or
-- this was refused, memory apart.
abbrev pub Takes : Program SessionState → (most : ℕ) → Run → Result Bool Refusal → Type 0
Takes p most run (Ok true) =
    (p ≡ run_rest run) × IsAsk (run_rest run) × (write_stage_left run.stage ≤ most)
Takes p most run (Ok false) = p ≡ run_going run
Takes p most run (Err why) = Refuses p why

-- The program came to where the run stands, or to its end; or this was refused, memory apart,
-- and tells no fault of the store.
abbrev pub RunLands : Program SessionState → Run → Result (Next (Unit {0})) Refusal → Type 0
RunLands p run (Ok next.Again) = (p ≡ run_rest run) × IsAsk (run_rest run)
RunLands p run (Ok (next.Ready done)) = p ≡ Done (Ok run.session)
RunLands p run (Err why) = Refuses p why

-- the same, where the store may have failed
abbrev pub RunLandsBy : Program SessionState → Run → Result (Next (Unit {0})) Refusal → Type 0
RunLandsBy p run (Ok next.Again) = (p ≡ run_rest run) × IsAsk (run_rest run)
RunLandsBy p run (Ok (next.Ready done)) = p ≡ Done (Ok run.session)
RunLandsBy p run (Err why) = is_no_memory why ≡ false → p ≡ Done (Err why)

abbrev pub MayRefuseWrite : Refusal → Type 0
MayRefuseWrite (Missing key) = Unit {0}
MayRefuseWrite (BadFile key bad) = Unit {0}
MayRefuseWrite (IdTaken key) = Unit {0}
MayRefuseWrite IdsSpent = Unit {0}
MayRefuseWrite StoreFault = Unit {0}
MayRefuseWrite NoMemory = Unit {0}
MayRefuseWrite _ = ⊥

-- a refusal that isn't free, also where it tells a want of memory
abbrev pub IsRunSure : Program SessionState → Result (Next (Unit {0})) Refusal → Type 0
IsRunSure p (Ok answer) = Unit {0}
IsRunSure p (Err why) = p ≡ Done (Err why)

-- What a run that had p to do came to by a reply. No operation of it moves a branch.
abbrev pub RunTook : Program SessionState → Reply → Run → Result (Next (Unit {0})) Refusal → Type 0
RunTook (Done a) reply run result = ⊥
RunTook (Ask op k) reply run result =
    Heard (λ r. RunLandsBy (k r) run result × (has_failed r ≡ true → IsRunSure (k r) result)) reply
    × Excuses reply result × (moves_branch op ≡ false)

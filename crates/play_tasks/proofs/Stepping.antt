-- Machines that only read, and tell where the store failed.
use Rattle.std.proofs.Common.{ℕ, ℤ, List, drop, refl}
use Rattle.ice_ids.specs.declared.Id8.{Id8}
use Rattle.session.specs.declared.getting.GetChunk.{GetChunk}
use Rattle.session.specs.declared.reading.Reading.{Reading}
use Rattle.session.specs.declared.reading.Reading.TheVariants.{Manifest, Object, Ended as Ended_reading}
use Rattle.session.specs.Chunks.{read_listed}
use Rattle.session.specs.Getting.{reading_rest, get_rest}
use Rattle.session.specs.Sessions.{SessionState}
use Rattle.array_region.specs.declared.getting.RegionGet.{RegionGet}
use Rattle.array_region.specs.declared.stages.Stage.{Stage}
use Rattle.array_region.specs.declared.stages.Stage.TheVariants as stage
use Rattle.array_region.specs.Reading.{Kept, Reads}
use Rattle.array_region.specs.Getting.{reads_of, kept_of, chunks_of, stage_chunk, stage_index, box_after, region_rest}
use Rattle.play_outcome.proofs.Stepping.{IsReading}

-- the reading of a chunk
reading-reads : (want : ℕ) (node : Id8) (index : List ℕ) (state : Reading) → IsReading (reading_rest want node index state)
unfolding read_listed
reading-reads want node index (Manifest id ids at) = (refl, λ done. refl)
reading-reads want node index (Object id offset size) = (refl, λ done. refl)
reading-reads want node index Ended_reading = tt

pub get-reads : (m : GetChunk) → IsReading (get_rest m)
get-reads m = reading-reads m.want m.node m.index m.state

-- ... and of a box
stage-reads : (s : SessionState) (r : Reads) (kept : Kept) (numbers : List ℤ) (met : List (List ℕ)) (state : Stage) → IsReading (box_after (stage_chunk r kept state) s r numbers (stage_index state) met)
stage-reads s r kept numbers met (stage.Manifest index id ids at) = (refl, λ done. refl)
stage-reads s r kept numbers met (stage.Object index id offset size) = (refl, λ done. refl)
stage-reads s r kept numbers met stage.Ended = tt

pub gather-reads : (m : RegionGet) → IsReading (region_rest m)
gather-reads m = stage-reads m.session (reads_of m.plan) (kept_of m.kept) m.numbers.items (drop m.at (chunks_of (reads_of m.plan))) m.stage

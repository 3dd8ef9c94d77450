-- Reading one chunk after another.
use Rattle.std.proofs.Common.{◌≡◌, ◌≤◌, ◌<◌, ◌+◌, ◌-◌, ◌^◌, ℕ, ℤ, List, [], ◌∷◌, ◌++◌, length, take, drop, get_or, append-nil, take_all, refl, sym, ◌∙◌, ap, subst, arith}
use Rattle.std.specs.Prelude.{Ok, Err}
use Rattle.zarr_tree.specs.Nodes.{chunk_length}
use Rattle.store_api.specs.declared.machines.Refusal.{Refusal}
use Rattle.store_api.specs.Program.{Done, Ask, IsAsk, IsDone}
use Rattle.store_api.specs.Running.{Program}
use Rattle.session.specs.declared.chunks.Value.{Value}
use Rattle.session.specs.Sessions.{SessionState}
use Rattle.session.specs.inside.Working.{LandsCalmly}
use Rattle.array_region.specs.declared.getting.RegionGet.{RegionGet}
use Rattle.array_region.specs.declared.stages.Stage.{Stage}
use Rattle.array_region.specs.declared.stages.Stage.TheVariants.{Ended}
use Rattle.array_region.specs.declared.stages.Found.{Found}
use Rattle.array_region.specs.declared.stages.Found.TheVariants.{Told, Gets}
use Rattle.array_region.specs.Reading.{Kept, Chunk, Reads, keeping, chunk_kept, with_value, read_chunks}
use Rattle.array_region.specs.Getting.{reads_of, kept_of, chunks_of, stage_chunk, stage_index, box_after, region_rest, stage_left, left_behind, region_left, Refuses, Finds}
use Rattle.array_region.proofs.Looking.{first_left, none_left}

-- what is still to be done from the next chunk on
abbrev pub going : RegionGet → (at : ℕ) → Program (List ℤ)
going m at = read_chunks m.session (reads_of m.plan) (kept_of m.kept) m.numbers.items (drop at (chunks_of (reads_of m.plan)))

-- the machine read some chunks more, and nothing else is otherwise
pub record IsGoing (before now : RegionGet) (at : ℕ) : Type 0 where
  pub session : now.session ≡ before.session
  pub plan : now.plan ≡ before.plan
  pub kept : now.kept ≡ before.kept
  pub stage : now.stage ≡ Ended
  pub at_is : now.at ≡ at
  pub later : before.at ≤ at
  pub program : going now at ≡ going before before.at

module _ (s : SessionState) (r : Reads) (kept : Kept) (numbers : List ℤ) where
  abbrev index_at : ℕ → List ℕ
  index_at at = get_or (chunks_of r) at []

  abbrev chunk_at : ℕ → Program Chunk
  chunk_at at = chunk_kept s r.path (chunk_length r.array) r.node (index_at at) kept

  pub next_chunk : (at : ℕ) → at < length (chunks_of r) → read_chunks s r kept numbers (drop at (chunks_of r)) ≡ box_after (chunk_at at) s r numbers (index_at at) (drop (at + 1) (chunks_of r))
  unfolding read_chunks
  next_chunk at h = ap (read_chunks s r kept numbers) (first_left (chunks_of r) at (at + 1) (index_at at) [] (omega arith) h refl) ∙ begins (index_at at) (drop (at + 1) (chunks_of r))
    where
      begins : (index : List ℕ) (met : List (List ℕ)) → read_chunks s r kept numbers (index ∷ met) ≡ box_after (chunk_kept s r.path (chunk_length r.array) r.node index kept) s r numbers index met
      begins index met = refl

  -- a chunk that is told at once
  pub told_chunk : (at : ℕ) (index : List ℕ) (value : Value) → at < length (chunks_of r) → index ≡ index_at at → chunk_at at ≡ keeping kept value
      → read_chunks s r kept numbers (drop at (chunks_of r)) ≡ read_chunks s r kept (with_value r index value numbers) (drop (at + 1) (chunks_of r))
  told_chunk at index value h i e =
      next_chunk at h ∙ ap (λ p. box_after p s r numbers (index_at at) (drop (at + 1) (chunks_of r))) e ∙ sym (ap (λ x. read_chunks s r kept (with_value r x value numbers) (drop (at + 1) (chunks_of r))) i)

  -- one that is refused
  pub refused_chunk : (at : ℕ) (why : Refusal) → at < length (chunks_of r) → chunk_at at ≡ Done (Err why) → read_chunks s r kept numbers (drop at (chunks_of r)) ≡ Done (Err why)
  refused_chunk at why h e = next_chunk at h ∙ ap (λ p. box_after p s r numbers (index_at at) (drop (at + 1) (chunks_of r))) e

  -- none is left
  pub whole_box : (at : ℕ) → length (chunks_of r) ≤ at → read_chunks s r kept numbers (drop at (chunks_of r)) ≡ Done (Ok numbers)
  unfolding read_chunks
  whole_box at h = ap (read_chunks s r kept numbers) (none_left (chunks_of r) at h) ∙ ends
    where
      ends : read_chunks s r kept numbers [] ≡ Done (Ok numbers)
      ends = refl

  -- an operation is asked for first
  pub asks_first : (p : Program Chunk) (index : List ℕ) (met : List (List ℕ)) → IsAsk p → IsAsk (box_after p s r numbers index met)
  asks_first (Done answer) index met a = absurd a
  asks_first (Ask op next) index met a = tt

-- ---- the machine
pub begun : (m : RegionGet) → m.stage ≡ Ended → IsGoing m m m.at
begun m e = record { session = refl; plan = refl; kept = refl; stage = e; at_is = refl; later = omega arith; program = refl }

-- a machine that ended has nothing to do
pub over : (s : SessionState) (r : Reads) (kept : Kept) (numbers : List ℤ) (stage : Stage) (met : List (List ℕ)) → stage ≡ Ended → IsDone (box_after (stage_chunk r kept stage) s r numbers (stage_index stage) met)
over s r kept numbers stage met e = subst (λ x. IsDone (box_after (stage_chunk r kept x) s r numbers (stage_index x) met)) (sym e) tt

module _ (before now : RegionGet) (at : ℕ) (g : IsGoing before now at) where
  abbrev r : Reads
  r = reads_of now.plan

  abbrev next : Program Chunk
  next = chunk_at now.session r (kept_of now.kept) now.numbers.items at

  is_done : IsDone (region_rest now)
  is_done = over now.session r (kept_of now.kept) now.numbers.items now.stage (drop now.at (chunks_of r)) g.stage

  pub no_more_left : region_left now ≤ left_behind (reads_of before.plan) before.at
  no_more_left =
      let same : length (chunks_of r) ≡ length (chunks_of (reads_of before.plan)) = ap (λ p. length (chunks_of (reads_of p))) g.plan in
      let none = ap stage_left g.stage in
      omega (arith, same, none, g.at_is, g.later)

  module _ (within : at < length (chunks_of r)) where
    pub err_took : (why : Refusal) → Refuses next why → LandsCalmly (going before before.at) (region_rest now) (Err why)
    err_took why f = ((is_done, λ m. sym g.program ∙ refused_chunk now.session r (kept_of now.kept) now.numbers.items at why within (f.is m)), f.calm)

    module _ (found : Found) (looked : Finds r (kept_of now.kept) (index_at now.session r (kept_of now.kept) now.numbers.items at) (2 ^ 64 - 1) next found) (stage : Stage) (is : found ≡ Gets stage) where
      f : Finds r (kept_of now.kept) (index_at now.session r (kept_of now.kept) now.numbers.items at) (2 ^ 64 - 1) next (Gets stage)
      f = subst (λ x. Finds r (kept_of now.kept) (index_at now.session r (kept_of now.kept) now.numbers.items at) (2 ^ 64 - 1) next x) is looked

      abbrev then : Program (List ℤ)
      then = box_after (stage_chunk r (kept_of now.kept) stage) now.session r now.numbers.items (stage_index stage) (drop (at + 1) (chunks_of r))

      pub gets_program : going before before.at ≡ then
      gets_program =
          sym g.program ∙ next_chunk now.session r (kept_of now.kept) now.numbers.items at within
          ∙ sym (λ i. box_after (f.1 i) now.session r now.numbers.items (f.0 i) (drop (at + 1) (chunks_of r)))

      pub gets_asks : IsAsk then
      gets_asks =
          asks_first now.session r (kept_of now.kept) now.numbers.items (stage_chunk r (kept_of now.kept) stage) (stage_index stage) (drop (at + 1) (chunks_of r)) (subst (λ (p : Program Chunk). IsAsk p) (sym f.1) f.2)

      pub gets_left : left_behind r (at + 1) + stage_left stage ≤ left_behind (reads_of before.plan) before.at
      gets_left =
          let same : length (chunks_of r) ≡ length (chunks_of (reads_of before.plan)) = ap (λ p. length (chunks_of (reads_of p))) g.plan in
          omega (arith, same, g.later, within, f.3)

    pub told_program : (found : Found) → Finds r (kept_of now.kept) (index_at now.session r (kept_of now.kept) now.numbers.items at) (2 ^ 64 - 1) next found → (index : List ℕ) (value : Value) → found ≡ Told index value → (numbers : List ℤ) → numbers ≡ with_value r index value now.numbers.items
        → read_chunks now.session r (kept_of now.kept) numbers (drop (at + 1) (chunks_of r)) ≡ going before before.at
    told_program found looked index value is numbers e =
        let f = subst (λ x. Finds r (kept_of now.kept) (index_at now.session r (kept_of now.kept) now.numbers.items at) (2 ^ 64 - 1) next x) is looked in
        ap (λ n. read_chunks now.session r (kept_of now.kept) n (drop (at + 1) (chunks_of r))) e
        ∙ sym (told_chunk now.session r (kept_of now.kept) now.numbers.items at index value within f.0 f.1) ∙ g.program

  pub ready_program : length (chunks_of r) ≤ at → going before before.at ≡ Done (Ok now.numbers.items)
  ready_program h = sym g.program ∙ whole_box now.session r (kept_of now.kept) now.numbers.items at h

-- a vector whose elements were lent and came back as these
pub came_back : {A : Type 0} (n : ℕ) (old new : List A) → n ≡ length old → length new ≡ length old → take n (new ++ drop (length new) old) ≡ new
came_back n old new e f =
    ap (λ k. take n (new ++ k)) (none_left old (length new) (omega (arith, f))) ∙ ap (take n) (append-nil new) ∙ take_all n new (omega (arith, e, f))

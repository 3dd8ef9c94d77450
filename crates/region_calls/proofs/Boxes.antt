-- What the read of a box answers, whatever others do.
use Rattle.std.proofs.Common.{◌≡◌, ◌≤◌, ◌%◌, inl, inr, ℕ, ℤ, true, false, cond, List, [], ◌∷◌, length, map, replicate, All, refl, sym, ◌∙◌, ap, subst, arith, eq-eqb}
use Rattle.std.specs.Prelude.{◌==◌, ◌&&◌, zip, Option, Some, None, option_map, option_and_then, Result, Ok, Err}
use Rattle.std.specs.FinMap.{get}
use Rattle.std.proofs.lemmas.List.{length-map, length-replicate}
use Rattle.std.proofs.lemmas.List.Elements.{All-nil, All-head, All-tail, All-from_get_or}
use Rattle.std.proofs.lemmas.Slice.Zip.{length-zip}
use Rattle.std.proofs.lemmas.Bool.{cases_eq}
use Rattle.ice_ids.specs.declared.Id8.{Id8}
use Rattle.zarr_meta.specs.declared.views.ArrayView.{ArrayView}
use Rattle.zarr_meta.specs.Kinds.{size_of}
use Rattle.zarr_tree.specs.Nodes.{Node, array_in, chunk_length}
use Rattle.zarr_tree.specs.Trees.{Tree, node_at, IsWellFormed}
use Rattle.zarr_tree.proofs.ViewLaws.{array_has_grid}
use Rattle.zarr_tree.proofs.GridParts.{grid_parts}
use Rattle.repo_objects.specs.Trees.{Puts}
use Rattle.changed_snapshot.specs.Laws.{KeepsFrozen}
use Rattle.object_store.specs.declared.events.Event.{Event}
use Rattle.store_api.specs.declared.machines.Refusal.{Refusal}
use Rattle.store_api.specs.declared.machines.Refusal.TheVariants as R
use Rattle.store_api.specs.Callers.{Caller}
use Rattle.store_api.specs.Program.{Leads}
use Rattle.store_api.specs.Running.{on_answer}
use Rattle.store_api.proofs.Programs.{Leads-bind, Leads-weaker}
use Rattle.repo_read.specs.Programs.{MayRefuseObject}
use Rattle.session.specs.declared.chunks.Value.{Value}
use Rattle.session.specs.declared.chunks.Value.TheVariants.{Bytes, Fill}
use Rattle.session.specs.Sessions.{SessionState, nodes_seen, overlay}
use Rattle.session.specs.Arrays.{array_at}
use Rattle.commit_path.specs.Owed.{IsCareful}
use Rattle.commit_path.specs.Single.{PutsSnapshot}
use Rattle.region_calls.specs.ChunkTold.{value_of}
use Rattle.region_calls.proofs.Growing.{Surely}
use Rattle.region_calls.proofs.ChunkGets.{gets-keep, gets-stay}
use Rattle.region_calls.proofs.Seen.{IsThere}
use Rattle.region_cells.specs.Boxes.{box_cells, count_of}
use Rattle.region_cells.specs.Walks.{AreGridded, chunks_met, firsts_of, ends_of, cell_at, with_part, with_chunk, with_chunks}
use Rattle.region_cells.specs.Laws.{BoxLaw}
use Rattle.region_cells.proofs.BoxLaws.{length-box, box_at}
use Rattle.region_cells.proofs.WalkLaws.{met_is, met_none, same_length_met}
use Rattle.array_region.specs.Cells.{cell_number}
use Rattle.array_region.specs.Planning.{box_count, IsBoxOf}
use Rattle.array_region.specs.Reading.{Kept, Chunk, Reads, fits, with_value, chunk_kept, read_chunks, read_box, read_array, region_program}
use Rattle.array_region.proofs.Planned.{IsAt, at_array, IsEdit, no_array, IsRegion, refused_box, box_passes, box_of}
use Rattle.region_calls.specs.Told.{AreCells, RegionTells}
use Rattle.region_calls.specs.Laws.{RegionLaw}
use Rattle.region_calls.proofs.Gets.{region_gets}
use Rattle.region_calls.proofs.Chunks.{KeptIs, Told, chunk_told}

-- ---- the chunks that a box meets have a number for each dimension
record HasRanks (chunks from to : List ℕ) : Type 0 where
  from_rank : length from ≡ length chunks
  to_rank : length to ≡ length chunks

ranks : (chunks from to : List ℕ) → AreGridded chunks from to → HasRanks chunks from to
ranks [] [] [] g = record { from_rank = refl; to_rank = refl }
ranks [] [] (b ∷ to) g = absurd g
ranks [] (a ∷ from) to g = absurd g
ranks (n ∷ chunks) [] to g = absurd g
ranks (n ∷ chunks) (a ∷ from) [] g = absurd g
ranks (n ∷ chunks) (a ∷ from) (b ∷ to) g = let r = ranks chunks from to g.2 in record { from_rank = omega (arith, r.from_rank); to_rank = omega (arith, r.to_rank) }

pub same_ranks : (chunks from to : List ℕ) → AreGridded chunks from to → length from ≡ length to
same_ranks chunks from to g = let r = ranks chunks from to g in r.from_rank ∙ sym r.to_rank

length_cell : (from to : List ℕ) (k : ℕ) → length from ≡ length to → length (cell_at from to k) ≡ length from
length_cell [] to k e = refl
length_cell (a ∷ from) [] k e = absurd (omega (arith, e))
length_cell (a ∷ from) (b ∷ to) k e = let rest = length_cell from to (k % count_of from to) (omega (arith, e)) in omega (arith, rest)

pub met_ranked : (chunks from to : List ℕ) → AreGridded chunks from to → All (λ index. length index ≡ length chunks) (chunks_met chunks from to)
met_ranked chunks from to g =
    elim (cases_eq (count_of from to) 0) [
      | inl none ↦ subst (All (λ index. length index ≡ length chunks)) (sym (met_none chunks from to none)) (All-nil (λ index. length index ≡ length chunks))
      | inr ne ↦
          let some : 1 ≤ count_of from to = omega (arith, ne) in
          let r = ranks chunks from to g in
          let same = same_length_met chunks from to g in
          let long : length (firsts_of chunks from) ≡ length chunks = length-map (zip from chunks) _ ∙ length-zip from chunks ∙ omega (arith, r.from_rank) in
          subst (All (λ index. length index ≡ length chunks)) (sym (met_is chunks from to some))
          (All-from_get_or (λ index. length index ≡ length chunks) (box_cells (firsts_of chunks from) (ends_of chunks to)) []
          (λ k less. ap length (box_at (firsts_of chunks from) (ends_of chunks to) k same (omega (arith, less, length-box (firsts_of chunks from) (ends_of chunks to) same))) ∙ length_cell (firsts_of chunks from) (ends_of chunks to) k same ∙ long))
    ]

-- a chunk that is held is whole
pub whole_chunk : (t : Tree) (path index bytes : List ℕ) (n : Node) (array : ArrayView) → IsWellFormed t → node_at t path ≡ Some n → array_in n.text ≡ Some array → t.chunk path index ≡ Some bytes → length bytes ≡ chunk_length array
whole_chunk t path index bytes n array wf found is e =
    let has = wf.chunks path index bytes e in
    let nodes : n ≡ has.node = some_same (sym found ∙ has.found) in
    let arrays : array ≡ has.fits.array = some_same (sym is ∙ ap (λ (x : Node). array_in x.text) nodes ∙ has.fits.found) in
    has.fits.whole bytes refl ∙ ap chunk_length (sym arrays)
  where
    some_same : {A : Type 0} {x y : A} → Some x ≡ Some y → x ≡ y
    some_same e = cc

-- ---- a box of it
module _ (B : BoxLaw) (by : Caller) (s : SessionState) (r : Reads) (count : ℕ) (at : IsAt s r.path r.node r.array) (box : IsBoxOf r.array r.from r.to count) where
  -- the bytes of its chunks, and its numbers
  abbrev held : Puts → List ℕ → Option (List ℕ)
  held puts index = (overlay puts s).chunk r.path index

  abbrev whole : Puts → List ℤ
  whole puts = map (cell_number (overlay puts s) r.path r.array) (box_cells r.from r.to)

  -- where these chunks are still to be read, they lead to the numbers of the box
  abbrev LeadsOn : (met : List (List ℕ)) → List ℤ → Puts → Type 0
  LeadsOn met numbers puts =
      KeepsFrozen s.held s.rows → IsWellFormed (overlay puts s) → with_chunks r.array.kind r.array.big r.from r.to r.array.chunks (held puts) met numbers ≡ whole puts

  abbrev Tells : Result (List ℤ) Refusal → List Event → Type 0
  Tells (Ok numbers) h = AreCells s r.path r.from r.to numbers h
  Tells (Err why) h = MayRefuseObject why

  same_rank : length r.from ≡ length r.to
  same_rank = same_ranks r.array.chunks r.from r.to box.gridded

  there : (index : List ℕ) → length index ≡ length r.array.chunks → IsThere s r.path index (record { node = r.node; bytes = chunk_length r.array })
  there index rank = record {
    node = at.node;
    found = at.found;
    array = r.array;
    is = at.is;
    rank = rank ∙ sym (grid_parts (size_of r.array.kind) r.array.shape r.array.chunks (array_has_grid at.node.text r.array at.is)).ranks;
    id = sym at.id_is;
    bytes = refl;
  }

  -- so its numbers are entered
  entered : (puts : Puts) (index : List ℕ) (value : Value) (numbers : List ℤ) → IsWellFormed (overlay puts s) → held puts index ≡ value_of value → length index ≡ length r.array.chunks → length numbers ≡ count_of r.from r.to
      → with_value r index value numbers ≡ with_chunk r.array.kind r.array.big r.from r.to r.array.chunks index (held puts index) numbers
  entered puts index Fill numbers wf e rank long = sym (ap (λ o. with_chunk r.array.kind r.array.big r.from r.to r.array.chunks index o numbers) e)
  entered puts index (Bytes bytes) numbers wf e rank long =
      let fit : fits r index bytes numbers ≡ true = ap (λ b. b && length bytes == chunk_length r.array && length numbers == count_of r.from r.to) (eq-eqb _ _ rank)
      ∙ ap (λ b. b && length numbers == count_of r.from r.to) (eq-eqb _ _ (whole_chunk (overlay puts s) r.path index bytes at.node r.array wf at.found at.is e)) ∙ eq-eqb _ _ long in
      ap (λ b. cond b (with_part r.array.kind r.array.big r.from r.to r.array.chunks index bytes numbers) numbers) fit
      ∙ sym (ap (λ o. with_chunk r.array.kind r.array.big r.from r.to r.array.chunks index o numbers) e)

  length_value : (index : List ℕ) (value : Value) (numbers : List ℤ) → length numbers ≡ count_of r.from r.to → length (with_value r index value numbers) ≡ count_of r.from r.to
  length_value index Fill numbers e = e
  length_value index (Bytes bytes) numbers e =
      elim (fits r index bytes numbers) as (λ b. length (cond b (with_part r.array.kind r.array.big r.from r.to r.array.chunks index bytes numbers) numbers) ≡ count_of r.from r.to) [
        | true ↦ length-map (zip (box_cells r.from r.to) numbers) _ ∙ length-zip (box_cells r.from r.to) numbers ∙ omega (arith, length-box r.from r.to same_rank, e)
        | false ↦ e
      ]

  chunks_told : (met : List (List ℕ)) (kept : Kept) (numbers : List ℤ) (journal : List Event) → All (λ index. length index ≡ length r.array.chunks) met → length numbers ≡ count_of r.from r.to
      → Surely (KeptIs kept) journal → Surely (LeadsOn met numbers) journal → Leads Tells by (read_chunks s r kept numbers met) journal
  unfolding Leads read_chunks
  chunks_told [] kept numbers journal ranked long k on =
      λ once puts x keeps wf.
      ap (option_map (λ array. map (cell_number (overlay puts s) r.path array) (box_cells r.from r.to))) (ap (option_and_then (λ (n : Node). array_in n.text)) at.found ∙ at.is)
      ∙ ap (λ (l : List ℤ). Some l) (sym (on once puts x keeps wf))
  chunks_told (index ∷ met) kept numbers journal ranked long k on =
      let rank : length index ≡ length r.array.chunks = All-head (λ index. length index ≡ length r.array.chunks) index met ranked in
      Leads-bind (Told by s r.path index (LeadsOn (index ∷ met) numbers)) Tells by (chunk_kept s r.path (chunk_length r.array) r.node index kept) (on_answer (λ (chunk : Chunk). read_chunks s r chunk.1 (with_value r index chunk.0 numbers) met)) journal
      (chunk_told by s r.path index (LeadsOn (index ∷ met) numbers) (record { node = r.node; bytes = chunk_length r.array }) (there index rank) kept journal k on)
      (next rank (λ kept numbers journal. chunks_told met kept numbers journal (All-tail (λ index. length index ≡ length r.array.chunks) index met ranked)))
    where
      next : length index ≡ length r.array.chunks → ((kept : Kept) (numbers : List ℤ) (journal : List Event) → length numbers ≡ count_of r.from r.to → Surely (KeptIs kept) journal → Surely (LeadsOn met numbers) journal → Leads Tells by (read_chunks s r kept numbers met) journal)
          → (answer : Result Chunk Refusal) (h : List Event) → Told by s r.path index (LeadsOn (index ∷ met) numbers) answer h → Leads Tells by (on_answer (λ (chunk : Chunk). read_chunks s r chunk.1 (with_value r index chunk.0 numbers) met) answer) h
      next rank go (Err why) h told = told
      next rank go (Ok chunk) h told =
          go chunk.1 (with_value r index chunk.0 numbers) h (length_value index chunk.0 numbers long) told.kept_is
          (λ once puts x keeps wf.
          ap (λ (l : List ℤ). with_chunks r.array.kind r.array.big r.from r.to r.array.chunks (held puts) met l) (entered puts index chunk.0 numbers wf (told.is once puts x keeps) rank long)
          ∙ told.also once puts x keeps wf)

  pub box_told : (journal : List Event) → Leads Tells by (read_chunks s r None (replicate count r.array.fill) (chunks_met r.array.chunks r.from r.to)) journal
  box_told journal =
      chunks_told (chunks_met r.array.chunks r.from r.to) None (replicate count r.array.fill) journal (met_ranked r.array.chunks r.from r.to box.gridded) (length-replicate count r.array.fill ∙ box.counted) (λ once puts x. tt)
      (λ once puts x keeps wf.
      ap (λ n. with_chunks r.array.kind r.array.big r.from r.to r.array.chunks (held puts) (chunks_met r.array.chunks r.from r.to) (replicate n r.array.fill)) box.counted
      ∙ B r.array.kind r.array.big r.array.fill r.array.chunks r.from r.to (held puts) box.gridded)

-- ---- the call
module _ (B : BoxLaw) (by : Caller) (s : SessionState) (path from to : List ℕ) (journal : List Event) where
  -- a refusal of what was got
  got_told : (why : Refusal) (h : List Event) → MayRefuseObject why → RegionTells s path from to (Err why) h
  got_told (R.Missing key) h m = tt
  got_told (R.BadFile key bad) h m = tt
  got_told R.StoreFault h m = tt
  got_told R.NoMemory h m = tt
  got_told _ h m = absurd m

  module _ (id : Id8) (array : ArrayView) (e : array_at s path ≡ Ok (id, array)) where
    abbrev reads : Reads
    reads = record { node = id; array = array; path = path; from = from; to = to }

    numbers_told : (answer : Result (List ℤ) Refusal) (count : ℕ) (box : IsBoxOf array from to count) (h : List Event) → Tells B by s reads count (at_array s path id array e) box answer h → RegionTells s path from to answer h
    numbers_told (Ok numbers) count box h t = t
    numbers_told (Err why) count box h t = got_told why h t

    no_box_told : (why : Refusal) → box_count array from to ≡ Err why → IsRegion why → RegionTells s path from to (Err why) journal
    no_box_told why c is = subst (λ w. RegionTells s path from to (Err w) journal) (sym is.is) (record { node = id; array = array; found = e; counted = c ∙ ap (λ (w : Refusal). Err w) is.is })

    counted_told : (count : Result ℕ Refusal) → box_count array from to ≡ count → Leads (RegionTells s path from to) by (read_box s reads count) journal
    unfolding Leads
    counted_told (Err why) c = no_box_told why c (refused_box array from to why c)
    counted_told (Ok count) c =
        let at = at_array s path id array e in
        let box = box_of array from to count (box_passes array from to count (array_has_grid at.node.text array at.is) c) in
        Leads-weaker (Tells B by s reads count at box) (RegionTells s path from to) (λ answer h t. numbers_told answer count box h t) by (read_chunks s reads None (replicate count array.fill) (chunks_met array.chunks from to)) journal
        (box_told B by s reads count at box journal)

  no_array_told : (why : Refusal) → array_at s path ≡ Err why → IsEdit why → RegionTells s path from to (Err why) journal
  no_array_told why e is = subst (λ w. RegionTells s path from to (Err w) journal) (sym is.is) (e ∙ ap (λ (w : Refusal). Err w) is.is)

  array_told : (found : Result (Id8 × ArrayView) Refusal) → array_at s path ≡ found → Leads (RegionTells s path from to) by (read_array s path from to found) journal
  unfolding Leads
  array_told (Err why) e = no_array_told why e (no_array (get (nodes_seen s) path) why e)
  array_told (Ok found) e = counted_told found.0 found.1 e (box_count found.1 from to) refl

  region_told : Leads (RegionTells s path from to) by (region_program s path from to) journal
  unfolding region_program
  region_told = array_told (array_at s path) refl

pub region-law : BoxLaw → RegionLaw
region-law B by ids s path from to start journal c =
    let g = region_gets s path from to in (
      gets-keep (IsCareful ids (λ h t id. ⊥)) by (λ h key. record { polite = tt; owes = tt }) (region_program s path from to) g journal,
      gets-keep (λ h client op. ¬ PutsSnapshot op) by (λ h key p. p) (region_program s path from to) g journal,
      gets-stay by start (region_program s path from to) g journal c,
      region_told B by s path from to journal,
    )

-- What a write of a box does and answers, whatever others do.
use Rattle.std.proofs.Common.{◌≡◌, ◌≤◌, ◌*◌, inl, inr, ℕ, suc, ℤ, Bool, true, false, cond, List, [], ◌∷◌, ◌++◌, length, map, All, append-nil, refl, sym, ◌∙◌, ap, subst, arith}
use Rattle.std.specs.Prelude.{◌==◌, Option, Some, None, is_some, option_map, option_and_then, Result, Ok, Err, IfOk}
use Rattle.std.specs.FinMap.{get}
use Rattle.std.specs.List.{Contains}
use Rattle.std.proofs.Math.Nat.{mul-le-mul_left}
use Rattle.std.proofs.lemmas.List.Elements.{All-head, All-tail}
use Rattle.ice_ids.specs.declared.Id8.{Id8}
use Rattle.ice_ids.specs.declared.Id12.{Id12}
use Rattle.ice_ids.specs.declared.drawing.AnyIds.{AnyIds}
use Rattle.zarr_meta.specs.declared.views.ArrayView.{ArrayView}
use Rattle.zarr_meta.specs.Grids.{product}
use Rattle.zarr_meta.specs.Kinds.{size_of, is_in_range}
use Rattle.zarr_tree.specs.declared.edit.EditFault.{EditFault}
use Rattle.zarr_tree.specs.declared.edit.EditFault.TheVariants as E
use Rattle.zarr_tree.specs.Held.{entry_in}
use Rattle.zarr_tree.specs.Nodes.{Node, array_in, chunk_length}
use Rattle.zarr_tree.specs.Trees.{IsWellFormed}
use Rattle.zarr_tree.proofs.ViewLaws.{array_has_grid, array_fill}
use Rattle.zarr_changes.specs.Sets.{set_refusal}
use Rattle.zarr_tree.proofs.GridParts.{grid_parts}
use Rattle.repo_objects.specs.Trees.{Puts, Extends}
use Rattle.changed_snapshot.specs.Laws.{KeepsFrozen}
use Rattle.object_store.specs.declared.keys.Key.{Key}
use Rattle.object_store.specs.declared.keys.Key.TheVariants.{Chunk as Chunk_key}
use Rattle.object_store.specs.declared.keys.Why.TheVariants.{Set}
use Rattle.object_store.specs.declared.events.Op.{Op}
use Rattle.object_store.specs.declared.events.Op.TheVariants.{Get, PutNew}
use Rattle.object_store.specs.declared.events.Reply.{Reply}
use Rattle.object_store.specs.declared.events.Event.{Event}
use Rattle.store_api.specs.declared.machines.Refusal.{Refusal}
use Rattle.store_api.specs.declared.machines.Refusal.TheVariants as R
use Rattle.store_api.specs.declared.machines.RegionFault.{RegionFault}
use Rattle.store_api.specs.declared.machines.RegionFault.TheVariants as F
use Rattle.store_api.specs.Callers.{Caller, Makes}
use Rattle.store_api.specs.Journal.{IsOnce, puts_of}
use Rattle.store_api.specs.Program.{Done, Keeps, Leads}
use Rattle.store_api.specs.Plays.{Stays}
use Rattle.store_api.specs.Running.{Program}
use Rattle.store_api.specs.Telling.{ChangedNothing}
use Rattle.store_api.proofs.Programs.{Leads-weaker}
use Rattle.store_api.proofs.Telling.{makes-keeps}
use Rattle.repo_read.specs.Programs.{MayRefuseObject}
use Rattle.session.specs.declared.chunks.Value.{Value}
use Rattle.session.specs.declared.chunks.Value.TheVariants.{Fill}
use Rattle.session.specs.Sessions.{SessionState, writes, nodes_seen, overlay}
use Rattle.session.specs.Sources.{IsLater}
use Rattle.session.specs.Editing.{refusal_of_edit}
use Rattle.session.specs.Arrays.{array_at}
use Rattle.session.specs.Chunks.{set_program}
use Rattle.commit_path.specs.Laws.{SessionLaw}
use Rattle.commit_path.specs.Opened.{IsOpened}
use Rattle.commit_path.specs.Owed.{IsCareful}
use Rattle.commit_path.specs.Single.{PutsSnapshot}
use Rattle.commit_path.specs.Spelled.{IsSpelled}
use Rattle.region_calls.specs.ChunkTold.{FaultIs, SetTells, WasSet}
use Rattle.region_calls.specs.ChunkLaws.{SetLaw}
use Rattle.region_calls.proofs.Growing.{Surely, Surely-makes}
use Rattle.region_calls.proofs.ChunkGets.{OnlyGets, gets-keep, got-nothing, gets-stay}
use Rattle.region_calls.proofs.Seen.{IsThere}
use Rattle.region_cells.specs.Boxes.{box_cells, count_of, IsInBox}
use Rattle.region_cells.specs.Walks.{chunks_met, with_written}
use Rattle.region_cells.proofs.BoxLaws.{whole_box}
use Rattle.array_region.specs.Cells.{cell_number, cells_of}
use Rattle.array_region.specs.Planning.{box_count, IsBoxOf}
use Rattle.array_region.specs.Reading.{Kept, Chunk, Reads, keeping, chunk_kept}
use Rattle.array_region.specs.Writing.{is_covered, old_chunk, bytes_put, with_numbers, bytes_read, write_chunks, outside_from, cells_refused, unless_why, write_box, write_array, region_set_program}
use Rattle.array_region.proofs.Planned.{IsAt, at_array, no_array, IsRegion, refused_box, box_passes, box_of}
use Rattle.array_region.proofs.Ranged.{some_size, AreNumbers, not_refused}
use Rattle.region_calls.specs.Written.{bytes_held, IsTreeWith, IsWritten, RegionSetTells}
use Rattle.region_calls.specs.Laws.{RegionSetLaw}
use Rattle.region_calls.proofs.Gets.{entered_gets}
use Rattle.region_calls.proofs.Chunks.{KeptIs, Told, chunk_told}
use Rattle.region_calls.proofs.Boxes.{met_ranked, same_ranks, whole_chunk}
use Rattle.region_calls.proofs.Cells.{box_numbers, other_numbers}
use Rattle.region_calls.proofs.Leading.{By, both_lead, gets_lead}
use Rattle.region_calls.proofs.Walking.{write_leads, write_keeps, write_stays}
use Rattle.region_calls.proofs.Written.{ValueIs, put_is, bytes_small, taken_length}
use Rattle.region_calls.proofs.Seeing.{IsHere, over, Chain, chain_more, chain_append, chain_set, chain_nodes, chain_seen, each_is, over_elsewhere, over_out, over_in}
use Rattle.region_calls.proofs.Entering.{IsEntered, Enters, set_enters, set_still}

-- ---- the program
abbrev pub reads_of_box : (path from to : List ℕ) → Id8 → ArrayView → Reads
reads_of_box path from to id array = record { node = id; array = array; path = path; from = from; to = to }

module _ (s : SessionState) (path from to : List ℕ) (numbers : List ℤ) (Q : Program SessionState → Type 0) (unwritten : writes s ≡ false → Q (Done (Err R.ReadOnly))) (arrayless : (why : Refusal) → array_at s path ≡ Err why → Q (Done (Err why))) where
  module _ (boxless : (id : Id8) (array : ArrayView) → array_at s path ≡ Ok (id, array) → (why : Refusal) → box_count array from to ≡ Err why → Q (Done (Err why))) (unfit : (id : Id8) (array : ArrayView) → array_at s path ≡ Ok (id, array) → (count : ℕ) → box_count array from to ≡ Ok count → (why : Refusal) → cells_refused array.kind count numbers ≡ Some why → Q (Done (Err why))) (goes : writes s ≡ true → (id : Id8) (array : ArrayView) → array_at s path ≡ Ok (id, array) → (count : ℕ) → box_count array from to ≡ Ok count → cells_refused array.kind count numbers ≡ None → Q (write_chunks (old_chunk s (reads_of_box path from to id array)) s (reads_of_box path from to id array) numbers None (chunks_met array.chunks from to))) where
    by_numbers : writes s ≡ true → (id : Id8) (array : ArrayView) → array_at s path ≡ Ok (id, array) → (count : ℕ) → box_count array from to ≡ Ok count → (o : Option Refusal) → cells_refused array.kind count numbers ≡ o
        → Q (unless_why o (write_chunks (old_chunk s (reads_of_box path from to id array)) s (reads_of_box path from to id array) numbers None (chunks_met array.chunks from to)))
    by_numbers w id array e count c None f = goes w id array e count c f
    by_numbers w id array e count c (Some why) f = unfit id array e count c why f

    by_count : writes s ≡ true → (id : Id8) (array : ArrayView) → array_at s path ≡ Ok (id, array) → (count : Result ℕ Refusal) → box_count array from to ≡ count → Q (write_box s (reads_of_box path from to id array) numbers count)
    by_count w id array e (Err why) c = boxless id array e why c
    by_count w id array e (Ok count) c = by_numbers w id array e count c (cells_refused array.kind count numbers) refl

    by_array : writes s ≡ true → (found : Result (Id8 × ArrayView) Refusal) → array_at s path ≡ found → Q (write_array s path from to numbers found)
    by_array w (Err why) e = arrayless why e
    by_array w (Ok found) e = by_count w found.0 found.1 e (box_count found.1 from to) refl

    by_writes : (b : Bool) → writes s ≡ b → Q (cond b (write_array s path from to numbers (array_at s path)) (Done (Err R.ReadOnly)))
    by_writes true w = by_array w (array_at s path) refl
    by_writes false w = unwritten w

    pub box_cases : Q (region_set_program s path from to numbers)
    unfolding region_set_program
    box_cases = by_writes (writes s) refl

-- a chunk as it was is got alone
pub old_gets : (s : SessionState) (r : Reads) (index : List ℕ) (kept : Kept) → OnlyGets (old_chunk s r index kept)
old_gets s r index kept = by_test (is_covered r.from r.to r.array.chunks index)
  where
    by_test : (b : Bool) → OnlyGets (cond b (keeping kept Fill) (chunk_kept s r.path (chunk_length r.array) r.node index kept))
    by_test true = tt
    by_test false = entered_gets (chunk_length r.array) r.node index s r.path kept (entry_in s.held.chunks r.node index)

-- ---- small facts
some_product : (chunks : List ℕ) → All (λ n. 1 ≤ n) chunks → 1 ≤ product chunks
some_product [] h = omega arith
some_product (n ∷ chunks) h =
    let first : 1 ≤ n = All-head (λ n. 1 ≤ n) n chunks h in
    let rest = some_product chunks (All-tail (λ n. 1 ≤ n) n chunks h) in
    let grows : n * 1 ≤ n * product chunks = mul-le-mul_left n rest in omega (arith, first)

some_bytes : (array : ArrayView) → All (λ n. 1 ≤ n) array.chunks → 1 ≤ chunk_length array
some_bytes array h =
    let size = some_size array.kind in
    let grows : size_of array.kind * 1 ≤ size_of array.kind * product array.chunks = mul-le-mul_left (size_of array.kind) (some_product array.chunks h) in omega (arith, size)

in_middle : {A : Type 0} (xs ys zs : List A) (y : A) → xs ++ y ∷ ys ≡ zs → Contains zs y
in_middle {A} xs ys zs y e = subst (λ (l : List A). Contains l y) e (go xs)
  where
    go : (ws : List A) → Contains (ws ++ y ∷ ys) y
    go [] = (0, omega arith, refl)
    go (w ∷ ws) = let rest = go ws in (suc rest.0, omega (arith, rest.1), rest.2)

map_more : (cs : List (List ℕ × List ℕ)) (index bytes : List ℕ) (met : List (List ℕ)) → map (λ (c : List ℕ × List ℕ). c.0) (cs ++ (index, bytes) ∷ []) ++ met ≡ map (λ (c : List ℕ × List ℕ). c.0) cs ++ index ∷ met
map_more [] index bytes met = refl
map_more (c ∷ cs) index bytes met = ap (λ (l : List (List ℕ)). c.0 ∷ l) (map_more cs index bytes met)

-- which edit was refused
fault_back : (fault other : EditFault) → R.Edit fault ≡ refusal_of_edit other → other ≡ fault
fault_back fault E.NodeExists e = cc
fault_back fault E.NoParent e = cc
fault_back fault E.Full e = cc
fault_back fault E.NoNode e = cc
fault_back fault (E.FrozenField part) e = cc
fault_back fault E.NotArray e = cc
fault_back fault E.OutOfGrid e = cc
fault_back fault (E.ChunkLength want got) e = cc
fault_back fault E.NoMemory e = cc

no_region : (fault : RegionFault) (other : EditFault) → R.Region fault ≡ refusal_of_edit other → ⊥
no_region fault E.NodeExists e = cc
no_region fault E.NoParent e = cc
no_region fault E.Full e = cc
no_region fault E.NoNode e = cc
no_region fault (E.FrozenField part) e = cc
no_region fault E.NotArray e = cc
no_region fault E.OutOfGrid e = cc
no_region fault (E.ChunkLength want got) e = cc
no_region fault E.NoMemory e = cc

-- ---- the box
module _ (L : SessionLaw) (S : SetLaw) (by : Caller) (ids : AnyIds) (s : SessionState) (path from to : List ℕ) (numbers : List ℤ) (start : List Event) (allowed : writes s ≡ true) (id : Id8) (array : ArrayView) (e : array_at s path ≡ Ok (id, array)) (count : ℕ) (c : box_count array from to ≡ Ok count) (fit : cells_refused array.kind count numbers ≡ None) where
  abbrev r : Reads
  r = record { node = id; array = array; path = path; from = from; to = to }

  abbrev all_met : List (List ℕ)
  all_met = chunks_met array.chunks from to

  at : IsAt s path id array
  at = at_array s path id array e

  box : IsBoxOf array from to count
  box = box_of array from to count (box_passes array from to count (array_has_grid at.node.text array at.is) c)

  count_is : length numbers ≡ count_of from to
  count_is = (not_refused array.kind count numbers fit).whole ∙ box.counted

  -- the bytes that a chunk gets
  abbrev B : Puts → List ℕ → List ℕ
  B puts index = with_written array.kind array.big from to array.chunks index numbers (bytes_held array ((overlay puts s).chunk path index))

  abbrev frozen : Type 0
  frozen = KeepsFrozen s.held s.rows

  abbrev Told_by : Refusal → List Event → Type 0
  Told_by why h = RegionSetTells by.number s path from to numbers start (Err why) h

  record IsKnown (t : SessionState) (kept : Kept) (met : List (List ℕ)) (h : List Event) : Type 0 where
    spelled : IsSpelled t
    opened : IsOpened t h
    later : IsLater ids t.ids
    changed : ChangedNothing by.number start h
    kept_is : Surely (KeptIs kept) h
    same : writes t ≡ writes s
    ranked : All (λ index. length index ≡ length array.chunks) met
    chunks : List (List ℕ × List ℕ)
    indices : map (λ (x : List ℕ × List ℕ). x.0) chunks ++ met ≡ all_met
    chain : Chain by.number start path B frozen s chunks t h

  abbrev value_known : (index : List ℕ) → Value → Puts → Type 0
  value_known index value puts = frozen → ValueIs from to array.chunks index ((overlay puts s).chunk path index) value

  record IsRead (index : List ℕ) (t : SessionState) (met : List (List ℕ)) (chunk : Chunk) (h : List Event) : Type 0 where
    known : IsKnown t chunk.1 (index ∷ met) h
    value : Surely (value_known index chunk.0) h

  there : (index : List ℕ) → length index ≡ length array.chunks → IsThere s path index (record { node = id; bytes = chunk_length array })
  there index rank = record {
    node = at.node;
    found = at.found;
    array = array;
    is = at.is;
    rank = rank ∙ sym (grid_parts (size_of array.kind) array.shape array.chunks (array_has_grid at.node.text array at.is)).ranks;
    id = sym at.id_is;
    bytes = refl;
  }

  got_told : (why : Refusal) (h : List Event) → MayRefuseObject why → Told_by why h
  got_told (R.Missing key) h m = tt
  got_told (R.BadFile key bad) h m = tt
  got_told R.StoreFault h m = tt
  got_told R.NoMemory h m = tt
  got_told _ h m = absurd m

  -- ---- a chunk is read
  module _ (index : List ℕ) (met : List (List ℕ)) (t : SessionState) (kept : Kept) (h : List Event) (k : IsKnown t kept (index ∷ met) h) where
    -- what gets keep
    record IsStill (x : List Event) : Type 0 where
      opened : IsOpened t x
      changed : ChangedNothing by.number start x
      chain : Chain by.number start path B frozen s k.chunks t x

    still : (key : Key) (reply : Reply) (old new : List Event) → Makes by (Get key) reply old new → IsStill old → IsStill new
    still key reply old new m n = record {
      opened = makes-keeps (IsOpened t) (L.kept t) by (Get key) reply old new tt m n.opened;
      changed = got-nothing by start key reply old new m n.changed;
      chain = makes-keeps (Chain by.number start path B frozen s k.chunks t) (λ j more g x. chain_append by.number start path B frozen k.chunks s t j more g x) by (Get key) reply old new tt m n.chain;
    }

    rank : length index ≡ length array.chunks
    rank = All-head (λ index. length index ≡ length array.chunks) index met k.ranked

    abbrev N : Puts → Type 0
    N puts = Unit {0}

    was_read : (a : Result Chunk Refusal) (x : List Event) → Told by s path index N a x × IsStill x → By (IsRead index t met) Told_by a x
    was_read (Ok chunk) x told = record {
      known = record {
        spelled = k.spelled;
        opened = told.1.opened;
        later = k.later;
        changed = told.1.changed;
        kept_is = told.0.kept_is;
        same = k.same;
        ranked = k.ranked;
        chunks = k.chunks;
        indices = k.indices;
        chain = told.1.chain;
      };
      value = λ once puts y f. inr (told.0.is once puts y f);
    }
    was_read (Err why) x told = got_told why x told.0

    chunk_read : Leads (By (IsRead index t met) Told_by) by (chunk_kept s path (chunk_length array) id index kept) h
    chunk_read =
        Leads-weaker (λ a x. Told by s path index N a x × IsStill x) (By (IsRead index t met) Told_by) was_read by (chunk_kept s path (chunk_length array) id index kept) h
        (both_lead (Told by s path index N) (λ a x. IsStill x) by (chunk_kept s path (chunk_length array) id index kept) h
        (chunk_told by s path index N (record { node = id; bytes = chunk_length array }) (there index rank) kept h k.kept_is (λ once puts x. tt))
        (gets_lead IsStill by still (chunk_kept s path (chunk_length array) id index kept) (entered_gets (chunk_length array) id index s path kept (entry_in s.held.chunks id index)) h (record { opened = k.opened; changed = k.changed; chain = k.chain })))

    reads : Leads (By (IsRead index t met) Told_by) by (old_chunk s r index kept) h
    unfolding Leads
    reads = by_test (is_covered from to array.chunks index) refl
      where
        by_test : (b : Bool) → is_covered from to array.chunks index ≡ b → Leads (By (IsRead index t met) Told_by) by (cond b (keeping kept Fill) (chunk_kept s path (chunk_length array) id index kept)) h
        by_test true f = record { known = k; value = λ once puts y g. inl (f, refl) }
        by_test false f = chunk_read

  -- ---- a chunk is set
  module _ (index : List ℕ) (met : List (List ℕ)) (t : SessionState) (chunk : Chunk) (h : List Event) (m : IsRead index t met chunk h) where
    abbrev k : IsKnown t chunk.1 (index ∷ met) h
    k = m.known

    abbrev bytes : List ℕ
    bytes = bytes_put r index numbers chunk.0

    nodes : (x : List Event) → Chain by.number start path B frozen s k.chunks t x → nodes_seen t ≡ nodes_seen s
    nodes x chain = chain_nodes by.number start path B frozen k.chunks s t x chain

    -- what puts of objects keep
    record HasStill (x : List Event) : Type 0 where
      kept_is : Surely (KeptIs chunk.1) x
      value : Surely (value_known index chunk.0) x
      chain : Chain by.number start path B frozen s k.chunks t x

    put_still : (object : Id12) (reply : Reply) (old new : List Event) → Makes by (PutNew (Chunk_key object) bytes Set) reply old new → HasStill old → HasStill new
    put_still object reply old new n x = record {
      kept_is = Surely-makes (KeptIs chunk.1) by (PutNew (Chunk_key object) bytes Set) reply old new tt n x.kept_is;
      value = Surely-makes (value_known index chunk.0) by (PutNew (Chunk_key object) bytes Set) reply old new tt n x.value;
      chain = makes-keeps (Chain by.number start path B frozen s k.chunks t) (λ j more g y. chain_append by.number start path B frozen k.chunks s t j more g y) by (PutNew (Chunk_key object) bytes Set) reply old new tt n x.chain;
    }

    abbrev Law : Result SessionState Refusal → List Event → Type 0
    Law a x = SetTells by.number t path index bytes start a x × IfOk a (λ u. IsSpelled u × IsOpened u x × IsLater ids u.ids)

    set_err : (why : Refusal) (x : List Event) → SetTells by.number t path index bytes start (Err why) x → nodes_seen t ≡ nodes_seen s → Told_by why x
    set_err R.ReadOnly x told same = sym k.same ∙ told.0
    set_err (R.Edit fault) x told same =
        let f : FaultIs (set_refusal (nodes_seen t) path index (length bytes)) (R.Edit fault) = told.0 in
        inr (record {
          node = id;
          array = array;
          found = e;
          index = index;
          met = in_middle (map (λ (y : List ℕ × List ℕ). y.0) k.chunks) met all_met index k.indices;
          bytes = bytes;
          refused = sym (ap (λ n. set_refusal n path index (length bytes)) same) ∙ f.1 ∙ ap (λ (y : EditFault). Some y) (fault_back fault f.0 f.2);
        })
    set_err (R.Region fault) x told same =
        let f : FaultIs (set_refusal (nodes_seen t) path index (length bytes)) (R.Region fault) = told.0 in absurd (no_region fault f.0 f.2)
    set_err _ x told same = tt

    was_set : (a : Result SessionState Refusal) (x : List Event) → (Law a x × Enters by t path index bytes h a x) × HasStill x → By (λ u x. IsKnown u chunk.1 met x) Told_by a x
    was_set (Err why) x told = set_err why x told.0.0.0 (nodes x told.1.chain)
    was_set (Ok u) x told =
        let set : WasSet by.number t path index bytes u start x = told.0.0.0.0 in
        let entered : IsEntered t path index bytes u x = told.0.1 in
        let same = nodes x told.1.chain in
        let whole : length bytes ≡ chunk_length array = taken_length (nodes_seen t) path index (length bytes) at.node array (ap (λ n. get n path) same ∙ at.found) at.is set.taken in
        let rank = All-head (λ index. length index ≡ length array.chunks) index met k.ranked in
        record {
          spelled = told.0.0.1.0;
          opened = told.0.0.1.1;
          later = told.0.0.1.2;
          changed = told.0.0.0.1;
          kept_is = told.1.kept_is;
          same = ap writes entered.is ∙ k.same;
          ranked = All-tail (λ index. length index ≡ length array.chunks) index met k.ranked;
          chunks = k.chunks ++ (index, bytes) ∷ [];
          indices = map_more k.chunks index bytes met ∙ k.indices;
          chain = chain_more by.number start path B frozen k.chunks s t u index bytes x told.1.chain (record {
            set = set;
            place = entered.place;
            is = entered.is;
            there = entered.there;
            bytes_are = λ once puts y f. put_is r index numbers chunk.0 rank count_is (some_bytes array box.positive) whole ((overlay puts s).chunk path index) (told.1.value once puts y f);
          });
        }

    abbrev law : Keeps (IsCareful ids (λ h t id. ⊥)) by (set_program t path index bytes) h × Keeps (λ h client op. ¬ PutsSnapshot op) by (set_program t path index bytes) h × Stays (ChangedNothing by.number start) by (set_program t path index bytes) h × Leads Law by (set_program t path index bytes) h
    law = S by ids t path index bytes start h k.later (bytes_small (with_numbers r index numbers (bytes_read array chunk.0))) k.spelled k.opened k.changed

    sets : Leads (By (λ u x. IsKnown u chunk.1 met x) Told_by) by (set_program t path index bytes) h
    sets =
        Leads-weaker (λ a x. (Law a x × Enters by t path index bytes h a x) × HasStill x) (By (λ u x. IsKnown u chunk.1 met x) Told_by) was_set by (set_program t path index bytes) h
        (both_lead (λ a x. Law a x × Enters by t path index bytes h a x) (λ a x. HasStill x) by (set_program t path index bytes) h
        (both_lead Law (Enters by t path index bytes h) by (set_program t path index bytes) h law.3 (set_enters by t path index bytes h))
        (set_still by t path index bytes h HasStill put_still (record { kept_is = k.kept_is; value = m.value; chain = k.chain })))

  -- ---- all were set
  is_here : (puts : Puts) → IsWellFormed (overlay puts s) → IsHere s path at.node
  is_here puts wf = record { found = at.found; array = ap is_some at.is; distinct = λ q p k m f g d. wf.distinct q p k m f g d }

  module _ (t : SessionState) (kept : Kept) (h : List Event) (k : IsKnown t kept [] h) where
    all_indices : map (λ (x : List ℕ × List ℕ). x.0) k.chunks ≡ all_met
    all_indices = sym (append-nil (map (λ (x : List ℕ × List ℕ). x.0) k.chunks)) ∙ k.indices

    -- the tree
    module _ (once : IsOnce h) (puts : Puts) (more : Extends (puts_of h) puts) (f : frozen) (wf : IsWellFormed (overlay puts s)) where
      seen : (q j : List ℕ) → (overlay puts t).chunk q j ≡ over path k.chunks (overlay puts s).chunk q j
      seen = chain_seen by.number start path B frozen puts at.node h once more k.chunks s t (is_here puts wf) k.chain

      nodes_same : nodes_seen t ≡ nodes_seen s
      nodes_same = chain_nodes by.number start path B frozen k.chunks s t h k.chain

      touched : (index : List ℕ) → Contains all_met index → (overlay puts t).chunk path index ≡ Some (B puts index)
      touched index x =
          seen path index
          ∙ over_in by.number start path B frozen puts k.chunks (overlay puts s).chunk index (each_is by.number start path B frozen puts at.node h once more f k.chunks s t k.chain)
          (subst (λ (l : List (List ℕ)). Contains l index) (sym all_indices) x)

      others : (index : List ℕ) → (Contains all_met index → ⊥) → (overlay puts t).chunk path index ≡ (overlay puts s).chunk path index
      others index x = seen path index ∙ over_out by.number start path B frozen puts k.chunks (overlay puts s).chunk index (λ y. x (subst (λ (l : List (List ℕ)). Contains l index) all_indices y))

      are : AreNumbers array.kind count numbers
      are = not_refused array.kind count numbers fit

      fill : is_in_range array.kind array.fill ≡ true
      fill = array_fill at.node.text array at.is

      held : (index bytes : List ℕ) → (overlay puts s).chunk path index ≡ Some bytes → length bytes ≡ chunk_length array
      held index bytes e = whole_chunk (overlay puts s) path index bytes at.node array wf at.found at.is e

      abbrev box_in : Option Node → Option (List ℤ)
      box_in n = option_map (λ (a : ArrayView). map (cell_number (overlay puts t) path a) (box_cells from to)) (option_and_then (λ (x : Node). array_in x.text) n)

      box_read : cells_of (overlay puts t) path from to ≡ Some numbers
      box_read =
          ap box_in (ap (λ n. get n path) nodes_same ∙ at.found) ∙ ap (option_map (λ (a : ArrayView). map (cell_number (overlay puts t) path a) (box_cells from to))) at.is
          ∙ ap (λ (l : List ℤ). Some l) (sym (whole_box (cell_number (overlay puts t) path array) from to numbers (same_ranks array.chunks from to box.gridded) count_is
          (box_numbers path array from to numbers (overlay puts s) (overlay puts t) count box are fill held touched)))

      rest_read : (cell : List ℕ) → length cell ≡ length array.shape → (IsInBox from to cell → ⊥) → cell_number (overlay puts t) path array cell ≡ cell_number (overlay puts s) path array cell
      rest_read cell rank out =
          other_numbers path array from to numbers (overlay puts s) (overlay puts t) count box are fill held touched others cell
          (rank ∙ (grid_parts (size_of array.kind) array.shape array.chunks (array_has_grid at.node.text array at.is)).ranks) out

      tree_with : IsTreeWith path array from to numbers (overlay puts s) (overlay puts t)
      tree_with = record {
        nodes = nodes_same;
        box = box_read;
        rest = rest_read;
        touched = touched;
        others = others;
        elsewhere = λ q index ne. seen q index ∙ over_elsewhere by.number start path B frozen puts k.chunks (overlay puts s).chunk q index ne;
      }

    is_written : IsWritten s path array from to numbers t h
    is_written once puts more f wf = tree_with once puts more f wf

    abbrev End : Type 0
    End = RegionSetTells by.number s path from to numbers start (Ok t) h × (IsSpelled t × IsOpened t h × IsLater ids t.ids)

    ended : End
    ended = (
      (
        record {
          writes = allowed;
          node = id;
          array = array;
          found = e;
          count = count;
          counted = c;
          fit = fit;
          chunks = k.chunks;
          indices = all_indices;
          set = chain_set by.number start path B frozen k.chunks s t h k.chain;
          tree = is_written;
        },
        k.changed,
      ),
      (k.spelled, k.opened, k.later),
    )

  -- ---- the whole of it
  module _ (journal : List Event) (later : IsLater ids s.ids) (spelled : IsSpelled s) (opened : IsOpened s journal) (changed : ChangedNothing by.number start journal) where
    begins : IsKnown s None all_met journal
    begins = record {
      spelled = spelled;
      opened = opened;
      later = later;
      changed = changed;
      kept_is = λ once puts x. tt;
      same = refl;
      ranked = met_ranked array.chunks from to box.gridded;
      chunks = [];
      indices = refl;
      chain = refl;
    }

    abbrev whole : Program SessionState
    whole = write_chunks (old_chunk s r) s r numbers None all_met

    pub box_leads : Leads (By (λ t h. RegionSetTells by.number s path from to numbers start (Ok t) h × (IsSpelled t × IsOpened t h × IsLater ids t.ids)) Told_by) by whole journal
    box_leads = write_leads by s r numbers IsKnown IsRead Told_by reads sets (λ t h. RegionSetTells by.number s path from to numbers start (Ok t) h × (IsSpelled t × IsOpened t h × IsLater ids t.ids)) ended all_met s None journal begins

    pub box_careful : Keeps (IsCareful ids (λ h t id. ⊥)) by whole journal
    box_careful =
        write_keeps by s r numbers IsKnown IsRead Told_by reads sets (IsCareful ids (λ h t id. ⊥)) (λ index kept h. gets-keep (IsCareful ids (λ h t id. ⊥)) by (λ h key. record { polite = tt; owes = tt }) (old_chunk s r index kept) (old_gets s r index kept) h)
        (λ index met t chunk h m. (law index met t chunk h m).0) all_met s None journal begins

    pub box_snapless : Keeps (λ h client op. ¬ PutsSnapshot op) by whole journal
    box_snapless =
        write_keeps by s r numbers IsKnown IsRead Told_by reads sets (λ h client op. ¬ PutsSnapshot op) (λ index kept h. gets-keep (λ h client op. ¬ PutsSnapshot op) by (λ h key p. p) (old_chunk s r index kept) (old_gets s r index kept) h)
        (λ index met t chunk h m. (law index met t chunk h m).1) all_met s None journal begins

    pub box_stays : Stays (ChangedNothing by.number start) by whole journal
    box_stays =
        write_stays by s r numbers IsKnown IsRead Told_by reads sets (ChangedNothing by.number start) (λ index met t kept h k. gets-stay by start (old_chunk s r index kept) (old_gets s r index kept) h k.changed)
        (λ index met t chunk h m. (law index met t chunk h m).2) all_met s None journal begins

-- ---- the law
module _ (s : SessionState) (path from to : List ℕ) (numbers : List ℤ) (client : ℕ) (start : List Event) where
  unfound : (why : Refusal) (h : List Event) → array_at s path ≡ Err why → RegionSetTells client s path from to numbers start (Err why) h
  unfound why h e =
      let is = no_array (get (nodes_seen s) path) why e in subst (λ w. RegionSetTells client s path from to numbers start (Err w) h) (sym is.is) (inl (e ∙ ap (λ (w : Refusal). Err w) is.is))

  module _ (id : Id8) (array : ArrayView) (e : array_at s path ≡ Ok (id, array)) where
    no_box_told : (why : Refusal) (h : List Event) → box_count array from to ≡ Err why → RegionSetTells client s path from to numbers start (Err why) h
    no_box_told why h c =
        let is = refused_box array from to why c in
        subst (λ w. RegionSetTells client s path from to numbers start (Err w) h) (sym is.is) (record { node = id; array = array; found = e; cause = inl (c ∙ ap (λ (w : Refusal). Err w) is.is) })

    refused_is : (count : ℕ) (why : Refusal) → cells_refused array.kind count numbers ≡ Some why → IsRegion why
    refused_is count why f = by_count (length numbers == count) f
      where
        by_place : (o : Option ℕ) → option_map (λ at. R.Region (F.CellRange at)) o ≡ Some why → IsRegion why
        by_place None d = cc
        by_place (Some at) d = record { fault = F.CellRange at; is = cc }

        by_count : (b : Bool) → cond b (option_map (λ at. R.Region (F.CellRange at)) (outside_from array.kind numbers 0)) (Some (R.Region (F.CellCount count (length numbers)))) ≡ Some why → IsRegion why
        by_count true d = by_place (outside_from array.kind numbers 0) d
        by_count false d = record { fault = F.CellCount count (length numbers); is = cc }

    unfit_told : (count : ℕ) → box_count array from to ≡ Ok count → (why : Refusal) (h : List Event) → cells_refused array.kind count numbers ≡ Some why → RegionSetTells client s path from to numbers start (Err why) h
    unfit_told count c why h f =
        let is = refused_is count why f in
        subst (λ w. RegionSetTells client s path from to numbers start (Err w) h) (sym is.is) (record { node = id; array = array; found = e; cause = inr (count, c, f ∙ ap (λ (w : Refusal). Some w) is.is) })

-- what ends at once does nothing
pub kept_at_once : {A : Type 0} (P : List Event → ℕ → Op → Type 0) (by : Caller) (a : A) (h : List Event) → Keeps P by (Done a) h
unfolding Keeps
kept_at_once P by a h = tt

stays_at_once : {A : Type 0} (N : List Event → Type 0) (by : Caller) (a : A) (h : List Event) → Stays N by (Done a) h
unfolding Stays
stays_at_once N by a h = tt

pub leads_at_once : {A : Type 0} (Q : A → List Event → Type 0) (by : Caller) (a : A) (h : List Event) → Q a h → Leads Q by (Done a) h
unfolding Leads
leads_at_once Q by a h q = q

module _ (L : SessionLaw) (S : SetLaw) (by : Caller) (ids : AnyIds) (s : SessionState) (path from to : List ℕ) (numbers : List ℤ) (start journal : List Event) (later : IsLater ids s.ids) (spelled : IsSpelled s) (opened : IsOpened s journal) (changed : ChangedNothing by.number start journal) where
  abbrev Good : SessionState → List Event → Type 0
  Good t h = RegionSetTells by.number s path from to numbers start (Ok t) h × (IsSpelled t × IsOpened t h × IsLater ids t.ids)

  abbrev Bad : Refusal → List Event → Type 0
  Bad why h = RegionSetTells by.number s path from to numbers start (Err why) h

  abbrev Law_told : Result SessionState Refusal → List Event → Type 0
  Law_told answer h = RegionSetTells by.number s path from to numbers start answer h × IfOk answer (λ t. IsSpelled t × IsOpened t h × IsLater ids t.ids)

  told : (answer : Result SessionState Refusal) (h : List Event) → By Good Bad answer h → Law_told answer h
  told (Ok t) h g = g
  told (Err why) h g = (g, tt)

  refused : (why : Refusal) → Bad why journal → Leads Law_told by (Done (Err why)) journal
  refused why b = leads_at_once Law_told by (Err why) journal (b, tt)

  careful : Keeps (IsCareful ids (λ h t id. ⊥)) by (region_set_program s path from to numbers) journal
  careful =
      box_cases s path from to numbers (λ p. Keeps (IsCareful ids (λ h t id. ⊥)) by p journal) (λ w. kept_at_once (IsCareful ids (λ h t id. ⊥)) by (Err R.ReadOnly) journal) (λ why e. kept_at_once (IsCareful ids (λ h t id. ⊥)) by (Err why) journal)
      (λ id array e why c. kept_at_once (IsCareful ids (λ h t id. ⊥)) by (Err why) journal) (λ id array e count c why f. kept_at_once (IsCareful ids (λ h t id. ⊥)) by (Err why) journal)
      (λ w id array e count c f. box_careful L S by ids s path from to numbers start w id array e count c f journal later spelled opened changed)

  snapless : Keeps (λ h client op. ¬ PutsSnapshot op) by (region_set_program s path from to numbers) journal
  snapless =
      box_cases s path from to numbers (λ p. Keeps (λ h client op. ¬ PutsSnapshot op) by p journal) (λ w. kept_at_once (λ h client op. ¬ PutsSnapshot op) by (Err R.ReadOnly) journal) (λ why e. kept_at_once (λ h client op. ¬ PutsSnapshot op) by (Err why) journal)
      (λ id array e why c. kept_at_once (λ h client op. ¬ PutsSnapshot op) by (Err why) journal) (λ id array e count c why f. kept_at_once (λ h client op. ¬ PutsSnapshot op) by (Err why) journal)
      (λ w id array e count c f. box_snapless L S by ids s path from to numbers start w id array e count c f journal later spelled opened changed)

  stays : Stays (ChangedNothing by.number start) by (region_set_program s path from to numbers) journal
  stays =
      box_cases s path from to numbers (λ p. Stays (ChangedNothing by.number start) by p journal) (λ w. stays_at_once (ChangedNothing by.number start) by (Err R.ReadOnly) journal) (λ why e. stays_at_once (ChangedNothing by.number start) by (Err why) journal)
      (λ id array e why c. stays_at_once (ChangedNothing by.number start) by (Err why) journal) (λ id array e count c why f. stays_at_once (ChangedNothing by.number start) by (Err why) journal)
      (λ w id array e count c f. box_stays L S by ids s path from to numbers start w id array e count c f journal later spelled opened changed)

  leads : Leads Law_told by (region_set_program s path from to numbers) journal
  leads =
      box_cases s path from to numbers (λ p. Leads Law_told by p journal) (λ w. refused R.ReadOnly w) (λ why e. refused why (unfound s path from to numbers by.number start why journal e))
      (λ id array e why c. refused why (no_box_told s path from to numbers by.number start id array e why journal c))
      (λ id array e count c why f. refused why (unfit_told s path from to numbers by.number start id array e count c why journal f))
      (λ w id array e count c f. Leads-weaker (By Good Bad) Law_told told by (write_chunks (old_chunk s (reads_of_box path from to id array)) s (reads_of_box path from to id array) numbers None (chunks_met array.chunks from to)) journal
      (box_leads L S by ids s path from to numbers start w id array e count c f journal later spelled opened changed))

  pub set_law_parts : Keeps (IsCareful ids (λ h t id. ⊥)) by (region_set_program s path from to numbers) journal × Keeps (λ h client op. ¬ PutsSnapshot op) by (region_set_program s path from to numbers) journal
      × Stays (ChangedNothing by.number start) by (region_set_program s path from to numbers) journal × Leads Law_told by (region_set_program s path from to numbers) journal
  set_law_parts = (careful, snapless, stays, leads)

pub region-set-law : SessionLaw → SetLaw → RegionSetLaw
region-set-law L S by ids s path from to numbers start journal later spelled opened changed = set_law_parts L S by ids s path from to numbers start journal later spelled opened changed

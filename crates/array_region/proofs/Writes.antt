-- Writing one chunk after another.
use Rattle.std.proofs.Common.{◌≡◌, ◌≤◌, ◌<◌, ◌+◌, ◌-◌, ◌^◌, ℕ, ℤ, Bool, true, false, cond, List, [], ◌∷◌, length, drop, get_or, refl, sym, ◌∙◌, ap, subst, arith}
use Rattle.std.specs.Prelude.{Option, Some, None, Result, Ok, Err}
use Rattle.ice_ids.specs.declared.Id8.{Id8}
use Rattle.ice_ids.specs.declared.drawing.AnyIds.{AnyIds}
use Rattle.manifest_file.specs.declared.manifest.Place.{Place}
use Rattle.zarr_tree.specs.Held.{entry_in}
use Rattle.zarr_tree.specs.Nodes.{chunk_length}
use Rattle.store_api.specs.declared.machines.Next.TheVariants as nexts
use Rattle.store_api.specs.declared.machines.Refusal.{Refusal}
use Rattle.store_api.specs.Program.{Done, Ask, IsAsk}
use Rattle.store_api.specs.Running.{Program}
use Rattle.session.specs.declared.chunks.Value.{Value}
use Rattle.session.specs.declared.chunks.Value.TheVariants.{Fill}
use Rattle.session.specs.Sessions.{SessionState}
use Rattle.session.specs.Chunks.{set_program}
use Rattle.array_region.specs.declared.given.Given.{Given}
use Rattle.array_region.specs.declared.runs.Run.{Run}
use Rattle.array_region.specs.declared.runs.WriteStage.{WriteStage}
use Rattle.array_region.specs.declared.runs.WriteStage.TheVariants.{Reads as Is_reads, Ended}
use Rattle.array_region.specs.declared.stages.Stage.{Stage}
use Rattle.array_region.specs.declared.stages.Found.TheVariants.{Told, Gets}
use Rattle.array_region.specs.Reading.{Kept, Chunk, Reads, keeping, entered_kept}
use Rattle.array_region.specs.Getting.{kept_of, chunks_of, reads_of, stage_chunk, stage_index, Finds, Refuses}
use Rattle.array_region.specs.Writing.{is_covered, old_chunk, bytes_put, write_chunks}
use Rattle.array_region.specs.Setting.{set_after, box_written, write_rest, run_reads, run_old, run_entered, run_met, run_going, run_rest, run_left, write_stage_left, chunks_left, KeepsBox, SameTree, PutsNext, PlacesOk, Places, Rests, Takes, RunLands}
use Rattle.array_region.proofs.Looking.{first_left, none_left}

-- ---- the chunks as they were don't know which ids are drawn
module _ (s : SessionState) (ids : AnyIds) where
  entered_drawn : (path : List ℕ) (want : ℕ) (node : Id8) (index : List ℕ) (kept : Kept) (entry : Option (Option Place)) → entered_kept (record s { ids = ids }) path want node index kept entry ≡ entered_kept s path want node index kept entry
  entered_drawn path want node index kept (Some (Some place)) = refl
  entered_drawn path want node index kept (Some None) = refl
  entered_drawn path want node index kept None = refl

  old_drawn : (r : Reads) → old_chunk (record s { ids = ids }) r ≡ old_chunk s r
  old_drawn r = λ i index kept. cond (is_covered r.from r.to r.array.chunks index) (keeping kept Fill) (entered_drawn r.path (chunk_length r.array) r.node index kept (entry_in s.held.chunks r.node index) i)

pub same_old : (s t : SessionState) (r : Reads) → SameTree s t → old_chunk t r ≡ old_chunk s r
same_old s t r e = ap (λ (x : SessionState). old_chunk x r) e ∙ old_drawn s t.ids r

pub same_tree : (s t : SessionState) → t ≡ s → SameTree s t
same_tree s t e = e ∙ ap (λ (x : SessionState). record s { ids = x.ids }) (sym e)

pub tree_then : (s t u : SessionState) → SameTree s t → SameTree t u → SameTree s u
tree_then s t u e f = f ∙ ap (λ (x : SessionState). record x { ids = u.ids }) e

-- ---- one chunk
module _ (old : List ℕ → Kept → Program Chunk) (t : SessionState) (r : Reads) (numbers : List ℤ) (kept : Kept) where
  abbrev index_at : ℕ → List ℕ
  index_at at = get_or (chunks_of r) at []

  pub next_chunk : (at : ℕ) → at < length (chunks_of r)
      → write_chunks old t r numbers kept (drop at (chunks_of r)) ≡ box_written (old (index_at at) kept) old t r numbers (index_at at) (drop (at + 1) (chunks_of r))
  unfolding write_chunks
  next_chunk at h = ap (write_chunks old t r numbers kept) (first_left (chunks_of r) at (at + 1) (index_at at) [] (omega arith) h refl) ∙ begins (index_at at) (drop (at + 1) (chunks_of r))
    where
      begins : (index : List ℕ) (met : List (List ℕ)) → write_chunks old t r numbers kept (index ∷ met) ≡ box_written (old index kept) old t r numbers index met
      begins index met = refl

  -- none is left
  pub whole_box : (at : ℕ) → length (chunks_of r) ≤ at → write_chunks old t r numbers kept (drop at (chunks_of r)) ≡ Done (Ok t)
  unfolding write_chunks
  whole_box at h = ap (write_chunks old t r numbers kept) (none_left (chunks_of r) at h) ∙ ends
    where
      ends : write_chunks old t r numbers kept [] ≡ Done (Ok t)
      ends = refl

  -- an operation is asked for first
  pub asks_first : (p : Program Chunk) (index : List ℕ) (met : List (List ℕ)) → IsAsk p → IsAsk (box_written p old t r numbers index met)
  asks_first (Done answer) index met a = absurd a
  asks_first (Ask op next) index met a = tt

-- ---- a run whose next operation is a put
module _ (new : Run) (p : Program SessionState) (n : PutsNext p new) where
  pub puts_rest : run_rest new ≡ set_after p (run_old new) (run_reads new) new.given.numbers.items (kept_of new.kept) (run_met new)
  puts_rest =
      ap (write_rest (run_old new) (run_entered new) (run_reads new) new.given.numbers.items (kept_of new.kept) (run_met new)) n.stage
      ∙ ap (λ q. set_after q (run_old new) (run_reads new) new.given.numbers.items (kept_of new.kept) (run_met new)) n.program

  pub puts_asks : IsAsk (run_rest new)
  puts_asks = subst (λ (stage : WriteStage). IsAsk (write_rest (run_old new) (run_entered new) (run_reads new) new.given.numbers.items (kept_of new.kept) (run_met new) stage)) (sym n.stage) tt

  pub puts_left : write_stage_left new.stage ≡ 1
  puts_left = ap write_stage_left n.stage

-- what follows a chunk that was set is the same for a run that stays
pub stays_after : (old new : Run) → KeepsBox old new → SameTree old.session new.session → (p : Program SessionState)
    → set_after p (run_old new) (run_reads new) new.given.numbers.items (kept_of new.kept) (run_met new) ≡ set_after p (run_old old) (run_reads old) old.given.numbers.items (kept_of old.kept) (run_met old)
stays_after old new s e p =
    ap (λ (f : List ℕ → Kept → Program Chunk). set_after p f (run_reads new) new.given.numbers.items (kept_of new.kept) (run_met new)) (same_old old.session new.session (run_reads new) e)
    ∙ (λ i. set_after p (old_chunk old.session (reads_of (s.given i).plan)) (reads_of (s.given i).plan) (s.given i).numbers.items (kept_of (s.kept i)) (drop (s.at i) (chunks_of (reads_of (s.given i).plan))))

-- so many steps are left
pub stays_left : (old new : Run) → KeepsBox old new → chunks_left (run_reads new) new.at ≡ chunks_left (run_reads old) old.at
stays_left old new s = λ i. chunks_left (reads_of (s.given i).plan) (s.at i)

-- ---- a chunk was placed
module _ (old new : Run) (s : KeepsBox old new) (e : SameTree old.session new.session) (p : Program SessionState) where
  abbrev then : Program SessionState
  then = set_after p (run_old old) (run_reads old) old.given.numbers.items (kept_of old.kept) (run_met old)

  placed_rest : PutsNext p new → then ≡ run_rest new
  placed_rest n = sym (puts_rest new p n ∙ stays_after old new s e p)

  placed_going : PlacesOk p old new false → then ≡ run_going new
  placed_going d =
      ap (λ q. set_after q (run_old old) (run_reads old) old.given.numbers.items (kept_of old.kept) (run_met old)) d.0
      ∙ sym (ap (λ (f : List ℕ → Kept → Program Chunk). write_chunks f (run_entered new) (run_reads new) new.given.numbers.items (kept_of new.kept) (run_met new)) (same_old old.session new.session (run_reads new) e)
      ∙ (λ i. write_chunks (old_chunk old.session (reads_of (s.given i).plan)) (run_entered new) (reads_of (s.given i).plan) (s.given i).numbers.items (kept_of (s.kept i)) (drop (s.at i) (chunks_of (reads_of (s.given i).plan)))))

  pub placed_takes : (most : ℕ) (result : Result Bool Refusal) → Places p old new result → Takes then (most + 1) new result
  placed_takes most (Ok true) n = (placed_rest n, puts_asks new p n, (let one = puts_left new p n in omega (arith, one)))
  placed_takes most (Ok false) d = placed_going d
  placed_takes most (Err why) f = record { is = λ m. ap (λ q. set_after q (run_old old) (run_reads old) old.given.numbers.items (kept_of old.kept) (run_met old)) (f.0.is m); calm = f.0.calm }

  pub placed_rests : (result : Result Bool Refusal) → Places p old new result → Rests result new.stage
  placed_rests (Ok true) n = tt
  placed_rests (Ok false) d = d.2
  placed_rests (Err why) f = f.1

-- ---- a chunk was looked for
module _ (m : Run) (index : List ℕ) (most : ℕ) (p : Program Chunk) where
  abbrev pub asked : Program SessionState
  asked = box_written p (run_old m) (run_entered m) (run_reads m) m.given.numbers.items index (run_met m)

  -- it is told, so it is set
  pub told_asked : (found : List ℕ) (value : Value) → Finds (run_reads m) (kept_of m.kept) index most p (Told found value)
      → asked ≡ set_after (set_program (run_entered m) (run_reads m).path found (bytes_put (run_reads m) found m.given.numbers.items value)) (run_old m) (run_reads m) m.given.numbers.items (kept_of m.kept) (run_met m)
  told_asked found value f =
      ap (λ q. box_written q (run_old m) (run_entered m) (run_reads m) m.given.numbers.items index (run_met m)) f.1
      ∙ sym (ap (λ x. set_after (set_program (run_entered m) (run_reads m).path x (bytes_put (run_reads m) x m.given.numbers.items value)) (run_old m) (run_reads m) m.given.numbers.items (kept_of m.kept) (run_met m)) f.0)

  -- or something is to be got
  pub gets_takes : (stage : Stage) (new : Run) → new ≡ record m { stage = Is_reads stage } → Finds (run_reads m) (kept_of m.kept) index most p (Gets stage) → Takes asked (most + 1) new (Ok true)
  gets_takes stage new e f =
      subst (λ (x : Run). Takes asked (most + 1) x (Ok true)) (sym e) (
        sym (λ i. box_written (f.1 i) (run_old m) (run_entered m) (run_reads m) m.given.numbers.items (f.0 i) (run_met m)),
        asks_first (run_old m) (run_entered m) (run_reads m) m.given.numbers.items (kept_of m.kept) (stage_chunk (run_reads m) (kept_of m.kept) stage) (stage_index stage) (run_met m) (subst (λ (q : Program Chunk). IsAsk q) (sym f.1) f.2),
        omega (arith, f.3),
      )

-- ---- the run
-- it set some chunks more, and nothing else is otherwise
pub record IsGoing (before now : Run) (at : ℕ) : Type 0 where
  pub tree : SameTree before.session now.session
  pub given : now.given ≡ before.given
  pub kept : now.kept ≡ before.kept
  pub stage : now.stage ≡ Ended
  pub at_is : now.at ≡ at
  pub later : before.at ≤ at
  pub program : run_going now ≡ run_going before

pub begun : (m : Run) → m.stage ≡ Ended → IsGoing m m m.at
begun m e = record { tree = same_tree m.session m.session refl; given = refl; kept = refl; stage = e; at_is = refl; later = omega arith; program = refl }

module _ (before now : Run) (at : ℕ) (g : IsGoing before now at) where
  abbrev r : Reads
  r = run_reads now

  abbrev index : List ℕ
  index = get_or (chunks_of r) at []

  abbrev next : Program Chunk
  next = old_chunk now.session r index (kept_of now.kept)

  -- a run that begins the next chunk
  abbrev pub beginning : Run
  beginning = record now { at = at + 1 }

  same_length : length (chunks_of r) ≡ length (chunks_of (run_reads before))
  same_length = ap (λ (given : Given). length (chunks_of (reads_of given.plan))) g.given

  here : run_going now ≡ write_chunks (run_old now) (run_entered now) r now.given.numbers.items (kept_of now.kept) (drop at (chunks_of r))
  here = ap (λ k. write_chunks (run_old now) (run_entered now) r now.given.numbers.items (kept_of now.kept) (drop k (chunks_of r))) g.at_is

  pub no_more_left : run_left now ≤ chunks_left (run_reads before) before.at
  no_more_left =
      let none = ap write_stage_left g.stage in
      omega (arith, same_length, none, g.at_is, g.later)

  pub ended : length (chunks_of r) ≤ at → Done (Ok (run_entered now)) ≡ run_going before
  ended h = sym (whole_box (run_old now) (run_entered now) r now.given.numbers.items (kept_of now.kept) at h) ∙ sym here ∙ g.program

  pub end_left : (n : ℕ) → n ≡ chunks_left r now.at → n ≤ chunks_left (run_reads before) before.at
  end_left n e = omega (arith, same_length, g.at_is, g.later, e)

  module _ (within : at < length (chunks_of r)) where
    next_asked : run_going before ≡ asked beginning index (2 ^ 64 - 1) next
    next_asked = sym g.program ∙ here ∙ next_chunk (run_old now) (run_entered now) r now.given.numbers.items (kept_of now.kept) at within

    pub look_refused : (why : Refusal) → Refuses next why → Refuses (run_going before) why
    look_refused why f = record { is = λ m. next_asked ∙ ap (λ p. box_written p (run_old now) (run_entered now) r now.given.numbers.items index (drop (at + 1) (chunks_of r))) (f.is m); calm = f.calm }

    module _ (new : Run) (s : KeepsBox beginning new) (e : SameTree now.session new.session) where
      pub same_at_last : SameTree before.session new.session
      same_at_last = tree_then before.session now.session new.session g.tree e

      pub again_lands : Takes (asked beginning index (2 ^ 64 - 1) next) (2 ^ 64 - 1 + 1) new (Ok true) → RunLands (run_going before) new (Ok nexts.Again)
      again_lands t = (next_asked ∙ t.0, t.1)

      pub again_left : Takes (asked beginning index (2 ^ 64 - 1) next) (2 ^ 64 - 1 + 1) new (Ok true) → run_left new ≤ chunks_left (run_reads before) before.at
      again_left t = let same = stays_left beginning new s in omega (arith, same, same_length, g.later, within, t.2)

      pub refused_lands : (why : Refusal) → Takes (asked beginning index (2 ^ 64 - 1) next) (2 ^ 64 - 1 + 1) new (Err why) → Refuses (run_going before) why
      refused_lands why t = record { is = λ m. next_asked ∙ t.is m; calm = t.calm }

      pub rest_left : new.stage ≡ Ended → run_left new ≤ chunks_left (run_reads before) before.at
      rest_left x = let same = stays_left beginning new s in let none = ap write_stage_left x in omega (arith, same, same_length, g.later, within, none)

      pub goes_on : Takes (asked beginning index (2 ^ 64 - 1) next) (2 ^ 64 - 1 + 1) new (Ok false) → new.stage ≡ Ended → IsGoing before new (at + 1)
      goes_on t x = record {
        tree = same_at_last;
        given = s.given ∙ g.given;
        kept = s.kept ∙ g.kept;
        stage = x;
        at_is = s.at;
        later = omega (arith, g.later);
        program = sym (next_asked ∙ t);
      }

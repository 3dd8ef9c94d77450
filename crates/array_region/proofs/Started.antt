-- How the writing of a box begins.
use Rattle.std.proofs.Common.{◌≡◌, ◌∙◌, ℕ, ℤ, Bool, true, false, cond, List, [], length, sym, ap, subst}
use Rattle.std.specs.Prelude.{◌==◌, Option, Some, None, option_map, Ok, Err}
use Rattle.zarr_meta.specs.declared.kinds.IntKind.{IntKind}
use Rattle.store_api.specs.declared.machines.Next.{Next}
use Rattle.store_api.specs.declared.machines.Next.TheVariants as next
use Rattle.store_api.specs.declared.machines.Refusal.{Refusal}
use Rattle.store_api.specs.declared.machines.Refusal.TheVariants.{Region}
use Rattle.store_api.specs.declared.machines.RegionFault.TheVariants.{CellCount, CellRange}
use Rattle.store_api.specs.Program.{Done, IsAsk, is_fault}
use Rattle.store_api.specs.Running.{Program}
use Rattle.session.specs.Sessions.{SessionState}
use Rattle.zarr_changes.specs.declared.placing.Placed.{Placed}
use Rattle.session.specs.Placing.{with_places}
use Rattle.array_region.specs.declared.given.Given.{Given}
use Rattle.array_region.specs.declared.plans.Plan.{Plan}
use Rattle.array_region.specs.declared.runs.Run.{Run}
use Rattle.array_region.specs.Getting.{reads_of, chunks_of}
use Rattle.array_region.specs.Writing.{old_chunk, outside_from, cells_refused, unless_why, write_chunks}
use Rattle.array_region.specs.Setting.{run_rest, RunLands, UnlessReady}

module _ (s : SessionState) (p : Program SessionState) (plan : Plan) (numbers : List ℤ) where
  -- what is to be done if the numbers aren't refused
  abbrev pub goes : Plan → List ℤ → Program SessionState
  goes plan numbers = write_chunks (old_chunk s (reads_of plan)) s (reads_of plan) numbers None (chunks_of (reads_of plan))

  module _ (is : p ≡ unless_why (cells_refused plan.array.kind plan.count numbers) (goes plan numbers)) where
    pub not_given : (why : Refusal) → cells_refused plan.array.kind plan.count numbers ≡ Some why → p ≡ Done (Err why)
    not_given why e = is ∙ ap (λ (o : Option Refusal). unless_why o (goes plan numbers)) e

    pub given_goes : (given : Given) → given.plan ≡ plan → given.numbers.items ≡ numbers → cells_refused plan.array.kind plan.count numbers ≡ None → (placed : List Placed) → placed ≡ []
        → p ≡ write_chunks (old_chunk s (reads_of given.plan)) (with_places s (reads_of given.plan).path placed) (reads_of given.plan) given.numbers.items None (chunks_of (reads_of given.plan))
    given_goes given e f g placed none =
        is ∙ ap (λ (o : Option Refusal). unless_why o (goes plan numbers)) g ∙ sym (ap (λ (x : Plan). goes x numbers) e) ∙ sym (ap (λ (ns : List ℤ). goes given.plan ns) f)
        ∙ sym (ap (λ (l : List Placed). write_chunks (old_chunk s (reads_of given.plan)) (with_places s (reads_of given.plan).path l) (reads_of given.plan) given.numbers.items None (chunks_of (reads_of given.plan))) none)

-- what refuses numbers is no fault of the store
pub refused_calm : (kind : IntKind) (count : ℕ) (numbers : List ℤ) (why : Refusal) → cells_refused kind count numbers ≡ Some why → is_fault why ≡ false
refused_calm kind count numbers why e = by_count (length numbers == count) e
  where
    by_place : (o : Option ℕ) → option_map (λ at. Region (CellRange at)) o ≡ Some why → is_fault why ≡ false
    by_place None d = absurd cc
    by_place (Some at) d = let is : Region (CellRange at) ≡ why = cc in sym (ap is_fault is)

    by_count : (b : Bool) → cond b (option_map (λ at. Region (CellRange at)) (outside_from kind numbers 0)) (Some (Region (CellCount count (length numbers)))) ≡ Some why → is_fault why ≡ false
    by_count true d = by_place (outside_from kind numbers 0) d
    by_count false d = let is : Region (CellCount count (length numbers)) ≡ why = cc in sym (ap is_fault is)

-- where a run that was begun stands
module _ (p : Program SessionState) (run : Run) (n : Next (Unit {0})) where
  pub begun_again : n ≡ next.Again → RunLands p run (Ok n) → (p ≡ run_rest run) × IsAsk (run_rest run)
  begun_again e l = subst (λ (x : Next (Unit {0})). RunLands p run (Ok x)) e l

  pub begun_ready : (done : Unit {0}) → n ≡ next.Ready done → RunLands p run (Ok n) → p ≡ Done (Ok run.session)
  begun_ready done e l = subst (λ (x : Next (Unit {0})). RunLands p run (Ok x)) e l

pub unless_again : (n : Next (Unit {0})) (P : Type 0) → n ≡ next.Again → UnlessReady (Ok n) P → P
unless_again n P e l = subst (λ (x : Next (Unit {0})). UnlessReady (Ok x) P) e l

-- What a client owns it owns behind a write of a box.
use Rattle.std.proofs.Common.{ℕ, ℤ, List, ◌∷◌}
use Rattle.std.specs.Prelude.{None, Result, Ok, Err, IfOk}
use Rattle.ice_ids.specs.declared.drawing.AnyIds.{AnyIds}
use Rattle.object_store.specs.declared.events.Event.{Event}
use Rattle.store_api.specs.declared.machines.Refusal.{Refusal}
use Rattle.store_api.specs.declared.machines.Refusal.TheVariants.{ReadOnly}
use Rattle.store_api.specs.Callers.{Caller}
use Rattle.store_api.specs.Program.{Keeps, Leads}
use Rattle.store_api.proofs.Programs.{Leads-weaker}
use Rattle.session.specs.Sessions.{SessionState}
use Rattle.session.specs.Sources.{IsLater}
use Rattle.session.specs.Chunks.{set_program}
use Rattle.commit_path.specs.Own.{OwesOwn, Owns}
use Rattle.region_calls.specs.ChunkLaws.{OwningCallsLaw}
use Rattle.region_calls.proofs.ChunkGets.{gets-keep}
use Rattle.region_calls.proofs.OwnCalls.{got-owned}
use Rattle.region_cells.specs.Walks.{chunks_met}
use Rattle.array_region.specs.Reading.{Kept, Chunk, Reads}
use Rattle.array_region.specs.Writing.{old_chunk, bytes_put, write_chunks, region_set_program}
use Rattle.region_calls.specs.Laws.{OwningRegionLaw}
use Rattle.region_calls.proofs.Leading.{By, both_lead, gets_lead}
use Rattle.region_calls.proofs.Walking.{write_leads, write_keeps}
use Rattle.region_calls.proofs.Entering.{Later, set_later}
use Rattle.region_calls.proofs.Sets.{reads_of_box, box_cases, old_gets, kept_at_once, leads_at_once}

module _ (O : OwningCallsLaw) (by : Caller) (ids : AnyIds) (s : SessionState) (r : Reads) (numbers : List ℤ) (start : List Event) where
  record IsKnown (t : SessionState) (kept : Kept) (met : List (List ℕ)) (h : List Event) : Type 0 where
    later : IsLater ids t.ids
    owned : Owns ids by.number t start h

  abbrev IsRead : List ℕ → SessionState → List (List ℕ) → Chunk → List Event → Type 0
  IsRead index t met chunk h = IsKnown t chunk.1 (index ∷ met) h

  abbrev Nothing : Refusal → List Event → Type 0
  Nothing why h = Unit {0}

  reads : (index : List ℕ) (met : List (List ℕ)) (t : SessionState) (kept : Kept) (h : List Event) → IsKnown t kept (index ∷ met) h → Leads (By (IsRead index t met) Nothing) by (old_chunk s r index kept) h
  reads index met t kept h k =
      Leads-weaker (λ a x. Owns ids by.number t start x) (By (IsRead index t met) Nothing) known by (old_chunk s r index kept) h
      (gets_lead (λ x. Owns ids by.number t start x) by (λ key reply old new m o. got-owned by ids start t key reply old new m o) (old_chunk s r index kept) (old_gets s r index kept) h k.owned)
    where
      known : (a : Result Chunk Refusal) (x : List Event) → Owns ids by.number t start x → By (IsRead index t met) Nothing a x
      known (Ok chunk) x o = record { later = k.later; owned = o }
      known (Err why) x o = tt

  sets : (index : List ℕ) (met : List (List ℕ)) (t : SessionState) (chunk : Chunk) (h : List Event) → IsRead index t met chunk h → Leads (By (λ u x. IsKnown u chunk.1 met x) Nothing) by (set_program t r.path index (bytes_put r index numbers chunk.0)) h
  sets index met t chunk h k =
      Leads-weaker (λ a x. IfOk a (λ u. Owns ids by.number u start x) × Later by t r.path index (bytes_put r index numbers chunk.0) h ids k.later a x) (By (λ u x. IsKnown u chunk.1 met x) Nothing) known by (set_program t r.path index (bytes_put r index numbers chunk.0)) h
      (both_lead (λ a x. IfOk a (λ u. Owns ids by.number u start x)) (Later by t r.path index (bytes_put r index numbers chunk.0) h ids k.later) by (set_program t r.path index (bytes_put r index numbers chunk.0)) h
      (O.sets by ids t r.path index (bytes_put r index numbers chunk.0) start h k.later k.owned).1 (set_later by t r.path index (bytes_put r index numbers chunk.0) h ids k.later))
    where
      known : (a : Result SessionState Refusal) (x : List Event) → IfOk a (λ u. Owns ids by.number u start x) × Later by t r.path index (bytes_put r index numbers chunk.0) h ids k.later a x → By (λ u x. IsKnown u chunk.1 met x) Nothing a x
      known (Ok u) x o = record { later = o.1; owned = o.0 }
      known (Err why) x o = tt

  module _ (met : List (List ℕ)) (journal : List Event) (later : IsLater ids s.ids) (owned : Owns ids by.number s start journal) where
    begins : IsKnown s None met journal
    begins = record { later = later; owned = owned }

    pub box_owes : Keeps (λ h client op. OwesOwn ids client start op h) by (write_chunks (old_chunk s r) s r numbers None met) journal
    box_owes =
        write_keeps by s r numbers IsKnown IsRead Nothing reads sets (λ h client op. OwesOwn ids client start op h) (λ index kept h. gets-keep (λ h client op. OwesOwn ids client start op h) by (λ h key. tt) (old_chunk s r index kept) (old_gets s r index kept) h)
        (λ index met t chunk h k. (O.sets by ids t r.path index (bytes_put r index numbers chunk.0) start h k.later k.owned).0) met s None journal begins

    pub box_owns : Leads (By (λ t h. Owns ids by.number t start h) Nothing) by (write_chunks (old_chunk s r) s r numbers None met) journal
    box_owns = write_leads by s r numbers IsKnown IsRead Nothing reads sets (λ t h. Owns ids by.number t start h) (λ t kept h k. k.owned) met s None journal begins

module _ (O : OwningCallsLaw) (by : Caller) (ids : AnyIds) (s : SessionState) (path from to : List ℕ) (numbers : List ℤ) (start journal : List Event) (later : IsLater ids s.ids) (owned : Owns ids by.number s start journal) where
  abbrev Owned : Result SessionState Refusal → List Event → Type 0
  Owned answer h = IfOk answer (λ t. Owns ids by.number t start h)

  owes : Keeps (λ h client op. OwesOwn ids client start op h) by (region_set_program s path from to numbers) journal
  owes =
      box_cases s path from to numbers (λ p. Keeps (λ h client op. OwesOwn ids client start op h) by p journal) (λ w. kept_at_once (λ h client op. OwesOwn ids client start op h) by (Err ReadOnly) journal) (λ why e. kept_at_once (λ h client op. OwesOwn ids client start op h) by (Err why) journal)
      (λ id array e why c. kept_at_once (λ h client op. OwesOwn ids client start op h) by (Err why) journal) (λ id array e count c why f. kept_at_once (λ h client op. OwesOwn ids client start op h) by (Err why) journal)
      (λ w id array e count c f. box_owes O by ids s (reads_of_box path from to id array) numbers start (chunks_met array.chunks from to) journal later owned)

  told : (answer : Result SessionState Refusal) (h : List Event) → By (λ t h. Owns ids by.number t start h) (λ why h. Unit {0}) answer h → Owned answer h
  told (Ok t) h o = o
  told (Err why) h o = tt

  owns : Leads Owned by (region_set_program s path from to numbers) journal
  owns =
      box_cases s path from to numbers (λ p. Leads Owned by p journal) (λ w. leads_at_once Owned by (Err ReadOnly) journal tt) (λ why e. leads_at_once Owned by (Err why) journal tt) (λ id array e why c. leads_at_once Owned by (Err why) journal tt)
      (λ id array e count c why f. leads_at_once Owned by (Err why) journal tt)
      (λ w id array e count c f. Leads-weaker (By (λ t h. Owns ids by.number t start h) (λ why h. Unit {0})) Owned told by (write_chunks (old_chunk s (reads_of_box path from to id array)) s (reads_of_box path from to id array) numbers None (chunks_met array.chunks from to)) journal
      (box_owns O by ids s (reads_of_box path from to id array) numbers start (chunks_met array.chunks from to) journal later owned))

  pub owning_parts : Keeps (λ h client op. OwesOwn ids client start op h) by (region_set_program s path from to numbers) journal × Leads Owned by (region_set_program s path from to numbers) journal
  owning_parts = (owes, owns)

pub owning-region : OwningCallsLaw → OwningRegionLaw
owning-region O by ids s path from to numbers start journal later owned = owning_parts O by ids s path from to numbers start journal later owned

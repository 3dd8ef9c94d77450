-- Writing one chunk after another: what holds of reading and of setting each holds of all.
use Rattle.std.proofs.Common.{ℕ, ℤ, List, [], ◌∷◌}
use Rattle.std.specs.Prelude.{Result, Ok, Err}
use Rattle.object_store.specs.declared.events.Op.{Op}
use Rattle.object_store.specs.declared.events.Event.{Event}
use Rattle.store_api.specs.declared.machines.Refusal.{Refusal}
use Rattle.store_api.specs.Callers.{Caller}
use Rattle.store_api.specs.Program.{Keeps, Leads}
use Rattle.store_api.specs.Plays.{Stays}
use Rattle.store_api.specs.Running.{on_answer, ◌>>=◌}
use Rattle.store_api.proofs.Programs.{Keeps-bind, Leads-bind}
use Rattle.session.specs.Sessions.{SessionState}
use Rattle.session.specs.Chunks.{set_program}
use Rattle.array_region.specs.Reading.{Kept, Chunk, Reads}
use Rattle.array_region.specs.Writing.{old_chunk, bytes_put, write_chunks}
use Rattle.region_calls.proofs.Leading.{By, stays_bind}

-- what is known before the chunks that are left, and when the first of them was read; what each refusal tells
module _ (by : Caller) (s : SessionState) (r : Reads) (numbers : List ℤ) (Known : SessionState → Kept → List (List ℕ) → List Event → Type 0) (Read : List ℕ → SessionState → List (List ℕ) → Chunk → List Event → Type 0) (E : Refusal → List Event → Type 0) where
  abbrev pub ReadsLead : Type 0
  ReadsLead = (index : List ℕ) (met : List (List ℕ)) (t : SessionState) (kept : Kept) (h : List Event) → Known t kept (index ∷ met) h → Leads (By (Read index t met) E) by (old_chunk s r index kept) h

  abbrev pub SetsLead : Type 0
  SetsLead = (index : List ℕ) (met : List (List ℕ)) (t : SessionState) (chunk : Chunk) (h : List Event) → Read index t met chunk h → Leads (By (λ u x. Known u chunk.1 met x) E) by (set_program t r.path index (bytes_put r index numbers chunk.0)) h

  module _ (reads : ReadsLead) (sets : SetsLead) where
    pub write_leads : (F : SessionState → List Event → Type 0) → ((t : SessionState) (kept : Kept) (h : List Event) → Known t kept [] h → F t h) → (met : List (List ℕ)) (t : SessionState) (kept : Kept) (h : List Event) → Known t kept met h
        → Leads (By F E) by (write_chunks (old_chunk s r) t r numbers kept met) h
    unfolding Leads write_chunks
    write_leads F ends [] t kept h k = ends t kept h k
    write_leads F ends (index ∷ met) t kept h k =
        Leads-bind (By (Read index t met) E) (By F E) by (old_chunk s r index kept) (on_answer (λ (chunk : Chunk). set_program t r.path index (bytes_put r index numbers chunk.0) >>= λ u. write_chunks (old_chunk s r) u r numbers chunk.1 met)) h (reads index met t kept h k)
        (read (λ u kept h k. write_leads F ends met u kept h k))
      where
        set : ((u : SessionState) (kept : Kept) (h : List Event) → Known u kept met h → Leads (By F E) by (write_chunks (old_chunk s r) u r numbers kept met) h) → (chunk : Chunk) (a : Result SessionState Refusal) (x : List Event) → By (λ u x. Known u chunk.1 met x) E a x
            → Leads (By F E) by (on_answer (λ u. write_chunks (old_chunk s r) u r numbers chunk.1 met) a) x
        set go chunk (Ok u) x n = go u chunk.1 x n
        set go chunk (Err why) x n = n

        read : ((u : SessionState) (kept : Kept) (h : List Event) → Known u kept met h → Leads (By F E) by (write_chunks (old_chunk s r) u r numbers kept met) h) → (a : Result Chunk Refusal) (x : List Event) → By (Read index t met) E a x
            → Leads (By F E) by (on_answer (λ (chunk : Chunk). set_program t r.path index (bytes_put r index numbers chunk.0) >>= λ u. write_chunks (old_chunk s r) u r numbers chunk.1 met) a) x
        read go (Ok chunk) x m =
            Leads-bind (By (λ u x. Known u chunk.1 met x) E) (By F E) by (set_program t r.path index (bytes_put r index numbers chunk.0)) (on_answer (λ u. write_chunks (old_chunk s r) u r numbers chunk.1 met)) x (sets index met t chunk x m) (set go chunk)
        read go (Err why) x m = m

    pub write_keeps : (P : List Event → ℕ → Op → Type 0) → ((index : List ℕ) (kept : Kept) (h : List Event) → Keeps P by (old_chunk s r index kept) h)
        → ((index : List ℕ) (met : List (List ℕ)) (t : SessionState) (chunk : Chunk) (h : List Event) → Read index t met chunk h → Keeps P by (set_program t r.path index (bytes_put r index numbers chunk.0)) h)
        → (met : List (List ℕ)) (t : SessionState) (kept : Kept) (h : List Event) → Known t kept met h → Keeps P by (write_chunks (old_chunk s r) t r numbers kept met) h
    unfolding Keeps write_chunks
    write_keeps P gets puts [] t kept h k = tt
    write_keeps P gets puts (index ∷ met) t kept h k =
        Keeps-bind P (By (Read index t met) E) by (old_chunk s r index kept) (on_answer (λ (chunk : Chunk). set_program t r.path index (bytes_put r index numbers chunk.0) >>= λ u. write_chunks (old_chunk s r) u r numbers chunk.1 met)) h (gets index kept h) (reads index met t kept h k)
        (read (λ u kept h k. write_keeps P gets puts met u kept h k))
      where
        set : ((u : SessionState) (kept : Kept) (h : List Event) → Known u kept met h → Keeps P by (write_chunks (old_chunk s r) u r numbers kept met) h) → (chunk : Chunk) (a : Result SessionState Refusal) (x : List Event) → By (λ u x. Known u chunk.1 met x) E a x
            → Keeps P by (on_answer (λ u. write_chunks (old_chunk s r) u r numbers chunk.1 met) a) x
        set go chunk (Ok u) x n = go u chunk.1 x n
        set go chunk (Err why) x n = tt

        read : ((u : SessionState) (kept : Kept) (h : List Event) → Known u kept met h → Keeps P by (write_chunks (old_chunk s r) u r numbers kept met) h) → (a : Result Chunk Refusal) (x : List Event) → By (Read index t met) E a x
            → Keeps P by (on_answer (λ (chunk : Chunk). set_program t r.path index (bytes_put r index numbers chunk.0) >>= λ u. write_chunks (old_chunk s r) u r numbers chunk.1 met) a) x
        read go (Ok chunk) x m =
            Keeps-bind P (By (λ u x. Known u chunk.1 met x) E) by (set_program t r.path index (bytes_put r index numbers chunk.0)) (on_answer (λ u. write_chunks (old_chunk s r) u r numbers chunk.1 met)) x (puts index met t chunk x m) (sets index met t chunk x m) (set go chunk)
        read go (Err why) x m = tt

    pub write_stays : (N : List Event → Type 0) → ((index : List ℕ) (met : List (List ℕ)) (t : SessionState) (kept : Kept) (h : List Event) → Known t kept (index ∷ met) h → Stays N by (old_chunk s r index kept) h)
        → ((index : List ℕ) (met : List (List ℕ)) (t : SessionState) (chunk : Chunk) (h : List Event) → Read index t met chunk h → Stays N by (set_program t r.path index (bytes_put r index numbers chunk.0)) h)
        → (met : List (List ℕ)) (t : SessionState) (kept : Kept) (h : List Event) → Known t kept met h → Stays N by (write_chunks (old_chunk s r) t r numbers kept met) h
    unfolding Stays write_chunks
    write_stays N gets puts [] t kept h k = tt
    write_stays N gets puts (index ∷ met) t kept h k =
        stays_bind N (By (Read index t met) E) by (old_chunk s r index kept) (on_answer (λ (chunk : Chunk). set_program t r.path index (bytes_put r index numbers chunk.0) >>= λ u. write_chunks (old_chunk s r) u r numbers chunk.1 met)) h (gets index met t kept h k) (reads index met t kept h k)
        (read (λ u kept h k. write_stays N gets puts met u kept h k))
      where
        set : ((u : SessionState) (kept : Kept) (h : List Event) → Known u kept met h → Stays N by (write_chunks (old_chunk s r) u r numbers kept met) h) → (chunk : Chunk) (a : Result SessionState Refusal) (x : List Event) → By (λ u x. Known u chunk.1 met x) E a x
            → Stays N by (on_answer (λ u. write_chunks (old_chunk s r) u r numbers chunk.1 met) a) x
        set go chunk (Ok u) x n = go u chunk.1 x n
        set go chunk (Err why) x n = tt

        read : ((u : SessionState) (kept : Kept) (h : List Event) → Known u kept met h → Stays N by (write_chunks (old_chunk s r) u r numbers kept met) h) → (a : Result Chunk Refusal) (x : List Event) → By (Read index t met) E a x
            → Stays N by (on_answer (λ (chunk : Chunk). set_program t r.path index (bytes_put r index numbers chunk.0) >>= λ u. write_chunks (old_chunk s r) u r numbers chunk.1 met) a) x
        read go (Ok chunk) x m =
            stays_bind N (By (λ u x. Known u chunk.1 met x) E) by (set_program t r.path index (bytes_put r index numbers chunk.0)) (on_answer (λ u. write_chunks (old_chunk s r) u r numbers chunk.1 met)) x (puts index met t chunk x m) (sets index met t chunk x m) (set go chunk)
        read go (Err why) x m = tt

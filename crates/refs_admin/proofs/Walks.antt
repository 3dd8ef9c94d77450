-- Steps of a log.
use Rattle.std.proofs.Common.{◌≡◌, ℕ, zero, suc, ◌<◌, ◌-◌, List, [], ◌∷◌, ◌++◌, false, true, Option, Some, None, Result, Ok, Err, IfErr, refl, sym, ap, ◌∙◌, subst, arith}
use Rattle.std.specs.Prelude.{map}
use Rattle.std.proofs.Math.Path.{fun_ext}
use Rattle.ice_ids.specs.declared.Id12.{Id12}
use Rattle.snapshot_file.specs.declared.snapshot.SnapshotFile.{SnapshotFile}
use Rattle.object_store.specs.declared.keys.Key.TheVariants.{Snapshot}
use Rattle.object_store.specs.declared.events.Event.{Event}
use Rattle.object_store.specs.declared.events.Op.TheVariants.{Get}
use Rattle.object_store.specs.declared.events.Reply.{Reply}
use Rattle.object_store.specs.declared.events.Reply.TheVariants.{Got, New, Over, Gone, GoneAt, Listed, Failed}
use Rattle.store_api.specs.declared.machines.Next.{Next}
use Rattle.store_api.specs.declared.machines.Next.TheVariants.{Again, Ready}
use Rattle.store_api.specs.declared.machines.Refusal.{Refusal}
use Rattle.store_api.specs.declared.machines.Refusal.TheVariants as R
use Rattle.store_api.specs.Program.{Done, Ask, bind, IsAsk, IsDone, NextIsPolite, Lands, is_fault, is_no_memory, is_told_surely, IsSure}
use Rattle.store_api.specs.Running.{Program, on_answer, ◌>>=◌}
use Rattle.store_api.specs.Driving.{Asks, Awaits, Took, Heard}
use Rattle.repo_read.specs.Answers.{snapshot_told, Answers, AnswersOutright}
use Rattle.repo_read.proofs.Told.{snapshot-refused, snapshot-went}
use Rattle.repo_read.specs.Chains.{walk, chain_program, most_snapshots}
use Rattle.std.proofs.lemmas.List.{map-append}
use Rattle.repo_read.specs.declared.resolving.At.{At}
use Rattle.repo_read.specs.declared.resolving.Named.{Named}
use Rattle.repo_read.specs.declared.resolving.Resolving.TheVariants as Get_of
use Rattle.refs_admin.specs.declared.log.Walk.{Walk}
use Rattle.refs_admin.specs.declared.log.Logging.{Logging}
use Rattle.refs_admin.specs.declared.log.Logging.TheVariants as L
use Rattle.refs_admin.specs.declared.log.LogLine.{LogLine}
use Rattle.repo_read.specs.Resolving.{resolve_at_program}
use Rattle.repo_read.specs.Resolving.{no_ref}
use Rattle.refs_admin.specs.LogReading.{line_of, told_lines, refused_now, refused_first, chain_log_program}
use Rattle.repo_read.specs.Seeking.{resolution_at}
use Rattle.refs_admin.specs.inside.Working.{log_walk, walk_behind, walk_rest, logging_rest, logging_left, first_rest}

-- ---- a walk
-- the next snapshot is got
pub walk-asks : (left : ℕ) (lines : List LogLine) (id : Id12) → IsAsk (log_walk left lines id) → Asks (log_walk left lines id) (Get (Snapshot id))
unfolding log_walk
walk-asks zero lines id i = absurd i
walk-asks (suc left) lines id i = refl

-- while there is one to get, one may be
pub walk-left : (left : ℕ) (lines : List LogLine) (id : Id12) → IsAsk (log_walk left lines id) → 0 < left
unfolding log_walk
walk-left zero lines id i = absurd i
walk-left (suc left) lines id i = omega arith

pub walk-is-ask : (left : ℕ) (lines : List LogLine) (id : Id12) → 0 < left → IsAsk (log_walk left lines id)
unfolding log_walk
walk-is-ask zero lines id l = absurd (omega arith)
walk-is-ask (suc left) lines id l = tt

pub walk-polite : (left : ℕ) (lines : List LogLine) (id : Id12) (journal : List Event) → NextIsPolite (log_walk left lines id) journal
unfolding log_walk
walk-polite zero lines id journal = tt
walk-polite (suc left) lines id journal = tt

pub walk-awaits : (left : ℕ) (lines : List LogLine) (id : Id12) (reply : Reply) → Awaits (log_walk left lines id) reply → 0 < left
unfolding log_walk
walk-awaits zero lines id reply a = absurd a
walk-awaits (suc left) lines id reply a = omega arith

-- a refused reading refuses the walk
pub walk-refused : (left : ℕ) (lines : List LogLine) (id : Id12) (reply : Reply) (why : Refusal) → Awaits (log_walk left lines id) reply → Answers {A = SnapshotFile} (snapshot_told id reply) (Err why)
    → AnswersOutright {A = SnapshotFile} reply (snapshot_told id reply) (Err why) → (q : Program (List LogLine)) → IsDone q → Took (log_walk left lines id) reply q (Err why)
unfolding log_walk
walk-refused zero lines id reply why a t o q d = absurd a
walk-refused (suc left) lines id reply why a t o q d = snapshot-refused id reply (λ s. walk_behind left (lines ++ line_of s ∷ []) s.parent) a why t o q d

-- the walk goes on with the parent of what was read
pub walk-went : (left : ℕ) (lines : List LogLine) (id : Id12) (reply : Reply) (s : SnapshotFile) → Awaits (log_walk left lines id) reply → Answers (snapshot_told id reply) (Ok s)
    → (q : Program (List LogLine)) (result : Result (Next (List LogLine)) Refusal) → Lands (walk_behind (left - 1) (lines ++ line_of s ∷ []) s.parent) q result → IfErr result (λ refusal. is_fault refusal ≡ false) → Took (log_walk left lines id) reply q result
unfolding log_walk
walk-went zero lines id reply s a t q result l f = absurd a
walk-went (suc left) lines id reply s a t q result l f =
    let here = subst (λ (n : ℕ). Lands (walk_behind n (lines ++ line_of s ∷ []) s.parent) q result) (omega arith) l in
    snapshot-went id reply (λ s. walk_behind left (lines ++ line_of s ∷ []) s.parent) a s t q result here f

-- no further snapshot may be read
pub walk-deep : (left : ℕ) (lines : List LogLine) (id : Id12) → left ≡ 0 → log_walk left lines id ≡ Done (Err R.TooDeep)
unfolding log_walk
walk-deep zero lines id z = refl
walk-deep (suc left) lines id z = absurd (cc)

-- a further one is read next
pub walk-next : (left : ℕ) (lines : List LogLine) (id : Id12) → (left ≡ 0 → ⊥) → IsAsk (log_walk left lines id)
unfolding log_walk
walk-next zero lines id n = absurd (n refl)
walk-next (suc left) lines id n = tt

-- ---- the head
first-of : {A : Type 0} (f : Refusal → Refusal) (p : Program A) → IsAsk (refused_first f p) → IsAsk p
first-of f (Done r) i = absurd i
first-of f (Ask op k) i = tt

pub head-asks : (left : ℕ) (lines : List LogLine) (id : Id12) → IsAsk (refused_first no_ref (log_walk left lines id)) → Asks (refused_first no_ref (log_walk left lines id)) (Get (Snapshot id))
unfolding log_walk
head-asks zero lines id i = absurd i
head-asks (suc left) lines id i = refl

pub head-left : (left : ℕ) (lines : List LogLine) (id : Id12) → IsAsk (refused_first no_ref (log_walk left lines id)) → 0 < left
head-left left lines id i = walk-left left lines id (first-of no_ref (log_walk left lines id) i)

pub head-polite : (left : ℕ) (lines : List LogLine) (id : Id12) (journal : List Event) → NextIsPolite (refused_first no_ref (log_walk left lines id)) journal
unfolding log_walk
head-polite zero lines id journal = tt
head-polite (suc left) lines id journal = tt

pub head-awaits : {A : Type 0} (f : Refusal → Refusal) (p : Program A) (reply : Reply) → Awaits (refused_first f p) reply → Awaits p reply
head-awaits f (Done r) reply a = absurd a
head-awaits f (Ask op k) reply a = a

heard-map : (P Q : Reply → Type 0) → ((r : Reply) → P r → Q r) → (reply : Reply) → Heard P reply → Heard Q reply
heard-map P Q f (Failed done) h = λ d. f (Failed d) (h d)
heard-map P Q f (Got x) h = f (Got x) h
heard-map P Q f (New x) h = f (New x) h
heard-map P Q f (Over x) h = f (Over x) h
heard-map P Q f (Gone x) h = f (Gone x) h
heard-map P Q f (GoneAt x) h = f (GoneAt x) h
heard-map P Q f (Listed x) h = f (Listed x) h

now-ask : {A : Type 0} (f : Refusal → Refusal) (p : Program A) → IsAsk p → refused_now f p ≡ p
now-ask f (Done r) i = absurd i
now-ask f (Ask op k) i = refl

module _ {T : Type 0} (f : Refusal → Refusal) where
  lands-ok : (p q : Program T) (next : Next T) → Lands p q (Ok next) → Lands (refused_now f p) q (Ok next)
  lands-ok p q Again l = (ap (refused_now f) l.0 ∙ now-ask f q l.1, l.1)
  lands-ok p q (Ready t) l = (ap (refused_now f) l.0, l.1)

  pub first-ok : (p q : Program T) (reply : Reply) (next : Next T) → Took p reply q (Ok next) → Took (refused_first f p) reply q (Ok next)
  first-ok (Done r) q reply next t = absurd t
  first-ok (Ask op k) q reply next t = (
    heard-map (λ r. Lands (k r) q (Ok next) × (is_told_surely op r ≡ true → IsSure (k r) (Ok next))) (λ r. Lands (refused_now f (k r)) q (Ok next) × (is_told_surely op r ≡ true → IsSure (refused_now f (k r)) (Ok next)))
        (λ r l. (lands-ok (k r) q next l.0, λ e. tt)) reply t.0,
    t.1,
  )

  pub first-err : (p q : Program T) (reply : Reply) (why : Refusal) → is_no_memory (f why) ≡ is_no_memory why → is_fault (f why) ≡ is_fault why → Took p reply q (Err why) → Took (refused_first f p) reply q (Err (f why))
  first-err (Done r) q reply why n g t = absurd t
  first-err (Ask op k) q reply why n g t = (
    heard-map (λ r. Lands (k r) q (Err why) × (is_told_surely op r ≡ true → IsSure (k r) (Err why))) (λ r. Lands (refused_now f (k r)) q (Err (f why)) × (is_told_surely op r ≡ true → IsSure (refused_now f (k r)) (Err (f why))))
        (λ r l. ((l.0.0, λ e. ap (refused_now f) (l.0.1 (sym n ∙ e))), λ e. ap (refused_now f) (l.1 e))) reply t.0,
    λ e. g ∙ t.1 e,
  )

no_ref-memory : (why : Refusal) → is_no_memory (no_ref why) ≡ is_no_memory why
no_ref-memory (R.Missing key) = refl
no_ref-memory _ = refl

no_ref-fault : (why : Refusal) → is_fault (no_ref why) ≡ is_fault why
no_ref-fault (R.Missing key) = refl
no_ref-fault _ = refl

pub head-refused : {T : Type 0} (p q : Program T) (reply : Reply) (why : Refusal) → Took p reply q (Err why) → Took (refused_first no_ref p) reply q (Err (no_ref why))
head-refused p q reply why t = first-err no_ref p q reply why (no_ref-memory why) (no_ref-fault why) t

-- ---- states of the machine
pub state-head : (state : Logging) (walk : Walk) → state ≡ L.Head walk → IsAsk (logging_rest state) → Asks (logging_rest state) (Get (Snapshot walk.next))
state-head (L.Head own) walk e i = let same : own ≡ walk = cc in subst (λ (w : Walk). Asks (refused_first no_ref (walk_rest own)) (Get (Snapshot w.next))) same (head-asks own.left own.lines own.next i)
state-head (L.Chain own) walk e i = absurd (cc)
state-head (L.Resolving own) walk e i = absurd (cc)
state-head L.Ended walk e i = absurd (cc)

pub state-chain : (state : Logging) (walk : Walk) → state ≡ L.Chain walk → IsAsk (logging_rest state) → Asks (logging_rest state) (Get (Snapshot walk.next))
state-chain (L.Chain own) walk e i = let same : own ≡ walk = cc in subst (λ (w : Walk). Asks (walk_rest own) (Get (Snapshot w.next))) same (walk-asks own.left own.lines own.next i)
state-chain (L.Head own) walk e i = absurd (cc)
state-chain (L.Resolving own) walk e i = absurd (cc)
state-chain L.Ended walk e i = absurd (cc)

pub state-left : (state : Logging) → IsAsk (logging_rest state) → 0 < logging_left state
state-left (L.Resolving own) i = omega arith
state-left (L.Head own) i = head-left own.left own.lines own.next i
state-left (L.Chain own) i = walk-left own.left own.lines own.next i
state-left L.Ended i = absurd i

pub state-polite : (state : Logging) (journal : List Event) → NextIsPolite (logging_rest state) journal
state-polite (L.Resolving (Get_of.Branch name)) journal = tt
state-polite (L.Resolving (Get_of.Tag name)) journal = tt
state-polite (L.Resolving (Get_of.Tombstone name id)) journal = tt
state-polite (L.Head own) journal = head-polite own.left own.lines own.next journal
state-polite (L.Chain own) journal = walk-polite own.left own.lines own.next journal
state-polite L.Ended journal = tt

pub state-over : (state : Logging) → state ≡ L.Ended → IsDone (logging_rest state)
state-over L.Ended e = tt
state-over (L.Resolving own) e = absurd (cc)
state-over (L.Head own) e = absurd (cc)
state-over (L.Chain own) e = absurd (cc)

pub state-falls : (state : Logging) (walk : Walk) (reply : Reply) → state ≡ L.Ended → Awaits (walk_rest walk) reply → logging_left state < walk.left
state-falls L.Ended walk reply e a = walk-awaits walk.left walk.lines walk.next reply a
state-falls (L.Resolving own) walk reply e a = absurd (cc)
state-falls (L.Head own) walk reply e a = absurd (cc)
state-falls (L.Chain own) walk reply e a = absurd (cc)

-- ---- the lines are those of the chain
behind-lines : (left : ℕ) (seen : List SnapshotFile) (s : SnapshotFile) → ((id : Id12) → log_walk left (map line_of (seen ++ s ∷ [])) id ≡ bind (walk left (seen ++ s ∷ []) id) (on_answer told_lines))
    → (parent : Option Id12) → walk_behind left (map line_of seen ++ line_of s ∷ []) parent ≡ bind (elim parent [ Some id ↦ walk left (seen ++ s ∷ []) id | None ↦ Done (Ok (seen ++ s ∷ [])) ]) (on_answer told_lines)
behind-lines left seen s here (Some id) = ap (λ (lines : List LogLine). log_walk left lines id) (sym (map-append line_of seen (s ∷ []))) ∙ here id
behind-lines left seen s here None = ap (λ (lines : List LogLine). Done (Ok lines)) (sym (map-append line_of seen (s ∷ [])))

read-lines : (left : ℕ) (seen : List SnapshotFile) → ((s : SnapshotFile) (parent : Option Id12) → walk_behind left (map line_of seen ++ line_of s ∷ []) parent ≡ bind (elim parent [ Some id ↦ walk left (seen ++ s ∷ []) id | None ↦ Done (Ok (seen ++ s ∷ [])) ]) (on_answer told_lines))
    → (r : Result SnapshotFile Refusal) → on_answer (λ (s : SnapshotFile). walk_behind left (map line_of seen ++ line_of s ∷ []) s.parent) r
    ≡ bind (on_answer (λ (s : SnapshotFile). elim s.parent [ Some id ↦ walk left (seen ++ s ∷ []) id | None ↦ Done (Ok (seen ++ s ∷ [])) ]) r) (on_answer told_lines)
read-lines left seen here (Ok s) = here s s.parent
read-lines left seen here (Err why) = refl

pub walk-lines : (left : ℕ) (seen : List SnapshotFile) (id : Id12) → log_walk left (map line_of seen) id ≡ bind (walk left seen id) (on_answer told_lines)
unfolding log_walk walk
walk-lines zero seen id = refl
walk-lines (suc left) seen id =
    ap (λ (k : Reply → Program (List LogLine)). Ask (Get (Snapshot id)) k)
    (fun_ext (λ reply. read-lines left seen (λ s parent. behind-lines left seen s (λ next. walk-lines left (seen ++ s ∷ []) next) parent) (snapshot_told id reply)))

now-bind : {A B : Type 0} (f : Refusal → Refusal) (h : A → B) (p : Program A) → refused_now f (bind p (on_answer (λ a. Done (Ok (h a))))) ≡ bind (refused_now f p) (on_answer (λ a. Done (Ok (h a))))
now-bind f h (Done (Ok a)) = refl
now-bind f h (Done (Err why)) = refl
now-bind f h (Ask op k) = refl

first-bind : {A B : Type 0} (f : Refusal → Refusal) (h : A → B) (p : Program A) → refused_first f (bind p (on_answer (λ a. Done (Ok (h a))))) ≡ bind (refused_first f p) (on_answer (λ a. Done (Ok (h a))))
first-bind f h (Done (Ok a)) = refl
first-bind f h (Done (Err why)) = refl
first-bind f h (Ask op k) = ap (λ (g : Reply → Program _). Ask op g) (fun_ext (λ reply. now-bind f h (k reply)))

named-lines : (at : At) → (resolve_at_program at >>= λ named. log_walk most_snapshots [] named.id) ≡ (resolve_at_program at >>= λ named. chain_program named.id >>= told_lines)
named-lines at = ap (λ (g : Named → Program (List LogLine)). resolve_at_program at >>= g) (fun_ext (λ named. walk-lines most_snapshots [] named.id))

pub log-begins : (at : At) → first_rest (resolution_at at) ≡ chain_log_program at
log-begins (At.Branch name) = named-lines (At.Branch name)
log-begins (At.Tag name) = named-lines (At.Tag name)
log-begins (At.Snapshot id) = ap (refused_first no_ref) (walk-lines most_snapshots [] id) ∙ first-bind no_ref (map line_of) (chain_program id)

-- ---- a log begins with a get
first-is-ask : {A : Type 0} (f : Refusal → Refusal) (p : Program A) → IsAsk p → IsAsk (refused_first f p)
first-is-ask f (Done r) i = absurd i
first-is-ask f (Ask op k) i = tt

asks-at : (at : At) → IsAsk (first_rest (resolution_at at))
asks-at (At.Branch name) = tt
asks-at (At.Tag name) = tt
asks-at (At.Snapshot id) = first-is-ask no_ref (log_walk most_snapshots [] id) (walk-is-ask most_snapshots [] id (omega arith))

pub log-asks : (at : At) → IsAsk (chain_log_program at)
log-asks at = subst (λ (p : Program (List LogLine)). IsAsk p) (log-begins at) (asks-at at)

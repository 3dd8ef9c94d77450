-- Steps of a walk along parents.
use Rattle.std.proofs.Common.{◌≡◌, ℕ, zero, suc, ◌<◌, ◌-◌, List, [], ◌∷◌, ◌++◌, false, Option, Some, None, Result, Ok, Err, IfErr, refl, sym, ap, ◌∙◌, subst, arith}
use Rattle.ice_ids.specs.declared.Id12.{Id12}
use Rattle.snapshot_file.specs.declared.snapshot.SnapshotFile.{SnapshotFile}
use Rattle.object_store.specs.declared.keys.Key.TheVariants.{Snapshot}
use Rattle.object_store.specs.declared.events.Event.{Event}
use Rattle.object_store.specs.declared.events.Op.TheVariants.{Get}
use Rattle.object_store.specs.declared.events.Reply.{Reply}
use Rattle.store_api.specs.declared.machines.Next.{Next}
use Rattle.store_api.specs.declared.machines.Refusal.{Refusal}
use Rattle.store_api.specs.declared.machines.Refusal.TheVariants.{TooDeep}
use Rattle.store_api.specs.Program.{Prog, Done, Ask, IsAsk, IsDone, NextIsPolite, Lands, is_fault}
use Rattle.store_api.specs.Running.{Program}
use Rattle.store_api.specs.Driving.{Asks, Awaits, Took}
use Rattle.repo_read.specs.Answers.{snapshot_told, Answers, AnswersOutright}
use Rattle.repo_read.specs.Chains.{walk}
use Rattle.repo_read.proofs.Told.{snapshot-refused, snapshot-went}
use Rattle.repo_read.specs.inside.Working.{walk_rest, walk_left, walk_behind}

-- the next snapshot is got
pub walk-asks : (left : ℕ) (seen : List SnapshotFile) (next : Option Id12) (id : Id12) → next ≡ Some id → IsAsk (walk_rest left seen next) → Asks (walk_rest left seen next) (Get (Snapshot id))
unfolding walk
walk-asks left seen None id e i = absurd i
walk-asks zero seen (Some next) id e i = absurd i
walk-asks (suc left) seen (Some next) id e i = cc

-- while there is a snapshot to get, one may be
pub walk-left : (left : ℕ) (seen : List SnapshotFile) (next : Option Id12) → IsAsk (walk_rest left seen next) → 0 < walk_left left next
unfolding walk
walk-left left seen None i = absurd i
walk-left zero seen (Some next) i = absurd i
walk-left (suc left) seen (Some next) i = omega arith

-- it is polite
pub walk-polite : (left : ℕ) (seen : List SnapshotFile) (next : Option Id12) (journal : List Event) → NextIsPolite (walk_rest left seen next) journal
unfolding walk
walk-polite left seen None journal = tt
walk-polite zero seen (Some next) journal = tt
walk-polite (suc left) seen (Some next) journal = tt

-- a walk that ended has nothing to do, and fewer steps left
pub walk-over : (left : ℕ) (seen : List SnapshotFile) (next : Option Id12) → next ≡ None → IsDone (walk_rest left seen next)
walk-over left seen None e = tt
walk-over left seen (Some id) e = absurd (cc)

asked : {A : Type 0} (p : Prog A) (reply : Reply) → Awaits p reply → IsAsk p
asked (Done a) reply w = w
asked (Ask op k) reply w = tt

pub walk-falls : (left : ℕ) (seen : List SnapshotFile) (next gone : Option Id12) (reply : Reply) → gone ≡ None → Awaits (walk_rest left seen next) reply → walk_left left gone < walk_left left next
walk-falls left seen next None reply e w = walk-left left seen next (asked (walk_rest left seen next) reply w)
walk-falls left seen next (Some id) reply e w = absurd (cc)

-- the number of snapshots that may still be read, where one is read
pub walk-more : (left : ℕ) (seen : List SnapshotFile) (next : Option Id12) (id : Id12) (reply : Reply) → next ≡ Some id → Awaits (walk_rest left seen next) reply → (0 < left) × (walk_left left next ≡ left)
walk-more left seen None id reply e w = absurd (cc)
walk-more left seen (Some own) id reply e w = (walk-left left seen (Some own) (asked (walk left seen own) reply w), refl)

-- a refused reading refuses the walk
pub walk-refused : (left : ℕ) (seen : List SnapshotFile) (next : Option Id12) (id : Id12) (reply : Reply) (why : Refusal) → next ≡ Some id → Awaits (walk_rest left seen next) reply → Answers {A = SnapshotFile} (snapshot_told id reply) (Err why)
    → AnswersOutright {A = SnapshotFile} reply (snapshot_told id reply) (Err why) → (q : Program (List SnapshotFile)) → IsDone q → Took (walk_rest left seen next) reply q (Err why)
unfolding walk
walk-refused left seen None id reply why e a t o q d = absurd a
walk-refused zero seen (Some next) id reply why e a t o q d = absurd a
walk-refused (suc left) seen (Some next) id reply why e a t o q d =
    let same : next ≡ id = cc in
    let told = subst (λ (n : Id12). Answers {A = SnapshotFile} (snapshot_told n reply) (Err why)) (sym same) t in
    let outright = subst (λ (n : Id12). AnswersOutright {A = SnapshotFile} reply (snapshot_told n reply) (Err why)) (sym same) o in
    snapshot-refused next reply (λ s. walk_behind left (seen ++ s ∷ []) s.parent) a why told outright q d

-- the walk goes on with the parent of what was read
pub walk-went : (left : ℕ) (seen : List SnapshotFile) (next : Option Id12) (id : Id12) (reply : Reply) (s : SnapshotFile) → next ≡ Some id → Awaits (walk_rest left seen next) reply → Answers (snapshot_told id reply) (Ok s)
    → (q : Program (List SnapshotFile)) (result : Result (Next (List SnapshotFile)) Refusal) → Lands (walk_behind (left - 1) (seen ++ s ∷ []) s.parent) q result → IfErr result (λ refusal. is_fault refusal ≡ false) → Took (walk_rest left seen next) reply q result
unfolding walk
walk-went left seen None id reply s e a t q result l f = absurd a
walk-went zero seen (Some next) id reply s e a t q result l f = absurd a
walk-went (suc left) seen (Some next) id reply s e a t q result l f =
    let same : next ≡ id = cc in
    let told = subst (λ (n : Id12). snapshot_told n reply ≡ Ok s) (sym same) t in
    let here = subst (λ (n : ℕ). Lands (walk_behind n (seen ++ s ∷ []) s.parent) q result) (omega arith) l in
    snapshot-went next reply (λ s. walk_behind left (seen ++ s ∷ []) s.parent) a s told q result here f

-- no further snapshot may be read, but there is one
pub walk-deep : (left : ℕ) (seen : List SnapshotFile) (parent : Option Id12) (id : Id12) → left ≡ 0 → parent ≡ Some id → walk_behind left seen parent ≡ Done (Err TooDeep)
unfolding walk
walk-deep left seen None id z e = absurd (cc)
walk-deep zero seen (Some own) id z e = refl
walk-deep (suc left) seen (Some own) id z e = absurd (cc)

-- the parent is read next
pub walk-next : (left : ℕ) (seen new : List SnapshotFile) (parent : Option Id12) (id : Id12) → (left ≡ 0 → ⊥) → parent ≡ Some id → new ≡ seen → (walk_behind left seen parent ≡ walk left new id) × IsAsk (walk left new id)
unfolding walk
walk-next left seen new None id z e n = absurd (cc)
walk-next zero seen new (Some own) id z e n = absurd (z refl)
walk-next (suc left) seen new (Some own) id z e n =
    let o : own ≡ id = cc in
    (ap (λ (i : Id12). walk (suc left) seen i) o ∙ ap (λ (s : List SnapshotFile). walk (suc left) s id) (sym n), tt)

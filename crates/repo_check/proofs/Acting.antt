-- A step of a check.
use Rattle.std.proofs.Common.{◌≡◌, ◌⊎◌, inl, inr, ℕ, ◌<◌, Bool, true, false, List, [], ◌∷◌, length, refl, sym, ◌∙◌, ap, subst, arith, Result, Ok, Err, IfOk}
use Rattle.std.specs.Prelude.{IsTrue, not}
use Rattle.object_store.specs.declared.events.Op.{Op}
use Rattle.object_store.specs.declared.events.Reply.{Reply}
use Rattle.object_store.specs.declared.events.Reply.TheVariants.{Got as Is_got, New as Is_new, Over as Is_over, Gone as Is_gone, GoneAt as Is_gone_at, Listed as Is_listed, Failed as Reply_failed}
use Rattle.object_store.specs.declared.events.StoreFault.{StoreFault}
use Rattle.object_store.specs.declared.events.StoreFault.TheVariants.{Failed, NoMemory as No_room}
use Rattle.object_store.specs.declared.keys.Key.{Key}
use Rattle.object_store.specs.declared.keys.Key.TheVariants.{Snapshot, Manifest, Txn, Chunk}
use Rattle.object_store.specs.declared.keys.Part.{Part}
use Rattle.object_store.specs.declared.keys.Part.TheVariants.{Branches, Tags}
use Rattle.object_store.specs.declared.events.Op.TheVariants.{Get, List as ListPart}
use Rattle.store_api.specs.declared.machines.Refusal.{Refusal}
use Rattle.store_api.specs.declared.machines.Refusal.TheVariants.{NoMemory, StoreFault as Refused_fault}
use Rattle.check_reports.specs.declared.faults.Checked.{Checked}
use Rattle.store_api.specs.Journal.{IsPolite}
use Rattle.store_api.specs.Callers.{View, Called, Fits, has_failed}
use Rattle.store_api.specs.Program.{moves_branch, is_told_surely}
use Rattle.store_api.specs.Plays.{Play, Ended, Ask, Or, behind, Comes, Acts, IsLive, dooms}
use Rattle.store_api.proofs.Programs.{made-done, told-failed, Waits-none}
use Rattle.repo_check.specs.declared.standing.CheckReport.{CheckReport}
use Rattle.repo_check.specs.declared.standing.Checking.{Checking}
use Rattle.repo_check.specs.declared.standing.Checking.TheVariants as state
use Rattle.repo_check.specs.declared.course.Course.{Course}
use Rattle.check_reports.specs.declared.faults.CheckFault.{CheckFault}
use Rattle.repo_check.specs.Works.{Work, verdict, verdict_by}
use Rattle.repo_check.specs.Plays.{Answer, refused_by_fault, tells_failure, ends_with, starved, asks}
use Rattle.repo_check.specs.inside.Working.{checking_op, checking_rest, heard_in, answered_rest, is_live, is_calm, asks_get, asks_list, is_answer, checking_left}

-- no fault of the store is bound to be told
abbrev pub Calm : Answer → Type 0
Calm q = dooms tells_failure q ≡ true → ⊥

not_true : (b : Bool) → not b ≡ true → b ≡ true → ⊥
not_true true e f = cc
not_true false e f = cc

false_true : false ≡ true → ⊥
false_true e = cc

pub calm-rest : (s : Checking) (c : Course) → is_calm s ≡ true → Calm (checking_rest s c)
calm-rest state.Branches c e d = false_true d
calm-rest (state.Branch key) c e d = false_true d
calm-rest state.Tags c e d = false_true d
calm-rest (state.Tag key) c e d = false_true d
calm-rest (state.Snapshot id) c e d = false_true d
calm-rest (state.Log id place) c e d = false_true d
calm-rest (state.File f place) c e d = false_true d
calm-rest (state.Part p parts place) c e d = false_true d
calm-rest (state.Ended result) c e d = not_true (refused_by_fault result) e d

live-rest : (s : Checking) (c : Course) → is_live s ≡ true → checking_rest s c ≡ asks (checking_op s) c.work (heard_in s c)
live-rest state.Branches c e = refl
live-rest (state.Branch key) c e = refl
live-rest state.Tags c e = refl
live-rest (state.Tag key) c e = refl
live-rest (state.Snapshot id) c e = refl
live-rest (state.Log id place) c e = refl
live-rest (state.File f place) c e = refl
live-rest (state.Part p parts place) c e = refl
live-rest (state.Ended result) c e = absurd (false_true e)

fails-so : (s : Checking) (c : Course) (done : Bool) → is_live s ≡ true → heard_in s c (Reply_failed done) ≡ ends_with c.work (Err Refused_fault)
fails-so state.Branches c done e = refl
fails-so (state.Branch key) c done e = refl
fails-so state.Tags c done e = refl
fails-so (state.Tag key) c done e = refl
fails-so (state.Snapshot id) c done e = refl
fails-so (state.Log id place) c done e = refl
fails-so (state.File f place) c done e = refl
fails-so (state.Part p parts place) c done e = refl
fails-so (state.Ended result) c done e = absurd (false_true e)

-- each operation reads
pub polite-op : (s : Checking) (v : View) → IsTrue v.caller.tells → IsPolite v.seen (checking_op s)
polite-op state.Branches v t = tt
polite-op (state.Branch key) v t = tt
polite-op state.Tags v t = tt
polite-op (state.Tag key) v t = tt
polite-op (state.Snapshot id) v t = tt
polite-op (state.Log id place) v t = tt
polite-op (state.File f place) v t = tt
polite-op (state.Part p parts place) v t = tt
polite-op (state.Ended result) v t = tt

reads-op : (s : Checking) → moves_branch (checking_op s) ≡ false
reads-op state.Branches = refl
reads-op (state.Branch key) = refl
reads-op state.Tags = refl
reads-op (state.Tag key) = refl
reads-op (state.Snapshot id) = refl
reads-op (state.Log id place) = refl
reads-op (state.File f place) = refl
reads-op (state.Part p parts place) = refl
reads-op (state.Ended result) = refl

-- where it comes behind an answer, and behind a failure
behind-answer : (s : Checking) (reply : Reply) (p r q : Answer) → has_failed reply ≡ false → Comes (Or p r) q → Comes (behind (checking_op s) reply p r) q
behind-answer s reply p r q f c = let free : is_told_surely (checking_op s) reply ≡ false = told-failed (checking_op s) reply (reads-op s) ∙ f in rw free c

behind-failure : (s : Checking) (done : Bool) (p r q : Answer) → Comes p q → Comes (behind (checking_op s) (Reply_failed done) p r) q
behind-failure s done p r q c = let surely : is_told_surely (checking_op s) (Reply_failed done) ≡ true = told-failed (checking_op s) (Reply_failed done) (reads-op s) in rw surely c

pub checked-acts : (s : Checking) (c : Course) (q : Answer) (old new : View) → is_live s ≡ true → (answer : Result Reply StoreFault) → Called (λ reply. reply) (checking_op s) answer old new → IfOk answer (Fits (checking_op s)) → IfOk answer (λ reply. has_failed reply ≡ false) → Comes (answered_rest s c answer) q → (IfOk answer (λ reply. Calm q))
    → Acts tells_failure old new (checking_rest s c) q
checked-acts s c q old new live (Ok reply) called fits answered comes calm = record {
  same = called.same;
  blames = (called.counted, λ doomed. absurd (calm doomed));
  went = inl (record {
    op = checking_op s;
    starved = starved c.work;
    next = λ r. behind (checking_op s) r (heard_in s c r) (starved c.work);
    reply = reply;
    asks = live-rest s c live;
    fits = fits;
    made = called.did;
    comes = behind-answer s reply (heard_in s c reply) (starved c.work) q answered comes;
  });
}
checked-acts s c q old new live (Err Failed) called fits answered comes calm =
    let made = made-done (λ (reply : Reply). reply) old.caller (checking_op s) old.seen new.seen old.caller.tells called.did in
    record {
      same = called.same;
      blames = (called.counted.0, λ doomed. inr called.counted);
      went = inl (record {
        op = checking_op s;
        starved = starved c.work;
        next = λ r. behind (checking_op s) r (heard_in s c r) (starved c.work);
        reply = Reply_failed made.0;
        asks = live-rest s c live;
        fits = fits-failed s made.0;
        made = made.1;
        comes = behind-failure s made.0 (heard_in s c (Reply_failed made.0)) (starved c.work) q (subst (λ (p : Answer). Comes p q) (sym (fails-so s c made.0 live)) comes);
      });
    }
  where
    fits-failed : (s : Checking) (done : Bool) → Fits (checking_op s) (Reply_failed done)
    fits-failed state.Branches done = tt
    fits-failed (state.Branch key) done = tt
    fits-failed state.Tags done = tt
    fits-failed (state.Tag key) done = tt
    fits-failed (state.Snapshot id) done = tt
    fits-failed (state.Log id place) done = tt
    fits-failed (state.File f place) done = tt
    fits-failed (state.Part p parts place) done = tt
    fits-failed (state.Ended result) done = tt
checked-acts s c q old new live (Err No_room) called fits answered comes calm = record {
  same = called.same;
  blames = (called.counted, λ doomed. absurd (starves q comes doomed));
  went = inr (record {
    op = checking_op s;
    starved = starved c.work;
    next = λ r. behind (checking_op s) r (heard_in s c r) (starved c.work);
    asks = live-rest s c live;
    waits = called.did;
    comes = comes;
  });
}
  where
    starves : (q : Answer) → q ≡ starved c.work → Calm q
    starves q e doomed = false_true (sym (ap (dooms tells_failure) e) ∙ doomed)

-- ---- replies to what is asked
get-answers : (s : Checking) (key : Key) (reply : Reply) → asks_get s ≡ true → Fits (Get key) reply → has_failed reply ≡ false → is_answer s reply ≡ true
get-answers s key (Is_got x) e f a = e
get-answers s key (Reply_failed x) e f a = absurd (false_true (sym a))
get-answers s key (Is_new x) e f a = absurd f
get-answers s key (Is_over x) e f a = absurd f
get-answers s key (Is_gone x) e f a = absurd f
get-answers s key (Is_gone_at x) e f a = absurd f
get-answers s key (Is_listed x) e f a = absurd f

list-answers : (s : Checking) (part : Part) (reply : Reply) → asks_list s ≡ true → Fits (ListPart part) reply → has_failed reply ≡ false → is_answer s reply ≡ true
list-answers s part (Is_listed x) e f a = e
list-answers s part (Reply_failed x) e f a = absurd (false_true (sym a))
list-answers s part (Is_got x) e f a = absurd f
list-answers s part (Is_new x) e f a = absurd f
list-answers s part (Is_over x) e f a = absurd f
list-answers s part (Is_gone x) e f a = absurd f
list-answers s part (Is_gone_at x) e f a = absurd f

pub answers-so : (s : Checking) (reply : Reply) → is_live s ≡ true → Fits (checking_op s) reply → has_failed reply ≡ false → is_answer s reply ≡ true
answers-so state.Branches reply e f a = list-answers state.Branches Branches reply refl f a
answers-so (state.Branch key) reply e f a = get-answers (state.Branch key) key reply refl f a
answers-so state.Tags reply e f a = list-answers state.Tags Tags reply refl f a
answers-so (state.Tag key) reply e f a = get-answers (state.Tag key) key reply refl f a
answers-so (state.Snapshot id) reply e f a = get-answers (state.Snapshot id) (Snapshot id) reply refl f a
answers-so (state.Log id place) reply e f a = get-answers (state.Log id place) (Txn id) reply refl f a
answers-so (state.File v place) reply e f a = get-answers (state.File v place) (Manifest v.manifest) reply refl f a
answers-so (state.Part p parts place) reply e f a = get-answers (state.Part p parts place) (Chunk p.object) reply refl f a
answers-so (state.Ended result) reply e f a = absurd (false_true e)

-- ---- ends
calm-by : (snapshots chunks : ℕ) (faults : List CheckFault) → not (refused_by_fault (verdict_by snapshots chunks faults)) ≡ true
calm-by snapshots chunks [] = refl
calm-by snapshots chunks (fault ∷ faults) = refl

-- a verdict tells no fault of the store
pub calm-verdict : (result : Result Checked Refusal) (w : Work) → result ≡ verdict w → is_calm (state.Ended result) ≡ true
calm-verdict result w e = subst (λ (r : Result Checked Refusal). not (refused_by_fault r) ≡ true) (sym e) (calm-by (length w.met) (length w.objects) w.faults)

pub live-state : (s : Checking) (c : Course) → IsLive (checking_rest s c) → is_live s ≡ true
live-state state.Branches c l = refl
live-state (state.Branch key) c l = refl
live-state state.Tags c l = refl
live-state (state.Tag key) c l = refl
live-state (state.Snapshot id) c l = refl
live-state (state.Log id place) c l = refl
live-state (state.File v place) c l = refl
live-state (state.Part p parts place) c l = refl
live-state (state.Ended result) c l = absurd l

-- one that is live has a step left
pub live-left : (s : Checking) (c : Course) → is_live s ≡ true → 0 < checking_left s c
live-left state.Branches c e = omega arith
live-left (state.Branch key) c e = omega arith
live-left state.Tags c e = omega arith
live-left (state.Tag key) c e = omega arith
live-left (state.Snapshot id) c e = omega arith
live-left (state.Log id place) c e = omega arith
live-left (state.File v place) c e = omega arith
live-left (state.Part p parts place) c e = omega arith
live-left (state.Ended result) c e = absurd (false_true e)

pub calm-answer : (answer : Result Reply StoreFault) (s : Checking) (c : Course) → IfOk answer (λ reply. is_calm s ≡ true) → IfOk answer (λ reply. Calm (checking_rest s c))
calm-answer (Ok reply) s c h = calm-rest s c h
calm-answer (Err fault) s c h = tt

-- without memory for an operation
pub called-none : (op : Op) (old : View) → Called (λ reply. reply) op (Err No_room) old old
called-none op old = record { same = refl; did = λ t. Waits-none old.caller old.seen; counted = omega arith }

-- What a mirror has left behind a reply, by what the reply tells.
use Rattle.std.proofs.Common.{◌≡◌, ◌⊎◌, ℕ, inl, inr, Bool, true, false, List, [], ◌∷◌, refl, sym, ◌∙◌, ap, subst}
use Rattle.std.specs.Prelude.{Result, Ok, Err, is_ok}
use Rattle.object_store.specs.declared.events.Op.{Op}
use Rattle.object_store.specs.declared.events.Reply.{Reply}
use Rattle.object_store.specs.declared.events.Reply.TheVariants as R
use Rattle.store_api.specs.declared.machines.Refusal.{Refusal}
use Rattle.store_api.specs.declared.machines.Refusal.TheVariants.{NoMemory}
use Rattle.store_api.specs.Callers.{has_failed}
use Rattle.store_api.specs.Program.{is_no_memory}
use Rattle.repo_read.specs.Answers.{AnswersOutright}
use Rattle.repo_read.proofs.Hearing.{without_bytes}
use Rattle.two_stores.specs.declared.side.Side.{Side}
use Rattle.two_stores.specs.Pairs.{Done, IsAsk, Asks, Awaits, Took, Comes, is_ref, moves_ref, is_told_surely}
use Rattle.mirror_reports.specs.declared.outcome.RefId.{RefId}
use Rattle.mirror_reports.specs.declared.outcome.MirrorRef.{MirrorRef}
use Rattle.mirror.specs.declared.register.Phase.{Phase}
use Rattle.mirror.specs.declared.mirror.Mirror.{Mirror}
use Rattle.mirror.specs.declared.mirror.Object.{Object}
use Rattle.mirror.specs.declared.mirror.Object.TheVariants as object
use Rattle.mirror.specs.Programs.{Work, Answer, ends, refused, on_told, asks, copy_refs}
use Rattle.mirror.specs.inside.Working.{Lands, EndsOutright, on_first, behind_refs, object_key}

-- a failed operation is refused, and whether it was done tells nothing
abbrev pub IsBlind : {A : Type 0} → (Reply → Result A Refusal) → Type 0
IsBlind told = (a b : Bool) → (told (R.Failed a) ≡ told (R.Failed b)) × (is_ok (told (R.Failed a)) ≡ false)

pub took-so : {A : Type 0} (w : Work) (side : Side) (op : Op) (told : Reply → Result A Refusal) (next : A → Answer) (reply : Reply) (q : Answer) → IsBlind told → Comes op reply (ends w (Err NoMemory)) (on_told w next (told reply)) q → Took (asks w side op told next) reply q
took-so {A} w side op told next (R.Failed done) q blind c = λ other. subst (λ (r : Result A Refusal). Comes op (R.Failed done) (ends w (Err NoMemory)) (on_told w next r) q) (blind done other).0 c
took-so w side op told next (R.Got x) q blind c = c
took-so w side op told next (R.New x) q blind c = c
took-so w side op told next (R.Over x) q blind c = c
took-so w side op told next (R.Gone x) q blind c = c
took-so w side op told next (R.GoneAt x) q blind c = c
took-so w side op told next (R.Listed x) q blind c = c

-- what told a value was no failed operation
read : {A : Type 0} (told : Reply → Result A Refusal) → IsBlind told → (reply : Reply) (x : A) → told reply ≡ Ok x → has_failed reply ≡ false
read told blind (R.Failed done) x e = let no = sym (ap (λ r. is_ok r) e) ∙ (blind done done).1 in absurd (cc)
read told blind (R.Got y) x e = refl
read told blind (R.New y) x e = refl
read told blind (R.Over y) x e = refl
read told blind (R.Gone y) x e = refl
read told blind (R.GoneAt y) x e = refl
read told blind (R.Listed y) x e = refl

free : (op : Op) (reply : Reply) → moves_ref op ≡ false → has_failed reply ≡ false → is_told_surely op reply ≡ false
free op reply still read = rw (still, read) refl

-- it told this value, and what follows it is left, or memory was wanting
pub went : {A : Type 0} (w : Work) (side : Side) (op : Op) (told : Reply → Result A Refusal) (next : A → Answer) (reply : Reply) (x : A) (q : Answer) → IsBlind told → moves_ref op ≡ false → told reply ≡ Ok x → Lands w.refs (next x) q → Took (asks w side op told next) reply q
went {A} w side op told next reply x q blind still e l = took-so w side op told next reply q blind (subst (λ (r : Result A Refusal). Comes op reply (ends w (Err NoMemory)) (on_told w next r) q) (sym e) (lands l))
  where
    lands : Lands w.refs (next x) q → Comes op reply (ends w (Err NoMemory)) (next x) q
    lands (inl same) = inl same
    lands (inr starved) = inr (free op reply still (read told blind reply x e), starved)

-- ... of a put of a ref, behind which nothing is lost
pub went-surely : {A : Type 0} (w : Work) (side : Side) (op : Op) (told : Reply → Result A Refusal) (next : A → Answer) (reply : Reply) (x : A) (q : Answer) → IsBlind told → told reply ≡ Ok x → q ≡ next x → Took (asks w side op told next) reply q
went-surely {A} w side op told next reply x q blind e same = took-so w side op told next reply q blind (subst (λ (r : Result A Refusal). Comes op reply (ends w (Err NoMemory)) (on_told w next r) q) (sym e) (inl same))

-- it told why it is refused
pub was-refused : {A : Type 0} (w : Work) (side : Side) (op : Op) (told : Reply → Result A Refusal) (next : A → Answer) (reply : Reply) (reason : Refusal) (q : Answer) → IsBlind told → told reply ≡ Err reason → q ≡ refused w reason → Took (asks w side op told next) reply q
was-refused {A} w side op told next reply reason q blind e same = took-so w side op told next reply q blind (subst (λ (r : Result A Refusal). Comes op reply (ends w (Err NoMemory)) (on_told w next r) q) (sym e) (inl same))

-- ... and so it ends outright
pub ends-so : {A : Type 0} (w : Work) (told : Result A Refusal) (reason : Refusal) (q : Answer) → told ≡ Err reason → q ≡ refused w reason → EndsOutright w told q
ends-so {A} w told reason q e same = subst (λ (r : Result A Refusal). EndsOutright w r q) (sym e) same

-- where it told a value nothing is owed
pub goes-on : {A : Type 0} (w : Work) (told : Result A Refusal) (x : A) (q : Answer) → told ≡ Ok x → EndsOutright w told q
goes-on {A} w told x q e = subst (λ (r : Result A Refusal). EndsOutright w r q) (sym e) tt

-- what follows what it told, where that is known
pub told-next : {A : Type 0} (w : Work) (next : A → Answer) (told : Result A Refusal) (x : A) (q : Answer) → told ≡ Ok x → q ≡ next x → q ≡ on_told w next told
told-next {A} w next told x q e same = same ∙ sym (ap (λ (r : Result A Refusal). on_told w next r) e)

pub told-refused : {A : Type 0} (w : Work) (next : A → Answer) (told : Result A Refusal) (reason : Refusal) (q : Answer) → told ≡ Err reason → q ≡ refused w reason → q ≡ on_told w next told
told-refused {A} w next told reason q e same = same ∙ sym (ap (λ (r : Result A Refusal). on_told w next r) e)

-- of the refs that are left one is in work, where something is left to be done with it
pub has-first : (names : List RefId) (w : Work) (f : RefId → (Work → Answer) → Answer) (phase : Phase) → IsAsk (on_first names w f phase) → (r : RefId) × (rs : List RefId) × (names ≡ r ∷ rs)
has-first [] w f phase live = absurd live
has-first (r ∷ rs) w f phase live = (r, rs, refl)

pub no-memory-is : (reason : Refusal) → is_no_memory reason ≡ true → reason ≡ NoMemory
no-memory-is NoMemory e = refl
no-memory-is _ e = absurd (cc)

-- it told why it is refused, or memory was wanting
pub was-refused-so : {A : Type 0} (w : Work) (side : Side) (op : Op) (told : Reply → Result A Refusal) (next : A → Answer) (reply : Reply) (reason : Refusal) (q : Answer) → IsBlind told → moves_ref op ≡ false → (is_no_memory reason ≡ false → told reply ≡ Err reason) → AnswersOutright reply (told reply) (Err reason) → q ≡ refused w reason → Took (asks w side op told next) reply q
was-refused-so w side op told next reply reason q blind still t o same = by_memory (is_no_memory reason) refl (has_failed reply) refl
  where
    by_memory : (b : Bool) → is_no_memory reason ≡ b → (failed : Bool) → has_failed reply ≡ failed → Took (asks w side op told next) reply q
    by_memory false e failed f = was-refused w side op told next reply reason q blind (t e) same
    by_memory true e true f = was-refused w side op told next reply reason q blind (sym (o (without_bytes reply f))) same
    by_memory true e false f = took-so w side op told next reply q blind (inr (free op reply still f, same ∙ ap (λ (r : Refusal). refused w r) (no-memory-is reason e)))

-- where it was refused so, or for want of memory, that is what is left
pub refused-so : {A : Type 0} (w : Work) (next : A → Answer) (result : Result A Refusal) (reason : Refusal) → (is_no_memory reason ≡ false → result ≡ Err reason) → Lands w.refs (on_told w next result) (refused w reason)
refused-so {A} w next result reason t = by_memory (is_no_memory reason) refl
  where
    by_memory : (b : Bool) → is_no_memory reason ≡ b → Lands w.refs (on_told w next result) (refused w reason)
    by_memory false e = inl (sym (ap (λ (r : Result A Refusal). on_told w next r) (t e)))
    by_memory true e = inr (ap (λ (r : Refusal). refused w r) (no-memory-is reason e))

-- the ref in work, where it is known
pub at-first : (names rs : List RefId) (r : RefId) (w : Work) (f : RefId → (Work → Answer) → Answer) (phase : Phase) → names ≡ r ∷ rs → on_first names w f phase ≡ f r (λ v. copy_refs rs v (behind_refs phase))
at-first names rs r w f phase e = rw e refl

-- what is awaited of the ref in work says that there is one
pub first-awaited : (names : List RefId) (w : Work) (f : RefId → (Work → Answer) → Answer) (phase : Phase) (reply : Reply) → Awaits (on_first names w f phase) reply → (r : RefId) × (rs : List RefId) × (names ≡ r ∷ rs)
first-awaited [] w f phase reply a = absurd a
first-awaited (r ∷ rs) w f phase reply a = (r, rs, refl)

pub took-first : (names rs : List RefId) (r : RefId) (w : Work) (f : RefId → (Work → Answer) → Answer) (phase : Phase) (reply : Reply) (q : Answer) → names ≡ r ∷ rs → Took (f r (λ v. copy_refs rs v (behind_refs phase))) reply q → Took (on_first names w f phase) reply q
took-first names rs r w f phase reply q e t = subst (λ (p : Answer). Took p reply q) (sym (at-first names rs r w f phase e)) t

-- no object is a ref
pub object-still : (o : Object) (m : Mirror) → is_ref (object_key o m) ≡ false
object-still (object.Chunk id) m = refl
object-still (object.Manifest id) m = refl
object-still object.Log m = refl
object-still object.Snapshot m = refl

-- the operation of the ref in work
pub asks-first : (names rs : List RefId) (r : RefId) (w : Work) (f : RefId → (Work → Answer) → Answer) (phase : Phase) (side : Side) (op : Op) → names ≡ r ∷ rs → Asks (f r (λ v. copy_refs rs v (behind_refs phase))) side op → Asks (on_first names w f phase) side op
asks-first names rs r w f phase side op e a = subst (λ (p : Answer). Asks p side op) (sym (at-first names rs r w f phase e)) a

-- what is left to be asked of the ref in work says that there is one
pub first-live : (names : List RefId) (w : Work) (f : RefId → (Work → Answer) → Answer) (phase : Phase) (p : Answer) → p ≡ on_first names w f phase → IsAsk p → (r : RefId) × (rs : List RefId) × (names ≡ r ∷ rs)
first-live names w f phase p e live = has-first names w f phase (subst (λ (q : Answer). IsAsk q) e live)

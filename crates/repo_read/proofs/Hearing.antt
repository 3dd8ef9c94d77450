-- Operations whose replies tell something, and what follows with it.
use Rattle.std.proofs.Common.{◌≡◌, Bool, true, false, Result, Ok, Err, IfErr, refl, sym, ap, ◌∙◌, subst}
use Rattle.object_store.specs.declared.events.Op.{Op}
use Rattle.object_store.specs.declared.events.Reply.{Reply}
use Rattle.object_store.specs.declared.events.Reply.TheVariants.{Got, New, Over, Gone, GoneAt, Listed as Is_listed, Failed}
use Rattle.store_api.specs.declared.machines.Next.{Next}
use Rattle.store_api.specs.declared.machines.Refusal.{Refusal}
use Rattle.store_api.specs.declared.machines.Refusal.TheVariants.{StoreFault, NoMemory}
use Rattle.store_api.specs.Callers.{Fits}
use Rattle.store_api.specs.Program.{Ask, IsDone, Lands, IsSure, is_fault, is_no_memory, moves_branch, is_told_surely}
use Rattle.store_api.specs.Running.{Program, on_answer}
use Rattle.store_api.specs.Driving.{Heard, Excuses, Took, has_failed}
use Rattle.store_api.proofs.Programs.{told-failed}
use Rattle.repo_read.specs.Answers.{Answers, AnswersOutright, has_bytes}

-- a fault is no want of memory
pub fault-has-memory : (why : Refusal) → is_fault why ≡ true → is_no_memory why ≡ false
fault-has-memory NoMemory e = cc
fault-has-memory _ e = refl

-- a refusal that is none of the store's isn't told as one
pub no-fault : {A : Type 0} (own why : Refusal) → is_fault own ≡ false → ◌≡◌ {A = Result A Refusal} (Err own) (Err why) → is_fault why ≡ false
no-fault own why calm e = let is : own ≡ why = cc in sym (ap is_fault is) ∙ calm

pub excused : {T : Type 0} (reply : Reply) (result : Result T Refusal) → IfErr result (λ refusal. is_fault refusal ≡ false) → Excuses reply result
excused reply (Ok t) f = tt
excused reply (Err why) f = λ n. f

pub heard : (P : Reply → Type 0) → ((done other : Bool) → P (Failed done) → P (Failed other)) → (reply : Reply) → P reply → Heard P reply
heard P f (Failed done) p = λ other. f done other p
heard P f (Got x) p = p
heard P f (New x) p = p
heard P f (Over x) p = p
heard P f (Gone x) p = p
heard P f (GoneAt x) p = p
heard P f (Is_listed x) p = p

-- a failed get found no bytes
pub without_bytes : (reply : Reply) → has_failed reply ≡ true → has_bytes reply ≡ false
without_bytes (Failed done) e = refl
without_bytes _ e = absurd (cc)

-- what replies tell: a fault exactly where the operation failed
pub record IsTelling {A : Type 0} (op : Op) (told : Reply → Result A Refusal) : Type 0 where
  pub calm : moves_branch op ≡ false
  pub fails : (done : Bool) → told (Failed done) ≡ Err StoreFault
  pub sound : (reply : Reply) (why : Refusal) → Fits op reply → has_failed reply ≡ false → told reply ≡ Err why → is_fault why ≡ false

module _ {A T : Type 0} (op : Op) (told : Reply → Result A Refusal) (f : A → Program T) (is : IsTelling op told) where
  abbrev Goes : Program T → Result (Next T) Refusal → Bool → Result A Refusal → Type 0
  Goes q result surely r = Lands (on_answer f r) q result × (surely ≡ true → IsSure (on_answer f r) result)

  hears : (q : Program T) (result : Result (Next T) Refusal) (reply : Reply) → Lands (on_answer f (told reply)) q result → (has_failed reply ≡ true → IsSure (on_answer f (told reply)) result) → Heard (λ r. Goes q result (is_told_surely op r) (told r)) reply
  hears q result reply l s =
      heard (λ r. Goes q result (is_told_surely op r) (told r))
      (λ done other g. subst (Goes q result (is_told_surely op (Failed done))) (is.fails done ∙ sym (is.fails other)) g) reply
      (l, λ t. s (sym (told-failed op reply is.calm) ∙ t))

  faultless : (b : Bool) (reply : Reply) (why : Refusal) → is_fault why ≡ b → Fits op reply → Answers (told reply) (Err why) → has_failed reply ≡ false → is_fault why ≡ false
  faultless false reply why e w t n = e
  faultless true reply why e w t n = is.sound reply why w n (t (fault-has-memory why e))

  -- where it tells no value, that ends the program
  pub refused : (reply : Reply) (why : Refusal) → Fits op reply → Answers (told reply) (Err why) → AnswersOutright reply (told reply) (Err why) → (q : Program T) → IsDone q → Took (Ask op (λ r. on_answer f (told r))) reply q (Err why)
  refused reply why w t o q d =
      (hears q (Err why) reply (d, λ n. ap (on_answer f) (t n)) (λ e. ap (on_answer f) (sym (o (without_bytes reply e)))), faultless (is_fault why) reply why refl w t)

  -- where it tells a value, the program goes on with it
  pub went : (reply : Reply) (a : A) → told reply ≡ Ok a → (q : Program T) (result : Result (Next T) Refusal) → Lands (f a) q result → IfErr result (λ why. is_fault why ≡ false) → Took (Ask op (λ r. on_answer f (told r))) reply q result
  went reply a t q result l n = (hears q result reply (subst (λ (x : Result A Refusal). Lands (on_answer f x) q result) (sym t) l) (told-none reply t), excused reply result n)
    where
      told-none : (r : Reply) → told r ≡ Ok a → has_failed r ≡ true → IsSure (on_answer f (told r)) result
      told-none (Failed done) e x = let no = sym (is.fails done) ∙ e in absurd (cc)
      told-none _ e x = absurd (cc)

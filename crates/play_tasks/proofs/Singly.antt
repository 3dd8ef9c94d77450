-- Plays that commit at most once.
use Rattle.std.proofs.Common.{◌≡◌, inl, inr, refl, sym, subst, ◌∙◌, cond, Bool, true, false, List, [], ◌∷◌, Result, Err}
use Rattle.std.specs.Prelude.{All}
use Rattle.std.proofs.lemmas.Bool.{false≢true}
use Rattle.std.proofs.lemmas.List.Elements.{All-nil, All-cons}
use Rattle.object_store.specs.declared.events.Op.{Op}
use Rattle.object_store.specs.declared.events.Op.TheVariants.{Get}
use Rattle.object_store.specs.declared.events.Reply.{Reply}
use Rattle.object_store.specs.declared.events.Event.{Event}
use Rattle.store_api.specs.declared.machines.Refusal.{Refusal}
use Rattle.store_api.specs.declared.machines.Refusal.TheVariants.{NoMemory}
use Rattle.store_api.specs.Program.{Prog, Done, Ask as Ask_next, bind, is_told_surely}
use Rattle.store_api.specs.Running.{Program}
use Rattle.store_api.specs.Plays.{Play, Ended, Ask, Or, behind, call, ended_as}
use Rattle.store_api.specs.Telling.{IsGet}
use Rattle.leases.specs.Following.{followed}
use Rattle.play_tasks.specs.Played.{PlaysTo, CommitsOnce, IsGetOrRelease, is_commit, is_moved}
use Rattle.play_tasks.proofs.Within.{Within}

-- ---- plays
-- it makes gets and releases of leases alone
unfoldable pub OnlyGets : {A : Type 0} → Play A → Type 0
OnlyGets (Ended a) = Unit {0}
OnlyGets (Ask op starved next) = IsGetOrRelease op × OnlyGets starved × ((reply : Reply) → OnlyGets (next reply))
OnlyGets (Or p q) = OnlyGets p × OnlyGets q

-- behind a commit that isn't found moved it makes gets and releases of leases alone
unfoldable pub Once : {A : Type 0} → Play A → Type 0
Once (Ended a) = Unit {0}
Once (Ask op starved next) = (is_commit op ≡ true → (reply : Reply) → is_moved reply ≡ false → OnlyGets (next reply)) × Once starved × ((reply : Reply) → Once (next reply))
Once (Or p q) = Once p × Once q

-- an operation that is no commit
abbrev pub NoCommit : Op → Type 0
NoCommit op = is_commit op ≡ false

pub get-none : (op : Op) → IsGet op → NoCommit op
get-none (Get key) g = refl
get-none _ g = absurd g

none-once : {B : Type 0} (op : Op) → NoCommit op → is_commit op ≡ true → B
none-once op none commits = absurd (false≢true (sym none ∙ commits))

pub gets-once : {A : Type 0} (p : Play A) → OnlyGets p → Once p
unfolding OnlyGets Once
gets-once (Ended a) g = tt
gets-once (Ask op s next) g = (λ commits reply moved. g.2 reply, gets-once s g.1, λ reply. gets-once (next reply) (g.2 reply))
gets-once (Or p q) g = (gets-once p g.0, gets-once q g.1)

-- ---- their paths
gets-path : {A : Type 0} (p : Play A) (events : List Event) (a : A) → OnlyGets p → PlaysTo p events a → All (λ (e : Event). IsGetOrRelease e.op) events
unfolding OnlyGets PlaysTo
gets-path (Ended b) events a g w = subst (λ (es : List Event). All (λ (e : Event). IsGetOrRelease e.op) es) (sym w.0) (All-nil (λ (e : Event). IsGetOrRelease e.op))
gets-path (Ask op s next) [] a g (inl w) = absurd w
gets-path (Ask op s next) (event ∷ more) a g (inl w) = All-cons (λ (e : Event). IsGetOrRelease e.op) event more (subst IsGetOrRelease (sym w.0) g.0) (gets-path (next event.reply) more a (g.2 event.reply) w.2)
gets-path (Ask op s next) events a g (inr w) = gets-path s events a g.1 w
gets-path (Or p q) events a g (inl w) = gets-path p events a g.0 w
gets-path (Or p q) events a g (inr w) = gets-path q events a g.1 w

pub once-path : {A : Type 0} (p : Play A) (events : List Event) (a : A) → Once p → PlaysTo p events a → CommitsOnce events
unfolding Once PlaysTo
once-path (Ended b) events a o w = subst CommitsOnce (sym w.0) tt
once-path (Ask op s next) [] a o (inl w) = absurd w
once-path (Ask op s next) (event ∷ more) a o (inl w) = (
  λ commits moved. gets-path (next event.reply) more a (o.0 (subst (λ (x : Op). is_commit x ≡ true) w.0 commits) event.reply moved) w.2,
  once-path (next event.reply) more a (o.2 event.reply) w.2,
)
once-path (Ask op s next) events a o (inr w) = once-path s events a o.1 w
once-path (Or p q) events a o (inl w) = once-path p events a o.0 w
once-path (Or p q) events a o (inr w) = once-path q events a o.1 w

-- ---- calls
behind-gets : {A : Type 0} (op : Op) (reply : Reply) (p s : Play A) (surely : Bool) → is_told_surely op reply ≡ surely → OnlyGets p → OnlyGets s → OnlyGets (behind op reply p s)
unfolding OnlyGets
behind-gets op reply p s true e g h = rw e g
behind-gets op reply p s false e g h = rw e (g, h)

behind-once : {A : Type 0} (op : Op) (reply : Reply) (p s : Play A) (surely : Bool) → is_told_surely op reply ≡ surely → Once p → Once s → Once (behind op reply p s)
unfolding Once
behind-once op reply p s true e g h = rw e g
behind-once op reply p s false e g h = rw e (g, h)

pub weaker-within : {A : Type 0} (may might : Op → Type 0) → ((op : Op) → may op → might op) → (Q R : A → Type 0) → ((a : A) → Q a → R a) → (p : Prog A) → Within may Q p → Within might R p
unfolding Within
weaker-within may might f Q R g (Done a) w = g a w
weaker-within may might f Q R g (Ask_next op k) w = (f op w.0, λ reply. weaker-within may might f Q R g (k reply) (w.1 reply))

-- of gets
pub call-gets : {A B : Type 0} (Q : Result A Refusal → Type 0) (p : Program A) (f : Result A Refusal → Play B) → Within IsGet Q p → ((r : Result A Refusal) → OnlyGets (f r)) → OnlyGets (call p f)
unfolding Within OnlyGets
call-gets Q (Done r) f w g = g r
call-gets Q (Ask_next op k) f w g = (inl w.0, g (Err NoMemory), λ reply. behind-gets op reply (call (k reply) f) (f (Err NoMemory)) (is_told_surely op reply) refl (call-gets Q (k reply) f (w.1 reply) g) (g (Err NoMemory)))

-- of no commit
pub call-once : {A B : Type 0} (Q : Result A Refusal → Type 0) (p : Program A) (f : Result A Refusal → Play B) → Within NoCommit Q p → ((r : Result A Refusal) → Q r → Once (f r)) → Once (f (Err NoMemory)) → Once (call p f)
unfolding Within Once
call-once Q (Done r) f w g n = g r w
call-once Q (Ask_next op k) f w g n = (none-once op w.0, n, λ reply. behind-once op reply (call (k reply) f) (f (Err NoMemory)) (is_told_surely op reply) refl (call-once Q (k reply) f (w.1 reply) g n) n)

-- ... and then of what follows
pub bind-once : {A B C : Type 0} (Q : A → Type 0) (p : Prog A) (g : A → Program B) (f : Result B Refusal → Play C) → Within NoCommit Q p → ((a : A) → Q a → Once (call (g a) f)) → Once (f (Err NoMemory)) → Once (call (bind p g) f)
unfolding Within Once
bind-once Q (Done a) g f w o n = o a w
bind-once Q (Ask_next op k) g f w o n = (none-once op w.0, n, λ reply. behind-once op reply (call (bind (k reply) g) f) (f (Err NoMemory)) (is_told_surely op reply) refl (bind-once Q (k reply) g f (w.1 reply) o n) n)

-- one operation first
pub ask-once : {A B : Type 0} (op : Op) (k : Reply → Program A) (f : Result A Refusal → Play B) → NoCommit op → ((reply : Reply) → Once (call (k reply) f)) → Once (f (Err NoMemory)) → Once (call (Ask_next op k) f)
unfolding Once
ask-once op k f none o n = (none-once op none, n, λ reply. behind-once op reply (call (k reply) f) (f (Err NoMemory)) (is_told_surely op reply) refl (o reply) n)

pub either-once : {A B : Type 0} (b : Bool) (p q : Program A) (f : Result A Refusal → Play B) → Once (call p f) → Once (call q f) → Once (call (cond b p q) f)
either-once true p q f o r = o
either-once false p q f o r = r

-- ---- an outcome that is told as another one
as-gets : {A B : Type 0} (f : A → B) (p : Play A) → OnlyGets p → OnlyGets (ended_as f p)
unfolding OnlyGets
as-gets f (Ended a) g = tt
as-gets f (Ask op s next) g = (g.0, as-gets f s g.1, λ reply. as-gets f (next reply) (g.2 reply))
as-gets f (Or p q) g = (as-gets f p g.0, as-gets f q g.1)

pub as-once : {A B : Type 0} (f : A → B) (p : Play A) → Once p → Once (ended_as f p)
unfolding Once
as-once f (Ended a) o = tt
as-once f (Ask op s next) o = (λ commits reply moved. as-gets f (next reply) (o.0 commits reply moved), as-once f s o.1, λ reply. as-once f (next reply) (o.2 reply))
as-once f (Or p q) o = (as-once f p o.0, as-once f q o.1)

-- ---- a play that another one follows
-- whatever follows
pub followed-gets : {A B : Type 0} (f : A → Play B) → ((a : A) → OnlyGets (f a)) → (p : Play A) → OnlyGets p → OnlyGets (followed p f)
unfolding OnlyGets
followed-gets f g (Ended a) o = g a
followed-gets f g (Ask op s next) o = (o.0, followed-gets f g s o.1, λ reply. followed-gets f g (next reply) (o.2 reply))
followed-gets f g (Or p q) o = (followed-gets f g p o.0, followed-gets f g q o.1)

-- releases and gets follow
pub followed-once : {A B : Type 0} (f : A → Play B) → ((a : A) → OnlyGets (f a)) → (p : Play A) → Once p → Once (followed p f)
unfolding OnlyGets Once
followed-once f g (Ended a) o = gets-once (f a) (g a)
followed-once f g (Ask op s next) o = (λ commits reply moved. followed-gets f g (next reply) (o.0 commits reply moved), followed-once f g s o.1, λ reply. followed-once f g (next reply) (o.2 reply))
followed-once f g (Or p q) o = (followed-once f g p o.0, followed-once f g q o.1)

-- it commits nothing
unfoldable pub NoCommits : {A : Type 0} → Play A → Type 0
NoCommits (Ended a) = Unit {0}
NoCommits (Ask op s next) = NoCommit op × NoCommits s × ((reply : Reply) → NoCommits (next reply))
NoCommits (Or p q) = NoCommits p × NoCommits q

-- whatever follows what commits nothing
pub nothing-once : {A B : Type 0} (f : A → Play B) → ((a : A) → Once (f a)) → (p : Play A) → NoCommits p → Once (followed p f)
unfolding NoCommits Once
nothing-once f g (Ended a) n = g a
nothing-once f g (Ask op s next) n = (none-once op n.0, nothing-once f g s n.1, λ reply. nothing-once f g (next reply) (n.2 reply))
nothing-once f g (Or p q) n = (nothing-once f g p n.0, nothing-once f g q n.1)

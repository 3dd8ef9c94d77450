-- What programs of store operations answer, where the events of all are those of a run over an empty store.
use Rattle.std.proofs.Common.{◌≡◌, ◌≢◌, ℕ, true, false, cond, ◌⊎◌, inl, inr, Bool, List, [], ◌∷◌, ◌++◌, length, refl, sym, ◌∙◌, ap, subst, append_assoc, append-nil, eqb-true}
use Rattle.std.specs.Prelude.{◌==◌, Option, Some, None, Result, Ok, Err}
use Rattle.std.specs.Result.{result_ok}
use Rattle.std.proofs.lemmas.Bool.{eqb-false}
use Rattle.ice_ids.specs.declared.Id12.{Id12}
use Rattle.object_store.specs.declared.keys.Key.{Key}
use Rattle.object_store.specs.declared.keys.Why.{Why}
use Rattle.object_store.specs.declared.events.Op.{Op}
use Rattle.object_store.specs.declared.events.Op.TheVariants.{Get, PutNew}
use Rattle.object_store.specs.declared.events.Got.TheVariants.{Found, Absent}
use Rattle.object_store.specs.declared.events.New.TheVariants.{Done as New_done}
use Rattle.object_store.specs.declared.events.Reply.{Reply}
use Rattle.object_store.specs.declared.events.Reply.TheVariants.{Got as Is_got, New as Is_new, Over as Is_over, Gone as Is_gone, GoneAt as Is_gone_at, Listed as Is_listed, Failed}
use Rattle.object_store.specs.declared.events.Event.{Event}
use Rattle.store_api.specs.declared.machines.Refusal.{Refusal}
use Rattle.store_api.specs.declared.machines.Refusal.TheVariants.{NoMemory}
use Rattle.object_store.specs.Machine.{Stored, found, version_at, got_of, new_of, IsHonest, UnlessFailed}
use Rattle.store_api.specs.Journal.{Each, IsGood}
use Rattle.store_api.specs.Program.{Prog, Done, Ask, bind, Path, is_told_surely, events_of}
use Rattle.store_api.specs.Plays.{Play, Ended, Ask as Ask_play, Or, call, behind, ended_as}
use Rattle.object_store.proofs.Journals.{Each-none}
use Rattle.store_api.specs.Running.{Program, ◌>>=◌, on_answer}
use Rattle.leases.specs.Following.{followed}
use Rattle.play_tasks.specs.Played.{StartsWith, PlaysTo}
use Rattle.play_course.specs.Refusing.{strange_answer}
use Rattle.play_course.proofs.Tidy.{IsTidy, IsAny}

-- what is known of each event of others, and of each own one
pub record Watch : Type 1 where
  pub others : List Event → Event → Type 0
  pub own : List Event → Event → Type 0

-- others draw these ids
abbrev pub drawing : (Id12 → Type 0) → Watch
drawing who = record { others = IsTidy who; own = IsAny }

-- Q holds of whatever the program answers, whatever others do of which this is known.
unfoldable pub Meets : {A : Type 0} → (A → List Event → Type 0) → Watch → Prog A → List Event → Type 0
Meets Q watch (Done a) journal = Q a journal
Meets Q watch (Ask op next) journal = (more : List Event) (event : Event) → Each watch.others journal more → watch.own (journal ++ more) event → event.op ≡ op → Meets Q watch (next event.reply) ((journal ++ more) ++ event ∷ [])

pub meets-done : {A : Type 0} (Q : A → List Event → Type 0) (watch : Watch) (a : A) (journal : List Event) → Meets Q watch (Done a) journal → Q a journal
unfolding Meets
meets-done Q watch a journal m = m

pub done-meets : {A : Type 0} (Q : A → List Event → Type 0) (watch : Watch) (a : A) (journal : List Event) → Q a journal → Meets Q watch (Done a) journal
unfolding Meets
done-meets Q watch a journal q = q

pub ask-meets : {A : Type 0} (Q : A → List Event → Type 0) (watch : Watch) (op : Op) (next : Reply → Prog A) (journal : List Event) → ((more : List Event) (event : Event) → Each watch.others journal more → watch.own (journal ++ more) event → event.op ≡ op → Meets Q watch (next event.reply) ((journal ++ more) ++ event ∷ [])) → Meets Q watch (Ask op next) journal
unfolding Meets
ask-meets Q watch op next journal f = f

-- first p, and then what follows
pub bind-meets : {A B : Type 0} (Q : A → List Event → Type 0) (R : B → List Event → Type 0) (watch : Watch) (p : Prog A) (f : A → Prog B) (journal : List Event) → Meets Q watch p journal → ((a : A) (h : List Event) → Q a h → Meets R watch (f a) h) → Meets R watch (bind p f) journal
unfolding Meets
bind-meets Q R watch (Done a) f journal m g = g a journal m
bind-meets Q R watch (Ask op next) f journal m g = λ more event others any is. bind-meets Q R watch (next event.reply) f ((journal ++ more) ++ event ∷ []) (m more event others any is) g

answer-meets : {A B : Type 0} (Q : Result A Refusal → List Event → Type 0) (R : Result B Refusal → List Event → Type 0) (watch : Watch) (f : A → Program B) → ((a : A) (h : List Event) → Q (Ok a) h → Meets R watch (f a) h) → ((why : Refusal) (h : List Event) → Q (Err why) h → R (Err why) h) → (r : Result A Refusal) (h : List Event) → Q r h → Meets R watch (on_answer f r) h
answer-meets Q R watch f go stop (Ok a) h q = go a h q
answer-meets Q R watch f go stop (Err why) h q = done-meets R watch (Err why) h (stop why h q)

pub then-meets : {A B : Type 0} (Q : Result A Refusal → List Event → Type 0) (R : Result B Refusal → List Event → Type 0) (watch : Watch) (p : Program A) (f : A → Program B) (journal : List Event) → Meets Q watch p journal → ((a : A) (h : List Event) → Q (Ok a) h → Meets R watch (f a) h) → ((why : Refusal) (h : List Event) → Q (Err why) h → R (Err why) h) → Meets R watch (p >>= f) journal
then-meets Q R watch p f journal m go stop = bind-meets Q R watch p (on_answer f) journal m (answer-meets Q R watch f go stop)

pub meets-weaker : {A : Type 0} (Q R : A → List Event → Type 0) → ((a : A) (h : List Event) → Q a h → R a h) → (watch : Watch) (p : Prog A) (journal : List Event) → Meets Q watch p journal → Meets R watch p journal
unfolding Meets
meets-weaker Q R f watch (Done a) journal m = f a journal m
meets-weaker Q R f watch (Ask op next) journal m = λ more event others any is. meets-weaker Q R f watch (next event.reply) ((journal ++ more) ++ event ∷ []) (m more event others any is)

-- ---- steps
module _ {A : Type 0} (Q : A → Type 0) (watch : Watch) where
  pub meets-step : (op : Op) (next : Reply → Prog A) (old : List Event) (event : Event) → watch.own old event → event.op ≡ op → Meets (λ a h. Q a) watch (Ask op next) old → Meets (λ a h. Q a) watch (next event.reply) (old ++ event ∷ [])
  unfolding Meets
  meets-step op next old event any is m =
      let same : old ++ [] ≡ old = append-nil old in
      subst (λ (h : List Event). Meets (λ a g. Q a) watch (next event.reply) (h ++ event ∷ [])) same
      (m [] event (Each-none watch.others old) (subst (λ (h : List Event). watch.own h event) (sym same) any) is)

  -- a program that was run to its end alone
  pub meets-path : (p : Prog A) (old own : List Event) (a : A) → Each watch.own old own → Path p own (Done a) → Meets (λ b h. Q b) watch p old → Q a
  unfolding Each Path
  meets-path p old [] a tidy path m = meets-done (λ b h. Q b) watch a old (subst (λ (x : Prog A). Meets (λ b h. Q b) watch x old) path m)
  meets-path (Done b) old (x ∷ xs) a tidy path m = absurd path
  meets-path (Ask op next) old (x ∷ xs) a tidy path m = meets-path (next x.reply) (old ++ x ∷ []) xs a tidy.1 path.1 (meets-step op next old x tidy.0 path.0 m)

-- ---- plays
-- Q holds of whatever the play ends with, with memory or without, whatever others do of which this is known.
unfoldable pub PlayMeets : {A : Type 0} → (A → Type 0) → Watch → Play A → List Event → Type 0
PlayMeets Q watch (Ended a) journal = Q a
PlayMeets Q watch (Ask_play op starved next) journal =
    PlayMeets Q watch starved journal × ((more : List Event) (event : Event) → Each watch.others journal more → watch.own (journal ++ more) event → event.op ≡ op → PlayMeets Q watch (next event.reply) ((journal ++ more) ++ event ∷ []))
PlayMeets Q watch (Or p q) journal = PlayMeets Q watch p journal × PlayMeets Q watch q journal

-- a play, and what follows its outcome
pub followed-meets : {A B : Type 0} (Q : A → Type 0) (R : B → Type 0) (watch : Watch) (p : Play A) (f : A → Play B) (journal : List Event) → PlayMeets Q watch p journal → ((a : A) (h : List Event) → Q a → PlayMeets R watch (f a) h) → PlayMeets R watch (followed p f) journal
unfolding PlayMeets
followed-meets Q R watch (Ended a) f journal m g = g a journal m
followed-meets Q R watch (Ask_play op starved next) f journal m g = (
  followed-meets Q R watch starved f journal m.0 g,
  λ more event others own is. followed-meets Q R watch (next event.reply) f ((journal ++ more) ++ event ∷ []) (m.1 more event others own is) g,
)
followed-meets Q R watch (Or p q) f journal m g = (followed-meets Q R watch p f journal m.0 g, followed-meets Q R watch q f journal m.1 g)

-- a play whose end is told as another one
pub ended-as_meets : {A B : Type 0} (f : A → B) (Q : B → Type 0) (watch : Watch) (p : Play A) (journal : List Event) → PlayMeets (λ a. Q (f a)) watch p journal → PlayMeets Q watch (ended_as f p) journal
unfolding PlayMeets
ended-as_meets f Q watch (Ended a) journal m = m
ended-as_meets f Q watch (Ask_play op starved next) journal m = (
  ended-as_meets f Q watch starved journal m.0,
  λ more event others own is. ended-as_meets f Q watch (next event.reply) ((journal ++ more) ++ event ∷ []) (m.1 more event others own is),
)
ended-as_meets f Q watch (Or p q) journal m = (ended-as_meets f Q watch p journal m.0, ended-as_meets f Q watch q journal m.1)

module _ {A : Type 0} (Q : A → Type 0) (watch : Watch) where
  pub ended-meets : (a : A) (journal : List Event) → Q a → PlayMeets Q watch (Ended a) journal
  unfolding PlayMeets
  ended-meets a journal q = q

  pub play-asks : (op : Op) (starved : Play A) (next : Reply → Play A) (journal : List Event) → PlayMeets Q watch starved journal
      → ((more : List Event) (event : Event) → Each watch.others journal more → watch.own (journal ++ more) event → event.op ≡ op → PlayMeets Q watch (next event.reply) ((journal ++ more) ++ event ∷ [])) → PlayMeets Q watch (Ask_play op starved next) journal
  unfolding PlayMeets
  play-asks op starved next journal m f = (m, f)

  pub or-meets : (p q : Play A) (journal : List Event) → PlayMeets Q watch p journal → PlayMeets Q watch q journal → PlayMeets Q watch (Or p q) journal
  unfolding PlayMeets
  or-meets p q journal m n = (m, n)

  -- ---- paths
  -- of the events of all, what is known of this client's own, and of those of others
  abbrev pub IsWatched : ℕ → List Event → Event → Type 0
  IsWatched client journal event = (event.client ≡ client → watch.own journal event) × (event.client ≢ client → watch.others journal event)

  -- the client's first event, those of others before it, and all behind it
  record First (client : ℕ) (old events : List Event) : Type 0 where
    more : List Event
    event : Event
    later : List Event
    others : Each watch.others old more
    own : watch.own (old ++ more) event
    watched : Each (IsWatched client) ((old ++ more) ++ event ∷ []) later
    picked : events_of client events ≡ event ∷ events_of client later

  first-own : (client : ℕ) (old events : List Event) → Each (IsWatched client) old events → (events_of client events ≡ []) ⊎ First client old events
  unfolding Each
  first-own client old [] each = inl refl
  first-own client old (x ∷ xs) each = by_client (x.client == client) refl (first-own client (old ++ x ∷ []) xs each.1)
    where
      mine : (x.client == client) ≡ true → First client old (x ∷ xs)
      mine e =
          let same : old ++ [] ≡ old = append-nil old in
          record {
            more = [];
            event = x;
            later = xs;
            others = Each-none watch.others old;
            own = subst (λ (h : List Event). watch.own h x) (sym same) (each.0.0 (eqb-true x.client client e));
            watched = subst (λ (h : List Event). Each (IsWatched client) (h ++ x ∷ []) xs) (sym same) each.1;
            picked = ap (λ (b : Bool). cond b (x ∷ events_of client xs) (events_of client xs)) e;
          }

      skipped : (x.client == client) ≡ false → events_of client (x ∷ xs) ≡ events_of client xs
      skipped e = ap (λ (b : Bool). cond b (x ∷ events_of client xs) (events_of client xs)) e

      behind_it : (x.client == client) ≡ false → First client (old ++ x ∷ []) xs → First client old (x ∷ xs)
      behind_it e f =
          let same : (old ++ x ∷ []) ++ f.more ≡ old ++ (x ∷ f.more) = append_assoc old (x ∷ []) f.more in
          record {
            more = x ∷ f.more;
            event = f.event;
            later = f.later;
            others = (each.0.1 (λ c. eqb-false x.client client e c), f.others);
            own = subst (λ (h : List Event). watch.own h f.event) same f.own;
            watched = subst (λ (h : List Event). Each (IsWatched client) (h ++ f.event ∷ []) f.later) same f.watched;
            picked = skipped e ∙ f.picked;
          }

      by_client : (b : Bool) → (x.client == client) ≡ b → (events_of client xs ≡ []) ⊎ First client (old ++ x ∷ []) xs → (events_of client (x ∷ xs) ≡ []) ⊎ First client old (x ∷ xs)
      by_client true e rest = inr (mine e)
      by_client false e rest = elim rest [
        | inl none ↦ inl (skipped e ∙ none)
        | inr f ↦ inr (behind_it e f)
      ]

  -- a play whose client's events, picked out from among those of all, are a path of it to its end
  pub plays-meets : (client : ℕ) (p : Play A) (old events : List Event) (a : A) → Each (IsWatched client) old events → PlaysTo p (events_of client events) a → PlayMeets Q watch p old → Q a
  unfolding PlaysTo PlayMeets
  plays-meets client (Ended b) old events a each plays m = subst Q plays.1 m
  plays-meets client (Or p q) old events a each (inl plays) m = plays-meets client p old events a each plays m.0
  plays-meets client (Or p q) old events a each (inr plays) m = plays-meets client q old events a each plays m.1
  plays-meets client (Ask_play op starved next) old events a each (inr plays) m = plays-meets client starved old events a each plays m.0
  plays-meets client (Ask_play op starved next) old events a each (inl starts) m = elim (first-own client old events each) [
    | inl none ↦ absurd (subst (λ (xs : List Event). StartsWith op xs (λ reply more. PlaysTo (next reply) more a)) none starts)
    | inr f ↦
        let s = subst (λ (xs : List Event). StartsWith op xs (λ reply more. PlaysTo (next reply) more a)) f.picked starts in
        plays-meets client (next f.event.reply) ((old ++ f.more) ++ f.event ∷ []) f.later a f.watched s.2 (m.1 f.more f.event f.others f.own s.0)
  ]

  behind-meets : (op : Op) (reply : Reply) (p s : Play A) (journal : List Event) (surely : Bool) → is_told_surely op reply ≡ surely → PlayMeets Q watch p journal → PlayMeets Q watch s journal → PlayMeets Q watch (behind op reply p s) journal
  unfolding PlayMeets
  behind-meets op reply p s journal true e m n = rw e m
  behind-meets op reply p s journal false e m n = rw e (m, n)

  -- a call, and then what follows its answer
  pub call-meets : {B : Type 0} (R : Result B Refusal → List Event → Type 0) (p : Program B) (f : Result B Refusal → Play A) (journal : List Event) → Meets R watch p journal
      → ((answer : Result B Refusal) (h : List Event) → R answer h → PlayMeets Q watch (f answer) h) → ((h : List Event) → PlayMeets Q watch (f (Err NoMemory)) h) → PlayMeets Q watch (call p f) journal
  unfolding Meets PlayMeets
  call-meets R (Done answer) f journal m g n = g answer journal m
  call-meets R (Ask op next) f journal m g n = (
    n journal,
    λ more event others any is.
        behind-meets op event.reply (call (next event.reply) f) (f (Err NoMemory)) ((journal ++ more) ++ event ∷ []) (is_told_surely op event.reply) refl (call-meets R (next event.reply) f ((journal ++ more) ++ event ∷ []) (m more event others any is) g n) (n ((journal ++ more) ++ event ∷ [])),
  )

-- ---- replies
-- the store failed the operation
pub record IsFailed (reply : Reply) : Type 0 where
  pub done : Bool
  pub is : reply ≡ Failed done

unless-failed : (P : Reply → Type 0) (reply : Reply) → UnlessFailed P reply → P reply ⊎ IsFailed reply
unless-failed P (Failed done) u = inr (record { done = done; is = refl })
unless-failed P (Is_got x) u = inl u
unless-failed P (Is_new x) u = inl u
unless-failed P (Is_over x) u = inl u
unless-failed P (Is_gone x) u = inl u
unless-failed P (Is_gone_at x) u = inl u
unless-failed P (Is_listed x) u = inl u

-- the reply to this operation is the machine's, or the operation failed
pub replied : (journal : List Event) (event : Event) (op : Op) → IsGood journal event → event.op ≡ op → IsHonest (found journal) (length journal) event.time op event.reply ⊎ IsFailed event.reply
replied journal event op good is =
    unless-failed (IsHonest (found journal) (length journal) event.time op) event.reply
    (subst (λ (o : Op). UnlessFailed (IsHonest (found journal) (length journal) event.time o) event.reply) is good.legal.answered)

-- to a put where nothing stands: it was done, or failed
pub put-replied : (journal : List Event) (event : Event) (key : Key) (bytes : List ℕ) (why : Why) → IsGood journal event → event.op ≡ PutNew key bytes why → found journal key ≡ None → (event.reply ≡ Is_new (New_done (version_at (length journal)) event.time)) ⊎ IsFailed event.reply
put-replied journal event key bytes why good is free = elim (replied journal event (PutNew key bytes why) good is) [
  | inl h ↦ inl (h ∙ ap (λ (o : Option Stored). Is_new (new_of (length journal) event.time o)) free)
  | inr f ↦ inr f
]

module _ {A : Type 0} (Q : A → List Event → Type 0) (watch : Watch) (next : Reply → Prog A) (journal : List Event) (event : Event) (good : IsGood journal event) (after : List Event) where
  -- to a get: what stands at the key, or nothing
  pub got-meets : (key : Key) → event.op ≡ Get key
      → ((s : Stored) → found journal key ≡ Some s → Meets Q watch (next (Is_got (Found s.bytes (version_at s.version) event.time))) after)
      → (found journal key ≡ None → Meets Q watch (next (Is_got (Absent event.time))) after)
      → ((done : Bool) → Meets Q watch (next (Failed done)) after)
      → Meets Q watch (next event.reply) after
  got-meets key is there gone failed = elim (replied journal event (Get key) good is) [
    | inl h ↦ subst (λ (r : Reply). Meets Q watch (next r) after) (sym h) (by_found (found journal key) refl)
    | inr f ↦ subst (λ (r : Reply). Meets Q watch (next r) after) (sym f.is) (failed f.done)
  ]
    where
      by_found : (o : Option Stored) → found journal key ≡ o → Meets Q watch (next (Is_got (got_of event.time o))) after
      by_found None e = gone e
      by_found (Some s) e = there s e

  -- to a put where nothing stands
  pub put-meets : (key : Key) (bytes : List ℕ) (why : Why) → event.op ≡ PutNew key bytes why → found journal key ≡ None
      → (event.reply ≡ Is_new (New_done (version_at (length journal)) event.time) → Meets Q watch (next (Is_new (New_done (version_at (length journal)) event.time))) after)
      → ((done : Bool) → Meets Q watch (next (Failed done)) after)
      → Meets Q watch (next event.reply) after
  put-meets key bytes why is free put failed = elim (put-replied journal event key bytes why good is free) [
    | inl told ↦ subst (λ (r : Reply). Meets Q watch (next r) after) (sym told) (put told)
    | inr f ↦ subst (λ (r : Reply). Meets Q watch (next r) after) (sym f.is) (failed f.done)
  ]

-- what was read
pub was-read : {A E : Type 0} (r : Result A E) (a : A) → result_ok r ≡ Some a → r ≡ Ok a
was-read (Ok x) a e = cc
was-read (Err why) a e = cc

-- ---- answers
-- a result that isn't refused as no run over an empty store is
abbrev pub Plain : {A : Type 0} → Result A Refusal → List Event → Type 0
Plain r h = strange_answer r ≡ false

-- A new tag: what it owes, and what is there where memory is wanting in it.
use Rattle.std.proofs.Common.{◌⊎◌, inl, inr, ℕ, List, refl}
use Rattle.std.specs.Prelude.{Result, Ok, Err, IfOk}
use Rattle.ice_ids.specs.declared.Id12.{Id12}
use Rattle.ref_file.specs.Refs.{ref_bytes}
use Rattle.snapshot_file.specs.declared.snapshot.SnapshotFile.{SnapshotFile}
use Rattle.object_store.specs.declared.keys.Key.TheVariants.{Snapshot, Tag}
use Rattle.object_store.specs.declared.keys.Why.TheVariants.{Tag as For_tag}
use Rattle.object_store.specs.declared.events.Version.{Version}
use Rattle.object_store.specs.declared.events.New.TheVariants.{Done as New_done, Present}
use Rattle.object_store.specs.declared.events.Reply.{Reply}
use Rattle.object_store.specs.declared.events.Reply.TheVariants.{Got, New, Over, Gone, GoneAt, Listed, Failed}
use Rattle.object_store.specs.declared.events.Event.{Event}
use Rattle.store_api.specs.declared.machines.Refusal.{Refusal}
use Rattle.store_api.specs.declared.machines.Refusal.TheVariants as R
use Rattle.object_store.specs.Machine.{found}
use Rattle.store_api.specs.Callers.{Caller, Makes}
use Rattle.store_api.specs.Program.{Prog, Done, Ask, bind, Keeps, Leads}
use Rattle.store_api.specs.Running.{Program, on_answer, ◌>>=◌}
use Rattle.store_api.specs.Plays.{Stays}
use Rattle.store_api.specs.Telling.{MadeGets}
use Rattle.store_api.proofs.Programs.{Keeps-bind}
use Rattle.store_api.proofs.Happening.{new-present, stands-as}
use Rattle.repo_read.specs.declared.resolving.At.{At}
use Rattle.repo_read.specs.declared.resolving.Named.{Named}
use Rattle.repo_read.specs.Resolving.{resolve_at_program}
use Rattle.repo_read.specs.Naming.{NamingTells}
use Rattle.repo_read.proofs.Own.{MadeGets-none, MadeGets-get, one-made}
use Rattle.repo_read.proofs.Namings.{naming-leads}
use Rattle.repo_read.proofs.Replies.{new-cases}
use Rattle.refs_admin.specs.Targets.{target_program, target_told}
use Rattle.refs_admin.specs.Tags.{taken, after_tag, put_tag, tag_target_program, tag_new_program}
use Rattle.refs_admin.specs.TagTelling.{tags, TagWasThere, TagNewTells}
use Rattle.refs_admin.proofs.Targets.{IsAimed, aimed-makes, target-leads}
use Rattle.refs_admin.proofs.NewTag.{tag_new-leads}
use Rattle.play_refs.proofs.Shapes.{Owes, gets-owes, gets-stay}
use Rattle.play_refs.proofs.Shaped.{resolve-gets, target-gets}

-- ---- what it owes
leads-any : {A : Type 0} (by : Caller) (p : Prog A) (h : List Event) → Leads (λ a j. Unit {0}) by p h
unfolding Leads
leads-any by (Done a) h = tt
leads-any by (Ask op k) h = λ reply new m. leads-any by (k reply) new

after-owes : (by : Caller) (name : List ℕ) (reply : Reply) (h : List Event) → Keeps Owes by (after_tag name reply) h
unfolding Keeps
after-owes by name (New (New_done version now)) h = tt
after-owes by name (New (Present version now)) h = (tt, λ reply new m. tt)
after-owes by name (Got x) h = tt
after-owes by name (Over x) h = tt
after-owes by name (Gone x) h = tt
after-owes by name (GoneAt x) h = tt
after-owes by name (Listed x) h = tt
after-owes by name (Failed done) h = tt

put-owes : (by : Caller) (name : List ℕ) (id : Id12) (h : List Event) → Keeps Owes by (put_tag name id) h
unfolding Keeps
put-owes by name id h = (refl, λ reply new m. after-owes by name reply new)

then-owes : {A B : Type 0} (by : Caller) (p : Program A) (f : A → Program B) → ((h : List Event) → Keeps Owes by p h) → ((a : A) (h : List Event) → Keeps Owes by (f a) h) → (h : List Event) → Keeps Owes by (p >>= f) h
unfolding Keeps
then-owes {A} by p f k g h = Keeps-bind Owes (λ a j. Unit {0}) by p (on_answer f) h (k h) (leads-any by p h) answered
  where
    answered : (r : Result A Refusal) (j : List Event) → Unit {0} → Keeps Owes by (on_answer f r) j
    answered (Ok a) j t = g a j
    answered (Err why) j t = tt

pub tag-owes : (by : Caller) (name : List ℕ) (at : At) (journal : List Event) → Keeps Owes by (tag_new_program name at) journal
tag-owes by name at journal =
    then-owes by (resolve_at_program at) (λ (named : Named). tag_target_program name named.id) (λ h. gets-owes by (resolve_at_program at) h (resolve-gets at))
    (λ named h. then-owes by (target_program named.id) (λ target. put_tag name named.id) (λ j. gets-owes by (target_program named.id) j (target-gets named.id)) (λ target j. put-owes by name named.id j) h) journal

-- ---- what is there where memory is wanting
-- first p, and then what follows, where both lead to T
Stays-then : {A B : Type 0} (N : List Event → Type 0) (Q : A → List Event → Type 0) (T : B → List Event → Type 0) (by : Caller) (p : Prog A) (f : A → Prog B) (h : List Event) → Stays N by p h → Leads Q by p h → Leads T by (bind p f) h
    → ((a : A) (j : List Event) → Q a j → Leads T by (f a) j → Stays N by (f a) j) → Stays N by (bind p f) h
unfolding Stays Leads
Stays-then N Q T by (Done a) f h s q t g = g a h q t
Stays-then N Q T by (Ask op k) f h s q t g = (s.0, λ reply new m. ((s.1 reply new m).0, Stays-then N Q T by (k reply) f new (s.1 reply new m).1 (q reply new m) (t reply new m) g))

gets-then : (by : Caller) (P : List Event → Type 0) (N : List Event → Type 0) → ((h : List Event) → P h → N h) → {A : Type 0} (p : Prog A) (h : List Event) → Stays P by p h → Stays N by p h
unfolding Stays
gets-then by P N f (Done a) h s = tt
gets-then by P N f (Ask op k) h s = (f h s.0, λ reply new m. (λ e. f new ((s.1 reply new m).0 e), gets-then by P N f (k reply) new (s.1 reply new m).1))

module _ (by : Caller) (name : List ℕ) (at : At) (start : List Event) where
  abbrev Tells : Result (Unit {0}) Refusal → List Event → Type 0
  Tells = TagNewTells by.number name at start

  abbrev Lost : List Event → Type 0
  Lost h = MadeGets by.number start h ⊎ (((lost : Result (Unit {0}) Refusal) × Tells lost h) ⊎ ((version : Version) × TagWasThere by.number name at version start h))

  there : (named : Named) (version : Version) (now : ℕ) (old new : List Event) → IsAimed by.number at named start old → Makes by (tags name named.id) (New (Present version now)) old new → TagWasThere by.number name at version start new
  there named version now old new a n =
      let kept = aimed-makes by (tags name named.id) (New (Present version now)) at named start old new n a in
      let was = new-present _ n.time (found n.middle (Tag name)) version now n.answered.answered in
      record { aim = record { named = named; resolved = kept.0; target = kept.1 }; now = now; made = one-made by start (tags name named.id) (New (Present version now)) old new n a.gets; there = stands-as n.middle (Tag name) was.stored version.0 was.stands was.version_is }

  put-stays : (named : Named) (h : List Event) → IsAimed by.number at named start h → Leads Tells by (put_tag name named.id) h → Stays Lost by (put_tag name named.id) h
  unfolding Stays Leads
  put-stays named h a l = (inl a.gets, λ reply new m. let x = behind reply new m in (λ e. x.0, x.1))
    where
      behind : (reply : Reply) (new : List Event) → Makes by (tags name named.id) reply h new → Lost new × Stays Lost by (after_tag name reply) new
      behind reply new m = new-cases by h new (λ r. Lost new × Stays Lost by (after_tag name r) new) (Tag name) (ref_bytes named.id) For_tag
          (λ version now n. (inr (inl (Ok tt, l (New (New_done version now)) new n)), tt))
          (λ version now n.
          let t = there named version now h new a n in
          (inr (inr (version, t)), (inr (inr (version, t)), λ answer next o. (λ e. inr (inl (Err (taken version answer), l (New (Present version now)) new n answer next o)), tt))))
          (λ done n. (inr (inl (Err R.StoreFault, l (Failed done) new n)), tt))
          reply m

  -- the snapshot is there, where its get tells that
  abbrev read_so : Program (Unit {0})
  read_so = Done (Ok tt)

  abbrev Aimed : Named → Result (Unit {0}) Refusal → List Event → Type 0
  Aimed named r h = IfOk r (λ done. IsAimed by.number at named start h)

  aimed : (named : Named) (h : List Event) → NamingTells by.number at start (Ok named) h → Leads (Aimed named) by (target_program named.id >>= λ target. read_so) h
  unfolding Leads
  aimed named h t = target-leads by at named start read_so (Aimed named) (λ j. Unit {0}) (λ reply old new m k. tt) (λ j w c. tt) (λ fault j w c. tt) (λ j r w. tt) (λ j a k. a) h t.0 t.1 tt

  told-stays : (named : Named) (r : Result SnapshotFile Refusal) (h : List Event) → Leads (Aimed named) by (on_answer (λ (s : SnapshotFile). read_so) r) h → Leads Tells by (on_answer (λ (s : SnapshotFile). put_tag name named.id) r) h
      → Stays Lost by (on_answer (λ (s : SnapshotFile). put_tag name named.id) r) h
  unfolding Leads Stays
  told-stays named (Ok s) h a l = put-stays named h a l
  told-stays named (Err why) h a l = tt

  target-stays : (named : Named) (h : List Event) → NamingTells by.number at start (Ok named) h → Leads Tells by (tag_target_program name named.id) h → Stays Lost by (tag_target_program name named.id) h
  unfolding Leads Stays
  target-stays named h t l =
      (inl t.1, λ reply new m. (λ e. inl (MadeGets-get by start (Snapshot named.id) reply h new m t.1), told-stays named (target_told named.id reply) new (aimed named h t reply new m) (l reply new m)))

  named-stays : (r : Result Named Refusal) (h : List Event) → NamingTells by.number at start r h → Leads Tells by (on_answer (λ (named : Named). tag_target_program name named.id) r) h → Stays Lost by (on_answer (λ (named : Named). tag_target_program name named.id) r) h
  unfolding Stays
  named-stays (Ok named) h t l = target-stays named h t l
  named-stays (Err why) h t l = tt

pub tag-stays : (by : Caller) (name : List ℕ) (at : At) (journal : List Event)
    → Stays (λ h. MadeGets by.number journal h ⊎ (((lost : Result (Unit {0}) Refusal) × TagNewTells by.number name at journal lost h) ⊎ ((version : Version) × TagWasThere by.number name at version journal h))) by (tag_new_program name at) journal
tag-stays by name at journal =
    let none = MadeGets-none by.number journal in
    Stays-then (Lost by name at journal) (NamingTells by.number at journal) (Tells by name at journal) by (resolve_at_program at) (on_answer (λ (named : Named). tag_target_program name named.id)) journal
    (gets-then by (MadeGets by.number journal) (Lost by name at journal) (λ h c. inl c) (resolve_at_program at) journal (gets-stay by journal (resolve_at_program at) journal (resolve-gets at) none))
    (naming-leads by journal at journal none) (tag_new-leads by name at journal) (named-stays by name at journal)

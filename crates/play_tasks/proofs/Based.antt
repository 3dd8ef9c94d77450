-- A session's base along the client's own events, and what others do.
use Rattle.std.proofs.Common.{◌≡◌, ◌⊎◌, inl, inr, refl, sym, ◌∙◌, ap, subst, ℕ, List, [], ◌∷◌, ◌++◌, append_assoc, append-nil, Ok, Err, Result}
use Rattle.std.specs.Prelude.{IfOk}
use Rattle.ice_ids.specs.declared.Id12.{Id12}
use Rattle.ice_ids.specs.declared.drawing.AnyIds.{AnyIds}
use Rattle.object_store.specs.declared.keys.Key.{Key}
use Rattle.object_store.specs.declared.events.Op.{Op}
use Rattle.object_store.specs.declared.events.Op.TheVariants.{Get}
use Rattle.object_store.specs.declared.events.Got.TheVariants.{Found}
use Rattle.object_store.specs.declared.events.Reply.{Reply}
use Rattle.object_store.specs.declared.events.Reply.TheVariants.{Got as Is_got}
use Rattle.object_store.specs.declared.events.Event.{Event}
use Rattle.object_store.specs.declared.events.Version.{Version}
use Rattle.object_store.specs.Machine.{version_at}
use Rattle.object_store.proofs.Journals.{Each-append, Each-none, Each-one, Each-weaker}
use Rattle.store_api.specs.declared.machines.Refusal.{Refusal}
use Rattle.store_api.specs.declared.machines.Refusal.TheVariants.{NoMemory}
use Rattle.store_api.specs.Journal.{Each}
use Rattle.store_api.specs.Callers.{Caller, IsOther, Makes, own_event}
use Rattle.store_api.specs.Program.{Prog, Done, Ask, Keeps, Leads}
use Rattle.store_api.specs.Running.{Program}
use Rattle.store_api.specs.Plays.{Play, PlayKeeps, Stays, call}
use Rattle.store_api.specs.Telling.{HasOwn}
use Rattle.store_api.proofs.PlayLaws.{PlayKeeps-call}
use Rattle.store_api.proofs.Programs.{Leads-weaker}
use Rattle.session.specs.declared.origin.Origin.{Origin}
use Rattle.session.specs.Opening.{Asked}
use Rattle.repo_read.specs.declared.resolving.At.{At}
use Rattle.script_calls.specs.declared.calls.Head.{Head}
use Rattle.script_calls.specs.declared.calls.Head.TheVariants.{Session, Refs, Collect, Expire, Check}
use Rattle.play_outcome.specs.declared.outcome.Outcome.{Outcome}
use Rattle.play_tasks.specs.Playing.{asked_by}
use Rattle.play_tasks.specs.Bases.{ComesOpen, FoundAt, GetsBranch, GetsWalked, HasAsked, HasBase, IsAskedFor, IsRebasing, LeasesBase, MadeAlone, NamesBase, NoneNewer, OpensOrHasBase, WasNamed, naming_key}
use Rattle.play_tasks.proofs.Within.{Within, WithinOk, Still, Climbs}

-- ---- what a client made alone
-- from the first journal on, this holds of each own event
record Own (P : Event → Type 0) (client : ℕ) (start journal : List Event) : Type 0 where
  pub more : List Event
  pub is : journal ≡ start ++ more
  pub each : Each (λ before event. event.client ≡ client → P event) start more

module _ (P : Event → Type 0) where
  own-none : (client : ℕ) (start : List Event) → Own P client start start
  own-none client start = record { more = []; is = sym (append-nil start); each = Each-none (λ before event. event.client ≡ client → P event) start }

  own-makes : (by : Caller) (op : Op) (reply : Reply) (from old new : List Event) → (m : Makes by op reply old new) → P (own_event by op reply m.time) → Own P by.number from old → Own P by.number from new
  own-makes by op reply from old new m holds a =
      let E : List Event → Event → Type 0 = λ before event. event.client ≡ by.number → P event in
      let event : Event = own_event by op reply m.time in
      let others : Each E old m.waits.between = Each-weaker (IsOther by) E (λ h e o k. absurd (o.other k)) old m.waits.between m.waits.others in
      let own : Each E (old ++ m.waits.between) (event ∷ []) = Each-one E (old ++ m.waits.between) event (λ k. holds) in
      let both : Each E old (m.waits.between ++ event ∷ []) = Each-append E old m.waits.between (event ∷ []) others own in
      record {
        more = a.more ++ (m.waits.between ++ event ∷ []);
        is = m.is ∙ ap (λ (h : List Event). h ++ event ∷ []) m.waits.is ∙ append_assoc old m.waits.between (event ∷ []) ∙ ap (λ (h : List Event). h ++ (m.waits.between ++ event ∷ [])) a.is ∙ append_assoc from a.more (m.waits.between ++ event ∷ []);
        each = Each-append E from a.more (m.waits.between ++ event ∷ []) a.each (subst (λ (h : List Event). Each E h (m.waits.between ++ event ∷ [])) a.is both);
      }

  own-others : (by : Caller) (from journal more : List Event) → Each (IsOther by) journal more → Own P by.number from journal → Own P by.number from (journal ++ more)
  own-others by from journal more others a =
      let E : List Event → Event → Type 0 = λ before event. event.client ≡ by.number → P event in
      record {
        more = a.more ++ more;
        is = ap (λ (h : List Event). h ++ more) a.is ∙ append_assoc from a.more more;
        each = Each-append E from a.more more a.each (subst (λ (h : List Event). Each E h more) a.is (Each-weaker (IsOther by) E (λ h e o k. absurd (o.other k)) journal more others));
      }

-- operations
module _ (may : Op → Type 0) where
  abbrev May : Event → Type 0
  May event = may event.op

  pub alone-none : (client : ℕ) (start : List Event) → MadeAlone may client start start
  alone-none client start = let o = own-none May client start in record { more = o.more; is = o.is; each = o.each }

  pub alone-makes : (by : Caller) (op : Op) (reply : Reply) (from old new : List Event) → Makes by op reply old new → may op → MadeAlone may by.number from old → MadeAlone may by.number from new
  alone-makes by op reply from old new m allowed a =
      let o = own-makes May by op reply from old new m allowed (record { more = a.more; is = a.is; each = a.each }) in
      record { more = o.more; is = o.is; each = o.each }

  pub alone-others : (by : Caller) (from journal more : List Event) → Each (IsOther by) journal more → MadeAlone may by.number from journal → MadeAlone may by.number from (journal ++ more)
  alone-others by from journal more others a =
      let o = own-others May by from journal more others (record { more = a.more; is = a.is; each = a.each }) in
      record { more = o.more; is = o.is; each = o.each }

-- gets of a branch, which found it at this version
module _ (version : ℕ) where
  abbrev Finds : Event → Type 0
  Finds event = GetsBranch event.op → FoundAt version event.reply

  newer-none : (client : ℕ) (start : List Event) → NoneNewer version client start start
  newer-none client start = let o = own-none Finds client start in record { more = o.more; is = o.is; each = o.each }

  newer-makes : (by : Caller) (op : Op) (reply : Reply) (from old new : List Event) → Makes by op reply old new → (GetsBranch op → FoundAt version reply) → NoneNewer version by.number from old → NoneNewer version by.number from new
  newer-makes by op reply from old new m finds a =
      let o = own-makes Finds by op reply from old new m finds (record { more = a.more; is = a.is; each = a.each }) in
      record { more = o.more; is = o.is; each = o.each }

  newer-others : (by : Caller) (from journal more : List Event) → Each (IsOther by) journal more → NoneNewer version by.number from journal → NoneNewer version by.number from (journal ++ more)
  newer-others by from journal more others a =
      let o = own-others Finds by from journal more others (record { more = a.more; is = a.is; each = a.each }) in
      record { more = o.more; is = o.is; each = o.each }

-- ---- own events, where the journal went on
abbrev own-on : (client : ℕ) (op : Op) (reply : Reply) (start old new more : List Event) → new ≡ old ++ more → HasOwn client op reply start old → HasOwn client op reply start new
own-on client op reply start old new more goes h = record {
  before = h.before;
  since = h.since;
  before_is = h.before_is;
  event = h.event;
  after = h.after ++ more;
  is = goes ∙ ap (λ (x : List Event). x ++ more) h.is ∙ append_assoc h.before (h.event ∷ h.after) more;
  client_is = h.client_is;
  op_is = h.op_is;
  reply_is = h.reply_is;
}

abbrev named-on : (client : ℕ) (origin : Origin) (base : Id12) (start old new more : List Event) → new ≡ old ++ more → WasNamed client origin base start old → WasNamed client origin base start new
named-on client origin base start old new more goes w = record {
  bytes = w.bytes;
  version = w.version;
  got = record { now = w.got.now; own = own-on client (Get (naming_key origin base)) (Is_got (Found w.bytes (version_at w.version) w.got.now)) start old new more goes w.got.own };
  names = w.names;
}

abbrev asked-on : (client : ℕ) (at : At) (start old new more : List Event) → new ≡ old ++ more → HasAsked client at start old → HasAsked client at start new
asked-on client at start old new more goes a = record { reply = a.reply; own = own-on client _ a.reply start old new more goes a.own; first = a.first }

-- ---- it stays so, whatever others do
module _ (by : Caller) (start journal more : List Event) (others : Each (IsOther by) journal more) where
  last-others : (version : ℕ) (since : List Event) → NoneNewer version by.number since journal ⊎ IsRebasing version by.number since journal → NoneNewer version by.number since (journal ++ more) ⊎ IsRebasing version by.number since (journal ++ more)
  last-others version since (inl none) = inl (newer-others version by since journal more others none)
  last-others version since (inr r) = inr (record { lost = r.lost; none = r.none; walks = alone-others GetsWalked by r.lost journal more others r.walks })

  abbrev base-others : (a : Asked) → HasBase by.number a start journal → HasBase by.number a start (journal ++ more)
  base-others a b = record {
    asked = asked-on by.number a.at start journal (journal ++ more) more refl b.asked;
    base = b.base;
    origin = b.origin;
    of_asked = b.of_asked;
    named = named-on by.number b.origin b.base start journal (journal ++ more) more refl b.named;
    last = last-others b.named.version (b.named.got.own.before ++ b.named.got.own.event ∷ []) b.last;
  }

  opens-others : (a : Asked) (op : Op) → OpensOrHasBase by.number a start journal op → OpensOrHasBase by.number a start (journal ++ more) op
  opens-others a op (inl first) = inl (alone-others (λ o. ⊥) by start journal more others first.0, first.1)
  opens-others a op (inr b) = inr (base-others a b.0, b.1)

  pub open-others : (head : Head) (ids : AnyIds) (op : Op) → ComesOpen head ids by.number start journal op → ComesOpen head ids by.number start (journal ++ more) op
  open-others (Session access) ids op (inl o) = inl (opens-others (asked_by access ids) op o)
  open-others (Session access) ids op (inr r) = inr r
  open-others Refs ids op o = o
  open-others (Collect cutoff) ids op o = o
  open-others (Expire cutoff drop_branches drop_tags) ids op o = o
  open-others Check ids op o = o

-- the journal goes on from `start`
pub record GoesOn (start journal : List Event) : Type 0 where
  pub more : List Event
  pub is : journal ≡ start ++ more

made-on : (by : Caller) (op : Op) (reply : Reply) (old new : List Event) → (m : Makes by op reply old new) → new ≡ old ++ (m.waits.between ++ own_event by op reply m.time ∷ [])
made-on by op reply old new m = m.is ∙ ap (λ (h : List Event). h ++ own_event by op reply m.time ∷ []) m.waits.is ∙ append_assoc old m.waits.between (own_event by op reply m.time ∷ [])

goes-makes : (by : Caller) (start : List Event) (op : Op) (reply : Reply) (old new : List Event) → Makes by op reply old new → GoesOn start old → GoesOn start new
goes-makes by start op reply old new m g =
    let added : List Event = m.waits.between ++ own_event by op reply m.time ∷ [] in
    record { more = g.more ++ added; is = made-on by op reply old new m ∙ ap (λ (h : List Event). h ++ added) g.is ∙ append_assoc start g.more added }

-- an own event that was made now
abbrev pub own-now : (by : Caller) (start : List Event) (op : Op) (reply : Reply) (old new : List Event) → Makes by op reply old new → GoesOn start old → HasOwn by.number op reply start new
own-now by start op reply old new m g = record {
  before = m.middle;
  since = g.more ++ m.waits.between;
  before_is = m.waits.is ∙ ap (λ (h : List Event). h ++ m.waits.between) g.is ∙ append_assoc start g.more m.waits.between;
  event = own_event by op reply m.time;
  after = [];
  is = m.is;
  client_is = refl;
  op_is = refl;
  reply_is = refl;
}

-- ---- a session's base
module _ (by : Caller) (a : Asked) (start : List Event) where
  -- the client found the branch at no other version since the base was named
  pub record Settled (base : Id12) (origin : Origin) (journal : List Event) : Type 0 where
    pub goes : GoesOn start journal
    pub asked : HasAsked by.number a.at start journal
    pub of_asked : IsAskedFor a.at a.writes origin base
    pub named : WasNamed by.number origin base start journal
    pub none : NoneNewer named.version by.number (named.got.own.before ++ named.got.own.event ∷ []) journal

  -- ... until it was to be rebased
  pub record Rebasing (base : Id12) (origin : Origin) (journal : List Event) : Type 0 where
    pub asked : HasAsked by.number a.at start journal
    pub of_asked : IsAskedFor a.at a.writes origin base
    pub named : WasNamed by.number origin base start journal
    pub rebases : IsRebasing named.version by.number (named.got.own.before ++ named.got.own.event ∷ []) journal

  abbrev pub settled-has : (base : Id12) (origin : Origin) (journal : List Event) → Settled base origin journal → HasBase by.number a start journal
  settled-has base origin journal s = record { asked = s.asked; base = base; origin = origin; of_asked = s.of_asked; named = s.named; last = inl s.none }

  abbrev rebasing-has : (base : Id12) (origin : Origin) (journal : List Event) → Rebasing base origin journal → HasBase by.number a start journal
  rebasing-has base origin journal s = record { asked = s.asked; base = base; origin = origin; of_asked = s.of_asked; named = s.named; last = inr s.rebases }

  -- an own operation, which found no branch at another version
  pub settled-finds : (base : Id12) (origin : Origin) (op : Op) (reply : Reply) (old new : List Event) → Makes by op reply old new → (s : Settled base origin old) → (GetsBranch op → FoundAt s.named.version reply) → Settled base origin new
  settled-finds base origin op reply old new m s finds =
      let added : List Event = m.waits.between ++ own_event by op reply m.time ∷ [] in
      let on = made-on by op reply old new m in
      record {
        goes = goes-makes by start op reply old new m s.goes;
        asked = asked-on by.number a.at start old new added on s.asked;
        of_asked = s.of_asked;
        named = named-on by.number origin base start old new added on s.named;
        none = newer-makes s.named.version by op reply (s.named.got.own.before ++ s.named.got.own.event ∷ []) old new m finds s.none;
      }

  pub settled-makes : (base : Id12) (origin : Origin) (op : Op) (reply : Reply) (old new : List Event) → Makes by op reply old new → ¬ GetsBranch op → Settled base origin old → Settled base origin new
  settled-makes base origin op reply old new m still s = settled-finds base origin op reply old new m s (λ gets. absurd (still gets))

  pub rebasing-makes : (base : Id12) (origin : Origin) (op : Op) (reply : Reply) (old new : List Event) → Makes by op reply old new → GetsWalked op → Rebasing base origin old → Rebasing base origin new
  rebasing-makes base origin op reply old new m walks s =
      let added : List Event = m.waits.between ++ own_event by op reply m.time ∷ [] in
      let on = made-on by op reply old new m in
      record {
        asked = asked-on by.number a.at start old new added on s.asked;
        of_asked = s.of_asked;
        named = named-on by.number origin base start old new added on s.named;
        rebases = record { lost = s.rebases.lost; none = s.rebases.none; walks = alone-makes GetsWalked by op reply s.rebases.lost old new m walks s.rebases.walks };
      }

  -- it is to be rebased from now on
  pub rebase-begins : (base : Id12) (origin : Origin) (journal : List Event) → Settled base origin journal → Rebasing base origin journal
  rebase-begins base origin journal s = record {
    asked = s.asked;
    of_asked = s.of_asked;
    named = s.named;
    rebases = record { lost = journal; none = s.none; walks = alone-none GetsWalked by.number journal };
  }

  -- what was got now names a base
  pub settled-now : (base : Id12) (origin : Origin) (key : Key) (bytes : List ℕ) (version : Version) (now : ℕ) (old new : List Event) → Makes by (Get key) (Is_got (Found bytes version now)) old new → key ≡ naming_key origin base → NamesBase origin base bytes version.0
      → IsAskedFor a.at a.writes origin base → GoesOn start old → HasAsked by.number a.at start new → Settled base origin new
  settled-now base origin key bytes version now old new m key_is names of_asked goes asked =
      let m' = subst (λ (k : Key). Makes by (Get k) (Is_got (Found bytes version now)) old new) key_is m in
      record {
        goes = goes-makes by start (Get key) (Is_got (Found bytes version now)) old new m goes;
        asked = asked;
        of_asked = of_asked;
        named = record { bytes = bytes; version = version.0; got = record { now = now; own = own-now by start (Get (naming_key origin base)) (Is_got (Found bytes version now)) old new m' goes }; names = names };
        none = subst (λ (h : List Event). NoneNewer version.0 by.number h new) m'.is (newer-none version.0 by.number new);
      }

  -- ---- programs that get no branch
  abbrev pub Opens : List Event → ℕ → Op → Type 0
  Opens h client op = OpensOrHasBase client a start h op

  pub still-keeps : {A : Type 0} (Q : A → Type 0) (base : Id12) (origin : Origin) (p : Prog A) (journal : List Event) → Within Still Q p → Settled base origin journal → Keeps Opens by p journal
  unfolding Within Keeps
  still-keeps Q base origin (Done x) journal w s = tt
  still-keeps Q base origin (Ask op next) journal w s = (inr (settled-has base origin journal s, w.0.1 base), λ reply new m. still-keeps Q base origin (next reply) new (w.1 reply) (settled-makes base origin op reply journal new m w.0.0 s))

  pub still-leads : {A : Type 0} (Q : A → Type 0) (base : Id12) (origin : Origin) (p : Prog A) (journal : List Event) → Within Still Q p → Settled base origin journal → Leads (λ x h. Q x × Settled base origin h) by p journal
  unfolding Within Leads
  still-leads Q base origin (Done x) journal w s = (w, s)
  still-leads Q base origin (Ask op next) journal w s = λ reply new m. still-leads Q base origin (next reply) new (w.1 reply) (settled-makes base origin op reply journal new m w.0.0 s)

  -- ---- programs that get branches, snapshots and logs alone
  walked-leases : (base : Id12) (op : Op) → GetsWalked op → LeasesBase base op
  walked-leases base (Get key) walks = tt
  walked-leases base _ walks = absurd walks

  walk-keeps : {A : Type 0} (Q : A → Type 0) (base : Id12) (origin : Origin) (p : Prog A) (journal : List Event) → Within GetsWalked Q p → Rebasing base origin journal → Keeps Opens by p journal
  unfolding Within Keeps
  walk-keeps Q base origin (Done x) journal w s = tt
  walk-keeps Q base origin (Ask op next) journal w s = (inr (rebasing-has base origin journal s, walked-leases base op w.0), λ reply new m. walk-keeps Q base origin (next reply) new (w.1 reply) (rebasing-makes base origin op reply journal new m w.0 s))

  -- ---- the rest of a rebase
  pub climb-keeps : {A : Type 0} (Q : A → Type 0) (base : Id12) (origin : Origin) (p : Prog A) (journal : List Event) → Within Climbs Q p → Rebasing base origin journal → Keeps Opens by p journal
  unfolding Within Keeps
  climb-keeps Q base origin (Done x) journal w s = tt
  climb-keeps Q base origin (Ask op next) journal w s = (inr (rebasing-has base origin journal s, walked-leases base op w.0.0), λ reply new m. climb-keeps Q base origin (next reply) new (w.1 reply) (rebasing-makes base origin op reply journal new m w.0.0 s))

  pub climb-leads : {A : Type 0} (Q : A → Type 0) (base : Id12) (origin : Origin) (p : Prog A) (journal : List Event) → Within Climbs Q p → Settled base origin journal → Leads (λ x h. Q x × Settled base origin h) by p journal
  unfolding Within Leads
  climb-leads Q base origin (Done x) journal w s = (w, s)
  climb-leads Q base origin (Ask op next) journal w s = λ reply new m. climb-leads Q base origin (next reply) new (w.1 reply) (settled-makes base origin op reply journal new m w.0.1 s)

  spread : {A : Type 0} (Q : A → Type 0) (S : List Event → Type 0) (r : Result A Refusal) (h : List Event) → IfOk r Q × S h → IfOk r (λ x. Q x × S h)
  spread Q S (Ok x) h q = q
  spread Q S (Err why) h q = tt

  -- ... where it isn't refused
  ok-leads : {A : Type 0} (Q : A → Type 0) (S : List Event → Type 0) (p : Program A) (journal : List Event) → Leads (λ r h. IfOk r Q × S h) by p journal → Leads (λ r h. IfOk r (λ x. Q x × S h)) by p journal
  ok-leads Q S p journal l = Leads-weaker (λ r h. IfOk r Q × S h) (λ r h. IfOk r (λ x. Q x × S h)) (λ r h q. spread Q S r h q) by p journal l

  -- ---- calls
  any-stays : {A : Type 0} (p : Prog A) (journal : List Event) → Stays (λ h. Unit {0}) by p journal
  unfolding Stays
  any-stays (Done x) journal = tt
  any-stays (Ask op next) journal = (tt, λ reply new m. ((λ e. tt), any-stays (next reply) new))

  any-leads : {A : Type 0} (p : Prog A) (journal : List Event) → Leads (λ x h. Unit {0}) by p journal
  unfolding Leads
  any-leads (Done x) journal = tt
  any-leads (Ask op next) journal = λ reply new m. any-leads (next reply) new

  answered : {A : Type 0} (f : Result A Refusal → Play Outcome) (Q : A → List Event → Type 0) → ((x : A) (h : List Event) → Q x h → PlayKeeps Opens by (f (Ok x)) h) → ((why : Refusal) (h : List Event) → PlayKeeps Opens by (f (Err why)) h)
      → (r : Result A Refusal) (h : List Event) → IfOk r (λ x. Q x h) → PlayKeeps Opens by (f r) h
  answered f Q go ends (Ok x) h q = go x h q
  answered f Q go ends (Err why) h q = ends why h

  -- a call, where a refusal ends the play
  pub opens-call : {A : Type 0} (p : Program A) (f : Result A Refusal → Play Outcome) (Q : A → List Event → Type 0) (journal : List Event) → Keeps Opens by p journal → Leads (λ r h. IfOk r (λ x. Q x h)) by p journal
      → ((x : A) (h : List Event) → Q x h → PlayKeeps Opens by (f (Ok x)) h) → ((why : Refusal) (h : List Event) → PlayKeeps Opens by (f (Err why)) h) → PlayKeeps Opens by (call p f) journal
  opens-call p f Q journal keeps leads go ends = PlayKeeps-call Opens (λ r h. IfOk r (λ x. Q x h)) (λ h. Unit {0}) by p f journal keeps leads (any-stays p journal) (answered f Q go ends) (λ h n. ends NoMemory h)

  -- a call of a machine that gets no branch
  pub still-call : {A : Type 0} (p : Program A) (f : Result A Refusal → Play Outcome) (Q : A → Type 0) (base : Id12) (origin : Origin) (journal : List Event) → WithinOk Still Q p → Settled base origin journal
      → ((x : A) (h : List Event) → Q x → Settled base origin h → PlayKeeps Opens by (f (Ok x)) h) → ((why : Refusal) (h : List Event) → PlayKeeps Opens by (f (Err why)) h) → PlayKeeps Opens by (call p f) journal
  still-call p f Q base origin journal w s go ends =
      opens-call p f (λ x h. Q x × Settled base origin h) journal (still-keeps (λ r. IfOk r Q) base origin p journal w s)
      (ok-leads Q (Settled base origin) p journal (still-leads (λ r. IfOk r Q) base origin p journal w s)) (λ x h q. go x h q.0 q.1) ends

  -- ... where what follows a refusal goes on by the base too
  pub still-goes : {A : Type 0} (p : Program A) (f : Result A Refusal → Play Outcome) (Q : A → Type 0) (base : Id12) (origin : Origin) (journal : List Event) → WithinOk Still Q p → Settled base origin journal
      → ((r : Result A Refusal) (h : List Event) → Settled base origin h → PlayKeeps Opens by (f r) h) → ((h : List Event) → PlayKeeps Opens by (f (Err NoMemory)) h) → PlayKeeps Opens by (call p f) journal
  still-goes p f Q base origin journal w s go starved =
      PlayKeeps-call Opens (λ r h. IfOk r Q × Settled base origin h) (λ h. Unit {0}) by p f journal (still-keeps (λ r. IfOk r Q) base origin p journal w s)
      (still-leads (λ r. IfOk r Q) base origin p journal w s) (any-stays p journal) (λ r h q. go r h q.1) (λ h n. starved h)

  -- a call of a machine that gets branches, snapshots and logs alone
  pub walk-call : {A : Type 0} (p : Program A) (f : Result A Refusal → Play Outcome) (Q : A → Type 0) (base : Id12) (origin : Origin) (journal : List Event) → WithinOk GetsWalked Q p → Rebasing base origin journal
      → ((r : Result A Refusal) (h : List Event) → PlayKeeps Opens by (f r) h) → PlayKeeps Opens by (call p f) journal
  walk-call p f Q base origin journal w s ends =
      PlayKeeps-call Opens (λ r h. Unit {0}) (λ h. Unit {0}) by p f journal (walk-keeps (λ r. IfOk r Q) base origin p journal w s) (any-leads p journal) (any-stays p journal) (λ r h q. ends r h) (λ h n. ends (Err NoMemory) h)

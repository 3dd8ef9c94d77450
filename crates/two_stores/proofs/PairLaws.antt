-- Laws of programs of operations on two stores: what holds of them whatever others do, and behind each step.
use Rattle.std.proofs.Common.{◌≡◌, ℕ, refl, sym, ◌∙◌, ap, subst, inl, inr, Bool, true, false, true≢false, List}
use Rattle.std.specs.Prelude.{IsTrue}
use Rattle.ice_base.specs.Ends.{Rose}
use Rattle.object_store.specs.declared.events.Op.{Op}
use Rattle.object_store.specs.declared.events.Reply.{Reply}
use Rattle.object_store.specs.declared.events.Event.{Event}
use Rattle.store_api.specs.Callers.{Caller, View, Waits, Makes, Fits, has_failed}
use Rattle.store_api.specs.Program.{Prog, Keeps, Leads}
use Rattle.store_api.specs.Program.{Done as Has_done, Ask as Asks_next}
use Rattle.store_api.proofs.Programs.{Waits-none, Waits-same, Waits-trans, Makes-waits}
use Rattle.two_stores.specs.declared.side.Side.{Side}
use Rattle.two_stores.specs.declared.side.Side.TheVariants.{From, To}
use Rattle.two_stores.specs.Sides.{Both, pair_of, at_side, other, callers_of, seen_of, OthersCame}
use Rattle.two_stores.specs.Pairs.{PairProg, Done, Ask, on_side, moves_ref, is_told_surely, Comes, PairSteps, StepsOn, KeepsPair, LeadsPair, IsFair, dooms, BlamesSide}

-- ---- both sides
-- the journals where one side has gone on, and the other hasn't
abbrev halfway : Side → (old next : Both (List Event)) → Both (List Event)
halfway From old next = pair_of next.from old.to
halfway To old next = pair_of old.from next.to

-- a step behind what others did is a step, and then what others did
begun : (by : Both Caller) (side : Side) (op : Op) (reply : Reply) (old new next : Both (List Event)) → OthersCame by old new → StepsOn by side op reply new next → StepsOn by side op reply old (halfway side old next)
begun by From op reply old new next w s = record { fits = s.fits; made = λ t. Makes-waits by.from op reply old.from new.from next.from (w From t) (s.made t); stays = refl }
begun by To op reply old new next w s = record { fits = s.fits; made = λ t. Makes-waits by.to op reply old.to new.to next.to (w To t) (s.made t); stays = refl }

gone_on : (by : Both Caller) (side : Side) (op : Op) (reply : Reply) (old new next : Both (List Event)) → OthersCame by old new → StepsOn by side op reply new next → OthersCame by (halfway side old next) next
gone_on by From op reply old new next w s From t = Waits-none by.from next.from
gone_on by From op reply old new next w s To t = Waits-trans by.to old.to new.to next.to (w To t) (Waits-same by.to new.to next.to s.stays)
gone_on by To op reply old new next w s From t = Waits-trans by.from old.from new.from next.from (w From t) (Waits-same by.from new.from next.from s.stays)
gone_on by To op reply old new next w s To t = Waits-none by.to next.to

-- what a machine's step did to the journals
stepped : (old new : Both View) (side : Side) (op : Op) (reply : Reply) → Fits op reply → (IsTrue (at_side side old).caller.tells → Makes (at_side side old).caller op reply (at_side side old).seen (at_side side new).seen) → at_side (other side) new ≡ at_side (other side) old → StepsOn (callers_of old) side op reply (seen_of old) (seen_of new)
stepped old new From op reply f m s = record { fits = f; made = m; stays = ap (λ (v : View). v.seen) s }
stepped old new To op reply f m s = record { fits = f; made = m; stays = ap (λ (v : View). v.seen) s }

waited : (old new : Both View) (side : Side) → (IsTrue (at_side side old).caller.tells → Waits (at_side side old).caller (at_side side old).seen (at_side side new).seen) → at_side (other side) new ≡ at_side (other side) old → OthersCame (callers_of old) (seen_of old) (seen_of new)
waited old new From w s From t = w t
waited old new From w s To t = Waits-same old.to.caller old.to.seen new.to.seen (ap (λ (v : View). v.seen) s)
waited old new To w s From t = Waits-same old.from.caller old.from.seen new.from.seen (ap (λ (v : View). v.seen) s)
waited old new To w s To t = w t

-- ---- what holds of each operation to come
-- P is kept by good events of others, on either side
abbrev pub IsStable : Both Caller → (Side → Both (List Event) → Op → Type 0) → Type 0
IsStable by P = (side : Side) (old new : Both (List Event)) (op : Op) → OthersCame by old new → P side old op → P side new op

-- whatever others do on either side
pub KeepsPair-others : {A : Type 0} (P : Side → Both (List Event) → Op → Type 0) (by : Both Caller) → IsStable by P → (p : PairProg A) (old new : Both (List Event)) → OthersCame by old new → KeepsPair P by p old → KeepsPair P by p new
unfolding KeepsPair
KeepsPair-others P by stable (Done a) old new w k = tt
KeepsPair-others P by stable (Ask side op starved f) old new w k = (
  stable side old new op w k.0,
  λ reply next s. KeepsPair-others P by stable (f reply) (halfway side old next) next (gone_on by side op reply old new next w s) (k.1 reply (halfway side old next) (begun by side op reply old new next w s)),
)

KeepsPair-done : {A : Type 0} (P : Side → Both (List Event) → Op → Type 0) (by : Both Caller) (a : A) (q : PairProg A) (seen : Both (List Event)) → q ≡ Done a → KeepsPair P by q seen
unfolding KeepsPair
KeepsPair-done P by a q seen e = rw e tt

KeepsPair-comes : {A : Type 0} (P : Side → Both (List Event) → Op → Type 0) (by : Both Caller) (op : Op) (reply : Reply) (starved : A) (next q : PairProg A) (seen : Both (List Event)) → Comes op reply starved next q → KeepsPair P by next seen → KeepsPair P by q seen
KeepsPair-comes P by op reply starved next q seen (inl e) k = subst (λ (x : PairProg _). KeepsPair P by x seen) (sym e) k
KeepsPair-comes P by op reply starved next q seen (inr e) k = KeepsPair-done P by starved q seen e.1

KeepsPair-asks : {A : Type 0} (P : Side → Both (List Event) → Op → Type 0) (by : Both Caller) (side : Side) (op : Op) (starved : A) (next : Reply → PairProg A) (reply : Reply) (old new : Both (List Event)) → StepsOn by side op reply old new → KeepsPair P by (Ask side op starved next) old → KeepsPair P by (next reply) new
unfolding KeepsPair
KeepsPair-asks P by side op starved next reply old new s k = k.1 reply new s

-- behind one's own step
pub KeepsPair-steps : {A : Type 0} (P : Side → Both (List Event) → Op → Type 0) (old new : Both View) (p q : PairProg A) → PairSteps old new p q → KeepsPair P (callers_of old) p (seen_of old) → KeepsPair P (callers_of old) q (seen_of new)
KeepsPair-steps P old new p q s k = elim s.went [
  | inl m ↦ KeepsPair-comes P (callers_of old) m.op m.reply m.starved (m.next m.reply) q (seen_of new) m.comes (KeepsPair-asks P (callers_of old) m.side m.op m.starved m.next m.reply (seen_of old) (seen_of new) (stepped old new m.side m.op m.reply m.fits m.made m.stays) (subst (λ (x : PairProg _). KeepsPair P (callers_of old) x (seen_of old)) m.asks k))
  | inr n ↦ KeepsPair-done P (callers_of old) n.starved q (seen_of new) n.ended
]

-- what the operation that comes next has
pub KeepsPair-now : {A : Type 0} (P : Side → Both (List Event) → Op → Type 0) (by : Both Caller) (side : Side) (op : Op) (starved : A) (next : Reply → PairProg A) (seen : Both (List Event)) → KeepsPair P by (Ask side op starved next) seen → P side seen op
unfolding KeepsPair
KeepsPair-now P by side op starved next seen k = k.0

-- where Q follows from P
pub KeepsPair-weaker : {A : Type 0} (P Q : Side → Both (List Event) → Op → Type 0) → ((side : Side) (seen : Both (List Event)) (op : Op) → P side seen op → Q side seen op) → (by : Both Caller) (p : PairProg A) (seen : Both (List Event)) → KeepsPair P by p seen → KeepsPair Q by p seen
unfolding KeepsPair
KeepsPair-weaker P Q f by (Done a) seen k = tt
KeepsPair-weaker P Q f by (Ask side op starved next) seen k = (f side seen op k.0, λ reply new s. KeepsPair-weaker P Q f by (next reply) new (k.1 reply new s))

-- ---- what holds of an outcome
-- Q is kept by good events of others, on either side
abbrev pub IsKept : {A : Type 0} → Both Caller → (A → Both (List Event) → Type 0) → Type 0
IsKept {A} by Q = (a : A) (old new : Both (List Event)) → OthersCame by old new → Q a old → Q a new

-- whatever others do on either side
pub LeadsPair-others : {A : Type 0} (Q : A → Both (List Event) → Type 0) (by : Both Caller) → IsKept by Q → (p : PairProg A) (old new : Both (List Event)) → OthersCame by old new → LeadsPair Q by p old → LeadsPair Q by p new
unfolding LeadsPair
LeadsPair-others Q by kept (Done a) old new w l = kept a old new w l
LeadsPair-others Q by kept (Ask side op starved f) old new w l = (
  kept starved old new w l.0,
  λ reply next s.
      let half : Both (List Event) = halfway side old next in
      let came : OthersCame by half next = gone_on by side op reply old new next w s in
      let behind = l.1 reply half (begun by side op reply old new next w s) in
      (λ n. kept starved half next came (behind.0 n), LeadsPair-others Q by kept (f reply) half next came behind.1),
)

pub LeadsPair-done : {A : Type 0} (Q : A → Both (List Event) → Type 0) (by : Both Caller) (a : A) (q : PairProg A) (seen : Both (List Event)) → q ≡ Done a → Q a seen → LeadsPair Q by q seen
unfolding LeadsPair
LeadsPair-done Q by a q seen e h = rw e h

-- where memory may be wanting behind a reply, no ref was changed
free-moves : (op : Op) (reply : Reply) → is_told_surely op reply ≡ false → moves_ref op ≡ false
free-moves op reply e = by_op (moves_ref op) refl
  where
    by_op : (over : Bool) → moves_ref op ≡ over → moves_ref op ≡ false
    by_op true m = let surely : is_told_surely op reply ≡ true = rw m refl in absurd (true≢false (sym surely ∙ e))
    by_op false m = m

LeadsPair-asks : {A : Type 0} (Q : A → Both (List Event) → Type 0) (by : Both Caller) (side : Side) (op : Op) (starved : A) (next : Reply → PairProg A) (reply : Reply) (old new : Both (List Event)) (q : PairProg A) → StepsOn by side op reply old new → Comes op reply starved (next reply) q → LeadsPair Q by (Ask side op starved next) old → LeadsPair Q by q new
unfolding LeadsPair
LeadsPair-asks Q by side op starved next reply old new q s (inl e) l = subst (λ (x : PairProg _). LeadsPair Q by x new) (sym e) (l.1 reply new s).1
LeadsPair-asks Q by side op starved next reply old new q s (inr e) l = LeadsPair-done Q by starved q new e.1 ((l.1 reply new s).0 (free-moves op reply e.0))

LeadsPair-starves : {A : Type 0} (Q : A → Both (List Event) → Type 0) (by : Both Caller) → IsKept by Q → (side : Side) (op : Op) (starved : A) (next : Reply → PairProg A) (old new : Both (List Event)) (q : PairProg A) → OthersCame by old new → q ≡ Done starved → LeadsPair Q by (Ask side op starved next) old → LeadsPair Q by q new
unfolding LeadsPair
LeadsPair-starves Q by kept side op starved next old new q w e l = LeadsPair-done Q by starved q new e (kept starved old new w l.0)

-- behind one's own step
pub LeadsPair-steps : {A : Type 0} (Q : A → Both (List Event) → Type 0) (old new : Both View) → IsKept (callers_of old) Q → (p q : PairProg A) → PairSteps old new p q → LeadsPair Q (callers_of old) p (seen_of old) → LeadsPair Q (callers_of old) q (seen_of new)
LeadsPair-steps Q old new kept p q s l = elim s.went [
  | inl m ↦ LeadsPair-asks Q (callers_of old) m.side m.op m.starved m.next m.reply (seen_of old) (seen_of new) q (stepped old new m.side m.op m.reply m.fits m.made m.stays) m.comes (subst (λ (x : PairProg _). LeadsPair Q (callers_of old) x (seen_of old)) m.asks l)
  | inr n ↦ LeadsPair-starves Q (callers_of old) kept n.side n.op n.starved n.next (seen_of old) (seen_of new) q (waited old new n.side n.waits n.stays) n.ended (subst (λ (x : PairProg _). LeadsPair Q (callers_of old) x (seen_of old)) n.asks l)
]

-- of what has ended
pub LeadsPair-ended : {A : Type 0} (Q : A → Both (List Event) → Type 0) (by : Both Caller) (a : A) (p : PairProg A) (seen : Both (List Event)) → p ≡ Done a → LeadsPair Q by p seen → Q a seen
unfolding LeadsPair
LeadsPair-ended Q by a p seen e l = subst (λ (x : PairProg _). LeadsPair Q by x seen) e l

-- where R follows from Q
pub LeadsPair-weaker : {A : Type 0} (Q R : A → Both (List Event) → Type 0) → ((a : A) (seen : Both (List Event)) → Q a seen → R a seen) → (by : Both Caller) (p : PairProg A) (seen : Both (List Event)) → LeadsPair Q by p seen → LeadsPair R by p seen
unfolding LeadsPair
LeadsPair-weaker Q R f by (Done a) seen l = f a seen l
LeadsPair-weaker Q R f by (Ask side op starved next) seen l = (f starved seen l.0, λ reply new s. (λ n. f starved new ((l.1 reply new s).0 n), LeadsPair-weaker Q R f by (next reply) new (l.1 reply new s).1))

-- ---- programs of one store
-- Where its side tells the journal, what holds there of each operation to come holds here; and what its answer leads to, with the other side as it was.
pub KeepsPair-on_side : {X A : Type 0} (P : List Event → ℕ → Op → Type 0) (R : X → List Event → Type 0) (Q : Side → Both (List Event) → Op → Type 0) (by : Both Caller) (side : Side) → IsTrue (at_side side by).tells → ((seen : Both (List Event)) (op : Op) → P (at_side side seen) (at_side side by).number op → Q side seen op) → (starved : A) (next : X → PairProg A) (p : Prog X) (seen : Both (List Event)) → Keeps P (at_side side by) p (at_side side seen) → Leads R (at_side side by) p (at_side side seen) → ((x : X) (new : Both (List Event)) → R x (at_side side new) → at_side (other side) new ≡ at_side (other side) seen → KeepsPair Q by (next x) new) → KeepsPair Q by (on_side side starved next p) seen
unfolding KeepsPair Keeps Leads
KeepsPair-on_side P R Q by side t f starved next (Has_done x) seen k l g = g x seen l refl
KeepsPair-on_side P R Q by side t f starved next (Asks_next op h) seen k l g = (
  f seen op k.0,
  λ reply new s. KeepsPair-on_side P R Q by side t f starved next (h reply) new (k.1 reply (at_side side new) (s.made t)) (l reply (at_side side new) (s.made t)) (λ x later r e. g x later r (e ∙ s.stays)),
)

-- Q of an outcome is kept by one's own steps on a side
abbrev pub StaysBehind : {A : Type 0} → Both Caller → Side → (A → Both (List Event) → Type 0) → A → Type 0
StaysBehind by side Q a = (op : Op) (reply : Reply) (old new : Both (List Event)) → StepsOn by side op reply old new → Q a old → Q a new

pub LeadsPair-on_side : {X A : Type 0} (R : X → List Event → Type 0) (Q : A → Both (List Event) → Type 0) (by : Both Caller) (side : Side) → IsTrue (at_side side by).tells → (starved : A) → StaysBehind by side Q starved → (next : X → PairProg A) (p : Prog X) (seen : Both (List Event)) → Q starved seen → Leads R (at_side side by) p (at_side side seen) → ((x : X) (new : Both (List Event)) → R x (at_side side new) → at_side (other side) new ≡ at_side (other side) seen → LeadsPair Q by (next x) new) → LeadsPair Q by (on_side side starved next p) seen
unfolding LeadsPair Leads
LeadsPair-on_side R Q by side t starved stays next (Has_done x) seen q l g = g x seen l refl
LeadsPair-on_side R Q by side t starved stays next (Asks_next op h) seen q l g = (
  q,
  λ reply new s. (
    λ n. stays op reply seen new s q,
    LeadsPair-on_side R Q by side t starved stays next (h reply) new (stays op reply seen new s q) (l reply (at_side side new) (s.made t)) (λ x later r e. g x later r (e ∙ s.stays)),
  ),
)

-- ---- whose failure is told
IsFair-done : {A : Type 0} (blames : Side → A → Bool) (a : A) (q : PairProg A) → q ≡ Done a → IsFair blames q
unfolding IsFair
IsFair-done blames a q e = rw e tt

fair-asks : {A : Type 0} (blames : Side → A → Bool) (side : Side) (op : Op) (starved : A) (next : Reply → PairProg A) (reply : Reply) (q : PairProg A) → Fits op reply → Comes op reply starved (next reply) q → IsFair blames (Ask side op starved next) → IsFair blames q
unfolding IsFair
fair-asks blames side op starved next reply q fits (inl e) f = subst (λ (x : PairProg _). IsFair blames x) (sym e) (f reply fits).1
fair-asks blames side op starved next reply q fits (inr e) f = IsFair-done blames starved q e.1

-- a fair program stays fair
pub IsFair-steps : {A : Type 0} (blames : Side → A → Bool) (old new : Both View) (p q : PairProg A) → PairSteps old new p q → IsFair blames p → IsFair blames q
IsFair-steps blames old new p q s f = elim s.went [
  | inl m ↦ fair-asks blames m.side m.op m.starved m.next m.reply q m.fits m.comes (subst (λ (x : PairProg _). IsFair blames x) m.asks f)
  | inr n ↦ IsFair-done blames n.starved q n.ended
]

blamed-asks : {A : Type 0} (blames : Side → A → Bool) (old new : Both View) (on : Side) (op : Op) (starved : A) (next : Reply → PairProg A) (reply : Reply) (q : PairProg A) → Fits op reply → Comes op reply starved (next reply) q → (has_failed reply ≡ true → Rose (at_side on old).faults (at_side on new).faults) → IsFair blames (Ask on op starved next) → BlamesSide blames (Ask on op starved next) q old new
unfolding IsFair
blamed-asks blames old new on op starved next reply q fits (inl e) rose f side d = elim ((f reply fits).0 side (ap (dooms blames side) (sym e) ∙ d)) [
  | inl s ↦ inl s
  | inr w ↦ inr (subst (λ (x : Side). Rose (at_side x old).faults (at_side x new).faults) (sym w.0) (rose w.1))
]
blamed-asks blames old new on op starved next reply q fits (inr e) rose f side d = inl (ap (dooms blames side) (sym e.1) ∙ d)

-- of a fair program a failure of a side is told there alone where the side's faults rose
pub IsFair-blames : {A : Type 0} (blames : Side → A → Bool) (old new : Both View) (p q : PairProg A) → PairSteps old new p q → IsFair blames p → BlamesSide blames p q old new
IsFair-blames blames old new p q s f = elim s.went [
  | inl m ↦ subst (λ (x : PairProg _). BlamesSide blames x q old new) (sym m.asks) (blamed-asks blames old new m.side m.op m.starved m.next m.reply q m.fits m.comes m.rose (subst (λ (x : PairProg _). IsFair blames x) m.asks f))
  | inr n ↦ λ side d. inl (ap (dooms blames side) n.asks ∙ (ap (dooms blames side) (sym n.ended) ∙ d))
]

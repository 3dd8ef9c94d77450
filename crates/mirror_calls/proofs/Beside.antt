-- A client's operations in a journal that others add to as well.
use Rattle.std.proofs.Common.{◌≡◌, inl, inr, ℕ, Bool, true, false, cond, List, [], ◌∷◌, ◌++◌, refl, sym, ◌∙◌, ap, subst, append_assoc, append-nil, eqb-true}
use Rattle.std.specs.Prelude.{◌==◌, Contains}
use Rattle.std.proofs.lemmas.List.Elements.{filter-append}
use Rattle.object_store.specs.declared.events.Op.{Op}
use Rattle.object_store.specs.declared.events.Reply.{Reply}
use Rattle.object_store.specs.declared.events.Event.{Event}
use Rattle.object_store.proofs.Journals.{Each-append, Each-one, Each-none, Each-at, Each-back}
use Rattle.store_api.specs.Journal.{Each, IsGood, IsPolite}
use Rattle.store_api.specs.Callers.{Caller, IsOther, Waits, Makes, own_event}
use Rattle.store_api.specs.Program.{events_of}
use Rattle.store_api.proofs.Programs.{events_of-others, own-one, good-waits}
use Rattle.two_stores.specs.declared.side.Side.{Side}
use Rattle.two_stores.specs.declared.side.Side.TheVariants.{From, To}
use Rattle.two_stores.specs.Sides.{other}
use Rattle.ice_ids.proofs.Elements.{first-is, later-is, first-or-later, none-in}
use Rattle.mirror_calls.specs.Deeds.{Deed, Did}
use Rattle.mirror_calls.specs.Journals.{deeds_in, on_this, deeds_on, GrewBy}
use Rattle.mirror_calls.proofs.Later.{with-deed}

-- ---- those of a side
in-append : (side : Side) (own : List Event) (event : Event) → deeds_in side (own ++ event ∷ []) ≡ deeds_in side own ++ record { side = side; op = event.op; reply = event.reply } ∷ []
in-append side [] event = refl
in-append side (x ∷ own) event = ap (λ (l : List Deed). record { side = side; op = x.op; reply = x.reply } ∷ l) (in-append side own event)

on-cons : (side at : Side) (x : Deed) (xs ys : List Deed) → on_this side at x xs ++ ys ≡ on_this side at x (xs ++ ys)
on-cons From From x xs ys = refl
on-cons From To x xs ys = refl
on-cons To From x xs ys = refl
on-cons To To x xs ys = refl

on-append : (side : Side) (deeds : List Deed) (d : Deed) → deeds_on side (deeds ++ d ∷ []) ≡ deeds_on side deeds ++ on_this side d.side d []
on-append side [] d = refl
on-append side (x ∷ xs) d = ap (on_this side x.side x) (on-append side xs d) ∙ sym (on-cons side x.side x (deeds_on side xs) (on_this side d.side d []))

on-self : (side : Side) (op : Op) (reply : Reply) → on_this side side (record { side = side; op = op; reply = reply }) [] ≡ record { side = side; op = op; reply = reply } ∷ []
on-self From op reply = refl
on-self To op reply = refl

-- one more on this side
pub on-same : (side : Side) (deeds : List Deed) (op : Op) (reply : Reply) → deeds_on side (with-deed deeds side op reply) ≡ deeds_on side deeds ++ record { side = side; op = op; reply = reply } ∷ []
on-same side deeds op reply = on-append side deeds (record { side = side; op = op; reply = reply }) ∙ ap (λ (l : List Deed). deeds_on side deeds ++ l) (on-self side op reply)

on-none : (side : Side) (op : Op) (reply : Reply) → on_this (other side) side (record { side = side; op = op; reply = reply }) [] ≡ []
on-none From op reply = refl
on-none To op reply = refl

-- ... or on the other
pub on-other : (side : Side) (deeds : List Deed) (op : Op) (reply : Reply) → deeds_on (other side) (with-deed deeds side op reply) ≡ deeds_on (other side) deeds
on-other side deeds op reply = on-append (other side) deeds (record { side = side; op = op; reply = reply }) ∙ (ap (λ (l : List Deed). deeds_on (other side) deeds ++ l) (on-none side op reply) ∙ append-nil (deeds_on (other side) deeds))

-- ---- the journal goes on
pub goes-begin : (client : ℕ) (start : List Event) (side : Side) → GrewBy client start start side []
goes-begin client start side = record { more = []; is = sym (append-nil start); good = Each-none IsGood start; own = refl }

own-waits : (by : Caller) (old between : List Event) → Each (IsOther by) old between → (more : List Event) → events_of by.number (more ++ between) ≡ events_of by.number more
own-waits by old between o more =
    filter-append (λ (e : Event). e.client == by.number) more between
    ∙ (ap (λ (l : List Event). events_of by.number more ++ l) (events_of-others by old between o) ∙ append-nil (events_of by.number more))

pub goes-waits : (by : Caller) (start : List Event) (side : Side) (deeds : List Deed) (old new : List Event) → Waits by old new → GrewBy by.number start old side deeds → GrewBy by.number start new side deeds
goes-waits by start side deeds old new w g = record {
  more = g.more ++ w.between;
  is = w.is ∙ (ap (λ (h : List Event). h ++ w.between) g.is ∙ append_assoc start g.more w.between);
  good = Each-append IsGood start g.more w.between g.good (subst (λ (h : List Event). Each IsGood h w.between) g.is (good-waits by old w.between w.others));
  own = ap (deeds_in side) (own-waits by old w.between w.others g.more) ∙ g.own;
}

pub goes-makes : (by : Caller) (start : List Event) (side : Side) (deeds : List Deed) (op : Op) (reply : Reply) (old new : List Event) → (m : Makes by op reply old new) → (GrewBy by.number start m.middle side deeds → IsPolite m.middle op) → GrewBy by.number start old side deeds → GrewBy by.number start new side (with-deed deeds side op reply)
goes-makes by start side deeds op reply old new m polite g =
    let event : Event = own_event by op reply m.time in
    let h = goes-waits by start side deeds old m.middle m.waits g in
    let own : events_of by.number (h.more ++ event ∷ []) ≡ events_of by.number h.more ++ event ∷ [] =
    filter-append (λ (e : Event). e.client == by.number) h.more (event ∷ []) ∙ ap (λ (l : List Event). events_of by.number h.more ++ l) (own-one by.number event refl) in
    record {
      more = h.more ++ event ∷ [];
      is = m.is ∙ (ap (λ (j : List Event). j ++ event ∷ []) h.is ∙ append_assoc start h.more (event ∷ []));
      good = Each-append IsGood start h.more (event ∷ []) h.good (subst (λ (j : List Event). Each IsGood j (event ∷ [])) h.is (Each-one IsGood m.middle event (record { legal = m.answered; polite = polite h })));
      own = ap (deeds_in side) own ∙ (in-append side (events_of by.number h.more) event ∙ (ap (λ (l : List Deed). l ++ record { side = side; op = op; reply = reply } ∷ []) h.own ∙ sym (on-same side deeds op reply)));
    }

-- the other side stays as it is
pub goes-still : (client : ℕ) (start : List Event) (side : Side) (deeds : List Deed) (op : Op) (reply : Reply) (old new : List Event) → new ≡ old → GrewBy client start old (other side) deeds → GrewBy client start new (other side) (with-deed deeds side op reply)
goes-still client start side deeds op reply old new same g = record { more = g.more; is = same ∙ g.is; good = g.good; own = g.own ∙ sym (on-other side deeds op reply) }

-- ---- what was done happened
first-on : (side : Side) (op : Op) (reply : Reply) (rest : List Deed) → Contains (on_this side side (record { side = side; op = op; reply = reply }) rest) (record { side = side; op = op; reply = reply })
first-on From op reply rest = first-is (record { side = From; op = op; reply = reply }) rest
first-on To op reply rest = first-is (record { side = To; op = op; reply = reply }) rest

later-on : (side at : Side) (x d : Deed) (rest : List Deed) → Contains rest d → Contains (on_this side at x rest) d
later-on From From x d rest c = later-is x d rest c
later-on From To x d rest c = c
later-on To From x d rest c = c
later-on To To x d rest c = later-is x d rest c

on-in : (side : Side) (op : Op) (reply : Reply) (deeds : List Deed) → Did deeds side op reply → Contains (deeds_on side deeds) (record { side = side; op = op; reply = reply })
on-in side op reply [] c = absurd (none-in (record { side = side; op = op; reply = reply }) c)
on-in side op reply (x ∷ xs) c = elim (first-or-later x (record { side = side; op = op; reply = reply }) xs c) [
  | inl same ↦ subst (λ (y : Deed). Contains (on_this side y.side y (deeds_on side xs)) (record { side = side; op = op; reply = reply })) (sym same) (first-on side op reply (deeds_on side xs))
  | inr later ↦ later-on side x.side x (record { side = side; op = op; reply = reply }) (deeds_on side xs) (on-in side op reply xs later)
]

-- an own event with this operation and this reply stands among these
record Occurs (client : ℕ) (events : List Event) (op : Op) (reply : Reply) : Type 0 where
  before : List Event
  event : Event
  after : List Event
  is : events ≡ before ++ event ∷ after
  client_is : event.client ≡ client
  op_is : event.op ≡ op
  reply_is : event.reply ≡ reply

behind-one : (client : ℕ) (x : Event) (xs : List Event) (op : Op) (reply : Reply) → Occurs client xs op reply → Occurs client (x ∷ xs) op reply
behind-one client x xs op reply o = record {
  before = x ∷ o.before;
  event = o.event;
  after = o.after;
  is = ap (λ (l : List Event). x ∷ l) o.is;
  client_is = o.client_is;
  op_is = o.op_is;
  reply_is = o.reply_is;
}

occurs : (client : ℕ) (side : Side) (op : Op) (reply : Reply) (events : List Event) → Contains (deeds_in side (events_of client events)) (record { side = side; op = op; reply = reply }) → Occurs client events op reply
occurs client side op reply [] c = absurd (none-in (record { side = side; op = op; reply = reply }) c)
occurs client side op reply (x ∷ xs) c = split (occurs client side op reply xs) (x.client == client) refl c
  where
    split : (Contains (deeds_in side (events_of client xs)) (record { side = side; op = op; reply = reply }) → Occurs client xs op reply) → (b : Bool) → (x.client == client) ≡ b → Contains (deeds_in side (cond b (x ∷ events_of client xs) (events_of client xs))) (record { side = side; op = op; reply = reply }) → Occurs client (x ∷ xs) op reply
    split again false n d = behind-one client x xs op reply (again d)
    split again true y d = elim (first-or-later (record { side = side; op = x.op; reply = x.reply }) (record { side = side; op = op; reply = reply }) (deeds_in side (events_of client xs)) d) [
      | inl same ↦ record {
        before = [];
        event = x;
        after = xs;
        is = refl;
        client_is = eqb-true x.client client y;
        op_is = ap (λ (z : Deed). z.op) same;
        reply_is = ap (λ (z : Deed). z.reply) same;
      }
      | inr later ↦ behind-one client x xs op reply (again later)
    ]

-- The client's own event with this operation and this reply stands in the journal, and it and all behind it are good.
pub record Happened (client : ℕ) (start journal : List Event) (op : Op) (reply : Reply) : Type 0 where
  pub since : List Event
  pub event : Event
  pub after : List Event
  pub is : journal ≡ (start ++ since) ++ event ∷ after
  pub good : IsGood (start ++ since) event
  pub rest : Each IsGood ((start ++ since) ++ event ∷ []) after
  pub event_is : event ≡ record { client = client; op = op; reply = reply; time = event.time }

named-so : (client : ℕ) (op : Op) (reply : Reply) (event : Event) → event.client ≡ client → event.op ≡ op → event.reply ≡ reply → event ≡ record { client = client; op = op; reply = reply; time = event.time }
named-so client op reply event c o r = λ i. record { client = c i; op = o i; reply = r i; time = event.time }

pub happened : (client : ℕ) (start journal : List Event) (side : Side) (deeds : List Deed) (op : Op) (reply : Reply) → GrewBy client start journal side deeds → Did deeds side op reply → Happened client start journal op reply
happened client start journal side deeds op reply g d =
    let o = occurs client side op reply g.more (subst (λ (l : List Deed). Contains l (record { side = side; op = op; reply = reply })) (sym g.own) (on-in side op reply deeds d)) in
    let good : Each IsGood start (o.before ++ o.event ∷ o.after) = subst (λ (l : List Event). Each IsGood start l) o.is g.good in
    let two : Each IsGood start ((o.before ++ o.event ∷ []) ++ o.after) = subst (λ (l : List Event). Each IsGood start l) (sym (append_assoc o.before (o.event ∷ []) o.after)) good in
    record {
      since = o.before;
      event = o.event;
      after = o.after;
      is = g.is ∙ (ap (λ (l : List Event). start ++ l) o.is ∙ sym (append_assoc start o.before (o.event ∷ o.after)));
      good = Each-at IsGood start o.before o.event o.after good;
      rest = subst (λ (h : List Event). Each IsGood h o.after) (sym (append_assoc start o.before (o.event ∷ []))) (Each-back IsGood start (o.before ++ o.event ∷ []) o.after two).1;
      event_is = named-so client op reply o.event o.client_is o.op_is o.reply_is;
    }

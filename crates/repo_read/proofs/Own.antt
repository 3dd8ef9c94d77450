-- What a client's own events tell of the journal, whatever others do.
use Rattle.std.proofs.Common.{◌≡◌, ℕ, List, [], ◌∷◌, ◌++◌, refl, sym, ◌∙◌, ap, subst, append_assoc, append-nil}
use Rattle.object_store.specs.declared.keys.Key.{Key}
use Rattle.object_store.specs.declared.events.Op.{Op}
use Rattle.object_store.specs.declared.events.Op.TheVariants.{Get}
use Rattle.object_store.specs.declared.events.Reply.{Reply}
use Rattle.object_store.specs.declared.events.Event.{Event}
use Rattle.store_api.specs.Journal.{Each}
use Rattle.store_api.specs.Callers.{Caller, IsOther, Waits, Makes, own_event}
use Rattle.object_store.proofs.Journals.{Each-append, Each-weaker, Each-one, Each-none}
use Rattle.store_api.specs.Telling.{GetsAlone, HasOwn, MadeGets, MadeOne}
use Rattle.store_api.proofs.Happening.{HasOwn-append}

-- ---- gets alone
pub MadeGets-none : (client : ℕ) (start : List Event) → MadeGets client start start
MadeGets-none client start = record { more = []; is = sym (append-nil start); each = Each-none (GetsAlone client) start }

pub MadeGets-append : (client : ℕ) (start journal more : List Event) → Each (GetsAlone client) journal more → MadeGets client start journal → MadeGets client start (journal ++ more)
MadeGets-append client start journal more gets c = record {
  more = c.more ++ more;
  is = ap (λ (h : List Event). h ++ more) c.is ∙ append_assoc start c.more more;
  each = Each-append (GetsAlone client) start c.more more c.each (subst (λ (h : List Event). Each (GetsAlone client) h more) c.is gets);
}

pub others-get : (by : Caller) (journal more : List Event) → Each (IsOther by) journal more → Each (GetsAlone by.number) journal more
others-get by journal more others = Each-weaker (IsOther by) (GetsAlone by.number) (λ h e o k. absurd (o.other k)) journal more others

pub MadeGets-waits : (by : Caller) (start old new : List Event) → Waits by old new → MadeGets by.number start old → MadeGets by.number start new
MadeGets-waits by start old new w c = subst (λ (h : List Event). MadeGets by.number start h) (sym w.is) (MadeGets-append by.number start old w.between (others-get by old w.between w.others) c)

-- what a call adds to the journal
pub made-more : (by : Caller) (op : Op) (reply : Reply) (old new : List Event) → (m : Makes by op reply old new) → new ≡ old ++ (m.waits.between ++ own_event by op reply m.time ∷ [])
made-more by op reply old new m = m.is ∙ (ap (λ (h : List Event). h ++ own_event by op reply m.time ∷ []) m.waits.is ∙ append_assoc old m.waits.between (own_event by op reply m.time ∷ []))

pub got-alone : (by : Caller) (key : Key) (reply : Reply) (old new : List Event) → (m : Makes by (Get key) reply old new) → Each (GetsAlone by.number) old (m.waits.between ++ own_event by (Get key) reply m.time ∷ [])
got-alone by key reply old new m =
    Each-append (GetsAlone by.number) old m.waits.between (own_event by (Get key) reply m.time ∷ []) (others-get by old m.waits.between m.waits.others)
    (Each-one (GetsAlone by.number) (old ++ m.waits.between) (own_event by (Get key) reply m.time) (λ k. tt))

pub MadeGets-get : (by : Caller) (start : List Event) (key : Key) (reply : Reply) (old new : List Event) → Makes by (Get key) reply old new → MadeGets by.number start old → MadeGets by.number start new
MadeGets-get by start key reply old new m c =
    subst (λ (h : List Event). MadeGets by.number start h) (sym (made-more by (Get key) reply old new m))
    (MadeGets-append by.number start old (m.waits.between ++ own_event by (Get key) reply m.time ∷ []) (got-alone by key reply old new m) c)

-- ---- an own event
-- the journal begins so
pub record Since (start journal : List Event) : Type 0 where
  pub more : List Event
  pub is : journal ≡ start ++ more

pub Since-none : (start : List Event) → Since start start
Since-none start = record { more = []; is = sym (append-nil start) }

pub Since-gets : (client : ℕ) (start journal : List Event) → MadeGets client start journal → Since start journal
Since-gets client start journal c = record { more = c.more; is = c.is }

pub Since-makes : (by : Caller) (start : List Event) (op : Op) (reply : Reply) (old new : List Event) → Makes by op reply old new → Since start old → Since start new
Since-makes by start op reply old new m s =
    let more : List Event = m.waits.between ++ own_event by op reply m.time ∷ [] in
    record { more = s.more ++ more; is = made-more by op reply old new m ∙ (ap (λ (h : List Event). h ++ more) s.is ∙ append_assoc start s.more more) }

abbrev pub own-made : (by : Caller) (start : List Event) (op : Op) (reply : Reply) (old new : List Event) → Makes by op reply old new → Since start old → HasOwn by.number op reply start new
own-made by start op reply old new m s = record {
  before = m.middle;
  since = s.more ++ m.waits.between;
  before_is = m.waits.is ∙ (ap (λ (h : List Event). h ++ m.waits.between) s.is ∙ append_assoc start s.more m.waits.between);
  event = own_event by op reply m.time;
  after = [];
  is = m.is;
  client_is = refl;
  op_is = refl;
  reply_is = refl;
}

-- ... behind gets alone
abbrev pub one-made : (by : Caller) (start : List Event) (op : Op) (reply : Reply) (old new : List Event) → Makes by op reply old new → MadeGets by.number start old → MadeOne by.number op reply start new
one-made by start op reply old new m c = record {
  own = own-made by start op reply old new m (Since-gets by.number start old c);
  earlier = MadeGets-waits by start old m.middle m.waits c;
  later = subst (λ (h : List Event). MadeGets by.number h new) m.is (MadeGets-none by.number new);
}

-- ... and before more gets
abbrev pub MadeOne-append : (client : ℕ) (op : Op) (reply : Reply) (start journal more : List Event) → Each (GetsAlone client) journal more → MadeOne client op reply start journal → MadeOne client op reply start (journal ++ more)
MadeOne-append client op reply start journal more gets o = record {
  own = HasOwn-append client op reply start journal more o.own;
  earlier = o.earlier;
  later = MadeGets-append client (o.own.before ++ o.own.event ∷ []) journal more gets o.later;
}

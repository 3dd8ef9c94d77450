-- A client's own events, and the operations that it made by its findings.
use Rattle.std.proofs.Common.{◌≡◌, inl, inr, ℕ, Bool, true, false, cond, List, [], ◌∷◌, ◌++◌, length, drop, refl, sym, ◌∙◌, ap, subst, append-nil, eqb-true, eq-eqb}
use Rattle.std.specs.Prelude.{◌==◌, Contains}
use Rattle.std.proofs.Math.Seq.{drop-append_seam}
use Rattle.std.proofs.lemmas.List.Elements.{filter-append}
use Rattle.object_store.specs.declared.events.Op.{Op}
use Rattle.object_store.specs.declared.events.Reply.{Reply}
use Rattle.object_store.specs.declared.events.Event.{Event}
use Rattle.store_api.specs.Program.{events_of}
use Rattle.store_api.specs.Journal.{Each}
use Rattle.intact.specs.Visits.{Visit, Refs, Ref, Snap, Log, File, Part, op_for}
use Rattle.intact.specs.Intact.{Made}
use Rattle.repo_check.specs.Findings.{Deed, deed_of, deeds_of}
use Rattle.repo_check.specs.Exact.{IsRead, deeds_in}
use Rattle.ice_ids.proofs.Elements.{first-is, later-is, first-or-later, none-in}
use Rattle.check_calls.specs.Beside.{IsOf}
use Rattle.check_calls.proofs.Steady.{Reads}

-- ---- from findings to events
-- an own event with this operation and this reply stands among these
pub record Occurs (client : ℕ) (events : List Event) (op : Op) (reply : Reply) : Type 0 where
  pub before : List Event
  pub event : Event
  pub after : List Event
  pub is : events ≡ before ++ event ∷ after
  pub client_is : event.client ≡ client
  pub op_is : event.op ≡ op
  pub reply_is : event.reply ≡ reply

further : (client : ℕ) (x : Event) (xs : List Event) (op : Op) (reply : Reply) → Occurs client xs op reply → Occurs client (x ∷ xs) op reply
further client x xs op reply o = record {
  before = x ∷ o.before;
  event = o.event;
  after = o.after;
  is = ap (λ (l : List Event). x ∷ l) o.is;
  client_is = o.client_is;
  op_is = o.op_is;
  reply_is = o.reply_is;
}

-- the deed of an event
abbrev deed_in : Event → Deed
deed_in event = record { op = event.op; reply = event.reply }

-- two lists of deeds that are the same
record SameDeeds (deed : Deed) (deeds : List Deed) (made : List Made) : Type 0 where
  first : Made
  rest : List Made
  is : made ≡ first ∷ rest
  here : deed ≡ deed_of first
  others : deeds ≡ deeds_of rest

same-deeds : (deed : Deed) (deeds : List Deed) (made : List Made) → deed ∷ deeds ≡ deeds_of made → SameDeeds deed deeds made
same-deeds deed deeds [] e = absurd cc
same-deeds deed deeds (x ∷ m) e = record { first = x; rest = m; is = refl; here = cc; others = cc }

no-deeds : (made : List Made) (one : Made) → [] ≡ deeds_of made → Contains made one → ⊥
no-deeds [] one e c = none-in one c
no-deeds (x ∷ m) one e c = absurd cc

pub occurs : (client : ℕ) (events : List Event) (made : List Made) → deeds_in (events_of client events) ≡ deeds_of made → (one : Made) → Contains made one → Occurs client events (op_for one.visit) one.reply
occurs client [] made e one c = absurd (no-deeds made one e c)
occurs client (x ∷ xs) made e one c = split (occurs client xs) (x.client == client) refl e
  where
    split : ((m : List Made) → deeds_in (events_of client xs) ≡ deeds_of m → (y : Made) → Contains m y → Occurs client xs (op_for y.visit) y.reply) → (b : Bool) → (x.client == client) ≡ b → deeds_in (cond b (x ∷ events_of client xs) (events_of client xs)) ≡ deeds_of made → Occurs client (x ∷ xs) (op_for one.visit) one.reply
    split again false n d = further client x xs (op_for one.visit) one.reply (again made d one c)
    split again true y d =
        let s = same-deeds (deed_in x) (deeds_in (events_of client xs)) made d in
        elim (first-or-later s.first one s.rest (subst (λ (m : List Made). Contains m one) s.is c)) [
          | inl f ↦ record {
            before = [];
            event = x;
            after = xs;
            is = refl;
            client_is = eqb-true x.client client y;
            op_is = ap (λ (d : Deed). d.op) s.here ∙ ap (λ (m : Made). op_for m.visit) f;
            reply_is = ap (λ (d : Deed). d.reply) s.here ∙ ap (λ (m : Made). m.reply) f;
          }
          | inr l ↦ further client x xs (op_for one.visit) one.reply (again s.rest s.others one l)
        ]

-- ---- from events to findings
-- an own event is one of the operations
pub record IsMadeBy (made : List Made) (event : Event) : Type 0 where
  pub one : Made
  pub among : Contains made one
  pub op_is : op_for one.visit ≡ event.op
  pub reply_is : one.reply ≡ event.reply

made-first : (event : Event) (deeds : List Deed) (made : List Made) → deed_in event ∷ deeds ≡ deeds_of made → IsMadeBy made event
made-first event deeds made d =
    let s = same-deeds (deed_in event) deeds made d in
    record { one = s.first; among = subst (λ (m : List Made). Contains m s.first) (sym s.is) (first-is s.first s.rest); op_is = sym (ap (λ (d : Deed). d.op) s.here); reply_is = sym (ap (λ (d : Deed). d.reply) s.here) }

made-later : (made : List Made) (x : Made) (rest : List Made) (event : Event) → made ≡ x ∷ rest → IsMadeBy rest event → IsMadeBy made event
made-later made x rest event e i = record { one = i.one; among = subst (λ (m : List Made). Contains m i.one) (sym e) (later-is x i.one rest i.among); op_is = i.op_is; reply_is = i.reply_is }

pub is-made : (client : ℕ) (before : List Event) (event : Event) (after : List Event) (made : List Made) → deeds_in (events_of client (before ++ event ∷ after)) ≡ deeds_of made → event.client ≡ client → IsMadeBy made event
is-made client [] event after made e own = split (event.client == client) refl e
  where
    split : (b : Bool) → (event.client == client) ≡ b → deeds_in (cond b (event ∷ events_of client after) (events_of client after)) ≡ deeds_of made → IsMadeBy made event
    split false n d = let yes = eq-eqb event.client client own in absurd cc
    split true y d = made-first event (deeds_in (events_of client after)) made d
is-made client (x ∷ xs) event after made e own = split (is-made client xs event after) (x.client == client) refl e
  where
    split : ((m : List Made) → deeds_in (events_of client (xs ++ event ∷ after)) ≡ deeds_of m → event.client ≡ client → IsMadeBy m event) → (b : Bool) → (x.client == client) ≡ b → deeds_in (cond b (x ∷ events_of client (xs ++ event ∷ after)) (events_of client (xs ++ event ∷ after))) ≡ deeds_of made → IsMadeBy made event
    split again false n d = again made d own
    split again true y d =
        let s = same-deeds (deed_in x) (deeds_in (events_of client (xs ++ event ∷ after))) made d in
        made-later made s.first s.rest event s.is (again s.rest s.others own)

-- ---- behind a first part
pub behind-start : (start more : List Event) → drop (length start) (start ++ more) ≡ more
behind-start start more = drop-append_seam start more

pub same-end : (start more rest : List Event) → start ++ more ≡ start ++ rest → more ≡ rest
same-end start more rest e = sym (drop-append_seam start more) ∙ (ap (drop (length start)) e ∙ drop-append_seam start rest)

-- events of others at both ends don't count
pub own-between : (client : ℕ) (early between late : List Event) → events_of client early ≡ [] → events_of client late ≡ [] → events_of client ((early ++ between) ++ late) ≡ events_of client between
own-between client early between late none_early none_late =
    filter-append (λ (e : Event). e.client == client) (early ++ between) late
    ∙ (ap (λ (l : List Event). events_of client (early ++ between) ++ l) none_late
    ∙ (append-nil (events_of client (early ++ between))
    ∙ (filter-append (λ (e : Event). e.client == client) early between ∙ ap (λ (l : List Event). l ++ events_of client between) none_early)))

pub own-later : (client : ℕ) (early between : List Event) → events_of client early ≡ [] → events_of client (early ++ between) ≡ events_of client between
own-later client early between none = filter-append (λ (e : Event). e.client == client) early between ∙ ap (λ (l : List Event). l ++ events_of client between) none

-- ---- all of them
reads : (v : Visit) → IsRead (op_for v)
reads (Refs part) = tt
reads (Ref key) = tt
reads (Snap id) = tt
reads (Log id) = tt
reads (File f) = tt
reads (Part p) = tt

-- where nobody else acts, each event is a read
pub all-reads : (client : ℕ) (before events : List Event) (made : List Made) → deeds_in (events_of client events) ≡ deeds_of made → Each (IsOf client) before events → Each Reads before events
unfolding Each
all-reads client before [] made e each = tt
all-reads client before (x ∷ xs) made e each = split (all-reads client (before ++ x ∷ []) xs) (x.client == client) refl e
  where
    split : ((m : List Made) → deeds_in (events_of client xs) ≡ deeds_of m → Each (IsOf client) (before ++ x ∷ []) xs → Each Reads (before ++ x ∷ []) xs) → (b : Bool) → (x.client == client) ≡ b → deeds_in (cond b (x ∷ events_of client xs) (events_of client xs)) ≡ deeds_of made → Reads before x × Each Reads (before ++ x ∷ []) xs
    split again false n d = let yes = eq-eqb x.client client each.0 in absurd cc
    split again true y d =
        let s = same-deeds (deed_in x) (deeds_in (events_of client xs)) made d in
        (subst IsRead (sym (ap (λ (d : Deed). d.op) s.here)) (reads s.first.visit), again s.rest s.others each.1)

-- What an expiry changed is told, whatever its end.
use Rattle.std.proofs.Common.{◌≡◌, ℕ, Bool, true, false, List, [], ◌∷◌, ◌++◌, refl, sym, ◌∙◌, ap, subst, append_assoc, append-nil}
use Rattle.std.specs.Prelude.{◌==◌, Result, Ok, Err}
use Rattle.std.proofs.lemmas.List.Elements.{filter-append}
use Rattle.ice_ids.specs.declared.Id12.{Id12}
use Rattle.object_store.specs.declared.keys.Key.{Key}
use Rattle.object_store.specs.declared.keys.Key.TheVariants.{Snapshot, Manifest, Txn, Chunk, Branch, Tag, Tombstone, Lease}
use Rattle.object_store.specs.declared.keys.Part.{Part}
use Rattle.object_store.specs.declared.keys.Part.TheVariants.{Branches, Tags}
use Rattle.object_store.specs.declared.keys.Why.TheVariants.{Expire}
use Rattle.object_store.specs.declared.events.Version.{Version}
use Rattle.object_store.specs.declared.events.Op.{Op}
use Rattle.object_store.specs.declared.events.Op.TheVariants.{Get, PutNew, PutOver, Remove, RemoveAt, List as ListPart}
use Rattle.object_store.specs.declared.events.New.TheVariants.{Done as New_done, Present as New_present}
use Rattle.object_store.specs.declared.events.Over.TheVariants.{Done as Over_done, Moved as Over_moved}
use Rattle.object_store.specs.declared.events.GoneAt.TheVariants.{Done as Gone_done, Moved as Gone_moved}
use Rattle.object_store.specs.declared.events.Reply.{Reply}
use Rattle.object_store.specs.declared.events.Reply.TheVariants.{Got, New, Over, Gone as Is_gone, GoneAt, Listed as Is_listed, Failed}
use Rattle.object_store.specs.declared.events.Event.{Event}
use Rattle.store_api.specs.declared.machines.Refusal.{Refusal}
use Rattle.store_api.specs.declared.machines.Refusal.TheVariants as R
use Rattle.store_api.specs.Journal.{Each}
use Rattle.store_api.specs.Callers.{Caller, IsOther, Makes, own_event}
use Rattle.store_api.specs.Program.{Prog, Done, Ask as Ask_next, is_told_surely, events_of}
use Rattle.store_api.specs.Plays.{Play, Ended, Ask, Or, behind, call, PlayLeads}
use Rattle.store_api.proofs.Programs.{events_of-others, own-one}
use Rattle.live_refs.specs.Live.{live}
use Rattle.cleanup_reports.specs.declared.cases.What.{What}
use Rattle.cleanup_reports.specs.declared.cases.What.TheVariants.{Kept, Cut, Dropped, Moved, Absent}
use Rattle.cleanup_reports.specs.declared.cases.RefCase.{RefCase}
use Rattle.expiry.specs.declared.terms.Terms.{Terms}
use Rattle.expiry.specs.declared.look.Decision.{Decision}
use Rattle.expiry.specs.declared.look.Decision.TheVariants.{Gone, Keeps, Drops, Cuts}
use Rattle.expiry.specs.declared.standing.Expired.{Expired}
use Rattle.expiry.specs.Looks.{look_program}
use Rattle.expiry.specs.Plays.{ends_with, drop_op, drop_told, cut_told, decide, after_look, after_case, expire_each, after_listing, listing, all_done, expire_tags, expire_play}
use Rattle.expiry.specs.Changes.{ExpiryChange, change_of, changes_told, change_by, changed, changes_in, ChangesTold}
use Rattle.expiry.proofs.Playing.{Reads}
use Rattle.expiry.proofs.Reading.{look-reads}

-- ---- lists
changes-more : (own : List Event) (event : Event) → changes_in (own ++ event ∷ []) ≡ changes_in own ++ changed event.op event.reply
changes-more [] event = append-nil (changed event.op event.reply)
changes-more (x ∷ own) event = ap (λ (l : List ExpiryChange). changed x.op x.reply ++ l) (changes-more own event) ∙ sym (append_assoc (changed x.op x.reply) (changes_in own) (changed event.op event.reply))

told-more : (cases : List RefCase) (ref : Key) (what : What) → changes_told (cases ++ record { key = ref; what = what } ∷ []) ≡ changes_told cases ++ change_of ref what
told-more [] ref what = append-nil (change_of ref what)
told-more (c ∷ cases) ref what = ap (λ (l : List ExpiryChange). change_of c.key c.what ++ l) (told-more cases ref what) ∙ sym (append_assoc (change_of c.key c.what) (changes_told cases) (change_of ref what))

-- ---- replies
-- a cut is told as one, or as moved
cut-same : (ref : Key) (id : Id12) (reply : Reply) → change_by (Snapshot id) (cut_told id reply) ≡ change_by ref (cut_told id reply)
cut-same ref id (Over (Over_done version now)) = refl
cut-same ref id (Over (Over_moved there now)) = refl
cut-same ref id (Got x) = refl
cut-same ref id (New x) = refl
cut-same ref id (Is_gone x) = refl
cut-same ref id (GoneAt x) = refl
cut-same ref id (Is_listed x) = refl
cut-same ref id (Failed done) = refl

-- a get tells no drop
get-none : (by : Caller) (ref key : Key) (reply : Reply) (old new : List Event) → Makes by (Get key) reply old new → [] ≡ change_by ref (drop_told reply)
get-none by ref key (Got x) old new m = refl
get-none by ref key (Failed done) old new m = refl
get-none by ref key (Over x) old new m = refl
get-none by ref key (Is_gone x) old new m = refl
get-none by ref key (Is_listed x) old new m = refl
get-none by ref key (New (New_done version now)) old new m = let e = m.answered.answered in absurd (cc)
get-none by ref key (New (New_present version now)) old new m = refl
get-none by ref key (GoneAt (Gone_done now)) old new m = let e = m.answered.answered in absurd (cc)
get-none by ref key (GoneAt (Gone_moved there now)) old new m = refl

drop-same : (by : Caller) (ref : Key) (version : Version) (reply : Reply) (old new : List Event) → Makes by (drop_op ref version) reply old new → changed (drop_op ref version) reply ≡ change_by ref (drop_told reply)
drop-same by (Branch name) version reply old new m = refl
drop-same by (Tag name) version reply old new m = refl
drop-same by (Snapshot id) version reply old new m = get-none by (Snapshot id) (Snapshot id) reply old new m
drop-same by (Manifest id) version reply old new m = get-none by (Manifest id) (Manifest id) reply old new m
drop-same by (Txn id) version reply old new m = get-none by (Txn id) (Txn id) reply old new m
drop-same by (Chunk id) version reply old new m = get-none by (Chunk id) (Chunk id) reply old new m
drop-same by (Tombstone name) version reply old new m = get-none by (Tombstone name) (Tombstone name) reply old new m
drop-same by (Lease id) version reply old new m = get-none by (Lease id) (Lease id) reply old new m

module _ (by : Caller) (start : List Event) where
  -- these changes the client's own operations behind `start` were told to have made
  record IsAt (c : List ExpiryChange) (journal : List Event) : Type 0 where
    more : List Event
    since : journal ≡ start ++ more
    changes : c ≡ changes_in (events_of by.number more)

  at-begin : IsAt [] start
  at-begin = record { more = []; since = sym (append-nil start); changes = refl }

  at-same : (c d : List ExpiryChange) (h : List Event) → c ≡ d → IsAt c h → IsAt d h
  at-same c d h e a = subst (λ (x : List ExpiryChange). IsAt x h) e a

  own-waits : (old between : List Event) → Each (IsOther by) old between → (more : List Event) → events_of by.number (more ++ between) ≡ events_of by.number more
  own-waits old between o more =
      filter-append (λ (e : Event). e.client == by.number) more between
      ∙ (ap (λ (l : List Event). events_of by.number more ++ l) (events_of-others by old between o) ∙ append-nil (events_of by.number more))

  at-step : (c : List ExpiryChange) (op : Op) (reply : Reply) (journal new : List Event) → IsAt c journal → Makes by op reply journal new → IsAt (c ++ changed op reply) new
  at-step c op reply journal new a m =
      let event : Event = own_event by op reply m.time in
      let between = m.waits.between in
      let own : events_of by.number ((a.more ++ between) ++ event ∷ []) ≡ events_of by.number a.more ++ event ∷ [] =
      filter-append (λ (e : Event). e.client == by.number) (a.more ++ between) (event ∷ [])
      ∙ (ap (λ (l : List Event). l ++ events_of by.number (event ∷ [])) (own-waits journal between m.waits.others a.more)
      ∙ ap (λ (l : List Event). events_of by.number a.more ++ l) (own-one by.number event refl)) in
      record {
        more = (a.more ++ between) ++ event ∷ [];
        since = m.is ∙ (ap (λ (h : List Event). h ++ event ∷ []) (m.waits.is ∙ (ap (λ (h : List Event). h ++ between) a.since ∙ append_assoc start a.more between)) ∙ append_assoc start (a.more ++ between) (event ∷ []));
        changes = ap (λ (l : List ExpiryChange). l ++ changed op reply) a.changes ∙ (sym (changes-more (events_of by.number a.more) event) ∙ ap changes_in (sym own));
      }

  -- an operation that changes nothing
  at-still : (c : List ExpiryChange) (op : Op) (reply : Reply) (journal new : List Event) → changed op reply ≡ [] → IsAt c journal → Makes by op reply journal new → IsAt c new
  at-still c op reply journal new none a m = at-same (c ++ changed op reply) c new (ap (λ (l : List ExpiryChange). c ++ l) none ∙ append-nil c) (at-step c op reply journal new a m)

  abbrev Told : Play Expired → List Event → Type 0
  Told p h = PlayLeads (ChangesTold by.number start) by p h

  ends : (cases : List RefCase) (result : Result (Unit {0}) Refusal) (h : List Event) → IsAt (changes_told cases) h → Told (ends_with cases result) h
  unfolding PlayLeads
  ends cases result h a = record { more = a.more; since = a.since; told = a.changes }

  behind-told : (op : Op) (reply : Reply) (p s : Play Expired) (h : List Event) (surely : Bool) → is_told_surely op reply ≡ surely → Told p h → Told s h → Told (behind op reply p s) h
  unfolding PlayLeads
  behind-told op reply p s h true e t u = rw e t
  behind-told op reply p s h false e t u = rw e (t, u)

  -- a call of what makes gets alone
  calls : {B : Type 0} (c : List ExpiryChange) (f : Result B Refusal → Play Expired) → ((a : Result B Refusal) (h : List Event) → IsAt c h → Told (f a) h) → (p : Prog (Result B Refusal)) (h : List Event) → Reads p → IsAt c h → Told (call p f) h
  unfolding PlayLeads Reads
  calls c f g (Done a) h r n = g a h n
  calls c f g (Ask_next (Get key) k) h r n = (
    g (Err R.NoMemory) h n,
    λ reply new m.
        let z : IsAt c new = at-still c (Get key) reply h new refl n m in
        behind-told (Get key) reply (call (k reply) f) (f (Err R.NoMemory)) new (is_told_surely (Get key) reply) refl (calls c f g (k reply) new (r.1 reply) z) (g (Err R.NoMemory) new z),
  )
  calls c f g (Ask_next (PutNew key bytes why) k) h r n = absurd r.0
  calls c f g (Ask_next (PutOver key bytes old why) k) h r n = absurd r.0
  calls c f g (Ask_next (Remove key why) k) h r n = absurd r.0
  calls c f g (Ask_next (RemoveAt key old why) k) h r n = absurd r.0
  calls c f g (Ask_next (ListPart part) k) h r n = absurd r.0

  -- ---- one ref
  module _ (ref : Key) (cases : List RefCase) (next : List RefCase → Play Expired) (again : (more : List RefCase) (h : List Event) → IsAt (changes_told more) h → Told (next more) h) where
    case-told : (result : Result What Refusal) (h : List Event) → IsAt (changes_told cases ++ change_by ref result) h → Told (after_case ref cases next result) h
    case-told (Ok what) h a = again (cases ++ record { key = ref; what = what } ∷ []) h (at-same (changes_told cases ++ change_of ref what) (changes_told (cases ++ record { key = ref; what = what } ∷ [])) h (sym (told-more cases ref what)) a)
    case-told (Err why) h a = ends cases (Err why) h (at-same (changes_told cases ++ []) (changes_told cases) h (append-nil (changes_told cases)) a)

    no-change : (h : List Event) → IsAt (changes_told cases) h → IsAt (changes_told cases ++ []) h
    no-change h a = at-same (changes_told cases) (changes_told cases ++ []) h (sym (append-nil (changes_told cases))) a

    dropped : (version : Version) (h : List Event) → IsAt (changes_told cases) h → Told (decide ref (after_case ref cases next) (Drops version)) h
    unfolding PlayLeads
    dropped version h a = (
      case-told (Err R.NoMemory) h (no-change h a),
      λ reply new m. case-told (drop_told reply) new (at-same (changes_told cases ++ changed (drop_op ref version) reply) (changes_told cases ++ change_by ref (drop_told reply)) new (ap (λ (l : List ExpiryChange). changes_told cases ++ l) (drop-same by ref version reply h new m)) (at-step (changes_told cases) (drop_op ref version) reply h new a m)),
    )

    was-cut : (id : Id12) (version : Version) (bytes : List ℕ) (h : List Event) → IsAt (changes_told cases) h → Told (decide ref (after_case ref cases next) (Cuts id version bytes)) h
    unfolding PlayLeads
    was-cut id version bytes h a = (
      case-told (Err R.NoMemory) h (no-change h a),
      λ reply new m. case-told (cut_told id reply) new (at-same (changes_told cases ++ changed (PutOver (Snapshot id) bytes version Expire) reply) (changes_told cases ++ change_by ref (cut_told id reply)) new (ap (λ (l : List ExpiryChange). changes_told cases ++ l) (cut-same ref id reply)) (at-step (changes_told cases) (PutOver (Snapshot id) bytes version Expire) reply h new a m)),
    )

    looked : (answer : Result Decision Refusal) (h : List Event) → IsAt (changes_told cases) h → Told (after_look ref (after_case ref cases next) answer) h
    looked (Ok Gone) h a = case-told (Ok Absent) h (no-change h a)
    looked (Ok Keeps) h a = case-told (Ok Kept) h (no-change h a)
    looked (Ok (Drops version)) h a = dropped version h a
    looked (Ok (Cuts id version bytes)) h a = was-cut id version bytes h a
    looked (Err why) h a = case-told (Err why) h (no-change h a)

  -- ---- ref after ref
  module _ (t : Terms) where
    each : (next : List RefCase → Play Expired) → ((cases : List RefCase) (h : List Event) → IsAt (changes_told cases) h → Told (next cases) h) → (refs : List Key) (cases : List RefCase) (h : List Event) → IsAt (changes_told cases) h → Told (expire_each t refs cases next) h
    unfolding expire_each
    each next g [] cases h a = g cases h a
    each next g (ref ∷ refs) cases h a = calls (changes_told cases) (after_look ref (after_case ref cases (λ more. expire_each t refs more next))) (looked ref cases (λ more. expire_each t refs more next) (each next g refs)) (look_program t ref) h (look-reads t ref) a

    listed : (part : Part) (cases : List RefCase) (next : List Key → Play Expired) → ((refs : List Key) (h : List Event) → IsAt (changes_told cases) h → Told (next refs) h) → (h : List Event) → IsAt (changes_told cases) h → Told (listing part cases next) h
    unfolding PlayLeads
    listed part cases next f h a = (ends cases (Err R.NoMemory) h a, λ reply new m. heard reply new (at-still (changes_told cases) (ListPart part) reply h new refl a m))
      where
        heard : (reply : Reply) (new : List Event) → IsAt (changes_told cases) new → Told (after_listing cases next reply) new
        heard (Is_listed l) new z = (f (live l.entries) new z, ends cases (Err R.NoMemory) new z)
        heard (Got x) new z = ends cases (Err R.StoreFault) new z
        heard (New x) new z = ends cases (Err R.StoreFault) new z
        heard (Over x) new z = ends cases (Err R.StoreFault) new z
        heard (Is_gone x) new z = ends cases (Err R.StoreFault) new z
        heard (GoneAt x) new z = ends cases (Err R.StoreFault) new z
        heard (Failed done) new z = ends cases (Err R.StoreFault) new z

    tags : (cases : List RefCase) (h : List Event) → IsAt (changes_told cases) h → Told (expire_tags t cases) h
    tags cases h a = listed Tags cases (λ refs. expire_each t refs cases all_done) (λ refs k z. each all_done (λ more j y. ends more (Ok tt) j y) refs cases k z) h a

    pub changes-told : Told (expire_play t) start
    changes-told = listed Branches [] (λ refs. expire_each t refs [] (expire_tags t)) (λ refs k z. each (expire_tags t) tags refs [] k z) start at-begin

  -- others leave it
  pub changes-kept : (outcome : Expired) (journal between : List Event) → Each (IsOther by) journal between → ChangesTold by.number start outcome journal → ChangesTold by.number start outcome (journal ++ between)
  changes-kept outcome journal between o c = record {
    more = c.more ++ between;
    since = ap (λ (h : List Event). h ++ between) c.since ∙ append_assoc start c.more between;
    told = c.told ∙ ap changes_in (sym (own-waits journal between o c.more));
  }

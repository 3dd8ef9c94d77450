-- What the releases of leases tell, and that they are owed.
use Rattle.std.proofs.Common.{◌≡◌, ◌++◌, ◌∙◌, ℕ, List, [], ◌∷◌, append-nil, append_assoc, refl, sym}
use Rattle.std.specs.Prelude.{Option, Some, None, Result, All}
use Rattle.std.proofs.lemmas.List.Elements.{All-head, All-tail}
use Rattle.ice_ids.specs.declared.Id12.{Id12}
use Rattle.ice_ids.specs.declared.drawing.AnyIds.{AnyIds}
use Rattle.object_store.specs.declared.keys.Key.TheVariants.{Lease as Lease_key}
use Rattle.object_store.specs.declared.keys.Why.TheVariants.{Lease as For_lease}
use Rattle.object_store.specs.declared.events.Op.{Op}
use Rattle.object_store.specs.declared.events.Op.TheVariants.{Remove}
use Rattle.object_store.specs.declared.events.Event.{Event}
use Rattle.store_api.specs.declared.machines.Refusal.{Refusal}
use Rattle.store_api.specs.Journal.{Each}
use Rattle.store_api.specs.Callers.{Caller, IsOther}
use Rattle.store_api.specs.Plays.{Play, Ended, Ask, Or, PlayKeeps, PlayLeads}
use Rattle.repo_read.proofs.Own.{MadeGets-append, MadeGets-none, Since, Since-makes, others-get}
use Rattle.session.specs.Sources.{MayDrawObject}
use Rattle.leases.specs.Plays.{release_play}
use Rattle.leases.specs.Laws.{LeaseLaw}
use Rattle.leases.specs.Telling.{ReleaseTells}
use Rattle.leases.proofs.Following.{PlayKeeps-followed, PlayLeads-followed}
use Rattle.play_outcome.specs.declared.outcome.Shown.{Shown}
use Rattle.play_outcome.specs.declared.outcome.Shown.TheVariants.{Node, Meta, Chunk, Fill, Cells, Key, Log, Lease}
use Rattle.play_outcome.specs.declared.outcome.End.{End}
use Rattle.play_outcome.specs.declared.outcome.Outcome.{Outcome}
use Rattle.play_outcome.proofs.Plays.{PlayLeads-weaker}
use Rattle.play_tasks.specs.Playing.{left_by, release_from}
use Rattle.play_tasks.specs.Telling.{WereReleased}
use Rattle.play_tasks.specs.inside.Releasing.{lease_in}
use Rattle.play_tasks.proofs.Releases.{each-release, release-cases}

-- ---- what they tell stays so
module _ (by : Caller) (journal more : List Event) (others : Each (IsOther by) journal more) where
  kept : (before : List Shown) (first : List Event) (after : List Shown) → WereReleased by.number before first after journal → WereReleased by.number before first after (journal ++ more)
  unfolding WereReleased
  kept [] first after w = (w.0, MadeGets-append by.number first journal more (others-get by journal more others) w.1)
  kept (Lease line id left ∷ before) first after w = (w.0, w.1, w.2, w.3, w.4, kept before w.1 w.2 w.5)
  kept (Node line array path ∷ before) first after w = (w.0, w.1, kept before first w.0 w.2)
  kept (Meta line text ∷ before) first after w = (w.0, w.1, kept before first w.0 w.2)
  kept (Chunk line bytes ∷ before) first after w = (w.0, w.1, kept before first w.0 w.2)
  kept (Fill line ∷ before) first after w = (w.0, w.1, kept before first w.0 w.2)
  kept (Cells line numbers ∷ before) first after w = (w.0, w.1, kept before first w.0 w.2)
  kept (Key line bytes ∷ before) first after w = (w.0, w.1, kept before first w.0 w.2)
  kept (Log line id flushed_at message props ∷ before) first after w = (w.0, w.1, kept before first w.0 w.2)

pub WereReleased-others : (by : Caller) (before : List Shown) (first : List Event) (after : List Shown) (journal more : List Event) → Each (IsOther by) journal more → WereReleased by.number before first after journal → WereReleased by.number before first after (journal ++ more)
WereReleased-others by before first after journal more others w = kept by journal more others before first after w

-- ---- what they tell
-- no lease: it stands as it did
other-released : (client : ℕ) (s : Shown) → lease_in s ≡ None → (before : List Shown) (first : List Event) (after : List Shown) (journal : List Event) → WereReleased client before first after journal → WereReleased client (s ∷ before) first (s ∷ after) journal
unfolding WereReleased
other-released client (Node line array path) none before first after journal w = (after, refl, w)
other-released client (Meta line text) none before first after journal w = (after, refl, w)
other-released client (Chunk line bytes) none before first after journal w = (after, refl, w)
other-released client (Fill line) none before first after journal w = (after, refl, w)
other-released client (Cells line numbers) none before first after journal w = (after, refl, w)
other-released client (Key line bytes) none before first after journal w = (after, refl, w)
other-released client (Log line id flushed_at message props) none before first after journal w = (after, refl, w)
other-released client (Lease line id left) none before first after journal w = absurd (cc)

lease-released : (client : ℕ) (line : ℕ) (id : Id12) (left : Option Refusal) (result : Result (Unit {0}) Refusal) (before : List Shown) (first mid : List Event) (after : List Shown) (journal : List Event) → ReleaseTells client id first result mid → WereReleased client before mid after journal → WereReleased client (Lease line id left ∷ before) first (Lease line id (left_by result) ∷ after) journal
unfolding WereReleased
lease-released client line id left result before first mid after journal tells w = (result, mid, after, refl, tells, w)

-- what is shown was done before, or was released
pub record HasReleased (client : ℕ) (end : End) (done left : List Shown) (first : List Event) (outcome : Outcome) (journal : List Event) : Type 0 where
  pub after : List Shown
  pub shown_is : outcome.shown ≡ done ++ after
  pub end_is : outcome.end ≡ end
  pub released : WereReleased client left first after journal

module _ (law : (by : Caller) → LeaseLaw by) (by : Caller) (end : End) where
  abbrev Leads : List Shown → List Shown → Play Outcome → Type 0
  Leads done left p = (first : List Event) → PlayLeads (HasReleased by.number end done left first) by p first

  none-leads : (done : List Shown) → Leads done [] (Ended (record { shown = done; end = end }))
  unfolding PlayLeads WereReleased
  none-leads done first = record { after = []; shown_is = sym (append-nil done); end_is = refl; released = (refl, MadeGets-none by.number first) }

  next-leads : (done : List Shown) (line : ℕ) (id : Id12) (left : Option Refusal) (more : List Shown)
      → ((result : Result (Unit {0}) Refusal) → Leads (done ++ Lease line id (left_by result) ∷ []) more (release_from (done ++ Lease line id (left_by result) ∷ []) more end)) → Leads done (Lease line id left ∷ more) (release_from done (Lease line id left ∷ more) end)
  next-leads done line id left more rest first =
      let f : Result (Unit {0}) Refusal → Play Outcome = λ result. release_from (done ++ Lease line id (left_by result) ∷ []) more end in
      PlayLeads-followed (HasReleased by.number end done (Lease line id left ∷ more) first) (ReleaseTells by.number id first) by (release_play id) f first ((law by).release_leads id first) (λ result mid tells.
      PlayLeads-weaker (HasReleased by.number end (done ++ Lease line id (left_by result) ∷ []) more mid) (HasReleased by.number end done (Lease line id left ∷ more) first) (λ outcome h r. record {
        after = Lease line id (left_by result) ∷ r.after;
        shown_is = r.shown_is ∙ append_assoc done (Lease line id (left_by result) ∷ []) r.after;
        end_is = r.end_is;
        released = lease-released by.number line id left result more first mid r.after h tells r.released;
      }) by (f result) mid (rest result mid))

  other-leads : (done : List Shown) (s : Shown) (more : List Shown) → lease_in s ≡ None → Leads (done ++ s ∷ []) more (release_from (done ++ s ∷ []) more end) → Leads done (s ∷ more) (release_from (done ++ s ∷ []) more end)
  other-leads done s more none rest first =
      PlayLeads-weaker (HasReleased by.number end (done ++ s ∷ []) more first) (HasReleased by.number end done (s ∷ more) first) (λ outcome h r. record {
        after = s ∷ r.after;
        shown_is = r.shown_is ∙ append_assoc done (s ∷ []) r.after;
        end_is = r.end_is;
        released = other-released by.number s none more first r.after h r.released;
      }) by (release_from (done ++ s ∷ []) more end) first (rest first)

  pub releases-lead : (done left : List Shown) (first : List Event) → PlayLeads (HasReleased by.number end done left first) by (release_from done left end) first
  releases-lead done left = each-release end Leads none-leads next-leads other-leads done left

-- ---- they come behind what was there
pub PlayLeads-since : {A : Type 0} (Q : A → List Event → Type 0) (by : Caller) (start : List Event) (p : Play A) (journal : List Event) → Since start journal → PlayLeads Q by p journal → PlayLeads (λ a h. Since start h × Q a h) by p journal
unfolding PlayLeads
PlayLeads-since Q by start (Ended a) journal since l = (since, l)
PlayLeads-since Q by start (Ask op s g) journal since l = (PlayLeads-since Q by start s journal since l.0, λ reply new m. PlayLeads-since Q by start (g reply) new (Since-makes by start op reply journal new m since) (l.1 reply new m))
PlayLeads-since Q by start (Or p q) journal since l = (PlayLeads-since Q by start p journal since l.0, PlayLeads-since Q by start q journal since l.1)

-- ---- each is owed
-- a lease that is shown is under an id that the client may draw
abbrev pub IsDrawnLease : AnyIds → Shown → Type 0
IsDrawnLease ids s = (line : ℕ) (id : Id12) → lease_in s ≡ Some (line, id) → MayDrawObject ids id

module _ (P : List Event → ℕ → Op → Type 0) (by : Caller) (ids : AnyIds) (pays : (h : List Event) (id : Id12) → MayDrawObject ids id → P h by.number (Remove (Lease_key id) For_lease)) (end : End) where
  abbrev Kept : List Shown → List Shown → Play Outcome → Type 0
  Kept done left p = All (IsDrawnLease ids) left → (h : List Event) → PlayKeeps P by p h

  one-kept : (id : Id12) → MayDrawObject ids id → (h : List Event) → PlayKeeps P by (release_play id) h
  unfolding PlayKeeps
  one-kept id drawn h = (pays h id drawn, tt, λ reply new m. release-cases (λ p. PlayKeeps P by p new) tt tt reply)

  one-leads : (id : Id12) (h : List Event) → PlayLeads (λ result j. Unit {0}) by (release_play id) h
  unfolding PlayLeads
  one-leads id h = (tt, λ reply new m. release-cases (λ p. PlayLeads (λ result j. Unit {0}) by p new) tt tt reply)

  none-kept : (done : List Shown) → Kept done [] (Ended (record { shown = done; end = end }))
  unfolding PlayKeeps
  none-kept done all h = tt

  next-kept : (done : List Shown) (line : ℕ) (id : Id12) (left : Option Refusal) (more : List Shown)
      → ((result : Result (Unit {0}) Refusal) → Kept (done ++ Lease line id (left_by result) ∷ []) more (release_from (done ++ Lease line id (left_by result) ∷ []) more end)) → Kept done (Lease line id left ∷ more) (release_from done (Lease line id left ∷ more) end)
  next-kept done line id left more rest all h =
      PlayKeeps-followed P (λ result j. Unit {0}) by (release_play id) (λ result. release_from (done ++ Lease line id (left_by result) ∷ []) more end) h (one-kept id (All-head (IsDrawnLease ids) (Lease line id left) more all line id refl) h) (one-leads id h)
      (λ result j q. rest result (All-tail (IsDrawnLease ids) (Lease line id left) more all) j)

  other-kept : (done : List Shown) (s : Shown) (more : List Shown) → lease_in s ≡ None → Kept (done ++ s ∷ []) more (release_from (done ++ s ∷ []) more end) → Kept done (s ∷ more) (release_from (done ++ s ∷ []) more end)
  other-kept done s more none rest all h = rest (All-tail (IsDrawnLease ids) s more all) h

  pub releases-keep : (done left : List Shown) → All (IsDrawnLease ids) left → (h : List Event) → PlayKeeps P by (release_from done left end) h
  releases-keep done left = each-release end Kept none-kept next-kept other-kept done left

-- two facts of an outcome
pub PlayLeads-both : {A : Type 0} (Q R : A → List Event → Type 0) (by : Caller) (p : Play A) (journal : List Event) → PlayLeads Q by p journal → PlayLeads R by p journal → PlayLeads (λ a h. Q a h × R a h) by p journal
unfolding PlayLeads
PlayLeads-both Q R by (Ended a) journal l m = (l, m)
PlayLeads-both Q R by (Ask op s g) journal l m = (PlayLeads-both Q R by s journal l.0 m.0, λ reply new k. PlayLeads-both Q R by (g reply) new (l.1 reply new k) (m.1 reply new k))
PlayLeads-both Q R by (Or p q) journal l m = (PlayLeads-both Q R by p journal l.0 m.0, PlayLeads-both Q R by q journal l.1 m.1)

-- What the outcomes of a lease and of its release tell, whatever others do.
use Rattle.std.proofs.Common.{◌≡◌, inl, inr, ℕ, Bool, true, false, cond, List, [], ◌∷◌, ◌++◌, length, refl, ◌∙◌, ap, subst, append_assoc, eqb-true, eq-eqb}
use Rattle.std.specs.Prelude.{Some, Result, Ok, Err, ◌==◌}
use Rattle.ice_ids.specs.declared.Id12.{Id12}
use Rattle.ref_file.specs.Refs.{ref_bytes}
use Rattle.object_store.specs.declared.keys.Key.{Key}
use Rattle.object_store.specs.declared.keys.Key.TheVariants.{Branch, Tombstone, Lease}
use Rattle.object_store.specs.declared.keys.Why.TheVariants.{Lease as For_lease}
use Rattle.object_store.specs.declared.events.Version.{Version}
use Rattle.object_store.specs.declared.events.Op.TheVariants.{Get}
use Rattle.object_store.specs.declared.events.Got.TheVariants.{Found, Absent}
use Rattle.object_store.specs.declared.events.New.TheVariants.{Done as New_done, Present}
use Rattle.object_store.specs.declared.events.Reply.{Reply}
use Rattle.object_store.specs.declared.events.Reply.TheVariants.{Got, New, Gone as Is_gone, Failed}
use Rattle.object_store.specs.declared.events.Event.{Event}
use Rattle.object_store.specs.Machine.{found}
use Rattle.store_api.specs.declared.machines.Refusal.{Refusal}
use Rattle.store_api.specs.declared.machines.Refusal.TheVariants.{Moved}
use Rattle.store_api.specs.Callers.{Caller, Makes, own_event}
use Rattle.store_api.specs.Plays.{PlayLeads}
use Rattle.store_api.specs.Telling.{MadeGets}
use Rattle.store_api.proofs.Happening.{new-present, stands-as}
use Rattle.session.specs.declared.origin.Tip.{Tip}
use Rattle.repo_read.proofs.Own.{MadeGets-none, MadeGets-get, Since, Since-gets, made-more, own-made, one-made}
use Rattle.repo_read.proofs.Replies.{got-absent, got-cases, got-holds, new-cases, new-done}
use Rattle.repo_read.proofs.Namings.{failed-made}
use Rattle.leases.specs.declared.lease.Leased.{Leased}
use Rattle.leases.specs.declared.witness.Witness.{Witness}
use Rattle.leases.specs.declared.witness.Witness.TheVariants as W
use Rattle.leases.specs.Plays.{after_put, after_release, confirm_play, confirmed, has_none, lease_play, leases, release_play, releases, stands_at, witness_key}
use Rattle.leases.specs.Telling.{BranchWasAt, LeaseTells, PlacedTells, ReleaseTells, WasPlaced, placing}
use Rattle.leases.proofs.Replying.{gone-cases, none-stands}

-- ---- own gets behind a put
module _ (by : Caller) (id base : Id12) (start : List Event) where
  -- a lease that was placed is so behind a get
  abbrev placed-on : (key : Key) (reply : Reply) (old new : List Event) → Makes by (Get key) reply old new → WasPlaced by.number id base start old → WasPlaced by.number id base start new
  placed-on key reply old new m p = record {
    version = p.version;
    now = p.now;
    made = record {
      own = record {
        before = p.made.own.before;
        since = p.made.own.since;
        before_is = p.made.own.before_is;
        event = p.made.own.event;
        after = p.made.own.after ++ (m.waits.between ++ own_event by (Get key) reply m.time ∷ []);
        is =
            made-more by (Get key) reply old new m
            ∙ (ap (λ (h : List Event). h ++ (m.waits.between ++ own_event by (Get key) reply m.time ∷ [])) p.made.own.is
            ∙ append_assoc p.made.own.before (p.made.own.event ∷ p.made.own.after) (m.waits.between ++ own_event by (Get key) reply m.time ∷ []));
        client_is = p.made.own.client_is;
        op_is = p.made.own.op_is;
        reply_is = p.made.own.reply_is;
      };
      earlier = p.made.earlier;
      later = MadeGets-get by (placing p) key reply old new m p.made.later;
    };
    position = p.position;
    free = p.free;
  }

  behind : (journal : List Event) → (p : WasPlaced by.number id base start journal) → Since (placing p) journal
  behind journal p = Since-gets by.number (placing p) journal p.made.later

  -- the branch stood at this version
  found-at : (branch bytes : List ℕ) (version : Version) (now : ℕ) (from old new : List Event) → Since from old → Makes by (Get (Branch branch)) (Got (Found bytes version now)) old new → BranchWasAt by.number branch version.0 from new
  found-at branch bytes version now from old new since n =
      let was = got-holds (found n.middle (Branch branch)) bytes version now n.time n.answered.answered in
      record {
        bytes = bytes;
        got = record { now = now; own = own-made by from (Get (Branch branch)) (Got (Found bytes version now)) old new n since };
        stood = stands-as n.middle (Branch branch) was.stored version.0 was.stands was.version_is;
      }

  -- ---- behind the get of a branch
  module _ (tip : Tip) where
    abbrev BranchTells : Result (Unit {0}) Refusal → List Event → Type 0
    BranchTells result journal = PlacedTells by.number id base (W.Branch tip) start result journal

    by-version : (version : Version) (journal : List Event) → (p : WasPlaced by.number id base start journal) → BranchWasAt by.number tip.branch version.0 (placing p) journal
        → (same : Bool) → (version.0 == tip.version.0) ≡ same → BranchTells (cond same (Ok tt) (Err (Moved (Some version)))) journal
    by-version version journal p at true e = record { placed = p; confirmed = subst (λ (n : ℕ). BranchWasAt by.number tip.branch n (placing p) journal) (eqb-true version.0 tip.version.0 e) at }
    by-version version journal p at false e = record { placed = p; refuted = (λ same. let other = eq-eqb version.0 tip.version.0 same in cc, at) }

    branch-told : (reply : Reply) (old new : List Event) → WasPlaced by.number id base start old → Makes by (Get (Branch tip.branch)) reply old new → BranchTells (stands_at tip.version reply) new
    branch-told reply old new p m = got-cases by old new (λ r. BranchTells (stands_at tip.version r) new) (Branch tip.branch)
        (λ bytes version now n.
        by-version version new (placed-on (Branch tip.branch) (Got (Found bytes version now)) old new n p) (found-at tip.branch bytes version now (placing p) old new (behind old p) n) (version.0 == tip.version.0) refl)
        (λ now n. record {
          placed = placed-on (Branch tip.branch) (Got (Absent now)) old new n p;
          refuted = record { now = now; own = own-made by (placing p) (Get (Branch tip.branch)) (Got (Absent now)) old new n (behind old p); nothing = got-absent (found n.middle (Branch tip.branch)) now n.time n.answered.answered };
        })
        (λ done n. inr (record { placed = placed-on (Branch tip.branch) (Failed done) old new n p; done = done; own = own-made by (placing p) (Get (Branch tip.branch)) (Failed done) old new n (behind old p) }))
        reply m

  -- ---- behind the get of a tombstone
  module _ (tag : List ℕ) where
    abbrev TagTells : Result (Unit {0}) Refusal → List Event → Type 0
    TagTells result journal = PlacedTells by.number id base (W.Tag tag) start result journal

    tag-told : (reply : Reply) (old new : List Event) → WasPlaced by.number id base start old → Makes by (Get (Tombstone tag)) reply old new → TagTells (has_none reply) new
    tag-told reply old new p m = got-cases by old new (λ r. TagTells (has_none r) new) (Tombstone tag)
        (λ bytes version now n. record {
          placed = placed-on (Tombstone tag) (Got (Found bytes version now)) old new n p;
          refuted = record { bytes = bytes; got = record { now = now; own = own-made by (placing p) (Get (Tombstone tag)) (Got (Found bytes version now)) old new n (behind old p) } };
        })
        (λ now n. record {
          placed = placed-on (Tombstone tag) (Got (Absent now)) old new n p;
          confirmed = record { now = now; own = own-made by (placing p) (Get (Tombstone tag)) (Got (Absent now)) old new n (behind old p); nothing = got-absent (found n.middle (Tombstone tag)) now n.time n.answered.answered };
        })
        (λ done n. inr (record { placed = placed-on (Tombstone tag) (Failed done) old new n p; done = done; own = own-made by (placing p) (Get (Tombstone tag)) (Failed done) old new n (behind old p) }))
        reply m

  confirm-told : (w : Witness) (reply : Reply) (old new : List Event) → WasPlaced by.number id base start old → Makes by (Get (witness_key w)) reply old new → PlacedTells by.number id base w start (confirmed w reply) new
  confirm-told (W.Branch tip) reply old new p m = branch-told tip reply old new p m
  confirm-told (W.Tag tag) reply old new p m = tag-told tag reply old new p m

  -- ---- a lease
  module _ (w : Witness) where
    abbrev Tells : Leased → List Event → Type 0
    Tells = LeaseTells by.number id base w start

    confirm-leads : (journal : List Event) → WasPlaced by.number id base start journal → PlayLeads Tells by (confirm_play id w) journal
    unfolding PlayLeads
    confirm-leads journal p = ((refl, p), λ reply new m. (refl, confirm-told w reply journal new p m))

    placed-by : (version : Version) (now : ℕ) (old new : List Event) → Makes by (leases id base) (New (New_done version now)) old new → MadeGets by.number start old → WasPlaced by.number id base start new
    placed-by version now old new n c =
        let free = new-done (length n.middle) n.time (found n.middle (Lease id)) version now n.answered.answered in
        record { version = version; now = now; made = one-made by start (leases id base) (New (New_done version now)) old new n c; position = free.1; free = free.0 }

    put-told : (reply : Reply) (old new : List Event) → MadeGets by.number start old → Makes by (leases id base) reply old new → PlayLeads Tells by (after_put id w reply) new
    unfolding PlayLeads
    put-told reply old new c m = new-cases by old new (λ r. PlayLeads Tells by (after_put id w r) new) (Lease id) (ref_bytes base) For_lease
        (λ version now n. confirm-leads new (placed-by version now old new n c))
        (λ version now n.
        let was = new-present (length n.middle) n.time (found n.middle (Lease id)) version now n.answered.answered in
        (refl, record { version = version; now = now; made = one-made by start (leases id base) (New (Present version now)) old new n c; there = stands-as n.middle (Lease id) was.stored version.0 was.stands was.version_is }))
        (λ done n. (refl, inl (failed-made by start (λ op. op ≡ leases id base) (leases id base) done old new refl n c)))
        reply m

    pub lease-leads : PlayLeads Tells by (lease_play id base w) start
    unfolding PlayLeads
    lease-leads = (MadeGets-none by.number start, λ reply new m. put-told reply start new (MadeGets-none by.number start) m)

-- ---- a release
module _ (by : Caller) (id : Id12) (start : List Event) where
  abbrev Frees : Result (Unit {0}) Refusal → List Event → Type 0
  Frees = ReleaseTells by.number id start

  removed-told : (reply : Reply) (old new : List Event) → MadeGets by.number start old → Makes by (releases id) reply old new → PlayLeads Frees by (after_release reply) new
  unfolding PlayLeads
  removed-told reply old new c m = gone-cases by old new (λ r. PlayLeads Frees by (after_release r) new) (Lease id) For_lease
      (λ gone n. record { gone = gone; made = one-made by start (releases id) (Is_gone gone) old new n c; absent = none-stands by (Lease id) For_lease gone n.time n.middle })
      (λ done n. failed-made by start (λ op. op ≡ releases id) (releases id) done old new refl n c)
      reply m

  pub release-leads : PlayLeads Frees by (release_play id) start
  unfolding PlayLeads
  release-leads = (MadeGets-none by.number start, λ reply new m. removed-told reply start new (MadeGets-none by.number start) m)

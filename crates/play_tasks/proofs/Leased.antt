-- A lease in the middle of a task's lines: its operations are minded, and what its session knows stays so.
use Rattle.std.proofs.Common.{◌≡◌, ◌∙◌, ℕ, List, ◌++◌, ◌∷◌, [], length, refl, sym, ap, subst}
use Rattle.std.specs.Prelude.{Some}
use Rattle.ice_ids.specs.declared.Id12.{Id12}
use Rattle.ice_ids.specs.declared.drawing.AnyIds.{AnyIds}
use Rattle.ice_ids.specs.Drawing.{after12, drawn12}
use Rattle.ref_file.specs.Refs.{ref_bytes}
use Rattle.object_store.specs.declared.keys.Key.TheVariants.{Branch, Lease}
use Rattle.object_store.specs.declared.keys.Why.{Why}
use Rattle.object_store.specs.declared.keys.Why.TheVariants.{Lease as For_lease}
use Rattle.object_store.specs.declared.events.Op.{Op}
use Rattle.object_store.specs.declared.events.Op.TheVariants.{Get, PutNew}
use Rattle.object_store.specs.declared.events.Reply.{Reply}
use Rattle.object_store.specs.declared.events.Event.{Event}
use Rattle.object_store.specs.Machine.{Slot, found, slot_of}
use Rattle.object_store.proofs.Slots.{effect-cases, slot-append_one}
use Rattle.store_api.specs.Callers.{Caller, Makes, own_event}
use Rattle.store_api.specs.Plays.{PlayKeeps, PlayLeads}
use Rattle.store_api.specs.Telling.{ChangedNothing}
use Rattle.store_api.proofs.Happening.{ChangedNothing-makes, got-nothing}
use Rattle.session.specs.Sessions.{SessionState}
use Rattle.session.specs.Sources.{IsLater}
use Rattle.session.specs.Chunks.{after_draw}
use Rattle.leases.specs.declared.witness.Witness.{Witness}
use Rattle.leases.specs.Plays.{lease_play, witness_key}
use Rattle.commit_path.specs.Owed.{Sessions}
use Rattle.commit_path.specs.Opened.{IsOpened}
use Rattle.commit_path.specs.Single.{HasPutNone}
use Rattle.commit_path.specs.Own.{Owns, OwnsChunks}
use Rattle.commit_path.proofs.Sources.{later-drawn12, later-later}
use Rattle.commit_path.proofs.Singling.{HasPutNone-makes}
use Rattle.commit_path.proofs.OwnPuts.{HasPutDrawn-later, HasPutDrawn-makes, OwnsChunks-append, drawn-now, not-put, one-object}
use Rattle.region_calls.proofs.OwnCalls.{got-owned}
use Rattle.repo_read.proofs.Own.{made-more}
use Rattle.play_tasks.proofs.Carrying.{Minds}
use Rattle.play_tasks.proofs.Going.{Laws}
use Rattle.play_tasks.proofs.LeaseWays.{put-cases}
use Rattle.play_tasks.proofs.Ready.{IsReady}

-- ---- a session that drew the id of a lease
pub drew-owns : (ids : AnyIds) (client : ℕ) (s : SessionState) (start journal : List Event) → Owns ids client s start journal → Owns ids client (after_draw s) start journal
drew-owns ids client s start journal o = record { chunks = o.chunks; drawn = HasPutDrawn-later ids s.ids (after12 s.ids) client start journal (later-drawn12 s.ids) o.drawn }

drew-opened : (s : SessionState) (journal : List Event) → IsOpened s journal → IsOpened (after_draw s) journal
drew-opened s journal o = record { named = o.named; put = o.put; had = o.had; rows = o.rows; objects = o.objects; chunks = o.chunks }

pub drew-ready : (ids : AnyIds) (client : ℕ) (start : List Event) (s : SessionState) (began h : List Event) → IsReady ids client start s began → IsOpened s h → Owns ids client (after_draw s) start h → IsReady ids client start (after_draw s) h
drew-ready ids client start s began h ready opened owns = record {
  opened = drew-opened s h opened;
  spelled = record {
    base = ready.spelled.base;
    of_snapshot = record { file = ready.spelled.of_snapshot.file; proper = ready.spelled.of_snapshot.proper; rows = ready.spelled.of_snapshot.rows; files = ready.spelled.of_snapshot.files };
    added = ready.spelled.added;
    texts = ready.spelled.texts;
    frozen = ready.spelled.frozen;
    free = ready.spelled.free;
    chunks = ready.spelled.chunks;
    props = ready.spelled.props;
    few = ready.spelled.few;
  };
  later = later-later ids s.ids (after12 s.ids) ready.later (later-drawn12 s.ids);
  owned = owns;
}

-- ---- the put of a lease
lease-leaves : (by : Caller) (id : Id12) (bytes : List ℕ) (why : Why) (reply : Reply) (time : ℕ) (journal : List Event) (branch : List ℕ) → found (journal ++ own_event by (PutNew (Lease id) bytes why) reply time ∷ []) (Branch branch) ≡ found journal (Branch branch)
lease-leaves by id bytes why reply time journal branch =
    ap (λ (slot : Slot). slot.stands) (slot-append_one journal (own_event by (PutNew (Lease id) bytes why) reply time) (Branch branch))
    ∙ effect-cases (λ (slot : Slot). slot.stands ≡ found journal (Branch branch)) (Branch branch) (length journal) (slot_of journal (Branch branch)) (own_event by (PutNew (Lease id) bytes why) reply time) refl (λ k d. absurd (cc))

module _ (L : Laws) (by : Caller) (ids : AnyIds) (mine : Sessions) (start : List Event) (s : SessionState) (id : Id12) (w : Witness) (drawn : drawn12 s.ids ≡ Some id) where
  abbrev Put : Op
  Put = PutNew (Lease id) (ref_bytes s.base) For_lease

  -- each operation is minded
  pub lease-minds : (began : List Event) → IsReady ids by.number start s began → ChangedNothing by.number start began → PlayKeeps (Minds ids mine start) by (lease_play id s.base w) began
  unfolding PlayKeeps
  lease-minds began ready unchanged =
      let polite = ((L.leases by).polite id s.base w began ready.spelled.base ready.opened.put).0 in (
        (record { polite = polite; owes = record { later = s.ids; is_later = ready.later; drawn = drawn } }, ((λ puts. unchanged), not-put ids s.ids by.number start began (Lease id) id ready.later drawn refl ready.owned.drawn)),
        tt,
        λ reply new m. put-cases (λ p. PlayKeeps (Minds ids mine start) by p new) id w ((record { polite = tt; owes = tt }, ((λ puts. absurd puts), tt)), tt, λ r n k. tt) tt tt reply,
      )

  -- what the client has put and changed behind it
  pub record Kept (h : List Event) : Type 0 where
    pub nothing : ChangedNothing by.number start h
    pub put_none : HasPutNone by.number start h
    pub owns : Owns ids by.number (after_draw s) start h

  put-kept : IsLater ids s.ids → (reply : Reply) (old new : List Event) → Makes by Put reply old new → Kept old → Kept new
  put-kept later reply old new m k = record {
    nothing = ChangedNothing-makes by start Put reply old new m (lease-leaves by id (ref_bytes s.base) For_lease reply m.time m.middle) k.nothing;
    put_none = HasPutNone-makes by start Put reply old new m (λ p. p) k.put_none;
    owns = record {
      chunks = subst (λ (h : List Event). OwnsChunks by.number s.held.chunks start h) (sym (made-more by Put reply old new m)) (OwnsChunks-append by.number start s.held.chunks old _ k.owns.chunks);
      drawn = HasPutDrawn-makes by ids (after12 s.ids) start Put reply old new m (one-object ids (after12 s.ids) (Lease id) (ref_bytes s.base) For_lease id refl (drawn-now ids s.ids id later drawn)) k.owns.drawn;
    };
  }

  got-kept : (reply : Reply) (old new : List Event) → Makes by (Get (witness_key w)) reply old new → Kept old → Kept new
  got-kept reply old new m k = record {
    nothing = got-nothing by start (witness_key w) reply old new m k.nothing;
    put_none = HasPutNone-makes by start (Get (witness_key w)) reply old new m (λ p. p) k.put_none;
    owns = got-owned by ids start (after_draw s) (witness_key w) reply old new m k.owns;
  }

  pub lease-keeps : (began : List Event) → IsLater ids s.ids → Kept began → PlayLeads (λ leased h. Kept h) by (lease_play id s.base w) began
  unfolding PlayLeads
  lease-keeps began later k = (
    k,
    λ reply new m.
        let put = put-kept later reply began new m k in
        put-cases (λ p. PlayLeads (λ leased h. Kept h) by p new) id w (put, λ r n got. got-kept r new n got put) put put reply,
  )

-- What a client owns it owns behind sets and reads, and the object of a set is put where it put none.
use Rattle.std.proofs.Common.{◌≡◌, ℕ, List, [], length, refl, subst}
use Rattle.std.specs.Prelude.{Result, IfOk}
use Rattle.std.specs.FinMap.{get}
use Rattle.ice_ids.specs.declared.Id12.{Id12}
use Rattle.ice_ids.specs.declared.drawing.AnyIds.{AnyIds}
use Rattle.ice_ids.specs.Drawing.{after12}
use Rattle.manifest_file.specs.declared.manifest.Place.TheVariants.{Inline, Object}
use Rattle.object_store.specs.declared.keys.Key.{Key}
use Rattle.object_store.specs.declared.keys.Key.TheVariants.{Chunk}
use Rattle.object_store.specs.declared.keys.Why.TheVariants.{Set}
use Rattle.object_store.specs.declared.events.Version.{Version}
use Rattle.object_store.specs.declared.events.Op.{Op}
use Rattle.object_store.specs.declared.events.Op.TheVariants.{Get, PutNew}
use Rattle.object_store.specs.declared.events.New.TheVariants.{Done as New_done, Present}
use Rattle.object_store.specs.declared.events.Reply.{Reply}
use Rattle.object_store.specs.declared.events.Reply.TheVariants.{New as Is_new}
use Rattle.object_store.specs.declared.events.Event.{Event}
use Rattle.store_api.specs.declared.machines.Refusal.{Refusal}
use Rattle.store_api.specs.Callers.{Caller, Makes}
use Rattle.store_api.specs.Program.{Prog, Done, Ask, Leads}
use Rattle.session.specs.Sessions.{SessionState, nodes_seen}
use Rattle.session.specs.Sources.{IsLater}
use Rattle.session.specs.Chunks.{with_chunk, after_object, set_program, get_program}
use Rattle.reach.specs.Own.{PutItself}
use Rattle.commit_path.specs.Own.{OwnsChunks, HasPutDrawn, OwesOwn, Owns}
use Rattle.commit_path.proofs.Listing.{more-makes}
use Rattle.commit_path.proofs.OwnPuts.{HasPutDrawn-later, HasPutDrawn-makes, OwnsChunks-append, drawn-now, not-put, one-object, puts-made, owns-set}
use Rattle.commit_path.proofs.Sources.{later-drawn12}
use Rattle.region_calls.specs.ChunkLaws.{OwningCallsLaw}
use Rattle.region_calls.proofs.ChunkGets.{OnlyGets, gets-keep, get-gets}
use Rattle.region_calls.proofs.Setting.{IsOut, session_out, set-keeps, set-cases}

module _ (by : Caller) (ids : AnyIds) (start : List Event) where
  abbrev Owned : SessionState → List Event → Type 0
  Owned s h = Owns ids by.number s start h

  abbrev Answered : Result SessionState Refusal → List Event → Type 0
  Answered answer h = IfOk answer (λ t. Owns ids by.number t start h)

  -- what is owned stays so at a get
  pub got-owned : (s : SessionState) (key : Key) (reply : Reply) (old new : List Event) → Makes by (Get key) reply old new → Owned s old → Owned s new
  got-owned s key reply old new m o = record {
    chunks = more-makes (OwnsChunks by.number s.held.chunks start) (OwnsChunks-append by.number start s.held.chunks) by (Get key) reply old new m o.chunks;
    drawn = HasPutDrawn-makes by ids s.ids start (Get key) reply old new m (λ other bytes why id e i. absurd (cc)) o.drawn;
  }

  gets-owned : {A : Type 0} (s : SessionState) (p : Prog A) → OnlyGets p → (journal : List Event) → Owned s journal → Leads (λ a h. Owned s h) by p journal
  unfolding Leads
  gets-owned s (Done a) g journal o = o
  gets-owned s (Ask (Get key) k) g journal o = λ reply new m. gets-owned s (k reply) (g reply) new (got-owned s key reply journal new m o)
  gets-owned s (Ask _ k) g journal o = absurd g

  -- ---- a set
  module _ (s : SessionState) (path index bytes : List ℕ) (later : IsLater ids s.ids) (journal : List Event) (o : Owns ids by.number s start journal) where
    short-owned : Owned (with_chunk s path index (Inline bytes)) journal
    short-owned = record { chunks = owns-set by.number start s.held index (Inline bytes) (get (nodes_seen s) path) journal (λ object offset size e. cc) o.chunks; drawn = o.drawn }

    module _ (id : Id12) (h : IsOut s path index bytes id) where
      abbrev op : Op
      op = PutNew (Chunk id) bytes Set

      put-drawn : (reply : Reply) (new : List Event) → Makes by op reply journal new → HasPutDrawn ids (after12 s.ids) by.number start new
      put-drawn reply new m =
          HasPutDrawn-makes by ids (after12 s.ids) start op reply journal new m (one-object ids (after12 s.ids) (Chunk id) bytes Set id refl (drawn-now ids s.ids id later h.drawn))
          (HasPutDrawn-later ids s.ids (after12 s.ids) by.number start journal (later-drawn12 s.ids) o.drawn)

      -- the object is the client's own
      itself : (version : Version) (now : ℕ) (new : List Event) → Makes by op (Is_new (New_done version now)) journal new → PutItself by.number (Chunk id) start new
      itself version now new m = record { bytes = bytes; put = puts-made by ids s.ids start (Chunk id) bytes version now journal new m o.drawn }

      out-owned : (version : Version) (now : ℕ) (new : List Event) → Makes by op (Is_new (New_done version now)) journal new → Owned (session_out s path index bytes id) new
      out-owned version now new m =
          let kept = more-makes (OwnsChunks by.number s.held.chunks start) (OwnsChunks-append by.number start s.held.chunks) by op (Is_new (New_done version now)) journal new m o.chunks in
          record {
            chunks = owns-set by.number start s.held index (Object id 0 (length bytes)) (get (nodes_seen s) path) new (λ object offset size e. let same : id ≡ object = cc in subst (λ (i : Id12). PutItself by.number (Chunk i) start new) same (itself version now new m)) kept;
            drawn = put-drawn (Is_new (New_done version now)) new m;
          }

      object-owned : (reply : Reply) (new : List Event) → Makes by op reply journal new → Leads Answered by (after_object (session_out s path index bytes id) id reply) new
      unfolding Leads
      object-owned (Is_new (New_done version now)) new m = out-owned version now new m
      object-owned (Is_new (Present version now)) new m = tt
      object-owned _ new m = tt

    set-owned : Leads Answered by (set_program s path index bytes) journal
    unfolding Leads
    set-owned = set-cases s path index bytes (λ x. Leads Answered by x journal) (λ writes. tt) (λ fault e. tt) (λ writes fine short. short-owned) (λ spent. tt) (λ id h reply new m. object-owned id h reply new m)

pub owning-calls : OwningCallsLaw
owning-calls = record {
  sets = λ by ids s path index bytes start journal later o. (
    set-keeps (λ h client op. OwesOwn ids client start op h) by s path index bytes journal (λ id d once. not-put ids s.ids by.number start journal (Chunk id) id later d refl o.drawn once),
    set-owned by ids start s path index bytes later journal o,
  );
  gets = λ by ids s path index start journal o. (
    gets-keep (λ h client op. OwesOwn ids client start op h) by (λ h key. tt) (get_program s path index) (get-gets s path index) journal,
    gets-owned by ids start s (get_program s path index) (get-gets s path index) journal o,
  );
}

-- What a set of a chunk enters.
use Rattle.std.proofs.Common.{◌≡◌, ℕ, List, length, refl, ◌∙◌, ap}
use Rattle.std.specs.Prelude.{Option, Some, option_and_then, Result}
use Rattle.ice_ids.specs.declared.Id12.{Id12}
use Rattle.ice_ids.specs.declared.drawing.AnyIds.{AnyIds}
use Rattle.ice_ids.specs.Drawing.{after12}
use Rattle.manifest_file.specs.declared.manifest.Place.{Place}
use Rattle.manifest_file.specs.declared.manifest.Place.TheVariants.{Inline, Object}
use Rattle.repo_objects.specs.Trees.{bytes_at, part_of}
use Rattle.object_store.specs.declared.keys.Key.TheVariants.{Chunk}
use Rattle.object_store.specs.declared.keys.Why.TheVariants.{Set}
use Rattle.object_store.specs.declared.events.Op.TheVariants.{PutNew}
use Rattle.object_store.specs.declared.events.New.TheVariants.{Done as New_done, Present}
use Rattle.object_store.specs.declared.events.Reply.{Reply}
use Rattle.object_store.specs.declared.events.Reply.TheVariants.{New as Is_new}
use Rattle.object_store.specs.declared.events.Event.{Event}
use Rattle.store_api.specs.declared.machines.Refusal.{Refusal}
use Rattle.store_api.specs.Callers.{Caller, Makes}
use Rattle.store_api.specs.Program.{Leads}
use Rattle.store_api.proofs.Telling.{put-did}
use Rattle.session.specs.Sessions.{SessionState}
use Rattle.session.specs.Sources.{IsLater}
use Rattle.session.specs.Chunks.{with_chunk, after_object, set_program}
use Rattle.commit_path.proofs.Sources.{later-later, later-drawn12}
use Rattle.region_calls.proofs.Growing.{Surely}
use Rattle.region_calls.proofs.Setting.{session_out, set-cases, part-whole}
use Rattle.region_calls.proofs.Leading.{By}

-- the chunk is at a place where its bytes are, and nothing else but the ids to draw is otherwise
pub record IsEntered (t : SessionState) (path index bytes : List ℕ) (u : SessionState) (h : List Event) : Type 0 where
  pub place : Place
  pub is : u ≡ record (with_chunk t path index place) { ids = u.ids }
  pub there : Surely (λ puts. bytes_at puts place ≡ Some bytes) h

module _ (by : Caller) (t : SessionState) (path index bytes : List ℕ) (h : List Event) where
  abbrev pub Enters : Result SessionState Refusal → List Event → Type 0
  Enters = By (IsEntered t path index bytes) (λ why x. Unit {0})

  object_enters : (id : Id12) (reply : Reply) (new : List Event) → Makes by (PutNew (Chunk id) bytes Set) reply h new → Leads Enters by (after_object (session_out t path index bytes id) id reply) new
  unfolding Leads
  object_enters id (Is_new (New_done version now)) new m =
      let did = put-did by (Chunk id) bytes Set version now h new (λ j first free. first free) m in
      record {
        place = Object id 0 (length bytes);
        is = refl;
        there = λ once puts x. ap (λ (p : Option (List ℕ)). option_and_then (part_of 0 (length bytes)) p) (x.chunks id bytes did.last) ∙ part-whole bytes;
      }
  object_enters id (Is_new (Present version now)) new m = tt
  object_enters id _ new m = tt

  pub set_enters : Leads Enters by (set_program t path index bytes) h
  unfolding Leads
  set_enters =
      set-cases t path index bytes (λ p. Leads Enters by p h) (λ w. tt) (λ fault f. tt) (λ w f l. record { place = Inline bytes; is = refl; there = λ once puts x. refl }) (λ d. tt)
      (λ id o reply new m. object_enters id reply new m)

  -- what puts of objects keep
  module _ (N : List Event → Type 0) (still : (id : Id12) (reply : Reply) (old new : List Event) → Makes by (PutNew (Chunk id) bytes Set) reply old new → N old → N new) where
    object_still : (u : SessionState) (id : Id12) (reply : Reply) (new : List Event) → N new → Leads (λ (a : Result SessionState Refusal) x. N x) by (after_object u id reply) new
    unfolding Leads
    object_still u id (Is_new (New_done version now)) new n = n
    object_still u id (Is_new (Present version now)) new n = n
    object_still u id _ new n = n

    pub set_still : N h → Leads (λ (a : Result SessionState Refusal) x. N x) by (set_program t path index bytes) h
    unfolding Leads
    set_still n =
        set-cases t path index bytes (λ p. Leads (λ (a : Result SessionState Refusal) x. N x) by p h) (λ w. n) (λ fault f. n) (λ w f l. n) (λ d. n)
        (λ id o reply new m. object_still (session_out t path index bytes id) id reply new (still id reply h new m n))

  -- its ids are drawn later
  module _ (ids : AnyIds) (later : IsLater ids t.ids) where
    abbrev pub Later : Result SessionState Refusal → List Event → Type 0
    Later = By (λ u x. IsLater ids u.ids) (λ why x. Unit {0})

    object_later : (id : Id12) (reply : Reply) (new : List Event) → Leads Later by (after_object (session_out t path index bytes id) id reply) new
    unfolding Leads
    object_later id (Is_new (New_done version now)) new = later-later ids t.ids (after12 t.ids) later (later-drawn12 t.ids)
    object_later id (Is_new (Present version now)) new = tt
    object_later id _ new = tt

    pub set_later : Leads Later by (set_program t path index bytes) h
    unfolding Leads
    set_later = set-cases t path index bytes (λ p. Leads Later by p h) (λ w. tt) (λ fault f. tt) (λ w f l. later) (λ d. tt) (λ id o reply new m. object_later id reply new)

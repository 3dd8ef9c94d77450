-- The ids that tasks' sessions draw.
use Rattle.std.proofs.Common.{◌≡◌, ◌≢◌, inl, inr, ℕ, ◌+◌, ◌≤◌, List, refl, sym, ◌∙◌, ap, subst}
use Rattle.std.specs.Prelude.{Option, Some, Result, Ok, Err}
use Rattle.ice_ids.specs.declared.Id8.{Id8}
use Rattle.ice_ids.specs.declared.Id12.{Id12}
use Rattle.ice_ids.specs.declared.drawing.AnyIds.{AnyIds}
use Rattle.ice_ids.specs.declared.drawing.Draw.{Draw}
use Rattle.ice_ids.specs.Text.{initial_id}
use Rattle.ice_ids.specs.Drawing.{draw_of, client_of, drawn12, after12, after8, IsAmong, DrawsOnce}
use Rattle.ice_ids.specs.Sources.{any_source12, any_source8}
use Rattle.ice_ids.proofs.Drawn.{after8-draw, after12-draw, ids_of-draw, ids_of-client}
use Rattle.zarr_meta.specs.declared.faults.MetaFault.{MetaFault}
use Rattle.zarr_meta.specs.declared.views.MetaView.{MetaView}
use Rattle.store_api.specs.declared.machines.Refusal.{Refusal}
use Rattle.session.specs.Sessions.{SessionState}
use Rattle.session.specs.Editing.{added, meta_set, node_dropped, prop_added}
use Rattle.commit_path.proofs.Adding.{prop-added}
use Rattle.session.specs.Chunks.{chunk_unset}
use Rattle.session.specs.Sources.{MayDrawObject}
use Rattle.commit_path.specs.Laws.{TellsFaults}
use Rattle.commit_path.proofs.Editing.{Added, node-added, text-set, node-dropped}
use Rattle.commit_path.proofs.Setting.{chunk-unset}
use Rattle.script_calls.specs.declared.calls.Access.{Access}
use Rattle.script_calls.specs.declared.calls.Access.TheVariants.{Write, Read}
use Rattle.zarr_keys.specs.Keys.{session_of}
use Rattle.play_tasks.specs.Playing.{asked_by}
use Rattle.play_tasks.specs.Tasks.{ids_at}
use Rattle.play_tasks.proofs.Ways.{Way, adds, texts, drops, unsets, no_key, stays}
use Rattle.run_histories.proofs.Edits.{SetsChunk}

-- an id that a client may draw in this way
pub record IsDrawnBy (draw : Draw) (client : ℕ) (id : Id12) : Type 0 where
  pub ids : AnyIds
  pub way : draw_of ids ≡ draw
  pub client_is : client_of ids ≡ client
  pub is : drawn12 ids ≡ Some id

-- ids of a client, drawn in this way
abbrev pub AreOf : Draw → ℕ → AnyIds → Type 0
AreOf draw client ids = (draw_of ids ≡ draw) × (client_of ids ≡ client)

-- so it is among those of clients of at most a number
pub are-among : (draw : Draw) (client most : ℕ) (ids : AnyIds) → client ≤ most → AreOf draw client ids → IsAmong draw most ids
are-among draw client most ids small known = record { way = known.0; small = subst (λ (n : ℕ). n ≤ most) (sym known.1) small }

-- and so it is behind a draw
pub drawn8-of : (draw : Draw) (client : ℕ) (ids : AnyIds) → AreOf draw client ids → AreOf draw client (after8 ids)
drawn8-of draw client ids known = (after8-draw ids ∙ known.0, any_source8.keeps ids ∙ known.1)

pub drawn12-of : (draw : Draw) (client : ℕ) (ids : AnyIds) → AreOf draw client ids → AreOf draw client (after12 ids)
drawn12-of draw client ids known = (after12-draw ids ∙ known.0, any_source12.keeps ids ∙ known.1)

module _ (draw : Draw) (client : ℕ) where
  -- a session to which a node was added still draws for its client
  added-draws : (fault : Result MetaView MetaFault → Option MetaFault) (s t : SessionState) (path text : List ℕ) (new : Id8) → TellsFaults fault → AreOf draw client s.ids → added fault s path text ≡ Ok (new, t) → AreOf draw client t.ids
  added-draws fault s t path text new tells known e =
      let a : Added s t path text new = node-added fault s t path text new tells e in
      let ids : t.ids ≡ after8 s.ids = ap (λ (x : SessionState). x.ids) a.is in
      subst (AreOf draw client) (sym ids) (drawn8-of draw client s.ids known)

  taken-draws : (fault : Result MetaView MetaFault → Option MetaFault) (s t : SessionState) (path text : List ℕ) → TellsFaults fault → AreOf draw client s.ids → (r : Result (Id8 × SessionState) Refusal) → added fault s path text ≡ r → session_of r ≡ Ok t → AreOf draw client t.ids
  taken-draws fault s t path text tells known (Err why) e d = absurd cc
  taken-draws fault s t path text tells known (Ok new) e d = let same : new.1 ≡ t = cc in subst (λ (x : SessionState). AreOf draw client x.ids) same (added-draws fault s new.1 path text new.0 tells known e)

  stays-draws : (s t : SessionState) → AreOf draw client s.ids → ◌≡◌ {A = Result SessionState Refusal} (Ok s) (Ok t) → AreOf draw client t.ids
  stays-draws s t known e = let same : s ≡ t = cc in subst (λ (x : SessionState). AreOf draw client x.ids) same known

  text-draws : (s t : SessionState) (path text : List ℕ) → AreOf draw client s.ids → meta_set s path text ≡ Ok t → AreOf draw client t.ids
  text-draws s t path text known e = subst (λ (x : SessionState). AreOf draw client x.ids) (sym (text-set s t path text e).is) known

  drop-draws : (s t : SessionState) (path : List ℕ) → AreOf draw client s.ids → node_dropped s path ≡ Ok t → AreOf draw client t.ids
  drop-draws s t path known e = subst (λ (x : SessionState). AreOf draw client x.ids) (sym (node-dropped s t path e).is) known

  unset-draws : (s t : SessionState) (path index : List ℕ) → AreOf draw client s.ids → chunk_unset s path index ≡ Ok t → AreOf draw client t.ids
  unset-draws s t path index known e = subst (λ (x : SessionState). AreOf draw client x.ids) (sym (chunk-unset s t path index e).is) known

  -- and so does one behind any edit, by whichever way
  pub way-draws : (Well : Type 0) (s t : SessionState) {r : Result SessionState Refusal} → Way Well s r → AreOf draw client s.ids → r ≡ Ok t → AreOf draw client t.ids
  way-draws Well s t (adds fault tells path text at) known e = taken-draws fault s t path text tells known (added fault s path text) refl e
  way-draws Well s t (texts path text) known e = text-draws s t path text known e
  way-draws Well s t (drops path) known e = drop-draws s t path known e
  way-draws Well s t (unsets path index) known e = unset-draws s t path index known e
  way-draws Well s t no_key known e = absurd cc
  way-draws Well s t stays known e = stays-draws s t known e

  -- and behind a property
  pub prop-draws : (s t : SessionState) (name value : List ℕ) → AreOf draw client s.ids → prop_added s name value ≡ Ok t → AreOf draw client t.ids
  prop-draws s t name value known e = subst (λ (x : SessionState). AreOf draw client x.ids) (sym (prop-added s t name value e).is) known

  -- and behind a chunk that was set
  pub set-draws : (s t : SessionState) → AreOf draw client s.ids → SetsChunk s t → AreOf draw client t.ids
  set-draws s t known a = subst (λ (x : SessionState). AreOf draw client x.ids) (sym a.is) (elim a.ids_are [
    | inl same ↦ subst (AreOf draw client) (sym same) known
    | inr drawn ↦ subst (AreOf draw client) (sym drawn) (drawn12-of draw client s.ids known)
  ])

  -- what its source may draw
  pub object-draws : (ids : AnyIds) (id : Id12) → AreOf draw client ids → MayDrawObject ids id → IsDrawnBy draw client id
  object-draws ids id known m = record { ids = m.later; way = m.is_later.way ∙ known.0; client_is = m.is_later.client ∙ known.1; is = m.drawn }

pub access-ids : (access : Access) (ids : AnyIds) → (asked_by access ids).ids ≡ ids
access-ids (Write branch tries policy) ids = refl
access-ids (Read at) ids = refl

module _ (draw : Draw) (most : ℕ) (once : DrawsOnce draw most) where
  among : (client : ℕ) (id : Id12) → client ≤ most → (d : IsDrawnBy draw client id) → IsAmong draw most d.ids
  among client id small d = are-among draw client most d.ids small (d.way, d.client_is)

  -- no id is drawn by two clients
  pub drawn-apart : (a b : ℕ) (id : Id12) → a ≤ most → b ≤ most → IsDrawnBy draw a id → IsDrawnBy draw b id → a ≡ b
  drawn-apart a b id small other d e = sym d.client_is ∙ ((once.objects d.ids e.ids id (among a id small d) (among b id other e) d.is e.is).0 ∙ e.client_is)

  -- and none is the initial snapshot's
  pub drawn-not_initial : (client : ℕ) (id : Id12) → client ≤ most → IsDrawnBy draw client id → id ≢ initial_id
  drawn-not_initial client id small d = once.others d.ids id (among client id small d) d.is

-- the ids of the client of a place
pub ids_at-of : (draw : Draw) (place : ℕ) → AreOf draw (place + 1) (ids_at draw place)
ids_at-of draw place = (ids_of-draw draw (place + 1), ids_of-client draw (place + 1))

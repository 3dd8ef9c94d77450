-- Chunks that get their places.
use Rattle.std.proofs.Common.{◌≡◌, ◌≤◌, ◌<◌, ◌∙◌, ◌++◌, ℕ, Bool, true, false, cond, List, [], ◌∷◌, length, sym, ap, arith, le-leb}
use Rattle.std.specs.Prelude.{nat_le, Option, Some, None, Ok, Err}
use Rattle.std.proofs.lemmas.Bool.{leb-true}
use Rattle.ice_ids.specs.declared.Id12.{Id12}
use Rattle.ice_ids.specs.Drawing.{drawn12}
use Rattle.zarr_changes.specs.declared.placing.Placed.{Placed}
use Rattle.manifest_file.specs.declared.manifest.Place.TheVariants.{Inline}
use Rattle.store_api.specs.declared.machines.Refusal.TheVariants.{IdsSpent}
use Rattle.store_api.specs.Program.{Done}
use Rattle.session.specs.Sessions.{SessionState}
use Rattle.session.specs.Chunks.{most_inline, after_draw, with_chunk, put_chunk, put_object, set_program}
use Rattle.zarr_changes.specs.Sets.{set_refusal}
use Rattle.session.specs.Placing.{with_places}
use Rattle.session.proofs.Chunking.{set_short}
use Rattle.session.proofs.Places.{IsAllowed, places-seen, places-writes, places-ids, places-more, places-drawn}
use Rattle.array_region.specs.Setting.{object_put}

long : (n : ℕ) → most_inline < n → nat_le n most_inline ≡ false
long n h = by_test (nat_le n most_inline) refl_of
  where
    refl_of : nat_le n most_inline ≡ nat_le n most_inline
    refl_of = λ i. nat_le n most_inline

    by_test : (b : Bool) → nat_le n most_inline ≡ b → nat_le n most_inline ≡ false
    by_test true t = absurd (let few = leb-true n most_inline t in omega (arith, few, h))
    by_test false t = t

module _ (s : SessionState) (path index bytes : List ℕ) (placed : List Placed) where
  -- the session in which those so far are entered
  abbrev now : SessionState
  now = with_places s path placed

  pub short_placed : length bytes ≤ most_inline → put_chunk now path index bytes ≡ Done (Ok (with_places s path (placed ++ (record { index = index; place = Inline bytes }) ∷ [])))
  short_placed h =
      ap (λ b. cond b (Done (Ok (with_chunk now path index (Inline bytes)))) (put_object now path index bytes (drawn12 now.ids))) (le-leb (length bytes) most_inline h)
      ∙ sym (ap (λ (t : SessionState). Done (Ok t)) (places-more path placed s (record { index = index; place = Inline bytes })))

  by_draw : most_inline < length bytes → (o : Option Id12) → drawn12 s.ids ≡ o → put_chunk now path index bytes ≡ put_object now path index bytes o
  by_draw h o d =
      ap (λ b. cond b (Done (Ok (with_chunk now path index (Inline bytes)))) (put_object now path index bytes (drawn12 now.ids))) (long (length bytes) h)
      ∙ ap (put_object now path index bytes) (ap drawn12 (places-ids path placed s) ∙ d)

  pub none_drawn : most_inline < length bytes → drawn12 s.ids ≡ None → put_chunk now path index bytes ≡ Done (Err IdsSpent)
  none_drawn h d = by_draw h None d

  pub object_placed : most_inline < length bytes → (id : Id12) → drawn12 s.ids ≡ Some id → object_put (with_places (after_draw s) path placed) path index bytes id ≡ put_chunk now path index bytes
  object_placed h id d = ap (λ (t : SessionState). object_put t path index bytes id) (places-drawn path placed s) ∙ sym (by_draw h (Some id) d)

  -- the tree takes the chunk
  pub may_place : IsAllowed s path index (length bytes) → put_chunk now path index bytes ≡ set_program now path index bytes
  may_place a = set_short now path index bytes (places-writes path placed s ∙ a.writes) (ap (λ nodes. set_refusal nodes path index (length bytes)) (places-seen path placed s) ∙ a.taken)

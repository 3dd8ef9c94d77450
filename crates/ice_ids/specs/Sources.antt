-- How each source of ids meets its laws: the impls cite these.
use Rattle.std.specs.Prelude.{◌≡◌, ◌+◌, ◌-◌, ◌^◌, ◌==◌, Bool, true, false}
use Rattle.std.specs.Prelude.{cond, Some, None, is_none}
use Rattle.std.proofs.Common.{refl, sym, ap, ◌∙◌}
use Rattle.std.proofs.Math.Nat.{sub-add-eq}
use Rattle.std.proofs.lemmas.Bool.{eqb-true}
use Rattle.ice_ids.specs.declared.drawing.CountIds.{CountIds}
use Rattle.ice_ids.specs.declared.drawing.StreamIds.{StreamIds}
use Rattle.ice_ids.specs.declared.drawing.AnyIds.TheVariants.{Count, Stream}
use Rattle.ice_ids.specs.Drawing.{IsSource, counted12, counted8, is_spent, count_left}
use Rattle.ice_ids.specs.Drawing.{count_drawn12, count_drawn8, count_after}
use Rattle.ice_ids.specs.Drawing.{is_dry, stream_left, streamed12, streamed8}
use Rattle.ice_ids.specs.Drawing.{stream_drawn12, stream_drawn8, stream_after}
use Rattle.ice_ids.specs.Drawing.{left_of, client_of, drawn12, drawn8, after12, after8}

-- ---- a source that counts
ended : {I : Type 0} (spent : Bool) (id : I) → is_none (cond spent None (Some id)) ≡ spent
ended true id = refl
ended false id = refl

abbrev raised : CountIds → CountIds
raised ids = record ids { counter = ids.counter + 1 }

moved : (ids : CountIds) (spent : Bool) → is_spent ids ≡ spent
    → count_left (cond spent ids (raised ids)) ≡ count_left ids - 1
moved ids true e = eqb-true _ _ e ∙ sym (ap (λ n. n - 1) (eqb-true _ _ e))
moved ids false e = sub-add-eq (2 ^ 32 - 1) ids.counter 1

kept : (ids : CountIds) (spent : Bool) → (cond spent ids (raised ids)).client ≡ ids.client
kept ids true = refl
kept ids false = refl

stayed : (ids : CountIds) → count_left ids ≡ 0 → count_after ids ≡ ids
stayed ids e = ap (λ n. cond (n == 0) ids (record ids { counter = ids.counter + 1 })) e

pub count_source12 : IsSource count_left (λ ids. ids.client) count_drawn12 count_after
count_source12 = record {
  ends = λ s. ended (is_spent s) (counted12 s.client s.counter);
  moves = λ s. moved s (is_spent s) refl;
  stays = stayed;
  keeps = λ s. kept s (is_spent s);
}

pub count_source8 : IsSource count_left (λ ids. ids.client) count_drawn8 count_after
count_source8 = record {
  ends = λ s. ended (is_spent s) (counted8 s.client s.counter);
  moves = λ s. moved s (is_spent s) refl;
  stays = stayed;
  keeps = λ s. kept s (is_spent s);
}

-- ---- a source at random
flowed : (ids : StreamIds) (dry : Bool) → is_dry ids ≡ dry
    → stream_left (cond dry ids (record ids { counter = ids.counter + 1 })) ≡ stream_left ids - 1
flowed ids true e = eqb-true _ _ e ∙ sym (ap (λ n. n - 1) (eqb-true _ _ e))
flowed ids false e = sub-add-eq (2 ^ 22) ids.counter 1

stream_kept : (ids : StreamIds) (dry : Bool)
    → (cond dry ids (record ids { counter = ids.counter + 1 })).client ≡ ids.client
stream_kept ids true = refl
stream_kept ids false = refl

stream_stayed : (ids : StreamIds) → stream_left ids ≡ 0 → stream_after ids ≡ ids
stream_stayed ids e = ap (λ n. cond (n == 0) ids (record ids { counter = ids.counter + 1 })) e

pub stream_source12 : IsSource stream_left (λ ids. ids.client) stream_drawn12 stream_after
stream_source12 = record {
  ends = λ s. ended (is_dry s) (streamed12 s);
  moves = λ s. flowed s (is_dry s) refl;
  stays = stream_stayed;
  keeps = λ s. stream_kept s (is_dry s);
}

pub stream_source8 : IsSource stream_left (λ ids. ids.client) stream_drawn8 stream_after
stream_source8 = record {
  ends = λ s. ended (is_dry s) (streamed8 s);
  moves = λ s. flowed s (is_dry s) refl;
  stays = stream_stayed;
  keeps = λ s. stream_kept s (is_dry s);
}

-- ---- a source of any kind is one of these
pub any_source12 : IsSource left_of client_of drawn12 after12
any_source12 = record {
  ends = elim [ Count s ↦ count_source12.ends s | Stream s ↦ stream_source12.ends s ];
  moves = elim [ Count s ↦ count_source12.moves s | Stream s ↦ stream_source12.moves s ];
  stays = elim [
    | Count s ↦ λ e. ap Count (count_source12.stays s e)
    | Stream s ↦ λ e. ap Stream (stream_source12.stays s e)
  ];
  keeps = elim [ Count s ↦ count_source12.keeps s | Stream s ↦ stream_source12.keeps s ];
}

pub any_source8 : IsSource left_of client_of drawn8 after8
any_source8 = record {
  ends = elim [ Count s ↦ count_source8.ends s | Stream s ↦ stream_source8.ends s ];
  moves = elim [ Count s ↦ count_source8.moves s | Stream s ↦ stream_source8.moves s ];
  stays = elim [
    | Count s ↦ λ e. ap Count (count_source8.stays s e)
    | Stream s ↦ λ e. ap Stream (stream_source8.stays s e)
  ];
  keeps = elim [ Count s ↦ count_source8.keeps s | Stream s ↦ stream_source8.keeps s ];
}

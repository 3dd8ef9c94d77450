-- Behind the four words of an id the next one is read; and where no generator is kept, none stands anywhere.
use Rattle.std.proofs.Common.{◌≡◌, ◌<◌, ◌+◌, ◌*◌, ◌^◌, ◌∙◌, ℕ, refl, ap, arith}
use Rattle.std.specs.Prelude.{◌%◌, None}
use Rattle.rand_chacha.specs.ChaCha.{ChaCha, key_of}
use Rattle.ice_ids.specs.declared.drawing.AnyIds.{AnyIds}
use Rattle.ice_ids.specs.declared.drawing.AnyIds.TheVariants.{Count, Stream}
use Rattle.ice_ids.specs.declared.drawing.StreamIds.{StreamIds}
use Rattle.ice_ids.specs.Drawing.{behind_word, stream_place}
use Rattle.kept_ids.specs.Kept.{behind_id, IsKeptFor}

low : (n : ℕ) → n < 2 ^ 68 → n % 2 ^ 68 ≡ n
low n small = omega (arith, small)

abbrev at : StreamIds → ℕ → ChaCha
at ids n = record { key = key_of ids.seed; stream = ids.client; word_pos = n }

one : (ids : StreamIds) (n : ℕ) → n < 2 ^ 60 → behind_word (at ids n) ≡ at ids (n + 1)
unfolding behind_word
one ids n small = ap (at ids) (low (n + 1) (omega (arith, small)))

pub next_place : (ids : StreamIds) → ids.counter < 2 ^ 22 → behind_id (stream_place ids) ≡ stream_place (record ids { counter = ids.counter + 1 })
next_place ids small =
    let c : ℕ = ids.counter * 4 in
    let last : c + 1 + 1 + 1 + 1 ≡ (ids.counter + 1) * 4 = omega arith in
    ap (λ (g : ChaCha). behind_word (behind_word (behind_word g))) (one ids c (omega (arith, small)))
    ∙ ap (λ (g : ChaCha). behind_word (behind_word g)) (one ids (c + 1) (omega (arith, small)))
    ∙ ap behind_word (one ids (c + 1 + 1) (omega (arith, small)))
    ∙ one ids (c + 1 + 1 + 1) (omega (arith, small))
    ∙ ap (at ids) last

pub none_kept : (ids : AnyIds) → IsKeptFor ids None
none_kept (Count ids) = refl
none_kept (Stream ids) = tt

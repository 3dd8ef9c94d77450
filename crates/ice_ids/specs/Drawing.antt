-- Drawing ids that were never drawn before (own).
use Rattle.std.specs.Prelude.{ℕ, ◌+◌, ◌-◌, ◌*◌, ◌^◌, ◌==◌, ◌≤◌, ◌≡◌, ◌≢◌, ◌++◌, Bool}
use Rattle.std.specs.Prelude.{if◌then◌else◌, List, Option, Some, None, is_none}
use Rattle.std.specs.Int.{w32, w64, to_be_bytes, to_le_bytes}
use Rattle.rand_chacha.specs.ChaCha.{ChaCha, key_of, next_word}
use Rattle.ice_ids.specs.declared.Id12.{Id12}
use Rattle.ice_ids.specs.declared.Id8.{Id8}
use Rattle.ice_ids.specs.declared.drawing.CountIds.{CountIds}
use Rattle.ice_ids.specs.declared.drawing.StreamIds.{StreamIds}
use Rattle.ice_ids.specs.declared.drawing.AnyIds.{AnyIds}
use Rattle.ice_ids.specs.declared.drawing.AnyIds.TheVariants.{Count, Stream}
use Rattle.ice_ids.specs.declared.drawing.Draw.{Draw}
use Rattle.ice_ids.specs.declared.drawing.Draw.TheVariants as D
use Rattle.ice_ids.specs.Text.{initial_id}

-- what is so of a source of ids of one kind, by the ids that are left of a client's
pub record IsSource {S I : Type 0} (left client : S → ℕ) (drawn : S → Option I)
    (after : S → S) : Type 0 where
  -- no id is answered exactly where nothing is left
  pub ends : (s : S) → is_none (drawn s) ≡ (left s == 0)
  -- a draw takes one from what is left, and at the end all stays as it is
  pub moves : (s : S) → left (after s) ≡ left s - 1
  pub stays : (s : S) → left s ≡ 0 → after s ≡ s
  pub keeps : (s : S) → client (after s) ≡ client s

-- ---- by counting
-- the ids of a client and a number: both are written big-endian, one after the other
abbrev pub counted12 : (client counter : ℕ) → Id12
counted12 client counter = record { 0 = to_be_bytes w32 client ++ to_be_bytes w64 counter }

abbrev pub counted8 : (client counter : ℕ) → Id8
counted8 client counter = record { 0 = to_be_bytes w32 client ++ to_be_bytes w32 counter }

-- how many draws are left: none at the greatest u32
abbrev pub count_left : CountIds → ℕ
count_left ids = 2 ^ 32 - 1 - ids.counter

abbrev pub is_spent : CountIds → Bool
is_spent ids = count_left ids == 0

-- what a call draws, and what it leaves: one counter serves both calls
abbrev pub count_drawn12 : CountIds → Option Id12
count_drawn12 ids = if is_spent ids then None else Some (counted12 ids.client ids.counter)

abbrev pub count_drawn8 : CountIds → Option Id8
count_drawn8 ids = if is_spent ids then None else Some (counted8 ids.client ids.counter)

abbrev pub count_after : CountIds → CountIds
count_after ids = if is_spent ids then ids else record ids { counter = ids.counter + 1 }

-- ---- at random
-- how many draws are left, of 4,194,304 of a client
abbrev pub stream_left : StreamIds → ℕ
stream_left ids = 2 ^ 22 - ids.counter

abbrev pub is_dry : StreamIds → Bool
is_dry ids = stream_left ids == 0

-- where a draw reads: the key stream of ChaCha20, of the client's number, four words a draw
abbrev pub stream_place : StreamIds → ChaCha
stream_place ids = record { key = key_of ids.seed; stream = ids.client; word_pos = ids.counter * 4 }

-- the next word of a generator as bytes, the least significant first, and the generator behind it
unfoldable pub word_bytes : ChaCha → List ℕ
word_bytes g = to_le_bytes w32 (next_word 10 g).0

unfoldable pub behind_word : ChaCha → ChaCha
behind_word g = (next_word 10 g).1

-- the next two words
abbrev pub two_words : ChaCha → List ℕ
two_words g = word_bytes g ++ word_bytes (behind_word g)

-- an id is the first words from there
abbrev pub streamed12 : StreamIds → Id12
streamed12 ids = record {
  0 = two_words (stream_place ids) ++ word_bytes (behind_word (behind_word (stream_place ids)));
}

abbrev pub streamed8 : StreamIds → Id8
streamed8 ids = record { 0 = two_words (stream_place ids) }

abbrev pub stream_drawn12 : StreamIds → Option Id12
stream_drawn12 ids = if is_dry ids then None else Some (streamed12 ids)

abbrev pub stream_drawn8 : StreamIds → Option Id8
stream_drawn8 ids = if is_dry ids then None else Some (streamed8 ids)

abbrev pub stream_after : StreamIds → StreamIds
stream_after ids = if is_dry ids then ids else record ids { counter = ids.counter + 1 }

-- ---- in one of these ways
abbrev pub drawn12 : AnyIds → Option Id12
drawn12 (Count ids) = count_drawn12 ids
drawn12 (Stream ids) = stream_drawn12 ids

abbrev pub after12 : AnyIds → AnyIds
after12 (Count ids) = Count (count_after ids)
after12 (Stream ids) = Stream (stream_after ids)

abbrev pub drawn8 : AnyIds → Option Id8
drawn8 (Count ids) = count_drawn8 ids
drawn8 (Stream ids) = stream_drawn8 ids

abbrev pub after8 : AnyIds → AnyIds
after8 (Count ids) = Count (count_after ids)
after8 (Stream ids) = Stream (stream_after ids)

-- the ids of a client
abbrev pub ids_of : Draw → ℕ → AnyIds
ids_of D.Count client = Count (record { client = client; counter = 0 })
ids_of (D.Stream seed) client = Stream (record { seed = seed; client = client; counter = 0 })

-- the way in which a source draws, and its client
abbrev pub draw_of : AnyIds → Draw
draw_of (Count ids) = D.Count
draw_of (Stream ids) = D.Stream ids.seed

abbrev pub client_of : AnyIds → ℕ
client_of (Count ids) = ids.client
client_of (Stream ids) = ids.client

abbrev pub left_of : AnyIds → ℕ
left_of (Count ids) = count_left ids
left_of (Stream ids) = stream_left ids

-- a source that draws in this way, for a client of at most this number
pub record IsAmong (draw : Draw) (most : ℕ) (ids : AnyIds) : Type 0 where
  pub way : draw_of ids ≡ draw
  pub small : client_of ids ≤ most

-- No id is drawn twice in this way by clients of at most this number: two draws of one id are draws
-- of one client, with as much left. No object id that is drawn is that of the initial snapshot. So
-- it always is by counting; at random nobody can prove it, and where it doesn't hold two of some
-- hundred million numbers of 64 bits are the same.
pub record DrawsOnce (draw : Draw) (most : ℕ) : Type 0 where
  pub objects : (a b : AnyIds) (id : Id12) → IsAmong draw most a
      → IsAmong draw most b → drawn12 a ≡ Some id → drawn12 b ≡ Some id
      → (client_of a ≡ client_of b) × (left_of a ≡ left_of b)
  pub nodes : (a b : AnyIds) (id : Id8) → IsAmong draw most a
      → IsAmong draw most b → drawn8 a ≡ Some id → drawn8 b ≡ Some id
      → (client_of a ≡ client_of b) × (left_of a ≡ left_of b)
  pub others : (ids : AnyIds) (id : Id12) → IsAmong draw most ids → drawn12 ids ≡ Some id
      → id ≢ initial_id

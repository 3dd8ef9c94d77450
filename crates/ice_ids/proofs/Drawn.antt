-- What is drawn: ids, by counting none of them twice, and never the initial id.
use Rattle.std.proofs.Common.{◌≡◌, ◌≢◌, ℕ, zero, suc, ◌+◌, ◌-◌, ◌/◌, ◌^◌, ◌<◌, ◌≤◌, Bool, true, false, cond, take, drop, List, Option, Some, None, is_none, ◌==◌, unwrap_or, All, refl, sym, ap, ◌∙◌, subst, arith}
use Rattle.std.specs.Int.{w32, w64, to_be_bytes, from_be_bytes, bytes_high_first, byte_at, bytes_low_first}
use Rattle.std.proofs.lemmas.List.Elements.{All-nil, All-cons, All-append}
use Rattle.std.proofs.lemmas.Nat.{from_be_bytes-to_be_bytes_4, from_be_bytes-to_be_bytes_8, mod_below}
use Rattle.std.proofs.lemmas.Bool.{eqb-false}
use Rattle.rand_chacha.specs.ChaCha.{ChaCha, next_word}
use Rattle.ice_ids.specs.declared.Id12.{Id12}
use Rattle.ice_ids.specs.declared.Id8.{Id8}
use Rattle.ice_ids.specs.declared.drawing.CountIds.{CountIds}
use Rattle.ice_ids.specs.declared.drawing.AnyIds.{AnyIds}
use Rattle.ice_ids.specs.declared.drawing.StreamIds.{StreamIds}
use Rattle.ice_ids.specs.declared.drawing.AnyIds.TheVariants.{Count, Stream}
use Rattle.ice_ids.specs.declared.drawing.Draw.{Draw}
use Rattle.ice_ids.specs.declared.drawing.Draw.TheVariants as D
use Rattle.ice_ids.specs.Text.{IsId12, IsId8, initial_id}
use Rattle.ice_ids.specs.Drawing.{counted12, counted8, is_spent, count_drawn12, count_drawn8, count_after, is_dry, stream_place, word_bytes, behind_word, two_words, streamed12, streamed8, drawn12, drawn8, after12, after8, ids_of, draw_of, client_of, left_of, IsAmong, DrawsOnce}
use Rattle.ice_ids.specs.Sources.{any_source12, any_source8}

byte_at-below : (i n : ℕ) → byte_at i n < 256
byte_at-below zero n = mod_below n 256 (omega arith)
byte_at-below (suc i) n = mod_below (n / 256 ^ suc i) 256 (omega arith)

bytes_high_first-All : (k n : ℕ) → All (λ byte. byte < 256) (bytes_high_first k n)
bytes_high_first-All zero n = All-nil (λ byte. byte < 256)
bytes_high_first-All (suc k) n = All-cons (λ byte. byte < 256) _ _ (byte_at-below k n) (bytes_high_first-All k n)

bytes_low_first-All : (i k n : ℕ) → All (λ byte. byte < 256) (bytes_low_first i k n)
bytes_low_first-All i zero n = All-nil (λ byte. byte < 256)
bytes_low_first-All i (suc k) n = All-cons (λ byte. byte < 256) _ _ (byte_at-below i n) (bytes_low_first-All (suc i) k n)

word-All : (g : ChaCha) → All (λ byte. byte < 256) (word_bytes g)
unfolding word_bytes
word-All g = bytes_low_first-All 0 4 (next_word 10 g).0

pub counted12-IsId12 : (client counter : ℕ) → IsId12 (counted12 client counter)
counted12-IsId12 client counter =
    (refl, All-append (λ byte. byte < 256) (to_be_bytes w32 client) (to_be_bytes w64 counter) (bytes_high_first-All 4 client) (bytes_high_first-All 8 counter))

pub counted8-IsId8 : (client counter : ℕ) → IsId8 (counted8 client counter)
counted8-IsId8 client counter =
    (refl, All-append (λ byte. byte < 256) (to_be_bytes w32 client) (to_be_bytes w32 counter) (bytes_high_first-All 4 client) (bytes_high_first-All 4 counter))

-- the client and the number are read off an id
client_of-counted12 : (client counter : ℕ) → client < 2 ^ 32 → from_be_bytes w32 (take 4 (counted12 client counter).0) ≡ client
client_of-counted12 client counter small = from_be_bytes-to_be_bytes_4 client small

number_of-counted12 : (client counter : ℕ) → counter < 2 ^ 64 → from_be_bytes w64 (drop 4 (counted12 client counter).0) ≡ counter
number_of-counted12 client counter small = from_be_bytes-to_be_bytes_8 counter small

client_of-counted8 : (client counter : ℕ) → client < 2 ^ 32 → from_be_bytes w32 (take 4 (counted8 client counter).0) ≡ client
client_of-counted8 client counter small = from_be_bytes-to_be_bytes_4 client small

number_of-counted8 : (client counter : ℕ) → counter < 2 ^ 32 → from_be_bytes w32 (drop 4 (counted8 client counter).0) ≡ counter
number_of-counted8 client counter small = from_be_bytes-to_be_bytes_4 counter small

-- one id comes from one client and one number
pub counted12-same : (a b m n : ℕ) → a < 2 ^ 32 → b < 2 ^ 32 → m < 2 ^ 64 → n < 2 ^ 64 → counted12 a m ≡ counted12 b n → (a ≡ b) × (m ≡ n)
counted12-same a b m n a_small b_small m_small n_small same = (
  sym (client_of-counted12 a m a_small) ∙ ap (λ (id : Id12). from_be_bytes w32 (take 4 id.0)) same ∙ client_of-counted12 b n b_small,
  sym (number_of-counted12 a m m_small) ∙ ap (λ (id : Id12). from_be_bytes w64 (drop 4 id.0)) same ∙ number_of-counted12 b n n_small,
)

pub counted8-same : (a b m n : ℕ) → a < 2 ^ 32 → b < 2 ^ 32 → m < 2 ^ 32 → n < 2 ^ 32 → counted8 a m ≡ counted8 b n → (a ≡ b) × (m ≡ n)
counted8-same a b m n a_small b_small m_small n_small same = (
  sym (client_of-counted8 a m a_small) ∙ ap (λ (id : Id8). from_be_bytes w32 (take 4 id.0)) same ∙ client_of-counted8 b n b_small,
  sym (number_of-counted8 a m m_small) ∙ ap (λ (id : Id8). from_be_bytes w32 (drop 4 id.0)) same ∙ number_of-counted8 b n n_small,
)

-- the initial id has a number that no u32 is
pub counted12-not_initial : (client counter : ℕ) → counter < 2 ^ 32 → counted12 client counter ≢ initial_id
counted12-not_initial client counter small same =
    let number : counter ≡ 0x787580f0e33a6534 =
    sym (number_of-counted12 client counter (omega arith)) ∙ ap (λ (id : Id12). from_be_bytes w64 (drop 4 id.0)) same in
    omega arith

-- ## Draws

-- what a draw is, where it is one
pub record IsDraw {I : Type 0} (counted : ℕ → ℕ → I) (ids after : CountIds) (id : I) : Type 0 where
  pub left : ids.counter < 2 ^ 32 - 1
  pub is : id ≡ counted ids.client ids.counter
  pub client : after.client ≡ ids.client
  pub counter : after.counter ≡ ids.counter + 1

taken : {I : Type 0} (counted : ℕ → ℕ → I) (ids : CountIds) (id : I) (spent : Bool) → is_spent ids ≡ spent → ids.counter < 2 ^ 32 → cond spent None (Some (counted ids.client ids.counter)) ≡ Some id → IsDraw counted ids (count_after ids) id
taken counted ids id true spent fits is = cc
taken counted ids id false spent fits is =
    let other : 2 ^ 32 - 1 - ids.counter ≢ 0 = eqb-false _ _ spent in
    let raised : CountIds = record ids { counter = ids.counter + 1 } in
    let after : count_after ids ≡ raised = ap (λ b. cond b ids raised) spent in
    record {
      left = omega arith;
      is = sym (ap (λ drawn. unwrap_or drawn id) is);
      client = ap (λ (s : CountIds). s.client) after;
      counter = ap (λ (s : CountIds). s.counter) after;
    }

pub count_drawn12-Some : (ids : CountIds) (id : Id12) → ids.counter < 2 ^ 32 → count_drawn12 ids ≡ Some id → IsDraw counted12 ids (count_after ids) id
count_drawn12-Some ids id fits is = taken counted12 ids id (is_spent ids) refl fits is

pub count_drawn8-Some : (ids : CountIds) (id : Id8) → ids.counter < 2 ^ 32 → count_drawn8 ids ≡ Some id → IsDraw counted8 ids (count_after ids) id
count_drawn8-Some ids id fits is = taken counted8 ids id (is_spent ids) refl fits is

-- ## Any ids

drawn-holds : {I : Type 0} (P : I → Type 0) (spent : Bool) (drawn id : I) → P drawn → cond spent None (Some drawn) ≡ Some id → P id
drawn-holds P true drawn id holds is = cc
drawn-holds P false drawn id holds is = subst P (ap (λ drawn. unwrap_or drawn id) is) holds

streamed12-IsId12 : (ids : StreamIds) → IsId12 (streamed12 ids)
unfolding word_bytes
streamed12-IsId12 ids =
    let first = stream_place ids in
    let more = behind_word first in
    let last = behind_word more in
    (refl, All-append (λ byte. byte < 256) (two_words first) (word_bytes last) (All-append (λ byte. byte < 256) (word_bytes first) (word_bytes more) (word-All first) (word-All more)) (word-All last))

streamed8-IsId8 : (ids : StreamIds) → IsId8 (streamed8 ids)
unfolding word_bytes
streamed8-IsId8 ids =
    let first = stream_place ids in
    let more = behind_word first in
    (refl, All-append (λ byte. byte < 256) (word_bytes first) (word_bytes more) (word-All first) (word-All more))

pub drawn12-IsId12 : (ids : AnyIds) (id : Id12) → drawn12 ids ≡ Some id → IsId12 id
drawn12-IsId12 (Count ids) id is = drawn-holds IsId12 (is_spent ids) _ id (counted12-IsId12 ids.client ids.counter) is
drawn12-IsId12 (Stream ids) id is = drawn-holds IsId12 (is_dry ids) _ id (streamed12-IsId12 ids) is

pub drawn8-IsId8 : (ids : AnyIds) (id : Id8) → drawn8 ids ≡ Some id → IsId8 id
drawn8-IsId8 (Count ids) id is = drawn-holds IsId8 (is_spent ids) _ id (counted8-IsId8 ids.client ids.counter) is
drawn8-IsId8 (Stream ids) id is = drawn-holds IsId8 (is_dry ids) _ id (streamed8-IsId8 ids) is

-- a client's source draws in its way
pub ids_of-draw : (draw : Draw) (client : ℕ) → draw_of (ids_of draw client) ≡ draw
ids_of-draw D.Count client = refl
ids_of-draw (D.Stream seed) client = refl

pub ids_of-client : (draw : Draw) (client : ℕ) → client_of (ids_of draw client) ≡ client
ids_of-client D.Count client = refl
ids_of-client (D.Stream seed) client = refl

-- a draw leaves the way and the client
counts-on : (ids : CountIds) (spent : Bool) → draw_of (Count (cond spent ids (record ids { counter = ids.counter + 1 }))) ≡ D.Count
counts-on ids true = refl
counts-on ids false = refl

flows-on : (ids : StreamIds) (dry : Bool) → draw_of (Stream (cond dry ids (record ids { counter = ids.counter + 1 }))) ≡ D.Stream ids.seed
flows-on ids true = refl
flows-on ids false = refl

pub after12-draw : (ids : AnyIds) → draw_of (after12 ids) ≡ draw_of ids
after12-draw (Count ids) = counts-on ids (is_spent ids)
after12-draw (Stream ids) = flows-on ids (is_dry ids)

pub after8-draw : (ids : AnyIds) → draw_of (after8 ids) ≡ draw_of ids
after8-draw (Count ids) = counts-on ids (is_spent ids)
after8-draw (Stream ids) = flows-on ids (is_dry ids)

-- behind a draw there is one less
some-left : {I : Type 0} (drawn : Option I) (id : I) (left : ℕ) → drawn ≡ Some id → is_none drawn ≡ (left == 0) → left ≢ 0
some-left drawn id left is ends = eqb-false left 0 (sym ends ∙ ap is_none is)

pub left-object : (ids : AnyIds) (id : Id12) → drawn12 ids ≡ Some id → left_of ids ≢ 0
left-object ids id is = some-left (drawn12 ids) id (left_of ids) is (any_source12.ends ids)

pub left-node : (ids : AnyIds) (id : Id8) → drawn8 ids ≡ Some id → left_of ids ≢ 0
left-node ids id is = some-left (drawn8 ids) id (left_of ids) is (any_source8.ends ids)

pub drawn12-lowers : (ids : AnyIds) (id : Id12) → drawn12 ids ≡ Some id → left_of ids ≡ left_of (after12 ids) + 1
drawn12-lowers ids id is = let some = left-object ids id is in let moves = any_source12.moves ids in omega (arith, some, moves)

pub drawn8-lowers : (ids : AnyIds) (id : Id8) → drawn8 ids ≡ Some id → left_of ids ≡ left_of (after8 ids) + 1
drawn8-lowers ids id is = let some = left-node ids id is in let moves = any_source8.moves ids in omega (arith, some, moves)

-- ## No id is drawn twice by counting
stream-no-count : (seed : List ℕ) → ¬ (D.Stream seed ≡ D.Count)
stream-no-count seed e = cc

not_spent : (ids : CountIds) → left_of (Count ids) ≢ 0 → ids.counter < 2 ^ 32
not_spent ids some = let other : 2 ^ 32 - 1 - ids.counter ≢ 0 = some in omega (arith, other)

apart12 : (most : ℕ) → most < 2 ^ 32 → (a b : AnyIds) (id : Id12) → IsAmong D.Count most a → IsAmong D.Count most b → drawn12 a ≡ Some id → drawn12 b ≡ Some id → (client_of a ≡ client_of b) × (left_of a ≡ left_of b)
apart12 most small (Stream a) b id among other is is' = absurd (stream-no-count a.seed among.way)
apart12 most small (Count a) (Stream b) id among other is is' = absurd (stream-no-count b.seed other.way)
apart12 most small (Count a) (Count b) id among other is is' =
    let fits : a.counter < 2 ^ 32 = not_spent a (left-object (Count a) id is) in
    let fits' : b.counter < 2 ^ 32 = not_spent b (left-object (Count b) id is') in
    let draw : IsDraw counted12 a (count_after a) id = count_drawn12-Some a id fits is in
    let draw' : IsDraw counted12 b (count_after b) id = count_drawn12-Some b id fits' is' in
    let client : a.client ≤ most = among.small in
    let client' : b.client ≤ most = other.small in
    let same = counted12-same a.client b.client a.counter b.counter (omega arith) (omega arith) (omega arith) (omega arith) (sym draw.is ∙ draw'.is) in
    (same.0, ap (λ n. 2 ^ 32 - 1 - n) same.1)

apart8 : (most : ℕ) → most < 2 ^ 32 → (a b : AnyIds) (id : Id8) → IsAmong D.Count most a → IsAmong D.Count most b → drawn8 a ≡ Some id → drawn8 b ≡ Some id → (client_of a ≡ client_of b) × (left_of a ≡ left_of b)
apart8 most small (Stream a) b id among other is is' = absurd (stream-no-count a.seed among.way)
apart8 most small (Count a) (Stream b) id among other is is' = absurd (stream-no-count b.seed other.way)
apart8 most small (Count a) (Count b) id among other is is' =
    let fits : a.counter < 2 ^ 32 = not_spent a (left-node (Count a) id is) in
    let fits' : b.counter < 2 ^ 32 = not_spent b (left-node (Count b) id is') in
    let draw : IsDraw counted8 a (count_after a) id = count_drawn8-Some a id fits is in
    let draw' : IsDraw counted8 b (count_after b) id = count_drawn8-Some b id fits' is' in
    let client : a.client ≤ most = among.small in
    let client' : b.client ≤ most = other.small in
    let same = counted8-same a.client b.client a.counter b.counter (omega arith) (omega arith) (omega arith) (omega arith) (sym draw.is ∙ draw'.is) in
    (same.0, ap (λ n. 2 ^ 32 - 1 - n) same.1)

no-initial : (most : ℕ) (ids : AnyIds) (id : Id12) → IsAmong D.Count most ids → drawn12 ids ≡ Some id → id ≢ initial_id
no-initial most (Stream ids) id among is initial = stream-no-count ids.seed among.way
no-initial most (Count ids) id among is initial =
    let fits : ids.counter < 2 ^ 32 = not_spent ids (left-object (Count ids) id is) in
    let draw : IsDraw counted12 ids (count_after ids) id = count_drawn12-Some ids id fits is in
    counted12-not_initial ids.client ids.counter fits (sym draw.is ∙ initial)

pub count-once : (most : ℕ) → most < 2 ^ 32 → DrawsOnce D.Count most
count-once most small = record { objects = apart12 most small; nodes = apart8 most small; others = no-initial most }

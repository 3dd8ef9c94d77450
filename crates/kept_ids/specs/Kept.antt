-- A generator that is kept where a source's next id is read.
use Rattle.std.specs.Prelude.{◌≡◌, Option, None, Some}
use Rattle.rand_chacha.specs.ChaCha.{ChaCha}
use Rattle.ice_ids.specs.declared.drawing.AnyIds.{AnyIds}
use Rattle.ice_ids.specs.declared.drawing.AnyIds.TheVariants.{Count, Stream}
use Rattle.ice_ids.specs.declared.drawing.StreamIds.{StreamIds}
use Rattle.ice_ids.specs.Drawing.{behind_word, stream_place}

-- the generator behind two words, and behind the four that a draw takes
abbrev pub behind_two : ChaCha → ChaCha
behind_two g = behind_word (behind_word g)

abbrev pub behind_id : ChaCha → ChaCha
behind_id g = behind_two (behind_two g)

-- the generator of a stream, if one is kept, stands where the next id is read
abbrev pub StandsAt : StreamIds → Option ChaCha → Type 0
StandsAt ids None = Unit {0}
StandsAt ids (Some g) = g ≡ stream_place ids

-- and none is kept where ids are counted
abbrev pub IsKeptFor : AnyIds → Option ChaCha → Type 0
IsKeptFor (Count ids) kept = kept ≡ None
IsKeptFor (Stream ids) kept = StandsAt ids kept

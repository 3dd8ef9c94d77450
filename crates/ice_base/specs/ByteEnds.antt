-- Ends in memory, some of whose calls are to fail (own).
use Rattle.std.specs.Prelude.{ℕ, ◌-◌, ◌==◌, ◌++◌, ◌||◌, min, List, length}
use Rattle.std.specs.Prelude.{take, drop, Bool, if◌then◌else◌, nat_le, Some}
use Rattle.std.specs.List.{list_any}
use Rattle.ice_base.specs.Ends.{InputAt, OutputAt, raised}

-- a source: what is left, the numbers of the calls that are to fail, the number of the next call,
-- and the faults so far
pub record ByteSourceAt : Type 0 where
  pub left : List ℕ
  pub fail : List ℕ
  pub calls : ℕ
  pub faults : ℕ

-- a sink: what was written, how much it holds at most, and the same numbers
pub record ByteSinkAt : Type 0 where
  pub written : List ℕ
  pub room : ℕ
  pub fail : List ℕ
  pub calls : ℕ
  pub faults : ℕ

-- both tell all bytes
abbrev pub source_at : ByteSourceAt → InputAt
source_at source = record { left = Some source.left; faults = source.faults }

abbrev pub sink_at : ByteSinkAt → OutputAt
sink_at sink = record { written = Some sink.written; faults = sink.faults }

-- a read fails where its number is planned
abbrev pub read_fails : ByteSourceAt → Bool
read_fails source = list_any (λ number. number == source.calls) source.fail

-- it gives as many bytes as there are and as fit
abbrev pub given : ByteSourceAt → ℕ → ℕ
given source size = min size (length source.left)

-- what a read into a buffer of this size leaves
abbrev pub after_read : ByteSourceAt → ℕ → ByteSourceAt
after_read source size =
    if read_fails source
    then record source { calls = raised source.calls; faults = raised source.faults }
    else record source { left = drop (given source size) source.left; calls = raised source.calls }

-- a write fails where its number is planned, or no room is left
abbrev pub write_fails : ByteSinkAt → Bool
write_fails sink =
    list_any (λ number. number == sink.calls) sink.fail || nat_le sink.room (length sink.written)

-- it takes as many bytes as there are and as there is room for
abbrev pub accepted : ByteSinkAt → List ℕ → ℕ
accepted sink bytes = min (length bytes) (sink.room - length sink.written)

-- what a write of these bytes leaves
abbrev pub after_write : ByteSinkAt → List ℕ → ByteSinkAt
after_write sink bytes =
    if write_fails sink then record sink { calls = raised sink.calls; faults = raised sink.faults }
    else record sink {
      written = sink.written ++ take (accepted sink bytes) bytes;
      calls = raised sink.calls;
    }

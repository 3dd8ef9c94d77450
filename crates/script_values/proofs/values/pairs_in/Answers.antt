use Rattle.std.proofs.Common.{◌≡◌, min, length, ◌∙◌}
use Rattle.script_values.specs.Values.{byte_of, pairs}
use Rattle.script_values.specs.SoFar.{parts_seen}
use Rattle.script_values.proofs.Earliest.{one_more_part}
use Rattle.script_values.proofs.Pairs.{first_pair, no_pairs}
use Rattle.script_values.proofs.values.pairs_in.Goals as goal

pub loop-pair-preserved : goal.loop-pair-preserved
loop-pair-preserved c =
    let steps = c.in-Some.ensures.steps in
    let all = c.loop-pair.pair-iterator.rest.now in
    let short : length c.in-Some.pair.now ≡ min 2 (length all) = rw c.loop-pair.invariant.size at steps.1.1 in
    record {
      size = steps.0 ∙ c.loop-pair.invariant.size;
      left = one_more_part byte_of (parts_seen c.loop-pair.bytes) (parts_seen c.in_ok-bytes.bytes) c.byte_of.result c.in-Some.pair.now (pairs c.next.new.self.rest.now) (pairs all) _
          c.loop-pair.invariant.left (first_pair c.in-Some.pair.now c.next.new.self.rest.now all steps.1.0 short steps.1.2) c.byte_of.ensures c.in_ok-bytes.ensures;
    }

pub returns : goal.returns
returns c = no_pairs byte_of (parts_seen c.loop-pair.bytes) c.loop-pair.pair-iterator.rest.now _ c.in-None.ensures.steps.1.0 c.loop-pair.invariant.left

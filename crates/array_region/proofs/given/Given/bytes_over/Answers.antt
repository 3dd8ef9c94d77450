use Rattle.std.proofs.Common.{◌∙◌, length, ap}
use Rattle.array_region.specs.Getting.{reads_of}
use Rattle.array_region.specs.Writing.{with_numbers, as_bytes}
use Rattle.array_region.proofs.Going.{came_back}
use Rattle.array_region.proofs.Written.{are_bytes}
use Rattle.array_region.proofs.given.Given.bytes_over.Goals as goal

pub returns : goal.returns
returns c =
    let given = c.args.self.now in
    let b = c.in_ok-bytes.bytes in
    are_bytes c.from_vec.result c.from_vec.ensures.bytes
    ∙ ap as_bytes
    (c.from_vec.ensures.value ∙ came_back b.len b.items c.write.new.bytes b.ok.0 (c.write.auto.bytes ∙ ap length c.as_mut_slice.ensures.value) ∙ c.write.ensures
    ∙ ap (with_numbers (reads_of given.plan) c.args.index.now given.numbers.items) (c.as_mut_slice.ensures.value ∙ c.in_ok-bytes.ensures))

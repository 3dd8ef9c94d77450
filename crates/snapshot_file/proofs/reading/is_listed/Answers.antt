use Rattle.std.proofs.Common.{rules, ◌∙◌}
use Rattle.std.proofs.lemmas.List.Sorted.{answers_always}
use Rattle.snapshot_file.specs.Snapshots.{file_key}
use Rattle.snapshot_file.proofs.Listed.{searched}
use Rattle.snapshot_file.proofs.reading.is_listed.Goals as goal

pub returns : goal.returns
returns c =
    let facts = c.binary_search_by_key.ensures in
    let by_key = facts.position (λ file. file.id) (answers_always _ _ _ (λ f a r g called. search rules)) in
    c.is_ok.ensures.value ∙ searched file_key c.args.files.now c.args.manifest.now.id.0 c.binary_search_by_key.result c.requires facts.bound by_key

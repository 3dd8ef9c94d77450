use Rattle.std.proofs.Common.{ap, sym, ◌∙◌}
use Rattle.flat_tables.specs.Places.{root_of}
use Rattle.held_manifest.proofs.Checked.{ok_by, gives_ok, gives_same}
use Rattle.held_log.proofs.Parts.{log_parts}
use Rattle.held_log.proofs.held.root.Goals as goal

pub unwrap-payload-requires : goal.unwrap-payload-requires
unwrap-payload-requires c =
    let parts = log_parts c.args.file.now c.requires in
    gives_ok (λ payload. payload.now) c.payload_in.result _ parts.payload c.payload_in.ensures parts.payload_is

pub unwrap-requires : goal.unwrap-requires
unwrap-requires c =
    let parts = log_parts c.args.file.now c.requires in
    let same = gives_same (λ payload. payload.now) c.payload_in.result _ c.unwrap-payload.result parts.payload c.payload_in.ensures c.unwrap-payload.ensures parts.payload_is in
    ok_by c.root.result parts.table (c.root.ensures ∙ ap root_of same ∙ parts.table_is)

pub returns : goal.returns
returns c =
    let parts = log_parts c.args.file.now c.requires in
    let same = gives_same (λ payload. payload.now) c.payload_in.result _ c.unwrap-payload.result parts.payload c.payload_in.ensures c.unwrap-payload.ensures parts.payload_is in
    (parts.payload, parts.payload_is, ap root_of (sym same) ∙ sym c.root.ensures ∙ c.unwrap.ensures)

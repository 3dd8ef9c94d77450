use Rattle.std.proofs.Common.{rules, ◌≡◌, Ok, sym, ap, ◌∙◌}
use Rattle.std.proofs.lemmas.List.{take_rest}
use Rattle.flat_tables.specs.Header.{kind_of}
use Rattle.flat_tables.proofs.Files.{file_is}
use Rattle.file_fields.proofs.reading.payload_in.Goals as goal

pub returns : goal.returns
returns c =
    let same : c.in_ok-found.found ≡ c.args.kind = search rules in
    let is : kind_of c.args.file.now ≡ Ok c.args.kind = sym c.in_ok-found.ensures.kind ∙ ap (λ k. Ok k) same in
    rw (take_rest c.args.file.now 39) (file_is c.args.kind (λ payload. Ok payload) c.args.file.now c.if-file-gt-FILE_LIMIT.false is)

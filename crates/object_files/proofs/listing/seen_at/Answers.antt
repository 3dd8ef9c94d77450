use Rattle.std.proofs.Common.{rules, ◌≡◌}
use Rattle.std.specs.Prelude.{string_bytes}
use Rattle.object_files.specs.Paths.{path_in}
use Rattle.object_files.proofs.Located.{at-key}
use Rattle.object_files.proofs.listing.seen_at.Goals as goal

pub returns-clause-told : goal.returns-clause-told
returns-clause-told g c =
    let is : string_bytes c.in_ok-path.path ≡ path_in c.args.root.now c.args.key.now = search rules in
    at-key c.args.root.now c.args.key.now c.in_ok-path.path c.located.result is c.located.ensures.path

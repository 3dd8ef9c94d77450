use Rattle.std.proofs.Common.{rules, ◌≡◌}
use Rattle.std.specs.Prelude.{MatchResult, string_bytes}
use Rattle.whole_files.specs.Places.{root_of, asides_of}
use Rattle.object_store.specs.declared.events.StoreFault.TheVariants.{NoMemory}
use Rattle.object_files.specs.Paths.{path_in}
use Rattle.object_files.proofs.Apart.{outside-ok}
use Rattle.dir_store.proofs.directory.Directory.path.Goals as goal

pub returns-clause-outside : goal.returns-clause-outside
returns-clause-outside g c =
    let made : MatchResult c.or_no_memory.result (λ path. string_bytes path ≡ path_in (root_of c.args.self.now.places) c.args.key.now) (λ fault. fault ≡ NoMemory) = search rules in
    outside-ok (root_of c.args.self.now.places) (asides_of c.args.self.now.places) c.args.key.now c.or_no_memory.result c.args.self.now.asides made

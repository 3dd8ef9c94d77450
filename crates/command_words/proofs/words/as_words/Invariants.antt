use Rattle.std.proofs.Common.{◌≡◌, ◌++◌, map, string_bytes}
use Rattle.std.specs.Vec.Iter.{into_iter_items}
use Rattle.command_words.proofs.words.as_words.Given as goal

abbrev pub invariant-loop-text : goal.invariant-loop-text
invariant-loop-text l = (l.words.items ≡ map string_bytes l.yielded) × (l.yielded ++ into_iter_items l.text-iterator ≡ into_iter_items l.fn.texts)

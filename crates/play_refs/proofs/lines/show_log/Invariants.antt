use Rattle.std.proofs.Common.{◌≡◌, ◌++◌, length, map}
use Rattle.play_refs.specs.Playing.{log_shown}
use Rattle.play_refs.proofs.lines.show_log.Given as goal

abbrev pub invariant-loop-log_line : goal.invariant-loop-log_line
invariant-loop-log_line l = (l.shown.items ≡ l.fn.shown.items ++ map (log_shown l.line) l.yielded) × (l.yielded ++ l.log_line-iterator.rest.items ≡ l.fn.lines.items) × (l.before ≡ length l.fn.shown.items)

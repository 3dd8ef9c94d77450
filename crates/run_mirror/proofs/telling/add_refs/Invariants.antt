use Rattle.std.proofs.Common.{take}
use Rattle.std.specs.List.{flat_map}
use Rattle.drafts.specs.Drafts.{Took}
use Rattle.run_mirror.specs.Texts.{ref_text}
use Rattle.run_mirror.proofs.telling.add_refs.Given as goal

-- what has been added so far
abbrev pub invariant-loop-told : goal.invariant-loop-told
invariant-loop-told g l = Took l.fn.out (g.K.Sink.at l.fn.to) (flat_map ref_text (take l.told-index l.refs)) l.out (g.K.Sink.at l.to)

use Rattle.std.proofs.Common.{◌≡◌, ◌++◌, List, [], ℕ, sym, ap, ◌∙◌}
use Rattle.std.proofs.lemmas.List.{append-nil}
use Rattle.std.proofs.lemmas.Map.Iter.{rest_all}
use Rattle.manifest_file.specs.declared.manifest.Place.{Place}
use Rattle.manifest_index.proofs.Collected.{Entries, rows_of}
use Rattle.manifest_index.proofs.chunks.into_refs.Goals as goal

pub returns : goal.returns
returns c =
    let left : c.loop-index.index-iterator ≡ [] = rest_all (λ (e : List ℕ × Place). e) c.loop-index.index-iterator c.next.new.self c.next.result c.in-None.is c.next.ensures.steps in
    let all : c.loop-index.refs ≡ rows_of c.args.chunks.entries =
    sym (append-nil c.loop-index.refs) ∙ (ap (λ (es : Entries). c.loop-index.refs ++ rows_of es) (sym left) ∙ c.loop-index.invariant) in
    (all, c.into_iter-index-iterator.ensures.into_iter_gives.5)

use Rattle.std.proofs.Common.{◌≡◌, List, [], ◌∷◌, drop, subst, ◌∙◌}
use Rattle.manifest_file.specs.declared.manifest.ChunkRef.{ChunkRef}
use Rattle.held_manifest.specs.Objects.{objects_of_refs}
use Rattle.held_manifest.proofs.Walking.{array_names, array_passed}
use Rattle.held_manifest.proofs.objects.object_in_arrays.Goals as goal

pub returns-in-Some : goal.returns-in-Some
returns-in-Some c =
    let from = c.loop-i.from in
    let behind = c.in-Some.behind in
    let found = subst (λ (refs : List ChunkRef). objects_of_refs (drop from refs) ≡ c.in-Some.id ∷ objects_of_refs (drop behind refs)) c.into_refs.ensures c.in-Some.ensures in
    c.loop-i.invariant ∙ array_names c.args.arrays.now c.loop-i.i from behind c.at.result c.in-Some.id c.at.ensures found

pub loop-i-preserved : goal.loop-i-preserved
loop-i-preserved c =
    let from = c.loop-i.from in
    let none = subst (λ (refs : List ChunkRef). objects_of_refs (drop from refs) ≡ []) c.into_refs.ensures c.in_default.ensures in
    c.loop-i.invariant ∙ array_passed c.args.arrays.now c.loop-i.i from c.at.result c.at.ensures none

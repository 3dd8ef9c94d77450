use Rattle.std.proofs.Common.{◌++◌, ℕ, List}
use Rattle.std.specs.Prelude.{codes}
use Rattle.folder.specs.Files.{Firms}
use Rattle.object_store.specs.declared.keys.Part.TheVariants.{Snapshots, Manifests, Txns, Chunks, Branches, Leases}
use Rattle.dir_store.specs.inside.Flushing.{AreFirmParts}
use Rattle.dir_store.proofs.Flushing.{of-part, parts-firm, on-ok-map}
use Rattle.dir_store.proofs.clearing.flush_parts.Goals as goal

pub returns-clause-firm : goal.returns-clause-firm
returns-clause-firm g c = λ tells.
    let root : List ℕ = c.args.root.now in
    let start : List ℕ → Type 0 = g.F.Folder.loose c.args.tree.now in
    let first : List ℕ → Type 0 = g.F.Folder.loose c.flush_part.new.tree in
    let second : List ℕ → Type 0 = g.F.Folder.loose c.flush_part-2.new.tree in
    let third : List ℕ → Type 0 = g.F.Folder.loose c.flush_part-3.new.tree in
    let fourth : List ℕ → Type 0 = g.F.Folder.loose c.flush_part-4.new.tree in
    let fifth : List ℕ → Type 0 = g.F.Folder.loose c.flush_part-5.new.tree in
    let last : List ℕ → Type 0 = g.F.Folder.loose c.flush_part-6.new.tree in
    on-ok-map c.flush_part-6.result (Firms (root ++ codes "/" ++ c.folder_of-6.result.now) fifth last) (AreFirmParts last root)
    (λ leases. parts-firm root start first second third fourth fifth last
    (of-part root c.folder_of.result.now Snapshots start first c.folder_of.ensures (c.in_ok-flush_part.ensures.firm tells))
    (of-part root c.folder_of-2.result.now Manifests first second c.folder_of-2.ensures (c.in_ok-flush_part-2.ensures.firm tells))
    (of-part root c.folder_of-3.result.now Txns second third c.folder_of-3.ensures (c.in_ok-flush_part-3.ensures.firm tells))
    (of-part root c.folder_of-4.result.now Chunks third fourth c.folder_of-4.ensures (c.in_ok-flush_part-4.ensures.firm tells))
    (of-part root c.folder_of-5.result.now Branches fourth fifth c.folder_of-5.ensures (c.in_ok-flush_part-5.ensures.firm tells))
    (of-part root c.folder_of-6.result.now Leases fifth last c.folder_of-6.ensures leases))
    (c.flush_part-6.ensures.firm tells)

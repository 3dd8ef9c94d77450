use Rattle.std.proofs.Common.{◌≡◌, ℕ, List, length, drop, All}
use Rattle.std.specs.List.{AllWithin}
use Rattle.held_manifest.specs.LookUp.{look_up}
use Rattle.manifest_index.specs.inside.Chunks.{chunk_at, ranked, IsSized}
use Rattle.manifest_index.proofs.merging.old_chunks.Given as goal

abbrev pub invariant-loop-k : goal.invariant-loop-k
invariant-loop-k l = record {
  found : (q : List ℕ) → chunk_at q l.chunks ≡ ranked l.rank q (look_up l.node q (drop l.k l.manifests));
  sized : AllWithin (λ m. All IsSized m.0) l.manifests l.k (length l.manifests);
}

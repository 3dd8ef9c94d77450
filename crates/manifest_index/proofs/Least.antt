-- The least number and the greatest make the least extent.
use Rattle.std.proofs.Common.{◌≡◌, ℕ, zero, suc, ◌+◌, ◌<◌, ◌&&◌, ltb, Bool, true, false, List, [], ◌∷◌, length, map, drop, min, max, slice_index_or, refl, sym, ap, subst, ◌∙◌, arith, All, ltb-true, lt-ltb, add-one, length-drop}
use Rattle.std.specs.Prelude.{slice_index, IsTrue, HoldsAt, nat_le, nat_lt}
use Rattle.std.specs.List.{fold, range_with_len, AllByRecursion}
use Rattle.std.proofs.lemmas.Bool.{and_from}
use Rattle.std.proofs.lemmas.List.{length-map}
use Rattle.std.proofs.lemmas.List.Elements.{All-head, All-tail, recursion_from_All}
use Rattle.std.proofs.lemmas.List.FromFn.{fill_by_all, length-range_with_len, get_or-map-range_with_len}
use Rattle.manifest_file.specs.declared.manifest.Place.TheVariants.{Inline}
use Rattle.manifest_file.specs.declared.manifest.ChunkRef.{ChunkRef}
use Rattle.snapshot_file.specs.Layout as snapshots
use Rattle.held_manifest.specs.LookUp.{within}
use Rattle.manifest_index.specs.Extents.{are_low, numbers, extent_for, extents_for, IsExtent, AreExtents}
use Rattle.manifest_index.specs.inside.Chunks.{IsSized}
use Rattle.manifest_index.proofs.Spans.{Spans, number, spans_first, spans_next, extent_is, AreFirst, extents_are}

-- ---- all numbers

rest_from : (refs rest : List ChunkRef) (i : ℕ) (r : ChunkRef) → drop i refs ≡ r ∷ rest → (i < length refs) × HoldsAt (λ x. x ≡ r) refs i × (drop (suc i) refs ≡ rest)
rest_from [] rest zero r e = absurd cc
rest_from [] rest (suc i) r e = absurd cc
rest_from (x ∷ xs) rest zero r e = let head : x ≡ r = cc in let tail : xs ≡ rest = cc in (omega arith, (λ d. head), tail)
rest_from (x ∷ xs) rest (suc i) r e = let behind = rest_from xs rest i r e in (omega (arith, behind.0), behind.1, behind.2)

spans_all : (k : ℕ) (refs rest : List ChunkRef) (i first last : ℕ) → drop i refs ≡ rest → Spans k refs i first last → Spans k refs (length refs) (fold min first (numbers k rest)) (fold max last (numbers k rest))
spans_all k refs [] i first last e s = record {
  between = λ j d from below. s.between j d from (omega (arith, length-drop i refs, ap length e));
  least = s.least;
  greatest = s.greatest;
}
spans_all k refs (r ∷ rest) i first last e s =
    let at = rest_from refs rest i r e in
    spans_all k refs rest (i + 1) (min first (number k r)) (max last (number k r)) (ap (λ (m : ℕ). drop m refs) (add-one i) ∙ at.2)
    (spans_next k refs i first last (number k r) at.0 (λ d. ap (number k) (at.1 d)) s)

pub least_extent : (k : ℕ) (refs : List ChunkRef) → 0 < length refs → IsExtent k refs (extent_for k refs)
least_extent k [] filled = absurd (omega arith)
least_extent k (r ∷ rs) filled =
    let refs : List ChunkRef = r ∷ rs in
    let n : ℕ = number k r in
    let ns : List ℕ = numbers k rs in
    let one : Spans k refs (0 + 1) (min n n) (max n n) = spans_next k refs 0 n n n filled (λ d. refl) (spans_first k refs n filled (λ d. refl)) in
    let all : Spans k refs (length refs) (fold min (min n n) ns) (fold max (max n n) ns) = spans_all k refs rs (0 + 1) (min n n) (max n n) refl one in
    let low : min n n ≡ n = omega arith in
    let high : max n n ≡ max 0 n = omega arith in
    let is : Spans k refs (length refs) (fold min n ns) (fold max (max 0 n) ns) =
    subst (λ (m : ℕ). Spans k refs (length refs) (fold min n ns) (fold max m ns)) high (subst (λ (m : ℕ). Spans k refs (length refs) (fold min m ns) (fold max (max n n) ns)) low all) in
    extent_is k refs (length refs) (fold min n ns) (fold max (max 0 n) ns) (fold max (max 0 n) ns + 1) refl refl is

pub extents_are_least : (rank : ℕ) (refs : List ChunkRef) → 0 < length refs → All (λ r. length r.index ≡ rank) refs → AreExtents rank refs (extents_for rank refs)
unfolding extents_for
extents_are_least rank refs filled ranks =
    extents_are rank refs (map (λ k. extent_for k refs) (range_with_len 0 rank)) rank refl ranks (
      length-map (range_with_len 0 rank) (λ k. extent_for k refs) ∙ length-range_with_len 0 rank,
      λ k e below. subst (IsExtent k refs) (sym (get_or-map-range_with_len (λ k. extent_for k refs) 0 rank k k e below (omega arith))) (least_extent k refs filled),
    )

-- ---- the least extent is one

same_extent : (k : ℕ) (refs : List ChunkRef) (e f : ℕ × ℕ) → IsExtent k refs e → IsExtent k refs f → e ≡ f
same_extent k refs e f he hf = λ i. (first i, last i)
  where
    any : ChunkRef
    any = record { index = []; place = Inline [] }

    first : e.0 ≡ f.0
    first = omega (arith, he.1.2 any, hf.1.2 any, (he.0 hf.1.0 any hf.1.1).0, (hf.0 he.1.0 any he.1.1).0)

    last : e.1 ≡ f.1
    last = omega (arith, he.2.2 any, hf.2.2 any, (he.0 hf.2.0 any hf.2.1).1, (hf.0 he.2.0 any he.2.1).1)

pub extents_are_those : (rank : ℕ) (refs : List ChunkRef) (extents : List (ℕ × ℕ)) (n : ℕ) → n ≡ rank → 0 < length refs → AreFirst refs extents n → extents ≡ extents_for rank refs
unfolding extents_for
extents_are_those rank refs extents n same filled first =
    fill_by_all (λ k. extent_for k refs) extents rank (0, 0) (first.0 ∙ same)
    (λ k below. same_extent k refs (slice_index_or extents k (0, 0)) (extent_for k refs) (first.1 k (0, 0) (omega (arith, same))) (least_extent k refs filled))

-- ---- low numbers

both_true : (a b : Bool) → (a && b) ≡ true → (a ≡ true) × (b ≡ true)
both_true true b h = (refl, h)
both_true false b h = absurd cc

pub low_at : (index : List ℕ) (k : ℕ) → IsTrue (are_low index) → k < length index → slice_index index k < 4294967295
low_at [] k low inside = absurd (omega arith)
low_at (n ∷ ns) zero low inside = ltb-true n 4294967295 (both_true (ltb n 4294967295) (are_low ns) low).0
low_at (n ∷ ns) (suc k) low inside = low_at ns k (both_true (ltb n 4294967295) (are_low ns) low).1 (omega (arith, inside))

pub last_low : (k : ℕ) (refs : List ChunkRef) (i first last : ℕ) → All (λ r. k < length r.index) refs → All (λ r. IsTrue (are_low r.index)) refs → Spans k refs i first last → last < 4294967295
last_low k refs i first last ranks low s =
    let any : ChunkRef = record { index = []; place = Inline [] } in
    let j : ℕ = s.greatest.0 in
    omega (arith, s.greatest.2 any, low_at (slice_index_or refs j any).index k (low j any s.greatest.1) (ranks j any s.greatest.1))

pub within_low : (extents : List (ℕ × ℕ)) (index : List ℕ) → All IsSized extents → within extents index ≡ true → IsTrue (are_low index)
within_low [] [] sized inside = refl
within_low [] (n ∷ ns) sized inside = absurd cc
within_low (e ∷ es) [] sized inside = absurd cc
within_low (e ∷ es) (n ∷ ns) sized inside =
    let parts = both_true (nat_le e.0 n && nat_lt n e.1) (within es ns) inside in
    let below : n < e.1 = ltb-true n e.1 (both_true (nat_le e.0 n) (nat_lt n e.1) parts.0).1 in
    let end : e.1 < 4294967296 = All-head IsSized e es sized in
    and_from (ltb n 4294967295) (are_low ns) (lt-ltb n 4294967295 (omega arith)) (within_low es ns (All-tail IsSized e es sized) parts.1)

pub extents_sized : (rank : ℕ) (refs : List ChunkRef) → 0 < length refs → All (λ r. length r.index ≡ rank) refs → All (λ r. IsTrue (are_low r.index)) refs → AllByRecursion snapshots.IsExtent (extents_for rank refs)
extents_sized rank refs filled ranks low = recursion_from_All snapshots.IsExtent (extents_for rank refs) each
  where
    any : ChunkRef
    any = record { index = []; place = Inline [] }

    are : AreExtents rank refs (extents_for rank refs)
    are = extents_are_least rank refs filled ranks

    small : (k j : ℕ) → k < rank → j < length refs → slice_index (slice_index_or refs j any).index k < 4294967295
    small k j inside below = low_at (slice_index_or refs j any).index k (low j any below) (omega (arith, ranks j any below))

    each : All snapshots.IsExtent (extents_for rank refs)
    each k e below =
        let inside : k < rank = omega (arith, are.0) in
        let extent : IsExtent k refs (slice_index_or (extents_for rank refs) k e) = are.1 k e inside in
        (omega (arith, small k extent.1.0 inside extent.1.1, extent.1.2 any), omega (arith, small k extent.2.0 inside extent.2.1, extent.2.2 any))

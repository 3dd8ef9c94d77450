-- The numbers of chunks in one dimension, between bounds that are met.
use Rattle.std.proofs.Common.{◌≡◌, inl, inr, ℕ, zero, suc, ◌+◌, ◌<◌, ◌≤◌, true, List, [], ◌∷◌, ◌++◌, length, min, max, refl, sym, ap, subst, ◌∙◌, arith, slice_index_or, All}
use Rattle.std.specs.Prelude.{slice_index, HoldsAt, ◌&&◌, nat_le, nat_lt}
use Rattle.std.specs.List.{AllWithin}
use Rattle.std.proofs.lemmas.List.{get_or_append_left, length-append}
use Rattle.std.proofs.Math.Seq.{get_or-append_seam}
use Rattle.std.proofs.lemmas.Bool.{cases_lt, lt-ltb, le-leb, and_from}
use Rattle.manifest_file.specs.declared.manifest.ChunkRef.{ChunkRef}
use Rattle.held_manifest.specs.LookUp.{within}
use Rattle.manifest_index.specs.Extents.{Has, IsExtent, AreExtents}

-- the number of a chunk in a dimension
abbrev pub number : ℕ → ChunkRef → ℕ
number k r = slice_index r.index k

-- an element doesn't depend on what stands for none
pub same_element : {A : Type 0} (xs : List A) (i : ℕ) (d e : A) → i < length xs → slice_index_or xs i d ≡ slice_index_or xs i e
same_element [] i d e inside = absurd (omega arith)
same_element (x ∷ xs) zero d e inside = refl
same_element (x ∷ xs) (suc i) d e inside = same_element xs i d e (omega (arith, inside))

-- so many chunks lie between the bounds, and some chunks have them
pub record Spans (k : ℕ) (refs : List ChunkRef) (i first last : ℕ) : Type 0 where
  pub between : AllWithin (λ r. (first ≤ number k r) × (number k r ≤ last)) refs 0 i
  pub least : Has (λ r. number k r ≡ first) refs
  pub greatest : Has (λ r. number k r ≡ last) refs

pub spans_first : (k : ℕ) (refs : List ChunkRef) (n : ℕ) → 0 < length refs → HoldsAt (λ r. number k r ≡ n) refs 0 → Spans k refs 0 n n
spans_first k refs n filled at = record {
  between = λ j d from below. absurd (omega arith);
  least = (0, filled, at);
  greatest = (0, filled, at);
}

pub spans_next : (k : ℕ) (refs : List ChunkRef) (i first last n : ℕ) → i < length refs → HoldsAt (λ r. number k r ≡ n) refs i → Spans k refs i first last → Spans k refs (i + 1) (min first n) (max last n)
spans_next k refs i first last n inside at s = record {
  between = λ j d from below. elim (cases_lt j i) [
    | inl under ↦
        let was = s.between j d from under in
        (omega (arith, was.0), omega (arith, was.1))
    | inr over ↦
        let e : i ≡ j = omega arith in
        let is : number k (slice_index_or refs j d) ≡ n = ap (λ (m : ℕ). number k (slice_index_or refs m d)) (sym e) ∙ at d in
        (omega (arith, is), omega (arith, is))
  ];
  least = elim (cases_lt first n) [
    | inl less ↦ let e : first ≡ min first n = omega arith in subst (λ (m : ℕ). Has (λ r. number k r ≡ m) refs) e s.least
    | inr not ↦ let e : n ≡ min first n = omega arith in subst (λ (m : ℕ). Has (λ r. number k r ≡ m) refs) e (i, inside, at)
  ];
  greatest = elim (cases_lt n last) [
    | inl less ↦ let e : last ≡ max last n = omega arith in subst (λ (m : ℕ). Has (λ r. number k r ≡ m) refs) e s.greatest
    | inr not ↦ let e : n ≡ max last n = omega arith in subst (λ (m : ℕ). Has (λ r. number k r ≡ m) refs) e (i, inside, at)
  ];
}

-- bounds around all chunks are an extent
pub extent_is : (k : ℕ) (refs : List ChunkRef) (i first last behind : ℕ) → i ≡ length refs → behind ≡ last + 1 → Spans k refs i first last → IsExtent k refs (first, behind)
extent_is k refs i first last behind all is s = (
  (λ j d below. let between = s.between j d (omega arith) (omega (arith, all)) in (between.0, omega (arith, between.1, is))),
  s.least,
  (s.greatest.0, s.greatest.1, λ d. ap (λ (m : ℕ). m + 1) (s.greatest.2 d) ∙ sym is),
)

-- the greatest number is one's that is one below this
pub greatest_is : (k : ℕ) (refs : List ChunkRef) (i first last end : ℕ) → last + 1 ≡ end → Spans k refs i first last → Has (λ r. number k r + 1 ≡ end) refs
greatest_is k refs i first last end is s = (s.greatest.0, s.greatest.1, λ d. ap (λ (m : ℕ). m + 1) (s.greatest.2 d) ∙ is)

-- ---- all dimensions

pub within_each : (extents : List (ℕ × ℕ)) (index : List ℕ) → length extents ≡ length index
    → ((k : ℕ) (e : ℕ × ℕ) → k < length extents → ((slice_index_or extents k e).0 ≤ slice_index index k) × (slice_index index k < (slice_index_or extents k e).1))
    → within extents index ≡ true
within_each [] [] same each = refl
within_each [] (n ∷ ns) same each = absurd (omega (arith, same))
within_each (e ∷ es) [] same each = absurd (omega (arith, same))
within_each (e ∷ es) (n ∷ ns) same each =
    let here = each 0 e (omega arith) in
    and_from (nat_le e.0 n && nat_lt n e.1) (within es ns)
    (and_from (nat_le e.0 n) (nat_lt n e.1) (le-leb e.0 n here.0) (lt-ltb n e.1 here.1))
    (within_each es ns (omega (arith, same)) (λ k f below. each (suc k) f (omega (arith, below))))

-- the least extent of each of the first k dimensions
abbrev pub AreFirst : List ChunkRef → List (ℕ × ℕ) → ℕ → Type 0
AreFirst refs extents n = (length extents ≡ n) × ((k : ℕ) (e : ℕ × ℕ) → k < n → IsExtent k refs (slice_index_or extents k e))

pub extents_next : (refs : List ChunkRef) (extents new : List (ℕ × ℕ)) (n : ℕ) (e : ℕ × ℕ) → AreFirst refs extents n → IsExtent n refs e → new ≡ extents ++ e ∷ [] → AreFirst refs new (n + 1)
extents_next refs extents new n e first next is = (
  ap length is ∙ length-append extents (e ∷ []) ∙ ap (λ (m : ℕ). m + 1) first.0,
  λ k d below. elim (cases_lt k n) [
    | inl under ↦
        let at : slice_index_or new k d ≡ slice_index_or extents k d = ap (λ (es : List (ℕ × ℕ)). slice_index_or es k d) is ∙ get_or_append_left extents (e ∷ []) d k (omega (arith, first.0)) in
        subst (IsExtent k refs) (sym at) (first.1 k d under)
    | inr over ↦
        let there : k ≡ n = omega arith in
        let seam : k ≡ length extents = omega (arith, first.0) in
        let at : slice_index_or new k d ≡ e = ap (λ (es : List (ℕ × ℕ)). slice_index_or es k d) is ∙ (ap (λ (m : ℕ). slice_index_or (extents ++ e ∷ []) m d) seam ∙ get_or-append_seam extents e [] d) in
        subst (IsExtent k refs) (sym at) (subst (λ (m : ℕ). IsExtent m refs e) (sym there) next)
  ],
)

pub extents_are : (rank : ℕ) (refs : List ChunkRef) (extents : List (ℕ × ℕ)) (n : ℕ) → n ≡ rank → All (λ r. length r.index ≡ rank) refs → AreFirst refs extents n → AreExtents rank refs extents
extents_are rank refs extents n same ranks first = (
  first.0 ∙ same,
  (λ k e below. first.1 k e (omega (arith, same))),
  λ j d below. within_each extents (slice_index_or refs j d).index (first.0 ∙ same ∙ sym (ranks j d below))
      (λ k e inside. (first.1 k e (omega (arith, first.0))).0 j d below),
)

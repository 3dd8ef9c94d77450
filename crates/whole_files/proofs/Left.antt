-- What a loss of power may leave behind several calls.
use Rattle.std.proofs.Common.{◌≡◌, ◌∙◌, ℕ, List, ap, sym, subst, inl, inr, ⊎_elim}
use Rattle.std.specs.Prelude.{Option}
use Rattle.folder.specs.Files.{StoredFile, Leaves, IsKept, IsPlaced}
use Rattle.whole_files.specs.Whole.{IsAside, IsOutside, SameFiles, IsKeptAside, IsLeft}

abbrev Files : Type 0
Files = List ℕ → Option StoredFile

-- one call after another
pub then : (P Q R : List ℕ → Option StoredFile → Type 0) (a b c : ℕ → List ℕ → Option StoredFile → Type 0) → ((p : List ℕ) (f : Option StoredFile) → P p f → R p f) → ((p : List ℕ) (f : Option StoredFile) → Q p f → R p f) → Leaves P a b → Leaves Q b c → Leaves R a c
then P Q R a b c early late first second = λ n p f at. ⊎_elim (λ before. ⊎_elim inl (λ is. inr (early p f is)) (first n p f before)) (λ is. inr (late p f is)) (second n p f at)

-- folders are made, and a file is written aside
pub aside-left : (asides : List ℕ) (first mid : Files) (a b c : ℕ → List ℕ → Option StoredFile → Type 0) → SameFiles first mid → Leaves (IsKept first) a b → Leaves (IsKeptAside asides mid) b c → Leaves (IsKeptAside asides first) a c
aside-left asides first mid a b c same =
    then (IsKept first) (IsKeptAside asides mid) (IsKeptAside asides first) a b c (λ p f is out. is) (λ p f is out. is out ∙ same p)

-- ... and moved to its place
module _ (asides path aside : List ℕ) (Made Came : Option StoredFile → Type 0) (first mid : Files) (is_aside : IsAside asides aside) (outside : IsOutside asides path) (kept : (p : List ℕ) → IsOutside asides p → mid p ≡ first p) (comes : (f : Option StoredFile) → Came f → Made f) where
  still : (p : List ℕ) (f : Option StoredFile) → IsKeptAside asides first p f → IsLeft asides path Made first p f
  still p f is = record {
    others = λ other out. is out;
    here = λ same. inl (is (subst (IsOutside asides) (sym same) outside) ∙ ap first same);
  }

  moved : (p : List ℕ) (f : Option StoredFile) → IsPlaced path aside Came mid p f → IsLeft asides path Made first p f
  moved p f is = record {
    others = λ other out. is.others other (λ same. out is_aside.0 (same ∙ is_aside.1)) ∙ kept p out;
    here = λ same. ⊎_elim (λ stays. inl (stays ∙ kept path outside)) (λ came. inr (comes f came)) (is.here same);
  }

  pub place-left : (a b c : ℕ → List ℕ → Option StoredFile → Type 0) → Leaves (IsKeptAside asides first) a b → Leaves (IsPlaced path aside Came mid) b c → Leaves (IsLeft asides path Made first) a c
  place-left a b c = then (IsKeptAside asides first) (IsPlaced path aside Came mid) (IsLeft asides path Made first) a b c still moved

-- What reading a path refuses.
use Rattle.std.proofs.Common.{◌≡◌, ◌≢◌, ℕ, ◌≤◌, Bool, true, false, eqb, List, [], ◌∷◌, ◌++◌, Some, ltb, length, refl, sym, ap, ◌∙◌, arith}
use Rattle.std.specs.Prelude.{nat_eq}
use Rattle.std.specs.List.{starts_with}
use Rattle.std.proofs.lemmas.Bool.{eqb-true, le-ltb}
use Rattle.std.proofs.lemmas.Str.{encode_ascii}
use lib.Utf8.{encode}
use Rattle.zarr_path.specs.declared.paths.PathFault.TheVariants as f
use Rattle.zarr_path.specs.Paths.{most_bytes, root, path_fault}

pub no_first : (text : List ℕ) → ((rest : List ℕ) → text ≢ 47 ∷ rest) → starts_with nat_eq text root ≡ false
no_first [] h = refl
no_first (b ∷ bs) h = by_test (eqb 47 b) refl
  where
    by_test : (t : Bool) → eqb 47 b ≡ t → starts_with nat_eq (b ∷ bs) root ≡ false
    by_test true e = absurd (h bs (ap (λ x. x ∷ bs) (sym (eqb-true 47 b e))))
    by_test false e = rw e refl

pub relative : (text : List ℕ) → length text ≤ 1024 → ((rest : List ℕ) → text ≢ encode 47 ++ rest) → Some f.Relative ≡ path_fault text
unfolding path_fault
relative text short h =
    let test : starts_with nat_eq text root ≡ false = no_first text (λ rest e. h rest (e ∙ ap (λ x. x ++ rest) (sym (encode_ascii 47 (omega arith))))) in
    let first : ltb most_bytes (length text) ≡ false = le-ltb 1024 (length text) short in
    rw (first, test) refl

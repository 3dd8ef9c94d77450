-- What a commit makes of the changes that are held.
use Rattle.std.proofs.Common.{◌≡◌, ◌∙◌, ℕ, true, List, [], ◌∷◌, length, refl, sym, ap, arith, eqb-true}
use Rattle.std.specs.Prelude.{not, nat_le, nat_lt, ◌==◌}
use Rattle.std.proofs.lemmas.Bool.Decides.{nat_tests}
use Rattle.std.specs.List.{filter}
use Rattle.ice_ids.specs.declared.Id8.{Id8}
use Rattle.manifest_file.specs.declared.manifest.Place.{Place}
use Rattle.zarr_tree.specs.Held.{Held, HeldEntry}
use Rattle.zarr_changes.specs.Edits.{lists_key, without_chunks}

-- ---- entries
nothing-out : (rows : List (HeldEntry Place)) → filter (λ (row : HeldEntry Place). not (lists_key [] row.0 row.1)) rows ≡ rows
nothing-out [] = refl
nothing-out (row ∷ rows) = ap (λ (rs : List (HeldEntry Place)). row ∷ rs) (nothing-out rows)

pub no-length : {A : Type 0} (xs : List A) → (length xs == 0) ≡ true → xs ≡ []
no-length [] e = refl
no-length (x ∷ xs) e = let none : length (x ∷ xs) ≡ 0 = eqb-true _ _ e in absurd (omega arith)

-- without no entries, all is held
pub all-held : (held : Held Place) (out : List (Id8 × List ℕ)) → out ≡ [] → held ≡ without_chunks held out
all-held held out e = ap (λ (rows : List (HeldEntry Place)). record held { chunks = rows }) (sym (nothing-out held.chunks)) ∙ ap (λ (xs : List (Id8 × List ℕ)). without_chunks held xs) (sym e)

-- ---- nodes
-- one node more than a tree may have is too many
pub one-more : (n : ℕ) → nat_le 65537 n ≡ nat_lt 65536 n
one-more n = grind (arith, nat_tests)

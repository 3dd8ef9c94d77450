-- The bytes of a chunk with the numbers of a box.
use Rattle.std.proofs.Common.{◌≡◌, ◌<◌, ℕ, ℤ, Bool, true, false, cond, List, [], ◌∷◌, All, refl, sym, ◌∙◌, ap, subst, lt-ltb}
use Rattle.std.specs.Prelude.{nat_lt}
use Rattle.std.specs.List.{list_all}
use Rattle.std.proofs.lemmas.List.Elements.{All-head, All-tail}
use Rattle.zarr_meta.specs.declared.kinds.IntKind.{IntKind}
use Rattle.region_cells.specs.Boxes.{IsBoxOver}
use Rattle.region_cells.specs.Parts.{WritesPart}
use Rattle.region_cells.specs.Walks.{with_written}
use Rattle.region_cells.proofs.FillLaws.{written_is}
use Rattle.array_region.specs.Reading.{Reads, fits}
use Rattle.array_region.specs.Writing.{with_numbers, as_bytes}
use Rattle.array_region.proofs.Entered.{fitting}

-- a part that was written is told whole
pub written : (r : Reads) (index bytes : List ℕ) (numbers : List ℤ) (new : List ℕ) → fits r index bytes numbers ≡ true → IsBoxOver r.from r.to r.array.chunks index → WritesPart r.array.kind r.array.big r.from r.to r.array.chunks index numbers bytes new
    → new ≡ with_numbers r index numbers bytes
written r index bytes numbers new h over w =
    written_is r.array.kind r.array.big r.from r.to r.array.chunks index numbers bytes new over (fitting r index bytes numbers h).whole w
    ∙ sym (ap (λ b. cond b (with_written r.array.kind r.array.big r.from r.to r.array.chunks index numbers bytes) bytes) h)

-- the same part, told otherwise
pub moved : {k kind : IntKind} {b big : Bool} {f from t to c chunks i index : List ℕ} {n numbers : List ℤ} (old new : List ℕ) → k ≡ kind → b ≡ big → f ≡ from → t ≡ to → c ≡ chunks → i ≡ index → n ≡ numbers → WritesPart k b f t c i n old new → WritesPart kind big from to chunks index numbers old new
moved {k} {kind} {b} {big} {f} {from} {t} {to} {c} {chunks} {i} {index} {n} {numbers} old new ek eb ef et ec ei en w =
    subst (λ x. WritesPart kind big from to chunks index x old new) en
    (subst (λ x. WritesPart kind big from to chunks x n old new) ei
    (subst (λ x. WritesPart kind big from to x i n old new) ec
    (subst (λ x. WritesPart kind big from x c i n old new) et
    (subst (λ x. WritesPart kind big x t c i n old new) ef
    (subst (λ x. WritesPart kind x f t c i n old new) eb
    (subst (λ x. WritesPart x b f t c i n old new) ek w))))))

-- what doesn't fit stays
pub unwritten : (r : Reads) (index bytes : List ℕ) (numbers : List ℤ) → fits r index bytes numbers ≡ false → bytes ≡ with_numbers r index numbers bytes
unwritten r index bytes numbers h = sym (ap (λ b. cond b (with_written r.array.kind r.array.big r.from r.to r.array.chunks index numbers bytes) bytes) h)

bytes_pass : (xs : List ℕ) → All (λ byte. byte < 256) xs → list_all (λ n. nat_lt n 256) xs ≡ true
bytes_pass [] are = refl
bytes_pass (x ∷ xs) are = rw (lt-ltb x 256 (All-head (λ byte. byte < 256) x xs are)) (bytes_pass xs (All-tail (λ byte. byte < 256) x xs are))

-- bytes are a chunk
pub are_bytes : (xs : List ℕ) → All (λ byte. byte < 256) xs → xs ≡ as_bytes xs
are_bytes xs are = sym (ap (λ b. cond b xs []) (bytes_pass xs are))

-- Rows of numbers, one more at a time.
use Rattle.std.proofs.Common.{◌≡◌, ◌≢◌, ◌∙◌, ◌≤◌, ◌<◌, ◌+◌, ◌-◌, ◌*◌, ℕ, ℤ, pos, Bool, List, ◌++◌, length, take, drop, set, get_or, inl, inr, sym, ap, ap₂, subst, arith, below_more, get_or-set_other, get_or-set_same}
use Rattle.std.proofs.Math.Nat.{mul-le-mul_left}
use Rattle.std.proofs.lemmas.Bool.{cases_lt, cases_eq}
use Rattle.std.proofs.lemmas.List.{get_or-take, get_or-drop, get_or_append_left, get_or-append_right, length-append, length-drop, length-take-le, ext_get_or}
use borrow.Rule.Slice.PartMut.{put_mid}
use Rattle.zarr_meta.specs.declared.kinds.IntKind.{IntKind}
use Rattle.zarr_meta.specs.Kinds.{size_of}
use Rattle.region_cells.specs.Numbers.{number_of, bytes_of, element_at}
use Rattle.region_cells.specs.Rows.{WritesRow}
use Rattle.region_cells.proofs.ElementLaws.{number_of-take, get_or-before, get_or-inside, get_or-behind, same_elements, whole_element, length-element, length-put_mid, length-bytes_of}

pub read_more : (kind : IntKind) (big : Bool) (bytes : List ℕ) (row : List ℤ) (at place : ℕ) (value : ℤ)
    → at < length row → place ≡ size_of kind * at → value ≡ number_of kind big (drop place bytes)
    → ((k : ℕ) → k < at → get_or row k (pos 0) ≡ number_of kind big (element_at kind k bytes))
    → (k : ℕ) → k < at + 1 → get_or (set row at value) k (pos 0) ≡ number_of kind big (element_at kind k bytes)
read_more kind big bytes row at place value h e v so_far =
    below_more _ _
    (λ k l. get_or-set_other row at k value (pos 0) (omega arith) ∙ so_far k l)
    (get_or-set_same row at value (pos 0) h ∙ v ∙ ap (λ p. number_of kind big (drop p bytes)) e ∙ sym (number_of-take kind big (drop (size_of kind * at) bytes)))

-- ---- rows that are written
-- an element that stands before what is written, and one that stands behind it
element_kept : (kind : IntKind) (at k place : ℕ) (mid new bytes : List ℕ) → place ≡ size_of kind * at → k ≢ at → place + size_of kind ≤ length mid
    → length bytes ≡ size_of kind → new ≡ bytes ++ drop (size_of kind) (drop place mid)
    → element_at kind k (put_mid place (length mid - place) mid new) ≡ element_at kind k mid
element_kept kind at k place mid new bytes place_is ne room long new_is =
    let rest : length new ≡ length mid - place = length_written kind place mid new bytes room long new_is in
    same_elements kind k k (put_mid place (length mid - place) mid new) mid (length-element kind k (put_mid place (length mid - place) mid new) mid (length-put_mid place (length mid - place) mid new (omega arith) rest))
    (λ j few. elim (cases_lt k at) [
      | inl before ↦ get_or-before place (length mid - place) mid new (size_of kind * k + j) 0
          (let lower : size_of kind * (k + 1) ≤ size_of kind * at = mul-le-mul_left (size_of kind) (omega arith) in omega arith) (omega arith)
      | inr least ↦
          let upper : size_of kind * (at + 1) ≤ size_of kind * k = mul-le-mul_left (size_of kind) (omega arith) in
          let behind : place + size_of kind ≤ size_of kind * k + j = omega arith in
          elim (cases_lt (size_of kind * k + j) (length mid)) [
            | inl inner ↦
                let shift : size_of kind * k + j ≡ place + (size_of kind * k + j - place) = omega arith in
                ap (λ q. get_or (put_mid place (length mid - place) mid new) q 0) shift
                ∙ get_or-inside place (length mid - place) mid new (size_of kind * k + j - place) 0 (omega arith) (omega arith)
                ∙ ap (λ xs. get_or xs (size_of kind * k + j - place) 0) new_is
                ∙ get_or-append_right bytes (drop (size_of kind) (drop place mid)) (size_of kind) (size_of kind * k + j - place) 0 long (omega arith)
                ∙ get_or-drop (size_of kind) (drop place mid) (size_of kind * k + j - place - size_of kind) 0
                ∙ get_or-drop place mid (size_of kind + (size_of kind * k + j - place - size_of kind)) 0
                ∙ ap (λ q. get_or mid q 0) (omega arith)
            | inr past ↦ get_or-behind place (length mid - place) mid new (size_of kind * k + j) 0 (omega arith) (omega arith) rest
          ]
    ])
  where
    length_written : (kind : IntKind) (place : ℕ) (mid new bytes : List ℕ) → place + size_of kind ≤ length mid → length bytes ≡ size_of kind
        → new ≡ bytes ++ drop (size_of kind) (drop place mid) → length new ≡ length mid - place
    length_written kind place mid new bytes room long new_is =
        ap length new_is ∙ length-append bytes (drop (size_of kind) (drop place mid))
        ∙ ap₂ (λ m n. m + n) long (length-drop (size_of kind) (drop place mid) ∙ ap (λ n. n - size_of kind) (length-drop place mid)) ∙ omega arith

element_written : (kind : IntKind) (at place : ℕ) (mid new bytes : List ℕ) → place ≡ size_of kind * at → place + size_of kind ≤ length mid
    → length bytes ≡ size_of kind → new ≡ bytes ++ drop (size_of kind) (drop place mid) → length new ≡ length mid - place
    → element_at kind at (put_mid place (length mid - place) mid new) ≡ bytes
element_written kind at place mid new bytes place_is room long new_is rest =
    let whole : length (put_mid place (length mid - place) mid new) ≡ length mid = length-put_mid place (length mid - place) mid new (omega arith) rest in
    let size : length (element_at kind at (put_mid place (length mid - place) mid new)) ≡ size_of kind = whole_element kind at (put_mid place (length mid - place) mid new) (omega arith) in
    ext_get_or 0 (element_at kind at (put_mid place (length mid - place) mid new)) bytes (size ∙ sym long)
    (λ j h.
    let few : j < size_of kind = omega arith in
    get_or-take (size_of kind) (drop (size_of kind * at) (put_mid place (length mid - place) mid new)) j 0 few
    ∙ get_or-drop (size_of kind * at) (put_mid place (length mid - place) mid new) j 0
    ∙ ap (λ q. get_or (put_mid place (length mid - place) mid new) (q + j) 0) (sym place_is)
    ∙ get_or-inside place (length mid - place) mid new j 0 (omega arith) (omega arith)
    ∙ ap (λ xs. get_or xs j 0) new_is
    ∙ get_or_append_left bytes (drop (size_of kind) (drop place mid)) 0 j (omega arith))

pub write_more : (kind : IntKind) (big : Bool) (row : List ℤ) (at place : ℕ) (old mid new : List ℕ) → at < length row → place ≡ size_of kind * at → place + size_of kind ≤ length mid
    → new ≡ bytes_of kind big (get_or row at (pos 0)) ++ drop (size_of kind) (drop place mid) → length new ≡ length mid - place
    → WritesRow kind big (take at row) old mid → WritesRow kind big (take (at + 1) row) old (put_mid place (length mid - place) mid new)
write_more kind big row at place old mid new h place_is room new_is rest so_far =
    let number = get_or row at (pos 0) in
    let long : length (bytes_of kind big number) ≡ size_of kind = length-bytes_of kind big number in
    let before : length (take at row) ≡ at = length-take-le at row (omega arith) in
    let now : length (take (at + 1) row) ≡ at + 1 = length-take-le (at + 1) row (omega arith) in
    record {
      same_length = length-put_mid place (length mid - place) mid new (omega arith) rest ∙ so_far.same_length;
      inside = λ k less. elim (cases_eq k at) [
        | inl e ↦ subst (λ m. element_at kind m (put_mid place (length mid - place) mid new) ≡ bytes_of kind big (get_or (take (at + 1) row) m (pos 0))) (sym e)
            (element_written kind at place mid new (bytes_of kind big number) place_is room long new_is rest ∙ ap (bytes_of kind big) (sym (get_or-take (at + 1) row at (pos 0) (omega arith))))
        | inr ne ↦ element_kept kind at k place mid new (bytes_of kind big number) place_is ne room long new_is
            ∙ so_far.inside k (omega arith)
            ∙ ap (bytes_of kind big) (get_or-take at row k (pos 0) (omega arith) ∙ sym (get_or-take (at + 1) row k (pos 0) (omega arith)))
      ];
      outside = λ k most. element_kept kind at k place mid new (bytes_of kind big number) place_is (λ e. omega arith) room long new_is ∙ so_far.outside k (omega arith);
    }

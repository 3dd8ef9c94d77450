-- Elements of chunks, and their numbers.
use Rattle.std.proofs.Common.{◌≡◌, ◌∙◌, ◌≤◌, ◌<◌, ◌+◌, ◌-◌, ◌*◌, ℕ, ℤ, Bool, true, false, List, ◌++◌, length, take, drop, get_or, min, sym, ap, ap₂, arith}
use Rattle.std.proofs.lemmas.List.{get_or_append_left, get_or-take, get_or-drop, length-take, length-take-le, length-drop, length-append, get_or-append_right, ext_get_or, drop-take, take-take, drop-drop}
use borrow.Rule.Slice.PartMut.{put_mid, post_of}
use Rattle.byteorder.specs.Numbers.{big_from-take, little_from-take, length-bytes_high_first, length-bytes_low_first}
use Rattle.zarr_meta.specs.declared.kinds.IntKind.{IntKind}
use Rattle.zarr_meta.specs.Kinds.{size_of}
use Rattle.region_cells.specs.Numbers.{number_of_bits, bits_in, number_of, bits_of_number, bytes_of, element_at}

bits_in-take : (kind : IntKind) (big : Bool) (xs : List ℕ) → bits_in kind big (take (size_of kind) xs) ≡ bits_in kind big xs
bits_in-take kind true xs = big_from-take 0 (size_of kind) (size_of kind) xs (omega arith)
bits_in-take kind false xs = little_from-take 0 (size_of kind) (size_of kind) xs (omega arith)

-- a number is that of the first bytes
pub number_of-take : (kind : IntKind) (big : Bool) (xs : List ℕ) → number_of kind big (take (size_of kind) xs) ≡ number_of kind big xs
number_of-take kind big xs = ap (number_of_bits kind) (bits_in-take kind big xs)

-- ---- a part of a list in which something else was put
pub get_or-before : {X : Type 0} (a k : ℕ) (xs ys : List X) (i : ℕ) (d : X) → i < a → a ≤ length xs → get_or (put_mid a k xs ys) i d ≡ get_or xs i d
get_or-before a k xs ys i d h l = get_or_append_left (take a xs) (ys ++ post_of a k xs) d i (omega (arith, length-take-le a xs l)) ∙ get_or-take a xs i d h

pub get_or-inside : {X : Type 0} (a k : ℕ) (xs ys : List X) (i : ℕ) (d : X) → i < length ys → a ≤ length xs → get_or (put_mid a k xs ys) (a + i) d ≡ get_or ys i d
get_or-inside a k xs ys i d h l =
    let front : length (take a xs) ≡ a = length-take-le a xs l in
    get_or-append_right (take a xs) (ys ++ post_of a k xs) a (a + i) d front (omega arith)
    ∙ ap (λ j. get_or (ys ++ post_of a k xs) j d) (omega arith)
    ∙ get_or_append_left ys (post_of a k xs) d i h

pub get_or-behind : {X : Type 0} (a k : ℕ) (xs ys : List X) (i : ℕ) (d : X) → a + k ≤ i → a + k ≤ length xs → length ys ≡ k → get_or (put_mid a k xs ys) i d ≡ get_or xs i d
get_or-behind a k xs ys i d h l e =
    let front : length (take a xs) ≡ a = length-take-le a xs (omega arith) in
    get_or-append_right (take a xs) (ys ++ post_of a k xs) a i d front (omega arith)
    ∙ get_or-append_right ys (post_of a k xs) k (i - a) d e (omega arith)
    ∙ get_or-drop k (drop a xs) (i - a - k) d
    ∙ get_or-drop a xs (k + (i - a - k)) d
    ∙ ap (λ j. get_or xs j d) (omega arith)

-- ---- elements
pub whole_element : (kind : IntKind) (k : ℕ) (xs : List ℕ) → size_of kind * k + size_of kind ≤ length xs → length (element_at kind k xs) ≡ size_of kind
whole_element kind k xs h = length-take-le (size_of kind) (drop (size_of kind * k) xs) (omega (arith, length-drop (size_of kind * k) xs))

-- two of them are the same where their bytes are
pub same_elements : (kind : IntKind) (k m : ℕ) (xs ys : List ℕ) → length (element_at kind k xs) ≡ length (element_at kind m ys)
    → ((j : ℕ) → j < size_of kind → get_or xs (size_of kind * k + j) 0 ≡ get_or ys (size_of kind * m + j) 0) → element_at kind k xs ≡ element_at kind m ys
same_elements kind k m xs ys e f =
    ext_get_or 0 (element_at kind k xs) (element_at kind m ys) e
    (λ j h.
    let few : j < size_of kind = omega (arith, length-take (size_of kind) (drop (size_of kind * k) xs)) in
    get_or-take (size_of kind) (drop (size_of kind * k) xs) j 0 few ∙ get_or-drop (size_of kind * k) xs j 0 ∙ f j few
    ∙ sym (get_or-drop (size_of kind * m) ys j 0) ∙ sym (get_or-take (size_of kind) (drop (size_of kind * m) ys) j 0 few))

-- in lists of one length it is as long in both
pub length-element : (kind : IntKind) (k : ℕ) (xs ys : List ℕ) → length xs ≡ length ys → length (element_at kind k xs) ≡ length (element_at kind k ys)
length-element kind k xs ys e =
    length-take (size_of kind) (drop (size_of kind * k) xs)
    ∙ ap (min (size_of kind)) (length-drop (size_of kind * k) xs ∙ ap (λ n. n - size_of kind * k) e ∙ sym (length-drop (size_of kind * k) ys))
    ∙ sym (length-take (size_of kind) (drop (size_of kind * k) ys))

pub length-bytes_of : (kind : IntKind) (big : Bool) (number : ℤ) → length (bytes_of kind big number) ≡ size_of kind
length-bytes_of kind true number = length-bytes_high_first (size_of kind) (bits_of_number kind number)
length-bytes_of kind false number = length-bytes_low_first 0 (size_of kind) (bits_of_number kind number)

pub length-put_mid : {X : Type 0} (a k : ℕ) (xs ys : List X) → a + k ≤ length xs → length ys ≡ k → length (put_mid a k xs ys) ≡ length xs
length-put_mid a k xs ys h e =
    length-append (take a xs) (ys ++ post_of a k xs)
    ∙ ap₂ (λ m n. m + n) (length-take-le a xs (omega arith)) (length-append ys (post_of a k xs) ∙ ap₂ (λ m n. m + n) e (length-drop k (drop a xs) ∙ ap (λ n. n - k) (length-drop a xs)))
    ∙ omega arith

-- an element of what stands behind
pub element_behind : (kind : IntKind) (k m at : ℕ) (bytes : List ℕ) → at + size_of kind * k ≡ size_of kind * m → element_at kind k (drop at bytes) ≡ element_at kind m bytes
element_behind kind k m at bytes e = ap (take (size_of kind)) (drop-drop (size_of kind * k) at bytes) ∙ ap (λ q. take (size_of kind) (drop q bytes)) e

-- an element of a part of the bytes
pub element_within : (kind : IntKind) (k m at count : ℕ) (bytes : List ℕ) → size_of kind * k + size_of kind ≤ count → at + size_of kind * k ≡ size_of kind * m
    → element_at kind k (take count (drop at bytes)) ≡ element_at kind m bytes
element_within kind k m at count bytes h e =
    let z = size_of kind in
    let split : count ≡ z * k + (count - z * k) = omega arith in
    ap (λ c. take z (drop (z * k) (take c (drop at bytes)))) split
    ∙ ap (take z) (drop-take (z * k) (count - z * k) (drop at bytes))
    ∙ take-take z (count - z * k) (drop (z * k) (drop at bytes)) (omega arith)
    ∙ ap (take z) (drop-drop (z * k) at bytes)
    ∙ ap (λ q. take z (drop q bytes)) e

-- What was read from places of a payload of bytes.
use Rattle.std.proofs.Common.{◌≡◌, ℕ, ◌+◌, ◌*◌, ◌^◌, ◌<◌, ◌≤◌, Bool, true, false, cond, ltb, List, length, take, drop, Option, Some, None, Result, Ok, Err, refl, sym, ap, subst, ◌∙◌, arith}
use Rattle.std.specs.Int.{Width, w16, w32, w64, byte_len, from_le_bytes}
use Rattle.std.specs.Str.{IsUtf8, is_utf8}
use Rattle.std.proofs.lemmas.Bool.{ltb-false}
use Rattle.std.proofs.lemmas.List.{length-drop, length-take-le}
use Rattle.std.proofs.lemmas.Str.{IsUtf8-from_is_utf8}
use Rattle.std.proofs.Math.Nat.{mul-le-mul_right}
use Rattle.flat_tables.specs.declared.fault.FlatFault.{FlatFault}
use Rattle.flat_tables.specs.declared.fault.FlatFault.TheVariants.{Outside, NotText}
use Rattle.flat_tables.specs.declared.fault.FileFault.{FileFault}
use Rattle.flat_tables.specs.Step.{◌>>=◌, on_some}
use Rattle.flat_tables.specs.Places.{TableIn, VectorIn, span, number_at, back_from, table_at, target_of, root_of, field_of, struct_of, scalar_of, child_of, vector_at, vector_of, text_at, text_of, item_of, all_of, table_of}
use Rattle.flat_tables.specs.Rows.{flat, required}
use Rattle.flat_tables.proofs.Loop.{bind_ok}
use Rattle.ice_ids.specs.declared.Id8.{Id8}
use Rattle.ice_ids.specs.declared.Id12.{Id12}
use Rattle.ice_ids.specs.Text.{IsId8, IsId12}
use Rattle.file_fields.specs.Fields.{id8_of, id12_of}
use Rattle.file_fields.proofs.Bytes.{AreBytes, bytes_take, bytes_drop, number_64}

-- ---- steps

step_was : {A B E : Type 0} (r : Result A E) (f : A → Result B E) (y : B) → (r >>= f) ≡ Ok y → (x : A) × (r ≡ Ok x) × (f x ≡ Ok y)
step_was (Ok x) f y e = (x, refl, e)
step_was (Err d) f y e = absurd cc

pub some_was : {A B E : Type 0} (o : Option A) (f : A → Result B E) (y : B) → on_some o f ≡ Ok (Some y) → (x : A) × (f x ≡ Ok y)
some_was None f y e = absurd cc
some_was {A = A} {B = B} {E = E} (Some x) f y e = let a = step_was {A = B} {B = Option B} {E = E} (f x) (λ z. Ok (Some z)) (Some y) e in (x, by_value a.0 a.1 a.2)
  where
    by_value : (z : B) → f x ≡ Ok z → (let r : Result (Option B) E = Ok (Some z) in r) ≡ Ok (Some y) → f x ≡ Ok y
    by_value z is same = cc

else_was : {A E : Type 0} (b : Bool) (d : E) (r : Result A E) (x : A) → cond b (Err d) r ≡ Ok x → (b ≡ false) × (r ≡ Ok x)
else_was true d r x e = absurd cc
else_was false d r x e = (refl, e)

pub then_was : {A E : Type 0} (b : Bool) (d : E) (y x : A) → cond b (Ok y) (Err d) ≡ Ok x → (b ≡ true) × (y ≡ x)
then_was true d y x e = (refl, cc)
then_was false d y x e = absurd cc

pub value_was : {A E : Type 0} (x y : A) → (let r : Result A E = Ok x in r) ≡ Ok y → x ≡ y
value_was x y e = cc

pub flat_was : {A : Type 0} (r : Result A FlatFault) (x : A) → flat r ≡ Ok x → r ≡ Ok x
flat_was (Ok y) x e = cc
flat_was (Err d) x e = absurd cc

pub required_was : {A : Type 0} (k : ℕ) (r : Result (Option A) FlatFault) (x : A) → required k r ≡ Ok x → r ≡ Ok (Some x)
required_was k (Ok None) x e = absurd cc
required_was k (Ok (Some y)) x e = cc
required_was k (Err d) x e = absurd cc

-- ---- bytes and numbers

-- the bytes of a span: as many as were wanted, within the payload
pub record Spanned (bytes : List ℕ) (p n : ℕ) (xs : List ℕ) : Type 0 where
  pub ends : p + n ≤ length bytes
  pub is : take n (drop p bytes) ≡ xs

spanned : (bytes : List ℕ) (p n : ℕ) (xs : List ℕ) → span bytes p n ≡ Ok xs → Spanned bytes p n xs
spanned bytes p n xs e =
    let a = else_was (ltb (length bytes) (p + n)) (Outside p) (Ok (take n (drop p bytes))) xs e in
    record { ends = ltb-false (length bytes) (p + n) a.0; is = cc }

span_bytes : (bytes : List ℕ) (p n : ℕ) (xs : List ℕ) → AreBytes bytes → span bytes p n ≡ Ok xs → AreBytes xs
span_bytes bytes p n xs are e = subst AreBytes (spanned bytes p n xs e).is (bytes_take n (drop p bytes) (bytes_drop p bytes are))

span_long : (bytes : List ℕ) (p n : ℕ) (xs : List ℕ) → span bytes p n ≡ Ok xs → length xs ≡ n
span_long bytes p n xs e =
    let s = spanned bytes p n xs e in
    ap length (sym s.is) ∙ length-take-le n (drop p bytes) (omega (arith, length-drop p bytes, s.ends))

number_was : (w : Width) (bytes : List ℕ) (p n : ℕ) → number_at w bytes p ≡ Ok n → from_le_bytes w (take (byte_len w) (drop p bytes)) ≡ n
number_was w bytes p n e = let a = else_was _ (Outside p) (Ok (from_le_bytes w (take (byte_len w) (drop p bytes)))) n e in cc

-- ---- tables

-- a table that was read lies in the same bytes
table_in : (bytes : List ℕ) (p : ℕ) (t : TableIn) → table_at bytes p ≡ Ok t → bytes ≡ t.bytes
unfolding table_at
table_in bytes p t e =
    let s = step_was (number_at w32 bytes p) _ t e in
    let v = step_was (back_from p s.0) _ t s.2 in
    let head = step_was (span bytes v.0 4) _ t v.2 in
    let n = step_was (number_at w16 bytes v.0) _ t head.2 in
    let m = step_was (number_at w16 bytes (v.0 + 2)) _ t n.2 in
    let some = else_was (ltb n.0 4) (Outside v.0) _ t m.2 in
    let entries = step_was (span bytes v.0 n.0) _ t some.1 in
    let wide = else_was (ltb m.0 4) (Outside p) _ t entries.2 in
    let fields = step_was (span bytes p m.0) _ t wide.1 in
    ap (λ (x : TableIn). x.bytes) (value_was {A = TableIn} {E = FlatFault} (record { bytes = bytes; at = p; vtable = v.0; entries = n.0; size = m.0 }) t fields.2)

pub root_bytes : (bytes : List ℕ) (t : TableIn) → AreBytes bytes → root_of bytes ≡ Ok t → AreBytes t.bytes
unfolding root_of
root_bytes bytes t are e =
    let u = step_was (number_at w32 bytes 0) _ t e in
    subst AreBytes (table_in bytes u.0 t u.2) are

pub child_bytes : (t : TableIn) (k : ℕ) (c : TableIn) → AreBytes t.bytes → child_of t k ≡ Ok (Some c) → AreBytes c.bytes
unfolding child_of
child_bytes t k c are e =
    let a = step_was (field_of t k 4) _ (Some c) e in
    let p = some_was a.0 (λ q. target_of t.bytes q >>= table_at t.bytes) c a.2 in
    let q = step_was (target_of t.bytes p.0) (table_at t.bytes) c p.1 in
    subst AreBytes (table_in t.bytes q.0 c q.2) are

pub element_bytes : (v : VectorIn) (i : ℕ) (t : TableIn) → AreBytes v.bytes → table_of v i ≡ Ok t → AreBytes t.bytes
unfolding table_of
element_bytes v i t are e =
    let q = step_was (target_of v.bytes (v.first + i * 4)) (table_at v.bytes) t e in
    subst AreBytes (table_in v.bytes q.0 t q.2) are

-- ---- fields

-- a struct has its length and is of bytes
pub struct_long : (t : TableIn) (k n : ℕ) (xs : List ℕ) → struct_of t k n ≡ Ok (Some xs) → length xs ≡ n
unfolding struct_of
struct_long t k n xs e =
    let a = step_was (field_of t k n) _ (Some xs) e in
    let p = some_was a.0 (λ q. span t.bytes q n) xs a.2 in
    span_long t.bytes p.0 n xs p.1

pub struct_bytes : (t : TableIn) (k n : ℕ) (xs : List ℕ) → AreBytes t.bytes → struct_of t k n ≡ Ok (Some xs) → AreBytes xs
unfolding struct_of
struct_bytes t k n xs are e =
    let a = step_was (field_of t k n) _ (Some xs) e in
    let p = some_was a.0 (λ q. span t.bytes q n) xs a.2 in
    span_bytes t.bytes p.0 n xs are p.1

-- a number of 8 bytes has its width
pub scalar_fits : (t : TableIn) (k n : ℕ) → AreBytes t.bytes → scalar_of t k 8 ≡ Ok (Some n) → n < 2 ^ 64
unfolding scalar_of
scalar_fits t k n are e =
    let a = step_was (field_of t k 8) _ (Some n) e in
    let p = some_was a.0 (λ q. number_at w64 t.bytes q) n a.2 in
    let is = number_was w64 t.bytes p.0 n p.1 in
    rw (← is) (number_64 (take 8 (drop p.0 t.bytes)) (bytes_take 8 (drop p.0 t.bytes) (bytes_drop p.0 t.bytes are)))

-- a text is UTF-8
text_utf8 : (bytes : List ℕ) (q : ℕ) (text : List ℕ) → text_at bytes q ≡ Ok text → IsUtf8 text
unfolding text_at
text_utf8 bytes q text e =
    let v = step_was (vector_at bytes 1 q) _ text e in
    let more = step_was (span bytes (q + 4 + v.0.count) 1) _ text v.2 in
    let s = step_was (span bytes (q + 4) v.0.count) _ text more.2 in
    let is = then_was (is_utf8 s.0) (NotText (q + 4)) s.0 text s.2 in
    subst IsUtf8 is.1 (IsUtf8-from_is_utf8 s.0 is.0)

pub text_is : (t : TableIn) (k : ℕ) (text : List ℕ) → text_of t k ≡ Ok (Some text) → IsUtf8 text
unfolding text_of
text_is t k text e =
    let a = step_was (field_of t k 4) _ (Some text) e in
    let p = some_was a.0 (λ q. target_of t.bytes q >>= text_at t.bytes) text a.2 in
    let q = step_was (target_of t.bytes p.0) (text_at t.bytes) text p.1 in
    text_utf8 t.bytes q.0 text q.2

-- ---- vectors

-- a vector that was read is of bytes, has elements of the size that was wanted, and ends within the payload
pub record VectorWas (v : VectorIn) (n : ℕ) : Type 0 where
  pub bytes : AreBytes v.bytes
  pub size : v.size ≡ n
  pub ends : v.first + v.count * n ≤ length v.bytes

vector_in : (bytes : List ℕ) (size q : ℕ) (v : VectorIn) → AreBytes bytes → vector_at bytes size q ≡ Ok v → VectorWas v size
unfolding vector_at
vector_in bytes size q v are e =
    let n = step_was (number_at w32 bytes q) _ v e in
    let s = step_was (span bytes (q + 4) (n.0 * size)) _ v n.2 in
    let made : VectorIn = record { bytes = bytes; first = q + 4; count = n.0; size = size } in
    let was : VectorWas made size = record { bytes = are; size = refl; ends = (spanned bytes (q + 4) (n.0 * size) s.0 s.1).ends } in
    subst (λ (x : VectorIn). VectorWas x size) (value_was {A = VectorIn} {E = FlatFault} made v s.2) was

pub vector_was : (t : TableIn) (k size : ℕ) (v : VectorIn) → AreBytes t.bytes → vector_of t k size ≡ Ok (Some v) → VectorWas v size
unfolding vector_of
vector_was t k size v are e =
    let a = step_was (field_of t k 4) _ (Some v) e in
    let p = some_was a.0 (λ q. target_of t.bytes q >>= vector_at t.bytes size) v a.2 in
    let q = step_was (target_of t.bytes p.0) (vector_at t.bytes size) v p.1 in
    vector_in t.bytes size q.0 v are q.2

-- an element has its size and is of bytes
pub item_bytes : (v : VectorIn) (i : ℕ) → AreBytes v.bytes → AreBytes (item_of v i)
item_bytes v i are = bytes_take v.size (drop (v.first + i * v.size) v.bytes) (bytes_drop (v.first + i * v.size) v.bytes are)

pub all_bytes : (v : VectorIn) → AreBytes v.bytes → AreBytes (all_of v)
all_bytes v are = bytes_take (v.count * v.size) (drop v.first v.bytes) (bytes_drop v.first v.bytes are)

pub item_long : (v : VectorIn) (size i : ℕ) → VectorWas v size → i < v.count → length (item_of v i) ≡ size
item_long v size i was lt =
    let upto : (i + 1) * size ≤ v.count * size = mul-le-mul_right size (omega arith) in
    let one : (i + 1) * size ≡ i * size + size = omega arith in
    let within : size ≤ length (drop (v.first + i * size) v.bytes) = omega (arith, length-drop (v.first + i * size) v.bytes, was.ends) in
    rw was.size (length-take-le size (drop (v.first + i * size) v.bytes) within)

-- ---- ids

-- an id that was read has its length, and is of bytes
pub id8_is : (t : TableIn) (k : ℕ) (id : Id8) → AreBytes t.bytes → id8_of t k ≡ Ok id → IsId8 id
unfolding id8_of
id8_is t k id are e =
    let a = bind_ok (required k (struct_of t k 8)) _ id e in
    let s = required_was k (struct_of t k 8) a.0 a.1 in
    subst IsId8 (value_was {A = Id8} {E = FileFault} (record { 0 = a.0 }) id a.2) (struct_long t k 8 a.0 s, struct_bytes t k 8 a.0 are s)

pub id12_is : (t : TableIn) (k : ℕ) (id : Id12) → AreBytes t.bytes → id12_of t k ≡ Ok id → IsId12 id
unfolding id12_of
id12_is t k id are e =
    let a = bind_ok (required k (struct_of t k 12)) _ id e in
    let s = required_was k (struct_of t k 12) a.0 a.1 in
    subst IsId12 (value_was {A = Id12} {E = FileFault} (record { 0 = a.0 }) id a.2) (struct_long t k 12 a.0 s, struct_bytes t k 12 a.0 are s)

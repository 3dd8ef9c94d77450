-- What is found among entries, with one more and with some taken away.
use Rattle.std.proofs.Common.{◌≡◌, ◌∙◌, ℕ, Bool, true, false, cond, not, ◌&&◌, List, [], ◌∷◌, Option, Some, None, option_map, refl, sym, ap}
use Rattle.std.specs.Prelude.{find}
use Rattle.std.specs.Option.{option_and_then}
use Rattle.std.specs.Cmp.{both_ways}
use Rattle.std.specs.List.{filter}
use Rattle.ice_ids.specs.declared.Id8.{Id8}
use Rattle.ice_ids.specs.Text.{same_id8}
use Rattle.zarr_path.proofs.OrderLaws.{same_path-true, same_path-refl}
use Rattle.zarr_tree.specs.Nodes.{same_numbers}
use Rattle.zarr_tree.specs.Touched.{lists}
use Rattle.zarr_tree.specs.Held.{HeldEntry, meta_in, entry_in}
use Rattle.zarr_tree.proofs.Apply.{id-true, id-refl, first, second}

abbrev Texts : Type 0
Texts = List (Id8 × List ℕ)

abbrev Chunks : Type 0
Chunks = List (HeldEntry (List ℕ))

pub id-turned : (a b : Id8) → same_id8 a b ≡ same_id8 b a
id-turned a b = both_ways _ _ (λ e. ap (same_id8 b) (id-true a b e) ∙ id-refl b) (λ e. ap (same_id8 a) (id-true b a e) ∙ id-refl a)

pub numbers-turned : (x y : List ℕ) → same_numbers x y ≡ same_numbers y x
numbers-turned x y = both_ways _ _ (λ e. ap (same_numbers y) (same_path-true x y e) ∙ same_path-refl y) (λ e. ap (same_numbers x) (same_path-true y x e) ∙ same_path-refl x)

-- ---- what is left, where some are taken away
module _ {A : Type 0} (test out : A → Bool) (gone : Bool) (its : (a : A) → test a ≡ true → out a ≡ gone) where
  pub find-left : (es : List A) → find test (filter (λ (a : A). not (out a)) es) ≡ cond gone None (find test es)
  find-left [] = elim gone as (λ b. ◌≡◌ {A = Option A} None (cond b None None)) [ true ↦ refl | false ↦ refl ]
  find-left (e ∷ es) = by_case (test e) refl (out e) refl (find-left es)
    where
      by_case : (s : Bool) → test e ≡ s → (o : Bool) → out e ≡ o → find test (filter (λ (a : A). not (out a)) es) ≡ cond gone None (find test es)
          → find test (cond (not o) (e ∷ filter (λ (a : A). not (out a)) es) (filter (λ (a : A). not (out a)) es)) ≡ cond gone None (cond s (Some e) (find test es))
      by_case true k true g rest =
          let is : gone ≡ true = sym (its e k) ∙ g in
          rest ∙ ap (λ x. cond x None (find test es)) is ∙ sym (ap (λ x. cond x None (Some e)) is)
      by_case true k false g rest =
          let is : gone ≡ false = sym (its e k) ∙ g in
          ap (λ x. cond x (Some e) (find test (filter (λ (a : A). not (out a)) es))) k ∙ sym (ap (λ x. cond x None (Some e)) is)
      by_case false k true g rest = rest
      by_case false k false g rest = ap (λ x. cond x (Some e) (find test (filter (λ (a : A). not (out a)) es))) k ∙ rest

pub mapped : {A B : Type 0} (f : A → B) (b : Bool) (o : Option A) → option_map f (cond b None o) ≡ cond b None (option_map f o)
mapped f true o = refl
mapped f false o = refl

-- ---- texts
pub text-first : (rows : Texts) (k : Id8) (text : List ℕ) (id : Id8) → meta_in ((k, text) ∷ rows) id ≡ cond (same_id8 id k) (Some text) (meta_in rows id)
text-first rows k text id =
    elim (same_id8 k id) as (λ b. option_map (λ (row : Id8 × List ℕ). row.1) (cond b (Some (k, text)) (find (λ (row : Id8 × List ℕ). same_id8 row.0 id) rows)) ≡ cond b (Some text) (meta_in rows id)) [ true ↦ refl | false ↦ refl ]
    ∙ ap (λ b. cond b (Some text) (meta_in rows id)) (id-turned k id)

pub texts-left : (rows : Texts) (ids : List Id8) (id : Id8) → meta_in (filter (λ (row : Id8 × List ℕ). not (lists ids row.0)) rows) id ≡ cond (lists ids id) None (meta_in rows id)
texts-left rows ids id =
    ap (option_map (λ (row : Id8 × List ℕ). row.1)) (find-left (λ (row : Id8 × List ℕ). same_id8 row.0 id) (λ (row : Id8 × List ℕ). lists ids row.0) (lists ids id) (λ row e. ap (lists ids) (id-true row.0 id e)) rows)
    ∙ mapped (λ (row : Id8 × List ℕ). row.1) (lists ids id) (find (λ (row : Id8 × List ℕ). same_id8 row.0 id) rows)

-- ---- entries of chunks
abbrev is_for : Id8 → (index : List ℕ) → HeldEntry (List ℕ) → Bool
is_for id j row = same_id8 row.0 id && same_numbers row.1 j

-- the bytes that an entry of the changes has
abbrev pub bytes_in : Chunks → Id8 → (index : List ℕ) → Option (Option (List ℕ))
bytes_in rows id j = option_map (λ (entry : Option (List ℕ)). option_and_then (λ (b : List ℕ). Some b) entry) (entry_in rows id j)

own_bytes : (entry : Option (List ℕ)) → option_and_then (λ (b : List ℕ). Some b) entry ≡ entry
own_bytes None = refl
own_bytes (Some b) = refl

same_bytes : (o : Option (Option (List ℕ))) → option_map (λ (entry : Option (List ℕ)). option_and_then (λ (b : List ℕ). Some b) entry) o ≡ o
same_bytes None = refl
same_bytes (Some entry) = ap (λ e. Some e) (own_bytes entry)

pub bytes-in : (rows : Chunks) (id : Id8) (j : List ℕ) → bytes_in rows id j ≡ entry_in rows id j
bytes-in rows id j = same_bytes (entry_in rows id j)

pub entry-first : (rows : Chunks) (k : Id8) (i : List ℕ) (entry : Option (List ℕ)) (id : Id8) (j : List ℕ)
    → bytes_in ((k, i, entry) ∷ rows) id j ≡ cond (same_id8 id k && same_numbers j i) (Some entry) (bytes_in rows id j)
entry-first rows k i entry id j =
    bytes-in ((k, i, entry) ∷ rows) id j
    ∙ elim (same_id8 k id && same_numbers i j) as (λ b. option_map (λ (row : HeldEntry (List ℕ)). row.2) (cond b (Some (k, i, entry)) (find (is_for id j) rows)) ≡ cond b (Some entry) (entry_in rows id j)) [ true ↦ refl | false ↦ refl ]
    ∙ (λ n. cond (id-turned k id n && numbers-turned i j n) (Some entry) (sym (bytes-in rows id j) n))

-- those that are for some nodes, and the one for a chunk, taken away
module _ (rows : Chunks) (out : HeldEntry (List ℕ) → Bool) (id : Id8) (j : List ℕ) (gone : Bool) (its : (row : HeldEntry (List ℕ)) → is_for id j row ≡ true → out row ≡ gone) where
  entry-left : bytes_in (filter (λ (row : HeldEntry (List ℕ)). not (out row)) rows) id j ≡ cond gone None (bytes_in rows id j)
  entry-left =
      bytes-in (filter (λ (row : HeldEntry (List ℕ)). not (out row)) rows) id j
      ∙ ap (option_map (λ (row : HeldEntry (List ℕ)). row.2)) (find-left (is_for id j) out gone its rows)
      ∙ mapped (λ (row : HeldEntry (List ℕ)). row.2) gone (find (is_for id j) rows)
      ∙ ap (λ o. cond gone None o) (sym (bytes-in rows id j))

pub chunks-left : (rows : Chunks) (ids : List Id8) (id : Id8) (j : List ℕ) → bytes_in (filter (λ (row : HeldEntry (List ℕ)). not (lists ids row.0)) rows) id j ≡ cond (lists ids id) None (bytes_in rows id j)
chunks-left rows ids id j = entry-left rows (λ (row : HeldEntry (List ℕ)). lists ids row.0) id j (lists ids id) (λ row e. ap (lists ids) (id-true row.0 id (first (same_id8 row.0 id) (same_numbers row.1 j) e)))

pub chunk-left : (rows : Chunks) (k : Id8) (i : List ℕ) (id : Id8) (j : List ℕ)
    → bytes_in (filter (λ (row : HeldEntry (List ℕ)). not (same_id8 row.0 k && same_numbers row.1 i)) rows) id j ≡ cond (same_id8 id k && same_numbers j i) None (bytes_in rows id j)
chunk-left rows k i id j = entry-left rows (λ (row : HeldEntry (List ℕ)). same_id8 row.0 k && same_numbers row.1 i) id j (same_id8 id k && same_numbers j i) (λ row e.
    λ n. same_id8 (id-true row.0 id (first (same_id8 row.0 id) (same_numbers row.1 j) e) n) k && same_numbers (same_path-true row.1 j (second (same_id8 row.0 id) (same_numbers row.1 j) e) n) i)

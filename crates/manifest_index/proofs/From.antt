-- Where a chunk after a change comes from: the change, or an old manifest.
use Rattle.std.proofs.Common.{◌≡◌, inl, inr, ℕ, zero, suc, Bool, true, false, cond, nat_eq, List, [], ◌∷◌, length, Option, Some, None, option_map, refl, sym, subst, ◌∙◌, arith}
use Rattle.std.specs.Prelude.{find, bytes_eq}
use Rattle.std.specs.Option.{option_or, option_and_then, unwrap_or}
use Rattle.std.specs.List.{Contains}
use Rattle.std.proofs.lemmas.Slice.Eq.{bytes_eq-Decides}
use Rattle.ice_ids.specs.declared.Id8.{Id8}
use Rattle.ice_ids.specs.Text.{same_id8}
use Rattle.ice_ids.proofs.TextLaws.{same_id8-true}
use Rattle.manifest_file.specs.declared.manifest.Place.{Place}
use Rattle.manifest_file.specs.declared.manifest.ChunkRef.{ChunkRef}
use Rattle.manifest_file.specs.declared.manifest.ArrayRefs.{ArrayRefs}
use Rattle.held_manifest.specs.LookUp.{Listed, within, place_of, refs_of_node, entry_of, entry_seen, look_up}
use Rattle.manifest_index.specs.Merging.{ChunkChange, changed_at, merged, ListsChunk, IsFrom}

-- ---- what is found in a list is there

pub record Found {A : Type 0} (test : A → Bool) (xs : List A) (x : A) : Type 0 where
  pub among : Contains xs x
  pub passes : test x ≡ true

pub later : {A : Type 0} (y : A) (xs : List A) (x : A) → Contains xs x → Contains (y ∷ xs) x
later y xs x c = (suc c.0, omega (arith, c.1), c.2)

pub first_is : {A : Type 0} (x : A) (xs : List A) → Contains (x ∷ xs) x
first_is x xs = (zero, omega arith, refl)

pub found_in : {A : Type 0} (test : A → Bool) (xs : List A) (x : A) → find test xs ≡ Some x → Found test xs x
found_in test [] x e = absurd cc
found_in {A = A} test (y ∷ ys) x e = by_test (test y) refl e (λ h. found_in test ys x h)
  where
    by_test : (b : Bool) → test y ≡ b → cond b (Some y) (find test ys) ≡ Some x → (find test ys ≡ Some x → Found test ys x) → Found test (y ∷ ys) x
    by_test true t h found =
        let same : y ≡ x = cc in
        subst (λ (z : A). Found test (y ∷ ys) z) same (record { among = first_is y ys; passes = t })
    by_test false t h found =
        let rest = found h in
        record { among = later y ys x rest.among; passes = rest.passes }

-- ---- in an old manifest

some_mapped : {A B : Type 0} (f : A → B) (o : Option A) (y : B) → option_map f o ≡ Some y → (x : A) × (o ≡ Some x) × (f x ≡ y)
some_mapped f None y e = absurd cc
some_mapped f (Some x) y e = (x, refl, cc)

some_chained : {A B : Type 0} (f : A → Option B) (o : Option A) (y : B) → option_and_then f o ≡ Some y → (x : A) × (o ≡ Some x) × (f x ≡ Some y)
some_chained f None y e = absurd cc
some_chained f (Some x) y e = (x, refl, e)

abbrev pub chunk_of : List ℕ → Place → ChunkRef
chunk_of q place = record { index = q; place = place }

pub chunk_found : (q : List ℕ) (place : Place) (refs : List ChunkRef) → place_of q refs ≡ Some place → Contains refs (chunk_of q place)
chunk_found q place refs e =
    let r = some_mapped (λ (r : ChunkRef). r.place) (find (λ (r : ChunkRef). bytes_eq r.index q) refs) place e in
    let found = found_in (λ (r : ChunkRef). bytes_eq r.index q) refs r.0 r.1 in
    let index : r.0.index ≡ q = (bytes_eq-Decides r.0.index q).0 found.passes in
    let same : r.0 ≡ chunk_of q place = λ i. record { index = index i; place = r.2 i } in
    subst (Contains refs) same found.among

within_is : (b : Bool) (o : Option Place) (place : Place) → cond b o None ≡ Some place → b ≡ true
within_is true o place e = refl
within_is false o place e = absurd cc

inside_is : (b : Bool) (o : Option Place) (place : Place) → cond b o None ≡ Some place → o ≡ Some place
inside_is true o place e = e
inside_is false o place e = absurd cc

seen_from : (node : Id8) (q : List ℕ) (place : Place) (m : Listed) → entry_seen node q m ≡ Some place → ListsChunk node (chunk_of q place) m
seen_from node q place m e =
    let entry : entry_of node q m.1 ≡ Some place = inside_is (within m.0 q) (entry_of node q m.1) place e in
    let refs = some_chained (place_of q) (refs_of_node node m.1.arrays) place entry in
    let array = some_mapped (λ (a : ArrayRefs). a.refs) (find (λ (a : ArrayRefs). same_id8 a.node node) m.1.arrays) refs.0 refs.1 in
    let found = found_in (λ (a : ArrayRefs). same_id8 a.node node) m.1.arrays array.0 array.1 in
    record {
      inside = within_is (within m.0 q) (entry_of node q m.1) place e;
      array = array.0;
      among = found.among;
      own = same_id8-true array.0.node node found.passes;
      has = subst (λ (rs : List ChunkRef). Contains rs (chunk_of q place)) (sym array.2) (chunk_found q place refs.0 refs.2);
    }

-- an old manifest lists the chunk
abbrev pub IsListed : Id8 → List Listed → ChunkRef → Type 0
IsListed node old chunk = (m : Listed) × Contains old m × ListsChunk node chunk m

listed_from : (node : Id8) (q : List ℕ) (place : Place) (old : List Listed) → look_up node q old ≡ Some place → IsListed node old (chunk_of q place)
listed_from node q place [] e = absurd cc
listed_from node q place (m ∷ ms) e = by_seen (entry_seen node q m) refl e (λ h. listed_from node q place ms h)
  where
    by_seen : (o : Option Place) → entry_seen node q m ≡ o → option_or o (look_up node q ms) ≡ Some place → (look_up node q ms ≡ Some place → IsListed node ms (chunk_of q place)) → IsListed node (m ∷ ms) (chunk_of q place)
    by_seen (Some p) s h behind = (m, first_is m ms, seen_from node q place m (s ∙ h))
    by_seen None s h behind = let rest = behind h in (rest.0, later m ms rest.0 rest.1, rest.2)

-- ---- in the change, or there

changed_from : (node : Id8) (old : List Listed) (change : List ChunkChange) (q : List ℕ) (place : Place) → unwrap_or (changed_at q change) (look_up node q old) ≡ Some place → IsFrom node old change (chunk_of q place)
changed_from node old change q place e = by_change (changed_at q change) refl e
  where
    by_change : (o : Option (Option Place)) → changed_at q change ≡ o → unwrap_or o (look_up node q old) ≡ Some place → IsFrom node old change (chunk_of q place)
    by_change (Some p) c h =
        let entry = some_mapped (λ (x : ChunkChange). x.1) (find (λ (x : ChunkChange). bytes_eq x.0 q) change) p c in
        let found = found_in (λ (x : ChunkChange). bytes_eq x.0 q) change entry.0 entry.1 in
        let index : entry.0.0 ≡ q = (bytes_eq-Decides entry.0.0 q).0 found.passes in
        let there : entry.0.1 ≡ Some place = entry.2 ∙ h in
        let same : entry.0 ≡ (let x : ChunkChange = (q, Some place) in x) = λ i. (index i, there i) in
        inl (subst (Contains change) same found.among)
    by_change None c h = inr (listed_from node q place old h)

pub merged_from : (rank : ℕ) (node : Id8) (old : List Listed) (change : List ChunkChange) (q : List ℕ) (place : Place) → merged rank node old change q ≡ Some place → IsFrom node old change (chunk_of q place)
merged_from rank node old change q place e =
    changed_from node old change q place (inside_is (nat_eq (length q) rank) (unwrap_or (changed_at q change) (look_up node q old)) place e)

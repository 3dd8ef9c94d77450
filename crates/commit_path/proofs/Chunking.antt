-- Where the chunks of a new manifest come from.
use Rattle.std.proofs.Common.{◌≡◌, ◌⊎◌, inl, inr, ℕ, zero, suc, ◌<◌, ◌≤◌, ◌^◌, Bool, true, false, cond, ◌&&◌, List, [], ◌∷◌, map, length, nat_eq, refl, sym, ◌∙◌, ap, subst, arith, slice_get, slice_index_or, All}
use Rattle.std.specs.Prelude.{slice_index, ◌+◌, nat_le, nat_lt, Option, Some, None, find, option_map, option_and_then, bytes_eq}
use Rattle.std.specs.declared.cmp.Ordering.{Ordering}
use Rattle.std.specs.declared.cmp.Ordering.TheVariants.{Less, Equal, Greater}
use Rattle.std.specs.Ordering.{is_eq}
use Rattle.std.proofs.lemmas.Map.Text.{is_eq-slice_cmp}
use Rattle.zarr_path.proofs.OrderLaws.{same_path-refl}
use Rattle.std.specs.Option.{option_or, unwrap_or}
use Rattle.std.specs.List.{AllByRecursion, Contains, filter}
use Rattle.std.proofs.lemmas.Bool.Decides.{nat_tests}
use Rattle.std.proofs.lemmas.List.Elements.{All-contains, All-from_recursion, recursion_from_All}
use Rattle.std.proofs.lemmas.Slice.Eq.{bytes_eq-Decides}
use Rattle.ice_ids.specs.declared.Id8.{Id8}
use Rattle.ice_ids.specs.declared.Id12.{Id12}
use Rattle.ice_ids.specs.Text.{same_id8, IsId8, IsId12}
use Rattle.flat_tables.specs.Rows.{Ascends}
use Rattle.zarr_meta.specs.Grids.{most_chunks}
use Rattle.zarr_tree.specs.Nodes.{are_low, same_numbers}
use Rattle.zarr_tree.specs.Held.{HeldEntry, entry_in}
use Rattle.zarr_changes.specs.Sets.{chunks_of}
use Rattle.manifest_file.specs.declared.manifest.Place.{Place}
use Rattle.manifest_file.specs.declared.manifest.Place.TheVariants.{Inline}
use Rattle.manifest_file.specs.declared.manifest.ChunkRef.{ChunkRef}
use Rattle.manifest_file.specs.declared.manifest.ArrayRefs.{ArrayRefs}
use Rattle.manifest_file.specs.Manifests.{refs_limit, refs_of, ref_key}
use Rattle.manifest_file.specs.Layout.{IsPlace, IsRef, IsArray}
use Rattle.held_manifest.specs.LookUp.{Listed, within, place_of, refs_of_node, entry_of, entry_seen, look_up}
use Rattle.held_manifest.proofs.Halves.{found_at}
use Rattle.manifest_index.specs.Extents as extents
use Rattle.manifest_index.proofs.Ranks.{each_ranked}
use Rattle.manifest_index.specs.Merging.{changed_at, merged, IsMerged}
use Rattle.snapshot_file.specs.Layout.{IsExtent}
use Rattle.store_api.proofs.SameTree.{find-contains}
use Rattle.commit_path.specs.Committing.{manifest_for}
use Rattle.commit_path.specs.Spelled.{AreSized}
use Rattle.repo_objects.specs.Laws.{IsProperManifest}
use Rattle.manifest_index.specs.Laws.{ExtentsLaw}
use Rattle.manifest_index.specs.Extents.{extents_for}
use Rattle.commit_path.proofs.Rewriting.{Among}
use Rattle.commit_path.proofs.Spelling.{low-index}

-- ---- what is found
map-some : {A B : Type 0} (f : A → B) (o : Option A) (b : B) → option_map f o ≡ Some b → (a : A) × (o ≡ Some a) × (f a ≡ b)
map-some f None b e = cc
map-some f (Some a) b e = (a, refl, cc)

then-some : {A B : Type 0} (f : A → Option B) (o : Option A) (b : B) → option_and_then f o ≡ Some b → (a : A) × (o ≡ Some a) × (f a ≡ Some b)
then-some f None b e = cc
then-some f (Some a) b e = (a, refl, e)

or-some : {A : Type 0} (o p : Option A) (a : A) → option_or o p ≡ Some a → (o ≡ Some a) ⊎ (p ≡ Some a)
or-some None p a e = inr e
or-some (Some x) p a e = inl e

where-true : {A : Type 0} (b : Bool) (o : Option A) (a : A) → cond b o None ≡ Some a → (b ≡ true) × (o ≡ Some a)
where-true true o a e = (refl, e)
where-true false o a e = cc

find-holds : {X : Type 0} (test : X → Bool) (xs : List X) (x : X) → find test xs ≡ Some x → test x ≡ true
find-holds test [] x e = cc
find-holds test (y ∷ ys) x e = elim (test y) as (λ b. test y ≡ b → cond b (Some y) (find test ys) ≡ Some x → test x ≡ true) [
  | true ↦ λ t k. let same : y ≡ x = cc in subst (λ z. test z ≡ true) same t
  | false ↦ λ t k. find-holds test ys x k
] refl e

equal-of : (o : Ordering) → is_eq o ≡ true → o ≡ Equal
equal-of Less e = cc
equal-of Equal e = refl
equal-of Greater e = cc

-- what holds of each item that is got holds of all
all-gotten : {A : Type 0} (P : A → Type 0) (xs : List A) → ((k : ℕ) (x : A) → slice_get xs k ≡ Some x → P x) → AllByRecursion P xs
all-gotten P [] f = tt
all-gotten P (x ∷ xs) f = (f zero x refl, all-gotten P xs (λ k y e. f (suc k) y e))

-- ---- a chunk of the session's own, and one of an old manifest
-- what a change says of an index is its entry
pub changed-entry : {P : Type 0} (es : List (HeldEntry P)) (node : Id8) (i : List ℕ) → option_map (λ (c : List ℕ × Option P). c.1) (find (λ (c : List ℕ × Option P). bytes_eq c.0 i) (chunks_of es node)) ≡ entry_in es node i
changed-entry {P} [] node i = refl
changed-entry {P} (x ∷ xs) node i = elim (same_id8 x.0 node) as (λ b. option_map (λ (c : List ℕ × Option P). c.1) (find (λ (c : List ℕ × Option P). bytes_eq c.0 i) (map (λ (row : HeldEntry P). (row.1, row.2)) (cond b (x ∷ filter (λ (row : HeldEntry P). same_id8 row.0 node) xs) (filter (λ (row : HeldEntry P). same_id8 row.0 node) xs)))) ≡ option_map (λ (row : HeldEntry P). row.2) (cond (b && same_numbers x.1 i) (Some x) (find (λ (row : HeldEntry P). same_id8 row.0 node && same_numbers row.1 i) xs))) [
  | true ↦ ap (λ b. option_map (λ (c : List ℕ × Option P). c.1) (cond b (Some (x.1, x.2)) (find (λ (c : List ℕ × Option P). bytes_eq c.0 i) (chunks_of xs node)))) (same-test x.1 i)
      ∙ elim (same_numbers x.1 i) as (λ b. option_map (λ (c : List ℕ × Option P). c.1) (cond b (Some (x.1, x.2)) (find (λ (c : List ℕ × Option P). bytes_eq c.0 i) (chunks_of xs node))) ≡ option_map (λ (row : HeldEntry P). row.2) (cond b (Some x) (find (λ (row : HeldEntry P). same_id8 row.0 node && same_numbers row.1 i) xs))) [ true ↦ refl | false ↦ changed-entry xs node i ]
  | false ↦ changed-entry xs node i
]
  where
    same-test : (a b : List ℕ) → bytes_eq a b ≡ same_numbers a b
    same-test a b = sym (is_eq-slice_cmp a b)

-- an old manifest of the list has the chunk
pub record IsOld (node : Id8) (old : List Listed) (index : List ℕ) (place : Place) : Type 0 where
  pub listed : Listed
  pub among : Among old listed
  pub within_is : within listed.0 index ≡ true
  pub array : ArrayRefs
  pub array_in : Contains listed.1.arrays array
  pub chunk : ChunkRef
  pub chunk_in : Contains array.refs chunk
  pub index_is : chunk.index ≡ index
  pub place_is : chunk.place ≡ place

seen-old : (node : Id8) (l : Listed) (rest : List Listed) (index : List ℕ) (place : Place) → entry_seen node index l ≡ Some place → IsOld node (l ∷ rest) index place
seen-old node l rest index place e =
    let w = where-true (within l.0 index) (entry_of node index l.1) place e in
    let r = then-some (place_of index) (refs_of_node node l.1.arrays) place w.1 in
    let a = map-some (λ (x : ArrayRefs). x.refs) (find (λ (x : ArrayRefs). same_id8 x.node node) l.1.arrays) r.0 r.1 in
    let c = map-some (λ (x : ChunkRef). x.place) (find (λ (x : ChunkRef). bytes_eq x.index index) r.0) place r.2 in
    record {
      listed = l;
      among = inl refl;
      within_is = w.0;
      array = a.0;
      array_in = find-contains (λ (x : ArrayRefs). same_id8 x.node node) l.1.arrays a.0 a.1;
      chunk = c.0;
      chunk_in = subst (λ (refs : List ChunkRef). Contains refs c.0) (sym a.2) (find-contains (λ (x : ChunkRef). bytes_eq x.index index) r.0 c.0 c.1);
      index_is = (bytes_eq-Decides c.0.index index).0 (find-holds (λ (x : ChunkRef). bytes_eq x.index index) r.0 c.0 c.1);
      place_is = c.2;
    }

look-old : (node : Id8) (old : List Listed) (index : List ℕ) (place : Place) → look_up node index old ≡ Some place → IsOld node old index place
look-old node [] index place e = cc
look-old node (l ∷ ls) index place e = elim (or-some (entry_seen node index l) (look_up node index ls) place e) [
  | inl h ↦ seen-old node l ls index place h
  | inr h ↦
      let r = look-old node ls index place h in
      record { listed = r.listed; among = inr r.among; within_is = r.within_is; array = r.array; array_in = r.array_in; chunk = r.chunk; chunk_in = r.chunk_in; index_is = r.index_is; place_is = r.place_is }
]

abbrev pub IsFrom : Id8 → List (HeldEntry Place) → List Listed → List ℕ → Place → Type 0
IsFrom node es old index place = (entry_in es node index ≡ Some (Some place)) ⊎ IsOld node old index place

merged-from : (rank : ℕ) (node : Id8) (es : List (HeldEntry Place)) (old : List Listed) (index : List ℕ) (place : Place) → merged rank node old (chunks_of es node) index ≡ Some place → IsFrom node es old index place
merged-from rank node es old index place e =
    by_entry (changed_at index (chunks_of es node)) (sym (changed-entry es node index)) (where-true (nat_eq (length index) rank) (unwrap_or (changed_at index (chunks_of es node)) (look_up node index old)) place e).1
  where
    by_entry : (o : Option (Option Place)) → entry_in es node index ≡ o → unwrap_or o (look_up node index old) ≡ Some place → IsFrom node es old index place
    by_entry None h k = inr (look-old node old index place k)
    by_entry (Some entry) h k = inl (h ∙ ap (λ (x : Option Place). Some x) k)

-- ---- the chunks of the new manifest
module _ (rank : ℕ) (node : Id8) (es : List (HeldEntry Place)) (old : List Listed) (array : ArrayRefs) (is : IsMerged rank node old (chunks_of es node) (Some array)) where
  at-place : (refs : List ChunkRef) → Ascends ref_key None refs → (k : ℕ) (r : ChunkRef) → slice_get refs k ≡ Some r → place_of r.index refs ≡ Some r.place
  at-place refs ascends k r e = ap (option_map (λ (x : ChunkRef). x.place)) (found_at ref_key None refs r.index k r ascends e (equal-of _ (same_path-refl r.index)))

  -- each comes from an entry, or from an old manifest
  pub each-from : (k : ℕ) (r : ChunkRef) → slice_get array.refs k ≡ Some r → IsFrom node es old r.index r.place
  each-from k r e = merged-from rank node es old r.index r.place (sym (is.3 r.index) ∙ at-place array.refs is.2 k r e)

  pub all-from : AllByRecursion (λ (r : ChunkRef). IsFrom node es old r.index r.place) array.refs
  all-from = all-gotten (λ (r : ChunkRef). IsFrom node es old r.index r.place) array.refs each-from

-- ---- what can be written
-- what is known of an old manifest: it can be written, and its extents have their widths
pub record IsFineOld (l : Listed) : Type 0 where
  pub proper : IsProperManifest l.1
  pub extents : AllByRecursion IsExtent l.0

two : (a b : Bool) → (a && b) ≡ true → (a ≡ true) × (b ≡ true)
two true b e = (refl, e)
two false b e = cc

number-below : (n : ℕ) → nat_lt n most_chunks ≡ true → n < most_chunks
number-below n e = grind (arith, nat_tests)

less-limit : (b k : ℕ) → nat_lt k b ≡ true → b < 2 ^ 32 → nat_lt k most_chunks ≡ true
less-limit b k e l = grind (arith, nat_tests)

below-limit : (a b k : ℕ) → (nat_le a k && nat_lt k b) ≡ true → b < 2 ^ 32 → nat_lt k most_chunks ≡ true
below-limit a b k e l = let p = two (nat_le a k) (nat_lt k b) e in less-limit b k p.1 l

-- an index within extents is low
within-low : (extents : List (ℕ × ℕ)) (index : List ℕ) → AllByRecursion IsExtent extents → within extents index ≡ true → are_low index ≡ true
within-low [] [] a e = refl
within-low [] (k ∷ ks) a e = cc
within-low (x ∷ xs) [] a e = cc
within-low (x ∷ xs) (k ∷ ks) a e =
    let p = two (nat_le x.0 k && nat_lt k x.1) (within xs ks) e in
    let here : nat_lt k most_chunks ≡ true = below-limit x.0 x.1 k p.0 a.0.1 in
    rw here (within-low xs ks a.1 p.1)

all-weaker : {A : Type 0} (P Q : A → Type 0) → ((x : A) → P x → Q x) → (xs : List A) → AllByRecursion P xs → AllByRecursion Q xs
all-weaker P Q f [] a = tt
all-weaker P Q f (x ∷ xs) a = (f x a.0, all-weaker P Q f xs a.1)

index-below : (i : List ℕ) (k : ℕ) → are_low i ≡ true → slice_index i k < most_chunks
index-below [] k e = omega arith
index-below (n ∷ ns) zero e = let p = two (nat_lt n most_chunks) (are_low ns) e in number-below n p.0
index-below (n ∷ ns) (suc k) e = let p = two (nat_lt n most_chunks) (are_low ns) e in index-below ns k p.1

no_ref : ChunkRef
no_ref = record { index = []; place = Inline [] }

extent-fits : (k : ℕ) (refs : List ChunkRef) → All (λ (r : ChunkRef). are_low r.index ≡ true) refs → (e : ℕ × ℕ) → extents.IsExtent k refs e → IsExtent e
extent-fits k refs low e x =
    let a = x.1 in
    let b = x.2 in
    let first : slice_index (slice_index_or refs a.0 no_ref).index k ≡ e.0 = a.2 no_ref in
    let last : slice_index (slice_index_or refs b.0 no_ref).index k + 1 ≡ e.1 = b.2 no_ref in
    let f = index-below (slice_index_or refs a.0 no_ref).index k (low a.0 no_ref a.1) in
    let l = index-below (slice_index_or refs b.0 no_ref).index k (low b.0 no_ref b.1) in
    (omega (arith, first, f), omega (arith, last, l))

few-refs : (array : ArrayRefs) → nat_lt refs_limit (length array.refs) ≡ false → refs_of (array ∷ []) ≤ refs_limit
few-refs array e = grind (arith, nat_tests)

module _ (node : Id8) (es : List (HeldEntry Place)) (old : List Listed) (sized : AreSized es) (fine : (l : Listed) → Among old l → IsFineOld l) where
  pub low-from : (index : List ℕ) (place : Place) → IsFrom node es old index place → are_low index ≡ true
  low-from index place (inl e) = (sized node index (Some place) e).0
  low-from index place (inr o) = within-low o.listed.0 index (fine o.listed o.among).extents o.within_is

  pub ref-from : (r : ChunkRef) → IsFrom node es old r.index r.place → IsRef r
  ref-from r (inl e) = record { index = low-index r.index (low-from r.index r.place (inl e)); place = (sized node r.index (Some r.place) e).1 r.place refl }
  ref-from r (inr o) =
      let array = All-contains IsArray o.listed.1.arrays o.array (All-from_recursion IsArray o.listed.1.arrays (fine o.listed o.among).proper.sized.arrays) o.array_in in
      let chunk = All-contains IsRef o.array.refs o.chunk (All-from_recursion IsRef o.array.refs array.refs) o.chunk_in in
      record { index = low-index r.index (low-from r.index r.place (inr o)); place = subst IsPlace o.place_is chunk.place }

  module _ (rank : ℕ) (array : ArrayRefs) (is : IsMerged rank node old (chunks_of es node) (Some array)) where
    refs-fine : AllByRecursion IsRef array.refs
    refs-fine = all-weaker (λ (r : ChunkRef). IsFrom node es old r.index r.place) IsRef ref-from array.refs (all-from rank node es old array is)

    pub proper-new : (id : Id12) → IsId12 id → IsId8 node → nat_lt refs_limit (length array.refs) ≡ false → IsProperManifest (manifest_for id array)
    proper-new id i n few = record {
      sized = record { id = i; arrays = (record { node = subst IsId8 (sym is.0) n; refs = refs-fine }, tt) };
      writable = record { arrays = (refl, tt); refs = (is.2, tt); few = few-refs array few };
    }

    -- the extents of the new manifest have their widths
    pub extents-fine : ExtentsLaw → AllByRecursion IsExtent (extents_for rank array.refs)
    extents-fine law =
        let ranked = each_ranked rank node old (chunks_of es node) array.refs is.3 in
        let e = law rank array.refs is.1 ranked in
        let low : All (λ (r : ChunkRef). are_low r.index ≡ true) array.refs = All-from_recursion _ array.refs (all-weaker (λ (r : ChunkRef). IsFrom node es old r.index r.place) _ (λ r f. low-from r.index r.place f) array.refs (all-from rank node es old array is)) in
        recursion_from_All IsExtent (extents_for rank array.refs) (λ k d below. extent-fits k array.refs low (slice_index_or (extents_for rank array.refs) k d) (e.1 k d (subst (λ (n : ℕ). k < n) e.0 below)))

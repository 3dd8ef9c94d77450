-- Looks for a chunk in lists of manifests.
use Rattle.std.proofs.Common.{◌≡◌, ◌≤◌, ◌<◌, ◌+◌, ℕ, zero, suc, Bool, true, false, cond, List, [], ◌∷◌, length, drop, get_or, refl, sym, ◌∙◌, ap, subst, arith}
use Rattle.std.specs.Prelude.{Some, None, Result, Ok, Err}
use Rattle.ice_ids.specs.declared.Id12.{Id12}
use Rattle.ice_ids.specs.Text.{same_id12}
use Rattle.ice_ids.proofs.TextLaws.{same_id12-true}
use Rattle.zarr_tree.specs.Nodes.{chunk_length}
use Rattle.manifest_file.specs.declared.manifest.Place.{Place}
use Rattle.manifest_file.specs.declared.manifest.ManifestFile.{ManifestFile}
use Rattle.held_manifest.specs.LookUp.{entry_of}
use Rattle.store_api.specs.declared.machines.Refusal.{Refusal}
use Rattle.store_api.specs.Program.{IsAsk}
use Rattle.store_api.specs.Running.{Program}
use Rattle.session.specs.declared.chunks.Value.TheVariants.{Fill}
use Rattle.array_region.specs.declared.stages.Found.{Found}
use Rattle.array_region.specs.declared.stages.Found.TheVariants.{Told, Gets}
use Rattle.array_region.specs.Reading.{Kept, Chunk, Reads, keeping, place_kept, entry_kept, got_kept, in_manifest, file_kept, listed_kept}
use Rattle.array_region.specs.Getting.{Finds, Looks}

-- fewer steps are few enough
finds_more : (r : Reads) (kept : Kept) (index : List ℕ) (m n : ℕ) (p : Program Chunk) (found : Found) → m ≤ n → Finds r kept index m p found → Finds r kept index n p found
finds_more r kept index m n p (Told i value) h f = f
finds_more r kept index m n p (Gets stage) h f = (f.0, f.1, f.2, omega (arith, f.3, h))

pub looks_more : (r : Reads) (kept : Kept) (index : List ℕ) (m n : ℕ) (p q : Program Chunk) (found : Result Found Refusal) → m ≤ n → q ≡ p → Looks r kept index m p found → Looks r kept index n q found
looks_more r kept index m n p q found h e l = subst (λ x. Looks r kept index n x found) (sym e) (by_result found l)
  where
    by_result : (found : Result Found Refusal) → Looks r kept index m p found → Looks r kept index n p found
    by_result (Ok x) f = finds_more r kept index m n p x h f
    by_result (Err why) f = f

-- a manifest that is taken is the one that is kept
pub taken : (kept : Kept) (id : Id12) (file : ManifestFile) → file_kept kept id ≡ Some file → kept ≡ Some (id, file)
taken None id file e = cc
taken (Some kept) id file e = by_test (same_id12 kept.0 id) refl e
  where
    by_test : (b : Bool) → same_id12 kept.0 id ≡ b → cond b (Some kept.1) None ≡ Some file → Some kept ≡ Some (id, file)
    by_test true t d =
        let same = same_id12-true kept.0 id t in
        let files : kept.1 ≡ file = cc in
        λ i. Some (same i, files i)
    by_test false t d = cc

pub first_left : {A : Type 0} (xs : List A) (k next : ℕ) (x d : A) → next ≡ k + 1 → k < length xs → x ≡ get_or xs k d → drop k xs ≡ x ∷ drop next xs
first_left [] k next x d n h e = absurd (omega arith)
first_left (y ∷ xs) zero zero x d n h e = absurd (omega (arith, n))
first_left (y ∷ xs) zero (suc m) x d n h e = let none : m ≡ 0 = omega (arith, n) in (λ i. (sym e) i ∷ drop (sym none i) xs)
first_left (y ∷ xs) (suc k) zero x d n h e = absurd (omega (arith, n))
first_left (y ∷ xs) (suc k) (suc m) x d n h e = first_left xs k m x d (omega (arith, n)) (omega arith) e

pub none_left : {A : Type 0} (xs : List A) (k : ℕ) → length xs ≤ k → drop k xs ≡ []
none_left [] zero h = refl
none_left [] (suc k) h = refl
none_left (x ∷ xs) zero h = absurd (omega arith)
none_left (x ∷ xs) (suc k) h = none_left xs k (omega arith)

-- what stands where there is no id
abbrev pub no_id : Id12
no_id = record { 0 = [] }

module _ (r : Reads) (index : List ℕ) (kept : Kept) where
  abbrev listed : List Id12 → Kept → Program Chunk
  listed ids k = listed_kept (chunk_length r.array) r.node index ids k

  begins : (id : Id12) (ids : List Id12) → listed (id ∷ ids) kept ≡ in_manifest (chunk_length r.array) r.node index id (listed_kept (chunk_length r.array) r.node index ids) (file_kept kept id)
  unfolding listed_kept
  begins id ids = refl

  -- nothing is left
  pub ends : (ids : List Id12) (at : ℕ) → length ids ≤ at → listed (drop at ids) kept ≡ keeping kept Fill
  unfolding listed_kept
  ends ids at h = ap (λ (l : List Id12). listed l kept) (none_left ids at h)

  module _ (ids : List Id12) (at next : ℕ) (id d : Id12) (n : next ≡ at + 1) (within : at < length ids) (is : id ≡ get_or ids at d) where
    first_is : listed (drop at ids) kept ≡ in_manifest (chunk_length r.array) r.node index id (listed_kept (chunk_length r.array) r.node index (drop next ids)) (file_kept kept id)
    first_is = ap (λ (l : List Id12). listed l kept) (first_left ids at next id d n within is) ∙ begins id (drop next ids)

    -- a manifest that isn't kept is got
    pub is_got : file_kept kept id ≡ None → listed (drop at ids) kept ≡ got_kept (chunk_length r.array) r.node index id (listed_kept (chunk_length r.array) r.node index (drop next ids))
    is_got e = first_is ∙ ap (in_manifest (chunk_length r.array) r.node index id (listed_kept (chunk_length r.array) r.node index (drop next ids))) e

    pub is_asked : file_kept kept id ≡ None → IsAsk (listed (drop at ids) kept)
    is_asked e = subst (λ (p : Program Chunk). IsAsk p) (sym (is_got e)) tt

    module _ (file : ManifestFile) (e : file_kept kept id ≡ Some file) where
      looked_into : listed (drop at ids) kept ≡ entry_kept (chunk_length r.array) id kept (listed (drop next ids) kept) (entry_of r.node index file)
      looked_into =
          first_is ∙ ap (in_manifest (chunk_length r.array) r.node index id (listed_kept (chunk_length r.array) r.node index (drop next ids))) e
          ∙ sym (ap (λ k. entry_kept (chunk_length r.array) id k (listed (drop next ids) k) (entry_of r.node index file)) (taken kept id file e))

      -- the one that is kept has the chunk
      pub has_it : (place : Place) → entry_of r.node index file ≡ Some place → listed (drop at ids) kept ≡ place_kept (chunk_length r.array) id kept place
      has_it place f = looked_into ∙ ap (entry_kept (chunk_length r.array) id kept (listed (drop next ids) kept)) f

      -- or it hasn't
      pub has_none : entry_of r.node index file ≡ None → listed (drop at ids) kept ≡ listed (drop next ids) kept
      has_none f = looked_into ∙ ap (entry_kept (chunk_length r.array) id kept (listed (drop next ids) kept)) f

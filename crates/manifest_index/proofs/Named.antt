-- Where a chunk is after a change: among the indices that the change or the old manifests name, or nowhere.
use Rattle.std.proofs.Common.{◌≡◌, ℕ, Bool, true, false, cond, ◌||◌, nat_eq, List, [], ◌∷◌, length, map, Option, Some, None, option_map, refl, sym, ap, ◌∙◌}
use Rattle.std.specs.Prelude.{find, bytes_eq}
use Rattle.std.specs.Option.{option_or, option_and_then, unwrap_or}
use Rattle.std.specs.Ordering.{eq_by_cmp}
use Rattle.std.specs.List.{filter_map, flat_map, list_any, cons_option}
use Rattle.std.specs.FinMap as finite
use Rattle.std.proofs.lemmas.Cmp.{nat_list_cmp_total}
use Rattle.std.proofs.lemmas.Map.Text.{is_eq-slice_cmp}
use Rattle.std.proofs.lemmas.Slice.Eq.{bytes_eq-Decides}
use Rattle.std.proofs.lemmas.List.Folds.{list_any-append}
use Rattle.zarr_path.specs.Indices.{index_cmp}
use Rattle.ice_ids.specs.declared.Id8.{Id8}
use Rattle.manifest_file.specs.declared.manifest.Place.{Place}
use Rattle.manifest_file.specs.declared.manifest.ChunkRef.{ChunkRef}
use Rattle.held_manifest.specs.LookUp.{Listed, within, place_of, refs_of_node, entry_seen, look_up}
use Rattle.manifest_index.specs.Merging.{ChunkChange, merged, indices_in, indices_named, entry_after, places_after}
use Rattle.manifest_index.proofs.Collected.{same_back}

-- an index is one of these
abbrev pub is_named : List ℕ → List (List ℕ) → Bool
is_named q ks = list_any (eq_by_cmp index_cmp q) ks

same_test : (q k : List ℕ) → eq_by_cmp index_cmp q k ≡ bytes_eq k q
same_test q k = is_eq-slice_cmp q k ∙ same_back q k

no_left : (a b : Bool) → (a || b) ≡ false → a ≡ false
no_left true b h = cc
no_left false b h = refl

no_right : (a b : Bool) → (a || b) ≡ false → b ≡ false
no_right true b h = cc
no_right false b h = h

-- ---- what isn't named is nowhere

unchanged : (q : List ℕ) (change : List ChunkChange) → is_named q (map (λ (c : ChunkChange). c.0) change) ≡ false → find (λ (c : ChunkChange). bytes_eq c.0 q) change ≡ None
unchanged q [] h = refl
unchanged q (c ∷ cs) h =
    ap (λ b. cond b (Some c) (find (λ (x : ChunkChange). bytes_eq x.0 q) cs)) (sym (same_test q c.0) ∙ no_left _ _ h) ∙ unchanged q cs (no_right _ _ h)

unfound : (q : List ℕ) (refs : List ChunkRef) → is_named q (map (λ (r : ChunkRef). r.index) refs) ≡ false → find (λ (r : ChunkRef). bytes_eq r.index q) refs ≡ None
unfound q [] h = refl
unfound q (r ∷ rs) h =
    ap (λ b. cond b (Some r) (find (λ (x : ChunkRef). bytes_eq x.index q) rs)) (sym (same_test q r.index) ∙ no_left _ _ h) ∙ unfound q rs (no_right _ _ h)

no_entry : (q : List ℕ) (refs : Option (List ChunkRef)) → is_named q (map (λ (r : ChunkRef). r.index) (unwrap_or refs [])) ≡ false → option_and_then (place_of q) refs ≡ None
no_entry q None h = refl
no_entry q (Some refs) h = ap (option_map (λ (r : ChunkRef). r.place)) (unfound q refs h)

either_none : (b : Bool) → (let o : Option Place = None in cond b o None) ≡ None
either_none true = refl
either_none false = refl

unseen : (node : Id8) (q : List ℕ) (m : Listed) → is_named q (indices_in node m.1) ≡ false → entry_seen node q m ≡ None
unseen node q m h = ap (λ (p : Option Place). cond (within m.0 q) p None) (no_entry q (refs_of_node node m.1.arrays) h) ∙ either_none (within m.0 q)

unlisted : (node : Id8) (q : List ℕ) (old : List Listed) → is_named q (flat_map (λ (m : Listed). indices_in node m.1) old) ≡ false → look_up node q old ≡ None
unlisted node q [] h = refl
unlisted node q (m ∷ ms) h =
    let split : (is_named q (indices_in node m.1) || is_named q (flat_map (λ (x : Listed). indices_in node x.1) ms)) ≡ false =
    sym (list_any-append (eq_by_cmp index_cmp q) (indices_in node m.1) (flat_map (λ (x : Listed). indices_in node x.1) ms)) ∙ h in
    ap (λ (p : Option Place). option_or p (look_up node q ms)) (unseen node q m (no_left _ _ split)) ∙ unlisted node q ms (no_right _ _ split)

unnamed : (rank : ℕ) (node : Id8) (old : List Listed) (change : List ChunkChange) (q : List ℕ) → is_named q (indices_named node old change) ≡ false → merged rank node old change q ≡ None
unnamed rank node old change q h =
    let split : (is_named q (map (λ (c : ChunkChange). c.0) change) || is_named q (flat_map (λ (m : Listed). indices_in node m.1) old)) ≡ false =
    sym (list_any-append (eq_by_cmp index_cmp q) (map (λ (c : ChunkChange). c.0) change) (flat_map (λ (m : Listed). indices_in node m.1) old)) ∙ h in
    ap (λ (c : Option ChunkChange). cond (nat_eq (length q) rank) (unwrap_or (option_map (λ (x : ChunkChange). x.1) c) (look_up node q old)) None) (unchanged q change (no_left _ _ split))
    ∙ ap (λ (p : Option Place). cond (nat_eq (length q) rank) p None) (unlisted node q old (no_right _ _ split))
    ∙ either_none (nat_eq (length q) rank)

-- ---- what is named is found

tied : (q k : List ℕ) → eq_by_cmp index_cmp q k ≡ true → k ≡ q
tied q k e = (bytes_eq-Decides k q).0 (sym (same_test q k) ∙ e)

abbrev placed : List ℕ → Place → List ℕ × Place
placed k p = (k, p)

abbrev entry_by : (List ℕ → Option Place) → List ℕ → Option (List ℕ × Place)
entry_by f k = option_map (placed k) (f k)

if_none : (b : Bool) (o : Option Place) → o ≡ None → cond b o None ≡ o
if_none true o e = refl
if_none false o e = sym e

found_among : (f : List ℕ → Option Place) (ks : List (List ℕ)) (q : List ℕ) → finite.find index_cmp q (filter_map (entry_by f) ks) ≡ cond (is_named q ks) (f q) None
found_among f [] q = refl
found_among f (k ∷ ks) q = by_value (f k) refl (eq_by_cmp index_cmp q k) refl (found_among f ks q)
  where
    found : Option Place
    found = finite.find index_cmp q (filter_map (entry_by f) ks)

    here : {o : Option Place} → f k ≡ o
        → finite.find index_cmp q (cons_option (option_map (placed k) (f k)) (filter_map (entry_by f) ks)) ≡ finite.find index_cmp q (cons_option (option_map (placed k) o) (filter_map (entry_by f) ks))
    here e = ap (λ (x : Option Place). finite.find index_cmp q (cons_option (option_map (placed k) x) (filter_map (entry_by f) ks))) e

    there : {b : Bool} → eq_by_cmp index_cmp q k ≡ b → cond (b || is_named q ks) (f q) None ≡ cond (eq_by_cmp index_cmp q k || is_named q ks) (f q) None
    there t = ap (λ b. cond (b || is_named q ks) (f q) None) (sym t)

    by_value : (o : Option Place) → f k ≡ o → (b : Bool) → eq_by_cmp index_cmp q k ≡ b
        → finite.find index_cmp q (filter_map (entry_by f) ks) ≡ cond (is_named q ks) (f q) None
        → finite.find index_cmp q (filter_map (entry_by f) (k ∷ ks)) ≡ cond (is_named q (k ∷ ks)) (f q) None
    by_value (Some p) e true t rest = here e ∙ ap (λ b. cond b (Some p) found) t ∙ (sym e ∙ ap f (tied q k t)) ∙ there t
    by_value (Some p) e false t rest = here e ∙ ap (λ b. cond b (Some p) found) t ∙ rest ∙ there t
    by_value None e true t rest = here e ∙ rest ∙ if_none (is_named q ks) (f q) (ap f (sym (tied q k t)) ∙ e) ∙ there t
    by_value None e false t rest = here e ∙ rest ∙ there t

pub after_found : (rank : ℕ) (node : Id8) (old : List Listed) (change : List ChunkChange) (q : List ℕ)
    → finite.find index_cmp q (finite.entries (places_after rank node old change)) ≡ merged rank node old change q
after_found rank node old change q =
    sym (finite.get-entries (places_after rank node old change) q)
    ∙ finite.get-from_entries nat_list_cmp_total (filter_map (entry_after rank node old change) (indices_named node old change)) q
    ∙ found_among (merged rank node old change) (indices_named node old change) q
    ∙ by_name (is_named q (indices_named node old change)) refl
  where
    by_name : (b : Bool) → is_named q (indices_named node old change) ≡ b → cond b (merged rank node old change q) None ≡ merged rank node old change q
    by_name true e = refl
    by_name false e = sym (unnamed rank node old change q e)

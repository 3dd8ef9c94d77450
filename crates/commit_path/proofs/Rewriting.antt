-- What is known of the new lists of manifests that a commit wrote.
use Rattle.std.proofs.Common.{◌≡◌, ◌⊎◌, inl, inr, ℕ, Bool, true, false, cond, List, [], ◌∷◌, ◌++◌, length, refl, sym, ◌∙◌, ap, subst, T, ◌&&◌}
use Rattle.std.specs.Prelude.{Option, Some, None, find, option_map}
use Rattle.std.specs.List.{AllZip, AllByRecursion, filter, filter_map, list_any, cons_option, list_all}
use Rattle.std.specs.FinMap.{FinMap, get, entries, get-entries, entries_sorted, is_sorted}
use Rattle.std.specs.FinMap as finmap
use Rattle.std.specs.declared.cmp.Ordering.{Ordering}
use Rattle.std.specs.declared.cmp.Ordering.TheVariants.{Less, Equal, Greater}
use Rattle.std.specs.Ordering.{is_eq, is_lt}
use Rattle.ice_ids.specs.Text.{same_id8}
use Rattle.zarr_path.specs.Paths.{path_cmp, same_path}
use Rattle.zarr_path.proofs.OrderLaws.{same_path-true, same_path-refl}
use Rattle.zarr_meta.specs.declared.views.ArrayView.{ArrayView}
use Rattle.zarr_tree.specs.Nodes.{Node, is_array, array_in}
use Rattle.zarr_tree.specs.Held.{Held, HeldEntry, nodes_over}
use Rattle.zarr_changes.specs.Sets.{chunks_of, has_chunks, array_of_row, changed_arrays}
use Rattle.manifest_file.specs.declared.manifest.Place.{Place}
use Rattle.held_manifest.specs.LookUp.{Listed, chunk_place}
use Rattle.manifest_index.specs.Merging.{merged}
use Rattle.snapshot_file.specs.declared.nodes.ManifestRef.{ManifestRef}
use Rattle.snapshot_file.specs.declared.nodes.NodeRow.{NodeRow}
use Rattle.repo_objects.specs.Trees.{Puts, manifest_put, or_empty, listed, nodes_in, Extends}
use Rattle.changed_snapshot.proofs.Found.{head_below, tail_sorted}
use Rattle.zarr_changes.specs.declared.chunks.ChangedArray.{ChangedArray}
use Rattle.changed_snapshot.specs.declared.new_snapshot.NewManifest.{NewManifest}
use Rattle.changed_snapshot.specs.declared.new_snapshot.NewList.{NewList}
use Rattle.changed_snapshot.specs.Rows.{own_manifests, refs_of, new_list}
use Rattle.changed_snapshot.specs.Laws.{HasMerged, AreMerged}

-- ---- manifests that are readable
pub record IsRead (puts : Puts) (m : ManifestRef) (l : Listed) : Type 0 where
  pub extents : l.0 ≡ m.extents
  pub put : manifest_put puts m.id ≡ Some l.1

abbrev pub AreRead : Puts → List ManifestRef → List Listed → Type 0
AreRead puts refs old = AllZip (IsRead puts) refs old

pub zip-weaker : {A B : Type 0} (R S : A → B → Type 0) → ((a : A) (b : B) → R a b → S a b) → (xs : List A) (ys : List B) → AllZip R xs ys → AllZip S xs ys
zip-weaker R S f [] [] z = tt
zip-weaker R S f [] (y ∷ ys) z = absurd z
zip-weaker R S f (x ∷ xs) [] z = absurd z
zip-weaker R S f (x ∷ xs) (y ∷ ys) z = (f x y z.0, zip-weaker R S f xs ys z.1)

pub zip-push : {A B : Type 0} (R : A → B → Type 0) (xs : List A) (ys : List B) (x : A) (y : B) → AllZip R xs ys → R x y → AllZip R (xs ++ x ∷ []) (ys ++ y ∷ [])
zip-push R [] [] x y z r = (r, tt)
zip-push R [] (b ∷ bs) x y z r = absurd z
zip-push R (a ∷ az) [] x y z r = absurd z
zip-push R (a ∷ az) (b ∷ bs) x y z r = (z.0, zip-push R az bs x y z.1 r)

pub read-extends : (p q : Puts) → Extends p q → (refs : List ManifestRef) (old : List Listed) → AreRead p refs old → AreRead q refs old
read-extends p q x = zip-weaker (IsRead p) (IsRead q) (λ m l r. record { extents = r.extents; put = x.manifests m.id l.1 r.put })

pub read-listed : (puts : Puts) (refs : List ManifestRef) (old : List Listed) → AreRead puts refs old → listed puts refs ≡ old
read-listed puts [] [] z = refl
read-listed puts [] (y ∷ ys) z = absurd z
read-listed puts (m ∷ ms) [] z = absurd z
read-listed puts (m ∷ ms) (l ∷ ls) z = λ j. (sym z.0.extents j, ap (or_empty m.id) z.0.put j) ∷ read-listed puts ms ls z.1 j

-- ---- an array's new list
pub record Rewritten (puts : Puts) (rows : List NodeRow) (es : List (HeldEntry Place)) (a : ChangedArray) (m : Option NewManifest) : Type 0 where
  pub old : List Listed
  pub new : List Listed
  pub was : AreRead puts (own_manifests rows a.path a.node) old
  pub is : AreRead puts (refs_of m) new
  pub same : (i : List ℕ) → chunk_place a.rank a.node i new ≡ merged a.rank a.node old (chunks_of es a.node) i

pub rewritten-extends : (p q : Puts) → Extends p q → (rows : List NodeRow) (es : List (HeldEntry Place)) (a : ChangedArray) (m : Option NewManifest) → Rewritten p rows es a m → Rewritten q rows es a m
rewritten-extends p q x rows es a m r = record {
  old = r.old;
  new = r.new;
  was = read-extends p q x (own_manifests rows a.path a.node) r.old r.was;
  is = read-extends p q x (refs_of m) r.new r.is;
  same = r.same;
}

-- the new list is this array's
pub record IsListOf (puts : Puts) (rows : List NodeRow) (es : List (HeldEntry Place)) (a : ChangedArray) (n : NewList) : Type 0 where
  pub path : n.path ≡ a.path
  pub list : Rewritten puts rows es a n.manifest

abbrev pub AreListsOf : Puts → List NodeRow → List (HeldEntry Place) → List ChangedArray → List NewList → Type 0
AreListsOf puts rows es arrays news = AllZip (IsListOf puts rows es) arrays news

-- ---- rows in order
not_equal : (o : Ordering) → T (is_lt o) → is_eq o ≡ false
not_equal Less h = refl
not_equal Equal h = absurd h
not_equal Greater h = refl

both-parts : (a b : Bool) → T (a && b) → T a × T b
both-parts true b p = (tt, p)
both-parts false b p = absurd p

none-below : (x : List ℕ) (es : List (List ℕ × Node)) → T (list_all (λ (e : List ℕ × Node). is_lt (path_cmp x e.0)) es) → finmap.find path_cmp x es ≡ None
none-below x [] h = refl
none-below x (e ∷ es) h =
    let p = both-parts (is_lt (path_cmp x e.0)) (list_all (λ (e : List ℕ × Node). is_lt (path_cmp x e.0)) es) h in
    ap (λ b. cond b (Some e.1) (finmap.find path_cmp x es)) (not_equal (path_cmp x e.0) p.0) ∙ none-below x es p.1

-- a row that is found among the later ones is found among all
found_later : (e : List ℕ × Node) (es : List (List ℕ × Node)) (p : List ℕ) (n : Node) → T (list_all (λ (x : List ℕ × Node). is_lt (path_cmp e.0 x.0)) es) → finmap.find path_cmp p es ≡ Some n → finmap.find path_cmp p (e ∷ es) ≡ Some n
found_later e es p n below f = elim (same_path p e.0) as (λ b. same_path p e.0 ≡ b → cond b (Some e.1) (finmap.find path_cmp p es) ≡ Some n) [
  | true ↦ λ t. let bad : None ≡ Some n = sym (none-below e.0 es below) ∙ ap (λ q. finmap.find path_cmp q es) (sym (same_path-true p e.0 t)) ∙ f in cc
  | false ↦ λ t. f
] refl

-- each entry of nodes is found
pub each-entry : (nodes : FinMap path_cmp Node) → AllByRecursion (λ (row : List ℕ × Node). get nodes row.0 ≡ Some row.1) (entries nodes)
each-entry nodes = by_rows (entries nodes) (entries_sorted nodes) (λ p n f. get-entries nodes p ∙ f)
  where
    by_rows : (es : List (List ℕ × Node)) → T (is_sorted path_cmp es) → ((p : List ℕ) (n : Node) → finmap.find path_cmp p es ≡ Some n → get nodes p ≡ Some n) → AllByRecursion (λ (row : List ℕ × Node). get nodes row.0 ≡ Some row.1) es
    by_rows [] sorted each = tt
    by_rows (e ∷ es) sorted each =
        (each e.0 e.1 (ap (λ b. cond b (Some e.1) (finmap.find path_cmp e.0 es)) (same_path-refl e.0)), by_rows es (tail_sorted e es sorted) (λ p n f. each p n (found_later e es p n (head_below e es sorted) f)))

-- ---- the arrays that changed
pub record IsChanged {P : Type 0} (h : Held P) (nodes : FinMap path_cmp Node) (a : ChangedArray) : Type 0 where
  pub node : Node
  pub found : get (nodes_over h nodes) a.path ≡ Some node
  pub same : node.id ≡ a.node
  pub array : ArrayView
  pub array_is : array_in node.text ≡ Some array
  pub rank : length array.shape ≡ a.rank
  pub has : has_chunks h.chunks node.id ≡ true

abbrev pub Among : {A : Type 0} → List A → A → Type 0
Among [] x = ⊥
Among (y ∷ ys) x = (y ≡ x) ⊎ Among ys x

abbrev pub array_of : List ℕ → Node → ArrayView → ChangedArray
array_of p n array = record { path = p; node = n.id; rank = length array.shape }

module _ {P : Type 0} (h : Held P) (nodes : FinMap path_cmp Node) where
  abbrev pub Rows : Type 0
  Rows = List (List ℕ × Node)

  abbrev has : List ℕ × Node → Bool
  has row = list_any (λ (entry : HeldEntry P). same_id8 entry.0 row.1.id) h.chunks

  abbrev changed_in : Rows → List ChangedArray
  changed_in es = filter_map array_of_row (filter has es)

  -- each of them is one
  one-changed : (row : List ℕ × Node) (rest : List ChangedArray) → get (nodes_over h nodes) row.0 ≡ Some row.1 → has row ≡ true → AllByRecursion (IsChanged h nodes) rest
      → (o : Option ArrayView) → array_in row.1.text ≡ o → AllByRecursion (IsChanged h nodes) (cons_option (option_map (λ (array : ArrayView). array_of row.0 row.1 array) o) rest)
  one-changed row rest f t all None e = all
  one-changed row rest f t all (Some array) e = (record { node = row.1; found = f; same = refl; array = array; array_is = e; rank = refl; has = t }, all)

  all-changed : (es : Rows) → T (is_sorted path_cmp es) → ((p : List ℕ) (n : Node) → finmap.find path_cmp p es ≡ Some n → get (nodes_over h nodes) p ≡ Some n) → AllByRecursion (IsChanged h nodes) (changed_in es)
  all-changed [] sorted each = tt
  all-changed (e ∷ es) sorted each =
      let rest = all-changed es (tail_sorted e es sorted) (λ p n f. each p n (found_later e es p n (head_below e es sorted) f)) in
      let here : get (nodes_over h nodes) e.0 ≡ Some e.1 = each e.0 e.1 (ap (λ b. cond b (Some e.1) (finmap.find path_cmp e.0 es)) (same_path-refl e.0)) in
      elim (has e) as (λ b. has e ≡ b → AllByRecursion (IsChanged h nodes) (filter_map array_of_row (cond b (e ∷ filter has es) (filter has es)))) [
        | true ↦ λ t. one-changed e (changed_in es) here t rest (array_in e.1.text) refl
        | false ↦ λ t. rest
      ] refl

  pub each-changed : AllByRecursion (IsChanged h nodes) (changed_arrays h nodes)
  each-changed = all-changed (entries (nodes_over h nodes)) (entries_sorted (nodes_over h nodes)) (λ p n f. get-entries (nodes_over h nodes) p ∙ f)

  -- and each that has entries is among them
  later-option : (x : ChangedArray) (o : Option ChangedArray) (xs : List ChangedArray) → Among xs x → Among (cons_option o xs) x
  later-option x None xs a = a
  later-option x (Some y) xs a = inr a

  later-among : (x : ChangedArray) (e : List ℕ × Node) (es : Rows) (b : Bool) → Among (changed_in es) x → Among (filter_map array_of_row (cond b (e ∷ filter has es) (filter has es))) x
  later-among x e es true a = later-option x (array_of_row e) (changed_in es) a
  later-among x e es false a = a

  found-among : (es : Rows) (p : List ℕ) (n : Node) (array : ArrayView) → finmap.find path_cmp p es ≡ Some n → array_in n.text ≡ Some array → has_chunks h.chunks n.id ≡ true → Among (changed_in es) (array_of p n array)
  found-among [] p n array f a t = cc
  found-among (e ∷ es) p n array f a t = elim (same_path p e.0) as (λ b. same_path p e.0 ≡ b → cond b (Some e.1) (finmap.find path_cmp p es) ≡ Some n → Among (changed_in (e ∷ es)) (array_of p n array)) [
    | true ↦ λ s k.
        let node : e.1 ≡ n = cc in
        let path : p ≡ e.0 = same_path-true p e.0 s in
        subst (λ (m : Node). Among (changed_in (e ∷ es)) (array_of p m array)) node
        (subst (λ (q : List ℕ). Among (changed_in (e ∷ es)) (array_of q e.1 array)) (sym path)
        (here e es array (subst (λ (m : Node). array_in m.text ≡ Some array) (sym node) a) (subst (λ (m : Node). has_chunks h.chunks m.id ≡ true) (sym node) t)))
    | false ↦ λ s k. later-among (array_of p n array) e es (has e) (found-among es p n array k a t)
  ] refl f
    where
      here : (e : List ℕ × Node) (es : Rows) (array : ArrayView) → array_in e.1.text ≡ Some array → has e ≡ true → Among (changed_in (e ∷ es)) (array_of e.0 e.1 array)
      here e es array a t =
          subst (λ (b : Bool). Among (filter_map array_of_row (cond b (e ∷ filter has es) (filter has es))) (array_of e.0 e.1 array)) (sym t)
          (subst (λ (o : Option ArrayView). Among (cons_option (option_map (λ (x : ArrayView). array_of e.0 e.1 x) o) (changed_in es)) (array_of e.0 e.1 array)) (sym a) (inl refl))

  pub array-among : (p : List ℕ) (n : Node) (array : ArrayView) → get (nodes_over h nodes) p ≡ Some n → array_in n.text ≡ Some array → has_chunks h.chunks n.id ≡ true → Among (changed_arrays h nodes) (array_of p n array)
  array-among p n array f a t = found-among (entries (nodes_over h nodes)) p n array (sym (get-entries (nodes_over h nodes) p) ∙ f) a t

-- ---- the new list at a path
module _ (puts : Puts) (h : Held Place) (rows : List NodeRow) where
  abbrev nodes : FinMap path_cmp Node
  nodes = nodes_in rows

  pub record FoundList (p : List ℕ) (n : NewList) : Type 0 where
    pub array : ChangedArray
    pub changed : IsChanged h (nodes_in rows) array
    pub path : array.path ≡ p
    pub list : Rewritten puts rows h.chunks array n.manifest

  pub found-list : (arrays : List ChangedArray) (news : List NewList) → AreListsOf puts rows h.chunks arrays news → AllByRecursion (IsChanged h (nodes_in rows)) arrays → (p : List ℕ) (n : NewList) → find (λ (x : NewList). same_path x.path p) news ≡ Some n → FoundList p n
  found-list [] [] z all p n f = cc
  found-list [] (x ∷ xs) z all p n f = absurd z
  found-list (a ∷ az) [] z all p n f = absurd z
  found-list (a ∷ az) (x ∷ xs) z all p n f = elim (same_path x.path p) as (λ b. same_path x.path p ≡ b → cond b (Some x) (find (λ (y : NewList). same_path y.path p) xs) ≡ Some n → FoundList p n) [
    | true ↦ λ s k. let is : x ≡ n = cc in subst (FoundList p) is (record { array = a; changed = all.0; path = sym z.0.path ∙ same_path-true x.path p s; list = z.0.list })
    | false ↦ λ s k. found-list az xs z.1 all.1 p n k
  ] refl f

  none-list : (arrays : List ChangedArray) (news : List NewList) → AreListsOf puts rows h.chunks arrays news → (p : List ℕ) (a : ChangedArray) → Among arrays a → a.path ≡ p → find (λ (x : NewList). same_path x.path p) news ≡ None → ⊥
  none-list [] [] z p a m e f = absurd m
  none-list [] (x ∷ xs) z p a m e f = absurd z
  none-list (b ∷ bs) [] z p a m e f = absurd z
  none-list (b ∷ bs) (x ∷ xs) z p a m e f = elim (same_path x.path p) as (λ t. same_path x.path p ≡ t → cond t (Some x) (find (λ (y : NewList). same_path y.path p) xs) ≡ None → ⊥) [
    | true ↦ λ s k. cc
    | false ↦ λ s k. elim m [
      | inl same ↦
          let path : x.path ≡ p = z.0.path ∙ ap (λ (c : ChangedArray). c.path) same ∙ e in
          let yes_it : same_path x.path p ≡ true = subst (λ (q : List ℕ). same_path x.path q ≡ true) path (same_path-refl x.path) in
          cc
      | inr later ↦ none-list bs xs z.1 p a later e k
    ]
  ] refl f

  -- ---- the new lists are what the changes ask for
  pub are-merged : (news : List NewList) → AreListsOf puts rows h.chunks (changed_arrays h (nodes_in rows)) news → AreMerged puts h rows news
  are-merged news z = record { written = written; others = others }
    where
      none-where : (p : List ℕ) (n : Node) → get (nodes_over h (nodes_in rows)) p ≡ Some n → ((array : ArrayView) → array_in n.text ≡ Some array → has_chunks h.chunks n.id ≡ true → ⊥) → new_list news p ≡ None
      none-where p n found never = by_list (find (λ (x : NewList). same_path x.path p) news) refl
        where
          by_list : (o : Option NewList) → find (λ (x : NewList). same_path x.path p) news ≡ o → option_map (λ (x : NewList). refs_of x.manifest) o ≡ None
          by_list None e = refl
          by_list (Some x) e =
              let l = found-list (changed_arrays h (nodes_in rows)) news z (each-changed h (nodes_in rows)) p x e in
              let node : l.changed.node ≡ n = cc (sym l.changed.found ∙ ap (get (nodes_over h (nodes_in rows))) l.path ∙ found) in
              absurd (never l.changed.array (subst (λ (m : Node). array_in m.text ≡ Some l.changed.array) node l.changed.array_is) (subst (λ (m : Node). has_chunks h.chunks m.id ≡ true) node l.changed.has))

      others : (p : List ℕ) (n : Node) → get (nodes_over h (nodes_in rows)) p ≡ Some n → (is_array n.text && has_chunks h.chunks n.id) ≡ false → new_list news p ≡ None
      others p n found none_has = none-where p n found (λ array a t. let both : (is_array n.text && has_chunks h.chunks n.id) ≡ true = rw (a, t) refl in cc)

      written : (p : List ℕ) (n : Node) (array : ArrayView) → get (nodes_over h (nodes_in rows)) p ≡ Some n → array_in n.text ≡ Some array → has_chunks h.chunks n.id ≡ true → HasMerged puts h rows news p n (length array.shape)
      written p n array found a t = by_list (find (λ (x : NewList). same_path x.path p) news) refl
        where
          by_list : (o : Option NewList) → find (λ (x : NewList). same_path x.path p) news ≡ o → HasMerged puts h rows news p n (length array.shape)
          by_list None e = absurd (none-list (changed_arrays h (nodes_in rows)) news z p (array_of p n array) (array-among h (nodes_in rows) p n array found a t) refl e)
          by_list (Some x) e =
              let l = found-list (changed_arrays h (nodes_in rows)) news z (each-changed h (nodes_in rows)) p x e in
              let node : l.changed.node ≡ n = cc (sym l.changed.found ∙ ap (get (nodes_over h (nodes_in rows))) l.path ∙ found) in
              let view : l.changed.array ≡ array = cc (sym l.changed.array_is ∙ ap (λ (m : Node). array_in m.text) node ∙ a) in
              let id : l.array.node ≡ n.id = sym l.changed.same ∙ ap (λ (m : Node). m.id) node in
              let rank : l.array.rank ≡ length array.shape = sym l.changed.rank ∙ ap (λ (v : ArrayView). length v.shape) view in
              record {
                refs = refs_of x.manifest;
                has = ap (option_map (λ (y : NewList). refs_of y.manifest)) e;
                gives = λ i.
                    let new : listed puts (refs_of x.manifest) ≡ l.list.new = read-listed puts (refs_of x.manifest) l.list.new l.list.is in
                    let own : own_manifests rows l.array.path l.array.node ≡ own_manifests rows p n.id = λ j. own_manifests rows (l.path j) (id j) in
                    let old : listed puts (own_manifests rows p n.id) ≡ l.list.old = ap (listed puts) (sym own) ∙ read-listed puts (own_manifests rows l.array.path l.array.node) l.list.old l.list.was in
                    (λ j. chunk_place (sym rank j) (sym id j) i (new j)) ∙ l.list.same i ∙ (λ j. merged (rank j) (id j) (sym old j) (chunks_of h.chunks (id j)) i);
              }

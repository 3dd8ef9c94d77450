-- The rows under changes name manifests that the base's rows name, and new ones.
use Rattle.std.proofs.Common.{◌≡◌, ℕ, zero, suc, ◌<◌, length, ◌⊎◌, inl, inr, Bool, true, false, cond, List, [], ◌∷◌, arith, subst, refl, ap, Option, Some, None}
use Rattle.std.specs.Prelude.{find}
use Rattle.std.specs.List.{Contains, AllByRecursion, slice_index_or}
use Rattle.std.specs.Str.{bytes_eq}
use Rattle.std.proofs.lemmas.List.Elements.{All-contains, All-from_recursion}
use Rattle.ice_ids.specs.declared.Id12.{Id12}
use Rattle.ice_ids.specs.Text.{same_id8}
use Rattle.zarr_path.specs.Paths.{same_path}
use Rattle.zarr_meta.specs.declared.views.ArrayView.{ArrayView}
use Rattle.zarr_tree.specs.Nodes.{Node, array_in}
use Rattle.zarr_tree.proofs.Maps.{Path}
use Rattle.snapshot_file.specs.declared.nodes.ManifestRef.{ManifestRef}
use Rattle.snapshot_file.specs.declared.nodes.NodeRow.{NodeRow}
use Rattle.snapshot_file.specs.Snapshots.{manifests_named}
use Rattle.repo_objects.specs.Trees.{NamesManifest, row_at}
use Rattle.changed_snapshot.specs.declared.new_snapshot.NewList.{NewList}
use Rattle.changed_snapshot.specs.declared.new_snapshot.NewManifest.{NewManifest}
use Rattle.changed_snapshot.specs.Rows.{refs_of, kind_of, row_of, row_from, rows_over}
use Rattle.changed_snapshot.specs.Laws.{IsNew, OwnLaw}
use Rattle.changed_snapshot.proofs.Found.{by_list, all_over}

-- ---- what is found is there
further : {X : Type 0} (y x : X) (ys : List X) → Contains ys x → Contains (y ∷ ys) x
further y x ys c = (suc c.0, omega (arith, c.1), c.2)

found_step : {X : Type 0} (b : Bool) (y x : X) (ys : List X) (rest : Option X) → (rest ≡ Some x → Contains ys x) → cond b (Some y) rest ≡ Some x → Contains (y ∷ ys) x
found_step true y x ys rest h e = let same : y ≡ x = cc in subst (λ z. Contains (y ∷ ys) z) same (0, omega arith, refl)
found_step false y x ys rest h e = further y x ys (h e)

pub found_there : {X : Type 0} (test : X → Bool) (xs : List X) (x : X) → find test xs ≡ Some x → Contains xs x
found_there test [] x e = cc
found_there test (y ∷ ys) x e = found_step (test y) y x ys (find test ys) (found_there test ys x) e

-- the one element
the_one : {X : Type 0} (y x : X) → Contains (y ∷ []) x → y ≡ x
the_one y x c = at c.0 c.1 c.2
  where
    at : (k : ℕ) → k < length (y ∷ []) → slice_index_or (y ∷ []) k x ≡ x → y ≡ x
    at zero lt e = e
    at (suc k) lt e = absurd (omega (arith, lt))

module _ (news : List NewList) (rows : List NodeRow) where
  -- what a row names, the base's rows name, or it is new
  abbrev Given : Id12 → Type 0
  Given id = NamesManifest rows id ⊎ IsNew news id

  abbrev Known : NodeRow → Type 0
  Known row = (m : ManifestRef) → Contains (manifests_named row.kind) m → Given m.id

  none_named : (m : ManifestRef) → Contains [] m → Given m.id
  none_named m c = absurd (omega (arith, c.1))

  written_known : (p : Path) (n : Node) (array : Option ArrayView) (manifests : List ManifestRef) → ((m : ManifestRef) → Contains manifests m → Given m.id) → Known (record { id = n.id; path = p; user_data = n.text; kind = kind_of array manifests })
  written_known p n None manifests k = none_named
  written_known p n (Some array) manifests k = k

  from_known : (p : Path) (n : Node) (old : Option NodeRow) → ((row : NodeRow) → old ≡ Some row → Contains rows row) → Known (row_from p n old)
  from_known p n None among = written_known p n (array_in n.text) [] none_named
  from_known p n (Some row) among = elim (same_id8 row.id n.id) as (λ b. Known (cond b (cond (bytes_eq row.user_data n.text) row (row_of p n (manifests_named row.kind))) (row_of p n []))) [
    | true ↦ elim (bytes_eq row.user_data n.text) as (λ b. Known (cond b row (row_of p n (manifests_named row.kind)))) [
      | true ↦ named
      | false ↦ written_known p n (array_in n.text) (manifests_named row.kind) named
    ]
    | false ↦ written_known p n (array_in n.text) [] none_named
  ]
    where
      named : Known row
      named m c = inl (record { row = row; among = among row refl; manifest = m; named = c; is = refl })

  new_known : (list : NewList) → Contains news list → (o : Option NewManifest) → list.manifest ≡ o → (m : ManifestRef) → Contains (refs_of o) m → Given m.id
  new_known list among None e m c = none_named m c
  new_known list among (Some manifest) e m c =
      let same = the_one (record { id = manifest.id; extents = manifest.extents }) m c in
      inr (record { list = list; among = among; manifest = manifest; has = e; is = ap (λ (r : ManifestRef). r.id) same })

pub own-law : OwnLaw
own-law h news rows id n =
    let all : AllByRecursion (Known news rows) (rows_over h news rows) = all_over (Known news rows) h news rows (λ p node f.
    by_list news rows (Known news rows) p node
    (from_known news rows p node (row_at rows p) (found_there (λ (row : NodeRow). same_path row.path p) rows))
    (λ list there. written_known news rows p node (array_in node.text) (refs_of list.manifest) (new_known news rows list (found_there (λ (new : NewList). same_path new.path p) news list there) list.manifest refl)))
    in
    let known : Known news rows n.row = All-contains (Known news rows) (rows_over h news rows) n.row (All-from_recursion (Known news rows) (rows_over h news rows) all) n.among in
    subst (Given news rows) n.is (known n.manifest n.named)

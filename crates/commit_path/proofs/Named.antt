-- Which manifests the base's rows name.
use Rattle.std.proofs.Common.{◌≡◌, ℕ, Bool, true, false, cond, List, [], arith, subst, refl, Option, Some, None}
use Rattle.std.specs.List.{Contains, AllByRecursion}
use Rattle.std.proofs.lemmas.List.Elements.{All-contains, All-from_recursion}
use Rattle.ice_ids.specs.declared.Id8.{Id8}
use Rattle.ice_ids.specs.Text.{same_id8}
use Rattle.zarr_path.specs.Paths.{same_path}
use Rattle.snapshot_file.specs.declared.nodes.ManifestRef.{ManifestRef}
use Rattle.snapshot_file.specs.declared.nodes.NodeKind.{NodeKind}
use Rattle.snapshot_file.specs.declared.nodes.NodeKind.TheVariants.{Group, Array}
use Rattle.snapshot_file.specs.declared.nodes.NodeRow.{NodeRow}
use Rattle.snapshot_file.specs.Layout.{IsExtent, IsNode, IsKind}
use Rattle.snapshot_file.specs.Layout as layout
use Rattle.snapshot_file.specs.Snapshots.{manifests_named}
use Rattle.repo_objects.specs.Trees.{NamesManifest, row_at}
use Rattle.store_api.proofs.SameTree.{find-contains}
use Rattle.changed_snapshot.proofs.Found.{row_has}
use Rattle.session.specs.Sessions.{SessionState}
use Rattle.commit_path.specs.Spelled.{IsSpelled}
use Rattle.changed_snapshot.specs.Rows.{manifests_for, own_manifests}

none-there : {A : Type 0} (m : A) → ¬ Contains [] m
none-there m c = absurd (omega (arith, c.1))

-- the manifests of a row that is found
own-row : (rows : List NodeRow) (node : Id8) (o : Option NodeRow) (m : ManifestRef) → Contains (manifests_for node o) m → (row : NodeRow) × (o ≡ Some row) × Contains (manifests_named row.kind) m
own-row rows node None m c = absurd (none-there m c)
own-row rows node (Some row) m c = by_id (same_id8 row.id node) c
  where
    by_id : (b : Bool) → Contains (cond b (manifests_named row.kind) []) m → (r : NodeRow) × (Some row ≡ Some r) × Contains (manifests_named r.kind) m
    by_id true c = (row, refl, c)
    by_id false c = absurd (none-there m c)

-- the rows name a node's own manifests
pub own-named : (rows : List NodeRow) (p : List ℕ) (node : Id8) (m : ManifestRef) → Contains (own_manifests rows p node) m → NamesManifest rows m.id
own-named rows p node m c =
    let r = own-row rows node (row_at rows p) m c in
    record { row = r.0; among = find-contains (λ (row : NodeRow). same_path row.path p) rows r.0 r.1; manifest = m; named = r.2; is = refl }

kind-sized : (kind : NodeKind) (m : ManifestRef) → IsKind kind → Contains (manifests_named kind) m → layout.IsManifest m
kind-sized Group m k c = absurd (none-there m c)
kind-sized (Array shape names manifests) m k c = All-contains layout.IsManifest manifests m (All-from_recursion layout.IsManifest manifests k.manifests_are) c

-- and their extents have their widths
pub own-sized : (s : SessionState) → IsSpelled s → (p : List ℕ) (node : Id8) (m : ManifestRef) → Contains (own_manifests s.rows p node) m → AllByRecursion IsExtent m.extents
own-sized s w p node m c =
    let r = own-row s.rows node (row_at s.rows p) m c in
    let all : AllByRecursion IsNode s.rows = subst (AllByRecursion IsNode) w.of_snapshot.rows w.of_snapshot.proper.sized.nodes in
    (kind-sized r.0.kind m (row_has IsNode s.rows p r.0 all r.1).kind r.2).extents

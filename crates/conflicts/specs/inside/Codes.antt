-- Codes of what the code keeps of both sides, by which proofs tell such values apart;
-- no public contract cites this.
use Rattle.std.specs.Prelude.{ℕ, List, refl}
use Rattle.std.specs.Coded.{Coded, coded×, coded_list, code_by}
use Rattle.std.specs.FinMap.{FinMap, code}
use Rattle.ice_ids.specs.declared.Id8.{Id8}
use Rattle.zarr_path.specs.Paths.{path_cmp}
use Rattle.manifest_file.specs.declared.manifest.Place.{Place}
use Rattle.zarr_tree.specs.declared.lists.ArrayChunks.{ArrayChunks}
use Rattle.zarr_tree.specs.declared.lists.Touched.{Touched}
use Rattle.zarr_tree.specs.Codes.{coded_path, coded_node}
use Rattle.zarr_tree.specs.Nodes.{Node}
use Rattle.zarr_tree.specs.Held.{Held}
use Rattle.zarr_changes.specs.Codes.{coded_id, coded_place, coded_held}
use Rattle.conflicts.specs.Found.{Sides}

abbrev pub Ids : Type 0
Ids = List Id8

abbrev pub coded_ids : Coded Ids
coded_ids = coded_list coded_id

abbrev pub coded_array : Coded ArrayChunks
coded_array =
    code_by (Id8 × List (List ℕ)) (coded× coded_id (coded_list coded_path))
    (λ a. (a.node, a.chunks)) (λ p. record { node = p.0; chunks = p.1 }) (λ _. refl)

abbrev pub Lists : Type 0
Lists = (Ids × Ids) × ((Ids × Ids) × ((Ids × Ids) × List ArrayChunks))

abbrev pub coded_touched : Coded Touched
coded_touched = code_by Lists
    (coded× (coded× coded_ids coded_ids)
    (coded× (coded× coded_ids coded_ids)
    (coded× (coded× coded_ids coded_ids) (coded_list coded_array))))
    (λ s. (
      (s.new_groups, s.new_arrays),
      (
        (s.deleted_groups, s.deleted_arrays),
        ((s.updated_arrays, s.updated_groups), s.updated_chunks),
      ),
    ))
    (λ p. record {
      new_groups = p.0.0;
      new_arrays = p.0.1;
      deleted_groups = p.1.0.0;
      deleted_arrays = p.1.0.1;
      updated_arrays = p.1.1.0.0;
      updated_groups = p.1.1.0.1;
      updated_chunks = p.1.1.1;
    })
    (λ _. refl)

abbrev pub Nodes : Type 0
Nodes = FinMap path_cmp Node

abbrev pub coded_nodes : Coded Nodes
coded_nodes = code coded_path coded_node

abbrev pub coded_sides : Coded Sides
coded_sides = code_by ((Held Place × Touched) × (Nodes × Nodes))
    (coded× (coded× (coded_held coded_place) coded_touched) (coded× coded_nodes coded_nodes))
    (λ s. ((s.held, s.theirs), (s.before, s.after)))
    (λ p. record { held = p.0.0; theirs = p.0.1; before = p.1.0; after = p.1.1 })
    (λ _. refl)

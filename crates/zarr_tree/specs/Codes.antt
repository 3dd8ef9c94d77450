-- Codes of paths and nodes, by which proofs tell them apart.
use Rattle.std.specs.Prelude.{ℕ, List, refl}
use Rattle.std.specs.Coded.{Coded, coded_ℕ, coded×, coded_list, code_by}
use Rattle.zarr_tree.specs.Nodes.{Node}

abbrev pub coded_path : Coded (List ℕ)
coded_path = coded_list coded_ℕ

abbrev pub coded_node : Coded Node
coded_node =
    code_by (List ℕ × List ℕ) (coded× coded_path coded_path) (λ n. (n.id.0, n.text))
    (λ p. record { id = record { 0 = p.0 }; text = p.1 }) (λ _. refl)

-- Codes of places and of what is held, by which proofs tell them apart.
use Rattle.std.specs.Prelude.{◌≡◌, ◌⊎◌, ℕ, List, Option, refl}
use Rattle.std.specs.Coded.{Coded, coded_ℕ, coded×, coded⊎, coded_list, coded_option, code_by}
use Rattle.std.specs.FinMap.{FinMap, code}
use Rattle.std.proofs.Common.{inl, inr}
use Rattle.ice_ids.specs.declared.Id8.{Id8}
use Rattle.zarr_path.specs.Paths.{path_cmp}
use Rattle.manifest_file.specs.declared.manifest.Place.{Place}
use Rattle.manifest_file.specs.declared.manifest.Place.TheVariants.{Inline, Object}
use Rattle.zarr_tree.specs.Codes.{coded_path, coded_node}
use Rattle.zarr_tree.specs.Nodes.{Node}
use Rattle.zarr_tree.specs.Held.{Held, HeldEntry}

abbrev pub coded_id : Coded Id8
coded_id = code_by (List ℕ) coded_path (λ id. id.0) (λ bytes. record { 0 = bytes }) (λ _. refl)

abbrev pub Parts : Type 0
Parts = List ℕ ⊎ (List ℕ × ℕ × ℕ)

abbrev pub parts_of : Place → Parts
parts_of (Inline bytes) = inl bytes
parts_of (Object id offset length) = inr (id.0, offset, length)

abbrev pub place_of : Parts → Place
place_of (inl bytes) = Inline bytes
place_of (inr p) = Object (record { 0 = p.0 }) p.1 p.2

pub place-parts : (p : Place) → place_of (parts_of p) ≡ p
place-parts (Inline bytes) = refl
place-parts (Object id offset length) = refl

abbrev pub coded_number_pair : Coded (ℕ × ℕ)
coded_number_pair = coded× coded_ℕ coded_ℕ

abbrev pub coded_triple : Coded (List ℕ × ℕ × ℕ)
coded_triple =
    code_by (List ℕ × (ℕ × ℕ)) (coded× coded_path coded_number_pair) (λ t. (t.0, (t.1, t.2)))
    (λ p. (p.0, p.1.0, p.1.1)) (λ _. refl)

abbrev pub coded_place : Coded Place
coded_place = code_by Parts (coded⊎ coded_path coded_triple) parts_of place_of place-parts

module _ {P : Type 0} (coded_p : Coded P) where
  abbrev pub coded_entry : Coded (HeldEntry P)
  coded_entry =
      code_by (Id8 × (List ℕ × Option P))
      (coded× coded_id (coded× coded_path (coded_option coded_p))) (λ e. (e.0, (e.1, e.2)))
      (λ p. (p.0, p.1.0, p.1.1)) (λ _. refl)

  abbrev pub HeldParts : Type 0
  HeldParts = (List Id8 × FinMap path_cmp Node) × (List (Id8 × List ℕ) × List (HeldEntry P))

  abbrev pub coded_held : Coded (Held P)
  coded_held = code_by HeldParts
      (coded× (coded× (coded_list coded_id) (code coded_path coded_node))
      (coded× (coded_list (coded× coded_id coded_path)) (coded_list coded_entry)))
      (λ h. ((h.dropped, h.added), (h.metas, h.chunks)))
      (λ p. record { dropped = p.0.0; added = p.0.1; metas = p.1.0; chunks = p.1.1 })
      (λ _. refl)

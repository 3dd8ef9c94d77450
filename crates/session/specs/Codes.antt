-- Codes of rows and of sessions, by which proofs tell them apart.
use Rattle.std.specs.Prelude.{◌≡◌, ℕ, zero, suc, List, [], Option, Some, None, refl}
use Rattle.std.specs.Coded.{Coded, coded_ℕ, coded×, coded_list, coded_option, code_by}
use Rattle.ice_ids.specs.declared.drawing.AnyIds.{AnyIds}
use Rattle.ice_ids.specs.declared.drawing.AnyIds.TheVariants.{Count, Stream}
use Rattle.manifest_file.specs.declared.manifest.Place.{Place}
use Rattle.snapshot_file.specs.declared.nodes.ManifestRef.{ManifestRef}
use Rattle.snapshot_file.specs.declared.nodes.NodeKind.{NodeKind}
use Rattle.snapshot_file.specs.declared.nodes.NodeKind.TheVariants.{Group, Array}
use Rattle.snapshot_file.specs.declared.nodes.NodeRow.{NodeRow}
use Rattle.snapshot_file.specs.declared.snapshot.ManifestInfo.{ManifestInfo}
use Rattle.zarr_tree.specs.Codes.{coded_path}
use Rattle.zarr_tree.specs.Held.{Held}
use Rattle.zarr_changes.specs.Codes.{coded_held, coded_place}
use Rattle.session.specs.declared.origin.Origin.{Origin}
use Rattle.session.specs.declared.origin.Origin.TheVariants.{Writes, ReadsBranch, ReadsTag, ReadsId}
use Rattle.session.specs.Sessions.{SessionState}

-- ---- rows
abbrev pub Pairs : Type 0
Pairs = List (ℕ × ℕ)

abbrev pub coded_pairs : Coded Pairs
coded_pairs = coded_list (coded× coded_ℕ coded_ℕ)

abbrev pub coded_named : Coded ManifestRef
coded_named =
    code_by (List ℕ × Pairs) (coded× coded_path coded_pairs) (λ m. (m.id.0, m.extents))
    (λ p. record { id = record { 0 = p.0 }; extents = p.1 }) (λ _. refl)

abbrev pub Dimensions : Type 0
Dimensions = Pairs × (Option (List (Option (List ℕ))) × List ManifestRef)

abbrev pub coded_dimensions : Coded Dimensions
coded_dimensions =
    coded× coded_pairs
    (coded× (coded_option (coded_list (coded_option coded_path))) (coded_list coded_named))

abbrev pub dimensions_of : NodeKind → Option Dimensions
dimensions_of Group = None
dimensions_of (Array shape names manifests) = Some (shape, (names, manifests))

abbrev pub kind_of : Option Dimensions → NodeKind
kind_of None = Group
kind_of (Some d) = Array d.0 d.1.0 d.1.1

pub same-kind : (kind : NodeKind) → kind_of (dimensions_of kind) ≡ kind
same-kind Group = refl
same-kind (Array shape names manifests) = refl

abbrev pub coded_kind : Coded NodeKind
coded_kind =
    code_by (Option Dimensions) (coded_option coded_dimensions) dimensions_of kind_of same-kind

abbrev pub coded_row : Coded NodeRow
coded_row =
    code_by (List ℕ × (List ℕ × (List ℕ × NodeKind)))
    (coded× coded_path (coded× coded_path (coded× coded_path coded_kind)))
    (λ row. (row.id.0, (row.path, (row.user_data, row.kind))))
    (λ p. record { id = record { 0 = p.0 }; path = p.1.0; user_data = p.1.1.0; kind = p.1.1.1 })
    (λ _. refl)

abbrev pub coded_file : Coded ManifestInfo
coded_file =
    code_by (List ℕ × (ℕ × ℕ)) (coded× coded_path (coded× coded_ℕ coded_ℕ))
    (λ file. (file.id.0, (file.size, file.refs)))
    (λ p. record { id = record { 0 = p.0 }; size = p.1.0; refs = p.1.1 }) (λ _. refl)

-- ---- sources of ids
abbrev pub Counts : Type 0
Counts = Option (List ℕ) × (ℕ × ℕ)

abbrev pub counts : AnyIds → Counts
counts (Count c) = (None, (c.client, c.counter))
counts (Stream c) = (Some c.seed, (c.client, c.counter))

abbrev pub ids_by : Option (List ℕ) → ℕ × ℕ → AnyIds
ids_by None p = Count (record { client = p.0; counter = p.1 })
ids_by (Some seed) p = Stream (record { seed = seed; client = p.0; counter = p.1 })

pub same-ids : (ids : AnyIds) → ids_by (counts ids).0 (counts ids).1 ≡ ids
same-ids (Count c) = refl
same-ids (Stream c) = refl

abbrev pub coded_ids : Coded AnyIds
coded_ids =
    code_by Counts (coded× (coded_option coded_path) (coded× coded_ℕ coded_ℕ)) counts
    (λ p. ids_by p.0 p.1) same-ids

-- ---- sessions
-- the kind of an origin, the name of its ref, and the version
abbrev pub Named : Type 0
Named = ℕ × (List ℕ × ℕ)

abbrev pub named_of : Origin → Named
named_of (Writes tip) = (0, (tip.branch, tip.version.0))
named_of (ReadsBranch tip) = (1, (tip.branch, tip.version.0))
named_of (ReadsTag name) = (2, (name, 0))
named_of ReadsId = (3, ([], 0))

abbrev pub origin_by : ℕ → List ℕ × ℕ → Origin
origin_by zero p = Writes (record { branch = p.0; version = record { 0 = p.1 } })
origin_by (suc zero) p = ReadsBranch (record { branch = p.0; version = record { 0 = p.1 } })
origin_by (suc (suc zero)) p = ReadsTag p.0
origin_by _ p = ReadsId

pub same-origin : (origin : Origin) → origin_by (named_of origin).0 (named_of origin).1 ≡ origin
same-origin (Writes tip) = refl
same-origin (ReadsBranch tip) = refl
same-origin (ReadsTag name) = refl
same-origin ReadsId = refl

abbrev pub coded_origin : Coded Origin
coded_origin =
    code_by Named (coded× coded_ℕ (coded× coded_path coded_ℕ)) named_of
    (λ p. origin_by p.0 p.1) same-origin

abbrev pub Opened : Type 0
Opened = Origin × List ℕ

abbrev pub Props : Type 0
Props = List (List ℕ × List ℕ)

abbrev pub Changed : Type 0
Changed = (List NodeRow × List ManifestInfo) × (Held Place × (Props × AnyIds))

abbrev pub coded_session : Coded SessionState
coded_session =
    code_by (Opened × Changed)
    (coded× (coded× coded_origin coded_path)
    (coded× (coded× (coded_list coded_row) (coded_list coded_file))
    (coded× (coded_held coded_place)
    (coded× (coded_list (coded× coded_path coded_path)) coded_ids))))
    (λ s. ((s.origin, s.base.0), ((s.rows, s.files), (s.held, (s.props, s.ids)))))
    (λ p. record {
      origin = p.0.0;
      base = record { 0 = p.0.1 };
      rows = p.1.0.0;
      files = p.1.0.1;
      held = p.1.1.0;
      props = p.1.1.1.0;
      ids = p.1.1.1.1;
    })
    (λ _. refl)

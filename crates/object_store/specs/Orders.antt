-- The order of keys: by part, and within a part that of a listing.
use Rattle.std.specs.Prelude.{ℕ}
use Rattle.std.specs.Cmp.{IsTotalOrder, then_total, on_total, nat_cmp_total}
use Rattle.std.specs.Cmp.Lexicographic.{nat_list_cmp_total}
use Rattle.std.specs.declared.cmp.Ordering.{Ordering}
use Rattle.std.specs.Ordering.{nat_cmp, ordering_then}
use Rattle.object_store.specs.declared.keys.Key.{Key}
use Rattle.object_store.specs.declared.keys.Part.{Part}
use Rattle.object_store.specs.declared.keys.Part.TheVariants.{Snapshots, Manifests, Txns}
use Rattle.object_store.specs.declared.keys.Part.TheVariants.{Chunks, Branches, Tags, Leases}
use Rattle.object_store.specs.Machine.{part_of, name_of, rank_of, listing_cmp}

-- the place of a part among the parts
abbrev pub place_of : Part → ℕ
place_of Snapshots = 0
place_of Manifests = 1
place_of Txns = 2
place_of Chunks = 3
place_of Branches = 4
place_of Tags = 5
place_of Leases = 6

abbrev pub key_cmp : Key → Key → Ordering
key_cmp a b =
    ordering_then (nat_cmp (place_of (part_of a)) (place_of (part_of b))) (listing_cmp a b)

pub key_total : IsTotalOrder key_cmp
key_total =
    then_total (on_total (λ (key : Key). place_of (part_of key)) nat_cmp_total)
    (then_total (on_total name_of nat_list_cmp_total) (on_total rank_of nat_cmp_total))

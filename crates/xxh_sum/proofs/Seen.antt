-- The checksums of no byte and of three, as the reference gives them.
use Rattle.std.proofs.Common.{◌≡◌, refl, codes}
use Rattle.xxh_sum.specs.Sums.{sum_of, rest_summed, begun, striped, mixed, round, joined, merged, ended, eights, by_eight, by_four, ones, by_one, shaken}

of_three : sum_of (codes "abc") ≡ 0x44BC2CF5AD770999
unfolding sum_of rest_summed begun striped mixed round joined merged ended eights by_eight by_four ones by_one shaken
of_three = refl

of_many : sum_of (codes "The quick brown fox jumps over the lazy dog") ≡ 0x0B242D361FDA71BC
unfolding sum_of rest_summed begun striped mixed round joined merged ended eights by_eight by_four ones by_one shaken
of_many = refl

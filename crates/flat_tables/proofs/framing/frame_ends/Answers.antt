use Rattle.std.proofs.Common.{◌≡◌, ◌+◌, ◌*◌, ◌∙◌, ap, map, length, arith}
use Rattle.std.proofs.lemmas.List.{length-map}
use Rattle.flat_tables.specs.Layout.{all_beneath, gap_to, table_place}
use Rattle.flat_tables.specs.Frames.{frame_end, vector_begin, places}
use Rattle.flat_tables.specs.Trees.{part_of, capped}
use Rattle.flat_tables.proofs.Lengths.{parts_sized}
use Rattle.flat_tables.proofs.Frames.{ends_are}
use Rattle.flat_tables.proofs.framing.frame_ends.Goals as goal

pub returns : goal.returns
returns g c =
    let ps = map part_of c.args.before.now in
    let qs = map part_of c.args.after.now in
    let bs = g.S.TableSource.layouts c.args.tables.now in
    let v = vector_begin ps qs 4 in
    let count : length c.args.before.now + 1 + length c.args.after.now ≡ length ps + 1 + length qs = omega (arith, length-map c.args.before.now part_of, length-map c.args.after.now part_of) in
    let begin : c.root_place-place.result + c.frame_end.result ≡ frame_end ps qs 4 = λ i. (c.root_place-place.ensures.place ∙ ap (λ n. table_place n 4) count) i + c.frame_end.ensures.end i in
    let vector : c.all_end-vector.result ≡ capped v = c.all_end-vector.ensures ∙ ap (λ n. capped (n + length (all_beneath ps n))) begin in
    let offsets : c.offsets_end.result ≡ capped (c.all_end-vector.result + gap_to 4 (c.all_end-vector.result + 4) + 4 + 4 * length bs) = c.offsets_end.ensures ∙ ap (λ n. capped (c.all_end-vector.result + gap_to 4 (c.all_end-vector.result + 4) + 4 + 4 * n)) c.len.ensures in
    let ends = ends_are ps bs qs 4 c.all_end-vector.result c.offsets_end.result c.in_ok-places.places.end c.all_end-whole.result (parts_sized c.args.before.now) (parts_sized c.args.after.now) vector offsets c.in_ok-places.ensures.end c.all_end-whole.ensures in
    record {
      whole = ends.whole_is;
      ends = λ fits.
          let exact = ends.exact fits in
          record {
            places_are = c.in_ok-places.ensures.places (omega (arith, c.all_end-whole.ensures, fits)) ∙ ap (places bs) exact.0;
            within = (rw (← exact.0) c.in_ok-places.ensures.within);
            end_is = exact.1;
          };
      told = c.in_ok-places.ensures.told;
    }

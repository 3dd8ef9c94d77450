use Rattle.std.proofs.Common.{◌≡◌, ◌+◌, ◌++◌, ◌∙◌, ℕ, length, map, drop, option_map, refl, sym, ap, subst, arith}
use Rattle.std.specs.Prelude.{IsTrue}
use Rattle.flat_tables.specs.declared.flat.Flat.{Flat}
use Rattle.flat_tables.specs.Layout.{offsets}
use Rattle.flat_tables.specs.Trees.{layout, is_writable, behind_table}
use Rattle.flat_tables.proofs.Lengths.{exactly, flats_left, blocks_long, offset_more}
use Rattle.flat_tables.proofs.writing.put_offsets_from.Goals as goal

pub loop-flat-preserved : goal.loop-flat-preserved
loop-flat-preserved c =
    let flats = c.args.flats.now in
    let i = c.loop-flat.flat-index in
    let f = c.flat-item.result in
    let inv = c.loop-flat.invariant in
    let e : ℕ = behind_table (option_map (λ f. f.now) c.loop-flat.last) c.loop-flat.next in
    let n : ℕ = c.behind_table-next.result in
    let there : n ≡ e = exactly n e c.behind_table-next.ensures (omega (arith, inv.fits)) in
    let all = blocks_long flats i f e c.loop-flat-test.true c.flat-item.is in
    let left = flats_left flats i f c.loop-flat-test.true c.flat-item.is in
    let place : c.place_of.result ≡ (layout f).place n = omega (arith, c.place_of.ensures.place, c.place_of.ensures.small, there, inv.fits) in
    record {
      bytes = offset_more flats i f c.loop-flat.out.items c.push_u32.new.out.items c.loop-flat.at n c.place_of.result (n + length ((layout f).bytes n)) c.loop-flat-test.true c.flat-item.is place refl c.in_ok-push_u32.ensures
          ∙ ap (λ (e : ℕ). c.loop-flat.out.items ++ offsets (map layout (drop i flats)) c.loop-flat.at e) there ∙ inv.bytes;
      at = omega (arith, inv.at);
      before = omega (arith, left, there, inv.before);
      fits = rw there (omega (arith, all, inv.fits));
      writable = subst (λ (x : Flat). IsTrue (is_writable x)) (sym c.flat-item.is) (c.requires.writable i f c.loop-flat-test.true);
    }

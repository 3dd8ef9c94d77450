use Rattle.std.proofs.Common.{◌++◌, ◌≤◌, ◌∙◌, sym, ap, map, length, arith}
use Rattle.std.proofs.lemmas.Result.{on_ok_weaker}
use Rattle.std.proofs.lemmas.List.Elements.{All-same}
use Rattle.flat_tables.specs.Layout.{all_beneath, tables_block}
use Rattle.flat_tables.specs.Frames.{vector_begin, places, first_table}
use Rattle.flat_tables.specs.Trees.{part_of}
use Rattle.flat_tables.proofs.Lengths.{parts_sized}
use Rattle.flat_tables.proofs.Frames.{frame_bytes, frame_total, with_head, with_before, with_vector, four_parts}
use Rattle.flat_tables.proofs.framing.put_frame.Goals as goal

pub put_frame_head-requires-clause-fits : goal.put_frame_head-requires-clause-fits
put_frame_head-requires-clause-fits g c =
    let bs = g.S.TableSource.layouts c.args.tables.now in
    let total = frame_total (map part_of c.args.before.now) bs (map part_of c.args.after.now) (length c.args.out.now.items) (parts_sized c.args.before.now) (parts_sized c.args.after.now) in
    rw c.requires.ends.end_is (omega (arith, total, c.requires.fits))

pub put_all-requires-clause-fits : goal.put_all-requires-clause-fits
put_all-requires-clause-fits g c =
    let ps = map part_of c.args.before.now in
    let qs = map part_of c.args.after.now in
    let bs = g.S.TableSource.layouts c.args.tables.now in
    let old = c.args.out.now.items in
    let total = frame_total ps bs qs (length old) (parts_sized c.args.before.now) (parts_sized c.args.after.now) in
    let len = with_head ps bs qs old c.put_frame_head.new.out.items (parts_sized c.args.before.now) (parts_sized c.args.after.now) (c.in_ok-put_frame_head.ensures bs c.requires.ends.end_is) in
    rw len (omega (arith, total, c.requires.fits))

pub put_vector_of-requires-clause-places : goal.put_vector_of-requires-clause-places
put_vector_of-requires-clause-places g c =
    let ps = map part_of c.args.before.now in
    let qs = map part_of c.args.after.now in
    let bs = g.S.TableSource.layouts c.args.tables.now in
    let old = c.args.out.now.items in
    let one = with_head ps bs qs old c.put_frame_head.new.out.items (parts_sized c.args.before.now) (parts_sized c.args.after.now) (c.in_ok-put_frame_head.ensures bs c.requires.ends.end_is) in
    let two = with_before ps qs old c.put_frame_head.new.out.items c.put_all.new.out.items one c.in_ok-put_all.ensures in
    c.as_slice.ensures.value ∙ c.requires.ends.places_are ∙ ap (λ n. places bs (first_table (length bs) n)) (sym two)

pub put_vector_of-requires-clause-within : goal.put_vector_of-requires-clause-within
put_vector_of-requires-clause-within g c k d lt =
    let ps = map part_of c.args.before.now in
    let qs = map part_of c.args.after.now in
    let bs = g.S.TableSource.layouts c.args.tables.now in
    let old = c.args.out.now.items in
    let one = with_head ps bs qs old c.put_frame_head.new.out.items (parts_sized c.args.before.now) (parts_sized c.args.after.now) (c.in_ok-put_frame_head.ensures bs c.requires.ends.end_is) in
    let two = with_before ps qs old c.put_frame_head.new.out.items c.put_all.new.out.items one c.in_ok-put_all.ensures in
    let total = frame_total ps bs qs (length old) (parts_sized c.args.before.now) (parts_sized c.args.after.now) in
    let within = All-same (λ p. (first_table (length bs) (vector_begin ps qs (length old)) ≤ p) × (p ≤ c.args.places.now.end)) c.as_slice.result.now c.args.places.now.each.items c.as_slice.ensures.value c.requires.ends.within k d lt in
    (rw two within.0, omega (arith, within.1, c.requires.ends.end_is, total, c.requires.fits))

pub put_vector_of-requires-clause-fits : goal.put_vector_of-requires-clause-fits
put_vector_of-requires-clause-fits g c =
    let ps = map part_of c.args.before.now in
    let qs = map part_of c.args.after.now in
    let bs = g.S.TableSource.layouts c.args.tables.now in
    let old = c.args.out.now.items in
    let one = with_head ps bs qs old c.put_frame_head.new.out.items (parts_sized c.args.before.now) (parts_sized c.args.after.now) (c.in_ok-put_frame_head.ensures bs c.requires.ends.end_is) in
    let two = with_before ps qs old c.put_frame_head.new.out.items c.put_all.new.out.items one c.in_ok-put_all.ensures in
    let total = frame_total ps bs qs (length old) (parts_sized c.args.before.now) (parts_sized c.args.after.now) in
    rw two (omega (arith, total, c.requires.fits))

pub put_all-requires-2-clause-fits : goal.put_all-requires-2-clause-fits
put_all-requires-2-clause-fits g c =
    let ps = map part_of c.args.before.now in
    let qs = map part_of c.args.after.now in
    let bs = g.S.TableSource.layouts c.args.tables.now in
    let old = c.args.out.now.items in
    let one = with_head ps bs qs old c.put_frame_head.new.out.items (parts_sized c.args.before.now) (parts_sized c.args.after.now) (c.in_ok-put_frame_head.ensures bs c.requires.ends.end_is) in
    let two = with_before ps qs old c.put_frame_head.new.out.items c.put_all.new.out.items one c.in_ok-put_all.ensures in
    let three = with_vector ps bs qs old c.put_all.new.out.items c.put_vector_of.new.out.items two c.in_ok-put_vector_of.ensures in
    let total = frame_total ps bs qs (length old) (parts_sized c.args.before.now) (parts_sized c.args.after.now) in
    rw three (omega (arith, total, c.requires.fits))

pub returns : goal.returns
returns g c =
    let ps = map part_of c.args.before.now in
    let qs = map part_of c.args.after.now in
    let bs = g.S.TableSource.layouts c.args.tables.now in
    let old = c.args.out.now.items in
    let head = c.in_ok-put_frame_head.ensures bs c.requires.ends.end_is in
    let one = with_head ps bs qs old c.put_frame_head.new.out.items (parts_sized c.args.before.now) (parts_sized c.args.after.now) head in
    let two = with_before ps qs old c.put_frame_head.new.out.items c.put_all.new.out.items one c.in_ok-put_all.ensures in
    let three = with_vector ps bs qs old c.put_all.new.out.items c.put_vector_of.new.out.items two c.in_ok-put_vector_of.ensures in
    on_ok_weaker c.put_all-2.result (λ last.
    four_parts old c.put_frame_head.new.out.items c.put_all.new.out.items c.put_vector_of.new.out.items c.put_all-2.new.out.items _ _ _ _ head
    (c.in_ok-put_all.ensures ∙ ap (λ n. c.put_frame_head.new.out.items ++ all_beneath ps n) one)
    (c.in_ok-put_vector_of.ensures ∙ ap (λ n. c.put_all.new.out.items ++ (tables_block bs).bytes n) two)
    (last ∙ ap (λ n. c.put_vector_of.new.out.items ++ all_beneath qs n) three)
    ∙ ap (λ xs. old ++ xs) (sym (frame_bytes ps bs qs (length old)))) c.put_all-2.ensures

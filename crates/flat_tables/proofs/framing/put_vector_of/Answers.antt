use Rattle.std.proofs.Common.{◌∙◌, length, arith}
use Rattle.std.proofs.lemmas.Result.{on_ok_weaker}
use Rattle.flat_tables.specs.Layout.{blocks}
use Rattle.flat_tables.proofs.Lengths.{tables_length, tables_split, begun}
use Rattle.flat_tables.proofs.framing.put_vector_of.Goals as goal

pub put_vector_head-requires-clause-fits : goal.put_vector_head-requires-clause-fits
put_vector_head-requires-clause-fits g c = omega (arith, tables_length (g.S.TableSource.layouts c.args.tables.now) (length c.args.out.now.items), c.requires.fits)

pub put_each-requires : goal.put_each-requires
put_each-requires g c =
    let bs = g.S.TableSource.layouts c.args.tables.now in
    let old = c.args.out.now.items in
    let b = begun old c.put_vector_head.new.out.items _ (λ e. blocks bs e) _ c.in_ok-put_vector_head.ensures (tables_split bs (length old)) in
    omega (arith, b.len, c.requires.fits)

pub returns : goal.returns
returns g c =
    let bs = g.S.TableSource.layouts c.args.tables.now in
    let old = c.args.out.now.items in
    let b = begun old c.put_vector_head.new.out.items _ (λ e. blocks bs e) _ c.in_ok-put_vector_head.ensures (tables_split bs (length old)) in
    on_ok_weaker c.put_each.result (λ last. last ∙ b.bytes) c.put_each.ensures

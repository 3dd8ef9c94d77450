use Rattle.std.proofs.lemmas.Result.{on_ok_weaker}
use Rattle.snapshot_file.specs.Layout.{node_block, IsNode}
use Rattle.snapshot_file.proofs.Told.{each_told}
use Rattle.snapshot_file.proofs.writing.rows_payload.Goals as goal

pub returns-clause-sized : goal.returns-clause-sized
returns-clause-sized g c =
    let before = c.in_ok-before.ensures in
    let after = c.in_ok-after.ensures in
    on_ok_weaker c.framed_write.result (λ told. record {
      id = before.id;
      parent = before.parent;
      nodes = each_told IsNode node_block (g.S.RowSource.rows c.args.rows.now) told;
      flushed_at = after.flushed_at;
      message = after.message;
      props = after.props;
      files = after.files;
    }) c.framed_write.ensures.told

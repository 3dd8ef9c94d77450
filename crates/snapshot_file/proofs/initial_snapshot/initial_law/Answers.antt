use Rattle.std.proofs.Common.{refl}
use Rattle.flat_tables.specs.Header.{header}
use Rattle.flat_tables.specs.Layout.{payload, table_block, tables_block, text_block, vector_block}
use Rattle.snapshot_file.specs.Layout.{snapshot_block, snapshot_bytes}
use Rattle.snapshot_file.proofs.InitialLaws.{initial_again}
use Rattle.snapshot_file.proofs.initial_snapshot.initial_law.Goals as goal

pub returns-clause-written : goal.returns-clause-written
unfolding header payload table_block tables_block text_block vector_block snapshot_block snapshot_bytes
returns-clause-written c = refl

pub returns-clause-read : goal.returns-clause-read
unfolding header payload table_block tables_block text_block vector_block snapshot_block snapshot_bytes
returns-clause-read c = initial_again

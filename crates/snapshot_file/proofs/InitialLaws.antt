-- The initial snapshot is read from its file.
use Rattle.std.proofs.Common.{◌≡◌, ℕ, ◌<◌, ◌≤◌, List, [], length, Ok, refl, lit<, lit≤, codes}
use Rattle.std.specs.Str.{IsUtf8}
use Rattle.std.proofs.lemmas.Str.{IsUtf8-from_ascii}
use Rattle.std.proofs.lemmas.List.Elements.{All-from_recursion}
use Rattle.std.proofs.lemmas.Str.Ascii.{IsAscii-from_all}
use Rattle.flat_tables.specs.Layout.{payload, table_block, tables_block, text_block, vector_block}
use Rattle.snapshot_file.specs.Snapshots.{snapshot_of, first_unlisted}
use Rattle.snapshot_file.specs.Layout.{snapshot_block, snapshot_bytes, IsSnapshot, IsWritable}
use Rattle.snapshot_file.specs.Initial.{initial_snapshot}
use Rattle.file_fields.proofs.Bytes.{bytes_tested}
use Rattle.snapshot_file.proofs.Again.{snapshot_again}
use Rattle.snapshot_file.proofs.PropsRead.{none_are}

message_utf8 : IsUtf8 initial_snapshot.message
message_utf8 =
    IsUtf8-from_ascii (codes "Repository initialized")
    (IsAscii-from_all (codes "Repository initialized")
    (All-from_recursion (λ b. b < 128) (codes "Repository initialized") (lit< tt, (lit< tt, (lit< tt, (lit< tt, (lit< tt, (lit< tt, (lit< tt, (lit< tt, (lit< tt, (lit< tt, (lit< tt, (lit< tt, (lit< tt, (lit< tt, (lit< tt, (lit< tt, (lit< tt, (lit< tt, (lit< tt, (lit< tt, (lit< tt, (lit< tt, tt))))))))))))))))))))))))

initial_is : IsSnapshot initial_snapshot
initial_is = record { id = (refl, bytes_tested initial_snapshot.id.0 refl); parent = tt; nodes = tt; flushed_at = lit< tt; message = message_utf8; props = none_are; files = tt }

-- it can be written, also with properties
pub initial_can : (props : List (List ℕ × List ℕ)) → IsWritable (record initial_snapshot { props = props })
unfolding first_unlisted
initial_can props = record { few = lit≤ tt; nodes = tt; files = tt; listed = refl }

short : length (payload (snapshot_block initial_snapshot)) ≤ 268435417
unfolding payload table_block tables_block text_block vector_block snapshot_block
short = lit≤ tt

pub initial_again : snapshot_of (snapshot_bytes initial_snapshot) ≡ Ok initial_snapshot
initial_again = snapshot_again initial_snapshot initial_is (initial_can []) short

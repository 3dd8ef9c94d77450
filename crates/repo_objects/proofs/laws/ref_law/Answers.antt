use Rattle.std.proofs.Common.{ap}
use Rattle.std.specs.Result.{result_ok}
use Rattle.ref_file.specs.Refs.{ref_bytes}
use Rattle.repo_objects.proofs.Refs.{refers_read}
use Rattle.repo_objects.proofs.Again.{ref_is}
use Rattle.repo_objects.proofs.laws.ref_law.Goals as goal

pub returns : goal.returns
returns c = record {
  length = c.written_refs.ensures.long;
  written = λ id is. ap result_ok (refers_read (ref_bytes id) id (c.written_refs.ensures.read id is));
  read = ref_is c.texts_of_object_ids.ensures.written;
}

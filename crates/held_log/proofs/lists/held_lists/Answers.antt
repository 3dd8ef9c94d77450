use Rattle.std.proofs.Common.{◌≡◌, Ok, ap, sym, ◌∙◌}
use Rattle.txn_file.specs.Logs.{ids_of, arrays_of}
use Rattle.held_manifest.specs.Views.{rows_or_none}
use Rattle.held_manifest.proofs.Checked.{ok_by}
use Rattle.held_log.proofs.Parts.{some_lists}
use Rattle.held_log.proofs.lists.held_lists.Goals as goal

pub held_ids-requires : goal.held_ids-requires
held_ids-requires c = let some = some_lists c.args.table.now c.requires in ok_by (ids_of c.args.table.now 1) some.lists.new_groups some.parts.new_groups

pub held_ids-requires-2 : goal.held_ids-requires-2
held_ids-requires-2 c = let some = some_lists c.args.table.now c.requires in ok_by (ids_of c.args.table.now 2) some.lists.new_arrays some.parts.new_arrays

pub held_ids-requires-3 : goal.held_ids-requires-3
held_ids-requires-3 c = let some = some_lists c.args.table.now c.requires in ok_by (ids_of c.args.table.now 3) some.lists.deleted_groups some.parts.deleted_groups

pub held_ids-requires-4 : goal.held_ids-requires-4
held_ids-requires-4 c = let some = some_lists c.args.table.now c.requires in ok_by (ids_of c.args.table.now 4) some.lists.deleted_arrays some.parts.deleted_arrays

pub held_ids-requires-5 : goal.held_ids-requires-5
held_ids-requires-5 c = let some = some_lists c.args.table.now c.requires in ok_by (ids_of c.args.table.now 5) some.lists.updated_arrays some.parts.updated_arrays

pub held_ids-requires-6 : goal.held_ids-requires-6
held_ids-requires-6 c = let some = some_lists c.args.table.now c.requires in ok_by (ids_of c.args.table.now 6) some.lists.updated_groups some.parts.updated_groups

pub held_arrays-requires : goal.held_arrays-requires
held_arrays-requires c = let some = some_lists c.args.table.now c.requires in ok_by (arrays_of c.args.table.now) some.lists.updated_chunks some.parts.updated_chunks

pub returns : goal.returns
returns c =
    let some = some_lists c.args.table.now c.requires in
    let new_groups : some.lists.new_groups ≡ c.held_ids.result = sym (c.held_ids.ensures ∙ ap rows_or_none some.parts.new_groups) in
    let new_arrays : some.lists.new_arrays ≡ c.held_ids-2.result = sym (c.held_ids-2.ensures ∙ ap rows_or_none some.parts.new_arrays) in
    let deleted_groups : some.lists.deleted_groups ≡ c.held_ids-3.result = sym (c.held_ids-3.ensures ∙ ap rows_or_none some.parts.deleted_groups) in
    let deleted_arrays : some.lists.deleted_arrays ≡ c.held_ids-4.result = sym (c.held_ids-4.ensures ∙ ap rows_or_none some.parts.deleted_arrays) in
    let updated_arrays : some.lists.updated_arrays ≡ c.held_ids-5.result = sym (c.held_ids-5.ensures ∙ ap rows_or_none some.parts.updated_arrays) in
    let updated_groups : some.lists.updated_groups ≡ c.held_ids-6.result = sym (c.held_ids-6.ensures ∙ ap rows_or_none some.parts.updated_groups) in
    let updated_chunks : some.lists.updated_chunks ≡ c.held_arrays.result = sym (c.held_arrays.ensures ∙ ap rows_or_none some.parts.updated_chunks) in
    some.is
    ∙ (λ i. Ok (record {
      new_groups = new_groups i;
      new_arrays = new_arrays i;
      deleted_groups = deleted_groups i;
      deleted_arrays = deleted_arrays i;
      updated_arrays = updated_arrays i;
      updated_groups = updated_groups i;
      updated_chunks = updated_chunks i;
    }))

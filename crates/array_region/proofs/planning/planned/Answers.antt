use Rattle.std.proofs.Common.{ap}
use Rattle.session.specs.Arrays.{array_told}
use Rattle.array_region.proofs.Planned.{told_refused, count_refused, passes, planned_program, told_unwritten, count_unwritten, planned_write, array_outright, count_outright, fine_outright}
use Rattle.array_region.proofs.planning.planned.Goals as goal

pub invariant_of-result : goal.invariant_of-result
invariant_of-result c =
    let r = c.args.region in
    record {
      within = passes c.args.session.now r.path r.from.items r.to.items (array_told c.find_array.result) c.find_array.ensures c.in-Ok.found.node c.in-Ok.found.array.now (ap array_told c.in-Ok.is) c.counted.result c.counted.ensures c.in-Ok-counted.count c.in-Ok-counted.is
          c.in-Ok-copy.array c.in-Ok-copy.ensures c.grid_law.ensures;
    }

pub returns-in-Err-clause-reads : goal.returns-in-Err-clause-reads
returns-in-Err-clause-reads c = let r = c.args.region in told_refused c.args.session.now r.path r.from.items r.to.items (array_told c.find_array.result) c.find_array.ensures c.in-Err.why (ap array_told c.in-Err.is)

pub returns-in-Err-counted-clause-reads : goal.returns-in-Err-counted-clause-reads
returns-in-Err-counted-clause-reads c =
    let r = c.args.region in
    count_refused c.args.session.now r.path r.from.items r.to.items (array_told c.find_array.result) c.find_array.ensures c.in-Ok.found.node c.in-Ok.found.array.now (ap array_told c.in-Ok.is) c.counted.result c.counted.ensures c.in-Err-counted.why c.in-Err-counted.is

pub returns-clause-reads : goal.returns-clause-reads
returns-clause-reads c =
    let r = c.args.region in
    planned_program c.args.session.now r.path r.from.items r.to.items (array_told c.find_array.result) c.find_array.ensures c.in-Ok.found.node c.in-Ok.found.array.now (ap array_told c.in-Ok.is) c.counted.result c.counted.ensures c.in-Ok-counted.count c.in-Ok-counted.is
    c.in-Ok-copy.array c.in-Ok-copy.ensures c.grid_law.ensures

pub returns-in-Err-clause-writes : goal.returns-in-Err-clause-writes
returns-in-Err-clause-writes c =
    let r = c.args.region in
    λ numbers w. told_unwritten c.args.session.now r.path r.from.items r.to.items (array_told c.find_array.result) c.find_array.ensures numbers w c.in-Err.why (ap array_told c.in-Err.is)

pub returns-in-Err-counted-clause-writes : goal.returns-in-Err-counted-clause-writes
returns-in-Err-counted-clause-writes c =
    let r = c.args.region in
    λ numbers w.
    count_unwritten c.args.session.now r.path r.from.items r.to.items (array_told c.find_array.result) c.find_array.ensures numbers w c.in-Ok.found.node c.in-Ok.found.array.now (ap array_told c.in-Ok.is) c.counted.result c.counted.ensures
    c.in-Err-counted.why c.in-Err-counted.is

pub returns-clause-writes : goal.returns-clause-writes
returns-clause-writes c =
    let r = c.args.region in
    λ numbers w.
    planned_write c.args.session.now r.path r.from.items r.to.items (array_told c.find_array.result) c.find_array.ensures numbers w c.in-Ok.found.node c.in-Ok.found.array.now (ap array_told c.in-Ok.is) c.counted.result c.counted.ensures
    c.in-Ok-counted.count c.in-Ok-counted.is c.in-Ok-copy.array c.in-Ok-copy.ensures

pub returns-in-Err-clause-outright : goal.returns-in-Err-clause-outright
returns-in-Err-clause-outright c = let r = c.args.region in array_outright _ c.args.session.now r.path r.from.items r.to.items (array_told c.find_array.result) c.find_array.ensures c.in-Err.why (ap array_told c.in-Err.is)

pub returns-in-Err-counted-clause-outright : goal.returns-in-Err-counted-clause-outright
returns-in-Err-counted-clause-outright c =
    let r = c.args.region in
    count_outright _ c.args.session.now r.path r.from.items r.to.items (array_told c.find_array.result) c.find_array.ensures c.in-Ok.found.node c.in-Ok.found.array.now (ap array_told c.in-Ok.is) c.counted.result c.counted.ensures c.in-Err-counted.why c.in-Err-counted.is

pub returns-in_default-clause-outright : goal.returns-in_default-clause-outright
returns-in_default-clause-outright c =
    let r = c.args.region in
    fine_outright _ c.args.session.now r.path r.from.items r.to.items (array_told c.find_array.result) c.find_array.ensures c.in-Ok.found.node c.in-Ok.found.array.now (ap array_told c.in-Ok.is) c.counted.result c.counted.ensures c.in-Ok-counted.count c.in-Ok-counted.is

pub returns-clause-outright : goal.returns-clause-outright
returns-clause-outright c =
    let r = c.args.region in
    fine_outright _ c.args.session.now r.path r.from.items r.to.items (array_told c.find_array.result) c.find_array.ensures c.in-Ok.found.node c.in-Ok.found.array.now (ap array_told c.in-Ok.is) c.counted.result c.counted.ensures c.in-Ok-counted.count c.in-Ok-counted.is

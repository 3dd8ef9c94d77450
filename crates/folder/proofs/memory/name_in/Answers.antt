use Rattle.std.proofs.Common.{ap, List, ℕ, Some}
use Rattle.folder.proofs.Names.{leads-nowhere, leads-to}
use Rattle.folder.proofs.memory.name_in.Goals as goal

pub returns-in_err-after-2 : goal.returns-in_err-after-2
returns-in_err-after-2 c = λ name rest plain ends leads. absurd (leads-nowhere c.args.path.now c.args.folder.now c.in_ok-after.field-0.now name rest c.in_ok-after.ensures c.in_err-after-2.ensures leads)

pub returns : goal.returns
returns c = λ name rest plain ends leads. ap (λ (bytes : List ℕ). Some bytes) (leads-to c.args.path.now c.args.folder.now c.in_ok-after.field-0.now c.in_ok-after-2.field-0.now name rest c.first_name.result.now c.in_ok-after.ensures c.in_ok-after-2.ensures c.first_name.ensures plain ends leads)

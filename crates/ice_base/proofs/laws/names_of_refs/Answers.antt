use Rattle.ice_base.proofs.NameLaws.{IsPlainName-IsRefName, IsRefName-IsPlainName, IsRefName-main}
use Rattle.ice_base.proofs.laws.names_of_refs.Goals as goal

pub returns-clause-plain : goal.returns-clause-plain
returns-clause-plain c = λ bytes. (IsPlainName-IsRefName bytes, IsRefName-IsPlainName bytes)

pub returns-clause-main : goal.returns-clause-main
returns-clause-main c = IsRefName-main

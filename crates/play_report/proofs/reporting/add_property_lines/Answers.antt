use Rattle.std.proofs.Common.{rules}
use Rattle.drafts.proofs.Taking.{took_none, took_as}
use Rattle.play_report.proofs.reporting.add_property_lines.Goals as goal

pub returns : goal.returns
returns g c = took_as (search rules) (took_none _ _)

pub returns-2 : goal.returns-2
returns-2 g c = took_as (search rules) (took_none _ _)

pub returns-3 : goal.returns-3
returns-3 g c = took_as (search rules) (took_none _ _)

pub returns-4 : goal.returns-4
returns-4 g c = took_as (search rules) (took_none _ _)

pub returns-5 : goal.returns-5
returns-5 g c = took_as (search rules) (took_none _ _)

pub returns-6 : goal.returns-6
returns-6 g c = took_as (search rules) (took_none _ _)

pub returns-7 : goal.returns-7
returns-7 g c = took_as (search rules) (took_none _ _)

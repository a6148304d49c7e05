use Rattle.std.proofs.Common.{ap, ◌∙◌}
use Rattle.newton_rounds.specs.Members.{with_table}
use Rattle.newton_rounds.proofs.ReadyGroups.{members-are, procs-known}
use Rattle.newton_rounds.proofs.rounds.known_formulas_with.Goals as goal

pub table_of-requires-clause-members : goal.table_of-requires-clause-members
table_of-requires-clause-members c = members-are c.args.group c.requires.group

pub with_table-requires : goal.with_table-requires
with_table-requires c = procs-known c.args.group c.requires.group

pub returns : goal.returns
returns c = c.in_ok-with_table.ensures ∙ ap (λ table. with_table c.args.group.procs.now table c.args.group.known.now) (c.as_slice.ensures ∙ c.in_ok-table.ensures)

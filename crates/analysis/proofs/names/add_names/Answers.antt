use Rattle.analysis.specs.Judging.{column_names, names_onto}
use Rattle.syntax_tree.specs.declared.program.Column.{Column}
use Rattle.std.proofs.Common.{[]}
use Rattle.analysis.proofs.ListLoops.{loop-next, names-front}
use Rattle.analysis.proofs.names.add_names.Goals as goal

pub loop-column-preserved : goal.loop-column-preserved
loop-column-preserved c =
    loop-next column_names (λ (column : Column). names_onto column.name []) names-front c.args.columns.now c.loop-column.column-index c.column-item.result c.loop-column.names c.add_name.new.names _
    c.loop-column-test.true c.column-item.is c.loop-column.invariant c.in_ok-add_name.ensures

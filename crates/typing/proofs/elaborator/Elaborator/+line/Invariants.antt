use Rattle.std.proofs.Common.{◌≡◌, ◌+◌, ◌*◌, ◌++◌, drop}
use Rattle.syntax_tree.specs.SourceLine.{source_line_of, source_lines_of}
use Rattle.typing.specs.Faults.{least_of}
use Rattle.typing.specs.LineFaults.{all_faults_in}
use Rattle.typing.specs.Lines.{after_all, all_statements_of}
use Rattle.typing.proofs.Sizes.{line_size, lines_size}
use Rattle.typing.proofs.elaborator.Elaborator.+line.Given as goal

abbrev pub invariant-lines-loop-line : goal.invariant-lines-loop-line
invariant-lines-loop-line l = record {
  statements : l.out ++ all_statements_of l.self.env (source_lines_of (drop l.line-index l.lines)) ≡ l.fn.out ++ all_statements_of l.fn.self.env (source_lines_of l.lines);
  env : after_all l.self.env (source_lines_of (drop l.line-index l.lines)) ≡ after_all l.fn.self.env (source_lines_of l.lines);
  least : least_of l.self.least (all_faults_in l.self.env (source_lines_of (drop l.line-index l.lines))) ≡ least_of l.fn.self.least (all_faults_in l.fn.self.env (source_lines_of l.lines));
}

-- a part of a line is smaller than the line
abbrev pub decreases-lines : goal.decreases-lines
decreases-lines l = 5 * lines_size (source_lines_of l.lines.now) + 1

abbrev pub decreases-line : goal.decreases-line
decreases-line l = 5 * line_size (source_line_of l.line.now)

abbrev pub decreases-branch : goal.decreases-branch
decreases-branch l = 5 * (lines_size (source_lines_of l.yes.now) + lines_size (source_lines_of l.no.now)) + 4

abbrev pub decreases-while_loop : goal.decreases-while_loop
decreases-while_loop l = 5 * (lines_size (source_lines_of l.init.now) + lines_size (source_lines_of l.step.now) + lines_size (source_lines_of l.body.now)) + 4

abbrev pub decreases-do_loop : goal.decreases-do_loop
decreases-do_loop l = 5 * (lines_size (source_lines_of l.init.now) + lines_size (source_lines_of l.step.now) + lines_size (source_lines_of l.body.now)) + 4

abbrev pub decreases-block : goal.decreases-block
decreases-block l = 5 * lines_size (source_lines_of l.lines.now) + 2

abbrev pub decreases-scope_statements : goal.decreases-scope_statements
decreases-scope_statements l = 5 * lines_size (source_lines_of l.lines.now) + 2

abbrev pub decreases-body : goal.decreases-body
decreases-body l = 5 * lines_size (source_lines_of l.lines.now) + 3

abbrev pub decreases-step : goal.decreases-step
decreases-step l = 5 * lines_size (source_lines_of l.lines.now) + 2

abbrev pub decreases-begin_loop : goal.decreases-begin_loop
decreases-begin_loop l = 5 * lines_size (source_lines_of l.init.now) + 2

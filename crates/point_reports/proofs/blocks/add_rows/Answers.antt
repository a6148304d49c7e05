use Rattle.std.proofs.Common.{◌++◌, ◌∷◌, [], ◌∙◌, ap, sym}
use Rattle.report.specs.declared.points.PointRows.{PointRows}
use Rattle.point_reports.proofs.ToldLists.{none-of, none-told, some-of, some-told}
use Rattle.point_reports.proofs.blocks.add_rows.Goals as goal

pub returns-then-is_empty : goal.returns-then-is_empty
returns-then-is_empty c = none-told c.args.at.program.now c.args.at.number c.args.at.proc.now c.args.place c.args.rows.now c.args.told.now (none-of c.args.rows.now (sym c.is_empty.ensures ∙ c.if-is_empty.true))

pub returns : goal.returns
returns c =
    let old = c.args.told.now in
    c.in_ok-push.ensures.ok ∙ ap (λ (one : PointRows). old ++ one ∷ []) c.in_ok-one.ensures
    ∙ ap (λ l. old ++ l) (some-told c.args.at.program.now c.args.at.number c.args.at.proc.now c.args.place c.args.rows.now (some-of c.args.rows.now (sym c.is_empty.ensures ∙ c.if-is_empty.false)))

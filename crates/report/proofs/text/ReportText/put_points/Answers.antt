use Rattle.std.proofs.Common.{◌≡◌, ◌+◌, ◌∷◌, ◌++◌, ◌∙◌, ap, append_assoc, drop, sym}
use Rattle.std.specs.List.{flat_map}
use Rattle.std.proofs.lemmas.List.{drop_more}
use Rattle.report.specs.Points.{point_rows_text}
use Rattle.report.proofs.text.ReportText.put_points.Goals as goal

pub loop-point-preserved : goal.loop-point-preserved
loop-point-preserved c =
    let points = c.args.points.now in
    let i = c.loop-point.point-index in
    let rest = flat_map point_rows_text (drop (i + 1) points) in
    let split : flat_map point_rows_text (drop i points) ≡ point_rows_text c.point-item.result ++ rest =
    ap (flat_map point_rows_text) (drop_more points i c.point-item.result c.loop-point-test.true ∙ ap (λ y. y ∷ drop (i + 1) points) (sym c.point-item.is)) in
    ap (λ t. t ++ rest) c.in_ok-put_point_rows.ensures ∙ append_assoc c.loop-point.self (point_rows_text c.point-item.result) rest
    ∙ ap (λ t. c.loop-point.self ++ t) (sym split) ∙ c.loop-point.invariant

use Rattle.std.proofs.Common.{rules, ◌≡◌, ◌+◌, ◌++◌, ◌∷◌, [], List, ℤ, length, drop, get_or, sym, ap, append_assoc, ◌∙◌}
use Rattle.std.proofs.lemmas.List.{drop_more, get_or_read}
use Rattle.linear_terms.specs.declared.row.Row.{Row}
use Rattle.simplex.specs.Rows.{whole_line, lines_from}
use Rattle.simplex.proofs.frame.lines_from.Goals as goal

pub loop-place-preserved : goal.loop-place-preserved
loop-place-preserved c =
    let line : List ℤ = whole_line c.args.columns.now (length c.args.rows.now) c.loop-place.place c.index-rows-place.result in
    let row : Row = c.index-rows-place.result in
    let own : row ≡ get_or c.args.rows.now c.loop-place.place row = get_or_read c.args.rows.now c.loop-place.place row (search rules) (search rules) row in
    let rest : drop c.loop-place.place c.args.rows.now ≡ row ∷ drop (c.loop-place.place + 1) c.args.rows.now =
    drop_more c.args.rows.now c.loop-place.place row (search rules) ∙ ap (λ (r : Row). r ∷ drop (c.loop-place.place + 1) c.args.rows.now) (sym own) in
    let pushed : c.push.new.self ≡ c.loop-place.lines ++ line ∷ [] = search rules in
    ap (λ (ls : List (List ℤ)). ls ++ lines_from c.args.columns.now (length c.args.rows.now) (c.loop-place.place + 1) (drop (c.loop-place.place + 1) c.args.rows.now)) pushed
    ∙ append_assoc c.loop-place.lines (line ∷ []) (lines_from c.args.columns.now (length c.args.rows.now) (c.loop-place.place + 1) (drop (c.loop-place.place + 1) c.args.rows.now))
    ∙ ap (λ (rs : List Row). c.loop-place.lines ++ lines_from c.args.columns.now (length c.args.rows.now) c.loop-place.place rs) (sym rest)
    ∙ c.loop-place.invariant

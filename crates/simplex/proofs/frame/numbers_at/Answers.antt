use Rattle.std.proofs.Common.{rules, ◌≡◌, ◌+◌, ◌≤◌, ◌++◌, ◌∷◌, [], ℕ, ℤ, List, map, length, drop, get_or, sym, ap, ◌∙◌}
use Rattle.std.specs.Map.{keys_of}
use Rattle.std.proofs.lemmas.List.{drop_more, drop_all, get_or_read}
use Rattle.linear_terms.specs.declared.col.Col.{Col}
use Rattle.linear_terms.specs.Polynomial.{Terms, coefficient_in, IsCanonical}
use Rattle.linear_terms.proofs.Merge.{none}
use Rattle.farkas_check.proofs.Spreads.{AreAmong}
use Rattle.farkas_check.proofs.Walks.{IsOrdered}
use Rattle.simplex.proofs.SpreadNumbers.{IsSpread, spread-next, spread-end}
use Rattle.simplex.proofs.frame.numbers_at.Goals as goal

pub loop-column-preserved : goal.loop-column-preserved
loop-column-preserved c =
    let column : List Col = c.column-item.result in
    let later : List (List Col) = drop (c.loop-column.column-index + 1) c.args.columns.now in
    let own : column ≡ get_or c.args.columns.now c.loop-column.column-index column = get_or_read c.args.columns.now c.loop-column.column-index column (search rules) (search rules) column in
    let rest : drop c.loop-column.column-index c.args.columns.now ≡ column ∷ later = drop_more c.args.columns.now c.loop-column.column-index column (search rules) ∙ ap (λ (m : List Col). m ∷ later) (sym own) in
    let pushed : c.push.new.self ≡ c.loop-column.line ++ c.number_next-number.result.0 ∷ [] = search rules in
    spread-next c.args.terms.now c.args.columns.now c.loop-column.line c.push.new.self c.loop-column.left.now c.number_next-number.result.1.now (drop c.loop-column.column-index c.args.columns.now) later column c.number_next-number.result.0 rest pushed
    (c.number_next-number.ensures.spread later) (c.number_next-number.ensures.among later) c.loop-column.invariant

ended : (columns : List (List Col)) (terms left : Terms) (line : List ℤ) (index : ℕ) → length columns ≤ index → length left ≡ 0 → IsCanonical terms → IsOrdered columns → IsSpread terms columns line left (drop index columns) → (line ≡ map (coefficient_in terms) columns) × AreAmong (keys_of terms) columns
ended columns terms left line index h e k o s = spread-end terms columns line left (drop index columns) (drop_all index columns h) (none left e) k o s

pub returns-then-is_empty-clause-numbers : goal.returns-then-is_empty-clause-numbers
returns-then-is_empty-clause-numbers c =
    let left : length c.loop-column.left.now ≡ 0 = search rules in
    (ended c.args.columns.now c.args.terms.now c.loop-column.left.now c.loop-column.line c.loop-column.column-index c.loop-column-test.false left c.requires.canonical c.requires.ordered c.loop-column.invariant).0

pub returns-then-is_empty-clause-among : goal.returns-then-is_empty-clause-among
returns-then-is_empty-clause-among c =
    let left : length c.loop-column.left.now ≡ 0 = search rules in
    (ended c.args.columns.now c.args.terms.now c.loop-column.left.now c.loop-column.line c.loop-column.column-index c.loop-column-test.false left c.requires.canonical c.requires.ordered c.loop-column.invariant).1

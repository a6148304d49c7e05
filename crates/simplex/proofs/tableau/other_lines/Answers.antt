use Rattle.std.proofs.Common.{◌≡◌, ℕ, ◌++◌, ◌∷◌, ◌+◌, [], length, sym, ap, ◌∙◌, rules, List, Ok, ℤ}
use Rattle.std.specs.Vec.Iter.{into_iter_items}
use Rattle.simplex.specs.Exchange.{behind, line_without_at, lines_without}
use Rattle.simplex.proofs.Behind.{behind-next}
use Rattle.simplex.proofs.RowTableaux.{long}
use Rattle.simplex.proofs.tableau.other_lines.Goals as goal

pub loop-own-preserved : goal.loop-own-preserved
loop-own-preserved c =
    let column = c.args.column in
    let pivot = c.args.pivot.now in
    let place = c.args.line in
    let made = c.loop-own.made in
    let own = c.in-Some.own in
    let line : List ℤ = c.in_ok-line_without_at.field-0 in
    let left = into_iter_items c.next.new.self in
    let more : c.push.new.self ≡ made ++ line ∷ [] = search rules in
    let first : line_without_at column pivot place (length made) own ≡ Ok line = search rules in
    let begins : into_iter_items c.loop-own.own-iterator ≡ own ∷ left = search rules in
    let count : length c.push.new.self ≡ length made + 1 = ap length more ∙ long made (line ∷ []) in
    ap (λ (n : ℕ). behind c.push.new.self (lines_without column pivot place n left)) count
    ∙ behind-next made c.push.new.self line (line_without_at column pivot place (length made) own) (lines_without column pivot place (length made + 1) left) more first
    ∙ ap (λ lines. behind made (lines_without column pivot place (length made) lines)) (sym begins)
    ∙ c.loop-own.invariant

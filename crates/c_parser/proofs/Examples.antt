-- Worked examples of the grammar.
use Rattle.std.proofs.Common.{◌≡◌, true, false, [], ◌∷◌, refl}
use Rattle.std.specs.Prelude.{pos}
use Rattle.c_lexer.specs.declared.mark.Mark.TheVariants as marks
use Rattle.syntax_tree.specs.declared.op.Op.TheVariants.{Add, Sub, Mul}
use Rattle.syntax_tree.specs.SourceExpr as source
use Rattle.c_parser.specs.Expressions.{Expression, Number, Named, Bracketed, Single, Joined, binds, expression_spots, tree, levels, operators}
use Rattle.c_parser.specs.Lines.{Empty, If, IfElse, line_is_made}
use Rattle.c_parser.specs.Spots.{mark, number, word}

-- (a + 2) * 3, with its tokens at 0, 1, 3, 5, 6, 8 and 10
abbrev product : Expression
product = Joined (Single (Bracketed 0 (Joined (Single (Named 1 (97 ∷ []))) 3 Add (Single (Number 5 (pos 2)))) 6)) 8 Mul (Single (Number 10 (pos 3)))

product-spots : expression_spots product
    ≡ mark 0 marks.OpenRound ∷ word 1 (97 ∷ []) ∷ mark 3 marks.Plus ∷ number 5 (pos 2) ∷ mark 6 marks.CloseRound ∷ mark 8 marks.Star ∷ number 10 (pos 3) ∷ []
product-spots = refl

product-binds : binds 6 product ≡ true
product-binds = refl

-- both operators have the place of the bracket
product-tree : tree product ≡ source.Binary 0 Mul (source.Binary 0 Add (source.Var 1 (97 ∷ [])) (source.Lit 5 (pos 2))) (source.Lit 10 (pos 3))
product-tree = refl

product-levels : levels product ≡ 1
product-levels = refl

product-operators : operators product ≡ 2
product-operators = refl

abbrev a : Expression
a = Single (Named 0 (97 ∷ []))

-- a - a - a goes from left to right
left_first : binds 6 (Joined (Joined a 1 Sub a) 2 Sub a) ≡ true
left_first = refl

not_right_first : binds 6 (Joined a 1 Sub (Joined a 2 Sub a)) ≡ false
not_right_first = refl

-- a + a * a is no product of a sum
not_sum_first : binds 6 (Joined (Joined a 1 Add a) 2 Mul a) ≡ false
not_sum_first = refl

-- in `if (a) if (a) ; else ;` the `else` belongs to the inner `if`
inner_else : line_is_made (If 0 1 a 2 (IfElse 3 4 a 5 (Empty 6) 7 (Empty 8))) ≡ true
inner_else = refl

no_outer_else : line_is_made (IfElse 0 1 a 2 (If 3 4 a 5 (Empty 6)) 7 (Empty 8)) ≡ false
no_outer_else = refl

-- One step of each loop of the parser of expressions.
use Rattle.std.proofs.Common.{◌≡◌, ℕ, ◌<◌, true, false, Option, List, [], ◌∷◌, ◌++◌, length, sym, ap, subst, ◌∙◌}
use Rattle.std.specs.Prelude.{None, Some, is_some, Result, Ok}
use Rattle.items.specs.Gives.{◌>>=◌, FailsBy}
use Rattle.items.proofs.Gives.{FailsBy-bind}
use Rattle.c_lexer.specs.declared.mark.Mark.TheVariants as marks
use Rattle.syntax_tree.specs.declared.op.Op.{Op}
use Rattle.syntax_tree.specs.SourceExpr.{SourceExpr}
use Rattle.c_parser.specs.declared.error.ParseError.{ParseError}
use Rattle.c_parser.specs.Descent.{Rest, Reader, argument, begins_with, goes_on, has_comma, rest_length, rest_length_of_list, link, link_if, links, more_arguments, op_at, tail, with_spots}
use Rattle.c_parser.proofs.Repeats.{repeat-done, repeat-more, repeat-fails}

module _ (r : ℕ) (reader : Reader) (at : ℕ) (left : SourceExpr × Rest) where
  abbrev link_step : SourceExpr × Rest → Result (SourceExpr × Rest) ParseError
  link_step read = link_if reader at (op_at r read.1.spots) read

  found : (op : Op) → op_at r left.1.spots ≡ Some op → goes_on r left ≡ true
  found op e = ap is_some e

  stepped : (op : Op) → op_at r left.1.spots ≡ Some op → link_step left ≡ link reader at op left
  stepped op e = ap (λ o. link_if reader at o left) e

  pub links-done : op_at r left.1.spots ≡ None → links r reader at left ≡ Ok left
  links-done e = repeat-done rest_length (goes_on r) link_step left (ap is_some e)

  pub links-more : (op : Op) (next : SourceExpr × Rest) → op_at r left.1.spots ≡ Some op → link reader at op left ≡ Ok next
      → length next.1.spots < length left.1.spots → links r reader at left ≡ links r reader at next
  links-more op next e made less = repeat-more rest_length (goes_on r) link_step left next (found op e) (stepped op e ∙ made) less

  pub links-fails : (cause : Option ParseError) (op : Op) → op_at r left.1.spots ≡ Some op → FailsBy cause (link reader at op left) → FailsBy cause (links r reader at left)
  links-fails cause op e fails =
      repeat-fails rest_length (goes_on r) link_step cause left (found op e) (subst (FailsBy cause) (sym (stepped op e)) fails)

module _ (reader : Reader) (read : List SourceExpr × Rest) where
  pub arguments-done : begins_with marks.Comma read.1.spots ≡ false → more_arguments reader read ≡ Ok read
  arguments-done e = repeat-done rest_length_of_list has_comma (argument reader) read e

  pub arguments-more : (next : SourceExpr × Rest) → begins_with marks.Comma read.1.spots ≡ true → reader (with_spots read.1 (tail read.1.spots)) ≡ Ok next
      → length next.1.spots < length read.1.spots → more_arguments reader read ≡ more_arguments reader (read.0 ++ next.0 ∷ [], next.1)
  arguments-more next e made less =
      repeat-more rest_length_of_list has_comma (argument reader) read (read.0 ++ next.0 ∷ [], next.1) e
      (ap (λ came. came >>= λ next. Ok (read.0 ++ next.0 ∷ [], next.1)) made) less

  pub arguments-fail : (cause : Option ParseError) → begins_with marks.Comma read.1.spots ≡ true → FailsBy cause (reader (with_spots read.1 (tail read.1.spots)))
      → FailsBy cause (more_arguments reader read)
  arguments-fail cause e fails =
      repeat-fails rest_length_of_list has_comma (argument reader) cause read e
      (FailsBy-bind cause (reader (with_spots read.1 (tail read.1.spots))) (λ next. Ok (read.0 ++ next.0 ∷ [], next.1)) fails)

-- What single tokens and the first tokens of an expression are.
use Rattle.std.proofs.Common.{◌≡◌, ℕ, ◌<◌, Bool, true, false, List, [], ◌∷◌, ◌++◌, refl, ap, ◌∙◌, arith, append_assoc}
use Rattle.std.specs.Prelude.{None, Some, nat_eq, ◌&&◌, if◌then◌else◌}
use Rattle.std.proofs.lemmas.Bool.Decides.{nat_tests}
use Rattle.c_lexer.specs.declared.mark.Mark.TheVariants as marks
use Rattle.syntax_tree.specs.declared.op.Op.{Op}
use Rattle.syntax_tree.specs.declared.op.Op.TheVariants.{Add, Sub, Mul, Div, Rem, Lt, Le, Gt, Ge, Eq, Ne, And, Or}
use Rattle.syntax_tree.specs.declared.op.Sign.{Sign}
use Rattle.syntax_tree.specs.declared.op.Sign.TheVariants.{Plus, Minus, Not}
use Rattle.c_parser.specs.declared.error.ParseError.TheVariants as error
use Rattle.c_parser.specs.Descent.{begins_with, of_rank, op_at, op_of, place_at, refusal_of, sign_of}
use Rattle.c_parser.specs.Expressions.{Operand, Number, Named, Called, Bracketed, Signed, Expression, Single, Joined, Applied, operand_spots, expression_spots, operand_place, place}
use Rattle.c_parser.specs.Operators.{op_mark, rank, sign_mark}
use Rattle.c_parser.specs.Profile.{is_outside}
use Rattle.c_parser.specs.Spots.{Spot, mark}
use Rattle.c_parser.proofs.Repeats.{left_out}

pub both : (a b : Bool) → a && b ≡ true → (a ≡ true) × (b ≡ true)
both true true e = (refl, refl)
both true false e = cc
both false b e = cc

pub op_of-op_mark : (op : Op) → op_of (op_mark op) ≡ Some op
op_of-op_mark Add = refl
op_of-op_mark Sub = refl
op_of-op_mark Mul = refl
op_of-op_mark Div = refl
op_of-op_mark Rem = refl
op_of-op_mark Lt = refl
op_of-op_mark Le = refl
op_of-op_mark Gt = refl
op_of-op_mark Ge = refl
op_of-op_mark Eq = refl
op_of-op_mark Ne = refl
op_of-op_mark And = refl
op_of-op_mark Or = refl

of_rank-own : (op : Op) → of_rank (rank op) (Some op) ≡ Some op
of_rank-own Add = refl
of_rank-own Sub = refl
of_rank-own Mul = refl
of_rank-own Div = refl
of_rank-own Rem = refl
of_rank-own Lt = refl
of_rank-own Le = refl
of_rank-own Gt = refl
of_rank-own Ge = refl
of_rank-own Eq = refl
of_rank-own Ne = refl
of_rank-own And = refl
of_rank-own Or = refl

of_rank-other : (r : ℕ) (op : Op) → r < rank op → of_rank r (Some op) ≡ None
of_rank-other r op less = left_out (nat_eq (rank op) r) (Some op) None (grind (arith, nat_tests))

-- an operator is found at its rank, and not below
pub op_at-own : (at : ℕ) (op : Op) (later : List Spot) → op_at (rank op) (mark at (op_mark op) ∷ later) ≡ Some op
op_at-own at op later = ap (of_rank (rank op)) (op_of-op_mark op) ∙ of_rank-own op

pub op_at-below : (r at : ℕ) (op : Op) (later : List Spot) → r < rank op → op_at r (mark at (op_mark op) ∷ later) ≡ None
op_at-below r at op later less = ap (of_rank r) (op_of-op_mark op) ∙ of_rank-other r op less

pub op-opens_nothing : (at : ℕ) (op : Op) (later : List Spot) → begins_with marks.OpenRound (mark at (op_mark op) ∷ later) ≡ false
op-opens_nothing at Add later = refl
op-opens_nothing at Sub later = refl
op-opens_nothing at Mul later = refl
op-opens_nothing at Div later = refl
op-opens_nothing at Rem later = refl
op-opens_nothing at Lt later = refl
op-opens_nothing at Le later = refl
op-opens_nothing at Gt later = refl
op-opens_nothing at Ge later = refl
op-opens_nothing at Eq later = refl
op-opens_nothing at Ne later = refl
op-opens_nothing at And later = refl
op-opens_nothing at Or later = refl

pub sign_of-sign_mark : (sign : Sign) → sign_of (sign_mark sign) ≡ Some sign
sign_of-sign_mark Plus = refl
sign_of-sign_mark Minus = refl
sign_of-sign_mark Not = refl

-- a refusal is no want of memory
pub refused_no_memory : (spots : List Spot) → refusal_of spots ≡ error.Memory → ⊥
refused_no_memory [] e = cc
refused_no_memory (spot ∷ rest) e = by (is_outside spot.kind) e
  where
    by : (b : Bool) → (if b then error.Unsupported spot.at else error.Syntax spot.at) ≡ error.Memory → ⊥
    by true e = cc
    by false e = cc

-- ---- the first token

pub operand-place : (o : Operand) (later : List Spot) → place_at (operand_spots o ++ later) ≡ operand_place o
operand-place (Number at value) later = refl
operand-place (Named at name) later = refl
operand-place (Called (Applied at name opened args closed)) later = refl
operand-place (Bracketed opened inner closed) later = refl
operand-place (Signed at sign inner) later = refl

pub expression-place : (e : Expression) (later : List Spot) → place_at (expression_spots e ++ later) ≡ place e
expression-place (Single o) later = operand-place o later
expression-place (Joined left at op right) later = ap place_at (append_assoc (expression_spots left) _ later) ∙ expression-place left _

-- no operand begins with a closing bracket
pub operand-opens : (o : Operand) (later : List Spot) → begins_with marks.CloseRound (operand_spots o ++ later) ≡ false
operand-opens (Number at value) later = refl
operand-opens (Named at name) later = refl
operand-opens (Called (Applied at name opened args closed)) later = refl
operand-opens (Bracketed opened inner closed) later = refl
operand-opens (Signed at Plus inner) later = refl
operand-opens (Signed at Minus inner) later = refl
operand-opens (Signed at Not inner) later = refl

pub expression-opens : (e : Expression) (later : List Spot) → begins_with marks.CloseRound (expression_spots e ++ later) ≡ false
expression-opens (Single o) later = operand-opens o later
expression-opens (Joined left at op right) later =
    ap (begins_with marks.CloseRound) (append_assoc (expression_spots left) _ later) ∙ expression-opens left _

-- nor with a semicolon
pub operand-no_semi : (o : Operand) (later : List Spot) → begins_with marks.Semi (operand_spots o ++ later) ≡ false
operand-no_semi (Number at value) later = refl
operand-no_semi (Named at name) later = refl
operand-no_semi (Called (Applied at name opened args closed)) later = refl
operand-no_semi (Bracketed opened inner closed) later = refl
operand-no_semi (Signed at Plus inner) later = refl
operand-no_semi (Signed at Minus inner) later = refl
operand-no_semi (Signed at Not inner) later = refl

pub expression-no_semi : (e : Expression) (later : List Spot) → begins_with marks.Semi (expression_spots e ++ later) ≡ false
expression-no_semi (Single o) later = operand-no_semi o later
expression-no_semi (Joined left at op right) later = ap (begins_with marks.Semi) (append_assoc (expression_spots left) _ later) ∙ expression-no_semi left _

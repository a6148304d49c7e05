-- How operators are spelled, and how loosely those with two operands bind.
use Rattle.std.specs.Prelude.{ℕ}
use Rattle.c_lexer.specs.declared.mark.Mark.{Mark}
use Rattle.c_lexer.specs.declared.mark.Mark.TheVariants as marks
use Rattle.syntax_tree.specs.declared.op.Op.{Op}
use Rattle.syntax_tree.specs.declared.op.Op.TheVariants.{Add, Sub, Mul, Div, Rem, Lt, Le, Gt, Ge, Eq, Ne, And, Or}
use Rattle.syntax_tree.specs.declared.op.Sign.{Sign}
use Rattle.syntax_tree.specs.declared.op.Sign.TheVariants.{Plus, Minus, Not}

-- the mark that spells an operator with one operand (C11 6.5.3.3)
abbrev pub sign_mark : Sign → Mark
sign_mark Plus = marks.Plus
sign_mark Minus = marks.Minus
sign_mark Not = marks.Bang

-- the mark that spells an operator with two operands
abbrev pub op_mark : Op → Mark
op_mark Or = marks.OrOr
op_mark And = marks.AndAnd
op_mark Eq = marks.Same
op_mark Ne = marks.Differ
op_mark Lt = marks.Less
op_mark Le = marks.LessEqual
op_mark Gt = marks.More
op_mark Ge = marks.MoreEqual
op_mark Add = marks.Plus
op_mark Sub = marks.Minus
op_mark Mul = marks.Star
op_mark Div = marks.Slash
op_mark Rem = marks.Percent

-- how loosely an operator binds: one number for each of the clauses C11 6.5.5, 6.5.6, 6.5.8, 6.5.9,
-- 6.5.13 and 6.5.14
abbrev pub rank : Op → ℕ
rank Mul = 0
rank Div = 0
rank Rem = 0
rank Add = 1
rank Sub = 1
rank Lt = 2
rank Le = 2
rank Gt = 2
rank Ge = 2
rank Eq = 3
rank Ne = 3
rank And = 4
rank Or = 5

-- an operator and `=` in one mark (C11 6.5.16.2)
pub data Compound : Type 0 where
  PlusEqual MinusEqual StarEqual SlashEqual PercentEqual : Compound

-- the mark that spells an operator and `=` together (C11 6.5.16.2)
abbrev pub compound_mark : Compound → Mark
compound_mark PlusEqual = marks.PlusAssign
compound_mark MinusEqual = marks.MinusAssign
compound_mark StarEqual = marks.StarAssign
compound_mark SlashEqual = marks.SlashAssign
compound_mark PercentEqual = marks.PercentAssign

-- the operator that is joined with `=` (C11 6.5.16.2)
abbrev pub compound_op : Compound → Op
compound_op PlusEqual = Add
compound_op MinusEqual = Sub
compound_op StarEqual = Mul
compound_op SlashEqual = Div
compound_op PercentEqual = Rem

-- one more, or one less (C11 6.5.2.4 and 6.5.3.1)
pub data Count : Type 0 where
  Up Down : Count

-- the mark that counts up or down by one (C11 6.5.2.4 and 6.5.3.1)
abbrev pub count_mark : Count → Mark
count_mark Up = marks.PlusPlus
count_mark Down = marks.MinusMinus

-- the operator that adds the one or takes it away
abbrev pub count_op : Count → Op
count_op Up = Add
count_op Down = Sub

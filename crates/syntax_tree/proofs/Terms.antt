-- The plain form of an expression, case by case.
use Rattle.std.proofs.Common.{◌≡◌, ℕ, sym, ap, ◌∙◌, ℤ}
use Rattle.syntax_tree.specs.declared.op.Op.{Op}
use Rattle.syntax_tree.specs.declared.op.Sign.{Sign}
use Rattle.syntax_tree.specs.declared.core_expr.Core.{Core, fold-roll-Core}
use Rattle.syntax_tree.specs.declared.core_expr.Core.TheOpen.{Core-F}
use Rattle.syntax_tree.specs.declared.core_expr.Core.TheVariants as made
use Rattle.syntax_tree.specs.Term.{Term, Lit, Col, Unary, Binary, term_layer, term_of}

pub term_of-Lit : (value : ℤ) → term_of (made.Lit value) ≡ Lit value
term_of-Lit value = ap term_of (sym (made.rolls-Lit value)) ∙ fold-roll-Core Term term_layer (Core-F.Lit value)

pub term_of-Col : (col : ℕ) → term_of (made.Col col) ≡ Col col
term_of-Col col = ap term_of (sym (made.rolls-Col col)) ∙ fold-roll-Core Term term_layer (Core-F.Col col)

pub term_of-Unary : (sign : Sign) (inner : Core) → term_of (made.Unary sign inner) ≡ Unary sign (term_of inner)
term_of-Unary sign inner = ap term_of (sym (made.rolls-Unary sign inner)) ∙ fold-roll-Core Term term_layer (Core-F.Unary sign inner)

pub term_of-Binary : (op : Op) (left right : Core) → term_of (made.Binary op left right) ≡ Binary op (term_of left) (term_of right)
term_of-Binary op left right = ap term_of (sym (made.rolls-Binary op left right)) ∙ fold-roll-Core Term term_layer (Core-F.Binary op left right)

pub ruleset terms = (term_of-Lit, term_of-Col, term_of-Unary, term_of-Binary)

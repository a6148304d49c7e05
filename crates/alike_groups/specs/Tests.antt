-- Tests that decide whether two groups are alike, by plain lists and the plain forms of statements.
use mathlib.Core.Bool.{beq}
use Rattle.std.specs.Prelude.{ℕ, nat_eq, Bool, true, false, not, ◌&&◌, ◌==◌, List, [], ◌∷◌, length, Option, None, Some, is_some, slice_get}
use Rattle.std.specs.Cmp.Lexicographic.{pointwise}
use Rattle.std.specs.Option.{option_eq}
use Rattle.std.specs.Ordering.{int_eq}
use denote.Enum.Bare.{sameb}
use Rattle.linear_terms.specs.Equality.{poly_eq}
use Rattle.linear_terms.specs.contracts.row.Kind.{the_type as the_kinds}
use Rattle.linear_terms.specs.declared.row.Case.{Case}
use Rattle.linear_terms.specs.declared.row.Row.{Row}
use Rattle.syntax_tree.specs.Code.{Statement, Set, Any, Call, Guard, Check, If, Loop, Break, Continue, Return, Code, End, Then, code_of}
use Rattle.syntax_tree.specs.Term.{Term, Lit, Col, Unary, Binary}
use Rattle.syntax_tree.specs.WellFormed.{has_name}
use Rattle.syntax_tree.specs.contracts.op.Op.{the_type as the_operators}
use Rattle.syntax_tree.specs.contracts.op.Sign.{the_type as the_signs}
use Rattle.syntax_tree.specs.declared.program.Proc.{Proc}
use Rattle.syntax_tree.specs.declared.program.Program.{Program}
use Rattle.transition_formula.specs.Transition.{Transition}
use Rattle.newton_rounds.specs.Members.{place_of}

-- ---- formulas

-- whether two rows have the same polynomial and the same kind
abbrev pub is_same_row : Row → Row → Bool
is_same_row row other = poly_eq row.poly other.poly && sameb the_kinds row.kind other.kind

-- whether two cases have as many auxiliaries, and the same rows and posts in the same order
abbrev pub is_same_case : Case → Case → Bool
is_same_case case other =
    case.aux == other.aux
    && (pointwise is_same_row case.rows other.rows && pointwise poly_eq case.post other.post)

-- whether two formulas go between as many columns, by the same cases in the same order
unfoldable pub is_same_formula : Transition → Transition → Bool
is_same_formula f g = f.from == g.from && (f.to == g.to && pointwise is_same_case f.cases g.cases)

-- ---- procedures that are called

-- the same place in both groups; or both stand outside, and the same is known
abbrev pub is_alike_place : Option ℕ → Option ℕ → Bool → Bool
is_alike_place (Some place) (Some there) known = place == there
is_alike_place None None known = known
is_alike_place _ _ known = false

-- whether two procedures that are called stand at the same place of their groups; or both outside,
-- with the same known of them
unfoldable pub is_alike_callee : List ℕ → List ℕ → List (Option Transition)
    → List (Option Transition) → ℕ → ℕ → Bool
is_alike_callee procs others known other_known proc next =
    is_alike_place (place_of proc procs) (place_of next others)
    (option_eq (option_eq is_same_formula) (slice_get known proc) (slice_get other_known next))

-- no number stands at two places
abbrev pub stand_once : List ℕ → Bool
stand_once [] = true
stand_once (n ∷ ns) = not (is_some (place_of n ns)) && stand_once ns

-- ---- statements, by a test of the procedures that are called

-- whether two terms are the same, with the same numbers, columns and operators
abbrev pub is_same_term : Term → Term → Bool
is_same_term (Lit value) (Lit given) = int_eq value given
is_same_term (Col col) (Col given) = col == given
is_same_term (Unary sign inner) (Unary given next) = sameb the_signs sign given
    && is_same_term inner next
is_same_term (Binary op left right) (Binary given next last) = sameb the_operators op given
    && (is_same_term left next && is_same_term right last)
is_same_term _ _ = false

abbrev mutual
  pub is_alike_statement : (ℕ → ℕ → Bool) → Statement → Statement → Bool
  is_alike_statement test (Set col value) (Set to given) = col == to && is_same_term value given
  is_alike_statement test (Any col) (Any to) = col == to
  is_alike_statement test (Call proc args into) (Call callee given to) =
      test proc callee && (pointwise is_same_term args given && option_eq nat_eq into to)
  is_alike_statement test (Guard cond) (Guard given) = is_same_term cond given
  is_alike_statement test (Check number cond) (Check other given) = is_same_term cond given
  is_alike_statement test (If cond on_true on_false) (If given true_code false_code) =
      is_same_term cond given
      && (is_alike_code test on_true true_code && is_alike_code test on_false false_code)
  is_alike_statement test (Loop pre cond body step first) (Loop begin given turn end at) =
      is_alike_code test pre begin
      && (is_same_term cond given
      && (is_alike_code test body turn && (is_alike_code test step end && beq first at)))
  is_alike_statement test Break Break = true
  is_alike_statement test Continue Continue = true
  is_alike_statement test Return Return = true
  is_alike_statement test _ _ = false

  pub is_alike_code : (ℕ → ℕ → Bool) → Code → Code → Bool
  is_alike_code test End End = true
  is_alike_code test (Then statement rest) (Then other others) =
      is_alike_statement test statement other && is_alike_code test rest others
  is_alike_code test _ _ = false

-- ---- procedures

-- whether two procedures are alike: as many globals, the same rule, parameters and value, names at
-- the same columns, and alike code
abbrev pub is_alike_proc : (ℕ → ℕ → Bool) → Program → Program → Proc → Proc → Bool
is_alike_proc test program other p q =
    length program.globals == length other.globals
    && (program.rule == other.rule
    && (p.params == q.params
    && (beq p.returns q.returns
    && (pointwise (λ a b. beq (has_name a) (has_name b)) p.columns q.columns
    && is_alike_code test (code_of p.body) (code_of q.body)))))

-- whether both procedures are there, and alike
abbrev pub are_found_alike : (ℕ → ℕ → Bool) → Program → Program → Option Proc → Option Proc → Bool
are_found_alike test program other (Some p) (Some q) = is_alike_proc test program other p q
are_found_alike test program other _ _ = false

-- whether two procedures, by their numbers in two programs, are there and alike
abbrev pub is_alike_member : (ℕ → ℕ → Bool) → Program → Program → ℕ → ℕ → Bool
is_alike_member test program other proc next =
    are_found_alike test program other (slice_get program.procs proc) (slice_get other.procs next)

-- ---- groups

-- whether two groups are alike: no procedure stands twice, what is known has a place for each
-- procedure, and the members at the same places are alike
abbrev pub are_alike_groups : (ℕ → ℕ → Bool) → Program → Program → List ℕ → List ℕ
    → List (Option Transition) → List (Option Transition) → Bool
are_alike_groups test program other procs others known other_known =
    stand_once procs
    && (stand_once others
    && (length known == length program.procs
    && (length other_known == length other.procs
    && pointwise (is_alike_member test program other) procs others)))

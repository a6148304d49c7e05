-- The formulas of edges have canonical rows.
use Rattle.std.proofs.Common.{◌≡◌, ℕ, zero, suc, ◌+◌, ℤ, pos, negsuc, Bool, true, false, List, [], ◌∷◌, ◌++◌, length, map, Option, Some, None, Ok, Err, refl, arith}
use Rattle.std.specs.Prelude.{slice_get, unwrap_or}
use Rattle.std.specs.List.{AllByRecursion, cons_option, flat_map}
use Rattle.items.specs.Gives.{◌>>=◌}
use Rattle.items.proofs.Gives.{on_ok}
use Rattle.items.proofs.Each.{each-any, each-append, each-flat_map, each-map, each-more}
use Rattle.linear_terms.specs.declared.col.Col.{Col}
use Rattle.linear_terms.specs.declared.col.Col.TheVariants.{At, Aux}
use Rattle.linear_terms.specs.declared.row.Row.{Row}
use Rattle.linear_terms.specs.declared.row.Case.{Case}
use Rattle.linear_terms.specs.Auxiliaries.{renumbered_polynomial}
use Rattle.linear_terms.specs.Operations.{difference_of_polys, multiple_of, product_of_polys, sum_of_polys}
use Rattle.linear_terms.specs.Polynomial.{Polynomial, IsCanonical, Terms, column_of, constant_of}
use Rattle.linear_terms.proofs.Canonical.{IsCanonical-column, IsCanonical-difference_of_polys, IsCanonical-multiple_of, IsCanonical-nil, IsCanonical-product_of_polys, IsCanonical-substituted, IsCanonical-sum_of_polys}
use Rattle.linear_terms.proofs.Columns.{EachColumn}
use Rattle.linear_terms.proofs.Numbering.{IsCanonical-renumbered, Keeps, Occurring}
use Rattle.transition_formula.specs.Composition.{Operation, after_case, row_of, rows_by, sequence_of_cases}
use Rattle.transition_formula.specs.Renumbering.{renumbered_row}
use Rattle.transition_formula.specs.Transition.{Transition}
use Rattle.syntax_tree.specs.declared.op.Op.{Op}
use Rattle.syntax_tree.specs.declared.op.Op.TheVariants.{Add, Sub, Mul, Div, Rem, Lt, Le, Gt, Ge, Eq, Ne, And, Or}
use Rattle.syntax_tree.specs.declared.op.Sign.{Sign}
use Rattle.syntax_tree.specs.declared.op.Sign.TheVariants.{Plus, Minus, Not}
use Rattle.syntax_tree.specs.Code.{Statement, Set, Any, Call, Guard, Check, If, Loop, Break, Continue, Return}
use Rattle.syntax_tree.specs.Term as terms
use Rattle.leaf_cases.specs.declared.division.DivisionPart.TheVariants.{Quotient, Remainder}
use Rattle.leaf_cases.specs.declared.division.Signs.{Signs}
use Rattle.leaf_cases.specs.declared.step.Arithmetic.{Arithmetic}
use Rattle.leaf_cases.specs.declared.step.Arithmetic.TheVariants.{Negate, Sum, Difference, Product}
use Rattle.leaf_cases.specs.declared.step.TestRelation.{TestRelation}
use Rattle.leaf_cases.specs.declared.step.TestRelation.TheVariants.{Less, LessOrEqual, Greater, GreaterOrEqual, Same, Negative, Positive, Zero}
use Rattle.leaf_cases.specs.declared.step.CaseStep.{CaseStep}
use Rattle.leaf_cases.specs.declared.step.CaseStep.TheVariants.{Value, Divide, Test}
use Rattle.leaf_cases.specs.Claims.{Answer, Claim, case_with_claims, rows_of, case_with_value}
use Rattle.leaf_cases.specs.Division.{all_signs, divisor_sign, dividend_sign, division, equation, lower_bound, minus_one, one, upper_bound}
use Rattle.leaf_cases.specs.Division as division
use Rattle.leaf_cases.specs.Edges.{arguments_after, arguments_of, call_of, call_sequence, cut, entering, awaited_count, known_call, leaf_of, leaving_case, no_values, set_case}
use Rattle.leaf_cases.specs.Expression.{Lists, by, calculation_lists, comparison_list, comparison, one_case, lists_of, number_cases, of_number, of_test, operator_lists, opposite, sign_lists, tests_of}
use Rattle.leaf_cases.specs.Guard.{columns_of}
use Rattle.leaf_cases.specs.Guard as guards
use Rattle.leaf_cases.specs.Listed.{Listed, beside, both, either, together}
use Rattle.leaf_cases.specs.Steps.{cases_by, division_at, cases_of_step, one_more, operand, part_at, test_at, test_claim, value_at, with_number}

-- each row has its monomials in print order, each once
abbrev IsCanonicalRow : Row → Type 0
IsCanonicalRow row = IsCanonical row.poly.terms

abbrev AreCanonicalRows : List Row → Type 0
AreCanonicalRows rows = AllByRecursion IsCanonicalRow rows

abbrev AreCanonicalPolys : List Polynomial → Type 0
AreCanonicalPolys ps = AllByRecursion (λ p. IsCanonical p.terms) ps

abbrev IsCanonicalCase : Case → Type 0
IsCanonicalCase case = AreCanonicalRows case.rows

abbrev pub HaveCanonicalRows : List Case → Type 0
HaveCanonicalRows cases = AllByRecursion (λ (case : Case). AllByRecursion (λ (row : Row). IsCanonical row.poly.terms) case.rows) cases

-- ---- operations

record IsCanonicalIfMade (m : Answer) : Type 0 where
  as_made : (p : Polynomial) → m ≡ Ok p → IsCanonical p.terms

abbrev Fine : Polynomial → Type 0
Fine p = IsCanonical p.terms

constant-fine : (n : ℤ) → Fine (constant_of n)
constant-fine n = IsCanonical-nil

column-fine : (c : Col) → Fine (column_of c)
column-fine c = IsCanonical-column (c ∷ [])

sum-fine : (a b : Polynomial) → Fine a → IsCanonicalIfMade (sum_of_polys a b)
sum-fine a b h = record { as_made = λ p e. IsCanonical-sum_of_polys a b p e h }

difference-fine : (a b : Polynomial) → Fine a → IsCanonicalIfMade (difference_of_polys a b)
difference-fine a b h = record { as_made = λ p e. IsCanonical-difference_of_polys a b p e h }

multiple-fine : (a : Polynomial) (n : ℤ) → Fine a → IsCanonicalIfMade (multiple_of a n)
multiple-fine a n h = record { as_made = λ p e. IsCanonical-multiple_of a n p e h }

product-fine : (a b : Polynomial) → IsCanonicalIfMade (product_of_polys a b)
product-fine a b = record { as_made = λ p e. IsCanonical-product_of_polys a b p e }

then-fine : (m : Answer) (f : Polynomial → Answer) → IsCanonicalIfMade m → ((p : Polynomial) → Fine p → IsCanonicalIfMade (f p)) → IsCanonicalIfMade (m >>= f)
then-fine m f h k = record { as_made = λ r e. on_ok m f r e (λ p g l. (k p (h.as_made p g)).as_made r l) }

-- ---- rows that are added

abbrev AreFineClaims : List Claim → Type 0
AreFineClaims claims = AllByRecursion (λ (claim : Claim). IsCanonicalIfMade claim.poly) claims

rows_of-fine : (claims : List Claim) → AreFineClaims claims → AreCanonicalRows (rows_of claims)
rows_of-fine [] h = tt
rows_of-fine (claim ∷ claims) h = go claim.poly refl (rows_of-fine claims h.1)
  where
    go : (r : Answer) → claim.poly ≡ r → AreCanonicalRows (rows_of claims) → AreCanonicalRows (cons_option (row_of claim.kind r) (rows_of claims))
    go (Ok p) e later = (h.0.as_made p e, later)
    go (Err x) e later = later

-- rows and posts
abbrev IsFineCase : Case → Type 0
IsFineCase case = AreCanonicalRows case.rows × AreCanonicalPolys case.post

abbrev AreFine : List Case → Type 0
AreFine cases = AllByRecursion IsFineCase cases

limited-fine : (case : Case) (more : ℕ) (claims : List Claim) (post : List Polynomial) → AreCanonicalRows case.rows → AreFineClaims claims → AreCanonicalPolys post → IsFineCase (case_with_claims case more claims post)
limited-fine case more claims post h k l = (each-append IsCanonicalRow case.rows (rows_of claims) h (rows_of-fine claims k), l)

valued-fine : (case : Case) (a : Answer) → AreCanonicalRows case.rows → IsCanonicalIfMade a → IsFineCase (case_with_value case a)
valued-fine case (Ok p) h k = limited-fine case 0 [] (p ∷ []) h tt (k.as_made p refl, tt)
valued-fine case (Err e) h k = limited-fine case 1 [] (column_of (Aux case.aux) ∷ []) h tt (column-fine (Aux case.aux), tt)

operand-fine : (n : ℕ) (case : Case) → AreCanonicalPolys case.post → Fine (operand n case)
operand-fine n case h = go n case.post h
  where
    go : (n : ℕ) (ps : List Polynomial) → AreCanonicalPolys ps → Fine (unwrap_or (slice_get ps n) division.zero)
    go n [] h = constant-fine (pos 0)
    go zero (p ∷ ps) h = h.0
    go (suc n) (p ∷ ps) h = go n ps h.1

-- ---- steps

value_at-fine : (op : Arithmetic) (a b : Polynomial) → Fine a → IsCanonicalIfMade (value_at op a b)
value_at-fine Negate a b h = multiple-fine a (negsuc 0) h
value_at-fine Sum a b h = sum-fine a b h
value_at-fine Difference a b h = difference-fine a b h
value_at-fine Product a b h = product-fine a b

one_more-fine : (a b : Polynomial) → Fine a → IsCanonicalIfMade (one_more a b)
one_more-fine a b h = then-fine (difference_of_polys a b) (λ d. sum_of_polys d one) (difference-fine a b h) (λ d k. sum-fine d one k)

test_at-fine : (relation : TestRelation) (a b : Polynomial) → Fine a → Fine b → IsCanonicalIfMade (test_at relation a b)
test_at-fine Less a b h k = one_more-fine a b h
test_at-fine LessOrEqual a b h k = difference-fine a b h
test_at-fine Greater a b h k = one_more-fine b a k
test_at-fine GreaterOrEqual a b h k = difference-fine b a k
test_at-fine Same a b h k = difference-fine a b h
test_at-fine Negative a b h k = difference-fine a minus_one h
test_at-fine Positive a b h k = difference-fine one a (constant-fine (pos 1))
test_at-fine Zero a b h k = difference-fine a division.zero h

equation-fine : (a b q r : Polynomial) → Fine a → IsCanonicalIfMade (equation a b q r)
equation-fine a b q r h =
    then-fine (product_of_polys q b) (λ p. difference_of_polys a p >>= λ d. difference_of_polys d r) (product-fine q b) (λ p k.
    then-fine (difference_of_polys a p) (λ d. difference_of_polys d r) (difference-fine a p h) (λ d l. difference-fine d r l))

divisor-fine : (sign : Bool) (b : Polynomial) → Fine b → IsCanonicalIfMade (divisor_sign sign b)
divisor-fine true b h = difference-fine one b (constant-fine (pos 1))
divisor-fine false b h = difference-fine b minus_one h

dividend-fine : (sign : Bool) (a : Polynomial) → Fine a → IsCanonicalIfMade (dividend_sign sign a)
dividend-fine true a h = difference-fine division.zero a (constant-fine (pos 0))
dividend-fine false a h = difference-fine a minus_one h

lower-fine : (divisor dividend : Bool) (b r : Polynomial) → Fine b → IsCanonicalIfMade (lower_bound divisor dividend b r)
lower-fine true true b r h = difference-fine division.zero r (constant-fine (pos 0))
lower-fine false true b r h = difference-fine division.zero r (constant-fine (pos 0))
lower-fine true false b r h =
    then-fine (multiple_of b (negsuc 0)) (λ turned. sum_of_polys turned one >>= λ least. difference_of_polys least r) (multiple-fine b (negsuc 0) h) (λ turned k.
    then-fine (sum_of_polys turned one) (λ least. difference_of_polys least r) (sum-fine turned one k) (λ least l. difference-fine least r l))
lower-fine false false b r h = then-fine (sum_of_polys b one) (λ least. difference_of_polys least r) (sum-fine b one h) (λ least l. difference-fine least r l)

upper-fine : (divisor dividend : Bool) (b r : Polynomial) → Fine b → Fine r → IsCanonicalIfMade (upper_bound divisor dividend b r)
upper-fine true true b r h k = then-fine (difference_of_polys b one) (λ most. difference_of_polys r most) (difference-fine b one h) (λ most l. difference-fine r most k)
upper-fine false true b r h k =
    then-fine (multiple_of b (negsuc 0)) (λ turned. difference_of_polys turned one >>= λ most. difference_of_polys r most) (multiple-fine b (negsuc 0) h) (λ turned l.
    then-fine (difference_of_polys turned one) (λ most. difference_of_polys r most) (difference-fine turned one l) (λ most m. difference-fine r most k))
upper-fine true false b r h k = difference-fine r division.zero k
upper-fine false false b r h k = difference-fine r division.zero k

division-fine : (signs : Signs) (case : Case) → AreCanonicalPolys case.post → AreFineClaims (division_at signs case)
division-fine signs case h =
    let a = operand 0 case in
    let b = operand 1 case in
    let q = column_of (Aux case.aux) in
    let r = column_of (Aux (case.aux + 1)) in (
      equation-fine a b q r (operand-fine 0 case h),
      (divisor-fine signs.divisor b (operand-fine 1 case h), (dividend-fine signs.dividend a (operand-fine 0 case h), (lower-fine signs.divisor signs.dividend b r (operand-fine 1 case h), (upper-fine signs.divisor signs.dividend b r (operand-fine 1 case h) (column-fine (Aux (case.aux + 1))), tt)))),
    )

made_at-fine : (step : CaseStep) (case : Case) → IsFineCase case → AreFine (cases_of_step step case)
made_at-fine (Value op) case h = (valued-fine case (value_at op (operand 0 case) (operand 1 case)) h.0 (value_at-fine op (operand 0 case) (operand 1 case) (operand-fine 0 case h.1)), tt)
made_at-fine (Divide part) case h =
    each-map (λ (signs : Signs). Unit {0}) IsFineCase (λ signs. case_with_claims case 2 (division_at signs case) (column_of (Aux (part_at part case.aux)) ∷ []))
    (λ signs any. limited-fine case 2 (division_at signs case) (column_of (Aux (part_at part case.aux)) ∷ []) h.0 (division-fine signs case h.1) (column-fine (Aux (part_at part case.aux)), tt))
    all_signs (each-any (λ signs. Unit {0}) (λ signs. tt) all_signs)
made_at-fine (Test relation) case h =
    (limited-fine case 0 (test_claim relation case ∷ []) [] h.0 (test_at-fine relation (operand 0 case) (operand 1 case) (operand-fine 0 case h.1) (operand-fine 1 case h.1), tt) tt, tt)

cases_by-fine : (steps : List CaseStep) (cases : List Case) → AreFine cases → AreFine (cases_by steps cases)
unfolding cases_by
cases_by-fine steps cases h =
    each-flat_map (λ (step : CaseStep). Unit {0}) IsFineCase (λ step. flat_map (cases_of_step step) cases)
    (λ step any. each-flat_map IsFineCase IsFineCase (cases_of_step step) (made_at-fine step) cases h) steps (each-any (λ step. Unit {0}) (λ step. tt) steps)

-- ---- two cases together

module _ (a : ℕ) where
  abbrev Anything : ℕ → Type 0
  Anything n = Unit {0}

  later : Keeps (λ n. a + n) Anything
  later = record { order = λ m n h k lt. omega (arith, lt) }

  columns-any : (ts : Terms) → EachColumn (Occurring Anything) ts
  columns-any ts = each-any (λ t. AllByRecursion (Occurring Anything) t.0) (λ t. each-any (Occurring Anything) one t.0) ts
    where
      one : (c : Col) → Occurring Anything c
      one (At n) = tt
      one (Aux n) = tt

  later-fine : (p : Polynomial) → Fine p → Fine (renumbered_polynomial (λ n. a + n) p)
  later-fine p h = IsCanonical-renumbered (λ n. a + n) Anything later p.terms (columns-any p.terms) h

beside-fine : (x y : Case) → IsFineCase x → IsFineCase y → IsFineCase (beside x y)
beside-fine x y h k = (
  each-append IsCanonicalRow x.rows (map (renumbered_row (λ n. x.aux + n)) y.rows) h.0 (each-map IsCanonicalRow IsCanonicalRow (renumbered_row (λ n. x.aux + n)) (λ row l. later-fine x.aux row.poly l) y.rows k.0),
  each-append Fine x.post (map (renumbered_polynomial (λ n. x.aux + n)) y.post) h.1 (each-map Fine Fine (renumbered_polynomial (λ n. x.aux + n)) (λ p l. later-fine x.aux p l) y.post k.1),
)

abbrev IsFineList : Listed → Type 0
IsFineList list = AreFine list.cases

together-fine : (a b : Listed) → IsFineList a → IsFineList b → IsFineList (together a b)
unfolding both
together-fine a b h k =
    each-flat_map IsFineCase IsFineCase (λ x. map (beside x) b.cases) (λ x l. each-map IsFineCase IsFineCase (beside x) (λ y m. beside-fine x y l m) b.cases k) a.cases h

either-fine : (a b : Listed) → IsFineList a → IsFineList b → IsFineList (either a b)
either-fine a b h k = each-append IsFineCase a.cases b.cases h k

-- ---- expressions

record AreFineLists (lists : Lists) : Type 0 where
  value : IsFineList lists.value
  truth : IsFineList lists.truth
  falsity : IsFineList lists.falsity

by-fine : (steps : List CaseStep) (list : Listed) → IsFineList list → IsFineList (by steps list)
by-fine steps list h = cases_by-fine steps list.cases h

known-fine : (p : Polynomial) → Fine p → IsFineList (one_case p)
known-fine p h = ((tt, (h, tt)), tt)

numbered-fine : (n : ℤ) (list : Listed) → IsFineList list → IsFineList (number_cases n list)
numbered-fine n list h = each-map IsFineCase IsFineCase (with_number n) (λ case k. limited-fine case 0 [] (constant_of n ∷ []) k.0 tt (constant-fine n, tt)) list.cases h

number-fine : (value : Listed) → IsFineList value → AreFineLists (of_number value)
number-fine value h = record { value = h; truth = by-fine (Test Negative ∷ Test Positive ∷ []) value h; falsity = by-fine (Test Zero ∷ []) value h }

test-fine : (truth falsity : Listed) → IsFineList truth → IsFineList falsity → AreFineLists (of_test truth falsity)
test-fine truth falsity h k = record {
  value = either-fine (number_cases (pos 1) truth) (number_cases (pos 0) falsity) (numbered-fine (pos 1) truth h) (numbered-fine (pos 0) falsity k);
  truth = h;
  falsity = k;
}

sign-fine : (sign : Sign) (inner : Lists) → AreFineLists inner → AreFineLists (sign_lists sign inner)
sign-fine Plus inner h = number-fine inner.value h.value
sign-fine Minus inner h = number-fine (by (Value Negate ∷ []) inner.value) (by-fine (Value Negate ∷ []) inner.value h.value)
sign-fine Not inner h = test-fine inner.falsity inner.truth h.falsity h.truth

module _ (left right : Lists) (h : AreFineLists left) (k : AreFineLists right) where
  calculated-fine : (step : CaseStep) → AreFineLists (calculation_lists step left right)
  calculated-fine step = number-fine (by (step ∷ []) (together left.value right.value)) (by-fine (step ∷ []) (together left.value right.value) (together-fine left.value right.value h.value k.value))

  compared-fine : (op : Op) → IsFineList (comparison_list op left right)
  compared-fine op = by-fine (tests_of op) (together left.value right.value) (together-fine left.value right.value h.value k.value)

  comparison-fine : (op : Op) → AreFineLists (comparison op left right)
  comparison-fine op = test-fine (comparison_list op left right) (comparison_list (opposite op) left right) (compared-fine op) (compared-fine (opposite op))

  operator-fine : (op : Op) → AreFineLists (operator_lists op left right)
  operator-fine Add = calculated-fine (Value Sum)
  operator-fine Sub = calculated-fine (Value Difference)
  operator-fine Mul = calculated-fine (Value Product)
  operator-fine Div = calculated-fine (Divide Quotient)
  operator-fine Rem = calculated-fine (Divide Remainder)
  operator-fine And =
      test-fine (together left.truth right.truth) (either left.falsity (together left.truth right.falsity)) (together-fine left.truth right.truth h.truth k.truth)
      (either-fine left.falsity (together left.truth right.falsity) h.falsity (together-fine left.truth right.falsity h.truth k.falsity))
  operator-fine Or =
      test-fine (either left.truth (together left.falsity right.truth)) (together left.falsity right.falsity)
      (either-fine left.truth (together left.falsity right.truth) h.truth (together-fine left.falsity right.truth h.falsity k.truth)) (together-fine left.falsity right.falsity h.falsity k.falsity)
  operator-fine Lt = comparison-fine Lt
  operator-fine Le = comparison-fine Le
  operator-fine Gt = comparison-fine Gt
  operator-fine Ge = comparison-fine Ge
  operator-fine Eq = comparison-fine Eq
  operator-fine Ne = comparison-fine Ne

lists-fine : (e : terms.Term) → AreFineLists (lists_of e)
unfolding lists_of
lists-fine (terms.Lit value) = number-fine (one_case (constant_of value)) (known-fine (constant_of value) (constant-fine value))
lists-fine (terms.Col col) = number-fine (one_case (column_of (At col))) (known-fine (column_of (At col)) (column-fine (At col)))
lists-fine (terms.Unary sign inner) = sign-fine sign (lists_of inner) (lists-fine inner)
lists-fine (terms.Binary op left right) = operator-fine (lists_of left) (lists_of right) (lists-fine left) (lists-fine right) op

arguments_after-fine : (made : Listed) (args : List terms.Term) → IsFineList made → IsFineList (arguments_after made args)
arguments_after-fine made [] h = h
arguments_after-fine made (e ∷ rest) h = arguments_after-fine (together made (lists_of e).value) rest (together-fine made (lists_of e).value h (lists-fine e).value)

-- rows and values of arguments
arguments-fine : (args : List terms.Term) → IsFineList (arguments_of args)
unfolding arguments_of
arguments-fine args = arguments_after-fine no_values args ((tt, tt), tt)

-- ---- edges

rows-alone : (cases : List Case) → AreFine cases → HaveCanonicalRows cases
rows-alone cases h = each-more IsFineCase IsCanonicalCase (λ case k. k.0) cases h

-- other posts change no row
posts-canonical : (F : Case → List Polynomial) (cases : List Case) → HaveCanonicalRows cases → HaveCanonicalRows (map (λ case. guards.with_posts (F case) case) cases)
posts-canonical F cases h = each-map IsCanonicalCase IsCanonicalCase (λ case. guards.with_posts (F case) case) (λ case k. k) cases h

rows_by-canonical : (op : Operation) → ((p r : Polynomial) → op p ≡ Ok r → IsCanonical r.terms) → (rows : List Row) → AreCanonicalRows (rows_by op rows)
rows_by-canonical op makes [] = tt
rows_by-canonical op makes (row ∷ rows) = go (op row.poly) refl (rows_by-canonical op makes rows)
  where
    go : (r : Answer) → op row.poly ≡ r → AreCanonicalRows (rows_by op rows) → AreCanonicalRows (cons_option (row_of row.kind r) (rows_by op rows))
    go (Ok p) e h = (makes row.poly p e, h)
    go (Err x) e h = h

sequence-canonical : (firsts seconds : List Case) → HaveCanonicalRows firsts → HaveCanonicalRows (flat_map (λ first. map (sequence_of_cases first) seconds) firsts)
sequence-canonical firsts seconds h =
    each-flat_map IsCanonicalCase IsCanonicalCase (λ x. map (sequence_of_cases x) seconds)
    (λ x k. each-map (λ (y : Case). Unit {0}) IsCanonicalCase (sequence_of_cases x)
    (λ y any. each-append IsCanonicalRow x.rows (rows_by (after_case x y) y.rows) k (rows_by-canonical (after_case x y) (λ p r e. IsCanonical-substituted _ p r e) y.rows))
    seconds (each-any (λ y. Unit {0}) (λ y. tt) seconds)) firsts h

call-canonical : (columns globals : ℕ) (args : List terms.Term) (into : Option ℕ) (callee : Transition) → HaveCanonicalRows (call_of columns globals args into callee).cases
call-canonical columns globals args into callee =
    posts-canonical (λ case. (leaving_case columns globals into case).post) (call_sequence columns globals args into callee).cases
    (sequence-canonical (entering columns globals (length args) (arguments_of args).cases).cases (cut (awaited_count globals into) callee).cases
    (posts-canonical (λ case. columns_of globals ++ case.post) (arguments_of args).cases (rows-alone (arguments_of args).cases (arguments-fine args))))

known_call-canonical : (columns globals : ℕ) (args : List terms.Term) (into : Option ℕ) (o : Option (Option Transition)) → HaveCanonicalRows (known_call columns globals args into o).cases
known_call-canonical columns globals args into None = tt
known_call-canonical columns globals args into (Some None) = tt
known_call-canonical columns globals args into (Some (Some callee)) = call-canonical columns globals args into callee

pub leaf-canonical : (columns globals : ℕ) (known : List (Option Transition)) (s : Statement) → HaveCanonicalRows (leaf_of columns globals known s).cases
leaf-canonical columns globals known (Guard cond) = posts-canonical (λ case. columns_of columns) (lists_of cond).truth.cases (rows-alone (lists_of cond).truth.cases (lists-fine cond).truth)
leaf-canonical columns globals known (Set col value) = posts-canonical (λ case. (set_case columns col case).post) (lists_of value).value.cases (rows-alone (lists_of value).value.cases (lists-fine value).value)
leaf-canonical columns globals known (Any col) = (tt, tt)
leaf-canonical columns globals known (Call proc args into) = known_call-canonical columns globals args into (slice_get known proc)
leaf-canonical columns globals known (Check number cond) = tt
leaf-canonical columns globals known (If cond a b) = tt
leaf-canonical columns globals known (Loop pre cond body step first) = tt
leaf-canonical columns globals known Break = tt
leaf-canonical columns globals known Continue = tt
leaf-canonical columns globals known Return = tt

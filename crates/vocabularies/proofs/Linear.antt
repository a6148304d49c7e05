-- The terms that are harvested are linear, without a constant, and over the columns of their
-- procedure.
use Rattle.std.proofs.Common.{◌≡◌, ℕ, ◌+◌, ◌<◌, ◌≤◌, List, [], ◌∷◌, ◌++◌, length, Bool, true, false, cond, None, Result, Ok, Err, refl, sym, ap, subst, ◌∙◌, arith, zero, suc, ℤ, pos, negsuc, ◌*ℤ◌}
use Rattle.std.specs.Prelude.{IsTrue, int_div, option_to_list, unsigned_abs, take, ◌&&◌, ◌==◌, nat_lt, nat_le, is_some, slice_get}
use Rattle.std.proofs.lemmas.List.{length-take}
use Rattle.std.specs.List.{AllByRecursion, list_all}
use Rattle.std.specs.Map.{values_of}
use Rattle.std.specs.Ordering.{int_eq}
use Rattle.std.proofs.lemmas.Bool.{and_parts, false≢true}
use Rattle.std.proofs.lemmas.Bool.Decides.{Decides-eqb}
use Rattle.std.proofs.lemmas.Int.{ints}
use Rattle.items.specs.Gives.{◌>>=◌}
use Rattle.items.proofs.Gives.{on_ok}
use Rattle.items.proofs.Each.{each-append, each-map, each-more}
use Rattle.whole_numbers.specs.Divisors.{divides, gcd_of_all}
use Rattle.linear_terms.specs.declared.col.Col.{Col}
use Rattle.linear_terms.specs.declared.col.Col.TheVariants.{At, Aux}
use Rattle.linear_terms.specs.declared.error.TermError.{TermError}
use Rattle.linear_terms.specs.declared.row.Kind.TheVariants.{Equal}
use Rattle.linear_terms.specs.declared.row.Normal.{Normal}
use Rattle.linear_terms.specs.declared.row.Normal.TheVariants.{Constant, Kept}
use Rattle.linear_terms.specs.Expressions.{Made, ◌⊟◌, whole, column}
use Rattle.linear_terms.specs.Operations.{with_term, times_each, multiple_of, sum_of_polys, difference_of_polys, product_of_polys}
use Rattle.linear_terms.specs.Polynomial.{Terms, Polynomial, IsCanonical, constant_of, column_of, without_constant}
use Rattle.linear_terms.specs.Equality.{poly_eq}
use Rattle.linear_terms.specs.Row.{divided_terms, reduced_row, with_positive_first, starts_negative, normal_form, is_within, HasCanonicalTerms}
use Rattle.linear_terms.specs.TermError.{times}
use Rattle.linear_terms.proofs.Canonical.{IsCanonical-nil, IsCanonical-column, IsCanonical-sum_of_polys, IsCanonical-multiple_of, IsCanonical-product_of_polys}
use Rattle.linear_terms.proofs.Columns.{EachColumn, sum_of_polys-each, multiple_of-each, product_of_polys-each}
use Rattle.linear_terms.proofs.Normals.{normal_form-HasCanonicalTerms, normal_form-none, normal_form-some}
use Rattle.linear_terms.proofs.Values.{times-value}
use Rattle.transition_formula.specs.Transition.{is_below}
use Rattle.transition_formula.proofs.Fitting.{true-below}
use Rattle.polyhedra.specs.Directions.{distinct}
use Rattle.polyhedra.specs.Vocabulary.{IsDirectionOver}
use Rattle.polyhedra.proofs.DirectionShapes.{each-distinct}
use Rattle.syntax_tree.specs.declared.program.Proc.{Proc}
use Rattle.syntax_tree.specs.declared.program.Program.{Program}
use Rattle.syntax_tree.specs.declared.stmt.Stmt.{Stmt}
use Rattle.syntax_tree.specs.Cases.{cases_of, joint_cases}
use Rattle.syntax_tree.specs.Code.{Statement, Set, Any, Call, Guard, Check, If, Loop, Break, Continue, Return, Code, End, Then, code_of}
use Rattle.syntax_tree.specs.Limits.{most_cases, most_operators}
use Rattle.syntax_tree.specs.declared.op.Op.{Op}
use Rattle.syntax_tree.specs.declared.op.Op.TheVariants.{Add, Sub, Mul, Div, Rem, Lt, Le, Gt, Ge, Eq, Ne, And, Or}
use Rattle.syntax_tree.specs.declared.op.Sign.{Sign}
use Rattle.syntax_tree.specs.declared.op.Sign.TheVariants.{Plus, Minus, Not}
use Rattle.syntax_tree.specs.Term.{Term, Lit, Col as ColTerm, Unary, Binary}
use Rattle.syntax_tree.specs.WellFormed.{columns_below, all_columns_below, operators_of, joint_operators, value_fits, cond_fits, args_fit, into_fits, callee_fits, statement_fits, code_fits, width_of, IsProcFit}
use Rattle.vocabularies.specs.Harvest.{with_sign, combination_of, polynomial_of, is_comparison, is_polynomial, are_single, is_linear, equation_of, kept_term, linear_term, compared_term, compared_terms, compared_each, compared_by, compared_in, most_terms, harvest_of}

abbrev done : Normal → Result Normal TermError
done n = Ok n

-- ---- polynomials of expressions: canonical, and over columns that pass

module _ (P : Col → Type 0) where
  record IsOver (m : Made) : Type 0 where
    canonical : (p : Polynomial) → m ≡ Ok p → IsCanonical p.terms
    columns : (p : Polynomial) → m ≡ Ok p → EachColumn P p.terms

  given : (q : Polynomial) → IsCanonical q.terms → EachColumn P q.terms → IsOver (Ok q)
  given q c h = record {
    canonical = λ p e. let same : q ≡ p = cc in subst (λ (r : Polynomial). IsCanonical r.terms) same c;
    columns = λ p e. let same : q ≡ p = cc in subst (λ (r : Polynomial). EachColumn P r.terms) same h;
  }

  whole-over : (n : ℤ) → IsOver (whole n)
  whole-over n = given (constant_of n) IsCanonical-nil tt

  column-over : (c : Col) → P c → IsOver (column c)
  column-over c h = given (column_of c) (IsCanonical-column (c ∷ [])) ((h, tt), tt)

  -- what is made of one polynomial, and of two
  bind-over : (a : Made) (f : Polynomial → Made) → IsOver a → ((p : Polynomial) → IsCanonical p.terms → EachColumn P p.terms → IsOver (f p)) → IsOver (a >>= f)
  bind-over a f h made = record {
    canonical = λ p e. on_ok a f p e (λ q g k. (made q (h.canonical q g) (h.columns q g)).canonical p k);
    columns = λ p e. on_ok a f p e (λ q g k. (made q (h.canonical q g) (h.columns q g)).columns p k);
  }

  multiple-over : (a : Polynomial) (by : ℤ) → IsCanonical a.terms → EachColumn P a.terms → IsOver (multiple_of a by)
  multiple-over a by c h = record { canonical = λ p e. IsCanonical-multiple_of a by p e c; columns = λ p e. multiple_of-each P a by p e h }

  sum-over : (a b : Polynomial) → IsCanonical a.terms → EachColumn P a.terms → EachColumn P b.terms → IsOver (sum_of_polys a b)
  sum-over a b c h k = record { canonical = λ p e. IsCanonical-sum_of_polys a b p e c; columns = λ p e. sum_of_polys-each P a b p e h k }

  difference-over : (a b : Polynomial) → IsCanonical a.terms → EachColumn P a.terms → IsCanonical b.terms → EachColumn P b.terms → IsOver (difference_of_polys a b)
  difference-over a b c h d k = bind-over (multiple_of b (negsuc 0)) (sum_of_polys a) (multiple-over b (negsuc 0) d k) (λ t e l. sum-over a t c h l)

  product-over : (a b : Polynomial) → EachColumn P a.terms → EachColumn P b.terms → IsOver (product_of_polys a b)
  product-over a b h k = record { canonical = λ p e. IsCanonical-product_of_polys a b p e; columns = λ p e. product_of_polys-each P a b p e h k }

  with_sign-over : (sign : Sign) (a : Polynomial) → IsCanonical a.terms → EachColumn P a.terms → IsOver (with_sign sign a)
  with_sign-over Plus a c h = given a c h
  with_sign-over Minus a c h = multiple-over a (negsuc 0) c h
  with_sign-over Not a c h = whole-over (pos 0)

  combination-over : (op : Op) (a b : Polynomial) → IsCanonical a.terms → EachColumn P a.terms → IsCanonical b.terms → EachColumn P b.terms → IsOver (combination_of op a b)
  combination-over Add a b c h d k = sum-over a b c h k
  combination-over Sub a b c h d k = difference-over a b c h d k
  combination-over Mul a b c h d k = product-over a b h k
  combination-over Div a b c h d k = whole-over (pos 0)
  combination-over Rem a b c h d k = whole-over (pos 0)
  combination-over Lt a b c h d k = whole-over (pos 0)
  combination-over Le a b c h d k = whole-over (pos 0)
  combination-over Gt a b c h d k = whole-over (pos 0)
  combination-over Ge a b c h d k = whole-over (pos 0)
  combination-over Eq a b c h d k = whole-over (pos 0)
  combination-over Ne a b c h d k = whole-over (pos 0)
  combination-over And a b c h d k = whole-over (pos 0)
  combination-over Or a b c h d k = whole-over (pos 0)

  both-over : (a b : Made) (f : Polynomial → Polynomial → Made) → IsOver a → IsOver b
      → ((p q : Polynomial) → IsCanonical p.terms → EachColumn P p.terms → IsCanonical q.terms → EachColumn P q.terms → IsOver (f p q))
      → IsOver (a >>= λ p. b >>= f p)
  both-over a b f h k made = bind-over a (λ p. b >>= f p) h (λ p c l. bind-over b (f p) k (λ q d m. made p q c l d m))

-- ---- the normal form of an equation without a constant

ok-same : (n m : Normal) → done n ≡ done m → n ≡ m
ok-same n m e = cc

module _ (Q : List Col → Type 0) where
  abbrev EachMono : Terms → Type 0
  EachMono ts = AllByRecursion (λ t. Q t.0) ts

  kept-monos : (m : List Col) (c : ℤ) (ts : Terms) → Q m → EachMono ts → EachMono (with_term m c ts)
  kept-monos m c ts q h = go (int_eq c (pos 0))
    where
      go : (b : Bool) → AllByRecursion (λ t. Q t.0) (cond b ts ((m, c) ∷ ts))
      go true = h
      go false = (q, h)

  times_each-monos : (ts : Terms) (by : ℤ) (made : Terms) → times_each ts by ≡ Ok made → EachMono ts → EachMono made
  times_each-monos [] by made e h = let same : [] ≡ made = cc in subst EachMono same tt
  times_each-monos (t ∷ ts) by made e h =
      on_ok (times t.1 by) (λ c. times_each ts by >>= λ more. Ok (with_term t.0 c more)) made e (λ c f g.
      on_ok (times_each ts by) (λ more. Ok (with_term t.0 c more)) made g (λ more k l.
      let same : with_term t.0 c more ≡ made = cc in subst EachMono same (kept-monos t.0 c more h.0 (times_each-monos ts by more k h.1))))

  record HasMonos (p : Polynomial) : Type 0 where
    monos : EachMono p.terms
    plain : p.rest ≡ pos 0

  turned-monos : (p q : Polynomial) → multiple_of p (negsuc 0) ≡ Ok q → HasMonos p → HasMonos q
  turned-monos p q e h =
      on_ok (times_each p.terms (negsuc 0)) (λ ts. times p.rest (negsuc 0) >>= λ r. Ok record { terms = ts; rest = r }) q e (λ ts f g.
      on_ok (times p.rest (negsuc 0)) (λ r. Ok record { terms = ts; rest = r }) q g (λ r k l.
      let same : record { terms = ts; rest = r } ≡ q = cc in
      subst HasMonos same (record { monos = times_each-monos p.terms (negsuc 0) ts f h.monos; plain = times-value p.rest (negsuc 0) r k ∙ ap (λ x. x *ℤ negsuc 0) h.plain ∙ none })))
    where
      none : pos 0 *ℤ negsuc 0 ≡ pos 0
      none = omega (arith, ints)

  positive-monos : (p q : Polynomial) → with_positive_first p ≡ Ok q → HasMonos p → HasMonos q
  positive-monos p q e h = go (starts_negative p.terms) e
    where
      go : (b : Bool) → cond b (multiple_of p (negsuc 0)) (Ok p) ≡ Ok q → HasMonos q
      go true f = turned-monos p q f h
      go false f = let same : p ≡ q = cc in subst HasMonos same h

  abbrev KeptHasMonos : Normal → Type 0
  KeptHasMonos (Constant holds) = Unit {0}
  KeptHasMonos (Kept row) = HasMonos row.poly

  divided-monos : (g : ℕ) (ts : Terms) → EachMono ts → EachMono (divided_terms g ts)
  divided-monos g ts h = each-map (λ t. Q t.0) (λ t. Q t.0) (λ t. (t.0, int_div t.1 (pos g))) (λ t q. q) ts h

  none-divided : (g : ℕ) (z : ℤ) → z ≡ pos 0 → int_div z (pos g) ≡ pos 0
  none-divided g z e = ap (λ x. int_div x (pos g)) e ∙ none g
    where
      none : (g : ℕ) → int_div (pos 0) (pos g) ≡ pos 0
      none g = omega (arith, ints)

  abbrev over : ℕ → Polynomial → Polynomial
  over g p = record { terms = divided_terms g p.terms; rest = int_div p.rest (pos g) }

  reduced-monos : (g : ℕ) (p : Polynomial) (n : Normal) → reduced_row Equal g p ≡ Ok n → HasMonos p → KeptHasMonos n
  reduced-monos g p n e h = go (divides g (unsigned_abs p.rest)) e
    where
      go : (b : Bool) → cond b (with_positive_first (over g p) >>= λ q. Ok (Kept record { poly = q; kind = Equal })) (Ok (Constant false)) ≡ Ok n → KeptHasMonos n
      go true f =
          on_ok (with_positive_first (over g p)) (λ q. Ok (Kept record { poly = q; kind = Equal })) n f (λ q k l.
          let same : Kept record { poly = q; kind = Equal } ≡ n = cc in
          subst KeptHasMonos same (positive-monos (over g p) q k (record { monos = divided-monos g p.terms h.monos; plain = none-divided g p.rest h.plain })))
      go false f = let same : Constant false ≡ n = cc in subst KeptHasMonos same tt

  normal-monos : (p : Polynomial) (n : Normal) → IsCanonical p.terms → normal_form (record { poly = p; kind = Equal }) ≡ Ok n → HasMonos p → KeptHasMonos n
  normal-monos p n c e h = go (gcd_of_all (values_of p.terms)) refl
    where
      go : (g : ℕ) → gcd_of_all (values_of p.terms) ≡ g → KeptHasMonos n
      go zero z =
          let same : Constant (is_within Equal p.rest) ≡ n = ok-same (Constant (is_within Equal p.rest)) n (sym (normal_form-none (record { poly = p; kind = Equal }) c z) ∙ e) in
          subst KeptHasMonos same tt
      go (suc g) z =
          let some : 0 < gcd_of_all (values_of p.terms) = omega arith in
          reduced-monos (gcd_of_all (values_of p.terms)) p n (sym (normal_form-some (record { poly = p; kind = Equal }) some) ∙ e) h

-- ---- a harvested term is a direction

-- one column that passes
abbrev IsSingle : (Col → Type 0) → List Col → Type 0
IsSingle P m = (c : Col) × ((m ≡ c ∷ []) × P c)

single-linear : (P : Col → Type 0) (ts : Terms) → IsTrue (list_all (λ t. length t.0 == 1) ts) → EachColumn P ts → AllByRecursion (λ t. IsSingle P t.0) ts
single-linear P [] h k = tt
single-linear P (t ∷ ts) h k = let parts = and_parts (length t.0 == 1) (list_all (λ t. length t.0 == 1) ts) h in (one t.0 parts.0 k.0, single-linear P ts parts.1 k.1)
  where
    one : (m : List Col) → IsTrue (length m == 1) → AllByRecursion P m → IsSingle P m
    one [] h k = absurd (false≢true h)
    one (c ∷ []) h k = (c, (refl, k.0))
    one (c ∷ (d ∷ m)) h k = let single = (Decides-eqb (length (c ∷ (d ∷ m))) 1).0 h in absurd (omega (arith, single))

record IsTermOver (P : Col → Type 0) (p : Polynomial) : Type 0 where
  canonical : IsCanonical p.terms
  single : AllByRecursion (λ t. IsSingle P t.0) p.terms
  plain : p.rest ≡ pos 0

abbrev AreOver : (Col → Type 0) → List Polynomial → Type 0
AreOver P ps = AllByRecursion (IsTermOver P) ps

linear-each : (ts : Terms) → is_linear ts ≡ true → IsTrue (list_all (λ t. length t.0 == 1) ts)
linear-each [] e = refl
linear-each (t ∷ ts) e = e

module _ (P : Col → Type 0) where
  kept-over : (r : Result Normal TermError) → ((n : Normal) → r ≡ Ok n → HasCanonicalTerms n × KeptHasMonos (IsSingle P) n) → AreOver P (option_to_list (kept_term r))
  kept-over (Ok (Constant holds)) h = tt
  kept-over (Ok (Kept row)) h = let all = h (Kept row) refl in (record { canonical = all.0; single = all.1.monos; plain = all.1.plain }, tt)
  kept-over (Err e) h = tt

  linear-over : (m : Made) → IsOver P m → AreOver P (option_to_list (linear_term m))
  linear-over (Err e) h = tt
  linear-over (Ok p) h = go (is_linear p.terms) refl
    where
      go : (b : Bool) → is_linear p.terms ≡ b → AreOver P (option_to_list (cond b (kept_term (normal_form (equation_of p))) None))
      go false e = tt
      go true e =
          let canonical = h.canonical p refl in
          kept-over (normal_form (equation_of p)) (λ n f. (
            normal_form-HasCanonicalTerms (equation_of p) n canonical f,
            normal-monos (IsSingle P) (without_constant p) n canonical f (record { monos = single-linear P p.terms (linear-each p.terms e) (h.columns p refl); plain = refl }),
          ))

-- ---- over the columns of a procedure

module _ (width : ℕ) where
  abbrev Passes : Col → Type 0
  Passes c = IsTrue (is_below width 0 c)

  polynomial-over : (e : Term) → IsTrue (columns_below width e) → IsOver Passes (polynomial_of e)
  polynomial-over (Lit value) h = whole-over Passes value
  polynomial-over (ColTerm col) h = column-over Passes (At col) h
  polynomial-over (Unary sign inner) h = bind-over Passes (polynomial_of inner) (with_sign sign) (polynomial-over inner h) (with_sign-over Passes sign)
  polynomial-over (Binary op left right) h =
      let parts = and_parts (columns_below width left) (columns_below width right) h in
      both-over Passes (polynomial_of left) (polynomial_of right) (combination_of op) (polynomial-over left parts.0) (polynomial-over right parts.1)
      (combination-over Passes op)

  compared_term-over : (op : Op) (left right : Term) → IsTrue (columns_below width left) → IsTrue (columns_below width right)
      → AreOver Passes (option_to_list (compared_term op left right))
  compared_term-over op left right h k = go (is_comparison op && (is_polynomial left && is_polynomial right))
    where
      go : (b : Bool) → AreOver Passes (option_to_list (cond b (linear_term (polynomial_of left ⊟ polynomial_of right)) None))
      go false = tt
      go true =
          linear-over Passes (polynomial_of left ⊟ polynomial_of right)
          (both-over Passes (polynomial_of left) (polynomial_of right) difference_of_polys (polynomial-over left h) (polynomial-over right k)
          (difference-over Passes))

  compared-over : (e : Term) → IsTrue (columns_below width e) → AreOver Passes (compared_terms e)
  compared-over (Lit value) h = tt
  compared-over (ColTerm col) h = tt
  compared-over (Unary sign inner) h = compared-over inner h
  compared-over (Binary op left right) h =
      let parts = and_parts (columns_below width left) (columns_below width right) h in
      each-append (IsTermOver Passes) (option_to_list (compared_term op left right)) (compared_terms left ++ compared_terms right)
      (compared_term-over op left right parts.0 parts.1)
      (each-append (IsTermOver Passes) (compared_terms left) (compared_terms right) (compared-over left parts.0) (compared-over right parts.1))

  compared_each-over : (es : List Term) → IsTrue (all_columns_below width es) → AreOver Passes (compared_each es)
  compared_each-over [] h = tt
  compared_each-over (e ∷ es) h =
      let parts = and_parts (columns_below width e) (all_columns_below width es) h in
      each-append (IsTermOver Passes) (compared_terms e) (compared_each es) (compared-over e parts.0) (compared_each-over es parts.1)

  value-over : (e : Term) → IsTrue (value_fits width e) → AreOver Passes (compared_terms e)
  value-over e h =
      let parts = and_parts (columns_below width e && nat_le (operators_of e) most_operators) (nat_le (cases_of e).value most_cases) h in
      compared-over e (and_parts (columns_below width e) (nat_le (operators_of e) most_operators) parts.0).0

  cond-over : (e : Term) → IsTrue (cond_fits width e) → AreOver Passes (compared_terms e)
  cond-over e h =
      let parts = and_parts (columns_below width e && nat_le (operators_of e) most_operators && nat_le (cases_of e).truth most_cases) (nat_le (cases_of e).falsity most_cases) h in
      let front = and_parts (columns_below width e && nat_le (operators_of e) most_operators) (nat_le (cases_of e).truth most_cases) parts.0 in
      compared-over e (and_parts (columns_below width e) (nat_le (operators_of e) most_operators) front.0).0

  args-over : (es : List Term) → IsTrue (args_fit width es) → AreOver Passes (compared_each es)
  args-over es h =
      let parts = and_parts (all_columns_below width es && nat_le (joint_operators es) most_operators) (nat_le (joint_cases es) most_cases) h in
      compared_each-over es (and_parts (all_columns_below width es) (nat_le (joint_operators es) most_operators) parts.0).0

  module _ (program : Program) where
    abbrev joined-over : (ps qs : List Polynomial) → AllByRecursion (IsTermOver Passes) ps → AllByRecursion (IsTermOver Passes) qs → AllByRecursion (IsTermOver Passes) (ps ++ qs)
    joined-over ps qs h k = each-append (IsTermOver Passes) ps qs h k

    mutual
      statement-over : (place : _) (s : Statement) → IsTrue (statement_fits program width place s) → AreOver Passes (compared_by s)
      statement-over place (Set col value) h = value-over value (and_parts (nat_lt col width) (value_fits width value) h).1
      statement-over place (Any col) h = tt
      statement-over place (Call proc args into) h =
          let parts = and_parts (callee_fits (slice_get program.procs proc) (length args) (is_some into) && args_fit width args) (into_fits width into) h in
          args-over args (and_parts (callee_fits (slice_get program.procs proc) (length args) (is_some into)) (args_fit width args) parts.0).1
      statement-over place (Guard cond) h = cond-over cond h
      statement-over place (Check number cond) h =
          cond-over cond (and_parts (nat_le 1 number && nat_le number (length program.checks)) (cond_fits width cond) h).1
      statement-over place (If cond on_true on_false) h =
          let parts = and_parts (cond_fits width cond && code_fits program width place on_true) (code_fits program width place on_false) h in
          let front = and_parts (cond_fits width cond) (code_fits program width place on_true) parts.0 in
          joined-over (compared_terms cond) (compared_in on_true ++ compared_in on_false) (cond-over cond front.0)
          (joined-over (compared_in on_true) (compared_in on_false) (code-over place on_true front.1) (code-over place on_false parts.1))
      statement-over place (Loop pre cond body step first) h =
          let parts = and_parts _ _ h in
          let more = and_parts _ _ parts.0 in
          let front = and_parts _ _ more.0 in
          joined-over (compared_in pre) (compared_terms cond ++ (compared_in body ++ compared_in step)) (code-over _ pre front.1)
          (joined-over (compared_terms cond) (compared_in body ++ compared_in step) (cond-over cond front.0)
          (joined-over (compared_in body) (compared_in step) (code-over _ body more.1) (code-over _ step parts.1)))
      statement-over place Break h = tt
      statement-over place Continue h = tt
      statement-over place Return h = tt

      code-over : (place : _) (code : Code) → IsTrue (code_fits program width place code) → AreOver Passes (compared_in code)
      code-over place End h = tt
      code-over place (Then statement rest) h =
          let parts = and_parts (statement_fits program width place statement) (code_fits program width place rest) h in
          joined-over (compared_by statement) (compared_in rest) (statement-over place statement parts.0) (code-over place rest parts.1)

  single-entry : (m : List Col) → IsSingle Passes m → ((v : ℕ) × (m ≡ At v ∷ [])) × AllByRecursion Passes m
  single-entry m (At v, (e, below)) = ((v, e), subst (AllByRecursion Passes) (sym e) (below, tt))
  single-entry m (Aux n, (e, below)) = absurd (omega (arith, true-below n 0 below))

  term-direction : (p : Polynomial) → IsTermOver Passes p → IsDirectionOver width p
  term-direction p h = record {
    straight = record { single = each-more (λ t. IsSingle Passes t.0) (λ t. (v : ℕ) × (t.0 ≡ At v ∷ [])) (λ t k. (single-entry t.0 k).0) p.terms h.single; plain = h.plain };
    canonical = h.canonical;
    within = each-more (λ t. IsSingle Passes t.0) (λ t. AllByRecursion Passes t.0) (λ t k. (single-entry t.0 k).1) p.terms h.single;
  }

each-take : {A : Type 0} (P : A → Type 0) (n : ℕ) (xs : List A) → AllByRecursion P xs → AllByRecursion P (take n xs)
each-take P zero xs h = tt
each-take P (suc n) [] h = tt
each-take P (suc n) (x ∷ xs) h = (h.0, each-take P n xs h.1)

-- the terms of a procedure that fits are directions over its columns
pub harvest-directions : (program : Program) (p : Proc) → IsProcFit program p → AllByRecursion (IsDirectionOver (width_of program p)) (harvest_of p.body)
unfolding harvest_of
harvest-directions program p fit =
    let width = width_of program p in
    each-more (IsTermOver (Passes width)) (IsDirectionOver width) (term-direction width) (take most_terms (distinct poly_eq (compared_in (code_of p.body))))
    (each-take (IsTermOver (Passes width)) most_terms (distinct poly_eq (compared_in (code_of p.body)))
    (each-distinct (IsTermOver (Passes width)) poly_eq (compared_in (code_of p.body)) (code-over width program _ (code_of p.body) fit.body)))

pub harvest-few : (body : List Stmt) → length (harvest_of body) ≤ 32
unfolding harvest_of
harvest-few body = omega (arith, length-take most_terms (distinct poly_eq (compared_in (code_of body))))

pub is_linear-some : (ts : Terms) → 1 ≤ length ts → are_single ts ≡ is_linear ts
is_linear-some [] h = absurd (omega (arith, h))
is_linear-some (t ∷ ts) h = refl

-- The cases of arguments: they fit between the state and the arguments' values, have few
-- auxiliaries, and mean these values.
use Rattle.std.proofs.Common.{◌≡◌, inl, inr, ℕ, suc, ◌+◌, ◌*◌, ◌<◌, ◌≤◌, ◌^◌, ℤ, pos, length, map, take, drop, get_or, List, [], ◌∷◌, ◌++◌, Option, Some, None, Ok, Err, refl, sym, ap, subst, ◌∙◌, append_assoc, append-nil, length-append, arith}
use Rattle.std.specs.Prelude.{IsTrue}
use Rattle.std.specs.List.{AllByRecursion, flat_map, list_all}
use Rattle.std.proofs.lemmas.List.{length-map, map-append, take_more, take-append-drop}
use Rattle.items.proofs.Each.{each-append, each-flat_map, each-map, each-any, each-more}
use Rattle.linear_terms.specs.Auxiliaries.{renumbered_polynomial}
use Rattle.linear_terms.specs.declared.row.Case.{Case}
use Rattle.syntax_tree.specs.declared.op.Op.{Op}
use Rattle.syntax_tree.specs.declared.op.Op.TheVariants.{Add, Sub, Mul, Div, Rem, Lt, Le, Gt, Ge, Eq, Ne, And, Or}
use Rattle.syntax_tree.specs.declared.op.Sign.{Sign}
use Rattle.syntax_tree.specs.declared.op.Sign.TheVariants.{Plus, Minus, Not}
use Rattle.syntax_tree.specs.declared.core_expr.Core.{Core}
use Rattle.syntax_tree.specs.Term.{Term, Lit, Col, Unary, Binary, term_of}
use Rattle.syntax_tree.specs.Value.{State, value_of}
use Rattle.syntax_tree.specs.WellFormed.{columns_below, all_columns_below, operators_of, joint_operators}
use Rattle.execution.specs.Step.{values_of, with_value}
use Rattle.transition_formula.specs.Meaning.{HoldsSome}
use Rattle.transition_formula.specs.Transition.{fits, IsTransition}
use Rattle.transition_formula.proofs.ColumnTests.{both, both_true}
use Rattle.transition_formula.proofs.Fitting.{from_fitting}
use Rattle.leaf_cases.specs.declared.division.DivisionPart.TheVariants.{Quotient, Remainder}
use Rattle.leaf_cases.specs.declared.step.Arithmetic.TheVariants.{Negate, Sum, Difference, Product}
use Rattle.leaf_cases.specs.declared.step.CaseStep.{CaseStep}
use Rattle.leaf_cases.specs.declared.step.CaseStep.TheVariants.{Value, Divide, Test}
use Rattle.leaf_cases.specs.Claims.{Answer, case_with_value}
use Rattle.leaf_cases.specs.Edges.{arguments_after, arguments_of, no_values}
use Rattle.leaf_cases.specs.Expression.{Lists, of_test, sign_lists, operator_lists, lists_of}
use Rattle.leaf_cases.specs.Listed.{Listed, AreReady, beside, together}
use Rattle.leaf_cases.specs.Listed as listed
use Rattle.leaf_cases.specs.Steps.{operand, value_at, cases_of_step, cases_by, with_number}
use Rattle.leaf_cases.proofs.Expressions.{ValueIs, expression-means}
use Rattle.leaf_cases.proofs.CaseMeanings.{Means, means-as, means-together}
use Rattle.leaf_cases.proofs.Ready.{sit, are_ready, width_of, columns_below-more}
use Rattle.leaf_cases.proofs.CaseColumns.{Sits, sits-more, sits-both}
use Rattle.leaf_cases.proofs.Together.{Both}

-- ---- how many posts

abbrev Long : ℕ → Case → Type 0
Long n case = length case.post ≡ n

long-beside : (n m : ℕ) (a b : Case) → Long n a → Long m b → Long (n + m) (beside a b)
long-beside n m a b h k = length-append a.post (map (renumbered_polynomial (λ i. a.aux + i)) b.post) ∙ (λ i. h i + (length-map b.post (renumbered_polynomial (λ i. a.aux + i)) ∙ k) i)

long-both : (n m : ℕ) (firsts seconds : List Case) → AllByRecursion (Long n) firsts → AllByRecursion (Long m) seconds → AllByRecursion (Long (n + m)) (listed.both firsts seconds)
unfolding listed.both
long-both n m firsts seconds h k = each-flat_map (Long n) (Long (n + m)) (λ a. map (beside a) seconds) (λ a s. each-map (Long m) (Long (n + m)) (beside a) (λ b u. long-beside n m a b s u) seconds k) firsts h

-- a step that gives a number
abbrev GivesNumber : CaseStep → Type 0
GivesNumber (Value arithmetic) = Unit {0}
GivesNumber (Divide part) = Unit {0}
GivesNumber (Test relation) = ⊥

one-valued : (case : Case) (r : Answer) → Long 1 (case_with_value case r)
one-valued case (Ok p) = refl
one-valued case (Err e) = refl

one-made : (step : CaseStep) → GivesNumber step → (case : Case) → AllByRecursion (Long 1) (cases_of_step step case)
one-made (Value arithmetic) g case = (one-valued case (value_at arithmetic (operand 0 case) (operand 1 case)), tt)
one-made (Divide part) g case = (refl, (refl, (refl, (refl, tt))))
one-made (Test relation) g case = absurd g

any-case : (cases : List Case) → AllByRecursion (λ case. Unit {0}) cases
any-case cases = each-any (λ case. Unit {0}) (λ case. tt) cases

one-stepped : (step : CaseStep) → GivesNumber step → (cases : List Case) → AllByRecursion (Long 1) (cases_by (step ∷ []) cases)
unfolding cases_by
one-stepped step g cases = each-append (Long 1) (flat_map (cases_of_step step) cases) [] (each-flat_map (λ case. Unit {0}) (Long 1) (cases_of_step step) (λ case _. one-made step g case) cases (any-case cases)) tt

one-numbered : (value : ℤ) (cases : List Case) → AllByRecursion (Long 1) (map (with_number value) cases)
one-numbered value cases = each-map (λ case. Unit {0}) (Long 1) (with_number value) (λ case _. refl) cases (any-case cases)

one-test : (t f : Listed) → AllByRecursion (Long 1) (of_test t f).value.cases
one-test t f = each-append (Long 1) (map (with_number (pos 1)) t.cases) (map (with_number (pos 0)) f.cases) (one-numbered (pos 1) t.cases) (one-numbered (pos 0) f.cases)

one-sign : (sign : Sign) (inner : Lists) → AllByRecursion (Long 1) inner.value.cases → AllByRecursion (Long 1) (sign_lists sign inner).value.cases
one-sign Plus inner h = h
one-sign Minus inner h = one-stepped (Value Negate) tt inner.value.cases
one-sign Not inner h = one-test inner.falsity inner.truth

one-operator : (op : Op) (l r : Lists) → AllByRecursion (Long 1) (operator_lists op l r).value.cases
one-operator Add l r = one-stepped (Value Sum) tt (listed.both l.value.cases r.value.cases)
one-operator Sub l r = one-stepped (Value Difference) tt (listed.both l.value.cases r.value.cases)
one-operator Mul l r = one-stepped (Value Product) tt (listed.both l.value.cases r.value.cases)
one-operator Div l r = one-stepped (Divide Quotient) tt (listed.both l.value.cases r.value.cases)
one-operator Rem l r = one-stepped (Divide Remainder) tt (listed.both l.value.cases r.value.cases)
one-operator Lt l r = one-test (operator_lists Lt l r).truth (operator_lists Lt l r).falsity
one-operator Le l r = one-test (operator_lists Le l r).truth (operator_lists Le l r).falsity
one-operator Gt l r = one-test (operator_lists Gt l r).truth (operator_lists Gt l r).falsity
one-operator Ge l r = one-test (operator_lists Ge l r).truth (operator_lists Ge l r).falsity
one-operator Eq l r = one-test (operator_lists Eq l r).truth (operator_lists Eq l r).falsity
one-operator Ne l r = one-test (operator_lists Ne l r).truth (operator_lists Ne l r).falsity
one-operator And l r = one-test (operator_lists And l r).truth (operator_lists And l r).falsity
one-operator Or l r = one-test (operator_lists Or l r).truth (operator_lists Or l r).falsity

pub one-value : (e : Term) → AllByRecursion (Long 1) (lists_of e).value.cases
unfolding lists_of
one-value (Lit value) = (refl, tt)
one-value (Col col) = (refl, tt)
one-value (Unary sign inner) = one-sign sign (lists_of inner) (one-value inner)
one-value (Binary op left right) = one-operator op (lists_of left) (lists_of right)

-- ---- several arguments

long-after : (n : ℕ) (made : Listed) (args : List Term) → AllByRecursion (Long n) made.cases → AllByRecursion (Long (n + length args)) (arguments_after made args).cases
long-after n made [] h = let same : n + 0 ≡ n = omega arith in subst (λ k. AllByRecursion (Long k) made.cases) (sym same) h
long-after n made (e ∷ rest) h =
    let same : n + 1 + length rest ≡ n + suc (length rest) = omega arith in
    subst (λ k. AllByRecursion (Long k) (arguments_after (together made (lists_of e).value) rest).cases) same
    (long-after (n + 1) (together made (lists_of e).value) rest (long-both n 1 made.cases (lists_of e).value.cases h (one-value e)))

pub arguments-long : (args : List Term) → AllByRecursion (Long (length args)) (arguments_of args).cases
unfolding arguments_of
arguments-long args = let same : 0 + length args ≡ length args = omega arith in subst (λ n. AllByRecursion (Long n) (arguments_after no_values args).cases) same (long-after 0 no_values args (refl, tt))

sits-after : (columns n : ℕ) (made : Listed) (args : List Term) → IsTrue (all_columns_below columns args) → AllByRecursion (Sits columns n) made.cases → AllByRecursion (Sits columns (n + 4 * joint_operators args)) (arguments_after made args).cases
sits-after columns n made [] h s = each-more (Sits columns n) (Sits columns (n + 4 * 0)) (sits-more columns n (n + 4 * 0) (omega arith)) made.cases s
sits-after columns n made (e ∷ rest) h s =
    let parts = both (columns_below columns e) (all_columns_below columns rest) h in
    let m : ℕ = n + 4 * operators_of e in
    each-more (Sits columns (m + 4 * joint_operators rest)) (Sits columns (n + 4 * joint_operators (e ∷ rest))) (sits-more columns (m + 4 * joint_operators rest) (n + 4 * joint_operators (e ∷ rest)) (omega arith))
    (arguments_after (together made (lists_of e).value) rest).cases
    (sits-after columns (n + 4 * operators_of e) (together made (lists_of e).value) rest parts.1 (sits-both columns n (4 * operators_of e) made.cases (lists_of e).value.cases s (sit columns e parts.0).value))

pub arguments-sit : (columns : ℕ) (args : List Term) → IsTrue (all_columns_below columns args) → AllByRecursion (Sits columns (4 * joint_operators args)) (arguments_of args).cases
unfolding arguments_of
arguments-sit columns args h =
    let same : 0 + 4 * joint_operators args ≡ 4 * joint_operators args = omega arith in
    subst (λ n. AllByRecursion (Sits columns n) (arguments_after no_values args).cases) same (sits-after columns 0 no_values args h (record { few = omega arith; rows_are = refl; posts_are = refl }, tt))

-- they fit between the state and the values
each-fits : (columns n most : ℕ) (cases : List Case) → AllByRecursion (Sits columns most) cases → AllByRecursion (Long n) cases → IsTransition columns n cases
each-fits columns n most [] h k = refl
each-fits columns n most (case ∷ cases) h k =
    both_true (fits columns n case) (list_all (fits columns n) cases) (from_fitting columns n case (record { length_is = k.0; rows_are = h.0.rows_are; posts_are = h.0.posts_are })) (each-fits columns n most cases h.1 k.1)

pub arguments-fit : (columns : ℕ) (args : List Term) → IsTrue (all_columns_below columns args) → IsTransition columns (length args) (arguments_of args).cases
arguments-fit columns args h = each-fits columns (length args) (4 * joint_operators args) (arguments_of args).cases (arguments-sit columns args h) (arguments-long args)

pub value-fits : (columns : ℕ) (e : Term) → IsTrue (columns_below columns e) → IsTransition columns 1 (lists_of e).value.cases
value-fits columns e h = each-fits columns 1 (4 * operators_of e) (lists_of e).value.cases (sit columns e h).value (one-value e)

-- ---- for the loop over the arguments

after-more : (made : Listed) (args : List Term) (e : Term) → arguments_after made (args ++ e ∷ []) ≡ together (arguments_after made args) (lists_of e).value
after-more made [] e = refl
after-more made (a ∷ args) e = after-more (together made (lists_of a).value) args e

pub arguments-more : (args : List Term) (e : Term) → arguments_of (args ++ e ∷ []) ≡ together (arguments_of args) (lists_of e).value
unfolding arguments_of
arguments-more args e = after-more no_values args e

pub arguments-none : arguments_of [] ≡ no_values
unfolding arguments_of
arguments-none = refl

pub operators-front : (args rest : List Term) → joint_operators (args ++ rest) ≡ joint_operators args + joint_operators rest
operators-front [] rest = omega arith
operators-front (e ∷ args) rest =
    let ih = operators-front args rest in omega (arith, ih)

pub below-front : (columns : ℕ) (args rest : List Term) → IsTrue (all_columns_below columns (args ++ rest)) → IsTrue (all_columns_below columns args)
below-front columns [] rest h = refl
below-front columns (e ∷ args) rest h =
    let parts = both (columns_below columns e) (all_columns_below columns (args ++ rest)) h in
    both_true (columns_below columns e) (all_columns_below columns args) parts.0 (below-front columns args rest parts.1)

below-wider : (n m : ℕ) (args : List Term) → n ≤ m → IsTrue (all_columns_below n args) → IsTrue (all_columns_below m args)
below-wider n m [] le h = refl
below-wider n m (e ∷ rest) le h =
    let parts = both (columns_below n e) (all_columns_below n rest) h in
    both_true (columns_below m e) (all_columns_below m rest) (columns_below-more n m e le parts.0) (below-wider n m rest le parts.1)

widths_of : (args : List Term) → (n : ℕ) × IsTrue (all_columns_below n args)
widths_of [] = (0, refl)
widths_of (e ∷ rest) =
    let a = width_of e in
    let b = widths_of rest in
    (a.0 + b.0, both_true (columns_below (a.0 + b.0) e) (all_columns_below (a.0 + b.0) rest) (columns_below-more a.0 (a.0 + b.0) e (omega arith) a.1) (below-wider b.0 (a.0 + b.0) rest (omega arith) b.1))

pub arguments_ready : (args : List Term) (made cases : List Case) → joint_operators args ≤ 200000 → cases ≡ (arguments_of args).cases → made ≡ cases → AreReady (2 ^ 30) made
arguments_ready args made cases few is same =
    let n = widths_of args in
    subst (AreReady (2 ^ 30)) (sym (same ∙ is)) (are_ready n.0 (4 * joint_operators args) (2 ^ 30) (omega arith) (arguments_of args).cases (arguments-sit n.0 args n.1))

-- one more argument
pub record NextArgument (args : List Core) (i : ℕ) (x : Core) : Type 0 where
  pub front : joint_operators (map term_of (take i args)) ≤ 200000
  pub one : operators_of (term_of x) ≤ 200000
  pub more : arguments_of (map term_of (take (i + 1) args)) ≡ together (arguments_of (map term_of (take i args))) (lists_of (term_of x)).value

pub next_argument : (args : List Core) (i : ℕ) (x : Core) → joint_operators (map term_of args) ≤ 200000 → i < length args → x ≡ get_or args i x → NextArgument args i x
next_argument args i x few lt is =
    let taken : map term_of (take (i + 1) args) ≡ map term_of (take i args) ++ term_of x ∷ [] =
    ap (map term_of) (take_more args i x lt) ∙ map-append term_of (take i args) (get_or args i x ∷ []) ∙ ap (λ y. map term_of (take i args) ++ term_of y ∷ []) (sym is) in
    let whole : map term_of args ≡ map term_of (take (i + 1) args) ++ map term_of (drop (i + 1) args) = ap (map term_of) (sym (take-append-drop (i + 1) args)) ∙ map-append term_of (take (i + 1) args) (drop (i + 1) args) in
    let all = ap joint_operators whole ∙ operators-front (map term_of (take (i + 1) args)) (map term_of (drop (i + 1) args)) in
    let front = ap joint_operators taken ∙ operators-front (map term_of (take i args)) (term_of x ∷ []) in
    record {
      front = omega (arith, all, front);
      one = omega (arith, all, front);
      more = ap arguments_of taken ∙ arguments-more (map term_of (take i args)) (term_of x);
    }

pub arguments_fit_as : (columns : ℕ) (args : List Core) (count : ℕ) (slice cases : List Case) → IsTrue (all_columns_below columns (map term_of args)) → count ≡ length args → cases ≡ (arguments_of (map term_of args)).cases → slice ≡ cases
    → IsTransition columns count slice
arguments_fit_as columns args count slice cases below many is same =
    subst (IsTransition columns count) (sym (same ∙ is)) (subst (λ n. IsTransition columns n (arguments_of (map term_of args)).cases) (sym (many ∙ sym (length-map args term_of))) (arguments-fit columns (map term_of args) below))

-- ---- what they mean

-- the values of the arguments, where each has one
pub record ValuesAre (args : List Term) (s z : List ℤ) : Type 0 where
  pub are : values_of args s ≡ Some z

-- values behind others
record Behind (P : List ℤ → List ℤ → Type 0) (args : List Term) (s z : List ℤ) : Type 0 where
  front : List ℤ
  back : List ℤ
  front_is : P s front
  back_is : values_of args s ≡ Some back
  joined : z ≡ front ++ back

-- the first value and the others
record FirstAndRest (e : Term) (rest : List Term) (s vs : List ℤ) : Type 0 where
  first : ℤ
  others : List ℤ
  first_is : value_of e s ≡ Some first
  others_are : values_of rest s ≡ Some others
  joined : vs ≡ first ∷ others

first_and_rest : (e : Term) (rest : List Term) (s vs : List ℤ) → values_of (e ∷ rest) s ≡ Some vs → FirstAndRest e rest s vs
first_and_rest e rest s vs h = go (value_of e s) refl (values_of rest s) refl h
  where
    go : (a : Option ℤ) → value_of e s ≡ a → (b : Option (List ℤ)) → values_of rest s ≡ b → with_value a b ≡ Some vs → FirstAndRest e rest s vs
    go None f b g k = cc
    go (Some x) f None g k = cc
    go (Some x) f (Some xs) g k = let same : x ∷ xs ≡ vs = cc in record { first = x; others = xs; first_is = f; others_are = g; joined = sym same }

values-of-cons : (e : Term) (rest : List Term) (s : State) (x : ℤ) (xs : List ℤ) → value_of e s ≡ Some x → values_of rest s ≡ Some xs → values_of (e ∷ rest) s ≡ Some (x ∷ xs)
values-of-cons e rest s x xs h k = λ i. with_value (h i) (k i)

after-means : (columns : ℕ) (made : Listed) (P : List ℤ → List ℤ → Type 0) (args : List Term) → IsTrue (all_columns_below columns args) → Means columns made P → Means columns (arguments_after made args) (Behind P args)
after-means columns made P [] h m =
    means-as columns made P (Behind P []) m (λ s z p. record { front = z; back = []; front_is = p; back_is = refl; joined = sym (append-nil z) })
    (λ s z b. let none : [] ≡ b.back = some-list [] b.back b.back_is in subst (P s) (sym (b.joined ∙ ap (λ l. b.front ++ l) (sym none) ∙ append-nil b.front)) b.front_is)
  where
    some-list : (a b : List ℤ) → (let x : Option (List ℤ) = Some a in x ≡ Some b) → a ≡ b
    some-list a b e = cc
after-means columns made P (e ∷ rest) h m =
    let parts = both (columns_below columns e) (all_columns_below columns rest) h in
    means-as columns (arguments_after (together made (lists_of e).value) rest) (Behind (Both P (ValueIs e)) rest) (Behind P (e ∷ rest))
    (after-means columns (together made (lists_of e).value) (Both P (ValueIs e)) rest parts.1 (means-together columns made (lists_of e).value P (ValueIs e) m (expression-means columns e parts.0).value))
    (λ s z b. record {
      front = b.front_is.first;
      back = b.front_is.right.number ∷ b.back;
      front_is = b.front_is.left;
      back_is = values-of-cons e rest s b.front_is.right.number b.back b.front_is.right.value b.back_is;
      joined = b.joined ∙ (λ i. (b.front_is.joined ∙ (λ j. b.front_is.first ++ b.front_is.right.is j)) i ++ b.back) ∙ append_assoc b.front_is.first (b.front_is.right.number ∷ []) b.back;
    })
    (λ s z b.
    let f = first_and_rest e rest s b.back b.back_is in
    record {
      front = b.front ++ f.first ∷ [];
      back = f.others;
      front_is = record { first = b.front; second = f.first ∷ []; left = b.front_is; right = record { number = f.first; value = f.first_is; is = refl }; joined = refl };
      back_is = f.others_are;
      joined = b.joined ∙ ap (λ l. b.front ++ l) f.joined ∙ sym (append_assoc b.front (f.first ∷ []) f.others);
    })

record Nothing (s z : List ℤ) : Type 0 where
  none : z ≡ []

pub arguments-mean : (columns : ℕ) (args : List Term) → IsTrue (all_columns_below columns args) → Means columns (arguments_of args) (ValuesAre args)
unfolding arguments_of
arguments-mean columns args h =
    means-as columns (arguments_after no_values args) (Behind Nothing args) (ValuesAre args)
    (after-means columns no_values Nothing args h (record {
      bound = 0;
      sits = (record { few = omega arith; rows_are = refl; posts_are = refl }, tt);
      least = λ s z m. inl (λ k. pos 0, record { rows = tt; posts = sym m.none });
      most = λ none s z g. found s z g;
    }))
    (λ s z b. record { are = b.back_is ∙ ap (λ l. Some l) (sym (b.joined ∙ ap (λ l. l ++ b.back) b.front_is.none)) })
    (λ s z m. record { front = []; back = z; front_is = record { none = refl }; back_is = m.are; joined = refl })
  where
    found : (s z : List ℤ) → HoldsSome no_values.cases s z → Nothing s z
    found s z (inl (aux, h)) = record { none = sym h.posts }
    found s z (inr h) = absurd h

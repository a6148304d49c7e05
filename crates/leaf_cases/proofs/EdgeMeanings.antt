-- What the formulas of assignments and of calls say of states.
use Rattle.std.proofs.Common.{◌≡◌, ◌⊎◌, inl, inr, ℕ, zero, suc, ◌+◌, ◌≤◌, ℤ, pos, length, map, take, drop, List, [], ◌∷◌, ◌++◌, Option, Some, None, refl, sym, ap, subst, ◌∙◌, length-append, arith}
use Rattle.std.specs.Prelude.{IsTrue, slice_get, slice_set, unwrap_or}
use Rattle.std.specs.List.{list_all}
use Rattle.std.proofs.lemmas.List.{map-append, map-set, take-map, drop-map, length-take-le, take-take, take_all, take_at, length-map}
use Rattle.std.proofs.lemmas.List.FromFn.{take-map-range_with_len}
use Rattle.linear_terms.specs.declared.col.Col.TheVariants.{At, Aux}
use Rattle.linear_terms.specs.declared.row.Case.{Case}
use Rattle.linear_terms.specs.Polynomial.{Polynomial, column_of, constant_of}
use Rattle.linear_terms.specs.Value.{Valuation, value_of}
use Rattle.syntax_tree.specs.Term.{Term}
use Rattle.syntax_tree.specs.Code.{Set, Any, Call}
use Rattle.syntax_tree.specs.WellFormed.{columns_below, all_columns_below}
use Rattle.execution.specs.Step.{values_of}
use Rattle.flow_graph.specs.Walks.{CallRelates, EdgeRelates}
use Rattle.flow_graph.specs.Walks as walks
use Rattle.transition_formula.specs.Composition.{losses_in_sequence}
use Rattle.transition_formula.specs.Meaning.{numbers, HoldsSome, Holds}
use Rattle.transition_formula.specs.Transition.{Transition, fits, IsTransition}
use Rattle.transition_formula.proofs.ColumnTests.{both}
use Rattle.transition_formula.proofs.Fitting.{fitting}
use Rattle.transition_formula.proofs.Meanings.{sequence-holds, sequence-held}
use Rattle.transition_formula.proofs.Values.{column-value, none-of}
use Rattle.leaf_cases.specs.Conditions.{KnownCalls}
use Rattle.leaf_cases.specs.Edges.{set_of, any_of, arguments_of, entering, cut, awaited_count, posts_with_value, call_sequence, call_of, losses_in_call}
use Rattle.leaf_cases.specs.Expression.{lists_of}
use Rattle.leaf_cases.specs.Guard.{columns_of, with_posts}
use Rattle.leaf_cases.specs.Steps.{operand}
use Rattle.leaf_cases.proofs.Arguments.{arguments-mean, arguments-fit}
use Rattle.leaf_cases.proofs.EdgeFits.{entering_fits, cut_fits}
use Rattle.leaf_cases.proofs.Expressions.{expression-means}
use Rattle.leaf_cases.proofs.Guards.{columns-read}
use Rattle.leaf_cases.proofs.StepClaims.{got}

-- ---- cases with other posts

-- the case holds of z, and the new posts have the values G z
pub record Posted (cases : List Case) (s : List ℤ) (G : List ℤ → List ℤ) (u : List ℤ) : Type 0 where
  pub numbers_are : List ℤ
  pub holds : HoldsSome cases s numbers_are
  pub is : u ≡ G numbers_are

pub record Reads (F : Case → List Polynomial) (s : List ℤ) (G : List ℤ → List ℤ) : Type 0 where
  pub reads : (case : Case) (aux : ℕ → ℤ) → map (value_of (numbers s aux)) (F case) ≡ G (map (value_of (numbers s aux)) case.post)

posted-hold : (F : Case → List Polynomial) (s : List ℤ) (G : List ℤ → List ℤ) → Reads F s G → (cases : List Case) (z : List ℤ) → HoldsSome cases s z → HoldsSome (map (λ case. with_posts (F case) case) cases) s (G z)
posted-hold F s G r [] z h = absurd h
posted-hold F s G r (case ∷ cases) z (inl h) = inl (h.0, record { rows = h.1.rows; posts = r.reads case h.0 ∙ ap G h.1.posts })
posted-hold F s G r (case ∷ cases) z (inr h) = inr (posted-hold F s G r cases z h)

posted-held : (F : Case → List Polynomial) (s : List ℤ) (G : List ℤ → List ℤ) → Reads F s G → (cases : List Case) (u : List ℤ) → HoldsSome (map (λ case. with_posts (F case) case) cases) s u → Posted cases s G u
posted-held F s G r [] u h = absurd h
posted-held F s G r (case ∷ cases) u (inl (aux, h)) = record { numbers_are = map (value_of (numbers s aux)) case.post; holds = inl (aux, record { rows = h.rows; posts = refl }); is = sym h.posts ∙ r.reads case aux }
posted-held F s G r (case ∷ cases) u (inr h) = let k = posted-held F s G r cases u h in record { numbers_are = k.numbers_are; holds = inr k.holds; is = k.is }

abbrev number_at : ℕ → List ℤ → ℤ
number_at n z = unwrap_or (slice_get z n) (pos 0)

operand-read : (s : List ℤ) (aux : ℕ → ℤ) (case : Case) (n : ℕ) → value_of (numbers s aux) (operand n case) ≡ number_at n (map (value_of (numbers s aux)) case.post)
operand-read s aux case n = got (value_of (numbers s aux)) (constant_of (pos 0)) case.post n refl

-- the first columns have the first numbers of the state
front-read : (columns globals : ℕ) (s : List ℤ) (aux : ℕ → ℤ) → globals ≤ columns → length s ≡ columns → map (value_of (numbers s aux)) (columns_of globals) ≡ take globals s
front-read columns globals s aux le long =
    ap (map (value_of (numbers s aux))) (sym (take-map-range_with_len (λ n. column_of (At n)) 0 columns globals le))
    ∙ sym (take-map (value_of (numbers s aux)) globals (columns_of columns))
    ∙ ap (take globals) (columns-read columns s aux long)

-- ---- an assignment

set-reads : (columns col : ℕ) (s : List ℤ) → length s ≡ columns → Reads (λ case. slice_set (columns_of columns) col (operand 0 case)) s (λ z. slice_set s col (number_at 0 z))
set-reads columns col s long = record {
  reads = λ case aux. map-set (value_of (numbers s aux)) (columns_of columns) col (operand 0 case) ∙ (λ i. slice_set (columns-read columns s aux long i) col (operand-read s aux case 0 i));
}

pub set_holds : (calls : walks.CallMeaning) (globals columns col : ℕ) (e : Term) → IsTrue (columns_below columns e) → (s t : List ℤ) → length s ≡ columns → EdgeRelates calls globals (Set col e) s t → Holds (set_of columns col (lists_of e).value.cases) s t
set_holds calls globals columns col e below s t long (v, value, is) =
    let means = expression-means columns e below in
    let holds = means.value.least s (v ∷ []) (record { number = v; value = value; is = refl }) in
    record {
      enters = long;
      some = subst (HoldsSome (set_of columns col (lists_of e).value.cases).cases s) (sym is)
          (posted-hold (λ case. slice_set (columns_of columns) col (operand 0 case)) s (λ z. slice_set s col (number_at 0 z)) (set-reads columns col s long) (lists_of e).value.cases (v ∷ []) holds);
    }

pub set_held : (calls : walks.CallMeaning) (globals columns col : ℕ) (e : Term) → IsTrue (columns_below columns e) → (lists_of e).value.lost ≡ [] → (s t : List ℤ) → Holds (set_of columns col (lists_of e).value.cases) s t → EdgeRelates calls globals (Set col e) s t
set_held calls globals columns col e below none s t h =
    let means = expression-means columns e below in
    let p = posted-held (λ case. slice_set (columns_of columns) col (operand 0 case)) s (λ z. slice_set s col (number_at 0 z)) (set-reads columns col s h.enters) (lists_of e).value.cases t h.some in
    let v = means.value.most none s p.numbers_are p.holds in
    (v.number, v.value, p.is ∙ ap (λ z. slice_set s col (number_at 0 z)) v.is)

-- ---- any number

pub any_holds : (calls : walks.CallMeaning) (globals columns col : ℕ) (s t : List ℤ) → length s ≡ columns → EdgeRelates calls globals (Any col) s t → Holds (any_of columns col) s t
any_holds calls globals columns col s t long (v, is) =
    let w = numbers s (λ k. v) in
    record {
      enters = long;
      some = inl (
        λ k. v,
        record {
          rows = tt;
          posts =
              map-set (value_of w) (columns_of columns) col (column_of (Aux 0))
              ∙ (λ i. slice_set (columns-read columns s (λ k. v) long i) col (column-value w (Aux 0) i)) ∙ sym is;
        },
      );
    }

pub any_held : (calls : walks.CallMeaning) (globals columns col : ℕ) (s t : List ℤ) → Holds (any_of columns col) s t → EdgeRelates calls globals (Any col) s t
any_held calls globals columns col s t h = go h.some
  where
    go : HoldsSome (any_of columns col).cases s t → EdgeRelates calls globals (Any col) s t
    go (inl (aux, k)) =
        let w = numbers s aux in
        (aux 0, sym k.posts ∙ map-set (value_of w) (columns_of columns) col (column_of (Aux 0)) ∙ (λ i. slice_set (columns-read columns s aux h.enters i) col (column-value w (Aux 0) i)))
    go (inr k) = absurd k

-- ---- a call

entering-reads : (columns globals : ℕ) (s : List ℤ) → globals ≤ columns → length s ≡ columns → Reads (λ case. columns_of globals ++ case.post) s (λ z. take globals s ++ z)
entering-reads columns globals s le long = record {
  reads = λ case aux. map-append (value_of (numbers s aux)) (columns_of globals) case.post ∙ ap (λ l. l ++ map (value_of (numbers s aux)) case.post) (front-read columns globals s aux le long);
}

cut-reads : (to : ℕ) (s : List ℤ) → Reads (λ case. take to case.post) s (λ z. take to z)
cut-reads to s = record { reads = λ case aux. sym (take-map (value_of (numbers s aux)) to case.post) }

-- what a callee leaves, put into the caller's state
abbrev left_in : ℕ → Option ℕ → List ℤ → List ℤ → List ℤ
left_in globals into s t = walks.state_with_value into (number_at globals t) (take globals t ++ drop globals s)

received-read : (w : Valuation) (into : Option ℕ) (value : Polynomial) (posts : List Polynomial) → map (value_of w) (posts_with_value into value posts) ≡ walks.state_with_value into (value_of w value) (map (value_of w) posts)
received-read w None value posts = refl
received-read w (Some col) value posts = map-set (value_of w) posts col value

leaving-reads : (columns globals : ℕ) (into : Option ℕ) (s : List ℤ) → length s ≡ columns
    → Reads (λ case. posts_with_value into (operand globals case) (take globals case.post ++ drop globals (columns_of columns))) s (left_in globals into s)
leaving-reads columns globals into s long = record {
  reads = λ case aux.
      let w = numbers s aux in
      received-read w into (operand globals case) (take globals case.post ++ drop globals (columns_of columns))
      ∙ (λ i. walks.state_with_value into (operand-read s aux case globals i)
      ((map-append (value_of w) (take globals case.post) (drop globals (columns_of columns))
      ∙ (λ j. sym (take-map (value_of w) globals case.post) j ++ (sym (drop-map (value_of w) globals (columns_of columns)) ∙ ap (drop globals) (columns-read columns s aux long)) j)) i));
}

-- ---- the numbers of a call, as lists

module _ (globals : ℕ) (left : List ℤ) (value : ℤ) (rest : List ℤ) (same : length left ≡ globals) where
  front-left : take globals (left ++ value ∷ []) ≡ left
  front-left = take_at left (value ∷ []) globals same

  number-left : number_at globals (left ++ value ∷ []) ≡ value
  number-left = at-end left globals same
    where
      at-end : (xs : List ℤ) (n : ℕ) → length xs ≡ n → number_at n (xs ++ value ∷ []) ≡ value
      at-end [] zero e = refl
      at-end [] (suc n) e = absurd (omega arith)
      at-end (x ∷ xs) zero e = absurd (omega arith)
      at-end (x ∷ xs) (suc n) e = at-end xs n (omega arith)

  -- what is asked of the callee is the globals, and the value where it is awaited
  pub left-asked : (into : Option ℕ) → walks.state_with_value into (number_at globals (take (awaited_count globals into) (left ++ value ∷ []))) (take globals (take (awaited_count globals into) (left ++ value ∷ [])) ++ rest)
      ≡ walks.state_with_value into value (left ++ rest)
  left-asked None = ap (λ l. l ++ rest) (take-take globals globals (left ++ value ∷ []) (omega arith) ∙ front-left)
  left-asked (Some col) =
      let all : take (globals + 1) (left ++ value ∷ []) ≡ left ++ value ∷ [] = take_all (globals + 1) (left ++ value ∷ []) (omega (arith, length-append left (value ∷ []))) in
      (λ i. walks.state_with_value (Some col) (number_at globals (all i)) (take globals (all i) ++ rest)) ∙ (λ i. walks.state_with_value (Some col) (number-left i) (front-left i ++ rest))

-- numbers that a callee leaves, of which only those that are asked are known
number-taken : (n : ℕ) (t : List ℤ) → number_at n (take (n + 1) t) ≡ number_at n t
number-taken zero [] = refl
number-taken zero (x ∷ t) = refl
number-taken (suc n) [] = let e : suc n + 1 ≡ suc (n + 1) = omega arith in ap (λ k. number_at (suc n) (take k [])) e
number-taken (suc n) (x ∷ t) = let e : suc n + 1 ≡ suc (n + 1) = omega arith in ap (λ k. number_at (suc n) (take k (x ∷ t))) e ∙ number-taken n t

pub asked-left : (globals : ℕ) (into : Option ℕ) (t rest : List ℤ) → walks.state_with_value into (number_at globals (take (awaited_count globals into) t)) (take globals (take (awaited_count globals into) t) ++ rest) ≡ walks.state_with_value into (number_at globals t) (take globals t ++ rest)
asked-left globals None t rest = ap (λ l. l ++ rest) (take-take globals globals t (omega arith))
asked-left globals (Some col) t rest = λ i. slice_set (take-take globals (globals + 1) t (omega arith) i ++ rest) col (number-taken globals t i)

-- the globals and one more number are all that there is
last-taken : (n : ℕ) (t : List ℤ) → length t ≡ n + 1 → take n t ++ number_at n t ∷ [] ≡ t
last-taken zero [] e = absurd (omega arith)
last-taken zero (x ∷ []) e = refl
last-taken zero (x ∷ y ∷ t) e = absurd (omega arith)
last-taken (suc n) [] e = absurd (omega arith)
last-taken (suc n) (x ∷ t) e = ap (λ l. x ∷ l) (last-taken n t (omega arith))

pub whole-left : (globals to : ℕ) (t : List ℤ) → length t ≡ to → (to ≡ globals) ⊎ (to ≡ globals + 1) → take to (take globals t ++ number_at globals t ∷ []) ≡ t
whole-left globals to t long (inl e) =
    let short : length t ≡ globals = long ∙ e in
    ap (λ n. take n (take globals t ++ number_at globals t ∷ [])) e
    ∙ take_at (take globals t) (number_at globals t ∷ []) globals (length-take-le globals t (omega arith))
    ∙ take_all globals t (omega arith)
whole-left globals to t long (inr e) =
    let one : length t ≡ globals + 1 = long ∙ e in
    ap (take to) (last-taken globals t one) ∙ take_all to t (omega arith)

after-long : (from to : ℕ) (cases : List Case) → IsTransition from to cases → (s t : List ℤ) → HoldsSome cases s t → length t ≡ to
after-long from to [] fit s t h = absurd h
after-long from to (case ∷ cases) fit s t (inl h) =
    let f = fitting from to case (both (fits from to case) (list_all (fits from to) cases) fit).0 in
    sym (ap length h.1.posts) ∙ length-map case.post (value_of (numbers s h.0)) ∙ f.length_is
after-long from to (case ∷ cases) fit s t (inr h) = after-long from to cases (both (fits from to case) (list_all (fits from to) cases) fit).1 s t h

-- what is asked for a call: the callee's formula is known, and goes from its entry columns to its
-- exit columns
pub record CallAsks (columns globals : ℕ) (args : List Term) (into : Option ℕ) (known : List (Option Transition)) (proc : ℕ) (f : Transition) : Type 0 where
  pub widths : globals ≤ columns
  pub below : IsTrue (all_columns_below columns args)
  pub known_is : slice_get known proc ≡ Some (Some f)
  pub fit : IsTransition f.from f.to f.cases
  pub enters : f.from ≡ globals + length args
  pub asked : awaited_count globals into ≤ f.to
  pub leaves : (f.to ≡ globals) ⊎ (f.to ≡ globals + 1)

-- from a state to the globals and the values of arguments
pub entering_holds : (columns globals : ℕ) (args : List Term) → globals ≤ columns → IsTrue (all_columns_below columns args) → (s vs : List ℤ) → length s ≡ columns → values_of args s ≡ Some vs
    → Holds (entering columns globals (length args) (arguments_of args).cases) s (take globals s ++ vs)
entering_holds columns globals args le below s vs long are =
    record {
      enters = long;
      some = posted-hold (λ case. columns_of globals ++ case.post) s (λ z. take globals s ++ z) (entering-reads columns globals s le long) (arguments_of args).cases vs
          ((arguments-mean columns args below).least s vs (record { are = are }));
    }

module _ (columns globals : ℕ) (args : List Term) (into : Option ℕ) (known : List (Option Transition)) (proc : ℕ) (f : Transition) (asks : CallAsks columns globals args into known proc f) where
  first-fits : IsTransition columns (globals + length args) (entering columns globals (length args) (arguments_of args).cases).cases
  first-fits = entering_fits columns globals (length args) (arguments_of args).cases (entering columns globals (length args) (arguments_of args).cases).cases asks.widths (arguments-fit columns args asks.below) refl

  second-fits : IsTransition f.from (awaited_count globals into) (cut (awaited_count globals into) f).cases
  second-fits = cut_fits (awaited_count globals into) f (cut (awaited_count globals into) f).cases asks.asked asks.fit refl

  known-same : (g : Transition) → slice_get known proc ≡ Some (Some g) → g ≡ f
  known-same g e = same (sym e ∙ asks.known_is)
    where
      same : (let x : Option (Option Transition) = Some (Some g) in x ≡ Some (Some f)) → g ≡ f
      same k = cc

  pub call_holds : (s t : List ℤ) → length s ≡ columns → EdgeRelates (KnownCalls known) globals (Call proc args into) s t → Holds (call_of columns globals args into f) s t
  call_holds s t long r =
      let k = awaited_count globals into in
      let l = r.left ++ r.value ∷ [] in
      let vs = r.values in
      let returns = r.returns in
      let same_left : length r.left ≡ globals = returns.same ∙ length-take-le globals s (shorter s long) in
      let first = entering_holds columns globals args asks.widths asks.below s vs long r.are in
      let callee : Holds f (take globals s ++ vs) (take f.to l) = subst (λ (g : Transition). Holds g (take globals s ++ vs) (take g.to l)) (known-same returns.formula returns.is) returns.holds in
      let second : Holds (cut k f) (take globals s ++ vs) (take k (take f.to l)) =
      record { enters = callee.enters; some = posted-hold (λ case. take k case.post) (take globals s ++ vs) (λ z. take k z) (cut-reads k (take globals s ++ vs)) f.cases (take f.to l) callee.some } in
      let both = sequence-holds (entering columns globals (length args) (arguments_of args).cases) (cut k f) (sym asks.enters) first-fits second-fits s (take globals s ++ vs) (take k (take f.to l)) first second in
      let made = posted-hold (λ case. posts_with_value into (operand globals case) (take globals case.post ++ drop globals (columns_of columns))) s (left_in globals into s) (leaving-reads columns globals into s long) (call_sequence columns globals args into f).cases (take k (take f.to l)) both.some in
      let ends : left_in globals into s (take k (take f.to l)) ≡ t = ap (left_in globals into s) (take-take k f.to l asks.asked) ∙ left-asked globals r.left r.value (drop globals s) same_left into ∙ sym r.after_is in
      record { enters = long; some = subst (HoldsSome (call_of columns globals args into f).cases s) ends made }
    where
      shorter : (s : List ℤ) → length s ≡ columns → globals ≤ length s
      shorter s long = let le = asks.widths in omega arith

  pub call_held : losses_in_call columns globals args into f ≡ [] → (s t : List ℤ) → Holds (call_of columns globals args into f) s t → EdgeRelates (KnownCalls known) globals (Call proc args into) s t
  call_held none s t h =
      let k = awaited_count globals into in
      let a = entering columns globals (length args) (arguments_of args).cases in
      let b = cut k f in
      let parts = none-of (arguments_of args).lost (losses_in_sequence a b) none in
      let p = posted-held (λ case. posts_with_value into (operand globals case) (take globals case.post ++ drop globals (columns_of columns))) s (left_in globals into s) (leaving-reads columns globals into s h.enters) (call_sequence columns globals args into f).cases t h.some in
      let two = sequence-held a b (sym asks.enters) first-fits second-fits parts.1 s p.numbers_are (record { enters = h.enters; some = p.holds }) in
      let first = posted-held (λ case. columns_of globals ++ case.post) s (λ z. take globals s ++ z) (entering-reads columns globals s asks.widths h.enters) (arguments_of args).cases two.0 two.1.0.some in
      let second = posted-held (λ case. take k case.post) two.0 (λ z. take k z) (cut-reads k two.0) f.cases p.numbers_are two.1.1.some in
      let values = (arguments-mean columns args asks.below).most parts.0 s first.numbers_are first.holds in
      let u = second.numbers_are in
      let long : length u ≡ f.to = after-long f.from f.to f.cases asks.fit two.0 u second.holds in
      record {
        values = first.numbers_are;
        are = values.are;
        left = take globals u;
        value = number_at globals u;
        returns = record {
          formula = f;
          is = asks.known_is;
          same = length-take-le globals u (enough u long) ∙ sym (length-take-le globals s (shorter s h.enters));
          holds =
              subst (λ m. Holds f m (take f.to (take globals u ++ number_at globals u ∷ []))) first.is
              (subst (Holds f two.0) (sym (whole-left globals f.to u long asks.leaves)) (record { enters = two.1.1.enters; some = second.holds }));
        };
        after_is = p.is ∙ ap (left_in globals into s) second.is ∙ asked-left globals into u (drop globals s);
      }
    where
      shorter : (s : List ℤ) → length s ≡ columns → globals ≤ length s
      shorter s long = let le = asks.widths in omega arith

      enough : (u : List ℤ) → length u ≡ f.to → globals ≤ length u
      enough u long = go asks.leaves
        where
          go : (f.to ≡ globals) ⊎ (f.to ≡ globals + 1) → globals ≤ length u
          go (inl e) = omega arith
          go (inr e) = omega arith

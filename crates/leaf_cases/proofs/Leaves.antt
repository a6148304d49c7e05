-- What the formula of an edge says, how many cases it has, and that they have few auxiliaries.
use Rattle.std.proofs.Common.{◌≡◌, ◌⊎◌, inl, inr, ℕ, ◌+◌, ◌*◌, ◌<◌, ◌≤◌, ◌^◌, Bool, true, false, cond, ℤ, length, map, take, List, [], ◌∷◌, ◌++◌, Option, Some, None, refl, sym, ap, subst, ◌∙◌, arith}
use Rattle.std.specs.Prelude.{IsTrue, All, is_some, not, ◌||◌, slice_get}
use Rattle.std.specs.List.{AllByRecursion, list_all, flat_map}
use Rattle.std.specs.Option.{is_none}
use Rattle.std.proofs.Math.Nat.{mul-le-mul_left, mul-le-mul_right}
use Rattle.std.proofs.lemmas.List.{length-map}
use Rattle.std.proofs.lemmas.List.Elements.{recursion_from_All, All-from_recursion}
use Rattle.std.proofs.lemmas.List.Sums.{count_by-le-length}
use Rattle.linear_terms.specs.declared.row.Case.{Case}
use Rattle.linear_terms.specs.Polynomial.{Polynomial}
use Rattle.syntax_tree.specs.declared.program.Proc.{Proc}
use Rattle.syntax_tree.specs.declared.program.Program.{Program}
use Rattle.syntax_tree.specs.Code.{Statement, Set, Any, Call, Guard, Check, If, Loop, Break, Continue, Return}
use Rattle.syntax_tree.specs.declared.core_expr.Core.{Core}
use Rattle.syntax_tree.specs.Term.{Term, term_of}
use Rattle.syntax_tree.specs.WellFormed.{joint_operators, operators_of, all_columns_below, into_fits}
use Rattle.flow_graph.specs.Walks.{EdgeRelates}
use Rattle.transition_formula.specs.Composition.{sequence_of, sequence_of_cases, after_case}
use Rattle.transition_formula.specs.Loss.{answer_of}
use Rattle.transition_formula.specs.Meaning.{Holds}
use Rattle.transition_formula.specs.Transition.{Transition, fits, IsTransition}
use Rattle.transition_formula.proofs.ColumnTests.{both}
use Rattle.transition_formula.proofs.Fitting.{fitting}
use Rattle.leaf_cases.specs.Conditions.{AreKnown, IsKnown, KnownCalls, exits_of}
use Rattle.leaf_cases.specs.Edges.{leaf_of, losses_in_leaf, known_call, losses_in_known_call, call_of, call_sequence, entering, cut, awaited_count, leaving_case, set_of, set_case, any_of, arguments_of}
use Rattle.leaf_cases.specs.Expression.{lists_of}
use Rattle.leaf_cases.specs.Guard.{columns_of, guard_of, with_posts}
use Rattle.leaf_cases.proofs.Arguments.{arguments-sit}
use Rattle.leaf_cases.proofs.Counts.{truth-count, value-count, arguments-count, flat_count}
use Rattle.leaf_cases.proofs.EdgeFits.{cut_fits, few-sit}
use Rattle.leaf_cases.proofs.EdgeMeanings.{CallAsks, set_holds, set_held, any_holds, any_held, call_holds, call_held}
use Rattle.leaf_cases.proofs.Graphs.{CallFits, EdgeFits}
use Rattle.leaf_cases.proofs.Guards.{truth_holds, truth_held, truth_few}
use Rattle.leaf_cases.proofs.Ready.{sit}

module _ (program : Program) (width : ℕ) (wide : length program.globals ≤ width) (known : List (Option Transition)) (are : AreKnown program known) where
  exits-either : (callee : Proc) → (exits_of program callee ≡ length program.globals) ⊎ (exits_of program callee ≡ length program.globals + 1)
  exits-either callee = go callee.returns
    where
      go : (b : Bool) → (cond b (length program.globals + 1) (length program.globals) ≡ length program.globals) ⊎ (cond b (length program.globals + 1) (length program.globals) ≡ length program.globals + 1)
      go true = inr refl
      go false = inl refl

  asked-exits : (callee : Proc) (into : Option ℕ) → IsTrue (callee.returns || not (is_some into)) → awaited_count (length program.globals) into ≤ exits_of program callee
  asked-exits callee into h = go callee.returns into h
    where
      go : (b : Bool) (into : Option ℕ) → IsTrue (b || not (is_some into)) → awaited_count (length program.globals) into ≤ cond b (length program.globals + 1) (length program.globals)
      go true None h = omega arith
      go true (Some col) h = omega arith
      go false None h = omega arith
      go false (Some col) h = cc

  call-asks : (proc : ℕ) (args : List Term) (into : Option ℕ) (f : Transition) → CallFits program width proc args into → slice_get known proc ≡ Some (Some f) → CallAsks width (length program.globals) args into known proc f
  call-asks proc args into f fit is =
      let k : IsKnown program fit.callee f = are.fit proc fit.callee f fit.is is in
      record {
        widths = wide;
        below = fit.below;
        known_is = is;
        fit = k.fits;
        enters = k.enters ∙ ap (λ n. length program.globals + n) fit.params;
        asked = subst (λ n. awaited_count (length program.globals) into ≤ n) (sym k.leaves) (asked-exits fit.callee into fit.returns);
        leaves = subst (λ n. (n ≡ length program.globals) ⊎ (n ≡ length program.globals + 1)) (sym k.leaves) (exits-either fit.callee);
      }

  pub leaf_holds : (statement : Statement) → EdgeFits program width statement → (s t : List ℤ) → length s ≡ width → EdgeRelates (KnownCalls known) (length program.globals) statement s t
      → Holds (leaf_of width (length program.globals) known statement) s t
  leaf_holds (Guard e) fit s t long (h, same) =
      subst (Holds (guard_of width (lists_of e).truth.cases) s) (sym same) (truth_holds width e (guard_of width (lists_of e).truth.cases) fit.below refl s long h)
  leaf_holds (Set col e) fit s t long h = set_holds (KnownCalls known) (length program.globals) width col e fit.below s t long h
  leaf_holds (Any col) fit s t long h = any_holds (KnownCalls known) (length program.globals) width col s t long h
  leaf_holds (Call proc args into) fit s t long h =
      let k = h.returns in
      subst (λ o. Holds (known_call width (length program.globals) args into o) s t) (sym k.is)
      (call_holds width (length program.globals) args into known proc k.formula (call-asks proc args into k.formula fit k.is) s t long h)
  leaf_holds (Check number e) fit s t long h = absurd fit
  leaf_holds (If e a b) fit s t long h = absurd fit
  leaf_holds (Loop a e b d first) fit s t long h = absurd fit
  leaf_holds Break fit s t long h = absurd fit
  leaf_holds Continue fit s t long h = absurd fit
  leaf_holds Return fit s t long h = absurd fit

  pub leaf_held : (statement : Statement) → EdgeFits program width statement → losses_in_leaf width (length program.globals) known statement ≡ []
      → (s t : List ℤ) → Holds (leaf_of width (length program.globals) known statement) s t → EdgeRelates (KnownCalls known) (length program.globals) statement s t
  leaf_held (Guard e) fit none s t h =
      let k = truth_held width e (guard_of width (lists_of e).truth.cases) [] (lists_of e).truth.lost fit.below refl refl none s t h in (k.1, k.0)
  leaf_held (Set col e) fit none s t h = set_held (KnownCalls known) (length program.globals) width col e fit.below none s t h
  leaf_held (Any col) fit none s t h = any_held (KnownCalls known) (length program.globals) width col s t h
  leaf_held (Call proc args into) fit none s t h = go (slice_get known proc) refl none h
    where
      go : (o : Option (Option Transition)) → slice_get known proc ≡ o → losses_in_known_call width (length program.globals) args into o ≡ [] → Holds (known_call width (length program.globals) args into o) s t
          → EdgeRelates (KnownCalls known) (length program.globals) (Call proc args into) s t
      go None e n k = absurd k.some
      go (Some None) e n k = absurd k.some
      go (Some (Some f)) e n k = call_held width (length program.globals) args into known proc f (call-asks proc args into f fit e) n s t k
  leaf_held (Check number e) fit none s t h = absurd fit
  leaf_held (If e a b) fit none s t h = absurd fit
  leaf_held (Loop a e b d first) fit none s t h = absurd fit
  leaf_held Break fit none s t h = absurd fit
  leaf_held Continue fit none s t h = absurd fit
  leaf_held Return fit none s t h = absurd fit

  -- ---- how many cases

  few-pairs : (n m : ℕ) → n ≤ 256 → m ≤ 16 → n * m ≤ 4096
  few-pairs n m h k = let one = mul-le-mul_right m h in let other = mul-le-mul_left 256 k in omega arith

  call-cases : (proc : ℕ) (args : List Term) (into : Option ℕ) (f : Transition) → CallFits program width proc args into → slice_get known proc ≡ Some (Some f) → length (call_of width (length program.globals) args into f).cases ≤ 4096
  call-cases proc args into f fit is =
      let k : IsKnown program fit.callee f = are.fit proc fit.callee f fit.is is in
      let a = entering width (length program.globals) (length args) (arguments_of args).cases in
      let b = cut (awaited_count (length program.globals) into) f in
      let many = length-map (call_sequence width (length program.globals) args into f).cases (leaving_case width (length program.globals) into)
      ∙ flat_count (λ first. map (sequence_of_cases first) b.cases) (length b.cases) (λ first. length-map b.cases (sequence_of_cases first)) a.cases in
      let firsts : length a.cases ≡ length (arguments_of args).cases = length-map (arguments_of args).cases (λ case. with_posts (columns_of (length program.globals) ++ case.post) case) in
      let seconds : length b.cases ≡ length f.cases = length-map f.cases (λ case. with_posts (take (awaited_count (length program.globals) into) case.post) case) in
      let count = arguments-count args in
      let most = fit.cases in
      let most' = k.cases in
      subst (λ n. n ≤ 4096) (sym many) (few-pairs (length a.cases) (length b.cases) (omega arith) (omega arith))

  pub leaf_cases_few : (statement : Statement) → EdgeFits program width statement → length (leaf_of width (length program.globals) known statement).cases ≤ 4096
  leaf_cases_few (Guard e) fit =
      let many = length-map (lists_of e).truth.cases (with_posts (columns_of width)) in
      let count = truth-count e in
      let most = fit.cases in omega arith
  leaf_cases_few (Set col e) fit =
      let many = length-map (lists_of e).value.cases (set_case width col) in
      let count = value-count e in
      let most = fit.cases in omega arith
  leaf_cases_few (Any col) fit = omega arith
  leaf_cases_few (Call proc args into) fit = go (slice_get known proc) refl
    where
      go : (o : Option (Option Transition)) → slice_get known proc ≡ o → length (known_call width (length program.globals) args into o).cases ≤ 4096
      go None e = omega arith
      go (Some None) e = omega arith
      go (Some (Some f)) e = call-cases proc args into f fit e
  leaf_cases_few (Check number e) fit = absurd fit
  leaf_cases_few (If e a b) fit = absurd fit
  leaf_cases_few (Loop a e b d first) fit = absurd fit
  leaf_cases_few Break fit = absurd fit
  leaf_cases_few Continue fit = absurd fit
  leaf_cases_few Return fit = absurd fit

-- ---- few auxiliaries

mapped-few : (n : ℕ) (F : Case → Case) → ((case : Case) → case.aux ≤ n → (F case).aux ≤ n) → (cases : List Case) → AllByRecursion (λ case. case.aux ≤ n) cases → AllByRecursion (λ case. case.aux ≤ n) (map F cases)
mapped-few n F tells [] h = tt
mapped-few n F tells (case ∷ cases) h = (tells case h.0, mapped-few n F tells cases h.1)

pair-few : (first : Case) (j k to : ℕ) (seconds : List Case) → first.aux ≤ j → AllByRecursion (λ case. case.aux ≤ k) seconds → AllByRecursion (λ case. length case.post ≤ to) seconds → AllByRecursion (λ case. case.aux ≤ j + k + to) (map (sequence_of_cases first) seconds)
pair-few first j k to [] h few long = tt
pair-few first j k to (second ∷ seconds) h few long =
    let lost = count_by-le-length (λ q. is_none (answer_of (after_case first second q))) second.post in
    let one = few.0 in
    let posts = long.0 in
    (omega arith, pair-few first j k to seconds h few.1 long.1)

pairs-few : (j k to : ℕ) (firsts seconds : List Case) → AllByRecursion (λ case. case.aux ≤ j) firsts → AllByRecursion (λ case. case.aux ≤ k) seconds → AllByRecursion (λ case. length case.post ≤ to) seconds
    → AllByRecursion (λ case. case.aux ≤ j + k + to) (flat_map (λ first. map (sequence_of_cases first) seconds) firsts)
pairs-few j k to [] seconds h few long = tt
pairs-few j k to (first ∷ firsts) seconds h few long = joined (map (sequence_of_cases first) seconds) (pair-few first j k to seconds h.0 few long) (pairs-few j k to firsts seconds h.1 few long)
  where
    joined : (xs : List Case) → AllByRecursion (λ case. case.aux ≤ j + k + to) xs → AllByRecursion (λ case. case.aux ≤ j + k + to) (flat_map (λ first. map (sequence_of_cases first) seconds) firsts)
        → AllByRecursion (λ case. case.aux ≤ j + k + to) (xs ++ flat_map (λ first. map (sequence_of_cases first) seconds) firsts)
    joined [] a b = b
    joined (x ∷ xs) a b = (a.0, joined xs a.1 b)

pub call_few : (j k to : ℕ) (a b : Transition) (F : Case → List Polynomial) → AllByRecursion (λ case. case.aux ≤ j) a.cases → AllByRecursion (λ case. case.aux ≤ k) b.cases → AllByRecursion (λ case. length case.post ≤ to) b.cases
    → AllByRecursion (λ case. case.aux ≤ j + k + to) (map (λ case. with_posts (F case) case) (sequence_of a b).cases)
call_few j k to a b F h few long = mapped-few (j + k + to) (λ case. with_posts (F case) case) (λ case le. le) (sequence_of a b).cases (pairs-few j k to a.cases b.cases h few long)

below-limit : (m : ℕ) (cases : List Case) → m < 2 ^ 31 → AllByRecursion (λ case. case.aux ≤ m) cases → All (λ (case : Case). case.aux < 2 ^ 31) cases
below-limit m cases lt h = All-from_recursion (λ (case : Case). case.aux < 2 ^ 31) cases (narrowed cases h)
  where
    narrowed : (cases : List Case) → AllByRecursion (λ case. case.aux ≤ m) cases → AllByRecursion (λ (case : Case). case.aux < 2 ^ 31) cases
    narrowed [] h = tt
    narrowed (case ∷ cases) h = let one = h.0 in (omega arith, narrowed cases h.1)

posts-most : (from to : ℕ) (cases : List Case) → IsTransition from to cases → AllByRecursion (λ case. length case.post ≤ to) cases
posts-most from to [] h = tt
posts-most from to (case ∷ cases) h =
    let parts = both (fits from to case) (list_all (fits from to) cases) h in
    let long = (fitting from to case parts.0).length_is in
    (omega arith, posts-most from to cases parts.1)

module _ (program : Program) (width : ℕ) (wide : length program.globals ≤ width) (narrow : width ≤ 1000) (known : List (Option Transition)) (are : AreKnown program known) where
  awaited-few : (into : Option ℕ) → awaited_count (length program.globals) into ≤ 1001
  awaited-few None = omega arith
  awaited-few (Some col) = omega arith

  call-few : (proc : ℕ) (args : List Term) (into : Option ℕ) (f : Transition) → CallFits program width proc args into → slice_get known proc ≡ Some (Some f) → All (λ (case : Case). case.aux < 2 ^ 31) (call_of width (length program.globals) args into f).cases
  call-few proc args into f fit is =
      let asks = call-asks program width wide known are proc args into f fit is in
      let k : IsKnown program fit.callee f = are.fit proc fit.callee f fit.is is in
      let n = awaited_count (length program.globals) into in
      let a = entering width (length program.globals) (length args) (arguments_of args).cases in
      let b = cut n f in
      let few = fit.operators in
      let most = awaited-few into in
      let firsts = mapped-few (4 * joint_operators args) (λ case. with_posts (columns_of (length program.globals) ++ case.post) case) (λ case le. le) (arguments_of args).cases (few-sit width (4 * joint_operators args) (arguments_of args).cases (arguments-sit width args fit.below)) in
      let seconds = mapped-few 64 (λ case. with_posts (take n case.post) case) (λ case le. le) f.cases (recursion_from_All (λ (case : Case). case.aux ≤ 64) f.cases k.auxiliaries) in
      let long = posts-most f.from n b.cases (cut_fits n f b.cases asks.asked k.fits refl) in
      below-limit (4 * joint_operators args + 64 + awaited_count (length program.globals) into) (call_of width (length program.globals) args into f).cases (omega arith)
      (call_few (4 * joint_operators args) 64 n a b (λ case. (leaving_case width (length program.globals) into case).post) firsts seconds long)

  pub leaf_few : (statement : Statement) → EdgeFits program width statement → All (λ (case : Case). case.aux < 2 ^ 31) (leaf_of width (length program.globals) known statement).cases
  leaf_few (Guard e) fit = truth_few width e (guard_of width (lists_of e).truth.cases) fit.operators refl
  leaf_few (Set col e) fit =
      let few = fit.operators in
      below-limit (4 * operators_of e) (set_of width col (lists_of e).value.cases).cases (omega arith)
      (mapped-few (4 * operators_of e) (set_case width col) (λ case le. le) (lists_of e).value.cases (few-sit width (4 * operators_of e) (lists_of e).value.cases (sit width e fit.below).value))
  leaf_few (Any col) fit = below-limit 1 (any_of width col).cases (omega arith) (omega arith, tt)
  leaf_few (Call proc args into) fit = go (slice_get known proc) refl
    where
      go : (o : Option (Option Transition)) → slice_get known proc ≡ o → All (λ (case : Case). case.aux < 2 ^ 31) (known_call width (length program.globals) args into o).cases
      go None e = below-limit 0 [] (omega arith) tt
      go (Some None) e = below-limit 0 [] (omega arith) tt
      go (Some (Some f)) e = call-few proc args into f fit e
  leaf_few (Check number e) fit = absurd fit
  leaf_few (If e a b) fit = absurd fit
  leaf_few (Loop a e b d first) fit = absurd fit
  leaf_few Break fit = absurd fit
  leaf_few Continue fit = absurd fit
  leaf_few Return fit = absurd fit

-- ---- for the code: what a call is given

pub record CallReady (program : Program) (width globals : ℕ) (slice : List Core) (into : Option ℕ) (callee : Transition) : Type 0 where
  pub below : IsTrue (all_columns_below width (map term_of slice))
  pub operators : joint_operators (map term_of slice) ≤ 200000
  pub awaits : IsTrue (into_fits width into)
  pub enters : callee.from ≡ globals + length slice
  pub leaves : awaited_count globals into ≤ callee.to
  pub few : All (λ (case : Case). case.aux ≤ 64) callee.cases

pub call_ready : (program : Program) (width globals : ℕ) (known : List (Option Transition)) → AreKnown program known → length program.globals ≤ width → (proc : ℕ) (args slice : List Core) (into : Option ℕ) (callee : Transition)
    → CallFits program width proc (map term_of args) into → slice_get known proc ≡ Some (Some callee) → slice ≡ args → globals ≡ length program.globals → CallReady program width globals slice into callee
call_ready program width globals known are wide proc args slice into callee fit is same count =
    let asks = call-asks program width wide known are proc (map term_of args) into callee fit is in
    let k : IsKnown program fit.callee callee = are.fit proc fit.callee callee fit.is is in
    let enters = asks.enters in
    let long = length-map args term_of in
    let longer = ap length same in
    record {
      below = subst (λ xs. IsTrue (all_columns_below width (map term_of xs))) (sym same) fit.below;
      operators = subst (λ xs. joint_operators (map term_of xs) ≤ 200000) (sym same) fit.operators;
      awaits = fit.awaits;
      enters = omega (arith, enters, long, longer, count);
      leaves = subst (λ n. awaited_count n into ≤ callee.to) (sym count) asks.asked;
      few = k.auxiliaries;
    }

-- The formula of a call holds of the pair of its caller and that of its callee.
use Rattle.std.proofs.Common.{◌≡◌, inl, inr, ℕ, zero, suc, ◌+◌, ◌<◌, ◌≤◌, ℤ, pos, Bool, true, false, List, [], ◌∷◌, ◌++◌, length, map, take, drop, Option, Some, None, refl, sym, ap, subst, ◌∙◌, length-append, arith}
use Rattle.std.specs.Prelude.{IsTrue, ◌||◌, not, slice_get, slice_set, unwrap_or}
use Rattle.std.specs.List.{AllByRecursion, list_all, range_with_len}
use Rattle.std.specs.Option.{is_some}
use Rattle.std.proofs.Math.Seq.{drop-append_seam, get_or-append_seam, take-append_seam}
use Rattle.std.proofs.lemmas.List.{get_or_append_left, length-take-le, map-append, map-set, take-map, take_all}
use Rattle.std.proofs.lemmas.List.Elements.{recursion_from_All}
use Rattle.std.proofs.lemmas.Option.{unwrap_or-slice_get}
use Rattle.linear_terms.specs.declared.col.Col.{Col}
use Rattle.linear_terms.specs.declared.col.Col.TheVariants.{At, Aux}
use Rattle.linear_terms.specs.declared.row.Case.{Case}
use Rattle.linear_terms.specs.Polynomial.{Polynomial, column_of, constant_of}
use Rattle.linear_terms.specs.Value.{Valuation, value_of}
use Rattle.syntax_tree.specs.Term.{Term}
use Rattle.syntax_tree.specs.WellFormed.{all_columns_below}
use Rattle.execution.specs.Step.{values_of}
use Rattle.transition_formula.specs.Equating.{equated_formula}
use Rattle.transition_formula.specs.Composition.{sequence_of}
use Rattle.transition_formula.specs.Meaning.{Holds, HoldsSome, numbers}
use Rattle.transition_formula.specs.Posts.{numbers_at}
use Rattle.transition_formula.specs.Transition.{IsTransition, Transition, fits, is_below}
use Rattle.transition_formula.proofs.ColumnTests.{both}
use Rattle.transition_formula.proofs.Fitting.{fitting}
use Rattle.transition_formula.proofs.Meanings.{sequence-holds}
use Rattle.transition_formula.proofs.PostsAsEntries.{StandFrom, equated-holds}
use Rattle.transition_formula.proofs.SomePosts.{with_posts-holds}
use Rattle.transition_formula.proofs.Values.{column-value, posts-agree, rows-agree}
use Rattle.flow_graph.specs.Walks as walks
use Rattle.leaf_cases.specs.Edges.{arguments_of, entering, posts_with_value}
use Rattle.leaf_cases.specs.Guard as cases
use Rattle.leaf_cases.specs.Steps.{operand}
use Rattle.leaf_cases.specs.Summaries.{if_returned}
use Rattle.leaf_cases.proofs.EdgeMeanings.{entering_holds}
use Rattle.leaf_cases.proofs.Guards.{columns-read}
use Rattle.proc_summary.specs.Claims.{HoldsIf}
use Rattle.proc_summary.specs.Summary.{exit_formula, exit_places}
use Rattle.proc_summary.proofs.Graphs.{length-after}
use Rattle.proc_summary.proofs.ExitSummaries.{numbers-range}
use Rattle.newton_rounds.specs.Pairs.{PairEnds, Stretch, along, call_entry, call_exit, callee_width, carrying, carrying_case, columns_from, entered_case, exit_columns, pair_formula, posts_after_return, Stations, stations_of}
use Rattle.newton_rounds.specs.Shapes.{IsStretchBetween}
use Rattle.checked_tree.proofs.Between.{sequence-canonical}
use Rattle.checked_tree.proofs.CanonicalEvaluations.{formula-canonical, rows-canonical}
use Rattle.recurrence.proofs.CanonicalOrder.{IsCanonicalFormula}
use Rattle.newton_rounds.proofs.PairMeanings.{entry_told-holds, equated-canonical, longer-agree, posts-canonical, told-canonical, told-stand, whole-holds}
use Rattle.newton_rounds.proofs.PairFormulas.{after, entered-fits, first-fits, fourth-fits, returned-fits, second-fits, third-fits}
use Rattle.newton_rounds.proofs.Unfoldings.{IsCanonicalExit}
use Rattle.newton_rounds.proofs.ExitColumns.{places-below}
use Rattle.newton_rounds.proofs.TrueRows.{got}
use Rattle.newton_rounds.proofs.CallStations.{fewer, first-to}

-- ---- columns that are read

columns-value : (at : Valuation) (col : ℕ → Col) (ns : List ℕ) → map (value_of at) (map (λ n. column_of (col n)) ns) ≡ map (λ n. at (col n)) ns
columns-value at col [] = refl
columns-value at col (n ∷ ns) = λ i. column-value at (col n) i ∷ columns-value at col ns i

map-drop : {A B : Type 0} (f : A → B) (n : ℕ) (xs : List A) → map f (drop n xs) ≡ drop n (map f xs)
map-drop f zero xs = refl
map-drop f (suc n) [] = refl
map-drop f (suc n) (x ∷ xs) = map-drop f n xs

-- columns behind others
from-read : (front back : List ℤ) (aux : ℕ → ℤ) → map (value_of (numbers (front ++ back) aux)) (columns_from (length front) (length back)) ≡ back
from-read front back aux =
    columns-value (numbers (front ++ back) aux) (λ n. At n) (range_with_len (length front) (length back))
    ∙ numbers-range (length front) (length back) (front ++ back) (let all = length-append front back in omega (arith, all))
    ∙ ap (take (length back)) (drop-append_seam front back) ∙ take_all (length back) back (omega arith)

read_number : List ℤ → ℕ → ℤ
read_number xs n = unwrap_or (slice_get xs n) (pos 0)

-- auxiliaries that stand for numbers
exit-read : (before exits : List ℤ) → map (value_of (numbers before (read_number exits))) (exit_columns (length exits)) ≡ exits
unfolding read_number
exit-read before exits =
    columns-value (numbers before (read_number exits)) (λ n. Aux n) (range_with_len 0 (length exits))
    ∙ numbers-range 0 (length exits) exits (omega arith) ∙ take_all (length exits) exits (omega arith)

numbers-front : (places : List ℕ) (front back : List ℤ) → AllByRecursion (λ place. place < length front) places → numbers_at places (front ++ back) ≡ numbers_at places front
numbers-front [] front back h = refl
numbers-front (place ∷ places) front back h =
    let one = unwrap_or-slice_get (front ++ back) place (pos 0) ∙ get_or_append_left front back (pos 0) place h.0 ∙ sym (unwrap_or-slice_get front place (pos 0)) in
    λ i. one i ∷ numbers-front places front back h.1 i

-- ---- the callee's entry

entered-some : (columns globals : ℕ) (front : List ℤ) (cs : List Case) (told : List ℤ) → length front ≡ columns → HoldsSome (entering columns globals 0 cs).cases front told
    → HoldsSome (map (entered_case columns globals) cs) front (front ++ told)
entered-some columns globals front [] told long h = absurd h
entered-some columns globals front (case ∷ cs) told long (inl (aux, h)) =
    inl (
      aux,
      record {
        rows = h.rows;
        posts = map-append (value_of (numbers front aux)) (cases.columns_of columns) (cases.columns_of globals ++ case.post) ∙ (λ i. columns-read columns front aux long i ++ h.posts i);
      },
    )
entered-some columns globals front (case ∷ cs) told long (inr h) = inr (entered-some columns globals front cs told long h)

call_entry-holds : (columns globals : ℕ) (args : List Term) → globals ≤ columns → IsTrue (all_columns_below columns args) → (there values : List ℤ) → length there ≡ columns → values_of args there ≡ Some values
    → Holds (call_entry columns globals args) there (there ++ (take globals there ++ values))
call_entry-holds columns globals args le below there values long are =
    record { enters = long; some = entered-some columns globals there (arguments_of args).cases (take globals there ++ values) long (entering_holds columns globals args le below there values long are).some }

-- ---- its exit

received-read : (at : Valuation) (into : Option ℕ) (value : Polynomial) (posts : List Polynomial) → map (value_of at) (posts_with_value into value posts) ≡ walks.state_with_value into (value_of at value) (map (value_of at) posts)
received-read at None value posts = refl
received-read at (Some col) value posts = map-set (value_of at) posts col value

-- what is returned is read where it is awaited
received-same : (into : Option ℕ) (returns : Bool) (left : List ℤ) (value : ℤ) (state : List ℤ) → IsTrue (returns || not (is_some into))
    → walks.state_with_value into (read_number (if_returned returns left value) (length left)) state ≡ walks.state_with_value into value state
unfolding read_number
received-same None returns left value state h = refl
received-same (Some col) true left value state h =
    ap (λ v. slice_set state col v) (unwrap_or-slice_get (left ++ value ∷ []) (length left) (pos 0) ∙ get_or-append_seam left value [] (pos 0))
received-same (Some col) false left value state h = absurd (cc)

first-left : (returns : Bool) (left : List ℤ) (value : ℤ) → take (length left) (if_returned returns left value) ≡ left
first-left true left value = take-append_seam left (value ∷ [])
first-left false left value = take_all (length left) left (omega arith)

call_exit-holds : (columns globals : ℕ) (into : Option ℕ) (there entry left : List ℤ) (value : ℤ) (returns : Bool) → length there ≡ columns → length left ≡ globals → IsTrue (returns || not (is_some into))
    → Holds (call_exit columns globals into (length entry) (length (if_returned returns left value))) (there ++ entry)
    (walks.state_with_value into value (left ++ drop globals there) ++ (entry ++ if_returned returns left value))
unfolding read_number
call_exit-holds columns globals into there entry left value returns long short awaits =
    let exits = if_returned returns left value in
    let at = numbers (there ++ entry) (read_number exits) in
    let values = exit_columns (length exits) in
    let all = length-append there entry in
    let read : map (value_of at) values ≡ exits = exit-read (there ++ entry) exits in
    let own : map (value_of at) (cases.columns_of columns) ≡ there =
    columns-value at (λ n. At n) (range_with_len 0 columns) ∙ numbers-range 0 columns (there ++ entry) (omega (arith, all, long))
    ∙ (λ i. take (sym long i) (there ++ entry)) ∙ take-append_seam there entry in
    let front : map (value_of at) (take globals values) ≡ left =
    sym (take-map (value_of at) globals values) ∙ (λ i. take (sym short i) (read i)) ∙ first-left returns left value in
    let back : map (value_of at) (drop globals (cases.columns_of columns)) ≡ drop globals there = map-drop (value_of at) globals (cases.columns_of columns) ∙ ap (drop globals) own in
    let first : value_of at (operand globals record { aux = 0; rows = []; post = values }) ≡ read_number exits (length left) =
    got (value_of at) (constant_of (pos 0)) values globals refl ∙ (λ i. unwrap_or (slice_get (read i) (sym short i)) (pos 0)) in
    let state : map (value_of at) (posts_after_return columns globals into values) ≡ walks.state_with_value into value (left ++ drop globals there) =
    received-read at into (operand globals record { aux = 0; rows = []; post = values }) (take globals values ++ drop globals (cases.columns_of columns))
    ∙ (λ i. walks.state_with_value into (first i) ((map-append (value_of at) (take globals values) (drop globals (cases.columns_of columns)) ∙ (λ j. front j ++ back j)) i))
    ∙ received-same into returns left value (left ++ drop globals there) awaits in
    let carried : map (value_of at) (columns_from columns (length entry)) ≡ entry = (λ i. map (value_of at) (columns_from (sym long i) (length entry))) ∙ from-read there entry (read_number exits) in
    record {
      enters = omega (arith, all, long);
      some = inl (
        read_number exits,
        record {
          rows = tt;
          posts = map-append (value_of at) (posts_after_return columns globals into values) (columns_from columns (length entry) ++ values)
              ∙ (λ i. state i ++ (map-append (value_of at) (columns_from columns (length entry)) values ∙ (λ j. carried j ++ read j)) i);
        },
      );
    }

-- ---- the caller's exit

carrying-holds : (columns : ℕ) (f : Transition) (back rest final : List ℤ) → f.from ≡ columns → IsTransition f.from f.to f.cases → Holds f back final → Holds (carrying columns (length rest) f) (back ++ rest) (final ++ rest)
carrying-holds columns f back rest final starts fit h =
    record { enters = (let all = length-append back rest in let long = h.enters in omega (arith, all, long, starts)); some = go f.cases fit h.some }
  where
    wide : length back ≡ columns
    wide = h.enters ∙ starts

    go : (cs : List Case) → IsTransition f.from f.to cs → HoldsSome cs back final → HoldsSome (map (carrying_case columns (length rest)) cs) (back ++ rest) (final ++ rest)
    go [] fit k = absurd k
    go (case ∷ cs) fit (inl (aux, k)) =
        let c = fitting f.from f.to case (both (fits f.from f.to case) (list_all (fits f.from f.to) cs) fit).0 in
        let agree = longer-agree back rest aux f.from case.aux h.enters in
        inl (
          aux,
          record {
            rows = rows-agree (numbers back aux) (numbers (back ++ rest) aux) (is_below f.from case.aux) agree case.rows c.rows_are k.rows;
            posts =
                map-append (value_of (numbers (back ++ rest) aux)) case.post (columns_from columns (length rest))
                ∙ (λ i. (sym (posts-agree (numbers back aux) (numbers (back ++ rest) aux) (is_below f.from case.aux) agree case.post c.posts_are) ∙ k.posts) i
                ++ ((λ j. map (value_of (numbers (back ++ rest) aux)) (columns_from (sym wide j) (length rest))) ∙ from-read back rest aux) i);
          },
        )
    go (case ∷ cs) fit (inr k) = inr (go cs (both (fits f.from f.to case) (list_all (fits f.from f.to) cs) fit).1 k)

-- ---- a call of the group

module _ (caller callee : PairEnds) (s : Stretch) (is : IsStretchBetween caller callee s) where
  abbrev columns : ℕ
  columns = caller.ends.full.columns

  abbrev globals : ℕ
  globals = caller.ends.globals

  abbrev count : ℕ
  count = length s.call.args

  abbrev stations : Stations
  stations = stations_of caller callee s

  -- what is known of a call: the states from the caller's entry to its exit, what the callee is
  -- called with, and what it leaves
  pub record IsCalled (before there values left back final exits : List ℤ) (value : ℤ) (returns : Bool) : Type 0 where
    pub starts : HoldsIf s.before before there
    pub are : values_of s.call.args there ≡ Some values
    pub many : length values ≡ count
    pub short : length left ≡ globals
    pub wide : length (if_returned returns left value) ≡ callee.ends.exit.columns
    pub awaits : IsTrue (returns || not (is_some s.call.into))
    pub back_is : back ≡ walks.state_with_value s.call.into value (left ++ drop globals there)
    pub stops : HoldsIf s.after back final
    pub told : numbers_at (exit_places caller.ends) final ≡ exits
    pub long : length exits ≡ caller.ends.exit.columns

  module _ (before there values left back final exits : List ℤ) (value : ℤ) (returns : Bool) (called : IsCalled before there values left back final exits value returns) where
    abbrev pair : List ℤ
    pair = take caller.ends.entry.columns before ++ exits

    abbrev entry_state : List ℤ
    entry_state = take globals there ++ values

    abbrev answer : List ℤ
    answer = if_returned returns left value

    abbrev rest : List ℤ
    rest = entry_state ++ answer

    first-holds : Holds stations.first pair there
    first-holds = entry_told-holds caller is.caller_is s.before is.before before exits there called.long called.starts

    first-whole : IsTransition stations.first.from stations.first.to stations.first.cases
    first-whole = subst (λ n. IsTransition caller.pair.columns n stations.first.cases) (sym (first-to caller callee s is)) (first-fits caller callee s is)

    there-long : length there ≡ columns
    there-long = length-after stations.first pair there first-whole first-holds ∙ first-to caller callee s is

    entry-long : length entry_state ≡ globals + count
    entry-long =
        length-append (take globals there) values
        ∙ (λ i. length-take-le globals there (let le = fewer caller callee s is in omega (arith, le, there-long)) i + called.many i)

    rest-long : length rest ≡ callee_width caller.ends callee.ends s.call.args
    rest-long = length-append entry_state answer ∙ (λ i. entry-long i + called.wide i)

    second-holds : Holds stations.second there (there ++ entry_state)
    second-holds = call_entry-holds columns globals s.call.args (fewer caller callee s is) is.call.below there values there-long called.are

    third-holds : Holds stations.third (there ++ entry_state) (back ++ rest)
    third-holds =
        subst (λ b. Holds stations.third (there ++ entry_state) (b ++ rest)) (sym called.back_is)
        (subst (λ n. Holds (call_exit columns globals s.call.into n callee.ends.exit.columns) (there ++ entry_state) (walks.state_with_value s.call.into value (left ++ drop globals there) ++ rest)) entry-long
        (subst (λ n. Holds (call_exit columns globals s.call.into (length entry_state) n) (there ++ entry_state) (walks.state_with_value s.call.into value (left ++ drop globals there) ++ rest)) called.wide
        (call_exit-holds columns globals s.call.into there entry_state left value returns there-long called.short called.awaits)))

    fourth-holds : Holds stations.fourth (back ++ rest) (final ++ rest)
    fourth-holds =
        let states = after caller callee s is in
        subst (λ n. Holds (carrying columns n (exit_formula columns s.after)) (back ++ rest) (final ++ rest)) rest-long
        (carrying-holds columns (exit_formula columns s.after) back rest final states.from states.fits (whole-holds caller is.caller_is s.after is.after back final called.stops))

    along-holds : Holds (along stations) pair (final ++ rest)
    along-holds =
        let twice = sequence_of stations.first stations.second in
        let thrice = sequence_of twice stations.third in
        let two = sequence-holds stations.first stations.second (first-to caller callee s is) first-whole (second-fits caller callee s is) pair there (there ++ entry_state) first-holds second-holds in
        let three = sequence-holds twice stations.third (omega arith) (entered-fits caller callee s is) (third-fits caller callee s is) pair (there ++ entry_state) (back ++ rest) two third-holds in
        sequence-holds thrice stations.fourth (omega arith) (subst (λ n. IsTransition caller.pair.columns n thrice.cases) (omega arith) (returned-fits caller callee s is)) (fourth-fits caller callee s is) pair (back ++ rest) (final ++ rest) three fourth-holds

    final-long : length final ≡ columns
    final-long =
        let states = after caller callee s is in
        length-after (exit_formula columns s.after) back final states.fits (whole-holds caller is.caller_is s.after is.after back final called.stops) ∙ states.to

    -- the pair of the caller leads to that of the callee
    pub pair-holds : Holds (pair_formula caller callee s) pair rest
    pair-holds =
        let places = exit_places caller.ends in
        let width = callee_width caller.ends callee.ends s.call.args in
        let within : AllByRecursion (λ place. place < length final) places = subst (λ n. AllByRecursion (λ place. place < n) places) (sym final-long) (recursion_from_All (λ place. place < columns) places (places-below caller is.caller_is)) in
        let stand : StandFrom pair caller.ends.entry.columns (numbers_at places (final ++ rest)) =
        subst (StandFrom pair caller.ends.entry.columns) (sym (numbers-front places final rest within ∙ called.told))
        (told-stand caller is.caller_is s.before is.before before exits there called.starts) in
        let all = length-append final rest in
        let behind : numbers_at (range_with_len columns width) (final ++ rest) ≡ rest =
        numbers-range columns width (final ++ rest) (omega (arith, all, final-long, rest-long)) ∙ (λ i. take width (drop (sym final-long i) (final ++ rest))) ∙ ap (take width) (drop-append_seam final rest) ∙ take_all width rest (omega (arith, rest-long)) in
        subst (Holds (pair_formula caller callee s) pair) behind
        (with_posts-holds (range_with_len columns width) (equated_formula caller.ends.entry.columns places (along stations)) pair (final ++ rest)
        (equated-holds caller.ends.entry.columns places (along stations) pair (final ++ rest) stand along-holds))

  -- its rows are canonical
  pub pair-canonical : IsCanonicalExit s.before → IsCanonicalFormula (pair_formula caller callee s)
  pair-canonical h =
      let two = sequence-canonical stations.first stations.second (rows-canonical stations.first (told-canonical caller is.caller_is s.before is.before h)) in
      let three = sequence-canonical (sequence_of stations.first stations.second) stations.third two in
      let four = sequence-canonical (sequence_of (sequence_of stations.first stations.second) stations.third) stations.fourth three in
      posts-canonical (range_with_len columns (callee_width caller.ends callee.ends s.call.args)) (equated_formula caller.ends.entry.columns (exit_places caller.ends) (along stations))
      (equated-canonical caller.ends.entry.columns (exit_places caller.ends) (along stations) (formula-canonical (along stations) four))

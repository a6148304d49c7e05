-- What is told of an exit, and that the summary of a procedure is met.
use Rattle.std.proofs.Common.{◌≡◌, ℕ, ℤ, pos, ◌+◌, ◌-◌, ◌<◌, ◌≤◌, ◌^◌, List, [], ◌∷◌, ◌++◌, length, map, take, drop, Bool, true, false, Option, None, Some, zero, suc, refl, sym, ap, subst, ◌∙◌, arith, append-nil, append_assoc, length-append}
use Rattle.std.specs.Prelude.{All, IsTrue, ◌&&◌, if◌then◌else◌, nat_le, slice_get, unwrap_or}
use Rattle.std.specs.Option.{is_none}
use Rattle.std.specs.List.{AllByRecursion, list_all, range_with_len}
use Rattle.std.proofs.lemmas.Bool.{and_parts, leb-true}
use Rattle.std.proofs.lemmas.List.{drop_more, map-append}
use Rattle.std.proofs.lemmas.List.Elements.{All-from_recursion}
use Rattle.std.proofs.lemmas.List.FromFn.{length-range_with_len}
use Rattle.std.proofs.lemmas.List.Sums.{count_by-le-length}
use Rattle.std.proofs.lemmas.Option.{unwrap_or-slice_get}
use Rattle.std.proofs.Math.Seq.{take-append_seam}
use Rattle.items.proofs.Each.{each-append, each-more}
use Rattle.linear_terms.specs.declared.row.Case.{Case}
use Rattle.transition_formula.specs.Composition.{by}
use Rattle.transition_formula.specs.Hiding.{hidden, hidden_case, hiding}
use Rattle.transition_formula.specs.Loss.{answer_of}
use Rattle.transition_formula.specs.Meaning.{Covers, Holds}
use Rattle.transition_formula.specs.Posts.{case_with_posts, numbers_at}
use Rattle.transition_formula.specs.Transition.{Transition, IsTransition, IsFitted, AreSolvable, fits}
use Rattle.syntax_tree.specs.declared.program.Proc.{Proc}
use Rattle.syntax_tree.specs.declared.program.Program.{Program}
use Rattle.syntax_tree.specs.Value.{State}
use Rattle.syntax_tree.specs.WellFormed.{IsProcFit, IsWellFormed, width_of}
use Rattle.flow_graph.specs.FlowGraph.{body_of, exit_of}
use Rattle.flow_graph.specs.Laws.{last_of}
use Rattle.flow_graph.specs.Walks.{WalksTo}
use Rattle.leaf_cases.specs.Conditions.{IsKnown}
use Rattle.leaf_cases.specs.Summaries.{SummaryIsMet, exit_values, if_returned}
use Rattle.vocabularies.specs.Ends.{entry_of, entry_width, exit_width, full_of, value_width}
use Rattle.vocabularies.specs.Ends as ends
use Rattle.vocabularies.specs.Procs.{IsProcOf}
use Rattle.checked_tree.specs.Law.{IsBetweenEnds, IsEnd, IsFrom}
use Rattle.proc_summary.specs.declared.stop.Flow.{Flow}
use Rattle.proc_summary.specs.Claims.{FitsFlow, FitsIf, FlowHolds, HoldsIf}
use Rattle.proc_summary.specs.Summary.{ends_of, exit_formula, exit_places, projection_of, value_place}
use Rattle.proc_summary.specs.Parts.{IsFit, IsToldBy, IsToldFrom}
use Rattle.proc_summary.proofs.Graphs.{few-solvable, full-columns, length-after, narrow, post-length, proc-fit}
use Rattle.proc_summary.proofs.CratesBelow.{IsVocabulary-below, hidden-fits, hidden-holds, range-below, returns_are_walks, with_posts-fits, with_posts-holds}

-- ---- few auxiliaries

few-fitted : (cases : List Case) → IsTrue (list_all (λ case. nat_le (length case.rows) 64 && nat_le case.aux 64) cases) → AllByRecursion (λ (case : Case). case.aux ≤ 64) cases
few-fitted [] h = tt
few-fitted (case ∷ cases) h =
    let parts = and_parts (nat_le (length case.rows) 64 && nat_le case.aux 64) (list_all (λ c. nat_le (length c.rows) 64 && nat_le c.aux 64) cases) h in
    (leb-true case.aux 64 (and_parts (nat_le (length case.rows) 64) (nat_le case.aux 64) parts.0).1, few-fitted cases parts.1)

pub fitted-few : (cases : List Case) → IsFitted cases → AllByRecursion (λ (case : Case). case.aux ≤ 64) cases
fitted-few cases h = few-fitted cases (and_parts (nat_le (length cases) 16) (list_all (λ case. nat_le (length case.rows) 64 && nat_le case.aux 64) cases) h).1

pub fitted-cases : (cases : List Case) → IsFitted cases → length cases ≤ 16
fitted-cases cases h = leb-true (length cases) 16 (and_parts (nat_le (length cases) 16) (list_all (λ case. nat_le (length case.rows) 64 && nat_le case.aux 64) cases) h).0

-- hiding adds an auxiliary for each entry column that it hides, and for each post that is lost
hidden-aux : (n from to : ℕ) (case : Case) → from ≤ 63 → to ≤ 63 → length case.post ≡ to → case.aux ≤ 64 → (hidden_case n from case).aux < 2 ^ 31
hidden-aux n from to case few small long le =
    let lost = count_by-le-length (λ p. is_none (answer_of (hiding n from case p))) case.post in omega arith

told-few : (n from to : ℕ) (places : List ℕ) (cases : List Case) → from ≤ 63 → to ≤ 63 → IsTransition from to cases → AllByRecursion (λ (case : Case). case.aux ≤ 64) cases
    → AllByRecursion (λ (case : Case). case.aux < 2 ^ 31) (map (case_with_posts places) (map (hidden_case n from) cases))
told-few n from to places [] few small h k = tt
told-few n from to places (case ∷ cases) few small h k =
    let parts = and_parts (fits from to case) (list_all (fits from to) cases) h in
    (hidden-aux n from to case few small (post-length from to case parts.0) k.0, told-few n from to places cases few small parts.1 k.1)

-- ---- a formula of which some is told

pub hidden-few : (entry : ℕ) (places : List ℕ) (f : Transition) → IsToldBy entry places f → All (λ (case : Case). case.aux + (f.from - entry) + f.to < 2 ^ 32) f.cases
hidden-few entry places f told =
    let few = told.from_few in
    let small = told.to_few in
    All-from_recursion (λ (case : Case). case.aux + (f.from - entry) + f.to < 2 ^ 32) f.cases
    (each-more (λ (case : Case). case.aux ≤ 64) (λ (case : Case). case.aux + (f.from - entry) + f.to < 2 ^ 32) (λ case le. omega (arith, le, few, small)) f.cases (fitted-few f.cases told.fitted))

module _ (entry : ℕ) (places : List ℕ) (f : Transition) (told : IsToldBy entry places f) (fit : IsFit f) where
  pub told-fit : IsFit (projection_of entry places f)
  told-fit = with_posts-fits places (hidden entry f) told.there (hidden-fits entry f.from f.to f.cases told.fewer fit)

  pub told-solvable : AreSolvable (projection_of entry places f).cases
  told-solvable =
      let short = told.short in
      few-solvable entry (length places) (projection_of entry places f).cases (omega (arith, short)) told-fit
      (All-from_recursion (λ (case : Case). case.aux < 2 ^ 31) (projection_of entry places f).cases
      (told-few entry f.from f.to places f.cases told.from_few told.to_few fit (fitted-few f.cases told.fitted)))

  pub told-holds : (before after : State) → Holds f before after → Holds (projection_of entry places f) (take entry before) (numbers_at places after)
  told-holds before after h = with_posts-holds places (hidden entry f) (take entry before) after (hidden-holds entry f told.fewer fit before after h)

-- ---- the numbers that are told

pub numbers-range : (a n : ℕ) (xs : List ℤ) → a + n ≤ length xs → numbers_at (range_with_len a n) xs ≡ take n (drop a xs)
numbers-range a zero xs le = refl
numbers-range a (suc n) xs le =
    let more = numbers-range (a + 1) n xs (omega (arith, le)) in
    sym (ap (take (suc n)) (drop_more xs a (pos 0) (omega (arith, le))) ∙ (λ i. sym (unwrap_or-slice_get xs a (pos 0)) i ∷ sym more i))

-- the globals, and the last number where it is returned
pub numbers-told : (returns : Bool) (globals columns : ℕ) (final after : List ℤ) (value : ℤ) → length final ≡ columns → globals ≤ columns → take globals final ≡ after → last_of final ≡ value
    → numbers_at (range_with_len 0 globals ++ value_place returns columns) final ≡ if_returned returns after value
numbers-told false globals columns final after value long le taken last =
    ap (λ places. numbers_at places final) (append-nil (range_with_len 0 globals)) ∙ numbers-range 0 globals final (omega (arith, long, le)) ∙ taken
numbers-told true globals columns final after value long le taken last =
    map-append (λ place. unwrap_or (slice_get final place) (pos 0)) (range_with_len 0 globals) ((columns - 1) ∷ [])
    ∙ (λ i. (numbers-range 0 globals final (omega (arith, long, le)) ∙ taken) i ++ ((λ j. unwrap_or (slice_get final (sym long j - 1)) (pos 0)) ∙ unwrap_or-slice_get final (length final - 1) (pos 0) ∙ last) i ∷ [])

-- ---- the ends of a procedure

module _ (program : Program) (proc : ℕ) (p : Proc) (formed : IsWellFormed program) (is : IsProcOf program proc p) where
  fit : IsProcFit program p
  fit = proc-fit program proc p formed is

  thin : width_of program p ≤ 63
  thin = narrow program p formed fit

  value-few : (returns : Bool) → value_width returns ≤ 1
  value-few true = omega arith
  value-few false = omega arith

  pub entry-columns : (entry_of program p).columns ≡ entry_width program p
  unfolding entry_of
  entry-columns = refl

  pub exit-columns : (ends.exit_of program p).columns ≡ exit_width program p
  unfolding ends.exit_of
  exit-columns = refl

  entry-narrow : entry_width program p ≤ width_of program p
  entry-narrow = let first = fit.first in omega (arith, first)

  pub entry-end : IsEnd (entry_of program p)
  unfolding entry_of
  entry-end = record {
    is = IsVocabulary-below program p (entry_width program p) (entry_width program p) fit (omega arith);
    few = omega (arith, entry-narrow, thin);
  }

  pub exit-end : IsEnd (ends.exit_of program p)
  unfolding ends.exit_of
  exit-end = record {
    is = IsVocabulary-below program p (length program.globals) (exit_width program p) fit (omega arith);
    few = let one = value-few p.returns in let globals = formed.globals in omega (arith, one, globals);
  }

  -- ---- the columns of the exit

  abbrev places : List ℕ
  places = exit_places (ends_of program p)

  value-length : (returns : Bool) (columns : ℕ) → length (value_place returns columns) ≡ value_width returns
  value-length true columns = refl
  value-length false columns = refl

  pub places-length : length places ≡ exit_width program p
  places-length =
      length-append (range_with_len 0 (length program.globals)) (value_place p.returns (full_of program p).columns)
      ∙ (λ i. length-range_with_len 0 (length program.globals) i + value-length p.returns (full_of program p).columns i)

  value-below : (returns : Bool) (columns : ℕ) → 0 < columns → AllByRecursion (λ place. place < columns) (value_place returns columns)
  value-below true columns lt = (omega (arith, lt), tt)
  value-below false columns lt = tt

  pub places-below : All (λ place. place < width_of program p) places
  places-below =
      All-from_recursion (λ place. place < width_of program p) places
      (subst (λ n. AllByRecursion (λ place. place < width_of program p) (range_with_len 0 (length program.globals) ++ value_place p.returns n)) (sym (full-columns program p))
      (each-append (λ place. place < width_of program p) (range_with_len 0 (length program.globals)) (value_place p.returns (width_of program p))
      (range-below 0 (length program.globals) (width_of program p) (omega arith)) (value-below p.returns (width_of program p) (omega arith))))

  pub told-from : (exit : Option Transition) → FitsIf (width_of program p) exit → IsToldFrom (width_of program p) (entry_width program p) places exit
  told-from None h = record {
    fewer = entry-narrow;
    there = places-below;
    short = let long = places-length in let one = value-few p.returns in let globals = formed.globals in omega (arith, long, one, globals);
    from_few = thin;
    to_few = thin;
    fitted = refl;
  }
  told-from (Some f) h = record {
    fewer = subst (λ n. entry_width program p ≤ n) (sym h.from) entry-narrow;
    there = subst (λ n. All (λ place. place < n) places) (sym h.to) places-below;
    short = let long = places-length in let one = value-few p.returns in let globals = formed.globals in omega (arith, long, one, globals);
    from_few = subst (λ n. n ≤ 63) (sym h.from) thin;
    to_few = subst (λ n. n ≤ 63) (sym h.to) thin;
    fitted = h.fitted;
  }

  pub exit-fit : (exit : Option Transition) → FitsIf (width_of program p) exit → IsFit (exit_formula (width_of program p) exit)
  exit-fit None h = refl
  exit-fit (Some f) h = h.fits

  -- it goes from the vocabulary of the entry to that of the exit
  pub told-between : (exit : Option Transition) → FitsIf (width_of program p) exit → IsFrom (entry_of program p) (ends.exit_of program p) (projection_of (entry_width program p) places (exit_formula (width_of program p) exit))
  told-between exit h = record {
    from_is = sym entry-columns;
    to_is = places-length ∙ sym exit-columns;
    fits = told-fit (entry_width program p) places (exit_formula (width_of program p) exit) (told-from exit h) (exit-fit exit h);
  }

  -- ---- for the code, where columns and places are told by equations

  module _ (columns entry : ℕ) (given : List ℕ) (exit : Option Transition) (wide : columns ≡ width_of program p) (first : entry ≡ entry_width program p) (same : given ≡ places) (fits : FitsIf (width_of program p) exit) where
    pub told-as : IsToldFrom columns entry given exit
    told-as =
        subst (λ n. IsToldFrom n entry given exit) (sym wide)
        (subst (λ n. IsToldFrom (width_of program p) n given exit) (sym first)
        (subst (λ all. IsToldFrom (width_of program p) (entry_width program p) all exit) (sym same) (told-from exit fits)))

    pub told-is : projection_of entry given (exit_formula columns exit) ≡ projection_of (entry_width program p) places (exit_formula (width_of program p) exit)
    told-is = λ i. projection_of (first i) (same i) (exit_formula (wide i) exit)

  pub told-solved : (exit : Option Transition) → FitsIf (width_of program p) exit → AreSolvable (projection_of (entry_width program p) places (exit_formula (width_of program p) exit)).cases
  told-solved exit h = told-solvable (entry_width program p) places (exit_formula (width_of program p) exit) (told-from exit h) (exit-fit exit h)

  -- ---- the summary

  exits-are : (returns : Bool) (globals : ℕ) → globals + value_width returns ≡ (if returns then globals + 1 else globals)
  exits-are true globals = refl
  exits-are false globals = omega arith

  pub summary-known : (g : Transition) → IsBetweenEnds (entry_of program p) (ends.exit_of program p) g → IsKnown program p g
  summary-known g h = record {
    enters = h.between.from_is ∙ entry-columns;
    leaves = h.between.to_is ∙ exit-columns ∙ exits-are p.returns (length program.globals);
    fits = h.between.fits;
    cases = fitted-cases g.cases h.fitted;
    auxiliaries = All-from_recursion (λ (case : Case). case.aux ≤ 64) g.cases (fitted-few g.cases h.fitted);
  }

  -- what the exit holds of is told
  pub exit-told : (exit : Option Transition) → FitsIf (width_of program p) exit → (globals args others final after : State) (value : ℤ) → length globals ≡ length program.globals → length args ≡ p.params
      → HoldsIf exit (globals ++ (args ++ others)) final → take (length program.globals) final ≡ after → last_of final ≡ value
      → Holds (projection_of (entry_width program p) places (exit_formula (width_of program p) exit)) (globals ++ args) (exit_values p after value)
  exit-told None h globals args others final after value long params holds taken last = absurd holds
  exit-told (Some f) h globals args others final after value long params holds taken last =
      let all = length-append globals args in
      let same : length (globals ++ args) ≡ entry_width program p = omega (arith, all, long, params) in
      let before : take (entry_width program p) (globals ++ (args ++ others)) ≡ globals ++ args =
      ap (take (entry_width program p)) (sym (append_assoc globals args others)) ∙ (λ i. take (sym same i) ((globals ++ args) ++ others)) ∙ take-append_seam (globals ++ args) others in
      let wide : length final ≡ (full_of program p).columns = length-after f (globals ++ (args ++ others)) final h.fits holds ∙ h.to ∙ sym (full-columns program p) in
      let told = numbers-told p.returns (length program.globals) (full_of program p).columns final after value wide (subst (λ n. length program.globals ≤ n) (sym (full-columns program p)) (omega arith)) taken last in
      subst (λ b. Holds (projection_of (entry_width program p) places f) b (exit_values p after value)) before
      (subst (λ a. Holds (projection_of (entry_width program p) places f) (take (entry_width program p) (globals ++ (args ++ others))) a) told
      (told-holds (entry_width program p) places f (told-from (Some f) h) (exit-fit (Some f) h) (globals ++ (args ++ others)) final holds))

  pub summary-met : (flow : Flow) (g : Transition) → FitsFlow program p flow → FlowHolds program proc flow
      → Covers g (projection_of (entry_width program p) places (exit_formula (width_of program p) flow.exit.formula)) → SummaryIsMet program proc g
  summary-met flow g fits holds covers q there globals args after value returns =
      let walked = (returns_are_walks program proc globals args after value).0 returns in
      let final = walked.0 in
      let node : exit_of (body_of (slice_get program.procs proc)) ≡ flow.exit.node = ap (λ (o : Option Proc). exit_of (body_of o)) is ∙ sym fits.exit_is in
      go final (walked.1, walked.2, walked.3) node
    where
      some-one : {X : Type 0} {o : Option X} {x y : X} → o ≡ Some x → o ≡ Some y → x ≡ y
      some-one e f = cc

      go : (final : State) → WalksTo program proc globals args (exit_of (body_of (slice_get program.procs proc))) final × (take (length program.globals) final ≡ after) × (last_of final ≡ value)
          → exit_of (body_of (slice_get program.procs proc)) ≡ flow.exit.node → Holds g (globals ++ args) (exit_values q after value)
      go final (walk, taken, last) node =
          let own : walk.callee ≡ p = some-one walk.is is in
          let same : q ≡ p = some-one there is in
          let comes : WalksTo program proc globals args flow.exit.node final = subst (λ n. WalksTo program proc globals args n final) node walk in
          subst (λ r. Holds g (globals ++ args) (exit_values r after value)) (sym same)
          (covers (globals ++ args) (exit_values p after value)
          (exit-told flow.exit.formula fits.exit globals args comes.others final after value walk.width (walk.params ∙ ap (λ (r : Proc). r.params) own)
          (holds.exit globals args final comes) taken last))

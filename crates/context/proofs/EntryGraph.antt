-- The entry graph can be evaluated: each leaf goes between the vocabularies of its link's ends.
use mathlib.Core.Path.{transport}
use Rattle.std.proofs.Common.{◌≡◌, ◌⊎◌, inl, inr, ℕ, zero, suc, ◌+◌, ◌<◌, ◌≤◌, ◌^◌, Bool, true, false, length, map, List, [], ◌∷◌, ◌++◌, Option, None, Some, refl, sym, ap, subst, ◌∙◌, length-append, arith}
use Rattle.std.specs.Prelude.{◌==◌, if◌then◌else◌, nat_lt, option_to_list, slice_get, unwrap_or}
use Rattle.std.specs.Option.{option_map}
use Rattle.std.specs.List.{AllByRecursion}
use Rattle.std.proofs.lemmas.Bool.{cases_order, eq-eqb, le-ltb, lt-ltb, ne_eqb}
use Rattle.std.proofs.lemmas.List.{length-map}
use Rattle.std.proofs.lemmas.List.Elements.{All-from_recursion, recursion_from_All}
use Rattle.std.proofs.lemmas.Option.{slice_get-map, slice_get_within}
use Rattle.items.proofs.Each.{each-append, each-get, each-map}
use Rattle.path_expr.specs.declared.link.Link.{Link}
use Rattle.polyhedra.specs.Vocabulary.{Vocabulary}
use Rattle.syntax_tree.specs.declared.program.Proc.{Proc}
use Rattle.syntax_tree.specs.declared.program.Program.{Program}
use Rattle.syntax_tree.specs.WellFormed.{IsProcFit, IsWellFormed}
use Rattle.vocabularies.specs.Ends.{entry_of, entry_width, start_of}
use Rattle.vocabularies.proofs.Columns.{IsVocabulary-below, IsVocabulary-plain}
use Rattle.vocabularies.specs.Procs.{IsProcOf}
use Rattle.checked_tree.specs.Graph.{nothing, leaf_at, link_at, vocabulary_at}
use Rattle.checked_tree.specs.Law.{IsEnd, IsEvaluated, IsFrom, IsLeaf}
use Rattle.transition_formula.specs.Transition.{AreSolvable, Transition}
use Rattle.proc_summary.specs.declared.stop.Flow.{Flow}
use Rattle.context.specs.Entries.{Way, entry_graph, main_entry, node_of, nodes_of, others_from, unless_main, ways_of}
use Rattle.context.proofs.AssertionPlaces.{proc-fit, some-one}
use Rattle.context.proofs.PlaceColumns.{got}

-- ---- vocabularies

abbrev pub no_vocabulary : Vocabulary
no_vocabulary = record { columns = 0; named = []; harvested = []; rule = 0; extra = [] }

pub entry-columns : (program : Program) (p : Proc) → (entry_of program p).columns ≡ entry_width program p
unfolding entry_of
entry-columns program p = refl

pub none-columns : (program : Program) → (start_of program).columns ≡ 0
unfolding start_of
none-columns program = refl

entry-end : (program : Program) (p : Proc) → IsWellFormed program → IsProcFit program p → IsEnd (entry_of program p)
unfolding entry_of
entry-end program p formed fit =
    let globals = formed.globals in
    let params = fit.params in
    record { is = IsVocabulary-below program p (entry_width program p) (entry_width program p) fit (omega arith); few = omega (arith, globals, params) }

pub start-end : (program : Program) → IsEnd (start_of program)
unfolding start_of
start-end program = record { is = IsVocabulary-plain program 0 [] (omega arith) tt; few = omega arith }

-- ---- the node of a procedure

module _ (program : Program) where
  abbrev main : ℕ
  main = program.main

  abbrev own : Proc → Vocabulary
  own p = entry_of program p

  first-other : (number : ℕ) (q : Proc) (procs : List Proc) → (number ≡ main → ⊥) → others_from program number (q ∷ procs) ≡ own q ∷ others_from program (number + 1) procs
  first-other number q procs differs = ap (λ b. unless_main b (own q) (others_from program (number + 1) procs)) (ne_eqb number main differs)

  -- where `main` comes later than the procedure, or does not come
  others-before : (number : ℕ) (procs : List Proc) (k : ℕ) (p : Proc) → (number + k < main) → slice_get procs k ≡ Some p → slice_get (others_from program number procs) k ≡ Some (own p)
  others-before number [] k p lt e = absurd (cc)
  others-before number (q ∷ procs) zero p lt e =
      let same : q ≡ p = cc in
      ap (λ l. slice_get l 0) (first-other number q procs (λ is. omega (arith, is, lt))) ∙ (λ i. Some (own (same i)))
  others-before number (q ∷ procs) (suc k) p lt e =
      ap (λ l. slice_get l (suc k)) (first-other number q procs (λ is. omega (arith, is, lt))) ∙ others-before (number + 1) procs k p (omega (arith, lt)) e

  others-past : (number : ℕ) (procs : List Proc) (k : ℕ) (p : Proc) → main < number → slice_get procs k ≡ Some p → slice_get (others_from program number procs) k ≡ Some (own p)
  others-past number [] k p lt e = absurd (cc)
  others-past number (q ∷ procs) zero p lt e =
      let same : q ≡ p = cc in
      ap (λ l. slice_get l 0) (first-other number q procs (λ is. omega (arith, is, lt))) ∙ (λ i. Some (own (same i)))
  others-past number (q ∷ procs) (suc k) p lt e =
      ap (λ l. slice_get l (suc k)) (first-other number q procs (λ is. omega (arith, is, lt))) ∙ others-past (number + 1) procs k p (omega (arith, lt)) e

  -- where it came before
  others-behind : (number : ℕ) (procs : List Proc) (k : ℕ) (p : Proc) → number ≤ main → main < number + suc k → slice_get procs (suc k) ≡ Some p → slice_get (others_from program number procs) k ≡ Some (own p)
  others-behind number [] k p le lt e = absurd (cc)
  others-behind number (q ∷ procs) k p le lt e = go (cases_order number main) k lt e (λ j less more at. others-behind (number + 1) procs j p less more at)
    where
      go : (number ≡ main) ⊎ ((number < main) ⊎ (main < number)) → (k : ℕ) → main < number + suc k → slice_get procs k ≡ Some p
          → ((j : ℕ) → number + 1 ≤ main → main < number + 1 + suc j → slice_get procs (suc j) ≡ Some p → slice_get (others_from program (number + 1) procs) j ≡ Some (own p))
          → slice_get (others_from program number (q ∷ procs)) k ≡ Some (own p)
      go (inl same) k lt e behind =
          ap (λ b. slice_get (unless_main b (own q) (others_from program (number + 1) procs)) k) (eq-eqb number main same) ∙ others-past (number + 1) procs k p (omega (arith, same)) e
      go (inr (inl less)) zero lt e behind = absurd (omega (arith, less, lt))
      go (inr (inl less)) (suc k) lt e behind =
          ap (λ l. slice_get l (suc k)) (first-other number q procs (λ same. omega (arith, same, less))) ∙ behind k (omega (arith, less)) (omega (arith, lt)) e
      go (inr (inr more)) k lt e behind = absurd (omega (arith, more, le))

  module _ (m : Proc) (is_main : IsProcOf program main m) where
    first-nodes : nodes_of program ≡ start_of program ∷ own m ∷ others_from program 0 program.procs
    first-nodes = ap (λ o. start_of program ∷ (map own (option_to_list o) ++ others_from program 0 program.procs)) is_main

    pub node-found : (proc : ℕ) (p : Proc) → IsProcOf program proc p → slice_get (nodes_of program) (node_of main proc) ≡ Some (own p)
    node-found proc p is = go (cases_order proc main)
      where
        go : (proc ≡ main) ⊎ ((proc < main) ⊎ (main < proc)) → slice_get (nodes_of program) (node_of main proc) ≡ Some (own p)
        go (inl same) =
            let node : node_of main proc ≡ 1 = ap (λ b. if b then 1 else (if nat_lt proc main then proc + 2 else proc + 1)) (eq-eqb proc main same) in
            let one : m ≡ p = some-one (slice_get program.procs main) m p is_main (sym (ap (slice_get program.procs) same) ∙ is) in
            (λ i. slice_get (first-nodes i) (node i)) ∙ (λ i. Some (own (one i)))
        go (inr (inl less)) =
            let node : node_of main proc ≡ suc (suc proc) =
            ap (λ b. if b then 1 else (if nat_lt proc main then proc + 2 else proc + 1)) (ne_eqb proc main (λ same. omega (arith, same, less)))
            ∙ ap (λ b. if b then proc + 2 else proc + 1) (lt-ltb proc main less) ∙ omega arith in
            (λ i. slice_get (first-nodes i) (node i)) ∙ others-before 0 program.procs proc p (omega (arith, less)) is
        go (inr (inr more)) =
            let node : node_of main proc ≡ proc + 1 =
            ap (λ b. if b then 1 else (if nat_lt proc main then proc + 2 else proc + 1)) (ne_eqb proc main (λ same. omega (arith, same, more)))
            ∙ ap (λ b. if b then proc + 2 else proc + 1) (le-ltb proc main (omega (arith, more))) in
            (λ i. slice_get (first-nodes i) (node i)) ∙ later proc node more is
          where
            later : (proc : ℕ) → node_of main proc ≡ proc + 1 → main < proc → IsProcOf program proc p → slice_get (start_of program ∷ own m ∷ others_from program 0 program.procs) (proc + 1) ≡ Some (own p)
            later zero node more is = absurd (omega (arith, more))
            later (suc k) node more is =
                let e : suc k + 1 ≡ suc (suc k) = omega arith in
                ap (slice_get (start_of program ∷ own m ∷ others_from program 0 program.procs)) e ∙ others-behind 0 program.procs k p (omega arith) (omega (arith, more)) is

  -- ---- all nodes

  each-end : (formed : IsWellFormed program) → AllByRecursion IsEnd (nodes_of program)
  each-end formed = (start-end program, each-append IsEnd (main_entry program) (others_from program 0 program.procs) (of-main (slice_get program.procs main) refl) (of-others 0 program.procs (recursion_from_All (IsProcFit program) program.procs formed.each)))
    where
      of-main : (o : Option Proc) → slice_get program.procs main ≡ o → AllByRecursion IsEnd (map own (option_to_list o))
      of-main None e = tt
      of-main (Some p) e = (entry-end program p formed (proc-fit program main p formed e), tt)

      of-others : (number : ℕ) (procs : List Proc) → AllByRecursion (IsProcFit program) procs → AllByRecursion IsEnd (others_from program number procs)
      of-others number [] fit = tt
      of-others number (p ∷ procs) fit = go (number == main) (of-others (number + 1) procs fit.1)
        where
          go : (b : Bool) → AllByRecursion IsEnd (others_from program (number + 1) procs) → AllByRecursion IsEnd (unless_main b (own p) (others_from program (number + 1) procs))
          go true rest = rest
          go false rest = (entry-end program p formed fit.0, rest)

  others-few : (number : ℕ) (procs : List Proc) → length (others_from program number procs) ≤ length procs
  others-few number [] = omega arith
  others-few number (p ∷ procs) = go (number == main) (others-few (number + 1) procs)
    where
      go : (b : Bool) → length (others_from program (number + 1) procs) ≤ length procs → length (unless_main b (own p) (others_from program (number + 1) procs)) ≤ suc (length procs)
      go true rest = omega (arith, rest)
      go false rest = omega (arith, rest)

  pub few-nodes : (formed : IsWellFormed program) → length (nodes_of program) < 2 ^ 32
  few-nodes formed =
      let procs = formed.procedures in
      let others = others-few 0 program.procs in
      let both = length-append (main_entry program) (others_from program 0 program.procs) in
      let one = at-most-one (slice_get program.procs main) in
      omega (arith, procs, others, both, one)
    where
      at-most-one : (o : Option Proc) → length (map own (option_to_list o)) ≤ 1
      at-most-one None = omega arith
      at-most-one (Some p) = omega arith

-- ---- ways

-- a way leads between nodes, and its leaf between their vocabularies
pub record IsWay (program : Program) (way : Way) : Type 0 where
  pub from : Vocabulary
  pub from_is : slice_get (nodes_of program) way.link.from ≡ Some from
  pub to : Vocabulary
  pub to_is : slice_get (nodes_of program) way.link.to ≡ Some to
  pub between : IsFrom from to way.leaf
  pub solvable : AreSolvable way.leaf.cases

abbrev pub AreWays : Program → List Way → Type 0
AreWays program ways = AllByRecursion (IsWay program) ways

module _ (program : Program) (flows : List Flow) (formed : IsWellFormed program) (all : AreWays program (ways_of program flows)) where
  abbrev ways : List Way
  ways = ways_of program flows

  count-links : length (map (λ (way : Way). way.link) ways) ≡ length ways
  count-links = length-map ways (λ way. way.link)

  way-leaf : (k : ℕ) (way : Way) → slice_get ways k ≡ Some way → IsLeaf (entry_graph program flows) k
  way-leaf k way e =
      let known = each-get (IsWay program) ways k way all e in
      let leaf : leaf_at (entry_graph program flows) k ≡ way.leaf = ap (λ o. unwrap_or o nothing) (slice_get-map (λ (w : Way). w.leaf) ways k ∙ ap (option_map (λ (w : Way). w.leaf)) e) in
      let link : link_at (entry_graph program flows) k ≡ way.link = ap (λ o. unwrap_or o (record { from = 0; to = 0 })) (slice_get-map (λ (w : Way). w.link) ways k ∙ ap (option_map (λ (w : Way). w.link)) e) in
      let from : vocabulary_at (entry_graph program flows) (link_at (entry_graph program flows) k).from ≡ known.from =
      ap (λ (l : Link). vocabulary_at (entry_graph program flows) l.from) link ∙ ap (λ o. unwrap_or o no_vocabulary) known.from_is in
      let to : vocabulary_at (entry_graph program flows) (link_at (entry_graph program flows) k).to ≡ known.to =
      ap (λ (l : Link). vocabulary_at (entry_graph program flows) l.to) link ∙ ap (λ o. unwrap_or o no_vocabulary) known.to_is in
      record {
        between = transport (λ i. IsFrom (sym from i) (sym to i) (sym leaf i)) known.between;
        solvable = subst (λ (f : Transition). AreSolvable f.cases) (sym leaf) known.solvable;
      }

  pub entry-graph-evaluated : IsEvaluated (entry_graph program flows) 0
  entry-graph-evaluated =
      record {
        graph =
            All-from_recursion (λ (link : Link). (link.from < length (nodes_of program)) × (link.to < length (nodes_of program))) (map (λ (way : Way). way.link) ways)
            (each-map (IsWay program) (λ (link : Link). (link.from < length (nodes_of program)) × (link.to < length (nodes_of program))) (λ (way : Way). way.link)
            (λ way known. (slice_get_within (nodes_of program) way.link.from known.from known.from_is, slice_get_within (nodes_of program) way.link.to known.to known.to_is)) ways all);
        one_each = length-map ways (λ (way : Way). way.leaf) ∙ sym count-links;
        leaves = λ k lt. let there = got ways k (omega (arith, lt, count-links)) in way-leaf k there.0 there.1;
        ends = λ node lt.
            let there = got (nodes_of program) node lt in
            subst IsEnd (sym (ap (λ o. unwrap_or o no_vocabulary) there.1)) (each-get IsEnd (nodes_of program) node there.0 (each-end program formed) there.1);
        source_is = omega arith;
      }

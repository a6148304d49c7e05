-- The cells of nodes: each fits the source and its node, and holds of what the cells before it and
-- the steps from their nodes hold of.
use Rattle.std.proofs.Common.{◌≡◌, ◌⊎◌, ℕ, zero, suc, ◌<◌, ◌≤◌, ◌+◌, ℤ, List, [], ◌∷◌, ◌++◌, length, drop, get_or, refl, sym, ◌∙◌, ap, subst, inl, inr, arith, Bool, true, false, true≢false, Option, Some, None}
use Rattle.std.specs.Prelude.{◌==◌, if◌then◌else◌}
use Rattle.std.specs.List.{AllByRecursion, range_with_len}
use Rattle.std.proofs.lemmas.Bool.{cases_lt, eqb-true, eq-eqb}
use Rattle.std.proofs.lemmas.List.{length-append}
use Rattle.std.proofs.lemmas.List.FromFn.{length-range_with_len}
use Rattle.items.proofs.Each.{each-both, each-front}
use Rattle.path_expr.specs.declared.cell.Cell.{Cell}
use Rattle.path_expr.specs.declared.cell.Cell.TheVariants as known
use Rattle.transition_formula.specs.Composition.{union_of, sequence_of}
use Rattle.transition_formula.specs.Meaning.{Holds, Covers}
use Rattle.transition_formula.specs.Transition.{Transition}
use Rattle.transition_formula.proofs.Meanings.{sequence-holds, joined-left, joined-right}
use Rattle.posing.specs.Posing.{Posing, Done, Always, ◌>>=◌}
use Rattle.posing.proofs.Paths.{always_bind, always_weaker, always_each}
use Rattle.polyhedra.specs.Laws.{HaveCanonicalRows}
use Rattle.polyhedra.specs.Vocabulary.{Vocabulary}
use Rattle.forward_graphs.specs.declared.arriving.Arrival.{Arrival}
use Rattle.forward_graphs.specs.declared.order.StepEnd.TheVariants.{Target}
use Rattle.forward_graphs.specs.declared.step.Step.{Step}
use Rattle.checked_tree.specs.Graph.{Graph, vocabulary_at}
use Rattle.forward_graphs.specs.Graph.{step_at}
use Rattle.forward_graphs.specs.Evaluation.{either_formula, cell_at, sequence_formula, walk_formula, also_found, with_walk, with_arrival, arrival_formula, cell_of, with_node, cells_by}
use Rattle.checked_tree.specs.Law.{HoldsCell}
use Rattle.forward_graphs.specs.Law.{IsWalkFormula, FitsCell, IsCanonicalCell, AreCanonicalCells}
use Rattle.forward_graphs.specs.Order.{arrivals, numbers_of}
use Rattle.forward_graphs.specs.UnderWay.{AreSteps, IsFound, IsFurther, AreUnderWay, AreInSequence, IsArrival, IsNext}
use Rattle.checked_tree.proofs.Between.{sequence-canonical}
use Rattle.forward_graphs.proofs.Between.{always-both, always-if, settled-walk, settled-covered, sequence-between, sequence-solvable, meet, same-from}
use Rattle.forward_graphs.proofs.Groups.{IsIn, each-at, each-or, each-number, each-below, in-group, in-range}
use Rattle.forward_graphs.proofs.StepLaws.{either-walk, either-covered, step-known}

-- what is found says of two states
abbrev pub HoldsFound : Option Transition → List ℤ → List ℤ → Type 0
HoldsFound None before after = ⊥
HoldsFound (Some f) before after = Holds f before after

-- ---- what a step adds

module _ (from to : Vocabulary) where
  -- the walks of a cell and a step behind it
  pub record IsWalkMade (cell : Cell Transition) (f : Transition) (more : Option Transition) : Type 0 where
    pub fit : IsFound from to more
    pub none : cell ≡ known.Zero → more ≡ None
    pub holds : IsCanonicalCell cell → (before middle after : List ℤ) → HoldsCell cell before middle → Holds f middle after → HoldsFound more before after

  module _ (a f : Transition) (is : AreInSequence from to a f) where
    sequence-walk : Always (IsWalkFormula from to) (sequence_formula a f from to)
    unfolding sequence_formula
    sequence-walk = settled-walk from to (sequence_of a f) (sequence-between from to a f is)

    sequence-covered : HaveCanonicalRows a.cases → Always (λ h. Covers h (sequence_of a f)) (sequence_formula a f from to)
    unfolding sequence_formula
    sequence-covered canonical =
        settled-covered from to (sequence_of a f) (sequence-between from to a f is) (sequence-canonical a f canonical) (sequence-solvable from to a f is)

    sequence-made : Always (IsWalkMade (known.Item a) f) (sequence_formula a f from to >>= λ h. Done (Some h))
    sequence-made =
        always_bind (λ h. IsWalkFormula from to h × (HaveCanonicalRows a.cases → Covers h (sequence_of a f))) (IsWalkMade (known.Item a) f)
        (sequence_formula a f from to) (λ h. Done (Some h))
        (always-both (IsWalkFormula from to) (λ h. HaveCanonicalRows a.cases → Covers h (sequence_of a f)) (sequence_formula a f from to) sequence-walk
        (always-if (λ h. Covers h (sequence_of a f)) (sequence_formula a f from to) sequence-covered))
        (λ h now. record {
          fit = now.0;
          none = λ e. absurd (item-zero e);
          holds = λ canonical before middle after first second. now.1 canonical before after
              (sequence-holds a f (meet from to a f is) is.first_is.between.fits is.second_is.between.fits before middle after first second);
        })
      where
        tells_item : Cell Transition → Bool
        tells_item known.Zero = false
        tells_item known.One = false
        tells_item (known.Item h) = true

        item-zero : ◌≡◌ {A = Cell Transition} (known.Item a) known.Zero → ⊥
        item-zero e = true≢false (ap tells_item e)

  pub walk-made : (cell : Cell Transition) (f : Transition) → IsFurther from to cell f → Always (IsWalkMade cell f) (walk_formula cell f from to)
  walk-made known.Zero f is = record { fit = tt; none = λ e. refl; holds = λ canonical before middle after h k. absurd h }
  walk-made known.One f is = record {
    fit = subst (λ v. IsWalkFormula v to f) (sym is.cell_is) is.step_is;
    none = λ e. absurd (one-zero e);
    holds = λ canonical before middle after h k. subst (λ s. Holds f s after) (sym h) k;
  }
    where
      tells_one : Cell Transition → Bool
      tells_one known.Zero = false
      tells_one known.One = true
      tells_one (known.Item h) = true

      one-zero : ◌≡◌ {A = Cell Transition} known.One known.Zero → ⊥
      one-zero e = true≢false (ap tells_one e)
  walk-made (known.Item a) f is = sequence-made a f (record { through = is.through; first_is = is.cell_is; second_is = is.step_is })

  -- what was found and what more is found
  pub record IsAlsoMade (found more next : Option Transition) : Type 0 where
    pub fit : IsFound from to next
    pub none : found ≡ None → more ≡ None → next ≡ None
    pub old : (before after : List ℤ) → HoldsFound found before after → HoldsFound next before after
    pub new : (before after : List ℤ) → HoldsFound more before after → HoldsFound next before after

  some-none : (f : Transition) → Some f ≡ None → ⊥
  some-none f e = true≢false (ap tells_some e)
    where
      tells_some : Option Transition → Bool
      tells_some None = false
      tells_some (Some h) = true

  pub also-made : (found more : Option Transition) → IsFound from to found → IsFound from to more → Always (IsAlsoMade found more) (also_found found more from to)
  also-made None more is also = record { fit = also; none = λ e d. d; old = λ before after h. absurd h; new = λ before after h. h }
  also-made (Some f) None is also = record { fit = is; none = λ e d. e; old = λ before after h. h; new = λ before after h. absurd h }
  also-made (Some f) (Some h) is also =
      always_bind (λ k. IsWalkFormula from to k × Covers k (union_of f h)) (IsAlsoMade (Some f) (Some h)) (either_formula f h from to) (λ k. Done (Some k))
      (always-both (IsWalkFormula from to) (λ k. Covers k (union_of f h)) (either_formula f h from to) (either-walk from to f h is also) (either-covered from to f h is also))
      (λ k now. record {
        fit = now.0;
        none = λ e d. absurd (some-none f e);
        old = λ before after held. now.1 before after (joined-left f h before after held);
        new = λ before after held. now.1 before after (joined-right f h before after (same-from from to f h is also) held);
      })

  -- one step more
  pub record IsNextMade (cell : Cell Transition) (f : Transition) (found next : Option Transition) : Type 0 where
    pub fit : IsFound from to next
    pub none : found ≡ None → cell ≡ known.Zero → next ≡ None
    pub old : (before after : List ℤ) → HoldsFound found before after → HoldsFound next before after
    pub new : IsCanonicalCell cell → (before middle after : List ℤ) → HoldsCell cell before middle → Holds f middle after → HoldsFound next before after

  pub next-made : (cell : Cell Transition) (f : Transition) (found : Option Transition) → IsFurther from to cell f → IsFound from to found
      → Always (IsNextMade cell f found) (with_walk cell f from to found)
  unfolding with_walk
  next-made cell f found is fit =
      always_bind (IsWalkMade cell f) (IsNextMade cell f found) (walk_formula cell f from to) (λ more. also_found found more from to) (walk-made cell f is)
      (λ more walk. always_weaker (IsAlsoMade found more) (IsNextMade cell f found) (also_found found more from to)
      (λ next also. record {
        fit = also.fit;
        none = λ e d. also.none e (walk.none d);
        old = also.old;
        new = λ canonical before middle after h k. also.new before after (walk.holds canonical before middle after h k);
      })
      (also-made found more fit walk.fit))

-- ---- cells in a list

pub cell-front : (cells : List (Cell Transition)) (cell : Cell Transition) (n : ℕ) → n < length cells → cell_at (cells ++ cell ∷ []) n ≡ cell_at cells n
cell-front [] cell n lt = absurd (omega (arith, lt))
cell-front (x ∷ cells) cell zero lt = refl
cell-front (x ∷ cells) cell (suc n) lt = cell-front cells cell n (omega (arith, lt))

pub cell-last : (cells : List (Cell Transition)) (cell : Cell Transition) → cell_at (cells ++ cell ∷ []) (length cells) ≡ cell
cell-last [] cell = refl
cell-last (x ∷ cells) cell = cell-last cells cell

pub cell-canonical : (cells : List (Cell Transition)) (n : ℕ) → AreCanonicalCells cells → IsCanonicalCell (cell_at cells n)
cell-canonical [] n all = tt
cell-canonical (x ∷ cells) zero all = all.0
cell-canonical (x ∷ cells) (suc n) all = cell-canonical cells n all.1

-- the walks to the node that a step starts at, and then the step
abbrev pub Arrives : List Step → List (Cell Transition) → ℕ → (List ℤ → List ℤ → Type 0) → Type 0
Arrives steps cells number Says =
    (before middle after : List ℤ) → HoldsCell (cell_at cells (step_at steps number).from) before middle → Holds (step_at steps number).formula middle after → Says before after

abbrev pub LeadsTo : List Step → ℕ → ℕ → Type 0
LeadsTo steps node number = (number < length steps) × ((step_at steps number).to ≡ node)

-- what was found by the steps to a node that are not left
pub record KeepsFound (g : Graph) (source : ℕ) (steps : List Step) (cells : List (Cell Transition)) (node : ℕ) (rest : List ℕ) (found : Option Transition) : Type 0 where
  pub next : AllByRecursion (LeadsTo steps node) rest
  pub fit : IsFound (vocabulary_at g source) (vocabulary_at g node) found
  pub none : node < source → found ≡ None
  pub holds : AreCanonicalCells cells → (n : ℕ) → LeadsTo steps node n → IsIn n rest ⊎ Arrives steps cells n (HoldsFound found)

-- what stands at the nodes that are not left
pub record KeepsCells (g : Graph) (source : ℕ) (steps : List Step) (rest : List ℕ) (cells : List (Cell Transition)) : Type 0 where
  pub rest_is : rest ≡ range_with_len (length cells) (length rest)
  pub count : length cells + length rest ≡ length g.nodes
  pub fit : (n : ℕ) → n < length cells → FitsCell (vocabulary_at g source) (vocabulary_at g n) (cell_at cells n)
  pub none : (n : ℕ) → n < source → n < length cells → cell_at cells n ≡ known.Zero
  pub one : source < length cells → cell_at cells source ≡ known.One
  pub holds : AreCanonicalCells cells → (n : ℕ) → n < length steps → (step_at steps n).to < length cells
      → Arrives steps cells n (HoldsCell (cell_at cells (step_at steps n).to))

module _ (g : Graph) (source : ℕ) (source_is : source < length g.nodes) (steps : List Step) (steps_known : AreSteps g steps) where
  -- ---- the steps that lead to a node

  module _ (cells : List (Cell Transition)) (node : ℕ) (before : AreUnderWay g source steps cells node) where
    pub further : (number : ℕ) → LeadsTo steps node number
        → IsFurther (vocabulary_at g source) (vocabulary_at g node) (cell_at cells (step_at steps number).from) (step_at steps number).formula
    further number leads =
        let step = step-known g steps number steps_known leads.0 in
        record {
          through = vocabulary_at g (step_at steps number).from;
          cell_is = before.fit (step_at steps number).from (subst (λ n. (step_at steps number).from < n) leads.1 step.forward);
          step_is = subst (λ n. IsWalkFormula (vocabulary_at g (step_at steps number).from) (vocabulary_at g n) (step_at steps number).formula) leads.1 step.formula;
        }

    -- what is found goes on to be between the vocabularies
    pub arrival-fit : (number : ℕ) (found : Option Transition) → LeadsTo steps node number → IsFound (vocabulary_at g source) (vocabulary_at g node) found
        → Always (IsFound (vocabulary_at g source) (vocabulary_at g node)) (with_arrival g source steps cells node found number)
    arrival-fit number found leads fit =
        always_weaker (IsNextMade (vocabulary_at g source) (vocabulary_at g node) (cell_at cells (step_at steps number).from) (step_at steps number).formula found)
        (IsFound (vocabulary_at g source) (vocabulary_at g node)) (with_arrival g source steps cells node found number) (λ next now. now.fit)
        (next-made (vocabulary_at g source) (vocabulary_at g node) (cell_at cells (step_at steps number).from) (step_at steps number).formula found (further number leads) fit)

    pub arrivals-lead : AllByRecursion (LeadsTo steps node) (arrivals steps node)
    arrivals-lead =
        each-both (λ n. n < length steps) (λ n. (step_at steps n).to ≡ node) (arrivals steps node)
        (each-number steps Target (numbers_of steps) node (λ n. n < length steps) (each-below (λ n. n < length steps) 0 (length steps) (λ k lt. omega (arith, lt))))
        (each-at steps Target (numbers_of steps) node)

    pub arrivals-at : (numbers : List ℕ) (i : ℕ) → numbers ≡ arrivals steps node → i < length numbers → LeadsTo steps node (get_or numbers i 0)
    arrivals-at numbers i is lt = each-or (LeadsTo steps node) numbers i 0 (subst (AllByRecursion (LeadsTo steps node)) (sym is) arrivals-lead) lt

    module _ (none_before : (other : ℕ) → other < source → other < length cells → cell_at cells other ≡ known.Zero) where
      pub with_arrival-keeps : (number : ℕ) (rest : List ℕ) (found : Option Transition) → KeepsFound g source steps cells node (number ∷ rest) found
          → Always (KeepsFound g source steps cells node rest) (with_arrival g source steps cells node found number)
      with_arrival-keeps number rest found kept =
          always_weaker (IsNextMade (vocabulary_at g source) (vocabulary_at g node) cell f found) (KeepsFound g source steps cells node rest) (with_walk cell f (vocabulary_at g source) (vocabulary_at g node) found)
          (λ next now. record {
            next = kept.next.1;
            fit = now.fit;
            none = λ less. now.none (kept.none less) (none_before (step_at steps number).from (earlier less) inside);
            holds = λ canonical n leads. one_more next now canonical n (kept.holds canonical n leads);
          })
          (next-made (vocabulary_at g source) (vocabulary_at g node) cell f found (further number kept.next.0) kept.fit)
        where
          cell : Cell Transition
          cell = cell_at cells (step_at steps number).from

          f : Transition
          f = (step_at steps number).formula

          below : (step_at steps number).from < node
          below = subst (λ n. (step_at steps number).from < n) kept.next.0.1 (step-known g steps number steps_known kept.next.0.0).forward

          inside : (step_at steps number).from < length cells
          inside = subst (λ n. (step_at steps number).from < n) (sym before.before) below

          earlier : node < source → (step_at steps number).from < source
          earlier less = let lower = below in omega (arith, lower, less)

          one_more : (next : Option Transition) → IsNextMade (vocabulary_at g source) (vocabulary_at g node) cell f found next → AreCanonicalCells cells → (n : ℕ)
              → (IsIn n (number ∷ rest) ⊎ Arrives steps cells n (HoldsFound found)) → IsIn n rest ⊎ Arrives steps cells n (HoldsFound next)
          one_more next now canonical n (inl (inl e)) =
              inr (subst (λ k. Arrives steps cells k (HoldsFound next)) (sym e) (now.new (cell-canonical cells (step_at steps number).from canonical)))
          one_more next now canonical n (inl (inr h)) = inl h
          one_more next now canonical n (inr h) = inr (λ first middle last held said. now.old first last (h first middle last held said))

      pub arrivals-begin : KeepsFound g source steps cells node (arrivals steps node) None
      arrivals-begin = record {
        next = arrivals-lead;
        fit = tt;
        none = λ less. refl;
        holds = λ canonical n leads. inl (in-group steps Target (numbers_of steps) n node leads.1 (in-range 0 (length steps) n (omega arith) (let lt = leads.0 in omega (arith, lt))));
      }

      pub arrivals-keep : Always (KeepsFound g source steps cells node []) (arrival_formula g source steps cells node)
      unfolding arrival_formula
      arrivals-keep = always_each (KeepsFound g source steps cells node) (with_arrival g source steps cells node) None (arrivals steps node) with_arrival-keeps arrivals-begin

  -- ---- the cells

  pub first-is : (node : ℕ) (rest : List ℕ) (cells : List (Cell Transition)) → KeepsCells g source steps (node ∷ rest) cells → node ≡ length cells
  first-is node rest cells kept = ap (λ xs. get_or xs 0 node) kept.rest_is

  pub before-known : (node : ℕ) (rest : List ℕ) (cells : List (Cell Transition)) → KeepsCells g source steps (node ∷ rest) cells → AreUnderWay g source steps cells node
  before-known node rest cells kept =
      let same = first-is node rest cells kept in
      let all = kept.count in
      record {
        known = steps_known;
        source_is = source_is;
        is = omega (arith, same, all);
        before = sym same;
        fit = λ other lt. kept.fit other (subst (λ n. other < n) same lt);
      }

  -- what is so of one cell more
  record IsNextCell (cells : List (Cell Transition)) (cell : Cell Transition) : Type 0 where
    fit : FitsCell (vocabulary_at g source) (vocabulary_at g (length cells)) cell
    none : length cells < source → cell ≡ known.Zero
    one : source ≡ length cells → cell ≡ known.One
    holds : AreCanonicalCells cells → (n : ℕ) → n < length steps → (step_at steps n).to ≡ length cells → Arrives steps cells n (HoldsCell cell)

  more-cells : (node : ℕ) (rest : List ℕ) (cells : List (Cell Transition)) (cell : Cell Transition) → KeepsCells g source steps (node ∷ rest) cells → IsNextCell cells cell → KeepsCells g source steps rest (cells ++ cell ∷ [])
  more-cells node rest cells cell kept next = record {
    rest_is = ap (drop 1) kept.rest_is ∙ ap (λ n. range_with_len n (length rest)) (sym long);
    count = let all = kept.count in let more = long in omega (arith, all, more);
    fit = λ n lt. by_place (λ m c. FitsCell (vocabulary_at g source) (vocabulary_at g m) c) n lt (λ k. kept.fit n k) next.fit;
    none = λ n less lt. by_place (λ m c. m < source → c ≡ known.Zero) n lt (λ k below. kept.none n below k) next.none less;
    one = λ lt. by_place (λ m c. source ≡ m → c ≡ known.One) source lt (λ k same. kept.one k) next.one refl;
    holds = λ canonical n is lt. arrives (each-front IsCanonicalCell cells (cell ∷ []) canonical) n is (cases_lt (step_at steps n).to (length cells)) lt;
  }
    where
      all_cells : List (Cell Transition)
      all_cells = cells ++ cell ∷ []

      long : length all_cells ≡ length cells + 1
      long = length-append cells (cell ∷ [])

      at_last : (n : ℕ) → n ≡ length cells → cell_at all_cells n ≡ cell
      at_last n e = ap (cell_at all_cells) e ∙ cell-last cells cell

      by_place : (P : ℕ → Cell Transition → Type 0) (n : ℕ) → n < length all_cells → (n < length cells → P n (cell_at cells n)) → P (length cells) cell → P n (cell_at all_cells n)
      by_place P n lt old new = by_case (cases_lt n (length cells))
        where
          by_case : (n < length cells) ⊎ (length cells ≤ n) → P n (cell_at all_cells n)
          by_case (inl k) = subst (P n) (sym (cell-front cells cell n k)) (old k)
          by_case (inr k) =
              let more = long in
              let same : n ≡ length cells = omega (arith, lt, k, more) in
              subst (P n) (sym (at_last n same)) (subst (λ m. P m cell) (sym same) new)

      arrives : AreCanonicalCells cells → (n : ℕ) → n < length steps → ((step_at steps n).to < length cells) ⊎ (length cells ≤ (step_at steps n).to) → (step_at steps n).to < length all_cells
          → Arrives steps all_cells n (HoldsCell (cell_at all_cells (step_at steps n).to))
      arrives canonical n is (inl k) lt =
          let forward = (step-known g steps n steps_known is).forward in
          λ before middle after held said.
          subst (λ c. HoldsCell c before after) (sym (cell-front cells cell (step_at steps n).to k))
          (kept.holds canonical n is k before middle after
          (subst (λ c. HoldsCell c before middle) (cell-front cells cell (step_at steps n).from (omega (arith, forward, k))) held) said)
      arrives canonical n is (inr k) lt =
          let forward = (step-known g steps n steps_known is).forward in
          let more = long in
          let same : (step_at steps n).to ≡ length cells = omega (arith, lt, k, more) in
          λ before middle after held said.
          subst (λ c. HoldsCell c before after) (sym (at_last (step_at steps n).to same))
          (next.holds canonical n is same before middle after
          (subst (λ c. HoldsCell c before middle) (cell-front cells cell (step_at steps n).from (omega (arith, forward, same))) held) said)

  module _ (node : ℕ) (rest : List ℕ) (cells : List (Cell Transition)) (kept : KeepsCells g source steps (node ∷ rest) cells) where
    same : node ≡ length cells
    same = first-is node rest cells kept

    one-next : node ≡ source → IsNextCell cells known.One
    one-next e = record {
      fit = ap (vocabulary_at g) (sym e ∙ same);
      none = λ less. absurd (let one = e in let two = same in omega (arith, one, two, less));
      one = λ s. refl;
      holds = λ canonical n is leads before middle after held said.
          let forward = (step-known g steps n steps_known is).forward in
          let one = e in
          let two = same in
          absurd (subst (λ c. HoldsCell c before middle) (kept.none (step_at steps n).from (omega (arith, forward, leads, one, two)) (omega (arith, forward, leads))) held);
    }

    found-next : (node ≡ source → ⊥) → (found : Option Transition) → KeepsFound g source steps cells node [] found → IsNextCell cells (cell_of found)
    found-next other found made = record {
      fit = subst (λ n. FitsCell (vocabulary_at g source) (vocabulary_at g n) (cell_of found)) same (fits found made.fit);
      none = λ less. ap cell_of (made.none (subst (λ n. n < source) (sym same) less));
      one = λ s. absurd (other (same ∙ sym s));
      holds = λ canonical n is leads before middle after held said.
          says found before after (arrived (made.holds canonical n (is, leads ∙ sym same)) before middle after held said);
    }
      where
        fits : (o : Option Transition) → IsFound (vocabulary_at g source) (vocabulary_at g node) o → FitsCell (vocabulary_at g source) (vocabulary_at g node) (cell_of o)
        fits None h = tt
        fits (Some f) h = h

        says : (o : Option Transition) (before after : List ℤ) → HoldsFound o before after → HoldsCell (cell_of o) before after
        says None before after h = h
        says (Some f) before after h = h

        arrived : {A : Type 0} → (⊥ ⊎ A) → A
        arrived (inl h) = absurd h
        arrived (inr h) = h

    abbrev node_by : Bool → Posing (List (Cell Transition))
    node_by b = if b then Done (cells ++ known.One ∷ []) else (arrival_formula g source steps cells node >>= λ found. Done (cells ++ cell_of found ∷ []))

    by-source : (b : Bool) → (node == source) ≡ b → Always (KeepsCells g source steps rest) (node_by b)
    by-source true e = more-cells node rest cells known.One kept (one-next (eqb-true node source e))
    by-source false e =
        always_bind (KeepsFound g source steps cells node []) (KeepsCells g source steps rest) (arrival_formula g source steps cells node) (λ found. Done (cells ++ cell_of found ∷ []))
        (arrivals-keep cells node (before-known node rest cells kept) kept.none)
        (λ found made. more-cells node rest cells (cell_of found) kept (found-next (λ s. true≢false (sym (eq-eqb node source s) ∙ e)) found made))

    pub with_node-keeps : Always (KeepsCells g source steps rest) (with_node g source steps cells node)
    unfolding with_node
    with_node-keeps = by-source (node == source) refl

  pub cells-begin : KeepsCells g source steps (range_with_len 0 (length g.nodes)) []
  cells-begin = record {
    rest_is = ap (range_with_len 0) (sym (length-range_with_len 0 (length g.nodes)));
    count = let long = length-range_with_len 0 (length g.nodes) in omega (arith, long);
    fit = λ n lt. absurd (omega (arith, lt));
    none = λ n less lt. absurd (omega (arith, lt));
    one = λ lt. absurd (omega (arith, lt));
    holds = λ canonical n is lt. absurd (omega (arith, lt));
  }

  pub cells-keep : Always (KeepsCells g source steps []) (cells_by g source steps)
  unfolding cells_by
  cells-keep = always_each (KeepsCells g source steps) (with_node g source steps) [] (range_with_len 0 (length g.nodes)) (λ node rest cells kept. with_node-keeps node rest cells kept) cells-begin

-- ---- what an arrival reads

module _ (g : Graph) (source : ℕ) (steps : List Step) (cells : List (Cell Transition)) (node number : ℕ) (arrival : Arrival) (is : IsArrival g source steps cells node number arrival) where
  pub arrival-same : (found : Option Transition) → with_walk arrival.cell.now arrival.step.now arrival.ends.from.now arrival.ends.to.now found ≡ with_arrival g source steps cells node found number
  arrival-same found = λ i. with_walk (is.cell i) (is.step i) (is.from i) (is.to i) found

  pub arrival-found : (found : Option Transition) → IsFound (vocabulary_at g source) (vocabulary_at g node) found → IsFound arrival.ends.from.now arrival.ends.to.now found
  arrival-found found fit = subst (λ v. IsFound v arrival.ends.to.now found) (sym is.from) (subst (λ v. IsFound (vocabulary_at g source) v found) (sym is.to) fit)

  pub arrival-further : IsFurther (vocabulary_at g source) (vocabulary_at g node) (cell_at cells (step_at steps number).from) (step_at steps number).formula
      → IsFurther arrival.ends.from.now arrival.ends.to.now arrival.cell.now arrival.step.now
  arrival-further h = record {
    through = h.through;
    cell_is = subst (λ v. FitsCell v h.through arrival.cell.now) (sym is.from) (subst (λ c. FitsCell (vocabulary_at g source) h.through c) (sym is.cell) h.cell_is);
    step_is = subst (λ v. IsWalkFormula h.through v arrival.step.now) (sym is.to) (subst (λ f. IsWalkFormula h.through (vocabulary_at g node) f) (sym is.step) h.step_is);
  }

-- the node that a step starts at has a cell
pub next-inside : (g : Graph) (source : ℕ) (steps : List Step) (cells : List (Cell Transition)) (node number : ℕ) → IsNext g source steps cells node number → (step_at steps number).from < length cells
next-inside g source steps cells node number is =
    subst (λ n. (step_at steps number).from < n) (is.leads ∙ sym is.known.before) (step-known g steps number is.known.known is.is).forward

-- a step behind the formula of a cell
pub further-sequence : (from to : Vocabulary) (cell : Cell Transition) (a f : Transition) → cell ≡ known.Item a → IsFurther from to cell f → AreInSequence from to a f
further-sequence from to cell a f e is = record { through = is.through; first_is = subst (FitsCell from is.through) e is.cell_is; second_is = is.step_is }

-- Chains of calls, each with the base of its end, go from the pairs of a member.
use Rattle.std.proofs.Common.{◌≡◌, ℕ, zero, suc, ◌+◌, ◌-◌, ◌<◌, ◌≤◌, ◌^◌, Bool, true, false, length, List, [], ◌∷◌, ◌++◌, map, append_assoc, append-nil, refl, sym, ap, subst, ◌∙◌, arith}
use Rattle.std.specs.Prelude.{All, IsTrue, get_or, slice_get, ◌==◌, not, if◌then◌else◌}
use Rattle.std.specs.List.{AllByRecursion, filter, flat_map, range_with_len}
use Rattle.std.specs.Option.{unwrap_or}
use Rattle.std.proofs.lemmas.Bool.{eq-eqb}
use Rattle.std.proofs.lemmas.Grind.{flat_map-append}
use Rattle.std.proofs.lemmas.List.{get_or_default}
use Rattle.std.proofs.lemmas.List.Elements.{All-from_recursion}
use Rattle.std.proofs.lemmas.List.FromFn.{length-range_with_len}
use Rattle.std.proofs.lemmas.Option.{unwrap_or-slice_get}
use Rattle.items.proofs.Each.{each-both, each-flat_map, each-map, each-more, each_from_test, test_from_each}
use Rattle.linear_terms.specs.declared.row.Case.{Case}
use Rattle.transition_formula.specs.Posts.{case_with_entries, with_entries}
use Rattle.transition_formula.specs.Transition.{AreFew, AreSolvable, IsSolvable, IsTransition, Transition, fits}
use Rattle.transition_formula.proofs.FittedFormulas.{fits-solvable}
use Rattle.transition_formula.proofs.Fitting.{sequence_of-fits}
use Rattle.transition_formula.proofs.HiddenColumns.{hidden-fits}
use Rattle.transition_formula.proofs.SomePosts.{with_entries-fits}
use Rattle.path_expr.specs.declared.cell.Cell.{Cell}
use Rattle.path_expr.specs.declared.cell.Cell.TheVariants as known
use Rattle.checked_tree.specs.Law.{IsFrom}
use Rattle.newton_rounds.specs.Between.{AreBases, AreChained, GoesBetween, IsMember, base_at, chain_to, width_at}
use Rattle.newton_rounds.specs.Closure.{chain_end, chains_of, ends_at, exits_told, order_from, others_in, pair_cell}
use Rattle.newton_rounds.specs.Pairs.{PairEnds}
use Rattle.newton_rounds.specs.Shapes.{AreEnds}
use Rattle.newton_rounds.proofs.PairNumbers.{HasFew, both-few, hidden-few, hiding-few, sequence-few}
use Rattle.newton_rounds.proofs.ExitColumns.{exit-few, range-below}

-- ---- elements at places

pub read-at : {X : Type 0} (xs : List X) (i : ℕ) (x d : X) → i < length xs → x ≡ get_or xs i x → unwrap_or (slice_get xs i) d ≡ x
read-at xs i x d lt is = unwrap_or-slice_get xs i d ∙ get_or_default xs i d x lt ∙ sym is

pub member-at : (members : List PairEnds) (n : ℕ) → n < length members → AllByRecursion IsMember members → IsMember (ends_at members n)
member-at [] n lt h = absurd (omega (arith, lt))
member-at (m ∷ members) zero lt h = h.0
member-at (m ∷ members) (suc n) lt h = member-at members n (omega (arith, lt)) h.1

pub bases-length : (members : List PairEnds) (bases : List Transition) → AreBases members bases → length bases ≡ length members
bases-length [] [] h = refl
bases-length [] (base ∷ bases) h = absurd h
bases-length (m ∷ members) [] h = absurd h
bases-length (m ∷ members) (base ∷ bases) h = ap suc (bases-length members bases h.1)

pub base-goes : (members : List PairEnds) (bases : List Transition) (n : ℕ) → n < length members → AreBases members bases → GoesBetween 1000 (width_at members n) 0 (base_at members bases n)
base-goes [] bases n lt h = absurd (omega (arith, lt))
base-goes (m ∷ members) [] n lt h = absurd h
base-goes (m ∷ members) (base ∷ bases) zero lt h = h.0
base-goes (m ∷ members) (base ∷ bases) (suc n) lt h = base-goes members bases n (omega (arith, lt)) h.1

pub base-read : (members : List PairEnds) (bases : List Transition) (n : ℕ) (base : Transition) → n < length members → AreBases members bases → base ≡ get_or bases n base → base ≡ base_at members bases n
base-read members bases n base lt h is = sym (read-at bases n base _ (let long = bases-length members bases h in omega (arith, long, lt)) is)

pub chain-read : (members : List PairEnds) (cells : List (Cell Transition)) (place n from to : ℕ) (cell : Cell Transition) (first : Transition) → n < length cells
    → from ≡ width_at members place → to ≡ width_at members n → cell ≡ get_or cells n cell → first ≡ pair_cell from to cell → first ≡ chain_to members cells place n
chain-read members cells place n from to cell first lt e f is made = made ∙ (λ i. pair_cell (e i) (f i) (sym (read-at cells n cell known.Zero lt is) i))

-- ---- members but for one

others-split : (place : ℕ) (ns ms : List ℕ) → others_in place (ns ++ ms) ≡ others_in place ns ++ others_in place ms
others-split place [] ms = refl
others-split place (n ∷ ns) ms = go (not (n == place)) (others_in place (ns ++ ms)) (others_in place ns) (others_in place ms) (others-split place ns ms)
  where
    go : (b : Bool) (all front back : List ℕ) → all ≡ front ++ back → (if b then n ∷ all else all) ≡ (if b then n ∷ front else front) ++ back
    go true all front back e = ap (λ u. n ∷ u) e
    go false all front back e = e

pub others-same : (place n : ℕ) → n ≡ place → others_in place (n ∷ []) ≡ []
others-same place n e = ap (λ b. filter (λ m. not b) (n ∷ [])) (eq-eqb n place e)

pub others-other : (place n : ℕ) → (n == place) ≡ false → others_in place (n ∷ []) ≡ n ∷ []
others-other place n e = ap (λ b. filter (λ m. not b) (n ∷ [])) e

pub range-first : (n count : ℕ) → n < count → range_with_len n (count - n) ≡ n ∷ range_with_len (n + 1) (count - (n + 1))
range-first n count lt = let more : count - n ≡ suc (count - (n + 1)) = omega (arith, lt) in ap (range_with_len n) more

pub range-end : (n count : ℕ) → count ≤ n → range_with_len n (count - n) ≡ []
range-end n count end = let none : count - n ≡ 0 = omega (arith, end) in ap (range_with_len n) none

-- one more of a loop over all members
pub others-next : {X : Type 0} (F : ℕ → List X) (place n count : ℕ) (made next whole : List X) → n < count → next ≡ made ++ flat_map F (others_in place (n ∷ []))
    → made ++ flat_map F (others_in place (range_with_len n (count - n))) ≡ whole → next ++ flat_map F (others_in place (range_with_len (n + 1) (count - (n + 1)))) ≡ whole
others-next F place n count made next whole lt one left =
    let rest = range_with_len (n + 1) (count - (n + 1)) in
    ap (λ u. u ++ flat_map F (others_in place rest)) one
    ∙ append_assoc made (flat_map F (others_in place (n ∷ []))) (flat_map F (others_in place rest))
    ∙ ap (λ u. made ++ u) (sym (flat_map-append F (others_in place (n ∷ [])) (others_in place rest)))
    ∙ (λ i. made ++ flat_map F (sym (others-split place (n ∷ []) rest) i))
    ∙ (λ i. made ++ flat_map F (others_in place (sym (range-first n count lt) i)))
    ∙ left

pub others-end : {X : Type 0} (F : ℕ → List X) (place n count : ℕ) (made whole : List X) → count ≤ n
    → made ++ flat_map F (others_in place (range_with_len n (count - n))) ≡ whole → made ≡ whole
others-end F place n count made whole end left =
    let none : count - n ≡ 0 = omega (arith, end) in
    sym (append-nil made) ∙ ap (λ k. made ++ flat_map F (others_in place (range_with_len n k))) (sym none) ∙ left

others-below : (place most : ℕ) (ns : List ℕ) → AllByRecursion (λ n. n < most) ns → AllByRecursion (λ n. n < most) (others_in place ns)
others-below place most [] h = tt
others-below place most (n ∷ ns) h = go (not (n == place)) (others_in place ns) (others-below place most ns h.1)
  where
    go : (b : Bool) (ms : List ℕ) → AllByRecursion (λ n. n < most) ms → AllByRecursion (λ n. n < most) (if b then n ∷ ms else ms)
    go true ms k = (h.0, k)
    go false ms k = k

-- ---- chains

module _ (members : List PairEnds) (bases : List Transition) (place : ℕ) (cells : List (Cell Transition)) (are : AreChained members bases place cells) where
  abbrev to_end : ℕ → Transition
  to_end n = chain_to members cells place n

  abbrev base : ℕ → Transition
  base n = base_at members bases n

  module _ (n : ℕ) (lt : n < length members) where
    leads : GoesBetween 1000 (width_at members place) (width_at members n) (to_end n)
    leads = are.each_cell.lead n lt

    goes : GoesBetween 1000 (width_at members n) 0 (base n)
    goes = base-goes members bases n lt are.each_base

    pub meets : (to_end n).to ≡ (base n).from
    meets = leads.to_is ∙ sym goes.from_is

    pub end-few : AreFew (to_end n) (base n)
    end-few = both-few 1000 1000 (base n).to (to_end n).cases (base n).cases leads.few goes.few (let to = goes.to_is in omega (arith, to))

    end-cases : AllByRecursion (λ case. IsTrue (fits (width_at members place) 0 case) × (case.aux ≤ 2000)) (chain_end members bases cells place n).cases
    end-cases =
        each-both (λ case. IsTrue (fits (width_at members place) 0 case)) (λ (case : Case). case.aux ≤ 2000) (chain_end members bases cells place n).cases
        (each_from_test (fits (width_at members place) 0) (λ case. IsTrue (fits (width_at members place) 0 case)) (λ case h. h) (chain_end members bases cells place n).cases
        (subst (λ from. IsTransition from 0 (chain_end members bases cells place n).cases) leads.from_is
        (subst (λ to. IsTransition (to_end n).from to (chain_end members bases cells place n).cases) goes.to_is
        (sequence_of-fits (to_end n) (base n) meets leads.fits goes.fits))))
        (subst (λ most. HasFew most (chain_end members bases cells place n).cases) (let to = goes.to_is in omega (arith, to))
        (sequence-few 1000 1000 (base n).from (base n).to (to_end n).cases (base n).cases goes.fits leads.few goes.few))

  all-cases : AllByRecursion (λ case. IsTrue (fits (width_at members place) 0 case) × (case.aux ≤ 2000)) (chains_of members bases cells place).cases
  all-cases =
      each-flat_map (λ n. n < length members) (λ case. IsTrue (fits (width_at members place) 0 case) × (case.aux ≤ 2000)) (λ n. (chain_end members bases cells place n).cases)
      end-cases (order_from place (length members))
      (are.within, others-below place (length members) (range_with_len 0 (length members)) (range-below 0 (length members) (length members) (omega arith)))

  -- over the pair of the member
  pub chains-go : GoesBetween 2000 (width_at members place) 0 (chains_of members bases cells place)
  chains-go = record {
    from_is = refl;
    to_is = refl;
    fits = test_from_each (fits (width_at members place) 0) (λ case. IsTrue (fits (width_at members place) 0 case) × (case.aux ≤ 2000)) (λ case h. h.0) (chains_of members bases cells place).cases all-cases;
    few = each-more (λ case. IsTrue (fits (width_at members place) 0 case) × (case.aux ≤ 2000)) (λ (case : Case). case.aux ≤ 2000) (λ case h. h.1) (chains_of members bases cells place).cases all-cases;
  }

-- ---- the exit's columns as posts

module _ (m : PairEnds) (ends : AreEnds m) (f : Transition) (over : GoesBetween 2000 m.pair.columns 0 f) where
  abbrev entry : ℕ
  entry = m.ends.entry.columns

  abbrev places : List ℕ
  places = range_with_len entry m.ends.exit.columns

  abbrev told : Transition
  told = with_entries places f

  pub places-few : length places < 2 ^ 32
  places-few = let long = length-range_with_len entry m.ends.exit.columns in let few = exit-few m ends in omega (arith, long, few)

  pub places-there : All (λ place. place < f.from) places
  places-there =
      All-from_recursion (λ place. place < f.from) places
      (range-below entry m.ends.exit.columns f.from (let pair = ends.pair in let from = over.from_is in omega (arith, pair, from)))

  entries-few : (most : ℕ) (cases : List Case) → HasFew most cases → HasFew most (map (case_with_entries places) cases)
  entries-few most cases h = each-map (λ (case : Case). case.aux ≤ most) (λ (case : Case). case.aux ≤ most) (case_with_entries places) (λ case k. k) cases h

  pub told-fewer : entry ≤ told.from
  told-fewer = let pair = ends.pair in let from = over.from_is in omega (arith, pair, from)

  narrow : (told.from - entry) + told.to ≤ 34
  narrow =
      let pair = ends.pair in let from = over.from_is in let few = exit-few m ends in let long = length-range_with_len entry m.ends.exit.columns in
      omega (arith, pair, from, few, long)

  pub told-few : All (λ (case : Case). case.aux + (told.from - entry) + told.to < 2 ^ 32) told.cases
  told-few = hiding-few entry 2000 told (entries-few 2000 f.cases over.few) (let few = narrow in omega (arith, few))

  told-fits : IsTransition f.from (length places) told.cases
  told-fits = with_entries-fits places f places-there over.fits

  exits-fit : IsTransition entry (length places) (exits_told m f).cases
  exits-fit = hidden-fits entry f.from (length places) told.cases told-fewer told-fits

  pub exits-few : (most : ℕ) → HasFew most f.cases → HasFew (most + 34) (exits_told m f).cases
  exits-few most h =
      each-more (λ (case : Case). case.aux ≤ most + (f.from - entry) + length places) (λ (case : Case). case.aux ≤ most + 34) (λ case k. let few = narrow in omega (arith, few, k)) (exits_told m f).cases
      (hidden-few entry f.from (length places) most told.cases told-fits (entries-few most f.cases h))

  -- from the entry to the exit, by cases with few auxiliaries
  pub exits-go : GoesBetween 2034 entry m.ends.exit.columns (exits_told m f)
  exits-go = record {
    from_is = refl;
    to_is = length-range_with_len entry m.ends.exit.columns;
    fits = exits-fit;
    few = exits-few 2000 over.few;
  }

  pub exits-from : IsFrom m.ends.entry m.ends.exit (exits_told m f)
  exits-from = record { from_is = exits-go.from_is; to_is = exits-go.to_is; fits = exits-go.fits }

  pub exits-solvable : AreSolvable (exits_told m f).cases
  exits-solvable =
      All-from_recursion IsSolvable (exits_told m f).cases
      (each-more (λ (case : Case). IsTrue (fits entry (length places) case) × (case.aux ≤ 2034)) IsSolvable
      (λ case h. fits-solvable entry (length places) case h.0 (let few = h.1 in let long = places-few in omega (arith, few, narrow))) (exits_told m f).cases
      (each-both (λ case. IsTrue (fits entry (length places) case)) (λ (case : Case). case.aux ≤ 2034) (exits_told m f).cases
      (each_from_test (fits entry (length places)) (λ case. IsTrue (fits entry (length places) case)) (λ case h. h) (exits_told m f).cases exits-fit) exits-go.few))

-- The laws of phases, whole.
use Rattle.std.proofs.Common.{◌≡◌, ℕ, zero, suc, ◌+◌, ◌*◌, ◌≤◌, List, [], ◌∷◌, length, map, Option, Some, None, refl, sym, subst, ◌∙◌, arith}
use Rattle.std.specs.Prelude.{IsTrue, ◌&&◌, nat_le, nat_lt, option_to_list}
use Rattle.std.specs.List.{AllByRecursion, list_all}
use Rattle.std.proofs.lemmas.Bool.{leb-true, le-leb}
use Rattle.std.proofs.lemmas.List.Sums.{count_by-le-length}
use Rattle.items.proofs.Each.{each-both, each-flat_map, each-map, each-more, each_from_test, test_from_each}
use Rattle.linear_terms.specs.declared.row.Case.{Case}
use Rattle.transition_formula.specs.Composition.{after_case, identity_of, union_of, sequence_of, sequence_of_cases}
use Rattle.transition_formula.specs.Meaning.{Covers, HoldsOfChains}
use Rattle.transition_formula.specs.Transition.{Transition, IsTransition, IsFitted, AreFew, AreSolvable, fits}
use Rattle.transition_formula.proofs.ColumnTests.{both, both_true, lost}
use Rattle.transition_formula.proofs.Few.{all_few}
use Rattle.transition_formula.proofs.Fitting.{below-true, fitting, sequence_of-fits}
use Rattle.posing.specs.Posing.{Done, ◌>>=◌, Always}
use Rattle.posing.proofs.Paths.{always_any, always_bind, always_weaker}
use Rattle.polyhedra.specs.Finish.{finish_of_case}
use Rattle.polyhedra.specs.Laws.{IsBetween, IsSmall}
use Rattle.polyhedra.specs.Settle.{settled_formula, settled_cases}
use Rattle.polyhedra.specs.Squash.{fitted_formula}
use Rattle.polyhedra.specs.Vocabulary.{Vocabulary}
use Rattle.polyhedra.proofs.FitLaws.{fitted-covers, fitted-small}
use Rattle.polyhedra.proofs.SettleLaws.{settled-covers, settled_cases-fit}
use Rattle.recurrence.specs.Law.{IsStar}
use Rattle.recurrence.specs.Star.{star_by, star_of, turns}
use Rattle.recurrence.proofs.StarLaws.{always_both}
use Rattle.recurrence.proofs.Whole.{star-fits, star-holds-of-chains}
use Rattle.phases.specs.declared.halving.Halves.{Halves}
use Rattle.phases.specs.Law.{IsPhasable, IsPhased, PhasesFit, PhasesHold}
use Rattle.phases.specs.Limits.{most_depth}
use Rattle.phases.specs.Phases.{in_turn, phased_star, star_by_halves, phases_of, split}
use Rattle.phases.specs.Words.{AreInTurn, AreRoomy, IfFound, IsRoomy}
use Rattle.phases.proofs.BodiesWhere.{AreFewAuxiliaries, few-solvable}
use Rattle.phases.proofs.CanonicalForms.{formula-canonical, rows-canonical, sequence-canonical}
use Rattle.recurrence.proofs.CanonicalOrder.{IsCanonicalFormula, settled-canonical}
use Rattle.recurrence.proofs.CanonicalStars.{directions-canonical, fitted-canonical, star-canonical}
use Rattle.phases.proofs.Chains.{halves-sequence}
use Rattle.phases.proofs.SplitHalves.{AreTrueHalves, roomy-splittable, split-roomy, split-true}

-- ---- a formula that is small enough

few-cases : (cases : List Case) → IsFitted cases → AreFewAuxiliaries 64 cases
few-cases cases fit =
    each_from_test (λ (case : Case). nat_le (length case.rows) 64 && nat_le case.aux 64) (λ (case : Case). case.aux ≤ 64)
    (λ case h. leb-true case.aux 64 (both (nat_le (length case.rows) 64) (nat_le case.aux 64) h).1) cases
    (both (nat_le (length cases) 16) (list_all (λ (case : Case). nat_le (length case.rows) 64 && nat_le case.aux 64) cases) fit).1

phased-fits : (n : ℕ) (g : Transition) → IsPhased n g → IsTransition g.from g.to g.cases
phased-fits n g is = subst (λ m. IsTransition m g.to g.cases) (sym is.from_is) (subst (λ m. IsTransition n m g.cases) (sym is.to_is) is.fits)

-- ---- star

module _ (depth : ℕ) (body : Transition) (voc : Vocabulary) (is : IsRoomy depth body voc) where
  -- where the body has columns, and its columns are the vocabulary's
  start-is : body.from ≡ voc.columns
  start-is = is.starred.same_ends ∙ sym is.starred.same_columns

  abbrev StaysAt : Transition → Type 0
  StaysAt g = (g.from ≡ body.from) × (g.to ≡ body.from)

  star-stays : Always StaysAt (star_of body voc)
  unfolding star_of
  star-stays = by_cases body.cases
    where
      by_cases : (cases : List Case) → Always StaysAt (star_by body voc cases)
      by_cases [] = (refl, refl)
      by_cases (case ∷ cases) =
          always_bind (λ (left : Option Case). Unit {0}) StaysAt (turns body voc >>= finish_of_case) (λ left. Done (union_of (identity_of body.from) record { from = body.from; to = body.to; cases = option_to_list left }))
          (always_any (λ left. Unit {0}) (turns body voc >>= finish_of_case) (λ left. tt)) (λ left any. (refl, refl))

  star-fitted : (g : Transition) → IsStar body.to g → IsFitted g.cases
  star-fitted g star =
      both_true (nat_le (length g.cases) 16) (list_all (λ (case : Case). nat_le (length case.rows) 64 && nat_le case.aux 64) g.cases)
      (let two = star.two in le-leb (length g.cases) 16 (omega arith))
      (test_from_each (λ (case : Case). nat_le (length case.rows) 64 && nat_le case.aux 64) (λ (case : Case). (length case.rows ≤ 64) × (case.aux ≤ body.to + 1))
      (λ case h. let few = is.few_columns in let most = h.1 in both_true (nat_le (length case.rows) 64) (nat_le case.aux 64) (le-leb (length case.rows) 64 h.0) (le-leb case.aux 64 (omega arith)))
      g.cases (each-both (λ (case : Case). length case.rows ≤ 64) (λ (case : Case). case.aux ≤ body.to + 1) g.cases star.rows star.auxiliaries))

  pub star-phased : Always (IsPhased voc.columns) (star_of body voc)
  star-phased =
      always_weaker (λ g. IsStar body.to g × StaysAt g) (IsPhased voc.columns) (star_of body voc)
      (λ g h. record {
        from_is = h.1.0 ∙ start-is;
        to_is = h.1.1 ∙ start-is;
        fits = subst (λ n. IsTransition n n g.cases) (sym is.starred.same_columns) h.0.fits;
        fitted = star-fitted g h.0;
      })
      (always_both (IsStar body.to) StaysAt (star_of body voc) (star-fits body voc is.starred) star-stays)

-- ---- one formula and then another

module _ (voc : Vocabulary) (a b : Transition) (is : AreInTurn voc a b) where
  pub meet : a.to ≡ b.from
  meet = is.first.to_is ∙ sym is.second.from_is

  abbrev sequence : Transition
  sequence = sequence_of a b

  fits-sequence : IsTransition voc.columns voc.columns sequence.cases
  fits-sequence =
      subst (λ n. IsTransition n voc.columns sequence.cases) is.first.from_is (subst (λ n. IsTransition a.from n sequence.cases) is.second.to_is
      (sequence_of-fits a b meet (phased-fits voc.columns a is.first) (phased-fits voc.columns b is.second)))

  abbrev IsShort : Case → Type 0
  IsShort case = (case.aux ≤ 64) × (length case.post ≤ 63)

  shorts : AllByRecursion IsShort b.cases
  shorts =
      each-both (λ (case : Case). case.aux ≤ 64) (λ (case : Case). length case.post ≤ 63) b.cases (few-cases b.cases is.second.fitted)
      (each_from_test (fits voc.columns voc.columns) (λ (case : Case). length case.post ≤ 63)
      (λ case h. subst (λ n. n ≤ 63) (sym (fitting voc.columns voc.columns case h).length_is) is.few_columns) b.cases is.second.fits)

  both-few : (x y : Case) → x.aux ≤ 64 → IsShort y → (sequence_of_cases x y).aux ≤ 1000
  both-few x y h k = let lost_most = count_by-le-length (lost (after_case x y)) y.post in let one = k.0 in let two = k.1 in omega (arith, h, lost_most, one, two)

  sequence-few : AreFewAuxiliaries 1000 sequence.cases
  sequence-few =
      each-flat_map (λ (x : Case). x.aux ≤ 64) (λ (case : Case). case.aux ≤ 1000) (λ x. map (sequence_of_cases x) b.cases)
      (λ x h. each-map IsShort (λ (case : Case). case.aux ≤ 1000) (sequence_of_cases x) (λ y k. both-few x y h k) b.cases shorts) a.cases (few-cases a.cases is.first.fitted)

  pub sequence-solvable : AreSolvable sequence.cases
  sequence-solvable = let columns = is.few_columns in few-solvable voc.columns voc.columns 1000 (omega (arith, columns)) sequence.cases fits-sequence sequence-few

  pub both-few_auxiliaries : AreFew a b
  both-few_auxiliaries = all_few a.cases b.cases b.to (let columns = is.few_columns in let ends = is.second.to_is in omega (arith, columns, ends)) (few_test a.cases is.first.fitted) (few_test b.cases is.second.fitted)
    where
      few_test : (cases : List Case) → IsFitted cases → IsTrue (list_all (λ (case : Case). nat_lt case.aux 1000) cases)
      few_test cases fit = test_from_each (λ (case : Case). nat_lt case.aux 1000) (λ (case : Case). case.aux ≤ 64) (λ case h. below-true case.aux 1000 (omega (arith, h))) cases (few-cases cases fit)

  -- what is settled goes between the same columns
  pub record IsSettled (g : Transition) : Type 0 where
    pub from_is : g.from ≡ voc.columns
    pub to_is : g.to ≡ voc.columns
    pub fit : IsTransition voc.columns voc.columns g.cases

  pub sequence-settled : Always IsSettled (settled_formula sequence)
  unfolding settled_formula
  sequence-settled =
      always_bind (IsTransition voc.columns voc.columns) IsSettled (settled_cases sequence.cases) (λ cases. Done record { from = a.from; to = b.to; cases = cases })
      (settled_cases-fit voc.columns voc.columns sequence.cases fits-sequence) (λ cases k. record { from_is = is.first.from_is; to_is = is.second.to_is; fit = k })

  pub settled-between : (g : Transition) → IsSettled g → IsBetween g voc voc
  settled-between g k = record {
    fits = subst (λ n. IsTransition n g.to g.cases) (sym k.from_is) (subst (λ n. IsTransition voc.columns n g.cases) (sym k.to_is) k.fit);
    starts = sym k.from_is;
    ends = sym k.to_is;
    few_before = subst (λ n. n ≤ 63) (sym k.from_is) is.few_columns;
    few_after = subst (λ n. n ≤ 63) (sym k.to_is) is.few_columns;
    from_is = is.vocabulary;
    to_is = is.vocabulary;
  }

  small-phased : (g h : Transition) → IsSettled g → IsSmall g h → IsPhased voc.columns h
  small-phased g h k small = record {
    from_is = small.from ∙ k.from_is;
    to_is = small.to ∙ k.to_is;
    fits = subst (λ n. IsTransition n voc.columns h.cases) k.from_is (subst (λ n. IsTransition g.from n h.cases) k.to_is small.fits);
    fitted = small.fitted;
  }

  in_turn-phased : Always (IsPhased voc.columns) (in_turn voc a b)
  unfolding in_turn ◌>>=◌
  in_turn-phased =
      always_bind IsSettled (IsPhased voc.columns) (settled_formula sequence) (λ g. fitted_formula g voc voc) sequence-settled
      (λ g k. always_weaker (IsSmall g) (IsPhased voc.columns) (fitted_formula g voc voc) (λ h small. small-phased g h k small) (fitted-small g voc voc (settled-between g k)))

  -- it holds of all that the sequence holds of, and is in canonical form
  abbrev IsWider : Transition → Type 0
  IsWider g = Covers g sequence × IsCanonicalFormula g

  in_turn-wider : IsCanonicalFormula a → Always IsWider (in_turn voc a b)
  unfolding in_turn ◌>>=◌
  in_turn-wider canonical =
      let form = sequence-canonical a b canonical in
      always_bind (λ g. IsSettled g × IsWider g) IsWider (settled_formula sequence) (λ g. fitted_formula g voc voc)
      (always_both IsSettled IsWider (settled_formula sequence) sequence-settled
      (always_both (λ g. Covers g sequence) IsCanonicalFormula (settled_formula sequence) (settled-covers sequence (rows-canonical sequence form) sequence-solvable) (settled-canonical sequence form)))
      (λ g k. always_weaker (λ h. Covers h g × IsCanonicalFormula h) IsWider (fitted_formula g voc voc) (λ h l. ((λ before after held. l.0 before after (k.1.0 before after held)), l.1))
      (always_both (λ h. Covers h g) IsCanonicalFormula (fitted_formula g voc voc) (fitted-covers g voc voc (settled-between g k.0)) (fitted-canonical g voc voc (directions-canonical voc is.vocabulary) k.1.1)))

-- ---- phases

pub in_turn-ready : (depth : ℕ) (voc : Vocabulary) (body a b : Transition) → IsRoomy depth body voc → IsPhased voc.columns a → IsPhased voc.columns b → AreInTurn voc a b
in_turn-ready depth voc body a b is h k =
    record { first = h; second = k; vocabulary = is.starred.vocabulary; few_columns = subst (λ n. n ≤ 63) (sym is.starred.same_columns) is.few_columns }

pub phased-small : (depth : ℕ) (voc : Vocabulary) (body : Transition) → IsRoomy depth body voc → Always (IsPhased voc.columns) (phased_star depth voc body)
phased-small zero voc body is = star-phased zero body voc is
phased-small (suc depth) voc body is =
    always_bind (IfFound (AreRoomy depth voc)) (IsPhased voc.columns) (split body) (star_by_halves (phased_star depth voc) voc body) (split-roomy depth voc body is) (λ found k. go found k (phased-small depth voc))
  where
    go : (found : Option Halves) → IfFound (AreRoomy depth voc) found → ((g : Transition) → IsRoomy depth g voc → Always (IsPhased voc.columns) (phased_star depth voc g)) → Always (IsPhased voc.columns) (star_by_halves (phased_star depth voc) voc body found)
    go None k ih = star-phased (suc depth) body voc is
    go (Some found) k ih =
        always_bind (IsPhased voc.columns) (IsPhased voc.columns) (phased_star depth voc found.first) (λ a. phased_star depth voc found.second >>= λ b. in_turn voc a b) (ih found.first k.0) (λ a h.
        always_bind (IsPhased voc.columns) (IsPhased voc.columns) (phased_star depth voc found.second) (λ b. in_turn voc a b) (ih found.second k.1) (λ b l.
        in_turn-phased voc a b (in_turn-ready (suc depth) voc body a b is h l)))

-- it holds of chains of the body, and is in canonical form
abbrev IsTrueOf : Transition → Transition → Type 0
IsTrueOf body g = HoldsOfChains body g × IsCanonicalFormula g

star-true : (depth : ℕ) (body : Transition) (voc : Vocabulary) → IsRoomy depth body voc → Always (IsTrueOf body) (star_of body voc)
star-true depth body voc is =
    always_both (HoldsOfChains body) IsCanonicalFormula (star_of body voc) (star-holds-of-chains body voc is.starred) (star-canonical body voc (directions-canonical voc is.starred.vocabulary))

-- and small enough to go on with
abbrev IsBoth : ℕ → Transition → Transition → Type 0
IsBoth n half g = IsPhased n g × IsTrueOf half g

phased-true : (depth : ℕ) (voc : Vocabulary) (body : Transition) → IsRoomy depth body voc → IsCanonicalFormula body → Always (IsTrueOf body) (phased_star depth voc body)
phased-true zero voc body is canonical = star-true zero body voc is
phased-true (suc depth) voc body is canonical =
    always_bind (λ found. IfFound (AreRoomy depth voc) found × IfFound (AreTrueHalves body) found) (IsTrueOf body) (split body) (star_by_halves (phased_star depth voc) voc body)
    (always_both (IfFound (AreRoomy depth voc)) (IfFound (AreTrueHalves body)) (split body) (split-roomy depth voc body is) (split-true body (roomy-splittable (suc depth) voc body is) canonical))
    (λ found k. go found k.0 k.1 (phased-true depth voc))
  where
    go : (found : Option Halves) → IfFound (AreRoomy depth voc) found → IfFound (AreTrueHalves body) found
        → ((g : Transition) → IsRoomy depth g voc → IsCanonicalFormula g → Always (IsTrueOf g) (phased_star depth voc g)) → Always (IsTrueOf body) (star_by_halves (phased_star depth voc) voc body found)
    go None k l ih = star-true (suc depth) body voc is
    go (Some found) k l ih =
        always_bind (IsBoth voc.columns found.first) (IsTrueOf body) (phased_star depth voc found.first) (λ a. phased_star depth voc found.second >>= λ b. in_turn voc a b)
        (always_both (IsPhased voc.columns) (IsTrueOf found.first) (phased_star depth voc found.first) (phased-small depth voc found.first k.0) (ih found.first k.0 l.first_canonical)) (λ a h.
        always_bind (IsBoth voc.columns found.second) (IsTrueOf body) (phased_star depth voc found.second) (λ b. in_turn voc a b)
        (always_both (IsPhased voc.columns) (IsTrueOf found.second) (phased_star depth voc found.second) (phased-small depth voc found.second k.1) (ih found.second k.1 l.second_canonical)) (λ b m.
        let both_are = in_turn-ready (suc depth) voc body a b is h.0 m.0 in
        always_weaker (IsWider voc a b both_are) (IsTrueOf body) (in_turn voc a b)
        (λ g wide. (
          (λ first more long chain.
              wide.0 first _ (halves-sequence body l.by found.first found.second l.halves a b
              (start-is depth found.first voc k.0 ∙ sym (start-is (suc depth) body voc is))
              (h.0.to_is ∙ sym (start-is depth found.second voc k.1))
              (meet voc a b both_are) (phased-fits voc.columns a h.0) (phased-fits voc.columns b m.0) h.1.0 m.1.0 first more long chain)),
          wide.1,
        ))
        (in_turn-wider voc a b both_are h.1.1)))

-- ---- whole

pub phasable-roomy : (body : Transition) (voc : Vocabulary) → IsPhasable body voc → IsRoomy most_depth body voc
phasable-roomy body voc is = record {
  starred = is.starred;
  few_columns = is.few_columns;
  room = each-more (λ (case : Case). case.aux ≤ 64) (λ (case : Case). case.aux + 64 * most_depth ≤ 1000) (λ case few. omega (arith, few)) body.cases is.few_auxiliaries;
}

pub phases-hold : PhasesHold
unfolding phases_of
phases-hold body voc is canonical =
    always_weaker (IsTrueOf body) (HoldsOfChains body) (phased_star most_depth voc body) (λ g k. k.0)
    (phased-true most_depth voc body (phasable-roomy body voc is) (formula-canonical body canonical))

pub phases-fit : PhasesFit
unfolding phases_of
phases-fit body voc is =
    subst (λ n. Always (IsPhased n) (phased_star most_depth voc body)) is.starred.same_columns (phased-small most_depth voc body (phasable-roomy body voc is))

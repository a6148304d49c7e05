-- What the halves of a split are, whatever the answers are, as long as they are true.
use Rattle.std.proofs.Common.{◌≡◌, inl, inr, ℕ, suc, ◌+◌, ◌*◌, ◌≤◌, ◌<◌, ◌^◌, ℤ, Bool, true, false, List, [], ◌∷◌, length, map, Option, Some, None, Ok, Err, refl, sym, subst, ◌∙◌, arith}
use Rattle.std.specs.Prelude.{IsTrue, if◌then◌else◌, nat_lt}
use Rattle.std.specs.List.{AllByRecursion}
use Rattle.items.proofs.Each.{each-any, each-both, each-map, each-more, each_from_test}
use Rattle.linear_terms.specs.declared.row.Row.{Row}
use Rattle.linear_terms.specs.declared.row.Case.{Case}
use Rattle.linear_terms.specs.Expressions.{Made}
use Rattle.linear_terms.specs.Polynomial.{Polynomial}
use Rattle.transition_formula.specs.Meaning.{Holds}
use Rattle.transition_formula.specs.Transition.{Transition, IsTransition, fits, is_below}
use Rattle.transition_formula.proofs.FittedFormulas.{fits-solvable}
use Rattle.transition_formula.proofs.Fitting.{fitting}
use Rattle.posing.specs.Posing.{Done, ◌>>=◌, Always}
use Rattle.posing.proofs.Paths.{always_any, always_bind, always_weaker}
use Rattle.polyhedra.specs.Settle.{settled_formula, settled_cases}
use Rattle.polyhedra.specs.Vocabulary.{Vocabulary}
use Rattle.polyhedra.proofs.SettleLaws.{settled_cases-fit}
use Rattle.recurrence.proofs.StarLaws.{always_both}
use Rattle.phases.specs.declared.halving.Halves.{Halves}
use Rattle.phases.specs.Phases.{body_where, case_where, cases_exclude, first_halves, halves_at, halves_by, halves_if, halves_of, has_cases, is_apart, or_next, split, turns_where, with_first}
use Rattle.phases.specs.Splits.{contrary, splits}
use Rattle.phases.specs.Words.{AreExcludable, AreRoomy, IfFound, IsExcludable, IsHalvable, IsOverEntries, IsRoomy, IsSplittable}
use Rattle.phases.proofs.BodiesWhere.{HoldsWhere, IsTrueAt, case-fits, contrary-true, truth-decided, turns_where-holds, where-canonical, where-fits}
use Rattle.recurrence.proofs.CanonicalOrder.{IsCanonicalCase, IsCanonicalFormula, settled-canonical}
use Rattle.phases.proofs.Chains.{AreHalves}
use Rattle.phases.proofs.Exclusions.{ExcludesAll, cases_exclude-true}
use Rattle.phases.proofs.SettledRoom.{IsRoomyCase, settled_cases-spare}
use Rattle.phases.proofs.SplitPolynomials.{IsInForm, column-steps, contrary-keeps, form-steps, splits-keep}

-- ---- the turns of a half: between the same columns, with few auxiliaries

pub record IsHalf (others most : ℕ) (body g : Transition) : Type 0 where
  pub from_is : g.from ≡ body.from
  pub to_is : g.to ≡ body.to
  pub fit : IsTransition body.from body.to g.cases
  pub spare : AllByRecursion (λ (case : Case). case.aux + others ≤ most) g.cases

module _ (others most : ℕ) (body : Transition) (p : Polynomial) (is : IsHalvable body p) where
  abbrev HasRoomFor : Case → Type 0
  HasRoomFor case = case.aux + (body.to + others) ≤ most

  where-roomy : (case : Case) → IsTrue (fits body.from body.to case) → case.aux ≤ 1000 → HasRoomFor case → IsRoomyCase others most body.to (case_where p case)
  where-roomy case fit few room =
      let fit_where = case-fits body.from body.to p is.over case fit in
      let columns = is.splittable.few_columns in
      record {
        numbered = (fits-solvable body.from body.to (case_where p case) fit_where (omega (arith, few, columns))).numbered;
        few = room;
        long = (fitting body.from body.to case fit).length_is;
      }

  pub turns_where-half : AllByRecursion HasRoomFor body.cases → Always (IsHalf others most body) (turns_where p body)
  unfolding turns_where settled_formula
  turns_where-half room =
      always_bind (λ cases. IsTransition body.from body.to cases × AllByRecursion (λ (case : Case). case.aux + others ≤ most) cases) (IsHalf others most body)
      (settled_cases (map (case_where p) body.cases)) (λ cases. Done record { from = body.from; to = body.to; cases = cases })
      (always_both (IsTransition body.from body.to) (AllByRecursion (λ (case : Case). case.aux + others ≤ most)) (settled_cases (map (case_where p) body.cases))
      (settled_cases-fit body.from body.to (map (case_where p) body.cases) (where-fits body p is.splittable.fits is.over))
      (settled_cases-spare others most body.to (map (case_where p) body.cases)
      (each-map (λ case. (IsTrue (fits body.from body.to case) × (case.aux ≤ 1000)) × HasRoomFor case) (IsRoomyCase others most body.to) (case_where p) (λ case k. where-roomy case k.0.0 k.0.1 k.1) body.cases
      (each-both (λ case. IsTrue (fits body.from body.to case) × (case.aux ≤ 1000)) HasRoomFor body.cases
      (each-both (λ case. IsTrue (fits body.from body.to case)) (λ (case : Case). case.aux ≤ 1000) body.cases
      (each_from_test (fits body.from body.to) (λ case. IsTrue (fits body.from body.to case)) (λ case k. k) body.cases is.splittable.fits) is.splittable.few) room))))
      (λ cases k. record { from_is = refl; to_is = refl; fit = k.0; spare = k.1 })

-- an inequality over the entry columns can be put on the posts of its cases
pub half-excludable : (body g : Transition) (q : Polynomial) → IsSplittable body → IsOverEntries body.from q → IsHalf 0 2000 body g → AreExcludable q g.cases
half-excludable body g q is over half =
    each-more (λ (case : Case). IsTrue (fits body.from body.to case) × (case.aux + 0 ≤ 2000)) (IsExcludable q)
    (λ case k. let few = k.1 in let columns = is.few_columns in record {
      solvable = fits-solvable body.from body.to case k.0 (omega (arith, few, columns));
      over = subst (λ n. IsOverEntries n q) (is.same_ends ∙ sym (fitting body.from body.to case k.0).length_is) over;
    }) g.cases
    (each-both (λ case. IsTrue (fits body.from body.to case)) (λ (case : Case). case.aux + 0 ≤ 2000) g.cases
    (each_from_test (fits body.from body.to) (λ case. IsTrue (fits body.from body.to case)) (λ case k. k) g.cases half.fit) half.spare)

pub turns_where-excludable : (body : Transition) (p q : Polynomial) → IsHalvable body p → IsOverEntries body.from q → Always (λ (g : Transition). AreExcludable q g.cases) (turns_where p body)
turns_where-excludable body p q is over =
    always_weaker (IsHalf 0 2000 body) (λ (g : Transition). AreExcludable q g.cases) (turns_where p body) (λ g half. half-excludable body g q is.splittable over half)
    (turns_where-half 0 2000 body p is
    (each-more (λ (case : Case). case.aux ≤ 1000) (λ (case : Case). case.aux + (body.to + 0) ≤ 2000) (λ case few. let columns = is.splittable.few_columns in omega (arith, few, columns)) body.cases is.splittable.few))

-- ---- what both halves have, by what each has

module _ (body : Transition) (R : Halves → Type 0) where
  module _ (p q : Polynomial) (First Second : Transition → Type 0) (first_has : Always First (turns_where q body)) (second_has : Always Second (turns_where p body))
      (both_have : (first second : Transition) → First first → Second second → Always (λ (b : Bool). IsTrue b → R (record { first = first; second = second })) (cases_exclude q second.cases)) where
    halves_if-have : (first second : Transition) (b : Bool) → (IsTrue b → R (record { first = first; second = second })) → IfFound R (halves_if first second b)
    halves_if-have first second true h = h refl
    halves_if-have first second false h = tt

    halves_of-have : (first second : Transition) → First first → Second second → Always (IfFound R) (halves_of body q first second)
    unfolding halves_of
    halves_of-have first second h k = go (is_apart body first second)
      where
        go : (b : Bool) → Always (IfFound R) (if b then cases_exclude q second.cases >>= (λ excluded. Done (halves_if first second excluded)) else Done None)
        go true =
            always_bind (λ (b : Bool). IsTrue b → R (record { first = first; second = second })) (IfFound R) (cases_exclude q second.cases) (λ excluded. Done (halves_if first second excluded))
            (both_have first second h k) (λ b l. halves_if-have first second b l)
        go false = tt

    with_first-has : (first : Transition) → First first → Always (IfFound R) (with_first body p q first)
    unfolding with_first
    with_first-has first h = go (has_cases first)
      where
        go : (b : Bool) → Always (IfFound R) (if b then turns_where p body >>= halves_of body q first else Done None)
        go true = always_bind Second (IfFound R) (turns_where p body) (halves_of body q first) second_has (λ second k. halves_of-have first second h k)
        go false = tt

    pub both-halves : Always (IfFound R) (turns_where q body >>= with_first body p q)
    both-halves = always_bind First (IfFound R) (turns_where q body) (with_first body p q) first_has with_first-has

  pub halves-have : (p : Polynomial) → ((q : Polynomial) → contrary p ≡ Ok q → Always (IfFound R) (turns_where q body >>= with_first body p q)) → Always (IfFound R) (halves_at body p)
  unfolding halves_at
  halves-have p h = go (contrary p) refl
    where
      go : (m : Made) → contrary p ≡ m → Always (IfFound R) (halves_by body p m)
      go (Ok q) e = h q e
      go (Err x) e = tt

  first_halves-have : (ps : List Polynomial) → AllByRecursion (λ p. Always (IfFound R) (halves_at body p)) ps → Always (IfFound R) (first_halves body ps)
  first_halves-have [] h = tt
  first_halves-have (p ∷ ps) h =
      always_bind (IfFound R) (IfFound R) (halves_at body p) (λ found. or_next found (first_halves body ps)) h.0 (λ found k. go found k (first_halves-have ps h.1))
    where
      go : (found : Option Halves) → IfFound R found → Always (IfFound R) (first_halves body ps) → Always (IfFound R) (or_next found (first_halves body ps))
      go None k rest = rest
      go (Some found) k rest = k

  pub split-has : AllByRecursion (λ p. Always (IfFound R) (halves_at body p)) (splits body) → Always (IfFound R) (split body)
  unfolding split
  split-has h = go (nat_lt (length body.cases) 2)
    where
      go : (b : Bool) → Always (IfFound R) (if b then Done None else first_halves body (splits body))
      go true = tt
      go false = first_halves-have (splits body) h

-- ---- the inequalities of a body

pub splits-over : (body : Transition) → AllByRecursion (IsOverEntries body.from) (splits body)
splits-over body =
    splits-keep (IsOverEntries body.from) (column-steps (is_below body.from 0)) body
    (each-any (λ (case : Case). AllByRecursion (λ (row : Row). IsOverEntries body.from row.poly → IsOverEntries body.from row.poly) case.rows)
    (λ case. each-any (λ (row : Row). IsOverEntries body.from row.poly → IsOverEntries body.from row.poly) (λ row over. over) case.rows) body.cases)

splits-in_form : (body : Transition) → IsCanonicalFormula body → AllByRecursion IsInForm (splits body)
splits-in_form body h =
    splits-keep IsInForm form-steps body
    (each-more IsCanonicalCase (λ (case : Case). AllByRecursion (λ (row : Row). IsOverEntries body.from row.poly → IsInForm row.poly) case.rows)
    (λ case k. each-more (λ (row : Row). IsInForm row.poly) (λ (row : Row). IsOverEntries body.from row.poly → IsInForm row.poly) (λ row l over. l) case.rows k) body.cases h)

pub contrary-over : (from : ℕ) (p q : Polynomial) → contrary p ≡ Ok q → IsOverEntries from p → IsOverEntries from q
contrary-over from p q e over = contrary-keeps (IsOverEntries from) (column-steps (is_below from 0)) p q e over

-- ---- halves have room for halves of their own

pub roomy-splittable : (depth : ℕ) (voc : Vocabulary) (body : Transition) → IsRoomy depth body voc → IsSplittable body
roomy-splittable depth voc body is = record {
  fits = is.starred.body_fits;
  same_ends = is.starred.same_ends;
  few_columns = is.few_columns;
  few = each-more (λ (case : Case). case.aux + 64 * depth ≤ 1000) (λ (case : Case). case.aux ≤ 1000) (λ case k. omega (arith, k)) body.cases is.room;
}

module _ (depth : ℕ) (voc : Vocabulary) (body : Transition) (is : IsRoomy (suc depth) body voc) where
  half-roomy : (g : Transition) → IsHalf (64 * depth) 1000 body g → IsRoomy depth g voc
  half-roomy g half = record {
    starred = record {
      body_fits = subst (λ n. IsTransition n g.to g.cases) (sym half.from_is) (subst (λ n. IsTransition body.from n g.cases) (sym half.to_is) half.fit);
      same_ends = half.from_is ∙ is.starred.same_ends ∙ sym half.to_is;
      vocabulary = is.starred.vocabulary;
      same_columns = is.starred.same_columns ∙ sym half.to_is;
      few = subst (λ n. n < 2 ^ 31) (sym half.to_is) is.starred.few;
    };
    few_columns = subst (λ n. n ≤ 63) (sym half.to_is) is.few_columns;
    room = half.spare;
  }

  turns-roomy : (p : Polynomial) → IsOverEntries body.from p → Always (λ g. IsRoomy depth g voc) (turns_where p body)
  turns-roomy p over =
      always_weaker (IsHalf (64 * depth) 1000 body) (λ g. IsRoomy depth g voc) (turns_where p body) half-roomy
      (turns_where-half (64 * depth) 1000 body p (record { splittable = roomy-splittable (suc depth) voc body is; over = over })
      (each-more (λ (case : Case). case.aux + 64 * suc depth ≤ 1000) (λ (case : Case). case.aux + (body.to + 64 * depth) ≤ 1000)
      (λ case k. let columns = is.few_columns in omega (arith, k, columns)) body.cases is.room))

  pub split-roomy : Always (IfFound (AreRoomy depth voc)) (split body)
  split-roomy =
      split-has body (AreRoomy depth voc)
      (each-more (IsOverEntries body.from) (λ p. Always (IfFound (AreRoomy depth voc)) (halves_at body p))
      (λ p over. halves-have body (AreRoomy depth voc) p (λ q e.
      both-halves body (AreRoomy depth voc) p q (λ g. IsRoomy depth g voc) (λ g. IsRoomy depth g voc) (turns-roomy q (contrary-over body.from p q e over)) (turns-roomy p over)
      (λ first second h k. always_any (λ (b : Bool). IsTrue b → AreRoomy depth voc (record { first = first; second = second })) (cases_exclude q second.cases) (λ b told. (h, k))))) (splits body) (splits-over body))

-- ---- halves are turns of the body

pub record AreTrueHalves (body : Transition) (found : Halves) : Type 0 where
  pub by : Polynomial
  pub halves : AreHalves body by found.first found.second
  pub first_canonical : IsCanonicalFormula found.first
  pub second_canonical : IsCanonicalFormula found.second

module _ (body : Transition) (is : IsSplittable body) (canonical : IsCanonicalFormula body) where
  record IsHalfWhere (p : Polynomial) (g : Transition) : Type 0 where
    holds : HoldsWhere body p g
    form : IsCanonicalFormula g

  turns-true : (p : Polynomial) → IsOverEntries body.from p → IsInForm p → Always (IsHalfWhere p) (turns_where p body)
  unfolding turns_where
  turns-true p over form =
      always_weaker (λ g. HoldsWhere body p g × IsCanonicalFormula g) (IsHalfWhere p) (settled_formula (body_where p body)) (λ g k. record { holds = k.0; form = k.1 })
      (always_both (HoldsWhere body p) IsCanonicalFormula (settled_formula (body_where p body)) (turns_where-holds body p (record { splittable = is; over = over }) form canonical)
      (settled-canonical (body_where p body) (where-canonical p body form canonical)))

  module _ (p q : Polynomial) (e : contrary p ≡ Ok q) (over : IsOverEntries body.from p) (form : IsInForm p) where
    are-halves : (first second : Transition) → IsHalfWhere q first → IsHalfWhere p second → (b : Bool) → ExcludesAll q second.cases b → IsTrue b → AreTrueHalves body (record { first = first; second = second })
    are-halves first second h k b excludes told = record {
      by = p;
      halves = record {
        begins = λ before after held absent. h.holds before after held (contrary-true p q e before absent);
        goes_on = λ before after held there. k.holds before after held there;
        stays = stays;
      };
      first_canonical = h.form;
      second_canonical = k.form;
    }
      where
        stays : (before after : List ℤ) → Holds second before after → IsTrueAt p after
        stays before after held =
            elim (truth-decided p after) [ inl there ↦ there | inr absent ↦ absurd (excludes told before after held.some (contrary-true p q e after absent)) ]

    abbrev IsSecond : Transition → Type 0
    IsSecond g = IsHalfWhere p g × AreExcludable q g.cases

    halves-true : Always (IfFound (AreTrueHalves body)) (turns_where q body >>= with_first body p q)
    halves-true =
        let q_over = contrary-over body.from p q e over in
        both-halves body (AreTrueHalves body) p q (IsHalfWhere q) IsSecond (turns-true q q_over (contrary-keeps IsInForm form-steps p q e form))
        (always_both (IsHalfWhere p) (λ (g : Transition). AreExcludable q g.cases) (turns_where p body) (turns-true p over form) (turns_where-excludable body p q (record { splittable = is; over = over }) q_over))
        (λ first second h k. always_weaker (ExcludesAll q second.cases) (λ (b : Bool). IsTrue b → AreTrueHalves body (record { first = first; second = second })) (cases_exclude q second.cases)
        (λ b excludes told. are-halves first second h k.0 b excludes told) (cases_exclude-true q second.cases k.1 k.0.form))

  pub split-true : Always (IfFound (AreTrueHalves body)) (split body)
  split-true =
      split-has body (AreTrueHalves body)
      (each-more (λ p. IsOverEntries body.from p × IsInForm p) (λ p. Always (IfFound (AreTrueHalves body)) (halves_at body p))
      (λ p k. halves-have body (AreTrueHalves body) p (λ q e. halves-true p q e k.0 k.1)) (splits body)
      (each-both (IsOverEntries body.from) IsInForm (splits body) (splits-over body) (splits-in_form body canonical)))

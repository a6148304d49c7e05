-- What lists of cases mean: the values of which they hold, in each state.
use Rattle.std.proofs.Common.{◌≡◌, ◌⊎◌, inl, inr, ℕ, ◌+◌, ℤ, pos, map, List, [], ◌∷◌, ◌++◌, sym, subst, ◌∙◌, arith}
use Rattle.std.specs.List.{AllByRecursion}
use Rattle.items.proofs.Each.{each-append, each-more}
use Rattle.linear_terms.specs.Polynomial.{Polynomial}
use Rattle.linear_terms.specs.Value.{value_of}
use Rattle.transition_formula.specs.Meaning.{numbers, HoldsSome}
use Rattle.transition_formula.proofs.Values.{none-of}
use Rattle.transition_formula.proofs.Meanings.{some-either, some-left, some-right}
use Rattle.leaf_cases.specs.declared.step.CaseStep.{CaseStep}
use Rattle.leaf_cases.specs.Expression.{by, one_case, number_cases}
use Rattle.leaf_cases.specs.Listed.{Listed, together, either}
use Rattle.leaf_cases.specs.Steps.{losses_by_steps, with_number}
use Rattle.leaf_cases.proofs.StepCases.{Stepped, Numbered, steps-hold, steps-held, numbered-hold, numbered-held}
use Rattle.leaf_cases.proofs.CaseColumns.{Sits, sits-more, sits-both, sits-cases_by, sits-numbered}
use Rattle.leaf_cases.proofs.Together.{Both, both-hold, both-held}
use Rattle.leaf_cases.specs.Listed as listed

-- the list holds of the values in P, and where nothing is lost of no others
pub record Means (columns : ℕ) (list : Listed) (P : List ℤ → List ℤ → Type 0) : Type 0 where
  pub bound : ℕ
  pub sits : AllByRecursion (Sits columns bound) list.cases
  pub least : (s z : List ℤ) → P s z → HoldsSome list.cases s z
  pub most : list.lost ≡ [] → (s z : List ℤ) → HoldsSome list.cases s z → P s z

pub record OneOf (P Q : List ℤ → List ℤ → Type 0) (s z : List ℤ) : Type 0 where
  pub one : P s z ⊎ Q s z

module _ (columns : ℕ) where
  pub means-as : (list : Listed) (P Q : List ℤ → List ℤ → Type 0) → Means columns list P → ((s z : List ℤ) → P s z → Q s z) → ((s z : List ℤ) → Q s z → P s z) → Means columns list Q
  means-as list P Q h there back = record { bound = h.bound; sits = h.sits; least = λ s z q. h.least s z (back s z q); most = λ none s z k. there s z (h.most none s z k) }

  pub means-together : (a b : Listed) (P Q : List ℤ → List ℤ → Type 0) → Means columns a P → Means columns b Q → Means columns (together a b) (Both P Q)
  means-together a b P Q h k =
      record {
        bound = h.bound + k.bound;
        sits = sits-both columns h.bound k.bound a.cases b.cases h.sits k.sits;
        least = λ s z m. subst (HoldsSome (listed.both a.cases b.cases) s) (sym m.joined) (both-hold columns h.bound a.cases b.cases h.sits s m.first m.second (h.least s m.first m.left) (k.least s m.second m.right));
        most = λ none s z g.
            let parts = none-of a.lost b.lost none in
            let m = both-held a.cases b.cases s z g in record { first = m.first; second = m.second; left = h.most parts.0 s m.first m.left; right = k.most parts.1 s m.second m.right; joined = m.joined };
      }

  pub means-either : (a b : Listed) (P Q : List ℤ → List ℤ → Type 0) → Means columns a P → Means columns b Q → Means columns (either a b) (OneOf P Q)
  means-either a b P Q h k =
      record {
        bound = h.bound + k.bound;
        sits =
            each-append (Sits columns (h.bound + k.bound)) a.cases b.cases (each-more (Sits columns h.bound) (Sits columns (h.bound + k.bound)) (sits-more columns h.bound (h.bound + k.bound) (omega arith)) a.cases h.sits)
            (each-more (Sits columns k.bound) (Sits columns (h.bound + k.bound)) (sits-more columns k.bound (h.bound + k.bound) (omega arith)) b.cases k.sits);
        least = λ s z m. place s z m.one;
        most = λ none s z g. let parts = none-of a.lost b.lost none in found parts.0 parts.1 s z (some-either a.cases b.cases s z g);
      }
    where
      place : (s z : List ℤ) → P s z ⊎ Q s z → HoldsSome (a.cases ++ b.cases) s z
      place s z (inl m) = some-left a.cases b.cases s z (h.least s z m)
      place s z (inr m) = some-right a.cases b.cases s z (k.least s z m)

      found : a.lost ≡ [] → b.lost ≡ [] → (s z : List ℤ) → HoldsSome a.cases s z ⊎ HoldsSome b.cases s z → OneOf P Q s z
      found e f s z (inl g) = record { one = inl (h.most e s z g) }
      found e f s z (inr g) = record { one = inr (k.most f s z g) }

  pub means-by : (steps : List CaseStep) (a : Listed) (P : List ℤ → List ℤ → Type 0) → Means columns a P → Means columns (by steps a) (Stepped steps P)
  means-by steps a P h =
      record {
        bound = h.bound + 2;
        sits = sits-cases_by columns h.bound steps a.cases h.sits;
        least = λ s z m. steps-hold columns h.bound steps a.cases h.sits s m.numbers_are z (h.least s m.numbers_are m.holds) m.gives;
        most = λ none s z g.
            let parts = none-of a.lost (losses_by_steps steps a.cases) none in
            let m = steps-held steps a.cases s z parts.1 g in record { numbers_are = m.numbers_are; holds = h.most parts.0 s m.numbers_are m.holds; gives = m.gives };
      }

  pub means-numbered : (value : ℤ) (a : Listed) (P : List ℤ → List ℤ → Type 0) → Means columns a P → Means columns (number_cases value a) (Numbered value P)
  means-numbered value a P h =
      record {
        bound = h.bound;
        sits = sits-numbered columns h.bound value a.cases h.sits;
        least = λ s z m. subst (HoldsSome (map (with_number value) a.cases) s) (sym m.value_is) (numbered-hold value a.cases s m.numbers_are (h.least s m.numbers_are m.holds));
        most = λ none s z g. let m = numbered-held value a.cases s z g in record { numbers_are = m.numbers_are; holds = h.most none s m.numbers_are m.holds; value_is = m.value_is };
      }

-- one value, known from the state
pub record Known (f : List ℤ → ℤ) (s z : List ℤ) : Type 0 where
  pub is : z ≡ f s ∷ []

pub means-known : (columns : ℕ) (p : Polynomial) (f : List ℤ → ℤ) → ((s : List ℤ) (aux : ℕ → ℤ) → value_of (numbers s aux) p ≡ f s) → (n : ℕ) → AllByRecursion (Sits columns n) (one_case p).cases → Means columns (one_case p) (Known f)
means-known columns p f value n sits =
    record {
      bound = n;
      sits = sits;
      least = λ s z m. inl (λ k. pos 0, record { rows = tt; posts = (λ i. value s (λ k. pos 0) i ∷ []) ∙ sym m.is });
      most = λ none s z g. found s z g;
    }
  where
    found : (s z : List ℤ) → HoldsSome (one_case p).cases s z → Known f s z
    found s z (inl (aux, h)) = record { is = sym h.posts ∙ (λ i. value s aux i ∷ []) }
    found s z (inr h) = absurd h

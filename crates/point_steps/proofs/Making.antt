-- What the loops over cases make, as the definitions say it.
use Rattle.std.proofs.Common.{◌≡◌, ℕ, ◌+◌, ◌<◌, ◌^◌, length, map, drop, get_or, List, [], ◌∷◌, ◌++◌, sym, ap, subst, ◌∙◌, append_assoc, append-nil}
use Rattle.std.specs.Prelude.{All, IsTrue}
use Rattle.std.specs.List.{flat_map}
use Rattle.std.proofs.lemmas.List.Elements.{All-from_recursion}
use Rattle.std.proofs.lemmas.Simd.{map-map}
use Rattle.linear_terms.specs.declared.row.Case.{Case}
use Rattle.linear_terms.specs.Polynomial.{Polynomial}
use Rattle.transition_formula.specs.declared.loss.Loss.{Loss}
use Rattle.transition_formula.specs.Composition.{after_case, losses_by, losses_in_sequence, sequence_of, sequence_of_cases}
use Rattle.transition_formula.specs.Posts.{case_with_posts, with_posts}
use Rattle.transition_formula.specs.Transition.{AreFew, IsTransition, Transition, fits}
use Rattle.transition_formula.proofs.Loops.{at_index}
use Rattle.point_steps.specs.States.{told_case}
use Rattle.point_steps.proofs.StateFormulas.{alone, alone-fits}

-- ---- copies

pub copied-next : {X : Type 0} (xs : List X) (i : ℕ) (x y : X) (made next : List X) → i < length xs → x ≡ get_or xs i x → y ≡ x → next ≡ made ++ y ∷ [] → next ++ drop (i + 1) xs ≡ made ++ drop i xs
copied-next xs i x y made next lt is same pushed =
    ap (λ l. l ++ drop (i + 1) xs) pushed ∙ append_assoc made (y ∷ []) (drop (i + 1) xs) ∙ (λ j. made ++ (same j ∷ drop (i + 1) xs)) ∙ ap (λ l. made ++ l) (sym (at_index xs i x lt is))

-- ---- one case and then each of a formula

module _ (first : Case) (second : Transition) where
  abbrev pub through : Transition
  through = record { from = 0; to = second.to; cases = map (sequence_of_cases first) second.cases }

  abbrev pub losses_in_through : List Loss
  losses_in_through = flat_map (λ case. losses_by (after_case first case) case) second.cases

  pub one-case : (from : ℕ) (cases none : List Case) → none ≡ [] → cases ≡ none ++ first ∷ [] → from ≡ second.from → IsTrue (fits 0 second.from first) → IsTransition 0 from cases
  one-case from cases none e f same fit =
      subst (λ n. IsTransition 0 n cases) (sym same) (subst (IsTransition 0 second.from) (sym (f ∙ ap (λ l. l ++ first ∷ []) e)) (alone-fits 0 second.from first fit))

  module _ (one : Transition) (is : one ≡ alone 0 second.from first) where
    pub one-meets : one.to ≡ second.from
    one-meets = ap (λ (f : Transition). f.to) is

    pub one-few : All (λ (case : Case). first.aux + case.aux + second.to < 2 ^ 32) second.cases → AreFew one second
    one-few few =
        subst (λ (f : Transition). AreFew f second) (sym is)
        (All-from_recursion (λ (x : Case). All (λ (y : Case). x.aux + y.aux + second.to < 2 ^ 32) second.cases) (first ∷ []) (few, tt))

    pub through-is : (f : Transition) → f ≡ sequence_of one second → f ≡ through
    through-is f e = e ∙ ap (λ (g : Transition). sequence_of g second) is ∙ (λ i. record { from = 0; to = second.to; cases = append-nil (map (sequence_of_cases first) second.cases) i })

    pub through-noted : (old new : List Loss) → new ≡ old ++ losses_in_sequence one second → new ≡ old ++ losses_in_through
    through-noted old new e = e ∙ ap (λ (g : Transition). old ++ losses_in_sequence g second) is ∙ ap (λ l. old ++ l) (append-nil losses_in_through)

  -- and with further posts
  pub told-made : (front behind : List Polynomial) (f : Transition) (old new : List Case) → f ≡ through → new ≡ old ++ map (told_case front behind) f.cases → new ≡ old ++ map (λ case. told_case front behind (sequence_of_cases first case)) second.cases
  told-made front behind f old new is e =
      e ∙ ap (λ (g : Transition). old ++ map (told_case front behind) g.cases) is ∙ ap (λ l. old ++ l) (map-map (told_case front behind) (sequence_of_cases first) second.cases)

  -- the same of the posts at some places
  pub returned-made : (places : List ℕ) (front slice : List Polynomial) → slice ≡ front → (f told : Transition) (old new : List Case) → f ≡ through → told ≡ with_posts places f → new ≡ old ++ map (told_case slice []) told.cases
      → new ≡ old ++ map (λ case. told_case front [] (case_with_posts places (sequence_of_cases first case))) second.cases
  returned-made places front slice same f told old new is at e =
      e ∙ (λ i. old ++ map (told_case (same i) []) (Transition.cases ((at ∙ ap (with_posts places) is) i)))
      ∙ ap (λ l. old ++ l) (map-map (told_case front []) (case_with_posts places) (map (sequence_of_cases first) second.cases) ∙ map-map (λ case. told_case front [] (case_with_posts places case)) (sequence_of_cases first) second.cases)

-- Where formulas stand in a list of known ones with rows at exits.
use Rattle.std.proofs.Common.{◌≡◌, ℕ, zero, suc, ◌+◌, ◌<◌, length, drop, get_or, List, [], ◌∷◌, ◌++◌, Option, Some, None, refl, sym, ap, ◌∙◌, arith, append_assoc}
use Rattle.std.specs.Prelude.{slice_get}
use Rattle.std.specs.Option.{option_map}
use Rattle.std.proofs.lemmas.Option.{slice_get-get_or}
use Rattle.linear_terms.specs.declared.row.Row.{Row}
use Rattle.transition_formula.specs.Transition.{Transition}
use Rattle.transition_formula.proofs.Loops.{at_index}
use Rattle.point_rows.specs.Exits.{FitExits, IsExitOf, exit_rows_at, formula_with_rows, formulas_with_exits, with_exit_rows}

without-rows : (f : Option Transition) → f ≡ option_map (formula_with_rows None) f
without-rows None = refl
without-rows (Some f) = refl

with-rows : (rows : List Row) (f : Option Transition) → option_map (with_exit_rows rows) f ≡ option_map (formula_with_rows (Some rows)) f
with-rows rows None = refl
with-rows rows (Some f) = refl

without-exit : (o : Option (Option Transition)) → o ≡ option_map (option_map (formula_with_rows None)) o
without-exit None = refl
without-exit (Some f) = ap (λ g. Some g) (without-rows f)

-- what stands at a place
pub known-get : (known : List (Option Transition)) (exits : List (List Row)) (k : ℕ)
    → slice_get (formulas_with_exits known exits) k ≡ option_map (option_map (formula_with_rows (slice_get exits k))) (slice_get known k)
known-get [] exits k = refl
known-get (f ∷ known) [] zero = ap (λ g. Some g) (without-rows f)
known-get (f ∷ known) [] (suc k) = without-exit (slice_get known k)
known-get (f ∷ known) (rows ∷ exits) zero = ap (λ g. Some g) (with-rows rows f)
known-get (f ∷ known) (rows ∷ exits) (suc k) = known-get known exits k

pub known-length : (known : List (Option Transition)) (exits : List (List Row)) → length (formulas_with_exits known exits) ≡ length known
known-length [] exits = refl
known-length (f ∷ known) [] = refl
known-length (f ∷ known) (rows ∷ exits) = ap suc (known-length known exits)

-- a formula that is known has its rows
pub known-there : (known : List (Option Transition)) (exits : List (List Row)) (k : ℕ) (f : Transition) → slice_get known k ≡ Some (Some f)
    → slice_get (formulas_with_exits known exits) k ≡ Some (Some (formula_with_rows (slice_get exits k) f))
known-there known exits k f is = known-get known exits k ∙ ap (option_map (option_map (formula_with_rows (slice_get exits k)))) is

mapped-from : (h : Transition → Transition) (o : Option (Option Transition)) (g : Transition) → option_map (option_map h) o ≡ Some (Some g) → (f : Transition) × (o ≡ Some (Some f)) × (h f ≡ g)
mapped-from h None g e = absurd cc
mapped-from h (Some None) g e = absurd cc
mapped-from h (Some (Some f)) g e = (f, refl, cc)

-- a formula with rows is one that is known, with its rows
pub known-from : (known : List (Option Transition)) (exits : List (List Row)) (k : ℕ) (g : Transition) → slice_get (formulas_with_exits known exits) k ≡ Some (Some g)
    → (f : Transition) × (slice_get known k ≡ Some (Some f)) × (formula_with_rows (slice_get exits k) f ≡ g)
known-from known exits k g is = mapped-from (formula_with_rows (slice_get exits k)) (slice_get known k) g (sym (known-get known exits k) ∙ is)

-- ---- for the code

no-exits : (known : List (Option Transition)) → known ≡ formulas_with_exits known []
no-exits [] = refl
no-exits (f ∷ known) = refl

-- the first formula and the rows from a place on
known-first : (f : Option Transition) (known : List (Option Transition)) (exits : List (List Row)) (k : ℕ)
    → formulas_with_exits (f ∷ known) (drop k exits) ≡ option_map (formula_with_rows (slice_get exits k)) f ∷ formulas_with_exits known (drop (suc k) exits)
known-first f known [] zero = λ i. without-rows f i ∷ no-exits known i
known-first f known [] (suc k) = λ i. without-rows f i ∷ no-exits known i
known-first f known (rows ∷ exits) zero = ap (λ g. g ∷ formulas_with_exits known exits) (with-rows rows f)
known-first f known (rows ∷ exits) (suc k) = known-first f known exits k

-- the rows at a place are over the columns of the formula there
pub exit-fits : (known : List (Option Transition)) (exits : List (List Row)) (k : ℕ) (f : Option Transition) → FitExits known exits → k < length known → f ≡ get_or known k f → IsExitOf f (exit_rows_at exits k)
exit-fits known exits k None fit within is = tt
exit-fits known exits k (Some f) fit within is = fit.fit k f (slice_get-get_or known k (Some f) within ∙ ap (λ g. Some g) (sym is))

-- one more behind those that are made
pub known-next : (known : List (Option Transition)) (exits : List (List Row)) (k : ℕ) (f g : Option Transition) (made next : List (Option Transition)) → k < length known → f ≡ get_or known k f
    → g ≡ option_map (formula_with_rows (slice_get exits k)) f → next ≡ made ++ g ∷ []
    → next ++ formulas_with_exits (drop (k + 1) known) (drop (k + 1) exits) ≡ made ++ formulas_with_exits (drop k known) (drop k exits)
known-next known exits k f g made next within is same pushed =
    let one : suc k ≡ k + 1 = omega arith in
    let more = formulas_with_exits (drop (k + 1) known) (drop (k + 1) exits) in
    ap (λ l. l ++ more) pushed
    ∙ append_assoc made (g ∷ []) more
    ∙ ap (λ l. made ++ l)
    (ap (λ h. h ∷ more) same
    ∙ sym (known-first f (drop (k + 1) known) exits k ∙ ap (λ n. option_map (formula_with_rows (slice_get exits k)) f ∷ formulas_with_exits (drop (k + 1) known) (drop n exits)) one)
    ∙ ap (λ l. formulas_with_exits l (drop k exits)) (sym (at_index known k f within is)))

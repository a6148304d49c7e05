-- Which step a search stopped at, from the stated answers of its calls.
use Rattle.std.proofs.Common.{◌≡◌, ℕ, ◌+◌, Bool, List, [], drop, get_or, sym, ap, ◌∙◌, Result, Ok, Err, ℤ}
use Rattle.std.specs.Prelude.{IfErr}
use Rattle.items.specs.Gives.{Gives, ◌>>=◌}
use Rattle.whole_numbers.specs.declared.wide.Wide as Step
use Rattle.farkas_check.specs.Ratios.{Fraction}
use Rattle.farkas_check.specs.declared.answer.Cert.{Cert}
use Rattle.farkas_check.specs.declared.answer.Answer.{Answer}
use Rattle.farkas_check.specs.declared.answer.Answer.TheVariants as answer
use Rattle.farkas_check.specs.declared.answer.Limit.TheVariants as limit
use Rattle.simplex.specs.Answers.{multipliers_of, IsWide, NamesStep}
use Rattle.simplex.specs.Exchange.{cause, exchange, upright_line, choices_of}
use Rattle.simplex.specs.Raise.{Framed}
use Rattle.simplex.specs.Search.{chosen_number}
use Rattle.simplex.specs.SearchSteps.{StopsBy, IsNumberStep, IsSlopeStep, IsTableauIn, IsFrameStep, exchange_step, number_step, slope_step, certificate_step, multipliers_step}
use Rattle.simplex.specs.Suprema.{chosen_slope, certificate_of}
use Rattle.simplex.specs.declared.stop.SearchStop.{SearchStop}
use Rattle.simplex.specs.declared.stop.SearchStop.TheVariants.{Wide, Memory}
use Rattle.simplex.specs.declared.tableau.Tableau.{Tableau}

-- ---- stops

pub stops_weaker : {X : Type 0} (P Q : Step.Wide → Type 0) (r : Result X SearchStop) → IfErr r (StopsBy P) → ((step : Step.Wide) → P step → Q step) → IfErr r (StopsBy Q)
stops_weaker P Q (Ok x) h f = tt
stops_weaker P Q (Err (Wide step)) h f = f step h
stops_weaker P Q (Err Memory) h f = tt

pub gives_stop : {X Y : Type 0} (P : Step.Wide → Type 0) (view : X → Y) (r : Result X SearchStop) (stated : Result Y Step.Wide) → Gives cause view r stated → ((step : Step.Wide) → stated ≡ Err step → P step) → IfErr r (StopsBy P)
gives_stop P view (Ok x) stated g f = tt
gives_stop P view (Err (Wide step)) stated g f = f step g
gives_stop P view (Err Memory) stated g f = tt

pub exact_step : {X : Type 0} (P : Step.Wide → Type 0) (r stated : Result X Step.Wide) → r ≡ stated → ((step : Step.Wide) → stated ≡ Err step → P step) → IfErr r P
exact_step P (Ok x) stated e f = tt
exact_step P (Err step) stated e f = f step (sym e)

-- ---- readings

pub number_stops : (t : Tableau) (constants column line : ℕ) (own : List ℤ) (r : Result Fraction Step.Wide) → own ≡ get_or t.lines line [] → choices_of t line ≡ column → r ≡ chosen_number own constants column → IfErr r (IsNumberStep t constants)
number_stops t constants column line own r e f g =
    exact_step (IsNumberStep t constants) r (chosen_number own constants column) g
    (λ step stopped. record { line = line; is = ap (λ (zs : List ℤ). chosen_number zs constants (choices_of t line)) (sym e) ∙ ap (λ (j : ℕ). chosen_number own constants j) f ∙ stopped })

pub slope_stops : (t : Tableau) (column : ℕ) (up : Bool) (chosen line : ℕ) (own : List ℤ) (r : Result Fraction Step.Wide) → own ≡ get_or t.lines line [] → choices_of t line ≡ chosen → r ≡ chosen_slope own column up chosen → IfErr r (IsSlopeStep t column up)
slope_stops t column up chosen line own r e f g =
    exact_step (IsSlopeStep t column up) r (chosen_slope own column up chosen) g
    (λ step stopped. record { line = line; is = ap (λ (zs : List ℤ). chosen_slope zs column up (choices_of t line)) (sym e) ∙ ap (λ (j : ℕ). chosen_slope own column up j) f ∙ stopped })

upright_stop : (constants : ℕ) (line : List ℤ) (step : Step.Wide) → multipliers_of constants line ≡ Err step → upright_line constants line ≡ Err step
upright_stop constants line step e = go (upright_line constants line) e
  where
    drop_ok : List ℤ → Result (List ℤ) Step.Wide
    drop_ok own = Ok (drop (constants + 1) own)

    go : (r : Result (List ℤ) Step.Wide) → (r >>= λ own. drop_ok own) ≡ Err step → r ≡ Err step
    go (Ok own) f = cc
    go (Err w) f = f

-- ---- steps of a frame

module _ (over : Framed) (count : ℕ) (t : Tableau) (of : IsTableauIn over count t) where
  pub exchange_stops : (line column : ℕ) (r : Result Tableau SearchStop) → Gives cause (λ u. u) r (exchange t line column) → IfErr r (StopsBy (IsFrameStep over count))
  exchange_stops line column r g = gives_stop (IsFrameStep over count) (λ u. u) r (exchange t line column) g (λ step e. exchange_step t line column of e)

  pub numbers_stop : {X : Type 0} (constants : ℕ) (r : Result X SearchStop) → over.units ≡ constants + 1 → IfErr r (StopsBy (IsNumberStep t constants)) → IfErr r (StopsBy (IsFrameStep over count))
  numbers_stop constants r u h = stops_weaker (IsNumberStep t constants) (IsFrameStep over count) r h (λ step s. number_step t constants of u s)

  pub slopes_stop : {X : Type 0} (column : ℕ) (up : Bool) (r : Result X SearchStop) → IfErr r (StopsBy (IsSlopeStep t column up)) → IfErr r (StopsBy (IsFrameStep over count))
  slopes_stop column up r h = stops_weaker (IsSlopeStep t column up) (IsFrameStep over count) r h (λ step s. slope_step t column up of s)

  pub certificate_stops : (constants goal : ℕ) (line : List ℤ) (r : Result Cert SearchStop) → over.units ≡ constants + 1 → line ≡ get_or t.lines goal [] → Gives cause (λ cert. cert) r (certificate_of constants goal line) → IfErr r (StopsBy (IsFrameStep over count))
  certificate_stops constants goal line r u own g =
      gives_stop (IsFrameStep over count) (λ cert. cert) r (certificate_of constants goal line) g
      (λ step e. certificate_step t constants goal of u (ap (λ (zs : List ℤ). certificate_of constants goal zs) (sym own) ∙ e))

  pub multipliers_stop : (constants place : ℕ) (line : List ℤ) (r : Result (List ℤ) SearchStop) → over.units ≡ constants + 1 → line ≡ get_or t.lines place [] → Gives cause (λ by. by) r (multipliers_of constants line) → IfErr r (StopsBy (IsFrameStep over count))
  multipliers_stop constants place line r u own g =
      gives_stop (IsFrameStep over count) (λ by. by) r (multipliers_of constants line) g
      (λ step e. multipliers_step t constants place of u (ap (λ (zs : List ℤ). upright_line constants zs) (sym own) ∙ upright_stop constants line step e))

-- ---- answers

pub names_none : (P : Step.Wide → Type 0) (a : Answer) → (IsWide a → ⊥) → NamesStep P a
names_none P (answer.Yes by) h = tt
names_none P (answer.No point) h = tt
names_none P (answer.Bound at certs case point) h = tt
names_none P (answer.Unbounded case point ray) h = tt
names_none P (answer.Basis relations spots free) h = tt
names_none P (answer.Limit limit.Pivots) h = tt
names_none P (answer.Limit (limit.Wide left right times)) h = absurd (h tt)

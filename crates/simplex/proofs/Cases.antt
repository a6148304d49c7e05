-- The answer over all cases: no part of its test is false, and on calm questions no step of it
-- leaves 128 bits.
use Rattle.std.proofs.Common.{◌≡◌, ◌⊎◌, inl, inr, ℕ, zero, suc, ◌+◌, ◌<◌, ◌≤◌, Bool, true, false, cond, List, [], ◌∷◌, ◌++◌, length, get_or, map, Result, Ok, Err, refl, sym, ap, subst, ◌∙◌, arith, ⊎_elim, ℤ, pos, ◌*ℤ◌, ◌≤ℤ◌, ◌<ℤ◌, Option, None, Some}
use Rattle.std.specs.Prelude.{IfOk, IfErr, ◌-◌, ◌^◌, ◌==◌, slice_get, int_lt, unsigned_abs}
use Rattle.std.specs.List.{AllByRecursion}
use Rattle.std.proofs.lemmas.Int.{ints}
use Rattle.std.proofs.lemmas.Bool.{eq-eqb, false≢true}
use Rattle.std.proofs.lemmas.List.Elements.{recursion_from_All}
use Rattle.std.specs.Prelude.{All}
use Rattle.whole_numbers.specs.declared.wide.Wide as Step
use Rattle.farkas_check.specs.Calm.{IsCalm, IsCalmGoal, IsLiveAndCalm}
use Rattle.farkas_check.specs.Frames.{choose, choice_count}
use Rattle.farkas_check.specs.Kept.{IsCanonicalGoal, HasPositive}
use Rattle.farkas_check.specs.Meaning.{IsLimit}
use Rattle.farkas_check.specs.Parts.{and_then}
use Rattle.farkas_check.specs.Ratios.{Fraction}
use Rattle.farkas_check.specs.Sizes.{IsDead, case_rows}
use Rattle.farkas_check.specs.Tested.{goal_columns, outcome, Passes, tested_cert, tested_certs, tested_point, tested_reached, tested_ray, of_case}
use Rattle.farkas_check.specs.declared.answer.Answer.{Answer}
use Rattle.farkas_check.specs.declared.answer.Answer.TheVariants as answer
use Rattle.farkas_check.specs.declared.answer.Cert.{Cert}
use Rattle.farkas_check.specs.declared.answer.Limit.TheVariants as limit
use Rattle.farkas_check.specs.declared.question.Goal.{Goal}
use Rattle.farkas_check.specs.declared.question.Question.TheVariants.{Sup}
use Rattle.farkas_check.proofs.Farkas.{bool_ok}
use Rattle.simplex.specs.Goals.{whole_bound, higher, with_bound, bound_answer, IsReachOf, ReachAt, AreBoundsTo, HasNoBound, IsFoundAmong, IsRefusalAmong, IsSupremumAt, HasManyChoices, PivotsAmong, IsGoalsStep, goals_search, goals_number, goals_test, IsGoalsAnswer}
use Rattle.simplex.specs.Answers.{IsWide}
use Rattle.simplex.specs.Refusal.{LeavesBits, IsRefusalIn}
use Rattle.simplex.specs.Rows.{kinds_of}
use Rattle.simplex.specs.SearchSteps.{far_step}
use Rattle.simplex.specs.Suprema.{with_goal, own_frame, IsSupremumOf}
use Rattle.simplex.proofs.Stops.{names_none}
use Rattle.simplex.proofs.WiderColumns.{small_goal}
use Rattle.simplex.specs.declared.goals.Bounds.{Bounds}
use Rattle.simplex.specs.declared.goals.Reach.{Reach}
use Rattle.simplex.specs.declared.stop.SearchStop.{SearchStop}
use Rattle.simplex.specs.declared.stop.SearchStop.TheVariants.{Wide, Memory}
use Rattle.simplex.specs.declared.tableau.Tableau.{Tableau}
use Rattle.simplex.specs.declared.supremum.Supremum.{Supremum}
use Rattle.simplex.specs.declared.supremum.Supremum.TheVariants as supremum
use Rattle.simplex.proofs.BoundCertificates.{IsCertified, certified, certificate-is}
use Rattle.simplex.proofs.CalmGoals.{goal_small, cert_small, floor-small, cert-calm, point-calm, reached-calm, ray-calm, IsSmallCert}
use Rattle.simplex.proofs.Emptiness.{no_point_of}
use Rattle.simplex.proofs.RowTableaux.{kinds-length, long}
use Rattle.simplex.proofs.Leaves.{goals-leaves, limit_of}
use Rattle.simplex.proofs.Objectives.{more_rows}
use Rattle.simplex.proofs.Rays.{ray_honest}
use Rattle.simplex.proofs.GoalCorners.{goal_point_honest, reached_honest}
use Rattle.simplex.proofs.Roundings.{certificate-floor, cert-honest}
use Rattle.simplex.proofs.Tame.{fits_twice}

-- ---- lists by places

pub at_place : {X : Type 0} (P : X → Type 0) (xs : List X) (l : ℕ) (x : X) → AllByRecursion P xs → slice_get xs l ≡ Some x → P x
at_place P [] l x h e = cc
at_place P (y ∷ xs) zero x h e = let same : y ≡ x = cc in subst P same h.0
at_place P (y ∷ xs) (suc l) x h e = at_place P xs l x h.1 e

pub one_more : {X : Type 0} (xs : List X) (x y : X) (l : ℕ) → slice_get (xs ++ x ∷ []) l ≡ Some y → (slice_get xs l ≡ Some y) ⊎ ((l ≡ length xs) × (x ≡ y))
one_more [] x y zero e = inr (refl, cc)
one_more [] x y (suc l) e = cc
one_more (z ∷ xs) x y zero e = inl e
one_more (z ∷ xs) x y (suc l) e = ⊎_elim (λ (f : slice_get xs l ≡ Some y). inl f) (λ both. inr (let f : l ≡ length xs = both.0 in omega (arith, f), both.1)) (one_more xs x y l e)

at_front : {X : Type 0} (xs : List X) (x y : X) (l : ℕ) → slice_get xs l ≡ Some y → slice_get (xs ++ x ∷ []) l ≡ Some y
at_front [] x y l e = cc
at_front (z ∷ xs) x y zero e = e
at_front (z ∷ xs) x y (suc l) e = at_front xs x y l e

at_end : {X : Type 0} (xs : List X) (x : X) → slice_get (xs ++ x ∷ []) (length xs) ≡ Some x
at_end [] x = refl
at_end (z ∷ xs) x = at_end xs x

mapped_place : (goals : List Goal) (l : ℕ) (goal : Goal) → slice_get goals l ≡ Some goal → slice_get (case_rows (Sup goals)) l ≡ Some goal.rows
mapped_place [] l goal e = cc
mapped_place (g ∷ goals) zero goal e = let same : g ≡ goal = cc in ap (λ (x : Goal). Some x.rows) same
mapped_place (g ∷ goals) (suc l) goal e = mapped_place goals l goal e

mapped-length : (goals : List Goal) → length (case_rows (Sup goals)) ≡ length goals
mapped-length [] = refl
mapped-length (g ∷ goals) = let e : length (case_rows (Sup goals)) ≡ length goals = mapped-length goals in omega (arith, e)

-- ---- bounds, one after another

pub bound_scale : (budget : ℕ) (goal : Goal) (cert : Cert) (point : List Fraction) → IsSupremumOf goal budget (supremum.Bound cert point) → IsCertified goal cert
bound_scale budget goal cert point h = certified goal h.1.0 h.0 cert h.1.1.0 h.1.1.1

pub no_bounds : (budget : ℕ) (goals : List Goal) (bounds : Bounds) → bounds.certs ≡ [] → bounds.reach ≡ None → AreBoundsTo budget goals 0 bounds
no_bounds budget goals bounds e f = record {
  each = ap length e;
  are = λ l goal cert g h. absurd (nothing l cert (subst (λ (cs : List Cert). slice_get cs l ≡ Some cert) e h));
  reach = subst (λ r. ReachAt budget goals bounds.certs r) (sym f) e;
}
  where
    none : List Cert
    none = []

    nothing : (l : ℕ) (cert : Cert) → slice_get none l ≡ Some cert → ⊥
    nothing l cert h = cc

pub more_bounds : (budget : ℕ) (goals : List Goal) (place : ℕ) (bounds : Bounds) (goal : Goal) (cert : Cert) (point : List Fraction) → AreBoundsTo budget goals place bounds → slice_get goals place ≡ Some goal → IsSupremumOf goal budget (supremum.Bound cert point) → AreBoundsTo budget goals (place + 1) (with_bound bounds place cert point)
more_bounds budget goals place bounds goal cert point b is bound = record {
  each = long bounds.certs (cert ∷ []) ∙ ap (λ (n : ℕ). n + 1) b.each;
  are = λ l g c e f. ⊎_elim (λ (h : slice_get bounds.certs l ≡ Some c). b.are l g c e h) (λ last. (point, at_last l g c e last.0 last.1)) (one_more bounds.certs cert c l f);
  reach = reached bounds.reach b.reach;
}
  where
    at_last : (l : ℕ) (g : Goal) (c : Cert) → slice_get goals l ≡ Some g → l ≡ length bounds.certs → cert ≡ c → IsSupremumOf g budget (supremum.Bound c point)
    at_last l g c e p q =
        let same : goal ≡ g = some_same (sym is ∙ ap (slice_get goals) (sym (p ∙ b.each)) ∙ e) in
        subst (λ (x : Goal). IsSupremumOf x budget (supremum.Bound c point)) same (subst (λ (x : Cert). IsSupremumOf goal budget (supremum.Bound x point)) q bound)
      where
        some_same : {x y : Goal} → Some x ≡ Some y → x ≡ y
        some_same e = cc

    itself : (z : ℤ) → z ≤ℤ z
    itself z = omega (arith, ints)

    weak : (x y : ℤ) → x ≤ℤ y → (z : ℤ) → y <ℤ z → x ≤ℤ z
    weak x y h z k = omega (arith, ints, h, k)

    all_certs : List Cert
    all_certs = bounds.certs ++ cert ∷ []

    new_reach : ((l : ℕ) (other : Cert) → slice_get bounds.certs l ≡ Some other → whole_bound other ≤ℤ whole_bound cert) → IsReachOf budget goals (bounds.certs ++ cert ∷ []) (whole_bound cert) place point
    new_reach below = record {
      goal = goal;
      is = is;
      cert = cert;
      has = subst (λ (n : ℕ). slice_get all_certs n ≡ Some cert) b.each (at_end bounds.certs cert);
      bound = bound;
      here = refl;
      greatest = λ l other e. ⊎_elim (λ (h : slice_get bounds.certs l ≡ Some other). below l other h) (λ last. subst (λ (x : Cert). whole_bound x ≤ℤ whole_bound cert) last.1 (itself (whole_bound cert))) (one_more bounds.certs cert other l e);
    }

    old_reach : (r : Reach) → IsReachOf budget goals bounds.certs r.at r.case r.point → (whole_bound cert ≤ℤ r.at) → IsReachOf budget goals (bounds.certs ++ cert ∷ []) r.at r.case r.point
    old_reach r h below = record {
      goal = h.goal;
      is = h.is;
      cert = h.cert;
      has = at_front bounds.certs cert h.cert r.case h.has;
      bound = h.bound;
      here = h.here;
      greatest = λ l other e. ⊎_elim (λ (g : slice_get bounds.certs l ≡ Some other). h.greatest l other g) (λ last. subst (λ (x : Cert). whole_bound x ≤ℤ r.at) last.1 below) (one_more bounds.certs cert other l e);
    }

    next : Reach
    next = record { at = whole_bound cert; case = place; point = point }

    empty_below : bounds.certs ≡ [] → (l : ℕ) (other : Cert) → slice_get bounds.certs l ≡ Some other → whole_bound other ≤ℤ whole_bound cert
    empty_below e l other h = absurd (nothing (subst (λ (cs : List Cert). slice_get cs l ≡ Some other) e h))
      where
        none : List Cert
        none = []

        nothing : slice_get none l ≡ Some other → ⊥
        nothing h = cc

    reached : (old : Option Reach) → ReachAt budget goals bounds.certs old → ReachAt budget goals (bounds.certs ++ cert ∷ []) (Some (higher old next))
    reached None h = new_reach (empty_below h)
    reached (Some r) h = by_order (int_lt r.at (whole_bound cert)) refl
      where
        chosen : Bool → Reach
        chosen q = cond q next r

        by_order : (q : Bool) → int_lt r.at (whole_bound cert) ≡ q → ReachAt budget goals (bounds.certs ++ cert ∷ []) (Some (chosen (int_lt r.at (whole_bound cert))))
        by_order true e = subst (λ (q : Bool). ReachAt budget goals (bounds.certs ++ cert ∷ []) (Some (chosen q))) (sym e) (new_reach (λ l other g. weak (whole_bound other) r.at (h.greatest l other g) (whole_bound cert) (omega (arith, ints, e))))
        by_order false e = subst (λ (q : Bool). ReachAt budget goals (bounds.certs ++ cert ∷ []) (Some (chosen q))) (sym e) (old_reach r h (omega (arith, ints, e)))

pub bounds_found : (budget : ℕ) (goals : List Goal) (bounds : Bounds) → AreBoundsTo budget goals (length goals) bounds → IsFoundAmong budget goals (bound_answer bounds)
bounds_found budget goals bounds b = of_reach bounds.reach b.reach
  where
    made : Option Reach → Answer
    made None = answer.Limit limit.Pivots
    made (Some r) = answer.Bound r.at bounds.certs r.case r.point

    no_goals : (goals : List Goal) → 0 ≡ length goals → goals ≡ []
    no_goals [] e = refl
    no_goals (g ∷ goals) e = absurd (omega (arith, e))

    of_reach : (r : Option Reach) → ReachAt budget goals bounds.certs r → IsFoundAmong budget goals (bound_answer (record { certs = bounds.certs; reach = r }))
    of_reach None h = (refl, inl (no_goals goals (sym (ap length h) ∙ b.each)))
    of_reach (Some r) h = (b.each, b.are, h)

-- ---- what the case at a place adds

pub empty_found : (budget : ℕ) (goals : List Goal) (place : ℕ) (found : Supremum) → IsSupremumAt budget goals place found → found ≡ supremum.Empty → IsFoundAmong budget goals (answer.Limit limit.Pivots)
empty_found budget goals place found h e = (refl, inr (record { place = place; goal = h.goal; is = h.is; why = inl (subst (λ (x : Supremum). IsSupremumOf h.goal budget x) e h.supremum) }))

pub pivots_found : (budget : ℕ) (goals : List Goal) (place : ℕ) (found : Supremum) → IsSupremumAt budget goals place found → found ≡ supremum.Pivots → IsFoundAmong budget goals (answer.Limit limit.Pivots)
pivots_found budget goals place found h e = (refl, inr (record { place = place; goal = h.goal; is = h.is; why = inr (subst (λ (x : Supremum). IsSupremumOf h.goal budget x) e h.supremum) }))

pub ray_found : (budget : ℕ) (goals : List Goal) (place case : ℕ) (found : Supremum) (point ray : List Fraction) → IsSupremumAt budget goals place found → found ≡ supremum.Unbounded point ray → case ≡ place → IsFoundAmong budget goals (answer.Unbounded case point ray)
ray_found budget goals place case found point ray h e same = (h.goal, (ap (slice_get goals) same ∙ h.is, subst (λ (x : Supremum). IsSupremumOf h.goal budget x) e h.supremum))

pub scale_above : (budget : ℕ) (goals : List Goal) (place : ℕ) (found : Supremum) (cert : Cert) (point : List Fraction) → IsSupremumAt budget goals place found → found ≡ supremum.Bound cert point → pos 0 <ℤ cert.scale
scale_above budget goals place found cert point h e = (bound_scale budget h.goal cert point (subst (λ (x : Supremum). IsSupremumOf h.goal budget x) e h.supremum)).scale

pub bound_added : (budget : ℕ) (goals : List Goal) (place case : ℕ) (bounds more : Bounds) (found : Supremum) (cert : Cert) (point : List Fraction) → AreBoundsTo budget goals place bounds → IsSupremumAt budget goals place found → found ≡ supremum.Bound cert point → case ≡ place → more ≡ with_bound bounds case cert point → AreBoundsTo budget goals (place + 1) more
bound_added budget goals place case bounds more found cert point b h e same made =
    subst (λ (x : Bounds). AreBoundsTo budget goals (place + 1) x) (sym (made ∙ ap (λ (n : ℕ). with_bound bounds n cert point) same)) (more_bounds budget goals place bounds h.goal cert point b h.is (subst (λ (x : Supremum). IsSupremumOf h.goal budget x) e h.supremum))

-- ---- no part of the test is false

both_honest : (part others : Result Bool Step.Wide) (b : Bool) → ((p : Bool) → part ≡ Ok p → p ≡ true) → ((p : Bool) → others ≡ Ok p → p ≡ true) → and_then part others ≡ Ok b → b ≡ true
both_honest (Ok true) others b p q e = q b e
both_honest (Ok false) others b p q e = absurd (let f : false ≡ true = p false refl in false≢true f)
both_honest (Err w) others b p q e = cc

certs_honest : (at : ℤ) (goals : List Goal) (certs : List Cert) (b : Bool) → ((l : ℕ) (goal : Goal) (cert : Cert) → slice_get goals l ≡ Some goal → slice_get certs l ≡ Some cert → (p : Bool) → tested_cert at goal cert ≡ Ok p → p ≡ true) → tested_certs at goals certs ≡ Ok b → b ≡ true
certs_honest at [] certs b h e = cc
certs_honest at (goal ∷ goals) [] b h e = cc
certs_honest at (goal ∷ goals) (cert ∷ certs) b h e =
    both_honest (tested_cert at goal cert) (tested_certs at goals certs) b (λ p f. h 0 goal cert refl refl p f) (λ p f. certs_honest at goals certs p (λ l g c i j. h (suc l) g c i j) f) e

in_case : (P : Result Bool Step.Wide → Type 0) (goals : List Goal) (case : ℕ) (goal : Goal) (part : Goal → Result Bool Step.Wide) → slice_get goals case ≡ Some goal → P (part goal) → P (of_case goals case part)
in_case P [] case goal part e h = cc
in_case P (g ∷ goals) zero goal part e h = let same : g ≡ goal = cc in subst (λ (x : Goal). P (part x)) (sym same) h
in_case P (g ∷ goals) (suc case) goal part e h = in_case P goals case goal part e h

abbrev IsHonestPart : Result Bool Step.Wide → Type 0
IsHonestPart part = (p : Bool) → part ≡ Ok p → p ≡ true

pub goals_honest : (goals : List Goal) (budget : ℕ) (a : Answer) (b : Bool) → All IsCanonicalGoal goals → IsFoundAmong budget goals a → outcome (Sup goals) a ≡ Ok b → b ≡ true
goals_honest goals budget (answer.Yes by) b k h e = absurd h
goals_honest goals budget (answer.No point) b k h e = absurd h
goals_honest goals budget (answer.Basis relations spots free) b k h e = absurd h
goals_honest goals budget (answer.Limit limit.Pivots) b k h e = cc
goals_honest goals budget (answer.Limit (limit.Wide left right times)) b k h e = absurd (not_pivots h.0)
  where
    not_pivots : limit.Wide left right times ≡ limit.Pivots → ⊥
    not_pivots f = cc
goals_honest goals budget (answer.Unbounded case point ray) b k h e =
    in_case IsHonestPart goals case h.0 (λ goal. and_then (tested_point goal point) (tested_ray goal ray)) h.1.0
    (λ p f. both_honest (tested_point h.0 point) (tested_ray h.0 ray) p
    (λ q g. goal_point_honest h.0 h.1.1.1.0 h.1.1.0 point q canonical h.1.1.1.1.1.1.0.met h.1.1.1.1.1.1.1 g)
    (λ q g. ray_honest h.0 h.1.1.1.0 h.1.1.0 h.1.1.1.1.0 h.1.1.1.1.1.0 ray q canonical h.1.1.1.1.1.1.0 h.1.1.1.1.1.1.2 g) f) b e
  where
    canonical : IsCanonicalGoal h.0
    canonical = at_place IsCanonicalGoal goals case h.0 (recursion_from_All IsCanonicalGoal goals k) h.1.0
goals_honest goals budget (answer.Bound at certs case point) b k h e =
    both_honest (bool_ok (length certs == length goals)) (and_then (tested_certs at goals certs) (of_case goals case (λ goal. tested_reached at goal point))) b
    (λ p f. let same : (length certs == length goals) ≡ p = cc in sym same ∙ eq-eqb (length certs) (length goals) h.0)
    (λ p f. both_honest (tested_certs at goals certs) (of_case goals case (λ goal. tested_reached at goal point)) p
    (λ q g. certs_honest at goals certs q (λ l goal cert i j s u. cert-honest goal cert at s (bound_scale budget goal cert (h.1 l goal cert i j).0 (h.1 l goal cert i j).1) (h.2.greatest l cert j) u) g)
    (λ q g. in_case IsHonestPart goals case h.2.goal (λ goal. tested_reached at goal point) h.2.is
    (λ s u. reached_honest h.2.goal h.2.bound.1.0 h.2.bound.0 point h.2.cert at s canonical h.2.bound.1.1.0.met h.2.bound.1.1.2
    (certificate-is (length (goal_columns h.2.goal)) (length h.2.goal.rows) (get_line h.2.bound.0) h.2.cert h.2.bound.1.1.1) below u) q g) f) e
  where
    get_line : Tableau → List ℤ
    get_line t = get_or t.lines (length h.2.goal.rows) []

    canonical : IsCanonicalGoal h.2.goal
    canonical = at_place IsCanonicalGoal goals case h.2.goal (recursion_from_All IsCanonicalGoal goals k) h.2.is

    below : (at *ℤ h.2.cert.scale) ≤ℤ h.2.cert.sum
    below = subst (λ (z : ℤ). (z *ℤ h.2.cert.scale) ≤ℤ h.2.cert.sum) (sym h.2.here) (certificate-floor h.2.cert (bound_scale budget h.2.goal h.2.cert point h.2.bound).scale).below

-- ---- widths

both_calm : (part others : Result Bool Step.Wide) (w : Step.Wide) → (part ≡ Err w → ⊥) → (others ≡ Err w → ⊥) → and_then part others ≡ Err w → ⊥
both_calm (Ok true) others w p q e = q e
both_calm (Ok false) others w p q e = cc
both_calm (Err v) others w p q e = p e

pub certs_calm : (at : ℤ) (goals : List Goal) (certs : List Cert) (w : Step.Wide) → ((l : ℕ) (goal : Goal) (cert : Cert) → slice_get goals l ≡ Some goal → slice_get certs l ≡ Some cert → tested_cert at goal cert ≡ Err w → ⊥) → tested_certs at goals certs ≡ Err w → ⊥
certs_calm at [] certs w h e = cc
certs_calm at (goal ∷ goals) [] w h e = cc
certs_calm at (goal ∷ goals) (cert ∷ certs) w h e =
    both_calm (tested_cert at goal cert) (tested_certs at goals certs) w (λ f. h 0 goal cert refl refl f) (λ f. certs_calm at goals certs w (λ l g c i j. h (suc l) g c i j) f) e

abbrev NeverLeaves : Step.Wide → Result Bool Step.Wide → Type 0
NeverLeaves w part = part ≡ Err w → ⊥

bound_small : (budget : ℕ) (goal : Goal) (cert : Cert) (point : List Fraction) → IsCalmGoal goal → IsSupremumOf goal budget (supremum.Bound cert point) → IsSmallCert 1099511627776 cert
bound_small budget goal cert point c h =
    cert_small 1099511627776 (length (goal_columns goal)) (length goal.rows) h.0 cert
    (goal_small goal c h.0 many h.1.1.0.met.placed.marked.sized.tableau h.1.1.0.met.placed.marked.sized.primitive)
    (certificate-is (length (goal_columns goal)) (length goal.rows) (get_or h.0.lines (length goal.rows) []) cert h.1.1.1)
    (bound_scale budget goal cert point h).each
  where
    many : length h.0.lines ≡ length goal.rows + 1
    many = sym h.1.1.0.met.placed.marked.sized.many ∙ kinds-length (with_goal goal.rows goal.objective) ∙ more_rows goal.rows goal.objective

pub goals_calm : (goals : List Goal) (budget : ℕ) (a : Answer) (w : Step.Wide) → All IsCanonicalGoal goals → IsCalm (Sup goals) → IsFoundAmong budget goals a → outcome (Sup goals) a ≡ Err w → ⊥
goals_calm goals budget (answer.Yes by) w k c h e = h
goals_calm goals budget (answer.No point) w k c h e = h
goals_calm goals budget (answer.Basis relations spots free) w k c h e = h
goals_calm goals budget (answer.Limit l) w k c h e = cc
goals_calm goals budget (answer.Unbounded case point ray) w k c h e =
    in_case (NeverLeaves w) goals case h.0 (λ goal. and_then (tested_point goal point) (tested_ray goal ray)) h.1.0
    (λ f. both_calm (tested_point h.0 point) (tested_ray h.0 ray) w
    (λ g. point-calm h.0 h.1.1.1.0 h.1.1.0 point w canonical calm h.1.1.1.1.1.1.0.met h.1.1.1.1.1.1.1 g)
    (λ g. ray-calm h.0 h.1.1.1.0 h.1.1.0 h.1.1.1.1.0 h.1.1.1.1.1.0 ray w canonical calm h.1.1.1.1.1.1.0 h.1.1.1.1.1.1.2 g) f) e
  where
    canonical : IsCanonicalGoal h.0
    canonical = at_place IsCanonicalGoal goals case h.0 (recursion_from_All IsCanonicalGoal goals k) h.1.0

    calm : IsCalmGoal h.0
    calm = at_place IsCalmGoal goals case h.0 c.cases h.1.0
goals_calm goals budget (answer.Bound at certs case point) w k c h e =
    both_calm (bool_ok (length certs == length goals)) (and_then (tested_certs at goals certs) (of_case goals case (λ goal. tested_reached at goal point))) w (λ f. cc)
    (λ f. both_calm (tested_certs at goals certs) (of_case goals case (λ goal. tested_reached at goal point)) w
    (λ g. certs_calm at goals certs w (λ l goal cert i j u. cert-calm goal cert at w (at_place IsCalmGoal goals l goal c.cases i) (bound_small budget goal cert (h.1 l goal cert i j).0 (at_place IsCalmGoal goals l goal c.cases i) (h.1 l goal cert i j).1) at_small u) g)
    (λ g. in_case (NeverLeaves w) goals case h.2.goal (λ goal. tested_reached at goal point) h.2.is
    (λ u. reached-calm h.2.goal h.2.bound.1.0 h.2.bound.0 point at w canonical calm h.2.bound.1.1.0.met h.2.bound.1.1.2 at_small u) g) f) e
  where
    canonical : IsCanonicalGoal h.2.goal
    canonical = at_place IsCanonicalGoal goals case h.2.goal (recursion_from_All IsCanonicalGoal goals k) h.2.is

    calm : IsCalmGoal h.2.goal
    calm = at_place IsCalmGoal goals case h.2.goal c.cases h.2.is

    at_small : unsigned_abs at ≤ 1099511627776
    at_small =
        let small : unsigned_abs h.2.cert.sum ≤ 1099511627776 = (bound_small budget h.2.goal h.2.cert point calm h.2.bound).sum in
        let less : unsigned_abs (whole_bound h.2.cert) ≤ unsigned_abs h.2.cert.sum = floor-small h.2.cert.sum h.2.cert.scale (bound_scale budget h.2.goal h.2.cert point h.2.bound).scale in
        let here : unsigned_abs at ≡ unsigned_abs (whole_bound h.2.cert) = ap unsigned_abs h.2.here in omega (arith, small, less, here)

-- ---- stops

pub refusal_among : {X : Type 0} (goals : List Goal) (place : ℕ) (goal : Goal) (r : Result X SearchStop) → slice_get goals place ≡ Some goal → IfErr r (IsRefusalIn (own_frame goal.rows goal.objective) (length goal.rows + 1)) → IfErr r (IsRefusalAmong goals)
refusal_among goals place goal (Ok x) is h = tt
refusal_among goals place goal (Err (Wide step)) is h = (h.leaves, λ c. h.great 1099511627776 fits_twice (small_goal 1099511627776 goal (goal_small goal (at_place IsCalmGoal goals place goal c.cases is))), goals_search place goal is h.is)
refusal_among goals place goal (Err Memory) is h = tt

pub supremum_at : (budget : ℕ) (goals : List Goal) (place : ℕ) (goal : Goal) (r : Result Supremum SearchStop) → slice_get goals place ≡ Some goal → IfOk r (λ found. IsSupremumOf goal budget found) → IfOk r (λ found. IsSupremumAt budget goals place found)
supremum_at budget goals place goal (Ok found) is h = record { goal = goal; is = is; supremum = h }
supremum_at budget goals place goal (Err stop) is h = tt

too_many_cases : (goals : List Goal) (place : ℕ) → place < length goals → 4294967296 ≤ place → IsCalm (Sup goals) → ⊥
too_many_cases goals place here far c = let f : length (case_rows (Sup goals)) ≤ 4294967296 = c.few_cases in let e : length (case_rows (Sup goals)) ≡ length goals = mapped-length goals in omega (arith, f, e, here, far)

far_at : (goals : List Goal) (place : ℕ) (step : Step.Wide) → place < length goals → LeavesBits step × (2 ^ 32 ≤ place) × (step ≡ far_step) → IsRefusalAmong goals (Wide step)
far_at goals place step here h = let far : 4294967296 ≤ place = h.1 in (h.0, λ c. too_many_cases goals place here far c, goals_number (omega (arith, far, here)) h.2)

pub far_among : {X : Type 0} (goals : List Goal) (place : ℕ) (r : Result X Step.Wide) → place < length goals → IfErr r (λ step. LeavesBits step × (2 ^ 32 ≤ place) × (step ≡ far_step)) → IfErr r (λ step. IsRefusalAmong goals (Wide step))
far_among goals place (Ok x) here h = tt
far_among goals place (Err step) here h = far_at goals place step here h

-- the answer on a live and calm question
live_answer : (goals : List Goal) (a : Answer) → PivotsAmong (2 ^ 127 - 1) goals a → (IsCalm (Sup goals) → IsWide a → ⊥) → IsLiveAndCalm (Sup goals) → IsLimit a → ⊥
live_answer goals (answer.Yes by) p wide live is = is
live_answer goals (answer.No point) p wide live is = is
live_answer goals (answer.Bound at certs case point) p wide live is = is
live_answer goals (answer.Unbounded case point ray) p wide live is = is
live_answer goals (answer.Basis relations spots free) p wide live is = is
live_answer goals (answer.Limit (limit.Wide left right times)) p wide live is = wide live.calm tt
live_answer goals (answer.Limit limit.Pivots) p wide live is = ⊎_elim (λ (dead : IsDead (Sup goals)). live.live dead) (λ (many : HasManyChoices (2 ^ 127 - 1) goals). too_many many) (p refl)
  where
    few_at : (gs : List Goal) (l : ℕ) (goal : Goal) → AllByRecursion (λ n. n ≤ 170141183460469231731687303715884105727) (map (λ (x : Goal). choice_count (length (goal_columns x)) (length x.rows + 1)) gs) → slice_get gs l ≡ Some goal → choice_count (length (goal_columns goal)) (length goal.rows + 1) ≤ 170141183460469231731687303715884105727
    few_at [] l goal f e = cc
    few_at (x ∷ gs) zero goal f e = let same : x ≡ goal = cc in subst (λ (y : Goal). choice_count (length (goal_columns y)) (length y.rows + 1) ≤ 170141183460469231731687303715884105727) same f.0
    few_at (x ∷ gs) (suc l) goal f e = few_at gs l goal f.1 e

    too_many : HasManyChoices (2 ^ 127 - 1) goals → ⊥
    too_many m = let few : choice_count (length (goal_columns m.goal)) (length m.goal.rows + 1) ≤ 170141183460469231731687303715884105727 = few_at goals m.place m.goal live.few m.is in let many : (2 ^ 127 - 1) < choice_count (length (goal_columns m.goal)) (length m.goal.rows + 1) = m.many in omega (arith, few, many)

-- ---- answers

limit_passes : (goals : List Goal) (step : Step.Wide) → All IsCanonicalGoal goals → LeavesBits step → Passes (Sup goals) (answer.Limit (limit.Wide step.left step.right step.times))
limit_passes goals step k leaves = record { canonical = k; positive = tt; passed = ap (λ (b : Bool). bool_ok b) (limit_of step leaves) }

no_pivots : (goals : List Goal) (step : Step.Wide) → PivotsAmong (2 ^ 127 - 1) goals (answer.Limit (limit.Wide step.left step.right step.times))
no_pivots goals step e = cc

pub wide_answer : (goals : List Goal) (step : Step.Wide) → All IsCanonicalGoal goals → LeavesBits step → (IsCalm (Sup goals) → ⊥) → IsGoalsStep goals step → IsGoalsAnswer goals (answer.Limit (limit.Wide step.left step.right step.times))
wide_answer goals step k leaves wild is = record { passes = limit_passes goals step k leaves; pivots = no_pivots goals step; wide = λ c w. wild c; calm = λ live l. wild live.calm; step = is }

pub untested_answer : (goals : List Goal) (a : Answer) (step : Step.Wide) → All IsCanonicalGoal goals → IsFoundAmong (2 ^ 127 - 1) goals a → outcome (Sup goals) a ≡ Err step → IsGoalsAnswer goals (answer.Limit (limit.Wide step.left step.right step.times))
untested_answer goals a step k h e = wide_answer goals step k (goals-leaves goals a step e) (λ c. goals_calm goals (2 ^ 127 - 1) a step k c h e) (goals_test a h e)

no_bound : (budget : ℕ) (goals : List Goal) → All IsCanonicalGoal goals → HasNoBound budget goals → IsDead (Sup goals) ⊎ HasManyChoices budget goals
no_bound budget goals k h = ⊎_elim
    (λ (empty : IsSupremumOf h.goal budget supremum.Empty). inl (inr (record { place = h.place; rows = h.goal.rows; is = mapped_place goals h.place h.goal h.is; empty = no_point_of h.goal empty.0 empty.1.0 (at_place IsCanonicalGoal goals h.place h.goal (recursion_from_All IsCanonicalGoal goals k) h.is) empty.1.1 })))
    (λ (many : IsSupremumOf h.goal budget supremum.Pivots). inr (record { place = h.place; goal = h.goal; is = h.is; many = counted many })) h.why
  where
    counted : budget < choose (length (goal_columns h.goal) + 1 + length (kinds_of (with_goal h.goal.rows h.goal.objective))) (length (kinds_of (with_goal h.goal.rows h.goal.objective))) → budget < choice_count (length (goal_columns h.goal)) (length h.goal.rows + 1)
    counted many = subst (λ (n : ℕ). budget < choose (length (goal_columns h.goal) + 1 + n) n) (kinds-length (with_goal h.goal.rows h.goal.objective) ∙ more_rows h.goal.rows h.goal.objective) many

pub found_goals : (goals : List Goal) (a : Answer) (b : Bool) → All IsCanonicalGoal goals → HasPositive a → IsFoundAmong (2 ^ 127 - 1) goals a → outcome (Sup goals) a ≡ Ok b → IsGoalsAnswer goals a
found_goals goals a b k p h e = record {
  passes = record { canonical = k; positive = p; passed = e ∙ ap (λ (x : Bool). bool_ok x) (goals_honest goals (2 ^ 127 - 1) a b k h e) };
  pivots = pivots_of a h;
  wide = λ c is. not_wide a h is;
  calm = λ live is. live_answer goals a (pivots_of a h) (λ c x. not_wide a h x) live is;
  step = names_none (IsGoalsStep goals) a (λ is. not_wide a h is);
}
  where
    pivots_of : (a : Answer) → IsFoundAmong (2 ^ 127 - 1) goals a → PivotsAmong (2 ^ 127 - 1) goals a
    pivots_of (answer.Yes by) h e = cc
    pivots_of (answer.No point) h e = cc
    pivots_of (answer.Bound at certs case point) h e = cc
    pivots_of (answer.Unbounded case point ray) h e = cc
    pivots_of (answer.Basis relations spots free) h e = cc
    pivots_of (answer.Limit l) h e = ⊎_elim (λ (none : goals ≡ []). inl (inl none)) (λ (no_one : HasNoBound (2 ^ 127 - 1) goals). no_bound (2 ^ 127 - 1) goals k no_one) h.1

    not_wide : (a : Answer) → IsFoundAmong (2 ^ 127 - 1) goals a → IsWide a → ⊥
    not_wide (answer.Yes by) h is = is
    not_wide (answer.No point) h is = is
    not_wide (answer.Bound at certs case point) h is = is
    not_wide (answer.Unbounded case point ray) h is = is
    not_wide (answer.Basis relations spots free) h is = is
    not_wide (answer.Limit limit.Pivots) h is = is
    not_wide (answer.Limit (limit.Wide left right times)) h is = other h.0
      where
        other : limit.Wide left right times ≡ limit.Pivots → ⊥
        other f = cc

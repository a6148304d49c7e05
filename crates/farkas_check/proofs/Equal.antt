-- The test of equality of answers decides it.
use Rattle.std.proofs.Common.{◌≡◌, Bool, false, ℤ, List, [], refl, sym, ◌∙◌, ap, true≢false}
use Rattle.std.specs.Prelude.{◌==◌, ℕ, pos}
use Rattle.std.specs.Ordering.{int_eq}
use Rattle.std.specs.Cmp.{booleans_Decides}
use Rattle.std.specs.Bool.{Decides}
use Rattle.std.specs.Cmp.Lexicographic.{pointwise}
use Rattle.std.proofs.lemmas.Bool.Decides.{Decides-int_eq, Decides-eqb, Decides-and, Decides-like}
use Rattle.std.proofs.lemmas.Slice.Eq.{slice_eq-Decides}
use Rattle.farkas_check.specs.declared.answer.Answer.{Answer}
use Rattle.farkas_check.specs.declared.answer.Answer.TheVariants.{Yes, No, Bound, Unbounded, Basis, Limit}
use Rattle.farkas_check.specs.declared.answer.Cert.{Cert}
use Rattle.farkas_check.specs.declared.answer.Limit.{Limit as Bounded}
use Rattle.farkas_check.specs.declared.answer.Limit.TheVariants.{Wide, Pivots}
use Rattle.farkas_check.specs.declared.stratum.Tie.{Tie}
use Rattle.farkas_check.specs.declared.stratum.Relation.{Relation}
use Rattle.farkas_check.specs.declared.stratum.Spot.{Spot}
use Rattle.farkas_check.specs.Ratios.{Fraction, ratio_eq}
use Rattle.farkas_check.specs.contracts.answer.AnswerPartialEq.TheImpl as answers
use Rattle.farkas_check.specs.contracts.answer.CertPartialEq.TheImpl as certs
use Rattle.farkas_check.specs.contracts.answer.LimitPartialEq.TheImpl as limits
use Rattle.farkas_check.specs.contracts.stratum.TiePartialEq.TheImpl as ties
use Rattle.farkas_check.specs.contracts.stratum.RelationPartialEq.TheImpl as relations
use Rattle.farkas_check.specs.contracts.stratum.SpotPartialEq.TheImpl as spots

lists_decide : {A : Type 0} {eq : A → A → Bool} → ((x y : A) → Decides (eq x y) (x ≡ y)) → (xs ys : List A) → Decides (pointwise eq xs ys) (xs ≡ ys)
lists_decide {A} {eq} decides xs ys = slice_eq-Decides decides xs ys (pointwise eq xs ys) refl

numbers_decide : (xs ys : List ℤ) → Decides (pointwise int_eq xs ys) (xs ≡ ys)
numbers_decide = lists_decide Decides-int_eq

ratio_decides : (a b : Fraction) → Decides (ratio_eq a b) (a ≡ b)
ratio_decides a b =
    Decides-like (ratio_eq a b) (λ h i. record { num = h.0 i; den = h.1 i }) (λ e. (λ i. (e i).num, λ i. (e i).den))
    (Decides-and (int_eq a.num b.num) (int_eq a.den b.den) (Decides-int_eq a.num b.num) (Decides-int_eq a.den b.den))

points_decide : (a b : List Fraction) → Decides (pointwise ratio_eq a b) (a ≡ b)
points_decide = lists_decide ratio_decides

cert_decides : (a b : Cert) → Decides (certs.eq-value.it a b) (a ≡ b)
cert_decides a b =
    Decides-like (certs.eq-value.it a b) (λ h i. record { scale = h.0 i; sum = h.1.0 i; by = h.1.1 i })
    (λ e. (λ i. (e i).scale, (λ i. (e i).sum, λ i. (e i).by)))
    (Decides-and _ _ (Decides-int_eq a.scale b.scale) (Decides-and _ _ (Decides-int_eq a.sum b.sum) (numbers_decide a.by b.by)))

tie_decides : (a b : Tie) → Decides (ties.eq-value.it a b) (a ≡ b)
tie_decides a b =
    Decides-like (ties.eq-value.it a b) (λ h i. record { up_scale = h.0 i; up = h.1.0 i; down_scale = h.1.1.0 i; down = h.1.1.1 i })
    (λ e. (λ i. (e i).up_scale, (λ i. (e i).up, (λ i. (e i).down_scale, λ i. (e i).down))))
    (Decides-and _ _ (Decides-int_eq a.up_scale b.up_scale) (Decides-and _ _ (numbers_decide a.up b.up)
    (Decides-and _ _ (Decides-int_eq a.down_scale b.down_scale) (numbers_decide a.down b.down))))

relation_decides : (a b : Relation) → Decides (relations.eq-value.it a b) (a ≡ b)
relation_decides a b =
    Decides-like (relations.eq-value.it a b) (λ h i. record { a = h.0 i; b = h.1.0 i; c = h.1.1.0 i; ties = h.1.1.1 i })
    (λ e. (λ i. (e i).a, (λ i. (e i).b, (λ i. (e i).c, λ i. (e i).ties))))
    (Decides-and _ _ (numbers_decide a.a b.a) (Decides-and _ _ (numbers_decide a.b b.b)
    (Decides-and _ _ (Decides-int_eq a.c b.c) (lists_decide tie_decides a.ties b.ties))))

spot_decides : (a b : Spot) → Decides (spots.eq-value.it a b) (a ≡ b)
spot_decides a b =
    Decides-like (spots.eq-value.it a b) (λ h i. record { case = h.0 i; at = h.1 i }) (λ e. (λ i. (e i).case, λ i. (e i).at))
    (Decides-and _ _ (Decides-eqb a.case b.case) (points_decide a.at b.at))

-- ---- enums

-- a test that fails decides two values that a number tells apart
apart : {A : Type 0} (kind : A → ℕ) (a b : A) → (kind a == kind b) ≡ false → Decides false (a ≡ b)
apart kind a b differ = (
  λ t. absurd (true≢false (sym t)),
  λ e. absurd (true≢false (sym ((Decides-eqb (kind a) (kind b)).1 (ap kind e)) ∙ differ)),
)

abbrev limit_kind : Bounded → ℕ
limit_kind (Wide left right times) = 0
limit_kind Pivots = 1

abbrev left_of : Bounded → ℤ
left_of (Wide left right times) = left
left_of Pivots = pos 0

abbrev right_of : Bounded → ℤ
right_of (Wide left right times) = right
right_of Pivots = pos 0

abbrev times_of : Bounded → Bool
times_of (Wide left right times) = times
times_of Pivots = false

limit_decides : (a b : Bounded) → Decides (limits.eq-value.it a b) (a ≡ b)
limit_decides (Wide l r t) (Wide m s u) =
    Decides-like (limits.eq-value.it (Wide l r t) (Wide m s u)) (λ h i. Wide (h.0 i) (h.1.0 i) (h.1.1 i))
    (λ e. (ap left_of e, (ap right_of e, ap times_of e)))
    (Decides-and _ _ (Decides-int_eq l m) (Decides-and _ _ (Decides-int_eq r s) (booleans_Decides t u)))
limit_decides (Wide l r t) Pivots = apart limit_kind _ _ refl
limit_decides Pivots (Wide m s u) = apart limit_kind _ _ refl
limit_decides Pivots Pivots = (λ t. refl, λ e. refl)

abbrev answer_kind : Answer → ℕ
answer_kind (Yes by) = 0
answer_kind (No point) = 1
answer_kind (Bound at certs case point) = 2
answer_kind (Unbounded case point ray) = 3
answer_kind (Basis relations spots free) = 4
answer_kind (Limit limit) = 5

abbrev the_by : Answer → List ℤ
the_by (Yes by) = by
the_by (No point) = []
the_by (Bound at certs case point) = []
the_by (Unbounded case point ray) = []
the_by (Basis relations spots free) = []
the_by (Limit limit) = []

abbrev the_point : Answer → List Fraction
the_point (Yes by) = []
the_point (No point) = point
the_point (Bound at certs case point) = point
the_point (Unbounded case point ray) = point
the_point (Basis relations spots free) = []
the_point (Limit limit) = []

abbrev the_ray : Answer → List Fraction
the_ray (Yes by) = []
the_ray (No point) = []
the_ray (Bound at certs case point) = []
the_ray (Unbounded case point ray) = ray
the_ray (Basis relations spots free) = []
the_ray (Limit limit) = []

abbrev the_at : Answer → ℤ
the_at (Yes by) = pos 0
the_at (No point) = pos 0
the_at (Bound at certs case point) = at
the_at (Unbounded case point ray) = pos 0
the_at (Basis relations spots free) = pos 0
the_at (Limit limit) = pos 0

abbrev the_case : Answer → ℕ
the_case (Yes by) = 0
the_case (No point) = 0
the_case (Bound at certs case point) = case
the_case (Unbounded case point ray) = case
the_case (Basis relations spots free) = 0
the_case (Limit limit) = 0

abbrev the_certs : Answer → List Cert
the_certs (Yes by) = []
the_certs (No point) = []
the_certs (Bound at certs case point) = certs
the_certs (Unbounded case point ray) = []
the_certs (Basis relations spots free) = []
the_certs (Limit limit) = []

abbrev the_relations : Answer → List Relation
the_relations (Yes by) = []
the_relations (No point) = []
the_relations (Bound at certs case point) = []
the_relations (Unbounded case point ray) = []
the_relations (Basis relations spots free) = relations
the_relations (Limit limit) = []

abbrev the_spots : Answer → List Spot
the_spots (Yes by) = []
the_spots (No point) = []
the_spots (Bound at certs case point) = []
the_spots (Unbounded case point ray) = []
the_spots (Basis relations spots free) = spots
the_spots (Limit limit) = []

abbrev the_free : Answer → List (List Fraction)
the_free (Yes by) = []
the_free (No point) = []
the_free (Bound at certs case point) = []
the_free (Unbounded case point ray) = []
the_free (Basis relations spots free) = free
the_free (Limit limit) = []

abbrev the_limit : Answer → Bounded
the_limit (Yes by) = Pivots
the_limit (No point) = Pivots
the_limit (Bound at certs case point) = Pivots
the_limit (Unbounded case point ray) = Pivots
the_limit (Basis relations spots free) = Pivots
the_limit (Limit limit) = limit

pub answer_decides : (a b : Answer) → Decides (answers.eq-value.it a b) (a ≡ b)
answer_decides (Yes by) (Yes by2) =
    Decides-like (answers.eq-value.it (Yes by) (Yes by2)) (λ h i. Yes (h i)) (λ e. ap the_by e)
    (numbers_decide by by2)
answer_decides (Yes by) (No point2) = apart answer_kind _ _ refl
answer_decides (Yes by) (Bound at2 certs2 case2 point2) = apart answer_kind _ _ refl
answer_decides (Yes by) (Unbounded case2 point2 ray2) = apart answer_kind _ _ refl
answer_decides (Yes by) (Basis relations2 spots2 free2) = apart answer_kind _ _ refl
answer_decides (Yes by) (Limit limit2) = apart answer_kind _ _ refl
answer_decides (No point) (Yes by2) = apart answer_kind _ _ refl
answer_decides (No point) (No point2) =
    Decides-like (answers.eq-value.it (No point) (No point2)) (λ h i. No (h i)) (λ e. ap the_point e)
    (points_decide point point2)
answer_decides (No point) (Bound at2 certs2 case2 point2) = apart answer_kind _ _ refl
answer_decides (No point) (Unbounded case2 point2 ray2) = apart answer_kind _ _ refl
answer_decides (No point) (Basis relations2 spots2 free2) = apart answer_kind _ _ refl
answer_decides (No point) (Limit limit2) = apart answer_kind _ _ refl
answer_decides (Bound at certs case point) (Yes by2) = apart answer_kind _ _ refl
answer_decides (Bound at certs case point) (No point2) = apart answer_kind _ _ refl
answer_decides (Bound at certs case point) (Bound at2 certs2 case2 point2) =
    Decides-like (answers.eq-value.it (Bound at certs case point) (Bound at2 certs2 case2 point2)) (λ h i. Bound (h.0 i) (h.1.0 i) (h.1.1.0 i) (h.1.1.1 i)) (λ e. (ap the_at e, (ap the_certs e, (ap the_case e, ap the_point e))))
    (Decides-and _ _ (Decides-int_eq at at2) (Decides-and _ _ (lists_decide cert_decides certs certs2) (Decides-and _ _ (Decides-eqb case case2) (points_decide point point2))))
answer_decides (Bound at certs case point) (Unbounded case2 point2 ray2) = apart answer_kind _ _ refl
answer_decides (Bound at certs case point) (Basis relations2 spots2 free2) = apart answer_kind _ _ refl
answer_decides (Bound at certs case point) (Limit limit2) = apart answer_kind _ _ refl
answer_decides (Unbounded case point ray) (Yes by2) = apart answer_kind _ _ refl
answer_decides (Unbounded case point ray) (No point2) = apart answer_kind _ _ refl
answer_decides (Unbounded case point ray) (Bound at2 certs2 case2 point2) = apart answer_kind _ _ refl
answer_decides (Unbounded case point ray) (Unbounded case2 point2 ray2) =
    Decides-like (answers.eq-value.it (Unbounded case point ray) (Unbounded case2 point2 ray2)) (λ h i. Unbounded (h.0 i) (h.1.0 i) (h.1.1 i)) (λ e. (ap the_case e, (ap the_point e, ap the_ray e)))
    (Decides-and _ _ (Decides-eqb case case2) (Decides-and _ _ (points_decide point point2) (points_decide ray ray2)))
answer_decides (Unbounded case point ray) (Basis relations2 spots2 free2) = apart answer_kind _ _ refl
answer_decides (Unbounded case point ray) (Limit limit2) = apart answer_kind _ _ refl
answer_decides (Basis relations spots free) (Yes by2) = apart answer_kind _ _ refl
answer_decides (Basis relations spots free) (No point2) = apart answer_kind _ _ refl
answer_decides (Basis relations spots free) (Bound at2 certs2 case2 point2) = apart answer_kind _ _ refl
answer_decides (Basis relations spots free) (Unbounded case2 point2 ray2) = apart answer_kind _ _ refl
answer_decides (Basis relations spots free) (Basis relations2 spots2 free2) =
    Decides-like (answers.eq-value.it (Basis relations spots free) (Basis relations2 spots2 free2)) (λ h i. Basis (h.0 i) (h.1.0 i) (h.1.1 i)) (λ e. (ap the_relations e, (ap the_spots e, ap the_free e)))
    (Decides-and _ _ (lists_decide relation_decides relations relations2) (Decides-and _ _ (lists_decide spot_decides spots spots2) (lists_decide points_decide free free2)))
answer_decides (Basis relations spots free) (Limit limit2) = apart answer_kind _ _ refl
answer_decides (Limit limit) (Yes by2) = apart answer_kind _ _ refl
answer_decides (Limit limit) (No point2) = apart answer_kind _ _ refl
answer_decides (Limit limit) (Bound at2 certs2 case2 point2) = apart answer_kind _ _ refl
answer_decides (Limit limit) (Unbounded case2 point2 ray2) = apart answer_kind _ _ refl
answer_decides (Limit limit) (Basis relations2 spots2 free2) = apart answer_kind _ _ refl
answer_decides (Limit limit) (Limit limit2) =
    Decides-like (answers.eq-value.it (Limit limit) (Limit limit2)) (λ h i. Limit (h i)) (λ e. ap the_limit e)
    (limit_decides limit limit2)

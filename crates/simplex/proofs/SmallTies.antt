-- On a calm question the certificates that tie a relation are small.
use Rattle.std.proofs.Common.{◌≡◌, ℕ, ◌+◌, Bool, List, [], ◌∷◌, ◌++◌, length, get_or, sym, subst, ◌∙◌, ℤ}
use Rattle.std.specs.List.{AllByRecursion}
use Rattle.linear_terms.specs.Polynomial.{Polynomial}
use Rattle.farkas_check.specs.Calm.{difference_frame}
use Rattle.farkas_check.specs.Frames.{IsCalmUpTo}
use Rattle.farkas_check.specs.Ratios.{Fraction}
use Rattle.farkas_check.specs.declared.answer.Cert.{Cert}
use Rattle.farkas_check.specs.declared.stratum.Change.{Change}
use Rattle.farkas_check.specs.declared.stratum.Tie.{Tie}
use Rattle.simplex.specs.CalmStrata.{IsCalmAsked, IsCalmRelation}
use Rattle.simplex.specs.Differences.{IsDifferenceOf}
use Rattle.simplex.specs.SmallBasis.{IsSmallTie, HasSmallMultipliers, HasSmallTie, HasSmallTies}
use Rattle.simplex.specs.Strata.{IsCaseOf}
use Rattle.simplex.specs.Suprema.{with_goal, IsSupremumOver}
use Rattle.simplex.specs.declared.differences.StrataQuestion.{StrataQuestion}
use Rattle.simplex.specs.declared.supremum.Supremum.TheVariants as supremum
use Rattle.simplex.proofs.BoundCertificates.{certificate-is, certified_over}
use Rattle.simplex.proofs.CalmDifferences.{difference_small}
use Rattle.simplex.proofs.CalmGoals.{IsSmallCert, cert_small}
use Rattle.simplex.proofs.Cases.{at_place}
use Rattle.simplex.proofs.Courses.{all_more}
use Rattle.simplex.proofs.RowTableaux.{kinds-length}
use Rattle.simplex.proofs.Objectives.{more_rows}

pub half_multipliers : (s : StrataQuestion) (case : Change) (numbers : List ℤ) (up : Bool) (p : Polynomial) (budget : ℕ) (cert : Cert) (point : List Fraction) → IsCaseOf s case → IsCalmRelation s numbers → IsDifferenceOf case.terms s.lower.now numbers up p → IsSupremumOver s.columns.now case.rows p budget (supremum.Bound cert point)
    → HasSmallMultipliers s cert
half_multipliers s case numbers up p budget cert point of r d h = record { scale = λ calm. (small calm).scale; by = λ calm. (small calm).by }
  where
    many : length h.0.lines ≡ length case.rows + 1
    many = sym h.1.1.0.met.placed.marked.sized.many ∙ kinds-length (with_goal case.rows p) ∙ more_rows case.rows p

    frame_calm : IsCalmAsked s → IsCalmUpTo 1048576 (difference_frame s.columns.now s.lower.now numbers case)
    frame_calm calm = at_place (λ (c : Change). IsCalmUpTo 1048576 (difference_frame s.columns.now s.lower.now numbers c)) s.cases.now of.place case (r.frames calm) of.is

    small : IsCalmAsked s → IsSmallCert 1048576 cert
    small calm =
        cert_small 1048576 (length s.columns.now) (length case.rows) h.0 cert
        (difference_small 1048576 s.columns.now s.lower.now numbers case up p d (frame_calm calm) h.0 many h.1.1.0.met.placed.marked.sized.tableau h.1.1.0.met.placed.marked.sized.primitive)
        (certificate-is (length s.columns.now) (length case.rows) (get_or h.0.lines (length case.rows) []) cert h.1.1.1)
        (certified_over s.columns.now case.rows p h.1.0 h.0 cert h.1.1.0 h.1.1.1).each

pub more_ties_small : (s : StrataQuestion) (ties made : List Tie) (tie : Tie) → HasSmallTies s ties → HasSmallTie s tie → made ≡ ties ++ tie ∷ [] → HasSmallTies s made
more_ties_small s ties made tie t is more = record { small = λ calm. subst (AllByRecursion IsSmallTie) (sym more) (all_more IsSmallTie ties tie (t.small calm) (is.small calm)) }

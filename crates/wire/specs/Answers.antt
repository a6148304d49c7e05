-- Answers as JSON: an object of one key, which is the name of its kind, beside keys that mean
-- nothing. What stands under the key is read key by key, in the order of the alphabet.
use Rattle.std.specs.Prelude.{ℕ, Bool, false, Option, None, Some, is_some, Ok, Err, List, [], ◌∷◌, codes, find, ◌==◌, if◌then◌else◌}
use Rattle.std.specs.List.{count_by}
use Rattle.std.specs.Str.{bytes_eq}
use Rattle.farkas_check.specs.declared.answer.Answer.{Answer}
use Rattle.farkas_check.specs.declared.answer.Answer.TheVariants.{Yes, No, Bound, Unbounded, Basis, Limit}
use Rattle.farkas_check.specs.declared.answer.Cert.{Cert}
use Rattle.farkas_check.specs.declared.answer.Limit.{Limit as Why}
use Rattle.farkas_check.specs.declared.answer.Limit.TheVariants.{Wide, Pivots}
use Rattle.farkas_check.specs.declared.stratum.Relation.{Relation}
use Rattle.farkas_check.specs.declared.stratum.Spot.{Spot}
use Rattle.farkas_check.specs.declared.stratum.Tie.{Tie}
use Rattle.items.specs.Gives.{◌>>=◌}
use Rattle.serde_json.specs.Data.{Data}
use Rattle.serde_json.specs.Find.{as_str, get}
use Rattle.wire.specs.declared.answers.AnswerKind.{AnswerKind}
use Rattle.wire.specs.declared.answers.AnswerKind.TheVariants.{Infeasible, Point, Bound as BoundKind, Unbounded as UnboundedKind, Basis as BasisKind, Limit as LimitKind}
use Rattle.wire.specs.Numbers.{ratio, whole}
use Rattle.wire.specs.Shapes.{Reading, boolean, field, list, small}

-- a certificate of a bound: the multipliers of the rows of a case, the scale and the sum
abbrev pub cert : Reading Cert
cert d = field (codes "by") (list whole) d >>= λ by. field (codes "scale") whole d
    >>= λ scale. field (codes "sum") whole d
    >>= λ sum. Ok record { scale = scale; sum = sum; by = by }

-- what ties a relation to 0 in a case: multipliers and a scale downwards, and upwards
abbrev pub tie : Reading Tie
tie d = field (codes "down") (list whole) d >>= λ down. field (codes "down_scale") whole d
    >>= λ down_scale. field (codes "up") (list whole) d
    >>= λ up. field (codes "up_scale") whole d >>= λ up_scale. Ok record {
      up_scale = up_scale;
      up = up;
      down_scale = down_scale;
      down = down;
    }

-- a relation, with a tie for each case
abbrev pub relation : Reading Relation
relation d = field (codes "a") (list whole) d >>= λ a. field (codes "b") (list whole) d
    >>= λ b. field (codes "c") whole d
    >>= λ c. field (codes "ties") (list tie) d >>= λ ties. Ok record {
      a = a;
      b = b;
      c = c;
      ties = ties;
    }

-- a point of a case, with the number of the case
abbrev pub spot : Reading Spot
spot d = field (codes "at") (list ratio) d >>= λ at. field (codes "case") small d
    >>= λ case. Ok record {
      case = case;
      at = at;
    }

-- two numbers whose product or sum, as `times` says, leaves 128 bits
abbrev pub wide : Reading Why
wide d = field (codes "left") whole d >>= λ left. field (codes "right") whole d
    >>= λ right. field (codes "times") boolean d
    >>= λ times. Ok (Wide left right times)

-- the word `pivots`, or an object
abbrev pub is_pivots : Option (List ℕ) → Bool
is_pivots None = false
is_pivots (Some word) = bytes_eq word (codes "pivots")

-- why there is no other answer: too many pivots, or a number that leaves 128 bits
abbrev pub limit : Reading Why
limit d = if is_pivots (as_str d) then Ok Pivots else wide d

-- the answer that there is a greatest number, with certificates and a point that reaches it
abbrev pub bound : Reading Answer
bound d = field (codes "at") whole d >>= λ at. field (codes "case") small d
    >>= λ case. field (codes "certs") (list cert) d
    >>= λ certs. field (codes "point") (list ratio) d >>= λ point. Ok (Bound at certs case point)

-- the answer that there is no supremum, with a point of a case and a ray
abbrev pub unbounded_answer : Reading Answer
unbounded_answer d = field (codes "case") small d >>= λ case. field (codes "point") (list ratio) d
    >>= λ point. field (codes "ray") (list ratio) d
    >>= λ ray. Ok (Unbounded case point ray)

-- the answer that lists all relations, with spots and the numbers that show that there are no more
abbrev pub basis : Reading Answer
basis d = field (codes "free") (list (list ratio)) d >>= λ free. field (codes "relations")
    (list relation) d
    >>= λ relations. field (codes "spots") (list spot) d
    >>= λ spots. Ok (Basis relations spots free)

-- the key of a kind of answers
abbrev pub kind_key : AnswerKind → List ℕ
kind_key Infeasible = codes "infeasible"
kind_key Point = codes "point"
kind_key BoundKind = codes "bound"
kind_key UnboundedKind = codes "unbounded"
kind_key BasisKind = codes "basis"
kind_key LimitKind = codes "limit"

-- what stands under the key of a kind
abbrev pub of_kind : AnswerKind → Reading Answer
of_kind Infeasible d = list whole d >>= λ by. Ok (Yes by)
of_kind Point d = list ratio d >>= λ point. Ok (No point)
of_kind BoundKind d = bound d
of_kind UnboundedKind d = unbounded_answer d
of_kind BasisKind d = basis d
of_kind LimitKind d = limit d >>= λ why. Ok (Limit why)

-- all kinds of answers, each once
abbrev pub kinds : List AnswerKind
kinds = Infeasible ∷ Point ∷ BoundKind ∷ UnboundedKind ∷ BasisKind ∷ LimitKind ∷ []

-- the key of a kind is there
abbrev pub has_kind : Data → AnswerKind → Bool
has_kind d kind = is_some (get (kind_key kind) d)

-- of these kinds the one whose key is there, where there is one alone
abbrev pub sole_kind : List AnswerKind → Data → Option AnswerKind
sole_kind among d = if count_by (has_kind d) among == 1 then find (has_kind d) among else None

-- an answer of the one kind whose key is there; where none or several are there, the answer is
-- wrong
abbrev pub of_sole : Option AnswerKind → Reading Answer
of_sole None d = Err []
of_sole (Some kind) d = field (kind_key kind) (of_kind kind) d

-- an answer: an object with the key of one kind alone
abbrev pub answer : Reading Answer
answer d = of_sole (sole_kind kinds d) d

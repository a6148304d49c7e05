-- What is written: each value as a part of JSON, its members in the order of their keys, each once.
use Rattle.std.specs.Prelude.{◌≡◌, ℕ, ℤ, ◌<◌, ◌≤◌, Bool, Result, Ok, List, ◌++◌, codes, length, map}
use Rattle.std.specs.List.{AllByRecursion, range_with_len}
use Rattle.wire.specs.Files.{most_text}
use Rattle.std.specs.Fmt.{signed_decimal}
use Rattle.farkas_check.specs.declared.answer.Answer.{Answer}
use Rattle.farkas_check.specs.declared.answer.Answer.TheVariants.{Yes, No, Bound, Unbounded, Basis, Limit}
use Rattle.farkas_check.specs.declared.answer.Cert.{Cert}
use Rattle.farkas_check.specs.declared.answer.Limit.{Limit as Why}
use Rattle.farkas_check.specs.declared.answer.Limit.TheVariants.{Wide, Pivots}
use Rattle.farkas_check.specs.declared.stratum.Relation.{Relation}
use Rattle.farkas_check.specs.declared.stratum.Spot.{Spot}
use Rattle.farkas_check.specs.declared.stratum.Tie.{Tie}
use Rattle.farkas_check.specs.Ratios.{Fraction, ratio_text}
use Rattle.serde_json.specs.Data.{Data, number, unsigned, string, boolean, array, object, no_members, member}
use Rattle.serde_json.specs.View.{items_of}
use Rattle.items.specs.Gives.{◌>>=◌}
use Rattle.wire.specs.Shapes.{Path, Reading, items_from}
use Rattle.wire.specs.declared.certificate.Certificate.{Certificate}
use Rattle.wire.specs.declared.certificate.Version.{Version}
use Rattle.wire.specs.declared.certificate.Version.TheVariants.{First, Second}

-- a whole number, as its decimal text
abbrev pub whole_data : ℤ → Data
whole_data z = string (signed_decimal z)

-- a ratio, as its text
abbrev pub ratio_data : Fraction → Data
ratio_data r = string (ratio_text r)

-- a truth value, as `true` or `false`
abbrev pub boolean_data : Bool → Data
boolean_data b = boolean b

-- a number that is not negative, as a number of JSON
abbrev pub small_data : ℕ → Data
small_data n = number (unsigned n)

-- a list, with each of its elements written in order
abbrev pub list_data : {A : Type 0} → (A → Data) → List A → Data
list_data writes xs = array (items_of (map writes xs))

-- what parts read as, and then what is left to write
unfoldable pub read_then : {A : Type 0} → Reading A → List Data → List A → Result (List A) Path
read_then reads ds rest = items_from reads 0 (items_of ds) >>= λ front. Ok (front ++ rest)

-- a certificate of a bound, as an object
abbrev pub cert_data : Cert → Data
cert_data cert =
    object (member (codes "by") (list_data whole_data cert.by)
    (member (codes "scale") (whole_data cert.scale)
    (member (codes "sum") (whole_data cert.sum) no_members)))

-- what ties a relation to 0, as an object
abbrev pub tie_data : Tie → Data
tie_data tie =
    object (member (codes "down") (list_data whole_data tie.down)
    (member (codes "down_scale") (whole_data tie.down_scale)
    (member (codes "up") (list_data whole_data tie.up)
    (member (codes "up_scale") (whole_data tie.up_scale) no_members))))

-- a relation with its ties, as an object
abbrev pub relation_data : Relation → Data
relation_data relation =
    object (member (codes "a") (list_data whole_data relation.a)
    (member (codes "b") (list_data whole_data relation.b)
    (member (codes "c") (whole_data relation.c)
    (member (codes "ties") (list_data tie_data relation.ties) no_members))))

-- a point of a case, as an object
abbrev pub spot_data : Spot → Data
spot_data spot =
    object (member (codes "at") (list_data ratio_data spot.at)
    (member (codes "case") (small_data spot.case) no_members))

-- why there is no other answer: an object of two numbers, or the word `pivots`
abbrev pub limit_data : Why → Data
limit_data (Wide left right times) =
    object (member (codes "left") (whole_data left) (member (codes "right") (whole_data right)
    (member (codes "times") (boolean times) no_members)))
limit_data Pivots = string (codes "pivots")

-- what stands alone under a key
abbrev pub alone : List ℕ → Data → Data
alone key d = object (member key d no_members)

-- what stands under the key `bound`
abbrev pub bound_data : ℤ → List Cert → ℕ → List Fraction → Data
bound_data at certs case point =
    object (member (codes "at") (whole_data at) (member (codes "case") (small_data case)
    (member (codes "certs") (list_data cert_data certs)
    (member (codes "point") (list_data ratio_data point) no_members))))

-- what stands under the key `unbounded`
abbrev pub unbounded_data : ℕ → List Fraction → List Fraction → Data
unbounded_data case point ray =
    object (member (codes "case") (small_data case)
    (member (codes "point") (list_data ratio_data point)
    (member (codes "ray") (list_data ratio_data ray) no_members)))

-- what stands under the key `basis`
abbrev pub basis_data : List Relation → List Spot → List (List Fraction) → Data
basis_data relations spots free =
    object (member (codes "free") (list_data (list_data ratio_data) free)
    (member (codes "relations") (list_data relation_data relations)
    (member (codes "spots") (list_data spot_data spots) no_members)))

-- an answer, as an object with the key of its kind alone
abbrev pub answer_data : Answer → Data
answer_data (Yes by) = alone (codes "infeasible") (list_data whole_data by)
answer_data (No point) = alone (codes "point") (list_data ratio_data point)
answer_data (Bound at certs case point) = alone (codes "bound") (bound_data at certs case point)
answer_data (Unbounded case point ray) = alone (codes "unbounded") (unbounded_data case point ray)
answer_data (Basis relations spots free) = alone (codes "basis") (basis_data relations spots free)
answer_data (Limit why) = alone (codes "limit") (limit_data why)

-- ---- certificate files

-- a certificate file of the first version, which has no order and names no version
abbrev pub first_data : Certificate → Data
first_data file =
    object (member (codes "answers") (list_data answer_data file.answers)
    (member (codes "report") (string file.report)
    (member (codes "text") (string file.text) no_members)))

-- a certificate file of the second version, with its order
abbrev pub second_data : Certificate → Data
second_data file =
    object (member (codes "answers") (list_data answer_data file.answers)
    (member (codes "order") (list_data small_data file.order)
    (member (codes "report") (string file.report)
    (member (codes "text") (string file.text)
    (member (codes "version") (small_data 2) no_members)))))

-- a certificate file as one of this version
abbrev pub data_in : Version → Certificate → Data
data_in First = first_data
data_in Second = second_data

-- a certificate file as one of its own version
abbrev pub certificate_data : Certificate → Data
certificate_data file = data_in file.version file

-- the order of a file of this version, with this number of answers
abbrev pub IsOrder : Version → ℕ → List ℕ → Type 0
IsOrder First count order = order ≡ range_with_len 0 count
IsOrder Second count order = AllByRecursion (λ place. place < count) order

-- a file that can be written so that it reads back
pub record IsWritable (file : Certificate) : Type 0 where
  pub short : length file.text ≤ most_text
  pub order : IsOrder file.version (length file.answers) file.order

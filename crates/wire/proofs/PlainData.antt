-- What is written nests at most ten deep, and has no fractions.
use Rattle.std.proofs.Common.{arith, ◌≡◌, ℕ, suc, ◌≤◌, Bool, false, List, [], ◌∷◌, map, refl, ap, ◌∙◌}
use Rattle.std.specs.Prelude.{max, ◌||◌}
use Rattle.std.proofs.Math.Nat.{max-le}
use Rattle.farkas_check.specs.declared.answer.Answer.{Answer}
use Rattle.farkas_check.specs.declared.answer.Answer.TheVariants.{Yes, No, Bound, Unbounded, Basis, Limit}
use Rattle.farkas_check.specs.declared.answer.Cert.{Cert}
use Rattle.farkas_check.specs.declared.answer.Limit.{Limit as Why}
use Rattle.farkas_check.specs.declared.answer.Limit.TheVariants.{Wide, Pivots}
use Rattle.farkas_check.specs.declared.stratum.Relation.{Relation}
use Rattle.farkas_check.specs.declared.stratum.Spot.{Spot}
use Rattle.farkas_check.specs.declared.stratum.Tie.{Tie}
use Rattle.serde_json.specs.Data.{Data, number, unsigned, string, boolean, object, Members, no_members, member, depth, items_depth, members_depth}
use Rattle.serde_json.specs.View.{items_of}
use Rattle.serde_json.specs.Written.{has_float, items_have_float, members_have_float}
use Rattle.wire.specs.Written.{list_data, cert_data, tie_data, relation_data, spot_data, limit_data, answer_data, certificate_data, data_in}
use Rattle.wire.specs.declared.certificate.Certificate.{Certificate}
use Rattle.wire.specs.declared.certificate.Version.{Version}
use Rattle.wire.specs.declared.certificate.Version.TheVariants.{First, Second}

-- the part nests so deep at most, and no number in it is a fraction
pub record IsPlain (most : ℕ) (d : Data) : Type 0 where
  pub deep : depth d ≤ most
  pub whole : has_float d ≡ false

record ArePlain (most : ℕ) (ms : Members) : Type 0 where
  deep : members_depth ms ≤ most
  whole : members_have_float ms ≡ false

plain_string : {most : ℕ} {t : List ℕ} → IsPlain most (string t)
plain_string = record { deep = omega arith; whole = refl }

plain_number : {most n : ℕ} → IsPlain most (number (unsigned n))
plain_number = record { deep = omega arith; whole = refl }

plain_boolean : {most : ℕ} {b : Bool} → IsPlain most (boolean b)
plain_boolean = record { deep = omega arith; whole = refl }

plain_list : {A : Type 0} {most : ℕ} {f : A → Data} → ((x : A) → IsPlain most (f x)) → (xs : List A) → IsPlain (suc most) (list_data f xs)
plain_list each [] = record { deep = omega arith; whole = refl }
plain_list {A} {most} {f} each (x ∷ xs) =
    let later = plain_list each xs in
    let deep : max (depth (f x)) (items_depth (items_of (map f xs))) ≤ most = max-le (each x).deep (omega (arith, later.deep)) in
    record { deep = omega (arith, deep); whole = ap (λ b. b || items_have_float (items_of (map f xs))) (each x).whole ∙ later.whole }

plain_within : {low high : ℕ} {d : Data} → low ≤ high → IsPlain low d → IsPlain high d
plain_within le p = record { deep = omega (arith, le, p.deep); whole = p.whole }

plain_end : {most : ℕ} → ArePlain most no_members
plain_end = record { deep = omega arith; whole = refl }

infixr 5 ◌and◌
-- a member and others
◌and◌ : {most : ℕ} {key : List ℕ} {d : Data} {ms : Members} → IsPlain most d → ArePlain most ms → ArePlain most (member key d ms)
◌and◌ {ms = ms} p ps = record { deep = max-le p.deep ps.deep; whole = ap (λ b. b || members_have_float ms) p.whole ∙ ps.whole }

plain_object : {most : ℕ} {ms : Members} → ArePlain most ms → IsPlain (suc most) (object ms)
plain_object ps = record { deep = omega (arith, ps.deep); whole = ps.whole }

plain_cert : (c : Cert) → IsPlain 3 (cert_data c)
plain_cert c = plain_object (plain_list (λ z. plain_string) c.by and plain_string and plain_string and plain_end)

plain_tie : (t : Tie) → IsPlain 3 (tie_data t)
plain_tie t = plain_object (plain_list (λ z. plain_string) t.down and plain_string and plain_list (λ z. plain_string) t.up and plain_string and plain_end)

plain_relation : (r : Relation) → IsPlain 5 (relation_data r)
plain_relation r = plain_object (plain_list (λ z. plain_string) r.a and plain_list (λ z. plain_string) r.b and plain_string and plain_list plain_tie r.ties and plain_end)

plain_spot : (s : Spot) → IsPlain 3 (spot_data s)
plain_spot s = plain_object (plain_list (λ z. plain_string) s.at and plain_number and plain_end)

plain_limit : (l : Why) → IsPlain 3 (limit_data l)
plain_limit (Wide left right times) = plain_object (plain_string and plain_string and plain_boolean and plain_end)
plain_limit Pivots = plain_string

plain_answer : (a : Answer) → IsPlain 8 (answer_data a)
plain_answer (Yes by) = plain_object (plain_list (λ z. plain_string) by and plain_end)
plain_answer (No point) = plain_object (plain_list (λ z. plain_string) point and plain_end)
plain_answer (Bound at certs case point) = plain_object (plain_object (plain_string and plain_number
    and plain_list (λ c. plain_within {low = 3} {high = 5} (omega arith) (plain_cert c)) certs and plain_list (λ z. plain_string) point and plain_end) and plain_end)
plain_answer (Unbounded case point ray) = plain_object (plain_object (plain_number and plain_list (λ z. plain_string) point
    and plain_list (λ z. plain_string) ray and plain_end) and plain_end)
plain_answer (Basis relations spots free) = plain_object (plain_object (plain_list (λ zs. plain_list {most = 4} (λ z. plain_string) zs) free
    and plain_list plain_relation relations and plain_list (λ s. plain_within {low = 3} {high = 5} (omega arith) (plain_spot s)) spots and plain_end) and plain_end)
plain_answer (Limit why) = plain_object (plain_within {low = 3} {high = 7} (omega arith) (plain_limit why) and plain_end)

pub IsPlain-certificate_data : (file : Certificate) → IsPlain 10 (certificate_data file)
IsPlain-certificate_data file = each file.version where
  each : (version : Version) → IsPlain 10 (data_in version file)
  each First = plain_object (plain_list plain_answer file.answers and plain_string and plain_string and plain_end)
  each Second = plain_object (plain_list plain_answer file.answers and plain_list (λ n. plain_number) file.order and plain_string and plain_string
      and plain_number and plain_end)

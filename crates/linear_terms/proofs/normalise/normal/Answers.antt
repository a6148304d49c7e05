use Rattle.std.proofs.Common.{◌≡◌, arith, rules}
use Rattle.std.specs.Map.{values_of}
use Rattle.items.specs.Gives.{Gives}
use Rattle.whole_numbers.specs.Divisors.{gcd_of_all}
use Rattle.linear_terms.specs.TermError.{cause}
use Rattle.linear_terms.specs.Polynomial.{IsCanonical}
use Rattle.linear_terms.specs.Row.{reduced_row}
use Rattle.linear_terms.proofs.Normals.{IfOk-SaysAsMuch, IfOk-IsNormal}
use Rattle.linear_terms.proofs.Faults.{reduced-fault, IfErr-fault}
use Rattle.linear_terms.proofs.normalise.normal.Goals as goal

pub returns-clause-same : goal.returns-clause-same
returns-clause-same c at =
    let greatest : c.divisor-divisor.result ≡ gcd_of_all (values_of c.args.row.now.poly.terms) = search rules in
    let given : Gives cause (λ n. n) c.reduced_row.result (reduced_row c.args.row.now.kind c.divisor-divisor.result c.args.row.now.poly) = search rules in
    IfOk-SaysAsMuch at c.args.row.now c.divisor-divisor.result c.reduced_row.result (omega arith) greatest given

pub returns-clause-is_normal : goal.returns-clause-is_normal
returns-clause-is_normal c =
    let greatest : c.divisor-divisor.result ≡ gcd_of_all (values_of c.args.row.now.poly.terms) = search rules in
    let canonical : IsCanonical c.args.row.now.poly.terms = search rules in
    let given : Gives cause (λ n. n) c.reduced_row.result (reduced_row c.args.row.now.kind c.divisor-divisor.result c.args.row.now.poly) = search rules in
    IfOk-IsNormal c.args.row.now c.divisor-divisor.result c.reduced_row.result (omega arith) greatest canonical given

pub returns-clause-fault : goal.returns-clause-fault
returns-clause-fault c =
    let given : Gives cause (λ n. n) c.reduced_row.result (reduced_row c.args.row.now.kind c.divisor-divisor.result c.args.row.now.poly) = search rules in
    IfErr-fault (λ n. n) c.reduced_row.result (reduced_row c.args.row.now.kind c.divisor-divisor.result c.args.row.now.poly) (reduced-fault c.args.row.now.kind c.divisor-divisor.result c.args.row.now.poly) given

use Rattle.std.proofs.Common.{[], ◌∷◌, sym, append-nil}
use Rattle.linear_terms.specs.declared.row.Kind.TheVariants.{AtMost, Equal}
use Rattle.leaf_cases.specs.Division.{equation, divisor_sign, dividend_sign, lower_bound, upper_bound}
use Rattle.leaf_cases.proofs.StatedPolys.{claim_made, claim_noted}
use Rattle.leaf_cases.proofs.division.Division.push_rows.Goals as goal

pub returns-clause-made : goal.returns-clause-made
returns-clause-made c =
    let signs = c.args.signs in
    let a = c.args.self.now.dividend.now in
    let b = c.args.self.now.divisor.now in
    let q = c.args.self.now.quotient.now in
    let r = c.args.self.now.remainder.now in
    let old = c.args.rows.now in
    let e1 = claim_made old old c.push_claim.new.rows [] Equal c.equation-zero.result (equation a b q r) (sym (append-nil old)) c.equation-zero.ensures c.in_ok-push_claim.ensures.told c.in_ok-push_claim.ensures.made in
    let e2 = claim_made old c.push_claim.new.rows c.push_claim-2.new.rows (record { kind = Equal; poly = equation a b q r } ∷ []) AtMost c.divisor_sign-sign.result (divisor_sign signs.divisor b) e1 c.divisor_sign-sign.ensures c.in_ok-push_claim-2.ensures.told c.in_ok-push_claim-2.ensures.made in
    let e3 = claim_made old c.push_claim-2.new.rows c.push_claim-3.new.rows (record { kind = Equal; poly = equation a b q r } ∷ record { kind = AtMost; poly = divisor_sign signs.divisor b } ∷ []) AtMost c.dividend_sign-sign.result (dividend_sign signs.dividend a) e2 c.dividend_sign-sign.ensures c.in_ok-push_claim-3.ensures.told c.in_ok-push_claim-3.ensures.made in
    let e4 = claim_made old c.push_claim-3.new.rows c.push_claim-4.new.rows (record { kind = Equal; poly = equation a b q r } ∷ record { kind = AtMost; poly = divisor_sign signs.divisor b } ∷ record { kind = AtMost; poly = dividend_sign signs.dividend a } ∷ []) AtMost c.lower_bound-lower.result (lower_bound signs.divisor signs.dividend b r) e3 c.lower_bound-lower.ensures c.in_ok-push_claim-4.ensures.told c.in_ok-push_claim-4.ensures.made in
    let e5 = claim_made old c.push_claim-4.new.rows c.push_claim-5.new.rows (record { kind = Equal; poly = equation a b q r } ∷ record { kind = AtMost; poly = divisor_sign signs.divisor b } ∷ record { kind = AtMost; poly = dividend_sign signs.dividend a } ∷ record { kind = AtMost; poly = lower_bound signs.divisor signs.dividend b r } ∷ []) AtMost c.upper_bound-upper.result (upper_bound signs.divisor signs.dividend b r) e4 c.upper_bound-upper.ensures c.in_ok-push_claim-5.ensures.told c.in_ok-push_claim-5.ensures.made in
    e5

pub returns-clause-noted : goal.returns-clause-noted
returns-clause-noted c =
    let signs = c.args.signs in
    let a = c.args.self.now.dividend.now in
    let b = c.args.self.now.divisor.now in
    let q = c.args.self.now.quotient.now in
    let r = c.args.self.now.remainder.now in
    let old = c.args.losses.now in
    let e1 = claim_noted old old c.push_claim.new.losses [] Equal c.equation-zero.result (equation a b q r) (sym (append-nil old)) c.equation-zero.ensures c.in_ok-push_claim.ensures.told c.in_ok-push_claim.ensures.noted in
    let e2 = claim_noted old c.push_claim.new.losses c.push_claim-2.new.losses (record { kind = Equal; poly = equation a b q r } ∷ []) AtMost c.divisor_sign-sign.result (divisor_sign signs.divisor b) e1 c.divisor_sign-sign.ensures c.in_ok-push_claim-2.ensures.told c.in_ok-push_claim-2.ensures.noted in
    let e3 = claim_noted old c.push_claim-2.new.losses c.push_claim-3.new.losses (record { kind = Equal; poly = equation a b q r } ∷ record { kind = AtMost; poly = divisor_sign signs.divisor b } ∷ []) AtMost c.dividend_sign-sign.result (dividend_sign signs.dividend a) e2 c.dividend_sign-sign.ensures c.in_ok-push_claim-3.ensures.told c.in_ok-push_claim-3.ensures.noted in
    let e4 = claim_noted old c.push_claim-3.new.losses c.push_claim-4.new.losses (record { kind = Equal; poly = equation a b q r } ∷ record { kind = AtMost; poly = divisor_sign signs.divisor b } ∷ record { kind = AtMost; poly = dividend_sign signs.dividend a } ∷ []) AtMost c.lower_bound-lower.result (lower_bound signs.divisor signs.dividend b r) e3 c.lower_bound-lower.ensures c.in_ok-push_claim-4.ensures.told c.in_ok-push_claim-4.ensures.noted in
    let e5 = claim_noted old c.push_claim-4.new.losses c.push_claim-5.new.losses (record { kind = Equal; poly = equation a b q r } ∷ record { kind = AtMost; poly = divisor_sign signs.divisor b } ∷ record { kind = AtMost; poly = dividend_sign signs.dividend a } ∷ record { kind = AtMost; poly = lower_bound signs.divisor signs.dividend b r } ∷ []) AtMost c.upper_bound-upper.result (upper_bound signs.divisor signs.dividend b r) e4 c.upper_bound-upper.ensures c.in_ok-push_claim-5.ensures.told c.in_ok-push_claim-5.ensures.noted in
    e5

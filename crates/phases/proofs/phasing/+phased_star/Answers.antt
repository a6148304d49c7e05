use Rattle.std.proofs.Common.{◌≡◌, ◌-◌, suc, refl, sym, ap, subst, arith}
use Rattle.posing.specs.Posing.{◌>>=◌}
use Rattle.posing.proofs.Steps.{error_first, in_other_words, value_first, value_has}
use Rattle.phases.specs.Law.{IsPhased}
use Rattle.phases.specs.Phases.{in_turn, phased_star, star_by_halves}
use Rattle.phases.specs.Words.{AreRoomy, IfFound, IsRoomy}
use Rattle.phases.proofs.SplitHalves.{split-roomy}
use Rattle.phases.proofs.Whole.{in_turn-ready, phased-small}
use Rattle.phases.proofs.phasing.+phased_star.Goals as goal

pub returns-in_err-split : goal.returns-in_err-split
returns-in_err-split g t c =
    let next : c.args.depth ≡ suc (c.args.depth - 1) = omega arith in
    in_other_words (ap (λ d. phased_star d c.args.voc.now c.args.body.now) (sym next))
    (error_first (star_by_halves (phased_star (c.args.depth - 1) c.args.voc.now) c.args.voc.now c.args.body.now) c.in_err-split.ensures refl c.from_residual.ensures.1)

pub returns-in-None : goal.returns-in-None
returns-in-None g t c =
    let next : c.args.depth ≡ suc (c.args.depth - 1) = omega arith in
    let step = star_by_halves (phased_star (c.args.depth - 1) c.args.voc.now) c.args.voc.now c.args.body.now in
    in_other_words (ap (λ d. phased_star d c.args.voc.now c.args.body.now) (sym next))
    (value_first step c.in_ok-split.ensures refl (in_other_words (ap step (sym c.in-None.is)) c.star-in-None.ensures.follows))

pub phased_star-requires : goal.phased_star-requires
phased_star-requires g t c κs within =
    let next : c.args.depth ≡ suc (c.args.depth - 1) = omega arith in
    let roomy = subst (λ d. IsRoomy d c.args.body.now c.args.voc.now) next c.requires in (
      omega (arith, c.decreases, next),
      (
        within,
        (subst (IfFound (AreRoomy (c.args.depth - 1) c.args.voc.now)) c.in-Some.is
            (value_has (IfFound (AreRoomy (c.args.depth - 1) c.args.voc.now)) c.in_ok-split.ensures (split-roomy (c.args.depth - 1) c.args.voc.now c.args.body.now roomy))).0,
      ),
    )

pub returns-in_err-first-in-Some : goal.returns-in_err-first-in-Some
returns-in_err-first-in-Some g t c =
    let next : c.args.depth ≡ suc (c.args.depth - 1) = omega arith in
    let phases = phased_star (c.args.depth - 1) c.args.voc.now in
    let step = star_by_halves phases c.args.voc.now c.args.body.now in
    in_other_words (ap (λ d. phased_star d c.args.voc.now c.args.body.now) (sym next))
    (value_first step c.in_ok-split.ensures refl (in_other_words (ap step (sym c.in-Some.is))
    (error_first (λ a. phases c.in-Some.found.second >>= λ b. in_turn c.args.voc.now a b) c.in_err-first-in-Some.ensures refl c.from_residual-in_err-first-in-Some.ensures.1)))

pub phased_star-requires-in-Some : goal.phased_star-requires-in-Some
phased_star-requires-in-Some g t c κs within =
    let next : c.args.depth ≡ suc (c.args.depth - 1) = omega arith in
    let roomy = subst (λ d. IsRoomy d c.args.body.now c.args.voc.now) next c.requires in (
      omega (arith, c.decreases, next),
      (
        within,
        (subst (IfFound (AreRoomy (c.args.depth - 1) c.args.voc.now)) c.in-Some.is
            (value_has (IfFound (AreRoomy (c.args.depth - 1) c.args.voc.now)) c.in_ok-split.ensures (split-roomy (c.args.depth - 1) c.args.voc.now c.args.body.now roomy))).1,
      ),
    )

pub returns-in_err-second-in-Some : goal.returns-in_err-second-in-Some
returns-in_err-second-in-Some g t c =
    let next : c.args.depth ≡ suc (c.args.depth - 1) = omega arith in
    let phases = phased_star (c.args.depth - 1) c.args.voc.now in
    let step = star_by_halves phases c.args.voc.now c.args.body.now in
    in_other_words (ap (λ d. phased_star d c.args.voc.now c.args.body.now) (sym next))
    (value_first step c.in_ok-split.ensures refl (in_other_words (ap step (sym c.in-Some.is))
    (value_first (λ a. phases c.in-Some.found.second >>= λ b. in_turn c.args.voc.now a b) c.in_ok-first-in-Some.ensures refl
    (error_first (λ b. in_turn c.args.voc.now c.in_ok-first-in-Some.first b) c.in_err-second-in-Some.ensures refl c.from_residual-in_err-second-in-Some.ensures.1))))

pub in_turn-requires : goal.in_turn-requires
in_turn-requires g t c =
    let next : c.args.depth ≡ suc (c.args.depth - 1) = omega arith in
    let roomy = subst (λ d. IsRoomy d c.args.body.now c.args.voc.now) next c.requires in
    let halves = subst (IfFound (AreRoomy (c.args.depth - 1) c.args.voc.now)) c.in-Some.is
    (value_has (IfFound (AreRoomy (c.args.depth - 1) c.args.voc.now)) c.in_ok-split.ensures (split-roomy (c.args.depth - 1) c.args.voc.now c.args.body.now roomy)) in
    in_turn-ready c.args.depth c.args.voc.now c.args.body.now c.in_ok-first-in-Some.first c.in_ok-second-in-Some.second c.requires
    (value_has (IsPhased c.args.voc.now.columns) c.in_ok-first-in-Some.ensures (phased-small (c.args.depth - 1) c.args.voc.now c.in-Some.found.first halves.0))
    (value_has (IsPhased c.args.voc.now.columns) c.in_ok-second-in-Some.ensures (phased-small (c.args.depth - 1) c.args.voc.now c.in-Some.found.second halves.1))

pub returns-in_ok-second-in-Some : goal.returns-in_ok-second-in-Some
returns-in_ok-second-in-Some g t c =
    let next : c.args.depth ≡ suc (c.args.depth - 1) = omega arith in
    let phases = phased_star (c.args.depth - 1) c.args.voc.now in
    let step = star_by_halves phases c.args.voc.now c.args.body.now in
    in_other_words (ap (λ d. phased_star d c.args.voc.now c.args.body.now) (sym next))
    (value_first step c.in_ok-split.ensures refl (in_other_words (ap step (sym c.in-Some.is))
    (value_first (λ a. phases c.in-Some.found.second >>= λ b. in_turn c.args.voc.now a b) c.in_ok-first-in-Some.ensures refl
    (value_first (λ b. in_turn c.args.voc.now c.in_ok-first-in-Some.first b) c.in_ok-second-in-Some.ensures refl c.in_turn.ensures))))

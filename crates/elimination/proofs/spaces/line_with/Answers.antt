use Rattle.std.proofs.Common.{sym, ◌∙◌, subst}
use Rattle.std.specs.Prelude.{◌^◌}
use Rattle.std.proofs.lemmas.Bool.{false≢true}
use Rattle.elimination.specs.declared.vectors.Vector.{Vector}
use Rattle.elimination.specs.declared.spaces.Space.TheVariants.{Line, Plane}
use Rattle.elimination.specs.Spaces.{IsZero, IsUpTo, Extends}
use Rattle.elimination.proofs.Extensions.{line_kept, line_to_plane}
use Rattle.elimination.proofs.spaces.line_with.Goals as goal

pub returns-then-is_zero : goal.returns-then-is_zero
returns-then-is_zero c = line_kept c.args.p.now c.args.v.now c.requires.proper (subst IsZero c.cross-n.ensures.value (c.is_zero.ensures.0 c.if-is_zero.true))

pub returns : goal.returns
returns c =
    subst (λ (n : Vector). Extends (Line c.args.p.now) c.args.v.now (Plane n)) (sym c.cross-n.ensures.value)
    (line_to_plane c.args.p.now c.args.v.now (λ zero. absurd (false≢true (sym c.if-is_zero.false ∙ c.is_zero.ensures.1 (subst IsZero (sym c.cross-n.ensures.value) zero)))) (subst (IsUpTo (2 ^ 37)) c.cross-n.ensures.value c.cross-n.ensures.small))

use Rattle.std.proofs.Common.{sym, ◌∙◌, ◌+◌, subst, List}
use Rattle.c_lexer.specs.declared.token.Token.{Token}
use Rattle.c_lexer.proofs.Scanning.{Kept, Kept-space, Kept-lexeme, Stops-full}
use Rattle.c_lexer.proofs.scan.scan.Goals as goal
use Rattle.c_lexer.proofs.scan.scan.Goals.{in-Some+else-len-eq-MOST_TOKENS+in_ok-push, in_default}

pub returns-then-len-eq-MOST_TOKENS-clause-stops : goal.returns-then-len-eq-MOST_TOKENS-clause-stops
returns-then-len-eq-MOST_TOKENS-clause-stops c = λ other.
    Stops-full _ _ _ _ _ _ c.loop-at.invariant.so_far c.in_ok-len.ensures.found c.in-Some.is (sym c.len.ensures ∙ c.if-len-eq-MOST_TOKENS.true)

pub loop-at-preserved : goal.loop-at-preserved
loop-at-preserved c =
    elim c.match-kind.branch [
      | in-Some+else-len-eq-MOST_TOKENS+in_ok-push w ↦
          subst (λ (tokens : List Token). Kept c.args.bytes.now (c.loop-at.at + c.in_ok-len.field-0.len) c.in_ok-len.field-0.fresh tokens) (sym (w.tokens-is ∙ w.in_ok-push.ensures.ok))
          (Kept-lexeme c.args.bytes.now c.loop-at.at c.loop-at.fresh c.loop-at.tokens c.in_ok-len.field-0 w.in-Some.kind c.loop-at.invariant.within c.loop-at.invariant.so_far
          c.in_ok-len.ensures.found w.in-Some.is (λ full. w.if-len-eq-MOST_TOKENS.false (w.len.ensures ∙ full)))
      | in_default w ↦
          subst (λ (tokens : List Token). Kept c.args.bytes.now (c.loop-at.at + c.in_ok-len.field-0.len) c.in_ok-len.field-0.fresh tokens) (sym w.tokens-is)
          (Kept-space c.args.bytes.now c.loop-at.at c.loop-at.fresh c.loop-at.tokens c.in_ok-len.field-0 c.loop-at.invariant.within c.loop-at.invariant.so_far
          c.in_ok-len.ensures.found w.in_default.is)
    ]

-- What stands at both sides of the calls of a group goes between states of their callers.
use Rattle.std.proofs.Common.{◌≡◌, ℕ, ◌+◌, List, [], ◌∷◌, ◌++◌, length, refl, sym, ap, subst, ◌∙◌, append_assoc, append-nil, length-append, arith}
use Rattle.std.specs.List.{AllByRecursion}
use Rattle.items.proofs.Each.{each-append}
use Rattle.newton_rounds.specs.declared.calls.Sides.{Sides}
use Rattle.newton_rounds.specs.Closure.{ends_at}
use Rattle.newton_rounds.specs.Members.{GroupCall}
use Rattle.newton_rounds.specs.Pairs.{PairEnds}
use Rattle.newton_rounds.specs.Shapes.{AddSides, FitCalls, FitSides}

pub none-added : (columns : ℕ) (made : List Sides) → AddSides columns 0 made made
none-added columns made = record { more = []; is = sym (append-nil made); many = refl; fit = tt }

pub both-added : (columns n m : ℕ) (made next all : List Sides) → AddSides columns n made next → AddSides columns m next all → AddSides columns (n + m) made all
both-added columns n m made next all first second = record {
  more = first.more ++ second.more;
  is = second.is ∙ ap (λ (l : List Sides). l ++ second.more) first.is ∙ append_assoc made first.more second.more;
  many = let all = length-append first.more second.more in let one = first.many in let other = second.many in omega (arith, all, one, other);
  fit = each-append (FitSides columns) first.more second.more first.fit second.fit;
}

-- those of the calls of one member, before those of others
pub calls-fit : (members : List PairEnds) (columns caller : ℕ) → (ends_at members caller).ends.full.columns ≡ columns → (calls others : List GroupCall) (more rest : List Sides)
    → length more ≡ length calls → AllByRecursion (λ (call : GroupCall). call.caller ≡ caller) calls → AllByRecursion (FitSides columns) more → FitCalls members others rest
    → FitCalls members (calls ++ others) (more ++ rest)
calls-fit members columns caller wide [] others [] rest many own fit last = last
calls-fit members columns caller wide [] others (one ∷ more) rest many own fit last = absurd (omega (arith, many))
calls-fit members columns caller wide (call ∷ calls) others [] rest many own fit last = absurd (omega (arith, many))
calls-fit members columns caller wide (call ∷ calls) others (one ∷ more) rest many own fit last = (
  subst (λ n. FitSides n one) (sym (ap (λ n. (ends_at members n).ends.full.columns) own.0 ∙ wide)) fit.0,
  calls-fit members columns caller wide calls others more rest (omega (arith, many)) own.1 fit.1 last,
)

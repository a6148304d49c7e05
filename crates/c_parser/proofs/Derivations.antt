-- What is read as an expression is spelled by a derivation of it.
use Rattle.std.proofs.Common.{◌≡◌, ℕ, zero, suc, Bool, true, false, List, [], ◌∷◌, refl, sym, ap, ◌∙◌}
use Rattle.std.specs.Prelude.{Option, None, Some, Ok, nat_eq, if◌then◌else◌, Result}
use Rattle.std.proofs.lemmas.Bool.{eqb-true}
use denote.Enum.Bare.{same_true}
use Rattle.items.proofs.Gives.{on_ok}
use Rattle.c_lexer.specs.contracts.mark.Mark.{the_type}
use Rattle.c_lexer.specs.declared.kind.TokenKind.{TokenKind}
use Rattle.c_lexer.specs.declared.kind.TokenKind.TheVariants as kind
use Rattle.c_lexer.specs.declared.mark.Mark.{Mark}
use Rattle.c_lexer.specs.declared.mark.Mark.TheVariants as marks
use Rattle.syntax_tree.specs.declared.op.Op.{Op}
use Rattle.syntax_tree.specs.declared.op.Op.TheVariants as op
use Rattle.syntax_tree.specs.declared.op.Sign.{Sign}
use Rattle.syntax_tree.specs.declared.op.Sign.TheVariants as sign
use Rattle.c_parser.specs.Descent.{Rest, begins_with, behind, deeper, is_mark, of_rank, one_less, op_at, op_in, op_of, past, sign_of, tail}
use Rattle.c_parser.specs.Operators.{op_mark, rank, sign_mark}
use Rattle.c_parser.specs.Spots.{Spot, mark}
use Rattle.c_parser.proofs.Repeats.{by_choice}

-- ---- what an answer tells of the steps to it

pub ok_one : {A E : Type 0} (x y : A) → (let r : Result A E = Ok x in r) ≡ Ok y → x ≡ y
ok_one x y e = cc

-- ---- single tokens

pub is_mark-kind : (m : Mark) (k : TokenKind) → is_mark m k ≡ true → k ≡ kind.Mark m
is_mark-kind m (kind.Mark found) e = ap kind.Mark (same_true the_type tt found m e)
is_mark-kind m (kind.Word name) e = cc
is_mark-kind m (kind.Keyword k) e = cc
is_mark-kind m (kind.Number value) e = cc
is_mark-kind m kind.End e = cc

-- the mark that stands first
pub begins_with-mark : (m : Mark) (spots : List Spot) → begins_with m spots ≡ true → (at : ℕ) × (spots ≡ mark at m ∷ tail spots)
begins_with-mark m [] e = cc
begins_with-mark m (spot ∷ spots) e = (spot.at, (let same = is_mark-kind m spot.kind e in λ i. record { at = spot.at; kind = same i } ∷ spots))

pub past-mark : (m : Mark) (spots after : List Spot) → past m spots ≡ Ok after → (at : ℕ) × (spots ≡ mark at m ∷ after)
past-mark m spots after e =
    by_choice (begins_with m spots) _ _ after e
    (λ found came. let first = begins_with-mark m spots found in (first.0, first.1 ∙ ap (λ rest. mark first.0 m ∷ rest) (ok_one _ _ came)))
    (λ missing came. absurd (cc))

pub behind-mark : (m : Mark) (rest after : Rest) → behind m rest ≡ Ok after → (at : ℕ) × (rest.spots ≡ mark at m ∷ after.spots) × (rest.operators ≡ after.operators)
behind-mark m rest after e =
    on_ok (past m rest.spots) _ after e
    (λ spots came made. let same = ok_one _ _ made in let first = past-mark m rest.spots spots came in
    (first.0, first.1 ∙ ap (λ (r : Rest). mark first.0 m ∷ r.spots) same, ap (λ (r : Rest). r.operators) same))

pub deeper-level : (levels at level : ℕ) → deeper levels at ≡ Ok level → levels ≡ suc level
deeper-level zero at level e = cc
deeper-level (suc levels) at level e = ap suc (ok_one _ _ e)

pub one_less-rest : (spots : List Spot) (operators : ℕ) (after : Rest) → one_less spots operators ≡ Ok after → (tail spots ≡ after.spots) × (operators ≡ suc after.operators)
one_less-rest spots zero after e = cc
one_less-rest spots (suc operators) after e = let same = ok_one _ _ e in (ap (λ (r : Rest). r.spots) same, ap (λ (r : Rest). suc r.operators) same)

pub op_of-mark : (m : Mark) (found : Op) → op_of m ≡ Some found → m ≡ op_mark found
op_of-mark marks.OrOr found e = let same : op.Or ≡ found = cc in ap op_mark same
op_of-mark marks.AndAnd found e = let same : op.And ≡ found = cc in ap op_mark same
op_of-mark marks.Same found e = let same : op.Eq ≡ found = cc in ap op_mark same
op_of-mark marks.Differ found e = let same : op.Ne ≡ found = cc in ap op_mark same
op_of-mark marks.Less found e = let same : op.Lt ≡ found = cc in ap op_mark same
op_of-mark marks.LessEqual found e = let same : op.Le ≡ found = cc in ap op_mark same
op_of-mark marks.More found e = let same : op.Gt ≡ found = cc in ap op_mark same
op_of-mark marks.MoreEqual found e = let same : op.Ge ≡ found = cc in ap op_mark same
op_of-mark marks.Plus found e = let same : op.Add ≡ found = cc in ap op_mark same
op_of-mark marks.Minus found e = let same : op.Sub ≡ found = cc in ap op_mark same
op_of-mark marks.Star found e = let same : op.Mul ≡ found = cc in ap op_mark same
op_of-mark marks.Slash found e = let same : op.Div ≡ found = cc in ap op_mark same
op_of-mark marks.Percent found e = let same : op.Rem ≡ found = cc in ap op_mark same
op_of-mark _ found e = cc

of_rank-rank : (r : ℕ) (o : Option Op) (found : Op) → of_rank r o ≡ Some found → (o ≡ Some found) × (rank found ≡ r)
of_rank-rank r None found e = cc
of_rank-rank r (Some other) found e = by_test (nat_eq (rank other) r) refl e
  where
    by_test : (b : Bool) → nat_eq (rank other) r ≡ b → (if b then Some other else None) ≡ Some found → (Some other ≡ Some found) × (rank found ≡ r)
    by_test true t e = let same : other ≡ found = cc in (e, ap rank (sym same) ∙ eqb-true (rank other) r t)
    by_test false t e = cc

op_in-kind : (r : ℕ) (k : TokenKind) (found : Op) → op_in r k ≡ Some found → (k ≡ kind.Mark (op_mark found)) × (rank found ≡ r)
op_in-kind r (kind.Mark m) found e = let parts = of_rank-rank r (op_of m) found e in (ap kind.Mark (op_of-mark m found parts.0), parts.1)
op_in-kind r (kind.Word name) found e = cc
op_in-kind r (kind.Keyword k) found e = cc
op_in-kind r (kind.Number value) found e = cc
op_in-kind r kind.End found e = cc

pub op_at-mark : (r : ℕ) (spots : List Spot) (found : Op) → op_at r spots ≡ Some found → (at : ℕ) × (spots ≡ mark at (op_mark found) ∷ tail spots) × (rank found ≡ r)
op_at-mark r [] found e = cc
op_at-mark r (spot ∷ spots) found e =
    let parts = op_in-kind r spot.kind found e in
    (spot.at, (λ i. record { at = spot.at; kind = parts.0 i } ∷ spots), parts.1)

pub sign_of-mark : (m : Mark) (found : Sign) → sign_of m ≡ Some found → m ≡ sign_mark found
sign_of-mark marks.Plus found e = let same : sign.Plus ≡ found = cc in ap sign_mark same
sign_of-mark marks.Minus found e = let same : sign.Minus ≡ found = cc in ap sign_mark same
sign_of-mark marks.Bang found e = let same : sign.Not ≡ found = cc in ap sign_mark same
sign_of-mark _ found e = cc

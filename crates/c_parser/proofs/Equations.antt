-- The functions of `Descent` that do not unfold, by equations.
use Rattle.std.proofs.Common.{◌≡◌, ◌≢◌, ◌<◌, ◌≤◌, ℕ, zero, suc, ◌-◌, Bool, true, false, List, [], ◌∷◌, length, take, drop, get_or, refl, sym, ap, ◌∙◌, arith}
use Rattle.std.proofs.lemmas.List.{take_all}
use Rattle.std.specs.Prelude.{Err, if◌then◌else◌}
use Rattle.items.specs.Gives.{◌>>=◌}
use Rattle.c_lexer.specs.declared.token.Token.{Token}
use Rattle.c_parser.specs.declared.error.ParseError.TheVariants as error
use Rattle.c_parser.specs.Descent.{Rest, Reader, expression_below, links, operand, operand_by, operand_in, place_at, refusal_of, rest_of}
use Rattle.c_parser.specs.Profile.{is_outside}
use Rattle.c_parser.specs.Spots.{Spot, spots_of}

pub operand_at : (levels : ℕ) (rest : Rest) → operand levels rest ≡ operand_in operand levels rest.spots rest.operators
unfolding operand
operand_at zero rest = refl
operand_at (suc levels) rest = refl

pub joined-none : (reader : Reader) (ranks : ℕ) (rest : Rest) → ranks ≡ 0 → expression_below reader ranks rest ≡ reader rest
unfolding expression_below
joined-none reader zero rest e = refl
joined-none reader (suc r) rest e = absurd (omega arith)

pub joined-suc : (reader : Reader) (r : ℕ) (rest : Rest) → expression_below reader (suc r) rest ≡ expression_below reader r rest >>= links r (expression_below reader r) (place_at rest.spots)
unfolding expression_below
joined-suc reader r rest = refl

pub joined-some : (reader : Reader) (ranks : ℕ) (rest : Rest) → ranks ≢ 0 →
    expression_below reader ranks rest ≡ expression_below reader (ranks - 1) rest >>= links (ranks - 1) (expression_below reader (ranks - 1)) (place_at rest.spots)
unfolding expression_below
joined-some reader zero rest e = absurd (e refl)
joined-some reader (suc r) rest e = let same : suc r - 1 ≡ r = omega arith in rw same refl

pub ruleset joining = (joined-none, joined-some)

pub operand-none : (levels : ℕ) (tokens : List Token) (operators : ℕ) → length tokens < 1 → operand levels (rest_of tokens operators) ≡ Err (error.Syntax 0)
operand-none levels [] operators e = operand_at levels (rest_of [] operators)
operand-none levels (token ∷ tokens) operators e = absurd (omega arith)

behind_first : (token : Token) (tokens : List Token) → take (length (token ∷ tokens) - 1) (drop 1 (token ∷ tokens)) ≡ tokens
behind_first token tokens = let same : suc (length tokens) - 1 ≡ length tokens = omega arith in rw same (take_all _ tokens (omega arith))

pub operand-some : (levels : ℕ) (tokens : List Token) (operators : ℕ) (token : Token) → 1 ≤ length tokens → token ≡ get_or tokens 0 token
    → operand levels (rest_of tokens operators)
    ≡ operand_by operand levels token.kind token.at (refusal_of (spots_of tokens)) (rest_of (take (length tokens - 1) (drop 1 tokens)) operators)
operand-some levels [] operators token h e = absurd (omega arith)
operand-some levels (first ∷ tokens) operators token h e =
    operand_at levels (rest_of (first ∷ tokens) operators)
    ∙ ap (λ rest. operand_by operand levels first.kind first.at (refusal_of (spots_of (first ∷ tokens))) (rest_of rest operators)) (sym (behind_first first tokens))
    ∙ ap (λ (shown : Token). operand_by operand levels shown.kind shown.at (refusal_of (spots_of (first ∷ tokens))) (rest_of (take (length (first ∷ tokens) - 1) (drop 1 (first ∷ tokens))) operators)) (sym e)

by_test : (b : Bool) (at : ℕ) → (if b then error.Unsupported at else error.Syntax at) ≢ error.Memory
by_test true at e = cc
by_test false at e = cc

-- a refusal is no want of memory
pub refused-exact : (spots : List Spot) → refusal_of spots ≢ error.Memory
refused-exact [] = λ e. cc
refused-exact (spot ∷ spots) = by_test (is_outside spot.kind) spot.at

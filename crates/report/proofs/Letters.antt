-- The letters of a name are ASCII.
use Rattle.std.proofs.Common.{◌≡◌, ℕ, zero, suc, ◌<◌, ◌&&◌, ◌||◌, ◌==◌, Bool, true, false, List, [], ◌∷◌, IsTrue, arith, refl}
use Rattle.std.specs.Prelude.{nat_le}
use Rattle.std.specs.List.{list_all}
use Rattle.std.specs.Char.{is_ascii_alphanumeric}
use Rattle.std.specs.Str.{IsAscii, IsUtf8}
use Rattle.std.specs.Int.{is_in_range}
use Rattle.std.proofs.lemmas.Bool.{eqb-true, leb-true}
use Rattle.std.proofs.lemmas.Str.{IsUtf8-from_ascii}
use Rattle.syntax_tree.specs.Name.{is_name_byte}

either : {P : Type 0} (a b : Bool) → (a ≡ true → P) → (b ≡ true → P) → (a || b) ≡ true → P
either true b one other e = one refl
either false b one other e = other e

both : (a b : Bool) → (a && b) ≡ true → (a ≡ true) × (b ≡ true)
both true b e = (refl, e)
both false b e = cc

in-range : (low high b : ℕ) → high < 128 → is_in_range low high b ≡ true → b < 128
in-range low high b few e = let below = leb-true b high (both (nat_le low b) (nat_le b high) e).1 in omega (arith, below, few)

letter-small : (b : ℕ) → is_name_byte b ≡ true → b < 128
letter-small b =
    either (is_ascii_alphanumeric b) (b == 95)
    (either (is_in_range 48 57 b || is_in_range 65 90 b) (is_in_range 97 122 b)
    (either (is_in_range 48 57 b) (is_in_range 65 90 b) (in-range 48 57 b (omega arith)) (in-range 65 90 b (omega arith)))
    (in-range 97 122 b (omega arith)))
    (λ e. let same = eqb-true b 95 e in omega (arith, same))

letters-ascii : (letters : List ℕ) → list_all is_name_byte letters ≡ true → IsAscii letters
letters-ascii [] e i = omega arith
letters-ascii (b ∷ letters) e zero = letter-small b (both (is_name_byte b) (list_all is_name_byte letters) e).0
letters-ascii (b ∷ letters) e (suc i) = letters-ascii letters (both (is_name_byte b) (list_all is_name_byte letters) e).1 i

pub letters-utf8 : (letters : List ℕ) → IsTrue (list_all is_name_byte letters) → IsUtf8 letters
letters-utf8 letters is = IsUtf8-from_ascii letters (letters-ascii letters is)

pub ruleset letters = (letters-utf8)

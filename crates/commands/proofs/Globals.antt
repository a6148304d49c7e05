-- The global of a name, by its place among those of a program.
use Rattle.std.proofs.Common.{◌≡◌, ℕ, zero, suc, ◌+◌, ◌≤◌, Bool, true, false, not, cond, List, [], ◌∷◌, length, get_or, refl, sym, ap, ◌∙◌, arith}
use Rattle.std.specs.Prelude.{Option, None, Some, slice_get, position, nat_lt}
use Rattle.std.specs.List.{position_or_len}
use Rattle.std.specs.Str.{bytes_eq}
use Rattle.std.proofs.lemmas.Bool.{ltb-false}
use Rattle.std.proofs.lemmas.List.Quantifiers.{position-Some}
use Rattle.std.proofs.lemmas.Option.{slice_get-get_or}
use Rattle.std.proofs.lemmas.Slice.Eq.{bytes_eq-Decides}
use Rattle.syntax_tree.specs.declared.program.GlobalVar.{GlobalVar}
use Rattle.syntax_tree.specs.declared.program.Program.{Program}
use Rattle.commands.specs.Cost.{HasNoGlobal, IsGlobal}
use Rattle.commands.specs.Posts.{IsFoundAs}

abbrev is_named : List ℕ → GlobalVar → Bool
is_named name g = bytes_eq g.name name

numbered : (program : Program) (name : List ℕ) (number : ℕ) → position (is_named name) program.globals ≡ Some number → IsGlobal program name number
numbered program name number e = by_list program.globals e
  where
    by_list : (globals : List GlobalVar) → position (is_named name) globals ≡ Some number → (global : GlobalVar) × (slice_get globals number ≡ Some global) × (global.name ≡ name)
    by_list [] e = absurd (cc e)
    by_list (g ∷ globals) e =
        let at = position-Some (is_named name) (g ∷ globals) number g e in
        (get_or (g ∷ globals) number g, slice_get-get_or (g ∷ globals) number g at.0, (bytes_eq-Decides _ name).0 at.1)

-- where one passes, not all are passed over
module _ (p : GlobalVar → Bool) where
  passed : (b : Bool) (g : GlobalVar) (n m : ℕ) → p g ≡ b → b ≡ true → suc m ≤ cond (not (p g)) (1 + n) 0 → ⊥
  passed true g n m is e few = none (p g) is few
    where
      none : (c : Bool) → c ≡ true → suc m ≤ cond (not c) (1 + n) 0 → ⊥
      none true e few = omega (arith, few)
      none false e few = cc e
  passed false g n m is e few = cc e

  never : (globals : List GlobalVar) (number : ℕ) (g : GlobalVar) → length globals ≤ position_or_len p globals → slice_get globals number ≡ Some g → p g ≡ true → ⊥
  never [] number g all at is = cc at
  never (h ∷ globals) zero g all at is =
      let same : h ≡ g = cc at in
      passed (p h) h (position_or_len p globals) (length globals) refl (ap p same ∙ is) all
  never (h ∷ globals) (suc number) g all at is = never globals number g (fewer (p h) all) at is
    where
      fewer : (b : Bool) → suc (length globals) ≤ cond (not b) (1 + position_or_len p globals) 0 → length globals ≤ position_or_len p globals
      fewer true few = absurd (omega (arith, few))
      fewer false few = omega (arith, few)

  all-passed_over : (globals : List GlobalVar) → position p globals ≡ None → length globals ≤ position_or_len p globals
  all-passed_over globals e = by (nat_lt (position_or_len p globals) (length globals)) refl e
    where
      by : (b : Bool) → nat_lt (position_or_len p globals) (length globals) ≡ b → cond b (Some (position_or_len p globals)) None ≡ None → length globals ≤ position_or_len p globals
      by true is none = absurd (cc none)
      by false is none = ltb-false (position_or_len p globals) (length globals) is

unnumbered : (program : Program) (name : List ℕ) → position (is_named name) program.globals ≡ None → HasNoGlobal program name
unnumbered program name e number is =
    never (is_named name) program.globals number is.0 (all-passed_over (is_named name) program.globals e) is.1 ((bytes_eq-Decides is.0.name name).1 is.2)

pub found : (program : Program) (name : List ℕ) (o : Option ℕ) → o ≡ position (is_named name) program.globals → IsFoundAs program name o
found program name (Some number) e = numbered program name number (sym e)
found program name None e = unnumbered program name (sym e)

-- Laws of repeated steps.
use Rattle.std.proofs.Common.{◌≡◌, ℕ, zero, suc, ◌<◌, refl, sym, ap, subst, ◌∙◌, arith, Bool, true, false}
use Rattle.std.specs.Prelude.{Option, Result, Ok, Err, nat_lt, if◌then◌else◌}
use Rattle.std.proofs.lemmas.Bool.Decides.{nat_tests}
use Rattle.std.proofs.lemmas.Bool.{ltb-true}
use Rattle.items.specs.Gives.{◌>>=◌, FailsBy}
use Rattle.items.proofs.Gives.{FailsBy-bind, on_ok}
use Rattle.c_parser.specs.declared.error.ParseError.{ParseError}
use Rattle.c_parser.specs.declared.error.ParseError.TheVariants as error
use Rattle.c_parser.specs.Repeat.{go_on, repetition, repeat}

pub chosen : {A : Type 0} (b : Bool) (x y : A) → b ≡ true → (if b then x else y) ≡ x
chosen true x y e = refl
chosen false x y e = cc

pub left_out : {A : Type 0} (b : Bool) (x y : A) → b ≡ false → (if b then x else y) ≡ y
left_out false x y e = refl
left_out true x y e = cc

-- a choice that came to a value went one way
pub by_choice : {A E P : Type 0} (b : Bool) (x y : Result A E) (z : A) → (if b then x else y) ≡ Ok z → (b ≡ true → x ≡ Ok z → P) → (b ≡ false → y ≡ Ok z → P) → P
by_choice true x y z e taken left = taken refl e
by_choice false x y z e taken left = left refl e

module _ {S : Type 0} (size : S → ℕ) (test : S → Bool) (step : S → Result S ParseError) where
  abbrev Answer : Type 0
  Answer = Result S ParseError

  -- times that suffice are as good as any others
  by_bound : (again other : S → Answer) (bound : ℕ) (after : S) (b : Bool) → nat_lt (size after) bound ≡ b → (size after < bound → again after ≡ other after)
      → (if b then again after else Err (error.Syntax 0)) ≡ (if b then other after else Err (error.Syntax 0))
  by_bound again other bound after false e same = refl
  by_bound again other bound after true e same = same (ltb-true _ _ e)

  by_step : (again other : S → Answer) (bound : ℕ) (r : Answer) → ((after : S) → size after < bound → again after ≡ other after)
      → r >>= go_on size bound again ≡ r >>= go_on size bound other
  by_step again other bound (Ok after) same = by_bound again other bound after (nat_lt (size after) bound) refl (same after)
  by_step again other bound (Err e) same = refl

  by_test : (again other : S → Answer) (state : S) (b : Bool) → ((after : S) → size after < size state → again after ≡ other after)
      → (if b then (step state >>= go_on size (size state) again) else Ok state) ≡ (if b then (step state >>= go_on size (size state) other) else Ok state)
  by_test again other state true same = by_step again other (size state) (step state) same
  by_test again other state false same = refl

  repeated-enough : (m n : ℕ) (state : S) → size state < m → size state < n → repetition size test step m state ≡ repetition size test step n state
  repeated-enough zero n state h k = absurd (omega arith)
  repeated-enough (suc m) zero state h k = absurd (omega arith)
  repeated-enough (suc m) (suc n) state h k =
      by_test (repetition size test step m) (repetition size test step n) state (test state) (λ after less. repeated-enough m n after (omega arith) (omega arith))

  pub repeat-step : (state : S) → repeat size test step state ≡ (if test state then (step state >>= go_on size (size state) (repeat size test step)) else Ok state)
  unfolding repeat
  repeat-step state =
      by_test (repetition size test step (size state)) (repeat size test step) state (test state)
      (λ after less. repeated-enough (size state) (suc (size after)) after less (omega arith))

  pub repeat-done : (state : S) → test state ≡ false → repeat size test step state ≡ Ok state
  repeat-done state e = repeat-step state ∙ left_out (test state) _ _ e

  -- one step
  pub repeat-once : (state : S) → test state ≡ true → repeat size test step state ≡ step state >>= go_on size (size state) (repeat size test step)
  repeat-once state e = repeat-step state ∙ chosen (test state) _ _ e

  pub repeat-more : (state after : S) → test state ≡ true → step state ≡ Ok after → size after < size state → repeat size test step state ≡ repeat size test step after
  repeat-more state after e made less =
      repeat-once state e ∙ ap (λ r. r >>= go_on size (size state) (repeat size test step)) made
      ∙ chosen (nat_lt (size after) (size state)) _ _ (grind (arith, nat_tests))

  pub repeat-fails : (cause : Option ParseError) (state : S) → test state ≡ true → FailsBy cause (step state) → FailsBy cause (repeat size test step state)
  repeat-fails cause state e fails =
      subst (FailsBy cause) (sym (repeat-once state e)) (FailsBy-bind cause (step state) (go_on size (size state) (repeat size test step)) fails)

  -- the steps end where the test fails
  repeated-ends : (times : ℕ) (state after : S) → repetition size test step times state ≡ Ok after → test after ≡ false
  repeated-ends zero state after e = cc
  repeated-ends (suc times) state after e =
      by_choice (test state) (step state >>= go_on size (size state) (repetition size test step times)) (Ok state) after e
      (λ taken came. on_ok (step state) (go_on size (size state) (repetition size test step times)) after came
      (λ next made goes. by_choice (nat_lt (size next) (size state)) (repetition size test step times next) (Err (error.Syntax 0)) after goes
      (λ less again. repeated-ends times next after again) (λ more none. absurd (cc))))
      (λ ended came. let same : state ≡ after = cc in subst (λ s. test s ≡ false) same ended)

  pub repeat-ends : (state after : S) → repeat size test step state ≡ Ok after → test after ≡ false
  unfolding repeat
  repeat-ends state after e = repeated-ends (suc (size state)) state after e

  -- what each step keeps holds of what the steps come to
  module _ (P : S → Type 0) (keeps : (state after : S) → test state ≡ true → step state ≡ Ok after → P state → P after) where
    repeated-keeps : (times : ℕ) (state after : S) → P state → repetition size test step times state ≡ Ok after → P after
    repeated-keeps zero state after holds e = cc
    repeated-keeps (suc times) state after holds e =
        by_choice (test state) (step state >>= go_on size (size state) (repetition size test step times)) (Ok state) after e
        (λ taken came. on_ok (step state) (go_on size (size state) (repetition size test step times)) after came
        (λ next made goes. by_choice (nat_lt (size next) (size state)) (repetition size test step times next) (Err (error.Syntax 0)) after goes
        (λ less again. repeated-keeps times next after (keeps state next taken made holds) again) (λ more none. absurd (cc))))
        (λ ended came. let same : state ≡ after = cc in subst P same holds)

    pub repeat-keeps : (state after : S) → P state → repeat size test step state ≡ Ok after → P after
    unfolding repeat
    repeat-keeps state after holds e = repeated-keeps (suc (size state)) state after holds e

-- The special names, which a text calls without declaring them: those of `assert.h` (C11 7.2) and
-- `stdlib.h` (C11 7.22.4) and those of the software verification competition.
use Rattle.std.specs.Prelude.{ℕ, Bool, true, false, ◌||◌, Option, None, Some, is_some, List, codes, if◌then◌else◌}
use Rattle.std.specs.Str.{bytes_eq}
use Rattle.typing.specs.declared.special.Special.{Special}
use Rattle.typing.specs.declared.special.Special.TheVariants.{Assert, Assume, Nondet, Error, Abort, Exit}

-- what a name stands for, where it is special
unfoldable pub special_of : List ℕ → Option Special
special_of name =
    if bytes_eq name (codes "assert") || bytes_eq name (codes "__VERIFIER_assert") then Some Assert
    else (
    if bytes_eq name (codes "assume") || bytes_eq name (codes "__VERIFIER_assume") then Some Assume
    else (
    if bytes_eq name (codes "__VERIFIER_nondet_int") then Some Nondet else (
    if bytes_eq name (codes "__VERIFIER_error") then Some Error else (
    if bytes_eq name (codes "abort") then Some Abort else (
    if bytes_eq name (codes "exit") then Some Exit else None)))))

-- the name is one of the special ones
abbrev pub is_special : List ℕ → Bool
is_special name = is_some (special_of name)

-- how many arguments it takes
abbrev pub arguments_of : Special → ℕ
arguments_of Assert = 1
arguments_of Assume = 1
arguments_of Nondet = 0
arguments_of Error = 0
arguments_of Abort = 0
arguments_of Exit = 1

-- only one of them has a value: any number
abbrev pub has_value : Special → Bool
has_value Nondet = true
has_value _ = false

-- a call of one of these is an assertion
abbrev pub is_assertion : Special → Bool
is_assertion Assert = true
is_assertion Error = true
is_assertion _ = false

-- the procedure with which a program begins (C11 5.1.2.2.1)
unfoldable pub is_main : List ℕ → Bool
is_main name = bytes_eq name (codes "main")

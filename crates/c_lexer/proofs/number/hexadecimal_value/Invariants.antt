use Rattle.std.proofs.Common.{◌≡◌, ◌-◌, ◌^◌, min, take}
use Rattle.c_lexer.specs.Kinds.{hexadecimal_value}
use Rattle.c_lexer.proofs.number.hexadecimal_value.Given as goal

-- what the digits so far spell, where 64 bits hold it
abbrev pub invariant-loop-digit : goal.invariant-loop-digit
invariant-loop-digit l = l.value ≡ min (hexadecimal_value (take l.digit-index l.digits)) (2 ^ 64 - 1)

-- Numbers of 128 bits, and the sums and products that leave them.
use Rattle.std.specs.Prelude.{◌^◌, Bool, true, false, ℤ, pos, negsuc, ◌+ℤ◌, ◌*ℤ◌, Result, Ok, Err, if◌then◌else◌, nat_lt}
use Rattle.whole_numbers.specs.declared.wide.Wide.{Wide}

-- z is a number of 128 bits, which run from -(2 ^ 127) to 2 ^ 127 - 1
abbrev pub fits : ℤ → Bool
fits (pos n) = nat_lt n (2 ^ 127)
fits (negsuc n) = nat_lt n (2 ^ 127)

-- the sum where it is a number of 128 bits, else its operands
abbrev pub sum_of : ℤ → ℤ → Result ℤ Wide
sum_of a b = if fits (a +ℤ b) then Ok (a +ℤ b) else Err record {
  left = a;
  right = b;
  times = false;
}

-- the product where it is a number of 128 bits, else its operands
abbrev pub product_of : ℤ → ℤ → Result ℤ Wide
product_of a b = if fits (a *ℤ b) then Ok (a *ℤ b) else Err record {
  left = a;
  right = b;
  times = true;
}

-- What the crate's examples of `Gives` cite: sums of bytes, where a sum past a byte is the fault.
use Rattle.std.specs.Prelude.{ℕ, ◌+◌, ◌-◌, List, [], ◌∷◌, ◌++◌, Result, Ok, Err, if◌then◌else◌, nat_lt}
use Rattle.items.specs.Gives.{◌>>=◌, err_map}

-- the sum of two numbers where it is below 256; else the fault is that sum
abbrev pub byte_sum : ℕ → ℕ → Result ℕ ℕ
byte_sum a b = if nat_lt (a + b) 256 then Ok (a + b) else Err (a + b)

-- two steps: the first sum that is past a byte is the fault
abbrev pub byte_sum_of_three : ℕ → ℕ → ℕ → Result ℕ ℕ
byte_sum_of_three a b c = byte_sum a b >>= λ s. byte_sum s c

-- a list after what is made already
abbrev pub behind : List ℕ → Result (List ℕ) ℕ → Result (List ℕ) ℕ
behind front rest = rest >>= λ made. Ok (front ++ made)

-- each number's double; the fault is how far the first that is past a byte is past it
abbrev pub doubles_of : List ℕ → Result (List ℕ) ℕ
doubles_of [] = Ok []
doubles_of (x ∷ xs) = err_map (λ s. s - 255) (byte_sum x x) >>= λ d. behind (d ∷ []) (doubles_of xs)

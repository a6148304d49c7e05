-- The limit of a list of products.
use Rattle.std.specs.Prelude.{ℕ}

-- the most products of rows
abbrev pub most_products : ℕ
most_products = 64

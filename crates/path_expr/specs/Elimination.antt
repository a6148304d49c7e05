-- The stated elimination (Tarjan 1981): which path expression stands at each node.
--
-- Nodes go by their places: the source has place 0, the others follow in their order. A table has a
-- cell for each two places, and its last place is eliminated first.
use Rattle.std.specs.Prelude.{ℕ, zero, suc, ◌+◌, ◌-◌, ◌==◌, ◌&&◌, nat_lt, List, Bool, [], ◌∷◌, ◌++◌, if◌then◌else◌}
use Rattle.path_expr.specs.declared.link.Link.{Link}
use Rattle.path_expr.specs.PathExpr.{PathExpr, Zero, Edge, seq_of, join_of, star_of}

-- the place of a node
abbrev pub place_of : ℕ → ℕ → ℕ
place_of source node = if node == source then 0 else (if nat_lt node source then node + 1 else node)

-- a path expression for each two places
abbrev pub Table : Type 0
Table = ℕ → ℕ → PathExpr

-- the link leads from place i to place j
abbrev pub joins : ℕ → Link → ℕ → ℕ → Bool
joins source link i j = place_of source link.from == i && place_of source link.to == j

-- the numbers, in order, of the links that lead from place i to place j, where these links are
-- numbered from `number` on
abbrev pub links_between : ℕ → ℕ → List Link → ℕ → ℕ → List ℕ
links_between source number [] i j = []
links_between source number (link ∷ links) i j =
    (if joins source link i j
    then number ∷ links_between source (number + 1) links i j
    else links_between source (number + 1) links i j)

-- the join of a path and of links, from the left
abbrev pub path_through : PathExpr → List ℕ → PathExpr
path_through path [] = path
path_through path (number ∷ numbers) = path_through (join_of path (Edge number)) numbers

-- the table at the beginning: a cell is the join of the links that lead from its one place to the
-- other
unfoldable pub first_table : List Link → ℕ → Table
first_table links source i j = path_through Zero (links_between source 0 links i j)

-- the table after place n is eliminated: below n, a path may now lead through n, where it may turn
-- at will
unfoldable pub after_elimination : ℕ → Table → Table
after_elimination n cells i j =
    (if nat_lt i n && nat_lt j n
    then join_of (cells i j) (seq_of (seq_of (cells i n) (star_of (cells n n))) (cells n j))
    else cells i j)

-- the table after the last `count` places are eliminated, the last one first
abbrev pub table_after : ℕ → List Link → ℕ → ℕ → Table
table_after nodes links source zero = first_table links source
table_after nodes links source (suc count) =
    after_elimination (nodes - suc count) (table_after nodes links source count)

-- the table after all places but the source's are eliminated
abbrev pub last_table : ℕ → List Link → ℕ → Table
last_table nodes links source = table_after nodes links source (nodes - 1)

-- the joins, put behind a path, of the ways to place n: the way to a place below it, from p on, the
-- cell from there to n, and turns at n
abbrev pub arrivals : Table → ℕ → List PathExpr → ℕ → PathExpr → PathExpr
arrivals cells n [] p path = path
arrivals cells n (way ∷ ways) p path =
    arrivals cells n ways (p + 1)
    (join_of path (seq_of (seq_of way (cells p n)) (star_of (cells n n))))

-- the way from the source to place n, from the ways to the places below it
abbrev pub way_from : Table → ℕ → List PathExpr → PathExpr
way_from cells zero ways = star_of (cells 0 0)
way_from cells (suc n) ways = arrivals cells (suc n) ways 0 Zero

-- the ways from the source to the places below n
abbrev pub ways : Table → ℕ → List PathExpr
ways cells zero = []
ways cells (suc n) = ways cells n ++ way_from cells n (ways cells n) ∷ []

-- the way from the source to place n
abbrev pub way_at : Table → ℕ → PathExpr
way_at cells n = way_from cells n (ways cells n)

-- the path expression that the elimination gives for a node: the way from the source to its place
unfoldable pub path_at : ℕ → List Link → ℕ → ℕ → PathExpr
path_at nodes links source node = way_at (last_table nodes links source) (place_of source node)

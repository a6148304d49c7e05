-- What the next way, and the next arrival, are made from: what was known before the algebra was
-- used is still known.
use Rattle.std.proofs.Common.{◌≡◌, ℕ, ◌<◌, ◌≤◌, List, length, get_or, Option, Some, refl, sym, subst, arith}
use Rattle.std.specs.Prelude.{slice_get}
use Rattle.std.proofs.lemmas.Option.{slice_get_read}
use Rattle.path_expr.specs.PathExpr.{PathExpr, star_of}
use Rattle.path_expr.specs.Algebra.{Keeps}
use Rattle.path_expr.specs.Elimination.{way_at}
use Rattle.path_expr.specs.Holds.{IsItemOrOne, IsWay, AreWays, HoldsAll, node_at}
use Rattle.path_expr.specs.Table.{cell}
use Rattle.path_expr.specs.declared.cell.Cell.{Cell}
use Rattle.path_expr.specs.declared.table.Table.{Table}
use Rattle.path_expr.proofs.HoldLemmas.{IsItemOrOne-kept, IsWay-kept, HoldsAll-kept}

-- the cells, the ways that are found, and the turns at place n
pub record IsReadyWay {A T : Type 0} (fits : A → PathExpr → T → Type 0) (spans : A → T → ℕ → ℕ → Type 0) (source n : ℕ) (algebra : A) (f : ℕ → ℕ → PathExpr)
    (table stars : Table T) (found : List (Cell T)) : Type 0 where
  pub holds : HoldsAll fits spans source algebra f table
  pub ways : AreWays fits spans source algebra (way_at f) found
  pub star : 0 < n → IsItemOrOne fits spans algebra (star_of (f n n)) (cell stars n n) (node_at source n)

-- the cells, the way to place p, and the turns at place n
pub record IsReadyArrival {A T : Type 0} (fits : A → PathExpr → T → Type 0) (spans : A → T → ℕ → ℕ → Type 0) (source n p : ℕ) (algebra : A) (f : ℕ → ℕ → PathExpr)
    (table : Table T) (turn : Option T) (way : Cell T) : Type 0 where
  pub holds : HoldsAll fits spans source algebra f table
  pub way_is : IsWay fits spans algebra (way_at f p) way (node_at source 0) (node_at source p)
  pub turns : IsItemOrOne fits spans algebra (star_of (f n n)) turn (node_at source n)

module _ {A T : Type 0} {fits : A → PathExpr → T → Type 0} {spans : A → T → ℕ → ℕ → Type 0} {ends : A → ℕ → ℕ → ℕ → Type 0} {faults : A → ℕ}
    {source : ℕ} {a b : A} {f : ℕ → ℕ → PathExpr} {table : Table T} {found : List (Cell T)} where
  pub way-ready : {slice : List (Cell T)} (n nodes : ℕ) (first stars : Table T) → Keeps fits spans ends faults a b → HoldsAll fits spans source a f table →
      ((m : ℕ) → 0 < m → m < nodes → IsItemOrOne fits spans a (star_of (f m m)) (cell first m m) (node_at source m)) → AreWays fits spans source b (way_at f) found → slice ≡ found →
      ((m : ℕ) → n ≤ m → cell stars m m ≡ cell first m m) → n < nodes → IsReadyWay fits spans source n b f table stars slice
  way-ready n nodes first stars keeps h hs ways same still lt = record {
    holds = HoldsAll-kept keeps h;
    ways = subst (λ xs. AreWays fits spans source b (way_at f) xs) (sym same) ways;
    star = λ pos.
        subst (λ o. IsItemOrOne fits spans b (star_of (f n n)) o (node_at source n)) (sym (still n (omega arith)))
        (IsItemOrOne-kept keeps (star_of (f n n)) (cell first n n) (node_at source n) (hs n pos lt));
  }

  pub arrival-ready : {way : Cell T} (n p : ℕ) (turn : Option T) → Keeps fits spans ends faults a b → HoldsAll fits spans source a f table → AreWays fits spans source a (way_at f) found →
      IsItemOrOne fits spans a (star_of (f n n)) turn (node_at source n) → way ≡ get_or found p way → p < length found → IsReadyArrival fits spans source n p b f table turn way
  arrival-ready {way} n p turn keeps h hw ht read lt =
      let is : slice_get found p ≡ Some way = slice_get_read found (length found) p way refl lt read in
      record {
        holds = HoldsAll-kept keeps h;
        way_is = IsWay-kept keeps (way_at f p) way (node_at source 0) (node_at source p) (hw.at p way is);
        turns = IsItemOrOne-kept keeps (star_of (f n n)) turn (node_at source n) ht;
      }

-- turns that are taken out of their cell
pub turn-taken : {A T : Type 0} {turn taken : Option T} (fits : A → PathExpr → T → Type 0) (spans : A → T → ℕ → ℕ → Type 0) (a : A) (path : PathExpr) (node : ℕ) →
    taken ≡ turn → IsItemOrOne fits spans a path turn node → IsItemOrOne fits spans a path taken node
turn-taken fits spans a path node same h = subst (λ o. IsItemOrOne fits spans a path o node) (sym same) h

-- One turn of a raise.
use Rattle.std.proofs.Common.{◌≡◌, ℕ, ◌+◌, ◌<◌, Bool, true, false, List, [], length, get_or, refl, sym, ap, subst, ◌∙◌, arith, ⊎_elim, Ok, ℤ, pos, ◌<ℤ◌}
use Rattle.std.specs.List.{AllByRecursion}
use Rattle.std.proofs.lemmas.Int.{ints}
use Rattle.std.proofs.lemmas.Bool.{cases_eq, false≢true}
use Rattle.simplex.specs.declared.tableau.Tableau.{Tableau}
use Rattle.farkas_check.specs.Frames.{choose}
use Rattle.simplex.specs.Frames.{IsWholeTableau, IsExchange, IsChanged, lexical_view, IsLexPositive}
use Rattle.simplex.specs.Exchange.{numbers_of, choices_of, exchange, IsTableauOf}
use Rattle.simplex.specs.Raise.{Framed, enters_at, leaves_at, behind_of, IsLeast, Begins, Improves}
use Rattle.simplex.specs.History.{Raises}
use Rattle.simplex.proofs.Runs.{HasRun-begins, HasRun-more, HasRun-short}
use Rattle.simplex.proofs.Divisors.{exchange-primitive}
use Rattle.simplex.proofs.Zeros.{stays_zero_at, stays_zero_under}
use Rattle.simplex.proofs.Raises.{Leaves, no_tie, ahead_after, grows}
use Rattle.simplex.proofs.Numbers.{ExchangeAt, exchange-is, exchange-keeps}
use Rattle.simplex.proofs.Lines.{upright-length}

pub Raises-begins : (over : Framed) (enters : List Bool) (constants : ℕ) (keys : List ℕ) (goal : ℕ) (sign : ℤ) (first : Tableau) → Begins over enters constants keys goal first → Raises over enters constants keys goal sign first first 0
Raises-begins over enters constants keys goal sign first b = record {
  tableau = b.tableau;
  many = refl;
  same = λ i h. refl;
  level = λ i h s e j z. z;
  zeros = λ j e i h z. z;
  primitive = λ p. p;
  raising = record { tableau = b.tableau.is; ahead = b.ahead; stays = λ i h e. refl };
  run = HasRun-begins (length first.lines) over.units (over.units + length first.lines) constants goal sign over.frame keys (numbers_of first) (choices_of first);
}

-- the least line of the code is the one that leaves: there is no tie
leaves : (over : Framed) (enters : List Bool) (constants : ℕ) (keys : List ℕ) (goal : ℕ) (sign : ℤ) (first now : Tableau) (turns line column : ℕ) → Begins over enters constants keys goal first → Raises over enters constants keys goal sign first now turns
    → IsLeast (length now.lines) enters constants keys column now line → Leaves (length first.lines) constants (leaves_at enters first) keys (numbers_of now) line column
leaves over enters constants keys goal sign first now turns line column b r l = record {
  here = here;
  is_slack = slack;
  positive = l.positive;
  least = λ i h e other p.
      ⊎_elim (λ (x : IsLexPositive (lexical_view constants (behind_of column (get_or now.lines i []) (get_or now.lines line []))) keys). x)
      (λ tie. absurd (no_tie (length first.lines) over.units (over.units + length first.lines) constants over.frame (leaves_at enters first) (choices_of first) keys (numbers_of now) (choices_of now) (numbers_of first) (numbers_of now line column) (numbers_of now i column) i line
      r.raising b.tableau.is b.covers h here e slack other (subst (λ (n : ℕ). choices_of now i < over.units + n) r.many (r.tableau.within i (subst (λ (n : ℕ). i < n) (sym r.many) h))) l.positive tie))
      (l.least i (subst (λ (n : ℕ). i < n) (sym r.many) h) (r.same i h ∙ e) p);
}
  where
    here : line < length first.lines
    here = subst (λ (n : ℕ). line < n) r.many l.here

    slack : leaves_at enters first line ≡ true
    slack = sym (r.same line (subst (λ (n : ℕ). line < n) r.many l.here)) ∙ l.leaves

pub Raises-more : (over : Framed) (enters : List Bool) (constants : ℕ) (keys : List ℕ) (goal : ℕ) (sign : ℤ) (first now next : Tableau) (turns line column : ℕ) → Begins over enters constants keys goal first → Raises over enters constants keys goal sign first now turns
    → Improves enters sign goal column now → IsLeast (length now.lines) enters constants keys column now line → exchange now line column ≡ Ok next → Raises over enters constants keys goal sign first next (turns + 1)
Raises-more over enters constants keys goal sign first now next turns line column b r i l e =
    whole (leaves over enters constants keys goal sign first now turns line column b r l)
    (exchange-is (over.units + length now.lines) now next line column r.tableau.shape l.here not_zero (λ made m. upright-length column (get_or now.lines line []) made m ∙ r.tableau.shape.wide line l.here) e)
    (exchange-keeps over.units over.frame now next line column r.tableau l.here in_range not_zero e)
  where
    not_zero : numbers_of now line column ≡ pos 0 → ⊥
    not_zero z = clash (numbers_of now line column) l.positive z
      where
        clash : (z : ℤ) → pos 0 <ℤ z → z ≡ pos 0 → ⊥
        clash z p e = omega (arith, ints)

    in_range : column < over.units + length now.lines
    in_range = subst (λ (n : ℕ). column < n) (b.wide ∙ ap (λ n. over.units + n) (sym r.many)) i.within

    inside : AllByRecursion (λ c. c < over.units + length first.lines) keys
    inside = subst (λ (n : ℕ). AllByRecursion (λ c. c < n) keys) b.wide b.within

    ranges : (k : ℕ) → k < length first.lines → choices_of now k < over.units + length first.lines
    ranges k h = subst (λ (n : ℕ). choices_of now k < over.units + n) r.many (r.tableau.within k (subst (λ (n : ℕ). k < n) (sym r.many) h))

    whole : Leaves (length first.lines) constants (leaves_at enters first) keys (numbers_of now) line column → ExchangeAt now next line column → IsTableauOf over.units over.frame next → Raises over enters constants keys goal sign first next (turns + 1)
    whole v x t = record {
      tableau = t;
      many = x.many ∙ r.many;
      same = same;
      level = λ k h s e j z. stays_zero_at (length first.lines) (numbers_of now) (numbers_of next) line column k j numbers h (λ is. false≢true (sym s ∙ ap (leaves_at enters first) is ∙ v.is_slack)) (r.level k h s e column (e column i.may)) (r.level k h s e j z);
      zeros = λ j e k h z. stays_zero_under (length first.lines) (numbers_of now) (numbers_of next) line column k j numbers h (r.zeros j e line v.here (e line v.here v.is_slack)) (r.zeros j e k h z);
      primitive = λ p. exchange-primitive over.units over.frame now next line column r.tableau l.here in_range not_zero (r.primitive p) e;
      raising = record {
        tableau = subst (λ (n : ℕ). IsWholeTableau n over.units (over.units + n) over.frame (numbers_of next) (choices_of next)) (x.many ∙ r.many) t.is;
        ahead = ahead_after (length first.lines) over.units (over.units + length first.lines) constants over.frame (leaves_at enters first) (choices_of first) keys (numbers_of now) (numbers_of next) (choices_of now) line column r.raising inside v numbers;
        stays = stays;
      };
      run = HasRun-more (length first.lines) over.units (over.units + length first.lines) constants goal sign over.frame keys (numbers_of now) (numbers_of next) (choices_of now) (choices_of next) turns r.raising.tableau ranges b.here inside
          (grows (length first.lines) over.units (over.units + length first.lines) constants goal sign over.frame (leaves_at enters first) (choices_of first) keys (numbers_of now) (numbers_of next) (choices_of now) (choices_of next) line column r.raising inside v numbers choices b.here b.stays i.better) r.run;
    }
      where
        numbers : IsExchange (length first.lines) (numbers_of now) (numbers_of next) line column
        numbers = subst (λ (n : ℕ). IsExchange n (numbers_of now) (numbers_of next) line column) r.many x.numbers

        choices : IsChanged (length first.lines) (choices_of now) (choices_of next) line column
        choices = subst (λ (n : ℕ). IsChanged n (choices_of now) (choices_of next) line column) r.many x.choices

        stays : (k : ℕ) → k < length first.lines → leaves_at enters first k ≡ false → choices_of next k ≡ choices_of first k
        stays k h f = choices.elsewhere k h (λ same. differ (sym f ∙ ap (leaves_at enters first) same ∙ v.is_slack)) ∙ r.raising.stays k h f
          where
            differ : false ≡ true → ⊥
            differ e = false≢true e

        same : (k : ℕ) → k < length first.lines → leaves_at enters next k ≡ leaves_at enters first k
        same k h =
            ⊎_elim (λ (is : k ≡ line). ap (enters_at enters) (ap (choices_of next) is ∙ choices.there) ∙ i.may ∙ sym (ap (leaves_at enters first) is ∙ v.is_slack))
            (λ other. ap (enters_at enters) (choices.elsewhere k h other) ∙ r.same k h) (cases_eq k line)

-- a raise that is not at its end after as many turns has as many choices
pub Raises-short : (over : Framed) (enters : List Bool) (constants : ℕ) (keys : List ℕ) (goal : ℕ) (sign : ℤ) (first now : Tableau) (turns : ℕ) → Begins over enters constants keys goal first → Raises over enters constants keys goal sign first now turns → turns < choose (over.units + length first.lines) (length first.lines)
Raises-short over enters constants keys goal sign first now turns b r =
    HasRun-short (length first.lines) over.units (over.units + length first.lines) constants goal sign over.frame keys (numbers_of now) (choices_of now) turns r.raising.tableau
    (λ k h. subst (λ (n : ℕ). choices_of now k < over.units + n) r.many (r.tableau.within k (subst (λ (n : ℕ). k < n) (sym r.many) h)))
    (subst (λ (n : ℕ). AllByRecursion (λ c. c < n) keys) b.wide b.within) r.run

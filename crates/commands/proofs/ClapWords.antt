-- What clap makes of the words that are listed: it takes them, or tells that help or the version is
-- asked for.
use Rattle.std.proofs.Common.{refl, sym, subst, ap, codes, true, false, List, ℕ, [], ◌∷◌, Option, Some, None, ◌≡◌, ◌≢◌, ◌⊎◌, inl, inr, Bool, zero, suc, ◌≤◌, ◌-◌, ◌+◌, arith, option_map, if◌then◌else◌, ◌∙◌}
use Rattle.std.proofs.lemmas.Bool.{eqb-true, leb-true}
use Rattle.std.specs.Prelude.{nat_le, ◌&&◌, ◌||◌, ◌==◌}
use Rattle.std.proofs.lemmas.Slice.Eq.{bytes_eq-Decides}
use Rattle.std.specs.Str.{bytes_eq}
use Rattle.clap.specs.Words.{Row, Text, fault_of, is_simple, is_simple_and_free, subcommand_of}
use Rattle.clap.specs.Kinds.{Kinds, IsAmong, HasKind}
use Rattle.clap.specs.Values.{kind_of}
use Rattle.clap.specs.Matches.{subcommand_name_of}
use Rattle.clap.specs.Simple.{subcommand_rows, subcommand_rows_of}
use Rattle.clap.specs.declared.error.Error.{Error}
use Rattle.clap.specs.declared.parser.matches.ArgMatches.{ArgMatches}
use Rattle.clap.specs.declared.parser.matches.ArgMatches.TheViews.{out-ArgMatches, out-SubCommand}
use Rattle.std.specs.Box.{box_value}
use Rattle.clap.specs.declared.parser.matches.SubCommand.{SubCommand}
use Rattle.std.specs.Prelude.{Box}
use Rattle.clap.specs.declared.error.kind.ErrorKind.{ErrorKind}
use Rattle.clap.specs.declared.error.kind.ErrorKind.TheVariants as kind
use Rattle.clap.proofs.OnLiterals.{clap_on_literals}
use Rattle.commands.specs.declared.words.Work.{Work}
use Rattle.c_lexer.specs.Bytes.{is_word_byte, is_word_start}
use Rattle.c_lexer.specs.Kinds.{is_word_shape}
use Rattle.std.specs.Char.{is_ascii_alphabetic}
use Rattle.std.specs.Int.{is_in_range}
use Rattle.std.specs.List.{list_all}
use Rattle.commands.specs.Words.{cost_of, sample_of, work_named, work_of, work_with}
use Rattle.commands.specs.Commands.{commands, matched_work, told_work}

pub commands-simple : is_simple_and_free commands ≡ true
unfolding clap_on_literals
commands-simple = refl

pub commands-exact : is_simple commands ≡ true
unfolding clap_on_literals
commands-exact = refl

-- the words are taken, or a request
abbrev pub IsAnswered : Kinds → Type 0
IsAnswered kinds = (kinds ≡ []) ⊎ ((kinds ≡ kind.DisplayHelp ∷ []) ⊎ (kinds ≡ kind.DisplayVersion ∷ []))

abbrev pub name_of : Option (Text × List Row) → Option Text
name_of = option_map (λ p. p.0)

-- Words that clap takes ask for what is listed for their subcommand, and listed words are taken, or
-- are a request.
pub record Fits (words : List (List ℕ)) : Type 0 where
  pub matched : fault_of commands words ≡ [] → matched_work (name_of (subcommand_of commands words)) words ≡ work_of words
  pub answered : (work : Work) → work_of words ≡ Some work → IsAnswered (fault_of commands words)
  pub told : (k : ErrorKind) → fault_of commands words ≡ k ∷ [] → told_work words ≡ work_of words

module _ (name : List ℕ) where
  analyse-fits : Fits (name ∷ codes "analyse" ∷ [])
  unfolding clap_on_literals
  analyse-fits = record { matched = λ _. refl; answered = λ _ _. inl refl; told = λ _ _. refl }

  certify-fits : Fits (name ∷ codes "certify" ∷ [])
  unfolding clap_on_literals
  certify-fits = record { matched = λ _. refl; answered = λ _ _. inl refl; told = λ _ _. refl }

  check-fits : Fits (name ∷ codes "check" ∷ [])
  unfolding clap_on_literals
  check-fits = record { matched = λ _. refl; answered = λ _ _. inl refl; told = λ _ _. refl }

  edit-fits : Fits (name ∷ codes "edit" ∷ [])
  unfolding clap_on_literals
  edit-fits = record { matched = λ _. refl; answered = λ _ _. inl refl; told = λ _ _. refl }

  renew-fits : Fits (name ∷ codes "renew" ∷ [])
  unfolding clap_on_literals
  renew-fits = record { matched = λ _. refl; answered = λ _ _. inl refl; told = λ _ _. refl }

  replay-fits : Fits (name ∷ codes "replay" ∷ [])
  unfolding clap_on_literals
  replay-fits = record { matched = λ _. refl; answered = λ _ _. inl refl; told = λ _ _. refl }

  prove-fits : Fits (name ∷ codes "prove" ∷ [])
  unfolding clap_on_literals
  prove-fits = record { matched = λ _. refl; answered = λ _ _. inl refl; told = λ _ _. refl }

  facets-fits : Fits (name ∷ codes "facets" ∷ [])
  unfolding clap_on_literals
  facets-fits = record { matched = λ _. refl; answered = λ _ _. inl refl; told = λ _ _. refl }

  help-fault : fault_of commands (name ∷ codes "--help" ∷ []) ≡ kind.DisplayHelp ∷ []
  unfolding clap_on_literals
  help-fault = refl

  version-fault : fault_of commands (name ∷ codes "--version" ∷ []) ≡ kind.DisplayVersion ∷ []
  unfolding clap_on_literals
  version-fault = refl

  -- a number, or a name, behind two dashes
  dashes-fault : (text : List ℕ) → fault_of commands (name ∷ codes "sample" ∷ codes "--" ∷ text ∷ []) ≡ []
  unfolding clap_on_literals
  dashes-fault text = refl

  dashes-name : (text : List ℕ) → name_of (subcommand_of commands (name ∷ codes "sample" ∷ codes "--" ∷ text ∷ [])) ≡ Some (codes "sample")
  unfolding clap_on_literals
  dashes-name text = refl

  named-fault : (text : List ℕ) → fault_of commands (name ∷ codes "cost" ∷ codes "--" ∷ text ∷ []) ≡ []
  unfolding clap_on_literals
  named-fault text = refl

  named-name : (text : List ℕ) → name_of (subcommand_of commands (name ∷ codes "cost" ∷ codes "--" ∷ text ∷ [])) ≡ Some (codes "cost")
  unfolding clap_on_literals
  named-name text = refl

  -- a name, by its first letter
  upper-fault : (d : ℕ) → d ≤ 25 → (rest : List ℕ) → fault_of commands (name ∷ codes "cost" ∷ ((65 + d) ∷ rest) ∷ []) ≡ []
  unfolding clap_on_literals
  upper-fault zero h rest = refl
  upper-fault (suc zero) h rest = refl
  upper-fault (suc (suc zero)) h rest = refl
  upper-fault (suc (suc (suc zero))) h rest = refl
  upper-fault (suc (suc (suc (suc zero)))) h rest = refl
  upper-fault (suc (suc (suc (suc (suc zero))))) h rest = refl
  upper-fault (suc (suc (suc (suc (suc (suc zero)))))) h rest = refl
  upper-fault (suc (suc (suc (suc (suc (suc (suc zero))))))) h rest = refl
  upper-fault (suc (suc (suc (suc (suc (suc (suc (suc zero)))))))) h rest = refl
  upper-fault (suc (suc (suc (suc (suc (suc (suc (suc (suc zero))))))))) h rest = refl
  upper-fault (suc (suc (suc (suc (suc (suc (suc (suc (suc (suc zero)))))))))) h rest = refl
  upper-fault (suc (suc (suc (suc (suc (suc (suc (suc (suc (suc (suc zero))))))))))) h rest = refl
  upper-fault (suc (suc (suc (suc (suc (suc (suc (suc (suc (suc (suc (suc zero)))))))))))) h rest = refl
  upper-fault (suc (suc (suc (suc (suc (suc (suc (suc (suc (suc (suc (suc (suc zero))))))))))))) h rest = refl
  upper-fault (suc (suc (suc (suc (suc (suc (suc (suc (suc (suc (suc (suc (suc (suc zero)))))))))))))) h rest = refl
  upper-fault (suc (suc (suc (suc (suc (suc (suc (suc (suc (suc (suc (suc (suc (suc (suc zero))))))))))))))) h rest = refl
  upper-fault (suc (suc (suc (suc (suc (suc (suc (suc (suc (suc (suc (suc (suc (suc (suc (suc zero)))))))))))))))) h rest = refl
  upper-fault (suc (suc (suc (suc (suc (suc (suc (suc (suc (suc (suc (suc (suc (suc (suc (suc (suc zero))))))))))))))))) h rest = refl
  upper-fault (suc (suc (suc (suc (suc (suc (suc (suc (suc (suc (suc (suc (suc (suc (suc (suc (suc (suc zero)))))))))))))))))) h rest = refl
  upper-fault (suc (suc (suc (suc (suc (suc (suc (suc (suc (suc (suc (suc (suc (suc (suc (suc (suc (suc (suc zero))))))))))))))))))) h rest = refl
  upper-fault (suc (suc (suc (suc (suc (suc (suc (suc (suc (suc (suc (suc (suc (suc (suc (suc (suc (suc (suc (suc zero)))))))))))))))))))) h rest = refl
  upper-fault (suc (suc (suc (suc (suc (suc (suc (suc (suc (suc (suc (suc (suc (suc (suc (suc (suc (suc (suc (suc (suc zero))))))))))))))))))))) h rest = refl
  upper-fault (suc (suc (suc (suc (suc (suc (suc (suc (suc (suc (suc (suc (suc (suc (suc (suc (suc (suc (suc (suc (suc (suc zero)))))))))))))))))))))) h rest = refl
  upper-fault (suc (suc (suc (suc (suc (suc (suc (suc (suc (suc (suc (suc (suc (suc (suc (suc (suc (suc (suc (suc (suc (suc (suc zero))))))))))))))))))))))) h rest = refl
  upper-fault (suc (suc (suc (suc (suc (suc (suc (suc (suc (suc (suc (suc (suc (suc (suc (suc (suc (suc (suc (suc (suc (suc (suc (suc zero)))))))))))))))))))))))) h rest = refl
  upper-fault (suc (suc (suc (suc (suc (suc (suc (suc (suc (suc (suc (suc (suc (suc (suc (suc (suc (suc (suc (suc (suc (suc (suc (suc (suc zero))))))))))))))))))))))))) h rest = refl
  upper-fault (suc (suc (suc (suc (suc (suc (suc (suc (suc (suc (suc (suc (suc (suc (suc (suc (suc (suc (suc (suc (suc (suc (suc (suc (suc (suc d)))))))))))))))))))))))))) h rest = absurd (omega arith)

  lower-fault : (d : ℕ) → d ≤ 25 → (rest : List ℕ) → fault_of commands (name ∷ codes "cost" ∷ ((97 + d) ∷ rest) ∷ []) ≡ []
  unfolding clap_on_literals
  lower-fault zero h rest = refl
  lower-fault (suc zero) h rest = refl
  lower-fault (suc (suc zero)) h rest = refl
  lower-fault (suc (suc (suc zero))) h rest = refl
  lower-fault (suc (suc (suc (suc zero)))) h rest = refl
  lower-fault (suc (suc (suc (suc (suc zero))))) h rest = refl
  lower-fault (suc (suc (suc (suc (suc (suc zero)))))) h rest = refl
  lower-fault (suc (suc (suc (suc (suc (suc (suc zero))))))) h rest = refl
  lower-fault (suc (suc (suc (suc (suc (suc (suc (suc zero)))))))) h rest = refl
  lower-fault (suc (suc (suc (suc (suc (suc (suc (suc (suc zero))))))))) h rest = refl
  lower-fault (suc (suc (suc (suc (suc (suc (suc (suc (suc (suc zero)))))))))) h rest = refl
  lower-fault (suc (suc (suc (suc (suc (suc (suc (suc (suc (suc (suc zero))))))))))) h rest = refl
  lower-fault (suc (suc (suc (suc (suc (suc (suc (suc (suc (suc (suc (suc zero)))))))))))) h rest = refl
  lower-fault (suc (suc (suc (suc (suc (suc (suc (suc (suc (suc (suc (suc (suc zero))))))))))))) h rest = refl
  lower-fault (suc (suc (suc (suc (suc (suc (suc (suc (suc (suc (suc (suc (suc (suc zero)))))))))))))) h rest = refl
  lower-fault (suc (suc (suc (suc (suc (suc (suc (suc (suc (suc (suc (suc (suc (suc (suc zero))))))))))))))) h rest = refl
  lower-fault (suc (suc (suc (suc (suc (suc (suc (suc (suc (suc (suc (suc (suc (suc (suc (suc zero)))))))))))))))) h rest = refl
  lower-fault (suc (suc (suc (suc (suc (suc (suc (suc (suc (suc (suc (suc (suc (suc (suc (suc (suc zero))))))))))))))))) h rest = refl
  lower-fault (suc (suc (suc (suc (suc (suc (suc (suc (suc (suc (suc (suc (suc (suc (suc (suc (suc (suc zero)))))))))))))))))) h rest = refl
  lower-fault (suc (suc (suc (suc (suc (suc (suc (suc (suc (suc (suc (suc (suc (suc (suc (suc (suc (suc (suc zero))))))))))))))))))) h rest = refl
  lower-fault (suc (suc (suc (suc (suc (suc (suc (suc (suc (suc (suc (suc (suc (suc (suc (suc (suc (suc (suc (suc zero)))))))))))))))))))) h rest = refl
  lower-fault (suc (suc (suc (suc (suc (suc (suc (suc (suc (suc (suc (suc (suc (suc (suc (suc (suc (suc (suc (suc (suc zero))))))))))))))))))))) h rest = refl
  lower-fault (suc (suc (suc (suc (suc (suc (suc (suc (suc (suc (suc (suc (suc (suc (suc (suc (suc (suc (suc (suc (suc (suc zero)))))))))))))))))))))) h rest = refl
  lower-fault (suc (suc (suc (suc (suc (suc (suc (suc (suc (suc (suc (suc (suc (suc (suc (suc (suc (suc (suc (suc (suc (suc (suc zero))))))))))))))))))))))) h rest = refl
  lower-fault (suc (suc (suc (suc (suc (suc (suc (suc (suc (suc (suc (suc (suc (suc (suc (suc (suc (suc (suc (suc (suc (suc (suc (suc zero)))))))))))))))))))))))) h rest = refl
  lower-fault (suc (suc (suc (suc (suc (suc (suc (suc (suc (suc (suc (suc (suc (suc (suc (suc (suc (suc (suc (suc (suc (suc (suc (suc (suc zero))))))))))))))))))))))))) h rest = refl
  lower-fault (suc (suc (suc (suc (suc (suc (suc (suc (suc (suc (suc (suc (suc (suc (suc (suc (suc (suc (suc (suc (suc (suc (suc (suc (suc (suc d)))))))))))))))))))))))))) h rest = absurd (omega arith)

  underscore-fault : (rest : List ℕ) → fault_of commands (name ∷ codes "cost" ∷ (95 ∷ rest) ∷ []) ≡ []
  unfolding clap_on_literals
  underscore-fault rest = refl

  -- a first byte past that of a dash
  abbrev past_dash : ℕ → ℕ
  past_dash d = suc (suc (suc (suc (suc (suc (suc (suc (suc (suc (suc (suc (suc (suc (suc (suc (suc (suc (suc (suc (suc (suc (suc (suc (suc (suc (suc (suc (suc (suc (suc (suc (suc (suc (suc (suc (suc (suc (suc (suc (suc (suc (suc (suc (suc (suc d)))))))))))))))))))))))))))))))))))))))))))))

  past-name : (d : ℕ) (rest : List ℕ) → name_of (subcommand_of commands (name ∷ codes "cost" ∷ (past_dash d ∷ rest) ∷ [])) ≡ Some (codes "cost")
  unfolding clap_on_literals
  past-name d rest = refl

  -- a number that begins with a digit from 1 to 9
  number-fault : (d : ℕ) → d ≤ 8 → (rest : List ℕ) → fault_of commands (name ∷ codes "sample" ∷ ((49 + d) ∷ rest) ∷ []) ≡ []
  unfolding clap_on_literals
  number-fault zero h rest = refl
  number-fault (suc zero) h rest = refl
  number-fault (suc (suc zero)) h rest = refl
  number-fault (suc (suc (suc zero))) h rest = refl
  number-fault (suc (suc (suc (suc zero)))) h rest = refl
  number-fault (suc (suc (suc (suc (suc zero))))) h rest = refl
  number-fault (suc (suc (suc (suc (suc (suc zero)))))) h rest = refl
  number-fault (suc (suc (suc (suc (suc (suc (suc zero))))))) h rest = refl
  number-fault (suc (suc (suc (suc (suc (suc (suc (suc zero)))))))) h rest = refl
  number-fault (suc (suc (suc (suc (suc (suc (suc (suc (suc d))))))))) h rest = absurd (omega arith)

  number-name : (d : ℕ) → d ≤ 8 → (rest : List ℕ) → name_of (subcommand_of commands (name ∷ codes "sample" ∷ ((49 + d) ∷ rest) ∷ [])) ≡ Some (codes "sample")
  unfolding clap_on_literals
  number-name zero h rest = refl
  number-name (suc zero) h rest = refl
  number-name (suc (suc zero)) h rest = refl
  number-name (suc (suc (suc zero))) h rest = refl
  number-name (suc (suc (suc (suc zero)))) h rest = refl
  number-name (suc (suc (suc (suc (suc zero))))) h rest = refl
  number-name (suc (suc (suc (suc (suc (suc zero)))))) h rest = refl
  number-name (suc (suc (suc (suc (suc (suc (suc zero))))))) h rest = refl
  number-name (suc (suc (suc (suc (suc (suc (suc (suc zero)))))))) h rest = refl
  number-name (suc (suc (suc (suc (suc (suc (suc (suc (suc d))))))))) h rest = absurd (omega arith)

  -- ---- a word by its literal

  by_literal : (P : List ℕ → Type 0) (literal word : List ℕ) (b : Bool) → bytes_eq word literal ≡ b → P literal → (bytes_eq word literal ≡ false → P word) → P word
  by_literal P literal word true same at_it at_others = subst P (sym ((bytes_eq-Decides word literal).0 same)) at_it
  by_literal P literal word false same at_it at_others = at_others same

  kinds-apart : {ks : Kinds} {k : _} → ks ≡ k ∷ [] → ks ≡ [] → ⊥
  kinds-apart told none = cc

  some-apart : {work : Work} {o : Option Work} → o ≡ None → o ≡ Some work → ⊥
  some-apart none some = cc

  -- a name that is not listed
  matched-none : (word : List ℕ) (found : Option Text) → work_named word ≡ None → matched_work found (name ∷ word ∷ []) ≡ None
  matched-none word None none = refl
  matched-none word (Some n) none = by_eq (bytes_eq word n) refl
    where
      by_eq : (b : Bool) → bytes_eq word n ≡ b → (if b then work_named n else None) ≡ None
      by_eq true same = subst (λ t. work_named t ≡ None) ((bytes_eq-Decides word n).0 same) none
      by_eq false same = refl

  others-fit : (word : List ℕ) → work_named word ≡ None → Fits (name ∷ word ∷ [])
  others-fit word none = record {
    matched = λ _. matched-none word (name_of (subcommand_of commands (name ∷ word ∷ []))) none ∙ sym none;
    answered = λ work some. absurd (some-apart none some);
    told = λ _ _. refl;
  }

  help-fits : Fits (name ∷ codes "--help" ∷ [])
  help-fits = record { matched = λ taken. absurd (kinds-apart help-fault taken); answered = λ _ _. inr (inl help-fault); told = λ _ _. refl }

  version-fits : Fits (name ∷ codes "--version" ∷ [])
  version-fits = record { matched = λ taken. absurd (kinds-apart version-fault taken); answered = λ _ _. inr (inr version-fault); told = λ _ _. refl }

  abbrev FitsWord : List ℕ → Type 0
  FitsWord word = Fits (name ∷ word ∷ [])

  word-fits : (word : List ℕ) → FitsWord word
  word-fits word =
      by_literal FitsWord (codes "analyse") word _ refl analyse-fits (λ e1.
      by_literal FitsWord (codes "certify") word _ refl certify-fits (λ e2.
      by_literal FitsWord (codes "check") word _ refl check-fits (λ e3.
      by_literal FitsWord (codes "edit") word _ refl edit-fits (λ e4.
      by_literal FitsWord (codes "renew") word _ refl renew-fits (λ e5.
      by_literal FitsWord (codes "replay") word _ refl replay-fits (λ e6.
      by_literal FitsWord (codes "prove") word _ refl prove-fits (λ e7.
      by_literal FitsWord (codes "facets") word _ refl facets-fits (λ e8.
      by_literal FitsWord (codes "--help") word _ refl help-fits (λ e9.
      by_literal FitsWord (codes "--version") word _ refl version-fits (λ e10.
      others-fit word (rw (e1, e2, e3, e4, e5, e6, e7, e8, e9, e10) refl)))))))))))

  -- ---- a command and a number

  -- a text begins with a digit from 1 to 9
  record IsBegun (text : List ℕ) : Type 0 where
    digit : ℕ
    few : digit ≤ 8
    rest : List ℕ
    is : text ≡ (49 + digit) ∷ rest

  begun : (first : ℕ) (rest : List ℕ) (work : Work) (b c : Bool) → nat_le 49 first ≡ b → nat_le first 57 ≡ c
      → sample_of (first ∷ rest) ≡ Some work → IsBegun (first ∷ rest)
  begun first rest work true true least most some =
      let low = leb-true 49 first least in
      let high = leb-true first 57 most in
      let same : first ≡ 49 + (first - 49) = omega (arith) in
      record { digit = first - 49; few = omega (arith); rest = rest; is = ap (λ n. n ∷ rest) same }
  begun first rest work false c least most some = absurd (some-apart (rw least refl) some)
  begun first rest work true false least most some = absurd (some-apart (rw (least, most) refl) some)

  number-begun : (text : List ℕ) (work : Work) → sample_of text ≡ Some work → IsBegun text
  number-begun [] work some = absurd (some-apart refl some)
  number-begun (first ∷ rest) work some = begun first rest work _ _ refl refl some

  abbrev sampled : List ℕ → List (List ℕ)
  sampled text = name ∷ codes "sample" ∷ text ∷ []

  begun-fault : (text : List ℕ) → IsBegun text → fault_of commands (sampled text) ≡ []
  begun-fault text h = subst (λ t. fault_of commands (sampled t) ≡ []) (sym h.is) (number-fault h.digit h.few h.rest)

  begun-name : (text : List ℕ) → IsBegun text → name_of (subcommand_of commands (sampled text)) ≡ Some (codes "sample")
  begun-name text h = subst (λ t. name_of (subcommand_of commands (sampled t)) ≡ Some (codes "sample")) (sym h.is) (number-name h.digit h.few h.rest)

  -- ---- a command and a name

  abbrev costed : List ℕ → List (List ℕ)
  costed text = name ∷ codes "cost" ∷ text ∷ []

  either_of : {P : Type 0} (a b : Bool) → a || b ≡ true → (a ≡ true → P) → (b ≡ true → P) → P
  either_of true b e one other = one refl
  either_of false b e one other = other e

  both_of : (a b : Bool) → a && b ≡ true → (a ≡ true) × (b ≡ true)
  both_of true b e = (refl, e)
  both_of false b e = absurd (cc e)

  -- a byte of a range is the first one and some more
  record IsPast (low most b : ℕ) : Type 0 where
    more : ℕ
    few : more ≤ most
    is : b ≡ low + more

  in_range : (low high most b : ℕ) → high ≡ low + most → is_in_range low high b ≡ true → IsPast low most b
  in_range low high most b wide e =
      let parts = both_of (nat_le low b) (nat_le b high) e in
      let least = leb-true low b parts.0 in
      let greatest = leb-true b high parts.1 in
      record { more = b - low; few = omega (arith, wide, greatest); is = omega (arith, least) }

  word-fault : (b : ℕ) (rest : List ℕ) → is_word_start b ≡ true → fault_of commands (costed (b ∷ rest)) ≡ []
  word-fault b rest e =
      either_of (is_ascii_alphabetic b) (b == 95) e
      (λ letter. either_of (is_in_range 65 90 b) (is_in_range 97 122 b) letter
      (λ upper. let h = in_range 65 90 25 b refl upper in subst (λ n. fault_of commands (costed (n ∷ rest)) ≡ []) (sym h.is) (upper-fault h.more h.few rest))
      (λ lower. let h = in_range 97 122 25 b refl lower in subst (λ n. fault_of commands (costed (n ∷ rest)) ≡ []) (sym h.is) (lower-fault h.more h.few rest)))
      (λ underscore. subst (λ n. fault_of commands (costed (n ∷ rest)) ≡ []) (sym (eqb-true b 95 underscore)) (underscore-fault rest))

  past_dash-of : (b : ℕ) → is_word_start b ≡ true → b ≡ past_dash (b - 46)
  past_dash-of b e =
      either_of (is_ascii_alphabetic b) (b == 95) e
      (λ letter. either_of (is_in_range 65 90 b) (is_in_range 97 122 b) letter
      (λ upper. let h = in_range 65 90 25 b refl upper in let same = h.is in omega (arith, same))
      (λ lower. let h = in_range 97 122 25 b refl lower in let same = h.is in omega (arith, same)))
      (λ underscore. let same = eqb-true b 95 underscore in omega (arith, same))

  word-name : (b : ℕ) (rest : List ℕ) → is_word_start b ≡ true → name_of (subcommand_of commands (costed (b ∷ rest))) ≡ Some (codes "cost")
  word-name b rest e = subst (λ n. name_of (subcommand_of commands (costed (n ∷ rest))) ≡ Some (codes "cost")) (sym (past_dash-of b e)) (past-name (b - 46) rest)

  -- what a name begins with
  record IsNamed (text : List ℕ) : Type 0 where
    first : ℕ
    rest : List ℕ
    is : text ≡ first ∷ rest
    starts : is_word_start first ≡ true

  word-named : (text : List ℕ) (work : Work) (b : Bool) → is_word_shape text ≡ b → cost_of text ≡ Some work → IsNamed text
  word-named [] work b is some = absurd (some-apart refl some)
  word-named (first ∷ rest) work true is some = record { first = first; rest = rest; is = refl; starts = (both_of (is_word_start first) (list_all is_word_byte rest) is).0 }
  word-named (first ∷ rest) work false is some = absurd (some-apart (rw is refl) some)

  named-fault_of : (text : List ℕ) → IsNamed text → fault_of commands (costed text) ≡ []
  named-fault_of text h = subst (λ t. fault_of commands (costed t) ≡ []) (sym h.is) (word-fault h.first h.rest h.starts)

  named-name_of : (text : List ℕ) → IsNamed text → name_of (subcommand_of commands (costed text)) ≡ Some (codes "cost")
  named-name_of text h = subst (λ t. name_of (subcommand_of commands (costed t)) ≡ Some (codes "cost")) (sym h.is) (word-name h.first h.rest h.starts)

  -- ---- what is asked for

  sample-asked : (text : List ℕ) (work : Work) → work_with (codes "sample") text ≡ Some work → sample_of text ≡ Some work
  unfolding work_with
  sample-asked text work some = some

  cost-asked : (text : List ℕ) (work : Work) → work_with (codes "cost") text ≡ Some work → cost_of text ≡ Some work
  unfolding work_with
  cost-asked text work some = some

  none-asked : (word text : List ℕ) → bytes_eq word (codes "sample") ≡ false → bytes_eq word (codes "cost") ≡ false → work_with word text ≡ None
  unfolding work_with
  none-asked word text e1 e2 = rw (e1, e2) refl

  -- ---- a command and its argument

  -- what asks for nothing does so, whatever is found
  matched-unasked : (word text : List ℕ) (found : Option Text) → work_with word text ≡ None → matched_work found (name ∷ word ∷ text ∷ []) ≡ None
  matched-unasked word text None none = refl
  matched-unasked word text (Some n) none = by_eq (bytes_eq word n) refl
    where
      by_eq : (b : Bool) → bytes_eq word n ≡ b → (if b then work_with n text else None) ≡ None
      by_eq true same = subst (λ w. work_with w text ≡ None) ((bytes_eq-Decides word n).0 same) none
      by_eq false same = refl

  unasked-fit : (word text : List ℕ) → work_with word text ≡ None → Fits (name ∷ word ∷ text ∷ [])
  unasked-fit word text none = record {
    matched = λ _. matched-unasked word text (name_of (subcommand_of commands (name ∷ word ∷ text ∷ []))) none ∙ sym none;
    answered = λ work some. absurd (some-apart none some);
    told = λ _ _. sym none;
  }

  sampled-fits : (text : List ℕ) (work : Work) → sample_of text ≡ Some work → Fits (sampled text)
  sampled-fits text work some =
      let begins = number-begun text work some in
      record {
        matched = λ _. ap (λ n. matched_work n (sampled text)) (begun-name text begins);
        answered = λ _ _. inl (begun-fault text begins);
        told = λ k told. absurd (kinds-apart told (begun-fault text begins));
      }

  costed-fits : (text : List ℕ) (work : Work) → cost_of text ≡ Some work → Fits (costed text)
  costed-fits text work some =
      let begins = word-named text work (is_word_shape text) refl some in
      record {
        matched = λ _. ap (λ n. matched_work n (costed text)) (named-name_of text begins);
        answered = λ _ _. inl (named-fault_of text begins);
        told = λ k told. absurd (kinds-apart told (named-fault_of text begins));
      }

  abbrev FitsWith : List ℕ → List ℕ → Work → Type 0
  FitsWith text word work = work_with word text ≡ Some work → Fits (name ∷ word ∷ text ∷ [])

  asked-fit : (word text : List ℕ) (work : Work) → FitsWith text word work
  asked-fit word text work =
      by_literal (λ w. FitsWith text w work) (codes "sample") word _ refl (λ some. sampled-fits text work (sample-asked text work some)) (λ e1.
      by_literal (λ w. FitsWith text w work) (codes "cost") word _ refl (λ some. costed-fits text work (cost-asked text work some)) (λ e2 some.
      absurd (some-apart (none-asked word text e1 e2) some)))

  text-fits : (word text : List ℕ) (asked : Option Work) → work_with word text ≡ asked → Fits (name ∷ word ∷ text ∷ [])
  text-fits word text None none = unasked-fit word text none
  text-fits word text (Some work) some = asked-fit word text work some

  -- ---- a command, two dashes and its argument

  abbrev behind : List ℕ → List ℕ → List (List ℕ)
  behind word text = name ∷ word ∷ codes "--" ∷ text ∷ []

  sampled_behind-fits : (text : List ℕ) → Fits (behind (codes "sample") text)
  sampled_behind-fits text = record {
    matched = λ _. ap (λ n. matched_work n (behind (codes "sample") text)) (dashes-name text);
    answered = λ _ _. inl (dashes-fault text);
    told = λ k told. absurd (kinds-apart told (dashes-fault text));
  }

  costed_behind-fits : (text : List ℕ) → Fits (behind (codes "cost") text)
  costed_behind-fits text = record {
    matched = λ _. ap (λ n. matched_work n (behind (codes "cost") text)) (named-name text);
    answered = λ _ _. inl (named-fault text);
    told = λ k told. absurd (kinds-apart told (named-fault text));
  }

  abbrev asked_behind : List ℕ → List ℕ → List ℕ → Option Work
  asked_behind word dashes text = work_of (name ∷ word ∷ dashes ∷ text ∷ [])

  matched-undashed : (word dashes text : List ℕ) (found : Option Text) → asked_behind word dashes text ≡ None
      → matched_work found (name ∷ word ∷ dashes ∷ text ∷ []) ≡ None
  matched-undashed word dashes text None none = refl
  matched-undashed word dashes text (Some n) none = by_eq (bytes_eq word n) refl
    where
      by_eq : (b : Bool) → bytes_eq word n ≡ b → (if b && bytes_eq dashes (codes "--") then work_with n text else None) ≡ None
      by_eq true same = subst (λ w. (if bytes_eq dashes (codes "--") then work_with w text else None) ≡ None) ((bytes_eq-Decides word n).0 same) none
      by_eq false same = refl

  unasked_behind-fit : (word dashes text : List ℕ) → asked_behind word dashes text ≡ None → Fits (name ∷ word ∷ dashes ∷ text ∷ [])
  unasked_behind-fit word dashes text none = record {
    matched = λ _. matched-undashed word dashes text (name_of (subcommand_of commands (name ∷ word ∷ dashes ∷ text ∷ []))) none ∙ sym none;
    answered = λ work some. absurd (some-apart none some);
    told = λ _ _. sym none;
  }

  behind-fits : (word dashes text : List ℕ) → Fits (name ∷ word ∷ dashes ∷ text ∷ [])
  behind-fits word dashes text =
      by_literal (λ d. Fits (name ∷ word ∷ d ∷ text ∷ [])) (codes "--") dashes _ refl
      (by_literal (λ w. Fits (behind w text)) (codes "sample") word _ refl (sampled_behind-fits text) (λ e1.
      by_literal (λ w. Fits (behind w text)) (codes "cost") word _ refl (costed_behind-fits text) (λ e2.
      unasked_behind-fit word (codes "--") text (none-asked word text e1 e2))))
      (λ other. unasked_behind-fit word dashes text (rw other refl))

-- ---- all words

-- lists of other lengths ask for nothing
abbrev IsUnlisted : List (List ℕ) → Type 0
IsUnlisted words = (work_of words ≡ None) × (told_work words ≡ None) × ((found : Option Text) → matched_work found words ≡ None)

unlisted-fit : (words : List (List ℕ)) → IsUnlisted words → Fits words
unlisted-fit words h = record {
  matched = λ _. h.2 (name_of (subcommand_of commands words)) ∙ sym h.0;
  answered = λ work some. absurd (some-apart [] h.0 some);
  told = λ _ _. h.1 ∙ sym h.0;
}

none-empty : (found : Option Text) → matched_work found [] ≡ None
none-empty None = refl
none-empty (Some n) = refl

none-alone : (name : List ℕ) (found : Option Text) → matched_work found (name ∷ []) ≡ None
none-alone name None = refl
none-alone name (Some n) = refl

none-longer : (a b c d e : List ℕ) (rest : List (List ℕ)) (found : Option Text) → matched_work found (a ∷ b ∷ c ∷ d ∷ e ∷ rest) ≡ None
none-longer a b c d e rest None = refl
none-longer a b c d e rest (Some n) = refl

pub words-fit : (words : List (List ℕ)) → Fits words
words-fit [] = unlisted-fit [] (refl, refl, none-empty)
words-fit (name ∷ []) = unlisted-fit (name ∷ []) (refl, refl, none-alone name)
words-fit (name ∷ word ∷ []) = word-fits name word
words-fit (name ∷ word ∷ text ∷ []) = text-fits name word text _ refl
words-fit (name ∷ word ∷ dashes ∷ text ∷ []) = behind-fits name word dashes text
words-fit (name ∷ word ∷ dashes ∷ text ∷ more ∷ rest) =
    unlisted-fit (name ∷ word ∷ dashes ∷ text ∷ more ∷ rest) (refl, refl, none-longer name word dashes text more rest)

-- ---- what a call of clap says of the words

-- the name that was met is that of the subcommand
name-of-rows : {Z : Type 0} (o : Option (Box SubCommand Z))
    → option_map (λ b. (out-SubCommand (box_value b)).name.now) o ≡ name_of (subcommand_rows o)
name-of-rows None = refl
name-of-rows (Some b) = refl

pub name-met : (m : ArgMatches) → subcommand_name_of m ≡ name_of (subcommand_rows_of m)
name-met m = name-of-rows (out-ArgMatches m).subcommand

-- words that clap refuses for another reason than memory, help or the version ask for nothing
pub refused-unlisted : (words : List (List ℕ)) (e : Error) → HasKind (fault_of commands words) e → kind_of e ≢ kind.OutOfMemory
    → kind_of e ≢ kind.DisplayHelp → kind_of e ≢ kind.DisplayVersion → None ≡ work_of words
refused-unlisted words e kinds not_memory not_help not_version = by_work (work_of words) refl
  where
    at_one : (k : ErrorKind) → kind_of e ≢ k → IsAmong (kind_of e) (k ∷ []) → ⊥
    at_one k apart (inl same) = apart same
    at_one k apart (inr none) = none

    by_kinds : IsAnswered (fault_of commands words) → HasKind (fault_of commands words) e → ⊥
    by_kinds answered (inl memory) = not_memory memory
    by_kinds (inl none) (inr among) = subst (λ ks. IsAmong (kind_of e) ks) none among
    by_kinds (inr (inl help)) (inr among) = at_one kind.DisplayHelp not_help (subst (λ ks. IsAmong (kind_of e) ks) help among)
    by_kinds (inr (inr version)) (inr among) = at_one kind.DisplayVersion not_version (subst (λ ks. IsAmong (kind_of e) ks) version among)

    by_work : (asked : Option Work) → work_of words ≡ asked → None ≡ work_of words
    by_work None none = sym none
    by_work (Some work) some = absurd (by_kinds ((words-fit words).answered work some) kinds)

-- what asks for nothing is told as nothing
told-none : (words : List (List ℕ)) → work_of words ≡ None → told_work words ≡ work_of words
told-none [] none = refl
told-none (name ∷ []) none = refl
told-none (name ∷ word ∷ []) none = refl
told-none (name ∷ word ∷ text ∷ []) none = sym none
told-none (name ∷ word ∷ dashes ∷ text ∷ []) none = sym none
told-none (name ∷ word ∷ dashes ∷ text ∷ more ∷ rest) none = refl

-- words that clap refuses for a request are told as one
pub request-told : (words : List (List ℕ)) (e : Error) → HasKind (fault_of commands words) e
    → (kind_of e ≡ kind.DisplayHelp) ⊎ (kind_of e ≡ kind.DisplayVersion) → told_work words ≡ work_of words
request-told words e kinds request = by_work (work_of words) refl
  where
    not_memory : (kind_of e ≡ kind.DisplayHelp) ⊎ (kind_of e ≡ kind.DisplayVersion) → kind_of e ≡ kind.OutOfMemory → ⊥
    not_memory (inl help) memory = cc
    not_memory (inr version) memory = cc

    by_answer : IsAnswered (fault_of commands words) → HasKind (fault_of commands words) e → told_work words ≡ work_of words
    by_answer answered (inl memory) = absurd (not_memory request memory)
    by_answer (inl none) (inr among) = absurd (subst (λ ks. IsAmong (kind_of e) ks) none among)
    by_answer (inr (inl help)) _ = (words-fit words).told kind.DisplayHelp help
    by_answer (inr (inr version)) _ = (words-fit words).told kind.DisplayVersion version

    by_work : (asked : Option Work) → work_of words ≡ asked → told_work words ≡ work_of words
    by_work None none = told-none words none
    by_work (Some work) some = by_answer ((words-fit words).answered work some) kinds

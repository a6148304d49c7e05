-- The words that the program accepts.
use Rattle.std.specs.Prelude.{ℕ, List, [], ◌∷◌, Bool, true, false, ◌&&◌, Option, None, Some, codes, if◌then◌else◌, nat_le, length, option_map}
use Rattle.std.specs.List.{list_all}
use Rattle.std.specs.Str.{bytes_eq}
use Rattle.std.specs.Str.Parse.{digits_value}
use Rattle.c_lexer.specs.Kinds.{is_word_shape}
use Rattle.commands.specs.declared.words.Work.{Work}
use Rattle.commands.specs.declared.words.Work.TheVariants.{Analyse, Certify, Check, Edit, Sample, Renew, Replay, Cost, Prove, Facets, Help, Version}

-- what one word asks for
abbrev pub work_named : List ℕ → Option Work
work_named word =
    if bytes_eq word (codes "analyse") then Some Analyse
    else (if bytes_eq word (codes "certify") then Some Certify
    else (if bytes_eq word (codes "check") then Some Check
    else (if bytes_eq word (codes "edit") then Some Edit
    else (if bytes_eq word (codes "renew") then Some Renew
    else (if bytes_eq word (codes "replay") then Some Replay
    else (if bytes_eq word (codes "prove") then Some Prove
    else (if bytes_eq word (codes "facets") then Some Facets
    else (if bytes_eq word (codes "--help") then Some Help
    else (if bytes_eq word (codes "--version") then Some Version else None)))))))))

-- whether a byte is a decimal digit
abbrev pub is_digit : ℕ → Bool
is_digit code = nat_le 48 code && nat_le code 57

-- one to three decimal digits without a leading zero
abbrev pub is_short_number : List ℕ → Bool
is_short_number [] = false
is_short_number (first ∷ rest) =
    nat_le 49 first && (nat_le first 57 && (nat_le (length rest) 2 && list_all is_digit rest))

-- the most procedures of a made text, without `main`
abbrev pub most_procedures : ℕ
most_procedures = 250

-- the number of procedures that a word asks for, from 1 to 250; None where it is no such number
abbrev pub count_of : List ℕ → Option ℕ
count_of text = if is_short_number text && nat_le (digits_value 10 text) most_procedures
    then Some (digits_value 10 text) else None

-- the sample of as many procedures as a word asks for; None where it is no such number
abbrev pub sample_of : List ℕ → Option Work
sample_of text = option_map Sample (count_of text)

-- the bounds on the change of a global, whose name is a word of the programs that are read
abbrev pub cost_of : List ℕ → Option Work
cost_of text = if is_word_shape text then Some (Cost text) else None

-- what a command asks for that has an argument
unfoldable pub work_with : List ℕ → List ℕ → Option Work
work_with word text = if bytes_eq word (codes "sample") then sample_of text
    else (if bytes_eq word (codes "cost") then cost_of text else None)

-- What a command line asks for: the program's name and one word, or `sample` and a number, or
-- `cost` and a name, before which two dashes may stand. Every other list of words asks for nothing.
abbrev pub work_of : List (List ℕ) → Option Work
work_of (name ∷ word ∷ []) = work_named word
work_of (name ∷ word ∷ text ∷ []) = work_with word text
work_of (name ∷ word ∷ dashes ∷ text ∷ []) =
    if bytes_eq dashes (codes "--") then work_with word text else None
work_of _ = None

-- whether the source is read for it
abbrev pub reads_source : Option Work → Bool
reads_source (Some Analyse) = true
reads_source (Some Certify) = true
reads_source (Some Check) = true
reads_source (Some Edit) = true
reads_source (Some (Sample count)) = false
reads_source (Some Renew) = true
reads_source (Some Replay) = true
reads_source (Some (Cost name)) = true
reads_source (Some Prove) = true
reads_source (Some Facets) = true
reads_source (Some Help) = false
reads_source (Some Version) = false
reads_source None = false

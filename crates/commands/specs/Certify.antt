-- What is answered to `cra certify`: the certificate file of a text.
use Rattle.std.specs.Prelude.{◌≡◌, ℕ, ◌≤◌, List, ◌++◌, length, nat_lt, Option, Some, Ok, codes, if◌then◌else◌}
use Rattle.farkas_check.specs.declared.answer.Answer.{Answer}
use Rattle.syntax_tree.specs.declared.program.Program.{Program}
use Rattle.report.specs.declared.blocks.Report.{Report}
use Rattle.report.specs.Text.{text_of}
use Rattle.serde_json.specs.Written.{compact_text}
use Rattle.wire.specs.declared.certificate.Certificate.{Certificate}
use Rattle.wire.specs.declared.certificate.Version.TheVariants.{Second}
use Rattle.wire.specs.Files.{certificate_of}
use Rattle.wire.specs.Sharing.{IsShared}
use Rattle.wire.specs.Written.{certificate_data}
use Rattle.summary_cache.specs.Accepted.{Accepts}
use Rattle.summary_cache.specs.Limits.{most_bytes}
use Rattle.commands.specs.declared.reply.Reply.{Reply}
use Rattle.commands.specs.declared.status.Status.TheVariants as ended
use Rattle.commands.specs.declared.words.Work.TheVariants.{Certify}
use Rattle.commands.specs.Limits.{most_file}
use Rattle.commands.specs.Stated.{IsAnalysed}
use Rattle.commands.specs.Within.{OrRefused, Within}
use Rattle.commands.specs.Words.{work_of}

-- A file of the second version has a text, the text of a report, and answers, of which each stands
-- once.
pub record IsFileOf (text : List ℕ) (answers : List Answer) (report : Report)
    (file : Certificate) : Type 0 where
  pub version : file.version ≡ Second
  pub text_is : file.text ≡ text
  pub report_is : file.report ≡ text_of report
  pub shared : IsShared answers file.answers file.order

-- how a file is written, without the newline behind it
abbrev pub file_text : Certificate → List ℕ
file_text file = compact_text (certificate_data file)

-- The text is accepted, and the file has its report and the answers under which its analysis comes
-- to that. It is read back from how it is written.
pub record IsCertified (text : List ℕ) (file : Certificate) : Type 0 where
  pub answers : List Answer
  pub report : Report
  pub analysed : IsAnalysed text answers report
  pub is_file : IsFileOf text answers report file
  pub back : certificate_of (file_text file) ≡ Ok file

-- the answer where the file that is made is past the limit
abbrev pub output_too_long : Reply
output_too_long = record { status = ended.TooLong; text = codes "output is too long\n" }

-- how a file is written, and a newline, where both are within a limit
abbrev pub file_reply_within : ℕ → List ℕ → Reply
file_reply_within most file = if nat_lt (length file) most then record {
  status = ended.Certified;
  text = file ++ codes "\n";
} else output_too_long

-- the same within the limit of a certificate file
abbrev pub file_reply : List ℕ → Reply
file_reply file = file_reply_within most_file file

-- the text is accepted, and this tells its certificate file
abbrev pub TellsFile : List ℕ → Reply → Type 0
TellsFile text reply = (file : Certificate) × IsCertified text file
    × (reply ≡ file_reply (file_text file))

-- an accepted text within the limit is answered with its certificate file
abbrev pub IsReplyToCertify : List ℕ → Reply → Type 0
IsReplyToCertify input reply = Within most_bytes input (OrRefused input (TellsFile input)) reply

-- The words ask for the certificate file of all that the source has: a text within the limit that
-- is accepted (`Accepts` of `summary_cache`, `specs/Accepted`).
pub record IsToCertify (words : List (List ℕ)) (left : Option (List ℕ)) : Type 0 where
  pub asked : work_of words ≡ Some Certify
  pub input : List ℕ
  pub whole : left ≡ Some input
  pub short : length input ≤ most_bytes
  pub program : Program
  pub accepted : Accepts input program

-- all that the source has: what `certify` printed for a text
pub record PrintedIn (left : Option (List ℕ)) : Type 0 where
  pub text : List ℕ
  pub printed : Reply
  pub is_printed : OrRefused text (TellsFile text) printed
  pub certified : printed.status ≡ ended.Certified
  pub whole : left ≡ Some printed.text

-- What is answered to `cra check`: whether a certificate file shows its report.
use Rattle.std.specs.Prelude.{◌≡◌, ℕ, ◌≤◌, ◌==◌, ◌+◌, List, [], ◌++◌, length, map, nat_eq, Option, Some, Ok, codes, decimal, if◌then◌else◌}
use Rattle.std.specs.List.{common_prefix_len}
use Rattle.std.specs.Str.{bytes_eq}
use Rattle.farkas_check.specs.declared.answer.Answer.{Answer}
use Rattle.syntax_tree.specs.declared.program.Program.{Program}
use Rattle.posing.specs.Posing.{Posed, Finished, Stuck}
use Rattle.posing.specs.Replay.{stop_number}
use Rattle.report.specs.declared.blocks.Report.{Report}
use Rattle.report.specs.Claims.{ClaimsAreMet, PointsMeetRows, ReportCovers}
use Rattle.report.specs.Text.{text_of}
use Rattle.wire.specs.declared.certificate.Certificate.{Certificate}
use Rattle.wire.specs.declared.certificate.Version.{Version}
use Rattle.wire.specs.declared.certificate.Version.TheVariants.{First, Second}
use Rattle.wire.specs.Files.{certificate_of}
use Rattle.wire.specs.Replays.{answer_at}
use Rattle.summary_cache.specs.Accepted.{Accepts}
use Rattle.summary_cache.specs.Stated.{IsPosed}
use Rattle.commands.specs.declared.reply.Reply.{Reply}
use Rattle.commands.specs.declared.status.Status.TheVariants as ended
use Rattle.commands.specs.declared.words.Work.TheVariants.{Check}
use Rattle.commands.specs.Certify.{PrintedIn}
use Rattle.commands.specs.Limits.{most_file}
use Rattle.commands.specs.Within.{OrRefused, OrWrong, Within}
use Rattle.commands.specs.Words.{work_of}

-- the rule by which a file of a version is read
abbrev pub rule_of : Version → ℕ
rule_of First = 1
rule_of Second = 2

-- the answers of a file, in the order of the questions that they are for
abbrev pub answers_in : Version → List Answer → List ℕ → List Answer
answers_in First answers order = answers
answers_in Second answers order = map (answer_at answers) order

-- the answers of a file by its version, in the order of their questions
abbrev pub answers_of : Certificate → List Answer
answers_of file = answers_in file.version file.answers file.order

-- where the analysis comes to a report, it covers the program, its claims are met, and its points
-- make rows true
abbrev pub IsMetBy : Program → Posed Report → Type 0
IsMetBy program (Finished report notes left) = ReportCovers program report
    × ClaimsAreMet program report × PointsMeetRows report
IsMetBy program (Stuck question left) = Unit {0}

-- The text is accepted, and the analysis of its program comes to this under listed answers and a
-- rule. Whoever listed them, a report to which it comes is true of the program.
pub record IsShown (rule : ℕ) (text : List ℕ) (answers : List Answer)
    (posed : Posed Report) : Type 0 where
  pub program : Program
  pub is_posed : IsPosed rule text program answers posed
  pub met : IsMetBy program posed

-- the answer to a file that passes
abbrev pub passed_reply : Reply
passed_reply = record { status = ended.CheckPassed; text = codes "check passed\n" }

-- why it does not pass, by a number
abbrev pub failed_reply : List ℕ → ℕ → List ℕ → Reply
failed_reply before number after = record {
  status = ended.CheckFailed;
  text = codes "check failed: " ++ before ++ decimal number ++ after ++ codes "\n";
}

-- a report that was made, against the one that is told: they are one, or differ behind the bytes
-- that both begin with
abbrev pub compared_reply : List ℕ → List ℕ → Reply
compared_reply made told = if bytes_eq made told then passed_reply
    else failed_reply (codes "report differs at byte ") (common_prefix_len nat_eq made told) []

-- a report was made, and so many answers are left
abbrev pub finished_reply : List ℕ → List ℕ → ℕ → Reply
finished_reply made told left = if left == 0 then compared_reply made told
    else failed_reply [] left (codes " answers left")

-- An answer is missing or does not pass, answers are left, or the report differs; else the file
-- passes.
abbrev pub posed_reply : List Answer → List ℕ → Posed Report → Reply
posed_reply answers told (Stuck question left) =
    failed_reply (codes "answer ") (stop_number answers left + 1) []
posed_reply answers told (Finished report notes left) =
    finished_reply (text_of report) told (length left)

-- the text is accepted, and this tells what its analysis comes to under listed answers and a rule
abbrev pub TellsCheck : ℕ → List ℕ → List Answer → List ℕ → Reply → Type 0
TellsCheck rule text answers told reply = (posed : Posed Report) × IsShown rule text answers posed
    × (reply ≡ posed_reply answers told posed)

-- a text is answered with what its analysis comes to under listed answers and a rule, or with the
-- reason of its refusal
abbrev pub IsCheckUnder : ℕ → List ℕ → List Answer → List ℕ → Reply → Type 0
IsCheckUnder rule text answers told reply =
    OrRefused text (TellsCheck rule text answers told) reply

-- the check of a file, under its answers and the rule of its version
abbrev pub IsCheckOf : Certificate → Reply → Type 0
IsCheckOf file reply = IsCheckUnder (rule_of file.version) file.text (answers_of file) file.report
    reply

-- a file within the limit whose text is accepted is answered with whether it passes
abbrev pub IsReplyToCheck : List ℕ → Reply → Type 0
IsReplyToCheck bytes reply = Within most_file bytes (OrWrong (certificate_of bytes) IsCheckOf) reply

-- all that the source has: a certificate file within the limit, whose text is accepted
pub record FileIn (left : Option (List ℕ)) : Type 0 where
  pub bytes : List ℕ
  pub whole : left ≡ Some bytes
  pub short : length bytes ≤ most_file
  pub file : Certificate
  pub shaped : certificate_of bytes ≡ Ok file
  pub program : Program
  pub accepted : Accepts file.text program

-- The words ask for the check of all that the source has: a certificate file within the limit whose
-- text is accepted.
pub record IsToCheck (words : List (List ℕ)) (left : Option (List ℕ)) : Type 0 where
  pub asked : work_of words ≡ Some Check
  pub file : FileIn left

-- The words ask for the check of what `certify` printed for a text.
pub record IsToCheckCertified (words : List (List ℕ)) (left : Option (List ℕ)) : Type 0 where
  pub asked : work_of words ≡ Some Check
  pub file : PrintedIn left

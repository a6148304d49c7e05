-- What is answered to `cra renew`: a certificate file that passes is made anew.
use Rattle.std.specs.Prelude.{◌≡◌, ◌≢◌, ◌⊎◌, ℕ, List, Option, Some}
use Rattle.wire.specs.declared.certificate.Certificate.{Certificate}
use Rattle.wire.specs.Files.{certificate_of}
use Rattle.commands.specs.declared.reply.Reply.{Reply}
use Rattle.commands.specs.declared.status.Status.TheVariants as ended
use Rattle.commands.specs.declared.words.Work.TheVariants.{Renew}
use Rattle.commands.specs.Certify.{PrintedIn, TellsFile}
use Rattle.commands.specs.Check.{FileIn, IsCheckOf}
use Rattle.commands.specs.Limits.{most_file}
use Rattle.commands.specs.Within.{OrRefused, OrWrong, Within}
use Rattle.commands.specs.Words.{work_of}

-- Where the check passed, the certificate file of the text is the reply, and else the reply of the
-- check is.
abbrev pub IsRenewedBy : List ℕ → Reply → Reply → Type 0
IsRenewedBy text checked reply =
    ((checked.status ≡ ended.CheckPassed) × OrRefused text (TellsFile text) reply)
    ⊎ ((checked.status ≢ ended.CheckPassed) × (reply ≡ checked))

-- a file that passes is answered with the certificate file of its text, and every other one with
-- the reply of its check
pub record IsRenewed (file : Certificate) (reply : Reply) : Type 0 where
  pub checked : Reply
  pub is_checked : IsCheckOf file checked
  pub is_renewed : IsRenewedBy file.text checked reply

-- a file within the limit that passes is answered with the certificate file of its text
abbrev pub IsReplyToRenew : List ℕ → Reply → Type 0
IsReplyToRenew bytes reply = Within most_file bytes (OrWrong (certificate_of bytes) IsRenewed) reply

-- The words ask for all that the source has to be made anew: a certificate file within the limit
-- whose text is accepted.
pub record IsToRenew (words : List (List ℕ)) (left : Option (List ℕ)) : Type 0 where
  pub asked : work_of words ≡ Some Renew
  pub file : FileIn left

-- The words ask for what `certify` printed for a text to be made anew.
pub record IsToRenewCertified (words : List (List ℕ)) (left : Option (List ℕ)) : Type 0 where
  pub asked : work_of words ≡ Some Renew
  pub file : PrintedIn left

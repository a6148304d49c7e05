-- What a run answers to its words and its input: one word for each command, from the file of the
-- command.
use Rattle.std.specs.Prelude.{◌≡◌, ℕ, List, Option, None, Some}
use Rattle.std.specs.Io.KnownBytes.{Consumes}
use Rattle.summary_cache.specs.Limits.{most_bytes}
use Rattle.commands.specs.declared.reply.Reply.{Reply}
use Rattle.commands.specs.declared.words.Work.{Work}
use Rattle.commands.specs.declared.words.Work.TheVariants.{Analyse, Certify, Check, Edit, Sample, Renew, Replay, Cost, Prove, Facets, Help, Version}
use Rattle.commands.specs.Analyse.{IsReplyToAnalyse, IsReplyToFacets}
use Rattle.commands.specs.Certify.{IsReplyToCertify}
use Rattle.commands.specs.Check.{IsReplyToCheck}
use Rattle.commands.specs.Cost.{IsReplyToCost}
use Rattle.commands.specs.Edit.{IsReplyToEdit}
use Rattle.commands.specs.Input.{IsInput}
use Rattle.commands.specs.Limits.{most_file, most_input}
use Rattle.commands.specs.Prove.{IsReplyToProve}
use Rattle.commands.specs.Renew.{IsReplyToRenew}
use Rattle.commands.specs.Replay.{IsReplyToReplay}
use Rattle.commands.specs.Sample.{IsReplyToSample}
use Rattle.commands.specs.Told.{help_reply, usage_reply, version_reply}
use Rattle.commands.specs.Words.{work_of}

-- The input is read up to one byte past a limit, and is a front of what the source had before; the
-- reply answers it.
pub record IsReplyToRead (limit : ℕ) (Answers : List ℕ → Reply → Type 0)
    (before after : Option (List ℕ)) (reply : Reply) : Type 0 where
  pub input : List ℕ
  pub is_input : IsInput limit before input
  pub is_front : Consumes before after input
  pub is_reply : Answers input reply

-- the reply answers what the words ask for; where nothing is read, the source has left what it had
abbrev pub IsReplyToWork : Option Work → Option (List ℕ) → Option (List ℕ) → Reply → Type 0
IsReplyToWork None before after reply = (reply ≡ usage_reply) × (after ≡ before)
IsReplyToWork (Some Help) before after reply = (reply ≡ help_reply) × (after ≡ before)
IsReplyToWork (Some Version) before after reply = (reply ≡ version_reply) × (after ≡ before)
IsReplyToWork (Some (Sample count)) before after reply = IsReplyToSample count reply
    × (after ≡ before)
IsReplyToWork (Some Analyse) before after reply = IsReplyToRead most_bytes IsReplyToAnalyse before
    after reply
IsReplyToWork (Some Prove) before after reply = IsReplyToRead most_bytes IsReplyToProve before after
    reply
IsReplyToWork (Some Facets) before after reply = IsReplyToRead most_bytes IsReplyToFacets before
    after reply
IsReplyToWork (Some Certify) before after reply = IsReplyToRead most_bytes IsReplyToCertify before
    after reply
IsReplyToWork (Some Check) before after reply = IsReplyToRead most_file IsReplyToCheck before after
    reply
IsReplyToWork (Some Edit) before after reply = IsReplyToRead most_input IsReplyToEdit before after
    reply
IsReplyToWork (Some Renew) before after reply = IsReplyToRead most_file IsReplyToRenew before after
    reply
IsReplyToWork (Some Replay) before after reply = IsReplyToRead most_input IsReplyToReplay before
    after reply
IsReplyToWork (Some (Cost name)) before after reply = IsReplyToRead most_bytes (IsReplyToCost name)
    before after reply

-- What a run replies, where its source has some bytes left before it and others after it. Words
-- that ask for nothing are refused before anything is read.
abbrev pub IsReply : List (List ℕ) → Option (List ℕ) → Option (List ℕ) → Reply → Type 0
IsReply words before after reply = IsReplyToWork (work_of words) before after reply

-- What is answered to words alone, without input: the help, the version and the usage.
use Rattle.std.specs.Prelude.{ℕ, List, ◌++◌, codes}
use Rattle.commands.specs.declared.reply.Reply.{Reply}
use Rattle.commands.specs.declared.status.Status.TheVariants as ended

-- the help: the usage, and a line for each command
abbrev pub help_text : List ℕ
help_text =
    codes "cra: a verified analyser of numeric C\n\nusage: cra analyse | certify | check | edit | sample N | renew | replay | facets | cost NAME\n\n"
    ++ codes "  analyse    reads the text of a program, and prints what is proved of it\n"
    ++ codes "  prove      reads the text of a program, and prints what is proved of it with phases of loops, products of rows and rows at points\n"
    ++ codes "  facets     reads the text of a program, and prints what is proved of it with loops bounded along the facets of their changes\n"
    ++ codes "  certify    reads the text of a program, and prints its report with all that shows it, as JSON\n"
    ++ codes "  check      reads a certificate file, and prints whether its answers show its report\n"
    ++ codes "  edit       reads a text with edits as JSON, and prints what comes of each version, and the report of the last\n"
    ++ codes "  sample N   makes a text of N procedures with loops, 1 to 250, and prints how many assertions are proved\n"
    ++ codes "  renew      reads a certificate file, and where it passes prints one that is made anew\n"
    ++ codes "  replay     reads a text with values and turns as JSON, and prints one execution\n"
    ++ codes "  cost NAME  reads the text of a program, and prints by how much each procedure changes a global\n"
    ++ codes "  --help     prints this\n"
    ++ codes "  --version  prints the version\n"

-- the answer to `--help`
abbrev pub help_reply : Reply
help_reply = record { status = ended.Told; text = help_text }

-- the answer to `--version`
abbrev pub version_reply : Reply
version_reply = record { status = ended.Told; text = codes "cra 0.1.0\n" }

-- the answer to words that ask for nothing
abbrev pub usage_reply : Reply
usage_reply = record {
  status = ended.WrongWords;
  text = codes "usage: cra analyse | certify | check | edit | sample N | renew | replay | facets | cost NAME\n";
}

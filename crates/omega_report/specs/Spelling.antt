-- The words of lines as the code holds them.
use Rattle.std.specs.Prelude.{Bool, true, false, ◌^◌, ◌&&◌, not, nat_lt}
use Rattle.std.specs.List.{list_all}
use Rattle.omega_model.specs.Report.{Line, Word, Name, Number}
use Rattle.omega_model.specs.ReportForms.{is_plain}
use Rattle.omega_model.specs.Work.{is_empty}
use Rattle.omega_report.specs.declared.line_words.Word.{Word as HeldWord}
use Rattle.omega_report.specs.declared.line_words.Word.TheVariants.{Name as HeldName, Number as HeldNumber, Time as HeldTime}

-- the word that the code holds
abbrev pub word_of : HeldWord → Word
word_of (HeldName name) = Name name.now
word_of (HeldNumber number) = Number number
word_of (HeldTime time) = Number time

-- whether a line has a word, and only plain ones
abbrev pub is_plain_line : Line → Bool
is_plain_line line = not (is_empty line) && list_all is_plain line

-- whether a word is a name, or a number below 2^64
abbrev pub is_short : Word → Bool
is_short (Name name) = true
is_short (Number number) = nat_lt number (2 ^ 64)

-- whether a number that the code holds has its 64 bits
abbrev pub fits : HeldWord → Bool
fits (HeldName name) = true
fits (HeldNumber number) = nat_lt number (2 ^ 64)
fits (HeldTime time) = true

-- whether a word that the code holds is no time
abbrev pub is_no_time : HeldWord → Bool
is_no_time (HeldName name) = true
is_no_time (HeldNumber number) = true
is_no_time (HeldTime time) = false

-- whether all numbers of a line are below 2^64
abbrev pub are_short : Line → Bool
are_short line = list_all is_short line

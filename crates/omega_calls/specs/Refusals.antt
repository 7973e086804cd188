-- Why a call has no answer.
use Rattle.std.specs.Prelude.{Bool, true, false}
use Rattle.omega_calls.specs.declared.fault.Fault.{Fault}
use Rattle.omega_calls.specs.declared.fault.Fault.TheVariants.{BadLine, UnknownCall, NoMemory}

-- a line is refused for its quotes and escapes, or for want of memory
abbrev pub is_of_lines : Fault → Bool
is_of_lines BadLine = true
is_of_lines NoMemory = true
is_of_lines _ = false

-- words that a call is given are refused since there is no such call, or for want of memory
abbrev pub is_of_words : Fault → Bool
is_of_words UnknownCall = true
is_of_words NoMemory = true
is_of_words _ = false

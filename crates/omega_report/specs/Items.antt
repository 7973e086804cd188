-- Lines as a JSON value.
use Rattle.std.specs.Prelude.{List, map}
use Rattle.serde_json.specs.Data.{Data, array, number, string, unsigned}
use Rattle.serde_json.specs.View.{items_of}
use Rattle.omega_model.specs.Report.{Line, Word, Name, Number}

-- a name as a string, a number as a number
abbrev pub word_data : Word → Data
word_data (Name name) = string name
word_data (Number value) = number (unsigned value)

-- the array of the words
abbrev pub line_data : Line → Data
line_data line = array (items_of (map word_data line))

-- the array of the lines
abbrev pub report_data : List Line → Data
report_data lines = array (items_of (map line_data lines))

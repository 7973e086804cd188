-- The table of words that the program takes.
use Rattle.omega_model.specs.Options.{WordTable, whole_table}

-- the whole table; it unfolds only where a proof asks for it, since it is long
unfoldable pub built_words : WordTable
built_words = whole_table

-- What the words of the command line name: the file of the model, and that of the solutions.
--
-- The words are read by the rule of `clap`: `command` is what that rule reads of the command, `fault_of` are the reasons for
-- which it doesn't take words, and `matches_of` are the values that it finds for each argument.
use Rattle.std.specs.Prelude.{List, map, Option, Some, None, if◌then◌else◌, codes, option_map, option_and_then, String, string_bytes}
use Rattle.std.specs.declared.alloc.Global.{Global}
use Rattle.clap.specs.Walk.{Row, Text, first_of, is_empty}
use Rattle.clap.specs.Simple.{App, matches_of, new_app, new_rule, with_rule}
use Rattle.clap.specs.Faults.{fault_of}
use Rattle.fzn_check.specs.declared.words.Names.{Names}

-- the command: its two arguments, each with the name by which its value is found
abbrev pub command : App
command = with_rule (with_rule (new_app (codes "fzncheck")) (new_rule (codes "MODEL"))) (new_rule (codes "SOLUTION"))

-- the names of the two files, where both are there
abbrev pub names_in : List Row → Option (Text × Text)
names_in rows = option_and_then (λ model. option_map (λ solutions. (model, solutions)) (first_of (codes "SOLUTION") rows)) (first_of (codes "MODEL") rows)

abbrev pub names_meant : Names → Text × Text
names_meant names = (names.model.now, names.solutions.now)

-- the texts of the words
abbrev pub texts_of : List (String Global) → List Text
texts_of = map string_bytes

-- The names of the two files, where the program's name is the first of the words; none where the command doesn't take them.
abbrev pub names_of : List (String Global) → Option (Text × Text)
names_of words = if is_empty (fault_of command (texts_of words)) then names_in (matches_of command (texts_of words)) else None

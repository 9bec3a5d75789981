-- What the words of the command line ask for.
--
-- The words are read by the rule of `clap`: `command` is what that rule reads of the command, `fault_of` are the reasons for
-- which it doesn't take words, and `matches_of` are the values that it finds for each argument.
use Rattle.std.specs.Prelude.{◌≤◌, ℕ, Bool, false, List, [], ◌∷◌, map, Option, Some, None, if◌then◌else◌, codes, option_map, option_and_then, String, string_bytes}
use Rattle.std.specs.Option.{option_map_or}
use Rattle.std.specs.Str.{bytes_eq}
use Rattle.std.specs.Str.Parse.{digits_value, without_leading_plus}
use Rattle.std.specs.declared.alloc.Global.{Global}
use Rattle.clap.specs.Walk.{Row, Rule, Text, first_of, is_empty, one_of}
use Rattle.clap.specs.Simple.{App, matches_of, new_app, new_rule, with_rule}
use Rattle.clap.specs.Faults.{fault_of}
use Rattle.clap.specs.ValueTests.{is_unsigned_in}
use Rattle.clap.specs.declared.builder.action.ArgAction.TheVariants.{SetTrue}
use Rattle.clap.specs.declared.builder.value_parser.ValueParser.TheVariants as vp
use Rattle.best_words.specs.declared.words.Options.{Options}
use Rattle.best_words.specs.declared.words.Config.{Config}

-- ---- the command: its arguments, each with the name by which its value is found

-- a flag of one letter
abbrev pub flag_rule : Text → ℕ → Rule
flag_rule id letter = record (new_rule id) { short = Some letter; action = Some SetTrue }

-- an option of one letter with a number that 64 bits hold, and the number that it has where it isn't used
abbrev pub letter_rule : Text → ℕ → Text → Rule
letter_rule id letter default = record (new_rule id) { short = Some letter; parser = Some (vp.Unsigned 0 18446744073709551615); defaults = default ∷ [] }

abbrev pub command : App
command =
    with_rule (with_rule (with_rule (with_rule (with_rule (new_app (codes "fznbest"))
    (flag_rule (codes "all") 97))
    (letter_rule (codes "workers") 112 (codes "1")))
    (flag_rule (codes "statistics") 115))
    (flag_rule (codes "verbose") 118))
    (new_rule (codes "FILE"))

-- ---- what is asked for

-- the number that a text writes in decimal, where it is within the bounds
abbrev pub number_in : ℕ → ℕ → Text → Option ℕ
number_in low high text = if is_unsigned_in low high text then Some (digits_value 10 (without_leading_plus text)) else None

-- the number of an option, where it is within the bounds
abbrev pub number_of : Text → ℕ → ℕ → List Row → Option ℕ
number_of id low high rows = option_and_then (number_in low high) (one_of id rows)

-- the flag was given
abbrev pub is_given : Text → List Row → Bool
is_given id rows = option_map_or (λ text. bytes_eq text (codes "true")) (one_of id rows) false

-- how the search is to be made: none where the number of threads is out of its bounds
abbrev pub options_of : List Row → Option Options
options_of rows =
    option_map (λ workers. record {
      all = is_given (codes "all") rows;
      workers = workers;
      statistics = is_given (codes "statistics") rows;
      verbose = is_given (codes "verbose") rows;
    })
    (number_of (codes "workers") 1 64 rows)

-- how the search is to be made, and of which file
abbrev pub config_in : List Row → Option (Options × Text)
config_in rows = option_and_then (λ options. option_map (λ file. (options, file)) (first_of (codes "FILE") rows)) (options_of rows)

abbrev pub config_meant : Config → Options × Text
config_meant c = (c.options, c.file.now)

-- the texts of the words
abbrev pub texts_of : List (String Global) → List Text
texts_of = map string_bytes

-- What the words ask for, the program's name first; none where the command doesn't take them.
abbrev pub config_of : List (String Global) → Option (Options × Text)
config_of words =
    if is_empty (fault_of command (texts_of words)) then config_in (matches_of command (texts_of words)) else None

-- ---- the bounds of the number

pub record AreOptions (o : Options) : Type 0 where
  pub workers : (1 ≤ o.workers) × (o.workers ≤ 64)

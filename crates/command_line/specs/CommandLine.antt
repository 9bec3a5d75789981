-- What the words of the command line ask for.
--
-- The words are read by the rule of `clap`: `command` is what that rule reads of the command, `fault_of` are the reasons for
-- which it doesn't take words, and `matches_of` are the values that it finds for each argument.
use Rattle.std.specs.Prelude.{◌≤◌, ℕ, Bool, false, List, [], ◌∷◌, map, Option, Some, None, if◌then◌else◌, codes, option_map, option_and_then, is_some, IfSome, String, string_bytes}
use Rattle.std.specs.Option.{option_map_or}
use Rattle.std.specs.Str.{bytes_eq}
use Rattle.std.specs.Str.Parse.{digits_value, without_leading_plus}
use Rattle.std.specs.declared.alloc.Global.{Global}
use Rattle.clap.specs.Walk.{Row, Rule, Text, first_of, is_empty, one_of}
use Rattle.clap.specs.Simple.{App, matches_of, new_app, new_rule, with_rule}
use Rattle.clap.specs.Faults.{fault_of}
use Rattle.clap.specs.ValueTests.{is_unsigned_in}
use Rattle.clap.specs.declared.builder.action.ArgAction.TheVariants.{SetTrue}
use Rattle.clap.specs.declared.builder.value_parser.ValueParser.{ValueParser}
use Rattle.clap.specs.declared.builder.value_parser.ValueParser.TheVariants as vp
use Rattle.command_line.specs.declared.words.Options.{Options}
use Rattle.command_line.specs.declared.words.Config.{Config}
use Rattle.command_line.specs.declared.words.Input.{Input}

-- ---- the command: its arguments, each with the name by which its value is found

-- a flag of one letter
abbrev pub flag_rule : Text → ℕ → Rule
flag_rule id letter = record (new_rule id) { short = Some letter; action = Some SetTrue }

-- a flag, named by a word
abbrev pub word_flag_rule : Text → Rule
word_flag_rule id = record (new_rule id) { long = Some id; action = Some SetTrue }

-- any number that 64 bits hold
abbrev pub any_number : ValueParser
any_number = vp.Unsigned 0 18446744073709551615

-- an option of one letter with a number, and the number that it has where it isn't used
abbrev pub letter_rule : Text → ℕ → Text → Rule
letter_rule id letter default = record (new_rule id) { short = Some letter; parser = Some any_number; defaults = default ∷ [] }

-- an option with a number, named by a word, and the number that it has where it isn't used
abbrev pub word_rule : Text → Text → Rule
word_rule id default = record (new_rule id) { long = Some id; parser = Some any_number; defaults = default ∷ [] }

-- an option with a number, named by a word, that has none where it isn't used
abbrev pub plain_rule : Text → Rule
plain_rule id = record (new_rule id) { long = Some id; parser = Some any_number }

abbrev pub command : App
command =
    with_rule (with_rule (with_rule (with_rule (with_rule (with_rule (with_rule (with_rule (with_rule (with_rule (new_app (codes "turbofzn"))
    (flag_rule (codes "all") 97))
    (letter_rule (codes "workers") 112 (codes "1")))
    (word_rule (codes "lanes") (codes "1")))
    (plain_rule (codes "depth")))
    (word_rule (codes "node-limit") (codes "0")))
    (word_rule (codes "round-limit") (codes "0")))
    (word_flag_rule (codes "domains")))
    (word_flag_rule (codes "steal")))
    (plain_rule (codes "make")))
    (new_rule (codes "FILE"))

-- ---- what is asked for

-- the number that a text writes in decimal, where it is within the bounds
abbrev pub number_in : ℕ → ℕ → Text → Option ℕ
number_in low high text = if is_unsigned_in low high text then Some (digits_value 10 (without_leading_plus text)) else None

-- the number of an option, where it is within the bounds
abbrev pub number_of : Text → ℕ → ℕ → List Row → Option ℕ
number_of id low high rows = option_and_then (number_in low high) (one_of id rows)

-- the flag was given
abbrev pub is_given : Text → List Row → Bool
is_given id rows = option_map_or (λ text. bytes_eq text (codes "true")) (one_of id rows) false

abbrev pub most_limit : ℕ
most_limit = 1000000000000

-- the depth that is given, or none where none is; nothing where it is out of its bounds
abbrev pub depth_of : List Row → Option (Option ℕ)
depth_of rows = if is_some (first_of (codes "depth") rows) then option_map (λ depth. Some depth) (number_of (codes "depth") 0 16 rows) else Some None

-- how the search is to be made: none where a number is out of its bounds
abbrev pub options_of : List Row → Option Options
options_of rows =
    option_and_then (λ workers.
    option_and_then (λ lanes.
    option_and_then (λ depth.
    option_and_then (λ node_limit.
    option_map (λ round_limit. record {
      all = is_given (codes "all") rows;
      workers = workers;
      lanes = lanes;
      depth = depth;
      node_limit = node_limit;
      round_limit = round_limit;
      domains = is_given (codes "domains") rows;
      steal = is_given (codes "steal") rows;
    })
    (number_of (codes "round-limit") 0 most_limit rows))
    (number_of (codes "node-limit") 0 most_limit rows))
    (depth_of rows))
    (number_of (codes "lanes") 1 64 rows))
    (number_of (codes "workers") 1 64 rows)

-- where the text of the model comes from
pub data InputOf : Type 0 where
  -- a file of this name
  file : Text → InputOf
  -- the made text of this number of variables
  made : ℕ → InputOf

abbrev pub input_meant : Input → InputOf
input_meant (Input.File name) = file name.now
input_meant (Input.Made n) = made n

-- The made text where it is asked for, whatever file is named, and else the file that is named; none where neither is asked
-- for, or the number of the made text is out of its bounds.
abbrev pub input_of : List Row → Option InputOf
input_of rows =
    if is_some (first_of (codes "make") rows) then option_map made (number_of (codes "make") 2 2000 rows)
    else option_map file (first_of (codes "FILE") rows)

abbrev pub config_meant : Config → Options × InputOf
config_meant c = (c.options, input_meant c.input)

-- how the search is to be made, and of what
abbrev pub config_in : List Row → Option (Options × InputOf)
config_in rows = option_and_then (λ options. option_map (λ input. (options, input)) (input_of rows)) (options_of rows)

-- the texts of the words
abbrev pub texts_of : List (String Global) → List Text
texts_of = map string_bytes

-- What the words ask for, the program's name first; none where the command doesn't take them.
abbrev pub config_of : List (String Global) → Option (Options × InputOf)
config_of words =
    if is_empty (fault_of command (texts_of words)) then config_in (matches_of command (texts_of words)) else None

-- ---- the bounds of the numbers

pub record AreOptions (o : Options) : Type 0 where
  pub workers : (1 ≤ o.workers) × (o.workers ≤ 64)
  pub lanes : (1 ≤ o.lanes) × (o.lanes ≤ 64)
  pub depth : IfSome o.depth (λ depth. depth ≤ 16)
  pub node_limit : o.node_limit ≤ most_limit
  pub round_limit : o.round_limit ≤ most_limit

abbrev pub IsInput : Input → Type 0
IsInput (Input.File name) = Unit {0}
IsInput (Input.Made n) = (2 ≤ n) × (n ≤ 2000)

abbrev pub IsConfig : Config → Type 0
IsConfig c = AreOptions c.options × IsInput c.input

-- The lines that the checker writes.
use Rattle.std.specs.Prelude.{ℕ, ◌+◌, ◌-◌, List, ◌++◌, codes, slice_get}
use Rattle.std.specs.Option.{option_map_or}
use Rattle.std.specs.Fmt.{decimal}
use Rattle.std.specs.Prelude.{[]}
use Rattle.constraint_model.specs.declared.model.FznModel.{FznModel}
use Rattle.constraint_model.specs.Table.{spelled}
use Rattle.fzn_print.specs.AnswerText.{line_end}
use Rattle.fzn_check.specs.declared.wrong.Wrong.{Wrong}

-- what a declared variable is called
abbrev pub declared_name : FznModel → ℕ → List ℕ
declared_name model v = option_map_or (λ d. d.name) (slice_get model.vars v) []

-- what the constraint of this number, counted from 1, is called
abbrev pub constraint_name : FznModel → ℕ → List ℕ
constraint_name model number = option_map_or (λ c. spelled c.name) (slice_get model.constraints (number - 1)) []

-- what is wrong
abbrev pub wrong_text : FznModel → Wrong → List ℕ
wrong_text model (Wrong.Outside v) = codes "outside " ++ declared_name model v
wrong_text model (Wrong.Violates number) = codes "violates " ++ decimal number ++ codes " " ++ constraint_name model number

-- the solution at this place, counted from 0, is the first that is wrong
abbrev pub wrong_line : FznModel → ℕ → Wrong → List ℕ
wrong_line model place wrong = codes "solution " ++ decimal (place + 1) ++ codes " " ++ wrong_text model wrong ++ line_end

-- so many solutions, and nothing is wrong with any
abbrev pub right_line : ℕ → List ℕ
right_line count = codes "ok " ++ decimal count ++ line_end

-- a variable isn't printed
abbrev pub hidden_line : FznModel → ℕ → List ℕ
hidden_line model v = codes "hidden " ++ declared_name model v ++ line_end

-- the text is the text of no answer
abbrev pub bad_text_line : List ℕ
bad_text_line = codes "bad solution text" ++ line_end

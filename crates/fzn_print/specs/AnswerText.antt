-- The text of an answer.
--
-- Source: the FlatZinc chapter of the MiniZinc Handbook, its section on output: an item `name = value;` for each output
-- variable, an array as a call of `array1d` to `array6d` with its index sets and the list of its entries, ten dashes after
-- each solution, and a mark at the end.
use Rattle.std.specs.Prelude.{ℕ, ℤ, pos, List, [], ◌∷◌, ◌++◌, map, length, Bool, true, false, flat_map, if◌then◌else◌, int_le, codes}
use Rattle.std.specs.Fmt.{decimal, signed_decimal}
use Rattle.constraint_model.specs.declared.model.Term.{Term}
use Rattle.constraint_model.specs.declared.model.Output.{Output}
use Rattle.constraint_model.specs.declared.model.FznModel.{FznModel}
use Rattle.constraint_model.specs.Ranges.{Range}
use Rattle.constraint_model.specs.Relations.{value}
use Rattle.fzn_print.specs.declared.answers.Answer.{Answer}
use Rattle.fzn_print.specs.declared.marks.Mark.{Mark}

-- the end of a line
abbrev pub line_end : List ℕ
line_end = 10 ∷ []

-- the separator of the parts of a list
abbrev pub comma : List ℕ
comma = codes ", "

-- the parts with the separator between each two
abbrev pub joined : List ℕ → List (List ℕ) → List ℕ
joined separator [] = []
joined separator (part ∷ []) = part
joined separator (part ∷ other ∷ parts) = part ++ separator ++ joined separator (other ∷ parts)

-- a boolean is written as a word, an integer in decimal
abbrev pub value_text : Bool → ℤ → List ℕ
value_text true z = if int_le (pos 1) z then codes "true" else codes "false"
value_text false z = signed_decimal z

-- the value of a term, where `a` has a number for each declared variable
abbrev pub term_text : List ℤ → Bool → Term → List ℕ
term_text a is_bool t = value_text is_bool (value a t)

-- an index set
abbrev pub range_text : Range → List ℕ
range_text r = signed_decimal r.0 ++ codes ".." ++ signed_decimal r.1

-- the entries of an array
abbrev pub list_text : List (List ℕ) → List ℕ
list_text entries = codes "[" ++ joined comma entries ++ codes "]"

-- the arguments of the call that an array is written as: its index sets, and the list of its entries
abbrev pub arguments_text : List Range → List (List ℕ) → List ℕ
arguments_text ranges entries = joined comma (map range_text ranges ++ (list_text entries ∷ []))

-- an array: the name of the call says how many index sets it has
abbrev pub array_text : List Range → List (List ℕ) → List ℕ
array_text ranges entries = codes "array" ++ decimal (length ranges) ++ codes "d(" ++ arguments_text ranges entries ++ codes ")"

-- what an output is called
abbrev pub output_name : Output → List ℕ
output_name (Output.Scalar name is_bool t) = name
output_name (Output.Array name is_bool ranges entries) = name

-- what an output is
abbrev pub output_text : List ℤ → Output → List ℕ
output_text a (Output.Scalar name is_bool t) = term_text a is_bool t
output_text a (Output.Array name is_bool ranges entries) = array_text ranges (map (term_text a is_bool) entries)

-- the line of an output
abbrev pub output_line : List ℤ → Output → List ℕ
output_line a output = output_name output ++ codes " = " ++ output_text a output ++ codes ";" ++ line_end

-- the lines of a solution, in the order of the declarations, and dashes
abbrev pub solution_text : FznModel → List ℤ → List ℕ
solution_text model a = flat_map (output_line a) model.output ++ codes "----------" ++ line_end

-- the mark at the end of an answer
abbrev pub mark_text_of : Mark → List ℕ
mark_text_of Mark.Plain = []
mark_text_of Mark.Complete = codes "==========" ++ line_end
mark_text_of Mark.Unsatisfiable = codes "=====UNSATISFIABLE=====" ++ line_end
mark_text_of Mark.Unknown = codes "=====UNKNOWN=====" ++ line_end

-- an answer: its solutions, each with its end, and its mark
abbrev pub answer_text : FznModel → Answer → List ℕ
answer_text model answer = flat_map (solution_text model) answer.solutions ++ mark_text_of answer.mark

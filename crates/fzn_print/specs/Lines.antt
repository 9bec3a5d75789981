-- How the lines of a solution are read: what is left of a text, and the numbers that it gives the variables.
use Rattle.std.specs.Prelude.{◌≡◌, ◌==◌, ◌||◌, ℕ, ℤ, List, [], ◌∷◌, ◌++◌, length, flat_map, map, slice_set, All, Bool, false, codes, ⊤}
use Rattle.std.specs.Char.{is_ascii_digit}
use Rattle.std.specs.Fmt.{decimal}
use Rattle.constraint_model.specs.declared.model.Term.{Term}
use Rattle.constraint_model.specs.declared.model.Output.{Output}
use Rattle.constraint_model.specs.declared.model.FznModel.{FznModel}
use Rattle.constraint_model.specs.Ranges.{Range}
use Rattle.constraint_model.specs.Relations.{value}
use Rattle.fzn_print.specs.AnswerText.{array_text, comma, joined, output_line, output_text, range_text, solution_text, term_text, value_text}
use Rattle.fzn_print.specs.Reading.{AreValues, IsValue, terms_in}

-- a byte that may be part of a number
abbrev pub is_number_byte : ℕ → Bool
is_number_byte b = b == 45 || is_ascii_digit b

-- no number goes on here
abbrev pub EndsNumber : List ℕ → Type 0
EndsNumber [] = ⊤
EndsNumber (b ∷ bs) = is_number_byte b ≡ false

-- the number of a variable is put at its place
abbrev pub put_at : List ℤ → Term → ℤ → List ℤ
put_at values (Term.Var v) z = slice_set values v z
put_at values (Term.Number n) z = values

-- the numbers that a solution gives these terms, each at its place
abbrev pub filled : List ℤ → List ℤ → List Term → List ℤ
filled a values [] = values
filled a values (t ∷ ts) = filled a (put_at values t (value a t)) ts

-- the text before the entries of an array
abbrev pub head_text : List Range → List ℕ
head_text ranges = codes "array" ++ decimal (length ranges) ++ codes "d(" ++ flat_map (λ range. range_text range ++ comma) ranges ++ codes "["

-- the terms of an output are values of its type
abbrev pub HasValues : List ℤ → Output → Type 0
HasValues a (Output.Scalar name is_bool t) = IsValue is_bool (value a t)
HasValues a (Output.Array name is_bool ranges entries) = All (λ t. IsValue is_bool (value a t)) entries

-- ---- where a text begins so, this is read of it: what is left of the text, and the numbers of the variables

abbrev pub ReadsNumber : List ℕ → ℤ → List ℕ → Type 0
ReadsNumber rest number after = (z : ℤ) (tail : List ℕ) → IsValue false z → EndsNumber tail → rest ≡ value_text false z ++ tail → (number ≡ z) × (after ≡ tail)

abbrev pub ReadsValue : Bool → List ℕ → ℤ → List ℕ → Type 0
ReadsValue is_bool rest number after = (z : ℤ) (tail : List ℕ) → IsValue is_bool z → EndsNumber tail → rest ≡ value_text is_bool z ++ tail → (number ≡ z) × (after ≡ tail)

-- the values before and after
abbrev pub ReadsTerm : Bool → Term → List ℕ → List ℕ → List ℤ → List ℤ → Type 0
ReadsTerm is_bool t rest after old new = (a : List ℤ) (tail : List ℕ) → IsValue is_bool (value a t) → EndsNumber tail → rest ≡ term_text a is_bool t ++ tail → (after ≡ tail) × (new ≡ put_at old t (value a t))

-- terms with a comma before each
abbrev pub ReadsOthers : Bool → List Term → List ℕ → List ℕ → List ℤ → List ℤ → Type 0
ReadsOthers is_bool ts rest after old new = (a : List ℤ) (tail : List ℕ) → All (λ t. IsValue is_bool (value a t)) ts → EndsNumber tail
    → rest ≡ flat_map (λ t. comma ++ term_text a is_bool t) ts ++ tail → (after ≡ tail) × (new ≡ filled a old ts)

-- terms with a comma between each two
abbrev pub ReadsEntries : Bool → List Term → List ℕ → List ℕ → List ℤ → List ℤ → Type 0
ReadsEntries is_bool ts rest after old new = (a : List ℤ) (tail : List ℕ) → All (λ t. IsValue is_bool (value a t)) ts → EndsNumber tail
    → rest ≡ joined comma (map (term_text a is_bool) ts) ++ tail → (after ≡ tail) × (new ≡ filled a old ts)

abbrev pub ReadsArray : Bool → List Range → List Term → List ℕ → List ℕ → List ℤ → List ℤ → Type 0
ReadsArray is_bool ranges ts rest after old new = (a : List ℤ) (tail : List ℕ) → All (λ t. IsValue is_bool (value a t)) ts
    → rest ≡ array_text ranges (map (term_text a is_bool) ts) ++ tail → (after ≡ tail) × (new ≡ filled a old ts)

abbrev pub ReadsOutput : Output → List ℕ → List ℕ → List ℤ → List ℤ → Type 0
ReadsOutput output rest after old new = (a : List ℤ) (tail : List ℕ) → HasValues a output → EndsNumber tail
    → rest ≡ output_text a output ++ tail → (after ≡ tail) × (new ≡ filled a old (terms_in output))

abbrev pub ReadsLine : Output → List ℕ → List ℕ → List ℤ → List ℤ → Type 0
ReadsLine output rest after old new = (a : List ℤ) (tail : List ℕ) → HasValues a output
    → rest ≡ output_line a output ++ tail → (after ≡ tail) × (new ≡ filled a old (terms_in output))

abbrev pub ReadsLines : List Output → List ℕ → List ℤ → List ℤ → Type 0
ReadsLines outputs rest old new = (a : List ℤ) (tail : List ℕ) → All (HasValues a) outputs
    → rest ≡ flat_map (output_line a) outputs ++ tail → new ≡ filled a old (flat_map terms_in outputs)

-- the bytes begin with this solution, and what is left
abbrev pub IsFrontSolution : FznModel → List ℕ → List ℤ → List ℕ → Type 0
IsFrontSolution model rest a after = AreValues model.vars a × (rest ≡ solution_text model a ++ after)

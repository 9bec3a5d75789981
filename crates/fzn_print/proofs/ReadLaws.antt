-- What was read of a text, solution by solution, and that it says nothing else.
use Rattle.std.proofs.Common.{◌≡◌, ◌≢◌, ◌<◌, ℕ, ℤ, pos, Bool, true, false, ◌==◌, List, [], ◌∷◌, ◌++◌, length, refl, sym, ap, subst, ◌∙◌, arith, append_assoc, append-nil, codes, eq-eqb, true≢false}
use Rattle.std.specs.Prelude.{flat_map, slice_index_or, All}
use Rattle.std.specs.List.{list_any}
use Rattle.std.proofs.lemmas.List.{length-append}
use Rattle.std.proofs.lemmas.List.Concat.{flat_map-append}
use Rattle.std.proofs.lemmas.List.Elements.{All-nil, All-head, All-tail, All-push, All-weaker}
use Rattle.std.proofs.lemmas.List.Folds.{list_any-append}
use Rattle.std.proofs.lemmas.Bool.{or_right}
use Rattle.constraint_model.specs.declared.model.Term.{Term}
use Rattle.constraint_model.specs.declared.model.VarDecl.{VarDecl}
use Rattle.constraint_model.specs.declared.model.Output.{Output}
use Rattle.constraint_model.specs.declared.model.FznModel.{FznModel}
use Rattle.constraint_model.specs.Relations.{value}
use Rattle.constraint_model.specs.WellFormed.{IsOutputOf, IsTermOf, IsVariable, IsWellFormed}
use Rattle.fzn_print.specs.AnswerText.{line_end, mark_text_of, output_line, solution_text}
use Rattle.fzn_print.specs.Reading.{AllPrinted, AreValues, IsReading, IsValue, printed_terms}
use Rattle.fzn_print.specs.Lines.{HasValues, IsFrontSolution, ReadsLines}
use Rattle.fzn_print.specs.declared.answers.Answer.{Answer}
use Rattle.fzn_print.specs.declared.marks.Mark.{Mark}
use Rattle.fzn_print.proofs.FillLaws.{filled_is}

-- ---- the values of what is written

-- a list that isn't empty has some element
some_element : {X : Type 0} (xs : List X) (k : ℕ) → k < length xs → X
some_element [] k inside = absurd (omega arith)
some_element (x ∷ xs) k inside = x

variable_value : (vars : List VarDecl) (a : List ℤ) (is_bool : Bool) (v : ℕ) → AreValues vars a → IsVariable vars is_bool v → IsValue is_bool (slice_index_or a v (pos 0))
variable_value vars a is_bool v values variable =
    let d = some_element vars v variable.inside in
    subst (λ (b : Bool). IsValue b (slice_index_or a v (pos 0))) (variable.same_type d) (values.each v d variable.inside)

term_value : (vars : List VarDecl) (a : List ℤ) (is_bool : Bool) → AreValues vars a → (t : Term) → IsTermOf vars is_bool t → IsValue is_bool (value a t)
term_value vars a is_bool values (Term.Number n) h = h
term_value vars a is_bool values (Term.Var v) h = variable_value vars a is_bool v values h

output_values : (vars : List VarDecl) (a : List ℤ) → AreValues vars a → (output : Output) → IsOutputOf vars output → HasValues a output
output_values vars a values (Output.Scalar name is_bool t) h = term_value vars a is_bool values t h
output_values vars a values (Output.Array name is_bool ranges entries) h = All-weaker (IsTermOf vars is_bool) (λ t. IsValue is_bool (value a t)) (term_value vars a is_bool values) entries h.1

-- ---- a solution at the front

module _ (model : FznModel) (formed : IsWellFormed model) (printed : AllPrinted model) where
  -- what was read of the lines of a solution is the solution
  pub values_read : (rest tail : List ℕ) (old new a : List ℤ) → length old ≡ length model.vars → ReadsLines model.output rest old new → AreValues model.vars a
      → rest ≡ solution_text model a ++ tail → new ≡ a
  values_read rest tail old new a room reads values is =
      let lines = flat_map (output_line a) model.output in
      let dashes = codes "----------" in
      let at = is ∙ append_assoc (lines ++ dashes) line_end tail ∙ append_assoc lines dashes (line_end ++ tail) in
      let fit = All-weaker (IsOutputOf model.vars) (HasValues a) (output_values model.vars a values) model.output formed.outputs in
      let long = values.same_length in
      reads a (dashes ++ (line_end ++ tail)) fit at ∙ filled_is a old (printed_terms model) (room ∙ sym long) (λ k inside. printed k (omega arith))

-- ---- marks

abbrev has_dash : List ℕ → Bool
has_dash bytes = list_any (λ b. b == 45) bytes

mark_has_none : (mark : Mark) → has_dash (mark_text_of mark) ≡ false
mark_has_none Mark.Plain = refl
mark_has_none Mark.Complete = refl
mark_has_none Mark.Unsatisfiable = refl
mark_has_none Mark.Unknown = refl

solution_has_one : (model : FznModel) (a : List ℤ) (tail : List ℕ) → has_dash (solution_text model a ++ tail) ≡ true
solution_has_one model a tail =
    let lines = flat_map (output_line a) model.output in
    let dashes = codes "----------" in
    let p : ℕ → Bool = λ b. b == 45 in
    ap has_dash (append_assoc (lines ++ dashes) line_end tail ∙ append_assoc lines dashes (line_end ++ tail))
    ∙ list_any-append p lines (dashes ++ (line_end ++ tail)) ∙ or_right (has_dash lines) (has_dash (dashes ++ (line_end ++ tail))) refl

-- no solution begins a mark
pub no_solution : (model : FznModel) (a : List ℤ) (tail : List ℕ) (mark : Mark) → solution_text model a ++ tail ≡ mark_text_of mark → ⊥
no_solution model a tail mark is = let e = sym (solution_has_one model a tail) ∙ ap has_dash is ∙ mark_has_none mark in cc

-- two numbers that a test tells apart aren't equal
unlike : {A : Type 0} (m n : ℕ) → m ≡ n → (m == n) ≡ false → A
unlike m n same told = let e = sym (eq-eqb m n same) ∙ told in absurd (true≢false e)

one_mark : (m n : Mark) → mark_text_of m ≡ mark_text_of n → m ≡ n
one_mark Mark.Plain Mark.Plain is = refl
one_mark Mark.Plain Mark.Complete is = unlike 0 11 (ap length is) refl
one_mark Mark.Plain Mark.Unsatisfiable is = unlike 0 24 (ap length is) refl
one_mark Mark.Plain Mark.Unknown is = unlike 0 18 (ap length is) refl
one_mark Mark.Complete Mark.Plain is = unlike 11 0 (ap length is) refl
one_mark Mark.Complete Mark.Complete is = refl
one_mark Mark.Complete Mark.Unsatisfiable is = unlike 11 24 (ap length is) refl
one_mark Mark.Complete Mark.Unknown is = unlike 11 18 (ap length is) refl
one_mark Mark.Unsatisfiable Mark.Plain is = unlike 24 0 (ap length is) refl
one_mark Mark.Unsatisfiable Mark.Complete is = unlike 24 11 (ap length is) refl
one_mark Mark.Unsatisfiable Mark.Unsatisfiable is = refl
one_mark Mark.Unsatisfiable Mark.Unknown is = unlike 24 18 (ap length is) refl
one_mark Mark.Unknown Mark.Plain is = unlike 18 0 (ap length is) refl
one_mark Mark.Unknown Mark.Complete is = unlike 18 11 (ap length is) refl
one_mark Mark.Unknown Mark.Unsatisfiable is = unlike 18 24 (ap length is) refl
one_mark Mark.Unknown Mark.Unknown is = refl

-- ---- the whole text

-- what an answer whose text this is says behind the solutions so far
pub record IsLeft (model : FznModel) (found : List (List ℤ)) (rest : List ℕ) (answer : Answer) : Type 0 where
  pub others : List (List ℤ)
  pub solutions : answer.solutions ≡ found ++ others
  pub text : flat_map (solution_text model) others ++ mark_text_of answer.mark ≡ rest
  pub values : All (AreValues model.vars) others

-- these solutions were read, and this is left
pub record IsRead (model : FznModel) (bytes : List ℕ) (found : List (List ℤ)) (rest : List ℕ) : Type 0 where
  pub text : bytes ≡ flat_map (solution_text model) found ++ rest
  pub values : All (AreValues model.vars) found
  pub each : (answer : Answer) → IsReading model bytes answer → IsLeft model found rest answer

module _ (model : FznModel) (bytes : List ℕ) where
  pub nothing_read : IsRead model bytes [] bytes
  nothing_read = record {
    text = refl;
    values = All-nil (AreValues model.vars);
    each = λ answer reading. record { others = answer.solutions; solutions = refl; text = reading.text; values = reading.values };
  }

  -- one more solution
  pub one_read : (found : List (List ℤ)) (rest after : List ℕ) (a : List ℤ) → IsRead model bytes found rest → ((mark : Mark) → rest ≢ mark_text_of mark) → IsFrontSolution model rest a after
      → ((b : List ℤ) (tail : List ℕ) → AreValues model.vars b → rest ≡ solution_text model b ++ tail → (a ≡ b) × (after ≡ tail)) → IsRead model bytes (found ++ a ∷ []) after
  one_read found rest after a read unmarked front alone = record {
    text =
        read.text ∙ ap (λ (r : List ℕ). flat_map (solution_text model) found ++ r) front.1 ∙ sym (append_assoc (flat_map (solution_text model) found) (solution_text model a) after)
        ∙ ap (λ (t : List ℕ). t ++ after) (ap (λ (t : List ℕ). flat_map (solution_text model) found ++ t) (sym (append-nil (solution_text model a))) ∙ sym (flat_map-append (solution_text model) found (a ∷ [])));
    values = All-push (AreValues model.vars) found a read.values front.0;
    each = λ answer reading. (let left = read.each answer reading in by answer left.others left.solutions left.text left.values);
  }
    where
      by : (answer : Answer) (others : List (List ℤ)) → answer.solutions ≡ found ++ others → flat_map (solution_text model) others ++ mark_text_of answer.mark ≡ rest → All (AreValues model.vars) others
          → IsLeft model (found ++ a ∷ []) after answer
      by answer [] solutions text values = absurd (unmarked answer.mark (sym text))
      by answer (b ∷ others) solutions text values =
          let behind = flat_map (solution_text model) others ++ mark_text_of answer.mark in
          let same = alone b behind (All-head (AreValues model.vars) b others values) (sym text ∙ append_assoc (solution_text model b) (flat_map (solution_text model) others) (mark_text_of answer.mark)) in
          record {
            others = others;
            solutions = solutions ∙ ap (λ (s : List ℤ). found ++ s ∷ others) (sym same.0) ∙ sym (append_assoc found (a ∷ []) others);
            text = sym same.1;
            values = All-tail (AreValues model.vars) b others values;
          }

  -- where a mark is left, this is the answer
  pub reading_is : (found : List (List ℤ)) (rest : List ℕ) (mark : Mark) → IsRead model bytes found rest → rest ≡ mark_text_of mark → IsReading model bytes (record { solutions = found; mark = mark })
  reading_is found rest mark read is = record {
    text = sym (read.text ∙ ap (λ (r : List ℕ). flat_map (solution_text model) found ++ r) is);
    values = read.values;
  }

  -- and it is the only one
  pub reading_alone : (found : List (List ℤ)) (rest : List ℕ) (mark : Mark) → IsRead model bytes found rest → rest ≡ mark_text_of mark → (other : Answer) → IsReading model bytes other
      → other ≡ record { solutions = found; mark = mark }
  reading_alone found rest mark read is other reading = let left = read.each other reading in by left.others left.solutions left.text
    where
      by : (others : List (List ℤ)) → other.solutions ≡ found ++ others → flat_map (solution_text model) others ++ mark_text_of other.mark ≡ rest → other ≡ record { solutions = found; mark = mark }
      by [] solutions text =
          let p = solutions ∙ append-nil found in
          let q = one_mark other.mark mark (text ∙ is) in
          λ i. record { solutions = p i; mark = q i }
      by (b ∷ others) solutions text =
          let behind = flat_map (solution_text model) others ++ mark_text_of other.mark in
          absurd (no_solution model b behind mark (sym (append_assoc (solution_text model b) (flat_map (solution_text model) others) (mark_text_of other.mark)) ∙ text ∙ is))

  -- where neither a mark nor a solution follows, there is none
  pub no_reading : (found : List (List ℤ)) (rest : List ℕ) → IsRead model bytes found rest → ((mark : Mark) → rest ≢ mark_text_of mark)
      → ((b : List ℤ) (tail : List ℕ) → AreValues model.vars b → rest ≡ solution_text model b ++ tail → ⊥) → (answer : Answer) → IsReading model bytes answer → ⊥
  no_reading found rest read unmarked none answer reading = let left = read.each answer reading in by left.others left.text left.values
    where
      by : (others : List (List ℤ)) → flat_map (solution_text model) others ++ mark_text_of answer.mark ≡ rest → All (AreValues model.vars) others → ⊥
      by [] text values = unmarked answer.mark (sym text)
      by (b ∷ others) text values =
          none b (flat_map (solution_text model) others ++ mark_text_of answer.mark) (All-head (AreValues model.vars) b others values)
          (sym text ∙ append_assoc (solution_text model b) (flat_map (solution_text model) others) (mark_text_of answer.mark))

-- a solution that was read is longer than nothing
pub shorter : (model : FznModel) (rest after : List ℕ) (a : List ℤ) → rest ≡ solution_text model a ++ after → length after < length rest
shorter model rest after a is =
    let lines = flat_map (output_line a) model.output in
    let dashes = codes "----------" in
    let long = ap length is ∙ length-append (solution_text model a) after in
    let parts = length-append (lines ++ dashes) line_end in
    let end : length line_end ≡ 1 = refl in
    omega arith

use Rattle.std.proofs.Common.{◌≡◌, ◌∙◌, ℕ, List, ◌++◌, sym, ap, subst}
use Rattle.std.proofs.lemmas.Bool.{both_ways}
use Rattle.std.proofs.lemmas.List.{append_cancel_left}
use Rattle.constraint_model.specs.declared.model.Output.{Output}
use Rattle.constraint_model.specs.declared.model.VarDecl.{VarDecl}
use Rattle.fzn_print.specs.AnswerText.{solution_text}
use Rattle.fzn_print.specs.Reading.{AreValues}
use Rattle.fzn_print.specs.Lines.{ReadsLines}
use Rattle.fzn_print.proofs.ReadLaws.{values_read}
use Rattle.fzn_print.proofs.reading.read_solution.Goals as goal

pub returns-then-not-are_values-clause-each : goal.returns-then-not-are_values-clause-each
returns-then-not-are_values-clause-each c = λ a tail values is.
    let model = c.args.model.now in
    let rest = c.args.rest.now in
    let old = c.args.values.now in
    let new = c.read_lines.new.values in
    let reads = subst (λ (os : List Output). ReadsLines os rest old new) c.as_slice.ensures c.in_ok-read_lines.ensures in
    let same = values_read model c.requires.model c.requires.printed rest tail old new a c.requires.room reads values is in
    let right = c.are_values.ensures.1 (subst (λ (vs : List VarDecl). AreValues vs new) (sym c.as_slice-2.ensures) (subst (AreValues model.vars) (sym same) values)) in
    both_ways c.are_values.result c.if-not-are_values.true right

pub returns-in-Some-clause-each : goal.returns-in-Some-clause-each
returns-in-Some-clause-each c = λ a tail values is.
    let model = c.args.model.now in
    let rest = c.args.rest.now in
    let old = c.args.values.now in
    let new = c.read_lines.new.values in
    let reads = subst (λ (os : List Output). ReadsLines os rest old new) c.as_slice.ensures c.in_ok-read_lines.ensures in
    let same = values_read model c.requires.model c.requires.printed rest tail old new a c.requires.room reads values is in
    let text = c.deref.ensures.value ∙ c.in_ok-text.ensures ∙ ap (solution_text model) same in
    let front = sym c.in-Some.ensures ∙ is in
    let turned = subst (λ (t : List ℕ). t ++ c.in-Some.after.now ≡ solution_text model a ++ tail) text front in
    (c.from_vec.ensures ∙ c.in_ok-from_slice-in-Some.ensures.items ∙ same, append_cancel_left (solution_text model a) c.in-Some.after.now tail turned)

pub returns-clause-each : goal.returns-clause-each
returns-clause-each c = λ a tail values is.
    let model = c.args.model.now in
    let rest = c.args.rest.now in
    let old = c.args.values.now in
    let new = c.read_lines.new.values in
    let reads = subst (λ (os : List Output). ReadsLines os rest old new) c.as_slice.ensures c.in_ok-read_lines.ensures in
    let same = values_read model c.requires.model c.requires.printed rest tail old new a c.requires.room reads values is in
    let text = c.deref.ensures.value ∙ c.in_ok-text.ensures ∙ ap (solution_text model) same in
    c.in-None.ensures tail (subst (λ (t : List ℕ). rest ≡ t ++ tail) (sym text) is)

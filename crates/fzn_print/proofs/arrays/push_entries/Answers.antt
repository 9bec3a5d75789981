use Rattle.std.proofs.Common.{◌≡◌, ℕ, List, OnOk, subst}
use Rattle.fzn_print.specs.AnswerText.{comma, term_text}
use Rattle.fzn_print.proofs.JoinLaws.{after_first}
use Rattle.fzn_print.proofs.arrays.push_entries.Goals as goal

pub returns-in_ok-push_term-in-Some : goal.returns-in_ok-push_term-in-Some
returns-in_ok-push_term-in-Some c =
    let some = c.in-Some in
    let text = term_text c.args.solution.now c.args.is_bool in
    let there = after_first comma text some.first.now some.rest.now c.args.entries.now c.args.text.now.items c.push_term.new.text.items some.ensures.cases.0 c.in_ok-push_term-in-Some.ensures in
    subst (λ (all : List ℕ). OnOk c.push_rest.result (c.push_rest.new.text.items ≡ all)) there c.push_rest.ensures

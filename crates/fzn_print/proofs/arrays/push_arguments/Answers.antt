use Rattle.std.proofs.Common.{◌≡◌, ℕ, List, map, OnOk, subst}
use Rattle.fzn_print.specs.AnswerText.{comma, list_text, range_text, term_text}
use Rattle.fzn_print.proofs.JoinLaws.{after_last}
use Rattle.fzn_print.proofs.arrays.push_arguments.Goals as goal

pub returns : goal.returns
returns c =
    let entries = list_text (map (term_text c.args.solution.now c.args.is_bool) c.args.entries.now) in
    let there = after_last comma range_text c.args.ranges.now entries c.args.text.now.items c.push_ranges.new.text.items c.in_ok-push_ranges.ensures in
    subst (λ (all : List ℕ). OnOk c.push_list.result (c.push_list.new.text.items ≡ all)) there c.push_list.ensures

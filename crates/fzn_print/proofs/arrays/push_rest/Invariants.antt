use Rattle.std.proofs.Common.{◌≡◌, ◌++◌, take}
use Rattle.std.specs.Prelude.{flat_map}
use Rattle.fzn_print.specs.AnswerText.{term_text, comma}
use Rattle.fzn_print.proofs.arrays.push_rest.Given as goal

-- the entries so far, each with its comma
abbrev pub invariant-loop-entry : goal.invariant-loop-entry
invariant-loop-entry l = l.text.items ≡ l.initial.text.items ++ flat_map (λ entry. comma ++ term_text l.solution l.is_bool entry) (take l.entry-index l.entries)

use Rattle.std.proofs.Common.{ℕ, List, [], ◌∷◌, ◌∙◌, subst, sym}
use Rattle.tickets.specs.Rule.{Lawful, first_view}
use Rattle.tickets.proofs.Moves.{opens}
use Rattle.tickets.proofs.steps.make.Goals as goal

pub of_words-requires : goal.of_words-requires
of_words-requires c =
    subst (λ (n : ℕ). Lawful c.deref.result.now (first_view n ∷ [])) (sym c.from.ensures)
    (subst (λ (words : List ℕ). Lawful words (first_view c.args.count ∷ [])) (sym (c.deref.ensures.value ∙ c.in_ok-words.ensures.items_if_clones_equal (λ y e. e)))
    (opens c.args.count))

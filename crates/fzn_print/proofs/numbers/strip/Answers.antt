use Rattle.std.proofs.Common.{◌∙◌, length, take, refl, sym, ap, take_at}
use Rattle.std.specs.Cmp.Lexicographic.{other_text}
use Rattle.fzn_print.proofs.numbers.strip.Goals as goal

pub returns-else-eq : goal.returns-else-eq
returns-else-eq c = λ tail is.
    let text = c.args.text.now in
    let front = c.split_at.ensures.front ∙ ap (take (length text)) is ∙ take_at text tail (length text) refl in
    absurd (other_text c.split_at.result.0.now text (sym c.if-eq.false ∙ c.eq.ensures) front)

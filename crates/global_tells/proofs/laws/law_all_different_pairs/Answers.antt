-- Past its end a list has any default; within it the default doesn't matter.
use Rattle.std.proofs.Common.{◌≡◌, ℕ, ◌<◌, length, get_or, ap, sym, ◌∙◌, arith}
use Rattle.std.proofs.lemmas.List.{get_or_default}
use Rattle.tells.specs.Words.{value_of}
use Rattle.global_tells.proofs.laws.law_all_different_pairs.Goals as goal

pub returns : goal.returns
returns c = λ xs numbers. (
  λ all. (λ i j less l. all i j 0 less l),
  λ pairs. (λ i j d less l e.
      let at : (k : ℕ) → k < length xs → value_of numbers (get_or xs k 0) ≡ value_of numbers (get_or xs k d) = (λ k h. ap (value_of numbers) (get_or_default xs k 0 d h)) in
      pairs i j less l (at i (omega arith) ∙ e ∙ sym (at j l))),
)

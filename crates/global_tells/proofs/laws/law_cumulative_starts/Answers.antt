-- An assignment is a box whose bounds are its numbers.
use Rattle.std.proofs.Common.{◌≡◌, ℕ, ℤ, ◌<◌, ◌≤ℤ◌, length, get_or, sym, ap, subst, ◌∙◌, arith}
use Rattle.interval.specs.Boxes.{low_of, high_of}
use Rattle.tells.specs.Words.{value_of}
use Rattle.global_tells.specs.declared.tasks.Task.{Task}
use Rattle.global_tells.specs.Cumulative.{tasks_of, no_task, usage_at, used_at}
use Rattle.global_tells.proofs.TaskLaws.{All-starts, tasks_positive, tasks_length, task_at}
use Rattle.global_tells.proofs.CumulativeLaws.{no_overload_from}
use Rattle.global_tells.proofs.CumulativePlace.{used_sure, fixed_to, fixed_low, fixed_high}
use Rattle.global_tells.proofs.laws.law_cumulative_starts.Goals as goal

pub returns : goal.returns
returns c = λ s d r limit numbers tasks.
    let ts = tasks_of s d r in
    let g = fixed_to numbers in
    let same : (t : ℤ) → usage_at ts g t ≡ used_at ts numbers t = (λ t. used_sure ts g numbers t (All-starts s d r (λ x. (low_of g x ≡ value_of numbers x) × (high_of g x ≡ value_of numbers x)) (λ i h. (fixed_low numbers (get_or s i 0), fixed_high numbers (get_or s i 0))))) in
    let at : (j : ℕ) → j < length s → high_of g (get_or ts j no_task).start ≡ value_of numbers (get_or s j 0) = (λ j h. ap (λ (k : Task). high_of g k.start) (task_at s d r j tasks.a_duration_each tasks.a_usage_each h) ∙ fixed_high numbers (get_or s j 0)) in
    let few : ((j : ℕ) → j < length s → used_at ts numbers (value_of numbers (get_or s j 0)) ≤ℤ limit) → (j : ℕ) → j < length ts → usage_at ts g (high_of g (get_or ts j no_task).start) ≤ℤ limit = (λ starts j l.
    let e = tasks_length s d r limit tasks in
    let inside : j < length s = omega arith in
    subst (λ (z : ℤ). z ≤ℤ limit) (sym (same (high_of g (get_or ts j no_task).start))) (subst (λ (t : ℤ). used_at ts numbers t ≤ℤ limit) (sym (at j inside)) (starts j inside))) in (
      λ holds. (λ j l. holds (value_of numbers (get_or s j 0))),
      λ starts. (λ t. subst (λ (z : ℤ). z ≤ℤ limit) (same t) (no_overload_from ts limit g (tasks_positive s d r limit tasks) tasks.limit.positive (few starts) t)),
    )

-- The kernel's tells are those of its tasks.
use Rattle.std.proofs.Common.{◌≡◌, List, ◌∙◌, to_z, of_z, sym, subst, arith}
use Rattle.std.proofs.lemmas.Int.{ints}
use Rattle.std.specs.Bool.{OnTrue}
use Rattle.std.specs.List.{All}
use mir.Syntax.{w64}
use Rattle.interval.specs.Limits.{largest_number}
use Rattle.tells.specs.declared.tell.Tell.{Tell}
use Rattle.global_tells.specs.Cumulative.{tasks_of, cumulative_tells, AreTasks}
use Rattle.guarded_tell.specs.Words.{Keeps}
use Rattle.guarded_tell.specs.Kernels.{tells, HasNumbers}
use Rattle.kernel_visits.proofs.narrowing.is_quiet.Goals as goal

pub returns-in-Cumulative : goal.returns-in-Cumulative
unfolding tells HasNumbers largest_number
returns-in-Cumulative c =
    let b = c.args.b.now in
    let s = c.in-Cumulative.starts in
    let d = c.in-Cumulative.durations in
    let r = c.in-Cumulative.usages in
    let limit = c.in-Cumulative.limit in
    let fit : AreTasks s d r limit = subst HasNumbers c.in-Cumulative.is c.requires.kernel.numbers in
    let coded : to_z w64 (of_z w64 limit) ≡ limit = (let n = fit.limit.number in omega (arith, ints)) in
    let starts : c.as_slice-in-Cumulative.result.now ≡ s = cc in
    let durations : c.as_slice-in-Cumulative-2.result.now ≡ d = cc in
    let usages : c.as_slice-in-Cumulative-3.result.now ≡ r = cc in
    let P : List Tell → Type 0 = λ ts. OnTrue c.is_cumulative_quiet.result (All (Keeps b) ts) in
    subst P ((λ i. cumulative_tells (tasks_of (starts i) (durations i) (usages i)) (coded i) b) ∙ (λ i. tells (sym c.in-Cumulative.is i) b)) c.is_cumulative_quiet.ensures

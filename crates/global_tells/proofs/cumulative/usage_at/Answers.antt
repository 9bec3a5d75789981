-- Each step adds what one more task uses.
use Rattle.std.proofs.Common.{◌≡◌, ◌<◌, ◌≤◌, ℤ, length, get_or, to_z, of_z, ap, refl, ◌∙◌, arith}
use Rattle.std.proofs.lemmas.Int.{ints, to_z-of_z}
use mir.Syntax.{w64}
use Rattle.interval.specs.Limits.{largest_number}
use Rattle.global_tells.specs.Ranges.{place_limit}
use Rattle.global_tells.specs.Cumulative.{no_task, tasks_in, sum_of, sure_usage, usage_limit}
use Rattle.global_tells.proofs.TaskLaws.{tasks_length, sum_more_by_one, sum_all}
use Rattle.global_tells.proofs.cumulative.usage_at.Goals as goal

pub loop-k-init : goal.loop-k-init
unfolding sum_of
loop-k-init c = (refl, omega (arith, ints), omega (arith, ints))

pub overflow_add-used : goal.overflow_add-used
unfolding place_limit largest_number
overflow_add-used c =
    let short = c.requires.fit.short in let low = c.loop-k.invariant.1 in let high = c.loop-k.invariant.2 in let is = c.loop-k.used-is in
    let least = c.sure_usage-used.ensures.least in let most = c.sure_usage-used.ensures.most in let k = c.loop-k-test.true in
    omega (arith, ints)

pub loop-k-preserved : goal.loop-k-preserved
unfolding place_limit largest_number
loop-k-preserved c =
    let ts = tasks_in c.args.tasks.now in
    let f = sure_usage c.args.b.now (to_z w64 (of_z w64 c.args.time)) in
    let n = tasks_length _ _ _ _ c.requires.fit in
    let inside : c.loop-k.k < length ts = (let k = c.loop-k-test.true in omega arith) in
    let step = sum_more_by_one f ts c.loop-k.k no_task inside in
    let value : c.sure_usage-used.result ≡ f (get_or ts c.loop-k.k no_task) = c.sure_usage-used.ensures.value ∙ ap f c.at-task.ensures.value in
    let short = c.requires.fit.short in let same = c.loop-k.invariant.0 in let low = c.loop-k.invariant.1 in let high = c.loop-k.invariant.2 in let is = c.loop-k.used-is in
    let least = c.sure_usage-used.ensures.least in let most = c.sure_usage-used.ensures.most in let k = c.loop-k-test.true in
    (omega (arith, ints), omega (arith, ints), omega (arith, ints))

pub returns-clause-value : goal.returns-clause-value
returns-clause-value c =
    let ts = tasks_in c.args.tasks.now in
    let n = tasks_length _ _ _ _ c.requires.fit in
    let outside : length ts ≤ c.loop-k.k = (let k = c.loop-k-test.false in omega arith) in
    let all = c.loop-k.invariant.0 ∙ sum_all (sure_usage c.args.b.now (to_z w64 (of_z w64 c.args.time))) ts c.loop-k.k outside in
    all ∙ ap (λ (z : ℤ). sum_of (sure_usage c.args.b.now z) ts) (to_z-of_z w64 c.args.time c.ranges.time)

pub returns-clause-in_range : goal.returns-clause-in_range
unfolding usage_limit place_limit largest_number
returns-clause-in_range c =
    let short = c.requires.fit.short in let low = c.loop-k.invariant.1 in let high = c.loop-k.invariant.2 in let is = c.loop-k.used-is in let k = c.loop-k.auto.k-end in
    omega (arith, ints)

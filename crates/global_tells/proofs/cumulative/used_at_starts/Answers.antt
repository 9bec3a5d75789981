-- Each step writes what is used at the latest start of one more task.
use Rattle.std.proofs.Common.{◌≡◌, ◌<◌, ◌≤◌, ℤ, unsigned_abs, pos, length, get_or, to_z, of_z, sym, ap, subst, ◌∙◌, arith}
use Rattle.std.proofs.Math.ListN.{length-set}
use mir.Syntax.{w64}
use Rattle.interval.specs.Boxes.{high_of}
use Rattle.global_tells.specs.Ranges.{place_limit}
use Rattle.global_tells.specs.Cumulative.{usage_at, usage_limit, tasks_in}
use Rattle.global_tells.proofs.Lists.{set_below}
use Rattle.global_tells.proofs.TaskLaws.{coded_bound, coded_usage}
use Rattle.global_tells.proofs.cumulative.used_at_starts.Goals as goal

pub bounds-used-j : goal.bounds-used-j
unfolding place_limit
bounds-used-j c = let short = c.requires.fit.short in let j = c.loop-j-test.true in omega arith

pub loop-j-preserved : goal.loop-j-preserved
unfolding place_limit
loop-j-preserved c =
    let t = c.args.tasks.now in
    let b = c.args.b.now in
    let r = c.usage_at.result in
    let short = c.requires.fit.short in
    let test = c.loop-j-test.true in
    let size = c.loop-j.invariant.0 in
    let inside : c.loop-j.j < length c.loop-j.used = omega arith in
    let coded = coded_usage r c.usage_at.ensures.in_range in
    let time = coded_bound c.high.result c.high.ensures.in_range ∙ c.high.ensures.value in
    let value : to_z w64 (of_z w64 r) ≡ usage_at (tasks_in t) b (high_of b (get_or t.starts.now c.loop-j.j 0)) = coded ∙ c.usage_at.ensures.value ∙ ap (λ (z : ℤ). usage_at (tasks_in t) b z) time in
    let within : unsigned_abs (to_z w64 (of_z w64 r)) ≤ usage_limit = subst (λ (z : ℤ). unsigned_abs z ≤ usage_limit) (sym coded) c.usage_at.ensures.in_range in (
      omega (arith, length-set {A = ℤ}),
      set_below (pos 0) (λ k z. z ≡ usage_at (tasks_in t) b (high_of b (get_or t.starts.now k 0))) c.loop-j.used c.loop-j.j (to_z w64 (of_z w64 r)) inside c.loop-j.invariant.1 value,
      set_below (pos 0) (λ k z. unsigned_abs z ≤ usage_limit) c.loop-j.used c.loop-j.j (to_z w64 (of_z w64 r)) inside c.loop-j.invariant.2 within,
    )

pub returns : goal.returns
unfolding place_limit
returns c =
    let short = c.requires.fit.short in
    let test = c.loop-j-test.false in
    let size = c.loop-j.invariant.0 in
    record {
      a_place_each = omega arith;
      each = λ j h. c.loop-j.invariant.1 j (omega arith);
      in_range = λ j h. c.loop-j.invariant.2 j (omega arith);
    }

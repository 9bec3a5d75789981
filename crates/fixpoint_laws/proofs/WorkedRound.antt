-- A round worked by hand: x < y over 0..3, with variable 0 true, is told that x is at most 2 and y at least 1.
use Rattle.std.proofs.Common.{◌≡◌, ℕ, zero, suc, pos, negsuc, ◌<◌, ◌≤ℤ◌, true, List, [], ◌∷◌, refl, arith, subst, sym, ap}
use Rattle.std.specs.List.{All}
use Rattle.std.proofs.lemmas.Int.{ints}
use Rattle.std.proofs.lemmas.List.Elements.{All-nil, All-cons}
use Rattle.interval.specs.Limits.{clamp_of, bound_limit, largest_number}
use Rattle.interval.specs.Quotients.{floor_of, ceiling_of}
use Rattle.interval.specs.Boxes.{Bounds, low_of, high_of, IsInside}
use Rattle.guarded_tell.specs.declared.kernel.Kernel.{Kernel}
use Rattle.guarded_tell.specs.declared.kernel.Kernel.TheVariants.{Le}
use Rattle.guarded_tell.specs.Words.{Lit}
use Rattle.guarded_tell.specs.Words.{Tell}
use Rattle.guarded_tell.specs.Words.{Low, High}
use Rattle.guarded_tell.specs.Words.{Keeps, is_sure, is_out}
use Rattle.sum_tells.specs.Linear.{sum_over, least_of, greatest_of}
use Rattle.guarded_tell.specs.Kernels.{tells}
use Rattle.fixpoint_laws.specs.OneRound.{IsOneRound, IsHeardBetween, LeadsIn, LeavesAlone}

abbrev always : Lit
always = record { var = 0; positive = true }

abbrev x_below_y : Kernel
x_below_y = Le always (pos 1 ∷ negsuc 0 ∷ []) (1 ∷ 2 ∷ []) (negsuc 0)

abbrev start : Bounds
start = (pos 1, pos 1) ∷ (pos 0, pos 3) ∷ (pos 0, pos 3) ∷ []

abbrev after : Bounds
after = (pos 1, pos 1) ∷ (pos 0, pos 2) ∷ (pos 1, pos 3) ∷ []

abbrev x_told : Tell
x_told = record { var = 1; side = High; bound = pos 2 }

abbrev y_told : Tell
y_told = record { var = 2; side = Low; bound = pos 1 }

the_tells : tells x_below_y start ≡ x_told ∷ y_told ∷ []
unfolding tells clamp_of bound_limit largest_number floor_of ceiling_of is_sure is_out sum_over least_of greatest_of
the_tells = refl

after_inside : IsInside after start
after_inside = record { same_length = refl; lows = lows; highs = highs } where
  lows : (v : ℕ) → v < 3 → low_of start v ≤ℤ low_of after v
  lows zero h = omega (arith, ints)
  lows (suc zero) h = omega (arith, ints)
  lows (suc (suc zero)) h = omega (arith, ints)
  lows (suc (suc (suc v))) h = absurd (omega arith)

  highs : (v : ℕ) → v < 3 → high_of after v ≤ℤ high_of start v
  highs zero h = omega (arith, ints)
  highs (suc zero) h = omega (arith, ints)
  highs (suc (suc zero)) h = omega (arith, ints)
  highs (suc (suc (suc v))) h = absurd (omega arith)

start_inside : IsInside start start
start_inside = record { same_length = refl; lows = λ v h. omega (arith, ints); highs = λ v h. omega (arith, ints) }

heard_at_start : LeavesAlone x_below_y start after
heard_at_start = subst (λ (ts : List Tell). All (Keeps after) ts) (sym the_tells)
    (All-cons (Keeps after) x_told (y_told ∷ []) (omega (arith, ints)) (All-cons (Keeps after) y_told [] (omega (arith, ints)) (All-nil (Keeps after))))

pub one_round : IsOneRound (x_below_y ∷ []) start after
one_round = record {
  inside = after_inside;
  moved = λ e. let x : pos 3 ≡ pos 2 = ap (λ (b : Bounds). high_of b 1) e in absurd (omega (arith, ints));
  each = All-cons (λ (k : Kernel). IsHeardBetween k start after) x_below_y []
      (record { between = start; inside = start_inside; holds = after_inside; heard = heard_at_start })
      (All-nil (λ (k : Kernel). IsHeardBetween k start after));
}

pub one_leads : LeadsIn (x_below_y ∷ []) 1 start after
unfolding LeadsIn
one_leads = (start, refl, one_round)

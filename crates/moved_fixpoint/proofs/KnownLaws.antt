-- How callers come by sets of kernels that rest.
use Rattle.std.proofs.Common.{◌≢◌, ℕ, ℤ, pos, ◌<◌, ◌≤ℤ◌, true, length, get_or, inl, inr, sym, subst, ap, ◌∙◌, arith}
use Rattle.std.specs.Prelude.{slice_set}
use Rattle.std.proofs.lemmas.Bool.{cases_eq, cases_lt}
use Rattle.std.proofs.lemmas.Int.{ints}
use Rattle.std.proofs.lemmas.List.{get_or_past}
use Rattle.interval.specs.Boxes.{Bounds, put_of, IsInside, InsideOrder}
use Rattle.guarded_tell.specs.Kernels.{vars_of}
use Rattle.kernel_visits.specs.Rests.{IsFixedAt}
use Rattle.moved_set.specs.Sets.{IsIn}
use Rattle.moved_fixpoint.specs.Moved.{Set, count_of}
use Rattle.moved_fixpoint.specs.Resting.{KnownUnlessMoved}
use Rattle.moved_fixpoint.specs.Runs.{SameAt}
use Rattle.moved_fixpoint.proofs.Telling.{same_elsewhere, put_low, put_high}
use Rattle.moved_fixpoint.proofs.QuietLaws.{marked, marked_more}
use Rattle.moved_fixpoint.proofs.RestLaws.{same_fixed, entailed_inside, quiet_inside}

-- a variable that is fixed stays fixed in a proper box inside
module _ (b : Bounds) (v : ℕ) (low high : ℤ) (inside : IsInside (put_of b v low high) b) (below : low ≤ℤ high) where
  stays_here : IsFixedAt b v → IsFixedAt (put_of b v low high) v
  stays_here fixed = elim (cases_lt v (length b)) [
    | inl h ↦
        let new_low = put_low b v low high h in
        let new_high = put_high b v low high h in
        let rises = inside.lows v h in
        let falls = inside.highs v h in
        omega (arith, ints)
    | inr past ↦
        let same = inside.same_length in
        ap (λ (p : ℤ × ℤ). p.0) (get_or_past (put_of b v low high) v (pos 0, pos 0) (omega arith))
        ∙ sym (ap (λ (p : ℤ × ℤ). p.1) (get_or_past (put_of b v low high) v (pos 0, pos 0) (omega arith)))
  ]

  same_back : (w : ℕ) → w ≢ v → SameAt b (put_of b v low high) w
  same_back w ne = let s = same_elsewhere b v low high w ne in record { low = sym s.low; high = sym s.high }

  stays_fixed : (w : ℕ) → IsFixedAt b w → IsFixedAt (put_of b v low high) w
  stays_fixed w fixed = elim (cases_eq w v) [
    | inl e ↦ subst (λ (x : ℕ). IsFixedAt (put_of b v low high) x) (sym e) (stays_here (subst (λ (x : ℕ). IsFixedAt b x) e fixed))
    | inr ne ↦ same_fixed b (put_of b v low high) w (same_back w ne) fixed
  ]

  -- one that is newly fixed is the one that got other bounds
  fixed_before : (moved : Set) → v < count_of moved → (w : ℕ) → (IsIn (slice_set moved v true) w → IsFixedAt (put_of b v low high) w → ⊥) →
      IsFixedAt (put_of b v low high) w → IsFixedAt b w
  fixed_before moved h w free fixed = elim (cases_eq w v) [
    | inl e ↦ absurd (free (subst (λ (x : ℕ). IsIn (slice_set moved v true) x) (sym e) (marked moved v h)) fixed)
    | inr ne ↦ same_fixed (put_of b v low high) b w (same_elsewhere b v low high w ne) fixed
  ]

pub known_unless_moved : InsideOrder → KnownUnlessMoved
known_unless_moved order = record {
  resting = λ b kernels asked open_ones alert moved resting. record {
    entailed = resting.entailed;
    dormant = λ j k h none dozing free. resting.dormant j k h dozing;
  };
  put = λ b kernels asked open_ones alert moved v low high h inside below knows. record {
    entailed = λ j k i shut. entailed_inside order (get_or kernels j k) (put_of b v low high) b inside (knows.entailed j k i shut);
    dormant = λ j k i none dozing free.
        quiet_inside order (get_or kernels j k) (put_of b v low high) b inside
        (λ x d l fixed. fixed_before b v low high inside below moved h (get_or (vars_of (get_or kernels j k)) x d) (free x d l) fixed)
        (knows.dormant j k i none dozing
        (λ x d l is_in fixed. free x d l (marked_more moved v (get_or (vars_of (get_or kernels j k)) x d) h is_in)
        (stays_fixed b v low high inside below (get_or (vars_of (get_or kernels j k)) x d) fixed)));
  };
  all_asked = λ b kernels asked open_ones alert moved each open_each. record {
    entailed = λ j k h shut. absurd (shut (open_each j h));
    dormant = λ j k h none dozing free. absurd (none (each j h));
  };
  all_alert = λ b kernels asked open_ones alert moved open_each each. record {
    entailed = λ j k h shut. absurd (shut (open_each j h));
    dormant = λ j k h none dozing free. absurd (dozing (each j h));
  };
}

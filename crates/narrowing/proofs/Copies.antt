-- Boxes whose bounds are copied one variable after another.
use Rattle.std.proofs.Common.{◌≡◌, ◌≢◌, ℕ, ℤ, pos, ◌+◌, ◌<◌, ◌≤ℤ◌, List, length, Result, Ok, Err, OnErr, sym, ap, subst, ◌∙◌, arith, inl, inr}
use Rattle.std.proofs.lemmas.Bool.{cases_eq}
use Rattle.std.proofs.lemmas.Int.{ints}
use Rattle.std.proofs.lemmas.List.{get_or-set_same, get_or-set_other, set-get_or}
use Rattle.interval.specs.Boxes.{Bounds, IsInside, low_of, high_of, put_of, InsideOrder}
use Rattle.guarded_tell.specs.declared.kernel.Kernel.{Kernel}
use Rattle.fixpoint_laws.specs.Fixpoints.{IsGreatest}
use Rattle.fixpoint_laws.specs.Rounds.{HaveRun}
use Rattle.moved_fixpoint.specs.Runs.{SameAt}

-- the bounds of the first variables are the same
abbrev pub AreSame : Bounds → Bounds → ℕ → Type 0
AreSame a b count = (w : ℕ) → w < count → SameAt a b w

-- a box is inside the start, and around the inner one
pub record IsBetween (inner b start : Bounds) : Type 0 where
  pub inside : IsInside b start
  pub around : IsInside inner b

-- bounds that were put are those of the variable, and other variables keep theirs
put_here : (a : Bounds) (v : ℕ) (low high : ℤ) → v < length a → (low_of (put_of a v low high) v ≡ low) × (high_of (put_of a v low high) v ≡ high)
put_here a v low high h =
    let at = get_or-set_same a v (low, high) (pos 0, pos 0) h in
    (ap (λ (q : ℤ × ℤ). q.0) at, ap (λ (q : ℤ × ℤ). q.1) at)

put_elsewhere : (a : Bounds) (v w : ℕ) (low high : ℤ) → w ≢ v → SameAt (put_of a v low high) a w
put_elsewhere a v w low high ne =
    let other = get_or-set_other a v w (low, high) (pos 0, pos 0) ne in
    record { low = ap (λ (q : ℤ × ℤ). q.0) other; high = ap (λ (q : ℤ × ℤ). q.1) other }

-- a box between two stays there where a variable is given the bounds of the inner one
pub between_put : (inner a c start : Bounds) (v : ℕ) → v < length a → length c ≡ length a → c ≡ put_of a v (low_of inner v) (high_of inner v) → IsInside inner start →
    IsBetween inner a start → IsBetween inner c start
between_put inner a c start v h same is known b = record {
  inside = record {
    same_length = same ∙ b.inside.same_length;
    lows = λ w k. (within w k).0;
    highs = λ w k. (within w k).1;
  };
  around = record {
    same_length = b.around.same_length ∙ sym same;
    lows = λ w k. (holds w (omega (arith, k, same))).0;
    highs = λ w k. (holds w (omega (arith, k, same))).1;
  };
}
  where
    at_v : (w : ℕ) → w ≡ v → SameAt c inner w
    at_v w e =
        let p = put_here a v (low_of inner v) (high_of inner v) h in
        let q : SameAt c inner v = subst (λ (x : Bounds). SameAt x inner v) (sym is) (record { low = p.0; high = p.1 }) in
        subst (λ (x : ℕ). SameAt c inner x) (sym e) q

    off_v : (w : ℕ) → w ≢ v → SameAt c a w
    off_v w ne = subst (λ (x : Bounds). SameAt x a w) (sym is) (put_elsewhere a v w (low_of inner v) (high_of inner v) ne)

    within : (w : ℕ) → w < length start → (low_of start w ≤ℤ low_of c w) × (high_of c w ≤ℤ high_of start w)
    within w k = elim (cases_eq w v) [
      | inl e ↦
          let s = at_v w e in
          (omega (arith, ints, s.low, known.lows w k), omega (arith, ints, s.high, known.highs w k))
      | inr ne ↦
          let s = off_v w ne in
          (omega (arith, ints, s.low, b.inside.lows w k), omega (arith, ints, s.high, b.inside.highs w k))
    ]

    holds : (w : ℕ) → w < length a → (low_of c w ≤ℤ low_of inner w) × (high_of inner w ≤ℤ high_of c w)
    holds w k = elim (cases_eq w v) [
      | inl e ↦
          let s = at_v w e in
          (omega (arith, ints, s.low), omega (arith, ints, s.high))
      | inr ne ↦
          let s = off_v w ne in
          (omega (arith, ints, s.low, b.around.lows w k), omega (arith, ints, s.high, b.around.highs w k))
    ]

-- the start is inside itself, and around the inner box
pub between_start : InsideOrder → (inner start : Bounds) → IsInside inner start → IsBetween inner start start
between_start order inner start h = record { inside = order.itself start; around = h }

-- a box between the start and its greatest closed box holds every closed box in the start
pub between_runs : InsideOrder → (kernels : List Kernel) (g b start : Bounds) → IsGreatest g start kernels → IsInside b start → IsInside g b → HaveRun kernels start b
between_runs order kernels g b start greatest inside around = record {
  inside = inside;
  keeps_closed = λ c closed h. order.through c g b (greatest.greatest c closed h) around;
}

-- a box that stays as it is
pub runs_nothing : InsideOrder → (kernels : List Kernel) (start : Bounds) → HaveRun kernels start start
runs_nothing order kernels start = record { inside = order.itself start; keeps_closed = λ c closed h. h }

-- what holds at any rate holds where a call is refused
pub on_any_err : {T E P : Type 0} (r : Result T E) → P → OnErr r P
on_any_err (Ok x) p = tt
on_any_err (Err e) p = p

-- one more variable has the other box's bounds
pub more_same : (a c b : Bounds) (v : ℕ) → v < length a → c ≡ put_of a v (low_of b v) (high_of b v) → AreSame a b v → AreSame c b (v + 1)
more_same a c b v h is same = subst (λ (x : Bounds). AreSame x b (v + 1)) (sym is) more
  where
    p : ℤ × ℤ
    p = (low_of b v, high_of b v)

    here : SameAt (put_of a v (low_of b v) (high_of b v)) b v
    here =
        let at = get_or-set_same a v p (pos 0, pos 0) h in
        record { low = ap (λ (q : ℤ × ℤ). q.0) at; high = ap (λ (q : ℤ × ℤ). q.1) at }

    before : (w : ℕ) → w ≢ v → SameAt a b w → SameAt (put_of a v (low_of b v) (high_of b v)) b w
    before w ne known =
        let other = get_or-set_other a v w p (pos 0, pos 0) ne in
        record { low = ap (λ (q : ℤ × ℤ). q.0) other ∙ known.low; high = ap (λ (q : ℤ × ℤ). q.1) other ∙ known.high }

    more : AreSame (put_of a v (low_of b v) (high_of b v)) b (v + 1)
    more w k = elim (cases_eq w v) [
      | inl e ↦ subst (λ (x : ℕ). SameAt (put_of a v (low_of b v) (high_of b v)) b x) (sym e) here
      | inr ne ↦ before w ne (same w (omega arith))
    ]

-- a variable that is given its own bounds
pub put_same : (b : Bounds) (v : ℕ) (low high : ℤ) → low ≡ low_of b v → high ≡ high_of b v → b ≡ put_of b v low high
put_same b v low high l h = sym (ap (λ z. put_of b v z high) l ∙ ap (λ z. put_of b v (low_of b v) z) h ∙ set-get_or b v (pos 0, pos 0))

-- boxes whose bounds are all the same are one
pub all_same : InsideOrder → (a b : Bounds) → length a ≡ length b → AreSame a b (length b) → a ≡ b
all_same order a b e same = order.equal a b
    (record { same_length = e; lows = λ v h. omega (arith, ints, (same v h).low); highs = λ v h. omega (arith, ints, (same v h).high) })
    (record {
      same_length = sym e;
      lows = λ v h. let k : v < length b = omega arith in omega (arith, ints, (same v k).low);
      highs = λ v h. let k : v < length b = omega arith in omega (arith, ints, (same v k).high);
    })

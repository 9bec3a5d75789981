-- Every start has a greatest closed box, or no closed box is inside it: narrow by one tell after another, until
-- none narrows or the box is crossed. The sum of widths falls each time.
use Rattle.std.proofs.Common.{ℕ, ℤ, zero, suc, ◌≡◌, ◌+◌, ◌<◌, ◌≤ℤ◌, Bool, true, false, List, [], ◌∷◌, length, arith, ◌⊎◌, inl, inr, sym, refl, subst}
use Rattle.std.specs.Prelude.{cond, ◌||◌, int_lt, Option, None, Some, MatchOption}
use Rattle.std.specs.List.{All, Contains}
use Rattle.std.proofs.lemmas.Int.{ints}
use Rattle.std.proofs.lemmas.List.Elements.{All-nil, All-cons, All-head, All-tail, All-contains}
use Rattle.interval.specs.Limits.{IsBound}
use Rattle.interval.specs.Boxes.{Bounds, IsInRange, IsInside, IsProper, IsCrossed, InsideOrder, width_sum_of}
use Rattle.guarded_tell.specs.declared.kernel.Kernel.{Kernel}
use Rattle.guarded_tell.specs.Words.{Tell}
use Rattle.guarded_tell.specs.Words.{Side}
use Rattle.guarded_tell.specs.Words.{Low, High}
use Rattle.guarded_tell.specs.Words.{Keeps, KeepsSide, IsProperIn}
use Rattle.guarded_tell.specs.Kernels.{vars_of, tells, IsClosedUnder, IsKernel}
use Rattle.fixpoint_laws.specs.Fixpoints.{IsClosed, IsGreatest, Fails, OneFixpoint}
use Rattle.fixpoint_laws.specs.Greatest.{is_crossed_box, is_narrowed, first_narrower, or_else, first_step, after_step, narrowed_in, greatest_of, GreatestIsComputed}
use Rattle.fixpoint_laws.specs.Rounds.{Narrows, NarrowsSide, told}
use Rattle.fixpoint_laws.proofs.Places.{proper_in, inside_in, Monotone, TellPlace}
use Rattle.fixpoint_laws.proofs.Telling.{told_inside, told_holds, told_moves, told_in_range}

pub contains_first : {X : Type 0} (x : X) (xs : List X) → Contains (x ∷ xs) x
contains_first x xs = (0, omega arith, refl)

pub contains_later : {X : Type 0} (y : X) (xs : List X) (x : X) → Contains xs x → Contains (y ∷ xs) x
contains_later y xs x (k, h, e) = (suc k, omega arith, e)

-- the first narrowing tell of a list, or that none narrows
narrow_true : (s : Side) (b : Bounds) (v : ℕ) (x : ℤ) → is_narrowed b s v x ≡ true → NarrowsSide b s v x
narrow_true Low b v x e = omega (arith, ints)
narrow_true High b v x e = omega (arith, ints)

narrow_false : (s : Side) (b : Bounds) (v : ℕ) (x : ℤ) → is_narrowed b s v x ≡ false → KeepsSide b s v x
narrow_false Low b v x e = omega (arith, ints)
narrow_false High b v x e = omega (arith, ints)

-- what the first narrowing tell of a list says
abbrev FirstIs : Bounds → List Tell → Option Tell → Type 0
FirstIs b ts o = MatchOption o (All (Keeps b) ts) (λ t. Contains ts t × Narrows b t)

first_later : (b : Bounds) (t : Tell) (ts : List Tell) (o : Option Tell) → Keeps b t → FirstIs b ts o → FirstIs b (t ∷ ts) o
first_later b t ts None k a = All-cons (Keeps b) t ts k a
first_later b t ts (Some u) k (c, n) = (contains_later t ts u c, n)

first_here : (b : Bounds) (t : Tell) (ts : List Tell) (m : Bool) → is_narrowed b t.side t.var t.bound ≡ m → FirstIs b ts (first_narrower b ts) →
    FirstIs b (t ∷ ts) (cond m (Some t) (first_narrower b ts))
first_here b t ts true e rest = (contains_first t ts, narrow_true t.side b t.var t.bound e)
first_here b t ts false e rest = first_later b t ts (first_narrower b ts) (narrow_false t.side b t.var t.bound e) rest

first_is : (b : Bounds) (ts : List Tell) → FirstIs b ts (first_narrower b ts)
unfolding first_narrower
first_is b [] = All-nil (Keeps b)
first_is b (t ∷ ts) = first_here b t ts (is_narrowed b t.side t.var t.bound) refl (first_is b ts)

-- a kernel of the list has this tell, and it narrows the box
record Step (b : Bounds) (kernels : List Kernel) (tell : Tell) : Type 0 where
  kernel : Kernel
  listed : Contains kernels kernel
  told_by : Contains (tells kernel b) tell
  narrows : Narrows b tell

-- what the first narrowing tell of the kernels says
abbrev StepIs : Bounds → List Kernel → Option Tell → Type 0
StepIs b kernels o = MatchOption o (All (λ k. IsClosedUnder k b) kernels) (Step b kernels)

step_later : (b : Bounds) (k : Kernel) (ks : List Kernel) (o : Option Tell) → IsClosedUnder k b → StepIs b ks o → StepIs b (k ∷ ks) o
step_later b k ks None c a = All-cons (λ (j : Kernel). IsClosedUnder j b) k ks c a
step_later b k ks (Some t) c f = record { kernel = f.kernel; listed = contains_later k ks f.kernel f.listed; told_by = f.told_by; narrows = f.narrows }

step_here : (b : Bounds) (k : Kernel) (ks : List Kernel) (o p : Option Tell) → IsProperIn (vars_of k) b → FirstIs b (tells k b) o → StepIs b ks p →
    StepIs b (k ∷ ks) (or_else o p)
step_here b k ks None p proper a rest = step_later b k ks p (record { proper = proper; kept = a }) rest
step_here b k ks (Some t) p proper (c, n) rest = record { kernel = k; listed = contains_first k ks; told_by = c; narrows = n }

step_is : (b : Bounds) (kernels : List Kernel) → IsProper b → All (IsKernel (length b)) kernels → StepIs b kernels (first_step b kernels)
unfolding first_step
step_is b [] p all = All-nil (λ (k : Kernel). IsClosedUnder k b)
step_is b (k ∷ ks) p all =
    step_here b k ks (first_narrower b (tells k b)) (first_step b ks) (proper_in k b (All-head (IsKernel (length b)) k ks all) p) (first_is b (tells k b))
    (step_is b ks p (All-tail (IsKernel (length b)) k ks all))

proper_cons : (p : ℤ × ℤ) (b : Bounds) → p.0 ≤ℤ p.1 → IsProper b → IsProper (p ∷ b)
proper_cons p b c f zero h = c
proper_cons p b c f (suc v) h = f v (omega arith)

-- the test of a box tells which of the two it is
abbrev CrossedIs : Bounds → Bool → Type 0
CrossedIs b true = IsCrossed b
CrossedIs b false = IsProper b

crossed_later : (p : ℤ × ℤ) (b : Bounds) (m n : Bool) → int_lt p.1 p.0 ≡ m → CrossedIs b n → CrossedIs (p ∷ b) (m || n)
crossed_later p b true n e c = (0, omega arith, omega (arith, ints))
crossed_later p b false true e c = (suc c.0, omega (arith, c.1), c.2)
crossed_later p b false false e c = proper_cons p b (omega (arith, ints)) c

crossed_is : (b : Bounds) → CrossedIs b (is_crossed_box b)
unfolding is_crossed_box
crossed_is [] = λ v h. omega arith
crossed_is (p ∷ b) = crossed_later p b (int_lt p.1 p.0) (is_crossed_box b) refl (crossed_is b)

not_both_ways : (b : Bounds) → IsCrossed b → IsProper b → ⊥
not_both_ways b (v, h, c) p = omega (arith, ints, p v h)

pub crossed_fails : InsideOrder → (b : Bounds) (kernels : List Kernel) → IsCrossed b → Fails b kernels
crossed_fails order b kernels x c closed i = not_both_ways b x (order.outer_is_proper c b closed.proper i)

-- the answer for a start
abbrev Answers : List Kernel → Bounds → Option Bounds → Type 0
Answers kernels start o = MatchOption o (Fails start kernels) (λ g. IsGreatest g start kernels)

-- what holds of a narrower box that keeps each closed box, holds of the start
answers_back : InsideOrder → (start b : Bounds) (kernels : List Kernel) (o : Option Bounds) → IsInside b start →
    ((c : Bounds) → IsClosed c kernels → IsInside c start → IsInside c b) → Answers kernels b o → Answers kernels start o
answers_back order start b kernels (Some g) i keeps r = record {
  closed = r.closed;
  inside = order.through g b start r.inside i;
  greatest = λ c closed j. r.greatest c closed (keeps c closed j);
}
answers_back order start b kernels None i keeps f = λ c closed j. f c closed (keeps c closed j)

-- how an answer for a start is had from answers for narrower ones
abbrev Next : List Kernel → ℕ → Type 0
Next kernels steps = (b : Bounds) → IsInRange b → All (IsKernel (length b)) kernels → (IsProper b → width_sum_of b < steps) →
    Answers kernels b (narrowed_in steps kernels b)

module _ (order : InsideOrder) (monotone : Monotone) (place : TellPlace) (kernels : List Kernel) where
  -- a closed box is left alone by a tell of a kernel on a box around it
  step_keeps : (k : Kernel) (t : Tell) (b c : Bounds) → Contains kernels k → Contains (tells k b) t → IsInRange b →
      IsKernel (length b) k → IsProper b → IsClosed c kernels → IsInside c b → Keeps c t
  step_keeps k t b c kh th r ik p closed i =
      All-contains (Keeps c) (tells k b) t
      (monotone k b c ik r i.same_length (proper_in k b ik p)
      (All-contains (λ (j : Kernel). IsClosedUnder j c) kernels k closed.quiet kh) (inside_in k c b ik i))
      th

  by_step : (steps : ℕ) (b : Bounds) (o : Option Tell) → IsInRange b → All (IsKernel (length b)) kernels → IsProper b →
      width_sum_of b < suc steps → Next kernels steps → StepIs b kernels o → Answers kernels b (after_step o b (λ t. narrowed_in steps kernels (told b t)))
  by_step steps b None r all p w next quiet = record { closed = record { proper = p; quiet = quiet }; inside = order.itself b; greatest = λ c closed i. i }
  by_step steps b (Some t) r all p w next step =
      let k = step.kernel in
      let ik : IsKernel (length b) k = All-contains (IsKernel (length b)) kernels k all step.listed in
      let placed : (t.var < length b) × IsBound t.bound = All-contains (λ (u : Tell). (u.var < length b) × IsBound u.bound) (tells k b) t (λ i d h. let q = place k b ik i d h in (q.1, q.2)) step.told_by in
      let inside : IsInside (told b t) b = told_inside b t placed.0 step.narrows in
      answers_back order b (told b t) kernels (narrowed_in steps kernels (told b t)) inside
      (λ c closed i. told_holds b c t placed.0 i (step_keeps k t b c step.listed step.told_by r ik p closed i))
      (next (told b t) (told_in_range b t placed.0 r placed.1)
      (subst (λ (n : ℕ). All (IsKernel n) kernels) (sym inside.same_length) all)
      (λ q. let less : width_sum_of (told b t) < width_sum_of b = order.narrower (told b t) b q inside (told_moves b t placed.0 step.narrows) in omega arith))

  by_test : (steps : ℕ) (b : Bounds) (m : Bool) → CrossedIs b m → IsInRange b → All (IsKernel (length b)) kernels →
      (IsProper b → width_sum_of b < suc steps) → Next kernels steps →
      Answers kernels b (cond m None (after_step (first_step b kernels) b (λ t. narrowed_in steps kernels (told b t))))
  by_test steps b true x r all w next = crossed_fails order b kernels x
  by_test steps b false p r all w next = by_step steps b (first_step b kernels) r all p (w p) next (step_is b kernels p all)

  at_end : (b : Bounds) (m : Bool) → CrossedIs b m → (IsProper b → width_sum_of b < 0) → Answers kernels b (cond m None (Some b))
  at_end b true x w = crossed_fails order b kernels x
  at_end b false p w = absurd (omega (arith, w p))

  by_widths : (steps : ℕ) → Next kernels steps
  unfolding narrowed_in
  by_widths zero b r all w = at_end b (is_crossed_box b) (crossed_is b) w
  by_widths (suc steps) b r all w = by_test steps b (is_crossed_box b) (crossed_is b) r all w (by_widths steps)

pub greatest_is_computed : InsideOrder → Monotone → TellPlace → GreatestIsComputed
greatest_is_computed order monotone place start kernels r all = by_widths order monotone place kernels (width_sum_of start + 1) start r all (λ p. omega arith)

either_of : (kernels : List Kernel) (start : Bounds) (o : Option Bounds) → Answers kernels start o →
    ((g : Bounds) × IsGreatest g start kernels) ⊎ Fails start kernels
either_of kernels start (Some g) r = inl (g, r)
either_of kernels start None f = inr f

pub one_fixpoint : InsideOrder → GreatestIsComputed → OneFixpoint
one_fixpoint order computed = record {
  exists = λ start kernels r all. either_of kernels start (greatest_of start kernels) (computed start kernels r all);
  not_both = λ start kernels g r f. f g r.closed r.inside;
  unique = λ start kernels g h r s. order.equal g h (s.greatest g r.closed r.inside) (r.greatest h s.closed s.inside);
}

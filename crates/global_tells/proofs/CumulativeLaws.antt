-- A closed box of a cumulative resource has no overload at any time, and a tighter box gets no weaker tells.
use Rattle.std.proofs.Common.{◌≡◌, ◌⊎◌, ℕ, zero, suc, ◌<◌, List, [], ◌∷◌, length, map, get_or, Bool, true, false, cond, not, ℤ, pos, neg_ℤ, ◌+ℤ◌, ◌-ℤ◌, ◌≤ℤ◌, ◌<ℤ◌, refl, sym, ap, subst, ⊎_elim, inl, inr, arith}
use Rattle.std.proofs.lemmas.Int.{ints}
use Rattle.std.proofs.lemmas.List.Elements.{All-append, All-cons}
use Rattle.std.proofs.lemmas.Bool.{and_from, and_parts, false_from_ne_true, not_from_false, not-true, both_ways, cases_Bool}
use Rattle.std.specs.Int.RustNames.{int_lt, int_le}
use Rattle.std.specs.Prelude.{◌&&◌}
use Rattle.std.specs.List.{All, flat_map}
use Rattle.tells.specs.declared.tell.Tell.{Tell}
use Rattle.interval.specs.Limits.{IsBound, bound_limit, largest_number, clamp_of, ClampOrder}
use Rattle.interval.specs.Boxes.{Bounds, low_of, high_of}
use Rattle.tells.specs.Words.{low_tell, high_tell, when, Keeps}
use Rattle.global_tells.specs.Ranges.{is_from_to, none_tells}
use Rattle.global_tells.specs.declared.tasks.Task.{Task}
use Rattle.global_tells.specs.Cumulative.{no_task, is_sure_at, sure_usage, sum_of, usage_at, overload_tells, room_tells, task_tells, cumulative_tells}
use Rattle.global_tells.proofs.Lists.{All-left, All-right, All-one, one-All, All-flat_map, flat_map-All, All-when, when-All}
use Rattle.global_tells.proofs.PlaceLaws.{bound_between}
use Rattle.global_tells.proofs.AllDifferentLaws.{int_cases, from_to_then, then_from_to}

-- a box and a tighter one, by the tasks
pub record IsTighterFor (tasks : List Task) (inner outer : Bounds) : Type 0 where
  pub proper : All (λ k. low_of inner k.start ≤ℤ high_of inner k.start) tasks
  pub lows : All (λ k. low_of outer k.start ≤ℤ low_of inner k.start) tasks
  pub highs : All (λ k. high_of inner k.start ≤ℤ high_of outer k.start) tasks
  pub outer_lows : All (λ k. IsBound (low_of outer k.start)) tasks
  pub outer_highs : All (λ k. IsBound (high_of outer k.start)) tasks

-- ---- sums

sum_more : (f g : Task → ℤ) (ks : List Task) → All (λ k. f k ≤ℤ g k) ks → sum_of f ks ≤ℤ sum_of g ks
unfolding sum_of
sum_more f g [] h = omega (arith, ints)
sum_more f g (k ∷ ks) h = let first = h 0 k (omega arith) in let rest = sum_more f g ks (λ i d l. h (suc i) d (omega arith)) in omega (arith, ints)

sum_more_at : (f g : Task → ℤ) (r : ℤ) (ks : List Task) (i : ℕ) (d : Task) → i < length ks → (f (get_or ks i d) +ℤ r) ≤ℤ g (get_or ks i d) → All (λ k. f k ≤ℤ g k) ks → (sum_of f ks +ℤ r) ≤ℤ sum_of g ks
unfolding sum_of
sum_more_at f g r [] i d l at h = absurd (omega arith)
sum_more_at f g r (k ∷ ks) zero d l at h = let rest = sum_more f g ks (λ i d l. h (suc i) d (omega arith)) in omega (arith, ints)
sum_more_at f g r (k ∷ ks) (suc i) d l at h = let first = h 0 k (omega arith) in let rest = sum_more_at f g r ks i d (omega arith) at (λ i d l. h (suc i) d (omega arith)) in omega (arith, ints)

-- ---- the sure part

pub sure_then : (b : Bounds) (t : ℤ) (k : Task) → is_sure_at b t k ≡ true → (high_of b k.start ≤ℤ t) × (t <ℤ (low_of b k.start +ℤ k.duration))
unfolding is_sure_at
sure_then b t k e = let p = and_parts (int_le (high_of b k.start) t) (int_lt t (low_of b k.start +ℤ k.duration)) e in let q = p.0 in let r = p.1 in (omega (arith, ints), omega (arith, ints))

then_sure : (b : Bounds) (t : ℤ) (k : Task) → high_of b k.start ≤ℤ t → t <ℤ (low_of b k.start +ℤ k.duration) → is_sure_at b t k ≡ true
unfolding is_sure_at
then_sure b t k p q =
    let f : true ≡ int_le (high_of b k.start) t = omega (arith, ints) in
    let g : true ≡ int_lt t (low_of b k.start +ℤ k.duration) = omega (arith, ints) in
    and_from (int_le (high_of b k.start) t) (int_lt t (low_of b k.start +ℤ k.duration)) (sym f) (sym g)

usage_if : (b : Bounds) (t : ℤ) (k : Task) → is_sure_at b t k ≡ true → sure_usage b t k ≡ k.usage
unfolding sure_usage
usage_if b t k e = ap (λ (s : Bool). cond s k.usage (pos 0)) e

pub usage_else : (b : Bounds) (t : ℤ) (k : Task) → is_sure_at b t k ≡ false → sure_usage b t k ≡ pos 0
unfolding sure_usage
usage_else b t k e = ap (λ (s : Bool). cond s k.usage (pos 0)) e

-- what is used rises where what is sure stays sure
usage_rises : (b c : Bounds) (t u : ℤ) (k : Task) → pos 0 ≤ℤ k.usage → (is_sure_at b t k ≡ true → is_sure_at c u k ≡ true) → sure_usage b t k ≤ℤ sure_usage c u k
usage_rises b c t u k positive h = ⊎_elim
    (λ (yes : is_sure_at b t k ≡ true). (let p = usage_if b t k yes in let q = usage_if c u k (h yes) in omega (arith, ints)))
    (λ (out : is_sure_at b t k ≡ false). ⊎_elim
    (λ (now : is_sure_at c u k ≡ true). (let p = usage_else b t k out in let q = usage_if c u k now in omega (arith, ints)))
    (λ (still : is_sure_at c u k ≡ false). (let p = usage_else b t k out in let q = usage_else c u k still in omega (arith, ints)))
    (cases_Bool (is_sure_at c u k)))
    (cases_Bool (is_sure_at b t k))

usage_joins : (b c : Bounds) (t u : ℤ) (k : Task) → is_sure_at b t k ≡ false → is_sure_at c u k ≡ true → (sure_usage b t k +ℤ k.usage) ≤ℤ sure_usage c u k
usage_joins b c t u k out now = let p = usage_else b t k out in let q = usage_if c u k now in omega (arith, ints)

-- a time from z up to t at which each task is sure that is so at t: z itself, or the latest start of a task
pub record Meets (b : Bounds) (t z : ℤ) (ks : List Task) : Type 0 where
  pub time : ℤ
  pub from : z ≤ℤ time
  pub upto : time ≤ℤ t
  pub each : All (λ k. is_sure_at b t k ≡ true → high_of b k.start ≤ℤ time) ks
  pub is : (time ≡ z) ⊎ ((j : ℕ) × (j < length ks) × (high_of b (get_or ks j no_task).start ≡ time))

meets_later : (b : Bounds) (t z : ℤ) (k : Task) (ks : List Task) → is_sure_at b t k ≡ true → (m : Meets b t z ks) → m.time <ℤ high_of b k.start → Meets b t z (k ∷ ks)
meets_later b t z k ks sure m later = record {
  time = high_of b k.start;
  from = let f = m.from in omega (arith, ints);
  upto = (sure_then b t k sure).0;
  each = All-cons (λ k'. is_sure_at b t k' ≡ true → high_of b k'.start ≤ℤ high_of b k.start) k ks (λ _. omega (arith, ints)) (λ i d l e. (let f = m.each i d l e in omega (arith, ints)));
  is = inr (0, omega arith, refl);
}

meets_same : (b : Bounds) (t z : ℤ) (k : Task) (ks : List Task) → (m : Meets b t z ks) → (is_sure_at b t k ≡ true → high_of b k.start ≤ℤ m.time) → Meets b t z (k ∷ ks)
meets_same b t z k ks m within = record {
  time = m.time;
  from = m.from;
  upto = m.upto;
  each = All-cons (λ k'. is_sure_at b t k' ≡ true → high_of b k'.start ≤ℤ m.time) k ks within m.each;
  is = ⊎_elim (λ e. inl e) (λ (x : (j : ℕ) × (j < length ks) × (high_of b (get_or ks j no_task).start ≡ m.time)). inr (suc x.0, (let l = x.1 in omega arith), x.2)) m.is;
}

pub meets : (b : Bounds) (t z : ℤ) (ks : List Task) → z ≤ℤ t → Meets b t z ks
meets b t z [] le = record { time = z; from = omega (arith, ints); upto = le; each = λ i d l. absurd (omega arith); is = inl refl }
meets b t z (k ∷ ks) le = with_first (meets b t z ks le) (cases_Bool (is_sure_at b t k))
  where
    with_first : Meets b t z ks → ((is_sure_at b t k ≡ true) ⊎ (is_sure_at b t k ≡ false)) → Meets b t z (k ∷ ks)
    with_first m f = ⊎_elim
        (λ (sure : is_sure_at b t k ≡ true). ⊎_elim
        (λ (later : m.time <ℤ high_of b k.start). meets_later b t z k ks sure m later)
        (λ (within : high_of b k.start ≤ℤ m.time). meets_same b t z k ks m (λ _. within))
        (int_cases m.time (high_of b k.start)))
        (λ (out : is_sure_at b t k ≡ false). meets_same b t z k ks m (λ yes. absurd (both_ways _ out yes)))
        f

-- some task passes the test, or none does
sure_or_none : (b : Bounds) (t : ℤ) (ks : List Task) → ((i : ℕ) × (i < length ks) × (is_sure_at b t (get_or ks i no_task) ≡ true)) ⊎ All (λ k. is_sure_at b t k ≡ false) ks
sure_or_none b t [] = inr (λ i d l. absurd (omega arith))
sure_or_none b t (k ∷ ks) = with_first (sure_or_none b t ks) (cases_Bool (is_sure_at b t k))
  where
    with_first : (((i : ℕ) × (i < length ks) × (is_sure_at b t (get_or ks i no_task) ≡ true)) ⊎ All (λ k. is_sure_at b t k ≡ false) ks) → ((is_sure_at b t k ≡ true) ⊎ (is_sure_at b t k ≡ false)) → ((i : ℕ) × (i < length (k ∷ ks)) × (is_sure_at b t (get_or (k ∷ ks) i no_task) ≡ true)) ⊎ All (λ k. is_sure_at b t k ≡ false) (k ∷ ks)
    with_first rest f = ⊎_elim
        (λ (sure : is_sure_at b t k ≡ true). inl (0, omega arith, sure))
        (λ (out : is_sure_at b t k ≡ false). ⊎_elim
        (λ (x : (i : ℕ) × (i < length ks) × (is_sure_at b t (get_or ks i no_task) ≡ true)). inl (suc x.0, (let l = x.1 in omega arith), x.2))
        (λ none. inr (All-cons (λ k. is_sure_at b t k ≡ false) k ks out none))
        rest)
        f

none_used : (b : Bounds) (t : ℤ) (ks : List Task) → All (λ k. is_sure_at b t k ≡ false) ks → usage_at ks b t ≡ pos 0
unfolding sum_of
none_used b t [] h = refl
none_used b t (k ∷ ks) h =
    let first = usage_else b t k (h 0 k (omega arith)) in
    let rest = none_used b t ks (λ i d l. h (suc i) d (omega arith)) in
    omega (arith, ints)

-- ---- what is used at every time, by what is used at the latest starts

module _ (tasks : List Task) (limit : ℤ) (g : Bounds) (positive : All (λ k. pos 0 ≤ℤ k.usage) tasks) (room : pos 0 ≤ℤ limit) where
  -- what is used at a time is used at an earlier one at which the same tasks are sure
  pub used_at_meeting : (t z : ℤ) → (m : Meets g t z tasks) → usage_at tasks g t ≤ℤ usage_at tasks g m.time
  used_at_meeting t z m = sum_more (sure_usage g t) (sure_usage g m.time) tasks (λ i d l.
      let k = get_or tasks i d in
      usage_rises g g t m.time k (positive i d l) (λ sure.
      let s = sure_then g t k sure in
      let p = m.each i d l sure in
      let q = s.1 in
      let u = m.upto in
      then_sure g m.time k p (omega (arith, ints))))

  pub no_overload_from : ((j : ℕ) → j < length tasks → usage_at tasks g (high_of g (get_or tasks j no_task).start) ≤ℤ limit) → (t : ℤ) → usage_at tasks g t ≤ℤ limit
  no_overload_from starts t = ⊎_elim
      (λ (x : (i : ℕ) × (i < length tasks) × (is_sure_at g t (get_or tasks i no_task) ≡ true)).
      let m = meets g t (high_of g (get_or tasks x.0 no_task).start) tasks (sure_then g t (get_or tasks x.0 no_task) x.2).0 in
      let more = used_at_meeting t (high_of g (get_or tasks x.0 no_task).start) m in
      let there = at_meeting x.0 x.1 m in
      omega (arith, ints))
      (λ none. let e = none_used g t tasks none in omega (arith, ints))
      (sure_or_none g t tasks)
    where
      at_meeting : {t : ℤ} (i : ℕ) → i < length tasks → (m : Meets g t (high_of g (get_or tasks i no_task).start) tasks) → usage_at tasks g m.time ≤ℤ limit
      at_meeting i l m = ⊎_elim
          (λ (e : m.time ≡ high_of g (get_or tasks i no_task).start). subst (λ (u : ℤ). usage_at tasks g u ≤ℤ limit) (sym e) (starts i l))
          (λ (x : (j : ℕ) × (j < length tasks) × (high_of g (get_or tasks j no_task).start ≡ m.time)). subst (λ (u : ℤ). usage_at tasks g u ≤ℤ limit) x.2 (starts x.0 x.1))
          m.is

-- ---- a closed box

module _ (clamped : ClampOrder) (tasks : List Task) (limit : ℤ) (g : Bounds) (positive : All (λ k. pos 0 ≤ℤ k.usage) tasks) (room : pos 0 ≤ℤ limit) (proper : All (λ k. low_of g k.start ≤ℤ high_of g k.start) tasks) (closed : All (Keeps g) (cumulative_tells tasks limit g)) where
  none_kept : (ks : List Task) → All (λ k. low_of g k.start ≤ℤ high_of g k.start) ks → 0 < length ks → All (Keeps g) (none_tells (map (λ k. k.start) ks)) → ⊥
  unfolding none_tells bound_limit largest_number
  none_kept [] p h all = absurd (omega arith)
  none_kept (k ∷ ks) p h all =
      let own = p 0 k (omega arith) in
      let low = all 0 (low_tell k.start (pos bound_limit)) (omega arith) in
      let high = all 1 (high_tell k.start (neg_ℤ (pos bound_limit))) (omega arith) in
      let a : clamp_of (pos bound_limit) ≡ pos bound_limit = clamped.same (pos bound_limit) (omega arith) in
      let b : clamp_of (neg_ℤ (pos bound_limit)) ≡ neg_ℤ (pos bound_limit) = clamped.same (neg_ℤ (pos bound_limit)) (omega arith) in
      omega (arith, ints)

  no_overload_at_start : (j : ℕ) → j < length tasks → usage_at tasks g (high_of g (get_or tasks j no_task).start) ≤ℤ limit
  no_overload_at_start j l =
      let t = high_of g (get_or tasks j no_task).start in
      ⊎_elim
      (λ (over : limit <ℤ usage_at tasks g t).
      let first = All-left (Keeps g) (flat_map (λ j. overload_tells tasks limit g (high_of g j.start)) tasks) (flat_map (task_tells tasks limit g) tasks) closed in
      let own = flat_map-All (Keeps g) (λ j. overload_tells tasks limit g (high_of g j.start)) tasks no_task first j l in
      absurd (none_kept tasks proper (omega arith) (when-All (Keeps g) (int_lt limit (usage_at tasks g t)) (none_tells (map (λ k. k.start) tasks)) (sym (over_test (usage_at tasks g t) over)) own)))
      (λ (within : usage_at tasks g t ≤ℤ limit). within)
      (int_cases limit (usage_at tasks g t))
    where
      over_test : (y : ℤ) → limit <ℤ y → true ≡ int_lt limit y
      over_test y h = omega (arith, ints)

  pub no_overload : (t : ℤ) → usage_at tasks g t ≤ℤ limit
  no_overload t = no_overload_from tasks limit g positive room no_overload_at_start t

-- ---- monotone

module _ (clamped : ClampOrder) (tasks : List Task) (limit : ℤ) (outer inner : Bounds) (positive : All (λ k. pos 0 ≤ℤ k.usage) tasks) (room : pos 0 ≤ℤ limit) (tighter : IsTighterFor tasks inner outer) (closed : All (Keeps inner) (cumulative_tells tasks limit inner)) where
  abbrev pub K : Tell → Type 0
  K = Keeps inner

  quiet : (t : ℤ) → usage_at tasks inner t ≤ℤ limit
  quiet t = no_overload clamped tasks limit inner positive room tighter.proper closed t

  follows : (t : ℤ) → All (λ k. is_sure_at outer t k ≡ true → is_sure_at inner t k ≡ true) tasks
  follows t i d l sure =
      let k = get_or tasks i d in
      let s = sure_then outer t k sure in
      let a = s.0 in
      let b = s.1 in
      let c = tighter.lows i d l in
      let h = tighter.highs i d l in
      then_sure inner t k (omega (arith, ints)) (omega (arith, ints))

  used_more : (t : ℤ) → usage_at tasks outer t ≤ℤ usage_at tasks inner t
  used_more t = sum_more (sure_usage outer t) (sure_usage inner t) tasks (λ i d l. usage_rises outer inner t t (get_or tasks i d) (positive i d l) (follows t i d l))

  -- a task that becomes sure has no room
  no_room : (t u : ℤ) (i : ℕ) → i < length tasks → is_sure_at outer t (get_or tasks i no_task) ≡ false → is_sure_at inner u (get_or tasks i no_task) ≡ true
      → All (λ k. is_sure_at outer t k ≡ true → is_sure_at inner u k ≡ true) tasks → (usage_at tasks outer t +ℤ (get_or tasks i no_task).usage) ≤ℤ limit
  no_room t u i l out now goes =
      let more = sum_more_at (sure_usage outer t) (sure_usage inner u) (get_or tasks i no_task).usage tasks i no_task l (usage_joins outer inner t u (get_or tasks i no_task) out now)
      (λ i d l. usage_rises outer inner t u (get_or tasks i d) (positive i d l) (goes i d l)) in
      let q = quiet u in
      omega (arith, ints)

  -- the tells of a task at its low, and at the start of a task
  own_tells : (i : ℕ) → i < length tasks → int_le (pos 1) (get_or tasks i no_task).duration ≡ true → (u : ℤ)
      → ((u ≡ low_of inner (get_or tasks i no_task).start) ⊎ ((j : ℕ) × (j < length tasks) × (high_of inner (get_or tasks j no_task).start ≡ u)))
      → All K (room_tells tasks limit inner (get_or tasks i no_task) u)
  own_tells i l some u is =
      let k = get_or tasks i no_task in
      let rest = All-right K (flat_map (λ j. overload_tells tasks limit inner (high_of inner j.start)) tasks) (flat_map (task_tells tasks limit inner) tasks) closed in
      let own = when-All K (int_le (pos 1) k.duration) _ some (flat_map-All K (task_tells tasks limit inner) tasks no_task rest i l) in
      let starts = flat_map (λ j. room_tells tasks limit inner k (high_of inner j.start)) tasks in
      let last = room_tells tasks limit inner k (low_of inner k.start) in
      ⊎_elim
      (λ (e : u ≡ low_of inner k.start). subst (λ (z : ℤ). All K (room_tells tasks limit inner k z)) (sym e) (All-right K starts last own))
      (λ (x : (j : ℕ) × (j < length tasks) × (high_of inner (get_or tasks j no_task).start ≡ u)).
      subst (λ (z : ℤ). All K (room_tells tasks limit inner k z)) x.2 (flat_map-All K (λ j. room_tells tasks limit inner k (high_of inner j.start)) tasks no_task (All-left K starts last own) x.0 x.1))
      is

  low_bound : (i : ℕ) → i < length tasks → IsBound (low_of inner (get_or tasks i no_task).start)
  low_bound i l =
      let k = get_or tasks i no_task in
      let a = tighter.lows i no_task l in let b = tighter.proper i no_task l in let c = tighter.highs i no_task l in
      bound_between (low_of outer k.start) (low_of inner k.start) (high_of outer k.start) (tighter.outer_lows i no_task l) (tighter.outer_highs i no_task l) a (omega (arith, ints))

  high_bound : (i : ℕ) → i < length tasks → IsBound (high_of inner (get_or tasks i no_task).start)
  high_bound i l =
      let k = get_or tasks i no_task in
      let a = tighter.lows i no_task l in let b = tighter.proper i no_task l in let c = tighter.highs i no_task l in
      bound_between (low_of outer k.start) (high_of inner k.start) (high_of outer k.start) (tighter.outer_lows i no_task l) (tighter.outer_highs i no_task l) (omega (arith, ints)) c

  over_test : (y : ℤ) → limit <ℤ y → int_lt limit y ≡ true
  over_test y h = let e : true ≡ int_lt limit y = omega (arith, ints) in sym e

  low_kept : (i : ℕ) → i < length tasks → int_le (pos 1) (get_or tasks i no_task).duration ≡ true → (t : ℤ) → IsBound t → is_sure_at outer t (get_or tasks i no_task) ≡ false
      → limit <ℤ (usage_at tasks outer t +ℤ (get_or tasks i no_task).usage) → ((t -ℤ (get_or tasks i no_task).duration) +ℤ pos 1) ≤ℤ low_of outer (get_or tasks i no_task).start
      → Keeps inner (low_tell (get_or tasks i no_task).start (t +ℤ pos 1))
  low_kept i l some t bt out over from =
      let k = get_or tasks i no_task in
      let y = low_of inner k.start in
      let c = tighter.lows i no_task l in
      let own_bound = low_bound i l in
      ⊎_elim
      (λ (past : t <ℤ y). (let a = clamped.rises (t +ℤ pos 1) y (omega (arith, ints)) in let b = clamped.same y own_bound in omega (arith, ints)))
      (λ (within : y ≤ℤ t).
      let not_now = false_from_ne_true (is_sure_at inner t k) (λ now. (let n = no_room t t i l out now (follows t) in absurd (omega (arith, ints)))) in
      let m = meets inner t y tasks within in
      let later : t <ℤ high_of inner k.start = after t k not_now (omega (arith, ints)) in
      let up = m.upto in
      let down = m.from in
      let out_there = false_from_ne_true (is_sure_at inner m.time k) (λ now. (let s = (sure_then inner m.time k now).0 in absurd (omega (arith, ints)))) in
      let more = used_more t in
      let meeting = used_at_meeting tasks limit inner positive room t y m in
      let tells = own_tells i l some m.time m.is in
      let lows = when-All K (not (is_sure_at inner m.time k) && int_lt limit (usage_at tasks inner m.time +ℤ k.usage)) _
      (and_from (not (is_sure_at inner m.time k)) (int_lt limit (usage_at tasks inner m.time +ℤ k.usage)) (not_from_false _ out_there) (over_test (usage_at tasks inner m.time +ℤ k.usage) (omega (arith, ints)))) tells in
      let first = All-left K (when (is_from_to ((m.time -ℤ k.duration) +ℤ pos 1) m.time y) (low_tell k.start (m.time +ℤ pos 1) ∷ [])) (when (is_from_to ((m.time -ℤ k.duration) +ℤ pos 1) m.time (high_of inner k.start)) (high_tell k.start (m.time -ℤ k.duration) ∷ [])) lows in
      let kept = one-All K (low_tell k.start (m.time +ℤ pos 1)) (when-All K (is_from_to ((m.time -ℤ k.duration) +ℤ pos 1) m.time y) (low_tell k.start (m.time +ℤ pos 1) ∷ []) (then_from_to ((m.time -ℤ k.duration) +ℤ pos 1) m.time y (omega (arith, ints)) down) first) in
      ⊎_elim
      (λ (less : m.time <ℤ t). absurd (not_both y m.time t own_bound bt down less kept))
      (λ (same : t ≤ℤ m.time). (let a = clamped.rises (t +ℤ pos 1) (m.time +ℤ pos 1) (omega (arith, ints)) in omega (arith, ints)))
      (int_cases m.time t))
      (int_cases t y)
    where
      after : (t : ℤ) (k : Task) → is_sure_at inner t k ≡ false → t <ℤ (low_of inner k.start +ℤ k.duration) → t <ℤ high_of inner k.start
      after t k out less = ⊎_elim (λ (a : t <ℤ high_of inner k.start). a) (λ (b : high_of inner k.start ≤ℤ t). absurd (both_ways _ out (then_sure inner t k b less))) (int_cases t (high_of inner k.start))

      not_both : (y u t : ℤ) → IsBound y → IsBound t → y ≤ℤ u → u <ℤ t → clamp_of (u +ℤ pos 1) ≤ℤ y → ⊥
      not_both y u t by bt le less kept = let e = clamped.same (u +ℤ pos 1) (omega (arith, ints)) in omega (arith, ints)

  high_kept : (i : ℕ) → i < length tasks → int_le (pos 1) (get_or tasks i no_task).duration ≡ true → (t : ℤ) → is_sure_at outer t (get_or tasks i no_task) ≡ false
      → limit <ℤ (usage_at tasks outer t +ℤ (get_or tasks i no_task).usage) → high_of outer (get_or tasks i no_task).start ≤ℤ t
      → Keeps inner (high_tell (get_or tasks i no_task).start (t -ℤ (get_or tasks i no_task).duration))
  high_kept i l some t out over upto =
      let k = get_or tasks i no_task in
      let y = high_of inner k.start in
      let c = tighter.highs i no_task l in
      let own_bound = high_bound i l in
      ⊎_elim
      (λ (past : y <ℤ ((t -ℤ k.duration) +ℤ pos 1)). (let a = clamped.rises y (t -ℤ k.duration) (omega (arith, ints)) in let b = clamped.same y own_bound in omega (arith, ints)))
      (λ (within : ((t -ℤ k.duration) +ℤ pos 1) ≤ℤ y).
      let not_now = false_from_ne_true (is_sure_at inner t k) (λ now. (let n = no_room t t i l out now (follows t) in absurd (omega (arith, ints)))) in
      let m = meets inner t y tasks (omega (arith, ints)) in
      let up = m.upto in
      let down = m.from in
      let goes : All (λ k. is_sure_at outer t k ≡ true → is_sure_at inner m.time k ≡ true) tasks = λ j d h sure.
      (let now = follows t j d h sure in let s = (sure_then inner t (get_or tasks j d) now).1 in then_sure inner m.time (get_or tasks j d) (m.each j d h now) (omega (arith, ints))) in
      let out_there = false_from_ne_true (is_sure_at inner m.time k) (λ now. (let n = no_room t m.time i l out now goes in absurd (omega (arith, ints)))) in
      let more = used_more t in
      let meeting = used_at_meeting tasks limit inner positive room t y m in
      let tells = own_tells i l some m.time (start_of i l m.time m.is) in
      let both = when-All K (not (is_sure_at inner m.time k) && int_lt limit (usage_at tasks inner m.time +ℤ k.usage)) _
      (and_from (not (is_sure_at inner m.time k)) (int_lt limit (usage_at tasks inner m.time +ℤ k.usage)) (not_from_false _ out_there) (over_test (usage_at tasks inner m.time +ℤ k.usage) (omega (arith, ints)))) tells in
      let second = All-right K (when (is_from_to ((m.time -ℤ k.duration) +ℤ pos 1) m.time (low_of inner k.start)) (low_tell k.start (m.time +ℤ pos 1) ∷ [])) (when (is_from_to ((m.time -ℤ k.duration) +ℤ pos 1) m.time y) (high_tell k.start (m.time -ℤ k.duration) ∷ [])) both in
      let kept = one-All K (high_tell k.start (m.time -ℤ k.duration)) (when-All K (is_from_to ((m.time -ℤ k.duration) +ℤ pos 1) m.time y) (high_tell k.start (m.time -ℤ k.duration) ∷ []) (then_from_to ((m.time -ℤ k.duration) +ℤ pos 1) m.time y (omega (arith, ints)) down) second) in
      let rise = clamped.rises (m.time -ℤ k.duration) (t -ℤ k.duration) (omega (arith, ints)) in
      omega (arith, ints))
      (int_cases y ((t -ℤ k.duration) +ℤ pos 1))
    where
      start_of : (i : ℕ) → i < length tasks → (u : ℤ) → ((u ≡ high_of inner (get_or tasks i no_task).start) ⊎ ((j : ℕ) × (j < length tasks) × (high_of inner (get_or tasks j no_task).start ≡ u)))
          → (u ≡ low_of inner (get_or tasks i no_task).start) ⊎ ((j : ℕ) × (j < length tasks) × (high_of inner (get_or tasks j no_task).start ≡ u))
      start_of i l u is = ⊎_elim (λ (e : u ≡ high_of inner (get_or tasks i no_task).start). inr (i, l, sym e)) (λ x. inr x) is

  room_kept : (i : ℕ) → i < length tasks → int_le (pos 1) (get_or tasks i no_task).duration ≡ true → (t : ℤ) → IsBound t → All K (room_tells tasks limit outer (get_or tasks i no_task) t)
  room_kept i l some t bt =
      let k = get_or tasks i no_task in
      All-when K (not (is_sure_at outer t k) && int_lt limit (usage_at tasks outer t +ℤ k.usage)) _ (λ e.
      let p = and_parts (not (is_sure_at outer t k)) (int_lt limit (usage_at tasks outer t +ℤ k.usage)) e in
      let out = not-true _ p.0 in
      let over = less_of (usage_at tasks outer t +ℤ k.usage) p.1 in
      All-append K (when (is_from_to ((t -ℤ k.duration) +ℤ pos 1) t (low_of outer k.start)) (low_tell k.start (t +ℤ pos 1) ∷ [])) (when (is_from_to ((t -ℤ k.duration) +ℤ pos 1) t (high_of outer k.start)) (high_tell k.start (t -ℤ k.duration) ∷ []))
      (All-when K (is_from_to ((t -ℤ k.duration) +ℤ pos 1) t (low_of outer k.start)) _ (λ f. All-one K (low_tell k.start (t +ℤ pos 1)) (low_kept i l some t bt out over (from_to_then _ _ _ f).0)))
      (All-when K (is_from_to ((t -ℤ k.duration) +ℤ pos 1) t (high_of outer k.start)) _ (λ f. All-one K (high_tell k.start (t -ℤ k.duration)) (high_kept i l some t out over (from_to_then _ _ _ f).1))))
    where
      less_of : (y : ℤ) → int_lt limit y ≡ true → limit <ℤ y
      less_of y e = omega (arith, ints)

  pub cumulative_monotone : All K (cumulative_tells tasks limit outer)
  cumulative_monotone = All-append K (flat_map (λ j. overload_tells tasks limit outer (high_of outer j.start)) tasks) (flat_map (task_tells tasks limit outer) tasks)
      (All-flat_map K (λ j. overload_tells tasks limit outer (high_of outer j.start)) tasks no_task (λ j l.
      let t = high_of outer (get_or tasks j no_task).start in
      All-when K (int_lt limit (usage_at tasks outer t)) _ (λ over. (let more = used_more t in let q = quiet t in absurd (not_over (usage_at tasks outer t) over (omega (arith, ints)))))))
      (All-flat_map K (task_tells tasks limit outer) tasks no_task (λ i l.
      let k = get_or tasks i no_task in
      All-when K (int_le (pos 1) k.duration) _ (λ some.
      All-append K (flat_map (λ j. room_tells tasks limit outer k (high_of outer j.start)) tasks) (room_tells tasks limit outer k (low_of outer k.start))
      (All-flat_map K (λ j. room_tells tasks limit outer k (high_of outer j.start)) tasks no_task (λ j h. room_kept i l some (high_of outer (get_or tasks j no_task).start) (tighter.outer_highs j no_task h)))
      (room_kept i l some (low_of outer k.start) (tighter.outer_lows i no_task l)))))
    where
      not_over : (y : ℤ) → int_lt limit y ≡ true → y ≤ℤ limit → ⊥
      not_over y e le = omega (arith, ints)

-- ---- at a point

module _ (clamped : ClampOrder) (tasks : List Task) (limit : ℤ) (b : Bounds) (positive : All (λ k. pos 0 ≤ℤ k.usage) tasks) (room : pos 0 ≤ℤ limit) (point : All (λ k. low_of b k.start ≡ high_of b k.start) tasks) where
  pub closed_holds : All (Keeps b) (cumulative_tells tasks limit b) → (t : ℤ) → usage_at tasks b t ≤ℤ limit
  closed_holds closed t = no_overload clamped tasks limit b positive room (λ i d l. (let e = point i d l in omega (arith, ints))) closed t

  pub holds_closed : ((t : ℤ) → usage_at tasks b t ≤ℤ limit) → All (Keeps b) (cumulative_tells tasks limit b)
  holds_closed holds = All-append (Keeps b) (flat_map (λ j. overload_tells tasks limit b (high_of b j.start)) tasks) (flat_map (task_tells tasks limit b) tasks)
      (All-flat_map (Keeps b) (λ j. overload_tells tasks limit b (high_of b j.start)) tasks no_task (λ j l.
      All-when (Keeps b) (int_lt limit (usage_at tasks b (high_of b (get_or tasks j no_task).start))) _ (λ over. absurd (not_over (usage_at tasks b (high_of b (get_or tasks j no_task).start)) over (holds (high_of b (get_or tasks j no_task).start))))))
      (All-flat_map (Keeps b) (task_tells tasks limit b) tasks no_task (λ i l.
      let k = get_or tasks i no_task in
      All-when (Keeps b) (int_le (pos 1) k.duration) _ (λ some.
      All-append (Keeps b) (flat_map (λ j. room_tells tasks limit b k (high_of b j.start)) tasks) (room_tells tasks limit b k (low_of b k.start))
      (All-flat_map (Keeps b) (λ j. room_tells tasks limit b k (high_of b j.start)) tasks no_task (λ j h. room_quiet k (high_of b (get_or tasks j no_task).start) (point i no_task l)))
      (room_quiet k (low_of b k.start) (point i no_task l)))))
    where
      not_over : (y : ℤ) → int_lt limit y ≡ true → y ≤ℤ limit → ⊥
      not_over y e le = omega (arith, ints)

      under_way : (k : Task) (t : ℤ) → low_of b k.start ≡ high_of b k.start → is_sure_at b t k ≡ false → is_from_to ((t -ℤ k.duration) +ℤ pos 1) t (low_of b k.start) ≡ true → ⊥
      under_way k t fixed out f = let p = from_to_then ((t -ℤ k.duration) +ℤ pos 1) t (low_of b k.start) f in let q = p.0 in let r = p.1 in
          both_ways _ out (then_sure b t k (omega (arith, ints)) (omega (arith, ints)))

      room_quiet : (k : Task) (t : ℤ) → low_of b k.start ≡ high_of b k.start → All (Keeps b) (room_tells tasks limit b k t)
      room_quiet k t fixed = All-when (Keeps b) (not (is_sure_at b t k) && int_lt limit (usage_at tasks b t +ℤ k.usage)) _ (λ e.
          let p = and_parts (not (is_sure_at b t k)) (int_lt limit (usage_at tasks b t +ℤ k.usage)) e in
          let out = not-true _ p.0 in
          All-append (Keeps b) (when (is_from_to ((t -ℤ k.duration) +ℤ pos 1) t (low_of b k.start)) (low_tell k.start (t +ℤ pos 1) ∷ [])) (when (is_from_to ((t -ℤ k.duration) +ℤ pos 1) t (high_of b k.start)) (high_tell k.start (t -ℤ k.duration) ∷ []))
          (All-when (Keeps b) (is_from_to ((t -ℤ k.duration) +ℤ pos 1) t (low_of b k.start)) _ (λ f. absurd (under_way k t fixed out f)))
          (All-when (Keeps b) (is_from_to ((t -ℤ k.duration) +ℤ pos 1) t (high_of b k.start)) _ (λ f. absurd (under_way k t fixed out (subst (λ (z : ℤ). is_from_to ((t -ℤ k.duration) +ℤ pos 1) t z ≡ true) (sym fixed) f)))))

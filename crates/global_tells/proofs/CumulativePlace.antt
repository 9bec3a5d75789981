-- The tells of a cumulative resource are on the starts of its tasks, and depend on the bounds of these alone.
use Rattle.std.proofs.Common.{◌≡◌, ℕ, zero, suc, List, [], ◌∷◌, ◌++◌, map, get_or, not, cond, ℤ, pos, ◌+ℤ◌, ◌-ℤ◌, ◌≤ℤ◌, refl, subst, ◌∙◌, arith}
use Rattle.std.proofs.lemmas.List.Elements.{All-append}
use Rattle.std.specs.Int.RustNames.{int_lt, int_le}
use Rattle.std.specs.Prelude.{◌&&◌}
use Rattle.std.specs.List.{All, flat_map}
use Rattle.tells.specs.declared.tell.Tell.{Tell}
use Rattle.interval.specs.Boxes.{Bounds, low_of, high_of}
use Rattle.tells.specs.Words.{low_tell, high_tell, when, value_of}
use Rattle.global_tells.specs.declared.tasks.Task.{Task}
use Rattle.global_tells.specs.Ranges.{is_from_to, none_tells}
use Rattle.global_tells.specs.Cumulative.{no_task, is_sure_at, sure_usage, sum_of, usage_at, overload_tells, crowded_tells, room_tells, task_tells, cumulative_tells, is_under_way, used_at, IsCumulative}
use Rattle.global_tells.proofs.Lists.{All-one, All-flat_map, All-when, flat_map_same}
use Rattle.global_tells.proofs.PlaceLaws.{IsPlaced}

-- a tell on the start of each task
abbrev pub StartPlaced : ℕ → List ℕ → Task → Type 0
StartPlaced count vars k = (z : ℤ) → IsPlaced count vars (low_tell k.start z) × IsPlaced count vars (high_tell k.start z)

module _ (count : ℕ) (vars : List ℕ) (tasks : List Task) (limit : ℤ) (b : Bounds) (none : All (IsPlaced count vars) (none_tells (map (λ k. k.start) tasks))) (placed : All (StartPlaced count vars) tasks) where
  abbrev P : Tell → Type 0
  P = IsPlaced count vars

  crowded_placed : (used t : ℤ) (k : Task) → StartPlaced count vars k → All P (crowded_tells used limit b k t)
  crowded_placed used t k at =
      All-when P (not (is_sure_at b t k) && int_lt limit (used +ℤ k.usage)) _ (λ _.
      All-append P (when (is_from_to ((t -ℤ k.duration) +ℤ pos 1) t (low_of b k.start)) (low_tell k.start (t +ℤ pos 1) ∷ [])) (when (is_from_to ((t -ℤ k.duration) +ℤ pos 1) t (high_of b k.start)) (high_tell k.start (t -ℤ k.duration) ∷ []))
      (All-when P (is_from_to ((t -ℤ k.duration) +ℤ pos 1) t (low_of b k.start)) _ (λ _. All-one P (low_tell k.start (t +ℤ pos 1)) (at (t +ℤ pos 1)).0))
      (All-when P (is_from_to ((t -ℤ k.duration) +ℤ pos 1) t (high_of b k.start)) _ (λ _. All-one P (high_tell k.start (t -ℤ k.duration)) (at (t -ℤ k.duration)).1)))

  pub cumulative_placed : All P (cumulative_tells tasks limit b)
  cumulative_placed = All-append P (flat_map (λ j. overload_tells tasks limit b (high_of b j.start)) tasks) (flat_map (task_tells tasks limit b) tasks)
      (All-flat_map P (λ j. overload_tells tasks limit b (high_of b j.start)) tasks no_task (λ j l.
      All-when P (int_lt limit (usage_at tasks b (high_of b (get_or tasks j no_task).start))) _ (λ _. none)))
      (All-flat_map P (task_tells tasks limit b) tasks no_task (λ i l.
      let k = get_or tasks i no_task in
      All-when P (int_le (pos 1) k.duration) _ (λ _.
      All-append P (flat_map (λ j. room_tells tasks limit b k (high_of b j.start)) tasks) (room_tells tasks limit b k (low_of b k.start))
      (All-flat_map P (λ j. room_tells tasks limit b k (high_of b j.start)) tasks no_task (λ j h. crowded_placed (usage_at tasks b (high_of b (get_or tasks j no_task).start)) (high_of b (get_or tasks j no_task).start) k (placed i no_task l)))
      (crowded_placed (usage_at tasks b (low_of b k.start)) (low_of b k.start) k (placed i no_task l)))))

-- ---- the variables alone

pub sum_same : (f g : Task → ℤ) (ks : List Task) → All (λ k. f k ≡ g k) ks → sum_of f ks ≡ sum_of g ks
unfolding sum_of
sum_same f g [] h = refl
sum_same f g (k ∷ ks) h =
    let first = h 0 k (omega arith) in
    let rest = sum_same f g ks (λ i d l. h (suc i) d (omega arith)) in
    (λ i. first i +ℤ rest i)

-- the bounds of a task's start are the same in two boxes
abbrev pub SameStart : Bounds → Bounds → Task → Type 0
SameStart b c k = (low_of b k.start ≡ low_of c k.start) × (high_of b k.start ≡ high_of c k.start)

module _ (tasks : List Task) (limit : ℤ) (b c : Bounds) (same : All (SameStart b c) tasks) where
  sure_same : (t : ℤ) (k : Task) → SameStart b c k → sure_usage b t k ≡ sure_usage c t k
  unfolding sure_usage is_sure_at
  sure_same t k s = (λ i. cond (int_le (s.1 i) t && int_lt t (s.0 i +ℤ k.duration)) k.usage (pos 0))

  usage_same : (t : ℤ) → usage_at tasks b t ≡ usage_at tasks c t
  usage_same t = sum_same (sure_usage b t) (sure_usage c t) tasks (λ i d l. sure_same t (get_or tasks i d) (same i d l))

  crowded_same : (used t : ℤ) (k : Task) → SameStart b c k → crowded_tells used limit b k t ≡ crowded_tells used limit c k t
  unfolding is_sure_at
  crowded_same used t k s =
      (λ i. when (not (int_le (s.1 i) t && int_lt t (s.0 i +ℤ k.duration)) && int_lt limit (used +ℤ k.usage))
      (when (is_from_to ((t -ℤ k.duration) +ℤ pos 1) t (s.0 i)) (low_tell k.start (t +ℤ pos 1) ∷ [])
      ++ when (is_from_to ((t -ℤ k.duration) +ℤ pos 1) t (s.1 i)) (high_tell k.start (t -ℤ k.duration) ∷ [])))

  room_same : (t u : ℤ) (k : Task) → t ≡ u → SameStart b c k → room_tells tasks limit b k t ≡ room_tells tasks limit c k u
  room_same t u k e s =
      (λ i. room_tells tasks limit b k (e i))
      ∙ (let used = usage_same u in (λ i. crowded_tells (used i) limit b k u))
      ∙ crowded_same (usage_at tasks c u) u k s

  pub cumulative_local : cumulative_tells tasks limit b ≡ cumulative_tells tasks limit c
  cumulative_local =
      let overloads = flat_map_same (λ j. overload_tells tasks limit b (high_of b j.start)) (λ j. overload_tells tasks limit c (high_of c j.start)) tasks no_task (λ j l.
      let high = (same j no_task l).1 in
      (λ i. overload_tells tasks limit b (high i)) ∙ (let used = usage_same (high_of c (get_or tasks j no_task).start) in (λ i. when (int_lt limit (used i)) (none_tells (map (λ k. k.start) tasks))))) in
      let rooms = flat_map_same (task_tells tasks limit b) (task_tells tasks limit c) tasks no_task (λ n l.
      let k = get_or tasks n no_task in
      let s = same n no_task l in
      let starts = flat_map_same (λ j. room_tells tasks limit b k (high_of b j.start)) (λ j. room_tells tasks limit c k (high_of c j.start)) tasks no_task (λ j h. room_same (high_of b (get_or tasks j no_task).start) (high_of c (get_or tasks j no_task).start) k (same j no_task h).1 s) in
      let own = room_same (low_of b k.start) (low_of c k.start) k s.0 s in
      (λ i. when (int_le (pos 1) k.duration) (starts i ++ own i))) in
      (λ i. overloads i ++ rooms i)

pub used_same : (tasks : List Task) (f g : List ℤ) (t : ℤ) → All (λ k. value_of f k.start ≡ value_of g k.start) tasks → used_at tasks f t ≡ used_at tasks g t
used_same tasks f g t same = sum_same (λ k. cond (is_under_way f t k) k.usage (pos 0)) (λ k. cond (is_under_way g t k) k.usage (pos 0)) tasks (λ i d l.
    let k = get_or tasks i d in
    let e = same i d l in
    (λ j. cond (int_le (e j) t && int_lt t (e j +ℤ k.duration)) k.usage (pos 0)))

pub cumulative_local_relation : (tasks : List Task) (limit : ℤ) (f g : List ℤ) → All (λ k. value_of f k.start ≡ value_of g k.start) tasks → IsCumulative tasks limit f → IsCumulative tasks limit g
cumulative_local_relation tasks limit f g same holds t = subst (λ (z : ℤ). z ≤ℤ limit) (used_same tasks f g t same) (holds t)

-- at a box whose bounds are the numbers of an assignment, what is sure is what is under way
pub used_sure : (tasks : List Task) (b : Bounds) (f : List ℤ) (t : ℤ) → All (λ k. (low_of b k.start ≡ value_of f k.start) × (high_of b k.start ≡ value_of f k.start)) tasks → usage_at tasks b t ≡ used_at tasks f t
unfolding sure_usage is_sure_at
used_sure tasks b f t same = sum_same (sure_usage b t) (λ k. cond (is_under_way f t k) k.usage (pos 0)) tasks (λ i d l.
    let k = get_or tasks i d in
    let e = same i d l in
    (λ j. cond (int_le (e.1 j) t && int_lt t (e.0 j +ℤ k.duration)) k.usage (pos 0)))

-- the box of an assignment
abbrev pub fixed_to : List ℤ → Bounds
fixed_to numbers = map (λ z. (z, z)) numbers

pub fixed_low : (numbers : List ℤ) (v : ℕ) → low_of (fixed_to numbers) v ≡ value_of numbers v
fixed_low [] v = refl
fixed_low (z ∷ zs) zero = refl
fixed_low (z ∷ zs) (suc v) = fixed_low zs v

pub fixed_high : (numbers : List ℤ) (v : ℕ) → high_of (fixed_to numbers) v ≡ value_of numbers v
fixed_high [] v = refl
fixed_high (z ∷ zs) zero = refl
fixed_high (z ∷ zs) (suc v) = fixed_high zs v

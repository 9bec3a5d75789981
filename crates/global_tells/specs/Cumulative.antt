-- A cumulative resource: at every whole time, what the tasks that are under way then use of it is at most a limit.
use Rattle.std.specs.Prelude.{◌≡◌, ◌<◌, ◌≤◌, ◌≤ℤ◌, ℕ, ℤ, pos, ◌*◌, ◌+ℤ◌, ◌-ℤ◌, unsigned_abs, Bool, not, ◌&&◌, cond, List, [], ◌∷◌, ◌++◌, length, map, slice_index, slice_index_or, int_lt, int_le}
use Rattle.std.specs.List.{All, flat_map, zip}
use Rattle.tells.specs.declared.tell.Tell.{Tell}
use Rattle.interval.specs.Limits.{IsNumber, largest_number}
use Rattle.interval.specs.Boxes.{Bounds, low_of, high_of}
use Rattle.tells.specs.Words.{low_tell, high_tell, when, value_of, AreVariables}
use Rattle.global_tells.specs.declared.tasks.Task.{Task}
use Rattle.global_tells.specs.declared.tasks.Tasks.{Tasks}
use Rattle.global_tells.specs.Ranges.{is_from_to, none_tells, place_limit}

-- the tasks of three lists: of their starts' variables, their durations and their usages
unfoldable pub tasks_of : List ℕ → List ℤ → List ℤ → List Task
tasks_of starts durations usages =
    map (λ p. record { start = p.0; duration = p.1.0; usage = p.1.1 }) (zip starts (zip durations usages))

abbrev pub tasks_in : Tasks → List Task
tasks_in tasks = tasks_of tasks.starts.now tasks.durations.now tasks.usages.now

-- what stands past a list's end, and the task at a place
abbrev pub no_task : Task
no_task = record { start = 0; duration = pos 0; usage = pos 0 }

abbrev pub task_in : Tasks → ℕ → Task
task_in tasks place = slice_index_or (tasks_in tasks) place no_task

-- a number that is at least 0
pub record IsAmount (z : ℤ) : Type 0 where
  pub number : IsNumber z
  pub positive : pos 0 ≤ℤ z

-- the lists fit together, aren't too long, and no number is negative
pub record AreTasks (s : List ℕ) (d r : List ℤ) (b : ℤ) : Type 0 where
  pub a_duration_each : length d ≡ length s
  pub a_usage_each : length r ≡ length s
  pub short : length s ≤ place_limit
  pub durations : All IsAmount d
  pub usages : All IsAmount r
  pub limit : IsAmount b

-- the tasks are those of a box of `count` variables
pub record AreTasksOf (count : ℕ) (tasks : Tasks) : Type 0 where
  pub starts : AreVariables count tasks.starts.now
  pub fit : AreTasks tasks.starts.now tasks.durations.now tasks.usages.now tasks.limit

-- a task's numbers are amounts
pub record IsTask (k : Task) : Type 0 where
  pub duration : IsAmount k.duration
  pub usage : IsAmount k.usage

-- what is used at a time lies between this and its opposite
unfoldable pub usage_limit : ℕ
usage_limit = place_limit * largest_number

-- the task is under way at this time wherever it starts
unfoldable pub is_sure_at : Bounds → ℤ → Task → Bool
is_sure_at b t k = int_le (high_of b k.start) t && int_lt t (low_of b k.start +ℤ k.duration)

unfoldable pub sure_usage : Bounds → ℤ → Task → ℤ
sure_usage b t k = cond (is_sure_at b t k) k.usage (pos 0)

-- the sum of a number for each task
unfoldable pub sum_of : (Task → ℤ) → List Task → ℤ
sum_of f [] = pos 0
sum_of f (k ∷ ks) = f k +ℤ sum_of f ks

-- what the tasks use at this time wherever they start
abbrev pub usage_at : List Task → Bounds → ℤ → ℤ
usage_at tasks b t = sum_of (sure_usage b t) tasks

-- a list has what is used at the latest start of each task, and its numbers are within the limit of these sums
pub record AreUsedAtStarts (tasks : Tasks) (b : Bounds) (used : List ℤ) : Type 0 where
  pub a_place_each : length tasks.starts.now ≤ length used
  pub each : (j : ℕ) → j < length tasks.starts.now
      → slice_index_or used j (pos 0) ≡ usage_at (tasks_in tasks) b (high_of b (slice_index tasks.starts.now j))
  pub in_range : (j : ℕ) → j < length tasks.starts.now → unsigned_abs (slice_index_or used j (pos 0)) ≤ usage_limit

-- the task isn't sure to be under way at any time, and there is enough for it alone
pub record IsFree (limit : ℤ) (b : Bounds) (k : Task) : Type 0 where
  pub enough : k.usage ≤ℤ limit
  pub unsure : (low_of b k.start +ℤ k.duration) ≤ℤ high_of b k.start

-- more is used than there is
abbrev pub overload_tells : List Task → ℤ → Bounds → ℤ → List Tell
overload_tells tasks limit b t = when (int_lt limit (usage_at tasks b t)) (none_tells (map (λ k. k.start) tasks))

-- where so much is used at this time that there is no room for the task, it isn't under way then
abbrev pub crowded_tells : ℤ → ℤ → Bounds → Task → ℤ → List Tell
crowded_tells used limit b k t =
    when (not (is_sure_at b t k) && int_lt limit (used +ℤ k.usage))
    (when (is_from_to ((t -ℤ k.duration) +ℤ pos 1) t (low_of b k.start)) (low_tell k.start (t +ℤ pos 1) ∷ [])
    ++ when (is_from_to ((t -ℤ k.duration) +ℤ pos 1) t (high_of b k.start)) (high_tell k.start (t -ℤ k.duration) ∷ []))

abbrev pub room_tells : List Task → ℤ → Bounds → Task → ℤ → List Tell
room_tells tasks limit b k t = crowded_tells (usage_at tasks b t) limit b k t

-- a task that takes time is told at the latest start of each task, and at its own earliest
abbrev pub task_tells : List Task → ℤ → Bounds → Task → List Tell
task_tells tasks limit b k =
    when (int_le (pos 1) k.duration)
    (flat_map (λ j. room_tells tasks limit b k (high_of b j.start)) tasks ++ room_tells tasks limit b k (low_of b k.start))

-- the tells on a box
abbrev pub cumulative_tells : List Task → ℤ → Bounds → List Tell
cumulative_tells tasks limit b =
    flat_map (λ j. overload_tells tasks limit b (high_of b j.start)) tasks ++ flat_map (task_tells tasks limit b) tasks

-- the task is under way at this time, and what the tasks then use
abbrev pub is_under_way : List ℤ → ℤ → Task → Bool
is_under_way numbers t k = int_le (value_of numbers k.start) t && int_lt t (value_of numbers k.start +ℤ k.duration)

abbrev pub used_at : List Task → List ℤ → ℤ → ℤ
used_at tasks numbers t = sum_of (λ k. cond (is_under_way numbers t k) k.usage (pos 0)) tasks

-- the relation: at no whole time more is used than the limit
abbrev pub IsCumulative : List Task → ℤ → List ℤ → Type 0
IsCumulative tasks limit numbers = (t : ℤ) → used_at tasks numbers t ≤ℤ limit

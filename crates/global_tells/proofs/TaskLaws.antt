-- The tasks of three lists, place by place.
use Rattle.std.proofs.Common.{◌≡◌, ℕ, zero, suc, ◌+◌, ◌<◌, ◌≤◌, ◌+ℤ◌, ◌<ℤ◌, unsigned_abs, Bool, true, false, not, take, add-one, sym, ◌∙◌, List, [], ◌∷◌, length, map, get_or, ℤ, pos, ◌≤ℤ◌, to_z, of_z, refl, ap, arith}
use Rattle.std.proofs.lemmas.Int.{ints}
use mir.Syntax.{w64}
use Rattle.interval.specs.Limits.{largest_number}
use Rattle.std.specs.List.{All}
use Rattle.global_tells.specs.declared.tasks.Task.{Task}
use Rattle.global_tells.specs.declared.tasks.Tasks.{Tasks}
use Rattle.interval.specs.Boxes.{Bounds, low_of, high_of}
use Rattle.interval.specs.Limits.{IsBound, bound_limit}
use Rattle.global_tells.specs.Ranges.{place_limit}
use Rattle.std.specs.Int.RustNames.{int_lt, int_le}
use Rattle.std.specs.Prelude.{◌&&◌}
use Rattle.global_tells.specs.Cumulative.{tasks_of, no_task, IsAmount, IsTask, AreTasks, AreTasksOf, task_in, is_sure_at, sum_of, usage_limit}

pub length_tasks : (s : List ℕ) (d r : List ℤ) → length d ≡ length s → length r ≡ length s → length (tasks_of s d r) ≡ length s
unfolding tasks_of
length_tasks [] d r p q = refl
length_tasks (x ∷ s) [] r p q = absurd (omega arith)
length_tasks (x ∷ s) (y ∷ d) [] p q = absurd (omega arith)
length_tasks (x ∷ s) (y ∷ d) (z ∷ r) p q = let rest = length_tasks s d r (omega arith) (omega arith) in omega arith

pub starts_of : (s : List ℕ) (d r : List ℤ) → length d ≡ length s → length r ≡ length s → map (λ k. k.start) (tasks_of s d r) ≡ s
unfolding tasks_of
starts_of [] d r p q = refl
starts_of (x ∷ s) [] r p q = absurd (omega arith)
starts_of (x ∷ s) (y ∷ d) [] p q = absurd (omega arith)
starts_of (x ∷ s) (y ∷ d) (z ∷ r) p q = ap (λ (v : List ℕ). x ∷ v) (starts_of s d r (omega arith) (omega arith))

pub task_at : (s : List ℕ) (d r : List ℤ) (i : ℕ) → length d ≡ length s → length r ≡ length s → i < length s
    → get_or (tasks_of s d r) i no_task ≡ record { start = get_or s i 0; duration = get_or d i (pos 0); usage = get_or r i (pos 0) }
unfolding tasks_of
task_at [] d r i p q h = absurd (omega arith)
task_at (x ∷ s) [] r i p q h = absurd (omega arith)
task_at (x ∷ s) (y ∷ d) [] i p q h = absurd (omega arith)
task_at (x ∷ s) (y ∷ d) (z ∷ r) zero p q h = refl
task_at (x ∷ s) (y ∷ d) (z ∷ r) (suc i) p q h = task_at s d r i (omega arith) (omega arith) (omega arith)

pub All-tasks : (P : Task → Type 0) (s : List ℕ) (d r : List ℤ) → length d ≡ length s → length r ≡ length s
    → ((i : ℕ) → i < length s → P (record { start = get_or s i 0; duration = get_or d i (pos 0); usage = get_or r i (pos 0) })) → All P (tasks_of s d r)
unfolding tasks_of
All-tasks P [] d r p q h i e l = absurd (omega arith)
All-tasks P (x ∷ s) [] r p q h i e l = absurd (omega arith)
All-tasks P (x ∷ s) (y ∷ d) [] p q h i e l = absurd (omega arith)
All-tasks P (x ∷ s) (y ∷ d) (z ∷ r) p q h zero e l = h 0 (omega arith)
All-tasks P (x ∷ s) (y ∷ d) (z ∷ r) p q h (suc i) e l = All-tasks P s d r (omega arith) (omega arith) (λ j m. h (suc j) (omega arith)) i e (omega arith)

-- the starts are some of the list's, however long the other lists are
pub All-starts : (s : List ℕ) (d r : List ℤ) (P : ℕ → Type 0) → ((i : ℕ) → i < length s → P (get_or s i 0)) → All (λ k. P k.start) (tasks_of s d r)
unfolding tasks_of
All-starts [] d r P h i e l = absurd (omega arith)
All-starts (x ∷ s) [] r P h i e l = absurd (omega arith)
All-starts (x ∷ s) (y ∷ d) [] P h i e l = absurd (omega arith)
All-starts (x ∷ s) (y ∷ d) (z ∷ r) P h zero e l = h 0 (omega arith)
All-starts (x ∷ s) (y ∷ d) (z ∷ r) P h (suc i) e l = All-starts s d r P (λ j m. h (suc j) (omega arith)) i e (omega arith)

module _ (s : List ℕ) (d r : List ℤ) (limit : ℤ) (tasks : AreTasks s d r limit) where
  pub tasks_length : length (tasks_of s d r) ≡ length s
  tasks_length = length_tasks s d r tasks.a_duration_each tasks.a_usage_each

  pub tasks_starts : map (λ k. k.start) (tasks_of s d r) ≡ s
  tasks_starts = starts_of s d r tasks.a_duration_each tasks.a_usage_each

  pub tasks_amounts : All IsTask (tasks_of s d r)
  tasks_amounts = All-tasks IsTask s d r tasks.a_duration_each tasks.a_usage_each (λ i h.
      record { duration = tasks.durations i (pos 0) (let e = tasks.a_duration_each in omega arith); usage = tasks.usages i (pos 0) (let e = tasks.a_usage_each in omega arith) })

  pub tasks_positive : All (λ k. pos 0 ≤ℤ k.usage) (tasks_of s d r)
  tasks_positive i e l = (tasks_amounts i e l).usage.positive

-- an amount is the same as it is read in 64 bits
pub coded_amount : (z : ℤ) → IsAmount z → to_z w64 (of_z w64 z) ≡ z
unfolding largest_number
coded_amount z h = let n = h.number in omega (arith, ints)

-- and so is a bound, and what is used at a time
pub coded_bound : (z : ℤ) → IsBound z → to_z w64 (of_z w64 z) ≡ z
unfolding bound_limit largest_number
coded_bound z h = omega (arith, ints)

pub coded_usage : (z : ℤ) → unsigned_abs z ≤ usage_limit → to_z w64 (of_z w64 z) ≡ z
unfolding usage_limit place_limit largest_number
coded_usage z h = omega (arith, ints)

-- the start of the task at a place, and its duration
pub start_in : (count : ℕ) (t : Tasks) → AreTasksOf count t → (j : ℕ) → j < length t.starts.now → (task_in t j).start ≡ get_or t.starts.now j 0
start_in count t f j h = ap (λ (k : Task). k.start) (task_at t.starts.now t.durations.now t.usages.now j f.fit.a_duration_each f.fit.a_usage_each h)

pub duration_in : (t : Tasks) → AreTasks t.starts.now t.durations.now t.usages.now t.limit → (j : ℕ) → j < length t.starts.now → (task_in t j).duration ≡ get_or t.durations.now j (pos 0)
duration_in t f j h = ap (λ (k : Task). k.duration) (task_at t.starts.now t.durations.now t.usages.now j f.a_duration_each f.a_usage_each h)

-- the test of being under way wherever it starts, by its two parts
pub not_yet_sure : (b : Bounds) (t : ℤ) (k : Task) → t <ℤ high_of b k.start → false ≡ is_sure_at b t k
unfolding is_sure_at
not_yet_sure b t k h = let e : false ≡ int_le (high_of b k.start) t = omega (arith, ints) in (λ i. e i && int_lt t (low_of b k.start +ℤ k.duration))

pub sure_while : (b : Bounds) (t : ℤ) (k : Task) (x y : ℤ) → high_of b k.start ≤ℤ t → x ≡ t → y ≡ low_of b k.start +ℤ k.duration → int_lt x y ≡ is_sure_at b t k
unfolding is_sure_at
sure_while b t k x y h p q = let e : true ≡ int_le (high_of b k.start) t = omega (arith, ints) in (λ i. int_lt (p i) (q i)) ∙ (λ i. e i && int_lt t (low_of b k.start +ℤ k.duration))

pub no_room_by : (s : Bool) (x y limit sum : ℤ) → s ≡ false → x ≡ limit → y ≡ sum → int_lt x y ≡ (not s && int_lt limit sum)
no_room_by s x y limit sum e p q = (λ i. int_lt (p i) (q i)) ∙ (λ i. not (sym e i) && int_lt limit sum)

-- sums over the first tasks of a list
sum_suc : (f : Task → ℤ) (ks : List Task) (i : ℕ) (d : Task) → i < length ks → sum_of f (take (suc i) ks) ≡ sum_of f (take i ks) +ℤ f (get_or ks i d)
unfolding sum_of
sum_suc f [] i d h = absurd (omega arith)
sum_suc f (k ∷ ks) zero d h = omega (arith, ints)
sum_suc f (k ∷ ks) (suc i) d h = let rest = sum_suc f ks i d (omega arith) in omega (arith, ints)

pub sum_more_by_one : (f : Task → ℤ) (ks : List Task) (i : ℕ) (d : Task) → i < length ks → sum_of f (take (i + 1) ks) ≡ sum_of f (take i ks) +ℤ f (get_or ks i d)
sum_more_by_one f ks i d h = ap (λ (n : ℕ). sum_of f (take n ks)) (add-one i) ∙ sum_suc f ks i d h

pub sum_all : (f : Task → ℤ) (ks : List Task) (i : ℕ) → length ks ≤ i → sum_of f (take i ks) ≡ sum_of f ks
unfolding sum_of
sum_all f [] zero h = refl
sum_all f [] (suc i) h = refl
sum_all f (k ∷ ks) zero h = absurd (omega arith)
sum_all f (k ∷ ks) (suc i) h = ap (λ (z : ℤ). f k +ℤ z) (sum_all f ks i (omega arith))

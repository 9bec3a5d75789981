-- Where no task is sure to use anything at any time, and there is enough for each alone, nothing is told.
use Rattle.std.proofs.Common.{◌≡◌, ℕ, suc, ◌<◌, List, [], ◌∷◌, length, get_or, true, not, ℤ, pos, ◌+ℤ◌, ◌≤ℤ◌, refl, arith}
use Rattle.std.proofs.lemmas.Int.{ints}
use Rattle.std.proofs.lemmas.List.Elements.{All-append}
use Rattle.std.proofs.lemmas.Bool.{and_parts, false_from_ne_true}
use Rattle.std.specs.Int.RustNames.{int_lt, int_le}
use Rattle.std.specs.Prelude.{◌&&◌}
use Rattle.std.specs.List.{All, flat_map}
use Rattle.interval.specs.Boxes.{Bounds, low_of, high_of}
use Rattle.tells.specs.Words.{Keeps}
use Rattle.global_tells.specs.declared.tasks.Task.{Task}
use Rattle.global_tells.specs.Cumulative.{no_task, IsFree, is_sure_at, sure_usage, sum_of, usage_at, overload_tells, room_tells, task_tells, cumulative_tells}
use Rattle.global_tells.proofs.Lists.{All-flat_map, All-when}
use Rattle.global_tells.proofs.CumulativeLaws.{sure_then, usage_else}

never_sure : (b : Bounds) (k : Task) → (low_of b k.start +ℤ k.duration) ≤ℤ high_of b k.start → (t : ℤ) → sure_usage b t k ≡ pos 0
never_sure b k part t = usage_else b t k (false_from_ne_true _ (λ e. let s = sure_then b t k e in let p = s.0 in let q = s.1 in omega (arith, ints)))

sum_zero : (f : Task → ℤ) (ks : List Task) → ((i : ℕ) → i < length ks → f (get_or ks i no_task) ≡ pos 0) → sum_of f ks ≡ pos 0
unfolding sum_of
sum_zero f [] h = refl
sum_zero f (k ∷ ks) h = let first = h 0 (omega arith) in let rest = sum_zero f ks (λ i l. h (suc i) (omega arith)) in omega (arith, ints)

not_over : (limit used usage : ℤ) → used ≡ pos 0 → usage ≤ℤ limit → int_lt limit (used +ℤ usage) ≡ true → ⊥
not_over limit used usage none fits e = omega (arith, ints)

not_overload : (limit used : ℤ) → used ≡ pos 0 → pos 0 ≤ℤ limit → int_lt limit used ≡ true → ⊥
not_overload limit used none some e = omega (arith, ints)

module _ (b : Bounds) (limit : ℤ) (ks : List Task) (some : pos 0 ≤ℤ limit) (free : (i : ℕ) → i < length ks → IsFree limit b (get_or ks i no_task)) where
  unused : (t : ℤ) → usage_at ks b t ≡ pos 0
  unused t = sum_zero (sure_usage b t) ks (λ i h. never_sure b (get_or ks i no_task) (free i h).unsure t)

  overload_quiet : (t : ℤ) → All (Keeps b) (overload_tells ks limit b t)
  overload_quiet t = All-when (Keeps b) (int_lt limit (usage_at ks b t)) _ (λ e. absurd (not_overload limit (usage_at ks b t) (unused t) some e))

  room_quiet : (k : Task) (t : ℤ) → k.usage ≤ℤ limit → All (Keeps b) (room_tells ks limit b k t)
  room_quiet k t fits = All-when (Keeps b) (not (is_sure_at b t k) && int_lt limit (usage_at ks b t +ℤ k.usage)) _ (λ e.
      absurd (not_over limit (usage_at ks b t) k.usage (unused t) fits (and_parts (not (is_sure_at b t k)) (int_lt limit (usage_at ks b t +ℤ k.usage)) e).1))

  task_quiet : (k : Task) → k.usage ≤ℤ limit → All (Keeps b) (task_tells ks limit b k)
  task_quiet k fits = All-when (Keeps b) (int_le (pos 1) k.duration) _ (λ e.
      All-append (Keeps b) (flat_map (λ j. room_tells ks limit b k (high_of b j.start)) ks) (room_tells ks limit b k (low_of b k.start))
      (All-flat_map (Keeps b) (λ j. room_tells ks limit b k (high_of b j.start)) ks no_task (λ i h. room_quiet k (high_of b (get_or ks i no_task).start) fits))
      (room_quiet k (low_of b k.start) fits))

  pub free_quiet : All (Keeps b) (cumulative_tells ks limit b)
  free_quiet =
      All-append (Keeps b) (flat_map (λ j. overload_tells ks limit b (high_of b j.start)) ks) (flat_map (task_tells ks limit b) ks)
      (All-flat_map (Keeps b) (λ j. overload_tells ks limit b (high_of b j.start)) ks no_task (λ i h. overload_quiet (high_of b (get_or ks i no_task).start)))
      (All-flat_map (Keeps b) (task_tells ks limit b) ks no_task (λ i h. task_quiet (get_or ks i no_task) (free i h).enough))

use Rattle.std.proofs.Common.{◌≡◌, ◌<◌, ℕ, map, slice_index}
use Rattle.crew.specs.Crews.{workers_of, turns_of, steals_of}
use Rattle.crew.proofs.workers.Workers.note_turns.Given as goal

abbrev pub invariant-loop-place : goal.invariant-loop-place
invariant-loop-place g l = record {
  workers : workers_of l.self ≡ workers_of l.initial.self;
  turns : (i : ℕ) → i < l.place → slice_index (turns_of l.self) i ≡ slice_index (map (λ worker. worker.turn) l.workers) i;
  steals : steals_of l.self ≡ steals_of l.initial.self;
}

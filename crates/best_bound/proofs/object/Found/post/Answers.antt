use Rattle.std.proofs.Common.{ℕ, subst, arith}
use Rattle.best_bound.specs.Codes.{none_word}
use Rattle.best_bound.specs.Seats.{IsNumberSeenAfterPost}
use Rattle.best_bound.proofs.Showing.{number_posted}
use Rattle.best_bound.proofs.object.Found.post.Goals as goal

pub tell-requires-clause-word : goal.tell-requires-clause-word
unfolding none_word
tell-requires-clause-word g c = omega arith

pub returns-clause-seen : goal.returns-clause-seen
returns-clause-seen g c = subst (λ (x : ℕ). IsNumberSeenAfterPost c.args.seat.now.place.me.0.seen c.tell.new.place.me.0.seen x) c.from.ensures (number_posted _ _ _ _ _ c.tell.ensures.posted)

use Rattle.std.proofs.Common.{◌≡◌, List, length, sym, subst}
use Rattle.std.specs.List.{All}
use Rattle.interval.specs.Boxes.{Bounds, IsProper}
use Rattle.trailed_box.specs.Trailed.{Left}
use Rattle.fixpoint_laws.specs.Fixpoints.{IsClosed}
use Rattle.narrowing.specs.Narrowers.{Fits, LetRest, AreQuietUnlessNoted, Knows}
use Rattle.free_search.proofs.ReadyLaws.{all_more}
use Rattle.free_search.proofs.searcher.Searcher.leave.Goals as goal

pub returns-clause-ready : goal.returns-clause-ready
returns-clause-ready g c =
    let kernels = c.args.run.now.program.now.kernels in
    let base = c.args.self.now.boxes.current in
    let same : c.push.new.self.current ≡ base = c.in_ok-push.ensures.current in
    let n = c.leave.new.self in
    record {
      left = record {
        closed = subst (λ (ls : List Left). All (λ (l : Left). IsClosed l.base kernels) ls) (sym c.in_ok-push.ensures.stack)
            (all_more (λ (l : Left). IsClosed l.base kernels) c.args.self.now.boxes.stack _ c.requires.settled.left.closed c.requires.settled.closed);
        fits = subst (λ (b : Bounds). Fits n kernels (length b)) (sym same) (c.in_ok-leave.ensures.fits kernels (length base) c.requires.settled.left.fits);
        let_rest = subst (λ (ls : List Left). LetRest n kernels ls) (sym c.in_ok-push.ensures.stack)
            (c.in_ok-leave.ensures.let_rest kernels c.args.self.now.boxes.stack base 0 _ _ c.requires.settled.rests c.requires.settled.left.let_rest);
      };
      proper = subst IsProper (sym same) c.requires.settled.closed.proper;
      quiet = subst (λ (b : Bounds). AreQuietUnlessNoted n kernels b) (sym same) (c.law_quiet_where_closed.ensures n kernels base c.requires.settled.closed);
      knows = subst (λ (b : Bounds). Knows n kernels b) (sym same) (c.law_known_where_rests.ensures n kernels base (c.in_ok-leave.ensures.rests kernels base c.requires.settled.rests));
    }

use Rattle.std.proofs.Common.{◌++◌, List, ℕ, ap, length, subst, sym, arith}
use Rattle.std.specs.Prelude.{flat_map}
use Rattle.crossbeam_deque.specs.Handles.{worker_view}
use Rattle.steal_crew.specs.Numbers.{IsPart, numbers_below}
use Rattle.steal_crew.specs.Rights.{dealt_to, taken_by}
use Rattle.steal_crew.proofs.TakeLaws.{take_below, take_room, take_few, take_found}
use Rattle.steal_crew.proofs.hand.Hand.take.Goals as goal

pub note-requires : goal.note-requires
note-requires c =
    let f = c.find-found in
    let a = take_room c.args.self.now (worker_view f.new.own) f.new.others.items f.result f.ensures.dealt f.ensures.within f.ensures.rights f.ensures.taken in
    let b = c.args.self.now.room in omega arith

pub invariant_of-self-clause-below : goal.invariant_of-self-clause-below
invariant_of-self-clause-below c =
    let f = c.find-found in
    subst (λ (l : List ℕ). IsPart (l ++ ((worker_view f.new.own).dealt ++ flat_map dealt_to f.new.others.items)) (numbers_below c.args.self.now.count ++ ((worker_view f.new.own).taken ++ flat_map taken_by f.new.others.items))) (sym c.note.ensures.drawn)
    (take_below c.args.self.now (worker_view f.new.own) f.new.others.items f.result f.ensures.dealt f.ensures.within f.ensures.rights f.ensures.taken)

pub returns-clause-below : goal.returns-clause-below
returns-clause-below c =
    let f = c.find-found in
    take_found c.args.self.now (worker_view f.new.own) f.new.others.items f.result f.ensures.dealt f.ensures.within f.ensures.rights f.ensures.taken

pub returns-clause-few : goal.returns-clause-few
returns-clause-few c =
    let f = c.find-found in
    let a = take_few c.args.self.now (worker_view f.new.own) f.new.others.items f.result f.ensures.dealt f.ensures.within f.ensures.rights f.ensures.taken in
    let b = ap length c.note.ensures.drawn in omega arith

use Rattle.std.proofs.Common.{◌≡◌, ℕ, List, length, ap, subst, sym, ◌∙◌, arith}
use Rattle.std.specs.Prelude.{Vec}
use Rattle.std.specs.declared.alloc.Global.{Global}
use Rattle.lattice_store.specs.Seats.{seen_of, floor_of, IsPast}
use Rattle.rounds.specs.Shares.{IsShare, AllNamed, WasHeard, share_at}
use Rattle.rounds.proofs.Rounding.{share_is, floor_named, alone}
use Rattle.rounds.proofs.settling.run_alone.Given.{Over}
use Rattle.rounds.proofs.settling.run_alone.Goals as goal
use Rattle.rounds.proofs.settling.run_alone.Goals.{After-deref}

share : (g : Over) (c : After-deref g) → share_at c.args.work.now.cut.now 0 ≡ c.deref.result.now
share g c = share_is c.args.work.now.cut.now 0 c.index-work-0.result c.deref.result.now (omega (arith, c.requires.one)) c.index-work-0.is (c.deref.ensures.value ∙ ap (λ (v : Vec ℕ Global). v.items) (sym c.index-work-0.is))

pub run_share-moved-requires : goal.run_share-moved-requires
run_share-moved-requires g c = record {
  store = c.requires.store;
  kernels = c.requires.kernels;
  share = subst (IsShare (length c.args.work.now.kernels.now)) (share g c) (c.requires.cut.in_range 0 (omega (arith, c.requires.one)));
  snapshot = c.requires.snapshot;
  floor = floor_named (floor_of c.args.first.now) c.deref.result.now c.args.work.now.kernels.now c.requires.floor;
}

pub returns : goal.returns
returns g c =
    let shared : share_at c.args.work.now.cut.now 0 ≡ c.deref.result.now = share_is c.args.work.now.cut.now 0 c.index-work-0.result c.deref.result.now (omega (arith, c.requires.one)) c.index-work-0.is (c.deref.ensures.value ∙ ap (λ (v : Vec ℕ Global). v.items) (sym c.index-work-0.is)) in
    let not_past : ¬ IsPast c.run_share-moved.new.seat = c.law_floor.ensures.first (c.run_share-moved.ensures.same.first ∙ c.requires.first) in
    record {
      same = c.run_share-moved.ensures.same;
      snapshot = c.run_share-moved.ensures.snapshot;
      round = alone c.args.work.now.kernels.now c.args.work.now.cut.now c.args.first.now c.run_share-moved.new.seat c.run_share-moved.result c.requires.cut c.requires.one
          c.run_share-moved.ensures.inside c.run_share-moved.ensures.still c.run_share-moved.ensures.moved
          (subst (λ (xs : List ℕ). (¬ IsPast c.run_share-moved.new.seat) → AllNamed (WasHeard (seen_of c.args.first.now) (seen_of c.run_share-moved.new.seat)) xs c.args.work.now.kernels.now) (sym shared) c.run_share-moved.ensures.heard) not_past;
    }

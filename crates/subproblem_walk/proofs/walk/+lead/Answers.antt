use Rattle.std.proofs.Common.{ℕ, ◌≡◌, [], length, refl, sym, subst, ◌∙◌, arith}
use Rattle.std.proofs.lemmas.List.{append-nil}
use Rattle.moved_fixpoint.specs.Moved.{AreMasksOf}
use Rattle.interval.specs.Boxes.{Bounds}
use Rattle.subproblem_walk.specs.Nodes.{IsNodeOf, Serve}
use Rattle.subproblem_walk.specs.Walks.{IsBeatenEnd}
use Rattle.subproblem_walk.proofs.TurnLemmas.{no_turn}
use Rattle.subproblem_walk.proofs.WalkLemmas.{can_again, made_of_itself, reached_on}
use Rattle.subproblem_walk.proofs.BeatenLemmas.{beaten_for, beaten_may_end, beaten_not_led, beaten_end_at}
use Rattle.subproblem_walk.proofs.walk.+lead.Goals as goal

pub returns-then-address-eq0-clause-way : goal.returns-then-address-eq0-clause-way
returns-then-address-eq0-clause-way t c = record {
  turns = [];
  way = [];
  are_turns = sym (append-nil c.args.turns.now.items);
  is_way = sym (append-nil c.args.sub.now.boxes.stack);
  steps = tt;
  to = no_turn c.args.address.depth c.args.address.number;
  ends = let e = c.if-address-eq0.true in omega arith;
  end = refl;
}

pub lead-requires : goal.lead-requires
lead-requires t c =
    let n = c.if-address-eq0.false in
    let r = c.requires.depth in
    let d = c.in_ok-rest-in-Parted.ensures.depth in
    let node = subst (IsNodeOf c.args.tree.now.model.now c.args.tree.now.program.now.kernels c.args.sub.now.boxes.current c.cut.new.sub.boxes.current) c.in-Parted.is c.in_ok-cut.ensures.node in
    let same : length c.take_turn.new.sub.boxes.current ≡ length c.args.sub.now.boxes.current = c.take_turn.ensures.length ∙ c.cut.ensures.length in (
      omega arith,
      (
        can_again c.args.tree.now.model.now c.args.tree.now.program.now.kernels c.args.sub.now.boxes.current c.take_turn.new.sub.boxes.current c.requires.cut same c.len-length.ensures.in_range,
        (
          subst (λ (count : ℕ). AreMasksOf c.args.tree.now.program.now.kernels count c.args.tree.now.masks.now) (sym same) c.requires.masks,
          (
            c.in_ok-rest-in-Parted.ensures.made c.args.tree.now.model.now c.args.tree.now.program.now.kernels node.0.closed node.1,
            (
              subst (λ (count : ℕ). Serve c.cut.new.sets c.args.tree.now.program.now.kernels count) (sym same) c.in_ok-cut.ensures.sets,
              (omega arith, c.requires.goal),
            ),
          ),
        ),
      ),
    )

pub returns-in-Failed-clause-way : goal.returns-in-Failed-clause-way
returns-in-Failed-clause-way t c = record {
  turns = [];
  way = [];
  are_turns = sym (append-nil c.args.turns.now.items);
  is_way = c.cut.ensures.stack ∙ sym (append-nil c.args.sub.now.boxes.stack);
  steps = tt;
  to = no_turn c.args.address.depth c.args.address.number;
  ends = let e = c.if-address-eq0.false in omega arith;
  end = subst (IsNodeOf c.args.tree.now.model.now c.args.tree.now.program.now.kernels c.args.sub.now.boxes.current c.cut.new.sub.boxes.current) c.in-Failed.is c.in_ok-cut.ensures.node;
}

pub returns-in-Fixed-clause-way : goal.returns-in-Fixed-clause-way
returns-in-Fixed-clause-way t c =
    let node = subst (IsNodeOf c.args.tree.now.model.now c.args.tree.now.program.now.kernels c.args.sub.now.boxes.current c.cut.new.sub.boxes.current) c.in-Fixed.is c.in_ok-cut.ensures.node in
    record {
      turns = [];
      way = [];
      are_turns = sym (append-nil c.args.turns.now.items);
      is_way = c.cut.ensures.stack ∙ sym (append-nil c.args.sub.now.boxes.stack);
      steps = tt;
      to = no_turn c.args.address.depth c.args.address.number;
      ends = let e = c.if-address-eq0.false in omega arith;
      end = record { greatest = node.0; fixed = node.1 };
    }

pub returns-in-Fixed-clause-made : goal.returns-in-Fixed-clause-made
returns-in-Fixed-clause-made t c =
    let node = subst (IsNodeOf c.args.tree.now.model.now c.args.tree.now.program.now.kernels c.args.sub.now.boxes.current c.cut.new.sub.boxes.current) c.in-Fixed.is c.in_ok-cut.ensures.node in
    let l = c.requires.cut.long in
    let e = c.cut.ensures.length in
    λ other. made_of_itself c.args.tree.now.program.now.kernels c.cut.new.sub.boxes.current node.0.closed (omega (arith, l, e))

pub returns-in_ok-reached-in-Parted-clause-way : goal.returns-in_ok-reached-in-Parted-clause-way
returns-in_ok-reached-in-Parted-clause-way t c =
    let n = c.if-address-eq0.false in
    let turn = c.in_ok-rest-in-Parted.ensures.turn in
    let node = subst (IsNodeOf c.args.tree.now.model.now c.args.tree.now.program.now.kernels c.args.sub.now.boxes.current c.cut.new.sub.boxes.current) c.in-Parted.is c.in_ok-cut.ensures.node in
    reached_on c.args.tree.now.model.now c.args.tree.now.program.now.kernels c.args.sub.now.boxes.current c.in-Parted.branching c.args.address c.in_ok-rest-in-Parted.rest
    c.args.sub.now.boxes c.cut.new.sub.boxes c.lead.new.sub.boxes c.args.turns.now.items c.take_turn.new.turns.items c.lead.new.turns.items turn.0 c.in_ok-reached-in-Parted.reached
    refl node.0 node.1 (omega arith) c.in_ok-rest-in-Parted.ensures.depth turn.1 c.cut.ensures.stack c.take_turn.new.sub.boxes turn.2 c.in_ok-reached-in-Parted.ensures.way

pub returns-in-Some-clause-way : goal.returns-in-Some-clause-way
returns-in-Some-clause-way t c =
    let h = subst (λ (b : Bounds). IsBeatenEnd c.args.tree.now.model.now c.args.best b c.in-Some.end) c.current.ensures c.in-Some.ensures in
    let n = c.if-address-eq0.false in
    let l = c.requires.cut.long in
    let e = c.cut.ensures.length in
    let node = subst (IsNodeOf c.args.tree.now.model.now c.args.tree.now.program.now.kernels c.args.sub.now.boxes.current c.cut.new.sub.boxes.current) c.in-Parted.is c.in_ok-cut.ensures.node in
    record {
      turns = [];
      way = [];
      are_turns = sym (append-nil c.args.turns.now.items);
      is_way = c.cut.ensures.stack ∙ sym (append-nil c.args.sub.now.boxes.stack);
      steps = tt;
      to = no_turn c.args.address.depth c.args.address.number;
      ends = beaten_may_end c.args.tree.now.model.now c.args.best c.cut.new.sub.boxes.current c.args.address.depth c.in-Some.end h (omega arith);
      end =
          beaten_end_at c.args.tree.now.model.now c.args.best c.cut.new.sub.boxes.current c.args.tree.now.program.now.kernels c.args.sub.now.boxes.current c.cut.new.sub.boxes.current c.in-Some.end
          h c.requires.goal (omega (arith, l, e)) node.0;
    }

pub returns-in-Some-clause-end_for : goal.returns-in-Some-clause-end_for
returns-in-Some-clause-end_for t c = beaten_for c.args.tree.now.model.now c.args.best c.current.result.now c.in-Some.end c.in-Some.ensures

pub returns-in-Some-clause-made : goal.returns-in-Some-clause-made
returns-in-Some-clause-made t c = λ led. absurd (beaten_not_led c.args.tree.now.model.now c.args.best c.current.result.now c.args.address.number c.in-Some.end c.in-Some.ensures led)

pub returns-in-Some-clause-told : goal.returns-in-Some-clause-told
returns-in-Some-clause-told t c = λ told led. absurd (beaten_not_led c.args.tree.now.model.now c.args.best c.current.result.now c.args.address.number c.in-Some.end c.in-Some.ensures led)

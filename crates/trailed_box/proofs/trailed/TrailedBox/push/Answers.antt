use Rattle.std.proofs.Common.{◌≡◌, ap, ◌∙◌, arith, length, ◌++◌, ◌∷◌, []}
use Rattle.std.proofs.lemmas.Grind.{common_steps}
use Rattle.trailed_box.specs.Trailed.{Trailed, left_of, IsPart}
use Rattle.trailed_box.specs.declared.trail.Mark.{Mark}
use Rattle.trailed_box.proofs.TrailLaws.{stack_after_push, on_after_push, parts_after_push}
use Rattle.trailed_box.proofs.trailed.TrailedBox.push.Goals as goal

pub invariant_of-self-2 : goal.invariant_of-self-2
invariant_of-self-2 c =
    let m : Mark = record { from = length c.as_slice.result.now; logged = c.len.result; part = record { var = c.args.v; low = c.args.low; high = c.args.high } } in
    let items : c.push.new.self.items ≡ c.self.inside.marks.items ++ m ∷ [] = grind (arith, common_steps) in
    let from = ap length c.as_slice.ensures.value in
    let part : IsPart (length c.self.inside.current) c.args.v c.args.low c.args.high =
    record {
      variable = omega (arith, ap (λ (t : Trailed). length t.current) c.self.view_is);
      low_in_range = c.requires.low_in_range;
      high_in_range = c.requires.high_in_range;
    } in
    record {
      marks = on_after_push c.self.inside.trail.items c.self.inside.marks.items c.push.new.self.items m items from c.self.invariant.marks;
      parts = parts_after_push (length c.self.inside.current) c.self.inside.trail.items c.self.inside.marks.items c.push.new.self.items m items part c.self.invariant.parts;
      places = c.self.invariant.places;
    }

pub returns-clause-stack : goal.returns-clause-stack
returns-clause-stack c =
    let m : Mark = record { from = length c.as_slice.result.now; logged = c.len.result; part = record { var = c.args.v; low = c.args.low; high = c.args.high } } in
    let items : c.push.new.self.items ≡ c.self.inside.marks.items ++ m ∷ [] = grind (arith, common_steps) in
    let from = ap length c.as_slice.ensures.value in
    stack_after_push c.self.inside.trail.items c.self.inside.current c.self.inside.marks.items c.push.new.self.items m items from
    ∙ ap (λ (t : Trailed). t.stack ++ left_of t.current c.args.v c.args.low c.args.high ∷ []) c.self.view_is

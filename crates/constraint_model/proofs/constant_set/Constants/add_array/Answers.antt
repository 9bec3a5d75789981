use Rattle.std.proofs.Common.{sym, subst}
use Rattle.constraint_model.specs.Found.{AreConstants}
use Rattle.constraint_model.proofs.CountedLaws.{array_more}
use Rattle.constraint_model.proofs.constant_set.Constants.add_array.Goals as goal

pub invariant_of-self-2 : goal.invariant_of-self-2
invariant_of-self-2 c =
    let inside = c.self.inside in
    subst (λ arrays. AreConstants inside.places inside.numbers.items arrays inside.counted) (sym c.in_ok-push.ensures.pushed) (record {
      found = c.self.invariant.found;
      counted = array_more inside.numbers.items inside.arrays c.args.terms inside.counted c.self.invariant.counted;
    })

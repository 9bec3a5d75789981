use Rattle.std.proofs.Common.{◌≡◌, ◌++◌, ℤ, subst, w64, to_z, of_z}
use Rattle.domain_text.proofs.SetLaws.{coded_base, others_done, others_text}
use Rattle.domain_text.proofs.sets.push_others.Goals as goal

pub returns : goal.returns
returns c =
    subst (λ (z : ℤ). c.loop-rest.text.items ≡ c.args.text.now.items ++ others_text z c.args.set) (coded_base c.args.base c.requires.0)
    (others_done (to_z w64 (of_z w64 c.args.base)) c.loop-rest.rest c.loop-rest.text.items _ c.loop-rest-test.false c.loop-rest.invariant)

-- Two lists of tells are heard one after the other.
use Rattle.std.proofs.Common.{[], ◌∷◌, ◌++◌}
use Rattle.std.specs.List.{zip}
use Rattle.sum_tells.specs.Equality.{equal_tells, unequal_tells}
use Rattle.tell_laws.proofs.HearingLaws.{may_first, may_rest, hears_both}
use Rattle.sum_tells.proofs.parted.tell_terms.Goals as goal

pub tell_where_sure-requires-clause-hearer : goal.tell_where_sure-requires-clause-hearer
tell_where_sure-requires-clause-hearer g c =
    may_first g.H.Hear.can_hear g.H.Hear.hears c.args.h.now
    (equal_tells c.args.lit (zip c.args.coeffs.now c.args.vars.now ++ c.args.last ∷ []) c.args.equation.limit c.args.equation.sum.least c.args.equation.sum.greatest c.args.b.now)
    (unequal_tells c.args.lit (zip c.args.coeffs.now c.args.vars.now ++ c.args.last ∷ []) c.args.equation.limit c.args.equation.sum.least c.args.equation.sum.greatest c.args.b.now)
    c.requires.hearer

pub tell_where_out-requires-clause-hearer : goal.tell_where_out-requires-clause-hearer
tell_where_out-requires-clause-hearer g c =
    may_rest g.H.Hear.can_hear g.H.Hear.hears c.args.h.now c.tell_where_sure.new.h
    (equal_tells c.args.lit (zip c.args.coeffs.now c.args.vars.now ++ c.args.last ∷ []) c.args.equation.limit c.args.equation.sum.least c.args.equation.sum.greatest c.args.b.now)
    (unequal_tells c.args.lit (zip c.args.coeffs.now c.args.vars.now ++ c.args.last ∷ []) c.args.equation.limit c.args.equation.sum.least c.args.equation.sum.greatest c.args.b.now)
    c.requires.hearer c.tell_where_sure.ensures

pub returns : goal.returns
returns g c =
    hears_both g.H.Hear.can_hear g.H.Hear.hears c.args.h.now c.tell_where_sure.new.h c.tell_where_out.new.h
    (equal_tells c.args.lit (zip c.args.coeffs.now c.args.vars.now ++ c.args.last ∷ []) c.args.equation.limit c.args.equation.sum.least c.args.equation.sum.greatest c.args.b.now)
    (unequal_tells c.args.lit (zip c.args.coeffs.now c.args.vars.now ++ c.args.last ∷ []) c.args.equation.limit c.args.equation.sum.least c.args.equation.sum.greatest c.args.b.now)
    c.tell_where_sure.ensures c.tell_where_out.ensures

-- The drops of the terms that are left may be heard, and lead to where all the terms' drops lead.
use Rattle.std.proofs.Common.{drop}
use Rattle.std.specs.List.{zip, flat_map}
use Rattle.domain_drops.specs.Drops.{term_drops}
use Rattle.domain_drops.proofs.HearingLaws.{Leads}
use Rattle.domain_drops.proofs.equation.drop_unequal.Given as goal

abbrev pub invariant-loop-i : goal.invariant-loop-i
invariant-loop-i g l =
    Leads g.H.HearDrop.can_hear g.H.HearDrop.hears (flat_map (term_drops l.m l.fn.equation.limit l.fn.equation.sum.least l.fn.equation.sum.greatest) (zip l.coeffs l.vars))
    (flat_map (term_drops l.m l.fn.equation.limit l.fn.equation.sum.least l.fn.equation.sum.greatest) (drop l.i (zip l.coeffs l.vars))) l.initial.h l.h

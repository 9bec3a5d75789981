-- What is found is the hull of the places so far.
use Rattle.std.proofs.Common.{take}
use Rattle.std.specs.List.{filter}
use Rattle.element_tells.specs.Element.{can_be, places_of}
use Rattle.element_tells.specs.Hull.{IsHullOf}
use Rattle.element_tells.proofs.element.hull_of.Given as goal

abbrev pub invariant-loop-i : goal.invariant-loop-i
invariant-loop-i l = IsHullOf l.b (filter (can_be l.x l.c l.b) (take l.i (places_of l.entries))) l.found

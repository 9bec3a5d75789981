-- The tells of what is left are those of its hull.
use Rattle.std.proofs.Common.{List, subst, sym}
use Rattle.tells.specs.declared.tell.Tell.{Tell}
use Rattle.tells.specs.Hearing.{MayHearAll, HearsAll}
use Rattle.element_tells.proofs.ElementTells.{told_is}
use Rattle.element_tells.proofs.element.tell_left.Goals as goal

pub tell_hull-requires : goal.tell_hull-requires
tell_hull-requires g c =
    let P : List Tell → Type 0 = λ ts. MayHearAll g.H.Hear.can_hear g.H.Hear.hears c.args.h.now ts in
    subst P (told_is c.args.x c.args.c c.args.b.now _ c.hull_of-hull.result c.hull_of-hull.ensures) c.requires.hearer

pub returns : goal.returns
returns g c =
    let P : List Tell → Type 0 = λ ts. HearsAll g.H.Hear.hears c.args.h.now ts c.tell_hull.new.h in
    subst P (sym (told_is c.args.x c.args.c c.args.b.now _ c.hull_of-hull.result c.hull_of-hull.ensures)) c.tell_hull.ensures

-- The two tells, one after the other.
use Rattle.std.proofs.Common.{List, sym, subst}
use Rattle.std.proofs.lemmas.List.Elements.{filter-append}
use Rattle.tells.specs.declared.tell.Tell.{Tell}
use Rattle.tells.specs.Hearing.{HearsAll}
use Rattle.tell_laws.specs.Narrowing.{narrows, narrowing}
use Rattle.short_tells.specs.ShortTells.{rise_tells, fall_tells}
use Rattle.tell_laws.proofs.HearingLaws.{hears_both}
use Rattle.short_tells.proofs.short_terms.narrow_term.Goals as goal

pub returns : goal.returns
returns g c =
    let b = c.args.b.now in
    let P : List Tell → Type 0 = λ ts. HearsAll g.H.Hear.hears c.args.h.now ts c.narrow_fall.new.h in
    subst P (sym (filter-append (narrows b) (rise_tells b c.args.room.rise c.args.term) (fall_tells b c.args.room.fall c.args.term)))
    (hears_both g.H.Hear.can_hear g.H.Hear.hears c.args.h.now c.narrow_rise.new.h c.narrow_fall.new.h (narrowing b (rise_tells b c.args.room.rise c.args.term)) (narrowing b (fall_tells b c.args.room.fall c.args.term)) c.narrow_rise.ensures c.narrow_fall.ensures)

-- Where nothing is demanded of the sum, nothing is told.
use Rattle.std.proofs.Common.{List, refl, sym, subst}
use Rattle.std.specs.List.{zip, flat_map}
use Rattle.tells.specs.declared.tell.Tell.{Tell}
use Rattle.short_tells.specs.declared.short_terms.Room.{Room}
use Rattle.tells.specs.Hearing.{HearsAll}
use Rattle.sum_tells.specs.Linear.{Term}
use Rattle.tell_laws.specs.Narrowing.{narrowing}
use Rattle.short_tells.specs.ShortTells.{room_tells}
use Rattle.short_tells.proofs.ShortSumLaws.{none_told}
use Rattle.short_tells.proofs.short_terms.narrow_terms_to.Goals as goal

pub returns-in-None : goal.returns-in-None
returns-in-None g c =
    let b = c.args.b.now in
    let ts = zip c.args.coeffs.now c.args.vars.now in
    let P : Room → Type 0 = λ room. HearsAll g.H.Hear.hears c.args.h.now (flat_map (λ (t : Term). narrowing b (room_tells b room t)) ts) c.args.h.now in
    let Q : List Tell → Type 0 = λ us. HearsAll g.H.Hear.hears c.args.h.now us c.args.h.now in
    subst P (sym c.in-None.ensures) (subst Q (sym (none_told b ts)) refl)

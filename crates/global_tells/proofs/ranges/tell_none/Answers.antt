-- An empty list has no tells.
use Rattle.std.proofs.Common.{List, subst, sym, refl}
use Rattle.tells.specs.declared.tell.Tell.{Tell}
use Rattle.tells.specs.Hearing.{MayHearAll, HearsAll}
use Rattle.global_tells.proofs.PlaceLaws.{none_there, some_there, none_of_none, none_of_some}
use Rattle.global_tells.proofs.ranges.tell_none.Goals as goal

pub tell_no_number-requires : goal.tell_no_number-requires
tell_no_number-requires g c =
    let P : List Tell → Type 0 = λ ts. MayHearAll g.H.Hear.can_hear g.H.Hear.hears c.args.h.now ts in
    subst P (none_of_some c.args.xs.now (some_there c.args.xs.now _ c.is_empty.ensures c.if-is_empty.false)) c.requires

pub returns-then-is_empty : goal.returns-then-is_empty
returns-then-is_empty g c =
    let P : List Tell → Type 0 = λ ts. HearsAll g.H.Hear.hears c.args.h.now ts c.args.h.now in
    subst P (sym (none_of_none c.args.xs.now (none_there c.args.xs.now _ c.is_empty.ensures c.if-is_empty.true))) refl

pub returns : goal.returns
returns g c =
    let P : List Tell → Type 0 = λ ts. HearsAll g.H.Hear.hears c.args.h.now ts c.tell_no_number.new.h in
    subst P (sym (none_of_some c.args.xs.now (some_there c.args.xs.now _ c.is_empty.ensures c.if-is_empty.false))) c.tell_no_number.ensures

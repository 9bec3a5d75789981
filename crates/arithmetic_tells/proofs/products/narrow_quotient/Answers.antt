-- A factor that is seen to be quiet is told nothing that narrows.
use Rattle.std.proofs.Common.{◌≡◌, List, refl, sym, subst}
use Rattle.std.specs.List.{All}
use Rattle.tells.specs.declared.tell.Tell.{Tell}
use Rattle.tells.specs.Words.{Keeps}
use Rattle.tells.specs.Hearing.{HearsAll}
use Rattle.tell_laws.proofs.NarrowingLaws.{none_narrows}
use Rattle.arithmetic_tells.specs.Times.{range_of, excludes_zero, quotient_tells}
use Rattle.arithmetic_tells.proofs.Lists.{when-All}
use Rattle.arithmetic_tells.proofs.products.narrow_quotient.Goals as goal

pub returns-else-not-is_factor_seen_quiet : goal.returns-else-not-is_factor_seen_quiet
returns-else-not-is_factor_seen_quiet g c =
    let b = c.args.b.now in
    let ts = quotient_tells c.args.x (range_of b c.args.z) (range_of b c.args.y) in
    let kept : All (Keeps b) ts = when-All (Keeps b) (excludes_zero (range_of b c.args.y)) ts c.requires.y_not_zero c.if-not-is_factor_seen_quiet.ensures in
    let P : List Tell → Type 0 = λ us. HearsAll g.H.Hear.hears c.args.h.now us c.args.h.now in
    subst P (sym (none_narrows b ts kept)) refl

-- Where the sets say so there is nothing to tell.
use Rattle.std.proofs.Common.{List, sym, subst, refl}
use Rattle.tells.specs.declared.tell.Tell.{Tell}
use Rattle.tells.specs.Hearing.{HearsAll}
use Rattle.global_tells.proofs.all_different.tell_range_by_sets.Goals as goal

pub returns-else-not-is_untold : goal.returns-else-not-is_untold
returns-else-not-is_untold g c =
    let P : List Tell → Type 0 = λ ts. HearsAll g.H.Hear.hears c.args.h.now ts c.args.h.now in
    subst P (sym (c.if-not-is_untold.ensures c.args.xs.now c.requires.from c.requires.upto)) refl

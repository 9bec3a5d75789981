-- Where there is nothing to tell nothing is heard.
use Rattle.std.proofs.Common.{List, sym, subst, refl}
use Rattle.std.proofs.lemmas.Bool.{OnTrue_at}
use Rattle.tells.specs.declared.tell.Tell.{Tell}
use Rattle.tells.specs.Hearing.{HearsAll}
use Rattle.global_tells.proofs.halves.tell_unless.Goals as goal

pub returns-else-not-untold : goal.returns-else-not-untold
returns-else-not-untold g c =
    let P : List Tell → Type 0 = λ ts. HearsAll g.H.Hear.hears c.args.h.now ts c.args.h.now in
    subst P (sym (OnTrue_at c.if-not-untold.false c.requires.untold)) refl

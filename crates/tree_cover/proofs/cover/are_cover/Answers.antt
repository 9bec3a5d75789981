use Rattle.std.proofs.Common.{◌≡◌, length, false, true}
use Rattle.std.proofs.lemmas.Bool.{eq-eqb, eqb-true}
use Rattle.tree_cover.proofs.CoverLemmas.{covers, ends_there, no_cover}
use Rattle.tree_cover.proofs.cover.are_cover.Goals as goal

pub returns-in-Some : goal.returns-in-Some
returns-in-Some c =
    let parts = c.args.parts.now in
    let end = c.in-Some.end in
    let from = c.in-Some.ensures in
    ((λ yes. covers parts end from (eqb-true end (length parts) yes)), λ cover. eq-eqb end (length parts) (ends_there parts end from cover))

pub returns-in-None : goal.returns-in-None
returns-in-None c = ((λ yes. let e : false ≡ true = yes in absurd cc), λ cover. absurd (no_cover c.args.parts.now c.in-None.ensures cover))

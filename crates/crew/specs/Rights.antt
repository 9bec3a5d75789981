-- Rights to draw, as draws leave them. Each definition takes which right may be which other one, some draws later (`same`).
use Rattle.std.specs.Prelude.{List}
use Rattle.std.specs.List.{AllZip}

-- whatever right the one is later, the other is later too
abbrev pub KeepsSame : {N : Type 0} → (N → N → Type 0) → N → N → Type 0
KeepsSame same before after = (first : _) → same first before → same first after

-- these are rights that were dealt together (`are_dealt`), in the same order, each of them some draws later
pub record AreDrawn {N : Type 0} (are_dealt : List N → Type 0) (same : N → N → Type 0) (rights : List N) : Type 0 where
  pub before : List N
  pub dealt : are_dealt before
  pub later : AllZip (KeepsSame same) before rights

-- What is said of a free search's end, and follows from something else.
use Rattle.std.proofs.Common.{ℤ, List, Result, Ok, Err}
use Rattle.std.specs.Prelude.{IfOk}
use Rattle.free_search.specs.declared.ends.FreeEnd.{FreeEnd}
use Rattle.free_search.specs.declared.ends.FreeEnd.TheVariants.{Found, Refuted, GaveUp}
use Rattle.free_search.specs.Ends.{IfFound, IfRefuted}

pub map_found : {E : Type 0} {P Q : List ℤ → Type 0} (r : Result FreeEnd E) → ((a : List ℤ) → P a → Q a) → IfOk r (λ (e : FreeEnd). IfFound e P) → IfOk r (λ (e : FreeEnd). IfFound e Q)
map_found (Ok (Found a)) f h = f a h
map_found (Ok Refuted) f h = tt
map_found (Ok GaveUp) f h = tt
map_found (Err e) f h = tt

pub map_refuted : {E P Q : Type 0} (r : Result FreeEnd E) → (P → Q) → IfOk r (λ (e : FreeEnd). IfRefuted e P) → IfOk r (λ (e : FreeEnd). IfRefuted e Q)
map_refuted (Ok (Found a)) f h = tt
map_refuted (Ok Refuted) f h = f h
map_refuted (Ok GaveUp) f h = tt
map_refuted (Err e) f h = tt

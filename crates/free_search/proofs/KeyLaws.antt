-- Boxes with a lesser upper bound of a pair.
use Rattle.std.proofs.Common.{◌≡◌, ℕ, ℤ, ◌<◌, ◌≤ℤ◌, List, length, ap, sym, subst, ◌∙◌, arith}
use Rattle.std.proofs.lemmas.Int.{ints}
use Rattle.interval.specs.Boxes.{Bounds, low_of, high_of, put_of, IsInside, InsideOrder}
use Rattle.fixpoint_laws.specs.Changes.{TightensOne}
use Rattle.constraint_model.specs.declared.model.FznModel.{FznModel}
use Rattle.decompose.specs.Program.{fixed_box, extended}
use Rattle.solution_lists.specs.Solutions.{SolvesInside}
use Rattle.free_search.specs.Ends.{IsCutTo}

same_number : (x : ℤ) → x ≤ℤ x
same_number x = omega (arith, ints)

pub is_cut : TightensOne → (space old sub : Bounds) (pair : ℕ) (bound z y : ℤ) → old ≡ space → sub ≡ put_of old pair z y → z ≡ low_of space pair → y ≡ bound →
    pair < length space → bound ≤ℤ high_of space pair → IsCutTo space pair bound sub
is_cut tight space old sub pair bound z y copied put low high lt falls =
    let e : sub ≡ put_of space pair (low_of space pair) bound =
    put ∙ ap (λ (b : Bounds). put_of b pair z y) copied ∙ ap (λ (w : ℤ). put_of space pair w y) low ∙ ap (λ (w : ℤ). put_of space pair (low_of space pair) w) high in
    record {
      is = e;
      inside = subst (λ (b : Bounds). IsInside b space) (sym e)
          (tight.inside space pair (low_of space pair) bound (record { variable = lt; low_rises = same_number (low_of space pair); high_falls = falls }));
    }

pub solves_wider : InsideOrder → (model : FznModel) (sub space : Bounds) (a : List ℤ) → IsInside sub space → SolvesInside model sub a → SolvesInside model space a
solves_wider order model sub space a i s = record { solves = s.solves; inside = order.through (fixed_box (extended model a)) sub space s.inside i }

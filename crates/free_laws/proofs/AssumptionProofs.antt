-- The laws of assumptions.
use Rattle.std.proofs.Common.{ℕ, ◌<◌, List, [], ◌∷◌, sym, subst, inl, inr}
use Rattle.std.specs.List.{All, Contains}
use Rattle.std.proofs.lemmas.List.Elements.{All-nil, All-cons, All-head, All-tail}
use Rattle.interval.specs.Boxes.{Bounds, IsInside}
use Rattle.guarded_tell.specs.Words.{Tell, Keeps}
use Rattle.literals.specs.Literals.{Meets}
use Rattle.literals.specs.Laws.{LiteralLaws}
use Rattle.nogoods.specs.Laws.{NogoodLaws}
use Rattle.free_laws.specs.Assumptions.{IsUnder, AssumptionLaws}

holds_at : (p : Bounds) (ts : List Tell) (t : Tell) → Meets p ts → Contains ts t → Keeps p t
holds_at p ts t meets (k, h, e) = subst (Keeps p) e (meets k t h)

module _ (laws : LiteralLaws) where
  met_under : (space p : Bounds) (assumed : List Tell) (t : Tell) → IsInside p space → Meets p assumed → IsUnder space assumed t → Keeps p t
  met_under space p assumed t inside meets u = elim u.met [
    | inl kept ↦ laws.inside p space t u.variable inside kept
    | inr by ↦ laws.tighter p by.by t by.tight (holds_at p assumed by.by meets by.is_one)
  ]

  all_under : (space p : Bounds) (assumed literals : List Tell) → IsInside p space → Meets p assumed → All (IsUnder space assumed) literals → Meets p literals
  all_under space p assumed [] inside meets u = All-nil (Keeps p)
  all_under space p assumed (t ∷ ts) inside meets u =
      All-cons (Keeps p) t ts (met_under space p assumed t inside meets (All-head (IsUnder space assumed) t ts u))
      (all_under space p assumed ts inside meets (All-tail (IsUnder space assumed) t ts u))

one_met : (p : Bounds) (t : Tell) → Keeps p t → Meets p (t ∷ [])
one_met p t k = All-cons (Keeps p) t [] k (All-nil (Keeps p))

pub assumption_laws : LiteralLaws → NogoodLaws → AssumptionLaws
assumption_laws laws nogoods = record {
  under = λ kernels space assumed literals u n p s m. n p s (all_under laws space p assumed literals s.inside m u);
  refuted = λ kernels space b assumed holds none p s m. none p s (holds p s.inside m);
  alone = λ kernels space t h n p s i.
      laws.opposite p t (subst (λ (c : ℕ). t.var < c) (sym s.inside.same_length) h) s.is_point (λ k. n p s (one_met p t k));
  put = λ kernels space narrowed t inside holds all. record { inside = inside; kept = λ p s i. holds p s.inside (one_met p t (all p s i)) };
  onward = λ kernels space narrowed literals keeps n. nogoods.smaller kernels space narrowed literals keeps.inside n;
  back = λ kernels space narrowed literals keeps n p s m.
      n p (record { is_point = s.is_point; closed = s.closed; inside = keeps.kept p s s.inside }) m;
}

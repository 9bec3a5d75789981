-- What a node does to the stack, by what became of its settled box.
use Rattle.std.proofs.Common.{◌≡◌, ℕ, ℤ, inl, inr, List, [], ◌∷◌, ◌++◌, Option, sym, subst, ◌∙◌, refl, append-nil}
use Rattle.interval.specs.Boxes.{Bounds}
use Rattle.guarded_tell.specs.declared.kernel.Kernel.{Kernel}
use Rattle.fixpoint_laws.specs.Fixpoints.{IsGreatest, Fails}
use Rattle.constraint_model.specs.declared.model.FznModel.{FznModel}
use Rattle.branching.specs.Tree.{values_of}
use Rattle.narrowing.specs.declared.narrowed.Narrowed.{Narrowed}
use Rattle.moved_fixpoint.specs.Sweeps.{SpendsSweeps}
use Rattle.narrowing.specs.Narrowing.{IsNarrowed, MayGiveUp}
use Rattle.search.specs.declared.kind.Kind.{Kind}
use Rattle.search.specs.declared.node.Visit.{Visit}
use Rattle.search.specs.Machine.{IsWithinRounds, is_dropped, is_solved, is_parted, cut_by}
use Rattle.search.specs.Nodes.{IsSettled, IsNode, IsGivenUp, IsTopVisit}

module _ (model : FznModel) (kernels : List Kernel) (round_limit lanes : ℕ) (top : Bounds) (before : List Bounds) (found : List (List ℤ))
    (unspent : lanes ≡ 1 → SpendsSweeps kernels round_limit top → ⊥) where
  pub node_dropped : Fails top kernels → IsNode model kernels round_limit lanes top before before found found
  node_dropped fails = record {
    back = [];
    recorded = [];
    node = is_dropped model kernels round_limit top [] [] fails refl refl;
    unspent = unspent;
    stack = sym (append-nil before);
    solutions = sym (append-nil found);
  }

  pub node_settled : (g : Bounds) (after : List Bounds) (more : List (List ℤ)) → IsGreatest g top kernels → IsWithinRounds kernels round_limit top → IsSettled model g before after found more →
      IsNode model kernels round_limit lanes top before after found more
  node_settled g after more gr few (inl (all, (e, k))) = record {
    back = [];
    recorded = values_of model g ∷ [];
    node = is_solved model kernels round_limit top [] (values_of model g ∷ []) g gr few all (refl {a = []}) (refl {a = values_of model g ∷ []});
    unspent = unspent;
    stack = e ∙ sym (append-nil before);
    solutions = k;
  }
  node_settled g after more gr few (inr (p, k)) = record {
    back = p.right ∷ p.left ∷ [];
    recorded = [];
    node = is_parted model kernels round_limit top (p.right ∷ p.left ∷ []) [] g p.left p.right gr few p.branch (refl {a = p.right ∷ p.left ∷ []}) refl;
    unspent = unspent;
    stack = p.stack;
    solutions = k ∙ sym (append-nil found);
  }

-- ---- the next box of a stack

module _ (model : FznModel) (kernels : List Kernel) (round_limit lanes : ℕ) (best : Option ℤ) (before rest after : List Bounds) (top cut : Bounds) (found more : List (List ℤ))
    (taken : before ≡ rest ++ top ∷ []) (is_cut : cut ≡ cut_by Kind.Least model.goal best top) where
  pub top_dropped : (lanes ≡ 1 → SpendsSweeps kernels round_limit cut → ⊥) → Fails cut kernels → after ≡ rest → more ≡ found → IsTopVisit model kernels round_limit lanes best before after found more Visit.Done
  top_dropped unspent fails e f = record {
    rest = rest;
    top = top;
    taken = taken;
    visit = subst (λ (b : Bounds). IsNode model kernels round_limit lanes b rest after found more) is_cut
        (subst (λ (bs : List Bounds). IsNode model kernels round_limit lanes cut rest bs found more) (sym e)
        (subst (λ (xs : List (List ℤ)). IsNode model kernels round_limit lanes cut rest rest found xs) (sym f) (node_dropped model kernels round_limit lanes cut rest found unspent fails)));
  }

  pub top_settled : (lanes ≡ 1 → SpendsSweeps kernels round_limit cut → ⊥) → (g : Bounds) → IsGreatest g cut kernels → IsWithinRounds kernels round_limit cut → IsSettled model g rest after found more → IsTopVisit model kernels round_limit lanes best before after found more Visit.Done
  top_settled unspent g gr few h = record {
    rest = rest;
    top = top;
    taken = taken;
    visit = subst (λ (b : Bounds). IsNode model kernels round_limit lanes b rest after found more) is_cut (node_settled model kernels round_limit lanes cut rest found unspent g after more gr few h);
  }

  pub top_given_up : MayGiveUp kernels round_limit cut → (lanes ≡ 1 → SpendsSweeps kernels round_limit cut) → more ≡ found → IsTopVisit model kernels round_limit lanes best before after found more Visit.GivenUp
  top_given_up up spent f = record {
    rest = rest;
    top = top;
    taken = taken;
    visit = (subst (IsGivenUp kernels round_limit lanes) is_cut (record { given_up = up; spent = spent }), f);
  }

-- what a box was narrowed by is within the limit on rounds
pub within_rounds : (kernels : List Kernel) (round_limit : ℕ) (before after : Bounds) (rounds : ℕ) →
    IsNarrowed kernels round_limit before after (Narrowed.Fixed rounds) → IsWithinRounds kernels round_limit before
within_rounds kernels round_limit before after rounds h = record { rounds = rounds; in_one = h.1; few = h.2 }

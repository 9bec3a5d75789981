-- Kernels that are run one after another on a box, and rounds of them.
use Rattle.std.proofs.Common.{◌≡◌, ◌≢◌, ℕ, ◌+◌, ◌<◌, ◌≤◌, Bool, true, false, List, length, get_or, take, arith, sym, refl, ◌∙◌, subst}
use Rattle.std.specs.List.{All}
use Rattle.std.proofs.lemmas.Int.{ints}
use Rattle.std.proofs.lemmas.List.{take_all}
use Rattle.std.proofs.lemmas.Bool.{true≢false}
use Rattle.std.proofs.lemmas.List.Elements.{All-nil, All-more}
use Rattle.interval.specs.Boxes.{Bounds, IsInside, IsProper, IsCrossed, InsideOrder}
use Rattle.guarded_tell.specs.declared.kernel.Kernel.{Kernel}
use Rattle.guarded_tell.specs.Kernels.{IsClosedUnder}
use Rattle.fixpoint_laws.specs.Fixpoints.{IsClosed, IsGreatest, Fails}
use Rattle.fixpoint_laws.specs.Rounds.{HasRun, HaveRun}

module _ (order : InsideOrder) (kernels : List Kernel) where
  pub none_run : (a : Bounds) → HaveRun kernels a a
  none_run a = record { inside = order.itself a; keeps_closed = λ c closed i. i }

  pub one_more : (a b c : Bounds) (i : ℕ) (k : Kernel) → i < length kernels → k ≡ get_or kernels i k →
      HaveRun kernels a b → HasRun k b c → HaveRun kernels a c
  one_more a b c i k h e r s = record {
    inside = order.through c b a s.inside r.inside;
    keeps_closed = λ x closed j. s.keeps_closed x closed.proper
        (subst (λ (l : Kernel). IsClosedUnder l x) (sym e) (closed.quiet i k h)) (r.keeps_closed x closed j);
  }

  pub rounds_more : (a b c : Bounds) → HaveRun kernels a b → HaveRun kernels b c → HaveRun kernels a c
  rounds_more a b c r s = record {
    inside = order.through c b a s.inside r.inside;
    keeps_closed = λ x closed j. s.keeps_closed x closed (r.keeps_closed x closed j);
  }

  -- a box that moved isn't the first one again
  pub stays_moved : (a b c : Bounds) → IsInside b a → IsInside c b → b ≢ a → c ≢ a
  stays_moved a b c i j ne e = ne (order.equal b a i (subst (λ (x : Bounds). IsInside x b) e j))

  pub moves_on : (a b c : Bounds) → IsInside b a → IsInside c b → c ≢ b → c ≢ a
  moves_on a b c i j ne e = ne (e ∙ sym (order.equal b a i (subst (λ (x : Bounds). IsInside x b) e j)))

  pub fixed : (a b : Bounds) → HaveRun kernels a b → IsClosed b kernels → IsGreatest b a kernels
  fixed a b r closed = record { closed = closed; inside = r.inside; greatest = r.keeps_closed }

  pub failed : (a b : Bounds) → HaveRun kernels a b → IsCrossed b → Fails a kernels
  failed a b r (v, h, x) c closed i =
      let f = order.outer_is_proper c b closed.proper (r.keeps_closed c closed i) v h in omega (arith, ints)

  -- a closed start is where every round leaves it
  pub closed_stays : (a b : Bounds) → HaveRun kernels a b → IsClosed a kernels → b ≡ a
  closed_stays a b r closed = order.equal b a r.inside (r.keeps_closed a closed (order.itself a))

-- where a round stands after some of its kernels
pub record Stands (kernels : List Kernel) (a : Bounds) (done : ℕ) (b : Bounds) (mark : Bool) : Type 0 where
  pub run : HaveRun kernels a b
  pub still : mark ≡ false → b ≡ a
  pub closed : mark ≡ false → IsProper a → All (λ k. IsClosedUnder k a) (take done kernels)
  pub moves : mark ≡ true → b ≢ a

-- before the first kernel
pub stands_first : (order : InsideOrder) (kernels : List Kernel) (a : Bounds) → Stands kernels a 0 a false
stands_first order kernels a = record {
  run = none_run order kernels a;
  still = λ f. refl;
  closed = λ f p. All-nil (λ (k : Kernel). IsClosedUnder k a);
  moves = λ f. absurd (true≢false (sym f));
}

-- after the last
pub stands_last : (kernels : List Kernel) (a b : Bounds) (i : ℕ) (m : Bool) → Stands kernels a i b m → length kernels ≤ i →
    m ≡ false → IsProper a → IsClosed a kernels
stands_last kernels a b i m s h f p = record {
  proper = p;
  quiet = subst (λ (ks : List Kernel). All (λ k. IsClosedUnder k a) ks) (take_all i kernels h) (s.closed f p);
}

module _ (order : InsideOrder) (kernels : List Kernel) (a b c : Bounds) (i : ℕ) (k : Kernel) (m : Bool)
    (h : i < length kernels) (e : k ≡ get_or kernels i k) (s : Stands kernels a i b m) (r : HasRun k b c) where
  pub stands_moved : c ≢ b → Stands kernels a (i + 1) c true
  stands_moved ne = record {
    run = one_more order kernels a b c i k h e s.run r;
    still = λ f. absurd (true≢false f);
    closed = λ f. absurd (true≢false f);
    moves = λ f. moves_on order kernels a b c s.run.inside r.inside ne;
  }

  pub stands_still : c ≡ b → (IsProper b → IsClosedUnder k b) → Stands kernels a (i + 1) c m
  stands_still same closed = record {
    run = one_more order kernels a b c i k h e s.run r;
    still = λ f. same ∙ s.still f;
    closed = λ f p. All-more (λ (l : Kernel). IsClosedUnder l a) kernels i k h (s.closed f p)
        (subst (λ (l : Kernel). IsClosedUnder l a) e
        (subst (λ (x : Bounds). IsClosedUnder k x) (s.still f) (closed (subst (λ (x : Bounds). IsProper x) (sym (s.still f)) p))));
    moves = λ f g. s.moves f (sym same ∙ g);
  }

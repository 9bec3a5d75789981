-- Copies of the domains of a kernel's variables, one after another.
use Rattle.std.proofs.Common.{◌≡◌, ◌≢◌, ℕ, ℤ, pos, ◌+◌, ◌<◌, ◌≤◌, ◌≤ℤ◌, ◌<ℤ◌, List, length, get_or, set, sym, ap, subst, ◌∙◌, arith, inl, inr}
use Rattle.std.proofs.lemmas.Int.{ints}
use Rattle.std.proofs.lemmas.Bool.{cases_eq}
use Rattle.std.proofs.lemmas.List.{get_or-set_same, get_or-set_other}
use borrow.Author.Count.{below_more}
use Rattle.interval.specs.Boxes.{Bounds, low_of, high_of, put_of}
use Rattle.guarded_tell.specs.Words.{IsProperIn}
use Rattle.bit_domain.specs.declared.dom.Dom.{Dom}
use Rattle.bit_domain.specs.Mixes.{Mix, dom_of, hull, hull_of}
use Rattle.mix_rounds.specs.Steps.{IsSnapshot}
use Rattle.mix_rounds.proofs.MixLaws.{dom_put, dom_other, length_put, low_at, high_at}

-- the copies of variable w: its domain, and of that one the bounds
pub record IsCopied (seen m : Mix) (b : Bounds) (w : ℕ) : Type 0 where
  pub dom : dom_of m w ≡ dom_of seen w
  pub low : low_of b w ≡ low_of (hull seen) w
  pub high : high_of b w ≡ high_of (hull seen) w
  pub inside : w < length m
  pub within : w < length seen

-- the copies of the first variables, of each of which a number is left
pub record Copied (vars : List ℕ) (done : ℕ) (seen m : Mix) (b : Bounds) : Type 0 where
  pub proper : (i : ℕ) → i < done → low_of b (get_or vars i 0) ≤ℤ high_of b (get_or vars i 0)
  pub agree : (i : ℕ) → i < done → IsCopied seen m b (get_or vars i 0)

pub copied_none : (vars : List ℕ) (seen m : Mix) (b : Bounds) → Copied vars 0 seen m b
copied_none vars seen m b = record { proper = λ i h. absurd (omega arith); agree = λ i h. absurd (omega arith) }

module _ (seen later m : Mix) (b : Bounds) (v : ℕ) (low high : ℤ) (mh : v < length m) (bh : v < length b) (sh : v < length seen)
    (l : low ≡ low_of (hull later) v) (h : high ≡ high_of (hull later) v) (step : later ≡ set seen v (dom_of later v)) where
  size : length later ≡ length seen
  size = ap length step ∙ length_put seen v (dom_of later v)

  here : IsCopied later (set m v (dom_of later v)) (put_of b v low high) v
  here = record {
    dom = dom_put m v (dom_of later v) mh;
    low = ap (λ (p : ℤ × ℤ). p.0) (get_or-set_same b v (low, high) (pos 0, pos 0) bh) ∙ l;
    high = ap (λ (p : ℤ × ℤ). p.1) (get_or-set_same b v (low, high) (pos 0, pos 0) bh) ∙ h;
    inside = omega (arith, length_put m v (dom_of later v));
    within = omega (arith, size);
  }

  other : (w : ℕ) → w ≢ v → IsCopied seen m b w → IsCopied later (set m v (dom_of later v)) (put_of b v low high) w
  other w ne c =
      let same : dom_of later w ≡ dom_of seen w = ap (λ (x : Mix). dom_of x w) step ∙ dom_other seen v (dom_of later v) w ne in
      let kept : get_or (put_of b v low high) w (pos 0, pos 0) ≡ get_or b w (pos 0, pos 0) = get_or-set_other b v w (low, high) (pos 0, pos 0) ne in
      let within : w < length later = omega (arith, size, c.within) in
      record {
        dom = dom_other m v (dom_of later v) w ne ∙ c.dom ∙ sym same;
        low = ap (λ (p : ℤ × ℤ). p.0) kept ∙ c.low ∙ low_at seen w c.within ∙ ap (λ (d : Dom). (hull_of d).0) (sym same) ∙ sym (low_at later w within);
        high = ap (λ (p : ℤ × ℤ). p.1) kept ∙ c.high ∙ high_at seen w c.within ∙ ap (λ (d : Dom). (hull_of d).1) (sym same) ∙ sym (high_at later w within);
        inside = omega (arith, length_put m v (dom_of later v), c.inside);
        within = within;
      }

  each : (w : ℕ) → IsCopied seen m b w → IsCopied later (set m v (dom_of later v)) (put_of b v low high) w
  each w c = elim (cases_eq w v) [
    | inl q ↦ subst (λ (x : ℕ). IsCopied later (set m v (dom_of later v)) (put_of b v low high) x) (sym q) here
    | inr ne ↦ other w ne c
  ]

  bounds_at : (w : ℕ) → low ≤ℤ high → low_of b w ≤ℤ high_of b w → low_of (put_of b v low high) w ≤ℤ high_of (put_of b v low high) w
  bounds_at w le p = elim (cases_eq w v) [
    | inl q ↦ subst (λ (x : ℕ). low_of (put_of b v low high) x ≤ℤ high_of (put_of b v low high) x) (sym q) (omega (arith, ints, le, here.low, here.high, l, h))
    | inr ne ↦
        let kept : get_or (put_of b v low high) w (pos 0, pos 0) ≡ get_or b w (pos 0, pos 0) = get_or-set_other b v w (low, high) (pos 0, pos 0) ne in
        omega (arith, ints, p, ap (λ (z : ℤ × ℤ). z.0) kept, ap (λ (z : ℤ × ℤ). z.1) kept)
  ]

  -- one more variable, after the seat has seen more of it
  pub copied_more : (vars : List ℕ) (done : ℕ) → v ≡ get_or vars done 0 → low ≤ℤ high → Copied vars done seen m b → Copied vars (done + 1) later (set m v (dom_of later v)) (put_of b v low high)
  copied_more vars done e le c = record {
    proper = below_more (λ i. low_of (put_of b v low high) (get_or vars i 0) ≤ℤ high_of (put_of b v low high) (get_or vars i 0)) done
        (λ i k. bounds_at (get_or vars i 0) le (c.proper i k))
        (subst (λ (w : ℕ). low_of (put_of b v low high) w ≤ℤ high_of (put_of b v low high) w) e (omega (arith, ints, le, here.low, here.high, l, h)));
    agree = below_more (λ i. IsCopied later (set m v (dom_of later v)) (put_of b v low high) (get_or vars i 0)) done
        (λ i k. each (get_or vars i 0) (c.agree i k))
        (subst (λ (w : ℕ). IsCopied later (set m v (dom_of later v)) (put_of b v low high) w) e here);
  }

-- all variables
pub copied_all : (vars : List ℕ) (done : ℕ) (seen m : Mix) (b : Bounds) → length vars ≤ done → Copied vars done seen m b → IsSnapshot vars seen m b
copied_all vars done seen m b h c = record {
  proper = λ i k. c.proper i (omega arith);
  agree = record { doms = λ i k. (c.agree i (omega arith)).dom };
  bounds = record {
    lows = λ i k. let a = c.agree i (omega arith) in a.low ∙ low_at seen (get_or vars i 0) a.within ∙ ap (λ (d : Dom). (hull_of d).0) (sym a.dom) ∙ sym (low_at m (get_or vars i 0) a.inside);
    highs = λ i k. let a = c.agree i (omega arith) in a.high ∙ high_at seen (get_or vars i 0) a.within ∙ ap (λ (d : Dom). (hull_of d).1) (sym a.dom) ∙ sym (high_at m (get_or vars i 0) a.inside);
  };
}

-- a box that is crossed in a kernel's variable isn't proper in them
pub crossed_in : (vars : List ℕ) (i v : ℕ) (b : Bounds) → i < length vars → v ≡ get_or vars i 0 → high_of b v <ℤ low_of b v → IsProperIn vars b → ⊥
crossed_in vars i v b h e c p =
    let q : low_of b v ≤ℤ high_of b v = subst (λ (w : ℕ). low_of b w ≤ℤ high_of b w) (sym e) (p i h) in omega (arith, ints)

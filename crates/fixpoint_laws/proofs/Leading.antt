-- Lists of rounds: how they begin and go on, and that each round makes the widths fall.
use Rattle.std.proofs.Common.{ℕ, zero, suc, ◌+◌, ◌≤◌, List, arith, refl, subst, sym, add-one}
use Rattle.interval.specs.Boxes.{Bounds, IsInside, IsProper, InsideOrder, width_sum_of}
use Rattle.guarded_tell.specs.declared.kernel.Kernel.{Kernel}
use Rattle.fixpoint_laws.specs.OneRound.{IsOneRound, LeadsIn, RoundsLead}

leads_none : (kernels : List Kernel) (a : Bounds) → LeadsIn kernels 0 a a
unfolding LeadsIn
leads_none kernels a = refl

leads_suc : (kernels : List Kernel) (rounds : ℕ) (a b c : Bounds) → LeadsIn kernels rounds a b → IsOneRound kernels b c →
    LeadsIn kernels (suc rounds) a c
unfolding LeadsIn
leads_suc kernels rounds a b c l r = (b, l, r)

leads_more : (kernels : List Kernel) (rounds : ℕ) (a b c : Bounds) → LeadsIn kernels rounds a b → IsOneRound kernels b c →
    LeadsIn kernels (rounds + 1) a c
leads_more kernels rounds a b c l r =
    subst (λ (n : ℕ). LeadsIn kernels n a c) (sym (add-one rounds)) (leads_suc kernels rounds a b c l r)

leads_inside : InsideOrder → (kernels : List Kernel) (rounds : ℕ) (a c : Bounds) → LeadsIn kernels rounds a c → IsInside c a
unfolding LeadsIn
leads_inside order kernels zero a c e = subst (λ (x : Bounds). IsInside x a) e (order.itself a)
leads_inside order kernels (suc rounds) a c (b, l, r) =
    order.through c b a r.inside (leads_inside order kernels rounds a b l)

leads_widths : InsideOrder → (kernels : List Kernel) (rounds : ℕ) (a c : Bounds) → LeadsIn kernels rounds a c → IsProper c →
    rounds + width_sum_of c ≤ width_sum_of a
unfolding LeadsIn
leads_widths order kernels zero a c e p = subst (λ (x : Bounds). 0 + width_sum_of x ≤ width_sum_of a) e (omega arith)
leads_widths order kernels (suc rounds) a c (b, l, r) p =
    let before = leads_widths order kernels rounds a b l (order.outer_is_proper c b p r.inside) in
    let falls = order.narrower c b p r.inside (λ e. r.moved (sym e)) in
    omega arith

pub rounds_lead : InsideOrder → RoundsLead
rounds_lead order = record {
  none = leads_none;
  more = leads_more;
  inside = leads_inside order;
  widths = leads_widths order;
}

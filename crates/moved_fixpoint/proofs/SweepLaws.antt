-- Sweeps are a function: so many of them lead to one box.
use Rattle.std.proofs.Common.{◌≡◌, ◌≢◌, ◌∙◌, ap, sym, subst, ℕ, zero, suc, ◌<◌, ◌≤◌, List, Some, inl, inr, arith}
use Rattle.std.proofs.lemmas.Bool.{cases_eq}
use Rattle.std.proofs.lemmas.Option.{none-some, same_Some}
use Rattle.interval.specs.Boxes.{Bounds, IsProper}
use Rattle.guarded_tell.specs.declared.kernel.Kernel.{Kernel}
use Rattle.fixpoint_laws.specs.declared.limited.Limited.TheVariants.{Failed}
use Rattle.moved_fixpoint.specs.Sweeps.{sweep, SweepsLead, HasSwept, SpendsSweeps, SweepsDecide}
use Rattle.moved_fixpoint.proofs.WithTells.{not_both}

module _ (kernels : List Kernel) (a : Bounds) where
  one_box : (n : ℕ) (x y : Bounds) → SweepsLead kernels n a x → SweepsLead kernels n a y → x ≡ y
  unfolding SweepsLead
  one_box zero x y e f = sym e ∙ f
  one_box (suc n) x y (b, lead, step, moves) (c, lead', step', moves') =
      same_Some x y (sym step ∙ ap (sweep n kernels) (one_box n b c lead lead') ∙ step')

  -- fewer sweeps lead from the same start
  abbrev Onward : ℕ → Type 0
  Onward n = (b : Bounds) × (c : Bounds) × SweepsLead kernels n a b × (sweep n kernels b ≡ Some c) × (b ≢ c)

  onward : (n m : ℕ) (into : Bounds) → n < m → SweepsLead kernels m a into → Onward n
  unfolding SweepsLead
  onward n zero into h lead = absurd (omega arith)
  onward n (suc m) into h (b, lead, step, moves) = elim (cases_eq n m) [
    | inl e ↦ subst Onward (sym e) (b, into, lead, step, moves)
    | inr ne ↦ onward n m b (omega arith) lead
  ]

  -- the sweep behind so many others moves the box
  next_moves : (n limit : ℕ) (x : Bounds) → suc n ≤ limit → SweepsLead kernels n a x → SpendsSweeps kernels limit a → (c : Bounds) × (sweep n kernels x ≡ Some c) × (x ≢ c)
  next_moves n limit x h lead spends =
      let on = onward n limit spends.into (omega arith) spends.lead in
      let same = one_box n on.0 x on.2 lead in
      (on.1, ap (sweep n kernels) (sym same) ∙ on.3, λ e. on.4 (same ∙ e))

pub sweeps_decide : SweepsDecide
sweeps_decide = record {
  fixed = λ kernels limit rounds start after h swept spends.
      let next = next_moves kernels start swept.0 limit after (subst (λ (r : ℕ). r ≤ limit) swept.1 h) swept.2 spends in
      next.2 (same_Some after next.0 (sym swept.3 ∙ next.1));
  failed = λ kernels limit rounds start after proper h swept spends. fails kernels limit rounds start after proper h swept spends;
} where
  fails : (kernels : List Kernel) (limit rounds : ℕ) (start after : Bounds) → IsProper start → rounds ≤ limit → HasSwept kernels start after (Failed rounds) → SpendsSweeps kernels limit start → ⊥
  fails kernels limit rounds start after proper h (inl crossed) spends = not_both start crossed proper
  fails kernels limit rounds start after proper h (inr (n, last, is, lead, none)) spends =
      let next = next_moves kernels start n limit last (subst (λ (r : ℕ). r ≤ limit) is h) lead spends in
      none-some next.0 (sym none ∙ next.1)

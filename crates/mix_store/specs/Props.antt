-- That facts of a seat have one proof at most.
use Rattle.std.specs.Prelude.{ℕ, ℤ, zero, suc, ◌≡◌, ◌^◌, ◌<◌, ◌≤ℤ◌}
use mathlib.Core.Path.{refl}
use mathlib.Core.HLevel.{⊥_prop, ×₃_prop}
use lib.Dec.{T_prop}
use lib.Signed.{le_z}
use Rattle.std.specs.Coded.{×_prop, Π_prop, →_prop, le_prop, Coded, code_by, coded_ℕ, coded_ℤ, Coded-set}
use Rattle.bit_domain.specs.declared.dom.Dom.{Dom}
use Rattle.bit_domain.specs.declared.dom.Dom.TheVariants.{Bits, Pair}
use Rattle.bit_domain.specs.Mixes.{IsDomInRange, IsInsideDom}
use Rattle.mix_store.specs.declared.table.WordKind.{WordKind}
use Rattle.mix_store.specs.declared.table.WordKind.TheVariants.{Set, Low, High}

abbrev kind_number : WordKind → ℕ
kind_number Set = 0
kind_number Low = 1
kind_number High = 2

abbrev numbered_kind : ℕ → WordKind
numbered_kind zero = Set
numbered_kind (suc zero) = Low
numbered_kind (suc (suc n)) = High

pub kind_again : (kind : WordKind) → numbered_kind (kind_number kind) ≡ kind
kind_again Set = refl
kind_again Low = refl
kind_again High = refl

abbrev pub coded_kind : Coded WordKind
coded_kind = code_by ℕ coded_ℕ kind_number numbered_kind kind_again

below-prop : (n m : ℕ) → IsProp (n < m)
below-prop n m = le_prop {n = suc n} {m = m}

pub IsDomInRange-prop : (d : Dom) → IsProp (IsDomInRange d)
IsDomInRange-prop (Bits base set) = ×₃_prop le_prop (below-prop set (2 ^ 64)) (Π_prop (λ i. →_prop le_prop))
IsDomInRange-prop (Pair low high) = ×_prop le_prop le_prop

≤ℤ-prop : (a b : ℤ) → IsProp (a ≤ℤ b)
≤ℤ-prop a b x y i = record { le = T_prop (le_z a b) x.le y.le i }

pub IsInsideDom-prop : (inner outer : Dom) → IsProp (IsInsideDom inner outer)
IsInsideDom-prop (Bits base set) (Bits outer_base outer) = ×_prop (Coded-set coded_ℤ base outer_base) (Π_prop (λ i. le_prop))
IsInsideDom-prop (Bits base set) (Pair low high) = ⊥_prop
IsInsideDom-prop (Pair low high) (Bits base set) = ⊥_prop
IsInsideDom-prop (Pair low high) (Pair outer_low outer_high) = ×_prop (≤ℤ-prop outer_low low) (≤ℤ-prop high outer_high)

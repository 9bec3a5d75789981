-- No sweep moves a crossed box: a limit on rounds isn't spent on one.
use Rattle.std.proofs.Common.{◌≡◌, ◌≢◌, ℕ, zero, suc, ℤ, ◌<◌, ◌≤ℤ◌, ◌<ℤ◌, Bool, true, false, cond, ◌||◌, List, [], ◌∷◌, length, Option, Some, None, refl, sym, ap, subst, ◌∙◌, arith}
use Rattle.std.specs.Prelude.{int_lt}
use Rattle.std.specs.Option.{option_and_then}
use Rattle.std.proofs.lemmas.Int.{ints}
use Rattle.interval.specs.Boxes.{Bounds, low_of, high_of, put_of, IsInside, IsCrossed}
use Rattle.guarded_tell.specs.declared.kernel.Kernel.{Kernel}
use Rattle.guarded_tell.specs.Words.{Tell, Side, Low, High}
use Rattle.guarded_tell.specs.Kernels.{tells}
use Rattle.fixpoint_laws.specs.Greatest.{is_crossed_box}
use Rattle.moved_fixpoint.specs.Sweeps.{with_tell, with_tells, after_kernel, sweep_forth, sweep_back, sweep_by, is_forth, SweepsLead, SpendsSweeps}
use Rattle.search.proofs.BoxLaws.{itself, inside_through, put_inside}
use Rattle.search.proofs.SearcherLaws.{crossed_inside}

le_itself : (x : ℤ) → x ≤ℤ x
le_itself x = omega (arith, ints)

crossed_test : (b : Bounds) → IsCrossed b → is_crossed_box b ≡ true
unfolding is_crossed_box
crossed_test [] (v, h, lt) = absurd (omega (arith, h))
crossed_test (p ∷ b) (v, h, lt) = case (crossed_test b) (int_lt p.1 p.0) v refl h lt
  where
    case : (IsCrossed b → is_crossed_box b ≡ true) → (t : Bool) (v : ℕ) → int_lt p.1 p.0 ≡ t → v < length (p ∷ b) → high_of (p ∷ b) v <ℤ low_of (p ∷ b) v →
        (t || is_crossed_box b) ≡ true
    case later true v e h lt = refl
    case later false zero e h lt = absurd (omega (arith, ints, e, lt))
    case later false (suc v) e h lt = later (v, omega (arith, h), lt)

tell_inside : (b : Bounds) (side : Side) (v : ℕ) (z : ℤ) → IsInside (with_tell b (record { side = side; var = v; bound = z })) b
tell_inside b Low v z = case (int_lt (low_of b v) z) refl
  where
    case : (t : Bool) → int_lt (low_of b v) z ≡ t → IsInside (cond t (put_of b v z (high_of b v)) b) b
    case true e = put_inside b v z (high_of b v) (omega (arith, ints, e)) (le_itself (high_of b v))
    case false e = itself b
tell_inside b High v z = case (int_lt z (high_of b v)) refl
  where
    case : (t : Bool) → int_lt z (high_of b v) ≡ t → IsInside (cond t (put_of b v (low_of b v) z) b) b
    case true e = put_inside b v (low_of b v) z (le_itself (low_of b v)) (omega (arith, ints, e))
    case false e = itself b

tells_inside : (ts : List Tell) (b : Bounds) → IsInside (with_tells b ts) b
tells_inside [] b = itself b
tells_inside (t ∷ ts) b =
    inside_through (with_tells (with_tell b t) ts) (with_tell b t) b (tells_inside ts (with_tell b t)) (tell_inside b t.side t.var t.bound)

kernel_fails : (k : Kernel) (b : Bounds) → IsCrossed b → after_kernel k b ≡ None
kernel_fails k b crossed =
    let c = with_tells b (tells k b) in
    ap (λ (t : Bool). cond t None (Some c)) (crossed_test c (crossed_inside c b (tells_inside (tells k b) b) crossed))

-- a sweep of a crossed box leaves it where there are no kernels, and fails where there are some
abbrev FailsOrStays : Bounds → Option Bounds → Type 0
FailsOrStays b None = Unit {0}
FailsOrStays b (Some c) = b ≡ c

forth_fails : (kernels : List Kernel) (b : Bounds) → IsCrossed b → FailsOrStays b (sweep_forth kernels b)
unfolding sweep_forth
forth_fails [] b crossed = refl
forth_fails (k ∷ ks) b crossed =
    subst (λ (o : Option Bounds). FailsOrStays b (option_and_then (sweep_forth ks) o)) (sym (kernel_fails k b crossed)) tt

back_fails : (kernels : List Kernel) (b : Bounds) → IsCrossed b → FailsOrStays b (sweep_back kernels b)
unfolding sweep_back
back_fails [] b crossed = refl
back_fails (k ∷ ks) b crossed = case (sweep_back ks b) (back_fails ks b crossed)
  where
    case : (o : Option Bounds) → FailsOrStays b o → FailsOrStays b (option_and_then (after_kernel k) o)
    case None h = tt
    case (Some c) h = subst (FailsOrStays b) (sym (ap (after_kernel k) (sym h) ∙ kernel_fails k b crossed)) tt

sweep_fails : (forth : Bool) (kernels : List Kernel) (b : Bounds) → IsCrossed b → FailsOrStays b (sweep_by forth kernels b)
sweep_fails true kernels b crossed = forth_fails kernels b crossed
sweep_fails false kernels b crossed = back_fails kernels b crossed

none_lead : (kernels : List Kernel) (n : ℕ) (a c : Bounds) → IsCrossed a → SweepsLead kernels (suc n) a c → ⊥
unfolding SweepsLead
none_lead kernels zero a c crossed (b, lead, swept, moved) =
    let same = subst (FailsOrStays b) swept (sweep_fails (is_forth 0) kernels b (subst IsCrossed lead crossed)) in
    moved same
none_lead kernels (suc n) a c crossed (b, lead, swept, moved) = none_lead kernels n a b crossed lead

pub crossed_unspent : (kernels : List Kernel) (limit : ℕ) (b : Bounds) → IsCrossed b → SpendsSweeps kernels limit b → ⊥
crossed_unspent kernels limit b crossed h = by_limit limit h.limited h.lead
  where
    by_limit : (n : ℕ) → n ≢ 0 → SweepsLead kernels n b h.into → ⊥
    by_limit zero some lead = some refl
    by_limit (suc n) some lead = none_lead kernels n b h.into crossed lead

-- A clause of two literals that aren't out, or of one that is sure, narrows nothing.
use Rattle.std.proofs.Common.{◌≡◌, ℕ, zero, suc, ◌<◌, ◌≤◌, min, List, [], ◌∷◌, length, get_or, true, false, cond, eqb, refl, sym, subst, arith}
use Rattle.std.proofs.lemmas.Bool.{eqb-true}
use Rattle.std.proofs.lemmas.List.Elements.{All-nil}
use Rattle.std.specs.List.{All}
use Rattle.tells.specs.declared.tell.Lit.{Lit}
use Rattle.tells.specs.declared.tell.Tell.{Tell}
use Rattle.interval.specs.Limits.{ClampOrder}
use Rattle.interval.specs.Boxes.{Bounds}
use Rattle.guarded_tell.specs.Words.{Keeps, is_sure, is_out, tell_true}
use Rattle.clause_tells.specs.Clause.{clause_tells, sole_tell}
use Rattle.tell_laws.proofs.Lists.{All-one, All-flat_map, All-when}
use Rattle.tell_laws.proofs.LiteralLaws.{by_bool}
use Rattle.clause_tells.proofs.ClauseTells.{left_of, left_more, clause_by_count, clause_of_many}
use Rattle.small_sums.proofs.QuietLaws.{sure_keeps, not_sure}

-- a literal that isn't out is counted
counted : (b : Bounds) (l : Lit) → is_out l b ≡ false → ◌≡◌ {A = ℕ} (cond (is_out l b) 0 1) 1
counted b l e = (λ i. cond (e i) 0 1)

one_left : (b : Bounds) (ls : List Lit) (i : ℕ) (d : Lit) → i < length ls → is_out (get_or ls i d) b ≡ false → 1 ≤ left_of b ls
one_left b [] i d h e = absurd (omega arith)
one_left b (l ∷ ls) zero d h e = let m = left_more b l ls in let c = counted b l e in omega arith
one_left b (l ∷ ls) (suc i) d h e = let m = left_more b l ls in let rest = one_left b ls i d (omega arith) e in omega arith

two_left : (b : Bounds) (ls : List Lit) (i j : ℕ) (d : Lit) → i < j → j < length ls → is_out (get_or ls i d) b ≡ false → is_out (get_or ls j d) b ≡ false → 2 ≤ left_of b ls
two_left b [] i j d h k e f = absurd (omega arith)
two_left b (l ∷ ls) i zero d h k e f = absurd (omega arith)
two_left b (l ∷ ls) zero (suc j) d h k e f = let m = left_more b l ls in let c = counted b l e in let rest = one_left b ls j d (omega arith) f in omega arith
two_left b (l ∷ ls) (suc i) (suc j) d h k e f = let m = left_more b l ls in let rest = two_left b ls i j d (omega arith) (omega arith) e f in omega arith

pub two_quiet : (b : Bounds) (ls : List Lit) (i j : ℕ) (d : Lit) → i < j → j < length ls → is_out (get_or ls i d) b ≡ false → is_out (get_or ls j d) b ≡ false → All (Keeps b) (clause_tells ls b)
two_quiet b ls i j d h k e f =
    let many = two_left b ls i j d h k e f in
    let P : List Tell → Type 0 = λ ts. All (Keeps b) ts in
    subst P (sym (clause_of_many b ls (min (left_of b ls) 2) (omega arith) refl (omega arith))) (All-nil (Keeps b))

-- one that is sure isn't out
sure_not_out : (b : Bounds) (clamped : ClampOrder) (l : Lit) → is_sure l b ≡ true → is_out l b ≡ false
sure_not_out b clamped l e = by_bool (is_out l b) (λ o. let f = not_sure clamped b l o in absurd (cc)) (λ f. f)

pub sure_quiet : (clamped : ClampOrder) (b : Bounds) (ls : List Lit) (i : ℕ) (d : Lit) → i < length ls → is_sure (get_or ls i d) b ≡ true → All (Keeps b) (clause_tells ls b)
unfolding sole_tell
sure_quiet clamped b ls i d h e =
    let f = sure_not_out b clamped (get_or ls i d) e in
    let some = one_left b ls i d h f in
    let P : List Tell → Type 0 = λ ts. All (Keeps b) ts in
    subst P (sym (clause_by_count b ls (omega arith)))
    (All-flat_map (Keeps b) (sole_tell (left_of b ls) b) ls d (λ k inside.
    All-when (Keeps b) (eqb (left_of b ls) (cond (is_out (get_or ls k d) b) 0 1)) (tell_true (get_or ls k d) ∷ []) (λ t. All-one (Keeps b) (tell_true (get_or ls k d)) (
    let alone = eqb-true (left_of b ls) (cond (is_out (get_or ls k d) b) 0 1) t in
    by_bool (is_out (get_or ls k d) b)
    (λ o. let none : ◌≡◌ {A = ℕ} (cond (is_out (get_or ls k d) b) 0 1) 0 = (λ i. cond (o i) 0 1) in absurd (omega arith))
    (λ o. let one = counted b (get_or ls k d) o in
    let K : ℕ → Type 0 = λ n. Keeps b (tell_true (get_or ls n d)) in
    let own : K i = sure_keeps clamped b (get_or ls i d) e in
    same_place K i k own
    (λ lt. let two = two_left b ls i k d lt inside f o in absurd (omega arith))
    (λ lt. let two = two_left b ls k i d lt h o f in absurd (omega arith)))))))
  where
    same_place : (K : ℕ → Type 0) (i k : ℕ) → K i → (i < k → K k) → (k < i → K k) → K k
    same_place K zero zero own above below = own
    same_place K zero (suc k) own above below = above (omega arith)
    same_place K (suc i) zero own above below = below (omega arith)
    same_place K (suc i) (suc k) own above below = same_place (λ n. K (suc n)) i k own (λ l. above (omega arith)) (λ l. below (omega arith))

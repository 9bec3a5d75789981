-- Values in lists, and the parts of all views.
use Rattle.std.proofs.Common.{ℕ, zero, suc, ◌≡◌, ◌≢◌, ◌⊎◌, ◌+◌, ◌≤◌, List, [], ◌∷◌, ◌++◌, map, set, inl, inr, ⊎_elim, refl, sym, ap, arith}
use mathlib.Core.Option.{some, some-injective, some-ne-none}
use lib.ListN.{get_elem?}
use Rattle.best_bound.specs.declared.table.View.{View}
use Rattle.best_bound.specs.Lists.{Among}
use Rattle.best_bound.specs.Rule.{total_parts}

pub among_left : {A : Type 0} (xs ys : List A) (x : A) → Among xs x → Among (xs ++ ys) x
among_left [] ys x h = absurd h
among_left (z ∷ xs) ys x (inl e) = inl e
among_left (z ∷ xs) ys x (inr h) = inr (among_left xs ys x h)

pub among_right : {A : Type 0} (xs ys : List A) (x : A) → Among ys x → Among (xs ++ ys) x
among_right [] ys x h = h
among_right (z ∷ xs) ys x h = inr (among_right xs ys x h)

pub among_both : {A : Type 0} (xs ys : List A) (x : A) → Among (xs ++ ys) x → Among xs x ⊎ Among ys x
among_both [] ys x h = inr h
among_both (z ∷ xs) ys x (inl e) = inl (inl e)
among_both (z ∷ xs) ys x (inr h) = ⊎_elim (λ a. inl (inr a)) (λ b. inr b) (among_both xs ys x h)

pub among_map : {A B : Type 0} (f : A → B) (xs : List A) (x : A) → Among xs x → Among (map f xs) (f x)
among_map f [] x h = absurd h
among_map f (z ∷ xs) x (inl e) = inl (ap f e)
among_map f (z ∷ xs) x (inr h) = inr (among_map f xs x h)

pub among_source : {A B : Type 0} (f : A → B) (xs : List A) (y : B) → Among (map f xs) y → (x : A) × Among xs x × (f x ≡ y)
among_source f [] y h = absurd h
among_source f (z ∷ xs) y (inl e) = (z, inl refl, e)
among_source f (z ∷ xs) y (inr h) = let s = among_source f xs y h in (s.0, inr s.1, s.2)

pub nothing_among : {A : Type 0} (xs : List A) → ((x : A) → Among xs x → ⊥) → xs ≡ []
nothing_among [] h = refl
nothing_among (x ∷ xs) h = absurd (h x (inl refl))

pub map-append : {A B : Type 0} (f : A → B) (xs ys : List A) → map f (xs ++ ys) ≡ map f xs ++ map f ys
map-append f [] ys = refl
map-append f (x ∷ xs) ys = ap (λ l. f x ∷ l) (map-append f xs ys)

pub total-set : (views : List View) (id : ℕ) (v w : View) → get_elem? views id ≡ some v → total_parts (set views id w) + v.parts ≡ total_parts views + w.parts
total-set [] id v w e = absurd (some-ne-none v (sym e))
total-set (u ∷ views) zero v w e = let p = ap (λ (x : View). x.parts) (some-injective u v e) in omega arith
total-set (u ∷ views) (suc id) v w e = let r = total-set views id v w e in omega arith

pub total-snoc : (views : List View) (w : View) → total_parts (views ++ w ∷ []) ≡ total_parts views + w.parts
total-snoc [] w = omega arith
total-snoc (u ∷ views) w = let r = total-snoc views w in omega arith

pub part_of_total : (views : List View) (id : ℕ) (v : View) → get_elem? views id ≡ some v → v.parts ≤ total_parts views
part_of_total [] id v e = absurd (some-ne-none v (sym e))
part_of_total (u ∷ views) zero v e = let p = ap (λ (x : View). x.parts) (some-injective u v e) in omega arith
part_of_total (u ∷ views) (suc id) v e = let r = part_of_total views id v e in omega arith

-- the parts of two seats are at most the total
pub two_parts : (views : List View) (i j : ℕ) (u v : View) → i ≢ j → get_elem? views i ≡ some u → get_elem? views j ≡ some v → u.parts + v.parts ≤ total_parts views
two_parts [] i j u v ne ei ej = absurd (some-ne-none u (sym ei))
two_parts (w ∷ views) zero zero u v ne ei ej = absurd (ne refl)
two_parts (w ∷ views) zero (suc j) u v ne ei ej = let p = ap (λ (x : View). x.parts) (some-injective w u ei) in let r = part_of_total views j v ej in omega arith
two_parts (w ∷ views) (suc i) zero u v ne ei ej = let p = ap (λ (x : View). x.parts) (some-injective w v ej) in let r = part_of_total views i u ei in omega arith
two_parts (w ∷ views) (suc i) (suc j) u v ne ei ej = let r = two_parts views i j u v (λ e. ne (ap suc e)) ei ej in omega arith

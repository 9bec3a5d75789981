-- Shapes and the kernels that they are of.
use Rattle.std.proofs.Common.{◌≡◌, ℕ, ◌<◌, List, [], ◌∷◌, ◌++◌, length, get_or, ℤ, pos, unsigned_abs, inl, inr, Option, Bool, true, false, cond, refl, sym, ap, subst, ◌∙◌, arith}
use Rattle.std.specs.Prelude.{MatchOption}
use Rattle.std.proofs.lemmas.List.{get_or_default}
use mir.Val.{to_z, of_z}
use mir.Syntax.{w64}
use Rattle.tells.specs.declared.tell.Lit.{Lit}
use Rattle.sum_tells.specs.Linear.{IsLinear}
use Rattle.guarded_tell.specs.declared.kernel.Kernel.{Kernel}
use Rattle.guarded_tell.specs.declared.kernel.Kernel.TheVariants.{Le, Eq, Times, Div, Mod, Abs, Max, Min, Clause, Element, InSet, AllDiff, Cumulative}
use Rattle.kernel_visits.specs.declared.shape.Shape.{Shape}
use Rattle.kernel_visits.specs.declared.shape.Sign.{Sign}
use Rattle.kernel_visits.specs.declared.shape.Sign.TheVariants.{Plus, Minus}
use Rattle.kernel_visits.specs.declared.shape.Terms.{Terms}
use Rattle.kernel_visits.specs.declared.shape.Shape.TheVariants.{AtMost, Same, Three, Either, Triple, Product, Greatest, Slight, Other}
use Rattle.guarded_tell.specs.Kernels.{vars_of, HasNumbers}
use Rattle.kernel_visits.specs.Shapes.{IsDifference, IsSlightSum, IsShapeOf, unit_of, units_of, places_of}
use Rattle.small_sums.specs.Short.{slight_limit}
use Rattle.small_sums.specs.Slight.{AreSlight}
use Rattle.small_sums.proofs.ShortLaws.{short_number}

-- a list of two items
pub two_items : {A : Type 0} (xs : List A) (x y : A) → length xs ≡ 2 → x ≡ get_or xs 0 x → y ≡ get_or xs 1 y → xs ≡ x ∷ y ∷ []
two_items [] x y h e f = absurd (omega arith)
two_items (a ∷ []) x y h e f = absurd (omega arith)
two_items (a ∷ c ∷ d ∷ xs) x y h e f = absurd (omega arith)
two_items (a ∷ c ∷ []) x y h e f = λ i. sym e i ∷ sym f i ∷ []

-- a list of two variables
pub two_places : (xs : List ℕ) → length xs ≡ 2 → xs ≡ get_or xs 0 0 ∷ get_or xs 1 0 ∷ []
two_places [] h = absurd (omega arith)
two_places (a ∷ []) h = absurd (omega arith)
two_places (a ∷ c ∷ d ∷ xs) h = absurd (omega arith)
two_places (a ∷ c ∷ []) h = refl

-- a list of three items
pub three_items : {A : Type 0} (xs : List A) (x y z : A) → length xs ≡ 3 → x ≡ get_or xs 0 x → y ≡ get_or xs 1 y → z ≡ get_or xs 2 z → xs ≡ x ∷ y ∷ z ∷ []
three_items [] x y z h e f g = absurd (omega arith)
three_items (a ∷ []) x y z h e f g = absurd (omega arith)
three_items (a ∷ c ∷ []) x y z h e f g = absurd (omega arith)
three_items (a ∷ c ∷ d ∷ k ∷ xs) x y z h e f g = absurd (omega arith)
three_items (a ∷ c ∷ d ∷ []) x y z h e f g = λ i. sym e i ∷ sym f i ∷ sym g i ∷ []

pub item_and_last : {A : Type 0} (xs front : List A) (x last : A) → xs ≡ front ++ last ∷ [] → length front ≡ 1 → x ≡ get_or front 0 x → xs ≡ x ∷ last ∷ []
item_and_last xs [] x last e h f = absurd (omega arith)
item_and_last xs (a ∷ c ∷ front) x last e h f = absurd (omega arith)
item_and_last xs (a ∷ []) x last e h f = e ∙ (λ i. sym f i ∷ last ∷ [])

pub items_and_last : {A : Type 0} (xs front : List A) (x y last : A) → xs ≡ front ++ last ∷ [] → length front ≡ 2 → x ≡ get_or front 0 x → y ≡ get_or front 1 y → xs ≡ x ∷ y ∷ last ∷ []
items_and_last xs [] x y last e h f g = absurd (omega arith)
items_and_last xs (a ∷ []) x y last e h f g = absurd (omega arith)
items_and_last xs (a ∷ c ∷ d ∷ front) x y last e h f g = absurd (omega arith)
items_and_last xs (a ∷ c ∷ []) x y last e h f g = e ∙ (λ i. sym f i ∷ sym g i ∷ last ∷ [])

-- what the code reads of a coefficient
pub coefficient_read : (coeffs : List ℤ) (vars : List ℕ) (limit : ℤ) (i : ℕ) → IsLinear coeffs vars limit → i < length coeffs → to_z w64 (of_z w64 (get_or coeffs i (pos 0))) ≡ get_or coeffs i (to_z w64 (of_z w64 (get_or coeffs i (pos 0))))
coefficient_read coeffs vars limit i linear inside =
    let same = short_number (get_or coeffs i (pos 0)) (linear.coefficients i inside) in
    same ∙ get_or_default coeffs i (pos 0) (to_z w64 (of_z w64 (get_or coeffs i (pos 0)))) inside

-- what two terms say of their signs
abbrev pub SaysSigns : List ℤ → List ℕ → Option (ℕ × ℕ) → Type 0
SaysSigns coeffs vars o = MatchOption o ((x y : ℕ) → IsDifference coeffs vars x y → ⊥) (λ d. IsDifference coeffs vars d.0 d.1)

pub says_signs : (coeffs : List ℤ) (vars : List ℕ) (a c : ℤ) (x y : ℕ) (o : Option (ℕ × ℕ)) → coeffs ≡ a ∷ c ∷ [] → vars ≡ x ∷ y ∷ [] → SaysSigns (a ∷ c ∷ []) (x ∷ y ∷ []) o → SaysSigns coeffs vars o
says_signs coeffs vars a c x y o e f s =
    subst (λ (cs : List ℤ). SaysSigns cs vars o) (sym e) (subst (λ (vs : List ℕ). SaysSigns (a ∷ c ∷ []) vs o) (sym f) s)

-- what three terms say
abbrev pub SaysTerms : List ℤ → List ℕ → Option Terms → Type 0
SaysTerms coeffs vars o = MatchOption o (Unit {0}) (λ t. (coeffs ≡ units_of t) × (vars ≡ places_of t))

pub says_terms : (coeffs : List ℤ) (vars : List ℕ) (a c d : ℤ) (x y z : ℕ) (o : Option Terms) → coeffs ≡ a ∷ c ∷ d ∷ [] → vars ≡ x ∷ y ∷ z ∷ [] → SaysTerms (a ∷ c ∷ d ∷ []) (x ∷ y ∷ z ∷ []) o → SaysTerms coeffs vars o
says_terms coeffs vars a c d x y z o e f s =
    subst (λ (cs : List ℤ). SaysTerms cs vars o) (sym e) (subst (λ (vs : List ℕ). SaysTerms (a ∷ c ∷ d ∷ []) vs o) (sym f) s)

-- their coefficients are slight
one : (s : Sign) → unsigned_abs (unit_of s) ≡ 1
one Plus = refl
one Minus = refl

units_slight : (t : Terms) → AreSlight (units_of t)
unfolding slight_limit
units_slight t = record { many = omega arith; slight = omega (arith, one t.x_sign, one t.y_sign, one t.z_sign) }

-- ---- a kernel's parts, with others where it is of another kind

coeffs_of : Kernel → List ℤ
coeffs_of (Le l coeffs vars limit) = coeffs
coeffs_of (Eq l coeffs vars limit) = coeffs
coeffs_of (Times x y z) = []
coeffs_of (Div x y z) = []
coeffs_of (Mod x y z) = []
coeffs_of (Abs x y) = []
coeffs_of (Max m xs) = []
coeffs_of (Min m xs) = []
coeffs_of (Clause lits) = []
coeffs_of (Element x entries c) = []
coeffs_of (InSet l x ranges) = []
coeffs_of (AllDiff xs) = []
coeffs_of (Cumulative starts durations usages limit) = []

terms_of : Kernel → List ℕ
terms_of (Le l coeffs vars limit) = vars
terms_of (Eq l coeffs vars limit) = vars
terms_of (Times x y z) = []
terms_of (Div x y z) = []
terms_of (Mod x y z) = []
terms_of (Abs x y) = []
terms_of (Max m xs) = []
terms_of (Min m xs) = []
terms_of (Clause lits) = []
terms_of (Element x entries c) = []
terms_of (InSet l x ranges) = []
terms_of (AllDiff xs) = []
terms_of (Cumulative starts durations usages limit) = []

literals_of : Kernel → List Lit
literals_of (Le l coeffs vars limit) = []
literals_of (Eq l coeffs vars limit) = []
literals_of (Times x y z) = []
literals_of (Div x y z) = []
literals_of (Mod x y z) = []
literals_of (Abs x y) = []
literals_of (Max m xs) = []
literals_of (Min m xs) = []
literals_of (Clause lits) = lits
literals_of (Element x entries c) = []
literals_of (InSet l x ranges) = []
literals_of (AllDiff xs) = []
literals_of (Cumulative starts durations usages limit) = []

literal_or : Lit → Kernel → Lit
literal_or d (Le l coeffs vars limit) = l
literal_or d (Eq l coeffs vars limit) = l
literal_or d (Times x y z) = d
literal_or d (Div x y z) = d
literal_or d (Mod x y z) = d
literal_or d (Abs x y) = d
literal_or d (Max m xs) = d
literal_or d (Min m xs) = d
literal_or d (Clause lits) = d
literal_or d (Element x entries c) = d
literal_or d (InSet l x ranges) = l
literal_or d (AllDiff xs) = d
literal_or d (Cumulative starts durations usages limit) = d

-- ---- no short shape is of a kernel that is no difference, and of another kernel

module _ (l : Lit) (coeffs : List ℤ) (vars : List ℕ) (limit : ℤ) (none : (x y : ℕ) → IsDifference coeffs vars x y → ⊥) (rough : AreSlight coeffs → ⊥) where
  no_difference : (cs : List ℤ) (vs : List ℕ) (x y : ℕ) → coeffs ≡ cs → vars ≡ vs → IsDifference cs vs x y → ⊥
  no_difference cs vs x y e f d = none x y (subst (λ (c : List ℤ). IsDifference c vars x y) (sym e) (subst (λ (v : List ℕ). IsDifference cs v x y) (sym f) d))

  pub other_inequality : (k : Kernel) → k ≡ Le l coeffs vars limit → (s : Shape) → IsShapeOf k s → s ≡ Other
  unfolding IsShapeOf coeffs_of terms_of
  other_inequality k e (AtMost m x y bound) (cs, vs, f, d) = absurd (no_difference cs vs x y (ap coeffs_of (sym e ∙ f)) (ap terms_of (sym e ∙ f)) d)
  other_inequality k e (Same m x y bound) (cs, vs, f, d) = absurd (cc)
  other_inequality k e (Three t bound) (m, f) = absurd (cc)
  other_inequality k e (Either m n) f = absurd (cc)
  other_inequality k e (Triple m n o) f = absurd (cc)
  other_inequality k e (Product x y z) f = absurd (cc)
  other_inequality k e (Greatest m x y) f = absurd (cc)
  other_inequality k e Slight (m, cs, vs, bound, inl f, s) = absurd (rough (subst AreSlight (ap coeffs_of (sym f ∙ e)) s))
  other_inequality k e Slight (m, cs, vs, bound, inr f, s) = absurd (cc)
  other_inequality k e Other f = refl

  pub other_equation : (k : Kernel) → k ≡ Eq l coeffs vars limit → (s : Shape) → IsShapeOf k s → s ≡ Other
  unfolding IsShapeOf coeffs_of terms_of
  other_equation k e (AtMost m x y bound) (cs, vs, f, d) = absurd (cc)
  other_equation k e (Same m x y bound) (cs, vs, f, d) = absurd (no_difference cs vs x y (ap coeffs_of (sym e ∙ f)) (ap terms_of (sym e ∙ f)) d)
  other_equation k e (Three t bound) (m, f) = absurd (rough (subst AreSlight (ap coeffs_of (sym f ∙ e)) (units_slight t)))
  other_equation k e (Either m n) f = absurd (cc)
  other_equation k e (Triple m n o) f = absurd (cc)
  other_equation k e (Product x y z) f = absurd (cc)
  other_equation k e (Greatest m x y) f = absurd (cc)
  other_equation k e Slight (m, cs, vs, bound, inl f, s) = absurd (cc)
  other_equation k e Slight (m, cs, vs, bound, inr f, s) = absurd (rough (subst AreSlight (ap coeffs_of (sym f ∙ e)) s))
  other_equation k e Other f = refl

pub other_clause : (lits : List Lit) → (length lits ≡ 2 → ⊥) → (length lits ≡ 3 → ⊥) → (s : Shape) → IsShapeOf (Clause lits) s → s ≡ Other
unfolding IsShapeOf literals_of
other_clause lits n t (AtMost m x y bound) (cs, vs, f, d) = absurd (cc)
other_clause lits n t (Same m x y bound) (cs, vs, f, d) = absurd (cc)
other_clause lits n t (Three ts bound) (m, f) = absurd (cc)
other_clause lits n t (Either l m) f = absurd (n (ap (λ (k : Kernel). length (literals_of k)) f))
other_clause lits n t (Triple l m o) f = absurd (t (ap (λ (k : Kernel). length (literals_of k)) f))
other_clause lits n t (Product x y z) f = absurd (cc)
other_clause lits n t (Greatest m x y) f = absurd (cc)
other_clause lits n t Slight (m, cs, vs, bound, inl f, s) = absurd (cc)
other_clause lits n t Slight (m, cs, vs, bound, inr f, s) = absurd (cc)
other_clause lits n t Other f = refl

pub other_greatest : (m : ℕ) (xs : List ℕ) → (length xs ≡ 2 → ⊥) → (s : Shape) → IsShapeOf (Max m xs) s → s ≡ Other
unfolding IsShapeOf vars_of
other_greatest m xs n (AtMost l x y bound) (cs, vs, f, d) = absurd (cc)
other_greatest m xs n (Same l x y bound) (cs, vs, f, d) = absurd (cc)
other_greatest m xs n (Three ts bound) (l, f) = absurd (cc)
other_greatest m xs n (Either k l) f = absurd (cc)
other_greatest m xs n (Triple k l o) f = absurd (cc)
other_greatest m xs n (Product x y z) f = absurd (cc)
other_greatest m xs n (Greatest o x y) f = let e = ap (λ (k : Kernel). length (vars_of k)) f in absurd (n (omega arith))
other_greatest m xs n Slight (l, cs, vs, bound, inl f, s) = absurd (cc)
other_greatest m xs n Slight (l, cs, vs, bound, inr f, s) = absurd (cc)
other_greatest m xs n Other f = refl

pub any_is_other : (k : Kernel) → IsShapeOf k Other
unfolding IsShapeOf
any_is_other k = tt

pub other_kernel : (k : Kernel) → ((l : Lit) (coeffs : List ℤ) (vars : List ℕ) (limit : ℤ) → k ≡ Le l coeffs vars limit → ⊥) → ((l : Lit) (coeffs : List ℤ) (vars : List ℕ) (limit : ℤ) → k ≡ Eq l coeffs vars limit → ⊥)
    → ((lits : List Lit) → k ≡ Clause lits → ⊥) → ((x y z : ℕ) → k ≡ Times x y z → ⊥)
    → ((m : ℕ) (xs : List ℕ) → k ≡ Max m xs → ⊥) → (s : Shape) → IsShapeOf k s → s ≡ Other
unfolding IsShapeOf
other_kernel k p q r t u (AtMost m x y bound) (cs, vs, f, d) = absurd (p m cs vs bound f)
other_kernel k p q r t u (Same m x y bound) (cs, vs, f, d) = absurd (q m cs vs bound f)
other_kernel k p q r t u (Three ts bound) (m, f) = absurd (q m (units_of ts) (places_of ts) bound f)
other_kernel k p q r t u (Either l m) f = absurd (r (l ∷ m ∷ []) f)
other_kernel k p q r t u (Triple l m n) f = absurd (r (l ∷ m ∷ n ∷ []) f)
other_kernel k p q r t u (Product x y z) f = absurd (t x y z f)
other_kernel k p q r t u (Greatest m x y) f = absurd (u m (x ∷ y ∷ []) f)
other_kernel k p q r t u Slight (m, cs, vs, bound, inl f, s) = absurd (p m cs vs bound f)
other_kernel k p q r t u Slight (m, cs, vs, bound, inr f, s) = absurd (q m cs vs bound f)
other_kernel k p q r t u Other f = refl

-- ---- the shape of a sum that is no difference

pub sum_made : (k : Kernel) (t : Bool) (r : Shape) → (t ≡ true → IsSlightSum k) → r ≡ cond t Slight Other → IsShapeOf k r
unfolding IsShapeOf
sum_made k true r h e = let P : Shape → Type 0 = λ s. IsShapeOf k s in subst P (sym e) (h refl)
sum_made k false r h e = let P : Shape → Type 0 = λ s. IsShapeOf k s in subst P (sym e) tt

pub sum_rough : (coeffs : List ℤ) (t : Bool) (r : Shape) → (AreSlight coeffs → t ≡ true) → r ≡ cond t Slight Other → r ≡ Other → AreSlight coeffs → ⊥
sum_rough coeffs true r h e f s = absurd (cc)
sum_rough coeffs false r h e f s = absurd (let t = h s in cc)

-- ---- the short shape of a difference, by what the code reads

module _ (k : Kernel) (l : Lit) (coeffs cs : List ℤ) (vars vs : List ℕ) (limit : ℤ) (numbers : HasNumbers k) (same_coeffs : cs ≡ coeffs) (same_vars : vs ≡ vars) where
  difference_read : (x y : ℕ) → IsDifference cs vs x y → IsDifference coeffs vars x y
  difference_read x y d = subst (λ (c : List ℤ). IsDifference c vars x y) same_coeffs (subst (λ (v : List ℕ). IsDifference cs v x y) same_vars d)

  pub none_read : ((x y : ℕ) → IsDifference cs vs x y → ⊥) → (x y : ℕ) → IsDifference coeffs vars x y → ⊥
  none_read none x y d = none x y (subst (λ (c : List ℤ). IsDifference c vs x y) (sym same_coeffs) (subst (λ (v : List ℕ). IsDifference coeffs v x y) (sym same_vars) d))

  pub at_most_made : k ≡ Le l coeffs vars limit → (x y : ℕ) → IsDifference cs vs x y → IsShapeOf k (AtMost l x y (to_z w64 (of_z w64 limit)))
  unfolding IsShapeOf HasNumbers
  at_most_made is x y d =
      let linear : IsLinear coeffs vars limit = subst (λ (j : Kernel). HasNumbers j) is numbers in
      let read = short_number limit linear.limit_in_range in
      (coeffs, vars, subst (λ (z : ℤ). k ≡ Le l coeffs vars z) (sym read) is, difference_read x y d)

  pub same_made : k ≡ Eq l coeffs vars limit → (x y : ℕ) → IsDifference cs vs x y → IsShapeOf k (Same l x y (to_z w64 (of_z w64 limit)))
  unfolding IsShapeOf HasNumbers
  same_made is x y d =
      let linear : IsLinear coeffs vars limit = subst (λ (j : Kernel). HasNumbers j) is numbers in
      let read = short_number limit linear.limit_in_range in
      (coeffs, vars, subst (λ (z : ℤ). k ≡ Eq l coeffs vars z) (sym read) is, difference_read x y d)

  pub equation_made : k ≡ Eq l coeffs vars limit → (r : Shape) → IsShapeOf (Eq l coeffs vars (to_z w64 (of_z w64 limit))) r → IsShapeOf k r
  unfolding HasNumbers
  equation_made is r h =
      let linear : IsLinear coeffs vars limit = subst (λ (j : Kernel). HasNumbers j) is numbers in
      subst (λ (j : Kernel). IsShapeOf j r) ((λ i. Eq l coeffs vars (short_number limit linear.limit_in_range i)) ∙ sym is) h

-- the same of lists whose last items stand apart
pub coefficients_read : (cs front : List ℤ) (vs : List ℕ) (last : ℤ) (limit : ℤ) → IsLinear cs vs limit → cs ≡ front ++ last ∷ [] → length front ≡ 1
    → cs ≡ to_z w64 (of_z w64 (get_or front 0 (pos 0))) ∷ to_z w64 (of_z w64 last) ∷ []
coefficients_read cs [] vs last limit linear e h = absurd (omega arith)
coefficients_read cs (a ∷ c ∷ front) vs last limit linear e h = absurd (omega arith)
coefficients_read cs (a ∷ []) vs last limit linear e h =
    let made : IsLinear (a ∷ last ∷ []) vs limit = subst (λ (c : List ℤ). IsLinear c vs limit) e linear in
    let first = short_number a (made.coefficients 0 (omega arith)) in
    let second = short_number last (made.coefficients 1 (omega arith)) in
    e ∙ (λ i. sym first i ∷ sym second i ∷ [])

pub three_read : (cs front : List ℤ) (vs : List ℕ) (last : ℤ) (limit : ℤ) → IsLinear cs vs limit → cs ≡ front ++ last ∷ [] → length front ≡ 2
    → cs ≡ to_z w64 (of_z w64 (get_or front 0 (pos 0))) ∷ to_z w64 (of_z w64 (get_or front 1 (pos 0))) ∷ to_z w64 (of_z w64 last) ∷ []
three_read cs [] vs last limit linear e h = absurd (omega arith)
three_read cs (a ∷ []) vs last limit linear e h = absurd (omega arith)
three_read cs (a ∷ c ∷ d ∷ front) vs last limit linear e h = absurd (omega arith)
three_read cs (a ∷ c ∷ []) vs last limit linear e h =
    let made : IsLinear (a ∷ c ∷ last ∷ []) vs limit = subst (λ (z : List ℤ). IsLinear z vs limit) e linear in
    let first = short_number a (made.coefficients 0 (omega arith)) in
    let second = short_number c (made.coefficients 1 (omega arith)) in
    let third = short_number last (made.coefficients 2 (omega arith)) in
    e ∙ (λ i. sym first i ∷ sym second i ∷ sym third i ∷ [])

-- an equation of three terms is that of its literal
pub three_is : (k : Kernel) (l : Lit) (cs : List ℤ) (vs : List ℕ) (z : ℤ) → k ≡ Eq l cs vs z → (t : Terms) (limit : ℤ) → IsShapeOf k (Three t limit) → k ≡ Eq l (units_of t) (places_of t) limit
unfolding IsShapeOf literal_or
three_is k l cs vs z e t limit (m, f) = f ∙ (λ i. Eq (ap (literal_or l) (sym f ∙ e) i) (units_of t) (places_of t) limit)

-- a sum of that shape has slight coefficients
pub slight_three : (k : Kernel) (t : Terms) (limit : ℤ) → IsShapeOf k (Three t limit) → IsSlightSum k
unfolding IsShapeOf
slight_three k t limit (l, is) = (l, units_of t, places_of t, limit, inr is, units_slight t)

pub slight_inequality : (k : Kernel) (l : Lit) (coeffs : List ℤ) (vars : List ℕ) (limit : ℤ) → IsSlightSum k → k ≡ Le l coeffs vars limit → AreSlight coeffs
unfolding coeffs_of
slight_inequality k l coeffs vars limit (m, cs, vs, bound, inl f, s) e = subst AreSlight (ap coeffs_of (sym f ∙ e)) s
slight_inequality k l coeffs vars limit (m, cs, vs, bound, inr f, s) e = absurd (cc)

pub slight_equation : (k : Kernel) (l : Lit) (coeffs : List ℤ) (vars : List ℕ) (limit : ℤ) → IsSlightSum k → k ≡ Eq l coeffs vars limit → AreSlight coeffs
unfolding coeffs_of
slight_equation k l coeffs vars limit (m, cs, vs, bound, inl f, s) e = absurd (cc)
slight_equation k l coeffs vars limit (m, cs, vs, bound, inr f, s) e = subst AreSlight (ap coeffs_of (sym f ∙ e)) s

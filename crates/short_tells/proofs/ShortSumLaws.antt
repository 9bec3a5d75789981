-- The tells of a linear kernel that narrow a box are those of its literal and those of the room that its sums leave.
use Rattle.std.proofs.Common.{◌≡◌, ℕ, List, [], ◌∷◌, ◌++◌, Bool, true, false, not, cond, None, Some, ℤ, pos, ◌+ℤ◌, ◌-ℤ◌, ◌<◌, refl, sym, ap, subst, ◌∙◌, arith}
use Rattle.std.proofs.lemmas.Int.{ints}
use Rattle.std.proofs.lemmas.List.{append-nil}
use Rattle.std.proofs.lemmas.List.Elements.{filter-append}
use Rattle.std.specs.List.{All, zip, flat_map}
use Rattle.tells.specs.declared.tell.Lit.{Lit}
use Rattle.tells.specs.declared.tell.Tell.{Tell}
use Rattle.interval.specs.Limits.{ClampOrder}
use Rattle.interval.specs.Boxes.{Bounds}
use Rattle.small_sums.specs.declared.short.Sums.{Sums}
use Rattle.short_tells.specs.declared.short_terms.Room.{Room}
use Rattle.tells.specs.Words.{Keeps, when, is_sure, is_out, tell_true, tell_false, sign_tell}
use Rattle.tells.specs.Hearing.{HearsAll}
use Rattle.sum_tells.specs.Linear.{Term, sum_over, least_of, greatest_of, product_at_most, product_at_least, at_most_tell, at_least_tell, more_than_tell, literal_tells, bound_tells, at_most_tells}
use Rattle.sum_tells.specs.Equality.{equation_tells, equal_tell, equal_tells, unequal_tell, unequal_tells, eq_tells}
use Rattle.tell_laws.specs.Narrowing.{narrows, narrowing}
use Rattle.small_sums.specs.Short.{AreSums}
use Rattle.short_tells.specs.ShortTells.{rise_tells, fall_tells, room_tells, any_room, room_at_most, room_equal}
use Rattle.tell_laws.proofs.LiteralLaws.{by_bool}
use Rattle.tell_laws.proofs.NarrowingLaws.{none_narrows}
use Rattle.small_sums.proofs.QuietLaws.{not_sure}
use Rattle.short_tells.proofs.ShortTellLaws.{narrowing_flat_map}

-- tells that keep the box are heard by one who hears what narrows
pub quiet_heard : {H : Type 0} (hears : H → Tell → H → Type 0) (h : H) (b : Bounds) (ts : List Tell) → All (Keeps b) ts → HearsAll hears h (narrowing b ts) h
quiet_heard hears h b ts all = let P : List Tell → Type 0 = λ us. HearsAll hears h us h in subst P (sym (none_narrows b ts all)) refl

-- two tells, each where its test holds
pub two_tells : (b : Bounds) (p q p' q' : Bool) (t u t' u' : Tell) → p' ≡ p → q' ≡ q → t' ≡ t → u' ≡ u
    → narrowing b (when p (t ∷ []) ++ when q (u ∷ [])) ≡ narrowing b (when p' (t' ∷ [])) ++ narrowing b (when q' (u' ∷ []))
two_tells b p q p' q' t u t' u' e f g h =
    filter-append (narrows b) (when p (t ∷ [])) (when q (u ∷ []))
    ∙ (λ i. narrowing b (when (sym e i) (sym g i ∷ [])) ++ narrowing b (when (sym f i) (sym h i ∷ [])))

-- no term is told anything
pub none_told : (b : Bounds) (ts : List Term) → flat_map (λ (t : Term). narrowing b (room_tells b any_room t)) ts ≡ []
none_told b [] = refl
none_told b (t ∷ ts) = none_told b ts

pub sure_not_out : (clamped : ClampOrder) (b : Bounds) (l : Lit) → is_sure l b ≡ true → is_out l b ≡ false
sure_not_out clamped b l e = by_bool (is_out l b) (λ o. let f = not_sure clamped b l o in absurd (cc)) (λ f. f)

-- the variable of a literal's tells
pub true_var : (l : Lit) (count : ℕ) → l.var < count → (tell_true l).var < count
true_var l count h = by_sign l.positive
  where
    by_sign : (s : Bool) → (sign_tell s l.var).var < count
    by_sign true = h
    by_sign false = h

pub false_var : (l : Lit) (count : ℕ) → l.var < count → (tell_false l).var < count
false_var l count h = by_sign (not l.positive)
  where
    by_sign : (s : Bool) → (sign_tell s l.var).var < count
    by_sign true = h
    by_sign false = h

module _ (b : Bounds) (limit m n : ℤ) (s : Sums) (least : s.least ≡ m) (greatest : s.greatest ≡ n) (t : Term) where
  at_most_is : at_most_tell b limit m t ≡ rise_tells b (Some (limit -ℤ s.least)) t
  at_most_is = ap (λ (z : ℤ). product_at_most t.1 t.0 z) (omega (arith, ints))

  at_least_is : at_least_tell b limit n t ≡ fall_tells b (Some (s.greatest -ℤ limit)) t
  at_least_is = ap (λ (z : ℤ). product_at_least t.1 t.0 z) (omega (arith, ints))

  more_than_is : more_than_tell b limit n t ≡ fall_tells b (Some (s.greatest -ℤ (limit +ℤ pos 1))) t
  more_than_is = ap (λ (z : ℤ). product_at_least t.1 t.0 z) (omega (arith, ints))

module _ (clamped : ClampOrder) (b : Bounds) (l : Lit) (limit m n : ℤ) (s : Sums) (least : s.least ≡ m) (greatest : s.greatest ≡ n) (ts : List Term) where
  bounds_by_room : narrowing b (bound_tells l ts limit m n b) ≡ flat_map (λ (t : Term). narrowing b (room_tells b (room_at_most b l limit s) t)) ts
  unfolding room_at_most
  bounds_by_room = by_bool (is_sure l b)
      (λ e.
      let o = sure_not_out clamped b l e in
      let r = limit -ℤ s.least in
      (λ i. narrowing b (when (e i) (flat_map (at_most_tell b limit m) ts) ++ when (o i) (flat_map (more_than_tell b limit n) ts)))
      ∙ ap (λ (us : List Tell). narrowing b us) (append-nil (flat_map (at_most_tell b limit m) ts))
      ∙ (λ i. narrowing b (flat_map (λ (t : Term). at_most_is b limit m n s least greatest t i) ts))
      ∙ narrowing_flat_map b (λ (t : Term). rise_tells b (Some r) t) ts
      ∙ (λ i. flat_map (λ (t : Term). narrowing b (sym (append-nil (rise_tells b (Some r) t)) i)) ts)
      ∙ (λ i. flat_map (λ (t : Term). narrowing b (room_tells b (cond (sym e i) (record { rise = Some r; fall = None }) (cond (is_out l b) (record { rise = None; fall = Some (s.greatest -ℤ (limit +ℤ pos 1)) }) any_room)) t)) ts))
      (λ e. by_bool (is_out l b)
      (λ o.
      let r = s.greatest -ℤ (limit +ℤ pos 1) in
      (λ i. narrowing b (when (e i) (flat_map (at_most_tell b limit m) ts) ++ when (o i) (flat_map (more_than_tell b limit n) ts)))
      ∙ (λ i. narrowing b (flat_map (λ (t : Term). more_than_is b limit m n s least greatest t i) ts))
      ∙ narrowing_flat_map b (λ (t : Term). fall_tells b (Some r) t) ts
      ∙ (λ i. flat_map (λ (t : Term). narrowing b (room_tells b (cond (sym e i) (record { rise = Some (limit -ℤ s.least); fall = None }) (cond (sym o i) (record { rise = None; fall = Some r }) any_room)) t)) ts))
      (λ o.
      (λ i. narrowing b (when (e i) (flat_map (at_most_tell b limit m) ts) ++ when (o i) (flat_map (more_than_tell b limit n) ts)))
      ∙ sym (none_told b ts)
      ∙ (λ i. flat_map (λ (t : Term). narrowing b (room_tells b (cond (sym e i) (record { rise = Some (limit -ℤ s.least); fall = None }) (cond (sym o i) (record { rise = None; fall = Some (s.greatest -ℤ (limit +ℤ pos 1)) }) any_room)) t)) ts)))

  equals_by_room : is_out l b ≡ false → narrowing b (equal_tells l ts limit m n b ++ unequal_tells l ts limit m n b) ≡ flat_map (λ (t : Term). narrowing b (room_tells b (room_equal b l limit s) t)) ts
  unfolding room_equal
  equals_by_room o = by_bool (is_sure l b)
      (λ e.
      let r = limit -ℤ s.least in
      let q = s.greatest -ℤ limit in
      (λ i. narrowing b (when (e i) (flat_map (equal_tell b limit m n) ts) ++ when (o i) (flat_map (unequal_tell b limit m n) ts)))
      ∙ ap (λ (us : List Tell). narrowing b us) (append-nil (flat_map (equal_tell b limit m n) ts))
      ∙ (λ i. narrowing b (flat_map (λ (t : Term). at_most_is b limit m n s least greatest t i ++ at_least_is b limit m n s least greatest t i) ts))
      ∙ narrowing_flat_map b (λ (t : Term). rise_tells b (Some r) t ++ fall_tells b (Some q) t) ts
      ∙ (λ i. flat_map (λ (t : Term). narrowing b (room_tells b (cond (sym e i) (record { rise = Some r; fall = Some q }) any_room) t)) ts))
      (λ e.
      (λ i. narrowing b (when (e i) (flat_map (equal_tell b limit m n) ts) ++ when (o i) (flat_map (unequal_tell b limit m n) ts)))
      ∙ sym (none_told b ts)
      ∙ (λ i. flat_map (λ (t : Term). narrowing b (room_tells b (cond (sym e i) (record { rise = Some (limit -ℤ s.least); fall = Some (s.greatest -ℤ limit) }) any_room) t)) ts))

-- the tells of the whole kernel, with the limit as the code reads it and the room as the code forms it
module _ (clamped : ClampOrder) (b : Bounds) (l : Lit) (coeffs : List ℤ) (vars : List ℕ) (limit k : ℤ) (s : Sums) (sums : AreSums b coeffs vars s) (same : k ≡ limit) (room : Room) where
  pub at_most_by_room : room ≡ room_at_most b l k s → narrowing b (at_most_tells l coeffs vars limit b) ≡ narrowing b (literal_tells l k s.least s.greatest) ++ flat_map (λ (t : Term). narrowing b (room_tells b room t)) (zip coeffs vars)
  at_most_by_room e =
      let ts = zip coeffs vars in
      let m = sum_over (least_of b) ts in
      let n = sum_over (greatest_of b) ts in
      filter-append (narrows b) (literal_tells l limit m n) (bound_tells l ts limit m n b)
      ∙ (λ i. narrowing b (literal_tells l (sym same i) (sym sums.least i) (sym sums.greatest i)) ++ narrowing b (bound_tells l ts (sym same i) m n b))
      ∙ ap (λ (us : List Tell). narrowing b (literal_tells l k s.least s.greatest) ++ us) (bounds_by_room clamped b l k m n s sums.least sums.greatest ts)
      ∙ (λ i. narrowing b (literal_tells l k s.least s.greatest) ++ flat_map (λ (t : Term). narrowing b (room_tells b (sym e i) t)) ts)

  pub equal_by_room : is_out l b ≡ false → room ≡ room_equal b l k s → narrowing b (eq_tells l coeffs vars limit b) ≡ narrowing b (equation_tells l k s.least s.greatest) ++ flat_map (λ (t : Term). narrowing b (room_tells b room t)) (zip coeffs vars)
  unfolding eq_tells
  equal_by_room o e =
      let ts = zip coeffs vars in
      let m = sum_over (least_of b) ts in
      let n = sum_over (greatest_of b) ts in
      filter-append (narrows b) (equation_tells l limit m n) (equal_tells l ts limit m n b ++ unequal_tells l ts limit m n b)
      ∙ (λ i. narrowing b (equation_tells l (sym same i) (sym sums.least i) (sym sums.greatest i)) ++ narrowing b (equal_tells l ts (sym same i) m n b ++ unequal_tells l ts (sym same i) m n b))
      ∙ ap (λ (us : List Tell). narrowing b (equation_tells l k s.least s.greatest) ++ us) (equals_by_room clamped b l k m n s sums.least sums.greatest ts o)
      ∙ (λ i. narrowing b (equation_tells l k s.least s.greatest) ++ flat_map (λ (t : Term). narrowing b (room_tells b (sym e i) t)) ts)

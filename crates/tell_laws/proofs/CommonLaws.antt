-- What every kernel's laws need of literals on a point, and of the bound past all numbers.
use Rattle.std.proofs.Common.{◌≡◌, ℕ, ◌<◌, List, length, Bool, true, false, not, eqb, ℤ, pos, sym, subst, ◌∙◌, arith}
use Rattle.std.proofs.lemmas.Int.{ints}
use Rattle.std.proofs.lemmas.Bool.{eqb-true, eqb-false, and_from, and_left, not_from_true, not_from_false}
use Rattle.std.specs.Prelude.{IsTrue}
use Rattle.tells.specs.declared.tell.Lit.{Lit}
use Rattle.interval.specs.Limits.{IsNumber, bound_limit, clamp_of, ClampOrder}
use Rattle.interval.specs.Boxes.{Bounds, low_of, high_of}
use Rattle.tells.specs.Words.{low_tell, Keeps, literal_true, is_out, value_of, point_of}
use Rattle.tell_laws.proofs.LiteralLaws.{value-point, is_true, true_is}

-- no box whose low is a number keeps the tell past all numbers
pub past_all : ClampOrder → clamp_of (pos bound_limit) ≡ pos bound_limit
past_all c = c.same (pos bound_limit) (omega arith)

pub not_past_all : ClampOrder → (b : Bounds) (v : ℕ) → IsNumber (low_of b v) → Keeps b (low_tell v (pos bound_limit)) → ⊥
unfolding bound_limit
not_past_all c b v n k = let e = past_all c in omega (arith, ints)

-- at a point a literal is out exactly where it isn't true
pub out_at_point : (b : Bounds) (l : Lit) → low_of b l.var ≡ high_of b l.var → literal_true l (low_of b l.var) ≡ false → is_out l b ≡ true
unfolding is_out
out_at_point b l fixed e =
    let P : ℤ → Type 0 = λ z. literal_true l z ≡ false in
    and_from (not (literal_true l (low_of b l.var))) (not (literal_true l (high_of b l.var))) (not_from_false _ e) (not_from_false _ (subst P fixed e))

pub not_out : (b : Bounds) (l : Lit) → literal_true l (low_of b l.var) ≡ true → is_out l b ≡ false
unfolding is_out
not_out b l e = and_left (not (literal_true l (low_of b l.var))) (not (literal_true l (high_of b l.var))) (not_from_true _ e)

-- the literal's truth by the low and by the assignment
pub true_there : (b : Bounds) (l : Lit) → literal_true l (low_of b l.var) ≡ true → IsTrue (literal_true l (value_of (point_of b) l.var))
true_there b l e =
    let V : ℤ → Type 0 = λ z. IsTrue (literal_true l z) in
    subst V (sym (value-point b l.var)) (true_is (literal_true l (low_of b l.var)) (sym e))

pub true_here : (b : Bounds) (l : Lit) → IsTrue (literal_true l (value_of (point_of b) l.var)) → literal_true l (low_of b l.var) ≡ true
true_here b l t =
    let V : ℤ → Type 0 = λ z. IsTrue (literal_true l z) in
    is_true (literal_true l (low_of b l.var)) (subst V (value-point b l.var) t)

-- a list's test of being empty
pub none_there : {X : Type 0} (xs : List X) (t : Bool) → t ≡ eqb (length xs) 0 → t ≡ true → length xs ≡ 0
none_there xs t e f = eqb-true (length xs) 0 (sym e ∙ f)

pub some_there : {X : Type 0} (xs : List X) (t : Bool) → t ≡ eqb (length xs) 0 → t ≡ false → 0 < length xs
some_there xs t e f = let no = eqb-false (length xs) 0 (sym e ∙ f) in omega arith

-- One line more, and the draws of one order more.
use Rattle.std.proofs.Common.{◌≡◌, ◌∙◌, ◌+◌, ◌*◌, ◌++◌, ℕ, zero, suc, List, [], ◌∷◌, refl, sym, ap, subst, arith, append_assoc}
use Rattle.std.specs.Prelude.{OnOk, Result, Ok, Err, flat_map, if◌then◌else◌, is_ok}
use Rattle.std.specs.List.{range_with_len}
use Rattle.std.proofs.lemmas.Grind.{flat_map-append}
use Rattle.std.proofs.Common.{append-nil}
use Rattle.made_model.specs.Made.{draw, next_draw, order, order_of_draws}

-- the numbers from a on, with one more behind them
range_more : (a n : ℕ) → range_with_len a (n + 1) ≡ range_with_len a n ++ (a + n) ∷ []
range_more a zero = let same : a ≡ a + 0 = omega arith in ap (λ x. x ∷ []) same
range_more a (suc n) =
    let one : suc n + 1 ≡ suc (n + 1) = omega arith in
    let same : a + 1 + n ≡ a + suc n = omega arith in
    ap (range_with_len a) one ∙ ap (λ xs. a ∷ xs) (range_more (a + 1) n ∙ ap (λ x. range_with_len (a + 1) n ++ x ∷ []) same)

-- what stands after one more line was added
pub one_more : (f : ℕ → List ℕ) (a i x : ℕ) (before text after : List ℕ) → text ≡ before ++ flat_map f (range_with_len a i) → after ≡ text ++ f x → x ≡ a + i
    → after ≡ before ++ flat_map f (range_with_len a (i + 1))
one_more f a i x before text after lines added is =
    let front = flat_map f (range_with_len a i) in
    let last : flat_map f (x ∷ []) ≡ f x = append-nil (f x) in
    let parts : flat_map f (range_with_len a (i + 1)) ≡ front ++ f x =
    ap (flat_map f) (range_more a i ∙ ap (λ y. range_with_len a i ++ y ∷ []) (sym is)) ∙ flat_map-append f (range_with_len a i) (x ∷ []) ∙ ap (λ t. front ++ t) last in
    added ∙ ap (λ t. t ++ f x) lines ∙ append_assoc before front (f x) ∙ ap (λ t. before ++ t) (sym parts)

pub draw_first : (n : ℕ) → draw n 0 ≡ n + 1
unfolding draw
draw_first n = refl

draw_next : (n k : ℕ) → draw n (k + 1) ≡ next_draw (draw n k)
unfolding draw
draw_next n k = let more : k + 1 ≡ suc k = omega arith in ap (draw n) more

-- the draws after those of j orders
second_draw : (n k : ℕ) → draw n (k + 2) ≡ next_draw (next_draw (draw n k))
second_draw n k = let more : k + 2 ≡ k + 1 + 1 = omega arith in ap (draw n) more ∙ draw_next n (k + 1) ∙ ap next_draw (draw_next n k)

third_draw : (n k : ℕ) → draw n (k + 3) ≡ next_draw (next_draw (next_draw (draw n k)))
third_draw n k = let more : k + 3 ≡ k + 2 + 1 = omega arith in ap (draw n) more ∙ draw_next n (k + 2) ∙ ap next_draw (second_draw n k)

pub next_orders : (n j t : ℕ) → t ≡ draw n (3 * j) → next_draw (next_draw (next_draw t)) ≡ draw n (3 * (j + 1))
next_orders n j t is =
    let more : 3 * (j + 1) ≡ 3 * j + 3 = omega arith in
    ap (λ s. next_draw (next_draw (next_draw s))) is ∙ sym (third_draw n (3 * j)) ∙ ap (draw n) (sym more)

pub order_is : (n j t : ℕ) → t ≡ draw n (3 * j) → order_of_draws n (next_draw t) (next_draw (next_draw t)) (next_draw (next_draw (next_draw t))) ≡ order n j
order_is n j t is =
    ap (λ s. order_of_draws n (next_draw s) (next_draw (next_draw s)) (next_draw (next_draw (next_draw s)))) is
    ∙ ap (λ p. order_of_draws n p (next_draw (next_draw (draw n (3 * j)))) (next_draw (next_draw (next_draw (draw n (3 * j)))))) (sym (draw_next n (3 * j)))
    ∙ ap (λ q. order_of_draws n (draw n (3 * j + 1)) q (next_draw (next_draw (next_draw (draw n (3 * j)))))) (sym (second_draw n (3 * j)))
    ∙ ap (λ d. order_of_draws n (draw n (3 * j + 1)) (draw n (3 * j + 2)) d) (sym (third_draw n (3 * j)))

-- a text added behind another
added_to : (t x y u v : List ℕ) → u ≡ t ++ x → v ≡ u ++ y → v ≡ t ++ (x ++ y)
added_to t x y u v first second = second ∙ ap (λ z. z ++ y) first ∙ append_assoc t x y

-- five texts added one after the other, the last of them of two parts
pub five_added : (t a b c d e f t1 t2 t3 t4 t5 : List ℕ) → t1 ≡ t ++ a → t2 ≡ t1 ++ b → t3 ≡ t2 ++ c → t4 ≡ t3 ++ d → t5 ≡ t4 ++ (e ++ f) → t5 ≡ t ++ (a ++ b ++ c ++ d ++ e ++ f)
five_added t a b c d e f t1 t2 t3 t4 t5 e1 e2 e3 e4 e5 =
    let two = added_to t a b t1 t2 e1 e2 in
    let three = added_to t (a ++ b) c t2 t3 two e3 in
    let four = added_to t (a ++ b ++ c) d t3 t4 three e4 in
    added_to t (a ++ b ++ c ++ d) (e ++ f) t4 t5 four e5 ∙ ap (λ z. t ++ z) (sym (append_assoc (a ++ b ++ c ++ d) e f))

-- what was added last, where it was
pub added_on_ok : {T E : Type 0} (r : Result T E) (new whole before : List ℕ) → new ≡ (if is_ok r then whole else before) → OnOk r (new ≡ whole)
added_on_ok (Ok v) new whole before added = added
added_on_ok (Err e) new whole before added = tt

-- The made texts as lines, and what is read of them.
use Rattle.std.proofs.Common.{◌≡◌, ◌<◌, ◌≤◌, ◌+◌, ◌*◌, ◌^◌, ℕ, zero, suc, List, [], ◌∷◌, ◌++◌, length, refl, sym, ◌∙◌, ap, subst, arith, append_assoc, length-append}
use Rattle.std.specs.Prelude.{codes, map, flat_map, pos, neg_ℤ, Some, None, fold, sum_by}
use Rattle.std.specs.List.{range_with_len}
use Rattle.std.specs.Fmt.{decimal}
use Rattle.std.proofs.lemmas.Fmt.{length-decimal-le}
use Rattle.std.proofs.lemmas.Grind.{flat_map-append}
use Rattle.std.proofs.lemmas.List.{append-nil}
use Rattle.std.proofs.lemmas.List.FromFn.{length-range_with_len, length-map-range_with_len}
use Rattle.constraint_model.specs.declared.model.Constraint.{Constraint}
use Rattle.constraint_model.specs.Fits.{kernels_of}
use Rattle.fzn_model.specs.Effects.{Reading}
use Rattle.fzn_model.specs.Scopes.{meaning_of}
use Rattle.made_model.specs.Made.{made, variable_name, variable_line, order_line, goal_line, line_end, pair_text}
use Rattle.made_model.specs.Made.{order as order_of}
use Rattle.made_laws.proofs.Digits.{number_decimal, number_negative, number_zero, number_one, number_minus_one}
use Rattle.made_laws.proofs.Lines.{Line, variable, order, goal, pieces_of, bytes_in, IsSmall, AreSmall, tokens_at, nth, item_at, items_from, AreSpelled, Stand}
use Rattle.made_laws.proofs.Names.{scope_of, name_known}
use Rattle.made_laws.proofs.Runs.{Reads, reads_nothing, reads_one, clean_has_none}
use Rattle.made_laws.proofs.States.{reading, asked, IsVariableItem, variable_leaves, variable_clean, IsOrderItem, order_constraint, order_leaves, order_clean, goal_leaves, goal_clean, number_is, order_is_one}
use Rattle.made_laws.proofs.Orders.{IsOrder, order_is}

-- ---- the lines

abbrev pub order_line_of : ℕ → ℕ → Line
order_line_of n j = order (order_of n j).first (order_of n j).second (order_of n j).gap

abbrev pub lines : ℕ → List Line
lines n = map (variable (9 * n)) (range_with_len 1 n) ++ (map (order_line_of n) (range_with_len 0 (4 * n)) ++ goal n ∷ [])

four_texts : (a b c d : List ℕ) → ((a ++ b) ++ c) ++ d ≡ a ++ (b ++ (c ++ d))
four_texts a b c d = simp append_assoc

six_texts : (a b c d e f : List ℕ) → ((((a ++ b) ++ c) ++ d) ++ e) ++ f ≡ a ++ (b ++ (c ++ (d ++ (e ++ f))))
six_texts a b c d e f = simp append_assoc

eight_texts : (a b c d e f g h : List ℕ) → ((((a ++ ((b ++ c) ++ d)) ++ e) ++ f) ++ g) ++ h ≡ a ++ (b ++ (c ++ (d ++ (e ++ (f ++ (g ++ h))))))
eight_texts a b c d e f g h = simp append_assoc

variable_bytes : (n i : ℕ) → bytes_in (variable (9 * n) i) ≡ variable_line n i
variable_bytes n i = sym (six_texts (codes "var 0..") (decimal (9 * n)) (codes ": ") (variable_name i) (codes ";") line_end)

order_bytes : (n j : ℕ) → bytes_in (order_line_of n j) ≡ order_line (order_of n j)
unfolding pair_text
order_bytes n j =
    let o = order_of n j in
    sym (eight_texts (codes "constraint int_lin_le([1,-1],[") (variable_name o.first) (codes ",") (variable_name o.second) (codes "],-") (decimal o.gap) (codes ");") line_end)

goal_bytes : (n : ℕ) → bytes_in (goal n) ≡ goal_line n
goal_bytes n = sym (four_texts (codes "solve minimize ") (variable_name n) (codes ";") line_end)

mapped_bytes : (f : ℕ → Line) (g : ℕ → List ℕ) → ((k : ℕ) → bytes_in (f k) ≡ g k) → (xs : List ℕ) → flat_map bytes_in (map f xs) ≡ flat_map g xs
mapped_bytes f g each [] = refl
mapped_bytes f g each (x ∷ xs) = ap (λ s. s ++ flat_map bytes_in (map f xs)) (each x) ∙ ap (λ s. g x ++ s) (mapped_bytes f g each xs)

-- a made text is its lines
pub made_is : (n : ℕ) → made n ≡ flat_map bytes_in (lines n)
made_is n =
    let vs = map (variable (9 * n)) (range_with_len 1 n) in
    let os = map (order_line_of n) (range_with_len 0 (4 * n)) in
    let first : flat_map bytes_in vs ≡ flat_map (variable_line n) (range_with_len 1 n) = mapped_bytes (variable (9 * n)) (variable_line n) (variable_bytes n) (range_with_len 1 n) in
    let second : flat_map bytes_in os ≡ flat_map (λ j. order_line (order_of n j)) (range_with_len 0 (4 * n)) = mapped_bytes (order_line_of n) (λ j. order_line (order_of n j)) (order_bytes n) (range_with_len 0 (4 * n)) in
    let third : flat_map bytes_in (goal n ∷ []) ≡ goal_line n = append-nil (bytes_in (goal n)) ∙ goal_bytes n in
    let parts : flat_map bytes_in (lines n) ≡ (flat_map bytes_in vs ++ flat_map bytes_in os) ++ flat_map bytes_in (goal n ∷ [])
    = flat_map-append bytes_in vs (os ++ goal n ∷ []) ∙ (ap (λ s. flat_map bytes_in vs ++ s) (flat_map-append bytes_in os (goal n ∷ []))
    ∙ sym (append_assoc (flat_map bytes_in vs) (flat_map bytes_in os) (flat_map bytes_in (goal n ∷ [])))) in
    sym (parts ∙ (ap (λ s. (s ++ flat_map bytes_in os) ++ flat_map bytes_in (goal n ∷ [])) first
    ∙ (ap (λ s. (flat_map (variable_line n) (range_with_len 1 n) ++ s) ++ flat_map bytes_in (goal n ∷ [])) second
    ∙ ap (λ s. (flat_map (variable_line n) (range_with_len 1 n) ++ flat_map (λ j. order_line (order_of n j)) (range_with_len 0 (4 * n))) ++ s) third)))

-- ---- their numbers and their lengths

small_variables : (u a m : ℕ) (rest : List Line) → u < 2 ^ 32 → a + m ≤ 2001 → AreSmall rest → AreSmall (map (variable u) (range_with_len a m) ++ rest)
small_variables u a zero rest few within others = others
small_variables u a (suc m) rest few within others = ((omega arith, omega arith), small_variables u (a + 1) m rest few (omega arith) others)

small_order : (n j : ℕ) → 2 ≤ n → n ≤ 2000 → IsSmall (order_line_of n j)
small_order n j two few =
    let w = order_is n j two in
    let rises = w.rises in
    let within = w.within in
    let small = w.small in
    (omega arith, omega arith, omega arith)

small_orders : (n : ℕ) (js : List ℕ) (rest : List Line) → 2 ≤ n → n ≤ 2000 → AreSmall rest → AreSmall (map (order_line_of n) js ++ rest)
small_orders n [] rest two few others = others
small_orders n (j ∷ js) rest two few others = (small_order n j two few, small_orders n js rest two few others)

pub lines_small : (n : ℕ) → 2 ≤ n → n ≤ 2000 → AreSmall (lines n)
lines_small n two few =
    small_variables (9 * n) 1 n (map (order_line_of n) (range_with_len 0 (4 * n)) ++ goal n ∷ []) (omega arith) (omega arith)
    (small_orders n (range_with_len 0 (4 * n)) (goal n ∷ []) two few (omega arith, tt))

decimal_short : (n : ℕ) → n < 2 ^ 64 → length (decimal n) ≤ 20
decimal_short n h = length-decimal-le 20 n (omega arith) (omega arith) h

line_short : (l : Line) → IsSmall l → length (bytes_in l) ≤ 100
line_short (variable u i) small =
    let one = decimal_short u small.0 in
    let two = decimal_short i small.1 in
    let first = length-append (decimal u) (58 ∷ 32 ∷ 120 ∷ (decimal i ++ 59 ∷ 10 ∷ [])) in
    let second = length-append (decimal i) (59 ∷ 10 ∷ []) in
    omega arith
line_short (order a b d) small =
    let one = decimal_short a small.0 in
    let two = decimal_short b small.1 in
    let three = decimal_short d small.2 in
    let first = length-append (decimal a) (44 ∷ 120 ∷ (decimal b ++ 93 ∷ 44 ∷ 45 ∷ (decimal d ++ 41 ∷ 59 ∷ 10 ∷ []))) in
    let second = length-append (decimal b) (93 ∷ 44 ∷ 45 ∷ (decimal d ++ 41 ∷ 59 ∷ 10 ∷ [])) in
    let third = length-append (decimal d) (41 ∷ 59 ∷ 10 ∷ []) in
    omega arith
line_short (goal n) small =
    let one = decimal_short n small in
    let first = length-append (decimal n) (59 ∷ 10 ∷ []) in
    omega arith

lines_short : (ls : List Line) → AreSmall ls → length (flat_map bytes_in ls) ≤ 100 * length ls
lines_short [] small = omega arith
lines_short (l ∷ ls) small =
    let here = line_short l small.0 in
    let there = lines_short ls small.1 in
    let sizes = length-append (bytes_in l) (flat_map bytes_in ls) in
    omega arith

pub made_short : (n : ℕ) → 2 ≤ n → n ≤ 2000 → length (made n) ≤ 67108864
made_short n two few =
    let vs = map (variable (9 * n)) (range_with_len 1 n) in
    let os = map (order_line_of n) (range_with_len 0 (4 * n)) in
    let whole : length (made n) ≡ length (flat_map bytes_in (lines n)) = ap length (made_is n) in
    let most : length (flat_map bytes_in (lines n)) ≤ 100 * length (lines n) = lines_short (lines n) (lines_small n two few) in
    let first : length vs ≡ n = length-map-range_with_len (variable (9 * n)) 1 n in
    let second : length os ≡ 4 * n = length-map-range_with_len (order_line_of n) 0 (4 * n) in
    let split : length (lines n) ≡ length vs + length (os ++ goal n ∷ []) = length-append vs (os ++ goal n ∷ []) in
    let behind : length (os ++ goal n ∷ []) ≡ length os + 1 = length-append os (goal n ∷ []) in
    omega arith

-- ---- reading them

variable_item : (text : List ℕ) (at u n : ℕ) → u < 2 ^ 32 → AreSpelled text at (pieces_of (variable u (n + 1)))
    → let ts = tokens_at at (variable u (n + 1)) in IsVariableItem text u n (nth ts 1) (nth ts 3) (nth ts 5)
variable_item text at u n few s = record {
  low_is = number_is text _ (codes "0") (pos 0) s.1.1.0 number_zero;
  high_is = number_is text _ (decimal u) (pos u) s.1.1.1.1.0 (number_decimal u few);
  name_is = s.1.1.1.1.1.1.1.0;
}

variables_read : (text : List ℕ) (u a m at : ℕ) (rest : List Line) (final : Reading) → u < 2 ^ 32 → a + m ≤ 2000
    → Stand text at (map (variable u) (range_with_len (a + 1) m) ++ rest)
    → ((place : ℕ) → Stand text place rest → Reads text (reading u (a + m) [] 0 None) (items_from place rest) final)
    → Reads text (reading u a [] 0 None) (items_from at (map (variable u) (range_with_len (a + 1) m) ++ rest)) final
variables_read text u a zero at rest final few within s others =
    let same : a + 0 ≡ a = omega arith in
    subst (λ k. Reads text (reading u k [] 0 None) (items_from at rest) final) same (others at s)
variables_read text u a (suc m) at rest final few within s others =
    let l = variable u (a + 1) in
    let ts = tokens_at at l in
    let is = variable_item text at u a few s.0 in
    let same : a + suc m ≡ a + 1 + m = omega arith in
    reads_one text (reading u a [] 0 None) (reading u (a + 1) [] 0 None) final (item_at at l) (items_from (at + length (bytes_in l)) (map (variable u) (range_with_len (a + 1 + 1) m) ++ rest))
    (clean_has_none text (reading u a [] 0 None) (item_at at l).what (variable_clean text u a (nth ts 1) (nth ts 3) (nth ts 5) (omega arith) is))
    (variable_leaves text u a (nth ts 1) (nth ts 3) (nth ts 5) is)
    (variables_read text u (a + 1) m (at + length (bytes_in l)) rest final few (omega arith) s.1
    (λ place t. subst (λ k. Reads text (reading u k [] 0 None) (items_from place rest) final) same (others place t)))

order_item : (text : List ℕ) (at n a b d : ℕ) → n ≤ 2000 → IsOrder n a b d → AreSpelled text at (pieces_of (order a b d))
    → let ts = tokens_at at (order a b d) in IsOrderItem text n a b d (nth ts 1) (nth ts 4) (nth ts 6) (nth ts 10) (nth ts 12) (nth ts 15)
order_item text at n a b d few w s =
    let counted = w.counted in
    let rises = w.rises in
    let within = w.within in
    let small = w.small in
    let s5 = s.1.1.1.1.1 in
    let s7 = s5.1.1 in
    let s11 = s7.1.1.1.1 in
    let s13 = s11.1.1 in
    let s16 = s13.1.1.1 in
    record {
      sum_is = s.1.1.0;
      one_is = number_is text _ (codes "1") (pos 1) s5.0 number_one;
      minus_is = number_is text _ (codes "-1") _ s7.0 number_minus_one;
      first_is = ap (λ x. meaning_of (scope_of n) x) s11.0 ∙ name_known n a (omega arith) (omega arith) (omega arith);
      second_is = ap (λ x. meaning_of (scope_of n) x) s13.0 ∙ name_known n b (omega arith) (omega arith) (omega arith);
      gap_is = number_is text _ (45 ∷ decimal d) (neg_ℤ (pos d)) s16.0 (number_negative d (omega arith));
    }

abbrev pub constraint_of : ℕ → ℕ → Constraint
constraint_of n j = order_constraint (order_of n j).first (order_of n j).second (order_of n j).gap

orders_read : (text : List ℕ) (u n k at : ℕ) (cs : List Constraint) (js : List ℕ) (rest : List Line) (final : Reading) → 2 ≤ n → n ≤ 2000 → k + length js ≤ 8000
    → Stand text at (map (order_line_of n) js ++ rest)
    → ((place : ℕ) → Stand text place rest → Reads text (reading u n (cs ++ map (constraint_of n) js) (k + length js) None) (items_from place rest) final)
    → Reads text (reading u n cs k None) (items_from at (map (order_line_of n) js ++ rest)) final
orders_read text u n k at cs [] rest final two few less s others =
    let same : k + 0 ≡ k = omega arith in
    subst (λ x. Reads text (reading u n x k None) (items_from at rest) final) (append-nil cs)
    (subst (λ x. Reads text (reading u n (cs ++ []) x None) (items_from at rest) final) same (others at s))
orders_read text u n k at cs (j ∷ js) rest final two few less s others =
    let o = order_of n j in
    let l = order_line_of n j in
    let ts = tokens_at at l in
    let is = order_item text at n o.first o.second o.gap few (order_is n j two) s.0 in
    let same : k + suc (length js) ≡ k + 1 + length js = omega arith in
    let next : cs ++ constraint_of n j ∷ map (constraint_of n) js ≡ (cs ++ constraint_of n j ∷ []) ++ map (constraint_of n) js = sym (append_assoc cs (constraint_of n j ∷ []) (map (constraint_of n) js)) in
    reads_one text (reading u n cs k None) (reading u n (cs ++ constraint_of n j ∷ []) (k + 1) None) final (item_at at l) (items_from (at + length (bytes_in l)) (map (order_line_of n) js ++ rest))
    (clean_has_none text (reading u n cs k None) (item_at at l).what
    (order_clean text u n k o.first o.second o.gap cs (nth ts 1) (nth ts 4) (nth ts 6) (nth ts 10) (nth ts 12) (nth ts 15) few (omega arith) is))
    (order_leaves text u n k o.first o.second o.gap cs (nth ts 1) (nth ts 4) (nth ts 6) (nth ts 10) (nth ts 12) (nth ts 15) is)
    (orders_read text u n (k + 1) (at + length (bytes_in l)) (cs ++ constraint_of n j ∷ []) js rest final two few (omega arith) s.1
    (λ place t. subst (λ x. Reads text (reading u n x (k + 1 + length js) None) (items_from place rest) final) next
    (subst (λ x. Reads text (reading u n (cs ++ constraint_of n j ∷ map (constraint_of n) js) x None) (items_from place rest) final) same (others place t))))

goal_read : (text : List ℕ) (u n k at : ℕ) (cs : List Constraint) → 2 ≤ n → n ≤ 2000 → k ≤ 8000 → Stand text at (goal n ∷ [])
    → Reads text (reading u n cs k None) (items_from at (goal n ∷ [])) (reading u n cs k (Some (asked n)))
goal_read text u n k at cs two few less s =
    let ts = tokens_at at (goal n) in
    let is = ap (λ x. meaning_of (scope_of n) x) s.0.1.1.1.1.0 ∙ name_known n n (omega arith) (omega arith) (omega arith) in
    reads_one text (reading u n cs k None) (reading u n cs k (Some (asked n))) (reading u n cs k (Some (asked n))) (item_at at (goal n)) []
    (clean_has_none text (reading u n cs k None) (item_at at (goal n)).what (goal_clean text u n k cs (nth ts 2) few less is))
    (goal_leaves text u n k cs (nth ts 2) is)
    (reads_nothing text (reading u n cs k (Some (asked n))))

abbrev pub constraints : ℕ → List Constraint
constraints n = map (constraint_of n) (range_with_len 0 (4 * n))

-- no line has a fault, and this is read of them
pub lines_mean : (text : List ℕ) (n : ℕ) → 2 ≤ n → n ≤ 2000 → Stand text 0 (lines n)
    → Reads text (reading (9 * n) 0 [] 0 None) (items_from 0 (lines n)) (reading (9 * n) n (constraints n) (4 * n) (Some (asked n)))
lines_mean text n two few s =
    let js = range_with_len 0 (4 * n) in
    let size : length js ≡ 4 * n = length-range_with_len 0 (4 * n) in
    let count : 0 + length js ≡ 4 * n = omega arith in
    let last = reading (9 * n) n (constraints n) (4 * n) (Some (asked n)) in
    let all : n ≡ 0 + n = omega arith in
    let rest = map (order_line_of n) js ++ goal n ∷ [] in
    variables_read text (9 * n) 0 n 0 rest last (omega arith) (omega arith) s
    (λ place t. subst (λ x. Reads text (reading (9 * n) x [] 0 None) (items_from place rest) last) all
    (orders_read text (9 * n) n 0 place [] js (goal n ∷ []) last two few (omega arith) t
    (λ behind r. subst (λ k. Reads text (reading (9 * n) n (constraints n) k None) (items_from behind (goal n ∷ [])) last) (sym count) (goal_read text (9 * n) n (4 * n) behind (constraints n) two few (omega arith) r))))

-- ---- how many there are

orders_count : (n k : ℕ) (js : List ℕ) → fold (λ a c. a + kernels_of c) k (map (constraint_of n) js) ≡ k + length js
orders_count n k [] = omega arith
orders_count n k (j ∷ js) =
    let one : kernels_of (constraint_of n j) ≡ 1 = order_is_one (order_of n j).first (order_of n j).second (order_of n j).gap in
    let rest = orders_count n (k + kernels_of (constraint_of n j)) js in
    omega arith

pub constraints_count : (n : ℕ) → sum_by kernels_of (constraints n) ≡ 4 * n
constraints_count n = orders_count n 0 (range_with_len 0 (4 * n)) ∙ omega (arith, length-range_with_len 0 (4 * n))

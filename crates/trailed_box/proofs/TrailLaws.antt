-- Changes that are undone, and the boxes at marks.
use Rattle.std.proofs.Common.{◌≡◌, ◌≢◌, ℕ, zero, suc, ◌+◌, ◌-◌, ◌<◌, ◌≤◌, List, [], ◌∷◌, ◌++◌, length, get_or, set, take, drop, map, ℤ, pos, w64, to_z, of_z, refl, sym, ◌∙◌, ap, subst, ⊎_elim, arith}
use mir.Val.{SFits}
use Rattle.std.specs.Prelude.{All, Result, Ok, Err, OnOk}
use Rattle.std.proofs.lemmas.Bool.{cases_eq}
use Rattle.std.proofs.lemmas.Int.{to_z-of_z}
use Rattle.std.proofs.lemmas.List.{length-set, length-drop, length-append, length-take-le, set-set, set_comm, set-get_or, get_or-drop, get_or_append_left, get_or_push, drop-append-le, drop_all, at_drop_more, take-append-drop, map-append}
use Rattle.std.proofs.lemmas.List.Elements.{All-head, All-tail, All-push, All-take}
use Rattle.std.proofs.lemmas.List.Quantifiers.{all_pairs_push}
use Rattle.interval.specs.Boxes.{Bounds, low_of, high_of, put_of}
use Rattle.trailed_box.specs.Trailed.{Left, left_of, IsPart}
use Rattle.trailed_box.specs.Trail.{undone, left_at, stack_of, var_at, AreOn, AreParts, Spares, Appends}
use Rattle.trailed_box.specs.declared.trail.Change.{Change}
use Rattle.trailed_box.specs.declared.trail.Mark.{Mark}

pub undone-append : (xs ys : List Change) (b : Bounds) → undone (xs ++ ys) b ≡ undone xs (undone ys b)
unfolding undone
undone-append [] ys b = refl
undone-append (x ∷ xs) ys b = ap (λ (d : Bounds). put_of d x.var x.low x.high) (undone-append xs ys b)

pub length-undone : (xs : List Change) (b : Bounds) → length (undone xs b) ≡ length b
unfolding undone
length-undone [] b = refl
length-undone (x ∷ xs) b = length-set (undone xs b) x.var (x.low, x.high) ∙ length-undone xs b

-- what the variable v was before it is written is lost
undone-hidden : (xs : List Change) (b : Bounds) (v : ℕ) (p q : ℤ × ℤ) → set (undone xs (set b v p)) v q ≡ set (undone xs b) v q
unfolding undone
undone-hidden [] b v p q = set-set b v p q
undone-hidden (x ∷ xs) b v p q =
    let r : ℤ × ℤ = (x.low, x.high) in
    let before : Bounds = undone xs (set b v p) in
    let after : Bounds = undone xs b in
    let rest = undone-hidden xs b v p q in
    let same : x.var ≡ v → set (set before x.var r) v q ≡ set (set after x.var r) v q =
    λ e. ap (λ (w : ℕ). set (set before w r) v q) e ∙ set-set before v r q ∙ rest ∙ sym (set-set after v r q) ∙ sym (ap (λ (w : ℕ). set (set after w r) v q) e) in
    let other : x.var ≢ v → set (set before x.var r) v q ≡ set (set after x.var r) v q =
    λ ne. set_comm before x.var v r q ne ∙ ap (λ (d : Bounds). set d x.var r) rest ∙ sym (set_comm after x.var v r q ne) in
    ⊎_elim same other (cases_eq x.var v)

-- where a change of the variable v is undone, it doesn't matter what v is now
pub undone-put : (xs : List Change) (k : ℕ) (b : Bounds) (v : ℕ) (p : ℤ × ℤ) → k < length xs → var_at xs k ≡ v → undone xs (set b v p) ≡ undone xs b
unfolding undone
undone-put [] k b v p h e = absurd (omega arith)
undone-put (x ∷ xs) zero b v p h e =
    subst (λ (w : ℕ). set (undone xs (set b w p)) x.var (x.low, x.high) ≡ set (undone xs b) x.var (x.low, x.high)) e (undone-hidden xs b x.var p (x.low, x.high))
undone-put (x ∷ xs) (suc k) b v p h e = ap (λ (d : Bounds). put_of d x.var x.low x.high) (undone-put xs k b v p (omega arith) e)

-- a change at the end of the trail is the first that is undone
undone-push : (xs : List Change) (b : Bounds) (v earlier : ℕ) (p : ℤ × ℤ) → undone (xs ++ record { var = v; earlier = earlier; low = low_of b v; high = high_of b v } ∷ []) (set b v p) ≡ undone xs b
unfolding undone
undone-push xs b v earlier p =
    let q : ℤ × ℤ = (low_of b v, high_of b v) in
    undone-append xs (record { var = v; earlier = earlier; low = low_of b v; high = high_of b v } ∷ []) (set b v p)
    ∙ ap (undone xs) (set-set b v p q ∙ set-get_or b v (pos 0, pos 0))

-- ---- a change that is noted

pub spares_noted : (marks : List Mark) (trail : List Change) (b : Bounds) (v from place : ℕ)
    → All (λ m. m.from ≤ from) marks → from ≤ place → place < length trail → var_at trail place ≡ v → Spares marks trail trail b v
spares_noted marks trail b v from place before since there var = record {
  boxes = λ low high j d h.
      let m : Mark = get_or marks j d in
      let le : m.from ≤ from = before j d h in
      let none : Change = record { var = 0; earlier = 0; low = pos 0; high = pos 0 } in
      let sum : m.from + (place - m.from) ≡ place = omega arith in
      let at : get_or (drop m.from trail) (place - m.from) none ≡ get_or trail place none =
      get_or-drop m.from trail (place - m.from) none ∙ ap (λ (k : ℕ). get_or trail k none) sum in
      undone-put (drop m.from trail) (place - m.from) b v (low, high) (omega (arith, length-drop m.from trail)) (ap (λ (c : Change). c.var) at ∙ var);
}

pub spares_appended : (marks : List Mark) (old new : List Change) (b : Bounds) (v : ℕ)
    → All (λ m. m.from ≤ length old) marks → Appends b v old new → Spares marks old new b v
spares_appended marks old new b v within appends = record {
  boxes = λ low high j d h.
      let m : Mark = get_or marks j d in
      let c : Change = record { var = v; earlier = appends.0; low = low_of b v; high = high_of b v } in
      let le : m.from ≤ length old = within j d h in
      let split : drop m.from new ≡ drop m.from old ++ c ∷ [] = ap (drop m.from) appends.1 ∙ drop-append-le m.from old (c ∷ []) le in
      ap (λ (cs : List Change). undone cs (put_of b v low high)) split ∙ undone-push (drop m.from old) b v appends.0 (low, high);
}

-- no mark lies behind the last one
pub before_last : (trail : List Change) (marks : List Mark) (last : Mark) → AreOn trail marks → ((d : Mark) → last ≡ get_or marks (length marks - 1) d) → All (λ m. m.from ≤ last.from) marks
before_last trail marks last on is j d h =
    let from_is : last.from ≡ (get_or marks (length marks - 1) d).from = ap (λ (m : Mark). m.from) (is d) in
    let at_last : j ≡ length marks - 1 → (get_or marks j d).from ≤ last.from =
    λ e. let same : (get_or marks j d).from ≡ (get_or marks (length marks - 1) d).from = ap (λ (k : ℕ). (get_or marks k d).from) e in omega arith in
    let before : j ≢ length marks - 1 → (get_or marks j d).from ≤ last.from =
    λ ne. let rises = on.rising j (length marks - 1) d (omega arith) (omega arith) in omega arith in
    ⊎_elim at_last before (cases_eq j (length marks - 1))

-- ---- marks and parts

pub on_appended : (marks : List Mark) (old new : List Change) (b : Bounds) (v : ℕ) → AreOn old marks → Appends b v old new → AreOn new marks
on_appended marks old new b v on appends = record {
  within = λ j d h.
      let le = on.within j d h in
      omega (arith, ap length appends.1, length-append {A = Change});
  rising = on.rising;
}

pub on_push : (trail : List Change) (marks : List Mark) (m : Mark) → m.from ≡ length trail → AreOn trail marks → AreOn trail (marks ++ m ∷ [])
on_push trail marks m is on = record {
  within = All-push (λ n. n.from ≤ length trail) marks m on.within (omega arith);
  rising = all_pairs_push (λ m n. m.from ≤ n.from) marks m on.rising (λ k d h. let le = on.within k d h in omega arith);
}

-- what is so of the last mark
last_within : (trail : List Change) (marks : List Mark) (m : Mark) → AreOn trail (marks ++ m ∷ []) → m.from ≤ length trail
last_within trail marks m on =
    let within = on.within (length marks) m (omega (arith, length-append marks (m ∷ []))) in
    let is = get_or_push marks m m (length marks) refl in
    omega (arith, ap (λ (n : Mark). n.from) is)

-- no mark lies behind the last one
earlier_within : (trail : List Change) (marks : List Mark) (m : Mark) → AreOn trail (marks ++ m ∷ []) → All (λ n. n.from ≤ m.from) marks
earlier_within trail marks m on j d h =
    let rises = on.rising j (length marks) d h (omega (arith, length-append marks (m ∷ []))) in
    let first = get_or_append_left marks (m ∷ []) d j h in
    let second = get_or_push marks m d (length marks) refl in
    omega (arith, ap (λ (n : Mark). n.from) first, ap (λ (n : Mark). n.from) second)

-- the boxes at the earlier marks stay where the last mark is taken off
at_kept : (trail : List Change) (b : Bounds) (from n : ℕ) → n ≤ from → from ≤ length trail
    → undone (drop n (take from trail)) (undone (drop from trail) b) ≡ undone (drop n trail) b
at_kept trail b from n le within =
    sym (undone-append (drop n (take from trail)) (drop from trail) b)
    ∙ ap (λ (cs : List Change). undone cs b)
    (sym (drop-append-le n (take from trail) (drop from trail) (omega (arith, length-take-le from trail within)))
    ∙ ap (drop n) (take-append-drop from trail))

-- what is so of marks holds without the last
pub on_pop : (trail : List Change) (marks : List Mark) (m : Mark) → AreOn trail (marks ++ m ∷ []) → AreOn (take m.from trail) marks
on_pop trail marks m on =
    let whole = length-append marks (m ∷ []) in
    record {
      within = λ j d h.
          let e = length-take-le m.from trail (last_within trail marks m on) in
          let le = earlier_within trail marks m on j d h in
          omega arith;
      rising = λ i j d lt h.
          let le : (get_or (marks ++ m ∷ []) i d).from ≤ (get_or (marks ++ m ∷ []) j d).from = on.rising i j d lt (omega arith) in
          let first = get_or_append_left marks (m ∷ []) d i (omega arith) in
          let second = get_or_append_left marks (m ∷ []) d j h in
          omega (arith, ap (λ (n : Mark). n.from) first, ap (λ (n : Mark). n.from) second);
    }

map_same : (f g : Mark → Left) (marks : List Mark) → All (λ m. f m ≡ g m) marks → map f marks ≡ map g marks
map_same f g [] same = refl
map_same f g (m ∷ marks) same =
    let head : f m ≡ g m = All-head (λ n. f n ≡ g n) m marks same in
    let rest : map f marks ≡ map g marks = map_same f g marks (All-tail (λ n. f n ≡ g n) m marks same) in
    cc

-- ---- stacks

pub stack_spared : (marks : List Mark) (old new : List Change) (b : Bounds) (v : ℕ) (low high : ℤ)
    → Spares marks old new b v → stack_of new (put_of b v low high) marks ≡ stack_of old b marks
stack_spared marks old new b v low high spares =
    map_same (left_at new (put_of b v low high)) (left_at old b) marks
    (λ j d h. ap (λ (a : Bounds). left_of a (get_or marks j d).part.var (get_or marks j d).part.low (get_or marks j d).part.high) (spares.boxes low high j d h))

pub at_end : (trail : List Change) (b : Bounds) (from : ℕ) → from ≡ length trail → undone (drop from trail) b ≡ b
unfolding undone
at_end trail b from is = ap (λ (cs : List Change). undone cs b) (drop_all from trail (omega arith))

pub stack_push : (trail : List Change) (b : Bounds) (marks : List Mark) (m : Mark) → m.from ≡ length trail
    → stack_of trail b (marks ++ m ∷ []) ≡ stack_of trail b marks ++ left_of b m.part.var m.part.low m.part.high ∷ []
stack_push trail b marks m is =
    map-append (left_at trail b) marks (m ∷ []) ∙ ap (λ (a : Bounds). stack_of trail b marks ++ left_of a m.part.var m.part.low m.part.high ∷ []) (at_end trail b m.from is)

pub stack_pop : (trail : List Change) (b : Bounds) (marks : List Mark) (m : Mark) → AreOn trail (marks ++ m ∷ [])
    → stack_of trail b (marks ++ m ∷ []) ≡ stack_of (take m.from trail) (undone (drop m.from trail) b) marks ++ left_of (undone (drop m.from trail) b) m.part.var m.part.low m.part.high ∷ []
stack_pop trail b marks m on =
    map-append (left_at trail b) marks (m ∷ [])
    ∙ ap (λ (ls : List Left). ls ++ left_at trail b m ∷ [])
    (sym (map_same (left_at (take m.from trail) (undone (drop m.from trail) b)) (left_at trail b) marks
    (λ j d h.
    let n : Mark = get_or marks j d in
    ap (λ (a : Bounds). left_of a n.part.var n.part.low n.part.high)
    (at_kept trail b m.from n.from (earlier_within trail marks m on j d h) (last_within trail marks m on)))))

-- ---- going back

pub undone_more : (trail : List Change) (b : Bounds) (place : ℕ) (c : Change) → place < length trail → c ≡ get_or trail place c
    → undone (drop place trail) b ≡ put_of (undone (drop (place + 1) trail) b) c.var c.low c.high
unfolding undone
undone_more trail b place c h is =
    let more = at_drop_more (λ (cs : List Change). undone cs b) trail place c h in
    let step : undone (get_or trail place c ∷ drop (place + 1) trail) b ≡ put_of (undone (drop (place + 1) trail) b) c.var c.low c.high =
    ap (λ (x : Change). put_of (undone (drop (place + 1) trail) b) x.var x.low x.high) (sym is) in
    more ∙ step

-- one change more is undone
pub undone_step : (trail : List Change) (b now : Bounds) (place : ℕ) (c : Change) → 0 < place → place ≤ length trail → c ≡ get_or trail (place - 1) c → now ≡ undone (drop place trail) b
    → put_of now c.var c.low c.high ≡ undone (drop (place - 1) trail) b
undone_step trail b now place c above within is now_is =
    let next : place - 1 + 1 ≡ place = omega arith in
    ap (λ (d : Bounds). put_of d c.var c.low c.high) (now_is ∙ ap (λ (k : ℕ). undone (drop k trail) b) (sym next))
    ∙ sym (undone_more trail b (place - 1) c (omega arith) is)

-- the part of a mark that is taken off
pub part_pop : (count : ℕ) (trail : List Change) (marks : List Mark) (m : Mark) → AreParts count trail (marks ++ m ∷ []) → IsPart count m.part.var m.part.low m.part.high
part_pop count trail marks m are =
    let F : Mark → Type 0 = λ n. IsPart count n.part.var n.part.low n.part.high in
    subst F (get_or_push marks m m (length marks) refl) (are.parts (length marks) m (omega (arith, length-append marks (m ∷ []))))

pub parts_pop : (count from : ℕ) (trail : List Change) (marks : List Mark) (m : Mark) → AreParts count trail (marks ++ m ∷ []) → AreParts count (take from trail) marks
parts_pop count from trail marks m are = record {
  changes = All-take (λ c. IsPart count c.var c.low c.high) from trail are.changes;
  parts = λ j d h.
      let F : Mark → Type 0 = λ n. IsPart count n.part.var n.part.low n.part.high in
      subst F (get_or_append_left marks (m ∷ []) d j h) (are.parts j d (omega (arith, length-append marks (m ∷ []))));
}

pub parts_push : (count : ℕ) (trail : List Change) (marks : List Mark) (m : Mark) → IsPart count m.part.var m.part.low m.part.high → AreParts count trail marks → AreParts count trail (marks ++ m ∷ [])
parts_push count trail marks m is are = record {
  changes = are.changes;
  parts = All-push (λ n. IsPart count n.part.var n.part.low n.part.high) marks m are.parts is;
}

pub changes_appended : (count : ℕ) (old new : List Change) (b : Bounds) (v : ℕ) → IsPart count v (low_of b v) (high_of b v) → Appends b v old new
    → All (λ c. IsPart count c.var c.low c.high) old → All (λ c. IsPart count c.var c.low c.high) new
changes_appended count old new b v is appends are =
    let c : Change = record { var = v; earlier = appends.0; low = low_of b v; high = high_of b v } in
    let F : Change → Type 0 = λ x. IsPart count x.var x.low x.high in
    subst (All F) (sym appends.1) (All-push F old c are is)

-- ---- the steps of a trailed box

pub put_cast : (b : Bounds) (v : ℕ) (low high : ℤ) → SFits w64 low → SFits w64 high → put_of b v (to_z w64 (of_z w64 low)) (to_z w64 (of_z w64 high)) ≡ put_of b v low high
put_cast b v low high l h =
    ap (λ (z : ℤ). put_of b v z (to_z w64 (of_z w64 high))) (to_z-of_z w64 low l) ∙ ap (put_of b v low) (to_z-of_z w64 high h)

pub stack_after_put : (marks lent : List Mark) (old new : List Change) (b now : Bounds) (v : ℕ) (low high : ℤ)
    → lent ≡ marks → now ≡ put_of b v low high → Spares lent old new b v → stack_of new now marks ≡ stack_of old b marks
stack_after_put marks lent old new b now v low high is now_is spares =
    ap (λ (a : Bounds). stack_of new a marks) now_is ∙ stack_spared marks old new b v low high (subst (λ (ms : List Mark). Spares ms old new b v) is spares)

pub stack_after_push : (trail : List Change) (b : Bounds) (marks new : List Mark) (m : Mark) → new ≡ marks ++ m ∷ [] → m.from ≡ length trail
    → stack_of trail b new ≡ stack_of trail b marks ++ left_of b m.part.var m.part.low m.part.high ∷ []
stack_after_push trail b marks new m is from = ap (stack_of trail b) is ∙ stack_push trail b marks m from

pub on_after_push : (trail : List Change) (marks new : List Mark) (m : Mark) → new ≡ marks ++ m ∷ [] → m.from ≡ length trail → AreOn trail marks → AreOn trail new
on_after_push trail marks new m is from on = subst (AreOn trail) (sym is) (on_push trail marks m from on)

pub parts_after_push : (count : ℕ) (trail : List Change) (marks new : List Mark) (m : Mark) → new ≡ marks ++ m ∷ [] → IsPart count m.part.var m.part.low m.part.high → AreParts count trail marks → AreParts count trail new
parts_after_push count trail marks new m is part are = subst (AreParts count trail) (sym is) (parts_push count trail marks m part are)

pub stack_after_pop : (old new : List Change) (b now : Bounds) (marks rest : List Mark) (m : Mark)
    → marks ≡ rest ++ m ∷ [] → new ≡ take m.from old → now ≡ undone (drop m.from old) b → AreOn old marks
    → stack_of old b marks ≡ stack_of new now rest ++ left_of now m.part.var m.part.low m.part.high ∷ []
stack_after_pop old new b now marks rest m is new_is now_is on =
    ap (stack_of old b) is ∙ stack_pop old b rest m (subst (AreOn old) is on)
    ∙ ap (λ (a : Bounds). stack_of (take m.from old) a rest ++ left_of a m.part.var m.part.low m.part.high ∷ []) (sym now_is)
    ∙ ap (λ (cs : List Change). stack_of cs now rest ++ left_of now m.part.var m.part.low m.part.high ∷ []) (sym new_is)

pub on_after_pop : (old new : List Change) (marks rest : List Mark) (m : Mark) → marks ≡ rest ++ m ∷ [] → new ≡ take m.from old → AreOn old marks → AreOn new rest
on_after_pop old new marks rest m is new_is on = subst (λ (cs : List Change). AreOn cs rest) (sym new_is) (on_pop old rest m (subst (AreOn old) is on))

pub parts_after_pop : (count length_now : ℕ) (old new : List Change) (marks rest : List Mark) (m : Mark)
    → length_now ≡ count → marks ≡ rest ++ m ∷ [] → new ≡ take m.from old → AreParts count old marks → AreParts length_now new rest
parts_after_pop count length_now old new marks rest m same is new_is are =
    let taken = parts_pop count m.from old rest m (subst (AreParts count old) is are) in
    let there : AreParts count new rest = subst (λ (cs : List Change). AreParts count cs rest) (sym new_is) taken in
    subst (λ (n : ℕ). AreParts n new rest) (sym same) there

pub part_after_pop : (count length_now : ℕ) (trail : List Change) (marks rest : List Mark) (m : Mark)
    → length_now ≡ count → marks ≡ rest ++ m ∷ [] → AreParts count trail marks → IsPart length_now m.part.var m.part.low m.part.high
part_after_pop count length_now trail marks rest m same is are =
    subst (λ (n : ℕ). IsPart n m.part.var m.part.low m.part.high) (sym same) (part_pop count trail rest m (subst (AreParts count trail) is are))

-- ---- outcomes

pub on_ok : {T E : Type 0} {P Q : Type 0} (r : Result T E) → (P → Q) → OnOk r P → OnOk r Q
on_ok (Ok x) f h = f h
on_ok (Err e) f h = h

pub on_ok_both : {T E : Type 0} {P Q R : Type 0} (r : Result T E) → (P → Q → R) → OnOk r P → OnOk r Q → OnOk r R
on_ok_both (Ok x) f h k = f h k
on_ok_both (Err e) f h k = h

-- The words of an epoch, opened pair by pair, and the bounds of a box, written one by one.
use Rattle.std.proofs.Common.{ℕ, ℤ, pos, zero, suc, ◌≡◌, ◌≢◌, ◌+◌, ◌*◌, ◌<◌, ◌≤◌, ◌≤ℤ◌, List, [], ◌∷◌, length, Bool, true, false, refl, sym, ap, ◌∙◌, subst, arith, length-set, get_or-set_other}
use Rattle.std.specs.Prelude.{slice_index, slice_set, Option, Some, None, IfSome}
use mathlib.Core.Option.{some, some-injective, some-ne-none}
use mathlib.Core.Logic.{dite}
use native.Mathlib.Decide.{ℕ_discrete}
use lib.ListN.{get_elem?}
use Rattle.std.proofs.lemmas.Grind.{get_or-set_at}
use Rattle.atomic_table.specs.Table.{Me, Final, Seen}
use Rattle.atomic_table.specs.Seated.{TableId}
use Rattle.interval.specs.Boxes.{Bounds, low_of, high_of, put_of, IsInRange, IsInside}
use Rattle.lattice_store.specs.declared.table.View.{View}
use Rattle.lattice_store.specs.declared.seat.Seat.{Seat}
use Rattle.lattice_store.specs.Words.{word_of, epoch_of, code_of, IsCode, IsOriginOf, ceiling, codes_of, low_value, high_value}
use Rattle.lattice_store.specs.Rule.{Keeps, opened_by, begun}
use Rattle.lattice_store.specs.Steps.{MayTell, IsReady, Opening}
use Rattle.lattice_store.specs.Standing.{Stands, IsOwnWord, AreWordsOf}
use Rattle.lattice_store.specs.Seats.{IsFloorIn, seen_of, floor_of, IsFirst}
use Rattle.lattice_store.proofs.WordLaws.{origin-for, code-rises, rises, low-rises, high-falls}
use Rattle.lattice_store.proofs.BoxLaws.{box-low, box-high}
use Rattle.lattice_store.proofs.Starting.{start_word, start_stands}
use Rattle.lattice_store.proofs.Showing.{floor_low, floor_high}

pub may_open : (id : TableId) (me : Me ℕ View) (seen : List ℕ) (start : Bounds) (floor : Option Bounds) (epoch k x : ℕ) → Opening id me seen start floor epoch k → IsInRange start → IsFloorIn floor start → 1 ≤ k → k < 2 * length start + 1 → x ≡ word_of epoch (slice_index (codes_of start) k) → MayTell me.0 k x
may_open id me seen start floor epoch k x o r f one lt is =
    let w = start_word epoch start floor x k r f is one lt in
    record { code = w.code; epoch = w.epoch_is ∙ sym o.epoch_is; held = subst (λ (g : Option Bounds). code_of x ≤ ceiling g k) (sym o.floor_is) w.held }

pub opened_one : (id id' : TableId) (me me' : Me ℕ View) (seen : List ℕ) (start : Bounds) (floor : Option Bounds) (epoch k k' x : ℕ) → Opening id me seen start floor epoch k → id' ≡ id → k' ≡ k → me'.1 ≡ me.1 → me'.0 ≡ opened_by me.0 k' x → k < length seen → x ≡ word_of epoch (slice_index (codes_of start) k)
    → Opening id' me' (slice_set seen k' x) start floor epoch (k + 1)
opened_one id id' me me' seen start floor epoch k k' x o ids same slots view lt is = record {
  is = record { live = ap (λ (v : View). v.live) view ∙ o.is.live; fresh = ap (λ (v : View). v.fresh) view ∙ o.is.fresh; first = ap (λ (v : View). v.first) view ∙ o.is.first };
  empty = slots ∙ o.empty;
  past = ap (λ (v : View). v.past) view ∙ o.past;
  epoch_is = ap (λ (v : View). v.epoch) view ∙ o.epoch_is;
  floor_is = ap (λ (v : View). v.floor) view ∙ o.floor_is;
  opened = ap (λ (v : View). v.opened) view ∙ ap (λ (n : ℕ). n + 1) same;
  seen_is = ap (λ (v : View). v.seen) view ∙ ap (λ (l : List ℕ). slice_set l k' x) o.seen_is;
  length_is = length-set seen k' x ∙ o.length_is;
  words = length-set seen k' x ∙ o.words ∙ ap (λ (z : TableId). z.words) (sym ids);
  slots = ap (λ (z : TableId). z.slots) ids ∙ o.slots;
  each = λ j one h. dite (ℕ_discrete j k')
      (λ (e : j ≡ k'). get_or-set_at seen k' j x 0 e (omega arith) ∙ is ∙ ap (λ (n : ℕ). word_of epoch (slice_index (codes_of start) n)) (sym (e ∙ same)))
      (λ (ne : j ≢ k'). get_or-set_other seen k' j x 0 ne ∙ o.each j one (omega arith));
}

pub began_opening : (id id' : TableId) (me me' : Me ℕ View) (seen : List ℕ) (start : Bounds) (floor : Option Bounds) (epoch : ℕ) → IsReady me.0 → me.0.first ≡ true → me.1 ≡ [] → me.0.past ≡ false → me.0.epoch + 1 ≡ epoch → me.0.seen ≡ seen → length seen ≡ 2 * length start + 1 → length seen ≡ id.words → id.slots ≡ 0
    → id' ≡ id → me'.1 ≡ me.1 → me'.0 ≡ begun me.0 floor → Opening id' me' seen start floor epoch 1
began_opening id id' me me' seen start floor epoch ready first empty past next seen_is len words slots ids same view = record {
  is = record { live = ap (λ (v : View). v.live) view ∙ ready.live; fresh = ap (λ (v : View). v.fresh) view ∙ ready.fresh; first = ap (λ (v : View). v.first) view ∙ first };
  empty = same ∙ empty;
  past = ap (λ (v : View). v.past) view ∙ past;
  epoch_is = ap (λ (v : View). v.epoch) view ∙ next;
  floor_is = ap (λ (v : View). v.floor) view;
  opened = ap (λ (v : View). v.opened) view;
  seen_is = ap (λ (v : View). v.seen) view ∙ seen_is;
  length_is = len;
  words = words ∙ ap (λ (z : TableId). z.words) (sym ids);
  slots = ap (λ (z : TableId). z.slots) ids ∙ slots;
  each = λ j one h. absurd (omega arith);
}

-- all words are opened
pub words_opened : (id : TableId) (me : Me ℕ View) (seen : List ℕ) (start : Bounds) (floor : Option Bounds) (epoch : ℕ) → Opening id me seen start floor epoch (2 * length start + 1) → AreWordsOf epoch start seen
words_opened id me seen start floor epoch o = record { length_is = o.length_is; each = λ k one lt. o.each k one (let n = o.length_is in omega arith) }

pub opened_stands : (id : TableId) (me : Me ℕ View) (seen : List ℕ) (start : Bounds) (floor : Option Bounds) (epoch : ℕ) (past : Bool) → Opening id me seen start floor epoch (2 * length start + 1) → IsInRange start → IsFloorIn floor start → past ≡ false → Stands id me seen epoch past
opened_stands id me seen start floor epoch past o r f e =
    subst (λ (p : Bool). Stands id me seen epoch p) (sym e)
    (start_stands id me floor epoch seen start
    record { live = o.is.live; fresh = o.is.fresh; opened = o.opened ∙ sym o.length_is; empty = o.empty; epoch_is = o.epoch_is; past = o.past; seen = o.seen_is; floor_is = o.floor_is; words = o.words; slots = o.slots } r f (words_opened id me seen start floor epoch o))

pub elem_index : (l : List ℕ) (k x : ℕ) → get_elem? l k ≡ some x → slice_index l k ≡ x
elem_index [] k x e = absurd (some-ne-none x (sym e))
elem_index (y ∷ l) zero x e = some-injective y x e
elem_index (y ∷ l) (suc k) x e = elem_index l k x e

pub put_low : (b : Bounds) (v u : ℕ) (x y : ℤ) → v < length b → u ≡ v → low_of (put_of b v x y) u ≡ x
put_low b v u x y h e = ap (λ (p : ℤ × ℤ). p.0) (get_or-set_at b v u (x, y) (pos 0, pos 0) e h)

pub put_high : (b : Bounds) (v u : ℕ) (x y : ℤ) → v < length b → u ≡ v → high_of (put_of b v x y) u ≡ y
put_high b v u x y h e = ap (λ (p : ℤ × ℤ). p.1) (get_or-set_at b v u (x, y) (pos 0, pos 0) e h)

pub put_low_else : (b : Bounds) (v u : ℕ) (x y : ℤ) → u ≢ v → low_of (put_of b v x y) u ≡ low_of b u
put_low_else b v u x y ne = ap (λ (p : ℤ × ℤ). p.0) (get_or-set_other b v u (x, y) (pos 0, pos 0) ne)

pub put_high_else : (b : Bounds) (v u : ℕ) (x y : ℤ) → u ≢ v → high_of (put_of b v x y) u ≡ high_of b u
put_high_else b v u x y ne = ap (λ (p : ℤ × ℤ). p.1) (get_or-set_other b v u (x, y) (pos 0, pos 0) ne)

pub put_length : (b : Bounds) (v : ℕ) (x y : ℤ) → length (put_of b v x y) ≡ length b
put_length b v x y = length-set b v (x, y)

-- what the first seat knows of the words at the end
pub record AtEnd (words : List ℕ) (s : Seat) : Type 0 where
  pub length_is : length words ≡ length s.seen.items
  pub each : (k : ℕ) → 1 ≤ k → k < length words → IsOwnWord s.epoch (floor_of s) k (slice_index words k) × (slice_index s.seen.items k ≤ slice_index words k)

pub at_end : (words xs : List ℕ) (s : Seat) → Final (Seen Keeps s.place.id s.place.me.0) words xs → IsFirst s → AtEnd words s
at_end words xs s final first =
    let law = final.1.0 in
    let at = final.1.1 in
    let stands = s.stands in
    let lengths : length words ≡ length s.seen.items = sym (ap length final.2) ∙ sym (law.lengths s.place.id s.place.me.0 at stands.live) ∙ ap length stands.seen_is in record {
      length_is = lengths;
      each = subst (λ (ws : List ℕ). (k : ℕ) → 1 ≤ k → k < length ws → IsOwnWord s.epoch (floor_of s) k (slice_index ws k) × (slice_index s.seen.items k ≤ slice_index ws k)) final.2
          (λ k one lt. word k one lt (ap length final.2 ∙ lengths));
    }
  where
    word : (k : ℕ) → 1 ≤ k → k < length final.0.words → length final.0.words ≡ length s.seen.items → IsOwnWord s.epoch (floor_of s) k (slice_index final.0.words k) × (slice_index s.seen.items k ≤ slice_index final.0.words k)
    word k one lt len =
        let sees = final.1.0.sees s.place.id s.place.me.0 final.1.1 s.stands.live k one lt in
        let most : slice_index s.seen.items k ≤ slice_index final.0.words k = subst (λ (l : List ℕ). slice_index l k ≤ slice_index final.0.words k) s.stands.seen_is sees.at_most in
        let up = rises (slice_index s.seen.items k) (slice_index final.0.words k) most in
        let own = s.stands.own k one (omega arith) in
        let top = sees.newest first in
        let there = s.stands.epoch_is in
        let here : epoch_of (slice_index final.0.words k) ≡ s.epoch = (let z = own.epoch_is in omega arith) in
        (record { code = final.1.0.codes k one lt; epoch_is = here; held = sees.held (here ∙ sym there) }, most)

pub closed_inside : (words : List ℕ) (s : Seat) (into : Bounds) → AtEnd words s → length into ≡ length (seen_of s)
    → ((u : ℕ) → u < length (seen_of s) → (low_of into u ≡ low_value (code_of (slice_index words (2 * u + 1)))) × (high_of into u ≡ high_value (code_of (slice_index words (2 * u + 2))))) → IsInside into (seen_of s)
closed_inside words s into end len bounds = record {
  same_length = len;
  lows = λ v h.
      let p = s.stands.pairs in
      let l = end.length_is in
      let w = end.each (2 * v + 1) (omega arith) (omega arith) in
      let o = s.stands.own (2 * v + 1) (omega arith) (omega arith) in
      subst (λ (z : ℤ). low_of (seen_of s) v ≤ℤ z) (sym (bounds v h).0) (subst (λ (z : ℤ). z ≤ℤ low_value (code_of (slice_index words (2 * v + 1)))) (sym (box-low s.seen.items v (omega arith))) (low-rises _ _ (code-rises (slice_index s.seen.items (2 * v + 1)) (slice_index words (2 * v + 1)) w.1 (o.epoch_is ∙ sym w.0.epoch_is))));
  highs = λ v h.
      let p = s.stands.pairs in
      let l = end.length_is in
      let w = end.each (2 * v + 2) (omega arith) (omega arith) in
      let o = s.stands.own (2 * v + 2) (omega arith) (omega arith) in
      subst (λ (z : ℤ). z ≤ℤ high_of (seen_of s) v) (sym (bounds v h).1) (subst (λ (z : ℤ). high_value (code_of (slice_index words (2 * v + 2))) ≤ℤ z) (sym (box-high s.seen.items v (omega arith))) (high-falls _ _ (code-rises (slice_index s.seen.items (2 * v + 2)) (slice_index words (2 * v + 2)) w.1 (o.epoch_is ∙ sym w.0.epoch_is))));
}

floor_inside : (floor : Option Bounds) (into : Bounds) → IfSome floor (λ f. length f ≡ length into) → ((v : ℕ) → v < length into → IfSome floor (λ f. low_of into v ≤ℤ low_of f v) × IfSome floor (λ f. high_of f v ≤ℤ high_of into v)) → IfSome floor (λ f. IsInside f into)
floor_inside None into l h = tt
floor_inside (Some f) into l h = record { same_length = l; lows = λ v k. (h v k).0; highs = λ v k. (h v k).1 }

pub closed_floor : (words : List ℕ) (s : Seat) (into : Bounds) → AtEnd words s → length into ≡ length (seen_of s)
    → ((u : ℕ) → u < length (seen_of s) → (low_of into u ≡ low_value (code_of (slice_index words (2 * u + 1)))) × (high_of into u ≡ high_value (code_of (slice_index words (2 * u + 2))))) → IfSome (floor_of s) (λ f. IsInside f into)
closed_floor words s into end len bounds =
    floor_inside (floor_of s) into (subst (λ (n : ℕ). IfSome (floor_of s) (λ f. length f ≡ n)) (sym len) s.stands.sized)
    (λ v h.
    let p = s.stands.pairs in
    let l = end.length_is in
    let a = end.each (2 * v + 1) (omega arith) (omega arith) in
    let b = end.each (2 * v + 2) (omega arith) (omega arith) in (
      subst (λ (z : ℤ). IfSome (floor_of s) (λ f. z ≤ℤ low_of f v)) (sym (bounds v (omega arith)).0) (floor_low (floor_of s) (length (seen_of s)) v (2 * v + 1) _ s.stands.sized (omega arith) refl a.0.code.above_zero a.0.held),
      subst (λ (z : ℤ). IfSome (floor_of s) (λ f. high_of f v ≤ℤ z)) (sym (bounds v (omega arith)).1) (floor_high (floor_of s) (length (seen_of s)) v (2 * v + 2) _ s.stands.sized (omega arith) refl b.0.code.above_zero b.0.held),
    ))

pub after_one : (v : ℕ) → 2 * v + 1 + 1 ≡ 2 * v + 2
after_one v = omega arith

pub word_code : (words : List ℕ) (s : Seat) (k w : ℕ) → AtEnd words s → get_elem? words k ≡ some w → 1 ≤ k → k < length words → IsCode w
word_code words s k w end e one lt = subst IsCode (elem_index words k w e) (end.each k one lt).0.code

-- the seat's word of the bound 0 is that of the epoch of all words at the end
pub origin_at : (words : List ℕ) (s : Seat) (k w : ℕ) → AtEnd words s → get_elem? words k ≡ some w → 1 ≤ k → k < length words → IsOriginOf (epoch_of w) s.origin
origin_at words s k w end e one lt = origin-for s.epoch s.origin w s.origin_is (ap epoch_of (sym (elem_index words k w e)) ∙ (end.each k one lt).0.epoch_is)

pub put_next : (words : List ℕ) (into : Bounds) (v : ℕ) (x y : ℤ) → v < length into
    → ((u : ℕ) → u < v → (low_of into u ≡ low_value (code_of (slice_index words (2 * u + 1)))) × (high_of into u ≡ high_value (code_of (slice_index words (2 * u + 2)))))
    → x ≡ low_value (code_of (slice_index words (2 * v + 1))) → y ≡ high_value (code_of (slice_index words (2 * v + 2)))
    → (u : ℕ) → u < v + 1 → (low_of (put_of into v x y) u ≡ low_value (code_of (slice_index words (2 * u + 1)))) × (high_of (put_of into v x y) u ≡ high_value (code_of (slice_index words (2 * u + 2))))
put_next words into v x y inside bounds is_x is_y u h =
    dite (ℕ_discrete u v)
    (λ (e : u ≡ v). (put_low into v u x y inside e ∙ is_x ∙ ap (λ (n : ℕ). low_value (code_of (slice_index words (2 * n + 1)))) (sym e), put_high into v u x y inside e ∙ is_y ∙ ap (λ (n : ℕ). high_value (code_of (slice_index words (2 * n + 2)))) (sym e)))
    (λ (ne : u ≢ v). (put_low_else into v u x y ne ∙ (bounds u (omega arith)).0, put_high_else into v u x y ne ∙ (bounds u (omega arith)).1))

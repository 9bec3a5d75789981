-- The words of a box that an epoch starts from.
use Rattle.std.proofs.Common.{ℕ, ◌≡◌, ◌+◌, ◌*◌, ◌<◌, ◌≤◌, List, [], length, true, false, ⊎_elim, refl, sym, ap, ◌∙◌, subst, arith}
use Rattle.std.specs.Prelude.{slice_index, Option, Some, None, IfSome}
use Rattle.atomic_table.specs.Table.{Me}
use Rattle.atomic_table.specs.Seated.{TableId}
use Rattle.interval.specs.Boxes.{Bounds, low_of, high_of, IsInRange}
use Rattle.lattice_store.specs.declared.table.View.{View}
use Rattle.lattice_store.specs.Words.{middle, word_of, epoch_of, code_of, IsCode, ceiling, box_of, codes_of, low_code, high_code, low_value, high_value}
use Rattle.lattice_store.specs.Standing.{Stands, IsOwnWord, AreWordsOf}
use Rattle.lattice_store.specs.Seats.{IsFloorIn}
use Rattle.lattice_store.proofs.WordLaws.{epoch-word, code-word, low-code, high-code, low-within, high-within}
use Rattle.lattice_store.proofs.BoxLaws.{parity, box-length, box-low, box-high, code-low, code-high, same_box}

-- a word of this code
pub record HasCode (e c w : ℕ) : Type 0 where
  pub code : IsCode w
  pub epoch : epoch_of w ≡ e
  pub is : code_of w ≡ c

has_code : (e c w : ℕ) → w ≡ word_of e c → 1 ≤ c → c < 2 * middle → HasCode e c w
has_code e c w is one below =
    let k : code_of w ≡ c = ap code_of is ∙ code-word e c below in record {
      code = record { above_zero = subst (λ (x : ℕ). 1 ≤ x) (sym k) one; below_end = subst (λ (x : ℕ). x < 2 * middle) (sym k) below };
      epoch = ap epoch_of is ∙ epoch-word e c below;
      is = k;
    }

pub low_word_at : (e : ℕ) (b : Bounds) (w v k : ℕ) → IsInRange b → w ≡ word_of e (slice_index (codes_of b) k) → v < length b → k ≡ 2 * v + 1 → HasCode e (low_code (low_of b v)) w
low_word_at e b w v k r is h q = let c = low-code (low_of b v) (r.lows v h) in has_code e (low_code (low_of b v)) w (is ∙ ap (word_of e) (ap (slice_index (codes_of b)) q ∙ code-low b v h)) c.0 c.1

pub high_word_at : (e : ℕ) (b : Bounds) (w v k : ℕ) → IsInRange b → w ≡ word_of e (slice_index (codes_of b) k) → v < length b → k ≡ 2 * v + 2 → HasCode e (high_code (high_of b v)) w
high_word_at e b w v k r is h q = let c = high-code (high_of b v) (r.highs v h) in has_code e (high_code (high_of b v)) w (is ∙ ap (word_of e) (ap (slice_index (codes_of b)) q ∙ code-high b v h)) c.0 c.1

under_none : (w k : ℕ) → IsCode w → code_of w ≤ ceiling None k
unfolding ceiling
under_none w k c = let a = c.below_end in omega arith

low_floor : (floor : Option Bounds) (b : Bounds) (e w v k : ℕ) → IsFloorIn floor b → v < length b → k ≡ 2 * v + 1 → HasCode e (low_code (low_of b v)) w → code_of w ≤ ceiling floor k
unfolding ceiling
low_floor None b e w v k f h q c = let a = c.code.below_end in omega arith
low_floor (Some g) b e w v k f h q c =
    let l = f.same_length in
    subst (λ (x : ℕ). code_of w ≤ x) (sym (ap (slice_index (codes_of g)) q ∙ code-low g v (omega arith))) (subst (λ (x : ℕ). x ≤ low_code (low_of g v)) (sym c.is) (low-within (low_of b v) (low_of g v) (f.lows v h)))

high_floor : (floor : Option Bounds) (b : Bounds) (e w v k : ℕ) → IsFloorIn floor b → v < length b → k ≡ 2 * v + 2 → HasCode e (high_code (high_of b v)) w → code_of w ≤ ceiling floor k
unfolding ceiling
high_floor None b e w v k f h q c = let a = c.code.below_end in omega arith
high_floor (Some g) b e w v k f h q c =
    let l = f.same_length in
    subst (λ (x : ℕ). code_of w ≤ x) (sym (ap (slice_index (codes_of g)) q ∙ code-high g v (omega arith))) (subst (λ (x : ℕ). x ≤ high_code (high_of g v)) (sym c.is) (high-within (high_of b v) (high_of g v) (f.highs v h)))

-- the word k of a box that holds this floor
pub start_word : (e : ℕ) (b : Bounds) (floor : Option Bounds) (w k : ℕ) → IsInRange b → IsFloorIn floor b → w ≡ word_of e (slice_index (codes_of b) k) → 1 ≤ k → k < 2 * length b + 1 → IsOwnWord e floor k w
start_word e b floor w k r f is one lt =
    let p = parity k one in
    ⊎_elim
    (λ (q : k ≡ 2 * p.0 + 1). let h : p.0 < length b = omega arith in let c = low_word_at e b w p.0 k r is h q in record { code = c.code; epoch_is = c.epoch; held = low_floor floor b e w p.0 k f h q c })
    (λ (q : k ≡ 2 * p.0 + 2). let h : p.0 < length b = omega arith in let c = high_word_at e b w p.0 k r is h q in record { code = c.code; epoch_is = c.epoch; held = high_floor floor b e w p.0 k f h q c })
    p.1

pub start_box : (e : ℕ) (b : Bounds) (ws : List ℕ) → IsInRange b → AreWordsOf e b ws → box_of ws ≡ b
start_box e b ws r a =
    let n = a.length_is in
    let l = box-length ws (length b) n in
    same_box (box_of ws) b l
    (λ v h. (
      box-low ws v (omega arith) ∙ ap low_value (low_word_at e b (slice_index ws (2 * v + 1)) v (2 * v + 1) r (a.each (2 * v + 1) (omega arith) (omega arith)) (omega arith) refl).is ∙ (low-code (low_of b v) (r.lows v (omega arith))).2,
      box-high ws v (omega arith) ∙ ap high_value (high_word_at e b (slice_index ws (2 * v + 2)) v (2 * v + 2) r (a.each (2 * v + 2) (omega arith) (omega arith)) (omega arith) refl).is ∙ (high-code (high_of b v) (r.highs v (omega arith))).2,
    ))

floor_length : (floor : Option Bounds) (b : Bounds) (n : ℕ) → length b ≡ n → IsFloorIn floor b → IfSome floor (λ f. length f ≡ n)
floor_length None b n e f = tt
floor_length (Some g) b n e f = f.same_length ∙ e

-- a seat that has seen the words of a box
pub record IsFreshSeat (id : TableId) (me : Me ℕ View) (floor : Option Bounds) (epoch : ℕ) (ws : List ℕ) : Type 0 where
  pub live : me.0.live ≡ true
  pub fresh : me.0.fresh ≡ false
  pub opened : me.0.opened ≡ length ws
  pub empty : me.1 ≡ []
  pub epoch_is : me.0.epoch ≡ epoch
  pub past : me.0.past ≡ false
  pub seen : me.0.seen ≡ ws
  pub floor_is : me.0.floor ≡ floor
  pub words : length ws ≡ id.words
  pub slots : id.slots ≡ 0

pub start_stands : (id : TableId) (me : Me ℕ View) (floor : Option Bounds) (epoch : ℕ) (ws : List ℕ) (b : Bounds) → IsFreshSeat id me floor epoch ws → IsInRange b → IsFloorIn floor b → AreWordsOf epoch b ws → Stands id me ws epoch false
start_stands id me floor epoch ws b s r f a =
    let box = start_box epoch b ws r a in record {
      live = s.live;
      fresh = s.fresh;
      opened = s.opened;
      empty = s.empty;
      epoch_is = s.epoch_is;
      past_is = s.past;
      seen_is = s.seen;
      length_is = s.words;
      pairs = let n = a.length_is in let l = ap length box in omega arith;
      slots = s.slots;
      first_is_not_past = λ _. refl;
      own = λ k one lt. subst (λ (g : Option Bounds). IsOwnWord epoch g k (slice_index ws k)) (sym s.floor_is) (start_word epoch b floor (slice_index ws k) k r f (a.each k one lt) one (let n = a.length_is in omega arith));
      sized = subst (λ (g : Option Bounds). IfSome g (λ x. length x ≡ length (box_of ws))) (sym s.floor_is) (floor_length floor b (length (box_of ws)) (sym (ap length box)) f);
    }

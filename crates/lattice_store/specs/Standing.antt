-- What a seat's fields have in common with its view.
use Rattle.std.specs.Prelude.{ℕ, ◌≡◌, ◌+◌, ◌*◌, ◌<◌, ◌≤◌, List, [], length, slice_index, Bool, true, false, Option, IfSome}
use Rattle.atomic_table.specs.Table.{Me}
use Rattle.atomic_table.specs.Seated.{TableId}
use Rattle.interval.specs.Boxes.{Bounds}
use Rattle.lattice_store.specs.Words.{epoch_of, code_of, word_of, IsCode, ceiling, codes_of, box_of}
use Rattle.lattice_store.specs.declared.table.View.{View}

-- the word k, of a bound of this epoch that holds the floor
pub record IsOwnWord (epoch : ℕ) (floor : Option Bounds) (k word : ℕ) : Type 0 where
  pub code : IsCode word
  pub epoch_is : epoch_of word ≡ epoch
  pub held : code_of word ≤ ceiling floor k

pub record Stands (id : TableId) (me : Me ℕ View) (seen : List ℕ) (epoch : ℕ) (past : Bool) : Type 0 where
  pub live : me.0.live ≡ true
  pub fresh : me.0.fresh ≡ false
  pub opened : me.0.opened ≡ length seen
  pub empty : me.1 ≡ []
  pub epoch_is : me.0.epoch ≡ epoch
  pub past_is : me.0.past ≡ past
  pub seen_is : me.0.seen ≡ seen
  pub length_is : length seen ≡ id.words
  pub pairs : length seen ≡ 2 * length (box_of seen) + 1
  pub slots : id.slots ≡ 0
  pub first_is_not_past : me.0.first ≡ true → past ≡ false
  pub own : (k : ℕ) → 1 ≤ k → k < length seen → IsOwnWord epoch me.0.floor k (slice_index seen k)
  pub sized : IfSome me.0.floor (λ f. length f ≡ length (box_of seen))

-- the words of the bounds of a box at an epoch, after the spare one
pub record AreWordsOf (epoch : ℕ) (box : Bounds) (words : List ℕ) : Type 0 where
  pub length_is : length words ≡ 2 * length box + 1
  pub each : (k : ℕ) → 1 ≤ k → k < length words → slice_index words k ≡ word_of epoch (slice_index (codes_of box) k)

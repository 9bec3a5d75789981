-- What a seat may do.
use Rattle.std.specs.Prelude.{ℕ, ◌≡◌, ◌≤◌, ◌<◌, ◌+◌, ◌*◌, max, List, [], length, slice_index, true, false, Option}
use mathlib.Core.Option as maybe
use Rattle.atomic_table.specs.Table.{Me, Allows, step}
use Rattle.atomic_table.specs.Seated.{TableId}
use Rattle.interval.specs.Boxes.{Bounds}
use Rattle.lattice_store.specs.Words.{epoch_of, code_of, word_of, IsCode, ceiling, codes_of}
use Rattle.lattice_store.specs.Rule.{Keeps, told}
use Rattle.lattice_store.specs.declared.table.View.{View}

-- the word k that a seat may tell: of its epoch, and holding its floor
pub record MayTell (v : View) (k word : ℕ) : Type 0 where
  pub code : IsCode word
  pub epoch : epoch_of word ≡ v.epoch
  pub held : code_of word ≤ ceiling v.floor k

-- Whatever stands at the place k, the rule is kept where the greater of it and the word stands there then
abbrev pub MayJoin : ℕ → ℕ → Me ℕ View → ℕ → ℕ → Type 0
MayJoin slots id me k word = Allows Keeps slots id me k (λ n. max n word) (told (step slots k word 0 maybe.none) me)

-- a seat of an epoch that isn't being opened
pub record IsReady (v : View) : Type 0 where
  pub live : v.live ≡ true
  pub fresh : v.fresh ≡ false
  pub opened : v.opened ≡ length v.seen

-- the first seat while it opens
pub record IsOpening (v : View) : Type 0 where
  pub live : v.live ≡ true
  pub fresh : v.fresh ≡ false
  pub first : v.first ≡ true

-- The first seat has opened the words below k, with the bounds of a box at its epoch
pub record Opening (id : TableId) (me : Me ℕ View) (seen : List ℕ) (start : Bounds) (floor : Option Bounds) (epoch k : ℕ) : Type 0 where
  pub is : IsOpening me.0
  pub empty : me.1 ≡ []
  pub past : me.0.past ≡ false
  pub epoch_is : me.0.epoch ≡ epoch
  pub floor_is : me.0.floor ≡ floor
  pub opened : me.0.opened ≡ k
  pub seen_is : me.0.seen ≡ seen
  pub length_is : length seen ≡ 2 * length start + 1
  pub words : length seen ≡ id.words
  pub slots : id.slots ≡ 0
  pub each : (j : ℕ) → 1 ≤ j → j < k → slice_index seen j ≡ word_of epoch (slice_index (codes_of start) j)

-- What a seat's fields have in common with its view.
use Rattle.std.specs.Prelude.{ℕ, ◌≡◌, [], ◌<◌, List, length, slice_index, true, false, IfSome}
use Rattle.atomic_table.specs.Table.{Me}
use Rattle.atomic_table.specs.Seated.{TableId}
use Rattle.bit_domain.specs.Mixes.{Mix, IsMixInRange, IsInsideMix}
use Rattle.mix_store.specs.Words.{words_of, kinds_of, place_of}
use Rattle.mix_store.specs.declared.table.View.{View}

pub record Stands (id : TableId) (me : Me ℕ View) (seen : Mix) : Type 0 where
  pub live : me.0.live ≡ true
  pub fresh : me.0.fresh ≡ false
  pub empty : me.1 ≡ []
  pub slots : id.slots ≡ 0
  pub seen_is : me.0.seen ≡ words_of seen
  pub kinds_is : me.0.kinds ≡ kinds_of seen
  pub words_is : id.words ≡ length (words_of seen)
  pub lawful : IsMixInRange seen
  pub floor : IfSome me.0.floor (λ f. IsInsideMix f seen)

-- for each variable where its words begin
pub record ArePlacesOf (places : List ℕ) (m : Mix) : Type 0 where
  pub length_is : length places ≡ length m
  pub each : (v : ℕ) → v < length m → slice_index places v ≡ place_of m v

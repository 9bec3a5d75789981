use Rattle.std.proofs.Common.{ℕ, ◌≡◌, ◌<◌, length, take}
use Rattle.std.specs.Prelude.{slice_index}
use Rattle.mix_store.specs.Words.{words_of, place_of}
use Rattle.mix_store.proofs.make.layout_of.Given as goal

abbrev pub invariant-loop-v : goal.invariant-loop-v
invariant-loop-v l = record {
  words_are : l.words.items ≡ words_of (take l.v l.start);
  length_is : length l.places.items ≡ l.v;
  places_are : (u : ℕ) → u < l.v → slice_index l.places.items u ≡ place_of l.start u;
}

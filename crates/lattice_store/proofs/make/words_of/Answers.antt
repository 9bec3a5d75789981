use Rattle.std.proofs.Common.{◌≡◌, [], ◌∷◌, ◌++◌, ◌∙◌, ap, List, ℕ, length, arith}
use Rattle.lattice_store.specs.Words.{word_of, low_code, high_code}
use Rattle.lattice_store.proofs.Showing.{cast_bound}
use Rattle.lattice_store.proofs.WordLaws.{origin-epoch, origin-own}
use mir.Val.{to_z, of_z}
use mir.Syntax.{w64}
use Rattle.lattice_store.proofs.Making.{pushed, pushed_length}
use Rattle.lattice_store.proofs.make.words_of.Goals as goal

pub loop-v-preserved : goal.loop-v-preserved
loop-v-preserved c =
    let a = c.in_ok-push-2.ensures.items in
    let b = c.in_ok-push-3.ensures.items in
    let e = origin-epoch c.args.epoch c.origin_word-origin.result c.origin_word-origin.ensures in
    let all : c.push-in-loop-v-2.new.self.items ≡ (c.loop-v.words.items ++ c.low_word.result ∷ []) ++ c.high_word.result ∷ [] = b ∙ ap (λ (l : List ℕ). l ++ c.high_word.result ∷ []) a in record {
      length_is = ap length all ∙ pushed_length c.loop-v.words.items c.loop-v.v c.low_word.result c.high_word.result c.loop-v.invariant.length_is;
      each = rw all (λ k one lt. pushed c.args.epoch c.args.start.now c.loop-v.words.items c.loop-v.v c.low_word.result c.high_word.result k (omega arith) c.loop-v.invariant.length_is c.loop-v.invariant.each (c.low_word.ensures ∙ ap (λ x. word_of x (low_code (to_z w64 (of_z w64 c.low.result)))) e ∙ ap (λ z. word_of c.args.epoch (low_code z)) (cast_bound c.low.result c.low.ensures.in_range ∙ c.low.ensures.value)) (c.high_word.ensures ∙ ap (λ x. word_of x (high_code (to_z w64 (of_z w64 c.high.result)))) e ∙ ap (λ z. word_of c.args.epoch (high_code z)) (cast_bound c.high.result c.high.ensures.in_range ∙ c.high.ensures.value)) one lt);
    }

pub low_word-requires-clause-origin : goal.low_word-requires-clause-origin
low_word-requires-clause-origin c = origin-own c.args.epoch c.origin_word-origin.result c.origin_word-origin.ensures

pub high_word-requires-clause-origin : goal.high_word-requires-clause-origin
high_word-requires-clause-origin c = origin-own c.args.epoch c.origin_word-origin.result c.origin_word-origin.ensures

pub returns-clause-words : goal.returns-clause-words
returns-clause-words c = record { length_is = let a = c.loop-v.invariant.length_is in omega arith; each = c.loop-v.invariant.each }

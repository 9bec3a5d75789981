use Rattle.std.proofs.Common.{◌≡◌, ◌++◌, ◌∷◌, [], ℕ, List, length, map, drop, sym, ap, ◌∙◌, arith, inr}
use Rattle.std.proofs.lemmas.List.{with_items_is}
use Rattle.moved_set.specs.Words.{set_of}
use Rattle.moved_set.specs.Layers.{Layers, layer_at, undone}
use Rattle.moved_set.proofs.LayerLaws.{stack_pop, on_popped, popped_within, places_popped}
use Rattle.moved_set.proofs.trailed_set.TrailedSet.pop.Goals as goal

pub undo-requires-clause-place : goal.undo-requires-clause-place
undo-requires-clause-place c = popped_within c.self.inside.trail.items c.self.inside.marks.items c.pop.new.self.items c.in-Some.mark c.in-Some.ensures.items c.self.invariant.marks

pub undo-requires-clause-places : goal.undo-requires-clause-places
undo-requires-clause-places c = λ k d h. omega (arith, c.self.invariant.places k d h, ap length c.as_mut_slice.ensures.value)

pub invariant_of-self : goal.invariant_of-self
invariant_of-self c =
    let items = with_items_is c.self.inside.words c.undo.new.words (c.undo.auto.words ∙ c.as_mut_slice.ensures.len) in
    let same = ap length items ∙ c.undo.auto.words ∙ ap length c.as_mut_slice.ensures.value in
    record {
      words = same ∙ c.self.invariant.words;
      small = c.self.invariant.small;
      places = λ k d h. omega (arith, places_popped (length c.self.inside.words.items) c.self.inside.trail.items c.undo.new.trail.items c.in-Some.mark c.undo.ensures.trail c.self.invariant.places k d h, same);
      marks = on_popped c.self.inside.trail.items c.undo.new.trail.items c.self.inside.marks.items c.pop.new.self.items c.in-Some.mark c.in-Some.ensures.items c.undo.ensures.trail c.self.invariant.marks;
    }

pub returns-in-Some-clause-back : goal.returns-in-Some-clause-back
returns-in-Some-clause-back c =
    let items = with_items_is c.self.inside.words c.undo.new.words (c.undo.auto.words ∙ c.as_mut_slice.ensures.len) in
    let now : c.undo.new.words ≡ undone (drop c.in-Some.mark c.self.inside.trail.items) c.self.inside.words.items =
    c.undo.ensures.words ∙ ap (undone (drop c.in-Some.mark c.self.inside.trail.items)) c.as_mut_slice.ensures.value in
    inr (sym (ap (λ (l : Layers). l.stack) c.self.view_is)
    ∙ stack_pop c.self.inside.count c.self.inside.trail.items c.undo.new.trail.items c.self.inside.words.items c.undo.new.words c.self.inside.marks.items c.pop.new.self.items c.in-Some.mark c.in-Some.ensures.items c.undo.ensures.trail now c.self.invariant.marks
    ∙ ap (λ (ws : List ℕ). map (layer_at c.undo.new.trail.items ws c.self.inside.count) c.pop.new.self.items ++ set_of ws c.self.inside.count ∷ []) (sym items))

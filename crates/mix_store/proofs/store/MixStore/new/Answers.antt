use Rattle.std.proofs.Common.{ℕ, [], ◌∷◌, ◌<◌, List, length, sym, ap, ◌∙◌, subst}
use Rattle.std.specs.Prelude.{slice_index}
use Rattle.atomic_table.specs.Table.{Me}
use Rattle.mix_store.specs.declared.table.View.{View}
use Rattle.mix_store.specs.Rule.{IsAllowed, Lawful, made_view}
use Rattle.mix_store.proofs.Parting.{begins}
use Rattle.mix_store.proofs.Making.{words_are, may_name}
use Rattle.mix_store.proofs.store.MixStore.new.Goals as goal

pub of_words-requires : goal.of_words-requires
of_words-requires g c = subst (λ (l : List ℕ). Lawful l (made_view c.args.start.now ∷ [])) (sym (c.as_slice.ensures.value ∙ c.in_ok-layout.ensures.words)) (begins c.args.start.now (words_are c.args.start.now c.in_ok-layout.ensures.lawful))

pub name_floor-requires-clause-held : goal.name_floor-requires-clause-held
name_floor-requires-clause-held g c = subst (λ (v : View). (k : ℕ) → k < length v.seen → IsAllowed v.kinds g.floor k (slice_index v.seen k)) (sym (ap (λ (m : Me ℕ View). m.0) c.in_ok-table.ensures.4)) (may_name c.args.start.now g.floor c.in_ok-layout.ensures.lawful c.requires)

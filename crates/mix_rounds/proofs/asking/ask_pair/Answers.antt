use Rattle.std.proofs.Common.{ap, ◌∙◌}
use Rattle.mix_store.specs.Seats.{seen_of}
use Rattle.bit_domain.specs.Mixes.{Mix, dom_of}
use Rattle.std.specs.Prelude.{slice_set}
use Rattle.mix_rounds.proofs.MixLaws.{put_again}
use Rattle.mix_rounds.proofs.Stepping.{stepped_more}
use Rattle.mix_rounds.proofs.asking.ask_pair.Goals as goal

pub returns-clause-stepped : goal.returns-clause-stepped
returns-clause-stepped c = stepped_more c.args.seat.now c.ask_low.new.seat c.ask_high.new.seat c.args.moved.now c.ask_low.new.moved c.ask_high.new.moved c.ask_low.ensures.stepped c.ask_high.ensures.stepped

pub returns-clause-seen : goal.returns-clause-seen
returns-clause-seen c =
    c.ask_high.ensures.seen
    ∙ ap (λ (m : Mix). slice_set m c.args.v (dom_of (seen_of c.ask_high.new.seat) c.args.v)) c.ask_low.ensures.seen
    ∙ put_again (seen_of c.args.seat.now) c.args.v _ _

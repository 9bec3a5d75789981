use Rattle.std.proofs.Common.{◌∙◌}
use Rattle.search_tests.proofs.paths.given_back.Goals as goal

pub returns : goal.returns
returns c = λ model kernels start from same stands.
    c.take_back.ensures.walk model kernels start from (record {
      way = c.args.sub.boxes.stack;
      stands = stands;
      over = c.in_ok-cover.ensures.over;
      same_length = c.in_ok-cover.ensures.length ∙ same;
    })

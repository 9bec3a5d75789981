use Rattle.std.proofs.Common.{◌∙◌, arith}
use Rattle.tickets.proofs.CountingLemmas.{times-append, times-same, times-other, times-at, times-twice, place_of, length_of_each}
use Rattle.tickets.proofs.laws.law_counting.Goals as goal

pub returns : goal.returns
returns c = record {
  append = times-append;
  same = λ k x xs e. times-same k x xs e ∙ omega arith;
  other = times-other;
  stands = times-at;
  twice = times-twice;
  place = place_of;
  all = length_of_each;
}

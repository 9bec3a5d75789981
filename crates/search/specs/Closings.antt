-- How the search behind a run closes.
use Rattle.std.specs.Prelude.{MatchOption}
use Rattle.search.specs.declared.closing.Closing.{Closing}
use Rattle.search.specs.Machine.{Search}
use Rattle.search.specs.Ends.{EndsDone, EndsSpent}

-- it says which limit stopped it, if one did, and with what
abbrev pub IsClosing : Search → Closing → Type 0
IsClosing s closing = MatchOption closing.stopped (EndsDone s closing.found) (λ why. EndsSpent s why closing.nodes closing.found)

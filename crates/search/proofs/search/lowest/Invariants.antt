-- `search::lowest` meets its contract. The loop's invariant: the least key of each block below `block` is not negative. Assumes nothing.
use Rattle.search.proofs.SearchLaws.{NoneNegative}
use Rattle.search.proofs.search.lowest.Given as goal

abbrev pub invariant-loop-block : goal.invariant-loop-block
invariant-loop-block l = NoneNegative l.sums l.ones l.keys l.block

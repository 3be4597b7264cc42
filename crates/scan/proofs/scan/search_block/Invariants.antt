-- `scan::search_block`. The loop's invariant: the list holds the distances of the rows below `half + at`, and those of the block among
-- them do not fail. The weight is named apart, so that it need not be as the code's bits have it. Assumes nothing.
use Rattle.std.proofs.Common.{◌≡◌, ◌+◌, ℤ}
use Rattle.scan.specs.Scan.{doubled}
use Rattle.scan.proofs.ScanLaws.{Passed}
use Rattle.scan.proofs.scan.search_block.Given as goal

abbrev pub invariant-loop-at : goal.invariant-loop-at
invariant-loop-at l = (w : ℤ) → w ≡ l.weight → Passed l.cares l.values (doubled l.half w l.initial.distances) l.half (l.half + l.at) l.distances

-- `scan::first_failing`. The loop's invariant: the rows below 2 ^ `place` are passed, so that none of them fails, and `distances` holds
-- the distances of these rows. Assumes nothing.
use Rattle.std.proofs.Common.{◌^◌}
use Rattle.scan.specs.Scan.{row_distance}
use Rattle.scan.proofs.ScanLaws.{Passed}
use Rattle.scan.proofs.scan.first_failing.Given as goal

abbrev pub invariant-loop-place : goal.invariant-loop-place
invariant-loop-place l =
    Passed l.cares l.values (row_distance l.fn.v.a l.fn.v.b) 0 (2 ^ l.place) l.distances

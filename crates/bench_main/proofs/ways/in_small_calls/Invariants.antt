use Rattle.bench_main.proofs.ways.in_small_calls.Given as goal

abbrev pub decreases-loop-left : goal.decreases-loop-left
decreases-loop-left l = l.left

-- `sound::some_fails` meets its contract: a vector within ±K is in the range of the search. Assumes nothing.
use Rattle.state.proofs.SoundBounds.{in_range_search}
use Rattle.soundness.proofs.sound.some_fails.Goals as goal

pub first_failing-requires-clause-n_bound : goal.first_failing-requires-clause-n_bound
first_failing-requires-clause-n_bound c =
    let x = c.args.core in (c.requires.0, in_range_search x.k c.args.table.n x.v.a x.v.b c.requires.1 c.requires.2)

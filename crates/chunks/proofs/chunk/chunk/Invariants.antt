-- `chunk::chunk` meets its contract. The loop's invariant is `Going` of ChunkLaws, which has the laws of a pass. Assumes nothing.
use Rattle.machine.specs.Core.{state_of}
use Rattle.chunks.proofs.ChunkLaws.{Going}
use Rattle.chunks.proofs.chunk.chunk.Given as goal

abbrev pub invariant-loop : goal.invariant-loop
invariant-loop l =
    Going l.table (state_of l.initial.j l.initial.counts) l.budget l.counter (state_of l.j l.counts) l.v l.s l.next l.looped

-- `stepping::fast_steps` meets its contract. The loop's invariant: the state is the machine's but for the steps that are left (`Left` of
-- LeftLaws). The measure is what is left. Assumes nothing.
use Rattle.std.specs.Prelude.{◌≡◌, ◌<◌, ◌≤◌}
use mathlib.Core.Path.{refl}
use native.Mathlib.Omega.{arith}
use Rattle.lanes.specs.Sums.{magnitude}
use Rattle.types.specs.declared.stage.Stage.TheVariants.{Open}
use Rattle.machine.specs.Core.{state_of}
use Rattle.state.specs.Sound.{Sound}
use Rattle.state.proofs.SoundBounds.{in_range_search, unit_current, unit_copied}
use Rattle.stepping.proofs.LeftLaws.{left_start, left_next, left_sound, left_capped}
use Rattle.table.specs.Table.{function_of}
use Rattle.stepping.proofs.stepping.fast_steps.Goals as goal
use Rattle.stepping.proofs.stepping.fast_steps.Goals.{At-loop-table, In-loop-table}

pub loop-table-init : goal.loop-table-init
loop-table-init c = left_start _ _

-- the loop's state is sound
sound : (c : At-loop-table) → Sound (function_of c.args.table) (state_of c.loop-table.core c.loop-table.counts)
sound c = let p = c.requires in left_sound c.loop-table.invariant p.0 p.1 p.2

pub is_fast-requires : goal.is_fast-requires
is_fast-requires c =
    let core = c.loop-table.core in
    let n = c.args.table.n in (
      in_range_search core.k n core.v.a core.v.b (sound c).capped (unit_current refl (sound c)),
      in_range_search core.k n core.s.a core.s.b (sound c).capped (unit_copied refl (sound c)),
    )

-- what the fast form asks of the loop's state
fast : (c : In-loop-table) → let core = c.loop-table.core in (0 < c.loop-table.left) × (core.stage ≡ Open) × (magnitude core.v ≤ 9000) × (magnitude core.s ≤ 9000)
fast c = c.is_fast.ensures c.loop-table-test.true

pub chunk-core-requires-clause-n_bound : goal.chunk-core-requires-clause-n_bound
chunk-core-requires-clause-n_bound c =
    let p = c.requires in
    let at = goal.at.chunk-core-requires-clause-n_bound c in
    (p.0, sound at.At-loop-table, (fast at.In-loop-table).1, omega (arith, left_capped c.loop-table.invariant p.0 p.1 p.2))

pub loop-table-preserved : goal.loop-table-preserved
loop-table-preserved c = left_next c.loop-table.invariant (omega arith) c.chunk-core.ensures

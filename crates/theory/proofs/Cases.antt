-- The marked cases hold: each is computed. Assumes nothing.
use mathlib.Core.Path.{refl}
use lib.Count.{count_leading_zeros}
use Rattle.table.specs.Table.{bit_at, spare_set, row_bytes, stray_value}
use Rattle.table.specs.Gate.{in_range}
use Rattle.function.specs.Gate.{distance}
use Rattle.function.specs.Witness.{counts_cared, balances}
use Rattle.table.specs.Witness.{unfit}
use Rattle.function.specs.Turns.{first_turn}
use Rattle.table.specs.Chow.{chow_of}
use Rattle.function.specs.Failing.{fails, failing}
use Rattle.function.specs.Vector.{add_levels, corrected_by, same_list, same_vector}
use Rattle.state.specs.Machine.{corrected, marked, settled, closed, step_in}
use Rattle.state.specs.Machine as state
use Rattle.job.specs.Machine.{run, fresh}
use Rattle.numbers.specs.Packed.{packed}
use Rattle.numbers.specs.Tabulate.{tabulate}
use Rattle.numbers.specs.Power.{highest}
use Rattle.function.specs.Binate.{binate_at, binate_place, binate_counts}
use Rattle.state.specs.Sound.{is_traced, sound_in, is_sound}
use Rattle.types.specs.declared.refusal.Refusal.TheVariants as Refusal'
use Rattle.theory.specs.Cases.{MarkedCases}

-- m1 to m10 hold
pub marked_cases : MarkedCases
unfolding count_leading_zeros tabulate packed bit_at spare_set row_bytes stray_value distance in_range balances unfit first_turn chow_of fails failing add_levels corrected_by corrected same_list same_vector highest marked settled closed step_in state.step state.run run binate_at binate_place binate_counts state.fresh fresh is_traced sound_in counts_cared is_sound
marked_cases = record {
  m1 = record { stage = refl; corrections = refl; vector = refl };
  m2 = record { stage = refl; corrections = refl; vector = refl };
  m3 = record { stage = refl; corrections = refl; vector = refl };
  m4 = record { stage = refl; corrections = refl; vector = refl };
  m5 = record { stage = refl; corrections = refl; vector = refl };
  m6 = refl;
  m7 = refl;
  m8 = (refl, refl);
  m9 = (
    record { sound = refl; stage = refl; corrections = refl; taken = refl; above = (Refusal'.Budget, refl, refl) },
    record { sound = refl; stage = refl; corrections = refl; taken = refl; above = (Refusal'.Cap, refl, refl) },
  );
  m10 = refl;
}

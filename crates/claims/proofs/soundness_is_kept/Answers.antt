-- `claims::soundness_is_kept`: the test by its parts, and the step by its cases. Assumes nothing.
use Rattle.refusal.proofs.TableChecked.{kept_inputs}
use Rattle.job.proofs.SoundLaws.{is_sound_correct}
use Rattle.job.proofs.Soundness.{step_sound, run_sound}
use Rattle.claims.proofs.soundness_is_kept.Goals as goal

pub returns : goal.returns
returns c =
    record {
      test = is_sound_correct;
      step = λ j taken. step_sound j (kept_inputs j.table taken);
      reached = λ t taken. run_sound t (kept_inputs t taken);
    }

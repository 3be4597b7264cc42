-- `claims::shown_is_right`: from soundness alone. Assumes nothing.
use Rattle.claims.proofs.Shown.{shown_gate, shown_gate_accepted, shown_witness_accepted, shown_excludes}
use Rattle.claims.proofs.shown_is_right.Goals as goal

pub returns : goal.returns
returns c =
    record {
      gate = shown_gate;
      gate_accepted = shown_gate_accepted;
      witness_accepted = shown_witness_accepted;
      no_gate_lem = shown_excludes;
    }

-- `claims::corrections_are_bounded`: the perceptron's convergence, at the machine. Assumes nothing.
use Rattle.refusal.proofs.TableChecked.{kept_inputs}
use Rattle.theory.proofs.Bound.{squares_le, bound_on_k}
use Rattle.claims.proofs.corrections_are_bounded.Goals as goal

pub returns : goal.returns
returns c = record { bound = λ t taken m ws th. bound_on_k t m ws th (kept_inputs t taken); vector = squares_le }

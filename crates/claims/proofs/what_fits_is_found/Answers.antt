-- `claims::what_fits_is_found`: the bound on K, and that a witness excludes every gate. Assumes nothing.
use mathlib.Core.Logic.{inl, inr}
use Rattle.refusal.proofs.TableChecked.{kept_inputs}
use Rattle.theory.proofs.Completeness.{never_without, found_from}
use Rattle.claims.proofs.what_fits_is_found.Goals as goal

pub returns : goal.returns
returns c =
    record {
      never_looped = λ t taken ws th g m h e. never_without t (kept_inputs t taken) ws th g m h (inl e);
      never_binate = λ t taken ws th g m h e. never_without t (kept_inputs t taken) ws th g m h (inr e);
      found = λ t taken ws th l g. found_from t (kept_inputs t taken) ws th g l;
    }

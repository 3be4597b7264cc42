-- `asked::put_asked` meets its contract, by what is asked: a table that keeps its format has at most eight inputs. Assumes nothing.
use Rattle.refusal.proofs.TableChecked.{kept_inputs}
use Rattle.inputs.proofs.asked.put_asked.Goals as goal

pub all_kinds-requires : goal.all_kinds-requires
all_kinds-requires c = kept_inputs c.args.table c.requires

pub all_chow-requires : goal.all_chow-requires
all_chow-requires c = kept_inputs c.args.table c.requires

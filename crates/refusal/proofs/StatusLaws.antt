-- What the test of rules returned (`table_status`, `gate_status`, `witness_status`) says of every call whose rules begin with those: callers
-- cite these laws and not the rules' text. Assumes nothing.
use Rattle.std.specs.Prelude.{Ok, Err}
use mathlib.Core.Path.{◌≡◌, sym, ◌∙◌}
use mathlib.Core.List.{List}
use Rattle.types.specs.declared.refusal.Refusal.{Refusal}
use Rattle.refusal.proofs.RefusalLaws.{refused_first_broken, first_broken_refused, none_broken_answered, answered_none_broken}
use Rattle.refusal.specs.Refusal.{Rule, Answered, checked, NoneBroken}

-- a test that is passed: no rule is broken
done_none_broken : (rs : List Rule) → ◌≡◌ {A = Answered (Unit {0})} (checked rs (Ok tt)) (Ok tt) → NoneBroken rs
done_none_broken rs e = (answered_none_broken rs tt tt e).0

-- s is what the test of the rules rs returned
module _ {s : Answered (Unit {0})} (rs : List Rule) (says : s ≡ checked rs (Ok tt)) where
  -- a refusal is that of every call that begins with these rules
  pub rules_refused : {A : Type 0} (next : Answered A) {e : Refusal} → s ≡ Err e → Err e ≡ checked rs next
  rules_refused next {e} is = sym (first_broken_refused rs next e (refused_first_broken rs tt e (sym says ∙ is)))

  -- where there is none, each rule is kept
  pub rules_kept : s ≡ Ok tt → NoneBroken rs
  rules_kept is = done_none_broken rs (sym says ∙ is)

  -- and the call is left to what comes after the rules
  pub rules_passed : {A : Type 0} (next : Answered A) → s ≡ Ok tt → next ≡ checked rs next
  rules_passed next is = sym (none_broken_answered rs next (rules_kept is))

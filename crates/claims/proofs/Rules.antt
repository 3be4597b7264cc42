-- Every call that is its rules before its value goes by its rules: the laws of rules, over any list and any value. Assumes nothing.
use Rattle.std.specs.Prelude.{Ok}
use mathlib.Core.Path.{◌≡◌, refl, ◌∙◌, ap}
use mathlib.Core.Bool.{Bool, true, false}
use mathlib.Core.List.{List, [], ◌∷◌}
use Prim.Native.Nat.{ℕ}
use native.Mathlib.Omega.{arith}
use Rattle.refusal.specs.Refusal.{Rule, Answered, refuse_if, checked, NoneBroken, none, also}
use Rattle.refusal.proofs.RefusalLaws.{refused_first_broken, first_broken_refused, answered_none_broken, none_broken_answered}
use Rattle.claims.specs.Claims.{ByRules}

-- rules before a value
pub by_rules : {A : Type 0} (rules : List Rule) (a : A) → ByRules rules a (checked rules (Ok a))
by_rules rules a = record {
  number = λ e. (refused_first_broken rules a e, first_broken_refused rules (Ok a) e);
  value = λ c. (answered_none_broken rules a c, λ kept. none_broken_answered rules (Ok a) kept.0 ∙ ap Ok kept.1);
}

-- a call that answers has broken none of its rules, and what comes after them answers
pub rules_answered : {A : Type 0} (rs : List Rule) (next : Answered A) (c : A) → checked rs next ≡ Ok c → NoneBroken rs × (next ≡ Ok c)
rules_answered [] next c e = (none, e)
rules_answered {A} (r ∷ rs) next c e = by r.broken refl e (rules_answered rs next c)
  where
    by : (b : Bool) → r.broken ≡ b → refuse_if b r.refusal (checked rs next) ≡ Ok c
        → (checked rs next ≡ Ok c → NoneBroken rs × (next ≡ Ok c)) → NoneBroken (r ∷ rs) × (next ≡ Ok c)
    by true broken f later = cc
    by false kept f later = let (all, rest) = later f in (also kept all, rest)

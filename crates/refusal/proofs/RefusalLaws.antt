-- Laws of rules in their order, for every call that refuses: a refusal is given exactly if its rule is the first broken one, and a value
-- exactly if none is broken. Assumes nothing.
use Rattle.std.specs.Prelude.{Ok, Err}
use mathlib.Core.Path.{◌≡◌, refl}
use mathlib.Core.Bool.{Bool, true, false}
use mathlib.Core.List.{List, [], ◌∷◌}
use Rattle.types.specs.declared.refusal.Refusal.{Refusal}
use Rattle.refusal.specs.Refusal.{Rule, rule, Answered, refuse_if, checked, FirstBroken, here, later, NoneBroken, none, also}

module _ {A : Type 0} where
  refused_at_head : (r : Rule) (rs : List Rule) (a : A) (n : Refusal) (t : Bool) → r.broken ≡ t → refuse_if t r.refusal (checked rs (Ok a)) ≡ Err n
      → (checked rs (Ok a) ≡ Err n → FirstBroken n rs) → FirstBroken n (r ∷ rs)
  refused_at_head r rs a n true b e rest = here {r = r} b (cc)
  refused_at_head r rs a n false b e rest = later {r = r} b (rest e)

  -- a refusal is given only where its rule is broken and none before it is
  pub refused_first_broken : (rs : List Rule) (a : A) (n : Refusal) → checked rs (Ok a) ≡ Err n → FirstBroken n rs
  refused_first_broken [] a n e = cc
  refused_first_broken (r ∷ rs) a n e = refused_at_head r rs a n r.broken refl e (refused_first_broken rs a n)

  -- and it is given wherever that is so
  pub first_broken_refused : (rs : List Rule) (next : Answered A) (n : Refusal) → FirstBroken n rs → checked rs next ≡ Err n
  first_broken_refused [] next n f = elim f [ ]
  first_broken_refused (r ∷ rs) next n (here b e) = simp b (cc)
  first_broken_refused (r ∷ rs) next n (later b f) = simp b (first_broken_refused rs next n f)

  answered_at_head : (r : Rule) (rs : List Rule) (a c : A) (t : Bool) → r.broken ≡ t → refuse_if t r.refusal (checked rs (Ok a)) ≡ Ok c
      → (checked rs (Ok a) ≡ Ok c → NoneBroken rs × (a ≡ c)) → NoneBroken (r ∷ rs) × (a ≡ c)
  answered_at_head r rs a c true b e rest = cc
  answered_at_head r rs a c false b e rest = (also {r = r} b (rest e).0, (rest e).1)

  -- a value is given only where no rule is broken, and it is the call's
  pub answered_none_broken : (rs : List Rule) (a c : A) → checked rs (Ok a) ≡ Ok c → NoneBroken rs × (a ≡ c)
  answered_none_broken [] a c e = (none, cc)
  answered_none_broken (r ∷ rs) a c e = answered_at_head r rs a c r.broken refl e (answered_none_broken rs a c)

  -- where none is broken, what comes after the rules stands
  pub none_broken_answered : (rs : List Rule) (next : Answered A) → NoneBroken rs → checked rs next ≡ next
  none_broken_answered [] next none = refl
  none_broken_answered (r ∷ rs) next (also b f) = simp b (none_broken_answered rs next f)

  -- a broken rule at the head gives its refusal
  pub rule_broken : (n : Refusal) (rs : List Rule) (next : Answered A) {b : Bool} → b ≡ true → Err n ≡ checked (rule n b ∷ rs) next
  rule_broken n rs next e = simp e

  -- a rule that is kept leaves the call to the others
  pub rule_kept : (n : Refusal) (rs : List Rule) (next : Answered A) {b : Bool} → b ≡ false → checked rs next ≡ checked (rule n b ∷ rs) next
  rule_kept n rs next e = simp e

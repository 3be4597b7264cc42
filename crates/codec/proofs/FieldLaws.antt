-- Laws of reading fields one after another: where the whole gives a value, each part gave one; and what a field that was refused, or read,
-- makes of what comes after it. Assumes nothing.
use Rattle.std.specs.Prelude.{Ok, Err}
use mathlib.Core.Path.{◌≡◌, refl, sym, ap}
use mathlib.Core.Bool.{Bool, true, false}
use mathlib.Core.List.{[], ◌∷◌}
use Prim.Native.Nat.{ℕ}
use Rattle.types.specs.declared.refusal.Refusal.{Refusal}
use Rattle.refusal.specs.Refusal.{rule, Answered, and_then, checked}
use Rattle.codec.specs.Field.{Field, Reading, onward}

-- where reading goes on to a value, the first field was read, and the rest gave that value from where it ended
pub onward_answered : {A B : Type 0} (r : Reading A) (k : A → ℕ → Answered B) (b : B) → onward r k ≡ Ok b
    → (f : Field A) × (r ≡ Ok f) × (k f.value f.next ≡ Ok b)
onward_answered (Ok f) k b e = (f, refl, e)
onward_answered (Err n) k b e = cc

-- where a call goes on to a value after another, that one gave a value, and the rest gave the whole's
pub and_then_answered : {A B : Type 0} (r : Answered A) (k : A → Answered B) (b : B) → and_then r k ≡ Ok b → (a : A) × (r ≡ Ok a) × (k a ≡ Ok b)
and_then_answered (Ok a) k b e = (a, refl, e)
and_then_answered (Err n) k b e = cc

-- where one rule stands before a call that gives a value, it is kept, and the call gave that value
pub checked_onward : {A : Type 0} (n : Refusal) (b : Bool) (next : Answered A) (c : A) → checked (rule n b ∷ []) next ≡ Ok c → (b ≡ false) × (next ≡ Ok c)
checked_onward n true next c e = cc
checked_onward n false next c e = (refl, e)

-- where one rule stands before a value, it is kept, and the value is that one
pub checked_answered : {A : Type 0} (n : Refusal) (b : Bool) (a c : A) → checked (rule n b ∷ []) (Ok a) ≡ Ok c → (b ≡ false) × (a ≡ c)
checked_answered n b a c e = let kept = checked_onward n b (Ok a) c e in (kept.0, cc kept.1)

module _ {A B : Type 0} (r : Reading A) (later : A → ℕ → Answered B) where
  -- a refused field refuses the whole
  pub onward_refused : {n : Refusal} → r ≡ Err n → Err n ≡ onward r later
  onward_refused e = sym (ap (λ (q : Reading A). onward q later) e)

  -- a field that is read leaves the rest, from where it ended
  pub onward_read : {f : Field A} → r ≡ Ok f → later f.value f.next ≡ onward r later
  onward_read e = sym (ap (λ (q : Reading A). onward q later) e)

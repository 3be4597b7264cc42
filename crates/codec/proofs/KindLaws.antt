-- Writing and reading a kind byte are inverse: the byte of a head that is taken is read as the head, and a byte that is read as one is its own.
-- Assumes nothing.
use Rattle.types.specs.declared.refusal.Refusal.TheVariants as Refusal'
use Rattle.std.specs.Prelude.{Ok}
use mathlib.Core.Path.{◌≡◌, refl, sym}
use mathlib.Core.Bool.{Bool, true, false, cond}
use mathlib.Core.List.{List, [], ◌∷◌}
use Prim.Native.Nat.{ℕ, ◌+◌, ◌<◌}
use native.Mathlib.Omega.{arith}
use lib.Dec.{eqb, ltb}
use lib.ListN.{length, get_or}
use borrow.Author.Tests.{ltb-false, le-ltb, eqb-true}
use Rattle.numbers.proofs.TestLaws.{no_true}
use Rattle.refusal.specs.Refusal.{and_then}
use Rattle.codec.specs.Field.{Field, field}
use Rattle.codec.specs.Kind.{Family, Tables, Gates, Witnesses, Jobs, Head, head, head_kind, every_kind, head_among, kind_at}
use Rattle.codec.proofs.FieldLaws.{and_then_answered, checked_onward}
use Rattle.codec.proofs.StandsLaws.{Stands, stands_head, stands_byte}

-- a single record may be of every kind: a gate and a witness stand beside tables with every row cared for alone
pub every_taken : (f : Family) (cares : Bool) → (f ≡ Gates → cares ≡ false) → (f ≡ Witnesses → cares ≡ false) → head_among every_kind (head_kind (head f cares)) ≡ Ok (head f cares)
unfolding head_among
every_taken Tables false g w = refl
every_taken Tables true g w = refl
every_taken Gates false g w = refl
every_taken Gates true g w = absurd (no_true (sym (g refl)))
every_taken Witnesses false g w = refl
every_taken Witnesses true g w = absurd (no_true (sym (w refl)))
every_taken Jobs false g w = refl
every_taken Jobs true g w = refl

-- the byte of a head that is taken is read as the head
pub kind_read : (takes : List Head) (h : Head) (s : List ℕ) (at : ℕ) (w : List ℕ) → head_among takes (head_kind h) ≡ Ok h → Stands s at (head_kind h ∷ w)
    → kind_at takes s at ≡ Ok (field h (at + 1))
kind_read takes h s at w e t =
    let first = stands_head s at (head_kind h) w t in
    rw (first.1, le-ltb (length s) (at + 1) (omega arith), e)

-- a head that a byte is read as is among those that are taken, and has that byte
head_kind_lem : (takes : List Head) (kind : ℕ) (h : Head) → head_among takes kind ≡ Ok h → kind ≡ head_kind h
unfolding head_among
head_kind_lem [] kind h e = cc
head_kind_lem (g ∷ gs) kind h e = by (eqb kind (head_kind g)) refl e (head_kind_lem gs kind h)
  where
    by : (b : Bool) → eqb kind (head_kind g) ≡ b → cond b (Ok g) (head_among gs kind) ≡ Ok h → (head_among gs kind ≡ Ok h → kind ≡ head_kind h) → kind ≡ head_kind h
    by true t q later = let same : g ≡ h = cc in rw same at (eqb-true kind (head_kind g) t)
    by false t q later = later q

-- what reading a kind byte gave: the byte of the head stands there, and the next field after it
pub record KindRead (s : List ℕ) (at : ℕ) (f : Field Head) : Type 0 where
  pub stands : Stands s at (head_kind f.value ∷ [])
  pub inside : at < length s
  pub next : f.next ≡ at + 1

pub kind_written : (takes : List Head) (s : List ℕ) (at : ℕ) (f : Field Head) → kind_at takes s at ≡ Ok f → KindRead s at f
kind_written takes s at f e =
    let (whole, after) = checked_onward Refusal'.EndsEarly (ltb (length s) (at + 1)) (and_then (head_among takes (get_or s at 0)) (λ g. Ok (field g (at + 1)))) f e in
    let (h, is, same) = and_then_answered (head_among takes (get_or s at 0)) (λ g. Ok (field g (at + 1))) f after in
    let here : at < length s = omega (arith, ltb-false (length s) (at + 1) whole) in
    let read : field h (at + 1) ≡ f = cc in
    rw (← read) (record { stands = rw (← head_kind_lem takes (get_or s at 0) h is) (stands_byte s at here); inside = here; next = refl })

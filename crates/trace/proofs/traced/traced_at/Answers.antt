-- `traced::traced_at` meets its contract: a component is at most 2^31 in size and a sum of counts below 2^40, so that 64 bits hold what is
-- added, and integers of equal bits are equal. Assumes nothing.
use Rattle.std.specs.Prelude.{◌≡◌, ℕ, ◌+◌, ◌^◌, ◌<◌, ◌≤◌, ℤ, pos, ◌+ℤ◌}
use mathlib.Core.Path.{◌∙◌, ap₂}
use native.Mathlib.Omega.{arith}
use mir.Syntax.{w64}
use mir.Val.{SFits, to_z, of_z}
use mir.Facts.{to_z-of_z, to_z_pos}
use borrow.Author.Rules.{rules}
use Rattle.numbers.specs.Tests.{same_z}
use Rattle.numbers.proofs.Int.{up, dn, size_add}
use Rattle.numbers.proofs.Widths.{size_fits}
use Rattle.function.specs.Vector.{component}
use Rattle.trace.proofs.SizeLaws.{signed_fits_row, component_size, same_z_bits}
use Rattle.trace.proofs.traced.traced_at.Goals as goal
use Rattle.trace.proofs.traced.traced_at.Goals.{After-component, After-component-2, Start}

-- what the code adds up of a component and a sum of counts, each read from its bits
abbrev added : ℤ → ℕ → ℤ
added z m = to_z w64 (of_z w64 z) +ℤ to_z w64 m

-- it fits, and is their sum
adds : {z : ℤ} (x : ℤ) {m : ℕ} → z ≡ x → up x + dn x ≤ 2 ^ 31 → m < 2 ^ 40 → SFits w64 (added z m) × (added z m ≡ x +ℤ pos m)
adds {z} x {m} e h k =
    let fits : SFits w64 x = size_fits (omega arith) in
    let read : added z m ≡ x +ℤ pos m = rw e (ap₂ ◌+ℤ◌ (to_z-of_z fits) (to_z_pos w64 (omega arith))) in
    (rw read (size_fits (omega (arith, size_add x (pos m)))), read)

-- the components of v and s are small
current_small : (c : Start) → let z = component c.args.v c.args.input in up z + dn z ≤ 2 ^ 31
current_small c = component_size c.args.v c.args.input (search rules) (λ place. search (rules, signed_fits_row))

copied_small : (c : Start) → let z = component c.args.s c.args.input in up z + dn z ≤ 2 ^ 31
copied_small c = component_size c.args.s c.args.input (search rules) (λ place. search (rules, signed_fits_row))

-- of v's component with what is taken, and of s's with what is added
current_adds : (c : After-component) → let a = c.args in SFits w64 (added c.component.result a.taken) × (added c.component.result a.taken ≡ component a.v a.input +ℤ pos a.taken)
current_adds c = adds _ c.component.ensures (current_small c.before) c.requires.2

copied_adds : (c : After-component-2) → let a = c.args in SFits w64 (added c.component-2.result a.added) × (added c.component-2.result a.added ≡ component a.s a.input +ℤ pos a.added)
copied_adds c = adds _ c.component-2.ensures (copied_small c.before.before) c.requires.1

pub overflow_add-result : goal.overflow_add-result
overflow_add-result c = (current_adds c).0

pub overflow_add-result-2 : goal.overflow_add-result-2
overflow_add-result-2 c = (copied_adds c).0

pub returns : goal.returns
returns c =
    let current = current_adds (goal.at.returns c).After-component in
    let copied = copied_adds c in
    same_z_bits w64 current.0 copied.0 ∙ ap₂ same_z current.1 copied.1

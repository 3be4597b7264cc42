-- `inputs::all_kinds` meets its contract: the closure, called at each place, gives the kind there. Assumes nothing.
use Rattle.std.proofs.Common.{rules, ◌≡◌, ℕ, zero, suc, ◌+◌, ◌<◌, List, refl, sym, ◌∙◌, arith, get_or}
use Rattle.std.specs.Array.{IsFromFnResult, IsFromFnResultFrom}
use Rattle.std.specs.Fn.{Called}
use denote.Param.Members.{Mut}
use lib.Seq.{ext_get_or}
use Rattle.numbers.specs.Tabulate.{tabulate}
use Rattle.numbers.proofs.TabulateLaws.{length_tabulate, get_d_tabulate}
use Rattle.types.specs.declared.inputs.InputKind.TheVariants.{Idle}
use Rattle.table.specs.Inputs.{kinds_of, input_kind_at}
use Rattle.rowwise.proofs.inputs.all_kinds.Goals as goal

-- where a closure gives the values of h, and stays as it is
module _ {F B : Type 0} (g : Mut F (ℕ × Unit {0}) B) (f : F) (h : ℕ → B) (pure : (i : ℕ) (y : B) (q : F) → Called g f (i, tt) y q → (q ≡ f) × (y ≡ h i)) where
  -- calls at the n numbers from i on give the values of h there
  each_is : (ys : List B) (n i k j : ℕ) (p : F) (d : B) → p ≡ f → IsFromFnResultFrom g p ys i n → k < n → i + k ≡ j → get_or ys j d ≡ h j
  each_is ys zero i k j p d e r l at = absurd (omega arith)
  each_is ys (suc n) i zero j p d e (q, y, here, called, rest) l at =
      let same : j ≡ i = omega arith in rw same (here.1 d ∙ (pure i y q (rw e at called)).1)
  each_is ys (suc n) i (suc k) j p d e (q, y, here, called, rest) l at =
      each_is ys n (i + 1) k j q d (pure i y q (rw e at called)).0 rest (omega arith) (omega arith)

  -- so an array of n calls is the list of n values of h
  array_is : (ys : List B) (n : ℕ) (d : B) → IsFromFnResult g f ys n → ys ≡ tabulate n h
  array_is ys n d made =
      ext_get_or d ys (tabulate n h) (made.long ∙ sym (length_tabulate h n))
      (λ k l.
      let inside : k < n = omega (arith, made.long) in
      each_is ys n 0 k k f d refl made.each inside (omega arith) ∙ sym (get_d_tabulate h n k d inside))

pub returns : goal.returns
unfolding kinds_of
returns c = array_is _ _ (input_kind_at c.args.table) (λ i y q r. search rules) c.from_fn.result 8 Idle c.from_fn.ensures.items

-- What a call of undoing comes to, from what was written.
use Rattle.std.proofs.Common.{◌≡◌, ℕ, ◌-◌, Bool, false, cond, eqb, leb, List, ◌++◌, length, drop, replicate, Ok, Err, sym, ap, ◌∙◌, ap₂, arith, le-leb}
use borrow.Author.Tests.{lt-leb}
use Rattle.std.proofs.lemmas.Bool.{eq-eqb}
use Rattle.std.proofs.lemmas.List.{take-append-drop, length-replicate, drop-replicate}
use Rattle.tasks.specs.declared.refusal.Cause.TheVariants.{BufferSizes, BufferShort}
use Rattle.tasks.specs.Task.{Priced}
use Rattle.tasks.specs.Measures.{CostAlgebra}
use Rattle.tasks.specs.Totals.{total}
use Rattle.undoing.specs.declared.writing.Full.{Full}
use Rattle.undoing.specs.declared.undone.Undone.{Undone}
use Rattle.reductions.specs.Steps.{Step}
use Rattle.reductions.specs.Undoing.{undone, inserted}
use Rattle.undoing.specs.UndoCalls.{placed, UndoOutcome, undo_outcome}
use Rattle.undoing.specs.Writing.{StandsAt, Undid}

-- a list that was written at the front of zeros
placed_at : (n : ℕ) (zeros list after : List ℕ) (end : ℕ) → zeros ≡ replicate n 0 → StandsAt zeros 0 list after end → after ≡ placed n list
placed_at n zeros list after end is w =
    let long : end ≡ length list = omega (arith, w.ends) in
    sym (take-append-drop end after)
    ∙ ap₂ (λ (xs ys : List ℕ). xs ++ ys) w.written (w.left ∙ ap (drop end) is ∙ drop-replicate end n 0 ∙ ap (λ (k : ℕ). replicate (n - k) 0) long)

module _ {S : Type 0} (m : CostAlgebra S) (p : Priced) (s : Step) (list buffer : List ℕ) (table : List S) where
  abbrev whole : List ℕ
  whole = undone m p s list

  fitting : Bool → UndoOutcome S
  fitting b = cond b
      (record { said = Ok (record { length = length whole; inserted = total m p (inserted m p s list) }); buffer = placed (length buffer) whole; table = replicate 64 m.nothing })
      (record { said = Err (record { cause = BufferShort; place = 0 }); buffer = replicate (length buffer) 0; table = replicate 64 m.nothing })

  sized : Bool → UndoOutcome S
  sized b = cond b (fitting (leb (length whole) (length buffer))) (record { said = Err (record { cause = BufferSizes; place = 0 }); buffer = buffer; table = table })

  pub outcome_sizes : eqb (length table) 64 ≡ false → record { said = Err (record { cause = BufferSizes; place = 0 }); buffer = buffer; table = table } ≡ undo_outcome m p s list buffer table
  unfolding sized fitting
  outcome_sizes e = sym (ap sized e)

  module _ (sizes : length table ≡ 64) (zeros : List ℕ) (cleared : zeros ≡ replicate (length buffer) 0) (left mid-table : List S) (mid-sizes : length mid-table ≡ 64) (none_left : left ≡ replicate (length mid-table) m.nothing) where
    zeros_long : length zeros ≡ length buffer
    zeros_long = ap length cleared ∙ length-replicate (length buffer) 0

    table_is : left ≡ replicate 64 m.nothing
    table_is = none_left ∙ ap (λ (n : ℕ). replicate n m.nothing) mid-sizes

    pub outcome_fits : (u : Undone S) (after : List ℕ) → Undid m p whole (inserted m p s list) zeros after (Ok u) → record { said = Ok u; buffer = after; table = left } ≡ undo_outcome m p s list buffer table
    unfolding sized fitting
    outcome_fits u after w =
        let long : u.length ≡ length whole = omega (arith, w.0.ends) in
        let answer : u ≡ record { length = length whole; inserted = total m p (inserted m p s list) } = λ i. record { length = long i; inserted = w.1 i } in
        let filled = placed_at (length buffer) zeros whole after u.length cleared w.0 in
        (λ i. record { said = Ok (answer i); buffer = filled i; table = table_is i })
        ∙ sym (ap sized (eq-eqb (length table) 64 sizes) ∙ ap fitting (le-leb (length whole) (length buffer) (omega (arith, w.0.within, zeros_long))))

    pub outcome_short : (mid after : List ℕ) (e : Full) → Undid m p whole (inserted m p s list) zeros mid (Err e) → after ≡ replicate (length mid) 0 → record { said = Err (record { cause = BufferShort; place = 0 }); buffer = after; table = left } ≡ undo_outcome m p s list buffer table
    unfolding sized fitting
    outcome_short mid after e w zeroed =
        let filled : after ≡ replicate (length buffer) 0 = zeroed ∙ ap (λ (n : ℕ). replicate n 0) (w.1 ∙ zeros_long) in
        (λ i. record { said = Err (record { cause = BufferShort; place = 0 }); buffer = filled i; table = table_is i })
        ∙ sym (ap sized (eq-eqb (length table) 64 sizes) ∙ ap fitting (lt-leb (length whole) (length buffer) (omega (arith, w.0, zeros_long))))

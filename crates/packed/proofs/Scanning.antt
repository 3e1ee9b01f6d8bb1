-- The pass over the actions of a file that notes where each begins.
use Rattle.std.proofs.Common.{cond, ltb, ◌≡◌, ℕ, ◌+◌, ◌<◌, ◌≤◌, List, length, get_or, set, Some, None, Ok, Err, sym, ap, ◌∙◌, add-one, arith, length-set, get_or-set_other, get_or-set_same, below_more}
use Rattle.tasks.specs.declared.refusal.Cause.TheVariants.{LeftOver}
use Rattle.tasks.specs.declared.refusal.Refusal.{Refusal}
use Rattle.tasks.specs.Bounds.{first_some}
use Rattle.tasks.specs.Refusals.{refuse}
use Rattle.packed.specs.Decoding.{variables, actions, past_action, action_at, header_refusal, variable_refusal, action_refusal, actions_refusal, refusal}
use Rattle.packed.specs.Checks.{unless}
use Rattle.tasks.proofs.Firsts.{none_more, some_at, or_skip, or_stop}
use Rattle.packed.proofs.Unless.{passed, answer, stopped}
use Rattle.packed.specs.Accepted.{action_accepted}

-- n actions are accepted and noted, and the next record begins at `end`
pub record Scanned (bs offsets : List ℕ) (n end : ℕ) : Type 0 where
  pub long : length offsets ≡ 512
  pub placed : (a : ℕ) → a < n → get_or offsets a 0 ≡ action_at bs a
  pub ends : end ≡ action_at bs n
  pub inside : end ≤ length bs
  pub accepted : first_some n (λ a. action_refusal bs (action_at bs a)) ≡ None

module _ (bs offsets : List ℕ) (n end : ℕ) (h : Scanned bs offsets n end) where
  pub scanned_more : (i next : ℕ) → n < 512 → i ≡ n → Ok next ≡ unless (action_refusal bs end) (past_action bs end) → Scanned bs (set offsets i end) (n + 1) next
  scanned_more i next l e ok =
      let fine = passed (action_refusal bs end) (past_action bs end) next ok in
      let goes = answer (action_refusal bs end) (past_action bs end) next ok in
      let past = (action_accepted bs end fine).past in
      record {
        long = length-set offsets i end ∙ h.long;
        placed = below_more (λ a. get_or (set offsets i end) a 0 ≡ action_at bs a) n
            (λ a k. get_or-set_other offsets i a end 0 (λ q. omega arith) ∙ h.placed a k)
            (ap (λ (j : ℕ). get_or (set offsets j end) n 0) e ∙ get_or-set_same offsets n end 0 (omega (arith, h.long)) ∙ h.ends);
        ends = goes ∙ ap (past_action bs) h.ends ∙ sym (ap (action_at bs) (add-one n));
        inside = omega arith;
        accepted = none_more n (λ a. action_refusal bs (action_at bs a)) h.accepted (sym (ap (action_refusal bs) h.ends) ∙ fine);
      }

  pub scanned_stop : (d : Refusal) → n < actions bs → Err d ≡ unless (action_refusal bs end) (past_action bs end) → actions_refusal bs ≡ Some d
  scanned_stop d l e =
      some_at (actions bs) n (λ a. action_refusal bs (action_at bs a)) d l h.accepted (sym (ap (action_refusal bs) h.ends) ∙ stopped (action_refusal bs end) (past_action bs end) d e)

-- The first record and the variables are accepted: what is refused is an action, or what is left over.
module _ (bs : List ℕ) (first : header_refusal bs ≡ None) (stand : first_some (variables bs) (variable_refusal bs) ≡ None) where
  pub wrong_action : (d : Refusal) → actions_refusal bs ≡ Some d → refusal bs ≡ Some d
  wrong_action d e = or_skip (header_refusal bs) _ first ∙ or_skip (first_some (variables bs) (variable_refusal bs)) _ stand ∙ or_stop (actions_refusal bs) _ d e

  module _ (offsets : List ℕ) (n end : ℕ) (h : Scanned bs offsets n end) (all : n ≡ actions bs) where
    pub past_actions : refusal bs ≡ cond (ltb end (length bs)) (refuse LeftOver end) None
    past_actions =
        or_skip (header_refusal bs) _ first
        ∙ or_skip (first_some (variables bs) (variable_refusal bs)) _ stand
        ∙ or_skip (actions_refusal bs) _ (ap (λ (m : ℕ). first_some m (λ a. action_refusal bs (action_at bs a))) (sym all) ∙ h.accepted)
        ∙ ap (λ (p : ℕ). cond (ltb p (length bs)) (refuse LeftOver p) None) (sym (h.ends ∙ ap (action_at bs) all))

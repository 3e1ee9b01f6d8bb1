-- What opening a file comes to is the one task that its bytes pack, or else they pack none.
use Rattle.std.proofs.Common.{◌≡◌, ℕ, ◌<◌, List, get_or, Some, None, Ok, Err, Option, Result, sym, refl, ap, ◌∙◌, subst, arith}
use Rattle.tasks.specs.declared.refusal.Refusal.{Refusal}
use Rattle.tasks.specs.Task.{Priced}
use Rattle.packed.specs.Decoding.{refusal, decoded, opened}
use Rattle.packed.specs.Packing.{PackingDecides}
use Rattle.packed.specs.Accepted.{accepted_at, accepted_from}
use Rattle.packed.proofs.Unpacking.{decoded_packs}
use Rattle.packed.proofs.Repacking.{packed_opens}

pub packing_decides : (bs : List ℕ) → ((k : ℕ) → get_or bs k 0 < 256) → PackingDecides bs (opened bs)
packing_decides bs small = go (refusal bs) refl
  where
    go : (o : Option Refusal) → refusal bs ≡ o → PackingDecides bs (elim o [ Some e ↦ Err e | None ↦ Ok (decoded bs) ])
    go None e = (decoded_packs bs small (accepted_at bs e), λ q p. (packed_opens q bs p).1)
    go (Some r) e = λ q p. never (sym (accepted_from bs (packed_opens q bs p).0) ∙ e)
      where
        never : ◌≡◌ {A = Option Refusal} None (Some r) → ⊥
        never d = let z : ◌≡◌ {A = ℕ} 0 1 = cc in omega arith

-- what opening comes to, by the refusal
pub opened_ok : (bs : List ℕ) → refusal bs ≡ None → Ok (decoded bs) ≡ opened bs
opened_ok bs e = sym (ap (λ (o : Option Refusal). elim o [ Some d ↦ Err d | None ↦ Ok (decoded bs) ]) e)

pub opened_err : (bs : List ℕ) (d : Refusal) → refusal bs ≡ Some d → Err d ≡ opened bs
opened_err bs d e = sym (ap (λ (o : Option Refusal). elim o [ Some d ↦ Err d | None ↦ Ok (decoded bs) ]) e)

-- the law of the bytes that were read, for an answer about the same bytes
pub decided : (read bs : List ℕ) (r : Result Priced Refusal) → read ≡ bs → PackingDecides read (opened read) → r ≡ opened bs → PackingDecides bs r
decided read bs r same law e = subst (PackingDecides bs) (sym e) (subst (λ (xs : List ℕ). PackingDecides xs (opened xs)) same law)

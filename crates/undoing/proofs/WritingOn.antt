-- Lists written one behind another.
use Rattle.std.proofs.Common.{◌≡◌, ℕ, ◌+◌, ◌-◌, ◌<◌, ◌≤◌, List, [], ◌∷◌, ◌++◌, length, get_or, take, drop, Some, None, Option, Ok, Err, Result, sym, refl, ap, ◌∙◌, subst, add-zero, arith, length-append}
use Rattle.std.proofs.lemmas.Bool.{false≢true}
use Rattle.std.proofs.lemmas.List.{append-nil, append_assoc, drop-drop, drop_more, drop_all}
use Rattle.std.specs.Result.{IsErr}
use Rattle.undoing.specs.declared.writing.Full.{Full}
use Rattle.undoing.specs.Writing.{Wrote, end_of}

pub wrote_nothing : (out : List ℕ) (at : ℕ) → at ≤ length out → Wrote out at [] out (Some at)
wrote_nothing out at l = record { ends = sym (add-zero at); within = l; same_length = refl; written = sym (append-nil (take at out)); left = refl }

-- where a call answers an error nothing more is asked
pub wrote_err : {X : Type 0} (r : Result X Full) → IsErr r → (before : List ℕ) (at : ℕ) (list after : List ℕ) (end : ℕ) → Wrote before at list after None → Wrote before at list after (end_of end r)
wrote_err (Ok x) e before at list after end w = absurd (false≢true e)
wrote_err (Err x) e before at list after end w = w

-- what follows does not matter where the first does not fit
pub wrote_fails : (before : List ℕ) (at : ℕ) (xs ys after : List ℕ) → Wrote before at xs after None → Wrote before at (xs ++ ys) after None
wrote_fails before at xs ys after w = (omega (arith, w.0, length-append xs ys), w.1)

pub wrote_append : (before : List ℕ) (at : ℕ) (xs mid : List ℕ) (end : ℕ) (ys after : List ℕ) (o : Option ℕ) → Wrote before at xs mid (Some end) → Wrote mid end ys after o → Wrote before at (xs ++ ys) after o
wrote_append before at xs mid end ys after None w v = (omega (arith, v.0, w.same_length, w.ends, length-append xs ys), v.1 ∙ w.same_length)
wrote_append before at xs mid end ys after (Some last) w v = record {
  ends = omega (arith, v.ends, w.ends, length-append xs ys);
  within = omega (arith, v.within, w.same_length);
  same_length = v.same_length ∙ w.same_length;
  written = v.written ∙ ap (λ (zs : List ℕ). zs ++ ys) w.written ∙ append_assoc (take at before) xs ys;
  left = v.left ∙ further;
}
  where
    further : drop last mid ≡ drop last before
    further =
        let split : end + (last - end) ≡ last = omega (arith, v.ends) in
        ap (λ (k : ℕ). drop k mid) (sym split) ∙ sym (drop-drop (last - end) end mid) ∙ ap (drop (last - end)) w.left ∙ drop-drop (last - end) end before ∙ ap (λ (k : ℕ). drop k before) split

-- a list, item by item
module _ (list out : List ℕ) (end i : ℕ) (l : i < length list) where
  pub item_written : (mid : List ℕ) (next : ℕ) → Wrote out end (get_or list i 0 ∷ []) mid (Some next) → (after : List ℕ) (o : Option ℕ) → Wrote mid next (drop (i + 1) list) after o → Wrote out end (drop i list) after o
  item_written mid next w after o rest = subst (λ (xs : List ℕ). Wrote out end xs after o) (sym (drop_more list i 0 l)) (wrote_append out end (get_or list i 0 ∷ []) mid next (drop (i + 1) list) after o w rest)

  pub item_fails : (mid : List ℕ) → Wrote out end (get_or list i 0 ∷ []) mid None → Wrote out end (drop i list) mid None
  item_fails mid w = subst (λ (xs : List ℕ). Wrote out end xs mid None) (sym (drop_more list i 0 l)) (wrote_fails out end (get_or list i 0 ∷ []) (drop (i + 1) list) mid w)

pub items_end : (list out : List ℕ) (end i : ℕ) → length list ≤ i → end ≤ length out → Wrote out end (drop i list) out (Some end)
items_end list out end i l within = subst (λ (xs : List ℕ). Wrote out end xs out (Some end)) (sym (drop_all i list l)) (wrote_nothing out end within)

-- The lines of a report, written one after another.
use Rattle.std.proofs.Common.{◌≡◌, ℕ, ◌+◌, ◌<◌, ◌≤◌, List, [], ◌∷◌, ◌++◌, length, get_or, take, decimal, sym, refl, ap, ◌∙◌}
use Rattle.std.proofs.lemmas.List.{append-nil, append_assoc, take_more, take_all}
use Rattle.std.proofs.Output.{has_written_append, has_written_of_eq}
use Rattle.std.specs.Fmt.{HasWritten}
use Rattle.std.specs.declared.fmt.Formatter.{Formatter}
use Rattle.job.specs.Texts.{action_lines, report_head, report_text}

lines_append : (xs ys : List ℕ) → action_lines (xs ++ ys) ≡ action_lines xs ++ action_lines ys
lines_append [] ys = refl
lines_append (x ∷ xs) ys = ap (λ (l : List ℕ). 10 ∷ (decimal x ++ l)) (lines_append xs ys) ∙ sym (ap (λ (l : List ℕ). 10 ∷ l) (append_assoc (decimal x) (action_lines xs) (action_lines ys)))

pub lines_more : (xs : List ℕ) (i : ℕ) → i < length xs → action_lines (take i xs) ++ (10 ∷ decimal (get_or xs i 0)) ≡ action_lines (take (i + 1) xs)
lines_more xs i l =
    sym (ap action_lines (take_more xs i 0 l) ∙ lines_append (take i xs) (get_or xs i 0 ∷ []) ∙ ap (λ (r : List ℕ). action_lines (take i xs) ++ (10 ∷ r)) (append-nil (decimal (get_or xs i 0))))

pub lines_all : (plan xs : List ℕ) (i : ℕ) → xs ≡ plan → length xs ≤ i → action_lines (take i xs) ≡ action_lines plan
lines_all plan xs i same l = ap action_lines (take_all i xs l ∙ same)

-- one line more is written
pub written_more : {W : Type 0} (gives : W → List ℕ → W → Type 0) (start now after : Formatter W) (xs : List ℕ) (i : ℕ) → i < length xs → HasWritten gives start (action_lines (take i xs)) now → HasWritten gives now (10 ∷ decimal (get_or xs i 0)) after → HasWritten gives start (action_lines (take (i + 1) xs)) after
written_more gives start now after xs i l so_far line =
    has_written_of_eq gives _ _ _ _ (lines_more xs i l) (has_written_append gives _ (action_lines (take i xs)) _ _ _ so_far line)

-- the head and all lines are written
pub all_written : {W : Type 0} (gives : W → List ℕ → W → Type 0) (start begun done : Formatter W) (plan xs : List ℕ) (size total i : ℕ) → size ≡ length plan → xs ≡ plan → length xs ≤ i → HasWritten gives start (report_head size total) begun → HasWritten gives begun (action_lines (take i xs)) done → HasWritten gives start (report_text plan total) done
all_written gives start begun done plan xs size total i many same l head lines =
    has_written_of_eq gives _ _ _ _ (ap (λ (n : ℕ). report_head n total ++ action_lines plan) many)
    (has_written_append gives _ (report_head size total) _ _ _ head (has_written_of_eq gives _ _ _ _ (lines_all plan xs i same l) lines))

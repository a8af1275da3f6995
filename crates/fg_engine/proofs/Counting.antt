-- The counts of plays, one after another.
use Rattle.std.proofs.Common.{◌≡◌, ◌+◌, ◌≤◌, ℕ, Bool, true, false, cond, not, List, [], ◌∷◌, ◌++◌, length, sym, ap, ◌∙◌, arith, length-append}
use Rattle.std.specs.List.{count_by}
use Rattle.std.proofs.lemmas.List.Sums.{sum_by-append, count_by-le-length}
use Rattle.fg_playout.specs.Play.{Play, Shown}
use Rattle.fg_report.specs.Gaps.{gaps_end, with_gap}
use Rattle.fg_report.proofs.GapLemmas.{gaps_end-with}
use Rattle.fg_report.specs.declared.flow_sum.FlowSum.{FlowSum}
use Rattle.fg_results.specs.Flow.{all_shown, shows_word, is_inconsistent}
use Rattle.fg_results.specs.Gaps.{gaps_from}
use Rattle.fg_results.proofs.ShownLemmas.{all_shown_more}
use Rattle.fg_engine.specs.Steps.{with_shown, with_plays, CountsWithin}

-- Where the runs end.

end_after :
    (gaps : List (ℕ × ℕ)) (position : ℕ) (b : Bool) → gaps_end gaps ≤ position
    → gaps_end (cond b gaps (with_gap gaps position 1)) ≤ position + 1
end_after gaps position true behind = omega (arith, behind)
end_after gaps position false behind = (let end = gaps_end-with gaps position 1 in omega (arith, end))

pub gaps_end_within :
    (gaps : List (ℕ × ℕ)) (position : ℕ) (shown : List Shown) → gaps_end gaps ≤ position
    → gaps_end (gaps_from gaps position shown) ≤ position + length shown
gaps_end_within gaps position [] behind = omega (arith, behind)
gaps_end_within gaps position (one ∷ shown) behind =
    let rest = gaps_end_within (cond (shows_word one) gaps (with_gap gaps position 1)) (position + 1) shown
    (end_after gaps position (shows_word one) behind) in omega (arith, rest)

pub gaps_more :
    (gaps : List (ℕ × ℕ)) (position : ℕ) (one other : List Shown)
    → gaps_from (gaps_from gaps position one) (position + length one) other ≡ gaps_from gaps position (one ++ other)
gaps_more gaps position [] other = ap (λ (n : ℕ). gaps_from gaps n other) (omega arith)
gaps_more gaps position (first ∷ one) other =
    let next = cond (shows_word first) gaps (with_gap gaps position 1) in
    let place : position + length (first ∷ one) ≡ position + 1 + length one = omega arith in
    ap (λ (n : ℕ). gaps_from (gaps_from next (position + 1) one) n other) place
    ∙ gaps_more next (position + 1) one other

-- The counts.

count_more :
    {X : Type 0} (test : X → Bool) (n : ℕ) (one other : List X)
    → n + count_by test one + count_by test other ≡ n + count_by test (one ++ other)
count_more test n one other = (let both = sum_by-append (λ x. cond (test x) 1 0) one other in omega (arith, both))

pub shown_more :
    (sum : FlowSum) (first : ℕ) (one other : List Shown)
    → with_shown (with_shown sum first one) (first + length one) other ≡ with_shown sum first (one ++ other)
shown_more sum first one other =
    let shown = count_more shows_word sum.shown one other in
    let repaired = count_more (λ (s : Shown). s.repaired) sum.repaired one other in
    let missing = count_more (λ (s : Shown). not (shows_word s)) sum.missing one other in
    let gaps = gaps_more sum.gaps first one other in
    λ i. record sum { shown = shown i; repaired = repaired i; missing = missing i; gaps = gaps i }

pub shown_within :
    (sum : FlowSum) (first : ℕ) (shown : List Shown) → CountsWithin sum first
    → CountsWithin (with_shown sum first shown) (first + length shown)
shown_within sum first shown within = record {
  shown = omega (arith, count_by-le-length shows_word shown, within.shown);
  repaired = omega (arith, count_by-le-length (λ (s : Shown). s.repaired) shown, within.repaired);
  missing = omega (arith, count_by-le-length (λ (s : Shown). not (shows_word s)) shown, within.missing);
  windows = omega (arith, within.windows);
  inconsistent = omega (arith, within.inconsistent);
  gaps = gaps_end_within sum.gaps first shown within.gaps;
}

pub plays_more :
    (sum : FlowSum) (first : ℕ) (one other : List Play)
    → with_plays (with_plays sum first one) (first + length (all_shown one)) other ≡ with_plays sum first (one ++ other)
plays_more sum first one other =
    let shown = shown_more sum first (all_shown one) (all_shown other)
    ∙ ap (λ (shown : List Shown). with_shown sum first shown) (sym (all_shown_more one other)) in
    let windows : sum.windows + length one + length other ≡ sum.windows + length (one ++ other) = omega (arith, length-append one other) in
    let inconsistent = count_more is_inconsistent sum.inconsistent one other in
    λ i. record (shown i) { windows = windows i; inconsistent = inconsistent i }

pub plays_within :
    (sum : FlowSum) (first : ℕ) (play : Play) → CountsWithin sum first → 1 ≤ length play.shown
    → CountsWithin (with_plays sum first (play ∷ [])) (first + length (all_shown (play ∷ [])))
plays_within sum first play within some =
    let shown = shown_within sum first (all_shown (play ∷ [])) within in
    let length_is : length (all_shown (play ∷ [])) ≡ length play.shown = (let joined = length-append play.shown [] in omega (arith, joined)) in
    let one = count_by-le-length is_inconsistent (play ∷ []) in
    record {
      shown = shown.shown;
      repaired = shown.repaired;
      missing = shown.missing;
      windows = omega (arith, length_is, within.windows);
      inconsistent = omega (arith, length_is, within.inconsistent, one);
      gaps = shown.gaps;
    }

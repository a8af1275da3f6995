-- A play is told position after position, as it shows them.
use Rattle.std.proofs.Common.{◌≡◌, ◌+◌, ◌<◌, ◌≤◌, ℕ, Bool, List, [], ◌∷◌, ◌++◌, length, take, drop, take-append-drop, append_assoc, Option, sym, ap, subst, ◌∙◌, arith}
use Rattle.std.specs.List.{count_by, flat_map, slice_index_or}
use Rattle.std.proofs.lemmas.List.{append-nil, length-take-le, take_all, take_more}
use Rattle.std.proofs.lemmas.List.Concat.{flat_map-append}
use Rattle.fg_io.specs.Prefix.{IsPrefix}
use Rattle.fg_words.specs.declared.Word.{Word}
use Rattle.fg_desk.specs.declared.desk.Played.{Played}
use Rattle.fg_playout.specs.Play.{Shown, nothing_shown}
use Rattle.fg_report.specs.declared.flow_sum.FlowSum.{FlowSum}
use Rattle.fg_results.specs.Flow.{all_shown, shown_payload, is_inconsistent, lane_of}
use Rattle.fg_engine.specs.Steps.{with_shown, with_plays, played_as, CountsWithin}
use Rattle.fg_engine.proofs.Counting.{shown_more, shown_within}

abbrev the_shown : Option Word → Bool → Shown
the_shown word repaired = record { word = word; repaired = repaired }

module _ (shown : List Shown) where
  one_more :
      (i : ℕ) (word : Option Word) (repaired : Bool) → i < length shown
      → word ≡ (slice_index_or shown i nothing_shown).word → repaired ≡ (slice_index_or shown i nothing_shown).repaired
      → take i shown ++ the_shown word repaired ∷ [] ≡ take (i + 1) shown
  one_more i word repaired below word_is repaired_is =
      (λ j. take i shown ++ the_shown (word_is j) (repaired_is j) ∷ [])
      ∙ sym (take_more shown i nothing_shown below)

  pub within_so_far :
      (sum new : FlowSum) (first i : ℕ) → i ≤ length shown → CountsWithin sum first → new ≡ with_shown sum first (take i shown)
      → CountsWithin new (first + i)
  within_so_far sum new first i some within is =
      subst (λ (s : FlowSum). CountsWithin s (first + i)) (sym is)
      (subst (λ (n : ℕ). CountsWithin (with_shown sum first (take i shown)) (first + n)) (length-take-le i shown some)
      (shown_within sum first (take i shown) within))

  pub counts_one_more :
      (sum so_far new : FlowSum) (first i position : ℕ) (word : Option Word) (repaired : Bool) → i < length shown → position ≡ first + i
      → word ≡ (slice_index_or shown i nothing_shown).word → repaired ≡ (slice_index_or shown i nothing_shown).repaired
      → so_far ≡ with_shown sum first (take i shown)
      → new ≡ with_shown so_far position (the_shown word repaired ∷ []) → new ≡ with_shown sum first (take (i + 1) shown)
  counts_one_more sum so_far new first i position word repaired below at word_is repaired_is before after =
      let some : i ≤ length shown = omega (arith, below) in
      let place : position ≡ first + length (take i shown) = at ∙ ap (λ (n : ℕ). first + n) (sym (length-take-le i shown some)) in
      after
      ∙ (λ j. with_shown (before j) (place j) (the_shown word repaired ∷ []))
      ∙ shown_more sum first (take i shown) (the_shown word repaired ∷ [])
      ∙ ap (λ (more : List Shown). with_shown sum first more) (one_more i word repaired below word_is repaired_is)

  lane_next :
      (i : ℕ) (word : Option Word) (repaired : Bool) → i < length shown
      → word ≡ (slice_index_or shown i nothing_shown).word → repaired ≡ (slice_index_or shown i nothing_shown).repaired
      → flat_map shown_payload (take i shown) ++ shown_payload (the_shown word repaired) ≡ flat_map shown_payload (take (i + 1) shown)
  lane_next i word repaired below word_is repaired_is =
      (λ j. flat_map shown_payload (take i shown) ++ sym (append-nil (shown_payload (the_shown word repaired))) j)
      ∙ sym (flat_map-append shown_payload (take i shown) (the_shown word repaired ∷ []))
      ∙ ap (λ (more : List Shown). flat_map shown_payload more) (one_more i word repaired below word_is repaired_is)

  pub lane_one_more :
      (old lane new : List ℕ) (i : ℕ) (word : Option Word) (repaired : Bool) → i < length shown
      → word ≡ (slice_index_or shown i nothing_shown).word → repaired ≡ (slice_index_or shown i nothing_shown).repaired
      → lane ≡ old ++ flat_map shown_payload (take i shown) → new ≡ lane ++ shown_payload (the_shown word repaired)
      → new ≡ old ++ flat_map shown_payload (take (i + 1) shown)
  lane_one_more old lane new i word repaired below word_is repaired_is before after =
      after
      ∙ ap (λ (bytes : List ℕ). bytes ++ shown_payload (the_shown word repaired)) before
      ∙ append_assoc old (flat_map shown_payload (take i shown)) (shown_payload (the_shown word repaired))
      ∙ ap (λ (bytes : List ℕ). old ++ bytes) (lane_next i word repaired below word_is repaired_is)

  all_of_play : (played : Played) (i : ℕ) → length shown ≤ i → take i shown ≡ all_shown (played_as played shown ∷ [])
  all_of_play played i all = take_all i shown all ∙ sym (append-nil shown)

  pub counts_all :
      (sum so_far new : FlowSum) (played : Played) (i : ℕ) → length shown ≤ i
      → so_far ≡ with_shown sum played.first (take i shown)
      → new ≡ record so_far { windows = so_far.windows + 1; inconsistent = so_far.inconsistent + count_by is_inconsistent (played_as played shown ∷ []) }
      → new ≡ with_plays sum played.first (played_as played shown ∷ [])
  counts_all sum so_far new played i all before after =
      let play = played_as played shown in
      let is : so_far ≡ with_shown sum played.first (all_shown (play ∷ [])) =
      before ∙ ap (λ (some : List Shown). with_shown sum played.first some) (all_of_play played i all) in
      after
      ∙ ap (λ (s : FlowSum). record s { windows = s.windows + 1; inconsistent = s.inconsistent + count_by is_inconsistent (play ∷ []) }) is

  pub lane_all :
      (old lane : List ℕ) (played : Played) (i : ℕ) → length shown ≤ i
      → lane ≡ old ++ flat_map shown_payload (take i shown) → lane ≡ old ++ lane_of (played_as played shown ∷ [])
  lane_all old lane played i all before =
      before ∙ ap (λ (some : List Shown). old ++ flat_map shown_payload some) (all_of_play played i all)

  -- What was added so far is a front of what the play shows.
  pub lane_part :
      (old lane : List ℕ) (played : Played) (i : ℕ) → lane ≡ old ++ flat_map shown_payload (take i shown)
      → (part : List ℕ) × IsPrefix part (lane_of (played_as played shown ∷ [])) × (lane ≡ old ++ part)
  lane_part old lane played i before = (
    flat_map shown_payload (take i shown),
    (
      flat_map shown_payload (drop i shown),
      ap (λ (all : List Shown). flat_map shown_payload all) (append-nil shown ∙ sym (take-append-drop i shown))
          ∙ flat_map-append shown_payload (take i shown) (drop i shown),
    ),
    before,
  )

-- What the slots of an encoding have shown so far.
use Rattle.std.proofs.Common.{◌≡◌, ◌⊎◌, inl, inr, ⊎_elim, ℕ, zero, suc, ◌+◌, ◌-◌, ◌<◌, ◌≤◌, ◌%◌, Bool, true, false, cond, ltb, ◌&&◌, not, Option, Some, None, List, [], ◌∷◌, ◌++◌, length, map, reverse, refl, sym, ap, ◌∙◌, subst, arith, append_assoc, zero-add}
use Rattle.std.specs.List.{AllByRecursion, count_by, range_with_len}
use Rattle.std.proofs.lemmas.Bool.{cases_lt, le-leb, lt-ltb}
use Rattle.std.proofs.lemmas.List.{reverse-append}
use Rattle.std.proofs.lemmas.List.FromFn.{length-range_with_len}
use Rattle.fg_unwrap.specs.Position.{position_of}
use Rattle.fg_shape.specs.declared.encoding.Settings.{Settings}
use Rattle.fg_shape.specs.Laws.{LayoutsAreRead}
use Rattle.fg_streams.specs.declared.span.Span.{Span}
use Rattle.fg_streams.specs.Arrival.{Arrival, in_time, position_in, span_of}
use Rattle.fg_streams.specs.Fates.{expected_in, first_in, fates_of}
use Rattle.fg_streams.specs.Summary.{summary_of}
use Rattle.fg_survey.specs.declared.senders.Sender.{Sender}
use Rattle.fg_survey.specs.Heard.{Heard, on_port}
use Rattle.fg_survey.specs.Matrix.{columns_on, last_sender, matrix_of, rows_on}
use Rattle.fg_survey.specs.Senders.{arrivals_of, senders_of, unlisted}
use Rattle.fg_encode.specs.Encoding.{sequence_of}
use Rattle.fg_encode.specs.Ends.{rows_ending}
use Rattle.fg_encode.specs.Laws.{ColumnsAreTheLayouts}
use Rattle.fg_encode.proofs.ListLemmas.{bool_cases}
use Rattle.fg_thin.specs.Thinned.{media_number}
use Rattle.fg_drill.specs.Covered.{is_gone}
use Rattle.fg_drill.proofs.TrueNumbers.{position_is}
use Rattle.fg_surveyed.specs.Left.{LeavesColumn, LeavesMedia}
use Rattle.fg_surveyed.specs.Told.{CountsLosses, IsLayouts, encoder}
use Rattle.fg_surveyed.proofs.Counting.{count_more, count_none_more, count_not, one_if}
use Rattle.fg_surveyed.proofs.Encoded.{column_heard, column_is, heard_of, left_of, media_heard, media_is, row_heard, sides_are, sides_left}
use Rattle.fg_surveyed.proofs.Rising.{AllAhead, fate_is, only_received, span_is}
use Rattle.fg_surveyed.proofs.Shapes.{IsOf, matrix_shows}
use Rattle.fg_surveyed.proofs.Sides.{arrival, column_counts, columns_shape, media_arrives, media_last, media_listed, media_protects, media_sends, more_counts, rows_shape, sides_arrive, sides_last, sides_listed, sides_send}

-- Positions

-- The number of a slot has the position that is as far ahead of the top as the slot is.
next_position : (seq first top slot : ℕ) → first ≤ top → top < slot → slot ≤ top + 32767
    → let from : ℕ = (seq + first) % 65536 in
    position_of (from + (top - first)) ((from + (top - first)) % 65536) ((seq + slot) % 65536) ≡ Some (from + (slot - first))
next_position seq first top slot order above near =
    let from : ℕ = (seq + first) % 65536 in
    let high : ℕ = from + (top - first) in
    let place : ℕ = from + (slot - first) in
    let place_number : (0 + place) % 65536 ≡ (seq + slot) % 65536 = omega (arith, order, above) in
    let top_number : (0 + high) % 65536 ≡ high % 65536 = ap (λ n. n % 65536) (zero-add high) in
    ap (λ n. position_of high (high % 65536) n) (sym place_number) ∙ ap (λ n. position_of high n ((0 + place) % 65536)) (sym top_number)
    ∙ position_is 0 high place (omega (arith, order, above)) (omega (arith, order, above, near))

-- Ahead of the top it is in time.
is_in_time : (s : Span) (p : ℕ) (o : Option ℕ) → o ≡ Some p → s.first ≤ p → s.top < p → in_time s o ≡ Some p
is_in_time s p o is from above =
    let late : s.top < p + 1024 = omega (arith, above) in
    let none : Option ℕ = None in
    ap (λ (t : Option ℕ). in_time s t) is
    ∙ ap (λ (b : Bool). cond (b && ltb s.top (p + 1024)) (Some p) none) (le-leb s.first p from)
    ∙ ap (λ (b : Bool). cond b (Some p) none) (lt-ltb s.top (p + 1024) late)

module _ (settings : Settings) (payloads : List (List ℕ)) (lost : ℕ → Bool) where
  abbrev s : Sender
  s = encoder settings

  abbrev gone : ℕ → Bool
  gone slot = is_gone settings.layout lost slot

  abbrev kept : ℕ → Bool
  kept slot = not (is_gone settings.layout lost slot)

  abbrev heard : ℕ → List Heard
  heard n = heard_of settings payloads lost n

  abbrev stream : ℕ → List Arrival
  stream n = arrivals_of s (heard n)

  abbrev w : ℕ
  w = settings.layout.l

  abbrev h : ℕ
  h = settings.layout.d

  -- behind the parity of a slot
  abbrev then : ℕ → List Heard
  then n = cond (gone n) (heard n) (media_heard settings payloads n ∷ heard n)

  then_gone : (n : ℕ) → gone n ≡ true → then n ≡ heard n
  then_gone n is = ap (λ (b : Bool). cond b (heard n) (media_heard settings payloads n ∷ heard n)) is

  then_left : (n : ℕ) → gone n ≡ false → then n ≡ media_heard settings payloads n ∷ heard n
  then_left n is = ap (λ (b : Bool). cond b (heard n) (media_heard settings payloads n ∷ heard n)) is

  abbrev own : ℕ → Arrival
  own n = arrival s w h (sequence_of settings n) (media_heard settings payloads n) (media_is settings payloads n)

  stream_gone : (n : ℕ) → gone n ≡ true → stream (suc n) ≡ stream n
  stream_gone n is =
      sides_arrive s w h (sides_left settings payloads lost n) (then n) (sides_are settings payloads lost n)
      ∙ ap (λ (xs : List Heard). arrivals_of s xs) (then_gone n is)

  stream_left : (n : ℕ) → gone n ≡ false → stream (suc n) ≡ own n ∷ stream n
  stream_left n is =
      sides_arrive s w h (sides_left settings payloads lost n) (then n) (sides_are settings payloads lost n)
      ∙ ap (λ (xs : List Heard). arrivals_of s xs) (then_left n is)
      ∙ media_arrives s w h (sequence_of settings n) (media_heard settings payloads n) (media_is settings payloads n) (heard n)

  send_gone : (n : ℕ) → gone n ≡ true → senders_of (heard (suc n)) ≡ senders_of (heard n)
  send_gone n is =
      sides_send s w h (sides_left settings payloads lost n) (then n) (sides_are settings payloads lost n)
      ∙ ap (λ (xs : List Heard). senders_of xs) (then_gone n is)

  send_left : (n : ℕ) → gone n ≡ false → (senders_of (heard n) ≡ []) ⊎ (senders_of (heard n) ≡ s ∷ []) → senders_of (heard (suc n)) ≡ s ∷ []
  send_left n is before =
      sides_send s w h (sides_left settings payloads lost n) (then n) (sides_are settings payloads lost n)
      ∙ ap (λ (xs : List Heard). senders_of xs) (then_left n is)
      ∙ media_sends s w h (sequence_of settings n) (media_heard settings payloads n) (media_is settings payloads n) (heard n) before

  listed_gone : (n : ℕ) → gone n ≡ true → unlisted (heard (suc n)) ≡ unlisted (heard n)
  listed_gone n is =
      sides_listed s w h (sides_left settings payloads lost n) (then n) (sides_are settings payloads lost n)
      ∙ ap (λ (xs : List Heard). unlisted xs) (then_gone n is)

  listed_left : (n : ℕ) → gone n ≡ false → (senders_of (heard n) ≡ []) ⊎ (senders_of (heard n) ≡ s ∷ []) → unlisted (heard (suc n)) ≡ unlisted (heard n)
  listed_left n is before =
      sides_listed s w h (sides_left settings payloads lost n) (then n) (sides_are settings payloads lost n)
      ∙ ap (λ (xs : List Heard). unlisted xs) (then_left n is)
      ∙ media_listed s w h (sequence_of settings n) (media_heard settings payloads n) (media_is settings payloads n) (heard n)
      (media_sends s w h (sequence_of settings n) (media_heard settings payloads n) (media_is settings payloads n) (heard n) before)

  last_gone : (n : ℕ) → gone n ≡ true → last_sender (on_port settings.port (heard (suc n))) ≡ last_sender (on_port settings.port (heard n))
  last_gone n is =
      sides_last s w h (sides_left settings payloads lost n) (then n) (sides_are settings payloads lost n)
      ∙ ap (λ (xs : List Heard). last_sender (on_port settings.port xs)) (then_gone n is)

  last_left : (n : ℕ) → gone n ≡ false → last_sender (on_port settings.port (heard (suc n))) ≡ Some s
  last_left n is =
      sides_last s w h (sides_left settings payloads lost n) (then n) (sides_are settings payloads lost n)
      ∙ ap (λ (xs : List Heard). last_sender (on_port settings.port xs)) (then_left n is)
      ∙ media_last s w h (sequence_of settings n) (media_heard settings payloads n) (media_is settings payloads n) (heard n)

  -- Parity shows its shape

  columns_all : (n : ℕ) → AllByRecursion (IsOf w h) (columns_on settings.port (heard n))
  columns_all zero = tt
  columns_all (suc n) =
      columns_shape s w h (sides_left settings payloads lost n) (then n) (sides_are settings payloads lost n)
      (⊎_elim
      (λ (is : gone n ≡ true). subst (λ (xs : List Heard). AllByRecursion (IsOf w h) (columns_on settings.port xs)) (sym (then_gone n is)) (columns_all n))
      (λ (is : gone n ≡ false). subst (λ (xs : List Heard). AllByRecursion (IsOf w h) (columns_on settings.port xs)) (sym (then_left n is))
      (subst (λ ps. AllByRecursion (IsOf w h) ps)
      (sym (media_protects s w h (sequence_of settings n) (media_heard settings payloads n) (media_is settings payloads n) (settings.port + 2) (heard n))) (columns_all n)))
      (bool_cases (gone n)))

  rows_all : (n : ℕ) → AllByRecursion (IsOf 1 w) (rows_on settings.port (heard n))
  rows_all zero = tt
  rows_all (suc n) =
      rows_shape s w h (sides_left settings payloads lost n) (then n) (sides_are settings payloads lost n)
      (⊎_elim
      (λ (is : gone n ≡ true). subst (λ (xs : List Heard). AllByRecursion (IsOf 1 w) (rows_on settings.port xs)) (sym (then_gone n is)) (rows_all n))
      (λ (is : gone n ≡ false). subst (λ (xs : List Heard). AllByRecursion (IsOf 1 w) (rows_on settings.port xs)) (sym (then_left n is))
      (subst (λ ps. AllByRecursion (IsOf 1 w) ps)
      (sym (media_protects s w h (sequence_of settings n) (media_heard settings payloads n) (media_is settings payloads n) (settings.port + 4) (heard n))) (rows_all n)))
      (bool_cases (gone n)))

  then_counts : (n : ℕ) (b : Bool) (x : Heard) → length (columns_on settings.port (heard n)) ≤ length (columns_on settings.port (cond b (heard n) (x ∷ heard n)))
  then_counts n true x = omega arith
  then_counts n false x = more_counts settings.port (settings.port + 2) (x ∷ []) (heard n)

  slot_counts : (n : ℕ) → length (columns_on settings.port (heard n)) ≤ length (columns_on settings.port (heard (suc n)))
  slot_counts n =
      let one = then_counts n (gone n) (media_heard settings payloads n) in
      let more = more_counts settings.port (settings.port + 2) (sides_left settings payloads lost n) (then n) in
      omega (arith, one, more)

  slots_count : (n k : ℕ) → length (columns_on settings.port (heard n)) ≤ length (columns_on settings.port (heard (n + k)))
  slots_count n zero =
      let same : n + zero ≡ n = omega arith in
      let long = ap (λ m. length (columns_on settings.port (heard m))) same in
      omega (arith, long)
  slots_count n (suc k) =
      let same : n + suc k ≡ suc (n + k) = omega arith in
      let long = ap (λ m. length (columns_on settings.port (heard m))) same in
      let before = slots_count n k in
      let one = slot_counts (n + k) in
      omega (arith, long, before, one)

  module _ (first last count : ℕ) (leaves : LeavesMedia settings.layout count lost first last) where
    abbrev from : ℕ
    from = sequence_of settings first

    -- What stands once the first was heard.
    pub record Seen (n : ℕ) : Type 0 where
      pub top : ℕ
      pub low : first ≤ top
      pub below : top < n
      pub left : gone top ≡ false
      pub quiet : (j : ℕ) → top < j → j < n → gone j ≡ true
      pub span : span_of (stream n) ≡ Some (record { first = from; top = from + (top - first) })
      pub ahead : AllAhead (fates_of (stream n))
      pub many : length (stream n) ≡ count_by kept (range_with_len first (n - first))
      pub one : senders_of (heard n) ≡ s ∷ []
      pub none_other : unlisted (heard n) ≡ 0
      pub behind : last_sender (on_port settings.port (heard n)) ≡ Some s

    -- What stands before.
    pub record Unseen (n : ℕ) : Type 0 where
      pub nothing : stream n ≡ []
      pub none : senders_of (heard n) ≡ []
      pub none_other : unlisted (heard n) ≡ 0

    unseen : (n : ℕ) → n ≤ first → Unseen n
    unseen zero early = record { nothing = refl; none = refl; none_other = refl }
    unseen (suc n) early =
        let before = unseen n (omega (arith, early)) in
        let is : gone n ≡ true = leaves.none_before n (omega (arith, early)) in
        record {
          nothing = stream_gone n is ∙ before.nothing;
          none = send_gone n is ∙ before.none;
          none_other = listed_gone n is ∙ before.none_other;
        }

    begins : Seen (suc first)
    begins =
        let before = unseen first (omega arith) in
        let is : gone first ≡ false = leaves.first_left in
        let now : stream (suc first) ≡ own first ∷ [] = stream_left first is ∙ ap (λ (xs : List Arrival). own first ∷ xs) before.nothing in
        let none : first - first ≡ 0 = omega arith in
        let same : from ≡ from + (first - first) = omega (arith, none) in
        let one : suc first - first ≡ suc zero = omega arith in
        let kept_one : one_if (kept (first + 0)) ≡ 1 = ap (λ m. one_if (kept m)) (let z : first + 0 ≡ first = omega arith in z) ∙ ap {B = ℕ} (λ (b : Bool). one_if (not b)) is in
        record {
          top = first;
          low = omega arith;
          below = omega arith;
          left = is;
          quiet = λ j above under. absurd (omega (arith, above, under));
          span = ap (λ (xs : List Arrival). span_of xs) now ∙ ap (λ (t : ℕ). Some (let own_span : Span = record { first = from; top = t } in own_span)) same;
          ahead = subst (λ (xs : List Arrival). AllAhead (fates_of xs)) (sym now) ((0, refl), tt);
          many =
              let long = ap (λ (xs : List Arrival). length xs) now in
              let counted = ap (λ (m : ℕ). count_by kept (range_with_len first m)) one in
              let more = count_more kept first zero in
              omega (arith, long, counted, more, kept_one);
          one = send_left first is (inl before.none);
          none_other = listed_left first is (inl before.none) ∙ before.none_other;
          behind = last_left first is;
        }

    -- A slot whose media record is left out.
    passes : (n : ℕ) → Seen n → gone n ≡ true → Seen (suc n)
    passes n seen is =
        let step : suc n - first ≡ suc (n - first) = omega (arith, seen.low, seen.below) in
        let here : first + (n - first) ≡ n = omega (arith, seen.low, seen.below) in
        let not_kept : one_if (kept (first + (n - first))) ≡ 0 = ap (λ m. one_if (kept m)) here ∙ ap {B = ℕ} (λ (b : Bool). one_if (not b)) is in
        record {
          top = seen.top;
          low = seen.low;
          below = omega (arith, seen.below);
          left = seen.left;
          quiet = λ j above under. ⊎_elim
              (λ (early : j < n). seen.quiet j above early)
              (λ (late : n ≤ j). let same : n ≡ j = omega (arith, late, under) in subst (λ (k : ℕ). gone k ≡ true) same is)
              (cases_lt j n);
          span = ap (λ (xs : List Arrival). span_of xs) (stream_gone n is) ∙ seen.span;
          ahead = subst (λ (xs : List Arrival). AllAhead (fates_of xs)) (sym (stream_gone n is)) seen.ahead;
          many =
              let long = ap (λ (xs : List Arrival). length xs) (stream_gone n is) in
              let counted = ap (λ (m : ℕ). count_by kept (range_with_len first m)) step in
              let more = count_more kept first (n - first) in
              let before = seen.many in
              omega (arith, long, counted, more, not_kept, before);
          one = send_gone n is ∙ seen.one;
          none_other = listed_gone n is ∙ seen.none_other;
          behind = last_gone n is ∙ seen.behind;
        }

    -- One that is left is no farther than numbers reach.
    near : (n : ℕ) (seen : Seen n) → n < count → gone n ≡ false → n ≤ seen.top + 32767
    near n seen within is =
        let under : n ≤ last = ⊎_elim
        (λ (past : last < n). let lost_there = leaves.none_after n past within in absurd (let clash = sym lost_there ∙ is in cc))
        (λ (before : n ≤ last). before)
        (cases_lt last n) in
        let after = leaves.succession seen.top seen.low (omega (arith, seen.below, under)) in
        ⊎_elim
        (λ (early : after.0 < n). let lost_there = seen.quiet after.0 after.1 early in absurd (let clash = sym lost_there ∙ after.4 in cc))
        (λ (late : n ≤ after.0). omega (arith, late, after.3))
        (cases_lt after.0 n)

    -- A slot whose media record is left.
    takes : (n : ℕ) → Seen n → n < count → gone n ≡ false → Seen (suc n)
    takes n seen within is =
        let span : Span = record { first = from; top = from + (seen.top - first) } in
        let p : ℕ = from + (n - first) in
        let above : span.top < p = omega (arith, seen.low, seen.below) in
        let place : position_in (Some span) (sequence_of settings n) ≡ Some p =
        is_in_time span p (position_of span.top (span.top % 65536) (sequence_of settings n))
        (next_position settings.seq first seen.top n seen.low seen.below (near n seen within is)) (omega arith) above in
        let now = stream_left n is in
        let step : suc n - first ≡ suc (n - first) = omega (arith, seen.low, seen.below) in
        let here : first + (n - first) ≡ n = omega (arith, seen.low, seen.below) in
        let kept_one : one_if (kept (first + (n - first))) ≡ 1 = ap (λ m. one_if (kept m)) here ∙ ap {B = ℕ} (λ (b : Bool). one_if (not b)) is in
        record {
          top = n;
          low = omega (arith, seen.low, seen.below);
          below = omega arith;
          left = is;
          quiet = λ j over under. absurd (omega (arith, over, under));
          span = ap (λ (xs : List Arrival). span_of xs) now ∙ span_is (stream n) (own n) span p seen.span place above;
          ahead = subst (λ (xs : List Arrival). AllAhead (fates_of xs)) (sym now) ((p - span.top, fate_is (stream n) (own n) span p seen.span place above), seen.ahead);
          many =
              let long = ap (λ (xs : List Arrival). length xs) now in
              let counted = ap (λ (m : ℕ). count_by kept (range_with_len first m)) step in
              let more = count_more kept first (n - first) in
              let before = seen.many in
              omega (arith, long, counted, more, kept_one, before);
          one = send_left n is (inr seen.one);
          none_other = listed_left n is (inr seen.one) ∙ seen.none_other;
          behind = last_left n is;
        }

    goes_on : (k : ℕ) → suc first + k ≤ count → Seen (suc first + k)
    goes_on zero within = let same : suc first ≡ suc first + zero = omega arith in subst (λ (n : ℕ). Seen n) same begins
    goes_on (suc k) within =
        let before = goes_on k (omega (arith, within)) in
        let same : suc (suc first + k) ≡ suc first + suc k = omega arith in
        subst (λ (n : ℕ). Seen n) same (⊎_elim
        (λ (is : gone (suc first + k) ≡ true). passes (suc first + k) before is)
        (λ (is : gone (suc first + k) ≡ false). takes (suc first + k) before (omega (arith, within)) is)
        (bool_cases (gone (suc first + k))))

    seen_at : (n : ℕ) → first < n → n ≤ count → Seen n
    seen_at n past within =
        let same : suc first + (n - suc first) ≡ n = omega (arith, past) in
        subst (λ (m : ℕ). Seen m) same (goes_on (n - suc first) (omega (arith, within, past)))

    pub seen_all : Seen count
    seen_all = seen_at count (omega (arith, leaves.order, leaves.within)) (omega arith)

    last_is : seen_all.top ≡ last
    last_is =
        let seen = seen_all in
        let no_later : seen.top ≤ last = ⊎_elim
        (λ (past : last < seen.top). let lost_there = leaves.none_after seen.top past seen.below in absurd (let clash = sym lost_there ∙ seen.left in cc))
        (λ (before : seen.top ≤ last). before)
        (cases_lt last seen.top) in
        let no_earlier : last ≤ seen.top = ⊎_elim
        (λ (past : seen.top < last). let lost_there = seen.quiet last past leaves.within in absurd (let clash = sym lost_there ∙ leaves.last_left in cc))
        (λ (before : last ≤ seen.top). before)
        (cases_lt seen.top last) in
        omega (arith, no_later, no_earlier)

    not_kept : (j : ℕ) → first + (last - first + 1) ≤ j → j < first + (last - first + 1) + (count - last - 1) → kept j ≡ false
    not_kept j low high =
        ap (λ (b : Bool). not b) (leaves.none_after j (omega (arith, low, leaves.order)) (omega (arith, high, leaves.order, leaves.within)))

    pub losses : CountsLosses settings lost first last (summary_of (stream count))
    losses =
        let seen = seen_all in
        let only = only_received (stream count) seen.ahead in
        let order = leaves.order in
        let within = leaves.within in
        let top_is = last_is in
        let span = seen.span in
        let split : count - first ≡ (last - first + 1) + (count - last - 1) = omega (arith, order, within) in
        let received : (summary_of (stream count)).counts.received ≡ count_by kept (range_with_len first (last - first + 1)) =
        only.received ∙ seen.many ∙ ap (λ (m : ℕ). count_by kept (range_with_len first m)) split
        ∙ count_none_more kept first (last - first + 1) (count - last - 1) not_kept in
        let expected : expected_in (span_of (stream count)) ≡ last - first + 1 =
        ap (λ (o : Option Span). expected_in o) span ∙ (let gap : from + (seen.top - first) - from + 1 ≡ last - first + 1 = omega (arith, top_is) in gap) in
        let both = count_not gone (range_with_len first (last - first + 1)) in
        let long = length-range_with_len first (last - first + 1) in
        record {
          first_is = ap (λ (o : Option Span). first_in o) span;
          expected_is = expected;
          received_is = received;
          lost_is = omega (arith, received, expected, both, long);
          no_duplicate = only.duplicate;
          none_late = only.late;
          none_reordered = only.reordered;
          none_deep = only.deepest;
        }

    -- A column's parity that is left

    module _ (ends : ColumnsAreTheLayouts) (column : LeavesColumn settings.layout count lost first) where
      abbrev slot : ℕ
      slot = column.slot

      abbrev number : ℕ
      number = media_number settings.layout slot + 1

      abbrev it : Heard
      it = column_heard settings payloads slot column.base

      abbrev rows : List Heard
      rows = map (row_heard settings payloads slot) (rows_ending settings.layout slot)

      stands : sides_left settings payloads lost slot ≡ reverse (left_of lost (number + 1) rows) ++ it ∷ []
      stands =
          ap (λ (bases : List ℕ). reverse (left_of lost number (map (column_heard settings payloads slot) bases ++ rows))) ((ends settings.layout slot).0 column.base column.ends)
          ∙ ap (λ (b : Bool). reverse (cond b (left_of lost (number + 1) rows) (it ∷ left_of lost (number + 1) rows))) column.left
          ∙ reverse-append (it ∷ []) (left_of lost (number + 1) rows)

      behind_it : last_sender (on_port settings.port (then slot)) ≡ Some s
      behind_it =
          sym (sides_last s w h (sides_left settings payloads lost slot) (then slot) (sides_are settings payloads lost slot))
          ∙ (seen_at (suc slot) (omega (arith, column.after)) (omega (arith, column.within))).behind

      slot_has : 0 < length (columns_on settings.port (heard (suc slot)))
      slot_has =
          let R : List Heard = reverse (left_of lost (number + 1) rows) in
          let same : heard (suc slot) ≡ R ++ (it ∷ then slot) =
          ap (λ (xs : List Heard). xs ++ then slot) stands ∙ append_assoc R (it ∷ []) (then slot) in
          let long = ap (λ (xs : List Heard). length (columns_on settings.port xs)) same in
          let one = column_counts s w h it (then slot) (column_is settings payloads slot column.base) refl behind_it in
          let more = more_counts settings.port (settings.port + 2) R (it ∷ then slot) in
          omega (arith, long, one, more)

      some : 0 < length (columns_on settings.port (heard count))
      some =
          let here = slot_has in
          let more = slots_count (suc slot) (count - suc slot) in
          let same : suc slot + (count - suc slot) ≡ count = omega (arith, column.within) in
          let long = ap (λ m. length (columns_on settings.port (heard m))) same in
          omega (arith, here, more, long)

      pub layout_shown : LayoutsAreRead → (0 < length (columns_on settings.port (heard count))) × IsLayouts settings.layout (matrix_of (columns_on settings.port (heard count)) (rows_on settings.port (heard count)))
      layout_shown shapes =
          let read = (shapes settings.layout).0 in
          let shows = matrix_shows w h read.some_offset read.offset_limit read.some_slot read.slot_limit
          (columns_on settings.port (heard count)) (rows_on settings.port (heard count)) some (columns_all count) (rows_all count) in
          (some, record { columns_are = shows.columns; rows_are = shows.rows; no_other = shows.other })

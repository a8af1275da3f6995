-- A stream with covered losses peels: each play on the way is made once the columns of its lost slots have come, and the flush closes
-- the rest.
use Rattle.std.proofs.Common.{◌≡◌, ◌⊎◌, ◌+◌, ◌-◌, ◌*◌, ◌<◌, ◌≤◌, ◌==◌, ◌^◌, ◌++◌, ℕ, zero, suc, Bool, true, false, cond, List, [], ◌∷◌, length, map, min, Option, Some, None, MatchOption, inl, inr, refl, sym, ap, subst, ◌∙◌, ⊎_elim, arith}
use Rattle.std.specs.List.{All, Contains, filter, flat_map, range_with_len}
use Rattle.std.proofs.lemmas.Bool.{cases_lt, eqb-true, false≢true}
use Rattle.std.proofs.lemmas.List.{append-nil, append_assoc, length_push}
use Rattle.std.proofs.lemmas.List.Elements.{All-nil, All-push, All-filter, All-contains, Contains-append_left, Contains-append_right, Contains-push, filter_passes}
use Rattle.fg_shape.specs.Playout.{Playout}
use Rattle.fg_shape.specs.declared.kind.Kind.{Kind}
use Rattle.fg_shape.specs.declared.kind.Kind.TheVariants as kind
use Rattle.fg_shape.specs.declared.layouts.Layout.{Layout}
use Rattle.fg_shape.specs.Layout.{ColumnEnds, column_base, row_base}
use Rattle.fg_shape.specs.Shape.{slots_of}
use Rattle.fg_shape.proofs.LayoutLemmas.{column_ends, column_last}
use Rattle.fg_words.specs.declared.Word.{Word}
use Rattle.fg_encode.specs.Ends.{column_bases, columns_ending, row_bases, rows_ending}
use Rattle.fg_encode.specs.Laws.{ColumnsAreTheLayouts}
use Rattle.fg_peel.specs.Laws.{TruthIsSolvable, SolutionsAreTrue}
use Rattle.fg_peel.specs.Live.{HasSlots, last_slot}
use Rattle.fg_peel.proofs.Maps.{nothing_in_empty}
use Rattle.fg_peel.proofs.Lists.{Contains-cases, Contains-here, Contains-there, Contains-nil}
use Rattle.fg_playout.specs.declared.reply.Reply.{Reply}
use Rattle.fg_playout.specs.State.{State, opening}
use Rattle.fg_playout.specs.Admission.{Parity, AdmitsMedia, base_on, equation_at}
use Rattle.fg_playout.specs.Solution.{InClosure}
use Rattle.fg_playout.specs.Play.{Play, IsPlay}
use Rattle.fg_playout.specs.Run.{Arrival, carries, protects, time_of, ArePlaysHeld, unlimited, limited, ArePlaysDue, ArePlaysBefore, by_flush, by_due, TakesThen, TakesAll, IsFlush, IsRun}
use Rattle.fg_playout.specs.PlayedOn.{PlayOn, due_on, flushed_on, held_on, before_on, taken_then_on, taken_on, all_taken_on}
use Rattle.fg_playout.specs.Facts.{Holds}
use Rattle.fg_playout.specs.Laws.{IsRead, LiveStandUnderSerials, SolutionsArePeelings, MediaAdds, ParityAdds, FactsAreKept, RunsStayWithin, TakingsJoin}
use Rattle.fg_drill.specs.Covered.{AreCovered, WaitsForColumns, is_gone}
use Rattle.fg_drill.specs.Repaired.{IsPeeled, ArrivalsPeel}
use Rattle.fg_drill.specs.True.{number_of, IsTrueParity, IsTrueArrival, ComesInTurn, last_after, AreSentTrue}
use Rattle.fg_drill.proofs.Amounts.{each_joined, each_made}
use Rattle.fg_drill.proofs.CoveredDesks.{HasColumn, IsBacked, column_is_live, in_closure, media_leaves_backed, parity_leaves_backed, play_leaves_backed, weaker_backed, within_column}
use Rattle.fg_drill.proofs.CoveredGaps.{gap_is_short}
use Rattle.fg_drill.proofs.InFull.{flush_ends}
use Rattle.fg_drill.proofs.LiveLines.{IsLine}
use Rattle.fg_drill.proofs.TrueDesks.{IsTrueWindow, play_is_true, true_after_play}
use Rattle.fg_drill.proofs.TrueRuns.{is_read, opening_is_true, taken_holds}
use Rattle.fg_drill.proofs.TrueTakings.{InReach, IsTrueTop, LeavesTruth, base_is_slot, due_has_top, due_is_far, is_taken_truly, media_is_admitted, media_is_next, media_reaches, next_slot, none_is_fresh, parity_reaches, play_leaves_top, position_is_slot, top_at}

-- Of the slots of a stream, those from a mark up to another are peeled.
abbrev ArePeeled : ℕ → List PlayOn → ℕ → ℕ → Type 0
ArePeeled count made mark mark' = (slot : ℕ) → slot < count → mark ≤ slot → slot < mark' → IsPeeled made slot

none_peeled : (count : ℕ) (made : List PlayOn) (mark mark' : ℕ) → mark' ≡ mark → ArePeeled count made mark mark'
none_peeled count made mark mark' same = λ slot within ahead past. absurd (omega (arith, same, ahead, past))

both_peeled :
    (count : ℕ) (before after : List PlayOn) (mark between mark' : ℕ) → ArePeeled count before mark between
    → ArePeeled count after between mark' → ArePeeled count (before ++ after) mark mark'
both_peeled count before after mark between mark' one other = λ slot within ahead past. ⊎_elim
    (λ (early : slot < between).
    let p = one slot within ahead early in (p.0, Contains-append_left before after p.0 p.1, p.2, p.3))
    (λ (late : between ≤ slot).
    let p = other slot within late past in (p.0, Contains-append_right before after p.0 p.1, p.2, p.3))
    (cases_lt slot between)

one_peeled :
    (count size : ℕ) (old : State) (play : Play) (new : State) → IsPlay size old play new
    → ((slot : ℕ) → old.mark ≤ slot → slot < old.mark + size → slot < count → InClosure old slot)
    → ArePeeled count (record { desk = old; play = play } ∷ []) old.mark new.mark
one_peeled count size old play new is inside = λ slot within ahead past.
    let first = is.first in
    let long = is.length_is in
    let mark = is.mark in (
      record { desk = old; play = play },
      Contains-push [] (record { desk = old; play = play }),
      (omega (arith, first, ahead), omega (arith, first, long, mark, past)),
      inside slot ahead (omega (arith, mark, past)) within,
    )

-- Without a limit nothing is held.
pub none_held :
    (old : State) (time : ℕ) (held : List Play) (ready : State) → old.playout.hold ≡ 0 → ArePlaysHeld old time held ready
    → ready ≡ old
none_held old time held ready none (unlimited free no_plays same) = same
none_held old time held ready none (limited some steps) = absurd (some none)

-- What ends at a slot

columns_there :
    (layout : Layout) (slot base : ℕ) → Contains (columns_ending layout slot) base → ColumnEnds layout slot base
columns_there layout slot base at =
    let IsColumn : ℕ → Type 0 = λ b. (m : ℕ) × (c : ℕ) × (c < layout.l) × (b ≡ column_base layout m c) in
    let bases : List ℕ = column_bases layout (slot + 1) in
    let test : ℕ → Bool = λ b. (b + (layout.d - 1) * layout.l) == slot in
    let passes = All-contains (λ b. test b ≡ true) (filter test bases) base (filter_passes test bases) at in
    let are = each_joined IsColumn (λ m. map (column_base layout m) (range_with_len 0 layout.l)) (range_with_len 0 (slot + 1))
    (λ m. each_made IsColumn (column_base layout m) 0 layout.l (λ c below. (m, c, omega arith, refl))) in
    column_ends layout slot base (eqb-true (base + (layout.d - 1) * layout.l) slot passes)
    (All-contains IsColumn (filter test bases) base (All-filter test IsColumn bases are) at)

-- A row that ends there, of those that are sent.
record IsRowThere (layout : Layout) (slot base : ℕ) : Type 0 where
  sent : layout.rows ≡ true
  matrix : ℕ
  row : ℕ
  within : row < layout.d
  is : base ≡ row_base layout matrix row
  ends : base + (layout.l - 1) ≡ slot

rows_there :
    (layout : Layout) (slot base : ℕ) (sent : Bool) → layout.rows ≡ sent
    → Contains (cond sent (filter (λ b. (b + (layout.l - 1)) == slot) (row_bases layout (slot + 1))) []) base
    → IsRowThere layout slot base
rows_there layout slot base false is at = absurd (Contains-nil base at)
rows_there layout slot base true is at =
    let IsRow : ℕ → Type 0 = λ b. (m : ℕ) × (r : ℕ) × (r < layout.d) × (b ≡ row_base layout m r) in
    let bases : List ℕ = row_bases layout (slot + 1) in
    let test : ℕ → Bool = λ b. (b + (layout.l - 1)) == slot in
    let passes = All-contains (λ b. test b ≡ true) (filter test bases) base (filter_passes test bases) at in
    let are = each_joined IsRow (λ m. map (row_base layout m) (range_with_len 0 layout.d)) (range_with_len 0 (slot + 1))
    (λ m. each_made IsRow (row_base layout m) 0 layout.d (λ r below. (m, r, omega arith, refl))) in
    let row = All-contains IsRow (filter test bases) base (All-filter test IsRow bases are) at in
    record {
      sent = is;
      matrix = row.0;
      row = row.1;
      within = row.2;
      is = row.3;
      ends = eqb-true (base + (layout.l - 1)) slot passes;
    }

module _
    (stand : LiveStandUnderSerials) (peelings : SolutionsArePeelings) (solvable : TruthIsSolvable) (found : SolutionsAreTrue)
    (keeps : FactsAreKept) (media_adds : MediaAdds) (parity_adds : ParityAdds) (within : RunsStayWithin) (join : TakingsJoin)
    (ending : ColumnsAreTheLayouts) (playout : Playout) (layout : Layout) (count : ℕ) (lost : ℕ → Bool)
    (covered : AreCovered layout count lost) (waits : WaitsForColumns playout layout) (first_kept : lost 0 ≡ false)
    (seq ssrc : ℕ) (truth : ℕ → Option Word) (arrivals : List Arrival) (sent : AreSentTrue playout seq ssrc truth arrivals) where
  abbrev is_lost : ℕ → Bool
  is_lost = is_gone layout lost

  -- The column that begins there has ended before a slot.
  abbrev SentBefore : ℕ → ℕ → Type 0
  SentBefore slot base = (last : ℕ) × ColumnEnds layout last base × (last < slot)

  abbrev Backed : ℕ → ℕ → (ℕ → Type 0) → State → Type 0
  Backed = IsBacked layout count lost covered playout

  -- What plays that are due before a slot leave.
  record ArePlayedWhole (last : Option ℕ) (slot bound : ℕ) (made : List PlayOn) (old new : State) : Type 0 where
    holds : Holds new
    top : IsTrueTop seq ssrc last slot new
    backed : Backed slot bound (SentBefore slot) new
    peeled : ArePeeled count made old.mark new.mark

  due_whole :
      (last : Option ℕ) (slot bound : ℕ) (old : State) (plays : List Play) (new : State) → Holds old → IsTrueWindow truth old
      → IsTrueTop seq ssrc last slot old → InReach last slot → slot ≤ count → Backed slot bound (SentBefore slot) old
      → (due : ArePlaysDue old (number_of seq slot) ssrc plays new)
      → ArePlayedWhole last slot bound (due_on old (number_of seq slot) ssrc plays new due) old new
  due_whole last slot bound old [] new holds is top reach few backed due =
      subst (ArePlayedWhole last slot bound [] old) (sym due.1)
      (record { holds = holds; top = top; backed = backed; peeled = none_peeled count [] old.mark old.mark refl })
  due_whole last slot bound old (play ∷ plays) new holds is top reach few backed due =
      let next : State = due.1.0 in
      let size : ℕ = old.playout.window in
      let far = due_is_far seq ssrc last slot old top slot reach due.0 in
      let depth = waits.depth in
      let fits = sent.fits.depth.0 in
      let window_is : old.playout.window ≡ playout.window = ap (λ (p : Playout). p.window) backed.playout_is in
      let depth_is : old.playout.depth ≡ playout.depth = ap (λ (p : Playout). p.depth) backed.playout_is in
      let inside : (s : ℕ) → old.mark ≤ s → s < old.mark + size → s < count → InClosure old s = λ s ahead below here.
      in_closure layout count lost covered playout slot bound (SentBefore slot) old s backed few ahead
      (omega (arith, below, far, window_is, depth_is, fits))
      (λ lost_here.
      let column = covered.ended s here lost_here in
      let end = column_last layout column.0 column.1 column.2.0 in
      let near = (within_column layout count lost covered column.1 s column.2.1).first in
      let before : column.0 < slot = omega (arith, end, near, below, far, window_is, depth_is, depth) in
      (column.0, column.1, column.2, (column.0, column.2.0, before), before)) in
      let true_play = play_is_true stand peelings solvable found truth sent.media size old play next holds is due.1.1 in
      let rest = due_whole last slot bound next plays new
      (keeps.play size old next play holds (due_has_top old (number_of seq slot) ssrc due.0) due.1.1)
      (true_after_play stand peelings solvable found truth sent.media size old play next holds is due.1.1)
      (play_leaves_top stand peelings solvable found keeps media_adds parity_adds truth sent.media seq ssrc last slot old play next
      holds is top reach due.0 due.1.1)
      reach few
      (play_leaves_backed layout count lost covered stand playout slot bound (SentBefore slot) size old play next due.1.1
      true_play.repaired backed inside)
      due.1.2 in
      record {
        holds = rest.holds;
        top = rest.top;
        backed = rest.backed;
        peeled = both_peeled count (record { desk = old; play = play } ∷ []) (due_on next (number_of seq slot) ssrc plays new due.1.2)
            old.mark next.mark new.mark (one_peeled count size old play next due.1.1 inside) rest.peeled;
      }

  before_whole :
      (last : Option ℕ) (slot bound : ℕ) (old : State) (plays : List Play) (new : State) → Holds old → LeavesTruth truth seq ssrc last old
      → InReach last slot → next_slot last ≤ slot → slot ≤ count → Backed slot bound (SentBefore slot) old
      → (before : ArePlaysBefore old (number_of seq slot) ssrc plays new)
      → ArePlayedWhole last slot bound (before_on old (number_of seq slot) ssrc plays new before) old new
  before_whole last slot bound old plays new holds is reach next few backed (by_flush empty fresh flush counts) =
      absurd (none_is_fresh seq ssrc last (next_slot last) old is.top fresh)
  before_whole last slot bound old plays new holds is reach next few backed (by_due stale due) =
      let mark = is.top.mark in
      due_whole last slot bound old plays new holds is.window
      (record {
        top = is.top.top;
        previous = is.top.previous;
        origin = is.top.origin;
        mark = omega (arith, mark, next);
        unknown = is.top.unknown;
      })
      reach few backed due

  -- What one datagram leaves.
  record StepsWhole (next bound : ℕ) (Sent : ℕ → Type 0) (made : List PlayOn) (old new : State) : Type 0 where
    backed : Backed next bound Sent new
    peeled : ArePeeled count made old.mark new.mark

  -- A media datagram adds its slot.
  media_then :
      (last : Option ℕ) (slot time : ℕ) (word : Word) (plays : List Play) (reply : Option Reply) (old new : State) → Holds old
      → LeavesTruth truth seq ssrc last old → ComesInTurn last slot (carries time (number_of seq slot) ssrc word) → slot < count
      → Backed slot slot (SentBefore slot) old → (takes : TakesThen old (carries time (number_of seq slot) ssrc word) plays reply new)
      → StepsWhole (slot + 1) slot (SentBefore slot)
      (taken_then_on old (carries time (number_of seq slot) ssrc word) plays reply new takes) old new
  media_then last slot time word plays None old new holds is turn below backed takes = absurd takes
  media_then last slot time word plays (Some reply) old new holds is turn below backed takes =
      let reach = media_reaches last slot time (number_of seq slot) ssrc word turn in
      let next = media_is_next last slot time (number_of seq slot) ssrc word turn in
      let ready : State = takes.0 in
      let played = before_whole last slot slot old plays ready holds is reach next (omega (arith, below)) backed takes.1 in
      let same = media_is_admitted seq ssrc last slot ready played.top slot word reply reach played.top.mark next takes.2.reply_is in
      let adds = media_leaves_backed layout count lost covered stand playout slot (SentBefore slot) slot ready new (number_of seq slot) ssrc
      word media_adds played.holds (none_is_fresh seq ssrc last slot ready played.top)
      (position_is_slot seq ssrc last slot ready played.top slot reach played.top.mark)
      (subst (λ (r : Reply). AdmitsMedia ready (number_of seq slot) ssrc word r new) same takes.2) played.backed in
      record {
        backed = adds.1;
        peeled = subst (ArePeeled count (before_on old (number_of seq slot) ssrc plays ready takes.1) old.mark) (sym adds.0) played.peeled;
      }

  -- A datagram of parity adds its line.
  record IsLineOf (slot base : ℕ) (parity : Parity) : Type 0 where
    is_true : IsTrueParity seq truth slot parity
    base_is : is_true.base ≡ base
    line : IsLine layout (equation_at base parity)
    end : last_slot (equation_at base parity) ≡ slot

  base_there :
      (before slot base time : ℕ) (parity : Parity) (old : State) → LeavesTruth truth seq ssrc (Some before) old
      → IsLineOf slot base parity → ComesInTurn (Some before) slot (protects time kind.Column parity)
      → base_on old parity.base ≡ Some base
  base_there before slot base time parity old is line turn =
      ap (base_on old) line.is_true.base_is
      ∙ base_is_slot seq ssrc (Some before) (before + 1) old is.top line.is_true.base before refl
      (parity_reaches truth seq ssrc slot time (Some before) kind.Column parity line.is_true turn)
      ∙ ap Some line.base_is

  -- The media datagram of this slot came last, and those of the slots after it are lost up to another slot.
  record CameLast (before slot : ℕ) : Type 0 where
    low : before ≤ slot
    kept_there : is_lost before ≡ false
    between : (other : ℕ) → before < other → other ≤ slot → is_lost other ≡ true
    below : slot < count

  in_turn : (before slot time : ℕ) (parity : Parity) → CameLast before slot → ComesInTurn (Some before) slot (protects time kind.Column parity)
  in_turn before slot time parity came =
      let close = gap_is_short layout count lost covered before slot came.below came.between in
      let few = layout.accepted.columns.1 in
      let low = came.low in
      (omega (arith, low), omega (arith, close, few))

  -- What datagrams leave after which the flush comes.
  record EndsWhole (made : List PlayOn) (old new : State) : Type 0 where
    holds : Holds new
    window : IsTrueWindow truth new
    backed : Backed count count (SentBefore count) new
    peeled : ArePeeled count made old.mark new.mark

  -- Later datagrams go on, whatever came before, where the desk has what is said of it here.
  abbrev GoesOn : ℕ → ℕ → (ℕ → Type 0) → Option ℕ → List Arrival → Type 0
  GoesOn next bound Sent last later =
      (earlier : List Arrival) (before plays : List Play) (first replies : List (Option Reply)) (taken new : State)
      → All IsRead earlier → length earlier + length later < 2 ^ 44
      → TakesAll (opening playout) earlier before first taken → LeavesTruth truth seq ssrc last taken
      → Backed next bound Sent taken → (takes : TakesAll taken later plays replies new)
      → EndsWhole (all_taken_on taken later plays replies new takes) taken new

  nothing_more : (last : Option ℕ) → GoesOn count count (SentBefore count) last []
  nothing_more last earlier before plays first replies taken new read few so is backed takes =
      subst (EndsWhole [] taken) (sym takes.2)
      (record {
        holds = taken_holds within playout earlier before first taken sent.fits read (omega (arith, few)) so;
        window = is.window;
        backed = backed;
        peeled = none_peeled count [] taken.mark taken.mark refl;
      })

  weaker :
      (next next' bound bound' : ℕ) (Sent Sent' : ℕ → Type 0) (last : Option ℕ) (later : List Arrival) → bound ≤ bound'
      → ((slot : ℕ) → next ≤ slot → slot < next' → is_lost slot ≡ true) → ((base : ℕ) → Sent' base → Sent base)
      → GoesOn next' bound' Sent' last later → GoesOn next bound Sent last later
  weaker next next' bound bound' Sent Sent' last later wider between less goes =
      λ earlier before plays first replies taken new read few so is backed takes.
      goes earlier before plays first replies taken new read few so is
      (weaker_backed layout count lost covered stand playout next next' bound bound' Sent Sent' taken wider between less backed) takes

  -- One datagram more.
  one_more :
      (arrival : Arrival) (slot : ℕ) (last : Option ℕ) (later : List Arrival) (next bound next' bound' : ℕ) (Sent Sent' : ℕ → Type 0)
      → IsTrueArrival seq ssrc truth slot arrival → ComesInTurn last slot arrival
      → ((plays : List Play) (reply : Option Reply) (old new : State) → Holds old → LeavesTruth truth seq ssrc last old
      → Backed next bound Sent old → (takes : TakesThen old arrival plays reply new)
      → StepsWhole next' bound' Sent' (taken_then_on old arrival plays reply new takes) old new)
      → GoesOn next' bound' Sent' (last_after last slot arrival) later → GoesOn next bound Sent last (arrival ∷ later)
  one_more arrival slot last later next bound next' bound' Sent Sent' is_true turn step goes =
      λ earlier before plays first replies taken new read few so is backed takes.
      some_taken earlier before plays first replies taken new read few so is backed takes
    where
      some_taken :
          (earlier : List Arrival) (before plays : List Play) (first replies : List (Option Reply)) (taken new : State)
          → All IsRead earlier → length earlier + length (arrival ∷ later) < 2 ^ 44
          → TakesAll (opening playout) earlier before first taken → LeavesTruth truth seq ssrc last taken
          → Backed next bound Sent taken → (takes : TakesAll taken (arrival ∷ later) plays replies new)
          → EndsWhole (all_taken_on taken (arrival ∷ later) plays replies new takes) taken new
      some_taken earlier before plays first [] taken new read few so is backed takes = absurd takes
      some_taken earlier before plays first (reply ∷ replies) taken new read few so is backed takes =
          let holds = taken_holds within playout earlier before first taken sent.fits read (omega (arith, few)) so in
          let one = is_taken_truly stand peelings solvable found keeps media_adds parity_adds truth sent.media seq ssrc
          last slot taken arrival takes.0 reply takes.2 holds is is_true turn takes.4 in
          let one_takes = takes.4 in
          let ready : State = one_takes.ready in
          let free : taken.playout.hold ≡ 0 = ap (λ (p : Playout). p.hold) backed.playout_is ∙ waits.hold in
          let same : ready ≡ taken = none_held taken (time_of arrival) one_takes.held ready free one_takes.holds in
          let here = step one_takes.after reply ready takes.2 (subst Holds (sym same) holds)
          (subst (LeavesTruth truth seq ssrc last) (sym same) is) (subst (Backed next bound Sent) (sym same) backed)
          one_takes.takes in
          let mark : ready.mark ≡ taken.mark = ap (λ (s : State). s.mark) same in
          let long = length_push earlier arrival in
          let rest = goes (earlier ++ arrival ∷ []) (before ++ takes.0) takes.1 (first ++ reply ∷ []) replies takes.2 new
          (All-push IsRead earlier arrival read (is_read seq ssrc truth slot arrival sent.source sent.media is_true))
          (omega (arith, few, long))
          (join (opening playout) taken takes.2 earlier (arrival ∷ []) before takes.0 first (reply ∷ []) so
          (takes.0, [], takes.2, sym (append-nil takes.0), takes.4, (refl, refl, refl)))
          one.leaves here.backed takes.5 in
          let after : List PlayOn = taken_then_on ready arrival one_takes.after reply takes.2 one_takes.takes in
          record {
            holds = rest.holds;
            window = rest.window;
            backed = rest.backed;
            peeled = both_peeled count (taken_on taken arrival takes.0 reply takes.2 takes.4)
                (all_taken_on takes.2 later takes.1 replies new takes.5) taken.mark takes.2.mark new.mark
                (both_peeled count (held_on taken (time_of arrival) one_takes.held ready one_takes.holds) after taken.mark ready.mark
                takes.2.mark (none_peeled count (held_on taken (time_of arrival) one_takes.held ready one_takes.holds)
                taken.mark ready.mark mark) here.peeled)
                rest.peeled;
          }

  -- A row adds its line, and so does a column.
  line_then :
      (before slot base time : ℕ) (stream : Kind) (parity : Parity) (Sent : ℕ → Type 0) (plays : List Play) (reply : Option Reply)
      (old new : State) → IsLineOf slot base parity → CameLast before slot → Holds old → LeavesTruth truth seq ssrc (Some before) old
      → Backed (slot + 1) (slot + 1) Sent old → (takes : TakesThen old (protects time stream parity) plays reply new)
      → StepsWhole (slot + 1) (slot + 1) Sent (taken_then_on old (protects time stream parity) plays reply new takes) old new
  line_then before slot base time stream parity Sent plays None old new line came holds is backed takes = absurd takes
  line_then before slot base time stream parity Sent plays (Some reply) old new line came holds is backed takes =
      let end = line.end in
      let left = parity_leaves_backed layout count lost covered stand playout (slot + 1) (slot + 1) Sent old new parity reply base
      parity_adds holds (base_there before slot base time parity old is line (in_turn before slot time parity came)) line.line
      (omega (arith, end)) takes.1 backed in
      record { backed = left.1; peeled = none_peeled count [] old.mark new.mark left.0 }

  -- A column is live then, as long as a lost slot of it isn't played.
  column_then :
      (before slot base time : ℕ) (stream : Kind) (parity : Parity) (Sent : ℕ → Type 0) (plays : List Play) (reply : Option Reply)
      (old new : State) → IsLineOf slot base parity → HasSlots base layout.l layout.d (equation_at base parity) → CameLast before slot
      → Holds old → LeavesTruth truth seq ssrc (Some before) old → Backed (slot + 1) (slot + 1) Sent old
      → (takes : TakesThen old (protects time stream parity) plays reply new)
      → StepsWhole (slot + 1) (slot + 1) (λ other. Sent other ⊎ (other ≡ base))
      (taken_then_on old (protects time stream parity) plays reply new takes) old new
  column_then before slot base time stream parity Sent plays None old new line has came holds is backed takes = absurd takes
  column_then before slot base time stream parity Sent plays (Some reply) old new line has came holds is backed takes =
      let end = line.end in
      let low = came.low in
      let below = came.below in
      let close = gap_is_short layout count lost covered before slot came.below came.between in
      let at = base_there before slot base time parity old is line (in_turn before slot time parity came) in
      let left = parity_leaves_backed layout count lost covered stand playout (slot + 1) (slot + 1) Sent old new parity reply base
      parity_adds holds at line.line (omega (arith, end)) takes.1 backed in
      let mark = left.0 in
      let after = left.1 in
      record {
        backed = record {
          playout_is = after.playout_is;
          received = after.received;
          kept = after.kept;
          columns = λ other there was_sent in_column lost_there ahead inside. ⊎_elim
              (λ (early : Sent other). after.columns other there early in_column lost_there ahead inside)
              (λ (here : other ≡ base).
              subst (HasColumn layout count lost covered new) (sym here)
              (column_is_live layout count lost covered stand playout (slot + 1) (slot + 1) Sent old new parity base before there
              sent.fits parity_adds holds at has backed (omega (arith, end)) (omega (arith, end, below)) (omega (arith, close))
              (omega (arith, low)) came.kept_there
              (subst (λ (b : ℕ). Contains (slots_of b layout.l layout.d) there) here in_column) (omega (arith, mark, ahead))
              reply (top_at seq ssrc before) is.top.top takes.1))
              was_sent;
          lines = after.lines;
        };
        peeled = none_peeled count [] old.mark new.mark mark;
      }

  module _
      (times : ℕ → ℕ) (words : ℕ → Word) (columns rows : ℕ → Parity)
      (word_is : (slot : ℕ) → slot < count → truth slot ≡ Some (words slot))
      (column_is :
      (slot base : ℕ) → slot < count → base + (layout.d - 1) * layout.l ≡ slot
      → (is : IsTrueParity seq truth slot (columns base)) × (is.base ≡ base))
      (column_shape : (base : ℕ) → ((columns base).offset ≡ layout.l) × ((columns base).count ≡ layout.d))
      (row_is :
      (slot base : ℕ) → slot < count → base + (layout.l - 1) ≡ slot
      → (is : IsTrueParity seq truth slot (rows base)) × (is.base ≡ base))
      (row_shape : (base : ℕ) → ((rows base).offset ≡ 1) × ((rows base).count ≡ layout.l)) where
    abbrev media_at : ℕ → Arrival
    media_at slot = carries (times slot) (number_of seq slot) ssrc (words slot)

    abbrev column_at : ℕ → ℕ → Arrival
    column_at slot base = protects (times slot) kind.Column (columns base)

    abbrev row_at : ℕ → ℕ → Arrival
    row_at slot base = protects (times slot) kind.Row (rows base)

    -- The parity that is sent with a slot, and all that comes of it.
    abbrev parity_at : ℕ → List Arrival
    parity_at slot = map (column_at slot) (columns_ending layout slot) ++ map (row_at slot) (rows_ending layout slot)

    abbrev pub left_at : ℕ → List Arrival
    left_at slot = cond (is_lost slot) (parity_at slot) (media_at slot ∷ parity_at slot)

    has_column : (base : ℕ) → HasSlots base layout.l layout.d (equation_at base (columns base))
    has_column base = record { base_is = refl; offset_is = (column_shape base).0; count_is = (column_shape base).1 }

    column_line : (slot base : ℕ) → slot < count → ColumnEnds layout slot base → IsLineOf slot base (columns base)
    column_line slot base below ends =
        let c = column_is slot base below (column_last layout slot base ends) in
        record {
          is_true = c.0;
          base_is = c.1;
          line = inl (record {
            matrix = ends.matrix;
            column = ends.column;
            within = ends.is_column;
            slots = record { base_is = ends.first; offset_is = (column_shape base).0; count_is = (column_shape base).1 };
          });
          end = ap (λ (b : ℕ). last_slot (equation_at b (columns base))) (sym c.1) ∙ c.0.ends;
        }

    row_line : (slot base : ℕ) → slot < count → IsRowThere layout slot base → IsLineOf slot base (rows base)
    row_line slot base below there =
        let c = row_is slot base below there.ends in
        record {
          is_true = c.0;
          base_is = c.1;
          line = inr (record {
            sent = there.sent;
            matrix = there.matrix;
            row = there.row;
            within = there.within;
            slots = record { base_is = there.is; offset_is = (row_shape base).0; count_is = (row_shape base).1 };
          });
          end = ap (λ (b : ℕ). last_slot (equation_at b (rows base))) (sym c.1) ∙ c.0.ends;
        }

    columns_more :
        (before slot : ℕ) (bases : List ℕ) (rest : List Arrival) (Sent : ℕ → Type 0) → CameLast before slot
        → ((base : ℕ) → Contains bases base → ColumnEnds layout slot base)
        → GoesOn (slot + 1) (slot + 1) (λ base. Sent base ⊎ Contains bases base) (Some before) rest
        → GoesOn (slot + 1) (slot + 1) Sent (Some before) (map (column_at slot) bases ++ rest)
    columns_more before slot [] rest Sent came are goes =
        weaker (slot + 1) (slot + 1) (slot + 1) (slot + 1) Sent (λ base. Sent base ⊎ Contains [] base) (Some before) rest (omega arith)
        (λ other low high. absurd (omega (arith, low, high)))
        (λ base is. ⊎_elim (λ (early : Sent base). early) (λ none. absurd (Contains-nil base none)) is) goes
    columns_more before slot (base ∷ bases) rest Sent came are goes =
        let Then : ℕ → Type 0 = λ other. Sent other ⊎ (other ≡ base) in
        let line = column_line slot base came.below (are base (Contains-here base bases)) in
        one_more (column_at slot base) slot (Some before) (map (column_at slot) bases ++ rest) (slot + 1) (slot + 1) (slot + 1) (slot + 1)
        Sent Then line.is_true (in_turn before slot (times slot) (columns base) came)
        (λ plays reply old new holds is backed takes.
        column_then before slot base (times slot) kind.Column (columns base) Sent plays reply old new line (has_column base) came
        holds is backed takes)
        (columns_more before slot bases rest Then came (λ other there. are other (Contains-there base bases other there))
        (weaker (slot + 1) (slot + 1) (slot + 1) (slot + 1) (λ other. Then other ⊎ Contains bases other)
        (λ other. Sent other ⊎ Contains (base ∷ bases) other) (Some before) rest (omega arith)
        (λ other low high. absurd (omega (arith, low, high)))
        (λ other is. ⊎_elim
        (λ (early : Sent other). inl (inl early))
        (λ there. ⊎_elim (λ here. inl (inr here)) (λ later. inr later) (Contains-cases base bases other there))
        is)
        goes))

    rows_more :
        (before slot : ℕ) (bases : List ℕ) (rest : List Arrival) (Sent : ℕ → Type 0) → CameLast before slot
        → ((base : ℕ) → Contains bases base → IsRowThere layout slot base)
        → GoesOn (slot + 1) (slot + 1) Sent (Some before) rest
        → GoesOn (slot + 1) (slot + 1) Sent (Some before) (map (row_at slot) bases ++ rest)
    rows_more before slot [] rest Sent came are goes = goes
    rows_more before slot (base ∷ bases) rest Sent came are goes =
        let line = row_line slot base came.below (are base (Contains-here base bases)) in
        one_more (row_at slot base) slot (Some before) (map (row_at slot) bases ++ rest) (slot + 1) (slot + 1) (slot + 1) (slot + 1)
        Sent Sent line.is_true (in_turn before slot (times slot) (rows base) came)
        (λ plays reply old new holds is backed takes.
        line_then before slot base (times slot) kind.Row (rows base) Sent plays reply old new line came holds is backed takes)
        (rows_more before slot bases rest Sent came (λ other there. are other (Contains-there base bases other there)) goes)

    -- After its media datagram, or where that is lost, the parity of a slot comes.
    parity_more :
        (before slot : ℕ) (rest : List Arrival) → CameLast before slot
        → GoesOn (slot + 1) (slot + 1) (SentBefore (slot + 1)) (Some before) rest
        → GoesOn (slot + 1) (slot + 1) (SentBefore slot) (Some before) (parity_at slot ++ rest)
    parity_more before slot rest came goes =
        let bases : List ℕ = columns_ending layout slot in
        subst (λ (more : List Arrival). GoesOn (slot + 1) (slot + 1) (SentBefore slot) (Some before) more)
        (sym (append_assoc (map (column_at slot) bases) (map (row_at slot) (rows_ending layout slot)) rest))
        (columns_more before slot bases (map (row_at slot) (rows_ending layout slot) ++ rest) (SentBefore slot) came
        (columns_there layout slot)
        (rows_more before slot (rows_ending layout slot) rest (λ base. SentBefore slot base ⊎ Contains bases base) came
        (λ base there. rows_there layout slot base layout.rows refl there)
        (weaker (slot + 1) (slot + 1) (slot + 1) (slot + 1) (λ base. SentBefore slot base ⊎ Contains bases base) (SentBefore (slot + 1))
        (Some before) rest (omega arith) (λ other low high. absurd (omega (arith, low, high)))
        (λ base is.
        let below = is.2 in
        ⊎_elim
        (λ (early : is.0 < slot). inl (is.0, is.1, early))
        (λ (late : slot ≤ is.0).
        let here : is.0 ≡ slot = omega (arith, late, below) in
        let ends : ColumnEnds layout slot base = subst (λ (last : ℕ). ColumnEnds layout last base) here is.1 in
        inr (subst (λ (xs : List ℕ). Contains xs base) (sym ((ending layout slot).0 base ends)) (Contains-here base [])))
        (cases_lt is.0 slot))
        goes)))

    -- The last media datagram before a slot that isn't lost, or none so far.
    abbrev StandsBefore : ℕ → Option ℕ → Type 0
    StandsBefore slot last =
        MatchOption last (slot ≡ 0) (λ before. (before < slot) × (is_lost before ≡ false)
        × ((other : ℕ) → before < other → other < slot → is_lost other ≡ true))

    lost_more :
        (slot : ℕ) (last : Option ℕ) (rest : List Arrival) → slot < count → StandsBefore slot last → is_lost slot ≡ true
        → ((next : Option ℕ) → StandsBefore (slot + 1) next → GoesOn (slot + 1) (slot + 1) (SentBefore (slot + 1)) next rest)
        → GoesOn slot slot (SentBefore slot) last (parity_at slot ++ rest)
    lost_more slot None rest below stands here goes =
        let first : is_lost 0 ≡ true = subst (λ (s : ℕ). is_lost s ≡ true) stands here in
        absurd (false≢true (sym first_kept ∙ first))
    lost_more slot (Some before) rest below stands here goes =
        let low = stands.0 in
        let between : (other : ℕ) → before < other → other < slot + 1 → is_lost other ≡ true = λ other past within. ⊎_elim
        (λ (early : other < slot). stands.2 other past early)
        (λ (late : slot ≤ other).
        let same : slot ≡ other = omega (arith, late, within) in subst (λ (s : ℕ). is_lost s ≡ true) same here)
        (cases_lt other slot) in
        weaker slot (slot + 1) slot (slot + 1) (SentBefore slot) (SentBefore slot) (Some before) (parity_at slot ++ rest) (omega arith)
        (λ other past within. between other (omega (arith, past, low)) within) (λ base is. is)
        (parity_more before slot rest
        (record {
          low = omega (arith, low);
          kept_there = stands.1;
          between = λ other past within. between other past (omega (arith, within));
          below = below;
        })
        (goes (Some before) (omega (arith, low), stands.1, between)))

    kept_more :
        (slot : ℕ) (last : Option ℕ) (rest : List Arrival) → slot < count → StandsBefore slot last → is_lost slot ≡ false
        → ((next : Option ℕ) → StandsBefore (slot + 1) next → GoesOn (slot + 1) (slot + 1) (SentBefore (slot + 1)) next rest)
        → GoesOn slot slot (SentBefore slot) last ((media_at slot ∷ parity_at slot) ++ rest)
    kept_more slot last rest below stands here goes =
        let turn = turn_of last stands in
        one_more (media_at slot) slot last (parity_at slot ++ rest) slot slot (slot + 1) slot (SentBefore slot) (SentBefore slot)
        (refl, refl, word_is slot below) turn
        (λ plays reply old new holds is backed takes.
        media_then last slot (times slot) (words slot) plays reply old new holds is turn below backed takes)
        (weaker (slot + 1) (slot + 1) slot (slot + 1) (SentBefore slot) (SentBefore slot) (Some slot) (parity_at slot ++ rest)
        (omega arith) (λ other low high. absurd (omega (arith, low, high))) (λ base is. is)
        (parity_more slot slot rest
        (record {
          low = omega arith;
          kept_there = here;
          between = λ other past within. absurd (omega (arith, past, within));
          below = below;
        })
        (goes (Some slot) (omega arith, here, λ other past within. absurd (omega (arith, past, within))))))
      where
        turn_of : (last : Option ℕ) → StandsBefore slot last → ComesInTurn last slot (media_at slot)
        turn_of None stands = stands
        turn_of (Some before) stands =
            let low = stands.0 in
            let far = gap_is_short layout count lost covered before (slot - 1) (omega (arith, below))
            (λ other past within. stands.2 other past (omega (arith, within, low))) in
            let few = layout.accepted.columns.1 in
            (omega (arith, low), omega (arith, far, few))

    slot_more :
        (slot : ℕ) (last : Option ℕ) (rest : List Arrival) (b : Bool) → slot < count → StandsBefore slot last → is_lost slot ≡ b
        → ((next : Option ℕ) → StandsBefore (slot + 1) next → GoesOn (slot + 1) (slot + 1) (SentBefore (slot + 1)) next rest)
        → GoesOn slot slot (SentBefore slot) last (cond b (parity_at slot) (media_at slot ∷ parity_at slot) ++ rest)
    slot_more slot last rest true below stands is goes = lost_more slot last rest below stands is goes
    slot_more slot last rest false below stands is goes = kept_more slot last rest below stands is goes

    onward :
        (n slot : ℕ) (last : Option ℕ) → slot + n ≡ count → StandsBefore slot last
        → GoesOn slot slot (SentBefore slot) last (flat_map left_at (range_with_len slot n))
    onward zero slot last whole stands =
        let same : count ≡ slot = omega (arith, whole) in
        weaker slot count slot count (SentBefore slot) (SentBefore count) last [] (omega (arith, same))
        (λ other low high. absurd (omega (arith, low, high, same)))
        (λ base is. subst (λ (s : ℕ). SentBefore s base) same is) (nothing_more last)
    onward (suc n) slot last whole stands =
        slot_more slot last (flat_map left_at (range_with_len (slot + 1) n)) (is_lost slot) (omega (arith, whole)) stands refl
        (λ next stands'. onward n (slot + 1) next (omega (arith, whole)) stands')

    -- Once all has come each slot that isn't played is in the closure.
    closed_at_end :
        (desk : State) (s : ℕ) → Backed count count (SentBefore count) desk → desk.mark ≤ s → s < count → InClosure desk s
    closed_at_end desk s backed ahead here =
        in_closure layout count lost covered playout count count (SentBefore count) desk s backed (omega arith) ahead here
        (λ lost_here.
        let column = covered.ended s here lost_here in
        (column.0, column.1, column.2, (column.0, column.2.0, column.3), column.3))

    -- The flush closes the rest.
    flush_whole :
        (old : State) (plays : List Play) (new : State) (flush : IsFlush old plays new) → Holds old → IsTrueWindow truth old
        → Backed count count (SentBefore count) old
        → Backed count count (SentBefore count) new × ArePeeled count (flushed_on old plays new flush) old.mark new.mark
    flush_whole old [] new flush holds is backed =
        subst (λ (s : State). Backed count count (SentBefore count) s × ArePeeled count [] old.mark s.mark) (sym flush.1)
        (backed, none_peeled count [] old.mark old.mark refl)
    flush_whole old (play ∷ plays) new flush holds is backed =
        let next : State = flush.0 in
        let size : ℕ = min old.playout.window (flush.1.highest + 1 - old.mark) in
        let inside : (s : ℕ) → old.mark ≤ s → s < old.mark + size → s < count → InClosure old s = λ s ahead below here.
        closed_at_end old s backed ahead here in
        let true_play = play_is_true stand peelings solvable found truth sent.media size old play next holds is flush.1.plays in
        let rest = flush_whole next plays new flush.2 (keeps.flush old next (Some play) holds flush.1)
        (true_after_play stand peelings solvable found truth sent.media size old play next holds is flush.1.plays)
        (play_leaves_backed layout count lost covered stand playout count count (SentBefore count) size old play next flush.1.plays
        true_play.repaired backed inside) in (
          rest.0,
          both_peeled count (record { desk = old; play = play } ∷ []) (flushed_on next plays new flush.2) old.mark next.mark new.mark
              (one_peeled count size old play next flush.1.plays inside) rest.1,
        )

    opening_backed : Backed 0 0 (SentBefore 0) (opening playout)
    opening_backed = record {
      playout_is = refl;
      received = λ slot ahead below kept_there. absurd (omega (arith, below));
      kept = λ slot below near inside. absurd (omega (arith, below));
      columns = λ base slot is in_column lost_there ahead inside. (let none = is.2 in absurd (omega (arith, none)));
      lines = λ equation listed.
          (let r = (stand (opening playout) equation).0 listed in absurd (nothing_in_empty r.0 r.1 r.2));
    }

    pub all_peel :
        arrivals ≡ flat_map left_at (range_with_len 0 count) → (plays : List Play) (replies : List (Option Reply))
        → IsRun playout arrivals plays replies → ArrivalsPeel playout arrivals count
    all_peel same plays replies run =
        let few = sent.few in
        let goes : GoesOn 0 0 (SentBefore 0) None arrivals =
        subst (λ (list : List Arrival). GoesOn 0 0 (SentBefore 0) None list) (sym same) (onward count 0 None (omega arith) refl) in
        let taken = goes [] [] run.taken [] replies (opening playout) run.filled (All-nil IsRead) (omega (arith, few)) (refl, refl, refl)
        (opening_is_true playout seq ssrc truth stand) opening_backed run.takes in
        let flushed = flush_whole run.filled run.flushed run.empty run.flush taken.holds taken.window taken.backed in
        let all = both_peeled count (all_taken_on (opening playout) arrivals run.taken replies run.filled run.takes)
        (flushed_on run.filled run.flushed run.empty run.flush) 0 run.filled.mark run.empty.mark taken.peeled flushed.1 in
        record {
          plays = plays;
          replies = replies;
          run = run;
          peels = λ slot below. ⊎_elim
              (λ (played : slot < run.empty.mark). all slot below (omega arith) played)
              (λ (ahead : run.empty.mark ≤ slot).
              absurd (flush_ends run.filled run.flushed run.empty run.flush (
                slot,
                closed_at_end run.empty slot flushed.0 ahead below,
                ahead,
              )))
              (cases_lt slot run.empty.mark);
        }

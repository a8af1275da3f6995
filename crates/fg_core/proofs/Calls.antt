-- What each call of the admitter makes of a board that its calls made.
use Rattle.std.proofs.Common.{◌≡◌, ◌+◌, ◌≤◌, ◌++◌, ℕ, true, List, [], ◌∷◌, length, length-append, Some, None, refl, sym, subst, ◌∙◌, arith}
use Rattle.std.proofs.lemmas.List.Elements.{All-push, All-weaker}
use Rattle.std.proofs.lemmas.Option.{same_Some}
use Rattle.std.specs.FinMap.{get}
use Rattle.std.specs.FinSet.{contains}
use Rattle.fg_peel.specs.Equation.{IsSettled}
use Rattle.fg_peel.proofs.Options.{value_of, none_has_no_value}
use Rattle.fg_playout.specs.State.{State, Live}
use Rattle.fg_playout.specs.Facts.{Holds}
use Rattle.fg_playout.proofs.Held.{at_time_holds}
use Rattle.fg_desk.specs.Contents.{AreSolved, known_in}
use Rattle.fg_core.specs.Board.{BoardState, IsLive, KeepsNotes}
use Rattle.fg_core.specs.Views.{Told, saw, word_at, equation_is, IsBorneOut}
use Rattle.fg_core.specs.Core.{Call, media, parity, play, flush, held, skip, play_of, IsCallOn, CanCallOn, AreCallsOn, KeyIsOf, CanCall, IsCall}
use Rattle.fg_core.specs.Below.{CallLaws}
use Rattle.fg_core.specs.Laws.{CallsExtend, CallsKeepTold}
use Rattle.fg_core.proofs.Known.{slot_is_kept, stays_settled}
use Rattle.fg_core.proofs.Next.{IsNext, AreBareKept, is_next_counted, is_next_told, desk_told, told_solved, told_changes, next_of_told}
use Rattle.fg_core.proofs.Played.{play_is_next}
use Rattle.fg_core.proofs.Protected.{parity_is_next}
use Rattle.fg_core.proofs.Received.{media_is_next}
use Rattle.fg_core.proofs.Passing.{passes_hold, skip_is_next}

-- One call more on a desk of its own.
calls_and_one :
    (first between last : State) (calls : List Call) (call : Call) → AreCallsOn first calls between
    → CanCallOn between call × IsCallOn between call last → AreCallsOn first (calls ++ call ∷ []) last
calls_and_one first between last [] call made one = (last, subst (λ (s : State). CanCallOn s call × IsCallOn s call last) made one, refl)
calls_and_one first between last (call' ∷ calls) call made one =
    (made.0, made.1, calls_and_one made.0 between last calls call made.2 one)

-- What a call does to a board is what it does to a desk of its own.
call_on : (old new : BoardState) (call : Call) → IsCall old call new → IsCallOn old.desk.state call new.desk.state
call_on old new (media seq ssrc word reply) is = is.state
call_on old new (parity datagram reply key) is = (is.state, is.key_is)
call_on old new (play played) is = (is.0, is.1.state, is.2)
call_on old new (flush None) is = is.0
call_on old new (flush (Some played)) is = (is.0, is.1.0, is.2)
call_on old new (held time None) is = is.0
call_on old new (held time (Some played)) is = (is.0, is.1.0, is.2)
call_on old new (skip time count) is = is.state

-- Its notes stay as each call says.
notes_kept : (old new : BoardState) (call : Call) → IsCall old call new → KeepsNotes old new
notes_kept old new (media seq ssrc word reply) is = is.notes
notes_kept old new (parity datagram reply key) is = is.notes
notes_kept old new (play played) is = is.1.notes
notes_kept old new (flush None) is = is.2
notes_kept old new (flush (Some played)) is = is.1.2
notes_kept old new (held time None) is = is.2
notes_kept old new (held time (Some played)) is = is.1.2
notes_kept old new (skip time count) is = is.notes

-- The key that it gives is of the board's epoch.
key_is_of : (old new : BoardState) (call : Call) → IsCall old call new → KeyIsOf new.desk.epoch call
key_is_of old new (media seq ssrc word reply) is = tt
key_is_of old new (parity datagram reply None) is = tt
key_is_of old new (parity datagram reply (Some key)) is = let e = is.key_epoch in omega (arith, e)
key_is_of old new (play played) is = tt
key_is_of old new (flush played) is = tt
key_is_of old new (held time played) is = tt
key_is_of old new (skip time count) is = tt

later_epoch : (epoch later : ℕ) → epoch ≤ later → (call : Call) → KeyIsOf epoch call → KeyIsOf later call
later_epoch epoch later rises (media seq ssrc word reply) is = tt
later_epoch epoch later rises (parity datagram reply None) is = tt
later_epoch epoch later rises (parity datagram reply (Some key)) is = omega (arith, rises, is)
later_epoch epoch later rises (play played) is = tt
later_epoch epoch later rises (flush played) is = tt
later_epoch epoch later rises (held time played) is = tt
later_epoch epoch later rises (skip time count) is = tt

-- The facts hold after it.
facts_hold :
    CallLaws → (old new : BoardState) (call : Call) → Holds old.desk.state → CanCall old call → IsCall old call new
    → Holds new.desk.state
facts_hold laws old new (media seq ssrc word reply) holds can is =
    laws.facts.media old.desk.state new.desk.state seq ssrc word reply holds can.3 can.1 is.state
facts_hold laws old new (parity datagram reply key) holds can is =
    laws.facts.parity old.desk.state new.desk.state datagram reply holds can.0 can.1 is.state
facts_hold laws old new (play played) holds can is =
    laws.facts.play old.desk.state.playout.window old.desk.state new.desk.state (play_of played is.0) holds
    (λ none. none_has_no_value old.desk.state.top none can.1) is.1.state
facts_hold laws old new (flush None) holds can is = laws.facts.flush old.desk.state new.desk.state None holds is.0
facts_hold laws old new (flush (Some played)) holds can is =
    laws.facts.flush old.desk.state new.desk.state (Some (play_of played is.0)) holds is.1.0
facts_hold laws old new (held time None) holds can is = laws.facts.held old.desk.state new.desk.state time None holds is.0
facts_hold laws old new (held time (Some played)) holds can is =
    laws.facts.held old.desk.state new.desk.state time (Some (play_of played is.0)) holds is.1.0
facts_hold laws old new (skip time count) holds can is =
    passes_hold laws.facts.play time count old.desk.state new.desk.state holds can is.state

-- What it keeps of the board's desk.
desk_is_next :
    CallLaws → (old new : BoardState) (call : Call) → Holds old.desk.state → AreSolved old.desk → AreBareKept old.desk
    → CanCall old call → IsCall old call new → IsNext old.desk new.desk
desk_is_next laws old new (media seq ssrc word reply) holds solved bare can is =
    media_is_next laws old.desk new.desk seq ssrc word holds can.2 solved bare reply is.state is.solved
desk_is_next laws old new (parity datagram reply key) holds solved bare can is =
    parity_is_next laws.parity_adds laws.take_equations old.desk new.desk datagram holds solved bare is.solved reply is.state
desk_is_next laws old new (play played) holds solved bare can is =
    play_is_next laws.plays old.desk.state.playout.window old.desk new.desk (play_of played is.0) holds solved is.1.state is.1.changes
desk_is_next laws old new (flush None) holds solved bare can is = is_next_counted old.desk new.desk solved bare is.1 is.0.1
desk_is_next laws old new (flush (Some played)) holds solved bare can is =
    play_is_next laws.plays _ old.desk new.desk (play_of played is.0) holds solved is.1.0.plays is.1.1
desk_is_next laws old new (held time None) holds solved bare can is =
    is_next_told old.desk new.desk time solved bare is.1 is.0.1
desk_is_next laws old new (held time (Some played)) holds solved bare can is =
    next_of_told old.desk new.desk time
    (play_is_next laws.plays _ (desk_told old.desk time) new.desk (play_of played is.0) (at_time_holds old.desk.state time holds)
    (told_solved old.desk new.desk time solved) is.1.0.plays (told_changes old.desk new.desk time played.verdict is.1.1))
desk_is_next laws old new (skip time count) holds solved bare can is =
    skip_is_next time old.desk new.desk bare count solved is.state is.none is.changes

module _
    (old new : BoardState) (holds : Holds old.desk.state) (holds' : Holds new.desk.state) (next : IsNext old.desk new.desk) where
  -- An equation that is live after a call, and was before, is the same one.
  same_live :
      (serial : ℕ) (live live' : Live) → IsLive old serial live → IsLive new serial live' → live ≡ live'
  same_live serial live live' is is' =
      same_Some live live' (sym is ∙ next.lives serial live' (holds.live serial live is).numbered is')

  -- One that was settled is so after it, in the same epoch.
  settled_after :
      (serial : ℕ) (live : Live) → IsLive new serial live → new.desk.epoch ≡ old.desk.epoch
      → IsSettled (known_in old.desk) live.equation → IsSettled (known_in new.desk) live.equation
  settled_after serial live is same = stays_settled (known_in old.desk) (known_in new.desk) live.equation
      (λ slot word c known. next.words same slot word (slot_is_kept new.desk.state holds' serial live is slot c) known)

  -- What was told holds after it.
  told_after : (told : Told) → IsBorneOut old told → IsBorneOut new told
  told_after (saw mark epoch admitted) is =
      let m = next.mark in
      let e = next.epoch in
      let a = next.admitted in
      let m' = is.0 in
      let e' = is.1 in
      let a' = is.2 in
      (omega (arith, m, m'), omega (arith, e, e'), omega (arith, a, a'))
  told_after (word_at epoch slot word) is =
      let m = next.mark in
      let e = next.epoch in
      let e' = is.0 in (
        omega (arith, e, e'),
        λ same near. next.words (omega (arith, same, e, e')) slot word near (is.1 (omega (arith, same, e, e')) (omega (arith, m, near))),
      )
  told_after (equation_is serial equation) is =
      let a = next.admitted in
      let n = is.0 in
      (omega (arith, a, n), λ live live_is. is.1 live (next.lives serial live n live_is))

  -- Each vouched equation is one of before.
  vouched_after :
      KeepsNotes old new
      → ((serial : ℕ) → contains old.vouched serial ≡ true
      → (live : Live) × IsLive old serial live × IsSettled (known_in old.desk) live.equation)
      → (serial : ℕ) → contains new.vouched serial ≡ true
      → (live : Live) × IsLive new serial live × IsSettled (known_in new.desk) live.equation
  vouched_after notes vouched serial is =
      let kept = (notes.vouched serial).0 is in
      let was = vouched serial kept.0 in
      let now = value_of (get new.desk.state.equations serial) kept.2 in
      let settled = subst (λ (l : Live). IsSettled (known_in old.desk) l.equation) (same_live serial was.0 now.0 was.1 now.1) was.2 in
      (now.0, now.1, settled_after serial now.0 now.1 kept.1 settled)

pub calls_extend : CallLaws → CallsExtend
calls_extend laws playout calls call old new owned can is =
    let holds = facts_hold laws old new call owned.facts can is in
    let next = desk_is_next laws old new call owned.facts owned.solved owned.bare can is in
    let notes = notes_kept old new call is in
    let one_more = next.one_more in
    let few = owned.epoch in
    let longer : length (calls ++ call ∷ []) ≡ length calls + 1 = length-append calls (call ∷ []) in
    record {
      desk = calls_and_one _ old.desk.state new.desk.state calls call owned.desk (can, call_on old new call is);
      facts = holds;
      solved = next.solved;
      vouched = vouched_after old new owned.facts holds next notes owned.vouched;
      handed_out = λ serial is. ((notes.handed_out serial).0 is).2;
      bare = next.bare;
      keys = All-push (KeyIsOf new.desk.epoch) calls call
          (All-weaker (KeyIsOf old.desk.epoch) (KeyIsOf new.desk.epoch) (later_epoch old.desk.epoch new.desk.epoch next.epoch) calls owned.keys)
          (key_is_of old new call is);
      epoch = omega (arith, one_more, few, longer);
    }

pub calls_keep_told : CallLaws → CallsKeepTold
calls_keep_told laws playout calls call old new told owned can is =
    All-weaker (IsBorneOut old) (IsBorneOut new)
    (told_after old new owned.facts (facts_hold laws old new call owned.facts can is)
    (desk_is_next laws old new call owned.facts owned.solved owned.bare can is)) told
